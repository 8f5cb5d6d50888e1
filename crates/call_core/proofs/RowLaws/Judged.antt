-- Which ends license a retry, through the end of a row that counts.
use Rattle.std.proofs.Common.{◌≡◌, ◌≤◌, ◌<◌, ℕ, ◌+◌, ◌-◌, Bool, true, false, not, ◌&&◌, if◌then◌else◌, length, Option, Some, None, is_some, List, refl, sym, ap, subst, ◌∙◌, ◌⊎◌, inl, inr, arith}
use Rattle.std.specs.Option.{is_none, option_map_or}
use Rattle.grpc_base.specs.declared.event.EndCause.TheVariants as ends
use Rattle.grpc_base.specs.declared.plan.CallPlan.{CallPlan}
use Rattle.grpc_base.specs.declared.plan.CallPlan.TheVariants as plans
use Rattle.grpc_base.specs.declared.plan.Chosen.{Chosen}
use Rattle.grpc_base.specs.declared.plan.Pushback.{Pushback}
use Rattle.grpc_base.specs.declared.plan.Pushback.TheVariants as pushback
use Rattle.grpc_base.specs.declared.plan.RetryPolicy.{RetryPolicy}
use Rattle.attempt_ledger.specs.Ends as ledger_ends
use Rattle.attempt_ledger.specs.Ends.{delay_of, is_cut, is_stop}
use Rattle.attempt_ledger.specs.Retries.{has_retries, is_retry}
use Rattle.attempt_ledger.specs.Retries as ledger_retries
use Rattle.attempt_ledger.specs.declared.news.EndNews.{EndNews}
use Rattle.attempt_ledger.specs.declared.row.Row.{Row}
use Rattle.attempt_ledger.specs.declared.row.RowEnd.{RowEnd}
use Rattle.attempt_ledger.specs.declared.row.RowKind.TheVariants as kind
use Rattle.ledger_stamps.specs.Steps.{changed_at, ended_row, stamped}
use Rattle.a6_numbers.specs.Throttling.{Bucket}
use Rattle.retry_core.specs.Retries.{drawn_wait, is_licensed, retry_due}
use Rattle.call_core.specs.declared.judge.Judged.{Judged}
use Rattle.call_core.specs.declared.live.LiveRow.{LiveRow}
use Rattle.call_core.specs.Commitments.{IsRowOf}
use Rattle.call_core.specs.Laws.{licensed_retry}
use Rattle.call_core.specs.Parts.{count_of, delayed_after, find_live, has_none, is_above, judged, names, plan_of, row_end}
use Rattle.call_core.specs.Reasons.{IsKeptRow}
use Rattle.call_core.specs.RowFollowers.{IsEndedIn}
use Rattle.call_core.specs.RowLaws.{FitsTokens, IsFollowedAt}
use Rattle.call_core.specs.RowLicenses.{RowsAreLicensed, LicensesWait, IsAsked, IsLastAsked, IsLicense, IsSound, due_after, may_retry}
use Rattle.call_core.specs.Rows.{IsStanding, row_in}
use Rattle.call_core.specs.Steps as step
use Rattle.call_core.specs.Steps.{Stepped, call_plan, cut_all, is_committed_live, judged_of, left_live, new_call, new_row, next_due, settled, stamp_if, with_chosen, with_judged, with_message}
use Rattle.call_core.proofs.Alike.{all_changed_at}
use Rattle.call_core.proofs.KeptReasons.{kept_write}
use Rattle.call_core.proofs.Licensing.{retry_license}
use Rattle.call_core.proofs.RowLaws.Followers.{AreSameRows, follow_back, same_rows}
use Rattle.call_core.proofs.RowLaws.Following.{live_unfollowed, none_stamped}
use Rattle.call_core.proofs.RowLaws.Licenses.{asked_one, asked_to, quiet_step, reported_ends, reported_quiet, within_like}
use Rattle.call_core.proofs.RowLaws.Tokens.{own_fits, own_settled}
use Rattle.call_core.proofs.Standing.{found_stands, row_changed_same}
use Rattle.call_core.proofs.RowLaws.Licensing.{AreWithin, delayed_below, known_plan, licensed_by_row, licensed_committed, licenses_closed, licenses_followed, live_number, may_same, never_may, reported_row, waiting_followed}

-- what it means for the retry that is due
pub word_is : (b n : Bool) (word : ℕ) → b ≡ true → is_some (if b && n then Some word else None) ≡ n
word_is true true word e = refl
word_is true false word e = refl
word_is false n word e = absurd (cc)

pub due_in : (b : Bool) (x due : ℕ) → (if b then Some x else None) ≡ Some due → (b ≡ true) × (due ≡ x)
due_in true x due e = (refl, (cc))
due_in false x due e = absurd (cc)

-- the due moment in the two laws
pub due_same : (policy : RetryPolicy) (number delayed : ℕ) (p : Pushback) (end : RowEnd) (word : ℕ) (licensed : Bool) → licensed ≡ true → end.pushback ≡ p → ledger_retries.retry_due policy (number - delayed_after p number delayed) (record end { word = (if licensed && is_none (delay_of p) then Some word else None) }) ≡ Some (retry_due policy (number - delayed) end word)
due_same policy number delayed pushback.None end word true e same =
    ap (λ (p : Pushback). option_map_or (λ millis. Some (ledger_ends.millis_after end millis)) (delay_of p) (Some (end.moment + drawn_wait policy (number - delayed) word))) same
    ∙ sym (ap (λ (p : Pushback). Some (option_map_or (ledger_ends.millis_after end) (delay_of p) (end.moment + drawn_wait policy (number - delayed) word))) same)
due_same policy number delayed pushback.Stop end word true e same =
    ap (λ (p : Pushback). option_map_or (λ millis. Some (ledger_ends.millis_after end millis)) (delay_of p) (Some (end.moment + drawn_wait policy (number - delayed) word))) same
    ∙ sym (ap (λ (p : Pushback). Some (option_map_or (ledger_ends.millis_after end) (delay_of p) (end.moment + drawn_wait policy (number - delayed) word))) same)
due_same policy number delayed (pushback.After millis) end word true e same =
    ap (λ (p : Pushback). option_map_or (λ m. Some (ledger_ends.millis_after end m)) (delay_of p) None) same
    ∙ sym (ap (λ (p : Pushback). Some (option_map_or (ledger_ends.millis_after end) (delay_of p) (end.moment + drawn_wait policy (number - delayed) word))) same)
due_same policy number delayed p end word false e same = absurd (cc)

-- the last delay that the server asked for
pub last_reported : (owner : ℕ) (rows after : List Row) (sent delayed : ℕ) (p : Pushback) (place : ℕ) (end : RowEnd) → end.pushback ≡ p → ((k : ℕ) → IsAsked owner after k → IsAsked owner rows k ⊎ ((k ≡ sent) × (is_some (delay_of end.pushback) ≡ true))) → ((k : ℕ) → IsAsked owner rows k → IsAsked owner after k) → (is_some (delay_of end.pushback) ≡ true → IsAsked owner after sent) → IsLastAsked owner rows (sent + 1) delayed → IsLastAsked owner after (sent + 1) (delayed_after p sent delayed)
last_reported owner rows after sent delayed (pushback.After millis) place end same back to own old = record {
  most = λ k h less. omega (arith, less);
  there = inr ((omega arith), own (ap (λ (q : Pushback). is_some (delay_of q)) same));
}
last_reported owner rows after sent delayed pushback.None place end same back to own old = record {
  most = λ k h less. most_case k less (back k h);
  there = there_case old.there;
}
  where
    most_case : (k : ℕ) → k < sent + 1 → IsAsked owner rows k ⊎ ((k ≡ sent) × (is_some (delay_of end.pushback) ≡ true)) → k ≤ delayed
    most_case k less (inl h) = old.most k h less
    most_case k less (inr both) = absurd (let no : false ≡ true = sym (ap (λ (q : Pushback). is_some (delay_of q)) same) ∙ both.1 in cc)

    there_case : (delayed ≡ 0) ⊎ ((delayed < sent + 1) × IsAsked owner rows delayed) → (delayed ≡ 0) ⊎ ((delayed < sent + 1) × IsAsked owner after delayed)
    there_case (inl e) = inl e
    there_case (inr both) = inr (both.0, to delayed both.1)
last_reported owner rows after sent delayed pushback.Stop place end same back to own old = record {
  most = λ k h less. most_case k less (back k h);
  there = there_case old.there;
}
  where
    most_case : (k : ℕ) → k < sent + 1 → IsAsked owner rows k ⊎ ((k ≡ sent) × (is_some (delay_of end.pushback) ≡ true)) → k ≤ delayed
    most_case k less (inl h) = old.most k h less
    most_case k less (inr both) = absurd (let no : false ≡ true = sym (ap (λ (q : Pushback). is_some (delay_of q)) same) ∙ both.1 in cc)

    there_case : (delayed ≡ 0) ⊎ ((delayed < sent + 1) × IsAsked owner rows delayed) → (delayed ≡ 0) ⊎ ((delayed < sent + 1) × IsAsked owner after delayed)
    there_case (inl e) = inl e
    there_case (inr both) = inr (both.0, to delayed both.1)

-- the call after such an end, with the judgement as the policy's law has it
pub record IsLicensedEnd (chosen : Chosen) (policy : RetryPolicy) (place : ℕ) (row : LiveRow) (reported : EndNews) (end : RowEnd) (o : Option Bucket) (word : ℕ) (s : Stepped) : Type 0 where
  pub known : s.call.chosen ≡ Some chosen
  pub plan : chosen.plan ≡ plans.Retry policy
  pub free : s.call.attempts.committed ≡ None
  pub found : find_live place s.call.live ≡ Some row
  pub sound : IsSound s
  pub uncut : is_cut end.cause ≡ false
  pub fits : FitsTokens chosen.throttle o
  pub tokens : end.tokens ≡ count_of o
  pub licensed : is_licensed policy row.number end (is_above o) ≡ true
  pub waiting : LicensesWait chosen s.call.number s.ledger.rows s.call.attempts.sent s.call.attempts.forced s.call.attempts.delayed

abbrev pub law_word : RetryPolicy → ℕ → RowEnd → Option Bucket → ℕ → Option ℕ
law_word policy number end o word = if is_licensed policy number end (is_above o) && is_none (delay_of end.pushback) then Some word else None

abbrev pub law_end : RetryPolicy → ℕ → RowEnd → Option Bucket → ℕ → RowEnd
law_end policy number end o word = record end { word = law_word policy number end o word }

pub license_of : (chosen : Chosen) (policy : RetryPolicy) (place : ℕ) (row : LiveRow) (reported : EndNews) (end : RowEnd) (o : Option Bucket) (word : ℕ) (s : Stepped) → IsLicensedEnd chosen policy place row reported end o word s → (r : Row) → IsRowOf s.call.number (changed_at (ended_row (law_end policy row.number end o word)) s.ledger.rows row.place) row.place r → IsLicense chosen s.call.number (changed_at (ended_row (law_end policy row.number end o word)) s.ledger.rows row.place) row.place r (law_end policy row.number end o word)
license_of chosen policy place row reported end o word s h r is_r =
    let owner : ℕ = s.call.number in
    let rows : List Row = s.ledger.rows in
    let last : RowEnd = law_end policy row.number end o word in
    let after : List Row = changed_at (ended_row last) rows row.place in
    let one : IsStanding owner rows row = found_stands owner rows place s.call.live row h.sound.apart.tied h.found in
    let is : IsRowOf owner rows row.place one.row = record { there = one.there; call = one.call } in
    let own : r ≡ ended_row last one.row = reported_row rows row.place one.row r last one.there is_r.there in
    let number : r.number ≡ row.number = ap (λ (q : Row). q.number) own ∙ one.number in
    let like : AreSameRows owner rows after = same_rows owner rows after (all_changed_at IsKeptRow kept_write (ended_row last) (λ q. kept_write.ended last q) rows row.place) in
    record {
      counted = record {
        cause = h.uncut;
        unfollowed = λ f. live_unfollowed place row s h.found h.sound.apart h.sound.chained one.row is
            (subst (λ (k : ℕ). IsFollowedAt owner rows row.place k) (number ∙ sym one.number) (follow_back owner rows after row.place r.number like f));
      };
      may =
          ap (λ (p : CallPlan). may_retry p chosen.throttle r.number last) h.plan
          ∙ ap (λ (k : ℕ). may_retry (plans.Retry policy) chosen.throttle k last) number
          ∙ sym (may_same policy chosen.throttle o row.number end h.fits h.tokens) ∙ h.licensed;
      free = ap (λ (q : Row). q.committed) own ∙ none_stamped s h.sound.once h.free row.place one.row is;
      word = word_is (is_licensed policy row.number end (is_above o)) (is_none (delay_of end.pushback)) word h.licensed;
    }

pub asked_reported : (owner : ℕ) (rows : List Row) (place : ℕ) (row : Row) (reported : RowEnd) (sent k : ℕ) → IsRowOf owner rows place row → row.number ≡ sent → IsAsked owner (changed_at (ended_row reported) rows place) k → IsAsked owner rows k ⊎ ((k ≡ sent) × (is_some (delay_of reported.pushback) ≡ true))
asked_reported owner rows place row reported sent k is number h = reported_case (reported_ends owner rows place reported h.place h.has.row h.has.is h.end h.has.ended)
  where
    reported_case : IsEndedIn owner rows h.place h.end ⊎ ((h.place ≡ place) × (h.end ≡ reported)) → IsAsked owner rows k ⊎ ((k ≡ sent) × (is_some (delay_of reported.pushback) ≡ true))
    reported_case (inl has) =
        let after : List Row = changed_at (ended_row reported) rows place in
        let like : AreSameRows owner rows after = same_rows owner rows after (all_changed_at IsKeptRow kept_write (ended_row reported) (λ q. kept_write.ended reported q) rows place) in
        inl (asked_one owner rows after k like h has)
    reported_case (inr both) =
        let own : h.has.row ≡ ended_row reported row = reported_row rows place row h.has.row reported is.there (ap (λ (q : ℕ). row_in (changed_at (ended_row reported) rows place) q) (sym both.0) ∙ h.has.is.there) in
        inr (sym h.same ∙ ap (λ (q : Row). q.number) own ∙ number, ap (λ (e : RowEnd). is_some (delay_of e.pushback)) (sym both.1) ∙ h.delay)

pub waiting_license : (chosen : Chosen) (policy : RetryPolicy) (place : ℕ) (row : LiveRow) (reported : EndNews) (end : RowEnd) (o : Option Bucket) (word : ℕ) (s : Stepped) → IsLicensedEnd chosen policy place row reported end o word s → LicensesWait chosen s.call.number (changed_at (ended_row (law_end policy row.number end o word)) s.ledger.rows row.place) s.call.attempts.sent (if is_licensed policy row.number end (is_above o) then Some (retry_due policy (row.number - s.call.attempts.delayed) end word) else None) (delayed_after end.pushback row.number s.call.attempts.delayed)
waiting_license chosen policy place row reported end o word s h =
    let owner : ℕ = s.call.number in
    let rows : List Row = s.ledger.rows in
    let sent : ℕ = s.call.attempts.sent in
    let delayed : ℕ = s.call.attempts.delayed in
    let last : RowEnd = law_end policy row.number end o word in
    let after : List Row = changed_at (ended_row last) rows row.place in
    let one : IsStanding owner rows row = found_stands owner rows place s.call.live row h.sound.apart.tied h.found in
    let is : IsRowOf owner rows row.place one.row = record { there = one.there; call = one.call } in
    let same : row.number ≡ sent = live_number place row s chosen h.known (ap has_retries h.plan) h.found h.sound in
    let now : row_in after row.place ≡ Some (ended_row last one.row) = row_changed_same (ended_row last) rows row.place one.row one.there in
    let is_now : IsRowOf owner after row.place (ended_row last one.row) = record { there = now; call = one.call } in
    let license : IsLicense chosen owner after row.place (ended_row last one.row) last = license_of chosen policy place row reported end o word s h (ended_row last one.row) is_now in
    let has : IsEndedIn owner after row.place last = record { row = ended_row last one.row; is = is_now; ended = ap (λ (x : Option RowEnd). stamped last x) one.ended } in
    let like : AreSameRows owner rows after = same_rows owner rows after (all_changed_at IsKeptRow kept_write (ended_row last) (λ q. kept_write.ended last q) rows row.place) in
    let own : is_some (delay_of end.pushback) ≡ true → IsAsked owner after sent =
    λ d. record { place = row.place; end = last; has = has; counted = license.counted; delay = d; same = one.number ∙ same } in
    let asked : IsLastAsked owner after (sent + 1) (delayed_after end.pushback sent delayed) =
    last_reported owner rows after sent delayed end.pushback row.place last refl (λ k x. asked_reported owner rows row.place one.row last sent k is (one.number ∙ same) x)
    (λ k x. asked_to owner rows after k like x) own h.waiting.asked in
    record {
      pending = λ due e.
          let both : (is_licensed policy row.number end (is_above o) ≡ true) × (due ≡ retry_due policy (row.number - delayed) end word) =
          due_in (is_licensed policy row.number end (is_above o)) (retry_due policy (row.number - delayed) end word) due e in
          inr (record {
            place = row.place;
            end = last;
            has = has;
            before = ap (λ (k : ℕ). k + 1) (one.number ∙ same);
            license = license;
            since = delayed_after end.pushback sent delayed;
            last = asked;
            due_is =
                ap (λ (p : CallPlan). due_after p (one.row.number - delayed_after end.pushback sent delayed) last) h.plan
                ∙ ap (λ (k : ℕ). ledger_retries.retry_due policy (k - delayed_after end.pushback sent delayed) last) one.number
                ∙ ap (λ (k : ℕ). ledger_retries.retry_due policy (row.number - delayed_after end.pushback k delayed) last) (sym same)
                ∙ due_same policy row.number delayed end.pushback end word (is_licensed policy row.number end (is_above o)) both.0 refl
                ∙ ap (λ (k : ℕ). Some k) (sym both.1);
          });
      asked = subst (λ (k : ℕ). IsLastAsked owner after (sent + 1) (delayed_after end.pushback k delayed)) (sym same) asked;
    }

pub newest_number : (chosen : Chosen) (place : ℕ) (row : LiveRow) (s : Stepped) → s.call.chosen ≡ Some chosen → find_live place s.call.live ≡ Some row → IsSound s → (last : RowEnd) (r : Row) → has_retries chosen.plan ≡ true → IsRowOf s.call.number (changed_at (ended_row last) s.ledger.rows row.place) row.place r → s.call.attempts.sent ≤ r.number
newest_number chosen place row s known f sound last r has is_r =
    let one : IsStanding s.call.number s.ledger.rows row = found_stands s.call.number s.ledger.rows place s.call.live row sound.apart.tied f in
    let own : r ≡ ended_row last one.row = reported_row s.ledger.rows row.place one.row r last one.there is_r.there in
    let number : r.number ≡ row.number = ap (λ (q : Row). q.number) own ∙ one.number in
    let sent : row.number ≡ s.call.attempts.sent = live_number place row s chosen known has f sound in
    omega (arith, sent, number)

-- the judgement of an end in a call that isn't committed
pub word_none : (b n : Bool) (word : ℕ) → b ≡ false → (if b && n then Some word else None) ≡ None
word_none true n word e = absurd (cc)
word_none false n word e = refl

pub licensed_end_of : (chosen : Chosen) (policy : RetryPolicy) (place : ℕ) (row : LiveRow) (reported : EndNews) (end : RowEnd) (word : ℕ) (s : Stepped) → s.call.chosen ≡ Some chosen → call_plan s.call ≡ plans.Retry policy → s.call.attempts.committed ≡ None → find_live place s.call.live ≡ Some row → IsSound s → is_cut end.cause ≡ false → end.tokens ≡ count_of (settled reported (left_live row.place s)).tokens → is_licensed policy row.number end (is_above (settled reported (left_live row.place s)).tokens) ≡ true → RowsAreLicensed s → IsLicensedEnd chosen policy place row reported end (settled reported (left_live row.place s)).tokens word s
licensed_end_of chosen policy place row reported end word s known plan free f sound uncut tokens_is licensed old =
    let plan_is : chosen.plan ≡ plans.Retry policy = sym (known_plan s chosen known) ∙ plan in
    record {
      known = known;
      plan = plan_is;
      free = free;
      found = f;
      sound = sound;
      uncut = uncut;
      fits = own_fits (settled reported (left_live row.place s)).tokens s.call.chosen chosen known (own_settled reported s sound.tokens);
      tokens = tokens_is;
      licensed = licensed;
      waiting = old.waiting chosen known (ap has_retries plan_is) free;
    }

pub retry_case : (policy : RetryPolicy) (place : ℕ) (row : LiveRow) (reported : EndNews) (end : RowEnd) (moment word : ℕ) (s : Stepped) (b : Bool) → is_licensed policy row.number end (is_above (settled reported (left_live row.place s)).tokens) ≡ b → call_plan s.call ≡ plans.Retry policy → s.call.attempts.committed ≡ None → find_live place s.call.live ≡ Some row → IsSound s → is_cut end.cause ≡ false → end.entry ≡ s.ledger.entry → end.tokens ≡ count_of (settled reported (left_live row.place s)).tokens → RowsAreLicensed s → RowsAreLicensed (step.closed_if (not b) row.place moment (with_judged row end (licensed_retry policy s.call.attempts row.number (row.number - s.call.attempts.delayed) end (is_above (settled reported (left_live row.place s)).tokens) word) (settled reported (left_live row.place s))))
retry_case policy place row reported end moment word s true licensed plan free f sound uncut at tokens_is old =
    let v : Stepped = settled reported (left_live row.place s) in
    let last : RowEnd = law_end policy row.number end v.tokens word in
    record {
      ends = λ chosen e.
          let h : IsLicensedEnd chosen policy place row reported end v.tokens word s = licensed_end_of chosen policy place row reported end word s e plan free f sound uncut tokens_is licensed old in
          quiet_step chosen s.call.number s.ledger.rows (changed_at (ended_row last) s.ledger.rows row.place) s.call.attempts.sent sound.chained.within
          (reported_quiet chosen s.call.number s.call.attempts.sent s.ledger.rows row.place last
          (λ r is_r. (inl (license_of chosen policy place row reported end v.tokens word s h r is_r), (λ has counted. newest_number chosen place row s e f sound last r has is_r))))
          (old.ends chosen e);
      waiting = λ chosen e has none. waiting_license chosen policy place row reported end v.tokens word s (licensed_end_of chosen policy place row reported end word s e plan free f sound uncut tokens_is licensed old);
    }
retry_case policy place row reported end moment word s false licensed plan free f sound uncut at tokens_is old =
    let v : Stepped = settled reported (left_live row.place s) in
    let j : Judged = licensed_retry policy s.call.attempts row.number (row.number - s.call.attempts.delayed) end (is_above v.tokens) word in
    record {
      ends = λ chosen e.
          licenses_closed chosen place moment row reported end j s e f
          (word_none (is_licensed policy row.number end (is_above v.tokens)) (is_none (delay_of end.pushback)) word licensed) at sound (old.ends chosen e);
      waiting = λ chosen e has none. absurd (let no : Some row.place ≡ None = none in cc);
    }

pub retry_judged : (policy : RetryPolicy) (place : ℕ) (row : LiveRow) (reported : EndNews) (end : RowEnd) (moment word : ℕ) (s : Stepped) (j : Judged) → j ≡ licensed_retry policy s.call.attempts row.number (row.number - s.call.attempts.delayed) end (is_above (settled reported (left_live row.place s)).tokens) word → call_plan s.call ≡ plans.Retry policy → s.call.attempts.committed ≡ None → find_live place s.call.live ≡ Some row → IsSound s → is_cut end.cause ≡ false → end.entry ≡ s.ledger.entry → end.tokens ≡ count_of (settled reported (left_live row.place s)).tokens → RowsAreLicensed s → RowsAreLicensed (step.closed_if j.closes row.place moment (with_judged row end j (settled reported (left_live row.place s))))
retry_judged policy place row reported end moment word s j same plan free f sound uncut at tokens_is old =
    subst (λ (x : Judged). RowsAreLicensed (step.closed_if x.closes row.place moment (with_judged row end x (settled reported (left_live row.place s))))) (sym same)
    (retry_case policy place row reported end moment word s (is_licensed policy row.number end (is_above (settled reported (left_live row.place s)).tokens)) refl plan free f sound uncut at tokens_is old)

-- a plan of no retries
pub other_judged : (place : ℕ) (row : LiveRow) (reported : EndNews) (end : RowEnd) (moment : ℕ) (s : Stepped) (j : Judged) → ((chosen : Chosen) → s.call.chosen ≡ Some chosen → has_retries chosen.plan ≡ false) → j.word ≡ None → j.attempts.sent ≡ s.call.attempts.sent → IsSound s → RowsAreLicensed s → RowsAreLicensed (step.closed_if j.closes row.place moment (with_judged row end j (settled reported (left_live row.place s))))
other_judged place row reported end moment s j none word sent sound old =
    let v : Stepped = settled reported (left_live row.place s) in
    let last : RowEnd = record end { word = j.word } in
    let w : Stepped = with_judged row end j v in
    let like : AreSameRows s.call.number s.ledger.rows w.ledger.rows = same_rows s.call.number s.ledger.rows w.ledger.rows (all_changed_at IsKeptRow kept_write (ended_row last) (λ r. kept_write.ended last r) s.ledger.rows row.place) in
    let one : RowsAreLicensed w = record {
      ends = λ chosen e.
          quiet_step chosen s.call.number s.ledger.rows w.ledger.rows s.call.attempts.sent sound.chained.within
          (reported_quiet chosen s.call.number s.call.attempts.sent s.ledger.rows row.place last
          (λ r is_r. (inr (record { word = word; why = inr (inr (none chosen e)) }), (λ has counted. absurd (let no : true ≡ false = sym has ∙ none chosen e in cc)))))
          (old.ends chosen e);
      waiting = λ chosen e has free. absurd (let no : true ≡ false = sym has ∙ none chosen e in cc);
    } in
    let within : AreWithin w = λ q r is. subst (λ (k : ℕ). r.number ≤ k) (sym sent) (within_like s.call.number s.ledger.rows w.ledger.rows s.call.attempts.sent like sound.chained.within q r is) in
    elim j.closes as (λ c. RowsAreLicensed (step.closed_if c row.place moment w)) [
      | true ↦ licensed_by_row row.place moment w within (λ chosen e r is x h license. never_may chosen.plan chosen.throttle r.number x (none chosen e) license.may) one
      | false ↦ one
    ]

pub plan_case : (place : ℕ) (row : LiveRow) (reported : EndNews) (end : RowEnd) (moment word : ℕ) (s : Stepped) (p : CallPlan) → call_plan s.call ≡ p → s.call.attempts.committed ≡ None → find_live place s.call.live ≡ Some row → IsSound s → is_cut end.cause ≡ false → end.entry ≡ s.ledger.entry → end.tokens ≡ count_of (settled reported (left_live row.place s)).tokens → RowsAreLicensed s → RowsAreLicensed (step.closed_if (judged p s.call.attempts row.number (has_none (left_live row.place s).call.live) end (is_above (settled reported (left_live row.place s)).tokens) word).closes row.place moment (with_judged row end (judged p s.call.attempts row.number (has_none (left_live row.place s).call.live) end (is_above (settled reported (left_live row.place s)).tokens) word) (settled reported (left_live row.place s))))
plan_case place row reported end moment word s plans.None plan free f sound uncut at tokens_is old =
    other_judged place row reported end moment s (judged plans.None s.call.attempts row.number (has_none (left_live row.place s).call.live) end (is_above (settled reported (left_live row.place s)).tokens) word)
    (λ chosen e. ap has_retries (sym (known_plan s chosen e) ∙ plan)) refl refl sound old
plan_case place row reported end moment word s (plans.Hedge policy) plan free f sound uncut at tokens_is old =
    other_judged place row reported end moment s (judged (plans.Hedge policy) s.call.attempts row.number (has_none (left_live row.place s).call.live) end (is_above (settled reported (left_live row.place s)).tokens) word)
    (λ chosen e. ap has_retries (sym (known_plan s chosen e) ∙ plan)) refl refl sound old
plan_case place row reported end moment word s (plans.Retry policy) plan free f sound uncut at tokens_is old = chosen_case s.call.chosen refl
  where
    chosen_case : (o : Option Chosen) → s.call.chosen ≡ o → RowsAreLicensed (step.closed_if (judged (plans.Retry policy) s.call.attempts row.number (has_none (left_live row.place s).call.live) end (is_above (settled reported (left_live row.place s)).tokens) word).closes row.place moment (with_judged row end (judged (plans.Retry policy) s.call.attempts row.number (has_none (left_live row.place s).call.live) end (is_above (settled reported (left_live row.place s)).tokens) word) (settled reported (left_live row.place s))))
    chosen_case None e = absurd (let no : plans.None ≡ plans.Retry policy = sym (ap plan_of e) ∙ plan in cc)
    chosen_case (Some chosen) e =
        let has : has_retries chosen.plan ≡ true = ap has_retries (sym (known_plan s chosen e) ∙ plan) in
        let same : row.number ≡ s.call.attempts.sent = live_number place row s chosen e has f sound in
        let later : s.call.attempts.delayed < row.number = delayed_below chosen place row s f same sound (old.waiting chosen e has free).asked.there in
        retry_judged policy place row reported end moment word s (judged (plans.Retry policy) s.call.attempts row.number (has_none (left_live row.place s).call.live) end (is_above (settled reported (left_live row.place s)).tokens) word)
        (retry_license policy s.call.attempts row.number (has_none (left_live row.place s).call.live) end (is_above (settled reported (left_live row.place s)).tokens) word later)
        plan free f sound uncut at tokens_is old

pub licensed_counted : (place : ℕ) (row : LiveRow) (reported : EndNews) (moment word : ℕ) (s : Stepped) (o : Option ℕ) → s.call.attempts.committed ≡ o → find_live place s.call.live ≡ Some row → is_cut reported.cause ≡ false → IsSound s → RowsAreLicensed s → RowsAreLicensed (if is_some o then step.ended_as ends.Row moment (step.row_ended row.place (row_end reported s.ledger.entry moment (count_of (settled reported (left_live row.place s)).tokens)) (settled reported (left_live row.place s))) else step.counted_free row (row_end reported s.ledger.entry moment (count_of (settled reported (left_live row.place s)).tokens)) moment word (settled reported (left_live row.place s)))
licensed_counted place row reported moment word s (Some p) c f uncut sound old = licensed_committed place p row reported moment s c f sound old
licensed_counted place row reported moment word s None c f uncut sound old =
    plan_case place row reported (row_end reported s.ledger.entry moment (count_of (settled reported (left_live row.place s)).tokens)) moment word s (call_plan s.call) refl c f sound uncut refl refl old

pub licensed_live : (place : ℕ) (row : LiveRow) (reported : EndNews) (moment word : ℕ) (s : Stepped) (b : Bool) → find_live place s.call.live ≡ Some row → is_cut reported.cause ≡ false → IsSound s → RowsAreLicensed s → RowsAreLicensed (if b then step.followed row reported moment (left_live row.place s) else step.counted row reported moment word (settled reported (left_live row.place s)))
licensed_live place row reported moment word s true f uncut sound old =
    let end : RowEnd = row_end reported s.ledger.entry moment (count_of s.tokens) in
    let new : Row = new_row s.call.number row.number kind.Transparent moment (stamp_if (names row.place s.call.attempts.committed) s.ledger.entry) in
    record {
      ends = λ chosen e. licenses_followed chosen place row end new s f refl refl refl refl refl sound (old.ends chosen e);
      waiting = λ chosen e has none.
          waiting_followed chosen place row end new s f refl refl refl refl refl sound
          (old.waiting chosen e has (was_free (names row.place s.call.attempts.committed) s.call.attempts.committed (next_place_of s row reported moment) none));
    }
  where
    next_place_of : Stepped → LiveRow → EndNews → ℕ → ℕ
    next_place_of s row reported moment = length (changed_at (ended_row (row_end reported s.ledger.entry moment (count_of s.tokens))) s.ledger.rows row.place) + 1

    was_free : (b : Bool) (o : Option ℕ) (p : ℕ) → (if b then Some p else o) ≡ None → o ≡ None
    was_free true o p e = absurd (cc)
    was_free false o p e = e
licensed_live place row reported moment word s false f uncut sound old = licensed_counted place row reported moment word s s.call.attempts.committed refl f uncut sound old
