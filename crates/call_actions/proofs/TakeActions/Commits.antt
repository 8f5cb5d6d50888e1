-- A call is committed, and its other attempts are cut off: in the session one by one, in the channel at once.
use Rattle.std.proofs.Common.{◌≡◌, ◌<◌, ◌+◌, ◌==◌, ◌∷◌, ◌++◌, not, append-nil, ap, arith, refl, subst, sym, ◌∙◌, Bool, true, false, List, [], Option, None, Some, ℕ, zero, suc, filter, if◌then◌else◌, is_some, map, slice_get, slice_set}
use Rattle.std.proofs.lemmas.Bool.{both_ways, eq-eqb, eqb-true, ne_eqb}
use Rattle.std.specs.Option.{option_map, option_map_or}
use Rattle.attempt_ledger.specs.declared.ledger.CallEnd.{CallEnd}
use Rattle.call_actions.proofs.Lists.{changed_here}
use Rattle.call_core.specs.Laws as channel
use Rattle.call_core.specs.Parts.{committed_buffer, count_of}
use Rattle.call_core.specs.Steps as steps
use Rattle.call_core.specs.Steps.{Stepped}
use Rattle.call_core.specs.declared.inbox.Inbox.{Inbox}
use Rattle.session_actions.specs.Attempts.{is_commitment, with_attempt}
use Rattle.session_actions.specs.Calls.{marked}
use Rattle.session_actions.specs.Commitments.{call_committed, with_commitment}
use Rattle.session_actions.specs.Deliveries.{response_items}
use Rattle.session_actions.specs.Entries.{entry, now}
use Rattle.session_actions.specs.Responses.{response}
use Rattle.session_actions.specs.Tokens.{run_of, tokens_in}
use Rattle.session_actions.specs.Words.{changed, changed_if, find_last, holds, numbered}
use Rattle.session_actions.specs.declared.attempt.Attempt.{Attempt}
use Rattle.session_actions.specs.declared.call.Call.{Call}
use Rattle.session_actions.specs.declared.call.Mark.{Mark}
use Rattle.session_actions.specs.declared.call.MarkKind.TheVariants as mark
use Rattle.session_actions.specs.declared.config.ThrottleRun.{ThrottleRun}
use Rattle.session_actions.specs.declared.entry.OpenEntry.{OpenEntry}
use Rattle.session_actions.specs.declared.seen.Seen.{Seen}
use Rattle.call_actions.proofs.TakeActions.CutAttempts.{becomes, ended_mark, finally, gone_by, is_cut_off, stamp_of}
use Rattle.call_actions.proofs.TakeActions.CutLive.{half_commitment}
use Rattle.call_actions.proofs.TakeActions.CutOne.{changed_like, marked_also}
use Rattle.call_actions.proofs.TakeActions.CutSees.{cut_call, cut_seen, serves_cut, tokens_are}
use Rattle.call_actions.proofs.TakeActions.CutWalk.{Walked, at_point, half_of, is_gone, number_of, walked}
use Rattle.call_actions.specs.TakeActions.Cuts.{AttemptsAreCut, CanCommit}
use Rattle.call_actions.specs.TakeActions.Laws.{CommitsCutOthers, IsCommitted}
use Rattle.call_actions.specs.TakeActions.Serves.{AttemptsStandInPlace, Serves}

-- one attempt changes, and the others stay
module _ (k : Attempt) where
  pub stay_past : (g : Attempt → Attempt) (m : ℕ) (xs : List Attempt) → ((a : Attempt) → (k.place ≡ a.place → ⊥) → g a ≡ a) → AttemptsStandInPlace m xs → k.place < m → map g xs ≡ xs
  stay_past g m [] off p l = refl
  stay_past g m (x ∷ xs) off p l =
      let at : x.place ≡ m = p.0 in
      let next : k.place < suc m = omega (arith, l) in
      let away : k.place ≡ x.place → ⊥ = λ z. omega (arith, z, at, l) in
      ap (λ (z : Attempt). z ∷ map g xs) (off x away) ∙ ap (λ (rest : List Attempt). x ∷ rest) (stay_past g (suc m) xs off p.1 next)

  pub change_here : (f g : Attempt → Attempt) (n i : ℕ) (xs : List Attempt) → g k ≡ f k → ((a : Attempt) → (k.place ≡ a.place → ⊥) → g a ≡ a) → AttemptsStandInPlace n xs
      → k.place ≡ n + i → slice_get xs i ≡ Some k → slice_set xs i (f k) ≡ map g xs
  change_here f g n i [] same off p e got = absurd (cc)
  change_here f g n zero (x ∷ xs) same off p e got =
      let one : x ≡ k = (cc) in
      let next : k.place < suc n = omega (arith, e) in
      ap (λ (z : Attempt). z ∷ xs) (sym same ∙ ap g (sym one)) ∙ ap (λ (l : List Attempt). g x ∷ l) (sym (stay_past g (suc n) xs off p.1 next))
  change_here f g n (suc i) (x ∷ xs) same off p e got =
      let at : x.place ≡ n = p.0 in
      let next : k.place ≡ suc n + i = omega (arith, e) in
      let away : k.place ≡ x.place → ⊥ = λ z. omega (arith, z, at, e) in
      ap (λ (z : Attempt). z ∷ slice_set xs i (f k)) (sym (off x away)) ∙ ap (λ (l : List Attempt). g x ∷ l) (change_here f g (suc n) i xs same off p.1 next got)

  pub change_by : (f g : Attempt → Attempt) (m : ℕ) (xs : List Attempt) → g k ≡ f k → ((a : Attempt) → (k.place ≡ a.place → ⊥) → g a ≡ a) → AttemptsStandInPlace 1 xs
      → k.place ≡ m → numbered xs m ≡ Some k → changed f m xs ≡ map g xs
  change_by f g zero xs same off p e got = absurd (cc)
  change_by f g (suc i) xs same off p e got =
      let at : k.place ≡ 1 + i = omega (arith, e) in
      ap (changed_if f (suc i) xs) got ∙ change_here f g 1 i xs same off p at got

module _ (s : Seen) (c : Call) (x : Stepped) (k : Attempt) (h : Serves s c x) (can : CanCommit s c k) where
  abbrev pub tokens_now : Option ℕ
  tokens_now = count_of x.tokens

  pub count_now : option_map (λ (run : ThrottleRun). tokens_in run s) (run_of c s) ≡ tokens_now
  count_now = tokens_are s (run_of c s) x.tokens h.sees.tokens

  abbrev pub half_at : Attempt → Attempt
  half_at a = half_of (stamp_of (entry s) k) a

  abbrev pub first : Mark
  first = record { what = mark.Committed; moment = now s }

  -- which attempts are gone
  pub number_is : number_of (find_last (is_commitment c) (map half_at s.attempts)) ≡ Some k.row.number
  number_is = ap number_of (half_commitment s c k can h.places (entry s))

  pub gone_is : (a : Attempt) → is_gone c.end (number_of (find_last (is_commitment c) (map half_at s.attempts))) a ≡ gone_by k a
  gone_is a =
      ap (λ (o : Option CallEnd). is_gone o (number_of (find_last (is_commitment c) (map half_at s.attempts))) a) can.open_now
      ∙ ap (holds (λ (n : ℕ). not (n == a.row.number))) number_is

  pub gone_same : (a b : Attempt) → a.row.number ≡ b.row.number → gone_by k a ≡ gone_by k b
  gone_same a b e = ap (λ (n : ℕ). not (k.row.number == n)) e

  -- the commitment itself
  pub halves : changed (with_commitment (entry s)) k.place s.attempts ≡ map half_at s.attempts
  halves =
      change_by k (with_commitment (entry s)) half_at k.place s.attempts
      (ap (λ (b : Bool). record k { row = record k.row { committed = if b then Some (entry s) else k.row.committed } }) (eq-eqb k.place k.place refl))
      (λ a away. ap (λ (b : Bool). record a { row = record a.row { committed = if b then Some (entry s) else a.row.committed } }) (ne_eqb k.place a.place away))
      h.places refl can.at

  abbrev pub point : List Attempt → List Attempt → Option OpenEntry → Seen
  point prefix rest current =
      at_point s c h.sees.own (stamp_of (entry s) k) (gone_by k) c.end first gone_is gone_same tokens_now count_now h.counted prefix rest current

  pub committed_is : call_committed k.place s ≡ point [] s.attempts s.current
  committed_is =
      ap (λ (o : Option Attempt). option_map_or (λ (a : Attempt). marked mark.Committed a.row.call (with_attempt (with_commitment (entry s)) k.place s)) o
      (with_attempt (with_commitment (entry s)) k.place s)) (changed_here (with_commitment (entry s)) k.place s.attempts k can.at)
      ∙ ap (λ (l : List Attempt). record s { attempts = l; calls = changed (marked_also first) k.row.call s.calls }) halves
      ∙ ap (λ (n : ℕ). record s { attempts = map half_at s.attempts; calls = changed (marked_also first) n s.calls }) (eqb-true k.row.call c.number can.mine)
      ∙ ap (λ (l : List Call). record s { attempts = map half_at s.attempts; calls = l })
      (changed_like (marked_also first) (becomes c.end (first ∷ [])) c.number s.calls c h.sees.own refl)

  abbrev pub CutAll : Seen → Type 0
  CutAll u = Walked s c h.sees.own (stamp_of (entry s) k) (gone_by k) c.end first gone_is gone_same tokens_now count_now h.counted u

  pub commit_walked : (o : OpenEntry) → s.current ≡ Some o → CutAll (call_committed k.place s)
  commit_walked o opened =
      walked s c h.sees.own (stamp_of (entry s) k) (gone_by k) c.end first gone_is gone_same tokens_now count_now h.counted o (call_committed k.place s) opened h.places committed_is

  -- the walk ends where all are cut off
  abbrev pub put : Option OpenEntry → List Attempt → Seen
  put current attempts = record s {
    attempts = attempts;
    calls = changed (becomes c.end (first ∷ map (ended_mark (now s)) (filter (is_cut_off c.number (gone_by k)) s.attempts))) c.number s.calls;
    current = current;
  }

  pub commits_by : (o : Option OpenEntry) → s.current ≡ o → is_some s.current ≡ true → (inbox : Inbox) → inbox.is_end_taken ≡ x.call.inbox.is_end_taken
      → response_items (response k s) ≡ channel.head_items inbox.head ++ channel.message_items inbox.messages
      → IsCommitted s c k (steps.committed k.place (now s) (record x { call = record x.call { buffer = committed_buffer k.place x.call.buffer; inbox = inbox } }))
  commits_by None opened some inbox taken items = absurd (let none : is_some s.current ≡ false = ap (λ (z : Option OpenEntry). is_some z) opened in both_ways (is_some s.current) none some)
  commits_by (Some o) opened some inbox taken items =
      let w : CutAll (call_committed k.place s) = commit_walked o opened in
      let still : is_some (Some w.entry_now) ≡ is_some s.current = sym (ap (λ (z : Option OpenEntry). is_some z) opened) in
      let last : Seen = cut_seen s c x k h can (Some w.entry_now) still in
      let same : point s.attempts [] (Some w.entry_now) ≡ last
      = ap (put (Some w.entry_now)) (append-nil (map (finally (entry s) (now s) tokens_now s c k) s.attempts)) in
      record {
        cuts = w.actions;
        seen = last;
        cut = subst (AttemptsAreCut c.number w.actions (call_committed k.place s)) same w.cuts;
        agrees = record {
          call = cut_call s c x k h can (Some w.entry_now) still;
          number_is = refl;
          serves = serves_cut s c x k h can (Some w.entry_now) still inbox taken items;
        };
      }

pub commits_cut_others : CommitsCutOthers
commits_cut_others s c x k inbox opened h can taken items = commits_by s c x k h can s.current refl opened inbox taken items
