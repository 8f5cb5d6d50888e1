-- A call that is committed, with its other attempts cut off: session and channel agree again.
use Rattle.std.proofs.Common.{◌≡◌, ◌≤◌, ◌+◌, ◌-◌, ◌==◌, ◌∷◌, ◌++◌, ◌&&◌, not, ap, arith, refl, subst, sym, ◌∙◌, Bool, true, false, List, [], Option, None, Some, ℕ, filter, if◌then◌else◌, cond, is_some, length, map, slice_get, suc, true≢false, zero}
use Rattle.std.proofs.lemmas.Bool.{and_right, eq-eqb}
use Rattle.std.specs.List.{AllByRecursion, concat}
use Rattle.std.specs.Option.{option_map, option_map_or}
use Rattle.a6_numbers.specs.Throttling.{Bucket}
use Rattle.attempt_buffer.proofs.BufferLaws.{text_unpassed}
use Rattle.attempt_buffer.specs.Buffers.{Buffered, committed_at, is_open, taken_by, text_of, unpassed}
use Rattle.attempt_ledger.specs.declared.ledger.Ledger.{Ledger}
use Rattle.attempt_ledger.specs.declared.row.Row.{Row}
use Rattle.attempt_ledger.specs.declared.row.RowEnd.{RowEnd}
use Rattle.call_actions.proofs.Lists.{changed_here}
use Rattle.call_actions.specs.Sees.{AttemptsAgree, Sees, bucket_of}
use Rattle.call_core.specs.Laws as channel
use Rattle.call_core.specs.Parts.{committed_attempts, committed_buffer, count_of, kept_alone}
use Rattle.call_core.specs.Steps as steps
use Rattle.call_core.specs.Steps.{Stepped, commit_stamped, cut_all, reported_all}
use Rattle.call_core.specs.declared.inbox.Inbox.{Inbox}
use Rattle.call_core.specs.declared.live.LiveRow.{LiveRow}
use Rattle.grpc_base.specs.Limits.{message_limit}
use Rattle.grpc_base.specs.declared.event.Reply.{Reply}
use Rattle.grpc_frame.specs.Messages.{framed_all}
use Rattle.ledger_stamps.specs.Steps.{changed_at, committed_row}
use Rattle.session_actions.specs.Attempts.{commitment, is_commitment, is_of, is_outstanding}
use Rattle.session_actions.specs.Configs.{chosen_of}
use Rattle.session_actions.specs.Deliveries.{response_items}
use Rattle.session_actions.specs.DueAttempts.{due_state}
use Rattle.session_actions.specs.Entries.{entry, now}
use Rattle.session_actions.specs.Links.{link_of}
use Rattle.session_actions.specs.Responses.{limit_of_attempt, no_response, response, response_by, response_in, response_on, traffic_by, traffic_of}
use Rattle.session_actions.specs.Sessions.{call_seen}
use Rattle.session_actions.specs.Tokens.{run_of, tokens_in}
use Rattle.session_actions.specs.Words.{changed, numbered}
use Rattle.session_actions.specs.Writing.{drained}
use Rattle.session_actions.specs.declared.attempt.Attempt.{Attempt}
use Rattle.session_actions.specs.declared.call.Call.{Call}
use Rattle.session_actions.specs.declared.call.Mark.{Mark}
use Rattle.session_actions.specs.declared.call.MarkKind.TheVariants as mark
use Rattle.session_actions.specs.declared.config.ThrottleRun.{ThrottleRun}
use Rattle.session_actions.specs.declared.entry.OpenEntry.{OpenEntry}
use Rattle.session_actions.specs.declared.link.Link.{Link}
use Rattle.session_actions.specs.declared.seen.Seen.{Seen}
use Rattle.call_actions.proofs.TakeActions.CutAttempts.{becomes, due_stopped, end_by_cut, ended_mark, finally, gone_by, half, is_cut_off, made_still, retried_still, stamp_of}
use Rattle.call_actions.proofs.TakeActions.CutLive.{all_fail, commitment_is, cuts_are, going_cut, live_cut, only_it}
use Rattle.call_actions.proofs.TakeActions.CutRows.{cuts_through, rows_committed}
use Rattle.call_actions.proofs.TakeActions.CutTokens.{bucket_cut, counted_cut}
use Rattle.call_actions.proofs.TakeActions.Lists.{or_same}
use Rattle.call_actions.proofs.TakeActions.Maps.{all_both, all_from, kept_map, map_map}
use Rattle.call_actions.proofs.TakeActions.Retold.{read_same}
use Rattle.call_actions.specs.TakeActions.Cuts.{CanCommit}
use Rattle.call_actions.specs.TakeActions.Serves.{AttemptsAreFed, AttemptsStandInPlace, Holds, IsAt, IsFed, IsLeft, Serves, came, passed}

-- the tokens of a bucket
pub tokens_are : (s : Seen) (o : Option ThrottleRun) (tokens : Option Bucket) → option_map (bucket_of s) o ≡ tokens
    → option_map (λ (run : ThrottleRun). tokens_in run s) o ≡ count_of tokens
tokens_are s None tokens e = ap count_of e
tokens_are s (Some run) tokens e = ap count_of e

pub uncommitted_by : (o : Option ℕ) (mine : Bool) → mine ≡ true → (mine && is_some o) ≡ false → o ≡ None
uncommitted_by None mine e f = refl
uncommitted_by (Some n) true e f = absurd (cc)
uncommitted_by (Some n) false e f = absurd (cc)

pub all_get : {X : Type 0} (P : X → Type 0) (xs : List X) (i : ℕ) (x : X) → AllByRecursion P xs → slice_get xs i ≡ Some x → P x
all_get P [] i x all e = absurd (cc)
all_get P (y ∷ xs) zero x all e = let one : y ≡ x = (cc) in subst P one all.0
all_get P (y ∷ xs) (suc i) x all e = all_get P xs i x all.1 e

pub all_at : {X : Type 0} (P : X → Type 0) (xs : List X) (n : ℕ) (x : X) → AllByRecursion P xs → numbered xs n ≡ Some x → P x
all_at P xs zero x all e = absurd (cc)
all_at P xs (suc i) x all e = all_get P xs i x all e

-- a place among messages of which some were given up
pub place_in_rest : (taken : ℕ) (messages : List (List ℕ)) (written : ℕ) (all : List ℕ) → IsAt taken (concat messages) written all
    → IsAt (taken - (length (concat messages) - length (concat (unpassed taken messages)))) (concat (unpassed taken messages)) written all
place_in_rest taken messages written all at =
    let within : taken ≤ length (concat messages) = at.within in
    record {
      left = text_unpassed taken messages ∙ at.left;
      within = omega (arith, within);
      within_all = at.within_all;
    }

pub fed_rest : (s : Seen) (c : Call) (b : Buffered) (z : Attempt) (l : List Attempt) (t : Bool) → AttemptsAreFed s c b (cond t (z ∷ l) l) → AttemptsAreFed s c b l
fed_rest s c b z l true fed = fed.1
fed_rest s c b z l false fed = fed

module _ (s : Seen) (c : Call) (x : Stepped) (k : Attempt) (h : Serves s c x) (can : CanCommit s c k) (current : Option OpenEntry)
    (still : is_some current ≡ is_some s.current) where
  abbrev pub tokens_now : Option ℕ
  tokens_now = count_of x.tokens

  abbrev pub final_at : Attempt → Attempt
  final_at a = finally (entry s) (now s) tokens_now s c k a

  abbrev pub cuts_now : List Attempt
  cuts_now = filter (is_cut_off c.number (gone_by k)) s.attempts

  abbrev pub marks_now : List Mark
  marks_now = record { what = mark.Committed; moment = now s } ∷ map (ended_mark (now s)) cuts_now

  abbrev pub cut_seen : Seen
  cut_seen = record s { attempts = map final_at s.attempts; calls = changed (becomes c.end marks_now) c.number s.calls; current = current }

  abbrev pub cut_call : Call
  cut_call = becomes c.end marks_now c

  -- the ledger
  pub free_row : k.row.committed ≡ None
  free_row =
      uncommitted_by k.row.committed (is_of c k) can.mine
      (all_at (λ (a : Attempt). is_commitment c a ≡ false) s.attempts k.place k (all_fail (is_commitment c) s.attempts can.free) can.at)

  abbrev pub cut_ledger : Ledger
  cut_ledger = record x.ledger { rows = map (λ (a : Attempt). (final_at a).row) s.attempts }

  pub stamped_is : changed_at (committed_row x.ledger.entry) x.ledger.rows k.place ≡ map (half (stamp_of (entry s) k)) s.attempts
  stamped_is =
      ap (λ (i : ℕ). changed_at (committed_row i) x.ledger.rows k.place) (sym h.sees.entry_is)
      ∙ ap (λ (rows : List Row). changed_at (committed_row (entry s)) rows k.place) (sym h.sees.rows)
      ∙ rows_committed (entry s) k s.attempts free_row h.places can.at

  pub ledger_is : cut_all (Some k.place) (now s) tokens_now x.call.live (commit_stamped k.place x.ledger) ≡ cut_ledger
  ledger_is =
      ap (λ (rows : List Row). cut_all (Some k.place) (now s) tokens_now x.call.live (record x.ledger { rows = rows })) stamped_is
      ∙ ap (λ (live : List LiveRow). cut_all (Some k.place) (now s) tokens_now live (record x.ledger { rows = map (half (stamp_of (entry s) k)) s.attempts })) (sym h.sees.live)
      ∙ cuts_through (entry s) (now s) tokens_now s c (stamp_of (entry s) k) (gone_by k) (Some k.place) x.ledger (sym h.links) (sym h.sees.entry_is) s.attempts [] 0 refl h.places
      (cuts_are s c k can h.sees.own h.places (entry s) (now s) tokens_now marks_now current)

  -- what the channel makes of it, with the buffer and the inbox that it then has
  abbrev pub with_both : Buffered → Inbox → Stepped
  with_both buffer inbox = record x { call = record x.call { buffer = buffer; inbox = inbox } }

  abbrev pub cut_step : Buffered → Inbox → Stepped
  cut_step buffer inbox = record {
    call = record x.call { live = kept_alone k.place x.call.live; attempts = committed_attempts k.place x.call.attempts; buffer = buffer; inbox = inbox };
    ledger = cut_ledger;
    tokens = x.tokens;
    acts = reported_all (Some k.place) x.call.live x.acts;
  }

  pub step_is : (buffer : Buffered) (inbox : Inbox) → steps.committed k.place (now s) (with_both buffer inbox) ≡ cut_step buffer inbox
  step_is buffer inbox = ap (λ (l : Ledger). record (cut_step buffer inbox) { ledger = l }) ledger_is

  -- its attempts
  pub commitment_now : commitment cut_call cut_seen ≡ Some (final_at k)
  commitment_now = commitment_is s c k can h.sees.own h.places (entry s) (now s) tokens_now marks_now current

  pub due_now : ((due_state cut_call cut_seen).newest ≡ (due_state c s).newest) × ((due_state cut_call cut_seen).placed ≡ (due_state c s).placed)
      × ((due_state cut_call cut_seen).stopped ≡ true)
  due_now = due_stopped s cut_seen c cut_call final_at (λ a. refl) (λ a. refl) refl mark.Committed (now s) cuts_now (λ z. refl) refl

  pub attempts_now : AttemptsAgree cut_seen cut_call (committed_attempts k.place x.call.attempts)
  attempts_now =
      let a : AttemptsAgree s c x.call.attempts = h.sees.attempts in
      record {
        sent = made_still (entry s) (now s) tokens_now s c (stamp_of (entry s) k) (gone_by k) ∙ a.sent;
        due = record { newest = due_now.0 ∙ a.due.newest; placed = due_now.1 ∙ a.due.placed; stopped = due_now.2; forced = λ e. absurd (true≢false e) };
        unplaced = a.unplaced;
        delayed = λ keeps e. absurd (cc);
        last = λ e. absurd (cc);
        refused = retried_still (entry s) (now s) tokens_now s c (stamp_of (entry s) k) (gone_by k) c ∙ a.refused;
        committed = ap (option_map (λ (q : Attempt). q.place)) commitment_now;
      }

  pub sees_now : (buffer : Buffered) (inbox : Inbox) → Sees cut_seen cut_call (cut_step buffer inbox)
  sees_now buffer inbox = record {
    own = changed_here (becomes c.end marks_now) c.number s.calls c h.sees.own;
    number_is = h.sees.number_is;
    request = h.sees.request;
    begun = h.sees.begun;
    chosen = h.sees.chosen;
    finished = h.sees.finished;
    longest_is = h.sees.longest_is;
    ended = h.sees.ended;
    attempts = attempts_now;
    live = live_cut s c k can h.sees.own h.places (entry s) (now s) tokens_now marks_now current ∙ ap (kept_alone k.place) h.sees.live;
    tokens = bucket_cut (entry s) (now s) tokens_now s c (stamp_of (entry s) k) (gone_by k) c.end marks_now current (run_of c s) h.counted ∙ h.sees.tokens;
    entry_is = ap (λ (b : Bool). length s.entries + (if b then 1 else 0)) still ∙ h.sees.entry_is;
    rows = map_map final_at (λ (a : Attempt). a.row) s.attempts;
    call_is = h.sees.call_is ∙ ap (λ (made : List ℕ). Some (record (call_seen s c) { made = made }))
        (sym (kept_map (is_of cut_call) (is_of c) final_at (λ (a : Attempt). a.made) s.attempts (all_from (λ (a : Attempt). is_of cut_call (final_at a) ≡ is_of c a) (λ a. refl) s.attempts)));
  }

  -- its response
  pub not_itself : is_cut_off c.number (gone_by k) k ≡ false
  not_itself =
      ap (λ (b : Bool). (k.row.call == c.number) && (is_outstanding k && not b)) (eq-eqb k.row.number k.row.number refl)
      ∙ and_right (k.row.call == c.number) (is_outstanding k && false) (and_right (is_outstanding k) false refl)

  pub ended_itself : (final_at k).row.ended ≡ k.row.ended
  ended_itself = ap (λ (b : Bool). if b then Some (end_by_cut (entry s) (now s) tokens_now s k) else k.row.ended) not_itself

  pub limit_now : limit_of_attempt (final_at k) cut_seen ≡ limit_of_attempt k s
  limit_now = read_same (becomes c.end marks_now) c.number s.calls (λ (d : Call). (chosen_of d s).response) message_limit (λ d. refl) k.row.call

  pub on_now : (stream : ℕ) (l : Link) → response_on (final_at k) stream cut_seen l ≡ response_on k stream s l
  on_now stream l =
      ap (λ (n : ℕ). response_in n stream (traffic_of (final_at k) l.traffic)) limit_now
      ∙ ap (λ (o : Option RowEnd). response_in (limit_of_attempt k s) stream (option_map_or (λ (e : RowEnd). traffic_by e.seen l.traffic) o l.traffic)) ended_itself

  pub by_now : (o : Option ℕ) → response_by (final_at k) cut_seen o ≡ response_by k s o
  by_now None = refl
  by_now (Some stream) = or_same (response_on (final_at k) stream cut_seen) (response_on k stream s) no_response (on_now stream) (link_of k s)

  pub came_now : came cut_call cut_seen ≡ response_items (response k s)
  came_now =
      ap (λ (o : Option Attempt). option_map_or (λ (q : Attempt). response_items (response q cut_seen)) o []) commitment_now
      ∙ ap response_items (by_now k.row.stream)

  -- nothing was taken of it before
  pub none_came : came c s ≡ []
  none_came = ap (λ (o : Option Attempt). option_map_or (λ (q : Attempt). response_items (response q s)) o []) can.free

  pub no_prefix : (prefix left : List Reply) → prefix ++ left ≡ [] → prefix ≡ []
  no_prefix [] left e = refl
  no_prefix (r ∷ prefix) left e = absurd (cc)

  pub left_now : (inbox : Inbox) → response_items (response k s) ≡ channel.head_items inbox.head ++ channel.message_items inbox.messages → c.end_taken ≡ false
      → IsLeft (came cut_call cut_seen) c.taken (channel.head_items inbox.head ++ channel.message_items inbox.messages)
  left_now inbox items e =
      let l : IsLeft (came c s) c.taken (channel.came x.call) = h.left e in
      let none : l.prefix ≡ [] = no_prefix l.prefix (channel.came x.call) (sym l.joined ∙ none_came) in
      record { prefix = []; count = sym (ap length none) ∙ l.count; joined = came_now ∙ items }

  -- its messages
  module _ (holds : Holds s c x.call.buffer) where
    abbrev pub b : Buffered
    b = x.call.buffer

    abbrev pub all_bytes : List ℕ
    all_bytes = framed_all c.messages

    pub fed_by : (a : Attempt) (xs : List Attempt) (i : ℕ) → is_of c a ≡ true → slice_get xs i ≡ Some a → AttemptsAreFed s c b (filter (is_of c) xs)
        → IsFed (taken_by a.place b) (text_of b) (is_outstanding a) (drained a s) all_bytes
    fed_by a [] i e got fed = absurd (cc)
    fed_by a (z ∷ xs) zero e got fed =
        let one : z ≡ a = (cc) in
        let first : AttemptsAreFed s c b (z ∷ filter (is_of c) xs)
        = subst (λ (t : Bool). AttemptsAreFed s c b (cond t (z ∷ filter (is_of c) xs) (filter (is_of c) xs))) (ap (is_of c) one ∙ e) fed in
        subst (λ (q : Attempt). IsFed (taken_by q.place b) (text_of b) (is_outstanding q) (drained q s) all_bytes) one first.0
    fed_by a (z ∷ xs) (suc i) e got fed = fed_by a xs i e got (fed_rest s c b z (filter (is_of c) xs) (is_of c z) fed)

    pub fed_at : (n : ℕ) → numbered s.attempts n ≡ Some k → IsFed (taken_by k.place b) (text_of b) (is_outstanding k) (drained k s) all_bytes
    fed_at zero got = absurd (cc)
    fed_at (suc i) got = fed_by k s.attempts i can.mine got holds.fed

    pub fed_k : IsFed (taken_by k.place b) (text_of b) true (drained k s) all_bytes
    fed_k = subst (λ (t : Bool). IsFed (taken_by k.place b) (text_of b) t (drained k s) all_bytes) can.outstanding (fed_at k.place can.at)

    -- it is open in the buffer, at a place
    pub record HasPlace : Type 0 where
      pub taken : ℕ
      pub taken_is : taken_by k.place b ≡ Some taken
      pub place : IsAt taken (text_of b) (drained k s) all_bytes

    pub place_by : (o : Option ℕ) → taken_by k.place b ≡ o → IsFed o (text_of b) true (drained k s) all_bytes → HasPlace
    place_by None e fed = absurd fed
    place_by (Some taken) e fed = record { taken = taken; taken_is = e; place = fed }

    pub has_place : HasPlace
    has_place = place_by (taken_by k.place b) refl fed_k

    pub open_is : is_open k.place b ≡ true
    open_is = ap (λ (o : Option ℕ). is_some o) has_place.taken_is

    abbrev pub committed_now : Buffered
    committed_now = committed_at k.place has_place.taken b

    pub buffer_is : committed_buffer k.place b ≡ committed_now
    buffer_is =
        ap (λ (o : Option ℕ). if is_some o then option_map_or (λ (taken : ℕ). committed_at k.place taken b) o b else b) has_place.taken_is

    pub place_now : IsAt (passed committed_now) (text_of committed_now) (drained k s) all_bytes
    place_now = place_in_rest has_place.taken b.messages (drained k s) all_bytes has_place.place

    pub fed_one : (a : Attempt) (t : Bool) → (k.place == a.place) ≡ t → ((k.place == a.place) ≡ true → a ≡ k)
        → IsFed (if t then Some (passed committed_now) else None) (text_of committed_now) (is_outstanding a && t) (drained a s) all_bytes
    fed_one a true e same =
        subst (λ (q : Attempt). IsFed (Some (passed committed_now)) (text_of committed_now) (is_outstanding q && true) (drained q s) all_bytes) (sym (same e))
        (subst (λ (t : Bool). IsFed (Some (passed committed_now)) (text_of committed_now) (t && true) (drained k s) all_bytes) (sym can.outstanding) place_now)
    fed_one a false e same =
        subst (λ (t : Bool). IsFed None (text_of committed_now) t (drained a s) all_bytes) (sym (and_right (is_outstanding a) false refl)) tt

    pub record Fine (a : Attempt) : Type 0 where
      pub same : (k.place == a.place) ≡ true → a ≡ k
      pub going : is_of c a ≡ true → is_outstanding (final_at a) ≡ (is_outstanding a && (k.place == a.place))

    pub fine : AllByRecursion Fine s.attempts
    fine =
        all_both (λ (a : Attempt). (k.place == a.place) ≡ true → a ≡ k)
        (λ (a : Attempt). is_of c a ≡ true → is_outstanding (final_at a) ≡ (is_outstanding a && (k.place == a.place))) Fine
        (λ a f g. record { same = f; going = g }) s.attempts (only_it k s.attempts h.places can.at)
        (going_cut s c k can h.sees.own h.places (entry s) (now s) tokens_now marks_now current)

    abbrev pub FedNow : List Attempt → Type 0
    FedNow l = AllByRecursion (λ (a : Attempt). IsFed (taken_by a.place committed_now) (text_of committed_now) (is_outstanding a) (drained a cut_seen) all_bytes) l

    pub fed_if : (a : Attempt) (l : List Attempt) (mine : Bool) → is_of c a ≡ mine → Fine a → FedNow l → FedNow (cond mine (final_at a ∷ l) l)
    fed_if a l true e f rest = (
      subst (λ (t : Bool). IsFed (taken_by a.place committed_now) (text_of committed_now) t (drained a s) all_bytes) (sym (f.going e))
          (fed_one a (k.place == a.place) refl f.same),
      rest,
    )
    fed_if a l false e f rest = rest

    pub fed_all : (xs : List Attempt) → AllByRecursion Fine xs → FedNow (filter (is_of cut_call) (map final_at xs))
    fed_all [] all = tt
    fed_all (a ∷ xs) all = fed_if a (filter (is_of cut_call) (map final_at xs)) (is_of c a) refl all.0 (fed_all xs all.1)

    pub holds_now : Holds cut_seen cut_call committed_now
    holds_now = record {
      fed = fed_all s.attempts fine;
      held = subst (λ (n : ℕ). IsAt (passed committed_now) (text_of committed_now) n all_bytes)
          (sym (ap (λ (o : Option Attempt). option_map_or (λ (q : Attempt). drained q cut_seen) o 0) commitment_now)) place_now;
      committed = sym (ap (λ (o : Option Attempt). is_some o) commitment_now);
    }

  pub placed_still : (xs : List Attempt) (n : ℕ) → AttemptsStandInPlace n xs → AttemptsStandInPlace n (map final_at xs)
  placed_still [] n p = tt
  placed_still (a ∷ xs) n p = (p.0, placed_still xs (suc n) p.1)

  -- all of it
  pub serves_cut : (inbox : Inbox) → inbox.is_end_taken ≡ x.call.inbox.is_end_taken
      → response_items (response k s) ≡ channel.head_items inbox.head ++ channel.message_items inbox.messages
      → Serves cut_seen cut_call (steps.committed k.place (now s) (with_both (committed_buffer k.place x.call.buffer) inbox))
  serves_cut inbox taken items =
      let has : Holds s c x.call.buffer = h.holds can.open_now in
      let whole : Serves cut_seen cut_call (cut_step (committed_now has) inbox) = record {
        sees = sees_now (committed_now has) inbox;
        places = placed_still s.attempts 1 h.places;
        config = h.config;
        links = h.links;
        reads = h.reads;
        counted = counted_cut (entry s) (now s) tokens_now s c (stamp_of (entry s) k) (gone_by k) c.end marks_now current (run_of c s) h.counted;
        end_taken = h.end_taken ∙ sym taken;
        going = h.going;
        left = left_now inbox items;
        holds = λ e. holds_now has;
      } in
      subst (Serves cut_seen cut_call) (sym (ap (λ (z : Buffered). steps.committed k.place (now s) (with_both z inbox)) (buffer_is has) ∙ step_is (committed_now has) inbox)) whole
