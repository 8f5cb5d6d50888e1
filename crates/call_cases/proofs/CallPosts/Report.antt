-- An application posts something to its call, or something of it is taken, and the event of the entry is answered: what the session says of all calls, and
-- of this one.
use Rattle.a6_numbers.specs.Throttling.{Bucket}
use Rattle.call_actions.proofs.Frames.{bucket_reported, due_same, retold}
use Rattle.call_actions.proofs.Lists.{changed_away, changed_map}
use Rattle.call_actions.specs.Order.{IsInOrder, IsInTurn}
use Rattle.channel_actions.proofs.Answering.{replied_entry}
use Rattle.channel_actions.proofs.Settles.{with_open}
use Rattle.channel_actions.proofs.Stamps.{map_same}
use Rattle.channel_actions.specs.Calls.{deadline_of, due_of}
use Rattle.channel_actions.specs.Configs.{SeesBuckets, bucket_in, runs_in_turn}
use Rattle.channel_actions.specs.Sets.{is_awaiting_config, is_in_deadlines, is_ready_waiter, is_waiting}
use Rattle.channel_core.specs.Tables.{BucketsSeen}
use Rattle.grpc_base.specs.declared.event.Reply.{Reply}
use Rattle.session_actions.specs.Attempts.{is_over, is_over_in, is_queued}
use Rattle.session_actions.specs.Calls.{is_open_call}
use Rattle.session_actions.specs.Configs.{plan_of, waits_for_ready}
use Rattle.session_actions.specs.DueAttempts.{attempts_made, due_by, due_state, next_due, no_due}
use Rattle.session_actions.specs.Sessions.{call_seen}
use Rattle.session_actions.specs.Words.{changed, changed_if, holds, is_number, numbered}
use Rattle.session_actions.specs.declared.attempt.Attempt.{Attempt}
use Rattle.session_actions.specs.declared.call.Call.{Call}
use Rattle.session_actions.specs.declared.due.DueState.{DueState}
use Rattle.session_actions.specs.declared.entry.OpenEntry.{OpenEntry}
use Rattle.session_actions.specs.declared.seen.Seen.{Seen}
use Rattle.std.proofs.Common.{Bool, List, None, Option, Some, [], ap, eqb-true, false, if◌then◌else◌, is_none, map, not, option_and_then, option_map, refl, slice_get, slice_set, suc, sym, true, zero, ℕ, ◌&&◌, ◌==◌, ◌∙◌, ◌∷◌, ◌≡◌}
use Rattle.std.proofs.lemmas.Bool.{eqb-false}
use Rattle.call_actions.proofs.TakeActions.Retold.{own_marks}

-- one of a list changes in what is not read
holds_some : {X : Type 0} (p q : X → Bool) (f : X → X) → ((x : X) → q (f x) ≡ p x) → (o : Option X) → holds q (option_map f o) ≡ holds p o
holds_some p q f same None = refl
holds_some p q f same (Some x) = same x

holds_alike : {X : Type 0} (p q : X → Bool) → ((x : X) → q x ≡ p x) → (o : Option X) → holds q o ≡ holds p o
holds_alike p q same None = refl
holds_alike p q same (Some x) = same x

changed_by : {X : Type 0} (p q : X → Bool) (f : X → X) (n k : ℕ) (xs : List X) (b : Bool) → (k == n) ≡ b → ((x : X) → q (f x) ≡ p x) → ((x : X) → q x ≡ p x)
    → holds q (numbered (changed f n xs) k) ≡ holds p (numbered xs k)
changed_by p q f n k xs true e here away =
    let same : k ≡ n = eqb-true k n e in
    ap (λ (j : ℕ). holds q (numbered (changed f n xs) j)) same ∙ ap (holds q) (changed_map f n xs) ∙ holds_some p q f here (numbered xs n)
    ∙ ap (λ (j : ℕ). holds p (numbered xs j)) (sym same)
changed_by p q f n k xs false e here away =
    ap (holds q) (changed_away f n k xs (eqb-false k n e)) ∙ holds_alike p q away (numbered xs k)

pub holds_changed : {X : Type 0} (p q : X → Bool) (f : X → X) (n k : ℕ) (xs : List X) → ((x : X) → q (f x) ≡ p x) → ((x : X) → q x ≡ p x)
    → holds q (numbered (changed f n xs) k) ≡ holds p (numbered xs k)
holds_changed p q f n k xs here away = changed_by p q f n k xs (k == n) refl here away

map_put : {X Y : Type 0} (F : X → Y) (xs : List X) (i : ℕ) (x z : X) → slice_get xs i ≡ Some x → F z ≡ F x → map F (slice_set xs i z) ≡ map F xs
map_put F [] i x z e same = refl
map_put F (y ∷ xs) zero x z e same = let one : x ≡ y = (cc) in ap (λ (w : _). w ∷ map F xs) (same ∙ ap F one)
map_put F (y ∷ xs) (suc i) x z e same = ap (λ (l : List _). F y ∷ l) (map_put F xs i x z e same)

map_by : {X Y : Type 0} (F : X → Y) (f : X → X) → ((x : X) → F (f x) ≡ F x) → (i : ℕ) (xs : List X) (o : Option X) → slice_get xs i ≡ o → map F (changed_if f (suc i) xs o) ≡ map F xs
map_by F f same i xs None e = refl
map_by F f same i xs (Some x) e = map_put F xs i x (f x) e (same x)

pub map_changed : {X Y : Type 0} (F : X → Y) (f : X → X) → ((x : X) → F (f x) ≡ F x) → (n : ℕ) (xs : List X) → map F (changed f n xs) ≡ map F xs
map_changed F f same zero xs = refl
map_changed F f same (suc i) xs = map_by F f same i xs (slice_get xs i) refl

module _ (s0 : Seen) (o : OpenEntry) (r : Reply) (c : Call) (messages : Call → List (List ℕ)) (finished : Call → Bool) (taken : Call → ℕ) (end_taken : Call → Bool) where
  abbrev pub n : ℕ
  n = c.number

  abbrev pub f : Call → Call
  f d = retold messages finished taken end_taken own_marks (λ (z : Call). z.end) d

  abbrev pub s : Seen
  s = with_open o s0

  abbrev pub p : OpenEntry
  p = replied_entry r o

  abbrev pub t : Seen
  t = record s0 { calls = changed f n s0.calls; current = Some p }

  -- the ledger, and the buckets
  pub calls_reported : map (call_seen t) t.calls ≡ map (call_seen s) s.calls
  calls_reported = map_changed (call_seen t) f (λ d. refl) n s0.calls

  bucket_same : (run : Option ℕ) → bucket_in t run ≡ bucket_in s run
  bucket_same run = bucket_reported s n messages finished taken end_taken own_marks (λ (z : Call). z.end) (Some p) (option_and_then (numbered s0.runs) run)

  pub buckets_reported : (b : BucketsSeen) → SeesBuckets b s → SeesBuckets b t
  buckets_reported b h = record {
    runs = ap (λ (l : List (Option Bucket)). None ∷ l) (map_same (bucket_in t) (bucket_in s) bucket_same (runs_in_turn s0.configs)) ∙ h.runs;
    throttle = h.throttle;
  }

  -- attempts that wait
  over_reported : (a : Attempt) → is_over a t ≡ is_over a s
  over_reported a =
      holds_changed (λ (d : Call). is_over_in d a s) (λ (d : Call). is_over_in d a t) f n a.row.call s0.calls (λ d. refl) (λ d. refl)

  queued_reported : (a : Attempt) → is_queued a t ≡ is_queued a s
  queued_reported a = ap (λ (b : Bool). (is_none a.row.placed && is_none a.row.ended) && not b) (over_reported a)

  pub waiting_reported : (k row : ℕ) → is_waiting t k row ≡ is_waiting s k row
  waiting_reported k row =
      holds_alike (λ (a : Attempt). (a.row.call == k) && is_queued a s) (λ (a : Attempt). (a.row.call == k) && is_queued a t)
      (λ a. ap (λ (b : Bool). (a.row.call == k) && b) (queued_reported a)) (numbered s0.attempts row)

  pub wait_for_ready_reported : (k : ℕ) → is_ready_waiter t k ≡ is_ready_waiter s k
  wait_for_ready_reported k = holds_changed (λ (d : Call). waits_for_ready d s) (λ (d : Call). waits_for_ready d t) f n k s0.calls (λ d. refl) (λ d. refl)

  pub deadlines_reported : (moment k : ℕ) → is_in_deadlines t moment k ≡ is_in_deadlines s moment k
  deadlines_reported moment k =
      holds_changed (λ (d : Call). is_number moment (deadline_of s d)) (λ (d : Call). is_number moment (deadline_of t d)) f n k s0.calls (λ d. refl) (λ d. refl)

  pub unconfigured_reported : (zero_ k : ℕ) → is_awaiting_config t zero_ k ≡ is_awaiting_config s zero_ k
  unconfigured_reported zero_ k =
      ap (λ (b : Bool). (zero_ == 0) && b)
      (holds_changed (λ (d : Call). is_open_call d && is_none d.config) (λ (d : Call). is_open_call d && is_none d.config) f n k s0.calls (λ d. refl) (λ d. refl))

  -- when its next attempt is due
  state_reported : (d : Call) → due_state (f d) t ≡ due_state d s
  state_reported d = due_same s n messages finished taken end_taken own_marks (λ (z : Call). z.end) (Some p) d no_due d.marks

  next_reported : (d : Call) → next_due (f d) t ≡ next_due d s
  next_reported d = ap (λ (z : DueState). due_by (plan_of d s) (attempts_made d s) z) (state_reported d)

  pub due_reported : (d : Call) → due_of t (f d) ≡ due_of s d
  due_reported d = ap (λ (m : Option ℕ). if is_open_call d then m else None) (next_reported d)

  -- what is kept in order of it
  pub order_reported : (d : Call) → IsInOrder s d → IsInOrder t (f d)
  order_reported d h = record {
    places = h.places;
    marks = h.marks;
    numbers = h.numbers;
    first = λ e. ap (λ (z : DueState). z.newest) (state_reported d) ∙ h.first e;
    stops = λ e. ap (λ (z : DueState). z.stopped) (state_reported d) ∙ h.stops e;
  }

  pub turn_reported : (d : Call) → IsInTurn s d → IsInTurn t (f d)
  turn_reported d h = record { unfollowed = h.unfollowed; latest = h.latest; numbers = h.numbers; counted = h.counted }
