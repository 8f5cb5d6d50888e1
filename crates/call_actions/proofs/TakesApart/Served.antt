-- Where nothing changed of a call, and nothing came or was written for it, the channel holds for it what the session has.
use Rattle.attempt_buffer.specs.Buffers.{Buffered, taken_by, text_of}
use Rattle.call_actions.specs.Order.{AttemptsAreNumbered}
use Rattle.call_core.specs.Laws as channel
use Rattle.call_actions.proofs.CallsApart.Acts.{IsIn, in_filter}
use Rattle.call_actions.proofs.CallsApart.Kept.{commitment_same, due_same, made_same, plan_same}
use Rattle.call_actions.proofs.CallsApart.Seen.{counted_by, others_are_seen, ledgers_are_shared}
use Rattle.call_actions.specs.CallsApart.Apart.{IsApart, run_number}
use Rattle.grpc_base.specs.declared.event.Reply.{Reply}
use Rattle.grpc_base.specs.declared.plan.CallPlan.{CallPlan}
use Rattle.grpc_frame.specs.Messages.{framed_all}
use Rattle.service_config.specs.Choice.{chosen_for}
use Rattle.session_actions.specs.Attempts.{commitment, is_commitment, is_of, is_outstanding}
use Rattle.session_actions.specs.Configs.{no_choice, plan_of}
use Rattle.session_actions.specs.Deliveries.{response_items}
use Rattle.session_actions.specs.DueAttempts.{attempts_made, due_by, due_state}
use Rattle.session_actions.specs.Responses.{response}
use Rattle.session_actions.specs.Words.{find_last, numbered, sooner}
use Rattle.session_actions.specs.Writing.{drained}
use Rattle.session_actions.specs.declared.attempt.Attempt.{Attempt}
use Rattle.session_actions.specs.declared.call.Call.{Call}
use Rattle.session_actions.specs.declared.config.HeldConfig.{HeldConfig}
use Rattle.session_actions.specs.declared.seen.Seen.{Seen}
use Rattle.std.proofs.Common.{Bool, List, None, Option, Some, [], cond, false, filter, if◌then◌else◌, is_some, option_map, refl, slice_get, suc, sym, true, zero, ℕ, ◌+◌, ◌∙◌, ◌∷◌, ◌≡◌, ap, subst}
use Rattle.std.proofs.lemmas.Bool.{and_parts}
use Rattle.std.specs.List.{AllByRecursion}
use Rattle.std.specs.Option.{option_map_or, option_or}
use Rattle.call_actions.proofs.TakeActions.Lists.{IsThere, there}
use Rattle.call_actions.specs.TakeActions.Serves.{AttemptsAreFed, AttemptsStandInPlace, Holds, IsAt, IsFed, IsLeft, came, drained_so_far, passed}
use Rattle.call_actions.specs.TakesApart.Received.{IsReceivedAlike}
use Rattle.call_actions.specs.TakesApart.Laws.{DeadlinesStay, OthersAreDue, OthersAreServed, ServedTogether}

-- the places of attempts
placed_so : (n : ℕ) (xs : List Attempt) → AttemptsAreNumbered n xs → AttemptsStandInPlace n xs
placed_so n [] p = tt
placed_so n (x ∷ xs) p = (p.0, placed_so (suc n) xs p.1)

-- of those of the call each is at its place
all_in : (P Q : Attempt → Type 0) (xs : List Attempt) → ((i : ℕ) (a : Attempt) → slice_get xs i ≡ Some a → P a → Q a) → AllByRecursion P xs → AllByRecursion Q xs
all_in P Q [] turn h = tt
all_in P Q (x ∷ xs) turn h = (turn 0 x refl h.0, all_in P Q xs (λ i a got. turn (suc i) a got) h.1)

own_by : (c : Call) (x : Attempt) (xs : List Attempt) (b : Bool) → is_of c x ≡ b → (i : ℕ) (a : Attempt) → slice_get (cond b (x ∷ filter (is_of c) xs) (filter (is_of c) xs)) i ≡ Some a
    → ((j : ℕ) → slice_get (filter (is_of c) xs) j ≡ Some a → is_of c a ≡ true) → is_of c a ≡ true
own_by c x xs true e zero a got rest = let one : x ≡ a = (cc) in sym (ap (is_of c) one) ∙ e
own_by c x xs true e (suc i) a got rest = rest i got
own_by c x xs false e i a got rest = rest i got

-- the last one that passes a test does
last_by : (p : Attempt → Bool) (x : Attempt) (b : Bool) (o : Option Attempt) (a : Attempt) → p x ≡ b → ((q : Attempt) → o ≡ Some q → p q ≡ true)
    → option_or o (if b then Some x else None) ≡ Some a → p a ≡ true
last_by p x b (Some q) a e rest got = let one : q ≡ a = (cc) in rest a (ap (λ (z : Attempt). Some z) one)
last_by p x true None a e rest got = let one : x ≡ a = (cc) in sym (ap p one) ∙ e
last_by p x false None a e rest got = absurd (cc)

last_passes : (p : Attempt → Bool) (xs : List Attempt) (a : Attempt) → find_last p xs ≡ Some a → p a ≡ true
last_passes p [] a got = absurd (cc)
last_passes p (x ∷ xs) a got = last_by p x (p x) (find_last p xs) a refl (λ q e. last_passes p xs q e) got

own_at : (c : Call) (xs : List Attempt) (i : ℕ) (a : Attempt) → slice_get (filter (is_of c) xs) i ≡ Some a → is_of c a ≡ true
own_at c [] i a got = absurd (cc)
own_at c (x ∷ xs) i a got = own_by c x xs (is_of c x) refl i a got (λ j there_too. own_at c xs j a there_too)

module _ (s t : Seen) (c : Call) (k : IsApart s t c) (handled : IsReceivedAlike s t c) (own : numbered s.calls c.number ≡ Some c) (places : AttemptsAreNumbered 1 s.attempts) where
  -- the attempt to which it is committed is one of it
  came_by : (o : Option Attempt) → ((a : Attempt) → o ≡ Some a → IsIn s.attempts a × (is_of c a ≡ true))
      → option_map_or (λ (a : Attempt). response_items (response a t)) o [] ≡ option_map_or (λ (a : Attempt). response_items (response a s)) o []
  came_by None there = refl
  came_by (Some a) there =
      let i : IsIn s.attempts a × (is_of c a ≡ true) = there a refl in handled.came (suc i.0.index) a i.0.here i.1

  drained_by : (o : Option Attempt) → ((a : Attempt) → o ≡ Some a → IsIn s.attempts a × (is_of c a ≡ true))
      → option_map_or (λ (a : Attempt). drained a t) o 0 ≡ option_map_or (λ (a : Attempt). drained a s) o 0
  drained_by None there = refl
  drained_by (Some a) there =
      let i : IsIn s.attempts a × (is_of c a ≡ true) = there a refl in handled.written (suc i.0.index) a i.0.here i.1

  there_now : (a : Attempt) → commitment c s ≡ Some a → IsIn s.attempts a × (is_of c a ≡ true)
  there_now a e =
      let i : IsThere 1 s.attempts a = there 1 s.attempts (placed_so 1 s.attempts places) (is_commitment c) a e in
      let passes : is_commitment c a ≡ true = last_passes (is_commitment c) s.attempts a e in
      (record { index = i.index; here = i.here }, (and_parts (is_of c a) (is_some a.row.committed) passes).0)

  pub came_same : came c t ≡ came c s
  came_same =
      ap (λ (o : Option Attempt). option_map_or (λ (a : Attempt). response_items (response a t)) o []) (commitment_same s t c k own)
      ∙ came_by (commitment c s) there_now

  pub drained_same : drained_so_far c t ≡ drained_so_far c s
  drained_same =
      ap (λ (o : Option Attempt). option_map_or (λ (a : Attempt). drained a t) o 0) (commitment_same s t c k own) ∙ drained_by (commitment c s) there_now

  fed_one : (b : Buffered) (i : ℕ) (a : Attempt) → slice_get (filter (is_of c) s.attempts) i ≡ Some a
      → IsFed (taken_by a.place b) (text_of b) (is_outstanding a) (drained a s) (framed_all c.messages)
      → IsFed (taken_by a.place b) (text_of b) (is_outstanding a) (drained a t) (framed_all c.messages)
  fed_one b i a got fed =
      let j : IsIn s.attempts a = in_filter (is_of c) s.attempts i a got in
      subst (λ (n : ℕ). IsFed (taken_by a.place b) (text_of b) (is_outstanding a) n (framed_all c.messages))
      (sym (handled.written (suc j.index) a j.here (own_at c s.attempts i a got))) fed

  pub fed_same : (b : Buffered) → AttemptsAreFed s c b (filter (is_of c) s.attempts) → AttemptsAreFed t c b (filter (is_of c) t.attempts)
  fed_same b fed =
      subst (AttemptsAreFed t c b) (sym k.attempts)
      (all_in (λ (a : Attempt). IsFed (taken_by a.place b) (text_of b) (is_outstanding a) (drained a s) (framed_all c.messages))
      (λ (a : Attempt). IsFed (taken_by a.place b) (text_of b) (is_outstanding a) (drained a t) (framed_all c.messages)) (filter (is_of c) s.attempts)
      (λ i a got one. fed_one b i a got one) fed)

  pub held_same : (b : Buffered) → Holds s c b → Holds t c b
  held_same b h = record {
    fed = fed_same b h.fed;
    held = subst (λ (n : ℕ). IsAt (passed b) (text_of b) n (framed_all c.messages)) (sym drained_same) h.held;
    committed = h.committed ∙ sym (ap (λ (o : Option Attempt). is_some o) (commitment_same s t c k own));
  }

pub others_are_served : OthersAreServed
others_are_served s t c x ledger acts k handled book h order recorded linked = record {
  sees = others_are_seen s t c x ledger acts k h.sees order recorded;
  places = placed_so 1 t.attempts book.places;
  config = h.config ∙ sym (ap (λ (o : Option HeldConfig). is_some o) k.config);
  links = linked.links;
  reads = linked.reads;
  counted = counted_by t book.counted (run_number c t);
  end_taken = h.end_taken;
  going = h.going;
  left = λ e. subst (λ (all : List Reply). IsLeft all c.taken (channel.came x.call)) (sym (came_same s t c k handled h.sees.own order.places)) (h.left e);
  holds = λ is_open. held_same s t c k handled h.sees.own order.places x.call.buffer (h.holds is_open);
}

pub served_together : ServedTogether
served_together s t c d x y acts k handled book h order g same =
    others_are_served s t c x y.ledger acts k handled book h order (ledgers_are_shared s t c d x y k h.sees g.sees same) (record { links = g.links; reads = g.reads })

pub others_are_due : OthersAreDue
others_are_due s t c k own order =
    ap (λ (p : CallPlan). due_by p (attempts_made c t) (due_state c t)) (plan_same s t c k own)
    ∙ ap (λ (n : ℕ). due_by (plan_of c s) n (due_state c t)) (made_same s t c k own)
    ∙ ap (due_by (plan_of c s) (attempts_made c s)) (due_same s t c k own order.marks)

pub deadlines_stay : DeadlinesStay
deadlines_stay s t c k =
    ap (λ (o : Option HeldConfig). option_map (λ (timeout : ℕ). c.begun_at + timeout) (sooner c.request.timeout (option_map_or (λ (h : HeldConfig). chosen_for h.config c.request.path) o no_choice).timeout))
    k.config
