-- What the channel's sets say of other calls is as before.
use Rattle.call_actions.proofs.CallsApart.Kept.{over_same}
use Rattle.call_actions.proofs.CallsApart.Seen.{all_numbered}
use Rattle.call_actions.specs.CallsApart.Apart.{IsApart}
use Rattle.channel_actions.specs.Calls.{HasSlot, SeesCalls, deadline_of, due_of}
use Rattle.channel_actions.specs.Sets.{is_awaiting_config, is_in_deadlines, is_in_dues, is_ready_waiter, is_waiting}
use Rattle.channel_core.specs.States.{StateSeen}
use Rattle.call_cases.proofs.OtherCalls.Rows.{apart_at, calls_same, number_is, own_of, row_before, rows_same}
use Rattle.call_cases.specs.OtherCalls.Laws.{SetsApart, SetsStay}
use Rattle.call_cases.specs.OtherCalls.Others.{GoesApart}
use Rattle.service_config.specs.Choice.{chosen_for}
use Rattle.session_actions.specs.Attempts.{call_of, is_of, is_outstanding, is_queued}
use Rattle.session_actions.specs.Calls.{is_open_call}
use Rattle.session_actions.specs.Configs.{no_choice, waits_for_ready}
use Rattle.session_actions.specs.Links.{link_number}
use Rattle.session_actions.specs.Words.{holds, is_number, numbered}
use Rattle.session_actions.specs.declared.attempt.Attempt.{Attempt}
use Rattle.session_actions.specs.declared.call.Call.{Call}
use Rattle.session_actions.specs.declared.config.HeldConfig.{HeldConfig}
use Rattle.session_actions.specs.declared.seen.Seen.{Seen}
use Rattle.std.proofs.Common.{Bool, None, Option, Some, ap, eqb-true, false, if◌then◌else◌, is_none, is_some, not, refl, sym, true, unwrap_or, ℕ, ◌&&◌, ◌==◌, ◌∙◌, ◌≡◌}
use Rattle.std.specs.List.{list_all}
use Rattle.std.specs.Option.{option_map_or, option_or}
use Rattle.call_actions.proofs.TakesApart.Served.{deadlines_stay, others_are_due}

-- of a call that is not there no attempt waits
none_by : (z : Seen) (k : ℕ) (a : Attempt) (b : Bool) → (a.row.call == k) ≡ b → is_some (call_of a z) ≡ true → numbered z.calls k ≡ None → (b && is_queued a z) ≡ false
none_by z k a false e owned none = refl
none_by z k a true e owned none =
    let gone : call_of a z ≡ None = ap (numbered z.calls) (eqb-true a.row.call k e) ∙ none in
    let both : true ≡ false = sym owned ∙ ap (λ (o : Option Call). is_some o) gone in absurd (cc)

none_at : (z : Seen) (k row : ℕ) (o : Option Attempt) → numbered z.attempts row ≡ o → list_all (λ (a : Attempt). is_some (call_of a z)) z.attempts ≡ true → numbered z.calls k ≡ None
    → holds (λ (a : Attempt). (a.row.call == k) && is_queued a z) o ≡ false
none_at z k row None got owned none = refl
none_at z k row (Some a) got owned none =
    none_by z k a (a.row.call == k) refl (all_numbered (λ (q : Attempt). is_some (call_of q z)) z.attempts row a owned got) none

none_waits : (z : Seen) (k row : ℕ) → list_all (λ (a : Attempt). is_some (call_of a z)) z.attempts ≡ true → numbered z.calls k ≡ None → is_waiting z k row ≡ false
none_waits z k row owned none = none_at z k row (numbered z.attempts row) refl owned none

holds_both : (p q : Attempt → Bool) (o : Option Attempt) → holds p o ≡ false → holds (λ (a : Attempt). p a && q a) o ≡ false
holds_both p q None e = refl
holds_both p q (Some a) e = ap (λ (b : Bool). b && q a) e

module _ (number : ℕ) (s t : Seen) (g : GoesApart number s t) where
  -- the rows of another call
  module _ (c : Call) (k : IsApart s t c) (own : numbered s.calls c.number ≡ Some c) (row : ℕ) where
    own_not : (o : Option Attempt) → numbered t.attempts row ≡ o → holds (is_of c) (numbered s.attempts row) ≡ false → holds (is_of c) o ≡ false
    own_not None got off = refl
    own_not (Some a) got off = own_if a got off (is_of c a) refl
      where
        own_if : (a : Attempt) → numbered t.attempts row ≡ Some a → holds (is_of c) (numbered s.attempts row) ≡ false → (b : Bool) → is_of c a ≡ b → b ≡ false
        own_if a got off false e = refl
        own_if a got off true e =
            let both : true ≡ false = sym (ap (holds (is_of c)) (row_before number s t g c k row a got e) ∙ e) ∙ off in absurd (cc)

    queued_same : (o : Option Attempt) → holds (is_of c) o ≡ true
        → holds (λ (a : Attempt). (a.row.call == c.number) && is_queued a t) o ≡ holds (λ (a : Attempt). (a.row.call == c.number) && is_queued a s) o
    queued_same None mine = refl
    queued_same (Some a) mine =
        ap (λ (b : Bool). (a.row.call == c.number) && ((is_none a.row.placed && is_none a.row.ended) && not b)) (over_same s t c k own a mine)

    waits_by : (b : Bool) → holds (is_of c) (numbered s.attempts row) ≡ b → is_waiting t c.number row ≡ is_waiting s c.number row
    waits_by true mine =
        ap (holds (λ (a : Attempt). (a.row.call == c.number) && is_queued a t)) (k.rows row mine) ∙ queued_same (numbered s.attempts row) mine
    waits_by false off =
        holds_both (is_of c) (λ (a : Attempt). is_queued a t) (numbered t.attempts row) (own_not (numbered t.attempts row) refl off)
        ∙ sym (holds_both (is_of c) (λ (a : Attempt). is_queued a s) (numbered s.attempts row) off)

  waiting_by : (k row : ℕ) (o : Option Call) → numbered s.calls k ≡ o → (k == number) ≡ false → is_waiting t k row ≡ is_waiting s k row
  waiting_by k row None e off = none_waits t k row g.later.owned (calls_same number s t g k off ∙ e) ∙ sym (none_waits s k row g.earlier.owned e)
  waiting_by k row (Some c) e off =
      let one : c.number ≡ k = number_is number s t g k c e in
      ap (λ (n : ℕ). is_waiting t n row) (sym one)
      ∙ waits_by c (apart_at number s t g k c e off) (own_of number s t g k c e) row (holds (is_of c) (numbered s.attempts row)) refl
      ∙ ap (λ (n : ℕ). is_waiting s n row) one

  waiting_same : (k row : ℕ) → (k == number) ≡ false → is_waiting t k row ≡ is_waiting s k row
  waiting_same k row off = waiting_by k row (numbered s.calls k) refl off

  -- what is said of a call
  of_call : (p q : Call → Bool) (k : ℕ) → (k == number) ≡ false → ((c : Call) → numbered s.calls k ≡ Some c → q c ≡ p c)
      → holds q (numbered t.calls k) ≡ holds p (numbered s.calls k)
  of_call p q k off same = ap (holds q) (calls_same number s t g k off) ∙ by (numbered s.calls k) refl
    where
      by : (o : Option Call) → numbered s.calls k ≡ o → holds q o ≡ holds p o
      by None e = refl
      by (Some c) e = same c e

  wait_for_ready_same : (k : ℕ) → (k == number) ≡ false → is_ready_waiter t k ≡ is_ready_waiter s k
  wait_for_ready_same k off =
      of_call (λ (c : Call). waits_for_ready c s) (λ (c : Call). waits_for_ready c t) k off
      (λ c e. let a : IsApart s t c = apart_at number s t g k c e off in
      ap (λ (o : Option HeldConfig). unwrap_or (option_or c.request.wait (option_map_or (λ (h : HeldConfig). chosen_for h.config c.request.path) o no_choice).wait) false) a.config)

  unconfigured_same : (zero_ k : ℕ) → (k == number) ≡ false → is_awaiting_config t zero_ k ≡ is_awaiting_config s zero_ k
  unconfigured_same zero_ k off =
      ap (λ (b : Bool). (zero_ == 0) && b)
      (of_call (λ (c : Call). is_open_call c && is_none c.config) (λ (c : Call). is_open_call c && is_none c.config) k off (λ c e. refl))

  module _ (x : StateSeen) (h : SeesCalls x s) where
    dues_same : (moment k : ℕ) → (k == number) ≡ false → is_in_dues t moment k ≡ is_in_dues s moment k
    dues_same moment k off =
        of_call (λ (c : Call). is_number moment (due_of s c)) (λ (c : Call). is_number moment (due_of t c)) k off
        (λ c e. let there : HasSlot x s c k = h.each k c e in
        ap (λ (o : Option ℕ). is_number moment (if is_open_call c then o else None))
        (others_are_due s t c (apart_at number s t g k c e off) (own_of number s t g k c e) there.sees.order))

    deadlines_same : (moment k : ℕ) → (k == number) ≡ false → is_in_deadlines t moment k ≡ is_in_deadlines s moment k
    deadlines_same moment k off =
        of_call (λ (c : Call). is_number moment (deadline_of s c)) (λ (c : Call). is_number moment (deadline_of t c)) k off
        (λ c e. ap (λ (o : Option ℕ). is_number moment (if is_open_call c then o else None)) (deadlines_stay s t c (apart_at number s t g k c e off)))

    pub sets_apart : SetsApart number s t
    sets_apart = record {
      queue = λ k row off. ap (λ (b : Bool). b && not (is_ready_waiter t k)) (waiting_same k row off) ∙ ap (λ (b : Bool). is_waiting s k row && not b) (wait_for_ready_same k off);
      ready_waiters = λ k row off. ap (λ (b : Bool). b && is_ready_waiter t k) (waiting_same k row off) ∙ ap (λ (b : Bool). is_waiting s k row && b) (wait_for_ready_same k off);
      dues = dues_same;
      deadlines = deadlines_same;
      awaiting_config = unconfigured_same;
      fail_fast = λ zero_ k off. ap (λ (b : Bool). b && not (is_ready_waiter t k)) (unconfigured_same zero_ k off) ∙ ap (λ (b : Bool). is_awaiting_config s zero_ k && not b) (wait_for_ready_same k off);
      outstanding = λ link row off. ap (holds (λ (a : Attempt). is_outstanding a && (link_number a == link))) (rows_same number s t g row off);
    }

pub sets_stay : SetsStay
sets_stay number x s t g h = sets_apart number s t g x h
