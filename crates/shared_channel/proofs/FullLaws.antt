-- A history that is nearly full: it stays so, and a step that finds no room says so.
use Rattle.std.proofs.Common.{◌≡◌, ◌≤◌, ◌∙◌, ◌↔◌, ◌||◌, ℕ, ◌+◌, Bool, true, false, Result, Err, List, length, ap, arith, inl, inr, length-append, sym}
use Rattle.std.proofs.Math.Nat.{min-le_left}
use Rattle.std.proofs.lemmas.List.Sums.{sum_by-append}
use Rattle.grpc_base.specs.declared.event.Entry.{Entry}
use Rattle.grpc_base.specs.declared.event.Event.{Event}
use Rattle.grpc_base.specs.declared.event.Reply.{Reply}
use Rattle.channel_core.specs.Core.{CoreSeen, IsFull}
use Rattle.channel_core.specs.Sizes.{counted, journal_bytes, kept_bytes}
use Rattle.channel_core.specs.declared.channel.CoreError.{CoreError}
use Rattle.channel_core.specs.declared.channel.CoreError.TheVariants as faults
use Rattle.turn_lock.specs.History.{StartsWith}
use Rattle.shared_channel.specs.Errors.{FindsNearlyFull}
use Rattle.shared_channel.specs.Histories.{IsNearlyFull, IsNearlyFullAt}

full_at_more : (n m a b : ℕ) → n ≤ m → a ≤ b → IsNearlyFullAt n a → IsNearlyFullAt m b
full_at_more n m a b longer more (inl many) = inl (omega (arith, longer, many))
full_at_more n m a b longer more (inr large) = inr (omega (arith, more, large))

pub full_more : (es new : List Entry) → StartsWith new es → IsNearlyFull es → IsNearlyFull new
full_more es new (rest, is) full =
    let long : length new ≡ length es + length rest = ap length is ∙ length-append es rest in
    let bytes : journal_bytes new ≡ journal_bytes es + journal_bytes rest = ap journal_bytes is ∙ sum_by-append (λ (e : Entry). kept_bytes e.event e.reply) es rest in
    full_at_more (length es) (length new) (journal_bytes es) (journal_bytes new) (omega (arith, long)) (omega (arith, bytes)) full

-- what a step that failed found
found_by : (core : CoreSeen) (e : Event) (entries bytes : ℕ) → IsFull core e entries bytes → IsNearlyFullAt entries bytes → IsNearlyFull core.journal.entries
found_by core e entries bytes is full =
    let least : counted (journal_bytes core.journal.entries) ≤ journal_bytes core.journal.entries = min-le_left _ _ in
    let many = is.2 in
    let large = is.3 in
    full_at_more entries (length core.journal.entries) bytes (journal_bytes core.journal.entries) (omega (arith, many)) (omega (arith, large, least)) full

pub full_found : (core : CoreSeen) (e : Event) (r : Result Reply CoreError) (error : CoreError) → r ≡ Err error
    → ((entries bytes : ℕ) → (r ≡ Err (faults.SessionFull entries bytes)) ↔ IsFull core e entries bytes) → FindsNearlyFull error → IsNearlyFull core.journal.entries
full_found core e r (faults.NoMemory spent) is full found = absurd found
full_found core e r (faults.SessionFull entries bytes) is full found = found_by core e entries bytes ((full entries bytes).0 is) found

-- what was found before, or is found by this step
pub full_either : (now before finds : Bool) (old new : List Entry) → now ≡ (before || finds) → StartsWith new old → (before ≡ true → IsNearlyFull old) → (finds ≡ true → IsNearlyFull old) → now ≡ true → IsNearlyFull new
full_either now before finds old new is later was found so = by_test before finds (sym is ∙ so) was found
  where
    by_test : (a b : Bool) → (a || b) ≡ true → (a ≡ true → IsNearlyFull old) → (b ≡ true → IsNearlyFull old) → IsNearlyFull new
    by_test true b e p q = full_more old new later (p e)
    by_test false b e p q = full_more old new later (q e)
