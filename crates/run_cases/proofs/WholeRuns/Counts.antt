-- What is few in a run: links, dials, calls, and attempts; and that pick_first is among the policies.
use Rattle.std.proofs.lemmas.List.{length-map}
use Rattle.session_actions.specs.declared.attempt.Attempt.{Attempt}
use Rattle.event_cases.specs.FewStreams.Laws.{AttemptsAreFew}
use Rattle.std.proofs.Common.{Bool, List, ap, arith, if◌then◌else◌, is_some, length, nat_le, refl, suc, sym, true, ℕ, ◌*◌, ◌+◌, ◌-◌, ◌<◌, ◌∙◌, ◌∷◌, [], ◌≡◌, ◌≤◌}
use Rattle.std.proofs.lemmas.Bool.{and_parts, leb-true}
use Rattle.std.specs.List.{list_all}
use Rattle.channel_actions.proofs.Calls.Few.Walk.{calls_are_few}
use Rattle.channel_actions.proofs.Posted.{kinds_same}
use Rattle.channel_actions.specs.Agrees.{Agrees}
use Rattle.channel_actions.specs.FewCalls.Laws.{DialsAreFew, LinksAreFew}
use Rattle.channel_actions.specs.Known.{IsKnown}
use Rattle.channel_actions.specs.SoundCalls.Sound.{all_attempts, to_come}
use Rattle.run_cases.proofs.KnownNets.Results.{setup_along}
use Rattle.run_cases.proofs.KnownStages.Deadlines.{below, one_more}
use Rattle.channel_core.specs.States.{StateSeen}
use Rattle.channel_core.specs.declared.state.slots.CallSlot.{CallSlot}
use Rattle.grpc_base.specs.Kinds.{KindsSeen, has_kind}
use Rattle.grpc_base.specs.declared.kind.Kind.TheVariants as kind
use Rattle.net_actions.specs.Laws.{DialCountsFit}
use Rattle.policy_rack.specs.Kinds.{kinds_of}
use Rattle.session_actions.specs.Configs.{kinds_in}
use Rattle.session_actions.specs.Entries.{entry}
use Rattle.session_actions.specs.Sessions.{new_session}
use Rattle.session_actions.specs.declared.seen.Seen.{Seen}
use Rattle.session_actions.specs.declared.seen.Setup.{Setup}
use Rattle.session_actions.specs.declared.subchannel.Subchannel.{Subchannel}

-- entries, with the one that is being made
entries_known : (x : StateSeen) (s : Seen) → IsKnown x s → entry s ≤ 1048576
entries_known x s known =
    let b : length s.entries < 1048576 = below (length s.entries) 1048576 known.few in
    let c : (if is_some s.current then 1 else 0) ≤ 1 = one_more (is_some s.current) in omega (arith, b, c)

pub links_known : LinksAreFew → (x : StateSeen) (s : Seen) → IsKnown x s → length s.links < 4294967295
links_known links x s known =
    let a : length s.links ≤ entry s = links known.reached.setup known.reached.actions s known.reached.does in
    let b : entry s ≤ 1048576 = entries_known x s known in
    below_on (length s.links) (entry s) a b
  where
    below_on : (n m : ℕ) → n ≤ m → m ≤ 1048576 → n < 4294967295
    below_on n m e f = omega (arith, e, f)

few_dials : (n : ℕ) (subs : List Subchannel) → n ≤ 1048576 → list_all (λ (b : Subchannel). nat_le b.dials n) subs ≡ true → DialCountsFit subs
few_dials n [] less e = tt
few_dials n (b ∷ subs) less e =
    let both = and_parts (nat_le b.dials n) (list_all (λ (c : Subchannel). nat_le c.dials n) subs) e in
    let one : b.dials ≤ n = leb-true b.dials n both.0 in (omega (arith, one, less), few_dials n subs less both.1)

pub dials_known : DialsAreFew → (x : StateSeen) (s : Seen) → IsKnown x s → DialCountsFit s.subs
dials_known dials x s known =
    few_dials (entry s) s.subs (entries_known x s known) (dials known.reached.setup known.reached.actions s known.reached.does)

-- attempts: 5 of each call may still be made
five_each : (slots : List CallSlot) → to_come slots ≤ 5 * length slots
five_each [] = omega arith
five_each (slot ∷ slots) = more_on slot.call.attempts.sent (to_come slots) (length slots) (five_each slots)
  where
    more_on : (n k m : ℕ) → k ≤ 5 * m → (5 - n) + k ≤ 5 * suc m
    more_on n k m e = omega (arith, e)

pub attempts_known : AttemptsAreFew → (x : StateSeen) (s : Seen) → Agrees x s → IsKnown x s → all_attempts x < 8796093022208
attempts_known attempts x s h known =
    let few : length s.attempts < 7696581394432 = attempts x s known in
    let rows : length s.attempts ≡ length x.book.ledger.rows = sym (length-map s.attempts (λ (b : Attempt). b.row)) ∙ ap length h.columns.rows in
    let a : length s.calls ≤ entry s = calls_are_few known.reached.setup known.reached.actions s known.reached.does in
    let b : entry s ≤ 1048576 = entries_known x s known in
    let c : length s.calls ≡ length x.book.calls = h.calls.count in
    let d : to_come x.book.calls ≤ 5 * length x.book.calls = five_each x.book.calls in
    all_on (length s.attempts) (length x.book.ledger.rows) (to_come x.book.calls) (length x.book.calls) (length s.calls) (entry s) few rows d c a b
  where
    all_on : (n o k m i j : ℕ) → n < 7696581394432 → n ≡ o → k ≤ 5 * m → i ≡ m → i ≤ j → j ≤ 1048576 → o + k < 8796093022208
    all_on n o k m i j e f g p q r = omega (arith, e, f, g, p, q, r)

-- policies
pub first_known : (x : StateSeen) (s : Seen) → Agrees x s → IsKnown x s → has_kind (kinds_of x.net.asker.rack.policies) kind.PickFirst ≡ true
first_known x s h known =
    let same : kinds_in s.setup.policies ≡ kinds_of x.net.asker.rack.policies = kinds_same s.setup.policies x.net.asker.rack.policies h.net.kinds_are in
    let began : kinds_in s.setup.policies ≡ kinds_in known.reached.setup.policies
    = ap (λ (u : Setup). kinds_in u.policies) (setup_along known.reached.actions (new_session known.reached.setup) s known.reached.does) in
    ap (λ (ks : KindsSeen). has_kind ks kind.PickFirst) (sym same ∙ began) ∙ known.first
