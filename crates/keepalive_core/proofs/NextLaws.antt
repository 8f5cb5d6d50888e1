-- When a turn first answers other than Nothing.
use Rattle.std.proofs.Common.{◌≡◌, ◌≢◌, ◌≤◌, ◌<◌, ◌+◌, ℕ, Bool, true, false, if◌then◌else◌, Option, Some, None, max, sym, ap, subst, ◌∙◌}
use Rattle.std.proofs.lemmas.Bool.{le-leb, lt-leb}
use Rattle.keepalive_core.specs.Keepalive.{KeepSeen, due_at, due_going, keep_turn, next_due, turn_at, turn_going}
use Rattle.keepalive_core.specs.declared.rule.KeepTurn.{KeepTurn}
use Rattle.keepalive_core.specs.declared.rule.KeepTurn.TheVariants as turn

going_before : (k : KeepSeen) (now : ℕ) (o : Option ℕ) → now < due_going k o → turn_going k now o ≡ turn.Nothing
going_before k now (Some sent) late = ap (λ (b : Bool). if b then turn.Lost k.heard sent else turn.Nothing) (lt-leb (sent + k.rule.timeout) now late)
going_before k now None late = ap (λ (b : Bool). if b then turn.SendPing (k.pings + 1) else turn.Nothing) (lt-leb (k.heard + k.rule.time) now late)

lost_is : (heard sent : ℕ) → turn.Lost heard sent ≢ turn.Nothing
lost_is heard sent is = (cc)

ping_is : (word : ℕ) → turn.SendPing word ≢ turn.Nothing
ping_is word is = (cc)

going_from : (k : KeepSeen) (now : ℕ) (o : Option ℕ) → due_going k o ≤ now → turn_going k now o ≢ turn.Nothing
going_from k now (Some sent) due is = lost_is k.heard sent (sym (ap (λ (b : Bool). if b then turn.Lost k.heard sent else turn.Nothing) (le-leb (sent + k.rule.timeout) now due)) ∙ is)
going_from k now None due is = ping_is (k.pings + 1) (sym (ap (λ (b : Bool). if b then turn.SendPing (k.pings + 1) else turn.Nothing) (le-leb (k.heard + k.rule.time) now due)) ∙ is)

pub before_next : (k : KeepSeen) (moment : ℕ) → k.lost ≡ None → max k.moment moment < next_due k → keep_turn k moment ≡ turn.Nothing
before_next k moment none late =
    ap (λ (o : Option ℕ). turn_at k moment o) none ∙ going_before k (max k.moment moment) k.sent (subst (λ (n : ℕ). max k.moment moment < n) (ap (λ (o : Option ℕ). due_at k o) none) late)

pub from_next : (k : KeepSeen) (moment : ℕ) → k.lost ≡ None → next_due k ≤ max k.moment moment → keep_turn k moment ≢ turn.Nothing
from_next k moment none due is =
    going_from k (max k.moment moment) k.sent (subst (λ (n : ℕ). n ≤ max k.moment moment) (ap (λ (o : Option ℕ). due_at k o) none) due) (sym (ap (λ (o : Option ℕ). turn_at k moment o) none) ∙ is)
