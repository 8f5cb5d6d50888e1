-- An entry is being made.
use Rattle.std.proofs.Common.{◌≡◌, OnOk, Option, ap, subst, sym}
use Rattle.session_actions.specs.Actions.{after_if}
use Rattle.session_actions.specs.declared.entry.OpenEntry.{OpenEntry}
use Rattle.session_actions.specs.declared.seen.Seen.{Seen}
use Rattle.slow_session.proofs.adding.after.Goals as goal

pub returns-in-Some : goal.returns-in-Some
returns-in-Some c =
    subst (λ (t : Seen). OnOk c.after_in.result (c.after_in.new.seen ≡ t))
    (ap (λ (o : Option OpenEntry). after_if o c.args.action c.args.seen.now) (sym c.in-Some.is))
    (c.after_in.ensures c.in-Some.field-0 c.in-Some.is)
