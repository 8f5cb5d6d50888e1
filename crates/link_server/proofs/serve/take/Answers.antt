use Rattle.std.proofs.Common.{◌∙◌, refl, sym}
use Rattle.link_server.specs.Serves.{over_of}
use Rattle.link_server.proofs.ServeLaws.{cause_as, ended_cause, failed_cause, in_none, in_one, quiet_cause, refused_cause, refused_not_written}
use Rattle.link_server.proofs.serve.take.Goals as goal

pub returns-in-Got-clause-into : goal.returns-in-Got-clause-into
returns-in-Got-clause-into g c = in_one _ _ _ _ _ _ c.in-Got.ensures.bytes.2 c.hand.ensures.given

pub returns-in-Got-clause-cause : goal.returns-in-Got-clause-cause
returns-in-Got-clause-cause g c = λ writes. cause_as c.hand.result (over_of c.answered.result) _ _ _ (sym c.answered.ensures) (refused_cause c.hand.result _ _ _ _ _ _ writes _ c.hand.ensures.cause c.in-Got.ensures.faults)

pub returns-in-Got-clause-written : goal.returns-in-Got-clause-written
returns-in-Got-clause-written g c = λ e. refused_not_written c.hand.result _ _ _ _ c.hand.ensures.cause (sym c.answered.ensures ∙ e)

pub returns-in-Quiet-clause-into : goal.returns-in-Quiet-clause-into
returns-in-Quiet-clause-into g c = in_none _ _ _ _ _ (λ link. refl) c.in-Quiet.ensures.bytes

pub returns-in-Quiet-clause-cause : goal.returns-in-Quiet-clause-cause
returns-in-Quiet-clause-cause g c = λ writes. quiet_cause _ _ _ _ writes (g.I.LinkIn.left c.args.input.now) c.in-Quiet.ensures.faults

pub returns-in-End-clause-into : goal.returns-in-End-clause-into
returns-in-End-clause-into g c = in_none _ _ _ _ _ (λ link. refl) c.in-End.ensures.bytes.1

pub returns-in-End-clause-cause : goal.returns-in-End-clause-cause
returns-in-End-clause-cause g c = λ writes. ended_cause _ _ _ _ writes _ _ c.in-End.ensures.faults c.in-End.ensures.bytes.0 c.in-End.ensures.bytes.1

pub returns-in-Failed-clause-into : goal.returns-in-Failed-clause-into
returns-in-Failed-clause-into g c = in_none _ _ _ _ _ (λ link. refl) c.in-Failed.ensures.bytes

pub returns-in-Failed-clause-cause : goal.returns-in-Failed-clause-cause
returns-in-Failed-clause-cause g c = λ writes. failed_cause _ _ _ _ writes (g.I.LinkIn.left c.args.input.now) c.in-Failed.ensures.faults
