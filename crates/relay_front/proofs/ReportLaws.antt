-- What the answer of a turn says of the posts that failed.
use Rattle.std.proofs.Common.{◌≡◌, Option, Result, Ok, Err, sym, subst, ap, ◌∙◌}
use Rattle.grpc_base.specs.Counts.{one_more}
use Rattle.grpc_base.specs.declared.event.Reply.{Reply}
use Rattle.grpc_base.specs.declared.post.PostError.{PostError}
use Rattle.live_pump.specs.Pumps.{HandleSeen}
use Rattle.relay_calls.specs.Posting.{ReportsThat}
use Rattle.relay_calls.specs.Taking.{ReportsError}
use Rattle.relay_calls.specs.declared.fault.CallsFault.{CallsFault}
use Rattle.relay_calls.specs.declared.fault.CallsFault.TheVariants as fault
use Rattle.relay_front.specs.Rounds.{ReportsLink}
use Rattle.relay_front.specs.Turns.{GivenAs, ReportsTurn, answer_of, closed_with, turn_of}
use Rattle.relay_front.specs.declared.turned.RelayTurn.{RelayTurn}
use Rattle.relay_front.specs.declared.turned.RelayTurn.TheVariants as turn

pub turn_reports : (before after : HandleSeen) (f : CallsFault) → ReportsThat before after (Err f) → ReportsTurn before after (turn_of f)
turn_reports before after (fault.Gone r) h = h
turn_reports before after (fault.Failed error) h = h
turn_reports before after fault.NoMemory h = h

pub answer_reports : (before after : HandleSeen) (result : Result Unit CallsFault) → ReportsThat before after result → ReportsTurn before after (answer_of result)
answer_reports before after (Ok done) h = h
answer_reports before after (Err f) h = turn_reports before after f h

-- where no post failed before
pub turn_from : (start before after : HandleSeen) (t : RelayTurn) → before.errors ≡ start.errors → ReportsTurn before after t → ReportsTurn start after t
turn_from start before after turn.Going same h = h ∙ same
turn_from start before after (turn.Broken code) same h = h ∙ same
turn_from start before after (turn.Gone r) same h = (h.0 ∙ same, h.1)
turn_from start before after (turn.Failed error) same h = (h.0 ∙ ap one_more same, h.1)
turn_from start before after turn.NoMemory same h = h ∙ same

-- what a link's job answers after its rounds
pub link_from : (start before after : HandleSeen) (t : RelayTurn) → before.errors ≡ start.errors → ReportsTurn before after t → ReportsLink start after t
link_from start before after turn.Going same h = h ∙ same
link_from start before after (turn.Broken code) same h = tt
link_from start before after (turn.Gone r) same h = (h.0 ∙ same, h.1)
link_from start before after (turn.Failed error) same h = (h.0 ∙ ap one_more same, h.1)
link_from start before after turn.NoMemory same h = h ∙ same

pub link_turned : (start before : HandleSeen) (t : RelayTurn) → ReportsTurn start before t → ReportsLink start before t
link_turned start before turn.Going h = h
link_turned start before (turn.Broken code) h = tt
link_turned start before (turn.Gone r) h = h
link_turned start before (turn.Failed error) h = h
link_turned start before turn.NoMemory h = h

-- a Take whose item was given
pub given_reports : (before after : HandleSeen) (came : Result (Option Reply) PostError) (result : Result Unit CallsFault) → ReportsError before after came → GivenAs came result → ReportsThat before after result
given_reports before after (Ok item) (Ok done) h g = h
given_reports before after (Ok item) (Err f) h g = subst (λ (x : CallsFault). ReportsThat before after (Err x)) (sym g) h
given_reports before after (Err error) result h g = subst (λ (x : Result Unit CallsFault). ReportsThat before after x) (sym g) h

pub answered_reports : (before after : HandleSeen) (came : Result Unit CallsFault) (t : RelayTurn) → t ≡ answer_of came → ReportsThat before after came → ReportsTurn before after t
answered_reports before after came t is h = subst (λ (x : RelayTurn). ReportsTurn before after x) (sym is) (answer_reports before after came h)

pub faulted_reports : (before after : HandleSeen) (f : CallsFault) (t : RelayTurn) → t ≡ turn_of f → ReportsThat before after (Err f) → ReportsTurn before after t
faulted_reports before after f t is h = subst (λ (x : RelayTurn). ReportsTurn before after x) (sym is) (turn_reports before after f h)
