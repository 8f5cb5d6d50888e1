-- The kinds of the events that the workers post who make calls.
use Rattle.std.proofs.Common.{◌≡◌, ◌⊎◌, ℕ, All, List, [], ◌∷◌, ◌++◌, ap, inl, inr, refl}
use Rattle.std.specs.List.{AllByRecursion}
use Rattle.std.proofs.lemmas.List.Elements.{recursion_from_All}
use Rattle.grpc_base.specs.declared.event.Entry.{Entry}
use Rattle.grpc_base.specs.declared.event.Event.TheVariants as event
use Rattle.grpc_base.specs.declared.script.CallLine.{CallLine}
use Rattle.live_pump.specs.Calls.{GoesOn, GoesOnPrefix, IsTake, LinePrefix, LinesPrefix, MakesLine, MakesLines, SendsAll}
use Rattle.live_pump.specs.Kinds.{AddsOnly}
use Rattle.live_pump.proofs.KindLaws.{adds_none, adds_one, adds_then}
use Rattle.live_run.specs.declared.outcome.Outcome.{Outcome}
use Rattle.live_run.specs.declared.outcome.Outcome.TheVariants as outcome
use Rattle.shared_channel.specs.Turns.{entries_of}
use Rattle.live_channel.specs.Sharing.{IsOfCall, is_of_call}
use Rattle.live_channel.proofs.EventLaws.{calls_own}
use Rattle.live_channel.proofs.OwnLaws.{each_weaker}
use Rattle.live_mode.specs.Handles.{MakesUpTo}

sends_of_calls : (call : ℕ) (messages : List (List ℕ)) (before after : List Entry) → SendsAll call messages before after → AddsOnly IsOfCall before after
sends_of_calls call [] before after same = adds_none IsOfCall before after same
sends_of_calls call (message ∷ messages) before after (next, r, adds, more) =
    adds_then IsOfCall before next after (adds_one IsOfCall (event.Send call message) before next r refl adds) (sends_of_calls call messages next after more)

takes_of_calls : (call : ℕ) (before after takes : List Entry) → All (IsTake call) takes → after ≡ before ++ takes → AddsOnly IsOfCall before after
takes_of_calls call before after takes each made = record {
  added = takes;
  made = made;
  each = each_weaker (IsTake call) (λ (e : Entry). IsOfCall e.event) (λ e take. ap is_of_call take.event_is) takes (recursion_from_All (IsTake call) takes each);
}

goes_on_of_calls : (line : CallLine) (call : ℕ) (before after : List Entry) → GoesOn line call before after → AddsOnly IsOfCall before after
goes_on_of_calls line call before after goes =
    adds_then IsOfCall before goes.sent after (sends_of_calls call line.messages before goes.sent goes.sends)
    (adds_then IsOfCall goes.sent goes.finished after (adds_one IsOfCall (event.Finish call) goes.sent goes.finished goes.r refl goes.finish)
    (adds_then IsOfCall goes.finished (goes.finished ++ goes.takes.takes) after (takes_of_calls call goes.finished (goes.finished ++ goes.takes.takes) goes.takes.takes goes.takes.each refl)
    (adds_one IsOfCall (event.Take call) (goes.finished ++ goes.takes.takes) after goes.takes.r refl goes.takes.last)))

line_of_calls : (line : CallLine) (before after : List Entry) → MakesLine line before after → AddsOnly IsOfCall before after
line_of_calls line before after (inl refused) = adds_one IsOfCall (event.Begin line.request) before after refused.r refl refused.begin
line_of_calls line before after (inr whole) =
    adds_then IsOfCall before whole.begun after (adds_one IsOfCall (event.Begin line.request) before whole.begun whole.r refl whole.begin)
    (goes_on_of_calls line whole.call whole.begun after whole.goes_on)

lines_of_calls : (lines : List CallLine) (before after : List Entry) → MakesLines lines before after → AddsOnly IsOfCall before after
lines_of_calls [] before after same = adds_none IsOfCall before after same
lines_of_calls (line ∷ lines) before after (next, first, more) =
    adds_then IsOfCall before next after (line_of_calls line before next first) (lines_of_calls lines next after more)

begun_of_calls : (line : CallLine) (call : ℕ) (before after : List Entry) → GoesOnPrefix line call before after → AddsOnly IsOfCall before after
begun_of_calls line call before after (inl sends) = sends_of_calls call sends.sent before after sends.sends
begun_of_calls line call before after (inr finished) =
    adds_then IsOfCall before finished.sent after (sends_of_calls call line.messages before finished.sent finished.sends)
    (adds_then IsOfCall finished.sent finished.finished after (adds_one IsOfCall (event.Finish call) finished.sent finished.finished finished.r refl finished.finish)
    (takes_of_calls call finished.finished after finished.takes.takes finished.takes.each finished.takes.made))

prefix_of_calls : (line : CallLine) (before after : List Entry) → LinePrefix line before after → AddsOnly IsOfCall before after
prefix_of_calls line before after (inl same) = adds_none IsOfCall before after same
prefix_of_calls line before after (inr begun) =
    adds_then IsOfCall before begun.begun after (adds_one IsOfCall (event.Begin line.request) before begun.begun begun.r refl begun.begin)
    (begun_of_calls line begun.call begun.begun after begun.goes_on)

lines_prefix_of_calls : (lines : List CallLine) (before after : List Entry) → LinesPrefix lines before after → AddsOnly IsOfCall before after
lines_prefix_of_calls lines before after prefix =
    adds_then IsOfCall before prefix.next after (lines_of_calls prefix.whole before prefix.next prefix.makes) (prefix_of_calls prefix.line prefix.next after prefix.prefix)

either_of_calls : (lines : List CallLine) (made : List Entry) → MakesLines lines [] made ⊎ LinesPrefix lines [] made → AddsOnly IsOfCall [] made
either_of_calls lines made (inl whole) = lines_of_calls lines [] made whole
either_of_calls lines made (inr prefix) = lines_prefix_of_calls lines [] made prefix

up_to_of_calls : (o : Outcome) (lines : List CallLine) (made : List Entry) → MakesUpTo o lines made → AddsOnly IsOfCall [] made
up_to_of_calls outcome.Whole lines made makes = lines_of_calls lines [] made makes
up_to_of_calls outcome.Full lines made makes = either_of_calls lines made makes
up_to_of_calls outcome.NoMemory lines made makes = either_of_calls lines made makes

-- the entries of a worker that made calls are of calls
pub own_of_calls : (o : Outcome) (lines : List CallLine) (own : List (ℕ × Entry)) → MakesUpTo o lines (entries_of own) → AllByRecursion (λ p. IsOfCall p.1.event) own
own_of_calls o lines own makes = calls_own own (up_to_of_calls o lines (entries_of own) makes)
