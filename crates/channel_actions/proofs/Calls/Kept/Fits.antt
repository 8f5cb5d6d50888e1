-- What the line of an action says of it, as far as calls before their first attempt, resets and links of subchannels lean on it.
use Rattle.channel_actions.specs.KeptCalls.Early.{is_past}
use Rattle.session_actions.specs.Links.{link_of, read_bytes}
use Rattle.session_actions.specs.Policies.{is_failure}
use Rattle.session_actions.specs.Subchannels.{is_connecting}
use Rattle.session_actions.specs.Words.{holds, numbered}
use Rattle.session_actions.specs.declared.action.Action.TheVariants as action
use Rattle.session_actions.specs.declared.action.Action.{Action}
use Rattle.session_actions.specs.declared.attempt.Attempt.{Attempt}
use Rattle.session_actions.specs.declared.seen.Seen.{Seen}
use Rattle.std.proofs.Common.{Some, is_none, is_some, nat_le, true, ◌≡◌}
use Rattle.std.specs.Option.{option_map_or}

abbrev pub FitsEarly : Action → Seen → Type 0
FitsEarly (action.AttemptMade call number k due) s = holds is_past (numbered s.calls call) ≡ true
FitsEarly (action.HedgeWithheld call) s = holds is_past (numbered s.calls call) ≡ true
FitsEarly (action.StreamReset row number) s = (a q : Attempt) → numbered s.attempts row ≡ Some a → numbered s.attempts a.place ≡ Some q → is_some q.row.ended ≡ true
FitsEarly (action.AttemptPlaced row at) s = holds (λ a. is_none a.row.ended) (numbered s.attempts row) ≡ true
FitsEarly (action.AttemptEnds row end) s =
    (a q : Attempt) → numbered s.attempts row ≡ Some a → numbered s.attempts a.place ≡ Some q → nat_le end.seen (option_map_or read_bytes (link_of q s) 0) ≡ true
FitsEarly (action.BackoffEnds sub) s = holds (λ b. is_failure b.state) (numbered s.subs sub) ≡ true
FitsEarly (action.LinkUp sub) s = holds (λ b. is_connecting b.state) (numbered s.subs sub) ≡ true
FitsEarly _ s = Unit {0}
