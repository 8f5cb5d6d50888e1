-- What the line of an action says of it, as far as links and streams of attempts lean on it.
use Rattle.channel_actions.specs.PrefacedLinks.Prefaced.{has_preface, has_preface_come, names_prefaced}
use Rattle.session_actions.specs.Subchannels.{is_connecting, is_to_go_down}
use Rattle.session_actions.specs.Words.{holds, numbered}
use Rattle.session_actions.specs.Writing.{sendable}
use Rattle.session_actions.specs.declared.action.Action.TheVariants as action
use Rattle.session_actions.specs.declared.action.Action.{Action}
use Rattle.session_actions.specs.declared.attempt.Attempt.{Attempt}
use Rattle.session_actions.specs.declared.link.Link.{Link}
use Rattle.session_actions.specs.declared.seen.Seen.{Seen}
use Rattle.std.proofs.Common.{None, Some, is_none, true, ◌≡◌}

abbrev pub FitsPrefaced : Action → Seen → Type 0
FitsPrefaced (action.AttemptPlaced row at) s =
    (has_preface_come s.links at.link ≡ true) × ((a : Attempt) → numbered s.attempts row ≡ Some a → a.row.placed ≡ None)
FitsPrefaced (action.PickRequested row generation answer) s = names_prefaced s.links s.subs answer ≡ true
FitsPrefaced (action.SettingsArrive sub) s = holds (has_preface s.links) (numbered s.subs sub) ≡ true
FitsPrefaced (action.LinkUp sub) s = holds (λ b. is_none b.link) (numbered s.subs sub) ≡ true
FitsPrefaced (action.LinkDown sub) s = holds (is_to_go_down s) (numbered s.subs sub) ≡ true
FitsPrefaced (action.ConnectTimesOut sub) s = holds (λ b. is_connecting b.state) (numbered s.subs sub) ≡ true
FitsPrefaced (action.FrameWritten link x) s = (l : Link) → numbered s.links link ≡ Some l → sendable l s ≡ Some x
FitsPrefaced _ s = Unit {0}
