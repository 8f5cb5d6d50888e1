-- From one point at which channel and session agree to the next: the channel goes on, and so does the session, by the actions that follow.
-- Example: a Tick. Its entry opens; EventAnswered leads to its answer; SettlingBegins, and then EntryCloses. The channel sets its moment and word, answers
-- Done, and settles. The two agree at each of these points.
use Rattle.std.specs.Prelude.{List, None, [], map, ◌≡◌}
use Rattle.channel_actions.specs.Agrees.{Agrees}
use Rattle.channel_actions.specs.Quiescent.{EntriesAreQuiescent, IsAt}
use Rattle.channel_core.specs.States.{StateSeen}
use Rattle.session_actions.specs.Closing.{noted_gone}
use Rattle.session_actions.specs.Laws.{posted_in}
use Rattle.session_actions.specs.Sessions.{Does}
use Rattle.session_actions.specs.declared.action.Action.{Action}
use Rattle.session_actions.specs.declared.entry.OpenEntry.{OpenEntry}
use Rattle.session_actions.specs.declared.entry.Stage.{Stage}
use Rattle.session_actions.specs.declared.seen.Seen.{Seen}

-- the entry that is being made is still the same, and no other was made meanwhile
pub record IsSameEntry (o : OpenEntry) (s : Seen) (p : OpenEntry) (t : Seen) : Type 0 where
  pub moment : p.moment ≡ o.moment
  pub word : p.word ≡ o.word
  pub event : p.event ≡ o.event
  pub entries : t.entries ≡ s.entries
  pub setup : t.setup ≡ s.setup

-- the session goes on to a stage of the same entry, where it agrees with a channel
pub record Reaches (stage : Stage) (x : StateSeen) (o : OpenEntry) (s : Seen) : Type 0 where
  pub actions : List Action
  pub seen : Seen
  pub entry : OpenEntry
  pub does : Does actions s seen
  pub posts : posted_in actions ≡ []
  pub same : IsSameEntry o s entry seen
  pub at : IsAt stage entry seen
  pub agrees : Agrees x seen

-- between two entries they agree, and each link that is gone is stamped so
pub record AtRest (x : StateSeen) (s : Seen) : Type 0 where
  pub between : s.current ≡ None
  pub agrees : Agrees x s
  pub noted : map (noted_gone s) s.links ≡ s.links
  pub quiescent : EntriesAreQuiescent s
