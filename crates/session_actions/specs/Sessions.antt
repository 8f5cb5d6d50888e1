-- Sessions: a journal and a ledger are those of a list of actions, each of which is the next one. How a session is kept is the channel's own.
-- Example: of one Tick on a new channel the actions are EntryOpens, EventAnswered, SettlingBegins, EntryCloses. The journal is one entry with reply
-- Done and state IDLE; the ledger has no rows, calls, requests, generations or links, and its entry is 1.
use Rattle.std.specs.Prelude.{List, None, Some, [], false, filter, length, map, true, ℕ, ◌∷◌, ◌≡◌}
use Rattle.attempt_ledger.specs.declared.ledger.CallSeen.{CallSeen}
use Rattle.attempt_ledger.specs.declared.ledger.Ledger.{Ledger}
use Rattle.attempt_ledger.specs.declared.ledger.LinkSeen.{LinkSeen}
use Rattle.grpc_base.specs.Authorities.{IsAuthority}
use Rattle.grpc_base.specs.declared.event.Entry.{Entry}
use Rattle.session_actions.specs.Actions.{after, following}
use Rattle.session_actions.specs.Attempts.{is_of}
use Rattle.session_actions.specs.Entries.{may_open}
use Rattle.session_actions.specs.Links.{read_bytes}
use Rattle.session_actions.specs.Words.{numbered}
use Rattle.session_actions.specs.declared.action.Action.{Action}
use Rattle.session_actions.specs.declared.call.Call.{Call}
use Rattle.session_actions.specs.declared.link.Link.{Link}
use Rattle.session_actions.specs.declared.seen.PolicyKind.{PolicyKind}
use Rattle.session_actions.specs.declared.seen.Seen.{Seen}
use Rattle.session_actions.specs.declared.seen.Setup.{Setup}
use Rattle.session_actions.specs.declared.action.Action.TheVariants as action
use Rattle.grpc_base.specs.declared.kind.Kind.TheVariants as kind

-- nothing has happened yet
abbrev pub new_session : Setup → Seen
new_session setup = record {
  setup = setup;
  entries = [];
  current = None;
  calls = [];
  attempts = [];
  asks = [];
  policies = [];
  subs = [];
  links = [];
  configs = [];
  runs = [];
  answered = false;
  wants = true;
  shut = false;
}

-- the ledger of what has happened
abbrev pub call_seen : Seen → Call → CallSeen
call_seen s c = record { begun = c.begun; configured = c.configured; made = map (λ a. a.made) (filter (is_of c) s.attempts); end = c.end }

abbrev pub link_seen : Link → LinkSeen
link_seen l = record { sub = l.sub; up = l.up; gone = l.gone; read = read_bytes l }

abbrev pub ledger_of : Seen → Ledger
ledger_of s = record {
  rows = map (λ a. a.row) s.attempts;
  calls = map (call_seen s) s.calls;
  asks = s.asks;
  generations = map (λ g. g.generation) s.policies;
  links = map link_seen s.links;
  entry = length s.entries;
}

-- an action is next: an entry may begin, or this one follows
abbrev pub IsNext : Action → Seen → Type 0
IsNext (action.EntryOpens posted word e) s = may_open e s ≡ true
IsNext a s = following s ≡ Some a

-- these actions lead from what was seen to what is
abbrev pub Does : List Action → Seen → Seen → Type 0
Does [] s t = t ≡ s
Does (a ∷ actions) s t = IsNext a s × Does actions (after a s) t

-- a journal and a ledger are those of a session. A step that finds the journal full, or no memory, makes no entry: it is no action, and the list is
-- that of the steps before it.
pub record IsConsistent (setup : Setup) (entries : List Entry) (ledger : Ledger) : Type 0 where
  pub actions : List Action
  pub end : Seen
  pub does : Does actions (new_session setup) end
  pub between : end.current ≡ None
  pub journal : end.entries ≡ entries
  pub recorded : ledger_of end ≡ ledger
