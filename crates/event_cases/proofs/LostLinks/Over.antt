-- A link is over, lost or broken: its subchannel, if it has the link still, goes down next.
use Rattle.std.proofs.Common.{◌≡◌, ap, refl, ◌∙◌, true, false, Option, Some, ℕ}
use Rattle.std.specs.List.{list_all}
use Rattle.channel_actions.proofs.Stamps.{stamp_keeps}
use Rattle.channel_actions.specs.Agrees.{Agrees}
use Rattle.channel_actions.specs.KeptCalls.Early.{is_linked_up}
use Rattle.channel_actions.specs.OwnLinks.Own.{LinksAreOwn}
use Rattle.event_cases.proofs.LostLinks.Down.{GoesDown, IsDown, down_next}
use Rattle.event_cases.proofs.LostLinks.Stamped.{seen_at}
use Rattle.channel_core.specs.Books.{link_at}
use Rattle.channel_core.specs.States.{StateSeen}
use Rattle.channel_core.specs.Steps.{sub_of}
use Rattle.session_actions.specs.Actions.{after}
use Rattle.session_actions.specs.Entries.{entry}
use Rattle.session_actions.specs.Words.{changed, numbered}
use Rattle.session_actions.specs.declared.action.Action.{Action}
use Rattle.session_actions.specs.declared.entry.OpenEntry.{OpenEntry}
use Rattle.session_actions.specs.declared.link.Link.{Link}
use Rattle.session_actions.specs.declared.link.LinkOver.{LinkOver}
use Rattle.session_actions.specs.declared.seen.Seen.{Seen}
use Rattle.session_order.proofs.Changed.{changed_away, changed_here}
use Rattle.session_order.specs.Quiescent as order
use Rattle.session_order.specs.Quiescent.{IsStill}
use Rattle.session_order.specs.Lines.{is_line}
use Rattle.session_order.specs.declared.line.Line.{Line}
use Rattle.session_order.specs.declared.line.Line.TheVariants as line
use Rattle.channel_actions.specs.KeptSessions.Kept.{IsKept}
use Rattle.call_cases.specs.OtherCalls.Others.{IsOfCall}
use Rattle.grpc_base.specs.declared.event.Reply.{Reply}
use Rattle.link_actions.specs.LossActions.Laws.{with_over}
use Rattle.link_actions.specs.LossActions.Sees.{SeesOver}
use Rattle.session_actions.specs.Refusals.{is_gone}
use Rattle.session_actions.specs.Sessions.{IsNext}
use Rattle.session_actions.specs.declared.entry.Stage.{Stage}

-- the session once it is: the link is over, a resolution is wanted, and the entry is at this stage
abbrev pub replied_as : Stage → Option Reply → OpenEntry → OpenEntry
replied_as at reply o = record o { stage = at; reply = reply }

abbrev pub over_as : LinkOver → ℕ → Option OpenEntry → Seen → Seen
over_as why link now s = record s { links = changed (with_over why) link s.links; wants = true; current = now }

-- from a point at which nothing follows at once, by an action
pub record GoesOver (why : LinkOver) (act : Action) (link : ℕ) (x : StateSeen) (o : OpenEntry) (s : Seen) : Type 0 where
  pub agrees : Agrees x s
  pub current : s.current ≡ Some o
  pub quiescent : order.IsQuiescent o s
  pub own : LinksAreOwn s
  pub boards : list_all is_linked_up s.subs ≡ true
  pub link_ : Link
  pub there : numbered s.links link ≡ Some link_
  pub stage_ : Stage
  pub reply_ : Option Reply
  pub now : Option OpenEntry
  pub now_is : now ≡ Some (replied_as stage_ reply_ o)
  pub next : IsNext act s
  pub then_ : after act s ≡ over_as why link now s
  pub still : (m : Line) → is_line m line.WireEnd ≡ false → is_line m line.Link ≡ false → IsStill m (replied_as stage_ reply_ o) (over_as why link now s)
  pub over : SeesOver (with_over why link_) (over_as why link now s)
  pub kept : IsKept (over_as why link now s)
  pub of : IsOfCall 0 act s

module _ (why : LinkOver) (act : Action) (link : ℕ) (x : StateSeen) (o : OpenEntry) (s : Seen) (g : GoesOver why act link x o s) where
  h : Agrees x s
  h = g.agrees

  abbrev pub l : Link
  l = g.link_

  abbrev pub p : OpenEntry
  p = replied_as g.stage_ g.reply_ o

  abbrev pub v : Seen
  v = over_as why link g.now s

  abbrev over_link : Link → Link
  over_link = with_over why

  pub there_v : numbered v.links link ≡ Some (over_link l)
  there_v = changed_here over_link link s.links l g.there

  pub away_v : (k : ℕ) → (k ≡ link → ⊥) → numbered v.links k ≡ numbered s.links k
  away_v k other = changed_away over_link link k s.links other

  sub_is : sub_of (link_at x.book link) ≡ l.sub
  sub_is =
      ap sub_of (seen_at l s x.book.ledger.links h.columns.links link g.there)
      ∙ stamp_keeps (λ (k : Link). is_gone k s) (λ k z. refl) (λ (k : Link). k.sub) (λ k z. refl) (entry s) l

  goes : GoesDown v.links true g.now link x o p s
  goes = record {
    quiescent = g.quiescent;
    own = g.own;
    boards = g.boards;
    kept_s = h.kept;
    net = h.net;
    link_ = l;
    there = g.there;
    sub_is = sub_is;
    m = over_link l;
    there_m = there_v;
    away = away_v;
    goes_down = refl;
    settings = refl;
    now_is = g.now_is;
    still = g.still;
    kept = g.kept;
  }

  pub down : IsDown link x p s v
  down = down_next v.links true g.now link x o p s goes
