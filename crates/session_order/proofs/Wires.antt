-- Bytes that come, and frames that are queued, leave all lines still.
use Rattle.std.proofs.Common.{◌≡◌, ◌++◌, ◌==◌, refl, subst, sym, ◌∙◌, Bool, true, false, List, Option, None, Some, ℕ, if◌then◌else◌}
use Rattle.std.proofs.lemmas.Bool.{eqb-false, eqb-true}
use Rattle.std.specs.Option.{option_map}
use Rattle.grpc_base.specs.declared.event.Event.{Event}
use Rattle.h2_frame.specs.Frames.{FrameSeen}
use Rattle.session_actions.specs.Words.{changed, numbered}
use Rattle.session_actions.specs.Writing.{ping_of, with_piece}
use Rattle.session_actions.specs.declared.entry.OpenEntry.{OpenEntry}
use Rattle.session_actions.specs.declared.link.Link.{Link}
use Rattle.session_actions.specs.declared.seen.Seen.{Seen}
use Rattle.session_order.proofs.Aside.{aside_final, aside_request}
use Rattle.session_order.proofs.Changed.{changed_away, changed_map}
use Rattle.session_order.proofs.Passed.{kept, passed_end, passed_head, passed_link, passed_reset, passed_response}
use Rattle.session_order.proofs.Posts.{plain_answered, plain_arrived, plain_as, plain_ping}
use Rattle.session_order.specs.Quiescent.{IsStill}
use Rattle.session_order.specs.Laws.{StirsOnly}
use Rattle.session_order.specs.declared.line.Line.{Line}
use Rattle.session_actions.specs.declared.action.Action.TheVariants as action
use Rattle.grpc_base.specs.declared.event.Event.TheVariants as event
use Rattle.session_order.specs.declared.line.Line.TheVariants as line
use Rattle.grpc_base.specs.declared.event.Reply.TheVariants as reply

pub passed_still : (s : Seen) (links : List Link) (owed : ℕ → Link → List FrameSeen) (received : ℕ → Link → List ℕ) (gone : ℕ → Link → Option ℕ)
    (same : (k : ℕ) → numbered links k ≡ option_map (kept owed received gone k) (numbered s.links k))
    (l : Line) (o : OpenEntry) → IsStill l o s → IsStill l o (record s { links = links })
passed_still s links owed received gone same line.Cut o h = h
passed_still s links owed received gone same line.Transparent o h = h
passed_still s links owed received gone same line.Inherited o h = h
passed_still s links owed received gone same line.Row o h = h
passed_still s links owed received gone same line.Final o h = aside_final s (record s { links = links }) ∙ h
passed_still s links owed received gone same line.Cancelled o h = h
passed_still s links owed received gone same line.Request o h = aside_request o s (record s { links = links }) ∙ h
passed_still s links owed received gone same line.Overflow o h = h
passed_still s links owed received gone same line.Head o h = passed_head s links owed received gone same ∙ h
passed_still s links owed received gone same line.Response o h = passed_response s links owed received gone same ∙ h
passed_still s links owed received gone same line.Pick o h = h
passed_still s links owed received gone same line.Link o h = passed_link s links owed received gone same ∙ h
passed_still s links owed received gone same line.WireEnd o h = passed_end s links owed received gone same ∙ h
passed_still s links owed received gone same line.Reset o h = passed_reset s links owed received gone same ∙ h
passed_still s links owed received gone same line.Shut o h = h
passed_still s links owed received gone same line.Retire o h = h
passed_still s links owed received gone same line.Begin o h = h
passed_still s links owed received gone same line.Give o h = h
passed_still s links owed received gone same line.Drop o h = h
passed_still s links owed received gone same line.Add o h = h

-- one link of which more is owed, or came
module _ (owed : Link → List FrameSeen) (received : Link → List ℕ) (n : ℕ) where
  abbrev more : Link → Link
  more l = record l { owed = owed l; received = received l }

  abbrev more_if : Bool → Link → Link
  more_if b l = record l { owed = (if b then owed l else l.owed); received = (if b then received l else l.received); gone = l.gone }

  unmoved : (o : Option Link) → o ≡ option_map (more_if false) o
  unmoved None = refl
  unmoved (Some l) = refl

  more_by : (links : List Link) (k : ℕ) (b : Bool) → (k == n) ≡ b → numbered (changed more n links) k ≡ option_map (more_if b) (numbered links k)
  more_by links k true e =
      subst (λ (j : ℕ). numbered (changed more n links) j ≡ option_map (more_if true) (numbered links j)) (sym (eqb-true k n e)) (changed_map more n links)
  more_by links k false e = changed_away more n k links (eqb-false k n e) ∙ unmoved (numbered links k)

  pub more_still : (s : Seen) (l : Line) (o : OpenEntry) → IsStill l o s → IsStill l o (record s { links = changed more n s.links })
  more_still s l o h =
      passed_still s (changed more n s.links) (λ (k : ℕ) (x : Link). if k == n then owed x else x.owed)
      (λ (k : ℕ) (x : Link). if k == n then received x else x.received) (λ (k : ℕ) (x : Link). x.gone) (λ k. more_by s.links k (k == n) refl) l o h

pub owed_still : (frames : List FrameSeen) (n : ℕ) (s : Seen) (l : Line) (o : OpenEntry) → IsStill l o s
    → IsStill l o (record s { links = changed (λ (x : Link). record x { owed = x.owed ++ frames }) n s.links })
owed_still frames n s l o h = more_still (λ (x : Link). x.owed ++ frames) (λ (x : Link). x.received) n s l o h

pieces_still : (e : Event) (n link : ℕ) (piece : List ℕ) → e ≡ event.Arrived link piece → (s : Seen) (l : Line) (o : OpenEntry) → IsStill l o s
    → IsStill l o (record s { links = changed (with_piece e) n s.links })
pieces_still e n link piece is s l o h =
    subst (λ (x : Event). IsStill l o (record s { links = changed (with_piece x) n s.links })) (sym is)
    (more_still (λ (x : Link). x.owed) (λ (x : Link). x.received ++ piece) n s l o h)

pub arrived_leaves : (link : ℕ) → StirsOnly (action.BytesArrive link)
arrived_leaves link o s e fits l p is not_stirred h =
    plain_answered reply.Done o (record s { links = changed (with_piece o.event) link s.links }) e
    (plain_as o.event (event.Arrived link fits.0) fits.1 (plain_arrived link fits.0)) l (pieces_still o.event link link fits.0 fits.1 s l o h) p is

pub pinged_leaves : (link : ℕ) → StirsOnly (action.PingQueued link)
pinged_leaves link o s e fits l p is not_stirred h =
    plain_answered reply.Done o (record s { links = changed (λ (x : Link). record x { owed = x.owed ++ ping_of o.event }) link s.links }) e
    (plain_as o.event (event.Ping link fits.0) fits.1 (plain_ping link fits.0)) l (owed_still (ping_of o.event) link s l o h) p is
