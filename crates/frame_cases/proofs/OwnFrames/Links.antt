-- The links of the channel after a frame, with the bytes that are still to come: that of the frame, and the others, which agree as before.
use Rattle.std.proofs.Common.{◌≡◌, ◌==◌, ap, subst, sym, ◌∙◌, false, List, Some, ℕ, drop, length, option_map}
use Rattle.std.proofs.lemmas.Bool.{eqb-false}
use Rattle.attempt_cases.proofs.DrainEvents.Rooms.{length_changed}
use Rattle.channel_actions.proofs.Links.Frames.Frame.{others_agree}
use Rattle.channel_actions.proofs.Links.Frames.NoDifference.{actions_make_no_difference}
use Rattle.channel_actions.specs.LinkFrames.Alike.{SeesNoDifference}
use Rattle.channel_actions.specs.Links.{HasLink}
use Rattle.channel_core.proofs.BookLaws.{number_changed, number_other}
use Rattle.channel_core.proofs.Resting.{changed_length}
use Rattle.channel_core.specs.Arrivals.{read_to}
use Rattle.channel_core.specs.States.{StateSeen}
use Rattle.channel_core.specs.Tables.{Received, received_in, received_link, with_link}
use Rattle.channel_core.specs.declared.state.links.LinkSlot.{LinkSlot}
use Rattle.channel_core.specs.declared.state.slots.CallSlot.{CallSlot}
use Rattle.frame_cases.proofs.PassedBytes.Agreeing.{recalled}
use Rattle.frame_cases.proofs.PieceWalks.Slots.{others_coming}
use Rattle.frame_cases.proofs.QuietFrames.ReadStill as read
use Rattle.frame_cases.specs.PieceWalks.Points.{IsReceiving, coming, with_rest}
use Rattle.grpc_link.specs.Links.{Report as Reported}
use Rattle.ledger_stamps.specs.Steps.{changed_at}
use Rattle.session_actions.specs.Words.{numbered}
use Rattle.session_actions.specs.Writing.{next_frame_read}
use Rattle.session_actions.specs.declared.action.Action.TheVariants as action
use Rattle.session_actions.specs.declared.entry.OpenEntry.{OpenEntry}
use Rattle.session_actions.specs.declared.link.Link.{Link}
use Rattle.session_actions.specs.declared.link.ReadFrame.{ReadFrame}
use Rattle.session_actions.specs.declared.seen.Seen.{Seen}

module _ (link : ℕ) (piece : List ℕ) (x : StateSeen) (o : OpenEntry) (s : Seen) (is : IsReceiving link piece x o s) (h : Received) (r : ReadFrame)
    (next : next_frame_read link s ≡ Some (action.FrameRead link r)) (receives : received_in link piece x.links ≡ Some h) where
  abbrev t : Seen
  t = read.t link piece x o s is h r next receives

  abbrev slot : LinkSlot
  slot = read.slot link piece x o s is h r next receives

  abbrev left : List ℕ
  left = drop h.taken piece

  -- that of the frame
  abbrev pub slot_then : LinkSlot
  slot_then = with_rest left (with_link (received_link piece) slot)

  pub slot_is : with_link (received_link piece) slot ≡ record slot { link = (read.out link piece x o s is h r next receives).link }
  slot_is = ap (λ (q : Reported). record slot { link = q.link }) (read.reported_is link piece x o s is h r next receives)

  links_are : h.links ≡ changed_at (with_link (received_link piece)) x.links link
  links_are = ap (λ (k : Received). k.links) (read.h_is link piece x o s is h r next receives)

  module _ (calls : List CallSlot) where
    abbrev z : StateSeen
    z = coming link left (recalled calls (read_to link h.read (record x { links = h.links })))

    pub there : numbered z.links link ≡ Some slot_then
    there =
        number_changed (with_rest left) h.links link
        ∙ ap (option_map (with_rest left))
        (ap (λ (ls : List LinkSlot). numbered ls link) links_are ∙ number_changed (with_link (received_link piece)) x.links link
        ∙ ap (option_map (with_link (received_link piece))) (read.kept link piece x o s is h r next receives).there)

    others : (k : ℕ) → (link == k) ≡ false → numbered z.links k ≡ numbered (coming link piece x).links k
    others k e =
        number_other (with_rest left) h.links link k (λ same. eqb-false link k e (sym same))
        ∙ ap (λ (ls : List LinkSlot). numbered ls k) links_are
        ∙ number_other (with_link (received_link piece)) x.links link k (λ same. eqb-false link k e (sym same)) ∙ sym (others_coming link piece x k e)

    pub count : length t.links ≡ length z.links
    count =
        length_changed (read.f link piece x o s is h r next receives) link s.links ∙ is.agrees.links.count ∙ changed_length (with_rest piece) x.links link
        ∙ sym (changed_length (with_rest left) h.links link ∙ ap (λ (ls : List LinkSlot). length ls) links_are ∙ changed_length (with_link (received_link piece)) x.links link)

    read_apart : SeesNoDifference (λ (k : ℕ). link == k) s t
    read_apart =
        subst (SeesNoDifference (λ (k : ℕ). link == k) s) (read.after_is link piece x o s is h r next receives) (actions_make_no_difference (action.FrameRead link r) s is.agrees.kept tt)

    pub others_then : (k : ℕ) (q : Link) → numbered t.links k ≡ Some q → (link == k) ≡ false → HasLink z t q k
    others_then k q got off =
        others_agree (λ (j : ℕ). link == j) (coming link piece x) z s t k q is.agrees.links is.agrees.kept (read.kept_t link piece x o s is h r next receives) others read_apart off got
