-- The frames that were read on a link are read in order: each ends no later than the last one, so none lies past the bytes that were read (RFC 9113, section 4.1:
-- frames follow one another). It is of the session alone.
-- Example: on a link SETTINGS of 9 bytes and HEADERS of 30 bytes were read, which end at 9 and at 39; 39 bytes were read. DATA of 14 bytes ends at 53 then.
use Rattle.std.specs.List.{list_all}
use Rattle.std.specs.Prelude.{Bool, List, Some, [], suc, true, ℕ, ◌∷◌, ◌≡◌, ◌≤◌}
use Rattle.session_actions.specs.Actions.{after}
use Rattle.session_actions.specs.Links.{read_bytes}
use Rattle.session_actions.specs.Responses.{is_read_by}
use Rattle.session_actions.specs.Sessions.{new_session}
use Rattle.session_actions.specs.Words.{numbered}
use Rattle.session_actions.specs.Writing.{next_frame_read}
use Rattle.session_actions.specs.declared.action.Action.{Action}
use Rattle.session_actions.specs.declared.action.Action.TheVariants as action
use Rattle.session_actions.specs.declared.link.Link.{Link}
use Rattle.session_actions.specs.declared.link.ReadFrame.{ReadFrame}
use Rattle.session_actions.specs.declared.seen.Seen.{Seen}
use Rattle.session_actions.specs.declared.seen.Setup.{Setup}

abbrev pub is_read_in_order : Link → Bool
is_read_in_order l = list_all (is_read_by (read_bytes l)) l.traffic

abbrev pub LinksAreReadInOrder : Seen → Type 0
LinksAreReadInOrder s = list_all is_read_in_order s.links ≡ true

-- it is so before anything happened
abbrev pub ReadsBegin : Type 0
ReadsBegin = (setup : Setup) → LinksAreReadInOrder (new_session setup)

-- and after each action: a frame that it reads, on the link of its number, ends no earlier than the bytes that were read
abbrev pub ReadsOn : Action → Seen → Type 0
ReadsOn (action.FrameRead link r) s = (l : Link) → numbered s.links link ≡ Some l → (l.number ≡ link) × (read_bytes l ≤ r.end)
ReadsOn _ s = Unit {0}

abbrev pub ReadsStay : Type 0
ReadsStay = (s : Seen) (a : Action) → LinksAreReadInOrder s → ReadsOn a s → LinksAreReadInOrder (after a s)

-- the frame that the bytes of a link show next does so
abbrev pub FramesComeAfter : Type 0
FramesComeAfter =
    (s : Seen) (link : ℕ) (l : Link) (r : ReadFrame) → numbered s.links link ≡ Some l → next_frame_read link s ≡ Some (action.FrameRead link r)
    → read_bytes l ≤ r.end

-- links have the numbers of their places: of a new session, and after each action
abbrev pub LinksAreNumbered : ℕ → List Link → Type 0
LinksAreNumbered n [] = Unit {0}
LinksAreNumbered n (l ∷ links) = (l.number ≡ n) × LinksAreNumbered (suc n) links

abbrev pub LinksBegin : Type 0
LinksBegin = (setup : Setup) → LinksAreNumbered 1 (new_session setup).links

abbrev pub LinksStay : Type 0
LinksStay = (s : Seen) (a : Action) → LinksAreNumbered 1 s.links → LinksAreNumbered 1 (after a s).links

-- so the frame that a link shows next is such a one
abbrev pub NextReadsOn : Type 0
NextReadsOn =
    (s : Seen) (link : ℕ) (r : ReadFrame) → LinksAreNumbered 1 s.links → next_frame_read link s ≡ Some (action.FrameRead link r) → ReadsOn (action.FrameRead link r) s
