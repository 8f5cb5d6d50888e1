-- What follows at once in an entry of a piece on a link that is over leaves what passed: no frame is read of it any more.
use Rattle.std.proofs.Common.{◌≡◌, ◌∷◌, ap, refl, subst, sym, ◌∙◌, Bool, true, false, List, [], Option, None, Some, ℕ, if◌then◌else◌, is_some, map}
use Rattle.std.specs.Option.{option_map, option_or}
use Rattle.std.specs.Prelude.{option_and_then}
use Rattle.call_actions.proofs.Ranks.{numbered_map}
use Rattle.event_cases.proofs.LostLinks.After.{link_by}
use Rattle.event_cases.proofs.PassedAtOnce.Along.{passed_along}
use Rattle.event_cases.proofs.PassedAtOnce.Lines.{AllowsIf, at_once_replies, following_allowed, is_of_reply}
use Rattle.event_cases.specs.PassedAtOnce.Passed.{IsPassedStill, unqueued}
use Rattle.frame_cases.proofs.PieceWalks.Walk.{none_over, read_at}
use Rattle.grpc_base.specs.declared.event.Event.{Event}
use Rattle.grpc_base.specs.declared.event.Event.TheVariants as event
use Rattle.session_actions.specs.Actions.{after, following, following_in, of_frames, of_stage}
use Rattle.session_actions.specs.CallEnds.{is_after_event}
use Rattle.session_actions.specs.Events.{frame_action, frame_of_event}
use Rattle.session_actions.specs.Laws.{posted_in}
use Rattle.session_actions.specs.Reading.{next_read}
use Rattle.session_actions.specs.Sessions.{Does}
use Rattle.session_actions.specs.Words.{numbered}
use Rattle.session_actions.specs.Writing.{next_frame_read, read_action}
use Rattle.session_actions.specs.declared.action.Action.{Action}
use Rattle.session_actions.specs.declared.action.Action.TheVariants as action
use Rattle.session_actions.specs.declared.entry.OpenEntry.{OpenEntry}
use Rattle.session_actions.specs.declared.entry.Stage.{Stage}
use Rattle.session_actions.specs.declared.entry.Stage.TheVariants as stage
use Rattle.session_actions.specs.declared.link.Link.{Link}
use Rattle.session_actions.specs.declared.seen.Seen.{Seen}

-- where no frame is next, what follows does so at once, or the channel begins to settle
pub replies_unread : (s : Seen) (o : OpenEntry) (a : Action) → s.current ≡ Some o → o.stage ≡ stage.Replied → frame_action o s ≡ None → following s ≡ Some a → is_of_reply a ≡ true
replies_unread s o a current at none e =
    let frames : of_frames o s ≡ Some action.SettlingBegins = ap (λ (f : Option Action). option_or f (Some action.SettlingBegins)) none in
    let allowed : AllowsIf is_of_reply (of_frames o s) = subst (AllowsIf is_of_reply) (sym frames) refl in
    subst (AllowsIf is_of_reply) (sym (ap (option_and_then (following_in s)) current) ∙ e)
    (following_allowed is_of_reply at_once_replies s o (subst (λ (g : Stage). AllowsIf is_of_reply (of_stage o s g)) (sym at) allowed))

-- a link stays what it was, but for what is queued on it
pub still_there : (s t : Seen) (link : ℕ) (l : Link) → IsPassedStill s t → numbered s.links link ≡ Some l → (m : Link) × ((numbered t.links link ≡ Some m) × (unqueued m ≡ unqueued l))
still_there s t link l passed here =
    link_by (numbered s.links link) (numbered t.links link)
    (sym (numbered_map unqueued t.links link) ∙ ap (λ (ls : List Link). numbered ls link) passed.links ∙ numbered_map unqueued s.links link) l here

none_if : (q : Option Action) → q ≡ None → (b : Bool) → (if b then q else None) ≡ None
none_if q none true = none
none_if q none false = refl

module _ (link : ℕ) (whole : List ℕ) where
  -- the link is over, in an entry of a piece on it
  pub record IsDeaf (q : OpenEntry) (v : Seen) : Type 0 where
    pub event_is : q.event ≡ event.Arrived link whole
    pub l : Link
    pub here : numbered v.links link ≡ Some l
    pub over : is_some l.over ≡ true

  unread : (q : OpenEntry) (v : Seen) → IsDeaf q v → frame_action q v ≡ None
  unread q v is =
      let none : next_frame_read link v ≡ None = read_at v link is.l is.here ∙ none_over is.l.over (read_action link (next_read is.l v)) is.over in
      ap (λ (e : Event). if is_after_event q then frame_of_event e q v else None) is.event_is ∙ none_if (next_frame_read link v) none (is_after_event q)

  pub deaf_stays : (o q : OpenEntry) (s v : Seen) → IsDeaf o s → q.event ≡ o.event → IsPassedStill s v → IsDeaf q v
  deaf_stays o q s v is same passed =
      let m = still_there s v link is.l passed is.here in
      record { event_is = same ∙ is.event_is; l = m.0; here = m.1.0; over = ap (λ (k : Link). is_some k.over) m.1.1 ∙ is.over }

  pub deaf_passed : (actions : List Action) (o p : OpenEntry) (s t : Seen) → Does actions s t → posted_in actions ≡ [] → s.current ≡ Some o → o.stage ≡ stage.Replied → t.current ≡ Some p
      → p.stage ≡ stage.Replied → IsDeaf o s → IsPassedStill s t
  deaf_passed actions o p s t does posts current at last replied is =
      passed_along IsDeaf p t last replied (λ a others q v deaf here stage_is next does_ none. replies_unread v q a here stage_is (unread q v deaf) next) deaf_stays actions o s does posts
      current at is
