-- What follows at once in an entry of a piece leaves what passed, where no further frame was read of the link by then: what is read is not unread, and a link that broke
-- stays over.
use Rattle.std.proofs.Common.{◌≡◌, ◌+◌, ◌-◌, ◌∷◌, ◌≤◌, ap, arith, refl, subst, sym, ◌∙◌, Bool, true, false, List, [], Option, None, Some, ℕ, drop, if◌then◌else◌, inl, inr, is_none, is_some, length, suc, ◌⊎◌}
use Rattle.std.proofs.lemmas.List.{length-drop}
use Rattle.std.specs.Option.{option_map_or, option_or}
use Rattle.std.specs.Prelude.{option_and_then}
use Rattle.channel_actions.proofs.Calls.Kept.Fresh.{ends_later}
use Rattle.attempt_cases.proofs.DrainEvents.Rooms.{one_some}
use Rattle.event_cases.proofs.PassedAtOnce.Acts.{Staged, actions_leave_passed, staged}
use Rattle.event_cases.proofs.PassedAtOnce.Along.{IsOpenAs, begins_as, first_none, follows, goes_on, not_both, once_open, only_begins, passed_along, settling_stays}
use Rattle.event_cases.proofs.PassedAtOnce.Lines.{AllowsIf, at_once_replies, at_once_settles, calls_allowed, is_of_reply, links_allowed, policies_allowed}
use Rattle.event_cases.specs.PassedAtOnce.Passed.{IsPassedStill, is_at_once}
use Rattle.frame_cases.proofs.BrokenLinks.Deaf.{still_there}
use Rattle.frame_cases.proofs.QuietFrames.Read.{IsReading, reads_so, shows_frame}
use Rattle.grpc_base.specs.declared.event.Event.{Event}
use Rattle.grpc_base.specs.declared.event.Event.TheVariants as event
use Rattle.h2_frame.specs.Frames.{FrameSeen}
use Rattle.h2_frame.proofs.FrameLaws.{whole_is_frame}
use Rattle.link_actions.proofs.History.{bytes_more}
use Rattle.session_actions.specs.Actions.{after, after_if, following, following_in, of_calls, of_frames, of_links, of_policies, of_stage}
use Rattle.session_actions.specs.CallEnds.{is_after_event}
use Rattle.session_actions.specs.Events.{frame_action, frame_of_event}
use Rattle.session_actions.specs.Laws.{posted_by, posted_in}
use Rattle.session_actions.specs.Links.{read_bytes}
use Rattle.session_actions.specs.Reading.{next_read}
use Rattle.session_actions.specs.Sessions.{Does}
use Rattle.session_actions.specs.Words.{changed, numbered}
use Rattle.session_actions.specs.Writing.{frame_read_on, next_frame_read, owed_for, read_action, read_next, with_frame_read}
use Rattle.session_actions.specs.declared.action.Action.{Action}
use Rattle.session_actions.specs.declared.action.Action.TheVariants as action
use Rattle.session_actions.specs.declared.entry.OpenEntry.{OpenEntry}
use Rattle.session_actions.specs.declared.entry.Stage.TheVariants as stage
use Rattle.session_actions.specs.declared.link.Link.{Link}
use Rattle.session_actions.specs.declared.link.LinkOver.{LinkOver}
use Rattle.session_actions.specs.declared.link.LinkOver.TheVariants as over
use Rattle.session_actions.specs.declared.link.NextRead.{NextRead}
use Rattle.session_actions.specs.declared.link.NextRead.TheVariants as nextread
use Rattle.session_actions.specs.declared.link.ReadFrame.{ReadFrame}
use Rattle.session_actions.specs.declared.seen.Seen.{Seen}
use Rattle.session_order.proofs.Changed.{changed_here}

-- what follows is one of those that follow at once, or that the channel begins to settle, or the next frame
or_from : (o q : Option Action) (a : Action) → AllowsIf is_at_once o → is_at_once a ≡ false → option_or o q ≡ Some a → q ≡ Some a
or_from None q a allowed off e = e
or_from (Some x) q a allowed off e = let same : x ≡ a = (cc) in absurd (let bad : true ≡ false = sym allowed ∙ ap is_at_once same ∙ off in (cc))

or_none : (o : Option Action) (a : Action) → option_or o None ≡ Some a → o ≡ Some a
or_none None a e = e
or_none (Some x) a e = e

frame_by : (q : OpenEntry) (v : Seen) (a : Action) (f : Option Action) → frame_action q v ≡ f → option_or f (Some action.SettlingBegins) ≡ Some a
    → (is_of_reply a ≡ true) ⊎ (frame_action q v ≡ Some a)
frame_by q v a None is e = let same : action.SettlingBegins ≡ a = (cc) in inl (ap is_of_reply (sym same))
frame_by q v a (Some b) is e = inr (is ∙ e)

kinds_by : (q : OpenEntry) (v : Seen) (a : Action) (b : Bool) → v.current ≡ Some q → q.stage ≡ stage.Replied → following v ≡ Some a → is_at_once a ≡ b
    → (is_of_reply a ≡ true) ⊎ (frame_action q v ≡ Some a)
kinds_by q v a true current at e once = inl (at_once_replies a once)
kinds_by q v a false current at e off =
    let from : following_in v q ≡ Some a = sym (ap (option_and_then (following_in v)) current) ∙ e in
    let one : option_or (of_links q v) (option_or (of_policies q v) (option_or (of_stage q v q.stage) None)) ≡ Some a
    = or_from (of_calls q v) (option_or (of_links q v) (option_or (of_policies q v) (option_or (of_stage q v q.stage) None))) a (calls_allowed is_at_once (λ c once. once) v q) off from in
    let two : option_or (of_policies q v) (option_or (of_stage q v q.stage) None) ≡ Some a
    = or_from (of_links q v) (option_or (of_policies q v) (option_or (of_stage q v q.stage) None)) a (links_allowed is_at_once (λ c once. once) v q) off one in
    let three : option_or (of_stage q v q.stage) None ≡ Some a
    = or_from (of_policies q v) (option_or (of_stage q v q.stage) None) a (policies_allowed is_at_once (λ c once. once) v q) off two in
    let staged_ : of_frames q v ≡ Some a = ap (of_stage q v) (sym at) ∙ or_none (of_stage q v q.stage) a three in
    frame_by q v a (frame_action q v) refl staged_

-- the next frame of a piece, or what breaks the link
if_some : (b : Bool) (o : Option Action) (a : Action) → (if b then o else None) ≡ Some a → (b ≡ true) × (o ≡ Some a)
if_some true o a e = (refl, e)
if_some false o a e = absurd (cc)

reads_by : (link : ℕ) (n : NextRead) (a : Action) → read_action link n ≡ Some a → ((r : ReadFrame) × (a ≡ action.FrameRead link r)) ⊎ ((code : ℕ) × (a ≡ action.LinkBreaks link code))
reads_by link nextread.Nothing a e = absurd (let no : ⊥ = (cc) in no)
reads_by link (nextread.Frame r) a e = let same : action.FrameRead link r ≡ a = (cc) in inl (r, sym same)
reads_by link (nextread.Broken code) a e = let same : action.LinkBreaks link code ≡ a = (cc) in inr (code, sym same)

going_by : (o : Option LinkOver) → is_none o ≡ true → is_some o ≡ true → ⊥
going_by None e h = let bad : false ≡ true = h in (cc)
going_by (Some why) e h = let bad : false ≡ true = e in (cc)

one_further : (n k e : ℕ) → suc n ≤ k → k + 1 ≤ e → suc n ≤ e
one_further n k e a b = omega (arith, a, b)

first_further : (n k e : ℕ) → k ≡ n → k + 1 ≤ e → suc n ≤ e
first_further n k e a b = omega (arith, a, b)

never_further : (n k long : ℕ) → suc n ≤ k → k ≤ long → long - k ≡ long - n → ⊥
never_further n k long a b c = omega (arith, a, b, c)

-- a frame lies within the bytes that came
within_by : (read size rest long end : ℕ) → end ≡ read + size → size ≤ rest → rest ≡ long - read → read ≤ long → end ≤ long
within_by read size rest long end a b c d = omega (arith, a, b, c, d)

ends_within : (link : ℕ) (l : Link) (s : Seen) (r : ReadFrame) → numbered s.links link ≡ Some l → next_frame_read link s ≡ Some (action.FrameRead link r) → read_bytes l ≤ length l.received
    → r.end ≤ length l.received
ends_within link l s r here next within =
    let bytes : List ℕ = drop (read_bytes l) l.received in
    let rd : IsReading l s r bytes = reads_so l s r bytes refl (shows_frame link l s r here next).shows in
    within_by (read_bytes l) rd.size (length bytes) (length l.received) r.end rd.end (whole_is_frame bytes r.frame rd.size rd.is).0 (length-drop (read_bytes l) l.received) within

-- of a link on which these bytes came, so many of them were read
module _ (link : ℕ) (whole : List ℕ) (n : ℕ) (bs : List ℕ) where
  record IsNext (v : Seen) (a : Action) : Type 0 where
    m : Link
    here : numbered v.links link ≡ Some m
    going : is_none m.over ≡ true
    next : next_frame_read link v ≡ Some a
    is : ((r : ReadFrame) × (a ≡ action.FrameRead link r)) ⊎ ((code : ℕ) × (a ≡ action.LinkBreaks link code))

  next_in : (v : Seen) (a : Action) (o : Option Link) → numbered v.links link ≡ o → next_frame_read link v ≡ Some a → option_and_then (read_next link v) o ≡ Some a → IsNext v a
  next_in v a None here next e = absurd (let no : ⊥ = (cc) in no)
  next_in v a (Some m) here next e =
      let k = if_some (is_none m.over) (read_action link (next_read m v)) a e in
      record { m = m; here = here; going = k.0; next = next; is = reads_by link (next_read m v) a k.1 }

  next_is : (q : OpenEntry) (v : Seen) (a : Action) → q.event ≡ event.Arrived link whole → frame_action q v ≡ Some a → IsNext v a
  next_is q v a is e =
      let next : next_frame_read link v ≡ Some a = sym (ap (λ (x : Event). frame_of_event x q v) is) ∙ (if_some (is_after_event q) (frame_of_event q.event q v) a e).1 in
      next_in v a (numbered v.links link) refl next next

  -- more of them were read, or it is over
  record IsPast (v : Seen) : Type 0 where
    m : Link
    here : numbered v.links link ≡ Some m
    own : m.number ≡ link
    came : m.received ≡ bs
    within : read_bytes m ≤ length bs
    past : (suc n ≤ read_bytes m) ⊎ (is_some m.over ≡ true)

  past_still : (s v : Seen) → IsPast s → IsPassedStill s v → IsPast v
  past_still s v is passed =
      let k = still_there s v link is.m passed is.here in
      record {
        m = k.0;
        here = k.1.0;
        own = ap (λ (z : Link). z.number) k.1.1 ∙ is.own;
        came = ap (λ (z : Link). z.received) k.1.1 ∙ is.came;
        within = subst (λ (z : Link). read_bytes z ≤ length bs) (sym k.1.1) is.within;
        past = subst (λ (z : Link). (suc n ≤ read_bytes z) ⊎ (is_some z.over ≡ true)) (sym k.1.1) is.past;
      }

  -- the link once a frame was read
  read_there : (q : OpenEntry) (v : Seen) (m : Link) (r : ReadFrame) → v.current ≡ Some q → numbered v.links link ≡ Some m → m.number ≡ link
      → numbered (after (action.FrameRead link r) v).links link ≡ Some (with_frame_read r (owed_for r.frame m v) m)
  read_there q v m r current here own =
      let f : Link → Link = with_frame_read r (owed_for r.frame m v) in
      ap (λ (c : Option OpenEntry). numbered (after_if c (action.FrameRead link r) v).links link) current
      ∙ ap (λ (o : Option Link). numbered (option_map_or (frame_read_on r v) o v).links link) here
      ∙ ap (λ (k : ℕ). numbered (changed f k v.links) link) own ∙ changed_here f link v.links m here

  read_current : (q : OpenEntry) (v : Seen) (m : Link) (r : ReadFrame) → v.current ≡ Some q → numbered v.links link ≡ Some m → (after (action.FrameRead link r) v).current ≡ Some q
  read_current q v m r current here =
      ap (λ (c : Option OpenEntry). (after_if c (action.FrameRead link r) v).current) current ∙ ap (λ (o : Option Link). (option_map_or (frame_read_on r v) o v).current) here ∙ current

  broken_there : (q : OpenEntry) (v : Seen) (m : Link) (code : ℕ) → v.current ≡ Some q → numbered v.links link ≡ Some m
      → numbered (after (action.LinkBreaks link code) v).links link ≡ Some (record m { over = Some over.Broken })
  broken_there q v m code current here =
      ap (λ (c : Option OpenEntry). numbered (after_if c (action.LinkBreaks link code) v).links link) current
      ∙ changed_here (λ (k : Link). record k { over = Some over.Broken }) link v.links m here

  broken_current : (q : OpenEntry) (v : Seen) (code : ℕ) → v.current ≡ Some q → (after (action.LinkBreaks link code) v).current ≡ Some q
  broken_current q v code current = ap (λ (c : Option OpenEntry). (after_if c (action.LinkBreaks link code) v).current) current ∙ current

  -- so it is after the next frame
  record HasPassed (q : OpenEntry) (v : Seen) : Type 0 where
    past : IsPast v
    current : v.current ≡ Some q

  frame_past : (q : OpenEntry) (v : Seen) (a : Action) (m : Link) → v.current ≡ Some q → numbered v.links link ≡ Some m → m.number ≡ link → m.received ≡ bs → read_bytes m ≤ length bs
      → (k : IsNext v a) → ((e : ℕ) → read_bytes m + 1 ≤ e → suc n ≤ e) → HasPassed q (after a v)
  frame_past q v a m current here own came within k further =
      elim k.is [
        | inl read ↦
            (let r : ReadFrame = read.0 in
            let frames : List FrameSeen = owed_for r.frame m v in
            let next : next_frame_read link v ≡ Some (action.FrameRead link r) = k.next ∙ ap (λ (b : Action). Some b) read.1 in
            let end : read_bytes (with_frame_read r frames m) ≡ r.end = bytes_more m r frames in
            let inside : r.end ≤ length m.received = ends_within link m v r here next (subst (λ (b : List ℕ). read_bytes m ≤ length b) (sym came) within) in
            subst (λ (b : Action). HasPassed q (after b v)) (sym read.1) (record {
              past = record {
                m = with_frame_read r frames m;
                here = read_there q v m r current here own;
                own = own;
                came = came;
                within = subst (λ (e : ℕ). e ≤ length bs) (sym end) (subst (λ (b : List ℕ). r.end ≤ length b) came inside);
                past = inl (subst (λ (e : ℕ). suc n ≤ e) (sym end) (further r.end (ends_later v link m r here next)));
              };
              current = read_current q v m r current here;
            }))
        | inr broken ↦ subst (λ (b : Action). HasPassed q (after b v)) (sym broken.1) (record {
          past = record {
            m = record m { over = Some over.Broken };
            here = broken_there q v m broken.0 current here;
            own = own;
            came = came;
            within = within;
            past = inr refl;
          };
          current = broken_current q v broken.0 current;
        })
      ]

  module _ (p : OpenEntry) (t : Seen) (last : t.current ≡ Some p) (replied_ : p.stage ≡ stage.Replied) where
    past_step : (a : Action) (actions : List Action) (q : OpenEntry) (v : Seen) (b : Bool) → is_at_once a ≡ b → (is_of_reply a ≡ true) ⊎ (frame_action q v ≡ Some a) → Does actions (after a v) t
        → posted_in actions ≡ [] → v.current ≡ Some q → q.stage ≡ stage.Replied → q.event ≡ event.Arrived link whole → IsPast v
        → ((k : OpenEntry) → (after a v).current ≡ Some k → k.stage ≡ stage.Replied → k.event ≡ event.Arrived link whole → IsPast (after a v) → IsPast t) → IsPast t
    past_step a actions q v true once of does posts current at is past rest =
        let k : IsOpenAs (staged q) (after a v) = goes_on a q v current (at_once_settles a once) (once_open a once) in
        rest k.entry k.current (ap (λ (z : Staged). z.stage_) k.stage_is ∙ at) (ap (λ (z : Staged). z.event_) k.stage_is ∙ is)
        (past_still v (after a v) past (actions_leave_passed a q v current once))
    past_step a actions q v false off of does posts current at is past rest =
        elim of [
          | inl replies ↦
              (let begins : a ≡ action.SettlingBegins = only_begins a replies off in
              absurd
              (not_both p replied_
              (settling_stays actions (record q { stage = stage.Settling }) p (after a v) t does posts (ap (λ (x : Action). (after x v).current) begins ∙ begins_as q v current) refl last)))
          | inr frame ↦
              (let k : IsNext v a = next_is q v a is frame in
              let same : past.m ≡ k.m = one_some past.m k.m (numbered v.links link) past.here k.here in
              let then_ : HasPassed q (after a v)
              = frame_past q v a past.m current past.here past.own past.came past.within k
              (λ e more. elim past.past [
                | inl less ↦ one_further n (read_bytes past.m) e less more
                | inr over ↦ absurd (going_by k.m.over k.going (ap (λ (z : Link). is_some z.over) (sym same) ∙ over))
              ]) in
              rest q then_.current at is then_.past)
        ]

    past_along : (actions : List Action) (q : OpenEntry) (v : Seen) → Does actions v t → posted_in actions ≡ [] → v.current ≡ Some q → q.stage ≡ stage.Replied
        → q.event ≡ event.Arrived link whole → IsPast v → IsPast t
    past_along [] q v does posts current at is past = subst IsPast (sym does) past
    past_along (a ∷ actions) q v does posts current at is past =
        let none : (posted_by a ≡ None) × (posted_in actions ≡ []) = first_none (posted_by a) (posted_in actions) posts in
        past_step a actions q v (is_at_once a) refl (kinds_by q v a (is_at_once a) current at (follows a v none.0 does.0) refl) does.1 none.1 current at is past
        (λ k here replied is_ past_. past_along actions k (after a v) does.1 none.1 here replied is_ past_)

  -- so many bytes were read of the link
  pub record IsUnread (q : OpenEntry) (v : Seen) : Type 0 where
    pub event_is : q.event ≡ event.Arrived link whole
    pub m : Link
    pub here : numbered v.links link ≡ Some m
    pub own : m.number ≡ link
    pub came : m.received ≡ bs
    pub read : read_bytes m ≡ n

  pub unread_stays : (o q : OpenEntry) (s v : Seen) → IsUnread o s → q.event ≡ o.event → IsPassedStill s v → IsUnread q v
  unread_stays o q s v is same passed =
      let k = still_there s v link is.m passed is.here in
      record {
        event_is = same ∙ is.event_is;
        m = k.0;
        here = k.1.0;
        own = ap (λ (z : Link). z.number) k.1.1 ∙ is.own;
        came = ap (λ (z : Link). z.received) k.1.1 ∙ is.came;
        read = ap read_bytes k.1.1 ∙ is.read;
      }

  -- no further frame is read by the end, where as many are left then
  pub only_replies : (p : OpenEntry) (t : Seen) → t.current ≡ Some p → p.stage ≡ stage.Replied → n ≤ length bs → (l : Link) → numbered t.links link ≡ Some l
      → drop (read_bytes l) l.received ≡ drop n bs → is_none l.over ≡ true → (a : Action) (others : List Action) (q : OpenEntry) (v : Seen) → IsUnread q v → v.current ≡ Some q
      → q.stage ≡ stage.Replied → following v ≡ Some a → Does others (after a v) t → posted_in others ≡ [] → is_of_reply a ≡ true
  only_replies p t last replied within l there left going a others q v holds here stage_is next does_ none =
      elim (kinds_by q v a (is_at_once a) here stage_is next refl) [
        | inl replies ↦ replies
        | inr frame ↦
            (let k : IsNext v a = next_is q v a holds.event_is frame in
            let then_ : HasPassed q (after a v)
            = frame_past q v a holds.m here holds.here holds.own holds.came (subst (λ (e : ℕ). e ≤ length bs) (sym holds.read) within) k
            (λ e more. first_further n (read_bytes holds.m) e holds.read more) in
            let past : IsPast t = past_along p t last replied others q (after a v) does_ none then_.current stage_is holds.event_is then_.past in
            let same : past.m ≡ l = one_some past.m l (numbered t.links link) past.here there in
            let as_many : length bs - read_bytes past.m ≡ length bs - n
            = sym (length-drop (read_bytes past.m) bs) ∙ ap (λ (b : List ℕ). length (drop (read_bytes past.m) b)) (sym past.came)
            ∙ ap (λ (z : Link). length (drop (read_bytes z) z.received)) same ∙ ap (λ (b : List ℕ). length b) left ∙ length-drop n bs in
            absurd (elim past.past [
              | inl less ↦ never_further n (read_bytes past.m) (length bs) less past.within as_many
              | inr over ↦ going_by l.over going (ap (λ (z : Link). is_some z.over) (sym same) ∙ over)
            ]))
      ]

  pub unread_passed : (actions : List Action) (o p : OpenEntry) (s t : Seen) → Does actions s t → posted_in actions ≡ [] → s.current ≡ Some o → o.stage ≡ stage.Replied → t.current ≡ Some p
      → p.stage ≡ stage.Replied → IsUnread o s → n ≤ length bs → (l : Link) → numbered t.links link ≡ Some l → drop (read_bytes l) l.received ≡ drop n bs → is_none l.over ≡ true
      → IsPassedStill s t
  unread_passed actions o p s t does posts current at last replied is within l there left going =
      passed_along IsUnread p t last replied (only_replies p t last replied within l there left going) unread_stays actions o s does posts current at is
