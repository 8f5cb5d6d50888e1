-- Along a list of actions of an entry of a loss, from its answer on.
use Rattle.std.proofs.Common.{◌≡◌, ◌++◌, ◌∷◌, ap, refl, subst, sym, ◌∙◌, Bool, true, false, List, [], None, Option, Some, ℕ}
use Rattle.std.specs.Option.{option_map}
use Rattle.std.specs.Prelude.{option_and_then, option_to_list}
use Rattle.event_cases.proofs.PassedAtOnce.Acts.{Staged, actions_leave_passed, is_closing, passed_self, passed_then, stage_stays, staged}
use Rattle.event_cases.proofs.PassedAtOnce.Lines.{at_once_settles, is_of_reply, is_of_settling, replies_by, settles_by}
use Rattle.event_cases.specs.PassedAtOnce.Laws.{LossesLeavePassed}
use Rattle.event_cases.specs.PassedAtOnce.Passed.{IsPassedStill, is_at_once}
use Rattle.grpc_base.specs.declared.event.Event.TheVariants as event
use Rattle.grpc_base.specs.declared.event.Stamped.{Stamped}
use Rattle.session_actions.specs.Actions.{after, after_if, following, following_in}
use Rattle.session_actions.specs.Laws.{posted_by, posted_in}
use Rattle.session_actions.specs.Sessions.{Does, IsNext}
use Rattle.session_actions.specs.declared.action.Action.{Action}
use Rattle.session_actions.specs.declared.action.Action.TheVariants as action
use Rattle.session_actions.specs.declared.entry.OpenEntry.{OpenEntry}
use Rattle.session_actions.specs.declared.entry.Stage.TheVariants as stage
use Rattle.session_actions.specs.declared.seen.Seen.{Seen}

-- nothing is posted by the first, nor by the others
pub first_none : (o : Option Stamped) (rest : List Stamped) → option_to_list o ++ rest ≡ [] → (o ≡ None) × (rest ≡ [])
first_none None rest e = (refl, e)
first_none (Some p) rest e = absurd (cc)

pub follows : (a : Action) (s : Seen) → posted_by a ≡ None → IsNext a s → following s ≡ Some a
follows (action.EntryOpens posted word e) s none h = absurd (cc)
follows a s none h = h

none_open : (a : Action) (s : Seen) → posted_by a ≡ None → IsNext a s → s.current ≡ None → ⊥
none_open a s none h closed =
    let here : following s ≡ Some a = follows a s none h in
    let nothing : following s ≡ None = ap (λ (o : Option OpenEntry). option_and_then (following_in s) o) closed in
    (cc)

never_open : (actions : List Action) (p : OpenEntry) (s t : Seen) → Does actions s t → posted_in actions ≡ [] → s.current ≡ None → t.current ≡ Some p → ⊥
never_open [] p s t does posts closed current = (let bad : None ≡ Some p = sym closed ∙ sym (ap (λ (v : Seen). v.current) does) ∙ current in (cc))
never_open (a ∷ actions) p s t does posts closed current = none_open a s (first_none (posted_by a) (posted_in actions) posts).0 does.0 closed

-- the entry that is open then
pub record IsOpenAs (z : Staged) (s : Seen) : Type 0 where
  pub entry : OpenEntry
  pub current : s.current ≡ Some entry
  pub stage_is : staged entry ≡ z

open_by : (z : Staged) (s : Seen) (o : Option OpenEntry) → s.current ≡ o → option_map staged o ≡ Some z → IsOpenAs z s
open_by z s None e h = absurd (cc)
open_by z s (Some p) e h = record { entry = p; current = e; stage_is = (cc) }

pub goes_on : (a : Action) (o : OpenEntry) (s : Seen) → s.current ≡ Some o → is_of_settling a ≡ true → is_closing a ≡ false → IsOpenAs (staged o) (after a s)
goes_on a o s current settles going =
    open_by (staged o) (after a s) (after a s).current refl (stage_stays o a s current settles going ∙ ap (option_map staged) current)

closed_by : (a : Action) (o : OpenEntry) (s : Seen) → s.current ≡ Some o → is_closing a ≡ true → (after a s).current ≡ None
closed_by action.EntryCloses o s current e = ap (λ (q : Option OpenEntry). (after_if q action.EntryCloses s).current) current
closed_by _ o s current e = absurd (cc)

-- a settling that has begun is not taken back
settling_by : (a : Action) (actions : List Action) (o p : OpenEntry) (s t : Seen) (b : Bool) → is_closing a ≡ b → Does actions (after a s) t → posted_in actions ≡ [] → s.current ≡ Some o
    → o.stage ≡ stage.Settling → t.current ≡ Some p → is_of_settling a ≡ true
    → ((q : OpenEntry) → (after a s).current ≡ Some q → q.stage ≡ stage.Settling → p.stage ≡ stage.Settling) → p.stage ≡ stage.Settling
settling_by a actions o p s t true e does posts current at last settles rest = absurd (never_open actions p (after a s) t does posts (closed_by a o s current e) last)
settling_by a actions o p s t false e does posts current at last settles rest =
    let k : IsOpenAs (staged o) (after a s) = goes_on a o s current settles e in
    rest k.entry k.current (ap (λ (z : Staged). z.stage_) k.stage_is ∙ at)

pub settling_stays : (actions : List Action) (o p : OpenEntry) (s t : Seen) → Does actions s t → posted_in actions ≡ [] → s.current ≡ Some o → o.stage ≡ stage.Settling → t.current ≡ Some p
    → p.stage ≡ stage.Settling
settling_stays [] o p s t does posts current at last =
    let both : Some o ≡ Some p = sym current ∙ sym (ap (λ (v : Seen). v.current) does) ∙ last in
    let same : o ≡ p = (cc) in ap (λ (q : OpenEntry). q.stage) (sym same) ∙ at
settling_stays (a ∷ actions) o p s t does posts current at last =
    let none : (posted_by a ≡ None) × (posted_in actions ≡ []) = first_none (posted_by a) (posted_in actions) posts in
    settling_by a actions o p s t (is_closing a) refl does.1 none.1 current at last (settles_by s o a current at (follows a s none.0 does.0))
    (λ q here settles. settling_stays actions q p (after a s) t does.1 none.1 here settles last)

-- what follows a reply
pub only_begins : (a : Action) → is_of_reply a ≡ true → is_at_once a ≡ false → a ≡ action.SettlingBegins
only_begins action.SettlingBegins e f = refl
only_begins _ e f = absurd (cc)

pub once_open : (a : Action) → is_at_once a ≡ true → is_closing a ≡ false
once_open action.EntryCloses e = absurd (cc)
once_open _ e = refl

pub begins_as : (o : OpenEntry) (s : Seen) → s.current ≡ Some o → (after action.SettlingBegins s).current ≡ Some (record o { stage = stage.Settling })
begins_as o s current =
    ap (λ (q : Option OpenEntry). (after_if q action.SettlingBegins s).current) current
    ∙ ap (option_map (λ (q : OpenEntry). record q { stage = stage.Settling })) current

pub not_both : (p : OpenEntry) → p.stage ≡ stage.Replied → p.stage ≡ stage.Settling → ⊥
not_both p e f = (let bad : stage.Replied ≡ stage.Settling = sym e ∙ f in (cc))

-- each of these actions is one that follows at once, or the channel begins to settle: whatever holds by then says so
module _ (Holds : OpenEntry → Seen → Type 0) (p : OpenEntry) (t : Seen) (last : t.current ≡ Some p) (replied_ : p.stage ≡ stage.Replied)
    (replies : (a : Action) (actions : List Action) (o : OpenEntry) (s : Seen) → Holds o s → s.current ≡ Some o → o.stage ≡ stage.Replied → following s ≡ Some a → Does actions (after a s) t
    → posted_in actions ≡ [] → is_of_reply a ≡ true) (stays : (o q : OpenEntry) (s v : Seen) → Holds o s → q.event ≡ o.event → IsPassedStill s v → Holds q v) where
  step_by : (a : Action) (actions : List Action) (o : OpenEntry) (s : Seen) (b : Bool) → is_at_once a ≡ b → is_of_reply a ≡ true → Does actions (after a s) t → posted_in actions ≡ []
      → s.current ≡ Some o → o.stage ≡ stage.Replied → Holds o s
      → ((q : OpenEntry) → (after a s).current ≡ Some q → q.stage ≡ stage.Replied → Holds q (after a s) → IsPassedStill (after a s) t) → IsPassedStill s t
  step_by a actions o s true e of does posts current at is rest =
      let k : IsOpenAs (staged o) (after a s) = goes_on a o s current (at_once_settles a e) (once_open a e) in
      let one : IsPassedStill s (after a s) = actions_leave_passed a o s current e in
      passed_then s (after a s) t one
      (rest k.entry k.current (ap (λ (z : Staged). z.stage_) k.stage_is ∙ at) (stays o k.entry s (after a s) is (ap (λ (z : Staged). z.event_) k.stage_is) one))
  step_by a actions o s false e of does posts current at is rest =
      let begins : a ≡ action.SettlingBegins = only_begins a of e in
      absurd
      (not_both p replied_
      (settling_stays actions (record o { stage = stage.Settling }) p (after a s) t does posts
      (ap (λ (x : Action). (after x s).current) begins ∙ begins_as o s current) refl last))

  pub passed_along : (actions : List Action) (o : OpenEntry) (s : Seen) → Does actions s t → posted_in actions ≡ [] → s.current ≡ Some o → o.stage ≡ stage.Replied → Holds o s
      → IsPassedStill s t
  passed_along [] o s does posts current at is = subst (IsPassedStill s) (sym does) (passed_self s)
  passed_along (a ∷ actions) o s does posts current at is =
      let none : (posted_by a ≡ None) × (posted_in actions ≡ []) = first_none (posted_by a) (posted_in actions) posts in
      step_by a actions o s (is_at_once a) refl (replies a actions o s is current at (follows a s none.0 does.0) does.1 none.1) does.1 none.1 current at is
      (λ q here replied holds. passed_along actions q (after a s) does.1 none.1 here replied holds)

pub losses_leave_passed : LossesLeavePassed
losses_leave_passed actions link o p s t does current last is at replied posts =
    passed_along (λ q v. q.event ≡ event.LinkLost link) p t last replied (λ a others q v lost here stage_is next does_ none. replies_by v q link a here stage_is lost next)
    (λ q r v w lost same still. same ∙ lost) actions o s does posts current at is
