-- Kind by kind: what an action of subchannels and policies leaves.
use Rattle.std.proofs.Common.{◌≡◌, ◌∷◌, ◌++◌, ◌+◌, ap, refl, sym, ◌∙◌, true, List, [], Option, None, Some, ℕ, length}
use Rattle.std.specs.Option.{option_map_or}
use Rattle.call_actions.specs.CallsApart.Apart.{acts_on}
use Rattle.grpc_base.specs.declared.address.Address.{Address}
use Rattle.grpc_base.specs.declared.event.Conn.TheVariants as conn
use Rattle.grpc_base.specs.declared.event.Event.{Event}
use Rattle.channel_actions.specs.BoardActions.Boards.{IsBoarded, boarded, is_of_board}
use Rattle.channel_actions.specs.BoardActions.Laws.{BoardsLeaveRest}
use Rattle.session_actions.specs.Actions.{after, after_if, after_in}
use Rattle.session_actions.specs.Links.{link_over, wants_resolution}
use Rattle.session_actions.specs.Policies.{addresses_given, addresses_in, current_policy, given_addresses, policy_retired, policy_took_over, with_policy}
use Rattle.session_actions.specs.Subchannels.{connect_timed_out, dial_failed, dial_taken_of, gone_down, in_state, link_timed_out, link_up, new_link, noted_by_policies, with_dial, with_sub, without_link}
use Rattle.session_actions.specs.Words.{changed, numbered}
use Rattle.session_actions.specs.declared.action.Action.{Action}
use Rattle.session_actions.specs.declared.action.Action.TheVariants as action
use Rattle.session_actions.specs.declared.entry.OpenEntry.{OpenEntry}
use Rattle.session_actions.specs.declared.link.LinkOver.TheVariants as over
use Rattle.session_actions.specs.declared.policy.PolicyUse.{PolicyUse}
use Rattle.session_actions.specs.declared.seen.Seen.{Seen}
use Rattle.session_actions.specs.declared.subchannel.Subchannel.{Subchannel}

pub boards_join : (s t u : Seen) → IsBoarded s t → IsBoarded t u → IsBoarded s u
boards_join s t u e f = f ∙ ap (λ (v : Seen). boarded v u) e

or_boarded : {X : Type 0} (s : Seen) (f : X → Seen) → ((x : X) → IsBoarded s (f x)) → (o : Option X) → IsBoarded s (option_map_or f o s)
or_boarded s f each None = refl
or_boarded s f each (Some x) = each x

pub subbed : (f : Subchannel → Subchannel) (sub : ℕ) (s : Seen) → IsBoarded s (with_sub f sub s)
subbed f sub s =
    let t : Seen = record s { subs = changed f sub s.subs } in
    boards_join s t (with_sub f sub s) refl (or_boarded t (λ (b : Subchannel). noted_by_policies b t) (λ b. refl) (numbered t.subs sub))

dialled : (again until : ℕ) (s : Seen) (b : Subchannel) → IsBoarded s (dial_taken_of again until s b)
dialled again until s b = boards_join s (with_sub (with_dial again until) b.number s) (dial_taken_of again until s b) (subbed (with_dial again until) b.number s) refl

timed_out : (s : Seen) (o : Option Subchannel) → IsBoarded s (option_map_or (λ (b : Subchannel). link_timed_out b s) o s)
timed_out s o =
    or_boarded s (λ (b : Subchannel). link_timed_out b s) (λ b. or_boarded s (λ (link : ℕ). link_over over.TimedOut link s) (λ link. refl) b.link) o

timed : (sub : ℕ) (s : Seen) → IsBoarded s (connect_timed_out sub s)
timed sub s =
    let t : Seen = option_map_or (λ (b : Subchannel). link_timed_out b s) (numbered s.subs sub) s in
    let u : Seen = wants_resolution t in
    boards_join s u (connect_timed_out sub s) (boards_join s t u (timed_out s (numbered s.subs sub)) refl) (subbed (without_link conn.Failure) sub u)

failed : (sub : ℕ) (s : Seen) → IsBoarded s (dial_failed sub s)
failed sub s =
    let t : Seen = wants_resolution s in
    boards_join s (with_sub (without_link conn.Failure) sub t) (dial_failed sub s)
    (boards_join s t (with_sub (without_link conn.Failure) sub t) refl (subbed (without_link conn.Failure) sub t)) refl

linked : (sub : ℕ) (s : Seen) → IsBoarded s (link_up sub s)
linked sub s =
    let t : Seen = record s { links = s.links ++ new_link (length s.links + 1) sub s ∷ [] } in
    let f : Subchannel → Subchannel = λ b. record b { link = Some (length s.links + 1) } in
    boards_join s (with_sub f sub t) (link_up sub s) (boards_join s t (with_sub f sub t) refl (subbed f sub t)) refl

given : (g : ℕ) (e : Event) (s : Seen) → IsBoarded s (addresses_given g e s)
given g e s = or_boarded s (λ (addresses : List Address). with_policy (given_addresses addresses s) g s) (λ addresses. refl) (addresses_in e)

took_over : (g : ℕ) (s : Seen) → IsBoarded s (policy_took_over g s)
took_over g s =
    let t : Seen = option_map_or (λ (h : PolicyUse). policy_retired h.number s) (current_policy s) s in
    boards_join s t (policy_took_over g s) (or_boarded s (λ (h : PolicyUse). policy_retired h.number s) (λ h. refl) (current_policy s)) refl

act : (s : Seen) (o : OpenEntry) (a : Action) → is_of_board a ≡ true → IsBoarded s (after_in o a s)
act s o (action.PolicyBegins k) is = refl
act s o (action.AddressesGiven g) is = given g o.event s
act s o (action.PolicyTakesOver g) is = took_over g s
act s o (action.PolicyRetired g) is = refl
act s o (action.SubchannelAdded address) is = refl
act s o (action.SubchannelShut sub) is = subbed (without_link conn.Shutdown) sub s
act s o (action.SubchannelConnects sub) is = subbed (in_state conn.Connecting) sub s
act s o (action.DialTaken sub again until) is = or_boarded s (dial_taken_of again until s) (dialled again until s) (numbered s.subs sub)
act s o (action.DialFails sub) is = failed sub s
act s o (action.ConnectTimesOut sub) is = timed sub s
act s o (action.BackoffEnds sub) is = subbed (in_state conn.Idle) sub s
act s o (action.LinkUp sub) is = linked sub s
act s o (action.SettingsArrive sub) is = subbed (λ b. record b { state = conn.Ready; dials = 0; until = None }) sub s
act s o (action.LinkDown sub) is = subbed gone_down sub s
act s o _ is = absurd (cc)

act_if : (s : Seen) (o : Option OpenEntry) (a : Action) → is_of_board a ≡ true → IsBoarded s (after_if o a s)
act_if s (Some o) a is = act s o a is
act_if s None (action.EntryOpens posted word e) is = absurd (cc)
act_if s None _ is = refl

pub one_boarded : (s : Seen) (a : Action) → is_of_board a ≡ true → IsBoarded s (after a s)
one_boarded s a is = act_if s s.current a is

pub boards_leave_rest : BoardsLeaveRest
boards_leave_rest [] s t board does = does ∙ ap (boarded s) (sym does)
boards_leave_rest (a ∷ actions) s t board does =
    boards_join s (after a s) t (one_boarded s a board.0) (boards_leave_rest actions (after a s) t board.1 does.1)

-- they are of no call
pub of_none : (s : Seen) (a : Action) → is_of_board a ≡ true → acts_on a s ≡ None
of_none s (action.PolicyBegins k) is = refl
of_none s (action.AddressesGiven g) is = refl
of_none s (action.PolicyTakesOver g) is = refl
of_none s (action.PolicyRetired g) is = refl
of_none s (action.SubchannelAdded address) is = refl
of_none s (action.SubchannelShut sub) is = refl
of_none s (action.SubchannelConnects sub) is = refl
of_none s (action.DialTaken sub again until) is = refl
of_none s (action.DialFails sub) is = refl
of_none s (action.ConnectTimesOut sub) is = refl
of_none s (action.BackoffEnds sub) is = refl
of_none s (action.LinkUp sub) is = refl
of_none s (action.SettingsArrive sub) is = refl
of_none s (action.LinkDown sub) is = refl
of_none s _ is = absurd (cc)
