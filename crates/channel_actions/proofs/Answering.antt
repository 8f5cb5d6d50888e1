-- An event that is answered by one action, which leaves all as it is but for the entry.
use Rattle.std.proofs.Common.{◌≡◌, ◌&&◌, ◌∷◌, ap, refl, subst, sym, ◌∙◌, Bool, true, false, [], Option, None, Some, ℕ, if◌then◌else◌}
use Rattle.std.specs.Option.{option_and_then}
use Rattle.channel_actions.proofs.Settles.{IsQuiet, quiescent_stays, follows_by, is_with_open, reopened, restaged, with_open}
use Rattle.channel_actions.specs.Agrees.{Agrees}
use Rattle.channel_actions.specs.Quiescent.{IsAt, IsQuiescent}
use Rattle.channel_actions.specs.Stages.{IsAnswered}
use Rattle.channel_core.specs.States.{StateSeen}
use Rattle.grpc_base.specs.declared.event.Event.{Event}
use Rattle.grpc_base.specs.declared.event.Refusal.{Refusal}
use Rattle.grpc_base.specs.declared.event.Reply.{Reply}
use Rattle.grpc_base.specs.declared.event.Reply.TheVariants as reply
use Rattle.session_actions.specs.Actions.{after, after_if, first_action, following, following_in, of_calls, of_links, of_policies, of_stage}
use Rattle.session_actions.specs.CallEnds.{cancels, is_after_event, next_deadline, sends_too_long}
use Rattle.session_actions.specs.Entries.{replied}
use Rattle.session_actions.specs.Events.{event_action, frame_action, frame_of_event}
use Rattle.session_actions.specs.Laws.{posted_in}
use Rattle.session_actions.specs.Policies.{addresses_in}
use Rattle.session_actions.specs.Sessions.{IsNext}
use Rattle.session_actions.specs.declared.action.Action.{Action}
use Rattle.session_actions.specs.declared.action.Action.TheVariants as action
use Rattle.session_actions.specs.declared.call.Call.{Call}
use Rattle.session_actions.specs.declared.entry.OpenEntry.{OpenEntry}
use Rattle.session_actions.specs.declared.entry.Stage.TheVariants as stage
use Rattle.session_actions.specs.declared.seen.Seen.{Seen}

-- the action of the event is next, where no deadline has come
module _ (o : OpenEntry) (s : Seen) (at : IsAt stage.Event o s) (timely : next_deadline s ≡ None) (a : Action) (gives : event_action o.event s ≡ Some a) where
  stage_gives : of_stage o s o.stage ≡ Some a
  stage_gives =
      ap (of_stage o s) at.stage_is ∙ ap (λ (d : Option Action). first_action (d ∷ event_action o.event s ∷ [])) timely
      ∙ ap (λ (d : Option Action). first_action (d ∷ [])) gives

  pub event_next : following s ≡ Some a
  event_next =
      ap (option_and_then (following_in s)) at.current
      ∙ follows_by (of_calls o s) (of_links o s) (of_policies o s) (of_stage o s o.stage) a at.quiescent.calls at.quiescent.links at.quiescent.policies stage_gives

abbrev pub replied_entry : Reply → OpenEntry → OpenEntry
replied_entry r o = restaged stage.Replied (Some r) o

pub replied_is : (r : Reply) (o : OpenEntry) (s : Seen) → s.current ≡ Some o → replied r s ≡ with_open (replied_entry r o) s
replied_is r o s e = ap (λ (c : Option OpenEntry). replied r (record s { current = c })) e

-- it is answered, and that is all
module _ (x : StateSeen) (r : Reply) (o : OpenEntry) (s : Seen) (h : Agrees x s) (at : IsAt stage.Event o s) (fresh : o.turn ≡ None)
    (timely : next_deadline s ≡ None) (a : Action) (gives : event_action o.event s ≡ Some a) (next_is : following s ≡ Some a → IsNext a s)
    (posts : posted_in (a ∷ []) ≡ []) (does : after a s ≡ replied r s) (quiet : IsQuiet (replied_entry r o))
    (none : frame_action (replied_entry r o) (with_open (replied_entry r o) s) ≡ None) where
  pub answered_plainly : IsAnswered x r o s
  answered_plainly = record {
    reaches = record {
      actions = a ∷ [];
      seen = with_open (replied_entry r o) s;
      entry = replied_entry r o;
      does = (next_is (event_next o s at timely a gives), sym (does ∙ replied_is r o s at.current));
      posts = posts;
      same = record { moment = refl; word = refl; event = refl; entries = refl; setup = refl };
      at = record {
        current = refl;
        stage_is = refl;
        quiescent = quiescent_stays stage.Replied (Some r) o s quiet (subst (IsQuiescent o) (is_with_open o s at.current) at.quiescent);
      };
      agrees = reopened x o (replied_entry r o) s refl refl refl (subst (Agrees x) (is_with_open o s at.current) h);
    };
    reply = refl;
    fresh = fresh;
    none = none;
  }

-- it is refused
pub refused : (x : StateSeen) (why : Refusal) (o : OpenEntry) (s : Seen) → Agrees x s → IsAt stage.Event o s → o.turn ≡ None → next_deadline s ≡ None
    → event_action o.event s ≡ Some (action.EventRefused why) → IsAnswered x (reply.Refused why) o s
refused x why o s h at fresh timely gives =
    answered_plainly x (reply.Refused why) o s h at fresh timely (action.EventRefused why) gives (λ e. e) refl
    (ap (λ (c : Option OpenEntry). after_if c (action.EventRefused why) s) at.current) (record { cancelled = λ n. refl; sent = λ c z. refl; result = refl }) refl

-- an event that brings no more than its answer
and_no : (a b : Bool) → b ≡ false → (a && b) ≡ false
and_no true b e = e
and_no false b e = refl

if_none : {X : Type 0} (b : Bool) (z : Option X) → z ≡ None → (if b then z else None) ≡ None
if_none true z e = e
if_none false z e = refl

pub record IsPlain (e : Event) : Type 0 where
  pub cancels_none : (n : ℕ) → cancels e n ≡ false
  pub sends_none : (c : Call) (s : Seen) → sends_too_long e c s ≡ false
  pub no_result : addresses_in e ≡ None
  pub no_frame : (o : OpenEntry) (s : Seen) → frame_of_event e o s ≡ None

pub plain_quiet : (r : Reply) (o : OpenEntry) (e : Event) → o.event ≡ e → IsPlain e → IsQuiet (replied_entry r o)
plain_quiet r o e is plain = record {
  cancelled = λ n. and_no (is_after_event (replied_entry r o)) (cancels o.event n) (ap (λ (v : Event). cancels v n) is ∙ plain.cancels_none n);
  sent = λ c s. and_no (is_after_event (replied_entry r o)) (sends_too_long o.event c s) (ap (λ (v : Event). sends_too_long v c s) is ∙ plain.sends_none c s);
  result = if_none (is_after_event (replied_entry r o)) (addresses_in o.event) (ap addresses_in is ∙ plain.no_result);
}

pub plain_frame : (r : Reply) (o : OpenEntry) (s : Seen) (e : Event) → o.event ≡ e → IsPlain e → frame_action (replied_entry r o) s ≡ None
plain_frame r o s e is plain =
    if_none (is_after_event (replied_entry r o)) (frame_of_event o.event (replied_entry r o) s)
    (ap (λ (v : Event). frame_of_event v (replied_entry r o) s) is ∙ plain.no_frame (replied_entry r o) s)

-- it is answered so, with nothing done
pub answered_so : (x y : StateSeen) (r q : Reply) (o : OpenEntry) (s : Seen) (e : Event) → Agrees x s → IsAt stage.Event o s → o.turn ≡ None → next_deadline s ≡ None
    → o.event ≡ e → IsPlain e → event_action e s ≡ Some (action.EventAnswered q) → y ≡ x → r ≡ q → IsAnswered y r o s
answered_so x y r q o s e h at fresh timely is plain gives same says =
    let one : IsAnswered x q o s
    = answered_plainly x q o s h at fresh timely (action.EventAnswered q) (ap (λ (v : Event). event_action v s) is ∙ gives) (λ e. e) refl
    (ap (λ (c : Option OpenEntry). after_if c (action.EventAnswered q) s) at.current) (plain_quiet q o e is plain)
    (plain_frame q o (with_open (replied_entry q o) s) e is plain) in
    subst (λ (z : StateSeen). IsAnswered z r o s) (sym same) (subst (λ (z : Reply). IsAnswered x z o s) (sym says) one)

-- it is refused so
pub refused_so : (x y : StateSeen) (r : Reply) (why : Refusal) (o : OpenEntry) (s : Seen) → Agrees x s → IsAt stage.Event o s → o.turn ≡ None → next_deadline s ≡ None
    → event_action o.event s ≡ Some (action.EventRefused why) → y ≡ x → r ≡ reply.Refused why → IsAnswered y r o s
refused_so x y r why o s h at fresh timely gives same says =
    subst (λ (z : StateSeen). IsAnswered z r o s) (sym same)
    (subst (λ (z : Reply). IsAnswered x z o s) (sym says) (refused x why o s h at fresh timely gives))
