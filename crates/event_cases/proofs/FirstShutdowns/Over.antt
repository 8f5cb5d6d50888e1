-- A channel is shut down, and its calls end, in both.
use Rattle.std.proofs.Common.{◌≡◌, ◌≤◌, ◌&&◌, ◌∷◌, ap, arith, refl, subst, sym, Bool, true, false, cond, List, [], None, Option, Some, ℕ, zero, suc, find, is_none, is_some, length, slice_get}
use Rattle.std.specs.Option.{option_map}
use Rattle.attempt_ledger.specs.declared.ledger.CallEnd.{CallEnd}
use Rattle.channel_actions.proofs.Answering.{event_next}
use Rattle.channel_actions.proofs.Settles.{is_with_open, with_open}
use Rattle.channel_actions.specs.Agrees.{Agrees}
use Rattle.channel_actions.specs.Quiescent.{IsAt}
use Rattle.call_cases.proofs.CallPosts.Answered.{to_order}
use Rattle.event_cases.proofs.FirstShutdowns.Loop.{AllOver, Loop, all_over}
use Rattle.event_cases.proofs.FirstShutdowns.Shut.{shut_agrees, shut_now, shut_still, shut_too}
use Rattle.event_cases.specs.FirstShutdowns.Cases.{IsFirstShutdown}
use Rattle.event_cases.specs.FirstShutdowns.Laws.{CallsAreOver, ShutdownsEndCalls}
use Rattle.channel_actions.specs.Cases.{answered_done}
use Rattle.channel_core.specs.Applying.{calls_closed}
use Rattle.channel_core.specs.States.{StateSeen}
use Rattle.grpc_base.specs.declared.event.EndCause.TheVariants as ending
use Rattle.grpc_base.specs.declared.event.Event.{Event}
use Rattle.net_actions.specs.Runs.{NoneIsToEnd}
use Rattle.session_actions.specs.Actions.{following}
use Rattle.session_actions.specs.CallEnds.{ending_call, is_shut_down, next_deadline}
use Rattle.session_actions.specs.Events.{event_action}
use Rattle.session_actions.specs.Words.{numbered}
use Rattle.session_actions.specs.declared.action.Action.TheVariants as action
use Rattle.session_actions.specs.declared.entry.OpenEntry.{OpenEntry}
use Rattle.session_actions.specs.declared.entry.Stage.TheVariants as stage
use Rattle.session_actions.specs.declared.seen.Seen.{Seen}

-- none is open
open_not : (q : Option CallEnd) (b : Bool) → is_some q ≡ true → (is_none q && b) ≡ false
open_not None b e = absurd (cc)
open_not (Some k) b e = refl

none_by : {X : Type 0} (p : X → Bool) (x : X) (xs : List X) (b : Bool) → p x ≡ b → b ≡ false → find p xs ≡ None → cond b (Some x) (find p xs) ≡ None
none_by p x xs true e f rest = absurd (cc)
none_by p x xs false e f rest = rest

none_found : {X : Type 0} (p : X → Bool) (xs : List X) → ((i : ℕ) (x : X) → slice_get xs i ≡ Some x → p x ≡ false) → find p xs ≡ None
none_found p [] none = refl
none_found p (x ∷ xs) none = none_by p x xs (p x) refl (none zero x refl) (none_found p xs (λ i y at. none (suc i) y at))

no_zero_call : {X : Type 0} (xs : List X) (k : ℕ) (x : X) → k ≤ 0 → numbered xs k ≡ Some x → ⊥
no_zero_call xs zero x less there = (cc)
no_zero_call xs (suc i) x less there = omega (arith, less)

module _ (x : StateSeen) (o : OpenEntry) (s : Seen) (h : Agrees x (with_open o s)) (at : IsAt stage.Event o (with_open o s)) (timely : next_deadline (with_open o s) ≡ None)
    (case : IsFirstShutdown o.event x (with_open o s)) where
  abbrev u : Seen
  u = with_open o s

  follows : following u ≡ Some action.ChannelShuts
  follows = event_next o u at timely action.ChannelShuts (ap (λ (e : Event). event_action e u) case.event_is)

  abbrev t : Seen
  t = shut_now x o s h follows

  begins : Loop 0 (length x.book.calls) (shut_too x) (answered_done o) t
  begins = record {
    agrees = shut_agrees x o s h follows;
    current = refl;
    still = shut_still x o s h follows case.event_is (to_order o u at.quiescent);
    unreset = case.unreset;
    shut = refl;
    over = λ k d less there. absurd (no_zero_call s.calls k d less there);
    count = (let e : length s.calls ≡ length x.book.calls = h.calls.count in omega (arith, e));
    few = case.few;
  }

  ends : AllOver (calls_closed (length x.book.calls) 0 (shut_too x)) (answered_done o) t
  ends = all_over (length x.book.calls) 0 (shut_too x) (answered_done o) t begins

  over : NoneIsToEnd ends.seen
  over =
      ap (option_map (ending_call ending.Shut))
      (none_found (is_shut_down ends.seen) ends.seen.calls (λ i d there. open_not d.end ends.seen.shut (ends.over (suc i) d there)))

  pub calls_over : CallsAreOver x o u
  calls_over = record {
    actions = action.ChannelShuts ∷ ends.actions;
    seen = ends.seen;
    does = (follows, ends.does);
    posts = ends.posts;
    current = ends.current;
    still = ends.still;
    over = over;
    agrees = ends.agrees;
    shut = ends.rest.shut;
    entries = ends.rest.entries;
    setup = ends.rest.setup;
    asks = ends.rest.asks;
    subs = ends.rest.subs;
  }

pub shutdowns_end_calls : ShutdownsEndCalls
shutdowns_end_calls x o s h at timely case =
    let e = is_with_open o s at.current in
    subst (CallsAreOver x o) (sym e)
    (calls_over x o s (subst (Agrees x) e h) (subst (IsAt stage.Event o) e at) (subst (λ (z : Seen). next_deadline z ≡ None) e timely) (subst (IsFirstShutdown o.event x) e case))
