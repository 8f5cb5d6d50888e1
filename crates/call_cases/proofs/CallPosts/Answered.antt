-- An event by which an application posts something to a call is answered so: one action, which leaves channel and session in agreement, and nothing follows at once.
use Rattle.call_core.specs.declared.state.CallState.{CallState}
use Rattle.call_cases.proofs.CallPosts.Agreeing.{IsPut, reported_agrees}
use Rattle.call_cases.proofs.CallPosts.Report.{f, p, s, t}
use Rattle.channel_actions.proofs.Answering.{event_next}
use Rattle.channel_actions.specs.Agrees.{Agrees}
use Rattle.channel_actions.specs.Calls.{HasSlot, SeesCall, lent_to}
use Rattle.channel_actions.specs.Quiescent.{IsAt, IsQuiescent}
use Rattle.channel_actions.specs.Stages.{IsAnswered}
use Rattle.channel_actions.proofs.Refusing.{none_numbered}
use Rattle.channel_actions.proofs.Stamps.{counted_at}
use Rattle.channel_core.proofs.BookLaws.{called, number_changed, number_other, put_call}
use Rattle.channel_core.proofs.Resting.{changed_length}
use Rattle.channel_core.specs.Books.{lacks_call, slot_at}
use Rattle.channel_core.specs.States.{StateSeen}
use Rattle.channel_core.specs.Tables.{changed_call, numbered as slot_numbered, with_call}
use Rattle.channel_core.specs.declared.state.slots.CallSlot.{CallSlot}
use Rattle.grpc_base.specs.declared.event.Reply.{Reply}
use Rattle.channel_actions.specs.KeptSessions.Laws.{KeptAlong}
use Rattle.ledger_stamps.specs.Steps.{changed, changed_at}
use Rattle.call_cases.specs.OtherCalls.Others.{IsOfCall}
use Rattle.session_actions.specs.Actions.{after, following}
use Rattle.session_actions.specs.CallEnds.{next_deadline}
use Rattle.session_actions.specs.Events.{event_action, frame_action}
use Rattle.session_actions.specs.Laws.{posted_in}
use Rattle.session_actions.specs.Sessions.{IsNext}
use Rattle.session_actions.specs.Words.{numbered}
use Rattle.session_actions.specs.Writing.{accepted_bytes}
use Rattle.session_actions.specs.declared.action.Action.{Action}
use Rattle.session_actions.specs.declared.call.Call.{Call}
use Rattle.session_actions.specs.declared.entry.OpenEntry.{OpenEntry}
use Rattle.session_actions.specs.declared.entry.Stage.TheVariants as stage
use Rattle.session_actions.specs.declared.seen.Seen.{Seen}
use Rattle.session_order.proofs.Quiescence.{quiescence_is_exact}
use Rattle.session_order.specs.Quiescent as order
use Rattle.std.proofs.Common.{Bool, List, None, Option, Some, [], ap, false, if◌then◌else◌, length, nat_lt, option_map, refl, slice_get, suc, sym, true, zero, ℕ, ◌∙◌, ◌∷◌, ◌≡◌, ◌≤◌}
use Rattle.std.proofs.lemmas.Bool.{eqb-false}
use Rattle.std.specs.Option.{option_map_or}
use Rattle.call_actions.specs.TakeActions.Serves.{Serves}

-- either words for quiescent
pub to_order : (o : OpenEntry) (z : Seen) → IsQuiescent o z → order.IsQuiescent o z
to_order o z c = (quiescence_is_exact o z).0 (c.calls, c.links, c.policies)

pub of_order : (o : OpenEntry) (z : Seen) → order.IsQuiescent o z → IsQuiescent o z
of_order o z c = let back = (quiescence_is_exact o z).1 c in record { calls = back.0; links = back.1; policies = back.2 }

-- the call of a slot
pub record Posted (x : StateSeen) (z : Seen) (number : ℕ) : Type 0 where
  pub call : Call
  pub at : numbered z.calls number ≡ Some call
  pub number_is : call.number ≡ number
  pub slot : CallSlot
  pub there : slot_at x.book number ≡ Some slot
  pub sees : SeesCall x z call slot

posted_by : (x : StateSeen) (z : Seen) → Agrees x z → (n : ℕ) (o : Option Call) → numbered z.calls n ≡ o → lacks_call (slot_at x.book n) ≡ None → Posted x z n
posted_by x z h n None e has =
    let gone : slot_at x.book n ≡ None = none_numbered z.calls x.book.calls n h.calls.count e in
    let why : lacks_call (slot_at x.book n) ≡ lacks_call None = ap lacks_call gone in absurd (cc)
posted_by x z h n (Some c) e has =
    let k : HasSlot x z c n = h.calls.each n c e in
    record { call = c; at = e; number_is = counted_at (λ (d : Call). d.number) z.calls n c h.kept.calls e; slot = k.slot; there = k.there; sees = k.sees }

pub posted : (x : StateSeen) (z : Seen) → Agrees x z → (n : ℕ) → lacks_call (slot_at x.book n) ≡ None → Posted x z n
posted x z h n has = posted_by x z h n (numbered z.calls n) refl has

-- the table of calls, where one call changed
pub put_is : (step : CallState → CallState) (calls : List CallSlot) (n : ℕ) (slot : CallSlot) → slot_numbered calls n ≡ Some slot → IsPut n (step slot.call) slot calls (changed_call step calls n)
put_is step calls n slot there =
    let same : changed_call step calls n ≡ changed_at (called step) calls n = put_call step calls n in
    record {
      long = ap (λ (l : List CallSlot). length l) same ∙ changed_length (called step) calls n;
      mine = ap (λ (l : List CallSlot). slot_numbered l n) same ∙ number_changed (called step) calls n ∙ ap (option_map (called step)) there;
      others = λ k off. ap (λ (l : List CallSlot). slot_numbered l k) same ∙ number_other (called step) calls n k (eqb-false k n off);
    }

-- and where it did not
put_same : {X : Type 0} (g : X → X) (xs : List X) (i : ℕ) (x : X) → slice_get xs i ≡ Some x → g x ≡ x → changed g xs i ≡ xs
put_same g [] i x e same = refl
put_same g (z ∷ xs) zero x e same =
    let one : z ≡ x = (cc) in ap (λ (w : _). w ∷ xs) (ap g one ∙ same ∙ sym one)
put_same g (z ∷ xs) (suc i) x e same = ap (λ (l : List _). z ∷ l) (put_same g xs i x e same)

index_same : {X : Type 0} (g : X → X) (xs : List X) (i : ℕ) (b : Bool) → changed g xs i ≡ xs → option_map_or (λ (index : ℕ). changed g xs index) (if b then Some i else None) xs ≡ xs
index_same g xs i true same = same
index_same g xs i false same = refl

pub put_none : (step : CallState → CallState) (calls : List CallSlot) (n : ℕ) (slot : CallSlot) → slot_numbered calls n ≡ Some slot → step slot.call ≡ slot.call → changed_call step calls n ≡ calls
put_none step calls zero slot there same = absurd (cc)
put_none step calls (suc i) slot there same =
    put_call step calls (suc i)
    ∙ index_same (called step) calls i (nat_lt i (length calls)) (put_same (called step) calls i slot there (ap (λ (k : CallState). with_call k slot) same))

module _ (along : KeptAlong) (s0 : Seen) (o : OpenEntry) (r : Reply) (c : Call) (messages : Call → List (List ℕ)) (finished : Call → Bool) (taken : Call → ℕ)
    (end_taken : Call → Bool) (grows : (d : Call) → accepted_bytes d ≤ accepted_bytes (f s0 o r c messages finished taken end_taken d)) where
  abbrev g : Call → Call
  g d = f s0 o r c messages finished taken end_taken d

  abbrev u : Seen
  u = s s0 o r c messages finished taken end_taken

  abbrev v : Seen
  v = t s0 o r c messages finished taken end_taken

  abbrev q : OpenEntry
  q = p s0 o r c messages finished taken end_taken

  module _ (x : StateSeen) (h : Agrees x u) (slot : CallSlot) (own : numbered s0.calls c.number ≡ Some c) (sees : SeesCall x u c slot) (call : CallState) (now : List CallSlot)
      (put : IsPut c.number call slot x.book.calls now) (serves : Serves v (g c) (record (lent_to x u slot) { call = call }))
      (act : Action) (does : after act u ≡ v) (apart : IsOfCall c.number act u)
      (at : IsAt stage.Event o u) (fresh : o.turn ≡ None) (timely : next_deadline u ≡ None) (gives : event_action o.event u ≡ Some act)
      (next_is : following u ≡ Some act → IsNext act u) (posts : posted_in (act ∷ []) ≡ []) (quiescent : order.IsQuiescent q v) (none : frame_action q v ≡ None) where
    next : IsNext act u
    next = next_is (event_next o u at timely act gives)

    pub reported_answered : IsAnswered (record x { book = record x.book { calls = now } }) r o u
    reported_answered = record {
      reaches = record {
        actions = act ∷ [];
        seen = v;
        entry = q;
        does = (next, sym does);
        posts = posts;
        same = record { moment = refl; word = refl; event = refl; entries = refl; setup = refl };
        at = record { current = refl; stage_is = refl; quiescent = of_order q v quiescent };
        agrees = reported_agrees along s0 o r c messages finished taken end_taken grows x h slot own sees call now put serves act next does apart;
      };
      reply = refl;
      fresh = fresh;
      none = none;
    }
