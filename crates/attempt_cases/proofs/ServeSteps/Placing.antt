-- An attempt is placed: the pass goes on after it, where channel and session agree, and nothing follows.
use Rattle.std.proofs.Common.{◌≡◌, ◌&&◌, ◌++◌, ◌==◌, ◌∙◌, ◌∷◌, ap, arith, refl, sym, subst, inr, Bool, true, false, [], None, Option, Some, ℕ, is_some}
use Rattle.std.proofs.lemmas.Bool.{eqb-false}
use Rattle.std.proofs.lemmas.Bool.Decides.{nat_tests}
use Rattle.std.specs.Option.{option_map_or}
use Rattle.attempt_ledger.specs.declared.row.Placed.{Placed}
use Rattle.call_actions.proofs.Lists.{changed_away, changed_here}
use Rattle.channel_actions.proofs.Calls.Few.Reached.{reached_on}
use Rattle.channel_actions.proofs.Gone.{all_numbered}
use Rattle.channel_actions.specs.FewCalls.Reached.{IsReached}
use Rattle.channel_actions.proofs.Links.Settings.Firsts.{none_numbered}
use Rattle.channel_actions.proofs.Settles.{is_with_open, with_open}
use Rattle.channel_actions.specs.Agrees.{Agrees}
use Rattle.channel_actions.specs.Quiescent.{IsAt}
use Rattle.attempt_cases.proofs.MakingSteps.Step.{none_at}
use Rattle.attempt_cases.proofs.ServeSteps.Answering.{last_more}
use Rattle.attempt_cases.specs.PassActions.Serves.{IsPassing}
use Rattle.attempt_cases.specs.ServeSteps.Follows.{AnswersAreNext, GoesOut, IsAsked, IsFollowed, IsPlace, PlaceNext, PlacedOnesAgree, PlacesByAgreement, passed_by, request_made}
use Rattle.attempt_cases.specs.ServeSteps.Laws.{AskNext, answer_for, asked_for}
use Rattle.channel_actions.specs.HeldTexts.Fits.{TextsFit}
use Rattle.channel_actions.specs.SoundBuffers.Held.{BuffersAreSound}
use Rattle.call_cases.specs.SettlingActions.Sound.{IsSound}
use Rattle.channel_core.specs.Settling.{picked, place_at, placed}
use Rattle.channel_core.specs.States.{StateSeen}
use Rattle.channel_core.specs.Steps.{Moved}
use Rattle.grpc_base.specs.declared.kind.Pick.{Pick}
use Rattle.grpc_base.specs.declared.kind.Pick.TheVariants as pick
use Rattle.session_actions.specs.Actions.{after as after_action, config_action}
use Rattle.session_actions.specs.Attempts.{call_of}
use Rattle.session_actions.specs.Entries.{entry, now}
use Rattle.session_actions.specs.Policies.{attempt_placed, is_unfollowed, with_placing}
use Rattle.session_actions.specs.Sessions.{Does}
use Rattle.session_actions.specs.Words.{changed, holds, numbered}
use Rattle.session_actions.specs.declared.action.Action.{Action}
use Rattle.session_actions.specs.declared.action.Action.TheVariants as action
use Rattle.session_actions.specs.declared.attempt.Attempt.{Attempt}
use Rattle.session_actions.specs.declared.call.Call.{Call}
use Rattle.session_actions.specs.declared.call.MarkKind.TheVariants as mark
use Rattle.session_actions.specs.declared.entry.OpenEntry.{OpenEntry}
use Rattle.session_actions.specs.declared.entry.Stage.TheVariants as stage
use Rattle.session_actions.specs.declared.policy.PolicyUse.{PolicyUse}
use Rattle.session_actions.specs.declared.seen.Seen.{Seen}
use Rattle.session_order.specs.Quiescent.{IsStill, can_follow, is_to_follow_pick, is_unplaced}
use Rattle.session_order.specs.Laws.{AttemptsStir, QuiescenceIsExact}
use Rattle.session_order.specs.Lines.{is_line}
use Rattle.session_order.specs.declared.line.Line.{Line}
use Rattle.session_order.specs.declared.line.Line.TheVariants as line

equal_numbers : (n m : ℕ) → (n == m) ≡ true → n ≡ m
equal_numbers n m e = grind (arith, nat_tests)

call_there : (s : Seen) (n : ℕ) (q : Option Call) → numbered s.calls n ≡ q → is_some q ≡ true → (c : Call) × (numbered s.calls n ≡ Some c)
call_there s n None is e = absurd (let bad : false ≡ true = e in (cc))
call_there s n (Some c) is e = (c, is)

module _ (exact : QuiescenceIsExact) (stir : AttemptsStir) (next : AnswersAreNext) (goes : PlacedOnesAgree) (p : ℕ × ℕ) (sub : ℕ) (x : StateSeen) (o : OpenEntry) (s0 : Seen) where
  abbrev s : Seen
  s = with_open o s0

  abbrev q : OpenEntry
  q = passed_by p o

  module _ (sound : IsSound x s) (k : AskNext p s) (is : answer_for k.policy s ≡ pick.Place sub) (h : Agrees (asked_for p.1 k.policy s x) (request_made p k.policy s))
      (after : IsAsked p (passed_by p o) (request_made p k.policy s)) where
    abbrev g : PolicyUse
    g = k.policy

    abbrev t : Seen
    t = request_made p g s

    abbrev y : StateSeen
    y = asked_for p.1 g s x

    sound_buffers : BuffersAreSound y
    sound_buffers = sound.buffers

    sound_texts : TextsFit y t
    sound_texts = sound.texts

    reached : IsReached t
    reached = reached_on s t (action.PickRequested p.1 g.number (answer_for g s) ∷ []) sound.reached (k.next, refl)

    pub place : PlaceNext p g sub y t
    place = next.places p sub x o s k is h after

    abbrev at : Placed
    at = place_at g.number sub place.link y

    abbrev does_it : Action
    does_it = action.AttemptPlaced p.1 at

    abbrev z : StateSeen
    z = (placed p.0 p.1 g.number sub y).state

    abbrev u : Seen
    u = attempt_placed p.1 at t

    out : GoesOut p at z q t
    out = goes p g sub k.attempt y q t h reached sound_buffers sound_texts after k.there k.call k.queued place

    -- the session after it
    owned : (c : Call) × (numbered t.calls k.attempt.row.call ≡ Some c)
    owned =
        call_there t k.attempt.row.call (numbered t.calls k.attempt.row.call) refl
        (all_numbered (λ (a : Attempt). is_some (call_of a t)) t.attempts p.1 k.attempt k.there h.kept.owned)

    abbrev noted : Call → Call
    noted c = record c { marks = c.marks ++ record { what = mark.Placed p.1; moment = now t } ∷ [] }

    abbrev v : Seen
    v = record t { attempts = changed (with_placing at) p.1 t.attempts; calls = changed noted k.attempt.row.call t.calls }

    placed_here : numbered v.attempts p.1 ≡ Some (with_placing at k.attempt)
    placed_here = changed_here (with_placing at) p.1 t.attempts k.attempt k.there

    u_is : u ≡ v
    u_is =
        ap (λ (a : Option Attempt). option_map_or (λ (b : Attempt). record t { attempts = changed (with_placing at) p.1 t.attempts; calls = changed noted b.row.call t.calls })
        a (record t { attempts = changed (with_placing at) p.1 t.attempts })) placed_here

    current : u.current ≡ Some q
    current = ap (λ (w : Seen). w.current) u_is ∙ after.current

    -- nothing follows
    leaves : (l : Line) → is_line l line.Final ≡ false → is_line l line.Pick ≡ false → IsStill l q v
    leaves l unfinal unpicked =
        subst (λ (w : Seen). IsStill l q w) u_is (stir.placed p.1 at q t after.current out.fits l q current unfinal refl (after.quiescent l unpicked))

    unplaced : is_unplaced v p.1 ≡ false
    unplaced = ap (holds is_unfollowed) placed_here

    picked_still : IsStill line.Pick q v
    picked_still =
        ap (holds (is_to_follow_pick v)) (last_more s.asks (record { entry = entry s; generation = g.number; row = p.1; answer = answer_for g s }))
        ∙ ap (λ (b : Bool). b && (entry s == entry v) && can_follow v (answer_for g s)) unplaced

    final_still : IsStill line.Final q v
    final_still = subst (λ (w : Seen). IsStill line.Final q w) u_is out.final

    still : (l : Line) → IsStill l q v
    still line.Pick = picked_still
    still line.Final = final_still
    still line.Cut = leaves line.Cut refl refl
    still line.Transparent = leaves line.Transparent refl refl
    still line.Inherited = leaves line.Inherited refl refl
    still line.Row = leaves line.Row refl refl
    still line.Cancelled = leaves line.Cancelled refl refl
    still line.Request = leaves line.Request refl refl
    still line.Overflow = leaves line.Overflow refl refl
    still line.Head = leaves line.Head refl refl
    still line.Response = leaves line.Response refl refl
    still line.Link = leaves line.Link refl refl
    still line.WireEnd = leaves line.WireEnd refl refl
    still line.Reset = leaves line.Reset refl refl
    still line.Shut = leaves line.Shut refl refl
    still line.Retire = leaves line.Retire refl refl
    still line.Begin = leaves line.Begin refl refl
    still line.Give = leaves line.Give refl refl
    still line.Drop = leaves line.Drop refl refl
    still line.Add = leaves line.Add refl refl

    at_now : IsAt stage.Settling q v
    at_now = record {
      current = after.current;
      stage_is = after.stage_is;
      quiescent = (let back = (exact q v).1 still in record { calls = back.0; links = back.1; policies = back.2 });
    }

    agrees : Agrees z v
    agrees = subst (Agrees z) u_is out.agrees

    -- no config is due
    own_now : numbered v.calls k.attempt.row.call ≡ Some (noted owned.0)
    own_now = changed_here noted k.attempt.row.call t.calls owned.0 owned.1

    config_by : (m : ℕ) (d : Call) (b : Bool) → (m == k.attempt.row.call) ≡ b → numbered v.calls m ≡ Some d → config_action v d ≡ None
    config_by m d true e there_now =
        let both : Some (noted owned.0) ≡ Some d = sym own_now ∙ ap (numbered v.calls) (sym (equal_numbers m k.attempt.row.call e)) ∙ there_now in
        let one : noted owned.0 ≡ d = (cc) in
        ap (config_action v) (sym one) ∙ none_at (config_action t) t.calls k.attempt.row.call owned.0 after.configs owned.1
    config_by m d false e there_now =
        none_at (config_action t) t.calls m d after.configs (sym (changed_away noted k.attempt.row.call m t.calls (eqb-false m k.attempt.row.call e)) ∙ there_now)

    point : IsPassing p q v
    point = record {
      clock = after.clock;
      take_over = after.take_over;
      connected = after.connected;
      configs = none_numbered (config_action v) v.calls (λ m d there_now. config_by m d (m == k.attempt.row.call) refl there_now);
      begun = inr refl;
    }

    made_is : after_action does_it t ≡ v
    made_is = u_is

    does : Does (does_it ∷ []) t v
    does = (place.next, sym made_is)

    followed : IsFollowed p (placed p.0 p.1 g.number sub y) q t
    followed = record {
      leads = record {
        reaches = record {
          actions = does_it ∷ [];
          seen = v;
          entry = q;
          does = does;
          posts = refl;
          same = record { moment = refl; word = refl; event = refl; entries = refl; setup = refl };
          at = at_now;
          agrees = agrees;
        };
        reply = refl;
        point = point;
      };
      turn = refl;
      moved = ap (λ (m : Moved). m.moved) place.channel;
    }

    pub follows : IsFollowed p (picked p.0 p.1 g.number (answer_for g s) y) q t
    follows = subst (λ (a : Pick). IsFollowed p (picked p.0 p.1 g.number a y) q t) (sym is) followed

pub places_by_agreement : QuiescenceIsExact → AttemptsStir → AnswersAreNext → PlacesByAgreement
places_by_agreement exact stir next goes p x o s h sound at k is agrees after =
    let P : Seen → Type 0 = λ w. IsSound x w → (k : AskNext p w) → IsPlace (answer_for k.policy w) → Agrees (asked_for p.1 k.policy w x) (request_made p k.policy w)
    → IsAsked p (passed_by p o) (request_made p k.policy w)
    → IsFollowed p (picked p.0 p.1 k.policy.number (answer_for k.policy w) (asked_for p.1 k.policy w x)) (passed_by p o) (request_made p k.policy w) in
    let whole : P (with_open o s) = λ a b c d e. follows exact stir next goes p c.0 x o s a b c.1 d e in
    subst P (sym (is_with_open o s at.current)) whole sound k is agrees after
