-- An attempt that waits is served: it asks, and its answer is followed.
use Rattle.std.proofs.Common.{◌≡◌, ◌∷◌, ap, refl, subst, sym, true, false, Some, ℕ}
use Rattle.std.specs.Prelude.{Option}
use Rattle.channel_actions.proofs.Settles.{is_with_open, with_open}
use Rattle.channel_actions.specs.Agrees.{Agrees}
use Rattle.channel_actions.specs.Quiescent.{IsAt}
use Rattle.channel_actions.specs.KeptCalls.Laws.{EarlyAlong}
use Rattle.channel_actions.proofs.Calls.Going.Arms.{CallLaws}
use Rattle.channel_actions.proofs.HeldTexts.Carried.{Trims, rests_trim}
use Rattle.channel_actions.proofs.SoundBuffers.Carried.{Stay, stay_rests}
use Rattle.channel_actions.proofs.Calls.Sound.Carried.{Settles, rests}
use Rattle.attempt_cases.proofs.SettlingKeeps.Keeping.{stays_by}
use Rattle.attempt_cases.specs.PassActions.Serves.{IsPassing, IsServed, turn_of}
use Rattle.attempt_cases.specs.ServeSteps.Follows.{AsksStand, FailsFollow, IsAsked, IsFollowed, NetsMayAsk, PlacesFollow, ServesByAnswers, passed_by, request_made}
use Rattle.attempt_cases.specs.ServeSteps.Laws.{AskNext, AsksAgree, AsksFollow, HasAsked, answer_for, asked_for}
use Rattle.call_cases.specs.SettlingActions.Sound.{IsSound}
use Rattle.call_cases.specs.SettlingActions.Steps.{Leads}
use Rattle.channel_core.proofs.RestingSteps.{serve}
use Rattle.channel_core.specs.Settling.{asked, picked, served, served_by}
use Rattle.channel_core.specs.States.{StateSeen}
use Rattle.channel_core.specs.Steps.{Moved, next_served}
use Rattle.channel_net.specs.declared.replies.Asked.{Asked}
use Rattle.grpc_base.specs.declared.event.Conn.{Conn}
use Rattle.grpc_base.specs.declared.event.Conn.TheVariants as conn
use Rattle.lb_policy.specs.Laws.{FitsState, PicksFollowState}
use Rattle.session_actions.specs.Policies.{is_served_by, policy_of, policy_state, view_of}
use Rattle.session_actions.specs.declared.action.Action.{Action}
use Rattle.session_actions.specs.declared.action.Action.TheVariants as action
use Rattle.session_actions.specs.declared.entry.OpenEntry.{OpenEntry}
use Rattle.session_actions.specs.declared.entry.Stage.TheVariants as stage
use Rattle.session_actions.specs.declared.policy.PolicyUse.{PolicyUse}
use Rattle.session_actions.specs.declared.seen.Seen.{Seen}

module _ (table : PicksFollowState) (follow : AsksFollow) (agree : AsksAgree) (stand : AsksStand) (laws : CallLaws) (along : EarlyAlong) (may : NetsMayAsk)
    (places : PlacesFollow) (fails : FailsFollow) (last p : ℕ × ℕ) (x : StateSeen) (o : OpenEntry) (s0 : Seen) where
  abbrev s : Seen
  s = with_open o s0

  module _ (h : Agrees x s) (sound : IsSound x s) (at : IsAt stage.Settling o s) (passing : IsPassing last o s) (e : next_served last x ≡ Some p) where
    k : AskNext p s
    k = follow last p x o s h at passing e

    abbrev g : PolicyUse
    g = k.policy

    abbrev t : Seen
    t = request_made p g s

    abbrev m : Moved
    m = picked p.0 p.1 g.number (answer_for g s) (asked_for p.1 g s x)

    has_asked : HasAsked p g x s
    has_asked = agree p x o s h at.current (may last p x o s h sound at passing e) k

    after : IsAsked p (passed_by p o) t
    after = stand last p o s at passing k

    -- a policy that serves is READY or in TRANSIENT_FAILURE
    by_state : (c : Conn) → policy_state g s ≡ c → is_served_by c k.attempt s ≡ true → IsFollowed p m (passed_by p o) t
    by_state conn.Ready is on =
        let fits : FitsState (view_of g.addresses s) conn.Ready (answer_for g s)
        = subst (λ (c : Conn). FitsState (view_of g.addresses s) c (answer_for g s)) is (table (policy_of g s)) in
        places p x o s h sound at k (fits.0.sub, fits.3) has_asked.agrees after
    by_state conn.Failure is on =
        let fits : FitsState (view_of g.addresses s) conn.Failure (answer_for g s)
        = subst (λ (c : Conn). FitsState (view_of g.addresses s) c (answer_for g s)) is (table (policy_of g s)) in
        fails p x o s h sound at k fits has_asked.agrees after
    by_state conn.Idle is on = absurd (let bad : false ≡ true = on in (cc))
    by_state conn.Connecting is on = absurd (let bad : false ≡ true = on in (cc))
    by_state conn.Shutdown is on = absurd (let bad : false ≡ true = on in (cc))

    followed : IsFollowed p m (passed_by p o) t
    followed = by_state (policy_state g s) refl k.served

    channel_is : served p.0 p.1 x ≡ m
    channel_is = ap (λ (q : Option Asked). served_by p.0 p.1 q (asked x)) has_asked.answer

    abbrev does_it : Action
    does_it = action.PickRequested p.1 g.number (answer_for g s)

    leads : Leads m.state o s (IsPassing p)
    leads =
        let r = followed.leads.reaches in
        record {
          reaches = record {
            actions = does_it ∷ r.actions;
            seen = r.seen;
            entry = r.entry;
            does = (k.next, r.does);
            posts = r.posts;
            same = record { moment = r.same.moment; word = r.same.word; event = r.same.event; entries = r.same.entries; setup = r.same.setup };
            at = r.at;
            agrees = r.agrees;
          };
          reply = followed.leads.reply;
          point = followed.leads.point;
        }

    abbrev Serves : Moved → Type 0
    Serves n = (l : Leads n.state o s (IsPassing p)) × (l.reaches.entry.turn ≡ Some (turn_of p)) × (n.moved ≡ true)

    got : Serves (served p.0 p.1 x)
    unfolding leads
    got = subst Serves (sym channel_is) (leads, followed.turn, followed.moved)

    pub is_served : IsServed p x o s
    is_served = record {
      leads = got.0;
      turn = got.1;
      sound =
          stays_by (λ z. (served p.0 p.1 z).state) (λ z. serve Settles (rests laws) p.0 p.1 z) (λ z. serve Stay (stay_rests laws) p.0 p.1 z)
          (λ z. serve Trims rests_trim p.0 p.1 z) along x s got.0.reaches.seen got.0.reaches.actions h sound got.0.reaches.does got.0.reaches.agrees;
      moved = got.2;
    }

pub serves_by_answers : PicksFollowState → AsksFollow → AsksAgree → AsksStand → CallLaws → EarlyAlong → ServesByAnswers
serves_by_answers table follow agree stand laws along may places fails last p x o s h sound at passing e =
    let P : Seen → Type 0 = λ u. Agrees x u → IsSound x u → IsAt stage.Settling o u → IsPassing last o u → IsServed p x o u in
    let whole : P (with_open o s) = λ a b c d. is_served table follow agree stand laws along may places fails last p x o s a b c d e in
    subst P (sym (is_with_open o s at.current)) whole h sound at passing
