-- The call of an attempt that is placed: the channel's call is what the session's is, and what came for its application is as before.
use Rattle.std.proofs.Common.{◌≡◌, ◌∷◌, ◌∙◌, ap, refl, subst, sym, [], Option, None, Some, ℕ, option_map}
use Rattle.std.specs.Option.{option_map_or}
use Rattle.a6_numbers.specs.Throttling.{Bucket}
use Rattle.attempt_ledger.specs.declared.ledger.CallEnd.{CallEnd}
use Rattle.call_actions.specs.CallsApart.Apart.{IsBook}
use Rattle.call_actions.specs.CallsInTurn.Turns.{IsSteady, StaysSteady}
use Rattle.call_actions.specs.Order.{IsInOrder, IsInTurn, Keeps}
use Rattle.call_actions.specs.Sees.{Sees}
use Rattle.call_actions.specs.TakeActions.Serves.{came}
use Rattle.call_core.specs.Steps as steps
use Rattle.call_core.specs.Steps.{Stepped}
use Rattle.channel_actions.specs.Calls.{ledger_lent, lent_to}
use Rattle.channel_actions.specs.KeptSessions.Kept.{IsKept}
use Rattle.attempt_cases.proofs.MakingSteps.MadeKinds.{any_less}
use Rattle.attempt_cases.proofs.ServeSteps.Lasts.{same_some}
use Rattle.attempt_cases.proofs.ServeSteps.OutBase as base
use Rattle.attempt_cases.proofs.ServeSteps.OutBase.{OutLaws, OutNext}
use Rattle.channel_core.specs.States.{StateSeen}
use Rattle.channel_core.specs.Tables.{tokens_in}
use Rattle.session_actions.specs.Attempts.{commitment, is_of, wants_follower}
use Rattle.session_actions.specs.Deliveries.{response_items}
use Rattle.session_actions.specs.Policies.{attempt_placed}
use Rattle.session_actions.specs.Responses.{response, response_by}
use Rattle.session_actions.specs.Sessions.{Does}
use Rattle.session_actions.specs.Words.{numbered}
use Rattle.session_actions.specs.declared.attempt.Attempt.{Attempt}
use Rattle.session_actions.specs.declared.call.Call.{Call}
use Rattle.session_actions.specs.declared.seen.Seen.{Seen}

module _ (x : StateSeen) (s : Seen) (is : OutNext x s) where
  abbrev c : Call
  c = is.call

  abbrev a : Attempt
  a = is.attempt

  abbrev t : Seen
  t = base.t x s is

  abbrev c1 : Call
  c1 = base.c1 x s is

  -- no response came of it
  no_response : (u : Seen) → response (base.g x s is a) u ≡ response a s
  no_response u = ap (λ (o : Option ℕ). response_by (base.g x s is a) u o) is.streamless ∙ sym (ap (λ (o : Option ℕ). response_by a s o) is.streamless)

  came_by : (q : Option Attempt) → commitment c s ≡ q → came c1 t ≡ came c s
  came_by None e =
      ap (λ (o : Option Attempt). option_map_or (λ (k : Attempt). response_items (response k t)) o []) (base.commitment_now x s is c ∙ ap (option_map (base.g x s is)) e)
      ∙ sym (ap (λ (o : Option Attempt). option_map_or (λ (k : Attempt). response_items (response k s)) o []) e)
  came_by (Some k) e =
      ap (λ (o : Option Attempt). option_map_or (λ (k : Attempt). response_items (response k t)) o [])
      (base.commitment_now x s is c ∙ ap (option_map (base.g x s is)) (e ∙ ap (λ (z : Attempt). Some z) (base.is_this x s is k e)))
      ∙ ap response_items (no_response t)
      ∙ sym (ap (λ (o : Option Attempt). option_map_or (λ (k : Attempt). response_items (response k s)) o []) (e ∙ ap (λ (z : Attempt). Some z) (base.is_this x s is k e)))

  pub came_same : came (base.c1 x s is) (base.t x s is) ≡ came is.call s
  came_same = came_by (commitment c s) refl

  pub open_now : is.slot.call.ended ≡ None
  open_now = sym is.sees.serves.sees.ended ∙ ap (option_map (λ (e : CallEnd). e.cause)) (base.is_open x s is)

  -- what the channel makes of it
  module _ (laws : OutLaws) where
    abbrev lent_tokens : Option Bucket
    lent_tokens = tokens_in x.book.buckets is.slot.bucket

    abbrev step : Stepped
    step = base.stepped x s is (ledger_lent x s) lent_tokens

    keeps : Keeps t c.number step
    keeps =
        subst (λ (u : Seen). Keeps u c.number step) (base.placed_is x s is)
        (subst (Keeps (attempt_placed is.row is.at s) c.number) (base.step_is x s is (ledger_lent x s) lent_tokens)
        (laws.places s c (lent_to x s is.slot) is.row a is.at is.sees.serves.sees is.sees.order is.here is.own is.queued is.moment))

    same_call : keeps.call ≡ c1
    same_call = same_some keeps.call c1 (numbered t.calls c.number) (ap (numbered t.calls) (sym keeps.number_is) ∙ keeps.sees.own) (base.own_now x s is)

    made_sees : Sees t c1 step
    made_sees = subst (λ (k : Call). Sees t k step) same_call keeps.sees

    pub own_order : IsInOrder (base.t x s is) (base.c1 x s is)
    own_order = subst (IsInOrder t) same_call keeps.order

    pub own_sees : Sees (base.t x s is) (base.c1 x s is) (lent_to (base.y x s is) (base.t x s is) (base.slot2 x s is))
    own_sees = record {
      own = made_sees.own;
      number_is = made_sees.number_is;
      request = made_sees.request;
      begun = made_sees.begun;
      chosen = made_sees.chosen;
      finished = made_sees.finished;
      longest_is = made_sees.longest_is;
      ended = made_sees.ended;
      attempts = made_sees.attempts;
      live = made_sees.live;
      tokens = made_sees.tokens;
      entry_is = made_sees.entry_is;
      rows = made_sees.rows;
      call_is = made_sees.call_is;
    }

    -- the action alone
    pub does : Does (base.does_it x s is ∷ []) s (base.t x s is)
    does = (is.next, sym (base.after_is x s is))

    pub kept : IsKept (base.t x s is)
    kept = laws.frames.kept (base.does_it x s is ∷ []) s t is.agrees.kept does

    steady : IsSteady s c
    steady = record { turn = is.sees.turn; quiescent = any_less (is_of c) (λ (q : Attempt). wants_follower q s) s.attempts is.quiescent }

    turned : StaysSteady t c.number
    turned =
        subst (λ (u : Seen). StaysSteady u c.number) (base.placed_is x s is)
        (laws.turns s c is.row a is.at (subst IsBook (sym (base.placed_is x s is)) kept.book) (record { own = is.there; there = is.here; mine = is.own }) steady)

    pub own_turn : IsInTurn (base.t x s is) (base.c1 x s is)
    own_turn =
        let same : turned.call ≡ c1 = same_some turned.call c1 (numbered t.calls c.number) turned.own (base.own_now x s is) in subst (IsInTurn t) same turned.steady.turn
