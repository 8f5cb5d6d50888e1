-- A session, event by event: its channel was given those so far.
use Rattle.std.proofs.Common.{◌≡◌, ℕ, List, [], ◌∷◌, ◌++◌, ap, append-nil, append_assoc, refl, subst, sym, true, ◌∙◌}
use Rattle.std.specs.Global.{Global}
use Rattle.grpc_base.specs.declared.event.Stamped.{Stamped}
use Rattle.channel_core.specs.Core.{CoreSeen, IsNewBy}
use Rattle.journal_room.specs.Runs.{HasRunBy}
use Rattle.journal_room.proofs.RunLaws.{new_has_run}
use Rattle.lb_policy.specs.Table.{PolicySeen}
use Rattle.load_session.specs.Steps.{GoesOn}
use Rattle.load_session.proofs.Ran.{goes_on_join, goes_on_none, goes_on_step}
use Rattle.policy_rack.specs.Kinds.{are_ready}
use Rattle.session_text.specs.declared.ran.Ran.{Ran}
use Rattle.session_text.specs.declared.ran.Ran.TheVariants as ran
use Rattle.channel_top.specs.Runs.{FillsUp, HasRun, RunsTo, StepsTo}

-- the events so far, and those that are left
pub record IsRunning (old : CoreSeen) (all : List Stamped) (core : CoreSeen) (left : List Stamped) : Type 0 where
  pub prefix : List Stamped
  pub parts : all ≡ prefix ++ left
  pub goes_on : GoesOn old prefix core

pub IsRunning-new : (old : CoreSeen) (all left : List Stamped) → left ≡ all → IsRunning old all old left
IsRunning-new old all left same = record { prefix = []; parts = sym same; goes_on = goes_on_none old old refl }

pub IsRunning-step : (old : CoreSeen) (all : List Stamped) (core new : CoreSeen) (left rest : List Stamped) (s : Stamped) → IsRunning old all core left → left ≡ s ∷ rest → StepsTo ran.Whole core s new → IsRunning old all new rest
IsRunning-step old all core new left rest s running e (room, posted, reply, step) = record {
  prefix = running.prefix ++ s ∷ [];
  parts = running.parts ∙ ap (λ (xs : List Stamped). running.prefix ++ xs) e ∙ sym (append_assoc running.prefix (s ∷ []) rest);
  goes_on = goes_on_join old core new running.prefix (s ∷ []) running.goes_on (goes_on_step core new s reply step posted room);
}

pub IsRunning-full : (old : CoreSeen) (all : List Stamped) (core new : CoreSeen) (left rest : List Stamped) (s : Stamped) → IsRunning old all core left → left ≡ s ∷ rest → StepsTo ran.Full core s new → FillsUp old all new
IsRunning-full old all core new left rest s running e full =
    subst (λ (c : CoreSeen). FillsUp old all c) (sym full.1)
    (record {
      prefix = running.prefix;
      next = s;
      afterwards = rest;
      parts = running.parts ∙ ap (λ (xs : List Stamped). running.prefix ++ xs) e;
      goes_on = running.goes_on;
      full = full.0;
    })

-- what a new channel was given
pub has_run : (r : Ran) (alloc : Global) (authority text : List ℕ) (policies : List PolicySeen) (events : List Stamped) (new core : CoreSeen)
    → text ≡ authority → are_ready policies ≡ true → IsNewBy alloc text policies new → RunsTo r new events core → HasRun r authority policies events core
has_run r alloc authority text policies events new core same ready is_new runs =
    by r (new_has_run alloc authority policies new (subst (λ (a : List ℕ). IsNewBy alloc a policies new) same is_new) ready) runs
  where
    by : (q : Ran) → HasRunBy authority policies [] new → RunsTo q new events core → HasRun q authority policies events core
    by ran.Whole begun goes_on = goes_on authority policies [] begun
    by ran.Full begun fills = record {
      prefix = fills.prefix;
      next = fills.next;
      afterwards = fills.afterwards;
      parts = fills.parts;
      run = fills.goes_on authority policies [] begun;
      full = fills.full;
    }
