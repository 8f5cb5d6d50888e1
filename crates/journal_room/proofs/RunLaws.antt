-- A channel that was new and was given events, and one more.
use Rattle.std.proofs.Common.{◌≡◌, ℕ, List, [], ◌∷◌, ◌++◌, true, refl, sym, subst, ◌∙◌}
use Rattle.std.specs.Global.{Global}
use Rattle.std.specs.List.{AllByRecursion}
use Rattle.grpc_base.specs.declared.event.Entry.{Entry}
use Rattle.grpc_base.specs.declared.event.Reply.{Reply}
use Rattle.grpc_base.specs.declared.event.Stamped.{Stamped}
use Rattle.lb_policy.specs.Table.{PolicySeen}
use Rattle.policy_rack.specs.Kinds.{are_ready}
use Rattle.channel_core.specs.Applying.{conn_of}
use Rattle.channel_core.specs.Core.{CoreSeen, IsNewBy, Runs, Steps, moment_of}
use Rattle.journal_room.specs.Posted.{EventsArePosted, IsPosted}
use Rattle.journal_room.specs.Rooms.{HadRoom, HasRoom}
use Rattle.journal_room.specs.Runs.{HasRunBy, looks_of}
use Rattle.journal_room.proofs.RoomLaws.{room_more}

-- a new channel was given no event
pub new_has_run : (alloc : Global) (authority : List ℕ) (policies : List PolicySeen) (core : CoreSeen) → IsNewBy alloc authority policies core → are_ready policies ≡ true
    → HasRunBy authority policies [] core
new_has_run alloc authority policies core new ready =
    record { alloc = alloc; own = policies; new = core; alike = refl; ready = ready; is_new = new; runs = refl; posted = tt; room = subst HadRoom (sym new.journal) tt }

pub runs_more : (new : CoreSeen) (events : List Stamped) (core next : CoreSeen) (s : Stamped) (r : Reply) → Runs new events core → Steps core next s r → Runs new (events ++ s ∷ []) next
runs_more new [] core next s r runs step = (next, r, subst (λ (c : CoreSeen). Steps c next s r) runs step, refl)
runs_more new (e ∷ events) core next s r runs step = (runs.0, runs.1, runs.2, runs_more runs.0 events core next s r runs.3 step)

pub posted_more : (events : List Stamped) (s : Stamped) → EventsArePosted events → IsPosted s.event → EventsArePosted (events ++ s ∷ [])
posted_more [] s are is = (is, tt)
posted_more (e ∷ events) s are is = (are.0, posted_more events s are.1 is)

-- one event more, for which there was room
pub step_has_run : (authority : List ℕ) (policies : List PolicySeen) (events : List Stamped) (core next : CoreSeen) (s : Stamped) (reply : Reply)
    → HasRunBy authority policies events core → Steps core next s reply → IsPosted s.event → HasRoom core.journal.entries s.event
    → HasRunBy authority policies (events ++ s ∷ []) next
step_has_run authority policies events core next s reply run step is room = record {
  alloc = run.alloc;
  own = run.own;
  new = run.new;
  alike = run.alike;
  ready = run.ready;
  is_new = run.is_new;
  runs = runs_more run.new events core next s reply run.runs step;
  posted = posted_more events s run.posted is;
  room = subst HadRoom (sym step.journal) (room_more core.journal.entries made run.room room);
}
  where
    made : Entry
    made = record { moment = moment_of core.journal.entries s; word = s.word; event = s.event; reply = reply; state = conn_of next.state }

-- only the looks of the policies matter
pub alike_has_run : (authority : List ℕ) (policies others : List PolicySeen) (events : List Stamped) (core : CoreSeen) → looks_of policies ≡ looks_of others
    → HasRunBy authority policies events core → HasRunBy authority others events core
alike_has_run authority policies others events core alike run =
    record { alloc = run.alloc; own = run.own; new = run.new; alike = run.alike ∙ alike; ready = run.ready; is_new = run.is_new; runs = run.runs; posted = run.posted; room = run.room }
