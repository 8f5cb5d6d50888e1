-- A net over whole runs.
use Rattle.std.proofs.Common.{◌≡◌, ◌+◌, Bool, true, false, is_some, if◌then◌else◌, IsSomeAnd, List, [], ◌∷◌, ◌++◌, refl, ap, sym, subst, ◌∙◌}
use Rattle.lb_policy.specs.Table.{PolicySeen}
use Rattle.subchannel.specs.Records.{SubRecord}
use Rattle.subchannel.specs.Boards.{numbered}
use Rattle.subchannel.specs.Runs.{IsLater}
use Rattle.subchannel.proofs.RunLaws.{numbers-stay}
use Rattle.policy_rack.specs.Runs as rack
use Rattle.policy_rack.specs.Runs.{RackCall, IsKept, KindsOfLiveDiffer}
use Rattle.policy_rack.specs.Steps.{RackSeen, asked}
use Rattle.channel_net.specs.Askers.{may_ask}
use Rattle.channel_net.specs.Steps.{NetSeen, new_net, dial_refusal, net_up, net_dial_failed}
use Rattle.channel_net.specs.Runs.{NetCall, Resolved, Dial, Up, DialFailed, Ready, Down, Clock, Settle, Ask, Shut, after_call, after_calls, net_of}
use Rattle.channel_net.specs.Laws as laws
use Rattle.channel_net.proofs.MoveLaws.{Orderly, Moves, Builds, orderly-new, builds-then, moves-not, moves-resolved, moves-dialed, moves-up, moves-failed, moves-ready, moves-down, moves-clocked, moves-settled, moves-shut}

moves-unless : (b : Bool) (n t : NetSeen) → Moves n n → Moves n t → Moves n (if b then n else t)
moves-unless true n t x y = x
moves-unless false n t x y = y

-- each call but a pick request
abbrev pub IsQuiet : NetCall → Type 0
IsQuiet Ask = ⊥
IsQuiet _ = Unit {0}

pub quiet-moves : (call : NetCall) (n : NetSeen) → IsQuiet call → Orderly n → Moves n (after_call call n)
quiet-moves (Resolved kind addresses) n q o = moves-resolved kind addresses n o
quiet-moves (Dial moment word) n q o = moves-dialed moment word n o
quiet-moves (Up sub link) n q o =
    moves-unless (is_some (dial_refusal (numbered n.board sub))) n (net_up sub link n) (moves-not n o) (moves-up sub link n o)
quiet-moves (DialFailed sub) n q o =
    moves-unless (is_some (dial_refusal (numbered n.board sub))) n (net_dial_failed sub n) (moves-not n o) (moves-failed sub n o)
quiet-moves (Ready sub link) n q o = moves-ready sub link n o
quiet-moves (Down sub link) n q o = moves-down sub link n o
quiet-moves (Clock moment) n q o = moves-clocked moment n o
quiet-moves Settle n q o = moves-settled n o
quiet-moves Ask n q o = absurd q
quiet-moves Shut n q o = moves-shut n o

-- the rack and the board over a run
pub record Follows (n t : NetSeen) : Type 0 where
  pub rack : (cs : List RackCall) × (t.asker.rack ≡ rack.after_calls cs n.asker.rack)
  pub board : Builds n.board t.board
  pub orderly : Orderly t

of-moves : (n t : NetSeen) → Moves n t → Follows n t
of-moves n t m = record { rack = (m.rack.calls, m.rack.are); board = m.board; orderly = m.orderly }

asked-by : (b : Bool) (n : NetSeen) → Orderly n → Follows n (record n { asker = (if b then record { rack = asked n.asker.rack; asks = n.asker.asks + 1 } else n.asker) })
asked-by true n o = record { rack = (rack.Ask ∷ [], refl); board = record { calls = []; are = refl }; orderly = record { current = o.current; pending = o.pending; listed = o.listed } }
asked-by false n o = record { rack = ([], refl); board = record { calls = []; are = refl }; orderly = o }

pub call-follows : (call : NetCall) (n : NetSeen) → Orderly n → Follows n (after_call call n)
call-follows (Resolved kind addresses) n o = of-moves n _ (quiet-moves (Resolved kind addresses) n tt o)
call-follows (Dial moment word) n o = of-moves n _ (quiet-moves (Dial moment word) n tt o)
call-follows (Up sub link) n o = of-moves n _ (quiet-moves (Up sub link) n tt o)
call-follows (DialFailed sub) n o = of-moves n _ (quiet-moves (DialFailed sub) n tt o)
call-follows (Ready sub link) n o = of-moves n _ (quiet-moves (Ready sub link) n tt o)
call-follows (Down sub link) n o = of-moves n _ (quiet-moves (Down sub link) n tt o)
call-follows (Clock moment) n o = of-moves n _ (quiet-moves (Clock moment) n tt o)
call-follows Settle n o = of-moves n _ (quiet-moves Settle n tt o)
call-follows Ask n o = asked-by (may_ask n.asker) n o
call-follows Shut n o = of-moves n _ (quiet-moves Shut n tt o)

rack-append : (xs ys : List RackCall) (r : RackSeen) → rack.after_calls (xs ++ ys) r ≡ rack.after_calls ys (rack.after_calls xs r)
rack-append [] ys r = refl
rack-append (x ∷ xs) ys r = rack-append xs ys (rack.after_call x r)

follows-then : (n s t : NetSeen) → Follows n s → Follows s t → Follows n t
follows-then n s t a b = record {
  rack = (a.rack.0 ++ b.rack.0, b.rack.1 ∙ ap (rack.after_calls b.rack.0) a.rack.1 ∙ sym (rack-append a.rack.0 b.rack.0 n.asker.rack));
  board = builds-then n.board s.board t.board a.board b.board;
  orderly = b.orderly;
}

pub run-follows : (calls : List NetCall) (n : NetSeen) → Orderly n → Follows n (after_calls calls n)
run-follows [] n o = record { rack = ([], refl); board = record { calls = []; are = refl }; orderly = o }
run-follows (call ∷ calls) n o =
    let first : Follows n (after_call call n) = call-follows call n o in
    follows-then n (after_call call n) (after_calls calls (after_call call n)) first (run-follows calls (after_call call n) first.orderly)

pub of-new : (calls : List NetCall) (policies : List PolicySeen) → Follows (new_net policies) (net_of calls policies)
of-new calls policies = run-follows calls (new_net policies) (orderly-new policies)

pub live-where-listed : laws.LiveWhereListed
live-where-listed calls policies a = (of-new calls policies).orderly.listed a

pub numbers-stay-of : laws.NumbersStay
numbers-stay-of calls more policies number s e =
    let t : NetSeen = net_of calls policies in
    let f : Follows t (after_calls more t) = run-follows more t (of-new calls policies).orderly in
    subst (λ (b : List SubRecord). IsSomeAnd (numbered b number) (λ u. IsLater s u)) (sym f.board.are) (numbers-stay f.board.calls t.board number s e)

pub generations-kept : rack.RackKeeps → laws.GenerationsAreKept
generations-kept keeps calls policies =
    let f : Follows (new_net policies) (net_of calls policies) = of-new calls policies in
    subst IsKept (sym f.rack.1) (keeps f.rack.0 policies)

pub kinds-differ : rack.LiveKindsDiffer → laws.LiveKindsDiffer
kinds-differ differ calls policies ready =
    let f : Follows (new_net policies) (net_of calls policies) = of-new calls policies in
    subst KindsOfLiveDiffer (sym f.rack.1) (differ f.rack.0 policies ready)
