-- What each call of a net makes of its rack and its board, as calls of these.
use Rattle.std.proofs.Common.{◌≡◌, ◌≤◌, ℕ, zero, suc, ◌+◌, ◌==◌, Bool, true, false, ◌&&◌, ◌||◌, if◌then◌else◌, Option, Some, None, List, [], ◌∷◌, ◌++◌, slice_index_or, length, Contains, refl, ap, sym, subst, ◌∙◌, arith}
use Rattle.std.proofs.lemmas.Bool.{eq-eqb}
use Rattle.grpc_base.specs.declared.address.Address.{Address}
use Rattle.grpc_base.specs.declared.event.Conn.{Conn}
use Rattle.grpc_base.specs.declared.event.Conn.TheVariants as conn
use Rattle.grpc_base.specs.declared.kind.Kind.{Kind}
use Rattle.grpc_base.specs.Addresses.{IsWithoutRepeats, has_address, with_address}
use Rattle.grpc_base.specs.Kinds.{has_kind}
use Rattle.lb_policy.specs.declared.seen.SubSeen.{SubSeen}
use Rattle.lb_policy.specs.Table.{PolicySeen}
use Rattle.subchannel.specs.Records.{SubRecord, is_live, is_due, is_dialable, wished, dialed, linked_up, failed, prefaced, lost, clocked}
use Rattle.subchannel.specs.Boards.{changed, changed_at, clocked_at, first_number, is_live_at, kept}
use Rattle.subchannel.specs.Runs as board
use Rattle.subchannel.specs.Runs.{BoardCall, live_count}
use Rattle.subchannel.proofs.KeepLaws.{KeepsLive}
use Rattle.subchannel.proofs.StepLaws.{keeps_live-wished, keeps_live-dialed, keeps_live-linked_up, keeps_live-failed, keeps_live-prefaced, keeps_live-lost, keeps_live-clocked}
use Rattle.subchannel.proofs.RunLaws.{address-step}
use Rattle.subchannel.proofs.OnceLaws.{count-kept}
use Rattle.policy_rack.specs.Kinds.{first_place, kinds_of}
use Rattle.policy_rack.specs.Runs as rack
use Rattle.policy_rack.specs.Runs.{RackCall}
use Rattle.policy_rack.specs.Steps.{RackSeen, adopted, may_take_over}
use Rattle.channel_net.specs.declared.links.OwnLink.{OwnLink}
use Rattle.channel_net.specs.Askers.{AskerSeen, reported, asker_taken_over, asker_retired}
use Rattle.channel_net.specs.Lists.{each_once, with_addresses, state_at}
use Rattle.channel_net.specs.Steps as steps
use Rattle.channel_net.specs.Steps.{NetSeen, NetLeft, listed, net_kept, net_adopted, net_taken, net_resolved, is_for_current, adopted_view, cleared, moved_over}
use Rattle.channel_net.proofs.ListLaws.{without-repeats}

-- a rack after calls that are no pick request
abbrev pub NoAsk : List RackCall → Type 0
NoAsk [] = Unit {0}
NoAsk (rack.Ask ∷ calls) = ⊥
NoAsk (_ ∷ calls) = NoAsk calls

pub record Reaches (r t : RackSeen) : Type 0 where
  pub calls : List RackCall
  pub quiet : NoAsk calls
  pub are : t ≡ rack.after_calls calls r

quiet-append : (xs ys : List RackCall) → NoAsk xs → NoAsk ys → NoAsk (xs ++ ys)
quiet-append [] ys a b = b
quiet-append (rack.Adopt place subs ∷ xs) ys a b = quiet-append xs ys a b
quiet-append (rack.Note sub state ∷ xs) ys a b = quiet-append xs ys a b
quiet-append (rack.TakeOver ∷ xs) ys a b = quiet-append xs ys a b
quiet-append (rack.Ask ∷ xs) ys a b = absurd a
quiet-append (rack.RetireAll ∷ xs) ys a b = quiet-append xs ys a b

rack-append : (xs ys : List RackCall) (r : RackSeen) → rack.after_calls (xs ++ ys) r ≡ rack.after_calls ys (rack.after_calls xs r)
rack-append [] ys r = refl
rack-append (x ∷ xs) ys r = rack-append xs ys (rack.after_call x r)

pub stays : (r : RackSeen) → Reaches r r
stays r = record { calls = []; quiet = tt; are = refl }

pub reaches-then : (r s t : RackSeen) → Reaches r s → Reaches s t → Reaches r t
reaches-then r s t a b = record {
  calls = a.calls ++ b.calls;
  quiet = quiet-append a.calls b.calls a.quiet b.quiet;
  are = b.are ∙ ap (rack.after_calls b.calls) a.are ∙ sym (rack-append a.calls b.calls r);
}

reaches-reported : (o : Option Conn) (sub : ℕ) (a : AskerSeen) → Reaches a.rack (reported o sub a).rack
reaches-reported None sub a = stays a.rack
reaches-reported (Some state) sub a = record { calls = rack.Note sub state ∷ []; quiet = tt; are = refl }

reaches-adopted : (view : List SubSeen) (o : Option ℕ) (r : RackSeen) → Reaches r (adopted view o r)
reaches-adopted view None r = stays r
reaches-adopted view (Some place) r = record { calls = rack.Adopt place view ∷ []; quiet = tt; are = refl }

reaches-over : (a : AskerSeen) → Reaches a.rack (asker_taken_over a).rack
reaches-over a = record { calls = rack.TakeOver ∷ []; quiet = tt; are = refl }

reaches-retired : (a : AskerSeen) → Reaches a.rack (asker_retired a).rack
reaches-retired a = record { calls = rack.RetireAll ∷ []; quiet = tt; are = refl }

-- a board after calls
pub record Builds (b c : List SubRecord) : Type 0 where
  pub calls : List BoardCall
  pub are : c ≡ board.after_calls calls b

board-append : (xs ys : List BoardCall) (b : List SubRecord) → board.after_calls (xs ++ ys) b ≡ board.after_calls ys (board.after_calls xs b)
board-append [] ys b = refl
board-append (x ∷ xs) ys b = board-append xs ys (board.after_call x b)

pub builds-then : (b c d : List SubRecord) → Builds b c → Builds c d → Builds b d
builds-then b c d x y = record { calls = x.calls ++ y.calls; are = y.are ∙ ap (board.after_calls y.calls) x.are ∙ sym (board-append x.calls y.calls b) }

one-built : (call : BoardCall) (b : List SubRecord) → Builds b (board.after_call call b)
one-built call b = record { calls = call ∷ []; are = refl }

none-built : (b : List SubRecord) → Builds b b
none-built b = record { calls = []; are = refl }

-- how many live subchannels an address has
count-changed : (f : SubRecord → SubRecord) (a : Address) (subs : List SubRecord) (place : ℕ) → KeepsLive f → ((s : SubRecord) → (f s).address ≡ s.address) → live_count a (changed f subs place) ≡ live_count a subs
count-changed f a [] place live address = refl
count-changed f a (s ∷ subs) zero live address =
    let here : is_live_at a (f s) ≡ is_live_at a s =
    ap (λ (b : Bool). b && ((f s).address.ip == a.ip) && ((f s).address.port == a.port)) (live s) ∙ ap (λ (x : Address). is_live s && (x.ip == a.ip) && (x.port == a.port)) (address s) in
    ap (λ (b : Bool). (if b then 1 else 0) + live_count a subs) here
count-changed f a (s ∷ subs) (suc place) live address = ap (λ (k : ℕ). (if is_live_at a s then 1 else 0) + k) (count-changed f a subs place live address)

count-at : (f : SubRecord → SubRecord) (a : Address) (subs : List SubRecord) (n : ℕ) → KeepsLive f → ((s : SubRecord) → (f s).address ≡ s.address) → live_count a (changed_at f subs n) ≡ live_count a subs
count-at f a subs zero live address = refl
count-at f a subs (suc place) live address = count-changed f a subs place live address

count-clocked : (moment : ℕ) (a : Address) (subs : List SubRecord) (o : Option ℕ) → live_count a (clocked_at moment subs o) ≡ live_count a subs
count-clocked moment a subs None = refl
count-clocked moment a subs (Some n) = count-at (clocked moment) a subs n (keeps_live-clocked moment) (address-step (board.Clock moment))

abbrev NoKeep : BoardCall → Type 0
NoKeep (board.Keep current pending) = ⊥
NoKeep _ = Unit {0}

count-call : (call : BoardCall) (a : Address) (subs : List SubRecord) → NoKeep call → live_count a (board.after_call call subs) ≡ live_count a subs
count-call (board.Keep current pending) a subs quiet = absurd quiet
count-call (board.Wished n) a subs quiet = count-at wished a subs n keeps_live-wished (address-step (board.Wished n))
count-call (board.Dial n moment word) a subs quiet = count-at (dialed moment word) a subs n (keeps_live-dialed moment word) (address-step (board.Dial n moment word))
count-call (board.Up n) a subs quiet = count-at linked_up a subs n keeps_live-linked_up (address-step (board.Up n))
count-call (board.Failed n) a subs quiet = count-at failed a subs n keeps_live-failed (address-step (board.Failed n))
count-call (board.Ready n) a subs quiet = count-at prefaced a subs n keeps_live-prefaced (address-step (board.Ready n))
count-call (board.Lost n) a subs quiet = count-at lost a subs n keeps_live-lost (address-step (board.Lost n))
count-call (board.Clock moment) a subs quiet = count-clocked moment a subs (first_number (is_due moment) subs)

-- the lists of a net have no address twice, and its board one live subchannel for each of theirs
pub record Orderly (n : NetSeen) : Type 0 where
  pub current : IsWithoutRepeats n.current
  pub pending : IsWithoutRepeats n.pending
  pub listed : (a : Address) → live_count a n.board ≡ (if has_address n.current a || has_address n.pending a then 1 else 0)

one-or-none : (b : Bool) → (if b then 1 else 0) ≤ 1
one-or-none true = omega arith
one-or-none false = omega arith

once : (n : NetSeen) → Orderly n → (a : Address) → live_count a n.board ≤ 1
once n o a =
    let most : (if has_address n.current a || has_address n.pending a then 1 else 0) ≤ 1 = one-or-none (has_address n.current a || has_address n.pending a) in
    let same = o.listed a in
    subst (λ (k : ℕ). k ≤ 1) (sym same) most

pub record Moves (n t : NetSeen) : Type 0 where
  pub rack : Reaches n.asker.rack t.asker.rack
  pub board : Builds n.board t.board
  pub orderly : Orderly t

pub moves-then : (n s t : NetSeen) → Moves n s → (Orderly s → Moves s t) → Moves n t
moves-then n s t a next =
    let b : Moves s t = next a.orderly in
    record {
      rack = reaches-then n.asker.rack s.asker.rack t.asker.rack a.rack b.rack;
      board = builds-then n.board s.board t.board a.board b.board;
      orderly = b.orderly;
    }

pub moves-not : (n : NetSeen) → Orderly n → Moves n n
moves-not n o = record { rack = stays n.asker.rack; board = none-built n.board; orderly = o }

moves-if : (b : Bool) (n s t : NetSeen) → Moves n s → Moves n t → Moves n (if b then s else t)
moves-if true n s t x y = x
moves-if false n s t x y = y

-- a call of the board that keeps no lists, with what it gives to the rack
moves-by : (n : NetSeen) (call : BoardCall) (a : AskerSeen) (links : List OwnLink) → NoKeep call → Orderly n → Reaches n.asker.rack a.rack → Moves n (record { asker = a; board = board.after_call call n.board; current = n.current; pending = n.pending; links = links })
moves-by n call a links quiet o r = record {
  rack = r;
  board = one-built call n.board;
  orderly = record { current = o.current; pending = o.pending; listed = λ x. count-call call x n.board quiet ∙ o.listed x };
}

-- the lists are kept
moves-kept : (n t : NetSeen) → Reaches n.asker.rack t.asker.rack → t.board ≡ n.board → IsWithoutRepeats t.current → IsWithoutRepeats t.pending → ((a : Address) → live_count a t.board ≤ 1) → Moves n (net_kept t)
moves-kept n t r same current pending once = record {
  rack = r;
  board = record { calls = board.Keep t.current t.pending ∷ []; are = ap (kept t.current t.pending) same };
  orderly = record { current = current; pending = pending; listed = λ a. count-kept t.current t.pending t.board a current pending (once a) };
}

-- a list with each address once
or-true : (b h : Bool) → h ≡ true → (b || h) ≡ true
or-true true h e = refl
or-true false h e = e

has-at : (xs : List Address) (a : Address) (k : ℕ) → suc k ≤ length xs → slice_index_or xs k a ≡ a → has_address xs a ≡ true
has-at [] a k h e = absurd (omega arith)
has-at (x ∷ xs) a zero h e =
    let ip : (x.ip == a.ip) ≡ true = eq-eqb x.ip a.ip (ap (λ (y : Address). y.ip) e) in
    let port : (x.port == a.port) ≡ true = eq-eqb x.port a.port (ap (λ (y : Address). y.port) e) in
    ap (λ (b : Bool). b && (x.port == a.port) || has_address xs a) ip ∙ ap (λ (b : Bool). b || has_address xs a) port
has-at (x ∷ xs) a (suc k) h e =
    let next : has_address xs a ≡ true = has-at xs a k (omega arith) e in
    or-true ((x.ip == a.ip) && (x.port == a.port)) (has_address xs a) next

absent : (xs : List Address) (a : Address) → has_address xs a ≡ false → Contains xs a → ⊥
absent xs a none c = let yes : has_address xs a ≡ true = has-at xs a c.0 c.1 c.2 in (cc)

with-once-by : (b : Bool) (xs : List Address) (a : Address) → has_address xs a ≡ b → IsWithoutRepeats xs → IsWithoutRepeats (with_address xs a)
with-once-by true xs a e kept = subst IsWithoutRepeats (sym (ap (λ (b : Bool). if b then xs else xs ++ a ∷ []) e)) kept
with-once-by false xs a e kept = without-repeats xs (with_address xs a) a (absent xs a e) refl kept

with-once : (xs more : List Address) → IsWithoutRepeats xs → IsWithoutRepeats (with_addresses xs more)
with-once xs [] kept = kept
with-once xs (a ∷ more) kept = with-once (with_address xs a) more (with-once-by (has_address xs a) xs a refl kept)

pub each-once : (addresses : List Address) → IsWithoutRepeats (each_once addresses)
each-once addresses = with-once [] addresses tt

pick-list : (b : Bool) (xs ys : List Address) → IsWithoutRepeats xs → IsWithoutRepeats ys → IsWithoutRepeats (if b then xs else ys)
pick-list true xs ys x y = x
pick-list false xs ys x y = y

-- each call
moves-adopted : (kind : Kind) (addresses : List Address) (n : NetSeen) → Orderly n → Moves n (net_adopted kind addresses n)
moves-adopted kind addresses n o = record {
  rack = reaches-adopted (adopted_view kind addresses n) (first_place kind n.asker.rack.policies) n.asker.rack;
  board = none-built n.board;
  orderly = record { current = o.current; pending = o.pending; listed = o.listed };
}

pub moves-taken : (kind : Kind) (addresses : List Address) (n : NetSeen) → Orderly n → Moves n (net_taken kind addresses n)
moves-taken kind addresses n o =
    let b : Bool = is_for_current kind n.asker.rack in
    let kept : Moves n (net_kept (listed kind addresses n)) =
    moves-kept n (listed kind addresses n) (stays n.asker.rack) refl (pick-list b (each_once addresses) n.current (each-once addresses) o.current) (pick-list b [] (each_once addresses) tt (each-once addresses)) (once n o) in
    moves-then n (net_kept (listed kind addresses n)) (net_taken kind addresses n) kept (moves-adopted kind addresses (net_kept (listed kind addresses n)))

pub moves-resolved : (kind : Kind) (addresses : List Address) (n : NetSeen) → Orderly n → Moves n (net_resolved kind addresses n)
moves-resolved kind addresses n o =
    moves-if (has_kind (kinds_of n.asker.rack.policies) kind) n (net_taken kind addresses n) n (moves-taken kind addresses n o) (moves-not n o)

moves-dialed-by : (moment word : ℕ) (n : NetSeen) (o : Option ℕ) → Orderly n → Moves n (record n { board = steps.board_dialed moment word o n.board })
moves-dialed-by moment word n None o = moves-not n o
moves-dialed-by moment word n (Some sub) o = moves-by n (board.Dial sub moment word) n.asker n.links tt o (stays n.asker.rack)

pub moves-dialed : (moment word : ℕ) (n : NetSeen) → Orderly n → Moves n (steps.net_dialed moment word n)
moves-dialed moment word n o = moves-dialed-by moment word n (first_number is_dialable n.board) o

pub moves-up : (sub link : ℕ) (n : NetSeen) → Orderly n → Moves n (steps.net_up sub link n)
moves-up sub link n o = moves-by n (board.Up sub) n.asker (n.links ++ record { sub = sub; link = link } ∷ []) tt o (stays n.asker.rack)

pub moves-failed : (sub : ℕ) (n : NetSeen) → Orderly n → Moves n (steps.net_dial_failed sub n)
moves-failed sub n o =
    moves-by n (board.Failed sub) (reported (state_at (changed_at failed n.board sub) sub) sub n.asker) n.links tt o (reaches-reported (state_at (changed_at failed n.board sub) sub) sub n.asker)

pub moves-ready : (sub link : ℕ) (n : NetSeen) → Orderly n → Moves n (steps.net_ready sub link n)
moves-ready sub link n o =
    moves-if (steps.owns sub link n) n (steps.board_reported prefaced sub n) n (moves-by n (board.Ready sub) (reported (state_at (changed_at prefaced n.board sub) sub) sub n.asker) n.links tt o (reaches-reported (state_at (changed_at prefaced n.board sub) sub) sub n.asker)) (moves-not n o)

pub moves-down : (sub link : ℕ) (n : NetSeen) → Orderly n → Moves n (steps.net_down sub link n)
moves-down sub link n o =
    moves-if (steps.owns sub link n) n (steps.net_lost sub n) n (moves-by n (board.Lost sub) (reported (state_at (changed_at lost n.board sub) sub) sub n.asker) (steps.net_lost sub n).links tt o (reaches-reported (state_at (changed_at lost n.board sub) sub) sub n.asker)) (moves-not n o)

pub moves-clocked-by : (moment : ℕ) (l : NetLeft) (o : Option ℕ) → Orderly l.net → Moves l.net (steps.clocked_at moment o l).net
moves-clocked-by moment l None o = moves-not l.net o
moves-clocked-by moment l (Some sub) o =
    let after : List SubRecord = board.after_call (board.Clock moment) l.net.board in
    moves-by l.net (board.Clock moment) (reported (state_at after sub) sub l.net.asker) (steps.clocked_at moment (Some sub) l).net.links tt o (reaches-reported (state_at after sub) sub l.net.asker)

moves-rounds : (moment k : ℕ) (l : NetLeft) → Orderly l.net → Moves l.net (steps.clock_rounds moment k l).net
moves-rounds moment zero l o = moves-not l.net o
moves-rounds moment (suc k) l o =
    moves-then l.net (steps.clock_round moment l).net (steps.clock_rounds moment k (steps.clock_round moment l)).net (moves-clocked-by moment l (first_number (is_due moment) l.net.board) o) (moves-rounds moment k (steps.clock_round moment l))

pub moves-clocked : (moment : ℕ) (n : NetSeen) → Orderly n → Moves n (steps.net_clocked moment n).net
moves-clocked moment n o = moves-rounds moment (steps.clocks_left n.board) (steps.left_of n) o

over-by : (b : Bool) (l : NetLeft) → Orderly l.net → Moves l.net (if b then record { net = net_kept (moved_over l.net); gone = steps.kept_shut (moved_over l.net) } else l).net
over-by true l o = moves-kept l.net (moved_over l.net) (reaches-over l.net.asker) refl o.pending tt (once l.net o)
over-by false l o = moves-not l.net o

pub moves-over : (l : NetLeft) → Orderly l.net → Moves l.net (steps.net_taken_over l).net
moves-over l o = over-by (may_take_over l.net.asker.rack) l o

pub moves-connected-by : (n : NetSeen) (o : Option ℕ) → Orderly n → Moves n (steps.connected_at o n)
moves-connected-by n None o = moves-not n o
moves-connected-by n (Some sub) o =
    moves-by n (board.Wished sub) (reported (Some conn.Connecting) sub n.asker) n.links tt o (reaches-reported (Some conn.Connecting) sub n.asker)

moves-wishes : (k : ℕ) (n : NetSeen) → Orderly n → Moves n (steps.connect_rounds k n)
moves-wishes zero n o = moves-not n o
moves-wishes (suc k) n o =
    moves-then n (steps.connect_round n) (steps.connect_rounds k (steps.connect_round n)) (moves-connected-by n (steps.first_wished n) o) (moves-wishes k (steps.connect_round n))

moves-round : (l : NetLeft) → Orderly l.net → Moves l.net (steps.settle_round l).net
moves-round l o =
    let t : NetSeen = (steps.net_taken_over l).net in
    moves-then l.net t (steps.net_connected t) (moves-over l o) (moves-wishes (steps.idle_count t.board) t)

moves-further : (b : Bool) (l : NetLeft) → Orderly l.net → Moves l.net (if b then steps.settle_round l else l).net
moves-further true l o = moves-round l o
moves-further false l o = moves-not l.net o

pub moves-settled : (n : NetSeen) → Orderly n → Moves n (steps.net_settled n).net
moves-settled n o =
    let first : NetLeft = steps.settle_round (steps.left_of n) in
    moves-then n first.net (steps.net_settled n).net (moves-round (steps.left_of n) o) (moves-further (may_take_over first.net.asker.rack) first)

pub moves-shut : (n : NetSeen) → Orderly n → Moves n (steps.net_shut n).net
moves-shut n o = moves-kept n (cleared n) (reaches-retired n.asker) refl tt tt (once n o)

pub orderly-new : (policies : List PolicySeen) → Orderly (steps.new_net policies)
orderly-new policies = record { current = tt; pending = tt; listed = λ a. refl }
