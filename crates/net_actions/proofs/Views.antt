-- The views of policies: the subchannels of a list of addresses, as the session computes them and as the net does.
use Rattle.std.proofs.Common.{◌≡◌, ◌+◌, ◌∷◌, ◌++◌, ◌==◌, ◌&&◌, not, ap, arith, refl, subst, sym, ◌∙◌, Bool, true, false, List, [], Option, None, Some, ℕ, suc, cond, slice_get, map, option_to_list}
use Rattle.std.specs.List.{filter_map, position_from}
use Rattle.std.specs.Option.{option_and_then, option_map}
use Rattle.std.specs.Prelude.{find}
use Rattle.grpc_base.specs.declared.address.Address.{Address}
use Rattle.grpc_base.specs.declared.event.Conn.{Conn}
use Rattle.lb_policy.specs.declared.seen.SubSeen.{SubSeen}
use Rattle.channel_net.specs.Lists.{link_of, seen_as, seen_at}
use Rattle.channel_net.specs.Lists as lists
use Rattle.channel_net.specs.declared.links.OwnLink.{OwnLink}
use Rattle.net_actions.proofs.Subs.{SaysSame, found_same}
use Rattle.net_actions.specs.Sees.{SubchannelsAgree, IsSub}
use Rattle.session_actions.specs.Policies.{is_live_sub, is_shutdown, live_sub, view_of}
use Rattle.session_actions.specs.declared.seen.Seen.{Seen}
use Rattle.session_actions.specs.declared.subchannel.Subchannel.{Subchannel}
use Rattle.subchannel.specs.Boards.{first_number, is_live_at, numbered}
use Rattle.subchannel.specs.Records.{SubRecord, is_shut}
use Rattle.grpc_base.specs.declared.event.Conn.TheVariants as conn

-- the first one that passes, in both
pub record Found (b : Subchannel) (q : SubRecord → Bool) (n : ℕ) (subs : List Subchannel) (board : List SubRecord) (links : List OwnLink) : Type 0 where
  pub place : ℕ
  pub own : slice_get subs place ≡ Some b
  pub r : SubRecord
  pub first : position_from q n board ≡ Some (n + place)
  pub at : slice_get board place ≡ Some r
  pub is : IsSub b r (n + place) (link_of links (n + place))

found_by : (p : Subchannel → Bool) (q : SubRecord → Bool) (n : ℕ) (c : Subchannel) (subs : List Subchannel) (r : SubRecord) (board : List SubRecord)
    (links : List OwnLink) (t u : Bool) (b : Subchannel) → t ≡ u → q r ≡ u → IsSub c r n (link_of links n)
    → cond t (Some c) (find p subs) ≡ Some b → (find p subs ≡ Some b → Found b q (n + 1) subs board links) → Found b q n (c ∷ subs) (r ∷ board) links
found_by p q n c subs r board links true true b same test is e next =
    let one : c ≡ b = (cc) in
    let number : n ≡ n + 0 = omega arith in
    record {
      place = 0;
      own = ap (λ (d : Subchannel). Some d) one;
      r = r;
      first = ap (λ (t : Bool). cond t (Some n) (position_from q (n + 1) board)) test ∙ ap (λ (k : ℕ). Some k) number;
      at = refl;
      is = subst (λ (k : ℕ). IsSub b r k (link_of links k)) number (subst (λ (d : Subchannel). IsSub d r n (link_of links n)) one is);
    }
found_by p q n c subs r board links false false b same test is e next =
    let later : Found b q (n + 1) subs board links = next e in
    let number : n + 1 + later.place ≡ n + suc later.place = omega arith in
    record {
      place = suc later.place;
      own = later.own;
      r = later.r;
      first = ap (λ (t : Bool). cond t (Some n) (position_from q (n + 1) board)) test ∙ later.first ∙ ap (λ (k : ℕ). Some k) number;
      at = later.at;
      is = subst (λ (k : ℕ). IsSub b later.r k (link_of links k)) number later.is;
    }
found_by p q n c subs r board links true false b same test is e next = absurd (cc)
found_by p q n c subs r board links false true b same test is e next = absurd (cc)

pub found_in : (p : Subchannel → Bool) (q : SubRecord → Bool) (same : SaysSame p q) (n : ℕ) (subs : List Subchannel) (board : List SubRecord)
    (links : List OwnLink) (b : Subchannel) → SubchannelsAgree n subs board links → find p subs ≡ Some b → Found b q n subs board links
found_in p q same n [] board links b h e = absurd (cc)
found_in p q same n (c ∷ subs) [] links b h e = absurd h
found_in p q same n (c ∷ subs) (r ∷ board) links b h e =
    found_by p q n c subs r board links (p c) (q r) b (same c r n (link_of links n) h.0) refl h.0 e
    (λ further. found_in p q same (n + 1) subs board links b h.1 further)

turned : (x y z : Bool) → ((x && y) && not z) ≡ ((not z && x) && y)
turned true true true = refl
turned true true false = refl
turned true false true = refl
turned true false false = refl
turned false true true = refl
turned false true false = refl
turned false false true = refl
turned false false false = refl

pub shut_same : (c : Conn) → is_shutdown c ≡ is_shut c
shut_same conn.Idle = refl
shut_same conn.Connecting = refl
shut_same conn.Ready = refl
shut_same conn.Failure = refl
shut_same conn.Shutdown = refl

pub live_same : (a : Address) → SaysSame (is_live_sub a) (is_live_at a)
live_same a b r number link is =
    turned (b.address.ip == a.ip) (b.address.port == a.port) (is_shutdown b.state)
    ∙ ap (λ (c : Bool). (not c && (b.address.ip == a.ip)) && (b.address.port == a.port)) (shut_same b.state)
    ∙ ap (λ (c : Conn). (not (is_shut c) && (b.address.ip == a.ip)) && (b.address.port == a.port)) is.state
    ∙ ap (λ (x : Address). (not (is_shut r.state) && (x.ip == a.ip)) && (x.port == a.port)) is.address

-- as a policy sees it
abbrev seen_of : Subchannel → SubSeen
seen_of b = record { sub = b.number; state = b.state }

seen_some : (s : Seen) (board : List SubRecord) (links : List OwnLink) (a : Address) (b : Subchannel) → Found b (is_live_at a) 1 s.subs board links
    → seen_at board a ≡ Some (seen_of b)
seen_some s board links a b f =
    let number : 1 + f.place ≡ suc f.place = omega arith in
    let first : first_number (is_live_at a) board ≡ Some (suc f.place) = f.first ∙ ap (λ (k : ℕ). Some k) number in
    let sub : suc f.place ≡ b.number = sym number ∙ sym f.is.number_is in
    ap (option_and_then (λ (k : ℕ). option_map (seen_as k) (numbered board k))) first
    ∙ ap (option_map (seen_as (suc f.place))) f.at
    ∙ ap (λ (k : ℕ). Some (seen_as k f.r)) sub
    ∙ ap (λ (c : Conn). Some (record { sub = b.number; state = c })) (sym f.is.state)

seen_by : (s : Seen) (board : List SubRecord) (links : List OwnLink) (a : Address) (o : Option Subchannel) → SubchannelsAgree 1 s.subs board links
    → live_sub s a ≡ o → option_map (λ (b : Subchannel). b.number) o ≡ first_number (is_live_at a) board → seen_at board a ≡ option_map seen_of o
seen_by s board links a None h e none = ap (option_and_then (λ (k : ℕ). option_map (seen_as k) (numbered board k))) (sym none)
seen_by s board links a (Some b) h e some = seen_some s board links a b (found_in (is_live_sub a) (is_live_at a) (live_same a) 1 s.subs board links b h e)

pub seen_same : (s : Seen) (board : List SubRecord) (links : List OwnLink) (a : Address) → SubchannelsAgree 1 s.subs board links
    → seen_at board a ≡ option_map seen_of (live_sub s a)
seen_same s board links a h =
    seen_by s board links a (live_sub s a) h refl (found_same (is_live_sub a) (is_live_at a) (live_same a) 1 s.subs board links h)

-- so the views are the same
view_by : (o : Option Subchannel) (rest : List Subchannel) (view : List SubSeen) → view ≡ map seen_of rest
    → option_to_list (option_map seen_of o) ++ view ≡ map seen_of (option_to_list o ++ rest)
view_by None rest view e = e
view_by (Some b) rest view e = ap (λ (v : List SubSeen). seen_of b ∷ v) e

filtered : (s : Seen) (a : Address) (rest : List Address) (o : Option Subchannel) → live_sub s a ≡ o
    → filter_map (live_sub s) (a ∷ rest) ≡ option_to_list o ++ filter_map (live_sub s) rest
filtered s a rest None e = (cc)
filtered s a rest (Some b) e = (cc)

pub views_same : (s : Seen) (board : List SubRecord) (links : List OwnLink) (addresses : List Address) → SubchannelsAgree 1 s.subs board links
    → lists.view_of board addresses ≡ view_of addresses s
views_same s board links [] h = refl
views_same s board links (a ∷ rest) h =
    ap (λ (o : Option SubSeen). option_to_list o ++ lists.view_of board rest) (seen_same s board links a h)
    ∙ view_by (live_sub s a) (filter_map (live_sub s) rest) (lists.view_of board rest) (views_same s board links rest h)
    ∙ ap (map seen_of) (sym (filtered s a rest (live_sub s a) refl))
