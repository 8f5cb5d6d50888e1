-- What the clock makes of a subchannel is the same in the session and in the net, and it is the same one.
use Rattle.std.proofs.Common.{◌≡◌, ◌⊎◌, inl, inr, ◌∷◌, ◌&&◌, ap, refl, subst, sym, ◌∙◌, Bool, true, false, List, [], Option, None, Some, ℕ, ◌+◌, arith, suc, slice_get, if◌then◌else◌, is_some, nat_le, cond}
use Rattle.std.proofs.lemmas.Option.{same_Some}
use Rattle.std.specs.Option.{option_and_then, option_map, option_map_or, option_or}
use Rattle.std.specs.Prelude.{find}
use Rattle.grpc_base.specs.declared.address.Address.{Address}
use Rattle.grpc_base.specs.declared.event.Conn.{Conn}
use Rattle.grpc_base.specs.declared.event.Conn.TheVariants as conn
use Rattle.channel_net.proofs.ViewLaws.{KeepsAddress}
use Rattle.channel_net.specs.Askers.{reported}
use Rattle.channel_net.specs.Lists.{link_of, state_at, without}
use Rattle.channel_net.specs.Steps.{NetSeen, clock_round, clocked_at}
use Rattle.net_actions.proofs.Changing.{Change, changed_sees, net_changed}
use Rattle.net_actions.proofs.Dialling.{here, if_true, no_link, stays_but}
use Rattle.net_actions.proofs.OwnLinks.{none_left}
use Rattle.net_actions.proofs.Noting.{found_passes}
use Rattle.net_actions.proofs.Subs.{SaysSame, found_same}
use Rattle.net_actions.proofs.Views.{Found, found_in}
use Rattle.net_actions.specs.Laws.{ClockChanges, EndsBackoff, TimesOut}
use Rattle.net_actions.specs.Sees.{IsSub, Sees}
use Rattle.session_actions.specs.Entries.{now}
use Rattle.session_actions.specs.Links.{link_over, wants_resolution}
use Rattle.session_actions.specs.Subchannels.{clock_action, connect_timed_out, in_state, link_timed_out, next_of_clock, with_sub, without_link}
use Rattle.session_actions.specs.Subchannels as sub
use Rattle.session_actions.specs.Policies as policies
use Rattle.session_actions.specs.Words.{first_of, holds}
use Rattle.session_actions.specs.declared.action.Action.{Action}
use Rattle.session_actions.specs.declared.seen.Seen.{Seen}
use Rattle.session_actions.specs.declared.subchannel.Subchannel.{Subchannel}
use Rattle.session_actions.specs.declared.action.Action.TheVariants as action
use Rattle.session_actions.specs.declared.link.LinkOver.TheVariants as over
use Rattle.subchannel.proofs.StepLaws.{keeps_live-clocked}
use Rattle.subchannel.specs.Boards as boards
use Rattle.subchannel.specs.Boards.{first_number}
use Rattle.subchannel.specs.Records.{SubRecord, backing_off, clocked, is_due, is_failure}

-- what the clock does to a subchannel, by its number, state and moments
abbrev clock_by : ℕ → ℕ → Conn → Option ℕ → Option ℕ → Option Action
clock_by m k c until again =
    if sub.is_connecting c && holds (λ t. nat_le t m) until then Some (action.ConnectTimesOut k)
    else if policies.is_failure c && holds (λ t. nat_le t m) again then Some (action.BackoffEnds k)
    else None

holds_is : (m : ℕ) (o : Option ℕ) → holds (λ t. nat_le t m) o ≡ option_map_or (λ t. nat_le t m) o false
holds_is m None = refl
holds_is m (Some t) = refl

some_if : {X : Type 0} (t : Bool) (x : X) → is_some (if t then Some x else None) ≡ t
some_if true x = refl
some_if false x = refl

due_in : (s : Seen) (b : Subchannel) (a : Address) (c : Conn) (dials : ℕ) (again until : Option ℕ) (linked : Bool) (number : ℕ) (link : Option ℕ)
    → IsSub b (record { address = a; state = c; dials = dials; again = again; until = until; linked = linked }) number link
    → is_some (clock_by (now s) b.number c until b.again)
    ≡ is_due (now s) (record { address = a; state = c; dials = dials; again = again; until = until; linked = linked })
due_in s b a conn.Idle dials again until linked number link is = refl
due_in s b a conn.Connecting dials again until linked number link is =
    some_if (holds (λ t. nat_le t (now s)) until) (action.ConnectTimesOut b.number) ∙ holds_is (now s) until
due_in s b a conn.Ready dials again until linked number link is = refl
due_in s b a conn.Failure dials again until linked number link is =
    ap (λ (o : Option ℕ). is_some (clock_by (now s) b.number conn.Failure until o)) (is.again refl)
    ∙ some_if (holds (λ t. nat_le t (now s)) again) (action.BackoffEnds b.number) ∙ holds_is (now s) again
due_in s b a conn.Shutdown dials again until linked number link is = refl

pub due_same : (s : Seen) → SaysSame (λ b. is_some (clock_action s b)) (is_due (now s))
due_same s b r number link is =
    ap (λ (c : Conn). is_some (clock_by (now s) b.number c b.until b.again)) is.state
    ∙ ap (λ (o : Option ℕ). is_some (clock_by (now s) b.number r.state o b.again)) is.until
    ∙ due_in s b r.address r.state r.dials r.again r.until r.linked number link is

-- the first one that the clock changes
first_by : {X Y : Type 0} (f : X → Option Y) (x : X) (xs : List X) (o : Option Y) → f x ≡ o → first_of f xs ≡ option_and_then f (find (λ z. is_some (f z)) xs)
    → option_or o (first_of f xs) ≡ option_and_then f (cond (is_some o) (Some x) (find (λ z. is_some (f z)) xs))
first_by f x xs None e h = h
first_by f x xs (Some y) e h = sym e

pub first_is : {X Y : Type 0} (f : X → Option Y) (xs : List X) → first_of f xs ≡ option_and_then f (find (λ z. is_some (f z)) xs)
first_is f [] = refl
first_is f (x ∷ xs) = first_by f x xs (f x) refl (first_is f xs)

-- nothing is due in the session where nothing is in the net
none_by : (f : Subchannel → Option Action) (o : Option Subchannel) (p : Option ℕ) → option_map (λ (b : Subchannel). b.number) o ≡ p → p ≡ None
    → option_and_then f o ≡ None
none_by f None p e none = refl
none_by f (Some b) p e none = absurd (cc)

pub none_due : (s : Seen) (n : NetSeen) → Sees s n → first_number (is_due (now s)) n.board ≡ None → next_of_clock s ≡ None
none_due s n h none =
    first_is (clock_action s) s.subs
    ∙ none_by (clock_action s) (find (λ b. is_some (clock_action s b)) s.subs) (first_number (is_due (now s)) n.board)
    (found_same (λ b. is_some (clock_action s b)) (is_due (now s)) (due_same s) 1 s.subs n.board n.links h.subs_are) none

-- a dial is given up
some_of : (m : ℕ) (o : Option ℕ) → option_map_or (λ t. nat_le t m) o false ≡ true → is_some o ≡ true
some_of m None e = absurd (cc)
some_of m (Some t) e = refl

timed_in : (m : ℕ) (b : Subchannel) (a : Address) (dials : ℕ) (again until : Option ℕ) (linked : Bool) (number : ℕ) (link : Option ℕ)
    → is_due m (record { address = a; state = conn.Connecting; dials = dials; again = again; until = until; linked = linked }) ≡ true
    → IsSub b (record { address = a; state = conn.Connecting; dials = dials; again = again; until = until; linked = linked }) number link
    → IsSub (without_link conn.Failure b) (clocked m (record { address = a; state = conn.Connecting; dials = dials; again = again; until = until; linked = linked })) number None
timed_in m b a dials again until linked number link due is =
    let r : SubRecord = record { address = a; state = conn.Connecting; dials = dials; again = again; until = until; linked = linked } in
    let there : IsSub (without_link conn.Failure b) (backing_off r) number None = record {
      number_is = is.number_is;
      address = is.address;
      state = refl;
      dials = is.dials;
      until = refl;
      again = λ e. is.again (some_of m until due);
      link_is = refl;
      linked = refl;
      shape = (refl, refl);
    } in
    subst (λ (q : SubRecord). IsSub (without_link conn.Failure b) q number None) (sym (if_true (is_due m r) (backing_off r) r due)) there

-- a backoff is over
rested_in : (m : ℕ) (b : Subchannel) (a : Address) (dials : ℕ) (again until : Option ℕ) (linked : Bool) (number : ℕ) (link : Option ℕ)
    → is_due m (record { address = a; state = conn.Failure; dials = dials; again = again; until = until; linked = linked }) ≡ true
    → IsSub b (record { address = a; state = conn.Failure; dials = dials; again = again; until = until; linked = linked }) number link
    → IsSub (in_state conn.Idle b) (clocked m (record { address = a; state = conn.Failure; dials = dials; again = again; until = until; linked = linked })) number None
rested_in m b a dials again until linked number link due is =
    let r : SubRecord = record { address = a; state = conn.Failure; dials = dials; again = again; until = until; linked = linked } in
    let q : SubRecord = record { address = a; state = conn.Idle; dials = dials; again = None; until = until; linked = linked } in
    let none : until ≡ None = is.shape.0 in
    let free : linked ≡ false = is.shape.1 in
    let there : IsSub (in_state conn.Idle b) q number None = record {
      number_is = is.number_is;
      address = is.address;
      state = refl;
      dials = is.dials;
      until = is.until;
      again = λ e. absurd (let bad : is_some until ≡ true = e in let no_one : ⊥ = (cc) in no_one);
      link_is = is.link_is ∙ no_link link (is.linked ∙ free);
      linked = sym free;
      shape = (none, free);
    } in
    subst (λ (x : SubRecord). IsSub (in_state conn.Idle b) x number None) (sym (if_true (is_due m r) q r due)) there

-- the net after it
round_is : (m place : ℕ) (n : NetSeen) (gone : List ℕ) → first_number (is_due m) n.board ≡ Some (suc place)
    → (clock_round m (record { net = n; gone = gone })).net ≡ net_changed (clocked m) place (without (suc place) n.links) n
round_is m place n gone e =
    ap (λ (o : Option ℕ). (clocked_at m o (record { net = n; gone = gone })).net) e
    ∙ ap (λ (o : Option ℕ). record {
      asker = reported (state_at (boards.clocked_at m n.board o) (suc place)) (suc place) n.asker;
      board = boards.clocked_at m n.board o;
      current = n.current;
      pending = n.pending;
      links = without (suc place) n.links;
    }) e

-- its link, in the session, is over
over_by : (P : Seen → Type 0) (s : Seen) (link : Option ℕ) → P s → ((k : ℕ) → P (link_over over.TimedOut k s))
    → P (option_map_or (λ (k : ℕ). link_over over.TimedOut k s) link s)
over_by P s None here there = here
over_by P s (Some k) here there = there k

over_at : (P : Seen → Type 0) (s : Seen) (o : Option Subchannel) → P s → ((k : ℕ) → P (link_over over.TimedOut k s))
    → P (option_map_or (λ (b : Subchannel). link_timed_out b s) o s)
over_at P s None here there = here
over_at P s (Some b) here there = over_by P s b.link here there

clocked_address : (x y : Bool) (r : SubRecord)
    → (if x then (if y then record r { state = conn.Idle; again = None } else backing_off r) else r).address ≡ r.address
clocked_address true true r = refl
clocked_address true false r = refl
clocked_address false y r = refl

keeps_address-clocked : (m : ℕ) → KeepsAddress (clocked m)
keeps_address-clocked m r = clocked_address (is_due m r) (is_failure r.state) r

-- which of the two it is
acts_by : (s : Seen) (b : Subchannel) (c : Conn) (until : Option ℕ) → b.state ≡ c → b.until ≡ until
    → clock_action s b ≡ clock_by (now s) b.number c until b.again
acts_by s b c until one two =
    ap (λ (x : Conn). clock_by (now s) b.number x b.until b.again) one ∙ ap (λ (o : Option ℕ). clock_by (now s) b.number c o b.again) two

if_some : {X : Type 0} (t : Bool) (x : X) → t ≡ true → (if t then Some x else None) ≡ Some x
if_some true x e = refl
if_some false x e = absurd (cc)

times_out : (m k : ℕ) (until again : Option ℕ) → option_map_or (λ t. nat_le t m) until false ≡ true
    → clock_by m k conn.Connecting until again ≡ Some (action.ConnectTimesOut k)
times_out m k until again due = if_some (holds (λ t. nat_le t m) until) (action.ConnectTimesOut k) (holds_is m until ∙ due)

rests : (m k : ℕ) (until again : Option ℕ) → option_map_or (λ t. nat_le t m) again false ≡ true
    → clock_by m k conn.Failure until again ≡ Some (action.BackoffEnds k)
rests m k until again due = if_some (holds (λ t. nat_le t m) again) (action.BackoffEnds k) (holds_is m again ∙ due)

module _ (s : Seen) (n : NetSeen) (h : Sees s n) (place : ℕ) (b : Subchannel) (at : slice_get s.subs place ≡ Some b) (first : first_number (is_due (now s)) n.board ≡ Some (suc place)) (next : next_of_clock s ≡ clock_action s b) where
  step_in : (a : Address) (c : Conn) (dials : ℕ) (again until : Option ℕ) (linked : Bool)
      → slice_get n.board place ≡ Some (record { address = a; state = c; dials = dials; again = again; until = until; linked = linked })
      → IsSub b (record { address = a; state = c; dials = dials; again = again; until = until; linked = linked }) (suc place) (link_of n.links (suc place))
      → is_due (now s) (record { address = a; state = c; dials = dials; again = again; until = until; linked = linked }) ≡ true → TimesOut (suc place) s n ⊎ EndsBackoff (suc place) s n
  step_in a conn.Idle dials again until linked there is due = absurd (cc)
  step_in a conn.Ready dials again until linked there is due = absurd (cc)
  step_in a conn.Shutdown dials again until linked there is due = absurd (cc)
  step_in a conn.Connecting dials again until linked there is due =
      let r : SubRecord = record { address = a; state = conn.Connecting; dials = dials; again = again; until = until; linked = linked } in
      let v : Seen = option_map_or (λ (x : Subchannel). link_timed_out x s) (slice_get s.subs place) s in
      let kept : (Sees (wants_resolution v) n) × ((wants_resolution v).subs ≡ s.subs)
      = over_at (λ (x : Seen). (Sees (wants_resolution x) n) × ((wants_resolution x).subs ≡ s.subs)) s (slice_get s.subs place) (h, refl) (λ k. (h, refl)) in
      let change : Change (without_link conn.Failure) (clocked (now s)) place (without (suc place) n.links) (wants_resolution v) n = record {
        b = b;
        at = ap (λ (l : List Subchannel). slice_get l place) kept.1 ∙ at;
        r = r;
        there = there;
        is = subst (λ (o : Option ℕ). IsSub (without_link conn.Failure b) (clocked (now s) r) (suc place) o) (sym (none_left n.links (suc place)))
            (timed_in (now s) b a dials again until linked (suc place) (link_of n.links (suc place)) due is);
        same = stays_but place n.links;
        live = keeps_live-clocked (now s);
        address = keeps_address-clocked (now s);
      } in
      let after : Sees (connect_timed_out (suc place) s) (net_changed (clocked (now s)) place (without (suc place) n.links) n)
      = changed_sees (without_link conn.Failure) (clocked (now s)) place (without (suc place) n.links) (wants_resolution v) n change kept.0 in
      let is_next : next_of_clock s ≡ Some (action.ConnectTimesOut (suc place))
      = next ∙ acts_by s b conn.Connecting until is.state is.until ∙ times_out (now s) b.number until b.again due
      ∙ ap (λ (k : ℕ). Some (action.ConnectTimesOut k)) is.number_is in
      inl (is_next, λ gone. subst (λ (x : NetSeen). Sees (connect_timed_out (suc place) s) x) (sym (round_is (now s) place n gone first)) after)
  step_in a conn.Failure dials again until linked there is due =
      let r : SubRecord = record { address = a; state = conn.Failure; dials = dials; again = again; until = until; linked = linked } in
      let change : Change (in_state conn.Idle) (clocked (now s)) place (without (suc place) n.links) s n = record {
        b = b;
        at = at;
        r = r;
        there = there;
        is = subst (λ (o : Option ℕ). IsSub (in_state conn.Idle b) (clocked (now s) r) (suc place) o) (sym (none_left n.links (suc place)))
            (rested_in (now s) b a dials again until linked (suc place) (link_of n.links (suc place)) due is);
        same = stays_but place n.links;
        live = keeps_live-clocked (now s);
        address = keeps_address-clocked (now s);
      } in
      let after : Sees (with_sub (in_state conn.Idle) (suc place) s) (net_changed (clocked (now s)) place (without (suc place) n.links) n)
      = changed_sees (in_state conn.Idle) (clocked (now s)) place (without (suc place) n.links) s n change h in
      let again_is : b.again ≡ again = is.again refl in
      let is_next : next_of_clock s ≡ Some (action.BackoffEnds (suc place))
      = next ∙ acts_by s b conn.Failure until is.state is.until ∙ ap (λ (o : Option ℕ). clock_by (now s) b.number conn.Failure until o) again_is
      ∙ rests (now s) b.number until again due ∙ ap (λ (k : ℕ). Some (action.BackoffEnds k)) is.number_is in
      inr (is_next, λ gone. subst (λ (x : NetSeen). Sees (with_sub (in_state conn.Idle) (suc place) s) x) (sym (round_is (now s) place n gone first)) after)

-- the first one that is due, in both
found_due : (s : Seen) (n : NetSeen) (sub : ℕ) (h : Sees s n) (b : Subchannel) → first_number (is_due (now s)) n.board ≡ Some sub
    → find (λ x. is_some (clock_action s x)) s.subs ≡ Some b → TimesOut sub s n ⊎ EndsBackoff sub s n
found_due s n sub h b first e =
    let f : Found b (is_due (now s)) 1 s.subs n.board n.links = found_in (λ x. is_some (clock_action s x)) (is_due (now s)) (due_same s) 1 s.subs n.board n.links b h.subs_are e in
    let number : 1 + f.place ≡ suc f.place = omega arith in
    let is : IsSub b f.r (suc f.place) (link_of n.links (suc f.place)) = subst (λ (k : ℕ). IsSub b f.r k (link_of n.links k)) number f.is in
    let same : sub ≡ suc f.place = (let both : Some sub ≡ Some (1 + f.place) = sym first ∙ f.first in same_Some sub (1 + f.place) both ∙ number) in
    let at : slice_get s.subs f.place ≡ Some b = f.own in
    let here : first_number (is_due (now s)) n.board ≡ Some (suc f.place) = first ∙ ap (λ (k : ℕ). Some k) same in
    let next : next_of_clock s ≡ clock_action s b = first_is (clock_action s) s.subs ∙ ap (option_and_then (clock_action s)) e in
    let due : is_due (now s) f.r ≡ true
    = sym (due_same s b f.r (suc f.place) (link_of n.links (suc f.place)) is) ∙ found_passes (λ x. is_some (clock_action s x)) s.subs b e in
    subst (λ (k : ℕ). TimesOut k s n ⊎ EndsBackoff k s n) (sym same)
    (step_in s n h f.place b at here next f.r.address f.r.state f.r.dials f.r.again f.r.until f.r.linked f.at is due)

some_by : (s : Seen) (n : NetSeen) (sub : ℕ) (h : Sees s n) (o : Option Subchannel) → first_number (is_due (now s)) n.board ≡ Some sub
    → find (λ x. is_some (clock_action s x)) s.subs ≡ o → option_map (λ (b : Subchannel). b.number) o ≡ Some sub → TimesOut sub s n ⊎ EndsBackoff sub s n
some_by s n sub h None first e same = absurd (cc)
some_by s n sub h (Some b) first e same = found_due s n sub h b first e

pub clock_changes : ClockChanges
clock_changes sub s n h first =
    some_by s n sub h (find (λ x. is_some (clock_action s x)) s.subs) first refl
    (found_same (λ b. is_some (clock_action s b)) (is_due (now s)) (due_same s) 1 s.subs n.board n.links h.subs_are ∙ first)
