-- A dial that is taken, and one that is a link, are the same in the session and in the net.
use Rattle.std.proofs.Common.{◌≡◌, ◌<◌, ◌∷◌, ◌++◌, ◌&&◌, ◌==◌, ap, refl, subst, sym, ◌∙◌, Bool, true, false, List, [], Option, None, Some, ℕ, ◌+◌, arith, zero, suc, slice_get, if◌then◌else◌, is_none, min, max, length}
use Rattle.std.proofs.lemmas.Bool.{eq-eqb, eqb-true}
use Rattle.std.proofs.lemmas.Option.{same_Some}
use Rattle.std.specs.Option.{option_map, option_map_or}
use Rattle.std.specs.Prelude.{find}
use Rattle.grpc_base.specs.Backoff.{connect_least, connect_wait}
use Rattle.grpc_base.specs.declared.address.Address.{Address}
use Rattle.grpc_base.specs.declared.event.Conn.{Conn}
use Rattle.grpc_base.specs.declared.event.Conn.TheVariants as conn
use Rattle.channel_net.proofs.ViewLaws.{KeepsAddress}
use Rattle.channel_net.specs.Lists.{link_of}
use Rattle.channel_net.specs.Steps.{NetSeen, board_dialed, net_dialed, net_up}
use Rattle.channel_net.specs.declared.links.OwnLink.{OwnLink}
use Rattle.net_actions.proofs.Changing.{Change}
use Rattle.net_actions.proofs.Dialling.{connecting_same, dialling_same, here, no_link, none_of}
use Rattle.net_actions.proofs.Noting.{found_passes}
use Rattle.net_actions.proofs.OwnLinks.{new_is, other_stays, unlike}
use Rattle.net_actions.proofs.Staying.{net_still, still_sees}
use Rattle.net_actions.proofs.Subs.{Both, SameBut, SaysSame, found_same}
use Rattle.net_actions.proofs.Views.{Found, found_in}
use Rattle.net_actions.specs.Laws.{DialCountsFit, DialsAreLinks, DialsAreTaken, IsTaken, NoneToDial}
use Rattle.net_actions.specs.Sees.{IsSub, Sees}
use Rattle.session_actions.specs.Subchannels.{dial_action, dial_taken_of, is_dialling, link_up, new_link, with_dial, with_sub}
use Rattle.session_actions.specs.Entries.{next_word, now}
use Rattle.session_actions.specs.Subchannels as sub
use Rattle.session_actions.specs.declared.seen.Seen.{Seen}
use Rattle.session_actions.specs.declared.subchannel.Subchannel.{Subchannel}
use Rattle.grpc_base.specs.declared.event.Reply.TheVariants as reply
use Rattle.session_actions.specs.declared.action.Action.TheVariants as action
use Rattle.subchannel.proofs.StepLaws.{keeps_live-dialed, keeps_live-linked_up}
use Rattle.subchannel.specs.Boards.{first_number}
use Rattle.subchannel.specs.Records.{SubRecord, again_after, dialed, is_connecting, is_dialable, is_dialing, linked_up, next_dials, until_after}

state_if : (x : Bool) (q r : SubRecord) → q.state ≡ r.state → (if x then q else r).state ≡ r.state
state_if true q r e = e
state_if false q r e = refl

address_if : (x : Bool) (q r : SubRecord) → q.address ≡ r.address → (if x then q else r).address ≡ r.address
address_if true q r e = e
address_if false q r e = refl

keeps_state-linked_up : (r : SubRecord) → (linked_up r).state ≡ r.state
keeps_state-linked_up r = state_if (is_dialing r) (record r { linked = true }) r refl

keeps_address-linked_up : KeepsAddress linked_up
keeps_address-linked_up r = address_if (is_dialing r) (record r { linked = true }) r refl

-- with a link
up_in : (k : ℕ) (b : Subchannel) (a : Address) (c : Conn) (dials : ℕ) (again until : Option ℕ) (linked : Bool) (number : ℕ) (link : Option ℕ)
    → is_dialing (record { address = a; state = c; dials = dials; again = again; until = until; linked = linked }) ≡ true
    → IsSub b (record { address = a; state = c; dials = dials; again = again; until = until; linked = linked }) number link
    → (IsSub (record b { link = Some k }) (linked_up (record { address = a; state = c; dials = dials; again = again; until = until; linked = linked })) number (Some k))
    × (link ≡ None) × (b.state ≡ conn.Connecting)
up_in k b a conn.Connecting dials again (Some t) false number link dial is = (
  record {
    number_is = is.number_is;
    address = is.address;
    state = is.state;
    dials = is.dials;
    until = is.until;
    again = is.again;
    link_is = refl;
    linked = refl;
    shape = tt;
  },
  no_link link is.linked,
  is.state,
)
up_in k b a conn.Connecting dials again None linked number link dial is = absurd (cc)
up_in k b a conn.Connecting dials again (Some t) true number link dial is = absurd (cc)
up_in k b a conn.Idle dials again until linked number link dial is = absurd (cc)
up_in k b a conn.Ready dials again until linked number link dial is = absurd (cc)
up_in k b a conn.Failure dials again until linked number link dial is = absurd (cc)
up_in k b a conn.Shutdown dials again until linked number link dial is = absurd (cc)

more_links : (links : List OwnLink) (number link : ℕ) → SameBut number links (links ++ record { sub = number; link = link } ∷ [])
more_links links number link k other =
    sym (other_stays links number link k (unlike k number other) (unlike number k (λ e. other (sym e))))

link_up_sees : (place : ℕ) (s : Seen) (n : NetSeen) (b : Subchannel) → Sees s n → slice_get s.subs place ≡ Some b → is_dialling b ≡ true
    → Sees (link_up (suc place) s) (net_up (suc place) (length s.links + 1) n)
link_up_sees place s n b h e dial =
    let k : ℕ = length s.links + 1 in
    let v : Seen = record s { links = s.links ++ new_link k (suc place) s ∷ [] } in
    let both : Both b n.board place (suc place) n.links = here place s n b h e in
    let r : SubRecord = both.r in
    let dials : is_dialing r ≡ true = sym (dialling_same b r (suc place) (link_of n.links (suc place)) both.is) ∙ dial in
    let up : (IsSub (record b { link = Some k }) (linked_up r) (suc place) (Some k)) × (link_of n.links (suc place) ≡ None) × (b.state ≡ conn.Connecting)
    = up_in k b r.address r.state r.dials r.again r.until r.linked (suc place) (link_of n.links (suc place)) dials both.is in
    let others : List OwnLink = n.links ++ record { sub = suc place; link = k } ∷ [] in
    let own : link_of others (suc place) ≡ Some k = new_is n.links (suc place) k up.1 (eq-eqb (suc place) (suc place) refl) in
    let change : Change (λ (x : Subchannel). record x { link = Some k }) linked_up place others v n = record {
      b = b;
      at = e;
      r = r;
      there = both.at;
      is = subst (λ (o : Option ℕ). IsSub (record b { link = Some k }) (linked_up r) (suc place) o) (sym own) up.0;
      same = more_links n.links (suc place) k;
      live = keeps_live-linked_up;
      address = keeps_address-linked_up;
    } in
    still_sees (λ (x : Subchannel). record x { link = Some k }) linked_up place others v n change keeps_state-linked_up up.2 h

pub dials_are_links : DialsAreLinks
dials_are_links zero s n b h e dial = absurd (cc)
dials_are_links (suc place) s n b h e dial = link_up_sees place s n b h e dial

-- a dial is taken
wait_by : (d word : ℕ) (x : Bool) → (d == 0) ≡ x → connect_wait (d + 1) (if x then 0 else word) ≡ connect_wait (d + 1) word
wait_by d word true e =
    let none : d ≡ 0 = eqb-true d 0 e in
    subst (λ (k : ℕ). connect_wait (k + 1) 0 ≡ connect_wait (k + 1) word) (sym none) refl
wait_by d word false e = refl

one_more : (d : ℕ) → d < 4294967295 → d + 1 ≡ min (d + 1) 4294967295
one_more d h = omega arith

later : (m w : ℕ) → m + max w connect_least ≡ max (m + w) (m + connect_least)
later m w = omega arith

dialable_same : SaysSame sub.is_dialable is_dialable
dialable_same b r number link is =
    ap (λ (x : Bool). x && is_none b.until) (connecting_same b.state) ∙ ap (λ (c : Conn). is_connecting c && is_none b.until) is.state
    ∙ ap (λ (o : Option ℕ). is_connecting r.state && is_none o) is.until ∙ ap (λ (x : Bool). is_connecting r.state && x) (none_of r.until)

keeps_state-dialed : (m w : ℕ) (r : SubRecord) → (dialed m w r).state ≡ r.state
keeps_state-dialed m w r =
    state_if (is_dialable r) (record r { dials = next_dials r; again = Some (again_after r m w); until = Some (until_after r m w) }) r refl

keeps_address-dialed : (m w : ℕ) → KeepsAddress (dialed m w)
keeps_address-dialed m w r =
    address_if (is_dialable r) (record r { dials = next_dials r; again = Some (again_after r m w); until = Some (until_after r m w) }) r refl

wait_same : (s : Seen) (b : Subchannel) (r : SubRecord) → b.dials ≡ r.dials → r.dials < 4294967295 → sub.dial_wait b s ≡ connect_wait (next_dials r) (next_word s)
wait_same s b r e few =
    wait_by b.dials (next_word s) (b.dials == 0) refl ∙ ap (λ (d : ℕ). connect_wait (d + 1) (next_word s)) e
    ∙ ap (λ (k : ℕ). connect_wait k (next_word s)) (one_more r.dials few)

dialed_in : (s : Seen) (b : Subchannel) (a : Address) (c : Conn) (dials : ℕ) (again until : Option ℕ) (linked : Bool) (number : ℕ) (link : Option ℕ)
    → is_dialable (record { address = a; state = c; dials = dials; again = again; until = until; linked = linked }) ≡ true → dials < 4294967295
    → IsSub b (record { address = a; state = c; dials = dials; again = again; until = until; linked = linked }) number link
    → (IsSub (with_dial (now s + sub.dial_wait b s) (now s + max (sub.dial_wait b s) connect_least) b)
    (dialed (now s) (next_word s) (record { address = a; state = c; dials = dials; again = again; until = until; linked = linked })) number link)
    × (b.state ≡ conn.Connecting)
dialed_in s b a conn.Connecting dials again None linked number link dial few is =
    let r : SubRecord = record { address = a; state = conn.Connecting; dials = dials; again = again; until = None; linked = linked } in
    let wait : sub.dial_wait b s ≡ connect_wait (next_dials r) (next_word s) = wait_same s b r is.dials few in (
      record {
        number_is = is.number_is;
        address = is.address;
        state = is.state;
        dials = ap (λ (d : ℕ). d + 1) is.dials ∙ one_more dials few;
        until = ap (λ (w : ℕ). Some (now s + max w connect_least)) wait ∙ ap (λ (t : ℕ). Some t) (later (now s) (connect_wait (next_dials r) (next_word s)));
        again = λ e. ap (λ (w : ℕ). Some (now s + w)) wait;
        link_is = is.link_is;
        linked = is.linked;
        shape = tt;
      },
      is.state,
    )
dialed_in s b a conn.Connecting dials again (Some t) linked number link dial few is = absurd (cc)
dialed_in s b a conn.Idle dials again until linked number link dial few is = absurd (cc)
dialed_in s b a conn.Ready dials again until linked number link dial few is = absurd (cc)
dialed_in s b a conn.Failure dials again until linked number link dial few is = absurd (cc)
dialed_in s b a conn.Shutdown dials again until linked number link dial few is = absurd (cc)

dialed_is : (m w place : ℕ) (n : NetSeen) → first_number is_dialable n.board ≡ Some (suc place) → net_dialed m w n ≡ net_still (dialed m w) place n.links n
dialed_is m w place n e = ap (λ (o : Option ℕ). record n { board = board_dialed m w o n.board }) e

taken_at : (s : Seen) (n : NetSeen) (b : Subchannel) (h : Sees s n) (place : ℕ) → slice_get s.subs place ≡ Some b → b.dials < 4294967295
    → find sub.is_dialable s.subs ≡ Some b → first_number is_dialable n.board ≡ Some (suc place) → IsTaken (suc place) s n
taken_at s n b h place at few e first =
    let both : Both b n.board place (suc place) n.links = here place s n b h at in
    let r : SubRecord = both.r in
    let again : ℕ = now s + sub.dial_wait b s in
    let until : ℕ = now s + max (sub.dial_wait b s) connect_least in
    let dials : is_dialable r ≡ true
    = sym (dialable_same b r (suc place) (link_of n.links (suc place)) both.is) ∙ found_passes sub.is_dialable s.subs b e in
    let dialed_one : (IsSub (with_dial again until b) (dialed (now s) (next_word s) r) (suc place) (link_of n.links (suc place))) × (b.state ≡ conn.Connecting)
    = dialed_in s b r.address r.state r.dials r.again r.until r.linked (suc place) (link_of n.links (suc place)) dials
    (subst (λ (d : ℕ). d < 4294967295) both.is.dials few) both.is in
    let change : Change (with_dial again until) (dialed (now s) (next_word s)) place n.links s n = record {
      b = b;
      at = at;
      r = r;
      there = both.at;
      is = dialed_one.0;
      same = λ k other. refl;
      live = keeps_live-dialed (now s) (next_word s);
      address = keeps_address-dialed (now s) (next_word s);
    } in
    let after : Sees (with_sub (with_dial again until) (suc place) s) (net_still (dialed (now s) (next_word s)) place n.links n)
    = still_sees (with_dial again until) (dialed (now s) (next_word s)) place n.links s n change (keeps_state-dialed (now s) (next_word s)) dialed_one.1 h in
    let net : Sees (with_sub (with_dial again until) (suc place) s) (net_dialed (now s) (next_word s) n)
    = subst (λ (m : NetSeen). Sees (with_sub (with_dial again until) (suc place) s) m) (sym (dialed_is (now s) (next_word s) place n first)) after in
    let named : Sees (with_sub (with_dial again until) b.number s) (net_dialed (now s) (next_word s) n)
    = subst (λ (k : ℕ). Sees (with_sub (with_dial again until) k s) (net_dialed (now s) (next_word s) n)) (sym both.is.number_is) net in
    record {
      again = again;
      until = until;
      next = ap (λ (o : Option Subchannel). option_map_or (dial_action s) o (action.EventAnswered reply.NotYet)) e
          ∙ ap (λ (k : ℕ). action.DialTaken k again until) both.is.number_is;
      sees = subst (λ (o : Option Subchannel). Sees (option_map_or (dial_taken_of again until s) o s) (net_dialed (now s) (next_word s) n)) (sym at) named;
    }

few_of : (subs : List Subchannel) (place : ℕ) (b : Subchannel) → DialCountsFit subs → slice_get subs place ≡ Some b → b.dials < 4294967295
few_of [] place b few e = absurd (cc)
few_of (c ∷ subs) zero b few e = let one : c ≡ b = (cc) in subst (λ (x : Subchannel). x.dials < 4294967295) one few.0
few_of (c ∷ subs) (suc place) b few e = few_of subs place b few.1 e

taken_by : (number : ℕ) (s : Seen) (n : NetSeen) (h : Sees s n) (o : Option Subchannel) → DialCountsFit s.subs → first_number is_dialable n.board ≡ Some number
    → find sub.is_dialable s.subs ≡ o → option_map (λ (b : Subchannel). b.number) o ≡ Some number → IsTaken number s n
taken_by number s n h None few first e same = absurd (cc)
taken_by number s n h (Some b) few first e same =
    let f : Found b is_dialable 1 s.subs n.board n.links = found_in sub.is_dialable is_dialable dialable_same 1 s.subs n.board n.links b h.subs_are e in
    let is_number : 1 + f.place ≡ suc f.place = omega arith in
    let one : number ≡ suc f.place = (let both : Some number ≡ Some (1 + f.place) = sym first ∙ f.first in same_Some number (1 + f.place) both ∙ is_number) in
    subst (λ (k : ℕ). IsTaken k s n) (sym one)
    (taken_at s n b h f.place f.own (few_of s.subs f.place b few f.own) e (first ∙ ap (λ (k : ℕ). Some k) one))

pub dials_are_taken : DialsAreTaken
dials_are_taken number s n h few first =
    taken_by number s n h (find sub.is_dialable s.subs) few first refl
    (found_same sub.is_dialable is_dialable dialable_same 1 s.subs n.board n.links h.subs_are ∙ first)

none_taken : (s : Seen) (o : Option Subchannel) → option_map (λ (b : Subchannel). b.number) o ≡ None
    → option_map_or (dial_action s) o (action.EventAnswered reply.NotYet) ≡ action.EventAnswered reply.NotYet
none_taken s None e = refl
none_taken s (Some b) e = absurd (cc)

pub none_to_dial : NoneToDial
none_to_dial s n h none =
    none_taken s (find sub.is_dialable s.subs) (found_same sub.is_dialable is_dialable dialable_same 1 s.subs n.board n.links h.subs_are ∙ none)
