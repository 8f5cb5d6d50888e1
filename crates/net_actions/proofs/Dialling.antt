-- What happens to one subchannel, by an event or by the clock, is the same in the session and in the net.
use Rattle.std.proofs.Common.{◌≡◌, ◌||◌, ◌&&◌, ◌==◌, not, ap, refl, subst, sym, ◌∙◌, Bool, true, false, List, Option, None, Some, ℕ, ◌+◌, arith, zero, suc, slice_get, if◌then◌else◌, is_none, is_some}
use Rattle.std.proofs.lemmas.Bool.{eq-eqb}
use Rattle.std.specs.Option.{option_map_or}
use Rattle.grpc_base.specs.declared.address.Address.{Address}
use Rattle.grpc_base.specs.declared.event.Conn.{Conn}
use Rattle.grpc_base.specs.declared.event.Conn.TheVariants as conn
use Rattle.channel_net.proofs.ViewLaws.{KeepsAddress}
use Rattle.channel_net.specs.Lists.{link_of, without}
use Rattle.channel_net.specs.Steps.{NetSeen, board_reported, net_dial_failed, net_down, net_lost, net_ready, owns}
use Rattle.channel_net.specs.declared.links.OwnLink.{OwnLink}
use Rattle.net_actions.proofs.Changing.{Change, changed_sees}
use Rattle.net_actions.proofs.OwnLinks.{none_left, others_left, unlike}
use Rattle.net_actions.proofs.Subs.{Both, SameBut, both_at}
use Rattle.net_actions.specs.Laws.{DialsFail, LinksGo, SettingsCome}
use Rattle.net_actions.specs.Sees.{IsShaped, IsSub, Sees}
use Rattle.session_actions.specs.Links.{wants_resolution}
use Rattle.lb_policy.specs.Table.{is_ready}
use Rattle.session_actions.specs.Subchannels as sub
use Rattle.session_actions.specs.Subchannels.{dial_failed, gone_down, is_dialling, settings_arrived, with_sub, without_link}
use Rattle.session_actions.specs.declared.seen.Seen.{Seen}
use Rattle.session_actions.specs.declared.subchannel.Subchannel.{Subchannel}
use Rattle.subchannel.proofs.StepLaws.{keeps_live-failed, keeps_live-prefaced, keeps_live-lost}
use Rattle.subchannel.specs.Records.{SubRecord, backing_off, failed, prefaced, is_connecting, is_dialing, is_failure, awaits_preface, lost}

pub no_link : (o : Option ℕ) → is_some o ≡ false → o ≡ None
no_link None e = refl
no_link (Some k) e = absurd (cc)

pub none_of : (o : Option ℕ) → is_none o ≡ not (is_some o)
none_of None = refl
none_of (Some k) = refl

both_true : (x y : Bool) → (x && y) ≡ true → (x ≡ true) × (y ≡ true)
both_true true y e = (refl, e)
both_true false y e = absurd (cc)

not_true : (x : Bool) → not x ≡ true → x ≡ false
not_true true e = absurd (cc)
not_true false e = refl

pub or_right : (x y : Bool) → y ≡ true → (x || y) ≡ true
or_right true y e = refl
or_right false y e = e

-- a change of a record under a test
kept_address : (x : Bool) (r q : SubRecord) → q.address ≡ r.address → (if x then q else r).address ≡ r.address
kept_address true r q e = e
kept_address false r q e = refl

keeps_address-failed : KeepsAddress failed
keeps_address-failed r = kept_address (is_dialing r) r (backing_off r) refl

keeps_address-prefaced : KeepsAddress prefaced
keeps_address-prefaced r =
    kept_address (awaits_preface r) r (record r { state = conn.Ready; dials = 0; again = None; until = None }) refl

pub if_true : (x : Bool) (q r : SubRecord) → x ≡ true → (if x then q else r) ≡ q
if_true true q r e = refl
if_true false q r e = absurd (cc)

if_net : (x : Bool) (q r : NetSeen) → x ≡ true → (if x then q else r) ≡ q
if_net true q r e = refl
if_net false q r e = absurd (cc)

-- a dial is under way in the session where it is in the net
dialing_by : (c d : Conn) (u v k l : Option ℕ) (linked : Bool) → c ≡ d → u ≡ v → k ≡ l → is_some l ≡ linked
    → ((is_connecting c && is_some u) && is_none k) ≡ ((is_connecting d && is_some v) && not linked)
dialing_by c d u v k l linked one two three four =
    ap (λ (x : Conn). (is_connecting x && is_some u) && is_none k) one ∙ ap (λ (x : Option ℕ). (is_connecting d && is_some x) && is_none k) two
    ∙ ap (λ (x : Option ℕ). (is_connecting d && is_some v) && is_none x) three
    ∙ ap (λ (x : Bool). (is_connecting d && is_some v) && x) (none_of l ∙ ap not four)

pub connecting_same : (c : Conn) → sub.is_connecting c ≡ is_connecting c
connecting_same conn.Idle = refl
connecting_same conn.Connecting = refl
connecting_same conn.Ready = refl
connecting_same conn.Failure = refl
connecting_same conn.Shutdown = refl

pub dialling_same : (b : Subchannel) (r : SubRecord) (number : ℕ) (link : Option ℕ) → IsSub b r number link → is_dialling b ≡ is_dialing r
dialling_same b r number link is =
    ap (λ (x : Bool). (x && is_some b.until) && is_none b.link) (connecting_same b.state)
    ∙ dialing_by b.state r.state b.until r.until b.link link r.linked is.state is.until is.link_is is.linked

-- a dial fails
failed_is : (b : Subchannel) (r : SubRecord) (number : ℕ) (link : Option ℕ) → is_dialing r ≡ true → IsSub b r number link
    → IsSub (without_link conn.Failure b) (failed r) number link
failed_is b r number link dial is =
    let parts : ((is_connecting r.state && is_some r.until) ≡ true) × (not r.linked ≡ true) = both_true (is_connecting r.state && is_some r.until) (not r.linked) dial in
    let taken : (is_connecting r.state ≡ true) × (is_some r.until ≡ true) = both_true (is_connecting r.state) (is_some r.until) parts.0 in
    let free : is_some link ≡ false = is.linked ∙ not_true r.linked parts.1 in
    let there : IsSub (without_link conn.Failure b) (backing_off r) number link = record {
      number_is = is.number_is;
      address = is.address;
      state = refl;
      dials = is.dials;
      until = refl;
      again = λ e. is.again (or_right (is_failure r.state) (is_some r.until) taken.1);
      link_is = sym (no_link link free);
      linked = free;
      shape = (refl, refl);
    } in
    subst (λ (q : SubRecord). IsSub (without_link conn.Failure b) q number link) (sym (if_true (is_dialing r) (backing_off r) r dial)) there

pub dial_failed_sees : (place : ℕ) (s : Seen) (n : NetSeen) (b : Subchannel) → Sees s n → slice_get s.subs place ≡ Some b → is_dialling b ≡ true
    → Sees (dial_failed (suc place) s) (net_dial_failed (suc place) n)
dial_failed_sees place s n b h e dial =
    let both : Both b n.board place (1 + place) n.links = both_at 1 s.subs n.board n.links place b h.subs_are e in
    let number : 1 + place ≡ suc place = omega arith in
    let is : IsSub b both.r (suc place) (link_of n.links (suc place))
    = subst (λ (k : ℕ). IsSub b both.r k (link_of n.links k)) number both.is in
    let change : Change (without_link conn.Failure) failed place n.links (wants_resolution s) n = record {
      b = b;
      at = e;
      r = both.r;
      there = both.at;
      is = failed_is b both.r (suc place) (link_of n.links (suc place)) (sym (dialling_same b both.r (suc place) (link_of n.links (suc place)) is) ∙ dial) is;
      same = λ k other. refl;
      live = keeps_live-failed;
      address = keeps_address-failed;
    } in
    changed_sees (without_link conn.Failure) failed place n.links (wants_resolution s) n change h

-- the server's SETTINGS come
prefaced_is : (b : Subchannel) (r : SubRecord) (number : ℕ) (link : Option ℕ) → awaits_preface r ≡ true → IsSub b r number link
    → IsSub (record b { state = conn.Ready; dials = 0; until = None }) (prefaced r) number link
prefaced_is b r number link prefaces is =
    let parts : ((is_connecting r.state && is_some r.until) ≡ true) × (r.linked ≡ true) = both_true (is_connecting r.state && is_some r.until) r.linked prefaces in
    let there : IsSub (record b { state = conn.Ready; dials = 0; until = None }) (record r { state = conn.Ready; dials = 0; again = None; until = None }) number link = record {
      number_is = is.number_is;
      address = is.address;
      state = refl;
      dials = refl;
      until = refl;
      again = λ e. absurd (cc);
      link_is = is.link_is;
      linked = is.linked;
      shape = (refl, parts.1);
    } in
    subst (λ (q : SubRecord). IsSub (record b { state = conn.Ready; dials = 0; until = None }) q number link)
    (sym (if_true (awaits_preface r) (record r { state = conn.Ready; dials = 0; again = None; until = None }) r prefaces)) there

-- a subchannel of a place, in both
pub here : (place : ℕ) (s : Seen) (n : NetSeen) (b : Subchannel) → Sees s n → slice_get s.subs place ≡ Some b → Both b n.board place (suc place) n.links
here place s n b h e =
    let both : Both b n.board place (1 + place) n.links = both_at 1 s.subs n.board n.links place b h.subs_are e in
    let number : 1 + place ≡ suc place = omega arith in
    subst (λ (k : ℕ). Both b n.board place k n.links) number both

-- the link that is the subchannel's own
owned : (links : List OwnLink) (number link : ℕ) (linked : Bool) (o : Option ℕ) → o ≡ Some link → is_some o ≡ linked → linked ≡ true
owned links number link linked o e f = (cc)

owns_is : (o : Option ℕ) (link : ℕ) → o ≡ Some link → (link == link) ≡ true → option_map_or (λ (own : ℕ). own == link) o false ≡ true
owns_is o link e f = ap (λ (x : Option ℕ). option_map_or (λ (own : ℕ). own == link) x false) e ∙ f

awaiting_preface_of : (c : Conn) (until : Option ℕ) (linked : Bool) → IsShaped c until linked → is_connecting c ≡ true → linked ≡ true
    → ((is_connecting c && is_some until) && linked) ≡ true
awaiting_preface_of conn.Connecting None linked shape c l = absurd (cc)
awaiting_preface_of conn.Connecting (Some t) linked shape c l = l
awaiting_preface_of conn.Idle until linked shape c l = absurd (cc)
awaiting_preface_of conn.Ready until linked shape c l = absurd (cc)
awaiting_preface_of conn.Failure until linked shape c l = absurd (cc)
awaiting_preface_of conn.Shutdown until linked shape c l = absurd (cc)

pub settings_arrived_sees : (place link : ℕ) (s : Seen) (n : NetSeen) (b : Subchannel) → Sees s n → slice_get s.subs place ≡ Some b
    → sub.is_connecting b.state ≡ true → b.link ≡ Some link → Sees (settings_arrived (suc place) s) (net_ready (suc place) link n)
settings_arrived_sees place link s n b h e c l =
    let both : Both b n.board place (suc place) n.links = here place s n b h e in
    let own : link_of n.links (suc place) ≡ Some link = sym both.is.link_is ∙ l in
    let linked : both.r.linked ≡ true = owned n.links (suc place) link both.r.linked (link_of n.links (suc place)) own both.is.linked in
    let connecting : is_connecting both.r.state ≡ true = sym (ap is_connecting both.is.state) ∙ sym (connecting_same b.state) ∙ c in
    let prefaces : awaits_preface both.r ≡ true = awaiting_preface_of both.r.state both.r.until both.r.linked both.is.shape connecting linked in
    let change : Change (λ (x : Subchannel). record x { state = conn.Ready; dials = 0; until = None }) prefaced place n.links s n = record {
      b = b;
      at = e;
      r = both.r;
      there = both.at;
      is = prefaced_is b both.r (suc place) (link_of n.links (suc place)) prefaces both.is;
      same = λ k other. refl;
      live = keeps_live-prefaced;
      address = keeps_address-prefaced;
    } in
    let after : Sees (settings_arrived (suc place) s) (board_reported prefaced (suc place) n)
    = changed_sees (λ (x : Subchannel). record x { state = conn.Ready; dials = 0; until = None }) prefaced place n.links s n change h in
    subst (λ (m : NetSeen). Sees (settings_arrived (suc place) s) m)
    (sym (if_net (owns (suc place) link n) (board_reported prefaced (suc place) n) n (owns_is (link_of n.links (suc place)) link own (eq-eqb link link refl)))) after

-- its link goes
lost_in : (b : Subchannel) (a : Address) (c : Conn) (dials : ℕ) (again until : Option ℕ) (linked : Bool) (number : ℕ) (link : Option ℕ) → linked ≡ true
    → IsSub b (record { address = a; state = c; dials = dials; again = again; until = until; linked = linked }) number link
    → IsSub (gone_down b) (lost (record { address = a; state = c; dials = dials; again = again; until = until; linked = linked })) number None
lost_in b a conn.Idle dials again until linked number link has is = absurd (let no_one : ⊥ = (let f : linked ≡ false = is.shape.1 in (cc)) in no_one)
lost_in b a conn.Connecting dials again None linked number link has is = absurd (let no_one : ⊥ = (let f : linked ≡ false = is.shape in (cc)) in no_one)
lost_in b a conn.Connecting dials again (Some t) false number link has is = absurd (cc)
lost_in b a conn.Connecting dials again (Some t) true number link has is = record {
  number_is = is.number_is;
  address = is.address;
  state = ap (λ (x : Conn). if is_ready x then conn.Idle else conn.Failure) is.state;
  dials = is.dials;
  until = refl;
  again = λ e. is.again refl;
  link_is = refl;
  linked = refl;
  shape = (refl, refl);
}
lost_in b a conn.Ready dials again until linked number link has is = record {
  number_is = is.number_is;
  address = is.address;
  state = ap (λ (x : Conn). if is_ready x then conn.Idle else conn.Failure) is.state;
  dials = is.dials;
  until = sym is.shape.0;
  again = λ e. absurd (let no_one : ⊥ = (let f : until ≡ None = is.shape.0 in (cc)) in no_one);
  link_is = refl;
  linked = refl;
  shape = (is.shape.0, refl);
}
lost_in b a conn.Failure dials again until linked number link has is = absurd (let no_one : ⊥ = (let f : linked ≡ false = is.shape.1 in (cc)) in no_one)
lost_in b a conn.Shutdown dials again until linked number link has is = absurd (let no_one : ⊥ = (let f : linked ≡ false = is.shape.1 in (cc)) in no_one)

pub stays_but : (place : ℕ) (links : List OwnLink) → SameBut (suc place) links (without (suc place) links)
stays_but place links k other = sym (others_left links (suc place) k (unlike k (suc place) other))

kept_address_by : (x y : Bool) (r q p : SubRecord) → q.address ≡ r.address → p.address ≡ r.address
    → (if x then q else (if y then p else r)).address ≡ r.address
kept_address_by true y r q p e f = e
kept_address_by false true r q p e f = f
kept_address_by false false r q p e f = refl

keeps_address-lost : KeepsAddress lost
keeps_address-lost r =
    kept_address_by (awaits_preface r) (is_ready r.state) r (backing_off r) (record r { state = conn.Idle; linked = false }) refl refl

pub gone_down_sees : (place link : ℕ) (s : Seen) (n : NetSeen) (b : Subchannel) → Sees s n → slice_get s.subs place ≡ Some b
    → b.link ≡ Some link → Sees (with_sub gone_down (suc place) s) (net_down (suc place) link n)
gone_down_sees place link s n b h e l =
    let both : Both b n.board place (suc place) n.links = here place s n b h e in
    let own : link_of n.links (suc place) ≡ Some link = sym both.is.link_is ∙ l in
    let linked : both.r.linked ≡ true = owned n.links (suc place) link both.r.linked (link_of n.links (suc place)) own both.is.linked in
    let gone : IsSub (gone_down b) (lost both.r) (suc place) None
    = lost_in b both.r.address both.r.state both.r.dials both.r.again both.r.until both.r.linked (suc place) (link_of n.links (suc place)) linked both.is in
    let change : Change gone_down lost place (without (suc place) n.links) s n = record {
      b = b;
      at = e;
      r = both.r;
      there = both.at;
      is = subst (λ (o : Option ℕ). IsSub (gone_down b) (lost both.r) (suc place) o) (sym (none_left n.links (suc place))) gone;
      same = stays_but place n.links;
      live = keeps_live-lost;
      address = keeps_address-lost;
    } in
    let after : Sees (with_sub gone_down (suc place) s) (net_lost (suc place) n)
    = changed_sees gone_down lost place (without (suc place) n.links) s n change h in
    subst (λ (m : NetSeen). Sees (with_sub gone_down (suc place) s) m)
    (sym (if_net (owns (suc place) link n) (net_lost (suc place) n) n (owns_is (link_of n.links (suc place)) link own (eq-eqb link link refl)))) after

-- by their numbers
pub dials_fail : DialsFail
dials_fail zero s n b h e dial = absurd (cc)
dials_fail (suc place) s n b h e dial = dial_failed_sees place s n b h e dial

pub settings_come : SettingsCome
settings_come zero link s n b h e c l = absurd (cc)
settings_come (suc place) link s n b h e c l = settings_arrived_sees place link s n b h e c l

pub links_go : LinksGo
links_go zero link s n b h e l = absurd (cc)
links_go (suc place) link s n b h e l = gone_down_sees place link s n b h e l
