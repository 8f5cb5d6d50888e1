-- What becomes of subchannels, and which lines that leaves still.
use Rattle.std.proofs.Common.{◌≡◌, ◌&&◌, ◌==◌, not, ap, refl, subst, sym, ◌∙◌, Bool, true, false, List, Option, None, Some, ℕ, find, is_none, is_some, map}
use Rattle.std.proofs.lemmas.Bool.{and_parts, or_parts}
use Rattle.std.specs.List.{list_any}
use Rattle.std.specs.Option.{option_map_or}
use Rattle.grpc_base.specs.declared.address.Address.{Address}
use Rattle.grpc_base.specs.declared.event.Conn.{Conn}
use Rattle.grpc_base.specs.declared.kind.Pick.{Pick}
use Rattle.session_actions.specs.Entries.{entry}
use Rattle.session_actions.specs.Links.{wants_resolution}
use Rattle.session_actions.specs.Policies.{is_failure, is_live_sub, is_same_address, is_shutdown, listed, live_sub}
use Rattle.session_actions.specs.Subchannels.{in_state, is_connecting, is_dialling, is_idle, is_to_be_ready, is_to_go_down, is_unlisted, noted_by_policies, with_dial, with_sub, without_link}
use Rattle.session_actions.specs.Words.{changed, holds, last_of, numbered}
use Rattle.session_actions.specs.declared.entry.OpenEntry.{OpenEntry}
use Rattle.session_actions.specs.declared.policy.PolicyUse.{PolicyUse}
use Rattle.session_actions.specs.declared.seen.Seen.{Seen}
use Rattle.session_actions.specs.declared.subchannel.Subchannel.{Subchannel}
use Rattle.session_order.proofs.Aside.{aside_final, aside_request}
use Rattle.session_order.proofs.Changed.{any_changed_at, lookup, none_changed, passes_not}
use Rattle.session_order.proofs.Lists.{any_same, holds_same, some_find}
use Rattle.session_order.proofs.Noted.{failed_in_notes, noted_add, noted_begin, noted_drop, noted_give, noted_retire, notes_are, noting}
use Rattle.session_order.proofs.Posts.{plain_answered, plain_as, plain_failed, wanted_still}
use Rattle.session_order.specs.Quiescent.{IsStill, can_follow, is_link_new, is_to_follow_pick, is_unplaced}
use Rattle.session_order.specs.Laws.{StirsOnly}
use Rattle.session_order.specs.declared.line.Line.{Line}
use Rattle.session_actions.specs.declared.action.Action.TheVariants as action
use Rattle.grpc_base.specs.declared.event.Conn.TheVariants as conn
use Rattle.grpc_base.specs.declared.event.Event.TheVariants as event
use Rattle.session_order.specs.declared.line.Line.TheVariants as line
use Rattle.grpc_base.specs.declared.kind.Pick.TheVariants as pick
use Rattle.grpc_base.specs.declared.event.Reply.TheVariants as reply

-- what policies note leaves all lines still
pub noted_still : (s : Seen) (failed : PolicyUse → List ℕ) (l : Line) (o : OpenEntry) → IsStill l o s
    → IsStill l o (record s { policies = map (noting failed) s.policies })
noted_still s failed line.Cut o h = h
noted_still s failed line.Transparent o h = h
noted_still s failed line.Inherited o h = h
noted_still s failed line.Row o h = h
noted_still s failed line.Final o h = aside_final s (record s { policies = map (noting failed) s.policies }) ∙ h
noted_still s failed line.Cancelled o h = h
noted_still s failed line.Request o h = aside_request o s (record s { policies = map (noting failed) s.policies }) ∙ h
noted_still s failed line.Overflow o h = h
noted_still s failed line.Head o h = h
noted_still s failed line.Response o h = h
noted_still s failed line.Pick o h = h
noted_still s failed line.Link o h = h
noted_still s failed line.WireEnd o h = h
noted_still s failed line.Reset o h = h
noted_still s failed line.Shut o h = h
noted_still s failed line.Retire o h = noted_retire s failed o ∙ h
noted_still s failed line.Begin o h = noted_begin s failed o ∙ h
noted_still s failed line.Give o h = noted_give s failed o ∙ h
noted_still s failed line.Drop o h = noted_drop s failed ∙ h
noted_still s failed line.Add o h = noted_add s failed ∙ h

is_live_as : (address : Address) (b c : Subchannel) → b.address ≡ c.address → is_shutdown b.state ≡ is_shutdown c.state
    → is_live_sub address b ≡ is_live_sub address c
is_live_as address b c e f =
    ap (λ (a : Address). is_same_address a address && not (is_shutdown b.state)) e
    ∙ ap (λ (x : Bool). is_same_address c.address address && not x) f

none_as : {X : Type 0} (o : Option X) → is_none o ≡ not (is_some o)
none_as None = refl
none_as (Some x) = refl

none_found : {X : Type 0} (test : X → Bool) (xs ys : List X) → list_any test xs ≡ list_any test ys → is_none (find test xs) ≡ is_none (find test ys)
none_found test xs ys e =
    none_as (find test xs) ∙ ap (λ (b : Bool). not b) (some_find test xs ∙ e ∙ sym (some_find test ys)) ∙ sym (none_as (find test ys))

-- one subchannel is another one now
module _ (s : Seen) (n : ℕ) (f : Subchannel → Subchannel) where
  abbrev t : Seen
  t = record s { subs = changed f n s.subs }

  can_same : (p : Pick) → can_follow t p ≡ can_follow s p
  can_same (pick.Place sub) = lookup is_some f (λ b. refl) n s.subs sub
  can_same pick.Fail = refl
  can_same pick.Wait = refl

  pub sub_pick : holds (is_to_follow_pick t) (last_of s.asks) ≡ holds (is_to_follow_pick s) (last_of s.asks)
  sub_pick =
      holds_same (is_to_follow_pick t) (is_to_follow_pick s)
      (λ ask. ap (λ (b : Bool). is_unplaced s ask.row && (ask.entry == entry s) && b) (can_same ask.answer)) (last_of s.asks)

  pub sub_add : ((address : Address) (b : Subchannel) → numbered s.subs n ≡ Some b → is_live_sub address (f b) ≡ is_live_sub address b)
      → list_any (λ (address : Address). is_none (live_sub t address)) (listed s) ≡ list_any (λ (address : Address). is_none (live_sub s address)) (listed s)
  sub_add same =
      any_same (λ (address : Address). is_none (live_sub t address)) (λ (address : Address). is_none (live_sub s address))
      (λ address. none_found (is_live_sub address) (changed f n s.subs) s.subs (any_changed_at (is_live_sub address) f n s.subs (same address))) (listed s)

-- which one stays as live and as listed as before, and has nothing new of its link
pub record StaysLive (s : Seen) (n : ℕ) (f : Subchannel → Subchannel) : Type 0 where
  pub address : (b : Subchannel) → (f b).address ≡ b.address
  pub shut : (b : Subchannel) → numbered s.subs n ≡ Some b → is_shutdown (f b).state ≡ is_shutdown b.state
  pub link : (b : Subchannel) → numbered s.subs n ≡ Some b → is_link_new s b ≡ false → is_link_new s (f b) ≡ false

unlisted_as : (s : Seen) (b c : Subchannel) → b.address ≡ c.address → is_shutdown b.state ≡ is_shutdown c.state → is_unlisted s b ≡ is_unlisted s c
unlisted_as s b c e f =
    ap (λ (a : Address). not (is_shutdown b.state) && not (list_any (is_same_address a) (listed s))) e
    ∙ ap (λ (x : Bool). not x && not (list_any (is_same_address c.address) (listed s))) f

sub_still : (s : Seen) (n : ℕ) (f : Subchannel → Subchannel) → StaysLive s n f → (l : Line) (o : OpenEntry) → IsStill l o s
    → IsStill l o (record s { subs = changed f n s.subs })
sub_still s n f k line.Cut o h = h
sub_still s n f k line.Transparent o h = h
sub_still s n f k line.Inherited o h = h
sub_still s n f k line.Row o h = h
sub_still s n f k line.Final o h = aside_final s (record s { subs = changed f n s.subs }) ∙ h
sub_still s n f k line.Cancelled o h = h
sub_still s n f k line.Request o h = aside_request o s (record s { subs = changed f n s.subs }) ∙ h
sub_still s n f k line.Overflow o h = h
sub_still s n f k line.Head o h = h
sub_still s n f k line.Response o h = h
sub_still s n f k line.Pick o h = sub_pick s n f ∙ h
sub_still s n f k line.Link o h = none_changed (is_link_new s) f n s.subs (λ b e. k.link b e (passes_not (is_link_new s) s.subs n b h e)) h
sub_still s n f k line.WireEnd o h = h
sub_still s n f k line.Reset o h = h
sub_still s n f k line.Shut o h = h
sub_still s n f k line.Retire o h = h
sub_still s n f k line.Begin o h = h
sub_still s n f k line.Give o h = h
sub_still s n f k line.Drop o h = any_changed_at (is_unlisted s) f n s.subs (λ b e. unlisted_as s (f b) b (k.address b) (k.shut b e)) ∙ h
sub_still s n f k line.Add o h = sub_add s n f (λ address b e. is_live_as address (f b) b (k.address b) (k.shut b e)) ∙ h

noted_if : (u : Seen) (l : Line) (o : OpenEntry) (b : Option Subchannel) → IsStill l o u → IsStill l o (option_map_or (λ (x : Subchannel). noted_by_policies x u) b u)
noted_if u l o None h = h
noted_if u l o (Some b) h =
    subst (λ (x : Seen). IsStill l o x) (sym (notes_are u b)) (noted_still u (failed_in_notes u b) l o h)

pub with_sub_still : (s : Seen) (n : ℕ) (f : Subchannel → Subchannel) → StaysLive s n f → (l : Line) (o : OpenEntry) → IsStill l o s
    → IsStill l o (with_sub f n s)
with_sub_still s n f k l o h =
    noted_if (record s { subs = changed f n s.subs }) l o (numbered (changed f n s.subs) n) (sub_still s n f k l o h)

-- the open entry is not theirs
current_if : (u : Seen) (b : Option Subchannel) → (option_map_or (λ (x : Subchannel). noted_by_policies x u) b u).current ≡ u.current
current_if u None = refl
current_if u (Some b) = refl

pub with_sub_current : (s : Seen) (n : ℕ) (f : Subchannel → Subchannel) → (with_sub f n s).current ≡ s.current
with_sub_current s n f = current_if (record s { subs = changed f n s.subs }) (numbered (changed f n s.subs) n)

-- states
pub connecting_live : (c : Conn) → is_connecting c ≡ true → is_shutdown c ≡ false
connecting_live conn.Connecting e = refl
connecting_live conn.Shutdown e = absurd (cc)
connecting_live c e = refl

idle_live : (c : Conn) → is_idle c ≡ true → is_shutdown c ≡ false
idle_live conn.Shutdown e = absurd (cc)
idle_live c e = refl

failure_live : (c : Conn) → is_failure c ≡ true → is_shutdown c ≡ false
failure_live conn.Shutdown e = absurd (cc)
failure_live c e = refl

pub same_sub : (b c : Subchannel) (o : Option Subchannel) → o ≡ Some b → o ≡ Some c → b ≡ c
same_sub b c o e f = (cc)

fails_live : (s : Seen) (n : ℕ) (b : Subchannel) → numbered s.subs n ≡ Some b → is_dialling b ≡ true → StaysLive s n (without_link conn.Failure)
fails_live s n b e h = record {
  address = λ c. refl;
  shut = λ c f.
      sym (ap (λ (x : Subchannel). is_shutdown x.state) (same_sub c b (numbered s.subs n) f e)
      ∙ connecting_live b.state (and_parts (is_connecting b.state) (is_some b.until) (and_parts (is_connecting b.state && is_some b.until) (is_none b.link) h).0).0);
  link = λ c f g. refl;
}

pub failed_leaves : (sub : ℕ) → StirsOnly (action.DialFails sub)
failed_leaves sub o s e fits l p is not_stirred h =
    let u : Seen = wants_resolution s in
    let k : StaysLive u sub (without_link conn.Failure) = fails_live u sub fits.1 fits.2 fits.3 in
    plain_answered reply.Done o (with_sub (without_link conn.Failure) sub u) (with_sub_current u sub (without_link conn.Failure) ∙ e)
    (plain_as o.event (event.DialFailed sub) fits.0 (plain_failed sub)) l
    (with_sub_still u sub (without_link conn.Failure) k l o (wanted_still s l o h)) p is

connects_live : (s : Seen) (n : ℕ) (b : Subchannel) → numbered s.subs n ≡ Some b → is_idle b.state ≡ true → b.link ≡ None
    → StaysLive s n (in_state conn.Connecting)
connects_live s n b e idle none = record {
  address = λ c. refl;
  shut = λ c f. sym (ap (λ (x : Subchannel). is_shutdown x.state) (same_sub c b (numbered s.subs n) f e) ∙ idle_live b.state idle);
  link = λ c f g.
      ap (λ (x : Option ℕ). is_link_new s (record c { state = conn.Connecting; link = x })) (ap (λ (x : Subchannel). x.link) (same_sub c b (numbered s.subs n) f e) ∙ none);
}

same_entry : (o p : OpenEntry) (c : Option OpenEntry) → c ≡ Some o → c ≡ Some p → o ≡ p
same_entry o p c e f = (cc)

-- an action that leaves the entry alone
pub goes_on : (o : OpenEntry) (t : Seen) → t.current ≡ Some o → (l : Line) → IsStill l o t → (p : OpenEntry) → t.current ≡ Some p → IsStill l p t
goes_on o t e l h p is = subst (λ (x : OpenEntry). IsStill l x t) (same_entry o p t.current e is) h

pub connects_leaves : (sub : ℕ) → StirsOnly (action.SubchannelConnects sub)
connects_leaves sub o s e fits l p is not_stirred h =
    goes_on o (with_sub (in_state conn.Connecting) sub s) (with_sub_current s sub (in_state conn.Connecting) ∙ e) l
    (with_sub_still s sub (in_state conn.Connecting) (connects_live s sub fits.0 fits.1 fits.2 fits.3) l o h) p is

rests_live : (s : Seen) (n : ℕ) (b : Subchannel) → numbered s.subs n ≡ Some b → is_failure b.state ≡ true → StaysLive s n (in_state conn.Idle)
rests_live s n b e failed = record {
  address = λ c. refl;
  shut = λ c f. sym (ap (λ (x : Subchannel). is_shutdown x.state) (same_sub c b (numbered s.subs n) f e) ∙ failure_live b.state failed);
  link = λ c f g. (or_parts (is_to_be_ready s c) (is_to_go_down s c) g).1;
}

pub rests_leaves : (sub : ℕ) → StirsOnly (action.BackoffEnds sub)
rests_leaves sub o s e fits l p is not_stirred h =
    goes_on o (with_sub (in_state conn.Idle) sub s) (with_sub_current s sub (in_state conn.Idle) ∙ e) l
    (with_sub_still s sub (in_state conn.Idle) (rests_live s sub fits.0 fits.1 fits.2) l o h) p is

pub dials_live : (s : Seen) (n again until : ℕ) → StaysLive s n (with_dial again until)
dials_live s n again until = record { address = λ c. refl; shut = λ c f. refl; link = λ c f g. g }
