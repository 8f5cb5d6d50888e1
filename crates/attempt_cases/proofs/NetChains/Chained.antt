-- Action by action: a chain of policies and subchannels is what comes next, and leaves the lines of calls and links still.
use Rattle.std.proofs.Common.{◌≡◌, ◌≤◌, ◌&&◌, ◌++◌, ◌+◌, ◌==◌, ◌||◌, ◌∷◌, ap, arith, refl, subst, sym, ◌∙◌, Bool, true, false, List, [], None, Option, Some, ℕ, cond, find, if◌then◌else◌, is_none, length, option_map, pred}
use Rattle.std.proofs.lemmas.Bool.{eq-eqb}
use Rattle.std.proofs.lemmas.List.{length-append, length-set}
use Rattle.std.specs.List.{list_any}
use Rattle.std.specs.Option.{option_map_or, option_or}
use Rattle.std.specs.Prelude.{option_and_then}
use Rattle.channel_actions.proofs.Does.{none_on}
use Rattle.grpc_base.specs.declared.address.Address.{Address}
use Rattle.grpc_base.specs.declared.event.Conn.TheVariants as conn
use Rattle.grpc_base.specs.declared.event.EndCause.TheVariants as ending
use Rattle.grpc_base.specs.declared.kind.Kind.{Kind}
use Rattle.attempt_cases.specs.NetChains.Chains.{IsApartQuiescent, IsChained, IsPickThere}
use Rattle.attempt_cases.specs.NetChains.Laws.{ChainsAreNext}
use Rattle.channel_actions.proofs.BoardActions.Boards.{one_boarded}
use Rattle.channel_actions.specs.BoardActions.Boards.{IsBoarded, is_of_board}
use Rattle.session_actions.specs.Actions.{after, after_if, after_in, first_action, following, following_in, of_calls, of_links, of_policies, of_stage}
use Rattle.session_actions.specs.AttemptEnds.{next_cut, next_reset, next_wire_end}
use Rattle.session_actions.specs.CallEnds.{has_long_request, has_long_response, is_cancelled, is_over_by_row, is_shut_down, next_ended}
use Rattle.session_actions.specs.Commitments.{next_final, next_headed, next_inherited, next_overflow}
use Rattle.session_actions.specs.Events.{is_loss}
use Rattle.session_actions.specs.Laws.{posted_in}
use Rattle.session_actions.specs.Making.{next_transparent}
use Rattle.session_actions.specs.Policies.{addresses_given, addresses_in, begin_if, given_addresses, is_same_address, is_same_kind, is_to_retire, listed, live_policies, live_sub, next_begun, next_given, next_of_pick, next_retired, wanted_kind, wants_addresses, with_policy}
use Rattle.session_actions.specs.Sessions.{Does, IsNext}
use Rattle.session_actions.specs.Subchannels.{is_unlisted, new_sub, next_added, next_of_links, next_shut, noted_by_policies, with_sub, without_link}
use Rattle.session_actions.specs.Words.{changed, changed_if, last_of, numbered}
use Rattle.session_actions.specs.declared.action.Action.{Action}
use Rattle.session_actions.specs.declared.action.Action.TheVariants as action
use Rattle.session_actions.specs.declared.entry.OpenEntry.{OpenEntry}
use Rattle.session_actions.specs.declared.policy.PolicyUse.{PolicyUse}
use Rattle.session_actions.specs.declared.seen.Seen.{Seen}
use Rattle.session_actions.specs.declared.subchannel.Subchannel.{Subchannel}
use Rattle.session_order.proofs.Boards.{with_sub_current}
use Rattle.session_order.specs.Quiescent.{IsQuiescent, IsStill}
use Rattle.session_order.specs.Laws.{BoardsStir, LeavesApart, LinesAreStill, PoliciesStirApart}
use Rattle.session_order.specs.Lines.{gives, is_of_policies}
use Rattle.session_order.specs.declared.line.Line.{Line}
use Rattle.session_order.specs.declared.line.Line.TheVariants as line

-- the first of several is nothing: each is
abbrev AllNone : List (Option Action) → Type 0
AllNone [] = Unit {0}
AllNone (a ∷ as_) = (a ≡ None) × AllNone as_

none_all : (as_ : List (Option Action)) → AllNone as_ → first_action as_ ≡ None
none_all [] h = refl
none_all (a ∷ as_) h = ap (λ (o : Option Action). option_or o (first_action as_)) h.0 ∙ none_all as_ h.1

parts : (o p : Option Action) → option_or o p ≡ None → (o ≡ None) × (p ≡ None)
parts None p h = (refl, h)
parts (Some a) p h = absurd (cc)

all_none : (as_ : List (Option Action)) → first_action as_ ≡ None → AllNone as_
all_none [] h = tt
all_none (a ∷ as_) h = let both = parts a (first_action as_) h in (both.0, all_none as_ both.1)

if_off : (b : Bool) (o : Option Action) → o ≡ None → (if b then None else o) ≡ None
if_off true o e = refl
if_off false o e = e

-- what is asked of an action of a chain
pub record IsLink (o : OpenEntry) (s : Seen) (a : Action) : Type 0 where
  pub board : is_of_board a ≡ true
  pub posts : posted_in (a ∷ []) ≡ []
  pub next : following s ≡ Some a → IsNext a s
  pub apart : LeavesApart a o s
  pub current : (after_in o a s).current ≡ s.current
  pub more : length s.subs ≤ length (after_in o a s).subs

or_some : (P : Action → Type 0) (o p : Option Action) → ((a : Action) → o ≡ Some a → P a) → ((a : Action) → p ≡ Some a → P a) → (a : Action) → option_or o p ≡ Some a → P a
or_some P None p f g a e = g a e
or_some P (Some b) p f g a e = f a e

map_some : {X : Type 0} (P : Action → Type 0) (f : X → Action) (o : Option X) → ((x : X) → o ≡ Some x → P (f x)) → (a : Action) → option_map f o ≡ Some a → P a
map_some P f None h a e = absurd (cc)
map_some P f (Some x) h a e = let one : f x ≡ a = (cc) in subst P one (h x refl)

none_some : (P : Action → Type 0) (o : Option Action) → o ≡ None → (a : Action) → o ≡ Some a → P a
none_some P None n a e = absurd (cc)
none_some P (Some b) n a e = absurd (cc)

same_len : (n m : ℕ) → m ≡ n → n ≤ m
same_len n m e = omega arith

one_more : (n m : ℕ) → m ≡ n + 1 → n ≤ m
one_more n m e = omega arith

given_by : (s : Seen) (g : ℕ) (o : Option (List Address)) (f : Seen → ℕ) → ((addresses : List Address) → f (with_policy (given_addresses addresses s) g s) ≡ f s)
    → f (option_map_or (λ (addresses : List Address). with_policy (given_addresses addresses s) g s) o s) ≡ f s
given_by s g None f same = refl
given_by s g (Some addresses) f same = same addresses

given_current : (s : Seen) (g : ℕ) (o : Option (List Address))
    → (option_map_or (λ (addresses : List Address). with_policy (given_addresses addresses s) g s) o s).current ≡ s.current
given_current s g None = refl
given_current s g (Some addresses) = refl

put_long : (f : Subchannel → Subchannel) (n : ℕ) (xs : List Subchannel) (o : Option Subchannel) → length (changed_if f n xs o) ≡ length xs
put_long f n xs None = refl
put_long f n xs (Some b) = length-set xs (pred n) (f b)

subs_by : (u : Seen) (o : Option Subchannel) → length (option_map_or (λ (b : Subchannel). noted_by_policies b u) o u).subs ≡ length u.subs
subs_by u None = refl
subs_by u (Some b) = refl

address_is : (a : Address) → is_same_address a a ≡ true
address_is a = ap (λ (b : Bool). b && (a.port == a.port)) (eq-eqb a.ip a.ip refl) ∙ eq-eqb a.port a.port refl

or_true : (a b : Bool) → b ≡ true → (a || b) ≡ true
or_true true b e = refl
or_true false b e = e

found_by : (p : Address → Bool) (c : Address) (xs : List Address) (a : Address) (t : Bool) → p c ≡ t → cond t (Some c) (find p xs) ≡ Some a
    → (find p xs ≡ Some a → list_any (is_same_address a) xs ≡ true) → (is_same_address a c || list_any (is_same_address a) xs) ≡ true
found_by p c xs a true is e rest =
    let one : c ≡ a = (cc) in
    ap (λ (b : Bool). b || list_any (is_same_address a) xs) (ap (is_same_address a) one ∙ address_is a)
found_by p c xs a false is e rest = or_true (is_same_address a c) (list_any (is_same_address a) xs) (rest e)

in_list : (p : Address → Bool) (xs : List Address) (a : Address) → find p xs ≡ Some a → list_any (is_same_address a) xs ≡ true
in_list p [] a e = absurd (cc)
in_list p (c ∷ xs) a e = found_by p c xs a (p c) refl e (in_list p xs a)

module _ (stir : BoardsStir) (apart : PoliciesStirApart) (lines : LinesAreStill) (o : OpenEntry) (s : Seen) (current : s.current ≡ Some o) (quiescent : IsApartQuiescent o s)
    (picks : IsPickThere s) where
  off : (l : Line) → is_of_policies l ≡ false → gives l o s ≡ None
  off l e = (lines l o s).1 (quiescent l e)

  calls_none : of_calls o s ≡ None
  calls_none =
      none_all
      (next_cut s ∷ next_transparent s ∷ next_inherited s ∷ next_ended ending.Row (is_over_by_row s) s ∷ next_final s
      ∷ next_ended ending.Cancelled (is_cancelled o) s ∷ next_ended ending.Request (has_long_request o s) s ∷ next_overflow s ∷ next_headed s
      ∷ next_ended ending.Response (has_long_response s) s ∷ []) (
        off line.Cut refl,
        (
          off line.Transparent refl,
          (
            off line.Inherited refl,
            (
              off line.Row refl,
              (
                off line.Final refl,
                (
                  off line.Cancelled refl,
                  (off line.Request refl, (off line.Overflow refl, (off line.Head refl, (off line.Response refl, tt)))),
                ),
              ),
            ),
          ),
        ),
      )

  links_none : of_links o s ≡ None
  links_none =
      none_all (next_of_pick s ∷ next_of_links s ∷ (if is_loss o.event then None else next_wire_end s) ∷ next_reset s ∷ next_wire_end s ∷ [])
      (off line.Pick refl, (off line.Link refl, (if_off (is_loss o.event) (next_wire_end s) (off line.WireEnd refl), (off line.Reset refl, (off line.WireEnd refl, tt)))))

  retired : (g : ℕ) → IsLink o s (action.PolicyRetired g)
  retired g = record { board = refl; posts = refl; next = λ e. e; apart = apart.retired g o s current; current = refl; more = same_len (length s.subs) (length s.subs) refl }

  begun : (k : Kind) → IsLink o s (action.PolicyBegins k)
  begun k = record { board = refl; posts = refl; next = λ e. e; apart = apart.begins k o s current; current = refl; more = same_len (length s.subs) (length s.subs) refl }

  given : (g : ℕ) → IsLink o s (action.AddressesGiven g)
  given g = record {
    board = refl;
    posts = refl;
    next = λ e. e;
    apart = apart.given g o s current;
    current = given_current s g (addresses_in o.event);
    more = same_len (length s.subs) (length (addresses_given g o.event s).subs) (given_by s g (addresses_in o.event) (λ v. length v.subs) (λ addresses. refl));
  }

  shut : (n : ℕ) → IsLink o s (action.SubchannelShut n)
  shut n = record {
    board = refl;
    posts = refl;
    next = λ e. e;
    apart = apart.shut n o s current;
    current = with_sub_current s n (without_link conn.Shutdown);
    more = same_len (length s.subs) (length (with_sub (without_link conn.Shutdown) n s).subs)
        (subs_by (record s { subs = changed (without_link conn.Shutdown) n s.subs }) (numbered (changed (without_link conn.Shutdown) n s.subs) n)
        ∙ put_long (without_link conn.Shutdown) n s.subs (numbered s.subs n));
  }

  added : (a : Address) → find (λ (b : Address). is_none (live_sub s b)) (listed s) ≡ Some a → IsLink o s (action.SubchannelAdded a)
  added a e = record {
    board = refl;
    posts = refl;
    next = λ f. f;
    apart = λ l p on kind h. stir.added a o s current (record { is_listed = in_list (λ (b : Address). is_none (live_sub s b)) (listed s) a e; picks = picks }) l p on refl h;
    current = refl;
    more = one_more (length s.subs) (length (s.subs ++ new_sub a (length s.subs + 1) ∷ [])) (length-append s.subs (new_sub a (length s.subs + 1) ∷ []));
  }

  begins_by : (b : Bool) (k : Kind) (a : Action) → (if b then None else Some (action.PolicyBegins k)) ≡ Some a → IsLink o s a
  begins_by true k a e = absurd (cc)
  begins_by false k a e = let one : action.PolicyBegins k ≡ a = (cc) in subst (IsLink o s) one (begun k)

  begins_of : (w : Option Kind) (a : Action) → option_and_then (begin_if s) w ≡ Some a → IsLink o s a
  begins_of None a e = absurd (cc)
  begins_of (Some k) a e = begins_by (list_any (λ (g : PolicyUse). is_same_kind g.generation.kind k) (live_policies s)) k a e

  pub link_is : (a : Action) → of_policies o s ≡ Some a → IsLink o s a
  link_is =
      or_some (IsLink o s) (next_ended ending.Shut (is_shut_down s) s) _ (none_some (IsLink o s) (next_ended ending.Shut (is_shut_down s) s) (off line.Shut refl))
      (or_some (IsLink o s) (next_retired o s) _ (map_some (IsLink o s) (λ (g : PolicyUse). action.PolicyRetired g.number) (find (is_to_retire o s) s.policies) (λ g e. retired g.number))
      (or_some (IsLink o s) (next_begun o s) _ (begins_of (wanted_kind o s))
      (or_some (IsLink o s) (next_given o s) _ (map_some (IsLink o s) (λ (g : PolicyUse). action.AddressesGiven g.number) (find (wants_addresses o s) s.policies) (λ g e. given g.number))
      (or_some (IsLink o s) (next_shut s) _ (map_some (IsLink o s) (λ (b : Subchannel). action.SubchannelShut b.number) (find (is_unlisted s) s.subs) (λ b e. shut b.number))
      (or_some (IsLink o s) (next_added s) None
      (map_some (IsLink o s) (λ (a : Address). action.SubchannelAdded a) (find (λ (b : Address). is_none (live_sub s b)) (listed s)) (λ a e. added a e))
      (none_some (IsLink o s) None refl))))))

  pub next_is : (a : Action) → of_policies o s ≡ Some a → following s ≡ Some a
  next_is a e =
      ap (option_and_then (following_in s)) current
      ∙ ap (λ (c : Option Action). option_or c (option_or (of_links o s) (option_or (of_policies o s) (option_or (of_stage o s o.stage) None)))) calls_none
      ∙ ap (λ (c : Option Action). option_or c (option_or (of_policies o s) (option_or (of_stage o s o.stage) None))) links_none
      ∙ ap (λ (c : Option Action). option_or c (option_or (of_stage o s o.stage) None)) e

  -- at the end nothing follows at once
  ends_by : AllNone (next_ended ending.Shut (is_shut_down s) s ∷ next_retired o s ∷ next_begun o s ∷ next_given o s ∷ next_shut s ∷ next_added s ∷ []) → (l : Line) → IsStill l o s
  ends_by n line.Retire = (lines line.Retire o s).0 n.1.0
  ends_by n line.Begin = (lines line.Begin o s).0 n.1.1.0
  ends_by n line.Give = (lines line.Give o s).0 n.1.1.1.0
  ends_by n line.Drop = (lines line.Drop o s).0 n.1.1.1.1.0
  ends_by n line.Add = (lines line.Add o s).0 n.1.1.1.1.1.0
  ends_by n line.Cut = quiescent line.Cut refl
  ends_by n line.Transparent = quiescent line.Transparent refl
  ends_by n line.Inherited = quiescent line.Inherited refl
  ends_by n line.Row = quiescent line.Row refl
  ends_by n line.Final = quiescent line.Final refl
  ends_by n line.Cancelled = quiescent line.Cancelled refl
  ends_by n line.Request = quiescent line.Request refl
  ends_by n line.Response = quiescent line.Response refl
  ends_by n line.Overflow = quiescent line.Overflow refl
  ends_by n line.Head = quiescent line.Head refl
  ends_by n line.Pick = quiescent line.Pick refl
  ends_by n line.Link = quiescent line.Link refl
  ends_by n line.WireEnd = quiescent line.WireEnd refl
  ends_by n line.Reset = quiescent line.Reset refl
  ends_by n line.Shut = quiescent line.Shut refl

  pub ends_quiescent : of_policies o s ≡ None → IsQuiescent o s
  ends_quiescent none =
      ends_by (all_none (next_ended ending.Shut (is_shut_down s) s ∷ next_retired o s ∷ next_begun o s ∷ next_given o s ∷ next_shut s ∷ next_added s ∷ []) none)

at_most : (k n m : ℕ) → k ≤ n → n ≤ m → k ≤ m
at_most k n m e f = omega arith

pub chains_are_next : BoardsStir → PoliciesStirApart → LinesAreStill → ChainsAreNext
chains_are_next stir apart lines [] o s t all current quiescent picks = record {
  does = all.1;
  board = tt;
  posts = refl;
  current = ap (λ (v : Seen). v.current) all.1 ∙ current;
  quiescent = subst (IsQuiescent o) (sym all.1) (ends_quiescent stir apart lines o s current quiescent picks all.0);
}
chains_are_next stir apart lines (a ∷ actions) o s t all current quiescent picks =
    let u : Seen = after_in o a s in
    let link : IsLink o s a = link_is stir apart lines o s current quiescent picks a all.0 in
    let after_is : after a s ≡ u = ap (λ (c : Option OpenEntry). after_if c a s) current in
    let on : u.current ≡ Some o = link.current ∙ current in
    let same : u.asks ≡ s.asks = ap (λ (v : Seen). v.asks) (subst (IsBoarded s) after_is (one_boarded s a link.board)) in
    let rest : IsChained actions o u t
    = chains_are_next stir apart lines actions o u t all.1 on (λ l e. link.apart l o on e (quiescent l e))
    (λ ask sub is answer. at_most sub (length s.subs) (length u.subs) (picks ask sub (sym (ap last_of same) ∙ is) answer) link.more) in
    record {
      does = (link.next (next_is stir apart lines o s current quiescent picks a all.0), subst (λ (v : Seen). Does actions v t) (sym after_is) rest.does);
      board = (link.board, rest.board);
      posts = none_on (a ∷ []) actions link.posts rest.posts;
      current = rest.current;
      quiescent = rest.quiescent;
    }
