-- Each address that a session's lists have and that has no live subchannel gets one, in the order of the lists.
use Rattle.std.proofs.Common.{◌≡◌, ◌+◌, ◌∷◌, ◌++◌, ◌||◌, ◌&&◌, not, ap, refl, sym, ◌∙◌, Bool, true, false, List, [], Option, None, Some, if◌then◌else◌, is_none, length, cond, append_assoc}
use Rattle.std.proofs.lemmas.Bool.{or_parts}
use Rattle.std.proofs.lemmas.List.{append-nil}
use Rattle.std.proofs.lemmas.List.Folds.{find-append, list_any-append}
use Rattle.std.specs.List.{list_any}
use Rattle.std.specs.Option.{option_map, option_or}
use Rattle.std.specs.Prelude.{find}
use Rattle.grpc_base.specs.declared.address.Address.{Address}
use Rattle.net_actions.proofs.KeptBoards.{is_itself, or_left, or_right}
use Rattle.net_actions.proofs.Noting.{with_subs}
use Rattle.net_actions.proofs.Running.{IsQuiet, both_false, find_after, find_none, no_more, none_afterwards, one_more, quiet_next, quiet_with}
use Rattle.net_actions.specs.Runs.{RunsTo}
use Rattle.session_actions.specs.Actions.{of_policies}
use Rattle.session_actions.specs.Policies.{is_live_sub, is_same_address, listed}
use Rattle.session_actions.specs.Subchannels.{is_unlisted, new_sub, next_added}
use Rattle.session_actions.specs.declared.entry.OpenEntry.{OpenEntry}
use Rattle.session_actions.specs.declared.seen.Seen.{Seen}
use Rattle.session_actions.specs.declared.subchannel.Subchannel.{Subchannel}
use Rattle.session_actions.specs.declared.action.Action.TheVariants as action

-- an address without a live subchannel, and the subchannels with one for it, and for each of some
abbrev pub is_lacking : List Subchannel → Address → Bool
is_lacking subs a = is_none (find (is_live_sub a) subs)

abbrev pub next_sub : List Subchannel → Address → Subchannel
next_sub subs a = new_sub a (length subs + 1)

abbrev pub grown_if : Bool → List Subchannel → Address → List Subchannel
grown_if x subs a = if x then subs ++ next_sub subs a ∷ [] else subs

abbrev pub grown : List Subchannel → Address → List Subchannel
grown subs a = grown_if (is_lacking subs a) subs a

abbrev pub added : List Subchannel → List Address → List Subchannel
added subs [] = subs
added subs (a ∷ rest) = added (grown subs a) rest

-- a new one has a live subchannel, and is listed
new_is_live : (subs : List Subchannel) (a : Address) → is_live_sub a (next_sub subs a) ≡ true
new_is_live subs a = ap (λ (x : Bool). x && true) (is_itself a)

some_after : (o : Option Subchannel) (b : Subchannel) → is_none (option_or o (Some b)) ≡ false
some_after None b = refl
some_after (Some c) b = refl

new_not_lacking : (subs : List Subchannel) (a : Address) → is_lacking (subs ++ next_sub subs a ∷ []) a ≡ false
new_not_lacking subs a =
    let b : Subchannel = next_sub subs a in
    ap (λ (o : Option Subchannel). is_none o) (find-append (is_live_sub a) subs (b ∷ [])
    ∙ ap (λ (x : Bool). option_or (find (is_live_sub a) subs) (cond x (Some b) None)) (new_is_live subs a))
    ∙ some_after (find (is_live_sub a) subs) b

grown_not_lacking : (subs : List Subchannel) (a : Address) (x : Bool) → is_lacking subs a ≡ x → is_lacking (grown_if x subs a) a ≡ false
grown_not_lacking subs a true e = new_not_lacking subs a
grown_not_lacking subs a false e = e

still_some : (o e : Option Subchannel) → is_none o ≡ false → is_none (option_or o e) ≡ false
still_some None e h = absurd (cc)
still_some (Some b) e h = refl

still_not_lacking : (subs : List Subchannel) (a c : Address) (x : Bool) → is_lacking subs c ≡ false → is_lacking (grown_if x subs a) c ≡ false
still_not_lacking subs a c true e =
    ap (λ (o : Option Subchannel). is_none o) (find-append (is_live_sub c) subs (next_sub subs a ∷ []))
    ∙ still_some (find (is_live_sub c) subs) (find (is_live_sub c) (next_sub subs a ∷ [])) e
still_not_lacking subs a c false e = e

none_lacking : (subs : List Subchannel) (a : Address) (x : Bool) (seen : List Address) → list_any (is_lacking subs) seen ≡ false
    → list_any (is_lacking (grown_if x subs a)) seen ≡ false
none_lacking subs a x [] e = refl
none_lacking subs a x (c ∷ seen) e =
    let parts : (is_lacking subs c ≡ false) × (list_any (is_lacking subs) seen ≡ false) = or_parts (is_lacking subs c) (list_any (is_lacking subs) seen) e in
    both_false (is_lacking (grown_if x subs a) c) (list_any (is_lacking (grown_if x subs a)) seen) (still_not_lacking subs a c x parts.0)
    (none_lacking subs a x seen parts.1)

-- the address of the new one is listed
is_listed : (s : Seen) (seen rest : List Address) (a : Address) → listed s ≡ seen ++ a ∷ rest → list_any (is_same_address a) (listed s) ≡ true
is_listed s seen rest a list =
    ap (list_any (is_same_address a)) list ∙ list_any-append (is_same_address a) seen (a ∷ rest)
    ∙ or_right (list_any (is_same_address a) seen) (is_same_address a a || list_any (is_same_address a) rest)
    (or_left (is_same_address a a) (list_any (is_same_address a) rest) (is_itself a))

still_listed : (s : Seen) (subs : List Subchannel) (seen rest : List Address) (a : Address) (x : Bool) → listed s ≡ seen ++ a ∷ rest
    → list_any (is_unlisted s) subs ≡ false → list_any (is_unlisted s) (grown_if x subs a) ≡ false
still_listed s subs seen rest a true list none =
    none_afterwards (is_unlisted s) subs (next_sub subs a) none (ap (λ (x : Bool). not x) (is_listed s seen rest a list))
still_listed s subs seen rest a false list none = none

module _ (o : OpenEntry) (s : Seen) (q : IsQuiet o s) where
  next_is : (subs : List Subchannel) → list_any (is_unlisted s) subs ≡ false
      → of_policies o (with_subs subs s) ≡ option_or (option_map (λ (a : Address). action.SubchannelAdded a) (find (is_lacking subs) (listed s))) None
  next_is subs none =
      quiet_next o (with_subs subs s) (quiet_with o s subs q)
      ∙ ap (λ (x : Option Subchannel). option_or (option_map (λ (c : Subchannel). action.SubchannelShut c.number) x) (option_or (next_added (with_subs subs s)) None))
      (find_none (is_unlisted s) subs none)

  add_here : (seen rest : List Address) (subs : List Subchannel) (t : Seen) (a : Address) (x : Bool) → listed s ≡ seen ++ a ∷ rest
      → list_any (is_unlisted s) subs ≡ false → list_any (is_lacking subs) seen ≡ false → is_lacking subs a ≡ x
      → RunsTo o (with_subs (grown_if x subs a) s) t → RunsTo o (with_subs subs s) t
  add_here seen rest subs t a false list none has here run = run
  add_here seen rest subs t a true list none has here run =
      let next : of_policies o (with_subs subs s) ≡ Some (action.SubchannelAdded a)
      = next_is subs none
      ∙ ap (λ (l : List Address). option_or (option_map (λ (c : Address). action.SubchannelAdded c) (find (is_lacking subs) l)) None) list
      ∙ ap (λ (e : Option Address). option_or (option_map (λ (c : Address). action.SubchannelAdded c) e) None)
      (find_after (is_lacking subs) seen rest a has here) in
      one_more o (action.SubchannelAdded a) (with_subs subs s) t next run

  pub add_from : (seen rest : List Address) (subs : List Subchannel) → listed s ≡ seen ++ rest
      → list_any (is_unlisted s) subs ≡ false → list_any (is_lacking subs) seen ≡ false
      → RunsTo o (with_subs subs s) (with_subs (added subs rest) s)
  add_from seen [] subs list none has =
      let all : list_any (is_lacking subs) (listed s) ≡ false = ap (list_any (is_lacking subs)) (list ∙ append-nil seen) ∙ has in
      no_more o (with_subs subs s)
      (next_is subs none
      ∙ ap (λ (e : Option Address). option_or (option_map (λ (c : Address). action.SubchannelAdded c) e) None) (find_none (is_lacking subs) (listed s) all))
  add_from seen (a ∷ rest) subs list none has =
      let x : Bool = is_lacking subs a in
      let longer : listed s ≡ (seen ++ a ∷ []) ++ rest = list ∙ sym (append_assoc seen (a ∷ []) rest) in
      let there : list_any (is_lacking (grown subs a)) (seen ++ a ∷ []) ≡ false
      = none_afterwards (is_lacking (grown subs a)) seen a (none_lacking subs a x seen has) (grown_not_lacking subs a x refl) in
      add_here seen rest subs (with_subs (added (grown subs a) rest) s) a x list none has refl
      (add_from (seen ++ a ∷ []) rest (grown subs a) longer (still_listed s subs seen rest a x list none) there)
