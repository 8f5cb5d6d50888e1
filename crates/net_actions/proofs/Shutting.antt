-- The subchannels of a session that no list has are shut, one after another from the lowest number on.
use Rattle.std.proofs.Common.{◌≡◌, ◌+◌, ◌∷◌, ◌++◌, ap, arith, refl, subst, sym, ◌∙◌, Bool, true, false, List, [], Option, None, Some, ℕ, suc, slice_get, if◌then◌else◌, length, map, append_assoc, length-append}
use Rattle.std.specs.List.{list_any}
use Rattle.std.specs.Option.{option_map, option_or}
use Rattle.std.specs.Prelude.{slice_set}
use Rattle.grpc_base.specs.declared.event.Conn.TheVariants as conn
use Rattle.net_actions.proofs.Changing.{with_sub_is}
use Rattle.net_actions.proofs.Noting.{with_subs}
use Rattle.net_actions.proofs.Running.{IsQuiet, both_false, find_after, none_afterwards, one_more, quiet_next, quiet_with}
use Rattle.net_actions.proofs.Staying.{none_noted}
use Rattle.net_actions.specs.Runs.{RunsTo}
use Rattle.session_actions.specs.Actions.{of_policies}
use Rattle.session_actions.specs.Subchannels.{is_unlisted, next_added, with_sub, without_link}
use Rattle.session_actions.specs.declared.entry.OpenEntry.{OpenEntry}
use Rattle.session_actions.specs.declared.seen.Seen.{Seen}
use Rattle.session_actions.specs.declared.subchannel.Subchannel.{Subchannel}
use Rattle.session_actions.specs.declared.action.Action.TheVariants as action

-- what stands after a prefix
pub get_after : {X : Type 0} (prefix rest : List X) (x : X) → slice_get (prefix ++ x ∷ rest) (length prefix) ≡ Some x
get_after [] rest x = refl
get_after (y ∷ prefix) rest x = get_after prefix rest x

pub set_after : {X : Type 0} (prefix rest : List X) (x z : X) → slice_set (prefix ++ x ∷ rest) (length prefix) z ≡ prefix ++ z ∷ rest
set_after [] rest x z = refl
set_after (y ∷ prefix) rest x z = ap (λ (l : List _). y ∷ l) (set_after prefix rest x z)

pub longer_by_one : {X : Type 0} (prefix : List X) (x : X) → length prefix + 1 + 1 ≡ length (prefix ++ x ∷ []) + 1
longer_by_one prefix x = let l : length (prefix ++ x ∷ []) ≡ length prefix + length (x ∷ []) = length-append prefix (x ∷ []) in omega arith

-- the numbers of subchannels
abbrev pub HaveNumbers : ℕ → List Subchannel → Type 0
HaveNumbers n [] = Unit {0}
HaveNumbers n (b ∷ subs) = (b.number ≡ n) × HaveNumbers (n + 1) subs

-- what becomes of one
abbrev pub shut_if : Bool → Subchannel → Subchannel
shut_if x b = if x then without_link conn.Shutdown b else b

abbrev pub shut_one : Seen → Subchannel → Subchannel
shut_one s b = shut_if (is_unlisted s b) b

shut_by : (s : Seen) (b : Subchannel) (x : Bool) → is_unlisted s b ≡ x → is_unlisted s (shut_if x b) ≡ false
shut_by s b true e = refl
shut_by s b false e = e

pub none_unlisted : (s : Seen) (subs : List Subchannel) → list_any (is_unlisted s) (map (shut_one s) subs) ≡ false
none_unlisted s [] = refl
none_unlisted s (b ∷ subs) =
    both_false (is_unlisted s (shut_one s b)) (list_any (is_unlisted s) (map (shut_one s) subs)) (shut_by s b (is_unlisted s b) refl) (none_unlisted s subs)

module _ (o : OpenEntry) (s : Seen) (q : IsQuiet o s) where
  -- the next action, after those that stay
  shut_next : (prefix rest : List Subchannel) (b : Subchannel) → list_any (is_unlisted s) prefix ≡ false → is_unlisted s b ≡ true
      → of_policies o (with_subs (prefix ++ b ∷ rest) s) ≡ Some (action.SubchannelShut b.number)
  shut_next prefix rest b none here =
      let t : Seen = with_subs (prefix ++ b ∷ rest) s in
      quiet_next o t (quiet_with o s (prefix ++ b ∷ rest) q)
      ∙ ap (λ (x : Option Subchannel). option_or (option_map (λ (c : Subchannel). action.SubchannelShut c.number) x) (option_or (next_added t) None))
      (find_after (is_unlisted s) prefix rest b none here)

  shut_now : (prefix rest : List Subchannel) (b : Subchannel) → b.number ≡ length prefix + 1
      → with_sub (without_link conn.Shutdown) b.number (with_subs (prefix ++ b ∷ rest) s) ≡ with_subs (prefix ++ without_link conn.Shutdown b ∷ rest) s
  shut_now prefix rest b number =
      let t : Seen = with_subs (prefix ++ b ∷ rest) s in
      let c : Subchannel = without_link conn.Shutdown b in
      let place : b.number ≡ suc (length prefix) = omega arith in
      ap (λ (k : ℕ). with_sub (without_link conn.Shutdown) k t) place
      ∙ with_sub_is (without_link conn.Shutdown) (length prefix) t b (get_after prefix rest b)
      ∙ none_noted (with_subs (slice_set (prefix ++ b ∷ rest) (length prefix) c) s) c (λ k failed view. refl)
      ∙ ap (λ (l : List Subchannel). with_subs l s) (set_after prefix rest b c)

  shut_here : (prefix rest : List Subchannel) (t : Seen) (b : Subchannel) (x : Bool) → list_any (is_unlisted s) prefix ≡ false → b.number ≡ length prefix + 1
      → is_unlisted s b ≡ x → RunsTo o (with_subs (prefix ++ shut_if x b ∷ rest) s) t → RunsTo o (with_subs (prefix ++ b ∷ rest) s) t
  shut_here prefix rest t b false none number here run = run
  shut_here prefix rest t b true none number here run =
      one_more o (action.SubchannelShut b.number) (with_subs (prefix ++ b ∷ rest) s) t (shut_next prefix rest b none here)
      (subst (λ (v : Seen). RunsTo o v t) (sym (shut_now prefix rest b number)) run)

  pub shut_from : (prefix rest : List Subchannel) (t : Seen) → list_any (is_unlisted s) prefix ≡ false → HaveNumbers (length prefix + 1) rest
      → RunsTo o (with_subs (prefix ++ map (shut_one s) rest) s) t → RunsTo o (with_subs (prefix ++ rest) s) t
  shut_from prefix [] t none numbers run = run
  shut_from prefix (b ∷ rest) t none numbers run =
      let c : Subchannel = shut_one s b in
      let passed : list_any (is_unlisted s) (prefix ++ c ∷ []) ≡ false = none_afterwards (is_unlisted s) prefix c none (shut_by s b (is_unlisted s b) refl) in
      let further : HaveNumbers (length (prefix ++ c ∷ []) + 1) rest
      = subst (λ (k : ℕ). HaveNumbers k rest) (longer_by_one prefix c) numbers.1 in
      let ahead : RunsTo o (with_subs ((prefix ++ c ∷ []) ++ map (shut_one s) rest) s) t
      = subst (λ (l : List Subchannel). RunsTo o (with_subs l s) t) (sym (append_assoc prefix (c ∷ []) (map (shut_one s) rest))) run in
      let next : RunsTo o (with_subs ((prefix ++ c ∷ []) ++ rest) s) t = shut_from (prefix ++ c ∷ []) rest t passed further ahead in
      let moved : RunsTo o (with_subs (prefix ++ c ∷ rest) s) t
      = subst (λ (l : List Subchannel). RunsTo o (with_subs l s) t) (append_assoc prefix (c ∷ []) rest) next in
      shut_here prefix rest t b (is_unlisted s b) none numbers.0 refl moved
