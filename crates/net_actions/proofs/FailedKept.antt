-- What has failed of a view is the same after the lists are kept: a new subchannel is IDLE, and its number is none that has failed.
use Rattle.std.proofs.Common.{◌≡◌, ◌+◌, ◌<◌, ◌∷◌, ◌++◌, ◌&&◌, ap, arith, refl, sym, ◌∙◌, Bool, true, false, List, [], Option, None, Some, ℕ, suc, cond, length, map, filter, slice_get, option_to_list}
use Rattle.std.proofs.lemmas.Bool.{or_parts}
use Rattle.std.proofs.lemmas.List.{append-nil, length-map, map-append}
use Rattle.std.proofs.lemmas.List.Elements.{filter-append}
use Rattle.std.specs.List.{list_any, position_from}
use Rattle.std.specs.Option.{option_and_then, option_map}
use Rattle.grpc_base.specs.declared.address.Address.{Address}
use Rattle.grpc_base.specs.declared.event.Conn.TheVariants as conn
use Rattle.channel_net.proofs.ViewLaws.{view-kept}
use Rattle.channel_net.specs.Lists.{seen_as, seen_at, view_of}
use Rattle.lb_policy.specs.Steps.{counts_as_failed, failed_in}
use Rattle.lb_policy.specs.Table.{is_one_of}
use Rattle.lb_policy.specs.declared.seen.SubSeen.{SubSeen}
use Rattle.net_actions.proofs.KeptBoards.{has_live_kept, is_wanted}
use Rattle.subchannel.specs.Boards.{has_live, is_live_at, kept, kept_or_shut, lacking, numbered}
use Rattle.subchannel.specs.Records.{SubRecord, new_sub}

-- no number above is one of some
abbrev pub NoneAbove : ℕ → List ℕ → Type 0
NoneAbove made numbers = (n : ℕ) → made < n → is_one_of numbers n ≡ false

-- each address of some is of the lists
abbrev pub AllWanted : List Address → List Address → List Address → Type 0
AllWanted current pending [] = Unit {0}
AllWanted current pending (a ∷ rest) = (is_wanted current pending a ≡ true) × AllWanted current pending rest

pub failed_append : (before : List ℕ) (xs ys : List SubSeen) → failed_in before (xs ++ ys) ≡ failed_in before xs ++ failed_in before ys
failed_append before xs ys =
    ap (map (λ (v : SubSeen). v.sub)) (filter-append (counts_as_failed before) xs ys)
    ∙ map-append (λ (v : SubSeen). v.sub) (filter (counts_as_failed before) xs) (filter (counts_as_failed before) ys)

-- a search that goes past a prefix
past_by : (x : Bool) (n : ℕ) (o e : Option ℕ) → x ≡ false → o ≡ e → cond x (Some n) o ≡ e
past_by true n o e f same = absurd (cc)
past_by false n o e f same = same

position_past : (test : SubRecord → Bool) (n : ℕ) (xs ys : List SubRecord) → list_any test xs ≡ false
    → position_from test n (xs ++ ys) ≡ position_from test (n + length xs) ys
position_past test n [] ys e = let k : n ≡ n + 0 = omega arith in ap (λ (j : ℕ). position_from test j ys) k
position_past test n (r ∷ xs) ys e =
    let parts : (test r ≡ false) × (list_any test xs ≡ false) = or_parts (test r) (list_any test xs) e in
    let k : n + 1 + length xs ≡ n + suc (length xs) = omega arith in
    past_by (test r) n (position_from test (n + 1) (xs ++ ys)) (position_from test (n + suc (length xs)) ys) parts.0
    (position_past test (n + 1) xs ys parts.1 ∙ ap (λ (j : ℕ). position_from test j ys) k)

position_none : (test : SubRecord → Bool) (n : ℕ) (xs : List SubRecord) → list_any test xs ≡ false → position_from test n xs ≡ None
position_none test n [] e = refl
position_none test n (r ∷ xs) e =
    let parts : (test r ≡ false) × (list_any test xs ≡ false) = or_parts (test r) (list_any test xs) e in
    past_by (test r) n (position_from test (n + 1) xs) None parts.0 (position_none test (n + 1) xs parts.1)

get_past : (xs ys : List SubRecord) (i : ℕ) → slice_get (xs ++ ys) (length xs + i) ≡ slice_get ys i
get_past [] ys i = let k : 0 + i ≡ i = omega arith in ap (λ (j : ℕ). slice_get ys j) k
get_past (r ∷ xs) ys i =
    let k : length (r ∷ xs) + i ≡ suc (length xs + i) = omega arith in
    ap (λ (j : ℕ). slice_get (r ∷ (xs ++ ys)) j) k ∙ get_past xs ys i

-- a new one that is found
record NewAt (news : List Address) (m k : ℕ) : Type 0 where
  pub place : ℕ
  pub number_is : k ≡ m + place
  pub a : Address
  pub at : slice_get (map new_sub news) place ≡ Some (new_sub a)

new_by : (x : Bool) (a : Address) (news : List Address) (m k : ℕ) (o : Option ℕ) → cond x (Some m) o ≡ Some k → (o ≡ Some k → NewAt news (m + 1) k) → NewAt (a ∷ news) m k
new_by true a news m k o e next =
    let same : m ≡ k = (cc) in
    let number : k ≡ m + 0 = omega arith in
    record { place = 0; number_is = number; a = a; at = refl }
new_by false a news m k o e next =
    let later : NewAt news (m + 1) k = next e in
    let found : k ≡ m + 1 + later.place = later.number_is in
    let number : k ≡ m + suc later.place = omega arith in
    record { place = suc later.place; number_is = number; a = later.a; at = later.at }

new_at : (test : SubRecord → Bool) (news : List Address) (m k : ℕ) → position_from test m (map new_sub news) ≡ Some k → NewAt news m k
new_at test [] m k e = absurd (cc)
new_at test (a ∷ news) m k e =
    new_by (test (new_sub a)) a news m k (position_from test (m + 1) (map new_sub news)) e (λ f. new_at test news (m + 1) k f)

none_failed : (before : List ℕ) (k : ℕ) → is_one_of before k ≡ false → failed_in before (record { sub = k; state = conn.Idle } ∷ []) ≡ []
none_failed before k e =
    let v : SubSeen = record { sub = k; state = conn.Idle } in
    ap (λ (x : Bool). map (λ (y : SubSeen). y.sub) (cond (x && true) (v ∷ []) [])) e

abbrev seen_of : List SubRecord → Option ℕ → Option SubSeen
seen_of board o = option_and_then (λ (k : ℕ). option_map (seen_as k) (numbered board k)) o

new_failed : (before : List ℕ) (prefix : List SubRecord) (news : List Address) (o : Option ℕ) (test : SubRecord → Bool) → NoneAbove (length prefix) before
    → position_from test (1 + length prefix) (map new_sub news) ≡ o → failed_in before (option_to_list (seen_of (prefix ++ map new_sub news) o)) ≡ []
new_failed before prefix news None test none e = refl
new_failed before prefix news (Some k) test none e =
    let found : NewAt news (1 + length prefix) k = new_at test news (1 + length prefix) k e in
    let number : k ≡ 1 + length prefix + found.place = found.number_is in
    let place : k ≡ suc (length prefix + found.place) = omega arith in
    let at : numbered (prefix ++ map new_sub news) k ≡ Some (new_sub found.a)
    = ap (numbered (prefix ++ map new_sub news)) place ∙ get_past prefix (map new_sub news) found.place ∙ found.at in
    ap (λ (r : Option SubRecord). failed_in before (option_to_list (option_map (seen_as k) r))) at
    ∙ none_failed before k (none k (omega arith))

module _ (before : List ℕ) (current pending : List Address) (board : List SubRecord) (none : NoneAbove (length board) before) where
  one_by : (a : Address) (x : Bool) → has_live board a ≡ x → is_wanted current pending a ≡ true
      → failed_in before (option_to_list (seen_at (kept current pending board) a)) ≡ failed_in before (option_to_list (seen_at board a))
  one_by a true there wanted =
      let same : view_of (kept current pending board) (a ∷ []) ≡ view_of board (a ∷ []) = view-kept current pending board (a ∷ []) (wanted, (there, tt)) in
      ap (failed_in before) (sym (append-nil (option_to_list (seen_at (kept current pending board) a))) ∙ same ∙ append-nil (option_to_list (seen_at board a)))
  one_by a false there wanted =
      let prefix : List SubRecord = map (kept_or_shut current pending) board in
      let news : List Address = lacking board [] current ++ lacking board current pending in
      let same : length prefix ≡ length board = length-map board (kept_or_shut current pending) in
      let gone : has_live prefix a ≡ false = has_live_kept current pending a board wanted ∙ there in
      let above : NoneAbove (length prefix) before = λ k less. none k (omega (arith, less)) in
      ap (λ (o : Option ℕ). failed_in before (option_to_list (seen_of (prefix ++ map new_sub news) o))) (position_past (is_live_at a) 1 prefix (map new_sub news) gone)
      ∙ new_failed before prefix news (position_from (is_live_at a) (1 + length prefix) (map new_sub news)) (is_live_at a) above refl
      ∙ ap (λ (o : Option ℕ). failed_in before (option_to_list (seen_of board o))) (sym (position_none (is_live_at a) 1 board there))

  pub failed_kept : (addresses : List Address) → AllWanted current pending addresses
      → failed_in before (view_of (kept current pending board) addresses) ≡ failed_in before (view_of board addresses)
  failed_kept [] all = refl
  failed_kept (a ∷ rest) all =
      failed_append before (option_to_list (seen_at (kept current pending board) a)) (view_of (kept current pending board) rest)
      ∙ ap (λ (l : List ℕ). l ++ failed_in before (view_of (kept current pending board) rest)) (one_by a (has_live board a) refl all.0)
      ∙ ap (λ (l : List ℕ). failed_in before (option_to_list (seen_at board a)) ++ l) (failed_kept rest all.1)
      ∙ sym (failed_append before (option_to_list (seen_at board a)) (view_of board rest))
