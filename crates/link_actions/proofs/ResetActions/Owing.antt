-- After GOAWAY, once all have ended that it ends, the session owes a reset for each stream that it leaves out, the lowest first.
use Rattle.std.proofs.Common.{◌≡◌, ◌∷◌, ◌&&◌, ◌==◌, ap, refl, subst, sym, ◌∙◌, Bool, true, false, List, [], Option, None, Some, ℕ, cond, filter, if◌then◌else◌, is_none, is_some, map, nat_lt}
use Rattle.std.specs.List.{AllByRecursion}
use Rattle.std.specs.Prelude.{unwrap_or}
use Rattle.std.proofs.lemmas.Bool.{eq-eqb}
use Rattle.attempt_ledger.specs.declared.row.RowEnd.{RowEnd}
use Rattle.grpc_base.specs.ErrorCodes.{cancel}
use Rattle.lb_policy.specs.Table.{is_one_of}
use Rattle.link_actions.proofs.Lists.{both_if}
use Rattle.link_actions.proofs.Opened.{streams}
use Rattle.link_actions.proofs.Without.{by_stream_filter}
use Rattle.link_actions.specs.Sees.{by_stream, put_by_stream}
use Rattle.link_actions.specs.ResetActions.Laws.{AttemptsAreEndedAt, GoawaysOweResets, IsEndedIf, OweAt, OwesIf, cancels_of, reset_by}
use Rattle.session_actions.specs.AttemptEnds.{with_end}
use Rattle.session_actions.specs.Links.{link_number, stream_number}
use Rattle.session_actions.specs.Reading.{is_outstanding_on, outstanding_on}
use Rattle.session_actions.specs.Writing.{streaming_on}
use Rattle.session_actions.specs.declared.attempt.Attempt.{Attempt}
use Rattle.session_actions.specs.declared.link.Link.{Link}
use Rattle.link_actions.proofs.StreamActions.Goaway.{filter_two}
use Rattle.link_actions.proofs.StreamActions.StreamEnds.{on_link}
use Rattle.link_actions.specs.StreamActions.Laws.{is_left_out, left_out}

-- what is so of all of a list in the order of their streams, and of all that pass a test
put_by : (P : Attempt → Type 0) (a b : Attempt) (bs ps : List Attempt) (c : Bool) → (AllByRecursion P ps → P a × AllByRecursion P bs)
    → AllByRecursion P (if c then b ∷ ps else a ∷ b ∷ bs) → P a × AllByRecursion P (b ∷ bs)
put_by P a b bs ps true next h = (let parts = next h.1 in (parts.0, (h.0, parts.1)))
put_by P a b bs ps false next h = h

put_parts : (P : Attempt → Type 0) (a : Attempt) (bs : List Attempt) → AllByRecursion P (put_by_stream a bs) → P a × AllByRecursion P bs
put_parts P a [] all = all
put_parts P a (b ∷ bs) all = put_by P a b bs (put_by_stream a bs) (nat_lt (stream_number b) (stream_number a)) (λ h. put_parts P a bs h) all

unsorted : (P : Attempt → Type 0) (xs : List Attempt) → AllByRecursion P (by_stream xs) → AllByRecursion P xs
unsorted P [] all = tt
unsorted P (a ∷ xs) all = (let parts = put_parts P a (by_stream xs) all in (parts.0, unsorted P xs parts.1))

never : (b : Bool) → b ≡ true → b ≡ false → ⊥
never true e h = (cc)
never false e h = (cc)

one_by : (P : Attempt → Type 0) (p : Attempt → Bool) (x : Attempt) (ys xs : List Attempt) (c : Bool) → p x ≡ c
    → (AllByRecursion P ys → AllByRecursion (λ (y : Attempt). p y ≡ true → P y) xs) → AllByRecursion P (cond c (x ∷ ys) ys) → AllByRecursion (λ (y : Attempt). p y ≡ true → P y) (x ∷ xs)
one_by P p x ys xs true e next h = (λ on. h.0, next h.1)
one_by P p x ys xs false e next h = (λ on. absurd (never (p x) on e), next h)

unfiltered : (P : Attempt → Type 0) (p : Attempt → Bool) (xs : List Attempt) → AllByRecursion P (filter p xs) → AllByRecursion (λ (x : Attempt). p x ≡ true → P x) xs
unfiltered P p [] all = tt
unfiltered P p (x ∷ xs) all = one_by P p x (filter p xs) xs (p x) refl (λ h. unfiltered P p xs h) all

pair_is : (m n : ℕ) (o : Option ℕ) → m ≡ n → o ≡ Some cancel → ◌≡◌ {A = ℕ × ℕ} (m, unwrap_or o 0) (n, cancel)
pair_is m n o e h =
    let F : ℕ → Option ℕ → ℕ × ℕ = λ k p. (k, unwrap_or p 0) in
    ap (λ (k : ℕ). F k o) e ∙ ap (F n) h

module _ (l : Link) (last : ℕ) (ts : List ℕ) (code : Attempt → Option ℕ) where
  -- of which a reset is owed, and whose streams are left out
  abbrev is_owed : Attempt → Bool
  is_owed b = is_some (code b) && (link_number b == l.number)

  abbrev is_out : Attempt → Bool
  is_out a = is_left_out last a && (streams a && is_outstanding_on l a)

  abbrev IsListed : Attempt → Type 0
  IsListed a = is_outstanding_on l a ≡ true → streams a ≡ true → is_one_of ts a.place ≡ is_left_out last a

  -- these are of one stream, and the one is reset with CANCEL
  pub record IsAlike (a b : Attempt) : Type 0 where
    pub stream : stream_number b ≡ stream_number a
    pub resets : code b ≡ Some cancel

  abbrev AreAlike : List Attempt → List Attempt → Type 0
  AreAlike [] [] = Unit {0}
  AreAlike (a ∷ as_) (b ∷ bs) = IsAlike a b × AreAlike as_ bs
  AreAlike _ _ = ⊥

  -- by their tests
  and_off : (p : Bool) → (p && false) ≡ false
  and_off true = refl
  and_off false = refl

  stays_off : (a : Attempt) (o st : Bool) → is_outstanding_on l a ≡ o → streams a ≡ st → is_one_of ts a.place ≡ false → IsListed a → is_out a ≡ false
  stays_off a true true out has among listed =
      ap (λ (b : Bool). b && (streams a && is_outstanding_on l a)) (sym (listed out has) ∙ among)
  stays_off a false st out has among listed =
      ap (λ (b : Bool). is_left_out last a && (streams a && b)) out ∙ ap (λ (b : Bool). is_left_out last a && b) (and_off (streams a)) ∙ and_off (is_left_out last a)
  stays_off a true false out has among listed =
      ap (λ (b : Bool). is_left_out last a && (b && is_outstanding_on l a)) has ∙ and_off (is_left_out last a)

  pub record IsPaired (a b : Attempt) : Type 0 where
    pub same : is_owed b ≡ is_out a
    pub alike : is_owed b ≡ true → IsAlike a b

  pair_ended : (a b : Attempt) (e : RowEnd) (st : Bool) → streams a ≡ st → is_one_of ts a.place ≡ true → b ≡ with_end e a → is_outstanding_on l a ≡ true
      → code b ≡ (if is_some a.row.stream then Some cancel else None) → IsListed a → IsPaired a b
  pair_ended a b e true has among is out owes listed =
      let linked : link_number a ≡ l.number = on_link l.number a.row.placed (is_some a.row.placed && is_none a.row.ended) out in
      let link : (link_number b == l.number) ≡ true = eq-eqb (link_number b) l.number (ap link_number is ∙ linked) in
      let resets : code b ≡ Some cancel = owes ∙ ap (λ (c : Bool). if c then Some cancel else None) has in
      let out_ : is_left_out last a ≡ true = sym (listed out has) ∙ among in
      let yes : is_out a ≡ true
      = ap (λ (c : Bool). c && (streams a && is_outstanding_on l a)) out_ ∙ ap (λ (c : Bool). c && is_outstanding_on l a) has ∙ out in
      record {
        same = ap (λ (o : Option ℕ). is_some o && (link_number b == l.number)) resets ∙ link ∙ sym yes;
        alike = λ h. record { stream = ap stream_number is; resets = resets };
      }
  pair_ended a b e false has among is out owes listed =
      let none : code b ≡ None = owes ∙ ap (λ (c : Bool). if c then Some cancel else None) has in
      let off : is_owed b ≡ false = ap (λ (o : Option ℕ). is_some o && (link_number b == l.number)) none in
      let no : is_out a ≡ false = ap (λ (c : Bool). is_left_out last a && (c && is_outstanding_on l a)) has ∙ and_off (is_left_out last a) in
      record { same = off ∙ sym no; alike = λ h. absurd (never (is_owed b) h off) }

  pair_by : (a b : Attempt) (c : Bool) → is_one_of ts a.place ≡ c → IsEndedIf c a b → OwesIf code l c a b → IsListed a → IsPaired a b
  pair_by a b true among ended owes listed = pair_ended a b ended.0 (streams a) refl among ended.1 owes.0 owes.1 listed
  pair_by a b false among same owes listed =
      let off : is_owed b ≡ false = ap (λ (o : Option ℕ). is_some o && (link_number b == l.number)) owes in
      record {
        same = off ∙ sym (stays_off a (is_outstanding_on l a) (streams a) refl refl among listed);
        alike = λ h. absurd (never (is_owed b) h off);
      }

  all_alike : (as_ bs : List Attempt) → AttemptsAreEndedAt ts as_ bs → OweAt code l ts as_ bs → AllByRecursion IsListed as_ → AreAlike (filter is_out as_) (filter is_owed bs)
  all_alike [] [] ended owes listed = tt
  all_alike (a ∷ as_) (b ∷ bs) ended owes listed =
      let fa : List Attempt = filter is_out as_ in
      let fb : List Attempt = filter is_owed bs in
      let rest : AreAlike fa fb = all_alike as_ bs ended.1 owes.1 listed.1 in
      let pair : IsPaired a b = pair_by a b (is_one_of ts a.place) refl ended.0 owes.0 listed.0 in
      subst (λ (c : Bool). AreAlike (cond c (a ∷ fa) fa) (cond (is_owed b) (b ∷ fb) fb)) pair.same
      (both_if AreAlike (is_owed b) (a ∷ fa) fa (b ∷ fb) fb (λ h. (pair.alike h, rest)) (λ h. rest))
  all_alike [] (b ∷ bs) ended owes listed = absurd ended
  all_alike (a ∷ as_) [] ended owes listed = absurd ended

  -- in the order of the streams
  put_alike : (a b : Attempt) (xs ys : List Attempt) → IsAlike a b → AreAlike xs ys → AreAlike (put_by_stream a xs) (put_by_stream b ys)
  put_alike a b [] [] one are = (one, tt)
  put_alike a b (x ∷ xs) (y ∷ ys) one are =
      let px : List Attempt = put_by_stream a xs in
      let py : List Attempt = put_by_stream b ys in
      let rest : AreAlike px py = put_alike a b xs ys one are.1 in
      let same : nat_lt (stream_number x) (stream_number a) ≡ nat_lt (stream_number y) (stream_number b)
      = sym (ap (λ (n : ℕ). nat_lt n (stream_number b)) are.0.stream ∙ ap (nat_lt (stream_number x)) one.stream) in
      subst (λ (c : Bool). AreAlike (if nat_lt (stream_number x) (stream_number a) then x ∷ px else a ∷ x ∷ xs) (if c then y ∷ py else b ∷ y ∷ ys)) same
      (both_if AreAlike (nat_lt (stream_number x) (stream_number a)) (x ∷ px) (a ∷ x ∷ xs) (y ∷ py) (b ∷ y ∷ ys) (λ h. (are.0, rest)) (λ h. (one, are)))
  put_alike a b [] (y ∷ ys) one are = absurd are
  put_alike a b (x ∷ xs) [] one are = absurd are

  sorted_alike : (xs ys : List Attempt) → AreAlike xs ys → AreAlike (by_stream xs) (by_stream ys)
  sorted_alike [] [] are = tt
  sorted_alike (x ∷ xs) (y ∷ ys) are = put_alike x y (by_stream xs) (by_stream ys) are.0 (sorted_alike xs ys are.1)
  sorted_alike [] (y ∷ ys) are = absurd are
  sorted_alike (x ∷ xs) [] are = absurd are

  same_resets : (xs ys : List Attempt) → AreAlike xs ys → map (reset_by code) ys ≡ cancels_of xs
  same_resets [] [] are = refl
  same_resets (x ∷ xs) (y ∷ ys) are =
      ap (λ (ps : List (ℕ × ℕ)). reset_by code y ∷ ps) (same_resets xs ys are.1)
      ∙ ap (λ (p : ℕ × ℕ). p ∷ cancels_of xs) (pair_is (stream_number y) (stream_number x) (code y) are.0.stream are.0.resets)
  same_resets [] (y ∷ ys) are = absurd are
  same_resets (x ∷ xs) [] are = absurd are

pub goaways_owe_resets : GoawaysOweResets
goaways_owe_resets l s last ends rows code all ended owes =
    let ts : List ℕ = map (λ (x : ℕ × RowEnd). x.0) ends in
    let Among : Attempt → Type 0 = λ a. is_one_of ts a.place ≡ is_left_out last a in
    let listed : AllByRecursion (IsListed l last ts code) s.attempts
    = unfiltered (λ a. streams a ≡ true → Among a) (is_outstanding_on l) s.attempts
    (unfiltered Among streams (outstanding_on l s) (unsorted Among (streaming_on l s) all.streams)) in
    let alike : AreAlike l last ts code (filter (is_out l last ts code) s.attempts) (filter (is_owed l last ts code) rows) = all_alike l last ts code s.attempts rows ended owes listed in
    let gone : left_out l s last ≡ by_stream (filter (is_out l last ts code) s.attempts)
    = sym (by_stream_filter (is_left_out last) (streaming_on l s))
    ∙ ap (λ (xs : List Attempt). by_stream (filter (is_left_out last) xs)) (filter_two streams (is_outstanding_on l) s.attempts)
    ∙ ap by_stream (filter_two (is_left_out last) (λ (a : Attempt). streams a && is_outstanding_on l a) s.attempts) in
    same_resets l last ts code (by_stream (filter (is_out l last ts code) s.attempts)) (by_stream (filter (is_owed l last ts code) rows))
    (sorted_alike l last ts code (filter (is_out l last ts code) s.attempts) (filter (is_owed l last ts code) rows) alike)
    ∙ ap cancels_of (sym gone)
