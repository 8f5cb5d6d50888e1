-- Which ends license a retry, through the making of a row, and where the call is committed to the row that ended.
use Rattle.std.proofs.Common.{◌≡◌, ◌≤◌, ◌<◌, ℕ, zero, suc, Bool, true, false, if◌then◌else◌, length, Option, Some, None, List, [], ◌∷◌, ◌++◌, refl, sym, ap, subst, ◌∙◌, ◌⊎◌, inl, inr, arith}
use Rattle.std.proofs.lemmas.Bool.{lt-ltb}
use Rattle.std.specs.Option.{option_map_or}
use Rattle.grpc_base.specs.declared.plan.Chosen.{Chosen}
use Rattle.attempt_ledger.specs.Retries.{has_retries, is_retry}
use Rattle.attempt_ledger.specs.declared.row.Row.{Row}
use Rattle.attempt_ledger.specs.declared.row.RowEnd.{RowEnd}
use Rattle.ledger_stamps.specs.Steps.{changed, changed_at, index_at}
use Rattle.call_core.specs.Commitments.{IsRowOf}
use Rattle.call_core.specs.RowLaws.{IsCountedAt, IsFollowedAt}
use Rattle.call_core.specs.RowLicenses.{HaveLicenses, IsAsked, IsKnownEnd, IsLastAsked, IsLicense, IsRetryOf, IsStampedBy}
use Rattle.call_core.specs.Rows.{row_in}
use Rattle.call_core.proofs.Following.{length_at}
use Rattle.call_core.proofs.RowLaws.Made.{IsOldOr, more_follow, more_row, which}

-- a row more: what followed no row before it follows none, but where it ended for nothing
abbrev pub StaysUnfollowed : ℕ → List Row → Row → Type 0
StaysUnfollowed owner rows x = (place : ℕ) (row : Row) → IsRowOf owner rows place row → (end : RowEnd) → row.ended ≡ Some end → (IsFollowedAt owner rows place row.number → ⊥) → IsFollowedAt owner (rows ++ x ∷ []) place row.number → ⊥

more_license : (chosen : Chosen) (owner : ℕ) (rows : List Row) (x row : Row) (place : ℕ) (end : RowEnd) → StaysUnfollowed owner rows x → IsRowOf owner rows place row → row.ended ≡ Some end → IsLicense chosen owner rows place row end → IsLicense chosen owner (rows ++ x ∷ []) place row end
more_license chosen owner rows x row place end off is e h = record {
  counted = record { cause = h.counted.cause; unfollowed = off place row is end e h.counted.unfollowed };
  may = h.may;
  free = h.free;
  word = h.word;
}

more_why : (chosen : Chosen) (owner : ℕ) (rows : List Row) (x row : Row) (place : ℕ) (end : RowEnd) → (IsCountedAt owner rows place row.number end → ⊥) ⊎ (IsStampedBy end.entry row ⊎ (has_retries chosen.plan ≡ false)) → (IsCountedAt owner (rows ++ x ∷ []) place row.number end → ⊥) ⊎ (IsStampedBy end.entry row ⊎ (has_retries chosen.plan ≡ false))
more_why chosen owner rows x row place end (inl never) =
    inl (λ counted. never (record { cause = counted.cause; unfollowed = λ f. counted.unfollowed (more_follow owner rows x place row.number f) }))
more_why chosen owner rows x row place end (inr h) = inr h

more_known : (chosen : Chosen) (owner : ℕ) (rows : List Row) (x row : Row) (place : ℕ) (end : RowEnd) → StaysUnfollowed owner rows x → IsRowOf owner rows place row → row.ended ≡ Some end → IsKnownEnd chosen owner rows place row end → IsKnownEnd chosen owner (rows ++ x ∷ []) place row end
more_known chosen owner rows x row place end off is e (inl h) = inl (more_license chosen owner rows x row place end off is e h)
more_known chosen owner rows x row place end off is e (inr h) = inr (record { word = h.word; why = more_why chosen owner rows x row place end h.why })

none_ended : (x row : Row) (end : RowEnd) → x.ended ≡ None → row ≡ x → row.ended ≡ Some end → ⊥
none_ended x row end none same e = let no : None ≡ Some end = sym none ∙ ap (λ (r : Row). r.ended) (sym same) ∙ e in cc

more_ends : (chosen : Chosen) (owner : ℕ) (rows : List Row) (x row : Row) (place : ℕ) (end : RowEnd) → StaysUnfollowed owner rows x → x.ended ≡ None → HaveLicenses chosen owner rows → row.ended ≡ Some end → IsOldOr owner rows x place row → IsKnownEnd chosen owner (rows ++ x ∷ []) place row end
more_ends chosen owner rows x row place end off none old e (inl is) = more_known chosen owner rows x row place end off is e (old.ends place row is end e)
more_ends chosen owner rows x row place end off none old e (inr both) = absurd (none_ended x row end none both.1 e)

-- what the server asked for
pub asked_more : (owner : ℕ) (rows : List Row) (x : Row) (number : ℕ) → StaysUnfollowed owner rows x → IsAsked owner rows number → IsAsked owner (rows ++ x ∷ []) number
asked_more owner rows x number off h = record {
  place = h.place;
  end = h.end;
  has = record { row = h.has.row; is = more_row owner rows x h.has.row h.place h.has.is; ended = h.has.ended };
  counted = record { cause = h.counted.cause; unfollowed = off h.place h.has.row h.has.is h.end h.has.ended h.counted.unfollowed };
  delay = h.delay;
  same = h.same;
}

asked_or : (owner : ℕ) (rows : List Row) (x : Row) (number : ℕ) → x.ended ≡ None → (h : IsAsked owner (rows ++ x ∷ []) number) → IsOldOr owner rows x h.place h.has.row → IsAsked owner rows number
asked_or owner rows x number none h (inl is) = record {
  place = h.place;
  end = h.end;
  has = record { row = h.has.row; is = is; ended = h.has.ended };
  counted = record { cause = h.counted.cause; unfollowed = λ f. h.counted.unfollowed (more_follow owner rows x h.place h.has.row.number f) };
  delay = h.delay;
  same = h.same;
}
asked_or owner rows x number none h (inr both) = absurd (none_ended x h.has.row h.end none both.1 h.has.ended)

pub asked_less : (owner : ℕ) (rows : List Row) (x : Row) (number : ℕ) → x.ended ≡ None → IsAsked owner (rows ++ x ∷ []) number → IsAsked owner rows number
asked_less owner rows x number none h = asked_or owner rows x number none h (which owner rows x h.has.row h.place h.has.is)

there_more : (owner : ℕ) (rows : List Row) (x : Row) (below since : ℕ) → StaysUnfollowed owner rows x → (since ≡ 0) ⊎ ((since < below) × IsAsked owner rows since) → (since ≡ 0) ⊎ ((since < below) × IsAsked owner (rows ++ x ∷ []) since)
there_more owner rows x below since off (inl e) = inl e
there_more owner rows x below since off (inr both) = inr (both.0, asked_more owner rows x since off both.1)

pub last_more : (owner : ℕ) (rows : List Row) (x : Row) (below since : ℕ) → StaysUnfollowed owner rows x → x.ended ≡ None → IsLastAsked owner rows below since → IsLastAsked owner (rows ++ x ∷ []) below since
last_more owner rows x below since off none old = record {
  most = λ number h less. old.most number (asked_less owner rows x number none h) less;
  there = there_more owner rows x below since off old.there;
}

pub retry_more : (chosen : Chosen) (owner : ℕ) (rows : List Row) (x : Row) (number due : ℕ) → StaysUnfollowed owner rows x → x.ended ≡ None → IsRetryOf chosen owner rows number due → IsRetryOf chosen owner (rows ++ x ∷ []) number due
retry_more chosen owner rows x number due off none h = record {
  place = h.place;
  end = h.end;
  has = record { row = h.has.row; is = more_row owner rows x h.has.row h.place h.has.is; ended = h.has.ended };
  before = h.before;
  license = more_license chosen owner rows x h.has.row h.place h.end off h.has.is h.has.ended h.license;
  since = h.since;
  last = last_more owner rows x number h.since off none h.last;
  due_is = h.due_is;
}

more_retries : (chosen : Chosen) (owner : ℕ) (rows : List Row) (x row : Row) (place : ℕ) → StaysUnfollowed owner rows x → x.ended ≡ None → (is_retry x.kind ≡ true → IsRetryOf chosen owner rows x.number x.due) → ((place : ℕ) (row : Row) → IsRowOf owner rows place row → is_retry row.kind ≡ true → IsRetryOf chosen owner rows row.number row.due) → is_retry row.kind ≡ true → IsOldOr owner rows x place row → IsRetryOf chosen owner (rows ++ x ∷ []) row.number row.due
more_retries chosen owner rows x row place off none new old kind (inl is) = retry_more chosen owner rows x row.number row.due off none (old place row is kind)
more_retries chosen owner rows x row place off none new old kind (inr both) =
    subst (λ (r : Row). IsRetryOf chosen owner (rows ++ x ∷ []) r.number r.due) (sym both.1)
    (retry_more chosen owner rows x x.number x.due off none (new (ap (λ (r : Row). is_retry r.kind) (sym both.1) ∙ kind)))

pub licenses_more : (chosen : Chosen) (owner : ℕ) (rows : List Row) (x : Row) → StaysUnfollowed owner rows x → x.ended ≡ None → (has_retries chosen.plan ≡ true → is_retry x.kind ≡ true → IsRetryOf chosen owner rows x.number x.due) → HaveLicenses chosen owner rows → HaveLicenses chosen owner (rows ++ x ∷ [])
licenses_more chosen owner rows x off none new old = record {
  ends = λ place row is end e. more_ends chosen owner rows x row place end off none old e (which owner rows x row place is);
  retries = λ has place row is kind. more_retries chosen owner rows x row place off none (new has) (old.retries has) kind (which owner rows x row place is);
}

-- writes in another order
commute : (f g : Row → Row) → ((r : Row) → f (g r) ≡ g (f r)) → (rows : List Row) (i : ℕ) → changed f (changed g rows i) i ≡ changed g (changed f rows i) i
commute f g same [] i = refl
commute f g same (r ∷ rows) zero = ap (λ (x : Row). x ∷ rows) (same r)
commute f g same (r ∷ rows) (suc i) = ap (λ (l : List Row). r ∷ l) (commute f g same rows i)

commute_index : (f g : Row → Row) → ((r : Row) → f (g r) ≡ g (f r)) → (rows : List Row) (o p : Option ℕ) → p ≡ o → option_map_or (λ i. changed f (option_map_or (λ j. changed g rows j) o rows) i) p (option_map_or (λ j. changed g rows j) o rows) ≡ option_map_or (λ i. changed g (option_map_or (λ j. changed f rows j) o rows) i) p (option_map_or (λ j. changed f rows j) o rows)
commute_index f g same rows None None e = refl
commute_index f g same rows (Some i) (Some j) e =
    let at : j ≡ i = (cc) in
    subst (λ (k : ℕ). changed f (changed g rows i) k ≡ changed g (changed f rows i) k) (sym at) (commute f g same rows i)
commute_index f g same rows None (Some j) e = absurd (cc)
commute_index f g same rows (Some i) None e = absurd (cc)

pub commute_at : (f g : Row → Row) → ((r : Row) → f (g r) ≡ g (f r)) → (rows : List Row) (place : ℕ) → changed_at f (changed_at g rows place) place ≡ changed_at g (changed_at f rows place) place
commute_at f g same rows place =
    let o : Option ℕ = index_at place (length rows) in
    ap (λ (n : ℕ). option_map_or (λ i. changed f (changed_at g rows place) i) (index_at place n) (changed_at g rows place)) (length_at g rows place)
    ∙ commute_index f g same rows o o refl
    ∙ sym (ap (λ (n : ℕ). option_map_or (λ i. changed g (changed_at f rows place) i) (index_at place n) (changed_at f rows place)) (length_at f rows place))

changed_more : (f : Row → Row) (rows : List Row) (x : Row) (i : ℕ) → i < length rows → changed f (rows ++ x ∷ []) i ≡ changed f rows i ++ x ∷ []
changed_more f [] x i less = absurd (let no : i < 0 = less in omega (arith, no))
changed_more f (r ∷ rows) x zero less = refl
changed_more f (r ∷ rows) x (suc i) less =
    ap (λ (l : List Row). r ∷ l) (changed_more f rows x i (let h : suc i < suc (length rows) = less in omega (arith, h)))

more_length : (rows : List Row) (x : Row) → length (rows ++ x ∷ []) ≡ suc (length rows)
more_length [] x = refl
more_length (r ∷ rows) x = ap suc (more_length rows x)

index_there : (i n : ℕ) → i < n → index_at (suc i) n ≡ Some i
index_there i n less = ap (λ (b : Bool). if b then Some i else None) (lt-ltb i n less)

pub more_at : (f : Row → Row) (rows : List Row) (x : Row) (place : ℕ) (row : Row) → row_in rows place ≡ Some row → place ≤ length rows → changed_at f (rows ++ x ∷ []) place ≡ changed_at f rows place ++ x ∷ []
more_at f rows x zero row e le = absurd (cc)
more_at f rows x (suc i) row e le =
    let less : i < length rows = (let h : suc i ≤ length rows = le in omega (arith, h)) in
    let len : length (rows ++ x ∷ []) ≡ suc (length rows) = more_length rows x in
    let less_more : i < length (rows ++ x ∷ []) = omega (arith, less, len) in
    ap (λ (o : Option ℕ). option_map_or (λ j. changed f (rows ++ x ∷ []) j) o (rows ++ x ∷ [])) (index_there i (length (rows ++ x ∷ [])) less_more)
    ∙ changed_more f rows x i less
    ∙ sym (ap (λ (o : Option ℕ). option_map_or (λ j. changed f rows j) o rows ++ x ∷ []) (index_there i (length rows) less))
