-- Lists of attempts that a link cannot distinguish stay in step, however they are chosen and sorted.
use Rattle.std.proofs.Common.{◌≡◌, ◌∷◌, ◌&&◌, ◌==◌, ap, refl, subst, sym, ◌∙◌, Bool, false, List, [], Option, None, ℕ, cond, filter, if◌then◌else◌, is_none, is_some, map, nat_lt, unwrap_or}
use Rattle.std.specs.List.{AllByRecursion}
use Rattle.attempt_ledger.specs.declared.row.Placed.{Placed}
use Rattle.attempt_ledger.specs.declared.row.RowEnd.{RowEnd}
use Rattle.h2_link.specs.Feeds.{Line}
use Rattle.link_actions.proofs.Lists.{both_if, if_false}
use Rattle.link_actions.specs.Sees.{IsFed, by_stream, put_by_stream}
use Rattle.session_actions.specs.Links.{stream_number}
use Rattle.session_actions.specs.Reading.{is_outstanding_on}
use Rattle.session_actions.specs.Responses.{limit_of_attempt}
use Rattle.session_actions.specs.Words.{holds}
use Rattle.session_actions.specs.declared.attempt.Attempt.{Attempt}
use Rattle.session_actions.specs.declared.link.Link.{Link}
use Rattle.session_actions.specs.declared.seen.Seen.{Seen}
use Rattle.link_actions.specs.SteadyLinks.Same.{LinesAreSameOn, IsSameOn}

-- an attempt of a link
pub record IsPair (l m : Link) (s t : Seen) (h : ℕ → Line) (a b : Attempt) : Type 0 where
  pub place : b.place ≡ a.place
  pub stream : b.row.stream ≡ a.row.stream
  pub limit : limit_of_attempt b t ≡ limit_of_attempt a s
  pub fed : IsFed m t b (h b.place)

abbrev pub InStep : Link → Link → Seen → Seen → (ℕ → Line) → List Attempt → List Attempt → Type 0
InStep l m s t h [] [] = Unit {0}
InStep l m s t h (a ∷ as_) (b ∷ bs) = IsPair l m s t h a b × InStep l m s t h as_ bs
InStep l m s t h _ _ = ⊥

-- those of the link
never_on : (m : Link) (b : Attempt) → b.row.placed ≡ None → is_outstanding_on m b ≡ false
never_on m b e = ap (λ (o : Option Placed). (is_some o && is_none b.row.ended) && holds (λ (at : Placed). at.link == m.number) o) e

none_on : (m : Link) (bs : List Attempt) → AllByRecursion (λ b. b.row.placed ≡ None) bs → filter (is_outstanding_on m) bs ≡ []
none_on m [] all = refl
none_on m (b ∷ bs) all =
    if_false (is_outstanding_on m b) (b ∷ filter (is_outstanding_on m) bs) (filter (is_outstanding_on m) bs) (never_on m b all.0) ∙ none_on m bs all.1

on_alike : (l m : Link) (s t : Seen) (h : ℕ → Line) (a b : Attempt) → m.number ≡ l.number → IsSameOn l m s t h a b → is_outstanding_on m b ≡ is_outstanding_on l a
on_alike l m s t h a b number is =
    ap (λ (n : ℕ). (is_some b.row.placed && is_none b.row.ended) && holds (λ (at : Placed). at.link == n) b.row.placed) number
    ∙ ap (λ (o : Option Placed). (is_some o && is_none b.row.ended) && holds (λ (at : Placed). at.link == l.number) o) is.placed
    ∙ ap (λ (o : Option RowEnd). (is_some a.row.placed && is_none o) && holds (λ (at : Placed). at.link == l.number) a.row.placed) is.ended

pub out_step : (l m : Link) (s t : Seen) (h : ℕ → Line) (xs ys : List Attempt) → m.number ≡ l.number → LinesAreSameOn l m s t h xs ys
    → InStep l m s t h (filter (is_outstanding_on l) xs) (filter (is_outstanding_on m) ys)
out_step l m s t h [] bs number are = subst (InStep l m s t h []) (sym (none_on m bs are)) tt
out_step l m s t h (a ∷ as_) (b ∷ bs) number are =
    let fa : List Attempt = filter (is_outstanding_on l) as_ in
    let fb : List Attempt = filter (is_outstanding_on m) bs in
    let rest : InStep l m s t h fa fb = out_step l m s t h as_ bs number are.1 in
    subst (λ (c : Bool). InStep l m s t h (cond (is_outstanding_on l a) (a ∷ fa) fa) (cond c (b ∷ fb) fb)) (sym (on_alike l m s t h a b number are.0))
    (both_if (InStep l m s t h) (is_outstanding_on l a) (a ∷ fa) fa (b ∷ fb) fb
    (λ e. (record { place = are.0.place; stream = are.0.stream; limit = are.0.limit e; fed = are.0.fed e }, rest)) (λ e. rest))
out_step l m s t h (a ∷ as_) [] number are = absurd are

-- chosen by their streams
pub chosen_step : (l m : Link) (s t : Seen) (h : ℕ → Line) (p : Option ℕ → Bool) (xs ys : List Attempt) → InStep l m s t h xs ys
    → InStep l m s t h (filter (λ a. p a.row.stream) xs) (filter (λ a. p a.row.stream) ys)
chosen_step l m s t h p [] [] are = tt
chosen_step l m s t h p (a ∷ as_) (b ∷ bs) are =
    let fa : List Attempt = filter (λ (x : Attempt). p x.row.stream) as_ in
    let fb : List Attempt = filter (λ (x : Attempt). p x.row.stream) bs in
    let rest : InStep l m s t h fa fb = chosen_step l m s t h p as_ bs are.1 in
    subst (λ (c : Bool). InStep l m s t h (cond (p a.row.stream) (a ∷ fa) fa) (cond c (b ∷ fb) fb)) (sym (ap p are.0.stream))
    (both_if (InStep l m s t h) (p a.row.stream) (a ∷ fa) fa (b ∷ fb) fb (λ e. (are.0, rest)) (λ e. rest))
chosen_step l m s t h p [] (b ∷ bs) are = absurd are
chosen_step l m s t h p (a ∷ as_) [] are = absurd are

-- sorted by them
before_alike : (l m : Link) (s t : Seen) (h : ℕ → Line) (a b x y : Attempt) → IsPair l m s t h a b → IsPair l m s t h x y
    → nat_lt (stream_number y) (stream_number b) ≡ nat_lt (stream_number x) (stream_number a)
before_alike l m s t h a b x y is other =
    ap (λ (o : Option ℕ). nat_lt (unwrap_or o 0) (stream_number b)) other.stream ∙ ap (λ (o : Option ℕ). nat_lt (stream_number x) (unwrap_or o 0)) is.stream

put_step : (l m : Link) (s t : Seen) (h : ℕ → Line) (a b : Attempt) (xs ys : List Attempt) → IsPair l m s t h a b → InStep l m s t h xs ys
    → InStep l m s t h (put_by_stream a xs) (put_by_stream b ys)
put_step l m s t h a b [] [] is are = (is, tt)
put_step l m s t h a b (x ∷ xs) (y ∷ ys) is are =
    subst (λ (c : Bool). InStep l m s t h (put_by_stream a (x ∷ xs)) (if c then y ∷ put_by_stream b ys else b ∷ y ∷ ys)) (sym (before_alike l m s t h a b x y is are.0))
    (both_if (InStep l m s t h) (nat_lt (stream_number x) (stream_number a)) (x ∷ put_by_stream a xs) (a ∷ x ∷ xs) (y ∷ put_by_stream b ys) (b ∷ y ∷ ys)
    (λ e. (are.0, put_step l m s t h a b xs ys is are.1)) (λ e. (is, are)))
put_step l m s t h a b [] (y ∷ ys) is are = absurd are
put_step l m s t h a b (x ∷ xs) [] is are = absurd are

pub sorted_step : (l m : Link) (s t : Seen) (h : ℕ → Line) (xs ys : List Attempt) → InStep l m s t h xs ys → InStep l m s t h (by_stream xs) (by_stream ys)
sorted_step l m s t h [] [] are = tt
sorted_step l m s t h (a ∷ as_) (b ∷ bs) are = put_step l m s t h a b (by_stream as_) (by_stream bs) are.0 (sorted_step l m s t h as_ bs are.1)
sorted_step l m s t h [] (b ∷ bs) are = absurd are
sorted_step l m s t h (a ∷ as_) [] are = absurd are

pub same_places : (l m : Link) (s t : Seen) (h : ℕ → Line) (xs ys : List Attempt) → InStep l m s t h xs ys → map (λ (a : Attempt). a.place) ys ≡ map (λ (a : Attempt). a.place) xs
same_places l m s t h [] [] are = refl
same_places l m s t h (a ∷ as_) (b ∷ bs) are =
    ap (λ (n : ℕ). n ∷ map (λ (x : Attempt). x.place) bs) are.0.place ∙ ap (λ (ns : List ℕ). a.place ∷ ns) (same_places l m s t h as_ bs are.1)
same_places l m s t h [] (b ∷ bs) are = absurd are
same_places l m s t h (a ∷ as_) [] are = absurd are

pub all_fed : (l m : Link) (s t : Seen) (h : ℕ → Line) (xs ys : List Attempt) → InStep l m s t h xs ys → AllByRecursion (λ b. IsFed m t b (h b.place)) ys
all_fed l m s t h [] [] are = tt
all_fed l m s t h (a ∷ as_) (b ∷ bs) are = (are.0.fed, all_fed l m s t h as_ bs are.1)
all_fed l m s t h [] (b ∷ bs) are = absurd are
all_fed l m s t h (a ∷ as_) [] are = absurd are
