-- The streams of a link and the attempts of the session that have them.
use Rattle.std.proofs.Common.{◌≡◌, ◌∷◌, ◌||◌, ◌&&◌, ◌==◌, ap, refl, sym, ◌∙◌, Bool, true, false, List, [], Option, None, Some, ℕ, ℤ, pos, ◌+ℤ◌, ◌+◌, ◌*◌, ◌%◌, arith, zero, suc, is_some, length, int_lt, nat_lt}
use Rattle.std.specs.List.{list_any}
use Rattle.std.proofs.lemmas.Bool.Decides.{nat_tests}
use Rattle.std.proofs.lemmas.Int.{ints}
use Rattle.std.proofs.lemmas.List.Folds.{list_any-append}
use Rattle.h2_link.specs.LinkErrors.{send_window, was_opened}
use Rattle.h2_link.specs.declared.live.LiveStream.{LiveStream}
use Rattle.lb_policy.specs.Table.{is_one_of}
use Rattle.link_actions.proofs.Lists.{any_kept, on_if, or_none, or_swapped}
use Rattle.link_actions.specs.Sees.{StreamsAreLive, IsLive, by_stream, odds, put_by_stream}
use Rattle.session_actions.specs.Links.{stream_number}
use Rattle.session_actions.specs.Reading.{largest_window, lifts_stream, outstanding_on, raised, used}
use Rattle.session_actions.specs.Words.{holds}
use Rattle.session_actions.specs.Writing.{streaming_on}
use Rattle.session_actions.specs.declared.attempt.Attempt.{Attempt}
use Rattle.session_actions.specs.declared.link.Link.{Link}
use Rattle.session_actions.specs.declared.seen.Seen.{Seen}

-- a test of attempts does not see their order
any_put : (p : Attempt → Bool) (a : Attempt) (bs : List Attempt) → list_any p (put_by_stream a bs) ≡ (p a || list_any p bs)
any_put p a [] = refl
any_put p a (b ∷ bs) =
    on_if (λ (xs : List Attempt). list_any p xs ≡ (p a || (p b || list_any p bs))) (nat_lt (stream_number b) (stream_number a))
    (b ∷ put_by_stream a bs) (a ∷ b ∷ bs)
    (λ e. ap (λ (c : Bool). p b || c) (any_put p a bs) ∙ or_swapped (p b) (p a) (list_any p bs))
    (λ e. refl)

pub any_by_stream : (p : Attempt → Bool) (xs : List Attempt) → list_any p (by_stream xs) ≡ list_any p xs
any_by_stream p [] = refl
any_by_stream p (a ∷ xs) = any_put p a (by_stream xs) ∙ ap (λ (c : Bool). p a || c) (any_by_stream p xs)

long_put : (a : Attempt) (bs : List Attempt) → length (put_by_stream a bs) ≡ suc (length bs)
long_put a [] = refl
long_put a (b ∷ bs) =
    on_if (λ (xs : List Attempt). length xs ≡ suc (suc (length bs))) (nat_lt (stream_number b) (stream_number a))
    (b ∷ put_by_stream a bs) (a ∷ b ∷ bs) (λ e. ap suc (long_put a bs)) (λ e. refl)

pub long_by_stream : (xs : List Attempt) → length (by_stream xs) ≡ length xs
long_by_stream [] = refl
long_by_stream (a ∷ xs) = long_put a (by_stream xs) ∙ ap suc (long_by_stream xs)

-- a size that lifts the window of a stream above the largest
lifts_by : (c : ℤ) (size used raised : ℕ) → c +ℤ pos used ≡ pos raised
    → int_lt (pos 2147483647) (pos size +ℤ c) ≡ nat_lt (2147483647 + used) (size + raised)
lifts_by c size used raised e = grind (arith, ints, nat_tests, e)

lifts_same : (l : Link) (size : ℕ) (x : LiveStream) (a : Attempt) → IsLive l x a
    → holds (lifts_stream l size) a.row.stream ≡ int_lt (pos largest_window) (send_window size x)
lifts_same l size x a is =
    ap (holds (lifts_stream l size)) is.stream ∙ sym (lifts_by x.credit size (used x.number l) (raised x.number l) is.credit)

any_lifts : (l : Link) (size : ℕ) (xs : List LiveStream) (others : List Attempt) → StreamsAreLive l xs others
    → list_any (λ (a : Attempt). holds (lifts_stream l size) a.row.stream) others
    ≡ list_any (λ (x : LiveStream). int_lt (pos largest_window) (send_window size x)) xs
any_lifts l size [] [] are = refl
any_lifts l size (x ∷ xs) (a ∷ others) are =
    ap (λ (c : Bool). c || list_any (λ (b : Attempt). holds (lifts_stream l size) b.row.stream) others) (lifts_same l size x a are.0)
    ∙ ap (λ (c : Bool). int_lt (pos largest_window) (send_window size x) || c) (any_lifts l size xs others are.1)
any_lifts l size [] (a ∷ others) are = absurd are
any_lifts l size (x ∷ xs) [] are = absurd are

no_stream : (l : Link) (size : ℕ) (o : Option ℕ) → is_some o ≡ false → holds (lifts_stream l size) o ≡ false
no_stream l size None e = refl
no_stream l size (Some n) e = absurd (cc)

pub lifting_same : (l : Link) (s : Seen) (size : ℕ) (xs : List LiveStream) → StreamsAreLive l xs (by_stream (streaming_on l s))
    → list_any (λ (a : Attempt). holds (lifts_stream l size) a.row.stream) (outstanding_on l s)
    ≡ list_any (λ (x : LiveStream). int_lt (pos largest_window) (send_window size x)) xs
lifting_same l s size xs are =
    let p : Attempt → Bool = λ (a : Attempt). holds (lifts_stream l size) a.row.stream in
    any_kept p (λ (a : Attempt). is_some a.row.stream) (λ (a : Attempt) e. no_stream l size a.row.stream e) (outstanding_on l s)
    ∙ sym (any_by_stream p (streaming_on l s)) ∙ any_lifts l size xs (by_stream (streaming_on l s)) are

-- the odd numbers below twice a count
odd_one : (n k : ℕ) → (((k % 2 == 1) && nat_lt k (2 * n)) || (2 * n + 1 == k)) ≡ ((k % 2 == 1) && nat_lt k (2 * suc n))
odd_one n k = grind (arith, nat_tests)

no_odd : (b : Bool) (k : ℕ) → false ≡ (b && nat_lt k (2 * 0))
no_odd true k = grind (arith, nat_tests)
no_odd false k = refl

pub opened_are_odd : (n k : ℕ) → is_one_of (odds n) k ≡ was_opened n k
opened_are_odd zero k = no_odd (k % 2 == 1) k
opened_are_odd (suc n) k =
    list_any-append (λ m. m == k) (odds n) ((2 * n + 1) ∷ []) ∙ ap (λ (b : Bool). is_one_of (odds n) k || b) (or_none (2 * n + 1 == k))
    ∙ ap (λ (b : Bool). b || (2 * n + 1 == k)) (opened_are_odd n k) ∙ odd_one n k
