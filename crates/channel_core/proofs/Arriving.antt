-- What comes on links: a piece frame by frame, ends of attempts, the loss of a link.
use Rattle.std.proofs.Common.{◌≡◌, ◌∙◌, ◌≤◌, ◌<◌, ℕ, zero, suc, ◌+◌, ◌-◌, Bool, false, if◌then◌else◌, List, [], ◌∷◌, length, drop, refl, sym, ap, arith, Option, Some, None, IfSome}
use Rattle.std.specs.Option.{option_map}
use Rattle.std.specs.Set.{remove_key}
use Rattle.picker_gate.specs.Pairs.{is_same}
use Rattle.attempt_ledger.specs.declared.news.EndNews.{EndNews}
use Rattle.attempt_ledger.specs.declared.news.News.{News}
use Rattle.attempt_ledger.specs.declared.news.News.TheVariants as news
use Rattle.channel_core.specs.Arrivals.{ended_on, frame_received_if, frames_after, frames_from, lost_row, most_rows, rows_lost, rows_lost_on}
use Rattle.channel_core.specs.Books.{call_of, has_ended, row_at}
use Rattle.channel_core.specs.States.{StateSeen}
use Rattle.channel_core.specs.Steps.{left_after, next_on, stamped_gone, reported, reported_to}
use Rattle.channel_core.specs.Tables.{Received, received_in}

-- bytes that are skipped are left out
skipped : (link : ℕ) (piece : List ℕ) (skip : ℕ) (s : StateSeen) → frames_after link piece skip s ≡ frames_after link (drop skip piece) 0 s
skipped link [] zero s = refl
skipped link [] (suc skip) s = refl
skipped link (b ∷ piece) zero s = refl
skipped link (b ∷ piece) (suc skip) s = skipped link piece skip s

abbrev taken_by : Received → ℕ
taken_by h = h.taken

frame_on : (link k : ℕ) (piece : List ℕ) (s t : StateSeen) (h : Option Received) → Some (suc k) ≡ option_map taken_by h → t ≡ frame_received_if link h s
    → frames_after link (drop k piece) 0 t ≡ frames_from (frames_after link piece) link h s
frame_on link k piece s t None is new = absurd (let no : ⊥ = (cc) in no)
frame_on link k piece s t (Some h) is new =
    let same : suc k ≡ h.taken = (cc) in
    let less : k ≡ h.taken - 1 = omega (arith, same) in
    sym (skipped link piece k t) ∙ ap (λ n. frames_after link piece n t) less ∙ ap (frames_after link piece (h.taken - 1)) new

-- one frame, and then those after it
pub one_frame : (link taken : ℕ) (piece : List ℕ) (o : Option ℕ) (s t : StateSeen) → o ≡ Some taken → IfSome o (λ n. (1 ≤ n) × (n ≤ length piece))
    → o ≡ option_map taken_by (received_in link piece s.links) → t ≡ frame_received_if link (received_in link piece s.links) s
    → frames_after link (drop taken piece) 0 t ≡ frames_after link piece 0 s
one_frame link taken piece None s t is within given new = absurd (let no : ⊥ = (cc) in no)
one_frame link taken [] (Some n) s t is within given new = absurd (omega (arith, within.0, within.1))
one_frame link taken (b ∷ piece) (Some zero) s t is within given new = absurd (omega (arith, within.0))
one_frame link taken (b ∷ piece) (Some (suc k)) s t is within given new =
    let same : taken ≡ suc k = (cc) in
    ap (λ n. frames_after link (drop n (b ∷ piece)) 0 t) same ∙ frame_on link k piece s t (received_in link (b ∷ piece) s.links) given new

-- a link that receives no more
none_on : (link : ℕ) (further : ℕ → StateSeen → StateSeen) (s t : StateSeen) (h : Option Received) → None ≡ option_map taken_by h → t ≡ frame_received_if link h s → t ≡ frames_from further link h s
none_on link further s t None given new = new
none_on link further s t (Some h) given new = absurd (let no : ⊥ = (cc) in no)

silent : (link : ℕ) (s t : StateSeen) (h : Option Received) → None ≡ option_map taken_by h → t ≡ frame_received_if link h s → t ≡ s
silent link s t None given new = new
silent link s t (Some h) given new = absurd (let no : ⊥ = (cc) in no)

pub no_frame : (link : ℕ) (piece : List ℕ) (s t : StateSeen) → None ≡ option_map taken_by (received_in link piece s.links)
    → t ≡ frame_received_if link (received_in link piece s.links) s → t ≡ frames_after link piece 0 s
no_frame link [] s t given new = silent link s t (received_in link [] s.links) given new
no_frame link (b ∷ piece) s t given new = none_on link (frames_after link piece) s t (received_in link (b ∷ piece) s.links) given new

-- an attempt ends
pub row_ended : {v s : StateSeen} → v ≡ s → (link row call : ℕ) (end : EndNews) (u t : StateSeen) (outstanding : List (ℕ × ℕ)) → has_ended (row_at v.book row) ≡ false → call ≡ call_of (row_at v.book row)
    → outstanding ≡ remove_key (is_same (link, row)) v.outstanding → u ≡ reported_to call row (news.Ended row end) (record v { outstanding = outstanding }) → t ≡ stamped_gone link u
    → t ≡ ended_on link row end s
row_ended {v} {s} seen link row call end u t outstanding lives is left reports_that gone =
    let n : News = news.Ended row end in
    gone
    ∙ ap (stamped_gone link) (reports_that ∙ ap (λ k. reported_to k row n (record v { outstanding = outstanding })) is ∙ ap (λ (o : List (ℕ × ℕ)). reported row n (record v { outstanding = o })) left)
    ∙ sym (ap (λ b. if b then v else stamped_gone link (reported row n (left_after link row v))) lives)
    ∙ ap (ended_on link row end) seen

-- the rows of a link that is lost, one by one
count_less : (i : ℕ) → i < 18446744073709551615 → most_rows - i ≡ suc (most_rows - (i + 1))
unfolding most_rows
count_less i inside = omega arith

count_out : (i : ℕ) → 18446744073709551615 ≤ i → most_rows - i ≡ 0
unfolding most_rows
count_out i past = omega arith

count_all : most_rows - 0 ≡ most_rows
count_all = omega arith

pub rows_first : (link : ℕ) (each : Bool) (s : StateSeen) → rows_lost (most_rows - 0) link each 0 s ≡ rows_lost most_rows link each 0 s
rows_first link each s = ap (λ n. rows_lost n link each 0 s) count_all

pub rows_next : (i link row : ℕ) (each : Bool) (last : ℕ) (s t : StateSeen) → i < 18446744073709551615 → Some row ≡ next_on link last s → t ≡ lost_row link each row s
    → rows_lost (most_rows - (i + 1)) link each row t ≡ rows_lost (most_rows - i) link each last s
rows_next i link row each last s t inside there new =
    ap (rows_lost (most_rows - (i + 1)) link each row) new
    ∙ ap (λ o. rows_lost_on (rows_lost (most_rows - (i + 1)) link each) link each o s) there
    ∙ sym (ap (λ n. rows_lost n link each last s) (count_less i inside))

no_row : (most link : ℕ) (each : Bool) (last : ℕ) (s : StateSeen) → None ≡ next_on link last s → s ≡ rows_lost most link each last s
no_row zero link each last s none = refl
no_row (suc most) link each last s none = ap (λ o. rows_lost_on (rows_lost most link each) link each o s) none

pub rows_end : (i link : ℕ) (each : Bool) (last : ℕ) (s : StateSeen) → None ≡ next_on link last s → s ≡ rows_lost (most_rows - i) link each last s
rows_end i link each last s none = no_row (most_rows - i) link each last s none

pub rows_out : (i link : ℕ) (each : Bool) (last : ℕ) (s : StateSeen) → 18446744073709551615 ≤ i → s ≡ rows_lost (most_rows - i) link each last s
rows_out i link each last s past = sym (ap (λ n. rows_lost n link each last s) (count_out i past))
