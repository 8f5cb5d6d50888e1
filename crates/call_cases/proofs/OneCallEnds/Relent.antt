-- What the end of a call makes of a ledger hangs of its links on how far they were read alone; and it leaves all but rows and calls.
use Rattle.std.proofs.Common.{◌≡◌, ◌∷◌, ap, refl, sym, ◌∙◌, List, [], Option, None, Some, ℕ, if◌then◌else◌, is_some, length, map, not, slice_get}
use Rattle.std.proofs.lemmas.List.{length-map}
use Rattle.std.proofs.lemmas.Option.{slice_get-map}
use Rattle.std.specs.Option.{option_map, option_map_or}
use Rattle.attempt_ledger.specs.declared.ledger.Ledger.{Ledger}
use Rattle.attempt_ledger.specs.declared.ledger.LinkSeen.{LinkSeen}
use Rattle.call_core.specs.Parts.{count_of, cut_end, read_in, read_of}
use Rattle.call_core.specs.Steps.{Stepped, closed_by, cut_all, cut_row, end_stamped, ended_as}
use Rattle.call_core.specs.declared.live.LiveRow.{LiveRow}
use Rattle.grpc_base.specs.declared.event.EndCause.{EndCause}
use Rattle.ledger_stamps.specs.Steps.{changed_at, ended_row, index_at}

-- two lists of links that are read as far
pub record AreReadAlike (ls ks : List LinkSeen) : Type 0 where
  pub each : (k : ℕ) → read_of ls k ≡ read_of ks k

read_by : {X : Type 0} (f g : X → LinkSeen) → ((x : X) → (f x).read ≡ (g x).read) → (o : Option X)
    → option_map_or (λ (l : LinkSeen). l.read) (option_map f o) 0 ≡ option_map_or (λ (l : LinkSeen). l.read) (option_map g o) 0
read_by f g same None = refl
read_by f g same (Some x) = same x

read_at : {X : Type 0} (f g : X → LinkSeen) → ((x : X) → (f x).read ≡ (g x).read) → (xs : List X) (o : Option ℕ) → read_in (map f xs) o ≡ read_in (map g xs) o
read_at f g same xs None = refl
read_at f g same xs (Some i) =
    ap (λ (o : Option LinkSeen). option_map_or (λ (l : LinkSeen). l.read) o 0) (slice_get-map f xs i) ∙ read_by f g same (slice_get xs i)
    ∙ sym (ap (λ (o : Option LinkSeen). option_map_or (λ (l : LinkSeen). l.read) o 0) (slice_get-map g xs i))

pub read_alike : {X : Type 0} (f g : X → LinkSeen) → ((x : X) → (f x).read ≡ (g x).read) → (xs : List X) → AreReadAlike (map f xs) (map g xs)
read_alike f g same xs = record {
  each = λ k.
      ap (λ (n : ℕ). read_in (map f xs) (index_at k n)) (length-map xs f ∙ sym (length-map xs g))
      ∙ read_at f g same xs (index_at k (length (map g xs)));
}

-- a ledger with other links
abbrev pub with_links : List LinkSeen → Ledger → Ledger
with_links ls ledger = record ledger { links = ls }

abbrev pub relent : List LinkSeen → Stepped → Stepped
relent ls z = record z { ledger = with_links ls z.ledger }

module _ (ls : List LinkSeen) (moment : ℕ) (tokens : Option ℕ) where
  cut_relent : (place : ℕ) (o : Option ℕ) (ledger : Ledger) → AreReadAlike ls ledger.links
      → cut_row moment tokens place (with_links ls ledger) o ≡ with_links ls (cut_row moment tokens place ledger o)
  cut_relent place None ledger same = refl
  cut_relent place (Some link) ledger same =
      ap (λ (n : ℕ). record ledger { rows = changed_at (ended_row (cut_end ledger.entry moment n tokens)) ledger.rows place; links = ls }) (same.each link)

  links_cut : (place : ℕ) (o : Option ℕ) (ledger : Ledger) → (cut_row moment tokens place ledger o).links ≡ ledger.links
  links_cut place None ledger = refl
  links_cut place (Some link) ledger = refl

  pub all_relent : (live : List LiveRow) (ledger : Ledger) → AreReadAlike ls ledger.links
      → cut_all None moment tokens live (with_links ls ledger) ≡ with_links ls (cut_all None moment tokens live ledger)
  all_relent [] ledger same = refl
  all_relent (r ∷ live) ledger same =
      ap (cut_all None moment tokens live) (cut_relent r.place r.link ledger same)
      ∙ all_relent live (cut_row moment tokens r.place ledger r.link)
      (record { each = λ k. same.each k ∙ ap (λ (ks : List LinkSeen). read_of ks k) (sym (links_cut r.place r.link ledger)) })

ended_relent : (why : EndCause) (moment : ℕ) (ls : List LinkSeen) (z : Stepped) → AreReadAlike ls z.ledger.links
    → ended_as why moment (relent ls z) ≡ relent ls (ended_as why moment z)
ended_relent why moment ls z same =
    ap (λ (ledger : Ledger). record (ended_as why moment z) { ledger = end_stamped z.call.number why moment ledger })
    (all_relent ls moment (count_of z.tokens) z.call.live z.ledger same)

pub closed_relent : (why : EndCause) (moment : ℕ) (ls : List LinkSeen) (z : Stepped) → z.call.ended ≡ None → AreReadAlike ls z.ledger.links
    → closed_by why moment (relent ls z) ≡ relent ls (closed_by why moment z)
closed_relent why moment ls z going same =
    ap (λ (q : Option EndCause). if not (is_some q) then ended_as why moment (relent ls z) else relent ls z) going
    ∙ ended_relent why moment ls z same
    ∙ sym (ap (λ (q : Option EndCause). relent ls (if not (is_some q) then ended_as why moment z else z)) going)

-- what is left of a ledger
row_rest : (moment : ℕ) (tokens : Option ℕ) (place : ℕ) (o : Option ℕ) (ledger : Ledger)
    → cut_row moment tokens place ledger o ≡ record ledger { rows = (cut_row moment tokens place ledger o).rows }
row_rest moment tokens place None ledger = refl
row_rest moment tokens place (Some link) ledger = refl

pub all_rest : (moment : ℕ) (tokens : Option ℕ) (live : List LiveRow) (ledger : Ledger)
    → cut_all None moment tokens live ledger ≡ record ledger { rows = (cut_all None moment tokens live ledger).rows }
all_rest moment tokens [] ledger = refl
all_rest moment tokens (r ∷ live) ledger =
    let next : Ledger = cut_row moment tokens r.place ledger r.link in
    all_rest moment tokens live next
    ∙ ap (λ (z : Ledger). record z { rows = (cut_all None moment tokens live next).rows }) (row_rest moment tokens r.place r.link ledger)
