-- The keepalives of a table, by the numbers of their links.
use Rattle.std.proofs.Common.{◌≡◌, ℕ, suc, Bool, true, false, ◌==◌, if◌then◌else◌, Option, Some, None, List, [], ◌∷◌, refl, sym, ap, ◌∙◌, true≢false}
use Rattle.std.proofs.lemmas.Bool.{eqb-false, eqb-true, ne_eqb}
use Rattle.std.specs.Prelude.{option_map, slice_get}
use Rattle.keepalive_core.specs.Keepalive.{KeepSeen}
use Rattle.keepalive_core.specs.Table.{changed_at, changed_in, keep_of, opened_at, opened_in, place_of, tend_by, tend_in, tend_kept}
use Rattle.keepalive_core.specs.declared.table.KeptLink.{KeptLink}

-- a link that is not the first: the first one stays
after_the_first : (other place : ℕ) (change : KeepSeen → KeepSeen) (o : Option KeptLink) (k : KeptLink) (links : List KeptLink)
    → keep_of other (changed_at (suc place) change o (k ∷ links)) ≡ (if k.link == other then Some k.keep else keep_of other (changed_at place change o links))
after_the_first other place change (Some x) k links = refl
after_the_first other place change None k links = refl

opened_after_first : (link other place : ℕ) (keep : KeepSeen) (o : Option KeptLink) (k : KeptLink) (links : List KeptLink)
    → keep_of other (opened_at link (suc place) keep o (k ∷ links)) ≡ (if k.link == other then Some k.keep else keep_of other (opened_at link place keep o links))
opened_after_first link other place keep (Some x) k links = refl
opened_after_first link other place keep None k links = refl

apart : (link other first : ℕ) → (first == link) ≡ false → (first == other) ≡ true → (link == other) ≡ false
apart link other first miss hit = ne_eqb link other (λ e. eqb-false first link miss (eqb-true first other hit ∙ sym e))

-- what a call leaves of the keepalive of another link, and of its own
abbrev Changed : ℕ → ℕ → (KeepSeen → KeepSeen) → List KeptLink → Type 0
Changed link other change links = keep_of other (changed_in link change links) ≡ (if link == other then option_map change (keep_of other links) else keep_of other links)

own_changed : (change : KeepSeen → KeepSeen) (keep : KeepSeen) (later : Option KeepSeen) (b c : Bool) → b ≡ c
    → (if b then Some (change keep) else later) ≡ (if c then option_map change (if b then Some keep else later) else (if b then Some keep else later))
own_changed change keep later true true same = refl
own_changed change keep later true false same = absurd (true≢false same)
own_changed change keep later false true same = absurd (true≢false (sym same))
own_changed change keep later false false same = refl

other_changed : (link other : ℕ) (change : KeepSeen → KeepSeen) (k : KeptLink) (links : List KeptLink) → Changed link other change links → (k.link == link) ≡ false → (b : Bool) → (k.link == other) ≡ b
    → (if b then Some k.keep else keep_of other (changed_in link change links)) ≡ (if link == other then option_map change (if b then Some k.keep else keep_of other links) else (if b then Some k.keep else keep_of other links))
other_changed link other change k links later miss true here = sym (ap (λ (c : Bool). if c then Some (change k.keep) else Some k.keep) (apart link other k.link miss here))
other_changed link other change k links later miss false here = later

first_changed : (link other : ℕ) (change : KeepSeen → KeepSeen) (k : KeptLink) (links : List KeptLink) → Changed link other change links → (b : Bool) → (k.link == link) ≡ b
    → keep_of other (changed_at (if b then 0 else suc (place_of link links)) change (slice_get (k ∷ links) (if b then 0 else suc (place_of link links))) (k ∷ links))
    ≡ (if link == other then option_map change (if k.link == other then Some k.keep else keep_of other links) else (if k.link == other then Some k.keep else keep_of other links))
first_changed link other change k links later true here = own_changed change k.keep (keep_of other links) (k.link == other) (link == other) (ap (λ (n : ℕ). n == other) (eqb-true k.link link here))
first_changed link other change k links later false here = after_the_first other (place_of link links) change (slice_get links (place_of link links)) k links ∙ other_changed link other change k links later here (k.link == other) refl

none_changed : (change : KeepSeen → KeepSeen) (b : Bool) → ◌≡◌ {A = Option KeepSeen} None (if b then option_map change None else None)
none_changed change true = refl
none_changed change false = refl

pub changed_keeps : (link other : ℕ) (change : KeepSeen → KeepSeen) (links : List KeptLink)
    → keep_of other (changed_in link change links) ≡ (if link == other then option_map change (keep_of other links) else keep_of other links)
changed_keeps link other change [] = none_changed change (link == other)
changed_keeps link other change (k ∷ links) = first_changed link other change k links (changed_keeps link other change links) (k.link == link) refl

abbrev Opens : ℕ → ℕ → KeepSeen → List KeptLink → Type 0
Opens link other keep links = keep_of other (opened_in link keep links) ≡ (if link == other then Some keep else keep_of other links)

own_opened : (keep before : KeepSeen) (later : Option KeepSeen) (b c : Bool) → b ≡ c → (if b then Some keep else later) ≡ (if c then Some keep else (if b then Some before else later))
own_opened keep before later true true same = refl
own_opened keep before later true false same = absurd (true≢false same)
own_opened keep before later false true same = absurd (true≢false (sym same))
own_opened keep before later false false same = refl

other_opened : (link other : ℕ) (keep : KeepSeen) (k : KeptLink) (links : List KeptLink) → Opens link other keep links → (k.link == link) ≡ false → (b : Bool) → (k.link == other) ≡ b
    → (if b then Some k.keep else keep_of other (opened_in link keep links)) ≡ (if link == other then Some keep else (if b then Some k.keep else keep_of other links))
other_opened link other keep k links later miss true here = sym (ap (λ (c : Bool). if c then Some keep else Some k.keep) (apart link other k.link miss here))
other_opened link other keep k links later miss false here = later

first_opened : (link other : ℕ) (keep : KeepSeen) (k : KeptLink) (links : List KeptLink) → Opens link other keep links → (b : Bool) → (k.link == link) ≡ b
    → keep_of other (opened_at link (if b then 0 else suc (place_of link links)) keep (slice_get (k ∷ links) (if b then 0 else suc (place_of link links))) (k ∷ links))
    ≡ (if link == other then Some keep else (if k.link == other then Some k.keep else keep_of other links))
first_opened link other keep k links later true here = own_opened keep k.keep (keep_of other links) (k.link == other) (link == other) (ap (λ (n : ℕ). n == other) (eqb-true k.link link here))
first_opened link other keep k links later false here = opened_after_first link other (place_of link links) keep (slice_get links (place_of link links)) k links ∙ other_opened link other keep k links later here (k.link == other) refl

pub opened_keeps : (link other : ℕ) (keep : KeepSeen) (links : List KeptLink)
    → keep_of other (opened_in link keep links) ≡ (if link == other then Some keep else keep_of other links)
opened_keeps link other keep [] = refl
opened_keeps link other keep (k ∷ links) = first_opened link other keep k links (opened_keeps link other keep links) (k.link == link) refl

first_asked : (link moment : ℕ) (k : KeptLink) (links : List KeptLink) → tend_in links link moment ≡ tend_by moment (keep_of link links) → (b : Bool)
    → tend_kept moment (slice_get (k ∷ links) (if b then 0 else suc (place_of link links))) ≡ tend_by moment (if b then Some k.keep else keep_of link links)
first_asked link moment k links later true = refl
first_asked link moment k links later false = later

pub asked_by : (link moment : ℕ) (links : List KeptLink) → tend_in links link moment ≡ tend_by moment (keep_of link links)
asked_by link moment [] = refl
asked_by link moment (k ∷ links) = first_asked link moment k links (asked_by link moment links) (k.link == link)
