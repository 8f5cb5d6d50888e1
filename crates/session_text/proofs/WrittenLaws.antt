-- How much of an output was written, for one that is more than another.
use Rattle.std.proofs.Common.{◌≡◌, ◌∙◌, ℕ, Option, List, ap, inl, inr}
use Rattle.std.specs.Prelude.{Result, Ok, Err, OnOk, OnErr}
use Rattle.gate_io.specs.Outside.{AppendsPrefix}
use Rattle.script_text.proofs.Passing.{AppendsPrefix-none}
use Rattle.session_text.specs.Writing.{WritesAll, WritesPrefix, WritesSome}

-- nothing written is a prefix of any text
pub none_written : (taken : Option (List ℕ)) (text : List ℕ) → AppendsPrefix taken taken text
none_written taken text = AppendsPrefix-none taken text

pub all_as : (P Q : List ℕ → Type 0) (taken taken' : Option (List ℕ)) → ((text : List ℕ) → P text → Q text) → WritesAll P taken taken' → WritesAll Q taken taken'
all_as P Q taken taken' more all = (all.0, more all.0 all.1, all.2)

pub prefix_as : (P Q : List ℕ → Type 0) (taken taken' : Option (List ℕ)) → ((text : List ℕ) → P text → Q text) → WritesPrefix P taken taken' → WritesPrefix Q taken taken'
prefix_as P Q taken taken' more prefix = (prefix.0, more prefix.0 prefix.1, prefix.2)

pub some_as : (P Q : List ℕ → Type 0) (taken taken' : Option (List ℕ)) → ((text : List ℕ) → P text → Q text) → WritesSome P taken taken' → WritesSome Q taken taken'
some_as P Q taken taken' more (inl same) = inl same
some_as P Q taken taken' more (inr prefix) = inr (prefix_as P Q taken taken' more prefix)

-- what holds where a call succeeded, or where it failed, holds of what follows from it
pub on_ok_as : {T E P Q : Type 0} → (r : Result T E) → (P → Q) → OnOk r P → OnOk r Q
on_ok_as (Ok value) more holds = more holds
on_ok_as (Err fault) more holds = tt

pub on_err_as : {T E P Q : Type 0} → (r : Result T E) → (P → Q) → OnErr r P → OnErr r Q
on_err_as (Ok value) more holds = tt
on_err_as (Err fault) more holds = more holds

pub err_holds : {T E P : Type 0} → (r : Result T E) (fault : E) → r ≡ Err fault → OnErr r P → P
err_holds (Ok value) fault same holds = absurd (cc)
err_holds (Err other) fault same holds = holds

-- a fault that is a failed write
pub err_write : {T E P : Type 0} → {write : E} → (r : Result T E) (fault : E) → r ≡ Err fault → fault ≡ write → (r ≡ Err write → P) → P
err_write {T} {E} r fault same is holds = holds (same ∙ ap (λ (e : E). Err e) is)
