-- What the book lends links: both sizes of a header list, and the lines after the bytes that a link takes.
use Rattle.std.proofs.Common.{◌≡◌, ◌∙◌, ◌≤◌, ℕ, zero, suc, ◌+◌, ◌==◌, Bool, true, false, nat_lt, if◌then◌else◌, List, [], ◌∷◌, length, drop, refl, sym, ap, inl, inr, subst, slice_get, slice_set, Option, Some, None, Result, Ok, Err, IfOk, OnOk, OnErr}
use Rattle.std.specs.Option.{option_map, option_map_or}
use Rattle.std.proofs.Math.Path.{fun_ext}
use Rattle.std.proofs.lemmas.Bool.{cases_Bool, cases_eq, eq-eqb, ltb-false, ne_eqb}
use Rattle.std.proofs.lemmas.List.Sums.{sum_by-cons}
use Rattle.std.proofs.lemmas.Option.{slice_get_past}
use Rattle.grpc_base.specs.declared.fields.Field.{Field}
use Rattle.a6_numbers.specs.Throttling.{Bucket}
use Rattle.attempt_ledger.specs.declared.row.Row.{Row}
use Rattle.call_core.specs.declared.state.CallState.{CallState}
use Rattle.grpc_meta.specs.RequestFields as request
use Rattle.h2_hpack.specs.Tables as hpack
use Rattle.h2_link.specs.Feeds.{Line, fed}
use Rattle.channel_core.specs.Feeding.{IsFed}
use Rattle.ledger_stamps.specs.Steps.{changed, changed_at, index_at}
use Rattle.channel_core.specs.Books.{call_of, finished_at, head_for, head_of, lines_of, row_at, slot_at, slot_of_tag}
use Rattle.channel_core.specs.Tables.{BucketsSeen, changed_call, changed_call_at, changed_call_on, fed_call, left_at, numbered, tokens_in, with_call, with_tokens}
use Rattle.channel_core.specs.declared.state.book.Book.{Book}
use Rattle.channel_core.specs.declared.state.slots.CallSlot.{CallSlot}

-- both sizes of a header list are one
one_size : (fields : List Field) → request.list_size fields ≡ hpack.list_size fields
one_size [] = refl
one_size (f ∷ fields) = sum_by-cons request.field_size f fields ∙ ap (λ n. hpack.field_size f + n) (one_size fields)

pub size_fits : {E : Type 0} (r : Result (List Field) E) → IfOk r (λ f. request.list_size f ≤ request.list_limit) → IfOk r (λ f. hpack.list_size f ≤ 16384)
size_fits (Ok f) h = let P : ℕ → Type 0 = λ n. n ≤ 16384 in subst P (one_size f) h
size_fits (Err e) h = h

-- one call of the table alone is fed
abbrev pub called : (CallState → CallState) → CallSlot → CallSlot
called f slot = with_call (f slot.call) slot

abbrev fed_slot : ℕ → ℕ → CallSlot → CallSlot
fed_slot row len = called (fed_call row len)

put_after : (f : CallState → CallState) (x : CallSlot) (calls : List CallSlot) (k : ℕ) (o : Option CallSlot) → changed_call_at f (x ∷ calls) (suc k) o ≡ x ∷ changed_call_at f calls k o
put_after f x calls k None = refl
put_after f x calls k (Some slot) = refl

put_there : (f : CallState → CallState) (calls : List CallSlot) (k : ℕ) → changed_call_at f calls k (slice_get calls k) ≡ changed (called f) calls k
put_there f [] k = refl
put_there f (x ∷ calls) zero = refl
put_there f (x ∷ calls) (suc k) = put_after f x calls k (slice_get calls k) ∙ ap (λ l. x ∷ l) (put_there f calls k)

put_on : (f : CallState → CallState) (calls : List CallSlot) (o : Option ℕ) → changed_call_on f calls o ≡ option_map_or (λ i. changed (called f) calls i) o calls
put_on f calls None = refl
put_on f calls (Some k) = put_there f calls k

pub put_call : (f : CallState → CallState) (calls : List CallSlot) (n : ℕ) → changed_call f calls n ≡ changed_at (called f) calls n
put_call f calls n = put_on f calls (index_at n (length calls))

-- the element of a number, after a change at one
pub got_changed : {X : Type 0} (f : X → X) (xs : List X) (k : ℕ) → slice_get (changed f xs k) k ≡ option_map f (slice_get xs k)
got_changed f [] k = refl
got_changed f (x ∷ xs) zero = refl
got_changed f (x ∷ xs) (suc k) = got_changed f xs k

pub got_other : {X : Type 0} (f : X → X) (xs : List X) (k j : ℕ) → (j ≡ k → ⊥) → slice_get (changed f xs k) j ≡ slice_get xs j
got_other f [] k j ne = refl
got_other f (x ∷ xs) zero zero ne = absurd (ne refl)
got_other f (x ∷ xs) zero (suc j) ne = refl
got_other f (x ∷ xs) (suc k) zero ne = refl
got_other f (x ∷ xs) (suc k) (suc j) ne = got_other f xs k j (λ e. ne (ap suc e))

past_changed : {X : Type 0} (f : X → X) (xs : List X) (k : ℕ) → nat_lt k (length xs) ≡ false → slice_get xs k ≡ option_map f (slice_get xs k)
past_changed f xs k past =
    let none : slice_get xs k ≡ None = slice_get_past xs k (ltb-false k (length xs) past) in none ∙ sym (ap (option_map f) none)

pub number_changed : {X : Type 0} (f : X → X) (xs : List X) (n : ℕ) → numbered (changed_at f xs n) n ≡ option_map f (numbered xs n)
number_changed {X} f xs zero = refl
number_changed {X} f xs (suc k) =
    let D : Bool → List X = λ b. option_map_or (λ i. changed f xs i) (if b then Some k else None) xs in
    elim (cases_Bool (nat_lt k (length xs))) [
      | inl inside ↦ ap (λ l. slice_get l k) (ap D inside) ∙ got_changed f xs k
      | inr past ↦ ap (λ l. slice_get l k) (ap D past) ∙ past_changed f xs k past
    ]

pub number_other : {X : Type 0} (f : X → X) (xs : List X) (n m : ℕ) → (m ≡ n → ⊥) → numbered (changed_at f xs n) m ≡ numbered xs m
number_other {X} f xs n zero ne = refl
number_other {X} f xs zero (suc j) ne = refl
number_other {X} f xs (suc k) (suc j) ne =
    let D : Bool → List X = λ b. option_map_or (λ i. changed f xs i) (if b then Some k else None) xs in
    elim (cases_Bool (nat_lt k (length xs))) [
      | inl inside ↦ ap (λ l. slice_get l j) (ap D inside) ∙ got_other f xs k j (λ e. ne (ap suc e))
      | inr past ↦ ap (λ l. slice_get l j) (ap D past)
    ]

-- a feed that comes through takes bytes of one row, and another none
pub book_is_fed : {T E : Type 0} (tag len call : ℕ) (b : Book) (calls : List CallSlot) (r : Result T E) → call ≡ call_of (row_at b tag) → OnOk r (calls ≡ changed_call (fed_call tag len) b.calls call)
    → OnErr r (calls ≡ b.calls) → IsFed b (record b { calls = calls })
book_is_fed tag len call b calls (Ok u) there new err =
    let P : List CallSlot → Book = λ c. record b { calls = c } in
    ((tag, len) ∷ [], ap P new ∙ ap (λ k. record b { calls = changed_call (fed_call tag len) b.calls k }) there)
book_is_fed tag len call b calls (Err e) there new err = let P : List CallSlot → Book = λ c. record b { calls = c } in ([], ap P err)

-- the line of a tag
abbrev line : List Field → Bool → List ℕ → Line
line fields finished left = record { held = true; fields = fields; left = left; finished = finished }

head_fed : (row len : ℕ) (b : Book) (r : Row) (o : Option CallSlot) → head_for b r (option_map (fed_slot row len) o) ≡ head_for b r o
head_fed row len b r None = refl
head_fed row len b r (Some slot) = refl

finished_fed : (row len : ℕ) (o : Option CallSlot) → finished_at (option_map (fed_slot row len) o) ≡ finished_at o
finished_fed row len None = refl
finished_fed row len (Some slot) = refl

-- what does not look at the bytes is as it was, of every number
shown : {Y : Type 0} (f : Option CallSlot → Y) (row len : ℕ) (calls : List CallSlot) (n m : ℕ) → ((o : Option CallSlot) → f (option_map (fed_slot row len) o) ≡ f o)
    → f (numbered (changed_at (fed_slot row len) calls n) m) ≡ f (numbered calls m)
shown f row len calls n m same =
    let F : CallSlot → CallSlot = fed_slot row len in
    elim (cases_eq m n) [
      | inl e ↦ ap (λ k. f (numbered (changed_at F calls n) k)) e ∙ ap f (number_changed F calls n) ∙ same (numbered calls n) ∙ ap (λ k. f (numbered calls k)) (sym e)
      | inr ne ↦ ap f (number_other F calls n m ne)
    ]

head_shown : (row len call : ℕ) (b : Book) (o : Option Row) → head_of (record b { calls = changed_at (fed_slot row len) b.calls call }) o ≡ head_of b o
head_shown row len call b None = refl
head_shown row len call b (Some r) = shown (head_for b r) row len b.calls call r.call (head_fed row len b r)

-- what every row of a call has still to send, after a feed of one
abbrev LeftAfter : ℕ → ℕ → Option CallSlot → Option CallSlot → Type 0
LeftAfter row len old new = (t : ℕ) → left_at t new ≡ (if t == row then drop len (left_at row old) else left_at t old)

left_shown : (tag len home : ℕ) (b : Book) (t : ℕ) → home ≡ call_of (row_at b tag) → LeftAfter tag len (slot_at b home) (numbered (changed_at (fed_slot tag len) b.calls home) home)
    → left_at t (numbered (changed_at (fed_slot tag len) b.calls home) (call_of (row_at b t))) ≡ (if t == tag then drop len (left_at t (slot_at b (call_of (row_at b t)))) else left_at t (slot_at b (call_of (row_at b t))))
left_shown tag len home b t is left =
    let F : CallSlot → CallSlot = fed_slot tag len in
    let mine : ℕ = call_of (row_at b t) in
    let old : List ℕ = left_at t (slot_at b mine) in
    let D : Bool → List ℕ = λ x. if x then drop len (left_at tag (slot_at b home)) else left_at t (slot_at b home) in
    let G : Bool → List ℕ = λ x. if x then drop len old else old in
    elim (cases_eq t tag) [
      | inl e ↦
          let here : mine ≡ home = ap (λ u. call_of (row_at b u)) e ∙ sym is in
          ap (λ k. left_at t (numbered (changed_at F b.calls home) k)) here ∙ left t ∙ ap D (eq-eqb t tag e)
          ∙ ap (λ u. drop len (left_at u (slot_at b home))) (sym e) ∙ ap (λ k. drop len (left_at t (slot_at b k))) (sym here) ∙ sym (ap G (eq-eqb t tag e))
      | inr ne ↦
          let other : (t == tag) ≡ false = ne_eqb t tag ne in
          let rest : left_at t (numbered (changed_at F b.calls home) mine) ≡ old =
          (elim (cases_eq mine home) [
            | inl e ↦ ap (λ k. left_at t (numbered (changed_at F b.calls home) k)) e ∙ left t ∙ ap D other ∙ ap (λ k. left_at t (slot_at b k)) (sym e)
            | inr far ↦ ap (left_at t) (number_other F b.calls home mine far)
          ]) in
          rest ∙ sym (ap G other)
    ]

-- the test of a line is that of what is left
fed_line : (x : Bool) (fields : List Field) (finished : Bool) (one other : List ℕ) → line fields finished (if x then one else other) ≡ (if x then line fields finished one else line fields finished other)
fed_line true fields finished one other = refl
fed_line false fields finished one other = refl

line_fed : (tag len home : ℕ) (b : Book) (t : ℕ) → home ≡ call_of (row_at b tag) → LeftAfter tag len (slot_at b home) (numbered (changed_at (fed_slot tag len) b.calls home) home)
    → lines_of (record b { calls = changed_at (fed_slot tag len) b.calls home }) t ≡ fed (lines_of b) tag len t
line_fed tag len home b t is left =
    let calls : List CallSlot = changed_at (fed_slot tag len) b.calls home in
    let mine : ℕ = call_of (row_at b t) in
    let fields : head_of (record b { calls = calls }) (row_at b t) ≡ head_of b (row_at b t) = head_shown tag len home b (row_at b t) in
    let finished : finished_at (numbered calls mine) ≡ finished_at (slot_at b mine) = shown finished_at tag len b.calls home mine (finished_fed tag len) in
    let F : List Field = head_of b (row_at b t) in
    let N : Bool = finished_at (slot_at b mine) in
    let old : List ℕ = left_at t (slot_at b mine) in
    ap (λ f. line f (finished_at (numbered calls mine)) (left_at t (numbered calls mine))) fields
    ∙ ap (λ n. line F n (left_at t (numbered calls mine))) finished
    ∙ ap (line F N) (left_shown tag len home b t is left)
    ∙ fed_line (t == tag) F N (drop len old) old

pub lines_fed : {T E : Type 0} (tag len call : ℕ) (b : Book) (calls : List CallSlot) (r : Result T E) → call ≡ call_of (row_at b tag) → len ≤ length (left_at tag (slot_of_tag b tag))
    → OnOk r (calls ≡ changed_call (fed_call tag len) b.calls call)
    → OnOk r (len ≤ length (left_at tag (numbered b.calls call)) → LeftAfter tag len (numbered b.calls call) (numbered calls call))
    → OnOk r (lines_of (record b { calls = calls }) ≡ fed (lines_of b) tag len)
lines_fed tag len call b calls (Ok u) is there new left =
    let at : calls ≡ changed_at (fed_slot tag len) b.calls call = new ∙ put_call (fed_call tag len) b.calls call in
    let P : ℕ → Type 0 = λ k. len ≤ length (left_at tag (slot_at b k)) in
    let Q : List CallSlot → Type 0 = λ l. LeftAfter tag len (slot_at b call) (numbered l call) in
    ap (λ c. lines_of (record b { calls = c })) at ∙ fun_ext (λ t. line_fed tag len call b t is (subst Q at (left (subst P (sym is) there))))
lines_fed tag len call b calls (Err e) is there new left = new

-- tokens are put back as they were taken
laid : (runs : List (Option Bucket)) (bucket : ℕ) → slice_set (slice_set runs bucket None) bucket (option_map_or (λ tokens. tokens) (slice_get runs bucket) None) ≡ runs
laid [] bucket = refl
laid (x ∷ runs) zero = refl
laid (x ∷ runs) (suc bucket) = ap (λ l. x ∷ l) (laid runs bucket)

pub put_back : (bucket : ℕ) (b : BucketsSeen) → with_tokens bucket (tokens_in b bucket) (with_tokens bucket None b) ≡ b
put_back bucket b = ap (λ (runs : List (Option Bucket)). record b { runs = runs }) (laid b.runs bucket)
