-- What a book has once a call that it lent did something.
use Rattle.std.proofs.Common.{◌≡◌, ◌∙◌, ◌≤◌, ℕ, zero, suc, ◌-◌, ◌==◌, Bool, nat_lt, if◌then◌else◌, List, [], length, drop, sym, ap, subst, inl, inr, arith, slice_set, Option, Some, None, Result, Ok, Err, IfOk, OnOk, OnErr}
use Rattle.std.proofs.lemmas.Bool.{cases_Bool, ltb-false}
use Rattle.std.proofs.lemmas.Option.{slice_get_past}
use Rattle.grpc_base.specs.declared.plan.Chosen.{Chosen}
use Rattle.a6_numbers.specs.Throttling.{Bucket}
use Rattle.attempt_buffer.specs.Buffers.{left_of}
use Rattle.attempt_ledger.specs.declared.ledger.Ledger.{Ledger}
use Rattle.call_core.specs.declared.act.CallAct.{CallAct}
use Rattle.call_core.specs.declared.state.CallState.{CallState}
use Rattle.call_core.specs.Steps.{Stepped, configured, lent}
use Rattle.channel_core.specs.Books.{acted_in, book_acted, book_after, book_asked, book_configured, bucket_at, bucket_set, placed_in_book, slot_at}
use Rattle.channel_core.specs.Tables.{Acted, BucketsSeen, acted, acted_as, acted_at, acted_on, left_at, numbered, tokens_in, with_call, with_tokens}
use Rattle.channel_core.specs.declared.state.book.Book.{Book}
use Rattle.channel_core.specs.declared.state.slots.CallSlot.{CallSlot}
use Rattle.channel_core.proofs.Places.{put_same, put_there}

-- the call of a number does something
acted_is : (f : Stepped → Stepped) (calls : List CallSlot) (call : ℕ) (ledger : Ledger) (tokens : Option Bucket) (x : CallSlot) → numbered calls call ≡ Some x
    → acted f calls call ledger tokens ≡ acted_as calls (call - 1) x (f (lent x.call ledger tokens []))
acted_is f calls zero ledger tokens x is = absurd (let no : ⊥ = (cc) in no)
acted_is f calls (suc k) ledger tokens x is =
    let D : Bool → Acted = λ b. acted_on f calls ledger tokens (if b then Some k else None) in
    let place : suc k - 1 ≡ k = omega arith in
    elim (cases_Bool (nat_lt k (length calls))) [
      | inl inside ↦
          ap D inside ∙ ap (acted_at f calls k ledger tokens) is
          ∙ sym (ap (λ i. acted_as calls i x (f (lent x.call ledger tokens []))) place)
      | inr out ↦ let e : None ≡ Some x = sym (slice_get_past calls k (ltb-false k (length calls) out)) ∙ is in absurd (let no : ⊥ = (cc) in no)
    ]

-- and is written back
written : (f : Stepped → Stepped) (b : Book) (call : ℕ) (tokens : Option Bucket) (x : CallSlot) (c : CallState) (l : Ledger) → numbered b.calls call ≡ Some x
    → c ≡ (f (lent x.call b.ledger tokens [])).call → l ≡ (f (lent x.call b.ledger tokens [])).ledger
    → record b { calls = slice_set b.calls (call - 1) (with_call c x); ledger = l } ≡ (placed_in_book (acted f b.calls call b.ledger tokens) b).book
written f b call tokens x c l is new ledger =
    let s : Stepped = f (lent x.call b.ledger tokens []) in
    ap (λ (v : CallState). record b { calls = slice_set b.calls (call - 1) (with_call v x); ledger = l }) new
    ∙ ap (λ (v : Ledger). record b { calls = slice_set b.calls (call - 1) (with_call s.call x); ledger = v }) ledger
    ∙ sym (ap (λ (a : Acted). (placed_in_book a b).book) (acted_is f b.calls call b.ledger tokens x is))

-- the tokens are only looked at
looked : (f : Stepped → Stepped) (b : Book) (call : ℕ) (tokens : Option Bucket) (x : CallSlot) → numbered b.calls call ≡ Some x → tokens ≡ tokens_in b.buckets x.bucket
    → acted f b.calls call b.ledger tokens ≡ acted f b.calls call b.ledger (tokens_in b.buckets (bucket_at (slot_at b call)))
looked f b call tokens x is lends = ap (λ (t : Option Bucket). acted f b.calls call b.ledger t) (lends ∙ sym (ap (λ (o : Option CallSlot). tokens_in b.buckets (bucket_at o)) is))

pub asked_book : {T E : Type 0} (f : Stepped → Stepped) (b : Book) (call : ℕ) (tokens : Option Bucket) (x : CallSlot) (c : CallState) (l : Ledger) (r : Result T E) → numbered b.calls call ≡ Some x
    → tokens ≡ tokens_in b.buckets x.bucket → OnOk r (c ≡ (f (lent x.call b.ledger tokens [])).call) → OnOk r (l ≡ (f (lent x.call b.ledger tokens [])).ledger)
    → OnOk r (record b { calls = slice_set b.calls (call - 1) (with_call c x); ledger = l } ≡ (book_asked f call b).book)
asked_book f b call tokens x c l (Ok u) is lends new ledger =
    written f b call tokens x c l is new ledger ∙ ap (λ (a : Acted). (placed_in_book a b).book) (looked f b call tokens x is lends)
asked_book f b call tokens x c l (Err e) is lends new ledger = new

pub asked_acts : {T E : Type 0} (acts : T → List CallAct) (f : Stepped → Stepped) (b : Book) (call : ℕ) (tokens : Option Bucket) (x : CallSlot) (r : Result T E) → numbered b.calls call ≡ Some x
    → tokens ≡ tokens_in b.buckets x.bucket → IfOk r (λ v. acts v ≡ (f (lent x.call b.ledger tokens [])).acts) → IfOk r (λ v. acts v ≡ (book_asked f call b).acts)
asked_acts acts f b call tokens x (Ok v) is lends reported =
    reported ∙ sym (ap (λ (a : Acted). a.acts) (acted_is f b.calls call b.ledger tokens x is)) ∙ ap (λ (a : Acted). a.acts) (looked f b call tokens x is lends)
asked_acts acts f b call tokens x (Err e) is lends reported = reported

-- there are none
pub configured_book : {T E : Type 0} (chosen : Chosen) (b mid : Book) (call : ℕ) (x : CallSlot) (c : CallState) (l : Ledger) (r : Result T E) → mid ≡ record b { calls = bucket_set call b } → numbered mid.calls call ≡ Some x
    → OnOk r (c ≡ (configured chosen mid.moment (lent x.call mid.ledger None [])).call) → OnOk r (l ≡ (configured chosen mid.moment (lent x.call mid.ledger None [])).ledger)
    → OnOk r (record mid { calls = slice_set mid.calls (call - 1) (with_call c x); ledger = l } ≡ (book_configured chosen call b).book)
configured_book chosen b mid call x c l (Ok u) set is new ledger =
    written (configured chosen mid.moment) mid call None x c l is new ledger
    ∙ ap (λ (m : Book). (placed_in_book (acted (configured chosen m.moment) m.calls call m.ledger None) m).book) set
configured_book chosen b mid call x c l (Err e) set is new ledger = new

pub configured_acts : {E : Type 0} (chosen : Chosen) (b mid : Book) (call : ℕ) (x : CallSlot) (r : Result (List CallAct) E) → mid ≡ record b { calls = bucket_set call b } → numbered mid.calls call ≡ Some x
    → IfOk r (λ v. v ≡ (configured chosen mid.moment (lent x.call mid.ledger None [])).acts) → IfOk r (λ v. v ≡ (book_configured chosen call b).acts)
configured_acts chosen b mid call x (Ok v) set is reported =
    reported ∙ sym (ap (λ (a : Acted). a.acts) (acted_is (configured chosen mid.moment) mid.calls call mid.ledger None x is))
    ∙ ap (λ (m : Book). (acted (configured chosen m.moment) m.calls call m.ledger None).acts) set
configured_acts chosen b mid call x (Err e) set is reported = reported

-- they are taken and put back
pub acted_book : (f : Stepped → Stepped) (b : Book) (call : ℕ) (tokens left : Option Bucket) (taken back : BucketsSeen) (x : CallSlot) (c : CallState) (l : Ledger) → numbered b.calls call ≡ Some x
    → tokens ≡ tokens_in b.buckets x.bucket → taken ≡ with_tokens x.bucket None b.buckets → back ≡ with_tokens x.bucket left taken
    → c ≡ (f (lent x.call b.ledger tokens [])).call → l ≡ (f (lent x.call b.ledger tokens [])).ledger → left ≡ (f (lent x.call b.ledger tokens [])).tokens
    → record b { calls = slice_set b.calls (call - 1) (with_call c x); ledger = l; buckets = back } ≡ (book_acted f call b).book
acted_book f b call tokens left taken back x c l is lends takes puts new ledger leaves =
    let s : Stepped = f (lent x.call b.ledger tokens []) in
    let put : back ≡ with_tokens x.bucket s.tokens (with_tokens x.bucket None b.buckets) =
    puts ∙ ap (λ (t : Option Bucket). with_tokens x.bucket t taken) leaves ∙ ap (with_tokens x.bucket s.tokens) takes in
    let after : Acted → Book = λ a. book_after x.bucket a.tokens a b in
    ap (λ (v : CallState). record b { calls = slice_set b.calls (call - 1) (with_call v x); ledger = l; buckets = back }) new
    ∙ ap (λ (v : Ledger). record b { calls = slice_set b.calls (call - 1) (with_call s.call x); ledger = v; buckets = back }) ledger
    ∙ ap (λ (v : BucketsSeen). record b { calls = slice_set b.calls (call - 1) (with_call s.call x); ledger = s.ledger; buckets = v }) put
    ∙ sym (ap after (acted_is f b.calls call b.ledger tokens x is))
    ∙ ap (λ (t : Option Bucket). after (acted f b.calls call b.ledger t)) lends
    ∙ sym (ap (λ (o : Option CallSlot). (acted_in f call (bucket_at o) b).book) is)

pub acted_acts : (f : Stepped → Stepped) (b : Book) (call : ℕ) (tokens : Option Bucket) (x : CallSlot) (acts : List CallAct) → numbered b.calls call ≡ Some x
    → tokens ≡ tokens_in b.buckets x.bucket → acts ≡ (f (lent x.call b.ledger tokens [])).acts → acts ≡ (book_acted f call b).acts
acted_acts f b call tokens x acts is lends reported =
    reported ∙ sym (ap (λ (a : Acted). a.acts) (acted_is f b.calls call b.ledger tokens x is)) ∙ ap (λ (a : Acted). a.acts) (looked f b call tokens x is lends)

-- a call gives bytes
pub fed_left : {T E : Type 0} (row len number : ℕ) (calls : List CallSlot) (x : CallSlot) (c : CallState) (r : Result T E) → numbered calls number ≡ Some x
    → OnOk r (len ≤ length (left_of row x.call.buffer) → (t : ℕ) → left_of t c.buffer ≡ (if t == row then drop len (left_of row x.call.buffer) else left_of t x.call.buffer))
    → OnOk r (len ≤ length (left_at row (numbered calls number)) → (t : ℕ) → left_at t (numbered (slice_set calls (number - 1) (with_call c x)) number) ≡ (if t == row then drop len (left_at row (numbered calls number)) else left_at t (numbered calls number)))
fed_left row len number calls x c (Ok u) is left =
    λ fits t.
    ap (left_at t) (put_there calls number x (with_call c x) is)
    ∙ left (subst (λ (o : Option CallSlot). len ≤ length (left_at row o)) is fits) t
    ∙ sym (ap (λ (o : Option CallSlot). if t == row then drop len (left_at row o) else left_at t o) is)
fed_left row len number calls x c (Err e) is left = left

pub fed_err : {T E : Type 0} (number : ℕ) (calls : List CallSlot) (x : CallSlot) (c : CallState) (r : Result T E) → numbered calls number ≡ Some x → OnErr r (c ≡ x.call)
    → OnErr r (slice_set calls (number - 1) (with_call c x) ≡ calls)
fed_err number calls x c (Ok u) is same = same
fed_err number calls x c (Err e) is same = put_same calls number x (with_call c x) is (ap (λ (v : CallState). with_call v x) same)
