-- A reader is put after the others.
use Rattle.std.proofs.Common.{◌≡◌, ◌∷◌, ◌++◌, ◌||◌, ◌==◌, ap, arith, refl, subst, sym, ◌∙◌, Bool, true, false, List, [], Option, None, Some, ℕ, ◌+◌, filter, if◌then◌else◌}
use Rattle.std.specs.List.{remove}
use Rattle.grpc_link.specs.Links.{opened_at, opened_one, reader_in, with_reader}
use Rattle.grpc_link.specs.Readers.{ReaderSeen}
use Rattle.grpc_link.specs.declared.readers.TagReader.{TagReader}
use Rattle.lb_policy.specs.Table.{is_one_of}
use Rattle.link_actions.specs.Sees.{NumbersAreDistinct}
use Rattle.link_actions.proofs.ResponseActions.Found.{IsFound, afterwards_by, distinct_left, distinct_snoc, find_reader, is_other_reader, never_left, none_left, others_left, own_after, tags, tags_snoc}

-- the reader of a tag is this one, and the others are as they were
pub record IsPut (tag : ℕ) (x : ReaderSeen) (before after : List TagReader) : Type 0 where
  pub own : reader_in tag after ≡ Some x
  pub others : (k : ℕ) → (k == tag) ≡ false → reader_in k after ≡ reader_in k before
  pub distinct : NumbersAreDistinct (tags after)

untagged_by : (tag : ℕ) (t : TagReader) (readers : List TagReader) (b : Bool) → (t.tag == tag) ≡ b → (if b then Some t.reader else reader_in tag readers) ≡ None
    → (reader_in tag readers ≡ None → is_one_of (tags readers) tag ≡ false) → (b || is_one_of (tags readers) tag) ≡ false
untagged_by tag t readers true is e next = absurd (let no : ⊥ = (cc) in no)
untagged_by tag t readers false is e next = next e

untagged : (tag : ℕ) (readers : List TagReader) → reader_in tag readers ≡ None → is_one_of (tags readers) tag ≡ false
untagged tag [] none = refl
untagged tag (t ∷ readers) none = untagged_by tag t readers (t.tag == tag) refl none (λ h. untagged tag readers h)

pub put_last : (tag : ℕ) (x : ReaderSeen) (readers : List TagReader) → reader_in tag readers ≡ None → NumbersAreDistinct (tags readers) → IsPut tag x readers (with_reader tag x readers)
put_last tag x readers none all = record {
  own = own_after tag x readers none;
  others = λ k apart. afterwards_by tag k x readers apart;
  distinct = subst NumbersAreDistinct (sym (tags_snoc tag x readers)) (distinct_snoc tag (tags readers) all (untagged tag readers none));
}

-- the stream of a reader is opened
pub open_one : (tag : ℕ) (x : ReaderSeen) (readers : List TagReader) → reader_in tag readers ≡ Some x → NumbersAreDistinct (tags readers)
    → IsPut tag (record x { opened = true }) readers (opened_one tag readers)
open_one tag x readers there all =
    let f : IsFound tag 0 readers x = find_reader tag 0 readers x all there in
    let at : f.place ≡ 0 + f.index = f.place_is in
    let here : f.place ≡ f.index = omega (arith, at) in
    let kept : List TagReader = filter (is_other_reader tag) readers in
    let left : remove readers f.place ≡ kept = ap (remove readers) here ∙ f.left in
    let y : ReaderSeen = record x { opened = true } in
    let same : opened_one tag readers ≡ with_reader tag y kept = ap (opened_at tag readers) f.found_ ∙ ap (with_reader tag y) left in
    let put : IsPut tag y kept (with_reader tag y kept) = put_last tag y kept (none_left tag readers) (distinct_left tag readers all) in
    subst (IsPut tag y readers) (sym same)
    (record { own = put.own; others = λ k apart. put.others k apart ∙ others_left tag k readers apart; distinct = put.distinct })
