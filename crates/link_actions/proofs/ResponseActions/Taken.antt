-- Readers through other actions: what leaves responses leaves them; and an attempt that is cut off loses its own.
use Rattle.std.proofs.Common.{◌≡◌, ap, arith, refl, subst, sym, ◌∙◌, List, Option, None, Some, ℕ, ◌+◌, filter}
use Rattle.std.specs.List.{remove}
use Rattle.grpc_link.specs.Links.{reader_in, without, without_at}
use Rattle.grpc_link.specs.Readers.{ReaderSeen}
use Rattle.grpc_link.specs.declared.readers.TagReader.{TagReader}
use Rattle.link_actions.proofs.ResponseActions.Found.{IsFound, distinct_left, find_none, find_reader, is_other_reader, none_left, others_left}
use Rattle.link_actions.specs.ResponseActions.Laws.{CutsTakeReaders, ReadersAreLeft, ReadsAlike}
use Rattle.link_actions.specs.ResponseActions.Readers.{IsReaderOf, SeesReaders, SeesReadersBut, attempt_on}
use Rattle.session_actions.specs.declared.attempt.Attempt.{Attempt}
use Rattle.session_actions.specs.declared.link.Link.{Link}
use Rattle.session_actions.specs.declared.seen.Seen.{Seen}

left_by : (s t : Seen) (o p : Option Attempt) (x : Option ReaderSeen) → ReadsAlike s t o p → IsReaderOf s o x → IsReaderOf t p x
left_by s t None None None alike is = tt
left_by s t None None (Some y) alike is = absurd is
left_by s t (Some a) (Some b) None alike is = absurd is
left_by s t (Some a) (Some b) (Some y) alike is = record {
  opened = alike.stream ∙ is.opened;
  head = alike.head ∙ is.head;
  over = is.over;
  limit = alike.limit ∙ is.limit;
  rest = alike.rest ∙ is.rest;
  whole = is.whole;
}
left_by s t None (Some b) x alike is = absurd alike
left_by s t (Some a) None x alike is = absurd alike

pub readers_are_left : ReadersAreLeft
readers_are_left l m s t readers is alike =
    record { each = λ k. left_by s t (attempt_on l s k) (attempt_on m t k) (reader_in k readers) (alike k) (is.each k); distinct = is.distinct }

taken_by : (l : Link) (s : Seen) (t : ℕ) (readers : List TagReader) (o : Option ReaderSeen) → reader_in t readers ≡ o → SeesReaders l s readers → SeesReadersBut t l s (without t readers)
taken_by l s t readers None e is =
    let same : without t readers ≡ readers = ap (without_at readers) (find_none t 0 readers e) in
    subst (SeesReadersBut t l s) (sym same) (record { each = λ k apart. is.each k; own = e; distinct = is.distinct })
taken_by l s t readers (Some x) e is =
    let f : IsFound t 0 readers x = find_reader t 0 readers x is.distinct e in
    let at : f.place ≡ 0 + f.index = f.place_is in
    let here : f.place ≡ f.index = omega (arith, at) in
    let left : List TagReader = filter (is_other_reader t) readers in
    let same : without t readers ≡ left = ap (without_at readers) f.found_ ∙ ap (remove readers) here ∙ f.left in
    subst (SeesReadersBut t l s) (sym same) (record {
      each = λ k apart. subst (λ (y : Option ReaderSeen). IsReaderOf s (attempt_on l s k) y) (sym (others_left t k readers apart)) (is.each k);
      own = none_left t readers;
      distinct = distinct_left t readers is.distinct;
    })

pub cuts_take_readers : CutsTakeReaders
cuts_take_readers l s t readers is = taken_by l s t readers (reader_in t readers) refl is
