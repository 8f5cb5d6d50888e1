-- The readers of a link, by their tags.
use Rattle.std.proofs.Common.{◌≡◌, ◌≢◌, ℕ, suc, ◌+◌, Bool, true, false, ◌==◌, if◌then◌else◌, Option, Some, None, List, [], ◌∷◌, ◌++◌, refl, sym, ap, subst, ◌∙◌, arith, inl, inr}
use Rattle.std.proofs.lemmas.Bool.{eq-eqb, eqb-true, ne_eqb}
use Rattle.std.specs.Prelude.{option_map}
use Rattle.std.specs.List.{remove}
use Rattle.grpc_base.specs.ErrorCodes.{cancel}
use Rattle.h2_link.specs.declared.news.LinkNews.{LinkNews}
use Rattle.h2_link.specs.Steps.{cut}
use Rattle.grpc_link.specs.Links.{GrpcSeen, found, found_from, news_by, reader_by, reader_in, Report, reported_of, with_reader, without, without_at}
use Rattle.grpc_link.specs.declared.readers.TagReader.{TagReader}
use Rattle.grpc_link.specs.Readers.{ReaderSeen, Stepped, stepped}

-- what is found is the reader of the tag
found_in : (tag from : ℕ) (readers : List TagReader) → option_map (λ x. x.1) (found_from tag from readers) ≡ reader_in tag readers
found_in tag from [] = refl
found_in tag from (t ∷ readers) = by_first (found_in tag (from + 1) readers) (t.tag == tag)
  where
    by_first : option_map (λ x. x.1) (found_from tag (from + 1) readers) ≡ reader_in tag readers → (b : Bool) → option_map (λ x. x.1) (if b then Some (from, t.reader) else found_from tag (from + 1) readers) ≡ (if b then Some t.reader else reader_in tag readers)
    by_first later true = refl
    by_first later false = later

-- without the reader that was found the others stand as they stood
record LeavesOthers (tag other p from : ℕ) (readers : List TagReader) : Type 0 where
  place : ℕ
  place_is : p ≡ from + place
  same : reader_in other (remove readers place) ≡ reader_in other readers

abbrev place_of : Option (ℕ × ReaderSeen) → ℕ
place_of None = 0
place_of (Some x) = x.0

leaves_others : (tag other from p : ℕ) (r : ReaderSeen) (readers : List TagReader) → tag ≢ other → found_from tag from readers ≡ Some (p, r) → LeavesOthers tag other p from readers
leaves_others tag other from p r [] apart h = absurd (let no : ⊥ = (cc) in no)
leaves_others tag other from p r (t ∷ readers) apart h = by_first (λ is. leaves_others tag other (from + 1) p r readers apart is) (t.tag == tag) refl h
  where
    by_first : (found_from tag (from + 1) readers ≡ Some (p, r) → LeavesOthers tag other p (from + 1) readers) → (b : Bool) → (t.tag == tag) ≡ b → (if b then Some (from, t.reader) else found_from tag (from + 1) readers) ≡ Some (p, r) → LeavesOthers tag other p from (t ∷ readers)
    by_first afterwards true here is =
        let place : from ≡ p = ap place_of is in
        let not_it : (t.tag == other) ≡ false = ne_eqb t.tag other (λ e. apart (sym (eqb-true t.tag tag here) ∙ e)) in record {
          place = 0;
          place_is = omega (arith, place);
          same = sym (ap (λ (b : Bool). if b then Some t.reader else reader_in other readers) not_it);
        }
    by_first afterwards false here is =
        let later = afterwards is in record {
          place = suc later.place;
          place_is = omega (arith, later.place_is);
          same = ap (λ (o : Option ReaderSeen). if t.tag == other then Some t.reader else o) later.same;
        }

removed : (tag other : ℕ) (x : ℕ × ReaderSeen) (readers : List TagReader) → tag ≢ other → found tag readers ≡ Some x → reader_in other (remove readers x.0) ≡ reader_in other readers
removed tag other x readers apart is =
    let there = leaves_others tag other 0 x.0 x.1 readers apart is in
    let place : x.0 ≡ there.place = omega (arith, there.place_is) in ap (λ (n : ℕ). reader_in other (remove readers n)) place ∙ there.same

-- a reader of another tag after the others
after_others : (tag other : ℕ) (r : ReaderSeen) (readers : List TagReader) → tag ≢ other → reader_in other (with_reader tag r readers) ≡ reader_in other readers
after_others tag other r [] apart = ap (λ (b : Bool). if b then Some r else None) (ne_eqb tag other apart)
after_others tag other r (t ∷ readers) apart = ap (λ (o : Option ReaderSeen). if t.tag == other then Some t.reader else o) (after_others tag other r readers apart)

-- its own reader after the others, of which none is of the tag
own_after : (tag : ℕ) (r : ReaderSeen) (readers : List TagReader) → reader_in tag readers ≡ None → reader_in tag (with_reader tag r readers) ≡ Some r
own_after tag r [] none = ap (λ (b : Bool). if b then Some r else None) (eq-eqb tag tag refl)
own_after tag r (t ∷ readers) none = by_first (λ is. own_after tag r readers is) (t.tag == tag) none
  where
    by_first : (reader_in tag readers ≡ None → reader_in tag (with_reader tag r readers) ≡ Some r) → (b : Bool) → (if b then Some t.reader else reader_in tag readers) ≡ None → (if b then Some t.reader else reader_in tag (with_reader tag r readers)) ≡ Some r
    by_first afterwards true is = absurd (let no : ⊥ = (cc) in no)
    by_first afterwards false is = afterwards is

-- by whether the response is over
abbrev reported_if : GrpcSeen → ℕ → Stepped → Bool → Report
reported_if g tag s b =
    if b then record { link = record g { link = record g.link { wire = cut g.link.wire tag cancel } }; news = s.news }
    else record { link = record g { readers = with_reader tag s.reader g.readers }; news = s.news }

abbrev reader_if : ReaderSeen → Bool → Option ReaderSeen
reader_if r b = if b then None else Some r

pub others_stay : (g : GrpcSeen) (tag other : ℕ) (n : LinkNews) → tag ≢ other → reader_in other (reported_of g tag n (found tag g.readers)).link.readers ≡ reader_in other g.readers
others_stay g tag other n apart = by_found (found tag g.readers) refl
  where
    left : ℕ × ReaderSeen → GrpcSeen
    left x = record g { readers = remove g.readers x.0 }

    by_over : (b : Bool) (x : ℕ × ReaderSeen) → found tag g.readers ≡ Some x → reader_in other (reported_if (left x) tag (stepped x.1 tag n) b).link.readers ≡ reader_in other g.readers
    by_over true x is = removed tag other x g.readers apart is
    by_over false x is = after_others tag other (stepped x.1 tag n).reader (remove g.readers x.0) apart ∙ removed tag other x g.readers apart is

    by_found : (o : Option (ℕ × ReaderSeen)) → found tag g.readers ≡ o → reader_in other (reported_of g tag n o).link.readers ≡ reader_in other g.readers
    by_found None is = refl
    by_found (Some x) is = by_over (stepped x.1 tag n).reader.over x is

pub news_reported : (g : GrpcSeen) (tag : ℕ) (n : LinkNews) → (reported_of g tag n (found tag g.readers)).news ≡ news_by tag n (reader_in tag g.readers)
news_reported g tag n = by_found (found tag g.readers) ∙ ap (λ (o : Option ReaderSeen). news_by tag n o) (found_in tag 0 g.readers)
  where
    by_over : (b : Bool) (h : GrpcSeen) (s : Stepped) → (reported_if h tag s b).news ≡ s.news
    by_over true h s = refl
    by_over false h s = refl

    by_found : (o : Option (ℕ × ReaderSeen)) → (reported_of g tag n o).news ≡ news_by tag n (option_map (λ x. x.1) o)
    by_found None = refl
    by_found (Some x) = by_over (stepped x.1 tag n).reader.over (record g { readers = remove g.readers x.0 }) (stepped x.1 tag n)

pub own_reader : (g : GrpcSeen) (tag : ℕ) (n : LinkNews) → reader_in tag (without tag g.readers) ≡ None → reader_in tag (reported_of g tag n (found tag g.readers)).link.readers ≡ reader_by tag n (reader_in tag g.readers)
own_reader g tag n once = by_found (found tag g.readers) refl once ∙ ap (λ (o : Option ReaderSeen). reader_by tag n o) (found_in tag 0 g.readers)
  where
    by_over : (b : Bool) (h : GrpcSeen) (s : Stepped) → reader_in tag h.readers ≡ None → reader_in tag (reported_if h tag s b).link.readers ≡ reader_if s.reader b
    by_over true h s none = none
    by_over false h s none = own_after tag s.reader h.readers none

    by_found : (o : Option (ℕ × ReaderSeen)) → found tag g.readers ≡ o → reader_in tag (without_at g.readers o) ≡ None → reader_in tag (reported_of g tag n o).link.readers ≡ reader_by tag n (option_map (λ x. x.1) o)
    by_found None is none = none
    by_found (Some x) is none = by_over (stepped x.1 tag n).reader.over (record g { readers = remove g.readers x.0 }) (stepped x.1 tag n) none
