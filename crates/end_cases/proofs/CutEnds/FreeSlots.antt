-- A link that has neither stream nor reader of an attempt is not changed by its cut.
use Rattle.std.proofs.Common.{Bool, List, None, Option, Some, [], ap, cond, false, filter, if◌then◌else◌, is_none, is_some, map, refl, slice_get, subst, suc, sym, true, ℕ, ◌&&◌, ◌+◌, ◌==◌, ◌||◌, ◌∙◌, ◌∷◌, ◌≡◌}
use Rattle.std.proofs.lemmas.Bool.{and_parts, eqb-true}
use Rattle.std.specs.List.{AllByRecursion}
use Rattle.std.specs.Prelude.{nat_lt, option_and_then}
use Rattle.attempt_ledger.specs.declared.row.Placed.{Placed}
use Rattle.channel_actions.specs.Readers.{IsReaderOf, attempt_on}
use Rattle.channel_core.specs.Tables.{reset_link, with_link}
use Rattle.channel_core.specs.declared.state.links.LinkSlot.{LinkSlot}
use Rattle.end_cases.specs.AttemptEnds.Ahead.{IsAhead}
use Rattle.grpc_base.specs.ErrorCodes.{cancel}
use Rattle.grpc_link.specs.Links.{reader_in, without, without_at}
use Rattle.grpc_link.specs.Readers.{ReaderSeen}
use Rattle.grpc_link.specs.declared.readers.TagReader.{TagReader}
use Rattle.h2_link.specs.Steps.{found_from, is_tagged}
use Rattle.h2_link.specs.Wire.{Wire}
use Rattle.h2_link.specs.declared.live.LiveStream.{LiveStream}
use Rattle.lb_policy.specs.Table.{is_one_of}
use Rattle.link_actions.proofs.ResponseActions.Found.{find_none}
use Rattle.link_actions.proofs.ResponseActions.Gone.{cut_free}
use Rattle.link_actions.specs.Sees.{StreamsAreLive, by_stream, put_by_stream}
use Rattle.session_actions.specs.Attempts.{is_outstanding}
use Rattle.session_actions.specs.Links.{stream_number}
use Rattle.session_actions.specs.Reading.{is_outstanding_on, outstanding_on}
use Rattle.session_actions.specs.Words.{holds, numbered}
use Rattle.session_actions.specs.Writing.{streaming_on, waiting_on}
use Rattle.session_actions.specs.declared.attempt.Attempt.{Attempt}
use Rattle.session_actions.specs.declared.link.Link.{Link}
use Rattle.session_actions.specs.declared.seen.Seen.{Seen}

-- a link has no stream, and no reader, of an attempt that is not outstanding
kept_one : (Q : Attempt → Type 0) (p : Attempt → Bool) (x : Attempt) (xs : List Attempt) (b : Bool) → p x ≡ b → (p x ≡ true → Q x) → AllByRecursion Q (filter p xs)
    → AllByRecursion Q (cond b (x ∷ filter p xs) (filter p xs))
kept_one Q p x xs true e one rest = (one e, rest)
kept_one Q p x xs false e one rest = rest

kept_all : (Q : Attempt → Type 0) (p : Attempt → Bool) (xs : List Attempt) → ((i : ℕ) (a : Attempt) → slice_get xs i ≡ Some a → p a ≡ true → Q a) → AllByRecursion Q (filter p xs)
kept_all Q p [] each = tt
kept_all Q p (x ∷ xs) each = kept_one Q p x xs (p x) refl (each 0 x refl) (kept_all Q p xs (λ i a at on. each (suc i) a at on))

all_kept : (Q : Attempt → Type 0) (p : Attempt → Bool) (xs : List Attempt) → AllByRecursion Q xs → AllByRecursion Q (filter p xs)
all_kept Q p [] all = tt
all_kept Q p (x ∷ xs) all = kept_one Q p x xs (p x) refl (λ on. all.0) (all_kept Q p xs all.1)

put_if : (Q : Attempt → Type 0) (a b : Attempt) (bs : List Attempt) (c : Bool) → Q a → AllByRecursion Q (b ∷ bs) → AllByRecursion Q (put_by_stream a bs)
    → AllByRecursion Q (if c then b ∷ put_by_stream a bs else a ∷ b ∷ bs)
put_if Q a b bs true one all rest = (all.0, rest)
put_if Q a b bs false one all rest = (one, all)

all_put : (Q : Attempt → Type 0) (a : Attempt) (bs : List Attempt) → Q a → AllByRecursion Q bs → AllByRecursion Q (put_by_stream a bs)
all_put Q a [] one all = (one, tt)
all_put Q a (b ∷ bs) one all = put_if Q a b bs (nat_lt (stream_number b) (stream_number a)) one all (all_put Q a bs one all.1)

all_sorted : (Q : Attempt → Type 0) (xs : List Attempt) → AllByRecursion Q xs → AllByRecursion Q (by_stream xs)
all_sorted Q [] all = tt
all_sorted Q (x ∷ xs) all = all_put Q x (by_stream xs) all.0 (all_sorted Q xs all.1)

none_live : (l : Link) (n k : ℕ) (xs : List LiveStream) (bs : List Attempt) → StreamsAreLive l xs bs → AllByRecursion (λ (b : Attempt). (b.place == n) ≡ false) bs → found_from (is_tagged n) k xs ≡ None
none_live l n k [] [] are all = refl
none_live l n k (x ∷ xs) (b ∷ bs) are all =
    ap (λ (c : Bool). if c then Some (k, x) else found_from (is_tagged n) (k + 1) xs) (ap (λ (m : ℕ). m == n) are.0.tag ∙ all.0) ∙ none_live l n (k + 1) xs bs are.1 all.1
none_live l n k [] (b ∷ bs) are all = absurd are
none_live l n k (x ∷ xs) [] are all = absurd are

none_waits : (n : ℕ) (bs : List Attempt) → AllByRecursion (λ (b : Attempt). (b.place == n) ≡ false) bs → is_one_of (map (λ (b : Attempt). b.place) bs) n ≡ false
none_waits n [] all = refl
none_waits n (b ∷ bs) all = ap (λ (c : Bool). c || is_one_of (map (λ (d : Attempt). d.place) bs) n) all.0 ∙ none_waits n bs all.1

module _ (l : Link) (s : Seen) (n : ℕ) (z : Attempt) (there : numbered s.attempts n ≡ Some z) (over : is_outstanding z ≡ false) (places : (i : ℕ) (b : Attempt) → slice_get s.attempts i ≡ Some b → b.place ≡ suc i) where
  out_elsewhere : (i : ℕ) (b : Attempt) → slice_get s.attempts i ≡ Some b → is_outstanding_on l b ≡ true → (b.place == n) ≡ false
  out_elsewhere i b at on = by (b.place == n) refl
    where
      by : (c : Bool) → (b.place == n) ≡ c → c ≡ false
      by false e = refl
      by true e =
          let here : numbered s.attempts n ≡ Some b = ap (numbered s.attempts) (sym (eqb-true b.place n e) ∙ places i b at) ∙ at in
          let both : Some b ≡ Some z = sym here ∙ there in
          let one : b ≡ z = (cc) in
          let out : is_outstanding b ≡ true = (and_parts (is_outstanding b) (holds (λ (at : Placed). at.link == l.number) b.row.placed) on).0 in
          absurd (let bad : true ≡ false = sym out ∙ ap is_outstanding one ∙ over in let no : ⊥ = (cc) in no)

  elsewhere : AllByRecursion (λ (b : Attempt). (b.place == n) ≡ false) (outstanding_on l s)
  elsewhere = kept_all (λ (b : Attempt). (b.place == n) ≡ false) (is_outstanding_on l) s.attempts out_elsewhere

  module _ (slot : LinkSlot) (is : IsAhead l s slot) where
    abbrev w : Wire
    w = slot.link.link.wire

    off_live : found_from (is_tagged n) 0 w.live ≡ None
    off_live =
        ap (λ (v : Wire). found_from (is_tagged n) 0 v.live) is.streams.same
        ∙ none_live l n 0 is.streams.wire.live (by_stream (streaming_on l s)) is.streams.sees.sees.sees.live
        (all_sorted (λ (b : Attempt). (b.place == n) ≡ false) (streaming_on l s) (all_kept (λ (b : Attempt). (b.place == n) ≡ false) (λ (b : Attempt). is_some b.row.stream) (outstanding_on l s) elsewhere))

    off_waiting : is_one_of w.waiting n ≡ false
    off_waiting =
        ap (λ (v : Wire). is_one_of v.waiting n) is.streams.same ∙ ap (λ (ns : List ℕ). is_one_of ns n) is.streams.sees.sees.waits
        ∙ none_waits n (waiting_on l s) (all_kept (λ (b : Attempt). (b.place == n) ≡ false) (λ (b : Attempt). is_none b.row.stream) (outstanding_on l s) elsewhere)

    no_reader : reader_in n slot.link.readers ≡ None
    no_reader = none_by (reader_in n slot.link.readers) (is.readers.each n)
      where
        off : attempt_on l s n ≡ None
        off =
            ap (option_and_then (λ (b : Attempt). if is_outstanding_on l b then Some b else None)) there
            ∙ ap (λ (c : Bool). if c && holds (λ (at : Placed). at.link == l.number) z.row.placed then Some z else None) over

        none_by : (q : Option ReaderSeen) → IsReaderOf s (attempt_on l s n) q → q ≡ None
        none_by None k = refl
        none_by (Some reader) k = absurd (subst (λ (b : Option Attempt). IsReaderOf s b (Some reader)) off k)

    pub slot_same : with_link (reset_link n) slot ≡ slot
    slot_same =
        ap (λ (v : Wire). record slot { link = record { link = record slot.link.link { wire = v }; readers = without n slot.link.readers } }) (cut_free w n cancel off_live off_waiting)
        ∙ ap (λ (rs : List TagReader). record slot { link = record { link = slot.link.link; readers = rs } })
        (ap (without_at slot.link.readers) (find_none n 0 slot.link.readers no_reader))
