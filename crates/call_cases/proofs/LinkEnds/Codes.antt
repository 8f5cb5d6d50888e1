-- The stream of an attempt that is cut off, on a link that goes on, is reset with CANCEL.
use Rattle.std.proofs.Common.{◌≡◌, ◌∷◌, ◌&&◌, ◌==◌, not, ap, refl, ◌∙◌, Bool, true, false, List, [], Option, None, Some, ℕ, if◌then◌else◌, length, map, nat_lt}
use Rattle.std.proofs.lemmas.Bool.{and_parts, eq-eqb, eqb-true}
use Rattle.std.specs.List.{list_all}
use Rattle.std.specs.Option.{option_and_then, option_map_or}
use Rattle.attempt_ledger.specs.declared.row.Placed.{Placed}
use Rattle.attempt_ledger.specs.declared.row.RowEnd.{RowEnd}
use Rattle.grpc_base.specs.ErrorCodes.{cancel}
use Rattle.h2_link.specs.Feeds.{Line}
use Rattle.h2_link.specs.Wire.{Wire}
use Rattle.link_actions.proofs.Ended.{is_ended}
use Rattle.link_actions.specs.Sees.{AttemptsStandInPlace}
use Rattle.call_cases.proofs.EndsFollow.Codes.{code_for, code_in, entry_by}
use Rattle.call_cases.proofs.EndsFollow.Streams.{put}
use Rattle.link_actions.proofs.ResponseActions.Counted.{codes_stay, cuts_are_cancelled}
use Rattle.link_actions.specs.ResetActions.Ahead.{put_reset}
use Rattle.session_actions.specs.AttemptEnds.{attempt_ended, code_to_reset, cut_end, end_of, reset_code_of, with_end}
use Rattle.session_actions.specs.Attempts.{is_outstanding}
use Rattle.session_actions.specs.Entries.{entry}
use Rattle.session_actions.specs.Links.{link_of, read_bytes}
use Rattle.session_actions.specs.Reading.{is_outstanding_on}
use Rattle.session_actions.specs.Responses.{is_read_by, response}
use Rattle.session_actions.specs.Words.{holds, numbered}
use Rattle.session_actions.specs.declared.attempt.Attempt.{Attempt}
use Rattle.session_actions.specs.declared.link.Link.{Link}
use Rattle.session_actions.specs.declared.seen.Seen.{Seen}
use Rattle.link_actions.specs.StreamActions.Laws.{IsOn}
use Rattle.link_actions.specs.StreamActions.Sees.{SeesStreams}

-- with a code
abbrev pub with_code : ℕ → List ℕ → List (ℕ × ℕ)
with_code number ns = map (λ (n : ℕ). (n, number)) ns

code_if : (n number m : ℕ) (ms : List ℕ) (b : Bool) → nat_lt n m ≡ b → put_reset n number (with_code number ms) ≡ with_code number (put n ms)
    → (if b then (n, number) ∷ (m, number) ∷ with_code number ms else (m, number) ∷ put_reset n number (with_code number ms))
    ≡ with_code number (if b then n ∷ m ∷ ms else m ∷ put n ms)
code_if n number m ms true e rest = refl
code_if n number m ms false e rest = ap (λ (l : List (ℕ × ℕ)). (m, number) ∷ l) rest

pub put_code : (n number : ℕ) (ns : List ℕ) → put_reset n number (with_code number ns) ≡ with_code number (put n ns)
put_code n number [] = refl
put_code n number (m ∷ ms) = code_if n number m ms (nat_lt n m) refl (put_code n number ms)

-- with one, on a link that goes on, it is CANCEL
link_by : (n : ℕ) (ls : List Link) (o : Option Placed) → holds (λ (at : Placed). at.link == n) o ≡ true
    → option_and_then (λ (at : Placed). numbered ls at.link) o ≡ numbered ls n
link_by n ls None e = absurd (cc)
link_by n ls (Some at) e = ap (numbered ls) (eqb-true at.link n e)

pub on_link : (l : Link) (s : Seen) (a : Attempt) → numbered s.links l.number ≡ Some l → is_outstanding_on l a ≡ true → link_of a s ≡ Some l
on_link l s a here out =
    link_by l.number s.links a.row.placed (and_parts (is_outstanding a) (holds (λ (at : Placed). at.link == l.number) a.row.placed) out).1 ∙ here

module _ (l : Link) (s : Seen) (w : Wire) (g : ℕ → Line) (n : ℕ) (a : Attempt) (sees : SeesStreams l s w g) (on : IsOn l s n a) (goes : l.over ≡ None)
    (places : AttemptsStandInPlace 1 s.attempts) (unreset : a.reset ≡ false) (reads : list_all (is_read_by (read_bytes l)) l.traffic ≡ true) where
  abbrev end : RowEnd
  end = end_of a cut_end s

  abbrev v : Seen
  v = attempt_ended a.place end s

  abbrev z : Attempt
  z = with_end end a

  here : link_of a s ≡ Some l
  here = on_link l s a sees.sees.at on.out

  links_same : v.links ≡ s.links
  links_same = ap (λ (x : Seen). x.links) (is_ended s a.place end a places on.there)

  entry_same : entry v ≡ entry s
  entry_same = ap entry (is_ended s a.place end a places on.there) ∙ entry_by _ (length s.entries) s.current

  seen_is : end.seen ≡ read_bytes l
  seen_is = ap (λ (o : Option Link). option_map_or read_bytes o 0) here

  code_is : code_to_reset z end n v l ≡ Some cancel
  code_is =
      codes_stay l s n a end sees.sees.at on places seen_is reads ∙ cuts_are_cancelled l s w g n a end sees on goes refl

  now_is : ((end.entry == entry v) && not z.reset) ≡ true
  now_is =
      ap (λ (i : ℕ). (entry s == i) && not a.reset) entry_same ∙ ap (λ (b : Bool). (entry s == entry s) && not b) unreset
      ∙ ap (λ (b : Bool). b && true) (eq-eqb (entry s) (entry s) refl)

  pub cut_code : reset_code_of v z ≡ Some cancel
  cut_code =
      ap (λ (o : Option ℕ). option_and_then (code_for z (entry v) (response z v) v.links end) o) on.stream
      ∙ ap (λ (b : Bool). if b then option_and_then (code_in end n (response z v)) (option_and_then (λ (at : Placed). numbered v.links at.link) a.row.placed) else None) now_is
      ∙ ap (λ (ls : List Link). option_and_then (code_in end n (response z v)) (option_and_then (λ (at : Placed). numbered ls at.link) a.row.placed)) links_same
      ∙ ap (option_and_then (code_in end n (response z v))) here ∙ code_is
