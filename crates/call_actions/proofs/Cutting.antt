-- An attempt that is over for its call is cut off.
use Rattle.std.proofs.Common.{◌≡◌, ◌≤◌, ◌∷◌, ◌++◌, ◌&&◌, nat_lt, ap, arith, refl, subst, sym, ◌∙◌, Bool, true, false, List, [], Option, None, Some, ℕ, zero, suc, if◌then◌else◌, is_none, is_some, length, map, option_map, slice_get}
use Rattle.std.proofs.lemmas.Bool.{and_parts, ltb-false}
use Rattle.std.proofs.lemmas.List.{length-map}
use Rattle.std.proofs.lemmas.Option.{slice_get-map, slice_get_past}
use Rattle.std.specs.Option.{option_map_or}
use Rattle.std.specs.Prelude.{option_and_then}
use Rattle.attempt_ledger.specs.declared.ledger.LinkSeen.{LinkSeen}
use Rattle.attempt_ledger.specs.declared.row.Placed.{Placed}
use Rattle.attempt_ledger.specs.declared.row.RowEnd.{RowEnd}
use Rattle.call_actions.proofs.Uncounted.{d, e, gone, is_ended, order_now, sees_now, t, tokens_same, word_none}
use Rattle.call_actions.specs.Laws.{AttemptsAreCut, cut_off}
use Rattle.call_actions.specs.Order.{IsInOrder, IsInTurn, Keeps}
use Rattle.call_actions.specs.Sees.{Sees}
use Rattle.call_core.specs.Parts as parts
use Rattle.call_core.specs.Steps.{Stepped}
use Rattle.call_core.specs.declared.act.CallAct.TheVariants as act
use Rattle.session_actions.specs.AttemptEnds.{attempt_ended, cut_end, end_of}
use Rattle.session_actions.specs.Attempts.{is_of, is_outstanding, is_over}
use Rattle.session_actions.specs.Entries.{now}
use Rattle.session_actions.specs.Links.{read_bytes}
use Rattle.session_actions.specs.Sessions.{link_seen}
use Rattle.session_actions.specs.Words.{numbered}
use Rattle.session_actions.specs.declared.action.Action.TheVariants as action
use Rattle.session_actions.specs.declared.attempt.Attempt.{Attempt}
use Rattle.session_actions.specs.declared.call.Call.{Call}
use Rattle.session_actions.specs.declared.link.Link.{Link}
use Rattle.session_actions.specs.declared.seen.Seen.{Seen}

none_of : {X : Type 0} (o : Option X) → is_none o ≡ true → o ≡ None
none_of None e = refl
none_of (Some x) e = absurd (cc)

-- the bytes of a link that were read
read_within : (links : List Link) (i : ℕ) (o : Option Link) → slice_get links i ≡ o
    → option_map_or (λ (l : LinkSeen). l.read) (option_map link_seen o) 0 ≡ option_map_or read_bytes o 0
read_within links i None e = refl
read_within links i (Some l) e = refl

read_by : (links : List Link) (i : ℕ) (b : Bool) → nat_lt i (length (map link_seen links)) ≡ b
    → parts.read_in (map link_seen links) (if b then Some i else None) ≡ option_map_or read_bytes (slice_get links i) 0
read_by links i true e =
    ap (λ (o : Option LinkSeen). option_map_or (λ (l : LinkSeen). l.read) o 0) (slice_get-map link_seen links i) ∙ read_within links i (slice_get links i) refl
read_by links i false e =
    let past : length links ≤ i
    = (let far : length (map link_seen links) ≤ i = ltb-false i (length (map link_seen links)) e in
    let same : length (map link_seen links) ≡ length links = length-map links link_seen in omega arith) in
    sym (ap (λ (o : Option Link). option_map_or read_bytes o 0) (slice_get_past links i past))

read_is : (links : List Link) (n : ℕ) → parts.read_of (map link_seen links) n ≡ option_map_or read_bytes (numbered links n) 0
read_is links zero = refl
read_is links (suc i) = read_by links i (nat_lt i (length (map link_seen links))) refl

module _ (s : Seen) (c : Call) (x : Stepped) (place : ℕ) (a : Attempt) (at : Placed) (h : Sees s c x) (o : IsInOrder s c) (turn : IsInTurn s c)
    (got : numbered s.attempts place ≡ Some a) (own : is_of c a ≡ true) (placed : a.row.placed ≡ Some at) (links : map link_seen s.links ≡ x.ledger.links)
    (goes_on : is_outstanding a ≡ true) where
  pub unended : a.row.ended ≡ None
  unended =
      let both : (is_some a.row.placed ≡ true) × (is_none a.row.ended ≡ true) = and_parts (is_some a.row.placed) (is_none a.row.ended) goes_on in
      none_of a.row.ended both.1

  abbrev its : RowEnd
  its = e s c x place a cut_end h o turn got own unended refl

  -- the end in the ledger
  abbrev stamp : ℕ → ℕ → Option ℕ → Option ℕ → RowEnd
  stamp at_entry seen tokens word = record (parts.cut_end at_entry (now s) seen tokens) { word = word }

  seen_same : its.seen ≡ parts.read_of x.ledger.links at.link
  seen_same =
      ap (λ (z : Option Placed). option_map_or read_bytes (option_and_then (λ (p : Placed). numbered s.links p.link) z) 0) placed
      ∙ sym (read_is s.links at.link) ∙ ap (λ (l : List LinkSeen). parts.read_of l at.link) links

  same_end : its ≡ parts.cut_end x.ledger.entry (now s) (parts.read_of x.ledger.links at.link) (parts.count_of x.tokens)
  same_end =
      ap (λ (k : ℕ). stamp k its.seen its.tokens its.word) h.entry_is ∙ ap (λ (k : ℕ). stamp x.ledger.entry k its.tokens its.word) seen_same
      ∙ ap (λ (k : Option ℕ). stamp x.ledger.entry (parts.read_of x.ledger.links at.link) k its.word) (tokens_same s c x place a cut_end h o turn got own unended refl)
      ∙ ap (stamp x.ledger.entry (parts.read_of x.ledger.links at.link) (parts.count_of x.tokens)) (word_none s c x place a cut_end h o turn got own unended refl)

  pub is_cut_off : Keeps (attempt_ended place its s) c.number (cut_off place at.link (now s) x)
  is_cut_off =
      subst (λ (z : Seen). Keeps z c.number (cut_off place at.link (now s) x)) (sym (is_ended s c x place a cut_end h o turn got own unended refl))
      (record {
        call = d s c x place a cut_end h o turn got own unended refl;
        number_is = refl;
        sees = subst (λ (z : RowEnd). Sees (t s c x place a cut_end h o turn got own unended refl) (d s c x place a cut_end h o turn got own unended refl)
            (gone x.call.buffer (x.acts ++ act.Cut place ∷ []) place z x)) same_end
            (sees_now s c x place a cut_end h o turn got own unended refl x.call.buffer (x.acts ++ act.Cut place ∷ []));
        order = order_now s c x place a cut_end h o turn got own unended refl;
      })

-- what the session's line says
record Cuts (s : Seen) (a : Attempt) (end : RowEnd) : Type 0 where
  goes_on : is_outstanding a ≡ true
  over : is_over a s ≡ true
  end_is : end ≡ end_of a cut_end s

cuts_by : (s : Seen) (a : Attempt) (end : RowEnd) (b : Bool) → (is_outstanding a && is_over a s) ≡ b
    → (if b then Some (action.AttemptEnds a.place (end_of a cut_end s)) else None) ≡ Some (action.AttemptEnds a.place end) → Cuts s a end
cuts_by s a end true both e =
    let parts : (is_outstanding a ≡ true) × (is_over a s ≡ true) = and_parts (is_outstanding a) (is_over a s) both in
    let same : end ≡ end_of a cut_end s = (cc) in
    record { goes_on = parts.0; over = parts.1; end_is = same }
cuts_by s a end false both e = absurd (cc)

pub attempts_are_cut : AttemptsAreCut
attempts_are_cut s c x place a at end h o turn got own placed links e =
    let k : Cuts s a end = cuts_by s a end (is_outstanding a && is_over a s) refl e in
    subst (λ (z : RowEnd). Keeps (attempt_ended place z s) c.number (cut_off place at.link (now s) x)) (sym k.end_is)
    (is_cut_off s c x place a at h o turn got own placed links k.goes_on)
