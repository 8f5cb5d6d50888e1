-- A link that is stamped as gone before the rows of a call are given up, or after: the channel is the same.
-- Example: the attempts 1 and 2 were the last ones on link 1, which takes no further ones. Attempt 1 ended, and 2 is given up: link 1 is stamped then, and once more for
-- attempt 1, which writes nothing.
use Rattle.attempt_ledger.specs.declared.ledger.LinkSeen.{LinkSeen}
use Rattle.attempt_ledger.specs.declared.row.Placed.{Placed}
use Rattle.attempt_ledger.specs.declared.row.Row.{Row}
use Rattle.call_core.specs.Steps.{given_up_act}
use Rattle.call_core.specs.declared.live.LiveRow.{LiveRow}
use Rattle.channel_actions.proofs.ActsFollowed.Acts.{given}
use Rattle.channel_actions.proofs.Outstanding.{is_of_link, on_is}
use Rattle.channel_actions.proofs.Links.Settings.Pairs.{rising_remove}
use Rattle.channel_actions.specs.Sets.{PairsAreRising}
use Rattle.call_cases.proofs.ConfiguredCalls.Lists.{same_numbered, same_words}
use Rattle.call_cases.proofs.OneCallEnds.Stamps.{again_in, dead_by, fewer, others, retiring_by}
use Rattle.end_cases.specs.AttemptEnds.Ends.{gone_with}
use Rattle.channel_core.proofs.BookLaws.{number_changed, number_other}
use Rattle.channel_core.specs.Books.{link_of}
use Rattle.channel_core.specs.States.{StateSeen}
use Rattle.channel_core.specs.Steps.{act_done, acts_done, cut_on, has_outstanding, is_gone, is_of_shut_sub, is_shut_state, reset_on, stamped_gone, sub_of, unqueued, with_ledger_links}
use Rattle.channel_core.specs.Tables as tables
use Rattle.channel_core.specs.Tables.{is_dead, is_retiring}
use Rattle.channel_net.specs.Lists.{state_at}
use Rattle.ledger_stamps.specs.Steps.{changed_at, gone_link}
use Rattle.picker_gate.specs.Pairs.{is_same}
use Rattle.session_actions.specs.Words.{numbered}
use Rattle.std.proofs.Common.{Bool, List, None, Option, Some, [], ap, eqb-true, false, if◌then◌else◌, map, not, option_map, refl, subst, sym, true, ℕ, ◌&&◌, ◌==◌, ◌||◌, ◌∙◌, ◌∷◌, ◌≡◌}
use Rattle.std.proofs.lemmas.Bool.{eqb-false}
use Rattle.std.specs.List.{list_any}
use Rattle.std.specs.Set.{remove_key}

abbrev pub stamp_if : Bool → ℕ → StateSeen → StateSeen
stamp_if b link z = if b then with_ledger_links (changed_at (gone_link z.book.ledger.entry) z.book.ledger.links link) z else z

-- stamps on a list
module _ (entry : ℕ) where
  abbrev stamp : List LinkSeen → ℕ → List LinkSeen
  stamp ls i = changed_at (gone_link entry) ls i

  at_by : (ls : List LinkSeen) (i k : ℕ) (b : Bool) → (k == i) ≡ b
      → tables.numbered (stamp ls i) k ≡ (if b then option_map (gone_link entry) (tables.numbered ls k) else tables.numbered ls k)
  at_by ls i k true e =
      subst (λ (m : ℕ). tables.numbered (stamp ls i) m ≡ option_map (gone_link entry) (tables.numbered ls m)) (sym (eqb-true k i e)) (number_changed (gone_link entry) ls i)
  at_by ls i k false e = number_other (gone_link entry) ls i k (eqb-false k i e)

  two_by : (p q : Bool) (m : Option LinkSeen) → (if q then option_map (gone_link entry) (if p then option_map (gone_link entry) m else m) else (if p then option_map (gone_link entry) m else m))
      ≡ (if p then option_map (gone_link entry) (if q then option_map (gone_link entry) m else m) else (if q then option_map (gone_link entry) m else m))
  two_by true true m = refl
  two_by true false m = refl
  two_by false true m = refl
  two_by false false m = refl

  at_two : (ls : List LinkSeen) (i j k : ℕ)
      → tables.numbered (stamp (stamp ls i) j) k
      ≡ (if k == j then option_map (gone_link entry) (if k == i then option_map (gone_link entry) (tables.numbered ls k) else tables.numbered ls k)
      else (if k == i then option_map (gone_link entry) (tables.numbered ls k) else tables.numbered ls k))
  at_two ls i j k =
      at_by (stamp ls i) j k (k == j) refl
      ∙ ap (λ (m : Option LinkSeen). if k == j then option_map (gone_link entry) m else m) (at_by ls i k (k == i) refl)

  swap_at : (ls : List LinkSeen) (i j k : ℕ) → numbered (stamp (stamp ls i) j) k ≡ numbered (stamp (stamp ls j) i) k
  swap_at ls i j k =
      sym (same_words (stamp (stamp ls i) j) k) ∙ at_two ls i j k ∙ two_by (k == i) (k == j) (tables.numbered ls k) ∙ sym (at_two ls j i k) ∙ same_words (stamp (stamp ls j) i) k

  pub swap : (ls : List LinkSeen) (i j : ℕ) → stamp (stamp ls i) j ≡ stamp (stamp ls j) i
  swap ls i j = same_numbered (stamp (stamp ls i) j) (stamp (stamp ls j) i) (λ k. swap_at ls i j k)

  twice_by : (p : Bool) (m : Option LinkSeen) → (if p then option_map (gone_link entry) (if p then option_map (gone_link entry) m else m) else (if p then option_map (gone_link entry) m else m))
      ≡ (if p then option_map (gone_link entry) m else m)
  twice_by true m = again_in true entry m
  twice_by false m = refl

  twice_at : (ls : List LinkSeen) (i k : ℕ) → numbered (stamp (stamp ls i) i) k ≡ numbered (stamp ls i) k
  twice_at ls i k =
      sym (same_words (stamp (stamp ls i) i) k) ∙ at_two ls i i k ∙ twice_by (k == i) (tables.numbered ls k) ∙ sym (at_by ls i k (k == i) refl) ∙ same_words (stamp ls i) k

  pub twice : (ls : List LinkSeen) (i : ℕ) → stamp (stamp ls i) i ≡ stamp ls i
  twice ls i = same_numbered (stamp (stamp ls i) i) (stamp ls i) (λ k. twice_at ls i k)

  -- a link keeps its subchannel
  sub_kept : (m : Option LinkSeen) → sub_of (option_map (gone_link entry) m) ≡ sub_of m
  sub_kept None = refl
  sub_kept (Some l) = refl

  sub_by : (p : Bool) (m : Option LinkSeen) → sub_of (if p then option_map (gone_link entry) m else m) ≡ sub_of m
  sub_by true m = sub_kept m
  sub_by false m = refl

  pub sub_same : (ls : List LinkSeen) (i k : ℕ) → sub_of (tables.numbered (stamp ls i) k) ≡ sub_of (tables.numbered ls k)
  sub_same ls i k = ap sub_of (at_by ls i k (k == i) refl) ∙ sub_by (k == i) (tables.numbered ls k)

-- which links are gone hangs on no stamp
gone_if : (b : Bool) (i k : ℕ) (z : StateSeen) → is_gone k (stamp_if b i z) ≡ is_gone k z
gone_if true i k z =
    ap (λ (n : ℕ). is_dead z.links k || ((is_retiring z.links k || is_shut_state (state_at z.net.board n)) && not (has_outstanding k z)))
    (sub_same z.book.ledger.entry z.book.ledger.links i k)
gone_if false i k z = refl

order : (b c : Bool) (i j : ℕ) (z : StateSeen) → stamp_if b j (stamp_if c i z) ≡ stamp_if c i (stamp_if b j z)
order true true i j z = ap (λ (ls : List LinkSeen). with_ledger_links ls z) (swap z.book.ledger.entry z.book.ledger.links i j)
order true false i j z = refl
order false true i j z = refl
order false false i j z = refl

again : (b c : Bool) (j : ℕ) (z : StateSeen) → (b ≡ true → c ≡ true) → stamp_if c j (stamp_if c j z) ≡ stamp_if c j (stamp_if b j z)
again true true j z turn = refl
again false true j z turn = ap (λ (ls : List LinkSeen). with_ledger_links ls z) (twice z.book.ledger.entry z.book.ledger.links j)
again false false j z turn = refl
again true false j z turn = absurd (let bad : false ≡ true = turn refl in (cc))

still_by : (d r p q : Bool) → (p ≡ true → q ≡ true) → (d || (r && not q)) ≡ true → (d || (r && not p)) ≡ true
still_by true r p q turn e = refl
still_by false true false q turn e = refl
still_by false true true true turn e = absurd (cc)
still_by false true true false turn e = absurd (let bad : false ≡ true = turn refl in (cc))
still_by false false p q turn e = absurd (cc)

-- one row is given up on a link
module _ (i row : ℕ) (z : StateSeen) (rising : PairsAreRising z.outstanding) where
  abbrev z1 : StateSeen
  z1 = record (reset_on i row z) { outstanding = remove_key (is_same (i, row)) z.outstanding }

  rising1 : PairsAreRising z1.outstanding
  rising1 = rising_remove z.outstanding (i, row) rising

  out_z : (k : ℕ) → has_outstanding k z ≡ list_any (is_of_link k) z.outstanding
  out_z k = on_is k z.outstanding rising

  out_z1 : (k : ℕ) → has_outstanding k z1 ≡ list_any (is_of_link k) z1.outstanding
  out_z1 k = on_is k z1.outstanding rising1

  dead1 : (k : ℕ) → is_dead z1.links k ≡ is_dead z.links k
  dead1 k = dead_by i row k z.links (k == i) refl

  retiring1 : (k : ℕ) → is_retiring z1.links k ≡ is_retiring z.links k
  retiring1 k = retiring_by i row k z.links (k == i) refl

  abbrev with_out : ℕ → Bool → Bool
  with_out k b = is_dead z.links k || ((is_retiring z.links k || is_of_shut_sub k z) && not b)

  gone1 : (k : ℕ) → is_gone k z1 ≡ with_out k (has_outstanding k z1)
  gone1 k =
      ap (λ (b : Bool). b || ((is_retiring z1.links k || is_of_shut_sub k z) && not (has_outstanding k z1))) (dead1 k)
      ∙ ap (λ (b : Bool). is_dead z.links k || ((b || is_of_shut_sub k z) && not (has_outstanding k z1))) (retiring1 k)

  -- what is gone stays so; and of another link nothing changes
  stays : (k : ℕ) → is_gone k z ≡ true → is_gone k z1 ≡ true
  stays k e =
      gone1 k
      ∙ still_by (is_dead z.links k) (is_retiring z.links k || is_of_shut_sub k z) (has_outstanding k z1) (has_outstanding k z)
      (λ on. out_z k ∙ fewer (i, row) k z.outstanding (sym (out_z1 k) ∙ on)) e

  same_away : (k : ℕ) → (k == i) ≡ false → is_gone k z1 ≡ is_gone k z
  same_away k off = gone1 k ∙ ap (with_out k) (out_z1 k ∙ others i row k z.outstanding off ∙ sym (out_z k))

  module _ (j : ℕ) where
    both_by : (b : Bool) → (j == i) ≡ b → stamp_if (is_gone j z1) j (stamp_if (is_gone i z1) i z1) ≡ stamp_if (is_gone i z1) i (stamp_if (is_gone j z) j z1)
    both_by true e =
        subst (λ (m : ℕ). stamp_if (is_gone j z1) j (stamp_if (is_gone m z1) m z1) ≡ stamp_if (is_gone m z1) m (stamp_if (is_gone j z) j z1)) (eqb-true j i e)
        (again (is_gone j z) (is_gone j z1) j z1 (stays j))
    both_by false e =
        ap (λ (b : Bool). stamp_if b j (stamp_if (is_gone i z1) i z1)) (same_away j e) ∙ order (is_gone j z) (is_gone i z1) i j z1

    passed : (b : Bool) → record (reset_on i row (stamp_if b j z)) { outstanding = remove_key (is_same (i, row)) (stamp_if b j z).outstanding } ≡ stamp_if b j z1
    passed true = refl
    passed false = refl

    pub cut_stamped : stamped_gone j (cut_on i row z) ≡ cut_on i row (stamped_gone j z)
    cut_stamped =
        ap (λ (b : Bool). stamp_if b j (stamp_if (is_gone i z1) i z1)) (gone_if (is_gone i z1) i j z1)
        ∙ both_by (j == i) refl
        ∙ ap (λ (b : Bool). stamp_if b i (stamp_if (is_gone j z) j z1)) (sym (gone_if (is_gone j z) j i z1))
        ∙ ap (stamped_gone i) (sym (passed (is_gone j z)))

  out_if : (b : Bool) → (stamp_if b i z1).outstanding ≡ z1.outstanding
  out_if true = refl
  out_if false = refl

  pub cut_rising : PairsAreRising (cut_on i row z).outstanding
  cut_rising = subst PairsAreRising (sym (out_if (is_gone i z1))) rising1

-- a row that waits
unqueued_if : (b : Bool) (n row j : ℕ) (z : StateSeen) → stamp_if b j (unqueued n row z) ≡ unqueued n row (stamp_if b j z)
unqueued_if true n row j z = refl
unqueued_if false n row j z = refl

rows_if : (b : Bool) (j : ℕ) (z : StateSeen) → (stamp_if b j z).book.ledger.rows ≡ z.book.ledger.rows
rows_if true j z = refl
rows_if false j z = refl

one_stamped : (n row j : ℕ) (q : Option ℕ) (z : StateSeen) → PairsAreRising z.outstanding → stamped_gone j (act_done n (given_up_act row q) z) ≡ act_done n (given_up_act row q) (stamped_gone j z)
one_stamped n row j None z rising = unqueued_if (is_gone j z) n row j z
one_stamped n row j (Some link) z rising =
    cut_stamped (link_of (tables.numbered z.book.ledger.rows row)) row z rising j
    ∙ ap (λ (rows : List Row). cut_on (link_of (tables.numbered rows row)) row (stamped_gone j z)) (sym (rows_if (is_gone j z) j z))

one_rising : (n row : ℕ) (q : Option ℕ) (z : StateSeen) → PairsAreRising z.outstanding → PairsAreRising (act_done n (given_up_act row q) z).outstanding
one_rising n row None z rising = rising
one_rising n row (Some link) z rising = cut_rising (link_of (tables.numbered z.book.ledger.rows row)) row z rising

all_stamped : (n j : ℕ) (rows : List LiveRow) (z : StateSeen) → PairsAreRising z.outstanding → stamped_gone j (acts_done n (map given rows) z) ≡ acts_done n (map given rows) (stamped_gone j z)
all_stamped n j [] z rising = refl
all_stamped n j (r ∷ rows) z rising =
    all_stamped n j rows (act_done n (given r) z) (one_rising n r.place r.link z rising)
    ∙ ap (acts_done n (map given rows)) (one_stamped n r.place j r.link z rising)

pub gone_before : (n : ℕ) (p : Option Placed) (rows : List LiveRow) (z : StateSeen) → PairsAreRising z.outstanding
    → gone_with p (acts_done n (map given rows) z) ≡ acts_done n (map given rows) (gone_with p z)
gone_before n None rows z rising = refl
gone_before n (Some at) rows z rising = all_stamped n at.link rows z rising
