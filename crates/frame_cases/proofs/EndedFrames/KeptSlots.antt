-- What the channel does to calls leaves of each link all but its streams and readers.
use Rattle.std.proofs.Common.{◌≡◌, ◌==◌, ◌∷◌, ap, arith, refl, ◌∙◌, Bool, true, false, List, [], Option, None, Some, ℕ}
use Rattle.std.proofs.lemmas.Bool.Decides.{nat_tests}
use Rattle.std.proofs.lemmas.Bool.{eqb-false, eqb-true}
use Rattle.std.specs.Option.{option_map}
use Rattle.std.specs.Set.{remove_key}
use Rattle.attempt_ledger.specs.declared.news.EndNews.{EndNews}
use Rattle.attempt_ledger.specs.declared.news.News.{News}
use Rattle.attempt_ledger.specs.declared.news.News.TheVariants as news
use Rattle.attempt_ledger.specs.declared.row.Placed.{Placed}
use Rattle.call_core.specs.Steps as call
use Rattle.call_core.specs.declared.act.CallAct.{CallAct}
use Rattle.call_core.specs.declared.act.CallAct.TheVariants as act
use Rattle.event_cases.proofs.LostLinks.Stamped.{stamped_form}
use Rattle.end_cases.specs.AttemptEnds.Ends.{ended_in, gone_with, taken_off}
use Rattle.channel_core.proofs.BookLaws.{number_changed, number_other}
use Rattle.channel_core.specs.Books.{BookActs, book_acted, call_of, has_drawn, link_of, row_at}
use Rattle.channel_core.specs.States.{StateSeen}
use Rattle.channel_core.specs.Steps.{act_done, acts_done, drawn_if, next_word, reset_on, stamped_gone, reported}
use Rattle.channel_core.specs.Tables.{reset_in, reset_link, with_link}
use Rattle.channel_core.specs.declared.state.links.LinkSlot.{LinkSlot}
use Rattle.picker_gate.specs.Pairs.{is_same}
use Rattle.session_actions.specs.Words.{numbered}
use Rattle.session_actions.specs.declared.attempt.Attempt.{Attempt}

module _ {Y : Type 0} (F : LinkSlot → Y) (same : (row : ℕ) (slot : LinkSlot) → F (with_link (reset_link row) slot) ≡ F slot) where
  abbrev of_link : StateSeen → ℕ → Option Y
  of_link x k = option_map F (numbered x.links k)

  one_reset : (row : ℕ) (o : Option LinkSlot) → option_map F (option_map (with_link (reset_link row)) o) ≡ option_map F o
  one_reset row None = refl
  one_reset row (Some slot) = ap (λ (y : Y). Some y) (same row slot)

  reset_by : (k row j : ℕ) (links : List LinkSlot) (b : Bool) → (j == k) ≡ b → option_map F (numbered (reset_in k row links) j) ≡ option_map F (numbered links j)
  reset_by k row j links true e =
      let at : j ≡ k = eqb-true j k e in
      ap (λ (n : ℕ). option_map F (numbered (reset_in n row links) j)) (eqb-true k j (turned j k e)) ∙ ap (option_map F) (number_changed (with_link (reset_link row)) links j)
      ∙ one_reset row (numbered links j)
    where
      turned : (m n : ℕ) → (m == n) ≡ true → (n == m) ≡ true
      turned m n e = grind (arith, nat_tests, e)
  reset_by k row j links false e = ap (option_map F) (number_other (with_link (reset_link row)) links k j (eqb-false j k e))

  stamped_keeps : (k j : ℕ) (x : StateSeen) → of_link (stamped_gone k x) j ≡ of_link x j
  stamped_keeps k j x = ap (λ (z : StateSeen). of_link z j) (stamped_form k x)

  act_keeps : (n j : ℕ) (a : CallAct) (x : StateSeen) → of_link (act_done n a x) j ≡ of_link x j
  act_keeps n j (act.Cut row) x =
      let k : ℕ = link_of (row_at x.book row) in
      let z : StateSeen = record (reset_on k row x) { outstanding = remove_key (is_same (k, row)) x.outstanding } in
      stamped_keeps k j z ∙ reset_by k row j x.links (j == k) refl
  act_keeps n j (act.Drop row) x = refl
  act_keeps n j (act.Queue row) x = refl
  act_keeps n j (act.End why) x = refl

  acts_keep : (n j : ℕ) (acts : List CallAct) (x : StateSeen) → of_link (acts_done n acts x) j ≡ of_link x j
  acts_keep n j [] x = refl
  acts_keep n j (a ∷ acts) x = acts_keep n j acts (act_done n a x) ∙ act_keeps n j a x

  pub reported_keeps_slots : (row : ℕ) (n : News) (x : StateSeen) (j : ℕ) → of_link (reported row n x) j ≡ of_link x j
  reported_keeps_slots row n x j =
      let number : ℕ = call_of (row_at x.book row) in
      let b : BookActs = book_acted (call.received_news row n x.book.moment (next_word x)) number x.book in
      acts_keep number j b.acts (record (drawn_if (has_drawn (row_at b.book row)) x) { book = b.book })

  gone_keeps : (p : Option Placed) (x : StateSeen) (j : ℕ) → of_link (gone_with p x) j ≡ of_link x j
  gone_keeps None x j = refl
  gone_keeps (Some at) x j = stamped_keeps at.link j x

  off_keeps : (n row : ℕ) (p : Option Placed) (x : StateSeen) (j : ℕ) → of_link (taken_off n row p x) j ≡ of_link x j
  off_keeps n row None x j = refl
  off_keeps n row (Some at) x j = refl

  pub ended_keeps_slots : (a : Attempt) (end : EndNews) (x : StateSeen) (j : ℕ) → of_link (ended_in a end x) j ≡ of_link x j
  ended_keeps_slots a end x j =
      gone_keeps a.row.placed (reported a.place (news.Ended a.place end) (taken_off a.row.call a.place a.row.placed x)) j
      ∙ reported_keeps_slots a.place (news.Ended a.place end) (taken_off a.row.call a.place a.row.placed x) j
      ∙ off_keeps a.row.call a.place a.row.placed x j
