-- The end of an attempt lets the calls of a channel go on.
use Rattle.std.proofs.Common.{◌≡◌, ◌∷◌, ap, refl, subst, sym, ◌∙◌, List, [], None, Option, Some, ℕ}
use Rattle.std.specs.Set.{remove_key}
use Rattle.attempt_ledger.specs.declared.news.EndNews.{EndNews}
use Rattle.attempt_ledger.specs.declared.news.News.{News}
use Rattle.attempt_ledger.specs.declared.news.News.TheVariants as news
use Rattle.attempt_ledger.specs.declared.row.Placed.{Placed}
use Rattle.call_core.specs.Steps.{Stepped, received_news}
use Rattle.call_core.specs.declared.act.CallAct.{CallAct}
use Rattle.call_core.specs.declared.act.CallAct.TheVariants as act
use Rattle.channel_actions.proofs.Calls.Going.Slots.{AllGo, all_acted, all_beside}
use Rattle.channel_actions.specs.GoingCalls.Going.{AllowsAttempts, CallsGoOn, GoesOn}
use Rattle.channel_core.specs.Books.{BookActs, book_acted, call_of, deadline_of, due_at, has_drawn, link_of, row_at, slot_at}
use Rattle.channel_core.specs.States.{StateSeen}
use Rattle.channel_core.specs.Steps.{act_done, acts_done, drawn_if, next_word, reset_on, stamped_gone, reported}
use Rattle.channel_core.specs.Tables.{with_timers}
use Rattle.channel_core.specs.declared.state.slots.CallSlot.{CallSlot}
use Rattle.end_cases.specs.AttemptEnds.Ends.{ended_in, gone_with, taken_off}
use Rattle.event_cases.proofs.LostLinks.Stamped.{stamped_form}
use Rattle.picker_gate.specs.Pairs.{is_same}
use Rattle.session_actions.specs.declared.attempt.Attempt.{Attempt}

-- what a call receives lets it go on (`call_core` promises it)
abbrev pub ReceivedGoesOn : Type 0
ReceivedGoesOn = (row : ℕ) (n : News) (moment word : ℕ) (s : Stepped) → GoesOn s.call → GoesOn (received_news row n moment word s).call

-- what follows in the channel changes no call
pub record IsSameHeld (x y : StateSeen) : Type 0 where
  pub calls : y.book.calls ≡ x.book.calls
  pub held : y.held ≡ x.held

stamped_same : (k : ℕ) (x : StateSeen) → IsSameHeld x (stamped_gone k x)
stamped_same k x = record { calls = ap (λ (z : StateSeen). z.book.calls) (stamped_form k x); held = ap (λ (z : StateSeen). z.held) (stamped_form k x) }

act_same : (n : ℕ) (a : CallAct) (x : StateSeen) → IsSameHeld x (act_done n a x)
act_same n (act.Cut row) x =
    let k : ℕ = link_of (row_at x.book row) in
    let s = stamped_same k (record (reset_on k row x) { outstanding = remove_key (is_same (k, row)) x.outstanding }) in record { calls = s.calls; held = s.held }
act_same n (act.Drop row) x = record { calls = refl; held = refl }
act_same n (act.Queue row) x = record { calls = refl; held = refl }
act_same n (act.End why) x = record { calls = refl; held = refl }

acts_same : (n : ℕ) (acts : List CallAct) (x : StateSeen) → IsSameHeld x (acts_done n acts x)
acts_same n [] x = record { calls = refl; held = refl }
acts_same n (a ∷ acts) x =
    let one = act_same n a x in
    let rest = acts_same n acts (act_done n a x) in record { calls = rest.calls ∙ one.calls; held = rest.held ∙ one.held }

same_goes : (x y : StateSeen) → IsSameHeld x y → CallsGoOn x → CallsGoOn y
same_goes x y is g = record { calls = subst AllGo (sym is.calls) g.calls; allows = subst AllowsAttempts (sym is.held) g.allows }

module _ (handled : ReceivedGoesOn) where
  reported_goes : (row : ℕ) (n : News) (x : StateSeen) → CallsGoOn x → CallsGoOn (reported row n x)
  reported_goes row n x g =
      let number : ℕ = call_of (row_at x.book row) in
      let b : BookActs = book_acted (received_news row n x.book.moment (next_word x)) number x.book in
      let z : StateSeen = record (drawn_if (has_drawn (row_at b.book row)) x) { book = b.book } in
      let w : StateSeen = acts_done number b.acts z in
      let same : IsSameHeld z w = acts_same number b.acts z in
      record {
        calls = all_beside (with_timers (due_at (slot_at w.book number)) (deadline_of (slot_at w.book number))) (λ (slot : CallSlot). refl) w.book.calls number
            (subst AllGo (sym same.calls)
            (all_acted (received_news row n x.book.moment (next_word x)) x.book.ledger _ (λ c k. handled row n x.book.moment (next_word x) _ k) x.book.calls number g.calls));
        allows = subst AllowsAttempts (sym same.held) g.allows;
      }

  gone_goes : (p : Option Placed) (x : StateSeen) → CallsGoOn x → CallsGoOn (gone_with p x)
  gone_goes None x g = g
  gone_goes (Some at) x g = same_goes x (stamped_gone at.link x) (stamped_same at.link x) g

  off_goes : (n row : ℕ) (p : Option Placed) (x : StateSeen) → CallsGoOn x → CallsGoOn (taken_off n row p x)
  off_goes n row None x g = record { calls = g.calls; allows = g.allows }
  off_goes n row (Some at) x g = record { calls = g.calls; allows = g.allows }

  pub ended_goes : (a : Attempt) (end : EndNews) (x : StateSeen) → CallsGoOn x → CallsGoOn (ended_in a end x)
  ended_goes a end x g =
      gone_goes a.row.placed (reported a.place (news.Ended a.place end) (taken_off a.row.call a.place a.row.placed x))
      (reported_goes a.place (news.Ended a.place end) (taken_off a.row.call a.place a.row.placed x) (off_goes a.row.call a.place a.row.placed x g))
