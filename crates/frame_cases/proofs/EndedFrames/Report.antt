-- The channel is given the end of an attempt, and the messages that came before it in the same frame.
use Rattle.std.proofs.Common.{◌≡◌, ◌++◌, ◌∷◌, append-nil, ap, refl, sym, ◌∙◌, true, List, [], Option, None, Some, ℕ, if◌then◌else◌, is_some, map}
use Rattle.attempt_ledger.specs.declared.news.EndNews.{EndNews}
use Rattle.attempt_ledger.specs.declared.news.News.{News}
use Rattle.attempt_ledger.specs.declared.news.News.TheVariants as news
use Rattle.attempt_ledger.specs.declared.row.Placed.{Placed}
use Rattle.attempt_ledger.specs.declared.row.Row.{Row}
use Rattle.attempt_ledger.specs.declared.row.RowEnd.{RowEnd}
use Rattle.call_core.specs.Steps.{is_committed_live}
use Rattle.end_cases.specs.AttemptEnds.Ends.{ended_in, gone_with, taken_off}
use Rattle.end_cases.specs.AttemptEnds.Laws.{all_sealed}
use Rattle.channel_core.specs.Arrivals.{all_ended_on, ended_on, frame_received, handled, received_all, read_to}
use Rattle.channel_core.specs.Books.{deadline_of, due_at, has_ended, row_at, slot_at}
use Rattle.channel_core.specs.States.{StateSeen}
use Rattle.channel_core.specs.Steps.{ends_kept, left_after, sealed, sealed_one, stamped_gone, reported}
use Rattle.channel_core.specs.Tables.{Received, with_call}
use Rattle.channel_core.specs.declared.state.slots.CallSlot.{CallSlot}
use Rattle.frame_cases.proofs.MessageFrames.Report.{IsReported, all_reported, with_messages, with_more}
use Rattle.frame_cases.proofs.PieceWalks.Coming.{coming_ended, coming_sealed, coming_sealed_one}
use Rattle.frame_cases.specs.PieceWalks.Points.{coming}
use Rattle.grpc_link.specs.Response.{message_news}
use Rattle.session_actions.specs.declared.attempt.Attempt.{Attempt}

-- the end stands after the messages
abbrev pub last_news : ℕ → ℕ → List (List ℕ) → EndNews → List News
last_news tag seen more end = map (message_news tag seen) more ++ news.Ended tag end ∷ []

messages_only : (link tag seen : ℕ) (end : EndNews) (more : List (List ℕ)) (z : StateSeen) → received_all link (last_news tag seen more end) z ≡ received_all link (map (message_news tag seen) more) z
messages_only link tag seen end [] z = refl
messages_only link tag seen end (m ∷ more) z = messages_only link tag seen end more (reported tag (news.Message tag m seen) z)

one_end : (tag seen : ℕ) (end : EndNews) (more : List (List ℕ)) → ends_kept (last_news tag seen more end) [] ≡ (tag, end) ∷ []
one_end tag seen end [] = refl
one_end tag seen end (m ∷ more) = one_end tag seen end more

-- what the channel does of such a frame
module _ (link : ℕ) (h : Received) (x : StateSeen) (tag seen : ℕ) (more : List (List ℕ)) (end : EndNews) (news_are : h.news ≡ last_news tag seen more end) where
  abbrev pub read : StateSeen
  read = read_to link h.read (record x { links = h.links })

  pub received_end : (z : StateSeen) → received_all link (map (message_news tag seen) more) read ≡ z → frame_received link h x ≡ sealed (sealed_one link (ended_on link tag end z))
  received_end z is =
      ap (λ (ns : List News). handled link ns read) news_are
      ∙ ap (λ (ends : List (ℕ × EndNews)). sealed (sealed_one link (all_ended_on link ends (received_all link (last_news tag seen more end) read)))) (one_end tag seen end more)
      ∙ ap (λ (v : StateSeen). sealed (sealed_one link (ended_on link tag end v))) (messages_only link tag seen end more read ∙ is)

-- the end of one that is placed there
module _ (link : ℕ) (a : Attempt) (at : Placed) (end : EndNews) (placed : a.row.placed ≡ Some at) (here : at.link ≡ link) (going : a.row.ended ≡ None) where
  abbrev after_end : ℕ → StateSeen → StateSeen
  after_end k x = stamped_gone k (reported a.place (news.Ended a.place end) (left_after k a.place x))

  pub ended_same : (x : StateSeen) → row_at x.book a.place ≡ Some a.row → ended_on link a.place end x ≡ ended_in a end x
  ended_same x row =
      ap (λ (q : Option Row). if has_ended q then x else after_end link x) row
      ∙ ap (λ (e : Option RowEnd). if is_some e then x else after_end link x) going
      ∙ sym (ap (λ (q : Option Placed). gone_with q (reported a.place (news.Ended a.place end) (taken_off a.row.call a.place q x))) placed ∙ ap (λ (k : ℕ). after_end k x) here)

  -- with bytes that are still to come
  pub ended_coming : (left : List ℕ) (x : StateSeen) → row_at x.book a.place ≡ Some a.row
      → all_sealed (link ∷ []) (ended_in a end (coming link left x)) ≡ coming link left (sealed (sealed_one link (ended_on link a.place end x)))
  ended_coming left x row =
      ap (λ (v : StateSeen). sealed (sealed_one link v)) (sym (ended_same (coming link left x) row) ∙ coming_ended link left link a.place end x)
      ∙ ap sealed (coming_sealed_one link left link (ended_on link a.place end x))
      ∙ coming_sealed link left (sealed_one link (ended_on link a.place end x))

abbrev pub sealed_end : ℕ → Attempt → EndNews → StateSeen → StateSeen
sealed_end link a end x = all_sealed (link ∷ []) (ended_in a end x)

-- messages of a call that is committed to the attempt, or none
pub reported_more : (link tag seen n : ℕ) (more : List (List ℕ)) (x : StateSeen) (row : Row) (slot : CallSlot) → row_at x.book tag ≡ Some row → row.call ≡ n → row.ended ≡ None
    → slot_at x.book n ≡ Some slot → ((more ≡ [] → ⊥) → is_committed_live tag slot.call ≡ true) → due_at (Some slot) ≡ slot.due → deadline_of (Some slot) ≡ slot.deadline
    → IsReported n (with_more more slot.call) slot x (received_all link (map (message_news tag seen) more) x)
reported_more link tag seen n [] x row slot row_is call_is going there live due deadline_is = record {
  calls = x.book.calls;
  put = record {
    long = refl;
    mine = there ∙ ap (λ (ms : List (List ℕ)). Some (with_call (with_messages ms slot.call) slot)) (sym (append-nil slot.call.inbox.messages));
    others = λ j e. refl;
  };
  is = refl;
}
reported_more link tag seen n (m ∷ more) x row slot row_is call_is going there live due deadline_is =
    all_reported link tag seen n (m ∷ more) x row slot row_is call_is going there (live (λ e. let no : ⊥ = (cc) in no)) due deadline_is
