-- What the channel says of an attempt that is lost with its link is what the session says: so what it does of it is what is done at the end of an attempt.
use Rattle.std.proofs.Common.{◌≡◌, ◌&&◌, ◌==◌, ap, refl, sym, ◌∙◌, Bool, true, false, List, Option, None, Some, ℕ, if◌then◌else◌, is_none, is_some, option_map}
use Rattle.std.proofs.lemmas.Bool.{eqb-true}
use Rattle.std.specs.Option.{option_map_or}
use Rattle.attempt_ledger.specs.declared.news.EndNews.{EndNews}
use Rattle.attempt_ledger.specs.declared.news.News.TheVariants as news
use Rattle.attempt_ledger.specs.declared.row.Placed.{Placed}
use Rattle.attempt_ledger.specs.declared.row.Row.{Row}
use Rattle.attempt_ledger.specs.declared.row.RowEnd.{RowEnd}
use Rattle.call_actions.proofs.Ranks.{numbered_map}
use Rattle.call_actions.specs.Laws.{news_of}
use Rattle.channel_actions.proofs.Stamps.{stamp_keeps}
use Rattle.channel_actions.specs.Columns.{SeesColumns}
use Rattle.event_cases.proofs.LostLinks.Stamped.{read_stays, seen_at, stamped_form}
use Rattle.end_cases.specs.AttemptEnds.Ends.{ended_in, gone_with, taken_off}
use Rattle.channel_core.specs.Arrivals.{ended_on, lost_row}
use Rattle.channel_core.specs.Books.{has_ended, has_stream, link_at, row_at}
use Rattle.channel_core.specs.States.{StateSeen}
use Rattle.channel_core.specs.Steps as channel
use Rattle.channel_core.specs.Steps.{left_after, loss, sealed, stamped_gone, reported}
use Rattle.link_actions.proofs.LossActions.Losses.{link_is}
use Rattle.link_actions.specs.LossActions.Sees.{loss_of}
use Rattle.session_actions.specs.Entries.{entry}
use Rattle.session_actions.specs.Links.{link_of, read_bytes}
use Rattle.session_actions.specs.Reading.{is_outstanding_on}
use Rattle.session_actions.specs.Refusals.{is_gone}
use Rattle.session_actions.specs.Words.{holds, numbered}
use Rattle.session_actions.specs.declared.attempt.Attempt.{Attempt}
use Rattle.session_actions.specs.declared.link.Link.{Link}
use Rattle.session_actions.specs.declared.seen.Seen.{Seen}

-- an attempt that is outstanding on a link
pub record IsPlacedOn (l : Link) (a : Attempt) : Type 0 where
  pub at : Placed
  pub placed : a.row.placed ≡ Some at
  pub link : at.link ≡ l.number
  pub going : a.row.ended ≡ None

on_by : (n : ℕ) (p : Option Placed) (e : Option RowEnd) → ((is_some p && is_none e) && holds (λ (at : Placed). at.link == n) p) ≡ true
    → (at : Placed) × ((p ≡ Some at) × ((at.link ≡ n) × (e ≡ None)))
on_by n None e h = absurd (cc)
on_by n (Some at) (Some end) h = absurd (cc)
on_by n (Some at) None h = (at, (refl, (eqb-true at.link n h, refl)))

pub placed_on : (l : Link) (a : Attempt) → is_outstanding_on l a ≡ true → IsPlacedOn l a
placed_on l a out =
    let k = on_by l.number a.row.placed a.row.ended out in
    record { at = k.0; placed = k.1.0; link = k.1.1.0; going = k.1.1.1 }

loss_by : (stream : Option ℕ) (a : Attempt) (s : Seen) (n : ℕ) → option_map_or read_bytes (link_of a s) 0 ≡ n → loss (is_some stream) n ≡ news_of a (loss_of stream) s
loss_by None a s n e = ap (loss false) (sym e)
loss_by (Some stream) a s n e = ap (loss true) (sym e)

ended_by : (link row : ℕ) (e : EndNews) (x : StateSeen) (o : Option Row) → row_at x.book row ≡ o → has_ended o ≡ false
    → ended_on link row e x ≡ stamped_gone link (reported row (news.Ended row e) (left_after link row x))
ended_by link row e x o at going =
    ap (λ (q : Option Row). if has_ended q then x else stamped_gone link (reported row (news.Ended row e) (left_after link row x))) at
    ∙ ap (λ (b : Bool). if b then x else stamped_gone link (reported row (news.Ended row e) (left_after link row x))) going

module _ (l : Link) (x : StateSeen) (s : Seen) (columns : SeesColumns (stamped_gone l.number x).book.ledger s) (at : numbered s.links l.number ≡ Some l) (a : Attempt)
    (there : numbered s.attempts a.place ≡ Some a) (out : is_outstanding_on l a ≡ true) where
  p : IsPlacedOn l a
  p = placed_on l a out

  pub row_is : row_at x.book a.place ≡ Some a.row
  row_is =
      ap (λ (z : StateSeen). numbered z.book.ledger.rows a.place) (sym (stamped_form l.number x))
      ∙ ap (λ (rows : List Row). numbered rows a.place) (sym columns.rows)
      ∙ numbered_map (λ (q : Attempt). q.row) s.attempts a.place ∙ ap (option_map (λ (q : Attempt). q.row)) there

  read_is : channel.read_of (link_at x.book l.number) ≡ read_bytes l
  read_is =
      sym (read_stays l.number x)
      ∙ ap channel.read_of (seen_at l s (stamped_gone l.number x).book.ledger.links columns.links l.number at)
      ∙ stamp_keeps (λ (k : Link). is_gone k s) (λ k z. refl) read_bytes (λ k z. refl) (entry s) l

  loss_is : channel.loss_of l.number a.place x ≡ news_of a (loss_of a.row.stream) s
  loss_is =
      ap (λ (q : Option Row). loss (has_stream q) (channel.read_of (link_at x.book l.number))) row_is
      ∙ ap (loss (is_some a.row.stream)) read_is
      ∙ loss_by a.row.stream a s (read_bytes l) (ap (λ (q : Option Link). option_map_or read_bytes q 0) (link_is l s a at out))

  going : has_ended (Some a.row) ≡ false
  going = ap (λ (q : Option RowEnd). is_some q) p.going

  abbrev end : EndNews
  end = news_of a (loss_of a.row.stream) s

  off_is : gone_with a.row.placed (reported a.place (news.Ended a.place end) (taken_off a.row.call a.place a.row.placed x))
      ≡ stamped_gone l.number (reported a.place (news.Ended a.place end) (left_after l.number a.place x))
  off_is =
      ap (λ (q : Option Placed). gone_with q (reported a.place (news.Ended a.place end) (taken_off a.row.call a.place q x))) p.placed
      ∙ ap (λ (n : ℕ). stamped_gone n (reported a.place (news.Ended a.place end) (left_after n a.place x))) p.link

  pub ended_is : lost_row l.number false a.place x ≡ ended_in a end x
  ended_is =
      ap (λ (e : EndNews). ended_on l.number a.place e x) loss_is ∙ ended_by l.number a.place end x (Some a.row) row_is going ∙ sym off_is

  pub lost_is : lost_row l.number true a.place x ≡ sealed (ended_in a end x)
  lost_is = ap sealed ended_is
