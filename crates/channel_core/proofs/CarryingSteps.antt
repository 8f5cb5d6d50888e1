-- What holds of each single thing that is done to a channel holds of a whole step: events, the settling, and all of it.
use Rattle.std.proofs.Common.{◌≡◌, ℕ, min, length, Option, Some, None, List, [], ◌∷◌, refl, sym, subst, ap, ◌∙◌}
use Rattle.grpc_base.specs.declared.address.Address.{Address}
use Rattle.grpc_base.specs.declared.event.Event.{Event}
use Rattle.grpc_base.specs.declared.event.Event.TheVariants as event
use Rattle.grpc_base.specs.declared.event.Refusal.{Refusal}
use Rattle.grpc_base.specs.declared.event.Reply.{Reply}
use Rattle.grpc_base.specs.declared.kind.Kind.{Kind}
use Rattle.channel_core.specs.declared.state.book.Book.{Book}
use Rattle.channel_core.specs.Applying as applying
use Rattle.channel_core.specs.Applying.{AnswersBy, Applies, config_read}
use Rattle.channel_core.specs.Books.{lines_of}
use Rattle.channel_core.specs.Draining.{DrainLeaves, drained_limit, opened_by, with_streams}
use Rattle.channel_core.specs.Feeding.{all_fed, book_fed}
use Rattle.channel_core.specs.Settling as settling
use Rattle.channel_core.specs.Settling.{passed, rounds}
use Rattle.channel_core.specs.States.{StateSeen}
use Rattle.channel_core.specs.Tables.{DrainGives}
use Rattle.channel_core.proofs.Carrying.{Carried, IsActionInvariant, Configures, goes, same, with_book, changed_length}
use Rattle.channel_core.proofs.Going.{Gone}
use Rattle.channel_core.proofs.GoingSteps as going
use Rattle.h2_link.specs.Feeds.{Line}
use Rattle.h2_link.specs.declared.news.Drained.{Drained}
use Rattle.channel_core.specs.declared.state.links.LinkSlot.{LinkSlot}

-- as many links as before
drained_length : (room : ℕ) (links : List LinkSlot) (link : ℕ) (lines : ℕ → Line) (d : Option Drained) (after : List LinkSlot) (lines_after : ℕ → Line) → DrainGives room links link lines d after lines_after → length after ≡ length links
drained_length room links link lines None after lines_after g = ap length g.1
drained_length room links link lines (Some d) after lines_after g = ap length g.is ∙ changed_length (λ slot. g.after) links link

module _ (R : StateSeen → StateSeen → Type 0) (c : IsActionInvariant R) where
  -- a drain
  feed_all : (feeds : List (ℕ × ℕ)) (s : StateSeen) → R s (with_book (all_fed feeds s.book) s)
  feed_all [] s = same R c s
  feed_all (f ∷ feeds) s =
      let t : StateSeen = with_book (book_fed f.0 f.1 s.book) s in
      c.joined s t _ (c.fed f.0 f.1 s) (feed_all feeds t)

  stream_all : (opened : List (ℕ × ℕ)) (s : StateSeen) → R s (with_book (with_streams opened s.book) s)
  stream_all [] s = same R c s
  stream_all (o ∷ opened) s =
      let t : StateSeen = with_book (with_streams (o ∷ []) s.book) s in
      c.joined s t _ (c.streamed o.0 o.1 s) (stream_all opened t)

  drain : (link room : ℕ) (s : StateSeen) (r : Reply) (t : StateSeen) → DrainLeaves link room s r t → R s t
  drain link room s r t d =
      let fed : R s (with_book d.fed s) = subst (λ (b : Book). R s (with_book b s)) (sym d.feeds.1) (feed_all d.feeds.0 s) in
      let u : StateSeen = with_book (with_streams (opened_by d.drained) d.fed) s in
      let v : StateSeen = record s { links = t.links; book = with_streams (opened_by d.drained) d.fed } in
      let there : R s v = c.joined s u v (c.joined s (with_book d.fed s) u fed (stream_all (opened_by d.drained) (with_book d.fed s))) (c.beside u v refl refl (drained_length room s.links link (lines_of s.book) d.drained t.links (lines_of d.fed) d.gives) (λ e. e)) in
      subst (λ (x : StateSeen). R s x) (sym d.state_is) there

  -- an event
  gone : (e : Event) → Carried R e → Gone R e
  gone (event.Begin request) k = k
  gone (event.Send number message) k = c.sent message number
  gone (event.Finish number) k = c.finished number
  gone (event.Resolved addresses text) k = k
  gone (event.LinkUp sub) k = k
  gone (event.Drain link room) k = λ s t r g. drain link (min room drained_limit) s r t g
  gone e k = tt

  pub answered : (refused : Option Refusal) (e : Event) (s t : StateSeen) (r : Reply) → Carried R e → AnswersBy refused e s t r → R s t
  answered refused e s t r k g = going.answered R (goes R c) refused e s t r (gone e k) g

  pub settle : (s : StateSeen) → Configures R → R s (settling.settled s)
  settle s f = going.settle R (goes R c) s f

  -- a whole step, from where it begins
  pub carried : (entry moment word : ℕ) (e : Event) (old new : StateSeen) (r : Reply) → Configures R → Carried R e → applying.Stepped entry moment word e old new r → R (applying.begun_at entry moment word old) new
  carried entry moment word e old new r f k h = going.walked R (goes R c) entry moment word e old new r f (gone e k) h
