-- What holds of each single thing that is done to a channel, but for what its applications send and finish, what its links take and what comes
-- on them, holds of a whole step without these. `R` joins what was before and what is after. Here: what is done to calls; and, where it holds
-- also of what calls receive and of what is read, what comes on links.
use Rattle.std.proofs.Common.{min, length, ◌≡◌, ℕ, zero, suc, ◌-◌, if◌then◌else◌, Bool, true, false, Option, Some, None, List, [], ◌∷◌, ◌++◌, Ok, refl, IfSome, ap}
use Rattle.grpc_base.specs.Requests.{RequestSeen}
use Rattle.grpc_base.specs.Kinds.{KindsSeen}
use Rattle.grpc_base.specs.declared.event.EndCause.{EndCause}
use Rattle.grpc_base.specs.declared.event.Event.{Event}
use Rattle.grpc_base.specs.declared.event.Event.TheVariants as event
use Rattle.grpc_base.specs.declared.kind.Kind.{Kind}
use Rattle.grpc_base.specs.declared.plan.Chosen.{Chosen}
use Rattle.attempt_ledger.specs.declared.ledger.Ask.{Ask}
use Rattle.attempt_ledger.specs.declared.news.EndNews.{EndNews}
use Rattle.attempt_ledger.specs.declared.news.News.{News}
use Rattle.attempt_ledger.specs.declared.news.News.TheVariants as news
use Rattle.attempt_ledger.specs.declared.row.Placed.{Placed}
use Rattle.ledger_stamps.specs.Steps.{activated_generation, changed_at, gone_link, new_generation, read_link, retired_generation, changed, index_at}
use Rattle.service_config.specs.declared.config.Config.{Config}
use Rattle.call_core.specs.declared.act.CallAct.{CallAct}
use Rattle.call_core.specs.declared.act.CallAct.TheVariants as act
use Rattle.call_core.specs.Parts.{is_by_row}
use Rattle.call_core.specs.Steps as call
use Rattle.channel_core.specs.declared.state.book.Book.{Book}
use Rattle.channel_core.specs.declared.state.slots.CallSlot.{CallSlot}
use Rattle.channel_core.specs.Applying.{config_read}
use Rattle.channel_core.specs.Arrivals as arrivals
use Rattle.channel_core.specs.Books.{BookActs, book_acted, book_asked, book_begun, book_configured, book_finished, book_placed, book_taken, call_of, deadline_of, due_at, due_forgotten, has_drawn, has_ended, has_stream, link_at, link_of, row_at, slot_at, timers_set}
use Rattle.channel_core.specs.Draining.{DrainLeaves, drained_limit}
use Rattle.channel_core.specs.States.{StateSeen}
use Rattle.channel_core.specs.Steps as step
use Rattle.channel_core.specs.Steps.{chosen_in, configured_by, is_gone, next_word, overdue_ended, with_ask, with_generations, with_ledger_links}
use Rattle.channel_core.specs.Tables.{Received, received_in, retired_in, marked_dead, received_at, received_by, received_link, receives_at, numbered, reset_link, retired, sealed_link, with_link}
use Rattle.channel_core.specs.Timing.{due_keys, later, number_of}
use Rattle.std.specs.Option.{option_map_or}
use Rattle.channel_core.specs.declared.state.links.LinkSlot.{LinkSlot}
use Rattle.channel_core.specs.Arrivals.{linked_as, next_link}
use Rattle.channel_core.proofs.FairNews.{AreFair, AreFairEnds, IsFair, IsFairEnd, fair_ends, fair_received, fair_loss}
use Rattle.grpc_base.specs.declared.event.Reply.{Reply}

-- the book alone changes
abbrev pub with_book : Book → StateSeen → StateSeen
with_book book s = record s { book = book }

pub record IsQuietActionInvariant (R : StateSeen → StateSeen → Type 0) : Type 0 where
  pub joined : (s t u : StateSeen) → R s t → R t u → R s u
  -- what leaves the book, the config that is held and the number of links, and opens no channel that was shut
  pub beside : (s t : StateSeen) → t.book ≡ s.book → t.held ≡ s.held → length t.links ≡ length s.links → (s.shut ≡ true → t.shut ≡ true) → R s t
  -- what is done to one call
  pub timed_out : (number : ℕ) (s : StateSeen) → R s (with_book (book_asked (call.timed_out s.book.moment) number s.book).book s)
  pub closed : (why : EndCause) (number : ℕ) (s : StateSeen) → is_by_row why ≡ false → R s (with_book (book_asked (call.closed_by why s.book.moment) number s.book).book s)
  pub made : (number : ℕ) (s : StateSeen) → R s (with_book (book_asked (call.made_due s.book.moment) number s.book).book s)
  pub failed : (row number : ℕ) (s : StateSeen) → R s (with_book (book_acted (call.pick_failed row s.book.moment (next_word s)) number s.book).book s)
  pub placed : (row : ℕ) (at : Placed) (number : ℕ) (s : StateSeen) → at.entry ≡ s.book.ledger.entry → at.moment ≡ s.book.moment → R s (with_book (book_placed row at number s.book).book s)
  pub taken : (number : ℕ) (s : StateSeen) → R s (with_book (book_taken number s.book) s)
  pub timers : (due deadline : Option ℕ) (number : ℕ) (s : StateSeen) → R s (with_book (timers_set due deadline number s.book) s)
  pub forgotten : (number : ℕ) (s : StateSeen) → R s (with_book (due_forgotten number s.book) s)
  -- the rest of the ledger
  pub asked : (a : Ask) (s : StateSeen) → a.entry ≡ s.book.ledger.entry → R s (with_ask a s)
  pub gone : (link : ℕ) (s : StateSeen) → R s (with_ledger_links (changed_at (gone_link s.book.ledger.entry) s.book.ledger.links link) s)
  pub added : (kind : Kind) (s : StateSeen) → R s (with_generations (s.book.ledger.generations ++ new_generation kind ∷ []) s)
  pub activated : (number : ℕ) (s : StateSeen) → R s (with_generations (changed_at (activated_generation s.book.ledger.entry) s.book.ledger.generations number) s)
  pub retired : (number : ℕ) (s : StateSeen) → R s (with_generations (changed_at (retired_generation s.book.ledger.entry) s.book.ledger.generations number) s)

-- what comes on links
pub record Comes (R : StateSeen → StateSeen → Type 0) : Type 0 where
  pub handled : (row : ℕ) (reported : News) (number : ℕ) (s : StateSeen) → IsFair reported → R s (with_book (book_acted (call.received_news row reported s.book.moment (next_word s)) number s.book).book s)
  pub read : (link read : ℕ) (s : StateSeen) → R s (with_ledger_links (changed_at (read_link read) s.book.ledger.links link) s)

-- as many links as before
changed_lengths : {X : Type 0} (f : X → X) (xs : List X) (index : ℕ) → length (changed f xs index) ≡ length xs
changed_lengths f [] index = refl
changed_lengths f (x ∷ xs) zero = refl
changed_lengths f (x ∷ xs) (suc index) = ap suc (changed_lengths f xs index)

index_length : {X : Type 0} (f : X → X) (xs : List X) (index : Option ℕ) → length (option_map_or (λ i. changed f xs i) index xs) ≡ length xs
index_length f xs None = refl
index_length f xs (Some index) = changed_lengths f xs index

pub changed_length : {X : Type 0} (f : X → X) (xs : List X) (place : ℕ) → length (changed_at f xs place) ≡ length xs
changed_length f xs place = index_length f xs (index_at place (length xs))

received_if : (receives : Bool) (slot : LinkSlot) (link : ℕ) (piece : List ℕ) (links : List LinkSlot) → IfSome (if receives then Some (received_by slot link piece links) else None) (λ x. length x.links ≡ length links)
received_if true slot link piece links = changed_length (with_link (received_link piece)) links link
received_if false slot link piece links = tt

received_length : (link : ℕ) (piece : List ℕ) (links : List LinkSlot) (o : Option LinkSlot) → IfSome (received_at o link piece links) (λ x. length x.links ≡ length links)
received_length link piece links None = tt
received_length link piece links (Some slot) = received_if (receives_at (Some slot)) slot link piece links

-- a call begins, and a link comes up: what the events of these alone do
abbrev pub Begins : (StateSeen → StateSeen → Type 0) → RequestSeen → Type 0
Begins R request = (s : StateSeen) → R s (with_book (book_begun request s.book) s)

abbrev pub ComesUp : (StateSeen → StateSeen → Type 0) → ℕ → Type 0
ComesUp R sub = (s : StateSeen) → R s (linked_as (next_link s) sub s)

-- a result of the resolver brings a config; and a call gets its configuration, which happens in the settling alone
abbrev pub Holds : (StateSeen → StateSeen → Type 0) → Option (List ℕ) → Type 0
Holds R text = (config : Config) (kinds : KindsSeen) (s : StateSeen) → config_read kinds text ≡ Ok config → R s (configured_by config s)

abbrev pub Configures : (StateSeen → StateSeen → Type 0) → Type 0
Configures R = (chosen : Chosen) (number : ℕ) (s : StateSeen) → chosen_in s.held (slot_at s.book number) ≡ Some chosen → R s (with_book (book_configured chosen number s.book).book s)

-- what the events that begin a call, bring a link up or lose one, bring a config, send, finish, bring bytes or take some do
abbrev pub Gone : (StateSeen → StateSeen → Type 0) → Event → Type 0
Gone R (event.Begin request) = Begins R request
Gone R (event.Send number message) = (s : StateSeen) → R s (with_book (book_asked (call.sent message s.book.moment) number s.book).book s)
Gone R (event.Finish number) = (s : StateSeen) → R s (with_book (book_finished number s.book) s)
Gone R (event.Resolved addresses text) = Holds R text
Gone R (event.LinkUp sub) = ComesUp R sub
Gone R (event.Arrived link piece) = (s : StateSeen) → R s (arrivals.piece_arrived link piece s)
Gone R (event.LinkLost link) = (s : StateSeen) → R s (arrivals.lost link true s)
Gone R (event.Drain link room) = (s t : StateSeen) (r : Reply) → DrainLeaves link (min room drained_limit) s r t → R s t
Gone R e = Unit {0}

module _ (R : StateSeen → StateSeen → Type 0) (c : IsQuietActionInvariant R) where
  pub same : (s : StateSeen) → R s s
  same s = c.beside s s refl refl refl (λ e. e)

  pub either : (b : Bool) (s t u : StateSeen) → R s t → R s u → R s (if b then t else u)
  either true s t u first second = first
  either false s t u first second = second

  -- links that are gone
  pub gone_one : (link : ℕ) (s : StateSeen) → R s (step.stamped_gone link s)
  gone_one link s = either (is_gone link s) s _ s (c.gone link s) (same s)

  pub gone_all : (links : List ℕ) (s : StateSeen) → R s (step.all_stamped_gone links s)
  gone_all [] s = same s
  gone_all (link ∷ links) s = c.joined s (step.stamped_gone link s) _ (gone_one link s) (gone_all links (step.stamped_gone link s))

  -- the acts of a call
  left_one : (link row : ℕ) (s : StateSeen) → R s (step.left_on link row s)
  left_one link row s =
      let t : StateSeen = step.left_after link row s in
      c.joined s t _ (c.beside s t refl refl refl (λ e. e)) (gone_one link t)

  cut_one : (row : ℕ) (s : StateSeen) → R s (step.cut row s)
  cut_one row s =
      let link : ℕ = link_of (row_at s.book row) in
      let t : StateSeen = step.reset_on link row s in
      c.joined s t _ (c.beside s t refl refl (changed_length (with_link (reset_link row)) s.links link) (λ e. e)) (left_one link row t)

  act_one : (number : ℕ) (a : CallAct) (s : StateSeen) → R s (step.act_done number a s)
  act_one number (act.Cut row) s = cut_one row s
  act_one number (act.Drop row) s = c.beside s _ refl refl refl (λ e. e)
  act_one number (act.Queue row) s = c.beside s _ refl refl refl (λ e. e)
  act_one number (act.End why) s = c.beside s _ refl refl refl (λ e. e)

  act_all : (number : ℕ) (acts : List CallAct) (s : StateSeen) → R s (step.acts_done number acts s)
  act_all number [] s = same s
  act_all number (a ∷ acts) s = c.joined s (step.act_done number a s) _ (act_one number a s) (act_all number acts (step.act_done number a s))

  pub timers_of : (number : ℕ) (s : StateSeen) → R s (step.timers_moved number s)
  timers_of number s =
      let slot : Option CallSlot = slot_at s.book number in
      let t : StateSeen = with_book (timers_set (due_at slot) (deadline_of slot) number s.book) s in
      c.joined s t _ (c.timers (due_at slot) (deadline_of slot) number s) (c.beside t _ refl refl refl (λ e. e))

  pub follow : (number : ℕ) (acts : List CallAct) (s : StateSeen) → R s (step.followed number acts s)
  follow number acts s =
      let t : StateSeen = step.acts_done number acts s in
      c.joined s t _ (act_all number acts s) (timers_of number t)

  -- what a call did is followed, with what else changed beside the book
  pub after_book : (b : BookActs) (number : ℕ) (s t : StateSeen) → t.held ≡ s.held → length t.links ≡ length s.links → (s.shut ≡ true → t.shut ≡ true) → R s (with_book b.book s) → R s (step.with_book b number t)
  after_book b number s t e l shut h =
      let u : StateSeen = with_book b.book t in
      c.joined s u _ (c.joined s (with_book b.book s) u h (c.beside (with_book b.book s) u refl e l shut)) (follow number b.acts u)

  -- resets are sealed
  seal_all : (links : List ℕ) (s : StateSeen) → R s (step.links_sealed links s)
  seal_all [] s = same s
  seal_all (link ∷ links) s =
      let t : StateSeen = step.sealed_one link s in
      c.joined s t _ (c.beside s t refl refl (changed_length (with_link sealed_link) s.links link) (λ e. e)) (seal_all links t)

  pub seal : (s : StateSeen) → R s (step.sealed s)
  seal s =
      let t : StateSeen = step.resets_taken s in
      c.joined s t _ (c.beside s t refl refl refl (λ e. e)) (seal_all s.resets t)

  pub then_seal : (s t : StateSeen) → R s t → R s (step.sealed t)
  then_seal s t h = c.joined s t _ h (seal t)

  -- the ends by the channel
  time_out : (number : ℕ) (s : StateSeen) → R s (step.timed_out number s)
  time_out number s = then_seal s _ (after_book (book_asked (call.timed_out s.book.moment) number s.book) number s s refl refl (λ e. e) (c.timed_out number s))

  pub close : (why : EndCause) (number : ℕ) (s : StateSeen) → is_by_row why ≡ false → R s (step.closed why number s)
  close why number s by = then_seal s _ (after_book (book_asked (call.closed_by why s.book.moment) number s.book) number s s refl refl (λ e. e) (c.closed why number s by))

  time_out_all : (calls : List ℕ) (s : StateSeen) → R s (step.all_timed_out calls s)
  time_out_all [] s = same s
  time_out_all (key ∷ calls) s =
      let t : StateSeen = step.timed_out (number_of key) s in
      c.joined s t _ (time_out (number_of key) s) (time_out_all calls t)

  pub overdue : (s : StateSeen) → R s (overdue_ended s)
  unfolding overdue_ended
  overdue s =
      let t : StateSeen = record s { deadlines = later s.book.moment s.deadlines } in
      c.joined s t _ (c.beside s t refl refl refl (λ e. e)) (time_out_all (due_keys s.book.moment s.deadlines) t)

  -- what is reported to a call, and what it draws
  reported_after : (b : BookActs) (number row : ℕ) (s t : StateSeen) → t.held ≡ s.held → length t.links ≡ length s.links → (s.shut ≡ true → t.shut ≡ true) → R s (with_book b.book s) → R s (step.reported_acts b number row t)
  reported_after b number row s t e l shut h = after_book b number s (step.drawn_if (has_drawn (row_at b.book row)) t) e l shut h

  pub fail : (number row : ℕ) (s : StateSeen) → R s (step.pick_failed number row s)
  fail number row s =
      then_seal s _ (reported_after (book_acted (call.pick_failed row s.book.moment (next_word s)) number s.book) number row s (step.unqueued number row s) refl refl (λ e. e) (c.failed row number s))

  -- what comes on links
  module _ (comes : Comes R) where
    report_to : (number row : ℕ) (n : News) (s : StateSeen) → IsFair n → R s (step.reported_to number row n s)
    report_to number row n s fair =
        reported_after (book_acted (call.received_news row n s.book.moment (next_word s)) number s.book) number row s s refl refl (λ e. e) (comes.handled row n number s fair)

    report : (row : ℕ) (n : News) (s : StateSeen) → IsFair n → R s (step.reported row n s)
    report row n s fair = report_to (call_of (row_at s.book row)) row n s fair

    -- the ends of attempts
    end_one : (link row : ℕ) (end : EndNews) (s : StateSeen) → IsFairEnd end → R s (arrivals.ended_on link row end s)
    end_one link row end s fair =
        let t : StateSeen = step.left_after link row s in
        let u : StateSeen = step.reported row (news.Ended row end) t in
        either (has_ended (row_at s.book row)) s s _ (same s) (c.joined s t _ (c.beside s t refl refl refl (λ e. e)) (c.joined t u _ (report row (news.Ended row end) t fair) (gone_one link u)))

    end_all : (link : ℕ) (ends : List (ℕ × EndNews)) (s : StateSeen) → AreFairEnds ends → R s (arrivals.all_ended_on link ends s)
    end_all link [] s fair = same s
    end_all link (e ∷ ends) s fair =
        let t : StateSeen = arrivals.ended_on link e.0 e.1 s in
        c.joined s t _ (end_one link e.0 e.1 s fair.0) (end_all link ends t fair.1)

    lose_row : (link : ℕ) (each : Bool) (row : ℕ) (s : StateSeen) → R s (arrivals.lost_row link each row s)
    lose_row link true row s = then_seal s _ (end_one link row (step.loss_of link row s) s (fair_loss (has_stream (row_at s.book row)) (step.read_of (link_at s.book link))))
    lose_row link false row s = end_one link row (step.loss_of link row s) s (fair_loss (has_stream (row_at s.book row)) (step.read_of (link_at s.book link)))

    lose_on : (further : ℕ → StateSeen → StateSeen) (link : ℕ) (each : Bool) (row : Option ℕ) (s : StateSeen) → ((row : ℕ) (s : StateSeen) → R s (further row s)) → R s (arrivals.rows_lost_on further link each row s)
    lose_on further link each None s h = same s
    lose_on further link each (Some row) s h =
        let t : StateSeen = arrivals.lost_row link each row s in
        c.joined s t _ (lose_row link each row s) (h row t)

    lose_rows : (most link : ℕ) (each : Bool) (row : ℕ) (s : StateSeen) → R s (arrivals.rows_lost most link each row s)
    lose_rows zero link each row s = same s
    lose_rows (suc most) link each row s = lose_on (arrivals.rows_lost most link each) link each (step.next_on link row s) s (lose_rows most link each)

    pub lose : (link : ℕ) (each : Bool) (s : StateSeen) → R s (arrivals.lost link each s)
    lose link each s =
        let t : StateSeen = step.marked_dead link s in
        let u : StateSeen = arrivals.rows_lost arrivals.most_rows link each 0 t in
        c.joined s t _ (c.beside s t refl refl (changed_length marked_dead s.links link) (λ e. e)) (c.joined t u _ (lose_rows arrivals.most_rows link each 0 t) (gone_one link u))

    retire : (link : ℕ) (s : StateSeen) → R s (step.retired link s)
    retire link s =
        let t : StateSeen = record (step.downed link s) { links = retired_in link s.links } in
        c.joined s t _ (c.beside s t refl refl (changed_length retired s.links link) (λ e. e)) (gone_one link t)

    -- the news of a frame, and the frames of a piece
    receive_one : (link : ℕ) (n : News) (s : StateSeen) → R s (arrivals.received_one link n s)
    receive_one link news.Ready s = c.beside s _ refl refl refl (λ e. e)
    receive_one link news.Retiring s = retire link s
    receive_one link (news.Broken why) s = lose link false s
    receive_one link (news.Ended tag end) s = same s
    receive_one link (news.Head tag meta seen) s = report tag (news.Head tag meta seen) s tt
    receive_one link (news.Message tag octets seen) s = report tag (news.Message tag octets seen) s tt
    receive_one link (news.TooLarge tag seen) s = report tag (news.TooLarge tag seen) s tt

    receive_all : (link : ℕ) (ns : List News) (s : StateSeen) → R s (arrivals.received_all link ns s)
    receive_all link [] s = same s
    receive_all link (n ∷ ns) s =
        let t : StateSeen = arrivals.received_one link n s in
        c.joined s t _ (receive_one link n s) (receive_all link ns t)

    receive : (link : ℕ) (ns : List News) (s : StateSeen) → AreFair ns → R s (arrivals.handled link ns s)
    receive link ns s fair =
        let t : StateSeen = arrivals.received_all link ns s in
        let u : StateSeen = arrivals.all_ended_on link (step.ends_kept ns []) t in
        let v : StateSeen = step.sealed_one link u in
        then_seal s v (c.joined s t v (receive_all link ns s) (c.joined t u v (end_all link (step.ends_kept ns []) t (fair_ends ns [] fair tt)) (c.beside u v refl refl (changed_length (with_link sealed_link) u.links link) (λ e. e))))

    pub receive_frame : (link : ℕ) (h : Received) (s : StateSeen) → length h.links ≡ length s.links → AreFair h.news → R s (arrivals.frame_received link h s)
    receive_frame link h s l fair =
        let t : StateSeen = record s { links = h.links } in
        let u : StateSeen = arrivals.read_to link h.read t in
        c.joined s t _ (c.beside s t refl refl l (λ e. e)) (c.joined t u _ (comes.read link h.read t) (receive link h.news u fair))

    frames_on : (further : ℕ → StateSeen → StateSeen) (link : ℕ) (h : Option Received) (s : StateSeen) → IfSome h (λ x. length x.links ≡ length s.links) → IfSome h (λ x. AreFair x.news) → ((skip : ℕ) (s : StateSeen) → R s (further skip s)) → R s (arrivals.frames_from further link h s)
    frames_on further link None s l fair more = same s
    frames_on further link (Some h) s l fair more =
        let t : StateSeen = arrivals.frame_received link h s in
        c.joined s t _ (receive_frame link h s l fair) (more (h.taken - 1) t)

    pub frames : (link : ℕ) (piece : List ℕ) (skip : ℕ) (s : StateSeen) → R s (arrivals.frames_after link piece skip s)
    frames link [] skip s = same s
    frames link (b ∷ piece) zero s = frames_on (arrivals.frames_after link piece) link (received_in link (b ∷ piece) s.links) s (received_length link (b ∷ piece) s.links (numbered s.links link)) (fair_received link (b ∷ piece) s.links (numbered s.links link)) (frames link piece)
    frames link (b ∷ piece) (suc skip) s = frames link piece skip s
