-- An attempt that waited for a pick is placed on a link next: what is known of it, and what session and channel are after it.
use Rattle.std.proofs.Common.{◌≡◌, ◌==◌, ◌&&◌, ◌||◌, ◌-◌, ◌++◌, ◌∷◌, ◌∙◌, ap, eq-eqb, eqb-true, refl, sym, Bool, true, false, List, [], Option, None, Some, ℕ, if◌then◌else◌, is_none, is_some, map, option_map, slice_get, slice_set}
use Rattle.std.specs.BTreeSet.{insert_key}
use Rattle.std.specs.List.{list_any}
use Rattle.std.specs.Option.{option_map_or}
use Rattle.std.specs.Set.{remove_key}
use Rattle.a6_numbers.specs.Throttling.{Bucket}
use Rattle.attempt_ledger.specs.declared.ledger.Ledger.{Ledger}
use Rattle.attempt_ledger.specs.declared.row.Placed.{Placed}
use Rattle.attempt_ledger.specs.declared.row.RowEnd.{RowEnd}
use Rattle.call_actions.proofs.Columns as columns
use Rattle.call_actions.proofs.Columns.{written, written_seen}
use Rattle.call_actions.proofs.Lists.{changed_here}
use Rattle.call_actions.proofs.PlacedFrames as placing
use Rattle.call_actions.proofs.Places.{changed_is, found_live}
use Rattle.call_actions.proofs.Ranks.{numbered_map}
use Rattle.call_actions.specs.CallsApart.Laws.{LinesAreFair, TokensStay}
use Rattle.call_actions.specs.CallsInTurn.Laws.{PlacingKeeps}
use Rattle.call_actions.specs.Laws.{AttemptsAreDue, AttemptsArePlaced}
use Rattle.call_actions.specs.Sees.{is_live, live_row}
use Rattle.call_core.specs.Parts.{begun_row, find_live, linked, names, placed_attempts}
use Rattle.call_core.specs.Steps as steps
use Rattle.call_core.specs.Steps.{Stepped, lent, placed_if_live, placed_row_live}
use Rattle.call_core.specs.declared.live.LiveRow.{LiveRow}
use Rattle.call_core.specs.declared.state.CallState.{CallState}
use Rattle.channel_actions.proofs.Links.Settings.Slots.{acted_is, changed_slot_is, set_twice}
use Rattle.channel_actions.specs.Agrees.{Agrees}
use Rattle.channel_actions.specs.Calls.{SeesCall}
use Rattle.attempt_cases.proofs.ServeSteps.OutThis as this
use Rattle.call_cases.specs.ConfiguredCalls.Laws.{Frames}
use Rattle.call_cases.specs.ConfiguredCalls.Steps.{timed}
use Rattle.attempt_cases.specs.ServeSteps.Follows.{IsHeldWhole}
use Rattle.channel_core.proofs.Places.{put_there}
use Rattle.channel_core.specs.Books.{BookActs, book_placed, deadline_of, due_at, limit_at, limit_in, placed_in_book, slot_at}
use Rattle.channel_core.specs.Settling.{offered, settled_in}
use Rattle.channel_core.specs.States.{StateSeen}
use Rattle.channel_core.specs.Steps.{followed, timers_moved, timers_moved_to}
use Rattle.channel_core.specs.Tables.{Acted, acted_as, changed_slot, placed_link, takes_rows, with_call, with_link, with_timers}
use Rattle.channel_core.specs.Timing.{timer_moved}
use Rattle.channel_core.specs.declared.state.slots.CallSlot.{CallSlot}
use Rattle.ledger_stamps.specs.Steps.{changed_at, placed_row}
use Rattle.link_actions.specs.ReaderActions.Laws.{PlacingsGiveReaders}
use Rattle.link_actions.specs.SteadyLinks.Laws.{PlacingsKeep}
use Rattle.picker_gate.specs.Pairs.{is_same, pair_cmp}
use Rattle.session_actions.specs.Actions.{after, after_if, following}
use Rattle.session_actions.specs.Attempts.{call_of, commitment, is_of, is_outstanding, is_queued, marked_row, wants_follower}
use Rattle.session_actions.specs.Calls.{marked}
use Rattle.session_actions.specs.Commitments.{is_inherited}
use Rattle.session_actions.specs.Entries.{now}
use Rattle.session_actions.specs.Policies.{attempt_placed, with_placing}
use Rattle.session_actions.specs.Refusals.{is_shutdown_sub}
use Rattle.session_actions.specs.Subchannels.{is_going_down}
use Rattle.session_actions.specs.Words.{changed, numbered}
use Rattle.session_actions.specs.declared.action.Action.TheVariants as action
use Rattle.session_actions.specs.declared.action.Action.{Action}
use Rattle.session_actions.specs.declared.attempt.Attempt.{Attempt}
use Rattle.session_actions.specs.declared.call.Call.{Call}
use Rattle.session_actions.specs.declared.call.MarkKind.TheVariants as mark
use Rattle.session_actions.specs.declared.entry.OpenEntry.{OpenEntry}
use Rattle.session_actions.specs.declared.link.Link.{Link}
use Rattle.session_actions.specs.declared.seen.Seen.{Seen}

-- the laws that the parts of the agreement are by
pub record OutLaws : Type 0 where
  pub frames : Frames
  pub tokens : TokensStay
  pub fair : LinesAreFair
  pub turns : PlacingKeeps
  pub dues : AttemptsAreDue
  pub places : AttemptsArePlaced
  pub waits : PlacingsKeep
  pub gives : PlacingsGiveReaders

-- an attempt that waits is placed next
pub record OutNext (x : StateSeen) (s : Seen) : Type 0 where
  pub agrees : Agrees x s
  pub entry : OpenEntry
  pub current : s.current ≡ Some entry
  -- its call
  pub call : Call
  pub there : numbered s.calls call.number ≡ Some call
  pub slot : CallSlot
  pub slot_there : slot_at x.book call.number ≡ Some slot
  pub sees : SeesCall x s call slot
  pub configured : is_some call.config ≡ true
  pub held : IsHeldWhole s call slot.call.buffer
  -- the attempt
  pub row : ℕ
  pub attempt : Attempt
  pub here : numbered s.attempts row ≡ Some attempt
  pub own : is_of call attempt ≡ true
  pub queued : is_queued attempt s ≡ true
  pub streamless : attempt.row.stream ≡ None
  -- the link, which takes attempts, and whose subchannel is not shut down
  pub at : Placed
  pub moment : at.moment ≡ now s
  pub link : Link
  pub link_there : numbered s.links at.link ≡ Some link
  pub up : is_going_down link ≡ false
  pub alive : is_shutdown_sub s link.sub ≡ false
  -- nothing else follows
  pub quiescent : list_any (λ (q : Attempt). wants_follower q s) s.attempts ≡ false
  pub uninherited : list_any (is_inherited s) s.attempts ≡ false
  pub next : following s ≡ Some (action.AttemptPlaced row at)

not_equal : (n m : ℕ) (b : Bool) → (n == m) ≡ b → (n ≡ m → ⊥) → b ≡ false
not_equal n m true e off = absurd (off (eqb-true n m e))
not_equal n m false e off = refl

module _ (x : StateSeen) (s : Seen) (is : OutNext x s) where
  abbrev c : Call
  c = is.call

  abbrev slot : CallSlot
  slot = is.slot

  abbrev row : ℕ
  row = is.row

  abbrev a : Attempt
  a = is.attempt

  abbrev at : Placed
  at = is.at

  abbrev pub does_it : Action
  does_it = action.AttemptPlaced is.row is.at

  -- it waits, and the call is committed to no other attempt
  pub unplaced : is.attempt.row.placed ≡ None
  unplaced = this.unplaced s c row a is.there is.here is.own is.queued is.sees.order.places is.sees.turn.unfollowed is.uninherited

  pub unended : is.attempt.row.ended ≡ None
  unended = this.unended s c row a is.there is.here is.own is.queued is.sees.order.places is.sees.turn.unfollowed is.uninherited

  pub call_is : call_of is.attempt s ≡ Some is.call
  call_is = this.call_is s c row a is.there is.here is.own is.queued is.sees.order.places is.sees.turn.unfollowed is.uninherited

  pub is_open : is.call.end ≡ None
  is_open = this.is_open s c row a is.there is.here is.own is.queued is.sees.order.places is.sees.turn.unfollowed is.uninherited

  pub its_place : is.attempt.place ≡ is.row
  its_place = this.its_place s c row a is.there is.here is.own is.queued is.sees.order.places is.sees.turn.unfollowed is.uninherited

  pub at_row : (i : ℕ) (z : Attempt) → slice_get s.attempts i ≡ Some z → (z.place == is.row) ≡ true → z ≡ is.attempt
  at_row i z got same = this.at_row s c row a is.there is.here is.own is.queued is.sees.order.places is.sees.turn.unfollowed is.uninherited i z got same

  pub is_this : (k : Attempt) → commitment is.call s ≡ Some k → k ≡ is.attempt
  is_this k e = this.is_this s c row a is.there is.here is.own is.queued is.sees.order.places is.sees.turn.unfollowed is.uninherited k e

  pub off_now : is_outstanding is.attempt ≡ false
  off_now = ap (λ (o : Option Placed). is_some o && is_none a.row.ended) unplaced

  -- the session after it
  abbrev pub pl : Attempt → Option Placed
  pl q = if q.place == is.row then Some is.at else q.row.placed

  abbrev pub en : Attempt → Option RowEnd
  en q = q.row.ended

  abbrev pub g : Attempt → Attempt
  g = written pl en

  abbrev pub put : Bool → Attempt → Attempt
  put b q = record q { row = record q.row { placed = (if b then Some is.at else q.row.placed); ended = q.row.ended } }

  pub g_here : g is.attempt ≡ with_placing is.at is.attempt
  g_here = ap (λ (b : Bool). put b a) (eq-eqb a.place row its_place)

  pub g_off : (q : Attempt) → (q.place == is.row) ≡ false → g q ≡ q
  g_off q e = ap (λ (b : Bool). put b q) e

  g_away : (q : Attempt) → (q.place ≡ row → ⊥) → g q ≡ q
  g_away q off = g_off q (not_equal q.place row (q.place == row) refl off)

  abbrev pub t0 : Seen
  t0 = written_seen pl en s

  abbrev pub noted : Call → Call
  noted k = record k { marks = k.marks ++ record { what = mark.Placed is.row; moment = now s } ∷ [] }

  abbrev pub t : Seen
  t = record t0 { calls = changed noted is.call.number s.calls }

  pub placed_is : attempt_placed is.row is.at s ≡ t
  placed_is =
      ap (λ (l : List Attempt). marked_row (mark.Placed row) row (record s { attempts = l })) (changed_is (with_placing at) g row a g_here g_away s.attempts is.sees.order.places is.here)
      ∙ ap (λ (q : Option Attempt). option_map_or (λ (z : Attempt). marked (mark.Placed row) z.row.call t0) q t0) (numbered_map g s.attempts row ∙ ap (option_map g) is.here)
      ∙ ap (λ (n : ℕ). marked (mark.Placed row) n t0) (eqb-true a.row.call c.number is.own)

  pub after_is : after does_it s ≡ t
  after_is = ap (λ (o : Option OpenEntry). after_if o does_it s) is.current ∙ placed_is

  abbrev pub c1 : Call
  c1 = noted is.call

  pub own_now : numbered t.calls is.call.number ≡ Some c1
  own_now = changed_here noted c.number s.calls c is.there

  pub here_now : numbered t.attempts is.row ≡ Some (g is.attempt)
  here_now = numbered_map g s.attempts row ∙ ap (option_map g) is.here

  pub commitment_now : (k : Call) → commitment k t ≡ option_map g (commitment k s)
  commitment_now k = columns.commitment_same s pl en (λ (q : Attempt). false) (placing.writes s pl) k

  -- the call of the channel after it
  abbrev pub call1 : CallState
  call1 = record is.slot.call {
    buffer = begun_row is.row (names is.row is.slot.call.attempts.committed) is.slot.call.buffer;
    live = map (linked is.row is.at.link) is.slot.call.live;
    attempts = placed_attempts is.row is.at.moment is.slot.call.attempts;
  }

  abbrev pub stepped : Ledger → Option Bucket → Stepped
  stepped ledger tokens = record { call = call1; ledger = record ledger { rows = changed_at (placed_row is.at) ledger.rows is.row }; tokens = tokens; acts = [] }

  pub lives : is_live s is.call is.attempt ≡ true
  lives = ap (λ (b : Bool). b && (is_outstanding a || is_queued a s)) is.own ∙ ap (λ (b : Bool). b || is_queued a s) off_now ∙ is.queued

  found : find_live row slot.call.live ≡ Some (live_row a)
  found = ap (find_live row) (sym is.sees.serves.sees.live) ∙ found_live (is_live s c) row a lives s.attempts is.sees.order.places is.here

  pub step_is : (ledger : Ledger) (tokens : Option Bucket) → steps.placed_at is.row is.at (lent is.slot.call ledger tokens []) ≡ stepped ledger tokens
  step_is ledger tokens =
      ap (λ (r : Option LiveRow). placed_if_live r at (lent slot.call ledger tokens [])) found
      ∙ ap (λ (p : Option Placed). if is_some (option_map (λ (z : Placed). z.link) p) then lent slot.call ledger tokens [] else placed_row_live (live_row a) at (lent slot.call ledger tokens []))
      unplaced
      ∙ ap (λ (n : ℕ). record (lent slot.call ledger tokens []) {
        call = record slot.call {
          buffer = begun_row n (names n slot.call.attempts.committed) slot.call.buffer;
          live = map (linked n at.link) slot.call.live;
          attempts = placed_attempts n at.moment slot.call.attempts;
        };
        ledger = record ledger { rows = changed_at (placed_row at) ledger.rows n };
      }) its_place

  abbrev pub slot1 : CallSlot
  slot1 = with_call call1 is.slot

  abbrev pub slot2 : CallSlot
  slot2 = timed slot1

  -- the channel after it
  abbrev pub y : StateSeen
  y = record x {
    links = changed_at (with_link (placed_link is.row (limit_in is.slot.call.chosen))) x.links is.at.link;
    queue = remove_key (is_same (is.call.number, is.row)) x.queue;
    ready_waiters = remove_key (is_same (is.call.number, is.row)) x.ready_waiters;
    outstanding = insert_key pair_cmp x.outstanding (is.at.link, is.row);
    dues = timer_moved is.call.number is.slot.due (due_at (Some slot1)) x.dues;
    deadlines = timer_moved is.call.number is.slot.deadline (deadline_of (Some slot1)) x.deadlines;
    book = record x.book {
      calls = slice_set x.book.calls (is.call.number - 1) slot2;
      ledger = record x.book.ledger { rows = changed_at (placed_row is.at) x.book.ledger.rows is.row };
    };
  }

  -- its step, where the link takes attempts
  module _ (takes : takes_rows is.at.link x.links ≡ true) where
    abbrev booked_in : StateSeen
    booked_in = record x {
      links = changed_at (with_link (placed_link row (limit_in slot.call.chosen))) x.links at.link;
      queue = remove_key (is_same (c.number, row)) x.queue;
      ready_waiters = remove_key (is_same (c.number, row)) x.ready_waiters;
      outstanding = insert_key pair_cmp x.outstanding (at.link, row);
      book = record x.book {
        calls = slice_set x.book.calls (c.number - 1) slot1;
        ledger = record x.book.ledger { rows = changed_at (placed_row at) x.book.ledger.rows row };
      };
    }

    abbrev placed_book : BookActs
    placed_book = record { book = booked_in.book; acts = [] }

    offered_is : offered at.link row (limit_at (slot_at x.book c.number)) x ≡ record x { links = changed_at (with_link (placed_link row (limit_in slot.call.chosen))) x.links at.link }
    offered_is =
        ap (λ (o : Option CallSlot). offered at.link row (limit_at o) x) is.slot_there
        ∙ ap (λ (b : Bool). record x { links = (if b then changed_at (with_link (placed_link row (limit_in slot.call.chosen))) x.links at.link else x.links) }) takes

    book_is : book_placed row at c.number x.book ≡ placed_book
    book_is =
        ap (λ (z : Acted). placed_in_book z x.book)
        (acted_is (steps.placed_at row at) x.book.calls c.number x.book.ledger None slot is.slot_there
        ∙ ap (λ (z : Stepped). acted_as x.book.calls (c.number - 1) slot z) (step_is x.book.ledger None))

    slot1_there : slot_at booked_in.book c.number ≡ Some slot1
    slot1_there = put_there x.book.calls c.number slot slot1 is.slot_there

    calls_are : changed_slot (with_timers (due_at (Some slot1)) (deadline_of (Some slot1))) booked_in.book.calls c.number ≡ slice_set x.book.calls (c.number - 1) slot2
    calls_are =
        changed_slot_is (with_timers (due_at (Some slot1)) (deadline_of (Some slot1))) booked_in.book.calls c.number slot1 slot1_there
        ∙ set_twice x.book.calls (c.number - 1) slot1 slot2

    timers_are : timers_moved c.number booked_in ≡ y
    timers_are =
        ap (λ (o : Option CallSlot). timers_moved_to c.number o booked_in) slot1_there
        ∙ ap (λ (calls : List CallSlot). record y { book = record y.book { calls = calls } }) calls_are

    pub channel_is : settled_in is.call.number is.row is.at (offered is.at.link is.row (limit_at (slot_at x.book is.call.number)) x) ≡ y
    channel_is =
        ap (settled_in c.number row at) offered_is
        ∙ ap (λ (b : BookActs). followed c.number b.acts (record booked_in { book = b.book })) book_is ∙ timers_are
