-- What a session keeps in order of all its calls is kept by each action that a line may give; and of the tokens only those of one run change.
use Rattle.attempt_ledger.specs.Ends.{is_cut}
use Rattle.attempt_ledger.specs.Numbering.{is_transparent}
use Rattle.attempt_ledger.specs.declared.row.RowEnd.{RowEnd}
use Rattle.attempt_ledger.specs.declared.row.RowKind.{RowKind}
use Rattle.call_actions.proofs.Ends.Tokens.{more_ends}
use Rattle.call_actions.proofs.Frames.{bucket_by}
use Rattle.call_actions.proofs.Lists.{changed_map, numbered_last}
use Rattle.call_actions.proofs.Places.{place_is}
use Rattle.call_actions.proofs.Ranks.{fold_where}
use Rattle.call_actions.specs.Sees.{bucket_of}
use Rattle.call_actions.proofs.CallsApart.Plain.{still, turned}
use Rattle.call_actions.proofs.CallsApart.Moves.{CountsAlike, Moves, attempt_moves, begun_moves, call_moves, counted_moves, is_there, made_moves, moves_on, moves_same, moves_then, read_moves, run_moves, widen}
use Rattle.call_actions.proofs.CallsApart.Parts.{IsSame}
use Rattle.call_actions.proofs.CallsApart.Seen.{all_numbered}
use Rattle.call_actions.specs.CallsApart.Apart.{IsBook, IsFair, counts_in, has_run, is_counted_there, is_end_there, run_counting, run_number}
use Rattle.call_actions.specs.CallsApart.Laws.{BooksBegin, BooksStay, TokensAreShared, TokensStay, tokens_in_run}
use Rattle.grpc_base.specs.Requests.{RequestSeen}
use Rattle.grpc_base.specs.declared.event.ConfigFault.{ConfigFault}
use Rattle.grpc_base.specs.declared.event.EndCause.{EndCause}
use Rattle.grpc_base.specs.declared.event.Event.TheVariants as event
use Rattle.grpc_base.specs.declared.event.Event.{Event}
use Rattle.grpc_base.specs.declared.event.Reply.TheVariants as reply
use Rattle.grpc_base.specs.declared.plan.Throttle.{Throttle}
use Rattle.h2_frame.specs.Frames.{FrameSeen}
use Rattle.h2_frame.specs.Numbers.{headers_type}
use Rattle.service_config.specs.Choice.{chosen_for}
use Rattle.service_config.specs.declared.config.Config.{Config}
use Rattle.session_actions.specs.Actions.{after, after_if, after_in}
use Rattle.session_actions.specs.AttemptEnds.{attempt_ended_as, stream_reset_of, with_end, with_end_in_run, with_reset_queued}
use Rattle.session_actions.specs.Attempts.{is_to_follow, marked_row, with_attempt}
use Rattle.session_actions.specs.CallEnds.{call_ended}
use Rattle.session_actions.specs.Calls.{marked, with_call}
use Rattle.session_actions.specs.Commitments.{with_commitment}
use Rattle.session_actions.specs.Configs.{call_configured, config_of_call, config_read, held_config, is_same_throttle, no_choice, resolver_answered, run_to_join, with_held, with_run, with_throttled}
use Rattle.session_actions.specs.Deliveries.{begun_call, call_begun_by, is_end, with_message}
use Rattle.session_actions.specs.Entries.{drawn_if, entry, now, opened, replied}
use Rattle.session_actions.specs.Making.{attempt_made, hedge_withheld, new_row, with_row}
use Rattle.session_actions.specs.Policies.{with_placing}
use Rattle.session_actions.specs.Tokens.{tokens_by, tokens_in}
use Rattle.session_actions.specs.Words.{changed, holds, numbered}
use Rattle.session_actions.specs.Writing.{frame_written_on, stream_opened, stream_opened_by, waiting_on, with_stream}
use Rattle.session_actions.specs.declared.action.Action.TheVariants as action
use Rattle.session_actions.specs.declared.action.Action.{Action}
use Rattle.session_actions.specs.declared.attempt.Attempt.{Attempt}
use Rattle.session_actions.specs.declared.call.Call.{Call}
use Rattle.session_actions.specs.declared.call.MarkKind.TheVariants as mark
use Rattle.session_actions.specs.declared.call.MarkKind.{MarkKind}
use Rattle.session_actions.specs.declared.config.HeldConfig.{HeldConfig}
use Rattle.session_actions.specs.declared.config.ThrottleRun.{ThrottleRun}
use Rattle.session_actions.specs.declared.entry.OpenEntry.{OpenEntry}
use Rattle.session_actions.specs.declared.link.Link.{Link}
use Rattle.session_actions.specs.declared.link.Sent.TheVariants as sent
use Rattle.session_actions.specs.declared.link.Sent.{Sent}
use Rattle.session_actions.specs.declared.seen.Seen.{Seen}
use Rattle.std.proofs.Common.{Bool, Err, None, Ok, Option, Result, Some, [], ap, false, if◌then◌else◌, is_none, is_some, length, not, option_and_then, option_map, refl, slice_get, sym, true, ℕ, ◌&&◌, ◌++◌, ◌+◌, ◌==◌, ◌∙◌, ◌∷◌, ◌≡◌}
use Rattle.std.specs.List.{list_all}
use Rattle.std.specs.Option.{option_map_or}

pub books_begin : BooksBegin
books_begin setup = record { calls = tt; places = tt; configs = refl; runs = refl; counted = refl }

run_if : (s : Seen) (h : HeldConfig) (b : Bool) (r : ℕ) → (if b then h.run else None) ≡ Some r → has_run s h ≡ true → is_some (numbered s.runs r) ≡ true
run_if s h false r joined has = absurd (cc)
run_if s h true r joined has = sym (ap (λ (o : Option ℕ). option_map_or (λ (k : ℕ). is_some (numbered s.runs k)) o true) joined) ∙ has

some_one : {X : Type 0} (o : Option X) (x y : X) → o ≡ Some x → o ≡ Some y → x ≡ y
some_one None x y e f = absurd (cc)
some_one (Some z) x y e f = (cc)

none_of : (o : Option ℕ) → is_none o ≡ true → is_some o ≡ true → ⊥
none_of None e f = absurd (cc)
none_of (Some k) e f = absurd (cc)

end_none : (o : Option RowEnd) → is_some o ≡ true → is_none o ≡ true → ⊥
end_none None e f = absurd (cc)
end_none (Some k) e f = absurd (cc)

not_both : (q a : Attempt) → q ≡ a → is_some q.row.ended ≡ true → is_none a.row.ended ≡ true → ⊥
not_both q a same has none = end_none a.row.ended (sym (ap (λ (z : Attempt). is_some z.row.ended) same) ∙ has) none

-- marks
module _ (s : Seen) (book : IsBook s) where
  -- of a call something is changed by which its number, config and request stay
  reported : (f : Call → Call) (n : ℕ) → ((d : Call) → (f d).number ≡ d.number) → ((d : Call) → (f d).config ≡ d.config) → ((d : Call) → (f d).request ≡ d.request)
      → Moves s (with_call f n s) None
  reported f n number config request =
      call_moves f n s book number (λ d has. ap (λ (o : Option ℕ). option_map_or (λ (k : ℕ). is_some (numbered s.configs k)) o true) (config d) ∙ has)
      (λ d has. ap (λ (o : Option ℕ). is_some o) (config d) ∙ has)
      (λ d got has. ap (λ (o : Option ℕ). (option_map_or (λ (h : HeldConfig). chosen_for h.config (f d).request.path) (option_and_then (numbered s.configs) o) no_choice).plan) (config d)
      ∙ ap (λ (q : RequestSeen). (option_map_or (λ (h : HeldConfig). chosen_for h.config q.path) (config_of_call d s) no_choice).plan) (request d))

  marks : (what : MarkKind) (n : ℕ) → Moves s (marked what n s) None
  marks what n = reported (λ (d : Call). record d { marks = d.marks ++ record { what = what; moment = now s } ∷ [] }) n (λ d. refl) (λ d. refl) (λ d. refl)

  stays : Moves s s None
  stays = moves_same s s book (record { calls = refl; attempts = refl; configs = refl; runs = refl })

  row_marks : (what : MarkKind) (o : Option Attempt) → Moves s (option_map_or (λ (a : Attempt). marked what a.row.call s) o s) None
  row_marks what None = stays
  row_marks what (Some a) = marks what a.row.call

  -- configs
  run_there : (o : Option HeldConfig) (n : ℕ) → numbered s.configs n ≡ o → (t : Throttle) (r : ℕ)
      → option_and_then (λ (h : HeldConfig). if holds (is_same_throttle t) h.config.throttle then h.run else None) o ≡ Some r → is_some (numbered s.runs r) ≡ true
  run_there None n got t r joined = absurd (cc)
  run_there (Some h) n got t r joined = run_if s h (holds (is_same_throttle t) h.config.throttle) r joined (all_numbered (has_run s) s.configs n h book.runs got)

  throttled : (config : Config) (t : Throttle) (o : Option ℕ) → run_to_join t s ≡ o → Moves s (with_throttled config t o s) None
  throttled config t (Some r) joined =
      read_moves (record { config = config; run = Some r }) s book (run_there (held_config s) (length s.configs) refl t r joined)
  throttled config t None joined =
      let u : ThrottleRun = record { throttle = t; ends = [] } in
      let one : Moves s (with_run t s) None = run_moves u s book refl in
      moves_on s (with_run t s) (with_throttled config t None s) None one
      (read_moves (record { config = config; run = Some (length s.runs + 1) }) (with_run t s) one.book
      (ap (λ (o : Option ThrottleRun). is_some o) (numbered_last s.runs u)))

  held : (config : Config) (o : Option Throttle) → Moves s (with_held config o s) None
  held config None = read_moves (record { config = config; run = None }) s book refl
  held config (Some t) = throttled config t (run_to_join t s) refl

module _ (s : Seen) (book : IsBook s) where
  read : (x : Result Config ConfigFault) → Moves s (config_read x s) None
  read (Ok config) =
      let z : Seen = replied reply.Done (resolver_answered s) in
      let one : Moves s z None = moves_same s z book (record { calls = refl; attempts = refl; configs = refl; runs = refl }) in
      moves_on s z (config_read (Ok config) s) None one (held z one.book config config.throttle)
  read (Err fault) = moves_same s (config_read (Err fault) s) book (record { calls = refl; attempts = refl; configs = refl; runs = refl })

  begun : (e : Event) → Moves s (call_begun_by e s) None
  begun (event.Begin request) =
      let y : Call = begun_call (length s.calls + 1) (entry s) (now s) request in
      let z : Seen = record s { calls = s.calls ++ y ∷ [] } in
      let one : Moves s z None = begun_moves y s book refl refl in
      moves_on s z (call_begun_by (event.Begin request) s) None one (moves_same z (call_begun_by (event.Begin request) s) one.book (record { calls = refl; attempts = refl; configs = refl; runs = refl }))
  begun _ = stays s book

  accepted : (e : Event) (n : ℕ) → Moves s (with_call (with_message e) n s) None
  accepted (event.Send call message) n = reported s book (with_message (event.Send call message)) n (λ d. refl) (λ d. refl) (λ d. refl)
  accepted _ n = reported s book (λ (d : Call). d) n (λ d. refl) (λ d. refl) (λ d. refl)

  -- then it is marked, of a row or of a call
  row_changed : (f : Attempt → Attempt) → ((a : Attempt) → (f a).place ≡ a.place) → ((a : Attempt) → (f a).row.call ≡ a.row.call)
      → ((a : Attempt) → (f a).row.ended ≡ a.row.ended) → (what : MarkKind) (place : ℕ) → Moves s (marked_row what place (with_attempt f place s)) None
  row_changed f keeps call end what place =
      let z : Seen = with_attempt f place s in
      let one : Moves s z None = attempt_moves f place s book keeps call (λ a got ended. end a) in
      moves_on s z (marked_row what place z) None one (row_marks z one.book what (numbered z.attempts place))

  made : (n number : ℕ) (k : RowKind) (due : ℕ) → Moves s (attempt_made n number k due s) None
  made n number k due =
      let y : Attempt = record { place = length s.attempts + 1; row = new_row n number k due; made = entry s; reset = false } in
      let u : Seen = with_row (new_row n number k due) s in
      let v : Seen = marked (mark.Made (length s.attempts + 1)) n u in
      let one : Moves s u None = made_moves y s book refl in
      let two : Moves u v None = marks u one.book (mark.Made (length s.attempts + 1)) n in
      moves_on s u (attempt_made n number k due s) None one
      (moves_on u v (attempt_made n number k due s) None two (moves_same v (attempt_made n number k due s) two.book (turned (is_transparent k) v)))

  withheld : (n : ℕ) → Moves s (hedge_withheld n s) None
  withheld n =
      let z : Seen = marked mark.Withheld n s in
      let one : Moves s z None = marks s book mark.Withheld n in
      moves_on s z (hedge_withheld n s) None one (moves_same z (hedge_withheld n s) one.book (record { calls = refl; attempts = refl; configs = refl; runs = refl }))

  ended : (n : ℕ) (why : EndCause) → Moves s (call_ended n why s) None
  ended n why =
      let z : Seen = marked mark.Closed n s in
      let one : Moves s z None = marks s book mark.Closed n in
      moves_on s z (call_ended n why s) None one
      (reported z one.book (λ (d : Call). record d { end = Some (record { entry = entry s; moment = now s; cause = why }) }) n (λ d. refl) (λ d. refl) (λ d. refl))

  -- a config comes: the call had none
  none_then : (o : Option Call) (n config : ℕ) (d : Call) → ((c : Call) → o ≡ Some c → is_none c.config ≡ true)
      → option_map (λ (c : Call). record c { marks = c.marks ++ record { what = mark.Configured; moment = now s } ∷ [] }) o ≡ Some d → is_some d.config ≡ true → ⊥
  none_then None n config d none e has = absurd (cc)
  none_then (Some c) n config d none e has =
      let one : record c { marks = c.marks ++ record { what = mark.Configured; moment = now s } ∷ [] } ≡ d = (cc) in
      none_of c.config (none c refl) (ap (λ (z : Call). is_some z.config) one ∙ has)

  configured : (n config : ℕ) → (is_some (numbered s.configs config) ≡ true) × ((c : Call) → numbered s.calls n ≡ Some c → is_none c.config ≡ true)
      → Moves s (call_configured n config s) None
  configured n config fair =
      let g : Call → Call = λ (d : Call). record d { marks = d.marks ++ record { what = mark.Configured; moment = now s } ∷ [] } in
      let z : Seen = marked mark.Configured n s in
      let one : Moves s z None = marks s book mark.Configured n in
      moves_on s z (call_configured n config s) None one
      (call_moves (λ (d : Call). record d { config = Some config; configured = Some (entry s) }) n z one.book (λ d. refl) (λ d has. fair.0) (λ d has. refl)
      (λ d got has. absurd (none_then (numbered s.calls n) n config d fair.1 (sym (changed_map g n s.calls) ∙ got) has)))

  reset_by : (number place : ℕ) (o : Option Attempt) → Moves s (option_map_or (stream_reset_of number s) o s) None
  reset_by number place None = stays s book
  reset_by number place (Some a) =
      let z : Seen = with_attempt with_reset_queued a.place s in
      let one : Moves s z None = attempt_moves with_reset_queued a.place s book (λ q. refl) (λ q. refl) (λ q got has. refl) in
      moves_on s z (stream_reset_of number s a) None one (moves_same z (stream_reset_of number s a) one.book (record { calls = refl; attempts = refl; configs = refl; runs = refl }))

  -- HEADERS open a stream
  stream_of : (f : FrameSeen) (o : Option Attempt) → Moves s (option_map_or (λ (a : Attempt). with_attempt (with_stream f.stream) a.place s) o s) None
  stream_of f None = stays s book
  stream_of f (Some a) = attempt_moves (with_stream f.stream) a.place s book (λ q. refl) (λ q. refl) (λ q got has. refl)

  open_if : (f : FrameSeen) (l : Link) (b : Bool) → Moves s (if b then stream_opened f l s else s) None
  open_if f l true = stream_of f (slice_get (waiting_on l s) 0)
  open_if f l false = stays s book

  opens : (x : Sent) (l : Link) → Moves s (stream_opened_by x l s) None
  opens sent.Preface l = stays s book
  opens (sent.Frame f) l = open_if f l (f.kind == headers_type)

  written : (x : Sent) (o : Option Link) → Moves s (option_map_or (frame_written_on x s) o s) None
  written x None = stays s book
  written x (Some l) =
      let z : Seen = stream_opened_by x l s in
      let one : Moves s z None = opens x l in
      moves_on s z (frame_written_on x s l) None one (moves_same z (frame_written_on x s l) one.book (record { calls = refl; attempts = refl; configs = refl; runs = refl }))

  -- an end: the attempt, its mark, and then its run
  end_rows : (e : RowEnd) (a : Attempt) → numbered s.attempts a.place ≡ Some a → is_none a.row.ended ≡ true → Moves s (marked (mark.Ended a.place) a.row.call (with_attempt (with_end e) a.place s)) None
  end_rows e a got unended =
      let z : Seen = with_attempt (with_end e) a.place s in
      let one : Moves s z None
      = attempt_moves (with_end e) a.place s book (λ q. refl) (λ q. refl) (λ q here has. absurd (not_both q a (some_one (numbered s.attempts a.place) q a here got) has unended)) in
      moves_on s z (marked (mark.Ended a.place) a.row.call z) None one (marks z one.book (mark.Ended a.place) a.row.call)

  abbrev run_of_option : Option ℕ → Option ℕ
  run_of_option o = option_and_then (λ (h : HeldConfig). h.run) (option_and_then (numbered s.configs) o)

  has_of_run : (o : Option ℕ) (run : ℕ) → run_of_option o ≡ Some run → is_some o ≡ true
  has_of_run None run e = absurd (cc)
  has_of_run (Some k) run e = refl

  -- once the attempt has its end, and the call its mark, the end joins the run
  module _ (e : RowEnd) (a : Attempt) (got : numbered s.attempts a.place ≡ Some a) (unended : is_none a.row.ended ≡ true) where
    abbrev rows_seen : Seen
    rows_seen = marked (mark.Ended a.place) a.row.call (with_attempt (with_end e) a.place s)

    rows_move : Moves s rows_seen None
    rows_move = end_rows e a got unended

    config_then : (d : Call) → numbered s.calls a.row.call ≡ Some d → is_some d.config ≡ true → holds (λ (c : Call). is_some c.config) (numbered rows_seen.calls a.row.call) ≡ true
    config_then d here has =
        ap (holds (λ (c : Call). is_some c.config)) (changed_map (λ (c : Call). record c { marks = c.marks ++ record { what = mark.Ended a.place; moment = now s } ∷ [] }) a.row.call s.calls)
        ∙ ap (λ (o : Option Call). holds (λ (c : Call). is_some c.config) (option_map (λ (c : Call). record c { marks = c.marks ++ record { what = mark.Ended a.place; moment = now s } ∷ [] }) o)) here
        ∙ has

    there_then : (d : Call) → numbered s.calls a.row.call ≡ Some d → is_some d.config ≡ true → is_there rows_seen a.place ≡ true
    there_then d here has =
        ap (holds (is_end_there rows_seen)) (changed_map (with_end e) a.place s.attempts) ∙ ap (λ (o : Option Attempt). holds (is_end_there rows_seen) (option_map (with_end e) o)) got
        ∙ config_then d here has

    -- the session after the end, by what the call's config says
    run_by : (d : Call) → numbered s.calls a.row.call ≡ Some d → (b : Bool) (o : Option ℕ) → run_number d s ≡ o
        → Moves s (drawn_if (is_some e.word) (marked (mark.Ended a.place) a.row.call (with_attempt (with_end e) a.place
        (if b then option_map_or (λ (run : ℕ). record s { runs = changed (more_ends a.place) run s.runs }) o s else s)))) (if b then o else None)
    run_by d here false o run = moves_on s rows_seen (drawn_if (is_some e.word) rows_seen) None rows_move (moves_same rows_seen (drawn_if (is_some e.word) rows_seen) rows_move.book (record { calls = refl; attempts = refl; configs = refl; runs = refl }))
    run_by d here true None run = moves_on s rows_seen (drawn_if (is_some e.word) rows_seen) None rows_move (moves_same rows_seen (drawn_if (is_some e.word) rows_seen) rows_move.book (record { calls = refl; attempts = refl; configs = refl; runs = refl }))
    run_by d here true (Some n) run =
        let t : Seen = drawn_if (is_some e.word) (marked (mark.Ended a.place) a.row.call (with_attempt (with_end e) a.place (record s { runs = changed (more_ends a.place) n s.runs }))) in
        let y : Seen = record rows_seen { runs = changed (more_ends a.place) n rows_seen.runs } in
        let one : Moves rows_seen y (Some n)
        = counted_moves a.place n rows_seen rows_move.book (there_then d here (has_of_run d.config n run)) in
        moves_on s rows_seen t (Some n) rows_move (moves_then rows_seen y t (Some n) one (record { calls = refl; attempts = refl; configs = refl; runs = refl }))

    end_of_call : (o : Option Call) → numbered s.calls a.row.call ≡ o
        → Moves s (drawn_if (is_some e.word) (marked (mark.Ended a.place) a.row.call (with_attempt (with_end e) a.place (option_map_or (with_end_in_run a e s) o s))))
        (option_and_then (λ (c : Call). if not (is_cut e.cause) && not (is_to_follow c e.cause e.unseen s) then run_number c s else None) o)
    end_of_call None here = moves_on s rows_seen (drawn_if (is_some e.word) rows_seen) None rows_move (moves_same rows_seen (drawn_if (is_some e.word) rows_seen) rows_move.book (record { calls = refl; attempts = refl; configs = refl; runs = refl }))
    end_of_call (Some d) here = run_by d here (not (is_cut e.cause) && not (is_to_follow d e.cause e.unseen s)) (run_number d s) refl

  end_by : (place : ℕ) (e : RowEnd) (o : Option Attempt) → numbered s.attempts place ≡ o → ((a : Attempt) → o ≡ Some a → is_none a.row.ended ≡ true)
      → Moves s (option_map_or (attempt_ended_as e s) o s) (option_and_then (run_counting e s) o)
  end_by place e None got fair = stays s book
  end_by place e (Some a) got fair =
      end_of_call e a (ap (numbered s.attempts) (place_is place s.attempts a book.places got) ∙ got) (fair a refl) (numbered s.calls a.row.call) refl

  act : (o : OpenEntry) (a : Action) → IsFair a s → Moves s (after_in o a s) (counts_in a s)
  act o action.CallBegins fair = begun o.event
  act o (action.MessageAccepted n) fair =
      let z : Seen = with_call (with_message o.event) n s in
      let one : Moves s z None = accepted o.event n in
      moves_on s z (after_in o (action.MessageAccepted n) s) None one (moves_same z (after_in o (action.MessageAccepted n) s) one.book (record { calls = refl; attempts = refl; configs = refl; runs = refl }))
  act o (action.RequestFinished n) fair =
      let z : Seen = with_call (λ (d : Call). record d { finished = true }) n s in
      let one : Moves s z None = reported s book (λ (d : Call). record d { finished = true }) n (λ d. refl) (λ d. refl) (λ d. refl) in
      moves_on s z (after_in o (action.RequestFinished n) s) None one (moves_same z (after_in o (action.RequestFinished n) s) one.book (record { calls = refl; attempts = refl; configs = refl; runs = refl }))
  act o (action.ItemTaken n item) fair =
      let z : Seen = with_call (λ (d : Call). record d { taken = d.taken + 1; end_taken = is_end item }) n s in
      let one : Moves s z None = reported s book (λ (d : Call). record d { taken = d.taken + 1; end_taken = is_end item }) n (λ d. refl) (λ d. refl) (λ d. refl) in
      moves_on s z (after_in o (action.ItemTaken n item) s) None one (moves_same z (after_in o (action.ItemTaken n item) s) one.book (record { calls = refl; attempts = refl; configs = refl; runs = refl }))
  act o (action.CallEnds n why) fair = ended n why
  act o (action.ConfigRead x) fair = read x
  act o (action.CallConfigured n config) fair = configured n config fair
  act o (action.AttemptMade n number k due) fair = made n number k due
  act o (action.HedgeWithheld n) fair = withheld n
  act o (action.AttemptPlaced place at) fair = row_changed (with_placing at) (λ q. refl) (λ q. refl) (λ q. refl) (mark.Placed place) place
  act o (action.AttemptEnds place e) fair = end_by place e (numbered s.attempts place) refl fair
  act o (action.CallCommitted place why) fair = row_changed (with_commitment (entry s)) (λ q. refl) (λ q. refl) (λ q. refl) mark.Committed place
  act o (action.StreamReset place number) fair = reset_by number place (numbered s.attempts place)
  act o (action.FrameWritten link x) fair = written x (numbered s.links link)
  act o a fair = moves_same s (after_in o a s) book (still o a s refl)

  act_if : (o : Option OpenEntry) (a : Action) → IsFair a s → Moves s (after_if o a s) (counts_in a s)
  act_if (Some o) a fair = act o a fair
  act_if None (action.EntryOpens posted word e) fair = moves_same s (opened posted word e s) book (record { calls = refl; attempts = refl; configs = refl; runs = refl })
  act_if None a fair = widen s s (counts_in a s) (stays s book)

  pub moves_after : (a : Action) → IsFair a s → Moves s (after a s) (counts_in a s)
  moves_after a fair = act_if s.current a fair

pub books_stay : BooksStay
books_stay s a book fair = let m : Moves s (after a s) (counts_in a s) = moves_after s book a fair in m.book

-- the tokens of a run
tokens_reported : (s t : Seen) (u : ThrottleRun) → CountsAlike s t → list_all (is_there s) u.ends ≡ true → tokens_in u t ≡ tokens_in u s
tokens_reported s t u alike there =
    fold_where (λ (n at : ℕ). tokens_by u t n (numbered t.attempts at)) (λ (n at : ℕ). tokens_by u s n (numbered s.attempts at)) (is_there s)
    (λ n at e. alike.reported at e u n) u.throttle.start u.ends there

bucket_reported : (s t : Seen) (n : ℕ) (o : Option ThrottleRun) → numbered s.runs n ≡ o → CountsAlike s t → list_all (is_counted_there s) s.runs ≡ true
    → option_map (bucket_of t) o ≡ option_map (bucket_of s) o
bucket_reported s t n None got alike all = refl
bucket_reported s t n (Some u) got alike all =
    ap (λ (k : ℕ). Some (bucket_by u k)) (tokens_reported s t u alike (all_numbered (is_counted_there s) s.runs n u all got))

pub tokens_stay : TokensStay
tokens_stay s a run book fair there off =
    let m : Moves s (after a s) (counts_in a s) = moves_after s book a fair in
    ap (option_map (bucket_of (after a s))) (m.runs run there off) ∙ bucket_reported s (after a s) run (numbered s.runs run) refl m.alike book.counted

pub tokens_are_shared : TokensAreShared
tokens_are_shared t c d x y h k same =
    sym h.tokens ∙ ap (tokens_in_run t) same ∙ k.tokens
