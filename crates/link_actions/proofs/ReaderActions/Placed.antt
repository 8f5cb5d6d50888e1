-- An attempt that is placed gets a reader.
use Rattle.std.proofs.Common.{◌≡◌, ◌∷◌, ◌++◌, ◌&&◌, ◌==◌, ap, arith, refl, subst, sym, ◌∙◌, Bool, true, false, List, [], Option, None, Some, ℕ, if◌then◌else◌, is_none, is_some, option_and_then, option_map}
use Rattle.std.specs.Option.{option_map_or}
use Rattle.std.proofs.lemmas.Bool.{eqb-true}
use Rattle.std.proofs.lemmas.Bool.Decides.{nat_tests}
use Rattle.attempt_ledger.specs.declared.row.Placed.{Placed}
use Rattle.attempt_ledger.specs.declared.row.RowEnd.{RowEnd}
use Rattle.grpc_link.specs.Links.{placed_reader, reader_in}
use Rattle.grpc_link.specs.Readers.{ReaderSeen, reader_for}
use Rattle.grpc_link.specs.Response as grpc
use Rattle.grpc_link.specs.declared.readers.TagReader.{TagReader}
use Rattle.link_actions.proofs.Written.{changed_here}
use Rattle.link_actions.proofs.LossActions.Calls.{changed_any, limit_in, limit_kept}
use Rattle.link_actions.proofs.ReaderActions.Put.{IsPut, put_last}
use Rattle.link_actions.specs.ReaderActions.Laws.{PlacingsGiveReaders}
use Rattle.link_actions.proofs.ResponseActions.Ended.{moved_on, reader_ended}
use Rattle.link_actions.specs.ResponseActions.Readers.{IsReader, IsReaderOf, SeesReaders, attempt_on}
use Rattle.session_actions.specs.Attempts.{call_of, with_attempt}
use Rattle.session_actions.specs.Calls.{marked}
use Rattle.session_actions.specs.Entries.{now}
use Rattle.session_actions.specs.Policies.{attempt_placed, with_placing}
use Rattle.session_actions.specs.Reading.{is_outstanding_on}
use Rattle.session_actions.specs.Responses.{limit_of_attempt, response, response_by}
use Rattle.session_actions.specs.Words.{holds, numbered}
use Rattle.session_actions.specs.declared.attempt.Attempt.{Attempt}
use Rattle.session_actions.specs.declared.call.Call.{Call}
use Rattle.session_actions.specs.declared.call.MarkKind.TheVariants as mark
use Rattle.session_actions.specs.declared.link.Link.{Link}
use Rattle.session_actions.specs.declared.response.Response.{Response}
use Rattle.session_actions.specs.declared.seen.Seen.{Seen}
use Rattle.link_actions.specs.SteadyLinks.Laws.{CanPlace}

abbrev pub pick : Link → Attempt → Option Attempt
pick l a = if is_outstanding_on l a then Some a else None

-- it was on no link
off_before : (l : Link) (a : Attempt) → a.row.placed ≡ None → is_outstanding_on l a ≡ false
off_before l a none = ap (λ (o : Option Placed). (is_some o && is_none a.row.ended) && holds (λ (x : Placed). x.link == l.number) o) none

on_after : (l : Link) (a : Attempt) (at : Placed) → a.row.ended ≡ None → at.link ≡ l.number → is_outstanding_on l (with_placing at a) ≡ true
on_after l a at going link =
    let yes : (at.link == l.number) ≡ true = grind (arith, nat_tests, link) in
    ap (λ (o : Option RowEnd). (true && is_none o) && (at.link == l.number)) going ∙ yes

no_reader : (s : Seen) (x : Option ReaderSeen) (o : Option Attempt) → o ≡ None → IsReaderOf s o x → x ≡ None
no_reader s None o e is = refl
no_reader s (Some y) None e is = absurd is
no_reader s (Some y) (Some a) e is = absurd (let no : ⊥ = (cc) in no)

-- the session after it
abbrev placed_seen : ℕ → Placed → ℕ → Seen → Seen
placed_seen place at call s = marked (mark.Placed place) call (with_attempt (with_placing at) place s)

is_placed : (s : Seen) (place : ℕ) (a : Attempt) (at : Placed) → numbered s.attempts place ≡ Some a → attempt_placed place at s ≡ placed_seen place at a.row.call s
is_placed s place a at there =
    let u : Seen = with_attempt (with_placing at) place s in
    ap (λ (o : Option Attempt). option_map_or (λ (b : Attempt). marked (mark.Placed place) b.row.call u) o u) (changed_here (with_placing at) place s.attempts a there)

limit_placed : (s : Seen) (place call : ℕ) (at : Placed) (b : Attempt) → limit_of_attempt b (placed_seen place at call s) ≡ limit_of_attempt b s
limit_placed s place call at b =
    let f : Call → Call = λ c. record c { marks = c.marks ++ record { what = mark.Placed place; moment = now s } ∷ [] } in
    ap (limit_in s) (changed_any f call b.row.call s.calls) ∙ limit_kept s f (b.row.call == call) (call_of b s) (λ c. refl)

own_reader : (l : Link) (s u : Seen) (a : Attempt) (at : Placed) → CanPlace l a at → limit_of_attempt a u ≡ limit_of_attempt a s
    → IsReader u (with_placing at a) (reader_for (limit_of_attempt a s) grpc.no_response)
own_reader l s u a at can limit =
    let none : response (with_placing at a) u ≡ response_by (with_placing at a) u None = ap (response_by (with_placing at a) u) can.streamless in
    record {
      opened = ap (λ (o : Option ℕ). is_some o) can.streamless;
      head = ap (λ (p : Response). is_some p.head) none;
      over = refl;
      limit = limit;
      rest = ap (λ (p : Response). p.rest) none;
      whole = refl;
    }

placed_by : (l : Link) (s : Seen) (k place : ℕ) (a : Attempt) (at : Placed) (readers after : List TagReader) (b : Bool) → (k == place) ≡ b → SeesReaders l s readers
    → numbered s.attempts place ≡ Some a → CanPlace l a at → IsPut place (reader_for (limit_of_attempt a s) grpc.no_response) readers after
    → IsReaderOf (placed_seen place at a.row.call s) (attempt_on l (placed_seen place at a.row.call s) k) (reader_in k after)
placed_by l s k place a at readers after true same is there can put =
    let u : Seen = placed_seen place at a.row.call s in
    let x : ReaderSeen = reader_for (limit_of_attempt a s) grpc.no_response in
    let e : k ≡ place = eqb-true k place same in
    let yes : (place == place) ≡ true = grind (arith, nat_tests) in
    let here : attempt_on l u place ≡ Some (with_placing at a)
    = ap (λ (o : Option Attempt). option_and_then (pick l) o) (changed_here (with_placing at) place s.attempts a there)
    ∙ ap (λ (c : Bool). if c then Some (with_placing at a) else None) (on_after l a at can.going can.link) in
    subst (λ (j : ℕ). IsReaderOf u (attempt_on l u j) (reader_in j after)) (sym e)
    (subst (λ (o : Option Attempt). IsReaderOf u o (reader_in place after)) (sym here)
    (subst (λ (y : Option ReaderSeen). IsReaderOf u (Some (with_placing at a)) y) (sym put.own)
    (own_reader l s u a at can (limit_placed s place a.row.call at a))))
placed_by l s k place a at readers after false other is there can put =
    let u : Seen = placed_seen place at a.row.call s in
    let same : attempt_on l u k ≡ attempt_on l s k
    = ap (λ (o : Option Attempt). option_and_then (pick l) o) (changed_any (with_placing at) place k s.attempts)
    ∙ kept_by (numbered s.attempts k) in
    subst (λ (o : Option Attempt). IsReaderOf u o (reader_in k after)) (sym same)
    (subst (λ (y : Option ReaderSeen). IsReaderOf u (attempt_on l s k) y) (sym (put.others k other))
    (moved_on s u (attempt_on l s k) (reader_in k readers) (λ b y i. reader_ended s u b y refl (limit_placed s place a.row.call at b) i) (is.each k)))
  where
    kept_by : (o : Option Attempt) → option_and_then (pick l) (option_map (λ x. if k == place then with_placing at x else x) o) ≡ option_and_then (pick l) o
    kept_by None = refl
    kept_by (Some x) = ap (λ (c : Bool). pick l (if c then with_placing at x else x)) other

pub placings_give_readers : PlacingsGiveReaders
placings_give_readers l s readers place a at is there can =
    let x : ReaderSeen = reader_for (limit_of_attempt a s) grpc.no_response in
    let after : List TagReader = placed_reader place (limit_of_attempt a s) readers in
    let off : attempt_on l s place ≡ None
    = ap (λ (o : Option Attempt). option_and_then (pick l) o) there ∙ ap (λ (c : Bool). let none : Option Attempt = None in if c then Some a else none) (off_before l a can.unplaced) in
    let none : reader_in place readers ≡ None = no_reader s (reader_in place readers) (attempt_on l s place) off (is.each place) in
    let put : IsPut place x readers after = put_last place x readers none is.distinct in
    subst (λ (u : Seen). SeesReaders l u after) (sym (is_placed s place a at there))
    (record { each = λ k. placed_by l s k place a at readers after (k == place) refl is there can put; distinct = put.distinct })
