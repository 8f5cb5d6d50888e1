-- An attempt that ended has no reader, and RST_STREAM for its stream leaves the readers.
use Rattle.std.proofs.Common.{◌≡◌, ◌==◌, ap, arith, refl, subst, sym, ◌∙◌, Bool, true, false, List, Option, None, Some, ℕ, if◌then◌else◌, is_some, option_and_then, option_map}
use Rattle.std.specs.Option.{option_map_or}
use Rattle.std.proofs.lemmas.Bool.Decides.{nat_tests}
use Rattle.attempt_ledger.specs.declared.row.Placed.{Placed}
use Rattle.attempt_ledger.specs.declared.row.RowEnd.{RowEnd}
use Rattle.grpc_link.specs.Links.{reader_in}
use Rattle.grpc_link.specs.Readers.{ReaderSeen}
use Rattle.grpc_link.specs.declared.readers.TagReader.{TagReader}
use Rattle.link_actions.proofs.Ended.{ended_seen, is_ended, never_out, noted_call}
use Rattle.link_actions.proofs.LossActions.Calls.{changed_any, limit_in, limit_kept}
use Rattle.link_actions.proofs.ResponseActions.Kept.{same_reader}
use Rattle.link_actions.specs.ResponseActions.Laws.{EndsKeepReaders}
use Rattle.link_actions.specs.ResponseActions.Readers.{IsReader, IsReaderOf, SeesReaders, SeesReadersBut, attempt_on}
use Rattle.session_actions.specs.AttemptEnds.{with_end, with_end_in_run}
use Rattle.session_actions.specs.Attempts.{call_of}
use Rattle.session_actions.specs.Entries.{now}
use Rattle.session_actions.specs.Reading.{is_outstanding_on}
use Rattle.session_actions.specs.Responses.{limit_of_attempt, no_response, response, response_by, response_in, response_on, traffic_of}
use Rattle.session_actions.specs.Words.{holds, numbered}
use Rattle.session_actions.specs.declared.attempt.Attempt.{Attempt}
use Rattle.session_actions.specs.declared.call.Call.{Call}
use Rattle.session_actions.specs.declared.call.MarkKind.TheVariants as mark
use Rattle.session_actions.specs.declared.config.ThrottleRun.{ThrottleRun}
use Rattle.session_actions.specs.declared.link.Link.{Link}
use Rattle.session_actions.specs.declared.response.Response.{Response}
use Rattle.session_actions.specs.declared.seen.Seen.{Seen}

-- the attempts of a link, but for one
left_by : (l : Link) (e : RowEnd) (o : Option Attempt) (b : Bool)
    → (b ≡ false → option_and_then (λ a. if is_outstanding_on l a then Some a else None) (option_map (λ a. if b then with_end e a else a) o)
    ≡ option_and_then (λ a. if is_outstanding_on l a then Some a else None) o)
left_by l e None b = λ h. refl
left_by l e (Some a) true = λ h. absurd (let no : ⊥ = (cc) in no)
left_by l e (Some a) false = λ h. refl

gone_by : (l : Link) (e : RowEnd) (a : Attempt) → (if is_outstanding_on l (with_end e a) then Some (with_end e a) else None) ≡ None
gone_by l e a =
    let none : Option Attempt = None in
    ap (λ (b : Bool). if b then Some (with_end e a) else none) (never_out (is_some a.row.placed) (holds (λ (at : Placed). at.link == l.number) a.row.placed))

-- the limit of a call, and the response of an attempt
pub limit_ended : (s : Seen) (draws : Bool) (call t : ℕ) (e : RowEnd) (runs : List ThrottleRun) (b : Attempt) → limit_of_attempt b (ended_seen draws call t e runs s) ≡ limit_of_attempt b s
limit_ended s draws call t e runs b =
    let f : Call → Call = noted_call (mark.Ended t) (now s) in
    ap (limit_in s) (changed_any f call b.row.call s.calls) ∙ limit_kept s f (b.row.call == call) (call_of b s) (λ c. refl)

response_ended : (s u : Seen) (b : Attempt) (o : Option ℕ) → u.links ≡ s.links → limit_of_attempt b u ≡ limit_of_attempt b s → response_by b u o ≡ response_by b s o
response_ended s u b None links limit = refl
response_ended s u b (Some n) links limit =
    ap (λ (k : ℕ). option_map_or (λ (l : Link). response_in k n (traffic_of b l.traffic)) (option_and_then (λ (at : Placed). numbered u.links at.link) b.row.placed) no_response) limit
    ∙ ap (λ (ls : List Link). option_map_or (response_on b n s) (option_and_then (λ (at : Placed). numbered ls at.link) b.row.placed) no_response) links

pub reader_ended : (s u : Seen) (b : Attempt) (y : ReaderSeen) → u.links ≡ s.links → limit_of_attempt b u ≡ limit_of_attempt b s → IsReader s b y → IsReader u b y
reader_ended s u b y links limit is =
    let same : response b u ≡ response b s = response_ended s u b b.row.stream links limit in
    same_reader s u b y (ap (λ (p : Response). is_some p.head) same) (ap (λ (p : Response). p.rest) same) limit is

pub moved_on : (s u : Seen) (o : Option Attempt) (x : Option ReaderSeen) → ((b : Attempt) (y : ReaderSeen) → IsReader s b y → IsReader u b y) → IsReaderOf s o x → IsReaderOf u o x
moved_on s u None None keeps is = tt
moved_on s u (Some b) (Some y) keeps is = keeps b y is
moved_on s u None (Some y) keeps is = absurd is
moved_on s u (Some b) None keeps is = absurd is

same_row : (k t : ℕ) → (k == t) ≡ true → k ≡ t
same_row k t e = grind (arith, nat_tests, e)

ended_by : (l : Link) (s : Seen) (t k : ℕ) (a : Attempt) (e : RowEnd) (readers : List TagReader) (draws : Bool) (runs : List ThrottleRun) (b : Bool) → (k == t) ≡ b
    → SeesReadersBut t l s readers → numbered s.attempts t ≡ Some a
    → IsReaderOf (ended_seen draws a.row.call t e runs s) (attempt_on l (ended_seen draws a.row.call t e runs s) k) (reader_in k readers)
ended_by l s t k a e readers draws runs true same is there =
    let u : Seen = ended_seen draws a.row.call t e runs s in
    let at : k ≡ t = same_row k t same in
    let pick : Attempt → Option Attempt = λ x. if is_outstanding_on l x then Some x else None in
    let yes : (t == t) ≡ true = grind (arith, nat_tests) in
    let gone : attempt_on l u t ≡ None
    = ap (λ (o : Option Attempt). option_and_then pick o) (changed_any (with_end e) t t s.attempts ∙ ap (option_map (λ x. if t == t then with_end e x else x)) there)
    ∙ ap (λ (c : Bool). pick (if c then with_end e a else a)) yes ∙ gone_by l e a in
    let R : Option Attempt → Type 0 = λ o. IsReaderOf u o (reader_in t readers) in
    let none : Option Attempt = None in
    subst (λ (j : ℕ). IsReaderOf u (attempt_on l u j) (reader_in j readers)) (sym at)
    (subst R (sym gone) (subst (λ (x : Option ReaderSeen). IsReaderOf u none x) (sym is.own) tt))
ended_by l s t k a e readers draws runs false other is there =
    let u : Seen = ended_seen draws a.row.call t e runs s in
    let pick : Attempt → Option Attempt = λ x. if is_outstanding_on l x then Some x else None in
    let same : attempt_on l u k ≡ attempt_on l s k
    = ap (λ (o : Option Attempt). option_and_then pick o) (changed_any (with_end e) t k s.attempts)
    ∙ left_by l e (numbered s.attempts k) (k == t) other in
    subst (λ (o : Option Attempt). IsReaderOf u o (reader_in k readers)) (sym same)
    (moved_on s u (attempt_on l s k) (reader_in k readers) (λ b y i. reader_ended s u b y refl (limit_ended s draws a.row.call t e runs b) i) (is.each k other))

pub ends_keep_readers : EndsKeepReaders
ends_keep_readers l s t a e readers is there places =
    let runs : List ThrottleRun = (option_map_or (with_end_in_run a e s) (call_of a s) s).runs in
    let draws : Bool = is_some e.word in
    let F : Seen → Type 0 = λ v. SeesReaders l v readers in
    subst F (sym (is_ended s t e a places there))
    (record { each = λ k. ended_by l s t k a e readers draws runs (k == t) refl is there; distinct = is.distinct })
