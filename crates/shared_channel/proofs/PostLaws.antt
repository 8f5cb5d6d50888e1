-- What a turn did to the channel under the lock, and what a post answers.
use Rattle.std.proofs.Common.{◌≡◌, ◌∙◌, ℕ, zero, suc, ◌+◌, false, Option, Some, None, Result, Ok, Err, IfOk, MatchOption, List, [], ◌∷◌, ◌++◌, length, refl, sym, ap, subst, add-one, append_assoc, append-nil}
use Rattle.std.proofs.lemmas.List.{append_cancel_left}
use Rattle.grpc_base.specs.Posts.{IsErrorOf, Posts, is_full, is_not_yet}
use Rattle.grpc_base.specs.declared.event.Entry.{Entry}
use Rattle.grpc_base.specs.declared.event.Event.{Event}
use Rattle.grpc_base.specs.declared.event.Event.TheVariants as event
use Rattle.grpc_base.specs.declared.event.Reply.{Reply}
use Rattle.grpc_base.specs.declared.event.Reply.TheVariants as reply
use Rattle.grpc_base.specs.declared.event.Stamped.{Stamped}
use Rattle.grpc_base.specs.declared.post.PostError.{PostError}
use Rattle.grpc_base.specs.declared.post.PostError.TheVariants as failed
use Rattle.futures.specs.Poll.{OnPending}
use Rattle.futures.specs.declared.task.Poll.{Poll}
use Rattle.futures.specs.declared.task.Poll.TheVariants as polls
use Rattle.turn_lock.specs.History.{SeatSeen, StartsWith, places}
use Rattle.turn_lock.specs.Turn.{TakesTurn}
use Rattle.channel_core.specs.Core.{CoreSeen, WouldReply}
use Rattle.shared_channel.specs.Turns.{Fails, Looks, SeesMore, SendGives, StepGives, TakeGives, TakesFrom, TakesPlace, entries_of, words_of}
use Rattle.shared_channel.proofs.StateLaws.{fails_same}

-- a word is taken, and the next one is drawn
pub words_on : (next after : ℕ) (words rest : ℕ → ℕ) → after ≡ words 0 → ((k : ℕ) → rest k ≡ words (k + 1)) → (k : ℕ) → words_of after rest k ≡ words_of next words (k + 1)
words_on next after words rest first others zero = first
words_on next after words rest first others (suc k) =
    others k ∙ ap (λ (n : ℕ). words_of next words n) (ap (λ (n : ℕ). suc n) (add-one k) ∙ sym (add-one (suc k)))

-- the entries of a list of places
entries_append : (xs ys : List (ℕ × Entry)) → entries_of (xs ++ ys) ≡ entries_of xs ++ entries_of ys
entries_append [] ys = refl
entries_append (x ∷ xs) ys = ap (λ (es : List Entry). x.1 ∷ es) (entries_append xs ys)

is_error : (e : Event) (old new : CoreSeen) (error : PostError) → Fails e old error new → IsErrorOf e error
is_error e old new (failed.NoMemory spent) f = tt
is_error e old new (failed.SessionFull entries octets) f = f.1.1

-- the handle's entries after a post
posts_by : (may_give : ℕ → Type 0) (word : ℕ) (e : Event) (result : Result Reply PostError) (before after : SeatSeen Entry) (place : TakesPlace may_give word e result before after)
    → StepGives (record { moment = place.moment; word = word; event = e }) place.start result place.end → Posts (entries_of before.own) (entries_of after.own) e result
posts_by may_give word e (Ok r) before after place did =
    let entry : Entry = record { moment = _; word = word; event = e; reply = r; state = _ } in
    let one : place.made ≡ entry ∷ [] = append_cancel_left place.start.journal.entries place.made (entry ∷ []) (sym place.appends ∙ did.0.journal) in
    let own : entries_of after.own ≡ entries_of before.own ++ entry ∷ [] =
    ap entries_of place.own ∙ entries_append before.own (places (length place.start.journal.entries) place.made)
    ∙ ap (λ (made : List Entry). entries_of before.own ++ entries_of (places (length place.start.journal.entries) made)) one in
    ((entry, own, refl, refl), did.1)
posts_by may_give word e (Err error) before after place did =
    let none : place.made ≡ [] =
    append_cancel_left place.start.journal.entries place.made [] (sym place.appends ∙ fails_same e place.start place.end error did ∙ sym (append-nil place.start.journal.entries)) in
    let own : entries_of after.own ≡ entries_of before.own =
    ap entries_of place.own ∙ entries_append before.own (places (length place.start.journal.entries) place.made)
    ∙ ap (λ (made : List Entry). entries_of before.own ++ entries_of (places (length place.start.journal.entries) made)) none
    ∙ append-nil (entries_of before.own) in
    (own, is_error e place.start place.end error did)

pub posts_of : (may_give : ℕ → Type 0) (word : ℕ) (e : Event) (result : Result Reply PostError) (before after : SeatSeen Entry)
    → TakesPlace may_give word e result before after → Posts (entries_of before.own) (entries_of after.own) e result
posts_of may_give word e result before after place = posts_by may_give word e result before after place place.did

-- a beginning of a beginning
pub starts_after : (a b c : List Entry) → StartsWith b a → StartsWith c b → StartsWith c a
starts_after a b c (x, p) (y, q) = (x ++ y, q ∙ ap (λ (t : List Entry). t ++ y) p ∙ append_assoc a x y)

pub starts_numbers : (a b c : List ℕ) → StartsWith b a → StartsWith c b → StartsWith c a
starts_numbers a b c (x, p) (y, q) = (x ++ y, q ∙ ap (λ (t : List ℕ). t ++ y) p ∙ append_assoc a x y)

-- a turn in which a step was made
module _ {S J A : Type 0} {origin : S → List ℕ} (core_of : S → CoreSeen) (runs : J → S → A → J → S → Type 0) where
  pub place_of : (may_give : ℕ → Type 0) (moment word : ℕ) (e : Event) (result : Result Reply PostError) (job job_after : J) (answer : A) (first before turned after : SeatSeen Entry)
      → may_give moment
      → ((a b : S) → runs job a answer job_after b → StepGives (record { moment = moment; word = word; event = e }) (core_of a) result (core_of b))
      → SeesMore first before → (turned ≡ record before { found = after.found }) → StartsWith after.found before.found
      → TakesTurn (λ s. (core_of s).journal.entries) origin runs job turned answer job_after after
      → TakesPlace may_give word e result first after
  place_of may_give moment word e result job job_after answer first before turned after given gives more is found turn =
      let seen : StartsWith (core_of turn.start).journal.entries before.seen = subst (λ (t : SeatSeen Entry). StartsWith (core_of turn.start).journal.entries t.seen) is turn.sees in
      record {
        moment = moment;
        given = given;
        start = core_of turn.start;
        end = core_of turn.end;
        sees = starts_after first.seen before.seen (core_of turn.start).journal.entries more.sees seen;
        did = gives turn.start turn.end turn.ran;
        made = turn.made;
        appends = turn.appends;
        seen = ap (λ (t : SeatSeen Entry). t.seen) turn.seat;
        own = ap (λ (t : SeatSeen Entry). t.own) turn.seat ∙ ap (λ (t : SeatSeen Entry). t.own ++ places (length (core_of turn.start).journal.entries) turn.made) is
            ∙ ap (λ (o : List (ℕ × Entry)). o ++ places (length (core_of turn.start).journal.entries) turn.made) more.own;
        lock = ap (λ (t : SeatSeen Entry). t.lock) turn.seat ∙ ap (λ (t : SeatSeen Entry). t.lock) is ∙ more.lock;
        parts = ap (λ (t : SeatSeen Entry). t.parts) turn.seat ∙ ap (λ (t : SeatSeen Entry). t.parts) is ∙ more.parts;
        found = starts_numbers first.found before.found after.found more.found found;
      }

  -- a turn that left the channel as it was
  pub looks_at : (reports_that : CoreSeen → Type 0) (job job_after : J) (answer : A) (before turned after : SeatSeen Entry)
      → (turned ≡ record before { found = after.found }) → StartsWith after.found before.found
      → (turn : TakesTurn (λ s. (core_of s).journal.entries) origin runs job turned answer job_after after)
      → (core_of turn.end ≡ core_of turn.start) × reports_that (core_of turn.start)
      → Looks reports_that before after
  looks_at reports_that job job_after answer before turned after is found turn said =
      let same : (core_of turn.end).journal.entries ≡ (core_of turn.start).journal.entries = ap (λ (c : CoreSeen). c.journal.entries) said.0 in
      let none : turn.made ≡ [] =
      append_cancel_left (core_of turn.start).journal.entries turn.made [] (sym turn.appends ∙ same ∙ sym (append-nil (core_of turn.start).journal.entries)) in
      record {
        core = core_of turn.start;
        reported = said.1;
        sees = subst (λ (t : SeatSeen Entry). StartsWith (core_of turn.start).journal.entries t.seen) is turn.sees;
        seen = ap (λ (t : SeatSeen Entry). t.seen) turn.seat ∙ same;
        own = ap (λ (t : SeatSeen Entry). t.own) turn.seat ∙ ap (λ (made : List Entry). turned.own ++ places (length (core_of turn.start).journal.entries) made) none
            ∙ append-nil turned.own ∙ ap (λ (t : SeatSeen Entry). t.own) is;
        lock = ap (λ (t : SeatSeen Entry). t.lock) turn.seat ∙ ap (λ (t : SeatSeen Entry). t.lock) is;
        parts = ap (λ (t : SeatSeen Entry). t.parts) turn.seat ∙ ap (λ (t : SeatSeen Entry). t.parts) is;
        found = found;
      }

  pub looks_of : (reports_that : CoreSeen → Type 0) (job job_after : J) (answer : A) (before turned after : SeatSeen Entry)
      → ((a b : S) → runs job a answer job_after b → (core_of b ≡ core_of a) × reports_that (core_of a))
      → (turned ≡ record before { found = after.found }) → StartsWith after.found before.found
      → TakesTurn (λ s. (core_of s).journal.entries) origin runs job turned answer job_after after
      → Looks reports_that before after
  looks_of reports_that job job_after answer before turned after says is found turn =
      looks_at reports_that job job_after answer before turned after is found turn (says turn.start turn.end turn.ran)

  -- the authority of the channel in a turn is the origin of the handle's lock
  pub root_of : (job job_after : J) (answer : A) (before turned after : SeatSeen Entry)
      → (turned ≡ record before { found = after.found })
      → (turn : TakesTurn (λ s. (core_of s).journal.entries) origin runs job turned answer job_after after)
      → origin turn.start ≡ before.lock.origin
  root_of job job_after answer before turned after is turn = turn.from ∙ ap (λ (t : SeatSeen Entry). t.lock.origin) is

-- what a handle has only seen
pub more_none : (s : SeatSeen Entry) → SeesMore s s
more_none s = record { sees = ([], sym (append-nil s.seen)); own = refl; lock = refl; parts = refl; found = ([], sym (append-nil s.found)) }

pub more_looks : (reports_that : CoreSeen → Type 0) (a b c : SeatSeen Entry) → SeesMore a b → Looks reports_that b c → SeesMore a c
more_looks reports_that a b c more looks = record {
  sees = starts_after a.seen b.seen c.seen more.sees (subst (λ (t : List Entry). StartsWith t b.seen) (sym looks.seen) looks.sees);
  own = looks.own ∙ more.own;
  lock = looks.lock ∙ more.lock;
  parts = looks.parts ∙ more.parts;
  found = starts_numbers a.found b.found c.found more.found looks.found;
}

-- a turn in which a Take or a Send that was awaited was made
some_take : (moment word call : ℕ) (old new : CoreSeen) (answer : Option (Result Reply PostError)) (result : Result Reply PostError) → answer ≡ Some result
    → TakeGives moment word call old answer new → StepGives (record { moment = moment; word = word; event = event.Take call }) old result new × IfOk result (λ r. is_not_yet r ≡ false)
some_take moment word call old new answer result is gives =
    let P : Option (Result Reply PostError) → Type 0 = λ o. TakeGives moment word call old o new in
    subst P is gives

some_send : (moment word call : ℕ) (message : List ℕ) (old new : CoreSeen) (answer : Option (Result Reply PostError)) (result : Result Reply PostError) → answer ≡ Some result
    → SendGives moment word call message old answer new → StepGives (record { moment = moment; word = word; event = event.Send call message }) old result new × IfOk result (λ r. is_full r ≡ false)
some_send moment word call message old new answer result is gives =
    let P : Option (Result Reply PostError) → Type 0 = λ o. SendGives moment word call message old o new in
    subst P is gives

module _ {S J : Type 0} {origin : S → List ℕ} (core_of : S → CoreSeen) (runs : J → S → Option (Result Reply PostError) → J → S → Type 0) where
  pub take_place : (may_give : ℕ → Type 0) (moment word call : ℕ) (answer : Option (Result Reply PostError)) (result : Result Reply PostError) (job job_after : J) (first before turned after : SeatSeen Entry)
      → answer ≡ Some result → may_give moment
      → ((a b : S) → runs job a answer job_after b → TakeGives moment word call (core_of a) answer (core_of b))
      → SeesMore first before → (turned ≡ record before { found = after.found }) → StartsWith after.found before.found
      → TakesTurn (λ s. (core_of s).journal.entries) origin runs job turned answer job_after after
      → TakesPlace may_give word (event.Take call) result first after × IfOk result (λ r. is_not_yet r ≡ false)
  take_place may_give moment word call answer result job job_after first before turned after some given gives more is found turn = (
    place_of core_of runs may_give moment word (event.Take call) result job job_after answer first before turned after given
        (λ a b ran. (some_take moment word call (core_of a) (core_of b) answer result some (gives a b ran)).0) more is found turn,
    (some_take moment word call (core_of turn.start) (core_of turn.end) answer result some (gives turn.start turn.end turn.ran)).1,
  )

  pub send_place : (may_give : ℕ → Type 0) (moment word call : ℕ) (message : List ℕ) (answer : Option (Result Reply PostError)) (result : Result Reply PostError) (job job_after : J) (first before turned after : SeatSeen Entry)
      → answer ≡ Some result → may_give moment
      → ((a b : S) → runs job a answer job_after b → SendGives moment word call message (core_of a) answer (core_of b))
      → SeesMore first before → (turned ≡ record before { found = after.found }) → StartsWith after.found before.found
      → TakesTurn (λ s. (core_of s).journal.entries) origin runs job turned answer job_after after
      → TakesPlace may_give word (event.Send call message) result first after × IfOk result (λ r. is_full r ≡ false)
  send_place may_give moment word call message answer result job job_after first before turned after some given gives more is found turn = (
    place_of core_of runs may_give moment word (event.Send call message) result job job_after answer first before turned after given
        (λ a b ran. (some_send moment word call message (core_of a) (core_of b) answer result some (gives a b ran)).0) more is found turn,
    (some_send moment word call message (core_of turn.start) (core_of turn.end) answer result some (gives turn.start turn.end turn.ran)).1,
  )

none_take : (moment word call : ℕ) (old new : CoreSeen) (answer : Option (Result Reply PostError)) → answer ≡ None
    → TakeGives moment word call old answer new → (new ≡ old) × WouldReply old (event.Take call) reply.NotYet
none_take moment word call old new answer is gives =
    let P : Option (Result Reply PostError) → Type 0 = λ o. TakeGives moment word call old o new in
    subst P is gives

none_send : (moment word call : ℕ) (message : List ℕ) (old new : CoreSeen) (answer : Option (Result Reply PostError)) → answer ≡ None
    → SendGives moment word call message old answer new → (new ≡ old) × ((held : ℕ) × WouldReply old (event.Send call message) (reply.Full held))
none_send moment word call message old new answer is gives =
    let P : Option (Result Reply PostError) → Type 0 = λ o. SendGives moment word call message old o new in
    subst P is gives

module _ {S J : Type 0} {origin : S → List ℕ} (core_of : S → CoreSeen) (runs : J → S → Option (Result Reply PostError) → J → S → Type 0) where
  -- a turn in which nothing had come, or there was no room
  pub take_looks : (moment word call : ℕ) (answer : Option (Result Reply PostError)) (job job_after : J) (before turned after : SeatSeen Entry)
      → answer ≡ None → ((a b : S) → runs job a answer job_after b → TakeGives moment word call (core_of a) answer (core_of b))
      → (turned ≡ record before { found = after.found }) → StartsWith after.found before.found
      → TakesTurn (λ s. (core_of s).journal.entries) origin runs job turned answer job_after after
      → Looks (λ core. WouldReply core (event.Take call) reply.NotYet) before after
  take_looks moment word call answer job job_after before turned after none gives is found turn =
      looks_of core_of runs (λ core. WouldReply core (event.Take call) reply.NotYet) job job_after answer before turned after
      (λ a b ran. none_take moment word call (core_of a) (core_of b) answer none (gives a b ran)) is found turn

  pub send_looks : (moment word call : ℕ) (message : List ℕ) (answer : Option (Result Reply PostError)) (job job_after : J) (before turned after : SeatSeen Entry)
      → answer ≡ None → ((a b : S) → runs job a answer job_after b → SendGives moment word call message (core_of a) answer (core_of b))
      → (turned ≡ record before { found = after.found }) → StartsWith after.found before.found
      → TakesTurn (λ s. (core_of s).journal.entries) origin runs job turned answer job_after after
      → Looks (λ core. (held : ℕ) × WouldReply core (event.Send call message) (reply.Full held)) before after
  send_looks moment word call message answer job job_after before turned after none gives is found turn =
      looks_of core_of runs (λ core. (held : ℕ) × WouldReply core (event.Send call message) (reply.Full held)) job job_after answer before turned after
      (λ a b ran. none_send moment word call message (core_of a) (core_of b) answer none (gives a b ran)) is found turn

-- what a polled Take may give to a handle that has seen more, it may give to one that has seen less
pub from_less : (may_give : ℕ → Type 0) (word call : ℕ) (result : Result Reply PostError) (less more : List Entry) → StartsWith more less
    → TakesFrom may_give word call result more → TakesFrom may_give word call result less
from_less may_give word call result less more begins from = record {
  moment = from.moment;
  given = from.given;
  start = from.start;
  end = from.end;
  sees = starts_after less more from.start.journal.entries begins from.sees;
  did = from.did;
  come = from.come;
}

pub looks_begin : (reports_that : CoreSeen → Type 0) (before after : SeatSeen Entry) → Looks reports_that before after → StartsWith after.seen before.seen
looks_begin reports_that before after looks = subst (λ (t : List Entry). StartsWith t before.seen) (sym looks.seen) looks.sees

-- a turn that was tried finds no holder
module _ {S J A : Type 0} {origin : S → List ℕ} (entries : S → List Entry) (runs : J → S → A → J → S → Type 0) where
  pub found_same : (job job_after : J) (answer : A) (before after : SeatSeen Entry) → TakesTurn entries origin runs job before answer job_after after → after.found ≡ before.found
  found_same job job_after answer before after turn = ap (λ (t : SeatSeen Entry). t.found) turn.seat

pub same_but_found : (before after : SeatSeen Entry) → after.found ≡ before.found → before ≡ record before { found = after.found }
same_but_found before after same = ap (λ (f : List ℕ). let s : SeatSeen Entry = record before { found = f } in s) (sym same)

pub starts_same : (a b : List ℕ) → b ≡ a → StartsWith b a
starts_same a b same = ([], same ∙ sym (append-nil a))

-- the same turn by other words for it
pub take_as : (moment word reported call : ℕ) (old new : CoreSeen) (answer : Option (Result Reply PostError)) → word ≡ reported
    → TakeGives moment word call old answer new → TakeGives moment reported call old answer new
take_as moment word reported call old new answer is gives =
    let P : ℕ → Type 0 = λ w. TakeGives moment w call old answer new in
    subst P is gives

pub send_as : (moment word reported call of : ℕ) (message sent : List ℕ) (old new : CoreSeen) (answer : Option (Result Reply PostError)) → word ≡ reported → call ≡ of → message ≡ sent
    → SendGives moment word call message old answer new → SendGives moment reported of sent old answer new
send_as moment word reported call of message sent old new answer is same text gives =
    let P : ℕ → Type 0 = λ w. SendGives moment w of sent old answer new in
    let Q : ℕ → Type 0 = λ c. SendGives moment word c sent old answer new in
    let R : List ℕ → Type 0 = λ m. SendGives moment word call m old answer new in
    subst P is (subst Q same (subst R text gives))

pub none_keeps : {A J : Type 0} (before after : J) (answer : Option A) (P : A → Type 0) → answer ≡ None → MatchOption answer (after ≡ before) P → after ≡ before
none_keeps {A = A} {J = J} before after answer P is kept =
    let Q : Option A → Type 0 = λ o. MatchOption o (after ≡ before) P in
    subst Q is kept

pub pending_of : {A : Type 0} (r : Poll A) (P : Type 0) → r ≡ polls.Pending → P → OnPending r P
pending_of {A = A} r P is p = let Q : Poll A → Type 0 = λ x. OnPending x P in subst Q (sym is) p
