-- What the work of a program did, by its handles.
use Rattle.std.proofs.Common.{◌≡◌, ◌∙◌, ◌<◌, ◌+◌, ℕ, suc, Bool, true, false, Option, Some, List, [], ◌∷◌, ◌++◌, ap, append_assoc, append-nil, arith, length, length-append, map, refl, slice_index_or, sym, subst}
use Rattle.std.specs.List.{AllByRecursion, AllZip}
use Rattle.std.specs.Option.{option_to_list}
use Rattle.std.specs.Prelude.{Result, Ok, Err, IfOk}
use Rattle.grpc_base.specs.declared.event.Entry.{Entry}
use Rattle.grpc_base.specs.declared.event.Event.{Event}
use Rattle.grpc_base.specs.declared.event.Event.TheVariants as event
use Rattle.client_calls.specs.Entries.{is_step, others_in}
use Rattle.live_channel.specs.Handles.{DialersAreGiven, Closes, IsFresh, IsKept, IsOne, IsStarted, Keeper, Leaves, Shuts, Splits, StandInOrder, TakesIn, keepers_in, owns_of, seats_in}
use Rattle.live_channel.specs.Keeping.{KeepsDone}
use Rattle.live_channel.specs.Sharing.{IsOfCall, times_in}
use Rattle.live_channel.specs.Report.{ReportsTarget}
use Rattle.live_channel.specs.declared.linkers.Linkers.{Linkers}
use Rattle.live_channel.proofs.KeepLaws.{one_still}
use Rattle.live_channel.proofs.OwnLaws.{each_snoc, each_unmap}
use Rattle.live_channel.proofs.SeatLaws.{left_by, reported_stays}
use Rattle.live_channel.proofs.ShareLaws.{closes_taken}
use Rattle.live_run.specs.declared.link_job.LinkJob.{LinkJob}
use Rattle.live_run.specs.declared.outcome.Outcome.{Outcome}
use Rattle.resolver_core.specs.declared.any_target.Target.{Target}
use Rattle.shared_channel.specs.Turns.{entries_of, share_of}
use Rattle.turn_lock.specs.History.{LockId, SeatSeen, StartsWith, times}
use Rattle.channel_client.specs.Jobs.{EntriesAreOfCalls, ClientsDone, IsClient, JobDone, LeavesClients, ShowsOwn, from_last, works_of}
use Rattle.channel_client.specs.declared.clients.Clients.{Clients}
use Rattle.channel_client.specs.declared.job.ClientJob.{ClientJob}

-- ---- entries of calls alone

step_is_call : (e : Event) → is_step e ≡ true → IsOfCall e
step_is_call (event.Begin request) is = refl
step_is_call (event.Send call message) is = refl
step_is_call (event.Finish call) is = refl
step_is_call (event.Take call) is = refl
step_is_call (event.Cancel call) is = refl
step_is_call (event.Resolved addresses config) is = absurd (let no : ⊥ = (cc) in no)
step_is_call event.ResolveFailed is = absurd (let no : ⊥ = (cc) in no)
step_is_call event.TakeDial is = absurd (let no : ⊥ = (cc) in no)
step_is_call (event.LinkUp sub) is = absurd (let no : ⊥ = (cc) in no)
step_is_call (event.DialFailed sub) is = absurd (let no : ⊥ = (cc) in no)
step_is_call (event.Arrived link piece) is = absurd (let no : ⊥ = (cc) in no)
step_is_call (event.LinkLost link) is = absurd (let no : ⊥ = (cc) in no)
step_is_call (event.Drain link room) is = absurd (let no : ⊥ = (cc) in no)
step_is_call (event.Ping link word) is = absurd (let no : ⊥ = (cc) in no)
step_is_call event.Tick is = absurd (let no : ⊥ = (cc) in no)
step_is_call event.Shutdown is = absurd (let no : ⊥ = (cc) in no)

calls_by : (e : Entry) (b : Bool) → is_step e.event ≡ b → (es : List Entry) → others_in (e ∷ es) ≡ [] → (others_in es ≡ [] → AllByRecursion (λ x. IsOfCall x.event) es) → AllByRecursion (λ x. IsOfCall x.event) (e ∷ es)
calls_by e true is es none rest =
    let same : others_in (e ∷ es) ≡ others_in es = rw is refl in
    (step_is_call e.event is, rest (sym same ∙ none))
calls_by e false is es none rest =
    let same : others_in (e ∷ es) ≡ e ∷ others_in es = rw is refl in
    absurd (let bad : e ∷ others_in es ≡ [] = sym same ∙ none in let no : ⊥ = (cc) in no)

-- where none is another entry, each is of a call
calls_alone : (es : List Entry) → others_in es ≡ [] → AllByRecursion (λ x. IsOfCall x.event) es
calls_alone [] none = tt
calls_alone (e ∷ es) none = calls_by e (is_step e.event) refl es none (calls_alone es)

-- ---- one piece of work

ran_one : {H J : Type 0} (seat_of : H → SeatSeen Entry) (shows : J → List Entry → Type 0) (lock : LockId) (before after : ClientJob H J)
    → JobDone (λ h. entries_of (seat_of h).own) (λ h. share_of (seat_of h)) shows before after → IsFresh lock (seat_of before.post) → IsClient seat_of shows lock after
ran_one seat_of shows lock before after done fresh =
    let none : entries_of (seat_of before.post).own ≡ [] = ap entries_of fresh.own in
    record {
      one = one_still lock (seat_of before.post) (seat_of after.post) done.same_share fresh.one;
      calls = each_unmap (λ (e : Entry). IsOfCall e.event) (λ (p : ℕ × Entry). p.1) (seat_of after.post).own
          (calls_alone (entries_of (seat_of after.post).own) (done.others ∙ ap others_in none));
      does = done.does none;
    }

pub ran_all : {H J : Type 0} (seat_of : H → SeatSeen Entry) (shows : J → List Entry → Type 0) (lock : LockId) (olds news : List (ClientJob H J)) → length news ≡ length olds
    → ((i : ℕ) (d : ClientJob H J) → i < length olds → JobDone (λ h. entries_of (seat_of h).own) (λ h. share_of (seat_of h)) shows (slice_index_or olds i d) (slice_index_or news i d))
    → AllByRecursion (IsFresh lock) (map (λ j. seat_of j.post) olds) → AllByRecursion (IsClient seat_of shows lock) news
ran_all seat_of shows lock [] [] long each fresh = tt
ran_all seat_of shows lock [] (new ∷ news) long each fresh = absurd (omega (arith, long))
ran_all seat_of shows lock (old ∷ olds) [] long each fresh = absurd (omega (arith, long))
ran_all seat_of shows lock (old ∷ olds) (new ∷ news) long each fresh = (
  ran_one seat_of shows lock old new (each 0 old (omega arith)) fresh.0,
  ran_all seat_of shows lock olds news (omega (arith, long)) (λ i d within. each (suc i) d (omega (arith, within))) fresh.1,
)

-- ---- all work

pub client_ones : {H J : Type 0} (seat_of : H → SeatSeen Entry) (shows : J → List Entry → Type 0) (lock : LockId) (jobs : List (ClientJob H J)) → AllByRecursion (IsClient seat_of shows lock) jobs → AllByRecursion (IsOne lock) (map (λ j. seat_of j.post) jobs)
client_ones seat_of shows lock [] all = tt
client_ones seat_of shows lock (job ∷ jobs) all = (all.0.one, client_ones seat_of shows lock jobs all.1)

zip_snoc : {A B : Type 0} (R : A → B → Type 0) (xs : List A) (ys : List B) (x : A) (y : B) → AllZip R xs ys → R x y → AllZip R (xs ++ x ∷ []) (ys ++ y ∷ [])
zip_snoc R [] [] x y all here = (here, tt)
zip_snoc R [] (b ∷ ys) x y all here = absurd all
zip_snoc R (a ∷ xs) [] x y all here = absurd all
zip_snoc R (a ∷ xs) (b ∷ ys) x y all here = (all.0, zip_snoc R xs ys x y all.1 here)

-- the entries of the handles, from the last one on
abbrev owns_back : {H J : Type 0} → (H → SeatSeen Entry) → List (ClientJob H J) → List (List (ℕ × Entry))
owns_back seat_of jobs = from_last (owns_of (map (λ j. seat_of j.post) jobs))

works_done : {H J : Type 0} (seat_of : H → SeatSeen Entry) (shows : J → List Entry → Type 0) (lock : LockId) (jobs : List (ClientJob H J)) → AllByRecursion (IsClient seat_of shows lock) jobs → AllZip (ShowsOwn shows) (works_of jobs) (owns_back seat_of jobs)
works_done seat_of shows lock [] all = tt
works_done seat_of shows lock (job ∷ jobs) all = zip_snoc (ShowsOwn shows) (works_of jobs) (owns_back seat_of jobs) job.work (seat_of job.post).own (works_done seat_of shows lock jobs all.1) all.0.does

works_calls : {H J : Type 0} (seat_of : H → SeatSeen Entry) (shows : J → List Entry → Type 0) (lock : LockId) (jobs : List (ClientJob H J)) → AllByRecursion (IsClient seat_of shows lock) jobs → AllByRecursion EntriesAreOfCalls (owns_back seat_of jobs)
works_calls seat_of shows lock [] all = tt
works_calls seat_of shows lock (job ∷ jobs) all = each_snoc EntriesAreOfCalls (owns_back seat_of jobs) (seat_of job.post).own (works_calls seat_of shows lock jobs all.1) all.0.calls

-- ---- from the last one on

each_back : {X : Type 0} (P : X → Type 0) (xs : List X) → AllByRecursion P xs → AllByRecursion P (from_last xs)
each_back P [] all = tt
each_back P (x ∷ xs) all = each_snoc P (from_last xs) x (each_back P xs all.1) all.0

long_back : {X : Type 0} (xs : List X) → length (from_last xs) ≡ length xs
long_back [] = refl
long_back {X} (x ∷ xs) =
    let both : length (from_last xs ++ x ∷ []) ≡ length (from_last xs) + 1 = length-append (from_last xs) (x ∷ []) in
    let rest : length (from_last xs) ≡ length xs = long_back xs in omega (arith, both, rest)

times_snoc : (x : ℕ) (owns : List (List (ℕ × Entry))) (own : List (ℕ × Entry)) → times_in x (owns ++ own ∷ []) ≡ times_in x owns + times x own
times_snoc x [] own = omega arith
times_snoc x (first ∷ owns) own = let more = times_snoc x owns own in omega (arith, more)

times_back : (x : ℕ) (owns : List (List (ℕ × Entry))) → times_in x (from_last owns) ≡ times_in x owns
times_back x [] = refl
times_back x (own ∷ owns) =
    let more : times_in x (from_last owns ++ own ∷ []) ≡ times_in x (from_last owns) + times x own = times_snoc x (from_last owns) own in
    let rest : times_in x (from_last owns) ≡ times_in x owns = times_back x owns in omega (arith, more, rest)

takes_back : (before after : SeatSeen Entry) (owns : List (List (ℕ × Entry))) → TakesIn before owns after → TakesIn before (from_last owns) after
takes_back before after owns takes = record {
  lock = takes.lock;
  parts = takes.parts ∙ ap (λ (n : ℕ). before.parts + n) (sym (long_back owns));
  sees = takes.sees;
  each = each_back (StandInOrder after.seen) owns takes.each;
  count = λ x. takes.count x ∙ ap (λ (n : ℕ). times x before.own + n) (sym (times_back x owns));
}

owns_long : {H J : Type 0} (seat_of : H → SeatSeen Entry) (jobs : List (ClientJob H J)) → length (owns_of (map (λ j. seat_of j.post) jobs)) ≡ length jobs
owns_long seat_of [] = refl
owns_long seat_of (job ∷ jobs) = ap suc (owns_long seat_of jobs)

-- the Shutdown after the work
pub clients_done : {H J : Type 0} (seat_of : H → SeatSeen Entry) (shows : J → List Entry → Type 0) (before after : Clients H J) (mid : SeatSeen Entry) (did : List (ClientJob H J)) → length did ≡ length before.jobs.items
    → AllByRecursion (IsClient seat_of shows (seat_of before.closer).lock) did → (after.is_whole ≡ true → after.done.items ≡ before.done.items ++ works_of did) → TakesIn (seat_of before.closer) (owns_of (map (λ j. seat_of j.post) did)) mid
    → Shuts after.outcome mid (seat_of after.closer) → ClientsDone seat_of shows before after
clients_done {H} {J} seat_of shows before after mid did long all works takes shuts = record {
  lock = shuts.lock ∙ takes.lock;
  parts = shuts.parts ∙ takes.parts ∙ ap (λ (n : ℕ). (seat_of before.closer).parts + n) (owns_long seat_of did ∙ long);
  owns = owns_back seat_of did;
  done = λ whole none.
      let is : after.done.items ≡ works_of did = works whole ∙ ap (λ (l : List J). l ++ works_of did) none in
      subst (λ (l : List J). AllZip (ShowsOwn shows) l (owns_back seat_of did)) (sym is) (works_done seat_of shows (seat_of before.closer).lock did all);
  calls = works_calls seat_of shows (seat_of before.closer).lock did all;
  closes = closes_taken after.outcome after.outcome (owns_back seat_of did) (seat_of before.closer) mid (seat_of after.closer) (λ whole. whole)
      (takes_back (seat_of before.closer) mid (owns_of (map (λ j. seat_of j.post) did)) takes) shuts;
}

-- ---- work that is kept

works_snoc : {H J : Type 0} (jobs : List (ClientJob H J)) (job : ClientJob H J) → works_of (jobs ++ job ∷ []) ≡ job.work ∷ works_of jobs
works_snoc [] job = refl
works_snoc {H} {J} (first ∷ jobs) job = ap (λ (l : List J). l ++ first.work ∷ []) (works_snoc jobs job)

-- the last of those that are left is kept
pub works_kept : {H J : Type 0} (all jobs left : List (ClientJob H J)) (last : Option (ClientJob H J)) (job : ClientJob H J) (start here next : List J) → jobs ≡ left ++ option_to_list last → last ≡ Some job
    → here ++ works_of jobs ≡ start ++ works_of all → next ≡ here ++ job.work ∷ [] → next ++ works_of left ≡ start ++ works_of all
works_kept {H} {J} all jobs left last job start here next split is so_far kept =
    let whole : jobs ≡ left ++ job ∷ [] = split ∙ ap (λ (o : Option (ClientJob H J)). left ++ option_to_list o) is in
    ap (λ (l : List J). l ++ works_of left) kept ∙ append_assoc here (job.work ∷ []) (works_of left)
    ∙ ap (λ (l : List J). here ++ l) (sym (works_snoc left job)) ∙ ap (λ (l : List (ClientJob H J)). here ++ works_of l) (sym whole) ∙ so_far

-- none is left
pub works_all : {H J : Type 0} (all jobs : List (ClientJob H J)) (start here : List J) → length jobs ≡ 0 → here ++ works_of jobs ≡ start ++ works_of all → here ≡ start ++ works_of all
works_all all [] start here none so_far = sym (append-nil here) ∙ so_far
works_all all (job ∷ jobs) start here none so_far = absurd (omega (arith, none))

-- ---- the run

-- as many handles as workers beside the work
pub seats_length : {H N L D : Type 0} (jobs : List (LinkJob H N L D)) (seat_of : H → SeatSeen Entry) → length jobs ≡ length (seats_in seat_of jobs)
seats_length [] seat_of = refl
seats_length (job ∷ jobs) seat_of = ap suc (seats_length jobs seat_of)

pub kept_beside : {H N L D J : Type 0} (seat_of : H → SeatSeen Entry) (shows : J → List Entry → Type 0) (coming : N → Option (List (List ℕ))) (links l : Linkers H N L D) (before after : Clients H J) → KeepsDone seat_of coming links l → ClientsDone seat_of shows before after
    → AllByRecursion (IsFresh (seat_of before.closer).lock) (seats_in seat_of links.jobs.items) → AllZip (IsKept (seat_of after.closer).lock) (keepers_in coming links.jobs.items) (seats_in seat_of l.jobs.items)
kept_beside seat_of shows coming links l before after keeps clients fresh =
    subst (λ (lock : LockId). AllZip (IsKept lock) (keepers_in coming links.jobs.items) (seats_in seat_of l.jobs.items)) (sym clients.lock) (keeps.kept (seat_of before.closer).lock fresh)

-- what a run left of a handle of which others were split off before
pub left_clients : {H J : Type 0} (seat_of : H → SeatSeen Entry) (shows : J → List Entry → Type 0) (lock : LockId) (held : List (Option (List (List ℕ)))) (config : Option (List ℕ)) (o : Outcome) (beside : ℕ) (keepers : List Keeper) (before after : Clients H J) (links others : List (SeatSeen Entry)) (seat mid out : SeatSeen Entry)
    → DialersAreGiven held config keepers seat → IsStarted lock links seat → Splits seat others mid → seat_of before.closer ≡ mid → length before.jobs.items ≡ length others → beside ≡ length links → after.is_whole ≡ true → before.done.items ≡ [] → ClientsDone seat_of shows before after
    → out.lock ≡ (seat_of after.closer).lock → out.parts ≡ (seat_of after.closer).parts + beside
    → ((owns : List (List (ℕ × Entry))) (seen : List Entry) (own : List (ℕ × Entry)) → Closes after.outcome owns seen own (seat_of after.closer) → Leaves o keepers owns seen own out) → LeavesClients shows lock held config o after.done.items out
left_clients seat_of shows lock held config o beside keepers before after links others seat mid out given started splits same mine all whole none clients locks parts leaves = record {
  owns = clients.owns;
  done = clients.done whole none;
  calls = clients.calls;
  left = left_by lock held config o keepers clients.owns links others seat mid (seat_of before.closer) out given started splits same (locks ∙ clients.lock)
      (let made = clients.parts in omega (arith, parts, made, mine, all)) (leaves clients.owns (seat_of before.closer).seen (seat_of before.closer).own clients.closes);
}

-- the same of a run over a world, which says what its dialers hold
pub left_world : {J E : Type 0} {V : Type 0} (shows : J → List Entry → Type 0) (items : V → List J) (lock : LockId) (held reported : List (Option (List (List ℕ)))) (config : Option (List ℕ)) (keepers : List Keeper) (seat : SeatSeen Entry) (result : Result (SeatSeen Entry × Outcome × V) E) → held ≡ reported → DialersAreGiven held config keepers seat
    → IfOk result (λ r. (h : List (Option (List (List ℕ)))) (g : Option (List ℕ)) → DialersAreGiven h g keepers seat → LeavesClients shows lock h g r.1 (items r.2) r.0) → IfOk result (λ r. LeavesClients shows lock reported config r.1 (items r.2) r.0)
left_world shows items lock held reported config keepers seat (Ok r) same given left = subst (λ (h : List (Option (List (List ℕ)))). LeavesClients shows lock h config r.1 (items r.2) r.0) same (left held config given)
left_world shows items lock held reported config keepers seat (Err e) same given left = tt

-- and what was said stays so of a handle that has seen all that
pub reported_client : {X Y E : Type 0} (t : Target) (config : Option (List ℕ)) (seat : SeatSeen Entry) (result : Result (SeatSeen Entry × X × Y) E) → ReportsTarget t config seat.seen → IfOk result (λ r. StartsWith r.0.seen seat.seen) → IfOk result (λ r. ReportsTarget t config r.0.seen)
reported_client t config seat (Ok r) reported sees = reported_stays t config r.0.seen seat.seen sees reported
reported_client t config seat (Err e) reported sees = tt
