-- What was played is a run of the channel, and where it stopped the journal lacks room.
use Rattle.std.proofs.Common.{◌≡◌, ◌∙◌, ◌≤◌, ℕ, Bool, true, false, List, [], ◌∷◌, ◌++◌, append-nil, append_assoc, length, length-append, sym, subst, inl, inr, arith, ap, ◌+◌}
use Rattle.std.specs.Prelude.{MatchBool, IfOk, IsErrAnd, OnOk, Result, Ok, Err}
use Rattle.grpc_base.specs.declared.event.Event.{Event}
use Rattle.grpc_base.specs.declared.event.Event.TheVariants as event
use Rattle.grpc_base.specs.declared.event.Entry.{Entry}
use Rattle.grpc_base.specs.declared.event.Reply.{Reply}
use Rattle.grpc_base.specs.declared.event.Stamped.{Stamped}
use Rattle.grpc_base.specs.Posts.{HasNoRoom}
use Rattle.channel_core.specs.Applying.{can_drain_in}
use Rattle.channel_core.specs.Core.{CoreSeen, IsFull, Steps}
use Rattle.channel_core.specs.Sizes.{counted, journal_bytes}
use Rattle.journal_room.specs.Posted.{IsPosted}
use Rattle.journal_room.specs.Rooms.{HasRoom}
use Rattle.journal_room.specs.Runs.{HasRunBy}
use Rattle.journal_room.proofs.RunLaws.{step_has_run}
use Rattle.load_plan.specs.declared.action.LoadAction.{LoadAction}
use Rattle.load_plan.specs.declared.action.LoadStep.{LoadStep}
use Rattle.load_plan.specs.declared.action.LoadStep.TheVariants as does
use Rattle.load_session.specs.Playing.{ArriveAt, Does, Drained, Exchanges, ExchangesOn, Receives, Plays, Posts, Sends, Sides, Takes, TakesMore}
use Rattle.load_session.specs.Steps.{GoesOn}
use Rattle.load_session.specs.Stopping.{LacksRoom}
use Rattle.load_session.specs.declared.fault.LoadFault.{LoadFault}
use Rattle.load_session.specs.declared.fault.LoadFault.TheVariants as fault

-- ---- events after those of a run

pub goes_on_none : (old new : CoreSeen) → new ≡ old → GoesOn old [] new
goes_on_none old new same authority policies before run =
    subst (λ (es : List Stamped). HasRunBy authority policies es new) (sym (append-nil before)) (subst (λ (x : CoreSeen). HasRunBy authority policies before x) (sym same) run)

pub goes_on_step : (old new : CoreSeen) (s : Stamped) (r : Reply) → Steps old new s r → IsPosted s.event → HasRoom old.journal.entries s.event → GoesOn old (s ∷ []) new
goes_on_step old new s r step posted room authority policies before run = step_has_run authority policies before old new s r run step posted room

pub goes_on_join : (a b c : CoreSeen) (xs ys : List Stamped) → GoesOn a xs b → GoesOn b ys c → GoesOn a (xs ++ ys) c
goes_on_join a b c xs ys first second authority policies before run =
    subst (λ (es : List Stamped). HasRunBy authority policies es c) (append_assoc before xs ys) (second authority policies (before ++ xs) (first authority policies before run))

-- ---- what a load plays

-- some events more were given to a channel
pub record Ran (old new : CoreSeen) : Type 0 where
  pub more : List Stamped
  pub goes_on : GoesOn old more new

pub ran_none : (old new : CoreSeen) → new ≡ old → Ran old new
ran_none old new same = record { more = []; goes_on = goes_on_none old new same }

pub ran_one : (moment : ℕ) (e : Event) (old new : CoreSeen) (r : Reply) → Posts moment e old new r → Ran old new
ran_one moment e old new r posts =
    let s : Stamped = record { moment = moment; word = 9223372036854775808; event = e } in
    record { more = s ∷ []; goes_on = goes_on_step old new s r posts.steps posts.posted posts.room }

pub ran_join : (a b c : CoreSeen) → Ran a b → Ran b c → Ran a c
ran_join a b c first second = record { more = first.more ++ second.more; goes_on = goes_on_join a b c first.more second.more first.goes_on second.goes_on }

ran_drained : (moment link : ℕ) (a b : Sides) → Drained moment link a b → Ran a.channel b.channel
ran_drained moment link a b drained = ran_one moment (event.Drain link 65536) a.channel b.channel drained.reply drained.posts

ran_if : (can : Bool) (moment link : ℕ) (a b : Sides) → MatchBool can (Drained moment link a b) (b ≡ a) → Ran a.channel b.channel
ran_if true moment link a b drained = ran_drained moment link a b drained
ran_if false moment link a b same = ran_none a.channel b.channel (ap (λ (x : Sides). x.channel) same)

pub ran_sends : (moment link : ℕ) (a b : Sides) → Sends moment link a b → Ran a.channel b.channel
ran_sends moment link a b sends = ran_if (can_drain_in link a.channel.state) moment link a b sends

ran_arrive : (moment link : ℕ) (octets : List ℕ) (old new : CoreSeen) → ArriveAt moment link octets old new → Ran old new
ran_arrive moment link [] old new same = ran_none old new same
ran_arrive moment link (x ∷ octets) old new arrives = ran_one moment (event.Arrived link (x ∷ octets)) old new arrives.0 arrives.1

pub ran_receives : (moment link : ℕ) (a b : Sides) → Receives moment link a b → Ran a.channel b.channel
ran_receives moment link a b receives = ran_arrive moment link receives.octets a.channel b.channel receives.arrive

pub ran_exchanges_on : (moment link : ℕ) (a b : Sides) → ExchangesOn moment link a b → Ran a.channel b.channel
ran_exchanges_on moment link a b exchanges =
    ran_join a.channel exchanges.0.channel b.channel (ran_sends moment link a exchanges.0 exchanges.1) (ran_receives moment link exchanges.0 b exchanges.2)

pub ran_exchanges : (moment : ℕ) (a b : Sides) → Exchanges moment a b → Ran a.channel b.channel
ran_exchanges moment a b exchanges =
    ran_join a.channel exchanges.0.channel b.channel (ran_exchanges_on moment 1 a exchanges.0 exchanges.1) (ran_exchanges_on moment 2 exchanges.0 b exchanges.2)

pub ran_more : (moment call : ℕ) (replies : List Reply) (old new : CoreSeen) → TakesMore moment call replies old new → Ran old new
ran_more moment call [] old new same = ran_none old new same
ran_more moment call (r ∷ replies) old new takes =
    ran_join old takes.0 new (ran_one moment (event.Take call) old takes.0 r takes.1) (ran_more moment call replies takes.0 new takes.3)

pub ran_takes : (moment call : ℕ) (old new : CoreSeen) → Takes moment call old new → Ran old new
ran_takes moment call old new takes =
    ran_join old takes.before new (ran_more moment call takes.more old takes.before takes.take_more) (ran_one moment (event.Take call) takes.before new takes.last takes.posts)

pub ran_does : (moment : ℕ) (step : LoadStep) (a b : Sides) → Does moment step a b → Ran a.channel b.channel
ran_does moment (does.Post e) a b posts = ran_one moment e a.channel b.channel posts.1 posts.2
ran_does moment does.Exchange a b exchanges = ran_exchanges moment a b exchanges
ran_does moment (does.Takes call) a b takes = ran_takes moment call a.channel b.channel takes.1

pub ran_plays : (actions : List LoadAction) (a b : Sides) → Plays actions a b → Ran a.channel b.channel
ran_plays [] a b same = ran_none a.channel b.channel (ap (λ (x : Sides). x.channel) same)
ran_plays (action ∷ actions) a b plays =
    ran_join a.channel plays.0.channel b.channel (ran_does action.moment action.step a plays.0 plays.1) (ran_plays actions plays.0 b plays.2)

-- ---- a full journal

-- a journal that is counted as full is full
full_of : (e : Event) (entries bytes : ℕ) (journal : List Entry) → HasNoRoom entries bytes e → entries ≡ length journal → bytes ≡ counted (journal_bytes journal) → HasNoRoom (length journal) (journal_bytes journal) e
full_of e entries bytes journal (inl many) n b = inl (subst (λ (k : ℕ). 1048576 ≤ k) n many)
full_of e entries bytes journal (inr much) n b = inr (omega (arith, much, b))

pub lacks_room : (core : CoreSeen) (e : Event) (entries bytes : ℕ) → IsFull core e entries bytes → LacksRoom e core
lacks_room core e entries bytes full = full_of e entries bytes core.journal.entries full.1 full.2 full.3

-- ---- answers that are not a full journal

pub not_ok : {X P : Type 0} → (x : X) → ◌≡◌ {A = Result X LoadFault} (Ok x) (Err fault.SessionFull) → P
not_ok x same = absurd (cc)

pub not_memory : {X P : Type 0} → ◌≡◌ {A = Result X LoadFault} (Err fault.NoMemory) (Err fault.SessionFull) → P
not_memory same = absurd (cc)

err_same : {X : Type 0} → (e f : LoadFault) → e ≡ f → ◌≡◌ {A = Result X LoadFault} (Err e) (Err f)
err_same e f is = ap (λ (x : LoadFault). Err x) is

-- what a `?` gives back
pub exit_ok : {X E : Type 0} → (P : Type 0) (r : Result X E) (Q : E → Type 0) → IsErrAnd r Q → OnOk r P
exit_ok P (Ok x) Q h = absurd h
exit_ok P (Err e) Q h = tt

pub exit_if : {X E : Type 0} → (r : Result X E) (Q : E → Type 0) (P : X → Type 0) → IsErrAnd r Q → IfOk r P
exit_if (Ok x) Q P h = absurd h
exit_if (Err e) Q P h = tt

pub exit_full : {X Y P : Type 0} → (r : Result X LoadFault) (e : LoadFault) → IsErrAnd r (λ y. y ≡ e) → (◌≡◌ {A = Result Y LoadFault} (Err e) (Err fault.SessionFull) → P) → r ≡ Err fault.SessionFull → P
exit_full (Ok x) e h full same = absurd h
exit_full {X} {Y} (Err y) e h full same =
    let is : e ≡ fault.SessionFull = (cc) in
    full (err_same e fault.SessionFull is)

pub exit_memory : {X P : Type 0} → (r : Result X LoadFault) → IsErrAnd r (λ y. y ≡ fault.NoMemory) → r ≡ Err fault.SessionFull → P
exit_memory (Ok x) h same = absurd h
exit_memory (Err y) h same = absurd (cc)

pub on_ok_as : {T E P Q : Type 0} → (r : Result T E) → (P → Q) → OnOk r P → OnOk r Q
on_ok_as (Ok value) more holds = more holds
on_ok_as (Err e) more holds = tt

-- what a step adds to a journal
pub one_longer : (moment : ℕ) (e : Event) (old new : CoreSeen) (r : Reply) → Posts moment e old new r → length new.journal.entries ≡ length old.journal.entries + 1
one_longer moment e old new r posts = ap (λ (xs : List Entry). length xs) posts.steps.journal ∙ length-append old.journal.entries _
