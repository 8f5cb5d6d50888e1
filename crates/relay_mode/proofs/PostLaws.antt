-- What the job of a relay's link posts: events of applications alone.
use Rattle.std.proofs.Common.{◌≡◌, ℕ, zero, suc, Bool, true, false, Option, Some, None, List, [], ◌∷◌, ◌++◌, ap, inl, inr, length, refl}
use Rattle.std.specs.Prelude.{MatchOption, Result, Ok, Err}
use Rattle.grpc_base.specs.declared.event.Event.{Event}
use Rattle.grpc_base.specs.declared.event.Event.TheVariants as event
use Rattle.grpc_base.specs.declared.event.Reply.{Reply}
use Rattle.grpc_base.specs.declared.post.PostError.{PostError}
use Rattle.live_channel.specs.Sharing.{IsOfCall}
use Rattle.live_pump.specs.Kinds.{AddsOnly}
use Rattle.live_pump.specs.Pumps.{PostsOne}
use Rattle.live_pump.proofs.KindLaws.{adds_none, adds_one, adds_then}
use Rattle.relay_asks.specs.declared.ask.RelayAsk.{RelayAsk}
use Rattle.relay_asks.specs.declared.ask.RelayAsk.TheVariants as ask
use Rattle.relay_calls.specs.Calls.{Calls, dropped, number_of}
use Rattle.relay_calls.specs.Posting.{Eyes, PostsAll, PostsAs, PostsNow, PostsUnless, Sends, SendsIf, is_held}
use Rattle.relay_calls.specs.Taking.{GivesUpAll, GivesUpAt, GivesUpOpen, GivesUpTo, TakesAt, TakesIf, TakesOpen}
use Rattle.relay_calls.specs.declared.call.RelayCall.{RelayCall}
use Rattle.relay_calls.specs.declared.fault.CallsFault.{CallsFault}
use Rattle.relay_front.specs.Cores.{Core}
use Rattle.relay_front.specs.Rounds.{Finishes, LinkEyes, RoundOf, RoundsOn, RunsTo, Stand}
use Rattle.relay_front.specs.Turns.{Closes, GivesAfter, GivesAll, GivesAt, GivesTo, ServesAsks, TakesPiece, TurnsTo, TurnsUnless}
use Rattle.relay_front.specs.declared.links.LinkEnd.{LinkEnd}
use Rattle.relay_front.specs.declared.links.LinkEnd.TheVariants as end
use Rattle.relay_front.specs.declared.turned.RelayTurn.{RelayTurn}

-- a handle made nothing but entries of applications
abbrev Adds : {P : Type 0} → Eyes P → P → P → Type 0
Adds eyes before after = AddsOnly IsOfCall (eyes.handle before).made (eyes.handle after).made

same : {P : Type 0} (eyes : Eyes P) (before after : P) → eyes.handle after ≡ eyes.handle before → Adds eyes before after
same eyes before after is = adds_none IsOfCall (eyes.handle before).made (eyes.handle after).made (ap (λ h. h.made) is)

still : {P : Type 0} (eyes : Eyes P) (before after : P) → after ≡ before → Adds eyes before after
still eyes before after is = same eyes before after (ap eyes.handle is)

both : {P : Type 0} (eyes : Eyes P) (a b c : P) → Adds eyes a b → Adds eyes b c → Adds eyes a c
both eyes a b c first later = adds_then IsOfCall (eyes.handle a).made (eyes.handle b).made (eyes.handle c).made first later

one : {P : Type 0} (eyes : Eyes P) (e : Event) (before after : P) (came : Result Reply PostError) → IsOfCall e → PostsOne e (eyes.handle before) (eyes.handle after) came → Adds eyes before after
one eyes e before after (Ok r) kind posts = adds_one IsOfCall e (eyes.handle before).made (eyes.handle after).made r kind posts.made.0
one eyes e before after (Err error) kind posts = adds_none IsOfCall (eyes.handle before).made (eyes.handle after).made posts.made.0

-- ---- asks

posts_as : {P : Type 0} (eyes : Eyes P) (e : Event) (c : Calls) (a : RelayAsk) (before : P) (after_calls : Calls) (after : P) (result : Result Unit CallsFault) → IsOfCall e → PostsAs eyes e c a before after_calls after result → Adds eyes before after
posts_as eyes e c a before after_calls after result kind posts = one eyes e before after posts.0 kind posts.1

sends_if : {P : Type 0} (eyes : Eyes P) (room : Bool) (call : ℕ) (message : List ℕ) (c : Calls) (a : RelayAsk) (before : P) (after_calls : Calls) (after : P) (result : Result Unit CallsFault) → SendsIf eyes room call message c a before after_calls after result → Adds eyes before after
sends_if eyes true call message c a before after_calls after result (inl posts) = posts_as eyes (event.Send call message) c a before after_calls after result refl posts
sends_if eyes true call message c a before after_calls after result (inr wants) = same eyes before after wants.0
sends_if eyes false call message c a before after_calls after result waits = same eyes before after waits.0

sends : {P : Type 0} (eyes : Eyes P) (call : ℕ) (message : List ℕ) (c : Calls) (a : RelayAsk) (before : P) (after_calls : Calls) (after : P) (result : Result Unit CallsFault) → Sends eyes call message c a before after_calls after result → Adds eyes before after
sends eyes call message c a before after_calls after result (room, looked, looks, goes) =
    both eyes before looked after (same eyes before looked looks.handle) (sends_if eyes room call message c a looked after_calls after result goes)

either : {X : Type 0} (R A : Type 0) (B : X → Type 0) (o : Option X) → MatchOption o A B → (A → R) → ((x : X) → B x → R) → R
either R A B None is none some = none is
either R A B (Some x) is none some = some x is

posts_now : {P : Type 0} (eyes : Eyes P) (c : Calls) (a : RelayAsk) (before : P) (after_calls : Calls) (after : P) (result : Result Unit CallsFault) → PostsNow eyes c a before after_calls after result → Adds eyes before after
posts_now eyes c (ask.Begin stream request) before after_calls after result posts =
    posts_as eyes (event.Begin request) c (ask.Begin stream request) before after_calls after result refl posts
posts_now eyes c (ask.Send stream message) before after_calls after result posts =
    either (Adds eyes before after) _ _ (number_of c.calls stream) posts (λ passed. same eyes before after passed.handle)
    (λ call sent. sends eyes call message c (ask.Send stream message) before after_calls after result sent)
posts_now eyes c (ask.Finish stream) before after_calls after result posts =
    either (Adds eyes before after) _ _ (number_of c.calls stream) posts (λ passed. same eyes before after passed.handle)
    (λ call posted. posts_as eyes (event.Finish call) c (ask.Finish stream) before after_calls after result refl posted)
posts_now eyes c (ask.Cancel stream) before after_calls after result posts =
    either (Adds eyes before after) _ _ (number_of c.calls stream) posts (λ passed. same eyes before after passed.handle)
    (λ call posted. posts_as eyes (event.Cancel call) (dropped c stream) (ask.Cancel stream) before after_calls after result refl posted)

posts_unless : {P : Type 0} (eyes : Eyes P) (held : Bool) (c : Calls) (a : RelayAsk) (before : P) (after_calls : Calls) (after : P) (result : Result Unit CallsFault) → PostsUnless eyes held c a before after_calls after result → Adds eyes before after
posts_unless eyes true c a before after_calls after result waits = same eyes before after waits.0
posts_unless eyes false c a before after_calls after result posts = posts_now eyes c a before after_calls after result posts

posts_all : {P : Type 0} (eyes : Eyes P) (c : Calls) (before : P) (asks : List RelayAsk) (after_calls : Calls) (after : P) (result : Result Unit CallsFault) → PostsAll eyes c before asks after_calls after result → Adds eyes before after
posts_all eyes c before [] after_calls after result none = still eyes before after none.1
posts_all eyes c before (a ∷ asks) after_calls after result (inl (next, post, first, later)) =
    both eyes before post after (posts_unless eyes (is_held c a) c a before next post (Ok tt) first) (posts_all eyes next post asks after_calls after result later)
posts_all eyes c before (a ∷ asks) after_calls after result (inr (f, last, is)) = posts_unless eyes (is_held c a) c a before after_calls after (Err f) last

-- ---- Takes

takes_if : {P : Type 0} (eyes : Eyes P) (come : Bool) (k : RelayCall) (before : P) (k2 : RelayCall) (after : P) (result : Result (Option Reply) PostError) → TakesIf eyes come k before k2 after result → Adds eyes before after
takes_if eyes true k before k2 after result posts = one eyes (event.Take k.call) before after posts.0 refl posts.1
takes_if eyes false k before k2 after result none = same eyes before after none.0

takes_open : {P : Type 0} (eyes : Eyes P) (is_open : Bool) (k : RelayCall) (before : P) (k2 : RelayCall) (after : P) (result : Result (Option Reply) PostError) → TakesOpen eyes is_open k before k2 after result → Adds eyes before after
takes_open eyes true k before k2 after result (come, looked, looks, takes) =
    both eyes before looked after (same eyes before looked looks.handle) (takes_if eyes come k looked k2 after result takes)
takes_open eyes false k before k2 after result none = still eyes before after none.0

takes_at : {P : Type 0} (eyes : Eyes P) (place : ℕ) (c : Calls) (before : P) (after_calls : Calls) (after : P) (result : Result (Option Reply) PostError) → TakesAt eyes place c before after_calls after result → Adds eyes before after
takes_at eyes place c before after_calls after result (k, k2, at, is, takes) = takes_open eyes k.is_open k before k2 after result takes

gives_at : {P : Type 0} (eyes : Eyes P) (place : ℕ) (c : Core) (before : P) (after_core : Core) (after : P) (result : Result Unit CallsFault) → GivesAt eyes place c before after_core after result → Adds eyes before after
gives_at eyes place c before after_core after result (k, next, came, at, takes, given) = takes_at eyes place c.calls before next after came takes

gives_to : {P : Type 0} (eyes : Eyes P) (places : ℕ) (c : Core) (before : P) (after_core : Core) (after : P) → GivesTo eyes places c before after_core after → Adds eyes before after
gives_to eyes zero c before after_core after none = still eyes before after none.1
gives_to eyes (suc place) c before after_core after (next, post, first, last) =
    both eyes before post after (gives_to eyes place c before next post first) (gives_at eyes place next post after_core after (Ok tt) last)

gives_all : {P : Type 0} (eyes : Eyes P) (c : Core) (before : P) (after_core : Core) (after : P) (result : Result Unit CallsFault) → GivesAll eyes c before after_core after result → Adds eyes before after
gives_all eyes c before after_core after (Ok done) (next, gives, is) = gives_to eyes (length c.calls.calls) c before next after gives
gives_all eyes c before after_core after (Err f) (place, within, next, post, gives, last) =
    both eyes before post after (gives_to eyes place c before next post gives) (gives_at eyes place next post after_core after (Err f) last)

-- ---- a turn

gives_after : {P : Type 0} (eyes : Eyes P) (c : Core) (before : P) (posted : Result Unit CallsFault) (after_core : Core) (after : P) (t : RelayTurn) → GivesAfter eyes c before posted after_core after t → Adds eyes before after
gives_after eyes c before (Ok done) after_core after t (came, gives, is) = gives_all eyes c before after_core after came gives
gives_after eyes c before (Err f) after_core after t none = still eyes before after none.1

serves_asks : {P : Type 0} (eyes : Eyes P) (c : Core) (before : P) (asks : List RelayAsk) (after_core : Core) (after : P) (t : RelayTurn) → ServesAsks eyes c before asks after_core after t → Adds eyes before after
serves_asks eyes c before asks after_core after t serves =
    both eyes before serves.post after (posts_all eyes (record c.calls { waiting = [] }) before (c.calls.waiting ++ asks) serves.calls serves.post serves.came serves.posts)
    (gives_after eyes (record c { calls = serves.calls }) serves.post serves.came after_core after t serves.gives)

takes_piece : {P : Type 0} (eyes : Eyes P) (c : Core) (before : P) (piece : List ℕ) (after_core : Core) (after : P) (t : RelayTurn) → TakesPiece eyes c before piece after_core after t → Adds eyes before after
takes_piece eyes c before piece after_core after t takes = serves_asks eyes (record c { relay = takes.relay }) before takes.asks after_core after t takes.serves

turns_unless : {P : Type 0} (eyes : Eyes P) (broken : Option ℕ) (c : Core) (before : P) (piece : List ℕ) (after_core : Core) (after : P) (t : RelayTurn) → TurnsUnless eyes broken c before piece after_core after t → Adds eyes before after
turns_unless eyes (Some code) c before piece after_core after t none = still eyes before after none.1
turns_unless eyes None c before piece after_core after t (inl takes) = takes_piece eyes c before piece after_core after t takes
turns_unless eyes None c before piece after_core after t (inr none) = still eyes before after none.0

turns_to : {P : Type 0} (eyes : Eyes P) (c : Core) (before : P) (piece : List ℕ) (after_core : Core) (after : P) (t : RelayTurn) → TurnsTo eyes c before piece after_core after t → Adds eyes before after
turns_to eyes c before piece after_core after t turns = turns_unless eyes c.relay.link.wire.broken c before piece after_core after t turns

-- ---- calls that are given up

gives_up_open : {P : Type 0} (eyes : Eyes P) (is_open : Bool) (k : RelayCall) (before : P) (k2 : RelayCall) (after : P) (result : Result Unit PostError) → GivesUpOpen eyes is_open k before k2 after result → Adds eyes before after
gives_up_open eyes true k before k2 after result posts = one eyes (event.Cancel k.call) before after posts.0 refl posts.1
gives_up_open eyes false k before k2 after result none = still eyes before after none.0

gives_up_at : {P : Type 0} (eyes : Eyes P) (place : ℕ) (c : Calls) (before : P) (after_calls : Calls) (after : P) (result : Result Unit PostError) → GivesUpAt eyes place c before after_calls after result → Adds eyes before after
gives_up_at eyes place c before after_calls after result (k, k2, at, is, gives) = gives_up_open eyes k.is_open k before k2 after result gives

gives_up_to : {P : Type 0} (eyes : Eyes P) (places : ℕ) (c : Calls) (before : P) (after_calls : Calls) (after : P) → GivesUpTo eyes places c before after_calls after → Adds eyes before after
gives_up_to eyes zero c before after_calls after none = still eyes before after none.1
gives_up_to eyes (suc place) c before after_calls after (next, post, first, last) =
    both eyes before post after (gives_up_to eyes place c before next post first) (gives_up_at eyes place next post after_calls after (Ok tt) last)

gives_up_all : {P : Type 0} (eyes : Eyes P) (c : Calls) (before : P) (after_calls : Calls) (after : P) (result : Result Unit PostError) → GivesUpAll eyes c before after_calls after result → Adds eyes before after
gives_up_all eyes c before after_calls after (Ok done) gives = gives_up_to eyes (length c.calls) c before after_calls after gives
gives_up_all eyes c before after_calls after (Err error) (place, within, next, post, gives, last) =
    both eyes before post after (gives_up_to eyes place c before next post gives) (gives_up_at eyes place next post after_calls after (Err error) last)

closes_up : {P : Type 0} (eyes : Eyes P) (c : Core) (before : P) (after_core : Core) (after : P) (t : RelayTurn) → Closes eyes c before after_core after t → Adds eyes before after
closes_up eyes c before after_core after t closes = gives_up_all eyes (record c.calls { waiting = [] }) before after_core.calls after closes.came closes.gives_up

-- ---- the job of a link

round_of : {P I O : Type 0} (eyes : LinkEyes P I O) (before after : Stand P I O) (e : Option LinkEnd) → RoundOf eyes before after e → Adds eyes.post before.post after.post
round_of eyes before after e (inl round) = turns_to eyes.post before.core before.post round.piece round.turns.turned after.post round.turns.answer round.turns.turns
round_of eyes before after e (inr lost) = still eyes.post before.post after.post (ap (λ s. s.post) lost.same)

rounds_on : {P I O : Type 0} (eyes : LinkEyes P I O) (start : Stand P I O) (rounds : List (Stand P I O)) (last : Stand P I O) → RoundsOn eyes start rounds last → Adds eyes.post start.post last.post
rounds_on eyes start [] last is = still eyes.post start.post last.post (ap (λ s. s.post) is)
rounds_on eyes start (next ∷ later) last rounds =
    both eyes.post start.post next.post last.post (round_of eyes start next None rounds.0) (rounds_on eyes next later last rounds.1)

finishes_up : {P : Type 0} (eyes : Eyes P) (e : LinkEnd) (c : Core) (before : P) (after_core : Core) (after : P) (t : RelayTurn) → Finishes eyes e c before after_core after t → Adds eyes before after
finishes_up eyes end.Lost c before after_core after t closes = closes_up eyes c before after_core after t closes
finishes_up eyes (end.Broken code) c before after_core after t (closed, closes, is) = closes_up eyes c before after_core after closed closes
finishes_up eyes (end.Turned answer) c before after_core after t none = still eyes before after none.1
finishes_up eyes end.NoMemory c before after_core after t none = still eyes before after none.1

pub link_posts : {P I O : Type 0} (eyes : LinkEyes P I O) (start after : Stand P I O) (t : RelayTurn) → RunsTo eyes start after t → AddsOnly IsOfCall (eyes.post.handle start.post).made (eyes.post.handle after.post).made
link_posts eyes start after t runs =
    both eyes.post start.post runs.last.post after.post
    (both eyes.post start.post runs.runs.last.post runs.last.post (rounds_on eyes start runs.runs.rounds runs.runs.last runs.runs.goes_on) (round_of eyes runs.runs.last runs.last (Some runs.end) runs.runs.ends))
    (finishes_up eyes.post runs.end runs.last.core runs.last.post after.core after.post t runs.finishes)
