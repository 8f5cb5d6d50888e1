-- Each entry of a run is of links, and each that says that a link is lost has its cause.
use Rattle.std.proofs.Common.{◌≡◌, ℕ, Bool, true, false, Option, Some, None, Result, Ok, Err, List, [], ◌∷◌, ◌++◌, inl, inr, ap, subst}
use Rattle.std.proofs.lemmas.List.Elements.{All-from_recursion}
use Rattle.grpc_base.specs.Counts.{one_more}
use Rattle.grpc_base.specs.declared.event.Event.{Event}
use Rattle.grpc_base.specs.declared.event.Event.TheVariants as event
use Rattle.grpc_base.specs.declared.event.Reply.{Reply}
use Rattle.grpc_base.specs.declared.post.PostError.{PostError}
use Rattle.grpc_base.specs.declared.tender.Tend.{Tend}
use Rattle.grpc_base.specs.declared.tender.Tend.TheVariants as tend
use Rattle.live_pump.specs.Dials.{AfterTakeDial, DialerSeen, Dials, DialsIf, TurnSeen, sub_of}
use Rattle.live_pump.specs.Kinds.{AddsOnly, IsOfLinks}
use Rattle.live_pump.specs.Pumps.{AfterDrain, HandleSeen, PostsNothing, PostsOne, PumpsIn, PumpsOut, drained_of}
use Rattle.live_pump.specs.Runs.{Asks, DialsLink, Eyes, HasCause, IsCaused, IsLossOf, PumpsLink, RoundOf, RoundsOn, RunsTo, Site, Stand, Ticks, TurnsLinks}
use Rattle.live_pump.specs.Ticks.{TicksIfDue}
use Rattle.live_pump.specs.Workers.{TendsTo}
use Rattle.live_pump.specs.declared.link_turn.OpenLink.{OpenLink}
use Rattle.live_pump.specs.declared.pumped.Pumped.{Pumped}
use Rattle.live_pump.proofs.KindLaws.{adds_none, adds_one, adds_then, adds_weaker}

-- an event that is posted is of links, and has its cause where it says that one is lost
abbrev Explains : {P T I O : Type 0} → Eyes P T I O → Event → Type 0
Explains eyes e = IsOfLinks e × ((link : ℕ) → e ≡ event.LinkLost link → IsLossOf eyes link)

-- such entries were made
abbrev Makes : {P T I O : Type 0} → Eyes P T I O → HandleSeen → HandleSeen → Type 0
Makes eyes before after = AddsOnly (Explains eyes) before.made after.made

none : {P T I O : Type 0} (eyes : Eyes P T I O) (before after : HandleSeen) → PostsNothing before after → Makes eyes before after
none eyes before after nothing = adds_none (Explains eyes) before.made after.made nothing.made

same : {P T I O : Type 0} (eyes : Eyes P T I O) (before after : HandleSeen) → after ≡ before → Makes eyes before after
same eyes before after is = adds_none (Explains eyes) before.made after.made (ap (λ (h : HandleSeen). h.made) is)

one : {P T I O : Type 0} (eyes : Eyes P T I O) (e : Event) (before after : HandleSeen) (came : Result Reply PostError) → Explains eyes e → PostsOne e before after came → Makes eyes before after
one eyes e before after (Ok r) explained posted = adds_one (Explains eyes) e before.made after.made r explained posted.made.0
one eyes e before after (Err x) explained posted = adds_none (Explains eyes) before.made after.made posted.made.0

then_too : {P T I O : Type 0} (eyes : Eyes P T I O) (a b c : HandleSeen) → Makes eyes a b → Makes eyes b c → Makes eyes a c
then_too eyes a b c first later = adds_then (Explains eyes) a.made b.made c.made first later

reads : {P T I O : Type 0} (eyes : Eyes P T I O) (link : ℕ) (i i_after : I) (before after : HandleSeen) (result : Pumped) → PumpsIn link (eyes.input i) (eyes.input i_after) before after result → Makes eyes before after
reads eyes link i i_after before after result (inl quiet) = none eyes before after quiet.1
reads eyes link i i_after before after result (inr (inl (piece, gives, inl posts))) =
    one eyes (event.Arrived link piece) before after posts.0 (tt, λ l is. absurd (let no : ⊥ = (cc) in no)) posts.1
reads eyes link i i_after before after result (inr (inl (piece, gives, inr wants))) = none eyes before after wants.0
reads eyes link i i_after before after result (inr (inr (over, posts))) = one eyes (event.LinkLost link) before after posts.0 (tt, λ l is. inl (i, i_after, over)) posts.1

writes : {P T I O : Type 0} (eyes : Eyes P T I O) (link : ℕ) (d : Result (List ℕ) Pumped) (o o_after : O) (before after : HandleSeen) (result : Pumped) → AfterDrain link d (eyes.output o) (eyes.output o_after) before after result → Makes eyes before after
writes eyes link (Ok piece) o o_after before after result (inl whole) = none eyes before after whole.1
writes eyes link (Ok piece) o o_after before after result (inr (cut, posts)) = one eyes (event.LinkLost link) before after posts.0 (tt, λ l is. inr (inl (piece, o, o_after, cut))) posts.1
writes eyes link (Err answer) o o_after before after result left = none eyes before after left.1

drains : {P T I O : Type 0} (eyes : Eyes P T I O) (link : ℕ) (can : Bool) (o o_after : O) (before after : HandleSeen) (result : Pumped) → PumpsOut link can (eyes.output o) (eyes.output o_after) before after result → Makes eyes before after
drains eyes link false o o_after before after result left = none eyes before after left.1
drains eyes link true o o_after before after result (drained, came, posted, written) =
    then_too eyes before drained after
    (one eyes (event.Drain link 65536) before drained came (tt, λ l is. absurd (let no : ⊥ = (cc) in no)) posted)
    (writes eyes link (drained_of came) o o_after drained after result written)

tends : {P T I O : Type 0} (eyes : Eyes P T I O) (link moment : ℕ) (said : Tend) (t t_after : T) (before after : HandleSeen) (result : Pumped)
    → eyes.tender t_after ≡ record { turns = one_more (eyes.tender t).turns; last = Some (record { link = link; moment = moment; answer = said }) } → TendsTo link said before after result → Makes eyes before after
tends eyes link moment tend.Nothing t t_after before after result asked nothing = none eyes before after nothing.0
tends eyes link moment (tend.Ping word) t t_after before after result asked posts = one eyes (event.Ping link word) before after posts.0 (tt, λ l is. absurd (let no : ⊥ = (cc) in no)) posts.1
tends eyes link moment tend.Lost t t_after before after result asked posts =
    one eyes (event.LinkLost link) before after posts.0 (tt, λ l is. subst (λ (n : ℕ). IsLossOf eyes n) (let same_link : link ≡ l = (cc) in same_link) (inr (inr (t, t_after, moment, asked)))) posts.1

-- a turn of a link
asks : {P T I O : Type 0} (eyes : Eyes P T I O) (link : ℕ) (before : P) (t : T) (after : P) (t_after : T) (answer : Pumped) → Asks eyes link before t after t_after answer → Makes eyes (eyes.handle before) (eyes.handle after)
asks eyes link before t after t_after answer asked = tends eyes link asked.0 asked.1 t t_after (eyes.handle before) (eyes.handle after) answer asked.2 asked.3

pumps : {P T I O : Type 0} (eyes : Eyes P T I O) (before : Site P T) (link : OpenLink I O) (after : Site P T) (link_after : OpenLink I O) (answer : Pumped) → PumpsLink eyes before link after link_after answer → Makes eyes (eyes.handle before.post) (eyes.handle after.post)
pumps eyes before link after link_after answer (inl w) = drains eyes link.link w.writes.0 link.output link_after.output (eyes.handle before.post) (eyes.handle after.post) answer w.writes.2
pumps eyes before link after link_after answer (inr (inl r)) =
    then_too eyes (eyes.handle before.post) (eyes.handle r.wrote) (eyes.handle after.post)
    (drains eyes link.link r.writes.0 link.output link_after.output (eyes.handle before.post) (eyes.handle r.wrote) _ r.writes.2)
    (reads eyes link.link link.input link_after.input (eyes.handle r.wrote) (eyes.handle after.post) answer r.reads)
pumps eyes before link after link_after answer (inr (inr w)) =
    then_too eyes (eyes.handle before.post) (eyes.handle w.wrote) (eyes.handle after.post)
    (drains eyes link.link w.writes.0 link.output link_after.output (eyes.handle before.post) (eyes.handle w.wrote) _ w.writes.2)
    (then_too eyes (eyes.handle w.wrote) (eyes.handle w.read) (eyes.handle after.post)
    (reads eyes link.link link.input link_after.input (eyes.handle w.wrote) (eyes.handle w.read) _ w.reads)
    (asks eyes link.link w.read w.reported after.post after.tender answer w.asks))

turns : {P T I O : Type 0} (eyes : Eyes P T I O) (kept links : List (OpenLink I O)) (before after : Site P T) (left : List (OpenLink I O)) (end : Option PostError) → TurnsLinks eyes kept before links after left end → Makes eyes (eyes.handle before.post) (eyes.handle after.post)
turns {P} {T} eyes kept [] before after left end done = same eyes (eyes.handle before.post) (eyes.handle after.post) (ap (λ (s : Site P T). eyes.handle s.post) done.0)
turns eyes kept (link ∷ links) before after left end (next, turned, answer, turn, inl (is, later)) =
    then_too eyes (eyes.handle before.post) (eyes.handle next.post) (eyes.handle after.post) (pumps eyes before link next turn.0 answer turn.1) (turns eyes (kept ++ turned ∷ []) links next after left end later)
turns eyes kept (link ∷ links) before after left end (next, turned, answer, turn, inr (inl (is, later))) =
    then_too eyes (eyes.handle before.post) (eyes.handle next.post) (eyes.handle after.post) (pumps eyes before link next turn.0 answer turn.1) (turns eyes kept links next after left end later)
turns {P} {T} eyes kept (link ∷ links) before after left end (next, turned, answer, turn, inr (inr ended)) =
    then_too eyes (eyes.handle before.post) (eyes.handle next.post) (eyes.handle after.post) (pumps eyes before link next turn.0 answer turn.1)
    (same eyes (eyes.handle next.post) (eyes.handle after.post) (ap (λ (s : Site P T). eyes.handle s.post) ended.2))

-- a turn of dialling
dialled : {P T I O : Type 0} (eyes : Eyes P T I O) (sub : ℕ) (d d_after : DialerSeen) (before after : HandleSeen) (answer : TurnSeen) → Dials sub d d_after before after answer → Makes eyes before after
dialled eyes sub d d_after before after answer (inl up) = one eyes (event.LinkUp sub) before after up.1 (tt, λ l is. absurd (let no : ⊥ = (cc) in no)) up.3
dialled eyes sub d d_after before after answer (inr down) = one eyes (event.DialFailed sub) before after down.0 (tt, λ l is. absurd (let no : ⊥ = (cc) in no)) down.2

taken : {P T I O : Type 0} (eyes : Eyes P T I O) (sub : Option ℕ) (came : Result Reply PostError) (d d_after : DialerSeen) (before after : HandleSeen) (answer : TurnSeen) → AfterTakeDial sub came d d_after before after answer → Makes eyes before after
taken eyes (Some sub) came d d_after before after answer dials = dialled eyes sub d d_after before after answer dials
taken eyes None came d d_after before after answer idle = none eyes before after idle.1

dials_if : {P T I O : Type 0} (eyes : Eyes P T I O) (wanted : Bool) (d d_after : DialerSeen) (before after : HandleSeen) (answer : TurnSeen) → DialsIf wanted d d_after before after answer → Makes eyes before after
dials_if eyes false d d_after before after answer idle = none eyes before after idle.1
dials_if eyes true d d_after before after answer (gave, came, posted, dials) =
    then_too eyes before gave after (one eyes event.TakeDial before gave came (tt, λ l is. absurd (let no : ⊥ = (cc) in no)) posted) (taken eyes (sub_of came) came d d_after gave after answer dials)

dials : {P T N I O : Type 0} (eyes : Eyes P T I O) (sees : N → DialerSeen) (before after : Stand P T N I O) (end : Option PostError) → DialsLink eyes sees before after end → Makes eyes (eyes.handle before.site.post) (eyes.handle after.site.post)
dials eyes sees before after end d = dials_if eyes d.view.dialable (sees before.dialer) (sees after.dialer) (eyes.handle before.site.post) (eyes.handle after.site.post) _ d.dials

-- a tick
ticks_if : {P T I O : Type 0} (eyes : Eyes P T I O) (next : Option ℕ) (moment : ℕ) (before after : HandleSeen) (came : Result Bool PostError) → TicksIfDue next moment before after came → Makes eyes before after
ticks_if eyes next moment before after (Ok true) ticked = one eyes event.Tick before after (Ok ticked.1) (tt, λ l is. absurd (let no : ⊥ = (cc) in no)) ticked.2
ticks_if eyes next moment before after (Ok false) idle = none eyes before after idle.1
ticks_if eyes next moment before after (Err e) failed = one eyes event.Tick before after (Err e) (tt, λ l is. absurd (let no : ⊥ = (cc) in no)) failed.1

ticks : {P T I O : Type 0} (eyes : Eyes P T I O) (may_give : ℕ → Type 0) (before after : P) (end : Option Pumped) → Ticks eyes may_give before after end → Makes eyes (eyes.handle before) (eyes.handle after)
ticks eyes may_give before after end t = ticks_if eyes t.0.next t.1 (eyes.handle before) (eyes.handle after) t.2 t.5

-- a round
round : {P T N I O : Type 0} (eyes : Eyes P T I O) (sees : N → DialerSeen) (may_give : ℕ → Type 0) (before after : Stand P T N I O) (end : Option Pumped) → RoundOf eyes sees may_give before after end → Makes eyes (eyes.handle before.site.post) (eyes.handle after.site.post)
round eyes sees may_give before after end (inl r) = same eyes (eyes.handle before.site.post) (eyes.handle after.site.post) r.looks.handle
round eyes sees may_give before after end (inr (inl r)) =
    then_too eyes (eyes.handle before.site.post) (eyes.handle r.looked) (eyes.handle after.site.post) (same eyes (eyes.handle before.site.post) (eyes.handle r.looked) r.looks.handle) (dials eyes sees _ after _ r.dials)
round eyes sees may_give before after end (inr (inr (inl r))) =
    then_too eyes (eyes.handle before.site.post) (eyes.handle r.looked) (eyes.handle after.site.post) (same eyes (eyes.handle before.site.post) (eyes.handle r.looked) r.looks.handle)
    (then_too eyes (eyes.handle r.looked) (eyes.handle r.dialled.site.post) (eyes.handle after.site.post) (dials eyes sees _ r.dialled _ r.dials) (turns eyes [] r.dialled.links r.dialled.site after.site after.links _ r.turns))
round eyes sees may_give before after end (inr (inr (inr r))) =
    then_too eyes (eyes.handle before.site.post) (eyes.handle r.looked) (eyes.handle after.site.post) (same eyes (eyes.handle before.site.post) (eyes.handle r.looked) r.looks.handle)
    (then_too eyes (eyes.handle r.looked) (eyes.handle r.dialled.site.post) (eyes.handle after.site.post) (dials eyes sees _ r.dialled _ r.dials)
    (then_too eyes (eyes.handle r.dialled.site.post) (eyes.handle r.turned.post) (eyes.handle after.site.post)
    (turns eyes [] r.dialled.links r.dialled.site r.turned after.links _ r.turns)
    (ticks eyes may_give r.turned.post after.site.post end r.ticks)))

rounds : {P T N I O : Type 0} (eyes : Eyes P T I O) (sees : N → DialerSeen) (may_give : ℕ → Type 0) (start : Stand P T N I O) (on : List (Stand P T N I O)) (last : Stand P T N I O) → RoundsOn eyes sees may_give start on last → Makes eyes (eyes.handle start.site.post) (eyes.handle last.site.post)
rounds {P} {T} {N} {I} {O} eyes sees may_give start [] last done = same eyes (eyes.handle start.site.post) (eyes.handle last.site.post) (ap (λ (s : Stand P T N I O). eyes.handle s.site.post) done)
rounds eyes sees may_give start (next ∷ later) last (first, on) =
    then_too eyes (eyes.handle start.site.post) (eyes.handle next.site.post) (eyes.handle last.site.post) (round eyes sees may_give start next None first) (rounds eyes sees may_give next later last on)

makes : {P T N I O : Type 0} (eyes : Eyes P T I O) (sees : N → DialerSeen) (may_give : ℕ → Type 0) (start : Stand P T N I O) (site : Site P T) (dialer : N) (end : Pumped) → RunsTo eyes sees may_give start site dialer end → Makes eyes (eyes.handle start.site.post) (eyes.handle site.post)
makes eyes sees may_give start site dialer end run =
    then_too eyes (eyes.handle start.site.post) (eyes.handle run.runs.last.site.post) (eyes.handle site.post)
    (rounds eyes sees may_give start run.runs.rounds run.runs.last run.runs.goes_on)
    (round eyes sees may_give run.runs.last _ _ run.runs.ends)

pub run_causes : {P T N I O : Type 0} (eyes : Eyes P T I O) (sees : N → DialerSeen) (may_give : ℕ → Type 0) (start : Stand P T N I O) (site : Site P T) (dialer : N) (end : Pumped) → RunsTo eyes sees may_give start site dialer end → IsCaused eyes (eyes.handle start.site.post) (eyes.handle site.post)
run_causes eyes sees may_give start site dialer end run =
    let adds = adds_weaker (Explains eyes) (λ e. (link : ℕ) → e ≡ event.LinkLost link → IsLossOf eyes link) (λ e is. is.1) (eyes.handle start.site.post).made (eyes.handle site.post).made (makes eyes sees may_give start site dialer end run) in
    record { more = adds.added; made = adds.made; causes = All-from_recursion (HasCause eyes) adds.added adds.each }

pub run_kinds : {P T N I O : Type 0} (eyes : Eyes P T I O) (sees : N → DialerSeen) (may_give : ℕ → Type 0) (start : Stand P T N I O) (site : Site P T) (dialer : N) (end : Pumped) → RunsTo eyes sees may_give start site dialer end → AddsOnly IsOfLinks (eyes.handle start.site.post).made (eyes.handle site.post).made
run_kinds eyes sees may_give start site dialer end run =
    adds_weaker (Explains eyes) IsOfLinks (λ e is. is.0) (eyes.handle start.site.post).made (eyes.handle site.post).made (makes eyes sees may_give start site dialer end run)
