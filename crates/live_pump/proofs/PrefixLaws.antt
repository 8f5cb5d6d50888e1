-- What the entries of a run say of each link that was opened once: what came is a prefix of what its dialer held.
use Rattle.std.proofs.Common.{◌≡◌, ℕ, Bool, true, false, ◌==◌, if◌then◌else◌, Option, Some, None, Result, Ok, Err, List, [], ◌∷◌, ◌++◌, drop, inl, inr, refl, sym, ap, subst, ◌∙◌, append_assoc, append-nil, true≢false}
use Rattle.std.specs.Prelude.{◌⊎◌}
use Rattle.std.specs.List.{fold}
use Rattle.std.proofs.lemmas.List.Sums.{fold-append}
use Rattle.gate_io.specs.Links.{TakesLink}
use Rattle.gate_io.specs.Outside.{Takes}
use Rattle.grpc_base.specs.declared.event.Entry.{Entry}
use Rattle.grpc_base.specs.declared.event.Event.{Event}
use Rattle.grpc_base.specs.declared.event.Event.TheVariants as event
use Rattle.grpc_base.specs.declared.event.Reply.{Reply}
use Rattle.grpc_base.specs.declared.event.Reply.TheVariants as reply
use Rattle.grpc_base.specs.declared.post.PostError.{PostError}
use Rattle.grpc_base.specs.declared.tender.Tend.{Tend}
use Rattle.grpc_base.specs.declared.tender.Tend.TheVariants as tend
use Rattle.live_pump.specs.Dials.{AfterTakeDial, DialerSeen, Dials, DialsIf, Failed, Gone, Nothing, Opened as OpenedTurn, Refused, TurnSeen, down_answer, idle_answer, sub_of, turn_of, up_answer}
use Rattle.live_pump.specs.Prefixes.{ArrivesBefore, IsPrefix, Report, Unopened, opened, reported_by, reported_event, reported_up}
use Rattle.live_pump.specs.Pumps.{AfterDrain, HandleSeen, OutSeen, PostsOne, PumpsIn, PumpsOut, answer_of, drained_of}
use Rattle.live_pump.specs.Runs.{ClosesUnless, DialsLink, Eyes, KeepsDialled, PumpsLink, RoundOf, RoundsOn, RunsTo, Site, Stand, TurnsLinks, is_given_up, looked_at}
use Rattle.live_pump.specs.Ticks.{TicksIfDue}
use Rattle.live_pump.specs.Workers.{TendsTo, is_going, is_quiet}
use Rattle.live_pump.specs.declared.dial.DialTurn.{DialTurn}
use Rattle.live_pump.specs.declared.dial.DialTurn.TheVariants as turn
use Rattle.live_pump.specs.declared.link_turn.OpenLink.{OpenLink}
use Rattle.live_pump.specs.declared.pumped.Pumped.{Pumped}
use Rattle.live_pump.specs.declared.pumped.Pumped.TheVariants as pumped
use Rattle.live_pump.proofs.PrefixLists.{Fits, fits_gone, fits_kept, fits_opened, fits_read, prefix}

-- what the entries that were made lead from and to, for each number
record Comes (A B : ℕ → Report → Type 0) (before after : HandleSeen) : Type 0 where
  more : List Entry
  made : after.made ≡ before.made ++ more
  comes : (n : ℕ) (t : Report) → A n t → B n (fold (reported_by n) t more)

none : (A : ℕ → Report → Type 0) (before after : HandleSeen) → after.made ≡ before.made → Comes A A before after
none A before after is = record { more = []; made = is ∙ sym (append-nil before.made); comes = λ n t a. a }

weaker : (A B C : ℕ → Report → Type 0) (before after : HandleSeen) → ((n : ℕ) (t : Report) → B n t → C n t) → Comes A B before after → Comes A C before after
weaker A B C before after leads c = record { more = c.more; made = c.made; comes = λ n t a. leads n (fold (reported_by n) t c.more) (c.comes n t a) }

then_too : (A B C : ℕ → Report → Type 0) (a b c : HandleSeen) → Comes A B a b → Comes B C b c → Comes A C a c
then_too A B C a b c first later = record {
  more = first.more ++ later.more;
  made = later.made ∙ ap (λ (l : List Entry). l ++ later.more) first.made ∙ append_assoc a.made first.more later.more;
  comes = λ n t x. subst (λ (s : Report). C n s) (sym (fold-append (reported_by n) t first.more later.more)) (later.comes n (fold (reported_by n) t first.more) (first.comes n t x));
}

-- an entry of this event, whatever it is answered
abbrev Leads : (ℕ → Report → Type 0) → (ℕ → Report → Type 0) → Event → Type 0
Leads A B e = (n : ℕ) (t : Report) (r : Reply) → A n t → B n (reported_event n e r t)

-- an entry of this event with this reply
one_as : (A B : ℕ → Report → Type 0) (e : Event) (before after : HandleSeen) (r : Reply) → ((n : ℕ) (t : Report) → A n t → B n (reported_event n e r t)) → PostsOne e before after (Ok r) → Comes A B before after
one_as A B e before after r leads posted =
    let adds = posted.made.0 in record {
      more = adds.0 ∷ [];
      made = adds.1;
      comes = λ n t a. subst (λ (y : Reply). B n (reported_event n adds.0.event y t)) (sym adds.3) (subst (λ (x : Event). B n (reported_event n x r t)) (sym adds.2) (leads n t a));
    }

one : (A B : ℕ → Report → Type 0) (e : Event) (before after : HandleSeen) (r : Reply) → Leads A B e → PostsOne e before after (Ok r) → Comes A B before after
one A B e before after r leads posted = one_as A B e before after r (λ n t a. leads n t r a) posted

-- an event that says nothing of links
still : (A : ℕ → Report → Type 0) (e : Event) (before after : HandleSeen) (came : Result Reply PostError) → Leads A A e → PostsOne e before after came → Comes A A before after
still A e before after (Ok r) leads posted = one A A e before after r leads posted
still A e before after (Err x) leads posted = none A before after posted.made.0

-- where the links stand that are kept open
record At {I O : Type 0} (D : List (List ℕ) → Type 0) (left : I → Option (List ℕ)) (ks : List (OpenLink I O)) (n : ℕ) (t : Report) : Type 0 where
  coming : D t.coming
  fits : Fits left n ks t.link_history

abbrev Prefixes : ℕ → Report → Type 0
Prefixes n t = IsPrefix t.link_history

at_prefix : {I O : Type 0} (D : List (List ℕ) → Type 0) (left : I → Option (List ℕ)) (ks : List (OpenLink I O)) (n : ℕ) (t : Report) → At D left ks n t → Prefixes n t
at_prefix D left ks n t at = prefix left n ks t.link_history at.fits

at_kept : {I O : Type 0} (D : List (List ℕ) → Type 0) (left : I → Option (List ℕ)) (before : List (OpenLink I O)) (k k2 : OpenLink I O) (after : List (OpenLink I O)) → k2.link ≡ k.link → left k2.input ≡ left k.input
    → (n : ℕ) (t : Report) → At D left (before ++ k ∷ after) n t → At D left (before ++ k2 ∷ after) n t
at_kept D left before k k2 after same still_left n t at = record { coming = at.coming; fits = fits_kept left n before k k2 after t.link_history same still_left at.fits }

-- after a part of a link's turn: unless a post failed, the links stand so
abbrev Turned : {I O : Type 0} → (List (List ℕ) → Type 0) → (I → Option (List ℕ)) → List (OpenLink I O) → Pumped → ℕ → Report → Type 0
Turned D left ks answer n t = At D left ks n t ⊎ ((is_quiet answer ≡ false) × IsPrefix t.link_history)

turned_on : {I O : Type 0} (D : List (List ℕ) → Type 0) (left : I → Option (List ℕ)) (ks : List (OpenLink I O)) (answer : Pumped) → is_quiet answer ≡ true → (n : ℕ) (t : Report) → Turned D left ks answer n t → At D left ks n t
turned_on D left ks answer is n t (inl at) = at
turned_on D left ks answer is n t (inr failed) = absurd (true≢false (sym is ∙ failed.0))

turned_prefix : {I O : Type 0} (D : List (List ℕ) → Type 0) (left : I → Option (List ℕ)) (ks : List (OpenLink I O)) (answer : Pumped) (n : ℕ) (t : Report) → Turned D left ks answer n t → Prefixes n t
turned_prefix D left ks answer n t (inl at) = at_prefix D left ks n t at
turned_prefix D left ks answer n t (inr failed) = failed.1

-- a read of a link
read_posts : {I O : Type 0} (D : List (List ℕ) → Type 0) (left : I → Option (List ℕ)) (b : List (OpenLink I O)) (k k2 : OpenLink I O) (a : List (OpenLink I O)) (piece : List ℕ) (before after : HandleSeen) (answer : Pumped) (came : Result Reply PostError)
    → k2.link ≡ k.link → Takes (left k.input) (left k2.input) piece → PostsOne (event.Arrived k.link piece) before after came → answer ≡ answer_of pumped.Going came
    → Comes (At D left (b ++ k ∷ a)) (Turned D left (b ++ k2 ∷ a) answer) before after
read_posts D left b k k2 a piece before after answer (Ok r) same takes posted is =
    one (At D left (b ++ k ∷ a)) (Turned D left (b ++ k2 ∷ a) answer) (event.Arrived k.link piece) before after r
    (λ n t y at. inl (record { coming = at.coming; fits = fits_read left n b k k2 a piece t.link_history same takes at.fits })) posted
read_posts D left b k k2 a piece before after answer (Err x) same takes posted is =
    weaker (At D left (b ++ k ∷ a)) (At D left (b ++ k ∷ a)) (Turned D left (b ++ k2 ∷ a) answer) before after
    (λ n t at. inr (ap is_quiet is, at_prefix D left (b ++ k ∷ a) n t at)) (none (At D left (b ++ k ∷ a)) before after posted.made.0)

reads : {P T I O : Type 0} (D : List (List ℕ) → Type 0) (eyes : Eyes P T I O) (b : List (OpenLink I O)) (k k2 : OpenLink I O) (a : List (OpenLink I O)) (before after : HandleSeen) (answer : Pumped)
    → k2.link ≡ k.link → PumpsIn k.link (eyes.input k.input) (eyes.input k2.input) before after answer
    → Comes (At D (λ i. (eyes.input i).left) (b ++ k ∷ a)) (Turned D (λ i. (eyes.input i).left) (b ++ k2 ∷ a) answer) before after
reads {P} {T} {I} {O} D eyes b k k2 a before after answer same pumped_in = by_read pumped_in
  where
    left : I → Option (List ℕ)
    left i = (eyes.input i).left

    goes : (left k2.input ≡ left k.input) → (n : ℕ) (t : Report) → At D left (b ++ k ∷ a) n t → Turned D left (b ++ k2 ∷ a) answer n t
    goes still_left n t at = inl (at_kept D left b k k2 a same still_left n t at)

    by_read : PumpsIn k.link (eyes.input k.input) (eyes.input k2.input) before after answer → Comes (At D left (b ++ k ∷ a)) (Turned D left (b ++ k2 ∷ a) answer) before after
    by_read (inl quiet) = weaker (At D left (b ++ k ∷ a)) (At D left (b ++ k ∷ a)) (Turned D left (b ++ k2 ∷ a) answer) before after (goes quiet.0.left) (none (At D left (b ++ k ∷ a)) before after quiet.1.made)
    by_read (inr (inl (piece, gives, inl posts))) = read_posts D left b k k2 a piece before after answer posts.0 same gives.left posts.1 posts.2
    by_read (inr (inl (piece, gives, inr wants))) =
        weaker (At D left (b ++ k ∷ a)) (At D left (b ++ k ∷ a)) (Turned D left (b ++ k2 ∷ a) answer) before after
        (λ n t at. inr (ap is_quiet wants.1, at_prefix D left (b ++ k ∷ a) n t at)) (none (At D left (b ++ k ∷ a)) before after wants.0.made)
    by_read (inr (inr (over, posts))) =
        weaker (At D left (b ++ k ∷ a)) (At D left (b ++ k ∷ a)) (Turned D left (b ++ k2 ∷ a) answer) before after (goes over.left)
        (still (At D left (b ++ k ∷ a)) (event.LinkLost k.link) before after posts.0 (λ n t r x. x) posts.1)

-- the other parts of a link's turn say nothing of what came
writes : (A : ℕ → Report → Type 0) (link : ℕ) (d : Result (List ℕ) Pumped) (o o_after : OutSeen) (before after : HandleSeen) (answer : Pumped) → AfterDrain link d o o_after before after answer → Comes A A before after
writes A link (Ok piece) o o_after before after answer (inl whole) = none A before after whole.1.made
writes A link (Ok piece) o o_after before after answer (inr (cut, posts)) = still A (event.LinkLost link) before after posts.0 (λ n t r x. x) posts.1
writes A link (Err e) o o_after before after answer left = none A before after left.1.made

drains : (A : ℕ → Report → Type 0) (link : ℕ) (can : Bool) (o o_after : OutSeen) (before after : HandleSeen) (answer : Pumped) → PumpsOut link can o o_after before after answer → Comes A A before after
drains A link false o o_after before after answer left = none A before after left.1.made
drains A link true o o_after before after answer (drained, came, posted, written) =
    then_too A A A before drained after (still A (event.Drain link 65536) before drained came (λ n t r x. x) posted) (writes A link (drained_of came) o o_after drained after answer written)

tends : (A : ℕ → Report → Type 0) (link : ℕ) (said : Tend) (before after : HandleSeen) (answer : Pumped) → TendsTo link said before after answer → Comes A A before after
tends A link tend.Nothing before after answer nothing = none A before after nothing.0.made
tends A link (tend.Ping word) before after answer posts = still A (event.Ping link word) before after posts.0 (λ n t r x. x) posts.1
tends A link tend.Lost before after answer posts = still A (event.LinkLost link) before after posts.0 (λ n t r x. x) posts.1

-- a turn of a link
pumps : {P T I O : Type 0} (D : List (List ℕ) → Type 0) (eyes : Eyes P T I O) (b : List (OpenLink I O)) (before : Site P T) (k : OpenLink I O) (after : Site P T) (k2 : OpenLink I O) (a : List (OpenLink I O)) (answer : Pumped) → PumpsLink eyes before k after k2 answer
    → Comes (At D (λ i. (eyes.input i).left) (b ++ k ∷ a)) (Turned D (λ i. (eyes.input i).left) (b ++ k2 ∷ a) answer) (eyes.handle before.post) (eyes.handle after.post)
pumps {P} {T} {I} {O} D eyes b before k after k2 a answer pumped_link = by_end pumped_link
  where
    left : I → Option (List ℕ)
    left i = (eyes.input i).left

    by_end : PumpsLink eyes before k after k2 answer → Comes (At D left (b ++ k ∷ a)) (Turned D left (b ++ k2 ∷ a) answer) (eyes.handle before.post) (eyes.handle after.post)
    by_end (inl w) =
        weaker (At D left (b ++ k ∷ a)) (At D left (b ++ k ∷ a)) (Turned D left (b ++ k2 ∷ a) answer) (eyes.handle before.post) (eyes.handle after.post)
        (λ n t at. inl (at_kept D left b k k2 a w.number (ap left w.input) n t at))
        (drains (At D left (b ++ k ∷ a)) k.link w.writes.0 (eyes.output k.output) (eyes.output k2.output) (eyes.handle before.post) (eyes.handle after.post) answer w.writes.2)
    by_end (inr (inl r)) =
        then_too (At D left (b ++ k ∷ a)) (At D left (b ++ k ∷ a)) (Turned D left (b ++ k2 ∷ a) answer) (eyes.handle before.post) (eyes.handle r.wrote) (eyes.handle after.post)
        (drains (At D left (b ++ k ∷ a)) k.link r.writes.0 (eyes.output k.output) (eyes.output k2.output) (eyes.handle before.post) (eyes.handle r.wrote) pumped.Going r.writes.2)
        (reads D eyes b k k2 a (eyes.handle r.wrote) (eyes.handle after.post) answer r.number r.reads)
    by_end (inr (inr w)) =
        then_too (At D left (b ++ k ∷ a)) (At D left (b ++ k ∷ a)) (Turned D left (b ++ k2 ∷ a) answer) (eyes.handle before.post) (eyes.handle w.wrote) (eyes.handle after.post)
        (drains (At D left (b ++ k ∷ a)) k.link w.writes.0 (eyes.output k.output) (eyes.output k2.output) (eyes.handle before.post) (eyes.handle w.wrote) pumped.Going w.writes.2)
        (then_too (At D left (b ++ k ∷ a)) (Turned D left (b ++ k2 ∷ a) answer) (Turned D left (b ++ k2 ∷ a) answer) (eyes.handle w.wrote) (eyes.handle w.read) (eyes.handle after.post)
        (weaker (At D left (b ++ k ∷ a)) (Turned D left (b ++ k2 ∷ a) pumped.Going) (Turned D left (b ++ k2 ∷ a) answer) (eyes.handle w.wrote) (eyes.handle w.read)
        (λ n t x. inl (turned_on D left (b ++ k2 ∷ a) pumped.Going refl n t x)) (reads D eyes b k k2 a (eyes.handle w.wrote) (eyes.handle w.read) pumped.Going w.number w.reads))
        (tends (Turned D left (b ++ k2 ∷ a) answer) k.link w.asks.1 (eyes.handle w.read) (eyes.handle after.post) answer w.asks.3))

-- a link that is closed, or not, is that very link
record IsSame {I O : Type 0} (k k2 : OpenLink I O) : Type 0 where
  number : k2.link ≡ k.link
  input : k2.input ≡ k.input

closes : {I O : Type 0} (sees : O → OutSeen) (is_closed : O → Bool) (on : Bool) (k k2 : OpenLink I O) → ClosesUnless sees is_closed on k k2 → IsSame k k2
closes {I} {O} sees is_closed true k k2 is = record { number = ap (λ (l : OpenLink I O). l.link) is; input = ap (λ (l : OpenLink I O). l.input) is }
closes sees is_closed false k k2 closed = record { number = closed.number; input = closed.input }

quiet_given_up : (answer : Pumped) → is_given_up answer ≡ true → is_quiet answer ≡ true
quiet_given_up pumped.Going is = refl
quiet_given_up pumped.Lost is = refl
quiet_given_up (pumped.Gone r) is = refl
quiet_given_up (pumped.Failed e) is = absurd (true≢false (sym is))
quiet_given_up pumped.Shut is = refl

-- after a part of a round: where it did not end the worker, the links stand so
abbrev Parted : {I O E : Type 0} → (List (List ℕ) → Type 0) → (I → Option (List ℕ)) → List (OpenLink I O) → Option E → ℕ → Report → Type 0
Parted D left ks None n t = At D left ks n t
Parted D left ks (Some e) n t = IsPrefix t.link_history

parted : {I O E : Type 0} (D : List (List ℕ) → Type 0) (left : I → Option (List ℕ)) (ks : List (OpenLink I O)) (end : Option E) (n : ℕ) (t : Report) → At D left ks n t → Parted D left ks end n t
parted D left ks None n t at = at
parted D left ks (Some e) n t at = at_prefix D left ks n t at

on : {I O E : Type 0} (A : ℕ → Report → Type 0) (D : List (List ℕ) → Type 0) (left : I → Option (List ℕ)) (ks : List (OpenLink I O)) (end : Option E) (before after : HandleSeen) → end ≡ None → Comes A (Parted D left ks end) before after → Comes A (At D left ks) before after
on {I} {O} {E} A D left ks end before after is c = weaker A (Parted D left ks end) (At D left ks) before after (λ n t x. subst (λ (e : Option E). Parted D left ks e n t) is x) c

turns : {P T I O : Type 0} (D : List (List ℕ) → Type 0) (eyes : Eyes P T I O) (kept links : List (OpenLink I O)) (before after : Site P T) (over : List (OpenLink I O)) (end : Option PostError) → TurnsLinks eyes kept before links after over end
    → Comes (At D (λ i. (eyes.input i).left) (kept ++ links)) (Parted D (λ i. (eyes.input i).left) over end) (eyes.handle before.post) (eyes.handle after.post)
turns {P} {T} {I} {O} D eyes kept [] before after over end done =
    weaker (At D (λ i. (eyes.input i).left) (kept ++ [])) (At D (λ i. (eyes.input i).left) (kept ++ [])) (Parted D (λ i. (eyes.input i).left) over end) (eyes.handle before.post) (eyes.handle after.post)
    (λ n t at. parted D (λ i. (eyes.input i).left) over end n t (subst (λ (ks : List (OpenLink I O)). At D (λ i. (eyes.input i).left) ks n t) (append-nil kept ∙ sym done.1) at))
    (none (At D (λ i. (eyes.input i).left) (kept ++ [])) (eyes.handle before.post) (eyes.handle after.post) (ap (λ (s : Site P T). (eyes.handle s.post).made) done.0))
turns {P} {T} {I} {O} D eyes kept (k ∷ links) before after over end (next, k2, answer, turn, inl (is, later)) =
    then_too (At D (λ i. (eyes.input i).left) (kept ++ k ∷ links)) (At D (λ i. (eyes.input i).left) ((kept ++ k2 ∷ []) ++ links)) (Parted D (λ i. (eyes.input i).left) over end) (eyes.handle before.post) (eyes.handle next.post) (eyes.handle after.post)
    (weaker (At D (λ i. (eyes.input i).left) (kept ++ k ∷ links)) (Turned D (λ i. (eyes.input i).left) (kept ++ turn.0 ∷ links) answer) (At D (λ i. (eyes.input i).left) ((kept ++ k2 ∷ []) ++ links)) (eyes.handle before.post) (eyes.handle next.post)
    (λ n t x. let same = closes eyes.output eyes.closed (is_going answer) turn.0 k2 turn.2 in
    subst (λ (ks : List (OpenLink I O)). At D (λ i. (eyes.input i).left) ks n t) (sym (append_assoc kept (k2 ∷ []) links))
    (at_kept D (λ i. (eyes.input i).left) kept turn.0 k2 links same.number (ap (λ (i : I). (eyes.input i).left) same.input) n t (turned_on D (λ i. (eyes.input i).left) (kept ++ turn.0 ∷ links) answer (ap is_quiet is) n t x)))
    (pumps D eyes kept before k next turn.0 links answer turn.1))
    (turns D eyes (kept ++ k2 ∷ []) links next after over end later)
turns {P} {T} {I} {O} D eyes kept (k ∷ links) before after over end (next, k2, answer, turn, inr (inl (is, later))) =
    then_too (At D (λ i. (eyes.input i).left) (kept ++ k ∷ links)) (At D (λ i. (eyes.input i).left) (kept ++ links)) (Parted D (λ i. (eyes.input i).left) over end) (eyes.handle before.post) (eyes.handle next.post) (eyes.handle after.post)
    (weaker (At D (λ i. (eyes.input i).left) (kept ++ k ∷ links)) (Turned D (λ i. (eyes.input i).left) (kept ++ turn.0 ∷ links) answer) (At D (λ i. (eyes.input i).left) (kept ++ links)) (eyes.handle before.post) (eyes.handle next.post)
    (λ n t x. let at = turned_on D (λ i. (eyes.input i).left) (kept ++ turn.0 ∷ links) answer (quiet_given_up answer is) n t x in
    record { coming = at.coming; fits = fits_gone (λ i. (eyes.input i).left) n kept turn.0 links t.link_history at.fits })
    (pumps D eyes kept before k next turn.0 links answer turn.1))
    (turns D eyes kept links next after over end later)
turns {P} {T} {I} {O} D eyes kept (k ∷ links) before after over end (next, k2, answer, turn, inr (inr ended)) =
    then_too (At D (λ i. (eyes.input i).left) (kept ++ k ∷ links)) Prefixes (Parted D (λ i. (eyes.input i).left) over end) (eyes.handle before.post) (eyes.handle next.post) (eyes.handle after.post)
    (weaker (At D (λ i. (eyes.input i).left) (kept ++ k ∷ links)) (Turned D (λ i. (eyes.input i).left) (kept ++ turn.0 ∷ links) answer) Prefixes (eyes.handle before.post) (eyes.handle next.post)
    (turned_prefix D (λ i. (eyes.input i).left) (kept ++ turn.0 ∷ links) answer) (pumps D eyes kept before k next turn.0 links answer turn.1))
    (weaker Prefixes Prefixes (Parted D (λ i. (eyes.input i).left) over end) (eyes.handle next.post) (eyes.handle after.post)
    (λ n t x. subst (λ (e : Option PostError). Parted D (λ i. (eyes.input i).left) over e n t) (sym ended.4) x)
    (none Prefixes (eyes.handle next.post) (eyes.handle after.post) (ap (λ (s : Site P T). (eyes.handle s.post).made) ended.2)))

-- a turn of dialling
abbrev is_open : TurnSeen → Bool
is_open (OpenedTurn link left) = true
is_open Nothing = false
is_open (Refused sub) = false
is_open (Gone r) = false
is_open (Failed e) = false

kept_shut : {I O : Type 0} (left : I → Option (List ℕ)) (sees : O → OutSeen) (is_closed : O → Bool) (turned : DialTurn I O) (links over : List (OpenLink I O)) (end : Option PostError)
    → is_open (turn_of left turned) ≡ false → KeepsDialled sees is_closed turned links over end → over ≡ links
kept_shut left sees is_closed turn.Nothing links over end shut keeps = keeps.0
kept_shut left sees is_closed (turn.Opened link input output) links over end shut keeps = absurd (true≢false shut)
kept_shut left sees is_closed (turn.Refused sub) links over end shut keeps = keeps.0
kept_shut left sees is_closed (turn.Gone r) links over end shut keeps = keeps.0
kept_shut left sees is_closed (turn.Failed e) links over end shut keeps = keeps.0

-- what a reply that is no link's number says
record IsNoLink (r : Reply) : Type 0 where
  reported : (n : ℕ) (t : Report) → reported_up n r t ≡ record { link_history = t.link_history; coming = drop 1 t.coming }
  shut : (left : Option (List ℕ)) → is_open (up_answer left (Ok r)) ≡ false

reply_is : (r : Reply) → ((l : ℕ) × (r ≡ reply.Link l)) ⊎ IsNoLink r
reply_is (reply.Call c) = inr (record { reported = λ n t. refl; shut = λ left. refl })
reply_is reply.Done = inr (record { reported = λ n t. refl; shut = λ left. refl })
reply_is (reply.Full h) = inr (record { reported = λ n t. refl; shut = λ left. refl })
reply_is (reply.Head m) = inr (record { reported = λ n t. refl; shut = λ left. refl })
reply_is (reply.Message m) = inr (record { reported = λ n t. refl; shut = λ left. refl })
reply_is (reply.End c x m e) = inr (record { reported = λ n t. refl; shut = λ left. refl })
reply_is reply.NotYet = inr (record { reported = λ n t. refl; shut = λ left. refl })
reply_is (reply.BadConfig f) = inr (record { reported = λ n t. refl; shut = λ left. refl })
reply_is (reply.Dial s a u) = inr (record { reported = λ n t. refl; shut = λ left. refl })
reply_is (reply.Link l) = inl (l, refl)
reply_is (reply.Octets o) = inr (record { reported = λ n t. refl; shut = λ left. refl })
reply_is (reply.Refused x) = inr (record { reported = λ n t. refl; shut = λ left. refl })

idle_shut : (came : Result Reply PostError) → is_open (idle_answer came) ≡ false
idle_shut (Ok (reply.Call c)) = refl
idle_shut (Ok reply.Done) = refl
idle_shut (Ok (reply.Full h)) = refl
idle_shut (Ok (reply.Head m)) = refl
idle_shut (Ok (reply.Message m)) = refl
idle_shut (Ok (reply.End c x m e)) = refl
idle_shut (Ok reply.NotYet) = refl
idle_shut (Ok (reply.BadConfig f)) = refl
idle_shut (Ok (reply.Dial s a u)) = refl
idle_shut (Ok (reply.Link l)) = refl
idle_shut (Ok (reply.Octets o)) = refl
idle_shut (Ok (reply.Refused x)) = refl
idle_shut (Err e) = refl

down_shut : (sub : ℕ) (came : Result Reply PostError) → is_open (down_answer sub came) ≡ false
down_shut sub (Ok (reply.Call c)) = refl
down_shut sub (Ok reply.Done) = refl
down_shut sub (Ok (reply.Full h)) = refl
down_shut sub (Ok (reply.Head m)) = refl
down_shut sub (Ok (reply.Message m)) = refl
down_shut sub (Ok (reply.End c x m e)) = refl
down_shut sub (Ok reply.NotYet) = refl
down_shut sub (Ok (reply.BadConfig f)) = refl
down_shut sub (Ok (reply.Dial s a u)) = refl
down_shut sub (Ok (reply.Link l)) = refl
down_shut sub (Ok (reply.Octets o)) = refl
down_shut sub (Ok (reply.Refused x)) = refl
down_shut sub (Err e) = refl

-- what a dialer still holds
abbrev Holds : DialerSeen → List (List ℕ) → Type 0
Holds d coming = d.coming ≡ Some coming

-- no link was opened
at_shut : {I O : Type 0} (left : I → Option (List ℕ)) (sees : O → OutSeen) (is_closed : O → Bool) (turned : DialTurn I O) (links over : List (OpenLink I O)) (end : Option PostError) (d d2 : DialerSeen)
    → is_open (turn_of left turned) ≡ false → KeepsDialled sees is_closed turned links over end → d2.coming ≡ d.coming
    → (n : ℕ) (t : Report) → At (Holds d) left links n t → Parted (Holds d2) left over end n t
at_shut {I} {O} left sees is_closed turned links over end d d2 shut keeps still_left n t at =
    parted (Holds d2) left over end n t
    (subst (λ (ks : List (OpenLink I O)). At (Holds d2) left ks n t) (sym (kept_shut left sees is_closed turned links over end shut keeps)) (record { coming = still_left ∙ at.coming; fits = at.fits }))

-- what a dial that opened took of what was held
record IsGiven (coming : List (List ℕ)) (d2 : DialerSeen) (left : Option (List ℕ)) : Type 0 where
  bytes : List ℕ
  later : List (List ℕ)
  is : left ≡ Some bytes
  coming_is : coming ≡ bytes ∷ later
  leaves : d2.coming ≡ Some later

given : (before after : Option (List (List ℕ))) (left : Option (List ℕ)) (coming : List (List ℕ)) (d2 : DialerSeen) → d2.coming ≡ after → TakesLink before after left → before ≡ Some coming → IsGiven coming d2 left
given (Some x) (Some y) (Some z) coming d2 after_is takes is = record { bytes = z; later = y; is = refl; coming_is = some_links x coming is ∙ takes; leaves = after_is }
  where
    some_links : (a b : List (List ℕ)) → Some a ≡ Some b → b ≡ a
    some_links a b same = (cc)
given (Some x) (Some y) None coming d2 after_is takes is = absurd takes
given (Some x) None (Some z) coming d2 after_is takes is = absurd takes
given (Some x) None None coming d2 after_is takes is = absurd takes
given None (Some y) (Some z) coming d2 after_is takes is = absurd takes
given None (Some y) None coming d2 after_is takes is = absurd takes
given None None left coming d2 after_is takes is = absurd (let no : ⊥ = (cc) in no)

-- what is kept of a link that was opened
up_keeps : {I O : Type 0} (left : I → Option (List ℕ)) (sees : O → OutSeen) (is_closed : O → Bool) (link : ℕ) (input : I) (output : O) (links over : List (OpenLink I O)) (end : Option PostError) (D : List (List ℕ) → Type 0) (n : ℕ) (t : Report)
    → KeepsDialled sees is_closed (turn.Opened link input output) links over end → At D left (links ++ record { link = link; input = input; output = output } ∷ []) n t → Parted D left over end n t
up_keeps {I} {O} left sees is_closed link input output links over None D n t keeps at = subst (λ (ks : List (OpenLink I O)). At D left ks n t) (sym keeps) at
up_keeps left sees is_closed link input output links over (Some e) D n t keeps at = at_prefix D left (links ++ record { link = link; input = input; output = output } ∷ []) n t at

at_up : {I O : Type 0} (left : I → Option (List ℕ)) (sees : O → OutSeen) (is_closed : O → Bool) (turned : DialTurn I O) (links over : List (OpenLink I O)) (end : Option PostError) (d d2 : DialerSeen) (l : ℕ) (held : Option (List ℕ)) (n : ℕ) (t : Report)
    → turn_of left turned ≡ OpenedTurn l held → KeepsDialled sees is_closed turned links over end → IsGiven t.coming d2 held → At (Holds d) left links n t
    → Parted (Holds d2) left over end n (record { link_history = if l == n then opened t.link_history t.coming else t.link_history; coming = drop 1 t.coming })
at_up {I} {O} left sees is_closed (turn.Opened link input output) links over end d d2 l held n t is keeps gives at =
    let same : link ≡ l = (cc) in
    let still_left : left input ≡ held = (cc) in
    let k : OpenLink I O = record { link = link; input = input; output = output } in
    up_keeps left sees is_closed link input output links over end (Holds d2) n (record { link_history = if l == n then opened t.link_history t.coming else t.link_history; coming = drop 1 t.coming }) keeps (record {
      coming = gives.leaves ∙ ap (λ (c : List (List ℕ)). Some (drop 1 c)) (sym gives.coming_is);
      fits = subst (λ (c : List (List ℕ)). Fits left n (links ++ k ∷ []) (if l == n then opened t.link_history c else t.link_history)) (sym gives.coming_is)
          (subst (λ (m : ℕ). Fits left n (links ++ k ∷ []) (if m == n then opened t.link_history (gives.bytes ∷ gives.later) else t.link_history)) same
          (fits_opened left n links k gives.bytes gives.later t.link_history (still_left ∙ gives.is) at.fits));
    })
at_up left sees is_closed turn.Nothing links over end d d2 l held n t is keeps gives at = absurd (let no : ⊥ = (cc) in no)
at_up left sees is_closed (turn.Refused sub) links over end d d2 l held n t is keeps gives at = absurd (let no : ⊥ = (cc) in no)
at_up left sees is_closed (turn.Gone r) links over end d d2 l held n t is keeps gives at = absurd (let no : ⊥ = (cc) in no)
at_up left sees is_closed (turn.Failed e) links over end d d2 l held n t is keeps gives at = absurd (let no : ⊥ = (cc) in no)

failed_part : {I O : Type 0} (left : I → Option (List ℕ)) (sees : O → OutSeen) (is_closed : O → Bool) (turned : DialTurn I O) (links over : List (OpenLink I O)) (end : Option PostError) (D : List (List ℕ) → Type 0) (x : PostError)
    → turn_of left turned ≡ Failed x → KeepsDialled sees is_closed turned links over end → (n : ℕ) (t : Report) → Prefixes n t → Parted D left over end n t
failed_part left sees is_closed (turn.Failed e) links over end D x is keeps n t prefixes = subst (λ (y : Option PostError). Parted D left over y n t) (sym keeps.1) prefixes
failed_part left sees is_closed turn.Nothing links over end D x is keeps n t prefixes = absurd (let no : ⊥ = (cc) in no)
failed_part left sees is_closed (turn.Opened link input output) links over end D x is keeps n t prefixes = absurd (let no : ⊥ = (cc) in no)
failed_part left sees is_closed (turn.Refused sub) links over end D x is keeps n t prefixes = absurd (let no : ⊥ = (cc) in no)
failed_part left sees is_closed (turn.Gone r) links over end D x is keeps n t prefixes = absurd (let no : ⊥ = (cc) in no)

-- a dial that opened
up : {I O : Type 0} (left : I → Option (List ℕ)) (sees : O → OutSeen) (is_closed : O → Bool) (turned : DialTurn I O) (links over : List (OpenLink I O)) (end : Option PostError) (sub : ℕ) (d d2 : DialerSeen) (held : Option (List ℕ)) (before after : HandleSeen) (came : Result Reply PostError)
    → TakesLink d.coming d2.coming held → PostsOne (event.LinkUp sub) before after came → turn_of left turned ≡ up_answer held came → KeepsDialled sees is_closed turned links over end
    → Comes (At (Holds d) left links) (Parted (Holds d2) left over end) before after
up left sees is_closed turned links over end sub d d2 held before after (Err x) takes posted is keeps =
    weaker (At (Holds d) left links) (At (Holds d) left links) (Parted (Holds d2) left over end) before after
    (λ n t at. failed_part left sees is_closed turned links over end (Holds d2) x is keeps n t (at_prefix (Holds d) left links n t at)) (none (At (Holds d) left links) before after posted.made.0)
up {I} {O} left sees is_closed turned links over end sub d d2 held before after (Ok r) takes posted is keeps =
    one_as (At (Holds d) left links) (Parted (Holds d2) left over end) (event.LinkUp sub) before after r (by_reply (reply_is r)) posted
  where
    by_reply : ((l : ℕ) × (r ≡ reply.Link l)) ⊎ IsNoLink r → (n : ℕ) (t : Report) → At (Holds d) left links n t → Parted (Holds d2) left over end n (reported_up n r t)
    by_reply (inl (l, link)) n t at =
        subst (λ (x : Reply). Parted (Holds d2) left over end n (reported_up n x t)) (sym link)
        (at_up left sees is_closed turned links over end d d2 l held n t (is ∙ ap (λ (x : Reply). up_answer held (Ok x)) link) keeps (given d.coming d2.coming held t.coming d2 refl takes at.coming) at)
    by_reply (inr no_link) n t at =
        let gives = given d.coming d2.coming held t.coming d2 refl takes at.coming in
        subst (λ (s : Report). Parted (Holds d2) left over end n s) (sym (no_link.reported n t))
        (parted (Holds d2) left over end n (record { link_history = t.link_history; coming = drop 1 t.coming })
        (subst (λ (ks : List (OpenLink I O)). At (Holds d2) left ks n (record { link_history = t.link_history; coming = drop 1 t.coming })) (sym (kept_shut left sees is_closed turned links over end (ap is_open is ∙ no_link.shut held) keeps))
        (record { coming = gives.leaves ∙ ap (λ (c : List (List ℕ)). Some (drop 1 c)) (sym gives.coming_is); fits = at.fits })))

dialled : {I O : Type 0} (left : I → Option (List ℕ)) (sees : O → OutSeen) (is_closed : O → Bool) (turned : DialTurn I O) (links over : List (OpenLink I O)) (end : Option PostError) (sub : ℕ) (d d2 : DialerSeen) (before after : HandleSeen)
    → Dials sub d d2 before after (turn_of left turned) → KeepsDialled sees is_closed turned links over end → Comes (At (Holds d) left links) (Parted (Holds d2) left over end) before after
dialled left sees is_closed turned links over end sub d d2 before after (inl went) keeps = up left sees is_closed turned links over end sub d d2 went.0 before after went.1 went.2.coming went.3 went.4 keeps
dialled left sees is_closed turned links over end sub d d2 before after (inr down) keeps =
    weaker (At (Holds d) left links) (At (Holds d) left links) (Parted (Holds d2) left over end) before after
    (at_shut left sees is_closed turned links over end d d2 (ap is_open down.3 ∙ down_shut sub down.0) keeps down.1.coming)
    (still (At (Holds d) left links) (event.DialFailed sub) before after down.0 (λ n t r x. x) down.2)

dial_taken : {I O : Type 0} (left : I → Option (List ℕ)) (sees : O → OutSeen) (is_closed : O → Bool) (turned : DialTurn I O) (links over : List (OpenLink I O)) (end : Option PostError) (sub : Option ℕ) (came : Result Reply PostError) (d d2 : DialerSeen) (before after : HandleSeen)
    → AfterTakeDial sub came d d2 before after (turn_of left turned) → KeepsDialled sees is_closed turned links over end → Comes (At (Holds d) left links) (Parted (Holds d2) left over end) before after
dial_taken left sees is_closed turned links over end (Some sub) came d d2 before after dials keeps = dialled left sees is_closed turned links over end sub d d2 before after dials keeps
dial_taken left sees is_closed turned links over end None came d d2 before after idle keeps =
    weaker (At (Holds d) left links) (At (Holds d) left links) (Parted (Holds d2) left over end) before after
    (at_shut left sees is_closed turned links over end d d2 (ap is_open idle.2 ∙ idle_shut came) keeps idle.0.coming) (none (At (Holds d) left links) before after idle.1.made)

dials_if : {I O : Type 0} (left : I → Option (List ℕ)) (sees : O → OutSeen) (is_closed : O → Bool) (turned : DialTurn I O) (links over : List (OpenLink I O)) (end : Option PostError) (wanted : Bool) (d d2 : DialerSeen) (before after : HandleSeen)
    → DialsIf wanted d d2 before after (turn_of left turned) → KeepsDialled sees is_closed turned links over end → Comes (At (Holds d) left links) (Parted (Holds d2) left over end) before after
dials_if left sees is_closed turned links over end false d d2 before after idle keeps =
    weaker (At (Holds d) left links) (At (Holds d) left links) (Parted (Holds d2) left over end) before after
    (at_shut left sees is_closed turned links over end d d2 (ap is_open idle.2) keeps idle.0.coming) (none (At (Holds d) left links) before after idle.1.made)
dials_if left sees is_closed turned links over end true d d2 before after (gave, came, posted, dials) keeps =
    then_too (At (Holds d) left links) (At (Holds d) left links) (Parted (Holds d2) left over end) before gave after
    (still (At (Holds d) left links) event.TakeDial before gave came (λ n t r x. x) posted)
    (dial_taken left sees is_closed turned links over end (sub_of came) came d d2 gave after dials keeps)

dials : {P T N I O : Type 0} (eyes : Eyes P T I O) (sees : N → DialerSeen) (before after : Stand P T N I O) (end : Option PostError) → DialsLink eyes sees before after end
    → Comes (At (Holds (sees before.dialer)) (λ i. (eyes.input i).left) before.links) (Parted (Holds (sees after.dialer)) (λ i. (eyes.input i).left) after.links end) (eyes.handle before.site.post) (eyes.handle after.site.post)
dials eyes sees before after end d = dials_if (λ i. (eyes.input i).left) eyes.output eyes.closed d.came before.links after.links end d.view.dialable (sees before.dialer) (sees after.dialer) (eyes.handle before.site.post) (eyes.handle after.site.post) d.dials d.keeps

-- a tick
ticks_if : (A : ℕ → Report → Type 0) (next : Option ℕ) (moment : ℕ) (before after : HandleSeen) (came : Result Bool PostError) → TicksIfDue next moment before after came → Comes A A before after
ticks_if A next moment before after (Ok true) ticked = one A A event.Tick before after ticked.1 (λ n t r x. x) ticked.2
ticks_if A next moment before after (Ok false) idle = none A before after idle.1.made
ticks_if A next moment before after (Err e) failed = none A before after failed.1.made.0

-- a round
abbrev Stands : {P T N I O : Type 0} → Eyes P T I O → (N → DialerSeen) → Stand P T N I O → ℕ → Report → Type 0
Stands eyes sees s = At (Holds (sees s.dialer)) (λ i. (eyes.input i).left) s.links

abbrev Ended : {P T N I O : Type 0} → Eyes P T I O → (N → DialerSeen) → Stand P T N I O → Option Pumped → ℕ → Report → Type 0
Ended eyes sees s end = Parted (Holds (sees s.dialer)) (λ i. (eyes.input i).left) s.links end

ended_prefix : {P T N I O : Type 0} (eyes : Eyes P T I O) (sees : N → DialerSeen) (s : Stand P T N I O) (end : Option Pumped) (e : Pumped) → end ≡ Some e → (n : ℕ) (t : Report) → Prefixes n t → Ended eyes sees s end n t
ended_prefix eyes sees s end e is n t prefixes = subst (λ (x : Option Pumped). Ended eyes sees s x n t) (sym is) prefixes

looks : {P T N I O : Type 0} (eyes : Eyes P T I O) (sees : N → DialerSeen) (before : Stand P T N I O) (looked : P) → eyes.handle looked ≡ eyes.handle before.site.post
    → Comes (Stands eyes sees before) (Stands eyes sees before) (eyes.handle before.site.post) (eyes.handle looked)
looks eyes sees before looked is = none (Stands eyes sees before) (eyes.handle before.site.post) (eyes.handle looked) (ap (λ (h : HandleSeen). h.made) is)

-- a turn of dialling that does not end the worker, after a look
dials_on : {P T N I O : Type 0} (eyes : Eyes P T I O) (sees : N → DialerSeen) (before : Stand P T N I O) (looked : P) (after : Stand P T N I O) → DialsLink eyes sees (looked_at looked before) after None
    → Comes (Stands eyes sees before) (Stands eyes sees after) (eyes.handle looked) (eyes.handle after.site.post)
dials_on {P} {T} {N} {I} {O} eyes sees before looked after d =
    let end : Option PostError = None in
    on (Stands eyes sees before) (Holds (sees after.dialer)) (λ i. (eyes.input i).left) after.links end (eyes.handle looked) (eyes.handle after.site.post) refl (dials eyes sees (looked_at looked before) after end d)

round : {P T N I O : Type 0} (eyes : Eyes P T I O) (sees : N → DialerSeen) (may_give : ℕ → Type 0) (before after : Stand P T N I O) (end : Option Pumped) → RoundOf eyes sees may_give before after end
    → Comes (Stands eyes sees before) (Ended eyes sees after end) (eyes.handle before.site.post) (eyes.handle after.site.post)
round eyes sees may_give before after end (inl r) =
    weaker (Stands eyes sees before) (Stands eyes sees before) (Ended eyes sees after end) (eyes.handle before.site.post) (eyes.handle after.site.post)
    (λ n t at. ended_prefix eyes sees after end pumped.Shut r.ends n t (at_prefix (Holds (sees before.dialer)) (λ i. (eyes.input i).left) before.links n t at)) (looks eyes sees before after.site.post r.looks.handle)
round eyes sees may_give before after end (inr (inl r)) =
    then_too (Stands eyes sees before) (Stands eyes sees before) (Ended eyes sees after end) (eyes.handle before.site.post) (eyes.handle r.looked) (eyes.handle after.site.post) (looks eyes sees before r.looked r.looks.handle)
    (weaker (Stands eyes sees before) (Parted (Holds (sees after.dialer)) (λ i. (eyes.input i).left) after.links (Some r.error)) (Ended eyes sees after end) (eyes.handle r.looked) (eyes.handle after.site.post)
    (λ n t x. ended_prefix eyes sees after end (pumped.Failed r.error) r.ends n t x) (dials eyes sees (looked_at r.looked before) after (Some r.error) r.dials))
round eyes sees may_give before after end (inr (inr (inl r))) =
    then_too (Stands eyes sees before) (Stands eyes sees before) (Ended eyes sees after end) (eyes.handle before.site.post) (eyes.handle r.looked) (eyes.handle after.site.post) (looks eyes sees before r.looked r.looks.handle)
    (then_too (Stands eyes sees before) (Stands eyes sees r.dialled) (Ended eyes sees after end) (eyes.handle r.looked) (eyes.handle r.dialled.site.post) (eyes.handle after.site.post)
    (dials_on eyes sees before r.looked r.dialled r.dials)
    (weaker (Stands eyes sees r.dialled) (Parted (Holds (sees r.dialled.dialer)) (λ i. (eyes.input i).left) after.links (Some r.error)) (Ended eyes sees after end) (eyes.handle r.dialled.site.post) (eyes.handle after.site.post)
    (λ n t x. ended_prefix eyes sees after end (pumped.Failed r.error) r.ends n t x)
    (turns (Holds (sees r.dialled.dialer)) eyes [] r.dialled.links r.dialled.site after.site after.links (Some r.error) r.turns)))
round {P} {T} {N} {I} {O} eyes sees may_give before after end (inr (inr (inr r))) =
    then_too (Stands eyes sees before) (Stands eyes sees before) (Ended eyes sees after end) (eyes.handle before.site.post) (eyes.handle r.looked) (eyes.handle after.site.post) (looks eyes sees before r.looked r.looks.handle)
    (then_too (Stands eyes sees before) (Stands eyes sees r.dialled) (Ended eyes sees after end) (eyes.handle r.looked) (eyes.handle r.dialled.site.post) (eyes.handle after.site.post)
    (dials_on eyes sees before r.looked r.dialled r.dials)
    (then_too (Stands eyes sees r.dialled) (At (Holds (sees r.dialled.dialer)) (λ i. (eyes.input i).left) after.links) (Ended eyes sees after end) (eyes.handle r.dialled.site.post) (eyes.handle r.turned.post) (eyes.handle after.site.post)
    (let goes : Option PostError = None in on (Stands eyes sees r.dialled) (Holds (sees r.dialled.dialer)) (λ i. (eyes.input i).left) after.links goes (eyes.handle r.dialled.site.post) (eyes.handle r.turned.post) refl
    (turns (Holds (sees r.dialled.dialer)) eyes [] r.dialled.links r.dialled.site r.turned after.links goes r.turns))
    (weaker (At (Holds (sees r.dialled.dialer)) (λ i. (eyes.input i).left) after.links) (At (Holds (sees r.dialled.dialer)) (λ i. (eyes.input i).left) after.links) (Ended eyes sees after end) (eyes.handle r.turned.post) (eyes.handle after.site.post)
    (λ n t at. parted (Holds (sees after.dialer)) (λ i. (eyes.input i).left) after.links end n t (subst (λ (x : N). At (Holds (sees x)) (λ i. (eyes.input i).left) after.links n t) (sym r.dialer) at))
    (ticks_if (At (Holds (sees r.dialled.dialer)) (λ i. (eyes.input i).left) after.links) r.ticks.0.next r.ticks.1 (eyes.handle r.turned.post) (eyes.handle after.site.post) r.ticks.2 r.ticks.5))))

round_on : {P T N I O : Type 0} (eyes : Eyes P T I O) (sees : N → DialerSeen) (may_give : ℕ → Type 0) (before after : Stand P T N I O) → RoundOf eyes sees may_give before after None
    → Comes (Stands eyes sees before) (Stands eyes sees after) (eyes.handle before.site.post) (eyes.handle after.site.post)
round_on {P} {T} {N} {I} {O} eyes sees may_give before after went =
    let end : Option Pumped = None in
    on (Stands eyes sees before) (Holds (sees after.dialer)) (λ i. (eyes.input i).left) after.links end (eyes.handle before.site.post) (eyes.handle after.site.post) refl (round eyes sees may_give before after end went)

rounds : {P T N I O : Type 0} (eyes : Eyes P T I O) (sees : N → DialerSeen) (may_give : ℕ → Type 0) (start : Stand P T N I O) (going : List (Stand P T N I O)) (last : Stand P T N I O) → RoundsOn eyes sees may_give start going last
    → Comes (Stands eyes sees start) (Stands eyes sees last) (eyes.handle start.site.post) (eyes.handle last.site.post)
rounds {P} {T} {N} {I} {O} eyes sees may_give start [] last done =
    subst (λ (s : Stand P T N I O). Comes (Stands eyes sees start) (Stands eyes sees s) (eyes.handle start.site.post) (eyes.handle s.site.post)) (sym done)
    (none (Stands eyes sees start) (eyes.handle start.site.post) (eyes.handle start.site.post) refl)
rounds eyes sees may_give start (next ∷ later) last (first, more) =
    then_too (Stands eyes sees start) (Stands eyes sees next) (Stands eyes sees last) (eyes.handle start.site.post) (eyes.handle next.site.post) (eyes.handle last.site.post) (round_on eyes sees may_give start next first) (rounds eyes sees may_give next later last more)

-- a whole run, which begins with no link
pub run_prefixes : {P T N I O : Type 0} (eyes : Eyes P T I O) (sees : N → DialerSeen) (may_give : ℕ → Type 0) (start : Stand P T N I O) (site : Site P T) (dialer : N) (end : Pumped) → start.links ≡ [] → RunsTo eyes sees may_give start site dialer end
    → ArrivesBefore (sees start.dialer).coming (eyes.handle start.site.post) (eyes.handle site.post)
run_prefixes {P} {T} {N} {I} {O} eyes sees may_give start site dialer end empty run =
    let all = then_too (Stands eyes sees start) (Stands eyes sees run.runs.last) Prefixes (eyes.handle start.site.post) (eyes.handle run.runs.last.site.post) (eyes.handle site.post)
    (rounds eyes sees may_give start run.runs.rounds run.runs.last run.runs.goes_on)
    (weaker (Stands eyes sees run.runs.last) (Ended eyes sees (record { site = site; dialer = dialer; links = run.left }) (Some end)) Prefixes (eyes.handle run.runs.last.site.post) (eyes.handle site.post) (λ n t x. x)
    (round eyes sees may_give run.runs.last (record { site = site; dialer = dialer; links = run.left }) (Some end) run.runs.ends)) in record {
      more = all.more;
      made = all.made;
      prefixes = λ held is link. all.comes link (record { link_history = Unopened; coming = held }) (record {
        coming = is;
        fits = subst (λ (ks : List (OpenLink I O)). Fits (λ i. (eyes.input i).left) link ks Unopened) (sym empty) tt;
      });
    }
