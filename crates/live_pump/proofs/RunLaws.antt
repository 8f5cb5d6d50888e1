-- Steps of a worker's run.
use Rattle.std.proofs.Common.{◌≡◌, ◌≤◌, ◌<◌, ◌+◌, ◌⊎◌, ℕ, Bool, true, false, Option, Some, None, List, [], ◌∷◌, ◌++◌, length, take, drop, get_or, slice_set, inl, inr, refl, sym, ap, subst, ◌∙◌, arith, add-one}
use Rattle.std.proofs.lemmas.List.{drop-set-lt, drop_all, drop_at, drop_more, length-take-le, set_split, take-set, take_all, take_at, take_more_set}
use Rattle.grpc_base.specs.declared.post.PostError.{PostError}
use Rattle.grpc_base.specs.declared.tender.TendTurn.{TendTurn}
use Rattle.live_pump.specs.Dials.{DialerSeen}
use Rattle.live_pump.specs.Pumps.{HandleSeen, OutSeen}
use Rattle.live_pump.specs.Runs.{Closes, ClosesUnless, Eyes, KeepsDialled, Reads, RoundOf, RoundsOn, RunsTo, Site, Stand, TenderSeen, TurnsLink, TurnsLinks, Writes, error_of, is_given_up}
use Rattle.live_pump.specs.Workers.{ReportsThat, is_going}
use Rattle.live_pump.specs.declared.dial.DialTurn.{DialTurn}
use Rattle.live_pump.specs.declared.dial.DialTurn.TheVariants as turn
use Rattle.live_pump.specs.declared.link_turn.OpenLink.{OpenLink}
use Rattle.live_pump.specs.declared.pumped.Pumped.{Pumped}
use Rattle.live_pump.specs.declared.pumped.Pumped.TheVariants as pumped

pub same_tender : (n n2 : ℕ) (l l2 : Option TendTurn) → n2 ≡ n → l2 ≡ l → ◌≡◌ {A = TenderSeen} (record { turns = n2; last = l2 }) (record { turns = n; last = l })
same_tender n n2 l l2 p q =
    ap (λ (x : ℕ). let t : TenderSeen = record { turns = x; last = l2 } in t) p
    ∙ ap (λ (x : Option TendTurn). let t : TenderSeen = record { turns = n; last = x } in t) q

pub going : (a : Pumped) → is_going a ≡ true → a ≡ pumped.Going
going pumped.Going is = refl
going pumped.Lost is = absurd (let no : ⊥ = (cc) in no)
going (pumped.Gone r) is = absurd (let no : ⊥ = (cc) in no)
going (pumped.Failed e) is = absurd (let no : ⊥ = (cc) in no)
going pumped.Shut is = absurd (let no : ⊥ = (cc) in no)

-- the link that is next goes on
pub turned_on : {P T I O : Type 0} (eyes : Eyes P T I O) (links : List (OpenLink I O)) (at : ℕ) (link turned : OpenLink I O) (answer : Pumped) (before next after : Site P T) (left : List (OpenLink I O)) (end : Option PostError)
    → at < length links → link ≡ get_or links at link → TurnsLink eyes before link next turned answer → answer ≡ pumped.Going
    → TurnsLinks eyes (take (at + 1) (slice_set links at turned)) next (drop (at + 1) (slice_set links at turned)) after left end → TurnsLinks eyes (take at links) before (drop at links) after left end
turned_on {P} {T} {I} {O} eyes links at link turned answer before next after left end inside is turn on later =
    let first : drop at links ≡ link ∷ drop (at + 1) links = drop_more links at link inside ∙ ap (λ (k : OpenLink I O). k ∷ drop (at + 1) links) (sym is) in
    let kept : take (at + 1) (slice_set links at turned) ≡ take at links ++ turned ∷ [] = take_more_set links at turned inside in
    let afterwards : drop (at + 1) (slice_set links at turned) ≡ drop (at + 1) links = drop-set-lt (at + 1) links at turned (omega arith) in
    let rest = subst (λ (k : List (OpenLink I O)). TurnsLinks eyes k next (drop (at + 1) links) after left end) kept
    (subst (λ (k : List (OpenLink I O)). TurnsLinks eyes (take (at + 1) (slice_set links at turned)) next k after left end) afterwards later) in
    subst (λ (k : List (OpenLink I O)). TurnsLinks eyes (take at links) before k after left end) (sym first) (next, turned, answer, turn, inl (on, rest))

-- the link that is next is given up
pub turned_off : {P T I O : Type 0} (eyes : Eyes P T I O) (links fewer : List (OpenLink I O)) (at to : ℕ) (link turned : OpenLink I O) (answer : Pumped) (before next after : Site P T) (left : List (OpenLink I O)) (end : Option PostError)
    → at < length links → link ≡ get_or links at link → TurnsLink eyes before link next turned answer → is_given_up answer ≡ true
    → fewer ≡ take at (slice_set links at turned) ++ drop (at + 1) (slice_set links at turned) → to ≡ at
    → TurnsLinks eyes (take to fewer) next (drop to fewer) after left end → TurnsLinks eyes (take at links) before (drop at links) after left end
turned_off {P} {T} {I} {O} eyes links fewer at to link turned answer before next after left end inside is turn off without here later_there =
    let later = subst (λ (n : ℕ). TurnsLinks eyes (take n fewer) next (drop n fewer) after left end) here later_there in
    let first : drop at links ≡ link ∷ drop (at + 1) links = drop_more links at link inside ∙ ap (λ (k : OpenLink I O). k ∷ drop (at + 1) links) (sym is) in
    let prefix : take at (slice_set links at turned) ≡ take at links = take-set links at turned in
    let afterwards : drop (at + 1) (slice_set links at turned) ≡ drop (at + 1) links = drop-set-lt (at + 1) links at turned (omega arith) in
    let all : fewer ≡ take at links ++ drop (at + 1) links = without ∙ ap (λ (k : List (OpenLink I O)). k ++ drop (at + 1) (slice_set links at turned)) prefix ∙ ap (λ (k : List (OpenLink I O)). take at links ++ k) afterwards in
    let long : length (take at links) ≡ at = length-take-le at links (omega arith) in
    let kept : take at fewer ≡ take at links = ap (λ (k : List (OpenLink I O)). take at k) all ∙ take_at (take at links) (drop (at + 1) links) at long in
    let to_come : drop at fewer ≡ drop (at + 1) links = ap (λ (k : List (OpenLink I O)). drop at k) all ∙ drop_at (take at links) (drop (at + 1) links) at long in
    let rest = subst (λ (k : List (OpenLink I O)). TurnsLinks eyes k next (drop (at + 1) links) after left end) kept
    (subst (λ (k : List (OpenLink I O)). TurnsLinks eyes (take at fewer) next k after left end) to_come later) in
    subst (λ (k : List (OpenLink I O)). TurnsLinks eyes (take at links) before k after left end) (sym first) (next, turned, answer, turn, inr (inl (off, rest)))

-- the turn of the link that is next ends with an error
pub turned_failed : {P T I O : Type 0} (eyes : Eyes P T I O) (links : List (OpenLink I O)) (at : ℕ) (link turned : OpenLink I O) (answer : Pumped) (error : PostError) (before next : Site P T)
    → at < length links → link ≡ get_or links at link → TurnsLink eyes before link next turned answer → answer ≡ pumped.Failed error
    → TurnsLinks eyes (take at links) before (drop at links) next (slice_set links at turned) (Some error)
turned_failed {P} {T} {I} {O} eyes links at link turned answer error before next inside is turn failed =
    let first : drop at links ≡ link ∷ drop (at + 1) links = drop_more links at link inside ∙ ap (λ (k : OpenLink I O). k ∷ drop (at + 1) links) (sym is) in
    let all : slice_set links at turned ≡ take at links ++ turned ∷ drop (at + 1) links = set_split links at turned inside ∙ ap (λ (n : ℕ). take at links ++ turned ∷ drop n links) (sym (add-one at)) in
    subst (λ (k : List (OpenLink I O)). TurnsLinks eyes (take at links) before k next (slice_set links at turned) (Some error)) (sym first) (next, turned, answer, turn, inr (inr (error, failed, refl, all, refl)))

-- no link is left that is to have a turn
pub turned_all : {P T I O : Type 0} (eyes : Eyes P T I O) (links : List (OpenLink I O)) (at : ℕ) (here : Site P T) → length links ≤ at → TurnsLinks eyes (take at links) here (drop at links) here links None
turned_all {P} {T} {I} {O} eyes links at here past =
    subst (λ (k : List (OpenLink I O)). TurnsLinks eyes (take at links) here k here links None) (sym (drop_all at links past)) (refl, sym (take_all at links past), refl)

-- a round more
pub rounds_more : {P T N I O : Type 0} (eyes : Eyes P T I O) (sees : N → DialerSeen) (may_give : ℕ → Type 0) (start : Stand P T N I O) (rounds : List (Stand P T N I O)) (last next : Stand P T N I O)
    → RoundsOn eyes sees may_give start rounds last → RoundOf eyes sees may_give last next None → RoundsOn eyes sees may_give start (rounds ++ next ∷ []) next
rounds_more {P} {T} {N} {I} {O} eyes sees may_give start [] last next on more = (subst (λ (s : Stand P T N I O). RoundOf eyes sees may_give s next None) on more, refl)
rounds_more eyes sees may_give start (first ∷ later) last next on more = (on.0, rounds_more eyes sees may_give first later last next on.1 more)

-- what an answer says of a link that goes on, and of one that does not
pub goes_on : (a : Pumped) → is_given_up a ≡ false → None ≡ error_of a → a ≡ pumped.Going
goes_on pumped.Going up none = refl
goes_on pumped.Lost up none = absurd (let no : ⊥ = (cc) in no)
goes_on (pumped.Gone r) up none = absurd (let no : ⊥ = (cc) in no)
goes_on (pumped.Failed e) up none = absurd (let no : ⊥ = (cc) in no)
goes_on pumped.Shut up none = absurd (let no : ⊥ = (cc) in no)

pub fails_with : (a : Pumped) (error : PostError) → Some error ≡ error_of a → a ≡ pumped.Failed error
fails_with pumped.Going error is = absurd (let no : ⊥ = (cc) in no)
fails_with pumped.Lost error is = absurd (let no : ⊥ = (cc) in no)
fails_with (pumped.Gone r) error is = absurd (let no : ⊥ = (cc) in no)
fails_with (pumped.Failed e) error is = let same_error : e ≡ error = (cc) in ap (λ (x : PostError). pumped.Failed x) same_error
fails_with pumped.Shut error is = absurd (let no : ⊥ = (cc) in no)

pub given_up_reports : (before after : HandleSeen) (a : Pumped) → is_given_up a ≡ true → ReportsThat before after a → after.errors ≡ before.errors
given_up_reports before after pumped.Going up reports_that = reports_that
given_up_reports before after pumped.Lost up reports_that = reports_that
given_up_reports before after (pumped.Gone r) up reports_that = reports_that
given_up_reports before after (pumped.Failed e) up reports_that = absurd (let no : ⊥ = (cc) in no)
given_up_reports before after pumped.Shut up reports_that = reports_that

-- what is written where the link goes on
pub writes_on : {P T I O : Type 0} (eyes : Eyes P T I O) (link : ℕ) (before : P) (out : O) (after : P) (out_after : O) (answer : Pumped) → is_going answer ≡ true → Writes eyes link before out after out_after answer → Writes eyes link before out after out_after pumped.Going
writes_on eyes link before out after out_after answer on writes = subst (λ (a : Pumped). Writes eyes link before out after out_after a) (going answer on) writes

pub reads_on : {P T I O : Type 0} (eyes : Eyes P T I O) (link : ℕ) (before : P) (input : I) (after : P) (input_after : I) (answer : Pumped) → is_going answer ≡ true → Reads eyes link before input after input_after answer → Reads eyes link before input after input_after pumped.Going
reads_on eyes link before input after input_after answer on reads = subst (λ (a : Pumped). Reads eyes link before input after input_after a) (going answer on) reads

-- a link that goes on stays open, and one that does not is closed
pub stays_open : {I O : Type 0} (sees : O → OutSeen) (is_closed : O → Bool) (on : Bool) (link : OpenLink I O) → on ≡ true → ClosesUnless sees is_closed on link link
stays_open sees is_closed true link is = refl
stays_open sees is_closed false link is = absurd (let no : ⊥ = (cc) in no)

pub is_left_closed : {I O : Type 0} (sees : O → OutSeen) (is_closed : O → Bool) (on : Bool) (link link_after : OpenLink I O) → on ≡ false → Closes sees is_closed link link_after → ClosesUnless sees is_closed on link link_after
is_left_closed sees is_closed true link link_after is closes = absurd (let no : ⊥ = (cc) in no)
is_left_closed sees is_closed false link link_after is closes = closes

pub closed_where_not : {I O : Type 0} (sees : O → OutSeen) (is_closed : O → Bool) (on : Bool) (link link_after : OpenLink I O) → ClosesUnless sees is_closed on link link_after → on ≡ false → is_closed link_after.output ≡ true
closed_where_not sees is_closed true link link_after closes is = absurd (let no : ⊥ = (cc) in no)
closed_where_not sees is_closed false link link_after closes is = closes.closed

-- a worker begins with no link
pub run_from_none : {P T N I O : Type 0} (eyes : Eyes P T I O) (sees : N → DialerSeen) (may_give : ℕ → Type 0) (site site_after : Site P T) (dialer dialer_after : N) (links : List (OpenLink I O)) (end : Pumped)
    → links ≡ [] → RunsTo eyes sees may_give (record { site = site; dialer = dialer; links = links }) site_after dialer_after end → RunsTo eyes sees may_give (record { site = site; dialer = dialer; links = [] }) site_after dialer_after end
run_from_none {P} {T} {N} {I} {O} eyes sees may_give site site_after dialer dialer_after links end none run =
    subst (λ (l : List (OpenLink I O)). RunsTo eyes sees may_give (record { site = site; dialer = dialer; links = l }) site_after dialer_after end) none run

-- a turn of dialling that opened no link keeps those that there are
pub keeps_idle : {I O : Type 0} (sees : O → OutSeen) (is_closed : O → Bool) (came : DialTurn I O) (links : List (OpenLink I O)) → (came ≡ turn.Nothing) ⊎ (((x : ℕ) × (came ≡ turn.Refused x)) ⊎ ((x : ℕ) × (came ≡ turn.Gone x))) → KeepsDialled sees is_closed came links links None
keeps_idle {I} {O} sees is_closed came links (inl is) = subst (λ (c : DialTurn I O). KeepsDialled sees is_closed c links links None) (sym is) (refl, refl)
keeps_idle {I} {O} sees is_closed came links (inr (inl is)) = subst (λ (c : DialTurn I O). KeepsDialled sees is_closed c links links None) (sym is.1) (refl, refl)
keeps_idle {I} {O} sees is_closed came links (inr (inr is)) = subst (λ (c : DialTurn I O). KeepsDialled sees is_closed c links links None) (sym is.1) (refl, refl)
