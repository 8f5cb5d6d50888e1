-- The resets that a session owes are made one after the other, each the next action, until none is owed; and then channel and session agree.
use Rattle.std.proofs.Common.{◌≡◌, ◌∷◌, ◌||◌, ◌&&◌, ap, arith, refl, subst, sym, ◌∙◌, Bool, true, false, List, [], Option, None, Some, ℕ, zero, suc, filter, if◌then◌else◌, is_some, length, nat_lt, slice_get, slice_set}
use Rattle.std.proofs.lemmas.Bool.{and_parts, both_ways}
use Rattle.std.specs.List.{list_all, list_any}
use Rattle.std.specs.Option.{option_and_then, option_map, option_map_or}
use Rattle.attempt_ledger.specs.declared.row.RowEnd.{RowEnd}
use Rattle.call_cases.proofs.EndsFollow.Steps.{placed_of}
use Rattle.call_cases.proofs.EndsFollow.Streams.{IsForemost, by_stream_order, is_foremost}
use Rattle.channel_actions.proofs.KeptSessions.Along.{kept_stays}
use Rattle.call_cases.proofs.LinkEnds.Resets.{is_owed}
use Rattle.call_cases.specs.EndsFollow.Cuts.{NoStreamIsToReset, is_unreset}
use Rattle.channel_actions.specs.KeptSessions.Kept.{IsKept}
use Rattle.channel_actions.specs.Sets.{is_in_outstanding}
use Rattle.end_cases.proofs.OwedResets.Books.{books_stay, out_still}
use Rattle.end_cases.proofs.OwedResets.Final.{final_reset}
use Rattle.end_cases.proofs.OwedResets.First.{IsEarliest, earliest}
use Rattle.end_cases.proofs.OwedResets.Late as late_links
use Rattle.end_cases.proofs.OwedResets.Late.{AreLate, late_still, pending, size_less}
use Rattle.end_cases.specs.AttemptEnds.Ahead.{AgreesOffLinks}
use Rattle.end_cases.specs.AttemptEnds.Laws.{may_wait_for_resets}
use Rattle.channel_core.specs.States.{StateSeen}
use Rattle.channel_core.specs.declared.state.links.LinkSlot.{LinkSlot}
use Rattle.link_actions.specs.Sees.{AttemptsStandInPlace}
use Rattle.session_actions.specs.Actions.{after, after_if}
use Rattle.session_actions.specs.AttemptEnds.{next_reset, reset_code_of, reset_of, stream_reset, stream_reset_of, with_reset_queued}
use Rattle.session_actions.specs.Events.{is_loss}
use Rattle.session_actions.specs.Laws.{posted_in}
use Rattle.session_actions.specs.Links.{is_stream_before}
use Rattle.session_actions.specs.Sessions.{Does, IsNext}
use Rattle.session_actions.specs.Words.{changed, changed_if, foremost, numbered}
use Rattle.session_actions.specs.declared.action.Action.{Action}
use Rattle.session_actions.specs.declared.action.Action.TheVariants as action
use Rattle.session_actions.specs.declared.attempt.Attempt.{Attempt}
use Rattle.session_actions.specs.declared.entry.OpenEntry.{OpenEntry}
use Rattle.session_actions.specs.declared.seen.Seen.{Seen}
use Rattle.session_order.proofs.Quiescence.{first_line_gives}
use Rattle.session_order.proofs.Lines.{lines_are_still}
use Rattle.session_order.proofs.StreamResets.{reset_leaves}
use Rattle.session_order.specs.Quiescent.{IsStill, is_to_reset}
use Rattle.session_order.specs.Lines.{is_line, rank}
use Rattle.session_order.specs.declared.line.Line.{Line}
use Rattle.session_order.specs.declared.line.Line.TheVariants as line

-- what comes before resets does not wait
before_end : (b : Bool) → nat_lt (if b then 15 else 13) 14 ≡ true → b ≡ false
before_end true e = absurd (cc)
before_end false e = refl

before_reset : (o : OpenEntry) (m : Line) → nat_lt (rank (is_loss o.event) m) (rank (is_loss o.event) line.Reset) ≡ true
    → (may_wait_for_resets o m ≡ false) × (is_line m line.Reset ≡ false)
before_reset o line.Cut e = (refl, refl)
before_reset o line.Transparent e = (refl, refl)
before_reset o line.Inherited e = (refl, refl)
before_reset o line.Row e = (refl, refl)
before_reset o line.Final e = (refl, refl)
before_reset o line.Cancelled e = (refl, refl)
before_reset o line.Request e = (refl, refl)
before_reset o line.Overflow e = (refl, refl)
before_reset o line.Head e = (refl, refl)
before_reset o line.Response e = (refl, refl)
before_reset o line.Pick e = (refl, refl)
before_reset o line.Link e = (refl, refl)
before_reset o line.WireEnd e = (before_end (is_loss o.event) e, refl)
before_reset o line.Reset e = absurd (cc)
before_reset o line.Shut e = absurd (cc)
before_reset o line.Retire e = absurd (cc)
before_reset o line.Begin e = absurd (cc)
before_reset o line.Give e = absurd (cc)
before_reset o line.Drop e = absurd (cc)
before_reset o line.Add e = absurd (cc)

early_by : (w l : Bool) → (w ≡ true → l ≡ true) → l ≡ false → w ≡ false
early_by false l turn e = refl
early_by true l turn e = absurd (both_ways l e (turn refl))

-- a test that all pass, where one changes
all_set : {X : Type 0} (p : X → Bool) (xs : List X) (i : ℕ) (v : X) → list_all p xs ≡ true → p v ≡ true → list_all p (slice_set xs i v) ≡ true
all_set p [] i v all here = refl
all_set p (x ∷ xs) zero v all here = ap (λ (b : Bool). b && list_all p xs) here ∙ (and_parts (p x) (list_all p xs) all).1
all_set p (x ∷ xs) (suc i) v all here =
    let parts : (p x ≡ true) × (list_all p xs ≡ true) = and_parts (p x) (list_all p xs) all in
    ap (λ (b : Bool). b && list_all p (slice_set xs i v)) parts.0 ∙ all_set p xs i v parts.1 here

all_by : {X : Type 0} (p : X → Bool) (f : X → X) (i : ℕ) (xs : List X) (q : Option X) → list_all p xs ≡ true → ((x : X) → q ≡ Some x → p (f x) ≡ true)
    → list_all p (changed_if f (suc i) xs q) ≡ true
all_by p f i xs None all here = all
all_by p f i xs (Some x) all here = all_set p xs i (f x) all (here x refl)

all_changed_at : {X : Type 0} (p : X → Bool) (f : X → X) (n : ℕ) (xs : List X) → list_all p xs ≡ true → ((x : X) → numbered xs n ≡ Some x → p (f x) ≡ true)
    → list_all p (changed f n xs) ≡ true
all_changed_at p f zero xs all here = all
all_changed_at p f (suc i) xs all here = all_by p f i xs (slice_get xs i) all here

-- between two resets
module _ (waits : Line → Bool) (o : OpenEntry) (late : (l : Line) → waits l ≡ true → may_wait_for_resets o l ≡ true) (x : StateSeen) (links : List LinkSlot) where
  pub record IsMid (s : Seen) : Type 0 where
    pub current : s.current ≡ Some o
    pub still : (l : Line) → is_line l line.Reset ≡ false → waits l ≡ false → IsStill l o s
    pub books : AgreesOffLinks x s
    pub afterwards : AreLate links s
    pub unreset : NoStreamIsToReset s

  -- one of them
  pub record IsOne (s : Seen) : Type 0 where
    pub place : ℕ
    pub number : ℕ
    pub seen : Seen
    pub next : IsNext (action.StreamReset place number) s
    pub after_is : after (action.StreamReset place number) s ≡ seen
    pub mid : IsMid seen
    pub entries : seen.entries ≡ s.entries
    pub setup : seen.setup ≡ s.setup
    pub fewer : (link row : ℕ) → is_in_outstanding seen link row ≡ true → is_in_outstanding s link row ≡ true
    pub less : length (filter (pending s) s.attempts) ≡ suc (length (filter (pending seen) seen.attempts))

  module _ (s : Seen) (mid : IsMid s) (a : Attempt) (number : ℕ) (first : foremost is_stream_before (filter (pending s) s.attempts) ≡ Some a)
      (code : reset_code_of s a ≡ Some number) where
    kept : IsKept s
    kept = mid.books.kept

    places : AttemptsStandInPlace 1 s.attempts
    places = placed_of 1 s.attempts kept.book.places

    e : IsEarliest is_stream_before (pending s) s.attempts a
    e = earliest is_stream_before (pending s) s.attempts a first

    f : IsForemost is_stream_before (pending s) s.attempts a
    f = is_foremost is_stream_before by_stream_order (pending s) s.attempts a first

    abbrev z : Seen
    z = stream_reset_of number s a

    there : numbered s.attempts a.place ≡ Some a
    there = late_links.there s a e.index number e.there code kept places f.first e.earlier_

    reset_is : stream_reset a.place number s ≡ z
    reset_is = ap (λ (q : Option Attempt). option_map_or (stream_reset_of number s) q s) there

    after_is : after (action.StreamReset a.place number) s ≡ z
    after_is = ap (λ (q : Option OpenEntry). after_if q (action.StreamReset a.place number) s) mid.current ∙ reset_is

    gives_is : next_reset s ≡ Some (action.StreamReset a.place number)
    gives_is = ap (option_and_then (reset_of s)) first ∙ ap (option_map (λ (n : ℕ). action.StreamReset a.place n)) code

    next : IsNext (action.StreamReset a.place number) s
    next =
        first_line_gives line.Reset (action.StreamReset a.place number) o s mid.current
        (λ m before. let b = before_reset o m before in mid.still m b.1 (early_by (waits m) (may_wait_for_resets o m) (late m) b.0)) gives_is

    kept_z : IsKept z
    kept_z = subst IsKept after_is (kept_stays s (action.StreamReset a.place number) kept next)

    moves : (l : Line) → is_line l line.Final ≡ false → IsStill l o s → IsStill l o z
    moves l final h =
        subst (IsStill l o) reset_is
        (reset_leaves a.place number o s mid.current tt l o (ap (λ (v : Seen). v.current) reset_is ∙ mid.current) final refl h)

    still : (l : Line) → is_line l line.Reset ≡ false → waits l ≡ false → IsStill l o z
    still line.Cut off w = moves line.Cut refl (mid.still line.Cut refl w)
    still line.Transparent off w = moves line.Transparent refl (mid.still line.Transparent refl w)
    still line.Inherited off w = moves line.Inherited refl (mid.still line.Inherited refl w)
    still line.Row off w = moves line.Row refl (mid.still line.Row refl w)
    still line.Final off w = final_reset s a number o (mid.still line.Final refl w)
    still line.Cancelled off w = moves line.Cancelled refl (mid.still line.Cancelled refl w)
    still line.Request off w = moves line.Request refl (mid.still line.Request refl w)
    still line.Overflow off w = moves line.Overflow refl (mid.still line.Overflow refl w)
    still line.Head off w = moves line.Head refl (mid.still line.Head refl w)
    still line.Response off w = moves line.Response refl (mid.still line.Response refl w)
    still line.Pick off w = moves line.Pick refl (mid.still line.Pick refl w)
    still line.Link off w = moves line.Link refl (mid.still line.Link refl w)
    still line.WireEnd off w = moves line.WireEnd refl (mid.still line.WireEnd refl w)
    still line.Reset off w = absurd (cc)
    still line.Shut off w = moves line.Shut refl (mid.still line.Shut refl w)
    still line.Retire off w = moves line.Retire refl (mid.still line.Retire refl w)
    still line.Begin off w = moves line.Begin refl (mid.still line.Begin refl w)
    still line.Give off w = moves line.Give refl (mid.still line.Give refl w)
    still line.Drop off w = moves line.Drop refl (mid.still line.Drop refl w)
    still line.Add off w = moves line.Add refl (mid.still line.Add refl w)

    ended_now : is_unreset (with_reset_queued a) ≡ true
    ended_now = ap (λ (q : Option RowEnd). is_some q || false) (is_owed s a number code).ended

    pub one : IsOne s
    one = record {
      place = a.place;
      number = number;
      seen = z;
      next = next;
      after_is = after_is;
      mid = record {
        current = mid.current;
        still = still;
        books = books_stay s a number x mid.books kept_z;
        afterwards = late_still s a e.index number e.there code kept places f.first e.earlier_ kept_z (placed_of 1 z.attempts kept_z.book.places) links mid.afterwards;
        unreset = all_changed_at is_unreset with_reset_queued a.place s.attempts mid.unreset
            (λ b here. let same : b ≡ a = one_of b here in ap (λ (q : Attempt). is_unreset (with_reset_queued q)) same ∙ ended_now);
      };
      entries = refl;
      setup = refl;
      fewer = λ link row on. sym (out_still s a number link row) ∙ on;
      less = size_less s a e.index number e.there code kept places f.first e.earlier_;
    }
      where
        one_of : (b : Attempt) → numbered s.attempts a.place ≡ Some b → b ≡ a
        one_of b here = let both : Some b ≡ Some a = sym here ∙ there in let same : b ≡ a = (cc) in same

  -- all of them
  pub record HasMade (s : Seen) : Type 0 where
    pub actions : List Action
    pub seen : Seen
    pub does : Does actions s seen
    pub posts : posted_in actions ≡ []
    pub entries : seen.entries ≡ s.entries
    pub setup : seen.setup ≡ s.setup
    pub mid : IsMid seen
    pub none : list_any (is_to_reset seen) seen.attempts ≡ false
    pub fewer : (link row : ℕ) → is_in_outstanding seen link row ≡ true → is_in_outstanding s link row ≡ true

  found : (s : Seen) (a : Attempt) (c : Option ℕ) → IsMid s → foremost is_stream_before (filter (pending s) s.attempts) ≡ Some a → reset_code_of s a ≡ c → is_some c ≡ true → IsOne s
  found s a None mid first code some = absurd (cc)
  found s a (Some number) mid first code some = one s mid a number first code

  not_none : (m n : ℕ) → m ≡ suc n → m ≡ 0 → ⊥
  not_none m n e f = omega (arith, e, f)

  one_down : (m n k : ℕ) → m ≡ suc n → m ≡ suc k → n ≡ k
  one_down m n k e f = omega (arith, e, f)

  made_by : (fuel : ℕ) (q : Option Attempt) (s : Seen) → foremost is_stream_before (filter (pending s) s.attempts) ≡ q → length (filter (pending s) s.attempts) ≡ fuel → IsMid s → HasMade s
  made_by fuel None s e long mid = record {
    actions = [];
    seen = s;
    does = refl;
    posts = refl;
    entries = refl;
    setup = refl;
    mid = mid;
    none = (lines_are_still line.Reset o s).0 (ap (option_and_then (reset_of s)) e);
    fewer = λ link row on. on;
  }
  made_by zero (Some a) s e long mid =
      let n : IsOne s = found s a (reset_code_of s a) mid e refl (is_foremost is_stream_before by_stream_order (pending s) s.attempts a e).passes in
      absurd (not_none (length (filter (pending s) s.attempts)) (length (filter (pending n.seen) n.seen.attempts)) n.less long)
  made_by (suc fuel) (Some a) s e long mid =
      let n : IsOne s = found s a (reset_code_of s a) mid e refl (is_foremost is_stream_before by_stream_order (pending s) s.attempts a e).passes in
      let rest : HasMade n.seen
      = made_by fuel (foremost is_stream_before (filter (pending n.seen) n.seen.attempts)) n.seen refl
      (one_down (length (filter (pending s) s.attempts)) (length (filter (pending n.seen) n.seen.attempts)) fuel n.less long) n.mid in
      record {
        actions = action.StreamReset n.place n.number ∷ rest.actions;
        seen = rest.seen;
        does = (n.next, subst (λ (v : Seen). Does rest.actions v rest.seen) (sym n.after_is) rest.does);
        posts = rest.posts;
        entries = rest.entries ∙ n.entries;
        setup = rest.setup ∙ n.setup;
        mid = rest.mid;
        none = rest.none;
        fewer = λ link row on. n.fewer link row (rest.fewer link row on);
      }

  pub all_made : (s : Seen) → IsMid s → HasMade s
  all_made s mid = made_by (length (filter (pending s) s.attempts)) (foremost is_stream_before (filter (pending s) s.attempts)) s refl refl mid
