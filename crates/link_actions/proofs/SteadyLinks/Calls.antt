-- What is done to calls and their attempts leaves links.
use Rattle.std.proofs.Common.{◌≡◌, ◌∷◌, ◌++◌, ◌==◌, ap, arith, refl, subst, sym, ◌∙◌, Bool, true, false, List, [], Option, None, Some, ℕ, ◌+◌, ◌-◌, suc, filter, if◌then◌else◌, is_none, is_some, length, map, option_map}
use Rattle.std.specs.List.{AllByRecursion}
use Rattle.std.specs.Option.{option_map_or}
use Rattle.attempt_ledger.specs.declared.row.Row.{Row}
use Rattle.grpc_meta.specs.RequestFields.{fields_of_request}
use Rattle.h2_link.specs.Feeds.{Line}
use Rattle.h2_link.specs.Wire.{Wire}
use Rattle.h2_link.specs.declared.live.LiveStream.{LiveStream}
use Rattle.link_actions.proofs.Lists.{on_if}
use Rattle.link_actions.proofs.Opened.{streams, unsorted, waits}
use Rattle.link_actions.proofs.Without.{at_place, changed_at, places_at}
use Rattle.link_actions.proofs.Written.{changed_here}
use Rattle.link_actions.specs.Sees.{StreamsAreFed, StreamsAreLive, AttemptsStandInPlace, IsFed, SeesLink, by_stream}
use Rattle.link_actions.proofs.LossActions.Calls.{changed_any, limit_in, limit_kept}
use Rattle.session_actions.specs.Attempts.{call_of, with_attempt}
use Rattle.session_actions.specs.CallEnds.{call_ended}
use Rattle.session_actions.specs.Calls.{marked, with_call}
use Rattle.session_actions.specs.Commitments.{call_committed, with_commitment}
use Rattle.session_actions.specs.Configs.{chosen_of, deadline}
use Rattle.session_actions.specs.Entries.{entry, now, with_turn}
use Rattle.session_actions.specs.Making.{attempt_made, new_row, with_row}
use Rattle.session_actions.specs.Reading.{is_outstanding_on, outstanding_on}
use Rattle.session_actions.specs.Responses.{limit_of_attempt}
use Rattle.attempt_ledger.specs.Numbering.{is_transparent}
use Rattle.session_actions.specs.Words.{changed, numbered}
use Rattle.session_actions.specs.Writing.{streaming_on}
use Rattle.session_actions.specs.declared.attempt.Attempt.{Attempt}
use Rattle.session_actions.specs.declared.call.Call.{Call}
use Rattle.session_actions.specs.declared.call.MarkKind.{MarkKind}
use Rattle.session_actions.specs.declared.call.MarkKind.TheVariants as mark
use Rattle.session_actions.specs.declared.entry.OpenEntry.{OpenEntry}
use Rattle.session_actions.specs.declared.entry.Turn.{Turn}
use Rattle.session_actions.specs.declared.link.Link.{Link}
use Rattle.session_actions.specs.declared.seen.Seen.{Seen}
use Rattle.link_actions.proofs.SteadyLinks.Left.{links_are_left, links_are_left_but}
use Rattle.link_actions.specs.SteadyLinks.Laws.{AttemptsLeaveLinks, CallEndsLeaveLinks, CommitmentsLeaveLinks, IsLeft}
use Rattle.link_actions.specs.SteadyLinks.Same.{LinesAreSameOn, IsSameOn}

-- what the attempts of a link are fed with, one by one
unfilter : {X : Type 0} (P : X → Type 0) (p : X → Bool) (xs : List X) → AllByRecursion P (filter p xs) → AllByRecursion (λ x. p x ≡ true → P x) xs
unfilter P p [] all = tt
unfilter P p (x ∷ xs) all = unfilter_by P p x xs (p x) refl all (λ h. unfilter P p xs h)
  where
    unfilter_by : {X : Type 0} (P : X → Type 0) (p : X → Bool) (x : X) (xs : List X) (b : Bool) → p x ≡ b → AllByRecursion P (if b then x ∷ filter p xs else filter p xs)
        → (AllByRecursion P (filter p xs) → AllByRecursion (λ y. p y ≡ true → P y) xs) → AllByRecursion (λ y. p y ≡ true → P y) (x ∷ xs)
    unfilter_by P p x xs true e all next = (λ h. all.0, next all.1)
    unfilter_by P p x xs false e all next = (λ h. absurd (let no : true ≡ false = sym h ∙ e in let out : ⊥ = (cc) in out), next all)

either : (P : Attempt → Type 0) (xs : List Attempt) → AllByRecursion (λ a. streams a ≡ true → P a) xs → AllByRecursion (λ a. waits a ≡ true → P a) xs → AllByRecursion P xs
either P [] with_ without_ = tt
either P (a ∷ xs) with_ without_ = (by_stream_ P a a.row.stream refl with_.0 without_.0, either P xs with_.1 without_.1)
  where
    by_stream_ : (P : Attempt → Type 0) (a : Attempt) (o : Option ℕ) → a.row.stream ≡ o → (streams a ≡ true → P a) → (waits a ≡ true → P a) → P a
    by_stream_ P a None e with_ without_ = without_ (ap (λ (o : Option ℕ). is_none o) e)
    by_stream_ P a (Some n) e with_ without_ = with_ (ap (λ (o : Option ℕ). is_some o) e)

zip_fed : (l : Link) (s : Seen) (g : ℕ → Line) (xs : List LiveStream) (as_ : List Attempt) → StreamsAreLive l xs as_ → StreamsAreFed l s g xs as_ → AllByRecursion (λ a. IsFed l s a (g a.place)) as_
zip_fed l s g [] [] live fed_ = tt
zip_fed l s g (x ∷ xs) (a ∷ as_) live fed_ = (subst (λ (n : ℕ). IsFed l s a (g n)) live.0.tag fed_.0, zip_fed l s g xs as_ live.1 fed_.1)
zip_fed l s g [] (a ∷ as_) live fed_ = absurd live
zip_fed l s g (x ∷ xs) [] live fed_ = absurd live

abbrev pub AreAllFed : Link → Seen → (ℕ → Line) → List Attempt → Type 0
AreAllFed l s g xs = AllByRecursion (λ a. is_outstanding_on l a ≡ true → IsFed l s a (g a.place)) xs

pub all_are_fed : (l : Link) (s : Seen) (w : Wire) (g : ℕ → Line) → SeesLink l s w g → AreAllFed l s g s.attempts
all_are_fed l s w g is =
    let F : Attempt → Type 0 = λ a. IsFed l s a (g a.place) in
    let some : AllByRecursion F (streaming_on l s) = unsorted F (streaming_on l s) (zip_fed l s g w.live (by_stream (streaming_on l s)) is.sees.live is.fed) in
    unfilter F (is_outstanding_on l) s.attempts
    (either F (outstanding_on l s) (unfilter F streams (outstanding_on l s) some) (unfilter F waits (outstanding_on l s) is.wait_fed))

-- a change that leaves links
pub left_by : (s t : Seen) → t.links ≡ s.links → ((l : Link) (g : ℕ → Line) → AreAllFed l s g s.attempts → LinesAreSameOn l l s t g s.attempts t.attempts)
    → (AttemptsStandInPlace 1 s.attempts → AttemptsStandInPlace 1 t.attempts) → IsLeft s t
left_by s t links same places = record {
  streams = λ l w g is. links_are_left l l s t w g g is (record { number = refl; traffic_ = refl; owed = refl }) (ap (λ (ls : List Link). numbered ls l.number) links ∙ is.sees.at)
      (same l g (all_are_fed l s w g is.sees)) (places is.sees.places);
  but = λ k l w g is. links_are_left_but k l l s t w g g is (record { number = refl; traffic_ = refl; owed = refl }) (ap (λ (ls : List Link). numbered ls l.number) links ∙ is.sees.at)
      (same l g (all_are_fed l s w g is.sees)) (places is.sees.places);
}

pub then_left : (s t u : Seen) → IsLeft s t → IsLeft t u → IsLeft s u
then_left s t u first next = record {
  streams = λ l w g is. next.streams l w g (first.streams l w g is);
  but = λ k l w g is. next.but k l w g (first.but k l w g is);
}

-- of a call only what was noted of it, and its end
abbrev pub IsNoting : (Call → Call) → Type 0
IsNoting k = (c : Call) → k c ≡ record c { marks = (k c).marks; end = (k c).end }

noted_fed : (l : Link) (s : Seen) (k : Call → Call) (number : ℕ) (a : Attempt) (line : Line) (b : Bool) → (a.row.call == number) ≡ b → IsNoting k → IsFed l s a line
    → IsFed l (with_call k number s) a line
noted_fed l s k number a line true e notes is = record {
  call = record is.call { marks = (k is.call).marks; end = (k is.call).end };
  call_is = changed_any k number a.row.call s.calls ∙ ap (option_map (λ x. if a.row.call == number then k x else x)) is.call_is
      ∙ ap (λ (c : Bool). Some (if c then k is.call else is.call)) e ∙ ap (λ (c : Call). Some c) (notes is.call);
  fields = is.fields;
  written = is.written;
  left = is.left;
  finished = is.finished;
}
noted_fed l s k number a line false e notes is = record {
  call = is.call;
  call_is = changed_any k number a.row.call s.calls ∙ ap (option_map (λ x. if a.row.call == number then k x else x)) is.call_is
      ∙ ap (λ (c : Bool). Some (if c then k is.call else is.call)) e;
  fields = is.fields;
  written = is.written;
  left = is.left;
  finished = is.finished;
}

noted_limit : (s : Seen) (k : Call → Call) (number : ℕ) (a : Attempt) → IsNoting k → limit_of_attempt a (with_call k number s) ≡ limit_of_attempt a s
noted_limit s k number a notes =
    ap (limit_in s) (changed_any k number a.row.call s.calls)
    ∙ limit_kept s k (a.row.call == number) (call_of a s) (λ c. ap (λ (d : Call). (chosen_of d s).response) (notes c))

noted_same : (l : Link) (s : Seen) (g : ℕ → Line) (k : Call → Call) (number : ℕ) (xs : List Attempt) → IsNoting k → AreAllFed l s g xs → LinesAreSameOn l l s (with_call k number s) g xs xs
noted_same l s g k number [] notes fed_ = tt
noted_same l s g k number (a ∷ xs) notes fed_ = (
  record {
    place = refl;
    placed = refl;
    stream = refl;
    ended = refl;
    limit = λ e. noted_limit s k number a notes;
    fed = λ e. noted_fed l s k number a (g a.place) (a.row.call == number) refl notes (fed_.0 e);
  },
  noted_same l s g k number xs notes fed_.1,
)

pub noted_left : (s : Seen) (k : Call → Call) (number : ℕ) → IsNoting k → IsLeft s (with_call k number s)
noted_left s k number notes = left_by s (with_call k number s) refl (λ l g fed_. noted_same l s g k number s.attempts notes fed_) (λ places. places)

pub marked_left : (s : Seen) (what : MarkKind) (number : ℕ) → IsLeft s (marked what number s)
marked_left s what number = noted_left s (λ c. record c { marks = c.marks ++ record { what = what; moment = now s } ∷ [] }) number (λ c. refl)

pub call_ends_leave_links : CallEndsLeaveLinks
call_ends_leave_links s number why =
    let t : Seen = marked mark.Closed number s in
    then_left s t (call_ended number why s) (marked_left s mark.Closed number)
    (noted_left t (λ c. record c { end = Some (record { entry = entry s; moment = now s; cause = why }) }) number (λ c. refl))

-- an attempt that is committed
committed_one : (l : Link) (s : Seen) (g : ℕ → Line) (e k : ℕ) (as_ : List Attempt) (a : Attempt) → (is_outstanding_on l a ≡ true → IsFed l s a (g a.place))
    → IsSameOn l l s (record s { attempts = as_ }) g a (at_place (with_commitment e) k a)
committed_one l s g e k as_ a fed_ =
    let t : Seen = record s { attempts = as_ } in
    let kept : (b : Bool) → IsSameOn l l s t g a (if b then with_commitment e a else a) = λ b. committed_by l s g e as_ a b fed_ in
    kept (a.place == k)
  where
    again : (l : Link) (s : Seen) (as_ : List Attempt) (a : Attempt) (e : ℕ) (line : Line) → IsFed l s a line → IsFed l (record s { attempts = as_ }) (with_commitment e a) line
    again l s as_ a e line is = record { call = is.call; call_is = is.call_is; fields = is.fields; written = is.written; left = is.left; finished = is.finished }

    itself_ : (l : Link) (s : Seen) (as_ : List Attempt) (a : Attempt) (line : Line) → IsFed l s a line → IsFed l (record s { attempts = as_ }) a line
    itself_ l s as_ a line is = record { call = is.call; call_is = is.call_is; fields = is.fields; written = is.written; left = is.left; finished = is.finished }

    committed_by : (l : Link) (s : Seen) (g : ℕ → Line) (e : ℕ) (as_ : List Attempt) (a : Attempt) (b : Bool) → (is_outstanding_on l a ≡ true → IsFed l s a (g a.place))
        → IsSameOn l l s (record s { attempts = as_ }) g a (if b then with_commitment e a else a)
    committed_by l s g e as_ a true fed_ = record {
      place = refl;
      placed = refl;
      stream = refl;
      ended = refl;
      limit = λ h. refl;
      fed = λ h. again l s as_ a e (g a.place) (fed_ h);
    }
    committed_by l s g e as_ a false fed_ = record {
      place = refl;
      placed = refl;
      stream = refl;
      ended = refl;
      limit = λ h. refl;
      fed = λ h. itself_ l s as_ a (g a.place) (fed_ h);
    }

committed_same : (l : Link) (s : Seen) (g : ℕ → Line) (e k : ℕ) (as_ xs : List Attempt) → AreAllFed l s g xs
    → LinesAreSameOn l l s (record s { attempts = as_ }) g xs (map (at_place (with_commitment e) k) xs)
committed_same l s g e k as_ [] fed_ = tt
committed_same l s g e k as_ (a ∷ xs) fed_ = (committed_one l s g e k as_ a fed_.0, committed_same l s g e k as_ xs fed_.1)

placed_left : (s : Seen) (place : ℕ) (a : Attempt) (e : ℕ) → numbered s.attempts place ≡ Some a → IsLeft s (with_attempt (with_commitment e) place s)
placed_left s place a e there = record {
  streams = λ l w g is. (left_when is.sees.places).streams l w g is;
  but = λ k l w g is. (left_when is.sees.places).but k l w g is;
}
  where
    left_when : AttemptsStandInPlace 1 s.attempts → IsLeft s (with_attempt (with_commitment e) place s)
    left_when places =
        let same : changed (with_commitment e) place s.attempts ≡ map (at_place (with_commitment e) place) s.attempts = changed_at (with_commitment e) place s.attempts a places there in
        let all : List Attempt = map (at_place (with_commitment e) place) s.attempts in
        subst (λ (as_ : List Attempt). IsLeft s (record s { attempts = as_ })) (sym same)
        (left_by s (record s { attempts = all }) refl (λ l g fed_. committed_same l s g e place all s.attempts fed_)
        (λ h. places_at (with_commitment e) (λ b. refl) place 1 s.attempts h))

pub commitments_leave_links : CommitmentsLeaveLinks
commitments_leave_links s place a there =
    let f : Attempt → Attempt = with_commitment (entry s) in
    let u : Seen = with_attempt f place s in
    let here : numbered u.attempts place ≡ Some (f a) = changed_here f place s.attempts a there in
    let same : call_committed place s ≡ marked mark.Committed a.row.call u = ap (λ (o : Option Attempt). option_map_or (λ (b : Attempt). marked mark.Committed b.row.call u) o u) here in
    subst (IsLeft s) (sym same) (then_left s u (marked mark.Committed a.row.call u) (placed_left s place a (entry s) there) (marked_left u mark.Committed a.row.call))

-- an attempt that is made
made_fed : (l : Link) (s : Seen) (as_ : List Attempt) (a : Attempt) (line : Line) → IsFed l s a line → IsFed l (record s { attempts = as_ }) a line
made_fed l s as_ a line is = record { call = is.call; call_is = is.call_is; fields = is.fields; written = is.written; left = is.left; finished = is.finished }

made_same : (l : Link) (s : Seen) (g : ℕ → Line) (as_ xs : List Attempt) (b : Attempt) → b.row.placed ≡ None → AreAllFed l s g xs → LinesAreSameOn l l s (record s { attempts = as_ }) g xs (xs ++ b ∷ [])
made_same l s g as_ [] b none fed_ = (none, tt)
made_same l s g as_ (a ∷ xs) b none fed_ = (
  record { place = refl; placed = refl; stream = refl; ended = refl; limit = λ h. refl; fed = λ h. made_fed l s as_ a (g a.place) (fed_.0 h) },
  made_same l s g as_ xs b none fed_.1,
)

places_snoc : (n : ℕ) (xs : List Attempt) (b : Attempt) → b.place ≡ n + length xs → AttemptsStandInPlace n xs → AttemptsStandInPlace n (xs ++ b ∷ [])
places_snoc n [] b e places = ((let at : b.place ≡ n + 0 = e in omega (arith, at)), tt)
places_snoc n (x ∷ xs) b e places = (places.0, places_snoc (n + 1) xs b (let at : b.place ≡ n + length (x ∷ xs) = e in made_at n (length xs) b.place at) places.1)
  where
    made_at : (n k m : ℕ) → m ≡ n + suc k → m ≡ n + 1 + k
    made_at n k m h = omega (arith, h)

made_left : (s : Seen) (row : Row) → row.placed ≡ None → IsLeft s (with_row row s)
made_left s row none =
    let b : Attempt = record { place = length s.attempts + 1; row = row; made = entry s; reset = false } in
    let at : b.place ≡ 1 + length s.attempts = omega arith in
    left_by s (with_row row s) refl (λ l g fed_. made_same l s g (s.attempts ++ b ∷ []) s.attempts b none fed_) (λ places. places_snoc 1 s.attempts b at places)

-- the pass over the queue begins anew
moment_by : (o : Option OpenEntry) (t : Option Turn) (last : ℕ)
    → option_map_or (λ (x : OpenEntry). x.moment) (option_map (λ (x : OpenEntry). record x { turn = t }) o) last ≡ option_map_or (λ (x : OpenEntry). x.moment) o last
moment_by None t last = refl
moment_by (Some x) t last = refl

turned_fed : (l : Link) (s : Seen) (t : Option Turn) (a : Attempt) (line : Line) → IsFed l s a line → IsFed l (with_turn t s) a line
turned_fed l s t a line is = record {
  call = is.call;
  call_is = is.call_is;
  fields = is.fields
      ∙ ap (λ (n : ℕ). fields_of_request is.call.request s.setup.authority (option_map (λ moment. moment - n) (deadline is.call s)) a.row.number) (sym (moment_by s.current t _));
  written = is.written;
  left = is.left;
  finished = is.finished;
}

turned_same : (l : Link) (s : Seen) (g : ℕ → Line) (t : Option Turn) (xs : List Attempt) → AreAllFed l s g xs → LinesAreSameOn l l s (with_turn t s) g xs xs
turned_same l s g t [] fed_ = tt
turned_same l s g t (a ∷ xs) fed_ = (
  record { place = refl; placed = refl; stream = refl; ended = refl; limit = λ h. refl; fed = λ h. turned_fed l s t a (g a.place) (fed_.0 h) },
  turned_same l s g t xs fed_.1,
)

turned_left : (s : Seen) (t : Option Turn) → IsLeft s (with_turn t s)
turned_left s t = left_by s (with_turn t s) refl (λ l g fed_. turned_same l s g t s.attempts fed_) (λ places. places)

pub itself_left : (s : Seen) → IsLeft s s
itself_left s = record { streams = λ l w g is. is; but = λ k l w g is. is }

pub attempts_leave_links : AttemptsLeaveLinks
attempts_leave_links s call number k due =
    let row : Row = new_row call number k due in
    let u : Seen = with_row row s in
    let v : Seen = marked (mark.Made (length s.attempts + 1)) call u in
    let none : Option Turn = None in
    then_left s v (attempt_made call number k due s) (then_left s u v (made_left s row refl) (marked_left u (mark.Made (length s.attempts + 1)) call))
    (on_if (λ (t : Seen). IsLeft v t) (is_transparent k) v (with_turn none v) (λ e. itself_left v) (λ e. turned_left v none))
