-- The commitment of a call with its cuts and resets is of that call alone, and no bucket counts it.
use Rattle.std.proofs.Common.{◌≡◌, ◌&&◌, ◌==◌, ◌∷◌, ◌++◌, not, ap, refl, subst, sym, ◌∙◌, Bool, true, List, [], Option, None, Some, ℕ, if◌then◌else◌, is_some, map}
use Rattle.std.proofs.lemmas.Bool.{eq-eqb}
use Rattle.std.specs.Option.{option_and_then, option_map, option_map_or}
use Rattle.a6_numbers.specs.Throttling.{Bucket}
use Rattle.attempt_ledger.specs.Ends.{is_cut}
use Rattle.attempt_ledger.specs.declared.row.RowEnd.{RowEnd}
use Rattle.call_actions.specs.Sees.{bucket_of}
use Rattle.attempt_cases.proofs.CallCommits.On as on_
use Rattle.attempt_cases.proofs.CallCommits.On.{are_cut, kept_on, next, on, own, resets, t, their}
use Rattle.call_cases.proofs.CommitsFollow.Cuts.{IsOneCut, one_cut}
use Rattle.call_cases.proofs.CommitsFollow.Follow as follow
use Rattle.call_cases.proofs.CommitsFollow.Follow.{HasCut, cut_all}
use Rattle.call_cases.proofs.CommitsFollow.Steps.{IsMid, IsOneReset, IsReset, after_is, mid_cut, one_reset, reset_mid}
use Rattle.attempt_cases.specs.CallCommits.Commits.{CommitsNext}
use Rattle.call_cases.specs.CommitsFollow.Laws.{IsNextToCommit}
use Rattle.call_core.specs.declared.inbox.Inbox.{Inbox}
use Rattle.call_actions.proofs.CallsApart.Books.{books_stay, tokens_stay}
use Rattle.call_actions.proofs.CallsApart.Fair.{lines_are_fair}
use Rattle.call_actions.specs.CallsApart.Apart.{IsBook, IsFair, counts_in, run_counting, run_number}
use Rattle.call_actions.specs.CallsApart.Laws.{tokens_in_run}
use Rattle.channel_actions.specs.Configs.{SeesBuckets, bucket_in, runs_in_turn}
use Rattle.channel_core.specs.States.{StateSeen}
use Rattle.call_cases.proofs.EndsFollow.Stays.{IsBase}
use Rattle.call_cases.specs.EndsFollow.Cuts.{StreamsAreReset, cut_off}
use Rattle.channel_actions.specs.KeptSessions.Kept.{IsKept}
use Rattle.call_cases.specs.OtherCalls.Others.{ActionsAreOfCall, GoesApart, IsBooked, IsOfCall}
use Rattle.session_actions.specs.Actions.{after, after_if}
use Rattle.session_actions.specs.AttemptEnds.{cut_end, end_of, stream_reset_of}
use Rattle.session_actions.specs.Commitments.{call_committed}
use Rattle.session_actions.specs.Attempts.{is_to_follow}
use Rattle.session_actions.specs.Sessions.{Does, IsNext}
use Rattle.session_actions.specs.Words.{is_number, last_of, numbered}
use Rattle.session_actions.specs.declared.action.Action.{Action}
use Rattle.session_actions.specs.declared.action.Action.TheVariants as action
use Rattle.session_actions.specs.declared.action.CommitCause.{CommitCause}
use Rattle.session_actions.specs.declared.attempt.Attempt.{Attempt}
use Rattle.session_actions.specs.declared.call.Call.{Call}
use Rattle.session_actions.specs.declared.config.HeldConfig.{HeldConfig}
use Rattle.session_actions.specs.declared.config.ThrottleRun.{ThrottleRun}
use Rattle.session_actions.specs.declared.entry.OpenEntry.{OpenEntry}
use Rattle.session_actions.specs.declared.seen.Seen.{Seen}
use Rattle.session_order.specs.declared.line.Line.{Line}
use Rattle.call_actions.specs.TakeActions.Cuts.{AttemptsAreCut}

-- an action is of the call, and no bucket counts it
record IsOurs (n : ℕ) (a : Action) (v : Seen) : Type 0 where
  of : IsOfCall n a v
  counts : counts_in a v ≡ None
  runs : (after a v).runs ≡ v.runs

abbrev AreOurs : ℕ → List Action → Seen → Type 0
AreOurs n [] v = Unit {0}
AreOurs n (a ∷ acts) v = IsOurs n a v × AreOurs n acts (after a v)

ours_on : (n : ℕ) (xs ys : List Action) (s t : Seen) → AreOurs n xs s → Does xs s t → AreOurs n ys t → AreOurs n (xs ++ ys) s
ours_on n [] ys s t are does rest = subst (AreOurs n ys) does rest
ours_on n (x ∷ xs) ys s t are does rest = (are.0, ours_on n xs ys (after x s) t are.1 does.1 rest)

of_ours : (n : ℕ) (acts : List Action) (s : Seen) → AreOurs n acts s → ActionsAreOfCall n acts s
of_ours n [] s are = tt
of_ours n (a ∷ acts) s are = (are.0.of, of_ours n acts (after a s) are.1)

count_by : (v : Seen) (e : RowEnd) (o : Option Call) → is_cut e.cause ≡ true
    → option_and_then (λ (c : Call). if not (is_cut e.cause) && not (is_to_follow c e.cause e.unseen v) then run_number c v else None) o ≡ None
count_by v e None is = refl
count_by v e (Some c) is = ap (λ (q : Bool). if not q && not (is_to_follow c e.cause e.unseen v) then run_number c v else None) is

uncounted : (v : Seen) (e : RowEnd) (o : Option Attempt) → is_cut e.cause ≡ true → option_and_then (run_counting e v) o ≡ None
uncounted v e None is = refl
uncounted v e (Some a) is = count_by v e (numbered v.calls a.row.call) is

module _ (waits : Line → Bool) (n : ℕ) (k : Attempt) (o : OpenEntry) (b v : Seen) (base : IsBase n b) (goes : k.row.ended ≡ None) where
  our_cut : (act : Action) → IsOneCut n k.row.number v act o → IsOurs n act v
  our_cut act one =
      let e : RowEnd = end_of one.attempt cut_end v in
      record {
        of = subst (λ (x : Action). IsOfCall n x v) (sym one.act_is)
            (record {
              acts = ap (λ (q : Option Attempt). option_map_or (λ (k : ℕ). k == n) (option_map (λ (a : Attempt). a.row.call) q) true) one.out.there ∙ one.own;
              passes = λ c at off. refl;
            });
        counts = ap (λ (x : Action). counts_in x v) one.act_is ∙ uncounted v e (numbered v.attempts one.attempt.place) refl;
        runs = ap (λ (z : Seen). z.runs) (one.does ∙ one.after_is);
      }

  our_reset : (act : Action) → IsReset waits n k o b v → IsOneReset n v act → IsOurs n act v
  our_reset act is one = record {
    of = subst (λ (x : Action). IsOfCall n x v) (sym one.act_is)
        (record {
          acts = ap (λ (q : Option Attempt). option_map_or (λ (k : ℕ). k == n) (option_map (λ (a : Attempt). a.row.call) q) true) one.there ∙ one.own;
          passes = λ c at off. refl;
        });
    counts = ap (λ (x : Action). counts_in x v) one.act_is;
    runs = ap (λ (z : Seen). z.runs) (after_is waits n k o b v base goes is act one);
  }

module _ (waits : Line → Bool) (n : ℕ) (k : Attempt) (o : OpenEntry) (b : Seen) (base : IsBase n b) (goes : k.row.ended ≡ None) where
  our_cuts : (cuts : List Action) (v t : Seen) → IsMid waits n k o b v → AttemptsAreCut n cuts v t → AreOurs n cuts v
  our_cuts [] v t is are = tt
  our_cuts (act ∷ cuts) v t is are =
      let one : IsOneCut n k.row.number v act o = one_cut n k v act o is.left.done is.book.places is.current are.0 in (
        our_cut waits n k o b v base goes act one,
        subst (AreOurs n cuts) (sym one.does)
            (our_cuts cuts (cut_off one.attempt v) t (mid_cut waits n k o b v base goes is act one) (subst (λ (z : Seen). AttemptsAreCut n cuts z t) one.does are.1)),
      )

  our_resets : (acts : List Action) (v u : Seen) → IsReset waits n k o b v → StreamsAreReset acts v u → AreOurs n acts v
  our_resets [] v u is are = tt
  our_resets (act ∷ acts) v u is are =
      let one : IsOneReset n v act = one_reset waits n k o b v is act are.0 in
      let after_one : IsReset waits n k o b (after act v) = subst (IsReset waits n k o b) (sym (after_is waits n k o b v base goes is act one)) (reset_mid waits n k o b v base goes is act one) in
      (our_reset waits n k o b v base goes act is one, our_resets acts (after act v) u after_one are.1)

  -- what each cut keeps, all of them do; and each reset
  pub cuts_carry : (P : Seen → Type 0) → ((v : Seen) (act : Action) (one : IsOneCut n k.row.number v act o) → P v → P (cut_off one.attempt v))
      → (cuts : List Action) (v t : Seen) → IsMid waits n k o b v → AttemptsAreCut n cuts v t → P v → P t
  cuts_carry P keeps [] v t is are h = subst P (sym are.1) h
  cuts_carry P keeps (act ∷ cuts) v t is are h =
      let one : IsOneCut n k.row.number v act o = one_cut n k v act o is.left.done is.book.places is.current are.0 in
      cuts_carry P keeps cuts (cut_off one.attempt v) t (mid_cut waits n k o b v base goes is act one) (subst (λ (z : Seen). AttemptsAreCut n cuts z t) one.does are.1) (keeps v act one h)

  pub resets_carry : (P : Seen → Type 0) → ((v : Seen) (a : Attempt) (number : ℕ) → P v → P (stream_reset_of number v a))
      → (acts : List Action) (v u : Seen) → IsReset waits n k o b v → StreamsAreReset acts v u → P v → P u
  resets_carry P keeps [] v u is are h = subst P (sym are.1) h
  resets_carry P keeps (act ∷ acts) v u is are h =
      let one : IsOneReset n v act = one_reset waits n k o b v is act are.0 in
      let now_is : after act v ≡ stream_reset_of one.number v one.attempt = after_is waits n k o b v base goes is act one in
      resets_carry P keeps acts (after act v) u (subst (IsReset waits n k o b) (sym now_is) (reset_mid waits n k o b v base goes is act one)) are.1
      (subst P (sym now_is) (keeps v one.attempt one.number h))

-- what a bucket holds is as before
fair_next : (s : Seen) (a : Action) → IsBook s → IsNext a s → IsFair a s
fair_next s (action.AttemptEnds row end) book is_next = lines_are_fair s (action.AttemptEnds row end) book is_next
fair_next s (action.CallConfigured call config) book is_next = lines_are_fair s (action.CallConfigured call config) book is_next
fair_next s _ book is_next = tt

tokens_along : (n k : ℕ) (acts : List Action) (v u : Seen) → IsBook v → AreOurs n acts v → Does acts v u → is_some (numbered v.runs k) ≡ true
    → tokens_in_run u (Some k) ≡ tokens_in_run v (Some k)
tokens_along n k [] v u book are does there = ap (λ (z : Seen). tokens_in_run z (Some k)) does
tokens_along n k (a ∷ acts) v u book are does there =
    let fair : IsFair a v = fair_next v a book does.0 in
    tokens_along n k acts (after a v) u (books_stay v a book fair) are.1 does.1 (ap (λ (rs : List ThrottleRun). is_some (numbered rs k)) are.0.runs ∙ there)
    ∙ tokens_stay v a k book fair there (ap (is_number k) are.0.counts)

map_same : {X Y : Type 0} (f g : X → Y) → ((x : X) → f x ≡ g x) → (xs : List X) → map f xs ≡ map g xs
map_same f g same [] = refl
map_same {X} {Y} f g same (x ∷ xs) = ap (λ (y : Y). y ∷ map f xs) (same x) ∙ ap (λ (ys : List Y). g x ∷ ys) (map_same f g same xs)

module _ (waits : Line → Bool) (n : ℕ) (why : CommitCause) (inbox : Inbox) (x : StateSeen) (o : OpenEntry) (s : Seen) (is : CommitsNext waits n why inbox x o s) where
  abbrev u : Seen
  u = on_.u waits n why inbox x o s is

  abbrev pub to : IsNextToCommit waits n why o s
  to = next waits n why inbox x o s is

  abbrev b1 : Seen
  b1 = call_committed is.attempt.place s

  abbrev pub b2 : Seen
  b2 = follow.b waits n why o s to

  abbrev pub kept_one : Attempt
  kept_one = follow.k waits n why o s to

  abbrev mid_seen : Seen
  mid_seen = t waits n why inbox x o s is

  abbrev cuts : List Action
  cuts = their waits n why inbox x o s is

  abbrev acts : List Action
  acts = cuts ++ (resets waits n why inbox x o s is).actions

  pub is_b : b1 ≡ b2
  is_b = follow.committed_is waits n why o s to

  pub are_cut_b : AttemptsAreCut n cuts b2 mid_seen
  are_cut_b = subst (λ (z : Seen). AttemptsAreCut n cuts z mid_seen) is_b (are_cut waits n why inbox x o s is)

  pub has_cut : HasCut waits is.late n kept_one o b2 (follow.base waits n why o s to) (follow.goes waits n why o s to) b2 mid_seen cuts
  has_cut = cut_all waits n why o s to mid_seen u cuts (resets waits n why inbox x o s is).actions (are_cut waits n why inbox x o s is) (resets waits n why inbox x o s is).resets

  after_commit : after (action.CallCommitted is.attempt.place why) s ≡ b2
  after_commit = ap (λ (q : Option OpenEntry). after_if q (action.CallCommitted is.attempt.place why) s) is.current ∙ is_b

  rest_ours : AreOurs n acts b2
  rest_ours =
      ours_on n cuts (resets waits n why inbox x o s is).actions b2 mid_seen
      (our_cuts waits n kept_one o b2 (follow.base waits n why o s to) (follow.goes waits n why o s to) cuts b2 mid_seen (follow.mid waits n why o s to) are_cut_b)
      has_cut.does
      (our_resets waits n kept_one o b2 (follow.base waits n why o s to) (follow.goes waits n why o s to) (resets waits n why inbox x o s is).actions mid_seen u has_cut.reset
      (resets waits n why inbox x o s is).resets)

  its_call : (is.attempt.row.call == n) ≡ true
  its_call = ap (λ (m : ℕ). is.attempt.row.call == m) (sym (own waits n why inbox x o s is)) ∙ is.can.mine

  ours : AreOurs n (action.CallCommitted is.attempt.place why ∷ acts) s
  ours = (
    record {
      of = record {
        acts = ap (λ (q : Option Attempt). option_map_or (λ (k : ℕ). k == n) (option_map (λ (a : Attempt). a.row.call) q) true) is.can.at ∙ its_call;
        passes = λ c at off. refl;
      };
      counts = refl;
      runs = ap (λ (z : Seen). z.runs) after_commit;
    },
    subst (AreOurs n acts) (sym after_commit) rest_ours,
  )

  booked : (v : Seen) → IsKept v → IsBooked v
  booked v k = record { book = k.book; owned = k.owned; reads = k.reads }

  pub goes_apart : GoesApart n s u
  goes_apart = record {
    actions = action.CallCommitted is.attempt.place why ∷ acts;
    does = (on waits n why inbox x o s is).does;
    apart = of_ours n (action.CallCommitted is.attempt.place why ∷ acts) s ours;
    earlier = booked s is.agrees.kept;
    later = booked u (kept_on waits n why inbox x o s is);
  }

  bucket_by : (k : ℕ) (q : Option ThrottleRun) → numbered s.runs k ≡ q → bucket_in u (Some k) ≡ bucket_in s (Some k)
  bucket_by k None e =
      ap (λ (rs : List ThrottleRun). option_map (bucket_of u) (numbered rs k)) (on waits n why inbox x o s is).rest.runs ∙ ap (option_map (bucket_of u)) e ∙ sym (ap (option_map (bucket_of s)) e)
  bucket_by k (Some r) e =
      tokens_along n k (action.CallCommitted is.attempt.place why ∷ acts) s u is.agrees.kept.book ours (on waits n why inbox x o s is).does (ap (λ (z : Option ThrottleRun). is_some z) e)

  bucket_same : (run : Option ℕ) → bucket_in u run ≡ bucket_in s run
  bucket_same None = refl
  bucket_same (Some k) = bucket_by k (numbered s.runs k) refl

  pub buckets_on : SeesBuckets x.book.buckets u
  buckets_on = record {
    runs = ap (λ (hs : List HeldConfig). None ∷ map (bucket_in u) (runs_in_turn hs)) (on waits n why inbox x o s is).rest.configs
        ∙ ap (λ (l : List (Option Bucket)). None ∷ l) (map_same (bucket_in u) (bucket_in s) bucket_same (runs_in_turn s.configs)) ∙ is.agrees.buckets.runs;
    throttle = ap (λ (hs : List HeldConfig). option_and_then (λ (h : HeldConfig). h.config.throttle) (last_of hs)) (on waits n why inbox x o s is).rest.configs ∙ is.agrees.buckets.throttle;
  }
