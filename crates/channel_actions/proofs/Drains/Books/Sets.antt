-- Sets, buckets and calls after a drain.
use Rattle.std.proofs.Common.{◌≡◌, ◌&&◌, ◌==◌, ◌∷◌, ap, refl, subst, sym, ◌∙◌, Bool, true, false, List, [], Option, None, Some, ℕ, cond, filter, if◌then◌else◌, map, not}
use Rattle.std.specs.Option.{option_and_then, option_map}
use Rattle.std.specs.Prelude.{fold}
use Rattle.a6_numbers.specs.Throttling.{Bucket}
use Rattle.call_actions.proofs.Ranks.{numbered_map}
use Rattle.call_actions.specs.Sees.{bucket_of}
use Rattle.channel_actions.specs.Calls.{due_of}
use Rattle.channel_actions.specs.Configs.{SeesBuckets, bucket_in, runs_in_turn}
use Rattle.channel_actions.specs.Sets.{PairsAreExactly, SeesSets, is_awaiting_config, is_in_deadlines, is_in_dues, is_in_fail_fast, is_in_outstanding, is_in_ready_waiters, is_in_queue, is_ready_waiter, is_waiting}
use Rattle.channel_core.specs.States.{StateSeen}
use Rattle.channel_actions.specs.DrainBooks.Laws.{SetsAreSame, BucketsStay, CallColumnsStay, SetsStay}
use Rattle.channel_actions.proofs.Drains.Calls.Streamed.{streamed_is}
use Rattle.session_actions.specs.Attempts.{is_of, is_outstanding, is_queued}
use Rattle.session_actions.specs.Calls.{is_open_call}
use Rattle.session_actions.specs.Links.{link_number}
use Rattle.session_actions.specs.Sessions.{call_seen}
use Rattle.session_actions.specs.Tokens.{tokens_by, tokens_in}
use Rattle.session_actions.specs.Words.{holds, is_number, numbered}
use Rattle.session_actions.specs.declared.attempt.Attempt.{Attempt}
use Rattle.session_actions.specs.declared.call.Call.{Call}
use Rattle.session_actions.specs.declared.config.ThrottleRun.{ThrottleRun}
use Rattle.session_actions.specs.declared.entry.OpenEntry.{OpenEntry}
use Rattle.session_actions.specs.declared.link.Link.{Link}
use Rattle.session_actions.specs.declared.seen.Seen.{Seen}
use Rattle.session_order.proofs.Lists.{holds_same}
use Rattle.channel_actions.proofs.Streams.Opened.Dues.{next_same}
use Rattle.channel_actions.proofs.Streams.Opened.Rows.{h, queued_same, t}
use Rattle.channel_actions.proofs.Streams.Opened.Streams.{streams_of}

-- lists
map_same : {X Y : Type 0} (f g : X → Y) → ((x : X) → f x ≡ g x) → (xs : List X) → map f xs ≡ map g xs
map_same f g same [] = refl
map_same f g same (x ∷ xs) = ap (λ (y : _). y ∷ map f xs) (same x) ∙ ap (λ (l : List _). g x ∷ l) (map_same f g same xs)

map_cond : (f : Attempt → Attempt) (b : Bool) (x : Attempt) (xs : List Attempt) → cond b (f x ∷ map f xs) (map f xs) ≡ map f (cond b (x ∷ xs) xs)
map_cond f true x xs = refl
map_cond f false x xs = refl

filter_map_so : (p : Attempt → Bool) (f : Attempt → Attempt) → ((a : Attempt) → p (f a) ≡ p a) → (xs : List Attempt) → filter p (map f xs) ≡ map f (filter p xs)
filter_map_so p f same [] = refl
filter_map_so p f same (x ∷ xs) =
    ap (λ (b : Bool). cond b (f x ∷ filter p (map f xs)) (filter p (map f xs))) (same x)
    ∙ ap (λ (l : List Attempt). cond (p x) (f x ∷ l) l) (filter_map_so p f same xs) ∙ map_cond f (p x) x (filter p xs)

made_map : (f : Attempt → Attempt) → ((a : Attempt) → (f a).made ≡ a.made) → (xs : List Attempt) → map (λ (a : Attempt). a.made) (map f xs) ≡ map (λ (a : Attempt). a.made) xs
made_map f same [] = refl
made_map f same (x ∷ xs) = ap (λ (n : ℕ). n ∷ map (λ (a : Attempt). a.made) (map f xs)) (same x) ∙ ap (λ (l : List ℕ). x.made ∷ l) (made_map f same xs)

fold_same : (f g : ℕ → ℕ → ℕ) → ((n p : ℕ) → f n p ≡ g n p) → (n : ℕ) (ps : List ℕ) → fold f n ps ≡ fold g n ps
fold_same f g same n [] = refl
fold_same f g same n (p ∷ ps) = ap (λ (m : ℕ). fold f m ps) (same n p) ∙ fold_same f g same (g n p) ps

abbrev bucket_with : ThrottleRun → ℕ → Bucket
bucket_with run n = record { start = run.throttle.start; ratio = run.throttle.ratio; count = n }

module _ (s : Seen) (g : ℕ → Option ℕ) (ls : List Link) (current : Option OpenEntry) where
  abbrev f : Attempt → Attempt
  f a = h s g ls current a

  abbrev u : Seen
  u = t s g ls current

  -- a test of the attempt of a row
  held : (test old : Attempt → Bool) → ((a : Attempt) → test (f a) ≡ old a) → (o : Option Attempt) → holds test (option_map f o) ≡ holds old o
  held test old same None = refl
  held test old same (Some a) = same a

  of_row : (test old : Attempt → Bool) → ((a : Attempt) → test (f a) ≡ old a) → (row : ℕ) → holds test (numbered u.attempts row) ≡ holds old (numbered s.attempts row)
  of_row test old same row = ap (holds test) (numbered_map f s.attempts row) ∙ held test old same (numbered s.attempts row)

  waiting_same : (call row : ℕ) → is_waiting u call row ≡ is_waiting s call row
  waiting_same call row =
      of_row (λ (a : Attempt). (a.row.call == call) && is_queued a u) (λ (a : Attempt). (a.row.call == call) && is_queued a s)
      (λ a. ap (λ (b : Bool). (a.row.call == call) && b) (queued_same s g ls current a)) row

  queue_same : (call row : ℕ) → is_in_queue u call row ≡ is_in_queue s call row
  queue_same call row = ap (λ (b : Bool). b && not (is_ready_waiter s call)) (waiting_same call row)

  wait_for_ready_same : (call row : ℕ) → is_in_ready_waiters u call row ≡ is_in_ready_waiters s call row
  wait_for_ready_same call row = ap (λ (b : Bool). b && is_ready_waiter s call) (waiting_same call row)

  dues_same : (moment call : ℕ) → is_in_dues u moment call ≡ is_in_dues s moment call
  dues_same moment call =
      holds_same (λ (c : Call). is_number moment (due_of u c)) (λ (c : Call). is_number moment (due_of s c))
      (λ c. ap (λ (d : Option ℕ). is_number moment (if is_open_call c then d else None)) (next_same s g ls current c)) (numbered s.calls call)

  outstanding_same : (link row : ℕ) → is_in_outstanding u link row ≡ is_in_outstanding s link row
  outstanding_same link row =
      of_row (λ (a : Attempt). is_outstanding a && (link_number a == link)) (λ (a : Attempt). is_outstanding a && (link_number a == link)) (λ a. refl) row

  exact_by : (pairs more : List (ℕ × ℕ)) (test old : ℕ → ℕ → Bool) → more ≡ pairs → ((a b : ℕ) → test a b ≡ old a b) → PairsAreExactly pairs old → PairsAreExactly more test
  exact_by pairs more test old e same is =
      subst (λ (l : List (ℕ × ℕ)). PairsAreExactly l test) (sym e) (record { rising = is.rising; exact = λ a b. is.exact a b ∙ sym (same a b) })

  pub sets_so : (x y : StateSeen) → SetsAreSame x y → SeesSets x s → SeesSets y u
  sets_so x y same is = record {
    queue = exact_by x.queue y.queue (is_in_queue u) (is_in_queue s) same.queue queue_same is.queue;
    ready_waiters = exact_by x.ready_waiters y.ready_waiters (is_in_ready_waiters u) (is_in_ready_waiters s) same.ready_waiters wait_for_ready_same is.ready_waiters;
    dues = exact_by x.dues y.dues (is_in_dues u) (is_in_dues s) same.dues dues_same is.dues;
    deadlines = exact_by x.deadlines y.deadlines (is_in_deadlines u) (is_in_deadlines s) same.deadlines (λ a b. refl) is.deadlines;
    awaiting_config = exact_by x.awaiting_config y.awaiting_config (is_awaiting_config u) (is_awaiting_config s) same.awaiting_config (λ a b. refl) is.awaiting_config;
    fail_fast = exact_by x.fail_fast y.fail_fast (is_in_fail_fast u) (is_in_fail_fast s) same.fail_fast (λ a b. refl) is.fail_fast;
    outstanding = exact_by x.outstanding y.outstanding (is_in_outstanding u) (is_in_outstanding s) same.outstanding outstanding_same is.outstanding;
    resets = same.resets ∙ is.resets;
  }

  -- tokens
  token_by : (run : ThrottleRun) (n : ℕ) (o : Option Attempt) → tokens_by run u n (option_map f o) ≡ tokens_by run s n o
  token_by run n None = refl
  token_by run n (Some a) = refl

  tokens_same : (run : ThrottleRun) → tokens_in run u ≡ tokens_in run s
  tokens_same run =
      fold_same (λ (n place : ℕ). tokens_by run u n (numbered u.attempts place)) (λ (n place : ℕ). tokens_by run s n (numbered s.attempts place))
      (λ n place. ap (tokens_by run u n) (numbered_map f s.attempts place) ∙ token_by run n (numbered s.attempts place)) run.throttle.start run.ends

  bucket_by : (o : Option ThrottleRun) → option_map (bucket_of u) o ≡ option_map (bucket_of s) o
  bucket_by None = refl
  bucket_by (Some run) = ap (λ (n : ℕ). Some (bucket_with run n)) (tokens_same run)

  pub buckets_so : map (bucket_in u) (runs_in_turn s.configs) ≡ map (bucket_in s) (runs_in_turn s.configs)
  buckets_so = map_same (bucket_in u) (bucket_in s) (λ run. bucket_by (option_and_then (numbered s.runs) run)) (runs_in_turn s.configs)

  -- calls
  pub calls_so : map (call_seen u) s.calls ≡ map (call_seen s) s.calls
  calls_so =
      map_same (call_seen u) (call_seen s)
      (λ c. ap (λ (ns : List ℕ). record { begun = c.begun; configured = c.configured; made = ns; end = c.end })
      (ap (map (λ (a : Attempt). a.made)) (filter_map_so (is_of c) f (λ a. refl) s.attempts) ∙ made_map f (λ a. refl) (filter (is_of c) s.attempts))) s.calls

pub sets_stay : SetsStay
sets_stay x y s t2 places only same is =
    subst (SeesSets y) (sym (streamed_is s t2 places only)) (sets_so s (streams_of t2.attempts) t2.links t2.current x y same is)

pub buckets_stay : BucketsStay
buckets_stay b s t2 places only is =
    subst (λ (z : Seen). SeesBuckets b z) (sym (streamed_is s t2 places only))
    (record { runs = ap (λ (l : List (Option Bucket)). None ∷ l) (buckets_so s (streams_of t2.attempts) t2.links t2.current) ∙ is.runs; throttle = is.throttle })

pub call_columns_stay : CallColumnsStay
call_columns_stay s t2 places only =
    subst (λ (z : Seen). map (call_seen z) z.calls ≡ map (call_seen s) s.calls) (sym (streamed_is s t2 places only)) (calls_so s (streams_of t2.attempts) t2.links t2.current)
