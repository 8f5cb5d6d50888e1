-- A call of which attempts have streams: what the channel keeps of it, and what the session keeps in order.
use Rattle.std.proofs.Common.{◌≡◌, ◌+◌, ◌∷◌, ◌&&◌, ◌||◌, ◌==◌, ap, refl, subst, sym, ◌∙◌, Bool, true, false, List, [], Option, None, Some, ℕ, suc, cond, filter, if◌then◌else◌, is_none, is_some, length, map, max, nat_le, nat_lt, not}
use Rattle.std.specs.List.{list_all}
use Rattle.std.specs.Option.{option_map, option_map_or}
use Rattle.std.specs.Prelude.{fold}
use Rattle.a6_numbers.specs.Throttling.{Bucket}
use Rattle.attempt_buffer.specs.Buffers.{Buffered}
use Rattle.attempt_ledger.specs.Ends.{delay_of}
use Rattle.attempt_ledger.specs.declared.ledger.CallSeen.{CallSeen}
use Rattle.attempt_ledger.specs.declared.ledger.Ledger.{Ledger}
use Rattle.attempt_ledger.specs.declared.row.RowEnd.{RowEnd}
use Rattle.call_actions.proofs.Ranks.{any_map_all, fold_map, numbered_map}
use Rattle.call_actions.specs.Order.{AttemptsAreNumbered, IsInOrder, IsInTurn, goes_on_followed, goes_on_older, has_ended, is_beyond, is_own_mark, is_retried}
use Rattle.call_actions.specs.Sees.{DuesAgree, Sees, bucket_of, is_live, live_row, live_rows}
use Rattle.call_core.specs.Laws as channel
use Rattle.call_core.specs.Steps.{Stepped}
use Rattle.channel_actions.proofs.Drains.Calls.Streamed.{streamed_is}
use Rattle.grpc_base.specs.declared.event.Reply.{Reply}
use Rattle.session_actions.specs.Attempts.{commitment, is_followed, is_of, is_outstanding, was_refused, was_retried_so}
use Rattle.session_actions.specs.Configs.{plan_of}
use Rattle.session_actions.specs.DueAttempts.{last_delayed, next_due, was_delayed}
use Rattle.session_actions.specs.Sessions.{call_seen}
use Rattle.session_actions.specs.Tokens.{run_of, tokens_by, tokens_in}
use Rattle.session_actions.specs.Words.{holds, numbered}
use Rattle.session_actions.specs.declared.attempt.Attempt.{Attempt}
use Rattle.session_actions.specs.declared.call.Call.{Call}
use Rattle.session_actions.specs.declared.call.Mark.{Mark}
use Rattle.session_actions.specs.declared.call.MarkKind.{MarkKind}
use Rattle.session_actions.specs.declared.call.MarkKind.TheVariants as mark
use Rattle.session_actions.specs.declared.config.ThrottleRun.{ThrottleRun}
use Rattle.session_actions.specs.declared.due.DueState.{DueState}
use Rattle.session_actions.specs.declared.entry.OpenEntry.{OpenEntry}
use Rattle.session_actions.specs.declared.link.Link.{Link}
use Rattle.session_actions.specs.declared.seen.Seen.{Seen}
use Rattle.event_cases.specs.StreamedCalls.Laws.{CallsAreServed, DuesStay, IsLedgerOf, OrdersStay, TurnsStay, with_left}
use Rattle.channel_actions.proofs.Streams.Opened.Dues.{last_same, made_count, next_same, state_same}
use Rattle.channel_actions.proofs.Streams.Opened.Rows.{commitment_is, counted_same, followed_same, h, queued_same, some_same, t}
use Rattle.channel_actions.proofs.Streams.Opened.Streams.{streams_of}
use Rattle.call_actions.specs.TakeActions.Serves.{AttemptsStandInPlace, Holds, IsLeft, Serves, came, is_ended_at}

-- lists
map_cond : (f : Attempt → Attempt) (b : Bool) (x : Attempt) (xs : List Attempt) → cond b (f x ∷ map f xs) (map f xs) ≡ map f (cond b (x ∷ xs) xs)
map_cond f true x xs = refl
map_cond f false x xs = refl

filter_so : (p q : Attempt → Bool) (f : Attempt → Attempt) → ((a : Attempt) → p (f a) ≡ q a) → (xs : List Attempt) → filter p (map f xs) ≡ map f (filter q xs)
filter_so p q f same [] = refl
filter_so p q f same (x ∷ xs) =
    ap (λ (b : Bool). cond b (f x ∷ filter p (map f xs)) (filter p (map f xs))) (same x)
    ∙ ap (λ (l : List Attempt). cond (q x) (f x ∷ l) l) (filter_so p q f same xs) ∙ map_cond f (q x) x (filter q xs)

map_through : {Y : Type 0} (F : Attempt → Y) (f : Attempt → Attempt) → ((a : Attempt) → F (f a) ≡ F a) → (xs : List Attempt) → map F (map f xs) ≡ map F xs
map_through F f same [] = refl
map_through F f same (x ∷ xs) = ap (λ (y : _). y ∷ map F (map f xs)) (same x) ∙ ap (λ (l : List _). F x ∷ l) (map_through F f same xs)

all_same : {X : Type 0} (p q : X → Bool) → ((x : X) → p x ≡ q x) → (xs : List X) → list_all p xs ≡ list_all q xs
all_same p q same [] = refl
all_same p q same (x ∷ xs) = ap (λ (b : Bool). b && list_all p xs) (same x) ∙ ap (λ (b : Bool). q x && b) (all_same p q same xs)

fold_same : (f g : ℕ → ℕ → ℕ) → ((n p : ℕ) → f n p ≡ g n p) → (n : ℕ) (ps : List ℕ) → fold f n ps ≡ fold g n ps
fold_same f g same n [] = refl
fold_same f g same n (p ∷ ps) = ap (λ (m : ℕ). fold f m ps) (same n p) ∙ fold_same f g same (g n p) ps

placed_so : (n : ℕ) (f : Attempt → Attempt) → ((a : Attempt) → (f a).place ≡ a.place) → (xs : List Attempt) → AttemptsStandInPlace n xs → AttemptsStandInPlace n (map f xs)
placed_so n f same [] p = tt
placed_so n f same (a ∷ xs) p = (same a ∙ p.0, placed_so (suc n) f same xs p.1)

numbered_so : (n : ℕ) (f : Attempt → Attempt) → ((a : Attempt) → (f a).place ≡ a.place) → (xs : List Attempt) → AttemptsAreNumbered n xs → AttemptsAreNumbered n (map f xs)
numbered_so n f same [] p = tt
numbered_so n f same (a ∷ xs) p = (same a ∙ p.0, numbered_so (suc n) f same xs p.1)

module _ (s : Seen) (g : ℕ → Option ℕ) (ls : List Link) (current : Option OpenEntry) where
  abbrev f : Attempt → Attempt
  f a = h s g ls current a

  abbrev u : Seen
  u = t s g ls current

  -- a test of the attempt of a row
  held : (test old : Attempt → Bool) → ((a : Attempt) → test (f a) ≡ old a) → (o : Option Attempt) → holds test (option_map f o) ≡ holds old o
  held test old same None = refl
  held test old same (Some a) = same a

  of_row : (test old : Attempt → Bool) → ((a : Attempt) → test (f a) ≡ old a) → (row : ℕ) → holds test (numbered u.attempts row) ≡ holds old (numbered s.attempts row)
  of_row test old same row = ap (holds test) (numbered_map f s.attempts row) ∙ held test old same (numbered s.attempts row)

  -- attempts
  retried_same : (c : Call) → was_retried_so c u ≡ was_retried_so c s
  retried_same c =
      any_map_all (λ (q : Attempt). is_of c q && was_refused q && is_followed q u) (λ (q : Attempt). is_of c q && was_refused q && is_followed q s) f
      (λ q. ap (λ (b : Bool). is_of c q && was_refused q && b) (followed_same s g ls current q)) s.attempts

  delayed_one : (c : Call) (k : ℕ) (a : Attempt) → was_delayed c k u (f a) ≡ was_delayed c k s a
  delayed_one c k a =
      ap (λ (x : Bool). ((is_of c a && nat_le a.row.number k) && x) && holds (λ (e : RowEnd). is_some (delay_of e.pushback)) a.row.ended) (counted_same s g ls current a)

  delayed_same : (c : Call) (k : ℕ) → last_delayed c k u ≡ last_delayed c k s
  delayed_same c k =
      ap (fold (λ (j : ℕ) (a : Attempt). max j a.row.number) 0) (filter_so (was_delayed c k u) (was_delayed c k s) f (delayed_one c k) s.attempts)
      ∙ fold_map (λ (j : ℕ) (a : Attempt). max j a.row.number) (λ (j : ℕ) (a : Attempt). max j a.row.number) f (λ z x. refl) 0 (filter (was_delayed c k s) s.attempts)

  place_by : (o : Option Attempt) → option_map (λ (k : Attempt). k.place) (option_map f o) ≡ option_map (λ (k : Attempt). k.place) o
  place_by None = refl
  place_by (Some k) = refl

  live_same : (c : Call) → live_rows u c ≡ live_rows s c
  live_same c =
      ap (map live_row)
      (filter_so (is_live u c) (is_live s c) f (λ a. ap (λ (b : Bool). is_of c a && (is_outstanding a || b)) (queued_same s g ls current a)) s.attempts)
      ∙ map_through live_row f (λ a. refl) (filter (is_live s c) s.attempts)

  -- tokens
  token_by : (run : ThrottleRun) (n : ℕ) (o : Option Attempt) → tokens_by run u n (option_map f o) ≡ tokens_by run s n o
  token_by run n None = refl
  token_by run n (Some a) = refl

  tokens_same : (run : ThrottleRun) → tokens_in run u ≡ tokens_in run s
  tokens_same run =
      fold_same (λ (n place : ℕ). tokens_by run u n (numbered u.attempts place)) (λ (n place : ℕ). tokens_by run s n (numbered s.attempts place))
      (λ n place. ap (tokens_by run u n) (numbered_map f s.attempts place) ∙ token_by run n (numbered s.attempts place)) run.throttle.start run.ends

  abbrev bucket_with : ThrottleRun → ℕ → Bucket
  bucket_with run n = record { start = run.throttle.start; ratio = run.throttle.ratio; count = n }

  bucket_same : (o : Option ThrottleRun) → option_map (bucket_of u) o ≡ option_map (bucket_of s) o
  bucket_same None = refl
  bucket_same (Some run) = ap (λ (n : ℕ). Some (bucket_with run n)) (tokens_same run)

  seen_same : (c : Call) → call_seen u c ≡ call_seen s c
  seen_same c =
      ap (λ (ns : List ℕ). record { begun = c.begun; configured = c.configured; made = ns; end = c.end })
      (ap (map (λ (a : Attempt). a.made)) (filter_so (is_of c) (is_of c) f (λ a. refl) s.attempts) ∙ map_through (λ (a : Attempt). a.made) f (λ a. refl) (filter (is_of c) s.attempts))

  -- what the channel keeps
  sees_so : (c : Call) (x : Stepped) (b : Buffered) (ledger : Ledger) → is_some current ≡ is_some s.current → Sees s c x → IsLedgerOf x.ledger ledger u → Sees u c (with_left b ledger x)
  sees_so c x b ledger open_ k is = record {
    own = k.own;
    number_is = k.number_is;
    request = k.request;
    begun = k.begun;
    chosen = k.chosen;
    finished = k.finished;
    longest_is = k.longest_is;
    ended = k.ended;
    attempts = record {
      sent = made_count s g ls current c ∙ k.attempts.sent;
      due = subst (λ (d : DueState). DuesAgree d x.call.attempts) (sym (state_same s g ls current c)) k.attempts.due;
      unplaced = k.attempts.unplaced;
      delayed = λ keeps free. delayed_same c x.call.attempts.sent ∙ k.attempts.delayed keeps free;
      last = λ free. last_same s g ls current c ∙ k.attempts.last free;
      refused = retried_same c ∙ k.attempts.refused;
      committed = ap (option_map (λ (q : Attempt). q.place)) (commitment_is s g ls current c) ∙ place_by (commitment c s) ∙ k.attempts.committed;
    };
    live = live_same c ∙ k.live;
    tokens = bucket_same (run_of c s) ∙ k.tokens;
    entry_is = ap (λ (b : Bool). length s.entries + (if b then 1 else 0)) open_ ∙ k.entry_is ∙ sym is.entry;
    rows = is.rows;
    call_is = ap (λ (l : List CallSeen). numbered l c.number) is.calls ∙ k.call_is ∙ ap (λ (z : CallSeen). Some z) (sym (seen_same c));
  }

  ended_by : (o : Option ThrottleRun)
      → option_map_or (λ (run : ThrottleRun). list_all (is_ended_at u) run.ends) o true ≡ option_map_or (λ (run : ThrottleRun). list_all (is_ended_at s) run.ends) o true
  ended_by None = refl
  ended_by (Some run) =
      all_same (is_ended_at u) (is_ended_at s)
      (λ place. of_row (λ (a : Attempt). is_some a.row.ended) (λ (a : Attempt). is_some a.row.ended) (λ a. refl) place) run.ends

  pub serves_so : (c : Call) (x : Stepped) (b : Buffered) (ledger : Ledger) → is_some current ≡ is_some s.current → Serves s c x → IsLedgerOf x.ledger ledger u → came c u ≡ came c s
      → (c.end ≡ None → Holds u c b) → Serves u c (with_left b ledger x)
  serves_so c x b ledger open_ k is same holds_ = record {
    sees = sees_so c x b ledger open_ k.sees is;
    places = placed_so 1 f (λ a. refl) s.attempts k.places;
    config = k.config;
    links = is.links;
    reads = is.reads;
    counted = ended_by (run_of c s) ∙ k.counted;
    end_taken = k.end_taken;
    going = k.going;
    left = λ e. subst (λ (all : List Reply). IsLeft all c.taken (channel.came x.call)) (sym same) (k.left e);
    holds = holds_;
  }

  turn_by : (o : Option ThrottleRun)
      → option_map_or (λ (run : ThrottleRun). list_all (has_ended u) run.ends) o true ≡ option_map_or (λ (run : ThrottleRun). list_all (has_ended s) run.ends) o true
  turn_by None = refl
  turn_by (Some run) =
      all_same (has_ended u) (has_ended s)
      (λ place. of_row (λ (a : Attempt). is_some a.row.ended) (λ (a : Attempt). is_some a.row.ended) (λ a. refl) place) run.ends

  -- what the session keeps in order
  mark_same : (c : Call) (m : MarkKind) → is_own_mark u c m ≡ is_own_mark s c m
  mark_same c (mark.Made row) = of_row (is_of c) (is_of c) (λ a. refl) row
  mark_same c (mark.Ended row) = of_row (λ (a : Attempt). is_of c a && is_some a.row.ended) (λ (a : Attempt). is_of c a && is_some a.row.ended) (λ a. refl) row
  mark_same c mark.Configured = refl
  mark_same c (mark.Placed row) = refl
  mark_same c mark.Withheld = refl
  mark_same c mark.Committed = refl
  mark_same c mark.Closed = refl

  pub order_so : (c : Call) → IsInOrder s c → IsInOrder u c
  order_so c k = record {
    places = numbered_so 1 f (λ a. refl) s.attempts k.places;
    marks = all_same (λ (m : Mark). is_own_mark u c m.what) (λ (m : Mark). is_own_mark s c m.what) (λ m. mark_same c m.what) c.marks ∙ k.marks;
    numbers = any_map_all (is_beyond u c) (is_beyond s c) f (λ a. ap (λ (n : ℕ). is_of c a && nat_lt n a.row.number) (made_count s g ls current c)) s.attempts ∙ k.numbers;
    first = λ e. ap (λ (d : DueState). d.newest) (state_same s g ls current c) ∙ k.first (sym (made_count s g ls current c) ∙ e);
    stops = λ e. ap (λ (d : DueState). d.stopped) (state_same s g ls current c) ∙ k.stops (ap (λ (b : Bool). is_some c.end || b) (sym (some_same s g ls current c)) ∙ e);
  }

  pub turn_so : (c : Call) → IsInTurn s c → IsInTurn u c
  turn_so c k = record {
    unfollowed = any_map_all (goes_on_followed u c) (goes_on_followed s c) f
        (λ a. ap (λ (b : Bool). is_of c a && is_none a.row.ended && b) (followed_same s g ls current a)) s.attempts ∙ k.unfollowed;
    latest = any_map_all (goes_on_older u c) (goes_on_older s c) f
        (λ a. ap (λ (n : ℕ). is_of c a && is_none a.row.ended && is_retried (plan_of c s) && not (a.row.number == n)) (made_count s g ls current c)) s.attempts ∙ k.latest;
    numbers = any_map_all (λ (a : Attempt). is_of c a && (a.row.number == 0)) (λ (a : Attempt). is_of c a && (a.row.number == 0)) f (λ a. refl) s.attempts ∙ k.numbers;
    counted = turn_by (run_of c s) ∙ k.counted;
  }

pub calls_are_served : CallsAreServed
calls_are_served s z c x b ledger places only open_ k is same holds_ =
    let g : ℕ → Option ℕ = streams_of z.attempts in
    let e : z ≡ t s g z.links z.current = streamed_is s z places only in
    subst (λ (y : Seen). Serves y c (with_left b ledger x)) (sym e)
    (serves_so s g z.links z.current c x b ledger open_ k (subst (IsLedgerOf x.ledger ledger) e is) (subst (λ (y : Seen). came c y ≡ came c s) e same)
    (λ end. subst (λ (y : Seen). Holds y c b) e (holds_ end)))

pub orders_stay : OrdersStay
orders_stay s z c places only k = subst (λ (y : Seen). IsInOrder y c) (sym (streamed_is s z places only)) (order_so s (streams_of z.attempts) z.links z.current c k)

pub turns_stay : TurnsStay
turns_stay s z c places only k = subst (λ (y : Seen). IsInTurn y c) (sym (streamed_is s z places only)) (turn_so s (streams_of z.attempts) z.links z.current c k)

pub dues_stay : DuesStay
dues_stay s z c places only = ap (next_due c) (streamed_is s z places only) ∙ next_same s (streams_of z.attempts) z.links z.current c
