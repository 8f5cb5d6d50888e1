-- Once it is noted of an attempt that its stream was reset, session and channel have of its call what they had.
use Rattle.std.proofs.Common.{◌≡◌, inl, inr, ◌∷◌, ◌||◌, ◌&&◌, ◌==◌, not, nat_lt, ap, refl, subst, sym, ◌∙◌, Bool, true, List, [], Option, None, Some, ℕ, suc, filter, is_none, is_some, map}
use Rattle.std.specs.List.{list_all}
use Rattle.std.specs.Option.{option_map, option_map_or}
use Rattle.attempt_buffer.specs.Buffers.{Buffered, taken_by, text_of}
use Rattle.call_actions.specs.Order.{AttemptsAreNumbered, IsInOrder, IsInTurn, goes_on_followed, goes_on_older, has_ended, is_beyond, is_own_mark, is_retried}
use Rattle.call_actions.specs.Sees.{AttemptsAgree, DuesAgree, Sees, bucket_of, is_live, live_row, live_rows}
use Rattle.call_core.specs.Laws as channel
use Rattle.call_core.specs.Steps.{Stepped}
use Rattle.grpc_base.specs.declared.event.Reply.{Reply}
use Rattle.grpc_frame.specs.Messages.{framed_all}
use Rattle.channel_actions.proofs.Calls.Reset.Alike.{Alike, IsLike, alike_all, alike_changed, alike_filter, alike_map, all_same, filter_same, fold_same}
use Rattle.channel_actions.proofs.Calls.Reset.Counts.{delayed_same, due_same, followed_same, last_same, made_same, next_same, of_commitment, over_same, put, retried_same, t}
use Rattle.channel_actions.specs.ResetCalls.Laws.{LeavesCall, ResetsLeaveCalls}
use Rattle.session_actions.specs.Attempts.{is_of, is_outstanding}
use Rattle.session_actions.specs.Configs.{plan_of}
use Rattle.session_actions.specs.Deliveries.{response_items}
use Rattle.session_actions.specs.Responses.{response}
use Rattle.session_actions.specs.Sessions.{call_seen}
use Rattle.session_actions.specs.Tokens.{run_of, tokens_by, tokens_in}
use Rattle.session_actions.specs.Words.{changed, holds, numbered}
use Rattle.session_actions.specs.Writing.{drained}
use Rattle.session_actions.specs.declared.attempt.Attempt.{Attempt}
use Rattle.session_actions.specs.declared.call.Call.{Call}
use Rattle.session_actions.specs.declared.call.Mark.{Mark}
use Rattle.session_actions.specs.declared.call.MarkKind.{MarkKind}
use Rattle.session_actions.specs.declared.call.MarkKind.TheVariants as mark
use Rattle.session_actions.specs.declared.config.ThrottleRun.{ThrottleRun}
use Rattle.session_actions.specs.declared.due.DueState.{DueState}
use Rattle.session_actions.specs.declared.seen.Seen.{Seen}
use Rattle.session_order.proofs.Changed.{any_changed, lookup}
use Rattle.session_order.proofs.Lists.{any_same}
use Rattle.call_actions.specs.TakeActions.Serves as serves
use Rattle.call_actions.specs.TakeActions.Serves.{AttemptsStandInPlace, Holds, IsAt, IsLeft, Serves, came, is_ended_at, passed}

-- each attempt stands at its place
placed_by : (k : ℕ) (f : Attempt → Attempt) → ((a : Attempt) → (f a).place ≡ a.place) → (xs ys : List Attempt) → Alike f xs ys → AttemptsStandInPlace k xs → AttemptsStandInPlace k ys
placed_by k f same [] [] h p = tt
placed_by k f same (x ∷ xs) (y ∷ ys) h p = (place_is f same x y h.0 ∙ p.0, placed_by (suc k) f same xs ys h.1 p.1)
  where
    place_is : (f : Attempt → Attempt) → ((a : Attempt) → (f a).place ≡ a.place) → (x y : Attempt) → IsLike f x y → y.place ≡ x.place
    place_is f same x y (inl e) = ap (λ (a : Attempt). a.place) e
    place_is f same x y (inr e) = ap (λ (a : Attempt). a.place) e ∙ same x
placed_by k f same [] (y ∷ ys) h p = absurd h
placed_by k f same (x ∷ xs) [] h p = absurd h

map_option : {X Y : Type 0} (g h : X → Y) → ((x : X) → g x ≡ h x) → (o : Option X) → option_map g o ≡ option_map h o
map_option g h same None = refl
map_option g h same (Some x) = ap (λ (y : _). Some y) (same x)

or_option : {X Y : Type 0} (g h : X → Y) (d : Y) → ((x : X) → g x ≡ h x) → (o : Option X) → option_map_or g o d ≡ option_map_or h o d
or_option g h d same None = refl
or_option g h d same (Some x) = same x

module _ (s : Seen) (n : ℕ) where
  abbrev u : Seen
  u = t s n

  abbrev f : Attempt → Attempt
  f a = put s n a

  abbrev xs : List Attempt
  xs = s.attempts

  abbrev ys : List Attempt
  ys = changed f n s.attempts

  like : Alike f xs ys
  like = alike_changed f n xs

  -- tokens
  tokens_same : (run : ThrottleRun) → tokens_in run u ≡ tokens_in run s
  tokens_same run =
      fold_same (λ (k place : ℕ). tokens_by run u k (numbered ys place)) (λ (k place : ℕ). tokens_by run s k (numbered xs place))
      (λ k place. lookup (tokens_by run s k) f (λ a. refl) n xs place) run.throttle.start run.ends

  bucket_same : (run : ThrottleRun) → bucket_of u run ≡ bucket_of s run
  bucket_same run = ap (λ (k : ℕ). record { start = run.throttle.start; ratio = run.throttle.ratio; count = k }) (tokens_same run)

  -- attempts
  attempts_left : (c : Call) (x : Stepped) → AttemptsAgree s c x.call.attempts → AttemptsAgree u c x.call.attempts
  attempts_left c x k = record {
    sent = made_same s n c ∙ k.sent;
    due = subst (λ (d : DueState). DuesAgree d x.call.attempts) (sym (due_same s n c)) k.due;
    unplaced = k.unplaced;
    delayed = λ keeps none. delayed_same s n c x.call.attempts.sent ∙ k.delayed keeps none;
    last = λ none. last_same s n c ∙ k.last none;
    refused = retried_same s n c ∙ k.refused;
    committed = of_commitment s n (option_map (λ (a : Attempt). a.place)) (λ a. refl) c ∙ k.committed;
  }

  live_one : (c : Call) (a : Attempt) → is_live u c a ≡ is_live s c a
  live_one c a = ap (λ (b : Bool). is_of c a && (is_outstanding a || ((is_none a.row.placed && is_none a.row.ended) && not b))) (over_same s n a)

  live_same : (c : Call) → live_rows u c ≡ live_rows s c
  live_same c =
      alike_map f live_row (λ a. refl) (filter (is_live u c) xs) (filter (is_live u c) ys) (alike_filter f (is_live u c) (λ a. refl) xs ys like)
      ∙ ap (map live_row) (filter_same (is_live u c) (is_live s c) (live_one c) xs)

  seen_same : (c : Call) → call_seen u c ≡ call_seen s c
  seen_same c =
      ap (λ (l : List ℕ). record { begun = c.begun; configured = c.configured; made = l; end = c.end })
      (alike_map f (λ (a : Attempt). a.made) (λ a. refl) (filter (is_of c) xs) (filter (is_of c) ys) (alike_filter f (is_of c) (λ a. refl) xs ys like))

  sees_left : (c : Call) (x : Stepped) → Sees s c x → Sees u c x
  sees_left c x k = record {
    own = k.own;
    number_is = k.number_is;
    request = k.request;
    begun = k.begun;
    chosen = k.chosen;
    finished = k.finished;
    longest_is = k.longest_is;
    ended = k.ended;
    attempts = attempts_left c x k.attempts;
    live = live_same c ∙ k.live;
    tokens = map_option (bucket_of u) (bucket_of s) bucket_same (run_of c s) ∙ k.tokens;
    entry_is = k.entry_is;
    rows = alike_map f (λ (a : Attempt). a.row) (λ a. refl) xs ys like ∙ k.rows;
    call_is = k.call_is ∙ ap (λ (z : _). Some z) (sym (seen_same c));
  }

  -- what is held for the application and for the attempts
  ended_same : (places : List ℕ) → list_all (is_ended_at u) places ≡ list_all (is_ended_at s) places
  ended_same places = all_same (is_ended_at u) (is_ended_at s) (λ place. lookup (holds (λ (a : Attempt). is_some a.row.ended)) f (λ a. refl) n xs place) places

  holds_left : (c : Call) (b : Buffered) → Holds s c b → Holds u c b
  holds_left c b k = record {
    fed = alike_all f (λ (a : Attempt). serves.IsFed (taken_by a.place b) (text_of b) (is_outstanding a) (drained a s) (framed_all c.messages)) (λ a h. h)
        (filter (is_of c) xs) (filter (is_of c) ys) (alike_filter f (is_of c) (λ a. refl) xs ys like) k.fed;
    held = subst (λ (j : ℕ). IsAt (passed b) (text_of b) j (framed_all c.messages)) (sym (of_commitment s n (λ (o : Option Attempt). option_map_or (λ (a : Attempt). drained a s) o 0) (λ a. refl) c)) k.held;
    committed = k.committed ∙ sym (of_commitment s n (λ (o : Option Attempt). is_some o) (λ a. refl) c);
  }

  serves_left : (c : Call) (x : Stepped) → Serves s c x → Serves u c x
  serves_left c x k = record {
    sees = sees_left c x k.sees;
    places = placed_by 1 f (λ a. refl) xs ys like k.places;
    config = k.config;
    links = k.links;
    reads = k.reads;
    counted = or_option (λ (run : ThrottleRun). list_all (is_ended_at u) run.ends) (λ (run : ThrottleRun). list_all (is_ended_at s) run.ends) true (λ run. ended_same run.ends) (run_of c s) ∙ k.counted;
    end_taken = k.end_taken;
    going = k.going;
    left = λ e. subst (λ (all : List Reply). IsLeft all c.taken (channel.came x.call))
        (sym (of_commitment s n (λ (o : Option Attempt). option_map_or (λ (a : Attempt). response_items (response a s)) o []) (λ a. refl) c)) (k.left e);
    holds = λ e. holds_left c x.call.buffer (k.holds e);
  }

  -- what the session keeps in order
  numbers_by : (k : ℕ) (as_ bs : List Attempt) → Alike f as_ bs → AttemptsAreNumbered k as_ → AttemptsAreNumbered k bs
  numbers_by k [] [] h p = tt
  numbers_by k (a ∷ as_) (b ∷ bs) h p = (place_is a b h.0 ∙ p.0, numbers_by (suc k) as_ bs h.1 p.1)
    where
      place_is : (x y : Attempt) → IsLike f x y → y.place ≡ x.place
      place_is x y (inl e) = ap (λ (a : Attempt). a.place) e
      place_is x y (inr e) = ap (λ (a : Attempt). a.place) e
  numbers_by k [] (b ∷ bs) h p = absurd h
  numbers_by k (a ∷ as_) [] h p = absurd h

  mark_same : (c : Call) (w : MarkKind) → is_own_mark u c w ≡ is_own_mark s c w
  mark_same c mark.Configured = refl
  mark_same c (mark.Made row) = lookup (holds (is_of c)) f (λ a. refl) n xs row
  mark_same c (mark.Placed row) = refl
  mark_same c (mark.Ended row) = lookup (holds (λ (a : Attempt). is_of c a && is_some a.row.ended)) f (λ a. refl) n xs row
  mark_same c mark.Withheld = refl
  mark_same c mark.Committed = refl
  mark_same c mark.Closed = refl

  beyond_one : (c : Call) (a : Attempt) → is_beyond u c a ≡ is_beyond s c a
  beyond_one c a = ap (λ (k : ℕ). is_of c a && nat_lt k a.row.number) (made_same s n c)

  order_left : (c : Call) → IsInOrder s c → IsInOrder u c
  order_left c k = record {
    places = numbers_by 1 xs ys like k.places;
    marks = all_same (λ (m : Mark). is_own_mark u c m.what) (λ (m : Mark). is_own_mark s c m.what) (λ m. mark_same c m.what) c.marks ∙ k.marks;
    numbers = any_changed (is_beyond u c) f (λ a. refl) n xs ∙ any_same (is_beyond u c) (is_beyond s c) (beyond_one c) xs ∙ k.numbers;
    first = λ e. ap (λ (d : DueState). d.newest) (due_same s n c) ∙ k.first (sym (made_same s n c) ∙ e);
    stops = λ e. ap (λ (d : DueState). d.stopped) (due_same s n c)
        ∙ k.stops (sym (ap (λ (b : Bool). is_some c.end || b) (of_commitment s n (λ (o : Option Attempt). is_some o) (λ a. refl) c)) ∙ e);
  }

  followed_one : (c : Call) (a : Attempt) → goes_on_followed u c a ≡ goes_on_followed s c a
  followed_one c a = ap (λ (b : Bool). (is_of c a && is_none a.row.ended) && b) (followed_same s n a)

  older_one : (c : Call) (a : Attempt) → goes_on_older u c a ≡ goes_on_older s c a
  older_one c a = ap (λ (k : ℕ). ((is_of c a && is_none a.row.ended) && is_retried (plan_of c s)) && not (a.row.number == k)) (made_same s n c)

  ended_still : (places : List ℕ) → list_all (has_ended u) places ≡ list_all (has_ended s) places
  ended_still places = all_same (has_ended u) (has_ended s) (λ place. lookup (holds (λ (a : Attempt). is_some a.row.ended)) f (λ a. refl) n xs place) places

  turn_left : (c : Call) → IsInTurn s c → IsInTurn u c
  turn_left c k = record {
    unfollowed = any_changed (goes_on_followed u c) f (λ a. refl) n xs ∙ any_same (goes_on_followed u c) (goes_on_followed s c) (followed_one c) xs ∙ k.unfollowed;
    latest = any_changed (goes_on_older u c) f (λ a. refl) n xs ∙ any_same (goes_on_older u c) (goes_on_older s c) (older_one c) xs ∙ k.latest;
    numbers = any_changed (λ (a : Attempt). is_of c a && (a.row.number == 0)) f (λ a. refl) n xs ∙ k.numbers;
    counted = or_option (λ (run : ThrottleRun). list_all (has_ended u) run.ends) (λ (run : ThrottleRun). list_all (has_ended s) run.ends) true (λ run. ended_still run.ends) (run_of c s) ∙ k.counted;
  }

  pub leaves : LeavesCall s u
  leaves = record { serves = serves_left; order = order_left; turn = turn_left; due = next_same s n }

pub resets_leave_calls : ResetsLeaveCalls
resets_leave_calls s place = leaves s place
