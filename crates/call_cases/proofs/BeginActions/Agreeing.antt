-- Channel and session agree after a call began.
use Rattle.a6_numbers.specs.Throttling.{Bucket}
use Rattle.attempt_ledger.specs.declared.ledger.CallSeen.{CallSeen}
use Rattle.call_cases.proofs.BeginActions.New.{before, does_so, filter_none, last_is, later, new_call, number}
use Rattle.call_cases.proofs.BeginActions.Sets.{sets_now}
use Rattle.call_cases.proofs.BeginActions.Slot.{deadline_same, ledger_long, one_of, sees_now, undue, unowned}
use Rattle.call_cases.proofs.BeginActions.Table.{begun_with, longer, new_slot, others, there}
use Rattle.call_actions.specs.Sees.{bucket_of}
use Rattle.call_core.specs.Steps as steps
use Rattle.call_core.specs.Steps.{deadline_at}
use Rattle.call_actions.proofs.CallsApart.Books.{tokens_stay}
use Rattle.call_actions.specs.CallsApart.Laws.{tokens_in_run}
use Rattle.channel_actions.specs.Agrees.{Agrees}
use Rattle.channel_actions.specs.Calls.{HasSlot, SeesCalls}
use Rattle.channel_actions.specs.Columns.{SeesColumns}
use Rattle.channel_actions.specs.Configs.{SeesBuckets, bucket_in, runs_in_turn}
use Rattle.channel_actions.specs.Links.{SeesLinks}
use Rattle.channel_core.specs.Books.{slot_at}
use Rattle.channel_core.specs.States.{StateSeen}
use Rattle.channel_core.specs.Tables as table
use Rattle.grpc_base.specs.Requests.{RequestSeen}
use Rattle.grpc_base.specs.declared.event.Event.TheVariants as event
use Rattle.channel_actions.proofs.KeptSessions.Along.{kept_stays}
use Rattle.channel_actions.specs.KeptSessions.Kept.{IsKept}
use Rattle.ledger_stamps.specs.Steps as stamps
use Rattle.call_cases.proofs.BeginActions.Links.{links_still}
use Rattle.call_cases.specs.OtherCalls.Laws.{AllCallsStay, SetsStay}
use Rattle.call_cases.specs.OtherCalls.Others.{BooksApart, GoesApart, IsBooked}
use Rattle.session_actions.specs.Actions.{after, following}
use Rattle.session_actions.specs.Attempts.{is_of}
use Rattle.session_actions.specs.Entries.{entry}
use Rattle.session_actions.specs.Sessions.{call_seen}
use Rattle.session_actions.specs.Words.{numbered}
use Rattle.session_actions.specs.declared.action.Action.TheVariants as action
use Rattle.session_actions.specs.declared.attempt.Attempt.{Attempt}
use Rattle.session_actions.specs.declared.call.Call.{Call}
use Rattle.session_actions.specs.declared.entry.OpenEntry.{OpenEntry}
use Rattle.session_actions.specs.declared.seen.Seen.{Seen}
use Rattle.session_order.proofs.Lists.{none_is}
use Rattle.channel_actions.specs.SetFrames.Laws.{PairsComeIn, TestsAreSame}
use Rattle.std.proofs.Common.{Bool, List, None, Option, Some, [], ap, arith, eq-eqb, false, is_some, length, map, option_map, refl, subst, suc, sym, true, ℕ, ◌++◌, ◌+◌, ◌==◌, ◌∙◌, ◌∷◌, ◌≡◌}

same_map : {X Y : Type 0} (f g : X → Y) → ((a : X) → f a ≡ g a) → (xs : List X) → map f xs ≡ map g xs
same_map f g same [] = refl
same_map f g same (a ∷ xs) = ap (λ (b : _). b ∷ map f xs) (same a) ∙ ap (λ (l : List _). g a ∷ l) (same_map f g same xs)

map_more : {X Y : Type 0} (f : X → Y) (xs : List X) (a : X) → map f (xs ++ a ∷ []) ≡ map f xs ++ f a ∷ []
map_more f [] a = refl
map_more f (b ∷ xs) a = ap (λ (l : List _). f b ∷ l) (map_more f xs a)

booked : (s : Seen) → IsKept s → IsBooked s
booked s k = record { book = k.book; owned = k.owned; reads = k.reads }

module _ (frame : AllCallsStay) (sets : SetsStay) (comes : PairsComeIn) (same : TestsAreSame)
    (o : OpenEntry) (z : Seen) (request : RequestSeen) (x : StateSeen) (h : Agrees x (before o z request)) (is : o.event ≡ event.Begin request)
    (next : following (before o z request) ≡ Some action.CallBegins) where
  abbrev s : Seen
  s = before o z request

  abbrev t : Seen
  t = later o z request

  abbrev c : Call
  c = new_call o z request

  abbrev n : ℕ
  n = number o z request

  abbrev d : Option ℕ
  d = deadline_at (steps.new_call n request x.book.moment)

  abbrev pub y : StateSeen
  y = begun_with n d request x

  gone : after action.CallBegins s ≡ t
  gone = does_so o z request is

  pub kept : IsKept t
  kept = subst IsKept gone (kept_stays s action.CallBegins h.kept next)

  goes : GoesApart n s t
  goes = record {
    actions = action.CallBegins ∷ [];
    does = (next, sym gone);
    apart = (record { acts = eq-eqb n n refl; passes = λ d own away. refl }, tt);
    earlier = booked s h.kept;
    later = booked t kept;
  }

  -- tokens: nothing ended
  tokens_by : (run : ℕ) (b : Bool) → is_some (numbered z.runs run) ≡ b → bucket_in t (Some run) ≡ bucket_in s (Some run)
  tokens_by run true there =
      subst (λ (v : Seen). tokens_in_run v (Some run) ≡ tokens_in_run s (Some run)) gone (tokens_stay s action.CallBegins run h.kept.book tt there refl)
  tokens_by run false there =
      let none : numbered z.runs run ≡ None = none_is (numbered z.runs run) there in
      ap (option_map (bucket_of t)) none ∙ sym (ap (option_map (bucket_of s)) none)

  tokens_same : (run : Option ℕ) → bucket_in t run ≡ bucket_in s run
  tokens_same None = refl
  tokens_same (Some run) = tokens_by run (is_some (numbered z.runs run)) refl

  buckets_now : SeesBuckets x.book.buckets t
  buckets_now = record {
    runs = ap (λ (l : List (Option Bucket)). None ∷ l) (same_map (bucket_in t) (bucket_in s) tokens_same (runs_in_turn z.configs)) ∙ h.buckets.runs;
    throttle = h.buckets.throttle;
  }

  -- the ledger
  seen_new : call_seen t c ≡ stamps.begun_call x.book.ledger.entry
  seen_new =
      ap (λ (l : List Attempt). record { begun = entry s; configured = None; made = map (λ (a : Attempt). a.made) l; end = None }) (filter_none (is_of c) z.attempts (unowned o z request x h kept))
      ∙ ap (λ (m : ℕ). stamps.begun_call m) h.clock.entry_is

  columns_now : SeesColumns y.book.ledger t
  columns_now = record {
    rows = h.columns.rows;
    calls = map_more (call_seen t) z.calls c ∙ ap (λ (l : List CallSeen). l ++ call_seen t c ∷ []) h.columns.calls
        ∙ ap (λ (w : CallSeen). x.book.ledger.calls ++ w ∷ []) seen_new;
    asks = h.columns.asks;
    generations = h.columns.generations;
    links = h.columns.links;
  }

  -- calls
  pub here : n ≡ suc (length x.book.calls)
  here = let long : length z.calls ≡ length x.book.calls = h.calls.count in omega (arith, long)

  pub ledger_is : length x.book.ledger.calls + 1 ≡ n
  ledger_is = let long : length x.book.ledger.calls ≡ length z.calls = ledger_long o z request x h kept in omega (arith, long)

  books : BooksApart n x y t
  books = record {
    entry_is = h.clock.entry_is;
    columns = columns_now;
    buckets = buckets_now;
    slots = λ k away. others x.book.calls (new_slot n d request x) k (subst (λ (m : ℕ). (k == m) ≡ false) here away);
  }

  new_there : slot_at y.book n ≡ Some (new_slot n d request x)
  new_there = ap (table.numbered (x.book.calls ++ new_slot n d request x ∷ [])) here ∙ there x.book.calls (new_slot n d request x)

  new_has : HasSlot y t c n
  new_has = record { slot = new_slot n d request x; there = new_there; sees = sees_now o z request x h kept }

  new_one : (e : Call) → numbered t.calls n ≡ Some e → HasSlot y t e n
  new_one e got = subst (λ (v : Call). HasSlot y t v n) (one_of (numbered t.calls n) c e (last_is z.calls c) got) new_has

  long_now : length t.calls ≡ length y.book.calls
  long_now = longer z.calls c ∙ ap suc h.calls.count ∙ sym (longer x.book.calls (new_slot n d request x))

  calls_now : SeesCalls y t
  calls_now = frame n x y s t goes books h.calls long_now new_one

  links_now : SeesLinks y t
  links_now = links_still o z request h.kept.owned x y refl h.links

  pub agrees_now : Agrees y t
  agrees_now = record {
    clock = record { entry_is = h.clock.entry_is; moment = h.clock.moment; draws = (h.clock.draws.0, h.clock.draws.1) };
    columns = columns_now;
    configs = record { authority = h.configs.authority; shut = h.configs.shut; held = h.configs.held; unconfigured = h.configs.unconfigured; policy = h.configs.policy };
    buckets = buckets_now;
    calls = calls_now;
    links = links_now;
    net = h.net;
    orderly = h.orderly;
    sets = sets_now comes same o z request x h.sets (sets n x s t goes h.calls) (unowned o z request x h kept) (undue o z request x h kept) y d (deadline_same o z request x h kept) refl;
    kept = kept;
  }
