-- What the handle knows that took all others in: each entry of the history is of one of them.
use Rattle.std.proofs.Common.{◌≡◌, ◌∙◌, ◌≤◌, ◌<◌, ℕ, ◌+◌, true, true≢false, Option, Some, None, slice_get, List, [], ◌∷◌, ◌++◌, ap, append_assoc, arith, length, refl, sym, subst}
use Rattle.std.specs.List.{AllByRecursion, AllZip}
use Rattle.std.specs.Option.{option_to_list}
use Rattle.std.proofs.lemmas.Bool.Decides.{nat_tests}
use Rattle.std.proofs.lemmas.Option.{slice_get_within}
use Rattle.grpc_base.specs.declared.event.Entry.{Entry}
use Rattle.grpc_base.specs.declared.event.Event.{Event}
use Rattle.grpc_base.specs.declared.event.Event.TheVariants as event
use Rattle.live_run.specs.Outcomes.{graver}
use Rattle.live_run.specs.declared.outcome.Outcome.{Outcome}
use Rattle.live_run.specs.declared.outcome.Outcome.TheVariants as outcome
use Rattle.session_text.specs.declared.ran.Ran.{Ran}
use Rattle.session_text.specs.declared.ran.Ran.TheVariants as ran
use Rattle.shared_channel.specs.Histories.{is_shutdown}
use Rattle.turn_lock.specs.History.{LockId, Owns, SeatSeen, Stands, StartsWith, once_below, places, times}
use Rattle.turn_lock.proofs.Places.{stands-later, stands-places, starts_longer, times-append}
use Rattle.live_channel.specs.Sharing.{IsOfCall, IsShutFirst, SharesOut, is_of_call, times_in}
use Rattle.live_channel.specs.Handles.{EntriesAreBesideCalls, Closes, IsBeside, IsClosing, IsKept, IsLeft, Keeper, KeepsAs, Leaves, OfLinks, OfNames, Shuts, Splits, StandInOrder, TakesIn, owns_of}
use Rattle.live_channel.proofs.EventLaws.{links_own_beside, names_own_beside}
use Rattle.live_channel.proofs.OwnLaws.{all_stand_later, found, found_in, placed, zero_of}

-- ---- outcomes

pub graver_whole : (a b : Outcome) → graver a b ≡ outcome.Whole → (a ≡ outcome.Whole) × (b ≡ outcome.Whole)
graver_whole outcome.Whole b e = (refl, e)
graver_whole outcome.Full outcome.NoMemory e = absurd (cc)
graver_whole outcome.Full outcome.Full e = absurd (cc)
graver_whole outcome.Full outcome.Whole e = absurd (cc)
graver_whole outcome.NoMemory b e = absurd (cc)

closing_worse : (a o : Outcome) (closing : Option Entry) → (o ≡ outcome.Whole → a ≡ outcome.Whole) → IsClosing a closing → IsClosing o closing
closing_worse a o (Some e) worse is = is
closing_worse a o None worse is = λ whole. is (worse whole)

-- ---- the Shutdown after the calls

-- the closer took these in, and posted the Shutdown
pub closes_taken : (shut o : Outcome) (owns : List (List (ℕ × Entry))) (before mid after : SeatSeen Entry) → (o ≡ outcome.Whole → shut ≡ outcome.Whole) → TakesIn before owns mid → Shuts shut mid after → Closes o owns before.seen before.own after
closes_taken shut o owns before mid after worse takes shuts = record {
  prefix = shuts.prefix;
  closing = shuts.closing;
  each = all_stand_later mid.seen shuts.prefix owns shuts.sees takes.each;
  is_closing = closing_worse shut o shuts.closing worse shuts.is_closing;
  sees = starts_longer before.seen mid.seen shuts.prefix takes.sees shuts.sees;
  shows = shuts.seen;
  count = λ x.
      let mine = takes.count x in
      let all_of : times x after.own ≡ times x mid.own + times x (places (length shuts.prefix) (option_to_list shuts.closing)) =
      ap (times x) shuts.own ∙ times-append x mid.own (places (length shuts.prefix) (option_to_list shuts.closing)) in omega (arith, mine, all_of);
}

-- ---- the handles of the others

keeps_all : (lock : LockId) (keepers : List Keeper) (seats : List (SeatSeen Entry)) → AllZip (IsKept lock) keepers seats → AllZip KeepsAs keepers (owns_of seats)
keeps_all lock [] [] all = tt
keeps_all lock [] (s ∷ seats) all = absurd all
keeps_all lock (keeper ∷ keepers) [] all = absurd all
keeps_all lock (keeper ∷ keepers) (s ∷ seats) all = (all.0.keeps, keeps_all lock keepers seats all.1)

beside_of : (keeper : Keeper) (own : List (ℕ × Entry)) → KeepsAs keeper own → EntriesAreBesideCalls own
beside_of (OfLinks held) own keeps = links_own_beside own keeps.0
beside_of (OfNames config) own keeps = names_own_beside config own keeps

beside_all : (keepers : List Keeper) (owns : List (List (ℕ × Entry))) → AllZip KeepsAs keepers owns → AllByRecursion EntriesAreBesideCalls owns
beside_all [] [] all = tt
beside_all [] (own ∷ owns) all = absurd all
beside_all (keeper ∷ keepers) [] all = absurd all
beside_all (keeper ∷ keepers) (own ∷ owns) all = (beside_of keeper own all.0, beside_all keepers owns all.1)

pub leaves_by : (lock : LockId) (keepers : List Keeper) (made kept o : Outcome) (owns : List (List (ℕ × Entry))) (seen : List Entry) (own : List (ℕ × Entry)) (shut after seat : SeatSeen Entry) (seats : List (SeatSeen Entry)) → o ≡ graver made kept → seat ≡ after
    → Closes made owns seen own shut → AllZip (IsKept lock) keepers seats → TakesIn shut (owns_of seats) after → Leaves o keepers owns seen own seat
leaves_by lock keepers made kept o owns seen own shut after seat seats is same closes all takes = record {
  made = made;
  kept = kept;
  outcome = is;
  shut = shut;
  closes = closes;
  others = owns_of seats;
  keeps = keeps_all lock keepers seats all;
  takes = subst (λ (s : SeatSeen Entry). TakesIn shut (owns_of seats) s) (sym same) takes;
}

-- the handle has seen all that it had seen
pub leaves_see : (o : Outcome) (keepers : List Keeper) (owns : List (List (ℕ × Entry))) (seen : List Entry) (own : List (ℕ × Entry)) (after : SeatSeen Entry) → Leaves o keepers owns seen own after → StartsWith after.seen seen
leaves_see o keepers owns seen own after leaves =
    let closes = leaves.closes in
    starts_longer seen leaves.shut.seen after.seen (starts_longer seen closes.prefix leaves.shut.seen closes.sees (option_to_list closes.closing, closes.shows)) leaves.takes.sees

-- and it has seen all that was seen before others were split off
pub left_sees : (o : Outcome) (keepers : List Keeper) (owns : List (List (ℕ × Entry))) (seat mid closer out : SeatSeen Entry) (others : List (SeatSeen Entry)) → Splits seat others mid → closer ≡ mid → Leaves o keepers owns closer.seen closer.own out → StartsWith out.seen seat.seen
left_sees o keepers owns seat mid closer out others splits same leaves =
    subst (λ (l : List Entry). StartsWith out.seen l) (ap (λ (s : SeatSeen Entry). s.seen) same ∙ splits.seen) (leaves_see o keepers owns closer.seen closer.own out leaves)

-- ---- each entry is of one

call_or_shut : (e : Event) → is_of_call e ≡ true → e ≡ event.Shutdown → ⊥
call_or_shut e call shut = true≢false (sym call ∙ ap is_of_call shut)

pub beside_call : (e : Event) → IsBeside e → is_of_call e ≡ true → ⊥
beside_call e beside call = true≢false (sym call ∙ beside.call)

pub beside_shut : (e : Event) → IsBeside e → e ≡ event.Shutdown → ⊥
beside_shut e beside shut = true≢false (sym (ap is_shutdown shut) ∙ beside.shut)

pub below : (x n : ℕ) → x < n → once_below x n ≡ 1
below x n within = grind (arith, nat_tests)

at_most_one : (x n : ℕ) → once_below x n ≤ 1
at_most_one x n = grind (arith, nat_tests)

-- how the entries of such a history are shared out
pub record IsShared (entries prefix : List Entry) (closing : Option Entry) (own : List (ℕ × Entry)) (owns others : List (List (ℕ × Entry))) : Type 0 where
  pub first : Stands entries own
  pub first_beside : EntriesAreBesideCalls own
  pub callers : AllByRecursion (StandInOrder entries) owns
  pub of_calls : AllByRecursion (λ own. AllByRecursion (λ p. IsOfCall p.1.event) own) owns
  pub last : Stands entries (places (length prefix) (option_to_list closing))
  pub kept : AllByRecursion (StandInOrder entries) others
  pub beside : AllByRecursion EntriesAreBesideCalls others
  pub count : (x : ℕ) → times x own + times_in x owns + times x (places (length prefix) (option_to_list closing)) + times_in x others ≡ once_below x (length entries)

pub closing_is : (o : Outcome) (n : ℕ) (closing : Option Entry) → IsClosing o closing → AllByRecursion (λ p. p.1.event ≡ event.Shutdown) (places n (option_to_list closing))
closing_is o n (Some e) is = (is, tt)
closing_is o n None is = tt

closing_at : (n x : ℕ) (closing : Option Entry) → 1 ≤ times x (places n (option_to_list closing)) → x ≡ n
closing_at n x (Some e) some = placed n x e some
closing_at n x None some = absurd (omega (arith, some))

-- an entry of an application is of a worker that makes calls
call_owned : (o : Outcome) (entries prefix : List Entry) (closing : Option Entry) (own : List (ℕ × Entry)) (owns others : List (List (ℕ × Entry))) → IsClosing o closing → IsShared entries prefix closing own owns others
    → (x : ℕ) (e : Entry) → slice_get entries x ≡ Some e → is_of_call e.event ≡ true → times_in x owns ≡ 1
call_owned o entries prefix closing own owns others is shared x e at call =
    let first : times x own ≡ 0 = zero_of (times x own) (λ some. beside_call e.event (found (λ (y : Entry). IsBeside y.event) entries own x e shared.first shared.first_beside some at) call) in
    let kept : times_in x others ≡ 0 = zero_of (times_in x others) (λ some. beside_call e.event (found_in (λ (y : Entry). IsBeside y.event) entries others x e shared.kept shared.beside some at) call) in
    let last : times x (places (length prefix) (option_to_list closing)) ≡ 0 =
    zero_of (times x (places (length prefix) (option_to_list closing)))
    (λ some. call_or_shut e.event call (found (λ (y : Entry). y.event ≡ event.Shutdown) entries (places (length prefix) (option_to_list closing)) x e shared.last (closing_is o (length prefix) closing is) some at)) in
    let all = shared.count x in
    let one : once_below x (length entries) ≡ 1 = below x (length entries) (slice_get_within entries x e at) in
    omega (arith, first, kept, last, all, one)

-- a Shutdown is the one that was posted after the calls
shut_owned : (entries prefix : List Entry) (closing : Option Entry) (own : List (ℕ × Entry)) (owns others : List (List (ℕ × Entry))) → IsShared entries prefix closing own owns others
    → (x : ℕ) (e : Entry) → slice_get entries x ≡ Some e → e.event ≡ event.Shutdown → x ≡ length prefix
shut_owned entries prefix closing own owns others shared x e at shut =
    let first : times x own ≡ 0 = zero_of (times x own) (λ some. beside_shut e.event (found (λ (y : Entry). IsBeside y.event) entries own x e shared.first shared.first_beside some at) shut) in
    let kept : times_in x others ≡ 0 = zero_of (times_in x others) (λ some. beside_shut e.event (found_in (λ (y : Entry). IsBeside y.event) entries others x e shared.kept shared.beside some at) shut) in
    let callers : times_in x owns ≡ 0 = zero_of (times_in x owns) (λ some. call_or_shut e.event (found_in (λ (y : Entry). IsOfCall y.event) entries owns x e shared.callers shared.of_calls some at) shut) in
    let all = shared.count x in
    let one : once_below x (length entries) ≡ 1 = below x (length entries) (slice_get_within entries x e at) in
    closing_at (length prefix) x closing (omega (arith, first, kept, callers, all, one))

once_owned : (entries prefix : List Entry) (closing : Option Entry) (own : List (ℕ × Entry)) (owns others : List (List (ℕ × Entry))) → IsShared entries prefix closing own owns others → (x : ℕ) → times_in x owns ≤ 1
once_owned entries prefix closing own owns others shared x =
    let all = shared.count x in let most = at_most_one x (length entries) in omega (arith, all, most)

shut_first : (o : Outcome) (closing : Option Entry) (more : List Entry) → o ≡ outcome.Whole → IsClosing o closing → IsShutFirst (option_to_list closing ++ more)
shut_first o (Some e) more whole is = (e, more, is, refl)
shut_first o None more whole is = absurd (is whole)

-- all parts are together, so the entries of the handle are all that there are
pub shared_out : (lock : LockId) (held : List (Option (List (List ℕ)))) (config : Option (List ℕ)) (o : Outcome) (owns : List (List (ℕ × Entry))) (seat : SeatSeen Entry) (entries : List Entry) → (left : IsLeft lock held config o owns seat) → AllByRecursion (λ own. AllByRecursion (λ p. IsOfCall p.1.event) own) owns → Owns seat.parts seat.own entries → StartsWith entries seat.seen
    → IsShared entries left.leaves.closes.prefix left.leaves.closes.closing left.start.own owns left.leaves.others
shared_out lock held config o owns seat entries left of_calls all sees =
    let leaves = left.leaves in
    let closes = leaves.closes in
    let shut_seen : StartsWith entries leaves.shut.seen = starts_longer leaves.shut.seen seat.seen entries leaves.takes.sees sees in
    let prefix_seen : StartsWith entries closes.prefix = starts_longer closes.prefix leaves.shut.seen entries (option_to_list closes.closing, closes.shows) shut_seen in
    record {
      first = stands-later left.start.seen entries left.start.own (starts_longer left.start.seen closes.prefix entries closes.sees prefix_seen) left.stands;
      first_beside = left.beside;
      callers = all_stand_later closes.prefix entries owns prefix_seen closes.each;
      of_calls = of_calls;
      last = stands-later leaves.shut.seen entries (places (length closes.prefix) (option_to_list closes.closing)) shut_seen
          (stands-places closes.prefix leaves.shut.seen (option_to_list closes.closing) closes.shows);
      kept = all_stand_later seat.seen entries leaves.others sees leaves.takes.each;
      beside = beside_all left.keepers leaves.others leaves.keeps;
      count = λ x.
          let whole : times x seat.own ≡ once_below x (length entries) = all.whole left.parts x in
          let taken = leaves.takes.count x in
          let made = closes.count x in omega (arith, whole, taken, made);
    }

-- the entries that each of the handles made stand in a prefix of the journal, and so share it out
pub record IsSharedOut (r : Ran) (owns : List (List (ℕ × Entry))) (entries : List Entry) : Type 0 where
  pub prefix : List Entry
  pub rest : List Entry
  pub each : AllByRecursion (StandInOrder prefix) owns
  pub shares : SharesOut r owns prefix rest entries

pub shares : (r : Ran) (lock : LockId) (held : List (Option (List (List ℕ)))) (config : Option (List ℕ)) (o : Outcome) (owns : List (List (ℕ × Entry))) (seat : SeatSeen Entry) (entries : List Entry) → (r ≡ ran.Whole → o ≡ outcome.Whole)
    → IsLeft lock held config o owns seat → AllByRecursion (λ own. AllByRecursion (λ p. IsOfCall p.1.event) own) owns → Owns seat.parts seat.own entries → StartsWith entries seat.seen → IsSharedOut r owns entries
shares r lock held config o owns seat entries whole left of_calls all sees =
    let leaves = left.leaves in
    let closes = leaves.closes in
    let shared = shared_out lock held config o owns seat entries left of_calls all sees in
    let made_whole : r ≡ ran.Whole → leaves.made ≡ outcome.Whole = λ is. (graver_whole leaves.made leaves.kept (sym leaves.outcome ∙ whole is)).0 in
    let shut_seen : StartsWith entries leaves.shut.seen = starts_longer leaves.shut.seen seat.seen entries leaves.takes.sees sees in
    record {
      prefix = closes.prefix;
      rest = option_to_list closes.closing ++ shut_seen.0;
      each = closes.each;
      shares = record {
        parts = shut_seen.1 ∙ ap (λ (l : List Entry). l ++ shut_seen.0) closes.shows ∙ append_assoc closes.prefix (option_to_list closes.closing) shut_seen.0;
        once = λ x. once_owned entries closes.prefix closes.closing left.start.own owns leaves.others shared x;
        only = λ x e at call. call_owned leaves.made entries closes.prefix closes.closing left.start.own owns leaves.others closes.is_closing shared x e at call;
        shut = λ is. shut_first leaves.made closes.closing shut_seen.0 (made_whole is) closes.is_closing;
        alone = λ x e at is. shut_owned entries closes.prefix closes.closing left.start.own owns leaves.others shared x e at is;
      };
    }
