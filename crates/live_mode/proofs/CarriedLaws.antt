-- What the handle knows of the calls that took all others in.
use Rattle.std.proofs.Common.{◌≡◌, ◌⊎◌, ◌∙◌, ℕ, suc, ◌+◌, Option, List, [], ◌∷◌, ap, arith, inl, length, map, refl, sym, subst}
use Rattle.std.specs.List.{AllByRecursion, AllZip}
use Rattle.grpc_base.specs.declared.event.Entry.{Entry}
use Rattle.grpc_base.specs.declared.script.CallLine.{CallLine}
use Rattle.live_pump.specs.Calls.{LinesPrefix, MakesLines}
use Rattle.live_run.specs.Outcomes.{graver}
use Rattle.live_run.specs.declared.outcome.Outcome.{Outcome}
use Rattle.live_run.specs.declared.outcome.Outcome.TheVariants as outcome
use Rattle.script_input.specs.declared.live_script.WorkerLine.{WorkerLine}
use Rattle.session_text.specs.declared.ran.Ran.{Ran}
use Rattle.session_text.specs.declared.ran.Ran.TheVariants as ran
use Rattle.shared_channel.specs.Turns.{entries_of}
use Rattle.turn_lock.specs.History.{LockId, Owns, SeatSeen, StartsWith}
use Rattle.live_channel.specs.Handles.{Shuts, StandInOrder, TakesIn, owns_of}
use Rattle.live_channel.specs.Sharing.{IsOfCall, times_in}
use Rattle.live_channel.specs.Held.{ComeAsHeld}
use Rattle.live_channel.proofs.HeldLaws.{come_as_held}
use Rattle.live_channel.proofs.ShareLaws.{closes_taken, graver_whole, shares}
use Rattle.live_mode.specs.Made.{CarriesCalls, IsWorkOf, MakesOwn, worker_lines}
use Rattle.live_mode.specs.Handles.{CallsAreMade, IsWorked, LeavesCalls, MakesUpTo, busy}
use Rattle.live_mode.specs.Sides.{MakesDone}
use Rattle.live_mode.specs.declared.sides.Callers.{Callers}
use Rattle.live_mode.proofs.EventLaws.{own_of_calls}

-- ---- outcomes

either_way : (o : Outcome) (lines : List CallLine) (made : List Entry) → MakesUpTo o lines made → MakesLines lines [] made ⊎ LinesPrefix lines [] made
either_way outcome.Whole lines made makes = inl makes
either_way outcome.Full lines made makes = makes
either_way outcome.NoMemory lines made makes = makes

-- a run that ended worse than the worker did
pub up_to_worse : (a o : Outcome) → (o ≡ outcome.Whole → a ≡ outcome.Whole) → (lines : List CallLine) (made : List Entry) → MakesUpTo a lines made → MakesUpTo o lines made
up_to_worse a outcome.Whole worse lines made makes = subst (λ (x : Outcome). MakesUpTo x lines made) (worse refl) makes
up_to_worse a outcome.Full worse lines made makes = either_way a lines made makes
up_to_worse a outcome.NoMemory worse lines made makes = either_way a lines made makes

pub all_worse : (a o : Outcome) (groups : List (List CallLine)) (owns : List (List (ℕ × Entry))) → (o ≡ outcome.Whole → a ≡ outcome.Whole) → CallsAreMade a groups owns → CallsAreMade o groups owns
all_worse a o [] [] worse all = tt
all_worse a o [] (own ∷ owns) worse all = absurd all
all_worse a o (lines ∷ groups) [] worse all = absurd all
all_worse a o (lines ∷ groups) (own ∷ owns) worse all = (up_to_worse a o worse lines (entries_of own) all.0, all_worse a o groups owns worse all.1)

-- ---- the Shutdown after the calls

makes_all : (lock : LockId) (a o : Outcome) (groups : List (List CallLine)) (seats : List (SeatSeen Entry)) → (o ≡ outcome.Whole → a ≡ outcome.Whole) → AllZip (IsWorked lock a) groups seats → CallsAreMade o groups (owns_of seats)
makes_all lock a o [] [] worse all = tt
makes_all lock a o [] (s ∷ seats) worse all = absurd all
makes_all lock a o (lines ∷ groups) [] worse all = absurd all
makes_all lock a o (lines ∷ groups) (s ∷ seats) worse all = (up_to_worse a o worse lines (entries_of s.own) all.0.makes, makes_all lock a o groups seats worse all.1)

-- the Shutdown after the calls
pub closes_made : {H : Type 0} (seat_of : H → SeatSeen Entry) (before after : Callers H) (made shut : Outcome) (mid : SeatSeen Entry) (seats : List (SeatSeen Entry)) → after.outcome ≡ graver made shut
    → AllZip (IsWorked (seat_of before.closer).lock made) (map (λ j. j.lines.items) before.jobs.items) seats → length seats ≡ length before.jobs.items → TakesIn (seat_of before.closer) (owns_of seats) mid → Shuts shut mid (seat_of after.closer) → MakesDone seat_of before after
closes_made seat_of before after made shut mid seats is all long takes shuts =
    let both : after.outcome ≡ outcome.Whole → (made ≡ outcome.Whole) × (shut ≡ outcome.Whole) = λ whole. graver_whole made shut (sym is ∙ whole) in
    record {
      lock = shuts.lock ∙ takes.lock;
      parts = shuts.parts ∙ takes.parts ∙ ap (λ (n : ℕ). (seat_of before.closer).parts + n) (owns_long seats ∙ long);
      owns = owns_of seats;
      makes = makes_all (seat_of before.closer).lock made after.outcome (map (λ j. j.lines.items) before.jobs.items) seats (λ whole. (both whole).0) all;
      closes = closes_taken shut after.outcome (owns_of seats) (seat_of before.closer) mid (seat_of after.closer) (λ whole. (both whole).1) takes shuts;
    }
  where
    owns_long : (l : List (SeatSeen Entry)) → length (owns_of l) ≡ length l
    owns_long [] = refl
    owns_long (s ∷ l) = ap suc (owns_long l)

-- ---- the workers without calls

-- for each group the entries that were made of it: none where it has no call
record IsSpread (r : Ran) (prefix : List Entry) (groups : List (List CallLine)) (owns : List (List (ℕ × Entry))) : Type 0 where
  spread : List (List (ℕ × Entry))
  made : AllZip (IsWorkOf r prefix) groups spread
  same : (x : ℕ) → times_in x spread ≡ times_in x owns

own_of_run : (r : Ran) (o : Outcome) (lines : List CallLine) (made : List Entry) → (r ≡ ran.Whole → o ≡ outcome.Whole) → MakesUpTo o lines made → MakesOwn r lines made
own_of_run ran.Whole o lines made whole makes = subst (λ (x : Outcome). MakesUpTo x lines made) (whole refl) makes
own_of_run ran.Full o lines made whole makes = either_way o lines made makes

no_work : (r : Ran) (prefix : List Entry) → IsWorkOf r prefix [] []
no_work ran.Whole prefix = record { stands = tt; ascends = tt; makes = refl }
no_work ran.Full prefix = record { stands = tt; ascends = tt; makes = inl refl }

spread_out : (r : Ran) (o : Outcome) (prefix : List Entry) (groups : List (List CallLine)) (owns : List (List (ℕ × Entry))) → (r ≡ ran.Whole → o ≡ outcome.Whole)
    → CallsAreMade o (busy groups) owns → AllByRecursion (StandInOrder prefix) owns → IsSpread r prefix groups owns
spread_out r o prefix [] [] whole makes stand = record { spread = []; made = tt; same = λ x. refl }
spread_out r o prefix [] (own ∷ owns) whole makes stand = absurd makes
spread_out r o prefix ([] ∷ groups) owns whole makes stand =
    let more = spread_out r o prefix groups owns whole makes stand in
    record { spread = [] ∷ more.spread; made = (no_work r prefix, more.made); same = λ x. let e = more.same x in omega (arith, e) }
spread_out r o prefix ((line ∷ lines) ∷ groups) [] whole makes stand = absurd makes
spread_out r o prefix ((line ∷ lines) ∷ groups) (own ∷ owns) whole makes stand =
    let more = spread_out r o prefix groups owns whole makes.1 stand.1 in
    record {
      spread = own ∷ more.spread;
      made = (record { stands = stand.0.stands; ascends = stand.0.ascends; makes = own_of_run r o (line ∷ lines) (entries_of own) whole makes.0 }, more.made);
      same = λ x. let e = more.same x in omega (arith, e);
    }

-- ---- each entry is of one

calls_all : (o : Outcome) (groups : List (List CallLine)) (owns : List (List (ℕ × Entry))) → CallsAreMade o groups owns → AllByRecursion (λ own. AllByRecursion (λ p. IsOfCall p.1.event) own) owns
calls_all o [] [] makes = tt
calls_all o [] (own ∷ owns) makes = absurd makes
calls_all o (lines ∷ groups) [] makes = absurd makes
calls_all o (lines ∷ groups) (own ∷ owns) makes = (own_of_calls o lines own makes.0, calls_all o groups owns makes.1)

pub carries : (r : Ran) (lock : LockId) (held : List (Option (List (List ℕ)))) (config : Option (List ℕ)) (o : Outcome) (calls : List WorkerLine) (groups : List (List CallLine)) (seat : SeatSeen Entry) (entries : List Entry) → (r ≡ ran.Whole → o ≡ outcome.Whole) → groups ≡ worker_lines calls
    → LeavesCalls lock held config o groups seat → Owns seat.parts seat.own entries → StartsWith entries seat.seen → CarriesCalls r calls entries
carries r lock held config o calls groups seat entries whole same by all sees =
    let out = shares r lock held config o by.owns seat entries whole by.left (calls_all o (busy groups) by.owns by.makes) all sees in
    let spread = spread_out r o out.prefix groups by.owns whole by.makes out.each in
    record {
      prefix = out.prefix;
      rest = out.rest;
      parts = out.shares.parts;
      owns = spread.spread;
      made = subst (λ (g : List (List CallLine)). AllZip (IsWorkOf r out.prefix) g spread.spread) same spread.made;
      once = λ x. let e = spread.same x in let most = out.shares.once x in omega (arith, e, most);
      only = λ x e at call. spread.same x ∙ out.shares.only x e at call;
      shut = out.shares.shut;
      alone = out.shares.alone;
    }

-- ---- what came on the links

pub come : (lock : LockId) (held : List (Option (List (List ℕ)))) (config : Option (List ℕ)) (o : Outcome) (groups : List (List CallLine)) (seat : SeatSeen Entry) (entries : List Entry) → LeavesCalls lock held config o groups seat → Owns seat.parts seat.own entries → StartsWith entries seat.seen
    → ComeAsHeld held config entries
come lock held config o groups seat entries by all sees = come_as_held lock held config o by.owns seat entries by.left (calls_all o (busy groups) by.owns by.makes) all sees
