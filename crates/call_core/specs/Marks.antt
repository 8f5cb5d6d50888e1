-- What happens to a hedged call, as far as it decides when its next attempt is due, one mark each, the newest first; and the due moment
-- that the marks say (gRFC A6, "Hedging Policy", "Pushback" and "Throttling Retry Attempts and Hedged RPCs").
use Rattle.std.specs.Prelude.{◌≡◌, ◌≤◌, ℕ, ◌+◌, ◌==◌, Bool, true, false, not, ◌&&◌, ◌||◌, nat_le, nat_lt, if◌then◌else◌, Option, Some, None, is_some, List, [], ◌∷◌, length}
use Rattle.std.specs.Option.{is_none, option_map, option_map_or}
use Rattle.grpc_base.specs.Codes.{has_code}
use Rattle.grpc_base.specs.declared.plan.CallPlan.TheVariants as plans
use Rattle.grpc_base.specs.declared.plan.HedgePolicy.{HedgePolicy}
use Rattle.attempt_ledger.specs.declared.news.EndNews.{EndNews}
use Rattle.attempt_ledger.specs.declared.news.News.{News}
use Rattle.attempt_ledger.specs.declared.news.News.TheVariants as news
use Rattle.attempt_ledger.specs.declared.row.RowEnd.{RowEnd}
use Rattle.a6_numbers.specs.Throttling.{Bucket}
use Rattle.hedge_core.specs.DueMoments.{forced_by, stops}
use Rattle.call_core.specs.declared.attempts.Attempts.{Attempts}
use Rattle.call_core.specs.declared.state.CallState.{CallState}
use Rattle.call_core.specs.Laws.{counts_end, settled_by}
use Rattle.call_core.specs.Parts.{count_of, find_live, is_above, names, row_end}
use Rattle.call_core.specs.Steps.{Stepped, call_plan}

pub data Mark : Type 0 where
  -- the call got its configuration at this moment
  Configured : ℕ → Mark
  -- an attempt was made, and its row has this place
  Made : ℕ → Mark
  -- the row of this place was placed at this moment
  Placed : ℕ → ℕ → Mark
  -- a row ended so and no transparent retry follows it, and whether more than half of the tokens are left after it
  Ended : RowEnd → Bool → Mark
  -- the tokens forbade the attempt that was due
  Forbidden : Mark

-- how many attempts were made
abbrev pub made_in : List Mark → ℕ
made_in [] = 0
made_in (Configured moment ∷ marks) = 0
made_in (Made place ∷ marks) = made_in marks + 1
made_in (Placed place moment ∷ marks) = made_in marks
made_in (Ended end above ∷ marks) = made_in marks
made_in (Forbidden ∷ marks) = made_in marks

-- the row of the newest attempt
abbrev pub newest_in : List Mark → Option ℕ
newest_in [] = None
newest_in (Configured moment ∷ marks) = None
newest_in (Made place ∷ marks) = Some place
newest_in (Placed place moment ∷ marks) = newest_in marks
newest_in (Ended end above ∷ marks) = newest_in marks
newest_in (Forbidden ∷ marks) = newest_in marks

-- the moment that was asked for since the newest attempt was made: by the last end with one of the policy's codes, or, of the first
-- attempt, by the configuration
abbrev pub forced_in : HedgePolicy → List Mark → Option ℕ
forced_in policy [] = None
forced_in policy (Configured moment ∷ marks) = Some moment
forced_in policy (Made place ∷ marks) = None
forced_in policy (Placed place moment ∷ marks) = forced_in policy marks
forced_in policy (Ended end above ∷ marks) = if has_code policy.codes end.code then Some (forced_by end) else forced_in policy marks
forced_in policy (Forbidden ∷ marks) = forced_in policy marks

-- when the newest attempt's own row was placed, and no transparent retry of it
abbrev pub placed_in : List Mark → Option ℕ
placed_in [] = None
placed_in (Configured moment ∷ marks) = None
placed_in (Made place ∷ marks) = None
placed_in (Placed place moment ∷ marks) = if names place (newest_in marks) then Some moment else placed_in marks
placed_in (Ended end above ∷ marks) = placed_in marks
placed_in (Forbidden ∷ marks) = placed_in marks

-- an end stopped hedging, or the tokens did
abbrev pub has_stopped : HedgePolicy → List Mark → Bool
has_stopped policy [] = false
has_stopped policy (Configured moment ∷ marks) = false
has_stopped policy (Made place ∷ marks) = has_stopped policy marks
has_stopped policy (Placed place moment ∷ marks) = has_stopped policy marks
has_stopped policy (Ended end above ∷ marks) = has_stopped policy marks || stops policy end above
has_stopped policy (Forbidden ∷ marks) = true

-- the next due moment: the one that was asked for since the newest attempt was made, or else the delay after its row was placed; none
-- once hedging stopped, and past the most attempts
abbrev pub due_in : HedgePolicy → List Mark → Option ℕ
due_in policy marks =
    if has_stopped policy marks || nat_le policy.max (made_in marks) then None
    else option_map_or (λ asked. Some asked) (forced_in policy marks) (option_map (λ placed. placed + policy.delay) (placed_in marks))

-- the call has its configuration, and is neither committed nor over
pub record IsOpen (call : CallState) : Type 0 where
  pub configured : is_some call.chosen ≡ true
  pub free : call.attempts.committed ≡ None
  pub going : call.ended ≡ None

-- what a call knows of its attempts is what its marks say
pub record Fits (policy : HedgePolicy) (marks : List Mark) (a : Attempts) : Type 0 where
  pub sent : a.sent ≡ made_in marks
  pub forced : a.forced ≡ forced_in policy marks
  pub stopped : a.stopped ≡ has_stopped policy marks
  pub newest : 1 ≤ made_in marks → a.newest ≡ newest_in marks
  pub placed : 1 ≤ made_in marks → a.placed ≡ placed_in marks

abbrev pub MarksAgree : HedgePolicy → List Mark → Stepped → Type 0
MarksAgree policy marks s = IsOpen s.call → call_plan s.call ≡ plans.Hedge policy → Fits policy marks s.call.attempts

-- the marks after each thing that is done to the call: the configuration, where it has none
abbrev pub marks_configured : ℕ → CallState → List Mark → List Mark
marks_configured moment call marks = if is_some call.chosen then marks else Configured moment ∷ marks

-- a placing, of a queued row of it
abbrev pub marks_placed : ℕ → ℕ → CallState → List Mark → List Mark
marks_placed place moment call marks =
    if option_map_or (λ row. is_none row.link) (find_live place call.live) false then Placed place moment ∷ marks else marks

-- an end that counts
abbrev pub ended_mark : EndNews → ℕ → Option Bucket → ℕ → Mark
ended_mark reported moment tokens entry = Ended (row_end reported entry moment (count_of tokens)) (is_above tokens)

abbrev pub marks_ended : ℕ → EndNews → ℕ → Stepped → List Mark → List Mark
marks_ended place reported moment s marks =
    if counts_end place reported s.call then ended_mark reported moment (settled_by reported s.call s.tokens) s.ledger.entry ∷ marks else marks

abbrev pub marks_received : ℕ → News → ℕ → Stepped → List Mark → List Mark
marks_received place (news.Ended tag end) moment s marks = marks_ended place end moment s marks
marks_received place _ moment s marks = marks

-- a moment by which an attempt is due: it is made, unless it is a hedge that the tokens forbid
abbrev pub marks_at : Option ℕ → ℕ → Stepped → List Mark → List Mark
marks_at None moment s marks = marks
marks_at (Some due) moment s marks =
    if nat_lt moment due then marks
    else if not (made_in marks == 0) && not (is_above s.tokens) then Forbidden ∷ marks
    else Made (length s.ledger.rows + 1) ∷ marks

abbrev pub marks_due : HedgePolicy → ℕ → Stepped → List Mark → List Mark
marks_due policy moment s marks = marks_at (due_in policy marks) moment s marks
