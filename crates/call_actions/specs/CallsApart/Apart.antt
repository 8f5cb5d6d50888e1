-- What happens to one call leaves every other one as it is: which call an action is of, and what it means that of a call nothing changed. It is of the
-- session alone. (gRFC A6 knows one thing that calls share: the tokens of "Throttling Retry Attempts and Hedged RPCs".)
-- Example: the calls 1 and 2 have an attempt each, in the rows 1 and 2, and row 2 ends. That is of call 2: the marks, the row and the config of call 1 are
-- as before. Only the tokens in its bucket are others, where both calls have configs of one run of throttle settings.
use Rattle.std.specs.List.{list_all}
use Rattle.std.specs.Option.{option_map_or}
use Rattle.std.specs.Prelude.{Bool, List, None, Option, Some, [], filter, if◌then◌else◌, is_none, is_some, length, not, option_and_then, option_map, slice_get, suc, true, ℕ, ◌&&◌, ◌+◌, ◌==◌, ◌≡◌, ◌∷◌}
use Rattle.attempt_ledger.specs.Ends.{is_cut}
use Rattle.attempt_ledger.specs.declared.row.RowEnd.{RowEnd}
use Rattle.call_actions.specs.Order.{AttemptsAreNumbered}
use Rattle.h2_frame.specs.Numbers.{headers_type}
use Rattle.session_actions.specs.Attempts.{is_of, is_to_follow, of_its_call}
use Rattle.session_actions.specs.Configs.{config_of_call}
use Rattle.session_actions.specs.Tokens.{run_of}
use Rattle.session_actions.specs.Words.{holds, numbered}
use Rattle.session_actions.specs.Writing.{waiting_on}
use Rattle.session_actions.specs.declared.action.Action.{Action}
use Rattle.session_actions.specs.declared.action.Action.TheVariants as action
use Rattle.session_actions.specs.declared.attempt.Attempt.{Attempt}
use Rattle.session_actions.specs.declared.call.Call.{Call}
use Rattle.session_actions.specs.declared.config.HeldConfig.{HeldConfig}
use Rattle.session_actions.specs.declared.config.ThrottleRun.{ThrottleRun}
use Rattle.session_actions.specs.declared.link.Link.{Link}
use Rattle.session_actions.specs.declared.link.Sent.{Sent}
use Rattle.session_actions.specs.declared.link.Sent.TheVariants as sent
use Rattle.session_actions.specs.declared.seen.Seen.{Seen}

-- the call that an action is of: none, where the action is of a policy, a subchannel, a link, or of the entry
abbrev pub call_at : ℕ → Seen → Option ℕ
call_at place s = option_map (λ a. a.row.call) (numbered s.attempts place)

-- HEADERS that are written open a stream for the first attempt that waits on the link
abbrev pub call_opened : Sent → Seen → Link → Option ℕ
call_opened sent.Preface s l = None
call_opened (sent.Frame f) s l =
    if f.kind == headers_type then option_map (λ a. a.row.call) (slice_get (waiting_on l s) 0) else None

abbrev pub acts_on : Action → Seen → Option ℕ
acts_on action.CallBegins s = Some (length s.calls + 1)
acts_on (action.MessageAccepted call) s = Some call
acts_on (action.RequestFinished call) s = Some call
acts_on (action.ItemTaken call item) s = Some call
acts_on (action.CallEnds call why) s = Some call
acts_on (action.CallConfigured call config) s = Some call
acts_on (action.AttemptMade call number k due) s = Some call
acts_on (action.HedgeWithheld call) s = Some call
acts_on (action.AttemptPlaced row at) s = call_at row s
acts_on (action.AttemptEnds row end) s = call_at row s
acts_on (action.CallCommitted row why) s = call_at row s
acts_on (action.StreamReset row number) s = call_at row s
acts_on (action.FrameWritten link x) s = option_and_then (call_opened x s) (numbered s.links link)
acts_on _ s = None

-- of a call nothing changed from one history to a later one: neither what it was asked and what was marked of it, nor its config, nor its attempts, each
-- at its place, nor the throttle settings of its run
pub record IsApart (s t : Seen) (c : Call) : Type 0 where
  pub call : numbered t.calls c.number ≡ numbered s.calls c.number
  pub config : config_of_call c t ≡ config_of_call c s
  pub attempts : filter (is_of c) t.attempts ≡ filter (is_of c) s.attempts
  pub rows : (place : ℕ) → holds (is_of c) (numbered s.attempts place) ≡ true → numbered t.attempts place ≡ numbered s.attempts place
  pub throttle : option_map (λ run. run.throttle) (run_of c t) ≡ option_map (λ run. run.throttle) (run_of c s)

-- What a session keeps in order of all its calls: calls and attempts are numbered by their places. A call's config is there, and a config's run; and what
-- a bucket counted are ends of attempts of calls that have a config
abbrev pub CallsAreNumbered : ℕ → List Call → Type 0
CallsAreNumbered n [] = Unit {0}
CallsAreNumbered n (c ∷ calls) = (c.number ≡ n) × CallsAreNumbered (suc n) calls

abbrev pub has_config : Seen → Call → Bool
has_config s c = option_map_or (λ k. is_some (numbered s.configs k)) c.config true

abbrev pub has_run : Seen → HeldConfig → Bool
has_run s h = option_map_or (λ k. is_some (numbered s.runs k)) h.run true

abbrev pub is_end_there : Seen → Attempt → Bool
is_end_there s a = is_some a.row.ended && of_its_call (λ c. is_some c.config) a s

abbrev pub is_counted_there : Seen → ThrottleRun → Bool
is_counted_there s run = list_all (λ place. holds (is_end_there s) (numbered s.attempts place)) run.ends

pub record IsBook (s : Seen) : Type 0 where
  pub calls : CallsAreNumbered 1 s.calls
  pub places : AttemptsAreNumbered 1 s.attempts
  pub configs : list_all (has_config s) s.calls ≡ true
  pub runs : list_all (has_run s) s.configs ≡ true
  pub counted : list_all (is_counted_there s) s.runs ≡ true

-- what each line of the session gives with its action: an attempt ends once, and a call gets one config, which is there
abbrev pub IsFair : Action → Seen → Type 0
IsFair (action.AttemptEnds row end) s = (a : Attempt) → numbered s.attempts row ≡ Some a → is_none a.row.ended ≡ true
IsFair (action.CallConfigured call config) s =
    (is_some (numbered s.configs config) ≡ true) × ((c : Call) → numbered s.calls call ≡ Some c → is_none c.config ≡ true)
IsFair _ s = Unit {0}

-- the run whose tokens an action changes: that of the config of the call whose attempt ends, where this end counts
abbrev pub run_number : Call → Seen → Option ℕ
run_number c s = option_and_then (λ h. h.run) (config_of_call c s)

abbrev pub run_counting : RowEnd → Seen → Attempt → Option ℕ
run_counting e s a =
    option_and_then (λ c. if not (is_cut e.cause) && not (is_to_follow c e.cause e.unseen s) then run_number c s else None) (numbered s.calls a.row.call)

abbrev pub counts_in : Action → Seen → Option ℕ
counts_in (action.AttemptEnds row end) s = option_and_then (run_counting end s) (numbered s.attempts row)
counts_in _ s = None
