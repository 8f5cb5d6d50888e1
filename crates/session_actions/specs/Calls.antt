-- What happens to a call, and how it is kept in order (gRPC, "Core concepts": RPC life cycle).
-- Example: a call whose one attempt is answered by trailers alone has the marks Configured, Made 1, Placed 1, Ended 1, Committed, Closed; one whose
-- response has a head has Committed before Ended 1.
use Rattle.std.specs.Prelude.{Bool, [], is_none, ℕ, ◌++◌, ◌∷◌}
use Rattle.session_actions.specs.Entries.{now}
use Rattle.session_actions.specs.Words.{changed}
use Rattle.session_actions.specs.declared.call.Call.{Call}
use Rattle.session_actions.specs.declared.call.MarkKind.{MarkKind}
use Rattle.session_actions.specs.declared.seen.Seen.{Seen}

-- a call, changed
abbrev pub with_call : (Call → Call) → ℕ → Seen → Seen
with_call f call s = record s { calls = changed f call s.calls }

-- something happened to a call now
abbrev pub marked : MarkKind → ℕ → Seen → Seen
marked what call s = with_call (λ c. record c { marks = c.marks ++ record { what = what; moment = now s } ∷ [] }) call s

abbrev pub is_open_call : Call → Bool
is_open_call c = is_none c.end
