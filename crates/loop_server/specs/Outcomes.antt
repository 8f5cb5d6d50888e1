-- What the calls inside answer, beside the state that they leave.
use Rattle.std.specs.Prelude.{◌≡◌, ℕ, Bool, true, false, Option, Some, None, List, ◌++◌}
use Rattle.std.specs.List.{remove}
use Rattle.grpc_base.specs.Counts.{one_more}
use Rattle.grpc_base.specs.declared.script.AnswerLine.{AnswerLine}
use Rattle.h2_server.specs.Wire.{Seen}
use Rattle.loop_server.specs.declared.turn.Turn.{Turn}
use Rattle.loop_server.specs.Drains.{Giving, Move, is_given, move_of, turn_given}
use Rattle.loop_server.specs.Server.{Served}

-- what came of an answer: its move was made, or it has none and nothing changed
abbrev pub MovedAs : Bool → Option Move → Seen → Turn → List ℕ → Seen → Turn → List ℕ → Type 0
MovedAs true None l t out l2 t2 out2 = ⊥
MovedAs true (Some m) l t out l2 t2 out2 = (l2 ≡ record l { wire = m.wire }) × (t2 ≡ m.turn) × (out2 ≡ out ++ m.octets)
MovedAs false None l t out l2 t2 out2 = (l2 ≡ l) × (t2 ≡ t) × (out2 ≡ out)
MovedAs false (Some m) l t out l2 t2 out2 = ⊥

-- what the answer at a place gives, if it may give something
abbrev pub answer_by : List AnswerLine → Giving → ℕ → Option Move → Option Giving
answer_by lines g place None = None
answer_by lines g place (Some m) = Some (turn_given g place m (is_given lines m.turn))

abbrev pub answer_at : List AnswerLine → Giving → ℕ → Option Turn → Option Giving
answer_at lines g place None = None
answer_at lines g place (Some t) = answer_by lines g place (move_of lines g.answered g.session.link.wire t)

-- an answer that was given whole is taken off and counted
abbrev pub Settled : Bool → Served → ℕ → ℕ → Served → ℕ → Type 0
Settled true s answered place s2 answered2 = (s2 ≡ record s { turns = remove s.turns place }) × (answered2 ≡ one_more answered)
Settled false s answered place s2 answered2 = (s2 ≡ s) × (answered2 ≡ answered)

-- the same of what stands next on a link
abbrev pub WentAs : Bool → Option Giving → Giving → Giving → Type 0
WentAs true None g h = ⊥
WentAs true (Some more) g h = h ≡ more
WentAs false None g h = h ≡ g
WentAs false (Some more) g h = ⊥
