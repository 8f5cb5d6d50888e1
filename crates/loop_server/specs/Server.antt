-- What a scripted server is to its callers.
use Rattle.std.specs.Prelude.{ℕ, List, []}
use Rattle.grpc_base.specs.declared.script.AnswerLine.{AnswerLine}
use Rattle.h2_server.specs.Wire.{Seen, fresh}
use Rattle.loop_server.specs.declared.answers.Cursor.{Cursor}
use Rattle.loop_server.specs.declared.session.OpenRequest.{OpenRequest}
use Rattle.loop_server.specs.declared.turn.Turn.{Turn}

-- the answers, the one without a path last; and of each path whose requests have ended, which answer the latest one got
pub record Book : Type 0 where
  pub lines : List AnswerLine
  pub cursors : List Cursor

-- one link: its bytes and streams, its requests that have not ended, and the answers that are not given whole, in the order
-- in which their requests ended
pub record Served : Type 0 where
  pub number : ℕ
  pub link : Seen
  pub open_requests : List OpenRequest
  pub turns : List Turn

-- the server: how many requests were answered, its links in the order in which they were first named, how many pieces were
-- refused since their link is broken, and the code with which the last of them was
pub record Core : Type 0 where
  pub book : Book
  pub answered : ℕ
  pub sessions : List Served
  pub breaks : ℕ
  pub last_code : ℕ

-- a server without links
abbrev pub new_core : List AnswerLine → Core
new_core lines = record { book = record { lines = lines; cursors = [] }; answered = 0; sessions = []; breaks = 0; last_code = 0 }

-- a link on which nothing happened
abbrev pub new_session : ℕ → Served
new_session number = record { number = number; link = fresh; open_requests = []; turns = [] }
