-- Nobody has to believe these steps: what the code does at a piece, one definition for each function.
use Rattle.std.specs.Prelude.{◌≡◌, ℕ, zero, suc, ◌+◌, ◌-◌, ◌==◌, Bool, true, ◌||◌, if◌then◌else◌, Option, Some, None, is_some, unwrap_or, List, [], ◌∷◌, ◌++◌, length, drop, position, slice_get, slice_set, codes}
use Rattle.std.specs.List.{remove}
use Rattle.std.specs.Str.{bytes_eq}
use Rattle.grpc_base.specs.Counts.{one_more}
use Rattle.grpc_base.specs.declared.fields.Field.{Field}
use Rattle.grpc_base.specs.declared.script.AnswerLine.{AnswerLine}
use Rattle.h2_server.specs.Received.{Receiving, handled}
use Rattle.h2_server.specs.declared.news.RequestNews.{RequestNews}
use Rattle.h2_server.specs.declared.news.RequestNews.TheVariants as news
use Rattle.loop_server.specs.declared.answers.Cursor.{Cursor}
use Rattle.loop_server.specs.declared.session.OpenRequest.{OpenRequest}
use Rattle.loop_server.specs.declared.turn.Turn.{Turn}
use Rattle.loop_server.specs.Server.{Book, Core, Served, new_session}

-- the place of the first answer of a path; the lines are those from a place on
abbrev pub next_from : List ℕ → ℕ → List AnswerLine → Option ℕ
next_from path place [] = None
next_from path place (a ∷ lines) = if bytes_eq a.path path then Some place else next_from path (place + 1) lines

-- the cursor of a path, with its place
abbrev pub cursor_from : List ℕ → ℕ → List Cursor → Option (ℕ × ℕ)
cursor_from path at [] = None
cursor_from path at (c ∷ cursors) = if bytes_eq c.path path then Some (at, c.place) else cursor_from path (at + 1) cursors

-- which answer a request gets, and the book then
pub record Chosen : Type 0 where
  pub place : ℕ
  pub book : Book

abbrev pub chosen_first : Book → List ℕ → Option ℕ → Chosen
chosen_first b path None = record { place = length b.lines - 1; book = b }
chosen_first b path (Some place) =
    record { place = place; book = record b { cursors = b.cursors ++ record { path = path; place = place } ∷ [] } }

abbrev pub chosen_next : Book → List ℕ → ℕ → ℕ → Option ℕ → Chosen
chosen_next b path at old None = record { place = old; book = b }
chosen_next b path at old (Some place) =
    record { place = place; book = record b { cursors = slice_set b.cursors at (record { path = path; place = place }) } }

abbrev pub chosen_by : Book → List ℕ → Option (ℕ × ℕ) → Chosen
chosen_by b path None = chosen_first b path (next_from path 0 b.lines)
chosen_by b path (Some x) = chosen_next b path x.0 x.1 (next_from path (x.1 + 1) (drop (x.1 + 1) b.lines))

abbrev pub chosen : Book → List ℕ → Chosen
chosen b path = chosen_by b path (cursor_from path 0 b.cursors)

-- the path of a request, or nothing where it has none
abbrev pub is_path_field : Field → Bool
is_path_field f = bytes_eq f.name (codes ":path")

abbrev pub path_of : List Field → List ℕ
path_of [] = []
path_of (f ∷ fields) = if is_path_field f then f.value else path_of fields

-- what is at the place of the first one that passes, and the list without it
abbrev pub found_at : {A : Type 0} → List A → Option ℕ → Option A
found_at xs None = None
found_at xs (Some place) = slice_get xs place

abbrev pub without_at : {A : Type 0} → List A → Option ℕ → List A
without_at xs None = xs
without_at xs (Some place) = remove xs place

abbrev pub is_request : ℕ → OpenRequest → Bool
is_request stream r = r.stream == stream

abbrev pub is_turn : ℕ → Turn → Bool
is_turn stream t = t.stream == stream

-- the book and one link
pub record Reading : Type 0 where
  pub book : Book
  pub session : Served

-- the head of a request, or its trailers
abbrev pub begun : Served → ℕ → List Field → Served
begun s stream fields =
    if is_some (position (is_request stream) s.open_requests) then s
    else record s { open_requests = s.open_requests ++ record { stream = stream; path = path_of fields } ∷ [] }

-- the end of a request
abbrev pub new_turn : ℕ → ℕ → Turn
new_turn stream line = record { stream = stream; line = line; part = 0; text = [] }

abbrev pub ended_by : Book → Served → ℕ → Option OpenRequest → Reading
ended_by b s stream None = record { book = b; session = s }
ended_by b s stream (Some r) =
    let c = chosen b r.path in
    record { book = c.book; session = record s { turns = s.turns ++ new_turn stream c.place ∷ [] } }

abbrev pub ended : Book → Served → ℕ → Reading
ended b s stream =
    let at = position (is_request stream) s.open_requests in
    ended_by b (record s { open_requests = without_at s.open_requests at }) stream (found_at s.open_requests at)

abbrev pub ended_if : Bool → Book → Served → ℕ → Reading
ended_if end b s stream = if end then ended b s stream else record { book = b; session = s }

-- a stream that is closed
abbrev pub dropped : Served → ℕ → Served
dropped s stream = record s {
  open_requests = without_at s.open_requests (position (is_request stream) s.open_requests);
  turns = without_at s.turns (position (is_turn stream) s.turns);
}

-- what a link reported
abbrev pub reported : Book → Served → Option RequestNews → Reading
reported b s None = record { book = b; session = s }
reported b s (Some (news.Fields stream fields end)) = ended_if end b (begun s stream fields) stream
reported b s (Some (news.Data stream octets end)) = ended_if end b s stream
reported b s (Some (news.Reset stream code)) = record { book = b; session = dropped s stream }
reported b s (Some (news.Fault stream code)) = record { book = b; session = dropped s stream }
reported b s (Some (news.Broken code)) = record { book = b; session = record s { open_requests = []; turns = [] } }

-- one frame of a piece
pub record Arriving : Type 0 where
  pub state : Reading
  pub rest : List ℕ

abbrev pub reported_of : Reading → Receiving → Reading
reported_of x h = reported x.book (record x.session { link = h.link }) h.news

abbrev pub is_done : Arriving → Bool
is_done a = is_some a.state.session.link.wire.broken || (length a.rest == 0)

abbrev pub stepped : Arriving → Arriving
stepped a =
    if is_done a then a
    else
    (let h = handled a.state.session.link a.rest in
    record { state = reported_of a.state h; rest = drop h.taken a.rest })

-- so many frames of a piece
abbrev pub after_steps : ℕ → Arriving → Arriving
after_steps zero a = a
after_steps (suc n) a = stepped (after_steps n a)

-- a piece is taken up to its end, or until its link is broken
pub record Arrives (before : Reading) (piece : List ℕ) (after : Reading) : Type 0 where
  pub count : ℕ
  pub state : (after_steps count (record { state = before; rest = piece })).state ≡ after
  pub done : is_done (after_steps count (record { state = before; rest = piece })) ≡ true

-- a link, which is made where it is not known
abbrev pub is_link : ℕ → Served → Bool
is_link number s = s.number == number

abbrev pub place_of_link : List Served → ℕ → ℕ
place_of_link sessions link = unwrap_or (position (is_link link) sessions) (length sessions)

abbrev pub with_link : List Served → ℕ → List Served
with_link sessions link =
    if is_some (position (is_link link) sessions) then sessions else sessions ++ new_session link ∷ []

-- one piece more was refused, or none
abbrev pub breaks_after : ℕ → Option ℕ → ℕ
breaks_after breaks None = breaks
breaks_after breaks (Some code) = one_more breaks

-- the same of the server, and the code with which the link is broken then
pub record CoreArrives (c : Core) (link : ℕ) (piece : List ℕ) (d : Core) (broken : Option ℕ) : Type 0 where
  pub session : Served
  pub found : slice_get (with_link c.sessions link) (place_of_link c.sessions link) ≡ Some session
  pub end : Reading
  pub arrives : Arrives (record { book = c.book; session = session }) piece end
  pub broken_is : broken ≡ end.session.link.wire.broken
  pub after : d ≡ record {
    book = end.book;
    answered = c.answered;
    sessions = slice_set (with_link c.sessions link) (place_of_link c.sessions link) end.session;
    breaks = breaks_after c.breaks broken;
    last_code = unwrap_or broken c.last_code;
  }
