-- A frame that is read bears on the subchannel of its link and on the attempts that go on there; of an attempt that ended it changes nothing.
use Rattle.std.proofs.Common.{◌≡◌, ◌<◌, ◌∷◌, ◌++◌, ◌||◌, ◌&&◌, ◌==◌, not, ap, refl, sym, ◌∙◌, Bool, true, false, List, [], Option, None, Some, ℕ, filter_map, if◌then◌else◌, is_some}
use Rattle.std.proofs.lemmas.Bool.{eqb-false, eqb-true, lt-leb}
use Rattle.std.specs.List.{list_any}
use Rattle.std.specs.Option.{option_and_then, option_map, option_map_or}
use Rattle.attempt_ledger.specs.declared.row.Placed.{Placed}
use Rattle.attempt_ledger.specs.declared.row.RowEnd.{RowEnd}
use Rattle.grpc_base.specs.ErrorCodes.{cancel}
use Rattle.h2_frame.specs.Frames.{FrameSeen, has_flag}
use Rattle.h2_frame.specs.Numbers.{data_type, end_stream_flag}
use Rattle.session_actions.specs.AttemptEnds.{code_at_end, code_for_stream, code_to_reset, is_framing, is_reset}
use Rattle.session_actions.specs.Entries.{entry}
use Rattle.session_actions.specs.Links.{has_written_end, written_in}
use Rattle.session_actions.specs.Responses.{is_read_by, limit_of_attempt, no_response, response, response_by, response_in, response_on, traffic_by, traffic_of}
use Rattle.session_actions.specs.Words.{changed, numbered}
use Rattle.session_actions.specs.Writing.{frame_read_on, owed_for, with_frame_read}
use Rattle.session_actions.specs.declared.attempt.Attempt.{Attempt}
use Rattle.session_actions.specs.declared.entry.OpenEntry.{OpenEntry}
use Rattle.session_actions.specs.declared.link.Link.{Link}
use Rattle.session_actions.specs.declared.link.ReadFrame.{ReadFrame}
use Rattle.session_actions.specs.declared.link.Traffic.{Traffic}
use Rattle.session_actions.specs.declared.response.Response.{Response}
use Rattle.session_actions.specs.declared.seen.Seen.{Seen}
use Rattle.session_order.proofs.Aside.{aside_final, aside_request}
use Rattle.session_order.proofs.Boards.{goes_on}
use Rattle.session_order.proofs.Changed.{changed_away, changed_map}
use Rattle.session_order.proofs.Limits.{then_same}
use Rattle.session_order.proofs.Lists.{any_in}
use Rattle.session_order.specs.Quiescent.{IsStill, is_to_reset}
use Rattle.session_order.specs.Laws.{StirsOnly}
use Rattle.session_order.specs.Stirs.{SawLess, stirs}
use Rattle.session_order.specs.declared.line.Line.{Line}
use Rattle.session_actions.specs.declared.action.Action.TheVariants as action
use Rattle.session_order.specs.declared.line.Line.TheVariants as line
use Rattle.session_actions.specs.declared.link.Traffic.TheVariants as traffic

-- what an end saw of a link is not more by a frame that came after it
by_seen : (seen : ℕ) (r : ReadFrame) (ts : List Traffic) → seen < r.end → traffic_by seen (ts ++ traffic.Read r ∷ []) ≡ traffic_by seen ts
by_seen seen r [] less = ap (λ (b : Bool). if b then traffic.Read r ∷ [] else []) (lt-leb r.end seen less)
by_seen seen r (x ∷ ts) less = ap (λ (l : List Traffic). if is_read_by seen x then x ∷ l else []) (by_seen seen r ts less)

-- nor is what was written
written_by : (x : Traffic) (ts us : List Traffic) (o : Option FrameSeen) → written_in x ≡ o → filter_map written_in ts ≡ filter_map written_in us
    → filter_map written_in (x ∷ ts) ≡ filter_map written_in (x ∷ us)
written_by x ts us None e rest = (cc)
written_by x ts us (Some f) e rest = (cc)

written_more : (r : ReadFrame) (ts : List Traffic) → filter_map written_in (ts ++ traffic.Read r ∷ []) ≡ filter_map written_in ts
written_more r [] = refl
written_more r (x ∷ ts) = written_by x (ts ++ traffic.Read r ∷ []) ts (written_in x) refl (written_more r ts)

-- the code of a reset, by what it looks at
unfoldable code_parts : RowEnd → Bool → Bool → Response → Option ℕ
code_parts e over written r =
    if is_reset e.cause || over || (written && r.closes) then None
    else if is_framing e.cause then option_and_then (λ x. x.reset) r.end
    else Some cancel

module _ (s : Seen) (n : ℕ) (r : ReadFrame) (frames : List FrameSeen) (less : SawLess n r s) where
  abbrev more : Link → Link
  more l = with_frame_read r frames l

  abbrev t : Seen
  t = record s { links = changed more n s.links }

  traffic_same : (a : Attempt) (e : RowEnd) → a.row.ended ≡ Some e → e.seen < r.end → (ts : List Traffic)
      → traffic_of a (ts ++ traffic.Read r ∷ []) ≡ traffic_of a ts
  traffic_same a e is saw ts =
      ap (λ (o : Option RowEnd). option_map_or (λ (x : RowEnd). traffic_by x.seen (ts ++ traffic.Read r ∷ [])) o (ts ++ traffic.Read r ∷ [])) is
      ∙ by_seen e.seen r ts saw ∙ sym (ap (λ (o : Option RowEnd). option_map_or (λ (x : RowEnd). traffic_by x.seen ts) o ts) is)

  response_here : (a : Attempt) (stream : ℕ) (e : RowEnd) → a.row.ended ≡ Some e → e.seen < r.end → (o : Option Link)
      → option_map_or (response_on a stream s) (option_map more o) no_response ≡ option_map_or (response_on a stream s) o no_response
  response_here a stream e is saw None = refl
  response_here a stream e is saw (Some l) =
      ap (λ (ts : List Traffic). response_in (limit_of_attempt a s) stream ts) (traffic_same a e is saw l.traffic)

  response_by_link : (a : Attempt) (stream : ℕ) (e : RowEnd) → a.row.ended ≡ Some e → (k : ℕ) (b : Bool) → (k == n) ≡ b → (k ≡ n → e.seen < r.end)
      → option_map_or (response_on a stream s) (numbered t.links k) no_response ≡ option_map_or (response_on a stream s) (numbered s.links k) no_response
  response_by_link a stream e is k true f saw =
      ap (λ (j : ℕ). option_map_or (response_on a stream s) (numbered t.links j) no_response) (eqb-true k n f)
      ∙ ap (λ (o : Option Link). option_map_or (response_on a stream s) o no_response) (changed_map more n s.links)
      ∙ response_here a stream e is (saw (eqb-true k n f)) (numbered s.links n)
      ∙ sym (ap (λ (j : ℕ). option_map_or (response_on a stream s) (numbered s.links j) no_response) (eqb-true k n f))
  response_by_link a stream e is k false f saw =
      ap (λ (o : Option Link). option_map_or (response_on a stream s) o no_response) (changed_away more n k s.links (eqb-false k n f))

  response_placed : (i : ℕ) (a : Attempt) → numbered s.attempts i ≡ Some a → (stream : ℕ) (e : RowEnd) → a.row.ended ≡ Some e → (p : Option Placed)
      → a.row.placed ≡ p
      → option_map_or (response_on a stream s) (option_and_then (λ (at : Placed). numbered t.links at.link) p) no_response
      ≡ option_map_or (response_on a stream s) (option_and_then (λ (at : Placed). numbered s.links at.link) p) no_response
  response_placed i a here stream e is None f = refl
  response_placed i a here stream e is (Some at) f =
      response_by_link a stream e is at.link (at.link == n) refl (less i a e at here is f)

  response_one : (i : ℕ) (a : Attempt) → numbered s.attempts i ≡ Some a → (e : RowEnd) → a.row.ended ≡ Some e → (o : Option ℕ)
      → response_by a t o ≡ response_by a s o
  response_one i a here e is None = refl
  response_one i a here e is (Some stream) = response_placed i a here stream e is a.row.placed refl

  code_here : (a : Attempt) (e : RowEnd) (stream : ℕ) → response a t ≡ response a s → (o : Option Link)
      → option_and_then (code_to_reset a e stream t) (option_map more o) ≡ option_and_then (code_to_reset a e stream s) o
  unfolding code_parts
  code_here a e stream same None = refl
  code_here a e stream same (Some l) =
      ap (λ (fs : List FrameSeen).
      code_parts e (is_some l.over) (list_any (λ (f : FrameSeen). (f.kind == data_type) && (f.stream == stream) && has_flag f.flags end_stream_flag) fs) (response a t))
      (written_more r l.traffic)
      ∙ ap (code_parts e (is_some l.over) (has_written_end stream l)) same

  code_same : (a : Attempt) (e : RowEnd) (stream : ℕ) → response a t ≡ response a s → (o : Option Link)
      → option_and_then (code_to_reset a e stream t) o ≡ option_and_then (code_to_reset a e stream s) o
  unfolding code_parts
  code_same a e stream same None = refl
  code_same a e stream same (Some l) = ap (code_parts e (is_some l.over) (has_written_end stream l)) same

  code_link : (a : Attempt) (e : RowEnd) (stream : ℕ) → response a t ≡ response a s → (k : ℕ) (b : Bool) → (k == n) ≡ b
      → option_and_then (code_to_reset a e stream t) (numbered t.links k) ≡ option_and_then (code_to_reset a e stream s) (numbered s.links k)
  code_link a e stream same k true f =
      ap (λ (j : ℕ). option_and_then (code_to_reset a e stream t) (numbered t.links j)) (eqb-true k n f)
      ∙ ap (option_and_then (code_to_reset a e stream t)) (changed_map more n s.links) ∙ code_here a e stream same (numbered s.links n)
      ∙ sym (ap (λ (j : ℕ). option_and_then (code_to_reset a e stream s) (numbered s.links j)) (eqb-true k n f))
  code_link a e stream same k false f =
      ap (option_and_then (code_to_reset a e stream t)) (changed_away more n k s.links (eqb-false k n f)) ∙ code_same a e stream same (numbered s.links k)

  code_placed : (a : Attempt) (e : RowEnd) (stream : ℕ) → response a t ≡ response a s → (p : Option Placed)
      → option_and_then (code_to_reset a e stream t) (option_and_then (λ (at : Placed). numbered t.links at.link) p)
      ≡ option_and_then (code_to_reset a e stream s) (option_and_then (λ (at : Placed). numbered s.links at.link) p)
  code_placed a e stream same None = refl
  code_placed a e stream same (Some at) = code_link a e stream same at.link (at.link == n) refl

  code_end : (a : Attempt) (e : RowEnd) → response a t ≡ response a s → code_at_end a t e ≡ code_at_end a s e
  code_end a e same =
      then_same (code_for_stream a e t) (code_for_stream a e s)
      (λ stream. ap (λ (x : Option ℕ). if (e.entry == entry s) && not a.reset then x else None) (code_placed a e stream same a.row.placed)) a.row.stream

  reset_by : (i : ℕ) (a : Attempt) → numbered s.attempts i ≡ Some a → (o : Option RowEnd) → a.row.ended ≡ o
      → option_and_then (code_at_end a t) o ≡ option_and_then (code_at_end a s) o
  reset_by i a here None is = refl
  reset_by i a here (Some e) is = code_end a e (response_one i a here e is a.row.stream)

  read_reset : list_any (is_to_reset t) s.attempts ≡ list_any (is_to_reset s) s.attempts
  read_reset =
      any_in (is_to_reset t) (is_to_reset s) s.attempts (λ i a here. ap (λ (x : Option ℕ). is_some x) (reset_by i a here a.row.ended refl))

  pub read_still : (link : ℕ) (l : Line) (o : OpenEntry) → stirs (action.FrameRead link r) l ≡ false → IsStill l o s → IsStill l o t
  read_still link line.Cut o e h = h
  read_still link line.Transparent o e h = h
  read_still link line.Inherited o e h = h
  read_still link line.Row o e h = h
  read_still link line.Final o e h = aside_final s t ∙ h
  read_still link line.Cancelled o e h = h
  read_still link line.Request o e h = aside_request o s t ∙ h
  read_still link line.Overflow o e h = h
  read_still link line.Head o e h = absurd (cc)
  read_still link line.Response o e h = absurd (cc)
  read_still link line.Pick o e h = h
  read_still link line.Link o e h = absurd (cc)
  read_still link line.WireEnd o e h = absurd (cc)
  read_still link line.Reset o e h = read_reset ∙ h
  read_still link line.Shut o e h = h
  read_still link line.Retire o e h = h
  read_still link line.Begin o e h = h
  read_still link line.Give o e h = h
  read_still link line.Drop o e h = h
  read_still link line.Add o e h = h

read_by : (link : ℕ) (r : ReadFrame) (o : OpenEntry) (s : Seen) (x : Option Link) → numbered s.links link ≡ x → s.current ≡ Some o
    → ((l : Link) → numbered s.links link ≡ Some l → SawLess l.number r s) → (l : Line) → stirs (action.FrameRead link r) l ≡ false → IsStill l o s
    → (p : OpenEntry) → (option_map_or (frame_read_on r s) x s).current ≡ Some p → IsStill l p (option_map_or (frame_read_on r s) x s)
read_by link r o s None is now_open less l f h p q = goes_on o s now_open l h p q
read_by link r o s (Some x) is now_open less l f h p q =
    goes_on o (frame_read_on r s x) now_open l (read_still s x.number r (owed_for r.frame x s) (less x is) link l o f h) p q

pub read_leaves : (link : ℕ) (r : ReadFrame) → StirsOnly (action.FrameRead link r)
read_leaves link r o s e fits l p is not_stirred h = read_by link r o s (numbered s.links link) refl e fits l not_stirred h p is
