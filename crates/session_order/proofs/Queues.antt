-- What is noted in the open entry and what is asked of a policy leaves other lines still; so does what is marked of a call.
use Rattle.std.proofs.Common.{◌≡◌, ◌+◌, ◌∷◌, ◌++◌, ◌==◌, not, ap, refl, subst, sym, ◌∙◌, Bool, false, List, [], Option, None, Some, ℕ, if◌then◌else◌}
use Rattle.std.specs.Option.{option_map, option_map_or}
use Rattle.attempt_ledger.specs.declared.ledger.Ask.{Ask}
use Rattle.grpc_base.specs.declared.kind.Pick.{Pick}
use Rattle.session_actions.specs.Entries.{entry, now}
use Rattle.session_actions.specs.Policies.{turn_at}
use Rattle.session_actions.specs.Subchannels.{dial_taken_of, with_dial, with_sub}
use Rattle.session_actions.specs.Words.{changed, numbered}
use Rattle.session_actions.specs.declared.call.Call.{Call}
use Rattle.session_actions.specs.declared.call.Mark.{Mark}
use Rattle.session_actions.specs.declared.entry.OpenEntry.{OpenEntry}
use Rattle.session_actions.specs.declared.entry.Turn.{Turn}
use Rattle.session_actions.specs.declared.seen.Seen.{Seen}
use Rattle.session_actions.specs.declared.subchannel.Subchannel.{Subchannel}
use Rattle.session_order.proofs.Aside.{aside_final, aside_request}
use Rattle.session_order.proofs.Boards.{dials_live, with_sub_current, with_sub_still}
use Rattle.session_order.proofs.Entered.{moved_to}
use Rattle.session_order.proofs.Posts.{plain_answered, plain_as, plain_dial}
use Rattle.session_order.proofs.Report.{reported_cancelled, reported_cut, reported_end, reported_head, reported_inherited, reported_overflow, reported_request, reported_reset, reported_response, reported_row, reported_shut, reported_transparent}
use Rattle.session_order.specs.Quiescent.{IsStill}
use Rattle.session_order.specs.Laws.{StirsOnly}
use Rattle.session_order.specs.Stirs.{stirs}
use Rattle.session_order.specs.declared.line.Line.{Line}
use Rattle.session_actions.specs.declared.action.Action.TheVariants as action
use Rattle.grpc_base.specs.declared.event.Event.TheVariants as event
use Rattle.session_order.specs.declared.line.Line.TheVariants as line
use Rattle.session_actions.specs.declared.call.MarkKind.TheVariants as mark
use Rattle.grpc_base.specs.declared.event.Reply.TheVariants as reply

-- words that were drawn, and the turn of the queue
abbrev pub turned_to : ℕ → Option Turn → OpenEntry → OpenEntry
turned_to drawn turn o = record o { drawn = drawn; turn = turn }

pub turned : (drawn : ℕ) (turn : Option Turn) (o : OpenEntry) (s : Seen) (l : Line) → IsStill l o s → IsStill l (turned_to drawn turn o) s
turned drawn turn o s line.Cut h = h
turned drawn turn o s line.Transparent h = h
turned drawn turn o s line.Inherited h = h
turned drawn turn o s line.Row h = h
turned drawn turn o s line.Final h = h
turned drawn turn o s line.Cancelled h = h
turned drawn turn o s line.Request h = h
turned drawn turn o s line.Overflow h = h
turned drawn turn o s line.Head h = h
turned drawn turn o s line.Response h = h
turned drawn turn o s line.Pick h = h
turned drawn turn o s line.Link h = h
turned drawn turn o s line.WireEnd h = h
turned drawn turn o s line.Reset h = h
turned drawn turn o s line.Shut h = h
turned drawn turn o s line.Retire h = h
turned drawn turn o s line.Begin h = h
turned drawn turn o s line.Give h = h
turned drawn turn o s line.Drop h = h
turned drawn turn o s line.Add h = h

-- the same session, with another turn
pub turn_leaves : (turn : Option Turn) (o : OpenEntry) (s : Seen) → s.current ≡ Some o → (l : Line) → IsStill l o s → (p : OpenEntry)
    → option_map (λ (x : OpenEntry). record x { turn = turn }) s.current ≡ Some p
    → IsStill l p (record s { current = option_map (λ (x : OpenEntry). record x { turn = turn }) s.current })
turn_leaves turn o s e l h p is = moved_to (λ (x : OpenEntry). record x { turn = turn }) o s e l (turned o.drawn turn o s l h) p is

-- a pick request
asked_still : (asks : List Ask) (s : Seen) (row generation : ℕ) (answer : Pick) (l : Line) (o : OpenEntry)
    → stirs (action.PickRequested row generation answer) l ≡ false → IsStill l o s → IsStill l o (record s { asks = asks })
asked_still asks s row generation answer line.Cut o e h = h
asked_still asks s row generation answer line.Transparent o e h = h
asked_still asks s row generation answer line.Inherited o e h = h
asked_still asks s row generation answer line.Row o e h = h
asked_still asks s row generation answer line.Final o e h = aside_final s (record s { asks = asks }) ∙ h
asked_still asks s row generation answer line.Cancelled o e h = h
asked_still asks s row generation answer line.Request o e h = aside_request o s (record s { asks = asks }) ∙ h
asked_still asks s row generation answer line.Overflow o e h = h
asked_still asks s row generation answer line.Head o e h = h
asked_still asks s row generation answer line.Response o e h = h
asked_still asks s row generation answer line.Pick o e h = absurd (cc)
asked_still asks s row generation answer line.Link o e h = h
asked_still asks s row generation answer line.WireEnd o e h = h
asked_still asks s row generation answer line.Reset o e h = h
asked_still asks s row generation answer line.Shut o e h = h
asked_still asks s row generation answer line.Retire o e h = h
asked_still asks s row generation answer line.Begin o e h = h
asked_still asks s row generation answer line.Give o e h = h
asked_still asks s row generation answer line.Drop o e h = h
asked_still asks s row generation answer line.Add o e h = h

pub asked_leaves : (row generation : ℕ) (answer : Pick) → StirsOnly (action.PickRequested row generation answer)
asked_leaves row generation answer o s e fits l p is not_stirred h =
    let asks : List Ask = s.asks ++ record { entry = entry s; generation = generation; row = row; answer = answer } ∷ [] in
    turn_leaves (turn_at row s) o (record s { asks = asks }) e l (asked_still asks s row generation answer l o not_stirred h) p is

-- a call of which something is marked
module _ (s : Seen) (n : ℕ) (marks : Call → List Mark) where
  pub marked_still : (l : Line) (o : OpenEntry) → stirs (action.HedgeWithheld n) l ≡ false → IsStill l o s
      → IsStill l o (record s { calls = changed (λ (c : Call). record c { marks = marks c }) n s.calls })
  marked_still line.Cut o e h = reported_cut s n (λ (c : Call). c.messages) (λ (c : Call). c.finished) (λ (c : Call). c.taken) (λ (c : Call). c.end_taken) marks ∙ h
  marked_still line.Transparent o e h = reported_transparent s n (λ (c : Call). c.messages) (λ (c : Call). c.finished) (λ (c : Call). c.taken) (λ (c : Call). c.end_taken) marks ∙ h
  marked_still line.Inherited o e h = reported_inherited s n (λ (c : Call). c.messages) (λ (c : Call). c.finished) (λ (c : Call). c.taken) (λ (c : Call). c.end_taken) marks ∙ h
  marked_still line.Row o e h = reported_row s n (λ (c : Call). c.messages) (λ (c : Call). c.finished) (λ (c : Call). c.taken) (λ (c : Call). c.end_taken) marks ∙ h
  marked_still line.Final o e h = absurd (cc)
  marked_still line.Cancelled o e h = reported_cancelled s n (λ (c : Call). c.messages) (λ (c : Call). c.finished) (λ (c : Call). c.taken) (λ (c : Call). c.end_taken) marks o ∙ h
  marked_still line.Request o e h = reported_request s n (λ (c : Call). c.messages) (λ (c : Call). c.finished) (λ (c : Call). c.taken) (λ (c : Call). c.end_taken) marks o (λ c. refl) ∙ h
  marked_still line.Overflow o e h = reported_overflow s n (λ (c : Call). c.messages) (λ (c : Call). c.finished) (λ (c : Call). c.taken) (λ (c : Call). c.end_taken) marks (λ c. refl) ∙ h
  marked_still line.Head o e h = reported_head s n (λ (c : Call). c.messages) (λ (c : Call). c.finished) (λ (c : Call). c.taken) (λ (c : Call). c.end_taken) marks ∙ h
  marked_still line.Response o e h = reported_response s n (λ (c : Call). c.messages) (λ (c : Call). c.finished) (λ (c : Call). c.taken) (λ (c : Call). c.end_taken) marks ∙ h
  marked_still line.Pick o e h = h
  marked_still line.Link o e h = h
  marked_still line.WireEnd o e h = reported_end s n (λ (c : Call). c.messages) (λ (c : Call). c.finished) (λ (c : Call). c.taken) (λ (c : Call). c.end_taken) marks ∙ h
  marked_still line.Reset o e h = reported_reset s n (λ (c : Call). c.messages) (λ (c : Call). c.finished) (λ (c : Call). c.taken) (λ (c : Call). c.end_taken) marks ∙ h
  marked_still line.Shut o e h = reported_shut s n (λ (c : Call). c.messages) (λ (c : Call). c.finished) (λ (c : Call). c.taken) (λ (c : Call). c.end_taken) marks ∙ h
  marked_still line.Retire o e h = h
  marked_still line.Begin o e h = h
  marked_still line.Give o e h = h
  marked_still line.Drop o e h = h
  marked_still line.Add o e h = h

pub withheld_leaves : (call : ℕ) → StirsOnly (action.HedgeWithheld call)
withheld_leaves call o s e fits l p is not_stirred h =
    let marks : Call → List Mark = λ (c : Call). c.marks ++ record { what = mark.Withheld; moment = now s } ∷ [] in
    turn_leaves None o (record s { calls = changed (λ (c : Call). record c { marks = marks c }) call s.calls }) e l
    (marked_still s call marks l o not_stirred h) p is

-- a dial that is taken
abbrev pub drawn_as : Bool → OpenEntry → OpenEntry
drawn_as draws o = record o { drawn = o.drawn + (if draws then 1 else 0) }

dialled_of : (again until : ℕ) (o : OpenEntry) (s : Seen) (b : Subchannel) → s.current ≡ Some o → o.event ≡ event.TakeDial → (l : Line) → IsStill l o s
    → (p : OpenEntry) → (dial_taken_of again until s b).current ≡ Some p → IsStill l p (dial_taken_of again until s b)
dialled_of again until o s b e posted l h p is =
    let draws : Bool = not (b.dials == 0) in
    let u : Seen = with_sub (with_dial again until) b.number s in
    let now_open : u.current ≡ Some o = with_sub_current s b.number (with_dial again until) ∙ e in
    let then_open : option_map (drawn_as draws) u.current ≡ Some (drawn_as draws o) = ap (option_map (drawn_as draws)) now_open in
    let one : IsStill l o u = with_sub_still s b.number (with_dial again until) (dials_live s b.number again until) l o h in
    let two : IsStill l (drawn_as draws o) (record u { current = option_map (drawn_as draws) u.current })
    = moved_to (drawn_as draws) o u now_open l (turned (drawn_as draws o).drawn o.turn o u l one) (drawn_as draws o) then_open in
    plain_answered (reply.Dial b.number b.address until) (drawn_as draws o) (record u { current = option_map (drawn_as draws) u.current }) then_open
    (plain_as o.event event.TakeDial posted plain_dial) l two p is

pub dialled_leaves : (sub again until : ℕ) → StirsOnly (action.DialTaken sub again until)
dialled_leaves sub again until o s e fits l p is not_stirred h =
    let there : option_map_or (dial_taken_of again until s) (numbered s.subs sub) s ≡ dial_taken_of again until s fits.1
    = ap (λ (x : Option Subchannel). option_map_or (dial_taken_of again until s) x s) fits.2 in
    subst (λ (x : Seen). x.current ≡ Some p → IsStill l p x) (sym there) (λ f. dialled_of again until o s fits.1 e fits.0 l h p f) is
