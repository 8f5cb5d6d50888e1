-- Between two entries a session is at rest.
use Rattle.std.proofs.Common.{◌≡◌, ◌+◌, ◌<◌, ◌≤◌, ◌∷◌, ◌++◌, ◌&&◌, ◌==◌, ap, arith, refl, sym, ◌∙◌, Bool, true, false, List, [], Option, None, Some, ℕ, zero, suc, not, if◌then◌else◌, is_none, is_some, length, map, slice_get}
use Rattle.std.proofs.lemmas.Bool.{eqb-true}
use Rattle.std.proofs.lemmas.Option.{slice_get-map}
use Rattle.std.specs.List.{list_any}
use Rattle.std.specs.Option.{option_and_then, option_map}
use Rattle.attempt_ledger.specs.declared.ledger.Ask.{Ask}
use Rattle.attempt_ledger.specs.declared.row.RowEnd.{RowEnd}
use Rattle.grpc_base.specs.declared.event.Entry.{Entry}
use Rattle.grpc_base.specs.declared.event.Event.{Event}
use Rattle.session_actions.specs.Actions.{after_in}
use Rattle.session_actions.specs.AttemptEnds.{code_at_end, code_for_stream, code_to_reset}
use Rattle.session_actions.specs.Closing.{made_entry, noted_gone}
use Rattle.session_actions.specs.Entries.{entry, opened, opened_entry}
use Rattle.session_actions.specs.Links.{link_of}
use Rattle.session_actions.specs.Refusals.{is_gone}
use Rattle.session_actions.specs.Sessions.{new_session}
use Rattle.session_actions.specs.Words.{holds, last_of, numbered}
use Rattle.session_actions.specs.declared.attempt.Attempt.{Attempt}
use Rattle.session_actions.specs.declared.entry.OpenEntry.{OpenEntry}
use Rattle.session_actions.specs.declared.link.Link.{Link}
use Rattle.session_actions.specs.declared.seen.Seen.{Seen}
use Rattle.session_actions.specs.declared.seen.Setup.{Setup}
use Rattle.session_order.proofs.Aside.{aside_final, aside_request}
use Rattle.session_order.proofs.Changed.{none_from}
use Rattle.session_order.proofs.Entered.{entered, quieted}
use Rattle.session_order.proofs.Posts.{idle_quiet}
use Rattle.session_order.proofs.Wires.{passed_still}
use Rattle.session_order.specs.Quiescent.{IsQuiescent, IsStill, can_follow, is_to_follow_pick, is_to_reset, is_unplaced}
use Rattle.session_order.specs.AtRest.{IsAtRest, IsPast, idle_entry}
use Rattle.session_order.specs.declared.line.Line.{Line}
use Rattle.session_actions.specs.declared.action.Action.TheVariants as action
use Rattle.session_order.specs.declared.line.Line.TheVariants as line

-- a new one
pub new_ones_rest : (setup : Setup) → IsAtRest (new_session setup)
new_ones_rest setup line.Cut = refl
new_ones_rest setup line.Transparent = refl
new_ones_rest setup line.Inherited = refl
new_ones_rest setup line.Row = refl
new_ones_rest setup line.Final = refl
new_ones_rest setup line.Cancelled = refl
new_ones_rest setup line.Request = refl
new_ones_rest setup line.Overflow = refl
new_ones_rest setup line.Head = refl
new_ones_rest setup line.Response = refl
new_ones_rest setup line.Pick = refl
new_ones_rest setup line.Link = refl
new_ones_rest setup line.WireEnd = refl
new_ones_rest setup line.Reset = refl
new_ones_rest setup line.Shut = refl
new_ones_rest setup line.Retire = refl
new_ones_rest setup line.Begin = refl
new_ones_rest setup line.Give = refl
new_ones_rest setup line.Drop = refl
new_ones_rest setup line.Add = refl

-- the number of an entry that begins is of no end or pick request
not_equal : (n m : ℕ) (b : Bool) → (n == m) ≡ b → n < m → (n == m) ≡ false
not_equal n m true e less = (let same : n ≡ m = eqb-true n m e in absurd (omega (arith, same, less)))
not_equal n m false e less = e

later : (n m : ℕ) → n ≤ m → (n == m + 1) ≡ false
later n m less = not_equal n (m + 1) (n == m + 1) refl (omega arith)

no_middle : (x y : Bool) → (x && false && y) ≡ false
no_middle true y = refl
no_middle false y = refl

module _ (s : Seen) (past : IsPast s) (o : OpenEntry) where
  abbrev t : Seen
  t = record s { current = Some o }

  reset_by : (k : ℕ) (a : Attempt) → numbered s.attempts k ≡ Some a → (e : Option RowEnd) → a.row.ended ≡ e
      → is_some (option_and_then (code_at_end a t) e) ≡ false
  reset_by k a here None is = refl
  reset_by k a here (Some e) is = at a.row.stream where
    old : (e.entry == length s.entries + 1) ≡ false
    old = later e.entry (length s.entries) (past.ends k a e here is)

    at : (stream : Option ℕ) → is_some (option_and_then (code_for_stream a e t) stream) ≡ false
    at None = refl
    at (Some stream) =
        ap (λ (b : Bool). is_some (if b && not a.reset then option_and_then (code_to_reset a e stream t) (link_of a t) else None)) old

  opened_reset : list_any (is_to_reset t) s.attempts ≡ false
  opened_reset = none_from (is_to_reset t) s.attempts (λ k a here. reset_by k a here a.row.ended refl)

  old_ask : (k : ℕ) (ask : Ask) → numbered s.asks k ≡ Some ask → is_to_follow_pick t ask ≡ false
  old_ask k ask here =
      ap (λ (b : Bool). is_unplaced s ask.row && b && can_follow s ask.answer) (later ask.entry (length s.entries) (past.asks k ask here))
      ∙ no_middle (is_unplaced s ask.row) (can_follow s ask.answer)

  ask_by : (n : ℕ) (ask : Option Ask) → numbered s.asks n ≡ ask → holds (is_to_follow_pick t) ask ≡ false
  ask_by n None is = refl
  ask_by n (Some ask) is = old_ask n ask is

  pub opened_still : (l : Line) → IsStill l idle_entry s → IsStill l idle_entry t
  opened_still line.Cut h = h
  opened_still line.Transparent h = h
  opened_still line.Inherited h = h
  opened_still line.Row h = h
  opened_still line.Final h = aside_final s t ∙ h
  opened_still line.Cancelled h = h
  opened_still line.Request h = aside_request idle_entry s t ∙ h
  opened_still line.Overflow h = h
  opened_still line.Head h = h
  opened_still line.Response h = h
  opened_still line.Pick h = ask_by (length s.asks) (last_of s.asks) refl
  opened_still line.Link h = h
  opened_still line.WireEnd h = h
  opened_still line.Reset h = opened_reset
  opened_still line.Shut h = h
  opened_still line.Retire h = h
  opened_still line.Begin h = h
  opened_still line.Give h = h
  opened_still line.Drop h = h
  opened_still line.Add h = h

pub entries_begin_quiescent : (posted word : ℕ) (e : Event) (s : Seen) → s.current ≡ None → IsPast s → IsAtRest s
    → IsQuiescent (opened_entry posted word e s) (opened posted word e s)
entries_begin_quiescent posted word e s none past rest l =
    let o : OpenEntry = opened_entry posted word e s in
    quieted idle_entry o (opened posted word e s) l (idle_quiet l o (opened posted word e s) refl) (opened_still s past o l (rest l))

-- an entry that closes
gone_if : (b : Bool) (l : Link) (n : ℕ) → (if b then record l { gone = Some n } else l) ≡ record l { gone = (if b then Some n else l.gone) }
gone_if true l n = refl
gone_if false l n = refl

abbrev gone_now : Seen → ℕ → Link → Option ℕ
gone_now s k l = if is_none l.gone && is_gone l s then Some (entry s) else l.gone

gone_of : (s : Seen) (o : Option Link)
    → option_map (noted_gone s) o ≡ option_map (λ (l : Link). record l { owed = l.owed; received = l.received; gone = gone_now s 0 l }) o
gone_of s None = refl
gone_of s (Some l) = ap (λ (x : Link). Some x) (gone_if (is_none l.gone && is_gone l s) l (entry s))

gone_at : (s : Seen) (k : ℕ)
    → numbered (map (noted_gone s) s.links) k ≡ option_map (λ (l : Link). record l { owed = l.owed; received = l.received; gone = gone_now s k l }) (numbered s.links k)
gone_at s zero = refl
gone_at s (suc i) = slice_get-map (noted_gone s) s.links i ∙ gone_of s (slice_get s.links i)

longer : (n : ℕ) → n + 1 + 0 ≡ n + 1
longer n = omega arith

one_more : (xs : List Entry) (x : Entry) → length (xs ++ x ∷ []) ≡ length xs + 1
one_more [] x = refl
one_more (y ∷ xs) x = (let more : length (xs ++ x ∷ []) ≡ length xs + 1 = one_more xs x in omega (arith, more))

closed_number : (s : Seen) (o : OpenEntry) (x : Entry) → s.current ≡ Some o → entry (record s { entries = s.entries ++ x ∷ []; current = None }) ≡ entry s
closed_number s o x e =
    ap (λ (n : ℕ). n + 0) (one_more s.entries x) ∙ longer (length s.entries)
    ∙ sym (ap (λ (c : Option OpenEntry). length s.entries + (if is_some c then 1 else 0)) e)

pub entries_end_at_rest : (o : OpenEntry) (s : Seen) → s.current ≡ Some o → IsQuiescent o s → IsAtRest (after_in o action.EntryCloses s)
entries_end_at_rest o s e quiescent l =
    let x : Entry = made_entry o s in
    let u : Seen = record s { links = map (noted_gone s) s.links } in
    let one : IsStill l o u
    = passed_still s (map (noted_gone s) s.links) (λ (k : ℕ) (l : Link). l.owed) (λ (k : ℕ) (l : Link). l.received) (gone_now s) (gone_at s) l o (quiescent l) in
    let two : IsStill l idle_entry u = quieted o idle_entry u l (idle_quiet l idle_entry u refl) one in
    entered u (s.entries ++ x ∷ []) None (closed_number u o x e) l idle_entry two
