-- What is asked of the session alone follows from its order (`session_order`): the next entry begins quiescent, and nothing follows from a PING.
use Rattle.std.proofs.Common.{◌≡◌, ◌≤◌, ◌+◌, ◌∷◌, ap, arith, refl, subst, sym, ◌∙◌, true, [], Option, Some, ℕ, if◌then◌else◌, is_some, length, length-append}
use Rattle.std.proofs.lemmas.Bool.Decides.{nat_tests}
use Rattle.std.specs.Option.{option_map_or}
use Rattle.std.specs.Prelude.{nat_le}
use Rattle.attempt_ledger.specs.declared.ledger.Ask.{Ask}
use Rattle.attempt_ledger.specs.declared.row.RowEnd.{RowEnd}
use Rattle.channel_actions.proofs.Answering.{replied_is}
use Rattle.channel_actions.proofs.Gone.{all_numbered}
use Rattle.channel_actions.specs.Quiescent.{IsAt, IsQuiescent}
use Rattle.channel_actions.specs.Cases.{PingsStayQuiescent, answered_done}
use Rattle.channel_actions.specs.KeptSessions.Kept.{IsKept}
use Rattle.channel_actions.specs.Stages.{ClosingsAreQuiescent}
use Rattle.grpc_base.specs.declared.event.Event.{Event}
use Rattle.grpc_base.specs.declared.event.Reply.TheVariants as reply
use Rattle.h2_frame.specs.Sent.{ping_frame}
use Rattle.session_actions.specs.Closing.{entry_made, made_entry}
use Rattle.session_actions.specs.Entries.{entry, opened, opened_entry, replied}
use Rattle.session_actions.specs.Links.{owed}
use Rattle.session_actions.specs.Words.{numbered}
use Rattle.session_actions.specs.Writing.{ping_of}
use Rattle.session_actions.specs.declared.attempt.Attempt.{Attempt}
use Rattle.session_actions.specs.declared.entry.OpenEntry.{OpenEntry}
use Rattle.session_actions.specs.declared.entry.Stage.TheVariants as stage
use Rattle.session_actions.specs.declared.seen.Seen.{Seen}
use Rattle.session_order.specs.Quiescent as order
use Rattle.session_order.specs.Laws.{QuiescenceIsExact, LinksStir}
use Rattle.session_order.specs.AtRest.{EntriesBeginQuiescent, EntriesEndAtRest, IsPast}

le_of : (a n m : ℕ) → n ≡ m → nat_le a n ≡ true → a ≤ m
le_of a n m same h = grind (arith, nat_tests)

-- in either words
pub to_order : QuiescenceIsExact → (o : OpenEntry) (s : Seen) → IsQuiescent o s → order.IsQuiescent o s
to_order exact o s c = (exact o s).0 (c.calls, c.links, c.policies)

pub of_order : QuiescenceIsExact → (o : OpenEntry) (s : Seen) → order.IsQuiescent o s → IsQuiescent o s
of_order exact o s c = let back = (exact o s).1 c in record { calls = back.0; links = back.1; policies = back.2 }

module _ (o : OpenEntry) (s : Seen) (at : IsAt stage.Settling o s) (kept : IsKept s) (made : ℕ) (same : entry s ≡ made) where
  end_past : (k : ℕ) (a : Attempt) (e : RowEnd) → numbered s.attempts k ≡ Some a → a.row.ended ≡ Some e → e.entry ≤ made
  end_past k a e there ended =
      le_of e.entry (entry s) made same
      (sym (ap (λ (z : Option RowEnd). option_map_or (λ (q : RowEnd). nat_le q.entry (entry s)) z true) ended)
      ∙ all_numbered (λ (q : Attempt). option_map_or (λ (z : RowEnd). nat_le z.entry (entry s)) q.row.ended true) s.attempts k a there kept.ends)

  ask_past : (k : ℕ) (q : Ask) → numbered s.asks k ≡ Some q → q.entry ≤ made
  ask_past k q there = le_of q.entry (entry s) made same (all_numbered (λ (z : Ask). nat_le z.entry (entry s)) s.asks k q there kept.asks)

-- how many entries there are then
count : (o : OpenEntry) (s : Seen) → IsAt stage.Settling o s → entry s ≡ length (entry_made o s).entries
count o s at =
    let here : entry s ≡ length s.entries + 1 = ap (λ (c : Option OpenEntry). length s.entries + (if is_some c then 1 else 0)) at.current in
    let long : length (entry_made o s).entries ≡ length s.entries + 1 = length-append s.entries (made_entry o s ∷ []) in
    here ∙ sym long

pub closings_are_quiescent : QuiescenceIsExact → EntriesBeginQuiescent → EntriesEndAtRest → ClosingsAreQuiescent
closings_are_quiescent exact begins ends o s at kept posted word e =
    let past : IsPast (entry_made o s) = record { ends = end_past o s at kept (length (entry_made o s).entries) (count o s at); asks = ask_past o s at kept (length (entry_made o s).entries) (count o s at) } in
    of_order exact (opened_entry posted word e (entry_made o s)) (opened posted word e (entry_made o s))
    (begins posted word e (entry_made o s) refl past (ends o s at.current (to_order exact o s at.quiescent)))

pub pings_stay_quiescent : QuiescenceIsExact → LinksStir → PingsStayQuiescent
pings_stay_quiescent exact stir o s link word at is =
    let now_is : replied reply.Done (owed (ping_of o.event) link s) ≡ record (owed (ping_frame word ∷ []) link s) { current = Some (answered_done o) }
    = ap (λ (e : Event). replied reply.Done (owed (ping_of e) link s)) is ∙ replied_is reply.Done o (owed (ping_frame word ∷ []) link s) at.current in
    subst (IsQuiescent (answered_done o)) now_is
    (of_order exact (answered_done o) (replied reply.Done (owed (ping_of o.event) link s))
    (λ l. stir.pinged link o s at.current (word, is) l (answered_done o) (ap (λ (z : Seen). z.current) now_is) refl (to_order exact o s at.quiescent l)))
