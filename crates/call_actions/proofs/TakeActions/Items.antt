-- What an application gets next of a call: the same item in session and channel.
use Rattle.std.proofs.Common.{◌≡◌, ◌+◌, ◌∷◌, ◌++◌, ap, refl, sym, ◌∙◌, List, [], Option, None, Some, ℕ, zero, option_to_list, slice_get}
use Rattle.std.specs.Option.{option_and_then, option_map, option_map_or}
use Rattle.attempt_ledger.specs.declared.ledger.CallEnd.{CallEnd}
use Rattle.attempt_ledger.specs.declared.row.Row.{Row}
use Rattle.attempt_ledger.specs.declared.row.RowEnd.{RowEnd}
use Rattle.call_core.specs.Laws as channel
use Rattle.call_core.specs.Parts.{end_at, end_of_row, end_reply, row_end_reply}
use Rattle.call_core.specs.Steps.{Stepped}
use Rattle.grpc_base.specs.declared.event.EndCause.{EndCause}
use Rattle.grpc_base.specs.declared.event.EndCause.TheVariants as ending
use Rattle.grpc_base.specs.declared.event.Reply.{Reply}
use Rattle.grpc_base.specs.declared.event.Reply.TheVariants as reply
use Rattle.grpc_base.specs.declared.fields.Field.{Field}
use Rattle.session_actions.specs.Attempts.{commitment, is_commitment}
use Rattle.session_actions.specs.Deliveries.{end_by_channel, end_by_row, end_item, next_item}
use Rattle.session_actions.specs.Words.{numbered}
use Rattle.session_actions.specs.declared.attempt.Attempt.{Attempt}
use Rattle.session_actions.specs.declared.call.Call.{Call}
use Rattle.session_actions.specs.declared.seen.Seen.{Seen}
use Rattle.call_actions.proofs.TakeActions.Lists.{found_at, numbered_end, numbered_prefix, numbered_map, row_numbered}
use Rattle.call_actions.specs.TakeActions.Serves.{IsLeft, Serves, came}

-- the end of the committed attempt
pub reported_end : (o : Option RowEnd) → option_map_or end_by_row o (end_by_channel ending.Row) ≡ row_end_reply o
reported_end None = refl
reported_end (Some e) = refl

module _ (s : Seen) (c : Call) (x : Stepped) (h : Serves s c x) where
  pub row_end : (o : Option Attempt) → commitment c s ≡ o → option_and_then (λ (k : Attempt). k.row.ended) o ≡ end_at x.ledger.rows (option_map (λ (k : Attempt). k.place) o)
  row_end None e = refl
  row_end (Some k) e =
      let at : numbered s.attempts k.place ≡ Some k = found_at s.attempts h.places (is_commitment c) k e in
      let row : numbered x.ledger.rows k.place ≡ Some k.row
      = ap (λ (rows : List Row). numbered rows k.place) (sym h.sees.rows) ∙ numbered_map (λ (a : Attempt). a.row) s.attempts k.place k at in
      sym (ap end_of_row (row_numbered x.ledger.rows k.place k.row row))

  pub by_row : option_map_or end_by_row (option_and_then (λ (k : Attempt). k.row.ended) (commitment c s)) (end_by_channel ending.Row)
      ≡ row_end_reply (end_at x.ledger.rows x.call.attempts.committed)
  by_row =
      reported_end (option_and_then (λ (k : Attempt). k.row.ended) (commitment c s)) ∙ ap row_end_reply (row_end (commitment c s) refl)
      ∙ ap (λ (o : Option ℕ). row_end_reply (end_at x.ledger.rows o)) h.sees.attempts.committed

  pub end_is : (why : EndCause) → end_item c s why ≡ end_reply x.ledger.rows x.call.attempts.committed why
  end_is ending.Row = by_row
  end_is ending.Deadline = refl
  end_is ending.Cancelled = refl
  end_is ending.Request = refl
  end_is ending.Response = refl
  end_is ending.NoConfig = refl
  end_is ending.Shut = refl

-- what stands in the inbox
pub waits_head : (head : Option (List Field)) (messages : List (List ℕ)) (meta : List Field) → head ≡ Some meta
    → channel.head_items head ++ channel.message_items messages ≡ reply.Head meta ∷ channel.message_items messages
waits_head head messages meta e = ap (λ (o : Option (List Field)). channel.head_items o ++ channel.message_items messages) e

pub waits_messages : (head : Option (List Field)) (messages : List (List ℕ)) → head ≡ None
    → channel.head_items head ++ channel.message_items messages ≡ channel.message_items messages
waits_messages head messages e = ap (λ (o : Option (List Field)). channel.head_items o ++ channel.message_items messages) e

-- the end of a call, as an item
abbrev pub ends_of : Call → Seen → List Reply
ends_of c s = option_to_list (option_map (λ (e : CallEnd). end_item c s e.cause) c.end)

pub only_one : (o : Option Reply) → slice_get (option_to_list o) zero ≡ o
only_one None = refl
only_one (Some r) = refl

-- the next item: what is left first, and then the end
module _ (c : Call) (s : Seen) (left : List Reply) (l : IsLeft (came c s) c.taken left) where
  pub next_is : (item : Reply) (others : List Reply) → left ≡ item ∷ others → next_item c s ≡ Some item
  next_is item others e =
      ap (λ (all : List Reply). numbered (all ++ ends_of c s) (c.taken + 1)) (l.joined ∙ ap (λ (z : List Reply). l.prefix ++ z) e)
      ∙ numbered_prefix l.prefix item others (ends_of c s) c.taken l.count

  pub next_end : left ≡ [] → next_item c s ≡ option_map (λ (e : CallEnd). end_item c s e.cause) c.end
  next_end e =
      ap (λ (all : List Reply). numbered (all ++ ends_of c s) (c.taken + 1)) (l.joined ∙ ap (λ (z : List Reply). l.prefix ++ z) e)
      ∙ numbered_end l.prefix (ends_of c s) c.taken l.count ∙ only_one (option_map (λ (e : CallEnd). end_item c s e.cause) c.end)
