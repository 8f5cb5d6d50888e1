-- A later history in which attempts have streams is the earlier one with the streams by place.
use Rattle.std.proofs.Common.{◌≡◌, ◌∷◌, ap, subst, sym, ◌∙◌, Bool, true, false, List, [], Option, Some, ℕ, slice_get}
use Rattle.std.proofs.lemmas.Option.{slice_get-map}
use Rattle.std.specs.Option.{option_map}
use Rattle.attempt_buffer.specs.Buffers.{Buffered}
use Rattle.call_actions.specs.Order.{AttemptsAreNumbered}
use Rattle.channel_actions.proofs.Drains.Calls.Feeds.{fed_all_so}
use Rattle.channel_actions.proofs.Drains.Calls.Holds.{holds_now}
use Rattle.channel_actions.specs.DrainCalls.Laws.{FeedsHold, IsLeftAt, IsOnlyStreamed, IsSoundBuffer, fed_some}
use Rattle.channel_actions.specs.DrainWrites.Laws as written
use Rattle.session_actions.specs.Attempts.{is_of, is_outstanding}
use Rattle.session_actions.specs.Writing.{drained}
use Rattle.session_actions.specs.declared.attempt.Attempt.{Attempt}
use Rattle.session_actions.specs.declared.call.Call.{Call}
use Rattle.session_actions.specs.declared.entry.OpenEntry.{OpenEntry}
use Rattle.session_actions.specs.declared.link.Link.{Link}
use Rattle.session_actions.specs.declared.seen.Seen.{Seen}
use Rattle.channel_actions.proofs.Streams.Opened.Rows.{restream, restreamed}
use Rattle.channel_actions.proofs.Streams.Opened.Streams.{RowsAgree, restream_is, streams_of}
use Rattle.call_actions.specs.TakeActions.Serves.{Holds}

rows_are : (as_ bs : List Attempt) → written.RowsAgree as_ bs → RowsAgree as_ bs
rows_are [] [] h = tt
rows_are (a ∷ as_) (b ∷ bs) h = (h.0, rows_are as_ bs h.1)
rows_are [] (b ∷ bs) h = absurd h
rows_are (a ∷ as_) [] h = absurd h

pub streamed_is : (s t : Seen) → AttemptsAreNumbered 1 s.attempts → IsOnlyStreamed s t → t ≡ restreamed (streams_of t.attempts) t.links t.current s
streamed_is s t places only =
    only.is
    ∙ ap (λ (rows : List Attempt). record s { attempts = rows; links = t.links; current = t.current })
    (sym (restream_is s.attempts t.attempts (rows_are s.attempts t.attempts only.rows) places))

module _ (s : Seen) (c : Call) (b : Buffered) (own : ℕ → Bool) (feeds : List (ℕ × ℕ)) (places : AttemptsAreNumbered 1 s.attempts) (old : Holds s c b) (sound : IsSoundBuffer s c b)
    (g : ℕ → Option ℕ) (ls : List Link) (current : Option OpenEntry) where
  abbrev u : Seen
  u = restreamed g ls current s

  got : (i : ℕ) (a : Attempt) → slice_get s.attempts i ≡ Some a → slice_get u.attempts i ≡ Some (restream g a)
  got i a here = slice_get-map (restream g) s.attempts i ∙ ap (option_map (restream g)) here

  holds_so : ((i : ℕ) (a : Attempt) → slice_get u.attempts i ≡ Some a → is_of c a ≡ true → is_outstanding a ≡ true → IsLeftAt u c (fed_some own feeds b) a)
      → ((i : ℕ) (a z : Attempt) → slice_get s.attempts i ≡ Some a → slice_get u.attempts i ≡ Some z → is_outstanding a ≡ false → drained z u ≡ drained a s)
      → Holds u c (fed_some own feeds b)
  holds_so left ended =
      holds_now s g ls current c b (fed_some own feeds b) old sound (fed_all_so own feeds b sound.alone sound.within)
      (λ i a here mine out. left i (restream g a) (got i a here) mine out)
      (λ i a here off. ended i a (restream g a) here (got i a here) off)

pub feeds_hold : FeedsHold
feeds_hold s t c b own feeds places only old sound left ended =
    let g : ℕ → Option ℕ = streams_of t.attempts in
    let e : t ≡ restreamed g t.links t.current s = streamed_is s t places only in
    let left_u : (i : ℕ) (a : Attempt) → slice_get (restreamed g t.links t.current s).attempts i ≡ Some a → is_of c a ≡ true → is_outstanding a ≡ true
    → IsLeftAt (restreamed g t.links t.current s) c (fed_some own feeds b) a
    = subst (λ (z : Seen). (i : ℕ) (a : Attempt) → slice_get z.attempts i ≡ Some a → is_of c a ≡ true → is_outstanding a ≡ true → IsLeftAt z c (fed_some own feeds b) a) e left in
    let ended_u : (i : ℕ) (a z : Attempt) → slice_get s.attempts i ≡ Some a → slice_get (restreamed g t.links t.current s).attempts i ≡ Some z → is_outstanding a ≡ false
    → drained z (restreamed g t.links t.current s) ≡ drained a s
    = subst (λ (y : Seen). (i : ℕ) (a z : Attempt) → slice_get s.attempts i ≡ Some a → slice_get y.attempts i ≡ Some z → is_outstanding a ≡ false → drained z y ≡ drained a s) e ended in
    subst (λ (z : Seen). Holds z c (fed_some own feeds b)) (sym e) (holds_so s c b own feeds places old sound g t.links t.current left_u ended_u)
