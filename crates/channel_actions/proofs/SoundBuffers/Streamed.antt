-- A later history in which attempts have streams is the earlier one with the streams by place: so the buffer of a call holds what it has.
use Rattle.std.proofs.Common.{◌≡◌, ap, refl, subst, sym, ◌∙◌, Bool, true, false, List, [], Option, None, Some, ℕ, slice_get}
use Rattle.std.proofs.lemmas.Option.{slice_get-map}
use Rattle.std.specs.Option.{option_map}
use Rattle.attempt_buffer.proofs.LeftLaws.{IsAlone}
use Rattle.attempt_buffer.specs.Buffers.{Buffered, Committed}
use Rattle.call_actions.specs.Order.{AttemptsAreNumbered}
use Rattle.channel_actions.proofs.Drains.Calls.Feeds.{fed_all_so}
use Rattle.channel_actions.proofs.Drains.Calls.Streamed.{streamed_is}
use Rattle.channel_actions.proofs.SoundBuffers.Holds.{holds_now}
use Rattle.channel_actions.specs.DrainCalls.Laws.{IsLeftAt, fed_some}
use Rattle.channel_actions.specs.SoundBuffers.Held.{IsSoundIn}
use Rattle.channel_actions.specs.SoundBuffers.Laws.{SoundFeedsHold}
use Rattle.session_actions.specs.Attempts.{is_of, is_outstanding}
use Rattle.session_actions.specs.Writing.{drained}
use Rattle.session_actions.specs.declared.attempt.Attempt.{Attempt}
use Rattle.session_actions.specs.declared.call.Call.{Call}
use Rattle.session_actions.specs.declared.entry.OpenEntry.{OpenEntry}
use Rattle.session_actions.specs.declared.link.Link.{Link}
use Rattle.session_actions.specs.declared.seen.Seen.{Seen}
use Rattle.channel_actions.proofs.Streams.Opened.Rows.{restream, restreamed}
use Rattle.channel_actions.proofs.Streams.Opened.Streams.{streams_of}
use Rattle.call_actions.specs.TakeActions.Serves.{Holds}

alone_for : (b : Buffered) → ((m : Committed) → b.committed ≡ Some m → b.cursors ≡ []) → (o : Option Committed) → b.committed ≡ o → IsAlone b.cursors o
alone_for b alone None e = tt
alone_for b alone (Some m) e = λ goes. alone m e

module _ (s : Seen) (c : Call) (b : Buffered) (own : ℕ → Bool) (feeds : List (ℕ × ℕ)) (places : AttemptsAreNumbered 1 s.attempts) (old : Holds s c b) (sound : IsSoundIn s c b)
    (g : ℕ → Option ℕ) (ls : List Link) (current : Option OpenEntry) where
  abbrev u : Seen
  u = restreamed g ls current s

  got : (i : ℕ) (a : Attempt) → slice_get s.attempts i ≡ Some a → slice_get u.attempts i ≡ Some (restream g a)
  got i a here = slice_get-map (restream g) s.attempts i ∙ ap (option_map (restream g)) here

  holds_so : ((i : ℕ) (a : Attempt) → slice_get u.attempts i ≡ Some a → is_of c a ≡ true → is_outstanding a ≡ true → IsLeftAt u c (fed_some own feeds b) a)
      → ((i : ℕ) (a z : Attempt) → slice_get s.attempts i ≡ Some a → slice_get u.attempts i ≡ Some z → is_outstanding a ≡ false → drained z u ≡ drained a s)
      → Holds u c (fed_some own feeds b)
  holds_so left ended =
      holds_now s g ls current c b (fed_some own feeds b) old sound (fed_all_so own feeds b (alone_for b sound.alone b.committed refl) sound.within)
      (λ i a here mine out. left i (restream g a) (got i a here) mine out)
      (λ i a here off. ended i a (restream g a) here (got i a here) off)

pub sound_feeds_hold : SoundFeedsHold
sound_feeds_hold s t c b own feeds places only old sound left ended =
    let g : ℕ → Option ℕ = streams_of t.attempts in
    let e : t ≡ restreamed g t.links t.current s = streamed_is s t places only in
    let left_u : (i : ℕ) (a : Attempt) → slice_get (restreamed g t.links t.current s).attempts i ≡ Some a → is_of c a ≡ true → is_outstanding a ≡ true
    → IsLeftAt (restreamed g t.links t.current s) c (fed_some own feeds b) a
    = subst (λ (z : Seen). (i : ℕ) (a : Attempt) → slice_get z.attempts i ≡ Some a → is_of c a ≡ true → is_outstanding a ≡ true → IsLeftAt z c (fed_some own feeds b) a) e left in
    let ended_u : (i : ℕ) (a z : Attempt) → slice_get s.attempts i ≡ Some a → slice_get (restreamed g t.links t.current s).attempts i ≡ Some z → is_outstanding a ≡ false
    → drained z (restreamed g t.links t.current s) ≡ drained a s
    = subst (λ (y : Seen). (i : ℕ) (a z : Attempt) → slice_get s.attempts i ≡ Some a → slice_get y.attempts i ≡ Some z → is_outstanding a ≡ false → drained z y ≡ drained a s) e ended in
    subst (λ (z : Seen). Holds z c (fed_some own feeds b)) (sym e) (holds_so s c b own feeds places old sound g t.links t.current left_u ended_u)
