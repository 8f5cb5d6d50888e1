-- What one more thing that passes on a link makes of a response.
use Rattle.std.proofs.Common.{◌≡◌, ◌∷◌, ◌||◌, ◌&&◌, ◌==◌, ap, refl, subst, sym, ◌∙◌, Bool, true, false, List, [], Option, None, ℕ, ◌+◌, is_some, length, nat_lt}
use Rattle.std.proofs.lemmas.List.Sums.{fold-append}
use Rattle.h2_frame.specs.Frames.{FrameSeen}
use Rattle.h2_frame.specs.Numbers.{data_type, goaway_type}
use Rattle.h2_frame.specs.Payloads.{last_stream}
use Rattle.h2_link.specs.declared.live.LiveStream.{LiveStream}
use Rattle.link_actions.proofs.Lists.{if_false, if_true, on_if}
use Rattle.link_actions.specs.Laws.{with_written}
use Rattle.link_actions.specs.StreamActions.Sees.{IsReceived, response_of}
use Rattle.session_actions.specs.Links.{is_settings}
use Rattle.session_actions.specs.Responses.{initial_after, no_response, response_after, response_in, with_read, with_stream_frame, with_traffic}
use Rattle.session_actions.specs.Writing.{with_frame_read}
use Rattle.session_actions.specs.declared.attempt.Attempt.{Attempt}
use Rattle.session_actions.specs.declared.link.Link.{Link}
use Rattle.session_actions.specs.declared.link.ReadFrame.{ReadFrame}
use Rattle.session_actions.specs.declared.link.Sent.{Sent}
use Rattle.session_actions.specs.declared.link.Sent.TheVariants as sent
use Rattle.session_actions.specs.declared.link.Traffic.{Traffic}
use Rattle.session_actions.specs.declared.link.Traffic.TheVariants as traffic
use Rattle.session_actions.specs.declared.response.Outcome.{Outcome}
use Rattle.session_actions.specs.declared.response.Response.{Response}
use Rattle.session_actions.specs.declared.seen.Seen.{Seen}

-- the same, but for windows
pub record IsLike (p q : Response) : Type 0 where
  pub head : q.head ≡ p.head
  pub end : q.end ≡ p.end
  pub large : q.large ≡ p.large

pub like_itself : (p : Response) → IsLike p p
like_itself p = record { head = refl; end = refl; large = refl }

-- one more
pub response_read : (limit k : ℕ) (l : Link) (r : ReadFrame) (frames : List FrameSeen)
    → response_in limit k (with_frame_read r frames l).traffic ≡ response_after limit k (response_in limit k l.traffic) (traffic.Read r)
response_read limit k l r frames = fold-append (response_after limit k) no_response l.traffic (traffic.Read r ∷ [])

pub response_wrote : (limit k : ℕ) (l : Link) (x : Sent)
    → response_in limit k (with_written x l).traffic ≡ response_after limit k (response_in limit k l.traffic) (traffic.Written x)
response_wrote limit k l x = fold-append (response_after limit k) no_response l.traffic (traffic.Written x ∷ [])

pub goes_on : (limit k : ℕ) (p : Response) (t : Traffic) → p.end ≡ None → p.large ≡ false → response_after limit k p t ≡ with_traffic limit k p t
goes_on limit k p t goes small =
    if_false (is_some p.end || p.large) p (with_traffic limit k p t) (ap (λ (o : Option Outcome). is_some o || p.large) goes ∙ small)

-- a frame of another stream
both_ways : (b : Bool) → b ≡ true → b ≡ false → ⊥
both_ways true e h = (cc)
both_ways false e h = (cc)

pub read_other : (limit k : ℕ) (p : Response) (r : ReadFrame) → (r.frame.kind == goaway_type) ≡ false → (r.frame.stream == k) ≡ false → IsLike p (with_read limit k p r)
read_other limit k p r no_goaway other =
    let f : FrameSeen = r.frame in
    on_if (IsLike p) (is_settings f) (record p { initial = initial_after p.initial f }) _ (λ e. record { head = refl; end = refl; large = refl })
    (λ e.
    on_if (IsLike p) ((f.kind == goaway_type) && nat_lt (last_stream f.payload) k) _ _
    (λ h. absurd (both_ways ((f.kind == goaway_type) && nat_lt (last_stream f.payload) k) h (ap (λ (b : Bool). b && nat_lt (last_stream f.payload) k) no_goaway)))
    (λ h.
    on_if (IsLike p) (f.stream == k) (with_stream_frame limit p f r.block) p
    (λ i. absurd (both_ways (f.stream == k) i other))
    (λ i. like_itself p)))

pub like_other : (limit k : ℕ) (l : Link) (r : ReadFrame) (frames : List FrameSeen) → (response_in limit k l.traffic).end ≡ None → (response_in limit k l.traffic).large ≡ false
    → (r.frame.kind == goaway_type) ≡ false → (r.frame.stream == k) ≡ false → IsLike (response_in limit k l.traffic) (response_in limit k (with_frame_read r frames l).traffic)
like_other limit k l r frames goes small no_goaway other =
    let p : Response = response_in limit k l.traffic in
    subst (IsLike p) (sym (response_read limit k l r frames ∙ goes_on limit k p (traffic.Read r) goes small)) (read_other limit k p r no_goaway other)

-- a frame of the stream itself, which is neither SETTINGS nor GOAWAY
pub read_own : (limit k : ℕ) (p : Response) (r : ReadFrame) → is_settings r.frame ≡ false → (r.frame.kind == goaway_type) ≡ false → (r.frame.stream == k) ≡ true
    → with_read limit k p r ≡ with_stream_frame limit p r.frame r.block
read_own limit k p r no_settings_ no_goaway own =
    let f : FrameSeen = r.frame in
    if_false (is_settings f) (record p { initial = initial_after p.initial f }) _ no_settings_
    ∙ if_false ((f.kind == goaway_type) && nat_lt (last_stream f.payload) k) _ _ (ap (λ (b : Bool). b && nat_lt (last_stream f.payload) k) no_goaway)
    ∙ if_true (f.stream == k) (with_stream_frame limit p f r.block) p own

pub response_own : (limit k : ℕ) (l : Link) (r : ReadFrame) (frames : List FrameSeen) → (response_in limit k l.traffic).end ≡ None → (response_in limit k l.traffic).large ≡ false
    → is_settings r.frame ≡ false → (r.frame.kind == goaway_type) ≡ false → (r.frame.stream == k) ≡ true
    → response_in limit k (with_frame_read r frames l).traffic ≡ with_stream_frame limit (response_in limit k l.traffic) r.frame r.block
response_own limit k l r frames goes small no_settings_ no_goaway own =
    response_read limit k l r frames ∙ goes_on limit k (response_in limit k l.traffic) (traffic.Read r) goes small
    ∙ read_own limit k (response_in limit k l.traffic) r no_settings_ no_goaway own

-- what is written
pub write_like : (limit k : ℕ) (p : Response) (x : Sent) → IsLike p (with_traffic limit k p (traffic.Written x))
write_like limit k p sent.Preface = like_itself p
write_like limit k p (sent.Frame f) =
    on_if (IsLike p) ((f.kind == data_type) && (f.stream == k)) (record p { used = p.used + length f.payload }) p
    (λ e. record { head = refl; end = refl; large = refl }) (λ e. like_itself p)

pub like_written : (limit k : ℕ) (l : Link) (x : Sent) → (response_in limit k l.traffic).end ≡ None → (response_in limit k l.traffic).large ≡ false
    → IsLike (response_in limit k l.traffic) (response_in limit k (with_written x l).traffic)
like_written limit k l x goes small =
    let p : Response = response_in limit k l.traffic in
    subst (IsLike p) (sym (response_wrote limit k l x ∙ goes_on limit k p (traffic.Written x) goes small)) (write_like limit k p x)

-- so a stream still takes what comes
pub received_like : (l m : Link) (s u : Seen) (x y : LiveStream) (a : Attempt) → y.head ≡ x.head → IsLike (response_of l s x.number a) (response_of m u y.number a)
    → IsReceived l s x a → IsReceived m u y a
received_like l m s u x y a head like is = record {
  head = head ∙ is.head ∙ ap (λ o. is_some o) (sym like.head);
  goes = like.end ∙ is.goes;
  small = like.large ∙ is.small;
}
