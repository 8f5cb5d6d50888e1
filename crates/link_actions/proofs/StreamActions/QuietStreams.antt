-- A frame that is of no attempt's stream, and no GOAWAY, leaves all responses as they are.
use Rattle.std.proofs.Common.{◌≡◌, ◌∷◌, ◌==◌, ap, arith, refl, subst, sym, ◌∙◌, false, List, [], None, Ok, Err, Result, IfOk, ℕ, ◌+◌, length}
use Rattle.std.specs.List.{list_any}
use Rattle.std.proofs.lemmas.Bool.Decides.{nat_tests}
use Rattle.h2_frame.specs.Frames.{FrameSeen}
use Rattle.h2_frame.specs.Numbers.{goaway_type}
use Rattle.h2_frame.specs.declared.payload.Setting.{Setting}
use Rattle.h2_link.specs.LinkErrors as link
use Rattle.h2_link.specs.LinkErrors.{overflows_link, overflows_streams}
use Rattle.h2_link.specs.Queues.{sealed}
use Rattle.h2_link.specs.Steps.{applied, outcome, read_after, reported}
use Rattle.h2_link.specs.Wire.{Report, Wire}
use Rattle.h2_link.specs.declared.live.LiveStream.{LiveStream}
use Rattle.link_actions.proofs.Blocks.{SameAs}
use Rattle.link_actions.proofs.Receiving.{Received}
use Rattle.link_actions.proofs.Judged.{settings_same}
use Rattle.link_actions.proofs.Lists.{none_of}
use Rattle.link_actions.proofs.Quiet.{IsUntouched, applied_leaves, owed_controls}
use Rattle.link_actions.proofs.QuietKept.{quiet_frames_keep}
use Rattle.link_actions.proofs.Reading.{NoError, applied_same}
use Rattle.link_actions.specs.Sees.{SeesLink, SeesRead, by_stream}
use Rattle.session_actions.specs.Links.{with_link}
use Rattle.session_actions.specs.Reading.{open_block}
use Rattle.session_actions.specs.Writing.{frame_read, frame_read_on, owed_for, streaming_on, with_frame_read}
use Rattle.session_actions.specs.declared.attempt.Attempt.{Attempt}
use Rattle.session_actions.specs.declared.link.Link.{Link}
use Rattle.session_actions.specs.declared.link.NextRead.{NextRead}
use Rattle.session_actions.specs.declared.link.NextRead.TheVariants as nextread
use Rattle.session_actions.specs.declared.link.ReadFrame.{ReadFrame}
use Rattle.session_actions.specs.declared.seen.Seen.{Seen}
use Rattle.link_actions.proofs.StreamActions.BlockReported.{received_by, reported_by}
use Rattle.link_actions.proofs.StreamActions.StreamGoes.{fair_opened, fair_rules}
use Rattle.link_actions.proofs.StreamActions.StreamRead.{read_is}
use Rattle.link_actions.proofs.StreamActions.Unreceived.{begun_after, received_other, unreceived_read}
use Rattle.link_actions.specs.StreamActions.Laws.{Comes, QuietFramesKeepStreams, read_link}
use Rattle.link_actions.specs.StreamActions.Sees.{ResponsesAreReceived, NewStreamsAreUnreceived, IsBegun, SeesStreams}

-- a frame that the session reads breaks no rule of the link
pub record IsApplied (w : Wire) (f : FrameSeen) (seen : ℕ) : Type 0 where
  pub reported : Report
  pub applied_is : applied (record w { queue = sealed w.queue }) f seen ≡ Ok reported

applied_by : (l : Link) (w : Wire) (r : ReadFrame) (seen : ℕ) (x : Result Report ℕ) → applied (record w { queue = sealed w.queue }) r.frame seen ≡ x
    → SameAs r.end r.frame (open_block l) (record w { queue = sealed w.queue }) (nextread.Frame r) x → IsApplied w r.frame seen
applied_by l w r seen (Ok t) e same = record { reported = t; applied_is = e }
applied_by l w r seen (Err code) e same = absurd same

pub is_applied : (l : Link) (w : Wire) (r : ReadFrame) → SeesRead l w → Comes l w r → IsApplied w r.frame (read_after w.read (9 + length r.frame.payload))
is_applied l w r reads comes =
    let f : FrameSeen = r.frame in
    let v : Wire = record w { queue = sealed w.queue } in
    let seen : ℕ = read_after w.read (9 + length f.payload) in
    let none = fair_rules w f comes.fair in
    let N : List Setting → Type 0 = λ ss. NoError (link.is_misplaced w.block f) (overflows_link w.window f) (list_any (overflows_streams w.live) ss) in
    let S : NextRead → Type 0 = λ n. SameAs r.end f (open_block l) v n (applied v f seen) in
    applied_by l w r seen (applied v f seen) refl
    (subst S comes.next (applied_same l v f r.end seen reads.block reads.table (subst N (sym (settings_same f comes.allowed)) none)))

-- all streams are others
turned : (m n : ℕ) → (m == n) ≡ false → (n == m) ≡ false
turned m n e = grind (arith, nat_tests, e)

received_apart : (l : Link) (s : Seen) (r : ReadFrame) (frames : List FrameSeen) (h : Link → Link) (xs : List LiveStream) (others : List Attempt) → (r.frame.kind == goaway_type) ≡ false
    → list_any (λ (x : LiveStream). x.number == r.frame.stream) xs ≡ false → ResponsesAreReceived l s xs others → ResponsesAreReceived (with_frame_read r frames l) (with_link h l.number s) xs others
received_apart l s r frames h [] [] no_goaway apart are = tt
received_apart l s r frames h (x ∷ xs) (a ∷ others) no_goaway apart are =
    let parts = none_of (x.number == r.frame.stream) (list_any (λ (y : LiveStream). y.number == r.frame.stream) xs) apart in
    (received_other l s r frames h x a no_goaway (turned x.number r.frame.stream parts.0) are.0, received_apart l s r frames h xs others no_goaway parts.1 are.1)
received_apart l s r frames h [] (a ∷ others) no_goaway apart are = absurd are
received_apart l s r frames h (x ∷ xs) [] no_goaway apart are = absurd are

pub quiet_frames_keep_streams : QuietFramesKeepStreams
quiet_frames_keep_streams l s w g r is comes apart =
    let f : FrameSeen = r.frame in
    let seen : ℕ = read_after w.read (9 + length f.payload) in
    let v : Wire = record w { queue = sealed w.queue } in
    let frames : List FrameSeen = owed_for f l s in
    let m : Link = read_link r l s in
    let bs : List Attempt = by_stream (streaming_on l s) in
    let x : IsApplied w f seen = is_applied l w r is.sees.sees.reads comes in
    let t : Report = x.reported in
    let none = fair_rules w f comes.fair in
    let unopened : link.is_unopened w.opened f ≡ false = fair_opened w f comes.fair in
    let handled : Received f (open_block l) w t.wire = received_by l w r t is.sees.sees.reads comes x.applied_is in
    let left : IsUntouched (owed_controls f) v t.wire
    = subst (λ (q : Result Report ℕ). IfOk q (λ u. IsUntouched (owed_controls f) v u.wire)) x.applied_is (applied_leaves f v seen apart.0 apart.1 none.placed) in
    let reported_is : reported w f ≡ outcome w seen (Ok t) = reported_by w f t comes.fair x.applied_is in
    let wire_is : (reported w f).wire ≡ record t.wire { read = seen } = ap (λ (y : Report). y.wire) reported_is in
    let whole : (reported w f).wire.broken ≡ None = ap (λ (y : Wire). y.broken) wire_is ∙ handled.whole ∙ is.sees.sees.reads.whole in
    let sees : SeesLink m (frame_read l.number r s) (reported w f).wire g = quiet_frames_keep l s w g r is.sees comes.allowed comes.end comes.fair whole apart in
    let live_is : t.wire.live ≡ w.live = left.live in
    let opened_is : t.wire.opened ≡ w.opened = left.opened in
    let H : Seen → Type 0 = λ z. ResponsesAreReceived m z t.wire.live (by_stream (streaming_on m z)) in
    subst (λ (y : Wire). SeesStreams m (frame_read l.number r s) y g) (sym wire_is) (record {
      sees = subst (λ (y : Wire). SeesLink m (frame_read l.number r s) y g) wire_is sees;
      handled = subst H (sym (read_is l s r is.sees.at))
          (subst (λ (xs : List LiveStream). ResponsesAreReceived m (frame_read_on r s l) xs bs) (sym live_is)
          (received_apart l s r frames (with_frame_read r frames) w.live bs apart.0 apart.1 is.handled));
      unreceived = subst (NewStreamsAreUnreceived m) (sym opened_is) (unreceived_read l w r frames is.unreceived unopened none.placed is.begun comes.next);
      begun = subst (IsBegun t.wire.block) (sym opened_is) (begun_after l w t.wire.block f unopened is.sees.sees.reads.block is.begun handled.block);
    })
