-- HEADERS that are written give a stream to the first attempt that waits; a frame that is read makes the client queue control frames.
use Rattle.std.proofs.Common.{◌≡◌, ap, Option, None, Some, ℕ, refl, sym}
use Rattle.std.specs.Prelude.{if◌then◌else◌, option_map, slice_get, [], ◌++◌, ◌==◌, ◌∷◌}
use Rattle.std.specs.Option.{option_map_or}
use Rattle.h2_frame.specs.Frames.{FrameSeen}
use Rattle.h2_frame.specs.Numbers.{headers_type}
use Rattle.session_actions.specs.Attempts.{with_attempt}
use Rattle.session_actions.specs.Entries.{with_entry}
use Rattle.session_actions.specs.Links.{with_link}
use Rattle.session_actions.specs.Writing.{frame_read_on, frame_written_on, stream_opened_by, waiting_on, with_frame_read, with_stream, with_written_bytes}
use Rattle.session_actions.specs.declared.attempt.Attempt.{Attempt}
use Rattle.session_actions.specs.declared.link.Link.{Link}
use Rattle.session_actions.specs.declared.link.ReadFrame.{ReadFrame}
use Rattle.session_actions.specs.declared.link.Sent.{Sent}
use Rattle.session_actions.specs.declared.seen.Seen.{Seen}
use Rattle.session_actions.specs.declared.link.Sent.TheVariants as sent
use Rattle.session_actions.specs.declared.link.Traffic.TheVariants as traffic
use Rattle.slow_session.specs.Frames.{opened_by, owed_on, target_on, waiting_place, written_to}
use Rattle.slow_session.specs.declared.frames.Owed.{Owed}
use Rattle.slow_session.specs.declared.frames.Target.{Target}

-- a frame that is read on the link of a number
pub read_some : (r : ReadFrame) (s : Seen) (o : Option Link) (w : Owed) → Some w ≡ option_map (owed_on r.frame s) o → with_link (with_frame_read r w.frames) w.link s ≡ option_map_or (frame_read_on r s) o s
read_some r s None w e = cc
read_some r s (Some l) w e =
    let same : w ≡ owed_on r.frame s l = cc in rw same refl
