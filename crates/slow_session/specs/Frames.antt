-- What a frame adds, as the programs of this crate compute it. Nobody has to believe it.
use Rattle.std.specs.Prelude.{Option, [], if◌then◌else◌, option_map, slice_get, ℕ, ◌++◌, ◌==◌, ◌∷◌}
use Rattle.std.specs.Option.{option_map_or}
use Rattle.h2_frame.specs.Frames.{FrameSeen}
use Rattle.h2_frame.specs.Numbers.{headers_type}
use Rattle.session_actions.specs.Attempts.{with_attempt}
use Rattle.session_actions.specs.Entries.{with_entry}
use Rattle.session_actions.specs.Links.{with_link}
use Rattle.session_actions.specs.Writing.{owed_for, waiting_on, with_stream, with_written_bytes}
use Rattle.session_actions.specs.declared.link.Link.{Link}
use Rattle.session_actions.specs.declared.link.Sent.{Sent}
use Rattle.session_actions.specs.declared.seen.Seen.{Seen}
use Rattle.session_actions.specs.declared.link.Sent.TheVariants as sent
use Rattle.session_actions.specs.declared.link.Traffic.TheVariants as traffic
use Rattle.slow_session.specs.declared.frames.Owed.{Owed}
use Rattle.slow_session.specs.declared.frames.Target.{Target}

-- the place of the first attempt that waits for a stream on a link, and what HEADERS that are written give it
abbrev pub waiting_place : Link → Seen → Option ℕ
waiting_place l s = option_map (λ a. a.place) (slice_get (waiting_on l s) 0)

abbrev pub opened_by : Sent → Option ℕ → Seen → Seen
opened_by sent.Preface place s = s
opened_by (sent.Frame f) place s =
    if f.kind == headers_type then option_map_or (λ at. with_attempt (with_stream f.stream) at s) place s else s

-- a frame is written on a link
abbrev pub target_on : Seen → Link → Target
target_on s l = record { link = l.number; place = waiting_place l s }

abbrev pub written_to : Target → Sent → Seen → Seen
written_to t x s =
    with_entry (with_written_bytes x)
    (with_link (λ k. record k { traffic = k.traffic ++ traffic.Written x ∷ [] }) t.link (opened_by x t.place s))

-- a frame is read on a link
abbrev pub owed_on : FrameSeen → Seen → Link → Owed
owed_on f s l = record { link = l.number; frames = owed_for f l s }
