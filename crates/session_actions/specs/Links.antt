-- Links: what passed on them, in the order in which it did, and how they change (RFC 9113, sections 3.4, 5.1, 6.5 and 6.8).
-- Example: SETTINGS without content came, and then the client's preface was written: `traffic` is Read, Written; 9 bytes were read; the server's
-- preface came; and no frame was written, since the client's preface with its SETTINGS is none here.
use Rattle.std.specs.List.{list_any}
use Rattle.std.specs.Option.{option_map_or}
use Rattle.std.specs.Prelude.{Bool, List, None, Option, Some, [], filter_map, if◌then◌else◌, nat_lt, not, option_and_then, true, unwrap_or, ℕ, ◌&&◌, ◌++◌, ◌==◌, ◌||◌}
use Rattle.h2_frame.specs.Frames.{FrameSeen, has_flag}
use Rattle.h2_frame.specs.Numbers.{ack_flag, data_type, end_stream_flag, goaway_type, settings_type}
use Rattle.h2_frame.specs.Payloads.{settings_in}
use Rattle.h2_frame.specs.declared.payload.Setting.{Setting}
use Rattle.session_actions.specs.Words.{changed, last_of, numbered}
use Rattle.session_actions.specs.declared.attempt.Attempt.{Attempt}
use Rattle.session_actions.specs.declared.link.Link.{Link}
use Rattle.session_actions.specs.declared.link.LinkOver.{LinkOver}
use Rattle.session_actions.specs.declared.link.ReadFrame.{ReadFrame}
use Rattle.session_actions.specs.declared.link.Sent.{Sent}
use Rattle.session_actions.specs.declared.link.Traffic.{Traffic}
use Rattle.session_actions.specs.declared.seen.Seen.{Seen}
use Rattle.session_actions.specs.declared.link.Sent.TheVariants as sent
use Rattle.session_actions.specs.declared.link.Traffic.TheVariants as traffic

-- what was read on a link, and what was written
abbrev pub read_in : Traffic → Option ReadFrame
read_in (traffic.Read r) = Some r
read_in _ = None

abbrev pub frame_sent : Sent → Option FrameSeen
frame_sent (sent.Frame f) = Some f
frame_sent sent.Preface = None

abbrev pub written_in : Traffic → Option FrameSeen
written_in (traffic.Written x) = frame_sent x
written_in _ = None

abbrev pub frames_read : Link → List ReadFrame
frames_read l = filter_map read_in l.traffic

abbrev pub frames_written : Link → List FrameSeen
frames_written l = filter_map written_in l.traffic

-- how many bytes were read
abbrev pub read_bytes : Link → ℕ
read_bytes l = option_map_or (λ r. r.end) (last_of (frames_read l)) 0

-- SETTINGS without ACK, and what they say (section 6.5)
abbrev pub is_settings : FrameSeen → Bool
is_settings f = (f.kind == settings_type) && not (has_flag f.flags ack_flag)

abbrev pub settings_of : FrameSeen → List Setting
settings_of f = if is_settings f then settings_in f.payload else []

-- the server's connection preface came (section 3.4); it sent GOAWAY (section 6.8)
abbrev pub has_settings : Link → Bool
has_settings l = list_any (λ r. is_settings r.frame) (frames_read l)

abbrev pub is_retiring : Link → Bool
is_retiring l = list_any (λ r. r.frame.kind == goaway_type) (frames_read l)

abbrev pub link_of : Attempt → Seen → Option Link
link_of a s = option_and_then (λ at. numbered s.links at.link) a.row.placed

-- the client closed its side of a stream: it wrote END_STREAM (section 5.1)
abbrev pub has_written_end : ℕ → Link → Bool
has_written_end stream l = list_any (λ f. (f.kind == data_type) && (f.stream == stream) && has_flag f.flags end_stream_flag) (frames_written l)

-- attempts in the order of their links and streams
abbrev pub link_number : Attempt → ℕ
link_number a = option_map_or (λ at. at.link) a.row.placed 0

abbrev pub stream_number : Attempt → ℕ
stream_number a = unwrap_or a.row.stream 0

abbrev pub is_stream_before : Attempt → Attempt → Bool
is_stream_before a b = nat_lt (link_number a) (link_number b) || ((link_number a == link_number b) && nat_lt (stream_number a) (stream_number b))

-- a link, changed; control frames queued on it, after all that were queued before, written or not
abbrev pub with_link : (Link → Link) → ℕ → Seen → Seen
with_link f link s = record s { links = changed f link s.links }

abbrev pub owed : List FrameSeen → ℕ → Seen → Seen
owed frames link s = with_link (λ l. record l { owed = l.owed ++ frames }) link s

-- a link is over: the environment lost it, the peer broke a rule, or its SETTINGS did not come in time
abbrev pub link_over : LinkOver → ℕ → Seen → Seen
link_over why link s = with_link (λ l. record l { over = Some why }) link s

-- a resolution is wanted (gRPC Name Resolution); no action depends on it
abbrev pub wants_resolution : Seen → Seen
wants_resolution s = record s { wants = true }
