-- Of what a link writes next, HEADERS open a stream that is not 0: what is queued is control frames, and a new stream has an odd number.
use Rattle.grpc_frame.specs.Messages.{framed_all}
use Rattle.h2_frame.specs.Frames.{FrameSeen}
use Rattle.h2_frame.specs.Numbers.{headers_type, ping_type, rst_stream_type, settings_type, window_update_type}
use Rattle.h2_frame.specs.Sent.{data_frame, headers_frame}
use Rattle.channel_actions.proofs.KeptSessions.Lists.{all_get}
use Rattle.channel_actions.proofs.KeptSessions.Sound.{opens_soundly}
use Rattle.session_actions.specs.Attempts.{call_of}
use Rattle.session_actions.specs.Links.{has_written_end, is_stream_before}
use Rattle.session_actions.specs.Reading.{opened_streams, used}
use Rattle.session_actions.specs.Words.{foremost}
use Rattle.session_actions.specs.Writing.{accepted_bytes, controls_written, data_for, data_len, data_of, data_on, has_begun, headers_for, is_control, may_open_stream, next_control, next_data, next_headers, next_stream, request_block, sendable, streaming_on, waiting_on}
use Rattle.session_actions.specs.declared.attempt.Attempt.{Attempt}
use Rattle.session_actions.specs.declared.call.Call.{Call}
use Rattle.session_actions.specs.declared.link.Link.{Link}
use Rattle.session_actions.specs.declared.link.Sent.TheVariants as sent
use Rattle.session_actions.specs.declared.link.Sent.{Sent}
use Rattle.session_actions.specs.declared.seen.Seen.{Seen}
use Rattle.std.proofs.Common.{Bool, List, None, Option, Some, ap, arith, drop, eqb-true, false, filter, if◌then◌else◌, is_some, length, nat_lt, not, option_and_then, option_map, refl, slice_get, sym, take, true, ℕ, ◌&&◌, ◌*◌, ◌+◌, ◌-◌, ◌==◌, ◌||◌, ◌∙◌, ◌≡◌}
use Rattle.std.proofs.lemmas.Bool.{ne_eqb}
use Rattle.std.specs.List.{list_all}
use Rattle.std.specs.Option.{option_or}

-- a frame that is written opens no stream 0
control_opens : (kind : ℕ) (stream : ℕ) (b : Bool) → (kind == headers_type) ≡ b
    → ((kind == settings_type) || (kind == ping_type) || (kind == window_update_type) || (kind == rst_stream_type)) ≡ true → (not b || not (stream == 0)) ≡ true
control_opens kind stream false e control = refl
control_opens kind stream true e control =
    let is : kind ≡ headers_type = eqb-true kind headers_type e in
    let no : false ≡ true = sym (ap (λ (n : ℕ). (n == settings_type) || (n == ping_type) || (n == window_update_type) || (n == rst_stream_type)) is) ∙ control in absurd (cc)

odd_not_zero : (n : ℕ) → (2 * n + 1 == 0) ≡ false
odd_not_zero n = ne_eqb (2 * n + 1) 0 (λ e. (let no : ⊥ = omega (arith, e) in no))

abbrev pub OpensIf : Option Sent → Type 0
OpensIf None = Unit {0}
OpensIf (Some x) = opens_soundly x ≡ true

opens_or : (o p : Option Sent) → OpensIf o → OpensIf p → OpensIf (option_or o p)
opens_or None p f g = g
opens_or (Some x) p f g = f

opens_if : (b : Bool) (o p : Option Sent) → OpensIf o → OpensIf p → OpensIf (if b then o else p)
opens_if true o p f g = f
opens_if false o p f g = g

opens_then : {X : Type 0} (f : X → Option Sent) → ((x : X) → OpensIf (f x)) → (o : Option X) → OpensIf (option_and_then f o)
opens_then f each None = tt
opens_then f each (Some x) = each x

control_sound : (owed : List FrameSeen) (n : ℕ) (o : Option FrameSeen) → slice_get owed n ≡ o → list_all is_control owed ≡ true → OpensIf (option_map (λ (f : FrameSeen). sent.Frame f) o)
control_sound owed n None got e = tt
control_sound owed n (Some f) got e = control_opens f.kind f.stream (f.kind == headers_type) refl (all_get is_control owed n f e got)

headers_sound : (l : Link) (s : Seen) (a : Attempt) (o : Option Call)
    → OpensIf (option_map (λ (c : Call). sent.Frame (headers_frame (next_stream l) (request_block c a l s))) o)
headers_sound l s a None = tt
headers_sound l s a (Some c) = ap (λ (b : Bool). not b) (odd_not_zero (length (opened_streams l)))

data_by : (stream : ℕ) (content : List ℕ) (ends b : Bool) → OpensIf (if b then Some (sent.Frame (data_frame stream content ends)) else None)
data_by stream content ends true = refl
data_by stream content ends false = tt

data_on_sound : (l : Link) (stream : ℕ) (c : Call) (b : Bool) (len : ℕ) → OpensIf (if b then None else data_of c l stream len)
data_on_sound l stream c true len = tt
data_on_sound l stream c false len =
    let done : ℕ = used stream l in
    let ends : Bool = c.finished && (done + len == accepted_bytes c) in data_by stream (take len (drop done (framed_all c.messages))) ends (nat_lt 0 len || ends)

data_sound : (l : Link) (s : Seen) (a : Attempt) → OpensIf (data_for l s a)
data_sound l s a =
    opens_then (λ (stream : ℕ). option_and_then (data_on l stream) (call_of a s))
    (λ stream.
    opens_then (data_on l stream) (λ c. data_on_sound l stream c (has_written_end stream l) (data_len l stream (accepted_bytes c - used stream l))) (call_of a s))
    a.row.stream

pub sendable_sound : (l : Link) (s : Seen) → list_all is_control l.owed ≡ true → OpensIf (sendable l s)
sendable_sound l s e =
    opens_if (not (has_begun l)) (Some sent.Preface) (option_or (next_control l) (option_or (next_headers l s) (next_data l s))) refl
    (opens_or (next_control l) (option_or (next_headers l s) (next_data l s)) (control_sound l.owed (controls_written l) (slice_get l.owed (controls_written l)) refl e)
    (opens_or (next_headers l s) (next_data l s)
    (opens_if (may_open_stream l s) (option_and_then (headers_for l s) (slice_get (waiting_on l s) 0)) None
    (opens_then (headers_for l s) (λ a. headers_sound l s a (call_of a s)) (slice_get (waiting_on l s) 0)) tt)
    (opens_then (data_for l s) (data_sound l s) (foremost is_stream_before (filter (λ (a : Attempt). is_some (data_for l s a)) (streaming_on l s))))))
