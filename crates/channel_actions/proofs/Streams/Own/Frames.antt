-- How many streams were opened on a link after a frame, and what a link sends next: HEADERS go on the next stream.
use Rattle.h2_frame.specs.Frames.{FrameSeen}
use Rattle.h2_frame.specs.Numbers.{headers_type, ping_type, rst_stream_type, settings_type, window_update_type}
use Rattle.h2_frame.specs.Sent.{data_frame, headers_frame}
use Rattle.channel_actions.proofs.KeptSessions.Lists.{all_get}
use Rattle.session_actions.specs.Attempts.{call_of}
use Rattle.session_actions.specs.Links.{has_written_end, is_stream_before, written_in}
use Rattle.session_actions.specs.Reading.{opened_streams, used}
use Rattle.session_actions.specs.Words.{foremost}
use Rattle.session_actions.specs.Writing.{accepted_bytes, controls_written, data_for, data_len, data_of, data_on, has_begun, headers_for, is_control, may_open_stream, next_control, next_data, next_headers, next_stream, request_block, sendable, streaming_on, waiting_on}
use Rattle.session_actions.specs.declared.attempt.Attempt.{Attempt}
use Rattle.session_actions.specs.declared.call.Call.{Call}
use Rattle.session_actions.specs.declared.link.Link.{Link}
use Rattle.session_actions.specs.declared.link.Sent.TheVariants as sent
use Rattle.session_actions.specs.declared.link.Sent.{Sent}
use Rattle.session_actions.specs.declared.link.Traffic.TheVariants as traffic
use Rattle.session_actions.specs.declared.link.Traffic.{Traffic}
use Rattle.session_actions.specs.declared.seen.Seen.{Seen}
use Rattle.std.proofs.Common.{Bool, List, None, Option, Some, [], ap, arith, drop, eq-eqb, eqb-true, false, filter, filter_map, if◌then◌else◌, is_some, length, length-append, not, option_and_then, option_map, refl, slice_get, sym, take, true, ℕ, ◌&&◌, ◌++◌, ◌+◌, ◌-◌, ◌*◌, ◌==◌, ◌||◌, ◌∙◌, ◌∷◌, ◌≡◌}
use Rattle.std.proofs.lemmas.Bool.Decides.{nat_tests}
use Rattle.std.proofs.lemmas.List.Elements.{filter-append, filter_map-append}
use Rattle.std.proofs.lemmas.List.{length-map}
use Rattle.std.specs.List.{list_all}
use Rattle.std.specs.Option.{option_or}
use Rattle.std.specs.Prelude.{nat_lt}
use Rattle.grpc_frame.specs.Messages.{framed_all}

-- how many streams were opened
abbrev pub is_opening : FrameSeen → Bool
is_opening f = f.kind == headers_type

abbrev pub opening : List Traffic → List FrameSeen
opening ts = filter is_opening (filter_map written_in ts)

pub counted : (l : Link) → length (opened_streams l) ≡ length (opening l.traffic)
counted l = length-map (opening l.traffic) (λ (f : FrameSeen). f.stream)

opening_more : (ts : List Traffic) (t : Traffic) → opening (ts ++ t ∷ []) ≡ opening ts ++ opening (t ∷ [])
opening_more ts t =
    ap (filter is_opening) (filter_map-append written_in ts (t ∷ [])) ∙ filter-append is_opening (filter_map written_in ts) (filter_map written_in (t ∷ []))

pub total : (ts : List Traffic) (t : Traffic) → length (opening (ts ++ t ∷ [])) ≡ length (opening ts) + length (opening (t ∷ []))
total ts t = ap (λ (fs : List FrameSeen). length fs) (opening_more ts t) ∙ length-append (opening ts) (opening (t ∷ []))

below : (n c d e : ℕ) → d ≡ c + e → nat_lt n (2 * c + 1) ≡ true → nat_lt n (2 * d + 1) ≡ true
below n c d e is less = grind (arith, nat_tests, is, less)

-- whatever passes, what was opened stays so
pub passed_opens : (l k : Link) (t : Traffic) → k.traffic ≡ l.traffic ++ t ∷ [] → (n : ℕ) → nat_lt n (next_stream l) ≡ true → nat_lt n (next_stream k) ≡ true
passed_opens l k t is n less =
    below n (length (opened_streams l)) (length (opened_streams k)) (length (opening (t ∷ [])))
    (counted k ∙ (ap (λ (ts : List Traffic). length (opening ts)) is ∙ (total l.traffic t ∙ ap (λ (c : ℕ). c + length (opening (t ∷ []))) (sym (counted l))))) less

-- and HEADERS open one more
opening_by : (f : FrameSeen) (b : Bool) → is_opening f ≡ b → b ≡ true → length (opening (traffic.Written (sent.Frame f) ∷ [])) ≡ 1
opening_by f true e is = ap (λ (c : Bool). length (if c then f ∷ [] else [])) e
opening_by f false e is = absurd (cc)

one_above : (c d e : ℕ) → d ≡ c + e → e ≡ 1 → nat_lt (2 * c + 1) (2 * d + 1) ≡ true
one_above c d e is one = grind (arith, nat_tests, is, one)

pub headers_open : (l k : Link) (f : FrameSeen) → k.traffic ≡ l.traffic ++ traffic.Written (sent.Frame f) ∷ [] → (f.kind == headers_type) ≡ true
    → nat_lt (next_stream l) (next_stream k) ≡ true
headers_open l k f is kind =
    let t : Traffic = traffic.Written (sent.Frame f) in
    one_above (length (opened_streams l)) (length (opened_streams k)) (length (opening (t ∷ [])))
    (counted k ∙ (ap (λ (ts : List Traffic). length (opening ts)) is ∙ (total l.traffic t ∙ ap (λ (c : ℕ). c + length (opening (t ∷ []))) (sym (counted l)))))
    (opening_by f true kind refl)

-- what a link sends next
abbrev pub opens_next : Link → Sent → Bool
opens_next l sent.Preface = true
opens_next l (sent.Frame f) = not (f.kind == headers_type) || (f.stream == next_stream l)

abbrev NextIf : Link → Option Sent → Type 0
NextIf l None = Unit {0}
NextIf l (Some x) = opens_next l x ≡ true

next_or : (l : Link) (o p : Option Sent) → NextIf l o → NextIf l p → NextIf l (option_or o p)
next_or l None p f g = g
next_or l (Some x) p f g = f

next_if : (l : Link) (b : Bool) (o p : Option Sent) → NextIf l o → NextIf l p → NextIf l (if b then o else p)
next_if l true o p f g = f
next_if l false o p f g = g

next_then : {X : Type 0} (l : Link) (f : X → Option Sent) → ((x : X) → NextIf l (f x)) → (o : Option X) → NextIf l (option_and_then f o)
next_then l f each None = tt
next_then l f each (Some x) = each x

pub control_by : (kind : ℕ) (c b : Bool) → (kind == headers_type) ≡ b
    → ((kind == settings_type) || (kind == ping_type) || (kind == window_update_type) || (kind == rst_stream_type)) ≡ true → (not b || c) ≡ true
control_by kind c false e control = refl
control_by kind c true e control =
    let is : kind ≡ headers_type = eqb-true kind headers_type e in
    let no : false ≡ true = sym (ap (λ (n : ℕ). (n == settings_type) || (n == ping_type) || (n == window_update_type) || (n == rst_stream_type)) is) ∙ control in absurd (cc)

control_next : (l : Link) (owed : List FrameSeen) (n : ℕ) (o : Option FrameSeen) → slice_get owed n ≡ o → list_all is_control owed ≡ true
    → NextIf l (option_map (λ (f : FrameSeen). sent.Frame f) o)
control_next l owed n None got e = tt
control_next l owed n (Some f) got e = control_by f.kind (f.stream == next_stream l) (f.kind == headers_type) refl (all_get is_control owed n f e got)

headers_next : (l : Link) (s : Seen) (a : Attempt) (o : Option Call)
    → NextIf l (option_map (λ (c : Call). sent.Frame (headers_frame (next_stream l) (request_block c a l s))) o)
headers_next l s a None = tt
headers_next l s a (Some c) = eq-eqb (next_stream l) (next_stream l) refl

data_by : (l : Link) (stream : ℕ) (content : List ℕ) (ends b : Bool) → NextIf l (if b then Some (sent.Frame (data_frame stream content ends)) else None)
data_by l stream content ends true = refl
data_by l stream content ends false = tt

data_on_next : (l : Link) (stream : ℕ) (c : Call) (b : Bool) (len : ℕ) → NextIf l (if b then None else data_of c l stream len)
data_on_next l stream c true len = tt
data_on_next l stream c false len =
    let done : ℕ = used stream l in
    let ends : Bool = c.finished && (done + len == accepted_bytes c) in data_by l stream (take len (drop done (framed_all c.messages))) ends (nat_lt 0 len || ends)

data_next : (l : Link) (s : Seen) (a : Attempt) → NextIf l (data_for l s a)
data_next l s a =
    next_then l (λ (stream : ℕ). option_and_then (data_on l stream) (call_of a s))
    (λ stream.
    next_then l (data_on l stream) (λ c. data_on_next l stream c (has_written_end stream l) (data_len l stream (accepted_bytes c - used stream l))) (call_of a s))
    a.row.stream

sends_next : (l : Link) (s : Seen) → list_all is_control l.owed ≡ true → NextIf l (sendable l s)
sends_next l s e =
    next_if l (not (has_begun l)) (Some sent.Preface) (option_or (next_control l) (option_or (next_headers l s) (next_data l s))) refl
    (next_or l (next_control l) (option_or (next_headers l s) (next_data l s)) (control_next l l.owed (controls_written l) (slice_get l.owed (controls_written l)) refl e)
    (next_or l (next_headers l s) (next_data l s)
    (next_if l (may_open_stream l s) (option_and_then (headers_for l s) (slice_get (waiting_on l s) 0)) None
    (next_then l (headers_for l s) (λ a. headers_next l s a (call_of a s)) (slice_get (waiting_on l s) 0)) tt)
    (next_then l (data_for l s) (data_next l s) (foremost is_stream_before (filter (λ (a : Attempt). is_some (data_for l s a)) (streaming_on l s))))))

next_of : (l : Link) (o : Option Sent) (x : Sent) → o ≡ Some x → NextIf l o → opens_next l x ≡ true
next_of l None x is e = absurd (cc)
next_of l (Some y) x is e = let one : y ≡ x = (cc) in sym (ap (opens_next l) one) ∙ e

pub sent_next : (l : Link) (s : Seen) (x : Sent) → list_all is_control l.owed ≡ true → sendable l s ≡ Some x → opens_next l x ≡ true
sent_next l s x e is = next_of l (sendable l s) x is (sends_next l s e)
