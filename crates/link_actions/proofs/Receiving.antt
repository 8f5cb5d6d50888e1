-- What a frame that breaks no rule leaves of a link, said as a session computes it.
use Rattle.std.proofs.Common.{◌≡◌, ◌||◌, ◌&&◌, ◌==◌, not, ap, refl, subst, sym, ◌∙◌, Bool, true, false, List, [], Option, None, Some, ℕ, ◌+◌, arith, if◌then◌else◌, min, nat_lt}
use Rattle.std.specs.List.{list_any}
use Rattle.std.proofs.lemmas.Bool.Decides.{nat_tests}
use Rattle.std.specs.Option.{option_or, unwrap_or}
use Rattle.std.proofs.lemmas.Bool.{eqb-true}
use Rattle.h2_frame.specs.Frames.{FrameSeen, has_flag}
use Rattle.h2_frame.specs.Numbers.{ack_flag, continuation_type, data_type, goaway_type, headers_type, ping_type, rst_stream_type, settings_type, window_update_type}
use Rattle.h2_frame.specs.Payloads.{increment, last_stream, ping_word, reset_code, settings_in}
use Rattle.h2_frame.specs.declared.payload.Setting.{Setting}
use Rattle.h2_hpack.specs.Blocks.{state_after}
use Rattle.h2_link.specs.LinkErrors.{overflows_link, overflows_streams}
use Rattle.h2_link.specs.Queues.{queued}
use Rattle.h2_link.specs.Steps.{data_reported, found_from, goaway_reported, is_numbered, ping_reported, plain_reported, reset_reported, settings_reported, update_reported, window_reported}
use Rattle.h2_link.specs.Wire.{Block, Report, Wire}
use Rattle.h2_link.specs.declared.live.LiveStream.{LiveStream}
use Rattle.h2_link.specs.declared.control.Control.TheVariants as control
use Rattle.link_actions.proofs.History.{completed, given}
use Rattle.link_actions.proofs.Lists.{if_false, if_true, on_if, or_none}
use Rattle.link_actions.proofs.Settings.{initial_after, limit_after}
use Rattle.link_actions.specs.Sees.{IsBlock}
use Rattle.session_actions.specs.Links.{is_settings, settings_of}
use Rattle.session_actions.specs.Reading.{block_after, is_last_of_block, is_of_block, raise_by}
use Rattle.session_actions.specs.declared.link.OpenBlock.{OpenBlock}

pub record Received (f : FrameSeen) (open_ : Option OpenBlock) (w v : Wire) : Type 0 where
  pub whole : v.broken ≡ w.broken
  pub ready : v.ready ≡ (w.ready || is_settings f)
  pub retiring : v.retiring ≡ (w.retiring || (f.kind == goaway_type))
  pub limit : v.limit ≡ option_or (given 3 (settings_of f)) w.limit
  pub initial : v.initial ≡ unwrap_or (given 4 (settings_of f)) w.initial
  pub window : v.window ≡ w.window + raise_by 0 f
  pub opened : v.opened ≡ w.opened
  pub block : IsBlock v.block (block_after open_ f)
  pub table : v.table ≡ state_after w.table (completed open_ f)

-- a frame that says nothing of the link as a whole
pub record IsQuiet (f : FrameSeen) : Type 0 where
  pub settings : is_settings f ≡ false
  pub goaway : (f.kind == goaway_type) ≡ false
  pub block : is_of_block f ≡ false
  pub raises : raise_by 0 f ≡ 0

-- and leaves it so
pub record IsKept (w v : Wire) : Type 0 where
  pub whole : v.broken ≡ w.broken
  pub ready : v.ready ≡ w.ready
  pub retiring : v.retiring ≡ w.retiring
  pub limit : v.limit ≡ w.limit
  pub initial : v.initial ≡ w.initial
  pub window : v.window ≡ w.window
  pub opened : v.opened ≡ w.opened
  pub block : v.block ≡ w.block
  pub table : v.table ≡ w.table

pub itself : (w : Wire) → IsKept w w
itself w = record { whole = refl; ready = refl; retiring = refl; limit = refl; initial = refl; window = refl; opened = refl; block = refl; table = refl }

-- by the frame's type
pub of_settings : (kind flags : ℕ) → (kind == settings_type) ≡ false → ((kind == settings_type) && not (has_flag flags ack_flag)) ≡ false
of_settings kind flags e = ap (λ (b : Bool). b && not (has_flag flags ack_flag)) e

of_block : (kind : ℕ) → (kind == headers_type) ≡ false → (kind == continuation_type) ≡ false → ((kind == headers_type) || (kind == continuation_type)) ≡ false
of_block kind e h = ap (λ (b : Bool). b || (kind == continuation_type)) e ∙ h

pub no_raise : (b c : Bool) (n : ℕ) → b ≡ false → (if b && c then n else 0) ≡ 0
no_raise false c n e = refl
no_raise true c n e = absurd (cc)

pub quiet_by : (f : FrameSeen) → (f.kind == settings_type) ≡ false → (f.kind == goaway_type) ≡ false → (f.kind == headers_type) ≡ false
    → (f.kind == continuation_type) ≡ false → (f.kind == window_update_type) ≡ false → IsQuiet f
quiet_by f settings goaway headers continuation update = record {
  settings = of_settings f.kind f.flags settings;
  goaway = goaway;
  block = of_block f.kind headers continuation;
  raises = no_raise (f.kind == window_update_type) (f.stream == 0) (increment f.payload) update;
}

pub not_kind : (kind n m : ℕ) (b : Bool) → kind ≡ n → (n == m) ≡ b → (kind == m) ≡ b
not_kind kind n m b e is = ap (λ (k : ℕ). k == m) e ∙ is

pub quiet_kind : (f : FrameSeen) (n : ℕ) → (f.kind == n) ≡ true → (n == settings_type) ≡ false → (n == goaway_type) ≡ false → (n == headers_type) ≡ false
    → (n == continuation_type) ≡ false → (n == window_update_type) ≡ false → IsQuiet f
quiet_kind f n is settings goaway headers continuation update =
    let e : f.kind ≡ n = eqb-true f.kind n is in
    quiet_by f (not_kind f.kind n settings_type false e settings) (not_kind f.kind n goaway_type false e goaway)
    (not_kind f.kind n headers_type false e headers) (not_kind f.kind n continuation_type false e continuation)
    (not_kind f.kind n window_update_type false e update)

-- what such a frame leaves
pub no_settings : (f : FrameSeen) → is_settings f ≡ false → settings_of f ≡ []
no_settings f e = if_false (is_settings f) (settings_in f.payload) [] e

pub block_kept : (open_ : Option OpenBlock) (f : FrameSeen) → is_of_block f ≡ false → block_after open_ f ≡ open_
block_kept open_ f e = if_true (not (is_of_block f)) open_ _ (ap not e)

none_completed : (open_ : Option OpenBlock) (f : FrameSeen) → is_of_block f ≡ false → completed open_ f ≡ []
none_completed open_ f e = if_false (is_of_block f && is_last_of_block f) _ [] (ap (λ (b : Bool). b && is_last_of_block f) e)

pub received_quiet : (f : FrameSeen) (open_ : Option OpenBlock) (w v : Wire) → IsQuiet f → IsBlock w.block open_ → IsKept w v → Received f open_ w v
received_quiet f open_ w v quiet block kept =
    let raise : raise_by 0 f ≡ 0 = quiet.raises in
    let same : v.window ≡ w.window = kept.window in
    let B : Option OpenBlock → Type 0 = λ o. IsBlock v.block o in
    let C : Option Block → Type 0 = λ b. IsBlock b open_ in
    record {
      whole = kept.whole;
      ready = kept.ready ∙ sym (or_none w.ready) ∙ ap (λ (b : Bool). w.ready || b) (sym quiet.settings);
      retiring = kept.retiring ∙ sym (or_none w.retiring) ∙ ap (λ (b : Bool). w.retiring || b) (sym quiet.goaway);
      limit = kept.limit ∙ ap (λ (ss : List Setting). option_or (given 3 ss) w.limit) (sym (no_settings f quiet.settings));
      initial = kept.initial ∙ ap (λ (ss : List Setting). unwrap_or (given 4 ss) w.initial) (sym (no_settings f quiet.settings));
      window = omega (arith, raise, same);
      opened = kept.opened;
      block = subst B (sym (block_kept open_ f quiet.block)) (subst C (sym kept.block) block);
      table = kept.table ∙ ap (state_after w.table) (sym (none_completed open_ f quiet.block));
    }

-- DATA and RST_STREAM
data_keeps : (w : Wire) (f : FrameSeen) (seen : ℕ) (o : Option (ℕ × LiveStream)) → IsKept w (data_reported w f seen o).wire
data_keeps w f seen None = record { whole = refl; ready = refl; retiring = refl; limit = refl; initial = refl; window = refl; opened = refl; block = refl; table = refl }
data_keeps w f seen (Some x) = record { whole = refl; ready = refl; retiring = refl; limit = refl; initial = refl; window = refl; opened = refl; block = refl; table = refl }

reset_keeps : (w : Wire) (code seen : ℕ) (o : Option (ℕ × LiveStream)) → IsKept w (reset_reported w code seen o).wire
reset_keeps w code seen None = itself w
reset_keeps w code seen (Some x) = record { whole = refl; ready = refl; retiring = refl; limit = refl; initial = refl; window = refl; opened = refl; block = refl; table = refl }

window_keeps : (w : Wire) (by seen : ℕ) (o : Option (ℕ × LiveStream)) → IsKept w (window_reported w by seen o).wire
window_keeps w by seen None = itself w
window_keeps w by seen (Some x) = record { whole = refl; ready = refl; retiring = refl; limit = refl; initial = refl; window = refl; opened = refl; block = refl; table = refl }

is_settings_by : (kind flags : ℕ) (ack : Bool) → (kind == settings_type) ≡ true → has_flag flags ack_flag ≡ ack
    → ((kind == settings_type) && not (has_flag flags ack_flag)) ≡ not ack
is_settings_by kind flags ack is e = ap (λ (b : Bool). b && not (has_flag flags ack_flag)) is ∙ ap not e

or_true : (b : Bool) → true ≡ (b || true)
or_true true = refl
or_true false = refl

settings_received : (w : Wire) (f : FrameSeen) (open_ : Option OpenBlock) (live : List LiveStream) → (f.kind == settings_type) ≡ true → IsBlock w.block open_
    → list_any (overflows_streams live) (settings_of f) ≡ false → Received f open_ w (settings_reported w f).wire
settings_received w f open_ live is block fits =
    let e : f.kind ≡ settings_type = eqb-true f.kind settings_type is in
    let goaway : (f.kind == goaway_type) ≡ false = not_kind f.kind settings_type goaway_type false e refl in
    let of_b : is_of_block f ≡ false = of_block f.kind (not_kind f.kind settings_type headers_type false e refl) (not_kind f.kind settings_type continuation_type false e refl) in
    let raise : raise_by 0 f ≡ 0 = no_raise (f.kind == window_update_type) (f.stream == 0) (increment f.payload) (not_kind f.kind settings_type window_update_type false e refl) in
    let B : Option OpenBlock → Type 0 = λ o. IsBlock w.block o in
    let P : Report → Type 0 = λ t. Received f open_ w t.wire in
    on_if P (has_flag f.flags ack_flag) (record { wire = w; news = [] }) _
    (λ ack.
    received_quiet f open_ w w (record {
      settings = is_settings_by f.kind f.flags true is ack;
      goaway = goaway;
      block = of_b;
      raises = raise;
    }) block (itself w))
    (λ no_ack.
    let says : is_settings f ≡ true = is_settings_by f.kind f.flags false is no_ack in
    let given_are : settings_of f ≡ settings_in f.payload = if_true (is_settings f) (settings_in f.payload) [] says in
    let S : List Setting → Type 0 = λ ss. list_any (overflows_streams live) ss ≡ false in
    record {
      whole = refl;
      ready = or_true w.ready ∙ ap (λ (b : Bool). w.ready || b) (sym says);
      retiring = sym (or_none w.retiring) ∙ ap (λ (b : Bool). w.retiring || b) (sym goaway);
      limit = limit_after w.limit w.initial false (settings_in f.payload) ∙ ap (λ (ss : List Setting). option_or (given 3 ss) w.limit) (sym given_are);
      initial = initial_after w.limit w.initial false live (settings_in f.payload) (subst S given_are fits) ∙ ap (λ (ss : List Setting). unwrap_or (given 4 ss) w.initial) (sym given_are);
      window = (omega (arith, raise));
      opened = refl;
      block = subst B (sym (block_kept open_ f of_b)) block;
      table = ap (state_after w.table) (sym (none_completed open_ f of_b));
    })

-- GOAWAY
pub goaway_received : (w : Wire) (f : FrameSeen) (open_ : Option OpenBlock) (seen : ℕ) → (f.kind == goaway_type) ≡ true → IsBlock w.block open_
    → Received f open_ w (goaway_reported w (last_stream f.payload) seen).wire
goaway_received w f open_ seen is block =
    let e : f.kind ≡ goaway_type = eqb-true f.kind goaway_type is in
    let settings : is_settings f ≡ false = of_settings f.kind f.flags (not_kind f.kind goaway_type settings_type false e refl) in
    let of_b : is_of_block f ≡ false = of_block f.kind (not_kind f.kind goaway_type headers_type false e refl) (not_kind f.kind goaway_type continuation_type false e refl) in
    let raise : raise_by 0 f ≡ 0 = no_raise (f.kind == window_update_type) (f.stream == 0) (increment f.payload) (not_kind f.kind goaway_type window_update_type false e refl) in
    let B : Option OpenBlock → Type 0 = λ o. IsBlock w.block o in
    record {
      whole = refl;
      ready = sym (or_none w.ready) ∙ ap (λ (b : Bool). w.ready || b) (sym settings);
      retiring = or_true w.retiring ∙ ap (λ (b : Bool). w.retiring || b) (sym is);
      limit = ap (λ (ss : List Setting). option_or (given 3 ss) w.limit) (sym (no_settings f settings));
      initial = ap (λ (ss : List Setting). unwrap_or (given 4 ss) w.initial) (sym (no_settings f settings));
      window = (omega (arith, raise));
      opened = refl;
      block = subst B (sym (block_kept open_ f of_b)) block;
      table = ap (state_after w.table) (sym (none_completed open_ f of_b));
    }

-- WINDOW_UPDATE
fits_by : (window by : ℕ) → nat_lt 2147483647 (window + by) ≡ false → min (window + by) 4294967295 ≡ window + by
fits_by window by e = grind (arith, nat_tests, e)

both_true : (a b c : Bool) → (a && b && c) ≡ false → a ≡ true → b ≡ true → c ≡ false
both_true true true c e is was = e
both_true false b c e is was = absurd (cc)
both_true true false c e is was = absurd (cc)

raises_by : (a b : Bool) (n : ℕ) → a ≡ true → b ≡ true → (if a && b then n else 0) ≡ n
raises_by true true n e h = refl
raises_by false b n e h = absurd (cc)
raises_by true false n e h = absurd (cc)

pub raises_none : (a b : Bool) (n : ℕ) → b ≡ false → (if a && b then n else 0) ≡ 0
raises_none true false n h = refl
raises_none false false n h = refl
raises_none a true n h = absurd (cc)

update_received : (w : Wire) (f : FrameSeen) (open_ : Option OpenBlock) (seen : ℕ) → (f.kind == window_update_type) ≡ true → IsBlock w.block open_
    → overflows_link w.window f ≡ false → Received f open_ w (update_reported w f seen).wire
update_received w f open_ seen is block fits =
    let e : f.kind ≡ window_update_type = eqb-true f.kind window_update_type is in
    let settings : is_settings f ≡ false = of_settings f.kind f.flags (not_kind f.kind window_update_type settings_type false e refl) in
    let goaway : (f.kind == goaway_type) ≡ false = not_kind f.kind window_update_type goaway_type false e refl in
    let of_b : is_of_block f ≡ false = of_block f.kind (not_kind f.kind window_update_type headers_type false e refl) (not_kind f.kind window_update_type continuation_type false e refl) in
    let B : Option OpenBlock → Type 0 = λ o. IsBlock w.block o in
    let P : Report → Type 0 = λ t. Received f open_ w t.wire in
    on_if P (f.stream == 0) _ (window_reported w (increment f.payload) seen (found_from (is_numbered f.stream) 0 w.live))
    (λ zero_.
    let raise : raise_by 0 f ≡ increment f.payload = raises_by (f.kind == window_update_type) (f.stream == 0) (increment f.payload) is zero_ in
    let within : min (w.window + increment f.payload) 4294967295 ≡ w.window + increment f.payload
    = fits_by w.window (increment f.payload) (both_true (f.kind == window_update_type) (f.stream == 0) (nat_lt 2147483647 (w.window + increment f.payload)) fits is zero_) in
    record {
      whole = refl;
      ready = sym (or_none w.ready) ∙ ap (λ (b : Bool). w.ready || b) (sym settings);
      retiring = sym (or_none w.retiring) ∙ ap (λ (b : Bool). w.retiring || b) (sym goaway);
      limit = ap (λ (ss : List Setting). option_or (given 3 ss) w.limit) (sym (no_settings f settings));
      initial = ap (λ (ss : List Setting). unwrap_or (given 4 ss) w.initial) (sym (no_settings f settings));
      window = within ∙ ap (λ (n : ℕ). w.window + n) (sym raise);
      opened = refl;
      block = subst B (sym (block_kept open_ f of_b)) block;
      table = ap (state_after w.table) (sym (none_completed open_ f of_b));
    })
    (λ stream.
    received_quiet f open_ w _ (record {
      settings = settings;
      goaway = goaway;
      block = of_b;
      raises = raises_none (f.kind == window_update_type) (f.stream == 0) (increment f.payload) stream;
    }) block (window_keeps w (increment f.payload) seen (found_from (is_numbered f.stream) 0 w.live)))

-- PING
ping_keeps : (w : Wire) (f : FrameSeen) → IsKept w (ping_reported w f).wire
ping_keeps w f =
    let P : Report → Type 0 = λ t. IsKept w t.wire in
    on_if P (has_flag f.flags ack_flag) (record { wire = w; news = [] }) (record { wire = record w { queue = queued w.queue (control.PingAck (ping_word f.payload)) }; news = [] }) (λ e. itself w)
    (λ e. record { whole = refl; ready = refl; retiring = refl; limit = refl; initial = refl; window = refl; opened = refl; block = refl; table = refl })

-- any frame without a header block
pub plain_received : (w : Wire) (f : FrameSeen) (open_ : Option OpenBlock) (seen : ℕ) → (f.kind == headers_type) ≡ false → (f.kind == continuation_type) ≡ false
    → IsBlock w.block open_ → overflows_link w.window f ≡ false → list_any (overflows_streams w.live) (settings_of f) ≡ false
    → Received f open_ w (plain_reported w f seen).wire
plain_received w f open_ seen no_headers no_continuation block fits wide =
    let at : Option (ℕ × LiveStream) = found_from (is_numbered f.stream) 0 w.live in
    let P : Report → Type 0 = λ t. Received f open_ w t.wire in
    on_if P (f.kind == data_type) (data_reported w f seen at) _
    (λ e. received_quiet f open_ w _ (quiet_kind f data_type e refl refl refl refl refl) block (data_keeps w f seen at))
    (λ no_data.
    on_if P (f.kind == rst_stream_type) (reset_reported w (reset_code f.payload) seen at) _
    (λ e. received_quiet f open_ w _ (quiet_kind f rst_stream_type e refl refl refl refl refl) block (reset_keeps w (reset_code f.payload) seen at))
    (λ no_reset.
    on_if P (f.kind == settings_type) (settings_reported w f) _ (λ e. settings_received w f open_ w.live e block wide)
    (λ no_settings_.
    on_if P (f.kind == ping_type) (ping_reported w f) _
    (λ e. received_quiet f open_ w _ (quiet_kind f ping_type e refl refl refl refl refl) block (ping_keeps w f))
    (λ no_ping.
    on_if P (f.kind == goaway_type) (goaway_reported w (last_stream f.payload) seen) _ (λ e. goaway_received w f open_ seen e block)
    (λ no_goaway.
    on_if P (f.kind == window_update_type) (update_reported w f seen) (record { wire = w; news = [] })
    (λ e. update_received w f open_ seen e block fits)
    (λ no_update. received_quiet f open_ w w (quiet_by f no_settings_ no_goaway no_headers no_continuation no_update) block (itself w)))))))
