-- A frame that is of no attempt's stream changes no stream, and makes the same owed in both.
use Rattle.std.proofs.Common.{◌≡◌, ◌∷◌, ◌++◌, ◌||◌, ◌&&◌, ◌==◌, not, ap, refl, subst, sym, ◌∙◌, Bool, true, false, List, [], Option, None, Some, Ok, Err, Result, IfOk, ℕ, ◌+◌, append-nil, if◌then◌else◌, length, nat_le}
use Rattle.std.specs.List.{list_any}
use Rattle.std.proofs.lemmas.Bool.{eqb-true}
use Rattle.grpc_base.specs.declared.fields.Field.{Field}
use Rattle.h2_frame.specs.Frames.{FrameSeen, has_flag}
use Rattle.h2_frame.specs.Numbers.{ack_flag, continuation_type, data_type, end_headers_flag, goaway_type, headers_type, ping_type, rst_stream_type, settings_type, window_update_type}
use Rattle.h2_frame.specs.Payloads.{increment, last_stream, ping_word, reset_code, settings_in}
use Rattle.h2_frame.specs.declared.payload.Setting.{Setting}
use Rattle.h2_hpack.specs.Blocks as hpack
use Rattle.h2_hpack.specs.Blocks.{decoded, fields_in, table_in}
use Rattle.h2_hpack.specs.declared.fault.HpackFault.{HpackFault}
use Rattle.h2_link.specs.LinkErrors.{is_long}
use Rattle.h2_link.specs.LinkErrors as link
use Rattle.h2_link.specs.Queues.{queued}
use Rattle.h2_link.specs.Settings.{with_settings}
use Rattle.h2_link.specs.Steps.{applied, block_held, block_read, continuation_reported, data_reported, found_from, goaway_reported, headers_reported, is_numbered, list_read, listed, opened_by, ping_reported, plain_reported, reset_reported, settings_reported, update_reported, window_reported}
use Rattle.h2_link.specs.Wire.{Block, Report, Wire, largest_window}
use Rattle.h2_link.specs.declared.control.Control.{Control}
use Rattle.h2_link.specs.declared.control.Control.TheVariants as control
use Rattle.h2_link.specs.declared.live.LiveStream.{LiveStream}
use Rattle.link_actions.proofs.Lists.{both_if, if_false, if_true, none_of, on_if}

-- what a frame of no attempt's stream makes owed
abbrev pub names_one : FrameSeen → Bool
names_one f = list_any (λ (x : Setting). x.identifier == 1) (settings_in f.payload)

abbrev pub owed_controls : FrameSeen → List Control
owed_controls f =
    if f.kind == data_type then (if length f.payload == 0 then [] else control.LinkUpdate (length f.payload) ∷ [])
    else if f.kind == settings_type then (if has_flag f.flags ack_flag then [] else control.SettingsAck (names_one f) ∷ [])
    else if f.kind == ping_type then (if has_flag f.flags ack_flag then [] else control.PingAck (ping_word f.payload) ∷ [])
    else []

pub record IsUntouched (cs : List Control) (w v : Wire) : Type 0 where
  pub live : v.live ≡ w.live
  pub waiting : v.waiting ≡ w.waiting
  pub opened : v.opened ≡ w.opened
  pub resizes : v.resizes ≡ w.resizes
  pub queue : v.queue.items ≡ w.queue.items ++ cs

untouched : (w : Wire) → IsUntouched [] w w
untouched w = record { live = refl; waiting = refl; opened = refl; resizes = refl; queue = sym (append-nil w.queue.items) }

none_owed : (f : FrameSeen) → (f.kind == data_type) ≡ false → (f.kind == settings_type) ≡ false → (f.kind == ping_type) ≡ false → owed_controls f ≡ []
none_owed f data_ settings_ ping_ =
    if_false (f.kind == data_type) _ _ data_ ∙ if_false (f.kind == settings_type) _ _ settings_ ∙ if_false (f.kind == ping_type) _ _ ping_

not_kind : (kind n m : ℕ) → (kind == n) ≡ true → (n == m) ≡ false → (kind == m) ≡ false
not_kind kind n m e is = ap (λ (k : ℕ). k == m) (eqb-true kind n e) ∙ is

none_of_kind : (f : FrameSeen) (n : ℕ) → (f.kind == n) ≡ true → (n == data_type) ≡ false → (n == settings_type) ≡ false → (n == ping_type) ≡ false → owed_controls f ≡ []
none_of_kind f n e data_ settings_ ping_ =
    none_owed f (not_kind f.kind n data_type e data_) (not_kind f.kind n settings_type e settings_) (not_kind f.kind n ping_type e ping_)

abbrev Leaves : FrameSeen → Wire → Result Report ℕ → Type 0
Leaves f w r = IfOk r (λ t. IsUntouched (owed_controls f) w t.wire)

as_none : (f : FrameSeen) (w v : Wire) → owed_controls f ≡ [] → IsUntouched [] w v → IsUntouched (owed_controls f) w v
as_none f w v e is = subst (λ (cs : List Control). IsUntouched cs w v) (sym e) is

-- no stream is found
pub none_found : (n place : ℕ) (live : List LiveStream) → list_any (λ (x : LiveStream). x.number == n) live ≡ false → found_from (is_numbered n) place live ≡ None
none_found n place [] e = refl
none_found n place (x ∷ live) e =
    let parts = none_of (x.number == n) (list_any (λ (y : LiveStream). y.number == n) live) e in
    if_false (x.number == n) (Some (place, x)) (found_from (is_numbered n) (place + 1) live) parts.0 ∙ none_found n (place + 1) live parts.1

-- header blocks
list_leaves : (f : FrameSeen) (w v : Wire) (block : Block) (seen : ℕ) (table : hpack.State) (r : Result (List Field) HpackFault) → owed_controls f ≡ []
    → found_from (is_numbered block.number) 0 v.live ≡ None → IsUntouched [] w v → Leaves f w (list_read v block seen table r)
list_leaves f w v block seen table (Err e) none found is = tt
list_leaves f w v block seen table (Ok fields) none found is =
    on_if (Leaves f w) (is_long block.bytes) (Err _) (Ok (listed (record v { table = table }) fields block.ends seen (found_from (is_numbered block.number) 0 v.live))) (λ e. tt)
    (λ e.
    subst (λ o. IsUntouched (owed_controls f) w (listed (record v { table = table }) fields block.ends seen o).wire) (sym found)
    (as_none f w (record v { table = table }) none (record { live = is.live; waiting = is.waiting; opened = is.opened; resizes = is.resizes; queue = is.queue })))

held_leaves : (f : FrameSeen) (w v : Wire) (block : Block) → owed_controls f ≡ [] → IsUntouched [] w v → Leaves f w (block_held v block)
held_leaves f w v block none is =
    on_if (Leaves f w) (is_long block.bytes) (Err _) (Ok (record { wire = record v { block = Some block }; news = [] })) (λ e. tt)
    (λ e. as_none f w (record v { block = Some block }) none (record { live = is.live; waiting = is.waiting; opened = is.opened; resizes = is.resizes; queue = is.queue }))

part_leaves : (f : FrameSeen) (w v : Wire) (block : Block) (seen : ℕ) → owed_controls f ≡ [] → found_from (is_numbered block.number) 0 v.live ≡ None → IsUntouched [] w v
    → Leaves f w (if has_flag f.flags end_headers_flag then block_read v block seen else block_held v block)
part_leaves f w v block seen none found is =
    on_if (Leaves f w) (has_flag f.flags end_headers_flag) (block_read v block seen) (block_held v block)
    (λ e. list_leaves f w v block seen (table_in (decoded v.table block.bytes)) (fields_in (decoded v.table block.bytes)) none found is)
    (λ e. held_leaves f w v block none is)

headers_leave : (f : FrameSeen) (w : Wire) (seen : ℕ) → (f.kind == headers_type) ≡ true → found_from (is_numbered f.stream) 0 w.live ≡ None → Leaves f w (headers_reported w f seen)
headers_leave f w seen is found = part_leaves f w w (opened_by f) seen (none_of_kind f headers_type is refl refl refl) found (untouched w)

placed_if : (a b : Bool) → a ≡ true → not (a && b) ≡ false → b ≡ true
placed_if true true e h = refl
placed_if true false e h = absurd (cc)
placed_if false b e h = absurd (cc)

placed_by : (f : FrameSeen) (b : Block) → (f.kind == continuation_type) ≡ true → link.is_misplaced (Some b) f ≡ false → f.stream ≡ b.number
placed_by f b is placed = eqb-true f.stream b.number (placed_if (f.kind == continuation_type) (f.stream == b.number) is placed)

continuation_leaves : (f : FrameSeen) (w : Wire) (seen : ℕ) (o : Option Block) → (f.kind == continuation_type) ≡ true → link.is_misplaced o f ≡ false
    → found_from (is_numbered f.stream) 0 w.live ≡ None → Leaves f w (continuation_reported w f seen o)
continuation_leaves f w seen None is placed found = as_none f w w (none_of_kind f continuation_type is refl refl refl) (untouched w)
continuation_leaves f w seen (Some b) is placed found =
    part_leaves f w (record w { block = None }) (record b { bytes = b.bytes ++ f.payload }) seen (none_of_kind f continuation_type is refl refl refl)
    (ap (λ (n : ℕ). found_from (is_numbered n) 0 w.live) (sym (placed_by f b is placed)) ∙ found)
    (record { live = refl; waiting = refl; opened = refl; resizes = refl; queue = sym (append-nil w.queue.items) })

-- the other frames
data_leaves : (f : FrameSeen) (w : Wire) (seen : ℕ) → (f.kind == data_type) ≡ true → IsUntouched (owed_controls f) w (data_reported w f seen None).wire
data_leaves f w seen is =
    let owed_is : owed_controls f ≡ (if length f.payload == 0 then [] else control.LinkUpdate (length f.payload) ∷ []) = if_true (f.kind == data_type) _ _ is in
    subst (λ (cs : List Control). IsUntouched cs w (data_reported w f seen None).wire) (sym owed_is)
    (both_if (λ (cs : List Control) q. IsUntouched cs w (record w { queue = q })) (length f.payload == 0) [] (control.LinkUpdate (length f.payload) ∷ []) w.queue
    (queued w.queue (control.LinkUpdate (length f.payload))) (λ e. untouched w)
    (λ e. record { live = refl; waiting = refl; opened = refl; resizes = refl; queue = refl }))

named_by : (a b c : Bool) → ((if a then true else b) || c) ≡ (b || (a || c))
named_by true true c = refl
named_by true false c = refl
named_by false true c = refl
named_by false false c = refl

named : (limit : Option ℕ) (initial : ℕ) (b : Bool) (ss : List Setting)
    → (with_settings (record { limit = limit; initial = initial; resizes = b }) ss).resizes ≡ (b || list_any (λ (x : Setting). x.identifier == 1) ss)
named limit initial true [] = refl
named limit initial false [] = refl
named limit initial b (x ∷ ss) =
    named (if x.identifier == 3 then Some x.value else limit) (if (x.identifier == 4) && nat_le x.value largest_window then x.value else initial)
    (if x.identifier == 1 then true else b) ss
    ∙ named_by (x.identifier == 1) b (list_any (λ (y : Setting). y.identifier == 1) ss)

settings_leave : (f : FrameSeen) (w : Wire) → (f.kind == settings_type) ≡ true → IsUntouched (owed_controls f) w (settings_reported w f).wire
settings_leave f w is =
    let owed_is : owed_controls f ≡ (if has_flag f.flags ack_flag then [] else control.SettingsAck (names_one f) ∷ [])
    = if_false (f.kind == data_type) _ _ (not_kind f.kind settings_type data_type is refl) ∙ if_true (f.kind == settings_type) _ _ is in
    let same : (with_settings (record { limit = w.limit; initial = w.initial; resizes = false }) (settings_in f.payload)).resizes ≡ names_one f
    = named w.limit w.initial false (settings_in f.payload) in
    subst (λ (cs : List Control). IsUntouched cs w (settings_reported w f).wire) (sym owed_is)
    (both_if (λ (cs : List Control) (t : Report). IsUntouched cs w t.wire) (has_flag f.flags ack_flag) [] (control.SettingsAck (names_one f) ∷ []) (record { wire = w; news = [] }) _
    (λ e. untouched w)
    (λ e. record { live = refl; waiting = refl; opened = refl; resizes = refl; queue = ap (λ (b : Bool). w.queue.items ++ control.SettingsAck b ∷ []) same }))

ping_leaves : (f : FrameSeen) (w : Wire) → (f.kind == ping_type) ≡ true → IsUntouched (owed_controls f) w (ping_reported w f).wire
ping_leaves f w is =
    let owed_is : owed_controls f ≡ (if has_flag f.flags ack_flag then [] else control.PingAck (ping_word f.payload) ∷ [])
    = if_false (f.kind == data_type) _ _ (not_kind f.kind ping_type data_type is refl) ∙ if_false (f.kind == settings_type) _ _ (not_kind f.kind ping_type settings_type is refl)
    ∙ if_true (f.kind == ping_type) _ _ is in
    subst (λ (cs : List Control). IsUntouched cs w (ping_reported w f).wire) (sym owed_is)
    (both_if (λ (cs : List Control) (t : Report). IsUntouched cs w t.wire) (has_flag f.flags ack_flag) [] (control.PingAck (ping_word f.payload) ∷ []) (record { wire = w; news = [] }) _
    (λ e. untouched w)
    (λ e. record { live = refl; waiting = refl; opened = refl; resizes = refl; queue = refl }))

update_leaves : (f : FrameSeen) (w : Wire) (seen : ℕ) → (f.kind == window_update_type) ≡ true → found_from (is_numbered f.stream) 0 w.live ≡ None
    → IsUntouched (owed_controls f) w (update_reported w f seen).wire
update_leaves f w seen is found =
    let none : owed_controls f ≡ [] = none_of_kind f window_update_type is refl refl refl in
    on_if (λ (t : Report). IsUntouched (owed_controls f) w t.wire) (f.stream == 0) _ (window_reported w (increment f.payload) seen (found_from (is_numbered f.stream) 0 w.live))
    (λ e. as_none f w _ none (record { live = refl; waiting = refl; opened = refl; resizes = refl; queue = sym (append-nil w.queue.items) }))
    (λ e. subst (λ o. IsUntouched (owed_controls f) w (window_reported w (increment f.payload) seen o).wire) (sym found) (as_none f w w none (untouched w)))

plain_leaves : (f : FrameSeen) (w : Wire) (seen : ℕ) → (f.kind == goaway_type) ≡ false → found_from (is_numbered f.stream) 0 w.live ≡ None
    → IsUntouched (owed_controls f) w (plain_reported w f seen).wire
plain_leaves f w seen no_goaway found =
    let at : Option (ℕ × LiveStream) = found_from (is_numbered f.stream) 0 w.live in
    let P : Report → Type 0 = λ t. IsUntouched (owed_controls f) w t.wire in
    on_if P (f.kind == data_type) (data_reported w f seen at) _
    (λ e. subst (λ o. P (data_reported w f seen o)) (sym found) (data_leaves f w seen e))
    (λ no_data.
    on_if P (f.kind == rst_stream_type) (reset_reported w (reset_code f.payload) seen at) _
    (λ e. subst (λ o. P (reset_reported w (reset_code f.payload) seen o)) (sym found) (as_none f w w (none_of_kind f rst_stream_type e refl refl refl) (untouched w)))
    (λ no_reset.
    on_if P (f.kind == settings_type) (settings_reported w f) _ (λ e. settings_leave f w e)
    (λ no_settings_.
    on_if P (f.kind == ping_type) (ping_reported w f) _ (λ e. ping_leaves f w e)
    (λ no_ping.
    on_if P (f.kind == goaway_type) (goaway_reported w (last_stream f.payload) seen) _ (λ e. absurd (let never : ⊥ = (cc) in never))
    (λ none_.
    on_if P (f.kind == window_update_type) (update_reported w f seen) (record { wire = w; news = [] }) (λ e. update_leaves f w seen e found)
    (λ no_update. as_none f w w (none_owed f no_data no_settings_ no_ping) (untouched w)))))))

pub applied_leaves : (f : FrameSeen) (w : Wire) (seen : ℕ) → (f.kind == goaway_type) ≡ false → list_any (λ (x : LiveStream). x.number == f.stream) w.live ≡ false
    → link.is_misplaced w.block f ≡ false → Leaves f w (applied w f seen)
applied_leaves f w seen no_goaway apart placed =
    let found : found_from (is_numbered f.stream) 0 w.live ≡ None = none_found f.stream 0 w.live apart in
    on_if (Leaves f w) (f.kind == headers_type) (headers_reported w f seen) _ (λ e. headers_leave f w seen e found)
    (λ no_headers.
    on_if (Leaves f w) (f.kind == continuation_type) (continuation_reported w f seen w.block) (Ok (plain_reported w f seen))
    (λ e. continuation_leaves f w seen w.block e placed found) (λ no_continuation. plain_leaves f w seen no_goaway found))
