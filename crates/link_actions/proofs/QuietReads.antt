-- After a frame that is of no attempt's stream a link and its session still agree.
use Rattle.std.proofs.Common.{◌≡◌, ◌∷◌, ◌||◌, ◌&&◌, ◌==◌, not, ap, arith, refl, sym, ◌∙◌, Bool, true, false, List, [], Option, None, Some, ℕ, filter_map, if◌then◌else◌, is_some, length, map}
use Rattle.std.specs.List.{list_any}
use Rattle.std.proofs.lemmas.Bool.Decides.{nat_tests}
use Rattle.h2_frame.specs.Frames.{FrameSeen, has_flag}
use Rattle.h2_frame.specs.Numbers.{ack_flag, data_type, end_stream_flag, ping_type, settings_type}
use Rattle.h2_frame.specs.Payloads.{ping_word, settings_in}
use Rattle.h2_frame.specs.Sent.{ping_ack, settings_ack, window_update_frame}
use Rattle.h2_frame.specs.declared.payload.Setting.{Setting}
use Rattle.h2_link.specs.Drains.{AFrame, outgoing}
use Rattle.h2_link.specs.declared.control.Control.{Control}
use Rattle.h2_link.specs.declared.control.Control.TheVariants as control
use Rattle.h2_link.specs.declared.live.LiveStream.{LiveStream}
use Rattle.link_actions.proofs.Lists.{any_kept, if_true, none_of}
use Rattle.link_actions.proofs.Quiet.{names_one, owed_controls}
use Rattle.link_actions.proofs.Streams.{any_by_stream}
use Rattle.link_actions.specs.Sees.{StreamsAreLive, by_stream, named_in}
use Rattle.session_actions.specs.Links.{is_settings, settings_of}
use Rattle.session_actions.specs.Reading.{is_setting, outstanding_on}
use Rattle.session_actions.specs.Words.{is_number}
use Rattle.session_actions.specs.Writing.{is_going_on, owed_for, streaming_on, updates_for}
use Rattle.session_actions.specs.declared.attempt.Attempt.{Attempt}
use Rattle.session_actions.specs.declared.link.Link.{Link}
use Rattle.session_actions.specs.declared.seen.Seen.{Seen}

-- no attempt has the stream of a frame that no stream of the link has
any_live : (l : Link) (n : ℕ) (xs : List LiveStream) (others : List Attempt) → StreamsAreLive l xs others
    → list_any (λ (a : Attempt). is_number n a.row.stream) others ≡ list_any (λ (x : LiveStream). x.number == n) xs
any_live l n [] [] are = refl
any_live l n (x ∷ xs) (a ∷ others) are =
    ap (λ (o : Option ℕ). is_number n o || list_any (λ (b : Attempt). is_number n b.row.stream) others) are.0.stream
    ∙ ap (λ (b : Bool). (x.number == n) || b) (any_live l n xs others are.1)
any_live l n [] (a ∷ others) are = absurd are
any_live l n (x ∷ xs) [] are = absurd are

no_number : (n : ℕ) (o : Option ℕ) → is_some o ≡ false → is_number n o ≡ false
no_number n None e = refl
no_number n (Some m) e = absurd (cc)

pub none_going : (f : FrameSeen) (l : Link) (s : Seen) (xs : List LiveStream) → StreamsAreLive l xs (by_stream (streaming_on l s)) → list_any (λ (x : LiveStream). x.number == f.stream) xs ≡ false
    → list_any (λ (a : Attempt). is_number f.stream a.row.stream) (outstanding_on l s) ≡ false
none_going f l s xs are e =
    any_kept (λ (a : Attempt). is_number f.stream a.row.stream) (λ (a : Attempt). is_some a.row.stream) (λ (a : Attempt) e. no_number f.stream a.row.stream e) (outstanding_on l s)
    ∙ sym (any_by_stream (λ (a : Attempt). is_number f.stream a.row.stream) (streaming_on l s)) ∙ any_live l f.stream xs (by_stream (streaming_on l s)) are ∙ e

going_by : (a b : Bool) → a ≡ false → (a && b) ≡ false
going_by false b e = refl
going_by true b e = absurd (cc)

pub none_goes : (f : FrameSeen) (s : Seen) (xs : List Attempt) → list_any (λ (a : Attempt). is_number f.stream a.row.stream) xs ≡ false → list_any (is_going_on f.stream s) xs ≡ false
none_goes f s [] e = refl
none_goes f s (a ∷ xs) e =
    let parts = none_of (is_number f.stream a.row.stream) (list_any (λ (b : Attempt). is_number f.stream b.row.stream) xs) e in
    ap (λ (b : Bool). b || list_any (is_going_on f.stream s) xs) (going_by (is_number f.stream a.row.stream) _ parts.0) ∙ none_goes f s xs parts.1

-- what becomes owed
empty_by : (b : Bool) (n : ℕ) → map outgoing (if b then [] else control.LinkUpdate n ∷ []) ≡ map (λ h. AFrame h) (if b then [] else window_update_frame 0 n ∷ [])
empty_by true n = refl
empty_by false n = refl

abbrev n_update : ℕ → FrameSeen
n_update n = window_update_frame 0 n

no_update : (b x : Bool) (n : ℕ) (k : FrameSeen) (going : Bool) → going ≡ false → (if b then [] else n_update n ∷ (if going && x then k ∷ [] else [])) ≡ (if b then [] else n_update n ∷ [])
no_update true x n k going e = refl
no_update false x n k going e = ap (λ (c : Bool). n_update n ∷ (if c && x then k ∷ [] else [])) e

abbrev owed_if : Bool → Bool → Bool → Bool → FrameSeen → Link → Seen → List FrameSeen
owed_if d e p ack f l s =
    if e && not ack then settings_ack ∷ [] else if p && not ack then ping_ack (ping_word f.payload) ∷ [] else if d then updates_for f l s else []

abbrev controls_if : Bool → Bool → Bool → Bool → FrameSeen → List Control
controls_if d e p ack f =
    if d then (if length f.payload == 0 then [] else control.LinkUpdate (length f.payload) ∷ [])
    else if e then (if ack then [] else control.SettingsAck (names_one f) ∷ [])
    else if p then (if ack then [] else control.PingAck (ping_word f.payload) ∷ []) else []

-- a frame is of one type
pub record IsOneKind (d e p : Bool) : Type 0 where
  pub data_settings : (d && e) ≡ false
  pub data_ping : (d && p) ≡ false
  pub settings_ping : (e && p) ≡ false

one_kind : (k : ℕ) → IsOneKind (k == data_type) (k == settings_type) (k == ping_type)
one_kind k = record { data_settings = grind (arith, nat_tests); data_ping = grind (arith, nat_tests); settings_ping = grind (arith, nat_tests) }

updates_same : (f : FrameSeen) (l : Link) (s : Seen) → list_any (is_going_on f.stream s) (outstanding_on l s) ≡ false
    → updates_for f l s ≡ (if length f.payload == 0 then [] else n_update (length f.payload) ∷ [])
updates_same f l s none =
    no_update (length f.payload == 0) (not (has_flag f.flags end_stream_flag)) (length f.payload) (window_update_frame f.stream (length f.payload))
    (list_any (is_going_on f.stream s) (outstanding_on l s)) none

owed_by : (d e p ack : Bool) (f : FrameSeen) (l : Link) (s : Seen) → IsOneKind d e p → list_any (is_going_on f.stream s) (outstanding_on l s) ≡ false
    → map outgoing (controls_if d e p ack f) ≡ map (λ h. AFrame h) (owed_if d e p ack f l s)
owed_by true true p ack f l s one none = absurd (let both : true ≡ false = one.data_settings in (let never : ⊥ = (cc) in never))
owed_by true false true ack f l s one none = absurd (let both : true ≡ false = one.data_ping in (let never : ⊥ = (cc) in never))
owed_by true false false ack f l s one none = empty_by (length f.payload == 0) (length f.payload) ∙ ap (map (λ h. AFrame h)) (sym (updates_same f l s none))
owed_by false true true ack f l s one none = absurd (let both : true ≡ false = one.settings_ping in (let never : ⊥ = (cc) in never))
owed_by false true false true f l s one none = refl
owed_by false true false false f l s one none = refl
owed_by false false true true f l s one none = refl
owed_by false false true false f l s one none = refl
owed_by false false false ack f l s one none = refl

pub same_owed : (f : FrameSeen) (l : Link) (s : Seen) → list_any (is_going_on f.stream s) (outstanding_on l s) ≡ false
    → map outgoing (owed_controls f) ≡ map (λ h. AFrame h) (owed_for f l s)
same_owed f l s none = owed_by (f.kind == data_type) (f.kind == settings_type) (f.kind == ping_type) (has_flag f.flags ack_flag) f l s (one_kind f.kind) none

-- and the names of SETTINGS
abbrev named_by : FrameSeen → List Bool
named_by f = if is_settings f then list_any (is_setting 1) (settings_of f) ∷ [] else []

no_names : (b : Bool) (n : ℕ) → filter_map named_in (if b then [] else control.LinkUpdate n ∷ []) ≡ []
no_names true n = refl
no_names false n = refl

names_if : (d e p ack : Bool) (f : FrameSeen) → IsOneKind d e p → filter_map named_in (controls_if d e p ack f) ≡ (if e && not ack then names_one f ∷ [] else [])
names_if true true p ack f one = absurd (let both : true ≡ false = one.data_settings in (let never : ⊥ = (cc) in never))
names_if true false p ack f one = no_names (length f.payload == 0) (length f.payload)
names_if false true true ack f one = absurd (let both : true ≡ false = one.settings_ping in (let never : ⊥ = (cc) in never))
names_if false true false true f one = refl
names_if false true false false f one = refl
names_if false false true true f one = refl
names_if false false true false f one = refl
names_if false false false ack f one = refl

settings_named : (f : FrameSeen) (b : Bool) → is_settings f ≡ b → (if b then names_one f ∷ [] else []) ≡ (if b then list_any (is_setting 1) (settings_of f) ∷ [] else [])
settings_named f true e = ap (λ (ss : List Setting). list_any (is_setting 1) ss ∷ []) (sym (if_true (is_settings f) (settings_in f.payload) [] e))
settings_named f false e = refl

pub same_names : (f : FrameSeen) → filter_map named_in (owed_controls f) ≡ named_by f
same_names f = names_if (f.kind == data_type) (f.kind == settings_type) (f.kind == ping_type) (has_flag f.flags ack_flag) f (one_kind f.kind) ∙ settings_named f (is_settings f) refl
