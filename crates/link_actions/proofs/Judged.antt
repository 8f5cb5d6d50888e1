-- A frame that breaks a rule of the link breaks it in both.
use Rattle.std.proofs.Common.{◌≡◌, ◌∷◌, ◌||◌, ◌&&◌, ◌==◌, not, ap, refl, sym, ◌∙◌, Bool, true, false, List, [], Option, None, Some, ℕ, ◌+◌, arith, if◌then◌else◌, length, nat_le, nat_lt}
use Rattle.std.specs.List.{list_any}
use Rattle.std.proofs.lemmas.Bool.{eqb-true}
use Rattle.std.proofs.lemmas.Bool.Decides.{nat_tests}
use Rattle.lb_policy.specs.Table.{is_one_of}
use Rattle.h2_frame.specs.Frames.{FrameSeen, fields_size, has_flag, is_allowed}
use Rattle.h2_frame.specs.Numbers.{ack_flag, continuation_type, push_promise_type, settings_type, window_update_type}
use Rattle.h2_frame.specs.Payloads.{increment, settings_in}
use Rattle.h2_frame.specs.declared.payload.Setting.{Setting}
use Rattle.grpc_base.specs.ErrorCodes.{flow_control_error, protocol_error}
use Rattle.h2_link.specs.LinkErrors as link
use Rattle.h2_link.specs.LinkErrors.{is_bad_setting, overflows_link, overflows_streams}
use Rattle.h2_link.specs.Wire.{Block, Wire}
use Rattle.link_actions.proofs.Lists.{any_agree}
use Rattle.link_actions.proofs.Streams.{lifting_same, opened_are_odd}
use Rattle.link_actions.specs.Laws.{FramesAreJudged}
use Rattle.link_actions.specs.Sees.{IsBlock, Sees, odds}
use Rattle.session_actions.specs.Links.{is_settings, settings_of}
use Rattle.session_actions.specs.Reading.{is_misplaced, is_of_opened, is_unopened, is_wide_setting, largest_window, lifts_link, open_block, opened_streams, raised, used}
use Rattle.session_actions.specs.declared.link.Link.{Link}
use Rattle.session_actions.specs.declared.link.OpenBlock.{OpenBlock}
use Rattle.session_actions.specs.declared.seen.Seen.{Seen}

last_part : (a b c : Bool) → (a && (b && c)) ≡ true → c ≡ true
last_part true true true e = refl
last_part true true false e = absurd (cc)
last_part true false c e = absurd (cc)
last_part false b c e = absurd (cc)

none_long : {X : Type 0} (xs : List X) → length xs ≡ 0 → xs ≡ []
none_long [] e = refl
none_long (x ∷ xs) e = absurd (let never : ⊥ = omega (arith, e) in never)

no_payload : (payload : List ℕ) → (length payload == 0) ≡ true → payload ≡ []
no_payload payload e = none_long payload (eqb-true (length payload) 0 e)

settings_by : (kind flags : ℕ) (payload : List ℕ) (b ack : Bool) → (kind == settings_type) ≡ b → has_flag flags ack_flag ≡ ack
    → (if b then not ack || (length payload == 0) else nat_le (fields_size kind flags) (length payload)) ≡ true
    → (if b && not ack then settings_in payload else []) ≡ (if b then settings_in payload else [])
settings_by kind flags payload true false is was fits = refl
settings_by kind flags payload true true is was fits = ap settings_in (sym (no_payload payload fits))
settings_by kind flags payload false ack is was fits = refl

pub settings_same : (f : FrameSeen) → is_allowed f ≡ true → settings_of f ≡ link.settings_of f
settings_same f allowed =
    settings_by f.kind f.flags f.payload (f.kind == settings_type) (has_flag f.flags ack_flag) refl refl
    (last_part _ _ _ allowed)

-- a header block that is begun
misplaced_by : (f : FrameSeen) (b : Option Block) (o : Option OpenBlock) → IsBlock b o → link.is_misplaced b f ≡ is_misplaced o f
misplaced_by f None None is = refl
misplaced_by f (Some b) (Some o) is = ap (λ (n : ℕ). not ((f.kind == continuation_type) && (f.stream == n))) is.0
misplaced_by f None (Some o) is = absurd is
misplaced_by f (Some b) None is = absurd is

-- a stream that was opened
unopened_same : (l : Link) (w : Wire) (f : FrameSeen) → opened_streams l ≡ odds w.opened → is_unopened l f ≡ link.is_unopened w.opened f
unopened_same l w f e =
    ap (λ (ns : List ℕ). is_of_opened f.kind && not (f.stream == 0) && not (is_one_of ns f.stream)) e
    ∙ ap (λ (b : Bool). is_of_opened f.kind && not (f.stream == 0) && not b) (opened_are_odd w.opened f.stream)

-- the window of the link
lifts_by : (window used raised by : ℕ) → window + used ≡ 65535 + raised
    → nat_lt (2147483647 + used) (65535 + raised + by) ≡ nat_lt 2147483647 (window + by)
lifts_by window used raised by e = grind (arith, nat_tests, e)

lifts_same : (l : Link) (w : Wire) (f : FrameSeen) → w.window + used 0 l ≡ 65535 + raised 0 l → lifts_link l f ≡ overflows_link w.window f
lifts_same l w f e =
    ap (λ (b : Bool). (f.kind == window_update_type) && (f.stream == 0) && b) (lifts_by w.window (used 0 l) (raised 0 l) (increment f.payload) e)

wide_same : (l : Link) (s : Seen) (w : Wire) → Sees l s w → (x : Setting) → is_wide_setting l s x ≡ overflows_streams w.live x
wide_same l s w sees x =
    ap (λ (b : Bool). (x.identifier == 4) && (nat_lt largest_window x.value || b)) (lifting_same l s x.value w.live sees.live)

-- the first rule that is broken
abbrev pub first_error : Bool → Bool → Bool → Bool → Bool → Bool → Bool → Option ℕ
first_error early push bad misplaced unopened lifts wide =
    if early then Some protocol_error
    else if push then Some protocol_error
    else if bad then Some protocol_error
    else if misplaced then Some protocol_error
    else if unopened then Some protocol_error
    else if lifts then Some flow_control_error
    else if wide then Some flow_control_error
    else None

pub frames_are_judged : FramesAreJudged
frames_are_judged l s w f sees allowed =
    let early : Bool = not w.ready && not (is_settings f) in
    let push : Bool = f.kind == push_promise_type in
    let bad : Bool = list_any is_bad_setting (link.settings_of f) in
    let misplaced : Bool = link.is_misplaced w.block f in
    let unopened : Bool = link.is_unopened w.opened f in
    let lifts : Bool = overflows_link w.window f in
    let ss : List Setting = settings_of f in
    ap (λ (b : Bool). first_error (not b && not (is_settings f)) push (list_any is_bad_setting ss) (is_misplaced (open_block l) f) (is_unopened l f) (lifts_link l f) (list_any (is_wide_setting l s) ss)) (sym sees.reads.ready)
    ∙ ap (λ (b : Bool). first_error early push (list_any is_bad_setting ss) b (is_unopened l f) (lifts_link l f) (list_any (is_wide_setting l s) ss)) (sym (misplaced_by f w.block (open_block l) sees.reads.block))
    ∙ ap (λ (b : Bool). first_error early push (list_any is_bad_setting ss) misplaced b (lifts_link l f) (list_any (is_wide_setting l s) ss)) (unopened_same l w f sees.reads.opened)
    ∙ ap (λ (b : Bool). first_error early push (list_any is_bad_setting ss) misplaced unopened b (list_any (is_wide_setting l s) ss)) (lifts_same l w f sees.reads.window)
    ∙ ap (λ (b : Bool). first_error early push (list_any is_bad_setting ss) misplaced unopened lifts b) (any_agree (is_wide_setting l s) (overflows_streams w.live) (wide_same l s w sees) ss)
    ∙ ap (λ (xs : List Setting). first_error early push (list_any is_bad_setting xs) misplaced unopened lifts (list_any (overflows_streams w.live) xs)) (settings_same f allowed)
