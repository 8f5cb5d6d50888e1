-- What the settings of a frame leave.
use Rattle.std.proofs.Common.{◌≡◌, ◌∷◌, ◌||◌, ◌&&◌, ◌==◌, ap, refl, ◌∙◌, Bool, true, false, List, [], Option, None, Some, ℕ, arith, if◌then◌else◌, nat_le, nat_lt}
use Rattle.std.specs.List.{list_any}
use Rattle.std.proofs.lemmas.Bool.Decides.{nat_tests}
use Rattle.std.specs.Option.{option_map, option_or, unwrap_or}
use Rattle.h2_frame.specs.declared.payload.Setting.{Setting}
use Rattle.h2_link.specs.LinkErrors.{overflows_streams}
use Rattle.h2_link.specs.Settings.{with_settings}
use Rattle.h2_link.specs.Wire.{largest_window}
use Rattle.h2_link.specs.declared.live.LiveStream.{LiveStream}
use Rattle.link_actions.proofs.History.{given}
use Rattle.link_actions.proofs.Lists.{none_of}
use Rattle.session_actions.specs.Reading.{is_setting}
use Rattle.session_actions.specs.Words.{find_last}

-- of the first setting and the others, the last one that counts
value_by : (b : Bool) (o : Option Setting) (x : Setting) (was : Option ℕ)
    → option_or (option_map (λ (y : Setting). y.value) o) (if b then Some x.value else was)
    ≡ option_or (option_map (λ (y : Setting). y.value) (option_or o (if b then Some x else None))) was
value_by true None x was = refl
value_by false None x was = refl
value_by b (Some y) x was = refl

pub limit_after : (limit : Option ℕ) (initial : ℕ) (resizes : Bool) (ss : List Setting)
    → (with_settings (record { limit = limit; initial = initial; resizes = resizes }) ss).limit ≡ option_or (given 3 ss) limit
limit_after limit initial resizes [] = refl
limit_after limit initial resizes (x ∷ ss) =
    limit_after (if x.identifier == 3 then Some x.value else limit) (if (x.identifier == 4) && nat_le x.value largest_window then x.value else initial)
    (if x.identifier == 1 then true else resizes) ss
    ∙ value_by (x.identifier == 3) (find_last (is_setting 3) ss) x limit

-- no setting of the first window is above the largest
fits_by : (a b c : Bool) → (a && (b || c)) ≡ false → a ≡ true → b ≡ false
fits_by true false c e is = refl
fits_by true true c e is = absurd (cc)
fits_by false b c e is = absurd (cc)

not_over : (value : ℕ) → nat_lt 2147483647 value ≡ false → nat_le value 2147483647 ≡ true
not_over value e = grind (arith, nat_tests, e)

kept_by : (b fits : Bool) (value was : ℕ) → (b ≡ true → fits ≡ true) → (if b && fits then value else was) ≡ (if b then value else was)
kept_by true fits value was h = ap (λ (c : Bool). if c then value else was) (h refl)
kept_by false fits value was h = refl

first_by : (b : Bool) (o : Option Setting) (x : Setting) (was : ℕ)
    → unwrap_or (option_map (λ (y : Setting). y.value) o) (if b then x.value else was)
    ≡ unwrap_or (option_map (λ (y : Setting). y.value) (option_or o (if b then Some x else None))) was
first_by true None x was = refl
first_by false None x was = refl
first_by b (Some y) x was = refl

pub initial_after : (limit : Option ℕ) (initial : ℕ) (resizes : Bool) (live : List LiveStream) (ss : List Setting) → list_any (overflows_streams live) ss ≡ false
    → (with_settings (record { limit = limit; initial = initial; resizes = resizes }) ss).initial ≡ unwrap_or (given 4 ss) initial
initial_after limit initial resizes live [] e = refl
initial_after limit initial resizes live (x ∷ ss) e =
    let parts : (overflows_streams live x ≡ false) × (list_any (overflows_streams live) ss ≡ false)
    = none_of (overflows_streams live x) (list_any (overflows_streams live) ss) e in
    initial_after (if x.identifier == 3 then Some x.value else limit) (if (x.identifier == 4) && nat_le x.value largest_window then x.value else initial)
    (if x.identifier == 1 then true else resizes) live ss parts.1
    ∙ ap (λ (n : ℕ). unwrap_or (given 4 ss) n)
    (kept_by (x.identifier == 4) (nat_le x.value largest_window) x.value initial (λ is. not_over x.value (fits_by (x.identifier == 4) (nat_lt largest_window x.value) _ parts.0 is)))
    ∙ first_by (x.identifier == 4) (find_last (is_setting 4) ss) x initial

-- a value that is given goes before the one before
pub given_first : (o p : Option ℕ) (n : ℕ) → unwrap_or o (unwrap_or p n) ≡ unwrap_or (option_or o p) n
given_first None p n = refl
given_first (Some m) p n = refl
