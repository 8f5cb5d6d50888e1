-- What no field of its kind spells.
use Rattle.std.proofs.Common.{◌≡◌, ◌≢◌, ℕ, ◌<◌, ◌≤◌, ◌^◌, List, length, Option, Some, None, refl, ap, sym, subst, inl, inr, arith, ◌∙◌}
use Rattle.std.specs.Prelude.{decimal, IfSome, IsSomeAnd}
use Rattle.std.proofs.lemmas.Fmt.{decimal_injective}
use Rattle.grpc_base.specs.Addresses.{address_limit}
use Rattle.grpc_base.specs.Limits.{config_limit, message_limit}
use Rattle.script_fields.specs.declared.fault.FieldFault.{FieldFault}
use Rattle.script_fields.specs.declared.fault.FieldFault.TheVariants as field
use Rattle.script_fields.specs.Reading.{SpellsAddresses, SpellsConfig, SpellsMessage, SpellsPiece}
use Rattle.script_fields.specs.Reading.{IsFieldFault as FaultIs}
use Rattle.script_fields.proofs.OneLaws.{addresses_one, dash_no_piece, piece_one}
use Rattle.script_fields.proofs.TextLaws.{dash_one}
use Rattle.script_lines.specs.declared.cause.LineFault.{LineFault}
use Rattle.script_lines.specs.declared.cause.LineFault.TheVariants as fault
use Rattle.script_lines.specs.Causes.{bad_address, bad_hex, bad_number, past_limit}
use Rattle.script_lines.specs.Fields.{HasForm, IsFieldFault, IsGood, IsNumber, number_limit, addresses_field, config_field, config_or_dash_field, line_fault, message_field, worker_field}
use Rattle.script_lines.specs.Lines.{IsReportedBy}

pub no_worker : (n : ℕ) (text : List ℕ) (e : LineFault) → n ≡ 0 → text ≡ decimal n → e ≡ fault.Bad bad_number → IsReportedBy (IsFieldFault worker_field text) e
no_worker n text e zero is reported =
    let none : HasForm worker_field text → ⊥ = λ w. (let same : n ≡ w.0 = decimal_injective n w.0 (omega (arith, zero)) (omega (arith, w.1.1)) (sym is ∙ w.1.2) in omega (arith, same, zero, w.1.0)) in
    rw reported (inl (none, refl))

pub message_reported : (text : List ℕ) (f : FieldFault) (e : LineFault) → e ≡ line_fault bad_hex f → FaultIs (SpellsMessage text) (λ m. message_limit < length m) f → IsReportedBy (IsFieldFault message_field text) e
message_reported text field.Form e is h = rw is (inl ((λ v. h v.0 v.1), refl))
message_reported text field.Limit e is h =
    let none : IsGood message_field text → ⊥ = λ g. (let same : h.0 ≡ g.0 = dash_one h.0 g.0 h.1.0 g.1.0.0 (sym h.1.1 ∙ g.1.0.1) in let l : length h.0 ≡ length g.0 = ap length same in omega (arith, l, h.2, g.1.1)) in
    rw is (inr ((h.0, h.1), inl (none, refl)))
message_reported text field.NoMemory e is h = rw is tt

long_config : (text : List ℕ) (c d : Option (List ℕ)) → SpellsConfig text c → IsSomeAnd c (λ v. config_limit < length v) → SpellsConfig text d → IfSome d (λ v. length v ≤ config_limit) → ⊥
long_config text None d p beyond q within = absurd beyond
long_config text (Some v) None p beyond q within = dash_no_piece v (subst (λ t. SpellsPiece t v) q p)
long_config text (Some v) (Some w) p beyond q within = (let l : length v ≡ length w = ap length (piece_one text v w p q) in omega (arith, l, beyond, within))

pub config_reported : (text : List ℕ) (f : FieldFault) (e : LineFault) → e ≡ line_fault bad_hex f → FaultIs (SpellsConfig text) (λ c. IsSomeAnd c (λ v. config_limit < length v)) f → IsReportedBy (IsFieldFault config_or_dash_field text) e
config_reported text field.Form e is h = rw is (inl ((λ v. h v.0 v.1), refl))
config_reported text field.Limit e is h = rw is (inr ((h.0, h.1), inl ((λ g. long_config text h.0 g.0 h.1 h.2 g.1.0 g.1.1), refl)))
config_reported text field.NoMemory e is h = rw is tt

pub long_piece : (text v : List ℕ) (e : LineFault) → SpellsPiece text v → config_limit < length v → e ≡ fault.Bad past_limit → IsReportedBy (IsFieldFault config_field text) e
long_piece text v e p beyond is =
    let none : IsGood config_field text → ⊥ = λ g. (let l : length v ≡ length g.0 = ap length (piece_one text v g.0 p g.1.0) in omega (arith, l, beyond, g.1.1)) in
    rw is (inr ((v, p), inl (none, refl)))

pub addresses_reported : (text : List ℕ) (f : FieldFault) (e : LineFault) → e ≡ line_fault bad_address f → FaultIs (SpellsAddresses text) (λ xs. address_limit < length xs) f → IsReportedBy (IsFieldFault addresses_field text) e
addresses_reported text field.Form e is h = rw is (inl ((λ v. h v.0 v.1), refl))
addresses_reported text field.Limit e is h =
    let none : IsGood addresses_field text → ⊥ = λ g. (
    let l : length h.0 ≡ length g.1.0 = ap length (addresses_one text h.0 g.1.0 h.1 g.1.1) in
    omega (arith, l, h.2, g.1.2)) in
    rw is (inr ((h.0, h.1), inl (none, refl)))
addresses_reported text field.NoMemory e is h = rw is tt

pub other_number : (n k : ℕ) (text : List ℕ) (e : LineFault) → n < 2 ^ 64 → k < 2 ^ 64 → n ≢ k → text ≡ decimal n → e ≡ fault.Bad bad_number → IsReportedBy (λ c. (IsNumber number_limit k text → ⊥) × (c ≡ bad_number)) e
other_number n k text e small k_small other is reported = rw reported ((λ h. other (decimal_injective n k small k_small (sym is ∙ h.1))), refl)
