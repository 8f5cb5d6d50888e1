-- A config that is longer than it may be has that fault, and what was read of an input decides its reading.
use Rattle.std.proofs.Common.{◌≡◌, ◌<◌, ◌≤◌, ℕ, Option, List, ◌++◌, length, length-append, true, refl, ap, sym, inl, inr, arith, ◌∙◌, Result, Ok, Err}
use Rattle.std.specs.Prelude.{nat_lt}
use Rattle.std.proofs.lemmas.Bool.Decides.{nat_tests}
use Rattle.gate_io.specs.Outside.{IsAtEnd, Takes}
use Rattle.grpc_base.specs.Kinds.{KindsSeen}
use Rattle.grpc_base.specs.Limits.{config_limit}
use Rattle.grpc_base.specs.declared.event.ConfigFault.{ConfigFault}
use Rattle.grpc_base.specs.declared.event.ConfigFault.TheVariants as reported
use Rattle.grpc_base.specs.declared.event.JsonFault.TheVariants as json
use Rattle.json_text.specs.Reading.{reading}
use Rattle.service_config.specs.Reading.{FailsBy, ReportsThat, config_at, config_of}
use Rattle.service_config.specs.Text.{config_text, fault_text}
use Rattle.service_config.specs.declared.config.Config.{Config}
use Rattle.channel_top.specs.declared.input.Ending.{Ending}
use Rattle.channel_top.specs.declared.input.Ending.TheVariants as ending
use Rattle.channel_top.specs.Ending.{EndsSo}
use Rattle.channel_top.specs.ConfigMode.{HasFault, IsConfigDone, ReportsConfigFault, judged_bytes}

long_reading : (bytes : List ℕ) → nat_lt config_limit (length bytes) ≡ true → reading bytes ≡ Err json.TooLong
unfolding reading
long_reading bytes long = rw long refl

pub too_long : (kinds : KindsSeen) (bytes : List ℕ) → config_limit < length bytes → config_of kinds bytes ≡ Err (reported.Json json.TooLong)
too_long kinds bytes long =
    let test : nat_lt config_limit (length bytes) ≡ true = grind (arith, nat_tests) in
    ap (config_at kinds) (long_reading bytes test)

-- a fault that is reported is that of the definition
pub is_fault : (f : ConfigFault) (read : Result Config ConfigFault) → FailsBy f read → (f ≡ reported.NoMemory → ⊥) → read ≡ Err f
is_fault reported.NoMemory read h never = absurd (never refl)
is_fault (reported.Json j) read h never = h
is_fault (reported.Field p) read h never = h
is_fault (reported.BothPolicies p) read h never = h
is_fault (reported.RepeatedName p) read h never = h
is_fault reported.NoSupportedPolicy read h never = h

-- an input that reads as a config is whole
whole : (kinds : KindsSeen) (e : Ending) (left : Option (List ℕ)) (bytes : List ℕ) (f f' : ℕ) (c : Config) → EndsSo judged_bytes e left (length bytes) f f' → (e ≡ ending.Failed → ⊥) → config_of kinds bytes ≡ Ok c → IsAtEnd left
whole kinds ending.End left bytes f f' c h never is = h.0
whole kinds ending.Failed left bytes f f' c h never is = absurd (never refl)
whole kinds ending.Limit left bytes f f' c h never is =
    let long : config_limit < length bytes = omega (arith, h) in
    ok_err c (reported.Json json.TooLong) (sym is ∙ too_long kinds bytes long)
  where
    ok_err : (x : Config) (y : ConfigFault) → Ok x ≡ Err y → IsAtEnd left
    ok_err x y e = absurd (cc)

-- an input with a fault is whole, or longer than a config may be
has_fault : (kinds : KindsSeen) (e : Ending) (left : Option (List ℕ)) (bytes : List ℕ) (f f' : ℕ) (fault : ConfigFault) → EndsSo judged_bytes e left (length bytes) f f' → (e ≡ ending.Failed → ⊥) → config_of kinds bytes ≡ Err fault → HasFault kinds left bytes fault
has_fault kinds ending.End left bytes f f' fault h never is = inl (h.0, is)
has_fault kinds ending.Failed left bytes f f' fault h never is = absurd (never refl)
has_fault kinds ending.Limit left bytes f f' fault h never is =
    let long : config_limit < length bytes = omega (arith, h) in
    inr (λ rest. (let more : config_limit < length (bytes ++ rest) = omega (arith, h, length-append bytes rest) in
    too_long kinds (bytes ++ rest) more ∙ sym (too_long kinds bytes long) ∙ is))

within : (e : Ending) (left : Option (List ℕ)) (n f f' : ℕ) → EndsSo judged_bytes e left n f f' → n ≤ judged_bytes
within ending.End left n f f' h = omega (arith, h.1)
within ending.Limit left n f f' h = omega (arith, h)
within ending.Failed left n f f' h = omega (arith, h.1)

pub config_done : (kinds : KindsSeen) (left left' : Option (List ℕ)) (bytes read : List ℕ) (e : Ending) (f f' : ℕ) (c : Config) → Takes left left' bytes → EndsSo judged_bytes e left' (length bytes) f f' → (e ≡ ending.Failed → ⊥) → read ≡ bytes → ReportsThat (Ok c) (config_of kinds read) → IsConfigDone kinds left left' (config_text c)
config_done kinds left left' bytes read e f f' c takes ends never same is =
    let reads : config_of kinds bytes ≡ Ok c = ap (config_of kinds) (sym same) ∙ is in
    record {
      input = bytes;
      config = c;
      read = takes;
      at_end = whole kinds e left' bytes f f' c ends never reads;
      reading = reads;
      text_is = refl;
    }

pub config_reported : (kinds : KindsSeen) (left left' : Option (List ℕ)) (bytes read : List ℕ) (e : Ending) (f f' : ℕ) (result : Result Config ConfigFault) (x : ConfigFault) → Takes left left' bytes → EndsSo judged_bytes e left' (length bytes) f f' → (e ≡ ending.Failed → ⊥) → read ≡ bytes → ReportsThat (Err x) (config_of kinds read) → (x ≡ reported.NoMemory → ⊥) → result ≡ Err x → (result ≡ Err (reported.Json json.NoMemory) → ⊥) → ReportsConfigFault kinds left left' (fault_text x)
config_reported kinds left left' bytes read e f f' result x takes ends never same is memory was json_memory =
    let reads : config_of kinds bytes ≡ Err x = ap (config_of kinds) (sym same) ∙ is_fault x (config_of kinds read) is memory in
    record {
      input = bytes;
      fault = x;
      read = takes;
      bounded = within e left' (length bytes) f f' ends;
      has = has_fault kinds e left' bytes f f' x ends never reads;
      of_text = (memory, (λ p. json_memory (was ∙ ap (λ (y : ConfigFault). Err y) p)));
      text_is = refl;
    }
