-- Which text spells a value, and why a text is not read.
use Rattle.std.specs.Prelude.{◌≡◌, ◌≢◌, ◌<◌, ◌^◌, ℕ, Option, Some, None, List, [], length, All, IsTrue, slice_index}
use Rattle.std.specs.List.{fold}
use Rattle.grpc_base.specs.declared.address.Address.{Address}
use Rattle.grpc_base.specs.declared.fields.Field.{Field}
use Rattle.grpc_base.specs.Addresses.{with_address}
use Rattle.grpc_base.specs.Metadata.{IsRequestMetadata}
use Rattle.grpc_base.specs.Numbers.{is_number, number_of}
use Rattle.script_fields.specs.declared.fault.FieldFault.{FieldFault}
use Rattle.script_fields.specs.declared.fault.FieldFault.TheVariants as fault
use Rattle.script_fields.specs.Spelling.{addresses_text, dash, hex_digits, hex_or_dash, meta_text, word_bytes}
use Rattle.script_fields.specs.Values.{IsAddress, IsBytes}

-- why a text is not read: no value is spelled so, or the one that is goes beyond its limit
abbrev pub IsFieldFault : {V : Type 0} → (V → Type 0) → (V → Type 0) → FieldFault → Type 0
IsFieldFault {V} Spelled Beyond fault.Form = (v : V) → Spelled v → ⊥
IsFieldFault {V} Spelled Beyond fault.Limit = (v : V) × Spelled v × Beyond v
IsFieldFault Spelled Beyond fault.NoMemory = Unit {0}

-- the eight bytes of a word
abbrev pub SpellsWord : List ℕ → ℕ → Type 0
SpellsWord text word = (word < 2 ^ 64) × (text ≡ hex_digits (word_bytes word))

-- the bytes of a message
abbrev pub SpellsMessage : List ℕ → List ℕ → Type 0
SpellsMessage text message = IsBytes message × (text ≡ hex_or_dash message)

-- at least one byte
abbrev pub SpellsPiece : List ℕ → List ℕ → Type 0
SpellsPiece text piece = IsBytes piece × (piece ≢ []) × (text ≡ hex_digits piece)

-- a service config of at least one byte, or none
abbrev pub SpellsConfig : List ℕ → Option (List ℕ) → Type 0
SpellsConfig text None = text ≡ dash
SpellsConfig text (Some config) = SpellsPiece text config

-- the metadata of a request
abbrev pub SpellsMeta : List ℕ → List Field → Type 0
SpellsMeta text pairs = IsRequestMetadata pairs × All (λ f. IsBytes f.value) pairs × (text ≡ meta_text pairs)

-- addresses in their order, one as often as it stands there
abbrev pub SpellsAddresses : List ℕ → List Address → Type 0
SpellsAddresses text addresses = All IsAddress addresses × (text ≡ addresses_text addresses)

-- the list of these addresses, each of them once
abbrev pub listed : List Address → List Address
listed addresses = fold with_address [] addresses

-- a number of any length, with no zero before another digit
pub record SpellsNumber (text : List ℕ) (number : ℕ) : Type 0 where
  pub digits : IsTrue (is_number text)
  pub no_zero_first : slice_index text 0 ≡ 48 → length text ≡ 1
  pub value : number_of text ≡ number

-- a number of any length, or none
abbrev pub SpellsNumberOrDash : List ℕ → Option ℕ → Type 0
SpellsNumberOrDash text None = text ≡ dash
SpellsNumberOrDash text (Some number) = SpellsNumber text number
