-- The fields of a line: the value that each kind of field spells, and the first fault of one that spells none.
use Rattle.std.specs.Prelude.{◌≡◌, ◌≤◌, ◌⊎◌, ℕ, Bool, Option, IfSome, List, [], ◌∷◌, length, decimal}
use Rattle.grpc_base.specs.declared.address.Address.{Address}
use Rattle.grpc_base.specs.declared.fields.Field.{Field}
use Rattle.grpc_base.specs.Addresses.{address_limit}
use Rattle.grpc_base.specs.Limits.{config_limit, duration_limit, message_limit, moment_limit}
use Rattle.grpc_base.specs.Requests.{IsPath, RequestSeen}
use Rattle.script_fields.specs.declared.fault.FieldFault.{FieldFault}
use Rattle.script_fields.specs.declared.fault.FieldFault.TheVariants as field
use Rattle.script_fields.specs.Reading.{SpellsAddresses, SpellsConfig, SpellsMessage, SpellsMeta, SpellsNumberOrDash, SpellsPiece, SpellsWord, listed}
use Rattle.script_fields.specs.Spelling.{number_or_dash, wait_text}
use Rattle.script_lines.specs.declared.cause.LineFault.{LineFault}
use Rattle.script_lines.specs.declared.cause.LineFault.TheVariants as fault
use Rattle.script_lines.specs.Causes.{Before, bad_address, bad_count, bad_hex, bad_metadata, bad_number, bad_path, past_limit, unknown_kind}

-- the largest number of a call, a subchannel, a link or a room
abbrev pub number_limit : ℕ
number_limit = 4294967295

-- the largest random word
abbrev pub word_limit : ℕ
word_limit = 18446744073709551615

-- a number up to a bound, in decimal digits without leading zeros
abbrev pub IsNumber : ℕ → ℕ → List ℕ → Type 0
IsNumber most n text = (n ≤ most) × (text ≡ decimal n)

-- a worker, from 1 to 16
abbrev pub IsWorker : ℕ → List ℕ → Type 0
IsWorker n text = (1 ≤ n) × (n ≤ 16) × (text ≡ decimal n)

-- a wait: `-`, `yes` or `no`
abbrev pub IsWait : Option Bool → List ℕ → Type 0
IsWait wait text = text ≡ wait_text wait

-- a timeout in nanoseconds, at most 10^18, or `-`
abbrev pub IsTimeout : Option ℕ → List ℕ → Type 0
IsTimeout timeout text = SpellsNumberOrDash text timeout × (text ≡ number_or_dash timeout) × IfSome timeout (λ n. n ≤ duration_limit)

-- metadata that a request may send: names with their values in hex
abbrev pub IsMeta : List Field → List ℕ → Type 0
IsMeta pairs text = SpellsMeta text pairs

-- a message of at most 4,194,304 bytes in hex, `-` for an empty one
abbrev pub IsMessage : List ℕ → List ℕ → Type 0
IsMessage message text = SpellsMessage text message × (length message ≤ message_limit)

-- bytes in hex, one at least
abbrev pub IsPiece : List ℕ → List ℕ → Type 0
IsPiece piece text = SpellsPiece text piece

-- a service config of 1 to 65,536 bytes in hex
abbrev pub IsConfig : List ℕ → List ℕ → Type 0
IsConfig config text = SpellsPiece text config × (length config ≤ config_limit)

-- a service config, or `-`
abbrev pub IsConfigOrDash : Option (List ℕ) → List ℕ → Type 0
IsConfigOrDash config text = SpellsConfig text config × IfSome config (λ bytes. length bytes ≤ config_limit)

-- the word of a ping, in 16 digits of hex
abbrev pub IsPing : ℕ → List ℕ → Type 0
IsPing word text = SpellsWord text word

-- addresses with commas, each with its port: at most 64, counted with repeats, of which each is kept once; `-` for none
abbrev pub AreAddresses : List Address → List ℕ → Type 0
AreAddresses addresses text =
    (items : List Address) × SpellsAddresses text items × (length items ≤ address_limit) × (addresses ≡ listed items)

-- messages, each in its field
abbrev pub AreMessages : List (List ℕ) → List (List ℕ) → Type 0
AreMessages [] [] = Unit {0}
AreMessages (message ∷ messages) (text ∷ texts) = IsMessage message text × AreMessages messages texts
AreMessages messages texts = ⊥

-- the path, the wait, the timeout and the metadata of a request
abbrev pub IsRequestText : RequestSeen → List ℕ → List ℕ → List ℕ → List ℕ → Type 0
IsRequestText r path wait timeout meta =
    IsPath path × (r.path ≡ path) × IsWait r.wait wait × IsTimeout r.timeout timeout × IsMeta r.meta meta

-- the kinds of field
pub data FieldKind : Type 0 where
  moment_field : FieldKind
  word_field : FieldKind
  number_field : FieldKind
  worker_field : FieldKind
  path_field : FieldKind
  wait_field : FieldKind
  timeout_field : FieldKind
  meta_field : FieldKind
  message_field : FieldKind
  piece_field : FieldKind
  ping_field : FieldKind
  addresses_field : FieldKind
  config_or_dash_field : FieldKind
  config_field : FieldKind

-- the fields of a request: path, wait, timeout and metadata
abbrev pub request_fields : List FieldKind
request_fields = path_field ∷ wait_field ∷ timeout_field ∷ meta_field ∷ []

-- a text that has the form of its field, be its value past a limit or not
abbrev pub HasForm : FieldKind → List ℕ → Type 0
HasForm moment_field text = (n : ℕ) × IsNumber moment_limit n text
HasForm word_field text = (n : ℕ) × IsNumber word_limit n text
HasForm number_field text = (n : ℕ) × IsNumber number_limit n text
HasForm worker_field text = (n : ℕ) × IsWorker n text
HasForm path_field text = IsPath text
HasForm wait_field text = (wait : Option Bool) × IsWait wait text
HasForm timeout_field text = (timeout : Option ℕ) × SpellsNumberOrDash text timeout
HasForm meta_field text = (pairs : List Field) × IsMeta pairs text
HasForm message_field text = (message : List ℕ) × SpellsMessage text message
HasForm piece_field text = (piece : List ℕ) × IsPiece piece text
HasForm ping_field text = (word : ℕ) × IsPing word text
HasForm addresses_field text = (items : List Address) × SpellsAddresses text items
HasForm config_or_dash_field text = (config : Option (List ℕ)) × SpellsConfig text config
HasForm config_field text = (config : List ℕ) × IsPiece config text

-- a text that spells a value of its field, within the limit
abbrev pub IsGood : FieldKind → List ℕ → Type 0
IsGood timeout_field text = (timeout : Option ℕ) × IsTimeout timeout text
IsGood message_field text = (message : List ℕ) × IsMessage message text
IsGood addresses_field text = (addresses : List Address) × AreAddresses addresses text
IsGood config_or_dash_field text = (config : Option (List ℕ)) × IsConfigOrDash config text
IsGood config_field text = (config : List ℕ) × IsConfig config text
IsGood kind text = HasForm kind text

-- the cause that another form has
abbrev pub form_cause : FieldKind → ℕ
form_cause moment_field = bad_number
form_cause word_field = bad_number
form_cause number_field = bad_number
form_cause worker_field = bad_number
form_cause path_field = bad_path
form_cause wait_field = unknown_kind
form_cause timeout_field = bad_number
form_cause meta_field = bad_metadata
form_cause message_field = bad_hex
form_cause piece_field = bad_hex
form_cause ping_field = bad_hex
form_cause addresses_field = bad_address
form_cause config_or_dash_field = bad_hex
form_cause config_field = bad_hex

-- the first fault of a field: its form, and after it its limit
abbrev pub IsFieldFault : FieldKind → List ℕ → ℕ → Type 0
IsFieldFault kind text c = Before (HasForm kind text) (form_cause kind) c (Before (IsGood kind text) past_limit c ⊥)

-- the first fault of fields from left to right
abbrev pub AreFieldsFault : List FieldKind → List (List ℕ) → ℕ → Type 0
AreFieldsFault (kind ∷ kinds) (text ∷ texts) c = IsFieldFault kind text c ⊎ (IsGood kind text × AreFieldsFault kinds texts c)
AreFieldsFault kinds texts c = ⊥

-- the first fault of what stands after a name: the number of fields, and after it the fields
abbrev pub AreArgumentsFault : List FieldKind → List (List ℕ) → ℕ → Type 0
AreArgumentsFault kinds texts c = Before (length texts ≡ length kinds) bad_count c (AreFieldsFault kinds texts c)

-- the fault of a field, where another form has this cause
abbrev pub line_fault : ℕ → FieldFault → LineFault
line_fault cause field.Form = fault.Bad cause
line_fault cause field.Limit = fault.Bad past_limit
line_fault cause field.NoMemory = fault.NoMemory
