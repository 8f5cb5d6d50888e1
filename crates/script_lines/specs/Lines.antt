-- The lines of a script.
use Rattle.std.specs.Prelude.{◌≡◌, ◌≢◌, ◌≤◌, ◌⊎◌, ℕ, Bool, true, Option, Ok, List, [], ◌∷◌, ◌++◌, length, map, codes, All}
use Rattle.grpc_base.specs.declared.event.Stamped.{Stamped}
use Rattle.grpc_base.specs.declared.script.CallLine.{CallLine}
use Rattle.grpc_base.specs.Limits.{line_limit, moment_limit}
use Rattle.grpc_base.specs.Pieces.{pieces_of_rest}
use Rattle.resolver_core.specs.AnyTargets.{any_target_of}
use Rattle.resolver_core.specs.declared.any_target.Target.{Target}
use Rattle.script_fields.specs.Spelling.{fields}
use Rattle.script_lines.specs.declared.cause.LineFault.{LineFault}
use Rattle.script_lines.specs.declared.cause.LineFault.TheVariants as fault
use Rattle.script_lines.specs.declared.line.ScriptLine.{ScriptLine}
use Rattle.script_lines.specs.declared.line.ScriptLine.TheVariants as line
use Rattle.script_lines.specs.Causes.{Before, bad_address, bad_count, no_channel, not_text, too_long, too_many, unknown_kind}
use Rattle.script_lines.specs.Events.{IsEventFault, IsEventText}
use Rattle.script_lines.specs.Fields.{AreArgumentsFault, AreFieldsFault, AreMessages, FieldKind, IsConfig, IsFieldFault, IsGood, IsNumber, IsRequestText, IsWorker, config_field, message_field, moment_field, request_fields, word_field, word_limit, worker_field}

-- what stands after the first field of a text, as fields
abbrev pub fields_after : Option (List ℕ) → List (List ℕ)
fields_after rest = pieces_of_rest 32 rest

-- a fault that names such a cause, or out of memory
abbrev pub IsReportedBy : (ℕ → Type 0) → LineFault → Type 0
IsReportedBy causes (fault.Bad cause) = causes cause
IsReportedBy causes fault.NoMemory = Unit {0}

-- a line of a replay script after the first: moment, random word and event
abbrev pub IsStampedText : List (List ℕ) → Stamped → Type 0
IsStampedText (moment ∷ word ∷ others) s = IsNumber moment_limit s.moment moment × IsNumber word_limit s.word word × IsEventText others s.event
IsStampedText texts s = ⊥

-- its first fault: fewer than three fields, the moment, the word, and after them the event
abbrev pub IsStampedFault : List (List ℕ) → ℕ → Type 0
IsStampedFault (moment ∷ word ∷ name ∷ others) c =
    IsFieldFault moment_field moment c
    ⊎ (IsGood moment_field moment × (IsFieldFault word_field word c ⊎ (IsGood word_field word × IsEventFault (name ∷ others) c)))
IsStampedFault texts c = c ≡ bad_count

-- the most lines of a script: a channel line, a service config and 1,048,576 events
abbrev pub script_limit : ℕ
script_limit = 1048578

-- a line of printable ASCII that a line feed ended
abbrev pub IsTextLine : List ℕ → Bool → Type 0
IsTextLine text closed = All (λ b. (32 ≤ b) × (b ≤ 126)) text × (closed ≡ true)

-- a line that passes the tests of every script, and the first of them that it fails
abbrev pub IsRawLine : ℕ → List ℕ → Bool → Type 0
IsRawLine n text closed = (n ≤ script_limit) × (length text ≤ line_limit) × IsTextLine text closed

abbrev pub IsRawFault : ℕ → List ℕ → Bool → ℕ → Type 0
IsRawFault n text closed c =
    Before (n ≤ script_limit) too_many c (Before (length text ≤ line_limit) too_long c (Before (IsTextLine text closed) not_text c ⊥))

-- a version of the format; both are read alike
abbrev pub IsVersion : List ℕ → Type 0
IsVersion version = (version ≡ codes "1") ⊎ (version ≡ codes "2")

-- the first line of a replay or live script: the target as it is written, and what it says; and its first fault
abbrev pub channel_words : List ℕ → List ℕ → List (List ℕ)
channel_words version target = codes "channel" ∷ version ∷ target ∷ []

abbrev pub IsChannelText : List (List ℕ) → List ℕ → Target → Type 0
IsChannelText texts target value =
    (version : List ℕ) × IsVersion version × (texts ≡ channel_words version target) × (any_target_of target ≡ Ok value)

abbrev pub IsChannelFault : List (List ℕ) → ℕ → Type 0
IsChannelFault texts c =
    (((version target : List ℕ) → IsVersion version → texts ≢ channel_words version target) × (c ≡ no_channel))
    ⊎ ((version target : List ℕ) × IsVersion version × (texts ≡ channel_words version target) × ((value : Target) → any_target_of target ≢ Ok value)
    × (c ≡ bad_address))

-- a line of a replay script by its number, and its first fault
abbrev pub IsReplayLine : ℕ → List (List ℕ) → ScriptLine → Type 0
IsReplayLine n texts (line.Channel target value) = (n ≡ 1) × IsChannelText texts target value
IsReplayLine n texts (line.Event s) = (n ≢ 1) × IsStampedText texts s
IsReplayLine n texts read = ⊥

abbrev pub IsReplayFault : ℕ → List (List ℕ) → ℕ → Type 0
IsReplayFault n texts c = ((n ≡ 1) × IsChannelFault texts c) ⊎ ((n ≢ 1) × IsStampedFault texts c)

-- the fields of a call: its worker, its request and its messages
abbrev pub call_fields : List (List ℕ) → List FieldKind
call_fields (worker ∷ path ∷ wait ∷ timeout ∷ meta ∷ messages) = worker_field ∷ request_fields ++ map (λ message. message_field) messages
call_fields texts = []

abbrev pub IsCallText : List (List ℕ) → ℕ → CallLine → Type 0
IsCallText (worker ∷ path ∷ wait ∷ timeout ∷ meta ∷ messages) n line =
    IsWorker n worker × IsRequestText line.request path wait timeout meta × (length messages ≤ 64) × AreMessages line.messages messages
IsCallText texts n line = ⊥

-- its first fault: other than 0 to 64 messages, and after it the fields
abbrev pub IsCallFault : List (List ℕ) → ℕ → Type 0
IsCallFault texts c = Before ((5 ≤ length texts) × (length texts ≤ 69)) bad_count c (AreFieldsFault (call_fields texts) texts c)

-- a line of a live script after the first: a service config in the second line, or a call
abbrev pub IsLiveText : ℕ → List (List ℕ) → ScriptLine → Type 0
IsLiveText n (name ∷ others) (line.Config config) =
    (name ≡ codes "config") × (n ≡ 2) × (text : List ℕ) × (others ≡ text ∷ []) × IsConfig config text
IsLiveText n (name ∷ others) (line.Call worker call) = (name ≡ codes "call") × IsCallText others worker call
IsLiveText n texts read = ⊥

abbrev pub IsLiveTextFault : ℕ → List (List ℕ) → ℕ → Type 0
IsLiveTextFault n (name ∷ others) c =
    ((name ≢ codes "call") × ((name ≡ codes "config") → n ≢ 2) × (c ≡ unknown_kind))
    ⊎ ((name ≡ codes "config") × (n ≡ 2) × AreArgumentsFault (config_field ∷ []) others c)
    ⊎ ((name ≡ codes "call") × IsCallFault others c)
IsLiveTextFault n [] c = ⊥

-- a line of a live script by its number, and its first fault
abbrev pub IsLiveLine : ℕ → List (List ℕ) → ScriptLine → Type 0
IsLiveLine n texts (line.Channel target value) = (n ≡ 1) × IsChannelText texts target value
IsLiveLine n texts read = (n ≢ 1) × IsLiveText n texts read

abbrev pub IsLiveFault : ℕ → List (List ℕ) → ℕ → Type 0
IsLiveFault n texts c = ((n ≡ 1) × IsChannelFault texts c) ⊎ ((n ≢ 1) × IsLiveTextFault n texts c)
