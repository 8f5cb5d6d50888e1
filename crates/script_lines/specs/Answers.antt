-- The lines of a server script.
use Rattle.std.specs.Prelude.{◌≡◌, ◌≤◌, ◌⊎◌, ℕ, ◌+◌, Bool, true, false, ◌||◌, List, [], ◌∷◌, length, codes, All, nat_eq}
use Rattle.std.specs.Cmp.Lexicographic.{pointwise}
use Rattle.std.specs.Map.{lookup}
use Rattle.std.specs.Option.{unwrap_or}
use Rattle.grpc_base.specs.declared.script.AnswerLine.{AnswerLine}
use Rattle.grpc_base.specs.declared.script.AnswerPart.{AnswerPart}
use Rattle.grpc_base.specs.declared.script.AnswerPart.TheVariants as part
use Rattle.grpc_base.specs.Limits.{message_limit, pushback_limit}
use Rattle.grpc_base.specs.Pieces.{pieces}
use Rattle.grpc_base.specs.Requests.{IsPath}
use Rattle.grpc_base.specs.Scripts.{ends_stream}
use Rattle.script_fields.specs.Spelling.{hex_digits}
use Rattle.script_fields.specs.Values.{IsBytes}
use Rattle.script_lines.specs.declared.part.PartKind.{PartKind}
use Rattle.script_lines.specs.declared.part.PartKind.TheVariants as kind
use Rattle.script_lines.specs.Causes.{Before, bad_count, bad_hex, bad_number, past_limit, unknown_kind}
use Rattle.script_lines.specs.Fields.{IsFieldFault, IsNumber, number_limit, path_field}

-- the letter that begins a part
abbrev pub letter_of : PartKind → ℕ
letter_of kind.Head = 104
letter_of kind.Message = 109
letter_of kind.Status = 115
letter_of kind.Pushback = 112
letter_of kind.Reset = 114
letter_of kind.Goaway = 103
letter_of kind.Hold = 119

-- what may stand after the letter: nothing, 1 to 1,024 bytes of a pushback, or what spells a value
abbrev pub HasShape : PartKind → List ℕ → Type 0
HasShape kind.Head rest = rest ≡ []
HasShape kind.Goaway rest = rest ≡ []
HasShape kind.Pushback rest = (1 ≤ length rest) × (length rest ≤ pushback_limit)
HasShape k rest = Unit {0}

-- after a status or a reset nothing but a GOAWAY may stand
abbrev pub MayStand : Bool → PartKind → Type 0
MayStand ended kind.Goaway = Unit {0}
MayStand ended k = ended ≡ false

-- a part of this kind in its form
abbrev pub IsPartOf : Bool → PartKind → List ℕ → List ℕ → Type 0
IsPartOf ended k text rest = (text ≡ letter_of k ∷ rest) × HasShape k rest × MayStand ended k

-- the kind of a part
abbrev pub part_kind : AnswerPart → PartKind
part_kind part.Head = kind.Head
part_kind (part.Message message) = kind.Message
part_kind (part.Status code) = kind.Status
part_kind (part.Pushback text) = kind.Pushback
part_kind (part.Reset code) = kind.Reset
part_kind part.Goaway = kind.Goaway
part_kind (part.Hold count) = kind.Hold

-- the value of a part, a message as its digits of hex, none for the empty one; and the cause where what stands after the letter spells none
abbrev pub IsValue : List ℕ → AnswerPart → Type 0
IsValue rest part.Head = Unit {0}
IsValue rest (part.Message message) = IsBytes message × (rest ≡ hex_digits message)
IsValue rest (part.Status code) = IsNumber number_limit code rest
IsValue rest (part.Pushback text) = text ≡ rest
IsValue rest (part.Reset code) = IsNumber number_limit code rest
IsValue rest part.Goaway = Unit {0}
IsValue rest (part.Hold count) = IsNumber number_limit count rest

abbrev pub IsNoNumber : List ℕ → Type 0
IsNoNumber rest = (n : ℕ) → IsNumber number_limit n rest → ⊥

abbrev pub IsValueFault : PartKind → List ℕ → ℕ → Type 0
IsValueFault kind.Message rest c = ((message : List ℕ) → IsBytes message → rest ≡ hex_digits message → ⊥) × (c ≡ bad_hex)
IsValueFault kind.Status rest c = IsNoNumber rest × (c ≡ bad_number)
IsValueFault kind.Reset rest c = IsNoNumber rest × (c ≡ bad_number)
IsValueFault kind.Hold rest c = IsNoNumber rest × (c ≡ bad_number)
IsValueFault k rest c = ⊥

-- a part, after a status or a reset or not, and its first fault: its form, and after it its value
abbrev pub IsPart : Bool → List ℕ → AnswerPart → Type 0
IsPart ended text p = (rest : List ℕ) × IsPartOf ended (part_kind p) text rest × IsValue rest p

abbrev pub IsPartFault : Bool → List ℕ → ℕ → Type 0
IsPartFault ended text c =
    (((k : PartKind) (rest : List ℕ) → IsPartOf ended k text rest → ⊥) × (c ≡ unknown_kind))
    ⊎ ((k : PartKind) × (rest : List ℕ) × IsPartOf ended k text rest × IsValueFault k rest c)

-- parts from left to right, and their first fault
abbrev pub AreParts : Bool → List (List ℕ) → List AnswerPart → Type 0
AreParts ended [] [] = Unit {0}
AreParts ended (text ∷ texts) (p ∷ ps) = IsPart ended text p × AreParts (ended || ends_stream p) texts ps
AreParts ended texts ps = ⊥

abbrev pub ArePartsFault : Bool → List (List ℕ) → ℕ → Type 0
ArePartsFault ended [] c = ⊥
ArePartsFault ended (text ∷ texts) c =
    IsPartFault ended text c ⊎ ((p : AnswerPart) × IsPart ended text p × ArePartsFault (ended || ends_stream p) texts c)

-- a part within the limit of messages
abbrev pub IsWithin : AnswerPart → Type 0
IsWithin (part.Message message) = length message ≤ message_limit
IsWithin p = Unit {0}

-- the field of the parts, with commas between them, and its first fault: the parts, and after them the limit
abbrev pub IsPartsText : List ℕ → List AnswerPart → Type 0
IsPartsText text ps = AreParts false (pieces 44 text) ps × All IsWithin ps

abbrev pub IsPartsFault : List ℕ → ℕ → Type 0
IsPartsFault text c =
    ArePartsFault false (pieces 44 text) c
    ⊎ ((ps : List AnswerPart) × AreParts false (pieces 44 text) ps × (All IsWithin ps → ⊥) × (c ≡ past_limit))

-- the paths of the lines before, each with how many of them it had
abbrev pub Answered : Type 0
Answered = List (List ℕ × ℕ)

-- how many of the lines before have this path
abbrev pub count_of : Answered → List ℕ → ℕ
count_of answered path = unwrap_or (lookup (λ other. pointwise nat_eq path other) answered) 0

-- an answer to the next request of its path
abbrev pub IsAnswerText : Answered → List (List ℕ) → AnswerLine → Type 0
IsAnswerText answered (name ∷ path ∷ n ∷ parts ∷ []) line =
    (name ≡ codes "answer") × IsPath path × (line.path ≡ path) × (line.n ≡ count_of answered path + 1) × IsNumber number_limit line.n n
    × IsPartsText parts line.parts
IsAnswerText answered texts line = ⊥

abbrev pub IsAnswerFields : Answered → List (List ℕ) → ℕ → Type 0
IsAnswerFields answered (path ∷ n ∷ parts ∷ []) c =
    IsFieldFault path_field path c
    ⊎ (IsPath path × Before (IsNumber number_limit (count_of answered path + 1) n) bad_number c (IsPartsFault parts c))
IsAnswerFields answered texts c = ⊥

abbrev pub IsAnswerFault : Answered → List (List ℕ) → ℕ → Type 0
IsAnswerFault answered (name ∷ others) c =
    Before (name ≡ codes "answer") unknown_kind c (Before (length others ≡ 3) bad_count c (IsAnswerFields answered others c))
IsAnswerFault answered [] c = ⊥
