-- The bytes of header blocks that are constants.
use Rattle.std.proofs.Common.{◌≡◌, ◌++◌, ◌∷◌, ◌∙◌, ap, arith, ℕ, Bool, true, false, List, [], refl}
use Rattle.std.specs.Prelude.{codes, if◌then◌else◌}
use Rattle.std.specs.Fmt.{decimal}
use Rattle.std.specs.List.{list_any}
use Rattle.std.proofs.lemmas.Fmt.{decimal_digit}
use Rattle.grpc_base.specs.declared.fields.Field.{Field}
use Rattle.grpc_base.specs.declared.script.AnswerPart.{AnswerPart}
use Rattle.grpc_base.specs.declared.script.AnswerPart.TheVariants as part
use Rattle.h2_hpack.specs.Encoding.{block_bytes}
use Rattle.h2_hpack.specs.StaticTable.{static_table}
use Rattle.loop_server.specs.Blocks.{field, head_fields, is_head, is_pushback, pushback_fields, pushback_room, status_fields}

pub head_written : block_bytes head_fields ≡ 136 ∷ 15 ∷ 16 ∷ 16 ∷ codes "application/grpc"
unfolding static_table
head_written = refl

-- parts without a pushback bring none
no_pushback : (room : ℕ) (parts : List AnswerPart) → list_any is_pushback parts ≡ false → pushback_fields room parts ≡ []
no_pushback room [] none = refl
no_pushback room (part.Head ∷ parts) none = no_pushback room parts none
no_pushback room (part.Message message ∷ parts) none = no_pushback room parts none
no_pushback room (part.Status code ∷ parts) none = no_pushback room parts none
no_pushback room (part.Pushback text ∷ parts) none = absurd (cc none)
no_pushback room (part.Reset code ∷ parts) none = no_pushback room parts none
no_pushback room (part.Goaway ∷ parts) none = no_pushback room parts none
no_pushback room (part.Hold count ∷ parts) none = no_pushback room parts none

-- the list that ends a response, by what its parts bring and by the digits of its code
abbrev list_of : Bool → List Field → List ℕ → List Field
list_of begun pushbacks digits = (if begun then [] else head_fields) ++ pushbacks ++ field (codes "grpc-status") digits ∷ []

zero_written : block_bytes (list_of true [] (48 ∷ [])) ≡ 0 ∷ 11 ∷ codes "grpc-status" ++ 1 ∷ 48 ∷ []
unfolding static_table
zero_written = refl

pub ok_written : (before : List AnswerPart) → list_any is_head before ≡ true → list_any is_pushback before ≡ false → block_bytes (status_fields before 0) ≡ 0 ∷ 11 ∷ codes "grpc-status" ++ 1 ∷ 48 ∷ []
ok_written before begun none =
    ap (λ b. block_bytes (list_of b (pushback_fields pushback_room before) (decimal 0))) begun
    ∙ ap (λ l. block_bytes (list_of true l (decimal 0))) (no_pushback pushback_room before none)
    ∙ ap (λ d. block_bytes (list_of true [] d)) (decimal_digit 0 (omega arith))
    ∙ zero_written
