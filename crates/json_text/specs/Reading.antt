-- The reader, byte by byte: what is known of a JSON text after each byte of it, and the first fault. It is the
-- code's own course, said without its memory. What to believe of a text stands in Grammar, Readable and Faults.
use Rattle.std.specs.Prelude.{◌≡◌, ℕ, ◌+◌, true, false, ◌==◌, nat_lt, if◌then◌else◌, List, [], ◌∷◌, ◌++◌, length, Result, Ok, Err}
use Rattle.grpc_base.specs.declared.event.JsonFault.{JsonFault}
use Rattle.grpc_base.specs.declared.event.JsonFault.TheVariants as fault
use Rattle.json_text.specs.Tree.{Tree, null, boolean, number, string, list, object, Items, no_items, item_after, Members, no_members, member_after, is_named}
use Rattle.json_text.specs.Grammar.{is_blank}
use Rattle.json_text.specs.Numbers.{is_digit, number_byte}
use Rattle.json_text.specs.Strings.{quoted_next, opened_quote}
use Rattle.json_text.specs.declared.number.Part.{Part}
use Rattle.json_text.specs.declared.number.Part.TheVariants as part
use Rattle.json_text.specs.declared.number.NumberByte.{NumberByte}
use Rattle.json_text.specs.declared.number.NumberByte.TheVariants as digit
use Rattle.json_text.specs.declared.string.Quoted.{Quoted}
use Rattle.json_text.specs.declared.string.QuotedNext.{QuotedNext}
use Rattle.json_text.specs.declared.string.QuotedNext.TheVariants as next

-- a list or an object that is open round the place that one has come to
pub data Parent : Type 0 where
  in_list : Items → Parent
  in_object : Members → List ℕ → Parent

-- the place that one has come to
pub data Stage : Type 0 where
  at_top : Stage
  at_first_value : Stage
  at_value : Stage
  at_first_name : Stage
  at_name : Members → Stage
  at_colon : Stage
  after_item : Items → Stage
  after_member : Members → Stage
  in_word : ℕ → List ℕ → Tree → Stage
  in_number : Part → ℕ → List ℕ → Stage
  in_string : Quoted → Stage
  in_name : Members → ℕ → Quoted → Stage
  at_end : Tree → Stage

-- the place, and what is open round it, the innermost first
pub record State : Type 0 where
  pub stage : Stage
  pub parents : List Parent

abbrev pub most_levels : ℕ
most_levels = 32

abbrev pub most_bytes : ℕ
most_bytes = 65536

abbrev pub go : Stage → List Parent → Result State JsonFault
go stage parents = Ok (record { stage = stage; parents = parents })

abbrev pub wrong : ℕ → Result State JsonFault
wrong at = Err (fault.Syntax at)

-- a value is whole
abbrev pub put : Tree → List Parent → State
put v [] = record { stage = at_end v; parents = [] }
put v (in_list items ∷ parents) = record { stage = after_item (item_after items v); parents = parents }
put v (in_object members name ∷ parents) = record { stage = after_member (member_after members name v); parents = parents }

-- a bracket opens one level more
abbrev pub opened : Stage → ℕ → List Parent → Result State JsonFault
opened stage at parents = if nat_lt (length parents) most_levels then go stage parents else Err (fault.TooDeep at)

-- the first byte of a value
unfoldable pub value_byte : ℕ → List Parent → ℕ → Result State JsonFault
value_byte at parents b =
    if b == 34 then go (in_string opened_quote) parents
    else if b == 45 then go (in_number part.Minus at (b ∷ [])) parents
    else if b == 48 then go (in_number part.Zero at (b ∷ [])) parents
    else if is_digit b then go (in_number part.Whole at (b ∷ [])) parents
    else if b == 91 then opened at_first_value at parents
    else if b == 123 then opened at_first_name at parents
    else if b == 116 then go (in_word 114 (117 ∷ 101 ∷ []) (boolean true)) parents
    else if b == 102 then go (in_word 97 (108 ∷ 115 ∷ 101 ∷ []) (boolean false)) parents
    else if b == 110 then go (in_word 117 (108 ∷ 108 ∷ []) null) parents
    else wrong at

unfoldable pub top_byte : ℕ → List Parent → ℕ → Result State JsonFault
top_byte at parents b =
    if is_blank b then go at_top parents
    else if b == 123 then opened at_first_name at parents
    else wrong at

unfoldable pub first_value_byte : ℕ → List Parent → ℕ → Result State JsonFault
first_value_byte at parents b =
    if is_blank b then go at_first_value parents
    else if b == 93 then Ok (put (list no_items) parents)
    else value_byte at (in_list no_items ∷ parents) b

unfoldable pub next_value_byte : ℕ → List Parent → ℕ → Result State JsonFault
next_value_byte at parents b = if is_blank b then go at_value parents else value_byte at parents b

unfoldable pub first_name_byte : ℕ → List Parent → ℕ → Result State JsonFault
first_name_byte at parents b =
    if is_blank b then go at_first_name parents
    else if b == 34 then go (in_name no_members at opened_quote) parents
    else if b == 125 then Ok (put (object no_members) parents)
    else wrong at

unfoldable pub next_name_byte : ℕ → Members → List Parent → ℕ → Result State JsonFault
next_name_byte at members parents b =
    if is_blank b then go (at_name members) parents
    else if b == 34 then go (in_name members at opened_quote) parents
    else wrong at

unfoldable pub colon_byte : ℕ → List Parent → ℕ → Result State JsonFault
colon_byte at parents b =
    if is_blank b then go at_colon parents else if b == 58 then go at_value parents else wrong at

unfoldable pub item_byte : ℕ → Items → List Parent → ℕ → Result State JsonFault
item_byte at items parents b =
    if is_blank b then go (after_item items) parents
    else if b == 44 then go at_value (in_list items ∷ parents)
    else if b == 93 then Ok (put (list items) parents)
    else wrong at

unfoldable pub member_byte : ℕ → Members → List Parent → ℕ → Result State JsonFault
member_byte at members parents b =
    if is_blank b then go (after_member members) parents
    else if b == 44 then go (at_name members) parents
    else if b == 125 then Ok (put (object members) parents)
    else wrong at

unfoldable pub end_byte : ℕ → Tree → List Parent → ℕ → Result State JsonFault
end_byte at v parents b = if is_blank b then go (at_end v) parents else wrong at

-- the byte after a whole number
unfoldable pub after_number : ℕ → Tree → List Parent → ℕ → Result State JsonFault
after_number at v [] b = end_byte at v [] b
after_number at v (in_list items ∷ parents) b = item_byte at (item_after items v) parents b
after_number at v (in_object members name ∷ parents) b = member_byte at (member_after members name v) parents b

abbrev pub letters_left : List ℕ → Tree → List Parent → Result State JsonFault
letters_left [] v parents = Ok (put v parents)
letters_left (c ∷ cs) v parents = go (in_word c cs v) parents

unfoldable pub word_byte : ℕ → ℕ → List ℕ → Tree → List Parent → ℕ → Result State JsonFault
word_byte at letter letters v parents b = if b == letter then letters_left letters v parents else wrong at

unfoldable pub digit_byte : ℕ → NumberByte → ℕ → List ℕ → List Parent → ℕ → Result State JsonFault
digit_byte at (digit.Inside part) start text parents b = go (in_number part start (text ++ b ∷ [])) parents
digit_byte at digit.After start text parents b = after_number at (number text) parents b
digit_byte at digit.Exponent start text parents b = Err (fault.Number start)
digit_byte at digit.Wrong start text parents b = wrong at

unfoldable pub string_goes : ℕ → QuotedNext → List Parent → Result State JsonFault
string_goes at (next.Continues q) parents = go (in_string q) parents
string_goes at (next.Closed text) parents = Ok (put (string text) parents)
string_goes at next.Wrong parents = wrong at

-- a name is whole
unfoldable pub named : Members → ℕ → List ℕ → List Parent → Result State JsonFault
named members start name parents =
    if is_named name members then Err (fault.RepeatedKey start) else go at_colon (in_object members name ∷ parents)

unfoldable pub name_goes : ℕ → Members → ℕ → QuotedNext → List Parent → Result State JsonFault
name_goes at members start (next.Continues q) parents = go (in_name members start q) parents
name_goes at members start (next.Closed text) parents = named members start text parents
name_goes at ms start next.Wrong parents = wrong at

-- one byte more, which has this place
abbrev pub step_at : ℕ → Stage → List Parent → ℕ → Result State JsonFault
step_at at at_top parents b = top_byte at parents b
step_at at at_first_value parents b = first_value_byte at parents b
step_at at at_value parents b = next_value_byte at parents b
step_at at at_first_name parents b = first_name_byte at parents b
step_at at (at_name members) parents b = next_name_byte at members parents b
step_at at at_colon parents b = colon_byte at parents b
step_at at (after_item items) parents b = item_byte at items parents b
step_at at (after_member members) parents b = member_byte at members parents b
step_at at (in_word letter letters v) parents b = word_byte at letter letters v parents b
step_at at (in_number part start text) parents b = digit_byte at (number_byte part b) start text parents b
step_at at (in_string q) parents b = string_goes at (quoted_next q b) parents
step_at at (in_name members start q) parents b = name_goes at members start (quoted_next q b) parents
step_at at (at_end v) parents b = end_byte at v parents b

abbrev pub step : ℕ → State → ℕ → Result State JsonFault
step at s b = step_at at s.stage s.parents b

infixl 10 ◌>>=◌
abbrev pub ◌>>=◌ : {A B : Type 0} → Result A JsonFault → (A → Result B JsonFault) → Result B JsonFault
(Ok x) >>= f = f x
(Err e) >>= f = Err e

-- all of these bytes, the first of which has this place
abbrev pub run : ℕ → State → List ℕ → Result State JsonFault
run at s [] = Ok s
run at s (b ∷ bs) = step at s b >>= λ t. run (at + 1) t bs

abbrev pub at_start : State
at_start = record { stage = at_top; parents = [] }

-- the tree where the text ends, or that it is cut off there
abbrev pub ended : ℕ → Stage → Result Tree JsonFault
ended at (at_end v) = Ok v
ended at stage = Err (fault.Syntax at)

-- what a text is read as
unfoldable pub reading : List ℕ → Result Tree JsonFault
reading bytes =
    if nat_lt most_bytes (length bytes) then Err fault.TooLong
    else run 0 at_start bytes >>= λ s. ended (length bytes) s.stage

-- What a function returned, seen by view, is what reading gives, unless memory ran out.
abbrev pub Fails : {Y : Type 0} → JsonFault → Result Y JsonFault → Type 0
Fails fault.NoMemory read = Unit {0}
Fails f read = read ≡ Err f

abbrev pub Gives : {X Y : Type 0} → (X → Y) → Result X JsonFault → Result Y JsonFault → Type 0
Gives view (Ok x) read = read ≡ Ok (view x)
Gives view (Err e) read = Fails e read
