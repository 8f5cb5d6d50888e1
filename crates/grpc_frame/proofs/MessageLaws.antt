-- The messages of a text: what is reported stays reported, and a text that is cut has the messages of its pieces.
use Rattle.std.proofs.Common.{◌≡◌, ℕ, zero, suc, ◌+◌, ◌-◌, ◌*◌, ◌/◌, ◌%◌, ◌<◌, ◌≤◌, Bool, true, false, cond, Option, Some, None, List, [], ◌∷◌, ◌++◌, length, take, drop, refl, ap, sym, ◌∙◌, subst, arith, append_assoc, length-append, length-drop}
use Rattle.std.proofs.lemmas.Bool.Decides.{nat_tests}
use Rattle.std.proofs.lemmas.List.{append-nil, take-append-drop, drop-append-le, take-append-le, length-take-le}
use Rattle.std.proofs.lemmas.List.Concat.{flat_map-cons}
use Rattle.std.proofs.Math.Seq.{take-append_seam, drop-append_seam}
use Rattle.std.specs.List.{AllByRecursion}
use Rattle.std.specs.Prelude.{nat_lt, nat_le}
use Rattle.h2_frame.specs.Frames.{bytes_32}
use Rattle.grpc_frame.specs.declared.next.MessageFault.{MessageFault}
use Rattle.grpc_frame.specs.declared.next.MessageFault.TheVariants as fault
use Rattle.grpc_frame.specs.declared.next.NextMessage.{NextMessage}
use Rattle.grpc_frame.specs.declared.next.NextMessage.TheVariants as next
use Rattle.grpc_frame.specs.Messages.{AreMessages, Messages, before, framed, framed_all, length_reported, messages_by, messages_of, messages_within, next_by, next_of, next_reported}
use Rattle.grpc_frame.specs.Reader.{given, reader_after, reader_of}
use Rattle.grpc_frame.specs.Read.{before_all}

-- a message at the start of a text
pub record IsWhole (limit len : ℕ) (text : List ℕ) : Type 0 where
  pub reported : length_reported text ≡ Some len
  pub within : len ≤ limit
  pub there : 5 + len ≤ length text

by_tests : (b c : Bool) (n len : ℕ) (f : NextMessage) → (f ≡ next.Whole len → ⊥) → cond b f (cond c (next.Whole n) next.Partial) ≡ next.Whole len → (b ≡ false) × (c ≡ true) × (n ≡ len)
by_tests true c n len f other h = absurd (other h)
by_tests false true n len f other h = (refl, refl, (cc))
by_tests false false n len f other h = absurd (cc)

whole_by : (limit size len : ℕ) (o : Option ℕ) → next_by limit size o ≡ next.Whole len → (o ≡ Some len) × (len ≤ limit) × (5 + len ≤ size)
whole_by limit size len None h = absurd (cc)
whole_by limit size len (Some n) h =
    let parts = by_tests (nat_lt limit n) (nat_le (5 + n) size) n len (next.Fault (fault.TooLarge n)) (λ e. (cc)) h in
    (ap Some parts.2, grind (arith, nat_tests, parts.0, parts.2), grind (arith, nat_tests, parts.1, parts.2))

pub whole_is : (limit len : ℕ) (text : List ℕ) → next_of limit text ≡ next.Whole len → IsWhole limit len text
whole_is limit len [] h = absurd (cc)
whole_is limit len (zero ∷ text) h =
    let parts = whole_by limit (length (zero ∷ text)) len (length_reported (zero ∷ text)) h in
    record { reported = parts.0; within = parts.1; there = parts.2 }
whole_is limit len (suc flag ∷ text) h = absurd (cc)

by_length : (limit size len : ℕ) (o : Option ℕ) → o ≡ Some len → len ≤ limit → 5 + len ≤ size → next_by limit size o ≡ next.Whole len
by_length limit size len o e within there =
    let low : nat_lt limit len ≡ false = grind (arith, nat_tests) in
    let high : nat_le (5 + len) size ≡ true = grind (arith, nat_tests) in
    rw (e, low, high) refl

pub is_whole : (limit len : ℕ) (text : List ℕ) → IsWhole limit len text → next_of limit text ≡ next.Whole len
is_whole limit len [] w = absurd (let no : None ≡ Some len = w.reported in (cc))
is_whole limit len (zero ∷ text) w = by_length limit (length (zero ∷ text)) len (length_reported (zero ∷ text)) w.reported w.within w.there
is_whole limit len (suc flag ∷ text) w = absurd (let no : None ≡ Some len = w.reported in (cc))

pub reported_stays : (text more : List ℕ) (len : ℕ) → length_reported text ≡ Some len → length_reported (text ++ more) ≡ Some len
reported_stays [] more len h = absurd (cc)
reported_stays (suc flag ∷ text) more len h = absurd (cc)
reported_stays (zero ∷ []) more len h = absurd (cc)
reported_stays (zero ∷ a ∷ []) more len h = absurd (cc)
reported_stays (zero ∷ a ∷ b ∷ []) more len h = absurd (cc)
reported_stays (zero ∷ a ∷ b ∷ c ∷ []) more len h = absurd (cc)
reported_stays (zero ∷ a ∷ b ∷ c ∷ d ∷ text) more len h = h

pub whole_stays : (limit len : ℕ) (text more : List ℕ) → next_of limit text ≡ next.Whole len → next_of limit (text ++ more) ≡ next.Whole len
whole_stays limit len text more h =
    let w = whole_is limit len text h in
    is_whole limit len (text ++ more)
    (record { reported = reported_stays text more len w.reported; within = w.within; there = omega (arith, w.there, length-append text more) })

fault_tests : (b c : Bool) (n : ℕ) (f : MessageFault) → cond b (next.Fault (fault.TooLarge n)) (cond c (next.Whole n) next.Partial) ≡ next.Fault f → (b ≡ true) × (f ≡ fault.TooLarge n)
fault_tests true c n f h = (refl, (cc))
fault_tests false true n f h = absurd (cc)
fault_tests false false n f h = absurd (cc)

fault_by : (limit size size' : ℕ) (o o' : Option ℕ) (f : MessageFault) → ((n : ℕ) → o ≡ Some n → o' ≡ Some n) → next_by limit size o ≡ next.Fault f → next_by limit size' o' ≡ next.Fault f
fault_by limit size size' None o' f stays h = absurd (cc)
fault_by limit size size' (Some n) o' f stays h =
    let parts = fault_tests (nat_lt limit n) (nat_le (5 + n) size) n f h in
    rw (stays n refl, parts.0, parts.1) refl

pub fault_stays : (limit : ℕ) (f : MessageFault) (text more : List ℕ) → next_of limit text ≡ next.Fault f → next_of limit (text ++ more) ≡ next.Fault f
fault_stays limit f [] more h = absurd (cc)
fault_stays limit f (zero ∷ text) more h =
    fault_by limit (length (zero ∷ text)) (length (zero ∷ text ++ more)) (length_reported (zero ∷ text)) (length_reported (zero ∷ text ++ more)) f (reported_stays (zero ∷ text) more) h
fault_stays limit f (suc flag ∷ text) more h = h

-- enough steps are enough
nothing_there : (limit n : ℕ) → messages_within limit n [] ≡ record { whole = []; rest = []; fault = None }
nothing_there limit zero = refl
nothing_there limit (suc n) = refl

by_same : (r : NextMessage) (text : List ℕ) (f g : List ℕ → Messages) → ((len : ℕ) → r ≡ next.Whole len → f (drop len (drop 5 text)) ≡ g (drop len (drop 5 text))) → messages_by r text f ≡ messages_by r text g
by_same (next.Whole len) text f g same = ap (before (take len (drop 5 text))) (same len refl)
by_same next.Partial text f g same = refl
by_same (next.Fault e) text f g same = refl

shorter : (limit len : ℕ) (text : List ℕ) → next_of limit text ≡ next.Whole len → 5 + length (drop len (drop 5 text)) ≤ length text
shorter limit len text h =
    let w = whole_is limit len text h in
    omega (arith, w.there, length-drop len (drop 5 text), length-drop 5 text)

enough : (limit m n : ℕ) (text : List ℕ) → length text ≤ m → length text ≤ n → messages_within limit m text ≡ messages_within limit n text
enough limit m n [] p q = nothing_there limit m ∙ sym (nothing_there limit n)
enough limit zero n (x ∷ text) p q = let no : ⊥ = omega arith in absurd no
enough limit (suc m) zero (x ∷ text) p q = let no : ⊥ = omega arith in absurd no
enough limit (suc m) (suc n) (x ∷ text) p q =
    by_same (next_of limit (x ∷ text)) (x ∷ text) (messages_within limit m) (messages_within limit n)
    (λ len h. enough limit m n (drop len (drop 5 (x ∷ text))) (omega (arith, shorter limit len (x ∷ text) h)) (omega (arith, shorter limit len (x ∷ text) h)))

-- the messages of a text, by what stands at its start
pub messages_are : (limit : ℕ) (text : List ℕ) → messages_of limit text ≡ messages_by (next_of limit text) text (messages_of limit)
messages_are limit [] = refl
messages_are limit (x ∷ text) =
    by_same (next_of limit (x ∷ text)) (x ∷ text) (messages_within limit (length text)) (messages_of limit)
    (λ len h. enough limit (length text) (length (drop len (drop 5 (x ∷ text)))) (drop len (drop 5 (x ∷ text))) (omega (arith, shorter limit len (x ∷ text) h)) (omega arith))

-- one message before
pub messages_next : (limit len : ℕ) (text : List ℕ) → next_of limit text ≡ next.Whole len → messages_of limit text ≡ before (take len (drop 5 text)) (messages_of limit (drop len (drop 5 text)))
messages_next limit len text h = messages_are limit text ∙ ap (λ (r : NextMessage). messages_by r text (messages_of limit)) h

pub messages_none : (limit : ℕ) (text : List ℕ) → next_of limit text ≡ next.Partial → messages_of limit text ≡ record { whole = []; rest = text; fault = None }
messages_none limit text h = messages_are limit text ∙ ap (λ (r : NextMessage). messages_by r text (messages_of limit)) h

pub messages_fault : (limit : ℕ) (f : MessageFault) (text : List ℕ) → next_of limit text ≡ next.Fault f → messages_of limit text ≡ record { whole = []; rest = text; fault = Some f }
messages_fault limit f text h = messages_are limit text ∙ ap (λ (r : NextMessage). messages_by r text (messages_of limit)) h

-- the messages of a text with a piece after it
abbrev pub joined_by : ℕ → Option MessageFault → Messages → List ℕ → Messages
joined_by limit None m piece = before_all m.whole (messages_of limit (m.rest ++ piece))
joined_by limit (Some f) m piece = record { whole = m.whole; rest = m.rest ++ piece; fault = Some f }

abbrev pub joined : ℕ → Messages → List ℕ → Messages
joined limit m piece = joined_by limit m.fault m piece

joined_before : (limit : ℕ) (o : Option MessageFault) (message piece : List ℕ) (m : Messages) → joined_by limit o (before message m) piece ≡ before message (joined_by limit o m piece)
joined_before limit None message piece m = refl
joined_before limit (Some f) message piece m = refl

join_by : (limit : ℕ) (r : NextMessage) (text piece : List ℕ) → next_of limit text ≡ r
    → ((len : ℕ) → r ≡ next.Whole len → messages_of limit (drop len (drop 5 text) ++ piece) ≡ joined limit (messages_of limit (drop len (drop 5 text))) piece)
    → messages_of limit (text ++ piece) ≡ joined limit (messages_of limit text) piece
join_by limit (next.Whole len) text piece h later =
    let w = whole_is limit len text h in
    let five : drop 5 (text ++ piece) ≡ drop 5 text ++ piece = drop-append-le 5 text piece (omega (arith, w.there)) in
    let size : length (drop 5 text) ≡ length text - 5 = length-drop 5 text in
    let fits : len ≤ length (drop 5 text) = omega (arith, size, w.there) in
    let message : take len (drop 5 (text ++ piece)) ≡ take len (drop 5 text) = ap (take len) five ∙ take-append-le len (drop 5 text) piece fits in
    let afterwards : drop len (drop 5 (text ++ piece)) ≡ drop len (drop 5 text) ++ piece = ap (drop len) five ∙ drop-append-le len (drop 5 text) piece fits in
    let rest : List ℕ = drop len (drop 5 text) in
    messages_next limit len (text ++ piece) (whole_stays limit len text piece h)
    ∙ ap (λ (xs : List ℕ). before xs (messages_of limit (drop len (drop 5 (text ++ piece))))) message
    ∙ ap (λ (xs : List ℕ). before (take len (drop 5 text)) (messages_of limit xs)) afterwards
    ∙ ap (before (take len (drop 5 text))) (later len refl)
    ∙ sym (joined_before limit (messages_of limit rest).fault (take len (drop 5 text)) piece (messages_of limit rest))
    ∙ ap (λ (m : Messages). joined limit m piece) (sym (messages_next limit len text h))
join_by limit next.Partial text piece h later =
    ap (λ (m : Messages). joined limit m piece) (sym (messages_none limit text h))
join_by limit (next.Fault f) text piece h later =
    messages_fault limit f (text ++ piece) (fault_stays limit f text piece h)
    ∙ ap (λ (m : Messages). joined limit m piece) (sym (messages_fault limit f text h))

join_within : (limit n : ℕ) (text piece : List ℕ) → length text ≤ n → messages_of limit (text ++ piece) ≡ joined limit (messages_of limit text) piece
join_within limit zero [] piece small = refl
join_within limit zero (x ∷ text) piece small = let no : ⊥ = omega arith in absurd no
join_within limit (suc n) text piece small =
    join_by limit (next_of limit text) text piece refl
    (λ len h. join_within limit n (drop len (drop 5 text)) piece (omega (arith, shorter limit len text h)))

pub join : (limit : ℕ) (text piece : List ℕ) → messages_of limit (text ++ piece) ≡ joined limit (messages_of limit text) piece
join limit text piece = join_within limit (length text) text piece (omega arith)

-- what a reader gives is what the longer text has more
more_messages : (limit : ℕ) (o : Option MessageFault) (whole : List (List ℕ)) (rest piece : List ℕ) →
    (joined limit (record { whole = whole; rest = rest; fault = o }) piece).whole ≡ whole ++ (given (reader_after limit (record { whole = whole; rest = rest; fault = o })) piece).messages
more_messages limit None whole rest piece = refl
more_messages limit (Some f) whole rest piece = sym (append-nil whole)

more_fault : (limit : ℕ) (o : Option MessageFault) (whole : List (List ℕ)) (rest piece : List ℕ) →
    (joined limit (record { whole = whole; rest = rest; fault = o }) piece).fault ≡ (given (reader_after limit (record { whole = whole; rest = rest; fault = o })) piece).fault
more_fault limit None whole rest piece = refl
more_fault limit (Some f) whole rest piece = refl

more_reader : (limit : ℕ) (o : Option MessageFault) (whole : List (List ℕ)) (rest piece : List ℕ) →
    reader_after limit (joined limit (record { whole = whole; rest = rest; fault = o }) piece) ≡ (given (reader_after limit (record { whole = whole; rest = rest; fault = o })) piece).reader
more_reader limit None whole rest piece = refl
more_reader limit (Some f) whole rest piece = refl

pub pieces_messages : (limit : ℕ) (text piece : List ℕ) → (messages_of limit (text ++ piece)).whole ≡ (messages_of limit text).whole ++ (given (reader_of limit text) piece).messages
pieces_messages limit text piece =
    let m = messages_of limit text in
    ap (λ (n : Messages). n.whole) (join limit text piece) ∙ more_messages limit m.fault m.whole m.rest piece

pub pieces_fault : (limit : ℕ) (text piece : List ℕ) → (messages_of limit (text ++ piece)).fault ≡ (given (reader_of limit text) piece).fault
pieces_fault limit text piece =
    let m = messages_of limit text in
    ap (λ (n : Messages). n.fault) (join limit text piece) ∙ more_fault limit m.fault m.whole m.rest piece

pub pieces_reader : (limit : ℕ) (text piece : List ℕ) → reader_of limit (text ++ piece) ≡ (given (reader_of limit text) piece).reader
pieces_reader limit text piece =
    let m = messages_of limit text in
    ap (reader_after limit) (join limit text piece) ∙ more_reader limit m.fault m.whole m.rest piece

-- the messages of a text are framed in it
prefix_framed : (a b c d : ℕ) (text : List ℕ) (len : ℕ) → a < 256 → b < 256 → c < 256 → d < 256 → a * 16777216 + b * 65536 + c * 256 + d ≡ len → len ≤ length text
    → framed (take len text) ++ drop len text ≡ 0 ∷ a ∷ b ∷ c ∷ d ∷ text
prefix_framed a b c d text len a' b' c' d' e there =
    let size : length (take len text) ≡ len = length-take-le len text there in
    let p : len / 16777216 ≡ a = omega arith in
    let q : len / 65536 % 256 ≡ b = omega arith in
    let r : len / 256 % 256 ≡ c = omega arith in
    let s : len % 256 ≡ d = omega arith in
    let four : bytes_32 (length (take len text)) ≡ a ∷ b ∷ c ∷ d ∷ [] = ap bytes_32 size ∙ rw (p, q, r, s) refl in
    ap (λ (xs : List ℕ). 0 ∷ (xs ++ take len text) ++ drop len text) four
    ∙ ap (λ (xs : List ℕ). 0 ∷ a ∷ b ∷ c ∷ d ∷ xs) (take-append-drop len text)

no_length : (limit len : ℕ) (text : List ℕ) → next_of limit text ≡ next.Whole len → length_reported text ≡ None → ⊥
no_length limit len text h e = let w = whole_is limit len text h in let no : Some len ≡ None = sym w.reported ∙ e in (cc)

pub whole_framed : (limit len : ℕ) (text : List ℕ) → AllByRecursion (λ b. b < 256) text → next_of limit text ≡ next.Whole len
    → framed (take len (drop 5 text)) ++ drop len (drop 5 text) ≡ text
whole_framed limit len (zero ∷ a ∷ b ∷ c ∷ d ∷ text) bytes h =
    let w = whole_is limit len (zero ∷ a ∷ b ∷ c ∷ d ∷ text) h in
    let e : Some (a * 16777216 + b * 65536 + c * 256 + d) ≡ Some len = w.reported in
    let n : a * 16777216 + b * 65536 + c * 256 + d ≡ len = (cc) in
    prefix_framed a b c d text len bytes.1.0 bytes.1.1.0 bytes.1.1.1.0 bytes.1.1.1.1.0 n (omega (arith, w.there))
whole_framed limit len [] bytes h = absurd (no_length limit len [] h refl)
whole_framed limit len (suc flag ∷ text) bytes h = absurd (no_length limit len (suc flag ∷ text) h refl)
whole_framed limit len (zero ∷ []) bytes h = absurd (no_length limit len (zero ∷ []) h refl)
whole_framed limit len (zero ∷ a ∷ []) bytes h = absurd (no_length limit len (zero ∷ a ∷ []) h refl)
whole_framed limit len (zero ∷ a ∷ b ∷ []) bytes h = absurd (no_length limit len (zero ∷ a ∷ b ∷ []) h refl)
whole_framed limit len (zero ∷ a ∷ b ∷ c ∷ []) bytes h = absurd (no_length limit len (zero ∷ a ∷ b ∷ c ∷ []) h refl)

bytes_after : (n : ℕ) (text : List ℕ) → AllByRecursion (λ b. b < 256) text → AllByRecursion (λ b. b < 256) (drop n text)
bytes_after zero text h = h
bytes_after (suc n) [] h = tt
bytes_after (suc n) (x ∷ text) h = bytes_after n text h.1

message_within : (limit len : ℕ) (text : List ℕ) → IsWhole limit len text → length (take len (drop 5 text)) ≤ limit
message_within limit len text w =
    let size : length (take len (drop 5 text)) ≡ len = length-take-le len (drop 5 text) (omega (arith, w.there, length-drop 5 text)) in
    omega (arith, size, w.within)

are_before : (limit : ℕ) (message afterwards text : List ℕ) (m : Messages) → framed message ++ afterwards ≡ text → length message ≤ limit → AreMessages limit afterwards m → AreMessages limit text (before message m)
are_before limit message afterwards text m e within are = record {
  joined = sym e ∙ ap (λ (xs : List ℕ). framed message ++ xs) are.joined
      ∙ sym (append_assoc (framed message) (framed_all m.whole) m.rest)
      ∙ ap (λ (xs : List ℕ). xs ++ m.rest) (sym (flat_map-cons framed message m.whole));
  within = (within, are.within);
  rest = are.rest;
}

are_by : (limit : ℕ) (r : NextMessage) (text : List ℕ) → AllByRecursion (λ b. b < 256) text → next_of limit text ≡ r
    → ((len : ℕ) → r ≡ next.Whole len → AreMessages limit (drop len (drop 5 text)) (messages_of limit (drop len (drop 5 text))))
    → AreMessages limit text (messages_of limit text)
are_by limit (next.Whole len) text bytes h later =
    let P : Messages → Type 0 = λ m. AreMessages limit text m in
    subst P (sym (messages_next limit len text h))
    (are_before limit (take len (drop 5 text)) (drop len (drop 5 text)) text (messages_of limit (drop len (drop 5 text)))
    (whole_framed limit len text bytes h) (message_within limit len text (whole_is limit len text h)) (later len refl))
are_by limit next.Partial text bytes h later =
    let P : Messages → Type 0 = λ m. AreMessages limit text m in
    subst P (sym (messages_none limit text h)) (record { joined = refl; within = tt; rest = h })
are_by limit (next.Fault f) text bytes h later =
    let P : Messages → Type 0 = λ m. AreMessages limit text m in
    subst P (sym (messages_fault limit f text h)) (record { joined = refl; within = tt; rest = h })

are_within : (limit n : ℕ) (text : List ℕ) → length text ≤ n → AllByRecursion (λ b. b < 256) text → AreMessages limit text (messages_of limit text)
are_within limit zero [] small bytes = are_by limit (next_of limit []) [] bytes refl (λ len h. absurd (cc))
are_within limit zero (x ∷ text) small bytes = let no : ⊥ = omega arith in absurd no
are_within limit (suc n) text small bytes =
    are_by limit (next_of limit text) text bytes refl
    (λ len h. are_within limit n (drop len (drop 5 text)) (omega (arith, shorter limit len text h)) (bytes_after len (drop 5 text) (bytes_after 5 text bytes)))

pub texts_are_messages : (limit : ℕ) (text : List ℕ) → AllByRecursion (λ b. b < 256) text → AreMessages limit text (messages_of limit text)
texts_are_messages limit text bytes = are_within limit (length text) text (omega arith) bytes

-- and what is framed is read
framed_is_whole : (limit : ℕ) (message afterwards : List ℕ) → length message ≤ limit → next_of limit (framed message ++ afterwards) ≡ next.Whole (length message)
framed_is_whole limit message afterwards within =
    let n = length message in
    let number : n / 16777216 * 16777216 + n / 65536 % 256 * 65536 + n / 256 % 256 * 256 + n % 256 ≡ n = omega arith in
    is_whole limit n (framed message ++ afterwards)
    (record { reported = ap Some number; within = within; there = omega (arith, length-append message afterwards) })

framed_next : (limit : ℕ) (message afterwards : List ℕ) → length message ≤ limit → messages_of limit (framed message ++ afterwards) ≡ before message (messages_of limit afterwards)
framed_next limit message afterwards within =
    messages_next limit (length message) (framed message ++ afterwards) (framed_is_whole limit message afterwards within)
    ∙ ap (λ (xs : List ℕ). before xs (messages_of limit (drop (length message) (message ++ afterwards)))) (take-append_seam message afterwards)
    ∙ ap (λ (xs : List ℕ). before message (messages_of limit xs)) (drop-append_seam message afterwards)

rest_read : (limit : ℕ) (rest : List ℕ) (o : Option MessageFault) → next_of limit rest ≡ next_reported o → messages_of limit rest ≡ record { whole = []; rest = rest; fault = o }
rest_read limit rest None h = messages_none limit rest h
rest_read limit rest (Some f) h = messages_fault limit f rest h

framed_read : (limit : ℕ) (whole : List (List ℕ)) (rest : List ℕ) (o : Option MessageFault) → AllByRecursion (λ message. length message ≤ limit) whole → next_of limit rest ≡ next_reported o
    → messages_of limit (framed_all whole ++ rest) ≡ record { whole = whole; rest = rest; fault = o }
framed_read limit [] rest o within h = rest_read limit rest o h
framed_read limit (message ∷ whole) rest o within h =
    ap (λ (xs : List ℕ). messages_of limit (xs ++ rest)) (flat_map-cons framed message whole)
    ∙ ap (messages_of limit) (append_assoc (framed message) (framed_all whole) rest)
    ∙ framed_next limit message (framed_all whole ++ rest) within.0
    ∙ ap (before message) (framed_read limit whole rest o within.1 h)

are_those : (limit : ℕ) (text : List ℕ) (m : Messages) → AreMessages limit text m → messages_of limit text ≡ m
are_those limit text m are = ap (messages_of limit) are.joined ∙ framed_read limit m.whole m.rest m.fault are.within are.rest

pub one_way : (limit : ℕ) (text : List ℕ) (m n : Messages) → AreMessages limit text m → AreMessages limit text n → m ≡ n
one_way limit text m n p q = sym (are_those limit text m p) ∙ are_those limit text n q
