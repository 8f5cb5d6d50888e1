-- The answers of a server script, line by line.
use Rattle.std.proofs.Common.{◌≡◌, ◌≢◌, ◌⊎◌, ◌∙◌, ◌<◌, ◌≤◌, ℕ, ◌+◌, suc, zero, List, [], ◌∷◌, ◌++◌, All, Bool, true, false, cond, Option, ap, append_assoc, arith, inl, inr, length, length-append, refl, subst, sym, take}
use Rattle.std.specs.Prelude.{Result, Ok, Err, IfErr, IfOk, OnOk, nat_eq, slice_index_or}
use Rattle.std.specs.Cmp.Lexicographic.{pointwise}
use Rattle.std.specs.Str.{bytes_eq}
use Rattle.std.proofs.lemmas.List.{append_cancel_right}
use Rattle.std.proofs.lemmas.List.Elements.{All-append, All-cons, All-nil}
use Rattle.std.proofs.lemmas.List.Sums.{sum_by-cons}
use Rattle.std.proofs.lemmas.Slice.Eq.{bytes_eq-Decides}
use Rattle.grpc_base.specs.declared.script.AnswerLine.{AnswerLine}
use Rattle.grpc_base.specs.Pieces.{pieces}
use Rattle.grpc_base.specs.declared.script.ServerScript.{ServerScript}
use Rattle.grpc_base.specs.Scripts.{AnswersAreNumbered, IsAnswer, IsServerScript, count_of as times}
use Rattle.gate_io.specs.Outside.{IsAtEnd, Rises, Takes}
use Rattle.script_fields.specs.Spelling.{fields}
use Rattle.script_fields.proofs.TextLaws.{bool_cases}
use Rattle.script_lines.specs.declared.line.ScriptLine.{ScriptLine}
use Rattle.script_lines.specs.declared.line.ScriptLine.TheVariants as line
use Rattle.script_lines.specs.declared.reader.BadLine.{BadLine}
use Rattle.script_lines.specs.declared.reader.BadLine.TheVariants as bad
use Rattle.script_lines.specs.declared.reader.ScriptKind.{ScriptKind}
use Rattle.script_lines.specs.declared.reader.ScriptKind.TheVariants as script
use Rattle.script_lines.specs.Answers.{Answered, IsAnswerFault, IsAnswerFields, IsAnswerText, count_of}
use Rattle.script_lines.specs.Fields.{IsNumber, number_limit}
use Rattle.script_lines.specs.Causes.{Before}
use Rattle.script_lines.specs.Lines.{IsRawFault, IsRawLine}
use Rattle.script_lines.specs.Reader.{IsBadLine, IsStateAfter, IsKindFault, IsKindLine, IsLine, IsLineFault, KeepsRules, ReaderSeen, answer_count}
use Rattle.script_lines.proofs.OneLine.{line_one}
use Rattle.script_input.specs.declared.fault.InputFault.{InputFault}
use Rattle.script_input.specs.declared.fault.InputFault.TheVariants as fault
use Rattle.script_input.specs.declared.server.AnswerLines.{AnswerLines}
use Rattle.script_input.specs.AnswersTaken.{HasTakenAnswers, RefusesAnswer}
use Rattle.script_input.specs.Feeding.{FindsLine, ReadsLines, RefusesLine, StopsBy, StopsLines}
use Rattle.script_input.specs.Scripts.{is_closed}
use Rattle.script_lines.proofs.ReaderLaws.{read_raw}
use Rattle.script_input.specs.Servers.{AreAnswers, FindsBadAnswer, GivesNoServer, IsAnswerRead, IsFirstBadAnswer, IsKeptAnswer, IsOnlyServer, IsServer, ReadsServer, StopsInAnswers, answered_by}

-- ---- one line more

answers_more : (answered : Answered) (n : ℕ) (texts : List (List ℕ)) (answers : List AnswerLine) (text : List ℕ) (answer : AnswerLine) → AreAnswers answered n texts answers → IsRawLine (n + length texts) text true → IsAnswerText (answered_by answered answers) (fields text) answer → AreAnswers answered n (texts ++ text ∷ []) (answers ++ answer ∷ [])
answers_more answered n [] [] text answer lines raw is = ((subst (λ (k : ℕ). IsRawLine k text true) (omega arith) raw, is), tt)
answers_more answered n (t ∷ texts) (a ∷ answers) text answer lines raw is =
    (lines.0, answers_more ((a.path, a.n) ∷ answered) (n + 1) texts answers text answer lines.1 (subst (λ (k : ℕ). IsRawLine k text true) (omega arith) raw) is)
answers_more answered n [] (a ∷ answers) text answer lines raw is = absurd lines
answers_more answered n (t ∷ texts) [] text answer lines raw is = absurd lines

answered_more : (answered : Answered) (answers : List AnswerLine) (answer : AnswerLine) → answered_by answered (answers ++ answer ∷ []) ≡ (answer.path, answer.n) ∷ answered_by answered answers
answered_more answered [] answer = refl
answered_more answered (a ∷ answers) answer = answered_more ((a.path, a.n) ∷ answered) answers answer

same_text : (a b : List ℕ) → pointwise nat_eq a b ≡ true → a ≡ b
same_text a b = (bytes_eq-Decides a b).0

same_is : (a : List ℕ) → pointwise nat_eq a a ≡ true
same_is a = (bytes_eq-Decides a a).1 refl

apart_is : (a b : List ℕ) → pointwise nat_eq a b ≡ false → pointwise nat_eq b a ≡ false
apart_is a b apart = elim (bool_cases (pointwise nat_eq b a)) [
  | inl same ↦ (let e : b ≡ a = same_text b a same in let yes : pointwise nat_eq a b ≡ true = subst (λ (x : List ℕ). pointwise nat_eq a x ≡ true) (sym e) (same_is a) in absurd (cc))
  | inr other ↦ other
]

-- how often a path stood after one answer more
count_next : (answered : Answered) (answer : AnswerLine) (path : List ℕ) → answer.n ≡ count_of answered answer.path + 1 → count_of ((answer.path, answer.n) ∷ answered) path ≡ count_of answered path + answer_count (line.Answer answer) path
count_next answered answer path number = elim (bool_cases (pointwise nat_eq answer.path path)) [
  | inl same ↦ (
      let e : answer.path ≡ path = same_text answer.path path same in
      let back : pointwise nat_eq path answer.path ≡ true = subst (λ (x : List ℕ). pointwise nat_eq x answer.path ≡ true) e (same_is answer.path) in
      let one : answer_count (line.Answer answer) path ≡ 1 = rw same refl in
      let found : count_of ((answer.path, answer.n) ∷ answered) path ≡ answer.n = rw back refl in
      omega (arith, found, one, number, ap (count_of answered) e)
      )
  | inr other ↦ (
      let back : pointwise nat_eq path answer.path ≡ false = apart_is answer.path path other in
      let none : answer_count (line.Answer answer) path ≡ 0 = rw other refl in
      let passed : count_of ((answer.path, answer.n) ∷ answered) path ≡ count_of answered path = rw back refl in
      omega (arith, passed, none)
      )
]

-- ---- what a line says depends on the counts alone

text_by : (answered other : Answered) (texts : List (List ℕ)) (answer : AnswerLine) → ((path : List ℕ) → count_of answered path ≡ count_of other path) → IsAnswerText answered texts answer → IsAnswerText other texts answer
text_by answered other (name ∷ path ∷ n ∷ parts ∷ []) answer same is = (is.0, is.1, is.2, (is.3 ∙ ap (λ (k : ℕ). k + 1) (same path)), is.4, is.5)
text_by answered other [] answer same is = absurd is
text_by answered other (a ∷ []) answer same is = absurd is
text_by answered other (a ∷ b ∷ []) answer same is = absurd is
text_by answered other (a ∷ b ∷ c ∷ []) answer same is = absurd is
text_by answered other (a ∷ b ∷ c ∷ d ∷ e ∷ more) answer same is = absurd is

fields_fault_by : (answered other : Answered) (texts : List (List ℕ)) (c : ℕ) → ((path : List ℕ) → count_of answered path ≡ count_of other path) → IsAnswerFields answered texts c → IsAnswerFields other texts c
fields_fault_by answered other (path ∷ n ∷ parts ∷ []) c same (inl of_path) = inl of_path
fields_fault_by answered other (path ∷ n ∷ parts ∷ []) c same (inr (good, inl of_number)) =
    inr (good, inl (subst (λ (k : ℕ). IsNumber number_limit (k + 1) n → ⊥) (same path) of_number.0, of_number.1))
fields_fault_by answered other (path ∷ n ∷ parts ∷ []) c same (inr (good, inr of_parts)) =
    inr (good, inr (subst (λ (k : ℕ). IsNumber number_limit (k + 1) n) (same path) of_parts.0, of_parts.1))
fields_fault_by answered other [] c same fault = absurd fault
fields_fault_by answered other (a ∷ []) c same fault = absurd fault
fields_fault_by answered other (a ∷ b ∷ []) c same fault = absurd fault
fields_fault_by answered other (a ∷ b ∷ d ∷ e ∷ more) c same fault = absurd fault

fault_by : (answered other : Answered) (texts : List (List ℕ)) (c : ℕ) → ((path : List ℕ) → count_of answered path ≡ count_of other path) → IsAnswerFault answered texts c → IsAnswerFault other texts c
fault_by answered other [] c same fault = absurd fault
fault_by answered other (name ∷ others) c same (inl of_name) = inl of_name
fault_by answered other (name ∷ others) c same (inr (good, inl of_count)) = inr (good, inl of_count)
fault_by answered other (name ∷ others) c same (inr (good, inr of_fields)) = inr (good, inr (of_fields.0, fields_fault_by answered other others c same of_fields.1))

-- ---- the reader

-- a line of a server script is an answer
pub answer_read : (r : ReaderSeen) (text : List ℕ) (read : ScriptLine) → r.kind ≡ script.Server → IsLine r text true read → IsAnswerRead read
answer_read r text (line.Answer answer) kind is = tt
answer_read r text (line.Channel target value) kind is = absurd (subst (λ (k : ScriptKind). IsKindLine k (r.lines + 1) r.answered (fields text) (line.Channel target value)) kind is.1)
answer_read r text (line.Event s) kind is = absurd (subst (λ (k : ScriptKind). IsKindLine k (r.lines + 1) r.answered (fields text) (line.Event s)) kind is.1)
answer_read r text (line.Config config) kind is = absurd (subst (λ (k : ScriptKind). IsKindLine k (r.lines + 1) r.answered (fields text) (line.Config config)) kind is.1)
answer_read r text (line.Call worker call) kind is = absurd (subst (λ (k : ScriptKind). IsKindLine k (r.lines + 1) r.answered (fields text) (line.Call worker call)) kind is.1)

number_text : (answered : Answered) (texts : List (List ℕ)) (a : AnswerLine) → IsAnswerText answered texts a → a.n ≡ count_of answered a.path + 1
number_text answered (name ∷ path ∷ n ∷ parts ∷ []) a t = t.3 ∙ ap (λ (p : List ℕ). count_of answered p + 1) (sym t.2)
number_text answered [] a t = absurd t
number_text answered (x ∷ []) a t = absurd t
number_text answered (x ∷ y ∷ []) a t = absurd t
number_text answered (x ∷ y ∷ z ∷ []) a t = absurd t
number_text answered (x ∷ y ∷ z ∷ w ∷ v ∷ more) a t = absurd t

-- what an answer more leaves
pub taken_more : (old new : AnswerLines) (text : List ℕ) (answer : AnswerLine) → IsLine old.reader text true (line.Answer answer) → KeepsRules (line.Answer answer) → IsStateAfter old.reader (line.Answer answer) new.reader → new.answers ≡ old.answers ++ answer ∷ [] → (texts : List (List ℕ)) → HasTakenAnswers old texts → HasTakenAnswers new (texts ++ text ∷ [])
taken_more old new text answer is rules afterwards answers texts h =
    let said : IsAnswerText old.reader.answered (fields text) answer = subst (λ (k : ScriptKind). IsKindLine k (old.reader.lines + 1) old.reader.answered (fields text) (line.Answer answer)) h.kind is.1 in
    let there : IsAnswerText (answered_by [] old.answers) (fields text) answer = text_by old.reader.answered (answered_by [] old.answers) (fields text) answer h.counts said in
    let raw : IsRawLine (1 + length texts) text true = subst (λ (k : ℕ). IsRawLine k text true) (omega (arith, h.count)) is.0 in
    let number : answer.n ≡ count_of (answered_by [] old.answers) answer.path + 1 = number_text (answered_by [] old.answers) (fields text) answer there in
    record {
      lines = subst (AreAnswers [] 1 (texts ++ text ∷ [])) (sym answers) (answers_more [] 1 texts old.answers text answer h.lines raw there);
      kind = afterwards.kind ∙ h.kind;
      count = omega (arith, afterwards.lines, h.count, length-append texts (text ∷ []));
      counts = λ path.
          afterwards.answered path
          ∙ ap (λ (k : ℕ). k + answer_count (line.Answer answer) path) (h.counts path)
          ∙ sym (count_next (answered_by [] old.answers) answer path number)
          ∙ sym (ap (λ (e : Answered). count_of e path) (ap (answered_by []) answers ∙ answered_more [] old.answers answer));
      rules = subst (All IsAnswer) (sym answers) (all_more old.answers answer h.rules rules);
    }
  where
    all_more : (answers : List AnswerLine) (a : AnswerLine) → All IsAnswer answers → IsAnswer a → All IsAnswer (answers ++ a ∷ [])
    all_more answers a all one = All-append IsAnswer answers (a ∷ []) all (All-cons IsAnswer a [] one (All-nil IsAnswer))

pub taken_read : {E : Type 0} (old new : AnswerLines) (text : List ℕ) (read : ScriptLine) (r : Result Unit E) → IsLine old.reader text true read → KeepsRules read → IsStateAfter old.reader read new.reader → OnOk r (IsKeptAnswer old.answers read new.answers) → OnOk r ((texts : List (List ℕ)) → HasTakenAnswers old texts → HasTakenAnswers new (texts ++ text ∷ []))
taken_read old new text read (Err e) is rules afterwards kept = tt
taken_read old new text (line.Answer answer) (Ok done) is rules afterwards kept = taken_more old new text answer is rules afterwards kept
taken_read old new text (line.Channel target value) (Ok done) is rules afterwards kept = absurd kept
taken_read old new text (line.Event s) (Ok done) is rules afterwards kept = absurd kept
taken_read old new text (line.Config config) (Ok done) is rules afterwards kept = absurd kept
taken_read old new text (line.Call worker call) (Ok done) is rules afterwards kept = absurd kept

-- ---- whole texts

answers_one : (answered : Answered) (n : ℕ) (texts : List (List ℕ)) (answers others : List AnswerLine) → AreAnswers answered n texts answers → AreAnswers answered n texts others → others ≡ answers
answers_one answered n [] [] [] lines again = refl
answers_one answered n (t ∷ texts) (a ∷ answers) (b ∷ others) lines again =
    let r : ReaderSeen = record { kind = script.Server; lines = 0; answered = answered } in
    let raw : IsRawLine 1 t true = (omega (arith, lines.0.0.0), lines.0.0.1, lines.0.0.2) in
    let same : line.Answer b ≡ line.Answer a = line_one r t true (line.Answer a) (raw, lines.0.1) (line.Answer b) (raw, again.0.1) in
    let one : b ≡ a = the_answer b a same in
    let rest : AreAnswers ((a.path, a.n) ∷ answered) (n + 1) texts others = subst (λ (x : AnswerLine). AreAnswers ((x.path, x.n) ∷ answered) (n + 1) texts others) one again.1 in
    let more : others ≡ answers = answers_one ((a.path, a.n) ∷ answered) (n + 1) texts answers others lines.1 rest in
    ap (λ (x : AnswerLine). x ∷ others) one ∙ ap (λ (xs : List AnswerLine). a ∷ xs) more
  where
    the_answer : (x y : AnswerLine) → line.Answer x ≡ line.Answer y → x ≡ y
    the_answer x y e = (cc)
answers_one answered n [] [] (b ∷ others) lines again = absurd again
answers_one answered n (t ∷ texts) (a ∷ answers) [] lines again = absurd again
answers_one answered n [] (a ∷ answers) others lines again = absurd lines
answers_one answered n (t ∷ texts) [] others lines again = absurd lines

server_one : (input : List ℕ) (answers others : List AnswerLine) → IsServer input answers → IsServer input others → others ≡ answers
server_one input answers others s t =
    let same : t.texts ≡ s.texts = append_cancel_right t.texts s.texts ([] ∷ []) (sym t.parts ∙ s.parts) in
    answers_one [] 1 s.texts answers others s.lines (subst (λ (ts : List (List ℕ)). AreAnswers [] 1 ts others) same t.lines)

pub reads_server : (left left' : Option (List ℕ)) (s : AnswerLines) → ReadsLines HasTakenAnswers left left' s → ReadsServer left left' s.answers
reads_server left left' s r =
    let script : IsServer r.input s.answers = record { texts = r.texts; parts = r.parts; lines = r.taken_are.lines } in
    record {
      input = r.input;
      read = r.read;
      at_end = r.at_end;
      script = script;
      only = λ others other. server_one r.input s.answers others script other;
    }

-- ---- what is bad

first_bad : (input : List ℕ) (n cause : ℕ) → RefusesLine HasTakenAnswers RefusesAnswer input n cause → IsFirstBadAnswer input n cause
first_bad input n cause r = by_fault r.fault
  where
    made : (n ≡ length r.texts + 1) → IsRawFault n r.text (is_closed r.afterwards) cause ⊎ (IsRawLine n r.text (is_closed r.afterwards) × IsAnswerFault (answered_by [] r.lines.answers) (fields r.text) cause) → IsFirstBadAnswer input n cause
    made number fault = record {
      before = r.texts;
      answers = r.lines.answers;
      text = r.text;
      afterwards = r.afterwards;
      parts = r.parts;
      lines = r.taken_are.lines;
      number = number;
      there = r.there;
      fault = fault;
    }

    by_line : (n ≡ length r.texts + 1) → IsRawLine (length r.texts + 1) r.text (is_closed r.afterwards) → IsLineFault r.lines.reader r.text true cause → IsFirstBadAnswer input n cause
    by_line number raw (inl fault) = absurd (read_raw (r.lines.reader.lines + 1) r.text true cause (omega (arith, r.taken_are.count, raw.0), raw.1, (raw.2.0, refl)) fault)
    by_line number raw (inr reported) =
        let said : IsAnswerFault r.lines.reader.answered (fields r.text) cause = subst (λ (k : ScriptKind). IsKindFault k (r.lines.reader.lines + 1) r.lines.reader.answered (fields r.text) cause) r.taken_are.kind reported.1 in
        made number (inr (
          subst (λ (k : ℕ). IsRawLine k r.text (is_closed r.afterwards)) (sym number) raw,
          fault_by r.lines.reader.answered (answered_by [] r.lines.answers) (fields r.text) cause r.taken_are.counts said,
        ))

    by_fault : ((n ≡ length r.texts + 1) × IsRawFault n r.text (is_closed r.afterwards) cause) ⊎ (IsRawLine (length r.texts + 1) r.text (is_closed r.afterwards) × RefusesAnswer r.lines r.text (bad.At n cause)) → IsFirstBadAnswer input n cause
    by_fault (inl raw) = made raw.0 (inl raw.1)
    by_fault (inr refused) = by_line (omega (arith, refused.1.0, r.taken_are.count)) refused.0 refused.1.1

pub gives_none : (left left' : Option (List ℕ)) (n m : ℕ) (e : InputFault) → StopsBy HasTakenAnswers RefusesAnswer left left' n m e → GivesNoServer left left' n m e
gives_none left left' n m (fault.BadLine k cause) f = record { input = f.input; read = f.read; bad = by f.bad }
  where
    by : (IsAtEnd left' × RefusesLine HasTakenAnswers RefusesAnswer f.input k cause) ⊎ ((more : List ℕ) → RefusesLine HasTakenAnswers RefusesAnswer (f.input ++ more) k cause) → (IsAtEnd left' × IsFirstBadAnswer f.input k cause) ⊎ ((more : List ℕ) → IsFirstBadAnswer (f.input ++ more) k cause)
    by (inl ended) = inl (ended.0, first_bad f.input k cause ended.1)
    by (inr whatever) = inr (λ more. first_bad (f.input ++ more) k cause (whatever more))
gives_none left left' n m fault.ReadFailed s = record {
  input = s.input;
  read = s.read;
  failed = s.failed;
  prefix = record {
    texts = s.texts;
    answers = s.lines.answers;
    rest = s.rest;
    parts = s.parts;
    lines = s.taken_are.lines;
    short = s.short;
  };
}
gives_none left left' n m fault.NoMemory s = tt
gives_none left left' n m fault.Empty s = absurd s

-- ---- numbers

times_cons : (path : List ℕ) (a : AnswerLine) (answers : List AnswerLine) → times path (a ∷ answers) ≡ answer_count (line.Answer a) path + times path answers
times_cons path a answers = sum_by-cons (λ (x : AnswerLine). cond (bytes_eq x.path path) 1 0) a answers

-- the number of each answer, after those before it
numbers : (answered : Answered) (n : ℕ) (texts : List (List ℕ)) (answers : List AnswerLine) → AreAnswers answered n texts answers → (i : ℕ) (d : AnswerLine) → i < length answers → (slice_index_or answers i d).n ≡ count_of answered (slice_index_or answers i d).path + times (slice_index_or answers i d).path (take i answers) + 1
numbers answered n [] [] lines i d within = absurd (omega (arith, within))
numbers answered n [] (a ∷ answers) lines i d within = absurd lines
numbers answered n (t ∷ texts) [] lines i d within = absurd lines
numbers answered n (t ∷ texts) (a ∷ answers) lines zero d within =
    let one : a.n ≡ count_of answered a.path + 1 = number_text answered (fields t) a lines.0.1 in
    let none : times a.path [] ≡ 0 = refl in
    omega (arith, one, none)
numbers answered n (t ∷ texts) (a ∷ answers) lines (suc i) d within =
    let path : List ℕ = (slice_index_or answers i d).path in
    let rest : (slice_index_or answers i d).n ≡ count_of ((a.path, a.n) ∷ answered) path + times path (take i answers) + 1 =
    numbers ((a.path, a.n) ∷ answered) (n + 1) texts answers lines.1 i d (omega (arith, within)) in
    let next : count_of ((a.path, a.n) ∷ answered) path ≡ count_of answered path + answer_count (line.Answer a) path =
    count_next answered a path (number_text answered (fields t) a lines.0.1) in
    let more : times path (a ∷ take i answers) ≡ answer_count (line.Answer a) path + times path (take i answers) = times_cons path a (take i answers) in
    omega (arith, rest, next, more)

pub is_valid : (s : AnswerLines) (texts : List (List ℕ)) (script : ServerScript) → script.answers ≡ s.answers → HasTakenAnswers s texts → IsServerScript script
is_valid s texts script same h = record {
  answers_are = subst (All IsAnswer) (sym same) h.rules;
  numbered = subst AnswersAreNumbered (sym same) (λ i d within. (
      let number : (slice_index_or s.answers i d).n ≡ count_of [] (slice_index_or s.answers i d).path + times (slice_index_or s.answers i d).path (take i s.answers) + 1 = numbers [] 1 texts s.answers h.lines i d within in
      let none : count_of [] (slice_index_or s.answers i d).path ≡ 0 = refl in
      omega (arith, number, none)
      ));
}
