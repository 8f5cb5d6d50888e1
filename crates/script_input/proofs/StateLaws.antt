-- What is kept while a script is read, piece by piece.
use Rattle.std.proofs.Common.{◌≡◌, ◌≢◌, ◌∙◌, ◌<◌, ◌≤◌, ℕ, ◌+◌, List, [], ◌∷◌, ◌++◌, All, Bool, true, false, Option, Some, None, ap, append_assoc, append-nil, arith, inl, length, length-append, refl, subst, sym}
use Rattle.std.specs.Prelude.{◌==◌}
use Rattle.std.proofs.lemmas.Bool.Decides.{nat_tests}
use Rattle.grpc_base.specs.declared.event.Stamped.{Stamped}
use Rattle.grpc_base.specs.Limits.{line_limit}
use Rattle.grpc_base.specs.Pieces.{pieces}
use Rattle.script_fields.proofs.PartLaws.{pieces-blank, pieces-some}
use Rattle.script_lines.specs.declared.line.ScriptLine.{ScriptLine}
use Rattle.script_lines.specs.declared.reader.ScriptKind.TheVariants as script
use Rattle.script_lines.specs.Lines.{IsRawLine, script_limit}
use Rattle.script_lines.specs.Reader.{IsStateAfter, ReaderSeen}
use Rattle.script_input.specs.declared.collected.Channel.{Channel}
use Rattle.script_input.specs.declared.collected.Collected.{Collected}
use Rattle.script_input.specs.declared.fault.InputFault.{InputFault}
use Rattle.script_input.specs.declared.fault.InputFault.TheVariants as fault
use Rattle.script_input.specs.declared.form.Form.{Form}
use Rattle.script_input.specs.Collecting.{HasRead, HasTaken, IsBadInput, IsDecided, IsKept, IsRead, IsReported, IsReportedOpen, IsUnscript, Leads, reads_of}
use Rattle.script_input.specs.Scripts.{AreLines, AreRecords, IsFaultAt, IsRecord, IsScript, SaysAt, is_closed}
use Rattle.script_input.proofs.LineLaws.{long_stays, no_events, no_records, reads_next, records_more}
use Rattle.script_input.proofs.PartLaws.{closed_some, pieces_append, parts_ended, parts_longer, some_after}

-- the number of the next line
number : (input : List ℕ) (s : Collected) → (h : HasRead input s) → s.reader.lines + s.records + 1 ≡ length h.texts + length h.recorded + 1
number input s h = omega (arith, h.count, h.counted)

-- before the first byte
pub nothing_read : (s : Collected) → s.events.items ≡ [] → s.line.items ≡ [] → s.channel ≡ None → s.records ≡ 0 → s.reader.kind ≡ script.Replay → s.reader.lines ≡ 0 → HasRead [] s
nothing_read s events blank none records kind lines = record {
  texts = [];
  recorded = [];
  parts = ap (λ (w : List ℕ). w ∷ []) (sym blank);
  lines = subst (AreLines s.form 1 []) (sym (ap (λ (o : Option Channel). reads_of o s.events.items) none ∙ ap (λ (es : List Stamped). reads_of None es) events)) tt;
  afterwards = tt;
  kind = kind;
  count = lines;
  counted = records;
  few = omega arith;
  short = omega (arith, ap length blank);
}

none_left : (xs : List (List ℕ)) (n : ℕ) → n ≡ length xs → n ≡ 0 → xs ≡ []
none_left [] n size none = refl
none_left (x ∷ xs) n size none = absurd (omega (arith, size, none))

-- ---- a line more

entry_parts : (ts : List (List ℕ)) (w e : List ℕ) → (ts ++ []) ++ w ∷ (e ∷ []) ≡ ((ts ++ w ∷ []) ++ []) ++ e ∷ []
entry_parts ts w e =
    ap (λ (xs : List (List ℕ)). xs ++ w ∷ (e ∷ [])) (append-nil ts)
    ∙ sym (append_assoc ts (w ∷ []) (e ∷ []))
    ∙ ap (λ (xs : List (List ℕ)). xs ++ e ∷ []) (sym (append-nil (ts ++ w ∷ [])))

record_parts : (ts rs : List (List ℕ)) (w e : List ℕ) → (ts ++ rs) ++ w ∷ (e ∷ []) ≡ (ts ++ (rs ++ w ∷ [])) ++ e ∷ []
record_parts ts rs w e =
    sym (append_assoc (ts ++ rs) (w ∷ []) (e ∷ [])) ∙ ap (λ (xs : List (List ℕ)). xs ++ e ∷ []) (append_assoc ts rs (w ∷ []))

-- what a line feed more does to the parts
ended_parts : (old : Collected) (input text whole : List ℕ) (h : HasRead input old) → All (λ b. b ≢ 10) text → whole ≡ old.line.items ++ text → pieces 10 (input ++ (text ++ 10 ∷ [])) ≡ (h.texts ++ h.recorded) ++ whole ∷ ([] ∷ [])
ended_parts old input text whole h free joined =
    ap (pieces 10) (sym (append-nil (input ++ (text ++ 10 ∷ []))))
    ∙ parts_ended input text [] (h.texts ++ h.recorded) old.line.items h.parts free
    ∙ ap (λ (w : List ℕ). (h.texts ++ h.recorded) ++ w ∷ ([] ∷ [])) (sym joined)

pub taken_line : (old new : Collected) (input text whole : List ℕ) (read : Option ScriptLine) → All (λ b. b ≢ 10) text → whole ≡ old.line.items ++ text → IsRead old.form old.reader old.records whole read new.reader → IsKept old.channel old.events.items old.records read new.channel new.events.items new.records → new.line.items ≡ [] → new.form ≡ old.form → HasRead input old → HasTaken input (text ++ 10 ∷ []) old new
taken_line old new input text whole None free joined is kept blank form h =
    let at : 1 + length h.texts + length h.recorded ≡ old.reader.lines + old.records + 1 = omega (arith, number input old h) in
    let within : old.reader.lines + old.records + 1 ≤ script_limit = is.0.0 in
    let short : length whole ≤ line_limit = is.0.1 in
    let size : length (h.recorded ++ whole ∷ []) ≡ length h.recorded + 1 = length-append h.recorded (whole ∷ []) in
    let long : length whole ≡ length old.line.items + length text = ap length joined ∙ length-append old.line.items text in
    let piece : length (text ++ 10 ∷ []) ≡ length text + 1 = length-append text (10 ∷ []) in
    let lines : new.reader.lines ≡ old.reader.lines = ap (λ (r : ReaderSeen). r.lines) is.2 in
    let reads : reads_of new.channel new.events.items ≡ reads_of old.channel old.events.items =
    ap (λ (o : Option Channel). reads_of o new.events.items) kept.0 ∙ ap (λ (es : List Stamped). reads_of old.channel es) kept.1 in
    let raw : IsRawLine (length h.texts + 1 + length h.recorded) whole true = subst (λ (k : ℕ). IsRawLine k whole true) (omega (arith, at)) is.0 in
    let one : IsRecord old.form (length h.texts + 1 + length h.recorded) whole = subst (λ (k : ℕ). IsRecord old.form k whole) (omega (arith, at)) is.1 in
    record {
      read = record {
        texts = h.texts;
        recorded = h.recorded ++ whole ∷ [];
        parts =
            ended_parts old input text whole h free joined ∙ record_parts h.texts h.recorded whole []
            ∙ ap (λ (w : List ℕ). (h.texts ++ (h.recorded ++ whole ∷ [])) ++ w ∷ []) (sym blank);
        lines = subst (λ (f : Form). AreLines f 1 h.texts (reads_of new.channel new.events.items)) (sym form) (subst (AreLines old.form 1 h.texts) (sym reads) h.lines);
        afterwards = subst (λ (f : Form). AreRecords f (length h.texts + 1) (h.recorded ++ whole ∷ [])) (sym form) (records_more old.form (length h.texts + 1) h.recorded whole h.afterwards raw one);
        kind = ap (λ (r : ReaderSeen). r.kind) is.2 ∙ h.kind;
        count = lines ∙ h.count;
        counted = omega (arith, kept.2, h.counted, size);
        few = omega (arith, size, within, at);
        short = omega (arith, ap length blank);
      };
      room = omega (arith, lines, kept.2, within, short, long, piece, ap length blank);
      form = form;
    }
taken_line old new input text whole (Some read) free joined is kept blank form h =
    let none : h.recorded ≡ [] = none_left h.recorded old.records h.counted is.0 in
    let says : SaysAt old.form (1 + length h.texts) whole read = subst (λ (k : ℕ). SaysAt old.form k whole read) (omega (arith, h.count)) is.1 in
    let size : length (h.texts ++ whole ∷ []) ≡ length h.texts + 1 = length-append h.texts (whole ∷ []) in
    let within : 1 + length h.texts ≤ script_limit = says.0.0 in
    let short : length whole ≤ line_limit = says.0.1 in
    let long : length whole ≡ length old.line.items + length text = ap length joined ∙ length-append old.line.items text in
    let piece : length (text ++ 10 ∷ []) ≡ length text + 1 = length-append text (10 ∷ []) in
    record {
      read = record {
        texts = h.texts ++ whole ∷ [];
        recorded = [];
        parts =
            ended_parts old input text whole h free joined
            ∙ ap (λ (rs : List (List ℕ)). (h.texts ++ rs) ++ whole ∷ ([] ∷ [])) none
            ∙ entry_parts h.texts whole []
            ∙ ap (λ (w : List ℕ). ((h.texts ++ whole ∷ []) ++ []) ++ w ∷ []) (sym blank);
        lines = subst (λ (f : Form). AreLines f 1 (h.texts ++ whole ∷ []) (reads_of new.channel new.events.items)) (sym form)
            (reads_next old.form h.texts old.channel new.channel old.events.items new.events.items whole read h.lines says kept.0);
        afterwards = tt;
        kind = is.2.kind ∙ h.kind;
        count = omega (arith, is.2.lines, h.count, size);
        counted = omega (arith, kept.1, is.0);
        few = omega (arith, size, within);
        short = omega (arith, ap length blank);
      };
      room = omega (arith, is.2.lines, is.0, kept.1, h.count, within, short, long, piece, ap length blank);
      form = form;
    }

pub decided_line : (old : Collected) (text whole : List ℕ) (e : InputFault) → All (λ b. b ≢ 10) text → whole ≡ old.line.items ++ text → IsReported old.form old.reader old.records whole true e → IsDecided old (text ++ 10 ∷ []) e
decided_line old text whole (fault.BadLine n cause) free joined reported input h more =
    record {
      before = h.texts;
      records = h.recorded;
      reads = reads_of old.channel old.events.items;
      text = whole;
      afterwards = pieces 10 more;
      parts =
          parts_ended input text more (h.texts ++ h.recorded) old.line.items h.parts free
          ∙ ap (λ (w : List ℕ). (h.texts ++ h.recorded) ++ w ∷ pieces 10 more) (sym joined);
      lines = h.lines;
      recorded = h.afterwards;
      number = reported.0 ∙ number input old h;
      there = λ none. absurd (some_after more none);
      fault = subst (λ (b : Bool). IsFaultAt old.form (length h.recorded) n whole b cause) (sym (closed_some more))
          (subst (λ (k : ℕ). IsFaultAt old.form k n whole true cause) h.counted reported.1);
    }
decided_line old text whole fault.NoMemory free joined reported input h more = tt
decided_line old text whole e free joined reported input h more = absurd reported

-- ---- bytes without a line feed

pub taken_prefix : (old new : Collected) (input text : List ℕ) → All (λ b. b ≢ 10) text → new.line.items ≡ old.line.items ++ text → length new.line.items ≤ line_limit → new.reader ≡ old.reader → new.records ≡ old.records → new.form ≡ old.form → new.channel ≡ old.channel → new.events.items ≡ old.events.items → HasRead input old → HasTaken input text old new
taken_prefix old new input text free joined short reader records form channel events h =
    let long : length new.line.items ≡ length old.line.items + length text = ap length joined ∙ length-append old.line.items text in
    let lines : new.reader.lines ≡ old.reader.lines = ap (λ (r : ReaderSeen). r.lines) reader in
    let reads : reads_of new.channel new.events.items ≡ reads_of old.channel old.events.items =
    ap (λ (o : Option Channel). reads_of o new.events.items) channel ∙ ap (λ (es : List Stamped). reads_of old.channel es) events in
    record {
      read = record {
        texts = h.texts;
        recorded = h.recorded;
        parts =
            parts_longer input text (h.texts ++ h.recorded) old.line.items h.parts free
            ∙ ap (λ (w : List ℕ). (h.texts ++ h.recorded) ++ w ∷ []) (sym joined);
        lines = subst (λ (f : Form). AreLines f 1 h.texts (reads_of new.channel new.events.items)) (sym form) (subst (AreLines old.form 1 h.texts) (sym reads) h.lines);
        afterwards = subst (λ (f : Form). AreRecords f (length h.texts + 1) h.recorded) (sym form) h.afterwards;
        kind = ap (λ (r : ReaderSeen). r.kind) reader ∙ h.kind;
        count = lines ∙ h.count;
        counted = records ∙ h.counted;
        few = h.few;
        short = short;
      };
      room = omega (arith, lines, records, h.count, h.counted, h.few, short, long);
      form = form;
    }

pub decided_prefix : (old : Collected) (text whole : List ℕ) (e : InputFault) → All (λ b. b ≢ 10) text → whole ≡ old.line.items ++ text → line_limit < length whole → IsReportedOpen old.reader old.records whole e → IsDecided old text e
decided_prefix old text whole (fault.BadLine n cause) free joined long reported input h more =
    let q : (part : List ℕ) × (parts : List (List ℕ)) × (pieces 10 more ≡ part ∷ parts) = pieces-some 10 more in
    let parts : pieces 10 ((input ++ text) ++ more) ≡ (h.texts ++ h.recorded) ++ ((old.line.items ++ text) ++ q.0) ∷ q.1 =
    pieces_append 10 (input ++ text) more (h.texts ++ h.recorded) (old.line.items ++ text) q.0 q.1 (parts_longer input text (h.texts ++ h.recorded) old.line.items h.parts free) q.2 in
    let size : length (whole ++ q.0) ≡ length whole + length q.0 = length-append whole q.0 in
    record {
      before = h.texts;
      records = h.recorded;
      reads = reads_of old.channel old.events.items;
      text = whole ++ q.0;
      afterwards = q.1;
      parts = parts ∙ ap (λ (w : List ℕ). (h.texts ++ h.recorded) ++ (w ++ q.0) ∷ q.1) (sym joined);
      lines = h.lines;
      recorded = h.afterwards;
      number = reported.0 ∙ number input old h;
      there = λ none blank. absurd (omega (arith, ap length blank, size, long));
      fault = long_stays old.form (length h.recorded) n whole (whole ++ q.0) false (is_closed q.1) cause long (omega (arith, size)) (inl reported.1);
    }
decided_prefix old text whole fault.NoMemory free joined long reported input h more = tt
decided_prefix old text whole e free joined long reported input h more = absurd reported

-- ---- pieces after one another

pub leads_on : (a b c : Collected) (p q : List ℕ) → Leads a b p → Leads b c q → Leads a c (p ++ q)
leads_on a b c p q first second input h =
    let one : HasTaken input p a b = first input h in
    let two : HasTaken (input ++ p) q b c = second (input ++ p) one.read in
    record {
      read = subst (λ (t : List ℕ). HasRead t c) (append_assoc input p q) two.read;
      room = omega (arith, one.room, two.room, length-append p q);
      form = two.form ∙ one.form;
    }

pub decided_on : (a b : Collected) (p q rest : List ℕ) (e : InputFault) → Leads a b p → IsDecided b q e → IsDecided a (p ++ (q ++ rest)) e
decided_on a b p q rest e first decided input h more =
    let one : HasTaken input p a b = first input h in
    let same : ((input ++ p) ++ q) ++ (rest ++ more) ≡ (input ++ (p ++ (q ++ rest))) ++ more = simp append_assoc refl in
    subst (λ (f : Form). IsBadInput f ((input ++ (p ++ (q ++ rest))) ++ more) e) one.form
    (subst (λ (t : List ℕ). IsBadInput b.form t e) same (decided (input ++ p) one.read (rest ++ more)))

-- ---- the end

pub unscript_empty : (s : Collected) → s.line.items ≡ [] → s.channel ≡ None → (input : List ℕ) → HasRead input s → input ≡ []
unscript_empty s blank none input h =
    let lines : AreLines s.form 1 h.texts (reads_of None s.events.items) = subst (λ (o : Option Channel). AreLines s.form 1 h.texts (reads_of o s.events.items)) none h.lines in
    let texts : h.texts ≡ [] = (no_events s.form h.texts s.events.items lines).0 in
    let recorded : h.recorded ≡ [] = no_records s.form h.recorded (subst (λ (ts : List (List ℕ)). AreRecords s.form (length ts + 1) h.recorded) texts h.afterwards) in
    pieces-blank 10 input (h.parts ∙ ap (λ (ts : List (List ℕ)). (ts ++ h.recorded) ++ s.line.items ∷ []) texts ∙ ap (λ (rs : List (List ℕ)). rs ++ s.line.items ∷ []) recorded ∙ ap (λ (w : List ℕ). w ∷ []) blank)

-- what a test for emptiness says
pub blank_of : (xs : List ℕ) (n : ℕ) (r : Bool) → length xs ≡ n → r ≡ (n == 0) → r ≡ true → xs ≡ []
blank_of [] n r size e t = refl
blank_of (x ∷ xs) n r size e t = absurd (grind (arith, nat_tests, size, sym e ∙ t))
