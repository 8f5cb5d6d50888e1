-- Lines of an input, piece by piece.
use Rattle.std.proofs.Common.{◌≡◌, ◌≢◌, ◌∙◌, ◌<◌, ◌≤◌, ℕ, ◌+◌, List, [], ◌∷◌, ◌++◌, All, Bool, true, false, Option, ap, append_assoc, append-nil, arith, inl, inr, length, length-append, refl, subst, sym}
use Rattle.std.specs.Prelude.{Result, Ok, Err, IfErr, OnOk}
use Rattle.grpc_base.specs.Limits.{line_limit}
use Rattle.grpc_base.specs.Pieces.{pieces}
use Rattle.gate_io.specs.Outside.{IsAtEnd, Rises, Takes}
use Rattle.script_fields.proofs.PartLaws.{pieces-some}
use Rattle.script_lines.specs.declared.cause.LineFault.{LineFault}
use Rattle.script_lines.specs.declared.cause.LineFault.TheVariants as line_fault
use Rattle.script_lines.specs.declared.reader.BadLine.{BadLine}
use Rattle.script_lines.specs.declared.reader.BadLine.TheVariants as bad
use Rattle.script_lines.specs.Lines.{IsRawFault, IsRawLine, IsReportedBy}
use Rattle.script_input.specs.declared.fault.InputFault.{InputFault}
use Rattle.script_input.specs.declared.fault.InputFault.TheVariants as fault
use Rattle.script_input.specs.declared.feed.Feed.{Feed}
use Rattle.script_input.specs.Collecting.{input_fault}
use Rattle.script_input.specs.Feeding.{FeedsAfter, FindsLine, HasFed, IsBadBy, IsDecidedBy, IsReportedFor, IsTooLong, LeadsBy, ReadsLines, StopsBy, StopsLines}
use Rattle.script_input.specs.Scripts.{is_closed}
use Rattle.script_input.proofs.InputLaws.{Takes-append}
use Rattle.script_input.proofs.PartLaws.{closed_some, pieces_append, parts_ended, parts_longer, some_after}

-- ---- a line more

pub fed_line : {T : Type 0} (taken : T → List (List ℕ) → Type 0) (old new : Feed) (lines lines' : T) (text whole : List ℕ) → All (λ b. b ≢ 10) text → whole ≡ old.line.items ++ text → IsRawLine (old.count + 1) whole true → ((texts : List (List ℕ)) → taken lines texts → taken lines' (texts ++ whole ∷ [])) → new.count ≡ old.count + 1 → new.line.items ≡ [] → LeadsBy taken old lines new lines' (text ++ 10 ∷ [])
fed_line taken old new lines lines' text whole free joined raw more count blank input h =
    let size : length (h.texts ++ whole ∷ []) ≡ length h.texts + 1 = length-append h.texts (whole ∷ []) in
    let long : length whole ≡ length old.line.items + length text = ap length joined ∙ length-append old.line.items text in
    let piece : length (text ++ 10 ∷ []) ≡ length text + 1 = length-append text (10 ∷ []) in
    record {
      read = record {
        texts = h.texts ++ whole ∷ [];
        parts =
            ap (pieces 10) (sym (append-nil (input ++ (text ++ 10 ∷ []))))
            ∙ parts_ended input text [] h.texts old.line.items h.parts free
            ∙ ap (λ (w : List ℕ). h.texts ++ w ∷ ([] ∷ [])) (sym joined)
            ∙ sym (append_assoc h.texts (whole ∷ []) ([] ∷ []))
            ∙ ap (λ (w : List ℕ). (h.texts ++ whole ∷ []) ++ w ∷ []) (sym blank);
        taken_are = more h.texts h.taken_are;
        count = omega (arith, count, h.count, size);
        short = omega (arith, ap length blank);
      };
      room = omega (arith, count, raw.0, raw.1, long, piece, ap length blank);
    }

-- why the next line is bad, as a test of it says
pub reported_for : (count n : ℕ) (text : List ℕ) (closed : Bool) (f : LineFault) (e : InputFault) → n ≡ count + 1 → IsReportedBy (IsRawFault n text closed) f → ((cause : ℕ) → f ≡ line_fault.Bad cause → e ≡ fault.BadLine n cause) → (f ≡ line_fault.NoMemory → e ≡ fault.NoMemory) → IsReportedFor count text closed e
reported_for count n text closed (line_fault.Bad cause) e number reported is memory = subst (IsReportedFor count text closed) (sym (is cause refl)) (number, reported)
reported_for count n text closed line_fault.NoMemory e number reported is memory = subst (IsReportedFor count text closed) (sym (memory refl)) tt

pub decided_raw : {T : Type 0} (taken : T → List (List ℕ) → Type 0) (refuses : T → List ℕ → BadLine → Type 0) (old : Feed) (lines : T) (text whole : List ℕ) (e : InputFault) → All (λ b. b ≢ 10) text → whole ≡ old.line.items ++ text → IsReportedFor old.count whole true e → IsDecidedBy taken refuses old lines (text ++ 10 ∷ []) e
decided_raw taken refuses old lines text whole (fault.BadLine n cause) free joined reported input h more =
    record {
      lines = lines;
      texts = h.texts;
      text = whole;
      afterwards = pieces 10 more;
      parts =
          parts_ended input text more h.texts old.line.items h.parts free
          ∙ ap (λ (w : List ℕ). h.texts ++ w ∷ pieces 10 more) (sym joined);
      taken_are = h.taken_are;
      there = λ none. absurd (some_after more none);
      fault = inl (omega (arith, reported.0, h.count), subst (λ (b : Bool). IsRawFault n whole b cause) (sym (closed_some more)) reported.1);
    }
decided_raw taken refuses old lines text whole fault.NoMemory free joined reported input h more = tt
decided_raw taken refuses old lines text whole e free joined reported input h more = absurd reported

pub decided_refused : {T : Type 0} (taken : T → List (List ℕ) → Type 0) (refuses : T → List ℕ → BadLine → Type 0) (old : Feed) (lines : T) (text whole : List ℕ) (b : BadLine) (e : InputFault) → All (λ b. b ≢ 10) text → whole ≡ old.line.items ++ text → IsRawLine (old.count + 1) whole true → refuses lines whole b → e ≡ input_fault b → IsDecidedBy taken refuses old lines (text ++ 10 ∷ []) e
decided_refused taken refuses old lines text whole (bad.At n cause) e free joined raw refused is input h more =
    subst (IsBadBy taken refuses ((input ++ (text ++ 10 ∷ [])) ++ more)) (sym is) (record {
      lines = lines;
      texts = h.texts;
      text = whole;
      afterwards = pieces 10 more;
      parts =
          parts_ended input text more h.texts old.line.items h.parts free
          ∙ ap (λ (w : List ℕ). h.texts ++ w ∷ pieces 10 more) (sym joined);
      taken_are = h.taken_are;
      there = λ none. absurd (some_after more none);
      fault = inr (
        subst (λ (k : ℕ). IsRawLine (k + 1) whole (is_closed (pieces 10 more))) h.count (subst (λ (b : Bool). IsRawLine (old.count + 1) whole b) (sym (closed_some more)) raw),
        refused,
      );
    })
decided_refused taken refuses old lines text whole bad.NoMemory e free joined raw refused is input h more =
    subst (IsBadBy taken refuses ((input ++ (text ++ 10 ∷ [])) ++ more)) (sym is) tt

-- ---- bytes without a line feed

pub fed_prefix : {T : Type 0} (taken : T → List (List ℕ) → Type 0) (old new : Feed) (lines lines' : T) (text : List ℕ) → All (λ b. b ≢ 10) text → new.line.items ≡ old.line.items ++ text → length new.line.items ≤ line_limit → new.count ≡ old.count → lines' ≡ lines → LeadsBy taken old lines new lines' text
fed_prefix taken old new lines lines' text free joined short count same input h =
    let long : length new.line.items ≡ length old.line.items + length text = ap length joined ∙ length-append old.line.items text in
    record {
      read = record {
        texts = h.texts;
        parts =
            parts_longer input text h.texts old.line.items h.parts free
            ∙ ap (λ (w : List ℕ). h.texts ++ w ∷ []) (sym joined);
        taken_are = subst (λ t. taken t h.texts) (sym same) h.taken_are;
        count = count ∙ h.count;
        short = short;
      };
      room = omega (arith, count, old.few, short, long);
    }

-- a line that is too long stays so, whatever follows
long_stays : (n : ℕ) (text longer : List ℕ) (closed closed' : Bool) (c : ℕ) → line_limit < length text → length text ≤ length longer → IsRawFault n text closed c → IsRawFault n longer closed' c
long_stays n text longer closed closed' c long more (inl many) = inl many
long_stays n text longer closed closed' c long more (inr (few, inl past)) = inr (few, inl ((λ short. absurd (omega (arith, short, long, more))), past.1))
long_stays n text longer closed closed' c long more (inr (few, inr passed)) = absurd (omega (arith, passed.0, long))

pub decided_prefix : {T : Type 0} (taken : T → List (List ℕ) → Type 0) (refuses : T → List ℕ → BadLine → Type 0) (old : Feed) (lines : T) (text : List ℕ) (e : InputFault) → All (λ b. b ≢ 10) text → IsTooLong old.count (old.line.items ++ text) e → IsDecidedBy taken refuses old lines text e
decided_prefix taken refuses old lines text (fault.BadLine n cause) free reported input h more =
    let q : (part : List ℕ) × (parts : List (List ℕ)) × (pieces 10 more ≡ part ∷ parts) = pieces-some 10 more in
    let size : length ((old.line.items ++ text) ++ q.0) ≡ length (old.line.items ++ text) + length q.0 = length-append (old.line.items ++ text) q.0 in
    record {
      lines = lines;
      texts = h.texts;
      text = (old.line.items ++ text) ++ q.0;
      afterwards = q.1;
      parts = pieces_append 10 (input ++ text) more h.texts (old.line.items ++ text) q.0 q.1 (parts_longer input text h.texts old.line.items h.parts free) q.2;
      taken_are = h.taken_are;
      there = λ none blank. absurd (omega (arith, ap length blank, size, reported.1));
      fault = inl (omega (arith, reported.0, h.count), long_stays n (old.line.items ++ text) ((old.line.items ++ text) ++ q.0) false (is_closed q.1) cause reported.1 (omega (arith, size)) reported.2);
    }
decided_prefix taken refuses old lines text fault.NoMemory free reported input h more = tt
decided_prefix taken refuses old lines text e free reported input h more = absurd reported

-- ---- pieces after one another

pub leads_on : {T : Type 0} (taken : T → List (List ℕ) → Type 0) (a b c : Feed) (k l m : T) (p q : List ℕ) → LeadsBy taken a k b l p → LeadsBy taken b l c m q → LeadsBy taken a k c m (p ++ q)
leads_on taken a b c k l m p q first second input h =
    let one : FeedsAfter taken input p a b l = first input h in
    let two : FeedsAfter taken (input ++ p) q b c m = second (input ++ p) one.read in
    record {
      read = subst (λ (t : List ℕ). HasFed taken t c m) (append_assoc input p q) two.read;
      room = omega (arith, one.room, two.room, length-append p q);
    }

pub decided_on : {T : Type 0} (taken : T → List (List ℕ) → Type 0) (refuses : T → List ℕ → BadLine → Type 0) (a b : Feed) (k l : T) (p q rest : List ℕ) (e : InputFault) → LeadsBy taken a k b l p → IsDecidedBy taken refuses b l q e → IsDecidedBy taken refuses a k (p ++ (q ++ rest)) e
decided_on taken refuses a b k l p q rest e first decided input h more =
    let one : FeedsAfter taken input p a b l = first input h in
    let same : ((input ++ p) ++ q) ++ (rest ++ more) ≡ (input ++ (p ++ (q ++ rest))) ++ more = simp append_assoc refl in
    subst (λ (t : List ℕ). IsBadBy taken refuses t e) same (decided (input ++ p) one.read (rest ++ more))

-- ---- a source

-- a bad line in the newest piece
pub stops_in : {T : Type 0} (taken : T → List (List ℕ) → Type 0) (refuses : T → List ℕ → BadLine → Type 0) (a b c : Option (List ℕ)) (n m : ℕ) (feed : Feed) (lines : T) (input piece : List ℕ) (e : InputFault) → Takes a b input → Takes b c piece → HasFed taken input feed lines → IsDecidedBy taken refuses feed lines piece e → StopsBy taken refuses a c n m e
stops_in taken refuses a b c n m feed lines input piece (fault.BadLine k cause) before next h decided =
    record {
      input = input ++ piece;
      read = Takes-append a b c input piece before next;
      bad = inr (λ more. decided input h more);
    }
stops_in taken refuses a b c n m feed lines input piece fault.NoMemory before next h decided = tt
stops_in taken refuses a b c n m feed lines input piece fault.Empty before next h decided = absurd (decided input h [])
stops_in taken refuses a b c n m feed lines input piece fault.ReadFailed before next h decided = absurd (decided input h [])

-- an open line at the end
ends_open : {T : Type 0} (taken : T → List (List ℕ) → Type 0) (refuses : T → List ℕ → BadLine → Type 0) (a b : Option (List ℕ)) (n m : ℕ) (feed : Feed) (lines : T) (input : List ℕ) (e : InputFault) → Takes a b input → IsAtEnd b → HasFed taken input feed lines → IsReportedFor feed.count feed.line.items false e → feed.line.items ≢ [] → StopsBy taken refuses a b n m e
ends_open taken refuses a b n m feed lines input (fault.BadLine k cause) took ended h reported filled =
    record {
      input = input;
      read = took;
      bad = inl (
        ended,
        record {
          lines = lines;
          texts = h.texts;
          text = feed.line.items;
          afterwards = [];
          parts = h.parts;
          taken_are = h.taken_are;
          there = λ none. filled;
          fault = inl (omega (arith, reported.0, h.count), reported.1);
        },
      );
    }
ends_open taken refuses a b n m feed lines input fault.NoMemory took ended h reported filled = tt
ends_open taken refuses a b n m feed lines input fault.Empty took ended h reported filled = absurd reported
ends_open taken refuses a b n m feed lines input fault.ReadFailed took ended h reported filled = absurd reported

pub bad_end : {T X : Type 0} (taken : T → List (List ℕ) → Type 0) (refuses : T → List ℕ → BadLine → Type 0) (a b c : Option (List ℕ)) (n m : ℕ) (feed : Feed) (lines : T) (input : List ℕ) (r : Result X InputFault) → Takes a b input → HasFed taken input feed lines → IsAtEnd b → c ≡ b → IfErr r (λ e. IsReportedFor feed.count feed.line.items false e × (feed.line.items ≢ [])) → IfErr r (StopsBy taken refuses a c n m)
bad_end taken refuses a b c n m feed lines input (Ok x) took h ended same reported = tt
bad_end taken refuses a b c n m feed lines input (Err e) took h ended same reported =
    subst (λ (o : Option (List ℕ)). StopsBy taken refuses a o n m e) (sym same)
    (ends_open taken refuses a b n m feed lines input e took ended h reported.0 reported.1)
