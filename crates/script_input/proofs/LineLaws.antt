-- Lines one after another, and what they say.
use Rattle.std.proofs.Common.{◌≡◌, ◌≢◌, ◌∙◌, ◌<◌, ◌≤◌, ℕ, ◌+◌, List, [], ◌∷◌, ◌++◌, All, Bool, true, Option, Some, None, ap, arith, inl, inr, length, map, refl, subst, sym}
use Rattle.std.specs.List.{AllByRecursion}
use Rattle.std.specs.Prelude.{◌==◌, codes, if◌then◌else◌}
use Rattle.std.proofs.lemmas.List.{map-append}
use Rattle.std.proofs.lemmas.List.Elements.{All-from_recursion, recursion_from_All}
use Rattle.grpc_base.specs.declared.event.Stamped.{Stamped}
use Rattle.grpc_base.specs.Limits.{line_limit}
use Rattle.script_fields.specs.Spelling.{fields}
use Rattle.script_lines.specs.declared.line.ScriptLine.{ScriptLine}
use Rattle.script_lines.specs.declared.line.ScriptLine.TheVariants as line
use Rattle.script_lines.specs.declared.reader.BadLine.{BadLine}
use Rattle.script_lines.specs.declared.reader.BadLine.TheVariants as bad
use Rattle.script_lines.specs.declared.reader.ScriptKind.{ScriptKind}
use Rattle.script_lines.specs.declared.reader.ScriptKind.TheVariants as script
use Rattle.script_lines.specs.Lines.{IsRawLine, IsReplayFault, IsReplayLine}
use Rattle.script_lines.specs.Reader.{IsBadLine, IsStateAfter, IsKindFault, IsKindLine, IsLine, IsLineFault, ReaderSeen}
use Rattle.script_lines.proofs.ReaderLaws.{read_raw}
use Rattle.script_input.specs.declared.collected.Channel.{Channel}
use Rattle.script_input.specs.declared.fault.InputFault.{InputFault}
use Rattle.script_input.specs.declared.form.Form.{Form}
use Rattle.script_input.specs.declared.form.Form.TheVariants as form
use Rattle.script_input.specs.Collecting.{IsKeptLine, IsRead, IsReplayRead, IsReported, input_fault, reads_of}
use Rattle.script_input.specs.Scripts.{AreLines, AreRecords, IsFaultAt, IsRecord, SaysAt, before_sign, begins, read_part}

-- one line more
pub lines_more : (f : Form) (n : ℕ) (texts : List (List ℕ)) (reads : List ScriptLine) (text : List ℕ) (read : ScriptLine) → AreLines f n texts reads → SaysAt f (n + length texts) text read → AreLines f n (texts ++ text ∷ []) (reads ++ read ∷ [])
lines_more f n [] [] text read lines says = (subst (λ (k : ℕ). SaysAt f k text read) (omega arith) says, tt)
lines_more f n [] (r ∷ reads) text read lines says = absurd lines
lines_more f n (t ∷ texts) [] text read lines says = absurd lines
lines_more f n (t ∷ texts) (r ∷ reads) text read lines says =
    (lines.0, lines_more f (n + 1) texts reads text read lines.1 (subst (λ (k : ℕ). SaysAt f k text read) (omega arith) says))

-- one line more after the entries
pub records_more : (f : Form) (n : ℕ) (texts : List (List ℕ)) (text : List ℕ) → AreRecords f n texts → IsRawLine (n + length texts) text true → IsRecord f (n + length texts) text → AreRecords f n (texts ++ text ∷ [])
records_more f n [] text lines raw record_ =
    ((subst (λ (k : ℕ). IsRawLine k text true) (omega arith) raw, subst (λ (k : ℕ). IsRecord f k text) (omega arith) record_), tt)
records_more f n (t ∷ texts) text lines raw record_ = (
  lines.0,
  records_more f (n + 1) texts text lines.1 (subst (λ (k : ℕ). IsRawLine k text true) (omega arith) raw) (subst (λ (k : ℕ). IsRecord f k text) (omega arith) record_),
)

-- the first line stands not after the entries
pub no_records : (f : Form) (texts : List (List ℕ)) → AreRecords f 1 texts → texts ≡ []
no_records f [] lines = refl
no_records form.Script (t ∷ texts) lines = absurd lines.0.1
no_records form.Report (t ∷ texts) lines = absurd (lines.0.1.0 refl)

-- events alone say no first line
pub no_events : (f : Form) (texts : List (List ℕ)) (events : List Stamped) → AreLines f 1 texts (map (λ s. line.Event s) events) → (texts ≡ []) × (events ≡ [])
no_events f [] [] lines = (refl, refl)
no_events f [] (s ∷ events) lines = absurd lines
no_events f (t ∷ texts) [] lines = absurd lines
no_events f (t ∷ texts) (s ∷ events) lines = absurd (lines.0.2.0 refl)

-- no lines say nothing
nothing_said : (f : Form) (channel : Option Channel) (events : List Stamped) → AreLines f 1 [] (reads_of channel events) → events ≡ []
nothing_said f None events lines = (no_events f [] events lines).1
nothing_said f (Some channel) events lines = absurd lines

-- the channel line is the first
first_read : (f : Form) (texts : List (List ℕ)) (channel : Option Channel) (events events' : List Stamped) (made : Channel) (channel' : Option Channel) (text : List ℕ) → AreLines f 1 texts (reads_of channel events) → SaysAt f (1 + length texts) text (line.Channel made.target made.value) → channel' ≡ Some made → events' ≡ events → AreLines f 1 (texts ++ text ∷ []) (reads_of channel' events')
first_read f [] channel events events' made channel' text lines says is same =
    let none : events' ≡ [] = same ∙ nothing_said f channel events lines in
    let all : reads_of channel' events' ≡ line.Channel made.target made.value ∷ [] =
    ap (λ (o : Option Channel). reads_of o events') is ∙ ap (λ (es : List Stamped). reads_of (Some made) es) none in
    subst (AreLines f 1 (text ∷ [])) (sym all) (says, tt)
first_read f (t ∷ texts) channel events events' made channel' text lines says is same = absurd (omega (arith, says.2.0))

-- an event stands after those before it
reads_more : (channel : Option Channel) (events : List Stamped) (s : Stamped) → reads_of channel (events ++ s ∷ []) ≡ reads_of channel events ++ line.Event s ∷ []
reads_more None events s = map-append (λ e. line.Event e) events (s ∷ [])
reads_more (Some channel) events s = ap (λ (rs : List ScriptLine). line.Channel channel.target channel.value ∷ rs) (map-append (λ e. line.Event e) events (s ∷ []))

-- what is kept of a line more
pub reads_next : (f : Form) (texts : List (List ℕ)) (channel channel' : Option Channel) (events events' : List Stamped) (text : List ℕ) (read : ScriptLine) → AreLines f 1 texts (reads_of channel events) → SaysAt f (1 + length texts) text read → IsKeptLine channel events read channel' events' → AreLines f 1 (texts ++ text ∷ []) (reads_of channel' events')
reads_next f texts channel channel' events events' text (line.Channel target value) lines says kept =
    first_read f texts channel events events' (record { target = target; value = value }) channel' text lines says kept.0 kept.1
reads_next f texts channel channel' events events' text (line.Event s) lines says kept =
    let all : reads_of channel' events' ≡ reads_of channel events ++ line.Event s ∷ [] =
    ap (λ (o : Option Channel). reads_of o events') kept.0 ∙ ap (λ (es : List Stamped). reads_of channel es) kept.1 ∙ reads_more channel events s in
    subst (AreLines f 1 (texts ++ text ∷ [])) (sym all) (lines_more f 1 texts (reads_of channel events) text (line.Event s) lines says)
reads_next f texts channel channel' events events' text read lines says kept = absurd kept

-- ---- what is read of a line is no longer and no less printable

short_if : (c : Bool) (xs ys zs : List ℕ) → length xs ≤ length zs → length ys ≤ length zs → length (if c then xs else ys) ≤ length zs
short_if Rattle.std.specs.Prelude.true xs ys zs h k = h
short_if Rattle.std.specs.Prelude.false xs ys zs h k = k

before_short : (text : List ℕ) → length (before_sign text) ≤ length text
before_short [] = omega arith
before_short (b ∷ text) = short_if (begins (b ∷ text) (codes " = ")) [] (b ∷ before_sign text) (b ∷ text) (omega arith) (omega (arith, before_short text))

part_short : (f : Form) (n : ℕ) (text : List ℕ) → length (read_part f n text) ≤ length text
part_short form.Script n text = omega arith
part_short form.Report n text = short_if (n == 1) text (before_sign text) text (omega arith) (before_short text)

all_if : (P : ℕ → Type 0) (c : Bool) (xs ys : List ℕ) → AllByRecursion P xs → AllByRecursion P ys → AllByRecursion P (if c then xs else ys)
all_if P Rattle.std.specs.Prelude.true xs ys h k = h
all_if P Rattle.std.specs.Prelude.false xs ys h k = k

before_all : (P : ℕ → Type 0) (text : List ℕ) → AllByRecursion P text → AllByRecursion P (before_sign text)
before_all P [] h = tt
before_all P (b ∷ text) h = all_if P (begins (b ∷ text) (codes " = ")) [] (b ∷ before_sign text) tt (h.0, before_all P text h.1)

part_all : (P : ℕ → Type 0) (f : Form) (n : ℕ) (text : List ℕ) → AllByRecursion P text → AllByRecursion P (read_part f n text)
part_all P form.Script n text h = h
part_all P form.Report n text h = all_if P (n == 1) text (before_sign text) h (before_all P text h)

abbrev IsPrintable : ℕ → Type 0
IsPrintable b = (32 ≤ b) × (b ≤ 126)

part_raw : (f : Form) (n m : ℕ) (text part : List ℕ) → part ≡ read_part f n text → m ≡ n → IsRawLine n text true → IsRawLine m part true
part_raw f n m text part is same raw =
    let short : length part ≤ length text = subst (λ (p : List ℕ). length p ≤ length text) (sym is) (part_short f n text) in
    let all : AllByRecursion IsPrintable (read_part f n text) = part_all IsPrintable f n text (recursion_from_All IsPrintable text raw.2.0) in
    (omega (arith, same, raw.0), omega (arith, short, raw.1), (subst (All IsPrintable) (sym is) (All-from_recursion IsPrintable (read_part f n text) all), refl))

-- ---- a reader of replay scripts

pub says_line : (f : Form) (r : ReaderSeen) (n : ℕ) (text part : List ℕ) (read : ScriptLine) → r.kind ≡ script.Replay → r.lines + 1 ≡ n → IsRawLine n text true → (IsRecord f n text → ⊥) → part ≡ read_part f n text → IsLine r part true read → SaysAt f (r.lines + 1) text read
says_line f r n text part read kind number raw other is t =
    let said : IsReplayLine (r.lines + 1) (fields part) read = subst (λ (k : ScriptKind). IsKindLine k (r.lines + 1) r.answered (fields part) read) kind t.1 in
    let there : IsReplayLine n (fields (read_part f n text)) read =
    subst (λ (p : List ℕ). IsReplayLine n (fields p) read) is (subst (λ (k : ℕ). IsReplayLine k (fields part) read) number said) in
    subst (λ (k : ℕ). SaysAt f k text read) (sym number) (raw, other, there)

pub fault_at : (f : Form) (r : ReaderSeen) (records n : ℕ) (text part : List ℕ) (c : ℕ) → r.kind ≡ script.Replay → r.lines + 1 ≡ n → records ≡ 0 → IsRawLine n text true → (IsRecord f n text → ⊥) → part ≡ read_part f n text → IsLineFault r part true c → IsFaultAt f records n text true c
fault_at f r records n text part c kind number none raw other is (inl fault) =
    absurd (read_raw (r.lines + 1) part true c (part_raw f n (r.lines + 1) text part is number raw) fault)
fault_at f r records n text part c kind number none raw other is (inr reported) =
    let said : IsReplayFault (r.lines + 1) (fields part) c = subst (λ (k : ScriptKind). IsKindFault k (r.lines + 1) r.answered (fields part) c) kind reported.1 in
    let there : IsReplayFault n (fields (read_part f n text)) c =
    subst (λ (p : List ℕ). IsReplayFault n (fields p) c) is (subst (λ (k : ℕ). IsReplayFault k (fields part) c) number said) in
    inr (raw, other, inl (none, there))

pub reported_of : (f : Form) (r : ReaderSeen) (records n : ℕ) (text part : List ℕ) (b : BadLine) (e : InputFault) → r.kind ≡ script.Replay → n ≡ r.lines + records + 1 → records ≡ 0 → IsRawLine n text true → (IsRecord f n text → ⊥) → part ≡ read_part f n text → IsBadLine r part true b → e ≡ input_fault b → IsReported f r records text true e
reported_of f r records n text part (bad.At m cause) e kind number none raw other is reported same =
    let here : r.lines + 1 ≡ n = omega (arith, number, none) in
    let fault : IsFaultAt f records n text true cause = fault_at f r records n text part cause kind here none raw other is reported.1 in
    subst (IsReported f r records text true) (sym same) (
      omega (arith, reported.0, none),
      subst (λ (k : ℕ). IsFaultAt f records k text true cause) (omega (arith, reported.0, here)) fault,
    )
reported_of f r records n text part bad.NoMemory e kind number none raw other is reported same = subst (IsReported f r records text true) (sym same) tt

pub read_done : (f : Form) (r r' : ReaderSeen) (records n : ℕ) (text part : List ℕ) (read : ScriptLine) → r.kind ≡ script.Replay → n ≡ r.lines + records + 1 → records ≡ 0 → IsRawLine n text true → (IsRecord f n text → ⊥) → part ≡ read_part f n text → IsLine r part true read → IsStateAfter r read r' → IsRead f r records text (Some read) r'
read_done f r r' records n text part read kind number none raw other is t afterwards =
    (none, says_line f r n text part read kind (omega (arith, number, none)) raw other is t, afterwards)

-- a line that is too long stays so, whatever follows
pub long_stays : (f : Form) (records n : ℕ) (text longer : List ℕ) (closed closed' : Bool) (c : ℕ) → line_limit < length text → length text ≤ length longer → IsFaultAt f records n text closed c → IsFaultAt f records n longer closed' c
long_stays f records n text longer closed closed' c long more (inl (inl many)) = inl (inl many)
long_stays f records n text longer closed closed' c long more (inl (inr (few, inl past))) = inl (inr (few, inl ((λ short. absurd (omega (arith, short, long, more))), past.1)))
long_stays f records n text longer closed closed' c long more (inl (inr (few, inr passed))) = absurd (omega (arith, passed.0, long))
long_stays f records n text longer closed closed' c long more (inr reported) = absurd (omega (arith, reported.0.1, long))
