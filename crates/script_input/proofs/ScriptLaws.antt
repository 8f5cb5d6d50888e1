-- A text spells one script, and a script whose events came at later moments is read again from its own spelling.
use Rattle.std.proofs.Common.{◌≡◌, ◌≢◌, ◌≤◌, ℕ, ◌+◌, List, [], ◌∷◌, ◌++◌, length, map, true, All, refl, ap, sym, subst, arith, append_assoc, append-nil, ◌∙◌}
use Rattle.std.specs.List.{AllByRecursion}
use Rattle.std.proofs.lemmas.List.Elements.{recursion_from_All}
use Rattle.grpc_base.specs.declared.event.Stamped.{Stamped}
use Rattle.grpc_base.specs.Limits.{line_limit, moment_limit}
use Rattle.grpc_base.specs.Pieces.{pieces}
use Rattle.grpc_base.proofs.PieceLaws.{pieces-parted}
use Rattle.script_fields.specs.Spelling.{fields}
use Rattle.script_lines.specs.declared.line.ScriptLine.{ScriptLine}
use Rattle.script_lines.specs.declared.line.ScriptLine.TheVariants as line
use Rattle.script_lines.specs.Spelling.{IsReadAgain, IsSpelled, at_moment, channel_text, lines_text, script_of, stamped_text}
use Rattle.script_lines.proofs.AgainLaws.{channel_again, stamped_again}
use Rattle.script_lines.proofs.OneLine.{replay_one}
use Rattle.resolver_core.specs.declared.any_target.Target.{Target}
use Rattle.script_input.specs.declared.form.Form.{Form}
use Rattle.script_input.specs.declared.form.Form.TheVariants as form
use Rattle.script_input.specs.Scripts.{AreLines, AreRecords, IsOnlyScript, IsRecord, IsScript, SaysAt, read_part, script_reads}

-- ---- one script

lines_one : (f : Form) (n : ℕ) (texts : List (List ℕ)) (reads others : List ScriptLine) → AreLines f n texts reads → AreLines f n texts others → reads ≡ others
lines_one f n [] [] [] t u = refl
lines_one f n [] (read ∷ reads) others t u = absurd t
lines_one f n [] [] (other ∷ others) t u = absurd u
lines_one f n (text ∷ texts) [] others t u = absurd t
lines_one f n (text ∷ texts) (read ∷ reads) [] t u = absurd u
lines_one f n (text ∷ texts) (read ∷ reads) (other ∷ others) t u =
    let head : read ≡ other = replay_one n (fields (read_part f n text)) other read u.0.2 t.0.2 in
    let tail : reads ≡ others = lines_one f (n + 1) texts reads others t.1 u.1 in
    λ i. head i ∷ tail i

-- the first line after the entries is one and the same
entries_one : (f : Form) (n : ℕ) (ts rs us vs : List (List ℕ)) (reads others : List ScriptLine) → ts ++ rs ≡ us ++ vs → AreLines f n ts reads → AreRecords f (length ts + n) rs → AreLines f n us others → AreRecords f (length us + n) vs → ts ≡ us
entries_one f n [] rs [] vs reads others e t r u v = refl
entries_one f n [] [] (x ∷ us) vs reads others e t r u v = absurd ((cc))
entries_one f n [] (y ∷ rs) (x ∷ us) vs reads [] e t r u v = absurd u
entries_one f n [] (y ∷ rs) (x ∷ us) vs reads (other ∷ others) e t r u v =
    let same : y ≡ x = (cc) in
    absurd (u.0.1 (subst (IsRecord f n) same (subst (λ (k : ℕ). IsRecord f k y) (omega arith) r.0.1)))
entries_one f n (y ∷ ts) rs [] [] reads others e t r u v = absurd ((cc))
entries_one f n (y ∷ ts) rs [] (x ∷ vs) [] others e t r u v = absurd t
entries_one f n (y ∷ ts) rs [] (x ∷ vs) (read ∷ reads) others e t r u v =
    let same : x ≡ y = (cc) in
    absurd (t.0.1 (subst (IsRecord f n) same (subst (λ (k : ℕ). IsRecord f k x) (omega arith) v.0.1)))
entries_one f n (y ∷ ts) rs (x ∷ us) vs [] others e t r u v = absurd t
entries_one f n (y ∷ ts) rs (x ∷ us) vs (read ∷ reads) [] e t r u v = absurd u
entries_one f n (y ∷ ts) rs (x ∷ us) vs (read ∷ reads) (other ∷ others) e t r u v =
    let head : y ≡ x = (cc) in
    let rest : ts ++ rs ≡ us ++ vs = (cc) in
    let tail : ts ≡ us =
    entries_one f (n + 1) ts rs us vs reads others rest t.1 (subst (λ (k : ℕ). AreRecords f k rs) (omega arith) r) u.1 (subst (λ (k : ℕ). AreRecords f k vs) (omega arith) v) in
    λ i. head i ∷ tail i

prefix_one : (xs ys : List (List ℕ)) (z : List ℕ) → xs ++ z ∷ [] ≡ ys ++ z ∷ [] → xs ≡ ys
prefix_one [] [] z e = refl
prefix_one [] (y ∷ []) z e = (let bad : [] ≡ z ∷ [] = (cc) in absurd ((cc)))
prefix_one [] (y ∷ (x ∷ ys)) z e = (let bad : [] ≡ x ∷ (ys ++ z ∷ []) = (cc) in absurd ((cc)))
prefix_one (x ∷ []) [] z e = (let bad : z ∷ [] ≡ [] = (cc) in absurd ((cc)))
prefix_one (x ∷ (y ∷ xs)) [] z e = (let bad : y ∷ (xs ++ z ∷ []) ≡ [] = (cc) in absurd ((cc)))
prefix_one (x ∷ xs) (y ∷ ys) z e =
    let head : x ≡ y = (cc) in
    let rest : xs ++ z ∷ [] ≡ ys ++ z ∷ [] = (cc) in
    let tail : xs ≡ ys = prefix_one xs ys z rest in
    λ i. head i ∷ tail i

events_one : (xs ys : List Stamped) → map (λ s. line.Event s) xs ≡ map (λ s. line.Event s) ys → xs ≡ ys
events_one [] [] e = refl
events_one [] (y ∷ ys) e = absurd ((cc))
events_one (x ∷ xs) [] e = absurd ((cc))
events_one (x ∷ xs) (y ∷ ys) e =
    let head : x ≡ y = (cc) in
    let rest : map (λ s. line.Event s) xs ≡ map (λ s. line.Event s) ys = (cc) in
    let tail : xs ≡ ys = events_one xs ys rest in
    λ i. head i ∷ tail i

reads_one : (target other : List ℕ) (x y : Target) (events more : List Stamped) → script_reads target x events ≡ script_reads other y more → (target ≡ other) × (x ≡ y) × (events ≡ more)
reads_one target other x y events more e =
    let rest : map (λ s. line.Event s) events ≡ map (λ s. line.Event s) more = (cc) in
    ((cc), (cc), events_one events more rest)

-- a text spells one script
pub script_one : (f : Form) (input target : List ℕ) (value : Target) (events : List Stamped) → IsScript f input target value events → IsOnlyScript f input target value events
script_one f input target value events t = λ other another more u.
    let all : t.texts ++ t.records ≡ u.texts ++ u.records = prefix_one (t.texts ++ t.records) (u.texts ++ u.records) [] (sym t.parts ∙ u.parts) in
    let texts : t.texts ≡ u.texts = entries_one f 1 t.texts t.records u.texts u.records (script_reads target value events) (script_reads other another more) all t.lines t.afterwards u.lines u.afterwards in
    let there : AreLines f 1 t.texts (script_reads other another more) = subst (λ (ts : List (List ℕ)). AreLines f 1 ts (script_reads other another more)) (sym texts) u.lines in
    reads_one other target another value more events (lines_one f 1 t.texts (script_reads other another more) (script_reads target value events) there t.lines)

-- ---- the same events at other moments

abbrev pub AreMoved : List Stamped → List Stamped → Type 0
AreMoved [] [] = Unit {0}
AreMoved (s ∷ events) (m ∷ moved) = (m ≡ at_moment s m.moment) × (m.moment ≤ moment_limit) × AreMoved events moved
AreMoved events moved = ⊥

abbrev pub IsShort : Stamped → Type 0
IsShort s = length (stamped_text s) ≤ line_limit

lines_again : (f : Form) (n : ℕ) (texts : List (List ℕ)) (events moved : List Stamped) → 2 ≤ n → AreLines f n texts (map (λ s. line.Event s) events) → AreMoved events moved → AllByRecursion IsShort moved → AreLines form.Script n (map stamped_text moved) (map (λ s. line.Event s) moved)
lines_again f n [] [] [] afterwards t is short = tt
lines_again f n [] [] (m ∷ moved) afterwards t is short = absurd is
lines_again f n [] (s ∷ events) moved afterwards t is short = absurd t
lines_again f n (text ∷ texts) [] moved afterwards t is short = absurd t
lines_again f n (text ∷ texts) (s ∷ events) [] afterwards t is short = absurd is
lines_again f n (text ∷ texts) (s ∷ events) (m ∷ moved) afterwards t is short =
    let spelled : IsSpelled (at_moment s m.moment) = stamped_again (fields (read_part f n text)) s m.moment is.1 t.0.2.1 in
    let again : IsSpelled m = subst (λ (x : Stamped). IsSpelled x) (sym is.0) spelled in (
      ((t.0.0.0, short.0, again.0), (λ none. none), ((λ e. omega (arith, afterwards, e)), again.1)),
      lines_again f (n + 1) texts events moved (omega (arith, afterwards)) t.1 is.2 short.1,
    )

-- lines without a line feed are the parts of their text, and after the last one nothing stands
abbrev AreOneLine : List (List ℕ) → Type 0
AreOneLine lines = AllByRecursion (λ l. All (λ b. b ≢ 10) l) lines

lines_parted : (lines : List (List ℕ)) → AreOneLine lines → pieces 10 (lines_text lines) ≡ lines ++ [] ∷ []
lines_parted [] free = refl
lines_parted (l ∷ lines) free =
    pieces-parted 10 (lines_text (l ∷ lines)) l (lines_text lines) (append_assoc l (10 ∷ []) (lines_text lines)) free.0
    ∙ ap (λ (t : List (List ℕ)). l ∷ t) (lines_parted lines free.1)

no_feed : (text : List ℕ) → All (λ b. (32 ≤ b) × (b ≤ 126)) text → All (λ b. b ≢ 10) text
no_feed text all = λ k h d e. omega (arith, (all k h d).0, e)

said_free : (f : Form) (n : ℕ) (texts : List (List ℕ)) (reads : List ScriptLine) → AreLines f n texts reads → AreOneLine texts
said_free f n [] reads t = tt
said_free f n (text ∷ texts) [] t = absurd t
said_free f n (text ∷ texts) (read ∷ reads) t = (no_feed text t.0.0.2.0, said_free f (n + 1) texts reads t.1)

-- a script at later moments is a script again, of version 2
pub script_again : (f : Form) (input target : List ℕ) (value : Target) (events moved : List Stamped) → IsScript f input target value events → AreMoved events moved → All IsShort moved → IsScript form.Script (script_of target moved) target value moved
script_again f input target value events moved t is short =
    let texts : List (List ℕ) = channel_text target ∷ map stamped_text moved in
    let lines : AreLines form.Script 1 texts (script_reads target value moved) = said_again t.texts t.lines in
    let parts : pieces 10 (lines_text texts) ≡ texts ++ [] ∷ [] = lines_parted texts (said_free form.Script 1 texts (script_reads target value moved) lines) in
    record { texts = texts; records = []; parts = parts ∙ ap (λ (ts : List (List ℕ)). ts ++ [] ∷ []) (sym (append-nil texts)); lines = lines; afterwards = tt }
  where
    first_again : (g : Form) (text : List ℕ) → SaysAt g 1 text (line.Channel target value) → SaysAt form.Script 1 (channel_text target) (line.Channel target value)
    first_again form.Script text says =
        let again : IsReadAgain (line.Channel target value) = channel_again 1 text target value true says.0 says.2.1 in
        (again.0, (λ none. none), (refl, again.1))
    first_again form.Report text says =
        let again : IsReadAgain (line.Channel target value) = channel_again 1 text target value true says.0 says.2.1 in
        (again.0, (λ none. none), (refl, again.1))

    said_again : (texts : List (List ℕ)) → AreLines f 1 texts (script_reads target value events) → AreLines form.Script 1 (channel_text target ∷ map stamped_text moved) (script_reads target value moved)
    said_again [] l = absurd l
    said_again (text ∷ texts) l = (
      first_again f text l.0,
      lines_again f 2 texts events moved (omega arith) l.1 is (recursion_from_All IsShort moved short),
    )
