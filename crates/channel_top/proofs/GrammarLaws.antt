-- No script has a bad line: what is a script, of whatever kind, is not reported as bad.
use Rattle.std.proofs.Common.{◌≡◌, ◌≢◌, ◌⊎◌, ◌∙◌, ℕ, ◌+◌, Bool, true, List, [], ◌∷◌, ◌++◌, ap, arith, inl, inr, length, map, refl, subst, sym}
use Rattle.std.specs.Prelude.{Option, Some, None}
use Rattle.std.specs.List.{AllByRecursion}
use Rattle.grpc_base.specs.Pieces.{pieces}
use Rattle.grpc_base.specs.declared.event.Stamped.{Stamped}
use Rattle.grpc_base.specs.declared.script.AnswerLine.{AnswerLine}
use Rattle.resolver_core.specs.declared.any_target.Target.{Target}
use Rattle.script_fields.specs.Spelling.{fields}
use Rattle.script_lines.specs.Answers.{Answered, IsAnswerFault, IsAnswerText}
use Rattle.script_lines.specs.Lines.{IsLiveFault, IsLiveLine, IsRawFault, IsRawLine}
use Rattle.script_lines.specs.declared.line.ScriptLine.{ScriptLine}
use Rattle.script_lines.specs.declared.line.ScriptLine.TheVariants as line
use Rattle.script_lines.proofs.AnswerLaws.{read_answer}
use Rattle.script_lines.proofs.GrammarLaws.{other_names, read_live, read_replay}
use Rattle.script_lines.proofs.ReaderLaws.{read_raw}
use Rattle.script_input.specs.Lives.{AreLiveLines, IsFirstBadLive, IsLive, IsNothing, config_reads, live_reads}
use Rattle.script_input.specs.Relays.{IsCallAt, IsFirstBadRelay, IsRelayFault}
use Rattle.script_input.specs.Scripts.{AreLines, AreRecords, IsFaultAt, IsFirstBad, IsRecord, IsScript, SaysAt, is_closed, read_part}
use Rattle.script_input.specs.Servers.{AreAnswers, IsFirstBadAnswer, IsServer, answered_by}
use Rattle.script_input.specs.declared.form.Form.{Form}
use Rattle.script_input.specs.declared.live_script.LiveScript.{LiveScript}
use Rattle.script_input.specs.declared.live_script.WorkerLine.{WorkerLine}

-- ---- lists

some_more : {X : Type 0} (xs : List X) (x : X) (ys : List X) → [] ≡ xs ++ x ∷ ys → ⊥
some_more [] x ys e = (cc)
some_more (y ∷ xs) x ys e = (cc)

closed_prefix : (ts : List (List ℕ)) → is_closed (ts ++ [] ∷ []) ≡ true
closed_prefix [] = refl
closed_prefix (t ∷ ts) = refl

-- a line that a line feed ended, and which is one, has no raw fault
raw_fault : (n m : ℕ) (t text : List ℕ) (afterwards texts : List (List ℕ)) (c : ℕ) → m ≡ n → text ≡ t → afterwards ≡ texts ++ [] ∷ [] → IsRawLine n t true → IsRawFault m text (is_closed afterwards) c → ⊥
raw_fault n m t text afterwards texts c number here rest is raw =
    read_raw n t true c is
    (subst (λ (b : Bool). IsRawFault n t b c) (ap is_closed rest ∙ closed_prefix texts)
    (subst (λ (k : ℕ). IsRawFault k t (is_closed afterwards) c) number (subst (λ (x : List ℕ). IsRawFault m x (is_closed afterwards) c) here raw)))

-- ---- replay scripts, and reports that hold one

-- a line that says something has no fault where no line after the entries was before it
no_fault : (f : Form) (n records : ℕ) (text : List ℕ) (read : ScriptLine) (closed : Bool) (c : ℕ) → records ≡ 0 → closed ≡ true → SaysAt f n text read → IsFaultAt f records n text closed c → ⊥
no_fault f n records text read closed c none shut says (inl raw) = read_raw n text true c says.0 (subst (λ (b : Bool). IsRawFault n text b c) shut raw)
no_fault f n records text read closed c none shut says (inr (raw, plain, inl (zero, fault))) = read_replay n (fields (read_part f n text)) read c says.2 fault
no_fault f n records text read closed c none shut says (inr (raw, plain, inr (some, unknown))) = some none

-- one of those has none either
no_record_fault : (f : Form) (n records : ℕ) (text : List ℕ) (closed : Bool) (c : ℕ) → closed ≡ true → IsRawLine n text true × IsRecord f n text → IsFaultAt f records n text closed c → ⊥
no_record_fault f n records text closed c shut is (inl raw) = read_raw n text true c is.0 (subst (λ (b : Bool). IsRawFault n text b c) shut raw)
no_record_fault f n records text closed c shut is (inr fault) = fault.1 is.1

at_line : (f : Form) (records n m : ℕ) (text t : List ℕ) (closed : Bool) (c : ℕ) → m ≡ n → text ≡ t → IsFaultAt f records m text closed c → IsFaultAt f records n t closed c
at_line f records n m text t closed c number here fault =
    subst (λ (k : ℕ). IsFaultAt f records k t closed c) number (subst (λ (x : List ℕ). IsFaultAt f records m x closed c) here fault)

-- among the lines after the entries
after_walk : (f : Form) (n m count : ℕ) (records before : List (List ℕ)) (text : List ℕ) (afterwards : List (List ℕ)) (c : ℕ)
    → m ≡ n + length before → AreRecords f n records → AreRecords f n before
    → records ++ [] ∷ [] ≡ before ++ text ∷ afterwards → (afterwards ≡ [] → text ≢ []) → IsFaultAt f count m text (is_closed afterwards) c → ⊥
after_walk f n m count [] [] text afterwards c at are are' same there fault =
    let last : text ≡ [] = (cc) in
    let end : afterwards ≡ [] = (cc) in
    there end last
after_walk f n m count [] (b ∷ before) text afterwards c at are are' same there fault =
    let left : [] ≡ before ++ text ∷ afterwards = (cc) in
    some_more before text afterwards left
after_walk f n m count (r ∷ records) [] text afterwards c at are are' same there fault =
    let here : text ≡ r = (cc) in
    let rest : afterwards ≡ records ++ [] ∷ [] = (cc) in
    let number : m ≡ n = omega (arith, at) in
    no_record_fault f n count r (is_closed afterwards) c (ap is_closed rest ∙ closed_prefix records) are.0 (at_line f count n m text r (is_closed afterwards) c number here fault)
after_walk f n m count (r ∷ records) (b ∷ before) text afterwards c at are are' same there fault =
    let rest : records ++ [] ∷ [] ≡ before ++ text ∷ afterwards = (cc) in
    after_walk f (n + 1) m count records before text afterwards c (omega (arith, at)) are.1 are'.1 rest there fault

walk : (f : Form) (n m : ℕ) (texts before records passed : List (List ℕ)) (reads reads' : List ScriptLine) (text : List ℕ) (afterwards : List (List ℕ)) (c : ℕ)
    → m ≡ n + length before + length passed → AreLines f n texts reads → AreRecords f (n + length texts) records
    → AreLines f n before reads' → AreRecords f (n + length before) passed
    → (texts ++ records) ++ [] ∷ [] ≡ (before ++ passed) ++ text ∷ afterwards → (afterwards ≡ [] → text ≢ [])
    → IsFaultAt f (length passed) m text (is_closed afterwards) c → ⊥
walk f n m [] [] records passed reads reads' text afterwards c at says are says' are' same there fault =
    after_walk f n m (length passed) records passed text afterwards c (omega (arith, at)) (subst (λ (k : ℕ). AreRecords f k records) (omega arith) are)
    (subst (λ (k : ℕ). AreRecords f k passed) (omega arith) are') same there fault
walk f n m [] (b ∷ before) [] passed reads (r' ∷ reads') text afterwards c at says are says' are' same there fault =
    let left : [] ≡ (before ++ passed) ++ text ∷ afterwards = (cc) in
    some_more (before ++ passed) text afterwards left
walk f n m [] (b ∷ before) (r ∷ records) passed reads (r' ∷ reads') text afterwards c at says are says' are' same there fault =
    let here : r ≡ b = (cc) in
    says'.0.1 (subst (λ (x : List ℕ). IsRecord f n x) here (subst (λ (k : ℕ). IsRecord f k r) (omega arith) are.0.1))
walk f n m [] (b ∷ before) records passed reads [] text afterwards c at says are says' are' same there fault = absurd says'
walk f n m (t ∷ texts) [] records [] (r ∷ reads) reads' text afterwards c at says are says' are' same there fault =
    let here : text ≡ t = (cc) in
    let rest : afterwards ≡ (texts ++ records) ++ [] ∷ [] = (cc) in
    let number : m ≡ n = omega (arith, at) in
    no_fault f n 0 t r (is_closed afterwards) c refl (ap is_closed rest ∙ closed_prefix (texts ++ records)) says.0 (at_line f 0 n m text t (is_closed afterwards) c number here fault)
walk f n m (t ∷ texts) [] records (p ∷ passed) (r ∷ reads) reads' text afterwards c at says are says' are' same there fault =
    let here : p ≡ t = (cc) in
    says.0.1 (subst (λ (x : List ℕ). IsRecord f n x) here (subst (λ (k : ℕ). IsRecord f k p) (omega arith) are'.0.1))
walk f n m (t ∷ texts) [] records passed [] reads' text afterwards c at says are says' are' same there fault = absurd says
walk f n m (t ∷ texts) (b ∷ before) records passed [] reads' text afterwards c at says are says' are' same there fault = absurd says
walk f n m (t ∷ texts) (b ∷ before) records passed (r ∷ reads) [] text afterwards c at says are says' are' same there fault = absurd says'
walk f n m (t ∷ texts) (b ∷ before) records passed (r ∷ reads) (r' ∷ reads') text afterwards c at says are says' are' same there fault =
    let rest : (texts ++ records) ++ [] ∷ [] ≡ (before ++ passed) ++ text ∷ afterwards = (cc) in
    walk f (n + 1) m texts before records passed reads reads' text afterwards c (omega (arith, at)) says.1 (subst (λ (k : ℕ). AreRecords f k records) (omega arith) are)
    says'.1 (subst (λ (k : ℕ). AreRecords f k passed) (omega arith) are') rest there fault

pub no_bad : (f : Form) (input target : List ℕ) (value : Target) (events : List Stamped) (n cause : ℕ) → IsScript f input target value events → IsFirstBad f input n cause → ⊥
no_bad f input target value events n cause script bad =
    walk f 1 n script.texts bad.before script.records bad.records _ bad.reads bad.text bad.afterwards cause (omega (arith, bad.number)) script.lines
    (subst (λ (k : ℕ). AreRecords f k script.records) (omega arith) script.afterwards) bad.lines (subst (λ (k : ℕ). AreRecords f k bad.records) (omega arith) bad.recorded)
    (sym script.parts ∙ bad.parts) bad.there bad.fault

-- no bytes have none either
pub no_bad_in_none : (f : Form) (n cause : ℕ) → IsFirstBad f [] n cause → ⊥
no_bad_in_none f n cause bad =
    walk f 1 n [] bad.before [] bad.records [] bad.reads bad.text bad.afterwards cause (omega (arith, bad.number)) tt tt bad.lines
    (subst (λ (k : ℕ). AreRecords f k bad.records) (omega arith) bad.recorded) bad.parts bad.there bad.fault

-- ---- live scripts

-- where each line that says something has no fault, by whatever is a fault and whatever is known of what it says
live_walk : (Q : ScriptLine → Type 0) (Bad : ℕ → List (List ℕ) → Type 0) (n m : ℕ) (texts before : List (List ℕ)) (reads reads' : List ScriptLine) (text : List ℕ) (afterwards : List (List ℕ)) (c : ℕ)
    → ((k : ℕ) (t : List ℕ) (r : ScriptLine) → Q r → IsLiveLine k (fields t) r → Bad k (fields t) → ⊥)
    → m ≡ n + length before → AllByRecursion Q reads → AreLiveLines n texts reads → AreLiveLines n before reads' → texts ++ [] ∷ [] ≡ before ++ text ∷ afterwards
    → (afterwards ≡ [] → text ≢ []) → IsRawFault m text (is_closed afterwards) c ⊎ (IsRawLine m text (is_closed afterwards) × Bad m (fields text)) → ⊥
live_walk Q Bad n m [] [] reads reads' text afterwards c good at qs says says' same there fault =
    let last : text ≡ [] = (cc) in
    let end : afterwards ≡ [] = (cc) in
    there end last
live_walk Q Bad n m [] (b ∷ before) reads reads' text afterwards c good at qs says says' same there fault =
    let left : [] ≡ before ++ text ∷ afterwards = (cc) in
    some_more before text afterwards left
live_walk Q Bad n m (t ∷ texts) [] (r ∷ reads) reads' text afterwards c good at qs says says' same there (inl raw) =
    let here : text ≡ t = (cc) in
    let rest : afterwards ≡ texts ++ [] ∷ [] = (cc) in
    let number : m ≡ n = omega (arith, at) in
    raw_fault n m t text afterwards texts c number here rest says.0.0 raw
live_walk Q Bad n m (t ∷ texts) [] (r ∷ reads) reads' text afterwards c good at qs says says' same there (inr fault) =
    let here : text ≡ t = (cc) in
    let number : m ≡ n = omega (arith, at) in
    good n t r qs.0 says.0.1 (subst (λ (k : ℕ). Bad k (fields t)) number (subst (λ (x : List ℕ). Bad m (fields x)) here fault.1))
live_walk Q Bad n m (t ∷ texts) [] [] reads' text afterwards c good at qs says says' same there fault = absurd says
live_walk Q Bad n m (t ∷ texts) (b ∷ before) [] reads' text afterwards c good at qs says says' same there fault = absurd says
live_walk Q Bad n m (t ∷ texts) (b ∷ before) (r ∷ reads) [] text afterwards c good at qs says says' same there fault = absurd says'
live_walk Q Bad n m (t ∷ texts) (b ∷ before) (r ∷ reads) (r' ∷ reads') text afterwards c good at qs says says' same there fault =
    let rest : texts ++ [] ∷ [] ≡ before ++ text ∷ afterwards = (cc) in
    live_walk Q Bad (n + 1) m texts before reads reads' text afterwards c good (omega (arith, at)) qs.1 says.1 says'.1 rest there fault

pub no_bad_live : (input : List ℕ) (script : LiveScript) (n cause : ℕ) → IsLive input script → IsFirstBadLive input n cause → ⊥
no_bad_live input script n cause live bad =
    live_walk (λ r. Unit {0}) (λ k texts. IsLiveFault k texts cause) 1 n live.texts bad.before (live_reads script) bad.reads bad.text bad.afterwards cause
    (λ k t r any says fault. read_live k (fields t) r cause says fault) (omega (arith, bad.number)) (all_unit (live_reads script)) live.lines bad.lines (sym live.parts ∙ bad.parts) bad.there bad.fault
  where
    all_unit : (reads : List ScriptLine) → AllByRecursion (λ r. Unit {0}) reads
    all_unit [] = tt
    all_unit (r ∷ reads) = (tt, all_unit reads)

-- no bytes are no live script
pub not_nothing : (input : List ℕ) (script : LiveScript) (n cause : ℕ) → IsLive input script → IsNothing input n cause → ⊥
not_nothing input script n cause live nothing = no_lines live.texts (sym live.parts ∙ ap (pieces 10) nothing.0) live.lines
  where
    no_lines : (texts : List (List ℕ)) → texts ++ [] ∷ [] ≡ [] ∷ [] → AreLiveLines 1 texts (live_reads script) → ⊥
    no_lines [] same lines = lines
    no_lines (t ∷ texts) same lines =
        let none : [] ≡ texts ++ [] ∷ [] = (cc) in
        some_more texts [] [] none

-- ---- scripts of a relay

abbrev NotCall : ScriptLine → Type 0
NotCall (line.Call worker call) = ⊥
NotCall r = Unit {0}

no_call : (k : ℕ) (texts : List (List ℕ)) (r : ScriptLine) → NotCall r → IsLiveLine k texts r → IsCallAt k texts → ⊥
no_call k texts (line.Channel target value) other says call = call.0 says.0
no_call k texts (line.Call worker c) other says call = other
no_call k (name ∷ others) (line.Config config) other says call = other_names (sym says.1.0 ∙ call.1)
no_call k (name ∷ others) r other says call = absurd says.1
no_call k [] r other says call = absurd call.1

no_relay_fault : (c k : ℕ) (texts : List (List ℕ)) (r : ScriptLine) → NotCall r → IsLiveLine k texts r → IsRelayFault k texts c → ⊥
no_relay_fault c k texts r other says (inl (call, unknown)) = no_call k texts r other says call
no_relay_fault c k texts r other says (inr (none, fault)) = read_live k texts r c says fault

not_calls : (target : List ℕ) (value : Target) (config : Option (List ℕ)) (calls : List WorkerLine) → calls ≡ []
    → AllByRecursion NotCall (line.Channel target value ∷ config_reads config ++ map (λ c. line.Call c.worker c.line) calls)
not_calls target value None [] none = (tt, tt)
not_calls target value (Some config) [] none = (tt, (tt, tt))
not_calls target value config (c ∷ calls) none = absurd (cc)

pub no_bad_relay : (input : List ℕ) (script : LiveScript) (n cause : ℕ) → IsLive input script → script.calls.items ≡ [] → IsFirstBadRelay input n cause → ⊥
no_bad_relay input script n cause live none bad =
    live_walk NotCall (λ k texts. IsRelayFault k texts cause) 1 n live.texts bad.before (live_reads script) bad.reads bad.text bad.afterwards cause
    (λ k t r other says fault. no_relay_fault cause k (fields t) r other says fault) (omega (arith, bad.number)) (not_calls script.target script.value script.config script.calls.items none)
    live.lines bad.lines (sym live.parts ∙ bad.parts) bad.there bad.fault

-- ---- server scripts

-- an answer's path and number are decided by its line
one_place : (answered : Answered) (texts : List (List ℕ)) (a b : AnswerLine) → IsAnswerText answered texts a → IsAnswerText answered texts b → ◌≡◌ {A = Answered} ((b.path, b.n) ∷ answered) ((a.path, a.n) ∷ answered)
one_place answered (name ∷ path ∷ n ∷ parts ∷ []) a b t u =
    let path_same : b.path ≡ a.path = u.2 ∙ sym t.2 in
    let n_same : b.n ≡ a.n = u.3 ∙ sym t.3 in
    ap (λ (p : List ℕ). (p, b.n) ∷ answered) path_same ∙ ap (λ (k : ℕ). (a.path, k) ∷ answered) n_same
one_place answered texts a b t u = absurd t

answer_walk : (answered : Answered) (n m : ℕ) (texts before : List (List ℕ)) (answers answers' : List AnswerLine) (text : List ℕ) (afterwards : List (List ℕ)) (c : ℕ)
    → m ≡ n + length before → AreAnswers answered n texts answers → AreAnswers answered n before answers' → texts ++ [] ∷ [] ≡ before ++ text ∷ afterwards
    → (afterwards ≡ [] → text ≢ [])
    → IsRawFault m text (is_closed afterwards) c ⊎ (IsRawLine m text (is_closed afterwards) × IsAnswerFault (answered_by answered answers') (fields text) c) → ⊥
answer_walk answered n m [] [] answers answers' text afterwards c at says says' same there fault =
    let last : text ≡ [] = (cc) in
    let end : afterwards ≡ [] = (cc) in
    there end last
answer_walk answered n m [] (b ∷ before) answers answers' text afterwards c at says says' same there fault =
    let left : [] ≡ before ++ text ∷ afterwards = (cc) in
    some_more before text afterwards left
answer_walk answered n m (t ∷ texts) [] (a ∷ answers) answers' text afterwards c at says says' same there (inl raw) =
    let here : text ≡ t = (cc) in
    let rest : afterwards ≡ texts ++ [] ∷ [] = (cc) in
    let number : m ≡ n = omega (arith, at) in
    raw_fault n m t text afterwards texts c number here rest says.0.0 raw
answer_walk answered n m (t ∷ texts) [] (a ∷ answers) [] text afterwards c at says says' same there (inr fault) =
    let here : text ≡ t = (cc) in
    read_answer answered (fields t) a c says.0.1 (subst (λ (x : List ℕ). IsAnswerFault answered (fields x) c) here fault.1)
answer_walk answered n m (t ∷ texts) [] (a ∷ answers) (a' ∷ answers') text afterwards c at says says' same there (inr fault) = absurd says'
answer_walk answered n m (t ∷ texts) [] [] answers' text afterwards c at says says' same there fault = absurd says
answer_walk answered n m (t ∷ texts) (b ∷ before) [] answers' text afterwards c at says says' same there fault = absurd says
answer_walk answered n m (t ∷ texts) (b ∷ before) (a ∷ answers) [] text afterwards c at says says' same there fault = absurd says'
answer_walk answered n m (t ∷ texts) (b ∷ before) (a ∷ answers) (a' ∷ answers') text afterwards c at says says' same there fault =
    let here : t ≡ b = (cc) in
    let rest : texts ++ [] ∷ [] ≡ before ++ text ∷ afterwards = (cc) in
    let place : ◌≡◌ {A = Answered} ((a.path, a.n) ∷ answered) ((a'.path, a'.n) ∷ answered) =
    one_place answered (fields b) a' a says'.0.1 (subst (λ (x : List ℕ). IsAnswerText answered (fields x) a) here says.0.1) in
    answer_walk ((a'.path, a'.n) ∷ answered) (n + 1) m texts before answers answers' text afterwards c (omega (arith, at))
    (subst (λ (p : Answered). AreAnswers p (n + 1) texts answers) place says.1) says'.1 rest there fault

pub no_bad_answer : (input : List ℕ) (answers : List AnswerLine) (n cause : ℕ) → IsServer input answers → IsFirstBadAnswer input n cause → ⊥
no_bad_answer input answers n cause script bad =
    answer_walk [] 1 n script.texts bad.before answers bad.answers bad.text bad.afterwards cause (omega (arith, bad.number)) script.lines bad.lines (sym script.parts ∙ bad.parts) bad.there bad.fault
