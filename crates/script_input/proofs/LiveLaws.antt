-- What the lines of a live script say, line by line.
use Rattle.std.proofs.Common.{◌≡◌, ◌≢◌, ◌⊎◌, ◌∙◌, ◌<◌, ◌≤◌, ℕ, ◌+◌, suc, zero, List, [], ◌∷◌, ◌++◌, Bool, true, Option, Some, None, ap, append_assoc, arith, inl, inr, length, length-append, map, refl, subst, sym}
use Rattle.std.specs.Prelude.{Result, Ok, Err, IfErr, IfOk, OnOk}
use Rattle.std.proofs.lemmas.List.{append_cancel_right, map-append}
use Rattle.grpc_base.specs.Pieces.{pieces}
use Rattle.gate_io.specs.Outside.{IsAtEnd, Rises, Takes}
use Rattle.resolver_core.specs.AnyTargets.{IsTarget}
use Rattle.resolver_core.specs.declared.any_target.Target.{Target}
use Rattle.resolver_core.proofs.KeptLaws.{target_kept}
use Rattle.script_fields.specs.Spelling.{fields}
use Rattle.script_fields.proofs.PartLaws.{pieces-blank}
use Rattle.script_lines.specs.declared.line.ScriptLine.{ScriptLine}
use Rattle.script_lines.specs.declared.line.ScriptLine.TheVariants as line
use Rattle.script_lines.specs.declared.reader.BadLine.{BadLine}
use Rattle.script_lines.specs.declared.reader.BadLine.TheVariants as bad
use Rattle.script_lines.specs.declared.reader.ScriptKind.{ScriptKind}
use Rattle.script_lines.specs.declared.reader.ScriptKind.TheVariants as script
use Rattle.script_lines.specs.Causes.{no_channel}
use Rattle.script_lines.specs.Lines.{IsLiveFault, IsLiveLine, IsLiveText, IsRawFault, IsRawLine}
use Rattle.script_lines.specs.Reader.{IsStateAfter, IsKindFault, IsKindLine, IsLine, IsLineFault, ReaderSeen}
use Rattle.script_lines.proofs.OneLine.{line_one}
use Rattle.script_lines.proofs.ReaderLaws.{read_raw}
use Rattle.script_input.specs.declared.fault.InputFault.{InputFault}
use Rattle.script_input.specs.declared.fault.InputFault.TheVariants as fault
use Rattle.script_input.specs.declared.live_lines.LiveLines.{LiveLines}
use Rattle.script_input.specs.declared.live_script.LiveScript.{LiveScript}
use Rattle.script_input.specs.declared.live_script.Named.{Named}
use Rattle.script_input.specs.declared.live_script.WorkerLine.{WorkerLine}
use Rattle.script_input.specs.Feeding.{FindsLine, ReadsLines, RefusesLine, StopsBy, StopsLines}
use Rattle.script_input.specs.Lives.{AreLiveLines, FindsBadLive, GivesNoLive, IsFirstBadLive, IsLive, IsLiveRead, IsNothing, IsOnlyLive, ReadsLive, StopsInLive, config_reads, live_reads}
use Rattle.script_input.specs.LivesTaken.{HasTakenLive, IsKeptLive, IsNamed, IsUnnamed, RefusesLive, reads_of}
use Rattle.script_input.specs.Scripts.{is_closed}

-- ---- one line more

lines_more : (n : ℕ) (texts : List (List ℕ)) (reads : List ScriptLine) (text : List ℕ) (read : ScriptLine) → AreLiveLines n texts reads → IsRawLine (n + length texts) text true → IsLiveLine (n + length texts) (fields text) read → AreLiveLines n (texts ++ text ∷ []) (reads ++ read ∷ [])
lines_more n [] [] text read lines raw is =
    ((subst (λ (k : ℕ). IsRawLine k text true) (omega arith) raw, subst (λ (k : ℕ). IsLiveLine k (fields text) read) (omega arith) is), tt)
lines_more n (t ∷ texts) (r ∷ reads) text read lines raw is = (
  lines.0,
  lines_more (n + 1) texts reads text read lines.1 (subst (λ (k : ℕ). IsRawLine k text true) (omega arith) raw) (subst (λ (k : ℕ). IsLiveLine k (fields text) read) (omega arith) is),
)
lines_more n [] (r ∷ reads) text read lines raw is = absurd lines
lines_more n (t ∷ texts) [] text read lines raw is = absurd lines

-- there is a line for each text
as_many : (n : ℕ) (texts : List (List ℕ)) (reads : List ScriptLine) → AreLiveLines n texts reads → length reads ≡ length texts
as_many n [] [] lines = refl
as_many n (t ∷ texts) (r ∷ reads) lines = (let rest = as_many (n + 1) texts reads lines.1 in omega (arith, rest))
as_many n [] (r ∷ reads) lines = absurd lines
as_many n (t ∷ texts) [] lines = absurd lines

none_long : {X : Type 0} (xs : List X) → length xs ≡ 0 → xs ≡ []
none_long [] none = refl
none_long (x ∷ xs) none = absurd (omega (arith, none))

-- ---- what the lines so far say, and one more

reads_channel : (named : Option Named) (config : Option (List ℕ)) (calls : List WorkerLine) (t : List ℕ) (v : Target) → length (reads_of named config calls) ≡ 0 → (named ≡ None → (config ≡ None) × (calls ≡ [])) → reads_of (Some (record { target = t; value = v })) config calls ≡ reads_of named config calls ++ line.Channel t v ∷ []
reads_channel None config calls t v none yet =
    let nothing : (config ≡ None) × (calls ≡ []) = yet refl in
    ap (λ (c : Option (List ℕ)). reads_of (Some (record { target = t; value = v })) c calls) nothing.0
    ∙ ap (λ (xs : List WorkerLine). reads_of (Some (record { target = t; value = v })) None xs) nothing.1
reads_channel (Some m) config calls t v none yet = absurd (omega (arith, none))

reads_config : (named : Option Named) (config : Option (List ℕ)) (calls : List WorkerLine) (text : List ℕ) → length (reads_of named config calls) ≡ 1 → reads_of named (Some text) calls ≡ reads_of named config calls ++ line.Config text ∷ []
reads_config None config calls text one = absurd (omega (arith, one))
reads_config (Some m) None [] text one = refl
reads_config (Some m) None (x ∷ calls) text one = absurd (omega (arith, one))
reads_config (Some m) (Some c) calls text one = absurd (omega (arith, one))

reads_call : (named : Option Named) (config : Option (List ℕ)) (calls : List WorkerLine) (x : WorkerLine) → length (reads_of named config calls) ≢ 0 → reads_of named config (calls ++ x ∷ []) ≡ reads_of named config calls ++ line.Call x.worker x.line ∷ []
reads_call None config calls x some = absurd (some refl)
reads_call (Some m) config calls x some =
    ap (λ (rs : List ScriptLine). line.Channel m.target m.value ∷ (config_reads config ++ rs)) (map-append (λ (c : WorkerLine). line.Call c.worker c.line) calls (x ∷ []))
    ∙ ap (λ (rs : List ScriptLine). line.Channel m.target m.value ∷ rs) (sym (append_assoc (config_reads config) (map (λ (c : WorkerLine). line.Call c.worker c.line) calls) (line.Call x.worker x.line ∷ [])))

some_named : (named : Option Named) (config : Option (List ℕ)) (calls : List WorkerLine) → length (reads_of named config calls) ≢ 0 → named ≡ None → ⊥
some_named None config calls some none = some refl
some_named (Some m) config calls some none = absurd (cc)

-- ---- the reader

no_event : (n : ℕ) (texts : List (List ℕ)) (read : ScriptLine) → (IsLiveRead read → ⊥) → IsLiveText n texts read → ⊥
no_event n [] read none is = is
no_event n (name ∷ others) (line.Config config) none is = none tt
no_event n (name ∷ others) (line.Call worker call) none is = none tt
no_event n (name ∷ others) (line.Channel target value) none is = is
no_event n (name ∷ others) (line.Event s) none is = is
no_event n (name ∷ others) (line.Answer answer) none is = is

config_second : (n : ℕ) (texts : List (List ℕ)) (config : List ℕ) → IsLiveText n texts (line.Config config) → n ≡ 2
config_second n [] config is = absurd is
config_second n (name ∷ others) config is = is.1

said_live : (r : ReaderSeen) (text : List ℕ) (read : ScriptLine) → r.kind ≡ script.Live → IsLine r text true read → IsLiveLine (r.lines + 1) (fields text) read
said_live r text read kind is = subst (λ (k : ScriptKind). IsKindLine k (r.lines + 1) r.answered (fields text) read) kind is.1

-- a line of a live script is its channel line, a config or a call
pub live_read : (r : ReaderSeen) (text : List ℕ) (read : ScriptLine) → r.kind ≡ script.Live → IsLine r text true read → IsLiveRead read
live_read r text (line.Channel target value) kind is = tt
live_read r text (line.Config config) kind is = tt
live_read r text (line.Call worker call) kind is = tt
live_read r text (line.Event s) kind is = absurd (no_event (r.lines + 1) (fields text) (line.Event s) (λ none. none) (said_live r text (line.Event s) kind is).1)
live_read r text (line.Answer answer) kind is = absurd (no_event (r.lines + 1) (fields text) (line.Answer answer) (λ none. none) (said_live r text (line.Answer answer) kind is).1)

-- what one line more leaves
more : (old new : LiveLines) (text : List ℕ) (read : ScriptLine) (texts : List (List ℕ)) → IsLine old.reader text true read → IsStateAfter old.reader read new.reader → reads_of new.named new.config new.calls.items ≡ reads_of old.named old.config old.calls.items ++ read ∷ [] → (new.named ≡ None → ⊥) → HasTakenLive old texts → HasTakenLive new (texts ++ text ∷ [])
more old new text read texts is afterwards reads some h =
    let number : old.reader.lines + 1 ≡ 1 + length texts = omega (arith, h.count) in
    let said : IsLiveLine (1 + length texts) (fields text) read = subst (λ (k : ℕ). IsLiveLine k (fields text) read) number (said_live old.reader text read h.kind is) in
    let raw : IsRawLine (1 + length texts) text true = subst (λ (k : ℕ). IsRawLine k text true) number is.0 in
    record {
      lines = subst (AreLiveLines 1 (texts ++ text ∷ [])) (sym reads) (lines_more 1 texts (reads_of old.named old.config old.calls.items) text read h.lines raw said);
      kind = afterwards.kind ∙ h.kind;
      count = omega (arith, afterwards.lines, h.count, length-append texts (text ∷ []));
      none_yet = λ none. absurd (some none);
    }

kept_reads : (old new : LiveLines) (text : List ℕ) (read : ScriptLine) (texts : List (List ℕ)) → IsLine old.reader text true read → IsKeptLive old.named old.config old.calls.items read new.named new.config new.calls.items → HasTakenLive old texts → (reads_of new.named new.config new.calls.items ≡ reads_of old.named old.config old.calls.items ++ read ∷ []) × (new.named ≡ None → ⊥)
kept_reads old new text (line.Channel target value) texts is kept h =
    let said : IsLiveLine (old.reader.lines + 1) (fields text) (line.Channel target value) = said_live old.reader text (line.Channel target value) h.kind is in
    let size : length (reads_of old.named old.config old.calls.items) ≡ length texts = as_many 1 texts _ h.lines in
    let none : length (reads_of old.named old.config old.calls.items) ≡ 0 = omega (arith, said.0, h.count, size) in
    let named : Named = record { target = target; value = value } in
    let there : new.named ≡ Some named = kept.0 in (
      ap (λ (m : Option Named). reads_of m new.config new.calls.items) kept.0
          ∙ ap (λ (c : Option (List ℕ)). reads_of (Some named) c new.calls.items) kept.1
          ∙ ap (λ (xs : List WorkerLine). reads_of (Some named) old.config xs) kept.2
          ∙ reads_channel old.named old.config old.calls.items target value none h.none_yet,
      λ gone. absurd (cc),
    )
kept_reads old new text (line.Config config) texts is kept h =
    let said : IsLiveLine (old.reader.lines + 1) (fields text) (line.Config config) = said_live old.reader text (line.Config config) h.kind is in
    let second : old.reader.lines + 1 ≡ 2 = config_second (old.reader.lines + 1) (fields text) config said.1 in
    let size : length (reads_of old.named old.config old.calls.items) ≡ length texts = as_many 1 texts _ h.lines in
    let one : length (reads_of old.named old.config old.calls.items) ≡ 1 = omega (arith, second, h.count, size) in (
      ap (λ (m : Option Named). reads_of m new.config new.calls.items) kept.0
          ∙ ap (λ (c : Option (List ℕ)). reads_of old.named c new.calls.items) kept.1
          ∙ ap (λ (xs : List WorkerLine). reads_of old.named (Some config) xs) kept.2
          ∙ reads_config old.named old.config old.calls.items config one,
      λ gone. some_named old.named old.config old.calls.items (λ none. absurd (omega (arith, one, none))) (sym kept.0 ∙ gone),
    )
kept_reads old new text (line.Call worker call) texts is kept h =
    let said : IsLiveLine (old.reader.lines + 1) (fields text) (line.Call worker call) = said_live old.reader text (line.Call worker call) h.kind is in
    let size : length (reads_of old.named old.config old.calls.items) ≡ length texts = as_many 1 texts _ h.lines in
    let some : length (reads_of old.named old.config old.calls.items) ≢ 0 = λ none. said.0 (omega (arith, h.count, size, none)) in
    let x : WorkerLine = record { worker = worker; line = call } in (
      ap (λ (m : Option Named). reads_of m new.config new.calls.items) kept.0
          ∙ ap (λ (c : Option (List ℕ)). reads_of old.named c new.calls.items) kept.1
          ∙ ap (λ (xs : List WorkerLine). reads_of old.named old.config xs) kept.2
          ∙ reads_call old.named old.config old.calls.items x some,
      λ gone. some_named old.named old.config old.calls.items some (sym kept.0 ∙ gone),
    )
kept_reads old new text (line.Event s) texts is kept h = absurd kept
kept_reads old new text (line.Answer answer) texts is kept h = absurd kept

pub taken_live : {E : Type 0} (old new : LiveLines) (text : List ℕ) (read : ScriptLine) (r : Result Unit E) → IsLine old.reader text true read → IsStateAfter old.reader read new.reader → OnOk r (IsKeptLive old.named old.config old.calls.items read new.named new.config new.calls.items) → OnOk r ((texts : List (List ℕ)) → HasTakenLive old texts → HasTakenLive new (texts ++ text ∷ []))
taken_live old new text read (Err e) is afterwards kept = tt
taken_live old new text read (Ok done) is afterwards kept = λ texts h. (let both = kept_reads old new text read texts is kept h in more old new text read texts is afterwards both.0 both.1 h)

-- ---- whole texts

lines_one : (k : ℕ) (texts : List (List ℕ)) (reads others : List ScriptLine) → AreLiveLines (k + 1) texts reads → AreLiveLines (k + 1) texts others → others ≡ reads
lines_one k [] [] [] lines again = refl
lines_one k (t ∷ texts) (a ∷ reads) (b ∷ others) lines again =
    let r : ReaderSeen = record { kind = script.Live; lines = k; answered = [] } in
    let one : b ≡ a = line_one r t true a (lines.0.0, lines.0.1) b (again.0.0, again.0.1) in
    ap (λ (x : ScriptLine). x ∷ others) one ∙ ap (λ (xs : List ScriptLine). a ∷ xs) (lines_one (k + 1) texts reads others lines.1 again.1)
lines_one k [] [] (b ∷ others) lines again = absurd again
lines_one k (t ∷ texts) (a ∷ reads) [] lines again = absurd again
lines_one k [] (a ∷ reads) others lines again = absurd lines
lines_one k (t ∷ texts) [] others lines again = absurd lines

live_one : (input : List ℕ) (s other : LiveScript) → IsLive input s → IsLive input other → live_reads other ≡ live_reads s
live_one input s other is also =
    let same : also.texts ≡ is.texts = append_cancel_right also.texts is.texts ([] ∷ []) (sym also.parts ∙ is.parts) in
    lines_one 0 is.texts (live_reads s) (live_reads other) is.lines (subst (λ (ts : List (List ℕ)). AreLiveLines 1 ts (live_reads other)) same also.lines)

pub named_reads : (s : LiveLines) (l : LiveScript) → IsNamed s l → live_reads l ≡ reads_of s.named s.config s.calls.items
named_reads s l is =
    ap (λ (c : Option (List ℕ)). line.Channel l.target l.value ∷ config_reads c ++ map (λ (x : WorkerLine). line.Call x.worker x.line) l.calls.items) is.config
    ∙ ap (λ (xs : List WorkerLine). line.Channel l.target l.value ∷ config_reads s.config ++ map (λ (x : WorkerLine). line.Call x.worker x.line) xs) (ap (λ v. v.items) is.calls)
    ∙ ap (λ (m : Option Named). reads_of m s.config s.calls.items) (sym is.named)

pub reads_live : (left left' : Option (List ℕ)) (s : LiveLines) (l : LiveScript) → ReadsLines HasTakenLive left left' s → IsNamed s l → ReadsLive left left' l
reads_live left left' s l r is =
    let live : IsLive r.input l = record { texts = r.texts; parts = r.parts; lines = subst (AreLiveLines 1 r.texts) (sym (named_reads s l is)) r.taken_are.lines } in
    record {
      input = r.input;
      read = r.read;
      at_end = r.at_end;
      live = live;
      only = λ other also. live_one r.input l other live also;
    }

-- ---- what is bad

first_bad : (input : List ℕ) (n cause : ℕ) → RefusesLine HasTakenLive RefusesLive input n cause → IsFirstBadLive input n cause
first_bad input n cause r = by_fault r.fault
  where
    made : (n ≡ length r.texts + 1) → IsRawFault n r.text (is_closed r.afterwards) cause ⊎ (IsRawLine n r.text (is_closed r.afterwards) × IsLiveFault n (fields r.text) cause) → IsFirstBadLive input n cause
    made number fault = record {
      before = r.texts;
      reads = reads_of r.lines.named r.lines.config r.lines.calls.items;
      text = r.text;
      afterwards = r.afterwards;
      parts = r.parts;
      lines = r.taken_are.lines;
      number = number;
      there = r.there;
      fault = fault;
    }

    by_line : (n ≡ length r.texts + 1) → IsRawLine (length r.texts + 1) r.text (is_closed r.afterwards) → IsLineFault r.lines.reader r.text true cause → IsFirstBadLive input n cause
    by_line number raw (inl fault) = absurd (read_raw (r.lines.reader.lines + 1) r.text true cause (omega (arith, r.taken_are.count, raw.0), raw.1, (raw.2.0, refl)) fault)
    by_line number raw (inr reported) =
        let said : IsLiveFault (r.lines.reader.lines + 1) (fields r.text) cause = subst (λ (k : ScriptKind). IsKindFault k (r.lines.reader.lines + 1) r.lines.reader.answered (fields r.text) cause) r.taken_are.kind reported.1 in
        made number (inr (
          subst (λ (k : ℕ). IsRawLine k r.text (is_closed r.afterwards)) (sym number) raw,
          subst (λ (k : ℕ). IsLiveFault k (fields r.text) cause) (omega (arith, number, r.taken_are.count)) said,
        ))

    by_fault : ((n ≡ length r.texts + 1) × IsRawFault n r.text (is_closed r.afterwards) cause) ⊎ (IsRawLine (length r.texts + 1) r.text (is_closed r.afterwards) × RefusesLive r.lines r.text (bad.At n cause)) → IsFirstBadLive input n cause
    by_fault (inl raw) = made raw.0 (inl raw.1)
    by_fault (inr refused) = by_line (omega (arith, refused.1.0, r.taken_are.count)) refused.0 refused.1.1

pub gives_no_live : (left left' : Option (List ℕ)) (n m : ℕ) (e : InputFault) → StopsBy HasTakenLive RefusesLive left left' n m e → GivesNoLive left left' n m e
gives_no_live left left' n m (fault.BadLine k cause) f = record { input = f.input; read = f.read; bad = by f.bad }
  where
    by : (IsAtEnd left' × RefusesLine HasTakenLive RefusesLive f.input k cause) ⊎ ((more : List ℕ) → RefusesLine HasTakenLive RefusesLive (f.input ++ more) k cause) → (IsAtEnd left' × (IsFirstBadLive f.input k cause ⊎ IsNothing f.input k cause)) ⊎ ((more : List ℕ) → IsFirstBadLive (f.input ++ more) k cause)
    by (inl ended) = inl (ended.0, inl (first_bad f.input k cause ended.1))
    by (inr whatever) = inr (λ more. first_bad (f.input ++ more) k cause (whatever more))
gives_no_live left left' n m fault.ReadFailed s = record {
  input = s.input;
  read = s.read;
  failed = s.failed;
  prefix = record {
    texts = s.texts;
    reads = reads_of s.lines.named s.lines.config s.lines.calls.items;
    rest = s.rest;
    parts = s.parts;
    lines = s.taken_are.lines;
    short = s.short;
  };
}
gives_no_live left left' n m fault.NoMemory s = tt
gives_no_live left left' n m fault.Empty s = absurd s

-- no line at all
pub nothing_read : (left left' : Option (List ℕ)) (s : LiveLines) (r : ReadsLines HasTakenLive left left' s) → s.named ≡ None → r.input ≡ []
nothing_read left left' s r unnamed = pieces-blank 10 r.input (r.parts ∙ ap (λ (ts : List (List ℕ)). ts ++ [] ∷ []) none)
  where
    lines : AreLiveLines 1 r.texts []
    lines = subst (λ (o : Option Named). AreLiveLines 1 r.texts (reads_of o s.config s.calls.items)) unnamed r.taken_are.lines

    none : r.texts ≡ []
    none = none_long r.texts (sym (as_many 1 r.texts [] lines))

pub no_script : (left left' : Option (List ℕ)) (n m : ℕ) (s : LiveLines) (e : InputFault) → ReadsLines HasTakenLive left left' s → IsUnnamed s e → GivesNoLive left left' n m e
no_script left left' n m s e r is = subst (GivesNoLive left left' n m) (sym is.1) (record {
  input = r.input;
  read = r.read;
  bad = inl (r.at_end, inr (nothing_read left left' s r is.0, refl, refl));
})

-- ---- the answer

pub live_ok : (left left' : Option (List ℕ)) (s : LiveLines) (r : Result LiveScript InputFault) → ReadsLines HasTakenLive left left' s → IfOk r (IsNamed s) → IfOk r (ReadsLive left left')
live_ok left left' s (Ok l) read named = reads_live left left' s l read named
live_ok left left' s (Err e) read named = tt

pub live_bad : (left left' : Option (List ℕ)) (n m : ℕ) (s : LiveLines) (r : Result LiveScript InputFault) → ReadsLines HasTakenLive left left' s → IfErr r (IsUnnamed s) → IfErr r (GivesNoLive left left' n m)
live_bad left left' n m s (Ok l) read unnamed = tt
live_bad left left' n m s (Err e) read unnamed = no_script left left' n m s e read unnamed

-- ---- the target

target_of : (texts : List (List ℕ)) (script : LiveScript) → AreLiveLines 1 texts (live_reads script) → IsTarget script.value
target_of [] script t = absurd t
target_of (text ∷ texts) script t = target_kept script.target script.value t.0.1.1.3

pub live_target : (left left' : Option (List ℕ)) (script : LiveScript) → ReadsLive left left' script → IsTarget script.value
live_target left left' script read = target_of read.live.texts script read.live.lines
