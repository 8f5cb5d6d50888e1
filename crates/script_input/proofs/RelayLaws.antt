-- What the lines of a relay's script say: those of a live script, of which none makes a call.
use Rattle.std.proofs.Common.{◌≡◌, ◌≢◌, ◌⊎◌, ◌∙◌, ℕ, ◌+◌, List, [], ◌∷◌, ◌++◌, Bool, true, Option, Some, None, arith, inl, inr, length, map, refl, subst, sym}
use Rattle.std.specs.Prelude.{Result, Ok, Err, IfErr, IfOk, OnOk}
use Rattle.gate_io.specs.Outside.{IsAtEnd}
use Rattle.grpc_base.specs.declared.script.CallLine.{CallLine}
use Rattle.script_fields.specs.Spelling.{fields}
use Rattle.script_lines.specs.declared.line.ScriptLine.{ScriptLine}
use Rattle.script_lines.specs.declared.line.ScriptLine.TheVariants as line
use Rattle.script_lines.specs.declared.reader.BadLine.TheVariants as bad
use Rattle.script_lines.specs.declared.reader.ScriptKind.{ScriptKind}
use Rattle.script_lines.specs.Causes.{unknown_kind}
use Rattle.script_lines.specs.Lines.{IsLiveFault, IsLiveText, IsRawFault, IsRawLine}
use Rattle.script_lines.specs.Reader.{IsKindFault, IsLineFault}
use Rattle.script_lines.proofs.ReaderLaws.{read_raw}
use Rattle.script_input.specs.declared.fault.InputFault.{InputFault}
use Rattle.script_input.specs.declared.fault.InputFault.TheVariants as fault
use Rattle.script_input.specs.declared.live_lines.LiveLines.{LiveLines}
use Rattle.script_input.specs.declared.live_script.LiveScript.{LiveScript}
use Rattle.script_input.specs.declared.live_script.WorkerLine.{WorkerLine}
use Rattle.script_input.specs.declared.relay.RelayLines.{RelayLines}
use Rattle.script_input.specs.Feeding.{ReadsLines, RefusesLine, StopsBy}
use Rattle.script_input.specs.Lives.{AreLiveLines, IsNothing, config_reads, live_reads}
use Rattle.script_input.specs.LivesTaken.{HasTakenLive, IsNamed, IsUnnamed, reads_of}
use Rattle.script_input.specs.Relays.{GivesNoRelay, IsCallAt, IsFirstBadRelay, IsNamedCall, IsRelayFault, NoneCalls, ReadsRelay}
use Rattle.script_input.specs.RelaysTaken.{HasTakenRelay, RefusesRelay}
use Rattle.script_input.specs.Scripts.{is_closed}
use Rattle.script_input.proofs.LiveLaws.{named_reads, nothing_read, reads_live}

-- ---- one line more

none_more : (n : ℕ) (texts : List (List ℕ)) (text : List ℕ) → NoneCalls n texts → (IsCallAt (n + length texts) (fields text) → ⊥) → NoneCalls n (texts ++ text ∷ [])
none_more n [] text none here = ((λ call. here (subst (λ (k : ℕ). IsCallAt k (fields text)) (omega arith) call)), tt)
none_more n (t ∷ texts) text none here = (none.0, none_more (n + 1) texts text none.1 (λ call. here (subst (λ (k : ℕ). IsCallAt k (fields text)) (omega arith) call)))

pub taken_relay : {E : Type 0} (old new : RelayLines) (text : List ℕ) (r : Result Unit E) → (IsCallAt (old.live.reader.lines + 1) (fields text) → ⊥) → OnOk r ((texts : List (List ℕ)) → HasTakenLive old.live texts → HasTakenLive new.live (texts ++ text ∷ []))
    → OnOk r ((texts : List (List ℕ)) → HasTakenRelay old texts → HasTakenRelay new (texts ++ text ∷ []))
taken_relay old new text (Err e) other more = tt
taken_relay old new text (Ok done) other more = λ texts h. record {
  taken = more texts h.taken;
  calls = none_more 1 texts text h.calls (λ call. other (subst (λ (k : ℕ). IsCallAt k (fields text)) (omega (arith, h.taken.count)) call));
}

-- ---- no calls

call_named : (n : ℕ) (texts : List (List ℕ)) (worker : ℕ) (call : CallLine) → IsLiveText n texts (line.Call worker call) → IsNamedCall texts
call_named n [] worker call is = absurd is
call_named n (name ∷ others) worker call is = is.0

in_calls : (n : ℕ) (texts : List (List ℕ)) (calls : List WorkerLine) → AreLiveLines n texts (map (λ c. line.Call c.worker c.line) calls) → NoneCalls n texts → calls ≡ []
in_calls n texts [] lines none = refl
in_calls n [] (c ∷ calls) lines none = absurd lines
in_calls n (t ∷ texts) (c ∷ calls) lines none = absurd (none.0 (lines.0.1.0, call_named n (fields t) c.worker c.line lines.0.1.1))

after_config : (config : Option (List ℕ)) (texts : List (List ℕ)) (calls : List WorkerLine) → AreLiveLines 2 texts (config_reads config ++ map (λ c. line.Call c.worker c.line) calls) → NoneCalls 2 texts → calls ≡ []
after_config None texts calls lines none = in_calls 2 texts calls lines none
after_config (Some c) [] calls lines none = absurd lines
after_config (Some c) (t ∷ texts) calls lines none = in_calls 3 texts calls lines.1 none.1

no_calls : (s : LiveScript) (texts : List (List ℕ)) → AreLiveLines 1 texts (live_reads s) → NoneCalls 1 texts → s.calls.items ≡ []
no_calls s [] lines none = absurd lines
no_calls s (t ∷ texts) lines none = after_config s.config texts s.calls.items lines.1 none.1

-- ---- whole texts

of_live : (left left' : Option (List ℕ)) (s : RelayLines) → ReadsLines HasTakenRelay left left' s → ReadsLines HasTakenLive left left' s.live
of_live left left' s r = record { input = r.input; texts = r.texts; read = r.read; at_end = r.at_end; parts = r.parts; taken_are = r.taken_are.taken }

reads_relay : (left left' : Option (List ℕ)) (s : RelayLines) (l : LiveScript) → ReadsLines HasTakenRelay left left' s → IsNamed s.live l → ReadsRelay left left' l
reads_relay left left' s l r is = record {
  live = reads_live left left' s.live l (of_live left left' s r) is;
  none = no_calls l r.texts (subst (AreLiveLines 1 r.texts) (sym (named_reads s.live l is)) r.taken_are.taken.lines) r.taken_are.calls;
}

-- ---- what is bad

first_bad : (input : List ℕ) (n cause : ℕ) → RefusesLine HasTakenRelay RefusesRelay input n cause → IsFirstBadRelay input n cause
first_bad input n cause r = by_fault r.fault
  where
    made : (n ≡ length r.texts + 1) → IsRawFault n r.text (is_closed r.afterwards) cause ⊎ (IsRawLine n r.text (is_closed r.afterwards) × IsRelayFault n (fields r.text) cause) → IsFirstBadRelay input n cause
    made number fault = record {
      before = r.texts;
      reads = reads_of r.lines.live.named r.lines.live.config r.lines.live.calls.items;
      text = r.text;
      afterwards = r.afterwards;
      parts = r.parts;
      lines = r.taken_are.taken.lines;
      calls = r.taken_are.calls;
      number = number;
      there = r.there;
      fault = fault;
    }

    by_line : (n ≡ length r.texts + 1) → IsRawLine (length r.texts + 1) r.text (is_closed r.afterwards) → (IsCallAt n (fields r.text) → ⊥) → IsLineFault r.lines.live.reader r.text true cause → IsFirstBadRelay input n cause
    by_line number raw other (inl fault) = absurd (read_raw (r.lines.live.reader.lines + 1) r.text true cause (omega (arith, r.taken_are.taken.count, raw.0), raw.1, (raw.2.0, refl)) fault)
    by_line number raw other (inr reported) =
        let said : IsLiveFault (r.lines.live.reader.lines + 1) (fields r.text) cause = subst (λ (k : ScriptKind). IsKindFault k (r.lines.live.reader.lines + 1) r.lines.live.reader.answered (fields r.text) cause) r.taken_are.taken.kind reported.1 in
        made number (inr (
          subst (λ (k : ℕ). IsRawLine k r.text (is_closed r.afterwards)) (sym number) raw,
          inr (other, subst (λ (k : ℕ). IsLiveFault k (fields r.text) cause) (omega (arith, number, r.taken_are.taken.count)) said),
        ))

    by_refusal : (n ≡ length r.texts + 1) → IsRawLine (length r.texts + 1) r.text (is_closed r.afterwards) → (IsCallAt n (fields r.text) × (cause ≡ unknown_kind)) ⊎ ((IsCallAt n (fields r.text) → ⊥) × IsLineFault r.lines.live.reader r.text true cause) → IsFirstBadRelay input n cause
    by_refusal number raw (inl call) = made number (inr (subst (λ (k : ℕ). IsRawLine k r.text (is_closed r.afterwards)) (sym number) raw, inl call))
    by_refusal number raw (inr reported) = by_line number raw reported.0 reported.1

    by_fault : ((n ≡ length r.texts + 1) × IsRawFault n r.text (is_closed r.afterwards) cause) ⊎ (IsRawLine (length r.texts + 1) r.text (is_closed r.afterwards) × RefusesRelay r.lines r.text (bad.At n cause)) → IsFirstBadRelay input n cause
    by_fault (inl raw) = made raw.0 (inl raw.1)
    by_fault (inr refused) = by_refusal (omega (arith, refused.1.0, r.taken_are.taken.count)) refused.0 refused.1.1

pub gives_no_relay : (left left' : Option (List ℕ)) (n m : ℕ) (e : InputFault) → StopsBy HasTakenRelay RefusesRelay left left' n m e → GivesNoRelay left left' n m e
gives_no_relay left left' n m (fault.BadLine k cause) f = record { input = f.input; read = f.read; bad = by f.bad }
  where
    by : (IsAtEnd left' × RefusesLine HasTakenRelay RefusesRelay f.input k cause) ⊎ ((more : List ℕ) → RefusesLine HasTakenRelay RefusesRelay (f.input ++ more) k cause) → (IsAtEnd left' × (IsFirstBadRelay f.input k cause ⊎ IsNothing f.input k cause)) ⊎ ((more : List ℕ) → IsFirstBadRelay (f.input ++ more) k cause)
    by (inl ended) = inl (ended.0, inl (first_bad f.input k cause ended.1))
    by (inr whatever) = inr (λ more. first_bad (f.input ++ more) k cause (whatever more))
gives_no_relay left left' n m fault.ReadFailed s = record {
  input = s.input;
  read = s.read;
  failed = s.failed;
  prefix = record {
    texts = s.texts;
    reads = reads_of s.lines.live.named s.lines.live.config s.lines.live.calls.items;
    rest = s.rest;
    parts = s.parts;
    lines = s.taken_are.taken.lines;
    calls = s.taken_are.calls;
    short = s.short;
  };
}
gives_no_relay left left' n m fault.NoMemory s = tt
gives_no_relay left left' n m fault.Empty s = absurd s

-- no line at all
no_script : (left left' : Option (List ℕ)) (n m : ℕ) (s : RelayLines) (e : InputFault) → ReadsLines HasTakenRelay left left' s → IsUnnamed s.live e → GivesNoRelay left left' n m e
unfolding of_live
no_script left left' n m s e r is = subst (GivesNoRelay left left' n m) (sym is.1) (record {
  input = r.input;
  read = r.read;
  bad = inl (r.at_end, inr (nothing_read left left' s.live (of_live left left' s r) is.0, refl, refl));
})

-- ---- the answer

pub relay_ok : (left left' : Option (List ℕ)) (s : RelayLines) (r : Result LiveScript InputFault) → ReadsLines HasTakenRelay left left' s → IfOk r (IsNamed s.live) → IfOk r (ReadsRelay left left')
relay_ok left left' s (Ok l) read named = reads_relay left left' s l read named
relay_ok left left' s (Err e) read named = tt

pub relay_bad : (left left' : Option (List ℕ)) (n m : ℕ) (s : RelayLines) (r : Result LiveScript InputFault) → ReadsLines HasTakenRelay left left' s → IfErr r (IsUnnamed s.live) → IfErr r (GivesNoRelay left left' n m)
relay_bad left left' n m s (Ok l) read unnamed = tt
relay_bad left left' n m s (Err e) read unnamed = no_script left left' n m s e read unnamed
