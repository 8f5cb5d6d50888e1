-- What a run of reads gave is the pieces joined.
use Rattle.std.proofs.Common.{◌≡◌, ◌∙◌, ℕ, List, [], ◌++◌, Option, Some, None, Result, Ok, Err, ap, append_assoc, inl, inr, subst, sym}
use Rattle.std.specs.Prelude.{IfErr, IfOk}
use Rattle.std.specs.Result.{IsErrAnd}
use Rattle.gate_io.specs.Outside.{IsAtEnd, Takes}
use Rattle.script_input.specs.declared.collected.Collected.{Collected}
use Rattle.script_input.specs.declared.fault.InputFault.{InputFault}
use Rattle.script_input.specs.declared.fault.InputFault.TheVariants as fault
use Rattle.script_input.specs.declared.script.Script.{Script}
use Rattle.script_input.specs.Collecting.{HasRead, IsDecided, IsFinished, IsUnfinished, IsUnscript}
use Rattle.script_input.specs.Reading.{GivesNone, ReadsScript}
use Rattle.script_input.specs.declared.form.Form.{Form}
use Rattle.script_input.specs.Scripts.{IsFirstBad, IsScript}
use Rattle.script_input.proofs.ScriptLaws.{script_one}

-- what a `?` hands on
pub exit_of : {X : Type 0} (r : Result X InputFault) (P : InputFault → Type 0) (e : InputFault) → IsErrAnd r (λ y. y ≡ e) → P e → IfErr r P
exit_of (Ok x) P e h p = tt
exit_of (Err y) P e h p = subst P (sym h) p

-- one piece after another
pub Takes-append : (a b c : Option (List ℕ)) (xs ys : List ℕ) → Takes a b xs → Takes b c ys → Takes a c (xs ++ ys)
Takes-append (Some a) (Some b) (Some c) xs ys p q = p ∙ ap (λ (t : List ℕ). xs ++ t) q ∙ sym (append_assoc xs ys c)
Takes-append (Some a) (Some b) None xs ys p q = q
Takes-append (Some a) None c xs ys p q = absurd p
Takes-append None (Some b) c xs ys p q = absurd p
Takes-append None None (Some c) xs ys p q = q
Takes-append None None None xs ys p q = tt

-- a bad line in the newest piece
pub bad_piece : (f : Form) (a b c : Option (List ℕ)) (n m : ℕ) (s : Collected) (input piece : List ℕ) (e : InputFault) → s.form ≡ f → Takes a b input → Takes b c piece → HasRead input s → IsDecided s piece e → GivesNone f a c n m e
bad_piece f a b c n m s input piece (fault.BadLine k cause) form before next h decided =
    record {
      input = input ++ piece;
      read = Takes-append a b c input piece before next;
      bad = inr (λ more. subst (λ (g : Form). IsFirstBad g ((input ++ piece) ++ more) k cause) form (decided input h more));
    }
bad_piece f a b c n m s input piece fault.NoMemory form before next h decided = tt
bad_piece f a b c n m s input piece fault.Empty form before next h decided = absurd (decided input h [])
bad_piece f a b c n m s input piece fault.ReadFailed form before next h decided = absurd (decided input h [])

-- no script at the end
none_of : (f : Form) (a b : Option (List ℕ)) (n m : ℕ) (input : List ℕ) (e : InputFault) → Takes a b input → IsAtEnd b → IsUnscript f input e → GivesNone f a b n m e
none_of f a b n m input fault.Empty took ended is = (subst (Takes a b) is took, ended)
none_of f a b n m input (fault.BadLine k cause) took ended is = record { input = input; read = took; bad = inl (ended, is) }
none_of f a b n m input fault.NoMemory took ended is = tt
none_of f a b n m input fault.ReadFailed took ended is = absurd is

pub none_at_end : (f : Form) (a b c : Option (List ℕ)) (n m : ℕ) (s : Collected) (input : List ℕ) (r : Result Script InputFault) → s.form ≡ f → Takes a b input → HasRead input s → IsAtEnd b → c ≡ b → IfErr r (IsUnfinished s) → IfErr r (GivesNone f a c n m)
none_at_end f a b c n m s input (Ok script) form took h ended same unfinished = tt
none_at_end f a b c n m s input (Err e) form took h ended same unfinished =
    subst (λ (o : Option (List ℕ)). GivesNone f a o n m e) (sym same)
    (none_of f a b n m input e took ended (subst (λ (g : Form). IsUnscript g input e) form (unfinished input h)))

-- the one script at the end
pub script_at_end : (f : Form) (a b c : Option (List ℕ)) (s : Collected) (input : List ℕ) (r : Result Script InputFault) → s.form ≡ f → Takes a b input → HasRead input s → IsAtEnd b → c ≡ b → IfOk r (IsFinished s) → IfOk r (λ x. ReadsScript f a c x.target x.value x.events.items)
script_at_end f a b c s input (Err e) form took h ended same finished = tt
script_at_end f a b c s input (Ok x) form took h ended same finished =
    let script : IsScript f input x.target x.value x.events.items = subst (λ (g : Form). IsScript g input x.target x.value x.events.items) form (finished input h) in
    record {
      input = input;
      read = subst (λ (o : Option (List ℕ)). Takes a o input) (sym same) took;
      at_end = subst IsAtEnd (sym same) ended;
      script = script;
      only = script_one f input x.target x.value x.events.items script;
    }
