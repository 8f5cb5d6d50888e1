-- One attempt is cut off in a session.
use Rattle.std.proofs.Common.{◌≡◌, ◌+◌, ◌∷◌, ◌++◌, append_assoc, ap, refl, sym, ◌∙◌, Bool, false, List, [], Option, None, Some, ℕ, zero, suc, if◌then◌else◌, length, pred, slice_get, slice_set}
use Rattle.std.specs.Option.{option_and_then, option_map, option_map_or}
use Rattle.attempt_ledger.specs.declared.ledger.CallEnd.{CallEnd}
use Rattle.attempt_ledger.specs.declared.row.RowEnd.{RowEnd}
use Rattle.attempt_ledger.specs.declared.row.RowCause.TheVariants as cause
use Rattle.grpc_base.specs.declared.code.Code.TheVariants as code
use Rattle.grpc_base.specs.declared.plan.Pushback.TheVariants as pushback
use Rattle.session_actions.specs.AttemptEnds.{attempt_ended, attempt_ended_as, cut_end, end_of, is_drawing, tokens_at, with_end, with_end_in_run}
use Rattle.session_actions.specs.Attempts.{call_of, of_its_call, with_attempt}
use Rattle.session_actions.specs.Calls.{marked}
use Rattle.session_actions.specs.Entries.{drawn_if, entry, next_word, now}
use Rattle.session_actions.specs.Links.{link_of, read_bytes}
use Rattle.session_actions.specs.Tokens.{run_of, tokens_in}
use Rattle.session_actions.specs.Words.{changed, changed_if, holds, numbered}
use Rattle.session_actions.specs.declared.attempt.Attempt.{Attempt}
use Rattle.session_actions.specs.declared.call.Call.{Call}
use Rattle.session_actions.specs.declared.call.Mark.{Mark}
use Rattle.session_actions.specs.declared.call.MarkKind.TheVariants as mark
use Rattle.session_actions.specs.declared.config.ThrottleRun.{ThrottleRun}
use Rattle.session_actions.specs.declared.entry.OpenEntry.{OpenEntry}
use Rattle.session_actions.specs.declared.seen.Seen.{Seen}
use Rattle.call_actions.proofs.TakeActions.CutAttempts.{becomes, end_by_cut, ended_mark}

-- the end of an attempt that is cut off, by what is counted and drawn
abbrev pub end_with : ℕ → ℕ → ℕ → Option ℕ → Option ℕ → RowEnd
end_with i m seen tokens word = record {
  entry = i;
  moment = m;
  code = code.Cancelled;
  text = [];
  meta = [];
  pushback = pushback.None;
  unseen = false;
  seen = seen;
  cause = cause.Cut;
  tokens = tokens;
  word = word;
}

abbrev pub marked_also : Mark → Call → Call
marked_also m c = record c { marks = c.marks ++ m ∷ [] }

abbrev pub undrawn : OpenEntry → OpenEntry
undrawn o = record o { drawn = o.drawn + 0 }

module _ (s : Seen) (a : Attempt) (d : Call) (tokens : Option ℕ) (at : numbered s.attempts a.place ≡ Some a) (call : call_of a s ≡ Some d)
    (count : option_map (λ (run : ThrottleRun). tokens_in run s) (run_of d s) ≡ tokens) where
  pub cut_end_is : end_of a cut_end s ≡ end_by_cut (entry s) (now s) tokens s a
  cut_end_is =
      let seen : ℕ = option_map_or read_bytes (link_of a s) 0 in
      ap (λ (z : Option ℕ). end_with (entry s) (now s) seen z (if of_its_call (is_drawing a cut_end s) a s then Some (next_word s) else None))
      (ap (option_and_then (tokens_at a cut_end s)) call ∙ count)
      ∙ ap (λ (b : Bool). end_with (entry s) (now s) seen tokens (if b then Some (next_word s) else None)) (ap (holds (is_drawing a cut_end s)) call)

  -- what it leaves
  pub one_is_cut : attempt_ended a.place (end_of a cut_end s) s ≡ record s {
    attempts = changed (with_end (end_by_cut (entry s) (now s) tokens s a)) a.place s.attempts;
    calls = changed (marked_also (ended_mark (now s) a)) a.row.call s.calls;
    current = option_map undrawn s.current;
  }
  one_is_cut =
      let e : RowEnd = end_by_cut (entry s) (now s) tokens s a in
      ap (λ (z : RowEnd). attempt_ended a.place z s) cut_end_is
      ∙ ap (λ (o : Option Attempt). option_map_or (attempt_ended_as e s) o s) at
      ∙ ap (λ (o : Option Call). drawn_if false (marked (mark.Ended a.place) a.row.call (with_attempt (with_end e) a.place (option_map_or (with_end_in_run a e s) o s)))) call

-- changes one after another
pub set_twice : {X : Type 0} (xs : List X) (i : ℕ) (y z : X) → slice_set (slice_set xs i y) i z ≡ slice_set xs i z
set_twice [] i y z = refl
set_twice (x ∷ xs) zero y z = refl
set_twice (x ∷ xs) (suc i) y z = ap (λ (l : List _). x ∷ l) (set_twice xs i y z)

pub get_set : {X : Type 0} (xs : List X) (i : ℕ) (x y : X) → slice_get xs i ≡ Some x → slice_get (slice_set xs i y) i ≡ Some y
get_set [] i x y e = absurd (cc)
get_set (z ∷ xs) zero x y e = refl
get_set (z ∷ xs) (suc i) x y e = get_set xs i x y e

pub changed_twice : {X : Type 0} (f g q : X → X) (n : ℕ) (xs : List X) (x : X) → numbered xs n ≡ Some x → f (g x) ≡ q x → changed f n (changed g n xs) ≡ changed q n xs
changed_twice f g q zero xs x e both = absurd (cc)
changed_twice f g q (suc i) xs x e both =
    ap (λ (o : Option _). changed f (suc i) (changed_if g (suc i) xs o)) e
    ∙ ap (λ (o : Option _). changed_if f (suc i) (slice_set xs i (g x)) o) (get_set xs i x (g x) e)
    ∙ set_twice xs i (g x) (f (g x)) ∙ ap (slice_set xs i) both ∙ sym (ap (λ (o : Option _). changed_if q (suc i) xs o) e)

pub set_there : {X : Type 0} (prefix : List X) (x y : X) (xs : List X) → slice_set (prefix ++ (x ∷ xs)) (length prefix) y ≡ prefix ++ (y ∷ xs)
set_there [] x y xs = refl
set_there (z ∷ prefix) x y xs = ap (λ (l : List _). z ∷ l) (set_there prefix x y xs)

pub get_there : {X : Type 0} (prefix : List X) (x : X) (xs : List X) → slice_get (prefix ++ (x ∷ xs)) (length prefix) ≡ Some x
get_there [] x xs = refl
get_there (z ∷ prefix) x xs = get_there prefix x xs

pub numbered_there : {X : Type 0} (prefix : List X) (x : X) (xs : List X) (n : ℕ) → n ≡ suc (length prefix) → numbered (prefix ++ (x ∷ xs)) n ≡ Some x
numbered_there prefix x xs n e = ap (numbered (prefix ++ (x ∷ xs))) e ∙ get_there prefix x xs

pub changed_there : {X : Type 0} (f : X → X) (prefix : List X) (x : X) (xs : List X) (n : ℕ) → n ≡ suc (length prefix) → changed f n (prefix ++ (x ∷ xs)) ≡ prefix ++ (f x ∷ xs)
changed_there f prefix x xs n e =
    ap (λ (k : ℕ). changed f k (prefix ++ (x ∷ xs))) e
    ∙ ap (λ (o : Option _). changed_if f (suc (length prefix)) (prefix ++ (x ∷ xs)) o) (get_there prefix x xs) ∙ set_there prefix x (f x) xs

-- marks one after another
pub becomes_more : (end : Option CallEnd) (marks : List Mark) (m : Mark) (n : ℕ) (calls : List Call) (c : Call) → numbered calls n ≡ Some c
    → changed (marked_also m) n (changed (becomes end marks) n calls) ≡ changed (becomes end (marks ++ (m ∷ []))) n calls
becomes_more end marks m n calls c e =
    changed_twice (marked_also m) (becomes end marks) (becomes end (marks ++ (m ∷ []))) n calls c e
    (ap (λ (l : List Mark). record c { marks = l; end = end }) (append_assoc c.marks marks (m ∷ [])))

-- changes that come to the same
pub changed_like : {X : Type 0} (f g : X → X) (n : ℕ) (xs : List X) (x : X) → numbered xs n ≡ Some x → f x ≡ g x → changed f n xs ≡ changed g n xs
changed_like f g n xs x e same =
    ap (changed_if f n xs) e ∙ ap (slice_set xs (pred n)) same ∙ sym (ap (changed_if g n xs) e)
