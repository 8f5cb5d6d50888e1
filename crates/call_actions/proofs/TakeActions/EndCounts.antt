-- Where a call ends and its attempts are cut off, the ends that counted before count still, and no other does.
use Rattle.std.proofs.Common.{◌≡◌, ◌==◌, ◌∷◌, ◌++◌, ◌&&◌, ◌||◌, not, append-nil, append_assoc, ap, refl, subst, sym, ◌∙◌, Bool, true, false, List, [], Option, None, Some, ℕ, suc, cond, filter, fold, if◌then◌else◌, is_none, is_some, length, map, max, nat_le}
use Rattle.std.proofs.lemmas.Bool.{and_right}
use Rattle.std.proofs.lemmas.List.Elements.{filter_map-append}
use Rattle.std.proofs.lemmas.List.Folds.{fold-map}
use Rattle.std.specs.List.{AllByRecursion, cons_option}
use Rattle.std.specs.Option.{option_map}
use Rattle.std.specs.Prelude.{filter_map}
use Rattle.attempt_ledger.specs.Ends.{delay_of, is_cut}
use Rattle.attempt_ledger.specs.TransparentRows.{is_by_peer, is_unsent}
use Rattle.attempt_ledger.specs.declared.ledger.CallEnd.{CallEnd}
use Rattle.attempt_ledger.specs.declared.row.RowCause.{RowCause}
use Rattle.attempt_ledger.specs.declared.row.RowEnd.{RowEnd}
use Rattle.session_actions.specs.Attempts.{commitment, counts_by, is_commitment, is_counted, is_followed, is_of, is_outstanding, is_to_follow, of_its_call, was_retried_so}
use Rattle.session_actions.specs.DueAttempts.{counted_row, last_counted, last_delayed, was_delayed}
use Rattle.session_actions.specs.Words.{changed, holds, last_of, numbered}
use Rattle.session_actions.specs.declared.attempt.Attempt.{Attempt}
use Rattle.session_actions.specs.declared.call.Call.{Call}
use Rattle.session_actions.specs.declared.call.Mark.{Mark}
use Rattle.session_actions.specs.declared.call.MarkKind.{MarkKind}
use Rattle.session_actions.specs.declared.call.MarkKind.TheVariants as mark
use Rattle.session_actions.specs.declared.entry.OpenEntry.{OpenEntry}
use Rattle.session_actions.specs.declared.seen.Seen.{Seen}
use Rattle.call_actions.proofs.TakeActions.CutAttempts.{becomes, end_by_cut, ended_mark, final, followed_still, is_cut_off, none_of, out_of, retried_still}
use Rattle.call_actions.proofs.TakeActions.CutLive.{last_map}
use Rattle.call_actions.proofs.TakeActions.CutOne.{numbered_there}
use Rattle.call_actions.proofs.TakeActions.Lists.{or_same}
use Rattle.call_actions.proofs.TakeActions.Maps.{all_from, holds_map, holds_or, holds_same, kept_map, numbered_each}
use Rattle.call_actions.proofs.TakeActions.Retold.{read_same}
use Rattle.call_actions.specs.TakeActions.Serves.{AttemptsStandInPlace}

pub gives_same : {X Y : Type 0} (g h : X → Option Y) → ((x : X) → g x ≡ h x) → (xs : List X) → filter_map g xs ≡ filter_map h xs
gives_same g h same [] = refl
gives_same g h same (x ∷ xs) = ap (λ (o : Option _). cons_option o (filter_map g xs)) (same x) ∙ ap (cons_option (h x)) (gives_same g h same xs)

pub gives_none : {X Y : Type 0} (g : X → Option Y) (xs : List X) → AllByRecursion (λ (x : X). g x ≡ None) xs → filter_map g xs ≡ []
gives_none g [] none = refl
gives_none g (x ∷ xs) none = ap (λ (o : Option _). cons_option o (filter_map g xs)) none.0 ∙ gives_none g xs none.1

pub none_map : {X Y : Type 0} (f : X → Y) (o : Option X) → is_none (option_map f o) ≡ is_none o
none_map f None = refl
none_map f (Some x) = refl

pub one_longer : (prefix : List Attempt) (a : Attempt) → length (prefix ++ (a ∷ [])) ≡ suc (length prefix)
one_longer [] a = refl
one_longer (x ∷ prefix) a = ap suc (one_longer prefix a)

-- each attempt stands at its place
pub all_placed : (prefix xs : List Attempt) → AttemptsStandInPlace (suc (length prefix)) xs → AllByRecursion (λ (a : Attempt). numbered (prefix ++ xs) a.place ≡ Some a) xs
all_placed prefix [] p = tt
all_placed prefix (a ∷ xs) p =
    let long : suc (length prefix) ≡ length (prefix ++ (a ∷ [])) = sym (one_longer prefix a) in
    let rest : AllByRecursion (λ (q : Attempt). numbered ((prefix ++ (a ∷ [])) ++ xs) q.place ≡ Some q) xs
    = all_placed (prefix ++ (a ∷ [])) xs (subst (λ (n : ℕ). AttemptsStandInPlace (suc n) xs) long p.1) in (
      numbered_there prefix a xs a.place p.0,
      subst (λ (l : List Attempt). AllByRecursion (λ (q : Attempt). numbered l q.place ≡ Some q) xs) (append_assoc prefix (a ∷ []) xs) rest,
    )

pub kept_by : (P : Attempt → Type 0) (test : Attempt → Bool) (a : Attempt) (l : List Attempt) (b : Bool) → test a ≡ b → P a → AllByRecursion (λ (q : Attempt). P q × (test q ≡ true)) l
    → AllByRecursion (λ (q : Attempt). P q × (test q ≡ true)) (cond b (a ∷ l) l)
kept_by P test a l true e p rest = ((p, e), rest)
kept_by P test a l false e p rest = rest

pub kept_all : (P : Attempt → Type 0) (test : Attempt → Bool) (xs : List Attempt) → AllByRecursion P xs → AllByRecursion (λ (a : Attempt). P a × (test a ≡ true)) (filter test xs)
kept_all P test [] all = tt
kept_all P test (a ∷ xs) all = kept_by P test a (filter test xs) (test a) refl all.0 (kept_all P test xs all.1)

-- the ends of what was cut off
module _ (entry moment : ℕ) (tokens : Option ℕ) (s : Seen) (c : Call) (end : Option CallEnd) (marks : List Mark) (current : Option OpenEntry) where
  abbrev pub all_gone : Attempt → Bool
  all_gone a = true

  abbrev pub own_stamp : Attempt → Option ℕ
  own_stamp a = a.row.committed

  abbrev pub ended_up : Attempt → Attempt
  ended_up a = final entry moment tokens s c.number own_stamp all_gone a

  abbrev pub then_ended : Seen
  then_ended = record s { attempts = map ended_up s.attempts; calls = changed (becomes end marks) c.number s.calls; current = current }

  pub commitment_same : (d : Call) → commitment d then_ended ≡ option_map ended_up (commitment d s)
  commitment_same d =
      last_map (is_commitment d) (is_commitment d) ended_up s.attempts (all_from (λ (a : Attempt). is_commitment d (ended_up a) ≡ is_commitment d a) (λ a. refl) s.attempts)

  pub free_same : (d : Call) → is_none (commitment d then_ended) ≡ is_none (commitment d s)
  free_same d = ap (λ (o : Option Attempt). is_none o) (commitment_same d) ∙ none_map ended_up (commitment d s)

  pub follow_same : (d : Call) (why : RowCause) (unseen : Bool) → is_to_follow d why unseen then_ended ≡ is_to_follow d why unseen s
  follow_same d why unseen =
      ap (λ (b : Bool). is_unsent why || (((unseen && is_by_peer why) && b) && not (was_retried_so d then_ended))) (free_same d)
      ∙ ap (λ (b : Bool). is_unsent why || (((unseen && is_by_peer why) && is_none (commitment d s)) && not b)) (retried_still entry moment tokens s c own_stamp all_gone d)

  pub follow_call : (a : Attempt) (why : RowCause) (unseen : Bool)
      → of_its_call (λ (d : Call). is_to_follow d why unseen then_ended) (ended_up a) then_ended ≡ of_its_call (λ (d : Call). is_to_follow d why unseen s) a s
  follow_call a why unseen =
      holds_or (λ (d : Call). is_to_follow d why unseen then_ended) (numbered then_ended.calls a.row.call)
      ∙ read_same (becomes end marks) c.number s.calls (λ (d : Call). is_to_follow d why unseen then_ended) false (λ d. refl) a.row.call
      ∙ or_same (λ (d : Call). is_to_follow d why unseen then_ended) (λ (d : Call). is_to_follow d why unseen s) false (λ d. follow_same d why unseen) (numbered s.calls a.row.call)
      ∙ sym (holds_or (λ (d : Call). is_to_follow d why unseen s) (numbered s.calls a.row.call))

  pub counts_same : (a : Attempt) (e : RowEnd) → counts_by (ended_up a) then_ended e ≡ counts_by a s e
  counts_same a e =
      ap (λ (b : Bool). (not (is_cut e.cause) && not b) && not (not b && of_its_call (λ (d : Call). is_to_follow d e.cause e.unseen then_ended) (ended_up a) then_ended))
      (followed_still entry moment tokens s c own_stamp all_gone a)
      ∙ ap (λ (b : Bool). (not (is_cut e.cause) && not (is_followed a s)) && not (not (is_followed a s) && b)) (follow_call a e.cause e.unseen)

  pub counted_by : (a : Attempt) (b : Bool) → is_cut_off c.number all_gone a ≡ b
      → holds (counts_by (ended_up a) then_ended) (if b then Some (end_by_cut entry moment tokens s a) else a.row.ended) ≡ is_counted a s
  counted_by a true e =
      sym (ap (holds (counts_by a s)) (none_of a.row.placed a.row.ended (out_of (a.row.call == c.number) (is_outstanding a) true e)))
  counted_by a false e = holds_same (counts_by (ended_up a) then_ended) (counts_by a s) (counts_same a) a.row.ended

  pub counted_same : (a : Attempt) → is_counted (ended_up a) then_ended ≡ is_counted a s
  counted_same a = counted_by a (is_cut_off c.number all_gone a) refl

  pub row_same : (w : MarkKind) → counted_row then_ended w ≡ counted_row s w
  row_same mark.Configured = refl
  row_same (mark.Made row) = refl
  row_same (mark.Placed row) = refl
  row_same (mark.Ended row) =
      ap (λ (b : Bool). if b then Some row else None)
      (ap (holds (λ (q : Attempt). is_counted q then_ended)) (numbered_each ended_up s.attempts row)
      ∙ sym (holds_map (λ (q : Attempt). is_counted q then_ended) ended_up (numbered s.attempts row))
      ∙ holds_same (λ (q : Attempt). is_counted (ended_up q) then_ended) (λ (q : Attempt). is_counted q s) counted_same (numbered s.attempts row))
  row_same mark.Withheld = refl
  row_same mark.Committed = refl
  row_same mark.Closed = refl

  -- those that are cut count nowhere
  pub cut_counts : (a : Attempt) → numbered s.attempts a.place ≡ Some a → is_cut_off c.number all_gone a ≡ true → counted_row then_ended (mark.Ended a.place) ≡ None
  cut_counts a at off =
      ap (λ (b : Bool). if b then Some a.place else None)
      (ap (holds (λ (q : Attempt). is_counted q then_ended)) (numbered_each ended_up s.attempts a.place ∙ ap (option_map ended_up) at)
      ∙ ap (λ (b : Bool). holds (counts_by (ended_up a) then_ended) (if b then Some (end_by_cut entry moment tokens s a) else a.row.ended)) off)

  abbrev pub cuts_now : List Attempt
  cuts_now = filter (is_cut_off c.number all_gone) s.attempts

  pub cuts_none : (cuts : List Attempt) → AllByRecursion (λ (a : Attempt). (numbered s.attempts a.place ≡ Some a) × (is_cut_off c.number all_gone a ≡ true)) cuts
      → AllByRecursion (λ (m : Mark). counted_row then_ended m.what ≡ None) (map (ended_mark moment) cuts)
  cuts_none [] all = tt
  cuts_none (a ∷ cuts) all = (cut_counts a all.0.0 all.0.1, cuts_none cuts all.1)

  pub last_same : (first : Mark) → counted_row then_ended first.what ≡ None → AttemptsStandInPlace 1 s.attempts
      → (d : Call) → d.marks ≡ c.marks ++ (first ∷ map (ended_mark moment) cuts_now) → last_counted d then_ended ≡ last_counted c s
  last_same first none places d e =
      let more : List Mark = first ∷ map (ended_mark moment) cuts_now in
      let reported : Mark → Option ℕ = λ (m : Mark). counted_row then_ended m.what in
      let later : filter_map reported more ≡ []
      = gives_none reported more (none, cuts_none cuts_now (kept_all (λ (a : Attempt). numbered s.attempts a.place ≡ Some a) (is_cut_off c.number all_gone) s.attempts (all_placed [] s.attempts places))) in
      ap last_of (ap (filter_map reported) e ∙ filter_map-append reported c.marks more ∙ ap (λ (l : List ℕ). filter_map reported c.marks ++ l) later ∙ append-nil (filter_map reported c.marks)
      ∙ gives_same reported (λ (m : Mark). counted_row s m.what) (λ m. row_same m.what) c.marks)

  -- whether the server asked for a delay
  pub delayed_by : (k : ℕ) (a : Attempt) (b : Bool) → is_cut_off c.number all_gone a ≡ b
      → (((is_of c a && nat_le a.row.number k) && is_counted (ended_up a) then_ended)
      && holds (λ (e : RowEnd). is_some (delay_of e.pushback)) (if b then Some (end_by_cut entry moment tokens s a) else a.row.ended)) ≡ was_delayed c k s a
  delayed_by k a true e =
      and_right ((is_of c a && nat_le a.row.number k) && is_counted (ended_up a) then_ended) false refl
      ∙ sym (ap (λ (o : Option RowEnd). ((is_of c a && nat_le a.row.number k) && is_counted a s) && holds (λ (z : RowEnd). is_some (delay_of z.pushback)) o)
      (none_of a.row.placed a.row.ended (out_of (a.row.call == c.number) (is_outstanding a) true e))
      ∙ and_right ((is_of c a && nat_le a.row.number k) && is_counted a s) false refl)
  delayed_by k a false e =
      ap (λ (b : Bool). ((is_of c a && nat_le a.row.number k) && b) && holds (λ (z : RowEnd). is_some (delay_of z.pushback)) a.row.ended) (counted_same a)

  pub delayed_one : (k : ℕ) (a : Attempt) → was_delayed (becomes end marks c) k then_ended (ended_up a) ≡ was_delayed c k s a
  delayed_one k a = delayed_by k a (is_cut_off c.number all_gone a) refl

  pub delayed_same : (k : ℕ) → last_delayed (becomes end marks c) k then_ended ≡ last_delayed c k s
  delayed_same k =
      let number : Attempt → ℕ = λ (a : Attempt). a.row.number in
      sym (fold-map max number 0 (filter (was_delayed (becomes end marks c) k then_ended) (map ended_up s.attempts)))
      ∙ ap (fold max 0) (kept_map (was_delayed (becomes end marks c) k then_ended) (was_delayed c k s) ended_up number s.attempts
      (all_from (λ (a : Attempt). was_delayed (becomes end marks c) k then_ended (ended_up a) ≡ was_delayed c k s a) (delayed_one k) s.attempts))
      ∙ fold-map max number 0 (filter (was_delayed c k s) s.attempts)
