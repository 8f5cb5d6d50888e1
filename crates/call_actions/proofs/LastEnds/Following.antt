-- A transparent retry of the attempt to which its call is committed is made: until it takes the commitment over, this is as it was.
use Rattle.std.proofs.Common.{◌≡◌, ◌+◌, ◌∷◌, ◌++◌, ◌||◌, ◌&&◌, ◌==◌, not, nat_lt, ap, arith, refl, subst, sym, ◌∙◌, Bool, true, false, List, [], Option, None, Some, ℕ, cond, filter, is_some, length, map, option_map}
use Rattle.std.proofs.lemmas.Bool.{and_right, eq-eqb, or_right}
use Rattle.std.proofs.lemmas.List.{length-map, map-append}
use Rattle.std.proofs.lemmas.List.Elements.{filter-append}
use Rattle.std.proofs.lemmas.List.Folds.{list_all-append, list_any-append}
use Rattle.std.proofs.lemmas.List.Sums.{fold-append}
use Rattle.std.specs.List.{list_any}
use Rattle.std.specs.Option.{option_map_or}
use Rattle.attempt_ledger.specs.Numbering.{is_transparent}
use Rattle.attempt_ledger.specs.declared.ledger.CallEnd.{CallEnd}
use Rattle.attempt_ledger.specs.declared.row.Row.{Row}
use Rattle.attempt_ledger.specs.declared.row.RowEnd.{RowEnd}
use Rattle.attempt_ledger.specs.declared.row.RowKind.TheVariants as kind
use Rattle.call_actions.proofs.Added.{Leaves, bucket_more, commitment_more, due_same, live_more, more_seen, own_same}
use Rattle.call_actions.proofs.Again as again
use Rattle.call_actions.proofs.Ends.Rows.{seen_with}
use Rattle.call_actions.proofs.Frames as frames
use Rattle.call_actions.proofs.Lists.{changed_here, numbered_last, numbered_not, stamped_here}
use Rattle.call_actions.proofs.Places.{numbered_snoc}
use Rattle.call_actions.proofs.Ranks.{all_so}
use Rattle.call_actions.proofs.Report.{fold_last}
use Rattle.call_actions.specs.Order.{IsInOrder, is_own_mark}
use Rattle.call_actions.specs.Sees.{AttemptsAgree, DuesAgree, Sees, is_live, live_rows}
use Rattle.call_core.specs.Steps as steps
use Rattle.call_core.specs.Steps.{Stepped, next_place, row_added, with_attempts}
use Rattle.call_core.specs.declared.live.LiveRow.{LiveRow}
use Rattle.ledger_stamps.specs.Steps as stamps
use Rattle.session_actions.specs.Attempts.{commitment, is_followed, is_of, is_over, is_over_in, is_to_follow, wants_follower, was_refused}
use Rattle.session_actions.specs.DueAttempts.{attempts_made, due_after_making, due_after_mark, due_state, no_due}
use Rattle.session_actions.specs.Entries.{entry, now}
use Rattle.session_actions.specs.Making.{new_row}
use Rattle.session_actions.specs.Sessions.{call_seen}
use Rattle.session_actions.specs.Tokens.{run_of}
use Rattle.session_actions.specs.Words.{changed, holds, numbered}
use Rattle.session_actions.specs.declared.attempt.Attempt.{Attempt}
use Rattle.session_actions.specs.declared.call.Call.{Call}
use Rattle.session_actions.specs.declared.call.Mark.{Mark}
use Rattle.session_actions.specs.declared.call.MarkKind.{MarkKind}
use Rattle.session_actions.specs.declared.call.MarkKind.TheVariants as mark
use Rattle.session_actions.specs.declared.due.DueState.{DueState}
use Rattle.session_actions.specs.declared.seen.Seen.{Seen}

-- a row is made of the number of one that ended, and takes nothing over yet
abbrev pub made_next : ℕ → Bool → ℕ → Stepped → Stepped
made_next number refusal due x =
    with_attempts (record x.call.attempts { is_refusal_followed = x.call.attempts.is_refusal_followed || refusal }) (row_added number kind.Transparent due None x)

plus_none : (n : ℕ) → n + 0 ≡ n
plus_none n = omega arith

-- the attempt that it follows
pub record IsTaken (s : Seen) (c : Call) (place : ℕ) (a : Attempt) (e : RowEnd) : Type 0 where
  pub got : numbered s.attempts place ≡ Some a
  pub own : is_of c a ≡ true
  pub ended : a.row.ended ≡ Some e
  pub unfollowed : is_followed a s ≡ false
  pub follows : is_to_follow c e.cause e.unseen s ≡ true
  pub goes_on : c.end ≡ None
  pub held : commitment c s ≡ Some a
  pub quiescent : list_any (λ (q : Attempt). is_of c q && not (q.place == place) && wants_follower q s) s.attempts ≡ false

module _ (s : Seen) (c : Call) (x : Stepped) (place : ℕ) (a : Attempt) (e : RowEnd) (due : ℕ) (refusal : Bool) (h : Sees s c x) (o : IsInOrder s c)
    (f : IsTaken s c place a e) (same_refusal : was_refused a ≡ refusal) where
  abbrev pub new : Attempt
  new = record { place = length s.attempts + 1; row = new_row c.number a.row.number kind.Transparent due; made = entry s; reset = false }

  abbrev odd : Attempt → Bool
  odd q = again.odd s c place a new e o.places f.got f.own h.own f.ended f.unfollowed f.follows refl refl refl refl refl f.quiescent q

  left : Leaves s c new odd
  left = again.left s c place a new e o.places f.got f.own h.own f.ended f.unfollowed f.follows refl refl refl refl refl f.quiescent

  pub own_new : is_of c new ≡ true
  own_new = eq-eqb c.number c.number refl

  counted_new : (is_of c new && not (is_transparent new.row.kind)) ≡ false
  counted_new = and_right (is_of c new) false refl

  not_over : is_over new s ≡ false
  not_over =
      ap (holds (λ (k : Call). is_over_in k new s)) h.own
      ∙ ap (λ (z : Option CallEnd). is_some z || holds (λ (k : Attempt). not (k.row.number == new.row.number)) (commitment c s)) f.goes_on
      ∙ ap (holds (λ (k : Attempt). not (k.row.number == new.row.number))) f.held ∙ ap (λ (b : Bool). not b) (eq-eqb a.row.number a.row.number refl)

  lives : is_live s c new ≡ true
  lives = ap (λ (b : Bool). b && not (is_over new s)) own_new ∙ ap (λ (b : Bool). not b) not_over

  abbrev w : Mark
  w = record { what = mark.Made (length s.attempts + 1); moment = now s }

  abbrev pub d : Call
  d = record c { marks = c.marks ++ w ∷ [] }

  abbrev more : Seen
  more = more_seen s new

  abbrev pub t : Seen
  t = record more { calls = changed (λ (k : Call). record k { marks = k.marks ++ w ∷ [] }) c.number s.calls }

  abbrev pub after : Stepped
  after = made_next a.row.number refusal due x

  made_now : attempts_made d t ≡ attempts_made c s
  made_now =
      fold-append (λ (n : ℕ) (q : Attempt). n + cond (is_of c q && not (is_transparent q.row.kind)) 1 0) 0 s.attempts (new ∷ [])
      ∙ ap (λ (b : Bool). attempts_made c s + cond b 1 0) counted_new ∙ plus_none (attempts_made c s)

  pub last_place : next_place x.ledger ≡ length s.attempts + 1
  last_place = ap (λ (l : List Row). length l + 1) (sym h.rows) ∙ ap (λ (n : ℕ). n + 1) (length-map s.attempts (λ (q : Attempt). q.row))

  due_now : due_state d t ≡ due_state c s
  due_now =
      fold_last (λ (z : DueState) (m : Mark). due_after_mark d t m.what m.moment z) no_due c.marks w
      ∙ ap (λ (z : DueState). due_after_mark d t w.what w.moment z)
      (frames.due_same more c.number (λ k. k.messages) (λ k. k.finished) (λ k. k.taken) (λ k. k.end_taken) (λ k. k.marks ++ w ∷ []) (λ k. k.end) s.current c no_due c.marks
      ∙ due_same s c new odd left o.marks)
      ∙ ap (λ (q : Option Attempt). option_map_or (due_after_making (due_state c s)) q (due_state c s)) (numbered_last s.attempts new)

  taken : x.call.attempts.committed ≡ None → ⊥
  taken free = (let both : Some a.place ≡ None = sym (ap (option_map (λ (q : Attempt). q.place)) f.held) ∙ h.attempts.committed ∙ free in cc)

  attempts_now : AttemptsAgree t d after.call.attempts
  attempts_now =
      let k : AttemptsAgree s c x.call.attempts = h.attempts in
      record {
        sent = made_now ∙ k.sent;
        due = subst (λ (z : DueState). DuesAgree z after.call.attempts) (sym due_now)
            (record { newest = k.due.newest; placed = k.due.placed; stopped = k.due.stopped; forced = k.due.forced });
        unplaced = k.unplaced;
        delayed = λ keeps free. absurd (taken free);
        last = λ free. absurd (taken free);
        refused =
            again.retried_now s c place a new e o.places f.got f.own h.own f.ended f.unfollowed f.follows refl refl refl refl refl f.quiescent
            ∙ ap (λ (b : Bool). b || was_refused a) k.refused ∙ ap (λ (b : Bool). x.call.attempts.is_refusal_followed || b) same_refusal;
        committed = ap (option_map (λ (q : Attempt). q.place)) (commitment_more s c new odd left c) ∙ h.attempts.committed;
      }

  abbrev live_at : ℕ → LiveRow
  live_at n = record { place = n; number = a.row.number; link = None }

  live_now : live_rows t d ≡ x.call.live ++ live_at (next_place x.ledger) ∷ []
  live_now =
      frames.live_same more c.number (λ k. k.messages) (λ k. k.finished) (λ k. k.taken) (λ k. k.end_taken) (λ k. k.marks ++ w ∷ []) s.current c
      ∙ live_more s c new odd left lives ∙ ap (λ (l : List LiveRow). l ++ live_at (length s.attempts + 1) ∷ []) h.live
      ∙ ap (λ (n : ℕ). x.call.live ++ live_at n ∷ []) (sym last_place)

  row_now : new.row ≡ steps.new_row x.call.number a.row.number kind.Transparent due None
  row_now = ap (λ (n : ℕ). new_row n a.row.number kind.Transparent due) h.number_is

  noted_now : (call_seen s c).made ++ x.ledger.entry ∷ [] ≡ map (λ (a : Attempt). a.made) (filter (is_of d) (s.attempts ++ new ∷ []))
  noted_now =
      sym (ap (map (λ (a : Attempt). a.made))
      (filter-append (is_of c) s.attempts (new ∷ []) ∙ ap (λ (b : Bool). filter (is_of c) s.attempts ++ cond b (new ∷ []) []) own_new)
      ∙ map-append (λ (a : Attempt). a.made) (filter (is_of c) s.attempts) (new ∷ [])
      ∙ ap (λ (e : ℕ). map (λ (a : Attempt). a.made) (filter (is_of c) s.attempts) ++ e ∷ []) h.entry_is)

  call_now : numbered after.ledger.calls c.number ≡ Some (call_seen t d)
  call_now =
      ap (λ (n : ℕ). numbered (stamps.changed_at (stamps.noted_call x.ledger.entry) x.ledger.calls n) c.number) (sym h.number_is)
      ∙ stamped_here (stamps.noted_call x.ledger.entry) c.number x.ledger.calls (call_seen s c) h.call_is
      ∙ ap (λ (l : List ℕ). Some (seen_with (call_seen s c) l)) noted_now

  pub sees_now : Sees t d after
  sees_now = record {
    own = changed_here (λ (k : Call). record k { marks = k.marks ++ w ∷ [] }) c.number s.calls c h.own;
    number_is = h.number_is;
    request = h.request;
    begun = h.begun;
    chosen = h.chosen;
    finished = h.finished;
    longest_is = h.longest_is;
    ended = h.ended;
    attempts = attempts_now;
    live = live_now;
    tokens = frames.bucket_reported more c.number (λ k. k.messages) (λ k. k.finished) (λ k. k.taken) (λ k. k.end_taken) (λ k. k.marks ++ w ∷ []) (λ k. k.end) s.current (run_of c s)
        ∙ bucket_more s c new odd left (run_of c s) ∙ h.tokens;
    entry_is = h.entry_is;
    rows = map-append (λ (q : Attempt). q.row) s.attempts (new ∷ []) ∙ ap (λ (l : List Row). l ++ new.row ∷ []) h.rows ∙ ap (λ (r : Row). x.ledger.rows ++ r ∷ []) row_now;
    call_is = call_now;
  }

  abbrev above : Attempt → Bool
  above q = is_of c q && nat_lt (attempts_made c s) q.row.number

  past_now : list_any above (s.attempts ++ new ∷ []) ≡ false
  past_now =
      let low : above a ≡ false = numbered_not above s.attempts place a o.numbers f.got in
      let number : nat_lt (attempts_made c s) a.row.number ≡ false = sym (ap (λ (b : Bool). b && nat_lt (attempts_made c s) a.row.number) f.own) ∙ low in
      list_any-append above s.attempts (new ∷ []) ∙ ap (λ (b : Bool). b || (above new || false)) o.numbers
      ∙ ap (λ (b : Bool). b || false) (and_right (is_of c new) (nat_lt (attempts_made c s) a.row.number) number)

  own_now : (k : MarkKind) → is_own_mark s c k ≡ true → is_own_mark t d k ≡ true
  own_now k mine = own_same s c new odd left k mine

  pub order_now : IsInOrder t d
  order_now =
      let at : length s.attempts + 1 ≡ 1 + length s.attempts = omega arith in
      record {
        places = numbered_snoc 1 s.attempts new o.places at;
        marks =
            list_all-append (λ (m : Mark). is_own_mark t d m.what) c.marks (w ∷ [])
            ∙ ap (λ (b : Bool). b && (is_own_mark t d w.what && true))
            (all_so (λ (m : Mark). is_own_mark s c m.what) (λ (m : Mark). is_own_mark t d m.what) (λ m mine. own_now m.what mine) c.marks o.marks)
            ∙ ap (λ (b : Bool). b && true) (ap (holds (is_of c)) (numbered_last s.attempts new) ∙ own_new);
        numbers = ap (λ (n : ℕ). list_any (λ (q : Attempt). is_of c q && nat_lt n q.row.number) (s.attempts ++ new ∷ [])) made_now ∙ past_now;
        first = λ z. ap (λ (k : DueState). k.newest) due_now ∙ o.first (sym made_now ∙ z);
        stops = λ z. ap (λ (k : DueState). k.stopped) due_now
            ∙ o.stops (ap (λ (k : Option Attempt). is_some c.end || is_some k) f.held ∙ or_right (is_some c.end) true refl);
      }
