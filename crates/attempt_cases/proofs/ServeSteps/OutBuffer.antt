-- What the call of an attempt that is placed holds for its attempts: the attempt has a place before all messages, and the others have theirs.
use Rattle.std.proofs.Common.{◌≡◌, ◌==◌, ◌&&◌, ◌∷◌, ◌∙◌, ap, arith, eq-eqb, refl, subst, sym, Bool, true, false, List, [], Option, None, Some, ℕ, zero, suc, filter, if◌then◌else◌, is_none, is_some, option_map, slice_get}
use Rattle.std.proofs.lemmas.Bool.Decides.{nat_tests}
use Rattle.std.specs.List.{AllByRecursion}
use Rattle.std.specs.Option.{option_map_or}
use Rattle.std.specs.Prelude.{drop}
use Rattle.attempt_buffer.specs.Buffers as buffers
use Rattle.attempt_buffer.specs.Buffers.{Buffered, Committed, taken_by, taken_from, taken_uncommitted, text_of}
use Rattle.attempt_ledger.specs.declared.row.RowEnd.{RowEnd}
use Rattle.call_actions.proofs.PlacedFrames.{none_bad}
use Rattle.call_actions.proofs.Ranks.{filter_mapped}
use Rattle.call_actions.specs.TakeActions.Serves.{AttemptsAreFed, Holds, IsAt, IsFed, drained_so_far, passed}
use Rattle.call_core.specs.Parts.{begun_row, names}
use Rattle.channel_actions.proofs.SoundBuffers.Sound.{all_in, fed_some}
use Rattle.attempt_cases.proofs.ServeSteps.Lasts.{all_from, all_map, unsome}
use Rattle.attempt_cases.proofs.ServeSteps.Opened as opened
use Rattle.attempt_cases.proofs.ServeSteps.OutBase as base
use Rattle.attempt_cases.proofs.ServeSteps.OutBase.{OutNext}
use Rattle.channel_core.specs.States.{StateSeen}
use Rattle.grpc_frame.specs.Messages.{framed_all}
use Rattle.session_actions.specs.Attempts.{commitment, is_of, is_outstanding}
use Rattle.session_actions.specs.Links.{link_of}
use Rattle.session_actions.specs.Reading.{used}
use Rattle.session_actions.specs.Words.{numbered}
use Rattle.session_actions.specs.Writing.{drained}
use Rattle.session_actions.specs.declared.attempt.Attempt.{Attempt}
use Rattle.session_actions.specs.declared.call.Call.{Call}
use Rattle.session_actions.specs.declared.seen.Seen.{Seen}

drop_none : (l : List ℕ) → drop 0 l ≡ l
drop_none [] = refl
drop_none (x ∷ l) = refl

pub from_start : (held all : List ℕ) → held ≡ all → IsAt 0 held 0 all
from_start held all same = record { left = drop_none held ∙ same ∙ sym (drop_none all); within = omega arith; within_all = omega arith }

turned_about : (n m : ℕ) → (n == m) ≡ false → (m == n) ≡ false
turned_about n m e = grind (arith, nat_tests)

module _ (x : StateSeen) (s : Seen) (is : OutNext x s) where
  abbrev c : Call
  c = is.call

  abbrev row : ℕ
  row = is.row

  abbrev a : Attempt
  a = is.attempt

  abbrev g : Attempt → Attempt
  g = base.g x s is

  abbrev t : Seen
  t = base.t x s is

  abbrev c1 : Call
  c1 = base.c1 x s is

  abbrev b : Buffered
  b = is.slot.call.buffer

  was_held : Holds s c b
  was_held = is.sees.serves.holds (base.is_open x s is)

  abbrev Fed : Buffered → Seen → Attempt → Type 0
  Fed d u z = IsFed (taken_by z.place d) (text_of d) (is_outstanding z) (drained z u) (framed_all c.messages)

  was_fed : (i : ℕ) (z : Attempt) → slice_get s.attempts i ≡ Some z → is_of c z ≡ true → Fed b s z
  was_fed i z got mine = all_in (Fed b s) (is_of c) s.attempts i z got mine was_held.fed

  row_index : (n : ℕ) → numbered s.attempts n ≡ Some a → Fed b s a
  row_index zero got = absurd (let bad : None ≡ Some a = got in (cc))
  row_index (suc i) got = was_fed i a got is.own

  -- it had no place
  untaken_by : (o : Option ℕ) → taken_by a.place b ≡ o → Fed b s a → o ≡ None
  untaken_by None e fed = refl
  untaken_by (Some n) e fed =
      let out : is_outstanding a ≡ is_some (taken_by a.place b) = fed_some (taken_by a.place b) (text_of b) (is_outstanding a) (drained a s) (framed_all c.messages) fed in
      absurd (let bad : false ≡ true = sym (base.off_now x s is) ∙ out ∙ ap (λ (o : Option ℕ). is_some o) e in (cc))

  untaken : taken_by row b ≡ None
  untaken = ap (λ (n : ℕ). taken_by n b) (sym (base.its_place x s is)) ∙ untaken_by (taken_by a.place b) refl (row_index row is.here)

  drained_none : drained (g a) t ≡ 0
  drained_none = ap (λ (o : Option ℕ). option_map_or (λ (stream : ℕ). option_map_or (used stream) (link_of (g a) t) 0) o 0) is.streamless

  out_now : is_outstanding (g a) ≡ true
  out_now = ap (λ (z : Attempt). is_outstanding z) (base.g_here x s is) ∙ ap (λ (o : Option RowEnd). is_none o) (base.unended x s is)

  -- whatever the buffer is then: this attempt has taken none, and the others have what they had
  module _ (d : Buffered) (text : text_of d ≡ text_of b) (taken : taken_by row d ≡ Some 0) (others : (z : Attempt) → (row == z.place) ≡ false → Fed b s z → Fed d s z) where
    fed_here : Fed d t (g a)
    fed_here =
        subst (λ (n : ℕ). IsFed (taken_by n d) (text_of d) (is_outstanding (g a)) (drained (g a) t) (framed_all c.messages)) (sym (base.its_place x s is))
        (subst (λ (o : Option ℕ). IsFed o (text_of d) (is_outstanding (g a)) (drained (g a) t) (framed_all c.messages)) (sym taken)
        (subst (λ (q : Bool). IsFed (Some 0) (text_of d) q (drained (g a) t) (framed_all c.messages)) (sym out_now)
        (subst (λ (n : ℕ). IsAt 0 (text_of d) n (framed_all c.messages)) (sym drained_none) (from_start (text_of d) (framed_all c.messages) (text ∙ is.held.text)))))

    fed_by : (i : ℕ) (z : Attempt) (q : Bool) → (z.place == row) ≡ q → slice_get s.attempts i ≡ Some z → is_of c z ≡ true → Fed d t (g z)
    fed_by i z true e got mine = subst (λ (k : Attempt). Fed d t (g k)) (sym (base.at_row x s is i z got e)) fed_here
    fed_by i z false e got mine = subst (λ (k : Attempt). Fed d t k) (sym (base.g_off x s is z e)) (others z (turned_about z.place row e) (was_fed i z got mine))

    fed_now : AttemptsAreFed t c1 d (filter (is_of c1) t.attempts)
    fed_now =
        subst (λ (l : List Attempt). AllByRecursion (Fed d t) l) (sym (filter_mapped (is_of c) (is_of c) (λ (q : Attempt). false) g (λ q good. refl) s.attempts (none_bad s.attempts)))
        (all_map (Fed d t) g (filter (is_of c) s.attempts)
        (all_from (λ (z : Attempt). Fed d t (g z)) (is_of c) s.attempts (λ i z got mine. fed_by i z (z.place == row) refl got mine)))

  -- of a call that is not committed
  module _ (free : commitment c s ≡ None) where
    unnamed : names row is.slot.call.attempts.committed ≡ false
    unnamed = ap (names row) (sym is.sees.serves.sees.attempts.committed ∙ ap (option_map (λ (k : Attempt). k.place)) free)

    none : b.committed ≡ None
    none = unsome b.committed (was_held.committed ∙ ap (λ (o : Option Attempt). is_some o) free)

    free_is : begun_row row (names row is.slot.call.attempts.committed) b ≡ buffers.opened row b
    free_is = ap (λ (q : Bool). begun_row row q b) unnamed ∙ opened.begins row b is.held.whole untaken none

    so_far : drained_so_far c1 t ≡ 0
    so_far = ap (λ (o : Option Attempt). option_map_or (λ (k : Attempt). drained k t) o 0) (base.commitment_now x s is c ∙ ap (option_map g) free)

    free_begins : Holds t c1 (buffers.opened row b)
    free_begins = record {
      fed =
          fed_now (buffers.opened row b) refl (opened.here row b is.held.whole untaken none)
          (λ z other fed. subst (λ (o : Option ℕ). IsFed o (text_of b) (is_outstanding z) (drained z s) (framed_all c.messages))
          (sym (opened.away row b is.held.whole untaken none z.place other)) fed);
      held =
          subst (λ (n : ℕ). IsAt (passed b) (text_of b) n (framed_all c.messages)) (sym so_far)
          (subst (λ (o : Option Committed). IsAt (option_map_or (λ (k : Committed). k.taken) o 0) (text_of b) 0 (framed_all c.messages)) (sym none)
          (from_start (text_of b) (framed_all c.messages) is.held.text));
      committed = was_held.committed ∙ ap (λ (o : Option Attempt). is_some o) free ∙ sym (ap (λ (o : Option Attempt). is_some o) (base.commitment_now x s is c ∙ ap (option_map g) free));
    }

    free_holds : Holds t c1 (begun_row row (names row is.slot.call.attempts.committed) b)
    free_holds = subst (Holds t c1) (sym free_is) free_begins

  -- of one that is committed to this attempt
  module _ (k : Attempt) (e : commitment c s ≡ Some k) (m : Committed) (was : b.committed ≡ Some m) where
    this : commitment c s ≡ Some a
    this = e ∙ ap (λ (z : Attempt). Some z) (base.is_this x s is k e)

    taken_open : m.is_open ≡ true → m.row ≡ row → taken_by row b ≡ Some m.taken
    taken_open goes same =
        ap (taken_from row b.cursors) was ∙ ap (λ (q : Bool). if q && (m.row == row) then Some m.taken else taken_uncommitted row b.cursors) goes
        ∙ ap (λ (q : Bool). if q then Some m.taken else taken_uncommitted row b.cursors) (eq-eqb m.row row same)

    open_by : (q : Bool) → m.is_open ≡ q → q ≡ false
    open_by true goes =
        let rows : Some m.row ≡ Some row = sym (is.held.row m was goes) ∙ ap (option_map (λ (z : Attempt). z.place)) this ∙ ap (λ (n : ℕ). Some n) (base.its_place x s is) in
        let same : m.row ≡ row = (cc) in
        absurd (let bad : None ≡ Some m.taken = sym untaken ∙ taken_open goes same in (cc))
    open_by false goes = refl

    shut_now : m.is_open ≡ false
    shut_now = open_by m.is_open refl

    named : names row is.slot.call.attempts.committed ≡ true
    named = ap (names row) (sym is.sees.serves.sees.attempts.committed ∙ ap (option_map (λ (z : Attempt). z.place)) this) ∙ eq-eqb a.place row (base.its_place x s is)

    abbrev d : Buffered
    d = buffers.committed_at row 0 (buffers.opened row b)

    commits_is : begun_row row (names row is.slot.call.attempts.committed) b ≡ d
    commits_is = ap (λ (q : Bool). begun_row row q b) named ∙ opened.commits row b is.held.whole untaken m was shut_now (is.held.alone m was)

    text_is : text_of d ≡ text_of b
    text_is = opened.text_same row b is.held.whole untaken m was shut_now (is.held.alone m was)

    off_by : (z : Attempt) → Fed b s z → is_outstanding z ≡ false
    off_by z fed =
        fed_some (taken_by z.place b) (text_of b) (is_outstanding z) (drained z s) (framed_all c.messages) fed
        ∙ ap (λ (o : Option ℕ). is_some o) (opened.was_none row b is.held.whole untaken m was shut_now (is.held.alone m was) z.place)

    now_is : commitment c1 t ≡ Some (g a)
    now_is = base.commitment_now x s is c ∙ ap (option_map g) this

    committed_begins : Holds t c1 d
    committed_begins = record {
      fed =
          fed_now d text_is (opened.commits_here row b is.held.whole untaken m was shut_now (is.held.alone m was))
          (λ z other fed. subst (λ (o : Option ℕ). IsFed o (text_of d) (is_outstanding z) (drained z s) (framed_all c.messages))
          (sym (opened.commits_away row b is.held.whole untaken m was shut_now (is.held.alone m was) z.place other))
          (subst (λ (q : Bool). IsFed None (text_of d) q (drained z s) (framed_all c.messages)) (sym (off_by z fed)) tt));
      held =
          subst (λ (n : ℕ). IsAt (passed d) (text_of d) n (framed_all c.messages))
          (sym (ap (λ (o : Option Attempt). option_map_or (λ (q : Attempt). drained q t) o 0) now_is ∙ drained_none))
          (subst (λ (n : ℕ). IsAt n (text_of d) 0 (framed_all c.messages)) (sym (opened.passed_none row b is.held.whole untaken m was shut_now (is.held.alone m was)))
          (from_start (text_of d) (framed_all c.messages) (text_is ∙ is.held.text)));
      committed = sym (ap (λ (o : Option Attempt). is_some o) now_is);
    }

    committed_holds : Holds t c1 (begun_row row (names row is.slot.call.attempts.committed) b)
    committed_holds = subst (Holds t c1) (sym commits_is) committed_begins

  committed_by : (k : Attempt) (o : Option Committed) → commitment c s ≡ Some k → b.committed ≡ o → Holds t c1 (begun_row row (names row is.slot.call.attempts.committed) b)
  committed_by k None e was =
      absurd (let bad : false ≡ true = sym (ap (λ (q : Option Committed). is_some q) was) ∙ was_held.committed ∙ ap (λ (q : Option Attempt). is_some q) e in (cc))
  committed_by k (Some m) e was = committed_holds k e m was

  holds_by : (q : Option Attempt) → commitment c s ≡ q → Holds t c1 (begun_row row (names row is.slot.call.attempts.committed) b)
  holds_by None e = free_holds e
  holds_by (Some k) e = committed_by k b.committed e refl

  pub holds_now : Holds (base.t x s is) (base.c1 x s is) (base.slot2 x s is).call.buffer
  holds_now = holds_by (commitment c s) refl
