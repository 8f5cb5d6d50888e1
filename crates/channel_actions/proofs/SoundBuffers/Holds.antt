-- The buffer of a call, after what links took of it, has the messages of the call as the session has them; it may wait for a transparent retry to be placed.
use Rattle.std.proofs.Common.{◌≡◌, ◌+◌, ◌≤◌, ◌∷◌, ◌&&◌, ◌==◌, ap, arith, eq-eqb, refl, subst, sym, ◌∙◌, Bool, true, false, List, [], Option, None, Some, ℕ, zero, suc, cond, drop, filter, if◌then◌else◌, is_some, length, map, slice_get}
use Rattle.std.proofs.lemmas.Bool.{and_parts}
use Rattle.std.specs.List.{AllByRecursion}
use Rattle.std.specs.Option.{option_map, option_map_or, option_or}
use Rattle.attempt_buffer.specs.Buffers.{Buffered, Committed, left_of, taken_by, taken_from, text_of}
use Rattle.channel_actions.proofs.Drains.Calls.Feeds.{IsFedFrom, IsKeptGoing, IsWithin}
use Rattle.channel_actions.specs.DrainCalls.Laws.{IsLeftAt}
use Rattle.channel_actions.specs.SoundBuffers.Held.{IsSoundIn}
use Rattle.grpc_frame.specs.Messages.{framed_all}
use Rattle.session_actions.specs.Attempts.{commitment, is_commitment, is_of, is_outstanding}
use Rattle.session_actions.specs.Words.{find_last}
use Rattle.session_actions.specs.Writing.{drained}
use Rattle.session_actions.specs.declared.attempt.Attempt.{Attempt}
use Rattle.session_actions.specs.declared.call.Call.{Call}
use Rattle.session_actions.specs.declared.entry.OpenEntry.{OpenEntry}
use Rattle.session_actions.specs.declared.link.Link.{Link}
use Rattle.session_actions.specs.declared.seen.Seen.{Seen}
use Rattle.channel_actions.proofs.Streams.Opened.Rows.{commitment_is, h, some_same, t}
use Rattle.call_actions.specs.TakeActions.Serves.{AttemptsAreFed, Holds, IsAt, IsFed, drained_so_far, passed}

-- lists
map_cond : (f : Attempt → Attempt) (b : Bool) (x : Attempt) (xs : List Attempt) → cond b (f x ∷ map f xs) (map f xs) ≡ map f (cond b (x ∷ xs) xs)
map_cond f true x xs = refl
map_cond f false x xs = refl

filter_map_so : (p q : Attempt → Bool) (f : Attempt → Attempt) → ((a : Attempt) → p (f a) ≡ q a) → (xs : List Attempt) → filter p (map f xs) ≡ map f (filter q xs)
filter_map_so p q f same [] = refl
filter_map_so p q f same (x ∷ xs) =
    ap (λ (b : Bool). cond b (f x ∷ filter p (map f xs)) (filter p (map f xs))) (same x)
    ∙ ap (λ (l : List Attempt). cond (q x) (f x ∷ l) l) (filter_map_so p q f same xs) ∙ map_cond f (q x) x (filter q xs)

-- the last that passes a test is one of the list
pub record IsOne (xs : List Attempt) (x : Attempt) : Type 0 where
  pub index : ℕ
  pub here : slice_get xs index ≡ Some x

last_by : (y : Attempt) (xs : List Attempt) (x : Attempt) (b : Bool) (o : Option Attempt) → option_or o (if b then Some y else None) ≡ Some x
    → (o ≡ Some x → IsOne xs x) → IsOne (y ∷ xs) x
last_by y xs x true None e rest = record { index = zero; here = e }
last_by y xs x false None e rest = absurd (cc)
last_by y xs x b (Some z) e rest = let one : IsOne xs x = rest e in record { index = suc one.index; here = one.here }

last_in : (test : Attempt → Bool) (xs : List Attempt) (x : Attempt) → find_last test xs ≡ Some x → IsOne xs x
last_in test [] x e = absurd (cc)
last_in test (y ∷ xs) x e = last_by y xs x (test y) (find_last test xs) e (λ f. last_in test xs x f)

passes_by : (test : Attempt → Bool) (y : Attempt) (x : Attempt) (b : Bool) (o : Option Attempt) → test y ≡ b → option_or o (if b then Some y else None) ≡ Some x
    → (o ≡ Some x → test x ≡ true) → test x ≡ true
passes_by test y x true None is e rest = let one : y ≡ x = (cc) in ap test (sym one) ∙ is
passes_by test y x false None is e rest = absurd (cc)
passes_by test y x b (Some z) is e rest = rest e

last_passes : (test : Attempt → Bool) (xs : List Attempt) (x : Attempt) → find_last test xs ≡ Some x → test x ≡ true
last_passes test [] x e = absurd (cc)
last_passes test (y ∷ xs) x e = passes_by test y x (test y) (find_last test xs) refl e (λ f. last_passes test xs x f)

-- a row that goes on
at_by : (b : Buffered) (o : Option ℕ) (k n : ℕ) (all : List ℕ) → taken_by k b ≡ o → IsWithin b → left_of k b ≡ drop n all → n ≤ length all → is_some o ≡ true
    → IsFed o (text_of b) true n all
at_by b None k n all is within left low some = absurd (cc)
at_by b (Some taken) k n all is within left low some =
    record { left = sym (ap (λ (o : Option ℕ). option_map_or (λ (j : ℕ). drop j (text_of b)) o []) is) ∙ left; within = within k taken is; within_all = low }

fed_by : (b c : Buffered) (o p : Option ℕ) (k : ℕ) (out : Bool) (m n : ℕ) (all : List ℕ) → taken_by k c ≡ p → is_some p ≡ is_some o → IsWithin c
    → (out ≡ true → left_of k c ≡ drop n all) → (out ≡ true → n ≤ length all) → IsFed o (text_of b) out m all → IsFed p (text_of c) out n all
fed_by b c None None k false m n all is same within left low old = tt
fed_by b c None (Some x) k false m n all is same within left low old = absurd (cc)
fed_by b c None p k true m n all is same within left low old = absurd old
fed_by b c (Some taken) p k false m n all is same within left low old = absurd old
fed_by b c (Some taken) p k true m n all is same within left low old = at_by c p k n all is within (left refl) (low refl) same

module _ (s : Seen) (g : ℕ → Option ℕ) (ls : List Link) (current : Option OpenEntry) (c : Call) (b d : Buffered) (old : Holds s c b) (sound : IsSoundIn s c b) (from : IsFedFrom b d)
    (left : (i : ℕ) (a : Attempt) → slice_get s.attempts i ≡ Some a → is_of c a ≡ true → is_outstanding a ≡ true → IsLeftAt (t s g ls current) c d (h s g ls current a))
    (ended : (i : ℕ) (a : Attempt) → slice_get s.attempts i ≡ Some a → is_outstanding a ≡ false → drained (h s g ls current a) (t s g ls current) ≡ drained a s) where
  abbrev u : Seen
  u = t s g ls current

  abbrev f : Attempt → Attempt
  f a = h s g ls current a

  -- each attempt of the call
  one_by : (i : ℕ) (a : Attempt) → slice_get s.attempts i ≡ Some a → is_of c a ≡ true → IsFed (taken_by a.place b) (text_of b) (is_outstanding a) (drained a s) (framed_all c.messages)
      → IsFed (taken_by a.place d) (text_of d) (is_outstanding a) (drained (f a) u) (framed_all c.messages)
  one_by i a here own is =
      fed_by b d (taken_by a.place b) (taken_by a.place d) a.place (is_outstanding a) (drained a s) (drained (f a) u) (framed_all c.messages) refl (from.opens a.place) from.within
      (λ out. (left i a here own out).left) (λ out. (left i a here own out).within) is

  abbrev Fed : Buffered → Seen → Attempt → Type 0
  Fed e z a = IsFed (taken_by a.place e) (text_of e) (is_outstanding a) (drained a z) (framed_all c.messages)

  all_if : (i : ℕ) (a : Attempt) (xs : List Attempt) (own : Bool) → is_of c a ≡ own → slice_get s.attempts i ≡ Some a
      → AllByRecursion (Fed b s) (cond own (a ∷ filter (is_of c) xs) (filter (is_of c) xs))
      → (AllByRecursion (Fed b s) (filter (is_of c) xs) → AllByRecursion (λ (q : Attempt). Fed d u (f q)) (filter (is_of c) xs))
      → AllByRecursion (λ (q : Attempt). Fed d u (f q)) (cond own (a ∷ filter (is_of c) xs) (filter (is_of c) xs))
  all_if i a xs true e here all rest = (one_by i a here e all.0, rest all.1)
  all_if i a xs false e here all rest = rest all

  all_fed : (n : ℕ) (xs : List Attempt) → ((i : ℕ) → slice_get xs i ≡ slice_get s.attempts (n + i)) → AllByRecursion (Fed b s) (filter (is_of c) xs)
      → AllByRecursion (λ (q : Attempt). Fed d u (f q)) (filter (is_of c) xs)
  all_fed n [] same all = tt
  all_fed n (a ∷ xs) same all =
      let start : n + 0 ≡ n = omega arith in
      let here : slice_get s.attempts n ≡ Some a = ap (slice_get s.attempts) (sym start) ∙ sym (same zero) in
      let on : (i : ℕ) → slice_get xs i ≡ slice_get s.attempts (suc n + i) = λ i. same (suc i) ∙ ap (slice_get s.attempts) (let e : n + suc i ≡ suc n + i = omega arith in e) in
      all_if n a xs (is_of c a) refl here all (all_fed (suc n) xs on)

  all_mapped : (xs : List Attempt) → AllByRecursion (λ (q : Attempt). Fed d u (f q)) xs → AllByRecursion (Fed d u) (map f xs)
  all_mapped [] all = tt
  all_mapped (a ∷ xs) all = (all.0, all_mapped xs all.1)

  fed_now : AttemptsAreFed u c d (filter (is_of c) u.attempts)
  fed_now =
      subst (AllByRecursion (Fed d u)) (sym (filter_map_so (is_of c) (is_of c) f (λ a. refl) s.attempts))
      (all_mapped (filter (is_of c) s.attempts)
      (all_fed 0 s.attempts (λ i. ap (slice_get s.attempts) (let e : i ≡ 0 + i = omega arith in e)) old.fed))

  -- the attempt to which the call is committed
  through : (o : Option Attempt) → option_map_or (λ (k : Attempt). drained k u) (option_map f o) 0 ≡ option_map_or (λ (k : Attempt). drained (f k) u) o 0
  through None = refl
  through (Some k) = refl

  so_far : (o : Option Attempt) → commitment c s ≡ o → drained_so_far c u ≡ option_map_or (λ (k : Attempt). drained (f k) u) o 0
  so_far o e = ap (λ (z : Option Attempt). option_map_or (λ (k : Attempt). drained k u) z 0) (commitment_is s g ls current c ∙ ap (option_map f) e) ∙ through o

  abbrev At : Buffered → ℕ → ℕ → Type 0
  At e taken n = IsAt taken (text_of e) n (framed_all c.messages)

  -- none: nothing was given up
  none_at : b.committed ≡ None → commitment c s ≡ None → At d (passed d) (drained_so_far c u)
  none_at none free =
      let same = from.none none in
      let before : At b 0 0
      = subst (λ (n : ℕ). At b 0 n) (ap (λ (o : Option Attempt). option_map_or (λ (k : Attempt). drained k s) o 0) free)
      (subst (λ (n : ℕ). At b n (drained_so_far c s)) (ap (λ (o : Option Committed). option_map_or (λ (k : Committed). k.taken) o 0) none) old.held) in
      subst (λ (n : ℕ). At d (passed d) n) (sym (so_far None free))
      (subst (λ (n : ℕ). At d n 0) (sym (ap (λ (o : Option Committed). option_map_or (λ (k : Committed). k.taken) o 0) same.0))
      (subst (λ (held : List ℕ). IsAt 0 held 0 (framed_all c.messages)) (sym same.1) before))

  -- one that does not go on: its row is closed, and stays where it was
  shut_at : (m : Committed) (k : Attempt) → b.committed ≡ Some m → commitment c s ≡ Some k → m.is_open ≡ false → is_outstanding k ≡ false → At d (passed d) (drained_so_far c u)
  shut_at m k is free closed off =
      let same = from.shut m is closed in
      let one : IsOne s.attempts k = last_in (is_commitment c) s.attempts k free in
      let before : At b m.taken (drained k s)
      = subst (λ (n : ℕ). At b m.taken n) (ap (λ (o : Option Attempt). option_map_or (λ (q : Attempt). drained q s) o 0) free)
      (subst (λ (n : ℕ). At b n (drained_so_far c s)) (ap (λ (o : Option Committed). option_map_or (λ (q : Committed). q.taken) o 0) is) old.held) in
      subst (λ (n : ℕ). At d (passed d) n) (sym (so_far (Some k) free ∙ ended one.index k one.here off))
      (subst (λ (n : ℕ). At d n (drained k s)) (sym (ap (λ (o : Option Committed). option_map_or (λ (q : Committed). q.taken) o 0) same.0))
      (subst (λ (held : List ℕ). IsAt m.taken held (drained k s) (framed_all c.messages)) (sym same.1) before))

  -- one that goes on: it is at the place of its row
  open_at : (m : Committed) (k : Attempt) → b.committed ≡ Some m → commitment c s ≡ Some k → m.row ≡ k.place → m.is_open ≡ true → is_outstanding k ≡ true → is_of c k ≡ true
      → At d (passed d) (drained_so_far c u)
  open_at m k is free own goes out mine =
      let now : IsKeptGoing m d.committed = from.going m is goes in
      let one : IsOne s.attempts k = last_in (is_commitment c) s.attempts k free in
      let at : IsLeftAt u c d (f k) = left one.index k one.here mine out in
      let there : taken_by k.place d ≡ Some now.committed.taken
      = ap (taken_from k.place d.cursors) now.is
      ∙ ap (λ (b : Bool). if b && (now.committed.row == k.place) then Some now.committed.taken else taken_from k.place d.cursors None) now.goes
      ∙ ap (λ (b : Bool). if b then Some now.committed.taken else taken_from k.place d.cursors None) (eq-eqb now.committed.row k.place (now.row ∙ own)) in
      let here : At d now.committed.taken (drained (f k) u) = at_by d (Some now.committed.taken) k.place (drained (f k) u) (framed_all c.messages) there from.within at.left at.within refl in
      subst (λ (n : ℕ). At d (passed d) n) (sym (so_far (Some k) free))
      (subst (λ (n : ℕ). At d n (drained (f k) u)) (sym (ap (λ (o : Option Committed). option_map_or (λ (q : Committed). q.taken) o 0) now.is)) here)

  some_by : (m : Committed) (k : Attempt) → b.committed ≡ Some m → commitment c s ≡ Some k → (x : Bool) → m.is_open ≡ x → At d (passed d) (drained_so_far c u)
  some_by m k is free true e =
      let own : m.row ≡ k.place = sound.rows m k free is e in
      let both = and_parts (is_of c k) (is_some k.row.committed) (last_passes (is_commitment c) s.attempts k free) in
      open_at m k is free own e (sound.goes m k free is ∙ e) both.0
  some_by m k is free false e = shut_at m k is free e (sound.goes m k free is ∙ e)

  held_by : (o : Option Committed) (p : Option Attempt) → b.committed ≡ o → commitment c s ≡ p → At d (passed d) (drained_so_far c u)
  held_by None None is free = none_at is free
  held_by (Some m) (Some k) is free = some_by m k is free m.is_open refl
  held_by None (Some k) is free =
      absurd (let bad : false ≡ true = sym (ap (λ (z : Option Committed). is_some z) is) ∙ old.committed ∙ ap (λ (z : Option Attempt). is_some z) free in (cc))
  held_by (Some m) None is free =
      absurd (let bad : true ≡ false = sym (ap (λ (z : Option Committed). is_some z) is) ∙ old.committed ∙ ap (λ (z : Option Attempt). is_some z) free in (cc))

  -- and it is committed where the call is
  kept_if : (m : Committed) → b.committed ≡ Some m → (x : Bool) → m.is_open ≡ x → is_some d.committed ≡ is_some b.committed
  kept_if m is true e = ap (λ (z : Option Committed). is_some z) (from.going m is e).is ∙ sym (ap (λ (z : Option Committed). is_some z) is)
  kept_if m is false e = ap (λ (z : Option Committed). is_some z) ((from.shut m is e).0 ∙ sym is)

  kept_by : (o : Option Committed) → b.committed ≡ o → is_some d.committed ≡ is_some b.committed
  kept_by None is = ap (λ (z : Option Committed). is_some z) ((from.none is).0 ∙ sym is)
  kept_by (Some m) is = kept_if m is m.is_open refl

  pub holds_now : Holds u c d
  holds_now = record {
    fed = fed_now;
    held = held_by b.committed (commitment c s) refl refl;
    committed = kept_by b.committed refl ∙ old.committed ∙ sym (some_same s g ls current c);
  }
