-- Attempts are cut off while the session owes ends of others. One that is cut off and whose end was owed has left its link already: to its link nothing happens. One that
-- goes on is cut off as if nothing were owed.
use Rattle.std.proofs.Math.Nat.{le_refl}
use Rattle.std.proofs.Common.{Bool, List, None, Option, Some, [], ap, arith, false, if◌then◌else◌, is_none, is_some, map, refl, subst, suc, sym, true, zero, ℕ, ◌&&◌, ◌++◌, ◌==◌, ◌||◌, ◌∙◌, ◌∷◌, ◌≡◌}
use Rattle.std.proofs.lemmas.Bool.Decides.{nat_tests}
use Rattle.std.proofs.lemmas.Bool.{and_parts, or_parts}
use Rattle.std.specs.List.{list_all}
use Rattle.std.specs.Option.{option_map}
use Rattle.attempt_ledger.specs.declared.row.RowCause.{RowCause}
use Rattle.attempt_ledger.specs.declared.row.RowEnd.{RowEnd}
use Rattle.call_actions.proofs.CallsApart.Moves.{all_changed}
use Rattle.call_cases.proofs.CallPosts.Report.{map_changed}
use Rattle.call_cases.proofs.EndsFollow.Codes.{ended_code}
use Rattle.call_cases.proofs.LinkEnds.After.{IsKeptSlot, cut_at, cut_keeps, slots_cut}
use Rattle.call_cases.proofs.LinkEnds.Cutting.{counted_places}
use Rattle.call_cases.specs.EndsFollow.Cuts.{AttemptsAreCutOff, IsOut, cut_off, is_unreset}
use Rattle.channel_actions.specs.KeptSessions.Kept.{NumbersCountUp}
use Rattle.channel_core.proofs.Resting.{changed_length}
use Rattle.channel_core.specs.States.{StateSeen}
use Rattle.channel_core.specs.Steps.{reset_on}
use Rattle.channel_core.specs.Tables.{reset_link, with_link}
use Rattle.channel_core.specs.declared.state.links.LinkSlot.{LinkSlot}
use Rattle.end_cases.proofs.AttemptEnds.LeftLinks.{changed_down, is_among, places_left, rows_apart, rows_over, rows_still}
use Rattle.end_cases.proofs.CutEnds.Ahead.{IsReady, all_reset, apart_still, cut_ahead, key_of, one_more, ready_still}
use Rattle.end_cases.proofs.CutEnds.AsFar.{AreSameRows, IsAsFar, IsSameCall, IsSameRow, as_far}
use Rattle.end_cases.proofs.CutEnds.FreeSlots.{slot_same}
use Rattle.end_cases.specs.AttemptEnds.Ahead.{HasLinkAhead, IsAhead, LinksAhead}
use Rattle.end_cases.specs.AttemptEnds.Left.{all_left, rows_ended}
use Rattle.lb_policy.specs.Table.{is_one_of}
use Rattle.link_actions.proofs.Ended.{changed_one, is_ended, noted_call}
use Rattle.link_actions.proofs.Without as lists
use Rattle.link_actions.specs.Sees.{AttemptsStandInPlace}
use Rattle.session_actions.specs.AttemptEnds.{attempt_ended, cut_end, end_of, reset_code_of, with_end}
use Rattle.session_actions.specs.Attempts.{call_of, is_outstanding}
use Rattle.session_actions.specs.Configs.{chosen_of}
use Rattle.session_actions.specs.Entries.{now}
use Rattle.session_actions.specs.Links.{link_number}
use Rattle.session_actions.specs.Words.{changed, numbered}
use Rattle.session_actions.specs.Writing.{accepted_bytes}
use Rattle.session_actions.specs.declared.attempt.Attempt.{Attempt}
use Rattle.session_actions.specs.declared.call.Call.{Call}
use Rattle.session_actions.specs.declared.call.MarkKind.TheVariants as mark
use Rattle.session_actions.specs.declared.link.Link.{Link}
use Rattle.session_actions.specs.declared.seen.Seen.{Seen}
use Rattle.session_order.proofs.Changed.{lookup}

-- one whose end is left is there, and has an end
pub record IsOver (xs : List Attempt) (n : ℕ) : Type 0 where
  pub one : Attempt
  pub there : numbered xs n ≡ Some one
  pub over : is_some one.row.ended ≡ true

over_by : (x : ℕ × RowEnd) (n : ℕ) (xs : List Attempt) (b : Bool) → (n == x.0) ≡ b → IsOver xs n → IsOver (changed (with_end x.1) x.0 xs) n
over_by x n xs true e is = record { one = with_end x.1 is.one; there = changed_one (with_end x.1) x.0 n xs is.one true e is.there; over = refl }
over_by x n xs false e is = record { one = is.one; there = changed_one (with_end x.1) x.0 n xs is.one false e is.there; over = is.over }

over_stays : (later : List (ℕ × RowEnd)) (n : ℕ) (xs : List Attempt) → IsOver xs n → IsOver (rows_ended later xs) n
over_stays [] n xs is = is
over_stays (x ∷ later) n xs is = over_stays later n (changed (with_end x.1) x.0 xs) (over_by x n xs (n == x.0) refl is)

swapped : (i j : ℕ) → (i == j) ≡ (j == i)
swapped i j = grind (arith, nat_tests)

left_by : (x : ℕ × RowEnd) (later : List (ℕ × RowEnd)) (n : ℕ) (xs : List Attempt) (a : Attempt) (c : Bool) → (x.0 == n) ≡ c → (c || is_among later n) ≡ true → numbered xs n ≡ Some a
    → (numbered (changed (with_end x.1) x.0 xs) n ≡ Some a → is_among later n ≡ true → IsOver (rows_ended later (changed (with_end x.1) x.0 xs)) n) → IsOver (rows_ended (x ∷ later) xs) n
left_by x later n xs a true e on there rest =
    over_stays later n (changed (with_end x.1) x.0 xs)
    (record { one = with_end x.1 a; there = changed_one (with_end x.1) x.0 n xs a true (swapped n x.0 ∙ e) there; over = refl })
left_by x later n xs a false e on there rest = rest (changed_one (with_end x.1) x.0 n xs a false (swapped n x.0 ∙ e) there) on

over_left : (later : List (ℕ × RowEnd)) (n : ℕ) (xs : List Attempt) (a : Attempt) → numbered xs n ≡ Some a → is_among later n ≡ true → IsOver (rows_ended later xs) n
over_left [] n xs a there on = absurd (cc)
over_left (x ∷ later) n xs a there on =
    left_by x later n xs a (x.0 == n) refl on there (λ here among. over_left later n (changed (with_end x.1) x.0 xs) a here among)

-- of an end, a reset hangs on its entry, its cause, and the bytes that were read by then
pub code_alike : (v : Seen) (d e : RowEnd) → e.entry ≡ d.entry → e.cause ≡ d.cause → e.seen ≡ d.seen → (b : Attempt) → reset_code_of v (with_end e b) ≡ reset_code_of v (with_end d b)
code_alike v d e entry cause seen b =
    ap (λ (n : ℕ). reset_code_of v (with_end (record e { entry = n }) b)) entry
    ∙ ap (λ (why : RowCause). reset_code_of v (with_end (record e { entry = d.entry; cause = why }) b)) cause
    ∙ ap (λ (n : ℕ). reset_code_of v (with_end (record e { entry = d.entry; cause = d.cause; seen = n }) b)) seen

-- rows that are the same
module _ (s t : Seen) (code : (b : Attempt) → reset_code_of t b ≡ reset_code_of s b) where
  row_self : (a : Attempt) → IsSameRow s t a a
  row_self a = record { place = refl; call = refl; placed = refl; stream = refl; goes = refl; code = code a }

  pub rows_self : (xs : List Attempt) → AreSameRows s t xs xs
  rows_self [] = tt
  rows_self (x ∷ xs) = (row_self x, rows_self xs)

  module _ (d e : RowEnd) (alike : (a : Attempt) → reset_code_of t (with_end e a) ≡ reset_code_of s (with_end d a)) where
    row_ended : (a : Attempt) → IsSameRow s t (with_end d a) (with_end e a)
    row_ended a = record { place = refl; call = refl; placed = refl; stream = refl; goes = refl; code = alike a }

    pub rows_changed : (n : ℕ) (xs : List Attempt) → AreSameRows s t (changed (with_end d) n xs) (changed (with_end e) n xs)
    rows_changed zero xs = rows_self xs
    rows_changed (suc i) [] = tt
    rows_changed (suc zero) (x ∷ xs) = (row_ended x, rows_self xs)
    rows_changed (suc (suc i)) (x ∷ xs) =
        subst (λ (ys : List Attempt). AreSameRows s t ys (changed (with_end e) (suc (suc i)) (x ∷ xs))) (sym (changed_down (with_end d) i x xs))
        (subst (λ (ys : List Attempt). AreSameRows s t (x ∷ changed (with_end d) (suc i) xs) ys) (sym (changed_down (with_end e) i x xs)) (row_self x, rows_changed (suc i) xs))

-- what an end leaves
module _ (s : Seen) (a : Attempt) (e : RowEnd) (places : AttemptsStandInPlace 1 s.attempts) (there : numbered s.attempts a.place ≡ Some a) where
  abbrev ends : Seen
  ends = attempt_ended a.place e s

  pub links_of : ends.links ≡ s.links
  links_of = ap (λ (v : Seen). v.links) (is_ended s a.place e a places there)

  pub calls_of : ends.calls ≡ changed (noted_call (mark.Ended a.place) (now s)) a.row.call s.calls
  calls_of = ap (λ (v : Seen). v.calls) (is_ended s a.place e a places there)

  pub rows_of : ends.attempts ≡ changed (with_end e) a.place s.attempts
  rows_of = ap (λ (v : Seen). v.attempts) (is_ended s a.place e a places there)

  pub limit_of : (c : Call) → (chosen_of c ends).response ≡ (chosen_of c s).response
  limit_of c = ap (λ (v : Seen). (chosen_of c v).response) (is_ended s a.place e a places there)

-- what is asked of the session stands with the ends that are left
pub ready_left : (later : List (ℕ × RowEnd)) (s : Seen) → IsReady s → IsReady (all_left later s)
ready_left [] s is = is
ready_left (x ∷ later) s is =
    let f : Attempt → Attempt = with_end x.1 in
    let xs : List Attempt = changed f x.0 s.attempts in
    ready_left later (record s { attempts = xs })
    (record {
      places = places_left (x ∷ []) s.attempts is.places;
      unreset = all_changed is_unreset f (λ b e. refl) x.0 s.attempts is.unreset;
      apart = apart_still s.attempts xs (map_changed key_of f (λ b. refl) x.0 s.attempts) is.apart;
      numbers = is.numbers;
      reads = is.reads;
    })

abbrev pub AreOwned : Seen → Type 0
AreOwned s = list_all (λ (a : Attempt). is_some (call_of a s)) s.attempts ≡ true

pub owned_left : (later : List (ℕ × RowEnd)) (s : Seen) → AreOwned s → AreOwned (all_left later s)
owned_left [] s is = is
owned_left (x ∷ later) s is =
    owned_left later (record s { attempts = changed (with_end x.1) x.0 s.attempts })
    (all_changed (λ (a : Attempt). is_some (numbered s.calls a.row.call)) (with_end x.1) (λ b e. e) x.0 s.attempts is)

-- each attempt is still of a call
owned_cut : (s : Seen) (a : Attempt) → IsOut s a → AttemptsStandInPlace 1 s.attempts → AreOwned s → AreOwned (cut_off a s)
owned_cut s a out places owned =
    let e : RowEnd = end_of a cut_end s in
    let f : Call → Call = noted_call (mark.Ended a.place) (now s) in
    subst (λ (v : Seen). AreOwned v) (sym (is_ended s a.place e a places out.there))
    (all_same (λ (b : Attempt). is_some (numbered s.calls b.row.call)) (λ (b : Attempt). is_some (numbered (changed f a.row.call s.calls) b.row.call))
    (λ b. sym (lookup (λ (o : Option Call). is_some o) f (λ c. refl) a.row.call s.calls b.row.call)) (changed (with_end e) a.place s.attempts)
    (all_changed (λ (b : Attempt). is_some (numbered s.calls b.row.call)) (with_end e) (λ b h. h) a.place s.attempts owned))
  where
    all_same : (p q : Attempt → Bool) → ((b : Attempt) → p b ≡ q b) → (xs : List Attempt) → list_all p xs ≡ true → list_all q xs ≡ true
    all_same p q same [] h = refl
    all_same p q same (x ∷ xs) h =
        let k = and_parts (p x) (list_all p xs) h in
        ap (λ (c : Bool). c && list_all q xs) (sym (same x) ∙ k.0) ∙ all_same p q same xs k.1

-- one cut
module _ (later : List (ℕ × RowEnd)) (s : Seen) (a : Attempt) (out : IsOut s a) (is : IsReady s) (owned : AreOwned s) where
  abbrev u : Seen
  u = cut_off a s

  abbrev s1 : Seen
  s1 = all_left later s

  abbrev u1 : Seen
  u1 = all_left later u

  ready_s : IsReady s1
  ready_s = ready_left later s is

  places_u : AttemptsStandInPlace 1 u1.attempts
  places_u = places_left later u.attempts (ready_still s a out is).places

  code_u : (b : Attempt) → reset_code_of u1 b ≡ reset_code_of s1 b
  code_u b = ended_code s a.place a (end_of a cut_end s) is.places out.there b

  links_u : u1.links ≡ s1.links
  links_u = links_of s a (end_of a cut_end s) is.places out.there

  call_by : (n : ℕ) (c : Call) (b : Bool) → (n == a.row.call) ≡ b → numbered s.calls n ≡ Some c → IsSameCall s1 u1 n c
  call_by n c true e at = record {
    call = noted_call (mark.Ended a.place) (now s) c;
    there = ap (λ (cs : List Call). numbered cs n) (calls_of s a (end_of a cut_end s) is.places out.there)
        ∙ changed_one (noted_call (mark.Ended a.place) (now s)) a.row.call n s.calls c true e at;
    limit = limit_of s a (end_of a cut_end s) is.places out.there c;
    more = le_refl (accepted_bytes c);
  }
  call_by n c false e at = record {
    call = c;
    there = ap (λ (cs : List Call). numbered cs n) (calls_of s a (end_of a cut_end s) is.places out.there)
        ∙ changed_one (noted_call (mark.Ended a.place) (now s)) a.row.call n s.calls c false e at;
    limit = limit_of s a (end_of a cut_end s) is.places out.there c;
    more = le_refl (accepted_bytes c);
  }

  -- its end was owed
  module _ (on : is_among later a.place ≡ true) where
    rows_same : u1.attempts ≡ s1.attempts
    rows_same =
        ap (rows_ended later) (rows_of s a (end_of a cut_end s) is.places out.there) ∙ rows_over (end_of a cut_end s) later a.place s.attempts on

    far : IsAsFar s1 u1
    far = record {
      links = links_u;
      calls = λ n c at. call_by n c (n == a.row.call) refl at;
      rows = subst (AreSameRows s1 u1 s1.attempts) (sym rows_same) (rows_self s1 u1 code_u s1.attempts);
      owned = owned_left later s owned;
      numbers = ready_s.numbers;
      counted = counted_places 1 u1.attempts places_u;
      places = places_u;
    }

    over_ : IsOver s1.attempts a.place
    over_ = over_left later a.place s.attempts a out.there on

    not_out : is_outstanding over_.one ≡ false
    not_out = by (is_some over_.one.row.placed) over_.one.row.ended over_.over
      where
        by : (p : Bool) (q : Option RowEnd) → is_some q ≡ true → (p && is_none q) ≡ false
        by true None e = absurd (cc)
        by true (Some k) e = refl
        by false q e = refl

    free_if : (l : Link) (slot : LinkSlot) (b : Bool) → IsAhead l s1 slot → IsAhead l s1 (if b then with_link (reset_link a.place) slot else slot)
    free_if l slot true k =
        subst (IsAhead l s1) (sym (slot_same l s1 a.place over_.one over_.there not_out (λ i b at. lists.place_is (suc i) s1.attempts b ready_s.places at) slot k)) k
    free_if l slot false k = k

    freed : (also : List ℕ) (y : StateSeen) → LinksAhead also y s1 → LinksAhead also (reset_on (link_number a) a.place y) s1
    freed also y h = record {
      count = h.count ∙ sym (changed_length (with_link (reset_link a.place)) y.links (link_number a));
      each = λ n l at.
          (let k : HasLinkAhead y s1 l n = h.each n l at in
          let kept : IsKeptSlot k.slot (slots_cut n (a ∷ []) k.slot) = cut_keeps n (a ∷ []) k.slot in
          record {
            slot = slots_cut n (a ∷ []) k.slot;
            there = cut_at n (a ∷ []) y.links ∙ ap (option_map (slots_cut n (a ∷ []))) k.there;
            sees = record {
              over = k.sees.over ∙ sym kept.dead;
              retiring = k.sees.retiring ∙ sym kept.retiring;
              going = λ goes. free_if l k.slot (link_number a == n) (k.sees.going goes);
            };
          });
      closing = λ n l at off. h.closing n l at (less n off);
    }
      where
        less : (n : ℕ) → is_one_of (also ++ (y.resets ++ link_number a ∷ [])) n ≡ false → is_one_of (also ++ y.resets) n ≡ false
        less n off =
            let p = or_parts (is_one_of also n) (is_one_of (y.resets ++ link_number a ∷ []) n) (sym (one_more also (y.resets ++ link_number a ∷ []) n) ∙ off) in
            let q = or_parts (is_one_of y.resets n) (is_one_of (link_number a ∷ []) n) (sym (one_more y.resets (link_number a ∷ []) n) ∙ p.1) in
            one_more also y.resets n ∙ ap (λ (b : Bool). b || is_one_of y.resets n) p.0 ∙ q.0

  -- it goes on
  module _ (off : is_among later a.place ≡ false) where
    out_s : IsOut s1 a
    out_s = record { there = rows_still later a.place s.attempts off ∙ out.there; outstanding = out.outstanding }

    abbrev d : RowEnd
    d = end_of a cut_end s1

    abbrev v : Seen
    v = cut_off a s1

    code_v : (b : Attempt) → reset_code_of u1 b ≡ reset_code_of v b
    code_v b = code_u b ∙ sym (ended_code s1 a.place a d ready_s.places out_s.there b)

    same_calls : u1.calls ≡ v.calls
    same_calls = calls_of s a (end_of a cut_end s) is.places out.there ∙ sym (calls_of s1 a d ready_s.places out_s.there)

    apart_far : IsAsFar v u1
    apart_far = record {
      links = links_u ∙ sym (links_of s1 a d ready_s.places out_s.there);
      calls = λ n c at. record {
        call = c;
        there = ap (λ (cs : List Call). numbered cs n) same_calls ∙ at;
        limit = limit_of s a (end_of a cut_end s) is.places out.there c ∙ sym (limit_of s1 a d ready_s.places out_s.there c);
        more = le_refl (accepted_bytes c);
      };
      rows =
          subst (λ (ys : List Attempt). AreSameRows v u1 ys u1.attempts) (sym (rows_of s1 a d ready_s.places out_s.there))
          (subst (AreSameRows v u1 (changed (with_end d) a.place s1.attempts))
          (sym (ap (rows_ended later) (rows_of s a (end_of a cut_end s) is.places out.there) ∙ rows_apart (with_end (end_of a cut_end s)) later a.place s.attempts off))
          (rows_changed v u1 code_v d (end_of a cut_end s) (λ b. code_v (with_end (end_of a cut_end s) b) ∙ code_alike v d (end_of a cut_end s) refl refl refl b) a.place s1.attempts));
      owned = owned_v;
      numbers = subst (λ (ls : List Link). NumbersCountUp 1 (map (λ (l : Link). l.number) ls)) (sym (links_of s1 a d ready_s.places out_s.there)) ready_s.numbers;
      counted = counted_places 1 u1.attempts places_u;
      places = places_u;
    }
      where
        owned_v : AreOwned v
        owned_v = owned_cut s1 a out_s ready_s.places (owned_left later s owned)

  pub cut_left : (also : List ℕ) (y : StateSeen) → LinksAhead also y s1 → LinksAhead also (reset_on (link_number a) a.place y) u1
  cut_left also y h = by (is_among later a.place) refl
    where
      by : (b : Bool) → is_among later a.place ≡ b → LinksAhead also (reset_on (link_number a) a.place y) u1
      by true on = as_far s1 u1 (far on) also (reset_on (link_number a) a.place y) (freed on also y h)
      by false off = as_far (v off) u1 (apart_far off) also (reset_on (link_number a) a.place y) (cut_ahead s1 a (out_s off) ready_s also y h)

-- all of them
pub cuts_left : (later : List (ℕ × RowEnd)) (cuts : List Attempt) (s t : Seen) (also : List ℕ) (y : StateSeen) → AttemptsAreCutOff cuts s t → IsReady s → AreOwned s
    → LinksAhead also y (all_left later s) → LinksAhead also (all_reset cuts y) (all_left later t)
cuts_left later [] s t also y off is owned ahead = subst (λ (v : Seen). LinksAhead also y (all_left later v)) (sym off) ahead
cuts_left later (a ∷ cuts) s t also y off is owned ahead =
    cuts_left later cuts (cut_off a s) t also (reset_on (link_number a) a.place y) off.1 (ready_still s a off.0 is) (owned_cut s a off.0 is.places owned)
    (cut_left later s a off.0 is owned also y ahead)
