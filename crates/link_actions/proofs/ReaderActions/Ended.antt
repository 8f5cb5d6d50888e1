-- Several attempts end, and several streams are reset: what that leaves of attempts and of their responses.
use Rattle.std.proofs.Common.{◌≡◌, ◌∷◌, ◌++◌, ◌||◌, ◌&&◌, ◌==◌, ap, arith, refl, subst, sym, ◌∙◌, Bool, true, false, List, [], Option, None, Some, ℕ, if◌then◌else◌, is_none, is_some, map, option_and_then, option_map}
use Rattle.std.specs.List.{AllByRecursion}
use Rattle.std.specs.Option.{option_map_or}
use Rattle.std.proofs.lemmas.Bool.{eqb-true}
use Rattle.std.proofs.lemmas.Bool.Decides.{nat_tests}
use Rattle.attempt_ledger.specs.declared.row.Placed.{Placed}
use Rattle.attempt_ledger.specs.declared.row.Row.{Row}
use Rattle.attempt_ledger.specs.declared.row.RowEnd.{RowEnd}
use Rattle.grpc_base.specs.ErrorCodes.{cancel}
use Rattle.h2_frame.specs.Sent.{rst_stream_frame}
use Rattle.lb_policy.specs.Table.{is_one_of}
use Rattle.link_actions.proofs.Ended.{ended_seen, is_ended}
use Rattle.link_actions.proofs.Without.{changed_at, places_at}
use Rattle.link_actions.specs.Laws.{with_owed}
use Rattle.link_actions.specs.Sees.{AttemptsStandInPlace}
use Rattle.link_actions.proofs.LossActions.Calls.{changed_any}
use Rattle.link_actions.proofs.ResponseActions.Ended.{limit_ended}
use Rattle.session_actions.specs.AttemptEnds.{attempt_ended, stream_reset, stream_reset_of, with_end, with_end_in_run, with_reset_queued}
use Rattle.session_actions.specs.Attempts.{call_of}
use Rattle.session_actions.specs.Links.{link_number, stream_number}
use Rattle.session_actions.specs.Responses.{limit_of_attempt, no_response, response, response_by, response_in, response_on, traffic_by}
use Rattle.session_actions.specs.Words.{changed, numbered}
use Rattle.session_actions.specs.declared.attempt.Attempt.{Attempt}
use Rattle.session_actions.specs.declared.config.ThrottleRun.{ThrottleRun}
use Rattle.session_actions.specs.declared.link.Link.{Link}
use Rattle.session_actions.specs.declared.link.Traffic.{Traffic}
use Rattle.session_actions.specs.declared.response.Response.{Response}
use Rattle.session_actions.specs.declared.seen.Seen.{Seen}
use Rattle.link_actions.specs.StreamActions.Laws.{IsSomewhere, ended_all, reset_all}

abbrev pub ends_of : List (ℕ × RowEnd) → List ℕ
ends_of ends = map (λ (x : ℕ × RowEnd). x.0) ends

-- an attempt that ended, if there is one
abbrev pub IsOver : Option Attempt → Type 0
IsOver None = Unit {0}
IsOver (Some b) = is_none b.row.ended ≡ false

-- these ended, and the others are as they were
pub record AreEnded (ts : List ℕ) (s u : Seen) : Type 0 where
  pub links : u.links ≡ s.links
  pub limits : (b : Attempt) → limit_of_attempt b u ≡ limit_of_attempt b s
  pub places : AttemptsStandInPlace 1 u.attempts
  pub others : (k : ℕ) → is_one_of ts k ≡ false → numbered u.attempts k ≡ numbered s.attempts k
  pub over : (k : ℕ) → is_one_of ts k ≡ true → IsOver (numbered u.attempts k)

turned : (k t : ℕ) (b : Bool) → (t == k) ≡ b → (k == t) ≡ b
turned k t true e = grind (arith, nat_tests, e)
turned k t false e = grind (arith, nat_tests, e)

over_or : (e : RowEnd) (b : Bool) (o : Option Attempt) → (b ≡ false → IsOver o) → IsOver (option_map (λ x. if b then with_end e x else x) o)
over_or e b None rest = tt
over_or e true (Some x) rest = refl
over_or e false (Some x) rest = rest refl

kept_or : (e : RowEnd) (b : Bool) (o : Option Attempt) → b ≡ false → option_map (λ x. if b then with_end e x else x) o ≡ o
kept_or e b None off = refl
kept_or e b (Some x) off = ap (λ (c : Bool). Some (if c then with_end e x else x)) off

-- one that ended
pub record IsEndedAt (t : ℕ) (e : RowEnd) (s u : Seen) : Type 0 where
  pub links : u.links ≡ s.links
  pub limits : (b : Attempt) → limit_of_attempt b u ≡ limit_of_attempt b s
  pub places : AttemptsStandInPlace 1 u.attempts
  pub each : (k : ℕ) → numbered u.attempts k ≡ option_map (λ x. if k == t then with_end e x else x) (numbered s.attempts k)

ended_at : (t : ℕ) (e : RowEnd) (a : Attempt) (s : Seen) → AttemptsStandInPlace 1 s.attempts → numbered s.attempts t ≡ Some a → IsEndedAt t e s (attempt_ended t e s)
ended_at t e a s places there =
    let runs : List ThrottleRun = (option_map_or (with_end_in_run a e s) (call_of a s) s).runs in
    let draws : Bool = is_some e.word in
    subst (IsEndedAt t e s) (sym (is_ended s t e a places there))
    (record {
      links = refl;
      limits = λ b. limit_ended s draws a.row.call t e runs b;
      places = subst (AttemptsStandInPlace 1) (sym (changed_at (with_end e) t s.attempts a places there)) (places_at (with_end e) (λ b. refl) t 1 s.attempts places);
      each = λ k. changed_any (with_end e) t k s.attempts;
    })

somewhere_by : (t k : ℕ) (e : RowEnd) (s u : Seen) → IsEndedAt t e s u → IsSomewhere s k → IsSomewhere u k
somewhere_by t k e s u is at = record {
  attempt = if k == t then with_end e at.attempt else at.attempt;
  there = is.each k ∙ ap (option_map (λ x. if k == t then with_end e x else x)) at.there;
}

all_somewhere : (t : ℕ) (e : RowEnd) (s u : Seen) (ends : List (ℕ × RowEnd)) → IsEndedAt t e s u → AllByRecursion (λ (x : ℕ × RowEnd). IsSomewhere s x.0) ends
    → AllByRecursion (λ (x : ℕ × RowEnd). IsSomewhere u x.0) ends
all_somewhere t e s u [] is all = tt
all_somewhere t e s u (x ∷ ends) is all = (somewhere_by t x.0 e s u is all.0, all_somewhere t e s u ends is all.1)

none_of_two : (a b : Bool) → (a || b) ≡ false → (a ≡ false) × (b ≡ false)
none_of_two true b e = absurd (let no : ⊥ = (cc) in no)
none_of_two false b e = (refl, e)

-- an attempt that ended ends again: it is over either way
over_more : (ts : List ℕ) (t k : ℕ) (e : RowEnd) (s u v : Seen) (b c : Bool) → (t == k) ≡ b → is_one_of ts k ≡ c → (b || c) ≡ true → IsEndedAt t e s u → AreEnded ts u v → IsOver (numbered v.attempts k)
over_more ts t k e s u v b true same among some one rest = rest.over k among
over_more ts t k e s u v true false same among some one rest =
    let yes : (k == t) ≡ true = turned k t true same in
    subst IsOver (sym (rest.others k among ∙ one.each k))
    (over_or e (k == t) (numbered s.attempts k) (λ off. absurd (let both : true ≡ false = sym yes ∙ off in let no : ⊥ = (cc) in no)))
over_more ts t k e s u v false false same among some one rest = absurd (let no : ⊥ = (cc) in no)

pub all_are_ended : (ends : List (ℕ × RowEnd)) (s : Seen) → AttemptsStandInPlace 1 s.attempts → AllByRecursion (λ (x : ℕ × RowEnd). IsSomewhere s x.0) ends → AreEnded (ends_of ends) s (ended_all ends s)
all_are_ended [] s places all = record { links = refl; limits = λ b. refl; places = places; others = λ k off. refl; over = λ k on. absurd (let no : ⊥ = (cc) in no) }
all_are_ended (x ∷ ends) s places all =
    let u : Seen = attempt_ended x.0 x.1 s in
    let one : IsEndedAt x.0 x.1 s u = ended_at x.0 x.1 all.0.attempt s places all.0.there in
    let rest : AreEnded (ends_of ends) u (ended_all ends u) = all_are_ended ends u one.places (all_somewhere x.0 x.1 s u ends one all.1) in
    record {
      links = rest.links ∙ one.links;
      limits = λ b. rest.limits b ∙ one.limits b;
      places = rest.places;
      others = λ k off. (let parts = none_of_two (x.0 == k) (is_one_of (ends_of ends) k) off in
          rest.others k parts.1 ∙ one.each k ∙ kept_or x.1 (k == x.0) (numbered s.attempts k) (turned k x.0 false parts.0));
      over = λ k on. over_more (ends_of ends) x.0 k x.1 s u (ended_all ends u) (x.0 == k) (is_one_of (ends_of ends) k) refl refl on one rest;
    }

-- streams that are reset
abbrev pub IsSameRow : Option Attempt → Option Attempt → Type 0
IsSameRow None None = Unit {0}
IsSameRow (Some a) (Some b) = b.row ≡ a.row
IsSameRow _ _ = ⊥

abbrev pub IsSameTraffic : Option Link → Option Link → Type 0
IsSameTraffic None None = Unit {0}
IsSameTraffic (Some l) (Some m) = m.traffic ≡ l.traffic
IsSameTraffic _ _ = ⊥

pub record AreReset (s u : Seen) : Type 0 where
  pub calls : u.calls ≡ s.calls
  pub configs : u.configs ≡ s.configs
  pub each : (k : ℕ) → IsSameRow (numbered s.attempts k) (numbered u.attempts k)
  pub links : (j : ℕ) → IsSameTraffic (numbered s.links j) (numbered u.links j)

row_itself : (o : Option Attempt) → IsSameRow o o
row_itself None = tt
row_itself (Some a) = refl

pub traffic_itself : (o : Option Link) → IsSameTraffic o o
traffic_itself None = tt
traffic_itself (Some l) = refl

row_more : (o p q : Option Attempt) → IsSameRow o p → IsSameRow p q → IsSameRow o q
row_more None None None e h = tt
row_more (Some a) (Some b) (Some c) e h = h ∙ e
row_more None None (Some c) e h = absurd h
row_more None (Some b) q e h = absurd e
row_more (Some a) None q e h = absurd e
row_more (Some a) (Some b) None e h = absurd h

traffic_more : (o p q : Option Link) → IsSameTraffic o p → IsSameTraffic p q → IsSameTraffic o q
traffic_more None None None e h = tt
traffic_more (Some a) (Some b) (Some c) e h = h ∙ e
traffic_more None None (Some c) e h = absurd h
traffic_more None (Some b) q e h = absurd e
traffic_more (Some a) None q e h = absurd e
traffic_more (Some a) (Some b) None e h = absurd h

row_marked : (b : Bool) (o : Option Attempt) → IsSameRow o (option_map (λ x. if b then with_reset_queued x else x) o)
row_marked b None = tt
row_marked true (Some a) = refl
row_marked false (Some a) = refl

traffic_owed : (f : Link → Link) (b : Bool) (o : Option Link) → ((l : Link) → (f l).traffic ≡ l.traffic) → IsSameTraffic o (option_map (λ x. if b then f x else x) o)
traffic_owed f b None keeps = tt
traffic_owed f true (Some l) keeps = keeps l
traffic_owed f false (Some l) keeps = refl

reset_by : (s : Seen) (code : ℕ) (o : Option Attempt) → AreReset s (option_map_or (stream_reset_of code s) o s)
reset_by s code None = record { calls = refl; configs = refl; each = λ k. row_itself (numbered s.attempts k); links = λ j. traffic_itself (numbered s.links j) }
reset_by s code (Some a) =
    let f : Link → Link = with_owed (rst_stream_frame (stream_number a) code ∷ []) in
    record {
      calls = refl;
      configs = refl;
      each = λ k. subst (IsSameRow (numbered s.attempts k)) (sym (changed_any with_reset_queued a.place k s.attempts)) (row_marked (k == a.place) (numbered s.attempts k));
      links = λ j. subst (IsSameTraffic (numbered s.links j)) (sym (changed_any f (link_number a) j s.links)) (traffic_owed f (j == link_number a) (numbered s.links j) (λ l. refl));
    }

pub all_are_reset : (xs : List Attempt) (s : Seen) → AreReset s (reset_all xs s)
all_are_reset [] s = record { calls = refl; configs = refl; each = λ k. row_itself (numbered s.attempts k); links = λ j. traffic_itself (numbered s.links j) }
all_are_reset (a ∷ xs) s =
    let u : Seen = stream_reset a.place cancel s in
    let one : AreReset s u = reset_by s cancel (numbered s.attempts a.place) in
    let rest : AreReset u (reset_all xs u) = all_are_reset xs u in
    record {
      calls = rest.calls ∙ one.calls;
      configs = rest.configs ∙ one.configs;
      each = λ k. row_more (numbered s.attempts k) (numbered u.attempts k) (numbered (reset_all xs u).attempts k) (one.each k) (rest.each k);
      links = λ j. traffic_more (numbered s.links j) (numbered u.links j) (numbered (reset_all xs u).links j) (one.links j) (rest.links j);
    }
