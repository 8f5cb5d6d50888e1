-- How a load that stops in a part of its actions stops in all of them.
use Rattle.std.proofs.Common.{◌≡◌, ◌∙◌, ◌<◌, ℕ, zero, suc, ◌+◌, ◌-◌, List, ◌∷◌, ◌++◌, sym, subst, ap, append_assoc, arith}
use Rattle.std.specs.Prelude.{flat_map}
use Rattle.std.specs.List.{range_with_len}
use Rattle.std.proofs.lemmas.Grind.{flat_map-append}
use Rattle.grpc_base.specs.declared.event.Event.{Event}
use Rattle.load_plan.specs.declared.action.LoadAction.{LoadAction}
use Rattle.load_plan.specs.declared.action.LoadStep.{LoadStep}
use Rattle.load_plan.specs.declared.action.LoadStep.TheVariants as does
use Rattle.load_session.specs.Playing.{Plays, Sides}
use Rattle.load_session.specs.Stopping.{LacksRoom, Stops, StopsExchange, StopsIn, StopsTaking}
use Rattle.load_session.proofs.Acts.{IsPlaying, Plays-join}

-- ---- one action

pub stops_post : (moment : ℕ) (step : LoadStep) (e : Event) (a : Sides) → step ≡ does.Post e → LacksRoom e a.channel → Stops moment step a
stops_post moment step e a is lacks = subst (λ (s : LoadStep). Stops moment s a) (sym is) lacks

pub stops_exchange : (moment : ℕ) (step : LoadStep) (a : Sides) → step ≡ does.Exchange → StopsExchange moment a → Stops moment step a
stops_exchange moment step a is stops = subst (λ (s : LoadStep). Stops moment s a) (sym is) stops

pub stops_takes : (moment : ℕ) (step : LoadStep) (call : ℕ) (a : Sides) → step ≡ does.Takes call → StopsTaking moment call a.channel → Stops moment step a
stops_takes moment step call a is stops = subst (λ (s : LoadStep). Stops moment s a) (sym is) stops

-- ---- many actions

pub stops_at : (all left rest : List LoadAction) (x : LoadAction) (a now : Sides) → IsPlaying all a now left → left ≡ x ∷ rest → Stops x.moment x.step now → StopsIn all a
stops_at all left rest x a now playing e stops = record {
  played = playing.prefix;
  action = x;
  afterwards = rest;
  parts = playing.parts ∙ ap (λ (xs : List LoadAction). playing.prefix ++ xs) e;
  mid = now;
  plays = playing.plays;
  stops = stops;
}

pub stops_before : (xs ys : List LoadAction) (a : Sides) → StopsIn xs a → StopsIn (xs ++ ys) a
stops_before xs ys a stops = record {
  played = stops.played;
  action = stops.action;
  afterwards = stops.afterwards ++ ys;
  parts = ap (λ (zs : List LoadAction). zs ++ ys) stops.parts ∙ append_assoc stops.played (stops.action ∷ stops.afterwards) ys;
  mid = stops.mid;
  plays = stops.plays;
  stops = stops.stops;
}

pub stops_after : (xs ys : List LoadAction) (a b : Sides) → Plays xs a b → StopsIn ys b → StopsIn (xs ++ ys) a
stops_after xs ys a b plays stops = record {
  played = xs ++ stops.played;
  action = stops.action;
  afterwards = stops.afterwards;
  parts = ap (λ (zs : List LoadAction). xs ++ zs) stops.parts ∙ sym (append_assoc xs stops.played (stops.action ∷ stops.afterwards));
  mid = stops.mid;
  plays = Plays-join xs stops.played a b stops.mid plays stops.plays;
  stops = stops.stops;
}

-- ---- many batches

range_split : (a n m : ℕ) → range_with_len a (n + m) ≡ range_with_len a n ++ range_with_len (a + n) m
range_split a zero m =
    let count : 0 + m ≡ m = omega arith in
    let place : a ≡ a + 0 = omega arith in
    ap (range_with_len a) count ∙ ap (λ (k : ℕ). range_with_len k m) place
range_split a (suc n) m =
    let count : suc n + m ≡ suc (n + m) = omega arith in
    let place : a + 1 + n ≡ a + suc n = omega arith in
    ap (range_with_len a) count
    ∙ ap (λ (ks : List ℕ). a ∷ ks) (range_split (a + 1) n m ∙ ap (λ (k : ℕ). range_with_len (a + 1) n ++ range_with_len k m) place)

one_of : (n total : ℕ) → n < total → range_with_len 0 total ≡ range_with_len 0 n ++ n ∷ range_with_len (n + 1) (total - (n + 1))
one_of n total within =
    let count : total ≡ n + suc (total - (n + 1)) = omega (arith, within) in
    let place : 0 + n ≡ n = omega arith in
    ap (range_with_len 0) count
    ∙ range_split 0 n (suc (total - (n + 1)))
    ∙ ap (λ (k : ℕ). range_with_len 0 n ++ range_with_len k (suc (total - (n + 1)))) place

pub stops_in_batch : (batch : ℕ → List LoadAction) (n total : ℕ) (a now : Sides) → n < total → Plays (flat_map batch (range_with_len 0 n)) a now → StopsIn (batch n) now → StopsIn (flat_map batch (range_with_len 0 total)) a
stops_in_batch batch n total a now within plays stops =
    let rest : List ℕ = range_with_len (n + 1) (total - (n + 1)) in
    subst (λ (xs : List LoadAction). StopsIn xs a)
    (sym (ap (flat_map batch) (one_of n total within) ∙ flat_map-append batch (range_with_len 0 n) (n ∷ rest)))
    (stops_after (flat_map batch (range_with_len 0 n)) (batch n ++ flat_map batch rest) a now plays (stops_before (batch n) (flat_map batch rest) now stops))
