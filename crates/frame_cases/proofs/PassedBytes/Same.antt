-- What a session says of attempts by their links, where one link changed.
use Rattle.std.proofs.Common.{◌≡◌, ◌==◌, ap, refl, subst, sym, ◌∙◌, Bool, true, false, List, Option, None, Some, ℕ, []}
use Rattle.session_actions.specs.declared.link.Traffic.{Traffic}
use Rattle.std.proofs.lemmas.Bool.{eqb-false, eqb-true}
use Rattle.std.specs.Option.{option_and_then, option_map, option_map_or}
use Rattle.attempt_ledger.specs.declared.row.Placed.{Placed}
use Rattle.call_actions.proofs.Lists.{changed_away, changed_map}
use Rattle.call_actions.specs.TakeActions.Serves.{came}
use Rattle.session_actions.specs.Attempts.{commitment}
use Rattle.session_actions.specs.Deliveries.{response_items}
use Rattle.session_actions.specs.Links.{link_of}
use Rattle.session_actions.specs.Reading.{used}
use Rattle.session_actions.specs.Responses.{no_response, response, response_by, response_on}
use Rattle.session_actions.specs.Words.{changed, numbered}
use Rattle.session_actions.specs.Writing.{drained}
use Rattle.session_actions.specs.declared.attempt.Attempt.{Attempt}
use Rattle.session_actions.specs.declared.call.Call.{Call}
use Rattle.session_actions.specs.declared.entry.OpenEntry.{OpenEntry}
use Rattle.session_actions.specs.declared.link.Link.{Link}
use Rattle.session_actions.specs.declared.seen.Seen.{Seen}

pub or_same : {X Y : Type 0} (f g : X → Y) (d : Y) → ((x : X) → f x ≡ g x) → (o : Option X) → option_map_or f o d ≡ option_map_or g o d
or_same f g d same None = refl
or_same f g d same (Some x) = same x

through : {Y : Type 0} (F : Link → Y) (d : Y) (f : Link → Link) → ((l : Link) → F (f l) ≡ F l) → (o : Option Link) → option_map_or F (option_map f o) d ≡ option_map_or F o d
through F d f same None = refl
through F d f same (Some l) = same l

through_number : {Y : Type 0} (F : Link → Y) (d : Y) (f : Link → Link) → ((l : Link) → F (f l) ≡ F l) → (n k : ℕ) (ls : List Link) (b : Bool) → (k == n) ≡ b
    → option_map_or F (numbered (changed f n ls) k) d ≡ option_map_or F (numbered ls k) d
through_number F d f same n k ls true e =
    let one : k ≡ n = eqb-true k n e in
    subst (λ (j : ℕ). option_map_or F (numbered (changed f n ls) j) d ≡ option_map_or F (numbered ls j) d) (sym one)
    (ap (λ (o : Option Link). option_map_or F o d) (changed_map f n ls) ∙ through F d f same (numbered ls n))
through_number F d f same n k ls false e = ap (λ (o : Option Link). option_map_or F o d) (changed_away f n k ls (eqb-false k n e))

module _ (s : Seen) (f : Link → Link) (n : ℕ) (current : Option OpenEntry) where
  abbrev t : Seen
  t = record s { links = changed f n s.links; current = current }

  through_placed : {Y : Type 0} (F : Link → Y) (d : Y) → ((l : Link) → F (f l) ≡ F l) → (o : Option Placed)
      → option_map_or F (option_and_then (λ (at : Placed). numbered t.links at.link) o) d ≡ option_map_or F (option_and_then (λ (at : Placed). numbered s.links at.link) o) d
  through_placed F d same None = refl
  through_placed F d same (Some at) = through_number F d f same n at.link s.links (at.link == n) refl

  drained_by : ((stream : ℕ) (l : Link) → used stream (f l) ≡ used stream l) → (a : Attempt) (o : Option ℕ)
      → option_map_or (λ (stream : ℕ). option_map_or (used stream) (link_of a t) 0) o 0 ≡ option_map_or (λ (stream : ℕ). option_map_or (used stream) (link_of a s) 0) o 0
  drained_by same a None = refl
  drained_by same a (Some stream) = through_placed (used stream) 0 (same stream) a.row.placed

  pub drained_through : ((stream : ℕ) (l : Link) → used stream (f l) ≡ used stream l) → (a : Attempt) → drained a t ≡ drained a s
  drained_through same a = drained_by same a a.row.stream

  -- where the same passed on it
  module _ (passed : (l : Link) → (f l).traffic ≡ l.traffic) where
    response_same_by : (a : Attempt) (o : Option ℕ) → response_by a t o ≡ response_by a s o
    response_same_by a None = refl
    response_same_by a (Some stream) =
        through_placed (response_on a stream s) no_response (λ l. ap (λ (ts : List Traffic). response_on a stream s (record l { traffic = ts })) (passed l)) a.row.placed

    pub response_through : (a : Attempt) → response a t ≡ response a s
    response_through a = response_same_by a a.row.stream

  pub came_through : ((a : Attempt) → response_items (response a t) ≡ response_items (response a s)) → (c : Call) → came c t ≡ came c s
  came_through same c = or_same (λ (k : Attempt). response_items (response k t)) (λ (k : Attempt). response_items (response k s)) [] same (commitment c s)
