-- The attempts of one link, before and after: each with its call, its line, and the limit of its response.
use Rattle.std.proofs.Common.{◌≡◌, ◌∷◌, ◌&&◌, ◌≤◌, ap, refl, subst, sym, ◌∙◌, Bool, true, false, List, [], Option, None, Some, ℕ, cond, filter, is_some}
use Rattle.std.proofs.Math.Nat.{le_trans}
use Rattle.std.specs.List.{AllByRecursion, list_all}
use Rattle.std.specs.Option.{option_map_or}
use Rattle.channel_actions.specs.Links.{line_of, lines_in, no_line}
use Rattle.grpc_base.specs.Limits.{message_limit}
use Rattle.h2_link.specs.Feeds.{Line}
use Rattle.link_actions.proofs.Lists.{both_if, if_false}
use Rattle.link_actions.specs.Sees.{IsFed, written_for}
use Rattle.channel_actions.proofs.Links.Frames.Steps as step
use Rattle.channel_actions.specs.LinkFrames.Alike.{AttemptsAreAlike, IsAttemptStill, IsCallStill, IsElsewhere, Numbers, is_on}
use Rattle.session_actions.specs.Attempts.{call_of}
use Rattle.session_actions.specs.Configs.{chosen_of}
use Rattle.session_actions.specs.Reading.{used}
use Rattle.session_actions.specs.Responses.{limit_of_attempt}
use Rattle.session_actions.specs.Words.{numbered}
use Rattle.session_actions.specs.Writing.{accepted_bytes}
use Rattle.session_actions.specs.declared.attempt.Attempt.{Attempt}
use Rattle.session_actions.specs.declared.call.Call.{Call}
use Rattle.session_actions.specs.declared.link.Link.{Link}
use Rattle.session_actions.specs.declared.seen.Seen.{Seen}

pub both_true : (a b : Bool) → (a && b) ≡ true → (a ≡ true) × (b ≡ true)
both_true true b e = (refl, e)
both_true false b e = absurd (cc)

-- each attempt stands at its place
abbrev pub AtPlace : Seen → Attempt → Type 0
AtPlace t b = numbered t.attempts b.place ≡ Some b

-- an attempt of the link
pub record IsPair (s t : Seen) (a b : Attempt) : Type 0 where
  pub place : b.place ≡ a.place
  pub stream : b.row.stream ≡ a.row.stream
  pub limit : limit_of_attempt b t ≡ limit_of_attempt a s
  pub calls : (c : Call) → call_of a s ≡ Some c → IsCallStill s t c b
  pub at : AtPlace t b

pub pair_place : (s t : Seen) (a b : Attempt) → IsPair s t a b → b.place ≡ a.place
pair_place s t a b p = p.place

pub pair_stream : (s t : Seen) (a b : Attempt) → IsPair s t a b → b.row.stream ≡ a.row.stream
pair_stream s t a b p = p.stream

-- the limit of a response is that of the call's config
limit_by : (s : Seen) (a : Attempt) (c : Call) → call_of a s ≡ Some c → limit_of_attempt a s ≡ (chosen_of c s).response
limit_by s a c e = ap (λ (o : Option Call). option_map_or (λ (d : Call). (chosen_of d s).response) o message_limit) e

limit_same : (s t : Seen) (a b : Attempt) → IsAttemptStill s t a b → (o : Option Call) → call_of a s ≡ o → is_some o ≡ true → limit_of_attempt b t ≡ limit_of_attempt a s
limit_same s t a b still None e there = absurd (cc)
limit_same s t a b still (Some c) e there =
    let k = still.calls c e in limit_by t b k.call k.is ∙ k.limit ∙ sym (limit_by s a c e)

pub limit_still : (s t : Seen) (a b : Attempt) → IsAttemptStill s t a b → is_some (call_of a s) ≡ true → limit_of_attempt b t ≡ limit_of_attempt a s
limit_still s t a b still there = limit_same s t a b still (call_of a s) refl there

pub pair_of : (s t : Seen) (a b : Attempt) → b.place ≡ a.place → IsAttemptStill s t a b → is_some (call_of a s) ≡ true → AtPlace t b → IsPair s t a b
pair_of s t a b place still owned at =
    record { place = place; stream = still.stream; limit = limit_still s t a b still owned; calls = still.calls; at = at }

-- the line of one
line_at : (l : Link) (t : Seen) (b : Attempt) (d : Call) → AtPlace t b → call_of b t ≡ Some d → lines_in l t b.place ≡ line_of l t b d
line_at l t b d at of =
    ap (λ (o : Option Attempt). option_map_or (λ (q : Attempt). option_map_or (line_of l t q) (call_of q t) no_line) o no_line) at
    ∙ ap (λ (o : Option Call). option_map_or (line_of l t b) o no_line) of

fed_by : (l : Link) (t : Seen) (b : Attempt) (d : Call) → AtPlace t b → call_of b t ≡ Some d → written_for l b ≤ accepted_bytes d → IsFed l t b (lines_in l t b.place)
fed_by l t b d at of within =
    let own : IsFed l t b (line_of l t b d) = record { call = d; call_is = of; fields = refl; written = within; left = refl; finished = refl } in
    subst (IsFed l t b) (sym (line_at l t b d at of)) own

pub pair_fed : (l m : Link) (s t : Seen) (a b : Attempt) (line : Line) → m.traffic ≡ l.traffic → IsPair s t a b → IsFed l s a line → IsFed m t b (lines_in m t b.place)
pair_fed l m s t a b line passed p fed =
    let k = p.calls fed.call fed.call_is in
    let same : written_for m b ≡ written_for l a
    = ap (λ (o : Option ℕ). option_map_or (λ (n : ℕ). used n m) o 0) p.stream
    ∙ ap (λ (ts : List _). option_map_or (λ (n : ℕ). used n (record l { traffic = ts })) a.row.stream 0) passed in
    fed_by m t b k.call p.at k.is (subst (λ (n : ℕ). n ≤ accepted_bytes k.call) (sym same) (le_trans fed.written k.more))

-- those of a link among all
abbrev pub InStep : Seen → Seen → List Attempt → List Attempt → Type 0
InStep s t = step.InStep (IsPair s t) (pair_place s t) (pair_stream s t)

module _ (touched : Numbers) (s t : Seen) (link : ℕ) (apart : touched link ≡ false) where
  none_on : (bs : List Attempt) → AllByRecursion (IsElsewhere touched) bs → filter (is_on link) bs ≡ []
  none_on [] all = refl
  none_on (b ∷ bs) all = if_false (is_on link b) (b ∷ filter (is_on link) bs) (filter (is_on link) bs) (all.0 link apart) ∙ none_on bs all.1

  pub on_step : (xs ys : List Attempt) → list_all (λ (a : Attempt). is_some (call_of a s)) xs ≡ true → AllByRecursion (AtPlace t) ys → AttemptsAreAlike touched s t xs ys
      → InStep s t (filter (is_on link) xs) (filter (is_on link) ys)
  on_step [] bs owned at are = subst (InStep s t []) (sym (none_on bs are)) tt
  on_step (a ∷ as_) (b ∷ bs) owned at are =
      let fa : List Attempt = filter (is_on link) as_ in
      let fb : List Attempt = filter (is_on link) bs in
      let two = both_true (is_some (call_of a s)) (list_all (λ (x : Attempt). is_some (call_of x s)) as_) owned in
      let rest : InStep s t fa fb = on_step as_ bs two.1 at.1 are.1 in
      subst (λ (c : Bool). InStep s t (cond (is_on link a) (a ∷ fa) fa) (cond c (b ∷ fb) fb)) (sym (are.0.on link apart))
      (both_if (InStep s t) (is_on link a) (a ∷ fa) fa (b ∷ fb) fb (λ e. (pair_of s t a b are.0.place (are.0.still link apart e) two.0 at.0, rest)) (λ e. rest))
  on_step (a ∷ as_) [] owned at are = absurd are
