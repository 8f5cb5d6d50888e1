-- A frame that is written leaves the items of each response on its link.
use Rattle.attempt_ledger.specs.declared.row.RowEnd.{RowEnd}
use Rattle.h2_frame.specs.Frames.{FrameSeen}
use Rattle.h2_frame.specs.Numbers.{data_type}
use Rattle.session_actions.specs.Deliveries.{response_items}
use Rattle.session_actions.specs.Responses.{is_read_by, no_response, response_after, response_in, traffic_by, traffic_of, with_traffic}
use Rattle.session_actions.specs.declared.attempt.Attempt.{Attempt}
use Rattle.session_actions.specs.declared.link.Sent.TheVariants as sent
use Rattle.session_actions.specs.declared.link.Sent.{Sent}
use Rattle.session_actions.specs.declared.link.Traffic.TheVariants as traffic
use Rattle.session_actions.specs.declared.link.Traffic.{Traffic}
use Rattle.session_actions.specs.declared.response.Response.{Response}
use Rattle.std.proofs.Common.{Bool, List, None, Option, Some, [], ap, false, if◌then◌else◌, inl, inr, is_some, length, refl, true, ℕ, ◌&&◌, ◌+◌, ◌++◌, ◌==◌, ◌||◌, ◌∙◌, ◌∷◌, ◌≡◌, ◌⊎◌}
use Rattle.std.proofs.lemmas.List.Sums.{fold-append}
use Rattle.std.specs.Option.{option_map_or}

module _ (limit stream : ℕ) where
  used_by : (p : Response) (f : FrameSeen) (b : Bool) → response_items (if b then record p { used = p.used + length f.payload } else p) ≡ response_items p
  used_by p f true = refl
  used_by p f false = refl

  sent_same : (p : Response) (x : Sent) → response_items (with_traffic limit stream p (traffic.Written x)) ≡ response_items p
  sent_same p sent.Preface = refl
  sent_same p (sent.Frame f) = used_by p f ((f.kind == data_type) && (f.stream == stream))

  after_same : (p : Response) (x : Sent) (b : Bool) → response_items (if b then p else with_traffic limit stream p (traffic.Written x)) ≡ response_items p
  after_same p x true = refl
  after_same p x false = sent_same p x

  pub more_same : (ts : List Traffic) (x : Sent) → response_items (response_in limit stream (ts ++ traffic.Written x ∷ [])) ≡ response_items (response_in limit stream ts)
  more_same ts x =
      let p : Response = response_in limit stream ts in
      ap response_items (fold-append (response_after limit stream) no_response ts (traffic.Written x ∷ [])) ∙ after_same p x (is_some p.end || p.large)

  -- up to what an end saw: it is the last of these, or none of them
  by_if : (t : Traffic) (xs ys zs : List Traffic) (b : Bool) → (xs ≡ ys) ⊎ (xs ≡ ys ++ zs)
      → ((if b then t ∷ xs else []) ≡ (if b then t ∷ ys else [])) ⊎ ((if b then t ∷ xs else []) ≡ (if b then t ∷ ys else []) ++ zs)
  by_if t xs ys zs true (inl e) = inl (ap (λ (l : List Traffic). t ∷ l) e)
  by_if t xs ys zs true (inr e) = inr (ap (λ (l : List Traffic). t ∷ l) e)
  by_if t xs ys zs false e = inl refl

  seen_by : (seen : ℕ) (x : Sent) (ts : List Traffic)
      → (traffic_by seen (ts ++ traffic.Written x ∷ []) ≡ traffic_by seen ts) ⊎ (traffic_by seen (ts ++ traffic.Written x ∷ []) ≡ traffic_by seen ts ++ traffic.Written x ∷ [])
  seen_by seen x [] = inr refl
  seen_by seen x (t ∷ ts) = by_if t (traffic_by seen (ts ++ traffic.Written x ∷ [])) (traffic_by seen ts) (traffic.Written x ∷ []) (is_read_by seen t) (seen_by seen x ts)

  ended_same : (ts us : List Traffic) (x : Sent) → (us ≡ ts) ⊎ (us ≡ ts ++ traffic.Written x ∷ []) → response_items (response_in limit stream us) ≡ response_items (response_in limit stream ts)
  ended_same ts us x (inl e) = ap (λ (l : List Traffic). response_items (response_in limit stream l)) e
  ended_same ts us x (inr e) = ap (λ (l : List Traffic). response_items (response_in limit stream l)) e ∙ more_same ts x

  of_same : (o : Option RowEnd) (ts : List Traffic) (x : Sent)
      → response_items (response_in limit stream (option_map_or (λ (e : RowEnd). traffic_by e.seen (ts ++ traffic.Written x ∷ [])) o (ts ++ traffic.Written x ∷ [])))
      ≡ response_items (response_in limit stream (option_map_or (λ (e : RowEnd). traffic_by e.seen ts) o ts))
  of_same None ts x = more_same ts x
  of_same (Some e) ts x = ended_same (traffic_by e.seen ts) (traffic_by e.seen (ts ++ traffic.Written x ∷ [])) x (seen_by e.seen x ts)

  pub traffic_same : (a : Attempt) (ts : List Traffic) (x : Sent)
      → response_items (response_in limit stream (traffic_of a (ts ++ traffic.Written x ∷ []))) ≡ response_items (response_in limit stream (traffic_of a ts))
  traffic_same a ts x = of_same a.row.ended ts x
