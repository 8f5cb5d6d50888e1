-- Whatever is written on a link, of the responses on it nothing changes but how much was sent.
use Rattle.std.proofs.Common.{◌≡◌, ◌∷◌, ◌++◌, ◌+◌, ◌||◌, ◌&&◌, ◌==◌, ap, append-nil, refl, ◌∙◌, Bool, true, false, List, [], Option, None, Some, ℕ, inl, inr, ◌⊎◌, if◌then◌else◌, is_some, filter_map, length}
use Rattle.std.proofs.lemmas.List.Elements.{filter_map-append}
use Rattle.std.proofs.lemmas.List.Sums.{fold-append}
use Rattle.std.proofs.lemmas.List.Folds.{list_any-append}
use Rattle.std.specs.List.{list_any}
use Rattle.std.specs.Option.{option_map_or}
use Rattle.attempt_ledger.specs.declared.row.RowEnd.{RowEnd}
use Rattle.h2_frame.specs.Frames.{FrameSeen, has_flag}
use Rattle.h2_frame.specs.Numbers.{data_type, end_stream_flag, goaway_type}
use Rattle.session_actions.specs.Links.{frames_read, frames_written, has_settings, has_written_end, is_retiring, is_settings, read_in, written_in}
use Rattle.session_actions.specs.Responses.{is_read_by, no_response, response_after, response_in, traffic_by, traffic_of, with_traffic}
use Rattle.session_actions.specs.declared.attempt.Attempt.{Attempt}
use Rattle.session_actions.specs.declared.link.Link.{Link}
use Rattle.session_actions.specs.declared.link.ReadFrame.{ReadFrame}
use Rattle.session_actions.specs.declared.link.Sent.{Sent}
use Rattle.session_actions.specs.declared.link.Sent.TheVariants as sent
use Rattle.session_actions.specs.declared.link.Traffic.{Traffic}
use Rattle.session_actions.specs.declared.link.Traffic.TheVariants as traffic
use Rattle.session_actions.specs.declared.response.Response.{Response}

-- two responses are alike in all that came
pub record IsLike (p q : Response) : Type 0 where
  pub head : q.head ≡ p.head
  pub end : q.end ≡ p.end
  pub large : q.large ≡ p.large
  pub closes : q.closes ≡ p.closes

pub like_self : (p : Response) → IsLike p p
like_self p = record { head = refl; end = refl; large = refl; closes = refl }

pub like_by : (p q : Response) → q ≡ p → IsLike p q
like_by p q e =
    record { head = ap (λ (r : Response). r.head) e; end = ap (λ (r : Response). r.end) e; large = ap (λ (r : Response). r.large) e; closes = ap (λ (r : Response). r.closes) e }

pub like_join : (p q r : Response) → IsLike p q → IsLike q r → IsLike p r
like_join p q r f g =
    record { head = g.head ∙ f.head; end = g.end ∙ f.end; large = g.large ∙ f.large; closes = g.closes ∙ f.closes }

module _ (limit stream : ℕ) where
  used_by : (p : Response) (f : FrameSeen) (b : Bool) → IsLike p (if b then record p { used = p.used + length f.payload } else p)
  used_by p f true = record { head = refl; end = refl; large = refl; closes = refl }
  used_by p f false = like_self p

  sent_like : (p : Response) (x : Sent) → IsLike p (with_traffic limit stream p (traffic.Written x))
  sent_like p sent.Preface = like_self p
  sent_like p (sent.Frame f) = used_by p f ((f.kind == data_type) && (f.stream == stream))

  after_like : (p : Response) (x : Sent) (b : Bool) → IsLike p (if b then p else with_traffic limit stream p (traffic.Written x))
  after_like p x true = like_self p
  after_like p x false = sent_like p x

  pub more_like : (ts : List Traffic) (x : Sent) → IsLike (response_in limit stream ts) (response_in limit stream (ts ++ traffic.Written x ∷ []))
  more_like ts x =
      let p : Response = response_in limit stream ts in
      like_join p (response_after limit stream p (traffic.Written x)) (response_in limit stream (ts ++ traffic.Written x ∷ [])) (after_like p x (is_some p.end || p.large))
      (like_by (response_after limit stream p (traffic.Written x)) (response_in limit stream (ts ++ traffic.Written x ∷ []))
      (fold-append (response_after limit stream) no_response ts (traffic.Written x ∷ [])))

  -- up to what an end saw: it is the last of these, or none of them
  by_if : (seen : ℕ) (t : Traffic) (xs ys zs : List Traffic) (b : Bool) → (xs ≡ ys) ⊎ (xs ≡ ys ++ zs) → ((if b then t ∷ xs else []) ≡ (if b then t ∷ ys else [])) ⊎ ((if b then t ∷ xs else []) ≡ (if b then t ∷ ys else []) ++ zs)
  by_if seen t xs ys zs true (inl e) = inl (ap (λ (l : List Traffic). t ∷ l) e)
  by_if seen t xs ys zs true (inr e) = inr (ap (λ (l : List Traffic). t ∷ l) e)
  by_if seen t xs ys zs false e = inl refl

  seen_by : (seen : ℕ) (x : Sent) (ts : List Traffic)
      → (traffic_by seen (ts ++ traffic.Written x ∷ []) ≡ traffic_by seen ts) ⊎ (traffic_by seen (ts ++ traffic.Written x ∷ []) ≡ traffic_by seen ts ++ traffic.Written x ∷ [])
  seen_by seen x [] = inr refl
  seen_by seen x (t ∷ ts) =
      by_if seen t (traffic_by seen (ts ++ traffic.Written x ∷ [])) (traffic_by seen ts) (traffic.Written x ∷ []) (is_read_by seen t) (seen_by seen x ts)

  ended_like : (ts us : List Traffic) (x : Sent) → (us ≡ ts) ⊎ (us ≡ ts ++ traffic.Written x ∷ []) → IsLike (response_in limit stream ts) (response_in limit stream us)
  ended_like ts us x (inl e) = like_by (response_in limit stream ts) (response_in limit stream us) (ap (response_in limit stream) e)
  ended_like ts us x (inr e) =
      like_join (response_in limit stream ts) (response_in limit stream (ts ++ traffic.Written x ∷ [])) (response_in limit stream us) (more_like ts x)
      (like_by (response_in limit stream (ts ++ traffic.Written x ∷ [])) (response_in limit stream us) (ap (response_in limit stream) e))

  of_like : (o : Option RowEnd) (ts : List Traffic) (x : Sent)
      → IsLike (response_in limit stream (option_map_or (λ (e : RowEnd). traffic_by e.seen ts) o ts))
      (response_in limit stream (option_map_or (λ (e : RowEnd). traffic_by e.seen (ts ++ traffic.Written x ∷ [])) o (ts ++ traffic.Written x ∷ [])))
  of_like None ts x = more_like ts x
  of_like (Some e) ts x = ended_like (traffic_by e.seen ts) (traffic_by e.seen (ts ++ traffic.Written x ∷ [])) x (seen_by e.seen x ts)

  pub traffic_like : (a : Attempt) (ts : List Traffic) (x : Sent) → IsLike (response_in limit stream (traffic_of a ts)) (response_in limit stream (traffic_of a (ts ++ traffic.Written x ∷ [])))
  traffic_like a ts x = of_like a.row.ended ts x

-- what was read is the same; and what was written is not taken back
abbrev pub with_sent : Sent → Link → Link
with_sent x l = record l { traffic = l.traffic ++ traffic.Written x ∷ [] }

pub read_same : (x : Sent) (l : Link) → frames_read (with_sent x l) ≡ frames_read l
read_same x l = filter_map-append read_in l.traffic (traffic.Written x ∷ []) ∙ append-nil (filter_map read_in l.traffic)

pub settings_same : (x : Sent) (l : Link) → has_settings (with_sent x l) ≡ has_settings l
settings_same x l = ap (list_any (λ (r : ReadFrame). is_settings r.frame)) (read_same x l)

pub retiring_same : (x : Sent) (l : Link) → is_retiring (with_sent x l) ≡ is_retiring l
retiring_same x l = ap (list_any (λ (r : ReadFrame). r.frame.kind == goaway_type)) (read_same x l)

or_true : (a b : Bool) → a ≡ true → (a || b) ≡ true
or_true true b e = refl
or_true false b e = absurd (cc)

pub written_stays : (x : Sent) (stream : ℕ) (l : Link) → has_written_end stream l ≡ true → has_written_end stream (with_sent x l) ≡ true
written_stays x stream l e =
    let test : FrameSeen → Bool = λ (f : FrameSeen). (f.kind == data_type) && (f.stream == stream) && has_flag f.flags end_stream_flag in
    ap (list_any test) (filter_map-append written_in l.traffic (traffic.Written x ∷ []))
    ∙ list_any-append test (filter_map written_in l.traffic) (filter_map written_in (traffic.Written x ∷ []))
    ∙ or_true (list_any test (frames_written l)) (list_any test (filter_map written_in (traffic.Written x ∷ []))) e
