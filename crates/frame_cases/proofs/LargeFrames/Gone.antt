-- An attempt that is not on a link any more: to cut it off there changes nothing.
use Rattle.std.proofs.Common.{◌≡◌, ◌+◌, ◌==◌, ◌||◌, ◌∷◌, ap, refl, ◌∙◌, Bool, false, List, [], None, Some, ℕ, map}
use Rattle.std.specs.List.{AllByRecursion}
use Rattle.call_cases.proofs.LinkEnds.Cutting.{none_streaming, none_waiting}
use Rattle.grpc_base.specs.ErrorCodes.{cancel}
use Rattle.h2_link.specs.Feeds.{Line}
use Rattle.h2_link.specs.Steps.{cut, found_from, is_tagged}
use Rattle.h2_link.specs.Wire.{Wire}
use Rattle.h2_link.specs.declared.live.LiveStream.{LiveStream}
use Rattle.lb_policy.specs.Table.{is_one_of}
use Rattle.link_actions.proofs.Lists.{if_false}
use Rattle.link_actions.proofs.ResponseActions.Gone.{cut_free}
use Rattle.link_actions.specs.Sees.{StreamsAreLive, AttemptsStandInPlace, by_stream}
use Rattle.link_actions.specs.StreamActions.Sees.{SeesStreams}
use Rattle.session_actions.specs.Reading.{is_outstanding_on}
use Rattle.session_actions.specs.Words.{numbered}
use Rattle.session_actions.specs.Writing.{streaming_on, waiting_on}
use Rattle.session_actions.specs.declared.attempt.Attempt.{Attempt}
use Rattle.session_actions.specs.declared.link.Link.{Link}
use Rattle.session_actions.specs.declared.seen.Seen.{Seen}

module _ (l : Link) (s : Seen) (a : Attempt) (there : numbered s.attempts a.place ≡ Some a) (off : is_outstanding_on l a ≡ false) (places : AttemptsStandInPlace 1 s.attempts) where
  abbrev IsOther : Attempt → Type 0
  IsOther b = (b.place == a.place) ≡ false

  no_stream : (place : ℕ) (xs : List LiveStream) (as_ : List Attempt) → StreamsAreLive l xs as_ → AllByRecursion IsOther as_ → found_from (is_tagged a.place) place xs ≡ None
  no_stream place [] [] live others = refl
  no_stream place (x ∷ xs) (b ∷ as_) live others =
      if_false (x.tag == a.place) (Some (place, x)) (found_from (is_tagged a.place) (place + 1) xs) (ap (λ (k : ℕ). k == a.place) live.0.tag ∙ others.0)
      ∙ no_stream (place + 1) xs as_ live.1 others.1
  no_stream place [] (b ∷ as_) live others = absurd live
  no_stream place (x ∷ xs) [] live others = absurd live

  no_wait : (as_ : List Attempt) → AllByRecursion IsOther as_ → is_one_of (map (λ (b : Attempt). b.place) as_) a.place ≡ false
  no_wait [] others = refl
  no_wait (b ∷ as_) others = ap (λ (c : Bool). c || is_one_of (map (λ (q : Attempt). q.place) as_) a.place) others.0 ∙ no_wait as_ others.1

  pub cut_nothing : (w v : Wire) (g : ℕ → Line) → SeesStreams l s v g → w.live ≡ v.live → w.waiting ≡ v.waiting → cut w a.place cancel ≡ w
  cut_nothing w v g is live waiting =
      cut_free w a.place cancel
      (ap (found_from (is_tagged a.place) 0) live ∙ no_stream 0 v.live (by_stream (streaming_on l s)) is.sees.sees.live (none_streaming s a there places l off))
      (ap (λ (ns : List ℕ). is_one_of ns a.place) (waiting ∙ is.sees.waits) ∙ no_wait (waiting_on l s) (none_waiting s a there places l off))
