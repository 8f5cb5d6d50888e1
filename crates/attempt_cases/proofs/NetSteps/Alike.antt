-- No link notices actions of subchannels and policies, where it is itself as it was: its attempts and their calls are the same.
use Rattle.std.proofs.Common.{◌≡◌, ◌≤◌, ◌∷◌, ap, arith, refl, subst, sym, ◌∙◌, false, List, [], ℕ, length}
use Rattle.channel_core.specs.declared.state.links.LinkSlot.{LinkSlot}
use Rattle.grpc_frame.specs.Messages.{framed_all}
use Rattle.channel_actions.specs.LinkFrames.Alike.{AttemptsAreAlike, SeesNoDifference, IsLinkStill, Numbers}
use Rattle.channel_actions.specs.LinkFrames.Laws.{LinksStay}
use Rattle.channel_actions.specs.BoardActions.Boards.{boarded}
use Rattle.attempt_cases.specs.NetSteps.Laws.{LinksSeeNoDifference, LinksWithoutDifferenceAgree}
use Rattle.session_actions.specs.Words.{numbered}
use Rattle.session_actions.specs.declared.attempt.Attempt.{Attempt}
use Rattle.session_actions.specs.declared.link.Link.{Link}
use Rattle.session_actions.specs.declared.seen.Seen.{Seen}

at_most : (n : ℕ) → n ≤ n
at_most n = let e : n ≤ n = omega arith in e

all_alike : (touched : Numbers) (s t : Seen) (xs : List Attempt) → AttemptsAreAlike touched s (boarded s t) xs xs
all_alike touched s t [] = tt
all_alike touched s t (a ∷ xs) = (
  record {
    place = refl;
    on = λ link off. refl;
    still = λ link off is. record { stream = refl; calls = λ c e. record { call = c; is = e; limit = refl; more = at_most (length (framed_all c.messages)) } };
  },
  all_alike touched s t xs,
)

pub links_see_no_difference : LinksSeeNoDifference
links_see_no_difference touched s t e each =
    let there : SeesNoDifference touched s (boarded s t) = record {
      links = λ link m off at. each link m off (ap (λ (v : Seen). numbered v.links link) e ∙ at);
      attempts = all_alike touched s t s.attempts;
    } in
    subst (SeesNoDifference touched s) (sym e) there

pub still : (l : Link) → IsLinkStill l l
still l = record { same = record { number = refl; traffic_ = refl; owed = refl }; over = refl; received = refl }

pub links_without_difference_agree : LinksStay → LinksWithoutDifferenceAgree
links_without_difference_agree links_stay x y s t kept later e same slots h =
    links_stay (λ link. false) x y s t h kept later (λ link off. ap (λ (l : List LinkSlot). numbered l link) slots)
    (links_see_no_difference (λ link. false) s t e (λ link m off at. (m, ap (λ (l : List Link). numbered l link) (sym same) ∙ at, still m)))
    (ap (λ (l : List Link). length l) same ∙ h.count ∙ sym (ap (λ (l : List LinkSlot). length l) slots))
    (λ link l on. absurd (cc))
