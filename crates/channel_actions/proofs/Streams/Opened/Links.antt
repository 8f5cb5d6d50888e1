-- The links, where something was written on one of them: of each what a line looks at is as before.
use Rattle.std.proofs.Common.{◌≡◌, ◌||◌, ◌==◌, ap, refl, subst, sym, ◌∙◌, Bool, true, false, List, Option, None, Some, ℕ, is_some}
use Rattle.std.proofs.lemmas.Bool.{eqb-false, eqb-true}
use Rattle.std.specs.Option.{option_and_then, option_map, option_map_or}
use Rattle.attempt_ledger.specs.declared.row.Placed.{Placed}
use Rattle.call_actions.proofs.Lists.{changed_away, changed_map}
use Rattle.session_actions.specs.Links.{has_settings, has_written_end, is_retiring}
use Rattle.session_actions.specs.Responses.{no_response, response_in, traffic_of}
use Rattle.session_actions.specs.Words.{changed, holds, numbered}
use Rattle.session_actions.specs.declared.attempt.Attempt.{Attempt}
use Rattle.session_actions.specs.declared.link.Link.{Link}
use Rattle.session_actions.specs.declared.link.LinkOver.{LinkOver}
use Rattle.session_actions.specs.declared.link.Sent.{Sent}
use Rattle.session_actions.specs.declared.response.Response.{Response}
use Rattle.channel_actions.proofs.Streams.Opened.Responses.{IsLike, like_self, retiring_same, settings_same, traffic_like, with_sent, written_stays}

pub record IsSentLink (k m : Link) : Type 0 where
  pub over : m.over ≡ k.over
  pub retiring : is_retiring m ≡ is_retiring k
  pub settings : has_settings m ≡ has_settings k
  pub written : (n : ℕ) → has_written_end n k ≡ true → has_written_end n m ≡ true
  pub came : (limit n : ℕ) (a : Attempt) → IsLike (response_in limit n (traffic_of a k.traffic)) (response_in limit n (traffic_of a m.traffic))

abbrev pub IsLinkLike : Option Link → Option Link → Type 0
IsLinkLike None None = Unit {0}
IsLinkLike (Some k) (Some m) = IsSentLink k m
IsLinkLike _ _ = ⊥

sent_one : (x : Sent) (k : Link) → IsSentLink k (with_sent x k)
sent_one x k = record {
  over = refl;
  retiring = retiring_same x k;
  settings = settings_same x k;
  written = λ n e. written_stays x n k e;
  came = λ limit n a. traffic_like limit n a k.traffic x;
}

sent_self : (k : Link) → IsSentLink k k
sent_self k = record { over = refl; retiring = refl; settings = refl; written = λ n e. e; came = λ limit n a. like_self (response_in limit n (traffic_of a k.traffic)) }

like_map : (x : Sent) (o : Option Link) → IsLinkLike o (option_map (with_sent x) o)
like_map x None = tt
like_map x (Some k) = sent_one x k

like_same : (o : Option Link) → IsLinkLike o o
like_same None = tt
like_same (Some k) = sent_self k

module _ (x : Sent) (n : ℕ) (ls : List Link) where
  at_by : (k : ℕ) (b : Bool) → (k == n) ≡ b → IsLinkLike (numbered ls k) (numbered (changed (with_sent x) n ls) k)
  at_by k true e =
      subst (λ (j : ℕ). IsLinkLike (numbered ls j) (numbered (changed (with_sent x) n ls) j)) (sym (eqb-true k n e))
      (subst (IsLinkLike (numbered ls n)) (sym (changed_map (with_sent x) n ls)) (like_map x (numbered ls n)))
  at_by k false e = subst (IsLinkLike (numbered ls k)) (sym (changed_away (with_sent x) n k ls (eqb-false k n e))) (like_same (numbered ls k))

  pub link_like : (k : ℕ) → IsLinkLike (numbered ls k) (numbered (changed (with_sent x) n ls) k)
  link_like k = at_by k (k == n) refl

  pub number_like : (o : Option ℕ) → IsLinkLike (option_and_then (numbered ls) o) (option_and_then (numbered (changed (with_sent x) n ls)) o)
  number_like None = tt
  number_like (Some k) = link_like k

  pub placed_like : (o : Option Placed)
      → IsLinkLike (option_and_then (λ (at : Placed). numbered ls at.link) o) (option_and_then (λ (at : Placed). numbered (changed (with_sent x) n ls) at.link) o)
  placed_like None = tt
  placed_like (Some at) = link_like at.link

-- tests of a link
pub settings_like : (o p : Option Link) → IsLinkLike o p → holds has_settings p ≡ holds has_settings o
settings_like None None e = refl
settings_like (Some k) (Some m) e = e.settings
settings_like None (Some m) e = absurd e
settings_like (Some k) None e = absurd e

pub down_like : (o p : Option Link) → IsLinkLike o p → holds (λ (l : Link). is_some l.over || is_retiring l) p ≡ holds (λ (l : Link). is_some l.over || is_retiring l) o
down_like None None e = refl
down_like (Some k) (Some m) e =
    ap (λ (o : Option LinkOver). is_some o || is_retiring m) e.over ∙ ap (λ (b : Bool). is_some k.over || b) e.retiring
down_like None (Some m) e = absurd e
down_like (Some k) None e = absurd e

-- the response on a stream
abbrev pub came_on : Attempt → ℕ → ℕ → Option Link → Response
came_on a limit n o = option_map_or (λ (l : Link). response_in limit n (traffic_of a l.traffic)) o no_response

pub came_like : (a : Attempt) (limit n : ℕ) (o p : Option Link) → IsLinkLike o p → IsLike (came_on a limit n o) (came_on a limit n p)
came_like a limit n None None e = like_self no_response
came_like a limit n (Some k) (Some m) e = e.came limit n a
came_like a limit n None (Some m) e = absurd e
came_like a limit n (Some k) None e = absurd e
