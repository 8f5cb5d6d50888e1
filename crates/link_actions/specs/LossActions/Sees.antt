-- A link that is over, as a session knows it: the environment lost it, the peer broke a rule, or its SETTINGS did not come in time. The channel does
-- nothing on such a link any more, so there is no window, no queue and no table in which the two could differ: what is left are the attempts on it.
-- Example: a link with HEADERS of attempt 1 written, and attempt 2 waiting for a stream, is lost. Of attempt 1 nothing came that ends it: it ends by the
-- loss. So does attempt 2, which was never sent.
use Rattle.std.specs.Prelude.{None, Option, Some, false, is_some, true, ℕ, ◌≡◌}
use Rattle.attempt_ledger.specs.declared.news.EndNews.{EndNews}
use Rattle.link_actions.specs.Sees.{AttemptsStandInPlace}
use Rattle.session_actions.specs.AttemptEnds.{lost_end, unsent_end}
use Rattle.session_actions.specs.Responses.{limit_of_attempt}
use Rattle.session_actions.specs.Words.{numbered}
use Rattle.session_actions.specs.declared.attempt.Attempt.{Attempt}
use Rattle.session_actions.specs.declared.link.Link.{Link}
use Rattle.session_actions.specs.declared.response.Outcome.{Outcome}
use Rattle.session_actions.specs.declared.response.Response.{Response}
use Rattle.session_actions.specs.declared.seen.Seen.{Seen}
use Rattle.link_actions.specs.StreamActions.Laws.{IsOn}
use Rattle.link_actions.specs.StreamActions.Sees.{response_of}

-- a response that goes on
pub record IsGoing (p : Response) : Type 0 where
  pub goes : p.end ≡ None
  pub small : p.large ≡ false

-- a link that is over: the response of each attempt that is still on it goes on
pub record SeesOver (l : Link) (s : Seen) : Type 0 where
  pub at : numbered s.links l.number ≡ Some l
  pub over : is_some l.over ≡ true
  pub goes : (n : ℕ) (a : Attempt) → IsOn l s n a → IsGoing (response_of l s n a)
  pub places : AttemptsStandInPlace 1 s.attempts

-- how a link that is over ends an attempt: one that has a stream was lost, and one that has none was never sent (gRPC over HTTP/2, "Connection failure";
-- gRFC A6, "Transparent Retries")
abbrev pub loss_of : Option ℕ → Outcome
loss_of None = unsent_end
loss_of (Some stream) = lost_end

-- an outcome as a link reports it, with the bytes of the link that were read
abbrev pub end_news : Outcome → ℕ → EndNews
end_news o seen = record {
  code = o.code;
  text = o.text;
  meta = o.meta;
  pushback = o.pushback;
  unseen = o.unseen;
  seen = seen;
  cause = o.cause;
}

-- an attempt on a link that was on it before, with the same limit of its call
pub record WasOn (l : Link) (s t : Seen) (n : ℕ) (b : Attempt) : Type 0 where
  pub before : Attempt
  pub on : IsOn l s n before
  pub limit : limit_of_attempt b t ≡ limit_of_attempt before s
