use Rattle.call_actions.proofs.CallsApart.Books.{tokens_are_shared, tokens_stay}
use Rattle.call_actions.proofs.calls_apart.calls_share_tokens_alone.Goals as goal

pub returns-clause-stay : goal.returns-clause-stay
returns-clause-stay c = tokens_stay

pub returns-clause-shared : goal.returns-clause-shared
returns-clause-shared c = tokens_are_shared
