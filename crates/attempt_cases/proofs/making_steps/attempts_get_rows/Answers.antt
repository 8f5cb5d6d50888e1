use Rattle.attempt_cases.proofs.MakingSteps.Making.{rows_are_made}
use Rattle.attempt_cases.proofs.making_steps.attempts_get_rows.Goals as goal

pub returns : goal.returns
returns c =
    rows_are_made c.calls_share_tokens_alone.ensures.stay c.books_are_kept.ensures.fair c.attempts_keep_turn.ensures.made c.calls_go_on_alike.ensures.due
