use Rattle.call_cases.proofs.ConfiguredCalls.Configured.{calls_get_configs}
use Rattle.call_cases.proofs.configured_calls.calls_get_configs.Goals as goal

pub returns : goal.returns
returns c = calls_get_configs c.calls_share_tokens_alone.ensures.stay c.books_are_kept.ensures.fair c.calls_start_in_order.ensures.start c.calls_go_on_alike.ensures.due
