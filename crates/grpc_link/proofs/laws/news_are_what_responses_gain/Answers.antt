use Rattle.grpc_link.proofs.ResponseLaws.{news_gained, over_reports_nothing, reader_then}
use Rattle.grpc_link.proofs.laws.news_are_what_responses_gain.Goals as goal

pub returns : goal.returns
returns c = record { news = news_gained; over = over_reports_nothing; reader = reader_then }
