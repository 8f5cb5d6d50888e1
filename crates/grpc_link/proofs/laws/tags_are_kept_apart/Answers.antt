use Rattle.grpc_link.proofs.TagLaws.{news_reported, others_stay, own_reader}
use Rattle.grpc_link.proofs.laws.tags_are_kept_apart.Goals as goal

pub returns : goal.returns
returns c = record { news = news_reported; own = own_reader; others = others_stay }
