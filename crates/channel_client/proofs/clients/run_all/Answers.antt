use Rattle.channel_client.proofs.ClientLaws.{ran_all}
use Rattle.channel_client.proofs.clients.run_all.Goals as goal

pub returns-clause-ran : goal.returns-clause-ran
returns-clause-ran g c = λ lock fresh. ran_all (λ h. h.seat) _ lock _ _ c.run_all_of.ensures.count c.run_all_of.ensures.each fresh
