use Rattle.channel_client.proofs.ClientLaws.{client_ones, clients_done}
use Rattle.channel_client.proofs.clients.Clients+ChannelSeat+P+R+C+D+J.run.Goals as goal

pub take_in_clients-self-requires-clause-ones : goal.take_in_clients-self-requires-clause-ones
take_in_clients-self-requires-clause-ones g c κs within = client_ones _ _ _ _ (c.run_all.ensures.ran _ c.requires.fresh)

pub returns : goal.returns
returns g c = record {
  done =
      clients_done (λ h. h.seat) _ _ _ _ c.run_all.new.jobs.items c.run_all.ensures.count (c.run_all.ensures.ran _ c.requires.fresh) c.take_in_clients-self.ensures.works c.take_in_clients-self.ensures.taken c.shut_down-self.ensures;
}
