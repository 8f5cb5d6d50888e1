use Rattle.live_pump.proofs.rounds.make_rounds.Goals as goal

pub returns-clause-run : goal.returns-clause-run
returns-clause-run g c = record {
  left = c.run_rounds-end.new.links.items;
  closed = c.close_links.new.links.items;
  runs = c.run_rounds-end.ensures.run;
  same_many = c.close_links.ensures.same_many;
  all_closed = c.close_links.ensures.closed;
}
