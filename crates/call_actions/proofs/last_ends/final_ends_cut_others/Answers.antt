use Rattle.call_actions.proofs.LastEnds.FinalCuts.{final_ends_cut_others}
use Rattle.call_actions.proofs.last_ends.final_ends_cut_others.Goals as goal

pub returns : goal.returns
returns c = final_ends_cut_others
