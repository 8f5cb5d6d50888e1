use Rattle.link_actions.proofs.ReaderActions.Goaways as readers
use Rattle.link_actions.proofs.ResetActions.Goaways as resets
use Rattle.link_actions.proofs.ResetActions.Owing as owing
use Rattle.frame_cases.proofs.RetiredLinks.Received as handled
use Rattle.frame_cases.proofs.retired_links.retired_links_are_handled.Goals as goal

pub returns : goal.returns
returns c =
    handled.retired_links_are_handled c.buffers_stay_sound.ensures.each c.runs_rise.ensures.sessions c.ends_stay_held.ensures
    (λ row reported moment word s g. record {
      kept = c.calls_are_kept.ensures.handled row reported moment word s g.kept;
      going = c.calls_go_on.ensures.handled row reported moment word s g.kept g.going;
    })
    resets.goaways_go_ahead owing.goaways_owe_resets readers.goaways_leave_readers
