use Rattle.run_cases.proofs.WholeRuns.Arrivals.{FrameLaws}
use Rattle.run_cases.proofs.WholeRuns.Events.{EventLaws}
use Rattle.run_cases.proofs.WholeRuns.Whole.{every_run_is_a_session}
use Rattle.run_cases.proofs.whole_runs.every_run_is_a_session.Goals as goal

pub returns : goal.returns
returns c =
    let laws : EventLaws = record {
      begins = c.begins_are_answered.ensures;
      sends = c.all_sends_are_answered.ensures;
      finishes = c.finishes_are_answered.ensures;
      takes = c.takes_are_answered.ensures;
      cancels = c.open_cancels_are_answered.ensures;
      late_cancels = c.late_cancels_are_refused.ensures;
      bad_results = c.some_results_are_answered.ensures.bad;
      dials = c.dials_are_answered.ensures.taken;
      failures = c.dials_are_answered.ensures.failed;
      links = c.dials_are_answered.ensures.up;
      drains = c.known_drains_are_answered.ensures;
      pings = c.pings_are_queued.ensures;
      shutdowns = c.known_shutdowns_are_answered.ensures;
      second_shutdowns = c.some_results_are_answered.ensures.shut;
      lost = c.lost_links_are_answered.ensures;
      ends = c.one_attempt_ends.ensures;
      rise = c.runs_rise.ensures.sessions;
      each = c.buffers_stay_sound.ensures.each;
      results = c.known_results_are_answered.ensures;
      near = c.deadlines_are_near.ensures.known;
      up = c.links_are_few.ensures.links;
      dialled = c.links_are_few.ensures.dials;
      streams = c.streams_are_few.ensures;
      few = c.attempts_are_few.ensures;
    } in
    let frames : FrameLaws = record {
      arrivals = c.arrivals_are_answered.ensures;
      kinds = c.frames_by_kinds.ensures;
      ended = c.ended_frames_are_handled.ensures;
      large = c.large_frames_are_handled.ensures;
      heads = c.heads_are_handled.ensures;
      messages = c.messages_are_handled.ensures;
      prefaced = c.first_settings_are_handled.ensures;
      goaways = c.retired_links_are_handled.ensures;
      breaks = c.broken_links_are_handled.ensures;
    } in
    every_run_is_a_session laws frames c.deadlines_are_done.ensures c.clocks_and_wishes_are_steps.ensures.clock c.take_overs_are_steps.ensures
    c.attempts_go_out.ensures.places c.settlings_stand.ensures.settling c.nets_may_ask.ensures c.last_is_withheld.ensures c.fails_follow.ensures c.runs_are_sessions.ensures
