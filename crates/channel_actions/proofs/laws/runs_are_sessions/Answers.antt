use Rattle.channel_actions.proofs.Running.{runs_are_sessions}
use Rattle.channel_actions.proofs.laws.runs_are_sessions.Goals as goal

pub returns : goal.returns
returns c =
    let going = c.calls_of_channels_go_on.ensures in
    let sound = c.calls_stay_sound.ensures in
    let buffers = c.buffers_stay_sound.ensures in
    runs_are_sessions c.policy_steps_are_actions.ensures.state c.subchannel_steps_are_actions.ensures.none c.subchannel_steps_are_actions.ensures.clock
    c.policy_steps_are_actions.ensures.over c.subchannel_steps_are_actions.ensures.wish c.new_channels_are_new_sessions.ensures
    c.entries_open_and_close.ensures.opens c.entries_open_and_close.ensures.closes
    (record {
      deadlines = λ x k.
          record {
            going = going.deadlines x k.going;
            calls = sound.deadlines x k.calls;
            buffers = buffers.deadlines x k.going k.buffers;
          };
      answers = λ refused e x y r by k.
          record {
            going = going.answers refused e x y r by k.going;
            calls = sound.answers refused e x y r by k.calls;
            buffers = buffers.answers refused e x y r by k.going k.buffers;
          };
      settlings = λ x k.
          record {
            going = going.settlings x k.going;
            calls = sound.settlings x k.calls;
            buffers = buffers.settlings x k.going k.buffers;
          };
      early = c.calls_are_kept.ensures.along;
      own = c.links_are_own.ensures.along;
    })
    (λ alloc authority policies. record {
      going = going.begins alloc authority policies;
      calls = sound.begins alloc authority policies;
      buffers = buffers.begins alloc authority policies;
    })
    c.calls_are_kept.ensures.begins c.links_are_own.ensures.begins
