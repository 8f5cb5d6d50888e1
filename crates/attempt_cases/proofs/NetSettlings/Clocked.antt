-- The clock of a settling: round by round until nothing of it is due.
use Rattle.std.proofs.Common.{◌≡◌, ap, refl, subst, sym, ◌∙◌, [], Option, ℕ}
use Rattle.channel_actions.specs.Agrees.{Agrees}
use Rattle.channel_actions.specs.Clock.{DrawsAlike}
use Rattle.channel_core.specs.States.{StateSeen}
use Rattle.channel_core.specs.Steps.{clocked}
use Rattle.channel_net.proofs.RoundLaws.{clock-ends}
use Rattle.channel_net.specs.Runs.{Clock}
use Rattle.channel_net.specs.Steps.{NetLeft, clocks_left, left_of, net_clocked}
use Rattle.attempt_cases.proofs.DialEvents.Nets.{one_call_more}
use Rattle.channel_actions.specs.KeptSessions.Laws.{KeptAlong}
use Rattle.channel_actions.specs.LinkFrames.Laws.{LinksStay}
use Rattle.net_actions.specs.Laws.{ClockChanges, ClockRests}
use Rattle.attempt_cases.proofs.NetSettlings.Clocking.{IsAmid, rounds_on}
use Rattle.attempt_cases.proofs.NetSettlings.Limits.{limits_form, slots_after, stamps_after, wanting}
use Rattle.attempt_cases.specs.NetSettlings.Laws.{ClocksAreParts}
use Rattle.channel_actions.proofs.BoardActions.Boards.{boards_leave_rest}
use Rattle.channel_actions.proofs.BoardActions.Quiescent.{of_order, to_order}
use Rattle.attempt_cases.proofs.NetSteps.Clocks.{clock_goes_on, now_goes_on}
use Rattle.attempt_cases.proofs.NetSteps.Stepped.{net_steps_keep}
use Rattle.attempt_cases.proofs.NetSteps.Subbed.{current_stays}
use Rattle.channel_actions.specs.BoardActions.Boards.{IsBoarded}
use Rattle.attempt_cases.specs.NetSteps.Steps.{netted}
use Rattle.call_cases.specs.OtherCalls.Laws.{AllCallsStay, SetsStay}
use Rattle.session_actions.specs.Entries.{now}
use Rattle.session_actions.specs.declared.entry.OpenEntry.{OpenEntry}
use Rattle.session_actions.specs.declared.seen.Seen.{Seen}
use Rattle.session_order.specs.Laws.{BoardsStir, QuiescenceIsExact}
use Rattle.subchannel.specs.Boards.{first_number}
use Rattle.subchannel.specs.Records.{is_due}

-- the channel after it
clocked_is : (x : StateSeen) → clocked x ≡ (let l : NetLeft = net_clocked x.book.moment x.net in
    netted l.net x.drawn (wanting l.gone x.resolver) (slots_after l.gone x.links) x.book.ledger.generations (stamps_after x.book.ledger.entry l.gone x.book.ledger.links) x)
unfolding clocked
clocked_is x =
    let l : NetLeft = net_clocked x.book.moment x.net in
    limits_form x l.net x.drawn x.book.ledger.generations l.gone x.resolver x.links x.book.ledger.links

pub clocks_are_parts : QuiescenceIsExact → BoardsStir → ClockChanges → ClockRests → AllCallsStay → SetsStay → KeptAlong → LinksStay → ClocksAreParts
clocks_are_parts exact stir clocks rests calls_stay sets_stay kept_along links_stay x o s h joined at begun =
    let l : NetLeft = net_clocked x.book.moment x.net in
    let y : StateSeen
    = netted l.net x.drawn (wanting l.gone x.resolver) (slots_after l.gone x.links) x.book.ledger.generations (stamps_after x.book.ledger.entry l.gone x.book.ledger.links) x in
    let base : IsAmid x o s (left_of x.net) s = record {
      actions = [];
      does = refl;
      board = tt;
      posts = refl;
      current = at.current;
      still = to_order exact o s at.quiescent;
      sees = h.net;
      generations = refl;
      joined = joined;
      links = record { count = h.links.count; each = λ n k e. let q = h.links.each n k e in record { slot = q.slot; there = q.there; sees = q.sees } };
      noted = h.columns.links;
    } in
    let end = rounds_on exact stir clocks kept_along links_stay x o s h at (clocks_left x.net.board) (left_of x.net) s base in
    let u : Seen = end.0 in
    let m : IsAmid x o s l u = end.1 in
    let boarded : IsBoarded s u = boards_leave_rest m.actions s u m.board m.does in
    let time : now u ≡ x.book.moment = now_goes_on s u o o boarded at.current m.current refl ∙ h.clock.moment in
    let agrees : Agrees y u = net_steps_keep calls_stay sets_stay kept_along x y s u h (record {
      channel = refl;
      actions = m.actions;
      does = m.does;
      board = m.board;
      clock = clock_goes_on s u o o boarded at.current m.current x y h.clock refl refl refl refl refl (subst (λ (c : Option OpenEntry). DrawsAlike c x) at.current h.clock.draws).1;
      generations = m.generations ∙ h.columns.generations;
      noted = m.noted;
      policy = λ held unshut. current_stays s u m.generations ∙ h.configs.policy held unshut;
      links = m.links;
      net = m.sees;
      orderly = one_call_more (Clock x.book.moment) x.net h.orderly;
    }) in
    record {
      reaches = record {
        actions = m.actions;
        seen = u;
        entry = o;
        does = m.does;
        posts = m.posts;
        same = record {
          moment = refl;
          word = refl;
          event = refl;
          entries = ap (λ (v : Seen). v.entries) boarded;
          setup = ap (λ (v : Seen). v.setup) boarded;
        };
        at = record { current = m.current; stage_is = at.stage_is; quiescent = of_order exact o u m.still };
        agrees = subst (λ (v : StateSeen). Agrees v u) (sym (clocked_is x)) agrees;
      };
      reply = refl;
      point = record {
        turn = begun.turn;
        clock = rests u l.net m.sees
            (ap (λ (w : ℕ). first_number (is_due w) l.net.board) time ∙ clock-ends x.book.moment (clocks_left x.net.board) (left_of x.net) refl);
      };
    }
