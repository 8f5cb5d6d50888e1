use Rattle.std.proofs.Common.{rules, ◌∙◌, ◌++◌, ◌∷◌, [], append-nil, refl, sym}
use Rattle.live_channel.proofs.GivenLaws.{all_given, one_given, one_taken}
use Rattle.live_channel.proofs.context.add_nets.Goals as goal

pub loop-dialer-init : goal.loop-dialer-init
loop-dialer-init g c = record {
  lock = refl;
  most = search rules;
  parts = search rules;
  splits = λ start begun. begun;
  given = ([], search rules, sym (append-nil _));
}

pub loop-dialer-preserved : goal.loop-dialer-preserved
loop-dialer-preserved g c = record {
  lock = c.add_net.ensures.lock ∙ c.loop-dialer.invariant.lock;
  most = search rules;
  parts = search rules;
  splits = λ start begun. c.in_ok-add_net.ensures.splits start (c.loop-dialer.invariant.splits start begun);
  given = (
    c.loop-dialer.invariant.given.0 ++ c.in-Some.dialer ∷ [],
    one_taken c.args.dialers.items c.loop-dialer.invariant.given.0 _ _ c.in-Some.dialer c.loop-dialer.invariant.given.1 (search rules),
    one_given g.N.Dialer.coming _ _ _ c.loop-dialer.invariant.given.0 c.in-Some.dialer c.loop-dialer.invariant.given.2 c.in_ok-add_net.ensures.keepers,
  );
}

pub returns-then-left-eq0-clause-keepers : goal.returns-then-left-eq0-clause-keepers
returns-then-left-eq0-clause-keepers g c = all_given g.N.Dialer.coming _ _ c.args.dialers.items c.loop-dialer.invariant.given.0 _ c.loop-dialer.invariant.given.1 c.loop-dialer.invariant.given.2

pub returns-clause-keepers : goal.returns-clause-keepers
returns-clause-keepers g c = all_given g.N.Dialer.coming _ _ c.args.dialers.items c.loop-dialer.invariant.given.0 _ c.loop-dialer.invariant.given.1 c.loop-dialer.invariant.given.2
