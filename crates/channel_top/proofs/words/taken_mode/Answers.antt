use Rattle.channel_top.proofs.WordFaults.{live_none, live_some, load_none, load_some, relay_none, relay_some, serve_none, serve_some}
use Rattle.channel_top.proofs.words.taken_mode.Goals as goal

pub returns-in-Serve-clause-some : goal.returns-in-Serve-clause-some
returns-in-Serve-clause-some c = serve_some c.args.name _ _ c.serve_of.result c.in-Serve.is c.requires.name c.requires.taken c.requires.matches c.serve_of.ensures.some

pub returns-in-Serve-clause-none : goal.returns-in-Serve-clause-none
returns-in-Serve-clause-none c = serve_none c.args.name _ _ c.serve_of.result c.in-Serve.is c.requires.name c.requires.matches c.serve_of.ensures.none

pub returns-in-Load-clause-some : goal.returns-in-Load-clause-some
returns-in-Load-clause-some c = load_some c.args.name _ _ c.load_of.result c.in-Load.is c.requires.name c.requires.taken c.requires.matches c.load_of.ensures.some

pub returns-in-Load-clause-none : goal.returns-in-Load-clause-none
returns-in-Load-clause-none c = load_none c.args.name _ _ c.load_of.result c.in-Load.is c.requires.name c.requires.matches c.load_of.ensures.none

pub returns-in-Live-clause-some : goal.returns-in-Live-clause-some
returns-in-Live-clause-some c = live_some c.args.name _ _ c.live_of.result c.in-Live.is c.requires.name c.requires.taken c.requires.matches c.live_of.ensures.some

pub returns-in-Live-clause-none : goal.returns-in-Live-clause-none
returns-in-Live-clause-none c = live_none c.args.name _ _ c.live_of.result c.in-Live.is c.requires.name c.requires.matches c.live_of.ensures.none

pub returns-in-Relay-clause-some : goal.returns-in-Relay-clause-some
returns-in-Relay-clause-some c = relay_some c.args.name _ _ c.relay_of.result c.in-Relay.is c.requires.name c.requires.taken c.requires.matches c.relay_of.ensures.some

pub returns-in-Relay-clause-none : goal.returns-in-Relay-clause-none
returns-in-Relay-clause-none c = relay_none c.args.name _ _ c.relay_of.result c.in-Relay.is c.requires.name c.requires.matches c.relay_of.ensures.none
