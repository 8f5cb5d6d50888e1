use Rattle.std.proofs.Common.{None}
use Rattle.link_server.specs.Serves.{CountsSeen, GoesIn, GoesOut, HasCause}
use Rattle.link_server.proofs.serve.serve_link.Given as goal

-- what the turns so far moved; nothing has failed
abbrev pub invariant-loop : goal.invariant-loop
invariant-loop g l =
    let before : CountsSeen = record {
      breaks = g.V.Serving.breaks l.fn.core;
      last_code = g.V.Serving.last_code l.fn.core;
      read_faults = g.I.LinkIn.faults l.fn.input;
      write_faults = g.O.LinkOut.faults l.fn.output;
    } in
    let after : CountsSeen = record {
      breaks = g.V.Serving.breaks l.core;
      last_code = g.V.Serving.last_code l.core;
      read_faults = g.I.LinkIn.faults l.input;
      write_faults = g.O.LinkOut.faults l.output;
    } in
    record {
      into : GoesIn l.link (g.V.Serving.given l.fn.core) (g.V.Serving.given l.core) (g.I.LinkIn.left l.fn.input) (g.I.LinkIn.left l.input);
      out : GoesOut l.link (g.V.Serving.drained l.fn.core) (g.V.Serving.drained l.core) (g.O.LinkOut.taken l.fn.output) (g.O.LinkOut.taken l.output) None;
      cause : HasCause None before after (g.I.LinkIn.left l.input);
    }
