use Rattle.std.proofs.Common.{rules, inl, inr, refl}
use Rattle.live_pump.specs.Runs.{Eyes, eyes_of}
use Rattle.live_pump.proofs.RunLaws.{reads_on, same_tender, writes_on}
use Rattle.live_pump.proofs.link_turn.pump_link.Goals as goal

pub returns-then-not-is_going-clause-pumped : goal.returns-then-not-is_going-clause-pumped
returns-then-not-is_going-clause-pumped g c = inl (record {
  over = search rules;
  number = refl;
  writes = c.send_link-wrote.ensures.posted;
  input = refl;
  tender = refl;
})

pub returns-then-not-is_going-2-clause-pumped : goal.returns-then-not-is_going-2-clause-pumped
returns-then-not-is_going-2-clause-pumped g c =
    let eyes : Eyes g.row.P.Denot g.row.T.Denot g.row.I.Denot g.row.O.Denot = eyes_of g.P.Post.made g.P.Post.errors g.P.Post.last_error g.P.Post.last_look g.T.Tender.turns g.T.Tender.last_turn
    g.I.LinkIn.left g.I.LinkIn.faults g.I.LinkIn.quiet g.O.LinkOut.taken g.O.LinkOut.faults g.O.LinkOut.closed in
    inr (inl (record {
      over = search rules;
      number = refl;
      wrote = c.send_link-wrote.new.post;
      writes = writes_on eyes c.args.kept.now.link c.args.post.now c.args.kept.now.output c.send_link-wrote.new.post c.send_link-wrote.new.output c.send_link-wrote.result (search rules) c.send_link-wrote.ensures.posted;
      reads = c.read_link-read.ensures.posted;
      turns = same_tender _ _ _ _ c.notify_tender.ensures.0 c.notify_tender.ensures.1;
    }))

pub returns-clause-pumped : goal.returns-clause-pumped
returns-clause-pumped g c =
    let eyes : Eyes g.row.P.Denot g.row.T.Denot g.row.I.Denot g.row.O.Denot = eyes_of g.P.Post.made g.P.Post.errors g.P.Post.last_error g.P.Post.last_look g.T.Tender.turns g.T.Tender.last_turn
    g.I.LinkIn.left g.I.LinkIn.faults g.I.LinkIn.quiet g.O.LinkOut.taken g.O.LinkOut.faults g.O.LinkOut.closed in
    inr (inr (record {
      number = refl;
      wrote = c.send_link-wrote.new.post;
      read = c.read_link-read.new.post;
      reported = c.notify_tender.new.tender;
      writes = writes_on eyes c.args.kept.now.link c.args.post.now c.args.kept.now.output c.send_link-wrote.new.post c.send_link-wrote.new.output c.send_link-wrote.result (search rules) c.send_link-wrote.ensures.posted;
      reads = reads_on eyes c.args.kept.now.link c.send_link-wrote.new.post c.args.kept.now.input c.read_link-read.new.post c.read_link-read.new.input c.read_link-read.result.0 (search rules) c.read_link-read.ensures.posted;
      turns = same_tender _ _ _ _ c.notify_tender.ensures.0 c.notify_tender.ensures.1;
      asks = (
        c.tend_link.ensures.posted.0,
        c.tend_link.ensures.posted.1,
        same_tender _ _ _ _ c.tend_link.ensures.turns c.tend_link.ensures.posted.3,
        c.tend_link.ensures.posted.4,
      );
    }))
