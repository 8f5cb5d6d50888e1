-- The link was found, and what the frame makes the client queue was reported of it.
use Rattle.std.proofs.Common.{◌≡◌, ◌∙◌, OnOk, Some, subst, sym}
use Rattle.std.specs.Prelude.{List, option_map}
use Rattle.h2_frame.specs.Frames.{FrameSeen}
use Rattle.session_actions.specs.Links.{with_link}
use Rattle.session_actions.specs.Words.{numbered}
use Rattle.session_actions.specs.declared.seen.Seen.{Seen}
use Rattle.session_actions.specs.Writing.{with_frame_read}
use Rattle.slow_session.proofs.FrameLaws.{read_some}
use Rattle.slow_session.specs.Frames.{owed_on}
use Rattle.slow_session.proofs.frames.frame_read.Goals as goal

pub returns-in-Some : goal.returns-in-Some
returns-in-Some c =
    let s = c.args.seen.now in
    let same : Some c.in-Some.owed ≡ option_map (owed_on c.args.read.frame s) (numbered s.links c.args.link) =
    sym c.in-Some.is ∙ c.in_ok-owed.ensures in
    subst (λ (t : Seen). OnOk c.frame_read.result (c.frame_read.new.seen ≡ t))
    (read_some c.args.read s (numbered s.links c.args.link) c.in-Some.owed same)
    (subst (λ (fs : List FrameSeen). OnOk c.frame_read.result (c.frame_read.new.seen ≡ with_link (with_frame_read c.args.read fs) c.in-Some.owed.link s))
    c.into_vec.ensures c.frame_read.ensures)
