use Rattle.std.proofs.Common.{refl}
use Rattle.live_run.specs.Sides.{seen_by}
use Rattle.live_run.proofs.SideLaws.{name_noted}
use Rattle.live_run.proofs.link_job.LinkJob.work.Goals as goal

pub returns-in-Name : goal.returns-in-Name
returns-in-Name g c =
    name_noted (seen_by g.H.Post.made g.H.Post.errors g.H.Post.last_error) g.H.Post.share g.H.Post.last_look g.N.Dialer.coming _ c.in-Name.job c.work-in-Name.new.self _ c.in-Name.is
    c.work-in-Name.ensures.end c.work-in-Name.ensures.posts c.work-in-Name.ensures.share refl c.note_end-in-Name.ensures.made c.note_end-in-Name.ensures.errors.0 c.note_end-in-Name.ensures.errors.1 c.note_end-in-Name.ensures.looks c.note_end-in-Name.ensures.share
