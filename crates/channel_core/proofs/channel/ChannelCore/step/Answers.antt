use Rattle.std.proofs.Common.{subst}
use Rattle.ledger_stamps.specs.Later.{Later}
use Rattle.channel_core.specs.Core.{CoreSeen, ledger_in, next_entry}
use Rattle.channel_core.proofs.Answering.{may_step}
use Rattle.channel_core.proofs.Stamping.{stamped_at}
use Rattle.channel_core.proofs.channel.ChannelCore.step.Goals as goal

pub returns-clause-may : goal.returns-clause-may
returns-clause-may g c = may_step _ _ _ _ _ _ _ c.in_ok-reply.ensures

pub returns-clause-stamped : goal.returns-clause-stamped
returns-clause-stamped g c =
    let P : CoreSeen → Type 0 = λ core. Later (next_entry core.journal.entries) (ledger_in core) c.step.new.self.book.ledger in
    subst P c.self.view_is (stamped_at c.len-entries.result c.self.inside.journal.entries _ _ _ _ _ _ c.len-entries.ensures c.in_ok-reply.ensures)
