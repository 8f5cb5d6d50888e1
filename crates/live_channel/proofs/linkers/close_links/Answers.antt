use Rattle.std.proofs.Common.{◌∙◌, ap, sym}
use Rattle.grpc_base.specs.declared.event.Entry.{Entry}
use Rattle.turn_lock.specs.History.{SeatSeen}
use Rattle.live_channel.specs.Handles.{handle_in}
use Rattle.live_channel.proofs.OwnLaws.{parts_taken}
use Rattle.live_channel.proofs.ShareLaws.{graver_whole, leaves_by}
use Rattle.live_channel.proofs.linkers.close_links.Goals as goal

pub returns-clause-parts : goal.returns-clause-parts
returns-clause-parts g c =
    parts_taken (λ h. h.seat) handle_in c.args.closer.seat c.take_in_linkers.new.closer.seat c.into_seat.result c.args.links.jobs.items (ap (λ (s : SeatSeen Entry). s.parts) c.into_seat.ensures) c.take_in_linkers.ensures

pub returns-clause-leaves : goal.returns-clause-leaves
returns-clause-leaves g c = λ keepers owns seen own all closes. leaves_by _ keepers _ _ _ owns seen own _ _ _ _ c.with.ensures c.into_seat.ensures closes all c.take_in_linkers.ensures

pub returns-clause-worse : goal.returns-clause-worse
returns-clause-worse g c = λ whole. (graver_whole _ _ (sym c.with.ensures ∙ whole)).0
