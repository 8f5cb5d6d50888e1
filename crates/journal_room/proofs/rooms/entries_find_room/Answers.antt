use Rattle.journal_room.proofs.DrainLaws.{within_always}
use Rattle.journal_room.proofs.RoomLaws.{room_more, step_room}
use Rattle.journal_room.proofs.rooms.entries_find_room.Goals as goal

pub returns : goal.returns
returns c = record {
  step = step_room;
  more = room_more;
  drains = within_always;
}
