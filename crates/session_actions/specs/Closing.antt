-- An entry is made where nothing is left to do. Its state is that of the channel ("gRPC Connectivity Semantics and API").
-- Example: entry 12 is the loss of link 1, of the only subchannel, under pick_first. The subchannel becomes IDLE and then CONNECTING, which is the
-- state of entry 12, and link 1 is gone from entry 12 on.
use Rattle.std.specs.Prelude.{None, Some, [], if◌then◌else◌, is_none, map, unwrap_or, ◌&&◌, ◌++◌, ◌∷◌}
use Rattle.grpc_base.specs.declared.event.Entry.{Entry}
use Rattle.session_actions.specs.Entries.{entry}
use Rattle.session_actions.specs.Policies.{channel_state}
use Rattle.session_actions.specs.Refusals.{is_gone}
use Rattle.session_actions.specs.declared.entry.OpenEntry.{OpenEntry}
use Rattle.session_actions.specs.declared.link.Link.{Link}
use Rattle.session_actions.specs.declared.seen.Seen.{Seen}
use Rattle.grpc_base.specs.declared.event.Reply.TheVariants as reply

-- the entry, with the channel's state after it; a link that is gone by now, and was not before, is gone from this entry on. It
-- stays so: its subchannel no longer has it, so no further attempt is placed on it. The reply Done is no default: an entry that closes was answered
abbrev pub made_entry : OpenEntry → Seen → Entry
made_entry o s = record {
  moment = o.moment;
  word = o.word;
  event = o.event;
  reply = unwrap_or o.reply reply.Done;
  state = channel_state s;
}

abbrev pub noted_gone : Seen → Link → Link
noted_gone s l = if is_none l.gone && is_gone l s then record l { gone = Some (entry s) } else l

abbrev pub entry_made : OpenEntry → Seen → Seen
entry_made o s = record s { entries = s.entries ++ made_entry o s ∷ []; current = None; links = map (noted_gone s) s.links }
