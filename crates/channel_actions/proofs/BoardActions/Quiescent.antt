-- Quiescent in the words of lines that give nothing, and of lines that are still.
use Rattle.channel_actions.specs.Quiescent.{IsQuiescent}
use Rattle.session_actions.specs.declared.entry.OpenEntry.{OpenEntry}
use Rattle.session_actions.specs.declared.seen.Seen.{Seen}
use Rattle.session_order.specs.Quiescent as order
use Rattle.session_order.specs.Laws.{QuiescenceIsExact}

pub to_order : QuiescenceIsExact → (o : OpenEntry) (s : Seen) → IsQuiescent o s → order.IsQuiescent o s
to_order exact o s c = (exact o s).0 (c.calls, c.links, c.policies)

pub of_order : QuiescenceIsExact → (o : OpenEntry) (s : Seen) → order.IsQuiescent o s → IsQuiescent o s
of_order exact o s c = let back = (exact o s).1 c in record { calls = back.0; links = back.1; policies = back.2 }
