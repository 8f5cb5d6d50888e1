use Rattle.keepalive_core.proofs.TableLaws.{asked_by, changed_keeps, opened_keeps}
use Rattle.keepalive_core.proofs.laws.links_are_kept_apart.Goals as goal

pub returns : goal.returns
returns c = record { changed = changed_keeps; opened = opened_keeps; asked = asked_by }
