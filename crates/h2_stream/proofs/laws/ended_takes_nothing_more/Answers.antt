use Rattle.std.proofs.Common.{refl}
use Rattle.h2_stream.specs.Steps.{reset_step}
use Rattle.h2_stream.proofs.Endings.{takes_no_content, takes_nothing}
use Rattle.h2_stream.proofs.laws.ended_takes_nothing_more.Goals as goal

pub returns-clause-content : goal.returns-clause-content
returns-clause-content c = takes_no_content

pub returns-clause-closed : goal.returns-clause-closed
returns-clause-closed c = takes_nothing

pub returns-clause-reset : goal.returns-clause-reset
returns-clause-reset c s events = takes_nothing (reset_step s) events refl
