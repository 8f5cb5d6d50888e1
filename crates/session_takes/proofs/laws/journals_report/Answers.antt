use Rattle.session_takes.proofs.Between.{journals_report_first, journals_report_whole}
use Rattle.session_takes.proofs.Journals.{journals_report}
use Rattle.session_takes.proofs.laws.journals_report.Goals as goal

pub returns-clause-taken : goal.returns-clause-taken
returns-clause-taken c = journals_report

pub returns-clause-first : goal.returns-clause-first
returns-clause-first c = journals_report_first

pub returns-clause-whole : goal.returns-clause-whole
returns-clause-whole c = journals_report_whole
