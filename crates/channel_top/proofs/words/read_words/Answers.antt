use Rattle.std.proofs.Common.{map, string_bytes}
use Rattle.channel_top.proofs.WordFaults.{names_no_mode, refused_here, taken_here, wrong_of_refused, wrong_of_taken}
use Rattle.channel_top.proofs.words.read_words.Goals as goal

pub returns-in-Some : goal.returns-in-Some
returns-in-Some c = wrong_of_taken _ (taken_here _ _ c.mode_of-name.ensures c.in-Ok.ensures.kinds) c.in-None-taken_mode.ensures.none

pub returns-in-Ok : goal.returns-in-Ok
returns-in-Ok c =
    wrong_of_taken _ (taken_here _ _ c.mode_of-name.ensures c.in-Ok.ensures.kinds)
    (names_no_mode _ c.mode_of-name.result c.mode_of-name.ensures c.in-None.is)

pub returns : goal.returns
returns c =
    wrong_of_refused _ c.kind.result c.in_default.not-OutOfMemory c.in_default.not-DisplayHelp c.in_default.not-DisplayVersion
    (refused_here (map string_bytes c.args.words.now) _ c.kind.result c.in-Err.answer c.mode_of-name.ensures c.kind.ensures c.in-Err.ensures.kinds)
