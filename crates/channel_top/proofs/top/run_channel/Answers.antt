use Rattle.channel_top.proofs.CompleteLaws.{completes}
use Rattle.channel_top.proofs.InputLaws.{asked_end, bad_end, good_end, wrong_end}
use Rattle.channel_top.proofs.RoomLaws.{short_runs}
use Rattle.channel_top.proofs.top.run_channel.Goals as goal

pub returns-clause-complete : goal.returns-clause-complete
returns-clause-complete g c =
    completes _ _ _ _ _ _ _ _ _ _ _ _ _ _ c.run_words.ensures.known c.run_words.ensures.words c.run_words.ensures.fault c.run_words.ensures.reading (λ five. (c.run_words.ensures.writing five).0)
    c.run_words.ensures.full c.run_words.ensures.not_listening

pub returns-clause-short : goal.returns-clause-short
returns-clause-short g c = λ runs short.
    completes _ _ _ _ _ _ _ _ _ _ _ _ _ _ c.run_words.ensures.known c.run_words.ensures.words c.run_words.ensures.fault c.run_words.ensures.reading (λ five. (c.run_words.ensures.writing five).0)
    c.run_words.ensures.full c.run_words.ensures.not_listening runs (short_runs _ _ short)

pub returns-clause-good : goal.returns-clause-good
returns-clause-good g c =
    good_end _ _ _ _ _ _ _ _ _ _ _ _ _ _ c.run_words.ensures.known c.run_words.ensures.words c.run_words.ensures.fault c.run_words.ensures.reading (λ five. (c.run_words.ensures.writing five).0)
    c.run_words.ensures.full c.run_words.ensures.not_listening

pub returns-clause-bad : goal.returns-clause-bad
returns-clause-bad g c =
    bad_end _ _ _ _ _ _ _ _ _ _ _ _ _ _ c.run_words.ensures.known c.run_words.ensures.done c.run_words.ensures.words c.run_words.ensures.reading (λ five. (c.run_words.ensures.writing five).0)
    c.run_words.ensures.full c.run_words.ensures.not_listening

pub returns-clause-asked : goal.returns-clause-asked
returns-clause-asked g c =
    asked_end _ _ _ _ _ _ _ _ _ _ _ _ _ _ c.run_words.ensures.known c.run_words.ensures.words c.run_words.ensures.fault c.run_words.ensures.reading (λ five. (c.run_words.ensures.writing five).0)
    c.run_words.ensures.full c.run_words.ensures.not_listening

pub returns-clause-wrong : goal.returns-clause-wrong
returns-clause-wrong g c =
    wrong_end _ _ _ _ _ _ _ _ _ _ _ _ _ _ c.run_words.ensures.known c.run_words.ensures.done c.run_words.ensures.fault c.run_words.ensures.reading (λ five. (c.run_words.ensures.writing five).0)
    c.run_words.ensures.full c.run_words.ensures.not_listening
