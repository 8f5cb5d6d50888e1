use Rattle.std.proofs.Common.{ap, ◌∙◌, subst, map, string_bytes}
use Rattle.std.proofs.lemmas.Result.{IfOk-weaker}
use Rattle.clap.specs.Words.{App, FailsBy, fault_of, is_simple, is_simple_and_free, matches_of}
use Rattle.channel_top.specs.Words.{kinds_at}
use Rattle.channel_top.proofs.WordFaults.{is_free, is_plain}
use Rattle.channel_top.proofs.words.parse.Goals as goal

pub returns-clause-kinds : goal.returns-clause-kinds
unfolding kinds_at
returns-clause-kinds c =
    subst (λ (a : App). FailsBy (fault_of a (map string_bytes c.args.words.now)) c.try_get_matches_from.result) c.in_ok-command.ensures
    (c.try_get_matches_from.ensures.kinds (ap is_simple_and_free c.in_ok-command.ensures ∙ is_free c.args.name))

pub returns-clause-matches : goal.returns-clause-matches
returns-clause-matches c =
    IfOk-weaker c.try_get_matches_from.result _ _ (λ m h. (
    (h (ap is_simple c.in_ok-command.ensures ∙ is_plain c.args.name)).0
    ∙ ap (λ (a : App). matches_of a (map string_bytes c.args.words.now)) c.in_ok-command.ensures
    )) c.try_get_matches_from.ensures.matches
