use Rattle.attempt_cases.proofs.ServeSteps.PlacedOnes.{placed_ones_agree}
use Rattle.attempt_cases.proofs.serve_steps.attempts_go_out.Goals as goal

goes : goal.returns-clause-agree
goes c =
    placed_ones_agree
    (record {
      frames = record {
        calls = c.calls_stay.ensures.all;
        columns = c.others_are_same.ensures.columns;
        sets = c.sets_stay.ensures;
        links = c.links_stay.ensures.all;
        no_difference = c.actions_make_no_difference.ensures.action;
        net = c.nets_stay.ensures.one;
        kept = c.sessions_are_kept.ensures.along;
      };
      tokens = c.calls_share_tokens_alone.ensures.stay;
      fair = c.books_are_kept.ensures.fair;
      turns = c.attempts_keep_turn.ensures.placed;
      dues = c.calls_go_on_alike.ensures.due;
      places = c.attempts_are_made_alike.ensures.placed;
      waits = c.placings_keep.ensures;
      gives = c.readers_come_and_open.ensures.placed;
    })

pub returns-clause-agree : goal.returns-clause-agree
returns-clause-agree c = goes c

pub returns-clause-places : goal.returns-clause-places
returns-clause-places c = c.places_by_agreement.ensures (goes c)
