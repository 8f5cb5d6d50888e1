use Rattle.channel_actions.proofs.HeldTexts.Fits.{deadlines_keep_texts, new_texts_fit, settlings_keep_texts}
use Rattle.channel_actions.proofs.HeldTexts.Sends.{answers_keep_texts}
use Rattle.channel_actions.proofs.held_texts.texts_fit.Goals as goal

pub returns : goal.returns
returns c = record {
  begins = new_texts_fit;
  deadlines = deadlines_keep_texts;
  answers = answers_keep_texts;
  settlings = settlings_keep_texts;
}
