use Rattle.channel_actions.proofs.HeldTexts.Fits.{unwritten_texts_are_whole}
use Rattle.channel_actions.proofs.held_texts.unwritten_texts_are_whole.Goals as goal

pub returns : goal.returns
returns c = unwritten_texts_are_whole
