use Rattle.std.proofs.Common.{refl, subst, sym}
use Rattle.shared_channel.proofs.PostLaws.{more_none, place_of, posts_of, words_on}
use Rattle.shared_channel.proofs.channel_seat.ChannelSeatPost.post.Goals as goal

pub returns-clause-place : goal.returns-clause-place
returns-clause-place g c =
    place_of (λ s. s.watched.core) _ _ _ _ _ _ _ _ _ _ _ _ _ (subst (g.C.Clock.may_give _) (sym c.moment_of.ensures) c.now.ensures.given)
    (λ a b ran. ran) (more_none _) refl c.turn-result.ensures.found c.turn-result.ensures.turn

pub returns-clause-made : goal.returns-clause-made
returns-clause-made g c = posts_of _ _ _ _ _ _ (returns-clause-place g c)

pub returns-clause-words : goal.returns-clause-words
returns-clause-words g c = words_on _ _ _ _ c.word-self.ensures.word c.word-self.ensures.rest
