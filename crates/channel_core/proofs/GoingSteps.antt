-- What holds of each single thing that is done to a channel, but for what its applications send and finish and what its links take, holds of
-- a whole step without these: events, the settling, and all of it.
use Rattle.std.proofs.Common.{ℕ, Option, List}
use Rattle.grpc_base.specs.declared.address.Address.{Address}
use Rattle.grpc_base.specs.declared.event.Event.{Event}
use Rattle.grpc_base.specs.declared.event.Refusal.{Refusal}
use Rattle.grpc_base.specs.declared.event.Reply.{Reply}
use Rattle.grpc_base.specs.declared.kind.Kind.{Kind}
use Rattle.channel_core.specs.Applying as applying
use Rattle.channel_core.specs.Applying.{AnswersBy}
use Rattle.channel_core.specs.Settling as settling
use Rattle.channel_core.specs.States.{StateSeen}
use Rattle.channel_core.proofs.Going.{Configures, IsLocalActionInvariant, Gone, gone_with, rests}
use Rattle.channel_core.proofs.RestingSteps as resting

module _ (R : StateSeen → StateSeen → Type 0) (c : IsLocalActionInvariant R) where
  pub answered : (refused : Option Refusal) (e : Event) (s t : StateSeen) (r : Reply) → Gone R e → AnswersBy refused e s t r → R s t
  answered refused e s t r k g = resting.answered R (rests R c) refused e s t r (gone_with R c e k) g

  pub settle : (s : StateSeen) → Configures R → R s (settling.settled s)
  settle s f = resting.settle R (rests R c) s f

  -- a whole step, from where it begins
  pub walked : (entry moment word : ℕ) (e : Event) (old new : StateSeen) (r : Reply) → Configures R → Gone R e → applying.Stepped entry moment word e old new r → R (applying.begun_at entry moment word old) new
  walked entry moment word e old new r f k h = resting.walked R (rests R c) entry moment word e old new r f (gone_with R c e k) h
