-- The channel but for its journal, as contracts see it.
use Rattle.std.specs.Prelude.{ℕ, Bool, Option, List}
use Rattle.grpc_base.specs.declared.event.Reply.{Reply}
use Rattle.service_config.specs.declared.config.Config.{Config}
use Rattle.channel_net.specs.Steps.{NetSeen}
use Rattle.channel_core.specs.declared.state.book.Book.{Book}
use Rattle.channel_core.specs.declared.state.links.LinkSlot.{LinkSlot}

pub record StateSeen : Type 0 where
  -- the random word of the step, and how many draws it made
  pub word : ℕ
  pub drawn : ℕ
  pub shut : Bool
  -- whether a result of the resolver is wanted
  pub resolver : Bool
  -- the last valid config; and whether there is none and the resolver failed or gave an invalid one
  pub held : Option Config
  pub unconfigured : Bool
  pub book : Book
  pub net : NetSeen
  pub links : List LinkSlot
  -- the outstanding attempts by link and row; those that wait for a pick, by call and row
  pub outstanding : List (ℕ × ℕ)
  pub queue : List (ℕ × ℕ)
  pub ready_waiters : List (ℕ × ℕ)
  -- due moments and deadlines with their calls
  pub dues : List (ℕ × ℕ)
  pub deadlines : List (ℕ × ℕ)
  -- the calls without a configuration, and of these those that do not wait for ready
  pub awaiting_config : List (ℕ × ℕ)
  pub fail_fast : List (ℕ × ℕ)
  -- links with resets that are not sealed
  pub resets : List ℕ

-- what an event leaves, and its answer
pub record Answered : Type 0 where
  pub state : StateSeen
  pub reply : Reply
