-- What the serving of a link moved, and why it ended.
use Rattle.std.specs.Prelude.{◌≡◌, ℕ, Option, Some, None, List}
use Rattle.std.specs.List.{concat}
use Rattle.grpc_base.specs.Counts.{one_more}
use Rattle.gate_io.specs.Outside.{Appends, AppendsPrefix, IsAtEnd, Takes}
use Rattle.link_server.specs.declared.done.LinkDone.{LinkDone}
use Rattle.link_server.specs.declared.done.LinkDone.TheVariants as done
use Rattle.link_server.specs.declared.done.Turned.{Turned}
use Rattle.link_server.specs.declared.done.Turned.TheVariants as turned
use Rattle.link_server.specs.Serving.{Gains, Report}

-- how the link ended in a turn, if it did
abbrev pub over_of : Turned → Option LinkDone
over_of turned.Quiet = None
over_of turned.More = None
over_of (turned.Over end) = Some end

-- what was read of the link went to the server, piece by piece and in order
pub record GoesIn (link : ℕ) (reported reported' : Report) (left left' : Option (List ℕ)) : Type 0 where
  pub pieces : List (List ℕ)
  pub read : Takes left left' (concat pieces)
  pub given : Gains reported reported' link pieces

-- what went out: all of it, or a prefix where a write failed
abbrev pub IsSent : Option LinkDone → Option (List ℕ) → Option (List ℕ) → List ℕ → Type 0
IsSent (Some done.WriteFailed) taken taken' octets = AppendsPrefix taken taken' octets
IsSent end taken taken' octets = Appends taken taken' octets

-- what the server gave for the link went out, drain by drain and in order
pub record GoesOut (link : ℕ) (reported reported' : Report) (taken taken' : Option (List ℕ)) (end : Option LinkDone) : Type 0 where
  pub drains : List (List ℕ)
  pub drained : Gains reported reported' link drains
  pub sent : IsSent end taken taken' (concat drains)

-- how often the server refused a piece, the code of the last one, and how often a read and a write of the link failed
pub record CountsSeen : Type 0 where
  pub breaks : ℕ
  pub last_code : ℕ
  pub read_faults : ℕ
  pub write_faults : ℕ

-- why the serving ended, if it did: what rose, and what is left on the link
abbrev pub HasCause : Option LinkDone → CountsSeen → CountsSeen → Option (List ℕ) → Type 0
HasCause None before after left = after ≡ before
HasCause (Some done.Ended) before after left = (after ≡ before) × IsAtEnd left
HasCause (Some done.ReadFailed) before after left = after ≡ record before { read_faults = one_more before.read_faults }
HasCause (Some done.WriteFailed) before after left = after ≡ record before { write_faults = one_more before.write_faults }
HasCause (Some (done.Broken code)) before after left = after ≡ record before { breaks = one_more before.breaks; last_code = code }
HasCause (Some done.NoMemory) before after left = (after.read_faults ≡ before.read_faults) × (after.write_faults ≡ before.write_faults)

-- what the server answered a piece, and whether its counts say so
abbrev pub IsRefusal : Option LinkDone → ℕ → ℕ → ℕ → ℕ → Type 0
IsRefusal None breaks code breaks' code' = (breaks' ≡ breaks) × (code' ≡ code)
IsRefusal (Some (done.Broken c)) breaks code breaks' code' = (breaks' ≡ one_more breaks) × (code' ≡ c)
IsRefusal (Some done.NoMemory) breaks code breaks' code' = Unit {0}
IsRefusal (Some end) breaks code breaks' code' = ⊥

-- whether all was written, and whether the count says so
abbrev pub IsWritten : Option LinkDone → ℕ → ℕ → Type 0
IsWritten None faults faults' = faults' ≡ faults
IsWritten (Some done.WriteFailed) faults faults' = faults' ≡ one_more faults
IsWritten (Some end) faults faults' = ⊥
