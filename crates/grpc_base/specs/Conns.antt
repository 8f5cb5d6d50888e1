-- Connectivity states ("gRPC Connectivity Semantics and API").
use Rattle.std.specs.Prelude.{ℕ}
use Rattle.grpc_base.specs.declared.event.Conn.{Conn}
use Rattle.grpc_base.specs.declared.event.Conn.TheVariants as conn

-- the number of a state
abbrev pub conn_number : Conn → ℕ
conn_number conn.Idle = 0
conn_number conn.Connecting = 1
conn_number conn.Ready = 2
conn_number conn.Failure = 3
conn_number conn.Shutdown = 4
