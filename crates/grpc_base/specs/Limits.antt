-- The limits of the channel and of its texts, each in one place.
use Rattle.std.specs.Prelude.{ℕ}

-- the latest moment, in nanoseconds
abbrev pub moment_limit : ℕ
moment_limit = 4000000000000000000

-- the longest duration, in nanoseconds
abbrev pub duration_limit : ℕ
duration_limit = 1000000000000000000

-- how many addresses a list may have
abbrev pub address_limit : ℕ
address_limit = 64

-- the most bytes of a path
abbrev pub path_limit : ℕ
path_limit = 1024

-- the most that the metadata of one request comes to, in bytes as it is sent
abbrev pub meta_limit : ℕ
meta_limit = 14336

-- the most bytes of one message, each way
abbrev pub message_limit : ℕ
message_limit = 4194304

-- the most bytes of a service config
abbrev pub config_limit : ℕ
config_limit = 65536

-- the most bytes of a frame's payload that is sent or read
abbrev pub payload_limit : ℕ
payload_limit = 16384

-- the most lines of a script
abbrev pub lines_limit : ℕ
lines_limit = 1048578

-- the most bytes of a line of a script, its end not counted
abbrev pub line_limit : ℕ
line_limit = 8400000

-- the most bytes of a pushback's text in a server script
abbrev pub pushback_limit : ℕ
pushback_limit = 1024
