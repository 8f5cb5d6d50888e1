-- How long one waits who tries again and again.
use Rattle.std.specs.Prelude.{ℕ, ◌+◌, ◌==◌, nat_le, if◌then◌else◌}
use Rattle.gate_io.specs.declared.poll_delay.Pause.{Pause}
use Rattle.gate_io.specs.declared.poll_delay.Pause.TheVariants as pause

-- so many tries that found nothing are each after a brief pause
abbrev pub brief_tries : ℕ
brief_tries = 8

-- so many more are each after a short pause, and all further ones after a long one
abbrev pub short_tries : ℕ
short_tries = 20

-- the pause after so many tries in a row that found nothing
abbrev pub pause_after : ℕ → Pause
pause_after misses =
    if misses == 0 then pause.None
    else if nat_le misses brief_tries then pause.Brief
    else if nat_le misses (brief_tries + short_tries) then pause.Short
    else pause.Long
