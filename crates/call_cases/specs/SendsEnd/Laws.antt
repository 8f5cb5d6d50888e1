-- What `long_sends` and `call_sends` ask of calls that are to end is what `call_ends` says of them.
-- Example: call 1 was sent too long a message, and its end is next. It ends, its attempts are cut off, and their streams are reset; then both agree.
use Rattle.call_cases.specs.CallEnds.Laws.{OneCallEnds}
use Rattle.call_cases.specs.LongSends.Laws.{CallsEndAlike}

abbrev pub CallsThatAreToEnd : Type 0
CallsThatAreToEnd = OneCallEnds → CallsEndAlike
