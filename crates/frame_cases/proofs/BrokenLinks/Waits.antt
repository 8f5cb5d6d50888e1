-- Which lines may wait until all attempts of a link that breaks have ended.
use Rattle.std.proofs.Common.{◌≡◌, Bool, true, false, nat_lt, refl}
use Rattle.event_cases.proofs.LostLinks.Ends.{none_waits}
use Rattle.end_cases.specs.AttemptEnds.Ends.{may_wait}
use Rattle.end_cases.specs.AttemptEnds.Laws.{may_wait_for_resets}
use Rattle.session_actions.specs.declared.entry.OpenEntry.{OpenEntry}
use Rattle.session_actions.specs.declared.seen.Seen.{Seen}
use Rattle.session_order.specs.Quiescent.{IsStill}
use Rattle.session_order.specs.Lines.{is_line, rank}
use Rattle.session_order.specs.declared.line.Line.{Line}
use Rattle.session_order.specs.declared.line.Line.TheVariants as line

-- resets wait until all that ends has ended
abbrev pub resets_wait : Line → Bool
resets_wait m = is_line m line.Reset

pub waits_late : (m : Line) → resets_wait m ≡ true → may_wait m ≡ true
waits_late line.Reset e = refl
waits_late line.WireEnd e = refl
waits_late line.Cut e = absurd (cc)
waits_late line.Transparent e = absurd (cc)
waits_late line.Inherited e = absurd (cc)
waits_late line.Row e = absurd (cc)
waits_late line.Final e = absurd (cc)
waits_late line.Cancelled e = absurd (cc)
waits_late line.Request e = absurd (cc)
waits_late line.Overflow e = absurd (cc)
waits_late line.Head e = absurd (cc)
waits_late line.Response e = absurd (cc)
waits_late line.Pick e = absurd (cc)
waits_late line.Link e = absurd (cc)
waits_late line.Shut e = absurd (cc)
waits_late line.Retire e = absurd (cc)
waits_late line.Begin e = absurd (cc)
waits_late line.Give e = absurd (cc)
waits_late line.Drop e = absurd (cc)
waits_late line.Add e = absurd (cc)

-- where no link was lost, ends come before resets
ends_sooner : (m : Line) → nat_lt (rank false m) (rank false line.WireEnd) ≡ true → resets_wait m ≡ false
ends_sooner line.Reset e = absurd (cc)
ends_sooner line.Cut e = refl
ends_sooner line.Transparent e = refl
ends_sooner line.Inherited e = refl
ends_sooner line.Row e = refl
ends_sooner line.Final e = refl
ends_sooner line.Cancelled e = refl
ends_sooner line.Request e = refl
ends_sooner line.Overflow e = refl
ends_sooner line.Head e = refl
ends_sooner line.Response e = refl
ends_sooner line.Pick e = refl
ends_sooner line.Link e = refl
ends_sooner line.WireEnd e = refl
ends_sooner line.Shut e = refl
ends_sooner line.Retire e = refl
ends_sooner line.Begin e = refl
ends_sooner line.Give e = refl
ends_sooner line.Drop e = refl
ends_sooner line.Add e = refl

pub sooner_by : (loses : Bool) → loses ≡ false → (m : Line) → nat_lt (rank loses m) (rank loses line.WireEnd) ≡ true → resets_wait m ≡ false
sooner_by true off m before = absurd (cc)
sooner_by false off m before = ends_sooner m before

-- what is still once all has ended
pub only_ends : (o : OpenEntry) (s : Seen) → IsStill line.WireEnd o s → (m : Line) → is_line m line.WireEnd ≡ true → IsStill m o s
only_ends o s still line.WireEnd e = still
only_ends o s still line.Cut e = absurd (cc)
only_ends o s still line.Transparent e = absurd (cc)
only_ends o s still line.Inherited e = absurd (cc)
only_ends o s still line.Row e = absurd (cc)
only_ends o s still line.Final e = absurd (cc)
only_ends o s still line.Cancelled e = absurd (cc)
only_ends o s still line.Request e = absurd (cc)
only_ends o s still line.Overflow e = absurd (cc)
only_ends o s still line.Head e = absurd (cc)
only_ends o s still line.Response e = absurd (cc)
only_ends o s still line.Pick e = absurd (cc)
only_ends o s still line.Link e = absurd (cc)
only_ends o s still line.Reset e = absurd (cc)
only_ends o s still line.Shut e = absurd (cc)
only_ends o s still line.Retire e = absurd (cc)
only_ends o s still line.Begin e = absurd (cc)
only_ends o s still line.Give e = absurd (cc)
only_ends o s still line.Drop e = absurd (cc)
only_ends o s still line.Add e = absurd (cc)

pub never_waits : (o : OpenEntry) (m : Line) → none_waits m ≡ true → may_wait_for_resets o m ≡ true
never_waits o m e = absurd (cc)
