-- A session of few events is within the limits: the journal has room for each.
use Rattle.std.proofs.Common.{◌≡◌, ◌≤◌, ◌<◌, ℕ, ◌+◌, Option, List, [], ◌∷◌, map, length, length-append, ap, arith, inl, inr, subst, sym, ◌∙◌}
use Rattle.std.specs.Prelude.{min}
use Rattle.std.specs.List.{sum_by}
use Rattle.std.proofs.lemmas.List.{length-map}
use Rattle.std.proofs.lemmas.List.Sums.{sum_by-append, sum_by-cons}
use Rattle.attempt_ledger.specs.declared.journal.Journal.{Journal}
use Rattle.grpc_base.specs.Posts.{HasNoRoom, event_bytes}
use Rattle.grpc_base.specs.declared.event.Entry.{Entry}
use Rattle.grpc_base.specs.declared.event.Event.{Event}
use Rattle.grpc_base.specs.declared.event.Event.TheVariants as event
use Rattle.grpc_base.specs.declared.event.Reply.{Reply}
use Rattle.grpc_base.specs.declared.event.Reply.TheVariants as reply
use Rattle.grpc_base.specs.declared.event.Stamped.{Stamped}
use Rattle.lb_policy.specs.Table.{PolicySeen}
use Rattle.resolver_core.specs.AnyTargets.{authority_of}
use Rattle.channel_core.specs.Sizes.{given, journal_bytes, kept_bytes}
use Rattle.journal_room.specs.Rooms.{EntriesAreWithinRoom, FitsBy}
use Rattle.journal_room.proofs.DrainLaws.{within_always}
use Rattle.session_text.specs.Sessions.{AreEntriesOf}
use Rattle.channel_top.specs.Complete.{EventsFit, HaveRoom, IsRunnable, IsShortScript}

-- ---- an entry has no more bytes than its event can add

given_fits : (link room : ℕ) (r : Reply) → FitsBy (event.Drain link room) r → length (given r) ≤ min room 1048576
given_fits link room (reply.Octets octets) fits = fits
given_fits link room r fits = omega arith

kept_least : (e : Event) (r : Reply) → FitsBy e r → kept_bytes e r ≤ event_bytes e
kept_least (event.Drain link room) r fits =
    let least : length (given r) ≤ min room 1048576 = given_fits link room r fits in
    omega (arith, least)
kept_least e r fits = omega arith

abbrev kept_in : Entry → ℕ
kept_in e = kept_bytes e.event e.reply

abbrev most_of : Stamped → ℕ
most_of s = event_bytes s.event

kept_by : (entries : List Entry) (events : List Stamped) → EntriesAreWithinRoom entries → map (λ (e : Entry). e.event) entries ≡ map (λ (s : Stamped). s.event) events → journal_bytes entries ≤ sum_by most_of events
kept_by [] [] fits same = omega arith
kept_by [] (s ∷ events) fits same = omega arith
kept_by (e ∷ entries) [] fits same = absurd (cc)
kept_by (e ∷ entries) (s ∷ events) fits same =
    let here : e.event ≡ s.event = (cc) in
    let rest : map (λ (x : Entry). x.event) entries ≡ map (λ (x : Stamped). x.event) events = (cc) in
    let least : kept_in e ≤ event_bytes e.event = kept_least e.event e.reply fits.0 in
    let first : event_bytes e.event ≡ most_of s = ap event_bytes here in
    let more : journal_bytes entries ≤ sum_by most_of events = kept_by entries events fits.1 rest in
    let kept : journal_bytes (e ∷ entries) ≡ kept_in e + journal_bytes entries = sum_by-cons kept_in e entries in
    let most : sum_by most_of (s ∷ events) ≡ most_of s + sum_by most_of events = sum_by-cons most_of s events in
    omega (arith, least, first, more, kept, most)

-- ---- the prefix of few events leaves room for the next

has_room : (entries bytes : ℕ) (e : Event) → entries < 1048576 → bytes + event_bytes e ≤ 268435456 → HasNoRoom entries bytes e → ⊥
has_room entries bytes e few small (inl many) = omega (arith, few, many)
has_room entries bytes e few small (inr much) = omega (arith, small, much)

pub few_have_room : (policies : List PolicySeen) (authority : List ℕ) (events : List Stamped) → EventsFit events → HaveRoom policies authority events
few_have_room policies authority events few prefix next afterwards journal ledger parts session =
    let within : EntriesAreWithinRoom journal.entries =
    subst (λ (j : Journal). EntriesAreWithinRoom j.entries) (sym session.journal_is)
    (within_always authority session.run.new session.core prefix (session.run.alloc, session.run.own, session.run.is_new) session.run.runs) in
    let reported : AreEntriesOf prefix journal = session.entries in
    let count : length journal.entries ≡ length prefix =
    sym (length-map journal.entries (λ (e : Entry). e.event)) ∙ ap length reported.events_are ∙ length-map prefix (λ (s : Stamped). s.event) in
    let kept : journal_bytes journal.entries ≤ sum_by most_of prefix = kept_by journal.entries prefix within reported.events_are in
    let all : length events ≡ length prefix + length (next ∷ afterwards) = ap length parts ∙ length-append prefix (next ∷ afterwards) in
    let sums : sum_by most_of events ≡ sum_by most_of prefix + sum_by most_of (next ∷ afterwards) = ap (sum_by most_of) parts ∙ sum_by-append most_of prefix (next ∷ afterwards) in
    let last : sum_by most_of (next ∷ afterwards) ≡ most_of next + sum_by most_of afterwards = sum_by-cons most_of next afterwards in
    let number : length events ≤ 1048576 = few.0 in
    let bytes : sum_by most_of events ≤ 268435456 = few.1 in
    has_room (length journal.entries) (journal_bytes journal.entries) next.event (omega (arith, count, all, number)) (omega (arith, kept, sums, last, bytes))

-- so a script of few events is within the limits
pub short_runs : (policies : List PolicySeen) (left : Option (List ℕ)) → IsShortScript left → IsRunnable policies left
short_runs policies left short = record {
  input = short.input;
  target = short.target;
  value = short.value;
  events = short.events;
  left_is = short.left_is;
  script = short.script;
  room = few_have_room policies (authority_of short.value) short.events short.few;
}
