-- What reads of a link and dials do to the bytes that are left, and when their counts rise.
use Rattle.std.specs.Prelude.{◌≡◌, ◌≤◌, ◌<◌, ℕ, Bool, true, Option, Some, None, List, ◌∷◌, take}
use Rattle.gate_io.specs.declared.link.Dialed.{Dialed}
use Rattle.gate_io.specs.declared.link.Dialed.TheVariants as dialed
use Rattle.gate_io.specs.declared.link.Happened.{Happened}
use Rattle.gate_io.specs.declared.link.Happened.TheVariants as happened
use Rattle.gate_io.specs.declared.link.LinkRead.{LinkRead}
use Rattle.gate_io.specs.declared.link.LinkRead.TheVariants as link
use Rattle.gate_io.specs.Outside.{IsAtEnd, Takes, one_more}

-- what a read of a link into a buffer of this length did
abbrev pub LinkReads : Option (List ℕ) → Option (List ℕ) → ℕ → List ℕ → LinkRead → Type 0
LinkReads before after room buffer (link.Got n) = (0 < n) × (n ≤ room) × Takes before after (take n buffer)
LinkReads before after room buffer link.Quiet = after ≡ before
LinkReads before after room buffer link.End = IsAtEnd before × (after ≡ before)
LinkReads before after room buffer link.Failed = after ≡ before

-- a failed read raises the count of faults by one, and no other read changes it
abbrev pub CountsFaults : ℕ → ℕ → LinkRead → Type 0
CountsFaults before after link.Failed = after ≡ one_more before
CountsFaults before after _ = after ≡ before

-- a quiet read raises the count of quiet reads by one, and no other read changes it
abbrev pub CountsQuiet : ℕ → ℕ → LinkRead → Type 0
CountsQuiet before after link.Quiet = after ≡ one_more before
CountsQuiet before after _ = after ≡ before

-- the next link had these bytes left, where the bytes of the links to come are known
abbrev pub TakesLink : Option (List (List ℕ)) → Option (List (List ℕ)) → Option (List ℕ) → Type 0
TakesLink (Some before) (Some after) (Some bytes) = before ≡ bytes ∷ after
TakesLink None None left = Unit {0}
TakesLink _ _ _ = ⊥

-- what a dial did: an open link takes the next bytes that were to come, and a failed dial raises the count of faults by one
abbrev pub DialGives : {I O : Type 0} → (I → Option (List ℕ)) → Option (List (List ℕ)) → Option (List (List ℕ)) → ℕ → ℕ → Dialed I O → Type 0
DialGives left coming coming_after faults faults_after (dialed.Open input output) = TakesLink coming coming_after (left input) × (faults_after ≡ faults)
DialGives left coming coming_after faults faults_after dialed.Failed = (coming_after ≡ coming) × (faults_after ≡ one_more faults)

-- a failed accept raises the count of faults by one, and no other accept changes it
abbrev pub AcceptCounts : {I O : Type 0} → ℕ → ℕ → Dialed I O → Type 0
AcceptCounts faults faults_after (dialed.Open input output) = faults_after ≡ faults
AcceptCounts faults faults_after dialed.Failed = faults_after ≡ one_more faults

-- what a dialer shows of the links to come that says nothing of them
abbrev pub untold : {D : Type 0} → D → Option (List (List ℕ))
untold dialer = None

-- of what happens at a listener only an accept fails, which raises the count of faults by one, and nothing else changes it
abbrev pub HappensSo : {I O : Type 0} → Bool → ℕ → ℕ → Happened I O → Type 0
HappensSo accepts faults faults_after happened.Failed = (accepts ≡ true) × (faults_after ≡ one_more faults)
HappensSo accepts faults faults_after (happened.Came input output) = faults_after ≡ faults
HappensSo accepts faults faults_after (happened.At number) = faults_after ≡ faults
HappensSo accepts faults faults_after happened.Anywhere = faults_after ≡ faults
HappensSo accepts faults faults_after happened.Nothing = faults_after ≡ faults
