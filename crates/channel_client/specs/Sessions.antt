-- What a run over a channel promises of the work that it gives back, and of the report of its session.
use Rattle.std.specs.Prelude.{◌≡◌, ℕ, Option, List}
use Rattle.std.specs.List.{AllByRecursion, AllZip}
use Rattle.grpc_base.specs.declared.event.Entry.{Entry}
use Rattle.grpc_base.specs.declared.event.Stamped.{Stamped}
use Rattle.attempt_ledger.specs.declared.journal.Journal.{Journal}
use Rattle.attempt_ledger.specs.declared.ledger.Ledger.{Ledger}
use Rattle.lb_policy.specs.Table.{PolicySeen}
use Rattle.live_channel.specs.Handles.{StandInOrder}
use Rattle.live_channel.specs.Held.{ComeAsHeld}
use Rattle.live_channel.specs.Sharing.{SharesOut}
use Rattle.live_channel.specs.Report.{ReportsTarget}
use Rattle.resolver_core.specs.AnyTargets.{authority_of}
use Rattle.resolver_core.specs.declared.any_target.Target.{Target}
use Rattle.session_text.specs.Sessions.{IsSession, run_text}
use Rattle.session_text.specs.declared.ran.Ran.{Ran}
use Rattle.session_text.specs.declared.ran.Ran.TheVariants as ran
use Rattle.shared_channel.specs.Histories.{IsNearlyFull}
use Rattle.channel_client.specs.Jobs.{EntriesAreOfCalls, ShowsOwn}

-- Each piece of work was done over entries of its own. They are of calls alone, and stand in one history, those of each in the order in
-- which they were made
pub record StandDone {J : Type 0} (shows : J → List Entry → Type 0) (works : List J) (owns : List (List (ℕ × Entry))) (history : List Entry) : Type 0 where
  pub done : AllZip (ShowsOwn shows) works owns
  pub calls : AllByRecursion EntriesAreOfCalls owns
  pub stand : AllByRecursion (StandInOrder history) owns

abbrev pub WorksAreDone : {J : Type 0} → (J → List Entry → Type 0) → List J → Type 0
WorksAreDone shows works = (owns : List (List (ℕ × Entry))) × (history : List Entry) × StandDone shows works owns history

-- The entries of the work stand in a prefix of the journal: no entry is of two, and each entry of an application is of one. Where all went
-- well a Shutdown stands next after that prefix, and in any case nowhere else
pub record CarriesWorks {J : Type 0} (shows : J → List Entry → Type 0) (r : Ran) (works : List J) (entries : List Entry) : Type 0 where
  pub prefix : List Entry
  pub rest : List Entry
  pub owns : List (List (ℕ × Entry))
  pub done : StandDone shows works owns prefix
  pub shares : SharesOut r owns prefix rest entries

-- the text is the report of the one channel of a run: a new channel, whose requests have the authority of the target, and which has these
-- policies, was given exactly the events of this journal, one after another. The journal begins with the event that the channel is given first, and
-- has the entries of the work, and the Shutdown after them; what came on its links is as the dialers held it. Where the session was
-- stopped it is nearly full
pub record IsClientReport {J : Type 0} (shows : J → List Entry → Type 0) (policies : List PolicySeen) (held : List (Option (List (List ℕ)))) (r : Ran) (target : Target) (config : Option (List ℕ)) (name : List ℕ) (works : List J) (text : List ℕ) : Type 0 where
  pub events : List Stamped
  pub journal : Journal
  pub ledger : Ledger
  pub session : IsSession (authority_of target) policies events journal ledger
  pub reported : ReportsTarget target config journal.entries
  pub carries : CarriesWorks shows r works journal.entries
  pub come : ComeAsHeld held config journal.entries
  pub full : r ≡ ran.Full → IsNearlyFull journal.entries
  pub text_is : text ≡ run_text r name journal ledger
