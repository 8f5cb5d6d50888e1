-- A turn of the job, from its look to its post.
use Rattle.std.proofs.Common.{◌≡◌, ℕ, Bool, true, false, Option, List, ap, subst, ◌∙◌}
use Rattle.grpc_base.specs.declared.event.Entry.{Entry}
use Rattle.grpc_base.specs.declared.event.Event.{Event}
use Rattle.grpc_base.specs.declared.host.DnsName.{DnsName}
use Rattle.grpc_base.specs.declared.post.PostError.{PostError}
use Rattle.grpc_base.specs.declared.post.View.{View}
use Rattle.dns_watch.specs.Schedule.{is_turn}
use Rattle.dns_watch.specs.Turns.{HandleSeen, JobSeen, LooksUp, ReportsThat, Turns, TurnsIf, TurnsUnless, event_of, is_shut}
use Rattle.dns_watch.specs.declared.job.DnsOnce.{DnsOnce}
use Rattle.dns_watch.specs.declared.lookup.Looked.{Looked}

same_handle : (m m2 : List Entry) (n n2 : ℕ) (l l2 : Option PostError) → m2 ≡ m → n2 ≡ n → l2 ≡ l → ◌≡◌ {A = HandleSeen} (record { made = m2; errors = n2; last = l2 }) (record { made = m; errors = n; last = l })
same_handle m m2 n n2 l l2 p q r =
    ap (λ (x : List Entry). let h : HandleSeen = record { made = x; errors = n2; last = l2 } in h) p
    ∙ ap (λ (x : ℕ). let h : HandleSeen = record { made = m; errors = x; last = l2 } in h) q
    ∙ ap (λ (x : Option PostError). let h : HandleSeen = record { made = m; errors = n; last = x } in h) r

-- a look beforehand changes nothing of what is posted
pub reports_looked : (e : Event) (m m2 : List Entry) (n n2 : ℕ) (l l2 : Option PostError) (after : HandleSeen) (result : DnsOnce) → m2 ≡ m → n2 ≡ n → l2 ≡ l
    → ReportsThat e (record { made = m2; errors = n2; last = l2 }) after result → ReportsThat e (record { made = m; errors = n; last = l }) after result
reports_looked e m m2 n n2 l l2 after result p q r reports_that = subst (λ (h : HandleSeen). ReportsThat e h after result) (same_handle m m2 n n2 l l2 p q r) reports_that

-- the name's turn has come: it was looked up, and the channel was given the answer
pub turn_taken : (view : View) (may_give : ℕ → Type 0) (may_find : DnsName → List ℕ → Type 0) (config : Option (List ℕ)) (moment : ℕ) (before after : JobSeen) (answer : Looked) (result : DnsOnce)
    → false ≡ is_shut view.state → may_give moment → true ≡ is_turn before.search.watch.newest moment view.wants_resolution
    → LooksUp may_find moment answer before.search after.search → ReportsThat (event_of answer config) before.handle after.handle result
    → Turns view may_give may_find config before after result
turn_taken view may_give may_find config moment before after answer result alive given due looks reports_that =
    subst (λ (b : Bool). TurnsUnless b may_give may_find config view.wants_resolution before after result) alive
    (moment, given, subst (λ (b : Bool). TurnsIf b may_find config moment before after result) due (answer, looks, reports_that))
