-- What a worker did, said of it where it stands in a list.
use Rattle.std.proofs.Common.{◌≡◌, ◌∙◌, ℕ, Option, List, subst, sym}
use Rattle.grpc_base.specs.declared.post.Look.{Look}
use Rattle.live_pump.specs.Pumps.{HandleSeen}
use Rattle.live_pump.specs.Kinds.{AddsOnly}
use Rattle.live_run.specs.Outcomes.{EndsLookups}
use Rattle.live_run.specs.Sides.{IsOfNames, LinkDone, NameDone}
use Rattle.live_run.specs.declared.jobs.NameJob.{NameJob}
use Rattle.live_run.specs.declared.link_job.LinkJob.{LinkJob}
use Rattle.live_run.specs.declared.link_job.LinkJob.TheVariants as job
use Rattle.live_run.specs.declared.outcome.Outcome.{Outcome}

pub link_done_at : {H N L D : Type 0} (seen : H → HandleSeen) (share : H → List ℕ) (look : H → Option Look) (coming : N → Option (List (List ℕ))) (a b x y : LinkJob H N L D) → a ≡ x → b ≡ y → LinkDone seen share look coming a b → LinkDone seen share look coming x y
link_done_at seen share look coming a b x y same left done = subst (LinkDone seen share look coming x) left (subst (λ z. LinkDone seen share look coming z b) same done)

seen_same : (a b : HandleSeen) → a.made ≡ b.made → a.errors ≡ b.errors → a.last ≡ b.last → a ≡ b
seen_same a b made errors last = λ i. record { made = made i; errors = errors i; last = last i }

-- a worker of a name did its work, and its handle then left a note
pub name_noted : {H N L D : Type 0} (seen : H → HandleSeen) (share : H → List ℕ) (look : H → Option Look) (coming : N → Option (List (List ℕ))) (start : LinkJob H N L D) (before mid after : NameJob H L D) → start ≡ job.Name before
    → EndsLookups (seen before.post) (seen mid.post) (look mid.post) mid.outcome → AddsOnly (IsOfNames before.config) (seen before.post).made (seen mid.post).made → share mid.post ≡ share before.post → after.outcome ≡ mid.outcome
    → (seen after.post).made ≡ (seen mid.post).made → (seen after.post).errors ≡ (seen mid.post).errors → (seen after.post).last ≡ (seen mid.post).last → look after.post ≡ look mid.post → share after.post ≡ share mid.post
    → LinkDone seen share look coming start (job.Name after)
name_noted {H} {N} {L} {D} seen share look coming start before mid after is ends posts same_share outcome made errors last looked shared =
    let saw : seen after.post ≡ seen mid.post = seen_same (seen after.post) (seen mid.post) made errors last in
    let done : NameDone seen share look before after = record {
      ends = subst (λ (o : Outcome). EndsLookups (seen before.post) (seen after.post) (look after.post) o) (sym outcome)
          (subst (λ (l : Option Look). EndsLookups (seen before.post) (seen after.post) l mid.outcome) (sym looked)
          (subst (λ (h : HandleSeen). EndsLookups (seen before.post) h (look mid.post) mid.outcome) (sym saw) ends));
      posts = subst (λ (h : HandleSeen). AddsOnly (IsOfNames before.config) (seen before.post).made h.made) (sym saw) posts;
      same_share = shared ∙ same_share;
    } in
    subst (λ (s : LinkJob H N L D). LinkDone seen share look coming s (job.Name after)) (sym is) done
