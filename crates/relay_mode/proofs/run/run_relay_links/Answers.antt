use Rattle.std.proofs.Common.{◌∙◌, ap}
use Rattle.live_channel.proofs.KeepLaws.{kept_ones}
use Rattle.grpc_base.specs.declared.event.Entry.{Entry}
use Rattle.turn_lock.specs.History.{SeatSeen}
use Rattle.live_channel.proofs.SeatLaws.{fresh_at, map_length}
use Rattle.live_channel.proofs.ShareLaws.{left_sees}
use Rattle.relay_mode.proofs.RelaySideLaws.{kept_beside, left_links, seats_length}
use Rattle.relay_mode.proofs.run.run_relay_links.Goals as goal

pub work_beside-listened-requires-clause-fresh : goal.work_beside-listened-requires-clause-fresh
work_beside-listened-requires-clause-fresh g c κs within = fresh_at _ _ _ (ap (λ (s : SeatSeen Entry). s.lock) c.handle.ensures.seat ∙ c.in_ok-jobs.ensures.splits.lock) c.in_ok-jobs.ensures.splits.fresh

pub close_links-seat-requires-clause-ones : goal.close_links-seat-requires-clause-ones
close_links-seat-requires-clause-ones g c κs within = kept_ones _ _ _ (kept_beside (λ h. h.seat) g.N.Dialer.coming _ _ _ _ c.work_beside-listened.ensures.links c.work_beside-listened.ensures.relay_side
    (fresh_at _ _ _ (ap (λ (s : SeatSeen Entry). s.lock) c.handle.ensures.seat ∙ c.in_ok-jobs.ensures.splits.lock ∙ c.requires.started.lock_is) c.requires.started.fresh))

pub returns-clause-left : goal.returns-clause-left
returns-clause-left g c = λ held config given.
    let kept = kept_beside (λ h. h.seat) g.N.Dialer.coming _ _ _ _ c.work_beside-listened.ensures.links c.work_beside-listened.ensures.relay_side
    (fresh_at _ _ _ (ap (λ (s : SeatSeen Entry). s.lock) c.handle.ensures.seat ∙ c.in_ok-jobs.ensures.splits.lock ∙ c.requires.started.lock_is) c.requires.started.fresh) in
    left_links (λ h. h.seat) _ held config _ _ _ _ _ _ _ _ c.args.seat c.relay_jobs.new.seat _ given c.requires.started c.in_ok-jobs.ensures.splits c.handle.ensures.seat c.in_ok-jobs.ensures.count
    (map_length (λ j. j.post.seat) c.in_ok-jobs.jobs.items ∙ c.in_ok-jobs.ensures.count) (c.work_beside-listened.ensures.links.count ∙ seats_length c.args.links.items (λ h. h.seat)) c.work_beside-listened.ensures.relay_side
    c.close_links-seat.ensures.lock c.close_links-seat.ensures.parts (λ owns seen own closes. c.close_links-seat.ensures.leaves _ owns seen own kept closes)

pub returns-clause-sees : goal.returns-clause-sees
returns-clause-sees g c =
    let kept = kept_beside (λ h. h.seat) g.N.Dialer.coming _ _ _ _ c.work_beside-listened.ensures.links c.work_beside-listened.ensures.relay_side
    (fresh_at _ _ _ (ap (λ (s : SeatSeen Entry). s.lock) c.handle.ensures.seat ∙ c.in_ok-jobs.ensures.splits.lock ∙ c.requires.started.lock_is) c.requires.started.fresh) in
    left_sees _ _ _ c.args.seat c.relay_jobs.new.seat c.handle.result.seat _ _ c.in_ok-jobs.ensures.splits c.handle.ensures.seat (c.close_links-seat.ensures.leaves _ _ _ _ kept c.work_beside-listened.ensures.relay_side.closes)
