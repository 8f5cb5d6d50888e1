use Rattle.std.proofs.Common.{◌≡◌, ◌∙◌, ap, rules, sym, true}
use Rattle.grpc_base.specs.declared.event.Entry.{Entry}
use Rattle.turn_lock.specs.History.{SeatSeen}
use Rattle.live_channel.proofs.KeepLaws.{kept_ones}
use Rattle.live_channel.proofs.SeatLaws.{fresh_at, map_length}
use Rattle.live_channel.proofs.ShareLaws.{left_sees}
use Rattle.channel_client.proofs.ClientLaws.{kept_beside, left_clients, seats_length}
use Rattle.channel_client.proofs.run.run_beside.Goals as goal

pub work_beside-requires-clause-fresh : goal.work_beside-requires-clause-fresh
work_beside-requires-clause-fresh g c κs within = fresh_at _ _ _ (ap (λ (s : SeatSeen Entry). s.lock) c.handle.ensures.seat ∙ c.in_ok-jobs.ensures.splits.lock) c.in_ok-jobs.ensures.splits.fresh

pub close_links-seat-requires-clause-ones : goal.close_links-seat-requires-clause-ones
close_links-seat-requires-clause-ones g c κs within = kept_ones _ _ _ (kept_beside (λ h. h.seat) _ g.N.Dialer.coming _ _ _ _ c.work_beside.ensures.links c.work_beside.ensures.clients
    (fresh_at _ _ _ (ap (λ (s : SeatSeen Entry). s.lock) c.handle.ensures.seat ∙ c.in_ok-jobs.ensures.splits.lock ∙ c.requires.started.lock_is) c.requires.started.fresh))

pub returns-clause-left : goal.returns-clause-left
returns-clause-left g c = λ held config given.
    let kept = kept_beside (λ h. h.seat) _ g.N.Dialer.coming _ _ _ _ c.work_beside.ensures.links c.work_beside.ensures.clients
    (fresh_at _ _ _ (ap (λ (s : SeatSeen Entry). s.lock) c.handle.ensures.seat ∙ c.in_ok-jobs.ensures.splits.lock ∙ c.requires.started.lock_is) c.requires.started.fresh) in
    let whole : c.work_beside.new.clients.is_whole ≡ true = search rules in
    left_clients (λ h. h.seat) _ _ held config _ _ _ _ _ _ _ c.args.seat c.client_jobs.new.seat _ given c.requires.started c.in_ok-jobs.ensures.splits c.handle.ensures.seat
    (sym (map_length (λ j. j.post.seat) c.in_ok-jobs.jobs.items)) (c.work_beside.ensures.links.count ∙ seats_length c.args.links.items (λ h. h.seat)) whole c.in_ok-jobs.ensures.works c.work_beside.ensures.clients
    c.close_links-seat.ensures.lock c.close_links-seat.ensures.parts (λ owns seen own closes. c.close_links-seat.ensures.leaves _ owns seen own kept closes)

pub returns-clause-sees : goal.returns-clause-sees
returns-clause-sees g c =
    let kept = kept_beside (λ h. h.seat) _ g.N.Dialer.coming _ _ _ _ c.work_beside.ensures.links c.work_beside.ensures.clients
    (fresh_at _ _ _ (ap (λ (s : SeatSeen Entry). s.lock) c.handle.ensures.seat ∙ c.in_ok-jobs.ensures.splits.lock ∙ c.requires.started.lock_is) c.requires.started.fresh) in
    left_sees _ _ _ c.args.seat c.client_jobs.new.seat c.handle.result.seat _ _ c.in_ok-jobs.ensures.splits c.handle.ensures.seat (c.close_links-seat.ensures.leaves _ _ _ _ kept c.work_beside.ensures.clients.closes)
