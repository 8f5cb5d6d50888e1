use Rattle.session_text.proofs.WrittenLaws.{all_as}
use Rattle.channel_client.proofs.SessionLaws.{are_done, client_report}
use Rattle.channel_client.proofs.session.record_clients.Goals as goal

pub returns-in-Ok : goal.returns-in-Ok
returns-in-Ok g c = record {
  recorded = (
    are_done _ _ _ _ _ _ _ c.in_ok-seat.ensures.left,
    all_as _ _ _ _ (λ text is. client_report _ _ _ c.in_ok-ran.ran _ _ _ _ _ _ c.in_ok-seat.seat text c.in_ok-channel.ensures.origin c.in_ok-seat.ensures.reported c.in_ok-ran.ensures c.in_ok-seat.ensures.left is) c.in-Ok.ensures.ok,
  );
}

pub returns : goal.returns
returns g c = record { recorded = (are_done _ _ _ _ _ _ _ c.in_ok-seat.ensures.left, tt) }
