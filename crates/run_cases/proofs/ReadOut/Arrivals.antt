-- A piece that arrives, with what runs keep.
use Rattle.std.proofs.Common.{arith, length, ℕ, ◌+◌, ◌≤◌}
use Rattle.channel_actions.specs.FewCalls.Laws.{BytesAreFew}
use Rattle.frame_cases.specs.PieceWalks.Laws.{KnownAlongFrames, PiecesAreHandled}
use Rattle.run_cases.specs.ReadOut.Laws.{ArrivalsAreAnswered, LinksAreReadOut}

few_bytes : (n : ℕ) → n ≤ 268435456 → n ≤ 18446744073709551615
few_bytes n e = omega (arith, e)

pub arrivals_are_answered : BytesAreFew → LinksAreReadOut → KnownAlongFrames → PiecesAreHandled → ArrivalsAreAnswered
arrivals_are_answered bytes outs knows pieces frames breaks x y r o s h at fresh timely case answers =
    let reached = case.known.reached in
    pieces frames breaks knows x y r o s h at fresh timely
    (record {
      link = case.link;
      piece = case.piece;
      event_is = case.event_is;
      kept = case.kept;
      out = λ l there. outs reached.setup reached.actions s reached.does o at.current at.stage_is case.link l there;
      few = λ l there. few_bytes (length l.received + length case.piece)
          (bytes reached.setup reached.actions s reached.does o at.current at.stage_is case.link case.piece case.event_is l there);
      known = case.known;
    })
    answers
