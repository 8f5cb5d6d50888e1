-- Resets of many streams, one after the other.
use Rattle.std.proofs.Common.{◌≡◌, ℕ, suc, ◌<◌, ◌+◌, List, ◌∷◌, length, get_or, drop, sym, ◌∙◌, ap, add-one}
use Rattle.std.proofs.Math.Seq.{drop-cons}
use Rattle.grpc_base.specs.ErrorCodes.{cancel}
use Rattle.h2_link.specs.declared.live.LiveStream.{LiveStream}
use Rattle.h2_link.specs.Queues.{Queue, reset_queued}
use Rattle.h2_link.specs.Steps.{all_reset}

pub one_more : (streams : List LiveStream) (i : ℕ) (s : LiveStream) (q next all : Queue) → i < length streams → s ≡ get_or streams i s → next ≡ reset_queued s.number cancel q → all_reset (drop i streams) q ≡ all → all_reset (drop (i + 1) streams) next ≡ all
one_more streams i s q next all h e n a =
    let prefix : drop i streams ≡ s ∷ drop (suc i) streams = drop-cons streams i s h ∙ ap (λ (x : LiveStream). x ∷ drop (suc i) streams) (sym e) in
    rw add-one (ap (all_reset (drop (suc i) streams)) n ∙ (sym (ap (λ (t : List LiveStream). all_reset t q) prefix) ∙ a))
