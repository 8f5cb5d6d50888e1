-- DATA keeps both windows.
use Rattle.std.proofs.Common.{◌≡◌, ℕ, Bool, true, false, refl, sym, ◌∙◌, ap, Some, None, arith}
use Rattle.std.specs.Prelude.{nat_lt, ◌||◌, ◌&&◌, ◌==◌, if◌then◌else◌}
use Rattle.h2_server.specs.declared.live.LiveStream.{LiveStream}
use Rattle.h2_server.specs.declared.share.Share.{Share}
use Rattle.h2_server.specs.Laws.{KeepsWindows}
use Rattle.h2_server.specs.Sends.{least_of, share_at}
use Rattle.h2_server.specs.Wire.{Wire}

share_len : (len left : ℕ) (finished : Bool) (x : Share) (b : Bool) → (if b then Some (record { len = len; ends = finished && (len == left) }) else None) ≡ Some x → len ≡ x.len
share_len len left finished x true e = cc
share_len len left finished x false e = absurd (cc)

pub share_keeps : (w : Wire) (s : LiveStream) (place left : ℕ) (finished : Bool) (x : Share) → share_at w left finished (Some (place, s)) ≡ Some x → KeepsWindows w s x.len
share_keeps w s place left finished x e =
    let len = least_of w.window w.initial s left in
    let same : len ≡ x.len = share_len len left finished x (nat_lt 0 len || (finished && (len == left))) e in record {
      size = omega (arith, same);
      of_link = omega (arith, same);
      of_stream = omega (arith, same);
    }
