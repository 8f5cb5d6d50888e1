-- The net of a channel counts no more pick requests than the session made, and these are no more than its attempts.
use Rattle.channel_actions.specs.FewCalls.Laws.{AsksAreFew}
use Rattle.channel_actions.specs.SoundCalls.Sound.{to_come}
use Rattle.attempt_cases.specs.ServeSteps.Follows.{NetsMayAsk}
use Rattle.session_actions.specs.declared.attempt.Attempt.{Attempt}
use Rattle.std.proofs.Common.{ap, arith, length, map, sym, ℕ, ◌+◌, ◌<◌, ◌∙◌, ◌≡◌, ◌≤◌}
use Rattle.std.proofs.lemmas.Bool.{lt-ltb}
use Rattle.std.proofs.lemmas.List.{length-map}

few_by : (a b c d k : ℕ) → a ≤ b → b ≤ c + 1 → c ≡ d → d + k < 8796093022208 → a < 18446744073709551615
few_by a b c d k e f g h = omega (arith, e, f, g, h)

pub nets_may_ask : AsksAreFew → NetsMayAsk
nets_may_ask asks last p x o s h sound at passing served =
    let few : length s.asks ≤ length s.attempts + 1 = asks sound.reached.setup sound.reached.actions s sound.reached.does in
    let rows : length s.attempts ≡ length x.book.ledger.rows = sym (length-map s.attempts (λ (b : Attempt). b.row)) ∙ ap length h.columns.rows in
    lt-ltb x.net.asker.asks 18446744073709551615
    (few_by x.net.asker.asks (length s.asks) (length s.attempts) (length x.book.ledger.rows) (to_come x.book.calls) h.net.counted few rows sound.room)
