-- Two ends of one entry that saw as much of their link, and are neither by RST_STREAM nor by a broken rule of the stream, bring the same reset.
use Rattle.std.proofs.Common.{◌≡◌, ◌&&◌, ◌||◌, ◌==◌, ap, refl, sym, ◌∙◌, not, Bool, None, Option, Some, ℕ, if◌then◌else◌, is_some}
use Rattle.std.specs.Option.{option_map_or}
use Rattle.std.specs.Prelude.{option_and_then}
use Rattle.attempt_ledger.specs.declared.row.RowEnd.{RowEnd}
use Rattle.end_cases.proofs.CutEnds.LeftNext.{ResetsAlike}
use Rattle.frame_cases.proofs.RetiredLinks.Shapes.{IsPlainEnd}
use Rattle.grpc_base.specs.ErrorCodes.{cancel}
use Rattle.session_actions.specs.AttemptEnds.{is_framing, is_reset, with_end}
use Rattle.session_actions.specs.Entries.{entry}
use Rattle.session_actions.specs.Links.{has_written_end, link_of}
use Rattle.session_actions.specs.Responses.{limit_of_attempt, no_response, response, response_by, response_in, traffic_by}
use Rattle.session_actions.specs.declared.attempt.Attempt.{Attempt}
use Rattle.session_actions.specs.declared.link.Link.{Link}
use Rattle.session_actions.specs.declared.response.Outcome.{Outcome}
use Rattle.session_actions.specs.declared.response.Response.{Response}
use Rattle.session_actions.specs.declared.seen.Seen.{Seen}

saw_same : (d e : RowEnd) (s : Seen) (b : Attempt) (o : Option ℕ) → e.seen ≡ d.seen → response_by (with_end e b) s o ≡ response_by (with_end d b) s o
saw_same d e s b None same = refl
saw_same d e s b (Some n) same =
    ap (λ (k : ℕ). option_map_or (λ (l : Link). response_in (limit_of_attempt b s) n (traffic_by k l.traffic)) (link_of b s) no_response) same

pub plain_alike : (at seen : ℕ) (d e : RowEnd) (s : Seen) → IsPlainEnd at seen d → IsPlainEnd at seen e → ResetsAlike d e s
plain_alike at seen d e s one two = λ b.
    let F : ℕ → Bool → Bool → Response → Option ℕ
    = λ at_ rs fr p. option_and_then (λ (n : ℕ). if (at_ == entry s) && not b.reset
    then option_and_then (λ (l : Link). if rs || is_some l.over || (has_written_end n l && p.closes) then None else if fr then option_and_then (λ (k : Outcome). k.reset) p.end else Some cancel) (link_of b s)
    else None) b.row.stream in
    ap (λ (k : ℕ). F k (is_reset e.cause) (is_framing e.cause) (response (with_end e b) s)) (two.entry_is ∙ sym one.entry_is)
    ∙ ap (λ (z : Bool). F d.entry z (is_framing e.cause) (response (with_end e b) s)) (two.unreset ∙ sym one.unreset)
    ∙ ap (λ (z : Bool). F d.entry (is_reset d.cause) z (response (with_end e b) s)) (two.unbroken ∙ sym one.unbroken)
    ∙ ap (F d.entry (is_reset d.cause) (is_framing d.cause)) (saw_same d e s b b.row.stream (two.seen_is ∙ sym one.seen_is))
