-- The code of a reset stays once the attempt has ended.
use Rattle.std.proofs.Common.{◌≡◌, ◌≤◌, ◌∷◌, ◌++◌, ◌||◌, ◌&&◌, ap, arith, refl, subst, sym, ◌∙◌, Bool, true, false, List, [], Option, None, Some, ℕ, ◌+◌, if◌then◌else◌, is_some, length, nat_le, option_and_then}
use Rattle.std.specs.List.{list_all}
use Rattle.std.specs.Option.{option_map_or}
use Rattle.std.proofs.lemmas.Bool.Decides.{nat_tests}
use Rattle.attempt_ledger.specs.declared.row.RowCause.{RowCause}
use Rattle.attempt_ledger.specs.declared.row.RowEnd.{RowEnd}
use Rattle.grpc_base.specs.ErrorCodes.{cancel}
use Rattle.h2_frame.specs.Frames.{FrameSeen}
use Rattle.link_actions.proofs.Ended.{ended_seen, is_ended}
use Rattle.link_actions.proofs.History.{bytes_more}
use Rattle.link_actions.proofs.Lists.{if_false, if_true}
use Rattle.link_actions.proofs.LossActions.Losses.{link_is}
use Rattle.link_actions.proofs.LossActions.Over.{all_go}
use Rattle.link_actions.specs.LossActions.Sees.{IsGoing}
use Rattle.link_actions.proofs.ResponseActions.Codes.{code_for, code_is, cut_is, never_both}
use Rattle.link_actions.proofs.ResponseActions.Ended.{limit_ended}
use Rattle.link_actions.specs.ResponseActions.Laws.{CodesStay, CutsAreCancelled, ReadsStayCounted}
use Rattle.session_actions.specs.AttemptEnds.{code_to_reset, is_framing, is_reset, with_end, with_end_in_run}
use Rattle.session_actions.specs.Attempts.{call_of}
use Rattle.session_actions.specs.Links.{has_written_end, read_bytes}
use Rattle.session_actions.specs.Responses.{is_read_by, limit_of_attempt, no_response, response, response_by, response_in, response_on, traffic_by}
use Rattle.session_actions.specs.Words.{numbered}
use Rattle.session_actions.specs.Writing.{owed_for}
use Rattle.session_actions.specs.declared.attempt.Attempt.{Attempt}
use Rattle.session_actions.specs.declared.config.ThrottleRun.{ThrottleRun}
use Rattle.session_actions.specs.declared.link.Link.{Link}
use Rattle.session_actions.specs.declared.link.Traffic.{Traffic}
use Rattle.session_actions.specs.declared.link.Traffic.TheVariants as traffic
use Rattle.session_actions.specs.declared.response.Response.{Response}
use Rattle.session_actions.specs.declared.seen.Seen.{Seen}
use Rattle.link_actions.proofs.StreamActions.Closes.{goes_open}
use Rattle.link_actions.proofs.StreamActions.Going.{response_is}
use Rattle.link_actions.specs.StreamActions.Laws.{IsOn, read_link}
use Rattle.link_actions.specs.StreamActions.Sees.{response_of}

parts : (a b : Bool) → (a && b) ≡ true → (a ≡ true) × (b ≡ true)
parts true true e = (refl, refl)
parts true false e = absurd (cc)
parts false b e = absurd (cc)

-- all that passed was read by then
pub all_read : (seen : ℕ) (ts : List Traffic) → list_all (is_read_by seen) ts ≡ true → traffic_by seen ts ≡ ts
all_read seen [] all = refl
all_read seen (t ∷ ts) all =
    let two = parts (is_read_by seen t) (list_all (is_read_by seen) ts) all in
    let none : List Traffic = [] in
    if_true (is_read_by seen t) (t ∷ traffic_by seen ts) none two.0 ∙ ap (λ (us : List Traffic). t ∷ us) (all_read seen ts two.1)

-- the response that its end saw
pub response_saw : (l : Link) (s u : Seen) (n : ℕ) (a : Attempt) (e : RowEnd) → u.links ≡ s.links → limit_of_attempt (with_end e a) u ≡ limit_of_attempt a s → numbered s.links l.number ≡ Some l
    → IsOn l s n a → e.seen ≡ read_bytes l → list_all (is_read_by (read_bytes l)) l.traffic ≡ true → response (with_end e a) u ≡ response a s
response_saw l s u n a e links limit here on seen all =
    let b : Attempt = with_end e a in
    let k : ℕ = limit_of_attempt b u in
    let saw : traffic_by e.seen l.traffic ≡ l.traffic = ap (λ (m : ℕ). traffic_by m l.traffic) seen ∙ all_read (read_bytes l) l.traffic all in
    ap (response_by b u) on.stream
    ∙ ap (λ (ls : List Link). option_map_or (response_on b n u) (option_and_then (λ at. numbered ls at.link) a.row.placed) no_response) links
    ∙ ap (λ (o : Option Link). option_map_or (response_on b n u) o no_response) (link_is l s a here on.out)
    ∙ ap (λ (ts : List Traffic). response_in k n ts) saw
    ∙ ap (λ (m : ℕ). response_in m n l.traffic) limit
    ∙ sym (response_is l s n a here on.out on.stream)

pub codes_stay : CodesStay
codes_stay l s n a e here on places seen all =
    let b : Attempt = with_end e a in
    let t : ℕ = a.place in
    let runs : List ThrottleRun = (option_map_or (with_end_in_run a e s) (call_of a s) s).runs in
    let draws : Bool = is_some e.word in
    let u : Seen = ended_seen draws a.row.call t e runs s in
    let same : response b u ≡ response a s = response_saw l s u n a e refl (limit_ended s draws a.row.call t e runs a) here on seen all in
    let code : Response → Option ℕ
    = λ p. if is_reset e.cause || is_some l.over || (has_written_end n l && p.closes) then None else if is_framing e.cause then option_and_then (λ x. x.reset) p.end else Some cancel in
    subst (λ (v : Seen). code_to_reset b e n v l ≡ code_to_reset a e n s l) (sym (is_ended s t e a places on.there)) (ap code same)

-- a frame that is read comes after all that passed
less_still : (m n k : ℕ) → nat_le k m ≡ true → m ≤ n → nat_le k n ≡ true
less_still m n k e h = grind (arith, nat_tests, e, h)

still_read : (m n : ℕ) (t : Traffic) → m ≤ n → is_read_by m t ≡ true → is_read_by n t ≡ true
still_read m n (traffic.Read r) h e = less_still m n r.end e h
still_read m n (traffic.Written x) h e = refl

all_still : (m n : ℕ) (ts : List Traffic) → m ≤ n → list_all (is_read_by m) ts ≡ true → list_all (is_read_by n) ts ≡ true
all_still m n [] h all = refl
all_still m n (t ∷ ts) h all =
    let two = parts (is_read_by m t) (list_all (is_read_by m) ts) all in
    ap (λ (b : Bool). b && list_all (is_read_by n) ts) (still_read m n t h two.0) ∙ all_still m n ts h two.1

snoc_all : (n : ℕ) (ts : List Traffic) (t : Traffic) → list_all (is_read_by n) ts ≡ true → is_read_by n t ≡ true → list_all (is_read_by n) (ts ++ t ∷ []) ≡ true
snoc_all n [] t all e = ap (λ (b : Bool). b && true) e
snoc_all n (x ∷ ts) t all e =
    let two = parts (is_read_by n x) (list_all (is_read_by n) ts) all in
    ap (λ (b : Bool). b && list_all (is_read_by n) (ts ++ t ∷ [])) two.0 ∙ snoc_all n ts t two.1 e

itself : (n : ℕ) → nat_le n n ≡ true
itself n = grind (arith, nat_tests)

pub reads_stay_counted : ReadsStayCounted
reads_stay_counted l s w r comes all =
    let frames : List FrameSeen = owed_for r.frame l s in
    let end : r.end ≡ read_bytes l + (9 + length r.frame.payload) = comes.end in
    let more : read_bytes l ≤ r.end = omega (arith, end) in
    subst (λ (n : ℕ). list_all (is_read_by n) (read_link r l s).traffic ≡ true) (sym (bytes_more l r frames))
    (snoc_all r.end l.traffic (traffic.Read r) (all_still (read_bytes l) r.end l.traffic more all) (itself r.end))

-- an attempt that is cut off, while its response goes on
pub cuts_are_cancelled : CutsAreCancelled
cuts_are_cancelled l s w g n a e is on over why =
    let q : Response = response_of l s n a in
    let we : Bool = has_written_end n l in
    let none : Option ℕ = None in
    let going : IsGoing q = all_go l s w g n a is on in
    let open_ : q.closes ≡ false = goes_open (limit_of_attempt a s) n l.traffic going.goes going.small in
    code_is l s n a e q is.sees.at on over refl ∙ ap (λ (c : RowCause). code_for c we q) (cut_is e.cause why) ∙ if_false (we && q.closes) none (Some cancel) (never_both we q.closes open_)
