-- A response is the same where the row, the limit and what passed on links are.
use Rattle.std.proofs.Common.{◌≡◌, ◌&&◌, ◌==◌, ap, refl, subst, sym, ◌∙◌, Bool, true, false, List, Option, None, Some, ℕ, if◌then◌else◌, is_none, is_some, option_and_then}
use Rattle.std.specs.Option.{option_map_or}
use Rattle.attempt_ledger.specs.declared.row.Placed.{Placed}
use Rattle.attempt_ledger.specs.declared.row.Row.{Row}
use Rattle.grpc_base.specs.Limits.{message_limit}
use Rattle.link_actions.proofs.Ended.{never_out}
use Rattle.link_actions.proofs.Lists.{both_if}
use Rattle.grpc_link.specs.Readers.{ReaderSeen}
use Rattle.link_actions.proofs.ReaderActions.Ended.{AreReset, IsOver, IsSameRow, IsSameTraffic}
use Rattle.link_actions.proofs.ReaderActions.Placed.{pick}
use Rattle.link_actions.specs.ResponseActions.Readers.{IsReader}
use Rattle.service_config.specs.Choice.{chosen_for}
use Rattle.session_actions.specs.Configs.{no_choice}
use Rattle.session_actions.specs.Reading.{is_outstanding_on}
use Rattle.session_actions.specs.Responses.{limit_of_attempt, no_response, response, response_by, response_in, traffic_by}
use Rattle.session_actions.specs.Words.{holds, numbered}
use Rattle.session_actions.specs.declared.attempt.Attempt.{Attempt}
use Rattle.session_actions.specs.declared.call.Call.{Call}
use Rattle.session_actions.specs.declared.config.HeldConfig.{HeldConfig}
use Rattle.session_actions.specs.declared.link.Link.{Link}
use Rattle.session_actions.specs.declared.link.Traffic.{Traffic}
use Rattle.session_actions.specs.declared.response.Response.{Response}
use Rattle.session_actions.specs.declared.seen.Seen.{Seen}

abbrev of_traffic : Row → ℕ → ℕ → List Traffic → Response
of_traffic row limit n ts = response_in limit n (option_map_or (λ e. traffic_by e.seen ts) row.ended ts)

abbrev of_row : Row → ℕ → (ℕ → Option Link) → Option ℕ → Response
of_row row limit look None = no_response
of_row row limit look (Some n) = option_map_or (λ (l : Link). of_traffic row limit n l.traffic) (option_and_then (λ (at : Placed). look at.link) row.placed) no_response

is_of_row : (a : Attempt) (s : Seen) (o : Option ℕ) → response_by a s o ≡ of_row a.row (limit_of_attempt a s) (numbered s.links) o
is_of_row a s None = refl
is_of_row a s (Some n) = refl

link_by : (F : List Traffic → Response) (o p : Option Link) → IsSameTraffic o p → option_map_or (λ (l : Link). F l.traffic) p no_response ≡ option_map_or (λ (l : Link). F l.traffic) o no_response
link_by F None None same = refl
link_by F (Some l) (Some m) same = ap F same
link_by F None (Some m) same = absurd same
link_by F (Some l) None same = absurd same

placed_by : (F : List Traffic → Response) (look other : ℕ → Option Link) (p : Option Placed) → ((j : ℕ) → IsSameTraffic (look j) (other j))
    → option_map_or (λ (l : Link). F l.traffic) (option_and_then (λ (at : Placed). other at.link) p) no_response
    ≡ option_map_or (λ (l : Link). F l.traffic) (option_and_then (λ (at : Placed). look at.link) p) no_response
placed_by F look other None same = refl
placed_by F look other (Some at) same = link_by F (look at.link) (other at.link) (same at.link)

row_by : (row : Row) (limit : ℕ) (look other : ℕ → Option Link) (o : Option ℕ) → ((j : ℕ) → IsSameTraffic (look j) (other j)) → of_row row limit other o ≡ of_row row limit look o
row_by row limit look other None same = refl
row_by row limit look other (Some n) same = placed_by (of_traffic row limit n) look other row.placed same

pub response_alike : (s u : Seen) (b c : Attempt) → c.row ≡ b.row → limit_of_attempt c u ≡ limit_of_attempt b s → ((j : ℕ) → IsSameTraffic (numbered s.links j) (numbered u.links j))
    → response c u ≡ response b s
response_alike s u b c row limit same =
    is_of_row c u c.row.stream
    ∙ ap (λ (x : Row). of_row x (limit_of_attempt c u) (numbered u.links) x.stream) row
    ∙ ap (λ (n : ℕ). of_row b.row n (numbered u.links) b.row.stream) limit
    ∙ row_by b.row (limit_of_attempt b s) (numbered s.links) (numbered u.links) b.row.stream same
    ∙ sym (is_of_row b s b.row.stream)

abbrev limit_by : List Call → List HeldConfig → ℕ → ℕ
limit_by calls configs number =
    option_map_or (λ (c : Call). (option_map_or (λ (h : HeldConfig). chosen_for h.config c.request.path) (option_and_then (numbered configs) c.config) no_choice).response) (numbered calls number) message_limit

pub limit_reset : (s u : Seen) (b c : Attempt) → AreReset s u → c.row ≡ b.row → limit_of_attempt c u ≡ limit_of_attempt b s
limit_reset s u b c is row =
    let first : limit_of_attempt c u ≡ limit_by u.calls u.configs c.row.call = refl in
    first ∙ ap (λ (x : Row). limit_by u.calls u.configs x.call) row ∙ ap (λ (cs : List Call). limit_by cs u.configs b.row.call) is.calls
    ∙ ap (λ (hs : List HeldConfig). limit_by s.calls hs b.row.call) is.configs

pub reader_alike : (s u : Seen) (b c : Attempt) (y : ReaderSeen) → c.row ≡ b.row → limit_of_attempt c u ≡ limit_of_attempt b s → response c u ≡ response b s → IsReader s b y → IsReader u c y
reader_alike s u b c y row limit same is = record {
  opened = ap (λ (x : Row). is_some x.stream) row ∙ is.opened;
  head = ap (λ (p : Response). is_some p.head) same ∙ is.head;
  over = is.over;
  limit = limit ∙ is.limit;
  rest = ap (λ (p : Response). p.rest) same ∙ is.rest;
  whole = is.whole;
}

-- whether an attempt is on a link
pub gone_on : (m : Link) (o p : Option Attempt) → IsOver o → IsSameRow o p → option_and_then (pick m) p ≡ None
gone_on m None None over same = refl
gone_on m (Some a) (Some b) over same =
    let ended : is_none b.row.ended ≡ false = ap (λ (x : Row). is_none x.ended) same ∙ over in
    let none : Option Attempt = None in
    let off : is_outstanding_on m b ≡ false
    = ap (λ (c : Bool). (is_some b.row.placed && c) && holds (λ (at : Placed). at.link == m.number) b.row.placed) ended
    ∙ never_out (is_some b.row.placed) (holds (λ (at : Placed). at.link == m.number) b.row.placed) in
    ap (λ (c : Bool). if c then Some b else none) off
gone_on m None (Some b) over same = absurd same
gone_on m (Some a) None over same = absurd same

pub still_on : (l m : Link) (o p : Option Attempt) → m.number ≡ l.number → IsSameRow o p → IsSameRow (option_and_then (pick l) o) (option_and_then (pick m) p)
still_on l m None None number same = tt
still_on l m (Some a) (Some b) number same =
    let on : is_outstanding_on m b ≡ is_outstanding_on l a
    = ap (λ (x : Row). (is_some x.placed && is_none x.ended) && holds (λ (at : Placed). at.link == m.number) x.placed) same
    ∙ ap (λ (n : ℕ). (is_some a.row.placed && is_none a.row.ended) && holds (λ (at : Placed). at.link == n) a.row.placed) number in
    let none : Option Attempt = None in
    subst (λ (c : Bool). IsSameRow (pick l a) (if c then Some b else none)) (sym on) (both_by a b (is_outstanding_on l a) same)
  where
    both_by : (a b : Attempt) (c : Bool) → b.row ≡ a.row → IsSameRow (if c then Some a else None) (if c then Some b else None)
    both_by a b true same = same
    both_by a b false same = tt
still_on l m None (Some b) number same = absurd same
still_on l m (Some a) None number same = absurd same
