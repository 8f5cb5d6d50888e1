-- What came of an attempt, by the traffic of its link, its stream, its end, and the longest message that its call allows.
use Rattle.attempt_ledger.specs.declared.row.Placed.{Placed}
use Rattle.attempt_ledger.specs.declared.row.RowEnd.{RowEnd}
use Rattle.grpc_base.specs.Limits.{message_limit}
use Rattle.grpc_base.specs.declared.event.Reply.{Reply}
use Rattle.service_config.specs.Choice.{chosen_for}
use Rattle.session_actions.specs.Configs.{chosen_of, no_choice}
use Rattle.session_actions.specs.Deliveries.{response_items}
use Rattle.session_actions.specs.Links.{link_of}
use Rattle.session_actions.specs.Responses.{limit_of_attempt, no_response, response_by, response_in, response_on, traffic_by}
use Rattle.session_actions.specs.Words.{changed, numbered}
use Rattle.session_actions.specs.declared.attempt.Attempt.{Attempt}
use Rattle.session_actions.specs.declared.call.Call.{Call}
use Rattle.session_actions.specs.declared.config.HeldConfig.{HeldConfig}
use Rattle.session_actions.specs.declared.link.Link.{Link}
use Rattle.session_actions.specs.declared.link.Traffic.{Traffic}
use Rattle.session_actions.specs.declared.seen.Seen.{Seen}
use Rattle.session_order.proofs.Changed.{lookup}
use Rattle.session_order.proofs.SessionLaws.Same.{CallKey, call_key}
use Rattle.session_takes.proofs.Prefixes.{prefix_same}
use Rattle.session_takes.proofs.Pairs.{Moves, items}
use Rattle.std.proofs.Common.{List, None, Option, Some, [], ap, is_some, refl, sym, true, ℕ, ◌∙◌, ◌≡◌}
use Rattle.std.specs.Option.{option_map, option_map_or}
use Rattle.std.specs.Prelude.{option_and_then}

abbrev pub traffic_on : Attempt → List Link → Option (List Traffic)
traffic_on a links = option_map (λ l. l.traffic) (option_and_then (λ at. numbered links at.link) a.row.placed)

abbrev pub seen_of : Option RowEnd → List Traffic → List Traffic
seen_of ended ts = option_map_or (λ e. traffic_by e.seen ts) ended ts

abbrev pub items_at : ℕ → Option RowEnd → Option (List Traffic) → Option ℕ → List Reply
items_at limit ended o None = []
items_at limit ended None (Some stream) = []
items_at limit ended (Some ts) (Some stream) = response_items (response_in limit stream (seen_of ended ts))

items_by : (a : Attempt) (s : Seen) (o : Option Link) (stream : ℕ)
    → response_items (option_map_or (response_on a stream s) o no_response) ≡ items_at (limit_of_attempt a s) a.row.ended (option_map (λ (l : Link). l.traffic) o) (Some stream)
items_by a s None stream = refl
items_by a s (Some l) stream = refl

items_of : (a : Attempt) (s : Seen) (stream : Option ℕ) → response_items (response_by a s stream) ≡ items_at (limit_of_attempt a s) a.row.ended (traffic_on a s.links) stream
items_of a s None = refl
items_of a s (Some stream) = items_by a s (link_of a s) stream

pub items_is : (a : Attempt) (s : Seen) → items a s ≡ items_at (limit_of_attempt a s) a.row.ended (traffic_on a s.links) a.row.stream
items_is a s = items_of a s a.row.stream

-- the longest message
abbrev limit_by : List HeldConfig → Option CallKey → ℕ
limit_by configs o =
    option_map_or (λ (key : CallKey). (option_map_or (λ (h : HeldConfig). chosen_for h.config key.0.path) (option_and_then (numbered configs) key.1.0) no_choice).response) o message_limit

limit_of : (s : Seen) (o : Option Call) → option_map_or (λ (c : Call). (chosen_of c s).response) o message_limit ≡ limit_by s.configs (option_map call_key o)
limit_of s None = refl
limit_of s (Some c) = refl

-- calls keep their requests and configs
pub record KeepsLimits (s t : Seen) : Type 0 where
  pub calls : (n : ℕ) → option_map call_key (numbered t.calls n) ≡ option_map call_key (numbered s.calls n)
  pub configs : t.configs ≡ s.configs

pub limit_same : (s t : Seen) (a b : Attempt) → KeepsLimits s t → b.row.call ≡ a.row.call → limit_of_attempt b t ≡ limit_of_attempt a s
limit_same s t a b k e =
    limit_of t (numbered t.calls b.row.call)
    ∙ ap (λ (cs : List HeldConfig). limit_by cs (option_map call_key (numbered t.calls b.row.call))) k.configs
    ∙ ap (λ (n : ℕ). limit_by s.configs (option_map call_key (numbered t.calls n))) e
    ∙ ap (limit_by s.configs) (k.calls a.row.call)
    ∙ sym (limit_of s (numbered s.calls a.row.call))

-- with all of that the same, the same came
pub record IsAlike (s t : Seen) (a b : Attempt) : Type 0 where
  pub limit : limit_of_attempt b t ≡ limit_of_attempt a s
  pub ended : b.row.ended ≡ a.row.ended
  pub traffic : traffic_on b t.links ≡ traffic_on a s.links
  pub stream : b.row.stream ≡ a.row.stream

pub alike_items : (s t : Seen) (a b : Attempt) → IsAlike s t a b → items b t ≡ items a s
alike_items s t a b k =
    items_is b t
    ∙ ap (λ (n : ℕ). items_at n b.row.ended (traffic_on b t.links) b.row.stream) k.limit
    ∙ ap (λ (e : Option RowEnd). items_at (limit_of_attempt a s) e (traffic_on b t.links) b.row.stream) k.ended
    ∙ ap (λ (o : Option (List Traffic)). items_at (limit_of_attempt a s) a.row.ended o b.row.stream) k.traffic
    ∙ ap (λ (o : Option ℕ). items_at (limit_of_attempt a s) a.row.ended (traffic_on a s.links) o) k.stream
    ∙ sym (items_is a s)

-- an attempt that keeps its call and its commitment, and of which the same came
pub row_moves : (c : Call) (s t : Seen) (a b : Attempt) → b.row.call ≡ a.row.call → is_some b.row.committed ≡ is_some a.row.committed → (is_some a.row.ended ≡ true → b.row.ended ≡ a.row.ended)
    → items b t ≡ items a s → Moves c s t a b
row_moves c s t a b call committed ended same = record {
  call = call;
  committed = committed;
  receives = λ mine. record { prefix = prefix_same (items a s) (items b t) same; still = λ e. same; ended = ended };
}

-- nothing came before a stream
pub no_stream : (a : Attempt) (s : Seen) → a.row.stream ≡ None → items a s ≡ []
no_stream a s e = items_is a s ∙ ap (items_at (limit_of_attempt a s) a.row.ended (traffic_on a s.links)) e

-- links that change, but not in what passed on them
pub traffic_kept : (f : Link → Link) → ((l : Link) → (f l).traffic ≡ l.traffic) → (n : ℕ) (links : List Link) (a : Attempt) → traffic_on a (changed f n links) ≡ traffic_on a links
traffic_kept f same n links a = by a.row.placed
  where
    by : (o : Option Placed) → option_map (λ (l : Link). l.traffic) (option_and_then (λ (at : Placed). numbered (changed f n links) at.link) o)
        ≡ option_map (λ (l : Link). l.traffic) (option_and_then (λ (at : Placed). numbered links at.link) o)
    by None = refl
    by (Some at) = lookup (option_map (λ (l : Link). l.traffic)) f (λ l. ap (λ (ts : List Traffic). Some ts) (same l)) n links at.link
