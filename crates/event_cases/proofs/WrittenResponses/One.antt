-- One frame that is written: each attempt has the items that it had.
use Rattle.attempt_ledger.specs.declared.row.Placed.{Placed}
use Rattle.attempt_ledger.specs.declared.row.RowEnd.{RowEnd}
use Rattle.grpc_frame.specs.Messages.{framed_all}
use Rattle.h2_frame.specs.Frames.{FrameSeen}
use Rattle.h2_frame.specs.Numbers.{headers_type, ping_type, rst_stream_type, settings_type, window_update_type}
use Rattle.h2_frame.specs.Sent.{data_frame, headers_frame}
use Rattle.channel_actions.proofs.KeptSessions.Lists.{all_get}
use Rattle.event_cases.proofs.WrittenResponses.Items.{more_same, traffic_same}
use Rattle.grpc_base.specs.declared.event.Reply.{Reply}
use Rattle.session_actions.specs.Attempts.{call_of}
use Rattle.session_actions.specs.Deliveries.{response_items}
use Rattle.session_actions.specs.Links.{has_written_end, is_retiring, is_stream_before, link_of}
use Rattle.session_actions.specs.Reading.{setting, used}
use Rattle.session_actions.specs.Responses.{limit_of_attempt, no_response, response, response_by, response_in, response_on, traffic_by}
use Rattle.session_actions.specs.Words.{changed, changed_if, find_last, foremost, numbered}
use Rattle.session_actions.specs.Writing.{accepted_bytes, controls_written, data_for, data_len, data_of, data_on, has_begun, headers_for, is_control, may_open_stream, next_control, next_data, next_headers, next_stream, request_block, sendable, streaming_on, waiting_on, with_stream}
use Rattle.session_actions.specs.declared.attempt.Attempt.{Attempt}
use Rattle.session_actions.specs.declared.call.Call.{Call}
use Rattle.session_actions.specs.declared.entry.OpenEntry.{OpenEntry}
use Rattle.session_actions.specs.declared.link.Link.{Link}
use Rattle.session_actions.specs.declared.link.Sent.TheVariants as sent
use Rattle.session_actions.specs.declared.link.Sent.{Sent}
use Rattle.session_actions.specs.declared.link.Traffic.TheVariants as traffic
use Rattle.session_actions.specs.declared.seen.Seen.{Seen}
use Rattle.session_order.proofs.Changed.{changed_away, changed_here}
use Rattle.std.proofs.Common.{Bool, List, None, Option, Some, [], ap, drop, eqb-true, false, filter, if◌then◌else◌, is_some, length, not, option_and_then, option_map, refl, slice_get, subst, suc, sym, take, true, zero, ℕ, ◌&&◌, ◌+◌, ◌++◌, ◌-◌, ◌==◌, ◌||◌, ◌∙◌, ◌∷◌, ◌≡◌}
use Rattle.std.proofs.lemmas.Bool.{and_parts, eqb-false}
use Rattle.std.specs.List.{list_all}
use Rattle.std.specs.Option.{option_map_or, option_or}
use Rattle.std.specs.Prelude.{nat_lt, slice_set}

one_of : {X : Type 0} (o : Option X) (x y : X) → o ≡ Some x → o ≡ Some y → x ≡ y
one_of None x y e f = absurd (cc)
one_of (Some z) x y e f = (cc)

-- a list of which each thing is as before for a test and a value has the same value of the last that passes
module _ (p : Attempt → Bool) (g h : Attempt → List Reply) where
  abbrev pub Both : List Attempt → List Attempt → Type 0
  Both [] [] = Unit {0}
  Both (a ∷ as_) (z ∷ zs) = ((p z ≡ p a) × (h z ≡ g a)) × Both as_ zs
  Both _ _ = ⊥

  first_by : (a z : Attempt) (b c : Bool) → b ≡ c → h z ≡ g a
      → (option_map_or h (if b then Some z else None) [] ≡ option_map_or g (if c then Some a else None) []) × (is_some (if b then Some z else None) ≡ is_some (if c then Some a else None))
  first_by a z true true e same = (same, refl)
  first_by a z false false e same = (refl, refl)
  first_by a z true false e same = absurd (cc)
  first_by a z false true e same = absurd (cc)

  value_or : (o q : Option Attempt) (a z : Attempt) → option_map_or h q [] ≡ option_map_or g o [] → is_some q ≡ is_some o → p z ≡ p a → h z ≡ g a
      → (option_map_or h (option_or q (if p z then Some z else None)) [] ≡ option_map_or g (option_or o (if p a then Some a else None)) [])
      × (is_some (option_or q (if p z then Some z else None)) ≡ is_some (option_or o (if p a then Some a else None)))
  value_or None None a z e there test same = first_by a z (p z) (p a) test same
  value_or (Some x) (Some y) a z e there test same = (e, refl)
  value_or None (Some y) a z e there test same = absurd (cc)
  value_or (Some x) None a z e there test same = absurd (cc)

  value_both : (xs ys : List Attempt) → Both xs ys
      → (option_map_or h (find_last p ys) [] ≡ option_map_or g (find_last p xs) []) × (is_some (find_last p ys) ≡ is_some (find_last p xs))
  value_both [] [] e = (refl, refl)
  value_both (a ∷ xs) (z ∷ ys) e =
      let rest : (option_map_or h (find_last p ys) [] ≡ option_map_or g (find_last p xs) []) × (is_some (find_last p ys) ≡ is_some (find_last p xs)) = value_both xs ys e.1 in
      value_or (find_last p xs) (find_last p ys) a z rest.0 rest.1 e.0.0 e.0.1
  value_both [] (z ∷ ys) e = absurd e
  value_both (a ∷ xs) [] e = absurd e

  pub value_same : (xs ys : List Attempt) → Both xs ys → option_map_or h (find_last p ys) [] ≡ option_map_or g (find_last p xs) []
  value_same xs ys e = (value_both xs ys e).0

  pub both_same : (xs : List Attempt) → ((i : ℕ) (a : Attempt) → slice_get xs i ≡ Some a → h a ≡ g a) → Both xs xs
  both_same [] each = tt
  both_same (a ∷ xs) each = ((refl, each 0 a refl), both_same xs (λ i b got. each (suc i) b got))

  both_set : (xs : List Attempt) (i : ℕ) (z : Attempt) → ((j : ℕ) (a : Attempt) → slice_get xs j ≡ Some a → h a ≡ g a)
      → ((a : Attempt) → slice_get xs i ≡ Some a → (p z ≡ p a) × (h z ≡ g a)) → Both xs (slice_set xs i z)
  both_set [] i z each one = tt
  both_set (a ∷ xs) zero z each one = (one a refl, both_same xs (λ j b got. each (suc j) b got))
  both_set (a ∷ xs) (suc i) z each one = ((refl, each 0 a refl), both_set xs i z (λ j b got. each (suc j) b got) one)

  pub both_changed : (f : Attempt → Attempt) (n : ℕ) (xs : List Attempt) (a : Attempt) → numbered xs n ≡ Some a → ((j : ℕ) (b : Attempt) → slice_get xs j ≡ Some b → h b ≡ g b)
      → p (f a) ≡ p a → h (f a) ≡ g a → Both xs (changed f n xs)
  both_changed f zero xs a at each test same = absurd (cc)
  both_changed f (suc i) xs a at each test same =
      subst (λ (o : Option Attempt). Both xs (changed_if f (suc i) xs o)) (sym at)
      (both_set xs i (f a) each
      (λ b got.
      (let one : a ≡ b = one_of (slice_get xs i) a b at got in
      (ap (λ (c : Attempt). p (f a)) one ∙ (test ∙ ap p one), same ∙ ap g one))))

-- HEADERS are sent only while no GOAWAY came
module _ (l : Link) (s : Seen) where
  abbrev OpenIf : Option Sent → Type 0
  OpenIf None = Unit {0}
  OpenIf (Some sent.Preface) = Unit {0}
  OpenIf (Some (sent.Frame f)) = (f.kind == headers_type) ≡ true → is_retiring l ≡ false

  open_or : (o q : Option Sent) → OpenIf o → OpenIf q → OpenIf (option_or o q)
  open_or None q f g = g
  open_or (Some x) q f g = f

  open_if : (b : Bool) (o q : Option Sent) → OpenIf o → OpenIf q → OpenIf (if b then o else q)
  open_if true o q f g = f
  open_if false o q f g = g

  open_then : {X : Type 0} (f : X → Option Sent) → ((x : X) → OpenIf (f x)) → (o : Option X) → OpenIf (option_and_then f o)
  open_then f each None = tt
  open_then f each (Some x) = each x

  no_headers : (kind : ℕ) → ((kind == settings_type) || (kind == ping_type) || (kind == window_update_type) || (kind == rst_stream_type)) ≡ true → (kind == headers_type) ≡ true → ⊥
  no_headers kind control e =
      let is : kind ≡ headers_type = eqb-true kind headers_type e in
      let no : false ≡ true = sym (ap (λ (n : ℕ). (n == settings_type) || (n == ping_type) || (n == window_update_type) || (n == rst_stream_type)) is) ∙ control in absurd (cc)

  control_open : (n : ℕ) (o : Option FrameSeen) → slice_get l.owed n ≡ o → list_all is_control l.owed ≡ true → OpenIf (option_map (λ (f : FrameSeen). sent.Frame f) o)
  control_open n None got e = tt
  control_open n (Some f) got e = λ kind. absurd (no_headers f.kind (all_get is_control l.owed n f e got) kind)

  headers_open : (a : Attempt) (o : Option Call) → is_retiring l ≡ false → OpenIf (option_map (λ (c : Call). sent.Frame (headers_frame (next_stream l) (request_block c a l s))) o)
  headers_open a None open_ = tt
  headers_open a (Some c) open_ = λ kind. open_

  headers_if : (b : Bool) → (b ≡ true → is_retiring l ≡ false) → OpenIf (if b then option_and_then (headers_for l s) (slice_get (waiting_on l s) 0) else None)
  headers_if true may = open_then (headers_for l s) (λ a. headers_open a (call_of a s) (may refl)) (slice_get (waiting_on l s) 0)
  headers_if false may = tt

  not_true : (b : Bool) → not b ≡ true → b ≡ false
  not_true true e = let no : false ≡ true = e in absurd (cc)
  not_true false e = refl

  data_by : (stream : ℕ) (content : List ℕ) (ends b : Bool) → OpenIf (if b then Some (sent.Frame (data_frame stream content ends)) else None)
  data_by stream content ends true = λ kind. absurd (let no : false ≡ true = kind in (cc))
  data_by stream content ends false = tt

  data_on_open : (stream : ℕ) (c : Call) (b : Bool) (len : ℕ) → OpenIf (if b then None else data_of c l stream len)
  data_on_open stream c true len = tt
  data_on_open stream c false len =
      let done : ℕ = used stream l in
      let ends : Bool = c.finished && (done + len == accepted_bytes c) in data_by stream (take len (drop done (framed_all c.messages))) ends (nat_lt 0 len || ends)

  data_open : (a : Attempt) → OpenIf (data_for l s a)
  data_open a =
      open_then (λ (stream : ℕ). option_and_then (data_on l stream) (call_of a s))
      (λ stream.
      open_then (data_on l stream) (λ c. data_on_open stream c (has_written_end stream l) (data_len l stream (accepted_bytes c - used stream l))) (call_of a s))
      a.row.stream

  sends_open : list_all is_control l.owed ≡ true → OpenIf (sendable l s)
  sends_open e =
      open_if (not (has_begun l)) (Some sent.Preface) (option_or (next_control l) (option_or (next_headers l s) (next_data l s))) tt
      (open_or (next_control l) (option_or (next_headers l s) (next_data l s)) (control_open (controls_written l) (slice_get l.owed (controls_written l)) refl e)
      (open_or (next_headers l s) (next_data l s)
      (headers_if (may_open_stream l s)
      (λ may.
      not_true (is_retiring l) (and_parts (not (is_retiring l)) (option_map_or (λ (most : ℕ). nat_lt (length (streaming_on l s)) most) (setting 3 l) true) may).0))
      (open_then (data_for l s) data_open (foremost is_stream_before (filter (λ (a : Attempt). is_some (data_for l s a)) (streaming_on l s))))))

  pub headers_go : (f : FrameSeen) → sendable l s ≡ Some (sent.Frame f) → list_all is_control l.owed ≡ true → (f.kind == headers_type) ≡ true → is_retiring l ≡ false
  headers_go f is e = subst OpenIf is (sends_open e)

-- the state after one frame: attempts may have streams, the link has it, and the entry its bytes
abbrev with_sent : Sent → Link → Link
with_sent x l = record l { traffic = l.traffic ++ traffic.Written x ∷ [] }

module _ (s : Seen) (l : Link) (x : Sent) (line : numbered s.links l.number ≡ Some l) (ys : List Attempt) (current : Option OpenEntry) where
  abbrev m : Seen
  m = record s { attempts = ys; links = changed (with_sent x) l.number s.links; current = current }

  on_by : (a : Attempt) (n : ℕ) (at : Placed) (b : Bool) → (at.link == l.number) ≡ b
      → response_items (option_map_or (response_on a n m) (numbered (changed (with_sent x) l.number s.links) at.link) no_response)
      ≡ response_items (option_map_or (response_on a n s) (numbered s.links at.link) no_response)
  on_by a n at false is =
      ap (λ (o : Option Link). response_items (option_map_or (response_on a n s) o no_response)) (changed_away (with_sent x) l.number at.link s.links (eqb-false at.link l.number is))
  on_by a n at true is =
      let here : at.link ≡ l.number = eqb-true at.link l.number is in
      ap (λ (k : ℕ). response_items (option_map_or (response_on a n s) (numbered (changed (with_sent x) l.number s.links) k) no_response)) here
      ∙ (ap (λ (o : Option Link). response_items (option_map_or (response_on a n s) o no_response)) (changed_here (with_sent x) l.number s.links l line)
      ∙ (traffic_same (limit_of_attempt a s) n a l.traffic x
      ∙ (sym (ap (λ (o : Option Link). response_items (option_map_or (response_on a n s) o no_response)) line)
      ∙ sym (ap (λ (k : ℕ). response_items (option_map_or (response_on a n s) (numbered s.links k) no_response)) here))))

  placed_by : (a : Attempt) (n : ℕ) (p : Option Placed)
      → response_items (option_map_or (response_on a n m) (option_and_then (λ (at : Placed). numbered (changed (with_sent x) l.number s.links) at.link) p) no_response)
      ≡ response_items (option_map_or (response_on a n s) (option_and_then (λ (at : Placed). numbered s.links at.link) p) no_response)
  placed_by a n None = refl
  placed_by a n (Some at) = on_by a n at (at.link == l.number) refl

  stream_by : (a : Attempt) (q : Option ℕ)
      → response_items (option_map_or (λ (n : ℕ). option_map_or (response_on a n m) (link_of a m) no_response) q no_response)
      ≡ response_items (option_map_or (λ (n : ℕ). option_map_or (response_on a n s) (link_of a s) no_response) q no_response)
  stream_by a None = refl
  stream_by a (Some n) = placed_by a n a.row.placed

  by_same : (a : Attempt) (t : Seen) (q : Option ℕ) → response_items (response_by a t q) ≡ response_items (option_map_or (λ (n : ℕ). option_map_or (response_on a n t) (link_of a t) no_response) q no_response)
  by_same a t None = refl
  by_same a t (Some n) = refl

  pub items_left : (a : Attempt) → response_items (response a m) ≡ response_items (response a s)
  items_left a = by_same a m a.row.stream ∙ (stream_by a a.row.stream ∙ sym (by_same a s a.row.stream))

  -- one that gets the next stream has none before and after
  none_by : (a : Attempt) (q : Option ℕ) → q ≡ None → response_items (response_by a s q) ≡ []
  none_by a None e = refl
  none_by a (Some n) e = absurd (cc)

  pub items_opened : (a : Attempt) (at : Placed) (n : ℕ) → a.row.placed ≡ Some at → at.link ≡ l.number → a.row.ended ≡ None → a.row.stream ≡ None
      → response_items (response_in (limit_of_attempt a s) n l.traffic) ≡ [] → response_items (response (with_stream n a) m) ≡ response_items (response a s)
  items_opened a at n on here goes none blank =
      ap (λ (o : Option Link). response_items (option_map_or (response_on (with_stream n a) n m) o no_response))
      (ap (option_and_then (λ (p : Placed). numbered (changed (with_sent x) l.number s.links) p.link)) on
      ∙ (ap (numbered (changed (with_sent x) l.number s.links)) here ∙ changed_here (with_sent x) l.number s.links l line))
      ∙ (ap (λ (o : Option RowEnd). response_items (response_in (limit_of_attempt a s) n
      (option_map_or (λ (e : RowEnd). traffic_by e.seen (l.traffic ++ traffic.Written x ∷ [])) o (l.traffic ++ traffic.Written x ∷ [])))) goes
      ∙ (more_same (limit_of_attempt a s) n l.traffic x ∙ (blank ∙ sym (none_by a a.row.stream none))))
