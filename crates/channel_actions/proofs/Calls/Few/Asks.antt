-- No more picks are requested than attempts are made: each request is of an attempt that waits, and its answer is acted on before the next one is made, so that the
-- attempt waits no more.
use Rattle.attempt_ledger.specs.declared.ledger.Ask.{Ask}
use Rattle.attempt_ledger.specs.declared.row.Placed.{Placed}
use Rattle.attempt_ledger.specs.declared.row.RowKind.{RowKind}
use Rattle.channel_actions.proofs.Changes.{Small, noted_now, placed_in, read_in, small_in, sub_now, taken_in, turned_now, written_in}
use Rattle.channel_actions.proofs.Calls.Few.Begins.{IsOfStage, is_stage_next}
use Rattle.channel_actions.proofs.Calls.Few.Decides.{is_decided, is_waiting, picks_decide}
use Rattle.channel_actions.proofs.KeptSessions.Along.{kept_begins, kept_stays}
use Rattle.channel_actions.proofs.KeptSessions.Lists.{all_at, all_more, get_more, last_more}
use Rattle.channel_actions.specs.FewCalls.Laws.{AsksAreFew}
use Rattle.channel_actions.specs.KeptSessions.Kept.{IsKept, has_link_for, is_sound_ask}
use Rattle.grpc_base.specs.declared.address.Address.{Address}
use Rattle.grpc_base.specs.declared.event.Entry.{Entry}
use Rattle.grpc_base.specs.declared.event.Event.TheVariants as event
use Rattle.grpc_base.specs.declared.event.Event.{Event}
use Rattle.grpc_base.specs.declared.event.Reply.TheVariants as reply
use Rattle.grpc_base.specs.declared.event.Reply.{Reply}
use Rattle.grpc_base.specs.declared.kind.Pick.TheVariants as pick
use Rattle.grpc_base.specs.declared.kind.Pick.{Pick}
use Rattle.lb_policy.specs.Laws.{PicksFollowState}
use Rattle.session_actions.specs.Actions.{after, after_if, after_in}
use Rattle.session_actions.specs.Attempts.{with_attempt}
use Rattle.session_actions.specs.Calls.{with_call}
use Rattle.session_actions.specs.Closing.{entry_made}
use Rattle.session_actions.specs.Deliveries.{begun_call, call_begun_by, item_taken}
use Rattle.session_actions.specs.Entries.{entry, now, opened, replied, settling}
use Rattle.session_actions.specs.Links.{with_link}
use Rattle.session_actions.specs.Making.{new_row, with_row}
use Rattle.session_actions.specs.Policies.{follow_ask, follow_pick, is_unfollowed, next_of_pick, pick_requested, placed_on, turn_at, with_placing}
use Rattle.session_actions.specs.Sessions.{Does, IsNext, new_session}
use Rattle.session_actions.specs.Subchannels.{dial_taken_of, link_up, new_link, sub_added, with_dial, with_sub}
use Rattle.session_actions.specs.Words.{changed, changed_if, holds, last_of, numbered}
use Rattle.session_actions.specs.Writing.{with_frame_read, with_piece, with_stream}
use Rattle.session_actions.specs.declared.action.Action.TheVariants as action
use Rattle.session_actions.specs.declared.action.Action.{Action}
use Rattle.session_actions.specs.declared.attempt.Attempt.{Attempt}
use Rattle.session_actions.specs.declared.call.Call.{Call}
use Rattle.session_actions.specs.declared.entry.OpenEntry.{OpenEntry}
use Rattle.session_actions.specs.declared.entry.Stage.TheVariants as stage
use Rattle.session_actions.specs.declared.link.Link.{Link}
use Rattle.session_actions.specs.declared.link.Traffic.TheVariants as traffic
use Rattle.session_actions.specs.declared.seen.Seen.{Seen}
use Rattle.session_actions.specs.declared.seen.Setup.{Setup}
use Rattle.session_actions.specs.declared.subchannel.Subchannel.{Subchannel}
use Rattle.session_order.proofs.Changed.{changed_away, changed_map}
use Rattle.session_order.proofs.Lists.{or_none}
use Rattle.std.proofs.Common.{Bool, List, None, Option, Some, [], ap, arith, false, if◌then◌else◌, is_none, is_some, length, not, option_and_then, option_map, pred, refl, slice_get, slice_set, subst, suc, sym, true, zero, ℕ, ◌&&◌, ◌++◌, ◌+◌, ◌==◌, ◌||◌, ◌∙◌, ◌∷◌, ◌≡◌, ◌≤◌}
use Rattle.std.proofs.lemmas.Bool.{eq-eqb, eqb-false, eqb-true}
use Rattle.std.proofs.lemmas.List.{length-append}
use Rattle.std.specs.List.{list_all}
use Rattle.std.specs.Option.{option_map_or}

-- attempts that wait no more
abbrev one_past : Attempt → ℕ
one_past a = if is_unfollowed a then 0 else 1

abbrev past : List Attempt → ℕ
past [] = 0
past (a ∷ attempts) = one_past a + past attempts

-- whether the attempt of a pick request of this entry still waits
abbrev one_if : Bool → ℕ
one_if b = if b then 1 else 0

abbrev pending : List Attempt → ℕ → Ask → ℕ
pending attempts n k = one_if (holds is_unfollowed (numbered attempts k.row) && (k.entry == n))

abbrev pending_in : Seen → ℕ
pending_in s = if is_some s.current then option_map_or (pending s.attempts (entry s)) (last_of s.asks) 0 else 0

-- what a change keeps
record Waits (s t : Seen) : Type 0 where
  asks : t.asks ≡ s.asks
  entries : entry t ≡ entry s
  current : is_some t.current ≡ is_some s.current
  grows : past s.attempts ≤ past t.attempts
  more : (n : ℕ) (k : Ask) → past s.attempts + pending s.attempts n k ≤ past t.attempts + pending t.attempts n k

-- what holds of every session
record IsAsking (s : Seen) : Type 0 where
  few : length s.asks ≤ past s.attempts + pending_in s
  answers : list_all (λ (k : Ask). is_decided k.answer) s.asks ≡ true

less_on : (a b c : ℕ) → a ≤ b → b ≤ c → a ≤ c
less_on a b c e f = omega (arith, e, f)

itself : (n : ℕ) → n ≤ n
itself n = omega arith

joined : (s t u : Seen) → Waits s t → Waits t u → Waits s u
joined s t u c d = record {
  asks = d.asks ∙ c.asks;
  entries = d.entries ∙ c.entries;
  current = d.current ∙ c.current;
  grows = less_on (past s.attempts) (past t.attempts) (past u.attempts) c.grows d.grows;
  more = λ n k. less_on (past s.attempts + pending s.attempts n k) (past t.attempts + pending t.attempts n k) (past u.attempts + pending u.attempts n k) (c.more n k) (d.more n k);
}

-- so what holds of every session is kept
kept_by : (s t : Seen) → Waits s t → (b : Bool) (o : Option Ask) → length s.asks ≤ past s.attempts + (if b then option_map_or (pending s.attempts (entry s)) o 0 else 0)
    → length s.asks ≤ past t.attempts + (if b then option_map_or (pending t.attempts (entry s)) o 0 else 0)
kept_by s t c false o e = (let g : past s.attempts ≤ past t.attempts = c.grows in omega (arith, e, g))
kept_by s t c true None e = (let g : past s.attempts ≤ past t.attempts = c.grows in omega (arith, e, g))
kept_by s t c true (Some k) e =
    less_on (length s.asks) (past s.attempts + pending s.attempts (entry s) k) (past t.attempts + pending t.attempts (entry s) k) e (c.more (entry s) k)

kept : (s t : Seen) → Waits s t → IsAsking s → IsAsking t
kept s t c k =
    let one : length s.asks ≤ past t.attempts + (if is_some s.current then option_map_or (pending t.attempts (entry s)) (last_of s.asks) 0 else 0)
    = kept_by s t c (is_some s.current) (last_of s.asks) k.few in
    let two : length t.asks ≤ past t.attempts + (if is_some s.current then option_map_or (pending t.attempts (entry s)) (last_of t.asks) 0 else 0)
    = subst (λ (l : List Ask). length l ≤ past t.attempts + (if is_some s.current then option_map_or (pending t.attempts (entry s)) (last_of l) 0 else 0)) (sym c.asks) one in
    let three : length t.asks ≤ past t.attempts + (if is_some s.current then option_map_or (pending t.attempts (entry t)) (last_of t.asks) 0 else 0)
    = subst (λ (n : ℕ). length t.asks ≤ past t.attempts + (if is_some s.current then option_map_or (pending t.attempts n) (last_of t.asks) 0 else 0)) (sym c.entries) two in
    record {
      few = subst (λ (b : Bool). length t.asks ≤ past t.attempts + (if b then option_map_or (pending t.attempts (entry t)) (last_of t.asks) 0 else 0)) (sym c.current) three;
      answers = ap (list_all (λ (q : Ask). is_decided q.answer)) c.asks ∙ k.answers;
    }

-- where attempts are as before
aside : (s t : Seen) → t.entries ≡ s.entries → t.current ≡ s.current → t.attempts ≡ s.attempts → t.asks ≡ s.asks → Waits s t
aside s t entries current attempts asks = record {
  asks = asks;
  entries = ap (λ (es : List Entry). length es + (if is_some t.current then 1 else 0)) entries ∙ ap (λ (c : Option OpenEntry). length s.entries + (if is_some c then 1 else 0)) current;
  current = ap is_some current;
  grows = subst (λ (l : List Attempt). past s.attempts ≤ past l) (sym attempts) (itself (past s.attempts));
  more = λ n k. subst (λ (l : List Attempt). past s.attempts + pending s.attempts n k ≤ past l + pending l n k) (sym attempts) (itself (past s.attempts + pending s.attempts n k));
}

-- the open entry, changed
some_by : (f : OpenEntry → OpenEntry) (c : Option OpenEntry) → is_some (option_map f c) ≡ is_some c
some_by f None = refl
some_by f (Some o) = refl

entered : (f : OpenEntry → OpenEntry) (s : Seen) → Waits s (record s { current = option_map f s.current })
entered f s = record {
  asks = refl;
  entries = ap (λ (b : Bool). length s.entries + (if b then 1 else 0)) (some_by f s.current);
  current = some_by f s.current;
  grows = itself (past s.attempts);
  more = λ n k. itself (past s.attempts + pending s.attempts n k);
}

-- one attempt, changed, so that it does not wait again
past_set : (attempts : List Attempt) (i : ℕ) (x y : Attempt) → slice_get attempts i ≡ Some x → past (slice_set attempts i y) + one_past x ≡ past attempts + one_past y
past_set [] i x y e = absurd (cc)
past_set (a ∷ attempts) zero x y e = first_on (one_past y) (past attempts) (one_past x) (one_past a) (let one : a ≡ x = (cc) in ap one_past one)
  where
    first_on : (n m k j : ℕ) → j ≡ k → n + m + k ≡ j + m + n
    first_on n m k j e = omega (arith, e)
past_set (a ∷ attempts) (suc i) x y e = rest_on (one_past a) (past (slice_set attempts i y)) (one_past x) (past attempts) (one_past y) (past_set attempts i x y e)
  where
    rest_on : (n m k j i : ℕ) → m + k ≡ j + i → n + m + k ≡ n + j + i
    rest_on n m k j i e = omega (arith, e)

-- (of it, by what it was and is)
one_more : (b c : Bool) → (c ≡ true → b ≡ true) → (p q : ℕ) → p + (if b then 0 else 1) ≡ q + (if c then 0 else 1) → q ≤ p
one_more true true waits p q e = omega (arith, e)
one_more true false waits p q e = omega (arith, e)
one_more false true waits p q e = absurd (let bad : false ≡ true = waits refl in (cc))
one_more false false waits p q e = omega (arith, e)

both_more : (b c d : Bool) → (c ≡ true → b ≡ true) → (p q : ℕ) → p + (if b then 0 else 1) ≡ q + (if c then 0 else 1) → q + one_if (b && d) ≤ p + one_if (c && d)
both_more true true true waits p q e = omega (arith, e)
both_more true true false waits p q e = omega (arith, e)
both_more true false true waits p q e = omega (arith, e)
both_more true false false waits p q e = omega (arith, e)
both_more false true d waits p q e = absurd (let bad : false ≡ true = waits refl in (cc))
both_more false false d waits p q e = omega (arith, e)

module _ (f : Attempt → Attempt) (waits : (a : Attempt) → is_unfollowed (f a) ≡ true → is_unfollowed a ≡ true) where
  past_by : (place : ℕ) (attempts : List Attempt) (o : Option Attempt) → numbered attempts place ≡ o → past attempts ≤ past (changed_if f place attempts o)
  past_by place attempts None e = itself (past attempts)
  past_by zero attempts (Some x) e = absurd (cc)
  past_by (suc i) attempts (Some x) e = one_more (is_unfollowed x) (is_unfollowed (f x)) (waits x) (past (slice_set attempts i (f x))) (past attempts) (past_set attempts i x (f x) e)

  here_by : (place : ℕ) (attempts : List Attempt) (d : Bool) (o : Option Attempt) → numbered attempts place ≡ o
      → past attempts + one_if (holds is_unfollowed o && d) ≤ past (changed_if f place attempts o) + one_if (holds is_unfollowed (option_map f o) && d)
  here_by place attempts d None e = itself (past attempts + one_if (false && d))
  here_by zero attempts d (Some x) e = absurd (cc)
  here_by (suc i) attempts d (Some x) e =
      both_more (is_unfollowed x) (is_unfollowed (f x)) d (waits x) (past (slice_set attempts i (f x))) (past attempts) (past_set attempts i x (f x) e)

  pending_by : (place : ℕ) (attempts : List Attempt) (n : ℕ) (k : Ask) (b : Bool) → (k.row == place) ≡ b
      → past attempts + pending attempts n k ≤ past (changed f place attempts) + pending (changed f place attempts) n k
  pending_by place attempts n k true e =
      let same : k.row ≡ place = eqb-true k.row place e in
      let here : past attempts + one_if (holds is_unfollowed (numbered attempts place) && (k.entry == n))
      ≤ past (changed f place attempts) + one_if (holds is_unfollowed (numbered (changed f place attempts) place) && (k.entry == n))
      = subst (λ (o : Option Attempt). past attempts + one_if (holds is_unfollowed (numbered attempts place) && (k.entry == n)) ≤ past (changed f place attempts) + one_if (holds is_unfollowed o && (k.entry == n)))
      (sym (changed_map f place attempts)) (here_by place attempts (k.entry == n) (numbered attempts place) refl) in
      subst (λ (r : ℕ). past attempts + one_if (holds is_unfollowed (numbered attempts r) && (k.entry == n))
      ≤ past (changed f place attempts) + one_if (holds is_unfollowed (numbered (changed f place attempts) r) && (k.entry == n))) (sym same) here
  pending_by place attempts n k false e =
      let away : numbered (changed f place attempts) k.row ≡ numbered attempts k.row = changed_away f place k.row attempts (eqb-false k.row place e) in
      subst (λ (o : Option Attempt). past attempts + pending attempts n k ≤ past (changed f place attempts) + one_if (holds is_unfollowed o && (k.entry == n))) (sym away)
      (plus_less (past attempts) (past (changed f place attempts)) (pending attempts n k) (past_by place attempts (numbered attempts place) refl))
    where
      plus_less : (p q r : ℕ) → p ≤ q → p + r ≤ q + r
      plus_less p q r e = omega (arith, e)

  attempt_now : (place : ℕ) (s : Seen) → Waits s (with_attempt f place s)
  attempt_now place s = record {
    asks = refl;
    entries = refl;
    current = refl;
    grows = past_by place s.attempts (numbered s.attempts place) refl;
    more = λ n k. pending_by place s.attempts n k (k.row == place) refl;
  }

-- a new attempt
past_more : (attempts : List Attempt) (a : Attempt) → past attempts ≤ past (attempts ++ a ∷ [])
past_more [] a = omega arith
past_more (x ∷ attempts) a = prefix_on (one_past x) (past attempts) (past (attempts ++ a ∷ [])) (past_more attempts a)
  where
    prefix_on : (n m k : ℕ) → m ≤ k → n + m ≤ n + k
    prefix_on n m k e = omega (arith, e)

pending_more : (attempts : List Attempt) (a : Attempt) (n : ℕ) (k : Ask) (o : Option Attempt) → numbered attempts k.row ≡ o → pending attempts n k ≤ pending (attempts ++ a ∷ []) n k
pending_more attempts a n k None e =
    subst (λ (q : Option Attempt). one_if (holds is_unfollowed q && (k.entry == n)) ≤ pending (attempts ++ a ∷ []) n k) (sym e) (let none : 0 ≤ pending (attempts ++ a ∷ []) n k = omega arith in none)
pending_more attempts a n k (Some x) e =
    let there : numbered (attempts ++ a ∷ []) k.row ≡ Some x = numbered_more attempts a k.row x e in
    subst (λ (q : Option Attempt). pending attempts n k ≤ one_if (holds is_unfollowed q && (k.entry == n))) (sym there)
    (subst (λ (q : Option Attempt). one_if (holds is_unfollowed q && (k.entry == n)) ≤ one_if (is_unfollowed x && (k.entry == n))) (sym e) (itself (one_if (is_unfollowed x && (k.entry == n)))))
  where
    numbered_more : (xs : List Attempt) (y : Attempt) (r : ℕ) (x : Attempt) → numbered xs r ≡ Some x → numbered (xs ++ y ∷ []) r ≡ Some x
    numbered_more xs y zero x e = absurd (cc)
    numbered_more xs y (suc i) x e = get_more xs (y ∷ []) i x e

row_now : (call number : ℕ) (kind : RowKind) (due : ℕ) (s : Seen) → Waits s (with_row (new_row call number kind due) s)
row_now call number kind due s =
    let a : Attempt = record { place = length s.attempts + 1; row = new_row call number kind due; made = entry s; reset = false } in
    record {
      asks = refl;
      entries = refl;
      current = refl;
      grows = past_more s.attempts a;
      more = λ n k. both_on (past s.attempts) (past (s.attempts ++ a ∷ [])) (pending s.attempts n k) (pending (s.attempts ++ a ∷ []) n k) (past_more s.attempts a)
          (pending_more s.attempts a n k (numbered s.attempts k.row) refl);
    }
  where
    both_on : (a b c d : ℕ) → a ≤ b → c ≤ d → a + c ≤ b + d
    both_on a b c d e f = omega (arith, e, f)

replies : (r : Reply) (s : Seen) → Waits s (replied r s)
replies r s = entered (λ (o : OpenEntry). record o { stage = stage.Replied; reply = Some r }) s

small : Small Waits
small = record {
  joined = joined;
  beside = λ s t entries current calls attempts asks subs links. aside s t entries current attempts asks;
  call = λ f request begun n s. aside s (with_call f n s) refl refl refl refl;
  attempt = λ f waits placed stream n s. attempt_now f waits n s;
  row = row_now;
  link = λ f same traffic over n s. aside s (with_link f n s) refl refl refl refl;
  sub = λ f less n s. aside s (record s { subs = changed f n s.subs }) refl refl refl refl;
  added = λ address s. aside s (sub_added address s) refl refl refl refl;
  entry = λ f moment event_is stage_is after_it s. entered f s;
  replied = λ r e s. replies r s;
}

never_waits : (b : Bool) → (false && b) ≡ true → (a : Attempt) → is_unfollowed a ≡ true
never_waits b e a = absurd (cc)

-- what events alone do
begun_now : (e : Event) (s : Seen) → Waits s (call_begun_by e s)
begun_now (event.Begin request) s =
    let u : Seen = record s { calls = s.calls ++ begun_call (length s.calls + 1) (entry s) (now s) request ∷ [] } in
    joined s u (replied (reply.Call (length s.calls + 1)) u) (aside s u refl refl refl refl) (replies (reply.Call (length s.calls + 1)) u)
begun_now e s = aside s s refl refl refl refl

up_now : (sub : ℕ) (s : Seen) → Waits s (link_up sub s)
up_now sub s =
    let n : ℕ = length s.links + 1 in
    let v : Seen = record s { links = s.links ++ new_link n sub s ∷ [] } in
    let f : Subchannel → Subchannel = λ (b : Subchannel). record b { link = Some n } in
    let w : Seen = with_sub f sub v in
    joined s v (replied (reply.Link n) w) (aside s v refl refl refl refl)
    (joined v w (replied (reply.Link n) w) (sub_now Waits small f (λ b. itself b.dials) sub v) (replies (reply.Link n) w))

dial_by : (again until : ℕ) (s : Seen) (q : Option Subchannel) → Waits s (option_map_or (dial_taken_of again until s) q s)
dial_by again until s None = aside s s refl refl refl refl
dial_by again until s (Some b) =
    let r : Reply = reply.Dial b.number b.address until in
    let draw : OpenEntry → OpenEntry = λ (x : OpenEntry). record x { drawn = x.drawn + (if not (b.dials == 0) then 1 else 0) } in
    let u : Seen = record s { subs = changed (with_dial again until) b.number s.subs } in
    let v : Seen = with_sub (with_dial again until) b.number s in
    let w : Seen = record v { current = option_map draw v.current } in
    joined s u (replied r w) (aside s u refl refl refl refl)
    (joined u v (replied r w) (noted_now Waits small u (numbered u.subs b.number)) (joined v w (replied r w) (entered draw v) (replies r w)))

come_now : (e : Event) (link : ℕ) (s : Seen) → Waits s (replied reply.Done (with_link (with_piece e) link s))
come_now e link s =
    let w : Seen = with_link (with_piece e) link s in joined s w (replied reply.Done w) (aside s w refl refl refl refl) (replies reply.Done w)

-- where nothing follows of the last pick request, its attempt waits no more
some_follows : (s : Seen) (k : Ask) (a : Attempt) (answer : Pick) → is_decided answer ≡ true → has_link_for s.subs answer ≡ true → follow_pick k s a answer ≡ None → ⊥
some_follows s k a pick.Wait decided link none = (let bad : false ≡ true = decided in (cc))
some_follows s k a pick.Fail decided link none = (cc)
some_follows s k a (pick.Place sub) decided link none = there (numbered s.subs sub) link none
  where
    there : (o : Option Subchannel) → holds (λ (b : Subchannel). is_some b.link) o ≡ true → option_map (λ (b : Subchannel). action.AttemptPlaced a.place (placed_on k s b)) o ≡ None → ⊥
    there None e f = (let bad : false ≡ true = e in (cc))
    there (Some b) e f = (cc)

no_more_by : (s : Seen) (k : Ask) (a : Attempt) (b : Bool) → is_decided k.answer ≡ true → (not b || has_link_for s.subs k.answer) ≡ true → (if b then follow_pick k s a k.answer else None) ≡ None → b ≡ false
no_more_by s k a true decided sound none = absurd (some_follows s k a k.answer decided sound none)
no_more_by s k a false decided sound none = refl

no_pending : (s : Seen) (k : Ask) (o : Option Attempt) → is_decided k.answer ≡ true
    → holds (λ (a : Attempt). not (is_unfollowed a && (k.entry == entry s)) || has_link_for s.subs k.answer) o ≡ true
    → option_and_then (λ (a : Attempt). if is_unfollowed a && (k.entry == entry s) then follow_pick k s a k.answer else None) o ≡ None
    → (holds is_unfollowed o && (k.entry == entry s)) ≡ false
no_pending s k None decided sound none = refl
no_pending s k (Some a) decided sound none = no_more_by s k a (is_unfollowed a && (k.entry == entry s)) decided sound none

none_pending : (s : Seen) (o : Option Ask) → option_map_or (λ (k : Ask). is_decided k.answer) o true ≡ true → option_map_or (is_sound_ask s) o true ≡ true
    → option_and_then (follow_ask s) o ≡ None → option_map_or (pending s.attempts (entry s)) o 0 ≡ 0
none_pending s None decided sound none = refl
none_pending s (Some k) decided sound none = ap one_if (no_pending s k (numbered s.attempts k.row) decided sound none)

last_decided : (asks : List Ask) (o : Option Ask) → last_of asks ≡ o → list_all (λ (k : Ask). is_decided k.answer) asks ≡ true → option_map_or (λ (k : Ask). is_decided k.answer) o true ≡ true
last_decided asks None e all = refl
last_decided asks (Some k) e all = all_at (λ (q : Ask). is_decided q.answer) asks (length asks) k all e

nothing_waits : (s : Seen) → IsKept s → IsAsking s → next_of_pick s ≡ None → option_map_or (pending s.attempts (entry s)) (last_of s.asks) 0 ≡ 0
nothing_waits s in_order k none = none_pending s (last_of s.asks) (last_decided s.asks (last_of s.asks) refl k.answers) in_order.picked none

pick_none : (s : Seen) (o : OpenEntry) (a : Action) → IsOfStage s o a → next_of_pick s ≡ None
pick_none s o a of_stage = (or_none (next_of_pick s) _ of_stage.links).0

few_now : (s : Seen) → option_map_or (pending s.attempts (entry s)) (last_of s.asks) 0 ≡ 0 → IsAsking s → length s.asks ≤ past s.attempts
few_now s none k = few_by (is_some s.current) k.few
  where
    few_by : (b : Bool) → length s.asks ≤ past s.attempts + (if b then option_map_or (pending s.attempts (entry s)) (last_of s.asks) 0 else 0) → length s.asks ≤ past s.attempts
    few_by true e = omega (arith, e, none)
    few_by false e = omega (arith, e)

-- a pick is requested
asked_now : PicksFollowState → (row generation : ℕ) (answer : Pick) (o : OpenEntry) (s : Seen) → IsKept s → IsAsking s → s.current ≡ Some o → IsNext (action.PickRequested row generation answer) s
    → IsAsking (pick_requested row generation answer s)
asked_now follow row generation answer o s in_order k at next =
    let ask : Ask = record { entry = entry s; generation = generation; row = row; answer = answer } in
    let u : Seen = record s { asks = s.asks ++ ask ∷ [] } in
    let none : next_of_pick s ≡ None = pick_none s o (action.PickRequested row generation answer) (is_stage_next s o (action.PickRequested row generation answer) refl at next) in
    let decides = picks_decide follow s o row generation answer in_order at next in
    let before : length s.asks ≤ past s.attempts = few_now s (nothing_waits s in_order k none) k in
    let last : last_of u.asks ≡ Some ask = last_more s.asks ask in
    let same : (entry s == entry s) ≡ true = same_is (entry s) in
    let waits : pending s.attempts (entry s) ask ≡ 1
    = ap (λ (b : Bool). one_if (b && (entry s == entry s))) decides.1 ∙ ap one_if same in
    let one : pending_in u ≡ 1
    = ap (λ (c : Option OpenEntry). if is_some c then option_map_or (pending s.attempts (entry s)) (last_of u.asks) 0 else 0) at
    ∙ ap (λ (q : Option Ask). option_map_or (pending s.attempts (entry s)) q 0) last ∙ waits in
    let long : length u.asks ≡ length s.asks + 1 = length-append s.asks (ask ∷ []) in
    kept u (pick_requested row generation answer s) (turned_now Waits small (turn_at row s) u)
    (record {
      few = one_on (length u.asks) (length s.asks) (past s.attempts) (pending_in u) long before one;
      answers = all_more (λ (q : Ask). is_decided q.answer) s.asks (ask ∷ []) k.answers (ap (λ (b : Bool). b && true) decides.0);
    })
  where
    one_on : (a b c d : ℕ) → a ≡ b + 1 → b ≤ c → d ≡ 1 → a ≤ c + d
    one_on a b c d e f g = omega (arith, e, f, g)

    same_is : (n : ℕ) → (n == n) ≡ true
    same_is n = eq-eqb n n refl

-- an entry closes, and opens
closed_now : (o : OpenEntry) (s : Seen) → IsKept s → IsAsking s → s.current ≡ Some o → IsNext action.EntryCloses s → IsAsking (entry_made o s)
closed_now o s in_order k at next =
    let none : next_of_pick s ≡ None = pick_none s o action.EntryCloses (is_stage_next s o action.EntryCloses refl at next) in
    let before : length s.asks ≤ past s.attempts = few_now s (nothing_waits s in_order k none) k in
    record { few = (let more : length s.asks ≤ past s.attempts + 0 = omega (arith, before) in more); answers = k.answers }

opened_now : (posted word : ℕ) (e : Event) (s : Seen) → s.current ≡ None → IsAsking s → IsAsking (opened posted word e s)
opened_now posted word e s none k =
    let before : length s.asks ≤ past s.attempts + 0
    = subst (λ (c : Option OpenEntry). length s.asks ≤ past s.attempts + (if is_some c then option_map_or (pending s.attempts (entry s)) (last_of s.asks) 0 else 0)) none k.few in
    record { few = less_on (length s.asks) (past s.attempts + 0) (past s.attempts + pending_in (opened posted word e s)) before (more_on (past s.attempts) (pending_in (opened posted word e s))); answers = k.answers }
  where
    more_on : (n m : ℕ) → n + 0 ≤ n + m
    more_on n m = omega arith

-- each action
asking_in : PicksFollowState → (o : OpenEntry) (a : Action) (s : Seen) → s.current ≡ Some o → IsKept s → IsNext a s → IsAsking s → IsAsking (after_in o a s)
asking_in follow o action.EntryCloses s at in_order next k = closed_now o s in_order k at next
asking_in follow o action.CallBegins s at in_order next k = kept s (call_begun_by o.event s) (begun_now o.event s) k
asking_in follow o (action.DialTaken sub again until) s at in_order next k = kept s (after_in o (action.DialTaken sub again until) s) (dial_by again until s (numbered s.subs sub)) k
asking_in follow o (action.LinkUp sub) s at in_order next k = kept s (link_up sub s) (up_now sub s) k
asking_in follow o (action.BytesArrive link) s at in_order next k = kept s (after_in o (action.BytesArrive link) s) (come_now o.event link s) k
asking_in follow o action.SettlingBegins s at in_order next k = kept s (settling s) (entered (λ (q : OpenEntry). record q { stage = stage.Settling }) s) k
asking_in follow o (action.PickRequested row generation answer) s at in_order next k = asked_now follow row generation answer o s in_order k at next
asking_in follow o (action.AttemptPlaced row on_link) s at in_order next k =
    kept s (after_in o (action.AttemptPlaced row on_link) s) (placed_in Waits small (λ at_it n v. attempt_now (with_placing at_it) (λ a e. never_waits (is_none a.row.ended) e a) n v) row on_link s) k
asking_in follow o (action.FrameRead link r) s at in_order next k = kept s (after_in o (action.FrameRead link r) s) (read_in Waits small (λ q frames n v. aside v (with_link (with_frame_read q frames) n v) refl refl refl refl) link r s) k
asking_in follow o (action.FrameWritten link x) s at in_order next k =
    kept s (after_in o (action.FrameWritten link x) s) (written_in Waits small (λ stream n v. attempt_now (with_stream stream) (λ a e. e) n v) (λ y n v. aside v (with_link (λ (l : Link). record l { traffic = l.traffic ++ traffic.Written y ∷ [] }) n v) refl refl refl refl) link x s) k
asking_in follow o (action.EventRefused why) s at in_order next k = kept s (replied (reply.Refused why) s) (replies (reply.Refused why) s) k
asking_in follow o (action.EventAnswered r) s at in_order next k = kept s (replied r s) (replies r s) k
asking_in follow o (action.ItemTaken call item) s at in_order next k = kept s (item_taken call item s) (taken_in Waits small replies call item s) k
asking_in follow o a s at in_order next k = kept s (after_in o a s) (small_in Waits small o a s refl) k

asking_if : PicksFollowState → (o : Option OpenEntry) (a : Action) (s : Seen) → s.current ≡ o → IsKept s → IsNext a s → IsAsking s → IsAsking (after_if o a s)
asking_if follow (Some o) a s at in_order next k = asking_in follow o a s at in_order next k
asking_if follow None (action.EntryOpens posted word e) s at in_order next k = opened_now posted word e s at k
asking_if follow None a s at in_order next k = k

asking_along : PicksFollowState → (actions : List Action) (s t : Seen) → IsKept s → IsAsking s → Does actions s t → IsAsking t
asking_along follow [] s t in_order k does = subst IsAsking (sym does) k
asking_along follow (a ∷ actions) s t in_order k does =
    asking_along follow actions (after a s) t (kept_stays s a in_order does.0) (asking_if follow s.current a s refl in_order does.0 k) does.1

-- attempts that wait no more are attempts
past_few : (attempts : List Attempt) → past attempts ≤ length attempts
past_few [] = itself 0
past_few (a ∷ attempts) = prefix_on (is_unfollowed a) (past attempts) (length attempts) (past_few attempts)
  where
    prefix_on : (b : Bool) (n m : ℕ) → n ≤ m → (if b then 0 else 1) + n ≤ suc m
    prefix_on true n m e = omega (arith, e)
    prefix_on false n m e = omega (arith, e)

pub asks_are_few : PicksFollowState → AsksAreFew
asks_are_few follow setup actions s does =
    let k : IsAsking s
    = asking_along follow actions (new_session setup) s (kept_begins setup) (record { few = itself 0; answers = refl }) does in
    let wait : pending_in s ≤ 1 = pending_one (is_some s.current) (last_of s.asks) in
    all_on (length s.asks) (past s.attempts) (pending_in s) (length s.attempts) k.few wait (past_few s.attempts)
  where
    one_of : (b : Bool) → one_if b ≤ 1
    one_of true = omega arith
    one_of false = omega arith

    pending_one : (b : Bool) (o : Option Ask) → (if b then option_map_or (pending s.attempts (entry s)) o 0 else 0) ≤ 1
    pending_one true None = omega arith
    pending_one true (Some q) = one_of (holds is_unfollowed (numbered s.attempts q.row) && (q.entry == entry s))
    pending_one false o = omega arith

    all_on : (a b c d : ℕ) → a ≤ b + c → c ≤ 1 → b ≤ d → a ≤ d + 1
    all_on a b c d e f g = omega (arith, e, f, g)
