-- The things of a session keep the numbers of their places.
use Rattle.session_actions.specs.declared.link.ReadFrame.{ReadFrame}
use Rattle.session_actions.specs.declared.config.ThrottleRun.{ThrottleRun}
use Rattle.session_actions.specs.declared.config.HeldConfig.{HeldConfig}
use Rattle.session_actions.specs.declared.call.MarkKind.{MarkKind}
use Rattle.session_actions.specs.Refusals.{is_gone}
use Rattle.session_actions.specs.Making.{hedge_withheld, new_row, with_row, without_turn_unless}
use Rattle.session_actions.specs.Links.{link_number, link_over, owed, stream_number, wants_resolution, with_link}
use Rattle.session_actions.specs.Commitments.{with_commitment}
use Rattle.session_actions.specs.Calls.{marked, with_call}
use Rattle.lb_policy.specs.Steps.{failed_after}
use Rattle.h2_frame.specs.Sent.{rst_stream_frame}
use Rattle.h2_frame.specs.Numbers.{headers_type}
use Rattle.h2_frame.specs.Frames.{FrameSeen}
use Rattle.grpc_base.specs.declared.event.ConfigFault.{ConfigFault}
use Rattle.attempt_ledger.specs.declared.row.Row.{Row}
use Rattle.attempt_ledger.specs.Numbering.{is_transparent}
use Rattle.attempt_ledger.specs.Ends.{is_cut}
use Rattle.std.proofs.Common.{◌≡◌, ◌+◌, ◌∷◌, ◌++◌, ◌==◌, ap, arith, refl, subst, sym, ◌∙◌, Bool, true, false, Err, List, [], Ok, Option, None, Some, ℕ, zero, suc, if◌then◌else◌, length, map, slice_get, not, ◌&&◌, ◌⊎◌, inl, inr, is_none, is_some, Result}
use Rattle.std.proofs.lemmas.Bool.{eqb-false, eqb-true}
use Rattle.std.proofs.lemmas.Option.{slice_get-map}
use Rattle.std.specs.Option.{option_map, option_map_or, option_and_then}
use Rattle.attempt_ledger.specs.declared.row.RowEnd.{RowEnd}
use Rattle.grpc_base.specs.declared.address.Address.{Address}
use Rattle.grpc_base.specs.declared.event.Event.{Event}
use Rattle.grpc_base.specs.declared.plan.Throttle.{Throttle}
use Rattle.service_config.specs.declared.config.Config.{Config}
use Rattle.session_actions.specs.Actions.{after, after_if, after_in}
use Rattle.session_actions.specs.AttemptEnds.{attempt_ended_as, stream_reset_of, with_end, with_end_in_run, with_reset_queued}
use Rattle.session_actions.specs.Attempts.{call_of, is_to_follow, with_attempt}
use Rattle.session_actions.specs.Closing.{noted_gone, entry_made}
use Rattle.session_actions.specs.Configs.{run_to_join, with_held, with_throttled, config_of_call, config_read, resolution_failed, resolver_answered, with_config, with_run}
use Rattle.session_actions.specs.Deliveries.{begun_call, call_begun_by, with_message, is_end, item_taken, message_accepted, request_finished}
use Rattle.session_actions.specs.Entries.{entry, now, opened, replied, settling}
use Rattle.session_actions.specs.Policies.{addresses_in, current_policy, given_addresses, policy_retired, activated_in, begun_policy, is_live_policy, pick_requested, retired_in, view_of, with_placing, with_policy}
use Rattle.session_actions.specs.Sessions.{Does, new_session}
use Rattle.session_actions.specs.Subchannels.{dial_taken_of, link_timed_out, noted_by_policies, noted_state, with_sub, dial_failed, gone_down, in_state, link_up, new_link, new_sub, with_dial, without_link}
use Rattle.session_actions.specs.Words.{changed, numbered}
use Rattle.session_actions.specs.Writing.{frame_read_on, frame_written_on, stream_opened, stream_opened_by, waiting_on, with_piece, with_stream, owed_for, ping_of, with_frame_read, with_written_bytes}
use Rattle.session_actions.specs.declared.action.Action.{Action}
use Rattle.session_actions.specs.declared.attempt.Attempt.{Attempt}
use Rattle.session_actions.specs.declared.call.Call.{Call}
use Rattle.session_actions.specs.declared.entry.OpenEntry.{OpenEntry}
use Rattle.session_actions.specs.declared.link.Link.{Link}
use Rattle.session_actions.specs.declared.link.Sent.{Sent}
use Rattle.session_actions.specs.declared.policy.PolicyUse.{PolicyUse}
use Rattle.session_actions.specs.declared.seen.Seen.{Seen}
use Rattle.session_actions.specs.declared.seen.Setup.{Setup}
use Rattle.session_actions.specs.declared.subchannel.Subchannel.{Subchannel}
use Rattle.session_order.proofs.Changed.{changed_away, changed_map}
use Rattle.session_order.specs.Order.{HasPlaces, IsInPlace}
use Rattle.session_actions.specs.declared.action.Action.TheVariants as action
use Rattle.grpc_base.specs.declared.event.Event.TheVariants as event
use Rattle.session_actions.specs.declared.link.Sent.TheVariants as sent
use Rattle.grpc_base.specs.declared.event.Conn.TheVariants as conn
use Rattle.session_actions.specs.declared.call.MarkKind.TheVariants as mark
use Rattle.session_actions.specs.declared.link.LinkOver.TheVariants as over
use Rattle.grpc_base.specs.declared.event.Reply.TheVariants as reply
use Rattle.session_actions.specs.declared.entry.Stage.TheVariants as stage
use Rattle.session_actions.specs.declared.link.Traffic.TheVariants as traffic

-- lists that change
changed_by : {X : Type 0} (number : X → ℕ) (f : X → X) → ((x : X) → number (f x) ≡ number x) → (n : ℕ) (xs : List X) → HasPlaces number xs
    → (o : Option X) → numbered xs n ≡ o → (y : X) → option_map f o ≡ Some y → number y ≡ n
changed_by number f same n xs h None is y e = absurd (cc)
changed_by number f same n xs h (Some x) is y e = (let one : y ≡ f x = (cc) in ap number one ∙ same x ∙ h n x is)

changed_at : {X : Type 0} (number : X → ℕ) (f : X → X) → ((x : X) → number (f x) ≡ number x) → (n : ℕ) (xs : List X) → HasPlaces number xs
    → (k : ℕ) (b : Bool) → (k == n) ≡ b → (y : X) → numbered (changed f n xs) k ≡ Some y → number y ≡ k
changed_at number f same n xs h k true is y e =
    changed_by number f same n xs h (numbered xs n) refl y (sym (changed_map f n xs) ∙ ap (numbered (changed f n xs)) (sym (eqb-true k n is)) ∙ e)
    ∙ sym (eqb-true k n is)
changed_at number f same n xs h k false is y e = h k y (sym (changed_away f n k xs (eqb-false k n is)) ∙ e)

places_changed : {X : Type 0} (number : X → ℕ) (f : X → X) → ((x : X) → number (f x) ≡ number x) → (n : ℕ) (xs : List X) → HasPlaces number xs
    → HasPlaces number (changed f n xs)
places_changed number f same n xs h k y e = changed_at number f same n xs h k (k == n) refl y e

-- one more
grow : {X : Type 0} (i : ℕ) (xs : List X) (z : X) → i ≡ length xs → suc i ≡ length (z ∷ xs)
grow i xs z e = omega (arith, e)

past : {X : Type 0} (xs : List X) (x y : X) (i : ℕ) → slice_get (xs ++ x ∷ []) i ≡ Some y → (slice_get xs i ≡ Some y) ⊎ ((i ≡ length xs) × (x ≡ y))
past [] x y zero e = inr (refl, (cc))
past [] x y (suc i) e = absurd (cc)
past (z ∷ xs) x y zero e = inl e
past (z ∷ xs) x y (suc i) e =
    elim (past xs x y i e) as (λ q. (slice_get xs i ≡ Some y) ⊎ ((suc i ≡ length (z ∷ xs)) × (x ≡ y))) [ inl p ↦ inl p | inr p ↦ inr (grow i xs z p.0, p.1) ]

more_at : {X : Type 0} (number : X → ℕ) (xs : List X) (x y : X) (i : ℕ) → HasPlaces number xs → number x ≡ length xs + 1
    → (slice_get xs i ≡ Some y) ⊎ ((i ≡ length xs) × (x ≡ y)) → number y ≡ suc i
more_at number xs x y i h is (inl p) = h (suc i) y p
more_at number xs x y i h is (inr p) =
    let one : number y ≡ number x = ap number (sym p.1) in
    let there : i ≡ length xs = p.0 in omega (arith, one, is, there)

places_more : {X : Type 0} (number : X → ℕ) (xs : List X) (x : X) → number x ≡ length xs + 1 → HasPlaces number xs → HasPlaces number (xs ++ x ∷ [])
places_more number xs x is h zero y e = absurd (cc)
places_more number xs x is h (suc i) y e = more_at number xs x y i h is (past xs x y i e)

-- all of them
map_by : {X : Type 0} (number : X → ℕ) (f : X → X) → ((x : X) → number (f x) ≡ number x) → (k : ℕ) (o : Option X) → ((x : X) → o ≡ Some x → number x ≡ k)
    → (y : X) → option_map f o ≡ Some y → number y ≡ k
map_by number f same k None h y e = absurd (cc)
map_by number f same k (Some x) h y e = (let one : y ≡ f x = (cc) in ap number one ∙ same x ∙ h x refl)

places_map : {X : Type 0} (number : X → ℕ) (f : X → X) → ((x : X) → number (f x) ≡ number x) → (xs : List X) → HasPlaces number xs
    → HasPlaces number (map f xs)
places_map number f same xs h zero y e = absurd (cc)
places_map number f same xs h (suc i) y e =
    map_by number f same (suc i) (slice_get xs i) (λ x p. h (suc i) x p) y (sym (slice_get-map f xs i) ∙ e)

-- a session of which one list changes
beside : (s t : Seen) → t.calls ≡ s.calls → t.attempts ≡ s.attempts → t.policies ≡ s.policies → t.subs ≡ s.subs → t.links ≡ s.links → IsInPlace s → IsInPlace t
beside s t a b c d e h = record {
  calls = subst (λ (xs : List Call). HasPlaces (λ (x : Call). x.number) xs) (sym a) h.calls;
  attempts = subst (λ (xs : List Attempt). HasPlaces (λ (x : Attempt). x.place) xs) (sym b) h.attempts;
  policies = subst (λ (xs : List PolicyUse). HasPlaces (λ (x : PolicyUse). x.number) xs) (sym c) h.policies;
  subs = subst (λ (xs : List Subchannel). HasPlaces (λ (x : Subchannel). x.number) xs) (sym d) h.subs;
  links = subst (λ (xs : List Link). HasPlaces (λ (x : Link). x.number) xs) (sym e) h.links;
}

calls_now : (s : Seen) (cs : List Call) → HasPlaces (λ (c : Call). c.number) cs → IsInPlace s → IsInPlace (record s { calls = cs })
calls_now s cs p h = record { calls = p; attempts = h.attempts; policies = h.policies; subs = h.subs; links = h.links }

attempts_now : (s : Seen) (rows : List Attempt) → HasPlaces (λ (a : Attempt). a.place) rows → IsInPlace s → IsInPlace (record s { attempts = rows })
attempts_now s rows p h = record { calls = h.calls; attempts = p; policies = h.policies; subs = h.subs; links = h.links }

policies_now : (s : Seen) (uses : List PolicyUse) → HasPlaces (λ (g : PolicyUse). g.number) uses → IsInPlace s → IsInPlace (record s { policies = uses })
policies_now s uses p h = record { calls = h.calls; attempts = h.attempts; policies = p; subs = h.subs; links = h.links }

subs_now : (s : Seen) (subs : List Subchannel) → HasPlaces (λ (b : Subchannel). b.number) subs → IsInPlace s → IsInPlace (record s { subs = subs })
subs_now s subs p h = record { calls = h.calls; attempts = h.attempts; policies = h.policies; subs = p; links = h.links }

links_now : (s : Seen) (links : List Link) → HasPlaces (λ (l : Link). l.number) links → IsInPlace s → IsInPlace (record s { links = links })
links_now s links p h = record { calls = h.calls; attempts = h.attempts; policies = h.policies; subs = h.subs; links = p }

entry_now : (s : Seen) (c : Option OpenEntry) → IsInPlace s → IsInPlace (record s { current = c })
entry_now s c h = beside s (record s { current = c }) refl refl refl refl refl h

-- one thing changes
call_now : (s : Seen) (f : Call → Call) → ((c : Call) → (f c).number ≡ c.number) → (n : ℕ) → IsInPlace s → IsInPlace (record s { calls = changed f n s.calls })
call_now s f same n h = calls_now s (changed f n s.calls) (places_changed (λ (c : Call). c.number) f same n s.calls h.calls) h

attempt_now : (s : Seen) (f : Attempt → Attempt) → ((a : Attempt) → (f a).place ≡ a.place) → (n : ℕ) → IsInPlace s
    → IsInPlace (record s { attempts = changed f n s.attempts })
attempt_now s f same n h = attempts_now s (changed f n s.attempts) (places_changed (λ (a : Attempt). a.place) f same n s.attempts h.attempts) h

policy_now : (s : Seen) (f : PolicyUse → PolicyUse) → ((g : PolicyUse) → (f g).number ≡ g.number) → (n : ℕ) → IsInPlace s
    → IsInPlace (record s { policies = changed f n s.policies })
policy_now s f same n h = policies_now s (changed f n s.policies) (places_changed (λ (g : PolicyUse). g.number) f same n s.policies h.policies) h

link_now : (s : Seen) (f : Link → Link) → ((l : Link) → (f l).number ≡ l.number) → (n : ℕ) → IsInPlace s → IsInPlace (record s { links = changed f n s.links })
link_now s f same n h = links_now s (changed f n s.links) (places_changed (λ (l : Link). l.number) f same n s.links h.links) h

noted_number : (b : Bool) (g k : PolicyUse) → k.number ≡ g.number → (if b then k else g).number ≡ g.number
noted_number true g k e = e
noted_number false g k e = refl

noted_now : (u : Seen) (b : Subchannel) → IsInPlace u → IsInPlace (noted_by_policies b u)
noted_now u b h =
    policies_now u (map (noted_state u b) u.policies)
    (places_map (λ (g : PolicyUse). g.number) (noted_state u b) (λ g. noted_number (is_live_policy g) g (record g { failed = failed_after b.number b.state g.failed (view_of g.addresses u) }) refl) u.policies h.policies) h

noted_if : (u : Seen) (o : Option Subchannel) → IsInPlace u → IsInPlace (option_map_or (λ (b : Subchannel). noted_by_policies b u) o u)
noted_if u None h = h
noted_if u (Some b) h = noted_now u b h

sub_now : (s : Seen) (f : Subchannel → Subchannel) → ((b : Subchannel) → (f b).number ≡ b.number) → (n : ℕ) → IsInPlace s → IsInPlace (with_sub f n s)
sub_now s f same n h =
    noted_if (record s { subs = changed f n s.subs }) (numbered (changed f n s.subs) n)
    (subs_now s (changed f n s.subs) (places_changed (λ (b : Subchannel). b.number) f same n s.subs h.subs) h)

-- the larger actions
committed_by : (s : Seen) (what : MarkKind) (o : Option Attempt) → IsInPlace s → IsInPlace (option_map_or (λ (a : Attempt). marked what a.row.call s) o s)
committed_by s what None h = h
committed_by s what (Some a) h = call_now s (λ (c : Call). record c { marks = c.marks ++ record { what = what; moment = now s } ∷ [] }) (λ c. refl) a.row.call h

marked_now : (s : Seen) (what : MarkKind) (n : ℕ) → IsInPlace s → IsInPlace (marked what n s)
marked_now s what n h = call_now s (λ (c : Call). record c { marks = c.marks ++ record { what = what; moment = now s } ∷ [] }) (λ c. refl) n h

begun_now : (e : Event) (s : Seen) → IsInPlace s → IsInPlace (call_begun_by e s)
begun_now (event.Begin request) s h =
    let u : Seen = record s { calls = s.calls ++ begun_call (length s.calls + 1) (entry s) (now s) request ∷ [] } in
    entry_now u (option_map (λ (o : OpenEntry). record o { stage = stage.Replied; reply = Some (reply.Call (length s.calls + 1)) }) u.current)
    (calls_now s u.calls (places_more (λ (c : Call). c.number) s.calls (begun_call (length s.calls + 1) (entry s) (now s) request) refl h.calls) h)
begun_now e s h = h

message_number : (e : Event) (c : Call) → (with_message e c).number ≡ c.number
message_number (event.Send call message) c = refl
message_number e c = refl

piece_number : (e : Event) (l : Link) → (with_piece e l).number ≡ l.number
piece_number (event.Arrived link piece) l = refl
piece_number e l = refl

run_now_by : (s : Seen) (a : Attempt) (b : Bool) (run : Option ℕ) → IsInPlace s
    → IsInPlace (if b then option_map_or (λ (k : ℕ). record s { runs = changed (λ (u : ThrottleRun). record u { ends = u.ends ++ a.place ∷ [] }) k s.runs }) run s else s)
run_now_by s a true None h = h
run_now_by s a true (Some k) h =
    beside s (record s { runs = changed (λ (u : ThrottleRun). record u { ends = u.ends ++ a.place ∷ [] }) k s.runs }) refl refl refl refl refl h
run_now_by s a false run h = h

run_now : (s : Seen) (a : Attempt) (e : RowEnd) (c : Option Call) → IsInPlace s → IsInPlace (option_map_or (with_end_in_run a e s) c s)
run_now s a e None h = h
run_now s a e (Some c) h =
    run_now_by s a (not (is_cut e.cause) && not (is_to_follow c e.cause e.unseen s)) (option_and_then (λ (x : HeldConfig). x.run) (config_of_call c s)) h

ended_now : (s : Seen) (e : RowEnd) (o : Option Attempt) → IsInPlace s → IsInPlace (option_map_or (attempt_ended_as e s) o s)
ended_now s e None h = h
ended_now s e (Some a) h =
    let u : Seen = option_map_or (with_end_in_run a e s) (call_of a s) s in
    let v : Seen = record u { attempts = changed (with_end e) a.place u.attempts } in
    let w : Seen = marked (mark.Ended a.place) a.row.call v in
    entry_now w (option_map (λ (x : OpenEntry). record x { drawn = x.drawn + (if is_some e.word then 1 else 0) }) w.current)
    (marked_now v (mark.Ended a.place) a.row.call (attempt_now u (with_end e) (λ x. refl) a.place (run_now s a e (call_of a s) h)))

reset_now : (s : Seen) (number : ℕ) (o : Option Attempt) → IsInPlace s → IsInPlace (option_map_or (stream_reset_of number s) o s)
reset_now s number None h = h
reset_now s number (Some a) h =
    link_now (with_attempt with_reset_queued a.place s) (λ (l : Link). record l { owed = l.owed ++ rst_stream_frame (stream_number a) number ∷ [] }) (λ l. refl)
    (link_number a) (attempt_now s with_reset_queued (λ x. refl) a.place h)

throttled_now : (config : Config) (t : Throttle) (run : Option ℕ) (s : Seen) → IsInPlace s → IsInPlace (with_throttled config t run s)
throttled_now config t (Some run) s h = beside s (with_config config (Some run) s) refl refl refl refl refl h
throttled_now config t None s h = beside s (with_config config (Some (length s.runs + 1)) (with_run t s)) refl refl refl refl refl h

config_now : (config : Config) (t : Option Throttle) (s : Seen) → IsInPlace s → IsInPlace (with_held config t s)
config_now config None s h = beside s (with_config config None s) refl refl refl refl refl h
config_now config (Some t) s h = throttled_now config t (run_to_join t s) s h

read_now : (config : Result Config ConfigFault) (s : Seen) → IsInPlace s → IsInPlace (config_read config s)
read_now (Ok config) s h =
    config_now config config.throttle (replied reply.Done (resolver_answered s)) (beside s (replied reply.Done (resolver_answered s)) refl refl refl refl refl h)
read_now (Err fault) s h = beside s (replied (reply.BadConfig fault) (resolver_answered s)) refl refl refl refl refl h

given_now : (s : Seen) (g : ℕ) (o : Option (List Address)) → IsInPlace s
    → IsInPlace (option_map_or (λ (x : List Address). with_policy (given_addresses x s) g s) o s)
given_now s g None h = h
given_now s g (Some x) h = policy_now s (given_addresses x s) (λ k. refl) g h

retired_now : (s : Seen) (g : ℕ) → IsInPlace s → IsInPlace (policy_retired g s)
retired_now s g h = policy_now s (retired_in (entry s)) (λ k. refl) g h

over_now : (s : Seen) (o : Option PolicyUse) → IsInPlace s → IsInPlace (option_map_or (λ (g : PolicyUse). policy_retired g.number s) o s)
over_now s None h = h
over_now s (Some g) h = retired_now s g.number h

dialled_now : (again until : ℕ) (s : Seen) (o : Option Subchannel) → IsInPlace s → IsInPlace (option_map_or (dial_taken_of again until s) o s)
dialled_now again until s None h = h
dialled_now again until s (Some b) h =
    let u : Seen = with_sub (with_dial again until) b.number s in
    let p : IsInPlace u = sub_now s (with_dial again until) (λ x. refl) b.number h in
    beside u (dial_taken_of again until s b) refl refl refl refl refl p

timed_out_by : (s : Seen) (o : Option ℕ) → IsInPlace s → IsInPlace (option_map_or (λ (link : ℕ). link_over over.TimedOut link s) o s)
timed_out_by s None h = h
timed_out_by s (Some link) h = link_now s (λ (l : Link). record l { over = Some over.TimedOut }) (λ l. refl) link h

timed_out_now : (s : Seen) (o : Option Subchannel) → IsInPlace s → IsInPlace (option_map_or (λ (b : Subchannel). link_timed_out b s) o s)
timed_out_now s None h = h
timed_out_now s (Some b) h = timed_out_by s b.link h

frame_read_now : (r : ReadFrame) (s : Seen) (o : Option Link) → IsInPlace s → IsInPlace (option_map_or (frame_read_on r s) o s)
frame_read_now r s None h = h
frame_read_now r s (Some l) h = link_now s (with_frame_read r (owed_for r.frame l s)) (λ x. refl) l.number h

stream_now : (f : FrameSeen) (s : Seen) (o : Option Attempt) → IsInPlace s
    → IsInPlace (option_map_or (λ (a : Attempt). with_attempt (with_stream f.stream) a.place s) o s)
stream_now f s None h = h
stream_now f s (Some a) h = attempt_now s (with_stream f.stream) (λ x. refl) a.place h

opened_if : (b : Bool) (f : FrameSeen) (l : Link) (s : Seen) → IsInPlace s → IsInPlace (if b then stream_opened f l s else s)
opened_if true f l s h = stream_now f s (slice_get (waiting_on l s) 0) h
opened_if false f l s h = h

opened_now : (x : Sent) (l : Link) (s : Seen) → IsInPlace s → IsInPlace (stream_opened_by x l s)
opened_now sent.Preface l s h = h
opened_now (sent.Frame f) l s h = opened_if (f.kind == headers_type) f l s h

written_now : (x : Sent) (s : Seen) (o : Option Link) → IsInPlace s → IsInPlace (option_map_or (frame_written_on x s) o s)
written_now x s None h = h
written_now x s (Some l) h =
    let u : Seen = stream_opened_by x l s in
    let v : Seen = record u { links = changed (λ (k : Link). record k { traffic = k.traffic ++ traffic.Written x ∷ [] }) l.number u.links } in
    entry_now v (option_map (with_written_bytes x) v.current)
    (link_now u (λ (k : Link). record k { traffic = k.traffic ++ traffic.Written x ∷ [] }) (λ k. refl) l.number (opened_now x l s h))

made_now : (keeps : Bool) (s : Seen) → IsInPlace s → IsInPlace (without_turn_unless keeps s)
made_now true s h = h
made_now false s h = entry_now s (option_map (λ (o : OpenEntry). record o { turn = None }) s.current) h

gone_number : (b : Bool) (l : Link) (n : ℕ) → (if b then record l { gone = Some n } else l).number ≡ l.number
gone_number true l n = refl
gone_number false l n = refl

-- each action
kept_in : (o : OpenEntry) (a : Action) (s : Seen) → IsInPlace s → IsInPlace (after_in o a s)
kept_in o (action.EntryOpens posted word e) s h = h
kept_in o (action.EventRefused why) s h = beside s (replied (reply.Refused why) s) refl refl refl refl refl h
kept_in o (action.EventAnswered r) s h = beside s (replied r s) refl refl refl refl refl h
kept_in o action.SettlingBegins s h = beside s (settling s) refl refl refl refl refl h
kept_in o action.EntryCloses s h =
    beside (record s { links = map (noted_gone s) s.links }) (entry_made o s) refl refl refl refl refl
    (links_now s (map (noted_gone s) s.links)
    (places_map (λ (l : Link). l.number) (noted_gone s) (λ l. gone_number (is_none l.gone && is_gone l s) l (entry s)) s.links h.links) h)
kept_in o action.CallBegins s h = begun_now o.event s h
kept_in o (action.MessageAccepted call) s h =
    entry_now (with_call (with_message o.event) call s) (message_accepted call o.event s).current (call_now s (with_message o.event) (message_number o.event) call h)
kept_in o (action.RequestFinished call) s h =
    entry_now (with_call (λ (c : Call). record c { finished = true }) call s) (request_finished call s).current
    (call_now s (λ (c : Call). record c { finished = true }) (λ c. refl) call h)
kept_in o (action.ItemTaken call item) s h =
    entry_now (with_call (λ (c : Call). record c { taken = c.taken + 1; end_taken = is_end item }) call s) (item_taken call item s).current
    (call_now s (λ (c : Call). record c { taken = c.taken + 1; end_taken = is_end item }) (λ c. refl) call h)
kept_in o (action.CallEnds call why) s h =
    call_now (marked mark.Closed call s) (λ (c : Call). record c { end = Some (record { entry = entry s; moment = now s; cause = why }) }) (λ c. refl) call
    (marked_now s mark.Closed call h)
kept_in o (action.ConfigRead config) s h = read_now config s h
kept_in o action.ResolutionFailed s h = beside s (resolution_failed s) refl refl refl refl refl h
kept_in o (action.CallConfigured call config) s h =
    call_now (marked mark.Configured call s) (λ (c : Call). record c { config = Some config; configured = Some (entry s) }) (λ c. refl) call
    (marked_now s mark.Configured call h)
kept_in o (action.AttemptMade call number k due) s h =
    let row : Row = new_row call number k due in
    let a : Attempt = record { place = length s.attempts + 1; row = row; made = entry s; reset = false } in
    let u : Seen = with_row row s in
    made_now (is_transparent k) (marked (mark.Made (length s.attempts + 1)) call u)
    (marked_now u (mark.Made (length s.attempts + 1)) call
    (attempts_now s (s.attempts ++ a ∷ []) (places_more (λ (x : Attempt). x.place) s.attempts a refl h.attempts) h))
kept_in o (action.HedgeWithheld call) s h =
    entry_now (marked mark.Withheld call s) (hedge_withheld call s).current (marked_now s mark.Withheld call h)
kept_in o (action.PickRequested row generation answer) s h = beside s (pick_requested row generation answer s) refl refl refl refl refl h
kept_in o (action.AttemptPlaced row at) s h =
    let u : Seen = with_attempt (with_placing at) row s in
    committed_by u (mark.Placed row) (numbered u.attempts row) (attempt_now s (with_placing at) (λ x. refl) row h)
kept_in o (action.AttemptEnds row end) s h = ended_now s end (numbered s.attempts row) h
kept_in o (action.CallCommitted row why) s h =
    let u : Seen = with_attempt (with_commitment (entry s)) row s in
    committed_by u mark.Committed (numbered u.attempts row) (attempt_now s (with_commitment (entry s)) (λ x. refl) row h)
kept_in o (action.StreamReset row number) s h = reset_now s number (numbered s.attempts row) h
kept_in o (action.PolicyBegins k) s h =
    policies_now s (s.policies ++ begun_policy k s ∷ []) (places_more (λ (g : PolicyUse). g.number) s.policies (begun_policy k s) refl h.policies) h
kept_in o (action.AddressesGiven generation) s h = given_now s generation (addresses_in o.event) h
kept_in o (action.PolicyTakesOver generation) s h =
    policy_now (option_map_or (λ (g : PolicyUse). policy_retired g.number s) (current_policy s) s) (activated_in (entry s)) (λ k. refl) generation
    (over_now s (current_policy s) h)
kept_in o (action.PolicyRetired generation) s h = retired_now s generation h
kept_in o (action.SubchannelAdded address) s h =
    subs_now s (s.subs ++ new_sub address (length s.subs + 1) ∷ [])
    (places_more (λ (b : Subchannel). b.number) s.subs (new_sub address (length s.subs + 1)) refl h.subs) h
kept_in o (action.SubchannelShut sub) s h = sub_now s (without_link conn.Shutdown) (λ b. refl) sub h
kept_in o (action.SubchannelConnects sub) s h = sub_now s (in_state conn.Connecting) (λ b. refl) sub h
kept_in o (action.DialTaken sub again until) s h = dialled_now again until s (numbered s.subs sub) h
kept_in o (action.DialFails sub) s h =
    let u : Seen = with_sub (without_link conn.Failure) sub (wants_resolution s) in
    entry_now u (dial_failed sub s).current
    (sub_now (wants_resolution s) (without_link conn.Failure) (λ b. refl) sub (beside s (wants_resolution s) refl refl refl refl refl h))
kept_in o (action.ConnectTimesOut sub) s h =
    let u : Seen = option_map_or (λ (b : Subchannel). link_timed_out b s) (numbered s.subs sub) s in
    sub_now (wants_resolution u) (without_link conn.Failure) (λ b. refl) sub
    (beside u (wants_resolution u) refl refl refl refl refl (timed_out_now s (numbered s.subs sub) h))
kept_in o (action.BackoffEnds sub) s h = sub_now s (in_state conn.Idle) (λ b. refl) sub h
kept_in o (action.LinkUp sub) s h =
    let n : ℕ = length s.links + 1 in
    let u : Seen = record s { links = s.links ++ new_link n sub s ∷ [] } in
    entry_now (with_sub (λ (b : Subchannel). record b { link = Some n }) sub u) (link_up sub s).current
    (sub_now u (λ (b : Subchannel). record b { link = Some n }) (λ b. refl) sub
    (links_now s (s.links ++ new_link n sub s ∷ []) (places_more (λ (l : Link). l.number) s.links (new_link n sub s) refl h.links) h))
kept_in o (action.SettingsArrive sub) s h = sub_now s (λ (b : Subchannel). record b { state = conn.Ready; dials = 0; until = None }) (λ b. refl) sub h
kept_in o (action.LinkDown sub) s h = sub_now s gone_down (λ b. refl) sub h
kept_in o (action.BytesArrive link) s h =
    entry_now (with_link (with_piece o.event) link s) (replied reply.Done (with_link (with_piece o.event) link s)).current
    (link_now s (with_piece o.event) (piece_number o.event) link h)
kept_in o (action.FrameRead link r) s h = frame_read_now r s (numbered s.links link) h
kept_in o (action.LinkBreaks link number) s h =
    let u : Seen = link_over over.Broken link s in
    beside u (wants_resolution u) refl refl refl refl refl (link_now s (λ (l : Link). record l { over = Some over.Broken }) (λ l. refl) link h)
kept_in o (action.LinkLost link) s h =
    let u : Seen = link_over over.Lost link s in
    beside u (replied reply.Done (wants_resolution u)) refl refl refl refl refl
    (link_now s (λ (l : Link). record l { over = Some over.Lost }) (λ l. refl) link h)
kept_in o (action.PingQueued link) s h =
    entry_now (owed (ping_of o.event) link s) (replied reply.Done (owed (ping_of o.event) link s)).current
    (link_now s (λ (l : Link). record l { owed = l.owed ++ ping_of o.event }) (λ l. refl) link h)
kept_in o (action.FrameWritten link x) s h = written_now x s (numbered s.links link) h
kept_in o action.ChannelShuts s h = beside s (replied reply.Done (record s { shut = true })) refl refl refl refl refl h

kept_if : (o : Option OpenEntry) (a : Action) (s : Seen) → IsInPlace s → IsInPlace (after_if o a s)
kept_if (Some o) a s h = kept_in o a s h
kept_if None (action.EntryOpens posted word e) s h = beside s (opened posted word e s) refl refl refl refl refl h
kept_if None a s h = h

pub actions_keep_places : (a : Action) (s : Seen) → IsInPlace s → IsInPlace (after a s)
actions_keep_places a s h = kept_if s.current a s h

no_place : {X : Type 0} (k : ℕ) (x : X) → numbered [] k ≡ Some x → ⊥
no_place zero x e = absurd (cc)
no_place (suc i) x e = absurd (cc)

new_in_place : (setup : Setup) → IsInPlace (new_session setup)
new_in_place setup = record {
  calls = λ k x e. absurd (no_place k x e);
  attempts = λ k x e. absurd (no_place k x e);
  policies = λ k x e. absurd (no_place k x e);
  subs = λ k x e. absurd (no_place k x e);
  links = λ k x e. absurd (no_place k x e);
}

runs_in_place : (actions : List Action) (s t : Seen) → IsInPlace s → Does actions s t → IsInPlace t
runs_in_place [] s t h does = subst (λ (x : Seen). IsInPlace x) (sym does) h
runs_in_place (a ∷ actions) s t h does = runs_in_place actions (after a s) t (actions_keep_places a s h) does.1

pub sessions_are_in_place : (setup : Setup) (actions : List Action) (s : Seen) → Does actions (new_session setup) s → IsInPlace s
sessions_are_in_place setup actions s does = runs_in_place actions (new_session setup) s (new_in_place setup) does
