-- Kind by kind: no action gives a subchannel a link but LinkUp, whose link is new; and none changes of which subchannel a link is.
use Rattle.std.proofs.Common.{◌≡◌, ◌&&◌, ◌++◌, ◌+◌, ◌==◌, ◌∷◌, ap, arith, refl, subst, sym, ◌∙◌, Bool, true, false, Err, List, [], None, Ok, Option, Result, Some, ℕ, if◌then◌else◌, is_none, is_some, length, map, not, option_and_then, option_map, slice_get, suc, zero}
use Rattle.std.proofs.lemmas.Bool.{eqb-false, eqb-true}
use Rattle.std.proofs.lemmas.Option.{slice_get-map}
use Rattle.std.specs.Option.{option_map_or}
use Rattle.attempt_ledger.specs.Ends.{is_cut}
use Rattle.attempt_ledger.specs.Numbering.{is_transparent}
use Rattle.attempt_ledger.specs.declared.row.RowEnd.{RowEnd}
use Rattle.attempt_ledger.specs.declared.row.RowKind.{RowKind}
use Rattle.call_actions.proofs.Lists.{changed_away, changed_map, numbered_last}
use Rattle.channel_actions.proofs.Gone.{all_numbered}
use Rattle.grpc_base.specs.declared.address.Address.{Address}
use Rattle.grpc_base.specs.declared.event.ConfigFault.{ConfigFault}
use Rattle.grpc_base.specs.declared.event.Conn.TheVariants as conn
use Rattle.grpc_base.specs.declared.event.Event.{Event}
use Rattle.grpc_base.specs.declared.event.Event.TheVariants as event
use Rattle.grpc_base.specs.declared.event.Reply.TheVariants as reply
use Rattle.grpc_base.specs.declared.plan.Throttle.{Throttle}
use Rattle.h2_frame.specs.Frames.{FrameSeen}
use Rattle.h2_frame.specs.Numbers.{headers_type}
use Rattle.channel_actions.specs.KeptSessions.Kept.{IsKept, came_up, is_sound_sub}
use Rattle.channel_actions.specs.KeptSessions.Laws.{KeptAlong}
use Rattle.lb_policy.specs.Table.{is_ready}
use Rattle.channel_actions.specs.OwnLinks.Laws.{OwnAlong, OwnBegins, OwnStays}
use Rattle.channel_actions.specs.OwnLinks.Own.{LinksAreOwn}
use Rattle.service_config.specs.declared.config.Config.{Config}
use Rattle.session_actions.specs.Actions.{after, after_if, after_in}
use Rattle.session_actions.specs.AttemptEnds.{attempt_ended_as, stream_reset_of, with_end_in_run}
use Rattle.session_actions.specs.Attempts.{call_of, is_to_follow, marked_row, with_attempt}
use Rattle.session_actions.specs.Calls.{marked}
use Rattle.session_actions.specs.Closing.{noted_gone}
use Rattle.session_actions.specs.Commitments.{with_commitment}
use Rattle.session_actions.specs.Configs.{config_of_call, config_read, resolver_answered, run_to_join, with_held, with_throttled}
use Rattle.session_actions.specs.Deliveries.{call_begun_by}
use Rattle.session_actions.specs.Entries.{entry, replied}
use Rattle.session_actions.specs.Links.{link_number, link_over, owed, wants_resolution, with_link}
use Rattle.session_actions.specs.Making.{attempt_made, new_row, with_row, without_turn_unless}
use Rattle.session_actions.specs.Policies.{addresses_given, addresses_in, current_policy, given_addresses, policy_retired, policy_took_over, with_placing, with_policy}
use Rattle.session_actions.specs.Refusals.{is_gone}
use Rattle.session_actions.specs.Subchannels.{connect_timed_out, dial_failed, dial_taken_of, gone_down, in_state, link_timed_out, link_up, new_link, new_sub, noted_by_policies, sub_added, with_dial, with_sub, without_link}
use Rattle.session_actions.specs.Words.{changed, numbered}
use Rattle.session_actions.specs.Writing.{frame_read_on, frame_written_on, link_broken, link_lost, owed_for, ping_of, stream_opened, stream_opened_by, waiting_on, with_frame_read, with_piece, with_stream}
use Rattle.session_actions.specs.declared.action.Action.{Action}
use Rattle.session_actions.specs.declared.action.Action.TheVariants as action
use Rattle.session_actions.specs.declared.attempt.Attempt.{Attempt}
use Rattle.session_actions.specs.declared.call.Call.{Call}
use Rattle.session_actions.specs.declared.call.MarkKind.{MarkKind}
use Rattle.session_actions.specs.declared.call.MarkKind.TheVariants as mark
use Rattle.session_actions.specs.declared.config.ThrottleRun.{ThrottleRun}
use Rattle.session_actions.specs.declared.entry.OpenEntry.{OpenEntry}
use Rattle.session_actions.specs.declared.link.Link.{Link}
use Rattle.session_actions.specs.declared.link.LinkOver.TheVariants as over
use Rattle.session_actions.specs.declared.link.Sent.{Sent}
use Rattle.session_actions.specs.declared.link.Sent.TheVariants as sent
use Rattle.session_actions.specs.declared.link.Traffic.TheVariants as traffic
use Rattle.session_actions.specs.declared.policy.PolicyUse.{PolicyUse}
use Rattle.session_actions.specs.declared.seen.Seen.{Seen}
use Rattle.session_actions.specs.declared.subchannel.Subchannel.{Subchannel}

-- each link of a subchannel was there, as was each link, for the same subchannel
pub record IsRestricted (s t : Seen) : Type 0 where
  pub subs : (n k : ℕ) (c : Subchannel) → numbered t.subs n ≡ Some c → c.link ≡ Some k → (b : Subchannel) × ((numbered s.subs n ≡ Some b) × (b.link ≡ Some k))
  pub links : (k : ℕ) (q : Link) → numbered t.links k ≡ Some q → (l : Link) × ((numbered s.links k ≡ Some l) × (q.sub ≡ l.sub))

restricted_own : (s t : Seen) → IsRestricted s t → LinksAreOwn s → LinksAreOwn t
restricted_own s t w h n k c q here has there =
    let b = w.subs n k c here has in
    let l = w.links k q there in
    l.1.1 ∙ h n k b.0 l.0 b.1.0 b.1.1 l.1.0

restricted_then : (s t u : Seen) → IsRestricted s t → IsRestricted t u → IsRestricted s u
restricted_then s t u v w = record {
  subs = λ n k c here has. let b = w.subs n k c here has in v.subs n k b.0 b.1.0 b.1.1;
  links = λ k q there. let l = w.links k q there in let m = v.links k l.0 l.1.0 in (m.0, (m.1.0, l.1.1 ∙ m.1.1));
}

restricted_same : (s t : Seen) → t.subs ≡ s.subs → t.links ≡ s.links → IsRestricted s t
restricted_same s t e f = record {
  subs = λ n k c here has. (c, (ap (λ (xs : List Subchannel). numbered xs n) (sym e) ∙ here, has));
  links = λ k q there. (q, (ap (λ (xs : List Link). numbered xs k) (sym f) ∙ there, refl));
}

restricted_or : {X : Type 0} (s : Seen) (f : X → Seen) → ((x : X) → IsRestricted s (f x)) → (o : Option X) → IsRestricted s (option_map_or f o s)
restricted_or s f each None = restricted_same s s refl refl
restricted_or s f each (Some x) = each x

-- a subchannel changes
link_same : (x y : Link) (o : Option Link) → o ≡ Some x → o ≡ Some y → x ≡ y
link_same x y o e f = (cc)

pub some_same : {X : Type 0} (x y : X) (o : Option X) → o ≡ Some x → o ≡ Some y → x ≡ y
some_same x y o e f = (cc)

pub mapped : (f : Subchannel → Subchannel) (o : Option Subchannel) (c : Subchannel) → option_map f o ≡ Some c → (b : Subchannel) × ((o ≡ Some b) × (f b ≡ c))
mapped f None c e = absurd (cc)
mapped f (Some b) c e = (b, (refl, (cc)))

sub_if : (f : Subchannel → Subchannel) (restricted : (b : Subchannel) (k : ℕ) → (f b).link ≡ Some k → b.link ≡ Some k) (n : ℕ) (xs : List Subchannel) (j k : ℕ) (c : Subchannel) (t : Bool)
    → (j == n) ≡ t → numbered (changed f n xs) j ≡ Some c → c.link ≡ Some k → (b : Subchannel) × ((numbered xs j ≡ Some b) × (b.link ≡ Some k))
sub_if f restricted n xs j k c true is here has =
    let same : j ≡ n = eqb-true j n is in
    let m = mapped f (numbered xs n) c (sym (changed_map f n xs) ∙ ap (numbered (changed f n xs)) (sym same) ∙ here) in
    (m.0, (ap (numbered xs) same ∙ m.1.0, restricted m.0 k (ap (λ (b : Subchannel). b.link) m.1.1 ∙ has)))
sub_if f restricted n xs j k c false is here has = (c, (sym (changed_away f n j xs (eqb-false j n is)) ∙ here, has))

restricted_sub : (f : Subchannel → Subchannel) → ((b : Subchannel) (k : ℕ) → (f b).link ≡ Some k → b.link ≡ Some k) → (n : ℕ) (s : Seen) → IsRestricted s (with_sub f n s)
restricted_sub f restricted n s =
    let t : Seen = record s { subs = changed f n s.subs } in
    restricted_then s t (with_sub f n s)
    (record { subs = λ j k c here has. sub_if f restricted n s.subs j k c (j == n) refl here has; links = λ k q there. (q, (there, refl)) })
    (restricted_or t (λ (b : Subchannel). noted_by_policies b t) (λ b. restricted_same t (noted_by_policies b t) refl refl) (numbered t.subs n))

none_there : (P : Type 0) (k : ℕ) → None ≡ Some k → P
none_there P k e = absurd (cc)

-- a link changes
pub link_mapped : (f : Link → Link) (o : Option Link) (q : Link) → option_map f o ≡ Some q → (l : Link) × ((o ≡ Some l) × (f l ≡ q))
link_mapped f None q e = absurd (cc)
link_mapped f (Some l) q e = (l, (refl, (cc)))

link_if : (f : Link → Link) (keeps : (l : Link) → (f l).sub ≡ l.sub) (n : ℕ) (xs : List Link) (k : ℕ) (q : Link) (t : Bool)
    → (k == n) ≡ t → numbered (changed f n xs) k ≡ Some q → (l : Link) × ((numbered xs k ≡ Some l) × (q.sub ≡ l.sub))
link_if f keeps n xs k q true is there =
    let same : k ≡ n = eqb-true k n is in
    let m = link_mapped f (numbered xs n) q (sym (changed_map f n xs) ∙ ap (numbered (changed f n xs)) (sym same) ∙ there) in
    (m.0, (ap (numbered xs) same ∙ m.1.0, sym (ap (λ (l : Link). l.sub) m.1.1) ∙ keeps m.0))
link_if f keeps n xs k q false is there = (q, (sym (changed_away f n k xs (eqb-false k n is)) ∙ there, refl))

restricted_link : (f : Link → Link) → ((l : Link) → (f l).sub ≡ l.sub) → (n : ℕ) (s : Seen) → IsRestricted s (with_link f n s)
restricted_link f keeps n s = record {
  subs = λ j k c here has. (c, (here, has));
  links = λ k q there. link_if f keeps n s.links k q (k == n) refl there;
}

-- links are stamped
stamp_sub : (l : Link) (n : ℕ) (b : Bool) → (if b then record l { gone = Some n } else l).sub ≡ l.sub
stamp_sub l n true = refl
stamp_sub l n false = refl

pub numbered_map : (f : Link → Link) (xs : List Link) (n : ℕ) → numbered (map f xs) n ≡ option_map f (numbered xs n)
numbered_map f xs zero = refl
numbered_map f xs (suc i) = slice_get-map f xs i

restricted_stamped : (s : Seen) (t : Seen) → t.subs ≡ s.subs → t.links ≡ map (noted_gone s) s.links → IsRestricted s t
restricted_stamped s t e f = record {
  subs = λ n k c here has. (c, (ap (λ (xs : List Subchannel). numbered xs n) (sym e) ∙ here, has));
  links = λ k q there.
      let m = link_mapped (noted_gone s) (numbered s.links k) q (sym (numbered_map (noted_gone s) s.links k) ∙ ap (λ (xs : List Link). numbered xs k) (sym f) ∙ there) in
      (m.0, (m.1.0, sym (ap (λ (l : Link). l.sub) m.1.1) ∙ stamp_sub m.0 (entry s) (is_none m.0.gone && is_gone m.0 s)));
}

-- one thing more stands after the others
pub but_last : {X : Type 0} (xs : List X) (z : X) (n : ℕ) → (n ≡ suc (length xs) → ⊥) → numbered (xs ++ z ∷ []) n ≡ numbered xs n
but_last [] z zero off = refl
but_last [] z (suc zero) off = absurd (off refl)
but_last [] z (suc (suc i)) off = refl
but_last (x ∷ xs) z zero off = refl
but_last (x ∷ xs) z (suc zero) off = refl
but_last (x ∷ xs) z (suc (suc i)) off = but_last xs z (suc i) (λ e. off (ap suc e))

past : {X : Type 0} (xs : List X) → slice_get xs (length xs) ≡ None
past [] = refl
past (x ∷ xs) = past xs

last_sub : (xs : List Subchannel) (z : Subchannel) → z.link ≡ None → (n k : ℕ) (c : Subchannel) (t : Bool) → (n == suc (length xs)) ≡ t → numbered (xs ++ z ∷ []) n ≡ Some c → c.link ≡ Some k
    → (b : Subchannel) × ((numbered xs n ≡ Some b) × (b.link ≡ Some k))
last_sub xs z none n k c true is here has =
    let up : length xs + 1 ≡ suc (length xs) = omega arith in
    let at : numbered (xs ++ z ∷ []) n ≡ Some z = ap (numbered (xs ++ z ∷ [])) (eqb-true n (suc (length xs)) is ∙ sym up) ∙ numbered_last xs z in
    let one : z ≡ c = some_same z c (numbered (xs ++ z ∷ []) n) at here in
    none_there _ k (sym none ∙ ap (λ (b : Subchannel). b.link) one ∙ has)
last_sub xs z none n k c false is here has = (c, (sym (but_last xs z n (eqb-false n (suc (length xs)) is)) ∙ here, has))

module _ (s : Seen) where
  begun : (e : Event) → IsRestricted s (call_begun_by e s)
  begun (event.Begin request) = restricted_same s (call_begun_by (event.Begin request) s) refl refl
  begun _ = restricted_same s s refl refl

  turned : (b : Bool) → IsRestricted s (without_turn_unless b s)
  turned true = restricted_same s s refl refl
  turned false = restricted_same s (without_turn_unless false s) refl refl

  throttled : (config : Config) (t : Throttle) (o : Option ℕ) → IsRestricted s (with_throttled config t o s)
  throttled config t (Some run) = restricted_same s (with_throttled config t (Some run) s) refl refl
  throttled config t None = restricted_same s (with_throttled config t None s) refl refl

  held : (config : Config) (o : Option Throttle) → IsRestricted s (with_held config o s)
  held config None = restricted_same s (with_held config None s) refl refl
  held config (Some t) = throttled config t (run_to_join t s)

  run_step : (place : ℕ) (b : Bool) (o : Option ℕ)
      → IsRestricted s (if b then option_map_or (λ (run : ℕ). record s { runs = changed (λ (u : ThrottleRun). record u { ends = u.ends ++ place ∷ [] }) run s.runs }) o s else s)
  run_step place true o =
      restricted_or s (λ (run : ℕ). record s { runs = changed (λ (u : ThrottleRun). record u { ends = u.ends ++ place ∷ [] }) run s.runs }) (λ run. restricted_same s _ refl refl) o
  run_step place false o = restricted_same s s refl refl

  counted : (a : Attempt) (e : RowEnd) (c : Call) → IsRestricted s (with_end_in_run a e s c)
  counted a e c = run_step a.place (not (is_cut e.cause) && not (is_to_follow c e.cause e.unseen s)) (option_and_then (λ h. h.run) (config_of_call c s))

  ended : (e : RowEnd) (a : Attempt) → IsRestricted s (attempt_ended_as e s a)
  ended e a =
      let z : Seen = option_map_or (with_end_in_run a e s) (call_of a s) s in
      restricted_then s z (attempt_ended_as e s a) (restricted_or s (with_end_in_run a e s) (counted a e) (call_of a s)) (restricted_same z (attempt_ended_as e s a) refl refl)

  streamed : (f : FrameSeen) (o : Option Attempt) → IsRestricted s (option_map_or (λ (a : Attempt). with_attempt (with_stream f.stream) a.place s) o s)
  streamed f o = restricted_or s (λ (a : Attempt). with_attempt (with_stream f.stream) a.place s) (λ a. restricted_same s (with_attempt (with_stream f.stream) a.place s) refl refl) o

  open_if : (f : FrameSeen) (l : Link) (b : Bool) → IsRestricted s (if b then stream_opened f l s else s)
  open_if f l true = streamed f (slice_get (waiting_on l s) 0)
  open_if f l false = restricted_same s s refl refl

  opens : (x : Sent) (l : Link) → IsRestricted s (stream_opened_by x l s)
  opens sent.Preface l = restricted_same s s refl refl
  opens (sent.Frame f) l = open_if f l (f.kind == headers_type)

  written : (x : Sent) (l : Link) → IsRestricted s (frame_written_on x s l)
  written x l =
      let z : Seen = stream_opened_by x l s in
      let y : Seen = with_link (λ k. record k { traffic = k.traffic ++ traffic.Written x ∷ [] }) l.number z in
      restricted_then s z (frame_written_on x s l) (opens x l)
      (restricted_then z y (frame_written_on x s l) (restricted_link (λ k. record k { traffic = k.traffic ++ traffic.Written x ∷ [] }) (λ k. refl) l.number z) (restricted_same y (frame_written_on x s l) refl refl))

  row_changed : (f : Attempt → Attempt) (what : MarkKind) (place : ℕ) → IsRestricted s (marked_row what place (with_attempt f place s))
  row_changed f what place =
      let z : Seen = with_attempt f place s in
      restricted_then s z (marked_row what place z) (restricted_same s z refl refl)
      (restricted_or z (λ (a : Attempt). marked what a.row.call z) (λ a. restricted_same z (marked what a.row.call z) refl refl) (numbered z.attempts place))

  reset : (number : ℕ) (a : Attempt) → IsRestricted s (stream_reset_of number s a)
  reset number a =
      let z : Seen = with_attempt (λ (q : Attempt). record q { reset = true }) a.place s in
      restricted_then s z (stream_reset_of number s a) (restricted_same s z refl refl) (restricted_link _ (λ l. refl) (link_number a) z)

  dialled : (again until : ℕ) (b : Subchannel) → IsRestricted s (dial_taken_of again until s b)
  dialled again until b =
      let z : Seen = with_sub (with_dial again until) b.number s in
      restricted_then s z (dial_taken_of again until s b) (restricted_sub (with_dial again until) (λ c k e. e) b.number s) (restricted_same z (dial_taken_of again until s b) refl refl)

  timed_by : (o : Option Subchannel) → IsRestricted s (option_map_or (λ (b : Subchannel). link_timed_out b s) o s)
  timed_by o =
      restricted_or s (λ (b : Subchannel). link_timed_out b s)
      (λ b. restricted_or s (λ (link : ℕ). link_over over.TimedOut link s) (λ link. restricted_link (λ (l : Link). record l { over = Some over.TimedOut }) (λ l. refl) link s) b.link) o

  piece_sub : (e : Event) (l : Link) → (with_piece e l).sub ≡ l.sub
  piece_sub (event.Arrived link piece) l = refl
  piece_sub _ l = refl

config_is_read : (s : Seen) (x : Result Config ConfigFault) → IsRestricted s (config_read x s)
config_is_read s (Err fault) = restricted_same s (config_read (Err fault) s) refl refl
config_is_read s (Ok config) =
    let z : Seen = replied reply.Done (resolver_answered s) in
    restricted_then s z (config_read (Ok config) s) (restricted_same s z refl refl) (held z config config.throttle)

is_made : (s : Seen) (n number : ℕ) (k : RowKind) (due : ℕ) → IsRestricted s (attempt_made n number k due s)
is_made s n number k due =
    let v : Seen = marked (mark.Made (length s.attempts + 1)) n (with_row (new_row n number k due) s) in
    restricted_then s v (attempt_made n number k due s) (restricted_same s v refl refl) (turned v (is_transparent k))

is_failed : (s : Seen) (sub : ℕ) → IsRestricted s (dial_failed sub s)
is_failed s sub =
    let z : Seen = wants_resolution s in
    let y : Seen = with_sub (without_link conn.Failure) sub z in
    restricted_then s z (dial_failed sub s) (restricted_same s z refl refl)
    (restricted_then z y (dial_failed sub s) (restricted_sub (without_link conn.Failure) (λ b k e. none_there _ k e) sub z) (restricted_same y (dial_failed sub s) refl refl))

is_timed : (s : Seen) (sub : ℕ) → IsRestricted s (connect_timed_out sub s)
is_timed s sub =
    let z : Seen = option_map_or (λ (b : Subchannel). link_timed_out b s) (numbered s.subs sub) s in
    let y : Seen = wants_resolution z in
    restricted_then s z (connect_timed_out sub s) (timed_by s (numbered s.subs sub))
    (restricted_then z y (connect_timed_out sub s) (restricted_same z y refl refl) (restricted_sub (without_link conn.Failure) (λ b k e. none_there _ k e) sub y))

given : (s : Seen) (g : ℕ) (e : Event) → IsRestricted s (addresses_given g e s)
given s g e =
    restricted_or s (λ (addresses : List Address). with_policy (given_addresses addresses s) g s) (λ addresses. restricted_same s (with_policy (given_addresses addresses s) g s) refl refl) (addresses_in e)

took_over : (s : Seen) (g : ℕ) → IsRestricted s (policy_took_over g s)
took_over s g =
    let t : Seen = option_map_or (λ (h : PolicyUse). policy_retired h.number s) (current_policy s) s in
    restricted_then s t (policy_took_over g s)
    (restricted_or s (λ (h : PolicyUse). policy_retired h.number s) (λ h. restricted_same s (policy_retired h.number s) refl refl) (current_policy s)) (restricted_same t (policy_took_over g s) refl refl)

arrived : (s : Seen) (e : Event) (link : ℕ) → IsRestricted s (replied reply.Done (with_link (with_piece e) link s))
arrived s e link =
    let t : Seen = with_link (with_piece e) link s in
    restricted_then s t (replied reply.Done t) (restricted_link (with_piece e) (piece_sub s e) link s) (restricted_same t (replied reply.Done t) refl refl)

pinged : (s : Seen) (e : Event) (link : ℕ) → IsRestricted s (replied reply.Done (owed (ping_of e) link s))
pinged s e link =
    let t : Seen = owed (ping_of e) link s in
    restricted_then s t (replied reply.Done t) (restricted_link (λ (l : Link). record l { owed = l.owed ++ ping_of e }) (λ l. refl) link s) (restricted_same t (replied reply.Done t) refl refl)

broken : (s : Seen) (link : ℕ) → IsRestricted s (link_broken link s)
broken s link =
    let t : Seen = link_over over.Broken link s in
    restricted_then s t (link_broken link s) (restricted_link (λ (l : Link). record l { over = Some over.Broken }) (λ l. refl) link s) (restricted_same t (link_broken link s) refl refl)

lost : (s : Seen) (link : ℕ) → IsRestricted s (link_lost link s)
lost s link =
    let t : Seen = link_over over.Lost link s in
    restricted_then s t (link_lost link s) (restricted_link (λ (l : Link). record l { over = Some over.Lost }) (λ l. refl) link s) (restricted_same t (link_lost link s) refl refl)

-- a subchannel more
added : (s : Seen) (a : Address) → IsRestricted s (sub_added a s)
added s a = record {
  subs = λ n k c here has. last_sub s.subs (new_sub a (length s.subs + 1)) refl n k c (n == suc (length s.subs)) refl here has;
  links = λ k q there. (q, (there, refl));
}

abbrev is_up : Action → Bool
is_up (action.LinkUp sub) = true
is_up _ = false

act : (s : Seen) (o : OpenEntry) (a : Action) → is_up a ≡ false → IsRestricted s (after_in o a s)
act s o (action.EntryOpens posted word e) off = restricted_same s s refl refl
act s o (action.EventRefused why) off = restricted_same s (after_in o (action.EventRefused why) s) refl refl
act s o (action.EventAnswered r) off = restricted_same s (after_in o (action.EventAnswered r) s) refl refl
act s o action.SettlingBegins off = restricted_same s (after_in o action.SettlingBegins s) refl refl
act s o action.EntryCloses off = restricted_stamped s (after_in o action.EntryCloses s) refl refl
act s o action.CallBegins off = begun s o.event
act s o (action.MessageAccepted n) off = restricted_same s (after_in o (action.MessageAccepted n) s) refl refl
act s o (action.RequestFinished n) off = restricted_same s (after_in o (action.RequestFinished n) s) refl refl
act s o (action.ItemTaken n item) off = restricted_same s (after_in o (action.ItemTaken n item) s) refl refl
act s o (action.CallEnds n why) off = restricted_same s (after_in o (action.CallEnds n why) s) refl refl
act s o (action.ConfigRead x) off = config_is_read s x
act s o action.ResolutionFailed off = restricted_same s (after_in o action.ResolutionFailed s) refl refl
act s o (action.CallConfigured n config) off = restricted_same s (after_in o (action.CallConfigured n config) s) refl refl
act s o (action.AttemptMade n number k due) off = is_made s n number k due
act s o (action.HedgeWithheld n) off = restricted_same s (after_in o (action.HedgeWithheld n) s) refl refl
act s o (action.PickRequested row generation answer) off = restricted_same s (after_in o (action.PickRequested row generation answer) s) refl refl
act s o (action.AttemptPlaced place at) off = row_changed s (with_placing at) (mark.Placed place) place
act s o (action.AttemptEnds place e) off = restricted_or s (attempt_ended_as e s) (ended s e) (numbered s.attempts place)
act s o (action.CallCommitted place why) off = row_changed s (with_commitment (entry s)) mark.Committed place
act s o (action.StreamReset place number) off = restricted_or s (stream_reset_of number s) (reset s number) (numbered s.attempts place)
act s o (action.PolicyBegins k) off = restricted_same s (after_in o (action.PolicyBegins k) s) refl refl
act s o (action.AddressesGiven g) off = given s g o.event
act s o (action.PolicyTakesOver g) off = took_over s g
act s o (action.PolicyRetired g) off = restricted_same s (after_in o (action.PolicyRetired g) s) refl refl
act s o (action.SubchannelAdded a) off = added s a
act s o (action.SubchannelShut sub) off = restricted_sub (without_link conn.Shutdown) (λ b k e. none_there _ k e) sub s
act s o (action.SubchannelConnects sub) off = restricted_sub (in_state conn.Connecting) (λ b k e. e) sub s
act s o (action.DialTaken sub again until) off = restricted_or s (dial_taken_of again until s) (dialled s again until) (numbered s.subs sub)
act s o (action.DialFails sub) off = is_failed s sub
act s o (action.ConnectTimesOut sub) off = is_timed s sub
act s o (action.BackoffEnds sub) off = restricted_sub (in_state conn.Idle) (λ b k e. e) sub s
act s o (action.SettingsArrive sub) off = restricted_sub (λ b. record b { state = conn.Ready; dials = 0; until = None }) (λ b k e. e) sub s
act s o (action.LinkDown sub) off = restricted_sub gone_down (λ b k e. none_there _ k e) sub s
act s o (action.BytesArrive link) off = arrived s o.event link
act s o (action.FrameRead link r) off =
    restricted_or s (frame_read_on r s) (λ l. restricted_link (with_frame_read r (owed_for r.frame l s)) (λ q. refl) l.number s) (numbered s.links link)
act s o (action.LinkBreaks link number) off = broken s link
act s o (action.LinkLost link) off = lost s link
act s o (action.PingQueued link) off = pinged s o.event link
act s o (action.FrameWritten link x) off = restricted_or s (frame_written_on x s) (written s x) (numbered s.links link)
act s o action.ChannelShuts off = restricted_same s (after_in o action.ChannelShuts s) refl refl
act s o (action.LinkUp sub) off = absurd (cc)

-- a link that comes up is new: no other subchannel has it
within : {X : Type 0} (xs : List X) (n : ℕ) → is_some (numbered xs n) ≡ true → n ≡ suc (length xs) → ⊥
within xs n there is =
    let none : numbered xs n ≡ None = ap (numbered xs) is ∙ past xs in
    let bad : true ≡ false = sym there ∙ ap (λ (o : Option _). is_some o) none in absurd (cc)

came : (s : Seen) (o : Option ℕ) (b : Bool) (k : ℕ) → o ≡ Some k → option_map_or (came_up s) o b ≡ true → is_some (numbered s.links k) ≡ true
came s None b k e up = absurd (cc)
came s (Some n) b k e up = let one : n ≡ k = (cc) in sym (ap (came_up s) one) ∙ up

module _ (s : Seen) (sub : ℕ) (kept : IsKept s) (own : LinksAreOwn s) where
  abbrev new : Link
  new = new_link (length s.links + 1) sub s

  abbrev u : Seen
  u = record s { links = s.links ++ new ∷ [] }

  abbrev f : Subchannel → Subchannel
  f b = record b { link = Some (length s.links + 1) }

  old_link : (n k : ℕ) (b : Subchannel) (q : Link) → numbered s.subs n ≡ Some b → b.link ≡ Some k → numbered (s.links ++ new ∷ []) k ≡ Some q → q.sub ≡ n
  old_link n k b q here has there =
      let up : is_some (numbered s.links k) ≡ true = came s b.link (not (is_ready b.state)) k has (all_numbered (is_sound_sub s) s.subs n b here kept.boards) in
      own n k b q here has (sym (but_last s.links new k (within s.links k up)) ∙ there)

  new_one : (k : ℕ) (q : Link) → length s.links + 1 ≡ k → numbered (s.links ++ new ∷ []) k ≡ Some q → q.sub ≡ sub
  new_one k q is there =
      let at : numbered (s.links ++ new ∷ []) k ≡ Some new = ap (numbered (s.links ++ new ∷ [])) (sym is) ∙ numbered_last s.links new in
      let one : new ≡ q = link_same new q (numbered (s.links ++ new ∷ []) k) at there in
      sym (ap (λ (l : Link). l.sub) one)

  own_if : (n k : ℕ) (c : Subchannel) (q : Link) (t : Bool) → (n == sub) ≡ t → numbered (changed f sub s.subs) n ≡ Some c → c.link ≡ Some k → numbered (s.links ++ new ∷ []) k ≡ Some q → q.sub ≡ n
  own_if n k c q true is here has there =
      let same : n ≡ sub = eqb-true n sub is in
      let m = mapped f (numbered s.subs sub) c (sym (changed_map f sub s.subs) ∙ ap (numbered (changed f sub s.subs)) (sym same) ∙ here) in
      let number : Some (length s.links + 1) ≡ Some k = ap (λ (b : Subchannel). b.link) m.1.1 ∙ has in
      let one : length s.links + 1 ≡ k = (cc) in
      new_one k q one there ∙ sym same
  own_if n k c q false is here has there =
      old_link n k c q (sym (changed_away f sub n s.subs (eqb-false n sub is)) ∙ here) has there

  noted_by : (o : Option Subchannel) → ((option_map_or (λ (b : Subchannel). noted_by_policies b (record u { subs = changed f sub s.subs })) o (record u { subs = changed f sub s.subs })).subs ≡ changed f sub s.subs)
      × ((option_map_or (λ (b : Subchannel). noted_by_policies b (record u { subs = changed f sub s.subs })) o (record u { subs = changed f sub s.subs })).links ≡ s.links ++ new ∷ [])
  noted_by None = (refl, refl)
  noted_by (Some b) = (refl, refl)

  up_own : LinksAreOwn (link_up sub s)
  up_own n k c q here has there =
      let both = noted_by (numbered (changed f sub s.subs) sub) in
      own_if n k c q (n == sub) refl (ap (λ (xs : List Subchannel). numbered xs n) (sym both.0) ∙ here) has (ap (λ (ls : List Link). numbered ls k) (sym both.1) ∙ there)

up_or : (s : Seen) (o : OpenEntry) (a : Action) (b : Bool) → is_up a ≡ b → IsKept s → LinksAreOwn s → LinksAreOwn (after_in o a s)
up_or s o a false e kept own = restricted_own s (after_in o a s) (act s o a e) own
up_or s o (action.LinkUp sub) true e kept own = up_own s sub kept own
up_or s o _ true e kept own = absurd (cc)

stays_if : (s : Seen) (o : Option OpenEntry) (a : Action) → IsKept s → LinksAreOwn s → LinksAreOwn (after_if o a s)
stays_if s (Some o) a kept own = up_or s o a (is_up a) refl kept own
stays_if s None (action.EntryOpens posted word e) kept own = own
stays_if s None _ kept own = own

pub own_stays : OwnStays
own_stays s a kept own = stays_if s s.current a kept own

pub own_begins : OwnBegins
own_begins setup zero k b l here has there = absurd (cc)
own_begins setup (suc n) k b l here has there = absurd (cc)

pub own_along : KeptAlong → OwnAlong
own_along kept_along [] s t kept own does = subst LinksAreOwn (sym does) own
own_along kept_along (a ∷ actions) s t kept own does =
    own_along kept_along actions (after a s) t (kept_along (a ∷ []) s (after a s) kept (does.0, refl)) (own_stays s a kept own) does.1
