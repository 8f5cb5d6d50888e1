-- Kind by kind: no action opens a link again, or takes a link from a subchannel that goes on, but where the link goes down; and one that comes up is its subchannel's own.
use Rattle.attempt_ledger.specs.Ends.{is_cut}
use Rattle.attempt_ledger.specs.Numbering.{is_transparent}
use Rattle.attempt_ledger.specs.declared.row.RowEnd.{RowEnd}
use Rattle.attempt_ledger.specs.declared.row.RowKind.{RowKind}
use Rattle.call_actions.proofs.Lists.{changed_away, changed_here, changed_map}
use Rattle.channel_actions.proofs.Gone.{all_numbered}
use Rattle.channel_actions.proofs.Links.Own.Owned.{link_mapped, numbered_map, some_same}
use Rattle.channel_actions.specs.KeptSessions.Kept.{IsKept}
use Rattle.channel_actions.specs.TheirLinks.Theirs.{LinksAreTheirs}
use Rattle.grpc_base.specs.declared.address.Address.{Address}
use Rattle.grpc_base.specs.declared.event.ConfigFault.{ConfigFault}
use Rattle.grpc_base.specs.declared.event.Event.TheVariants as event
use Rattle.grpc_base.specs.declared.event.Event.{Event}
use Rattle.grpc_base.specs.declared.event.Reply.TheVariants as reply
use Rattle.grpc_base.specs.declared.plan.Throttle.{Throttle}
use Rattle.h2_frame.specs.Frames.{FrameSeen}
use Rattle.h2_frame.specs.Numbers.{goaway_type, headers_type}
use Rattle.service_config.specs.declared.config.Config.{Config}
use Rattle.session_actions.specs.AttemptEnds.{attempt_ended_as, stream_reset_of, with_end_in_run}
use Rattle.session_actions.specs.Attempts.{call_of, is_to_follow, marked_row, with_attempt}
use Rattle.session_actions.specs.Calls.{marked}
use Rattle.session_actions.specs.Closing.{noted_gone}
use Rattle.session_actions.specs.Configs.{config_of_call, config_read, resolver_answered, run_to_join, with_held, with_throttled}
use Rattle.session_actions.specs.Deliveries.{call_begun_by}
use Rattle.session_actions.specs.Entries.{entry, replied}
use Rattle.session_actions.specs.Links.{is_retiring, link_number, owed, read_in, with_link}
use Rattle.session_actions.specs.Making.{attempt_made, new_row, with_row, without_turn_unless}
use Rattle.session_actions.specs.Policies.{addresses_given, addresses_in, current_policy, given_addresses, is_shutdown, policy_retired, policy_took_over, with_policy}
use Rattle.session_actions.specs.Refusals.{is_gone}
use Rattle.session_actions.specs.Subchannels.{dial_taken_of, noted_by_policies, with_dial, with_sub}
use Rattle.session_actions.specs.Words.{changed, numbered}
use Rattle.session_actions.specs.Writing.{frame_written_on, ping_of, stream_opened, stream_opened_by, waiting_on, with_piece, with_stream}
use Rattle.session_actions.specs.declared.attempt.Attempt.{Attempt}
use Rattle.session_actions.specs.declared.call.Call.{Call}
use Rattle.session_actions.specs.declared.call.MarkKind.TheVariants as mark
use Rattle.session_actions.specs.declared.call.MarkKind.{MarkKind}
use Rattle.session_actions.specs.declared.config.ThrottleRun.{ThrottleRun}
use Rattle.session_actions.specs.declared.link.Link.{Link}
use Rattle.session_actions.specs.declared.link.LinkOver.{LinkOver}
use Rattle.session_actions.specs.declared.link.ReadFrame.{ReadFrame}
use Rattle.session_actions.specs.declared.link.Sent.TheVariants as sent
use Rattle.session_actions.specs.declared.link.Sent.{Sent}
use Rattle.session_actions.specs.declared.link.Traffic.TheVariants as traffic
use Rattle.session_actions.specs.declared.link.Traffic.{Traffic}
use Rattle.session_actions.specs.declared.policy.PolicyUse.{PolicyUse}
use Rattle.session_actions.specs.declared.seen.Seen.{Seen}
use Rattle.session_actions.specs.declared.subchannel.Subchannel.{Subchannel}
use Rattle.std.proofs.Common.{Bool, Err, List, None, Ok, Option, Result, Some, [], ap, false, if◌then◌else◌, is_none, is_some, length, map, not, option_and_then, refl, slice_get, sym, true, ℕ, ◌&&◌, ◌++◌, ◌+◌, ◌==◌, ◌||◌, ◌∙◌, ◌∷◌, ◌≡◌}
use Rattle.std.proofs.lemmas.Bool.{eqb-false, eqb-true}
use Rattle.std.proofs.lemmas.List.Elements.{filter_map-append}
use Rattle.std.proofs.lemmas.List.Folds.{list_any-append}
use Rattle.std.specs.List.{list_any}
use Rattle.std.specs.Prelude.{filter_map}
use Rattle.std.specs.Option.{option_map_or}

-- an open link was there, of the same subchannel; and each subchannel is there still: where it was not shut down, it has the link that it had
pub record WasOpen (s : Seen) (k : ℕ) (q : Link) : Type 0 where
  pub link : Link
  pub here : numbered s.links k ≡ Some link
  pub over : link.over ≡ None
  pub retiring : is_retiring link ≡ false
  pub sub : q.sub ≡ link.sub

pub record HasSub (t : Seen) (n : ℕ) (b : Subchannel) : Type 0 where
  pub sub : Subchannel
  pub here : numbered t.subs n ≡ Some sub
  pub same : is_shutdown sub.state ≡ false → (is_shutdown b.state ≡ false) × (sub.link ≡ b.link)

pub record GoesOn (s t : Seen) : Type 0 where
  pub links : (k : ℕ) (q : Link) → numbered t.links k ≡ Some q → q.over ≡ None → is_retiring q ≡ false → WasOpen s k q
  pub subs : (n : ℕ) (b : Subchannel) → numbered s.subs n ≡ Some b → HasSub t n b

-- the subchannel of a link is there
found : {X : Type 0} (o : Option X) → is_some o ≡ true → (x : X) × (o ≡ Some x)
found None e = absurd (cc)
found (Some x) e = (x, refl)

dialled_one : (s : Seen) (k : ℕ) (l : Link) → IsKept s → numbered s.links k ≡ Some l → (b : Subchannel) × (numbered s.subs l.sub ≡ Some b)
dialled_one s k l kept here =
    found (numbered s.subs l.sub) (all_numbered (λ (q : Link). is_some (numbered s.subs q.sub)) s.links k l here kept.dialled)

pub goes_theirs : (s t : Seen) → IsKept s → GoesOn s t → LinksAreTheirs s → LinksAreTheirs t
goes_theirs s t kept w h k q c there open_ goes here shut =
    let o = w.links k q there open_ goes in
    let b = dialled_one s k o.link kept o.here in
    let d = w.subs o.link.sub b.0 b.1 in
    let one : d.sub ≡ c = some_same d.sub c (numbered t.subs o.link.sub) d.here (ap (numbered t.subs) (sym o.sub) ∙ here) in
    let both = d.same (ap (λ (z : Subchannel). is_shutdown z.state) one ∙ shut) in
    ap (λ (z : Subchannel). z.link) (sym one) ∙ both.1 ∙ h k o.link b.0 o.here o.over o.retiring b.1 both.0

pub goes_then : (s t u : Seen) → GoesOn s t → GoesOn t u → GoesOn s u
goes_then s t u v w = record {
  links = λ k q there open_ goes.
      let m = w.links k q there open_ goes in
      let l = v.links k m.link m.here m.over m.retiring in record { link = l.link; here = l.here; over = l.over; retiring = l.retiring; sub = m.sub ∙ l.sub };
  subs = λ n b here.
      let c = v.subs n b here in
      let d = w.subs n c.sub c.here in
      record { sub = d.sub; here = d.here; same = λ e. let y = d.same e in let z = c.same y.0 in (z.0, y.1 ∙ z.1) };
}

pub goes_same : (s t : Seen) → t.subs ≡ s.subs → t.links ≡ s.links → GoesOn s t
goes_same s t e f = record {
  links = λ k q there open_ goes.
      record { link = q; here = ap (λ (xs : List Link). numbered xs k) (sym f) ∙ there; over = open_; retiring = goes; sub = refl };
  subs = λ n b here. record { sub = b; here = ap (λ (xs : List Subchannel). numbered xs n) e ∙ here; same = λ d. (d, refl) };
}

pub goes_or : {X : Type 0} (s : Seen) (f : X → Seen) → ((x : X) → GoesOn s (f x)) → (o : Option X) → GoesOn s (option_map_or f o s)
goes_or s f each None = goes_same s s refl refl
goes_or s f each (Some x) = each x

-- a subchannel changes
abbrev pub Keeps : (Subchannel → Subchannel) → Subchannel → Type 0
Keeps f b = is_shutdown (f b).state ≡ false → (is_shutdown b.state ≡ false) × ((f b).link ≡ b.link)

sub_if : (f : Subchannel → Subchannel) (n : ℕ) (s : Seen) → ((b : Subchannel) → numbered s.subs n ≡ Some b → Keeps f b) → (m : ℕ) (b : Subchannel) (t : Bool) → (m == n) ≡ t
    → numbered s.subs m ≡ Some b → HasSub (record s { subs = changed f n s.subs }) m b
sub_if f n s keeps m b true is here =
    let same : m ≡ n = eqb-true m n is in
    let there : numbered s.subs n ≡ Some b = ap (numbered s.subs) (sym same) ∙ here in
    record { sub = f b; here = ap (numbered (changed f n s.subs)) same ∙ changed_here f n s.subs b there; same = keeps b there }
sub_if f n s keeps m b false is here = record { sub = b; here = changed_away f n m s.subs (eqb-false m n is) ∙ here; same = λ d. (d, refl) }

pub goes_sub : (f : Subchannel → Subchannel) (n : ℕ) (s : Seen) → ((b : Subchannel) → numbered s.subs n ≡ Some b → Keeps f b) → GoesOn s (with_sub f n s)
goes_sub f n s keeps =
    let t : Seen = record s { subs = changed f n s.subs } in
    goes_then s t (with_sub f n s)
    (record {
      links = λ k q there open_ goes. record { link = q; here = there; over = open_; retiring = goes; sub = refl };
      subs = λ m b here. sub_if f n s keeps m b (m == n) refl here;
    })
    (goes_or t (λ (b : Subchannel). noted_by_policies b t) (λ b. goes_same t (noted_by_policies b t) refl refl) (numbered t.subs n))

-- a link changes, and no link opens by it
pub record StaysOver (f : Link → Link) : Type 0 where
  pub sub : (l : Link) → (f l).sub ≡ l.sub
  pub over : (l : Link) → (f l).over ≡ None → l.over ≡ None
  pub retiring : (l : Link) → is_retiring (f l) ≡ false → is_retiring l ≡ false

was_open : (f : Link → Link) → StaysOver f → (s : Seen) (k : ℕ) (l q : Link) → numbered s.links k ≡ Some l → f l ≡ q → q.over ≡ None → is_retiring q ≡ false → WasOpen s k q
was_open f stays s k l q here is open_ goes = record {
  link = l;
  here = here;
  over = stays.over l (ap (λ (z : Link). z.over) is ∙ open_);
  retiring = stays.retiring l (ap is_retiring is ∙ goes);
  sub = sym (ap (λ (z : Link). z.sub) is) ∙ stays.sub l;
}

link_if : (f : Link → Link) → StaysOver f → (n : ℕ) (s : Seen) (k : ℕ) (q : Link) (t : Bool) → (k == n) ≡ t → numbered (changed f n s.links) k ≡ Some q → q.over ≡ None
    → is_retiring q ≡ false → WasOpen s k q
link_if f stays n s k q true is there open_ goes =
    let same : k ≡ n = eqb-true k n is in
    let m = link_mapped f (numbered s.links n) q (sym (changed_map f n s.links) ∙ ap (numbered (changed f n s.links)) (sym same) ∙ there) in
    was_open f stays s k m.0 q (ap (numbered s.links) same ∙ m.1.0) m.1.1 open_ goes
link_if f stays n s k q false is there open_ goes =
    record { link = q; here = sym (changed_away f n k s.links (eqb-false k n is)) ∙ there; over = open_; retiring = goes; sub = refl }

pub goes_link : (f : Link → Link) → StaysOver f → (n : ℕ) (s : Seen) → GoesOn s (with_link f n s)
goes_link f stays n s = record {
  links = λ k q there open_ goes. link_if f stays n s k q (k == n) refl there open_ goes;
  subs = λ m b here. record { sub = b; here = here; same = λ d. (d, refl) };
}

-- which do not
pub left_over : (why : LinkOver) → StaysOver (λ (l : Link). record l { over = Some why })
left_over why = record { sub = λ l. refl; over = λ l e. absurd (let bad : Some why ≡ None = e in (cc)); retiring = λ l e. e }

or_first : (a b : Bool) → (a || b) ≡ false → a ≡ false
or_first true b e = absurd (cc)
or_first false b e = refl

pub retiring_less : (l : Link) (x : Traffic) → is_retiring (record l { traffic = l.traffic ++ x ∷ [] }) ≡ false → is_retiring l ≡ false
retiring_less l x e =
    let away : ReadFrame → Bool = λ r. r.frame.kind == goaway_type in
    or_first (is_retiring l) (list_any away (filter_map read_in (x ∷ [])))
    (sym (list_any-append away (filter_map read_in l.traffic) (filter_map read_in (x ∷ [])))
    ∙ sym (ap (list_any away) (filter_map-append read_in l.traffic (x ∷ []))) ∙ e)

piece_stays : (e : Event) → StaysOver (with_piece e)
piece_stays (event.Arrived link piece) = record { sub = λ l. refl; over = λ l f. f; retiring = λ l f. f }
piece_stays _ = record { sub = λ l. refl; over = λ l f. f; retiring = λ l f. f }

-- links are stamped
stamped_by : (s : Seen) (k : ℕ) (l q : Link) (n : ℕ) (b : Bool) → numbered s.links k ≡ Some l → (if b then record l { gone = Some n } else l) ≡ q → q.over ≡ None → is_retiring q ≡ false
    → WasOpen s k q
stamped_by s k l q n true here is open_ goes =
    record { link = l; here = here; over = ap (λ (z : Link). z.over) is ∙ open_; retiring = ap is_retiring is ∙ goes; sub = sym (ap (λ (z : Link). z.sub) is) }
stamped_by s k l q n false here is open_ goes =
    record { link = l; here = here; over = ap (λ (z : Link). z.over) is ∙ open_; retiring = ap is_retiring is ∙ goes; sub = sym (ap (λ (z : Link). z.sub) is) }

pub goes_stamped : (s t : Seen) → t.subs ≡ s.subs → t.links ≡ map (noted_gone s) s.links → GoesOn s t
goes_stamped s t e f = record {
  links = λ k q there open_ goes.
      let m = link_mapped (noted_gone s) (numbered s.links k) q (sym (numbered_map (noted_gone s) s.links k) ∙ ap (λ (xs : List Link). numbered xs k) (sym f) ∙ there) in
      stamped_by s k m.0 q (entry s) (is_none m.0.gone && is_gone m.0 s) m.1.0 m.1.1 open_ goes;
  subs = λ n b here. record { sub = b; here = ap (λ (xs : List Subchannel). numbered xs n) e ∙ here; same = λ d. (d, refl) };
}

-- the actions that do not touch links, or only so
module _ (s : Seen) where
  pub begun : (e : Event) → GoesOn s (call_begun_by e s)
  begun (event.Begin request) = goes_same s (call_begun_by (event.Begin request) s) refl refl
  begun _ = goes_same s s refl refl

  turned : (b : Bool) → GoesOn s (without_turn_unless b s)
  turned true = goes_same s s refl refl
  turned false = goes_same s (without_turn_unless false s) refl refl

  throttled : (config : Config) (t : Throttle) (o : Option ℕ) → GoesOn s (with_throttled config t o s)
  throttled config t (Some run) = goes_same s (with_throttled config t (Some run) s) refl refl
  throttled config t None = goes_same s (with_throttled config t None s) refl refl

  held : (config : Config) (o : Option Throttle) → GoesOn s (with_held config o s)
  held config None = goes_same s (with_held config None s) refl refl
  held config (Some t) = throttled config t (run_to_join t s)

  run_step : (place : ℕ) (b : Bool) (o : Option ℕ)
      → GoesOn s (if b then option_map_or (λ (run : ℕ). record s { runs = changed (λ (u : ThrottleRun). record u { ends = u.ends ++ place ∷ [] }) run s.runs }) o s else s)
  run_step place true o =
      goes_or s (λ (run : ℕ). record s { runs = changed (λ (u : ThrottleRun). record u { ends = u.ends ++ place ∷ [] }) run s.runs }) (λ run. goes_same s _ refl refl) o
  run_step place false o = goes_same s s refl refl

  counted : (a : Attempt) (e : RowEnd) (c : Call) → GoesOn s (with_end_in_run a e s c)
  counted a e c = run_step a.place (not (is_cut e.cause) && not (is_to_follow c e.cause e.unseen s)) (option_and_then (λ h. h.run) (config_of_call c s))

  pub ended : (e : RowEnd) (a : Attempt) → GoesOn s (attempt_ended_as e s a)
  ended e a =
      let z : Seen = option_map_or (with_end_in_run a e s) (call_of a s) s in
      goes_then s z (attempt_ended_as e s a) (goes_or s (with_end_in_run a e s) (counted a e) (call_of a s)) (goes_same z (attempt_ended_as e s a) refl refl)

  streamed : (f : FrameSeen) (o : Option Attempt) → GoesOn s (option_map_or (λ (a : Attempt). with_attempt (with_stream f.stream) a.place s) o s)
  streamed f o = goes_or s (λ (a : Attempt). with_attempt (with_stream f.stream) a.place s) (λ a. goes_same s (with_attempt (with_stream f.stream) a.place s) refl refl) o

  open_if : (f : FrameSeen) (l : Link) (b : Bool) → GoesOn s (if b then stream_opened f l s else s)
  open_if f l true = streamed f (slice_get (waiting_on l s) 0)
  open_if f l false = goes_same s s refl refl

  pub opens : (x : Sent) (l : Link) → GoesOn s (stream_opened_by x l s)
  opens sent.Preface l = goes_same s s refl refl
  opens (sent.Frame f) l = open_if f l (f.kind == headers_type)

  abbrev written_to : Sent → Link → Link
  written_to x k = record k { traffic = k.traffic ++ traffic.Written x ∷ [] }

  pub written : (x : Sent) (l : Link) → GoesOn s (frame_written_on x s l)
  written x l =
      let z : Seen = stream_opened_by x l s in
      let y : Seen = with_link (written_to x) l.number z in
      goes_then s z (frame_written_on x s l) (opens x l)
      (goes_then z y (frame_written_on x s l)
      (goes_link (written_to x) (record { sub = λ k. refl; over = λ k e. e; retiring = λ k e. retiring_less k (traffic.Written x) e }) l.number z)
      (goes_same y (frame_written_on x s l) refl refl))

  pub row_changed : (f : Attempt → Attempt) (what : MarkKind) (place : ℕ) → GoesOn s (marked_row what place (with_attempt f place s))
  row_changed f what place =
      let z : Seen = with_attempt f place s in
      goes_then s z (marked_row what place z) (goes_same s z refl refl)
      (goes_or z (λ (a : Attempt). marked what a.row.call z) (λ a. goes_same z (marked what a.row.call z) refl refl) (numbered z.attempts place))

  owes : (frames : List FrameSeen) (n : ℕ) → GoesOn s (owed frames n s)
  owes frames n = goes_link (λ (l : Link). record l { owed = l.owed ++ frames }) (record { sub = λ l. refl; over = λ l e. e; retiring = λ l e. e }) n s

  pub dialled : (again until : ℕ) (b : Subchannel) → GoesOn s (dial_taken_of again until s b)
  dialled again until b =
      let z : Seen = with_sub (with_dial again until) b.number s in
      goes_then s z (dial_taken_of again until s b) (goes_sub (with_dial again until) b.number s (λ c here d. (d, refl))) (goes_same z (dial_taken_of again until s b) refl refl)

pub reset : (s : Seen) (number : ℕ) (a : Attempt) → GoesOn s (stream_reset_of number s a)
reset s number a =
    let z : Seen = with_attempt (λ (q : Attempt). record q { reset = true }) a.place s in
    goes_then s z (stream_reset_of number s a) (goes_same s z refl refl) (owes z _ (link_number a))

pub config_is_read : (s : Seen) (x : Result Config ConfigFault) → GoesOn s (config_read x s)
config_is_read s (Err fault) = goes_same s (config_read (Err fault) s) refl refl
config_is_read s (Ok config) =
    let z : Seen = replied reply.Done (resolver_answered s) in
    goes_then s z (config_read (Ok config) s) (goes_same s z refl refl) (held z config config.throttle)

pub is_made : (s : Seen) (n number : ℕ) (k : RowKind) (due : ℕ) → GoesOn s (attempt_made n number k due s)
is_made s n number k due =
    let v : Seen = marked (mark.Made (length s.attempts + 1)) n (with_row (new_row n number k due) s) in
    goes_then s v (attempt_made n number k due s) (goes_same s v refl refl) (turned v (is_transparent k))

pub given : (s : Seen) (g : ℕ) (e : Event) → GoesOn s (addresses_given g e s)
given s g e =
    goes_or s (λ (addresses : List Address). with_policy (given_addresses addresses s) g s) (λ addresses. goes_same s (with_policy (given_addresses addresses s) g s) refl refl) (addresses_in e)

pub took_over : (s : Seen) (g : ℕ) → GoesOn s (policy_took_over g s)
took_over s g =
    let t : Seen = option_map_or (λ (h : PolicyUse). policy_retired h.number s) (current_policy s) s in
    goes_then s t (policy_took_over g s)
    (goes_or s (λ (h : PolicyUse). policy_retired h.number s) (λ h. goes_same s (policy_retired h.number s) refl refl) (current_policy s)) (goes_same t (policy_took_over g s) refl refl)

pub arrived : (s : Seen) (e : Event) (link : ℕ) → GoesOn s (replied reply.Done (with_link (with_piece e) link s))
arrived s e link =
    let t : Seen = with_link (with_piece e) link s in
    goes_then s t (replied reply.Done t) (goes_link (with_piece e) (piece_stays e) link s) (goes_same t (replied reply.Done t) refl refl)

pub pinged : (s : Seen) (e : Event) (link : ℕ) → GoesOn s (replied reply.Done (owed (ping_of e) link s))
pinged s e link =
    let t : Seen = owed (ping_of e) link s in goes_then s t (replied reply.Done t) (owes s (ping_of e) link) (goes_same t (replied reply.Done t) refl refl)
