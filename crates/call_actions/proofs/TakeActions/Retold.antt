-- What an application posts to a call or takes of it leaves the rest of the call as it is: its attempts, and what came of its response. So does what the
-- event of the entry is answered.
use Rattle.std.proofs.Common.{◌≡◌, ◌+◌, ◌∷◌, ◌==◌, ap, refl, subst, sym, ◌∙◌, Bool, true, false, List, [], Option, None, Some, ℕ, if◌then◌else◌, is_some, length, slice_get, slice_set, suc, zero}
use Rattle.std.proofs.lemmas.Bool.{eqb-false, eqb-true}
use Rattle.std.specs.Option.{option_map, option_map_or}
use Rattle.attempt_buffer.specs.Buffers.{Buffered}
use Rattle.call_actions.proofs.Frames.{bucket_reported, counted_rows_same, delayed_same, due_same, live_same, retold}
use Rattle.call_actions.proofs.Lists.{changed_away, changed_here}
use Rattle.call_actions.specs.Sees.{AttemptsAgree, DuesAgree, Sees, longest}
use Rattle.call_core.specs.Laws as channel
use Rattle.call_core.specs.Steps.{Stepped}
use Rattle.call_core.specs.declared.inbox.Inbox.{Inbox}
use Rattle.grpc_base.specs.Limits.{message_limit}
use Rattle.grpc_base.specs.declared.event.Reply.{Reply}
use Rattle.session_actions.specs.Attempts.{commitment}
use Rattle.session_actions.specs.Configs.{chosen_of}
use Rattle.session_actions.specs.Deliveries.{response_items}
use Rattle.session_actions.specs.DueAttempts.{due_state, no_due}
use Rattle.session_actions.specs.Links.{link_of}
use Rattle.session_actions.specs.Responses.{limit_of_attempt, no_response, response, response_by, response_in, response_on, traffic_of}
use Rattle.session_actions.specs.Tokens.{run_of}
use Rattle.session_actions.specs.Words.{changed, changed_if, last_of, numbered}
use Rattle.session_actions.specs.declared.attempt.Attempt.{Attempt}
use Rattle.session_actions.specs.declared.call.Call.{Call}
use Rattle.session_actions.specs.declared.call.Mark.{Mark}
use Rattle.session_actions.specs.declared.due.DueState.{DueState}
use Rattle.session_actions.specs.declared.entry.OpenEntry.{OpenEntry}
use Rattle.session_actions.specs.declared.link.Link.{Link}
use Rattle.session_actions.specs.declared.seen.Seen.{Seen}
use Rattle.call_actions.proofs.TakeActions.Lists.{or_same}
use Rattle.call_actions.specs.TakeActions.Serves.{Holds, IsLeft, Serves, came}

-- the marks of a call
abbrev pub own_marks : Call → List Mark
own_marks c = c.marks

pub changed_map : (f : Call → Call) (n : ℕ) (xs : List Call) (o : Option Call) → numbered xs n ≡ o → numbered (changed f n xs) n ≡ option_map f o
changed_map f n xs None e = ap (λ (o : Option Call). numbered (changed_if f n xs o) n) e ∙ e
changed_map f n xs (Some c) e = changed_here f n xs c e

-- what is read of calls, where one of them is changed in what is not read
module _ {Y : Type 0} (f : Call → Call) (n : ℕ) (calls : List Call) (g : Call → Y) (d : Y) (same : (k : Call) → g (f k) ≡ g k) where
  pub or_changed : (o : Option Call) → option_map_or g (option_map f o) d ≡ option_map_or g o d
  or_changed None = refl
  or_changed (Some k) = same k

  pub or_by : (j : ℕ) (b : Bool) → (j == n) ≡ b → option_map_or g (numbered (changed f n calls) j) d ≡ option_map_or g (numbered calls j) d
  or_by j true e =
      let here : option_map_or g (numbered (changed f n calls) n) d ≡ option_map_or g (numbered calls n) d
      = ap (λ (o : Option Call). option_map_or g o d) (changed_map f n calls (numbered calls n) refl) ∙ or_changed (numbered calls n) in
      subst (λ (i : ℕ). option_map_or g (numbered (changed f n calls) i) d ≡ option_map_or g (numbered calls i) d) (sym (eqb-true j n e)) here
  or_by j false e = ap (λ (o : Option Call). option_map_or g o d) (changed_away f n j calls (eqb-false j n e))

  pub read_same : (j : ℕ) → option_map_or g (numbered (changed f n calls) j) d ≡ option_map_or g (numbered calls j) d
  read_same j = or_by j (j == n) refl

-- the call of the channel after that
abbrev pub resumed : Bool → ℕ → Buffered → Inbox → Stepped → Stepped
resumed finished longest_is buffer inbox x =
    record x { call = record x.call { is_finished = finished; longest = longest_is; buffer = buffer; inbox = inbox } }

module _ (s : Seen) (c : Call) (messages : Call → List (List ℕ)) (finished : Call → Bool) (taken : Call → ℕ) (end_taken : Call → Bool) (current : Option OpenEntry) where
  abbrev pub reported : Call → Call
  reported k = retold messages finished taken end_taken own_marks (λ (z : Call). z.end) k

  abbrev pub reported_now : Seen
  reported_now = record s { calls = changed reported c.number s.calls; current = current }

  -- the response to an attempt
  pub limit_same : (a : Attempt) → limit_of_attempt a reported_now ≡ limit_of_attempt a s
  limit_same a = read_same reported c.number s.calls (λ (k : Call). (chosen_of k s).response) message_limit (λ k. refl) a.row.call

  pub on_same : (a : Attempt) (stream : ℕ) (l : Link) → response_on a stream reported_now l ≡ response_on a stream s l
  on_same a stream l = ap (λ (limit : ℕ). response_in limit stream (traffic_of a l.traffic)) (limit_same a)

  pub by_same : (a : Attempt) (o : Option ℕ) → response_by a reported_now o ≡ response_by a s o
  by_same a None = refl
  by_same a (Some stream) = or_same (response_on a stream reported_now) (response_on a stream s) no_response (on_same a stream) (link_of a s)

  pub response_same : (a : Attempt) → response a reported_now ≡ response a s
  response_same a = by_same a a.row.stream

  pub came_same : came (reported c) reported_now ≡ came c s
  came_same =
      or_same (λ (k : Attempt). response_items (response k reported_now)) (λ (k : Attempt). response_items (response k s)) []
      (λ k. ap response_items (by_same k k.row.stream)) (commitment c s)

  -- what else the channel keeps of it
  pub sees_reported : (x : Stepped) (done : Bool) (longest_is : ℕ) (buffer : Buffered) (inbox : Inbox) → finished c ≡ done → longest (messages c) ≡ longest_is
      → is_some current ≡ is_some s.current → Sees s c x → Sees reported_now (reported c) (resumed done longest_is buffer inbox x)
  sees_reported x done longest_is buffer inbox done_is most still h =
      let a : AttemptsAgree s c x.call.attempts = h.attempts in
      let due : due_state (reported c) reported_now ≡ due_state c s = due_same s c.number messages finished taken end_taken own_marks (λ (z : Call). z.end) current c no_due c.marks in
      let attempts : AttemptsAgree reported_now (reported c) x.call.attempts = record {
        sent = a.sent;
        due = subst (λ (z : DueState). DuesAgree z x.call.attempts) (sym due) a.due;
        unplaced = a.unplaced;
        delayed = λ keeps free. delayed_same s c.number messages finished taken end_taken own_marks (λ (z : Call). z.end) current c x.call.attempts.sent ∙ a.delayed keeps free;
        last = λ free. ap last_of (counted_rows_same s c.number messages finished taken end_taken own_marks (λ (z : Call). z.end) current c.marks) ∙ a.last free;
        refused = a.refused;
        committed = a.committed;
      } in
      record {
        own = changed_here reported c.number s.calls c h.own;
        number_is = h.number_is;
        request = h.request;
        begun = h.begun;
        chosen = h.chosen;
        finished = done_is;
        longest_is = most;
        ended = h.ended;
        attempts = attempts;
        live = live_same s c.number messages finished taken end_taken own_marks current c ∙ h.live;
        tokens = bucket_reported s c.number messages finished taken end_taken own_marks (λ (z : Call). z.end) current (run_of c s) ∙ h.tokens;
        entry_is = ap (λ (b : Bool). length s.entries + (if b then 1 else 0)) still ∙ h.entry_is;
        rows = h.rows;
        call_is = h.call_is;
      }

-- the event of the entry is answered
pub set_same : {X : Type 0} (xs : List X) (i : ℕ) (x : X) → slice_get xs i ≡ Some x → slice_set xs i x ≡ xs
set_same [] i x e = absurd (cc)
set_same (y ∷ xs) zero x e = let one : x ≡ y = (cc) in ap (λ (z : _). z ∷ xs) one
set_same (y ∷ xs) (suc i) x e = ap (λ (l : List _). y ∷ l) (set_same xs i x e)

pub changed_self : {X : Type 0} (f : X → X) (n : ℕ) (xs : List X) (x : X) → f x ≡ x → numbered xs n ≡ Some x → changed f n xs ≡ xs
changed_self f zero xs x same e = absurd (cc)
changed_self f (suc i) xs x same e = ap (changed_if f (suc i) xs) e ∙ ap (slice_set xs i) same ∙ set_same xs i x e

module _ (s : Seen) (c : Call) (x : Stepped) (current : Option OpenEntry) (still : is_some current ≡ is_some s.current) where
  abbrev pub same_seen : Seen
  same_seen = reported_now s c (λ (k : Call). k.messages) (λ (k : Call). k.finished) (λ (k : Call). k.taken) (λ (k : Call). k.end_taken) current

  pub serves_same : Serves s c x → Serves same_seen c x
  serves_same h = record {
    sees = sees_reported s c (λ (k : Call). k.messages) (λ (k : Call). k.finished) (λ (k : Call). k.taken) (λ (k : Call). k.end_taken) current x
        x.call.is_finished x.call.longest x.call.buffer x.call.inbox h.sees.finished h.sees.longest_is still h.sees;
    places = h.places;
    config = h.config;
    links = h.links;
    reads = h.reads;
    counted = h.counted;
    end_taken = h.end_taken;
    going = h.going;
    left = λ e. subst (λ (all : List Reply). IsLeft all c.taken (channel.came x.call))
        (sym (came_same s c (λ (k : Call). k.messages) (λ (k : Call). k.finished) (λ (k : Call). k.taken) (λ (k : Call). k.end_taken) current)) (h.left e);
    holds = λ is_open. let k : Holds s c x.call.buffer = h.holds is_open in record { fed = k.fed; held = k.held; committed = k.committed };
  }

  pub serves_still : Serves s c x → Serves (record s { current = current }) c x
  serves_still h =
      subst (λ (calls : List Call). Serves (record s { calls = calls; current = current }) c x)
      (changed_self (reported s c (λ (k : Call). k.messages) (λ (k : Call). k.finished) (λ (k : Call). k.taken) (λ (k : Call). k.end_taken) current) c.number s.calls c refl h.sees.own)
      (serves_same h)
