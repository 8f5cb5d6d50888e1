-- A message that is accepted leaves all lines still but that of the overflow.
use Rattle.std.proofs.Common.{◌≡◌, ◌∷◌, ◌++◌, ◌||◌, ◌&&◌, ◌==◌, ap, refl, subst, sym, ◌∙◌, Bool, true, false, List, [], Some, ℕ}
use Rattle.std.proofs.lemmas.Bool.{and_left, and_right, eqb-true, or_from}
use Rattle.std.proofs.lemmas.List.Folds.{list_any-append}
use Rattle.std.specs.List.{list_any}
use Rattle.grpc_base.specs.declared.event.Event.{Event}
use Rattle.session_actions.specs.CallEnds.{has_long_request, is_after_event, sends_too_long}
use Rattle.session_actions.specs.Calls.{is_open_call}
use Rattle.session_actions.specs.Configs.{is_too_long}
use Rattle.session_actions.specs.Deliveries.{with_message}
use Rattle.session_actions.specs.Words.{changed, numbered}
use Rattle.session_actions.specs.declared.call.Call.{Call}
use Rattle.session_actions.specs.declared.entry.OpenEntry.{OpenEntry}
use Rattle.session_actions.specs.declared.seen.Seen.{Seen}
use Rattle.session_order.proofs.Changed.{none_each_changed, passes_not}
use Rattle.session_order.proofs.Entered.{moved_to, quieted}
use Rattle.session_order.proofs.Posts.{answered_with}
use Rattle.session_order.proofs.Report.{reported_cancelled, reported_cut, reported_end, reported_final, reported_head, reported_inherited, reported_reset, reported_response, reported_row, reported_shut, reported_transparent}
use Rattle.session_order.specs.Quiescent.{IsStill}
use Rattle.session_order.specs.Laws.{StirsOnly}
use Rattle.session_order.specs.Stirs.{CallsHaveTheirNumbers, stirs}
use Rattle.session_order.specs.declared.line.Line.{Line}
use Rattle.session_actions.specs.declared.action.Action.TheVariants as action
use Rattle.grpc_base.specs.declared.event.Event.TheVariants as event
use Rattle.session_order.specs.declared.line.Line.TheVariants as line
use Rattle.grpc_base.specs.declared.event.Reply.TheVariants as reply
use Rattle.session_actions.specs.declared.entry.Stage.TheVariants as stage

or_nothing : (x y : Bool) → y ≡ false → (x || (y || false)) ≡ x
or_nothing true y e = refl
or_nothing false y e = or_from y false e refl

less_long : (free long other now : Bool) → now ≡ false → (free && (long || other)) ≡ false → (free && (long || now)) ≡ false
less_long false long other now e h = refl
less_long true false other now e h = e
less_long true true other now e h = absurd (cc)

unlike_by : (n k : ℕ) (b : Bool) → (n == k) ≡ b → (k ≡ n → ⊥) → (n == k) ≡ false
unlike_by n k true e other = absurd (other (sym (eqb-true n k e)))
unlike_by n k false e other = e

unlike : (n k : ℕ) → (k ≡ n → ⊥) → (n == k) ≡ false
unlike n k other = unlike_by n k (n == k) refl other

module _ (o : OpenEntry) (s : Seen) (n : ℕ) (m : List ℕ) where
  abbrev sent : Call → Call
  sent c = record c { messages = c.messages ++ m ∷ [] }

  abbrev u : Seen
  u = record s { calls = changed sent n s.calls }

  abbrev p : OpenEntry
  p = record o { event = event.Send n m; stage = stage.Replied; reply = Some reply.Done }

  long_here : (c : Call) → is_too_long m c s ≡ false → has_long_request o s c ≡ false → has_long_request p u (sent c) ≡ false
  long_here c short none =
      ap (λ (b : Bool). is_open_call c && (b || (true && ((n == c.number) && is_too_long m c s))))
      (list_any-append (λ (x : List ℕ). is_too_long x c s) c.messages (m ∷ []) ∙ or_nothing (list_any (λ (x : List ℕ). is_too_long x c s) c.messages) (is_too_long m c s) short)
      ∙ less_long (is_open_call c) (list_any (λ (x : List ℕ). is_too_long x c s) c.messages) (is_after_event o && sends_too_long o.event c s)
      ((n == c.number) && is_too_long m c s) (and_right (n == c.number) (is_too_long m c s) short) none

  long_away : (c : Call) → (n == c.number) ≡ false → has_long_request o s c ≡ false → has_long_request p u c ≡ false
  long_away c other none =
      less_long (is_open_call c) (list_any (λ (x : List ℕ). is_too_long x c s) c.messages) (is_after_event o && sends_too_long o.event c s)
      ((n == c.number) && is_too_long m c s) (and_left (n == c.number) (is_too_long m c s) other) none

  pub request_still : CallsHaveTheirNumbers s → ((c : Call) → numbered s.calls n ≡ Some c → is_too_long m c s ≡ false)
      → IsStill line.Request o s → IsStill line.Request p u
  request_still numbers short h =
      none_each_changed (has_long_request p u) sent n s.calls
      (λ c e. long_here c (short c e) (passes_not (has_long_request o s) s.calls n c h e))
      (λ k c other e.
      long_away c (ap (λ (j : ℕ). n == j) (numbers k c e) ∙ unlike n k other) (passes_not (has_long_request o s) s.calls k c h e))

  abbrev messages : Call → List (List ℕ)
  messages c = c.messages ++ m ∷ []

  pub accepted_still : CallsHaveTheirNumbers s → ((c : Call) → numbered s.calls n ≡ Some c → is_too_long m c s ≡ false)
      → (l : Line) → stirs (action.MessageAccepted n) l ≡ false → IsStill l o s → IsStill l p u
  accepted_still numbers short line.Cut e h =
      reported_cut s n messages (λ (c : Call). c.finished) (λ (c : Call). c.taken) (λ (c : Call). c.end_taken) (λ (c : Call). c.marks) ∙ h
  accepted_still numbers short line.Transparent e h =
      reported_transparent s n messages (λ (c : Call). c.finished) (λ (c : Call). c.taken) (λ (c : Call). c.end_taken) (λ (c : Call). c.marks) ∙ h
  accepted_still numbers short line.Inherited e h =
      reported_inherited s n messages (λ (c : Call). c.finished) (λ (c : Call). c.taken) (λ (c : Call). c.end_taken) (λ (c : Call). c.marks) ∙ h
  accepted_still numbers short line.Row e h =
      reported_row s n messages (λ (c : Call). c.finished) (λ (c : Call). c.taken) (λ (c : Call). c.end_taken) (λ (c : Call). c.marks) ∙ h
  accepted_still numbers short line.Final e h =
      reported_final s n messages (λ (c : Call). c.finished) (λ (c : Call). c.taken) (λ (c : Call). c.end_taken) (λ (c : Call). c.marks) (λ c. refl) ∙ h
  accepted_still numbers short line.Cancelled e h = quieted o p u line.Cancelled (λ c. refl)
      (reported_cancelled s n messages (λ (c : Call). c.finished) (λ (c : Call). c.taken) (λ (c : Call). c.end_taken) (λ (c : Call). c.marks) o ∙ h)
  accepted_still numbers short line.Request e h = request_still numbers short h
  accepted_still numbers short line.Overflow e h = absurd (cc)
  accepted_still numbers short line.Head e h =
      reported_head s n messages (λ (c : Call). c.finished) (λ (c : Call). c.taken) (λ (c : Call). c.end_taken) (λ (c : Call). c.marks) ∙ h
  accepted_still numbers short line.Response e h =
      reported_response s n messages (λ (c : Call). c.finished) (λ (c : Call). c.taken) (λ (c : Call). c.end_taken) (λ (c : Call). c.marks) ∙ h
  accepted_still numbers short line.Pick e h = h
  accepted_still numbers short line.Link e h = h
  accepted_still numbers short line.WireEnd e h =
      reported_end s n messages (λ (c : Call). c.finished) (λ (c : Call). c.taken) (λ (c : Call). c.end_taken) (λ (c : Call). c.marks) ∙ h
  accepted_still numbers short line.Reset e h =
      reported_reset s n messages (λ (c : Call). c.finished) (λ (c : Call). c.taken) (λ (c : Call). c.end_taken) (λ (c : Call). c.marks) ∙ h
  accepted_still numbers short line.Shut e h =
      reported_shut s n messages (λ (c : Call). c.finished) (λ (c : Call). c.taken) (λ (c : Call). c.end_taken) (λ (c : Call). c.marks) ∙ h
  accepted_still numbers short line.Retire e h = quieted o p s line.Retire refl h
  accepted_still numbers short line.Begin e h = quieted o p s line.Begin refl h
  accepted_still numbers short line.Give e h = quieted o p s line.Give refl h
  accepted_still numbers short line.Drop e h = h
  accepted_still numbers short line.Add e h = h

accepted_by : (call : ℕ) (o : OpenEntry) (s : Seen) (m : List ℕ) (e : Event) → e ≡ event.Send call m → CallsHaveTheirNumbers s
    → ((c : Call) → numbered s.calls call ≡ Some c → is_too_long m c s ≡ false) → (l : Line) → stirs (action.MessageAccepted call) l ≡ false
    → IsStill l o s
    → IsStill l (record o { event = e; stage = stage.Replied; reply = Some reply.Done }) (record s { calls = changed (with_message e) call s.calls })
accepted_by call o s m e is numbers short l not_stirred h =
    subst (λ (x : Event). IsStill l (record o { event = x; stage = stage.Replied; reply = Some reply.Done }) (record s { calls = changed (with_message x) call s.calls }))
    (sym is) (accepted_still o s call m numbers short l not_stirred h)

pub accepted_leaves : (call : ℕ) → StirsOnly (action.MessageAccepted call)
accepted_leaves call o s e fits l p is not_stirred h =
    moved_to (answered_with reply.Done) o (record s { calls = changed (with_message o.event) call s.calls }) e l
    (accepted_by call o s fits.0 o.event fits.1 fits.2 fits.3 l not_stirred h) p is
