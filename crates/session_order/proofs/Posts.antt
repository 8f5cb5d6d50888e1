-- What is posted, and what an action that answers it leaves still.
use Rattle.std.proofs.Common.{◌≡◌, ◌+◌, ap, refl, subst, sym, ◌∙◌, Bool, true, false, List, None, Some, ℕ, if◌then◌else◌}
use Rattle.std.proofs.lemmas.Bool.{and_left, and_right}
use Rattle.grpc_base.specs.declared.event.Event.{Event}
use Rattle.grpc_base.specs.declared.event.Refusal.{Refusal}
use Rattle.grpc_base.specs.declared.event.Reply.{Reply}
use Rattle.session_actions.specs.CallEnds.{cancels, is_after_event, sends_too_long}
use Rattle.session_actions.specs.Configs.{resolver_answered}
use Rattle.session_actions.specs.Deliveries.{is_end}
use Rattle.session_actions.specs.Entries.{replied}
use Rattle.session_actions.specs.Links.{wants_resolution}
use Rattle.session_actions.specs.Policies.{addresses_in}
use Rattle.session_actions.specs.Words.{changed}
use Rattle.session_actions.specs.declared.call.Call.{Call}
use Rattle.session_actions.specs.declared.call.Mark.{Mark}
use Rattle.session_actions.specs.declared.entry.OpenEntry.{OpenEntry}
use Rattle.session_actions.specs.declared.seen.Seen.{Seen}
use Rattle.session_order.proofs.Aside.{aside_final, aside_request}
use Rattle.session_order.proofs.Entered.{IsQuietFor, moved_on}
use Rattle.session_order.proofs.Report.{retold, reported_cancelled, reported_cut, reported_end, reported_final, reported_head, reported_inherited, reported_overflow, reported_request, reported_reset, reported_response, reported_row, reported_shut, reported_transparent}
use Rattle.session_order.specs.Quiescent.{IsStill}
use Rattle.session_order.specs.Laws.{StirsOnly}
use Rattle.session_order.specs.Stirs.{stirs}
use Rattle.session_order.specs.declared.line.Line.{Line}
use Rattle.session_actions.specs.declared.action.Action.TheVariants as action
use Rattle.grpc_base.specs.declared.event.Event.TheVariants as event
use Rattle.session_order.specs.declared.line.Line.TheVariants as line
use Rattle.grpc_base.specs.declared.event.Reply.TheVariants as reply
use Rattle.session_actions.specs.declared.entry.Stage.TheVariants as stage

-- an entry that is answered
abbrev pub answered_with : Reply → OpenEntry → OpenEntry
answered_with r o = record o { stage = stage.Replied; reply = Some r }

-- an event that brings nothing by itself
pub record IsPlain (e : Event) : Type 0 where
  pub cancels : (call : ℕ) → cancels e call ≡ false
  pub sends : (c : Call) (s : Seen) → sends_too_long e c s ≡ false
  pub addresses : addresses_in e ≡ None

pub plain_as : (e d : Event) → e ≡ d → IsPlain d → IsPlain e
plain_as e d same h = subst (λ (x : Event). IsPlain x) (sym same) h

if_none : (b : Bool) (e : Event) → addresses_in e ≡ None → (if b then addresses_in e else None) ≡ None
if_none true e h = h
if_none false e h = refl

pub plain_quiet : (l : Line) (o : OpenEntry) (s : Seen) → IsPlain o.event → IsQuietFor l o s
plain_quiet line.Cut o s h = tt
plain_quiet line.Transparent o s h = tt
plain_quiet line.Inherited o s h = tt
plain_quiet line.Row o s h = tt
plain_quiet line.Final o s h = tt
plain_quiet line.Cancelled o s h = λ c. and_right (is_after_event o) (cancels o.event c.number) (h.cancels c.number)
plain_quiet line.Request o s h = λ c. and_right (is_after_event o) (sends_too_long o.event c s) (h.sends c s)
plain_quiet line.Overflow o s h = tt
plain_quiet line.Head o s h = tt
plain_quiet line.Response o s h = tt
plain_quiet line.Pick o s h = tt
plain_quiet line.Link o s h = tt
plain_quiet line.WireEnd o s h = tt
plain_quiet line.Reset o s h = tt
plain_quiet line.Shut o s h = tt
plain_quiet line.Retire o s h = if_none (is_after_event o) o.event h.addresses
plain_quiet line.Begin o s h = if_none (is_after_event o) o.event h.addresses
plain_quiet line.Give o s h = if_none (is_after_event o) o.event h.addresses
plain_quiet line.Drop o s h = tt
plain_quiet line.Add o s h = tt

-- nor does an entry that is not after its event
pub idle_quiet : (l : Line) (o : OpenEntry) (s : Seen) → is_after_event o ≡ false → IsQuietFor l o s
idle_quiet line.Cut o s h = tt
idle_quiet line.Transparent o s h = tt
idle_quiet line.Inherited o s h = tt
idle_quiet line.Row o s h = tt
idle_quiet line.Final o s h = tt
idle_quiet line.Cancelled o s h = λ c. and_left (is_after_event o) (cancels o.event c.number) h
idle_quiet line.Request o s h = λ c. and_left (is_after_event o) (sends_too_long o.event c s) h
idle_quiet line.Overflow o s h = tt
idle_quiet line.Head o s h = tt
idle_quiet line.Response o s h = tt
idle_quiet line.Pick o s h = tt
idle_quiet line.Link o s h = tt
idle_quiet line.WireEnd o s h = tt
idle_quiet line.Reset o s h = tt
idle_quiet line.Shut o s h = tt
idle_quiet line.Retire o s h = ap (λ (b : Bool). if b then addresses_in o.event else None) h
idle_quiet line.Begin o s h = ap (λ (b : Bool). if b then addresses_in o.event else None) h
idle_quiet line.Give o s h = ap (λ (b : Bool). if b then addresses_in o.event else None) h
idle_quiet line.Drop o s h = tt
idle_quiet line.Add o s h = tt

-- one that was answered, but for the calls that this ends
answer_quiet : (l : Line) (r q : Reply) (o : OpenEntry) (s : Seen) → addresses_in o.event ≡ None → stirs (action.EventAnswered r) l ≡ false
    → IsQuietFor l (answered_with q o) s
answer_quiet line.Cut r q o s h e = tt
answer_quiet line.Transparent r q o s h e = tt
answer_quiet line.Inherited r q o s h e = tt
answer_quiet line.Row r q o s h e = tt
answer_quiet line.Final r q o s h e = tt
answer_quiet line.Cancelled r q o s h e = absurd (cc)
answer_quiet line.Request r q o s h e = absurd (cc)
answer_quiet line.Overflow r q o s h e = tt
answer_quiet line.Head r q o s h e = tt
answer_quiet line.Response r q o s h e = tt
answer_quiet line.Pick r q o s h e = tt
answer_quiet line.Link r q o s h e = tt
answer_quiet line.WireEnd r q o s h e = tt
answer_quiet line.Reset r q o s h e = tt
answer_quiet line.Shut r q o s h e = tt
answer_quiet line.Retire r q o s h e = if_none (is_after_event (answered_with q o)) o.event h
answer_quiet line.Begin r q o s h e = if_none (is_after_event (answered_with q o)) o.event h
answer_quiet line.Give r q o s h e = if_none (is_after_event (answered_with q o)) o.event h
answer_quiet line.Drop r q o s h e = tt
answer_quiet line.Add r q o s h e = tt

pub refused_leaves : (why : Refusal) → StirsOnly (action.EventRefused why)
refused_leaves why o s e fits l p is not_stirred h =
    moved_on (answered_with (reply.Refused why)) o s e l (idle_quiet l (answered_with (reply.Refused why) o) s refl) h p is

pub answered_leaves : (r : Reply) → StirsOnly (action.EventAnswered r)
answered_leaves r o s e fits l p is not_stirred h = moved_on (answered_with r) o s e l (answer_quiet l r r o s fits not_stirred) h p is

pub settles_leaves : StirsOnly action.SettlingBegins
settles_leaves o s e fits l p is not_stirred h =
    moved_on (λ (x : OpenEntry). record x { stage = stage.Settling }) o s e l (idle_quiet l (record o { stage = stage.Settling }) s refl) h p is

-- the resolver has answered
pub answered_still : (s : Seen) (l : Line) (o : OpenEntry) → IsStill l o s → IsStill l o (resolver_answered s)
answered_still s line.Cut o h = h
answered_still s line.Transparent o h = h
answered_still s line.Inherited o h = h
answered_still s line.Row o h = h
answered_still s line.Final o h = aside_final s (resolver_answered s) ∙ h
answered_still s line.Cancelled o h = h
answered_still s line.Request o h = aside_request o s (resolver_answered s) ∙ h
answered_still s line.Overflow o h = h
answered_still s line.Head o h = h
answered_still s line.Response o h = h
answered_still s line.Pick o h = h
answered_still s line.Link o h = h
answered_still s line.WireEnd o h = h
answered_still s line.Reset o h = h
answered_still s line.Shut o h = h
answered_still s line.Retire o h = h
answered_still s line.Begin o h = h
answered_still s line.Give o h = h
answered_still s line.Drop o h = h
answered_still s line.Add o h = h

plain_unresolved : IsPlain event.ResolveFailed
plain_unresolved = record { cancels = λ call. refl; sends = λ c s. refl; addresses = refl }

pub plain_finish : (call : ℕ) → IsPlain (event.Finish call)
plain_finish call = record { cancels = λ k. refl; sends = λ c s. refl; addresses = refl }

pub plain_take : (call : ℕ) → IsPlain (event.Take call)
plain_take call = record { cancels = λ k. refl; sends = λ c s. refl; addresses = refl }

pub plain_arrived : (link : ℕ) (piece : List ℕ) → IsPlain (event.Arrived link piece)
plain_arrived link piece = record { cancels = λ k. refl; sends = λ c s. refl; addresses = refl }

pub plain_ping : (link : ℕ) (word : ℕ) → IsPlain (event.Ping link word)
plain_ping link word = record { cancels = λ k. refl; sends = λ c s. refl; addresses = refl }

-- a plain event is answered, after what its action did
pub plain_answered : (r : Reply) (o : OpenEntry) (s : Seen) → s.current ≡ Some o → IsPlain o.event → (l : Line) → IsStill l o s
    → (p : OpenEntry) → (replied r s).current ≡ Some p → IsStill l p (replied r s)
plain_answered r o s e plain l h p is = moved_on (answered_with r) o s e l (plain_quiet l (answered_with r o) s plain) h p is

pub unresolved_leaves : StirsOnly action.ResolutionFailed
unresolved_leaves o s e fits l p is not_stirred h =
    plain_answered reply.Done o (resolver_answered s) e (plain_as o.event event.ResolveFailed fits plain_unresolved) l (answered_still s l o h) p is

-- a call to which something is posted, but for its messages
module _ (s : Seen) (n : ℕ) (finished : Call → Bool) (taken : Call → ℕ) (end_taken : Call → Bool) where
  abbrev messages : Call → List (List ℕ)
  messages c = c.messages

  abbrev marks : Call → List Mark
  marks c = c.marks

  reported_still : (l : Line) (o : OpenEntry) → IsStill l o s
      → IsStill l o (record s { calls = changed (retold messages finished taken end_taken marks) n s.calls })
  reported_still line.Cut o h = reported_cut s n messages finished taken end_taken marks ∙ h
  reported_still line.Transparent o h = reported_transparent s n messages finished taken end_taken marks ∙ h
  reported_still line.Inherited o h = reported_inherited s n messages finished taken end_taken marks ∙ h
  reported_still line.Row o h = reported_row s n messages finished taken end_taken marks ∙ h
  reported_still line.Final o h = reported_final s n messages finished taken end_taken marks (λ c. refl) ∙ h
  reported_still line.Cancelled o h = reported_cancelled s n messages finished taken end_taken marks o ∙ h
  reported_still line.Request o h = reported_request s n messages finished taken end_taken marks o (λ c. refl) ∙ h
  reported_still line.Overflow o h = reported_overflow s n messages finished taken end_taken marks (λ c. refl) ∙ h
  reported_still line.Head o h = reported_head s n messages finished taken end_taken marks ∙ h
  reported_still line.Response o h = reported_response s n messages finished taken end_taken marks ∙ h
  reported_still line.Pick o h = h
  reported_still line.Link o h = h
  reported_still line.WireEnd o h = reported_end s n messages finished taken end_taken marks ∙ h
  reported_still line.Reset o h = reported_reset s n messages finished taken end_taken marks ∙ h
  reported_still line.Shut o h = reported_shut s n messages finished taken end_taken marks ∙ h
  reported_still line.Retire o h = h
  reported_still line.Begin o h = h
  reported_still line.Give o h = h
  reported_still line.Drop o h = h
  reported_still line.Add o h = h

pub finished_leaves : (call : ℕ) → StirsOnly (action.RequestFinished call)
finished_leaves call o s e fits l p is not_stirred h =
    let t : Seen = record s { calls = changed (λ (c : Call). record c { finished = true }) call s.calls } in
    plain_answered reply.Done o t e (plain_as o.event (event.Finish call) fits (plain_finish call)) l
    (reported_still s call (λ (c : Call). true) (λ (c : Call). c.taken) (λ (c : Call). c.end_taken) l o h) p is

pub taken_leaves : (call : ℕ) (item : Reply) → StirsOnly (action.ItemTaken call item)
taken_leaves call item o s e fits l p is not_stirred h =
    let t : Seen = record s { calls = changed (λ (c : Call). record c { taken = c.taken + 1; end_taken = is_end item }) call s.calls } in
    plain_answered item o t e (plain_as o.event (event.Take call) fits (plain_take call)) l
    (reported_still s call (λ (c : Call). c.finished) (λ (c : Call). c.taken + 1) (λ (c : Call). is_end item) l o h) p is

-- a resolution is wanted
pub wanted_still : (s : Seen) (l : Line) (o : OpenEntry) → IsStill l o s → IsStill l o (wants_resolution s)
wanted_still s line.Cut o h = h
wanted_still s line.Transparent o h = h
wanted_still s line.Inherited o h = h
wanted_still s line.Row o h = h
wanted_still s line.Final o h = aside_final s (wants_resolution s) ∙ h
wanted_still s line.Cancelled o h = h
wanted_still s line.Request o h = aside_request o s (wants_resolution s) ∙ h
wanted_still s line.Overflow o h = h
wanted_still s line.Head o h = h
wanted_still s line.Response o h = h
wanted_still s line.Pick o h = h
wanted_still s line.Link o h = h
wanted_still s line.WireEnd o h = h
wanted_still s line.Reset o h = h
wanted_still s line.Shut o h = h
wanted_still s line.Retire o h = h
wanted_still s line.Begin o h = h
wanted_still s line.Give o h = h
wanted_still s line.Drop o h = h
wanted_still s line.Add o h = h

pub plain_dial : IsPlain event.TakeDial
plain_dial = record { cancels = λ call. refl; sends = λ c s. refl; addresses = refl }

pub plain_failed : (sub : ℕ) → IsPlain (event.DialFailed sub)
plain_failed sub = record { cancels = λ call. refl; sends = λ c s. refl; addresses = refl }

pub plain_up : (sub : ℕ) → IsPlain (event.LinkUp sub)
plain_up sub = record { cancels = λ call. refl; sends = λ c s. refl; addresses = refl }
