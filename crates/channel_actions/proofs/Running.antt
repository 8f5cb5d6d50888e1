-- A run of a channel, event by event: each leads from a point between two entries to the next, so the whole is a session.
use Rattle.std.proofs.Common.{◌≡◌, ◌++◌, ◌+◌, ◌-◌, ◌∷◌, ap, append_assoc, arith, refl, subst, sym, ◌∙◌, true, List, [], Option, ℕ, zero, suc, if◌then◌else◌, is_some, length, slice_get}
use Rattle.std.proofs.lemmas.List.{append-nil}
use Rattle.std.specs.Option.{option_map_or}
use Rattle.std.specs.Global.{Global}
use Rattle.std.specs.Prelude.{map, max}
use Rattle.attempt_ledger.specs.declared.ledger.Ask.{Ask}
use Rattle.attempt_ledger.specs.declared.ledger.CallSeen.{CallSeen}
use Rattle.attempt_ledger.specs.declared.ledger.Generation.{Generation}
use Rattle.attempt_ledger.specs.declared.ledger.Ledger.{Ledger}
use Rattle.attempt_ledger.specs.declared.ledger.LinkSeen.{LinkSeen}
use Rattle.attempt_ledger.specs.declared.row.Row.{Row}
use Rattle.channel_actions.proofs.Does.{does_on, posted_on}
use Rattle.channel_actions.proofs.HeldTexts.Fits.{new_texts_fit}
use Rattle.channel_actions.specs.HeldTexts.Fits.{TextsFit}
use Rattle.channel_actions.proofs.Entered.{Carrying, Enters, IsCarried, KeepsOn, entered, entry_as}
use Rattle.channel_actions.proofs.Links.Prefaced.Along.{prefaced_begins}
use Rattle.channel_actions.proofs.Streams.Own.Along.{streams_begin}
use Rattle.channel_actions.proofs.Opening.{noted_is}
use Rattle.channel_actions.proofs.Posted.{first_there}
use Rattle.channel_actions.proofs.Splitting.{deadlines_split, events_split, settlings_split}
use Rattle.channel_actions.proofs.Links.Theirs.Kept.{theirs_begin}
use Rattle.channel_actions.specs.KeptCalls.Laws.{EarlyBegins}
use Rattle.channel_actions.specs.OwnLinks.Laws.{OwnBegins}
use Rattle.channel_actions.specs.Laws.{HadRoom, NewChannelsAgree, RunsAreSessions, is_room}
use Rattle.channel_actions.specs.Points.{AtRest}
use Rattle.channel_actions.specs.Posted.{EventsArePosted, IsPosted}
use Rattle.channel_actions.specs.Stages.{Closings, Deadlines, Events, Openings, Settlings}
use Rattle.channel_core.specs.Applying.{Stepped, conn_of, new_state}
use Rattle.channel_core.specs.Core.{CoreSeen, Runs, Steps, last_moment}
use Rattle.channel_core.specs.States.{StateSeen}
use Rattle.grpc_base.specs.declared.event.Entry.{Entry}
use Rattle.grpc_base.specs.declared.event.Reply.{Reply}
use Rattle.grpc_base.specs.declared.event.Stamped.{Stamped}
use Rattle.lb_policy.specs.Table.{PolicySeen}
use Rattle.net_actions.specs.Laws.{ClockChanges, NoneToDial, StatesAreSame, TakeOversAreSame, WishesConnect}
use Rattle.session_actions.specs.Entries as entries
use Rattle.session_actions.specs.Entries.{has_room}
use Rattle.session_actions.specs.Laws.{posted_in}
use Rattle.session_actions.specs.Sessions.{Does, call_seen, ledger_of, link_seen, new_session}
use Rattle.session_actions.specs.Words.{last_of, numbered}
use Rattle.session_actions.specs.declared.action.Action.{Action}
use Rattle.session_actions.specs.declared.entry.OpenEntry.{OpenEntry}
use Rattle.session_actions.specs.declared.policy.PolicyUse.{PolicyUse}
use Rattle.session_actions.specs.declared.seen.Seen.{Seen}

-- the moment of the last entry, in the words of both
last_by : (xs : List Entry) (n : ℕ) → length xs ≡ n
    → option_map_or (λ (z : Entry). z.moment) (slice_get xs (n - 1)) 0 ≡ option_map_or (λ (z : Entry). z.moment) (numbered xs n) 0
last_by [] zero e = refl
last_by (x ∷ xs) zero e = absurd (let bad : suc (length xs) ≡ 0 = e in omega arith)
last_by xs (suc n) e = ap (λ (i : ℕ). option_map_or (λ (z : Entry). z.moment) (slice_get xs i) 0) (let pre : suc n - 1 ≡ n = omega arith in pre)

pub last_same : (s : Seen) (es : List Entry) → s.entries ≡ es → last_moment es ≡ entries.last_moment s
last_same s es e = last_by es (length es) refl ∙ ap (λ (l : List Entry). option_map_or (λ (z : Entry). z.moment) (last_of l) 0) (sym e)

-- a journal only grows
grows : (events : List Stamped) (old core : CoreSeen) → Runs old events core → (more : List Entry) × (core.journal.entries ≡ old.journal.entries ++ more)
grows [] old core run = ([], ap (λ (c : CoreSeen). c.journal.entries) run ∙ sym (append-nil old.journal.entries))
grows (e ∷ events) old core run =
    let next = run.0 in
    let step : Steps old next e run.1 = run.2 in
    let rest = grows events next core run.3 in
    (_, rest.1 ∙ ap (λ (l : List Entry). l ++ rest.0) step.journal ∙ append_assoc old.journal.entries _ rest.0)

-- where each entry had room, this one had
room_at : (before xs : List Entry) (m : Entry) (more : List Entry) → HadRoom before (xs ++ m ∷ more) → is_room (before ++ xs) m.event ≡ true
room_at before [] m more h = subst (λ (l : List Entry). is_room l m.event ≡ true) (sym (append-nil before)) h.0
room_at before (x ∷ xs) m more h =
    subst (λ (l : List Entry). is_room l m.event ≡ true) (append_assoc before (x ∷ []) xs) (room_at (before ++ x ∷ []) xs m more h.1)

-- the point after a run
record Ran (core : CoreSeen) (s : Seen) (events : List Stamped) : Type 0 where
  actions : List Action
  seen : Seen
  does : Does actions s seen
  posted : posted_in actions ≡ events
  rests : AtRest core.state seen
  kept_on : IsCarried core.state seen
  journal : seen.entries ≡ core.journal.entries
  setup : seen.setup ≡ s.setup

module _ (states : StatesAreSame) (openings : Openings) (deadlines : Deadlines) (events_ : Events) (settlings : Settlings) (closings : Closings)
    (carrying : Carrying) where
  module _ (old next core : CoreSeen) (e : Stamped) (r : Reply) (events : List Stamped) (s : Seen) (h : AtRest old.state s) (c : IsCarried old.state s) (j : s.entries ≡ old.journal.entries)
      (step : Steps old next e r) (rest : Runs next events core) (room : HadRoom [] core.journal.entries) (allowed : IsPosted e.event) where
    abbrev made : Entry
    made = entry_as (max e.moment (last_moment old.journal.entries)) e.word e.event r (conn_of next.state)

    whole : core.journal.entries ≡ old.journal.entries ++ made ∷ (grows events next core rest).0
    whole =
        (grows events next core rest).1 ∙ ap (λ (l : List Entry). l ++ (grows events next core rest).0) step.journal
        ∙ append_assoc old.journal.entries (made ∷ []) (grows events next core rest).0

    room_here : has_room e.event s ≡ true
    room_here =
        subst (λ (l : List Entry). is_room l e.event ≡ true) (sym j)
        (room_at [] old.journal.entries made (grows events next core rest).0 (subst (HadRoom []) whole room))

    stepped : Stepped (length s.entries + 1) (max e.moment (entries.last_moment s)) e.word e.event old.state next.state r
    stepped =
        subst (λ (m : ℕ). Stepped (length s.entries + 1) m e.word e.event old.state next.state r) (ap (max e.moment) (last_same s old.journal.entries j))
        (subst (λ (n : ℕ). Stepped n (max e.moment (last_moment old.journal.entries)) e.word e.event old.state next.state r)
        (ap (λ (l : List Entry). length l + 1) (sym j)) step.by)

    pub one : Enters next.state s e r
    one = entered states openings deadlines events_ settlings closings carrying old.state next.state s e r h c room_here stepped allowed

    pub one_journal : one.seen.entries ≡ next.journal.entries
    one_journal =
        one.journal
        ∙ ap (λ (m : ℕ). s.entries ++ entry_as (max e.moment m) e.word e.event r (conn_of next.state) ∷ []) (sym (last_same s old.journal.entries j))
        ∙ ap (λ (l : List Entry). l ++ made ∷ []) j ∙ sym step.journal

  run : (events : List Stamped) (old core : CoreSeen) (s : Seen) → AtRest old.state s → IsCarried old.state s → s.entries ≡ old.journal.entries → Runs old events core
      → HadRoom [] core.journal.entries → EventsArePosted events → Ran core s events
  run [] old core s h c j r room posted = record {
    actions = [];
    seen = s;
    does = refl;
    posted = refl;
    rests = subst (λ (c : CoreSeen). AtRest c.state s) (sym r) h;
    kept_on = subst (λ (c : CoreSeen). IsCarried c.state s) (sym r) c;
    journal = j ∙ ap (λ (c : CoreSeen). c.journal.entries) (sym r);
    setup = refl;
  }
  run (e ∷ events) old core s h c j r room posted =
      let first = one old r.0 core e r.1 events s h c j r.2 r.3 room posted.0 in
      let further = run events r.0 core first.seen first.rests first.kept_on (one_journal old r.0 core e r.1 events s h c j r.2 r.3 room posted.0) r.3 room posted.1 in
      record {
        actions = first.actions ++ further.actions;
        seen = further.seen;
        does = does_on first.actions further.actions s first.seen further.seen first.does further.does;
        posted = posted_on first.actions further.actions ∙ ap (λ (l : List Stamped). l ++ posted_in further.actions) first.posted ∙ ap (λ (l : List Stamped). e ∷ l) further.posted;
        rests = further.rests;
        kept_on = further.kept_on;
        journal = further.journal;
        setup = further.setup ∙ first.setup;
      }

-- the ledger between two entries
recorded : (x : StateSeen) (s : Seen) → AtRest x s → ledger_of s ≡ x.book.ledger
recorded x s h =
    let l : Ledger = x.book.ledger in
    let c = h.agrees.columns in
    let links : map link_seen s.links ≡ l.links = sym (noted_is s h.noted) ∙ c.links in
    let number : length s.entries ≡ l.entry
    = (let zero_more : length s.entries ≡ length s.entries + 0 = omega arith in zero_more)
    ∙ sym (ap (λ (o : Option OpenEntry). length s.entries + (if is_some o then 1 else 0)) h.between) ∙ h.agrees.clock.entry_is in
    let made : List Row → List CallSeen → List Ask → List Generation → List LinkSeen → ℕ → Ledger
    = λ rows calls asks generations ls entry. record { rows = rows; calls = calls; asks = asks; generations = generations; links = ls; entry = entry } in
    ap (λ (z : List Row). made z (map (call_seen s) s.calls) s.asks (map (λ (g : PolicyUse). g.generation) s.policies) (map link_seen s.links) (length s.entries)) c.rows
    ∙ ap (λ (z : List CallSeen). made l.rows z s.asks (map (λ (g : PolicyUse). g.generation) s.policies) (map link_seen s.links) (length s.entries)) c.calls
    ∙ ap (λ (z : List Ask). made l.rows l.calls z (map (λ (g : PolicyUse). g.generation) s.policies) (map link_seen s.links) (length s.entries)) c.asks
    ∙ ap (λ (z : List Generation). made l.rows l.calls l.asks z (map link_seen s.links) (length s.entries)) c.generations
    ∙ ap (λ (z : List LinkSeen). made l.rows l.calls l.asks l.generations z (length s.entries)) links
    ∙ ap (made l.rows l.calls l.asks l.generations l.links) number

abbrev pub NewOnesKeep : Type 0
NewOnesKeep = (alloc : Global) (authority : List ℕ) (policies : List PolicySeen) → KeepsOn (new_state alloc authority policies)

pub runs_are_sessions : StatesAreSame → NoneToDial → ClockChanges → TakeOversAreSame → WishesConnect → NewChannelsAgree → Openings → Closings → Carrying
    → NewOnesKeep → EarlyBegins → OwnBegins → RunsAreSessions
runs_are_sessions states none_to_dial clocks overs wishes news openings closings carrying new_ones new_early new_own overdue does due setup policies alloc events new core kinds ready is_new posted runs room =
    let begins : AtRest new.state (new_session setup) = subst (λ (x : StateSeen). AtRest x (new_session setup)) (sym is_new.state) (news setup policies alloc kinds ready) in
    let carried : IsCarried new.state (new_session setup) = record {
      keeps = subst KeepsOn (sym is_new.state) (new_ones alloc setup.authority policies);
      early = new_early setup;
      own = new_own setup;
      theirs = theirs_begin setup;
      prefaced = prefaced_begins setup;
      streams = streams_begin setup;
      reached = record { setup = setup; actions = []; does = refl };
      posted = tt;
      first = first_there setup.policies policies kinds ready;
      texts = subst (λ (x : StateSeen). TextsFit x (new_session setup)) (sym is_new.state) (new_texts_fit alloc setup.authority policies setup);
    } in
    let ran = run states openings (deadlines_split overdue) (events_split none_to_dial does) (settlings_split clocks overs wishes states due) closings carrying events new core (new_session setup) begins carried (sym is_new.journal) runs room posted in
    record {
      consistent = record {
        actions = ran.actions;
        end = ran.seen;
        does = ran.does;
        between = ran.rests.between;
        journal = ran.journal;
        recorded = recorded core.state ran.seen ran.rests;
      };
      posted = ran.posted;
    }
