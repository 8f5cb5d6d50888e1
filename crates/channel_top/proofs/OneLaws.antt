-- What `replay` writes of one input: one text, at one status.
use Rattle.std.proofs.Common.{◌≡◌, ◌⊎◌, ◌∙◌, ℕ, Option, Some, List, [], ◌∷◌, ◌++◌, ap, append-nil, append_assoc, inl, inr, refl, subst, sym}
use Rattle.attempt_ledger.specs.declared.journal.Journal.{Journal}
use Rattle.attempt_ledger.specs.declared.ledger.Ledger.{Ledger}
use Rattle.channel_core.specs.Applying.{conn_of}
use Rattle.channel_core.specs.Core.{CoreSeen, Runs, ledger_in, moment_of}
use Rattle.grpc_base.specs.Pieces.{pieces}
use Rattle.grpc_base.specs.declared.event.Entry.{Entry}
use Rattle.grpc_base.specs.declared.event.Event.{Event}
use Rattle.grpc_base.specs.declared.event.Reply.{Reply}
use Rattle.grpc_base.specs.declared.event.Stamped.{Stamped}
use Rattle.journal_room.specs.Posted.{EventsArePosted}
use Rattle.journal_room.specs.Rooms.{HadRoom, HadRoomAfter, HasRoom}
use Rattle.journal_room.specs.Runs.{HasRunBy}
use Rattle.lb_policy.specs.Table.{PolicySeen}
use Rattle.resolver_core.specs.AnyTargets.{authority_of}
use Rattle.resolver_core.specs.declared.any_target.Target.{Target}
use Rattle.script_input.specs.Scripts.{IsFirstBad, IsOnlyScript, IsScript}
use Rattle.script_input.specs.declared.form.Form.TheVariants as form
use Rattle.script_text.specs.Report.{report_of}
use Rattle.session_text.specs.Sessions.{IsSession, session_full_text}
use Rattle.channel_top.specs.Promise.{ChannelsKeepThePromise, KeepsThePromise}
use Rattle.channel_top.specs.Top.{EndsFull, IsDone, IsFullReport, IsReport, Reports, ReportsBadLine}
use Rattle.channel_top.proofs.AgainLaws.{some_input}
use Rattle.channel_top.proofs.GrammarLaws.{no_bad, no_bad_in_none}
use Rattle.channel_top.proofs.TakenLaws.{all_taken, found_one}

-- ---- two prefixes of one list

wider : {X : Type 0} (a b : X) (xs ys : List X) (x y : X) → a ≡ b → (xs ≡ ys) ⊎ (((more : List X) × (ys ≡ xs ++ x ∷ more)) ⊎ ((more : List X) × (xs ≡ ys ++ y ∷ more)))
    → (a ∷ xs ≡ b ∷ ys) ⊎ (((more : List X) × (b ∷ ys ≡ (a ∷ xs) ++ x ∷ more)) ⊎ ((more : List X) × (a ∷ xs ≡ (b ∷ ys) ++ y ∷ more)))
wider a b xs ys x y same (inl is) = inl ((cc))
wider a b xs ys x y same (inr (inl (more, is))) = inr (inl (more, (cc)))
wider a b xs ys x y same (inr (inr (more, is))) = inr (inr (more, (cc)))

-- they are the same, or one is after the other
in_order : {X : Type 0} (xs ys xs' ys' : List X) (x y : X) → xs ++ x ∷ xs' ≡ ys ++ y ∷ ys'
    → (xs ≡ ys) ⊎ (((more : List X) × (ys ≡ xs ++ x ∷ more)) ⊎ ((more : List X) × (xs ≡ ys ++ y ∷ more)))
in_order [] [] xs' ys' x y same = inl refl
in_order [] (b ∷ ys) xs' ys' x y same =
    let first : b ≡ x = (cc) in
    inr (inl (ys, (cc)))
in_order (a ∷ xs) [] xs' ys' x y same =
    let first : a ≡ y = (cc) in
    inr (inr (xs, (cc)))
in_order (a ∷ xs) (b ∷ ys) xs' ys' x y same =
    let first : a ≡ b = (cc) in
    let rest : xs ++ x ∷ xs' ≡ ys ++ y ∷ ys' = (cc) in
    wider a b xs ys x y first (in_order xs ys xs' ys' x y rest)

-- ---- a run, up to one of its events

abbrev made_of : CoreSeen → CoreSeen → Stamped → Reply → Entry
made_of old new s reply = record { moment = moment_of old.journal.entries s; word = s.word; event = s.event; reply = reply; state = conn_of new.state }

grows : (old : CoreSeen) (events : List Stamped) (new : CoreSeen) → Runs old events new → (rest : List Entry) × (new.journal.entries ≡ old.journal.entries ++ rest)
grows old [] new same = ([], ap (λ (c : CoreSeen). c.journal.entries) same ∙ sym (append-nil old.journal.entries))
grows old (s ∷ events) new runs =
    let more : (rest : List Entry) × (new.journal.entries ≡ runs.0.journal.entries ++ rest) = grows runs.0 events new runs.3 in
    let made : Entry = made_of old runs.0 s runs.1 in (
      made ∷ more.0,
      more.1 ∙ ap (λ (es : List Entry). es ++ more.0) runs.2.journal ∙ append_assoc old.journal.entries (made ∷ []) more.0,
    )

record Comes (old : CoreSeen) (prefix : List Stamped) (next : Stamped) (new : CoreSeen) : Type 0 where
  mid : CoreSeen
  runs : Runs old prefix mid
  made : Entry
  of_next : made.event ≡ next.event
  rest : List Entry
  grown : new.journal.entries ≡ mid.journal.entries ++ made ∷ rest

comes : (old : CoreSeen) (prefix : List Stamped) (next : Stamped) (more : List Stamped) (new : CoreSeen) → Runs old (prefix ++ next ∷ more) new → Comes old prefix next new
comes old [] next more new runs =
    let grown : (rest : List Entry) × (new.journal.entries ≡ runs.0.journal.entries ++ rest) = grows runs.0 more new runs.3 in
    let made : Entry = made_of old runs.0 next runs.1 in
    record {
      mid = old;
      runs = refl;
      made = made;
      of_next = refl;
      rest = grown.0;
      grown = grown.1 ∙ ap (λ (es : List Entry). es ++ grown.0) runs.2.journal ∙ append_assoc old.journal.entries (made ∷ []) grown.0;
    }
comes old (s ∷ prefix) next more new runs =
    let afterwards : Comes runs.0 prefix next new = comes runs.0 prefix next more new runs.3 in
    record { mid = afterwards.mid; runs = (runs.0, runs.1, runs.2, afterwards.runs); made = afterwards.made; of_next = afterwards.of_next; rest = afterwards.rest; grown = afterwards.grown }

posted_prefix : (prefix more : List Stamped) → EventsArePosted (prefix ++ more) → EventsArePosted prefix
posted_prefix [] more are = tt
posted_prefix (s ∷ prefix) more are = (are.0, posted_prefix prefix more are.1)

had_prefix : (before entries : List Entry) (e : Entry) (rest : List Entry) → HadRoomAfter before (entries ++ e ∷ rest) → HadRoomAfter before entries × HasRoom (before ++ entries) e.event
had_prefix before [] e rest had = (tt, subst (λ (es : List Entry). HasRoom es e.event) (sym (append-nil before)) had.0)
had_prefix before (x ∷ entries) e rest had =
    let afterwards : HadRoomAfter (before ++ x ∷ []) entries × HasRoom ((before ++ x ∷ []) ++ entries) e.event = had_prefix (before ++ x ∷ []) entries e rest had.1 in
    ((had.0, afterwards.0), subst (λ (es : List Entry). HasRoom es e.event) (append_assoc before (x ∷ []) entries) afterwards.1)

-- the session of a prefix of the events of another one had room for the next of them
prefix_had_room : ChannelsKeepThePromise → (authority : List ℕ) (policies : List PolicySeen) (prefix : List Stamped) (next : Stamped) (more : List Stamped) (journal whole : Journal) (ledger of_whole : Ledger)
    → IsSession authority policies (prefix ++ next ∷ more) whole of_whole → KeepsThePromise authority policies prefix journal ledger → HasRoom journal.entries next.event
prefix_had_room keep authority policies prefix next more journal whole ledger of_whole session promise =
    let run : HasRunBy authority policies (prefix ++ next ∷ more) session.core = session.run in
    let up : Comes run.new prefix next session.core = comes run.new prefix next more session.core run.runs in
    let had : HadRoomAfter [] up.mid.journal.entries × HasRoom ([] ++ up.mid.journal.entries) up.made.event =
    had_prefix [] up.mid.journal.entries up.made up.rest (subst HadRoom up.grown run.room) in
    let mid : HasRunBy authority policies prefix up.mid =
    record { alloc = run.alloc; own = run.own; new = run.new; alike = run.alike; ready = run.ready; is_new = run.is_new; runs = up.runs; posted = posted_prefix prefix (next ∷ more) run.posted; room = had.0 } in
    let kept : KeepsThePromise authority policies prefix up.mid.journal (ledger_in up.mid) = keep authority policies prefix up.mid mid in
    subst (λ (es : List Entry). HasRoom es next.event) (promise.only up.mid.journal.entries (ledger_in up.mid) kept.consistent kept.posted).0
    (subst (λ (e : Event). HasRoom up.mid.journal.entries e) up.of_next had.1)

-- ---- one report

abbrev of_entries : List Entry → Journal
of_entries entries = record { entries = entries }

journals_same : (j k : Journal) → j.entries ≡ k.entries → j ≡ k
journals_same j k same = ap of_entries same

reports_same : (target : List ℕ) (j k : Journal) (l m : Ledger) → (k.entries ≡ j.entries) × (m ≡ l) → report_of target j l ≡ report_of target k m
reports_same target j k l m (same, also) =
    sym (ap (λ (x : Journal). report_of target x m) (journals_same k j same) ∙ ap (λ (x : Ledger). report_of target j x) also)

one_report : (policies : List PolicySeen) (target : List ℕ) (value : Target) (events : List Stamped) (text other : List ℕ)
    → IsReport policies target value events text → IsReport policies target value events other → text ≡ other
one_report policies target value events text other p q =
    p.text_is
    ∙ reports_same target p.journal q.journal p.ledger q.ledger (p.promise.only q.journal.entries q.ledger q.promise.consistent q.promise.posted)
    ∙ sym q.text_is

one_full : ChannelsKeepThePromise → (policies : List PolicySeen) (target : List ℕ) (value : Target) (events : List Stamped) (text other : List ℕ)
    → IsFullReport policies target value events text → IsFullReport policies target value events other → text ≡ other
one_full keep policies target value events text other p q = by (in_order p.prefix q.prefix p.afterwards q.afterwards p.next q.next (sym p.parts ∙ q.parts))
  where
    by : (p.prefix ≡ q.prefix) ⊎ (((more : List Stamped) × (q.prefix ≡ p.prefix ++ p.next ∷ more)) ⊎ ((more : List Stamped) × (p.prefix ≡ q.prefix ++ q.next ∷ more))) → text ≡ other
    by (inl same) =
        let promise : KeepsThePromise (authority_of value) policies p.prefix q.journal q.ledger =
        subst (λ (es : List Stamped). KeepsThePromise (authority_of value) policies es q.journal q.ledger) (sym same) q.promise in
        p.text_is
        ∙ ap (λ (t : List ℕ). t ++ session_full_text)
        (reports_same target p.journal q.journal p.ledger q.ledger (p.promise.only q.journal.entries q.ledger promise.consistent promise.posted))
        ∙ sym q.text_is
    by (inr (inl (more, longer))) =
        absurd (prefix_had_room keep (authority_of value) policies p.prefix p.next more p.journal q.journal p.ledger q.ledger
        (subst (λ (es : List Stamped). IsSession (authority_of value) policies es q.journal q.ledger) longer q.session) p.promise p.full)
    by (inr (inr (more, longer))) =
        absurd (prefix_had_room keep (authority_of value) policies q.prefix q.next more q.journal p.journal q.ledger p.ledger
        (subst (λ (es : List Stamped). IsSession (authority_of value) policies es p.journal p.ledger) longer p.session) q.promise q.full)

not_both : ChannelsKeepThePromise → (policies : List PolicySeen) (target : List ℕ) (value : Target) (events : List Stamped) (text other : List ℕ)
    → IsReport policies target value events text → IsFullReport policies target value events other → ⊥
not_both keep policies target value events text other p q =
    prefix_had_room keep (authority_of value) policies q.prefix q.next q.afterwards q.journal p.journal q.ledger p.ledger
    (subst (λ (es : List Stamped). IsSession (authority_of value) policies es p.journal p.ledger) q.parts p.session) q.promise q.full

-- ---- of one input

moved_to : (P : List ℕ → Target → List Stamped → Type 0) (t t' : List ℕ) (v v' : Target) (es es' : List Stamped) → (t' ≡ t) × (v' ≡ v) × (es' ≡ es) → P t' v' es' → P t v es
moved_to P t t' v v' es es' (same_target, same_value, same_events) p =
    subst (λ (x : List Stamped). P t v x) same_events (subst (λ (x : Target). P t x es') same_value (subst (λ (x : List ℕ). P x v' es') same_target p))

no_script : (input target : List ℕ) (value : Target) (events : List Stamped) → input ≡ [] → IsScript form.Script input target value events → ⊥
no_script input target value events none script =
    some_input form.Script target value events script.texts script.records (ap (pieces 10) (sym none) ∙ script.parts) script.lines

-- what a run to the end makes of it
whole_of : (policies : List PolicySeen) (input text : List ℕ) (left : Option (List ℕ)) → IsDone policies (Some input) left text → ((input ≡ []) × (text ≡ [])) ⊎ Reports policies input text
whole_of policies input text left done = by (all_taken input done.input left done.read done.at_end) done.done
  where
    by : input ≡ done.input → ((done.input ≡ []) × (text ≡ [])) ⊎ ((done.input ≡ [] → ⊥) × Reports policies done.input text) → ((input ≡ []) × (text ≡ [])) ⊎ Reports policies input text
    by same (inl (none, nothing)) = inl (same ∙ none, nothing)
    by same (inr (some, reports)) = inr (subst (λ (x : List ℕ). Reports policies x text) (sym same) reports)

-- what a full journal makes of it
record Fills (policies : List PolicySeen) (input text : List ℕ) : Type 0 where
  target : List ℕ
  value : Target
  events : List Stamped
  script : IsScript form.Script input target value events
  only : IsOnlyScript form.Script input target value events
  report : IsFullReport policies target value events text

full_of : (policies : List PolicySeen) (input text : List ℕ) (left : Option (List ℕ)) → EndsFull policies (Some input) left text → Fills policies input text
full_of policies input text left ends =
    let same : ends.input ≡ input = sym (all_taken input ends.input left ends.read ends.at_end) in
    record {
      target = ends.target;
      value = ends.value;
      events = ends.events;
      script = subst (λ (x : List ℕ). IsScript form.Script x ends.target ends.value ends.events) same ends.script;
      only = subst (λ (x : List ℕ). IsOnlyScript form.Script x ends.target ends.value ends.events) same ends.only;
      report = ends.report;
    }

pub done_once : (policies : List PolicySeen) (input : List ℕ) (left left' : Option (List ℕ)) (text other : List ℕ)
    → IsDone policies (Some input) left text → IsDone policies (Some input) left' other → text ≡ other
done_once policies input left left' text other this that = by (whole_of policies input text left this) (whole_of policies input other left' that)
  where
    by : ((input ≡ []) × (text ≡ [])) ⊎ Reports policies input text → ((input ≡ []) × (other ≡ [])) ⊎ Reports policies input other → text ≡ other
    by (inl (none, nothing)) (inl (none', nothing')) = nothing ∙ sym nothing'
    by (inl (none, nothing)) (inr q) = absurd (no_script input q.target q.value q.events none q.script)
    by (inr p) (inl (none, nothing)) = absurd (no_script input p.target p.value p.events none p.script)
    by (inr p) (inr q) =
        one_report policies p.target p.value p.events text other p.report
        (moved_to (λ t v es. IsReport policies t v es other) p.target q.target p.value q.value p.events q.events (p.only q.target q.value q.events q.script) q.report)

pub full_once : ChannelsKeepThePromise → (policies : List PolicySeen) (input : List ℕ) (left left' : Option (List ℕ)) (text other : List ℕ)
    → EndsFull policies (Some input) left text → EndsFull policies (Some input) left' other → text ≡ other
full_once keep policies input left left' text other this that =
    let p : Fills policies input text = full_of policies input text left this in
    let q : Fills policies input other = full_of policies input other left' that in
    one_full keep policies p.target p.value p.events text other p.report
    (moved_to (λ t v es. IsFullReport policies t v es other) p.target q.target p.value q.value p.events q.events (p.only q.target q.value q.events q.script) q.report)

pub done_or_full : ChannelsKeepThePromise → (policies : List PolicySeen) (input : List ℕ) (left left' : Option (List ℕ)) (text other : List ℕ)
    → IsDone policies (Some input) left text → EndsFull policies (Some input) left' other → ⊥
done_or_full keep policies input left left' text other this that =
    let q : Fills policies input other = full_of policies input other left' that in
    by q (whole_of policies input text left this)
  where
    by : Fills policies input other → ((input ≡ []) × (text ≡ [])) ⊎ Reports policies input text → ⊥
    by q (inl (none, nothing)) = no_script input q.target q.value q.events none q.script
    by q (inr p) =
        not_both keep policies p.target p.value p.events text other p.report
        (moved_to (λ t v es. IsFullReport policies t v es other) p.target q.target p.value q.value p.events q.events (p.only q.target q.value q.events q.script) q.report)

-- ---- a bad line

bad_of : (input text : List ℕ) (left : Option (List ℕ)) (reports_that : ReportsBadLine (Some input) left text) → IsFirstBad form.Script input reports_that.line reports_that.cause
bad_of input text left reports_that = found_one (λ x. IsFirstBad form.Script x reports_that.line reports_that.cause) input reports_that.bad.input left reports_that.bad.read reports_that.bad.bad

pub done_or_bad : (policies : List PolicySeen) (input : List ℕ) (left left' : Option (List ℕ)) (text other : List ℕ)
    → IsDone policies (Some input) left text → ReportsBadLine (Some input) left' other → ⊥
done_or_bad policies input left left' text other this that = by (whole_of policies input text left this)
  where
    by : ((input ≡ []) × (text ≡ [])) ⊎ Reports policies input text → ⊥
    by (inl (none, nothing)) =
        no_bad_in_none form.Script that.line that.cause (subst (λ (x : List ℕ). IsFirstBad form.Script x that.line that.cause) none (bad_of input other left' that))
    by (inr p) = no_bad form.Script input p.target p.value p.events that.line that.cause p.script (bad_of input other left' that)

pub full_or_bad : (policies : List PolicySeen) (input : List ℕ) (left left' : Option (List ℕ)) (text other : List ℕ)
    → EndsFull policies (Some input) left text → ReportsBadLine (Some input) left' other → ⊥
full_or_bad policies input left left' text other this that =
    let p : Fills policies input text = full_of policies input text left this in
    no_bad form.Script input p.target p.value p.events that.line that.cause p.script (bad_of input other left' that)
