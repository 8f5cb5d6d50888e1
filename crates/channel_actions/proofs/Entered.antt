-- One event: from a point between two entries channel and session go on to the next, by the stages of the entry.
use Rattle.std.proofs.Common.{◌≡◌, ◌++◌, ◌+◌, ◌&&◌, ◌∷◌, ap, refl, subst, sym, ◌∙◌, true, List, [], Option, Some, ℕ, is_none, length}
use Rattle.std.proofs.Math.Nat.{max_comm}
use Rattle.std.proofs.lemmas.Bool.{and_parts}
use Rattle.std.specs.Prelude.{max, nat_lt, unwrap_or}
use Rattle.channel_actions.proofs.Does.{does_on, none_on}
use Rattle.channel_actions.proofs.Settles.{Settles, begins}
use Rattle.channel_actions.proofs.States.{states_agree}
use Rattle.channel_actions.specs.Agrees.{Agrees}
use Rattle.channel_actions.proofs.Calls.Few.Reached.{reached_on}
use Rattle.channel_actions.proofs.Links.Prefaced.Along.{prefaced_along}
use Rattle.channel_actions.proofs.Streams.Own.Along.{streams_along}
use Rattle.channel_actions.proofs.Links.Theirs.Kept.{theirs_along}
use Rattle.channel_actions.specs.FewCalls.Reached.{IsReached}
use Rattle.channel_actions.specs.GoingCalls.Going.{CallsGoOn}
use Rattle.channel_actions.specs.PrefacedLinks.Prefaced.{LinksArePrefaced}
use Rattle.channel_actions.specs.KeptCalls.Early.{IsEarlyKept}
use Rattle.channel_actions.specs.KeptCalls.Laws.{EarlyAlong}
use Rattle.channel_actions.specs.KeptSessions.Kept.{IsKept}
use Rattle.channel_actions.specs.Known.{IsKnown}
use Rattle.channel_actions.specs.OwnLinks.Laws.{OwnAlong}
use Rattle.channel_actions.specs.OwnLinks.Own.{LinksAreOwn}
use Rattle.channel_actions.specs.OwnStreams.Own.{StreamsAreOwn}
use Rattle.channel_actions.specs.SoundBuffers.Held.{BuffersAreSound}
use Rattle.channel_actions.specs.SoundCalls.Sound.{CallsAreSound}
use Rattle.channel_actions.proofs.HeldTexts.Fits.{deadlines_keep_texts, settlings_keep_texts, texts_on}
use Rattle.channel_actions.proofs.HeldTexts.Sends.{answers_keep_texts}
use Rattle.channel_actions.proofs.HeldTexts.Trims.{trimmed_same}
use Rattle.channel_actions.proofs.Posted.{none_posted, posted_after}
use Rattle.channel_actions.specs.HeldTexts.Fits.{TextsFit}
use Rattle.channel_actions.specs.Points.{IsSameEntry, AtRest}
use Rattle.channel_actions.specs.Posted.{EventsArePosted, IsPosted}
use Rattle.channel_actions.specs.Stages.{Closings, Deadlines, Events, IsAnswered, IsSettled, IsTimely, Openings, Settlings}
use Rattle.channel_actions.specs.TheirLinks.Theirs.{LinksAreTheirs}
use Rattle.channel_core.specs.Applying.{AnswersBy, Stepped, begun_at, conn_of, refusal_of}
use Rattle.channel_core.specs.Settling.{settled}
use Rattle.channel_core.specs.States.{StateSeen}
use Rattle.channel_core.specs.Steps.{overdue_ended}
use Rattle.grpc_base.specs.declared.event.Conn.{Conn}
use Rattle.grpc_base.specs.declared.event.Entry.{Entry}
use Rattle.grpc_base.specs.declared.event.Event.{Event}
use Rattle.grpc_base.specs.declared.event.Refusal.{Refusal}
use Rattle.grpc_base.specs.declared.event.Reply.{Reply}
use Rattle.grpc_base.specs.declared.event.Reply.TheVariants as reply
use Rattle.grpc_base.specs.declared.event.Stamped.{Stamped}
use Rattle.grpc_base.specs.Kinds.{has_kind}
use Rattle.grpc_base.specs.declared.kind.Kind.TheVariants as kind
use Rattle.session_actions.specs.Configs.{kinds_in}
use Rattle.net_actions.specs.Laws.{StatesAreSame}
use Rattle.session_actions.specs.Actions.{after, after_if}
use Rattle.session_actions.specs.Closing.{entry_made, made_entry}
use Rattle.session_actions.specs.Entries.{has_room, last_moment, may_open, opened, opened_entry}
use Rattle.session_actions.specs.Laws.{posted_in}
use Rattle.session_actions.specs.Policies.{channel_state}
use Rattle.session_actions.specs.Sessions.{Does}
use Rattle.session_actions.specs.declared.action.Action.{Action}
use Rattle.session_actions.specs.declared.action.Action.TheVariants as action
use Rattle.session_actions.specs.declared.entry.OpenEntry.{OpenEntry}
use Rattle.session_actions.specs.declared.seen.Seen.{Seen}

abbrev pub entry_as : ℕ → ℕ → Event → Reply → Conn → Entry
entry_as moment word e r state = record { moment = moment; word = word; event = e; reply = r; state = state }

-- what each step of a channel keeps, of it alone
pub record KeepsOn (x : StateSeen) : Type 0 where
  pub going : CallsGoOn x
  pub calls : CallsAreSound x
  pub buffers : BuffersAreSound x

-- what is known between two entries, but that the journal is below its limit
pub record IsCarried (x : StateSeen) (s : Seen) : Type 0 where
  pub keeps : KeepsOn x
  pub early : IsEarlyKept s
  pub own : LinksAreOwn s
  pub theirs : LinksAreTheirs s
  pub prefaced : LinksArePrefaced s
  pub streams : StreamsAreOwn s
  pub reached : IsReached s
  pub posted : EventsArePosted (posted_in reached.actions)
  pub first : has_kind (kinds_in reached.setup.policies) kind.PickFirst ≡ true
  pub texts : TextsFit x s

-- what keeps it: each stage of the channel, and each action
pub record Carrying : Type 0 where
  pub deadlines : (x : StateSeen) → KeepsOn x → KeepsOn (overdue_ended x)
  pub answers : (refused : Option Refusal) (e : Event) (x y : StateSeen) (r : Reply) → AnswersBy refused e x y r → KeepsOn x → KeepsOn y
  pub settlings : (x : StateSeen) → KeepsOn x → KeepsOn (settled x)
  pub early : EarlyAlong
  pub own : OwnAlong

-- the session goes on to the point after an entry
pub record Enters (y : StateSeen) (s : Seen) (e : Stamped) (r : Reply) : Type 0 where
  pub actions : List Action
  pub seen : Seen
  pub does : Does actions s seen
  pub posted : posted_in actions ≡ e ∷ []
  pub rests : AtRest y seen
  pub kept_on : IsCarried y seen
  pub journal : seen.entries ≡ s.entries ++ entry_as (max e.moment (last_moment s)) e.word e.event r (conn_of y) ∷ []
  pub setup : seen.setup ≡ s.setup

same_on : (o : OpenEntry) (s : Seen) (p : OpenEntry) (t : Seen) (q : OpenEntry) (u : Seen) → IsSameEntry o s p t → IsSameEntry p t q u → IsSameEntry o s q u
same_on o s p t q u a b = record {
  moment = b.moment ∙ a.moment;
  word = b.word ∙ a.word;
  event = b.event ∙ a.event;
  entries = b.entries ∙ a.entries;
  setup = b.setup ∙ a.setup;
}

module _ (states : StatesAreSame) (openings : Openings) (deadlines : Deadlines) (events : Events) (settlings : Settlings) (closings : Closings)
    (carrying : Carrying) (x y : StateSeen) (s : Seen) (e : Stamped) (r : Reply) (h : AtRest x s) (c : IsCarried x s) (room : has_room e.event s ≡ true)
    (step : Stepped (length s.entries + 1) (max e.moment (last_moment s)) e.word e.event x y r) (allowed : IsPosted e.event) where
  abbrev begun : StateSeen
  begun = begun_at (length s.entries + 1) (max (last_moment s) e.moment) e.word x

  abbrev start : OpenEntry
  start = opened_entry e.moment e.word e.event s

  abbrev first : Seen
  first = opened e.moment e.word e.event s

  may : may_open e.event s ≡ true
  may = ap (λ (c : Option OpenEntry). is_none c && has_room e.event s) h.between ∙ room

  opens_to : after (action.EntryOpens e.moment e.word e.event) s ≡ first
  opens_to = ap (λ (c : Option OpenEntry). after_if c (action.EntryOpens e.moment e.word e.event) s) h.between

  agrees_first : Agrees begun first
  agrees_first = openings x s e.moment e.word e.event h

  -- what is carried, after actions from a session that is kept
  carried_on : (actions : List Action) (w z : StateSeen) (t u : Seen) → IsKept t → IsCarried w t → Does actions t u → EventsArePosted (posted_in actions) → KeepsOn z → TextsFit z u → IsCarried z u
  carried_on actions w z t u kept k does posts keeps texts = record {
    keeps = keeps;
    early = carrying.early actions t u kept k.early does;
    own = carrying.own actions t u kept k.own does;
    theirs = theirs_along actions t u kept k.early k.prefaced k.theirs does;
    prefaced = prefaced_along actions t u kept k.prefaced does;
    streams = streams_along actions t u kept k.prefaced k.streams does;
    reached = reached_on t u actions k.reached does;
    posted = posted_after k.reached.actions actions k.posted posts;
    first = k.first;
    texts = texts;
  }

  -- and so it is known, while no entry was made
  known_of : (z : StateSeen) (u : Seen) → IsCarried z u → u.entries ≡ s.entries → IsKnown z u
  known_of z u k same = record {
    going = k.keeps.going;
    calls = k.keeps.calls;
    buffers = k.keeps.buffers;
    early = k.early;
    own = k.own;
    theirs = k.theirs;
    prefaced = k.prefaced;
    streams = k.streams;
    reached = k.reached;
    few = ap (λ (l : List Entry). nat_lt (length l) 1048576) same ∙ (and_parts (nat_lt (length s.entries) 1048576) _ room).0;
    posted = k.posted;
    first = k.first;
  }

  carried_first : IsCarried begun first
  carried_first =
      carried_on (action.EntryOpens e.moment e.word e.event ∷ []) x begun s first h.agrees.kept c (may, sym opens_to) (allowed, tt)
      (record {
        going = record { calls = c.keeps.going.calls; allows = c.keeps.going.allows };
        calls = record { slots = c.keeps.calls.slots; plans = c.keeps.calls.plans };
        buffers = c.keeps.buffers;
      })
      (texts_on x s first (action.EntryOpens e.moment e.word e.event ∷ []) h.agrees c.texts (may, sym opens_to) begun (trimmed_same x.book.calls) agrees_first)

  timely : IsTimely begun start first
  timely =
      deadlines begun start first agrees_first (record { current = refl; stage_is = refl; quiescent = h.quiescent e.moment e.word e.event })
      (known_of begun first carried_first refl)

  carried_timely : IsCarried (overdue_ended begun) timely.reaches.seen
  carried_timely =
      carried_on timely.reaches.actions begun (overdue_ended begun) first timely.reaches.seen agrees_first.kept carried_first timely.reaches.does
      (none_posted timely.reaches.actions timely.reaches.posts) (carrying.deadlines begun carried_first.keeps)
      (deadlines_keep_texts begun (overdue_ended begun) first timely.reaches.seen timely.reaches.actions refl agrees_first carried_first.texts timely.reaches.does
      timely.reaches.agrees)

  answers : AnswersBy (refusal_of timely.reaches.entry.event (overdue_ended begun)) timely.reaches.entry.event (overdue_ended begun) step.answered r
  answers =
      let was : AnswersBy (refusal_of e.event (overdue_ended begun)) e.event (overdue_ended begun) step.answered r
      = subst (λ (m : ℕ). AnswersBy (refusal_of e.event (overdue_ended (begun_at (length s.entries + 1) m e.word x))) e.event
      (overdue_ended (begun_at (length s.entries + 1) m e.word x)) step.answered r) (max_comm e.moment (last_moment s)) step.answers in
      subst (λ (v : Event). AnswersBy (refusal_of v (overdue_ended begun)) v (overdue_ended begun) step.answered r) (sym timely.reaches.same.event) was

  keeps_answered : KeepsOn step.answered
  keeps_answered = carrying.answers _ timely.reaches.entry.event (overdue_ended begun) step.answered r answers carried_timely.keeps

  answered : IsAnswered step.answered r timely.reaches.entry timely.reaches.seen
  answered =
      events (overdue_ended begun) step.answered r timely.reaches.entry timely.reaches.seen timely.reaches.agrees timely.reaches.at timely.fresh timely.none
      (subst IsPosted (sym timely.reaches.same.event) allowed, known_of (overdue_ended begun) timely.reaches.seen carried_timely timely.reaches.same.entries) answers

  carried_answered : IsCarried step.answered answered.reaches.seen
  carried_answered =
      carried_on answered.reaches.actions (overdue_ended begun) step.answered timely.reaches.seen answered.reaches.seen timely.reaches.agrees.kept carried_timely
      answered.reaches.does (none_posted answered.reaches.actions answered.reaches.posts) keeps_answered
      (answers_keep_texts (overdue_ended begun) step.answered r timely.reaches.entry answered.reaches.entry timely.reaches.seen answered.reaches.seen answered.reaches.actions
      timely.reaches.agrees carried_timely.texts timely.reaches.at timely.none answers answered.reaches.does answered.reaches.at answered.reaches.agrees)

  settling_begins : Settles step.answered answered.reaches.entry answered.reaches.seen
  settling_begins = begins step.answered answered.reaches.entry answered.reaches.seen answered.reaches.agrees answered.reaches.at answered.none

  carried_begins : IsCarried step.answered settling_begins.reaches.seen
  carried_begins =
      carried_on settling_begins.reaches.actions step.answered step.answered answered.reaches.seen settling_begins.reaches.seen answered.reaches.agrees.kept
      carried_answered settling_begins.reaches.does (none_posted settling_begins.reaches.actions settling_begins.reaches.posts) carried_answered.keeps
      (texts_on step.answered answered.reaches.seen settling_begins.reaches.seen settling_begins.reaches.actions answered.reaches.agrees carried_answered.texts
      settling_begins.reaches.does step.answered (trimmed_same step.answered.book.calls) settling_begins.reaches.agrees)

  done : IsSettled step.answered settling_begins.reaches.entry settling_begins.reaches.seen
  done =
      settlings step.answered settling_begins.reaches.entry settling_begins.reaches.seen settling_begins.reaches.agrees settling_begins.reaches.at
      (settling_begins.turn ∙ answered.fresh)
      (carried_begins.texts, known_of step.answered settling_begins.reaches.seen carried_begins (settling_begins.reaches.same.entries ∙ answered.reaches.same.entries ∙ timely.reaches.same.entries))

  abbrev last_entry : OpenEntry
  last_entry = done.reaches.entry

  abbrev last_seen : Seen
  last_seen = done.reaches.seen

  same_last : IsSameEntry start first last_entry last_seen
  same_last =
      same_on start first timely.reaches.entry timely.reaches.seen last_entry last_seen timely.reaches.same
      (same_on timely.reaches.entry timely.reaches.seen answered.reaches.entry answered.reaches.seen last_entry last_seen answered.reaches.same
      (same_on answered.reaches.entry answered.reaches.seen settling_begins.reaches.entry settling_begins.reaches.seen last_entry last_seen
      settling_begins.reaches.same done.reaches.same))

  agrees_last : Agrees y last_seen
  agrees_last = subst (λ (z : StateSeen). Agrees z last_seen) (sym step.settles) done.reaches.agrees

  rests_last : AtRest y (entry_made last_entry last_seen)
  rests_last = closings y last_entry last_seen agrees_last done.reaches.at done.closes

  after_last : after action.EntryCloses last_seen ≡ entry_made last_entry last_seen
  after_last = ap (λ (c : Option OpenEntry). after_if c action.EntryCloses last_seen) done.reaches.at.current

  reply_last : last_entry.reply ≡ Some r
  reply_last = done.reply ∙ settling_begins.reply ∙ answered.reply

  made_last : made_entry last_entry last_seen ≡ entry_as (max e.moment (last_moment s)) e.word e.event r (conn_of y)
  made_last =
      ap (λ (m : ℕ). entry_as m last_entry.word last_entry.event (unwrap_or last_entry.reply reply.Done) (channel_state last_seen))
      (same_last.moment ∙ max_comm (last_moment s) e.moment)
      ∙ ap (λ (w : ℕ). entry_as (max e.moment (last_moment s)) w last_entry.event (unwrap_or last_entry.reply reply.Done) (channel_state last_seen)) same_last.word
      ∙ ap (λ (v : Event). entry_as (max e.moment (last_moment s)) e.word v (unwrap_or last_entry.reply reply.Done) (channel_state last_seen)) same_last.event
      ∙ ap (λ (o : Option Reply). entry_as (max e.moment (last_moment s)) e.word e.event (unwrap_or o reply.Done) (channel_state last_seen)) reply_last
      ∙ ap (entry_as (max e.moment (last_moment s)) e.word e.event r) (states_agree y last_seen agrees_last states)

  abbrev inner : List Action
  inner = timely.reaches.actions ++ (answered.reaches.actions ++ (settling_begins.reaches.actions ++ done.reaches.actions))

  inner_does : Does inner first last_seen
  inner_does =
      does_on timely.reaches.actions _ first timely.reaches.seen last_seen timely.reaches.does
      (does_on answered.reaches.actions _ timely.reaches.seen answered.reaches.seen last_seen answered.reaches.does
      (does_on settling_begins.reaches.actions done.reaches.actions answered.reaches.seen settling_begins.reaches.seen last_seen settling_begins.reaches.does
      done.reaches.does))

  inner_posts : posted_in inner ≡ []
  inner_posts =
      none_on timely.reaches.actions _ timely.reaches.posts
      (none_on answered.reaches.actions _ answered.reaches.posts (none_on settling_begins.reaches.actions done.reaches.actions settling_begins.reaches.posts done.reaches.posts))

  carried_done : IsCarried y last_seen
  carried_done =
      carried_on done.reaches.actions step.answered y settling_begins.reaches.seen last_seen settling_begins.reaches.agrees.kept carried_begins
      done.reaches.does (none_posted done.reaches.actions done.reaches.posts) (subst KeepsOn (sym step.settles) (carrying.settlings step.answered carried_begins.keeps))
      (settlings_keep_texts step.answered y settling_begins.reaches.seen last_seen done.reaches.actions step.settles settling_begins.reaches.agrees carried_begins.texts
      done.reaches.does agrees_last)

  carried_last : IsCarried y (entry_made last_entry last_seen)
  carried_last =
      carried_on (action.EntryCloses ∷ []) y y last_seen (entry_made last_entry last_seen) agrees_last.kept carried_done
      (done.closes, sym after_last) tt carried_done.keeps
      (texts_on y last_seen (entry_made last_entry last_seen) (action.EntryCloses ∷ []) agrees_last carried_done.texts (done.closes, sym after_last) y
      (trimmed_same y.book.calls) rests_last.agrees)

  pub entered : Enters y s e r
  entered = record {
    actions = action.EntryOpens e.moment e.word e.event ∷ (inner ++ action.EntryCloses ∷ []);
    seen = entry_made last_entry last_seen;
    does = (
      may,
      subst (λ (v : Seen). Does (inner ++ action.EntryCloses ∷ []) v (entry_made last_entry last_seen)) (sym opens_to)
          (does_on inner (action.EntryCloses ∷ []) first last_seen (entry_made last_entry last_seen) inner_does (done.closes, sym after_last)),
    );
    posted = ap (λ (l : List Stamped). e ∷ l) (none_on inner (action.EntryCloses ∷ []) inner_posts refl);
    rests = rests_last;
    kept_on = carried_last;
    journal = ap (λ (l : List Entry). l ++ made_entry last_entry last_seen ∷ []) same_last.entries ∙ ap (λ (m : Entry). s.entries ++ m ∷ []) made_last;
    setup = same_last.setup;
  }
