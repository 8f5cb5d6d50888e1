-- Each single thing that is done to a channel lets its calls go on; so does a whole step, and so do its parts.
use Rattle.std.proofs.Common.{◌≡◌, ◌≤◌, ◌∷◌, ℕ, Bool, true, false, List, [], Option, Some, None, if◌then◌else◌, refl, sym, ap, subst}
use Rattle.attempt_ledger.specs.Numbering.{most_attempts}
use Rattle.attempt_ledger.specs.declared.ledger.LinkSeen.{LinkSeen}
use Rattle.attempt_ledger.specs.declared.news.EndNews.{EndNews}
use Rattle.attempt_ledger.specs.declared.news.News.{News}
use Rattle.attempt_ledger.specs.declared.news.News.TheVariants as news
use Rattle.call_core.specs.Steps as call
use Rattle.channel_core.proofs.Carrying.{Carried, IsActionInvariant, Configures, after_book, overdue}
use Rattle.channel_core.proofs.CarryingSteps.{answered, settle, carried}
use Rattle.channel_core.specs.Arrivals.{ended_on, sealed_if}
use Rattle.channel_core.specs.Books.{BookActs, book_acted, bucket_set, call_of, has_drawn, has_ended, row_at, slot_at}
use Rattle.channel_core.specs.States.{StateSeen}
use Rattle.channel_core.specs.Steps.{chosen_in, drawn_if, is_gone, left_after, links_sealed, loss_of, next_word, resets_taken, sealed_one, stamped_gone, reported, with_ledger_links}
use Rattle.channel_core.specs.Tables.{fed_call, last_run, with_bucket, with_timers, without_due}
use Rattle.channel_core.specs.declared.state.slots.CallSlot.{CallSlot}
use Rattle.channel_actions.proofs.Calls.Going.Arms.{CallLaws}
use Rattle.channel_actions.proofs.Calls.Going.Slots.{AllGo, all_acted, all_beside, all_changed, all_more, all_numbered}
use Rattle.channel_actions.specs.GoingCalls.Going.{AllowsAttempts, CallsGoOn}
use Rattle.channel_actions.specs.GoingCalls.Laws.{AnswersGoOn, DeadlinesGoOn, EachGoesOn, LossesGoOn, NewCallsGoOn, SettlingsGoOn, StepsGoOn}
use Rattle.grpc_base.specs.declared.event.Event.{Event}
use Rattle.grpc_base.specs.declared.event.Event.TheVariants as event
use Rattle.grpc_base.specs.declared.plan.Chosen.{Chosen}
use Rattle.ledger_stamps.specs.Steps.{changed_at, gone_link}
use Rattle.channel_actions.proofs.ReadConfigs.{allowed}
use Rattle.service_config.specs.Choice.{chosen_for}
use Rattle.service_config.specs.declared.config.Config.{Config}

abbrev GoOn : StateSeen → StateSeen → Type 0
GoOn s t = CallsGoOn s → CallsGoOn t

-- what leaves the calls, and what changes them
left : (s t : StateSeen) → t.book.calls ≡ s.book.calls → t.held ≡ s.held → GoOn s t
left s t calls held g = record { calls = subst AllGo (sym calls) g.calls; allows = subst AllowsAttempts (sym held) g.allows }

into : (s t : StateSeen) → t.held ≡ s.held → (AllGo s.book.calls → AllGo t.book.calls) → GoOn s t
into s t held calls g = record { calls = calls g.calls; allows = subst AllowsAttempts (sym held) g.allows }

chosen_allows : (held : Option Config) (slot : Option CallSlot) (chosen : Chosen) → AllowsAttempts held → chosen_in held slot ≡ Some chosen → 1 ≤ most_attempts chosen.plan
chosen_allows None slot chosen allows e = absurd (let no : ⊥ = (cc) in no)
chosen_allows (Some config) None chosen allows e = absurd (let no : ⊥ = (cc) in no)
chosen_allows (Some config) (Some slot) chosen allows e =
    let same : chosen_for config slot.call.request.path ≡ chosen = (cc) in
    subst (λ (c : Chosen). 1 ≤ most_attempts c.plan) same (allows slot.call.request.path)

bucketed : (bucket : ℕ) (slot : CallSlot) → (with_bucket bucket slot).call ≡ slot.call
bucketed bucket slot = refl

module _ (laws : CallLaws) where
  go_carries : IsActionInvariant GoOn
  go_carries = record {
    joined = λ s t u first second g. second (first g);
    beside = λ s t book held links shut. left s t (ap (λ b. b.calls) book) held;
    timed_out = λ number s. into s _ refl (all_acted (call.timed_out s.book.moment) s.book.ledger _ (λ c. laws.timed_out s.book.moment _) s.book.calls number);
    closed = λ why number s by. into s _ refl (all_acted (call.closed_by why s.book.moment) s.book.ledger _ (λ c. laws.closed why s.book.moment _ by) s.book.calls number);
    sent = λ message number s. into s _ refl (all_acted (call.sent message s.book.moment) s.book.ledger _ (λ c. laws.sent message s.book.moment _) s.book.calls number);
    made = λ number s. into s _ refl (all_acted (call.made_due s.book.moment) s.book.ledger _ (λ c. laws.made s.book.moment _) s.book.calls number);
    handled = λ row reported number s fair. into s _ refl (all_acted (call.received_news row reported s.book.moment (next_word s)) s.book.ledger _ (λ c. laws.handled row reported s.book.moment (next_word s) _) s.book.calls number);
    failed = λ row number s. into s _ refl (all_acted (call.pick_failed row s.book.moment (next_word s)) s.book.ledger _ (λ c. laws.failed row s.book.moment (next_word s) _) s.book.calls number);
    placed = λ row at number s entry moment. into s _ refl (all_acted (call.placed_at row at) s.book.ledger None (λ c. laws.placed row at _ entry) s.book.calls number);
    finished = λ number s. into s _ refl (all_changed call.finished (λ c g. laws.same c _ (laws.finished c) g) s.book.calls number);
    taken = λ number s. into s _ refl (all_changed call.taken (λ c g. laws.same c _ (laws.taken c) g) s.book.calls number);
    fed = λ row len s. into s _ refl (all_changed (fed_call row len) (λ c g. laws.same c _ (laws.fed row len c) g) s.book.calls _);
    timers = λ due deadline number s. into s _ refl (all_beside (with_timers due deadline) (λ slot. refl) s.book.calls number);
    forgotten = λ number s. into s _ refl (all_beside without_due (λ slot. refl) s.book.calls number);
    streamed = λ row stream s. left s _ refl refl;
    asked = λ a s entry. left s _ refl refl;
    gone = λ link s. left s _ refl refl;
    read = λ link read s. left s _ refl refl;
    added = λ kind s. left s _ refl refl;
    activated = λ number s. left s _ refl refl;
    retired = λ number s. left s _ refl refl;
  }

  go_events : (e : Event) → Carried GoOn e
  go_events (event.Begin request) = λ s. into s _ refl (λ all. all_more s.book.calls _ all (laws.begun _ request s.book.moment))
  go_events (event.LinkUp sub) = λ s. left s _ refl refl
  go_events (event.Resolved addresses text) = λ config kinds s read g. record {
    calls = g.calls;
    allows = λ path. (allowed config kinds text read path).least;
  }
  go_events (event.Send number message) = tt
  go_events (event.Finish number) = tt
  go_events (event.Take number) = tt
  go_events (event.Cancel number) = tt
  go_events event.ResolveFailed = tt
  go_events event.TakeDial = tt
  go_events (event.DialFailed sub) = tt
  go_events (event.Arrived link piece) = tt
  go_events (event.LinkLost link) = tt
  go_events (event.Drain link room) = tt
  go_events (event.Ping link word) = tt
  go_events event.Tick = tt
  go_events event.Shutdown = tt

  go_chosen : Configures GoOn
  go_chosen chosen number s e g =
      let most : 1 ≤ most_attempts chosen.plan = chosen_allows s.held (slot_at s.book number) chosen g.allows e in
      into s _ refl (λ all. all_acted (call.configured chosen s.book.moment) s.book.ledger None (λ c. laws.configured chosen s.book.moment _ most) (bucket_set number s.book) number
      (all_beside (with_bucket (last_run s.book.buckets)) (bucketed (last_run s.book.buckets)) s.book.calls number all)) g

  -- the laws
  pub new_calls_go_on : NewCallsGoOn
  new_calls_go_on alloc authority policies = record { calls = tt; allows = tt }

  pub deadlines_go_on : DeadlinesGoOn
  deadlines_go_on x = overdue GoOn go_carries x

  pub answers_go_on : AnswersGoOn
  answers_go_on refused e x y r by = answered GoOn go_carries refused e x y r (go_events e) by

  pub settlings_go_on : SettlingsGoOn
  settlings_go_on x = settle GoOn go_carries x go_chosen

  pub steps_go_on : StepsGoOn
  steps_go_on entry moment word e old new r steps g =
      carried GoOn go_carries entry moment word e old new r go_chosen (go_events e) steps (left old _ refl refl g)

  pub each_goes_on : EachGoesOn
  each_goes_on x number slot g e = all_numbered x.book.calls number slot g.calls e

  -- an attempt that is lost with its link
  reported_goes : (row : ℕ) (n : News) (s : StateSeen) → GoOn s (reported row n s)
  reported_goes row n s =
      let number : ℕ = call_of (row_at s.book row) in
      let b : BookActs = book_acted (call.received_news row n s.book.moment (next_word s)) number s.book in
      after_book GoOn go_carries b number s (drawn_if (has_drawn (row_at b.book row)) s) refl refl (λ e. e)
      (into s _ refl (all_acted (call.received_news row n s.book.moment (next_word s)) s.book.ledger _ (λ c. laws.handled row n s.book.moment (next_word s) _) s.book.calls number))

  stamped_goes : (ls : List LinkSeen) (b : Bool) (s : StateSeen) → GoOn s (if b then with_ledger_links ls s else s)
  stamped_goes ls true s g = left s (with_ledger_links ls s) refl refl g
  stamped_goes ls false s g = g

  ended_goes : (link row : ℕ) (end : EndNews) (s : StateSeen) (b : Bool)
      → GoOn s (if b then s else stamped_gone link (reported row (news.Ended row end) (left_after link row s)))
  ended_goes link row end s true g = g
  ended_goes link row end s false g =
      let t : StateSeen = reported row (news.Ended row end) (left_after link row s) in
      stamped_goes (changed_at (gone_link t.book.ledger.entry) t.book.ledger.links link) (is_gone link t) t
      (reported_goes row (news.Ended row end) (left_after link row s) (left s (left_after link row s) refl refl g))

  sealed_goes : (links : List ℕ) (s : StateSeen) → GoOn s (links_sealed links s)
  sealed_goes [] s g = g
  sealed_goes (link ∷ links) s g = sealed_goes links (sealed_one link s) (left s (sealed_one link s) refl refl g)

  sealed_if_goes : (each : Bool) (s : StateSeen) → GoOn s (sealed_if each s)
  sealed_if_goes true s g = sealed_goes s.resets (resets_taken s) (left s (resets_taken s) refl refl g)
  sealed_if_goes false s g = g

  pub losses_go_on : LossesGoOn
  losses_go_on link row each x g =
      let end : EndNews = loss_of link row x in
      sealed_if_goes each (ended_on link row end x) (ended_goes link row end x (has_ended (row_at x.book row)) g)
