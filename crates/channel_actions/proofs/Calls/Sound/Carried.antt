-- Each single thing that is done to a channel keeps its calls sound; and in a settling it takes no more attempts than were to come.
use Rattle.std.proofs.Common.{◌≡◌, ◌≤◌, ◌∙◌, ℕ, false, List, [], Option, None, Some, refl, ap, sym, subst, arith, length}
use Rattle.a6_numbers.specs.Throttling.{Bucket}
use Rattle.attempt_ledger.specs.declared.ledger.Ledger.{Ledger}
use Rattle.attempt_ledger.specs.declared.news.News.{News}
use Rattle.attempt_ledger.specs.declared.row.Placed.{Placed}
use Rattle.call_core.specs.Parts.{is_by_row}
use Rattle.call_core.specs.Steps as call
use Rattle.call_core.specs.Steps.{Stepped, lent}
use Rattle.call_core.specs.declared.state.CallState.{CallState}
use Rattle.channel_actions.proofs.Calls.Going.Arms.{CallLaws}
use Rattle.channel_actions.proofs.Calls.Sound.Spends.{fed_same, finished_same, goes_received, goes_sent, spends_by, spends_configured, spends_made, taken_same}
use Rattle.channel_actions.proofs.Calls.Sound.Steps.{leaves_closed, leaves_failed, leaves_placed, leaves_timed}
use Rattle.channel_actions.proofs.Calls.Sound.Tables.{Acts, AllSound, SoundCall, Spending, Spent, Well, acted_spent, acted_well, changed_spent, slot_spent, spent_by, well_by}
use Rattle.channel_actions.specs.SoundCalls.Sound.{AllowsPlans, IsPlanned, all_attempts, to_come}
use Rattle.channel_core.proofs.Carrying.{IsActionInvariant}
use Rattle.channel_core.proofs.Resting.{Configures, IsQuietActionInvariant, changed_length}
use Rattle.channel_core.specs.Books.{bucket_set, slot_at}
use Rattle.channel_core.specs.States.{StateSeen}
use Rattle.channel_core.specs.Steps.{chosen_in, next_word}
use Rattle.channel_core.specs.Tables.{acted, fed_call, last_run, with_bucket, with_timers, without_due}
use Rattle.channel_core.specs.declared.state.book.Book.{Book}
use Rattle.channel_core.specs.declared.state.slots.CallSlot.{CallSlot}
use Rattle.grpc_base.specs.declared.event.EndCause.{EndCause}
use Rattle.grpc_base.specs.declared.plan.Chosen.{Chosen}
use Rattle.ledger_stamps.specs.Steps.{streamed_row}
use Rattle.service_config.specs.Choice.{chosen_for}
use Rattle.service_config.specs.declared.config.Config.{Config}

pub record AreSound (x : StateSeen) : Type 0 where
  pub calls : AllSound (length x.book.ledger.rows) x.book.calls
  pub plans : AllowsPlans x.held

pub record Kept (s t : StateSeen) : Type 0 where
  pub rows : length s.book.ledger.rows ≤ length t.book.ledger.rows
  pub sound : AreSound t

pub record Settled (s t : StateSeen) : Type 0 where
  pub kept : Kept s t
  pub count : length t.book.calls ≡ length s.book.calls
  pub all : all_attempts t ≤ all_attempts s

abbrev pub Keeps : StateSeen → StateSeen → Type 0
Keeps s t = AreSound s → Kept s t

abbrev pub Settles : StateSeen → StateSeen → Type 0
Settles s t = AreSound s → Settled s t

-- what changes the table of calls
keeps : (s t : StateSeen) → t.held ≡ s.held → (AllSound (length s.book.ledger.rows) s.book.calls → Acts (length s.book.ledger.rows) s.book.calls t.book.ledger t.book.calls) → Keeps s t
keeps s t held acts sound = record {
  rows = (acts sound.calls).rows;
  sound = record { calls = (acts sound.calls).sound; plans = subst AllowsPlans (sym held) sound.plans };
}

settles : (s t : StateSeen) → t.held ≡ s.held
    → (AllSound (length s.book.ledger.rows) s.book.calls → Spending (length s.book.ledger.rows) s.book.calls t.book.ledger t.book.calls) → Settles s t
settles s t held spends sound = record {
  kept = keeps s t held (λ all. (spends all).acts) sound;
  count = (spends sound.calls).acts.count;
  all = (spends sound.calls).all;
}

-- what leaves it, and the number of rows
left_sound : (s t : StateSeen) → t.book.calls ≡ s.book.calls → length t.book.ledger.rows ≡ length s.book.ledger.rows → t.held ≡ s.held → AreSound s → AreSound t
left_sound s t calls rows held sound = record {
  calls =
      subst (λ (n : ℕ). AllSound n t.book.calls) (sym rows) (subst (λ (l : List CallSlot). AllSound (length s.book.ledger.rows) l) (sym calls) sound.calls);
  plans = subst AllowsPlans (sym held) sound.plans;
}

left : (s t : StateSeen) → t.book.calls ≡ s.book.calls → length t.book.ledger.rows ≡ length s.book.ledger.rows → t.held ≡ s.held → Settles s t
left s t calls rows held sound = record {
  kept = record { rows = omega (arith, rows); sound = left_sound s t calls rows held sound };
  count = ap length calls;
  all =
      let come : to_come t.book.calls ≡ to_come s.book.calls = ap to_come calls in
      omega (arith, rows, come);
}

keeps_joined : (s t u : StateSeen) → Keeps s t → Keeps t u → Keeps s u
keeps_joined s t u first second sound =
    let a : Kept s t = first sound in
    let b : Kept t u = second a.sound in
    let one : length s.book.ledger.rows ≤ length t.book.ledger.rows = a.rows in
    let two : length t.book.ledger.rows ≤ length u.book.ledger.rows = b.rows in
    record { rows = omega (arith, one, two); sound = b.sound }

less_on : (a b c : ℕ) → a ≤ b → b ≤ c → a ≤ c
less_on a b c e f = omega (arith, e, f)

settles_joined : (s t u : StateSeen) → Settles s t → Settles t u → Settles s u
settles_joined s t u first second sound =
    let a : Settled s t = first sound in
    let b : Settled t u = second a.kept.sound in
    record {
      kept = keeps_joined s t u (λ k. (first k).kept) (λ k. (second k).kept) sound;
      count = b.count ∙ a.count;
      all = less_on (all_attempts u) (all_attempts t) (all_attempts s) b.all a.all;
    }

beside : (s t : StateSeen) → t.book ≡ s.book → t.held ≡ s.held → Settles s t
beside s t book held =
    left s t (ap (λ (b : Book). b.calls) book) (ap (λ (b : Book). length b.ledger.rows) book) held

bucketed : (bucket : ℕ) (slot : CallSlot) → (with_bucket bucket slot).call ≡ slot.call
bucketed bucket slot = refl

plan_of : (held : Option Config) (slot : Option CallSlot) (chosen : Chosen) → AllowsPlans held → chosen_in held slot ≡ Some chosen → IsPlanned chosen.plan
plan_of None slot chosen plans e = absurd (let no : ⊥ = (cc) in no)
plan_of (Some config) None chosen plans e = absurd (let no : ⊥ = (cc) in no)
plan_of (Some config) (Some slot) chosen plans e =
    let same : chosen_for config slot.call.request.path ≡ chosen = (cc) in
    subst (λ (c : Chosen). IsPlanned c.plan) same (plans slot.call.request.path)

module _ (laws : CallLaws) where
  -- what one call does
  timed : (moment : ℕ) (ledger : Ledger) (tokens : Option Bucket) (c : CallState) → SoundCall (length ledger.rows) c
      → Spent (length ledger.rows) c (call.timed_out moment (lent c ledger tokens []))
  timed moment ledger tokens c k =
      let s : Stepped = lent c ledger tokens [] in
      spent_by c ledger tokens (call.timed_out moment s) (laws.timed_out moment s k.goes) (spends_by s (call.timed_out moment s) (leaves_timed moment s)) k

  closed : (why : EndCause) (moment : ℕ) → is_by_row why ≡ false → (ledger : Ledger) (tokens : Option Bucket) (c : CallState) → SoundCall (length ledger.rows) c
      → Spent (length ledger.rows) c (call.closed_by why moment (lent c ledger tokens []))
  closed why moment by ledger tokens c k =
      let s : Stepped = lent c ledger tokens [] in
      spent_by c ledger tokens (call.closed_by why moment s) (laws.closed why moment s by k.goes) (spends_by s (call.closed_by why moment s) (leaves_closed why moment s)) k

  made : (moment : ℕ) (ledger : Ledger) (tokens : Option Bucket) (c : CallState) → SoundCall (length ledger.rows) c
      → Spent (length ledger.rows) c (call.made_due moment (lent c ledger tokens []))
  made moment ledger tokens c k =
      let s : Stepped = lent c ledger tokens [] in spent_by c ledger tokens (call.made_due moment s) (laws.made moment s k.goes) (spends_made moment s) k

  failed : (row moment word : ℕ) (ledger : Ledger) (tokens : Option Bucket) (c : CallState) → SoundCall (length ledger.rows) c
      → Spent (length ledger.rows) c (call.pick_failed row moment word (lent c ledger tokens []))
  failed row moment word ledger tokens c k =
      let s : Stepped = lent c ledger tokens [] in
      spent_by c ledger tokens (call.pick_failed row moment word s) (laws.failed row moment word s k.goes)
      (spends_by s (call.pick_failed row moment word s) (leaves_failed row moment word s)) k

  placed : (row : ℕ) (at : Placed) (ledger : Ledger) → at.entry ≡ ledger.entry → (tokens : Option Bucket) (c : CallState) → SoundCall (length ledger.rows) c
      → Spent (length ledger.rows) c (call.placed_at row at (lent c ledger tokens []))
  placed row at ledger entry tokens c k =
      let s : Stepped = lent c ledger tokens [] in
      spent_by c ledger tokens (call.placed_at row at s) (laws.placed row at s entry k.goes) (spends_by s (call.placed_at row at s) (leaves_placed row at s)) k

  configured : (chosen : Chosen) (moment : ℕ) → IsPlanned chosen.plan → (ledger : Ledger) (tokens : Option Bucket) (c : CallState) → SoundCall (length ledger.rows) c
      → Spent (length ledger.rows) c (call.configured chosen moment (lent c ledger tokens []))
  configured chosen moment plan ledger tokens c k =
      let s : Stepped = lent c ledger tokens [] in
      spent_by c ledger tokens (call.configured chosen moment s) (laws.configured chosen moment s plan.least k.goes)
      (spends_configured chosen moment s plan.most k.goes.going.fresh) k

  sent : (message : List ℕ) (moment : ℕ) (ledger : Ledger) (tokens : Option Bucket) (c : CallState) → SoundCall (length ledger.rows) c
      → Well (length ledger.rows) c (call.sent message moment (lent c ledger tokens []))
  sent message moment ledger tokens c k =
      let s : Stepped = lent c ledger tokens [] in well_by c ledger tokens (call.sent message moment s) (laws.sent message moment s k.goes) (goes_sent message moment s) k

  handled : (row : ℕ) (reported : News) (moment word : ℕ) (ledger : Ledger) (tokens : Option Bucket) (c : CallState) → SoundCall (length ledger.rows) c
      → Well (length ledger.rows) c (call.received_news row reported moment word (lent c ledger tokens []))
  handled row reported moment word ledger tokens c k =
      let s : Stepped = lent c ledger tokens [] in
      well_by c ledger tokens (call.received_news row reported moment word s) (laws.handled row reported moment word s k.goes) (goes_received row reported moment word s) k

  -- in a settling
  pub rests : IsQuietActionInvariant Settles
  rests = record {
    joined = settles_joined;
    beside = λ s t book held links shut. beside s t book held;
    timed_out = λ number s. settles s _ refl (λ all. acted_spent (call.timed_out s.book.moment) s.book.ledger _ s.book.calls all (timed s.book.moment s.book.ledger _) number);
    closed = λ why number s by. settles s _ refl (λ all. acted_spent (call.closed_by why s.book.moment) s.book.ledger _ s.book.calls all (closed why s.book.moment by s.book.ledger _) number);
    made = λ number s. settles s _ refl (λ all. acted_spent (call.made_due s.book.moment) s.book.ledger _ s.book.calls all (made s.book.moment s.book.ledger _) number);
    failed = λ row number s. settles s _ refl (λ all. acted_spent (call.pick_failed row s.book.moment (next_word s)) s.book.ledger _ s.book.calls all (failed row s.book.moment (next_word s) s.book.ledger _) number);
    placed = λ row at number s entry moment. settles s _ refl (λ all. acted_spent (call.placed_at row at) s.book.ledger None s.book.calls all (placed row at s.book.ledger entry None) number);
    taken = λ number s. settles s _ refl (λ all. changed_spent call.taken taken_same (λ c g. laws.same c _ (laws.taken c) g) s.book.ledger s.book.calls all number);
    timers = λ due deadline number s. settles s _ refl (λ all. slot_spent (with_timers due deadline) (λ slot. refl) s.book.ledger s.book.calls all number);
    forgotten = λ number s. settles s _ refl (λ all. slot_spent without_due (λ slot. refl) s.book.ledger s.book.calls all number);
    asked = λ a s entry. left s _ refl refl refl;
    gone = λ link s. left s _ refl refl refl;
    added = λ kind s. left s _ refl refl refl;
    activated = λ number s. left s _ refl refl refl;
    retired = λ number s. left s _ refl refl refl;
  }

  -- a call gets its bucket, and then its config
  both : (chosen : Chosen) (number : ℕ) (s : StateSeen) → IsPlanned chosen.plan → AllSound (length s.book.ledger.rows) s.book.calls
      → Spending (length s.book.ledger.rows) s.book.calls
      (acted (call.configured chosen s.book.moment) (bucket_set number s.book) number s.book.ledger None).ledger
      (acted (call.configured chosen s.book.moment) (bucket_set number s.book) number s.book.ledger None).calls
  both chosen number s plan all =
      let first : Spending (length s.book.ledger.rows) s.book.calls s.book.ledger (bucket_set number s.book)
      = slot_spent (with_bucket (last_run s.book.buckets)) (bucketed (last_run s.book.buckets)) s.book.ledger s.book.calls all number in
      let second = acted_spent (call.configured chosen s.book.moment) s.book.ledger None (bucket_set number s.book) first.acts.sound (configured chosen s.book.moment plan s.book.ledger None) number in
      record {
        acts = record { rows = second.acts.rows; sound = second.acts.sound; count = second.acts.count ∙ first.acts.count };
        all = less_on _ _ _ second.all first.all;
      }

  pub configures : Configures Settles
  configures chosen number s e sound =
      settles s _ refl (λ all. both chosen number s (plan_of s.held (slot_at s.book number) chosen sound.plans e) all) sound

  -- and along whole steps
  pub carries : IsActionInvariant Keeps
  carries = record {
    joined = keeps_joined;
    beside = λ s t book held links shut sound. (rests.beside s t book held links shut sound).kept;
    timed_out = λ number s sound. (rests.timed_out number s sound).kept;
    closed = λ why number s by sound. (rests.closed why number s by sound).kept;
    sent = λ message number s. keeps s _ refl (λ all. acted_well (call.sent message s.book.moment) s.book.ledger _ s.book.calls all (sent message s.book.moment s.book.ledger _) number);
    made = λ number s sound. (rests.made number s sound).kept;
    handled = λ row reported number s fair. keeps s _ refl (λ all. acted_well (call.received_news row reported s.book.moment (next_word s)) s.book.ledger _ s.book.calls all (handled row reported s.book.moment (next_word s) s.book.ledger _) number);
    failed = λ row number s sound. (rests.failed row number s sound).kept;
    placed = λ row at number s entry moment sound. (rests.placed row at number s entry moment sound).kept;
    finished = λ number s. keeps s _ refl (λ all. (changed_spent call.finished finished_same (λ c g. laws.same c _ (laws.finished c) g) s.book.ledger s.book.calls all number).acts);
    taken = λ number s sound. (rests.taken number s sound).kept;
    fed = λ row len s. keeps s _ refl (λ all. (changed_spent (fed_call row len) (fed_same row len) (λ c g. laws.same c _ (laws.fed row len c) g) s.book.ledger s.book.calls all _).acts);
    timers = λ due deadline number s sound. (rests.timers due deadline number s sound).kept;
    forgotten = λ number s sound. (rests.forgotten number s sound).kept;
    streamed = λ row stream s sound. (left s _ refl (changed_length (streamed_row stream) s.book.ledger.rows row) refl sound).kept;
    asked = λ a s entry sound. (rests.asked a s entry sound).kept;
    gone = λ link s sound. (rests.gone link s sound).kept;
    read = λ link read s sound. (left s _ refl refl refl sound).kept;
    added = λ kind s sound. (rests.added kind s sound).kept;
    activated = λ number s sound. (rests.activated number s sound).kept;
    retired = λ number s sound. (rests.retired number s sound).kept;
  }
