-- A step changes the ledger by writes of its own entry.
use Rattle.std.proofs.Common.{◌≡◌, ℕ, ◌+◌, length, Option, Some, None, List, [], ◌∷◌, ◌++◌, map, slice_get, refl, sym, ap, subst, ◌∙◌}
use Rattle.grpc_base.specs.declared.event.Entry.{Entry}
use Rattle.grpc_base.specs.declared.event.Event.{Event}
use Rattle.grpc_base.specs.declared.event.Event.TheVariants as event
use Rattle.grpc_base.specs.declared.event.Reply.{Reply}
use Rattle.attempt_ledger.specs.declared.ledger.Ask.{Ask}
use Rattle.attempt_ledger.specs.declared.ledger.CallSeen.{CallSeen}
use Rattle.attempt_ledger.specs.declared.ledger.Generation.{Generation}
use Rattle.attempt_ledger.specs.declared.ledger.Ledger.{Ledger}
use Rattle.attempt_ledger.specs.declared.ledger.LinkSeen.{LinkSeen}
use Rattle.attempt_ledger.specs.declared.row.Row.{Row}
use Rattle.a6_numbers.specs.Throttling.{Bucket}
use Rattle.ledger_stamps.specs.Later.{Grown, Later, LaterAsks, LaterGenerations, LaterLinks}
use Rattle.ledger_stamps.specs.Steps.{begun_call, changed_at, gone_link, index_at, read_link}
use Rattle.ledger_stamps.proofs.LaterLaws.{ask_added, call_begun, generation_activated, generation_added, generation_retired, later_same, later_then, link_added, link_gone, link_read}
use Rattle.call_core.specs.declared.state.CallState.{CallState}
use Rattle.call_core.specs.Parts.{pick_end}
use Rattle.call_core.specs.Steps as call
use Rattle.call_core.specs.Steps.{Stepped, lent}
use Rattle.channel_core.specs.declared.state.book.Book.{Book}
use Rattle.channel_core.specs.declared.state.slots.CallSlot.{CallSlot}
use Rattle.channel_core.specs.Applying as applying
use Rattle.channel_core.specs.Books.{bucket_set}
use Rattle.channel_core.specs.States.{StateSeen}
use Rattle.channel_core.specs.Steps.{next_word}
use Rattle.channel_core.specs.Tables.{acted, acted_at, acted_on}
use Rattle.channel_core.proofs.Carrying.{Carried, IsActionInvariant, Configures, Holds, weaken}
use Rattle.channel_core.proofs.CarryingSteps.{carried}
use Rattle.channel_core.proofs.Timely.{NewTimelyCall, NewTimelyRow, Quiet, Timely, TimelyCall, TimelyRow, map_changed_at, quiet_closed_by, quiet_configured, quiet_due, quiet_ended_at, quiet_news, quiet_placed, quiet_same, quiet_sent, quiet_streamed, quiet_timed_out, timely_begun, timely_same, timely_then}

-- the ledger of a channel, after writes of the entry that is being made, at its moment
pub record Writes (s t : StateSeen) : Type 0 where
  pub moment : t.book.moment ≡ s.book.moment
  pub entry : t.book.ledger.entry ≡ s.book.ledger.entry
  pub later : Later s.book.ledger.entry s.book.ledger t.book.ledger
  pub timely : Timely s.book.moment s.book.ledger t.book.ledger

-- and no call begins, and no link comes up
pub record Keeps (s t : StateSeen) : Type 0 where
  pub writes : Writes s t
  pub begun : map (λ c. c.begun) t.book.ledger.calls ≡ map (λ c. c.begun) s.book.ledger.calls
  pub up : map (λ l. l.up) t.book.ledger.links ≡ map (λ l. l.up) s.book.ledger.links
  pub links : length t.links ≡ length s.links

abbrev with_ledger : Ledger → StateSeen → StateSeen
with_ledger ledger s = record s { book = record s.book { ledger = ledger } }

-- what leaves the rest of the ledger
kept : (s t : StateSeen) → t.book.moment ≡ s.book.moment → length t.links ≡ length s.links → Quiet s.book.moment s.book.ledger t.book.ledger → Keeps s t
kept s t moment links q = record {
  writes = record { moment = moment; entry = q.entry; later = q.later; timely = q.timely };
  begun = q.begun;
  up = ap (λ (links : List LinkSeen). map (λ l. l.up) links) q.links;
  links = links;
}

-- what one call of the table does
module _ (R : Ledger → Ledger → Type 0) (same : (l : Ledger) → R l l) where
  one_at : (f : Stepped → Stepped) (calls : List CallSlot) (index : ℕ) (ledger : Ledger) (tokens : Option Bucket) (slot : Option CallSlot) → ((c : CallState) → R ledger (f (lent c ledger tokens [])).ledger) → R ledger (acted_at f calls index ledger tokens slot).ledger
  one_at f calls index ledger tokens None h = same ledger
  one_at f calls index ledger tokens (Some slot) h = h slot.call

  one_on : (f : Stepped → Stepped) (calls : List CallSlot) (ledger : Ledger) (tokens : Option Bucket) (index : Option ℕ) → ((c : CallState) → R ledger (f (lent c ledger tokens [])).ledger) → R ledger (acted_on f calls ledger tokens index).ledger
  one_on f calls ledger tokens None h = same ledger
  one_on f calls ledger tokens (Some index) h = one_at f calls index ledger tokens (slice_get calls index) h

  one : (f : Stepped → Stepped) (calls : List CallSlot) (number : ℕ) (ledger : Ledger) (tokens : Option Bucket) → ((c : CallState) → R ledger (f (lent c ledger tokens [])).ledger) → R ledger (acted f calls number ledger tokens).ledger
  one f calls number ledger tokens h = one_on f calls ledger tokens (index_at number (length calls)) h

-- a book after something was done to one of its calls
does : (f : Stepped → Stepped) (number : ℕ) (tokens : Option Bucket) (s t : StateSeen) → length t.links ≡ length s.links → t.book.moment ≡ s.book.moment → t.book.ledger ≡ (acted f s.book.calls number s.book.ledger tokens).ledger
    → ((x : Stepped) → x.ledger ≡ s.book.ledger → Quiet s.book.moment x.ledger (f x).ledger) → Keeps s t
does f number tokens s t links moment is quiet =
    let l : Ledger = s.book.ledger in
    let all : Quiet s.book.moment l t.book.ledger =
    subst (λ (x : Ledger). Quiet s.book.moment l x) (sym is) (one (Quiet s.book.moment) (quiet_same s.book.moment) f s.book.calls number l tokens (λ c. quiet (lent c l tokens []) refl)) in
    kept s t moment links all

-- the calls of the book alone change
leaves : (s t : StateSeen) → length t.links ≡ length s.links → t.book.moment ≡ s.book.moment → t.book.ledger ≡ s.book.ledger → Keeps s t
leaves s t links moment is = kept s t moment links (subst (λ (x : Ledger). Quiet s.book.moment s.book.ledger x) (sym is) (quiet_same s.book.moment s.book.ledger))

-- pick requests, generations and links alone change
timely_rest : (s : StateSeen) (l : Ledger) → l.rows ≡ s.book.ledger.rows → l.calls ≡ s.book.ledger.calls → Timely s.book.moment s.book.ledger l
timely_rest s l rows calls =
    let same : Timely s.book.moment s.book.ledger s.book.ledger = timely_same s.book.moment s.book.ledger in
    record {
      rows = subst (λ (x : List Row). Grown (TimelyRow s.book.moment) (NewTimelyRow s.book.moment) s.book.ledger.rows x) (sym rows) same.rows;
      calls = subst (λ (x : List CallSeen). Grown (TimelyCall s.book.moment) (NewTimelyCall s.book.moment) s.book.ledger.calls x) (sym calls) same.calls;
    }

asks_rest : (s : StateSeen) (asks : List Ask) → LaterAsks s.book.ledger.entry s.book.ledger.asks asks → Keeps s (with_ledger (record s.book.ledger { asks = asks }) s)
asks_rest s asks h =
    let same : Later s.book.ledger.entry s.book.ledger s.book.ledger = later_same s.book.ledger.entry s.book.ledger in
    record {
      writes = record {
        moment = refl;
        entry = refl;
        later = record { rows = same.rows; calls = same.calls; asks = h; generations = same.generations; links = same.links };
        timely = timely_rest s (record s.book.ledger { asks = asks }) refl refl;
      };
      begun = refl;
      up = refl;
      links = refl;
    }

generations_rest : (s : StateSeen) (generations : List Generation) → LaterGenerations s.book.ledger.entry s.book.ledger.generations generations → Keeps s (with_ledger (record s.book.ledger { generations = generations }) s)
generations_rest s generations h =
    let same : Later s.book.ledger.entry s.book.ledger s.book.ledger = later_same s.book.ledger.entry s.book.ledger in
    record {
      writes = record {
        moment = refl;
        entry = refl;
        later = record { rows = same.rows; calls = same.calls; asks = same.asks; generations = h; links = same.links };
        timely = timely_rest s (record s.book.ledger { generations = generations }) refl refl;
      };
      begun = refl;
      up = refl;
      links = refl;
    }

links_write : (s : StateSeen) (links : List LinkSeen) → LaterLinks s.book.ledger.entry s.book.ledger.links links → Writes s (with_ledger (record s.book.ledger { links = links }) s)
links_write s links h =
    let same : Later s.book.ledger.entry s.book.ledger s.book.ledger = later_same s.book.ledger.entry s.book.ledger in
    record {
      moment = refl;
      entry = refl;
      later = record { rows = same.rows; calls = same.calls; asks = same.asks; generations = same.generations; links = h };
      timely = timely_rest s (record s.book.ledger { links = links }) refl refl;
    }

links_rest : (s : StateSeen) (f : LinkSeen → LinkSeen) (link : ℕ) → LaterLinks s.book.ledger.entry s.book.ledger.links (changed_at f s.book.ledger.links link) → ((l : LinkSeen) → (f l).up ≡ l.up) → Keeps s (with_ledger (record s.book.ledger { links = changed_at f s.book.ledger.links link }) s)
links_rest s f link h up = record {
  writes = links_write s (changed_at f s.book.ledger.links link) h;
  begun = refl;
  up = map_changed_at (λ l. l.up) f s.book.ledger.links link up;
  links = refl;
}

pub then_writes : (s t u : StateSeen) → Writes s t → Writes t u → Writes s u
then_writes s t u first second = record {
  moment = second.moment ∙ first.moment;
  entry = second.entry ∙ first.entry;
  later = later_then s.book.ledger.entry s.book.ledger t.book.ledger u.book.ledger first.later (subst (λ (n : ℕ). Later n t.book.ledger u.book.ledger) first.entry second.later);
  timely = timely_then s.book.moment s.book.ledger t.book.ledger u.book.ledger first.timely (subst (λ (m : ℕ). Timely m t.book.ledger u.book.ledger) first.moment second.timely);
}

joined : (s t u : StateSeen) → Keeps s t → Keeps t u → Keeps s u
joined s t u first second = record { writes = then_writes s t u first.writes second.writes; begun = second.begun ∙ first.begun; up = second.up ∙ first.up; links = second.links ∙ first.links }

pub keeps : IsActionInvariant Keeps
keeps = record {
  joined = joined;
  beside = λ s t book held links shut. leaves s t links (ap (λ (b : Book). b.moment) book) (ap (λ (b : Book). b.ledger) book);
  timed_out = λ number s. does (call.timed_out s.book.moment) number _ s _ refl refl refl (λ x e. quiet_timed_out s.book.moment x);
  closed = λ why number s by. does (call.closed_by why s.book.moment) number _ s _ refl refl refl (λ x e. quiet_closed_by why s.book.moment x);
  sent = λ message number s. does (call.sent message s.book.moment) number _ s _ refl refl refl (λ x e. quiet_sent message s.book.moment x);
  made = λ number s. does (call.made_due s.book.moment) number _ s _ refl refl refl (λ x e. quiet_due s.book.moment x);
  handled = λ row reported number s fair. does (call.received_news row reported s.book.moment (next_word s)) number _ s _ refl refl refl (λ x e. quiet_news row reported s.book.moment (next_word s) x);
  failed = λ row number s. does (call.pick_failed row s.book.moment (next_word s)) number _ s _ refl refl refl (λ x e. quiet_ended_at row pick_end s.book.moment (next_word s) x);
  placed = λ row at number s entry moment. does (call.placed_at row at) number _ s _ refl refl refl (λ x e. quiet_placed row at s.book.moment x (entry ∙ sym (ap (λ (l : Ledger). l.entry) e)) moment);
  finished = λ number s. leaves s _ refl refl refl;
  taken = λ number s. leaves s _ refl refl refl;
  fed = λ row len s. leaves s _ refl refl refl;
  timers = λ due deadline number s. leaves s _ refl refl refl;
  forgotten = λ number s. leaves s _ refl refl refl;
  streamed = λ row stream s. kept s _ refl refl (quiet_streamed s.book.moment s.book.ledger row stream);
  asked = λ a s entry. asks_rest s _ (ask_added s.book.ledger.entry s.book.ledger.asks a entry);
  gone = λ link s. links_rest s (gone_link s.book.ledger.entry) link (link_gone s.book.ledger.entry s.book.ledger.links link) (λ l. refl);
  read = λ link read s. links_rest s (read_link read) link (link_read s.book.ledger.entry s.book.ledger.links link read) (λ l. refl);
  added = λ kind s. generations_rest s _ (generation_added s.book.ledger.entry s.book.ledger.generations kind);
  activated = λ number s. generations_rest s _ (generation_activated s.book.ledger.entry s.book.ledger.generations number);
  retired = λ number s. generations_rest s _ (generation_retired s.book.ledger.entry s.book.ledger.generations number);
}

pub keeps_configured : Configures Keeps
keeps_configured = λ chosen number s is.
    kept s _ refl refl (one (Quiet s.book.moment) (quiet_same s.book.moment) (call.configured chosen s.book.moment) (bucket_set number s.book) number s.book.ledger None (λ c. quiet_configured chosen s.book.moment (lent c s.book.ledger None [])))

pub keeps_held : (text : Option (List ℕ)) → Holds Keeps text
keeps_held text = λ config kinds s is. leaves s _ refl refl refl

-- so that each writes
pub writes : IsActionInvariant Writes
writes = weaken Keeps Writes (λ s t k. k.writes) then_writes keeps

pub writes_configured : Configures Writes
writes_configured = λ chosen number s is. (keeps_configured chosen number s is).writes

begin_writes : (s : StateSeen) → Writes s (with_ledger (record s.book.ledger { calls = s.book.ledger.calls ++ begun_call s.book.ledger.entry ∷ [] }) s)
begin_writes s =
    let same : Later s.book.ledger.entry s.book.ledger s.book.ledger = later_same s.book.ledger.entry s.book.ledger in
    record {
      moment = refl;
      entry = refl;
      later = record { rows = same.rows; calls = call_begun s.book.ledger.entry s.book.ledger.calls; asks = same.asks; generations = same.generations; links = same.links };
      timely = timely_begun s.book.moment s.book.ledger;
    }

with_begun : (s t : StateSeen) → t.book.moment ≡ s.book.moment → t.book.ledger ≡ record s.book.ledger { calls = s.book.ledger.calls ++ begun_call s.book.ledger.entry ∷ [] } → Writes s t
with_begun s t moment ledger =
    let w : Writes s (with_ledger (record s.book.ledger { calls = s.book.ledger.calls ++ begun_call s.book.ledger.entry ∷ [] }) s) = begin_writes s in
    record {
      moment = moment;
      entry = ap (λ (l : Ledger). l.entry) ledger;
      later = subst (λ (l : Ledger). Later s.book.ledger.entry s.book.ledger l) (sym ledger) w.later;
      timely = subst (λ (l : Ledger). Timely s.book.moment s.book.ledger l) (sym ledger) w.timely;
    }

with_links : (s t : StateSeen) (links : List LinkSeen) → LaterLinks s.book.ledger.entry s.book.ledger.links links → t.book.moment ≡ s.book.moment → t.book.ledger ≡ record s.book.ledger { links = links } → Writes s t
with_links s t links h moment ledger =
    let w : Writes s (with_ledger (record s.book.ledger { links = links }) s) = links_write s links h in
    record {
      moment = moment;
      entry = ap (λ (l : Ledger). l.entry) ledger;
      later = subst (λ (l : Ledger). Later s.book.ledger.entry s.book.ledger l) (sym ledger) w.later;
      timely = subst (λ (l : Ledger). Timely s.book.moment s.book.ledger l) (sym ledger) w.timely;
    }

pub begins : (e : Event) → Carried Writes e
begins (event.Begin request) = λ s. with_begun s _ refl refl
begins (event.LinkUp sub) = λ s. with_links s _ _ (link_added s.book.ledger.entry s.book.ledger.links sub) refl refl
begins (event.Resolved addresses text) = λ config kinds s is. (keeps_held text config kinds s is).writes
begins e = tt

-- a whole step: the lists of the ledger that it begins with are those of the step before
pub stamped : (entry moment word : ℕ) (e : Event) (old new : StateSeen) (r : Reply) → applying.Stepped entry moment word e old new r → Later entry old.book.ledger new.book.ledger
stamped entry moment word e old new r h =
    let later : Later entry (applying.begun_at entry moment word old).book.ledger new.book.ledger = (carried Writes writes entry moment word e old new r writes_configured (begins e) h).later in
    record { rows = later.rows; calls = later.calls; asks = later.asks; generations = later.generations; links = later.links }

-- the same, where entries were counted
pub stamped_at : (count : ℕ) (entries : List Entry) (moment word : ℕ) (e : Event) (old new : StateSeen) (r : Reply) → count ≡ length entries → applying.Stepped (count + 1) moment word e old new r → Later (length entries + 1) old.book.ledger new.book.ledger
stamped_at count entries moment word e old new r is h =
    subst (λ (n : ℕ). Later (n + 1) old.book.ledger new.book.ledger) is (stamped (count + 1) moment word e old new r h)

pub timely : (entry moment word : ℕ) (e : Event) (old new : StateSeen) (r : Reply) → applying.Stepped entry moment word e old new r → Timely moment old.book.ledger new.book.ledger
timely entry moment word e old new r h =
    let at : Timely moment (applying.begun_at entry moment word old).book.ledger new.book.ledger = (carried Writes writes entry moment word e old new r writes_configured (begins e) h).timely in
    record { rows = at.rows; calls = at.calls }
