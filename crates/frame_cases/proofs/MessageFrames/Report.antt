-- Messages of a response are reported to the channel: they stand in the inbox of their call, and nothing else changes.
use Rattle.std.proofs.Common.{◌≡◌, ◌-◌, ◌∷◌, ◌++◌, append-nil, append_assoc, ap, refl, sym, ◌∙◌, Bool, true, false, List, [], Option, None, Some, ℕ, zero, suc, if◌then◌else◌, map, slice_get, slice_set}
use Rattle.std.proofs.lemmas.Bool.{eq-eqb}
use Rattle.std.specs.Option.{option_map_or}
use Rattle.a6_numbers.specs.Throttling.{Bucket}
use Rattle.attempt_ledger.specs.declared.news.EndNews.{EndNews}
use Rattle.attempt_ledger.specs.declared.news.News.{News}
use Rattle.attempt_ledger.specs.declared.news.News.TheVariants as news
use Rattle.attempt_ledger.specs.declared.row.Row.{Row}
use Rattle.call_core.specs.Steps.{Stepped, received_news, is_committed_live, lent}
use Rattle.call_core.specs.declared.state.CallState.{CallState}
use Rattle.channel_actions.proofs.Links.Settings.Slots.{acted_is, changed_slot_is, put_away, set_length, set_twice}
use Rattle.call_cases.proofs.CallPosts.Agreeing.{IsPut}
use Rattle.channel_core.proofs.Places.{put_there}
use Rattle.channel_core.specs.Arrivals.{all_ended_on, frame_received, handled, received_all, read_to}
use Rattle.channel_core.specs.Books.{BookActs, acted_in, book_acted, book_after, bucket_at, call_of, deadline_of, drew_by, due_at, has_drawn, row_at, slot_at, timers_set}
use Rattle.channel_core.specs.States.{StateSeen}
use Rattle.channel_core.specs.Steps.{drawn_if, ends_kept, links_sealed, next_word, resets_taken, sealed, sealed_one, timers_moved_to, reported, reported_acts, reported_to, with_book}
use Rattle.channel_core.specs.Tables.{Acted, BucketsSeen, Received, acted_as, sealed_in, tokens_in, with_call, with_timers, with_tokens}
use Rattle.channel_core.specs.Timing.{is_same_moment, timer_moved, timer_off, timer_on}
use Rattle.channel_core.specs.declared.state.slots.CallSlot.{CallSlot}
use Rattle.frame_cases.proofs.PassedBytes.Agreeing.{recalled}
use Rattle.frame_cases.specs.PassedBytes.Laws.{relinked}
use Rattle.grpc_link.specs.Response.{message_news}
use Rattle.ledger_stamps.specs.Steps.{changed_at, read_link}

-- timers that are right stay
same_moment : (o : Option ℕ) → is_same_moment o o ≡ true
same_moment None = refl
same_moment (Some n) = eq-eqb n n refl

timer_same : (n : ℕ) (o : Option ℕ) (timers : List (ℕ × ℕ)) → timer_moved n o o timers ≡ timers
timer_same n o timers = ap (λ (b : Bool). if b then timers else timer_on n o (timer_off n o timers)) (same_moment o)

-- tokens that are lent and given back
set_back : (runs : List (Option Bucket)) (k : ℕ) → slice_set runs k (option_map_or (λ (t : Option Bucket). t) (slice_get runs k) None) ≡ runs
set_back [] k = refl
set_back (r ∷ runs) zero = refl
set_back (r ∷ runs) (suc k) = ap (λ (l : List (Option Bucket)). r ∷ l) (set_back runs k)

pub tokens_back : (k : ℕ) (b : BucketsSeen) → with_tokens k (tokens_in b k) (with_tokens k None b) ≡ b
tokens_back k b = ap (λ (runs : List (Option Bucket)). record b { runs = runs }) (set_twice b.runs k None (tokens_in b k) ∙ set_back b.runs k)

-- a call with other messages in its inbox
abbrev pub with_messages : List (List ℕ) → CallState → CallState
with_messages messages k = record k { inbox = record k.inbox { messages = messages } }

abbrev pub with_more : List (List ℕ) → CallState → CallState
with_more more k = with_messages (k.inbox.messages ++ more) k

-- a call of which the inbox alone changes, by what came for one of its rows that goes on
module _ (tag n : ℕ) (what : News) (k : CallState) (x : StateSeen) (row : Row) (slot : CallSlot) (row_is : row_at x.book tag ≡ Some row) (call_is : row.call ≡ n) (going : row.ended ≡ None)
    (there : slot_at x.book n ≡ Some slot)
    (receives : received_news tag what x.book.moment (next_word x) (lent slot.call x.book.ledger (tokens_in x.book.buckets slot.bucket) [])
    ≡ lent k x.book.ledger (tokens_in x.book.buckets slot.bucket) [])
    (due : due_at (Some (with_call k slot)) ≡ slot.due) (deadline_is : deadline_of (Some (with_call k slot)) ≡ slot.deadline) where
  abbrev f : Stepped → Stepped
  f s = received_news tag what x.book.moment (next_word x) s

  abbrev v : CallSlot
  v = with_call k slot

  abbrev tokens : Option Bucket
  tokens = tokens_in x.book.buckets slot.bucket

  abbrev calls : List CallSlot
  calls = slice_set x.book.calls (n - 1) v

  abbrev y : StateSeen
  y = recalled calls x

  book_is : book_acted f n x.book ≡ record { book = y.book; acts = [] }
  book_is =
      ap (λ (o : Option CallSlot). acted_in f n (bucket_at o) x.book) there
      ∙ ap (λ (a : Acted). record { book = book_after slot.bucket a.tokens a x.book; acts = a.acts })
      (acted_is f x.book.calls n x.book.ledger tokens slot there ∙ ap (acted_as x.book.calls (n - 1) slot) receives)
      ∙ ap (λ (b : BucketsSeen). record { book = record y.book { buckets = b }; acts = [] }) (tokens_back slot.bucket x.book.buckets)

  slot_is : slot_at y.book n ≡ Some v
  slot_is = put_there x.book.calls n slot v there

  undrawn : has_drawn (row_at y.book tag) ≡ false
  undrawn = ap has_drawn row_is ∙ ap drew_by going

  timed : timers_moved_to n (Some v) y ≡ y
  timed =
      ap (λ (d : Option ℕ). record y { dues = timer_moved n slot.due d x.dues; deadlines = timer_moved n slot.deadline (deadline_of (Some v)) x.deadlines; book = timers_set d (deadline_of (Some v)) n y.book }) due
      ∙ ap (λ (d : Option ℕ). record y { dues = timer_moved n slot.due slot.due x.dues; deadlines = timer_moved n slot.deadline d x.deadlines; book = timers_set slot.due d n y.book }) deadline_is
      ∙ ap (λ (l : List (ℕ × ℕ)). record y { dues = l; deadlines = timer_moved n slot.deadline slot.deadline x.deadlines; book = timers_set slot.due slot.deadline n y.book }) (timer_same n slot.due x.dues)
      ∙ ap (λ (l : List (ℕ × ℕ)). record y { deadlines = l; book = timers_set slot.due slot.deadline n y.book }) (timer_same n slot.deadline x.deadlines)
      ∙ ap (λ (cs : List CallSlot). recalled cs x)
      (changed_slot_is (with_timers slot.due slot.deadline) calls n v slot_is ∙ set_twice x.book.calls (n - 1) v (with_timers slot.due slot.deadline v))

  pub reported_is : reported tag what x ≡ y
  reported_is =
      ap (λ (o : Option Row). reported_to (call_of o) tag what x) row_is
      ∙ ap (λ (j : ℕ). reported_to j tag what x) call_is
      ∙ ap (λ (b : BookActs). reported_acts b n tag x) book_is
      ∙ ap (λ (d : Bool). with_book (record { book = y.book; acts = [] }) n (drawn_if d x)) undrawn
      ∙ ap (λ (o : Option CallSlot). timers_moved_to n o y) slot_is
      ∙ timed

  pub is_put : IsPut n k slot x.book.calls calls
  is_put = record {
    long = set_length x.book.calls (n - 1) v;
    mine = slot_is;
    others = λ j e. put_away x.book.calls n j slot v there e;
  }

-- messages
pub record IsReported (n : ℕ) (k : CallState) (slot : CallSlot) (x y : StateSeen) : Type 0 where
  pub calls : List CallSlot
  pub put : IsPut n k slot x.book.calls calls
  pub is : y ≡ recalled calls x

pub all_reported : (link tag seen n : ℕ) (more : List (List ℕ)) (x : StateSeen) (row : Row) (slot : CallSlot) → row_at x.book tag ≡ Some row → row.call ≡ n → row.ended ≡ None
    → slot_at x.book n ≡ Some slot → is_committed_live tag slot.call ≡ true → due_at (Some slot) ≡ slot.due → deadline_of (Some slot) ≡ slot.deadline
    → IsReported n (with_more more slot.call) slot x (received_all link (map (message_news tag seen) more) x)
all_reported link tag seen n [] x row slot row_is call_is going there live due deadline_is = record {
  calls = x.book.calls;
  put = record {
    long = refl;
    mine = there ∙ ap (λ (ms : List (List ℕ)). Some (with_call (with_messages ms slot.call) slot)) (sym (append-nil slot.call.inbox.messages));
    others = λ j e. refl;
  };
  is = refl;
}
all_reported link tag seen n (octets ∷ more) x row slot row_is call_is going there live due deadline_is =
    let tokens : Option Bucket = tokens_in x.book.buckets slot.bucket in
    let k : CallState = with_more (octets ∷ []) slot.call in
    let slot1 : CallSlot = with_call k slot in
    let x1 : StateSeen = recalled (slice_set x.book.calls (n - 1) slot1) x in
    let receives : received_news tag (news.Message tag octets seen) x.book.moment (next_word x) (lent slot.call x.book.ledger tokens []) ≡ lent k x.book.ledger tokens []
    = ap (λ (b : Bool). lent (if b then k else slot.call) x.book.ledger tokens []) live in
    let first : reported tag (news.Message tag octets seen) x ≡ x1 = reported_is tag n (news.Message tag octets seen) k x row slot row_is call_is going there receives due deadline_is in
    let put : IsPut n k slot x.book.calls x1.book.calls = is_put tag n (news.Message tag octets seen) k x row slot row_is call_is going there receives due deadline_is in
    let rest : IsReported n (with_more more slot1.call) slot1 x1 (received_all link (map (message_news tag seen) more) x1)
    = all_reported link tag seen n more x1 row slot1 row_is call_is going put.mine live due deadline_is in
    record {
      calls = rest.calls;
      put = record {
        long = rest.put.long ∙ put.long;
        mine = rest.put.mine ∙ ap (λ (ms : List (List ℕ)). Some (with_call (with_messages ms slot.call) slot)) (append_assoc slot.call.inbox.messages (octets ∷ []) more);
        others = λ j e. rest.put.others j e ∙ put.others j e;
      };
      is = ap (received_all link (map (message_news tag seen) more)) first ∙ rest.is;
    }

-- no end is among messages
pub no_ends : (tag seen : ℕ) (more : List (List ℕ)) (ends : List (ℕ × EndNews)) → ends_kept (map (message_news tag seen) more) ends ≡ ends
no_ends tag seen [] ends = refl
no_ends tag seen (octets ∷ more) ends = no_ends tag seen more ends

-- a frame of which no end is reported
module _ (link : ℕ) (h : Received) (x : StateSeen) (ns : List News) (news_are : h.news ≡ ns) (no_end : ends_kept ns [] ≡ []) where
  abbrev pub read : StateSeen
  read = read_to link h.read (record x { links = h.links })

  pub received_so : (y : StateSeen) → received_all link ns read ≡ y → frame_received link h x ≡ sealed (sealed_one link y)
  received_so y is =
      ap (λ (ms : List News). handled link ms read) news_are
      ∙ ap (λ (ends : List (ℕ × EndNews)). sealed (sealed_one link (all_ended_on link ends (received_all link ns read)))) no_end
      ∙ ap (λ (z : StateSeen). sealed (sealed_one link z)) is

  pub recalled_so : x.resets ≡ [] → (calls : List CallSlot) → received_all link ns read ≡ recalled calls read
      → frame_received link h x ≡ relinked (sealed_in link h.links) (changed_at (read_link h.read) x.book.ledger.links link) (recalled calls x)
  recalled_so resets calls is =
      received_so (recalled calls read) is ∙ ap (λ (rs : List ℕ). links_sealed rs (resets_taken (sealed_one link (recalled calls read)))) resets
