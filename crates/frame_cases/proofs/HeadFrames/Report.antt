-- The channel is given the head of a response: it stands in the inbox of the call, and a call that was free is committed to the attempt.
use Rattle.std.proofs.Common.{◌≡◌, ◌-◌, ◌==◌, ◌∷◌, ◌&&◌, ap, refl, sym, ◌∙◌, Bool, true, false, List, [], Option, None, Some, ℕ, if◌then◌else◌, is_some}
use Rattle.std.proofs.lemmas.Bool.{eqb-false}
use Rattle.std.specs.Option.{option_map}
use Rattle.a6_numbers.specs.Throttling.{Bucket}
use Rattle.attempt_ledger.specs.declared.ledger.Ledger.{Ledger}
use Rattle.attempt_ledger.specs.declared.news.News.{News}
use Rattle.attempt_ledger.specs.declared.news.News.TheVariants as news
use Rattle.attempt_ledger.specs.declared.row.Row.{Row}
use Rattle.call_core.specs.Parts.{committed_buffer, count_of, cut_end, find_live, names, read_of}
use Rattle.call_core.specs.Steps.{Stepped, commit_by_head, commit_stamped, committed, cut_all, cut_row, cut_unless, received_news, lent, with_head}
use Rattle.call_core.specs.declared.inbox.Inbox.{Inbox}
use Rattle.call_core.specs.declared.live.LiveRow.{LiveRow}
use Rattle.call_core.specs.declared.state.CallState.{CallState}
use Rattle.channel_actions.proofs.Links.Settings.Slots.{acted_is, asked_is}
use Rattle.attempt_cases.specs.CallCommits.Commits.{commits_with}
use Rattle.channel_core.proofs.BookLaws.{number_changed, number_other}
use Rattle.channel_core.specs.Books.{BookActs, acted_in, book_acted, book_after, book_asked, bucket_at, call_of, drew_by, has_drawn, row_at, slot_at}
use Rattle.channel_core.specs.States.{StateSeen}
use Rattle.channel_core.specs.Steps.{call_asked, drawn_if, next_word, reported, reported_acts, reported_to, with_book}
use Rattle.channel_core.specs.Tables.{Acted, BucketsSeen, acted_as, numbered, tokens_in}
use Rattle.channel_core.specs.declared.state.book.Book.{Book}
use Rattle.channel_core.specs.declared.state.slots.CallSlot.{CallSlot}
use Rattle.frame_cases.proofs.MessageFrames.Report.{tokens_back}
use Rattle.grpc_base.specs.declared.fields.Field.{Field}
use Rattle.ledger_stamps.specs.Steps.{changed_at, committed_row, ended_row}

-- the inbox with a head
abbrev pub with_meta : List Field → Inbox → Inbox
with_meta meta inbox = record inbox { head = Some meta }

abbrev pub headed : List Field → CallState → CallState
headed meta k = record k { inbox = with_meta meta k.inbox }

-- of a call that is committed already
pub receives_late : (tag seen moment word : ℕ) (meta : List Field) (k : CallState) (ledger : Ledger) (tokens : Option Bucket) → is_some k.attempts.committed ≡ true → is_some (find_live tag k.live) ≡ true
    → received_news tag (news.Head tag meta seen) moment word (lent k ledger tokens []) ≡ lent (headed meta k) ledger tokens []
receives_late tag seen moment word meta k ledger tokens taken live =
    let st : Stepped = lent k ledger tokens [] in
    ap (λ (b : Bool). if b then with_head meta (commit_by_head tag moment st) else st) live
    ∙ ap (λ (b : Bool). with_head meta (if b then st else committed tag moment (record st { call = record k { buffer = committed_buffer tag k.buffer } }))) taken

-- of one that was free: it is committed
pub receives_first : (tag seen moment word : ℕ) (meta : List Field) (k : CallState) (ledger : Ledger) (tokens : Option Bucket) → is_some k.attempts.committed ≡ false
    → is_some (find_live tag k.live) ≡ true
    → received_news tag (news.Head tag meta seen) moment word (lent k ledger tokens []) ≡ commits_with tag (with_meta meta k.inbox) moment (lent k ledger tokens [])
receives_first tag seen moment word meta k ledger tokens free live =
    let st : Stepped = lent k ledger tokens [] in
    ap (λ (b : Bool). if b then with_head meta (commit_by_head tag moment st) else st) live
    ∙ ap (λ (b : Bool). with_head meta (if b then st else committed tag moment (record st { call = record k { buffer = committed_buffer tag k.buffer } }))) free

-- the row to which it is committed goes on
module _ (tag moment : ℕ) (tokens : Option ℕ) where
  row_by : (place : ℕ) (link : Option ℕ) (ledger : Ledger) (b : Bool) → (tag == place) ≡ b
      → numbered (if b then ledger else cut_row moment tokens place ledger link).rows tag ≡ numbered ledger.rows tag
  row_by place link ledger true e = refl
  row_by place None ledger false e = refl
  row_by place (Some link) ledger false e =
      number_other (ended_row (cut_end ledger.entry moment (read_of ledger.links link) tokens)) ledger.rows place tag (eqb-false tag place e)

  row_stays : (live : List LiveRow) (ledger : Ledger) → numbered (cut_all (Some tag) moment tokens live ledger).rows tag ≡ numbered ledger.rows tag
  row_stays [] ledger = refl
  row_stays (row ∷ live) ledger = row_stays live (cut_unless (Some tag) moment tokens row ledger) ∙ row_by row.place row.link ledger (tag == row.place) refl

  pub row_goes : (live : List LiveRow) (ledger : Ledger) (row : Row) → numbered ledger.rows tag ≡ Some row → row.ended ≡ None
      → has_drawn (numbered (cut_all (Some tag) moment tokens live (commit_stamped tag ledger)).rows tag) ≡ false
  row_goes live ledger row there going =
      ap has_drawn (row_stays live (commit_stamped tag ledger) ∙ number_changed (committed_row ledger.entry) ledger.rows tag ∙ ap (option_map (committed_row ledger.entry)) there)
      ∙ ap drew_by going

-- so it is given
module _ (tag seen n : ℕ) (meta : List Field) (x : StateSeen) (row : Row) (slot : CallSlot) (row_is : row_at x.book tag ≡ Some row) (call_is : row.call ≡ n) (going : row.ended ≡ None)
    (there : slot_at x.book n ≡ Some slot) (free : is_some slot.call.attempts.committed ≡ false) (live : is_some (find_live tag slot.call.live) ≡ true) where
  abbrev what : News
  what = news.Head tag meta seen

  abbrev f : Stepped → Stepped
  f s = received_news tag what x.book.moment (next_word x) s

  abbrev g : Stepped → Stepped
  g s = commits_with tag (with_meta meta slot.call.inbox) x.book.moment s

  abbrev tokens : Option Bucket
  tokens = tokens_in x.book.buckets slot.bucket

  abbrev st : Stepped
  st = lent slot.call x.book.ledger tokens []

  abbrev acts : Acted
  acts = acted_as x.book.calls (n - 1) slot (g st)

  abbrev now : Book
  now = record x.book { calls = acts.calls; ledger = acts.ledger }

  book_is : book_acted f n x.book ≡ record { book = now; acts = acts.acts }
  book_is =
      ap (λ (o : Option CallSlot). acted_in f n (bucket_at o) x.book) there
      ∙ ap (λ (a : Acted). record { book = book_after slot.bucket a.tokens a x.book; acts = a.acts })
      (acted_is f x.book.calls n x.book.ledger tokens slot there
      ∙ ap (acted_as x.book.calls (n - 1) slot) (receives_first tag seen x.book.moment (next_word x) meta slot.call x.book.ledger tokens free live))
      ∙ ap (λ (b : BucketsSeen). record { book = record now { buckets = b }; acts = acts.acts }) (tokens_back slot.bucket x.book.buckets)

  undrawn : has_drawn (row_at now tag) ≡ false
  undrawn = row_goes tag x.book.moment (count_of tokens) slot.call.live x.book.ledger row row_is going

  pub reported_is : reported tag what x ≡ call_asked g n x
  reported_is =
      ap (λ (o : Option Row). reported_to (call_of o) tag what x) row_is
      ∙ ap (λ (j : ℕ). reported_to j tag what x) call_is
      ∙ ap (λ (b : BookActs). reported_acts b n tag x) book_is
      ∙ ap (λ (d : Bool). with_book (record { book = now; acts = acts.acts }) n (drawn_if d x)) undrawn
      ∙ ap (λ (b : BookActs). with_book b n x) (sym (asked_is g n x.book slot there))
