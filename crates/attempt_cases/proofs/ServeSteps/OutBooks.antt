-- An attempt that is placed: the ledger of the channel is the session's, no link has another stamp, and all buckets are as before.
use Rattle.std.proofs.Common.{◌≡◌, ◌-◌, ◌==◌, ◌&&◌, ◌||◌, ◌∷◌, ◌∙◌, not, ap, refl, subst, sym, Bool, true, false, List, [], Option, None, Some, ℕ, if◌then◌else◌, is_none, is_some, length, map, option_map}
use Rattle.std.proofs.lemmas.Bool.{and_parts}
use Rattle.std.specs.List.{list_any}
use Rattle.std.specs.Option.{option_map_or}
use Rattle.a6_numbers.specs.Throttling.{Bucket}
use Rattle.attempt_ledger.specs.declared.ledger.CallSeen.{CallSeen}
use Rattle.attempt_ledger.specs.declared.ledger.LinkSeen.{LinkSeen}
use Rattle.attempt_ledger.specs.declared.row.Placed.{Placed}
use Rattle.call_actions.proofs.Places.{only_here}
use Rattle.call_actions.proofs.Ranks.{any_map, numbered_map}
use Rattle.call_actions.specs.CallsApart.Laws.{tokens_in_run}
use Rattle.call_actions.specs.Sees.{bucket_of}
use Rattle.channel_actions.proofs.Links.Settings.Slots.{put_away, set_length}
use Rattle.channel_actions.proofs.Stamps.{counted_at, map_same}
use Rattle.channel_actions.specs.Columns.{SeesColumns, links_noted}
use Rattle.channel_actions.specs.Configs.{SeesBuckets, bucket_in, runs_in_turn}
use Rattle.channel_actions.specs.KeptSessions.Kept.{IsKept}
use Rattle.call_cases.specs.OtherCalls.Others.{BooksApart, GoesApart, IsBooked}
use Rattle.call_cases.proofs.ConfiguredCalls.Lists.{changed_length, equal_numbers, same_numbered}
use Rattle.attempt_cases.proofs.MakingSteps.Quiescent.{two_off}
use Rattle.attempt_cases.proofs.ServeSteps.Lasts.{none_of, not_false, same_some}
use Rattle.attempt_cases.proofs.ServeSteps.OutBase as base
use Rattle.attempt_cases.proofs.ServeSteps.OutBase.{OutLaws, OutNext}
use Rattle.attempt_cases.proofs.ServeSteps.OutCall.{does, kept, own_sees}
use Rattle.channel_core.specs.States.{StateSeen}
use Rattle.session_actions.specs.Attempts.{is_over, is_queued}
use Rattle.session_actions.specs.Closing.{noted_gone}
use Rattle.session_actions.specs.Entries.{entry}
use Rattle.session_actions.specs.Links.{is_retiring}
use Rattle.session_actions.specs.Reading.{is_outstanding_on}
use Rattle.session_actions.specs.Refusals.{is_shutdown_sub}
use Rattle.session_actions.specs.Sessions.{call_seen, link_seen}
use Rattle.session_actions.specs.Words.{holds, numbered}
use Rattle.session_actions.specs.declared.attempt.Attempt.{Attempt}
use Rattle.session_actions.specs.declared.config.ThrottleRun.{ThrottleRun}
use Rattle.session_actions.specs.declared.link.Link.{Link}
use Rattle.session_actions.specs.declared.seen.Seen.{Seen}

and_off : (a b : Bool) → b ≡ false → (a && b) ≡ false
and_off true b e = e
and_off false b e = refl

booked : (u : Seen) → IsKept u → IsBooked u
booked u k = record { book = k.book; owned = k.owned; reads = k.reads }

module _ (x : StateSeen) (s : Seen) (is : OutNext x s) where
  abbrev n : ℕ
  n = is.call.number

  abbrev t : Seen
  t = base.t x s is

  abbrev y : StateSeen
  y = base.y x s is

  -- no link has another stamp: the one of the attempt was not gone, and is not
  abbrev elsewhere : Attempt → Bool
  elsewhere q = (q.place == is.row) && not (is_queued q s)

  none_elsewhere : list_any elsewhere s.attempts ≡ false
  none_elsewhere = only_here (λ (q : Attempt). not (is_queued q s)) is.row is.attempt (ap not is.queued) s.attempts is.sees.order.places is.here

  waits_off : (z : Attempt) → is_queued z s ≡ true → z.row.placed ≡ None
  waits_off z waits =
      let parts = and_parts (is_none z.row.placed && is_none z.row.ended) (not (is_over z s)) waits in
      none_of z.row.placed (and_parts (is_none z.row.placed) (is_none z.row.ended) parts.0).0

  on_by : (q : Link) (z : Attempt) (w : Bool) → (is.at.link == q.number) ≡ false → (z.place == is.row) ≡ w → (w && not (is_queued z s)) ≡ false
      → is_outstanding_on q (base.g x s is z) ≡ is_outstanding_on q z
  on_by q z false other e good = ap (is_outstanding_on q) (base.g_off x s is z e)
  on_by q z true other e good =
      ap (λ (w : Bool). is_outstanding_on q (base.put x s is w z)) e ∙ and_off (is_none z.row.ended) (is.at.link == q.number) other
      ∙ sym (ap (λ (o : Option Placed). (is_some o && is_none z.row.ended) && holds (λ (p : Placed). p.link == q.number) o) (waits_off z (not_false (is_queued z s) good)))

  any_on : (q : Link) → (is.at.link == q.number) ≡ false → list_any (is_outstanding_on q) t.attempts ≡ list_any (is_outstanding_on q) s.attempts
  any_on q other =
      any_map (is_outstanding_on q) (is_outstanding_on q) elsewhere (base.g x s is) (λ z good. on_by q z (z.place == is.row) other refl good) s.attempts none_elsewhere

  none_stamped : (u : Seen) (l : Link) (q : Bool) → link_seen (if q && false then record l { gone = Some (entry u) } else l) ≡ link_seen l
  none_stamped u l true = refl
  none_stamped u l false = refl

  stamp_off : (u : Seen) → is_shutdown_sub u is.link.sub ≡ false → link_seen (noted_gone u is.link) ≡ link_seen is.link
  stamp_off u shut =
      let parts = two_off (is_some is.link.over) (is_retiring is.link) is.up in
      ap (λ (q : Bool). link_seen (if is_none is.link.gone && q then record is.link { gone = Some (entry u) } else is.link))
      (ap (λ (q : Bool). q || ((is_retiring is.link || is_shutdown_sub u is.link.sub) && not (list_any (is_outstanding_on is.link) u.attempts))) parts.0
      ∙ ap (λ (q : Bool). (q || is_shutdown_sub u is.link.sub) && not (list_any (is_outstanding_on is.link) u.attempts)) parts.1
      ∙ ap (λ (q : Bool). q && not (list_any (is_outstanding_on is.link) u.attempts)) shut)
      ∙ none_stamped u is.link (is_none is.link.gone)

  stamp_by : (k : ℕ) (q : Link) (w : Bool) → (is.at.link == q.number) ≡ w → numbered s.links k ≡ Some q → link_seen (noted_gone t q) ≡ link_seen (noted_gone s q)
  stamp_by k q false e got =
      ap (λ (w : Bool). link_seen (if is_none q.gone && (is_some q.over || ((is_retiring q || is_shutdown_sub s q.sub) && not w)) then record q { gone = Some (entry s) } else q)) (any_on q e)
  stamp_by k q true e got =
      let number : q.number ≡ k = counted_at (λ (j : Link). j.number) s.links k q is.agrees.kept.links got in
      let one : q ≡ is.link = same_some q is.link (numbered s.links is.at.link) (ap (numbered s.links) (equal_numbers is.at.link q.number e ∙ number) ∙ got) is.link_there in
      subst (λ (j : Link). link_seen (noted_gone t j) ≡ link_seen (noted_gone s j)) (sym one) (stamp_off t is.alive ∙ sym (stamp_off s is.alive))

  stamp_at : (k : ℕ) (o : Option Link) → numbered s.links k ≡ o → option_map (λ (q : Link). link_seen (noted_gone t q)) o ≡ option_map (λ (q : Link). link_seen (noted_gone s q)) o
  stamp_at k None got = refl
  stamp_at k (Some q) got = ap (λ (v : LinkSeen). Some v) (stamp_by k q (is.at.link == q.number) refl got)

  stamps : links_noted t ≡ links_noted s
  stamps =
      same_numbered (links_noted t) (links_noted s)
      (λ k. numbered_map (λ (q : Link). link_seen (noted_gone t q)) s.links k ∙ stamp_at k (numbered s.links k) refl
      ∙ sym (numbered_map (λ (q : Link). link_seen (noted_gone s q)) s.links k))

  pub count : length (base.t x s is).calls ≡ length (base.y x s is).book.calls
  count = changed_length (base.noted x s is) n s.calls ∙ is.agrees.calls.count ∙ sym (set_length x.book.calls (n - 1) (base.slot2 x s is))

  module _ (laws : OutLaws) where
    pub apart : GoesApart is.call.number s (base.t x s is)
    apart = record {
      actions = base.does_it x s is ∷ [];
      does = does x s is laws;
      apart = (record { acts = acts_on_it; passes = λ d e f. refl }, tt);
      earlier = booked s is.agrees.kept;
      later = booked t (kept x s is laws);
    }
      where
        acts_on_it : option_map_or (λ (k : ℕ). k == n) (option_map (λ (q : Attempt). q.row.call) (numbered s.attempts is.row)) true ≡ true
        acts_on_it = ap (λ (o : Option Attempt). option_map_or (λ (k : ℕ). k == n) (option_map (λ (q : Attempt). q.row.call) o) true) is.here ∙ is.own

    -- the ledger
    calls_at : (m : ℕ) (q : Bool) → (m == n) ≡ q → numbered (map (call_seen t) t.calls) m ≡ numbered y.book.ledger.calls m
    calls_at m true e =
        ap (λ (k : ℕ). numbered (map (call_seen t) t.calls) k) (equal_numbers m n e)
        ∙ numbered_map (call_seen t) t.calls n ∙ ap (option_map (call_seen t)) (base.own_now x s is) ∙ sym (own_sees x s is laws).call_is
        ∙ sym (ap (λ (k : ℕ). numbered y.book.ledger.calls k) (equal_numbers m n e))
    calls_at m false e =
        numbered_map (call_seen t) t.calls m ∙ laws.frames.columns n s t apart m e ∙ sym (numbered_map (call_seen s) s.calls m)
        ∙ ap (λ (l : List CallSeen). numbered l m) is.agrees.columns.calls

    pub columns_now : SeesColumns (base.y x s is).book.ledger (base.t x s is)
    columns_now = record {
      rows = (own_sees x s is laws).rows;
      calls = same_numbered (map (call_seen t) t.calls) y.book.ledger.calls (λ m. calls_at m (m == n) refl);
      asks = is.agrees.columns.asks;
      generations = is.agrees.columns.generations;
      links = stamps ∙ is.agrees.columns.links;
    }

    -- the buckets
    counted_run : (k : ℕ) (run : ThrottleRun) → numbered s.runs k ≡ Some run → bucket_in t (Some k) ≡ bucket_in s (Some k)
    counted_run k run e =
        subst (λ (u : Seen). tokens_in_run u (Some k) ≡ tokens_in_run s (Some k)) (base.after_is x s is)
        (laws.tokens s (base.does_it x s is) k is.agrees.kept.book (laws.fair s (base.does_it x s is) is.agrees.kept.book is.next) (ap (λ (q : Option ThrottleRun). is_some q) e) refl)

    bucket_at : (k : ℕ) (q : Option ThrottleRun) → numbered s.runs k ≡ q → bucket_in t (Some k) ≡ bucket_in s (Some k)
    bucket_at k None e = ap (option_map (bucket_of t)) e ∙ sym (ap (option_map (bucket_of s)) e)
    bucket_at k (Some run) e = counted_run k run e

    bucket_same : (r : Option ℕ) → bucket_in t r ≡ bucket_in s r
    bucket_same None = refl
    bucket_same (Some k) = bucket_at k (numbered s.runs k) refl

    pub buckets_now : SeesBuckets (base.y x s is).book.buckets (base.t x s is)
    buckets_now = record {
      runs = ap (λ (l : List (Option Bucket)). None ∷ l) (map_same (bucket_in t) (bucket_in s) bucket_same (runs_in_turn s.configs)) ∙ is.agrees.buckets.runs;
      throttle = is.agrees.buckets.throttle;
    }

    pub books_apart : BooksApart is.call.number x (base.y x s is) (base.t x s is)
    books_apart = record {
      entry_is = is.agrees.clock.entry_is;
      columns = columns_now;
      buckets = buckets_now;
      slots = λ m e. put_away x.book.calls n m is.slot (base.slot2 x s is) is.slot_there e;
    }
