-- A call is committed in the channel: what it does to links is what the session's cuts do, and clock and configs are as before.
use Rattle.std.proofs.Common.{◌≡◌, ◌+◌, ◌==◌, ◌∷◌, ◌++◌, ap, refl, subst, sym, ◌∙◌, Bool, true, false, List, [], Option, None, Some, ℕ, suc, cond, filter, find, if◌then◌else◌, is_some, length, map, slice_get}
use Rattle.std.specs.List.{AllByRecursion}
use Rattle.std.specs.Option.{option_map, option_map_or}
use Rattle.std.specs.Prelude.{◌%◌, ◌^◌}
use Rattle.attempt_ledger.specs.declared.ledger.Ledger.{Ledger}
use Rattle.attempt_ledger.specs.declared.row.Placed.{Placed}
use Rattle.attempt_ledger.specs.declared.row.Row.{Row}
use Rattle.call_actions.proofs.Ranks.{numbered_map}
use Rattle.call_actions.specs.Sees.{is_live, live_row}
use Rattle.call_core.specs.Parts.{count_of}
use Rattle.call_core.specs.Steps.{Stepped, commit_stamped, cut_all}
use Rattle.call_core.specs.declared.inbox.Inbox.{Inbox}
use Rattle.call_core.specs.declared.live.LiveRow.{LiveRow}
use Rattle.channel_actions.proofs.ActsFollowed.Acts.{LinkIn, given}
use Rattle.call_cases.proofs.EndsFollow.Cuts.{place_suc}
use Rattle.channel_actions.specs.ActsFollowed.Followed.{all_closed, all_given_up, call_lent}
use Rattle.channel_actions.specs.Calls.{HasSlot}
use Rattle.channel_actions.specs.Clock.{DrawsAlike, SeesClock}
use Rattle.channel_actions.specs.Configs.{SeesConfigs}
use Rattle.call_cases.specs.LinkEnds.Cuts.{links_closed, links_cut}
use Rattle.call_cases.specs.LinkEnds.Laws.{with_cuts}
use Rattle.channel_actions.specs.Links.{HasLink, SeesLinks}
use Rattle.attempt_cases.proofs.CallCommits.Followed.{acts_followed, after_acts, slot_after, x1}
use Rattle.attempt_cases.proofs.CallCommits.Given.{IsPlain, all_plain, closed_same, cut_is, cut_out, elses, given_same, goes_out, rows_are, reported_is}
use Rattle.attempt_cases.proofs.CallCommits.On as on_
use Rattle.attempt_cases.proofs.CallCommits.On.{has, on, out, own, resets}
use Rattle.call_cases.proofs.CallEnds.Linked.{entry_stays, links_stay}
use Rattle.attempt_cases.specs.CallCommits.Commits.{CommitsNext, commits_with, committed_state}
use Rattle.channel_core.proofs.BookLaws.{number_changed, number_other}
use Rattle.channel_core.specs.Books.{link_of, link_of_placed}
use Rattle.channel_core.specs.States.{StateSeen}
use Rattle.channel_core.specs.Steps.{acts_done}
use Rattle.channel_core.specs.Tables.{numbered, tokens_in}
use Rattle.channel_core.specs.declared.state.links.LinkSlot.{LinkSlot}
use Rattle.channel_core.specs.declared.state.slots.CallSlot.{CallSlot}
use Rattle.grpc_base.specs.declared.event.Entry.{Entry}
use Rattle.ledger_stamps.specs.Steps.{changed_at, committed_row}
use Rattle.session_actions.specs.Entries.{entry, last_moment}
use Rattle.session_actions.specs.Policies.{is_current}
use Rattle.session_actions.specs.Words.{last_of}
use Rattle.session_actions.specs.declared.action.CommitCause.{CommitCause}
use Rattle.session_actions.specs.declared.attempt.Attempt.{Attempt}
use Rattle.session_actions.specs.declared.config.HeldConfig.{HeldConfig}
use Rattle.session_actions.specs.declared.entry.OpenEntry.{OpenEntry}
use Rattle.session_actions.specs.declared.policy.PolicyUse.{PolicyUse}
use Rattle.session_actions.specs.declared.seen.Seen.{Seen}
use Rattle.session_actions.specs.declared.seen.Setup.{Setup}
use Rattle.session_order.specs.declared.line.Line.{Line}
use Rattle.std.proofs.lemmas.Bool.{eqb-false, eqb-true}

-- a row that is committed stays on its link
link_stamped : (entry : ℕ) (o : Option Row) → link_of (option_map (committed_row entry) o) ≡ link_of o
link_stamped entry None = refl
link_stamped entry (Some row) = refl

stamped_by : (entry : ℕ) (rows : List Row) (place k : ℕ) (b : Bool) → (k == place) ≡ b → link_of (numbered (changed_at (committed_row entry) rows place) k) ≡ link_of (numbered rows k)
stamped_by entry rows place k true e =
    let same : k ≡ place = eqb-true k place e in
    ap (λ (m : ℕ). link_of (numbered (changed_at (committed_row entry) rows place) m)) same ∙ ap link_of (number_changed (committed_row entry) rows place)
    ∙ link_stamped entry (numbered rows place) ∙ ap (λ (m : ℕ). link_of (numbered rows m)) (sym same)
stamped_by entry rows place k false e = ap link_of (number_other (committed_row entry) rows place k (eqb-false k place e))

-- a property of all that pass, by their places
pub all_passing : (P : LiveRow → Type 0) (p : Attempt → Bool) (xs : List Attempt) → ((i : ℕ) (a : Attempt) → slice_get xs i ≡ Some a → P (live_row a)) → AllByRecursion P (map live_row (filter p xs))
all_passing P p [] each = tt
all_passing P p (a ∷ xs) each = passing_by P a (filter p xs) (p a) (each 0 a refl) (all_passing P p xs (λ i b at. each (suc i) b at))
  where
    passing_by : (P : LiveRow → Type 0) (a : Attempt) (ys : List Attempt) (b : Bool) → P (live_row a) → AllByRecursion P (map live_row ys) → AllByRecursion P (map live_row (cond b (a ∷ ys) ys))
    passing_by P a ys true here rest = (here, rest)
    passing_by P a ys false here rest = rest

module _ (waits : Line → Bool) (n : ℕ) (why : CommitCause) (inbox : Inbox) (x : StateSeen) (o : OpenEntry) (s : Seen) (is : CommitsNext waits n why inbox x o s) where
  abbrev pub slot : CallSlot
  slot = (has waits n why inbox x o s is).slot

  abbrev pub k : Attempt
  k = is.attempt

  abbrev pub f : Stepped → Stepped
  f z = commits_with k.place inbox x.book.moment z

  abbrev pub live : List LiveRow
  live = slot.call.live

  pub live_is : map live_row (filter (is_live s is.call) s.attempts) ≡ live
  live_is = (has waits n why inbox x o s is).sees.serves.sees.live

  abbrev pub outs : Attempt → Bool
  outs a = goes_out s is.call k n (own waits n why inbox x o s is) is.can is.agrees.kept.book.places a

  -- the rows that are given up
  abbrev pub rows : List LiveRow
  rows = map live_row (filter outs s.attempts)

  pub else_rows : elses k.place live ≡ rows
  else_rows = rows_are s is.call k n (own waits n why inbox x o s is) is.can is.agrees.kept.book.places live live_is

  abbrev pub stamped : Ledger
  stamped = commit_stamped k.place x.book.ledger

  abbrev pub tokens : Option ℕ
  tokens = count_of (tokens_in x.book.buckets slot.bucket)

  pub ledger_is : (f (call_lent x slot)).ledger ≡ cut_all None x.book.moment tokens rows stamped
  ledger_is =
      cut_is k.place x.book.moment tokens live stamped ∙ ap (λ (rs : List LiveRow). cut_all None x.book.moment tokens rs stamped) else_rows

  pub acts_are : (f (call_lent x slot)).acts ≡ map given rows
  acts_are = reported_is k.place live [] ∙ ap (map given) else_rows

  link_same : (m : ℕ) → link_of (numbered (f (call_lent x slot)).ledger.rows m) ≡ link_of (numbered x.book.ledger.rows m)
  link_same m =
      ap (λ (z : Ledger). link_of (numbered z.rows m)) ledger_is ∙ links_stay x.book.moment tokens rows stamped m
      ∙ stamped_by x.book.ledger.entry x.book.ledger.rows k.place m (m == k.place) refl

  row_link : (i : ℕ) (a : Attempt) → slice_get s.attempts i ≡ Some a → link_of (numbered x.book.ledger.rows a.place) ≡ link_of_placed a.row.placed
  row_link i a at =
      let place : a.place ≡ suc i = place_suc i s.attempts a is.agrees.kept.book.places at in
      ap (λ (rs : List Row). link_of (numbered rs a.place)) (sym is.agrees.columns.rows)
      ∙ ap link_of (numbered_map (λ (b : Attempt). b.row) s.attempts a.place ∙ ap (option_map (λ (b : Attempt). b.row)) (ap (numbered s.attempts) place ∙ at))

  linked_by : (place : ℕ) (p : Option Placed) → link_of (numbered (f (call_lent x slot)).ledger.rows place) ≡ link_of_placed p
      → LinkIn (f (call_lent x slot)).ledger.rows place (option_map (λ (at : Placed). at.link) p)
  linked_by place None e = tt
  linked_by place (Some at) e = e

  pub linked : AllByRecursion (λ (r : LiveRow). LinkIn (f (call_lent x slot)).ledger.rows r.place r.link) rows
  linked =
      all_passing (λ (r : LiveRow). LinkIn (f (call_lent x slot)).ledger.rows r.place r.link) outs s.attempts
      (λ i a at. linked_by a.place a.row.placed (link_same a.place ∙ row_link i a at))

  abbrev pub after_slot : CallSlot
  after_slot = slot_after f n x slot (has waits n why inbox x o s is).there rows acts_are linked is.agrees.sets.resets

  abbrev pub y : StateSeen
  y = committed_state n k.place inbox x

  abbrev pub w : StateSeen
  w = after_acts f n x slot (has waits n why inbox x o s is).there rows acts_are linked is.agrees.sets.resets y.book.ledger.links

  -- where the acts begin, and where they end
  abbrev pub first : StateSeen
  first = x1 f n x slot (has waits n why inbox x o s is).there rows acts_are linked is.agrees.sets.resets

  abbrev pub last : StateSeen
  last = acts_done n (map given rows) first

  followed : y ≡ after_acts f n x slot (has waits n why inbox x o s is).there rows acts_are linked is.agrees.sets.resets last.book.ledger.links
  followed = acts_followed f n x slot (has waits n why inbox x o s is).there rows acts_are linked is.agrees.sets.resets

  pub stamps_are : y.book.ledger.links ≡ last.book.ledger.links
  stamps_are = ap (λ (z : StateSeen). z.book.ledger.links) followed

  pub whole : y ≡ w
  whole =
      followed
      ∙ ap (after_acts f n x slot (has waits n why inbox x o s is).there rows acts_are linked is.agrees.sets.resets) (sym (ap (λ (z : StateSeen). z.book.ledger.links) followed))

  abbrev u : Seen
  u = on_.u waits n why inbox x o s is

  abbrev cuts : List Attempt
  cuts = (out waits n why inbox x o s is).attempts

  abbrev cut_test : Attempt → Bool
  cut_test a = cut_out s is.call k n (own waits n why inbox x o s is) is.can is.agrees.kept.book.places a

  plain : AllByRecursion (IsPlain outs cut_test) s.attempts
  plain = all_plain s is.call k n (own waits n why inbox x o s is) is.can is.agrees.kept.book.places

  links_are : w.links ≡ (with_cuts cuts x).links
  links_are =
      ap (all_closed rows) (given_same outs cut_test s.attempts plain x.links)
      ∙ closed_same outs cut_test s.attempts plain (links_cut (filter cut_test s.attempts) x.links)
      ∙ ap (λ (cs : List Attempt). links_closed cs (links_cut cs x.links)) (sym (out waits n why inbox x o s is).all)

  pub links_on : SeesLinks w u
  links_on = record {
    count = (resets waits n why inbox x o s is).links.count ∙ ap (λ (ls : List LinkSlot). length ls) (sym links_are);
    each = λ number l at. let h : HasLink (with_cuts cuts x) u l number = (resets waits n why inbox x o s is).links.each number l at in
        record { slot = h.slot; there = ap (λ (ls : List LinkSlot). numbered ls number) links_are ∙ h.there; sees = h.sees };
  }

  current_same : u.current ≡ s.current
  current_same = (on waits n why inbox x o s is).current ∙ sym is.current

  pub entry_on : entry u ≡ entry s
  entry_on =
      ap (λ (es : List Entry). length es + (if is_some u.current then 1 else 0)) (on waits n why inbox x o s is).rest.entries
      ∙ ap (λ (q : Option OpenEntry). length s.entries + (if is_some q then 1 else 0)) current_same

  draws_by : (q r : Option OpenEntry) → q ≡ r → DrawsAlike r x → DrawsAlike q w
  draws_by None r e h = tt
  draws_by (Some p) None e h = absurd (cc)
  draws_by (Some p) (Some q) e h = let same : p ≡ q = (cc) in (ap (λ (z : OpenEntry). z.word) same ∙ h.0, h.1 ∙ ap (λ (z : OpenEntry). z.drawn % 2 ^ 64) (sym same))

  entry_cut : (rs : List LiveRow) (ledger : Ledger) → (cut_all None x.book.moment tokens rs ledger).entry ≡ ledger.entry
  entry_cut rs ledger = entry_stays x.book.moment tokens rs ledger

  pub entry_w : w.book.ledger.entry ≡ x.book.ledger.entry
  entry_w = ap (λ (z : Ledger). z.entry) ledger_is ∙ entry_cut rows stamped

  pub clock_on : SeesClock w u
  clock_on = record {
    entry_is = entry_on ∙ is.agrees.clock.entry_is ∙ sym entry_w;
    moment = ap (λ (q : Option OpenEntry). option_map_or (λ (p : OpenEntry). p.moment) q (last_moment u)) current_same
        ∙ ap (λ (es : List Entry). option_map_or (λ (p : OpenEntry). p.moment) s.current (option_map_or (λ (p : Entry). p.moment) (last_of es) 0)) (on waits n why inbox x o s is).rest.entries
        ∙ is.agrees.clock.moment;
    draws = draws_by u.current s.current current_same is.agrees.clock.draws;
  }

  pub configs_on : SeesConfigs w u
  configs_on = record {
    authority = ap (λ (z : Setup). z.authority) (on waits n why inbox x o s is).rest.setup ∙ is.agrees.configs.authority;
    shut = (on waits n why inbox x o s is).rest.shut ∙ is.agrees.configs.shut;
    held = ap (λ (hs : List HeldConfig). option_map (λ (h : HeldConfig). h.config) (last_of hs)) (on waits n why inbox x o s is).rest.configs ∙ is.agrees.configs.held;
    unconfigured = λ none. (on waits n why inbox x o s is).rest.answered ∙ is.agrees.configs.unconfigured none;
    policy = λ some going.
        ap (λ (ps : List PolicyUse). is_some (find is_current ps)) (on waits n why inbox x o s is).rest.policies
        ∙ is.agrees.configs.policy some (sym (on waits n why inbox x o s is).rest.shut ∙ going);
  }
