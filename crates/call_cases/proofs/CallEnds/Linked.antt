-- A call ends in the channel: what it does to links is what the session's cuts do, and the rest of the channel is as before.
use Rattle.std.proofs.Common.{◌≡◌, ◌+◌, ◌∷◌, ◌&&◌, ◌||◌, ◌==◌, not, ap, refl, subst, sym, ◌∙◌, Bool, true, false, List, [], Option, None, Some, ℕ, suc, cond, filter, find, if◌then◌else◌, is_none, is_some, length, map, slice_get}
use Rattle.std.proofs.lemmas.Bool.{eqb-false, eqb-true}
use Rattle.std.specs.List.{AllByRecursion}
use Rattle.std.specs.Option.{option_map, option_map_or}
use Rattle.std.specs.Prelude.{◌%◌, ◌^◌}
use Rattle.channel_actions.proofs.ActsFollowed.Ended.{ends_are_followed}
use Rattle.channel_actions.specs.ActsFollowed.Followed.{all_closed, all_given_up, call_closed, call_lent, closed_in, followed_by_end, given_up_in}
use Rattle.channel_actions.specs.ActsFollowed.Laws.{CanEnd, IsLinked, LinkIs}
use Rattle.attempt_ledger.specs.declared.ledger.CallEnd.{CallEnd}
use Rattle.attempt_ledger.specs.declared.ledger.Ledger.{Ledger}
use Rattle.attempt_ledger.specs.declared.row.Placed.{Placed}
use Rattle.attempt_ledger.specs.declared.row.Row.{Row}
use Rattle.attempt_ledger.specs.declared.row.RowEnd.{RowEnd}
use Rattle.call_actions.proofs.Ranks.{numbered_map}
use Rattle.call_actions.specs.Sees.{is_live, live_row}
use Rattle.call_core.specs.Parts.{count_of, cut_end, read_of}
use Rattle.call_core.specs.Steps.{Stepped, cut_all, cut_row, ended_as}
use Rattle.call_core.specs.declared.live.LiveRow.{LiveRow}
use Rattle.call_cases.proofs.CallEnds.Alone.{buckets_on, goes_apart}
use Rattle.call_cases.proofs.CallEnds.On.{goes_on, to_end}
use Rattle.call_cases.proofs.CallEnds.Sets.{timers_agree}
use Rattle.call_cases.specs.CallEnds.Ends.{AgreesApart, EndsApart, EndsOn, IsToEnd, TimersAgree}
use Rattle.call_cases.specs.CallEnds.Laws.{EndsAgree}
use Rattle.channel_actions.specs.Calls.{HasSlot}
use Rattle.channel_actions.specs.Clock.{DrawsAlike, SeesClock}
use Rattle.channel_actions.specs.Configs.{SeesConfigs}
use Rattle.channel_actions.specs.Links.{HasLink, SeesLinks}
use Rattle.channel_core.proofs.BookLaws.{number_changed, number_other}
use Rattle.channel_core.specs.Books.{link_of, link_of_placed}
use Rattle.channel_core.specs.States.{StateSeen}
use Rattle.channel_core.specs.Steps.{closed}
use Rattle.channel_core.specs.Tables.{numbered, reset_in, sealed_in, tokens_in}
use Rattle.channel_core.specs.declared.state.links.LinkSlot.{LinkSlot}
use Rattle.channel_core.specs.declared.state.slots.CallSlot.{CallSlot}
use Rattle.call_cases.proofs.EndsFollow.Cuts.{place_suc}
use Rattle.call_cases.proofs.EndsFollow.Steps.{call_number}
use Rattle.call_cases.specs.EndsFollow.Laws.{is_out_of}
use Rattle.grpc_base.specs.declared.event.EndCause.{EndCause}
use Rattle.grpc_base.specs.declared.event.Entry.{Entry}
use Rattle.ledger_stamps.specs.Steps.{changed_at, ended_row}
use Rattle.call_cases.specs.LinkEnds.Cuts.{links_closed, links_cut}
use Rattle.call_cases.specs.LinkEnds.Laws.{with_cuts}
use Rattle.session_actions.specs.Attempts.{is_of, is_outstanding, is_over}
use Rattle.session_actions.specs.Entries.{entry, last_moment}
use Rattle.session_actions.specs.Links.{link_number}
use Rattle.session_actions.specs.Policies.{is_current}
use Rattle.session_actions.specs.Words.{last_of}
use Rattle.session_actions.specs.declared.attempt.Attempt.{Attempt}
use Rattle.session_actions.specs.declared.call.Call.{Call}
use Rattle.session_actions.specs.declared.config.HeldConfig.{HeldConfig}
use Rattle.session_actions.specs.declared.entry.OpenEntry.{OpenEntry}
use Rattle.session_actions.specs.declared.policy.PolicyUse.{PolicyUse}
use Rattle.session_actions.specs.declared.seen.Seen.{Seen}
use Rattle.session_actions.specs.declared.seen.Setup.{Setup}
use Rattle.session_order.specs.declared.line.Line.{Line}

-- a live attempt is on a link, and is cut off there; or it waits, and has none
none_of : (b : Bool) (p : Option Placed) (e v : Bool) → (b && ((is_some p && e) || ((is_none p && e) && v))) ≡ true → (b && (is_some p && e)) ≡ false → p ≡ None
none_of b None e v l f = refl
none_of true (Some at) true v l f = absurd (cc)
none_of true (Some at) false v l f = absurd (cc)
none_of false (Some at) e v l f = absurd (cc)

both_of : (b : Bool) (p : Option Placed) (e v : Bool) → (b && (is_some p && e)) ≡ true → (b && ((is_some p && e) || ((is_none p && e) && v))) ≡ false → ⊥
both_of true (Some at) true v h f = (cc)
both_of true (Some at) false v h f = (cc)
both_of true None e v h f = (cc)
both_of false p e v h f = (cc)

some_of : (b : Bool) (p : Option Placed) (e : Bool) → (b && (is_some p && e)) ≡ true → is_some p ≡ true
some_of true (Some at) e h = refl
some_of true None e h = absurd (cc)
some_of false p e h = absurd (cc)

given_here : (place : ℕ) (p : Option Placed) (links : List LinkSlot) → is_some p ≡ true
    → given_up_in place (option_map (λ (at : Placed). at.link) p) links ≡ reset_in (option_map_or (λ (at : Placed). at.link) p 0) place links
given_here place None links e = absurd (cc)
given_here place (Some at) links e = refl

closed_here : (p : Option Placed) (links : List LinkSlot) → is_some p ≡ true
    → closed_in (option_map (λ (at : Placed). at.link) p) links ≡ sealed_in (option_map_or (λ (at : Placed). at.link) p 0) links
closed_here None links e = absurd (cc)
closed_here (Some at) links e = refl

module _ (s : Seen) (c : Call) (n : ℕ) (own : c.number ≡ n) where
  abbrev live : List Attempt → List Attempt
  live xs = filter (is_live s c) xs

  abbrev out : List Attempt → List Attempt
  out xs = filter (is_out_of n) xs

  out_is : (a : Attempt) → is_out_of n a ≡ (is_of c a && is_outstanding a)
  out_is a = ap (λ (k : ℕ). (a.row.call == k) && is_outstanding a) (sym own)

  waits_so : (a : Attempt) → is_live s c a ≡ true → is_out_of n a ≡ false → a.row.placed ≡ None
  waits_so a l f = none_of (is_of c a) a.row.placed (is_none a.row.ended) (not (is_over a s)) l (sym (out_is a) ∙ f)

  out_lives : (a : Attempt) → is_out_of n a ≡ true → is_live s c a ≡ false → ⊥
  out_lives a h f = both_of (is_of c a) a.row.placed (is_none a.row.ended) (not (is_over a s)) (sym (out_is a) ∙ h) f

  on_some : (a : Attempt) → is_out_of n a ≡ true → is_some a.row.placed ≡ true
  on_some a h = some_of (is_of c a) a.row.placed (is_none a.row.ended) (sym (out_is a) ∙ h)

  given_one : (a : Attempt) (xs : List Attempt) (q r : Bool) → is_live s c a ≡ q → is_out_of n a ≡ r
      → ((links : List LinkSlot) → all_given_up (map live_row (live xs)) links ≡ links_cut (out xs) links)
      → (links : List LinkSlot) → all_given_up (map live_row (cond q (a ∷ live xs) (live xs))) links ≡ links_cut (cond r (a ∷ out xs) (out xs)) links
  given_one a xs true true l r next links =
      ap (all_given_up (map live_row (live xs))) (given_here a.place a.row.placed links (on_some a r)) ∙ next (reset_in (link_number a) a.place links)
  given_one a xs true false l r next links =
      ap (λ (p : Option Placed). all_given_up (map live_row (live xs)) (given_up_in a.place (option_map (λ (at : Placed). at.link) p) links)) (waits_so a l r) ∙ next links
  given_one a xs false true l r next links = absurd (out_lives a r l)
  given_one a xs false false l r next links = next links

  pub given_same : (xs : List Attempt) (links : List LinkSlot) → all_given_up (map live_row (live xs)) links ≡ links_cut (out xs) links
  given_same [] links = refl
  given_same (a ∷ xs) links = given_one a xs (is_live s c a) (is_out_of n a) refl refl (given_same xs) links

  closed_one : (a : Attempt) (xs : List Attempt) (q r : Bool) → is_live s c a ≡ q → is_out_of n a ≡ r
      → ((links : List LinkSlot) → all_closed (map live_row (live xs)) links ≡ links_closed (out xs) links)
      → (links : List LinkSlot) → all_closed (map live_row (cond q (a ∷ live xs) (live xs))) links ≡ links_closed (cond r (a ∷ out xs) (out xs)) links
  closed_one a xs true true l r next links =
      ap (all_closed (map live_row (live xs))) (closed_here a.row.placed links (on_some a r)) ∙ next (sealed_in (link_number a) links)
  closed_one a xs true false l r next links =
      ap (λ (p : Option Placed). all_closed (map live_row (live xs)) (closed_in (option_map (λ (at : Placed). at.link) p) links)) (waits_so a l r) ∙ next links
  closed_one a xs false true l r next links = absurd (out_lives a r l)
  closed_one a xs false false l r next links = next links

  pub closed_same : (xs : List Attempt) (links : List LinkSlot) → all_closed (map live_row (live xs)) links ≡ links_closed (out xs) links
  closed_same [] links = refl
  closed_same (a ∷ xs) links = closed_one a xs (is_live s c a) (is_out_of n a) refl refl (closed_same xs) links

-- rows that are cut off stay on their links
link_ended : (end : RowEnd) (o : Option Row) → link_of (option_map (ended_row end) o) ≡ link_of o
link_ended end None = refl
link_ended end (Some row) = refl

module _ (moment : ℕ) (tokens : Option ℕ) where
  cut_by : (end : RowEnd) (rows : List Row) (place k : ℕ) (b : Bool) → (k == place) ≡ b → link_of (numbered (changed_at (ended_row end) rows place) k) ≡ link_of (numbered rows k)
  cut_by end rows place k true e =
      let same : k ≡ place = eqb-true k place e in
      ap (λ (m : ℕ). link_of (numbered (changed_at (ended_row end) rows place) m)) same ∙ ap link_of (number_changed (ended_row end) rows place)
      ∙ link_ended end (numbered rows place) ∙ ap (λ (m : ℕ). link_of (numbered rows m)) (sym same)
  cut_by end rows place k false e = ap link_of (number_other (ended_row end) rows place k (eqb-false k place e))

  row_stays : (place : ℕ) (o : Option ℕ) (ledger : Ledger) (k : ℕ) → link_of (numbered (cut_row moment tokens place ledger o).rows k) ≡ link_of (numbered ledger.rows k)
  row_stays place None ledger k = refl
  row_stays place (Some link) ledger k = cut_by (cut_end ledger.entry moment (read_of ledger.links link) tokens) ledger.rows place k (k == place) refl

  pub links_stay : (live : List LiveRow) (ledger : Ledger) (k : ℕ) → link_of (numbered (cut_all None moment tokens live ledger).rows k) ≡ link_of (numbered ledger.rows k)
  links_stay [] ledger k = refl
  links_stay (r ∷ live) ledger k = links_stay live (cut_row moment tokens r.place ledger r.link) k ∙ row_stays r.place r.link ledger k

  entry_cut : (place : ℕ) (o : Option ℕ) (ledger : Ledger) → (cut_row moment tokens place ledger o).entry ≡ ledger.entry
  entry_cut place None ledger = refl
  entry_cut place (Some link) ledger = refl

  pub entry_stays : (live : List LiveRow) (ledger : Ledger) → (cut_all None moment tokens live ledger).entry ≡ ledger.entry
  entry_stays [] ledger = refl
  entry_stays (r ∷ live) ledger = entry_stays live (cut_row moment tokens r.place ledger r.link) ∙ entry_cut r.place r.link ledger

-- a property of all that pass, by their places
pub all_passing : (P : LiveRow → Type 0) (p : Attempt → Bool) (xs : List Attempt) → ((i : ℕ) (a : Attempt) → slice_get xs i ≡ Some a → P (live_row a)) → AllByRecursion P (map live_row (filter p xs))
all_passing P p [] each = tt
all_passing P p (a ∷ xs) each = passing_by P a (filter p xs) (p a) (each 0 a refl) (all_passing P p xs (λ i b at. each (suc i) b at))
  where
    passing_by : (P : LiveRow → Type 0) (a : Attempt) (ys : List Attempt) (b : Bool) → P (live_row a) → AllByRecursion P (map live_row ys) → AllByRecursion P (map live_row (cond b (a ∷ ys) ys))
    passing_by P a ys true here rest = (here, rest)
    passing_by P a ys false here rest = rest

-- a call that goes on, in both
none_cause : (o : Option CallEnd) (p : Option EndCause) → option_map (λ (e : CallEnd). e.cause) o ≡ p → o ≡ None → p ≡ None
none_cause o p e h = sym e ∙ ap (option_map (λ (k : CallEnd). k.cause)) h

module _ (waits : Line → Bool) (n : ℕ) (why : EndCause) (x : StateSeen) (o : OpenEntry) (s : Seen) (is : IsToEnd waits n why x o s) where
  abbrev pub has : HasSlot x s is.call n
  has = is.agrees.calls.each n is.call is.there

  abbrev pub slot : CallSlot
  slot = has.slot

  pub own : is.call.number ≡ n
  own = call_number n s.calls is.call is.agrees.kept.book.calls is.there

  pub going : slot.call.ended ≡ None
  going = none_cause is.call.end slot.call.ended has.sees.serves.sees.ended is.going

  abbrev pub tokens : Option ℕ
  tokens = count_of (tokens_in x.book.buckets slot.bucket)

  pub closed_now : call_closed why x slot ≡ ended_as why x.book.moment (call_lent x slot)
  closed_now = ap (λ (q : Option EndCause). if not (is_some q) then ended_as why x.book.moment (call_lent x slot) else call_lent x slot) going

  pub link_same : (k : ℕ) → link_of (numbered (call_closed why x slot).ledger.rows k) ≡ link_of (numbered x.book.ledger.rows k)
  link_same k = ap (λ (z : Stepped). link_of (numbered z.ledger.rows k)) closed_now ∙ links_stay x.book.moment tokens slot.call.live x.book.ledger k

  pub entry_same : (call_closed why x slot).ledger.entry ≡ x.book.ledger.entry
  entry_same = ap (λ (z : Stepped). z.ledger.entry) closed_now ∙ entry_stays x.book.moment tokens slot.call.live x.book.ledger

  pub row_link : (i : ℕ) (a : Attempt) → slice_get s.attempts i ≡ Some a → link_of (numbered x.book.ledger.rows a.place) ≡ link_of_placed a.row.placed
  row_link i a at =
      let place : a.place ≡ suc i = place_suc i s.attempts a is.agrees.kept.book.places at in
      ap (λ (rows : List Row). link_of (numbered rows a.place)) (sym is.agrees.columns.rows)
      ∙ ap link_of (numbered_map (λ (b : Attempt). b.row) s.attempts a.place ∙ ap (option_map (λ (b : Attempt). b.row)) (ap (numbered s.attempts) place ∙ at))

  pub linked_by : (place : ℕ) (p : Option Placed) → link_of (numbered (call_closed why x slot).ledger.rows place) ≡ link_of_placed p
      → LinkIs x why slot place (option_map (λ (at : Placed). at.link) p)
  linked_by place None e = tt
  linked_by place (Some at) e = e

  pub live_is : map live_row (filter (is_live s is.call) s.attempts) ≡ slot.call.live
  live_is = has.sees.serves.sees.live

  abbrev pub can : CanEnd why n x
  can = record {
    slot = slot;
    there = has.there;
    going = going;
    linked = subst (AllByRecursion (IsLinked x why slot)) live_is
        (all_passing (IsLinked x why slot) (is_live s is.call) s.attempts
        (λ i a at. linked_by a.place a.row.placed (link_same a.place ∙ row_link i a at)));
    resets = is.agrees.sets.resets;
  }

  abbrev pub y : StateSeen
  y = closed why n x

  abbrev pub w : StateSeen
  w = followed_by_end why n x slot y.book.ledger

  pub whole : y ≡ w
  whole = ends_are_followed why n x can

  abbrev pub on : EndsOn waits n why x o s
  on = goes_on waits n why x o s is

  abbrev pub u : Seen
  u = on.seen

  links_are : w.links ≡ (with_cuts on.cuts x).links
  links_are =
      ap (λ (live : List LiveRow). all_closed live (all_given_up live x.links)) (sym live_is)
      ∙ ap (all_closed (map live_row (filter (is_live s is.call) s.attempts))) (given_same s is.call n own s.attempts x.links)
      ∙ closed_same s is.call n own s.attempts (links_cut (filter (is_out_of n) s.attempts) x.links)
      ∙ ap (λ (cuts : List Attempt). links_closed cuts (links_cut cuts x.links)) (sym on.all)

  pub links_on : SeesLinks w u
  links_on = record {
    count = on.links.count ∙ ap (λ (ls : List LinkSlot). length ls) (sym links_are);
    each = λ number l at. let h : HasLink (with_cuts on.cuts x) u l number = on.links.each number l at in
        record { slot = h.slot; there = ap (λ (ls : List LinkSlot). numbered ls number) links_are ∙ h.there; sees = h.sees };
  }

  current_same : u.current ≡ s.current
  current_same = on.current ∙ sym is.current

  entry_on : entry u ≡ entry s
  entry_on =
      ap (λ (es : List Entry). length es + (if is_some u.current then 1 else 0)) on.rest.entries
      ∙ ap (λ (q : Option OpenEntry). length s.entries + (if is_some q then 1 else 0)) current_same

  draws_by : (q r : Option OpenEntry) → q ≡ r → DrawsAlike r x → DrawsAlike q w
  draws_by None r e k = tt
  draws_by (Some p) None e k = absurd (cc)
  draws_by (Some p) (Some q) e k = let same : p ≡ q = (cc) in (ap (λ (z : OpenEntry). z.word) same ∙ k.0, k.1 ∙ ap (λ (z : OpenEntry). z.drawn % 2 ^ 64) (sym same))

  pub clock_on : SeesClock w u
  clock_on = record {
    entry_is = entry_on ∙ is.agrees.clock.entry_is ∙ sym entry_same;
    moment = ap (λ (q : Option OpenEntry). option_map_or (λ (p : OpenEntry). p.moment) q (last_moment u)) current_same
        ∙ ap (λ (es : List Entry). option_map_or (λ (p : OpenEntry). p.moment) s.current (option_map_or (λ (p : Entry). p.moment) (last_of es) 0)) on.rest.entries
        ∙ is.agrees.clock.moment;
    draws = draws_by u.current s.current current_same is.agrees.clock.draws;
  }

  pub configs_on : SeesConfigs w u
  configs_on = record {
    authority = ap (λ (z : Setup). z.authority) on.rest.setup ∙ is.agrees.configs.authority;
    shut = on.rest.shut ∙ is.agrees.configs.shut;
    held = ap (λ (hs : List HeldConfig). option_map (λ (h : HeldConfig). h.config) (last_of hs)) on.rest.configs ∙ is.agrees.configs.held;
    unconfigured = λ none. on.rest.answered ∙ is.agrees.configs.unconfigured none;
    policy = λ some going. ap (λ (ps : List PolicyUse). is_some (find is_current ps)) on.rest.policies ∙ is.agrees.configs.policy some (sym on.rest.shut ∙ going);
  }

  pub timers_on : TimersAgree w u
  timers_on =
      let k = timers_agree waits n why x o s is on.kept in
      record { dues = k.dues; deadlines = k.deadlines; awaiting_config = k.awaiting_config; fail_fast = k.fail_fast }

  pub agree : AgreesApart y u
  agree = subst (λ (z : StateSeen). AgreesApart z u) (sym whole)
      (record { clock = clock_on; configs = configs_on; buckets = buckets_on waits n why x o s is; links = links_on; net = on.net; timers = timers_on; orderly = is.agrees.orderly; resets = is.agrees.sets.resets; kept = on.kept })

apart_ahead : (waits : Line → Bool) (n : ℕ) (why : EndCause) (x : StateSeen) (o : OpenEntry) (s : Seen) → IsToEnd waits n why x o s → EndsApart waits n why x o s
apart_ahead waits n why x o s is = record { on = on waits n why x o s is; apart = goes_apart waits n why x o s is (on waits n why x o s is).kept; agrees = agree waits n why x o s is }

pub ends_agree : EndsAgree
ends_agree waits n why x o s is = apart_ahead waits n why x o s (to_end waits n why x o s is)
