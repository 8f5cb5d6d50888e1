-- A dial that is under way is up: a new link, with the next number.
use Rattle.std.proofs.Common.{◌≡◌, ◌≤◌, ◌<◌, ◌&&◌, ◌++◌, ◌+◌, ◌==◌, ◌||◌, ◌∷◌, ap, arith, refl, subst, sym, ◌∙◌, Bool, true, false, List, [], None, Option, Some, ℕ, cond, filter, if◌then◌else◌, is_some, length, map, min, not, option_and_then, suc, zero}
use Rattle.std.proofs.lemmas.Bool.{eqb-false, eqb-true}
use Rattle.std.proofs.lemmas.List.{length-append}
use Rattle.std.proofs.lemmas.List.{map-append}
use Rattle.std.specs.List.{list_all, list_any}
use Rattle.std.specs.Option.{option_map, option_map_or}
use Rattle.attempt_ledger.specs.declared.ledger.LinkSeen.{LinkSeen}
use Rattle.attempt_ledger.specs.declared.row.Placed.{Placed}
use Rattle.call_actions.proofs.Lists.{numbered_last}
use Rattle.channel_actions.proofs.Answering.{event_next}
use Rattle.channel_actions.proofs.Dialling.{applied_next, dial_same, open_in}
use Rattle.channel_actions.proofs.Gone.{all_numbered}
use Rattle.channel_actions.proofs.Stamps.{map_same}
use Rattle.channel_actions.specs.Agrees.{Agrees}
use Rattle.channel_actions.specs.Quiescent.{IsAt}
use Rattle.channel_actions.specs.Clock.{DrawsAlike}
use Rattle.channel_actions.specs.Columns.{links_noted}
use Rattle.channel_actions.specs.Links.{HasLink, IsGoing, SeesLinks, lines_in}
use Rattle.channel_actions.specs.Readers.{IsReaderOf, attempt_on}
use Rattle.channel_actions.specs.Stages.{IsAnswered}
use Rattle.channel_core.specs.Applying as channel
use Rattle.channel_core.specs.Applying.{AnswersBy}
use Rattle.channel_core.specs.Arrivals.{linked_as, linked_for, next_link}
use Rattle.channel_core.specs.States.{StateSeen}
use Rattle.channel_core.specs.Tables.{fresh_link, new_slot}
use Rattle.channel_net.specs.Runs.{Up}
use Rattle.channel_net.specs.Steps as net
use Rattle.attempt_cases.proofs.DialEvents.Answered.{answered_at, answered_by_one}
use Rattle.attempt_cases.proofs.DialEvents.Failing.{IsUnderWay, live_dial, open_kept, under_way}
use Rattle.attempt_cases.proofs.DialEvents.Nets.{of_calls_is, one_call_more, unrefused}
use Rattle.attempt_cases.specs.DialEvents.Laws.{LinksUpAreAnswered}
use Rattle.grpc_base.specs.declared.event.Event.{Event}
use Rattle.grpc_base.specs.declared.event.Event.TheVariants as event
use Rattle.grpc_base.specs.declared.event.Refusal.{Refusal}
use Rattle.grpc_base.specs.declared.event.Reply.{Reply}
use Rattle.grpc_base.specs.declared.event.Reply.TheVariants as reply
use Rattle.channel_actions.specs.KeptSessions.Kept.{NumbersCountUp, IsKept, came_up, is_on_link, is_sound_sub}
use Rattle.channel_actions.specs.KeptSessions.Laws.{KeptAlong}
use Rattle.lb_policy.specs.Table.{is_ready}
use Rattle.ledger_stamps.specs.Steps as stamps
use Rattle.link_actions.specs.Sees.{AttemptsStandInPlace}
use Rattle.channel_actions.specs.LinkFrames.Alike.{SeesNoDifference}
use Rattle.channel_actions.specs.LinkFrames.Laws.{LinksStay}
use Rattle.net_actions.specs.Laws.{DialsAreLinks}
use Rattle.attempt_cases.proofs.NetSteps.Alike.{links_see_no_difference, still}
use Rattle.channel_actions.proofs.BoardActions.Boards.{one_boarded}
use Rattle.channel_actions.proofs.BoardActions.Quiescent.{to_order}
use Rattle.attempt_cases.proofs.NetSteps.Clocks.{clock_goes_on, entry_goes_on}
use Rattle.attempt_cases.proofs.NetSteps.Passing.{off_placed}
use Rattle.attempt_cases.proofs.NetSteps.Stepped.{net_steps_keep}
use Rattle.attempt_cases.proofs.NetSteps.Subbed.{current_stays, noted_gone_same, subbed_generations, subbed_links, subbed_shut}
use Rattle.channel_actions.specs.BoardActions.Boards.{IsBoarded}
use Rattle.call_cases.specs.OtherCalls.Laws.{AllCallsStay, SetsStay}
use Rattle.session_actions.specs.Actions.{after, after_if, following}
use Rattle.session_actions.specs.Attempts.{is_outstanding}
use Rattle.session_actions.specs.CallEnds.{next_deadline}
use Rattle.session_actions.specs.Closing.{noted_gone}
use Rattle.session_actions.specs.Entries.{entry}
use Rattle.session_actions.specs.Events.{event_action}
use Rattle.session_actions.specs.Policies.{is_shutdown}
use Rattle.session_actions.specs.Reading.{is_outstanding_on, outstanding_on}
use Rattle.session_actions.specs.Refusals.{dial_refusal, is_gone, is_shutdown_sub}
use Rattle.session_actions.specs.Sessions.{link_seen}
use Rattle.session_actions.specs.Subchannels.{link_up, new_link}
use Rattle.session_actions.specs.Words.{holds, numbered}
use Rattle.session_actions.specs.declared.action.Action.{Action}
use Rattle.session_actions.specs.declared.action.Action.TheVariants as action
use Rattle.session_actions.specs.declared.attempt.Attempt.{Attempt}
use Rattle.session_actions.specs.declared.entry.OpenEntry.{OpenEntry}
use Rattle.session_actions.specs.declared.entry.Stage.TheVariants as stage
use Rattle.session_actions.specs.declared.link.Link.{Link}
use Rattle.session_actions.specs.declared.policy.PolicyUse.{PolicyUse}
use Rattle.session_actions.specs.declared.seen.Seen.{Seen}
use Rattle.session_actions.specs.declared.subchannel.Subchannel.{Subchannel}
use Rattle.session_order.proofs.Boards.{with_sub_current}
use Rattle.session_order.specs.Laws.{BoardsStir, QuiescenceIsExact}
use Rattle.session_order.specs.Stirs.{HaveLinks}
use Rattle.link_actions.specs.StreamActions.Laws.{NewLinksAgree}
use Rattle.subchannel.specs.Boards as boards

-- one thing more stands after the others
pub but_last : {X : Type 0} (xs : List X) (z : X) (n : ℕ) → (n ≡ suc (length xs) → ⊥) → numbered (xs ++ z ∷ []) n ≡ numbered xs n
but_last [] z zero off = refl
but_last [] z (suc zero) off = absurd (off refl)
but_last [] z (suc (suc i)) off = refl
but_last (x ∷ xs) z zero off = refl
but_last (x ∷ xs) z (suc zero) off = refl
but_last (x ∷ xs) z (suc (suc i)) off = but_last xs z (suc i) (λ e. off (ap suc e))

off_of : (n m k : ℕ) → k ≡ m → (m + 1 == n) ≡ false → n ≡ suc k → ⊥
off_of n m k same off e = eqb-false (m + 1) n off (let w : m + 1 ≡ n = omega arith in w)

within : {X : Type 0} (xs : List X) (n : ℕ) → is_some (numbered xs n) ≡ true → n ≤ length xs
within xs zero e = let w : 0 ≤ length xs = omega arith in w
within [] (suc i) e = absurd (cc)
within (x ∷ xs) (suc zero) e = let w : 1 ≤ suc (length xs) = omega arith in w
within (x ∷ xs) (suc (suc i)) e = let w : suc i ≤ length xs = within xs (suc i) e in (let v : suc (suc i) ≤ suc (length xs) = omega arith in v)

link_min : (n m : ℕ) → n ≡ m → n < 4294967295 → min (m + 1) 4294967295 ≡ n + 1
link_min n m e few = omega arith

-- the links of attempts and subchannels came up
up_for : (s : Seen) (o : Option Placed) (at : Placed) → o ≡ Some at → option_map_or (λ (p : Placed). came_up s p.link) o true ≡ true → at.link ≤ length s.links
up_for s None at e up = absurd (cc)
up_for s (Some p) at e up = let one : p ≡ at = (cc) in within s.links at.link (sym (ap (λ (q : Placed). came_up s q.link) one) ∙ up)

up_of : (s : Seen) (o : Option ℕ) (b : Bool) (link : ℕ) → o ≡ Some link → option_map_or (came_up s) o b ≡ true → link ≤ length s.links
up_of s None b link e up = absurd (cc)
up_of s (Some n) b link e up = let one : n ≡ link = (cc) in within s.links link (sym (ap (came_up s) one) ∙ up)

have_links : (s : Seen) → IsKept s → HaveLinks s
have_links s k = record {
  attempts = λ n a at there placed. up_for s a.row.placed at placed (all_numbered (is_on_link s) s.attempts n a there k.placed);
  subs = λ n b link there is. up_of s b.link (not (is_ready b.state)) link is (all_numbered (is_sound_sub s) s.subs n b there k.boards);
}

counted_placed : (n : ℕ) (xs : List Attempt) → NumbersCountUp n (map (λ (a : Attempt). a.place) xs) → AttemptsStandInPlace n xs
counted_placed n [] h = tt
counted_placed n (a ∷ xs) h =
    (h.0, counted_placed (n + 1) xs (subst (λ (m : ℕ). NumbersCountUp m (map (λ (a : Attempt). a.place) xs)) (let e : suc n ≡ n + 1 = omega arith in e) h.1))

and_off : (a b : Bool) → b ≡ false → (a && b) ≡ false
and_off true b e = e
and_off false b e = refl

both : (a b : Bool) → (a && b) ≡ true → (a ≡ true) × (b ≡ true)
both true b e = (refl, e)
both false b e = absurd (cc)

-- no attempt is on it
none_on : (s : Seen) (l : Link) → l.number ≡ length s.links + 1 → (xs : List Attempt) → list_all (is_on_link s) xs ≡ true → filter (is_outstanding_on l) xs ≡ []
none_on s l is [] up = refl
none_on s l is (a ∷ xs) up =
    let two = both (is_on_link s a) (list_all (is_on_link s) xs) up in
    let off : is_outstanding_on l a ≡ false
    = and_off (is_outstanding a) (holds (λ (at : Placed). at.link == l.number) a.row.placed)
    (ap (λ (n : ℕ). holds (λ (at : Placed). at.link == n) a.row.placed) is ∙ off_placed s a.row.placed two.0) in
    ap (λ (b : Bool). cond b (a ∷ filter (is_outstanding_on l) xs) (filter (is_outstanding_on l) xs)) off ∙ none_on s l is xs two.1

off_at : (s : Seen) (l : Link) → l.number ≡ length s.links + 1 → list_all (is_on_link s) s.attempts ≡ true → (row : ℕ) (o : Option Attempt) → numbered s.attempts row ≡ o
    → option_and_then (λ (a : Attempt). if is_outstanding_on l a then Some a else None) o ≡ None
off_at s l is up row None at = refl
off_at s l is up row (Some a) at =
    ap (λ (b : Bool). if b then Some a else None)
    (and_off (is_outstanding a) (holds (λ (q : Placed). q.link == l.number) a.row.placed)
    (ap (λ (n : ℕ). holds (λ (q : Placed). q.link == n) a.row.placed) is ∙ off_placed s a.row.placed (all_numbered (is_on_link s) s.attempts row a at up)))

reader_none : (s : Seen) (o : Option Attempt) → o ≡ None → IsReaderOf s o None
reader_none s None e = tt
reader_none s (Some a) e = absurd (cc)

module _ (exact : QuiescenceIsExact) (stir : BoardsStir) (links_are : DialsAreLinks) (new_ones : NewLinksAgree) (calls_stay : AllCallsStay) (sets_stay : SetsStay)
    (kept_along : KeptAlong) (links_stay : LinksStay)
    (x : StateSeen) (o : OpenEntry) (s : Seen) (h : Agrees x s) (at : IsAt stage.Event o s) (fresh : o.turn ≡ None) (timely : next_deadline s ≡ None)
    (sub : ℕ) (brings : o.event ≡ event.LinkUp sub) (kept : channel.refusal_of o.event x ≡ None) (dial : net.dial_refusal (boards.numbered x.net.board sub) ≡ None) where
  abbrev k : ℕ
  k = length s.links + 1

  abbrev l : Link
  l = new_link k sub s

  abbrev u : Seen
  u = record s { links = s.links ++ l ∷ [] }

  abbrev f : Subchannel → Subchannel
  f b = record b { link = Some k }

  abbrev t : Seen
  t = link_up sub s

  abbrev y : StateSeen
  y = linked_as k sub x

  abbrev r : Reply
  r = reply.Link k

  abbrev p : OpenEntry
  p = answered_at r o.drawn o

  abbrev a : Action
  a = action.LinkUp sub

  way : IsUnderWay s sub
  way = under_way x s sub h dial

  next : event_action (event.LinkUp sub) s ≡ Some a
  next =
      applied_next (event.LinkUp sub) s (Some a)
      (open_in s (dial_refusal (numbered s.subs sub)) (open_kept x s o.event (event.LinkUp sub) h refl brings kept)
      ∙ sym (dial_same sub s.subs x.net.board x.net.links h.net.subs_are) ∙ dial) refl

  does : after a s ≡ t
  does = ap (λ (c : Option OpenEntry). after_if c a s) at.current

  follows : following s ≡ Some a
  follows = event_next o s at timely a (ap (λ (v : Event). event_action v s) brings ∙ next)

  boarded : IsBoarded s t
  boarded = subst (IsBoarded s) does (one_boarded s a refl)

  on : t.current ≡ Some p
  on = ap (option_map (λ (q : OpenEntry). record q { stage = stage.Replied; reply = Some r })) (with_sub_current u sub f ∙ at.current)

  later : IsKept t
  later = kept_along (a ∷ []) s t h.kept (follows, sym does)

  generations : map (λ (g : PolicyUse). g.generation) t.policies ≡ map (λ (g : PolicyUse). g.generation) s.policies
  generations = subbed_generations f sub u

  shut : (n : ℕ) → is_shutdown_sub t n ≡ is_shutdown_sub s n
  shut n = subbed_shut f sub u way.one way.there refl n

  all_links : t.links ≡ s.links ++ l ∷ []
  all_links = subbed_links f sub u

  alive : is_shutdown_sub t sub ≡ false
  alive = shut sub ∙ ap (λ (c : Option Subchannel). holds (λ (b : Subchannel). is_shutdown b.state) c) way.there ∙ live_dial way.one way.dials

  goes : is_gone l t ≡ false
  goes = ap (λ (b : Bool). b && not (list_any (is_outstanding_on l) t.attempts)) alive

  new_noted : link_seen (noted_gone t l) ≡ stamps.new_link sub x.book.ledger.entry
  new_noted =
      ap (λ (b : Bool). link_seen (if b then record l { gone = Some (entry t) } else l)) goes ∙ ap (stamps.new_link sub) h.clock.entry_is

  noted : links_noted t ≡ x.book.ledger.links ++ stamps.new_link sub x.book.ledger.entry ∷ []
  noted =
      ap (map (λ (m : Link). link_seen (noted_gone t m))) all_links ∙ map-append (λ (m : Link). link_seen (noted_gone t m)) s.links (l ∷ [])
      ∙ ap (λ (ms : List LinkSeen). ms ++ link_seen (noted_gone t l) ∷ [])
      (map_same (λ (m : Link). link_seen (noted_gone t m)) (λ (m : Link). link_seen (noted_gone s m))
      (λ m. ap link_seen (noted_gone_same s t boarded (entry_goes_on s t o p boarded at.current on) shut m)) s.links ∙ h.columns.links)
      ∙ ap (λ (m : LinkSeen). x.book.ledger.links ++ m ∷ []) new_noted

  -- the new link, and the others
  abbrev touched : ℕ → Bool
  touched n = k == n

  sees_no_difference : SeesNoDifference touched s t
  sees_no_difference =
      links_see_no_difference touched s t boarded
      (λ n m off there. (m, sym (but_last s.links l n (off_of n (length s.links) (length s.links) refl off)) ∙ sym (ap (λ (ls : List Link). numbered ls n) all_links) ∙ there, still m))

  rows : t.attempts ≡ s.attempts
  rows = ap (λ (v : Seen). v.attempts) boarded

  new_there : numbered t.links k ≡ Some l
  new_there = ap (λ (ls : List Link). numbered ls k) all_links ∙ numbered_last s.links l

  none_there : outstanding_on l t ≡ []
  none_there = ap (filter (is_outstanding_on l)) rows ∙ none_on s l refl s.attempts h.kept.placed

  off_row : (row : ℕ) → attempt_on l t row ≡ None
  off_row row =
      ap (λ (xs : List Attempt). option_and_then (λ (q : Attempt). if is_outstanding_on l q then Some q else None) (numbered xs row)) rows
      ∙ off_at s l refl h.kept.placed row (numbered s.attempts row) refl

  new_goes : IsGoing l t (new_slot fresh_link)
  new_goes = record {
    streams = new_ones k sub s t (lines_in l t) new_there none_there (counted_placed 1 t.attempts later.attempts);
    readers = record { each = λ row. reader_none t (attempt_on l t row) (off_row row); distinct = tt };
    rest = refl;
    closed = refl;
  }

  has_new : HasLink y t l k
  has_new = record {
    slot = new_slot fresh_link;
    there = ap (numbered (x.links ++ new_slot fresh_link ∷ [])) (ap (λ (n : ℕ). n + 1) h.links.count) ∙ numbered_last x.links (new_slot fresh_link);
    sees = record { over = refl; retiring = refl; going = λ whole. new_goes };
  }

  has_by : (n : ℕ) (m : Link) → (k == n) ≡ true → numbered t.links n ≡ Some m → HasLink y t m n
  has_by n m is there =
      let number : k ≡ n = eqb-true k n is in
      let one : Some m ≡ Some l = sym there ∙ sym (ap (numbered t.links) number) ∙ new_there in
      let same : m ≡ l = (cc) in
      subst (λ (q : Link). HasLink y t q n) (sym same) (subst (HasLink y t l) number has_new)

  long : length t.links ≡ length y.links
  long =
      ap (λ (ls : List Link). length ls) all_links ∙ length-append s.links (l ∷ []) ∙ ap (λ (n : ℕ). n + 1) h.links.count
      ∙ sym (length-append x.links (new_slot fresh_link ∷ []))

  sees_links : SeesLinks y t
  sees_links =
      links_stay touched x y s t h.links h.kept later
      (λ n off. but_last x.links (new_slot fresh_link) n (off_of n (length s.links) (length x.links) (sym h.links.count) off)) sees_no_difference long has_by

  agrees : Agrees y t
  agrees = net_steps_keep calls_stay sets_stay kept_along x y s t h (record {
    channel = refl;
    actions = a ∷ [];
    does = (follows, sym does);
    board = (refl, tt);
    clock = clock_goes_on s t o p boarded at.current on x y h.clock refl refl refl refl refl (subst (λ (c : Option OpenEntry). DrawsAlike c x) at.current h.clock.draws).1;
    generations = generations ∙ h.columns.generations;
    noted = noted;
    policy = λ held unshut. current_stays s t generations ∙ h.configs.policy held unshut;
    links = sees_links;
    net = links_are sub s x.net way.one h.net way.there way.dials;
    orderly = of_calls_is (net.net_up sub k x.net) _ (unrefused x.net (net.net_up sub k x.net) sub dial) (one_call_more (Up sub k) x.net h.orderly);
  })

  pub joined_answered : IsAnswered y r o s
  joined_answered =
      answered_by_one exact y r o s at fresh timely a t o.drawn (event.LinkUp sub)
      (record { cancels_none = λ n. refl; sends_none = λ c z. refl; no_result = refl; no_frame = λ q z. refl }) brings next (λ v. v) refl does boarded on
      (λ line. stir.up sub o s at.current (brings, have_links s h.kept) line p on refl (to_order exact o s at.quiescent line)) agrees

pub links_up_are_answered : QuiescenceIsExact → BoardsStir → DialsAreLinks → NewLinksAgree → AllCallsStay → SetsStay → KeptAlong → LinksStay → LinksUpAreAnswered
links_up_are_answered exact stir links_are new_ones calls_stay sets_stay kept_along links_stay x y r o s h at fresh timely case answers =
    let given : AnswersBy None (event.LinkUp case.sub) x y r
    = subst (λ (e : Event). AnswersBy None e x y r) case.event_is (subst (λ (z : Option Refusal). AnswersBy z o.event x y r) case.kept answers) in
    let number : next_link x ≡ length s.links + 1 = link_min (length s.links) (length x.links) h.links.count case.few in
    subst (λ (z : StateSeen). IsAnswered z r o s)
    (sym (given.0 ∙ ap (λ (z : Option Refusal). (linked_for z case.sub x).state) case.dial ∙ ap (λ (n : ℕ). linked_as n case.sub x) number))
    (subst (λ (z : Reply). IsAnswered (linked_as (length s.links + 1) case.sub x) z o s)
    (sym (given.1 ∙ ap (λ (z : Option Refusal). (linked_for z case.sub x).reply) case.dial ∙ ap (λ (n : ℕ). reply.Link n) number))
    (joined_answered exact stir links_are new_ones calls_stay sets_stay kept_along links_stay x o s h at fresh timely case.sub case.event_is case.kept case.dial))
