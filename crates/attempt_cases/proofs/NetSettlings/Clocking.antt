-- Round by round: what the clock changes of a net is the session's next action, until it changes nothing.
use Rattle.std.proofs.Common.{◌≡◌, ◌⊎◌, ◌&&◌, ◌++◌, ◌+◌, ◌==◌, ◌||◌, ◌∷◌, inl, inr, ap, append-nil, arith, refl, subst, sym, ◌∙◌, Bool, true, false, List, [], None, Option, Some, ℕ, if◌then◌else◌, is_none, is_some, length, map, nat_le, not, option_to_list, pred, slice_get, suc, zero}
use Rattle.std.proofs.lemmas.Bool.{eqb-false, eqb-true}
use Rattle.std.proofs.lemmas.List.{length-set}
use Rattle.std.specs.Option.{option_map, option_map_or, option_or}
use Rattle.std.specs.Prelude.{option_and_then}
use Rattle.attempt_ledger.specs.declared.ledger.LinkSeen.{LinkSeen}
use Rattle.channel_actions.proofs.Settles.{follows_by}
use Rattle.channel_actions.proofs.Does.{does_on, none_on}
use Rattle.channel_actions.proofs.Gone.{all_numbered}
use Rattle.channel_actions.specs.Agrees.{Agrees}
use Rattle.channel_actions.specs.Quiescent.{IsAt, IsQuiescent}
use Rattle.channel_actions.specs.Columns.{links_noted}
use Rattle.channel_actions.specs.Links.{HasLink, SeesLinks}
use Rattle.channel_core.proofs.BookLaws.{number_changed, number_other}
use Rattle.channel_core.proofs.Resting.{changed_length}
use Rattle.channel_core.specs.States.{StateSeen}
use Rattle.channel_core.specs.Tables.{marked_dead}
use Rattle.channel_core.specs.declared.state.links.LinkSlot.{LinkSlot}
use Rattle.channel_net.specs.Lists.{link_of}
use Rattle.channel_net.specs.Steps.{NetLeft, NetSeen, clock_round, clock_rounds, clocked_at, left}
use Rattle.grpc_base.specs.declared.event.Conn.{Conn}
use Rattle.grpc_base.specs.declared.event.Conn.TheVariants as conn
use Rattle.channel_actions.specs.KeptSessions.Kept.{IsKept, came_up, is_sound_sub}
use Rattle.channel_actions.specs.KeptSessions.Laws.{KeptAlong}
use Rattle.lb_policy.specs.Table.{is_ready}
use Rattle.ledger_stamps.specs.Steps.{changed_at, gone_link}
use Rattle.channel_actions.specs.LinkFrames.Alike.{SeesNoDifference}
use Rattle.channel_actions.specs.LinkFrames.Laws.{LinksStay}
use Rattle.net_actions.proofs.Subs.{Both, both_at}
use Rattle.net_actions.specs.Laws.{ClockChanges, EndsBackoff, TimesOut}
use Rattle.net_actions.specs.Sees.{IsShaped, Sees}
use Rattle.attempt_cases.proofs.NetSettlings.Limits.{slots_after, slots_more, stamps_after, stamps_more, wanting}
use Rattle.attempt_cases.proofs.NetSettlings.Overdue.{fails, gives_up, none_still, some_still, timed_none, timed_some}
use Rattle.attempt_cases.proofs.NetSettlings.Unlinked.{joined_after, link_if, same_links, subs_after}
use Rattle.attempt_cases.proofs.NetSettlings.Stamped.{map_stamped, stamp_over}
use Rattle.channel_actions.specs.PrefacedLinks.Joined.{PrefacedLinksAreJoined}
use Rattle.attempt_cases.proofs.NetSteps.Alike.{links_see_no_difference, still, links_without_difference_agree}
use Rattle.channel_actions.proofs.BoardActions.Boards.{boards_leave_rest, one_boarded, subbed}
use Rattle.channel_actions.proofs.BoardActions.Quiescent.{of_order}
use Rattle.attempt_cases.proofs.NetSteps.Clocks.{entry_goes_on, now_goes_on}
use Rattle.attempt_cases.proofs.NetSteps.Subbed.{noted_gone_same, noted_same, subbed_generations, subbed_links, subbed_shut, subbed_subs}
use Rattle.channel_actions.specs.BoardActions.Boards.{ActionsAreOfBoard, IsBoarded, is_of_board}
use Rattle.attempt_cases.specs.NetSteps.Steps.{netted}
use Rattle.session_actions.specs.Actions.{after, after_if, config_action, first_action, following, following_in, of_calls, of_links, of_policies, of_settling, of_stage}
use Rattle.session_actions.specs.Closing.{noted_gone}
use Rattle.session_actions.specs.Entries.{entry, now}
use Rattle.session_actions.specs.Laws.{posted_in}
use Rattle.session_actions.specs.Links.{link_over, wants_resolution}
use Rattle.session_actions.specs.Making.{next_due_attempt}
use Rattle.session_actions.specs.Policies.{is_failure, is_shutdown, next_of_pass, next_of_queue, next_take_over}
use Rattle.session_actions.specs.Refusals.{is_gone, is_shutdown_sub}
use Rattle.session_actions.specs.Sessions.{Does, IsNext, link_seen}
use Rattle.session_actions.specs.Subchannels.{clock_action, connect_timed_out, in_state, is_connecting, is_rested, is_too_late, next_connected, next_of_clock, with_sub}
use Rattle.session_actions.specs.Words.{changed, changed_if, first_of, holds, numbered}
use Rattle.session_actions.specs.declared.action.Action.{Action}
use Rattle.session_actions.specs.declared.action.Action.TheVariants as action
use Rattle.session_actions.specs.declared.entry.OpenEntry.{OpenEntry}
use Rattle.session_actions.specs.declared.entry.Stage.TheVariants as stage
use Rattle.session_actions.specs.declared.link.Link.{Link}
use Rattle.session_actions.specs.declared.link.LinkOver.TheVariants as over
use Rattle.session_actions.specs.declared.policy.PolicyUse.{PolicyUse}
use Rattle.session_actions.specs.declared.seen.Seen.{Seen}
use Rattle.session_actions.specs.declared.subchannel.Subchannel.{Subchannel}
use Rattle.session_order.proofs.Boards.{connecting_live, with_sub_current}
use Rattle.session_order.proofs.Changed.{changed_away, changed_map}
use Rattle.session_order.specs.Quiescent as order
use Rattle.session_order.specs.Laws.{BoardsStir, QuiescenceIsExact}
use Rattle.subchannel.specs.Boards.{first_number}
use Rattle.subchannel.specs.Records.{is_due}

-- a point of the rounds: from the one at their begin the session came here by actions of subchannels and policies, and net and links agree
pub record IsAmid (x : StateSeen) (o : OpenEntry) (s : Seen) (l : NetLeft) (t : Seen) : Type 0 where
  pub actions : List Action
  pub does : Does actions s t
  pub board : ActionsAreOfBoard actions
  pub posts : posted_in actions ≡ []
  pub current : t.current ≡ Some o
  pub still : order.IsQuiescent o t
  pub sees : Sees t l.net
  pub generations : map (λ (g : PolicyUse). g.generation) t.policies ≡ map (λ (g : PolicyUse). g.generation) s.policies
  pub joined : PrefacedLinksAreJoined t
  pub links : SeesLinks (netted l.net x.drawn (wanting l.gone x.resolver) (slots_after l.gone x.links) x.book.ledger.generations (stamps_after x.book.ledger.entry l.gone x.book.ledger.links) x) t
  pub noted : links_noted t ≡ stamps_after x.book.ledger.entry l.gone x.book.ledger.links

-- the settling's first line
settling_gives : (o : OpenEntry) (t : Seen) (a : Action) → next_of_clock t ≡ Some a → of_settling o t ≡ Some a
settling_gives o t a e =
    ap (λ (d : Option Action). first_action (d ∷ next_take_over t ∷ next_connected t ∷ first_of (config_action t) t.calls ∷ next_of_pass o t ∷ next_due_attempt t ∷ next_of_queue t ∷ Some action.EntryCloses ∷ [])) e

pub clock_next : (exact : QuiescenceIsExact) (o : OpenEntry) (t : Seen) (a : Action) → t.current ≡ Some o → o.stage ≡ stage.Settling → order.IsQuiescent o t
    → next_of_clock t ≡ Some a → following t ≡ Some a
clock_next exact o t a current at still e =
    let quiescent : IsQuiescent o t = of_order exact o t still in
    ap (option_and_then (following_in t)) current
    ∙ follows_by (of_calls o t) (of_links o t) (of_policies o t) (of_stage o t o.stage) a quiescent.calls quiescent.links quiescent.policies (ap (of_stage o t) at ∙ settling_gives o t a e)

-- the one that gives it
pub record HasSub (t : Seen) (a : Action) : Type 0 where
  pub place : ℕ
  pub one : Subchannel
  pub there : slice_get t.subs place ≡ Some one
  pub acts : clock_action t one ≡ Some a

first_step : (f : Subchannel → Option Action) (a : Action) (b : Subchannel) (xs : List Subchannel) (p : Option Action) → f b ≡ p → option_or p (first_of f xs) ≡ Some a
    → (first_of f xs ≡ Some a → (i : ℕ) × ((c : Subchannel) × ((slice_get xs i ≡ Some c) × (f c ≡ Some a))))
    → (i : ℕ) × ((c : Subchannel) × ((slice_get (b ∷ xs) i ≡ Some c) × (f c ≡ Some a)))
first_step f a b xs None is e rest = let r = rest e in (suc r.0, (r.1.0, (r.1.1.0, r.1.1.1)))
first_step f a b xs (Some d) is e rest = (zero, (b, (refl, is ∙ e)))

first_in : (f : Subchannel → Option Action) (a : Action) (xs : List Subchannel) → first_of f xs ≡ Some a → (i : ℕ) × ((b : Subchannel) × ((slice_get xs i ≡ Some b) × (f b ≡ Some a)))
first_in f a [] e = absurd (cc)
first_in f a (b ∷ xs) e = first_step f a b xs (f b) refl e (first_in f a xs)

has_sub : (t : Seen) (a : Action) → next_of_clock t ≡ Some a → HasSub t a
has_sub t a e = let f = first_in (clock_action t) a t.subs e in record { place = f.0; one = f.1.0; there = f.1.1.0; acts = f.1.1.1 }

rested_by : (late rested : Bool) (k sub : ℕ)
    → (if late then Some (action.ConnectTimesOut k) else if rested then Some (action.BackoffEnds k) else None) ≡ Some (action.BackoffEnds sub) → (rested ≡ true) × (k ≡ sub)
rested_by true rested k sub e = absurd (cc)
rested_by false true k sub e = (refl, (cc))
rested_by false false k sub e = absurd (cc)

late_by : (late rested : Bool) (k sub : ℕ)
    → (if late then Some (action.ConnectTimesOut k) else if rested then Some (action.BackoffEnds k) else None) ≡ Some (action.ConnectTimesOut sub) → (late ≡ true) × (k ≡ sub)
late_by true rested k sub e = (refl, (cc))
late_by false true k sub e = absurd (cc)
late_by false false k sub e = absurd (cc)

pub first_true : (a b : Bool) → (a && b) ≡ true → a ≡ true
first_true true b e = refl
first_true false b e = absurd (cc)

shaped_failure : (c : Conn) (until : Option ℕ) (linked : Bool) → IsShaped c until linked → is_failure c ≡ true → linked ≡ false
shaped_failure conn.Failure until linked h e = h.1
shaped_failure conn.Idle until linked h e = absurd (cc)
shaped_failure conn.Connecting until linked h e = absurd (cc)
shaped_failure conn.Ready until linked h e = absurd (cc)
shaped_failure conn.Shutdown until linked h e = absurd (cc)

pub failure_live : (c : Conn) → is_failure c ≡ true → is_shutdown c ≡ false
failure_live conn.Failure e = refl
failure_live conn.Idle e = refl
failure_live conn.Connecting e = refl
failure_live conn.Ready e = refl
failure_live conn.Shutdown e = absurd (cc)

pub no_link : (o : Option ℕ) (b : Bool) → is_some o ≡ b → b ≡ false → o ≡ None
no_link None b e f = refl
no_link (Some k) b e f = absurd (cc)

none_gone : (gone : List ℕ) (o : Option ℕ) → o ≡ None → gone ++ option_to_list o ≡ gone
none_gone gone o e = ap (λ (p : Option ℕ). gone ++ option_to_list p) e ∙ append-nil gone

came : (s : Seen) (o : Option ℕ) (b : Bool) (k : ℕ) → o ≡ Some k → option_map_or (came_up s) o b ≡ true → is_some (numbered s.links k) ≡ true
came s None b k e up = absurd (cc)
came s (Some n) b k e up = let one : n ≡ k = (cc) in sym (ap (came_up s) one) ∙ up

the_link : (o : Option Link) → is_some o ≡ true → (l : Link) × (o ≡ Some l)
the_link None e = absurd (cc)
the_link (Some l) e = (l, refl)

long_if : (f : Link → Link) (n : ℕ) (xs : List Link) (o : Option Link) → length (changed_if f n xs o) ≡ length xs
long_if f n xs None = refl
long_if f n xs (Some x) = length-set xs (pred n) (f x)

pub board_on : (these those : List Action) → ActionsAreOfBoard these → ActionsAreOfBoard those → ActionsAreOfBoard (these ++ those)
board_on [] those h k = k
board_on (a ∷ these) those h k = (h.0, board_on these those h.1 k)

module _ (exact : QuiescenceIsExact) (stir : BoardsStir) (clocks : ClockChanges) (kept_along : KeptAlong) (links_stay : LinksStay)
    (x : StateSeen) (o : OpenEntry) (s : Seen) (h : Agrees x s) (at : IsAt stage.Settling o s) where
  abbrev E : ℕ
  E = x.book.ledger.entry

  abbrev z : NetLeft → StateSeen
  z l = netted l.net x.drawn (wanting l.gone x.resolver) (slots_after l.gone x.links) x.book.ledger.generations (stamps_after E l.gone x.book.ledger.links) x

  module _ (l : NetLeft) (t : Seen) (m : IsAmid x o s l t) where
    boarded : IsBoarded s t
    boarded = boards_leave_rest m.actions s t m.board m.does

    kept : IsKept t
    kept = kept_along m.actions s t h.kept m.does

    entry_is : entry t ≡ E
    entry_is = entry_goes_on s t o o boarded at.current m.current ∙ h.clock.entry_is

    now_is : now t ≡ x.book.moment
    now_is = now_goes_on s t o o boarded at.current m.current refl ∙ h.clock.moment

    -- one action more
    module _ (a : Action) (board : is_of_board a ≡ true) (posts : posted_in (a ∷ []) ≡ []) (next : IsNext a t) (u : Seen) (does : after a t ≡ u)
        (current : u.current ≡ Some o) (shut : (k : ℕ) → is_shutdown_sub u k ≡ is_shutdown_sub t k) where
      one_on : IsBoarded t u
      one_on = subst (IsBoarded t) does (one_boarded t a board)

      kept_on : IsKept u
      kept_on = kept_along (a ∷ []) t u kept (next, sym does)

      entry_on : entry u ≡ entry t
      entry_on = entry_goes_on t u o o one_on m.current current

      further : (k : NetLeft) → order.IsQuiescent o u → Sees u k.net
          → map (λ (g : PolicyUse). g.generation) u.policies ≡ map (λ (g : PolicyUse). g.generation) t.policies → PrefacedLinksAreJoined u
          → SeesLinks (z k) u → links_noted u ≡ stamps_after E k.gone x.book.ledger.links → IsAmid x o s k u
      further k quiescent sees generations joined links noted = record {
        actions = m.actions ++ a ∷ [];
        does = does_on m.actions (a ∷ []) s t u m.does (next, sym does);
        board = board_on m.actions (a ∷ []) m.board (board, tt);
        posts = none_on m.actions (a ∷ []) m.posts posts;
        current = current;
        still = quiescent;
        sees = sees;
        generations = generations ∙ m.generations;
        joined = joined;
        links = links;
        noted = noted;
      }

      -- no link changed
      unlinked : (n : NetSeen) → u.links ≡ t.links → order.IsQuiescent o u → Sees u n
          → map (λ (g : PolicyUse). g.generation) u.policies ≡ map (λ (g : PolicyUse). g.generation) t.policies → PrefacedLinksAreJoined u → IsAmid x o s (left n l.gone) u
      unlinked n same quiescent sees generations joined =
          further (left n l.gone) quiescent sees generations joined
          (links_without_difference_agree links_stay (z l) (z (left n l.gone)) t u kept kept_on one_on same refl m.links)
          (noted_same t u one_on entry_on shut same ∙ m.noted)

    -- the subchannel that the clock changes
    module _ (sub : ℕ) (first : first_number (is_due x.book.moment) l.net.board ≡ Some sub) where
      abbrev r : NetLeft
      r = clock_round x.book.moment l

      gone_is : r.gone ≡ l.gone ++ option_to_list (link_of l.net.links sub)
      gone_is = ap (λ (p : Option ℕ). (clocked_at x.book.moment p l).gone) first

      round_is : (gone : List ℕ) → r.gone ≡ gone → r ≡ left r.net gone
      round_is gone e = ap (λ (g : List ℕ). left r.net g) e

      -- a backoff is over
      rests : EndsBackoff sub t l.net → (u : Seen) × IsAmid x o s r u
      rests ends =
          let a : Action = action.BackoffEnds sub in
          let q = has_sub t a ends.0 in
          let b : Subchannel = q.one in
          let two = rested_by (is_too_late t b) (is_rested t b) b.number sub q.acts in
          let both : Both b l.net.board q.place (1 + q.place) l.net.links = both_at 1 t.subs l.net.board l.net.links q.place b m.sees.subs_are q.there in
          let number : sub ≡ suc q.place = sym two.1 ∙ both.is.number_is ∙ (let up : 1 + q.place ≡ suc q.place = omega arith in up) in
          let there : numbered t.subs sub ≡ Some b = ap (numbered t.subs) number ∙ q.there in
          let fails_now : is_failure b.state ≡ true = first_true (is_failure b.state) (holds (λ (w : ℕ). nat_le w (now t)) b.again) two.0 in
          let awaiting_config : both.r.linked ≡ false = shaped_failure both.r.state both.r.until both.r.linked both.is.shape (sym (ap is_failure both.is.state) ∙ fails_now) in
          let free : link_of l.net.links sub ≡ None
          = ap (link_of l.net.links) (sym two.1 ∙ both.is.number_is) ∙ no_link (link_of l.net.links (1 + q.place)) both.r.linked both.is.linked awaiting_config in
          let u : Seen = with_sub (in_state conn.Idle) sub t in
          let does : after a t ≡ u = ap (λ (c : Option OpenEntry). after_if c a t) m.current in
          let current : u.current ≡ Some o = with_sub_current t sub (in_state conn.Idle) ∙ m.current in
          let next : following t ≡ Some a = clock_next exact o t a m.current at.stage_is m.still ends.0 in
          let live : is_shutdown b.state ≡ false = failure_live b.state fails_now in
          let shut : (k : ℕ) → is_shutdown_sub u k ≡ is_shutdown_sub t k = subbed_shut (in_state conn.Idle) sub t b there (sym live) in
          let quiescent : order.IsQuiescent o u = λ line. stir.rested sub o t m.current (b, there, fails_now) line o current refl (m.still line) in
          let sees : Sees u r.net = subst (λ (w : ℕ). Sees u (clock_round w l).net) now_is (ends.1 l.gone) in
          let joined : PrefacedLinksAreJoined u
          = joined_after t u m.joined
          (λ n k c here has. subs_after (in_state conn.Idle) (λ d i e. e) sub t b there n k c (ap (λ (xs : List Subchannel). numbered xs n) (sym (subbed_subs (in_state conn.Idle) sub t)) ∙ here) has)
          (λ n w here. same_links t n w (ap (λ (ls : List Link). numbered ls n) (sym (subbed_links (in_state conn.Idle) sub t)) ∙ here))
          (ap (λ (v : Seen). v.attempts) (subbed (in_state conn.Idle) sub t)) in (
            u,
            subst (λ (k : NetLeft). IsAmid x o s k u) (sym (round_is l.gone (gone_is ∙ none_gone l.gone (link_of l.net.links sub) free)))
                (unlinked a refl refl next u does current shut r.net (subbed_links (in_state conn.Idle) sub t) quiescent sees (subbed_generations (in_state conn.Idle) sub t) joined),
          )

      -- a dial took too long
      module _ (out : TimesOut sub t l.net) where
        abbrev a : Action
        a = action.ConnectTimesOut sub

        q : HasSub t a
        q = has_sub t a out.0

        abbrev b : Subchannel
        b = q.one

        two : (is_too_late t b ≡ true) × (b.number ≡ sub)
        two = late_by (is_too_late t b) (is_rested t b) b.number sub q.acts

        both : Both b l.net.board q.place (1 + q.place) l.net.links
        both = both_at 1 t.subs l.net.board l.net.links q.place b m.sees.subs_are q.there

        there : numbered t.subs sub ≡ Some b
        there = ap (numbered t.subs) (sym two.1 ∙ both.is.number_is ∙ (let up : 1 + q.place ≡ suc q.place = omega arith in up)) ∙ q.there

        connects : is_connecting b.state ≡ true
        connects = first_true (is_connecting b.state) (holds (λ (w : ℕ). nat_le w (now t)) b.until) two.0

        own : link_of l.net.links sub ≡ b.link
        own = ap (link_of l.net.links) (sym two.1 ∙ both.is.number_is) ∙ sym both.is.link_is

        next : following t ≡ Some a
        next = clock_next exact o t a m.current at.stage_is m.still out.0

        abbrev v : Seen
        v = with_sub fails sub (wants_resolution t)

        v_current : v.current ≡ Some o
        v_current = with_sub_current (wants_resolution t) sub fails ∙ m.current

        shut : (k : ℕ) → is_shutdown_sub v k ≡ is_shutdown_sub t k
        shut = subbed_shut fails sub (wants_resolution t) b there (sym (connecting_live b.state connects))

        generations : map (λ (g : PolicyUse). g.generation) v.policies ≡ map (λ (g : PolicyUse). g.generation) t.policies
        generations = subbed_generations fails sub (wants_resolution t)

        v_links : v.links ≡ t.links
        v_links = subbed_links fails sub (wants_resolution t)

        does : after a t ≡ connect_timed_out sub t
        does = ap (λ (c : Option OpenEntry). after_if c a t) m.current

        sees : Sees (connect_timed_out sub t) r.net
        sees = subst (λ (w : ℕ). Sees (connect_timed_out sub t) (clock_round w l).net) now_is (out.1 l.gone)

        v_subs : (n k : ℕ) (c : Subchannel) → numbered v.subs n ≡ Some c → c.link ≡ Some k → (d : Subchannel) × ((numbered t.subs n ≡ Some d) × (d.link ≡ Some k))
        v_subs n k c here has =
            subs_after fails (λ d i e. absurd (let bad : None ≡ Some i = e in (cc))) sub t b there n k c
            (ap (λ (xs : List Subchannel). numbered xs n) (sym (subbed_subs fails sub (wants_resolution t))) ∙ here) has

        v_rows : v.attempts ≡ t.attempts
        v_rows = ap (λ (w : Seen). w.attempts) (subbed fails sub (wants_resolution t))

        undialled : b.link ≡ None → (u : Seen) × IsAmid x o s r u
        undialled none =
            let same : connect_timed_out sub t ≡ v = timed_none t o sub b there connects m.joined m.still none in
            let quiescent : order.IsQuiescent o v = subst (order.IsQuiescent o) same (none_still t o sub b there connects m.joined m.still none) in
            let joined : PrefacedLinksAreJoined v
            = joined_after t v m.joined v_subs (λ n w here. same_links t n w (ap (λ (ls : List Link). numbered ls n) (sym v_links) ∙ here)) v_rows in (
              v,
              subst (λ (k : NetLeft). IsAmid x o s k v) (sym (round_is l.gone (gone_is ∙ none_gone l.gone (link_of l.net.links sub) (own ∙ none))))
                  (unlinked a refl refl next v (does ∙ same) v_current shut r.net v_links quiescent (subst (λ (w : Seen). Sees w r.net) same sees) generations joined),
            )

        module _ (k : ℕ) (up : b.link ≡ Some k) where
          abbrev u : Seen
          u = link_over over.TimedOut k v

          same : connect_timed_out sub t ≡ u
          same = timed_some t o sub b there connects m.joined m.still k up

          here : (w : Link) × (numbered t.links k ≡ Some w)
          here = the_link (numbered t.links k) (came t b.link (not (is_ready b.state)) k up (all_numbered (is_sound_sub t) t.subs sub b there kept.boards))

          quiescent : order.IsQuiescent o u
          quiescent = subst (order.IsQuiescent o) same (some_still t o sub b there connects m.joined m.still k up here.0 here.1)

          u_links : u.links ≡ changed gives_up k t.links
          u_links = ap (changed gives_up k) v_links

          joined : PrefacedLinksAreJoined u
          joined =
              joined_after t u m.joined v_subs
              (λ n w is. link_if k t n w (n == k) refl (ap (λ (ls : List Link). numbered ls n) (sym u_links) ∙ is)) v_rows

          gone_now : r.gone ≡ l.gone ++ k ∷ []
          gone_now = gone_is ∙ ap (λ (p : Option ℕ). l.gone ++ option_to_list p) (own ∙ up)

          on : IsBoarded t u
          on = one_on a refl refl next u (does ∙ same) v_current shut

          later : IsKept u
          later = kept_on a refl refl next u (does ∙ same) v_current shut

          entry_same : entry u ≡ entry t
          entry_same = entry_on a refl refl next u (does ∙ same) v_current shut

          abbrev touched : ℕ → Bool
          touched n = k == n

          abbrev f : NetLeft
          f = left r.net (l.gone ++ k ∷ [])

          slots : (n : ℕ) → touched n ≡ false → numbered (slots_after (l.gone ++ k ∷ []) x.links) n ≡ numbered (slots_after l.gone x.links) n
          slots n off =
              ap (λ (ls : List LinkSlot). numbered ls n) (slots_more l.gone k x.links)
              ∙ number_other marked_dead (slots_after l.gone x.links) k n (λ e. eqb-false k n off (sym e))

          no_difference : SeesNoDifference touched t u
          no_difference =
              links_see_no_difference touched t u on
              (λ n w off is.
              (w, sym (ap (λ (ls : List Link). numbered ls n) u_links ∙ changed_away gives_up k n t.links (λ e. eqb-false k n off (sym e))) ∙ is, still w))

          long : length u.links ≡ length (slots_after (l.gone ++ k ∷ []) x.links)
          long =
              ap (λ (ls : List Link). length ls) u_links ∙ long_if gives_up k t.links (numbered t.links k) ∙ m.links.count
              ∙ sym (ap (λ (ls : List LinkSlot). length ls) (slots_more l.gone k x.links) ∙ changed_length marked_dead (slots_after l.gone x.links) k)

          has_it : (w : Link) → numbered u.links k ≡ Some w → HasLink (z f) u w k
          has_it w is =
              let old = m.links.each k here.0 here.1 in
              let now_there : numbered u.links k ≡ Some (gives_up here.0)
              = ap (λ (ls : List Link). numbered ls k) u_links ∙ changed_map gives_up k t.links ∙ ap (option_map gives_up) here.1 in
              let both_links : Some w ≡ Some (gives_up here.0) = sym is ∙ now_there in
              let one : w ≡ gives_up here.0 = (cc) in
              subst (λ (c : Link). HasLink (z f) u c k) (sym one) (record {
                slot = marked_dead old.slot;
                there = ap (λ (ls : List LinkSlot). numbered ls k) (slots_more l.gone k x.links) ∙ number_changed marked_dead (slots_after l.gone x.links) k ∙ ap (option_map marked_dead) old.there;
                sees = record { over = refl; retiring = old.sees.retiring; going = λ goes. absurd (let bad : Some over.TimedOut ≡ None = goes in (cc)) };
              })

          sees_links : SeesLinks (z f) u
          sees_links =
              links_stay touched (z l) (z f) t u m.links kept later slots no_difference long
              (λ n w is has. let number : k ≡ n = eqb-true k n is in
              subst (HasLink (z f) u w) number (has_it w (ap (numbered u.links) number ∙ has)))

          goes_off : (w : Link) → link_seen (noted_gone u (gives_up w)) ≡ gone_link E (link_seen (noted_gone t w))
          goes_off w =
              ap (λ (n : ℕ). link_seen (if is_none w.gone && true then record w { over = Some over.TimedOut; gone = Some n } else record w { over = Some over.TimedOut })) (entry_same ∙ entry_is)
              ∙ stamp_over over.TimedOut w E (is_gone w t)
              ∙ ap (λ (n : ℕ). gone_link E (link_seen (if is_none w.gone && is_gone w t then record w { gone = Some n } else w))) (sym entry_is)

          noted : links_noted u ≡ stamps_after E (l.gone ++ k ∷ []) x.book.ledger.links
          noted =
              ap (map (λ (w : Link). link_seen (noted_gone u w))) u_links
              ∙ map_stamped (λ (w : Link). link_seen (noted_gone u w)) (λ (w : Link). link_seen (noted_gone t w)) gives_up (gone_link E)
              (λ w. ap link_seen (noted_gone_same t u on entry_same shut w)) goes_off k t.links
              ∙ ap (λ (ls : List LinkSeen). changed_at (gone_link E) ls k) m.noted ∙ sym (stamps_more E l.gone k x.book.ledger.links)

          given : (w : Seen) × IsAmid x o s r w
          given = (
            u,
            subst (λ (c : NetLeft). IsAmid x o s c u) (sym (round_is (l.gone ++ k ∷ []) gone_now))
                (further a refl refl next u (does ∙ same) v_current shut f quiescent (subst (λ (w : Seen). Sees w r.net) same sees) generations joined sees_links noted),
          )

        times_by : (p : Option ℕ) → b.link ≡ p → (u : Seen) × IsAmid x o s r u
        times_by None e = undialled e
        times_by (Some k) e = given k e

        times : (u : Seen) × IsAmid x o s r u
        times = times_by b.link refl

      changes_by : TimesOut sub t l.net ⊎ EndsBackoff sub t l.net → (u : Seen) × IsAmid x o s r u
      changes_by (inl out) = times out
      changes_by (inr ends) = rests ends

    round_by : (p : Option ℕ) → first_number (is_due x.book.moment) l.net.board ≡ p → (u : Seen) × IsAmid x o s (clock_round x.book.moment l) u
    round_by None e =
        (t, subst (λ (k : NetLeft). IsAmid x o s k t) (sym (ap (λ (p : Option ℕ). clocked_at x.book.moment p l) e)) m)
    round_by (Some sub) e =
        changes_by sub e (clocks sub t l.net m.sees (ap (λ (w : ℕ). first_number (is_due w) l.net.board) now_is ∙ e))

  pub rounds_on : (k : ℕ) (l : NetLeft) (t : Seen) → IsAmid x o s l t → (u : Seen) × IsAmid x o s (clock_rounds x.book.moment k l) u
  rounds_on zero l t m = (t, m)
  rounds_on (suc k) l t m =
      let one = round_by l t m (first_number (is_due x.book.moment) l.net.board) refl in
      rounds_on k (clock_round x.book.moment l) one.0 one.1
