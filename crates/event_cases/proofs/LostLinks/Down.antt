-- The link of a subchannel is over, or takes no further attempt: the subchannel, if it has the link still, goes down next, whatever else changed of the link.
use Rattle.std.proofs.Common.{◌≡◌, ◌&&◌, ◌+◌, ◌||◌, ◌==◌, ◌∷◌, ap, arith, refl, subst, sym, ◌∙◌, Bool, true, false, List, [], Option, None, Some, ℕ, zero, suc, if◌then◌else◌, is_some, map, option_and_then}
use Rattle.std.proofs.lemmas.Bool.{eqb-false, eqb-true, or_parts}
use Rattle.std.specs.List.{list_all}
use Rattle.std.specs.Option.{option_map_or}
use Rattle.channel_actions.proofs.BoardActions.Boards.{one_boarded}
use Rattle.channel_actions.proofs.Gone.{all_numbered}
use Rattle.channel_actions.proofs.Stamps.{counted_at}
use Rattle.channel_actions.specs.BoardActions.Boards.{IsBoarded}
use Rattle.channel_actions.specs.KeptCalls.Early.{is_linked_up}
use Rattle.call_cases.specs.OtherCalls.Others.{ActionsAreOfCall}
use Rattle.channel_actions.specs.OwnLinks.Own.{LinksAreOwn}
use Rattle.event_cases.proofs.LostLinks.Stirred.{before_link, down_live, first_only, linked_by, live_now}
use Rattle.attempt_cases.proofs.NetSteps.Stepped.{of_call}
use Rattle.attempt_cases.proofs.NetSteps.Subbed.{subbed_generations, subbed_links, subbed_shut, subbed_subs}
use Rattle.event_cases.proofs.PassedAtOnce.Acts.{passed_self, sub_changed}
use Rattle.event_cases.specs.PassedAtOnce.Passed.{IsPassedStill}
use Rattle.channel_core.specs.Books.{link_at}
use Rattle.channel_core.specs.States.{StateSeen}
use Rattle.channel_core.specs.Steps.{sub_of}
use Rattle.channel_net.specs.Lists.{link_of}
use Rattle.channel_net.specs.Steps.{net_down, net_lost}
use Rattle.grpc_base.specs.declared.event.Conn.TheVariants as conn
use Rattle.lb_policy.specs.Table.{is_ready}
use Rattle.net_actions.proofs.Dialling.{links_go}
use Rattle.net_actions.proofs.Subs.{Both, both_at}
use Rattle.net_actions.specs.Sees.{Sees}
use Rattle.session_actions.specs.Actions.{after, after_if, following}
use Rattle.session_actions.specs.Laws.{posted_in}
use Rattle.session_actions.specs.Links.{has_settings}
use Rattle.session_actions.specs.Sessions.{Does}
use Rattle.session_actions.specs.Subchannels.{gone_down, is_connecting, is_going_down, is_to_be_ready, is_to_go_down, link_action, link_of_sub, next_of_links, with_sub}
use Rattle.session_actions.specs.Words.{changed, holds, numbered}
use Rattle.session_actions.specs.declared.action.Action.{Action}
use Rattle.session_actions.specs.declared.action.Action.TheVariants as action
use Rattle.session_actions.specs.declared.entry.OpenEntry.{OpenEntry}
use Rattle.session_actions.specs.declared.link.Link.{Link}
use Rattle.session_actions.specs.declared.policy.PolicyUse.{PolicyUse}
use Rattle.session_actions.specs.declared.seen.Seen.{Seen}
use Rattle.session_actions.specs.declared.subchannel.Subchannel.{Subchannel}
use Rattle.session_order.proofs.Changed.{changed_away, changed_here, none_from, passes_not}
use Rattle.session_order.proofs.Turns.{down_leaves}
use Rattle.session_order.specs.Quiescent as order
use Rattle.session_order.specs.Quiescent.{IsStill, is_link_new}
use Rattle.session_order.specs.Lines.{is_line}
use Rattle.session_order.specs.declared.line.Line.{Line}
use Rattle.session_order.specs.declared.line.Line.TheVariants as line
use Rattle.channel_actions.specs.KeptSessions.Kept.{IsKept}
use Rattle.session_actions.specs.Events.{is_loss}
use Rattle.session_actions.specs.Refusals.{is_shutdown_sub}
use Rattle.session_order.proofs.Boards.{with_sub_current}
use Rattle.session_order.proofs.Quiescence.{first_line_gives}

-- the session with these links, at a point at which nothing follows at once but that, and ends of attempts
pub record GoesDown (ls : List Link) (wants : Bool) (now : Option OpenEntry) (link : ℕ) (x : StateSeen) (o p : OpenEntry) (s : Seen) : Type 0 where
  pub quiescent : order.IsQuiescent o s
  pub own : LinksAreOwn s
  pub boards : list_all is_linked_up s.subs ≡ true
  pub kept_s : IsKept s
  pub net : Sees s x.net
  pub link_ : Link
  pub there : numbered s.links link ≡ Some link_
  pub sub_is : sub_of (link_at x.book link) ≡ link_.sub
  pub m : Link
  pub there_m : numbered ls link ≡ Some m
  pub away : (k : ℕ) → (k ≡ link → ⊥) → numbered ls k ≡ numbered s.links k
  pub goes_down : is_going_down m ≡ true
  pub settings : has_settings m ≡ has_settings link_
  pub now_is : now ≡ Some p
  pub still : (k : Line) → is_line k line.WireEnd ≡ false → is_line k line.Link ≡ false → IsStill k p (record s { links = ls; wants = wants; current = now })
  pub kept : IsKept (record s { links = ls; wants = wants; current = now })

-- what follows from the loss, up to the ends of attempts
pub record IsDown (link : ℕ) (x : StateSeen) (p : OpenEntry) (s v : Seen) : Type 0 where
  pub actions : List Action
  pub seen : Seen
  pub does : Does actions v seen
  pub posts : posted_in actions ≡ []
  pub boarded : IsBoarded v seen
  pub of : ActionsAreOfCall 0 actions v
  pub current : seen.current ≡ Some p
  pub links : seen.links ≡ v.links
  pub generations : map (λ (g : PolicyUse). g.generation) seen.policies ≡ map (λ (g : PolicyUse). g.generation) s.policies
  pub shut : (k : ℕ) → is_shutdown_sub seen k ≡ is_shutdown_sub s k
  pub net : Sees seen (net_down (sub_of (link_at x.book link)) link x.net)
  pub passed : IsPassedStill v seen
  pub still : (m : Line) → is_line m line.WireEnd ≡ false → IsStill m p seen

one_sub : (x : Option Subchannel) (a b : Subchannel) → x ≡ Some a → x ≡ Some b → a ≡ b
one_sub x a b e f = let both : Some a ≡ Some b = sym e ∙ f in (cc)

module _ (ls : List Link) (wants : Bool) (now : Option OpenEntry) (link : ℕ) (x : StateSeen) (o p : OpenEntry) (s : Seen) (g : GoesDown ls wants now link x o p s) where
  abbrev l : Link
  l = g.link_

  abbrev m : Link
  m = g.m

  abbrev pub v : Seen
  v = record s { links = ls; wants = wants; current = now }

  -- the subchannel for which the link came up
  pub its_sub : (b : Subchannel) × (numbered s.subs l.sub ≡ Some b)
  its_sub = some_sub (numbered s.subs l.sub) (all_numbered (λ (k : Link). is_some (numbered s.subs k.sub)) s.links link l g.there g.kept_s.dialled)
    where
      some_sub : (q : Option Subchannel) → is_some q ≡ true → (b : Subchannel) × (q ≡ Some b)
      some_sub None e = absurd (cc)
      some_sub (Some b) e = (b, refl)

  abbrev pub b : Subchannel
  b = its_sub.0

  -- no other has it
  others : (j : ℕ) (c : Subchannel) → numbered s.subs j ≡ Some c → (j ≡ l.sub → ⊥) → c.link ≡ Some link → ⊥
  others j c here other has = other (sym (g.own j link c l here has g.there))

  -- so what another has is as before
  same_by : (c : Subchannel) (q : Option ℕ) → c.link ≡ q → (q ≡ Some link → ⊥) → link_of_sub c v ≡ link_of_sub c s
  same_by c None has other =
      ap (option_and_then (numbered v.links)) has ∙ sym (ap (option_and_then (numbered s.links)) has)
  same_by c (Some k) has other =
      ap (option_and_then (numbered v.links)) has ∙ g.away k (λ e. other (ap (λ (z : ℕ). Some z) e)) ∙ sym (ap (option_and_then (numbered s.links)) has)

  new_same : (c : Subchannel) → (c.link ≡ Some link → ⊥) → is_link_new v c ≡ is_link_new s c
  new_same c other =
      ap (λ (q : Option Link). (is_connecting c.state && holds has_settings q) || holds is_going_down q) (same_by c c.link refl other)

  quiet_sub : (j : ℕ) (c : Subchannel) → numbered s.subs j ≡ Some c → is_link_new s c ≡ false
  quiet_sub j c here = passes_not (is_link_new s) s.subs j c (g.quiescent line.Link) here

  none_action : (u : Seen) (c : Subchannel) → is_link_new u c ≡ false → link_action u c ≡ None
  none_action u c e =
      let parts = or_parts (is_to_be_ready u c) (is_to_go_down u c) e in
      ap (λ (z : Bool). if z then Some (action.SettingsArrive c.number) else if is_to_go_down u c then Some (action.LinkDown c.number) else None) parts.0
      ∙ ap (λ (z : Bool). if z then Some (action.LinkDown c.number) else None) parts.1

  -- it has the link no more
  module _ (has_not : b.link ≡ Some link → ⊥) where
    none_has : (j : ℕ) (c : Subchannel) → numbered s.subs j ≡ Some c → c.link ≡ Some link → ⊥
    none_has j c here has = none_by (j == l.sub) refl
      where
        none_by : (z : Bool) → (j == l.sub) ≡ z → ⊥
        none_by true e = has_not (ap (λ (d : Subchannel). d.link) (one_sub (numbered s.subs j) b c (ap (numbered s.subs) (eqb-true j l.sub e) ∙ its_sub.1) here) ∙ has)
        none_by false e = others j c here (eqb-false j l.sub e) has

    link_still : IsStill line.Link p v
    link_still = none_from (is_link_new v) s.subs (λ j c here. new_same c (none_has j c here) ∙ quiet_sub j c here)

    still_all : (m : Line) (z : Bool) → is_line m line.WireEnd ≡ false → is_line m line.Link ≡ z → IsStill m p v
    still_all m false e f = g.still m e f
    still_all line.Link true e f = link_still
    still_all line.Cut true e f = absurd (cc)
    still_all line.Transparent true e f = absurd (cc)
    still_all line.Inherited true e f = absurd (cc)
    still_all line.Row true e f = absurd (cc)
    still_all line.Final true e f = absurd (cc)
    still_all line.Cancelled true e f = absurd (cc)
    still_all line.Request true e f = absurd (cc)
    still_all line.Overflow true e f = absurd (cc)
    still_all line.Head true e f = absurd (cc)
    still_all line.Response true e f = absurd (cc)
    still_all line.Pick true e f = absurd (cc)
    still_all line.WireEnd true e f = absurd (cc)
    still_all line.Reset true e f = absurd (cc)
    still_all line.Shut true e f = absurd (cc)
    still_all line.Retire true e f = absurd (cc)
    still_all line.Begin true e f = absurd (cc)
    still_all line.Give true e f = absurd (cc)
    still_all line.Drop true e f = absurd (cc)
    still_all line.Add true e f = absurd (cc)

    owned_by : (q : Option ℕ) → (q ≡ Some link → ⊥) → option_map_or (λ (k : ℕ). k == link) q false ≡ false
    owned_by None other = refl
    owned_by (Some k) other = by_number (k == link) refl
      where
        by_number : (z : Bool) → (k == link) ≡ z → z ≡ false
        by_number true e = absurd (other (ap (λ (i : ℕ). Some i) (eqb-true k link e)))
        by_number false e = refl

    link_in_net : link_of x.net.links l.sub ≡ b.link
    link_in_net = in_net l.sub its_sub.1
      where
        in_net : (j : ℕ) → numbered s.subs j ≡ Some b → link_of x.net.links j ≡ b.link
        in_net zero here = absurd (cc)
        in_net (suc i) here =
            let k : Both b x.net.board i (1 + i) x.net.links = both_at 1 s.subs x.net.board x.net.links i b g.net.subs_are here in
            ap (link_of x.net.links) (let up : suc i ≡ 1 + i = omega arith in up) ∙ sym k.is.link_is

    pub same_net : net_down (sub_of (link_at x.book link)) link x.net ≡ x.net
    same_net =
        ap (λ (j : ℕ). net_down j link x.net) g.sub_is
        ∙ ap (λ (z : Bool). if z then net_lost l.sub x.net else x.net)
        (ap (λ (q : Option ℕ). option_map_or (λ (k : ℕ). k == link) q false) link_in_net ∙ owned_by b.link has_not)

    unowned : IsDown link x p s v
    unowned = record {
      actions = [];
      seen = v;
      does = refl;
      posts = refl;
      boarded = refl;
      of = tt;
      current = g.now_is;
      links = refl;
      generations = refl;
      shut = λ k. refl;
      net = subst (Sees v) (sym same_net) g.net;
      passed = passed_self v;
      still = λ m e. still_all m (is_line m line.Link) e refl;
    }

  -- it goes down
  module _ (has : b.link ≡ Some link) where
    abbrev downs : Action
    downs = action.LinkDown l.sub

    abbrev t : Seen
    t = with_sub gone_down l.sub v

    sub_number : b.number ≡ l.sub
    sub_number = counted_at (λ (c : Subchannel). c.number) s.subs l.sub b g.kept_s.subs its_sub.1

    its_link : link_of_sub b v ≡ Some m
    its_link = ap (option_and_then (numbered v.links)) has ∙ g.there_m

    was_link : link_of_sub b s ≡ Some l
    was_link = ap (option_and_then (numbered s.links)) has ∙ g.there

    not_ready : is_to_be_ready v b ≡ false
    not_ready =
        ap (λ (q : Option Link). is_connecting b.state && holds has_settings q) its_link ∙ ap (λ (z : Bool). is_connecting b.state && z) g.settings
        ∙ sym (ap (λ (q : Option Link). is_connecting b.state && holds has_settings q) was_link)
        ∙ (or_parts (is_to_be_ready s b) (is_to_go_down s b) (quiet_sub l.sub b its_sub.1)).0

    goes : is_to_go_down v b ≡ true
    goes = ap (holds is_going_down) its_link ∙ g.goes_down

    its_action : link_action v b ≡ Some downs
    its_action =
        ap (λ (z : Bool). if z then Some (action.SettingsArrive b.number) else if is_to_go_down v b then Some (action.LinkDown b.number) else None) not_ready
        ∙ ap (λ (z : Bool). if z then Some (action.LinkDown b.number) else None) goes ∙ ap (λ (k : ℕ). Some (action.LinkDown k)) sub_number

    found_first : (j : ℕ) → numbered s.subs j ≡ Some b → j ≡ l.sub → next_of_links v ≡ Some downs
    found_first zero here same = absurd (cc)
    found_first (suc i) here same =
        first_only (link_action v) s.subs i b downs here its_action
        (λ j c at_j other. none_action v c (new_same c (others (suc j) c at_j (λ e. other (down j i (e ∙ sym same)))) ∙ quiet_sub (suc j) c at_j))
      where
        down : (j i : ℕ) → suc j ≡ suc i → j ≡ i
        down j i e = omega (arith, e)

    next_down : following v ≡ Some downs
    next_down =
        first_line_gives line.Link downs p v g.now_is
        (λ m before. let k = before_link (is_loss p.event) m before in g.still m k.0 k.1) (found_first l.sub its_sub.1 refl)

    after_down : after downs v ≡ t
    after_down = ap (λ (q : Option OpenEntry). after_if q downs v) g.now_is

    linked : (is_connecting b.state || is_ready b.state) ≡ true
    linked = linked_by b.link b.state link has (all_numbered is_linked_up s.subs l.sub b its_sub.1 g.boards)

    current_t : t.current ≡ Some p
    current_t = with_sub_current v l.sub gone_down ∙ g.now_is

    -- what its subchannel is then
    subs_t : t.subs ≡ changed gone_down l.sub s.subs
    subs_t = subbed_subs gone_down l.sub v

    links_t : t.links ≡ v.links
    links_t = subbed_links gone_down l.sub v

    its_down : numbered t.subs l.sub ≡ Some (gone_down b)
    its_down = ap (λ (cs : List Subchannel). numbered cs l.sub) subs_t ∙ changed_here gone_down l.sub s.subs b its_sub.1

    down_quiet : is_link_new t (gone_down b) ≡ false
    down_quiet = and_no (is_connecting (if is_ready b.state then conn.Idle else conn.Failure))
      where
        and_no : (z : Bool) → ((z && false) || false) ≡ false
        and_no true = refl
        and_no false = refl

    new_there : (c : Subchannel) → is_link_new t c ≡ is_link_new v c
    new_there c =
        ap (λ (ls : List Link). (is_connecting c.state && holds has_settings (option_and_then (numbered ls) c.link)) || holds is_going_down (option_and_then (numbered ls) c.link)) links_t

    quiet_then : (j : ℕ) (c : Subchannel) (z : Bool) → (j == l.sub) ≡ z → numbered t.subs j ≡ Some c → is_link_new t c ≡ false
    quiet_then j c true e here =
        ap (is_link_new t) (one_sub (numbered t.subs j) c (gone_down b) here (ap (numbered t.subs) (eqb-true j l.sub e) ∙ its_down)) ∙ down_quiet
    quiet_then j c false e here =
        let here_s : numbered s.subs j ≡ Some c
        = sym (changed_away gone_down l.sub j s.subs (eqb-false j l.sub e)) ∙ ap (λ (cs : List Subchannel). numbered cs j) (sym subs_t) ∙ here in
        new_there c ∙ new_same c (others j c here_s (eqb-false j l.sub e)) ∙ quiet_sub j c here_s

    link_still_t : IsStill line.Link p t
    link_still_t = none_from (is_link_new t) t.subs (λ j c here. quiet_then j c (j == l.sub) refl here)

    leaves : (m : Line) → IsStill m p v → IsStill m p t
    leaves m k = down_leaves l.sub p v g.now_is (b, its_sub.1, live_now b.state linked) m p current_t refl k

    still_t : (m : Line) (z : Bool) → is_line m line.WireEnd ≡ false → is_line m line.Link ≡ z → IsStill m p t
    still_t m false e f = leaves m (g.still m e f)
    still_t line.Link true e f = link_still_t
    still_t line.Cut true e f = absurd (cc)
    still_t line.Transparent true e f = absurd (cc)
    still_t line.Inherited true e f = absurd (cc)
    still_t line.Row true e f = absurd (cc)
    still_t line.Final true e f = absurd (cc)
    still_t line.Cancelled true e f = absurd (cc)
    still_t line.Request true e f = absurd (cc)
    still_t line.Overflow true e f = absurd (cc)
    still_t line.Head true e f = absurd (cc)
    still_t line.Response true e f = absurd (cc)
    still_t line.Pick true e f = absurd (cc)
    still_t line.WireEnd true e f = absurd (cc)
    still_t line.Reset true e f = absurd (cc)
    still_t line.Shut true e f = absurd (cc)
    still_t line.Retire true e f = absurd (cc)
    still_t line.Begin true e f = absurd (cc)
    still_t line.Give true e f = absurd (cc)
    still_t line.Drop true e f = absurd (cc)
    still_t line.Add true e f = absurd (cc)

    downed_net : Sees t (net_down (sub_of (link_at x.book link)) link x.net)
    downed_net =
        subst (λ (j : ℕ). Sees t (net_down j link x.net)) (sym g.sub_is) (links_go l.sub link v x.net b g.net its_sub.1 has)

    owned : IsDown link x p s v
    owned = record {
      actions = downs ∷ [];
      seen = t;
      does = (next_down, sym after_down);
      posts = refl;
      boarded = subst (IsBoarded v) after_down (one_boarded v downs refl);
      of = (of_call v downs g.kept refl, tt);
      current = current_t;
      links = links_t;
      generations = subbed_generations gone_down l.sub v;
      shut = subbed_shut gone_down l.sub v b its_sub.1 (down_live b.state linked);
      net = downed_net;
      passed = sub_changed gone_down l.sub v;
      still = λ m e. still_t m (is_line m line.Link) e refl;
    }

  down_by : (q : Option ℕ) → b.link ≡ q → IsDown link x p s v
  down_by None e = unowned (λ has. (let bad : None ≡ Some link = sym e ∙ has in (cc)))
  down_by (Some k) e = by_number (k == link) refl
    where
      by_number : (z : Bool) → (k == link) ≡ z → IsDown link x p s v
      by_number true f = owned (e ∙ ap (λ (i : ℕ). Some i) (eqb-true k link f))
      by_number false f = unowned (λ has. eqb-false k link f (let both_ : Some k ≡ Some link = sym e ∙ has in (cc)))

  pub down_next : IsDown link x p s v
  down_next = down_by b.link refl

  -- where the subchannel has another link, or none, nothing becomes of it
  pub unowned_net : ((c : Subchannel) → numbered s.subs l.sub ≡ Some c → c.link ≡ Some link → ⊥) → net_down (sub_of (link_at x.book link)) link x.net ≡ x.net
  unowned_net none = same_net (λ has. none b its_sub.1 has)
