-- The views of the live generations are those of the board, over whole runs.
use Rattle.std.proofs.Common.{◌≡◌, ◌+◌, ◌==◌, ℕ, zero, suc, Bool, true, false, ◌&&◌, ◌||◌, is_some, if◌then◌else◌, Option, Some, None, List, [], ◌∷◌, ◌++◌, map, slice_get, refl, ap, sym, subst, ◌∙◌}
use Rattle.std.specs.Option.{option_map, option_map_or}
use Rattle.std.proofs.lemmas.Option.{same_Some, none-some}
use Rattle.std.proofs.lemmas.Bool.{eqb-true, eqb-false}
use Rattle.grpc_base.specs.declared.address.Address.{Address}
use Rattle.grpc_base.specs.declared.event.Conn.{Conn}
use Rattle.grpc_base.specs.declared.event.Conn.TheVariants as conn
use Rattle.grpc_base.specs.declared.kind.Kind.{Kind}
use Rattle.grpc_base.specs.Addresses.{has_address}
use Rattle.grpc_base.specs.Kinds.{has_kind}
use Rattle.lb_policy.specs.declared.seen.SubSeen.{SubSeen}
use Rattle.lb_policy.specs.Table.{PolicySeen}
use Rattle.lb_policy.specs.Steps.{emptied, given, noted, noted_sub, turned}
use Rattle.subchannel.specs.Records.{SubRecord, next_dials, again_after, until_after, is_dialable, is_due, is_idle, is_dialing, wished, dialed, linked_up, failed, prefaced, lost, clocked}
use Rattle.subchannel.specs.Boards.{changed_at, clocked_at, first_clocked, first_number, kept, numbered, passes}
use Rattle.subchannel.specs.Insides.{live_numbers}
use Rattle.subchannel.specs.Runs as board
use Rattle.subchannel.specs.Runs.{live_count}
use Rattle.subchannel.proofs.KeepLaws.{KeepsLive}
use Rattle.subchannel.proofs.StepLaws.{keeps_live-wished, keeps_live-dialed, keeps_live-linked_up, keeps_live-failed, keeps_live-prefaced, keeps_live-lost, keeps_live-clocked}
use Rattle.subchannel.proofs.RunLaws.{address-step}
use Rattle.policy_rack.specs.declared.live.Live.{Live}
use Rattle.policy_rack.specs.Kinds.{are_ready, first_place, kinds_of, kinds_differ, has_policy, same_kind}
use Rattle.policy_rack.specs.Runs as rack
use Rattle.policy_rack.specs.Runs.{RackCall, GenerationsAreLive, IsKept}
use Rattle.policy_rack.specs.Steps.{RackSeen, new_rack, changed, changed_of, renewed, begun, adopted, asked, is_at, live_of, may_take_over, taken_over}
use Rattle.policy_rack.proofs.KindLaws.{has_place}
use Rattle.grpc_base.specs.declared.kind.Kind.TheVariants as kind
use Rattle.channel_net.specs.declared.links.OwnLink.{OwnLink}
use Rattle.channel_net.specs.Askers.{reported, may_ask}
use Rattle.channel_net.specs.Lists.{each_once, state_at, view_of}
use Rattle.channel_net.specs.Steps as steps
use Rattle.channel_net.specs.Steps.{NetSeen, NetLeft, new_net, dial_refusal, is_for_current, is_wished, idle_and_wished, first_wished, listed, net_kept, net_taken, moved_over}
use Rattle.channel_net.specs.Runs.{NetCall, Resolved, Dial, Up, DialFailed, Ready, Down, Clock, Settle, Ask, Shut, after_call, after_calls}
use Rattle.channel_net.specs.Laws as laws
use Rattle.channel_net.specs.Laws.{SeesBoard, Views}
use Rattle.channel_net.proofs.BoardLaws.{changed_none}
use Rattle.channel_net.proofs.KindRuns.{kinds-stay, place-is, there}
use Rattle.channel_net.proofs.MoveLaws.{Orderly, Moves, orderly-new, moves-resolved, moves-dialed, moves-up, moves-failed, moves-ready, moves-down, moves-clocked-by, moves-connected-by, moves-over, moves-shut}
use Rattle.channel_net.proofs.RoundLaws.{find-passes, prefix_true, passing}
use Rattle.channel_net.proofs.RunLaws.{Follows, call-follows}
use Rattle.channel_net.proofs.TurnLaws.{get-other}
use Rattle.channel_net.proofs.ViewLaws.{KeepsAddress, StayLive, numbered-here, view-reported, view-still, view-kept, stay-live, or-left, or-right}

-- a policy after it changed
sees-changed : (f : PolicySeen → PolicySeen) (ps : List PolicySeen) (i : ℕ) (p : PolicySeen) → slice_get ps i ≡ Some p → slice_get (changed f ps i) i ≡ Some (f p)
sees-changed f [] i p e = absurd (none-some p e)
sees-changed f (q ∷ ps) zero p e = ap (λ (x : PolicySeen). Some (f x)) (same_Some q p e)
sees-changed f (q ∷ ps) (suc i) p e = sees-changed f ps i p e

-- the rack is given a state that the views changed by
module _ (sub : ℕ) (state : Conn) (old new : List SubRecord) (addresses : List Address) (v : view_of new addresses ≡ map (noted_sub sub state) (view_of old addresses)) where
  noted-current : (ps : List PolicySeen) (c n : Option Live) (made : ℕ) → GenerationsAreLive c n made → SeesBoard old addresses ps c → SeesBoard new addresses (changed_of (noted sub state) n (changed_of (noted sub state) c ps)) c
  noted-current ps None n made h x = tt
  noted-current ps (Some live) None made h x =
      (noted sub state x.0, (sees-changed (noted sub state) ps live.place x.0 x.1.0, ap (map (noted_sub sub state)) x.1.1 ∙ sym v))
  noted-current ps (Some live) (Some later) made h x =
      let once : slice_get (changed (noted sub state) ps live.place) live.place ≡ Some (noted sub state x.0) = sees-changed (noted sub state) ps live.place x.0 x.1.0 in
      (noted sub state x.0, (get-other (noted sub state) (changed (noted sub state) ps live.place) later.place live.place (λ e. h.0 (sym e)) ∙ once, ap (map (noted_sub sub state)) x.1.1 ∙ sym v))

  noted-pending : (ps : List PolicySeen) (c n : Option Live) (made : ℕ) → GenerationsAreLive c n made → SeesBoard old addresses ps n → SeesBoard new addresses (changed_of (noted sub state) n (changed_of (noted sub state) c ps)) n
  noted-pending ps c None made h x = tt
  noted-pending ps None (Some later) made h x = absurd h
  noted-pending ps (Some live) (Some later) made h x =
      let there : slice_get (changed (noted sub state) ps live.place) later.place ≡ Some x.0 = get-other (noted sub state) ps live.place later.place h.0 ∙ x.1.0 in
      (noted sub state x.0, (sees-changed (noted sub state) (changed (noted sub state) ps live.place) later.place x.0 there, ap (map (noted_sub sub state)) x.1.1 ∙ sym v))

-- the views are as before
sees-along : (old new : List SubRecord) (addresses : List Address) (ps : List PolicySeen) (c : Option Live) → view_of new addresses ≡ view_of old addresses → SeesBoard old addresses ps c → SeesBoard new addresses ps c
sees-along old new addresses ps None v x = tt
sees-along old new addresses ps (Some live) v x = (x.0, (x.1.0, x.1.1 ∙ sym v))

-- a subchannel changed, and the rack was given its state
abbrev reported-net : (SubRecord → SubRecord) → ℕ → Option Conn → NetSeen → List OwnLink → NetSeen
reported-net f sub state n links = record { asker = reported state sub n.asker; board = changed_at f n.board sub; current = n.current; pending = n.pending; links = links }

none-is : (f : SubRecord → SubRecord) (o : Option SubRecord) → option_map f o ≡ None → is_some o ≡ false
none-is f None e = refl
none-is f (Some s) e = let absurdity : ⊥ = (cc) in absurd absurdity

views-reported-by : (f : SubRecord → SubRecord) (sub : ℕ) (n : NetSeen) (links : List OwnLink) (o : Option SubRecord) → numbered (changed_at f n.board sub) sub ≡ o → KeepsLive f → KeepsAddress f → IsKept n.asker.rack → Views n → Views (reported-net f sub (option_map (λ (s : SubRecord). s.state) o) n links)
views-reported-by f sub n links None at live address k x =
    let out : is_some (numbered n.board sub) ≡ false = none-is f (numbered n.board sub) (sym (numbered-here f n.board sub) ∙ at) in
    let same : n.board ≡ changed_at f n.board sub = changed_none f n.board sub out in
    record {
      current = subst (λ (b : List SubRecord). SeesBoard b n.current n.asker.rack.policies n.asker.rack.current) same x.current;
      pending = subst (λ (b : List SubRecord). SeesBoard b n.pending n.asker.rack.policies n.asker.rack.pending) same x.pending;
    }
views-reported-by f sub n links (Some t) at live address k x =
    let r : RackSeen = n.asker.rack in
    record {
      current = noted-current sub t.state n.board (changed_at f n.board sub) n.current (view-reported f live address n.board sub t n.current at) r.policies r.current r.pending r.made k.live x.current;
      pending = noted-pending sub t.state n.board (changed_at f n.board sub) n.pending (view-reported f live address n.board sub t n.pending at) r.policies r.current r.pending r.made k.live x.pending;
    }

views-reported : (f : SubRecord → SubRecord) (sub : ℕ) (n : NetSeen) (links : List OwnLink) → KeepsLive f → KeepsAddress f → IsKept n.asker.rack → Views n → Views (reported-net f sub (state_at (changed_at f n.board sub) sub) n links)
views-reported f sub n links live address k x = views-reported-by f sub n links (numbered (changed_at f n.board sub) sub) refl live address k x

views-still : (f : SubRecord → SubRecord) (sub : ℕ) (n : NetSeen) (links : List OwnLink) → KeepsLive f → KeepsAddress f → ((s : SubRecord) → (f s).state ≡ s.state) → Views n → Views (record { asker = n.asker; board = changed_at f n.board sub; current = n.current; pending = n.pending; links = links })
views-still f sub n links live address same x = record {
  current = sees-along n.board (changed_at f n.board sub) n.current n.asker.rack.policies n.asker.rack.current (view-still f live address same n.board sub n.current) x.current;
  pending = sees-along n.board (changed_at f n.board sub) n.pending n.asker.rack.policies n.asker.rack.pending (view-still f live address same n.board sub n.pending) x.pending;
}

state-by : (b : Bool) (s t : SubRecord) → t.state ≡ s.state → (if b then t else s).state ≡ s.state
state-by true s t e = e
state-by false s t e = refl

dialed-state : (moment word : ℕ) (s : SubRecord) → (dialed moment word s).state ≡ s.state
dialed-state moment word s =
    state-by (is_dialable s) s (record s { dials = next_dials s; again = Some (again_after s moment word); until = Some (until_after s moment word) }) refl

up-state : (s : SubRecord) → (linked_up s).state ≡ s.state
up-state s = state-by (is_dialing s) s (record s { linked = true }) refl

-- a net that some calls made, with the views of its live generations
pub record Seen (policies : List PolicySeen) (n : NetSeen) : Type 0 where
  pub orderly : Orderly n
  pub calls : List RackCall
  pub are : n.asker.rack ≡ rack.after_calls calls (new_rack policies)
  pub views : Views n

rack-append : (xs ys : List RackCall) (r : RackSeen) → rack.after_calls (xs ++ ys) r ≡ rack.after_calls ys (rack.after_calls xs r)
rack-append [] ys r = refl
rack-append (x ∷ xs) ys r = rack-append xs ys (rack.after_call x r)

seen-by : (policies : List PolicySeen) (n t : NetSeen) → Seen policies n → Moves n t → Views t → Seen policies t
seen-by policies n t x m v = record {
  orderly = m.orderly;
  calls = x.calls ++ m.rack.calls;
  are = m.rack.are ∙ ap (rack.after_calls m.rack.calls) x.are ∙ sym (rack-append x.calls m.rack.calls (new_rack policies));
  views = v;
}

seen-if : (policies : List PolicySeen) (b : Bool) (n t : NetSeen) → Seen policies n → Seen policies t → Seen policies (if b then n else t)
seen-if policies true n t x y = x
seen-if policies false n t x y = y

module _ (keeps : rack.RackKeeps) (policies : List PolicySeen) where
  is-kept : (n : NetSeen) → Seen policies n → IsKept n.asker.rack
  is-kept n x = subst IsKept (sym x.are) (keeps x.calls policies)

  dial-by : (moment word : ℕ) (n : NetSeen) (o : Option ℕ) → Views n → Views (record n { board = steps.board_dialed moment word o n.board })
  dial-by moment word n None x = x
  dial-by moment word n (Some sub) x =
      views-still (dialed moment word) sub n n.links (keeps_live-dialed moment word) (address-step (board.Dial sub moment word)) (dialed-state moment word) x

  seen-dial : (moment word : ℕ) (n : NetSeen) → Seen policies n → Seen policies (steps.net_dialed moment word n)
  seen-dial moment word n x =
      seen-by policies n (steps.net_dialed moment word n) x (moves-dialed moment word n x.orderly) (dial-by moment word n (first_number is_dialable n.board) x.views)

  seen-up : (sub link : ℕ) (n : NetSeen) → Seen policies n → Seen policies (steps.net_up sub link n)
  seen-up sub link n x =
      seen-by policies n (steps.net_up sub link n) x (moves-up sub link n x.orderly) (views-still linked_up sub n (n.links ++ record { sub = sub; link = link } ∷ []) keeps_live-linked_up (address-step (board.Up sub)) up-state x.views)

  seen-failed : (sub : ℕ) (n : NetSeen) → Seen policies n → Seen policies (steps.net_dial_failed sub n)
  seen-failed sub n x =
      seen-by policies n (steps.net_dial_failed sub n) x (moves-failed sub n x.orderly) (views-reported failed sub n n.links keeps_live-failed (address-step (board.Failed sub)) (is-kept n x) x.views)

  ready-by : (b : Bool) (sub : ℕ) (n : NetSeen) → Seen policies n → Views (if b then steps.board_reported prefaced sub n else n)
  ready-by true sub n x =
      views-reported prefaced sub n n.links keeps_live-prefaced (address-step (board.Ready sub)) (is-kept n x) x.views
  ready-by false sub n x = x.views

  seen-ready : (sub link : ℕ) (n : NetSeen) → Seen policies n → Seen policies (steps.net_ready sub link n)
  seen-ready sub link n x =
      seen-by policies n (steps.net_ready sub link n) x (moves-ready sub link n x.orderly) (ready-by (steps.owns sub link n) sub n x)

  down-by : (b : Bool) (sub : ℕ) (n : NetSeen) → Seen policies n → Views (if b then steps.net_lost sub n else n)
  down-by true sub n x =
      views-reported lost sub n (steps.net_lost sub n).links keeps_live-lost (address-step (board.Lost sub)) (is-kept n x) x.views
  down-by false sub n x = x.views

  seen-down : (sub link : ℕ) (n : NetSeen) → Seen policies n → Seen policies (steps.net_down sub link n)
  seen-down sub link n x =
      seen-by policies n (steps.net_down sub link n) x (moves-down sub link n x.orderly) (down-by (steps.owns sub link n) sub n x)

  -- the clock
  clock-by : (moment : ℕ) (l : NetLeft) (o : Option ℕ) → first_number (is_due moment) l.net.board ≡ o → Seen policies l.net → Views (steps.clocked_at moment o l).net
  clock-by moment l None e x = x.views
  clock-by moment l (Some sub) e x =
      let same : first_clocked moment l.net.board ≡ changed_at (clocked moment) l.net.board sub = ap (clocked_at moment l.net.board) e in
      let links : List OwnLink = (steps.clocked_at moment (Some sub) l).net.links in
      let v = views-reported (clocked moment) sub l.net links (keeps_live-clocked moment) (address-step (board.Clock moment)) (is-kept l.net x) x.views in
      subst (λ (b : List SubRecord). Views (record { asker = reported (state_at b sub) sub l.net.asker; board = b; current = l.net.current; pending = l.net.pending; links = links })) (sym same) v

  seen-round : (moment : ℕ) (l : NetLeft) → Seen policies l.net → Seen policies (steps.clock_round moment l).net
  seen-round moment l x =
      seen-by policies l.net (steps.clock_round moment l).net x (moves-clocked-by moment l (first_number (is_due moment) l.net.board) x.orderly) (clock-by moment l (first_number (is_due moment) l.net.board) refl x)

  seen-rounds : (moment k : ℕ) (l : NetLeft) → Seen policies l.net → Seen policies (steps.clock_rounds moment k l).net
  seen-rounds moment zero l x = x
  seen-rounds moment (suc k) l x = seen-rounds moment k (steps.clock_round moment l) (seen-round moment l x)

  -- wishes
  wished-state : (s : SubRecord) → is_idle s.state ≡ true → (wished s).state ≡ conn.Connecting
  wished-state s e = ap (λ (b : Bool). (if b then record s { state = conn.Connecting } else s).state) e

  connect-by : (n : NetSeen) (o : Option ℕ) → first_wished n ≡ o → Seen policies n → Views (steps.connected_at o n)
  connect-by n None e x = x.views
  connect-by n (Some sub) e x =
      let test : (passes (λ (s : SubRecord). is_idle s.state) n.board sub && is_wished n.asker.rack sub) ≡ true = find-passes (idle_and_wished n) (live_numbers 1 n.board) sub e in
      let idle : passes (λ (s : SubRecord). is_idle s.state) n.board sub ≡ true = prefix_true (passes (λ (s : SubRecord). is_idle s.state) n.board sub) (is_wished n.asker.rack sub) test in
      let s = passing (λ (r : SubRecord). is_idle r.state) (numbered n.board sub) idle in
      let after : state_at (changed_at wished n.board sub) sub ≡ Some conn.Connecting =
      ap (option_map (λ (r : SubRecord). r.state)) (numbered-here wished n.board sub ∙ ap (option_map wished) s.1.0) ∙ ap (λ (c : Conn). Some c) (wished-state s.0 s.1.1) in
      subst (λ (o : Option Conn). Views (reported-net wished sub o n n.links)) after (views-reported wished sub n n.links keeps_live-wished (address-step (board.Wished sub)) (is-kept n x) x.views)

  seen-connect : (n : NetSeen) → Seen policies n → Seen policies (steps.connect_round n)
  seen-connect n x =
      seen-by policies n (steps.connect_round n) x (moves-connected-by n (first_wished n) x.orderly) (connect-by n (first_wished n) refl x)

  pub seen-wishes : (k : ℕ) (n : NetSeen) → Seen policies n → Seen policies (steps.connect_rounds k n)
  seen-wishes zero n x = x
  seen-wishes (suc k) n x = seen-wishes k (steps.connect_round n) (seen-connect n x)

  -- a take-over
  one-live : (n : NetSeen) (a : Address) → Orderly n → (has_address n.current a || has_address n.pending a) ≡ true → live_count a n.board ≡ 1
  one-live n a o e = o.listed a ∙ ap (λ (b : Bool). if b then 1 else 0) e

  pending-stays : (n : NetSeen) → Orderly n → StayLive n.pending [] n.board n.pending
  pending-stays n o =
      stay-live n.pending [] n.board n.pending (λ a e. (or-left (has_address n.pending a) (has_address [] a) e, one-live n a o (or-right (has_address n.current a) (has_address n.pending a) e)))

  over-views : (n : NetSeen) (ps : List PolicySeen) (c p : Option Live) (made : ℕ) → GenerationsAreLive c p made → Orderly n → SeesBoard n.board n.pending ps p → SeesBoard (kept n.pending [] n.board) n.pending (changed_of emptied c ps) p
  over-views n ps c None made h o x = tt
  over-views n ps None (Some later) made h o x = absurd h
  over-views n ps (Some live) (Some later) made h o x =
      (x.0, (get-other emptied ps live.place later.place h.0 ∙ x.1.0, x.1.1 ∙ sym (view-kept n.pending [] n.board n.pending (pending-stays n o))))

  over-rack : (b : Bool) (n : NetSeen) → b ≡ true → Seen policies n → SeesBoard (kept n.pending [] n.board) n.pending (if b then taken_over n.asker.rack else n.asker.rack).policies (if b then taken_over n.asker.rack else n.asker.rack).current
  over-rack true n e x =
      let r : RackSeen = n.asker.rack in
      over-views n r.policies r.current r.pending r.made (is-kept n x).live x.orderly x.views.pending
  over-rack false n e x = let absurdity : ⊥ = (cc) in absurd absurdity

  over-left : (b : Bool) (board : List SubRecord) (r : RackSeen) → b ≡ true → SeesBoard board [] (if b then taken_over r else r).policies (if b then taken_over r else r).pending
  over-left true board r e = tt
  over-left false board r e = let absurdity : ⊥ = (cc) in absurd absurdity

  over-by : (b : Bool) (l : NetLeft) → may_take_over l.net.asker.rack ≡ b → Seen policies l.net → Views (if b then record { net = net_kept (moved_over l.net); gone = steps.kept_shut (moved_over l.net) } else l).net
  over-by true l e x = record {
    current = over-rack (may_take_over l.net.asker.rack) l.net e x;
    pending = over-left (may_take_over l.net.asker.rack) (kept l.net.pending [] l.net.board) l.net.asker.rack e;
  }
  over-by false l e x = x.views

  seen-over : (l : NetLeft) → Seen policies l.net → Seen policies (steps.net_taken_over l).net
  seen-over l x =
      seen-by policies l.net (steps.net_taken_over l).net x (moves-over l x.orderly) (over-by (may_take_over l.net.asker.rack) l refl x)

  seen-settle-round : (l : NetLeft) → Seen policies l.net → Seen policies (steps.settle_round l).net
  seen-settle-round l x =
      let t : NetSeen = (steps.net_taken_over l).net in seen-wishes (steps.idle_count t.board) t (seen-over l x)

  seen-further : (b : Bool) (l : NetLeft) → Seen policies l.net → Seen policies (if b then steps.settle_round l else l).net
  seen-further true l x = seen-settle-round l x
  seen-further false l x = x

  seen-settled : (n : NetSeen) → Seen policies n → Seen policies (steps.net_settled n).net
  seen-settled n x =
      let first : NetLeft = steps.settle_round (steps.left_of n) in
      seen-further (may_take_over first.net.asker.rack) first (seen-settle-round (steps.left_of n) x)

  -- there is a policy at a place, whatever was dropped
  dropped-by : (b : Bool) (ps : List PolicySeen) (j i : ℕ) (q : PolicySeen) → (j == i) ≡ b → slice_get ps i ≡ Some q → (p : PolicySeen) × (slice_get (changed emptied ps j) i ≡ Some p)
  dropped-by true ps j i q same e =
      let is : i ≡ j = sym (eqb-true j i same) in
      let there : slice_get ps j ≡ Some q = subst (λ (k : ℕ). slice_get ps k ≡ Some q) is e in
      (emptied q, subst (λ (k : ℕ). slice_get (changed emptied ps j) k ≡ Some (emptied q)) (sym is) (sees-changed emptied ps j q there))
  dropped-by false ps j i q out e = (q, get-other emptied ps j i (eqb-false j i out) ∙ e)

  after-dropped : (ps : List PolicySeen) (n : Option Live) (i : ℕ) (q : PolicySeen) → slice_get ps i ≡ Some q → (p : PolicySeen) × (slice_get (changed_of emptied n ps) i ≡ Some p)
  after-dropped ps None i q e = (q, e)
  after-dropped ps (Some later) i q e = dropped-by (later.place == i) ps later.place i q refl e

  current-stays : (n : NetSeen) (list : List Address) → Orderly n → StayLive n.current list n.board n.current
  current-stays n list o =
      stay-live n.current list n.board n.current (λ a e. (or-left (has_address n.current a) (has_address list a) e, one-live n a o (or-left (has_address n.current a) (has_address n.pending a) e)))

  -- whether a result is for the current generation, and whether its policy is at the place, agree where there is one
  agrees : (ps : List PolicySeen) (live : Live) (p : PolicySeen) (k : Kind) (place : ℕ) → kinds_differ ps ≡ true → first_place k ps ≡ Some place → slice_get ps live.place ≡ Some p → option_map_or (λ (l : ℕ × Kind). same_kind l.1 k) (live_of ps (Some live)) true ≡ (live.place == place)
  agrees ps live p k place d first at =
      ap (λ (o : Option PolicySeen). option_map_or (λ (l : ℕ × Kind). same_kind l.1 k) (option_map (λ (q : PolicySeen). (live.generation, q.kind)) o) true) at ∙ place-is k ps place live.place p d first at

  new-view : (ps : List PolicySeen) (n : Option Live) (view : List SubSeen) (place : ℕ) (k : Kind) → first_place k ps ≡ Some place → (p : PolicySeen) × ((slice_get (changed (given view) (changed_of emptied n ps) place) place ≡ Some p) × (p.view ≡ view))
  new-view ps n view place k first =
      let q = there k ps place first in
      let p = after-dropped ps n place q.0 q.1 in
      (given view p.0, (sees-changed (given view) (changed_of emptied n ps) place p.0 p.1, refl))

abbrev rack-of : List PolicySeen → Option Live → Option Live → ℕ → RackSeen
rack-of ps c m made = record { policies = ps; current = c; pending = m; made = made }

-- the board, the view and the rack after a result for the current generation or another, whose policy the current, the
-- pending or no generation uses
abbrev board-of : Bool → List Address → List Address → List SubRecord → List SubRecord
board-of b list current board = kept (if b then list else current) (if b then [] else list) board

abbrev rack-by : Bool → Bool → List SubSeen → ℕ → RackSeen → RackSeen
rack-by e d view place r =
    if e then renewed view place r else (if d then record r { policies = changed (given view) r.policies place } else begun view place r)

abbrev Both : Bool → Bool → Bool → RackSeen → List Address → List SubRecord → List Address → ℕ → Type 0
Both b e d r current board list place =
    SeesBoard (board-of b list current board) (if b then list else current) (rack-by e d (view_of (board-of b list current board) list) place r).policies (rack-by e d (view_of (board-of b list current board) list) place r).current × SeesBoard (board-of b list current board) (if b then [] else list) (rack-by e d (view_of (board-of b list current board) list) place r).policies (rack-by e d (view_of (board-of b list current board) list) place r).pending

module _ (keeps : rack.RackKeeps) (policies : List PolicySeen) (ps : List PolicySeen) (made : ℕ) (current : List Address) (board : List SubRecord) (list : List Address) (k : Kind) (place : ℕ) (first : first_place k ps ≡ Some place) where
  live-dropped : (live : Live) (m : Option Live) → GenerationsAreLive (Some live) m made → slice_get (changed_of emptied m ps) live.place ≡ slice_get ps live.place
  live-dropped live None h = refl
  live-dropped live (Some later) h = get-other emptied ps later.place live.place (λ e. h.0 (sym e))

  pending-view : (view : List SubSeen) (m : Option Live) → is_at place m ≡ true → (b : List SubRecord) → view ≡ view_of b list → SeesBoard b list (changed (given view) ps place) m
  pending-view view None e b v = tt
  pending-view view (Some later) e b v =
      let q = there k ps place first in
      let is : place ≡ later.place = sym (eqb-true later.place place e) in
      (given view q.0, (subst (λ (i : ℕ). slice_get (changed (given view) ps place) i ≡ Some (given view q.0)) is (sees-changed (given view) ps place q.0 q.1), v))

  some-case : (b e d : Bool) (live : Live) (m : Option Live) → b ≡ e → (live.place == place) ≡ e → is_at place m ≡ d → GenerationsAreLive (Some live) m made → StayLive current list board current → SeesBoard board current ps (Some live) → Both b e d (rack-of ps (Some live) m made) current board list place
  some-case true true d live m same here there-is h stays x =
      let view : List SubSeen = view_of (board-of true list current board) list in
      let p = new-view keeps policies ps m view place k first in
      let is : place ≡ live.place = sym (eqb-true live.place place here) in
      ((p.0, (subst (λ (i : ℕ). slice_get (changed (given view) (changed_of emptied m ps) place) i ≡ Some p.0) is p.1.0, p.1.1)), tt)
  some-case true false d live m same here there-is h stays x = let absurdity : ⊥ = (cc) in absurd absurdity
  some-case false true d live m same here there-is h stays x = let absurdity : ⊥ = (cc) in absurd absurdity
  some-case false false true live m same here there-is h stays x =
      let b : List SubRecord = board-of false list current board in
      let view : List SubSeen = view_of b list in
      let away : place ≡ live.place → ⊥ = λ e. eqb-false live.place place here (sym e) in
      ((x.0, (get-other (given view) ps place live.place away ∙ x.1.0, x.1.1 ∙ sym (view-kept current list board current stays))), pending-view view m there-is b refl)
  some-case false false false live m same here there-is h stays x =
      let b : List SubRecord = board-of false list current board in
      let view : List SubSeen = view_of b list in
      let away : place ≡ live.place → ⊥ = λ e. eqb-false live.place place here (sym e) in
      ((x.0, (get-other (given view) (changed_of emptied m ps) place live.place away ∙ live-dropped live m h ∙ x.1.0, x.1.1 ∙ sym (view-kept current list board current stays))), new-view keeps policies ps m view place k first)

  result-both : (c m : Option Live) → kinds_differ ps ≡ true → GenerationsAreLive c m made → StayLive current list board current → SeesBoard board current ps c → Both (is_for_current k (rack-of ps c m made)) (is_at place c) (is_at place m) (rack-of ps c m made) current board list place
  result-both None None differ h stays x =
      (new-view keeps policies ps None (view_of (board-of true list current board) list) place k first, tt)
  result-both None (Some later) differ h stays x = absurd h
  result-both (Some live) m differ h stays x =
      some-case (is_for_current k (rack-of ps (Some live) m made)) (live.place == place) (is_at place m) live m (agrees keeps policies ps live x.0 k place differ first x.1.0) refl refl h stays x

module _ (keeps : rack.RackKeeps) (policies : List PolicySeen) (ready : are_ready policies ≡ true) where
  and-prefix : (a b : Bool) → (a && b) ≡ true → a ≡ true
  and-prefix true b e = refl
  and-prefix false b e = e

  differ-of : (n : NetSeen) → Seen policies n → kinds_differ n.asker.rack.policies ≡ true
  differ-of n x =
      subst (λ (r : RackSeen). kinds_differ r.policies ≡ true) (sym x.are) (kinds-stay x.calls policies (and-prefix (kinds_differ policies) (has_policy kind.PickFirst policies) ready))

  some-of : (o : Option ℕ) → is_some o ≡ true → (place : ℕ) × (o ≡ Some place)
  some-of None e = let absurdity : ⊥ = (cc) in absurd absurdity
  some-of (Some place) e = (place, refl)

  abbrev taken-of : Kind → List Address → NetSeen → Option ℕ → NetSeen
  taken-of k addresses n o =
      let t : NetSeen = net_kept (listed k addresses n) in
      record t { asker = record n.asker { rack = adopted (view_of t.board (each_once addresses)) o n.asker.rack } }

  taken-views : (k : Kind) (addresses : List Address) (n : NetSeen) → has_kind (kinds_of n.asker.rack.policies) k ≡ true → Seen policies n → Views (net_taken k addresses n)
  taken-views k addresses n has x =
      let r : RackSeen = n.asker.rack in
      let found = some-of (first_place k r.policies) (has_place k r.policies has) in
      let both : Both (is_for_current k r) (is_at found.0 r.current) (is_at found.0 r.pending) r n.current n.board (each_once addresses) found.0 =
      result-both keeps policies r.policies r.made n.current n.board (each_once addresses) k found.0 found.1 r.current r.pending (differ-of n x) (is-kept keeps policies n x).live (current-stays keeps policies n (each_once addresses) x.orderly) x.views.current in
      let v : Views (taken-of k addresses n (Some found.0)) = record { current = both.0; pending = both.1 } in
      subst (λ (o : Option ℕ). Views (taken-of k addresses n o)) (sym found.1) v

  resolved-by : (b : Bool) (k : Kind) (addresses : List Address) (n : NetSeen) → has_kind (kinds_of n.asker.rack.policies) k ≡ b → Seen policies n → Views (if b then net_taken k addresses n else n)
  resolved-by true k addresses n has x = taken-views k addresses n has x
  resolved-by false k addresses n has x = x.views

  seen-resolved : (k : Kind) (addresses : List Address) (n : NetSeen) → Seen policies n → Seen policies (steps.net_resolved k addresses n)
  seen-resolved k addresses n x =
      seen-by policies n (steps.net_resolved k addresses n) x (moves-resolved k addresses n x.orderly) (resolved-by (has_kind (kinds_of n.asker.rack.policies) k) k addresses n refl x)

  -- a pick request leaves the views
  turned-current : (ps : List PolicySeen) (b : List SubRecord) (list : List Address) (c : Option Live) → SeesBoard b list ps c → SeesBoard b list (changed_of turned c ps) c
  turned-current ps b list None x = tt
  turned-current ps b list (Some live) x = (turned x.0, (sees-changed turned ps live.place x.0 x.1.0, x.1.1))

  turned-pending : (ps : List PolicySeen) (b : List SubRecord) (list : List Address) (c m : Option Live) (made : ℕ) → GenerationsAreLive c m made → SeesBoard b list ps m → SeesBoard b list (changed_of turned c ps) m
  turned-pending ps b list c None made h x = tt
  turned-pending ps b list None (Some later) made h x = absurd h
  turned-pending ps b list (Some live) (Some later) made h x =
      (x.0, (get-other turned ps live.place later.place h.0 ∙ x.1.0, x.1.1))

  asked-views : (b : Bool) (n : NetSeen) → Seen policies n → Views (record n { asker = (if b then record { rack = asked n.asker.rack; asks = n.asker.asks + 1 } else n.asker) })
  asked-views true n x =
      let r : RackSeen = n.asker.rack in
      record {
        current = turned-current r.policies n.board n.current r.current x.views.current;
        pending = turned-pending r.policies n.board n.pending r.current r.pending r.made (is-kept keeps policies n x).live x.views.pending;
      }
  asked-views false n x = x.views

  seen-asked : (n : NetSeen) → Seen policies n → Seen policies (steps.net_asked n)
  seen-asked n x =
      let f : Follows n (steps.net_asked n) = call-follows Ask n x.orderly in
      record {
        orderly = f.orderly;
        calls = x.calls ++ f.rack.0;
        are = f.rack.1 ∙ ap (rack.after_calls f.rack.0) x.are ∙ sym (rack-append x.calls f.rack.0 (new_rack policies));
        views = asked-views (may_ask n.asker) n x;
      }

  seen-shut : (n : NetSeen) → Seen policies n → Seen policies (steps.net_shut n).net
  seen-shut n x =
      seen-by policies n (steps.net_shut n).net x (moves-shut n x.orderly) (record { current = tt; pending = tt })

  seen-call : (call : NetCall) (n : NetSeen) → Seen policies n → Seen policies (after_call call n)
  seen-call (Resolved k addresses) n x = seen-resolved k addresses n x
  seen-call (Dial moment word) n x = seen-dial keeps policies moment word n x
  seen-call (Up sub link) n x =
      seen-if policies (is_some (dial_refusal (numbered n.board sub))) n (steps.net_up sub link n) x (seen-up keeps policies sub link n x)
  seen-call (DialFailed sub) n x =
      seen-if policies (is_some (dial_refusal (numbered n.board sub))) n (steps.net_dial_failed sub n) x (seen-failed keeps policies sub n x)
  seen-call (Ready sub link) n x = seen-ready keeps policies sub link n x
  seen-call (Down sub link) n x = seen-down keeps policies sub link n x
  seen-call (Clock moment) n x = seen-rounds keeps policies moment (steps.clocks_left n.board) (steps.left_of n) x
  seen-call Settle n x = seen-settled keeps policies n x
  seen-call Ask n x = seen-asked n x
  seen-call Shut n x = seen-shut n x

  seen-calls : (calls : List NetCall) (n : NetSeen) → Seen policies n → Seen policies (after_calls calls n)
  seen-calls [] n x = x
  seen-calls (call ∷ calls) n x = seen-calls calls (after_call call n) (seen-call call n x)

pub views-are : rack.RackKeeps → laws.ViewsAreOfTheBoard
views-are keeps calls policies ready =
    let start : Seen policies (new_net policies) = record { orderly = orderly-new policies; calls = []; are = refl; views = record { current = tt; pending = tt } } in
    (seen-calls keeps policies ready calls (new_net policies) start).views
