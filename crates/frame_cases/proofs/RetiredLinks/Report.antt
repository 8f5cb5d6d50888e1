-- What the channel does of GOAWAY: its link is noted as retiring, the subchannel goes down, the link is stamped where no attempt is on it, and then its attempts end.
use Rattle.std.proofs.Common.{◌≡◌, ◌&&◌, ◌||◌, ◌==◌, ◌∷◌, ap, refl, subst, sym, ◌∙◌, not, Bool, true, false, List, [], None, Option, Some, ℕ, drop, if◌then◌else◌, is_none, is_some}
use Rattle.std.proofs.lemmas.Bool.{eqb-false, eqb-true}
use Rattle.std.specs.List.{list_any}
use Rattle.std.specs.Option.{option_and_then, option_map}
use Rattle.attempt_ledger.specs.declared.ledger.LinkSeen.{LinkSeen}
use Rattle.attempt_ledger.specs.declared.news.EndNews.{EndNews}
use Rattle.call_cases.proofs.ConfiguredCalls.Lists.{same_numbered}
use Rattle.channel_actions.proofs.Gone.{sub_noted}
use Rattle.channel_actions.proofs.Outstanding.{outstanding_same}
use Rattle.channel_actions.proofs.Settles.{is_with_open, with_open}
use Rattle.channel_actions.specs.Columns.{links_noted}
use Rattle.channel_core.proofs.BookLaws.{number_changed, number_other}
use Rattle.channel_core.specs.Arrivals.{all_ended_on, ended_on, frame_received, received_all, read_to}
use Rattle.channel_core.specs.Books.{link_at}
use Rattle.channel_core.specs.States.{StateSeen}
use Rattle.channel_core.specs.Steps as channel
use Rattle.channel_core.specs.Steps.{downed, ends_kept, has_outstanding, is_of_shut_sub, retired, sealed, sealed_one, sub_of, with_ledger_links}
use Rattle.channel_core.specs.Tables as tables
use Rattle.channel_core.specs.Tables.{Received, received_in, received_link, is_dead_at, is_retiring_at, retired_in, with_link}
use Rattle.channel_core.specs.declared.state.links.LinkSlot.{LinkSlot}
use Rattle.channel_net.specs.Steps.{NetSeen, net_down}
use Rattle.end_cases.specs.AttemptEnds.Laws.{all_sealed}
use Rattle.event_cases.proofs.LostLinks.Down.{unowned_net}
use Rattle.frame_cases.proofs.PassedBytes.Noted.{change_at, unchanged_at}
use Rattle.frame_cases.proofs.PieceWalks.Coming.{coming_ended, coming_sealed, coming_sealed_one}
use Rattle.frame_cases.proofs.QuietFrames.ReadStill as read
use Rattle.frame_cases.proofs.RetiredLinks.Ends as ends
use Rattle.frame_cases.proofs.RetiredLinks.Shapes.{AfterGoaway}
use Rattle.frame_cases.proofs.RetiredLinks.Starts as starts
use Rattle.frame_cases.specs.PassedBytes.Laws.{relinked}
use Rattle.frame_cases.specs.PieceWalks.Points.{IsReceiving, coming}
use Rattle.h2_frame.specs.Frames.{FrameSeen}
use Rattle.h2_frame.specs.Numbers.{goaway_type}
use Rattle.h2_frame.specs.Payloads.{last_stream}
use Rattle.ledger_stamps.specs.Steps.{changed_at, gone_link, read_link}
use Rattle.link_actions.proofs.History.{bytes_more}
use Rattle.link_actions.specs.ResponseActions.Laws.{seen_at}
use Rattle.session_actions.specs.Closing.{noted_gone}
use Rattle.session_actions.specs.Entries.{entry}
use Rattle.session_actions.specs.Links.{is_retiring, read_bytes}
use Rattle.session_actions.specs.Reading.{is_outstanding_on}
use Rattle.session_actions.specs.Refusals.{is_gone, is_shutdown_sub}
use Rattle.session_actions.specs.Sessions.{link_seen}
use Rattle.session_actions.specs.Subchannels.{is_going_down, is_to_be_ready, is_to_go_down}
use Rattle.session_actions.specs.Words.{holds, numbered}
use Rattle.session_actions.specs.Writing.{next_frame_read, owed_for, with_frame_read}
use Rattle.session_actions.specs.declared.action.Action.TheVariants as action
use Rattle.session_actions.specs.declared.entry.OpenEntry.{OpenEntry}
use Rattle.session_actions.specs.declared.link.Link.{Link}
use Rattle.session_actions.specs.declared.link.LinkOver.{LinkOver}
use Rattle.session_actions.specs.declared.link.ReadFrame.{ReadFrame}
use Rattle.session_actions.specs.declared.seen.Seen.{Seen}
use Rattle.session_actions.specs.declared.subchannel.Subchannel.{Subchannel}
use Rattle.session_order.proofs.Changed.{passes_not}
use Rattle.session_order.specs.Quiescent.{is_link_new}
use Rattle.session_order.specs.declared.line.Line.TheVariants as line

-- two changes of one place are one
mapped_twice : {Y : Type 0} (g k : Y → Y) (o : Option Y) → option_map g (option_map k o) ≡ option_map (λ (y : Y). g (k y)) o
mapped_twice g k None = refl
mapped_twice g k (Some y) = refl

changed_twice : {Y : Type 0} (g k : Y → Y) (ys : List Y) (n : ℕ) → changed_at g (changed_at k ys n) n ≡ changed_at (λ (y : Y). g (k y)) ys n
changed_twice g k ys n = same_numbered (changed_at g (changed_at k ys n) n) (changed_at (λ (y : _). g (k y)) ys n) (λ j. at j (j == n) refl)
  where
    at : (j : ℕ) (b : Bool) → (j == n) ≡ b → numbered (changed_at g (changed_at k ys n) n) j ≡ numbered (changed_at (λ (y : _). g (k y)) ys n) j
    at j true e =
        let same : j ≡ n = eqb-true j n e in
        ap (numbered (changed_at g (changed_at k ys n) n)) same ∙ number_changed g (changed_at k ys n) n ∙ ap (option_map g) (number_changed k ys n)
        ∙ mapped_twice g k (numbered ys n) ∙ sym (number_changed (λ (y : _). g (k y)) ys n) ∙ ap (numbered (changed_at (λ (y : _). g (k y)) ys n)) (sym same)
    at j false e =
        number_other g (changed_at k ys n) n j (eqb-false j n e) ∙ number_other k ys n j (eqb-false j n e) ∙ sym (number_other (λ (y : _). g (k y)) ys n j (eqb-false j n e))

-- the stamp of a link that was read further, and takes no further attempt
stamp_by : (l : Link) (r : ReadFrame) (frames : List FrameSeen) (n : ℕ) (o : Option ℕ) (b c : Bool) → (c ≡ true → b ≡ true)
    → link_seen (if is_none o && b then record (with_frame_read r frames l) { gone = Some n } else record (with_frame_read r frames l) { gone = o })
    ≡ (if b then gone_link n (read_link (read_bytes (with_frame_read r frames l)) (link_seen (if is_none o && c then record l { gone = Some n } else record l { gone = o })))
    else read_link (read_bytes (with_frame_read r frames l)) (link_seen (if is_none o && c then record l { gone = Some n } else record l { gone = o })))
stamp_by l r frames n None true true e = refl
stamp_by l r frames n None true false e = refl
stamp_by l r frames n None false true e = absurd (let no : false ≡ true = e refl in (cc))
stamp_by l r frames n None false false e = refl
stamp_by l r frames n (Some k) true true e = refl
stamp_by l r frames n (Some k) true false e = refl
stamp_by l r frames n (Some k) false true e = refl
stamp_by l r frames n (Some k) false false e = refl

gone_then : (over a b out : Bool) → over ≡ false → (over || ((a || b) && not out)) ≡ true → (over || ((true || b) && not out)) ≡ true
gone_then false true true out e f = f
gone_then false true false out e f = f
gone_then false false true out e f = f
gone_then false false false out e f = absurd (cc)
gone_then true a b out e f = absurd (cc)

sub_read : (n : ℕ) (o : Option LinkSeen) → sub_of (option_map (read_link n) o) ≡ sub_of o
sub_read n None = refl
sub_read n (Some k) = refl

all_coming : (link : ℕ) (left : List ℕ) (es : List (ℕ × EndNews)) (y : StateSeen) → all_ended_on link es (coming link left y) ≡ coming link left (all_ended_on link es y)
all_coming link left [] y = refl
all_coming link left (e ∷ es) y = ap (all_ended_on link es) (coming_ended link left link e.0 e.1 y) ∙ all_coming link left es (ended_on link e.0 e.1 y)

module _ (link : ℕ) (piece : List ℕ) (x : StateSeen) (o : OpenEntry) (s : Seen) (is : IsReceiving link piece x o s) (h : Received) (r : ReadFrame)
    (next : next_frame_read link s ≡ Some (action.FrameRead link r)) (receives : received_in link piece x.links ≡ Some h) (goes : (r.frame.kind == goaway_type) ≡ true)
    (said : AfterGoaway is.l (read.m link piece x o s is h r next receives) s (read.t link piece x o s is h r next receives) (last_stream r.frame.payload)) where
  abbrev l : Link
  l = is.l

  abbrev m : Link
  m = read.m link piece x o s is h r next receives

  abbrev t : Seen
  t = read.t link piece x o s is h r next receives

  abbrev f : Link → Link
  f = read.f link piece x o s is h r next receives

  abbrev frames : List FrameSeen
  frames = owed_for r.frame l s

  abbrev slot : LinkSlot
  slot = read.slot link piece x o s is h r next receives

  abbrev left : List ℕ
  left = drop h.taken piece

  own : l.number ≡ link
  own = read.own link piece x o s is h r next receives

  abbrev x1 : StateSeen
  x1 = read_to link h.read (record x { links = h.links })

  abbrev cols : List LinkSeen
  cols = changed_at (read_link h.read) x.book.ledger.links link

  abbrev net1 : NetSeen
  net1 = starts.net1 link piece x o s is h r next receives goes said

  abbrev z : StateSeen
  z = record (relinked (retired_in link h.links) (links_noted t) x) { net = net1 }

  no_resets : x.resets ≡ []
  no_resets = is.agrees.sets.resets

  -- its slot
  links_are : h.links ≡ changed_at (with_link (received_link piece)) x.links link
  links_are = ap (λ (k : Received). k.links) (read.h_is link piece x o s is h r next receives)

  pub slot_there : numbered h.links link ≡ Some (with_link (received_link piece) slot)
  slot_there =
      ap (λ (ls : List LinkSlot). numbered ls link) links_are ∙ number_changed (with_link (received_link piece)) x.links link
      ∙ ap (option_map (with_link (received_link piece))) (read.kept link piece x o s is h r next receives).there

  alive : slot.dead ≡ false
  alive =
      sym (read.sees link piece x o s is h r next receives).over ∙ ap (λ (q : Option LinkOver). is_some q) (read.shown link piece x o s is h r next receives).unbroken

  -- it was retiring before
  module _ (was : is_retiring l ≡ true) where
    same_slot : (q : LinkSlot) → numbered h.links link ≡ Some q → tables.retired q ≡ q
    same_slot q at =
        let both : Some (with_link (received_link piece) slot) ≡ Some q = sym slot_there ∙ at in
        let one : with_link (received_link piece) slot ≡ q = (cc) in
        subst (λ (k : LinkSlot). tables.retired k ≡ k) one
        (ap (λ (b : Bool). record (with_link (received_link piece) slot) { retiring = b }) (sym was ∙ (read.sees link piece x o s is h r next receives).retiring))

    same_links : retired_in link h.links ≡ h.links
    same_links = unchanged_at tables.retired link h.links same_slot

    same_columns : links_noted t ≡ cols
    same_columns = read.noted_as link piece x o s is h r next receives (said.retiring ∙ sym was)

    never_owned : (c : Subchannel) → numbered s.subs l.sub ≡ Some c → c.link ≡ Some link → ⊥
    never_owned c at has =
        let quiet : is_link_new s c ≡ false = passes_not (is_link_new s) s.subs l.sub c (starts.quiescent_s link piece x o s is h r next receives goes said line.Link) at in
        let down : is_to_go_down s c ≡ true
        = ap (λ (q : Option ℕ). holds is_going_down (option_and_then (numbered s.links) q)) has ∙ ap (holds is_going_down) is.here ∙ ap (λ (b : Bool). is_some l.over || b) was
        ∙ or_true (is_some l.over) in
        never (is_to_be_ready s c) (is_to_go_down s c) quiet down
      where
        or_true : (b : Bool) → (b || true) ≡ true
        or_true true = refl
        or_true false = refl

        never : (a b : Bool) → (a || b) ≡ false → b ≡ true → ⊥
        never true b e g = let bad : true ≡ false = e in (cc)
        never false b e g = let bad : true ≡ false = sym g ∙ e in (cc)

    same_down : (starts.goes_down link piece x o s is h r next receives goes said).link_ ≡ l
    same_down = (let both : Some (starts.goes_down link piece x o s is h r next receives goes said).link_ ≡ Some l = sym (starts.goes_down link piece x o s is h r next receives goes said).there ∙ is.here in (cc))

    same_net : net1 ≡ x.net
    same_net =
        unowned_net t.links s.wants (Some o) link (starts.z0 link piece x o s is h r next receives goes said) o o s (starts.goes_down link piece x o s is h r next receives goes said)
        (λ c at has. never_owned c (ap (λ (q : Link). numbered s.subs q.sub) (sym same_down) ∙ at) has)

    was_retiring : x1 ≡ z
    was_retiring =
        ap (λ (rs : List ℕ). record x1 { resets = rs }) no_resets ∙ ap (λ (ls : List LinkSlot). record (relinked ls cols x) { net = x.net }) (sym same_links)
        ∙ ap (λ (ks : List LinkSeen). record (relinked (retired_in link h.links) ks x) { net = x.net }) (sym same_columns)
        ∙ ap (λ (n : NetSeen). record (relinked (retired_in link h.links) (links_noted t) x) { net = n }) (sym same_net)

  -- it is now
  abbrev any_out : Bool
  any_out = list_any (is_outstanding_on m) t.attempts

  gone_t : is_gone m t ≡ not any_out
  gone_t =
      ap (λ (q : Option LinkOver). is_some q || ((is_retiring m || is_shutdown_sub t m.sub) && not any_out)) (read.shown link piece x o s is h r next receives).unbroken
      ∙ ap (λ (b : Bool). (b || is_shutdown_sub t m.sub) && not any_out) said.retiring

  gone_before : is_gone l s ≡ true → is_gone m t ≡ true
  gone_before e =
      ap (λ (b : Bool). is_some m.over || ((b || is_shutdown_sub t m.sub) && not any_out)) said.retiring
      ∙ gone_then (is_some l.over) (is_retiring l) (is_shutdown_sub s l.sub) (list_any (is_outstanding_on l) s.attempts)
      (ap (λ (q : Option LinkOver). is_some q) (read.shown link piece x o s is h r next receives).unbroken) e

  abbrev with_stamp : LinkSeen → LinkSeen
  with_stamp c = if is_gone m t then gone_link (entry t) (read_link (read_bytes m) c) else read_link (read_bytes m) c

  own_seen : (k : Link) → numbered s.links link ≡ Some k → link_seen (noted_gone t (f k)) ≡ with_stamp (link_seen (noted_gone (with_open o s) k))
  own_seen k got =
      let both : Some l ≡ Some k = sym is.here ∙ got in
      let same : l ≡ k = (cc) in
      subst (λ (q : Link). link_seen (noted_gone t (f q)) ≡ with_stamp (link_seen (noted_gone (with_open o s) q))) same
      (stamp_by l r frames (entry t) l.gone (is_gone m t) (is_gone l s) gone_before)

  noted_t : links_noted t ≡ changed_at with_stamp x.book.ledger.links link
  noted_t =
      change_at (λ (k : Link). link_seen (noted_gone t k)) (λ (k : Link). link_seen (noted_gone (with_open o s) k)) f with_stamp (λ k. refl) link s.links own_seen
      ∙ ap (λ (ks : List LinkSeen). changed_at with_stamp ks link) (ap links_noted (sym (is_with_open o s is.at.current)) ∙ is.agrees.columns.links)

  read_is : read_bytes m ≡ h.read
  read_is = bytes_more l r frames ∙ sym (read.read_h link piece x o s is h r next receives)

  entry_is : entry t ≡ x.book.ledger.entry
  entry_is = (starts.books_t link piece x o s is h r next receives goes said).clock.entry_is

  noted_by : (b : Bool) → is_gone m t ≡ b → links_noted t ≡ (if b then changed_at (gone_link x.book.ledger.entry) cols link else cols)
  noted_by true e =
      noted_t ∙ ap (λ (b : Bool). changed_at (λ (c : LinkSeen). if b then gone_link (entry t) (read_link (read_bytes m) c) else read_link (read_bytes m) c) x.book.ledger.links link) e
      ∙ ap (λ (n : ℕ). changed_at (λ (c : LinkSeen). gone_link n (read_link (read_bytes m) c)) x.book.ledger.links link) entry_is
      ∙ ap (λ (n : ℕ). changed_at (λ (c : LinkSeen). gone_link x.book.ledger.entry (read_link n c)) x.book.ledger.links link) read_is
      ∙ sym (changed_twice (gone_link x.book.ledger.entry) (read_link h.read) x.book.ledger.links link)
  noted_by false e =
      noted_t ∙ ap (λ (b : Bool). changed_at (λ (c : LinkSeen). if b then gone_link (entry t) (read_link (read_bytes m) c) else read_link (read_bytes m) c) x.book.ledger.links link) e
      ∙ ap (λ (n : ℕ). changed_at (λ (c : LinkSeen). read_link n c) x.book.ledger.links link) read_is

  abbrev x2 : StateSeen
  x2 = record (downed link x1) { links = retired_in link h.links }

  sub_same : sub_of (link_at x1.book link) ≡ sub_of (link_at (starts.z0 link piece x o s is h r next receives goes said).book link)
  sub_same =
      ap sub_of (number_changed (read_link h.read) x.book.ledger.links link) ∙ sub_read h.read (numbered x.book.ledger.links link)
      ∙ sub_noted x.book.ledger.links s link l is.here is.agrees.columns.links ∙ sym (starts.sub_is link piece x o s is h r next receives goes said)

  retired_there : numbered (retired_in link h.links) link ≡ Some (tables.retired (with_link (received_link piece) slot))
  retired_there = number_changed tables.retired h.links link ∙ ap (option_map tables.retired) slot_there

  out_is : has_outstanding link x2 ≡ any_out
  out_is = subst (λ (n : ℕ). has_outstanding n x2 ≡ any_out) own (outstanding_same s l x.outstanding is.agrees.sets.outstanding)

  gone_x : channel.is_gone link x2 ≡ is_gone m t
  gone_x =
      ap (λ (b : Bool). b || ((tables.is_retiring x2.links link || is_of_shut_sub link x2) && not (has_outstanding link x2))) (ap is_dead_at retired_there ∙ alive)
      ∙ ap (λ (b : Bool). (b || is_of_shut_sub link x2) && not (has_outstanding link x2)) (ap is_retiring_at retired_there)
      ∙ ap not out_is ∙ sym gone_t

  abbrev stamped : List LinkSeen → StateSeen
  stamped ks = with_ledger_links ks x2

  now_by : (b : Bool) → is_gone m t ≡ b → (if b then stamped (changed_at (gone_link x.book.ledger.entry) cols link) else x2) ≡ stamped (links_noted t)
  now_by true e = ap stamped (sym (noted_by true e))
  now_by false e = ap stamped (sym (noted_by false e))

  now_retiring : retired link x1 ≡ z
  now_retiring =
      ap (λ (b : Bool). if b then stamped (changed_at (gone_link x.book.ledger.entry) cols link) else x2) gone_x ∙ now_by (is_gone m t) refl
      ∙ ap (λ (rs : List ℕ). record (stamped (links_noted t)) { resets = rs }) no_resets
      ∙ ap (λ (n : ℕ). record (relinked (retired_in link h.links) (links_noted t) x) { net = net_down n link x.net }) sub_same

  abbrev these : List (ℕ × EndNews)
  these = ends_kept h.news []

  received_by : (b : Bool) → is_retiring l ≡ b → (if b then x1 else retired link x1) ≡ z
  received_by true e = was_retiring e
  received_by false e = now_retiring

  received_z : received_all link h.news x1 ≡ z
  received_z =
      ends.received_is l s (last_stream r.frame.payload) (seen_at r) h.news (starts.places link piece x o s is h r next receives goes said)
      (starts.news_are link piece x o s is h r next receives goes said) link x1 ∙ received_by (is_retiring l) refl

  pub frame_is : coming link left (frame_received link h x) ≡ all_sealed (link ∷ []) (all_ended_on link these (starts.z1 link piece x o s is h r next receives goes said))
  frame_is =
      ap (λ (y : StateSeen). coming link left (sealed (sealed_one link (all_ended_on link these y)))) received_z
      ∙ sym (coming_sealed link left (sealed_one link (all_ended_on link these z))) ∙ ap sealed (sym (coming_sealed_one link left link (all_ended_on link these z)))
      ∙ ap (λ (y : StateSeen). sealed (sealed_one link y)) (sym (all_coming link left these z))
