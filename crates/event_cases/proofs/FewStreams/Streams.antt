-- A drain opens streams only for attempts that wait on its link.
use Rattle.channel_actions.proofs.Dialling.{unshut_by}
use Rattle.channel_actions.proofs.Refusing.{room_same}
use Rattle.channel_actions.specs.Agrees.{Agrees}
use Rattle.channel_actions.specs.Known.{IsKnown}
use Rattle.channel_actions.specs.Links.{HasLink, IsGoing}
use Rattle.channel_actions.specs.TransparentRetries.Laws.{StreamsAreBounded}
use Rattle.attempt_cases.proofs.DrainEvents.Rooms.{IsThere, one_some, there_by}
use Rattle.event_cases.proofs.FewStreams.Known.{entries_within}
use Rattle.event_cases.specs.FewStreams.Laws.{StreamsAreFew}
use Rattle.event_cases.specs.HeldKinds.Laws.{HeldPlansAreShort}
use Rattle.channel_core.proofs.BookLaws.{number_changed}
use Rattle.channel_core.specs.Applying as channel
use Rattle.channel_core.specs.Applying.{or_room}
use Rattle.channel_core.specs.Books.{lines_of}
use Rattle.channel_core.specs.Draining.{DrainLeaves, drained_limit}
use Rattle.channel_core.specs.States.{StateSeen}
use Rattle.channel_core.specs.Tables as tables
use Rattle.channel_core.specs.Tables.{DrainGives}
use Rattle.channel_core.specs.declared.state.links.LinkSlot.{LinkSlot}
use Rattle.grpc_base.specs.declared.event.Event.TheVariants as event
use Rattle.grpc_base.specs.declared.event.Reply.{Reply}
use Rattle.h2_link.specs.Drains.{Drains, Outgoing, Sends, next_control, next_data, next_head, opens, sender, sent_control, sent_head}
use Rattle.h2_link.specs.Drains.{Sent as Going}
use Rattle.h2_link.specs.Feeds.{Line}
use Rattle.h2_link.specs.Wire.{Wire}
use Rattle.h2_link.specs.declared.control.Control.{Control}
use Rattle.h2_link.specs.declared.news.Drained.{Drained}
use Rattle.link_actions.proofs.DataSent.{IsShare, share_found}
use Rattle.link_actions.specs.Sees.{odds}
use Rattle.session_actions.specs.Reading.{opened_streams}
use Rattle.session_actions.specs.Refusals.{link_refusal}
use Rattle.session_actions.specs.Words.{numbered}
use Rattle.session_actions.specs.Writing.{waiting_on}
use Rattle.session_actions.specs.declared.attempt.Attempt.{Attempt}
use Rattle.session_actions.specs.declared.seen.Seen.{Seen}
use Rattle.std.proofs.Common.{Bool, List, None, Option, Some, [], ap, arith, drop, false, if◌then◌else◌, length, min, refl, slice_get, suc, subst, sym, true, zero, ℕ, ◌*◌, ◌++◌, ◌+◌, ◌<◌, ◌∙◌, ◌∷◌, ◌≡◌, ◌≤◌}
use Rattle.std.proofs.lemmas.List.{length-append, length-map}
use Rattle.std.specs.Option.{option_map}

-- streams that were opened, and attempts that wait for one: a frame makes them no more
abbrev taken : Wire → ℕ
taken w = w.opened + length w.waiting

itself : (n : ℕ) → n ≤ n
itself n = omega arith

less_on : (a b c : ℕ) → a ≤ b → b ≤ c → a ≤ c
less_on a b c e f = omega (arith, e, f)

is_sent : (w : Wire) (a b : Going) → Some a ≡ Some b → taken a.wire ≤ taken w → taken b.wire ≤ taken w
is_sent w a b e less = let same : a ≡ b = (cc) in subst (λ (z : Going). taken z.wire ≤ taken w) same less

data_less : (w : Wire) (g : ℕ → Line) (z : Going) → next_data w g (sender w.window w.initial g 0 w.live) ≡ Some z → taken z.wire ≤ taken w
data_less w g z e =
    let is : IsShare w g 0 w.live z = share_found w g 0 w.live z e in subst (λ (v : Wire). taken v ≤ taken w) (sym is.wire) (itself (taken w))

one_less : (waiting : List ℕ) (tag n : ℕ) → slice_get waiting 0 ≡ Some tag → n + 1 + length (drop 1 waiting) ≤ n + length waiting
one_less [] tag n e = absurd (let no : None ≡ Some tag = e in (cc))
one_less (t ∷ waiting) tag n e = prefix_on n (length waiting)
  where
    prefix_on : (n m : ℕ) → n + 1 + m ≤ n + suc m
    prefix_on n m = omega arith

first_of : (b : Bool) (o : Option ℕ) (tag : ℕ) → (if b then o else None) ≡ Some tag → o ≡ Some tag
first_of true o tag e = e
first_of false o tag e = absurd (let no : None ≡ Some tag = e in (cc))

head_less : (w : Wire) (g : ℕ → Line) (q : Option ℕ) (z : Going) → opens w ≡ q → next_head w g q ≡ Some z → taken z.wire ≤ taken w
head_less w g None z is e = data_less w g z e
head_less w g (Some tag) z is e = is_sent w (sent_head w g tag) z e (one_less w.waiting tag w.opened (first_of _ (slice_get w.waiting 0) tag is))

control_less : (w : Wire) (g : ℕ → Line) (q : Option Control) (z : Going) → next_control w g q ≡ Some z → taken z.wire ≤ taken w
control_less w g None z e = head_less w g (opens w) z refl e
control_less w g (Some c) z e = is_sent w (sent_control w g c) z e (itself (taken w))

sends_less : (frames : List Outgoing) (w w2 : Wire) (g g2 : ℕ → Line) → Sends w g frames w2 g2 → taken w2 ≤ taken w
sends_less [] w w2 g g2 e = subst (λ (z : Wire). taken z ≤ taken w) (sym e.0) (itself (taken w))
sends_less (f ∷ frames) w w2 g g2 e =
    less_on (taken w2) (taken e.0.wire) (taken w) (sends_less frames e.0.wire w2 e.0.lines g2 e.3) (control_less w g (slice_get w.queue.items 0) e.0 e.1)

odds_many : (n : ℕ) → length (odds n) ≡ n
odds_many zero = refl
odds_many (suc n) = last_on (length (odds n ++ (2 * n + 1) ∷ [])) (length (odds n)) n (length-append (odds n) ((2 * n + 1) ∷ [])) (odds_many n)
  where
    last_on : (a b c : ℕ) → a ≡ b + 1 → b ≡ c → a ≡ suc c
    last_on a b c e f = omega (arith, e, f)

module _ (bounded : StreamsAreBounded) (plans : HeldPlansAreShort) (x y : StateSeen) (s : Seen) (r : Reply) (link room : ℕ) (slot : LinkSlot) (h : Agrees x s) (known : IsKnown x s)
    (kept : channel.refusal_of (event.Drain link room) x ≡ None) (leaves : DrainLeaves link (min room drained_limit) x r y)
    (there_now : tables.numbered y.links link ≡ Some slot) where
  both : (x.shut ≡ false) × (or_room room (channel.link_refusal link x) ≡ None)
  both = unshut_by x.shut (or_room room (channel.link_refusal link x)) kept

  there : IsThere s link room
  there = there_by s link room (numbered s.links link) refl (sym (room_same x s h link room) ∙ both.1)

  has : HasLink x s there.l link
  has = h.links.each link there.l there.here

  going : IsGoing there.l s has.slot
  going = has.sees.going there.over

  abbrev w : Wire
  w = has.slot.link.link.wire

  -- before it, opened or waiting
  taken_few : taken w < 1073741824
  taken_few =
      let sees = going.streams.sees in
      let many : length (opened_streams there.l) ≡ w.opened = ap length sees.sees.reads.opened ∙ odds_many w.opened in
      let waits : length w.waiting ≡ length (waiting_on there.l s) = ap length sees.waits ∙ length-map (waiting_on there.l s) (λ (a : Attempt). a.place) in
      let reached = known.reached in
      let all : length (opened_streams there.l) + length (waiting_on there.l s) < 1073741824
      = bounded reached.setup reached.actions s reached.does (entries_within x s known) (plans reached.setup reached.actions s reached.does) link there.l there.here in
      all_on w.opened (length w.waiting) (length (opened_streams there.l)) (length (waiting_on there.l s)) many waits all
    where
      all_on : (a b c d : ℕ) → c ≡ a → b ≡ d → c + d < 1073741824 → a + b < 1073741824
      all_on a b c d e f g = omega (arith, e, f, g)

  below : (z : Wire) → taken z ≤ taken w → z.opened < 1073741824
  below z less = below_on z.opened (length z.waiting) (taken w) less taken_few
    where
      below_on : (a b c : ℕ) → a + b ≤ c → c < 1073741824 → a < 1073741824
      below_on a b c e f = omega (arith, e, f)

  by_drained : (q : Option Drained) → DrainGives (min room drained_limit) x.links link (lines_of x.book) q y.links (lines_of leaves.fed) → slot.link.link.wire.opened < 1073741824
  by_drained None g =
      let same : has.slot ≡ slot
      = one_some has.slot slot (tables.numbered y.links link) (ap (λ (ls : List LinkSlot). tables.numbered ls link) g.1 ∙ has.there) there_now in
      below slot.link.link.wire (subst (λ (z : LinkSlot). taken z.link.link.wire ≤ taken w) same (itself (taken w)))
  by_drained (Some drained) g =
      let was : g.before ≡ has.slot = one_some g.before has.slot (tables.numbered x.links link) g.was has.there in
      let now : tables.numbered y.links link ≡ Some g.after
      = ap (λ (ls : List LinkSlot). tables.numbered ls link) g.is ∙ number_changed (λ (z : LinkSlot). g.after) x.links link ∙ ap (option_map (λ (z : LinkSlot). g.after)) has.there in
      let same : g.after ≡ slot = one_some g.after slot (tables.numbered y.links link) now there_now in
      let sends : Drains (min room drained_limit) g.before.link.link.wire (lines_of x.book) drained.octets g.after.link.link.wire (lines_of leaves.fed) = g.drains.sends in
      let less : taken g.after.link.link.wire ≤ taken g.before.link.link.wire
      = sends_less sends.frames g.before.link.link.wire g.after.link.link.wire (lines_of x.book) (lines_of leaves.fed) sends.sends in
      let less_now : taken g.after.link.link.wire ≤ taken w = subst (λ (z : LinkSlot). taken g.after.link.link.wire ≤ taken z.link.link.wire) was less in
      below slot.link.link.wire (subst (λ (z : LinkSlot). taken z.link.link.wire ≤ taken w) same less_now)

  pub few_streams : slot.link.link.wire.opened < 1073741824
  few_streams = by_drained leaves.drained leaves.gives

pub streams_are_few : StreamsAreBounded → HeldPlansAreShort → StreamsAreFew
streams_are_few bounded plans x y s r link room slot h known kept applies there_now = few_streams bounded plans x y s r link room slot h known kept applies there_now
