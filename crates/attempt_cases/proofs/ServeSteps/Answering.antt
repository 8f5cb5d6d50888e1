-- What follows a pick request by its answer: the attempt is placed on the link of the subchannel that was picked, or ends by the failed pick.
use Rattle.std.proofs.Common.{◌≡◌, ◌&&◌, ◌||◌, ◌+◌, ◌++◌, ◌==◌, ◌∙◌, ◌∷◌, ap, arith, refl, sym, Bool, true, false, List, [], None, Option, Some, ℕ, zero, suc, if◌then◌else◌, is_none, is_some, length, nat_lt, not, slice_get}
use Rattle.std.proofs.lemmas.Bool.{and_from, and_parts}
use Rattle.std.proofs.lemmas.Bool.Decides.{nat_tests}
use Rattle.std.specs.List.{list_any}
use Rattle.std.specs.Option.{option_map, option_map_or}
use Rattle.std.specs.Prelude.{option_and_then, unwrap_or}
use Rattle.attempt_ledger.specs.declared.ledger.Ask.{Ask}
use Rattle.attempt_ledger.specs.declared.row.Placed.{Placed}
use Rattle.channel_actions.proofs.Gone.{all_numbered}
use Rattle.channel_actions.proofs.KeptSessions.Lists.{counted_places}
use Rattle.channel_actions.specs.Agrees.{Agrees}
use Rattle.channel_actions.specs.KeptSessions.Kept.{came_up, has_link_for, is_sound_ask, is_sound_sub}
use Rattle.channel_actions.specs.Links.{HasLink, IsGoing}
use Rattle.attempt_cases.specs.ServeSteps.Follows.{AnswersAreNext, IsAsked, PlaceNext, passed_by, request_made}
use Rattle.attempt_cases.specs.ServeSteps.Laws.{AskNext, answer_for, asked_for}
use Rattle.channel_core.specs.Books.{limit_at, slot_at}
use Rattle.channel_core.specs.Settling.{moves, offered, place_at, placed, placed_if, placed_on as placed_on_link, settled_in}
use Rattle.channel_core.specs.States.{StateSeen}
use Rattle.channel_core.specs.Tables.{takes_rows, takes_rows_at}
use Rattle.channel_net.specs.Lists.{link_of}
use Rattle.channel_net.specs.declared.links.OwnLink.{OwnLink}
use Rattle.grpc_base.specs.declared.kind.Pick.TheVariants as pick
use Rattle.lb_policy.specs.Table.{is_ready}
use Rattle.net_actions.specs.Sees.{SubchannelsAgree}
use Rattle.session_actions.specs.Actions.{following}
use Rattle.session_actions.specs.AttemptEnds.{end_of, pick_end}
use Rattle.session_actions.specs.Attempts.{is_over}
use Rattle.session_actions.specs.Entries.{entry}
use Rattle.session_actions.specs.Events.{is_loss}
use Rattle.session_actions.specs.Links.{is_retiring}
use Rattle.session_actions.specs.Policies.{follow_ask, follow_pick, is_unfollowed, next_of_pick, placed_on, turn_at}
use Rattle.session_actions.specs.Subchannels.{is_going_down, is_to_be_ready, is_to_go_down}
use Rattle.session_actions.specs.Words.{holds, last_of, numbered}
use Rattle.session_actions.specs.declared.action.Action.{Action}
use Rattle.session_actions.specs.declared.action.Action.TheVariants as action
use Rattle.session_actions.specs.declared.attempt.Attempt.{Attempt}
use Rattle.session_actions.specs.declared.entry.OpenEntry.{OpenEntry}
use Rattle.session_actions.specs.declared.link.Link.{Link}
use Rattle.session_actions.specs.declared.policy.PolicyUse.{PolicyUse}
use Rattle.session_actions.specs.declared.seen.Seen.{Seen}
use Rattle.session_actions.specs.declared.subchannel.Subchannel.{Subchannel}
use Rattle.session_order.specs.Quiescent.{is_link_new}
use Rattle.session_order.specs.Laws.{FirstLineGives}
use Rattle.session_order.specs.Lines.{is_line, rank}
use Rattle.session_order.specs.declared.line.Line.{Line}
use Rattle.session_order.specs.declared.line.Line.TheVariants as line
use Rattle.subchannel.specs.Records.{SubRecord}

mapped_some : {X Y : Type 0} (f : X → Y) (o : Option X) → is_some (option_map f o) ≡ is_some o
mapped_some f None = refl
mapped_some f (Some x) = refl

self_equal : (n : ℕ) → (n == n) ≡ true
self_equal n = grind (arith, nat_tests)

-- the last one of a longer list
long_more : {X : Type 0} (xs : List X) (a : X) → length (xs ++ a ∷ []) ≡ suc (length xs)
long_more [] a = refl
long_more (x ∷ xs) a = ap (λ (n : ℕ). suc n) (long_more xs a)

get_more : {X : Type 0} (xs : List X) (a : X) → slice_get (xs ++ a ∷ []) (length xs) ≡ Some a
get_more [] a = refl
get_more (x ∷ xs) a = get_more xs a

pub last_more : {X : Type 0} (xs : List X) (a : X) → last_of (xs ++ a ∷ []) ≡ Some a
last_more xs a = ap (numbered (xs ++ a ∷ [])) (long_more xs a) ∙ get_more xs a

-- no one passes a test that none passes
none_or : (b c : Bool) → (b || c) ≡ false → (b ≡ false) × (c ≡ false)
none_or true c e = absurd (let bad : true ≡ false = e in (cc))
none_or false c e = (refl, e)

none_got : {X : Type 0} (test : X → Bool) (xs : List X) (i : ℕ) (x : X) → list_any test xs ≡ false → slice_get xs i ≡ Some x → test x ≡ false
none_got test [] i x e got = absurd (let bad : None ≡ Some x = got in (cc))
none_got test (y ∷ xs) zero x e got =
    let same : y ≡ x = (cc) in ap test (sym same) ∙ (none_or (test y) (list_any test xs) e).0
none_got test (y ∷ xs) (suc i) x e got = none_got test xs i x (none_or (test y) (list_any test xs) e).1 got

none_at : {X : Type 0} (test : X → Bool) (xs : List X) (n : ℕ) (x : X) → list_any test xs ≡ false → numbered xs n ≡ Some x → test x ≡ false
none_at test xs zero x e got = absurd (let bad : None ≡ Some x = got in (cc))
none_at test xs (suc i) x e got = none_got test xs i x e got

-- the link of a subchannel is that of the net
link_got : (n i : ℕ) (subs : List Subchannel) (board : List SubRecord) (links : List OwnLink) (b : Subchannel) → SubchannelsAgree n subs board links → slice_get subs i ≡ Some b
    → b.link ≡ link_of links (n + i)
link_got n i [] board links b h got = absurd (let bad : None ≡ Some b = got in (cc))
link_got n i (c ∷ subs) [] links b h got = absurd h
link_got n zero (c ∷ subs) (r ∷ board) links b h got =
    let same : c ≡ b = (cc) in
    let at : n ≡ n + 0 = omega arith in ap (λ (k : Subchannel). k.link) (sym same) ∙ h.0.link_is ∙ ap (link_of links) at
link_got n (suc i) (c ∷ subs) (r ∷ board) links b h got =
    let at : n + 1 + i ≡ n + suc i = omega arith in link_got (n + 1) i subs board links b h.1 got ∙ ap (link_of links) at

link_at : (n : ℕ) (subs : List Subchannel) (board : List SubRecord) (links : List OwnLink) (b : Subchannel) → SubchannelsAgree 1 subs board links → numbered subs n ≡ Some b
    → b.link ≡ link_of links n
link_at zero subs board links b h got = absurd (let bad : None ≡ Some b = got in (cc))
link_at (suc i) subs board links b h got =
    let at : 1 + i ≡ suc i = omega arith in link_got 1 i subs board links b h got ∙ ap (link_of links) at

-- the lines before that of pick requests
other_line : (loses : Bool) (m : Line) → nat_lt (rank loses m) 11 ≡ true → is_line m line.Pick ≡ false
other_line loses line.Cut e = refl
other_line loses line.Transparent e = refl
other_line loses line.Inherited e = refl
other_line loses line.Row e = refl
other_line loses line.Final e = refl
other_line loses line.Cancelled e = refl
other_line loses line.Request e = refl
other_line loses line.Overflow e = refl
other_line loses line.Head e = refl
other_line loses line.Response e = refl
other_line loses line.Pick e = absurd (let bad : false ≡ true = e in (cc))
other_line loses line.Link e = refl
other_line loses line.WireEnd e = refl
other_line loses line.Reset e = refl
other_line loses line.Shut e = refl
other_line loses line.Retire e = refl
other_line loses line.Begin e = refl
other_line loses line.Give e = refl
other_line loses line.Drop e = refl
other_line loses line.Add e = refl

-- a subchannel with a link
pub record OnLink (s : Seen) (sub : ℕ) : Type 0 where
  pub b : Subchannel
  pub there : numbered s.subs sub ≡ Some b
  pub link : ℕ
  pub has : b.link ≡ Some link

with_link_by : (s : Seen) (sub : ℕ) (b : Subchannel) (q : Option ℕ) → numbered s.subs sub ≡ Some b → b.link ≡ q → is_some q ≡ true → OnLink s sub
with_link_by s sub b None there is e = absurd (let bad : false ≡ true = e in (cc))
with_link_by s sub b (Some link) there is e = record { b = b; there = there; link = link; has = is }

on_link_by : (s : Seen) (sub : ℕ) (q : Option Subchannel) → numbered s.subs sub ≡ q → holds (λ (b : Subchannel). is_some b.link) q ≡ true → OnLink s sub
on_link_by s sub None is e = absurd (let bad : false ≡ true = e in (cc))
on_link_by s sub (Some b) is e = with_link_by s sub b b.link is refl e

link_there : (s : Seen) (n : ℕ) (q : Option Link) → numbered s.links n ≡ q → is_some q ≡ true → (l : Link) × (numbered s.links n ≡ Some l)
link_there s n None is e = absurd (let bad : false ≡ true = e in (cc))
link_there s n (Some l) is e = (l, is)

none_of : {X : Type 0} (q : Option X) → is_some q ≡ false → q ≡ None
none_of None e = refl
none_of (Some x) e = absurd (let bad : true ≡ false = e in (cc))

module _ (first : FirstLineGives) (p : ℕ × ℕ) (x : StateSeen) (o : OpenEntry) (s : Seen) (k : AskNext p s) where
  abbrev g : PolicyUse
  g = k.policy

  abbrev t : Seen
  t = request_made p g s

  abbrev y : StateSeen
  y = asked_for p.1 g s x

  abbrev ask : Ask
  ask = record { entry = entry s; generation = g.number; row = p.1; answer = answer_for g s }

  module _ (h : Agrees y t) (after : IsAsked p (passed_by p o) t) where
    last_is : last_of t.asks ≡ Some ask
    last_is = last_more s.asks ask

    unfollowed : is_unfollowed k.attempt ≡ true
    unfollowed = (and_parts (is_none k.attempt.row.placed && is_none k.attempt.row.ended) (not (is_over k.attempt s)) k.queued).0

    entry_same : entry t ≡ entry s
    entry_same =
        ap (λ (b : Bool). length s.entries + (if b then 1 else 0)) (mapped_some (λ (e : OpenEntry). record e { turn = turn_at p.1 s }) s.current)

    now_asked : (is_unfollowed k.attempt && (ask.entry == entry t)) ≡ true
    now_asked = and_from (is_unfollowed k.attempt) (entry s == entry t) unfollowed (ap (λ (n : ℕ). entry s == n) entry_same ∙ self_equal (entry s))

    pick_is : next_of_pick t ≡ follow_pick ask t k.attempt (answer_for g s)
    pick_is =
        ap (option_and_then (follow_ask t)) last_is
        ∙ ap (option_and_then (λ (a : Attempt). if is_unfollowed a && (ask.entry == entry t) then follow_pick ask t a ask.answer else None)) k.there
        ∙ ap (λ (b : Bool). if b then follow_pick ask t k.attempt (answer_for g s) else None) now_asked

    follows_pick : (a : Action) → next_of_pick t ≡ Some a → following t ≡ Some a
    follows_pick a e = first line.Pick a (passed_by p o) t after.current (λ m before. after.quiescent m (other_line (is_loss o.event) m before)) e

    pub fails_next : answer_for g s ≡ pick.Fail → following t ≡ Some (action.AttemptEnds p.1 (end_of k.attempt pick_end t))
    fails_next is =
        follows_pick (action.AttemptEnds p.1 (end_of k.attempt pick_end t))
        (pick_is ∙ ap (follow_pick ask t k.attempt) is ∙ ap (λ (n : ℕ). Some (action.AttemptEnds n (end_of k.attempt pick_end t))) k.place)

    module _ (sub : ℕ) (is : answer_for g s ≡ pick.Place sub) where
      sound : is_sound_ask t ask ≡ true
      sound = sym (ap (λ (q : Option Ask). option_map_or (is_sound_ask t) q true) last_is) ∙ h.kept.picked

      has_link : has_link_for t.subs (pick.Place sub) ≡ true
      has_link =
          ap (has_link_for t.subs) (sym is)
          ∙ sym (ap (λ (b : Bool). not b || has_link_for t.subs (answer_for g s)) now_asked)
          ∙ sym (ap (holds (λ (a : Attempt). not (is_unfollowed a && (ask.entry == entry t)) || has_link_for t.subs ask.answer)) k.there) ∙ sound

      on : OnLink t sub
      on = on_link_by t sub (numbered t.subs sub) refl has_link

      number_is : on.b.number ≡ sub
      number_is = counted_places (λ (b : Subchannel). b.number) t.subs h.kept.subs sub on.b on.there

      up_sub : is_sound_sub t on.b ≡ true
      up_sub = all_numbered (is_sound_sub t) t.subs sub on.b on.there h.kept.boards

      came : came_up t on.link ≡ true
      came = sym (ap (λ (q : Option ℕ). option_map_or (came_up t) q (not (is_ready on.b.state))) on.has) ∙ up_sub

      linked : (l : Link) × (numbered t.links on.link ≡ Some l)
      linked = link_there t on.link (numbered t.links on.link) refl came

      still_link : is_link_new t on.b ≡ false
      still_link = none_at (is_link_new t) t.subs sub on.b (after.quiescent line.Link refl) on.there

      up : is_going_down linked.0 ≡ false
      up =
          sym (ap (holds is_going_down) (ap (option_and_then (numbered t.links)) on.has ∙ linked.1))
          ∙ (none_or (is_to_be_ready t on.b) (is_to_go_down t on.b) still_link).1

      -- the channel's link takes attempts
      own : HasLink y t linked.0 on.link
      own = h.links.each on.link linked.0 linked.1

      going : IsGoing linked.0 t own.slot
      going = own.sees.going (none_of linked.0.over (none_or (is_some linked.0.over) (is_retiring linked.0) up).0)

      takes : takes_rows on.link y.links ≡ true
      takes =
          ap takes_rows_at own.there
          ∙ ap (λ (q : Option _). not (is_some q || own.slot.link.link.wire.retiring)) going.streams.sees.sees.reads.whole
          ∙ ap not (going.streams.sees.sees.reads.retiring ∙ (none_or (is_some linked.0.over) (is_retiring linked.0) up).1)

      net_link : link_of y.net.links sub ≡ Some on.link
      net_link = sym (link_at sub t.subs y.net.board y.net.links on.b h.net.subs_are on.there) ∙ on.has

      abbrev at : Placed
      at = place_at g.number sub on.link y

      at_is : placed_on ask t on.b ≡ at
      at_is =
          ap (λ (n : ℕ). record (placed_on ask t on.b) { entry = n }) h.clock.entry_is
          ∙ ap (λ (n : ℕ). record (placed_on ask t on.b) { entry = y.book.ledger.entry; moment = n }) h.clock.moment
          ∙ ap (λ (n : ℕ). record (placed_on ask t on.b) { entry = y.book.ledger.entry; moment = y.book.moment; sub = n }) number_is
          ∙ ap (λ (q : Option ℕ). record at { link = unwrap_or q 0 }) on.has

      next : following t ≡ Some (action.AttemptPlaced p.1 at)
      next =
          follows_pick (action.AttemptPlaced p.1 at)
          (pick_is ∙ ap (follow_pick ask t k.attempt) is
          ∙ ap (option_map (λ (b : Subchannel). action.AttemptPlaced k.attempt.place (placed_on ask t b))) on.there
          ∙ ap (λ (n : ℕ). Some (action.AttemptPlaced n (placed_on ask t on.b))) k.place ∙ ap (λ (z : Placed). Some (action.AttemptPlaced p.1 z)) at_is)

      channel : placed p.0 p.1 g.number sub y ≡ moves (settled_in p.0 p.1 at (offered on.link p.1 (limit_at (slot_at y.book p.0)) y))
      channel =
          ap (λ (q : Option ℕ). placed_on_link p.0 p.1 g.number sub q y) net_link
          ∙ ap (λ (b : Bool). placed_if b p.0 p.1 at (offered on.link p.1 (limit_at (slot_at y.book p.0)) y)) takes

      pub place_next : PlaceNext p g sub y t
      place_next = record { link = on.link; on = linked.0; there = linked.1; up = up; picked = on.b; is_picked = on.there; linked = on.has; takes = takes; next = next; channel = channel }

pub answers_are_next : FirstLineGives → AnswersAreNext
answers_are_next first = record {
  places = λ p sub x o s k is h after. place_next first p x o s k h after sub is;
  fails = λ p x o s k is h after. fails_next first p x o s k h after is;
}
