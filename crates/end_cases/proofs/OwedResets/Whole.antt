-- Then the channel closes what it queued, and all agrees.
use Rattle.std.proofs.Common.{◌≡◌, ◌&&◌, ◌++◌, ◌==◌, ap, refl, subst, sym, ◌∙◌, Bool, true, false, List, [], Option, None, Some, ℕ, length, map}
use Rattle.std.specs.Option.{option_map}
use Rattle.call_actions.proofs.Lists.{filter_none}
use Rattle.channel_actions.specs.Agrees.{Agrees}
use Rattle.channel_actions.specs.Clock.{DrawsAlike}
use Rattle.end_cases.proofs.AttemptEnds.Unowed.{none_is_owed}
use Rattle.end_cases.proofs.OwedResets.Late.{AreLate, HasLate, IsLate}
use Rattle.end_cases.proofs.OwedResets.Sealed.{all_closed, all_sealed_is, seal_all, seal_at, seal_length, seal_slot, slot_ahead, slot_sealed}
use Rattle.end_cases.proofs.OwedResets.Walk.{HasMade, IsMid, all_made}
use Rattle.end_cases.specs.AttemptEnds.Ahead.{AgreesOffLinks, HasLinkAhead, IsAhead, LinksAhead, is_owed_on, owed_reset, resets_owed}
use Rattle.end_cases.specs.AttemptEnds.Laws.{HasReset, ResetsCatchUp, ResetsNext}
use Rattle.channel_actions.specs.Links.{lines_in}
use Rattle.channel_actions.specs.Readers.{SeesReaders}
use Rattle.channel_core.specs.States.{StateSeen}
use Rattle.channel_core.specs.declared.state.links.LinkSlot.{LinkSlot}
use Rattle.grpc_link.specs.declared.readers.TagReader.{TagReader}
use Rattle.lb_policy.specs.Table.{is_one_of}
use Rattle.link_actions.specs.Sees.{by_stream}
use Rattle.session_actions.specs.Links.{link_number}
use Rattle.session_actions.specs.declared.attempt.Attempt.{Attempt}
use Rattle.session_actions.specs.declared.entry.OpenEntry.{OpenEntry}
use Rattle.session_actions.specs.declared.link.Link.{Link}
use Rattle.session_actions.specs.declared.seen.Seen.{Seen}
use Rattle.session_order.specs.Quiescent.{IsStill, is_to_reset}
use Rattle.session_order.specs.Lines.{is_line}
use Rattle.session_order.specs.declared.line.Line.{Line}
use Rattle.session_order.specs.declared.line.Line.TheVariants as line

module _ (waits : Line → Bool) (also : List ℕ) (x : StateSeen) (o : OpenEntry) (s : Seen) (is : ResetsNext waits also x o s) where
  abbrev ks : List ℕ
  ks = also ++ x.resets

  abbrev closed : List LinkSlot
  closed = seal_all ks x.links

  abbrev y : StateSeen
  y = record x { links = closed; resets = [] }

  ahead : LinksAhead also x s
  ahead = is.agrees.links

  -- each link, closed
  late_one : (n : ℕ) (l : Link) (slot : LinkSlot) → (is_one_of ks n ≡ false → resets_owed l s ≡ []) → IsAhead l s slot → IsLate l s (seal_slot n ks slot)
  late_one n l slot none k = record {
    streams = slot_ahead (resets_owed l s) l s (lines_in l s) n ks slot k.streams;
    readers = subst (λ (rs : List TagReader). SeesReaders l s rs) (sym (slot_sealed n ks slot).readers) k.readers;
    rest = k.rest ∙ sym (slot_sealed n ks slot).rest;
    closed = all_closed n ks slot (λ off. k.fresh ∙ ap (λ (rs : List (ℕ × ℕ)). length rs) (none off));
  }

  has_one : (n : ℕ) (l : Link) → (is_one_of ks n ≡ false → resets_owed l s ≡ []) → HasLinkAhead x s l n → HasLate closed s l n
  has_one n l none h = record {
    slot = seal_slot n ks h.slot;
    there = seal_at n ks x.links ∙ ap (λ (q : Option LinkSlot). option_map (seal_slot n ks) q) h.there;
    over = h.sees.over ∙ sym (slot_sealed n ks h.slot).dead;
    retiring = h.sees.retiring ∙ sym (slot_sealed n ks h.slot).retiring;
    going = λ goes. late_one n l h.slot none (h.sees.going goes);
  }

  late : AreLate closed s
  late = record {
    count = ahead.count ∙ sym (seal_length ks x.links);
    each = λ n l at. has_one n l (λ off. ahead.closing n l at off) (ahead.each n l at);
  }

  mid : IsMid waits o is.late x closed s
  mid = record { current = is.current; still = is.still; books = is.agrees.books; afterwards = late; unreset = is.agrees.unreset }

  made : HasMade waits o is.late x closed s
  made = all_made waits o is.late x closed s mid

  abbrev u : Seen
  u = made.seen

  owes_none : (l : Link) → resets_owed l u ≡ []
  owes_none l =
      ap (λ (xs : List Attempt). map (owed_reset u) (by_stream xs))
      (filter_none (is_owed_on l u) (is_to_reset u) (λ a e. ap (λ (b : Bool). b && (link_number a == l.number)) e) u.attempts made.none)

  -- and once none is owed
  on_one : (l : Link) (slot : LinkSlot) → IsLate l u slot → IsAhead l u slot
  on_one l slot k = record { streams = k.streams; readers = k.readers; rest = k.rest; fresh = k.closed ∙ sym (ap (λ (rs : List (ℕ × ℕ)). length rs) (owes_none l)) }

  links_on : LinksAhead [] y u
  links_on = record {
    count = made.mid.afterwards.count;
    each = λ n l at. let h : HasLate closed u l n = made.mid.afterwards.each n l at in
        record { slot = h.slot; there = h.there; sees = record { over = h.over; retiring = h.retiring; going = λ goes. on_one l h.slot (h.going goes) } };
    closing = λ n l at off. owes_none l;
  }

  drawn_alike : (c : Option OpenEntry) → DrawsAlike c x → DrawsAlike c y
  drawn_alike None d = d
  drawn_alike (Some q) d = d

  books_on : AgreesOffLinks y u
  books_on = let b : AgreesOffLinks x u = made.mid.books in record {
    clock = record { entry_is = b.clock.entry_is; moment = b.clock.moment; draws = drawn_alike u.current b.clock.draws };
    columns = b.columns;
    configs = record { authority = b.configs.authority; shut = b.configs.shut; held = b.configs.held; unconfigured = b.configs.unconfigured; policy = b.configs.policy };
    buckets = b.buckets;
    calls = record { count = b.calls.count; each = λ k c at. let h = b.calls.each k c at in record { slot = h.slot; there = h.there; sees = record { bucket = h.sees.bucket; serves = h.sees.serves; order = h.sees.order; turn = h.sees.turn; due = h.sees.due; deadline_is = h.sees.deadline_is } } };
    net = b.net;
    orderly = b.orderly;
    sets = record { queue = b.sets.queue; ready_waiters = b.sets.ready_waiters; dues = b.sets.dues; deadlines = b.sets.deadlines; awaiting_config = b.sets.awaiting_config; fail_fast = b.sets.fail_fast; outstanding = b.sets.outstanding };
    kept = b.kept;
  }

  agrees_on : Agrees y u
  agrees_on = none_is_owed y u (record { books = books_on; links = links_on; unreset = made.mid.unreset }) made.none refl

  -- the line of resets gives none now, and the others are as still as they were
  at_reset : (l : Line) → is_line l line.Reset ≡ true → IsStill l o u
  at_reset line.Cut e = absurd (cc)
  at_reset line.Transparent e = absurd (cc)
  at_reset line.Inherited e = absurd (cc)
  at_reset line.Row e = absurd (cc)
  at_reset line.Final e = absurd (cc)
  at_reset line.Cancelled e = absurd (cc)
  at_reset line.Request e = absurd (cc)
  at_reset line.Overflow e = absurd (cc)
  at_reset line.Head e = absurd (cc)
  at_reset line.Response e = absurd (cc)
  at_reset line.Pick e = absurd (cc)
  at_reset line.Link e = absurd (cc)
  at_reset line.WireEnd e = absurd (cc)
  at_reset line.Reset e = made.none
  at_reset line.Shut e = absurd (cc)
  at_reset line.Retire e = absurd (cc)
  at_reset line.Begin e = absurd (cc)
  at_reset line.Give e = absurd (cc)
  at_reset line.Drop e = absurd (cc)
  at_reset line.Add e = absurd (cc)

  still_by : (l : Line) → waits l ≡ false → (b : Bool) → is_line l line.Reset ≡ b → IsStill l o u
  still_by l w true e = at_reset l e
  still_by l w false e = made.mid.still l e w

  pub has_reset : HasReset waits also x o s
  has_reset = record {
    actions = made.actions;
    seen = u;
    does = made.does;
    posts = made.posts;
    entries = made.entries;
    setup = made.setup;
    current = made.mid.current;
    still = λ l w. still_by l w (is_line l line.Reset) refl;
    fewer = made.fewer;
    unreset = made.mid.unreset;
    agrees = subst (λ (v : StateSeen). Agrees v u) (sym (all_sealed_is also x)) agrees_on;
  }

pub resets_are_made : ResetsCatchUp
resets_are_made waits also x o s is = has_reset waits also x o s is
