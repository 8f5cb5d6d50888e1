-- A link is over.
use Rattle.std.proofs.Common.{◌≡◌, ap, refl, subst, sym, ◌∙◌, Bool, true, false, Option, None, Some, ℕ, if◌then◌else◌, is_none, is_some, option_and_then}
use Rattle.std.specs.Option.{option_map_or}
use Rattle.h2_link.specs.Feeds.{Line}
use Rattle.h2_link.specs.Steps.{broke}
use Rattle.h2_link.specs.Wire.{Report, Wire}
use Rattle.link_actions.proofs.Reading.{reads_are_same}
use Rattle.link_actions.proofs.Written.{changed_here}
use Rattle.link_actions.specs.Laws.{IsSameRead}
use Rattle.link_actions.specs.LossActions.Laws.{BreaksAreReported, BreaksAreSame, LossesAreOver, NothingIsRead, TimeoutsAreOver, with_over}
use Rattle.link_actions.specs.LossActions.Sees.{IsGoing, SeesOver}
use Rattle.session_actions.specs.Links.{link_over, wants_resolution}
use Rattle.session_actions.specs.Reading.{next_read}
use Rattle.session_actions.specs.Subchannels.{link_timed_out, noted_by_policies, with_sub, without_link}
use Rattle.session_actions.specs.Words.{changed, numbered}
use Rattle.session_actions.specs.Writing.{link_broken, next_frame_read, read_action, read_next}
use Rattle.session_actions.specs.declared.action.Action.TheVariants as action
use Rattle.session_actions.specs.declared.attempt.Attempt.{Attempt}
use Rattle.session_actions.specs.declared.link.Link.{Link}
use Rattle.session_actions.specs.declared.link.LinkOver.{LinkOver}
use Rattle.session_actions.specs.declared.link.LinkOver.TheVariants as over
use Rattle.session_actions.specs.declared.link.NextRead.{NextRead}
use Rattle.session_actions.specs.declared.link.NextRead.TheVariants as nextread
use Rattle.session_actions.specs.declared.seen.Seen.{Seen}
use Rattle.session_actions.specs.declared.subchannel.Subchannel.{Subchannel}
use Rattle.grpc_base.specs.declared.event.Conn.TheVariants as conn
use Rattle.link_actions.proofs.StreamActions.StreamGoes.{Stands, stands}
use Rattle.link_actions.specs.StreamActions.Laws.{IsOn}
use Rattle.link_actions.specs.StreamActions.Sees.{SeesStreams, response_of}

-- the responses on its streams go on
pub all_go : (l : Link) (s : Seen) (w : Wire) (g : ℕ → Line) (n : ℕ) (a : Attempt) → SeesStreams l s w g → IsOn l s n a → IsGoing (response_of l s n a)
all_go l s w g n a is on =
    let st : Stands l s w n a = stands l s w g n a is on in
    record {
      goes = ap (λ (k : ℕ). (response_of l s k a).end) (sym st.number) ∙ st.handled.goes;
      small = ap (λ (k : ℕ). (response_of l s k a).large) (sym st.number) ∙ st.handled.small;
    }

-- it is over, for whatever cause
pub is_over_now : (l : Link) (s : Seen) (w : Wire) (g : ℕ → Line) (why : LinkOver) → SeesStreams l s w g → SeesOver (with_over why l) (link_over why l.number s)
is_over_now l s w g why is = record {
  at = changed_here (with_over why) l.number s.links l is.sees.at;
  over = refl;
  goes = λ n a on. (
      let before : IsOn l s n a = record { there = on.there; out = on.out; stream = on.stream } in
      let going : IsGoing (response_of l s n a) = all_go l s w g n a is before in
      record { goes = going.goes; small = going.small });
  places = is.sees.places;
}

broken_over : (l : Link) (s : Seen) → SeesOver (with_over over.Broken l) (link_over over.Broken l.number s) → SeesOver (with_over over.Broken l) (link_broken l.number s)
broken_over l s is = record {
  at = is.at;
  over = is.over;
  goes = λ n a on. (
      let going = is.goes n a (record { there = on.there; out = on.out; stream = on.stream }) in
      record { goes = going.goes; small = going.small });
  places = is.places;
}

pub losses_are_over : LossesAreOver
losses_are_over l s w g is =
    let o : SeesOver (with_over over.Lost l) (link_over over.Lost l.number s) = is_over_now l s w g over.Lost is in
    record {
      at = o.at;
      over = o.over;
      goes = λ n a on. (
          let going = o.goes n a (record { there = on.there; out = on.out; stream = on.stream }) in
          record { goes = going.goes; small = going.small });
      places = o.places;
    }

-- the subchannel gives it up
by_subs : (m : Link) (t : Seen) (o : Option Subchannel) → SeesOver m t → SeesOver m (option_map_or (λ b. noted_by_policies b t) o t)
by_subs m t None is = is
by_subs m t (Some b) is = record {
  at = is.at;
  over = is.over;
  goes = λ n a on. (
      let going = is.goes n a (record { there = on.there; out = on.out; stream = on.stream }) in
      record { goes = going.goes; small = going.small });
  places = is.places;
}

given_up : (m : Link) (u v : Seen) (sub : ℕ) → u ≡ v → SeesOver m v → SeesOver m (with_sub (without_link conn.Failure) sub (wants_resolution u))
given_up m u v sub e is =
    let F : Seen → Type 0 = λ x. SeesOver m (with_sub (without_link conn.Failure) sub (wants_resolution x)) in
    let t : Seen = record (wants_resolution v) { subs = changed (without_link conn.Failure) sub v.subs } in
    let over : SeesOver m t = record {
      at = is.at;
      over = is.over;
      goes = λ n a on. (
          let going = is.goes n a (record { there = on.there; out = on.out; stream = on.stream }) in
          record { goes = going.goes; small = going.small });
      places = is.places;
    } in
    subst F (sym e) (by_subs m t (numbered t.subs sub) over)

pub timeouts_are_over : TimeoutsAreOver
timeouts_are_over l s w g sub b is at link =
    given_up (with_over over.TimedOut l) (option_map_or (λ (x : Subchannel). link_timed_out x s) (numbered s.subs sub) s) (link_over over.TimedOut l.number s) sub
    (ap (λ (o : Option Subchannel). option_map_or (λ x. link_timed_out x s) o s) at
    ∙ ap (λ (o : Option ℕ). option_map_or (λ number. link_over over.TimedOut number s) o s) link)
    (is_over_now l s w g over.TimedOut is)

-- the same bytes break it
pub record BreaksAs (l : Link) (s : Seen) (w : Wire) (number : ℕ) (t : Report) : Type 0 where
  pub reported : t ≡ broke w number
  pub next : next_read l s ≡ nextread.Broken number

breaks_by : (l : Link) (s : Seen) (w : Wire) (o : NextRead) (taken number : ℕ) (t : Report) → next_read l s ≡ o → IsSameRead l s w o (Some (taken, t)) → t.wire.broken ≡ Some number
    → BreaksAs l s w number t
breaks_by l s w nextread.Nothing taken number t e same b = absurd same
breaks_by l s w (nextread.Broken why) taken number t e same b =
    let is : Some why ≡ Some number = ap (λ (x : Report). x.wire.broken) (sym same) ∙ b in
    let one : why ≡ number = (cc) in
    record { reported = same ∙ ap (broke w) one; next = e ∙ ap (λ (k : ℕ). nextread.Broken k) one }
breaks_by l s w (nextread.Frame r) taken number t e same b =
    let never : None ≡ Some number = sym same.1.whole ∙ b in
    absurd (let no : ⊥ = (cc) in no)

read_when_open : (l : Link) (s : Seen) (number : ℕ) → numbered s.links l.number ≡ Some l → l.over ≡ None → next_read l s ≡ nextread.Broken number
    → next_frame_read l.number s ≡ Some (action.LinkBreaks l.number number)
read_when_open l s number at none next =
    ap (λ (o : Option Link). option_and_then (read_next l.number s) o) at
    ∙ ap (λ (o : Option LinkOver). if is_none o then read_action l.number (next_read l s) else None) none
    ∙ ap (read_action l.number) next

pub breaks_are_same : BreaksAreSame
breaks_are_same l s w g bytes taken number t is none rest prefix broken =
    let same : IsSameRead l s w (next_read l s) (Some (taken, t))
    = subst (λ (o : Option (ℕ × Report)). IsSameRead l s w (next_read l s) o) prefix (reads_are_same l s w bytes is.sees.sees rest) in
    let as_ : BreaksAs l s w number t = breaks_by l s w (next_read l s) taken number t refl same broken in
    record {
      reported = as_.reported;
      next = read_when_open l s number is.sees.at none as_.next;
      over = broken_over l s (is_over_now l s w g over.Broken is);
    }

pub breaks_are_reported : BreaksAreReported
breaks_are_reported g w number = refl

-- nothing more is read
none_of_it : (o : Option LinkOver) → is_some o ≡ true → is_none o ≡ false
none_of_it (Some x) e = refl
none_of_it None e = absurd (cc)

pub nothing_is_read : NothingIsRead
nothing_is_read l s is =
    ap (λ (o : Option Link). option_and_then (read_next l.number s) o) is.at
    ∙ ap (λ (b : Bool). if b then read_action l.number (next_read l s) else None) (none_of_it l.over is.over)
