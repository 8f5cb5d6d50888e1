-- A dial is taken: of the first subchannel that is to be dialled, in both.
use Rattle.std.proofs.Common.{◌≡◌, ◌%◌, ◌&&◌, ◌+◌, ◌<◌, ◌==◌, ◌^◌, ◌∷◌, ap, arith, refl, subst, sym, ◌∙◌, Bool, true, false, List, [], None, Option, Some, ℕ, find, if◌then◌else◌, is_none, map, max, min, nat_lt, not, slice_get, suc, zero}
use Rattle.std.proofs.lemmas.Bool.{eqb-true}
use Rattle.std.proofs.lemmas.Option.{same_Some}
use Rattle.std.specs.Option.{option_map, option_map_or}
use Rattle.channel_actions.proofs.Answering.{event_next}
use Rattle.channel_actions.proofs.Dialling.{applied_next, open_in}
use Rattle.channel_actions.specs.Agrees.{Agrees}
use Rattle.channel_actions.specs.Quiescent.{IsAt}
use Rattle.channel_actions.specs.Clock.{DrawsAlike}
use Rattle.channel_actions.specs.Columns.{links_noted}
use Rattle.channel_actions.specs.Stages.{IsAnswered}
use Rattle.channel_core.specs.Applying as channel
use Rattle.channel_core.specs.Applying.{AnswersBy}
use Rattle.channel_core.specs.Arrivals.{dial_reply}
use Rattle.channel_core.specs.States.{StateSeen}
use Rattle.channel_core.specs.Steps as steps
use Rattle.channel_net.specs.Lists.{link_of}
use Rattle.channel_net.specs.Runs.{Dial}
use Rattle.channel_net.specs.Steps as net
use Rattle.channel_net.specs.Steps.{NetSeen}
use Rattle.channel_net.specs.declared.replies.Dialing.{Dialing}
use Rattle.attempt_cases.proofs.DialEvents.Answered.{answered_at, answered_by_one}
use Rattle.attempt_cases.proofs.DialEvents.Failing.{open_kept}
use Rattle.attempt_cases.proofs.DialEvents.Nets.{one_call_more}
use Rattle.attempt_cases.proofs.DialEvents.Words.{draw_by, drew_by, word_same}
use Rattle.attempt_cases.specs.DialEvents.Laws.{TakenDialsAreAnswered}
use Rattle.grpc_base.specs.Backoff.{connect_least, connect_wait}
use Rattle.grpc_base.specs.declared.address.Address.{Address}
use Rattle.grpc_base.specs.declared.event.Conn.{Conn}
use Rattle.grpc_base.specs.declared.event.Event.{Event}
use Rattle.grpc_base.specs.declared.event.Event.TheVariants as event
use Rattle.grpc_base.specs.declared.event.Refusal.{Refusal}
use Rattle.grpc_base.specs.declared.event.Reply.{Reply}
use Rattle.grpc_base.specs.declared.event.Reply.TheVariants as reply
use Rattle.channel_actions.specs.KeptSessions.Laws.{KeptAlong}
use Rattle.channel_actions.specs.LinkFrames.Laws.{LinksStay}
use Rattle.net_actions.proofs.Dialling.{connecting_same, none_of}
use Rattle.net_actions.proofs.Noting.{found_passes}
use Rattle.net_actions.proofs.Subs.{SaysSame, found_same}
use Rattle.net_actions.proofs.Views.{Found, found_in}
use Rattle.net_actions.specs.Laws.{DialCountsFit, DialsAreTaken, IsTaken}
use Rattle.net_actions.specs.Sees.{IsSub, Sees}
use Rattle.attempt_cases.proofs.NetSteps.Alike.{links_without_difference_agree}
use Rattle.channel_actions.proofs.BoardActions.Boards.{one_boarded}
use Rattle.channel_actions.proofs.BoardActions.Quiescent.{to_order}
use Rattle.attempt_cases.proofs.NetSteps.Clocks.{clock_goes_on, entry_goes_on}
use Rattle.attempt_cases.proofs.NetSteps.Stepped.{net_steps_keep}
use Rattle.attempt_cases.proofs.NetSteps.Subbed.{current_stays, noted_same, subbed_generations, subbed_links, subbed_shut}
use Rattle.channel_actions.specs.BoardActions.Boards.{IsBoarded}
use Rattle.call_cases.specs.OtherCalls.Laws.{AllCallsStay, SetsStay}
use Rattle.session_actions.specs.Actions.{after, after_if, following}
use Rattle.session_actions.specs.CallEnds.{next_deadline}
use Rattle.session_actions.specs.Entries.{next_word, now}
use Rattle.session_actions.specs.Events.{event_action}
use Rattle.session_actions.specs.Subchannels as sub
use Rattle.session_actions.specs.Subchannels.{dial_action, dial_taken, dial_taken_of, take_dial, with_dial}
use Rattle.session_actions.specs.Words.{numbered}
use Rattle.session_actions.specs.declared.action.Action.{Action}
use Rattle.session_actions.specs.declared.action.Action.TheVariants as action
use Rattle.session_actions.specs.declared.entry.OpenEntry.{OpenEntry}
use Rattle.session_actions.specs.declared.entry.Stage.TheVariants as stage
use Rattle.session_actions.specs.declared.policy.PolicyUse.{PolicyUse}
use Rattle.session_actions.specs.declared.seen.Seen.{Seen}
use Rattle.session_actions.specs.declared.subchannel.Subchannel.{Subchannel}
use Rattle.session_order.proofs.Boards.{with_sub_current}
use Rattle.session_order.specs.Quiescent as order
use Rattle.session_order.specs.Laws.{BoardsStir, QuiescenceIsExact}
use Rattle.subchannel.specs.Boards.{first_number}
use Rattle.subchannel.specs.Records.{SubRecord, is_connecting, is_dialable, next_dials, until_after}

dialable_same : SaysSame sub.is_dialable is_dialable
dialable_same b r number link is =
    ap (λ (x : Bool). x && is_none b.until) (connecting_same b.state) ∙ ap (λ (c : Conn). is_connecting c && is_none b.until) is.state
    ∙ ap (λ (o : Option ℕ). is_connecting r.state && is_none o) is.until ∙ ap (λ (x : Bool). is_connecting r.state && x) (none_of r.until)

-- the first that is to be dialled, in both
pub record IsFirstDial (s : Seen) (n : NetSeen) (place : ℕ) : Type 0 where
  pub one : Subchannel
  pub there : slice_get s.subs place ≡ Some one
  pub found : find sub.is_dialable s.subs ≡ Some one
  pub r : SubRecord
  pub at : slice_get n.board place ≡ Some r
  pub is : IsSub one r (suc place) (link_of n.links (suc place))
  pub dials : is_dialable r ≡ true

pub record HasFirstDial (s : Seen) (n : NetSeen) (number : ℕ) : Type 0 where
  pub place : ℕ
  pub number_is : number ≡ suc place
  pub first : IsFirstDial s n place

first_by : (s : Seen) (n : NetSeen) (number : ℕ) → Sees s n → (o : Option Subchannel) → first_number is_dialable n.board ≡ Some number
    → find sub.is_dialable s.subs ≡ o → option_map (λ (b : Subchannel). b.number) o ≡ Some number → HasFirstDial s n number
first_by s n number h None first e same = absurd (cc)
first_by s n number h (Some b) first e same =
    let f : Found b is_dialable 1 s.subs n.board n.links = found_in sub.is_dialable is_dialable dialable_same 1 s.subs n.board n.links b h.subs_are e in
    let up : 1 + f.place ≡ suc f.place = omega arith in
    let is : IsSub b f.r (suc f.place) (link_of n.links (suc f.place)) = subst (λ (k : ℕ). IsSub b f.r k (link_of n.links k)) up f.is in
    let both : Some number ≡ Some (1 + f.place) = sym first ∙ f.first in
    record {
      place = f.place;
      number_is = same_Some number (1 + f.place) both ∙ up;
      first = record {
        one = b;
        there = f.own;
        found = e;
        r = f.r;
        at = f.at;
        is = is;
        dials = sym (dialable_same b f.r (suc f.place) (link_of n.links (suc f.place)) is) ∙ found_passes sub.is_dialable s.subs b e;
      };
    }

first_dial : (s : Seen) (n : NetSeen) (number : ℕ) → Sees s n → first_number is_dialable n.board ≡ Some number → HasFirstDial s n number
first_dial s n number h first =
    first_by s n number h (find sub.is_dialable s.subs) first refl
    (found_same sub.is_dialable is_dialable dialable_same 1 s.subs n.board n.links h.subs_are ∙ first)

-- how long it is tried
wait_by : (d word : ℕ) (x : Bool) → (d == 0) ≡ x → connect_wait (d + 1) (if x then 0 else word) ≡ connect_wait (d + 1) word
wait_by d word true e =
    let none : d ≡ 0 = eqb-true d 0 e in
    subst (λ (k : ℕ). connect_wait (k + 1) 0 ≡ connect_wait (k + 1) word) (sym none) refl
wait_by d word false e = refl

one_more : (d : ℕ) → d < 4294967295 → d + 1 ≡ min (d + 1) 4294967295
one_more d h = omega arith

later : (m w : ℕ) → m + max w connect_least ≡ max (m + w) (m + connect_least)
later m w = omega arith

wait_same : (s : Seen) (b : Subchannel) (r : SubRecord) → b.dials ≡ r.dials → b.dials < 4294967295 → sub.dial_wait b s ≡ connect_wait (next_dials r) (next_word s)
wait_same s b r e few =
    wait_by b.dials (next_word s) (b.dials == 0) refl ∙ ap (λ (k : ℕ). connect_wait k (next_word s)) (one_more b.dials few)
    ∙ ap (λ (d : ℕ). connect_wait (min (d + 1) 4294967295) (next_word s)) e

until_same : (s : Seen) (b : Subchannel) (r : SubRecord) → b.dials ≡ r.dials → b.dials < 4294967295
    → now s + max (sub.dial_wait b s) connect_least ≡ until_after r (now s) (next_word s)
until_same s b r e few =
    ap (λ (w : ℕ). now s + max w connect_least) (wait_same s b r e few) ∙ later (now s) (connect_wait (next_dials r) (next_word s))

few_of : (subs : List Subchannel) (place : ℕ) (b : Subchannel) → DialCountsFit subs → slice_get subs place ≡ Some b → b.dials < 4294967295
few_of [] place b few e = absurd (cc)
few_of (c ∷ subs) zero b few e = let one : c ≡ b = (cc) in subst (λ (x : Subchannel). x.dials < 4294967295) one few.0
few_of (c ∷ subs) (suc place) b few e = few_of subs place b few.1 e

abbrev until_in : Action → ℕ
until_in (action.DialTaken sub again until) = until
until_in _ = 0

if_dialing : (b : Bool) (d : Dialing) → b ≡ true → (if b then Some d else None) ≡ Some d
if_dialing true d e = refl
if_dialing false d e = absurd (cc)

module _ (exact : QuiescenceIsExact) (stir : BoardsStir) (take : DialsAreTaken) (calls_stay : AllCallsStay) (sets_stay : SetsStay) (kept_along : KeptAlong) (links_stay : LinksStay)
    (x : StateSeen) (o : OpenEntry) (s : Seen) (h : Agrees x s) (at : IsAt stage.Event o s) (fresh : o.turn ≡ None) (timely : next_deadline s ≡ None)
    (place : ℕ) (brings : o.event ≡ event.TakeDial) (kept : channel.refusal_of o.event x ≡ None) (first : first_number is_dialable x.net.board ≡ Some (suc place))
    (few : DialCountsFit s.subs) (f : IsFirstDial s x.net place) where
  abbrev b : Subchannel
  b = f.one

  abbrev w : ℕ
  w = steps.next_word x

  pub taken : IsTaken (suc place) s x.net
  taken = take (suc place) s x.net h.net few first

  abbrev a : Action
  a = action.DialTaken (suc place) taken.again taken.until

  abbrev t : Seen
  t = dial_taken_of taken.again taken.until s b

  abbrev e : Reply
  e = reply.Dial b.number b.address taken.until

  abbrev drew : ℕ
  drew = o.drawn + (if not (b.dials == 0) then 1 else 0)

  abbrev p : OpenEntry
  p = answered_at e drew o

  abbrev y : StateSeen
  y = steps.drawn_if (nat_lt 0 f.r.dials) (steps.dialed x)

  draws : DrawsAlike (Some o) x
  draws = subst (λ (c : Option OpenEntry). DrawsAlike c x) at.current h.clock.draws

  word : next_word s ≡ w
  word = word_same x s o at.current draws

  dial_is : net.dial_answer x.book.moment w x.net ≡ Some (net.dialing_as x.book.moment w (suc place) f.r)
  dial_is =
      ap (net.dialing_at x.book.moment w x.net.board) first ∙ ap (net.dialing_of x.book.moment w (suc place)) f.at
      ∙ if_dialing (is_dialable f.r) (net.dialing_as x.book.moment w (suc place) f.r) f.dials

  until_is : taken.until ≡ until_after f.r x.book.moment w
  until_is =
      ap until_in (sym taken.next ∙ ap (λ (c : Option Subchannel). option_map_or (dial_action s) c (action.EventAnswered reply.NotYet)) f.found)
      ∙ until_same s b f.r f.is.dials (few_of s.subs place b few f.there)
      ∙ ap (λ (m : ℕ). until_after f.r m (next_word s)) h.clock.moment ∙ ap (until_after f.r x.book.moment) word

  pub reply_is : dial_reply (net.dial_answer x.book.moment w x.net) ≡ e
  reply_is =
      ap dial_reply dial_is ∙ ap (λ (n : ℕ). reply.Dial n f.r.address (until_after f.r x.book.moment w)) (sym f.is.number_is)
      ∙ ap (λ (v : Address). reply.Dial b.number v (until_after f.r x.book.moment w)) (sym f.is.address) ∙ ap (reply.Dial b.number b.address) (sym until_is)

  pub state_is : steps.dial_taken x ≡ y
  state_is = ap (λ (d : Option Dialing). steps.dial_draw d (steps.dialed x)) dial_is

  next : event_action event.TakeDial s ≡ Some a
  next =
      applied_next event.TakeDial s (Some (take_dial s)) (open_in s None (open_kept x s o.event event.TakeDial h refl brings kept)) refl ∙ ap (λ (v : Action). Some v) taken.next

  taken_is : dial_taken (suc place) taken.again taken.until s ≡ t
  taken_is = ap (λ (c : Option Subchannel). option_map_or (dial_taken_of taken.again taken.until s) c s) f.there

  does : after a s ≡ t
  does = ap (λ (c : Option OpenEntry). after_if c a s) at.current ∙ taken_is

  boarded : IsBoarded s t
  boarded = subst (IsBoarded s) does (one_boarded s a refl)

  on : t.current ≡ Some p
  on =
      ap (λ (c : Option OpenEntry). option_map (λ (q : OpenEntry). record q { stage = stage.Replied; reply = Some e }) (option_map (λ (q : OpenEntry). record q { drawn = q.drawn + (if not (b.dials == 0) then 1 else 0) }) c))
      (with_sub_current s b.number (with_dial taken.again taken.until) ∙ at.current)

  there : numbered s.subs b.number ≡ Some b
  there = ap (numbered s.subs) f.is.number_is ∙ f.there

  generations : map (λ (g : PolicyUse). g.generation) t.policies ≡ map (λ (g : PolicyUse). g.generation) s.policies
  generations = subbed_generations (with_dial taken.again taken.until) b.number s

  noted : links_noted t ≡ links_noted s
  noted =
      noted_same s t boarded (entry_goes_on s t o p boarded at.current on) (subbed_shut (with_dial taken.again taken.until) b.number s b there refl)
      (subbed_links (with_dial taken.again taken.until) b.number s)

  follows : following s ≡ Some a
  follows = event_next o s at timely a (ap (λ (v : Event). event_action v s) brings ∙ next)

  sees_now : Sees t (net.net_dialed x.book.moment w x.net)
  sees_now =
      subst (λ (k : ℕ). Sees t (net.net_dialed x.book.moment k x.net)) word
      (subst (λ (m : ℕ). Sees t (net.net_dialed m (next_word s) x.net)) h.clock.moment
      (subst (λ (v : Seen). Sees v (net.net_dialed (now s) (next_word s) x.net)) taken_is taken.sees))

  drawn_is : y.drawn ≡ drew % 2 ^ 64
  drawn_is =
      draw_by (nat_lt 0 f.r.dials) x.drawn o.drawn draws.1
      ∙ ap (λ (n : Bool). (o.drawn + (if n then 1 else 0)) % 2 ^ 64) (sym (drew_by f.r.dials) ∙ ap (λ (n : ℕ). not (n == 0)) (sym f.is.dials))

  agrees : Agrees y t
  agrees = net_steps_keep calls_stay sets_stay kept_along x y s t h (record {
    channel = refl;
    actions = a ∷ [];
    does = (follows, sym does);
    board = (refl, tt);
    clock = clock_goes_on s t o p boarded at.current on x y h.clock refl refl refl refl refl drawn_is;
    generations = generations ∙ h.columns.generations;
    noted = noted ∙ h.columns.links;
    policy = λ held unshut. current_stays s t generations ∙ h.configs.policy held unshut;
    links = links_without_difference_agree links_stay x y s t h.kept (kept_along (a ∷ []) s t h.kept (follows, sym does)) boarded
        (subbed_links (with_dial taken.again taken.until) b.number s) refl h.links;
    net = sees_now;
    orderly = one_call_more (Dial x.book.moment w) x.net h.orderly;
  })

  still : order.IsQuiescent p t
  still l =
      subst (order.IsStill l p) taken_is
      (stir.dialled (suc place) taken.again taken.until o s at.current (brings, b, f.there, f.is.number_is) l p (ap (λ (v : Seen). v.current) taken_is ∙ on) refl (to_order exact o s at.quiescent l))

  pub taken_answered : IsAnswered y e o s
  taken_answered =
      answered_by_one exact y e o s at fresh timely a t drew event.TakeDial
      (record { cancels_none = λ n. refl; sends_none = λ c z. refl; no_result = refl; no_frame = λ q z. refl }) brings next (λ v. v) refl does boarded on still agrees

pub taken_dials_are_answered : QuiescenceIsExact → BoardsStir → DialsAreTaken → AllCallsStay → SetsStay → KeptAlong → LinksStay → TakenDialsAreAnswered
taken_dials_are_answered exact stir take calls_stay sets_stay kept_along links_stay x y r o s h at fresh timely case answers =
    let f = first_dial s x.net case.sub h.net case.first in
    let first : first_number is_dialable x.net.board ≡ Some (suc f.place) = case.first ∙ ap (λ (n : ℕ). Some n) f.number_is in
    let given : AnswersBy None event.TakeDial x y r
    = subst (λ (e : Event). AnswersBy None e x y r) case.event_is (subst (λ (z : Option Refusal). AnswersBy z o.event x y r) case.kept answers) in
    subst (λ (z : StateSeen). IsAnswered z r o s)
    (sym (given.0 ∙ state_is exact stir take calls_stay sets_stay kept_along links_stay x o s h at fresh timely f.place case.event_is case.kept first case.few f.first))
    (subst (λ (z : Reply). IsAnswered (steps.drawn_if (nat_lt 0 f.first.r.dials) (steps.dialed x)) z o s)
    (sym (given.1 ∙ reply_is exact stir take calls_stay sets_stay kept_along links_stay x o s h at fresh timely f.place case.event_is case.kept first case.few f.first))
    (taken_answered exact stir take calls_stay sets_stay kept_along links_stay x o s h at fresh timely f.place case.event_is case.kept first case.few f.first))
