-- A call ends, with its cuts and resets: the session, the links and the net.
use Rattle.std.proofs.Common.{◌≡◌, ◌&&◌, ◌==◌, ◌∷◌, ◌++◌, ap, refl, subst, ◌∙◌, Bool, true, false, List, [], Option, None, Some, ℕ, filter, if◌then◌else◌, is_some}
use Rattle.std.proofs.lemmas.Bool.{both_ways}
use Rattle.std.specs.List.{list_any}
use Rattle.std.specs.Option.{option_and_then, option_map, option_or}
use Rattle.std.specs.Prelude.{option_to_list}
use Rattle.call_core.specs.Steps.{closed_by}
use Rattle.call_cases.specs.CallEnds.Ends.{EndsNext, EndsOn, HasNotedLink, IsToEnd}
use Rattle.call_cases.specs.CallEnds.Laws.{EndsGoOn}
use Rattle.channel_actions.proofs.Does.{none_on}
use Rattle.channel_actions.specs.Calls.{HasSlot, lent_to}
use Rattle.channel_actions.specs.Links.{HasLink, SeesLinks}
use Rattle.channel_core.specs.States.{StateSeen}
use Rattle.call_cases.proofs.EndsFollow.Follow.{cuts_are_out, ends_follow}
use Rattle.call_cases.proofs.EndsFollow.Steps.{call_number}
use Rattle.call_cases.specs.EndsFollow.Cuts.{StreamsAreReset}
use Rattle.call_cases.specs.EndsFollow.Laws.{AreAllOut, FollowsOn, IsNextToEnd, is_late}
use Rattle.call_actions.proofs.EndsInOrder.InOrder.{ends_stay_in_order}
use Rattle.call_actions.specs.EndsInOrder.Laws.{EndsInOrder}
use Rattle.grpc_base.specs.declared.event.EndCause.{EndCause}
use Rattle.channel_actions.proofs.KeptSessions.Along.{kept_along, kept_stays}
use Rattle.channel_actions.specs.KeptSessions.Kept.{IsKept}
use Rattle.call_cases.proofs.LinkEnds.Ends.{calls_end_off_links, cuts_are_reset}
use Rattle.call_cases.specs.LinkEnds.Laws.{StreamsAreResetToo, with_cuts}
use Rattle.net_actions.proofs.NetFrames.Left.{same_nets_agree}
use Rattle.session_actions.specs.Actions.{after, after_if}
use Rattle.session_actions.specs.AttemptEnds.{cut, cut_end, end_of, reset_code_of, reset_of}
use Rattle.session_actions.specs.Attempts.{is_outstanding, is_over}
use Rattle.session_actions.specs.CallEnds.{call_ended}
use Rattle.session_actions.specs.Entries.{now}
use Rattle.session_actions.specs.Laws.{posted_by, posted_in}
use Rattle.session_actions.specs.Words.{first_of}
use Rattle.session_actions.specs.declared.action.Action.{Action}
use Rattle.session_actions.specs.declared.action.Action.TheVariants as action
use Rattle.session_actions.specs.declared.attempt.Attempt.{Attempt}
use Rattle.session_actions.specs.declared.entry.OpenEntry.{OpenEntry}
use Rattle.session_actions.specs.declared.link.Link.{Link}
use Rattle.grpc_base.specs.declared.event.Stamped.{Stamped}
use Rattle.session_actions.specs.declared.seen.Seen.{Seen}
use Rattle.session_order.specs.declared.line.Line.{Line}
use Rattle.session_order.specs.declared.line.Line.TheVariants as line
use Rattle.call_actions.specs.TakeActions.Cuts.{AttemptsAreCut}

-- no event is posted by cuts and resets
cut_if : (b : Bool) (one act : Action) (o : Option Action) → posted_by one ≡ None → (o ≡ Some act → posted_by act ≡ None)
    → option_or (if b then Some one else None) o ≡ Some act → posted_by act ≡ None
cut_if true one act o none next e = let same : act ≡ one = (cc) in ap posted_by same ∙ none
cut_if false one act o none next e = next e

cut_unposted : (s : Seen) (xs : List Attempt) (act : Action) → first_of (cut s) xs ≡ Some act → posted_by act ≡ None
cut_unposted s [] act e = absurd (cc)
cut_unposted s (a ∷ xs) act e =
    cut_if (is_outstanding a && is_over a s) (action.AttemptEnds a.place (end_of a cut_end s)) act (first_of (cut s) xs) refl (cut_unposted s xs act) e

pub cuts_unposted : (n : ℕ) (acts : List Action) (s t : Seen) → AttemptsAreCut n acts s t → posted_in acts ≡ []
cuts_unposted n [] s t are = refl
cuts_unposted n (act ∷ acts) s t are =
    ap (λ (o : Option Stamped). option_to_list o ++ posted_in acts) (cut_unposted s (filter (λ (a : Attempt). a.row.call == n) s.attempts) act are.0)
    ∙ cuts_unposted n acts (after act s) t are.1

reset_if : (place : ℕ) (o : Option ℕ) (act : Action) → option_map (λ (k : ℕ). action.StreamReset place k) o ≡ Some act → posted_by act ≡ None
reset_if place None act e = absurd (cc)
reset_if place (Some k) act e = let same : act ≡ action.StreamReset place k = (cc) in ap posted_by same

reset_unposted : (s : Seen) (o : Option Attempt) (act : Action) → option_and_then (reset_of s) o ≡ Some act → posted_by act ≡ None
reset_unposted s None act e = absurd (cc)
reset_unposted s (Some a) act e = reset_if a.place (reset_code_of s a) act e

pub resets_unposted : (acts : List Action) (s t : Seen) → StreamsAreReset acts s t → posted_in acts ≡ []
resets_unposted [] s t are = refl
resets_unposted (act ∷ acts) s t are =
    ap (λ (o : Option Stamped). option_to_list o ++ posted_in acts) (reset_unposted s _ act are.0) ∙ resets_unposted acts (after act s) t are.1

pub early_by : (w l : Bool) → (w ≡ true → l ≡ true) → l ≡ false → w ≡ false
early_by false l turn e = refl
early_by true l turn e = absurd (both_ways l e (turn refl))

module _ (waits : Line → Bool) (n : ℕ) (why : EndCause) (x : StateSeen) (o : OpenEntry) (s : Seen) (is : IsToEnd waits n why x o s) where
  abbrev kept : IsKept s
  kept = is.agrees.kept

  abbrev pub has : HasSlot x s is.call n
  has = is.agrees.calls.each n is.call is.there

  abbrev pub next : IsNextToEnd waits n why o s
  next = record {
    late = is.late;
    current = is.current;
    call = is.call;
    there = is.there;
    next = is.next;
    uncut = is.uncut;
    unfollowed = is.unfollowed;
    still = is.still;
    book = kept.book;
    owned = kept.owned;
    orders = λ d at. (is.agrees.calls.each d.number d at).sees.order;
    turn = has.sees.turn;
  }

  own : is.call.number ≡ n
  own = call_number n s.calls is.call kept.book.calls is.there

  opened : is_some s.current ≡ true
  opened = ap (λ (q : Option OpenEntry). is_some q) is.current

  pub ended : EndsInOrder s is.call why (closed_by why (now s) (lent_to x s has.slot))
  ended = ends_stay_in_order s is.call (lent_to x s has.slot) why opened has.sees.serves is.going has.sees.order

  abbrev pub b : Seen
  b = call_ended n why s

  abbrev pub t : Seen
  t = ended.ended.seen

  abbrev pub their : List Action
  their = ended.ended.cuts

  pub are_cut : AttemptsAreCut n their b t
  are_cut = subst (λ (k : ℕ). AttemptsAreCut k their (call_ended k why s) t) own ended.ended.cut

  pub out : AreAllOut n why s t
  out = cuts_are_out waits n why o s t their next are_cut

  pub resets : StreamsAreResetToo (with_cuts out.attempts x) t
  resets = is.reset t out.attempts out.all out.off

  pub on : FollowsOn waits n why o s (their ++ resets.actions) resets.seen
  on = ends_follow waits n why o s t resets.seen their resets.actions next are_cut resets.resets

  abbrev pub goes_on : EndsOn waits n why x o s
  goes_on = record {
    cuts = out.attempts;
    all = out.all;
    actions = their ++ resets.actions;
    seen = resets.seen;
    does = on.does;
    posts = none_on their resets.actions (cuts_unposted n their b t are_cut) (resets_unposted resets.actions t resets.seen resets.resets);
    current = on.current;
    still = on.still;
    rest = on.rest;
    kept = kept_along (action.CallEnds n why ∷ (their ++ resets.actions)) s resets.seen kept on.does;
    unreset = resets.unreset;
    links = resets.links;
    net = same_nets_agree s resets.seen x.net (record { setup = on.rest.setup; asks = on.rest.asks; policies = on.rest.policies; subs = on.rest.subs }) is.agrees.net;
  }

-- where all agrees, so do the links once the attempts of the call are cut off and their streams are reset
module _ (waits : Line → Bool) (n : ℕ) (why : EndCause) (x : StateSeen) (o : OpenEntry) (s : Seen) (is : EndsNext waits n why x o s) where
  abbrev b_ : Seen
  b_ = call_ended n why s

  kept_s : IsKept s
  kept_s = is.agrees.kept

  after_end : after (action.CallEnds n why) s ≡ b_
  after_end = ap (λ (q : Option OpenEntry). after_if q (action.CallEnds n why) s) is.current

  opened_s : is_some s.current ≡ true
  opened_s = ap (λ (q : Option OpenEntry). is_some q) is.current

  kept_end : IsKept b_
  kept_end = subst IsKept after_end (kept_stays s (action.CallEnds n why) kept_s is.next)

  links_end : SeesLinks x b_
  links_end = calls_end_off_links x s n why kept_s is.agrees.links

  quiet : list_any (λ (a : Attempt). is_some (reset_code_of b_ a)) b_.attempts ≡ false
  quiet = is.still line.Reset refl (early_by (waits line.Reset) (is_late line.Reset) (is.late line.Reset) refl)

  noted : (number : ℕ) (l : Link) → HasLink x s l number → HasNotedLink x s l number
  noted number l h = record { slot = h.slot; there = h.there; over = h.sees.over; retiring = h.sees.retiring }

  pub to_end : IsToEnd waits n why x o s
  to_end = record {
    late = is.late;
    current = is.current;
    agrees = record {
      clock = is.agrees.clock;
      columns = is.agrees.columns;
      configs = is.agrees.configs;
      buckets = is.agrees.buckets;
      calls = is.agrees.calls;
      links = record { count = is.agrees.links.count; each = λ number l at. noted number l (is.agrees.links.each number l at) };
      net = is.agrees.net;
      orderly = is.agrees.orderly;
      sets = is.agrees.sets;
      kept = kept_s;
    };
    call = is.call;
    there = is.there;
    going = is.going;
    next = is.next;
    uncut = is.uncut;
    unfollowed = is.unfollowed;
    still = is.still;
    reset = λ t cuts all off. cuts_are_reset x b_ t cuts opened_s kept_end links_end is.unreset quiet off;
  }

pub ends_go_on : EndsGoOn
ends_go_on waits n why x o s is = goes_on waits n why x o s (to_end waits n why x o s is)
