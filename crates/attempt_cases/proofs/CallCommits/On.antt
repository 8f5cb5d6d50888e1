-- A call is committed, with its cuts and resets: the session, the links and the net.
use Rattle.std.proofs.Common.{◌≡◌, ◌&&◌, ◌==◌, ◌∷◌, ◌++◌, ap, refl, subst, sym, ◌∙◌, Bool, true, false, List, [], Option, None, Some, ℕ, filter, is_some, length}
use Rattle.std.proofs.lemmas.Bool.{both_ways}
use Rattle.std.specs.List.{list_all, list_any}
use Rattle.call_actions.proofs.CallsApart.Moves.{all_changed}
use Rattle.call_actions.specs.TakeActions.Cuts.{AttemptsAreCut}
use Rattle.call_core.specs.Steps.{Stepped}
use Rattle.channel_actions.proofs.Does.{none_on}
use Rattle.call_cases.proofs.EndsFollow.Steps.{call_number}
use Rattle.channel_actions.proofs.KeptSessions.Along.{kept_along, kept_stays}
use Rattle.call_cases.proofs.LinkEnds.Ends.{cuts_are_reset}
use Rattle.channel_actions.proofs.Links.Frames.Frame.{links_stay}
use Rattle.channel_actions.proofs.Links.Frames.NoDifference.{actions_make_no_difference}
use Rattle.channel_actions.specs.Calls.{HasSlot, lent_to}
use Rattle.call_cases.specs.EndsFollow.Cuts.{StreamsAreReset, NoStreamIsToReset, is_unreset}
use Rattle.call_cases.specs.EndsFollow.Laws.{IsSameRest, is_late}
use Rattle.channel_actions.specs.KeptSessions.Kept.{IsKept}
use Rattle.call_cases.specs.LinkEnds.Laws.{StreamsAreResetToo, with_cuts}
use Rattle.channel_actions.specs.LinkFrames.Alike.{SeesNoDifference}
use Rattle.channel_actions.specs.Links.{SeesLinks}
use Rattle.attempt_cases.proofs.CallCommits.InOrder.{CommitsInOrder, commits_in_order}
use Rattle.call_cases.proofs.CallEnds.On.{cuts_unposted, resets_unposted}
use Rattle.call_cases.proofs.CommitsFollow.Follow.{b as committed_seen, committed_is, commits_follow, others_are_cut_off, still_b}
use Rattle.attempt_cases.specs.CallCommits.Commits.{CommitsNext, commits_with}
use Rattle.call_cases.specs.CommitsFollow.Laws.{CommitFollowsOn, IsNextToCommit, OthersAreOut}
use Rattle.channel_core.specs.States.{StateSeen}
use Rattle.channel_core.specs.declared.state.slots.CallSlot.{CallSlot}
use Rattle.call_core.specs.Laws as call_laws
use Rattle.call_core.specs.declared.inbox.Inbox.{Inbox}
use Rattle.net_actions.proofs.NetFrames.Left.{same_nets_agree}
use Rattle.net_actions.specs.Sees.{Sees}
use Rattle.session_actions.specs.Actions.{after, after_if}
use Rattle.session_actions.specs.AttemptEnds.{reset_code_of}
use Rattle.session_actions.specs.Commitments.{call_committed, with_commitment}
use Rattle.session_actions.specs.Deliveries.{response_items}
use Rattle.session_actions.specs.Entries.{entry, now}
use Rattle.session_actions.specs.Laws.{posted_in}
use Rattle.session_actions.specs.Responses.{response}
use Rattle.session_actions.specs.Words.{changed, numbered}
use Rattle.session_actions.specs.declared.action.Action.{Action}
use Rattle.session_actions.specs.declared.action.Action.TheVariants as action
use Rattle.session_actions.specs.declared.action.CommitCause.{CommitCause}
use Rattle.session_actions.specs.declared.attempt.Attempt.{Attempt}
use Rattle.session_actions.specs.declared.entry.OpenEntry.{OpenEntry}
use Rattle.session_actions.specs.declared.seen.Seen.{Seen}
use Rattle.session_order.specs.declared.line.Line.{Line}
use Rattle.session_order.specs.declared.line.Line.TheVariants as line

early_by : (w l : Bool) → (w ≡ true → l ≡ true) → l ≡ false → w ≡ false
early_by false l turn e = refl
early_by true l turn e = absurd (both_ways l e (turn refl))

same_slot : (a z : CallSlot) → Some a ≡ Some z → a ≡ z
same_slot a z e = (cc)

module _ (waits : Line → Bool) (n : ℕ) (why : CommitCause) (inbox : Inbox) (x : StateSeen) (o : OpenEntry) (s : Seen) (is : CommitsNext waits n why inbox x o s) where
  abbrev kept : IsKept s
  kept = is.agrees.kept

  abbrev pub k : Attempt
  k = is.attempt

  abbrev pub has : HasSlot x s is.call n
  has = is.agrees.calls.each n is.call is.there

  slots : is.slot ≡ has.slot
  slots = same_slot is.slot has.slot (sym is.slot_is ∙ has.there)

  abbrev pub next : IsNextToCommit waits n why o s
  next = record {
    late = is.late;
    current = is.current;
    call = is.call;
    there = is.there;
    attempt = is.attempt;
    can = is.can;
    next = is.next;
    uncut = is.uncut;
    unfollowed = is.unfollowed;
    still = is.still;
    book = kept.book;
    owned = kept.owned;
    orders = λ d at. (is.agrees.calls.each d.number d at).sees.order;
    turn = has.sees.turn;
  }

  pub own : is.call.number ≡ n
  own = call_number n s.calls is.call kept.book.calls is.there

  pub opened : is_some s.current ≡ true
  opened = ap (λ (q : Option OpenEntry). is_some q) is.current

  abbrev pub stepped : Stepped
  stepped = commits_with k.place inbox (now s) (lent_to x s has.slot)

  pub done : CommitsInOrder s is.call k stepped
  done =
      commits_in_order s is.call (lent_to x s has.slot) k has.sees.serves is.can has.sees.order inbox
      (is.taken ∙ ap (λ (z : CallSlot). z.call.inbox.is_end_taken) slots) is.items opened

  abbrev pub b : Seen
  b = call_committed k.place s

  abbrev pub t : Seen
  t = done.committed.seen

  abbrev pub their : List Action
  their = done.committed.cuts

  pub are_cut : AttemptsAreCut n their b t
  are_cut = subst (λ (m : ℕ). AttemptsAreCut m their b t) own done.committed.cut

  after_commit : after (action.CallCommitted k.place why) s ≡ b
  after_commit = ap (λ (q : Option OpenEntry). after_if q (action.CallCommitted k.place why) s) is.current

  kept_b : IsKept b
  kept_b = subst IsKept after_commit (kept_stays s (action.CallCommitted k.place why) kept is.next)

  -- a commitment bears on no link
  no_difference : SeesNoDifference (λ link. false) s b
  no_difference = subst (SeesNoDifference (λ link. false) s) after_commit (actions_make_no_difference (action.CallCommitted k.place why) s kept tt)

  abbrev b2 : Seen
  b2 = committed_seen waits n why o s next

  b_is : b ≡ b2
  b_is = committed_is waits n why o s next

  links_b : SeesLinks x b
  links_b =
      links_stay (λ link. false) x x s b is.agrees.links kept kept_b (λ link off. refl) no_difference
      (ap (λ (z : Seen). length z.links) b_is ∙ is.agrees.links.count) (λ link l on at. absurd (let bad : false ≡ true = on in (cc)))

  unreset_b : NoStreamIsToReset b
  unreset_b =
      subst NoStreamIsToReset (sym b_is)
      (all_changed is_unreset (with_commitment (entry s)) (λ a h. h) k.place s.attempts is.unreset)

  quiet : list_any (λ (a : Attempt). is_some (reset_code_of b a)) b.attempts ≡ false
  quiet = is.still line.Reset refl (early_by (waits line.Reset) (is_late line.Reset) (is.late line.Reset) refl)

  opened_b : is_some b.current ≡ true
  opened_b = ap (λ (z : Seen). is_some z.current) b_is ∙ opened

  pub out : OthersAreOut n k s t
  out = others_are_cut_off waits n why o s t their next are_cut

  pub resets : StreamsAreResetToo (with_cuts out.attempts x) t
  resets = cuts_are_reset x b t out.attempts opened_b kept_b links_b unreset_b quiet out.off

  pub on : CommitFollowsOn waits k.place why o s (their ++ resets.actions) resets.seen
  on = commits_follow waits n why o s t resets.seen their resets.actions next are_cut resets.resets

  abbrev pub u : Seen
  u = resets.seen

  pub posts : posted_in (their ++ resets.actions) ≡ []
  posts = none_on their resets.actions (cuts_unposted n their b t are_cut) (resets_unposted resets.actions t u resets.resets)

  pub kept_on : IsKept u
  kept_on = kept_along (action.CallCommitted k.place why ∷ (their ++ resets.actions)) s u kept on.does

  pub net_on : Sees u x.net
  net_on = same_nets_agree s u x.net (record { setup = on.rest.setup; asks = on.rest.asks; policies = on.rest.policies; subs = on.rest.subs }) is.agrees.net
