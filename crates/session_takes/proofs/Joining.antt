-- What a commitment brings to a call: nothing came before it, of an attempt to which the call was committed before.
use Rattle.attempt_ledger.specs.declared.ledger.CallEnd.{CallEnd}
use Rattle.call_actions.specs.TakeActions.Serves.{came}
use Rattle.channel_actions.proofs.TransparentRetries.Rows.{HasLater}
use Rattle.channel_actions.specs.FewCalls.Reached.{IsReached}
use Rattle.channel_actions.specs.TransparentRetries.Laws.{was_unsent}
use Rattle.session_actions.specs.Actions.{after_in}
use Rattle.session_actions.specs.Attempts.{is_commitment, is_of, with_attempt}
use Rattle.session_actions.specs.Calls.{marked}
use Rattle.session_actions.specs.Commitments.{with_commitment}
use Rattle.session_actions.specs.Entries.{entry, now}
use Rattle.session_actions.specs.Words.{changed, numbered}
use Rattle.session_actions.specs.declared.action.CommitCause.{CommitCause}
use Rattle.session_actions.specs.declared.attempt.Attempt.{Attempt}
use Rattle.session_actions.specs.declared.call.Call.{Call}
use Rattle.session_actions.specs.declared.entry.OpenEntry.{OpenEntry}
use Rattle.session_actions.specs.declared.seen.Seen.{Seen}
use Rattle.session_order.proofs.Changed.{changed_here}
use Rattle.session_takes.proofs.Came.{row_open}
use Rattle.session_takes.proofs.Prefixes.{prefix_of_none}
use Rattle.session_takes.proofs.Continues.{Continues, transferred, no_more, place, retried}
use Rattle.session_takes.proofs.Received.{no_stream}
use Rattle.session_takes.proofs.Lasts.{IsIn, last_in}
use Rattle.session_takes.proofs.Meant.{IsFirst, IsHeir, IsJoined}
use Rattle.session_takes.proofs.Pairs.{items}
use Rattle.session_takes.proofs.Settled.{settled_more}
use Rattle.std.proofs.Common.{Bool, None, Option, Some, [], ap, arith, false, inl, inr, is_some, nat_lt, refl, slice_get, suc, sym, true, zero, ℕ, ◌++◌, ◌<◌, ◌==◌, ◌∙◌, ◌∷◌, ◌≡◌, ◌≤◌, ◌⊎◌}
use Rattle.std.proofs.lemmas.Bool.{and_parts, eqb-true, ltb-true}
use Rattle.std.specs.Option.{option_map_or}
use Rattle.session_actions.specs.declared.action.Action.TheVariants as action
use Rattle.session_actions.specs.declared.call.MarkKind.TheVariants as mark

module _ (s : Seen) (reached : IsReached s) (c : Call) (own : numbered s.calls c.number ≡ Some c) where
  module _ (row : ℕ) (m : IsJoined row s) (here : m.call ≡ c) where
    heir_none : (k : IsHeir m.here m.call s) (i : ℕ) → slice_get s.attempts i ≡ Some m.here → items k.before s ≡ []
    heir_none k i got =
        let f : IsIn (is_commitment m.call) s.attempts k.before = last_in (is_commitment m.call) s.attempts k.before k.committed in
        let p : (is_of m.call k.before ≡ true) × (is_some k.before.row.committed ≡ true) = and_parts (is_of m.call k.before) (is_some k.before.row.committed) f.passes in
        let q : ((k.before.row.number == m.here.row.number) ≡ true) × (nat_lt k.before.place m.here.place ≡ true)
        = and_parts (k.before.row.number == m.here.row.number) (nat_lt k.before.place m.here.place) k.follows in
        let less : k.before.place < m.here.place = ltb-true k.before.place m.here.place q.1 in
        let at : k.before.place ≡ suc f.index = (place s reached c own).attempts (suc f.index) k.before f.here in
        let to : m.here.place ≡ suc i = (place s reached c own).attempts (suc i) m.here got in
        let number : m.call.number ≡ m.here.row.call = (place s reached c own).calls m.here.row.call m.call m.its in
        let later : HasLater s.attempts f.index k.before
        = record {
          index = i;
          later = m.here;
          here = got;
          afterwards = omega (arith, less, at, to);
          same = (eqb-true k.before.row.call m.call.number p.0 ∙ number, eqb-true k.before.row.number m.here.row.number q.0);
        } in
        no_stream k.before s ((retried s reached c own).unsent f.index k.before f.here (unsent_by f.index k.before f.here later p.1 (was_unsent k.before) refl)).0
      where
        unsent_by : (n : ℕ) (b : Attempt) → slice_get s.attempts n ≡ Some b → HasLater s.attempts n b → is_some b.row.committed ≡ true → (u : Bool) → was_unsent b ≡ u → was_unsent b ≡ true
        unsent_by n b at later committed true is = is
        unsent_by n b at later committed false is =
            let less : n ≤ n = omega arith in
            absurd (let bad : false ≡ true = sym ((transferred s reached c own).free n n b b at at less (refl, refl) later is) ∙ committed in (cc))

    none_before : (r : ℕ) → numbered s.attempts r ≡ Some m.here → IsFirst m.here m.call s ⊎ IsHeir m.here m.call s → came c s ≡ []
    none_before zero got k = absurd (let bad : ◌≡◌ {A = Option Attempt} None (Some m.here) = got in (cc))
    none_before (suc i) got (inl k) =
        ap (λ (z : Call). came z s) (sym here) ∙ ap (λ (p : Option Attempt). option_map_or (λ (b : Attempt). items b s) p []) k.free
    none_before (suc i) got (inr k) =
        ap (λ (z : Call). came z s) (sym here) ∙ ap (λ (p : Option Attempt). option_map_or (λ (b : Attempt). items b s) p []) k.committed ∙ heir_none k i got

    pub committed_goes : (o : OpenEntry) (why : CommitCause) → Continues s (after_in o (action.CallCommitted row why) s) c 0
    committed_goes o why =
        let t : Seen = after_in o (action.CallCommitted row why) s in
        let u : Seen = with_attempt (with_commitment (entry s)) row s in
        let mark_it : Call → Call = λ (d : Call). record d { marks = d.marks ++ record { what = mark.Committed; moment = now u } ∷ [] } in
        let row_there : numbered u.attempts row ≡ Some (with_commitment (entry s) m.here) = changed_here (with_commitment (entry s)) row s.attempts m.here m.there in
        let t_is : t ≡ marked mark.Committed m.here.row.call u = ap (λ (p : Option Attempt). option_map_or (λ (a : Attempt). marked mark.Committed a.row.call u) p u) row_there in
        let number : m.here.row.call ≡ c.number = sym ((place s reached c own).calls m.here.row.call m.call m.its) ∙ ap (λ (z : Call). z.number) here in
        let goes : c.end ≡ None = ap (λ (z : Call). z.end) (sym here) ∙ m.goes_on in
        let never : is_some c.end ≡ true → ⊥ = λ e. (let bad : false ≡ true = sym (ap (λ (p : Option CallEnd). is_some p) goes) ∙ e in (cc)) in
        record {
          call = mark_it c;
          there = ap (λ (z : Seen). numbered z.calls c.number) t_is ∙ ap (λ (n : ℕ). numbered (changed mark_it n s.calls) c.number) number ∙ changed_here mark_it c.number s.calls c own;
          number = refl;
          taken = no_more c.taken;
          step = record {
            prefix = λ e. prefix_of_none (came c s) (came (mark_it c) t) (none_before row m.there m.joins);
            stays = λ e. refl;
            still = λ e. absurd (never e);
            ended = λ e is. absurd (never e);
            by_row = λ e. row_open t (mark_it c) e;
          };
          settles = λ h e. settled_more c.marks (record { what = mark.Committed; moment = now u });
        }
