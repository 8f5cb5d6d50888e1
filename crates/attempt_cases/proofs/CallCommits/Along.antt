-- What a session keeps while the other attempts of a call are cut off and their streams are reset: the config of the call, whose each attempt is, and of the links
-- all but what is queued on them.
use Rattle.std.proofs.Common.{◌≡◌, ap, refl, subst, sym, ◌∙◌, Bool, List, ℕ, map}
use Rattle.std.specs.Option.{option_map}
use Rattle.call_actions.proofs.TakeActions.CutAttempts.{ended_mark}
use Rattle.call_actions.proofs.TakeActions.CutOne.{marked_also}
use Rattle.call_core.specs.declared.inbox.Inbox.{Inbox}
use Rattle.call_cases.proofs.CallPosts.Report.{map_changed}
use Rattle.call_cases.specs.EndsFollow.Cuts.{cut_off}
use Rattle.attempt_cases.proofs.CallCommits.Alone.{are_cut_b, b2, cuts_carry, has_cut, kept_one, resets_carry, to}
use Rattle.attempt_cases.proofs.CallCommits.On as on_
use Rattle.attempt_cases.proofs.CallCommits.On.{resets, t, their}
use Rattle.call_cases.proofs.CommitsFollow.Cuts.{IsOneCut}
use Rattle.call_cases.proofs.CommitsFollow.Follow as follow
use Rattle.call_cases.proofs.OneCallEnds.Along.{IsSameBut, config_of, owner, same_reset}
use Rattle.attempt_cases.specs.CallCommits.Commits.{CommitsNext}
use Rattle.channel_core.specs.States.{StateSeen}
use Rattle.session_actions.specs.AttemptEnds.{stream_reset_of, with_end}
use Rattle.session_actions.specs.Commitments.{with_commitment}
use Rattle.session_actions.specs.Entries.{entry, now}
use Rattle.session_actions.specs.declared.action.CommitCause.{CommitCause}
use Rattle.session_actions.specs.declared.attempt.Attempt.{Attempt}
use Rattle.session_actions.specs.declared.action.Action.{Action}
use Rattle.session_actions.specs.declared.entry.OpenEntry.{OpenEntry}
use Rattle.session_actions.specs.declared.seen.Seen.{Seen}
use Rattle.session_order.proofs.Changed.{lookup}
use Rattle.session_order.specs.declared.line.Line.{Line}

-- one is cut off
same_cut : (n j : ℕ) (s v : Seen) (act : Action) (o : OpenEntry) (one : IsOneCut n j v act o) → IsSameBut n s v → IsSameBut n s (cut_off one.attempt v)
same_cut n j s v act o one h =
    let a : Attempt = one.attempt in
    subst (IsSameBut n s) (sym one.after_is)
    (record {
      config = lookup (option_map config_of) (marked_also (ended_mark (now v) a)) (λ c. refl) a.row.call v.calls n ∙ h.config;
      owners = map_changed owner (with_end one.end) (λ x. refl) a.place v.attempts ∙ h.owners;
      links = h.links;
    })

module _ (waits : Line → Bool) (n : ℕ) (why : CommitCause) (inbox : Inbox) (x : StateSeen) (o : OpenEntry) (s : Seen) (is : CommitsNext waits n why inbox x o s) where
  abbrev u : Seen
  u = on_.u waits n why inbox x o s is

  same_committed : IsSameBut n s (b2 waits n why inbox x o s is)
  same_committed = record {
    config = lookup (option_map config_of) (marked_also _) (λ c. refl) n s.calls n;
    owners = map_changed owner (with_commitment (entry s)) (λ a. refl) is.attempt.place s.attempts;
    links = refl;
  }

  -- what each reset keeps is kept to the end
  pub to_end : (P : Seen → Type 0) → ((v : Seen) (a : Attempt) (number : ℕ) → P v → P (stream_reset_of number v a)) → P (t waits n why inbox x o s is) → P u
  to_end P keeps h =
      resets_carry waits n (kept_one waits n why inbox x o s is) o (b2 waits n why inbox x o s is) (follow.base waits n why o s (to waits n why inbox x o s is))
      (follow.goes waits n why o s (to waits n why inbox x o s is)) P keeps (resets waits n why inbox x o s is).actions (t waits n why inbox x o s is) u
      (has_cut waits n why inbox x o s is).reset (resets waits n why inbox x o s is).resets h

  pub same : IsSameBut n s u
  same =
      to_end (IsSameBut n s) (λ v a k h. same_reset n s v a k h)
      (cuts_carry waits n (kept_one waits n why inbox x o s is) o (b2 waits n why inbox x o s is) (follow.base waits n why o s (to waits n why inbox x o s is))
      (follow.goes waits n why o s (to waits n why inbox x o s is)) (IsSameBut n s)
      (λ v act one h. same_cut n (kept_one waits n why inbox x o s is).row.number s v act o one h) (their waits n why inbox x o s is) (b2 waits n why inbox x o s is)
      (t waits n why inbox x o s is) (follow.mid waits n why o s (to waits n why inbox x o s is)) (are_cut_b waits n why inbox x o s is) same_committed)
