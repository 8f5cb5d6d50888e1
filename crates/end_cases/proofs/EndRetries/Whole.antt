-- An end that a transparent retry follows at once: channel and session agree after it.
use Rattle.std.proofs.Common.{◌≡◌, ◌+◌, ap, refl, subst, sym, ◌∙◌, Bool, true, List, Option, None, Some, ℕ, is_some, length}
use Rattle.std.specs.List.{list_all}
use Rattle.std.specs.Prelude.{nat_le}
use Rattle.attempt_ledger.specs.declared.row.RowEnd.{RowEnd}
use Rattle.attempt_ledger.specs.declared.row.RowKind.TheVariants as kind
use Rattle.call_actions.proofs.Followed.{refused_are_retried}
use Rattle.call_actions.proofs.LastEnds.TakeOver.{committed_are_retried}
use Rattle.call_actions.specs.Order.{Keeps}
use Rattle.call_core.specs.Steps.{Stepped, ended_at}
use Rattle.end_cases.proofs.AttemptEnds.After.{attempts_are, put, runs, t_is, u}
use Rattle.end_cases.proofs.AttemptEnds.AheadCommits as commits
use Rattle.end_cases.proofs.AttemptEnds.Base.{c, e, has, news, sees, x2}
use Rattle.end_cases.proofs.AttemptEnds.Committed.{one_is}
use Rattle.end_cases.proofs.AttemptEnds.OneEnded as first
use Rattle.end_cases.proofs.EndRetries.Agree as agree
use Rattle.end_cases.proofs.EndRetries.Free as free_retry
use Rattle.end_cases.proofs.EndRetries.Holds as holding
use Rattle.end_cases.proofs.EndRetries.Next as retry
use Rattle.end_cases.proofs.EndRetries.Taken as taken_retry
use Rattle.end_cases.specs.AttemptEnds.Ahead.{LinksAhead}
use Rattle.end_cases.specs.AttemptEnds.Ends.{EndNext, HasEnded}
use Rattle.end_cases.specs.AttemptEnds.Laws.{IsRetriedAtOnce, RetriesFollowEnds}
use Rattle.channel_core.specs.States.{StateSeen}
use Rattle.end_cases.proofs.AttemptEnds.LeftLinks.{commits_left, makes_left}
use Rattle.end_cases.specs.AttemptEnds.Left.{all_left}
use Rattle.link_actions.proofs.Ended.{now_same}
use Rattle.session_actions.specs.AttemptEnds.{attempt_ended}
use Rattle.session_actions.specs.Attempts.{commitment}
use Rattle.session_actions.specs.Commitments.{call_committed}
use Rattle.session_actions.specs.Entries.{next_word, now}
use Rattle.session_actions.specs.Making.{attempt_made}
use Rattle.session_actions.specs.declared.attempt.Attempt.{Attempt}
use Rattle.session_actions.specs.declared.call.Call.{Call}
use Rattle.session_actions.specs.declared.entry.OpenEntry.{OpenEntry}
use Rattle.session_actions.specs.declared.response.Outcome.{Outcome}
use Rattle.session_actions.specs.declared.seen.Seen.{Seen}
use Rattle.session_order.specs.declared.line.Line.{Line}
use Rattle.std.proofs.lemmas.List.{length-map}

module _ (later : List (ℕ × RowEnd)) (waits : Line → Bool) (also : List ℕ) (a : Attempt) (out : Outcome) (x : StateSeen) (o : OpenEntry) (s : Seen) (is : EndNext later waits also a out x o s)
    (case : IsRetriedAtOnce s (c later waits also a out x o s is) a out) where
  abbrev k : Call
  k = c later waits also a out x o s is

  abbrev n : ℕ
  n = k.number

  abbrev v : Seen
  v = u later waits also a out x o s is

  abbrev step : Stepped
  step = ended_at a.place (news later waits also a out x o s is) (now s) (next_word s) (x2 later waits also a out x o s is)

  abbrev made_of : ℕ → Seen → Seen
  made_of moment q = attempt_made n a.row.number kind.Transparent moment q

  -- the moment stays, and so does the count of attempts
  moment_same : now s ≡ now v
  moment_same = sym (now_same (is_some (e later waits also a out x o s is).word) a.row.call a.place (e later waits also a out x o s is) (runs later waits also a out x o s is) s)

  long_same : length s.attempts ≡ length v.attempts
  long_same = sym (length-map s.attempts (put later waits also a out x o s is)) ∙ ap (λ (l : List Attempt). length l) (sym (attempts_are later waits also a out x o s is))

  ahead_made : LinksAhead also x (all_left later (retry.t later waits also a out x o s is case.going case.follows))
  ahead_made =
      makes_left later v n a.row.number (now v) (subst (λ (k : ℕ). list_all (λ (e : ℕ × RowEnd). nat_le e.0 k) later ≡ true) long_same is.among) also x
      (first.links_one later waits also a out x o s is)

  module _ (free : commitment k s ≡ None) where
    free_keeps : Keeps (free_retry.t later waits also a out x o s is case.going case.follows free) n step
    free_keeps =
        subst (λ (q : Seen). Keeps (made_of (now v) q) n step) (t_is later waits also a out x o s is)
        (subst (λ (m : ℕ). Keeps (made_of m (attempt_ended a.place (e later waits also a out x o s is) s)) n step) moment_same
        (refused_are_retried s k (x2 later waits also a out x o s is) a.place a out (sees later waits also a out x o s is) (has later waits also a out x o s is).sees.order
        (has later waits also a out x o s is).sees.turn is.ending case.going free case.follows (retry.quiescent later waits also a out x o s is case.going case.follows)))

    free_ended : HasEnded later waits also a out x o s
    free_ended =
        agree.has_ended later waits also a out x o s is case.going case.follows (free_retry.r later waits also a out x o s is case.going case.follows free)
        (free_retry.leads later waits also a out x o s is case.going case.follows free) free_keeps (holding.free_holds later waits also a out x o s is case.going case.follows free)
        (holding.free_came later waits also a out x o s is case.going case.follows free) ahead_made

  module _ (held : commitment k s ≡ Some a) where
    taken_is : call_committed (length v.attempts + 1) (retry.t later waits also a out x o s is case.going case.follows) ≡ taken_retry.w later waits also a out x o s is case.going case.follows held
    taken_is = taken_retry.committed_is later waits also a out x o s is case.going case.follows held

    taken_keeps : Keeps (taken_retry.w later waits also a out x o s is case.going case.follows held) n step
    taken_keeps =
        subst (λ (q : Seen). Keeps q n step) taken_is
        (subst (λ (m : ℕ). Keeps (call_committed (m + 1) (made_of (now v) v)) n step) long_same
        (subst (λ (q : Seen). Keeps (call_committed (length s.attempts + 1) (made_of (now v) q)) n step) (t_is later waits also a out x o s is)
        (subst (λ (m : ℕ). Keeps (call_committed (length s.attempts + 1) (made_of m (attempt_ended a.place (e later waits also a out x o s is) s))) n step) moment_same
        (committed_are_retried s k (x2 later waits also a out x o s is) a.place a out (sees later waits also a out x o s is) (has later waits also a out x o s is).sees.order
        (has later waits also a out x o s is).sees.turn is.ending case.going held case.follows (retry.quiescent later waits also a out x o s is case.going case.follows)))))

    ahead_taken : LinksAhead also x (all_left later (taken_retry.w later waits also a out x o s is case.going case.follows held))
    ahead_taken =
        subst (λ (q : Seen). LinksAhead also x (all_left later q)) (sym (commits.commit_is (retry.t later waits also a out x o s is case.going case.follows) (length v.attempts + 1)
        (retry.new later waits also a out x o s is case.going case.follows) (taken_retry.new_there later waits also a out x o s is case.going case.follows held)
        (taken_retry.places later waits also a out x o s is case.going case.follows held)) ∙ taken_is)
        (commits_left later (retry.t later waits also a out x o s is case.going case.follows) (length v.attempts + 1) (retry.new later waits also a out x o s is case.going case.follows)
        (taken_retry.new_there later waits also a out x o s is case.going case.follows held) (taken_retry.places later waits also a out x o s is case.going case.follows held) also x ahead_made)

    taken_ended : HasEnded later waits also a out x o s
    taken_ended =
        agree.has_ended later waits also a out x o s is case.going case.follows (taken_retry.r later waits also a out x o s is case.going case.follows held)
        (taken_retry.leads later waits also a out x o s is case.going case.follows held) taken_keeps (holding.taken_holds later waits also a out x o s is case.going case.follows held)
        (holding.taken_came later waits also a out x o s is case.going case.follows held) ahead_taken

  by_commitment : (q : Option Attempt) → commitment k s ≡ q → HasEnded later waits also a out x o s
  by_commitment None free = free_ended free
  by_commitment (Some g) held = taken_ended (one_is later waits also a out x o s is case.going (ap (λ (q : Option Attempt). is_some q) held))

  has_ended : HasEnded later waits also a out x o s
  has_ended = by_commitment (commitment k s) refl

pub retries_follow_ends : RetriesFollowEnds
retries_follow_ends later waits also a out x o s is case = has_ended later waits also a out x o s is case
