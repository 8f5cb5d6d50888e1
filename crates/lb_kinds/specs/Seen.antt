-- What a policy of this crate keeps of its subchannels.
use Rattle.std.specs.Prelude.{◌≡◌, ℕ, Bool, true, false, ◌==◌, if◌then◌else◌, List, map}
use Rattle.std.specs.List.{filter}
use Rattle.grpc_base.specs.declared.event.Conn.{Conn}
use Rattle.grpc_base.specs.declared.event.Conn.TheVariants as conn
use Rattle.grpc_base.specs.declared.kind.Kind.{Kind}
use Rattle.lb_policy.specs.declared.seen.SubSeen.{SubSeen}
use Rattle.lb_policy.specs.Table.{PolicySeen, state_of_view, lasting_state, IsWithoutRepeats}
use Rattle.lb_policy.specs.Steps.{counts_as_failed}
use Rattle.lb_kinds.specs.declared.marked.Marked.{Marked}

-- the view, and the numbers of those of it that have failed
pub record Viewed : Type 0 where
  pub subs : List SubSeen
  pub failed : List ℕ

-- a view is kept as its subchannels, each with a mark where it has failed
abbrev pub plain : List Marked → List SubSeen
plain marked = map (λ m. m.seen) marked

abbrev pub failed_of : List Marked → List ℕ
failed_of marked = map (λ m. m.seen.sub) (filter (λ m. m.failed) marked)

abbrev pub viewed : List Marked → Viewed
viewed marked = record { subs = plain marked; failed = failed_of marked }

-- with the two states beside it; no subchannel stands twice in a view
pub record IsKept (marked : List Marked) (now lasting : Conn) : Type 0 where
  pub states : now ≡ state_of_view (plain marked)
  pub lasts : lasting ≡ lasting_state (failed_of marked) (plain marked)
  pub no_repeats : IsWithoutRepeats (plain marked)

-- a subchannel with its mark, where these had failed before
abbrev pub marked_by : List ℕ → SubSeen → Marked
marked_by before s = record { seen = s; failed = counts_as_failed before s }

-- the mark after a state was noted
abbrev pub mark_after : Conn → Bool → Bool
mark_after conn.Failure mark = true
mark_after conn.Ready mark = false
mark_after _ mark = mark

abbrev pub noted_mark : ℕ → Conn → Marked → Marked
noted_mark sub state m =
    if m.seen.sub == sub then (record { seen = record m.seen { state = state }; failed = mark_after state m.failed }) else m

pub record ViewAndTurns : Type 0 where
  pub view : Viewed
  pub turns : ℕ

-- the policy of a kind without tiers, with that view and those turns
abbrev pub of_kind : Kind → ViewAndTurns → PolicySeen
of_kind k p = record { kind = k; width = 1; view = p.view.subs; failed = p.view.failed; turns = p.turns }
