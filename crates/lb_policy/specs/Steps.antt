-- What each call that changes a policy makes of it.
use Rattle.std.specs.Prelude.{ℕ, ◌+◌, Bool, not, ◌&&◌, ◌||◌, ◌==◌, if◌then◌else◌, List, [], map}
use Rattle.std.specs.List.{filter}
use Rattle.grpc_base.specs.declared.event.Conn.{Conn}
use Rattle.grpc_base.specs.declared.event.Conn.TheVariants as conn
use Rattle.lb_policy.specs.declared.seen.SubSeen.{SubSeen}
use Rattle.lb_policy.specs.Table.{PolicySeen, is_ready, is_open, is_one_of, is_among}

-- it is reset
abbrev pub emptied : PolicySeen → PolicySeen
emptied p = record p { view = []; failed = []; turns = 0 }

-- it is given a view: those of it have failed that are in TRANSIENT_FAILURE, or had failed and are not READY
abbrev pub counts_as_failed : List ℕ → SubSeen → Bool
counts_as_failed before s = not (is_open s.state) || (is_among before s && not (is_ready s.state))

abbrev pub failed_in : List ℕ → List SubSeen → List ℕ
failed_in before view = map (λ s. s.sub) (filter (counts_as_failed before) view)

abbrev pub given : List SubSeen → PolicySeen → PolicySeen
given view p = record p { view = view; failed = failed_in p.failed view }

-- a subchannel is in another state
abbrev pub noted_sub : ℕ → Conn → SubSeen → SubSeen
noted_sub sub state s = if s.sub == sub then record s { state = state } else s

-- TRANSIENT_FAILURE puts it among the failed ones, in the order of the view; READY takes it out; any other state leaves them
abbrev pub failed_after : ℕ → Conn → List ℕ → List SubSeen → List ℕ
failed_after sub conn.Failure failed view = filter (λ n. (n == sub) || is_one_of failed n) (map (λ s. s.sub) view)
failed_after sub conn.Ready failed view = filter (λ n. not (n == sub)) failed
failed_after sub _ failed view = failed

abbrev pub noted : ℕ → Conn → PolicySeen → PolicySeen
noted sub state p = record p { view = map (noted_sub sub state) p.view; failed = failed_after sub state p.failed p.view }

-- it answered one pick request more
abbrev pub turned : PolicySeen → PolicySeen
turned p = record p { turns = p.turns + 1 }
