-- Attempts are only on links on which the server's SETTINGS came (RFC 9113, section 3.4): a pick names a READY subchannel, and one becomes READY by the SETTINGS of
-- its link. It speaks of no channel, and stands beside `IsKept` of `kept_sessions`.
-- Example: subchannel 1 is CONNECTING, and has link 1. No attempt is on link 1. Once its SETTINGS came subchannel 1 is READY, a pick names it, and attempt 1 is placed
-- on link 1.
use Rattle.std.specs.List.{list_all}
use Rattle.std.specs.Option.{option_map_or}
use Rattle.std.specs.Prelude.{Bool, List, not, true, ℕ, ◌&&◌, ◌==◌, ◌||◌, ◌≡◌}
use Rattle.attempt_ledger.specs.declared.ledger.Ask.{Ask}
use Rattle.grpc_base.specs.declared.kind.Pick.{Pick}
use Rattle.grpc_base.specs.declared.kind.Pick.TheVariants as pick
use Rattle.lb_policy.specs.Table.{is_ready}
use Rattle.session_actions.specs.Entries.{entry}
use Rattle.session_actions.specs.Links.{has_settings}
use Rattle.session_actions.specs.Policies.{is_unfollowed}
use Rattle.session_actions.specs.Words.{holds, last_of, numbered}
use Rattle.session_actions.specs.declared.attempt.Attempt.{Attempt}
use Rattle.session_actions.specs.declared.link.Link.{Link}
use Rattle.session_actions.specs.declared.seen.Seen.{Seen}
use Rattle.session_actions.specs.declared.subchannel.Subchannel.{Subchannel}

-- SETTINGS came on a link
abbrev pub has_preface_come : List Link → ℕ → Bool
has_preface_come links k = holds has_settings (numbered links k)

-- an attempt waits for a link, or is on such a one
abbrev pub is_on_prefaced : List Link → Attempt → Bool
is_on_prefaced links a = option_map_or (λ at. has_preface_come links at.link) a.row.placed true

-- a subchannel has such a link; one that is READY does
abbrev pub has_preface : List Link → Subchannel → Bool
has_preface links b = holds (has_preface_come links) b.link

abbrev pub is_ready_prefaced : List Link → Subchannel → Bool
is_ready_prefaced links b = not (is_ready b.state) || has_preface links b

-- an answer names a subchannel that has one, if it names one
abbrev pub names_prefaced : List Link → List Subchannel → Pick → Bool
names_prefaced links subs (pick.Place sub) = holds (has_preface links) (numbered subs sub)
names_prefaced links subs _ = true

-- so does the answer of a pick request that is still to be acted on, in the entry in which it was made
abbrev pub is_prefaced_ask : List Attempt → List Subchannel → List Link → ℕ → Ask → Bool
is_prefaced_ask attempts subs links n ask =
    holds (λ a. not (is_unfollowed a && (ask.entry == n)) || names_prefaced links subs ask.answer) (numbered attempts ask.row)

pub record LinksArePrefaced (s : Seen) : Type 0 where
  pub placed : list_all (is_on_prefaced s.links) s.attempts ≡ true
  -- (the rest is what this leans on)
  pub ready : list_all (is_ready_prefaced s.links) s.subs ≡ true
  pub picked : option_map_or (is_prefaced_ask s.attempts s.subs s.links (entry s)) (last_of s.asks) true ≡ true
