-- What a session keeps in order at every moment, in its own words: it speaks of no channel. What it keeps of one call is in `call_actions`
-- (`IsInOrder`, `IsInTurn`), and of policies and subchannels in `net_actions`.
-- Example: the second call has the number 2, the third attempt the place 3, and the first link the number 1; each attempt is of a call that is there;
-- and in entry 4 no attempt ended in entry 5. An attempt that is placed is on a link that came up, and its stream is 1, 3, 5 or so on, never 0.
use Rattle.std.specs.List.{list_all}
use Rattle.std.specs.Option.{option_map_or}
use Rattle.std.specs.Prelude.{Bool, List, [], is_some, map, nat_le, not, suc, true, ℕ, ◌&&◌, ◌==◌, ◌||◌, ◌∷◌, ◌≡◌}
use Rattle.attempt_ledger.specs.declared.ledger.Ask.{Ask}
use Rattle.call_actions.specs.CallsApart.Apart.{IsBook}
use Rattle.grpc_base.specs.declared.kind.Pick.{Pick}
use Rattle.grpc_base.specs.declared.kind.Pick.TheVariants as pick
use Rattle.lb_policy.specs.Table.{is_ready}
use Rattle.session_actions.specs.Attempts.{call_of}
use Rattle.session_actions.specs.Entries.{entry}
use Rattle.session_actions.specs.Links.{read_bytes}
use Rattle.session_actions.specs.Policies.{is_unfollowed}
use Rattle.session_actions.specs.Responses.{is_read_by}
use Rattle.session_actions.specs.Words.{holds, is_number, last_of, numbered}
use Rattle.session_actions.specs.Writing.{is_control}
use Rattle.session_actions.specs.declared.attempt.Attempt.{Attempt}
use Rattle.session_actions.specs.declared.seen.Seen.{Seen}
use Rattle.session_actions.specs.declared.subchannel.Subchannel.{Subchannel}

-- numbers from one on
abbrev pub NumbersCountUp : ℕ → List ℕ → Type 0
NumbersCountUp n [] = Unit {0}
NumbersCountUp n (m ∷ ms) = (m ≡ n) × NumbersCountUp (suc n) ms

-- a link came up (0 is the number of none)
abbrev pub came_up : Seen → ℕ → Bool
came_up s link = is_some (numbered s.links link)

-- an attempt waits for a link, or is on one that came up
abbrev pub is_on_link : Seen → Attempt → Bool
is_on_link s a = option_map_or (λ at. came_up s at.link) a.row.placed true

-- the link of a subchannel, where it has one, came up; and one that is READY has a link
abbrev pub is_sound_sub : Seen → Subchannel → Bool
is_sound_sub s b = option_map_or (came_up s) b.link (not (is_ready b.state))

-- an answer names a subchannel that has a link, if it names one
abbrev pub has_link_for : List Subchannel → Pick → Bool
has_link_for subs (pick.Place sub) = holds (λ b. is_some b.link) (numbered subs sub)
has_link_for subs _ = true

-- a pick request is of an attempt that is there; where its answer is still to be acted on, in the entry in which it was made, that can be
abbrev pub is_sound_ask : Seen → Ask → Bool
is_sound_ask s ask =
    holds (λ a. not (is_unfollowed a && (ask.entry == entry s)) || has_link_for s.subs ask.answer) (numbered s.attempts ask.row)

pub record IsKept (s : Seen) : Type 0 where
  pub calls : NumbersCountUp 1 (map (λ c. c.number) s.calls)
  pub attempts : NumbersCountUp 1 (map (λ a. a.place) s.attempts)
  pub links : NumbersCountUp 1 (map (λ l. l.number) s.links)
  pub subs : NumbersCountUp 1 (map (λ b. b.number) s.subs)
  pub policies : NumbersCountUp 1 (map (λ g. g.number) s.policies)
  -- each attempt is of a call
  pub owned : list_all (λ a. is_some (call_of a s)) s.attempts ≡ true
  -- and each link of a subchannel
  pub dialled : list_all (λ l. is_some (numbered s.subs l.sub)) s.links ≡ true
  -- nothing is stamped with an entry that is still to come
  pub ends : list_all (λ a. option_map_or (λ e. nat_le e.entry (entry s)) a.row.ended true) s.attempts ≡ true
  pub asks : list_all (λ k. nat_le k.entry (entry s)) s.asks ≡ true
  -- the config of a call, and the run of a config, are there; and what a bucket counted are ends of attempts
  pub book : IsBook s
  -- no frame was read past the bytes that were read of its link
  pub reads : list_all (λ l. list_all (is_read_by (read_bytes l)) l.traffic) s.links ≡ true
  -- each attempt that is placed is on a link that came up
  pub placed : list_all (is_on_link s) s.attempts ≡ true
  -- no attempt has the stream 0, which is that of the whole link
  pub streams : list_all (λ a. not (is_number 0 a.row.stream)) s.attempts ≡ true
  -- (the rest is what these lean on.) Links of subchannels came up, and a READY subchannel has one
  pub boards : list_all (is_sound_sub s) s.subs ≡ true
  -- the last pick request is acted on with a subchannel that has a link
  pub picked : option_map_or (is_sound_ask s) (last_of s.asks) true ≡ true
  -- no frame that is queued on a link opens a stream
  pub queued : list_all (λ l. list_all is_control l.owed) s.links ≡ true
