-- Actions of no call: of policies, subchannels, links and the entry itself. They touch neither calls nor attempts nor configs nor runs.
use Rattle.call_actions.proofs.CallsApart.Parts.{IsSame, same_or, same_same}
use Rattle.grpc_base.specs.declared.address.Address.{Address}
use Rattle.grpc_base.specs.declared.event.Conn.TheVariants as conn
use Rattle.session_actions.specs.Actions.{after_in}
use Rattle.session_actions.specs.Links.{link_over, wants_resolution}
use Rattle.session_actions.specs.Making.{without_turn_unless}
use Rattle.session_actions.specs.Policies.{addresses_in, current_policy, given_addresses, policy_retired, with_policy}
use Rattle.session_actions.specs.Subchannels.{dial_taken_of, gone_down, in_state, link_timed_out, new_link, noted_by_policies, with_dial, with_sub, without_link}
use Rattle.session_actions.specs.Words.{changed, numbered}
use Rattle.session_actions.specs.Writing.{frame_read_on}
use Rattle.session_actions.specs.declared.action.Action.TheVariants as action
use Rattle.session_actions.specs.declared.action.Action.{Action}
use Rattle.session_actions.specs.declared.entry.OpenEntry.{OpenEntry}
use Rattle.session_actions.specs.declared.link.LinkOver.TheVariants as over
use Rattle.session_actions.specs.declared.policy.PolicyUse.{PolicyUse}
use Rattle.session_actions.specs.declared.seen.Seen.{Seen}
use Rattle.session_actions.specs.declared.subchannel.Subchannel.{Subchannel}
use Rattle.std.proofs.Common.{Bool, List, None, Option, Some, [], false, length, refl, true, ℕ, ◌++◌, ◌+◌, ◌∷◌, ◌≡◌}
use Rattle.std.specs.Option.{option_map_or}

-- what is of no call
pub turned : (b : Bool) (z : Seen) → IsSame z (without_turn_unless b z)
turned true z = record { calls = refl; attempts = refl; configs = refl; runs = refl }
turned false z = record { calls = refl; attempts = refl; configs = refl; runs = refl }

pub subbed : (f : Subchannel → Subchannel) (n : ℕ) (z : Seen) → IsSame z (with_sub f n z)
subbed f n z =
    let t : Seen = record z { subs = changed f n z.subs } in
    same_same z t (with_sub f n z) (record { calls = refl; attempts = refl; configs = refl; runs = refl }) (same_or t (λ (b : Subchannel). noted_by_policies b t) (λ b. record { calls = refl; attempts = refl; configs = refl; runs = refl }) (numbered t.subs n))

pub dialled : (again until : ℕ) (s : Seen) (b : Subchannel) → IsSame s (dial_taken_of again until s b)
dialled again until s b =
    same_same s (with_sub (with_dial again until) b.number s) (dial_taken_of again until s b) (subbed (with_dial again until) b.number s) (record { calls = refl; attempts = refl; configs = refl; runs = refl })

pub timed_out : (s : Seen) (o : Option Subchannel) → IsSame s (option_map_or (λ (b : Subchannel). link_timed_out b s) o s)
timed_out s o =
    same_or s (λ (b : Subchannel). link_timed_out b s) (λ b. same_or s (λ (link : ℕ). link_over over.TimedOut link s) (λ link. record { calls = refl; attempts = refl; configs = refl; runs = refl }) b.link) o

-- actions of no call: neither calls nor attempts nor configs nor runs change
abbrev pub is_plain : Action → Bool
is_plain (action.EntryOpens posted word e) = true
is_plain (action.EventRefused why) = true
is_plain (action.EventAnswered r) = true
is_plain action.SettlingBegins = true
is_plain action.EntryCloses = true
is_plain action.ResolutionFailed = true
is_plain (action.PickRequested place g answer) = true
is_plain (action.PolicyBegins k) = true
is_plain (action.AddressesGiven g) = true
is_plain (action.PolicyTakesOver g) = true
is_plain (action.PolicyRetired g) = true
is_plain (action.SubchannelAdded address) = true
is_plain (action.SubchannelShut sub) = true
is_plain (action.SubchannelConnects sub) = true
is_plain (action.DialTaken sub again until) = true
is_plain (action.DialFails sub) = true
is_plain (action.ConnectTimesOut sub) = true
is_plain (action.BackoffEnds sub) = true
is_plain (action.LinkUp sub) = true
is_plain (action.SettingsArrive sub) = true
is_plain (action.LinkDown sub) = true
is_plain (action.BytesArrive link) = true
is_plain (action.FrameRead link r) = true
is_plain (action.LinkBreaks link number) = true
is_plain (action.LinkLost link) = true
is_plain (action.PingQueued link) = true
is_plain action.ChannelShuts = true
is_plain _ = false

pub still : (o : OpenEntry) (a : Action) (s : Seen) → is_plain a ≡ true → IsSame s (after_in o a s)
still o (action.EntryOpens posted word e) s is = record { calls = refl; attempts = refl; configs = refl; runs = refl }
still o (action.EventRefused why) s is = (record { calls = refl; attempts = refl; configs = refl; runs = refl })
still o (action.EventAnswered r) s is = (record { calls = refl; attempts = refl; configs = refl; runs = refl })
still o action.SettlingBegins s is = (record { calls = refl; attempts = refl; configs = refl; runs = refl })
still o action.EntryCloses s is = (record { calls = refl; attempts = refl; configs = refl; runs = refl })
still o action.ResolutionFailed s is = (record { calls = refl; attempts = refl; configs = refl; runs = refl })
still o (action.PickRequested place g answer) s is = (record { calls = refl; attempts = refl; configs = refl; runs = refl })
still o (action.PolicyBegins k) s is = (record { calls = refl; attempts = refl; configs = refl; runs = refl })
still o (action.AddressesGiven g) s is =
    (same_or s (λ (addresses : List Address). with_policy (given_addresses addresses s) g s) (λ addresses. record { calls = refl; attempts = refl; configs = refl; runs = refl }) (addresses_in o.event))
still o (action.PolicyTakesOver g) s is =
    let z : Seen = option_map_or (λ (p : PolicyUse). policy_retired p.number s) (current_policy s) s in
    (same_same s z (after_in o (action.PolicyTakesOver g) s)
    (same_or s (λ (p : PolicyUse). policy_retired p.number s) (λ p. record { calls = refl; attempts = refl; configs = refl; runs = refl }) (current_policy s)) (record { calls = refl; attempts = refl; configs = refl; runs = refl }))
still o (action.PolicyRetired g) s is = (record { calls = refl; attempts = refl; configs = refl; runs = refl })
still o (action.SubchannelAdded address) s is = (record { calls = refl; attempts = refl; configs = refl; runs = refl })
still o (action.SubchannelShut sub) s is = (subbed (without_link conn.Shutdown) sub s)
still o (action.SubchannelConnects sub) s is = (subbed (in_state conn.Connecting) sub s)
still o (action.DialTaken sub again until) s is =
    (same_or s (dial_taken_of again until s) (dialled again until s) (numbered s.subs sub))
still o (action.DialFails sub) s is =
    let z : Seen = wants_resolution s in
    let y : Seen = with_sub (without_link conn.Failure) sub z in
    (same_same s z (after_in o (action.DialFails sub) s) (record { calls = refl; attempts = refl; configs = refl; runs = refl })
    (same_same z y (after_in o (action.DialFails sub) s) (subbed (without_link conn.Failure) sub z) (record { calls = refl; attempts = refl; configs = refl; runs = refl })))
still o (action.ConnectTimesOut sub) s is =
    let z : Seen = option_map_or (λ (b : Subchannel). link_timed_out b s) (numbered s.subs sub) s in
    let y : Seen = wants_resolution z in
    (same_same s z (after_in o (action.ConnectTimesOut sub) s) (timed_out s (numbered s.subs sub))
    (same_same z y (after_in o (action.ConnectTimesOut sub) s) (record { calls = refl; attempts = refl; configs = refl; runs = refl }) (subbed (without_link conn.Failure) sub y)))
still o (action.BackoffEnds sub) s is = (subbed (in_state conn.Idle) sub s)
still o (action.LinkUp sub) s is =
    let z : Seen = record s { links = s.links ++ new_link (length s.links + 1) sub s ∷ [] } in
    let y : Seen = with_sub (λ (b : Subchannel). record b { link = Some (length s.links + 1) }) sub z in
    (same_same s z (after_in o (action.LinkUp sub) s) (record { calls = refl; attempts = refl; configs = refl; runs = refl })
    (same_same z y (after_in o (action.LinkUp sub) s) (subbed (λ (b : Subchannel). record b { link = Some (length s.links + 1) }) sub z) (record { calls = refl; attempts = refl; configs = refl; runs = refl })))
still o (action.SettingsArrive sub) s is =
    (subbed (λ (b : Subchannel). record b { state = conn.Ready; dials = 0; until = None }) sub s)
still o (action.LinkDown sub) s is = (subbed gone_down sub s)
still o (action.BytesArrive link) s is = (record { calls = refl; attempts = refl; configs = refl; runs = refl })
still o (action.FrameRead link r) s is = (same_or s (frame_read_on r s) (λ l. record { calls = refl; attempts = refl; configs = refl; runs = refl }) (numbered s.links link))
still o (action.LinkBreaks link number) s is = (record { calls = refl; attempts = refl; configs = refl; runs = refl })
still o (action.LinkLost link) s is = (record { calls = refl; attempts = refl; configs = refl; runs = refl })
still o (action.PingQueued link) s is = (record { calls = refl; attempts = refl; configs = refl; runs = refl })
still o action.ChannelShuts s is = (record { calls = refl; attempts = refl; configs = refl; runs = refl })
still o _ s is = absurd (cc)
