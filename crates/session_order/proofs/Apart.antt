-- Policies that come and go stir no line of calls or links.
use Rattle.std.proofs.Common.{◌≡◌, refl, ◌∙◌, false, List, Option, None, Some, ℕ}
use Rattle.std.specs.Option.{option_map_or}
use Rattle.grpc_base.specs.declared.address.Address.{Address}
use Rattle.grpc_base.specs.declared.kind.Kind.{Kind}
use Rattle.session_actions.specs.Actions.{after_in}
use Rattle.session_actions.specs.Entries.{entry}
use Rattle.session_actions.specs.Policies.{activated_in, addresses_in, current_policy, given_addresses, policy_retired, retired_in, with_policy}
use Rattle.session_actions.specs.Subchannels.{noted_by_policies, with_sub, without_link}
use Rattle.session_actions.specs.Words.{changed, numbered}
use Rattle.session_actions.specs.declared.entry.OpenEntry.{OpenEntry}
use Rattle.session_actions.specs.declared.policy.PolicyUse.{PolicyUse}
use Rattle.session_actions.specs.declared.seen.Seen.{Seen}
use Rattle.session_actions.specs.declared.subchannel.Subchannel.{Subchannel}
use Rattle.session_order.proofs.Aside.{aside_final, aside_request}
use Rattle.session_order.proofs.Boards.{goes_on, sub_pick, with_sub_current}
use Rattle.session_order.proofs.Changed.{none_changed}
use Rattle.session_order.specs.Quiescent.{IsStill, is_link_new}
use Rattle.session_order.specs.Laws.{LeavesApart}
use Rattle.session_order.specs.Lines.{is_of_policies}
use Rattle.session_order.specs.declared.line.Line.{Line}
use Rattle.session_actions.specs.declared.action.Action.TheVariants as action
use Rattle.grpc_base.specs.declared.event.Conn.TheVariants as conn
use Rattle.session_order.specs.declared.line.Line.TheVariants as line

-- other policies
policies_apart : (s : Seen) (uses : List PolicyUse) (l : Line) (o : OpenEntry) → is_of_policies l ≡ false → IsStill l o s
    → IsStill l o (record s { policies = uses })
policies_apart s uses line.Cut o e h = h
policies_apart s uses line.Transparent o e h = h
policies_apart s uses line.Inherited o e h = h
policies_apart s uses line.Row o e h = h
policies_apart s uses line.Final o e h = aside_final s (record s { policies = uses }) ∙ h
policies_apart s uses line.Cancelled o e h = h
policies_apart s uses line.Request o e h = aside_request o s (record s { policies = uses }) ∙ h
policies_apart s uses line.Overflow o e h = h
policies_apart s uses line.Head o e h = h
policies_apart s uses line.Response o e h = h
policies_apart s uses line.Pick o e h = h
policies_apart s uses line.Link o e h = h
policies_apart s uses line.WireEnd o e h = h
policies_apart s uses line.Reset o e h = h
policies_apart s uses line.Shut o e h = h
policies_apart s uses line.Retire o e h = absurd (cc)
policies_apart s uses line.Begin o e h = absurd (cc)
policies_apart s uses line.Give o e h = absurd (cc)
policies_apart s uses line.Drop o e h = absurd (cc)
policies_apart s uses line.Add o e h = absurd (cc)

pub begins_apart : (k : Kind) (o : OpenEntry) (s : Seen) → s.current ≡ Some o → LeavesApart (action.PolicyBegins k) o s
begins_apart k o s e l p is apart h =
    goes_on o (after_in o (action.PolicyBegins k) s) e l (policies_apart s (after_in o (action.PolicyBegins k) s).policies l o apart h) p is

pub retires_apart : (g : ℕ) (o : OpenEntry) (s : Seen) → s.current ≡ Some o → LeavesApart (action.PolicyRetired g) o s
retires_apart g o s e l p is apart h =
    goes_on o (policy_retired g s) e l (policies_apart s (changed (retired_in (entry s)) g s.policies) l o apart h) p is

over_by : (n g : ℕ) (s : Seen) (c : Option PolicyUse) (o : OpenEntry) → s.current ≡ Some o → (l : Line) → is_of_policies l ≡ false → IsStill l o s
    → (p : OpenEntry) → (with_policy (activated_in n) g (option_map_or (λ (x : PolicyUse). policy_retired x.number s) c s)).current ≡ Some p
    → IsStill l p (with_policy (activated_in n) g (option_map_or (λ (x : PolicyUse). policy_retired x.number s) c s))
over_by n g s None o e l apart h p is =
    goes_on o (with_policy (activated_in n) g s) e l (policies_apart s (changed (activated_in n) g s.policies) l o apart h) p is
over_by n g s (Some x) o e l apart h p is =
    goes_on o (with_policy (activated_in n) g (policy_retired x.number s)) e l
    (policies_apart s (changed (activated_in n) g (changed (retired_in (entry s)) x.number s.policies)) l o apart h) p is

pub over_apart : (g : ℕ) (o : OpenEntry) (s : Seen) → s.current ≡ Some o → LeavesApart (action.PolicyTakesOver g) o s
over_apart g o s e l p is apart h = over_by (entry s) g s (current_policy s) o e l apart h p is

given_by : (g : ℕ) (s : Seen) (addresses : Option (List Address)) (o : OpenEntry) → s.current ≡ Some o → (l : Line) → is_of_policies l ≡ false → IsStill l o s
    → (p : OpenEntry) → (option_map_or (λ (x : List Address). with_policy (given_addresses x s) g s) addresses s).current ≡ Some p
    → IsStill l p (option_map_or (λ (x : List Address). with_policy (given_addresses x s) g s) addresses s)
given_by g s None o e l apart h p is = goes_on o s e l h p is
given_by g s (Some x) o e l apart h p is =
    goes_on o (with_policy (given_addresses x s) g s) e l (policies_apart s (changed (given_addresses x s) g s.policies) l o apart h) p is

pub given_apart : (g : ℕ) (o : OpenEntry) (s : Seen) → s.current ≡ Some o → LeavesApart (action.AddressesGiven g) o s
given_apart g o s e l p is apart h = given_by g s (addresses_in o.event) o e l apart h p is

-- a subchannel that is shut down
shut_apart_by : (s : Seen) (n : ℕ) (l : Line) (o : OpenEntry) → is_of_policies l ≡ false → IsStill l o s
    → IsStill l o (record s { subs = changed (without_link conn.Shutdown) n s.subs })
shut_apart_by s n line.Cut o e h = h
shut_apart_by s n line.Transparent o e h = h
shut_apart_by s n line.Inherited o e h = h
shut_apart_by s n line.Row o e h = h
shut_apart_by s n line.Final o e h = aside_final s (record s { subs = changed (without_link conn.Shutdown) n s.subs }) ∙ h
shut_apart_by s n line.Cancelled o e h = h
shut_apart_by s n line.Request o e h = aside_request o s (record s { subs = changed (without_link conn.Shutdown) n s.subs }) ∙ h
shut_apart_by s n line.Overflow o e h = h
shut_apart_by s n line.Head o e h = h
shut_apart_by s n line.Response o e h = h
shut_apart_by s n line.Pick o e h = sub_pick s n (without_link conn.Shutdown) ∙ h
shut_apart_by s n line.Link o e h = none_changed (is_link_new s) (without_link conn.Shutdown) n s.subs (λ b f. refl) h
shut_apart_by s n line.WireEnd o e h = h
shut_apart_by s n line.Reset o e h = h
shut_apart_by s n line.Shut o e h = h
shut_apart_by s n line.Retire o e h = absurd (cc)
shut_apart_by s n line.Begin o e h = absurd (cc)
shut_apart_by s n line.Give o e h = absurd (cc)
shut_apart_by s n line.Drop o e h = absurd (cc)
shut_apart_by s n line.Add o e h = absurd (cc)

noted_apart : (u : Seen) (b : Option Subchannel) (l : Line) (o : OpenEntry) → is_of_policies l ≡ false → IsStill l o u
    → IsStill l o (option_map_or (λ (x : Subchannel). noted_by_policies x u) b u)
noted_apart u None l o apart h = h
noted_apart u (Some b) l o apart h = policies_apart u (noted_by_policies b u).policies l o apart h

pub shut_apart : (sub : ℕ) (o : OpenEntry) (s : Seen) → s.current ≡ Some o → LeavesApart (action.SubchannelShut sub) o s
shut_apart sub o s e l p is apart h =
    let u : Seen = record s { subs = changed (without_link conn.Shutdown) sub s.subs } in
    goes_on o (with_sub (without_link conn.Shutdown) sub s) (with_sub_current s sub (without_link conn.Shutdown) ∙ e) l
    (noted_apart u (numbered u.subs sub) l o apart (shut_apart_by s sub l o apart h)) p is
