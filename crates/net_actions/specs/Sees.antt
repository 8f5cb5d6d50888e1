-- What the net of a channel keeps of a session: its subchannels, and the policies that are current and pending. The moment at which a backoff is over
-- is kept only where it may come, in TRANSIENT_FAILURE or while a dial is under way.
-- Example: a subchannel that was dialled at 0 s and became READY has no moment in the net; in the session it still has the one of that dial, which
-- nobody looks at.
use Rattle.std.specs.Option.{option_map}
use Rattle.std.specs.List.{list_any}
use Rattle.std.specs.Prelude.{Bool, List, None, Option, Some, [], count_by, false, is_some, length, slice_get, true, ℕ, ◌+◌, ◌<◌, ◌==◌, ◌||◌, ◌∷◌, ◌≡◌, ◌≤◌}
use Rattle.attempt_ledger.specs.declared.ledger.Ask.{Ask}
use Rattle.channel_net.specs.Lists.{link_of}
use Rattle.channel_net.specs.Steps.{NetSeen}
use Rattle.channel_net.specs.declared.links.OwnLink.{OwnLink}
use Rattle.grpc_base.specs.declared.address.Address.{Address}
use Rattle.grpc_base.specs.declared.event.Conn.{Conn}
use Rattle.lb_policy.specs.Runs.{FailedAreOfTheView}
use Rattle.lb_policy.specs.Table.{IsWithoutRepeats, PolicySeen}
use Rattle.policy_rack.specs.declared.live.Live.{Live}
use Rattle.session_actions.specs.Policies.{current_policy, is_current, is_pending, pending_policy, policy_of}
use Rattle.session_actions.specs.declared.policy.PolicyUse.{PolicyUse}
use Rattle.session_actions.specs.declared.seen.PolicyKind.{PolicyKind}
use Rattle.session_actions.specs.declared.seen.Seen.{Seen}
use Rattle.session_actions.specs.declared.subchannel.Subchannel.{Subchannel}
use Rattle.subchannel.specs.Records.{SubRecord, is_failure}
use Rattle.grpc_base.specs.declared.event.Conn.TheVariants as conn

-- what goes together in a subchannel: a dial is under way only in CONNECTING, and a link is there only in READY or with a dial
abbrev pub IsShaped : Conn → Option ℕ → Bool → Type 0
IsShaped conn.Idle until linked = (until ≡ None) × (linked ≡ false)
IsShaped conn.Connecting None linked = linked ≡ false
IsShaped conn.Connecting (Some t) linked = Unit {0}
IsShaped conn.Ready until linked = (until ≡ None) × (linked ≡ true)
IsShaped conn.Failure until linked = (until ≡ None) × (linked ≡ false)
IsShaped conn.Shutdown until linked = (until ≡ None) × (linked ≡ false)

-- a subchannel of a session is that of a number in the net, which has this link
pub record IsSub (b : Subchannel) (r : SubRecord) (number : ℕ) (link : Option ℕ) : Type 0 where
  pub number_is : b.number ≡ number
  pub address : b.address ≡ r.address
  pub state : b.state ≡ r.state
  pub dials : b.dials ≡ r.dials
  pub until : b.until ≡ r.until
  pub again : (is_failure r.state || is_some r.until) ≡ true → b.again ≡ r.again
  pub link_is : b.link ≡ link
  pub linked : is_some link ≡ r.linked
  pub shape : IsShaped r.state r.until r.linked

-- all of them, from a number on
abbrev pub SubchannelsAgree : ℕ → List Subchannel → List SubRecord → List OwnLink → Type 0
SubchannelsAgree n [] [] links = Unit {0}
SubchannelsAgree n (b ∷ subs) (r ∷ board) links = IsSub b r n (link_of links n) × SubchannelsAgree (n + 1) subs board links
SubchannelsAgree n _ _ links = ⊥

-- and no link is of a number beyond them
abbrev pub NoneBeyond : ℕ → List OwnLink → Type 0
NoneBeyond made links = (number : ℕ) → made < number → link_of links number ≡ None

-- all uses of policies: each is numbered by its place, and at most one is current and at most one pending
abbrev pub PoliciesAreNumbered : ℕ → List PolicyUse → Type 0
PoliciesAreNumbered n [] = Unit {0}
PoliciesAreNumbered n (g ∷ uses) = (g.number ≡ n) × PoliciesAreNumbered (n + 1) uses

abbrev pub AtMostOne : (PolicyUse → Bool) → List PolicyUse → Type 0
AtMostOne test [] = Unit {0}
AtMostOne test (g ∷ uses) = (test g ≡ true → list_any test uses ≡ false) × AtMostOne test uses

pub record UsesAgree (uses : List PolicyUse) : Type 0 where
  pub numbers : PoliciesAreNumbered 1 uses
  pub one_current : AtMostOne is_current uses
  pub one_pending : AtMostOne is_pending uses

-- (and none of those to come answered a pick request)
abbrev pub NoneAskedBeyond : ℕ → List Ask → Type 0
NoneAskedBeyond made asks = (number : ℕ) → made < number → count_by (λ a. a.generation == number) asks ≡ 0

-- the policies that the channel was made with are those of the net, by kind and width
abbrev pub KindsAgree : List PolicyKind → List PolicySeen → Type 0
KindsAgree [] [] = Unit {0}
KindsAgree (k ∷ kinds) (p ∷ policies) = (k.kind ≡ p.kind) × (k.width ≡ p.width) × KindsAgree kinds policies
KindsAgree _ _ = ⊥

-- a policy in use: its number, its addresses, and what the table sees of it: a view without repeats, and of it those that failed
abbrev pub IsSound : PolicySeen → Type 0
IsSound p = IsWithoutRepeats p.view × FailedAreOfTheView p

abbrev pub IsUse : Option PolicyUse → Option PolicySeen → Option Live → List Address → List PolicySeen → Type 0
IsUse None p None addresses policies = addresses ≡ []
IsUse (Some g) (Some p) (Some live) addresses policies =
    (g.number ≡ live.generation) × (g.addresses ≡ addresses) × (slice_get policies live.place ≡ Some p) × IsSound p
IsUse g p live addresses policies = ⊥

-- two uses are of two policies, and have two numbers
abbrev pub UsesAreApart : Option Live → Option Live → Type 0
UsesAreApart (Some live) (Some other) = (live.place ≡ other.place → ⊥) × (live.generation ≡ other.generation → ⊥)
UsesAreApart _ _ = Unit {0}

pub record SeesBy (kinds : List PolicyKind) (asks : List Ask) (uses : List PolicyUse) (subs : List Subchannel) (current : Option PolicyUse) (p : Option PolicySeen) (pending : Option PolicyUse) (q : Option PolicySeen) (n : NetSeen) : Type 0 where
  pub subs_are : SubchannelsAgree 1 subs n.board n.links
  pub beyond : NoneBeyond (length subs) n.links
  pub uses_are : UsesAgree uses
  pub made : n.asker.rack.made ≡ length uses
  pub kinds_are : KindsAgree kinds n.asker.rack.policies
  pub unasked : NoneAskedBeyond (length uses) asks
  -- (the net counts no more pick requests than were made)
  pub counted : n.asker.asks ≤ length asks
  pub current_is : IsUse current p n.asker.rack.current n.current n.asker.rack.policies
  pub pending_is : IsUse pending q n.asker.rack.pending n.pending n.asker.rack.policies
  pub apart : UsesAreApart n.asker.rack.current n.asker.rack.pending

abbrev pub Sees : Seen → NetSeen → Type 0
Sees s n =
    SeesBy s.setup.policies s.asks s.policies s.subs (current_policy s) (option_map (λ g. policy_of g s) (current_policy s)) (pending_policy s)
    (option_map (λ g. policy_of g s) (pending_policy s)) n
