-- Which lines the loss of a link stirs, and of what states a subchannel with a link is.
use Rattle.std.proofs.Common.{◌≡◌, ◌||◌, ◌∷◌, ap, arith, refl, ◌∙◌, Bool, true, false, List, [], Option, None, Some, ℕ, zero, suc, if◌then◌else◌, is_none, nat_lt, slice_get}
use Rattle.std.specs.Option.{option_or}
use Rattle.grpc_base.specs.declared.event.Conn.{Conn}
use Rattle.grpc_base.specs.declared.event.Conn.TheVariants as conn
use Rattle.lb_policy.specs.Table.{is_ready}
use Rattle.session_actions.specs.Policies.{is_shutdown}
use Rattle.session_actions.specs.Subchannels.{is_connecting}
use Rattle.session_actions.specs.Words.{first_of}
use Rattle.session_actions.specs.declared.action.Action.{Action}
use Rattle.session_actions.specs.declared.action.Action.TheVariants as action
use Rattle.session_actions.specs.declared.subchannel.Subchannel.{Subchannel}
use Rattle.session_order.specs.Lines.{is_line, rank}
use Rattle.session_order.specs.Stirs.{stirs}
use Rattle.session_order.specs.declared.line.Line.{Line}
use Rattle.session_order.specs.declared.line.Line.TheVariants as line

-- lines that the loss does not stir
pub unstirred : (link : ℕ) (m : Line) → is_line m line.WireEnd ≡ false → is_line m line.Link ≡ false → stirs (action.LinkLost link) m ≡ false
unstirred link line.Cut e f = refl
unstirred link line.Transparent e f = refl
unstirred link line.Inherited e f = refl
unstirred link line.Row e f = refl
unstirred link line.Final e f = refl
unstirred link line.Cancelled e f = refl
unstirred link line.Request e f = refl
unstirred link line.Overflow e f = refl
unstirred link line.Head e f = refl
unstirred link line.Response e f = refl
unstirred link line.Pick e f = refl
unstirred link line.Link e f = absurd (cc)
unstirred link line.WireEnd e f = absurd (cc)
unstirred link line.Reset e f = refl
unstirred link line.Shut e f = refl
unstirred link line.Retire e f = refl
unstirred link line.Begin e f = refl
unstirred link line.Give e f = refl
unstirred link line.Drop e f = refl
unstirred link line.Add e f = refl

pub before_link : (loses : Bool) (m : Line) → nat_lt (rank loses m) (rank loses line.Link) ≡ true → (is_line m line.WireEnd ≡ false) × (is_line m line.Link ≡ false)
before_link true line.WireEnd e = absurd (cc)
before_link false line.WireEnd e = absurd (cc)
before_link loses line.Cut e = (refl, refl)
before_link loses line.Transparent e = (refl, refl)
before_link loses line.Inherited e = (refl, refl)
before_link loses line.Row e = (refl, refl)
before_link loses line.Final e = (refl, refl)
before_link loses line.Cancelled e = (refl, refl)
before_link loses line.Request e = (refl, refl)
before_link loses line.Overflow e = (refl, refl)
before_link loses line.Head e = (refl, refl)
before_link loses line.Response e = (refl, refl)
before_link loses line.Pick e = (refl, refl)
before_link loses line.Link e = absurd (cc)
before_link loses line.Reset e = (refl, refl)
before_link loses line.Shut e = (refl, refl)
before_link loses line.Retire e = (refl, refl)
before_link loses line.Begin e = (refl, refl)
before_link loses line.Give e = (refl, refl)
before_link loses line.Drop e = (refl, refl)
before_link loses line.Add e = (refl, refl)

-- the first that gives something, where no other does
pub first_only : (f : Subchannel → Option Action) (xs : List Subchannel) (i : ℕ) (b : Subchannel) (a : Action) → slice_get xs i ≡ Some b → f b ≡ Some a
    → ((j : ℕ) (c : Subchannel) → slice_get xs j ≡ Some c → (j ≡ i → ⊥) → f c ≡ None) → first_of f xs ≡ Some a
first_only f [] i b a at gives others = absurd (cc)
first_only f (x ∷ xs) zero b a at gives others =
    let same : x ≡ b = (cc) in ap (λ (o : Option Action). option_or o (first_of f xs)) (ap f same ∙ gives)
first_only f (x ∷ xs) (suc i) b a at gives others =
    ap (λ (o : Option Action). option_or o (first_of f xs)) (others zero x refl (λ e. zero_suc i e))
    ∙ first_only f xs i b a at gives (λ j c here other. others (suc j) c here (λ e. other (one_down j i e)))
  where
    zero_suc : (i : ℕ) → zero ≡ suc i → ⊥
    zero_suc i e = omega (arith, e)

    one_down : (j i : ℕ) → suc j ≡ suc i → j ≡ i
    one_down j i e = omega (arith, e)

-- a subchannel with a link is none that is shut down, nor is it once it goes down
pub down_live : (c : Conn) → (is_connecting c || is_ready c) ≡ true → is_shutdown (if is_ready c then conn.Idle else conn.Failure) ≡ is_shutdown c
down_live conn.Connecting e = refl
down_live conn.Ready e = refl
down_live conn.Idle e = absurd (cc)
down_live conn.Failure e = absurd (cc)
down_live conn.Shutdown e = absurd (cc)

pub live_now : (c : Conn) → (is_connecting c || is_ready c) ≡ true → is_shutdown c ≡ false
live_now conn.Connecting e = refl
live_now conn.Ready e = refl
live_now conn.Idle e = absurd (cc)
live_now conn.Failure e = absurd (cc)
live_now conn.Shutdown e = absurd (cc)

pub linked_by : (o : Option ℕ) (c : Conn) (k : ℕ) → o ≡ Some k → ((is_none o || is_connecting c) || is_ready c) ≡ true → (is_connecting c || is_ready c) ≡ true
linked_by None c k e h = absurd (cc)
linked_by (Some n) c k e h = h
