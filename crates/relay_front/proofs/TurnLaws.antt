-- Turns of a connection that is broken, and of one that is not.
use Rattle.std.proofs.Common.{◌≡◌, ℕ, Option, Some, None, Result, Ok, Err, List, inl, inr, refl, sym, ap, subst}
use Rattle.std.specs.Prelude.{◌↔◌}
use Rattle.relay_asks.specs.declared.ask.RelayAsk.{RelayAsk}
use Rattle.relay_calls.specs.Calls.{Calls}
use Rattle.relay_calls.specs.Posting.{Eyes, PostsTurn}
use Rattle.relay_calls.specs.declared.fault.CallsFault.{CallsFault}
use Rattle.relay_connection.specs.Arriving.{Arrives}
use Rattle.relay_connection.specs.Relay.{Relay, silent}
use Rattle.relay_connection.specs.declared.fault.RelayFault.{RelayFault}
use Rattle.relay_connection.specs.declared.fault.RelayFault.TheVariants as refused
use Rattle.relay_front.specs.Cores.{Core}
use Rattle.relay_front.specs.Turns.{GivesAfter, ServesAsks, TakesPiece, TurnsTo, TurnsUnless, turn_of}
use Rattle.relay_front.specs.declared.turned.RelayTurn.{RelayTurn}
use Rattle.relay_front.specs.declared.turned.RelayTurn.TheVariants as turn

pub turns_broken : {P : Type 0} (eyes : Eyes P) (broken : Option ℕ) (code : ℕ) (c : Core) (p : P) (piece : List ℕ) → broken ≡ Some code → TurnsUnless eyes broken c p piece c p (turn.Broken code)
turns_broken eyes broken code c p piece is = subst (λ (o : Option ℕ). TurnsUnless eyes o c p piece c p (turn.Broken code)) (sym is) (refl, refl, refl)

pub turns_wanting : {P : Type 0} (eyes : Eyes P) (broken : Option ℕ) (c after : Core) (p : P) (piece : List ℕ) → ((code : ℕ) → broken ≡ Some code → ⊥) → TurnsUnless eyes broken c p piece after p turn.NoMemory
turns_wanting eyes None c after p piece whole = inr (refl, refl)
turns_wanting eyes (Some code) c after p piece whole = absurd (whole code refl)

pub turns_whole : {P : Type 0} (eyes : Eyes P) (broken : Option ℕ) (c after : Core) (p q : P) (piece : List ℕ) (t : RelayTurn) → ((code : ℕ) → broken ≡ Some code → ⊥) → TakesPiece eyes c p piece after q t → TurnsUnless eyes broken c p piece after q t
turns_whole eyes None c after p q piece t whole takes = inl takes
turns_whole eyes (Some code) c after p q piece t whole takes = absurd (whole code refl)

-- a piece that was taken: the connection was not broken
pub whole_taken : {T : Type 0} (broken : Option ℕ) (r : Result T RelayFault) (x : T) → r ≡ Ok x → ((code : ℕ) → (r ≡ Err (refused.Broken code)) ↔ (broken ≡ Some code)) → (code : ℕ) → broken ≡ Some code → ⊥
whole_taken {T} broken r x ok breaks code is =
    let e : r ≡ Err (refused.Broken code) = (breaks code).1 is in
    let no : ⊥ = (cc) in no

pub whole_wanting : {T : Type 0} (broken : Option ℕ) (r : Result T RelayFault) → r ≡ Err refused.NoMemory → ((code : ℕ) → (r ≡ Err (refused.Broken code)) ↔ (broken ≡ Some code)) → (code : ℕ) → broken ≡ Some code → ⊥
whole_wanting {T} broken r wants breaks code is =
    let e : r ≡ Err (refused.Broken code) = (breaks code).1 is in
    let no : ⊥ = (cc) in no

-- what is asked is served by a connection that took the piece
pub takes_piece : {P : Type 0} (eyes : Eyes P) (c d after_core : Core) (before after : P) (piece : List ℕ) (asks : List RelayAsk) (t : RelayTurn)
    → d.calls ≡ c.calls → Arrives (silent c.relay) piece (record { relay = d.relay; asks = asks }) → ServesAsks eyes d before asks after_core after t → TakesPiece eyes c before piece after_core after t
takes_piece {P} eyes c d after_core before after piece asks t same arrives serves =
    let is : d ≡ record c { relay = d.relay } = ap (λ (k : Calls). let x : Core = record { relay = d.relay; calls = k } in x) same in
    record { relay = d.relay; asks = asks; arrives = arrives; serves = subst (λ (x : Core). ServesAsks eyes x before asks after_core after t) is serves }

pub serves_asks : {P : Type 0} (eyes : Eyes P) (c d after_core : Core) (before post after : P) (asks : List RelayAsk) (came : Result Unit CallsFault) (t : RelayTurn)
    → d.relay ≡ c.relay → PostsTurn eyes c.calls before asks d.calls post came → GivesAfter eyes d post came after_core after t → ServesAsks eyes c before asks after_core after t
serves_asks {P} eyes c d after_core before post after asks came t same posts gives =
    let is : d ≡ record c { calls = d.calls } = ap (λ (r : Relay). let x : Core = record { relay = r; calls = d.calls } in x) same in
    record { calls = d.calls; post = post; came = came; posts = posts; gives = subst (λ (x : Core). GivesAfter eyes x post came after_core after t) is gives }

-- the posts that a fault ended
pub cuts_asks : {P : Type 0} (eyes : Eyes P) (c d : Core) (before post : P) (asks : List RelayAsk) (f : CallsFault) (t : RelayTurn)
    → d.relay ≡ c.relay → t ≡ turn_of f → PostsTurn eyes c.calls before asks d.calls post (Err f) → ServesAsks eyes c before asks d post t
cuts_asks {P} eyes c d before post asks f t same is posts = serves_asks eyes c d d before post post asks (Err f) t same posts (refl, refl, is)

-- a piece that is refused, since the connection was broken before
pub turns_broken_as : {P T : Type 0} (eyes : Eyes P) (r : Result T RelayFault) (code : ℕ) (c d : Core) (p : P) (piece : List ℕ) → r ≡ Err (refused.Broken code)
    → ((n : ℕ) → (r ≡ Err (refused.Broken n)) ↔ (c.relay.link.wire.broken ≡ Some n)) → ((n : ℕ) → r ≡ Err (refused.Broken n) → d ≡ c) → TurnsTo eyes c p piece d p (turn.Broken code)
turns_broken_as {P} {T} eyes r code c d p piece is breaks same =
    subst (λ (x : Core). TurnsTo eyes c p piece x p (turn.Broken code)) (sym (same code is)) (turns_broken eyes c.relay.link.wire.broken code c p piece ((breaks code).0 is))
