-- Which links are gone is the same in the channel and in the session.
use Rattle.std.proofs.Common.{◌≡◌, ◌&&◌, ◌||◌, ◌+◌, ◌∷◌, ap, refl, subst, sym, ◌∙◌, Bool, true, List, [], Some, ℕ, zero, suc, not, is_some, slice_get}
use Rattle.std.proofs.lemmas.Bool.{and_parts}
use Rattle.std.specs.List.{list_all, list_any}
use Rattle.std.specs.Option.{option_map}
use Rattle.attempt_ledger.specs.declared.ledger.LinkSeen.{LinkSeen}
use Rattle.channel_actions.proofs.Outstanding.{outstanding_same}
use Rattle.channel_actions.proofs.Stamps.{counted_at, numbered_map, stamp_keeps}
use Rattle.channel_actions.specs.Agrees.{Agrees}
use Rattle.channel_actions.specs.Columns.{links_noted}
use Rattle.channel_actions.specs.Links.{HasLink}
use Rattle.channel_actions.specs.Sets.{PairsAreExactly, is_in_outstanding}
use Rattle.channel_core.specs.Books.{link_at}
use Rattle.channel_core.specs.States.{StateSeen}
use Rattle.channel_core.specs.Steps as channel
use Rattle.channel_core.specs.Steps.{has_outstanding, is_of_shut_sub, is_shut_state, sub_of}
use Rattle.channel_core.specs.Tables as channel_tables
use Rattle.channel_core.specs.Tables.{is_dead_at, is_retiring_at}
use Rattle.channel_core.specs.declared.state.links.LinkSlot.{LinkSlot}
use Rattle.channel_net.specs.Lists.{state_at}
use Rattle.channel_net.specs.declared.links.OwnLink.{OwnLink}
use Rattle.grpc_base.specs.declared.event.Conn.{Conn}
use Rattle.grpc_base.specs.declared.event.Conn.TheVariants as conn
use Rattle.net_actions.specs.Sees.{SubchannelsAgree}
use Rattle.session_actions.specs.Closing.{noted_gone}
use Rattle.session_actions.specs.Entries.{entry}
use Rattle.session_actions.specs.Links.{is_retiring}
use Rattle.session_actions.specs.Policies.{is_shutdown}
use Rattle.session_actions.specs.Reading.{is_outstanding_on}
use Rattle.session_actions.specs.Refusals.{is_gone, is_shutdown_sub}
use Rattle.session_actions.specs.Sessions.{link_seen}
use Rattle.session_actions.specs.Words.{holds, numbered}
use Rattle.session_actions.specs.declared.link.Link.{Link}
use Rattle.session_actions.specs.declared.seen.Seen.{Seen}
use Rattle.session_actions.specs.declared.subchannel.Subchannel.{Subchannel}
use Rattle.subchannel.specs.Records.{SubRecord}

-- subchannels of one number have one state
shut_same : (c : Conn) → is_shut_state (Some c) ≡ is_shutdown c
shut_same conn.Idle = refl
shut_same conn.Connecting = refl
shut_same conn.Ready = refl
shut_same conn.Failure = refl
shut_same conn.Shutdown = refl

subs_from : (n i : ℕ) (subs : List Subchannel) (board : List SubRecord) (links : List OwnLink) → SubchannelsAgree n subs board links → is_some (slice_get subs i) ≡ true
    → is_shut_state (option_map (λ (r : SubRecord). r.state) (slice_get board i)) ≡ holds (λ (b : Subchannel). is_shutdown b.state) (slice_get subs i)
subs_from n i [] [] links h there = absurd (cc)
subs_from n zero (b ∷ subs) (r ∷ board) links h there = shut_same r.state ∙ ap is_shutdown (sym h.0.state)
subs_from n (suc i) (b ∷ subs) (r ∷ board) links h there = subs_from (n + 1) i subs board links h.1 there
subs_from n i [] (r ∷ board) links h there = absurd h
subs_from n i (b ∷ subs) [] links h there = absurd h

pub subs_at : (number : ℕ) (subs : List Subchannel) (board : List SubRecord) (links : List OwnLink) → SubchannelsAgree 1 subs board links → is_some (numbered subs number) ≡ true
    → is_shut_state (state_at board number) ≡ holds (λ (b : Subchannel). is_shutdown b.state) (numbered subs number)
subs_at zero subs board links h there = absurd (cc)
subs_at (suc i) subs board links h there = subs_from 1 i subs board links h there

all_at : {X : Type 0} (p : X → Bool) (xs : List X) (i : ℕ) (x : X) → slice_get xs i ≡ Some x → list_all p xs ≡ true → p x ≡ true
all_at p [] i x e h = absurd (cc)
all_at p (y ∷ xs) zero x e h = let one : y ≡ x = (cc) in ap p (sym one) ∙ (and_parts (p y) (list_all p xs) h).0
all_at p (y ∷ xs) (suc i) x e h = all_at p xs i x e (and_parts (p y) (list_all p xs) h).1

pub all_numbered : {X : Type 0} (p : X → Bool) (xs : List X) (n : ℕ) (x : X) → numbered xs n ≡ Some x → list_all p xs ≡ true → p x ≡ true
all_numbered p xs zero x e h = absurd (cc)
all_numbered p xs (suc i) x e h = all_at p xs i x e h

-- where these parts are the same
module _ (x : StateSeen) (s : Seen) (number : ℕ) (l : Link) (own : l.number ≡ number) (slot : LinkSlot) (there : numbered x.links number ≡ Some slot)
    (over_is : is_some l.over ≡ slot.dead) (retiring_as : is_retiring l ≡ slot.retiring) (sub_same : sub_of (link_at x.book number) ≡ l.sub)
    (subs_are : SubchannelsAgree 1 s.subs x.net.board x.net.links) (has_sub : is_some (numbered s.subs l.sub) ≡ true) (out : PairsAreExactly x.outstanding (is_in_outstanding s)) where
  shut_is : is_of_shut_sub number x ≡ is_shutdown_sub s l.sub
  shut_is =
      ap (λ (n : ℕ). is_shut_state (state_at x.net.board n)) sub_same ∙ subs_at l.sub s.subs x.net.board x.net.links subs_are has_sub

  out_is : has_outstanding number x ≡ list_any (is_outstanding_on l) s.attempts
  out_is = subst (λ (n : ℕ). has_outstanding n x ≡ list_any (is_outstanding_on l) s.attempts) own (outstanding_same s l x.outstanding out)

  pub gone_by : channel.is_gone number x ≡ is_gone l s
  gone_by =
      ap (λ (b : Bool). b || ((channel_tables.is_retiring x.links number || is_of_shut_sub number x) && not (has_outstanding number x))) (ap is_dead_at there ∙ sym over_is)
      ∙ ap (λ (b : Bool). is_some l.over || ((b || is_of_shut_sub number x) && not (has_outstanding number x))) (ap is_retiring_at there ∙ sym retiring_as)
      ∙ ap (λ (b : Bool). is_some l.over || ((is_retiring l || b) && not (has_outstanding number x))) shut_is
      ∙ ap (λ (b : Bool). is_some l.over || ((is_retiring l || is_shutdown_sub s l.sub) && not b)) out_is

-- the ledger has of which subchannel a link is, stamped or not
pub sub_noted : (ledger : List LinkSeen) (s : Seen) (number : ℕ) (l : Link) → numbered s.links number ≡ Some l → links_noted s ≡ ledger → sub_of (numbered ledger number) ≡ l.sub
sub_noted ledger s number l e columns =
    ap (λ (ks : List LinkSeen). sub_of (numbered ks number)) (sym columns)
    ∙ ap sub_of (numbered_map (λ (k : Link). link_seen (noted_gone s k)) s.links number ∙ ap (option_map (λ (k : Link). link_seen (noted_gone s k))) e)
    ∙ stamp_keeps (λ (k : Link). is_gone k s) (λ k z. refl) (λ (k : Link). k.sub) (λ k z. refl) (entry s) l

module _ (x : StateSeen) (s : Seen) (h : Agrees x s) (number : ℕ) (l : Link) (e : numbered s.links number ≡ Some l) where
  own_number : l.number ≡ number
  own_number = counted_at (λ (k : Link). k.number) s.links number l h.kept.links e

  has_link : HasLink x s l number
  has_link = h.links.each number l e

  pub gone_same : channel.is_gone number x ≡ is_gone l s
  gone_same =
      gone_by x s number l own_number has_link.slot has_link.there has_link.sees.over has_link.sees.retiring (sub_noted x.book.ledger.links s number l e h.columns.links)
      h.net.subs_are (all_numbered (λ (k : Link). is_some (numbered s.subs k.sub)) s.links number l e h.kept.dialled) h.sets.outstanding
