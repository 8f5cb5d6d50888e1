-- Which links are gone once an attempt has ended: the channel stamps the link of the attempt, and the session notes the same links as gone.
use Rattle.std.proofs.Common.{◌≡◌, ◌&&◌, ◌||◌, ◌==◌, ◌+◌, ◌∷◌, ap, refl, subst, sym, ◌∙◌, Bool, true, false, List, [], Option, None, Some, ℕ, zero, suc, not, if◌then◌else◌, is_none, is_some, slice_get}
use Rattle.std.proofs.lemmas.Bool.{and_right, eqb-false}
use Rattle.std.specs.List.{list_any}
use Rattle.std.specs.Option.{option_map}
use Rattle.attempt_ledger.specs.declared.ledger.LinkSeen.{LinkSeen}
use Rattle.attempt_ledger.specs.declared.row.Placed.{Placed}
use Rattle.channel_actions.proofs.Gone.{all_numbered}
use Rattle.channel_actions.proofs.Outstanding.{outstanding_same}
use Rattle.channel_actions.proofs.Stamps.{counted_at}
use Rattle.channel_actions.specs.KeptSessions.Kept.{IsKept}
use Rattle.channel_actions.specs.Sets.{PairsAreExactly, is_in_outstanding}
use Rattle.end_cases.specs.AttemptEnds.Ends.{gone_with}
use Rattle.channel_core.proofs.BookLaws.{number_changed, number_other}
use Rattle.channel_core.specs.Books.{link_at}
use Rattle.channel_core.specs.States.{StateSeen}
use Rattle.channel_core.specs.Steps as channel
use Rattle.channel_core.specs.Steps.{has_outstanding, is_of_shut_sub, is_shut_state, sub_of, with_ledger_links}
use Rattle.channel_core.specs.Tables as channel_tables
use Rattle.channel_net.specs.Lists.{state_at}
use Rattle.channel_net.specs.declared.links.OwnLink.{OwnLink}
use Rattle.grpc_base.specs.declared.event.Conn.{Conn}
use Rattle.grpc_base.specs.declared.event.Conn.TheVariants as conn
use Rattle.ledger_stamps.specs.Steps.{changed_at, gone_link, stamped}
use Rattle.net_actions.specs.Sees.{SubchannelsAgree}
use Rattle.session_actions.specs.Closing.{noted_gone}
use Rattle.session_actions.specs.Entries.{entry}
use Rattle.session_actions.specs.Links.{is_retiring}
use Rattle.session_actions.specs.Policies.{is_shutdown}
use Rattle.session_actions.specs.Reading.{is_outstanding_on}
use Rattle.session_actions.specs.Refusals.{is_gone, is_shutdown_sub}
use Rattle.session_actions.specs.Sessions.{link_seen}
use Rattle.session_actions.specs.Words.{holds, numbered}
use Rattle.session_actions.specs.declared.link.Link.{Link}
use Rattle.session_actions.specs.declared.seen.Seen.{Seen}
use Rattle.session_actions.specs.declared.subchannel.Subchannel.{Subchannel}
use Rattle.subchannel.specs.Records.{SubRecord}

-- subchannels of one number have one state
shut_same : (c : Conn) → is_shut_state (Some c) ≡ is_shutdown c
shut_same conn.Idle = refl
shut_same conn.Connecting = refl
shut_same conn.Ready = refl
shut_same conn.Failure = refl
shut_same conn.Shutdown = refl

subs_from : (n i : ℕ) (subs : List Subchannel) (board : List SubRecord) (links : List OwnLink) → SubchannelsAgree n subs board links → is_some (slice_get subs i) ≡ true
    → is_shut_state (option_map (λ (r : SubRecord). r.state) (slice_get board i)) ≡ holds (λ (b : Subchannel). is_shutdown b.state) (slice_get subs i)
subs_from n i [] [] links h there = absurd (cc)
subs_from n zero (b ∷ subs) (r ∷ board) links h there = shut_same r.state ∙ ap is_shutdown (sym h.0.state)
subs_from n (suc i) (b ∷ subs) (r ∷ board) links h there = subs_from (n + 1) i subs board links h.1 there
subs_from n i [] (r ∷ board) links h there = absurd h
subs_from n i (b ∷ subs) [] links h there = absurd h

subs_at : (number : ℕ) (subs : List Subchannel) (board : List SubRecord) (links : List OwnLink) → SubchannelsAgree 1 subs board links → is_some (numbered subs number) ≡ true
    → is_shut_state (state_at board number) ≡ holds (λ (b : Subchannel). is_shutdown b.state) (numbered subs number)
subs_at zero subs board links h there = absurd (cc)
subs_at (suc i) subs board links h there = subs_from 1 i subs board links h there

-- what decides of a link whether it is gone
pub record Knows (x : StateSeen) (s : Seen) (number : ℕ) (l : Link) : Type 0 where
  pub there : numbered s.links number ≡ Some l
  pub dead : channel_tables.is_dead x.links number ≡ is_some l.over
  pub retiring : channel_tables.is_retiring x.links number ≡ is_retiring l
  pub sub : sub_of (link_at x.book number) ≡ l.sub
  pub out : PairsAreExactly x.outstanding (is_in_outstanding s)
  pub subs : SubchannelsAgree 1 s.subs x.net.board x.net.links
  pub kept : IsKept s

pub gone_is : (x : StateSeen) (s : Seen) (number : ℕ) (l : Link) → Knows x s number l → channel.is_gone number x ≡ is_gone l s
gone_is x s number l k =
    let own : l.number ≡ number = counted_at (λ (q : Link). q.number) s.links number l k.kept.links k.there in
    let shut : is_of_shut_sub number x ≡ is_shutdown_sub s l.sub
    = ap (λ (n : ℕ). is_shut_state (state_at x.net.board n)) k.sub
    ∙ subs_at l.sub s.subs x.net.board x.net.links k.subs (all_numbered (λ (q : Link). is_some (numbered s.subs q.sub)) s.links number l k.there k.kept.dialled) in
    let out : has_outstanding number x ≡ list_any (is_outstanding_on l) s.attempts
    = subst (λ (n : ℕ). has_outstanding n x ≡ list_any (is_outstanding_on l) s.attempts) own (outstanding_same s l x.outstanding k.out) in
    ap (λ (b : Bool). b || ((channel_tables.is_retiring x.links number || is_of_shut_sub number x) && not (has_outstanding number x))) k.dead
    ∙ ap (λ (b : Bool). is_some l.over || ((b || is_of_shut_sub number x) && not (has_outstanding number x))) k.retiring
    ∙ ap (λ (b : Bool). is_some l.over || ((is_retiring l || b) && not (has_outstanding number x))) shut
    ∙ ap (λ (b : Bool). is_some l.over || ((is_retiring l || is_shutdown_sub s l.sub) && not b)) out

-- a link on which an attempt goes on is gone exactly where it is over
or_none : (a b : Bool) → (a || (b && false)) ≡ a
or_none true b = refl
or_none false true = refl
or_none false false = refl

pub going_gone : (l : Link) (s : Seen) → list_any (is_outstanding_on l) s.attempts ≡ true → is_gone l s ≡ is_some l.over
going_gone l s out =
    ap (λ (b : Bool). is_some l.over || ((is_retiring l || is_shutdown_sub s l.sub) && not b)) out ∙ or_none (is_some l.over) (is_retiring l || is_shutdown_sub s l.sub)

-- one link, in the ledger and in the session
abbrev noted_by : ℕ → Bool → Link → Link
noted_by at b l = if is_none l.gone && b then record l { gone = Some at } else l

noted_off : (at : ℕ) (l : Link) → noted_by at false l ≡ l
noted_off at l = ap (λ (b : Bool). if b then record l { gone = Some at } else l) (and_right (is_none l.gone) false refl)

stamp_by : (at : ℕ) (l : Link) (z : Option ℕ) → l.gone ≡ z → gone_link at (link_seen l) ≡ link_seen (if is_none z && true then record l { gone = Some at } else l)
stamp_by at l None e = ap (λ (q : Option ℕ). record (link_seen l) { gone = stamped at q }) e
stamp_by at l (Some w) e = ap (λ (q : Option ℕ). record (link_seen l) { gone = stamped at q }) e ∙ ap (λ (q : Option ℕ). record (link_seen l) { gone = q }) (sym e)

stamp_is : (at : ℕ) (l : Link) → gone_link at (link_seen l) ≡ link_seen (noted_by at true l)
stamp_is at l = stamp_by at l l.gone refl

-- before it is stamped where the link is over (`over`), after it where it is gone then (`gone`)
one_stamped : (at : ℕ) (l : Link) (m : Option LinkSeen) (over gone : Bool) → (over ≡ true → gone ≡ true)
    → (if over then option_map (gone_link at) m else m) ≡ Some (link_seen (noted_by at over l))
    → (if gone then option_map (gone_link at) m else m) ≡ Some (link_seen (noted_by at gone l))
one_stamped at l m true true turn e = e
one_stamped at l m true false turn e = absurd (let both : false ≡ true = turn refl in (cc))
one_stamped at l m false false turn e = e
one_stamped at l m false true turn e =
    ap (option_map (gone_link at)) (e ∙ ap (λ (k : Link). Some (link_seen k)) (noted_off at l)) ∙ ap (λ (k : LinkSeen). Some k) (stamp_is at l)

-- which sub a link in the ledger is of, stamped or not
sub_by : (at : ℕ) (m : Option LinkSeen) (l : Link) (over : Bool) → (if over then option_map (gone_link at) m else m) ≡ Some (link_seen (noted_by at over l)) → sub_of m ≡ l.sub
sub_by at None l true e = absurd (cc)
sub_by at (Some k) l true e = let same : gone_link at k ≡ link_seen (noted_by at true l) = (cc) in ap (λ (q : LinkSeen). q.sub) same ∙ sub_noted (is_none l.gone && true)
  where
    sub_noted : (b : Bool) → (if b then record l { gone = Some at } else l).sub ≡ l.sub
    sub_noted true = refl
    sub_noted false = refl
sub_by at m l false e = ap sub_of e ∙ ap (λ (q : Link). q.sub) (noted_off at l)

other_turned : (m n : ℕ) → (m == n) ≡ false → m ≡ n → ⊥
other_turned m n e h = eqb-false m n e h

-- the link of the attempt is stamped, and the others are as they were
module _ (at : Placed) (x y : StateSeen) (ledger_same : y.book.ledger.links ≡ x.book.ledger.links) where
  away_by : (z : StateSeen) (k : ℕ) (b : Bool) → (k == at.link) ≡ false
      → numbered (if b then with_ledger_links (changed_at (gone_link z.book.ledger.entry) z.book.ledger.links at.link) z else z).book.ledger.links k ≡ numbered z.book.ledger.links k
  away_by z k true e = number_other (gone_link z.book.ledger.entry) z.book.ledger.links at.link k (other_turned k at.link e)
  away_by z k false e = refl

  pub stamp_away : (k : ℕ) → (k == at.link) ≡ false → numbered (gone_with (Some at) y).book.ledger.links k ≡ numbered (gone_with (Some at) x).book.ledger.links k
  stamp_away k e =
      away_by y k (channel.is_gone at.link y) e ∙ ap (λ (ls : List LinkSeen). numbered ls k) ledger_same ∙ sym (away_by x k (channel.is_gone at.link x) e)

  here_by : (z : StateSeen) (b : Bool)
      → numbered (if b then with_ledger_links (changed_at (gone_link z.book.ledger.entry) z.book.ledger.links at.link) z else z).book.ledger.links at.link
      ≡ (if b then option_map (gone_link z.book.ledger.entry) (numbered z.book.ledger.links at.link) else numbered z.book.ledger.links at.link)
  here_by z true = number_changed (gone_link z.book.ledger.entry) z.book.ledger.links at.link
  here_by z false = refl

  pub stamp_here : (z : StateSeen) → numbered (gone_with (Some at) z).book.ledger.links at.link
      ≡ (if channel.is_gone at.link z then option_map (gone_link z.book.ledger.entry) (numbered z.book.ledger.links at.link) else numbered z.book.ledger.links at.link)
  stamp_here z = here_by z (channel.is_gone at.link z)

-- the link on which the attempt was
module _ (at : Placed) (x y : StateSeen) (s t : Seen) (l : Link) (ledger_same : y.book.ledger.links ≡ x.book.ledger.links) (entry_x : x.book.ledger.entry ≡ entry s)
    (entry_y : y.book.ledger.entry ≡ entry s) (entry_t : entry t ≡ entry s) (gone_x : channel.is_gone at.link x ≡ is_some l.over) (gone_s : is_gone l s ≡ is_some l.over)
    (gone_y : sub_of (numbered x.book.ledger.links at.link) ≡ l.sub → channel.is_gone at.link y ≡ is_gone l t)
    (noted : numbered (gone_with (Some at) x).book.ledger.links at.link ≡ Some (link_seen (noted_gone s l))) where
  before : (if is_some l.over then option_map (gone_link (entry s)) (numbered x.book.ledger.links at.link) else numbered x.book.ledger.links at.link)
      ≡ Some (link_seen (noted_by (entry s) (is_some l.over) l))
  before =
      ap (λ (b : Bool). if b then option_map (gone_link (entry s)) (numbered x.book.ledger.links at.link) else numbered x.book.ledger.links at.link) (sym gone_x)
      ∙ ap (λ (n : ℕ). if channel.is_gone at.link x then option_map (gone_link n) (numbered x.book.ledger.links at.link) else numbered x.book.ledger.links at.link) (sym entry_x)
      ∙ sym (stamp_here at x y ledger_same x) ∙ noted
      ∙ ap (λ (b : Bool). Some (link_seen (noted_by (entry s) b l))) gone_s

  stays : is_some l.over ≡ true → is_gone l t ≡ true
  stays e = ap (λ (b : Bool). b || ((is_retiring l || is_shutdown_sub t l.sub) && not (list_any (is_outstanding_on l) t.attempts))) e

  pub one_noted : numbered (gone_with (Some at) y).book.ledger.links at.link ≡ Some (link_seen (noted_gone t l))
  one_noted =
      stamp_here at x y ledger_same y
      ∙ ap (λ (ls : List LinkSeen). if channel.is_gone at.link y then option_map (gone_link y.book.ledger.entry) (numbered ls at.link) else numbered ls at.link) ledger_same
      ∙ ap (λ (b : Bool). if b then option_map (gone_link y.book.ledger.entry) (numbered x.book.ledger.links at.link) else numbered x.book.ledger.links at.link)
      (gone_y (sub_by (entry s) (numbered x.book.ledger.links at.link) l (is_some l.over) before))
      ∙ ap (λ (n : ℕ). if is_gone l t then option_map (gone_link n) (numbered x.book.ledger.links at.link) else numbered x.book.ledger.links at.link) entry_y
      ∙ one_stamped (entry s) l (numbered x.book.ledger.links at.link) (is_some l.over) (is_gone l t) stays before
      ∙ ap (λ (n : ℕ). Some (link_seen (noted_by n (is_gone l t) l))) (sym entry_t)
