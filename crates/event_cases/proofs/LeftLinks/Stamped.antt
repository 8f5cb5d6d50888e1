-- A link is gone by a step of the net exactly if it was gone before, or is among those that the net left and has no attempt.
use Rattle.attempt_ledger.specs.declared.ledger.Generation.{Generation}
use Rattle.attempt_ledger.specs.declared.ledger.LinkSeen.{LinkSeen}
use Rattle.channel_actions.proofs.Gone.{all_numbered, gone_by, gone_same, sub_noted}
use Rattle.channel_actions.proofs.Links.Settings.Pairs.{exactly_by}
use Rattle.channel_actions.proofs.Stamps.{counted_at, numbered_map}
use Rattle.channel_actions.specs.Agrees.{Agrees}
use Rattle.channel_actions.specs.Columns.{links_noted}
use Rattle.channel_actions.specs.Links.{HasLink}
use Rattle.channel_actions.specs.Sets.{PairsAreExactly, is_in_outstanding}
use Rattle.channel_actions.specs.TheirLinks.Theirs.{LinksAreTheirs}
use Rattle.call_cases.proofs.ConfiguredCalls.Lists.{same_numbered, same_words}
use Rattle.event_cases.specs.LeftLinks.Laws.{LinksAreLeft, LeftLinksAreStamped}
use Rattle.channel_core.proofs.BookLaws.{number_changed, number_other}
use Rattle.channel_core.specs.Books.{link_at}
use Rattle.channel_core.specs.States.{StateSeen}
use Rattle.channel_core.specs.Steps as channel
use Rattle.channel_core.specs.Steps.{all_stamped_gone, has_outstanding, is_of_shut_sub, is_shut_state, stamped_gone, sub_of, with_generations, with_ledger_links}
use Rattle.channel_core.specs.Tables as tables
use Rattle.channel_core.specs.Tables.{is_dead, is_retiring}
use Rattle.channel_net.specs.Lists.{state_at}
use Rattle.channel_net.specs.Steps.{NetSeen}
use Rattle.ledger_stamps.specs.Steps.{changed_at, gone_link, stamped}
use Rattle.session_actions.specs.Closing.{noted_gone}
use Rattle.session_actions.specs.Entries.{entry}
use Rattle.session_actions.specs.Links.{is_retiring as is_retiring_link}
use Rattle.session_actions.specs.Policies.{is_shutdown}
use Rattle.session_actions.specs.Reading.{is_outstanding_on}
use Rattle.session_actions.specs.Refusals.{is_gone, is_shutdown_sub}
use Rattle.session_actions.specs.Sessions.{link_seen}
use Rattle.session_actions.specs.Words.{holds, numbered}
use Rattle.session_actions.specs.declared.attempt.Attempt.{Attempt}
use Rattle.session_actions.specs.declared.link.Link.{Link}
use Rattle.session_actions.specs.declared.link.LinkOver.{LinkOver}
use Rattle.session_actions.specs.declared.seen.Seen.{Seen}
use Rattle.session_actions.specs.declared.subchannel.Subchannel.{Subchannel}
use Rattle.std.proofs.Common.{Bool, List, None, Option, Some, [], ap, eq-eqb, eqb-true, false, if◌then◌else◌, is_none, is_some, map, not, option_map, refl, subst, sym, true, ℕ, ◌&&◌, ◌==◌, ◌||◌, ◌∙◌, ◌∷◌, ◌≡◌}
use Rattle.std.proofs.lemmas.Bool.{eqb-false}
use Rattle.std.specs.List.{list_any}

-- the stamp of one link, where it is to have one
abbrev stamp_if : Bool → ℕ → LinkSeen → LinkSeen
stamp_if b e y = if b then gone_link e y else y

twice : (e : ℕ) (y : LinkSeen) (o : Option ℕ) → record y { gone = stamped e (stamped e o) } ≡ record y { gone = stamped e o }
twice e y None = refl
twice e y (Some n) = refl

again : (b : Bool) (e : ℕ) (y : LinkSeen) → stamp_if b e (gone_link e y) ≡ gone_link e y
again true e y = twice e y y.gone
again false e y = refl

again_in : (b : Bool) (e : ℕ) (o : Option LinkSeen) → option_map (stamp_if b e) (option_map (gone_link e) o) ≡ option_map (gone_link e) o
again_in b e None = refl
again_in b e (Some y) = ap (λ (z : LinkSeen). Some z) (again b e y)

unchanged : (e : ℕ) (o : Option LinkSeen) → o ≡ option_map (stamp_if false e) o
unchanged e None = refl
unchanged e (Some y) = refl

sub_stamped : (e : ℕ) (o : Option LinkSeen) → sub_of (option_map (gone_link e) o) ≡ sub_of o
sub_stamped e None = refl
sub_stamped e (Some y) = refl

and_off : (a b : Bool) → b ≡ false → false ≡ (a && b)
and_off true b e = sym e
and_off false b e = refl

-- once one link has its stamp
module _ (z : StateSeen) (link : ℕ) where
  abbrev put : StateSeen
  put = with_ledger_links (changed_at (gone_link z.book.ledger.entry) z.book.ledger.links link) z

  sub_by : (k : ℕ) (t : Bool) → (k == link) ≡ t → sub_of (link_at put.book k) ≡ sub_of (link_at z.book k)
  sub_by k true e =
      subst (λ (j : ℕ). sub_of (tables.numbered (changed_at (gone_link z.book.ledger.entry) z.book.ledger.links link) j) ≡ sub_of (tables.numbered z.book.ledger.links j)) (sym (eqb-true k link e))
      (ap sub_of (number_changed (gone_link z.book.ledger.entry) z.book.ledger.links link) ∙ sub_stamped z.book.ledger.entry (tables.numbered z.book.ledger.links link))
  sub_by k false e = ap sub_of (number_other (gone_link z.book.ledger.entry) z.book.ledger.links link k (eqb-false k link e))

  gone_put : (k : ℕ) → channel.is_gone k put ≡ channel.is_gone k z
  gone_put k =
      ap (λ (n : ℕ). is_dead z.links k || ((is_retiring z.links k || is_shut_state (state_at z.net.board n)) && not (has_outstanding k z))) (sub_by k (k == link) refl)

-- all of them: each link of the list that is gone has its stamp
abbrev StampsAt : List ℕ → Type 0
StampsAt gone =
    (z : StateSeen) (k : ℕ) → tables.numbered (all_stamped_gone gone z).book.ledger.links k
    ≡ option_map (stamp_if (list_any (λ (j : ℕ). j == k) gone && channel.is_gone k z) z.book.ledger.entry) (tables.numbered z.book.ledger.links k)

module _ (link : ℕ) (gone : List ℕ) (rest : StampsAt gone) (z : StateSeen) (k : ℕ) where
  abbrev E : ℕ
  E = z.book.ledger.entry

  abbrev old : Option LinkSeen
  old = tables.numbered z.book.ledger.links k

  abbrev any : Bool
  any = list_any (λ (j : ℕ). j == k) gone

  by_gone : (b t : Bool) → channel.is_gone link z ≡ b → (link == k) ≡ t
      → tables.numbered (all_stamped_gone gone (if b then put z link else z)).book.ledger.links k ≡ option_map (stamp_if ((t || any) && channel.is_gone k z) E) old
  by_gone false true is same =
      let off : channel.is_gone k z ≡ false = ap (λ (j : ℕ). channel.is_gone j z) (sym (eqb-true link k same)) ∙ is in
      rest z k ∙ ap (λ (q : Bool). option_map (stamp_if q E) old) (sym (and_off any (channel.is_gone k z) off) ∙ sym off)
  by_gone false false is same = rest z k
  by_gone true true is same =
      let one : link ≡ k = eqb-true link k same in
      rest (put z link) k
      ∙ ap (λ (o : Option LinkSeen). option_map (stamp_if (any && channel.is_gone k (put z link)) E) o)
      (subst (λ (j : ℕ). tables.numbered (changed_at (gone_link E) z.book.ledger.links link) j ≡ option_map (gone_link E) (tables.numbered z.book.ledger.links j)) one
      (number_changed (gone_link E) z.book.ledger.links link))
      ∙ again_in (any && channel.is_gone k (put z link)) E old
      ∙ ap (λ (q : Bool). option_map (stamp_if q E) old) (sym (ap (λ (j : ℕ). channel.is_gone j z) (sym one) ∙ is))
  by_gone true false is same =
      rest (put z link) k
      ∙ ap (λ (o : Option LinkSeen). option_map (stamp_if (any && channel.is_gone k (put z link)) E) o)
      (number_other (gone_link E) z.book.ledger.links link k (λ e. (eqb-false link k same) (sym e)))
      ∙ ap (λ (q : Bool). option_map (stamp_if (any && q) E) old) (gone_put z link k)

stamps_at : (gone : List ℕ) → StampsAt gone
stamps_at [] z k = unchanged z.book.ledger.entry (tables.numbered z.book.ledger.links k)
stamps_at (link ∷ gone) z k = by_gone link gone (stamps_at gone) z k (channel.is_gone link z) (link == k) refl refl

-- stamps of policies are none of it
pub stamps_blind : (gone : List ℕ) (gs : List Generation) (z : StateSeen)
    → (all_stamped_gone gone z).book.ledger.links ≡ (all_stamped_gone gone (with_generations gs z)).book.ledger.links
stamps_blind gone gs z =
    same_numbered (all_stamped_gone gone z).book.ledger.links (all_stamped_gone gone (with_generations gs z)).book.ledger.links
    (λ k. sym (same_words (all_stamped_gone gone z).book.ledger.links k) ∙ stamps_at gone z k ∙ sym (stamps_at gone (with_generations gs z) k)
    ∙ same_words (all_stamped_gone gone (with_generations gs z)).book.ledger.links k)

-- the session's stamp of one link, before and after
noted_by : (e : ℕ) (l : Link) (b : Bool) (o : Option ℕ) → l.gone ≡ o → link_seen (if is_none o && b then record l { gone = Some e } else l) ≡ record (link_seen l) { gone = (if b then stamped e o else o) }
noted_by e l true None is = refl
noted_by e l false None is = ap (λ (q : Option ℕ). record (link_seen l) { gone = q }) is
noted_by e l true (Some n) is = ap (λ (q : Option ℕ). record (link_seen l) { gone = q }) is
noted_by e l false (Some n) is = ap (λ (q : Option ℕ). record (link_seen l) { gone = q }) is

noted_is : (s : Seen) (l : Link) → link_seen (noted_gone s l) ≡ record (link_seen l) { gone = (if is_gone l s then stamped (entry s) l.gone else l.gone) }
noted_is s l = noted_by (entry s) l (is_gone l s) l.gone refl

-- gone before, and so after; or gone now, and among those that are left
stamp_by : (e : ℕ) (y : LinkSeen) (was now left : Bool) (o : Option ℕ) → (was ≡ true → now ≡ true) → (was ≡ false → now ≡ true → left ≡ true)
    → record y { gone = (if now then stamped e o else o) } ≡ stamp_if (left && now) e (record y { gone = (if was then stamped e o else o) })
stamp_by e y true true true o on off = sym (twice e y o)
stamp_by e y true true false o on off = refl
stamp_by e y true false left o on off = absurd (let bad : false ≡ true = on refl in (cc))
stamp_by e y false true true o on off = refl
stamp_by e y false true false o on off = absurd (let bad : false ≡ true = off refl refl in (cc))
stamp_by e y false false true o on off = refl
stamp_by e y false false false o on off = refl

over_true : (a b c : Bool) → (b ≡ true → c ≡ true) → (a || b) ≡ true → (a || c) ≡ true
over_true true b c on e = refl
over_true false b c on e = on e

and_true : (a b c : Bool) → (a ≡ true → b ≡ true) → (a && c) ≡ true → (b && c) ≡ true
and_true true b c on e = ap (λ (z : Bool). z && c) (on refl) ∙ e
and_true false b c on e = absurd (let bad : false ≡ true = e in (cc))

-- where it was not gone before, and is now, it is not over, takes streams, and its subchannel was shut
pub record IsLost (over retiring was now : Bool) : Type 0 where
  pub over_not : over ≡ false
  pub retiring_not : retiring ≡ false
  pub before : was ≡ false
  pub after : now ≡ true

lost_by : (over retiring was now out : Bool) → (over || ((retiring || was) && out)) ≡ false → (over || ((retiring || now) && out)) ≡ true → IsLost over retiring was now
lost_by true retiring was now out e f = absurd (let bad : true ≡ false = e in (cc))
lost_by false true was now true e f = absurd (let bad : true ≡ false = e in (cc))
lost_by false true was now false e f = absurd (let bad : false ≡ true = f in (cc))
lost_by false false true now true e f = absurd (let bad : true ≡ false = e in (cc))
lost_by false false false true true e f = record { over_not = refl; retiring_not = refl; before = refl; after = refl }
lost_by false false false false true e f = absurd (let bad : false ≡ true = f in (cc))
lost_by false false true true false e f = absurd (let bad : false ≡ true = f in (cc))
lost_by false false true false false e f = absurd (let bad : false ≡ true = f in (cc))
lost_by false false false true false e f = absurd (let bad : false ≡ true = f in (cc))
lost_by false false false false false e f = absurd (let bad : false ≡ true = f in (cc))

none_of : {X : Type 0} (o : Option X) → is_some o ≡ false → o ≡ None
none_of None e = refl
none_of (Some x) e = absurd (let bad : true ≡ false = e in (cc))

found : {X : Type 0} (o : Option X) → is_some o ≡ true → (x : X) × (o ≡ Some x)
found None e = absurd (let bad : false ≡ true = e in (cc))
found (Some x) e = (x, refl)

module _ (x : StateSeen) (s t : Seen) (n : NetSeen) (gone : List ℕ) (h : Agrees x s) (theirs : LinksAreTheirs s) (w : LinksAreLeft x s t n gone) where
  abbrev z : StateSeen
  z = record x { net = n }

  attempts_same : t.attempts ≡ s.attempts
  attempts_same = w.attempts

  -- of one link
  module _ (k : ℕ) (l : Link) (here : numbered s.links k ≡ Some l) where
    own : HasLink x s l k
    own = h.links.each k l here

    there : numbered t.links k ≡ Some l
    there = ap (λ (ls : List Link). numbered ls k) w.links ∙ here

    out : PairsAreExactly x.outstanding (is_in_outstanding t)
    out =
        exactly_by x.outstanding (is_in_outstanding s) (is_in_outstanding t) h.sets.outstanding
        (λ link row. ap (λ (xs : List Attempt). is_in_outstanding (record s { attempts = xs }) link row) (sym attempts_same))

    gone_now : channel.is_gone k z ≡ is_gone l t
    gone_now =
        gone_by z t k l (counted_at (λ (q : Link). q.number) s.links k l h.kept.links here) own.slot own.there own.sees.over own.sees.retiring
        (sub_noted x.book.ledger.links s k l here h.columns.links) w.sees.subs_are
        (all_numbered (λ (q : Link). is_some (numbered t.subs q.sub)) t.links k l there w.kept.dialled) out

    none_out : list_any (is_outstanding_on l) t.attempts ≡ list_any (is_outstanding_on l) s.attempts
    none_out = ap (list_any (is_outstanding_on l)) attempts_same

    gone_is : is_gone l t ≡ (is_some l.over || ((is_retiring_link l || is_shutdown_sub t l.sub) && not (list_any (is_outstanding_on l) s.attempts)))
    gone_is = ap (λ (b : Bool). is_some l.over || ((is_retiring_link l || is_shutdown_sub t l.sub) && not b)) none_out

    on_still : is_gone l s ≡ true → is_gone l t ≡ true
    on_still e =
        gone_is
        ∙ over_true (is_some l.over) ((is_retiring_link l || is_shutdown_sub s l.sub) && not (list_any (is_outstanding_on l) s.attempts))
        ((is_retiring_link l || is_shutdown_sub t l.sub) && not (list_any (is_outstanding_on l) s.attempts))
        (and_true (is_retiring_link l || is_shutdown_sub s l.sub) (is_retiring_link l || is_shutdown_sub t l.sub) (not (list_any (is_outstanding_on l) s.attempts))
        (over_true (is_retiring_link l) (is_shutdown_sub s l.sub) (is_shutdown_sub t l.sub) (w.shut l.sub))) e

    is_left : is_gone l s ≡ false → is_gone l t ≡ true → list_any (λ (j : ℕ). j == k) gone ≡ true
    is_left e f =
        let lost : IsLost (is_some l.over) (is_retiring_link l) (is_shutdown_sub s l.sub) (is_shutdown_sub t l.sub)
        = lost_by (is_some l.over) (is_retiring_link l) (is_shutdown_sub s l.sub) (is_shutdown_sub t l.sub) (not (list_any (is_outstanding_on l) s.attempts)) e (sym gone_is ∙ f) in
        let b = found (numbered s.subs l.sub) (all_numbered (λ (q : Link). is_some (numbered s.subs q.sub)) s.links k l here h.kept.dialled) in
        let open_now : is_shutdown b.0.state ≡ false = sym (ap (holds (λ (q : Subchannel). is_shutdown q.state)) b.1) ∙ lost.before in
        let has : b.0.link ≡ Some k = theirs k l b.0 here (none_of l.over lost.over_not) lost.retiring_not b.1 open_now in
        w.left l.sub k b.0 b.1 has lost.before lost.after

    one : Some (link_seen (noted_gone t l))
        ≡ option_map (stamp_if (list_any (λ (j : ℕ). j == k) gone && channel.is_gone k z) x.book.ledger.entry) (Some (link_seen (noted_gone s l)))
    one =
        ap (λ (y : LinkSeen). Some y)
        (noted_is t l
        ∙ ap (λ (e : ℕ). record (link_seen l) { gone = (if is_gone l t then stamped e l.gone else l.gone) }) (w.entry_is ∙ h.clock.entry_is)
        ∙ stamp_by x.book.ledger.entry (link_seen l) (is_gone l s) (is_gone l t) (list_any (λ (j : ℕ). j == k) gone) l.gone on_still is_left
        ∙ ap (λ (y : LinkSeen). stamp_if (list_any (λ (j : ℕ). j == k) gone && is_gone l t) x.book.ledger.entry y)
        (ap (λ (e : ℕ). record (link_seen l) { gone = (if is_gone l s then stamped e l.gone else l.gone) }) (sym h.clock.entry_is) ∙ sym (noted_is s l))
        ∙ ap (λ (b : Bool). stamp_if (list_any (λ (j : ℕ). j == k) gone && b) x.book.ledger.entry (link_seen (noted_gone s l))) (sym gone_now))

  noted_at : (u : Seen) (k : ℕ) → numbered (links_noted u) k ≡ option_map (λ (l : Link). link_seen (noted_gone u l)) (numbered u.links k)
  noted_at u k = numbered_map (λ (l : Link). link_seen (noted_gone u l)) u.links k

  -- the ledger of the channel, in the words of the session
  ledger_at : (k : ℕ) → tables.numbered x.book.ledger.links k ≡ option_map (λ (l : Link). link_seen (noted_gone s l)) (numbered s.links k)
  ledger_at k = same_words x.book.ledger.links k ∙ ap (λ (l : List LinkSeen). numbered l k) (sym h.columns.links) ∙ noted_at s k

  abbrev stamp : ℕ → LinkSeen → LinkSeen
  stamp k y = stamp_if (list_any (λ (j : ℕ). j == k) gone && channel.is_gone k z) x.book.ledger.entry y

  each_by : (k : ℕ) (o : Option Link) → numbered s.links k ≡ o
      → option_map (λ (l : Link). link_seen (noted_gone t l)) o ≡ option_map (stamp k) (option_map (λ (l : Link). link_seen (noted_gone s l)) o)
  each_by k None e = refl
  each_by k (Some l) e = one k l e

  each : (k : ℕ) → numbered (links_noted t) k ≡ numbered (all_stamped_gone gone z).book.ledger.links k
  each k =
      noted_at t k ∙ ap (λ (ls : List Link). option_map (λ (l : Link). link_seen (noted_gone t l)) (numbered ls k)) w.links ∙ each_by k (numbered s.links k) refl
      ∙ ap (option_map (stamp k)) (sym (ledger_at k)) ∙ sym (stamps_at gone z k) ∙ same_words (all_stamped_gone gone z).book.ledger.links k

  pub all_same : links_noted t ≡ (all_stamped_gone gone z).book.ledger.links
  all_same = same_numbered (links_noted t) (all_stamped_gone gone z).book.ledger.links each

pub left_links_are_stamped : LeftLinksAreStamped
left_links_are_stamped x s t n gone h theirs w = all_same x s t n gone h theirs w
