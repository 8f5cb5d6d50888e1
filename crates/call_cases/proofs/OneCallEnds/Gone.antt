-- The links of the channel's ledger, once a call has ended, are those of the session were the entry to close.
use Rattle.std.proofs.Common.{◌≡◌, ◌||◌, ◌&&◌, ◌+◌, ◌∷◌, not, ap, refl, subst, sym, ◌∙◌, Bool, true, false, List, [], Option, None, Some, ℕ, zero, suc, if◌then◌else◌, is_none, is_some, length, map, slice_get}
use Rattle.std.specs.List.{AllByRecursion, list_any}
use Rattle.std.specs.Option.{option_map}
use Rattle.attempt_ledger.specs.declared.ledger.LinkSeen.{LinkSeen}
use Rattle.call_core.specs.Steps.{Stepped}
use Rattle.call_core.specs.declared.live.LiveRow.{LiveRow}
use Rattle.channel_actions.proofs.ActsFollowed.Acts.{IsDone, LinkIn, all_done, given}
use Rattle.channel_actions.proofs.Gone.{all_numbered, sub_noted}
use Rattle.channel_actions.proofs.Gone as gone_links
use Rattle.channel_actions.proofs.Outstanding.{outstanding_same}
use Rattle.channel_actions.proofs.Stamps.{counted_at, numbered_map, stamp_keeps}
use Rattle.channel_actions.specs.ActsFollowed.Laws.{IsLinked, LinkIs}
use Rattle.channel_actions.specs.Columns.{links_noted}
use Rattle.call_cases.specs.CallEnds.Ends.{HasNotedLink, IsToEnd, unowed}
use Rattle.call_cases.proofs.CallEnds.Linked.{can, closed_now, going, on, slot, tokens, w, y}
use Rattle.call_cases.proofs.CallEnds.On.{resets}
use Rattle.call_cases.proofs.ConfiguredCalls.Lists.{same_numbered, same_words}
use Rattle.call_cases.proofs.OneCallEnds.Noted.{begun, seen_if, seen_on, stamps_are}
use Rattle.call_cases.proofs.OneCallEnds.Relent.{all_rest}
use Rattle.call_cases.proofs.OneCallEnds.Rows.{outstanding_on, same}
use Rattle.call_cases.proofs.OneCallEnds.Stamps.{IsNoted, all_noted, gone_by, stamped_if}
use Rattle.channel_core.specs.Books.{link_at}
use Rattle.channel_core.specs.States.{StateSeen}
use Rattle.channel_core.specs.Steps.{acts_done, has_outstanding, is_of_shut_sub, is_on, is_shut_state, sub_of}
use Rattle.channel_core.specs.Tables.{is_dead, is_dead_at, is_retiring_at}
use Rattle.channel_core.specs.Tables as tables
use Rattle.channel_core.specs.declared.state.slots.CallSlot.{CallSlot}
use Rattle.channel_net.specs.Lists.{state_at}
use Rattle.channel_net.specs.declared.links.OwnLink.{OwnLink}
use Rattle.grpc_base.specs.declared.event.Conn.TheVariants as conn
use Rattle.grpc_base.specs.declared.event.Conn.{Conn}
use Rattle.grpc_base.specs.declared.event.EndCause.{EndCause}
use Rattle.net_actions.specs.Sees.{SubchannelsAgree}
use Rattle.picker_gate.specs.Pairs.{next_after}
use Rattle.session_actions.specs.Closing.{noted_gone}
use Rattle.session_actions.specs.Entries.{entry}
use Rattle.session_actions.specs.Links.{is_retiring}
use Rattle.session_actions.specs.Policies.{is_shutdown}
use Rattle.session_actions.specs.Reading.{is_outstanding_on}
use Rattle.session_actions.specs.Refusals.{is_gone, is_shutdown_sub}
use Rattle.session_actions.specs.Sessions.{link_seen}
use Rattle.session_actions.specs.Words.{holds, numbered}
use Rattle.session_actions.specs.declared.entry.OpenEntry.{OpenEntry}
use Rattle.session_actions.specs.declared.link.Link.{Link}
use Rattle.session_actions.specs.declared.seen.Seen.{Seen}
use Rattle.session_actions.specs.declared.subchannel.Subchannel.{Subchannel}
use Rattle.session_order.specs.declared.line.Line.{Line}
use Rattle.subchannel.specs.Records.{SubRecord}

-- subchannels of one number have one state
shut_same : (c : Conn) → is_shut_state (Some c) ≡ is_shutdown c
shut_same conn.Idle = refl
shut_same conn.Connecting = refl
shut_same conn.Ready = refl
shut_same conn.Failure = refl
shut_same conn.Shutdown = refl

subs_from : (n i : ℕ) (subs : List Subchannel) (board : List SubRecord) (links : List OwnLink) → SubchannelsAgree n subs board links → is_some (slice_get subs i) ≡ true
    → is_shut_state (option_map (λ (r : SubRecord). r.state) (slice_get board i)) ≡ holds (λ (b : Subchannel). is_shutdown b.state) (slice_get subs i)
subs_from n i [] [] links h there = absurd (cc)
subs_from n zero (b ∷ subs) (r ∷ board) links h there = shut_same r.state ∙ ap is_shutdown (sym h.0.state)
subs_from n (suc i) (b ∷ subs) (r ∷ board) links h there = subs_from (n + 1) i subs board links h.1 there
subs_from n i [] (r ∷ board) links h there = absurd h
subs_from n i (b ∷ subs) [] links h there = absurd h

pub subs_at : (number : ℕ) (subs : List Subchannel) (board : List SubRecord) (links : List OwnLink) → SubchannelsAgree 1 subs board links → is_some (numbered subs number) ≡ true
    → is_shut_state (state_at board number) ≡ holds (λ (b : Subchannel). is_shutdown b.state) (numbered subs number)
subs_at zero subs board links h there = absurd (cc)
subs_at (suc i) subs board links h there = subs_from 1 i subs board links h there

-- what is queued on a link is not stamped
unowed_by : (entry : ℕ) (l : Link) (b : Bool) → link_seen (if b then record (unowed l) { gone = Some entry } else unowed l) ≡ link_seen (if b then record l { gone = Some entry } else l)
unowed_by entry l true = refl
unowed_by entry l false = refl

unowed_seen : (gone : Bool) (entry : ℕ) (l : Link) → seen_if gone entry (unowed l) ≡ seen_if gone entry l
unowed_seen gone entry l = unowed_by entry l (is_none l.gone && gone)

module _ (waits : Line → Bool) (n : ℕ) (why : EndCause) (x : StateSeen) (o : OpenEntry) (s : Seen) (is : IsToEnd waits n why x o s) where
  abbrev u : Seen
  u = (resets waits n why x o s is).seen

  abbrev at_slot : CallSlot
  at_slot = slot waits n why x o s is

  abbrev live : List LiveRow
  live = at_slot.call.live

  -- where the acts begin
  abbrev first : StateSeen
  first = begun why n x at_slot (can waits n why x o s is).there (going waits n why x o s is)

  ledger_is : first.book.ledger.links ≡ x.book.ledger.links
  ledger_is =
      ap (λ (z : Stepped). z.ledger.links) (closed_now waits n why x o s is)
      ∙ ap (λ (z : _). z.links) (all_rest x.book.moment (tokens waits n why x o s is) live x.book.ledger)

  entry_is : first.book.ledger.entry ≡ x.book.ledger.entry
  entry_is =
      ap (λ (z : Stepped). z.ledger.entry) (closed_now waits n why x o s is)
      ∙ ap (λ (z : _). z.entry) (all_rest x.book.moment (tokens waits n why x o s is) live x.book.ledger)

  linked_one : (place : ℕ) (q : Option ℕ) → LinkIs x why at_slot place q → LinkIn first.book.ledger.rows place q
  linked_one place None e = tt
  linked_one place (Some link) e = e

  linked : (rows : List LiveRow) → AllByRecursion (IsLinked x why at_slot) rows → AllByRecursion (λ (r : LiveRow). LinkIn first.book.ledger.rows r.place r.link) rows
  linked [] all = tt
  linked (r ∷ rows) all = (linked_one r.place r.link all.0, linked rows all.1)

  all_linked : AllByRecursion (λ (r : LiveRow). LinkIn first.book.ledger.rows r.place r.link) live
  all_linked = linked live (can waits n why x o s is).linked

  -- the links as they were
  abbrev moment : ℕ
  moment = x.book.ledger.entry

  was_at : (k : ℕ) → tables.numbered x.book.ledger.links k ≡ option_map (λ (l : Link). seen_if (is_gone l s) (entry s) l) (numbered s.links k)
  was_at k =
      same_words x.book.ledger.links k ∙ ap (λ (l : List LinkSeen). numbered l k) (sym is.agrees.columns.links)
      ∙ numbered_map (λ (l : Link). link_seen (noted_gone s l)) s.links k

  gone_then : (k : ℕ) (l : Link) → numbered s.links k ≡ Some l → gone_by x k (has_outstanding k x) ≡ is_gone l s
  gone_then k l e =
      let h : HasNotedLink x s l k = is.agrees.links.each k l e in
      gone_links.gone_by x s k l (counted_at (λ (z : Link). z.number) s.links k l is.agrees.kept.links e) h.slot h.there h.over h.retiring
      (sub_noted x.book.ledger.links s k l e is.agrees.columns.links) is.agrees.net.subs_are
      (all_numbered (λ (z : Link). is_some (numbered s.subs z.sub)) s.links k l e is.agrees.kept.dialled) is.agrees.sets.outstanding

  noted_first : (k : ℕ) (q : Option Link) → numbered s.links k ≡ q
      → option_map (λ (l : Link). seen_if (is_gone l s) (entry s) l) q
      ≡ option_map (stamped_if (gone_by x k (has_outstanding k x)) moment) (option_map (λ (l : Link). seen_if (is_gone l s) (entry s) l) q)
  noted_first k None e = refl
  noted_first k (Some l) e =
      ap (λ (z : LinkSeen). Some z) (seen_on (is_gone l s) (is_gone l s) (entry s) l (λ h. h))
      ∙ ap (λ (b : Bool). Some (stamped_if b (entry s) (seen_if (is_gone l s) (entry s) l))) (sym (gone_then k l e))
      ∙ ap (λ (m : ℕ). Some (stamped_if (gone_by x k (has_outstanding k x)) m (seen_if (is_gone l s) (entry s) l))) is.agrees.clock.entry_is

  begins : IsNoted x first
  begins = record {
    entry = entry_is;
    net = refl;
    dead = λ k. refl;
    retiring = λ k. refl;
    rising = is.agrees.sets.outstanding.rising;
    fewer = λ k e. e;
    noted = λ k.
        ap (λ (l : List LinkSeen). tables.numbered l k) ledger_is ∙ was_at k ∙ noted_first k (numbered s.links k) refl
        ∙ ap (option_map (stamped_if (gone_by x k (has_outstanding k x)) moment)) (sym (was_at k));
  }

  abbrev last : StateSeen
  last = acts_done n (map given live) first

  ends : IsNoted x last
  ends = all_noted x n live first all_linked begins

  out_is : last.outstanding ≡ (w waits n why x o s is).outstanding
  out_is = let d : IsDone n live first last = all_done n live first all_linked in d.outstanding

  -- the link of a number, before and after
  alike_at : (k : ℕ) → option_map unowed (numbered u.links k) ≡ option_map unowed (numbered s.links k)
  alike_at k =
      sym (numbered_map unowed u.links k) ∙ ap (λ (l : List Link). numbered l k) (same waits n why x o s is).links ∙ numbered_map unowed s.links k

  module _ (k : ℕ) (m l : Link) (here : numbered u.links k ≡ Some m) (was : numbered s.links k ≡ Some l) (alike : unowed m ≡ unowed l) where
    own_number : m.number ≡ k
    own_number = ap (λ (z : Link). z.number) alike ∙ counted_at (λ (z : Link). z.number) s.links k l is.agrees.kept.links was

    has_link : HasNotedLink x s l k
    has_link = is.agrees.links.each k l was

    sub_is : sub_of (link_at x.book k) ≡ l.sub
    sub_is =
        ap sub_of (was_at k ∙ ap (option_map (λ (z : Link). seen_if (is_gone z s) (entry s) z)) was)
        ∙ stamp_keeps (λ (z : Link). is_gone z s) (λ z q. refl) (λ (z : Link). z.sub) (λ z q. refl) (entry s) l

    shut_is : is_of_shut_sub k x ≡ is_shutdown_sub u m.sub
    shut_is =
        ap (λ (j : ℕ). is_shut_state (state_at x.net.board j)) sub_is
        ∙ subs_at l.sub s.subs x.net.board x.net.links is.agrees.net.subs_are
        (all_numbered (λ (z : Link). is_some (numbered s.subs z.sub)) s.links k l was is.agrees.kept.dialled)
        ∙ ap (λ (j : ℕ). is_shutdown_sub s j) (sym (ap (λ (z : Link). z.sub) alike))
        ∙ ap (λ (bs : List Subchannel). holds (λ (b : Subchannel). is_shutdown b.state) (numbered bs m.sub)) (sym (on waits n why x o s is).rest.subs)

    out_now : has_outstanding k last ≡ list_any (is_outstanding_on m) u.attempts
    out_now =
        ap (λ (pairs : List (ℕ × ℕ)). is_on k (next_after pairs (k, 0))) out_is
        ∙ subst (λ (j : ℕ). is_on j (next_after (w waits n why x o s is).outstanding (j, 0)) ≡ list_any (is_outstanding_on m) u.attempts) own_number
        (outstanding_same u m (w waits n why x o s is).outstanding (outstanding_on waits n why x o s is))

    gone_now : gone_by x k (has_outstanding k last) ≡ is_gone m u
    gone_now =
        ap (λ (b : Bool). b || ((tables.is_retiring x.links k || is_of_shut_sub k x) && not (has_outstanding k last)))
        (ap is_dead_at has_link.there ∙ sym has_link.over ∙ ap (λ (z : Link). is_some z.over) (sym alike))
        ∙ ap (λ (b : Bool). is_some m.over || ((b || is_of_shut_sub k x) && not (has_outstanding k last)))
        (ap is_retiring_at has_link.there ∙ sym has_link.retiring ∙ ap is_retiring (sym alike))
        ∙ ap (λ (b : Bool). is_some m.over || ((is_retiring m || b) && not (has_outstanding k last))) shut_is
        ∙ ap (λ (b : Bool). is_some m.over || ((is_retiring m || is_shutdown_sub u m.sub) && not b)) out_now

    still_by : (b d : Bool) (r q p : Bool) → (p ≡ true → q ≡ true) → (d || (r && not q)) ≡ true → (d || (r && not p)) ≡ true
    still_by b true r q p turn e = refl
    still_by b false true q false turn e = refl
    still_by b false true true true turn e = absurd (cc)
    still_by b false true false true turn e = absurd (let bad : false ≡ true = turn refl in (cc))
    still_by b false false q p turn e = absurd (cc)

    still_gone : is_gone l s ≡ true → gone_by x k (has_outstanding k last) ≡ true
    still_gone e =
        still_by true (is_dead x.links k) (tables.is_retiring x.links k || is_of_shut_sub k x) (has_outstanding k x) (has_outstanding k last) (ends.fewer k)
        (gone_then k l was ∙ e)

    entry_now : entry u ≡ entry s
    entry_now =
        ap (λ (es : List _). length es + (if is_some u.current then 1 else 0)) (on waits n why x o s is).rest.entries
        ∙ ap (λ (q : Option OpenEntry). length s.entries + (if is_some q then 1 else 0)) ((on waits n why x o s is).current ∙ sym is.current)

    link_now : link_seen (noted_gone u m) ≡ stamped_if (gone_by x k (has_outstanding k last)) moment (seen_if (is_gone l s) (entry s) l)
    link_now =
        ap (λ (j : ℕ). seen_if (is_gone m u) j m) entry_now
        ∙ sym (unowed_seen (is_gone m u) (entry s) m) ∙ ap (seen_if (is_gone m u) (entry s)) alike ∙ unowed_seen (is_gone m u) (entry s) l
        ∙ ap (λ (b : Bool). seen_if b (entry s) l) (sym gone_now)
        ∙ seen_on (is_gone l s) (gone_by x k (has_outstanding k last)) (entry s) l still_gone
        ∙ ap (λ (j : ℕ). stamped_if (gone_by x k (has_outstanding k last)) j (seen_if (is_gone l s) (entry s) l)) is.agrees.clock.entry_is

  noted_by : (k : ℕ) (p q : Option Link) → numbered u.links k ≡ p → numbered s.links k ≡ q → option_map unowed p ≡ option_map unowed q
      → option_map (λ (l : Link). link_seen (noted_gone u l)) p
      ≡ option_map (stamped_if (gone_by x k (has_outstanding k last)) moment) (option_map (λ (l : Link). seen_if (is_gone l s) (entry s) l) q)
  noted_by k None None here was alike = refl
  noted_by k (Some m) None here was alike = absurd (cc)
  noted_by k None (Some l) here was alike = absurd (cc)
  noted_by k (Some m) (Some l) here was alike =
      let one : unowed m ≡ unowed l = (cc) in ap (λ (z : LinkSeen). Some z) (link_now k m l here was one)

  noted_at : (k : ℕ) → numbered (links_noted u) k ≡ numbered (y waits n why x o s is).book.ledger.links k
  noted_at k =
      numbered_map (λ (l : Link). link_seen (noted_gone u l)) u.links k
      ∙ noted_by k (numbered u.links k) (numbered s.links k) refl refl (alike_at k)
      ∙ ap (option_map (stamped_if (gone_by x k (has_outstanding k last)) moment)) (sym (was_at k))
      ∙ sym (ends.noted k) ∙ same_words last.book.ledger.links k
      ∙ ap (λ (l : List LinkSeen). numbered l k) (sym (stamps_are why n x at_slot (can waits n why x o s is).there (going waits n why x o s is)))

  pub links_on : links_noted u ≡ (y waits n why x o s is).book.ledger.links
  links_on = same_numbered (links_noted u) (y waits n why x o s is).book.ledger.links noted_at
