-- The links of the channel's ledger, once a call is committed, are those of the session were the entry to close.
use Rattle.std.proofs.Common.{◌≡◌, ◌||◌, ◌&&◌, ◌+◌, ◌∷◌, not, ap, refl, subst, sym, ◌∙◌, Bool, true, false, List, [], Option, None, Some, ℕ, zero, suc, if◌then◌else◌, is_none, is_some, length, map, slice_get}
use Rattle.std.specs.List.{AllByRecursion, list_any}
use Rattle.std.specs.Option.{option_map}
use Rattle.attempt_ledger.specs.declared.ledger.LinkSeen.{LinkSeen}
use Rattle.attempt_ledger.specs.declared.row.Row.{Row}
use Rattle.call_core.specs.declared.live.LiveRow.{LiveRow}
use Rattle.channel_actions.proofs.ActsFollowed.Acts.{IsDone, all_done}
use Rattle.channel_actions.proofs.Gone.{all_numbered, gone_same}
use Rattle.channel_actions.proofs.Outstanding.{outstanding_same}
use Rattle.channel_actions.proofs.Stamps.{counted_at, numbered_map, stamp_keeps}
use Rattle.channel_actions.specs.Columns.{links_noted}
use Rattle.channel_actions.specs.Links.{HasLink}
use Rattle.attempt_cases.proofs.CallCommits.Along.{same}
use Rattle.attempt_cases.proofs.CallCommits.Linked as linked_
use Rattle.attempt_cases.proofs.CallCommits.Linked.{entry_w, first, linked, rows, stamps_are, w, y}
use Rattle.attempt_cases.proofs.CallCommits.On as on_
use Rattle.attempt_cases.proofs.CallCommits.On.{on}
use Rattle.attempt_cases.proofs.CallCommits.Own.{links_then}
use Rattle.attempt_cases.proofs.CallCommits.Rows.{outstanding_on}
use Rattle.call_cases.proofs.ConfiguredCalls.Lists.{same_numbered, same_words}
use Rattle.call_cases.specs.CallEnds.Ends.{unowed}
use Rattle.call_cases.proofs.OneCallEnds.Gone.{subs_at}
use Rattle.call_cases.proofs.OneCallEnds.Noted.{seen_if, seen_on}
use Rattle.call_cases.proofs.OneCallEnds.Stamps.{IsNoted, all_noted, gone_by, stamped_if}
use Rattle.attempt_cases.specs.CallCommits.Commits.{CommitsNext}
use Rattle.channel_core.specs.Books.{link_at}
use Rattle.channel_core.specs.States.{StateSeen}
use Rattle.channel_core.specs.Steps.{acts_done, has_outstanding, is_of_shut_sub, is_on, is_shut_state, sub_of}
use Rattle.channel_core.specs.Steps as channel
use Rattle.channel_core.specs.Tables.{is_dead, is_dead_at, is_retiring_at}
use Rattle.channel_core.specs.Tables as tables
use Rattle.channel_core.specs.declared.state.slots.CallSlot.{CallSlot}
use Rattle.channel_net.specs.Lists.{state_at}
use Rattle.session_actions.specs.declared.action.CommitCause.{CommitCause}
use Rattle.call_core.specs.declared.inbox.Inbox.{Inbox}
use Rattle.picker_gate.specs.Pairs.{next_after}
use Rattle.session_actions.specs.Closing.{noted_gone}
use Rattle.session_actions.specs.Entries.{entry}
use Rattle.session_actions.specs.Links.{is_retiring}
use Rattle.session_actions.specs.Policies.{is_shutdown}
use Rattle.session_actions.specs.Reading.{is_outstanding_on}
use Rattle.session_actions.specs.Refusals.{is_gone, is_shutdown_sub}
use Rattle.session_actions.specs.Sessions.{link_seen}
use Rattle.session_actions.specs.Words.{holds, numbered}
use Rattle.session_actions.specs.declared.entry.OpenEntry.{OpenEntry}
use Rattle.session_actions.specs.declared.link.Link.{Link}
use Rattle.session_actions.specs.declared.seen.Seen.{Seen}
use Rattle.session_actions.specs.declared.subchannel.Subchannel.{Subchannel}
use Rattle.session_order.specs.declared.line.Line.{Line}

-- what is queued on a link is not stamped
unowed_by : (entry : ℕ) (l : Link) (b : Bool) → link_seen (if b then record (unowed l) { gone = Some entry } else unowed l) ≡ link_seen (if b then record l { gone = Some entry } else l)
unowed_by entry l true = refl
unowed_by entry l false = refl

unowed_seen : (gone : Bool) (entry : ℕ) (l : Link) → seen_if gone entry (unowed l) ≡ seen_if gone entry l
unowed_seen gone entry l = unowed_by entry l (is_none l.gone && gone)

module _ (waits : Line → Bool) (n : ℕ) (why : CommitCause) (inbox : Inbox) (x : StateSeen) (o : OpenEntry) (s : Seen) (is : CommitsNext waits n why inbox x o s) where
  abbrev u : Seen
  u = on_.u waits n why inbox x o s is

  abbrev gone_rows : List LiveRow
  gone_rows = rows waits n why inbox x o s is

  -- where the acts begin, and where they end
  abbrev begin : StateSeen
  begin = first waits n why inbox x o s is

  abbrev last : StateSeen
  last = linked_.last waits n why inbox x o s is

  -- the links as they were
  abbrev moment : ℕ
  moment = x.book.ledger.entry

  was_at : (k : ℕ) → tables.numbered x.book.ledger.links k ≡ option_map (λ (l : Link). seen_if (is_gone l s) (entry s) l) (numbered s.links k)
  was_at k =
      same_words x.book.ledger.links k ∙ ap (λ (l : List LinkSeen). numbered l k) (sym is.agrees.columns.links)
      ∙ numbered_map (λ (l : Link). link_seen (noted_gone s l)) s.links k

  gone_then : (k : ℕ) (l : Link) → numbered s.links k ≡ Some l → gone_by x k (has_outstanding k x) ≡ is_gone l s
  gone_then k l e = gone_same x s is.agrees k l e

  noted_first : (k : ℕ) (q : Option Link) → numbered s.links k ≡ q
      → option_map (λ (l : Link). seen_if (is_gone l s) (entry s) l) q
      ≡ option_map (stamped_if (gone_by x k (has_outstanding k x)) moment) (option_map (λ (l : Link). seen_if (is_gone l s) (entry s) l) q)
  noted_first k None e = refl
  noted_first k (Some l) e =
      ap (λ (z : LinkSeen). Some z) (seen_on (is_gone l s) (is_gone l s) (entry s) l (λ h. h))
      ∙ ap (λ (b : Bool). Some (stamped_if b (entry s) (seen_if (is_gone l s) (entry s) l))) (sym (gone_then k l e))
      ∙ ap (λ (m : ℕ). Some (stamped_if (gone_by x k (has_outstanding k x)) m (seen_if (is_gone l s) (entry s) l))) is.agrees.clock.entry_is

  begins : IsNoted x begin
  begins = record {
    entry = entry_w waits n why inbox x o s is;
    net = refl;
    dead = λ k. refl;
    retiring = λ k. refl;
    rising = is.agrees.sets.outstanding.rising;
    fewer = λ k e. e;
    noted = λ k.
        ap (λ (l : List LinkSeen). tables.numbered l k) (links_then waits n why inbox x o s is) ∙ was_at k ∙ noted_first k (numbered s.links k) refl
        ∙ ap (option_map (stamped_if (gone_by x k (has_outstanding k x)) moment)) (sym (was_at k));
  }

  ends : IsNoted x last
  ends = all_noted x n gone_rows begin (linked waits n why inbox x o s is) begins

  out_is : last.outstanding ≡ (w waits n why inbox x o s is).outstanding
  out_is = let d : IsDone n gone_rows begin last = all_done n gone_rows begin (linked waits n why inbox x o s is) in d.outstanding

  -- the link of a number, before and after
  alike_at : (k : ℕ) → option_map unowed (numbered u.links k) ≡ option_map unowed (numbered s.links k)
  alike_at k =
      sym (numbered_map unowed u.links k) ∙ ap (λ (l : List Link). numbered l k) (same waits n why inbox x o s is).links ∙ numbered_map unowed s.links k

  module _ (k : ℕ) (m l : Link) (here : numbered u.links k ≡ Some m) (was : numbered s.links k ≡ Some l) (alike : unowed m ≡ unowed l) where
    own_number : m.number ≡ k
    own_number = ap (λ (z : Link). z.number) alike ∙ counted_at (λ (z : Link). z.number) s.links k l is.agrees.kept.links was

    has_link : HasLink x s l k
    has_link = is.agrees.links.each k l was

    sub_is : sub_of (link_at x.book k) ≡ l.sub
    sub_is =
        ap sub_of (was_at k ∙ ap (option_map (λ (z : Link). seen_if (is_gone z s) (entry s) z)) was)
        ∙ stamp_keeps (λ (z : Link). is_gone z s) (λ z q. refl) (λ (z : Link). z.sub) (λ z q. refl) (entry s) l

    shut_is : is_of_shut_sub k x ≡ is_shutdown_sub u m.sub
    shut_is =
        ap (λ (j : ℕ). is_shut_state (state_at x.net.board j)) sub_is
        ∙ subs_at l.sub s.subs x.net.board x.net.links is.agrees.net.subs_are
        (all_numbered (λ (z : Link). is_some (numbered s.subs z.sub)) s.links k l was is.agrees.kept.dialled)
        ∙ ap (λ (j : ℕ). is_shutdown_sub s j) (sym (ap (λ (z : Link). z.sub) alike))
        ∙ ap (λ (bs : List Subchannel). holds (λ (b : Subchannel). is_shutdown b.state) (numbered bs m.sub)) (sym (on waits n why inbox x o s is).rest.subs)

    out_now : has_outstanding k last ≡ list_any (is_outstanding_on m) u.attempts
    out_now =
        ap (λ (pairs : List (ℕ × ℕ)). is_on k (next_after pairs (k, 0))) out_is
        ∙ subst (λ (j : ℕ). is_on j (next_after (w waits n why inbox x o s is).outstanding (j, 0)) ≡ list_any (is_outstanding_on m) u.attempts) own_number
        (outstanding_same u m (w waits n why inbox x o s is).outstanding (outstanding_on waits n why inbox x o s is))

    gone_now : gone_by x k (has_outstanding k last) ≡ is_gone m u
    gone_now =
        ap (λ (b : Bool). b || ((tables.is_retiring x.links k || is_of_shut_sub k x) && not (has_outstanding k last)))
        (ap is_dead_at has_link.there ∙ sym has_link.sees.over ∙ ap (λ (z : Link). is_some z.over) (sym alike))
        ∙ ap (λ (b : Bool). is_some m.over || ((b || is_of_shut_sub k x) && not (has_outstanding k last)))
        (ap is_retiring_at has_link.there ∙ sym has_link.sees.retiring ∙ ap is_retiring (sym alike))
        ∙ ap (λ (b : Bool). is_some m.over || ((is_retiring m || b) && not (has_outstanding k last))) shut_is
        ∙ ap (λ (b : Bool). is_some m.over || ((is_retiring m || is_shutdown_sub u m.sub) && not b)) out_now

    still_by : (b d : Bool) (r q p : Bool) → (p ≡ true → q ≡ true) → (d || (r && not q)) ≡ true → (d || (r && not p)) ≡ true
    still_by b true r q p turn e = refl
    still_by b false true q false turn e = refl
    still_by b false true true true turn e = absurd (cc)
    still_by b false true false true turn e = absurd (let bad : false ≡ true = turn refl in (cc))
    still_by b false false q p turn e = absurd (cc)

    still_gone : is_gone l s ≡ true → gone_by x k (has_outstanding k last) ≡ true
    still_gone e =
        still_by true (is_dead x.links k) (tables.is_retiring x.links k || is_of_shut_sub k x) (has_outstanding k x) (has_outstanding k last) (ends.fewer k)
        (gone_then k l was ∙ e)

    entry_now : entry u ≡ entry s
    entry_now =
        ap (λ (es : List _). length es + (if is_some u.current then 1 else 0)) (on waits n why inbox x o s is).rest.entries
        ∙ ap (λ (q : Option OpenEntry). length s.entries + (if is_some q then 1 else 0)) ((on waits n why inbox x o s is).current ∙ sym is.current)

    link_now : link_seen (noted_gone u m) ≡ stamped_if (gone_by x k (has_outstanding k last)) moment (seen_if (is_gone l s) (entry s) l)
    link_now =
        ap (λ (j : ℕ). seen_if (is_gone m u) j m) entry_now
        ∙ sym (unowed_seen (is_gone m u) (entry s) m) ∙ ap (seen_if (is_gone m u) (entry s)) alike ∙ unowed_seen (is_gone m u) (entry s) l
        ∙ ap (λ (b : Bool). seen_if b (entry s) l) (sym gone_now)
        ∙ seen_on (is_gone l s) (gone_by x k (has_outstanding k last)) (entry s) l still_gone
        ∙ ap (λ (j : ℕ). stamped_if (gone_by x k (has_outstanding k last)) j (seen_if (is_gone l s) (entry s) l)) is.agrees.clock.entry_is

  noted_by : (k : ℕ) (p q : Option Link) → numbered u.links k ≡ p → numbered s.links k ≡ q → option_map unowed p ≡ option_map unowed q
      → option_map (λ (l : Link). link_seen (noted_gone u l)) p
      ≡ option_map (stamped_if (gone_by x k (has_outstanding k last)) moment) (option_map (λ (l : Link). seen_if (is_gone l s) (entry s) l) q)
  noted_by k None None here was alike = refl
  noted_by k (Some m) None here was alike = absurd (cc)
  noted_by k None (Some l) here was alike = absurd (cc)
  noted_by k (Some m) (Some l) here was alike =
      let one : unowed m ≡ unowed l = (cc) in ap (λ (z : LinkSeen). Some z) (link_now k m l here was one)

  noted_at : (k : ℕ) → numbered (links_noted u) k ≡ numbered (y waits n why inbox x o s is).book.ledger.links k
  noted_at k =
      numbered_map (λ (l : Link). link_seen (noted_gone u l)) u.links k
      ∙ noted_by k (numbered u.links k) (numbered s.links k) refl refl (alike_at k)
      ∙ ap (option_map (stamped_if (gone_by x k (has_outstanding k last)) moment)) (sym (was_at k))
      ∙ sym (ends.noted k) ∙ same_words last.book.ledger.links k
      ∙ ap (λ (l : List LinkSeen). numbered l k) (sym (stamps_are waits n why inbox x o s is))

  pub links_on : links_noted u ≡ (y waits n why inbox x o s is).book.ledger.links
  links_on = same_numbered (links_noted u) (y waits n why inbox x o s is).book.ledger.links noted_at
