-- The links that are gone, once the rows of the call are given up: the session notes those that the channel has stamped, on the way or for the attempt that ended first.
use Rattle.attempt_ledger.specs.declared.ledger.LinkSeen.{LinkSeen}
use Rattle.attempt_ledger.specs.declared.row.Placed.{Placed}
use Rattle.attempt_ledger.specs.declared.row.Row.{Row}
use Rattle.attempt_ledger.specs.declared.row.RowEnd.{RowEnd}
use Rattle.call_actions.proofs.Ranks.{numbered_map}
use Rattle.call_actions.specs.Laws.{IsCounting, is_last_end}
use Rattle.call_core.specs.declared.live.LiveRow.{LiveRow}
use Rattle.channel_actions.proofs.ActsFollowed.Acts.{LinkIn, acts_form, given, parts_of}
use Rattle.channel_actions.specs.Columns.{links_noted}
use Rattle.channel_actions.specs.KeptSessions.Kept.{IsKept}
use Rattle.channel_actions.specs.Sets.{PairsAreExactly, PairsAreRising, is_in_outstanding}
use Rattle.end_cases.proofs.AttemptEnds.After.{entry_is, in_out}
use Rattle.end_cases.proofs.AttemptEnds.Base.{books, c}
use Rattle.end_cases.proofs.AttemptEnds.ClosedAgree as agree
use Rattle.end_cases.proofs.AttemptEnds.Closing as closing
use Rattle.end_cases.proofs.AttemptEnds.Gone.{Knows, gone_is}
use Rattle.end_cases.proofs.AttemptEnds.Noted.{noted_then}
use Rattle.end_cases.proofs.AttemptEnds.OffSets.{out_left}
use Rattle.end_cases.proofs.AttemptEnds.OneEnded as first_end
use Rattle.end_cases.proofs.AttemptEnds.Report.{gone_form}
use Rattle.call_cases.proofs.ConfiguredCalls.Lists.{same_numbered, same_words}
use Rattle.end_cases.proofs.CutEnds.Acts.{first, last, linked, then_}
use Rattle.end_cases.proofs.CutEnds.Call.{b, given_rows, goes, w}
use Rattle.end_cases.proofs.CutEnds.Rows.{outstanding_on}
use Rattle.end_cases.proofs.CutEnds.Stamped.{gone_before}
use Rattle.call_cases.proofs.OneCallEnds.Noted.{seen_if, seen_on}
use Rattle.call_cases.proofs.OneCallEnds.Stamps.{IsNoted, all_noted, gone_by, stamped_if}
use Rattle.end_cases.specs.AttemptEnds.Ahead.{HasLinkAhead}
use Rattle.end_cases.specs.AttemptEnds.Ends.{EndNext, gone_with}
use Rattle.end_cases.specs.AttemptEnds.Laws.{goes_on_after}
use Rattle.end_cases.specs.AttemptEnds.Left.{all_left}
use Rattle.channel_core.specs.States.{StateSeen}
use Rattle.channel_core.specs.Steps.{acts_done, has_outstanding, is_gone, is_of_shut_sub, sub_of, with_ledger_links}
use Rattle.channel_core.specs.Tables as tables
use Rattle.channel_core.specs.Tables.{is_dead_at, is_retiring_at}
use Rattle.channel_core.specs.declared.state.links.LinkSlot.{LinkSlot}
use Rattle.channel_net.specs.Steps.{NetSeen}
use Rattle.ledger_stamps.specs.Steps.{changed_at, gone_link}
use Rattle.net_actions.specs.Sees.{SubchannelsAgree}
use Rattle.session_actions.specs.Attempts.{commitment}
use Rattle.session_actions.specs.Closing.{noted_gone}
use Rattle.session_actions.specs.Configs.{plan_of}
use Rattle.session_actions.specs.Entries.{entry}
use Rattle.session_actions.specs.Refusals.{is_gone as is_gone_in}
use Rattle.session_actions.specs.Sessions.{link_seen}
use Rattle.session_actions.specs.Words.{numbered}
use Rattle.session_actions.specs.declared.attempt.Attempt.{Attempt}
use Rattle.session_actions.specs.declared.entry.OpenEntry.{OpenEntry}
use Rattle.session_actions.specs.declared.link.Link.{Link}
use Rattle.session_actions.specs.declared.response.Outcome.{Outcome}
use Rattle.session_actions.specs.declared.seen.Seen.{Seen}
use Rattle.session_actions.specs.declared.subchannel.Subchannel.{Subchannel}
use Rattle.session_order.specs.declared.line.Line.{Line}
use Rattle.std.proofs.Common.{Bool, List, None, Option, Some, ap, false, if◌then◌else◌, is_none, map, not, option_map, refl, subst, sym, true, ℕ, ◌&&◌, ◌||◌, ◌∙◌, ◌≡◌}
use Rattle.std.specs.List.{AllByRecursion}

sub_noted : (b : Bool) (moment : ℕ) (l : Link) → (link_seen (if b then record l { gone = Some moment } else l)).sub ≡ l.sub
sub_noted true moment l = refl
sub_noted false moment l = refl

still_by : (d r p q : Bool) → (p ≡ true → q ≡ true) → (d || (r && not q)) ≡ true → (d || (r && not p)) ≡ true
still_by true r p q turn e = refl
still_by false true false q turn e = refl
still_by false true true true turn e = absurd (cc)
still_by false true true false turn e = absurd (let bad : false ≡ true = turn refl in (cc))
still_by false false p q turn e = absurd (cc)

-- of two channels that are alike in what is stamped, and in what decides of it
links_by : (b : Bool) (ls : List LinkSeen) (y z : StateSeen) → y.book.ledger.links ≡ z.book.ledger.links
    → (if b then with_ledger_links ls y else y).book.ledger.links ≡ (if b then with_ledger_links ls z else z).book.ledger.links
links_by true ls y z same = refl
links_by false ls y z same = same

module _ (later : List (ℕ × RowEnd)) (waits : Line → Bool) (also : List ℕ) (a : Attempt) (out : Outcome) (x : StateSeen) (o : OpenEntry) (s : Seen) (is : EndNext later waits also a out x o s)
    (counting : IsCounting s (c later waits also a out x o s is) out) (free : commitment (c later waits also a out x o s is) s ≡ None)
    (final : goes_on_after (plan_of (c later waits also a out x o s is) s) s (c later waits also a out x o s is) a out ≡ false)
    (last_end : is_last_end (plan_of (c later waits also a out x o s is) s) (c later waits also a out x o s is) a out s ≡ true) where
  abbrev n : ℕ
  n = (c later waits also a out x o s is).number

  abbrev v : Seen
  v = closing.v later waits also a out x o s is counting

  abbrev mid : Seen
  mid = closing.mid later waits also a out x o s is counting (b later waits also a out x o s is counting free final last_end)

  abbrev kept_v : IsKept v
  kept_v = closing.kept_one later waits also a out x o s is counting

  kept_mid : IsKept mid
  kept_mid = agree.kept_mid later waits also a out x o s is counting (b later waits also a out x o s is counting free final last_end) (goes later waits also a out x o s is counting free final last_end)

  abbrev rows1 : List LiveRow
  rows1 = given_rows later waits also a out x o s is counting free final last_end

  -- where the acts begin and end; and with the stamp of the first attempt's link written before them
  abbrev begin : StateSeen
  begin = first later waits also a out x o s is counting free final last_end

  abbrev end_ : StateSeen
  end_ = last later waits also a out x o s is counting free final last_end

  abbrev start_ : StateSeen
  start_ = gone_with a.row.placed begin

  abbrev finish : StateSeen
  finish = acts_done n (map given rows1) start_

  outs_v : PairsAreExactly begin.outstanding (is_in_outstanding v)
  outs_v = out_left later waits also a out x o s is v (in_out later waits also a out x o s is)

  same_finish : gone_with a.row.placed end_ ≡ finish
  same_finish = gone_before n a.row.placed rows1 begin outs_v.rising

  start_form : start_ ≡ with_ledger_links start_.book.ledger.links begin
  start_form = gone_form a.row.placed begin

  links_start : start_.links ≡ x.links
  links_start = ap (λ (z : StateSeen). z.links) start_form

  net_start : start_.net ≡ x.net
  net_start = ap (λ (z : StateSeen). z.net) start_form

  out_start : start_.outstanding ≡ begin.outstanding
  out_start = ap (λ (z : StateSeen). z.outstanding) start_form

  entry_start : entry v ≡ start_.book.ledger.entry
  entry_start =
      entry_is later waits also a out x o s is ∙ (books later waits also a out x o s is).clock.entry_is ∙ sym (ap (λ (z : StateSeen). z.book.ledger.entry) start_form)

  noted_v : links_noted v ≡ start_.book.ledger.links
  noted_v = noted_then later waits also a out x o s is begin refl refl refl refl outs_v kept_v

  -- a link, in the ledger before the acts
  was_at : (k : ℕ) → tables.numbered start_.book.ledger.links k ≡ option_map (λ (l : Link). seen_if (is_gone_in l v) (entry v) l) (numbered v.links k)
  was_at k =
      same_words start_.book.ledger.links k ∙ ap (λ (ls : List LinkSeen). numbered ls k) (sym noted_v)
      ∙ numbered_map (λ (l : Link). link_seen (noted_gone v l)) v.links k

  module _ (k : ℕ) (l : Link) (here : numbered v.links k ≡ Some l) where
    has_link : HasLinkAhead x (all_left later v) l k
    has_link = (first_end.links_one later waits also a out x o s is).each k l here

    sub_is : sub_of (tables.numbered start_.book.ledger.links k) ≡ l.sub
    sub_is =
        ap sub_of (was_at k ∙ ap (option_map (λ (g : Link). seen_if (is_gone_in g v) (entry v) g)) here) ∙ sub_noted (is_none l.gone && is_gone_in l v) (entry v) l

    knows : (z : StateSeen) (u : Seen) → z.links ≡ start_.links → z.net ≡ start_.net → z.book.ledger.links ≡ start_.book.ledger.links
        → numbered u.links k ≡ Some l → u.subs ≡ v.subs → PairsAreExactly z.outstanding (is_in_outstanding u) → IsKept u → Knows z u k l
    knows z u links net stamps there subs outs kept = record {
      there = there;
      dead = ap (λ (ls : List LinkSlot). is_dead_at (tables.numbered ls k)) (links ∙ links_start) ∙ ap is_dead_at has_link.there ∙ sym has_link.sees.over;
      retiring = ap (λ (ls : List LinkSlot). is_retiring_at (tables.numbered ls k)) (links ∙ links_start) ∙ ap is_retiring_at has_link.there ∙ sym has_link.sees.retiring;
      sub = ap (λ (ls : List LinkSeen). sub_of (tables.numbered ls k)) stamps ∙ sub_is;
      out = outs;
      subs = subst (λ (q : List Subchannel). SubchannelsAgree 1 q z.net.board z.net.links) (sym subs)
          (subst (λ (q : NetSeen). SubchannelsAgree 1 v.subs q.board q.links) (sym (net ∙ net_start)) (books later waits also a out x o s is).net.subs_are);
      kept = kept;
    }

    gone_v : gone_by start_ k (has_outstanding k start_) ≡ is_gone_in l v
    gone_v =
        gone_is start_ v k l (knows start_ v refl refl refl here refl (subst (λ (pairs : List (ℕ × ℕ)). PairsAreExactly pairs (is_in_outstanding v)) (sym out_start) outs_v) kept_v)

  noted_first : (k : ℕ) (q : Option Link) → numbered v.links k ≡ q
      → option_map (λ (l : Link). seen_if (is_gone_in l v) (entry v) l) q
      ≡ option_map (stamped_if (gone_by start_ k (has_outstanding k start_)) start_.book.ledger.entry) (option_map (λ (l : Link). seen_if (is_gone_in l v) (entry v) l) q)
  noted_first k None here = refl
  noted_first k (Some l) here =
      ap (λ (g : LinkSeen). Some g) (seen_on (is_gone_in l v) (is_gone_in l v) (entry v) l (λ h. h))
      ∙ ap (λ (g : Bool). Some (stamped_if g (entry v) (seen_if (is_gone_in l v) (entry v) l))) (sym (gone_v k l here))
      ∙ ap (λ (m : ℕ). Some (stamped_if (gone_by start_ k (has_outstanding k start_)) m (seen_if (is_gone_in l v) (entry v) l))) entry_start

  begins : IsNoted start_ start_
  begins = record {
    entry = refl;
    net = refl;
    dead = λ k. refl;
    retiring = λ k. refl;
    rising = subst PairsAreRising (sym out_start) outs_v.rising;
    fewer = λ k e. e;
    noted = λ k.
        was_at k ∙ noted_first k (numbered v.links k) refl
        ∙ ap (option_map (stamped_if (gone_by start_ k (has_outstanding k start_)) start_.book.ledger.entry)) (sym (was_at k));
  }

  linked_start : AllByRecursion (λ (r : LiveRow). LinkIn start_.book.ledger.rows r.place r.link) rows1
  linked_start =
      subst (λ (rows : List Row). AllByRecursion (λ (r : LiveRow). LinkIn rows r.place r.link) rows1) (sym (ap (λ (z : StateSeen). z.book.ledger.rows) start_form))
      (linked later waits also a out x o s is counting free final last_end)

  ends_ : IsNoted start_ finish
  ends_ = all_noted start_ n rows1 start_ linked_start begins

  -- and after them
  end_form : gone_with a.row.placed end_ ≡ with_ledger_links (gone_with a.row.placed end_).book.ledger.links end_
  end_form = gone_form a.row.placed end_

  out_finish : finish.outstanding ≡ end_.outstanding
  out_finish = sym (ap (λ (z : StateSeen). z.outstanding) same_finish) ∙ ap (λ (z : StateSeen). z.outstanding) end_form

  outs_mid : PairsAreExactly finish.outstanding (is_in_outstanding mid)
  outs_mid =
      subst (λ (pairs : List (ℕ × ℕ)). PairsAreExactly pairs (is_in_outstanding mid)) (sym out_finish) (outstanding_on later waits also a out x o s is counting free final last_end)

  module _ (k : ℕ) (l : Link) (here : numbered v.links k ≡ Some l) where
    abbrev gone_then : Bool
    gone_then = gone_by start_ k (has_outstanding k finish)

    gone_now : gone_then ≡ is_gone_in l mid
    gone_now = gone_is (record start_ { outstanding = finish.outstanding }) mid k l (knows k l here (record start_ { outstanding = finish.outstanding }) mid refl refl refl here refl outs_mid kept_mid)

    still_gone : is_gone_in l v ≡ true → gone_then ≡ true
    still_gone e =
        still_by (tables.is_dead start_.links k) (tables.is_retiring start_.links k || is_of_shut_sub k start_) (has_outstanding k finish) (has_outstanding k start_)
        (ends_.fewer k) (gone_v k l here ∙ e)

    link_now : link_seen (noted_gone mid l) ≡ stamped_if gone_then start_.book.ledger.entry (seen_if (is_gone_in l v) (entry v) l)
    link_now =
        ap (λ (g : Bool). seen_if g (entry v) l) (sym gone_now)
        ∙ seen_on (is_gone_in l v) gone_then (entry v) l still_gone
        ∙ ap (λ (m : ℕ). stamped_if gone_then m (seen_if (is_gone_in l v) (entry v) l)) entry_start

  noted_by : (k : ℕ) (q : Option Link) → numbered v.links k ≡ q
      → option_map (λ (l : Link). link_seen (noted_gone mid l)) q
      ≡ option_map (stamped_if (gone_by start_ k (has_outstanding k finish)) start_.book.ledger.entry) (option_map (λ (l : Link). seen_if (is_gone_in l v) (entry v) l) q)
  noted_by k None here = refl
  noted_by k (Some l) here = ap (λ (g : LinkSeen). Some g) (link_now k l here)

  noted_at : (k : ℕ) → numbered (links_noted mid) k ≡ numbered finish.book.ledger.links k
  noted_at k =
      numbered_map (λ (l : Link). link_seen (noted_gone mid l)) v.links k ∙ noted_by k (numbered v.links k) refl
      ∙ ap (option_map (stamped_if (gone_by start_ k (has_outstanding k finish)) start_.book.ledger.entry)) (sym (was_at k))
      ∙ sym (ends_.noted k) ∙ same_words finish.book.ledger.links k

  -- the channel once it has followed the acts has the same stamps
  stamps_by : (p : Option Placed) → (gone_with p end_).book.ledger.links ≡ (gone_with p (then_ later waits also a out x o s is counting free final last_end)).book.ledger.links
  stamps_by None = refl
  stamps_by (Some at) =
      ap (λ (z : StateSeen). (gone_with (Some at) z).book.ledger.links) (acts_form n (map given rows1) begin)
      ∙ links_by (is_gone at.link (then_ later waits also a out x o s is counting free final last_end))
      (changed_at (gone_link (then_ later waits also a out x o s is counting free final last_end).book.ledger.entry) end_.book.ledger.links at.link) (parts_of end_ begin)
      (then_ later waits also a out x o s is counting free final last_end) refl

  pub noted_on : links_noted (w later waits also a out x o s is counting free final last_end) ≡ (gone_with a.row.placed (then_ later waits also a out x o s is counting free final last_end)).book.ledger.links
  noted_on =
      same_numbered (links_noted mid) finish.book.ledger.links noted_at ∙ ap (λ (z : StateSeen). z.book.ledger.links) (sym same_finish) ∙ stamps_by a.row.placed
