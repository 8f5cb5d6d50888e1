-- The links that are gone, once an attempt has ended: the session notes those that the channel has stamped.
use Rattle.std.proofs.Common.{◌≡◌, ◌&&◌, ◌||◌, ◌==◌, not, ap, refl, subst, sym, ◌∙◌, Bool, true, false, arith, List, Option, None, Some, ℕ, zero, suc, if◌then◌else◌, is_none, is_some, option_map}
use Rattle.std.proofs.lemmas.Bool.{and_right, eq-eqb, eqb-true}
use Rattle.std.proofs.lemmas.Bool.Decides.{nat_tests}
use Rattle.std.specs.List.{list_any}
use Rattle.std.specs.Option.{option_map_or}
use Rattle.attempt_ledger.specs.declared.ledger.LinkSeen.{LinkSeen}
use Rattle.attempt_ledger.specs.declared.row.Placed.{Placed}
use Rattle.attempt_ledger.specs.declared.row.RowEnd.{RowEnd}
use Rattle.call_actions.proofs.CallsInTurn.Changes.{any_keep}
use Rattle.channel_actions.proofs.Gone.{all_numbered}
use Rattle.channel_actions.proofs.Outstanding.{any_of}
use Rattle.channel_actions.proofs.Stamps.{counted_at, map_same, numbered_map}
use Rattle.channel_actions.specs.Columns.{links_noted}
use Rattle.channel_actions.specs.KeptSessions.Kept.{IsKept, came_up, is_on_link}
use Rattle.channel_actions.specs.Sets.{PairsAreExactly, is_in_outstanding}
use Rattle.end_cases.proofs.AttemptEnds.After.{end, entry_is, t_is, u}
use Rattle.end_cases.proofs.AttemptEnds.Base.{books}
use Rattle.end_cases.proofs.AttemptEnds.Gone.{going_gone, gone_is, one_noted, stamp_away, stamp_here}
use Rattle.call_cases.proofs.ConfiguredCalls.Lists.{same_numbered}
use Rattle.end_cases.specs.AttemptEnds.Ahead.{HasLinkAhead, LinksAhead}
use Rattle.end_cases.specs.AttemptEnds.Ends.{EndNext, gone_with}
use Rattle.channel_core.specs.States.{StateSeen}
use Rattle.channel_core.specs.Steps as channel
use Rattle.channel_core.specs.Steps.{sub_of}
use Rattle.channel_core.specs.Tables as channel_tables
use Rattle.channel_core.specs.Tables.{is_dead_at, is_retiring_at}
use Rattle.channel_core.specs.declared.state.links.LinkSlot.{LinkSlot}
use Rattle.channel_net.specs.Steps.{NetSeen}
use Rattle.end_cases.specs.AttemptEnds.Left.{all_left}
use Rattle.ledger_stamps.specs.Steps.{gone_link}
use Rattle.net_actions.specs.Sees.{SubchannelsAgree}
use Rattle.session_actions.specs.AttemptEnds.{with_end}
use Rattle.session_actions.specs.Attempts.{is_of, is_outstanding, is_over}
use Rattle.session_actions.specs.Closing.{noted_gone}
use Rattle.session_actions.specs.Entries.{entry}
use Rattle.session_actions.specs.Links.{is_retiring}
use Rattle.session_actions.specs.Reading.{is_outstanding_on}
use Rattle.session_actions.specs.Refusals.{is_gone, is_shutdown_sub}
use Rattle.session_actions.specs.Sessions.{link_seen}
use Rattle.session_actions.specs.Words.{holds, numbered}
use Rattle.session_actions.specs.declared.attempt.Attempt.{Attempt}
use Rattle.session_actions.specs.declared.entry.OpenEntry.{OpenEntry}
use Rattle.session_actions.specs.declared.link.Link.{Link}
use Rattle.session_actions.specs.declared.response.Outcome.{Outcome}
use Rattle.session_actions.specs.declared.seen.Seen.{Seen}
use Rattle.session_order.specs.declared.line.Line.{Line}

gone_off : (p q : Bool) → ((p && false) && q) ≡ false
gone_off true q = refl
gone_off false q = refl

out_by : (mine : Bool) (p : Option Placed) (en over : Bool) → is_some p ≡ true → (mine && ((is_some p && en) || ((is_none p && en) && over))) ≡ true → (is_some p && en) ≡ true
out_by mine None en over e lives = absurd (cc)
out_by true (Some at) true over e lives = refl
out_by true (Some at) false over e lives = absurd (cc)
out_by false (Some at) en over e lives = absurd (cc)

turned : (m n : ℕ) → (m == n) ≡ false → (n == m) ≡ false
turned m n e = grind (arith, nat_tests, e)

-- of a link that is stamped or not
sub_in : (at : Placed) (z : StateSeen) (k : LinkSeen) → numbered (gone_with (Some at) z).book.ledger.links at.link ≡ Some k → sub_of (numbered z.book.ledger.links at.link) ≡ k.sub
sub_in at z k e = sub_by (channel.is_gone at.link z) (numbered z.book.ledger.links at.link) (sym (stamp_here at z z refl z) ∙ e)
  where
    sub_by : (b : Bool) (m : Option LinkSeen) → (if b then option_map (gone_link z.book.ledger.entry) m else m) ≡ Some k → sub_of m ≡ k.sub
    sub_by true None f = absurd (cc)
    sub_by true (Some i) f = let same : gone_link z.book.ledger.entry i ≡ k = (cc) in ap (λ (q : LinkSeen). q.sub) same
    sub_by false None f = absurd (cc)
    sub_by false (Some i) f = let same : i ≡ k = (cc) in ap (λ (q : LinkSeen). q.sub) same

module _ (later : List (ℕ × RowEnd)) (waits : Line → Bool) (also : List ℕ) (a : Attempt) (out : Outcome) (x : StateSeen) (o : OpenEntry) (s : Seen) (is : EndNext later waits also a out x o s) where
  abbrev v : Seen
  v = u later waits also a out x o s is

  abbrev kept : IsKept s
  kept = (books later waits also a out x o s is).kept

  -- a link on which the attempt is not
  out_same : (l : Link) → is_outstanding_on l a ≡ false → list_any (is_outstanding_on l) v.attempts ≡ list_any (is_outstanding_on l) s.attempts
  out_same l off =
      any_keep (is_outstanding_on l) (is_outstanding_on l) (with_end (end later waits also a out x o s is)) a (λ q. refl)
      (gone_off (is_some a.row.placed) (holds (λ (at : Placed). at.link == l.number) a.row.placed) ∙ sym off) s.attempts a.place is.ending.there

  gone_same : (l : Link) → is_outstanding_on l a ≡ false → noted_gone v l ≡ noted_gone s l
  gone_same l off =
      ap (λ (b : Bool). if is_none l.gone && (is_some l.over || ((is_retiring l || is_shutdown_sub s l.sub) && not b)) then record l { gone = Some (entry v) } else l) (out_same l off)
      ∙ ap (λ (m : ℕ). if is_none l.gone && is_gone l s then record l { gone = Some m } else l) (entry_is later waits also a out x o s is)

  was_noted : links_noted s ≡ (gone_with a.row.placed x).book.ledger.links
  was_noted = (books later waits also a out x o s is).columns.links

  -- with what the channel then is
  module _ (y : StateSeen) (ledger_same : y.book.ledger.links ≡ x.book.ledger.links) (entry_same : y.book.ledger.entry ≡ x.book.ledger.entry) (links_same : y.links ≡ x.links)
      (net_same : y.net ≡ x.net) (outs : PairsAreExactly y.outstanding (is_in_outstanding v)) (kept_then : IsKept v) where
    -- it was on no link
    all_off : a.row.placed ≡ None → (l : Link) → is_outstanding_on l a ≡ false
    all_off e l = ap (λ (q : Option Placed). (is_some q && is_none a.row.ended) && holds (λ (at : Placed). at.link == l.number) q) e

    none_noted : a.row.placed ≡ None → links_noted v ≡ (gone_with a.row.placed y).book.ledger.links
    none_noted e =
        map_same (λ (l : Link). link_seen (noted_gone v l)) (λ (l : Link). link_seen (noted_gone s l)) (λ l. ap link_seen (gone_same l (all_off e l))) s.links
        ∙ was_noted ∙ ap (λ (q : Option Placed). (gone_with q x).book.ledger.links) e ∙ sym ledger_same ∙ sym (ap (λ (q : Option Placed). (gone_with q y).book.ledger.links) e)

    -- it was on a link
    module _ (at : Placed) (e : a.row.placed ≡ Some at) where
      outstanding : is_outstanding a ≡ true
      outstanding = out_by (is_of is.call a) a.row.placed (is_none a.row.ended) (not (is_over a s)) (ap (λ (q : Option Placed). is_some q) e) is.ending.lives

      came_by : (q : Option Link) → numbered s.links at.link ≡ q → is_some q ≡ true → (l : Link) × (numbered s.links at.link ≡ Some l)
      came_by None here up = absurd (cc)
      came_by (Some l) here up = (l, here)

      came : (l : Link) × (numbered s.links at.link ≡ Some l)
      came =
          came_by (numbered s.links at.link) refl
          (sym (ap (λ (q : Option Placed). option_map_or (λ (p : Placed). came_up s p.link) q true) e)
          ∙ all_numbered (is_on_link s) s.attempts a.place a is.ending.there kept.placed)

      abbrev l : Link
      l = came.0

      own : l.number ≡ at.link
      own = counted_at (λ (q : Link). q.number) s.links at.link l kept.links came.1

      on_it : is_outstanding_on l a ≡ true
      on_it =
          ap (λ (b : Bool). b && holds (λ (p : Placed). p.link == l.number) a.row.placed) outstanding
          ∙ ap (holds (λ (p : Placed). p.link == l.number)) e ∙ eq-eqb at.link l.number (sym own)

      any_here : (m : ℕ) → numbered s.attempts m ≡ Some a → list_any (is_outstanding_on l) s.attempts ≡ true
      any_here zero there = absurd (cc)
      any_here (suc i) there = any_of (is_outstanding_on l) s.attempts i a there on_it

      gone_s : is_gone l s ≡ is_some l.over
      gone_s = going_gone l s (any_here a.place is.ending.there)

      has_link : HasLinkAhead x (all_left later v) l at.link
      has_link = (subst (λ (q : Seen). LinksAhead also x (all_left later q)) (t_is later waits also a out x o s is) is.links).each at.link l came.1

      dead : (z : StateSeen) → z.links ≡ x.links → channel_tables.is_dead z.links at.link ≡ is_some l.over
      dead z same = ap (λ (ls : List LinkSlot). is_dead_at (numbered ls at.link)) same ∙ ap is_dead_at has_link.there ∙ sym has_link.sees.over

      retiring : (z : StateSeen) → z.links ≡ x.links → channel_tables.is_retiring z.links at.link ≡ is_retiring l
      retiring z same = ap (λ (ls : List LinkSlot). is_retiring_at (numbered ls at.link)) same ∙ ap is_retiring_at has_link.there ∙ sym has_link.sees.retiring

      noted_here : numbered (gone_with (Some at) x).book.ledger.links at.link ≡ Some (link_seen (noted_gone s l))
      noted_here =
          ap (λ (q : Option Placed). numbered (gone_with q x).book.ledger.links at.link) (sym e) ∙ ap (λ (ls : List LinkSeen). numbered ls at.link) (sym was_noted)
          ∙ numbered_map (λ (q : Link). link_seen (noted_gone s q)) s.links at.link ∙ ap (option_map (λ (q : Link). link_seen (noted_gone s q))) came.1

      outs_before : PairsAreExactly x.outstanding (is_in_outstanding s)
      outs_before = (books later waits also a out x o s is).sets.outstanding

      -- which sub it is of, whether or not it is stamped
      sub_same : sub_of (numbered x.book.ledger.links at.link) ≡ l.sub
      sub_same = sub_in at x (link_seen (noted_gone s l)) noted_here ∙ noted_sub (is_none l.gone && is_gone l s)
        where
          noted_sub : (b : Bool) → (link_seen (if b then record l { gone = Some (entry s) } else l)).sub ≡ l.sub
          noted_sub true = refl
          noted_sub false = refl

      gone_x : channel.is_gone at.link x ≡ is_some l.over
      gone_x =
          gone_is x s at.link l
          (record { there = came.1; dead = dead x refl; retiring = retiring x refl; sub = sub_same; out = outs_before; subs = (books later waits also a out x o s is).net.subs_are; kept = kept })
          ∙ gone_s

      gone_y : sub_of (numbered x.book.ledger.links at.link) ≡ l.sub → channel.is_gone at.link y ≡ is_gone l v
      gone_y sub =
          gone_is y v at.link l
          (record {
            there = came.1;
            dead = dead y links_same;
            retiring = retiring y links_same;
            sub = ap (λ (ls : List LinkSeen). sub_of (numbered ls at.link)) ledger_same ∙ sub;
            out = outs;
            subs = subst (λ (q : NetSeen). SubchannelsAgree 1 s.subs q.board q.links) (sym net_same) (books later waits also a out x o s is).net.subs_are;
            kept = kept_then;
          })

      here_noted : numbered (gone_with (Some at) y).book.ledger.links at.link ≡ Some (link_seen (noted_gone v l))
      here_noted =
          one_noted at x y s v l ledger_same (sym (books later waits also a out x o s is).clock.entry_is) (entry_same ∙ sym (books later waits also a out x o s is).clock.entry_is)
          (entry_is later waits also a out x o s is) gone_x gone_s gone_y noted_here

      away_off : (m : ℕ) (q : Link) → numbered s.links m ≡ Some q → (m == at.link) ≡ false → is_outstanding_on q a ≡ false
      away_off m q here off =
          ap (λ (p : Option Placed). is_outstanding a && holds (λ (k : Placed). k.link == q.number) p) e
          ∙ and_right (is_outstanding a) (at.link == q.number)
          (ap (λ (i : ℕ). at.link == i) (counted_at (λ (k : Link). k.number) s.links m q kept.links here) ∙ turned m at.link off)

      away_by : (m : ℕ) (q : Option Link) → numbered s.links m ≡ q → (m == at.link) ≡ false
          → option_map (λ (k : Link). link_seen (noted_gone v k)) q ≡ option_map (λ (k : Link). link_seen (noted_gone s k)) q
      away_by m None here off = refl
      away_by m (Some q) here off = ap (λ (k : Link). Some (link_seen k)) (gone_same q (away_off m q here off))

      noted_at : (m : ℕ) (b : Bool) → (m == at.link) ≡ b → numbered (links_noted v) m ≡ numbered (gone_with (Some at) y).book.ledger.links m
      noted_at m true f =
          let same : m ≡ at.link = eqb-true m at.link f in
          subst (λ (i : ℕ). numbered (links_noted v) i ≡ numbered (gone_with (Some at) y).book.ledger.links i) (sym same)
          (numbered_map (λ (q : Link). link_seen (noted_gone v q)) s.links at.link ∙ ap (option_map (λ (q : Link). link_seen (noted_gone v q))) came.1 ∙ sym here_noted)
      noted_at m false f =
          numbered_map (λ (q : Link). link_seen (noted_gone v q)) s.links m ∙ away_by m (numbered s.links m) refl f
          ∙ sym (numbered_map (λ (q : Link). link_seen (noted_gone s q)) s.links m) ∙ ap (λ (ls : List LinkSeen). numbered ls m) was_noted
          ∙ ap (λ (q : Option Placed). numbered (gone_with q x).book.ledger.links m) e ∙ sym (stamp_away at x y ledger_same m f)

      some_noted : links_noted v ≡ (gone_with a.row.placed y).book.ledger.links
      some_noted =
          same_numbered (links_noted v) (gone_with (Some at) y).book.ledger.links (λ m. noted_at m (m == at.link) refl)
          ∙ sym (ap (λ (q : Option Placed). (gone_with q y).book.ledger.links) e)

    noted_by : (q : Option Placed) → a.row.placed ≡ q → links_noted v ≡ (gone_with a.row.placed y).book.ledger.links
    noted_by None e = none_noted e
    noted_by (Some at) e = some_noted at e

    pub noted_then : links_noted v ≡ (gone_with a.row.placed y).book.ledger.links
    noted_then = noted_by a.row.placed refl
