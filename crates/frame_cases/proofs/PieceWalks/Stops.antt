-- Where the bytes show nothing more: a link that is over, or less than a frame, which both keep.
use Rattle.std.proofs.Common.{◌≡◌, ◌++◌, ◌==◌, ap, refl, subst, sym, ◌∙◌, true, false, List, [], Option, None, Some, ℕ, is_some, length, ◌≤◌}
use Rattle.std.proofs.Math.Nat.{min-eq_left}
use Rattle.std.proofs.lemmas.List.{append-nil}
use Rattle.channel_actions.proofs.Links.Frames.Differences.{no_difference}
use Rattle.channel_actions.specs.Agrees.{Agrees}
use Rattle.channel_actions.specs.Links.{HasLink, IsGoing, SeesLinkOf}
use Rattle.attempt_cases.proofs.DrainEvents.Rooms.{one_some}
use Rattle.channel_core.proofs.Resting.{changed_length}
use Rattle.channel_core.specs.Arrivals.{frame_received}
use Rattle.channel_core.specs.States.{StateSeen}
use Rattle.channel_core.specs.Tables.{Received, received_by, sealed_in, sealed_link}
use Rattle.channel_core.specs.declared.state.links.LinkSlot.{LinkSlot}
use Rattle.attempt_ledger.specs.declared.ledger.LinkSeen.{LinkSeen}
use Rattle.frame_cases.proofs.PassedBytes.Agreeing.{passed_bytes_keep}
use Rattle.frame_cases.proofs.PassedBytes.Noted.{reread}
use Rattle.frame_cases.proofs.PieceWalks.Slots.{IsSlot, after_slot, other_slots, others_coming, own_slot, slot_count, slot_of, unreported}
use Rattle.frame_cases.specs.PassedBytes.Laws.{IsPassed, relinked}
use Rattle.frame_cases.specs.PieceWalks.Points.{coming, with_rest}
use Rattle.grpc_link.specs.Links.{reported_all}
use Rattle.h2_link.specs.Received.{prefix_of, received_with}
use Rattle.h2_link.specs.Wire.{Report, Wire}
use Rattle.ledger_stamps.specs.Steps.{changed_at, read_link}
use Rattle.session_actions.specs.Links.{read_bytes}
use Rattle.session_actions.specs.Words.{numbered}
use Rattle.session_actions.specs.declared.entry.OpenEntry.{OpenEntry}
use Rattle.session_actions.specs.declared.link.Link.{Link}
use Rattle.session_actions.specs.declared.seen.Seen.{Seen}

-- the slot by what the bytes show
abbrev part_by : LinkSlot → List ℕ → Option (ℕ × Report) → LinkSlot
part_by old piece f = record old {
  link = sealed_link (reported_all (record { link = (received_with old.link.link piece f).link; readers = old.link.readers }) (received_with old.link.link piece f).news).link;
}

-- the channel with other links than it would have were the piece kept, and the session as it is
module _ (link : ℕ) (piece : List ℕ) (x : StateSeen) (o : OpenEntry) (s : Seen) (h : Agrees (coming link piece x) s) (current : s.current ≡ Some o) where
  count_x : length s.links ≡ length x.links
  count_x = h.links.count ∙ changed_length (with_rest piece) x.links link

  -- where the column of links is as it was
  pub agrees_with : (y : StateSeen) → y ≡ relinked y.links x.book.ledger.links x → ((k : ℕ) → (link == k) ≡ false → numbered y.links k ≡ numbered x.links k)
      → length y.links ≡ length x.links → ((m : Link) → numbered s.links link ≡ Some m → HasLink y s m link) → Agrees y s
  agrees_with y is others count own =
      let columns : y.book.ledger.links ≡ x.book.ledger.links = ap (λ (z : StateSeen). z.book.ledger.links) is in
      let passed : IsPassed link (coming link piece x) y o o s s = record {
        state = is ∙ ap (λ (ks : List LinkSeen). relinked y.links ks x) (sym columns);
        current = current;
        seen = ap (λ (c : Option OpenEntry). record s { current = c }) current;
        moment = refl;
        word = refl;
        drawn = refl;
        kept = h.kept;
        cannot = no_difference (λ (k : ℕ). link == k) s;
        slots = λ k e. others k e ∙ sym (others_coming link piece x k e);
        count = count_x ∙ sym count;
        came_same = λ c. refl;
        drained_same = λ a. refl;
        noted = h.columns.links ∙ sym columns;
        own = own;
      } in
      passed_bytes_keep link (coming link piece x) y o o s s h passed

  module _ (l : Link) (here : numbered s.links link ≡ Some l) where
    abbrev pub has : HasLink (coming link piece x) s l link
    has = h.links.each link l here

    pub kept_slot : IsSlot link piece x has.slot
    kept_slot = slot_of link piece x has.slot has.there

    abbrev pub old : LinkSlot
    old = kept_slot.old

    pub sees_old : SeesLinkOf l s (with_rest piece old)
    sees_old = subst (SeesLinkOf l s) kept_slot.is has.sees

    -- the link, where it keeps nothing of the piece
    as_it_is : (l.over ≡ None → IsGoing l s old) → HasLink x s l link
    as_it_is going = record { slot = old; there = kept_slot.there; sees = record { over = sees_old.over; retiring = sees_old.retiring; going = going } }

    same_x : x ≡ relinked x.links x.book.ledger.links x
    same_x = ap (λ (rs : List ℕ). record x { resets = rs }) h.sets.resets

    pub agrees_as_is : (l.over ≡ None → IsGoing l s old) → Agrees x s
    agrees_as_is going =
        agrees_with x same_x (λ k e. refl) refl
        (λ m got. subst (λ (k : Link). HasLink x s k link) (one_some l m (numbered s.links link) here got) (as_it_is going))

    -- it is over
    pub agrees_over : is_some l.over ≡ true → Agrees x s
    agrees_over over = agrees_as_is (λ none. absurd (let no : is_some l.over ≡ false = ap (λ (q : Option _). is_some q) none in (cc)))

    -- nothing is left
    going_old : piece ≡ [] → IsGoing l s (with_rest piece old) → IsGoing l s old
    going_old e g = record {
      streams = g.streams;
      readers = g.readers;
      rest = g.rest ∙ ap (λ (bytes : List ℕ). old.link.link.rest ++ bytes) e ∙ append-nil old.link.link.rest;
      closed = g.closed;
    }

    pub agrees_done : piece ≡ [] → Agrees x s
    agrees_done e = agrees_as_is (λ none. going_old e (sees_old.going none))

    -- what is left is less than a frame, and is kept
    module _ (unbroken : l.over ≡ None) (few : read_bytes l ≤ 18446744073709551615) (nothing : prefix_of old.link.link.wire (old.link.link.rest ++ piece) ≡ None) where
      going : IsGoing l s (with_rest piece old)
      going = sees_old.going unbroken

      abbrev pub received_part : Received
      received_part = received_by old link piece x.links

      abbrev w : Wire
      w = old.link.link.wire

      abbrev y : StateSeen
      y = frame_received link received_part x

      abbrev kept_part : LinkSlot
      kept_part = after_slot link piece x old kept_slot.there

      part_is : kept_part ≡ with_rest piece old
      part_is =
          ap (part_by old piece) nothing ∙ ap (λ (n : ℕ). record old {
            link = record old.link {
              link = record old.link.link {
                wire = record w { queue = record w.queue { fresh = n } };
                rest = old.link.link.rest ++ piece;
              };
            };
          }) (sym going.closed)

      none_reported : received_part.news ≡ []
      none_reported = ap (λ (f : Option (ℕ × Report)). (reported_all (record { link = (received_with old.link.link piece f).link; readers = old.link.readers }) (received_with old.link.link piece f).news).news) nothing

      read_same : received_part.read ≡ read_bytes l
      read_same =
          ap (λ (f : Option (ℕ × Report)). (received_with old.link.link piece f).link.wire.read) nothing ∙ going.streams.sees.sees.reads.read
          ∙ min-eq_left few

      columns_same : changed_at (read_link received_part.read) x.book.ledger.links link ≡ x.book.ledger.links
      columns_same = reread link received_part.read s x.book.ledger.links l here h.columns.links read_same

      y_is : y ≡ relinked (sealed_in link received_part.links) x.book.ledger.links x
      y_is = unreported link received_part x h.sets.resets none_reported ∙ ap (λ (ks : List LinkSeen). relinked (sealed_in link received_part.links) ks x) columns_same

      links_y : y.links ≡ sealed_in link received_part.links
      links_y = ap (λ (z : StateSeen). z.links) y_is

      has_part : HasLink y s l link
      has_part = record {
        slot = with_rest piece old;
        there = ap (λ (ks : List LinkSlot). numbered ks link) links_y ∙ own_slot link piece x old kept_slot.there ∙ ap (λ (q : LinkSlot). Some q) part_is;
        sees = sees_old;
      }

      pub agrees_part : Agrees y s
      agrees_part =
          agrees_with y (y_is ∙ ap (λ (ks : List LinkSlot). relinked ks x.book.ledger.links x) (sym links_y))
          (λ k e. ap (λ (ks : List LinkSlot). numbered ks k) links_y ∙ other_slots link piece x old kept_slot.there k e)
          (ap (λ (ks : List LinkSlot). length ks) links_y ∙ slot_count link piece x old kept_slot.there)
          (λ m got. subst (λ (k : Link). HasLink y s k link) (one_some l m (numbered s.links link) here got) has_part)
