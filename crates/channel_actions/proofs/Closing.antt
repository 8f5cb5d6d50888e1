-- An entry closes: channel and session agree between two entries, and each link that is gone is stamped in both.
use Rattle.std.proofs.Common.{◌≡◌, ◌++◌, ◌+◌, ◌∷◌, ap, arith, length-append, refl, subst, sym, ◌∙◌, Bool, true, List, [], Option, None, Some, ℕ, suc, if◌then◌else◌, is_some, slice_get, length}
use Rattle.std.proofs.lemmas.List.{length-map}
use Rattle.std.proofs.lemmas.Simd.{map-map}
use Rattle.std.specs.List.{list_all}
use Rattle.std.specs.Option.{option_map, option_map_or}
use Rattle.std.specs.Prelude.{map}
use Rattle.channel_actions.proofs.Moved.{agrees_moved}
use Rattle.channel_actions.proofs.Opening.{noted_is, stamp}
use Rattle.channel_actions.proofs.Relinked.{agrees_relinked, owed_relinked, reader_relinked, streams_relinked}
use Rattle.channel_actions.proofs.Stamps.{all_mapped, counted_at, map_same, map_same_some, numbered_map, stamp_form, stamp_keeps, stamp_twice}
use Rattle.channel_actions.specs.Agrees.{Agrees}
use Rattle.channel_actions.specs.Quiescent.{EntriesAreQuiescent, IsAt}
use Rattle.channel_actions.specs.Columns.{links_noted}
use Rattle.channel_actions.proofs.KeptSessions.Beside.{kept_moved}
use Rattle.channel_actions.specs.KeptSessions.Kept.{NumbersCountUp}
use Rattle.channel_actions.specs.Links.{HasLink, lines_in}
use Rattle.channel_actions.specs.Points.{AtRest}
use Rattle.channel_actions.specs.Readers.{attempt_on}
use Rattle.channel_actions.specs.Stages.{Closings, ClosingsAreQuiescent}
use Rattle.channel_core.specs.States.{StateSeen}
use Rattle.grpc_base.specs.declared.event.Entry.{Entry}
use Rattle.grpc_link.specs.Links.{reader_in}
use Rattle.h2_frame.specs.Frames.{FrameSeen}
use Rattle.session_actions.specs.Closing.{entry_made, made_entry, noted_gone}
use Rattle.session_actions.specs.Entries.{entry, last_moment, now}
use Rattle.session_actions.specs.Links.{read_bytes}
use Rattle.session_actions.specs.Refusals.{is_gone}
use Rattle.session_actions.specs.Responses.{is_read_by}
use Rattle.session_actions.specs.Sessions.{link_seen}
use Rattle.session_actions.specs.Words.{last_of, numbered}
use Rattle.session_actions.specs.Writing.{is_control}
use Rattle.session_actions.specs.declared.entry.OpenEntry.{OpenEntry}
use Rattle.session_actions.specs.declared.entry.Stage.TheVariants as stage
use Rattle.session_actions.specs.declared.link.Link.{Link}
use Rattle.session_actions.specs.declared.seen.Seen.{Seen}

-- the last of a list with one more
last_one : {X : Type 0} (xs : List X) (x : X) → slice_get (xs ++ x ∷ []) (length xs) ≡ Some x
last_one [] x = refl
last_one (y ∷ xs) x = last_one xs x

pub last_snoc : {X : Type 0} (xs : List X) (x : X) → last_of (xs ++ x ∷ []) ≡ Some x
last_snoc xs x =
    ap (numbered (xs ++ x ∷ [])) (let long : length (xs ++ x ∷ []) ≡ suc (length xs) = omega (arith, length-append xs (x ∷ [])) in long) ∙ last_one xs x

-- the links are stamped
module _ (x : StateSeen) (s : Seen) (h : Agrees x s) where
  abbrev gone_now : Link → Bool
  gone_now l = is_gone l s

  abbrev ls : List Link
  ls = map (noted_gone s) s.links

  abbrev pub t : Seen
  t = record s { links = ls }

  abbrev g : ℕ → Link → Option ℕ
  g k l = (noted_gone s l).gone

  abbrev w : ℕ → Link → List FrameSeen
  w k l = l.owed

  blind : (l : Link) (z : Option ℕ) → gone_now (record l { gone = z }) ≡ gone_now l
  blind l z = refl

  is : (k : ℕ) → numbered ls k ≡ option_map (λ (l : Link). record l { gone = g k l; owed = w k l }) (numbered s.links k)
  is k =
      numbered_map (noted_gone s) s.links k
      ∙ map_same_some (noted_gone s) (λ (l : Link). record l { gone = g k l; owed = w k l }) (stamp_form gone_now blind (entry s)) (numbered s.links k)

  twice : (n : ℕ) → map (stamp gone_now n) ls ≡ ls
  twice n =
      map-map (stamp gone_now n) (noted_gone s) s.links
      ∙ map_same (λ (l : Link). stamp gone_now n (noted_gone s l)) (noted_gone s) (stamp_twice gone_now blind (entry s) n) s.links

  reads_kept : list_all (λ (l : Link). list_all (is_read_by (read_bytes l)) l.traffic) s.links ≡ true → list_all (λ (l : Link). list_all (is_read_by (read_bytes l)) l.traffic) ls ≡ true
  reads_kept e =
      all_mapped (λ (l : Link). list_all (is_read_by (read_bytes l)) l.traffic) (noted_gone s)
      (stamp_keeps gone_now blind (λ (l : Link). list_all (is_read_by (read_bytes l)) l.traffic) (λ l z. refl) (entry s)) s.links ∙ e

  link_noted : (n : ℕ) (l : Link) → l.number ≡ n → HasLink x s l n → HasLink x t (record l { gone = g n l; owed = w n l }) n
  link_noted n l own k = record {
    slot = k.slot;
    there = k.there;
    sees = record {
      over = k.sees.over;
      retiring = k.sees.retiring;
      going = λ goes. let q = k.sees.going goes in record {
        streams = streams_relinked s ls g w is n l k.slot.link.link.wire.queue k.slot.link.link.wire (lines_in l s) own
            (owed_relinked s ls g w is n l k.slot.link.link.wire refl q.streams.sees.owes) q.streams;
        readers = record { each = λ row. reader_relinked s ls g w is (attempt_on l s row) (reader_in row k.slot.link.readers) (q.readers.each row); distinct = q.readers.distinct };
        rest = q.rest;
        closed = q.closed;
      };
    };
  }

  link_by : (n : ℕ) (l : Link) (o : Option Link) → numbered s.links n ≡ o → option_map (λ (z : Link). record z { gone = g n z; owed = w n z }) o ≡ Some l → HasLink x t l n
  link_by n l None e f = absurd (cc)
  link_by n l (Some z) e f =
      let same : record z { gone = g n z; owed = w n z } ≡ l = (cc) in
      subst (λ (k : Link). HasLink x t k n) same (link_noted n z (counted_at (λ (k : Link). k.number) s.links n z h.kept.links e) (h.links.each n z e))

  numbers_noted : map (λ (l : Link). l.number) ls ≡ map (λ (l : Link). l.number) s.links
  numbers_noted =
      map-map (λ (l : Link). l.number) (noted_gone s) s.links
      ∙ map_same (λ (l : Link). (noted_gone s l).number) (λ (l : Link). l.number) (stamp_keeps gone_now blind (λ (l : Link). l.number) (λ l z. refl) (entry s)) s.links

  dialled_noted : list_all (λ (l : Link). is_some (numbered s.subs l.sub)) ls ≡ list_all (λ (l : Link). is_some (numbered s.subs l.sub)) s.links
  dialled_noted =
      all_mapped (λ (l : Link). is_some (numbered s.subs l.sub)) (noted_gone s)
      (stamp_keeps gone_now blind (λ (l : Link). is_some (numbered s.subs l.sub)) (λ l z. refl) (entry s)) s.links

  queued_noted : list_all (λ (l : Link). list_all is_control l.owed) ls ≡ list_all (λ (l : Link). list_all is_control l.owed) s.links
  queued_noted =
      all_mapped (λ (l : Link). list_all is_control l.owed) (noted_gone s)
      (stamp_keeps gone_now blind (λ (l : Link). list_all is_control l.owed) (λ l z. refl) (entry s)) s.links

  as_seen : map link_seen ls ≡ links_noted s
  as_seen = map-map link_seen (noted_gone s) s.links

  pub agrees_noted : Agrees x t
  agrees_noted =
      agrees_relinked s ls g w is x x.links h reads_kept
      (record { count = length-map s.links (noted_gone s) ∙ h.links.count; each = λ n l e. link_by n l (numbered s.links n) refl (sym (is n) ∙ e) })
      (noted_is t (twice (entry s)) ∙ as_seen ∙ h.columns.links) (subst (NumbersCountUp 1) (sym numbers_noted) h.kept.links) (dialled_noted ∙ h.kept.dialled) (queued_noted ∙ h.kept.queued)

-- and the entry is made
module _ (x : StateSeen) (o : OpenEntry) (s : Seen) (h : Agrees x s) (at : IsAt stage.Settling o s) where
  abbrev made : List Entry
  made = s.entries ++ made_entry o s ∷ []

  entry_now : entry s ≡ length s.entries + 1
  entry_now = ap (λ (c : Option OpenEntry). length s.entries + (if is_some c then 1 else 0)) at.current

  entry_same : length made + 0 ≡ entry s
  entry_same =
      let here : entry s ≡ length s.entries + 1 = entry_now in
      let long : length made ≡ length s.entries + 1 = length-append s.entries (made_entry o s ∷ []) in
      omega arith

  moment_same : last_moment (entry_made o s) ≡ now s
  moment_same =
      ap (λ (z : Option Entry). option_map_or (λ (m : Entry). m.moment) z 0) (last_snoc s.entries (made_entry o s))
      ∙ sym (ap (λ (c : Option OpenEntry). option_map_or (λ (z : OpenEntry). z.moment) c (last_moment s)) at.current)

  pub closes : EntriesAreQuiescent (entry_made o s) → AtRest x (entry_made o s)
  closes quiescent = record {
    between = refl;
    agrees =
        agrees_moved (t x s h) made None s.answered s.wants x (agrees_noted x s h) x.book.ledger.entry x.book.moment x.word x.drawn x.resolver x.unconfigured
        (entry_same ∙ h.clock.entry_is)
        (record { entry_is = entry_same ∙ h.clock.entry_is; moment = moment_same ∙ h.clock.moment; draws = tt }) h.configs.unconfigured
        (noted_is (entry_made o s) (twice x s h (length made + 0)) ∙ as_seen x s h ∙ h.columns.links)
        (kept_moved (t x s h) made None s.answered s.wants entry_same (agrees_noted x s h).kept);
    noted = twice x s h (length made + 0);
    quiescent = quiescent;
  }

pub closings : ClosingsAreQuiescent → Closings
closings quiescent x o s h at none = closes x o s h at (quiescent o s at h.kept)
