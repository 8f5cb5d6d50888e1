-- The clock of an entry that goes on.
use Rattle.std.proofs.Common.{◌≡◌, ◌+◌, ◌%◌, ◌^◌, ap, subst, sym, ◌∙◌, Option, Some, ℕ, if◌then◌else◌, is_some, length}
use Rattle.std.specs.Option.{option_map_or}
use Rattle.channel_actions.specs.Clock.{DrawsAlike, SeesClock}
use Rattle.channel_core.specs.States.{StateSeen}
use Rattle.channel_actions.specs.BoardActions.Boards.{IsBoarded}
use Rattle.session_actions.specs.Entries.{entry, last_moment, now}
use Rattle.session_actions.specs.declared.entry.OpenEntry.{OpenEntry}
use Rattle.session_actions.specs.declared.seen.Seen.{Seen}

module _ (s t : Seen) (o p : OpenEntry) (e : IsBoarded s t) (is : s.current ≡ Some o) (on : t.current ≡ Some p) where
  pub entry_goes_on : entry t ≡ entry s
  entry_goes_on =
      ap (λ (v : Seen). length v.entries + (if is_some t.current then 1 else 0)) e
      ∙ ap (λ (c : Option OpenEntry). length s.entries + (if is_some c then 1 else 0)) (on)
      ∙ sym (ap (λ (c : Option OpenEntry). length s.entries + (if is_some c then 1 else 0)) is)

  pub now_goes_on : p.moment ≡ o.moment → now t ≡ now s
  now_goes_on same =
      ap (λ (c : Option OpenEntry). option_map_or (λ (q : OpenEntry). q.moment) c (last_moment t)) on ∙ same
      ∙ sym (ap (λ (c : Option OpenEntry). option_map_or (λ (q : OpenEntry). q.moment) c (last_moment s)) is)

  pub clock_goes_on : (x y : StateSeen) → SeesClock x s → p.moment ≡ o.moment → p.word ≡ o.word → y.book.ledger.entry ≡ x.book.ledger.entry → y.book.moment ≡ x.book.moment
      → y.word ≡ x.word → y.drawn ≡ p.drawn % 2 ^ 64 → SeesClock y t
  clock_goes_on x y h moment word entry_is moment_is word_is drawn = record {
    entry_is = entry_goes_on ∙ h.entry_is ∙ sym entry_is;
    moment = now_goes_on moment ∙ h.moment ∙ sym moment_is;
    draws = subst (λ (c : Option OpenEntry). DrawsAlike c y) (sym on)
        (word ∙ (subst (λ (c : Option OpenEntry). DrawsAlike c x) is h.draws).0 ∙ sym word_is, drawn);
  }
