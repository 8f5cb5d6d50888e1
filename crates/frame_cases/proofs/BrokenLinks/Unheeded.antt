-- What the channel keeps of the bytes of a link that is over does not matter.
use Rattle.std.proofs.Common.{◌≡◌, ◌==◌, ap, refl, subst, sym, ◌∙◌, true, false, List, [], Option, None, Some, ℕ, is_some, length}
use Rattle.std.specs.Option.{option_map}
use Rattle.channel_actions.proofs.Links.Frames.Differences.{no_difference}
use Rattle.channel_actions.specs.Agrees.{Agrees}
use Rattle.channel_actions.specs.Links.{HasLink}
use Rattle.attempt_cases.proofs.DrainEvents.Rooms.{one_some}
use Rattle.channel_core.proofs.BookLaws.{number_changed}
use Rattle.channel_core.proofs.Resting.{changed_length}
use Rattle.channel_core.specs.States.{StateSeen}
use Rattle.frame_cases.proofs.PassedBytes.Agreeing.{passed_bytes_keep}
use Rattle.frame_cases.proofs.PieceWalks.Slots.{others_coming}
use Rattle.frame_cases.specs.PassedBytes.Laws.{IsPassed}
use Rattle.frame_cases.specs.PieceWalks.Points.{coming, with_rest}
use Rattle.session_actions.specs.Words.{numbered}
use Rattle.session_actions.specs.declared.entry.OpenEntry.{OpenEntry}
use Rattle.session_actions.specs.declared.link.Link.{Link}
use Rattle.session_actions.specs.declared.seen.Seen.{Seen}

module _ (link : ℕ) (piece : List ℕ) (y : StateSeen) (o : OpenEntry) (s : Seen) (h : Agrees y s) (current : s.current ≡ Some o) (l : Link) (here : numbered s.links link ≡ Some l)
    (over : is_some l.over ≡ true) where
  abbrev z : StateSeen
  z = coming link piece y

  has_now : HasLink z s l link
  has_now =
      let old : HasLink y s l link = h.links.each link l here in
      record {
        slot = with_rest piece old.slot;
        there = number_changed (with_rest piece) y.links link ∙ ap (option_map (with_rest piece)) old.there;
        sees = record {
          over = old.sees.over;
          retiring = old.sees.retiring;
          going = λ none. absurd (let no : true ≡ false = sym over ∙ ap (λ (q : Option _). is_some q) none in (cc));
        };
      }

  passed : IsPassed link y z o o s s
  passed = record {
    state = ap (λ (rs : List ℕ). record y { links = z.links; resets = rs }) h.sets.resets;
    current = current;
    seen = ap (λ (c : Option OpenEntry). record s { current = c }) current;
    moment = refl;
    word = refl;
    drawn = refl;
    kept = h.kept;
    cannot = no_difference (λ (k : ℕ). link == k) s;
    slots = λ k e. others_coming link piece y k e;
    count = h.links.count ∙ sym (changed_length (with_rest piece) y.links link);
    came_same = λ c. refl;
    drained_same = λ a. refl;
    noted = h.columns.links;
    own = λ m got. subst (λ (k : Link). HasLink z s k link) (one_some l m (numbered s.links link) here got) has_now;
  }

  pub agrees_unheeded : Agrees (coming link piece y) s
  agrees_unheeded = passed_bytes_keep link y z o o s s h passed
