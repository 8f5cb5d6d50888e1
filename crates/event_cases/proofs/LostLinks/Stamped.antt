-- A link that is over is stamped as gone once: where channel and session agree, to stamp it again changes nothing.
use Rattle.std.proofs.Common.{◌≡◌, ◌&&◌, ◌||◌, ◌==◌, ap, refl, sym, ◌∙◌, not, Bool, true, false, List, Option, None, Some, ℕ, if◌then◌else◌, is_none, is_some}
use Rattle.std.proofs.lemmas.Bool.{eqb-false, eqb-true}
use Rattle.std.specs.List.{list_any}
use Rattle.std.specs.Option.{option_map}
use Rattle.attempt_ledger.specs.declared.ledger.LinkSeen.{LinkSeen}
use Rattle.call_actions.proofs.Ranks.{numbered_map}
use Rattle.channel_actions.specs.Columns.{links_noted}
use Rattle.call_cases.proofs.ConfiguredCalls.Lists.{same_numbered}
use Rattle.channel_core.proofs.BookLaws.{number_changed, number_other}
use Rattle.channel_core.specs.States.{StateSeen}
use Rattle.channel_core.specs.Steps as channel
use Rattle.channel_core.specs.Steps.{stamped_gone, with_ledger_links}
use Rattle.ledger_stamps.specs.Steps.{changed_at, gone_link}
use Rattle.session_actions.specs.Closing.{noted_gone}
use Rattle.session_actions.specs.Entries.{entry}
use Rattle.session_actions.specs.Links.{is_retiring}
use Rattle.session_actions.specs.Reading.{is_outstanding_on}
use Rattle.session_actions.specs.Refusals.{is_gone, is_shutdown_sub}
use Rattle.session_actions.specs.Sessions.{link_seen}
use Rattle.session_actions.specs.Words.{numbered}
use Rattle.session_actions.specs.declared.link.Link.{Link}
use Rattle.session_actions.specs.declared.seen.Seen.{Seen}

-- what is left as it was
form_by : (ls : List LinkSeen) (b : Bool) (z : StateSeen) → (if b then with_ledger_links ls z else z) ≡ with_ledger_links (if b then with_ledger_links ls z else z).book.ledger.links z
form_by ls true z = refl
form_by ls false z = refl

pub stamped_form : (link : ℕ) (z : StateSeen) → stamped_gone link z ≡ with_ledger_links (stamped_gone link z).book.ledger.links z
stamped_form link z = form_by (changed_at (gone_link z.book.ledger.entry) z.book.ledger.links link) (channel.is_gone link z) z

-- a link that is over is noted as gone
again_by : (e n : ℕ) (l : Link) (o : Option ℕ)
    → gone_link e (link_seen (if is_none o && true then record l { gone = Some n } else record l { gone = o }))
    ≡ link_seen (if is_none o && true then record l { gone = Some n } else record l { gone = o })
again_by e n l None = refl
again_by e n l (Some m) = refl

module _ (l : Link) (s : Seen) (over : is_some l.over ≡ true) where
  pub gone_now : is_gone l s ≡ true
  gone_now = ap (λ (b : Bool). b || ((is_retiring l || is_shutdown_sub s l.sub) && not (list_any (is_outstanding_on l) s.attempts))) over

  pub noted_again : (e : ℕ) → gone_link e (link_seen (noted_gone s l)) ≡ link_seen (noted_gone s l)
  noted_again e =
      ap (λ (b : Bool). gone_link e (link_seen (if is_none l.gone && b then record l { gone = Some (entry s) } else l))) gone_now
      ∙ again_by e (entry s) l l.gone
      ∙ sym (ap (λ (b : Bool). link_seen (if is_none l.gone && b then record l { gone = Some (entry s) } else l)) gone_now)

-- in the ledger
module _ (l : Link) (s : Seen) (ledger : List LinkSeen) (columns : links_noted s ≡ ledger) (n : ℕ) (at : numbered s.links n ≡ Some l) where
  pub seen_at : numbered ledger n ≡ Some (link_seen (noted_gone s l))
  seen_at =
      ap (λ (ls : List LinkSeen). numbered ls n) (sym columns) ∙ numbered_map (λ (k : Link). link_seen (noted_gone s k)) s.links n
      ∙ ap (option_map (λ (k : Link). link_seen (noted_gone s k))) at

  module _ (over : is_some l.over ≡ true) (e : ℕ) where
    same_at : (m : ℕ) (b : Bool) → (m == n) ≡ b → numbered (changed_at (gone_link e) ledger n) m ≡ numbered ledger m
    same_at m true is =
        let same : m ≡ n = eqb-true m n is in
        ap (numbered (changed_at (gone_link e) ledger n)) same ∙ number_changed (gone_link e) ledger n
        ∙ ap (option_map (gone_link e)) seen_at ∙ ap (λ (k : LinkSeen). Some k) (noted_again l s over e) ∙ sym seen_at
        ∙ ap (numbered ledger) (sym same)
    same_at m false is =
        number_other (gone_link e) ledger n m (eqb-false m n is)

    pub unchanged : changed_at (gone_link e) ledger n ≡ ledger
    unchanged = same_numbered (changed_at (gone_link e) ledger n) ledger (λ m. same_at m (m == n) refl)

stamp_if : (ls : List LinkSeen) (x : StateSeen) (b : Bool) → ls ≡ x.book.ledger.links → (if b then with_ledger_links ls x else x) ≡ x
stamp_if ls x true same = ap (λ (ks : List LinkSeen). with_ledger_links ks x) same
stamp_if ls x false same = refl

pub stamped_again : (l : Link) (x : StateSeen) (s : Seen) (n : ℕ) → links_noted s ≡ x.book.ledger.links → numbered s.links n ≡ Some l → is_some l.over ≡ true → stamped_gone n x ≡ x
stamped_again l x s n columns at over =
    stamp_if (changed_at (gone_link x.book.ledger.entry) x.book.ledger.links n) x (channel.is_gone n x)
    (unchanged l s x.book.ledger.links columns n at over x.book.ledger.entry)

-- how far a link was read stays
read_map : (e : ℕ) (o : Option LinkSeen) → channel.read_of (option_map (gone_link e) o) ≡ channel.read_of o
read_map e None = refl
read_map e (Some k) = refl

read_if : (e : ℕ) (ls : List LinkSeen) (n : ℕ) (x : StateSeen) (b : Bool) → ls ≡ x.book.ledger.links
    → channel.read_of (numbered (if b then with_ledger_links (changed_at (gone_link e) ls n) x else x).book.ledger.links n) ≡ channel.read_of (numbered x.book.ledger.links n)
read_if e ls n x true same =
    ap channel.read_of (number_changed (gone_link e) ls n) ∙ read_map e (numbered ls n) ∙ ap (λ (ks : List LinkSeen). channel.read_of (numbered ks n)) same
read_if e ls n x false same = refl

pub read_stays : (n : ℕ) (x : StateSeen) → channel.read_of (numbered (stamped_gone n x).book.ledger.links n) ≡ channel.read_of (numbered x.book.ledger.links n)
read_stays n x = read_if x.book.ledger.entry x.book.ledger.links n x (channel.is_gone n x) refl
