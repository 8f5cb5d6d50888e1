-- The column of links in the ledger, where one link changed.
use Rattle.std.proofs.Common.{◌≡◌, ◌∷◌, ◌&&◌, ◌||◌, ap, refl, subst, sym, ◌∙◌, Bool, true, false, List, [], Option, None, Some, ℕ, suc, zero, if◌then◌else◌, is_none, is_some, length, map, nat_lt, not, arith}
use Rattle.std.proofs.lemmas.Bool.Decides.{nat_tests}
use Rattle.std.specs.List.{list_any}
use Rattle.std.specs.Option.{option_map, option_map_or}
use Rattle.std.specs.Prelude.{slice_get}
use Rattle.attempt_ledger.specs.declared.ledger.LinkSeen.{LinkSeen}
use Rattle.channel_actions.proofs.Settles.{with_open}
use Rattle.channel_actions.proofs.Stamps.{numbered_map}
use Rattle.channel_actions.specs.Columns.{links_noted}
use Rattle.ledger_stamps.specs.Steps as ledger
use Rattle.ledger_stamps.specs.Steps.{changed_at, read_link}
use Rattle.session_actions.specs.Closing.{noted_gone}
use Rattle.session_actions.specs.Entries.{entry}
use Rattle.session_actions.specs.Links.{is_retiring, read_bytes}
use Rattle.session_actions.specs.Reading.{is_outstanding_on}
use Rattle.session_actions.specs.Refusals.{is_gone, is_shutdown_sub}
use Rattle.session_actions.specs.Sessions.{link_seen}
use Rattle.session_actions.specs.Words.{changed, changed_if, numbered}
use Rattle.session_actions.specs.declared.entry.OpenEntry.{OpenEntry}
use Rattle.session_actions.specs.declared.link.Link.{Link}
use Rattle.session_actions.specs.declared.link.LinkOver.{LinkOver}
use Rattle.session_actions.specs.declared.seen.Seen.{Seen}

-- one thing of a list changes, and the others do not
changed_further : {X : Type 0} (f : X → X) (i : ℕ) (x : X) (xs : List X) (o : Option X) → changed_if f (suc (suc i)) (x ∷ xs) o ≡ x ∷ changed_if f (suc i) xs o
changed_further f i x xs None = refl
changed_further f i x xs (Some z) = refl

at_further : {Y : Type 0} (g : Y → Y) (i : ℕ) (y : Y) (ys : List Y) (b : Bool)
    → option_map_or (λ (k : ℕ). ledger.changed g (y ∷ ys) k) (if b then Some (suc i) else None) (y ∷ ys) ≡ y ∷ option_map_or (λ (k : ℕ). ledger.changed g ys k) (if b then Some i else None) ys
at_further g i y ys true = refl
at_further g i y ys false = refl

zero_less : (n : ℕ) → nat_lt 0 (suc n) ≡ true
zero_less n = grind (arith, nat_tests)

both_less : (i n : ℕ) → nat_lt (suc i) (suc n) ≡ nat_lt i n
both_less i n = grind (arith, nat_tests)

at_nil : {Y : Type 0} (g : Y → Y) (i : ℕ) (b : Bool) → option_map_or (λ (k : ℕ). ledger.changed g [] k) (if b then Some i else None) [] ≡ []
at_nil g i true = refl
at_nil g i false = refl

at_first : {Y : Type 0} (g : Y → Y) (y : Y) (ys : List Y) (b : Bool) → b ≡ true
    → option_map_or (λ (k : ℕ). ledger.changed g (y ∷ ys) k) (if b then Some 0 else None) (y ∷ ys) ≡ g y ∷ ys
at_first g y ys true e = refl
at_first g y ys false e = absurd (cc)

module _ {X Y : Type 0} (F G : X → Y) (f : X → X) (g : Y → Y) (same : (x : X) → F x ≡ G x) where
  all_same : (xs : List X) → map F xs ≡ map G xs
  all_same [] = refl
  all_same (x ∷ xs) = ap (λ (y : Y). y ∷ map F xs) (same x) ∙ ap (λ (ys : List Y). G x ∷ ys) (all_same xs)

  change_from : (i : ℕ) (xs : List X) → ((x : X) → slice_get xs i ≡ Some x → F (f x) ≡ g (G x))
      → map F (changed_if f (suc i) xs (slice_get xs i)) ≡ option_map_or (λ (k : ℕ). ledger.changed g (map G xs) k) (if nat_lt i (length (map G xs)) then Some i else None) (map G xs)
  change_from zero [] own = sym (at_nil g 0 (nat_lt 0 0))
  change_from (suc i) [] own = sym (at_nil g (suc i) (nat_lt (suc i) 0))
  change_from zero (x ∷ xs) own =
      ap (λ (y : Y). y ∷ map F xs) (own x refl) ∙ ap (λ (ys : List Y). g (G x) ∷ ys) (all_same xs)
      ∙ sym (at_first g (G x) (map G xs) (nat_lt 0 (length (map G (x ∷ xs)))) (zero_less (length (map G xs))))
  change_from (suc i) (x ∷ xs) own =
      ap (map F) (changed_further f i x xs (slice_get xs i)) ∙ ap (λ (y : Y). y ∷ map F (changed_if f (suc i) xs (slice_get xs i))) (same x)
      ∙ ap (λ (ys : List Y). G x ∷ ys) (change_from i xs own) ∙ sym (at_further g i (G x) (map G xs) (nat_lt i (length (map G xs))))
      ∙ ap (λ (b : Bool). option_map_or (λ (k : ℕ). ledger.changed g (G x ∷ map G xs) k) (if b then Some (suc i) else None) (G x ∷ map G xs)) (sym (both_less i (length (map G xs))))

  pub change_at : (n : ℕ) (xs : List X) → ((x : X) → numbered xs n ≡ Some x → F (f x) ≡ g (G x)) → map F (changed f n xs) ≡ changed_at g (map G xs) n
  change_at zero xs own = all_same xs
  change_at (suc i) xs own = change_from i xs own

-- what changes nothing at its place
unchanged_in : {Y : Type 0} (g : Y → Y) (i : ℕ) (ys : List Y) → ((y : Y) → slice_get ys i ≡ Some y → g y ≡ y) → ledger.changed g ys i ≡ ys
unchanged_in g i [] still = refl
unchanged_in g zero (y ∷ ys) still = ap (λ (z : _). z ∷ ys) (still y refl)
unchanged_in g (suc i) (y ∷ ys) still = ap (λ (zs : List _). y ∷ zs) (unchanged_in g i ys still)

unchanged_if : {Y : Type 0} (g : Y → Y) (i : ℕ) (ys : List Y) (b : Bool) → ((y : Y) → slice_get ys i ≡ Some y → g y ≡ y)
    → option_map_or (λ (k : ℕ). ledger.changed g ys k) (if b then Some i else None) ys ≡ ys
unchanged_if g i ys true still = unchanged_in g i ys still
unchanged_if g i ys false still = refl

pub unchanged_at : {Y : Type 0} (g : Y → Y) (n : ℕ) (ys : List Y) → ((y : Y) → numbered ys n ≡ Some y → g y ≡ y) → changed_at g ys n ≡ ys
unchanged_at g zero ys still = refl
unchanged_at g (suc i) ys still = unchanged_if g i ys (nat_lt i (length ys)) still

-- a link that was read further, or of which more came, is gone only if it was
pub record IsReadOn (l m : Link) (end : ℕ) : Type 0 where
  pub number : m.number ≡ l.number
  pub sub : m.sub ≡ l.sub
  pub up : m.up ≡ l.up
  pub gone : m.gone ≡ l.gone
  pub over : m.over ≡ l.over
  pub retiring : is_retiring m ≡ is_retiring l
  pub read : read_bytes m ≡ end

abbrev seen_with : ℕ → ℕ → Option ℕ → ℕ → Bool → ℕ → LinkSeen
seen_with sub up gone read stamps n = record { sub = sub; up = up; gone = if stamps then Some n else gone; read = read }

seen_by : (z : Seen) (l : Link) (b : Bool) → link_seen (if b then record l { gone = Some (entry z) } else l) ≡ seen_with l.sub l.up l.gone (read_bytes l) b (entry z)
seen_by z l true = refl
seen_by z l false = refl

seen_is : (z : Seen) (l : Link) → link_seen (noted_gone z l) ≡ seen_with l.sub l.up l.gone (read_bytes l) (is_none l.gone && is_gone l z) (entry z)
seen_is z l = seen_by z l (is_none l.gone && is_gone l z)

gone_alike : (z : Seen) (l m : Link) (end : ℕ) → IsReadOn l m end → is_gone m z ≡ is_gone l z
gone_alike z l m end is =
    ap (λ (o : Option LinkOver). is_some o || ((is_retiring m || is_shutdown_sub z m.sub) && not (list_any (is_outstanding_on m) z.attempts))) is.over
    ∙ ap (λ (b : Bool). is_some l.over || ((b || is_shutdown_sub z m.sub) && not (list_any (is_outstanding_on m) z.attempts))) is.retiring
    ∙ ap (λ (n : ℕ). is_some l.over || ((is_retiring l || is_shutdown_sub z n) && not (list_any (is_outstanding_on m) z.attempts))) is.sub
    ∙ ap (λ (n : ℕ). is_some l.over || ((is_retiring l || is_shutdown_sub z l.sub) && not (list_any (is_outstanding_on (record l { number = n })) z.attempts))) is.number

read_seen : (z : Seen) (l m : Link) (end : ℕ) → IsReadOn l m end → link_seen (noted_gone z m) ≡ read_link end (link_seen (noted_gone z l))
read_seen z l m end is =
    seen_is z m ∙ ap (λ (n : ℕ). seen_with n m.up m.gone (read_bytes m) (is_none m.gone && is_gone m z) (entry z)) is.sub
    ∙ ap (λ (n : ℕ). seen_with l.sub n m.gone (read_bytes m) (is_none m.gone && is_gone m z) (entry z)) is.up
    ∙ ap (λ (o : Option ℕ). seen_with l.sub l.up o (read_bytes m) (is_none o && is_gone m z) (entry z)) is.gone
    ∙ ap (λ (n : ℕ). seen_with l.sub l.up l.gone n (is_none l.gone && is_gone m z) (entry z)) is.read
    ∙ ap (λ (b : Bool). seen_with l.sub l.up l.gone end (is_none l.gone && b) (entry z)) (gone_alike z l m end is)
    ∙ ap (read_link end) (sym (seen_is z l))

module _ (o p : OpenEntry) (z : Seen) (f : Link → Link) (n end : ℕ) (l : Link) (here : numbered z.links n ≡ Some l) (is : IsReadOn l (f l) end) where
  abbrev s : Seen
  s = with_open o z

  abbrev t : Seen
  t = record z { links = changed f n z.links; current = Some p }

  own_seen : (k : Link) → numbered z.links n ≡ Some k → link_seen (noted_gone t (f k)) ≡ read_link end (link_seen (noted_gone s k))
  own_seen k got =
      let same : l ≡ k = (let both : Some l ≡ Some k = sym here ∙ got in (cc)) in
      read_seen s k (f k) end (subst (λ (q : Link). IsReadOn q (f q) end) same is)

  pub noted_read : links_noted t ≡ changed_at (read_link end) (links_noted s) n
  noted_read =
      change_at (λ (k : Link). link_seen (noted_gone t k)) (λ (k : Link). link_seen (noted_gone s k)) f (read_link end) (λ k. refl) n z.links own_seen

-- how far a link was read stands in the column, stamped or not
reads_by : (z : Seen) (l : Link) (b : Bool) → (link_seen (if b then record l { gone = Some (entry z) } else l)).read ≡ read_bytes l
reads_by z l true = refl
reads_by z l false = refl

pub reread : (link n : ℕ) (s : Seen) (columns : List LinkSeen) (l : Link) → numbered s.links link ≡ Some l → links_noted s ≡ columns → n ≡ read_bytes l
    → changed_at (read_link n) columns link ≡ columns
reread link n s columns l here noted same =
    unchanged_at (read_link n) link columns
    (λ q got.
    let seen : numbered (links_noted s) link ≡ Some (link_seen (noted_gone s l))
    = numbered_map (λ (k : Link). link_seen (noted_gone s k)) s.links link ∙ ap (option_map (λ (k : Link). link_seen (noted_gone s k))) here in
    let both : Some q ≡ Some (link_seen (noted_gone s l)) = sym got ∙ ap (λ (ks : List LinkSeen). numbered ks link) (sym noted) ∙ seen in
    let one : q ≡ link_seen (noted_gone s l) = (cc) in
    ap (λ (m : ℕ). read_link m q) (same ∙ sym (reads_by s l (is_none l.gone && is_gone l s)) ∙ sym (ap (λ (k : LinkSeen). k.read) one)))

module _ (o p : OpenEntry) (z : Seen) (f : Link → Link) (n : ℕ) (l : Link) (here : numbered z.links n ≡ Some l) (is : IsReadOn l (f l) (read_bytes l)) where
  pub noted_unread : links_noted (record z { links = changed f n z.links; current = Some p }) ≡ links_noted (with_open o z)
  noted_unread =
      noted_read o p z f n (read_bytes l) l here is
      ∙ reread n (read_bytes l) (with_open o z) (links_noted (with_open o z)) l here refl refl
