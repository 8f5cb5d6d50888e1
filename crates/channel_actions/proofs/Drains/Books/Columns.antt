-- The links in the ledger after a drain: what was written makes none gone, and is not read.
use Rattle.std.proofs.Common.{◌≡◌, ◌&&◌, ◌||◌, ◌+◌, ◌∷◌, ap, refl, subst, sym, ◌∙◌, Bool, true, false, List, [], Option, None, Some, ℕ, zero, suc, if◌then◌else◌, is_none, is_some, length, map, not, slice_get, slice_set}
use Rattle.std.specs.List.{list_any}
use Rattle.std.specs.Option.{option_map_or}
use Rattle.attempt_ledger.specs.declared.ledger.LinkSeen.{LinkSeen}
use Rattle.call_actions.proofs.Ranks.{any_map_all}
use Rattle.channel_actions.specs.Columns.{links_noted}
use Rattle.channel_actions.specs.DrainBooks.Laws.{LinkColumnsStay}
use Rattle.channel_actions.proofs.Drains.Calls.Streamed.{streamed_is}
use Rattle.channel_actions.specs.DrainWrites.Laws.{with_all_sent}
use Rattle.session_actions.specs.Closing.{noted_gone}
use Rattle.session_actions.specs.Entries.{entry}
use Rattle.session_actions.specs.Links.{is_retiring, read_bytes}
use Rattle.session_actions.specs.Reading.{is_outstanding_on}
use Rattle.session_actions.specs.Refusals.{is_gone, is_shutdown_sub}
use Rattle.session_actions.specs.Sessions.{link_seen}
use Rattle.session_actions.specs.Words.{changed, changed_if, last_of}
use Rattle.session_actions.specs.declared.entry.OpenEntry.{OpenEntry}
use Rattle.session_actions.specs.declared.link.Link.{Link}
use Rattle.session_actions.specs.declared.link.LinkOver.{LinkOver}
use Rattle.session_actions.specs.declared.link.ReadFrame.{ReadFrame}
use Rattle.session_actions.specs.declared.link.Sent.{Sent}
use Rattle.session_actions.specs.declared.seen.Seen.{Seen}
use Rattle.channel_actions.proofs.Streams.Opened.Responses.{read_same, retiring_same, with_sent}
use Rattle.channel_actions.proofs.Streams.Opened.Rows.{h, t}
use Rattle.channel_actions.proofs.Streams.Opened.Streams.{streams_of}

-- what of a link the ledger looks at
pub record IsSeenAlike (l m : Link) : Type 0 where
  pub number : m.number ≡ l.number
  pub sub : m.sub ≡ l.sub
  pub up : m.up ≡ l.up
  pub gone : m.gone ≡ l.gone
  pub over : m.over ≡ l.over
  pub retiring : is_retiring m ≡ is_retiring l
  pub read : read_bytes m ≡ read_bytes l

sent_alike : (sent : List Sent) (l : Link) → IsSeenAlike l (with_all_sent sent l)
sent_alike [] l = record { number = refl; sub = refl; up = refl; gone = refl; over = refl; retiring = refl; read = refl }
sent_alike (x ∷ sent) l =
    let rest : IsSeenAlike (with_sent x l) (with_all_sent sent (with_sent x l)) = sent_alike sent (with_sent x l) in
    record {
      number = rest.number;
      sub = rest.sub;
      up = rest.up;
      gone = rest.gone;
      over = rest.over;
      retiring = rest.retiring ∙ retiring_same x l;
      read = rest.read ∙ ap (λ (rs : List ReadFrame). option_map_or (λ (r : ReadFrame). r.end) (last_of rs) 0) (read_same x l);
    }

-- lists of which one thing changes unseen
map_set : {X Y : Type 0} (F : X → Y) (xs : List X) (i : ℕ) (x z : X) → slice_get xs i ≡ Some x → F z ≡ F x → map F (slice_set xs i z) ≡ map F xs
map_set F [] i x z e same = refl
map_set F (y ∷ xs) zero x z e same = let one : x ≡ y = (cc) in ap (λ (w : _). w ∷ map F xs) (same ∙ ap F one)
map_set F (y ∷ xs) (suc i) x z e same = ap (λ (l : List _). F y ∷ l) (map_set F xs i x z e same)

map_if : {X Y : Type 0} (F : X → Y) (f : X → X) → ((x : X) → F (f x) ≡ F x) → (i : ℕ) (xs : List X) (o : Option X) → slice_get xs i ≡ o → map F (changed_if f (suc i) xs o) ≡ map F xs
map_if F f same i xs None e = refl
map_if F f same i xs (Some x) e = map_set F xs i x (f x) e (same x)

map_changed : {X Y : Type 0} (F : X → Y) (f : X → X) → ((x : X) → F (f x) ≡ F x) → (n : ℕ) (xs : List X) → map F (changed f n xs) ≡ map F xs
map_changed F f same zero xs = refl
map_changed F f same (suc i) xs = map_if F f same i xs (slice_get xs i) refl

map_same : {X Y : Type 0} (f g : X → Y) → ((x : X) → f x ≡ g x) → (xs : List X) → map f xs ≡ map g xs
map_same f g same [] = refl
map_same f g same (x ∷ xs) = ap (λ (y : _). y ∷ map f xs) (same x) ∙ ap (λ (l : List _). g x ∷ l) (map_same f g same xs)

-- the stamp, by the fields that the ledger has
abbrev seen_with : ℕ → ℕ → Option ℕ → ℕ → Bool → ℕ → LinkSeen
seen_with sub up gone read stamps n = record { sub = sub; up = up; gone = if stamps then Some n else gone; read = read }

seen_by : (z : Seen) (l : Link) (b : Bool) → link_seen (if b then record l { gone = Some (entry z) } else l) ≡ seen_with l.sub l.up l.gone (read_bytes l) b (entry z)
seen_by z l true = refl
seen_by z l false = refl

seen_is : (z : Seen) (l : Link) → link_seen (noted_gone z l) ≡ seen_with l.sub l.up l.gone (read_bytes l) (is_none l.gone && is_gone l z) (entry z)
seen_is z l = seen_by z l (is_none l.gone && is_gone l z)

gone_alike : (z : Seen) (l m : Link) → IsSeenAlike l m → is_gone m z ≡ is_gone l z
gone_alike z l m is =
    ap (λ (o : Option LinkOver). is_some o || ((is_retiring m || is_shutdown_sub z m.sub) && not (list_any (is_outstanding_on m) z.attempts))) is.over
    ∙ ap (λ (b : Bool). is_some l.over || ((b || is_shutdown_sub z m.sub) && not (list_any (is_outstanding_on m) z.attempts))) is.retiring
    ∙ ap (λ (n : ℕ). is_some l.over || ((is_retiring l || is_shutdown_sub z n) && not (list_any (is_outstanding_on m) z.attempts))) is.sub
    ∙ ap (λ (n : ℕ). is_some l.over || ((is_retiring l || is_shutdown_sub z l.sub) && not (list_any (is_outstanding_on (record l { number = n })) z.attempts))) is.number

noted_alike : (z : Seen) (l m : Link) → IsSeenAlike l m → link_seen (noted_gone z m) ≡ link_seen (noted_gone z l)
noted_alike z l m is =
    seen_is z m ∙ ap (λ (n : ℕ). seen_with n m.up m.gone (read_bytes m) (is_none m.gone && is_gone m z) (entry z)) is.sub
    ∙ ap (λ (n : ℕ). seen_with l.sub n m.gone (read_bytes m) (is_none m.gone && is_gone m z) (entry z)) is.up
    ∙ ap (λ (o : Option ℕ). seen_with l.sub l.up o (read_bytes m) (is_none o && is_gone m z) (entry z)) is.gone
    ∙ ap (λ (n : ℕ). seen_with l.sub l.up l.gone n (is_none l.gone && is_gone m z) (entry z)) is.read
    ∙ ap (λ (b : Bool). seen_with l.sub l.up l.gone (read_bytes l) (is_none l.gone && b) (entry z)) (gone_alike z l m is) ∙ sym (seen_is z l)

-- in a session in which attempts have streams
module _ (s : Seen) (g : ℕ → Option ℕ) (ls : List Link) (current : Option OpenEntry) (open_ : is_some current ≡ is_some s.current) where
  abbrev u : Seen
  u = t s g ls current

  gone_same : (l : Link) → is_gone l u ≡ is_gone l s
  gone_same l =
      ap (λ (b : Bool). is_some l.over || ((is_retiring l || is_shutdown_sub s l.sub) && not b))
      (any_map_all (is_outstanding_on l) (is_outstanding_on l) (h s g ls current) (λ a. refl) s.attempts)

  entry_same : entry u ≡ entry s
  entry_same = ap (λ (b : Bool). length s.entries + (if b then 1 else 0)) open_

  seen_same : (l : Link) → link_seen (noted_gone u l) ≡ link_seen (noted_gone s l)
  seen_same l =
      seen_is u l ∙ ap (λ (b : Bool). seen_with l.sub l.up l.gone (read_bytes l) (is_none l.gone && b) (entry u)) (gone_same l)
      ∙ ap (seen_with l.sub l.up l.gone (read_bytes l) (is_none l.gone && is_gone l s)) entry_same ∙ sym (seen_is s l)

  pub links_so : (sent : List Sent) (link : ℕ) → ls ≡ changed (with_all_sent sent) link s.links → links_noted u ≡ links_noted s
  links_so sent link is =
      map_same (λ (l : Link). link_seen (noted_gone u l)) (λ (l : Link). link_seen (noted_gone s l)) seen_same ls
      ∙ ap (map (λ (l : Link). link_seen (noted_gone s l))) is
      ∙ map_changed (λ (l : Link). link_seen (noted_gone s l)) (with_all_sent sent) (λ l. noted_alike s l (with_all_sent sent l) (sent_alike sent l)) link s.links

pub link_columns_stay : LinkColumnsStay
link_columns_stay s t2 sent link places only is open_ =
    subst (λ (z : Seen). links_noted z ≡ links_noted s) (sym (streamed_is s t2 places only)) (links_so s (streams_of t2.attempts) t2.links t2.current open_ sent link is)
