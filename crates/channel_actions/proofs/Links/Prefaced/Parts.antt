-- What is kept of attempts, subchannels and the last pick request beside links on which SETTINGS came, said of their lists alone, so that each may change by itself.
use Rattle.attempt_ledger.specs.declared.ledger.Ask.{Ask}
use Rattle.attempt_ledger.specs.declared.row.Placed.{Placed}
use Rattle.grpc_base.specs.declared.event.Entry.{Entry}
use Rattle.grpc_base.specs.declared.event.Reply.{Reply}
use Rattle.grpc_base.specs.declared.kind.Pick.TheVariants as pick
use Rattle.grpc_base.specs.declared.kind.Pick.{Pick}
use Rattle.channel_actions.proofs.KeptSessions.Lists.{all_changed, all_more, all_wide, get_more, last_more}
use Rattle.channel_actions.proofs.KeptSessions.Sound.{is_place, is_placing, is_placing_ask}
use Rattle.channel_actions.proofs.KeptSessions.Whole.{entry_stays, picks_at}
use Rattle.channel_actions.specs.PrefacedLinks.Prefaced.{has_preface, has_preface_come, is_prefaced_ask, is_on_prefaced, is_ready_prefaced, names_prefaced}
use Rattle.lb_policy.specs.Table.{is_ready}
use Rattle.session_actions.specs.Entries.{entry, replied, with_entry}
use Rattle.session_actions.specs.Links.{has_settings}
use Rattle.session_actions.specs.Policies.{is_unfollowed}
use Rattle.session_actions.specs.Words.{changed, holds, last_of, numbered}
use Rattle.session_actions.specs.declared.attempt.Attempt.{Attempt}
use Rattle.session_actions.specs.declared.entry.OpenEntry.{OpenEntry}
use Rattle.session_actions.specs.declared.entry.Stage.TheVariants as stage
use Rattle.session_actions.specs.declared.link.Link.{Link}
use Rattle.session_actions.specs.declared.seen.Seen.{Seen}
use Rattle.session_actions.specs.declared.subchannel.Subchannel.{Subchannel}
use Rattle.session_order.proofs.Changed.{changed_away, changed_map}
use Rattle.std.proofs.Common.{Bool, List, None, Option, Some, [], ap, eqb-true, false, if◌then◌else◌, is_some, length, map, not, option_map, refl, slice_get, subst, suc, sym, true, zero, ℕ, ◌&&◌, ◌++◌, ◌+◌, ◌==◌, ◌||◌, ◌∙◌, ◌∷◌, ◌≡◌}
use Rattle.std.proofs.lemmas.Bool.{and_from, eqb-false}
use Rattle.std.specs.List.{list_all}
use Rattle.std.specs.Option.{option_map_or}

pub record PrefacedOf (attempts : List Attempt) (asks : List Ask) (subs : List Subchannel) (links : List Link) (n : ℕ) : Type 0 where
  pub placed : list_all (is_on_prefaced links) attempts ≡ true
  pub ready : list_all (is_ready_prefaced links) subs ≡ true
  pub picked : option_map_or (is_prefaced_ask attempts subs links n) (last_of asks) true ≡ true

abbrev pub Prefaced : Seen → Type 0
Prefaced s = PrefacedOf s.attempts s.asks s.subs s.links (entry s)

-- a session of which nothing of this changed, and the entry that is open
pub beside : (s t : Seen) → t.attempts ≡ s.attempts → t.asks ≡ s.asks → t.subs ≡ s.subs → t.links ≡ s.links → entry t ≡ entry s → Prefaced s → Prefaced t
beside s t b c d e f h =
    subst (λ (z : List Attempt). PrefacedOf z t.asks t.subs t.links (entry t)) (sym b)
    (subst (λ (z : List Ask). PrefacedOf s.attempts z t.subs t.links (entry t)) (sym c)
    (subst (λ (z : List Subchannel). PrefacedOf s.attempts s.asks z t.links (entry t)) (sym d)
    (subst (λ (z : List Link). PrefacedOf s.attempts s.asks s.subs z (entry t)) (sym e)
    (subst (λ (z : ℕ). PrefacedOf s.attempts s.asks s.subs s.links z) (sym f) h))))

pub plain : (s t : Seen) → t.attempts ≡ s.attempts → t.asks ≡ s.asks → t.subs ≡ s.subs → t.links ≡ s.links → t.current ≡ s.current → t.entries ≡ s.entries
    → Prefaced s → Prefaced t
plain s t b c d e f g h =
    beside s t b c d e
    (ap (λ (x : Option OpenEntry). length t.entries + (if is_some x then 1 else 0)) f ∙ ap (λ (x : List Entry). length x + (if is_some s.current then 1 else 0)) g) h

pub entered : (f : OpenEntry → OpenEntry) (s : Seen) → Prefaced s → Prefaced (with_entry f s)
entered f s h = beside s (with_entry f s) refl refl refl refl (entry_stays f s) h

pub replied_now : (r : Reply) (s : Seen) → Prefaced s → Prefaced (replied r s)
replied_now r s h = entered (λ (o : OpenEntry). record o { stage = stage.Replied; reply = Some r }) s h

-- an answer that is to be acted on only where it is good
or_wide : (x y z : Bool) → (y ≡ true → z ≡ true) → (x || y) ≡ true → (x || z) ≡ true
or_wide true y z wide e = refl
or_wide false y z wide e = wide e

pub ask_wide : (w h g : Bool) → (h ≡ true → g ≡ true) → (o : Option Attempt) → holds (λ (a : Attempt). not (is_unfollowed a && w) || h) o ≡ true
    → holds (λ (a : Attempt). not (is_unfollowed a && w) || g) o ≡ true
ask_wide w h g wide None e = absurd (cc)
ask_wide w h g wide (Some a) e = or_wide (not (is_unfollowed a && w)) h g wide e

-- links: those on which SETTINGS came stay so
abbrev pub Prefaces : List Link → List Link → Type 0
Prefaces links lines = (k : ℕ) → has_preface_come links k ≡ true → has_preface_come lines k ≡ true

at_later : (links lines : List Link) → Prefaces links lines → (o : Option Placed) → option_map_or (λ (at : Placed). has_preface_come links at.link) o true ≡ true
    → option_map_or (λ (at : Placed). has_preface_come lines at.link) o true ≡ true
at_later links lines more None e = refl
at_later links lines more (Some at) e = more at.link e

has_later : (links lines : List Link) → Prefaces links lines → (o : Option ℕ) → holds (has_preface_come links) o ≡ true → holds (has_preface_come lines) o ≡ true
has_later links lines more None e = absurd (cc)
has_later links lines more (Some k) e = more k e

sub_later : (links lines : List Link) → Prefaces links lines → (o : Option Subchannel) → holds (has_preface links) o ≡ true → holds (has_preface lines) o ≡ true
sub_later links lines more None e = absurd (cc)
sub_later links lines more (Some b) e = has_later links lines more b.link e

names_later : (links lines : List Link) → Prefaces links lines → (subs : List Subchannel) (p : Pick) → names_prefaced links subs p ≡ true → names_prefaced lines subs p ≡ true
names_later links lines more subs (pick.Place sub) e = sub_later links lines more (numbered subs sub) e
names_later links lines more subs pick.Fail e = refl
names_later links lines more subs pick.Wait e = refl

pub links_now : (s : Seen) (lines : List Link) → Prefaces s.links lines → Prefaced s → Prefaced (record s { links = lines })
links_now s lines more h = record {
  placed = all_wide (is_on_prefaced s.links) (is_on_prefaced lines) (λ a e. at_later s.links lines more a.row.placed e) s.attempts h.placed;
  ready = all_wide (is_ready_prefaced s.links) (is_ready_prefaced lines)
      (λ b e. or_wide (not (is_ready b.state)) (has_preface s.links b) (has_preface lines b) (has_later s.links lines more b.link) e) s.subs h.ready;
  picked = picks_at (is_prefaced_ask s.attempts s.subs s.links (entry s)) (is_prefaced_ask s.attempts s.subs lines (entry s)) (last_of s.asks)
      (λ ask got e.
      ask_wide (ask.entry == entry s) (names_prefaced s.links s.subs ask.answer) (names_prefaced lines s.subs ask.answer) (names_later s.links lines more s.subs ask.answer)
      (numbered s.attempts ask.row) e)
      h.picked;
}

one_later : (f : Link → Link) → ((l : Link) → has_settings l ≡ true → has_settings (f l) ≡ true) → (o : Option Link) → holds has_settings o ≡ true
    → holds has_settings (option_map f o) ≡ true
one_later f keeps None e = absurd (cc)
one_later f keeps (Some l) e = keeps l e

changed_at : (f : Link → Link) → ((l : Link) → has_settings l ≡ true → has_settings (f l) ≡ true) → (n k : ℕ) (links : List Link) (b : Bool) → (k == n) ≡ b
    → has_preface_come links k ≡ true → has_preface_come (changed f n links) k ≡ true
changed_at f keeps n k links true same e =
    let here : k ≡ n = eqb-true k n same in
    ap (has_preface_come (changed f n links)) here ∙ ap (holds has_settings) (changed_map f n links) ∙ one_later f keeps (numbered links n) (sym (ap (has_preface_come links) here) ∙ e)
changed_at f keeps n k links false same e = ap (holds has_settings) (changed_away f n k links (eqb-false k n same)) ∙ e

pub link_now : (f : Link → Link) (n : ℕ) (s : Seen) → ((l : Link) → has_settings l ≡ true → has_settings (f l) ≡ true) → Prefaced s
    → Prefaced (record s { links = changed f n s.links })
link_now f n s keeps h = links_now s (changed f n s.links) (λ k e. changed_at f keeps n k s.links (k == n) refl e) h

more_at : (links ls : List Link) (k : ℕ) (o : Option Link) → numbered links k ≡ o → holds has_settings o ≡ true → has_preface_come (links ++ ls) k ≡ true
more_at links ls k None got e = absurd (cc)
more_at links ls zero (Some l) got e = absurd (cc)
more_at links ls (suc i) (Some l) got e = ap (holds has_settings) (get_more links ls i l got) ∙ e

pub links_more : (l : Link) (s : Seen) → Prefaced s → Prefaced (record s { links = s.links ++ l ∷ [] })
links_more l s h = links_now s (s.links ++ l ∷ []) (λ k e. more_at s.links (l ∷ []) k (numbered s.links k) refl e) h

map_at : (f : Link → Link) → ((l : Link) → has_settings l ≡ true → has_settings (f l) ≡ true) → (links : List Link) (i : ℕ)
    → holds has_settings (slice_get links i) ≡ true → holds has_settings (slice_get (map f links) i) ≡ true
map_at f keeps [] i e = absurd (cc)
map_at f keeps (l ∷ links) zero e = keeps l e
map_at f keeps (l ∷ links) (suc i) e = map_at f keeps links i e

mapped_prefaces : (f : Link → Link) → ((l : Link) → has_settings l ≡ true → has_settings (f l) ≡ true) → (links : List Link) → Prefaces links (map f links)
mapped_prefaces f keeps links zero e = absurd (cc)
mapped_prefaces f keeps links (suc i) e = map_at f keeps links i e

pub links_mapped : (f : Link → Link) (s : Seen) → ((l : Link) → has_settings l ≡ true → has_settings (f l) ≡ true) → Prefaced s → Prefaced (record s { links = map f s.links })
links_mapped f s keeps h = links_now s (map f s.links) (mapped_prefaces f keeps s.links) h

-- attempts: one changes, and waits for its pick only if it did before
module _ (w h : Bool) where
  abbrev answers : Attempt → Bool
  answers a = not (is_unfollowed a && w) || h

  answers_by : (u v : Bool) → (v ≡ true → u ≡ true) → (not (u && w) || h) ≡ true → (not (v && w) || h) ≡ true
  answers_by u false less e = refl
  answers_by true true less e = e
  answers_by false true less e = let no : false ≡ true = less refl in absurd (cc)

  of_changed : (f : Attempt → Attempt) (o : Option Attempt) → ((a : Attempt) → is_unfollowed (f a) ≡ true → is_unfollowed a ≡ true) → holds answers o ≡ true
      → holds answers (option_map f o) ≡ true
  of_changed f None less e = e
  of_changed f (Some a) less e = answers_by (is_unfollowed a) (is_unfollowed (f a)) (less a) e

  asked_at : (f : Attempt → Attempt) (place row : ℕ) (xs : List Attempt) → ((a : Attempt) → is_unfollowed (f a) ≡ true → is_unfollowed a ≡ true) → (b : Bool)
      → (row == place) ≡ b → holds answers (numbered xs row) ≡ true → holds answers (numbered (changed f place xs) row) ≡ true
  asked_at f place row xs less true same e =
      let here : row ≡ place = eqb-true row place same in
      ap (λ (k : ℕ). holds answers (numbered (changed f place xs) k)) here ∙ ap (holds answers) (changed_map f place xs)
      ∙ of_changed f (numbered xs place) less (sym (ap (λ (k : ℕ). holds answers (numbered xs k)) here) ∙ e)
  asked_at f place row xs less false same e = ap (holds answers) (changed_away f place row xs (eqb-false row place same)) ∙ e

  pub asked_changed : (f : Attempt → Attempt) (place row : ℕ) (xs : List Attempt) → ((a : Attempt) → is_unfollowed (f a) ≡ true → is_unfollowed a ≡ true)
      → holds answers (numbered xs row) ≡ true → holds answers (numbered (changed f place xs) row) ≡ true
  asked_changed f place row xs less e = asked_at f place row xs less (row == place) refl e

  more_by : (xs ys : List Attempt) (k : ℕ) (o : Option Attempt) → numbered xs k ≡ o → holds answers o ≡ true → holds answers (numbered (xs ++ ys) k) ≡ true
  more_by xs ys k None got e = absurd (cc)
  more_by xs ys zero (Some a) got e = absurd (cc)
  more_by xs ys (suc i) (Some a) got e = ap (holds answers) (get_more xs ys i a got) ∙ e

  pub asked_more : (xs ys : List Attempt) (row : ℕ) → holds answers (numbered xs row) ≡ true → holds answers (numbered (xs ++ ys) row) ≡ true
  asked_more xs ys row e = more_by xs ys row (numbered xs row) refl e

pub attempt_now : (f : Attempt → Attempt) (place : ℕ) (s : Seen)
    → ((a : Attempt) → is_on_prefaced s.links a ≡ true → is_on_prefaced s.links (f a) ≡ true) → ((a : Attempt) → is_unfollowed (f a) ≡ true → is_unfollowed a ≡ true)
    → Prefaced s → Prefaced (record s { attempts = changed f place s.attempts })
attempt_now f place s sound less h = record {
  placed = all_changed (is_on_prefaced s.links) f place s.attempts h.placed (λ a got e. sound a e);
  ready = h.ready;
  picked = picks_at (is_prefaced_ask s.attempts s.subs s.links (entry s)) (is_prefaced_ask (changed f place s.attempts) s.subs s.links (entry s)) (last_of s.asks)
      (λ ask got e. asked_changed (ask.entry == entry s) (names_prefaced s.links s.subs ask.answer) f place ask.row s.attempts less e) h.picked;
}

pub attempts_more : (a : Attempt) (s : Seen) → is_on_prefaced s.links a ≡ true → Prefaced s → Prefaced (record s { attempts = s.attempts ++ a ∷ [] })
attempts_more a s sound h = record {
  placed = all_more (is_on_prefaced s.links) s.attempts (a ∷ []) h.placed (and_from (is_on_prefaced s.links a) true sound refl);
  ready = h.ready;
  picked = picks_at (is_prefaced_ask s.attempts s.subs s.links (entry s)) (is_prefaced_ask (s.attempts ++ a ∷ []) s.subs s.links (entry s)) (last_of s.asks)
      (λ ask got e. asked_more (ask.entry == entry s) (names_prefaced s.links s.subs ask.answer) s.attempts (a ∷ []) ask.row e) h.picked;
}

-- pick requests: one more
pub asks_more : (ask : Ask) (s : Seen) → is_prefaced_ask s.attempts s.subs s.links (entry s) ask ≡ true → Prefaced s → Prefaced (record s { asks = s.asks ++ ask ∷ [] })
asks_more ask s sound h = record {
  placed = h.placed;
  ready = h.ready;
  picked = ap (λ (o : Option Ask). option_map_or (is_prefaced_ask s.attempts s.subs s.links (entry s)) o true) (last_more s.asks ask) ∙ sound;
}

-- subchannels: one changes, or one more
sub_now : (f : Subchannel → Subchannel) (n : ℕ) (s : Seen)
    → ((b : Subchannel) → numbered s.subs n ≡ Some b → is_ready_prefaced s.links b ≡ true → is_ready_prefaced s.links (f b) ≡ true)
    → ((ask : Ask) → last_of s.asks ≡ Some ask → is_prefaced_ask s.attempts s.subs s.links (entry s) ask ≡ true
    → is_prefaced_ask s.attempts (changed f n s.subs) s.links (entry s) ask ≡ true)
    → Prefaced s → Prefaced (record s { subs = changed f n s.subs })
sub_now f n s sound picks h = record {
  placed = h.placed;
  ready = all_changed (is_ready_prefaced s.links) f n s.subs h.ready sound;
  picked = picks_at (is_prefaced_ask s.attempts s.subs s.links (entry s)) (is_prefaced_ask s.attempts (changed f n s.subs) s.links (entry s)) (last_of s.asks) picks h.picked;
}

-- one that had such a link still has one
module _ (links : List Link) (f : Subchannel → Subchannel) (n : ℕ) (subs : List Subchannel)
    (keeps : (b : Subchannel) → numbered subs n ≡ Some b → has_preface links b ≡ true → has_preface links (f b) ≡ true) where
  kept_by : (o : Option Subchannel) → numbered subs n ≡ o → holds (has_preface links) o ≡ true → holds (has_preface links) (option_map f o) ≡ true
  kept_by None got e = absurd (cc)
  kept_by (Some b) got e = keeps b got e

  kept_at : (k : ℕ) (b : Bool) → (k == n) ≡ b → holds (has_preface links) (numbered subs k) ≡ true → holds (has_preface links) (numbered (changed f n subs) k) ≡ true
  kept_at k true same e =
      let here : k ≡ n = eqb-true k n same in
      ap (λ (j : ℕ). holds (has_preface links) (numbered (changed f n subs) j)) here ∙ ap (holds (has_preface links)) (changed_map f n subs)
      ∙ kept_by (numbered subs n) refl (sym (ap (λ (j : ℕ). holds (has_preface links) (numbered subs j)) here) ∙ e)
  kept_at k false same e = ap (holds (has_preface links)) (changed_away f n k subs (eqb-false k n same)) ∙ e

  pub names_kept : (p : Pick) → names_prefaced links subs p ≡ true → names_prefaced links (changed f n subs) p ≡ true
  names_kept (pick.Place sub) e = kept_at sub (sub == n) refl e
  names_kept pick.Fail e = refl
  names_kept pick.Wait e = refl

pub sub_kept : (f : Subchannel → Subchannel) (n : ℕ) (s : Seen)
    → ((b : Subchannel) → numbered s.subs n ≡ Some b → is_ready_prefaced s.links b ≡ true → is_ready_prefaced s.links (f b) ≡ true)
    → ((b : Subchannel) → numbered s.subs n ≡ Some b → has_preface s.links b ≡ true → has_preface s.links (f b) ≡ true) → Prefaced s
    → Prefaced (record s { subs = changed f n s.subs })
sub_kept f n s sound keeps h =
    sub_now f n s sound
    (λ ask got e.
    ask_wide (ask.entry == entry s) (names_prefaced s.links s.subs ask.answer) (names_prefaced s.links (changed f n s.subs) ask.answer)
    (names_kept s.links f n s.subs keeps ask.answer) (numbered s.attempts ask.row) e)
    h

-- or no answer is still to be acted on that names one
free_by : (links : List Link) (subs boards : List Subchannel) (u : Bool) (p : Pick) → (u && is_place p) ≡ false → (not u || names_prefaced links subs p) ≡ true
    → (not u || names_prefaced links boards p) ≡ true
free_by links subs boards false p none e = refl
free_by links subs boards true (pick.Place sub) none e = absurd (cc)
free_by links subs boards true pick.Fail none e = refl
free_by links subs boards true pick.Wait none e = refl

ask_free : (links : List Link) (subs boards : List Subchannel) (n : ℕ) (ask : Ask) (o : Option Attempt)
    → (holds (λ (a : Attempt). is_unfollowed a && (ask.entry == n)) o && is_place ask.answer) ≡ false
    → holds (λ (a : Attempt). not (is_unfollowed a && (ask.entry == n)) || names_prefaced links subs ask.answer) o ≡ true
    → holds (λ (a : Attempt). not (is_unfollowed a && (ask.entry == n)) || names_prefaced links boards ask.answer) o ≡ true
ask_free links subs boards n ask None none e = absurd (cc)
ask_free links subs boards n ask (Some a) none e = free_by links subs boards (is_unfollowed a && (ask.entry == n)) ask.answer none e

pub sub_unplaced : (f : Subchannel → Subchannel) (n : ℕ) (s : Seen) → ((b : Subchannel) → is_ready_prefaced s.links (f b) ≡ true) → is_placing s ≡ false → Prefaced s
    → Prefaced (record s { subs = changed f n s.subs })
sub_unplaced f n s sound none h =
    sub_now f n s (λ b got ok. sound b)
    (λ ask got e.
    ask_free s.links s.subs (changed f n s.subs) (entry s) ask (numbered s.attempts ask.row)
    (sym (ap (λ (o : Option Ask). option_map_or (is_placing_ask s) o false) got) ∙ none) e) h

there_more : (links : List Link) (xs ys : List Subchannel) (k : ℕ) (o : Option Subchannel) → numbered xs k ≡ o → holds (has_preface links) o ≡ true
    → holds (has_preface links) (numbered (xs ++ ys) k) ≡ true
there_more links xs ys k None got e = absurd (cc)
there_more links xs ys zero (Some b) got e = absurd (cc)
there_more links xs ys (suc i) (Some b) got e = ap (holds (has_preface links)) (get_more xs ys i b got) ∙ e

names_more : (links : List Link) (xs ys : List Subchannel) (p : Pick) → names_prefaced links xs p ≡ true → names_prefaced links (xs ++ ys) p ≡ true
names_more links xs ys (pick.Place sub) e = there_more links xs ys sub (numbered xs sub) refl e
names_more links xs ys pick.Fail e = refl
names_more links xs ys pick.Wait e = refl

pub subs_more : (b : Subchannel) (s : Seen) → is_ready_prefaced s.links b ≡ true → Prefaced s → Prefaced (record s { subs = s.subs ++ b ∷ [] })
subs_more b s sound h = record {
  placed = h.placed;
  ready = all_more (is_ready_prefaced s.links) s.subs (b ∷ []) h.ready (and_from (is_ready_prefaced s.links b) true sound refl);
  picked = picks_at (is_prefaced_ask s.attempts s.subs s.links (entry s)) (is_prefaced_ask s.attempts (s.subs ++ b ∷ []) s.links (entry s)) (last_of s.asks)
      (λ ask got e.
      ask_wide (ask.entry == entry s) (names_prefaced s.links s.subs ask.answer) (names_prefaced s.links (s.subs ++ b ∷ []) ask.answer)
      (names_more s.links s.subs (b ∷ []) ask.answer) (numbered s.attempts ask.row) e)
      h.picked;
}
