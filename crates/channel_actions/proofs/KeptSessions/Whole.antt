-- What `IsKept` says of attempts, links, subchannels and pick requests, said of their lists alone, so that each may change by itself.
use Rattle.attempt_ledger.specs.declared.ledger.Ask.{Ask}
use Rattle.attempt_ledger.specs.declared.row.Placed.{Placed}
use Rattle.attempt_ledger.specs.declared.row.RowEnd.{RowEnd}
use Rattle.grpc_base.specs.declared.kind.Pick.TheVariants as pick
use Rattle.grpc_base.specs.declared.kind.Pick.{Pick}
use Rattle.channel_actions.proofs.KeptSessions.Lists.{Grows, all_changed, all_mapped, all_more, all_wide, changed_grows, get_more, grows_not, last_more, mapped_grows, more_grows}
use Rattle.channel_actions.proofs.KeptSessions.Sound.{is_place, is_placing, is_placing_ask}
use Rattle.channel_actions.specs.KeptSessions.Kept.{has_link_for}
use Rattle.lb_policy.specs.Table.{is_ready}
use Rattle.session_actions.specs.Entries.{entry, with_entry}
use Rattle.session_actions.specs.Policies.{is_unfollowed}
use Rattle.session_actions.specs.Words.{changed, holds, is_number, last_of, numbered}
use Rattle.session_actions.specs.Writing.{is_control}
use Rattle.session_actions.specs.declared.attempt.Attempt.{Attempt}
use Rattle.session_actions.specs.declared.call.Call.{Call}
use Rattle.session_actions.specs.declared.entry.OpenEntry.{OpenEntry}
use Rattle.session_actions.specs.declared.link.Link.{Link}
use Rattle.session_actions.specs.declared.seen.Seen.{Seen}
use Rattle.session_actions.specs.declared.subchannel.Subchannel.{Subchannel}
use Rattle.session_order.proofs.Changed.{changed_away, changed_map}
use Rattle.session_order.proofs.Lists.{some_map}
use Rattle.std.proofs.Common.{Bool, List, None, Option, Some, [], ap, eqb-true, false, if◌then◌else◌, is_some, length, map, nat_le, not, option_map, refl, subst, suc, sym, true, zero, ℕ, ◌&&◌, ◌++◌, ◌+◌, ◌==◌, ◌||◌, ◌∙◌, ◌∷◌, ◌≡◌}
use Rattle.std.proofs.lemmas.Bool.{and_from, and_parts, eqb-false}
use Rattle.std.specs.List.{list_all}
use Rattle.std.specs.Option.{option_map_or}

-- of one attempt, of its call, its end, its link and its stream
abbrev pub is_end_by : ℕ → Option RowEnd → Bool
is_end_by n o = option_map_or (λ e. nat_le e.entry n) o true

abbrev pub is_at_link : List Link → Option Placed → Bool
is_at_link links o = option_map_or (λ at. is_some (numbered links at.link)) o true

abbrev pub row_ok : List Call → List Link → ℕ → Attempt → Bool
row_ok calls links n a =
    (is_some (numbered calls a.row.call) && is_end_by n a.row.ended) && (is_at_link links a.row.placed && not (is_number 0 a.row.stream))

pub record IsRow (calls : List Call) (links : List Link) (n : ℕ) (a : Attempt) : Type 0 where
  pub owned : is_some (numbered calls a.row.call) ≡ true
  pub ends : is_end_by n a.row.ended ≡ true
  pub placed : is_at_link links a.row.placed ≡ true
  pub streams : not (is_number 0 a.row.stream) ≡ true

-- of one link, one subchannel, and one pick request
abbrev pub line_ok : List Subchannel → Link → Bool
line_ok subs l = is_some (numbered subs l.sub) && list_all is_control l.owed

abbrev pub sub_ok : List Link → Subchannel → Bool
sub_ok links b = option_map_or (λ n. is_some (numbered links n)) b.link (not (is_ready b.state))

abbrev pub ask_ok : List Attempt → List Subchannel → ℕ → Ask → Bool
ask_ok attempts subs n ask = holds (λ a. not (is_unfollowed a && (ask.entry == n)) || has_link_for subs ask.answer) (numbered attempts ask.row)

pub record WholeOf (calls : List Call) (attempts : List Attempt) (asks : List Ask) (subs : List Subchannel) (links : List Link) (n : ℕ) : Type 0 where
  pub rows : list_all (row_ok calls links n) attempts ≡ true
  pub lines : list_all (line_ok subs) links ≡ true
  pub boards : list_all (sub_ok links) subs ≡ true
  pub stamps : list_all (λ k. nat_le k.entry n) asks ≡ true
  pub picked : option_map_or (ask_ok attempts subs n) (last_of asks) true ≡ true

abbrev pub Whole : Seen → Type 0
Whole s = WholeOf s.calls s.attempts s.asks s.subs s.links (entry s)

pub row_from : (calls : List Call) (links : List Link) (n : ℕ) (a : Attempt) → IsRow calls links n a → row_ok calls links n a ≡ true
row_from calls links n a r =
    and_from (is_some (numbered calls a.row.call) && is_end_by n a.row.ended) (is_at_link links a.row.placed && not (is_number 0 a.row.stream))
    (and_from (is_some (numbered calls a.row.call)) (is_end_by n a.row.ended) r.owned r.ends)
    (and_from (is_at_link links a.row.placed) (not (is_number 0 a.row.stream)) r.placed r.streams)

pub row_parts : (calls : List Call) (links : List Link) (n : ℕ) (a : Attempt) → row_ok calls links n a ≡ true → IsRow calls links n a
row_parts calls links n a e =
    let both : ((is_some (numbered calls a.row.call) && is_end_by n a.row.ended) ≡ true) × ((is_at_link links a.row.placed && not (is_number 0 a.row.stream)) ≡ true)
    = and_parts (is_some (numbered calls a.row.call) && is_end_by n a.row.ended) (is_at_link links a.row.placed && not (is_number 0 a.row.stream)) e in
    let one : (is_some (numbered calls a.row.call) ≡ true) × (is_end_by n a.row.ended ≡ true) = and_parts (is_some (numbered calls a.row.call)) (is_end_by n a.row.ended) both.0 in
    let two : (is_at_link links a.row.placed ≡ true) × (not (is_number 0 a.row.stream) ≡ true) = and_parts (is_at_link links a.row.placed) (not (is_number 0 a.row.stream)) both.1 in
    record { owned = one.0; ends = one.1; placed = two.0; streams = two.1 }

-- where calls and links grow, and the entry goes on
abbrev pub Later : ℕ → ℕ → Type 0
Later n m = (k : ℕ) → nat_le k n ≡ true → nat_le k m ≡ true

module _ (calls more : List Call) (links lines : List Link) (n m : ℕ) (begun : Grows calls more) (up : Grows links lines) (later : Later n m) where
  end_later : (o : Option RowEnd) → is_end_by n o ≡ true → is_end_by m o ≡ true
  end_later None e = refl
  end_later (Some z) e = later z.entry e

  at_later : (o : Option Placed) → is_at_link links o ≡ true → is_at_link lines o ≡ true
  at_later None e = refl
  at_later (Some at) e = up at.link e

  row_later : (a : Attempt) → row_ok calls links n a ≡ true → row_ok more lines m a ≡ true
  row_later a e =
      let r : IsRow calls links n a = row_parts calls links n a e in
      row_from more lines m a
      (record { owned = begun a.row.call r.owned; ends = end_later a.row.ended r.ends; placed = at_later a.row.placed r.placed; streams = r.streams })

  pub rows_later : (rows : List Attempt) → list_all (row_ok calls links n) rows ≡ true → list_all (row_ok more lines m) rows ≡ true
  rows_later rows e = all_wide (row_ok calls links n) (row_ok more lines m) row_later rows e

pub lines_later : (subs boards : List Subchannel) → Grows subs boards → (links : List Link) → list_all (line_ok subs) links ≡ true → list_all (line_ok boards) links ≡ true
lines_later subs boards more links e =
    all_wide (line_ok subs) (line_ok boards)
    (λ l ok.
    (let both : (is_some (numbered subs l.sub) ≡ true) × (list_all is_control l.owed ≡ true) = and_parts (is_some (numbered subs l.sub)) (list_all is_control l.owed) ok in
    and_from (is_some (numbered boards l.sub)) (list_all is_control l.owed) (more l.sub both.0) both.1))
    links e

up_later : (links lines : List Link) → Grows links lines → (d : Bool) (o : Option ℕ) → option_map_or (λ (k : ℕ). is_some (numbered links k)) o d ≡ true
    → option_map_or (λ (k : ℕ). is_some (numbered lines k)) o d ≡ true
up_later links lines up d None e = e
up_later links lines up d (Some k) e = up k e

pub subs_later : (links lines : List Link) → Grows links lines → (subs : List Subchannel) → list_all (sub_ok links) subs ≡ true → list_all (sub_ok lines) subs ≡ true
subs_later links lines up subs e = all_wide (sub_ok links) (sub_ok lines) (λ b ok. up_later links lines up (not (is_ready b.state)) b.link ok) subs e

-- a session of which nothing of this changed, and the entry that is open
pub beside : (s t : Seen) → t.calls ≡ s.calls → t.attempts ≡ s.attempts → t.asks ≡ s.asks → t.subs ≡ s.subs → t.links ≡ s.links → entry t ≡ entry s → Whole s → Whole t
beside s t a b c d e f h =
    subst (λ (z : List Call). WholeOf z t.attempts t.asks t.subs t.links (entry t)) (sym a)
    (subst (λ (z : List Attempt). WholeOf s.calls z t.asks t.subs t.links (entry t)) (sym b)
    (subst (λ (z : List Ask). WholeOf s.calls s.attempts z t.subs t.links (entry t)) (sym c)
    (subst (λ (z : List Subchannel). WholeOf s.calls s.attempts s.asks z t.links (entry t)) (sym d)
    (subst (λ (z : List Link). WholeOf s.calls s.attempts s.asks s.subs z (entry t)) (sym e)
    (subst (λ (z : ℕ). WholeOf s.calls s.attempts s.asks s.subs s.links z) (sym f) h)))))

pub entry_stays : (f : OpenEntry → OpenEntry) (s : Seen) → entry (with_entry f s) ≡ entry s
entry_stays f s = ap (λ (b : Bool). length s.entries + (if b then 1 else 0)) (some_map f s.current)

pub entered : (f : OpenEntry → OpenEntry) (s : Seen) → Whole s → Whole (with_entry f s)
entered f s h = beside s (with_entry f s) refl refl refl refl refl (entry_stays f s) h

-- calls
pub calls_now : (s : Seen) (cs : List Call) → Grows s.calls cs → Whole s → Whole (record s { calls = cs })
calls_now s cs more h = record {
  rows = rows_later s.calls cs s.links s.links (entry s) (entry s) more (grows_not s.links) (λ k e. e) s.attempts h.rows;
  lines = h.lines;
  boards = h.boards;
  stamps = h.stamps;
  picked = h.picked;
}

pub call_now : (f : Call → Call) (n : ℕ) (s : Seen) → Whole s → Whole (record s { calls = changed f n s.calls })
call_now f n s h = calls_now s (changed f n s.calls) (changed_grows f n s.calls) h

-- attempts: one changes, and waits for its pick only if it did before
module _ (subs : List Subchannel) (n : ℕ) (ask : Ask) where
  abbrev answers : Attempt → Bool
  answers a = not (is_unfollowed a && (ask.entry == n)) || has_link_for subs ask.answer

  answers_by : (u v w h : Bool) → (v ≡ true → u ≡ true) → (not (u && w) || h) ≡ true → (not (v && w) || h) ≡ true
  answers_by u false w h less e = refl
  answers_by true true w h less e = e
  answers_by false true w h less e = let no : false ≡ true = less refl in absurd (cc)

  answers_still : (f : Attempt → Attempt) (a : Attempt) → (is_unfollowed (f a) ≡ true → is_unfollowed a ≡ true) → answers a ≡ true → answers (f a) ≡ true
  answers_still f a less e = answers_by (is_unfollowed a) (is_unfollowed (f a)) (ask.entry == n) (has_link_for subs ask.answer) less e

  of_changed : (f : Attempt → Attempt) (o : Option Attempt) → ((a : Attempt) → o ≡ Some a → is_unfollowed (f a) ≡ true → is_unfollowed a ≡ true) → holds answers o ≡ true
      → holds answers (option_map f o) ≡ true
  of_changed f None less e = e
  of_changed f (Some a) less e = answers_still f a (less a refl) e

  at_changed : (f : Attempt → Attempt) (place : ℕ) (xs : List Attempt) → ((a : Attempt) → numbered xs place ≡ Some a → is_unfollowed (f a) ≡ true → is_unfollowed a ≡ true)
      → (b : Bool) → (ask.row == place) ≡ b → holds answers (numbered xs ask.row) ≡ true → holds answers (numbered (changed f place xs) ask.row) ≡ true
  at_changed f place xs less true same e =
      let here : ask.row ≡ place = eqb-true ask.row place same in
      ap (λ (k : ℕ). holds answers (numbered (changed f place xs) k)) here ∙ ap (holds answers) (changed_map f place xs)
      ∙ of_changed f (numbered xs place) less (sym (ap (λ (k : ℕ). holds answers (numbered xs k)) here) ∙ e)
  at_changed f place xs less false same e = ap (holds answers) (changed_away f place ask.row xs (eqb-false ask.row place same)) ∙ e

  pub asked_changed : (f : Attempt → Attempt) (place : ℕ) (xs : List Attempt) → ((a : Attempt) → numbered xs place ≡ Some a → is_unfollowed (f a) ≡ true → is_unfollowed a ≡ true)
      → holds answers (numbered xs ask.row) ≡ true → holds answers (numbered (changed f place xs) ask.row) ≡ true
  asked_changed f place xs less e = at_changed f place xs less (ask.row == place) refl e

  more_by : (xs ys : List Attempt) (k : ℕ) (o : Option Attempt) → numbered xs k ≡ o → holds answers o ≡ true → holds answers (numbered (xs ++ ys) k) ≡ true
  more_by xs ys k None got e = absurd (cc)
  more_by xs ys zero (Some a) got e = absurd (cc)
  more_by xs ys (suc i) (Some a) got e = ap (holds answers) (get_more xs ys i a got) ∙ e

  pub asked_more : (xs ys : List Attempt) → holds answers (numbered xs ask.row) ≡ true → holds answers (numbered (xs ++ ys) ask.row) ≡ true
  asked_more xs ys e = more_by xs ys ask.row (numbered xs ask.row) refl e

picks_by : (p q : Ask → Bool) → ((ask : Ask) → p ask ≡ true → q ask ≡ true) → (o : Option Ask) → option_map_or p o true ≡ true → option_map_or q o true ≡ true
picks_by p q wide None e = refl
picks_by p q wide (Some ask) e = wide ask e

pub attempt_now : (f : Attempt → Attempt) (place : ℕ) (s : Seen)
    → ((a : Attempt) → numbered s.attempts place ≡ Some a → IsRow s.calls s.links (entry s) a → IsRow s.calls s.links (entry s) (f a))
    → ((a : Attempt) → numbered s.attempts place ≡ Some a → is_unfollowed (f a) ≡ true → is_unfollowed a ≡ true)
    → Whole s → Whole (record s { attempts = changed f place s.attempts })
attempt_now f place s sound less h = record {
  rows = all_changed (row_ok s.calls s.links (entry s)) f place s.attempts h.rows
      (λ a got ok. row_from s.calls s.links (entry s) (f a) (sound a got (row_parts s.calls s.links (entry s) a ok)));
  lines = h.lines;
  boards = h.boards;
  stamps = h.stamps;
  picked = picks_by (ask_ok s.attempts s.subs (entry s)) (ask_ok (changed f place s.attempts) s.subs (entry s))
      (λ ask e. asked_changed s.subs (entry s) ask f place s.attempts less e) (last_of s.asks) h.picked;
}

pub attempts_more : (a : Attempt) (s : Seen) → IsRow s.calls s.links (entry s) a → Whole s → Whole (record s { attempts = s.attempts ++ a ∷ [] })
attempts_more a s sound h = record {
  rows = all_more (row_ok s.calls s.links (entry s)) s.attempts (a ∷ []) h.rows (and_from (row_ok s.calls s.links (entry s) a) true (row_from s.calls s.links (entry s) a sound) refl);
  lines = h.lines;
  boards = h.boards;
  stamps = h.stamps;
  picked = picks_by (ask_ok s.attempts s.subs (entry s)) (ask_ok (s.attempts ++ a ∷ []) s.subs (entry s))
      (λ ask e. asked_more s.subs (entry s) ask s.attempts (a ∷ []) e) (last_of s.asks) h.picked;
}

-- pick requests: one more
pub asks_more : (ask : Ask) (s : Seen) → nat_le ask.entry (entry s) ≡ true → ask_ok s.attempts s.subs (entry s) ask ≡ true → Whole s
    → Whole (record s { asks = s.asks ++ ask ∷ [] })
asks_more ask s stamp sound h = record {
  rows = h.rows;
  lines = h.lines;
  boards = h.boards;
  stamps = all_more (λ (k : Ask). nat_le k.entry (entry s)) s.asks (ask ∷ []) h.stamps (and_from (nat_le ask.entry (entry s)) true stamp refl);
  picked = ap (λ (o : Option Ask). option_map_or (ask_ok s.attempts s.subs (entry s)) o true) (last_more s.asks ask) ∙ sound;
}

-- links: one changes, one more, or all
pub link_now : (f : Link → Link) (n : ℕ) (s : Seen) → ((l : Link) → numbered s.links n ≡ Some l → line_ok s.subs l ≡ true → line_ok s.subs (f l) ≡ true) → Whole s
    → Whole (record s { links = changed f n s.links })
link_now f n s sound h = record {
  rows = rows_later s.calls s.calls s.links (changed f n s.links) (entry s) (entry s) (grows_not s.calls) (changed_grows f n s.links) (λ k e. e) s.attempts h.rows;
  lines = all_changed (line_ok s.subs) f n s.links h.lines sound;
  boards = subs_later s.links (changed f n s.links) (changed_grows f n s.links) s.subs h.boards;
  stamps = h.stamps;
  picked = h.picked;
}

pub links_more : (l : Link) (s : Seen) → line_ok s.subs l ≡ true → Whole s → Whole (record s { links = s.links ++ l ∷ [] })
links_more l s sound h = record {
  rows = rows_later s.calls s.calls s.links (s.links ++ l ∷ []) (entry s) (entry s) (grows_not s.calls) (more_grows s.links (l ∷ [])) (λ k e. e) s.attempts h.rows;
  lines = all_more (line_ok s.subs) s.links (l ∷ []) h.lines (and_from (line_ok s.subs l) true sound refl);
  boards = subs_later s.links (s.links ++ l ∷ []) (more_grows s.links (l ∷ [])) s.subs h.boards;
  stamps = h.stamps;
  picked = h.picked;
}

pub links_mapped : (f : Link → Link) (s : Seen) → ((l : Link) → line_ok s.subs l ≡ true → line_ok s.subs (f l) ≡ true) → Whole s → Whole (record s { links = map f s.links })
links_mapped f s sound h = record {
  rows = rows_later s.calls s.calls s.links (map f s.links) (entry s) (entry s) (grows_not s.calls) (mapped_grows f s.links) (λ k e. e) s.attempts h.rows;
  lines = all_mapped (line_ok s.subs) f sound s.links h.lines;
  boards = subs_later s.links (map f s.links) (mapped_grows f s.links) s.subs h.boards;
  stamps = h.stamps;
  picked = h.picked;
}

-- subchannels: one changes, or one more
pub picks_at : (p q : Ask → Bool) (o : Option Ask) → ((ask : Ask) → o ≡ Some ask → p ask ≡ true → q ask ≡ true) → option_map_or p o true ≡ true → option_map_or q o true ≡ true
picks_at p q None wide e = refl
picks_at p q (Some ask) wide e = wide ask refl e

pub sub_now : (f : Subchannel → Subchannel) (n : ℕ) (s : Seen)
    → ((b : Subchannel) → numbered s.subs n ≡ Some b → sub_ok s.links b ≡ true → sub_ok s.links (f b) ≡ true)
    → ((ask : Ask) → last_of s.asks ≡ Some ask → ask_ok s.attempts s.subs (entry s) ask ≡ true → ask_ok s.attempts (changed f n s.subs) (entry s) ask ≡ true)
    → Whole s → Whole (record s { subs = changed f n s.subs })
sub_now f n s sound picks h = record {
  rows = h.rows;
  lines = lines_later s.subs (changed f n s.subs) (changed_grows f n s.subs) s.links h.lines;
  boards = all_changed (sub_ok s.links) f n s.subs h.boards sound;
  stamps = h.stamps;
  picked = picks_at (ask_ok s.attempts s.subs (entry s)) (ask_ok s.attempts (changed f n s.subs) (entry s)) (last_of s.asks) picks h.picked;
}

-- an answer is acted on as before where the subchannel that it names still has its link
or_wide : (x y z : Bool) → (y ≡ true → z ≡ true) → (x || y) ≡ true → (x || z) ≡ true
or_wide true y z wide e = refl
or_wide false y z wide e = wide e

ask_wide : (attempts : List Attempt) (subs boards : List Subchannel) (n : ℕ) (ask : Ask) → (has_link_for subs ask.answer ≡ true → has_link_for boards ask.answer ≡ true)
    → (o : Option Attempt) → holds (λ (a : Attempt). not (is_unfollowed a && (ask.entry == n)) || has_link_for subs ask.answer) o ≡ true
    → holds (λ (a : Attempt). not (is_unfollowed a && (ask.entry == n)) || has_link_for boards ask.answer) o ≡ true
ask_wide attempts subs boards n ask wide None e = absurd (cc)
ask_wide attempts subs boards n ask wide (Some a) e =
    or_wide (not (is_unfollowed a && (ask.entry == n))) (has_link_for subs ask.answer) (has_link_for boards ask.answer) wide e

abbrev has_link : Subchannel → Bool
has_link b = is_some b.link

linked_by : (f : Subchannel → Subchannel) → ((b : Subchannel) → has_link b ≡ true → has_link (f b) ≡ true) → (o : Option Subchannel) → holds has_link o ≡ true
    → holds has_link (option_map f o) ≡ true
linked_by f keeps None e = absurd (cc)
linked_by f keeps (Some b) e = keeps b e

linked_at : (f : Subchannel → Subchannel) → ((b : Subchannel) → has_link b ≡ true → has_link (f b) ≡ true) → (n k : ℕ) (subs : List Subchannel) (b : Bool) → (k == n) ≡ b
    → holds has_link (numbered subs k) ≡ true → holds has_link (numbered (changed f n subs) k) ≡ true
linked_at f keeps n k subs true same e =
    let here : k ≡ n = eqb-true k n same in
    ap (λ (j : ℕ). holds has_link (numbered (changed f n subs) j)) here ∙ ap (holds has_link) (changed_map f n subs)
    ∙ linked_by f keeps (numbered subs n) (sym (ap (λ (j : ℕ). holds has_link (numbered subs j)) here) ∙ e)
linked_at f keeps n k subs false same e = ap (holds has_link) (changed_away f n k subs (eqb-false k n same)) ∙ e

pick_linked : (f : Subchannel → Subchannel) → ((b : Subchannel) → has_link b ≡ true → has_link (f b) ≡ true) → (n : ℕ) (subs : List Subchannel) (p : Pick)
    → has_link_for subs p ≡ true → has_link_for (changed f n subs) p ≡ true
pick_linked f keeps n subs (pick.Place sub) e = linked_at f keeps n sub subs (sub == n) refl e
pick_linked f keeps n subs pick.Fail e = refl
pick_linked f keeps n subs pick.Wait e = refl

pub sub_linked : (f : Subchannel → Subchannel) (n : ℕ) (s : Seen)
    → ((b : Subchannel) → numbered s.subs n ≡ Some b → sub_ok s.links b ≡ true → sub_ok s.links (f b) ≡ true)
    → ((b : Subchannel) → is_some b.link ≡ true → is_some (f b).link ≡ true) → Whole s → Whole (record s { subs = changed f n s.subs })
sub_linked f n s sound keeps h =
    sub_now f n s sound
    (λ ask got e. ask_wide s.attempts s.subs (changed f n s.subs) (entry s) ask (pick_linked f keeps n s.subs ask.answer) (numbered s.attempts ask.row) e) h

-- or where no answer is still to be acted on that names one
free_by : (subs boards : List Subchannel) (u : Bool) (p : Pick) → (u && is_place p) ≡ false → (not u || has_link_for subs p) ≡ true → (not u || has_link_for boards p) ≡ true
free_by subs boards false p none e = refl
free_by subs boards true (pick.Place sub) none e = absurd (cc)
free_by subs boards true pick.Fail none e = refl
free_by subs boards true pick.Wait none e = refl

ask_free : (subs boards : List Subchannel) (n : ℕ) (ask : Ask) (o : Option Attempt)
    → (holds (λ (a : Attempt). is_unfollowed a && (ask.entry == n)) o && is_place ask.answer) ≡ false
    → holds (λ (a : Attempt). not (is_unfollowed a && (ask.entry == n)) || has_link_for subs ask.answer) o ≡ true
    → holds (λ (a : Attempt). not (is_unfollowed a && (ask.entry == n)) || has_link_for boards ask.answer) o ≡ true
ask_free subs boards n ask None none e = absurd (cc)
ask_free subs boards n ask (Some a) none e = free_by subs boards (is_unfollowed a && (ask.entry == n)) ask.answer none e

pub sub_unplaced : (f : Subchannel → Subchannel) (n : ℕ) (s : Seen)
    → ((b : Subchannel) → numbered s.subs n ≡ Some b → sub_ok s.links b ≡ true → sub_ok s.links (f b) ≡ true) → is_placing s ≡ false → Whole s
    → Whole (record s { subs = changed f n s.subs })
sub_unplaced f n s sound none h =
    sub_now f n s sound
    (λ ask got e.
    ask_free s.subs (changed f n s.subs) (entry s) ask (numbered s.attempts ask.row)
    (sym (ap (λ (o : Option Ask). option_map_or (is_placing_ask s) o false) got) ∙ none) e) h

there_more : (xs ys : List Subchannel) (k : ℕ) (o : Option Subchannel) → numbered xs k ≡ o → holds has_link o ≡ true → holds has_link (numbered (xs ++ ys) k) ≡ true
there_more xs ys k None got e = absurd (cc)
there_more xs ys zero (Some b) got e = absurd (cc)
there_more xs ys (suc i) (Some b) got e = ap (holds has_link) (get_more xs ys i b got) ∙ e

pick_more : (xs ys : List Subchannel) (p : Pick) → has_link_for xs p ≡ true → has_link_for (xs ++ ys) p ≡ true
pick_more xs ys (pick.Place sub) e = there_more xs ys sub (numbered xs sub) refl e
pick_more xs ys pick.Fail e = refl
pick_more xs ys pick.Wait e = refl

pub subs_more : (b : Subchannel) (s : Seen) → sub_ok s.links b ≡ true → Whole s → Whole (record s { subs = s.subs ++ b ∷ [] })
subs_more b s sound h = record {
  rows = h.rows;
  lines = lines_later s.subs (s.subs ++ b ∷ []) (more_grows s.subs (b ∷ [])) s.links h.lines;
  boards = all_more (sub_ok s.links) s.subs (b ∷ []) h.boards (and_from (sub_ok s.links b) true sound refl);
  stamps = h.stamps;
  picked = picks_by (ask_ok s.attempts s.subs (entry s)) (ask_ok s.attempts (s.subs ++ b ∷ []) (entry s))
      (λ ask e. ask_wide s.attempts s.subs (s.subs ++ b ∷ []) (entry s) ask (pick_more s.subs (b ∷ []) ask.answer) (numbered s.attempts ask.row) e) (last_of s.asks) h.picked;
}
