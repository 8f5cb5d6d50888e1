-- What is kept of calls, attempts and subchannels, said of their lists alone, so that each may change by itself.
use Rattle.attempt_ledger.specs.declared.row.Placed.{Placed}
use Rattle.attempt_ledger.specs.declared.row.RowEnd.{RowEnd}
use Rattle.channel_actions.specs.KeptCalls.Early.{is_early, is_linked_up, is_past, is_reset_late}
use Rattle.channel_actions.proofs.KeptSessions.Lists.{all_at, all_changed, all_more, all_wide, get_more}
use Rattle.session_actions.specs.Calls.{marked}
use Rattle.session_actions.specs.Entries.{now}
use Rattle.session_actions.specs.Links.{read_bytes}
use Rattle.session_actions.specs.Words.{changed, holds, numbered}
use Rattle.session_actions.specs.declared.attempt.Attempt.{Attempt}
use Rattle.session_actions.specs.declared.call.Call.{Call}
use Rattle.session_actions.specs.declared.call.MarkKind.{MarkKind}
use Rattle.session_actions.specs.declared.link.Link.{Link}
use Rattle.session_actions.specs.declared.seen.Seen.{Seen}
use Rattle.session_actions.specs.declared.subchannel.Subchannel.{Subchannel}
use Rattle.session_order.proofs.Changed.{changed_away, changed_map, changed_twice}
use Rattle.std.proofs.Common.{Bool, List, None, Option, Some, [], ap, arith, eqb-true, false, map, nat_le, option_and_then, option_map, refl, slice_get, subst, suc, sym, true, zero, ℕ, ◌++◌, ◌==◌, ◌||◌, ◌∙◌, ◌∷◌, ◌≡◌}
use Rattle.std.proofs.lemmas.Bool.Decides.{nat_tests}
use Rattle.std.proofs.lemmas.Bool.{and_from, eqb-false, or_left}
use Rattle.std.specs.List.{list_all}
use Rattle.std.specs.Option.{option_map_or}

abbrev pub is_sound_call : Call → Bool
is_sound_call c = is_past c || is_early c

-- an attempt that ended saw no more of its link than was read
abbrev pub read_at : List Link → Option Placed → ℕ
read_at links o = option_map_or read_bytes (option_and_then (λ at. numbered links at.link) o) 0

abbrev pub saw_less : List Link → Attempt → Bool
saw_less links a = option_map_or (λ e. nat_le e.seen (read_at links a.row.placed)) a.row.ended true

pub record EarlyOf (calls : List Call) (attempts : List Attempt) (subs : List Subchannel) (links : List Link) : Type 0 where
  pub resets : list_all is_reset_late attempts ≡ true
  pub saw : list_all (saw_less links) attempts ≡ true
  pub made : list_all (λ a. holds is_past (numbered calls a.row.call)) attempts ≡ true
  pub awaiting_config : list_all is_sound_call calls ≡ true
  pub boards : list_all is_linked_up subs ≡ true

abbrev pub Early : Seen → Type 0
Early s = EarlyOf s.calls s.attempts s.subs s.links

pub beside : (s t : Seen) → t.calls ≡ s.calls → t.attempts ≡ s.attempts → t.subs ≡ s.subs → t.links ≡ s.links → Early s → Early t
beside s t a b c d h =
    subst (λ (z : List Call). EarlyOf z t.attempts t.subs t.links) (sym a)
    (subst (λ (z : List Attempt). EarlyOf s.calls z t.subs t.links) (sym b)
    (subst (λ (z : List Subchannel). EarlyOf s.calls s.attempts z t.links) (sym c) (subst (λ (z : List Link). EarlyOf s.calls s.attempts s.subs z) (sym d) h)))

-- calls that have their config, or have ended, stay so
abbrev pub StayPast : List Call → List Call → Type 0
StayPast calls more = (k : ℕ) → holds is_past (numbered calls k) ≡ true → holds is_past (numbered more k) ≡ true

past_by : (f : Call → Call) → ((c : Call) → is_past c ≡ true → is_past (f c) ≡ true) → (o : Option Call) → holds is_past o ≡ true → holds is_past (option_map f o) ≡ true
past_by f keeps None e = absurd (cc)
past_by f keeps (Some c) e = keeps c e

past_at : (f : Call → Call) → ((c : Call) → is_past c ≡ true → is_past (f c) ≡ true) → (n k : ℕ) (calls : List Call) (b : Bool) → (k == n) ≡ b
    → holds is_past (numbered calls k) ≡ true → holds is_past (numbered (changed f n calls) k) ≡ true
past_at f keeps n k calls true same e =
    let here : k ≡ n = eqb-true k n same in
    ap (λ (j : ℕ). holds is_past (numbered (changed f n calls) j)) here ∙ ap (holds is_past) (changed_map f n calls)
    ∙ past_by f keeps (numbered calls n) (sym (ap (λ (j : ℕ). holds is_past (numbered calls j)) here) ∙ e)
past_at f keeps n k calls false same e = ap (holds is_past) (changed_away f n k calls (eqb-false k n same)) ∙ e

pub past_changed : (f : Call → Call) → ((c : Call) → is_past c ≡ true → is_past (f c) ≡ true) → (n : ℕ) (calls : List Call) → StayPast calls (changed f n calls)
past_changed f keeps n calls k e = past_at f keeps n k calls (k == n) refl e

more_by : (calls ys : List Call) (k : ℕ) (o : Option Call) → numbered calls k ≡ o → holds is_past o ≡ true → holds is_past (numbered (calls ++ ys) k) ≡ true
more_by calls ys k None got e = absurd (cc)
more_by calls ys zero (Some c) got e = absurd (cc)
more_by calls ys (suc i) (Some c) got e = ap (holds is_past) (get_more calls ys i c got) ∙ e

pub past_more : (calls ys : List Call) → StayPast calls (calls ++ ys)
past_more calls ys k e = more_by calls ys k (numbered calls k) refl e

pub calls_now : (s : Seen) (cs : List Call) → StayPast s.calls cs → list_all is_sound_call cs ≡ true → Early s → Early (record s { calls = cs })
calls_now s cs stay sound h = record {
  resets = h.resets;
  saw = h.saw;
  made = all_wide (λ (a : Attempt). holds is_past (numbered s.calls a.row.call)) (λ (a : Attempt). holds is_past (numbered cs a.row.call)) (λ a e. stay a.row.call e) s.attempts h.made;
  awaiting_config = sound;
  boards = h.boards;
}

pub call_now : (f : Call → Call) (n : ℕ) (s : Seen) → ((c : Call) → is_past c ≡ true → is_past (f c) ≡ true)
    → ((c : Call) → numbered s.calls n ≡ Some c → is_sound_call c ≡ true → is_sound_call (f c) ≡ true) → Early s → Early (record s { calls = changed f n s.calls })
call_now f n s keeps sound h = calls_now s (changed f n s.calls) (past_changed f keeps n s.calls) (all_changed is_sound_call f n s.calls h.awaiting_config sound) h

-- something is marked of a call that has its config, or has ended
pub marked_now : (what : MarkKind) (n : ℕ) (s : Seen) → holds is_past (numbered s.calls n) ≡ true → Early s → Early (marked what n s)
marked_now what n s past h =
    let g : Call → Call = λ (c : Call). record c { marks = c.marks ++ record { what = what; moment = now s } ∷ [] } in
    call_now g n s (λ c e. e) (λ c got e. or_left (is_past (g c)) (is_early (g c)) (sym (ap (holds is_past) got) ∙ past)) h

-- and changed so that it has, or is, then
pub marked_past : (what : MarkKind) (f : Call → Call) (n : ℕ) (s : Seen) → ((c : Call) → is_past (f c) ≡ true) → Early s
    → Early (record s { calls = changed f n (changed (λ (c : Call). record c { marks = c.marks ++ record { what = what; moment = now s } ∷ [] }) n s.calls) })
marked_past what f n s past h =
    let g : Call → Call = λ (c : Call). record c { marks = c.marks ++ record { what = what; moment = now s } ∷ [] } in
    subst (λ (cs : List Call). EarlyOf cs s.attempts s.subs s.links) (sym (changed_twice g f n s.calls))
    (call_now (λ (c : Call). f (g c)) n s (λ c e. past (g c)) (λ c got e. or_left (is_past (f (g c))) (is_early (f (g c))) (past (g c))) h)

pub row_marked : (what : MarkKind) (row : ℕ) (s : Seen) (o : Option Attempt) → numbered s.attempts row ≡ o → Early s
    → Early (option_map_or (λ (a : Attempt). marked what a.row.call s) o s)
row_marked what row s None got h = h
row_marked what row s (Some a) got h =
    marked_now what a.row.call s (all_at (λ (q : Attempt). holds is_past (numbered s.calls q.row.call)) s.attempts row a h.made got) h

-- attempts
pub attempt_now : (f : Attempt → Attempt) (place : ℕ) (s : Seen) → ((a : Attempt) → (f a).row.call ≡ a.row.call)
    → ((a : Attempt) → numbered s.attempts place ≡ Some a → is_reset_late a ≡ true → is_reset_late (f a) ≡ true)
    → ((a : Attempt) → numbered s.attempts place ≡ Some a → saw_less s.links a ≡ true → saw_less s.links (f a) ≡ true) → Early s
    → Early (record s { attempts = changed f place s.attempts })
attempt_now f place s call late less h = record {
  resets = all_changed is_reset_late f place s.attempts h.resets late;
  saw = all_changed (saw_less s.links) f place s.attempts h.saw less;
  made = all_changed (λ (a : Attempt). holds is_past (numbered s.calls a.row.call)) f place s.attempts h.made
      (λ a got e. ap (λ (k : ℕ). holds is_past (numbered s.calls k)) (call a) ∙ e);
  awaiting_config = h.awaiting_config;
  boards = h.boards;
}

pub attempts_more : (a : Attempt) (s : Seen) → is_reset_late a ≡ true → saw_less s.links a ≡ true → holds is_past (numbered s.calls a.row.call) ≡ true → Early s
    → Early (record s { attempts = s.attempts ++ a ∷ [] })
attempts_more a s late less past h = record {
  resets = all_more is_reset_late s.attempts (a ∷ []) h.resets (and_from (is_reset_late a) true late refl);
  saw = all_more (saw_less s.links) s.attempts (a ∷ []) h.saw (and_from (saw_less s.links a) true less refl);
  made = all_more (λ (q : Attempt). holds is_past (numbered s.calls q.row.call)) s.attempts (a ∷ []) h.made
      (and_from (holds is_past (numbered s.calls a.row.call)) true past refl);
  awaiting_config = h.awaiting_config;
  boards = h.boards;
}

-- subchannels
pub sub_now : (f : Subchannel → Subchannel) (n : ℕ) (s : Seen) → ((b : Subchannel) → numbered s.subs n ≡ Some b → is_linked_up b ≡ true → is_linked_up (f b) ≡ true)
    → Early s → Early (record s { subs = changed f n s.subs })
sub_now f n s sound h = record { resets = h.resets; saw = h.saw; made = h.made; awaiting_config = h.awaiting_config; boards = all_changed is_linked_up f n s.subs h.boards sound }

pub subs_more : (b : Subchannel) (s : Seen) → is_linked_up b ≡ true → Early s → Early (record s { subs = s.subs ++ b ∷ [] })
subs_more b s sound h = record {
  resets = h.resets;
  saw = h.saw;
  made = h.made;
  awaiting_config = h.awaiting_config;
  boards = all_more is_linked_up s.subs (b ∷ []) h.boards (and_from (is_linked_up b) true sound refl);
}

-- links: of each no less is read than before
abbrev pub ReadMore : List Link → List Link → Type 0
ReadMore links more = (m k : ℕ) → nat_le m (option_map_or read_bytes (numbered links k) 0) ≡ true → nat_le m (option_map_or read_bytes (numbered more k) 0) ≡ true

at_more : (links more : List Link) → ReadMore links more → (m : ℕ) (o : Option Placed) → nat_le m (read_at links o) ≡ true → nat_le m (read_at more o) ≡ true
at_more links more grow m None e = e
at_more links more grow m (Some at) e = grow m at.link e

ended_more : (links more : List Link) → ReadMore links more → (p : Option Placed) (o : Option RowEnd) → option_map_or (λ (e : RowEnd). nat_le e.seen (read_at links p)) o true ≡ true
    → option_map_or (λ (e : RowEnd). nat_le e.seen (read_at more p)) o true ≡ true
ended_more links more grow p None e = refl
ended_more links more grow p (Some end) e = at_more links more grow end.seen p e

pub links_now : (s : Seen) (ls : List Link) → ReadMore s.links ls → Early s → Early (record s { links = ls })
links_now s ls grow h = record {
  resets = h.resets;
  saw = all_wide (saw_less s.links) (saw_less ls) (λ a e. ended_more s.links ls grow a.row.placed a.row.ended e) s.attempts h.saw;
  made = h.made;
  awaiting_config = h.awaiting_config;
  boards = h.boards;
}

nothing_less : (m n : ℕ) → nat_le m 0 ≡ true → nat_le m n ≡ true
nothing_less m n e = grind (arith, nat_tests, e)

at_one : (f : Link → Link) (o : Option Link) (m : ℕ) → ((l : Link) → o ≡ Some l → nat_le m (read_bytes l) ≡ true → nat_le m (read_bytes (f l)) ≡ true)
    → nat_le m (option_map_or read_bytes o 0) ≡ true → nat_le m (option_map_or read_bytes (option_map f o) 0) ≡ true
at_one f None m grow e = e
at_one f (Some l) m grow e = grow l refl e

changed_more : (f : Link → Link) (n : ℕ) (links : List Link) → ((l : Link) (m : ℕ) → numbered links n ≡ Some l → nat_le m (read_bytes l) ≡ true → nat_le m (read_bytes (f l)) ≡ true)
    → (m k : ℕ) (b : Bool) → (k == n) ≡ b → nat_le m (option_map_or read_bytes (numbered links k) 0) ≡ true → nat_le m (option_map_or read_bytes (numbered (changed f n links) k) 0) ≡ true
changed_more f n links grow m k true same e =
    let here : k ≡ n = eqb-true k n same in
    ap (λ (j : ℕ). nat_le m (option_map_or read_bytes (numbered (changed f n links) j) 0)) here
    ∙ ap (λ (o : Option Link). nat_le m (option_map_or read_bytes o 0)) (changed_map f n links)
    ∙ at_one f (numbered links n) m (λ l got. grow l m got) (sym (ap (λ (j : ℕ). nat_le m (option_map_or read_bytes (numbered links j) 0)) here) ∙ e)
changed_more f n links grow m k false same e =
    ap (λ (o : Option Link). nat_le m (option_map_or read_bytes o 0)) (changed_away f n k links (eqb-false k n same)) ∙ e

pub link_now : (f : Link → Link) (n : ℕ) (s : Seen) → ((l : Link) (m : ℕ) → numbered s.links n ≡ Some l → nat_le m (read_bytes l) ≡ true → nat_le m (read_bytes (f l)) ≡ true)
    → Early s → Early (record s { links = changed f n s.links })
link_now f n s grow h = links_now s (changed f n s.links) (λ m k e. changed_more f n s.links grow m k (k == n) refl e) h

more_at : (links : List Link) (l : Link) (m k : ℕ) (o : Option Link) → numbered links k ≡ o → nat_le m (option_map_or read_bytes o 0) ≡ true
    → nat_le m (option_map_or read_bytes (numbered (links ++ l ∷ []) k) 0) ≡ true
more_at links l m k None got e = nothing_less m (option_map_or read_bytes (numbered (links ++ l ∷ []) k) 0) e
more_at links l m zero (Some x) got e = absurd (cc)
more_at links l m (suc i) (Some x) got e = ap (λ (o : Option Link). nat_le m (option_map_or read_bytes o 0)) (get_more links (l ∷ []) i x got) ∙ e

pub links_more : (l : Link) (s : Seen) → Early s → Early (record s { links = s.links ++ l ∷ [] })
links_more l s h = links_now s (s.links ++ l ∷ []) (λ m k e. more_at s.links l m k (numbered s.links k) refl e) h

map_at : (f : Link → Link) → ((l : Link) → read_bytes (f l) ≡ read_bytes l) → (links : List Link) (i : ℕ)
    → option_map_or read_bytes (slice_get (map f links) i) 0 ≡ option_map_or read_bytes (slice_get links i) 0
map_at f same [] i = refl
map_at f same (l ∷ links) zero = same l
map_at f same (l ∷ links) (suc i) = map_at f same links i

map_more : (f : Link → Link) → ((l : Link) → read_bytes (f l) ≡ read_bytes l) → (links : List Link) → ReadMore links (map f links)
map_more f same links m zero e = e
map_more f same links m (suc i) e = ap (nat_le m) (map_at f same links i) ∙ e

pub links_mapped : (f : Link → Link) (s : Seen) → ((l : Link) → read_bytes (f l) ≡ read_bytes l) → Early s → Early (record s { links = map f s.links })
links_mapped f s same h = links_now s (map f s.links) (map_more f same s.links) h
