-- Links that come up, dials that are taken, and bytes that come, along a session: each is of one event, and an entry has one event. And the bytes that came in a journal
use Rattle.channel_actions.proofs.Calls.Few.Begins.{is_at_event}
use Rattle.channel_actions.proofs.KeptSessions.Lists.{all_changed, all_wide}
use Rattle.channel_actions.proofs.Links.Settings.Slots.{set_length}
use Rattle.grpc_base.specs.declared.event.Entry.{Entry}
use Rattle.grpc_base.specs.declared.event.Event.TheVariants as event
use Rattle.grpc_base.specs.declared.event.Event.{Event}
use Rattle.session_actions.specs.Entries.{entry}
use Rattle.session_actions.specs.Links.{with_link}
use Rattle.session_actions.specs.Words.{changed, changed_if, numbered}
use Rattle.session_actions.specs.declared.entry.OpenEntry.{OpenEntry}
use Rattle.session_actions.specs.declared.entry.Stage.{Stage}
use Rattle.session_actions.specs.declared.link.Link.{Link}
use Rattle.session_actions.specs.declared.seen.Seen.{Seen}
use Rattle.session_actions.specs.declared.subchannel.Subchannel.{Subchannel}
use Rattle.std.proofs.Common.{Bool, List, None, Option, Some, [], ap, arith, false, if◌then◌else◌, length, nat_le, option_map, pred, refl, subst, sym, true, ℕ, ◌+◌, ◌∙◌, ◌∷◌, ◌≡◌, ◌≤◌}
use Rattle.std.proofs.lemmas.Bool.{le-leb, leb-true}
use Rattle.std.specs.List.{list_all}

-- the bytes that an event brings, and that all did
abbrev pub brought : Event → ℕ
brought (event.Arrived link piece) = length piece
brought _ = 0

abbrev pub came : List Entry → ℕ
came [] = 0
came (e ∷ entries) = brought e.event + came entries

-- of the open entry: whether its event was applied, the bytes that came by it, and those that it brings
abbrev pub done : Option OpenEntry → ℕ
done None = 0
done (Some o) = if is_at_event o.stage then 0 else 1

abbrev pub come : Option OpenEntry → ℕ
come None = 0
come (Some o) = if is_at_event o.stage then 0 else brought o.event

abbrev pub bringing : Option OpenEntry → ℕ
bringing None = 0
bringing (Some o) = brought o.event

abbrev pub handled : Seen → ℕ
handled s = length s.entries + done s.current

abbrev pub total : Seen → ℕ
total s = came s.entries + come s.current

abbrev pub whole : Seen → ℕ
whole s = came s.entries + bringing s.current

abbrev pub is_dialled : ℕ → Subchannel → Bool
is_dialled n b = nat_le b.dials n

abbrev pub is_filled : ℕ → Link → Bool
is_filled n l = nat_le (length l.received) n

-- what a change keeps: no link more, and no subchannel and no link above any bound under which they were; and what was handled only grows
pub record Tallies (s t : Seen) : Type 0 where
  pub links : length t.links ≤ length s.links
  pub dials : (n : ℕ) → list_all (is_dialled n) s.subs ≡ true → list_all (is_dialled n) t.subs ≡ true
  pub received : (n : ℕ) → list_all (is_filled n) s.links ≡ true → list_all (is_filled n) t.links ≡ true
  pub received_more : handled s ≤ handled t
  pub total_more : total s ≤ total t
  pub whole_less : whole t ≤ whole s

-- what holds of every session
pub record IsTallied (s : Seen) : Type 0 where
  pub links : length s.links ≤ handled s
  pub dials : list_all (is_dialled (handled s)) s.subs ≡ true
  pub received : list_all (is_filled (total s)) s.links ≡ true
  pub within : whole s ≤ 268435456

pub less_on : (a b c : ℕ) → a ≤ b → b ≤ c → a ≤ c
less_on a b c e f = omega (arith, e, f)

pub itself : (n : ℕ) → n ≤ n
itself n = omega arith

pub same_less : (n m : ℕ) → m ≡ n → n ≤ m
same_less n m e = omega (arith, e)

pub plus_less : (k n m : ℕ) → n ≤ m → k + n ≤ k + m
plus_less k n m e = omega (arith, e)

wider : (k n m : ℕ) → n ≤ m → nat_le k n ≡ true → nat_le k m ≡ true
wider k n m less e = le-leb k m (less_on k n m (leb-true k n e) less)

pub dialled_more : (n m : ℕ) (subs : List Subchannel) → n ≤ m → list_all (is_dialled n) subs ≡ true → list_all (is_dialled m) subs ≡ true
dialled_more n m subs less e = all_wide (is_dialled n) (is_dialled m) (λ b f. wider b.dials n m less f) subs e

pub filled_more : (n m : ℕ) (links : List Link) → n ≤ m → list_all (is_filled n) links ≡ true → list_all (is_filled m) links ≡ true
filled_more n m links less e = all_wide (is_filled n) (is_filled m) (λ l f. wider (length l.received) n m less f) links e

-- so what holds of every session is kept
pub kept : (s t : Seen) → Tallies s t → IsTallied s → IsTallied t
kept s t c k = record {
  links = less_on (length t.links) (length s.links) (handled t) c.links (less_on (length s.links) (handled s) (handled t) k.links c.received_more);
  dials = c.dials (handled t) (dialled_more (handled s) (handled t) s.subs c.received_more k.dials);
  received = c.received (total t) (filled_more (total s) (total t) s.links c.total_more k.received);
  within = less_on (whole t) (whole s) 268435456 c.whole_less k.within;
}

pub joined : (s t u : Seen) → Tallies s t → Tallies t u → Tallies s u
joined s t u c d = record {
  links = less_on (length u.links) (length t.links) (length s.links) d.links c.links;
  dials = λ n e. d.dials n (c.dials n e);
  received = λ n e. d.received n (c.received n e);
  received_more = less_on (handled s) (handled t) (handled u) c.received_more d.received_more;
  total_more = less_on (total s) (total t) (total u) c.total_more d.total_more;
  whole_less = less_on (whole u) (whole t) (whole s) d.whole_less c.whole_less;
}

-- where subchannels and links are as before
on : (s t : Seen) → t.subs ≡ s.subs → t.links ≡ s.links → handled s ≤ handled t → total s ≤ total t → whole t ≤ whole s → Tallies s t
on s t subs links more bytes fewer = record {
  links = same_less (length t.links) (length s.links) (sym (ap length links));
  dials = λ n e. ap (list_all (is_dialled n)) subs ∙ e;
  received = λ n e. ap (list_all (is_filled n)) links ∙ e;
  received_more = more;
  total_more = bytes;
  whole_less = fewer;
}

-- the open entry, changed
done_same : (f : OpenEntry → OpenEntry) → ((o : OpenEntry) → (f o).stage ≡ o.stage) → (c : Option OpenEntry) → done (option_map f c) ≡ done c
done_same f same None = refl
done_same f same (Some o) = ap (λ (g : Stage). if is_at_event g then 0 else 1) (same o)

come_same : (f : OpenEntry → OpenEntry) → ((o : OpenEntry) → (f o).event ≡ o.event) → ((o : OpenEntry) → (f o).stage ≡ o.stage) → (c : Option OpenEntry) → come (option_map f c) ≡ come c
come_same f event_same same None = refl
come_same f event_same same (Some o) =
    ap (λ (g : Stage). if is_at_event g then 0 else brought (f o).event) (same o) ∙ ap (λ (e : Event). if is_at_event o.stage then 0 else brought e) (event_same o)

bringing_same : (f : OpenEntry → OpenEntry) → ((o : OpenEntry) → (f o).event ≡ o.event) → (c : Option OpenEntry) → bringing (option_map f c) ≡ bringing c
bringing_same f same None = refl
bringing_same f same (Some o) = ap brought (same o)

-- or its event applied
pub done_by : (b : Bool) → (if b then 0 else 1) ≤ 1
done_by true = omega arith
done_by false = omega arith

pub come_by : (b : Bool) (n : ℕ) → (if b then 0 else n) ≤ n
come_by true n = omega arith
come_by false n = omega arith

applied_done : (f : OpenEntry → OpenEntry) → ((o : OpenEntry) → is_at_event (f o).stage ≡ false) → (c : Option OpenEntry) → done c ≤ done (option_map f c)
applied_done f past None = itself 0
applied_done f past (Some o) =
    subst (λ (b : Bool). (if is_at_event o.stage then 0 else 1) ≤ (if b then 0 else 1)) (sym (past o)) (done_by (is_at_event o.stage))

applied_come : (f : OpenEntry → OpenEntry) → ((o : OpenEntry) → (f o).event ≡ o.event) → ((o : OpenEntry) → is_at_event (f o).stage ≡ false) → (c : Option OpenEntry) → come c ≤ come (option_map f c)
applied_come f same past None = itself 0
applied_come f same past (Some o) =
    let two : (if is_at_event o.stage then 0 else brought o.event) ≤ brought (f o).event
    = subst (λ (e : Event). (if is_at_event o.stage then 0 else brought o.event) ≤ brought e) (sym (same o)) (come_by (is_at_event o.stage) (brought o.event)) in
    subst (λ (b : Bool). (if is_at_event o.stage then 0 else brought o.event) ≤ (if b then 0 else brought (f o).event)) (sym (past o)) two

pub entered : (f : OpenEntry → OpenEntry) → ((o : OpenEntry) → (f o).event ≡ o.event) → ((o : OpenEntry) → (f o).stage ≡ o.stage) → (s : Seen)
    → Tallies s (record s { current = option_map f s.current })
entered f event_same same s =
    on s (record s { current = option_map f s.current }) refl refl
    (same_less (handled s) (length s.entries + done (option_map f s.current)) (ap (λ (n : ℕ). length s.entries + n) (done_same f same s.current)))
    (same_less (total s) (came s.entries + come (option_map f s.current)) (ap (λ (n : ℕ). came s.entries + n) (come_same f event_same same s.current)))
    (same_less (came s.entries + bringing (option_map f s.current)) (whole s) (sym (ap (λ (n : ℕ). came s.entries + n) (bringing_same f event_same s.current))))

pub applied : (f : OpenEntry → OpenEntry) → ((o : OpenEntry) → (f o).event ≡ o.event) → ((o : OpenEntry) → is_at_event (f o).stage ≡ false) → (s : Seen)
    → Tallies s (record s { current = option_map f s.current })
applied f event_same past s =
    on s (record s { current = option_map f s.current }) refl refl
    (plus_less (length s.entries) (done s.current) (done (option_map f s.current)) (applied_done f past s.current))
    (plus_less (came s.entries) (come s.current) (come (option_map f s.current)) (applied_come f event_same past s.current))
    (same_less (came s.entries + bringing (option_map f s.current)) (whole s) (sym (ap (λ (n : ℕ). came s.entries + n) (bringing_same f event_same s.current))))

pub beside : (s t : Seen) → t.entries ≡ s.entries → t.current ≡ s.current → t.subs ≡ s.subs → t.links ≡ s.links → Tallies s t
beside s t entries current subs links =
    on s t subs links
    (same_less (handled s) (handled t) (ap (λ (es : List Entry). length es + done t.current) entries ∙ ap (λ (c : Option OpenEntry). length s.entries + done c) current))
    (same_less (total s) (total t) (ap (λ (es : List Entry). came es + come t.current) entries ∙ ap (λ (c : Option OpenEntry). came s.entries + come c) current))
    (same_less (whole t) (whole s) (sym (ap (λ (es : List Entry). came es + bringing t.current) entries ∙ ap (λ (c : Option OpenEntry). came s.entries + bringing c) current)))

-- links and subchannels, changed
pub long_by : {X : Type 0} (f : X → X) (n : ℕ) (xs : List X) (o : Option X) → length (changed_if f n xs o) ≡ length xs
long_by f n xs None = refl
long_by f n xs (Some x) = set_length xs (pred n) (f x)

pub link_now : (f : Link → Link) → ((l : Link) → (f l).received ≡ l.received) → (n : ℕ) (s : Seen) → Tallies s (with_link f n s)
link_now f same n s = record {
  links = same_less (length (changed f n s.links)) (length s.links) (sym (long_by f n s.links (numbered s.links n)));
  dials = λ m e. e;
  received = λ m e. all_changed (is_filled m) f n s.links e (λ l there g. ap (λ (bytes : List ℕ). nat_le (length bytes) m) (same l) ∙ g);
  received_more = itself (handled s);
  total_more = itself (total s);
  whole_less = itself (whole s);
}

pub subs_now : (f : Subchannel → Subchannel) → ((b : Subchannel) → (f b).dials ≤ b.dials) → (n : ℕ) (s : Seen) → Tallies s (record s { subs = changed f n s.subs })
subs_now f less n s = record {
  links = itself (length s.links);
  dials = λ m e. all_changed (is_dialled m) f n s.subs e (λ b there g. le-leb (f b).dials m (less_on (f b).dials b.dials m (less b) (leb-true b.dials m g)));
  received = λ m e. e;
  received_more = itself (handled s);
  total_more = itself (total s);
  whole_less = itself (whole s);
}
