-- The preface and the control frames that are owed are written in the same order by both.
use Rattle.std.proofs.Common.{◌≡◌, ◌≤◌, ◌∷◌, ◌++◌, ◌||◌, ◌&&◌, ◌==◌, ◌⊎◌, inl, inr, not, ap, arith, refl, subst, sym, ◌∙◌, Bool, true, false, List, [], Option, None, Ok, Some, ℕ, ◌+◌, zero, suc, cond, if◌then◌else◌, append-nil, count_by, drop, filter, filter_map, flat_map, fold, length, map, min, slice_get, sum_by}
use Rattle.std.specs.List.{list_any}
use Rattle.std.specs.Option.{option_map, option_map_or, option_or, unwrap_or}
use Rattle.std.proofs.lemmas.Bool.{or_right}
use Rattle.std.proofs.lemmas.List.Sums.{sum_by-cons, sum_by_push}
use Rattle.std.proofs.lemmas.List.Elements.{filter_map-append}
use Rattle.std.proofs.lemmas.List.Folds.{list_any-append}
use Rattle.h2_frame.specs.Frames.{FrameSeen}
use Rattle.h2_frame.specs.Numbers.{data_type, goaway_type, headers_type, settings_type}
use Rattle.h2_frame.specs.Sent.{ping_ack, ping_frame, rst_stream_frame, settings_ack, window_update_frame}
use Rattle.h2_link.specs.Drains.{AFrame, Opening, Outgoing, outgoing, resizes_after, sent_control}
use Rattle.h2_link.specs.Feeds.{Line}
use Rattle.h2_link.specs.Wire.{Block, Wire}
use Rattle.h2_link.specs.declared.control.Control.{Control}
use Rattle.h2_link.specs.declared.control.Control.TheVariants as control
use Rattle.h2_hpack.specs.Blocks.{state_after}
use Rattle.h2_hpack.specs.Tables.{new_table}
use Rattle.link_actions.proofs.Receiving.{IsKept}
use Rattle.link_actions.proofs.History.{block_step, opened_of, used_of}
use Rattle.link_actions.proofs.Lists.{if_false, if_true}
use Rattle.link_actions.specs.Laws.{ControlsAreSame, IsControlSent, NoneIsOwed, with_written}
use Rattle.link_actions.specs.Sees.{IsBlock, SeesOwed, SeesRead, acknowledged, named_in, odds, still_owed}
use Rattle.session_actions.specs.Links.{frames_read, frames_written, is_settings, read_in, settings_of, written_in}
use Rattle.session_actions.specs.Writing.{controls_written, has_begun, is_control, is_first_named, is_preface_of, next_control, next_data, next_headers, owes_update, owes_update_from, sendable, table_sizes_named}
use Rattle.session_actions.specs.Reading.{blocks_from, is_data_on, is_setting, open_block, opened_streams, raise_by, raised, used}
use Rattle.session_actions.specs.Words.{find_last, last_of}
use Rattle.session_actions.specs.declared.link.Link.{Link}
use Rattle.session_actions.specs.declared.link.OpenBlock.{OpenBlock}
use Rattle.session_actions.specs.declared.link.ReadFrame.{ReadFrame}
use Rattle.session_actions.specs.declared.link.Sent.{Sent}
use Rattle.session_actions.specs.declared.link.Sent.TheVariants as sent
use Rattle.session_actions.specs.declared.link.Traffic.TheVariants as traffic
use Rattle.session_actions.specs.declared.seen.Seen.{Seen}

-- with one more that was written
pub frames_more : (l : Link) (f : FrameSeen) → frames_written (with_written (sent.Frame f) l) ≡ frames_written l ++ f ∷ []
frames_more l f = filter_map-append written_in l.traffic (traffic.Written (sent.Frame f) ∷ [])

pub frames_same : (l : Link) → frames_written (with_written sent.Preface l) ≡ frames_written l
frames_same l = filter_map-append written_in l.traffic (traffic.Written sent.Preface ∷ []) ∙ append-nil (frames_written l)

pub read_same : (l : Link) (x : Sent) → frames_read (with_written x l) ≡ frames_read l
read_same l x = filter_map-append read_in l.traffic (traffic.Written x ∷ []) ∙ append-nil (frames_read l)

pub begun_more : (l : Link) (x : Sent) → has_begun (with_written x l) ≡ (has_begun l || (is_preface_of (traffic.Written x) || false))
begun_more l x = list_any-append is_preface_of l.traffic (traffic.Written x ∷ [])

-- lists
drop_next : {X : Type 0} (n : ℕ) (xs : List X) (x : X) (rest : List X) → drop n xs ≡ x ∷ rest → (slice_get xs n ≡ Some x) × (drop (suc n) xs ≡ rest)
drop_next zero (y ∷ xs) x rest e = (cc, cc)
drop_next zero [] x rest e = absurd (cc)
drop_next (suc n) (y ∷ xs) x rest e = drop_next n xs x rest e
drop_next (suc n) [] x rest e = absurd (cc)

drop_none : {X : Type 0} (n : ℕ) (xs : List X) → drop n xs ≡ [] → slice_get xs n ≡ None
drop_none zero [] e = refl
drop_none zero (x ∷ xs) e = absurd (cc)
drop_none (suc n) [] e = refl
drop_none (suc n) (x ∷ xs) e = drop_none n xs e

drop_first : {X : Type 0} (n : ℕ) (xs : List X) → drop (suc n) xs ≡ drop n (drop 1 xs)
drop_first zero [] = refl
drop_first zero (x ∷ xs) = refl
drop_first (suc n) [] = refl
drop_first (suc n) (x ∷ xs) = refl

none_left : {X : Type 0} (xs : List X) → slice_get xs 0 ≡ None → xs ≡ []
none_left [] e = refl
none_left (x ∷ xs) e = absurd (cc)

-- one more that counts, and one that does not
counts : {X : Type 0} (p : X → Bool) (xs : List X) (x : X) → p x ≡ true → count_by p (xs ++ x ∷ []) ≡ suc (count_by p xs)
counts p xs x is =
    let i : ℕ = 1 in
    let o : ℕ = 0 in
    let one : cond (p x) 1 0 ≡ 1 = if_true (p x) i o is in
    let more : count_by p (xs ++ x ∷ []) ≡ count_by p xs + cond (p x) 1 0 = sum_by_push (λ y. cond (p y) 1 0) xs x in
    omega (arith, one, more)

pub counts_none : {X : Type 0} (p : X → Bool) (xs : List X) (x : X) → p x ≡ false → count_by p (xs ++ x ∷ []) ≡ count_by p xs
counts_none p xs x is =
    let i : ℕ = 1 in
    let o : ℕ = 0 in
    let none : cond (p x) 1 0 ≡ 0 = if_false (p x) i o is in
    let more : count_by p (xs ++ x ∷ []) ≡ count_by p xs + cond (p x) 1 0 = sum_by_push (λ y. cond (p y) 1 0) xs x in
    omega (arith, none, more)

pub kept_none : {X : Type 0} (p : X → Bool) (xs : List X) (x : X) → p x ≡ false → filter p (xs ++ x ∷ []) ≡ filter p xs
kept_none p [] x is = if_false (p x) (x ∷ []) [] is
kept_none p (y ∷ xs) x is = ap (λ (zs : List _). cond (p y) (y ∷ zs) zs) (kept_none p xs x is)

-- a control frame is no DATA and opens no stream
pub record IsControlFrame (f : FrameSeen) : Type 0 where
  pub not_data : (f.kind == data_type) ≡ false
  pub headers : (f.kind == headers_type) ≡ false
  pub control : is_control f ≡ true

of_frame : (f g : FrameSeen) → f ≡ g → IsControlFrame f → IsControlFrame g
of_frame f g e is = subst IsControlFrame e is

pub is_frame : (c : Control) (f : FrameSeen) → outgoing c ≡ AFrame f → IsControlFrame f
is_frame control.Preface f e = absurd (cc)
is_frame (control.SettingsAck resizes) f e = of_frame settings_ack f (cc) (record { not_data = refl; headers = refl; control = refl })
is_frame (control.Ping word) f e = of_frame (ping_frame word) f (cc) (record { not_data = refl; headers = refl; control = refl })
is_frame (control.PingAck word) f e = of_frame (ping_ack word) f (cc) (record { not_data = refl; headers = refl; control = refl })
is_frame (control.LinkUpdate by) f e = of_frame (window_update_frame 0 by) f (cc) (record { not_data = refl; headers = refl; control = refl })
is_frame (control.StreamUpdate stream by) f e = of_frame (window_update_frame stream by) f (cc) (record { not_data = refl; headers = refl; control = refl })
is_frame (control.Reset stream code) f e = of_frame (rst_stream_frame stream code) f (cc) (record { not_data = refl; headers = refl; control = refl })

-- only SETTINGS are acknowledged
abbrev acks : Control → Bool
acks (control.SettingsAck resizes) = true
acks _ = false

is_ack_by : (c : Control) (f : FrameSeen) → outgoing c ≡ AFrame f → (f.kind == settings_type) ≡ acks c
is_ack_by control.Preface f e = absurd (cc)
is_ack_by (control.SettingsAck resizes) f e = let same : settings_ack ≡ f = (cc) in ap (λ (g : FrameSeen). g.kind == settings_type) (sym same)
is_ack_by (control.Ping word) f e = let same : ping_frame word ≡ f = (cc) in ap (λ (g : FrameSeen). g.kind == settings_type) (sym same)
is_ack_by (control.PingAck word) f e = let same : ping_ack word ≡ f = (cc) in ap (λ (g : FrameSeen). g.kind == settings_type) (sym same)
is_ack_by (control.LinkUpdate by) f e = let same : window_update_frame 0 by ≡ f = (cc) in ap (λ (g : FrameSeen). g.kind == settings_type) (sym same)
is_ack_by (control.StreamUpdate stream by) f e = let same : window_update_frame stream by ≡ f = (cc) in ap (λ (g : FrameSeen). g.kind == settings_type) (sym same)
is_ack_by (control.Reset stream code) f e = let same : rst_stream_frame stream code ≡ f = (cc) in ap (λ (g : FrameSeen). g.kind == settings_type) (sym same)

-- whether an update of the table's size is owed, with one more frame
abbrev pub owes_next : List Bool → Bool → FrameSeen → Bool
owes_next names owes f =
    if f.kind == settings_type then owes || is_first_named names else if f.kind == headers_type then false else owes

abbrev pub settings_in_ : List FrameSeen → ℕ
settings_in_ fs = count_by (λ f. f.kind == settings_type) fs

pub first_counts : (f : FrameSeen) (fs : List FrameSeen) (b : Bool) → (f.kind == settings_type) ≡ b → settings_in_ (f ∷ fs) ≡ (if b then suc (settings_in_ fs) else settings_in_ fs)
first_counts f fs true e =
    let i : ℕ = 1 in
    let o : ℕ = 0 in
    let one : cond (f.kind == settings_type) 1 0 ≡ 1 = if_true (f.kind == settings_type) i o e in
    let all : settings_in_ (f ∷ fs) ≡ cond (f.kind == settings_type) 1 0 + settings_in_ fs = sum_by-cons (λ (g : FrameSeen). cond (g.kind == settings_type) 1 0) f fs in
    omega (arith, one, all)
first_counts f fs false e =
    let i : ℕ = 1 in
    let o : ℕ = 0 in
    let none : cond (f.kind == settings_type) 1 0 ≡ 0 = if_false (f.kind == settings_type) i o e in
    let all : settings_in_ (f ∷ fs) ≡ cond (f.kind == settings_type) 1 0 + settings_in_ fs = sum_by-cons (λ (g : FrameSeen). cond (g.kind == settings_type) 1 0) f fs in
    omega (arith, none, all)

owes_by : (a b : Bool) (names : List Bool) (n m : ℕ) (x : FrameSeen) (p p2 q q2 r r2 : Bool) → m ≡ (if a then suc n else n)
    → p ≡ owes_next (drop n (drop 1 names)) p2 x → q ≡ owes_next (drop n names) q2 x → r ≡ owes_next (drop n names) r2 x
    → (if a then p else if b then q else r) ≡ owes_next (drop m names) (if a then p2 else if b then q2 else r2) x
owes_by true b names n m x p p2 q q2 r r2 e h i j =
    h ∙ ap (λ (ns : List Bool). owes_next ns p2 x) (sym (drop_first n names) ∙ ap (λ (k : ℕ). drop k names) (sym e))
owes_by false true names n m x p p2 q q2 r r2 e h i j = i ∙ ap (λ (k : ℕ). owes_next (drop k names) q2 x) (sym e)
owes_by false false names n m x p p2 q q2 r r2 e h i j = j ∙ ap (λ (k : ℕ). owes_next (drop k names) r2 x) (sym e)

ends_by : (a b : Bool) (names : List Bool) (owes : Bool)
    → (if a then owes_update_from (drop 1 names) (owes || is_first_named names) [] else if b then owes_update_from names false [] else owes_update_from names owes [])
    ≡ (if a then owes || is_first_named names else if b then false else owes)
ends_by true b names owes = refl
ends_by false true names owes = refl
ends_by false false names owes = refl

pub owes_more : (names : List Bool) (owes : Bool) (fs : List FrameSeen) (x : FrameSeen)
    → owes_update_from names owes (fs ++ x ∷ []) ≡ owes_next (drop (settings_in_ fs) names) (owes_update_from names owes fs) x
owes_more names owes [] x = ends_by (x.kind == settings_type) (x.kind == headers_type) names owes
owes_more names owes (f ∷ fs) x =
    owes_by (f.kind == settings_type) (f.kind == headers_type) names (settings_in_ fs) (settings_in_ (f ∷ fs)) x _ _ _ _ _ _
    (first_counts f fs (f.kind == settings_type) refl) (owes_more (drop 1 names) (owes || is_first_named names) fs x)
    (owes_more names false fs x) (owes_more names owes fs x)

-- the settings that were given
abbrev pub setting_in : ℕ → List ReadFrame → Option ℕ
setting_in name rs = option_map (λ x. x.value) (find_last (is_setting name) (flat_map (λ r. settings_of r.frame) rs))

-- what a control frame leaves
is_read_by : (l : Link) (w v : Wire) (x : Sent) → SeesRead l w → IsKept w v → v.read ≡ w.read → used 0 (with_written x l) ≡ used 0 l
    → opened_streams (with_written x l) ≡ opened_streams l → SeesRead (with_written x l) v
is_read_by l w v x sees kept read sent_ opened =
    let was : w.window + used 0 l ≡ 65535 + raised 0 l = sees.window in
    let window : v.window ≡ w.window = kept.window in
    let more : raised 0 (with_written x l) ≡ raised 0 l = ap (λ (rs : List ReadFrame). sum_by (λ r. raise_by 0 r.frame) rs) (read_same l x) in
    let same : frames_read (with_written x l) ≡ frames_read l = read_same l x in
    let B : Option OpenBlock → Type 0 = λ o. IsBlock v.block o in
    let C : Option Block → Type 0 = λ b. IsBlock b (open_block l) in
    record {
      whole = kept.whole ∙ sees.whole;
      read = read ∙ sees.read ∙ ap (λ (rs : List ReadFrame). min (option_map_or (λ (r : ReadFrame). r.end) (last_of rs) 0) 18446744073709551615) (sym same);
      ready = kept.ready ∙ sees.ready ∙ ap (λ (rs : List ReadFrame). list_any (λ r. is_settings r.frame) rs) (sym same);
      retiring = kept.retiring ∙ sees.retiring ∙ ap (λ (rs : List ReadFrame). list_any (λ r. r.frame.kind == goaway_type) rs) (sym same);
      limit = kept.limit ∙ sees.limit ∙ ap (setting_in 3) (sym same);
      initial = kept.initial ∙ sees.initial ∙ ap (λ (rs : List ReadFrame). unwrap_or (setting_in 4 rs) 65535) (sym same);
      window = omega (arith, was, window, more, sent_);
      opened = opened ∙ sees.opened ∙ ap odds (sym kept.opened);
      block = subst B (ap (λ (rs : List ReadFrame). fold block_step None rs) (sym same)) (subst C (sym kept.block) sees.block);
      table = kept.table ∙ sees.table ∙ ap (λ (rs : List ReadFrame). state_after (Ok new_table) (blocks_from None rs)) (sym same);
    }

no_data : (l : Link) (f : FrameSeen) → (f.kind == data_type) ≡ false → used 0 (with_written (sent.Frame f) l) ≡ used 0 l
no_data l f e =
    let more : used_of 0 (frames_written l ++ f ∷ []) ≡ used_of 0 (frames_written l) + (if is_data_on 0 f then length f.payload else 0)
    = sum_by_push (λ (g : FrameSeen). if is_data_on 0 g then length g.payload else 0) (frames_written l) f in
    let none : (if is_data_on 0 f then length f.payload else 0) ≡ 0 = if_false (is_data_on 0 f) (length f.payload) 0 (ap (λ (b : Bool). b && ((0 == 0) || (f.stream == 0))) e) in
    ap (used_of 0) (frames_more l f) ∙ omega (arith, more, none)

pub no_stream : (l : Link) (f : FrameSeen) → (f.kind == headers_type) ≡ false → opened_streams (with_written (sent.Frame f) l) ≡ opened_streams l
no_stream l f e =
    ap opened_of (frames_more l f) ∙ ap (map (λ (g : FrameSeen). g.stream)) (kept_none (λ (g : FrameSeen). g.kind == headers_type) (frames_written l) f e)

-- the preface
first_is : {X : Type 0} (xs : List X) (x : X) → slice_get xs 0 ≡ Some x → xs ≡ x ∷ drop 1 xs
first_is [] x e = absurd (cc)
first_is (y ∷ xs) x e = ap (λ z. z ∷ xs) (let same : y ≡ x = (cc) in same)

is_preface : (c : Control) → outgoing c ≡ Opening → c ≡ control.Preface
is_preface control.Preface e = refl
is_preface (control.SettingsAck resizes) e = absurd (cc)
is_preface (control.Ping word) e = absurd (cc)
is_preface (control.PingAck word) e = absurd (cc)
is_preface (control.LinkUpdate by) e = absurd (cc)
is_preface (control.StreamUpdate stream by) e = absurd (cc)
is_preface (control.Reset stream code) e = absurd (cc)

abbrev frames_to_send : Link → List Outgoing
frames_to_send l = map (λ f. AFrame f) (drop (controls_written l) l.owed)

unbegun : (l : Link) (s : Seen) → has_begun l ≡ false → sendable l s ≡ Some sent.Preface
unbegun l s e = if_true (not (has_begun l)) (Some sent.Preface) _ (ap not e)

begun : (l : Link) (s : Seen) (f : FrameSeen) → has_begun l ≡ true → slice_get l.owed (controls_written l) ≡ Some f → sendable l s ≡ Some (sent.Frame f)
begun l s f e is =
    if_false (not (has_begun l)) (Some sent.Preface) _ (ap not e)
    ∙ ap (λ (o : Option FrameSeen). option_or (option_map (λ g. sent.Frame g) o) (option_or (next_headers l s) (next_data l s))) is

still_is : (m : Link) (fs : List FrameSeen) → has_begun m ≡ true → frames_written m ≡ fs
    → still_owed m ≡ map (λ f. AFrame f) (drop (count_by is_control fs) m.owed)
still_is m fs now e =
    ap (λ (b : Bool). (if b then [] else Opening ∷ []) ++ map (λ f. AFrame f) (drop (controls_written m) m.owed)) now
    ∙ ap (λ (gs : List FrameSeen). map (λ f. AFrame f) (drop (count_by is_control gs) m.owed)) e

-- the names that SETTINGS give, in turn
abbrev names_of : List ReadFrame → List Bool
names_of rs = map (λ r. list_any (is_setting 1) (settings_of r.frame)) (filter (λ r. is_settings r.frame) rs)

pub names_same : (l : Link) (x : Sent) → table_sizes_named (with_written x l) ≡ table_sizes_named l
names_same l x = ap names_of (read_same l x)

pub owes_written : (l : Link) (x : Sent) (fs : List FrameSeen) → frames_written (with_written x l) ≡ fs
    → owes_update (with_written x l) ≡ owes_update_from (table_sizes_named l) false fs
owes_written l x fs e =
    ap (λ (ns : List Bool). owes_update_from ns false (frames_written (with_written x l))) (names_same l x)
    ∙ ap (owes_update_from (table_sizes_named l) false) e

preface_sent : (l : Link) (s : Seen) (w : Wire) (g : ℕ → Line) (rest : List Control) → SeesRead l w → SeesOwed l w
    → w.queue.items ≡ control.Preface ∷ rest → has_begun l ≡ false → map outgoing rest ≡ frames_to_send l
    → IsControlSent l s w control.Preface g
preface_sent l s w g rest reads owes items e queue =
    let m : Link = with_written sent.Preface l in
    let fs : frames_written m ≡ frames_written l = frames_same l in
    let now : has_begun m ≡ true = begun_more l sent.Preface ∙ or_right (has_begun l) true refl in
    let tail_ : drop 1 w.queue.items ≡ rest = ap (drop 1) items in
    record {
      sent = sent.Preface;
      next = unbegun l s e;
      same = refl;
      owes = record {
        queue = ap (map outgoing) tail_ ∙ queue ∙ sym (still_is m (frames_written l) now fs);
        names = ap (filter_map named_in) tail_ ∙ sym (ap (filter_map named_in) items) ∙ owes.names
            ∙ ap (λ (gs : List FrameSeen). drop (settings_in_ gs) (table_sizes_named l)) (sym fs) ∙ ap (drop (acknowledged m)) (sym (names_same l sent.Preface));
        resizes = owes.resizes ∙ sym (owes_written l sent.Preface (frames_written l) fs);
        written = subst (λ (hs : List FrameSeen). count_by is_control hs ≤ length l.owed) (sym fs) owes.written;
        answered = subst (λ (hs : List FrameSeen). settings_in_ hs ≤ length (table_sizes_named m)) (sym fs) (subst (λ (ns : List Bool). acknowledged l ≤ length ns) (sym (names_same l sent.Preface)) owes.answered);
      };
      reads = is_read_by l w (sent_control w g control.Preface).wire sent.Preface reads (record { whole = refl; ready = refl; retiring = refl; limit = refl; initial = refl; window = refl; opened = refl; block = refl; table = refl })
          refl (ap (used_of 0) fs) (ap opened_of fs);
    }

-- a frame
says : (c : Control) → ((r : Bool) × (c ≡ control.SettingsAck r)) ⊎ ((named_in c ≡ None) × ((b : Bool) → resizes_after c b ≡ b) × (acks c ≡ false))
says control.Preface = inr (refl, λ b. refl, refl)
says (control.SettingsAck resizes) = inl (resizes, refl)
says (control.Ping word) = inr (refl, λ b. refl, refl)
says (control.PingAck word) = inr (refl, λ b. refl, refl)
says (control.LinkUpdate by) = inr (refl, λ b. refl, refl)
says (control.StreamUpdate stream by) = inr (refl, λ b. refl, refl)
says (control.Reset stream code) = inr (refl, λ b. refl, refl)

-- what is left has a first one
within : {X : Type 0} (n : ℕ) (xs : List X) (x : X) (rest : List X) → drop n xs ≡ x ∷ rest → suc n ≤ length xs
within zero (y ∷ xs) x rest e = omega arith
within zero [] x rest e = absurd (cc)
within (suc n) (y ∷ xs) x rest e = (let low : suc n ≤ length xs = within n xs x rest e in omega (arith, low))
within (suc n) [] x rest e = absurd (cc)

pub record OwesRest (l : Link) (w : Wire) (c : Control) (rest : List Control) (f : FrameSeen) : Type 0 where
  pub names : filter_map named_in rest ≡ drop (acknowledged (with_written (sent.Frame f) l)) (table_sizes_named l)
  pub resizes : resizes_after c w.resizes ≡ owes_update (with_written (sent.Frame f) l)
  pub answered : acknowledged (with_written (sent.Frame f) l) ≤ length (table_sizes_named l)

none_named : (c : Control) (rest : List Control) → named_in c ≡ None → filter_map named_in (c ∷ rest) ≡ filter_map named_in rest
none_named control.Preface rest e = refl
none_named (control.SettingsAck resizes) rest e = absurd (cc)
none_named (control.Ping word) rest e = refl
none_named (control.PingAck word) rest e = refl
none_named (control.LinkUpdate by) rest e = refl
none_named (control.StreamUpdate stream by) rest e = refl
none_named (control.Reset stream code) rest e = refl

owes_other : (l : Link) (w : Wire) (c : Control) (rest : List Control) (f : FrameSeen) → SeesOwed l w → w.queue.items ≡ c ∷ rest → outgoing c ≡ AFrame f
    → named_in c ≡ None → ((b : Bool) → resizes_after c b ≡ b) → acks c ≡ false → OwesRest l w c rest f
owes_other l w c rest f owes items e none same no_ack =
    let is : IsControlFrame f = is_frame c f e in
    let no_settings_ : (f.kind == settings_type) ≡ false = is_ack_by c f e ∙ no_ack in
    let ns : List Bool = table_sizes_named l in
    let fs : List FrameSeen = frames_written l in
    let count : acknowledged (with_written (sent.Frame f) l) ≡ acknowledged l
    = ap settings_in_ (frames_more l f) ∙ counts_none (λ (g : FrameSeen). g.kind == settings_type) fs f no_settings_ in
    record {
      names = sym (none_named c rest none) ∙ sym (ap (filter_map named_in) items) ∙ owes.names
          ∙ ap (λ (n : ℕ). drop n ns) (sym count);
      resizes = same w.resizes ∙ owes.resizes
          ∙ sym (if_false (f.kind == settings_type) _ _ no_settings_ ∙ if_false (f.kind == headers_type) false (owes_update l) is.headers)
          ∙ sym (owes_more ns false fs f) ∙ sym (owes_written l (sent.Frame f) (fs ++ f ∷ []) (frames_more l f));
      answered = subst (λ (n : ℕ). n ≤ length ns) (sym count) owes.answered;
    }

owes_ack : (l : Link) (w : Wire) (r : Bool) (rest : List Control) (f : FrameSeen) → SeesOwed l w → w.queue.items ≡ control.SettingsAck r ∷ rest
    → settings_ack ≡ f → OwesRest l w (control.SettingsAck r) rest f
owes_ack l w r rest f owes items e =
    let settings_ : (f.kind == settings_type) ≡ true = ap (λ (g : FrameSeen). g.kind == settings_type) (sym e) in
    let ns : List Bool = table_sizes_named l in
    let fs : List FrameSeen = frames_written l in
    let a : ℕ = acknowledged l in
    let first : drop a ns ≡ r ∷ filter_map named_in rest = sym owes.names ∙ ap (filter_map named_in) items in
    let there = drop_next a ns r (filter_map named_in rest) first in
    let count : acknowledged (with_written (sent.Frame f) l) ≡ suc a
    = ap settings_in_ (frames_more l f) ∙ counts (λ (g : FrameSeen). g.kind == settings_type) fs f settings_ in
    record {
      names = sym there.1 ∙ ap (λ (n : ℕ). drop n ns) (sym count);
      resizes = ap (λ (b : Bool). b || r) owes.resizes ∙ ap (λ (xs : List Bool). owes_update l || is_first_named xs) (sym first)
          ∙ sym (if_true (f.kind == settings_type) (owes_update l || is_first_named (drop a ns)) _ settings_)
          ∙ sym (owes_more ns false fs f) ∙ sym (owes_written l (sent.Frame f) (fs ++ f ∷ []) (frames_more l f));
      answered = subst (λ (n : ℕ). n ≤ length ns) (sym count) (within a ns r (filter_map named_in rest) first);
    }

owes_rest : (l : Link) (w : Wire) (c : Control) (rest : List Control) (f : FrameSeen) → SeesOwed l w → w.queue.items ≡ c ∷ rest → outgoing c ≡ AFrame f
    → OwesRest l w c rest f
owes_rest l w c rest f owes items e = elim (says c) [
  | inl x ↦
      let R : Control → Type 0 = λ d. OwesRest l w d rest f in
      let items_ : w.queue.items ≡ control.SettingsAck x.0 ∷ rest = items ∙ ap (λ (d : Control). d ∷ rest) x.1 in
      let same : AFrame settings_ack ≡ AFrame f = ap outgoing (sym x.1) ∙ e in
      let is : settings_ack ≡ f = (cc) in
      subst R (sym x.1) (owes_ack l w x.0 rest f owes items_ is)
  | inr x ↦ owes_other l w c rest f owes items e x.0 x.1 x.2
]

frame_sent_ : (l : Link) (s : Seen) (w : Wire) (g : ℕ → Line) (c : Control) (rest : List Control) (f : FrameSeen) (fs : List FrameSeen) → SeesRead l w → SeesOwed l w
    → w.queue.items ≡ c ∷ rest → has_begun l ≡ true → outgoing c ≡ AFrame f → drop (controls_written l) l.owed ≡ f ∷ fs
    → map outgoing rest ≡ map (λ h. AFrame h) fs → IsControlSent l s w c g
frame_sent_ l s w g c rest f fs reads owes items e is left queue =
    let m : Link = with_written (sent.Frame f) l in
    let there = drop_next (controls_written l) l.owed f fs left in
    let now : has_begun m ≡ true = begun_more l (sent.Frame f) ∙ ap (λ (b : Bool). b || false) e in
    let kind : IsControlFrame f = is_frame c f is in
    let tail_ : drop 1 w.queue.items ≡ rest = ap (drop 1) items in
    let more : OwesRest l w c rest f = owes_rest l w c rest f owes items is in
    record {
      sent = sent.Frame f;
      next = begun l s f e there.0;
      same = sym is;
      owes = record {
        queue = ap (map outgoing) tail_ ∙ queue ∙ ap (map (λ h. AFrame h)) (sym there.1)
            ∙ ap (λ (n : ℕ). map (λ h. AFrame h) (drop n l.owed)) (sym (counts is_control (frames_written l) f kind.control))
            ∙ sym (still_is m (frames_written l ++ f ∷ []) now (frames_more l f));
        names = ap (filter_map named_in) tail_ ∙ more.names ∙ ap (drop (acknowledged m)) (sym (names_same l (sent.Frame f)));
        resizes = more.resizes;
        written = subst (λ (n : ℕ). n ≤ length l.owed) (sym (ap (count_by is_control) (frames_more l f) ∙ counts is_control (frames_written l) f kind.control)) (within (controls_written l) l.owed f fs left);
        answered = subst (λ (ns : List Bool). acknowledged m ≤ length ns) (sym (names_same l (sent.Frame f))) more.answered;
      };
      reads = is_read_by l w (sent_control w g c).wire (sent.Frame f) reads (record { whole = refl; ready = refl; retiring = refl; limit = refl; initial = refl; window = refl; opened = refl; block = refl; table = refl })
          refl (no_data l f kind.not_data) (no_stream l f kind.headers);
    }

-- what stands next
next_by : (l : Link) (s : Seen) (w : Wire) (g : ℕ → Line) (c : Control) (rest : List Control) (b : Bool) (left : List FrameSeen) → SeesRead l w → SeesOwed l w
    → w.queue.items ≡ c ∷ rest → has_begun l ≡ b → drop (controls_written l) l.owed ≡ left
    → outgoing c ∷ map outgoing rest ≡ (if b then [] else Opening ∷ []) ++ map (λ f. AFrame f) left → IsControlSent l s w c g
next_by l s w g c rest false left reads owes items e owed same =
    let opens : outgoing c ≡ Opening = (cc) in
    let queue : map outgoing rest ≡ map (λ f. AFrame f) left = (cc) in
    let is : c ≡ control.Preface = is_preface c opens in
    let S : Control → Type 0 = λ d. IsControlSent l s w d g in
    subst S (sym is) (preface_sent l s w g rest reads owes (items ∙ ap (λ (d : Control). d ∷ rest) is) e (queue ∙ ap (map (λ f. AFrame f)) (sym owed)))
next_by l s w g c rest true [] reads owes items e owed same = absurd (cc)
next_by l s w g c rest true (f ∷ fs) reads owes items e owed same = frame_sent_ l s w g c rest f fs reads owes items e (cc) owed (cc)

pub controls_are_same : ControlsAreSame
controls_are_same l s w c g reads owes is =
    let items : w.queue.items ≡ c ∷ drop 1 w.queue.items = first_is w.queue.items c is in
    next_by l s w g c (drop 1 w.queue.items) (has_begun l) (drop (controls_written l) l.owed) reads owes items refl refl
    (sym (ap (map outgoing) items) ∙ owes.queue)

none_by : (l : Link) (b : Bool) (left : List FrameSeen) → has_begun l ≡ b → drop (controls_written l) l.owed ≡ left
    → [] ≡ (if b then [] else Opening ∷ []) ++ map (λ f. AFrame f) left → (has_begun l ≡ true) × (next_control l ≡ None)
none_by l true [] e owed same =
    (e, ap (λ (o : Option FrameSeen). option_map (λ f. sent.Frame f) o) (drop_none (controls_written l) l.owed owed))
none_by l true (f ∷ fs) e owed same = absurd (cc)
none_by l false left e owed same = absurd (cc)

pub none_is_owed : NoneIsOwed
none_is_owed l w owes is =
    none_by l (has_begun l) (drop (controls_written l) l.owed) refl refl (sym (ap (map outgoing) (none_left w.queue.items is)) ∙ owes.queue)
