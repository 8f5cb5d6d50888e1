-- After a frame that is of no attempt's stream a link and its session still agree.
use Rattle.std.proofs.Common.{◌≡◌, ◌<◌, ◌≤◌, ◌∷◌, ◌++◌, ◌||◌, ◌&&◌, ◌==◌, ◌%◌, not, ap, arith, refl, subst, sym, ◌∙◌, Bool, true, false, List, [], Option, None, Some, Ok, Err, Result, IfOk, ℕ, pos, ◌+ℤ◌, ◌+◌, ◌*◌, zero, suc, cond, count_by, drop, filter, filter_map, if◌then◌else◌, length, length-append, map, nat_lt}
use Rattle.std.specs.List.{list_any}
use Rattle.std.specs.Option.{option_map_or}
use Rattle.std.proofs.lemmas.Bool.{eqb-true}
use Rattle.std.proofs.lemmas.Bool.Decides.{nat_tests}
use Rattle.std.proofs.lemmas.List.{map-append}
use Rattle.std.proofs.lemmas.List.Elements.{filter_map-append}
use Rattle.std.proofs.lemmas.List.Folds.{list_any-append}
use Rattle.h2_frame.specs.Frames.{FrameSeen, has_flag, is_allowed}
use Rattle.h2_frame.specs.Numbers.{data_type, end_stream_flag, headers_type, push_promise_type, settings_type, window_update_type}
use Rattle.h2_frame.specs.Payloads.{increment}
use Rattle.h2_frame.specs.declared.payload.Setting.{Setting}
use Rattle.h2_link.specs.Drains.{AFrame, Opening, Outgoing, outgoing}
use Rattle.h2_link.specs.Feeds.{Line}
use Rattle.h2_link.specs.LinkErrors as link
use Rattle.h2_link.specs.LinkErrors.{is_bad_setting, overflows_link, overflows_streams, was_opened}
use Rattle.h2_link.specs.Queues.{sealed}
use Rattle.h2_link.specs.Steps.{applied, broke, judged, outcome, read_after}
use Rattle.h2_link.specs.Wire.{Report, Wire}
use Rattle.h2_link.specs.declared.control.Control.{Control}
use Rattle.h2_link.specs.declared.live.LiveStream.{LiveStream}
use Rattle.link_actions.proofs.Blocks.{SameAs}
use Rattle.link_actions.proofs.Receiving.{Received}
use Rattle.link_actions.proofs.History.{raised_more, reads_more, used_same, writes_same}
use Rattle.link_actions.proofs.Judged.{first_error, settings_same}
use Rattle.link_actions.proofs.Lists.{if_false, none_of, or_none}
use Rattle.link_actions.proofs.Owed.{first_counts, settings_in_}
use Rattle.link_actions.proofs.Quiet.{IsUntouched, applied_leaves, owed_controls}
use Rattle.link_actions.proofs.QuietReads.{none_goes, none_going, same_names, same_owed}
use Rattle.link_actions.proofs.Reading.{NoError, after_frame, applied_same, no_error, unsealed}
use Rattle.link_actions.proofs.Written.{changed_here, fed_still}
use Rattle.link_actions.specs.Laws.{IsApart, QuietFramesKeep}
use Rattle.link_actions.specs.Sees.{NumbersAreDistinct, StreamsAreFed, StreamsAreFresh, StreamsAreLive, StreamsAreOpened, IsFed, SeesLink, SeesOwed, WaitFed, acknowledged, by_stream, named_in}
use Rattle.session_actions.specs.Links.{frames_read, frames_written, has_written_end, is_settings, read_bytes, settings_of, with_link}
use Rattle.session_actions.specs.Reading.{frame_read_by, is_of_opened, is_setting, open_block, outstanding_on, raise_by, raised, used}
use Rattle.session_actions.specs.Writing.{controls_written, frame_read, frame_read_on, has_begun, is_control, is_first_named, is_preface_of, owed_for, owes_update_from, streaming_on, table_sizes_named, waiting_on, with_frame_read}
use Rattle.session_actions.specs.declared.attempt.Attempt.{Attempt}
use Rattle.session_actions.specs.declared.link.Link.{Link}
use Rattle.session_actions.specs.declared.link.NextRead.{NextRead}
use Rattle.session_actions.specs.declared.link.NextRead.TheVariants as nextread
use Rattle.session_actions.specs.declared.link.OpenBlock.{OpenBlock}
use Rattle.session_actions.specs.declared.link.ReadFrame.{ReadFrame}
use Rattle.session_actions.specs.declared.link.Traffic.TheVariants as traffic
use Rattle.session_actions.specs.declared.seen.Seen.{Seen}

last_false : (a b : Bool) → b ≡ false → (a && b) ≡ false
last_false true b e = e
last_false false b e = refl

abbrev ends_in : ℕ → List FrameSeen → Bool
ends_in n fs = list_any (λ f. (f.kind == data_type) && (f.stream == n) && has_flag f.flags end_stream_flag) fs

pub ends_still : (l : Link) (r : ReadFrame) (frames : List FrameSeen) (n : ℕ) → has_written_end n (with_frame_read r frames l) ≡ has_written_end n l
ends_still l r frames n = ap (ends_in n) (writes_same l r frames)

-- windows of other streams
pub raise_none : (f : FrameSeen) (k : ℕ) → (f.stream == k) ≡ false → raise_by k f ≡ 0
raise_none f k e = (let o : ℕ = 0 in if_false ((f.kind == window_update_type) && (f.stream == k)) (increment f.payload) o (last_false (f.kind == window_update_type) (f.stream == k) e))

turned : (n k : ℕ) → (n == k) ≡ false → (k == n) ≡ false
turned n k e = grind (arith, nat_tests, e)

live_quiet : (l : Link) (r : ReadFrame) (frames : List FrameSeen) (xs : List LiveStream) (others : List Attempt) → list_any (λ (x : LiveStream). x.number == r.frame.stream) xs ≡ false
    → StreamsAreLive l xs others → StreamsAreLive (with_frame_read r frames l) xs others
live_quiet l r frames [] [] apart are = tt
live_quiet l r frames (x ∷ xs) (a ∷ others) apart are =
    let m : Link = with_frame_read r frames l in
    let parts = none_of (x.number == r.frame.stream) (list_any (λ (y : LiveStream). y.number == r.frame.stream) xs) apart in
    let none : raise_by x.number r.frame ≡ 0 = raise_none r.frame x.number (turned x.number r.frame.stream parts.0) in
    let more : raised x.number m ≡ raised x.number l + raise_by x.number r.frame = raised_more x.number l r frames in
    let same : raised x.number m ≡ raised x.number l = omega (arith, none, more) in (
      record {
        stream = are.0.stream;
        some = are.0.some;
        tag = are.0.tag;
        finished = are.0.finished ∙ sym (ends_still l r frames x.number);
        credit = ap (λ (n : ℕ). x.credit +ℤ pos n) (used_same x.number l r frames) ∙ are.0.credit ∙ ap (λ (n : ℕ). pos n) (sym same);
      },
      live_quiet l r frames xs others parts.1 are.1,
    )
live_quiet l r frames [] (a ∷ others) apart are = absurd are
live_quiet l r frames (x ∷ xs) [] apart are = absurd are

-- what is fed
for_same : (l : Link) (r : ReadFrame) (frames : List FrameSeen) (o : Option ℕ) → option_map_or (λ n. used n (with_frame_read r frames l)) o 0 ≡ option_map_or (λ n. used n l) o 0
for_same l r frames None = refl
for_same l r frames (Some n) = used_same n l r frames

linked : (f : Link → Link) (k : ℕ) (m : Link) (s : Seen) (a : Attempt) (line : Line) → IsFed m s a line → IsFed m (with_link f k s) a line
linked f k m s a line is = record { call = is.call; call_is = is.call_is; fields = is.fields; written = is.written; left = is.left; finished = is.finished }

pub fed_quiet : (l : Link) (s : Seen) (g : ℕ → Line) (r : ReadFrame) (frames : List FrameSeen) (h : Link → Link) (xs : List LiveStream) (others : List Attempt) → StreamsAreFed l s g xs others
    → StreamsAreFed (with_frame_read r frames l) (with_link h l.number s) g xs others
fed_quiet l s g r frames h [] [] are = tt
fed_quiet l s g r frames h (x ∷ xs) (a ∷ others) are = (
  linked h l.number (with_frame_read r frames l) s a (g x.tag) (fed_still l (with_frame_read r frames l) s a (g x.tag) (for_same l r frames a.row.stream) are.0),
  fed_quiet l s g r frames h xs others are.1,
)
fed_quiet l s g r frames h [] (a ∷ others) are = absurd are
fed_quiet l s g r frames h (x ∷ xs) [] are = absurd are

pub wait_quiet : (l : Link) (s : Seen) (g : ℕ → Line) (r : ReadFrame) (frames : List FrameSeen) (h : Link → Link) (xs : List Attempt) → WaitFed l s g xs
    → WaitFed (with_frame_read r frames l) (with_link h l.number s) g xs
wait_quiet l s g r frames h [] are = tt
wait_quiet l s g r frames h (a ∷ xs) are = (
  linked h l.number (with_frame_read r frames l) s a (g a.place) (fed_still l (with_frame_read r frames l) s a (g a.place) (for_same l r frames a.row.stream) are.0),
  wait_quiet l s g r frames h xs are.1,
)

-- what is owed
pub drop_more : {X : Type 0} (n : ℕ) (xs ys : List X) → n ≤ length xs → drop n (xs ++ ys) ≡ drop n xs ++ ys
drop_more zero xs ys low = refl
drop_more (suc n) [] ys low = absurd (let never : ⊥ = omega (arith, low) in never)
drop_more (suc n) (x ∷ xs) ys low = drop_more n xs ys (let less : n ≤ length xs = omega (arith, low) in less)

abbrev names_in : List ReadFrame → List Bool
names_in rs = map (λ r. list_any (is_setting 1) (settings_of r.frame)) (filter (λ r. is_settings r.frame) rs)

first_named : (b : Bool) (r : ReadFrame) → map (λ (x : ReadFrame). list_any (is_setting 1) (settings_of x.frame)) (cond b (r ∷ []) []) ≡ (if b then list_any (is_setting 1) (settings_of r.frame) ∷ [] else [])
first_named true r = refl
first_named false r = refl

later_named : (b : Bool) (x : ReadFrame) (rs : List ReadFrame) (r : ReadFrame) (more : List Bool) → names_in (rs ++ r ∷ []) ≡ names_in rs ++ more
    → map (λ (y : ReadFrame). list_any (is_setting 1) (settings_of y.frame)) (cond b (x ∷ filter (λ y. is_settings y.frame) (rs ++ r ∷ [])) (filter (λ y. is_settings y.frame) (rs ++ r ∷ [])))
    ≡ map (λ (y : ReadFrame). list_any (is_setting 1) (settings_of y.frame)) (cond b (x ∷ filter (λ y. is_settings y.frame) rs) (filter (λ y. is_settings y.frame) rs)) ++ more
later_named true x rs r more e = ap (λ (bs : List Bool). list_any (is_setting 1) (settings_of x.frame) ∷ bs) e
later_named false x rs r more e = e

names_more : (rs : List ReadFrame) (r : ReadFrame) → names_in (rs ++ r ∷ []) ≡ names_in rs ++ (if is_settings r.frame then list_any (is_setting 1) (settings_of r.frame) ∷ [] else [])
names_more [] r = first_named (is_settings r.frame) r
names_more (x ∷ rs) r = later_named (is_settings x.frame) x rs r _ (names_more rs r)

-- names that come later change nothing that was written
counts_first : (f : FrameSeen) (fs : List FrameSeen) (b : Bool) → (f.kind == settings_type) ≡ b → settings_in_ (f ∷ fs) ≡ (if b then suc (settings_in_ fs) else settings_in_ fs)
counts_first f fs b e = first_counts f fs b e

later_by : (a b : Bool) (ns more : List Bool) (owes : Bool) (fs : List FrameSeen) → (if a then suc (settings_in_ fs) else settings_in_ fs) ≤ length ns
    → ((ms : List Bool) (o : Bool) → settings_in_ fs ≤ length ms → owes_update_from (ms ++ more) o fs ≡ owes_update_from ms o fs)
    → (if a then owes_update_from (drop 1 (ns ++ more)) (owes || is_first_named (ns ++ more)) fs else if b then owes_update_from (ns ++ more) false fs else owes_update_from (ns ++ more) owes fs)
    ≡ (if a then owes_update_from (drop 1 ns) (owes || is_first_named ns) fs else if b then owes_update_from ns false fs else owes_update_from ns owes fs)
later_by true b [] more owes fs low next = absurd (let never : ⊥ = omega (arith, low) in never)
later_by true b (n ∷ ns) more owes fs low next = next ns (owes || n) (let less : settings_in_ fs ≤ length ns = omega (arith, low) in less)
later_by false true ns more owes fs low next = next ns false low
later_by false false ns more owes fs low next = next ns owes low

later_names : (ns more : List Bool) (owes : Bool) (fs : List FrameSeen) → settings_in_ fs ≤ length ns → owes_update_from (ns ++ more) owes fs ≡ owes_update_from ns owes fs
later_names ns more owes [] low = refl
later_names ns more owes (f ∷ fs) low =
    later_by (f.kind == settings_type) (f.kind == headers_type) ns more owes fs (subst (λ (n : ℕ). n ≤ length ns) (counts_first f fs (f.kind == settings_type) refl) low)
    (λ ms o less. later_names ms more o fs less)

pub joined : {X : Type 0} (xs ys zs : List X) → (xs ++ ys) ++ zs ≡ xs ++ (ys ++ zs)
joined [] ys zs = refl
joined (x ∷ xs) ys zs = ap (λ (us : List _). x ∷ us) (joined xs ys zs)

pub owed_read : (l : Link) (s : Seen) (w v : Wire) (r : ReadFrame) (cs : List Control) → SeesOwed l w → map outgoing cs ≡ map (λ h. AFrame h) (owed_for r.frame l s)
    → filter_map named_in cs ≡ (if is_settings r.frame then list_any (is_setting 1) (settings_of r.frame) ∷ [] else [])
    → v.resizes ≡ w.resizes → v.queue.items ≡ w.queue.items ++ cs → SeesOwed (with_frame_read r (owed_for r.frame l s) l) v
owed_read l s w v r cs owes controls named resizes items =
    let m : Link = with_frame_read r (owed_for r.frame l s) l in
    let fs : frames_written m ≡ frames_written l = writes_same l r (owed_for r.frame l s) in
    let ns : List Bool = table_sizes_named l in
    let more : List Bool = if is_settings r.frame then list_any (is_setting 1) (settings_of r.frame) ∷ [] else [] in
    let names : table_sizes_named m ≡ ns ++ more = ap names_in (reads_more l r (owed_for r.frame l s)) ∙ names_more (frames_read l) r in
    let begun : has_begun m ≡ has_begun l = list_any-append is_preface_of l.traffic (traffic.Read r ∷ []) ∙ or_none (has_begun l) in
    let count : controls_written m ≡ controls_written l = ap (count_by is_control) fs in
    let acks : acknowledged m ≡ acknowledged l = ap settings_in_ fs in
    let long_ : length (l.owed ++ owed_for r.frame l s) ≡ length l.owed + length (owed_for r.frame l s) = length-append l.owed (owed_for r.frame l s) in
    let low : controls_written l ≤ length l.owed = owes.written in
    let many : length (ns ++ more) ≡ length ns + length more = length-append ns more in
    let least : acknowledged l ≤ length ns = owes.answered in
    let prefix : List Outgoing = if has_begun l then [] else Opening ∷ [] in
    record {
      queue = ap (map outgoing) items ∙ map-append outgoing w.queue.items cs ∙ ap (λ (os : List Outgoing). os ++ map outgoing cs) owes.queue
          ∙ ap (λ (os : List Outgoing). (prefix ++ map (λ h. AFrame h) (drop (controls_written l) l.owed)) ++ os) controls
          ∙ joined prefix (map (λ h. AFrame h) (drop (controls_written l) l.owed)) (map (λ h. AFrame h) (owed_for r.frame l s))
          ∙ ap (λ (os : List Outgoing). prefix ++ os) (sym (map-append (λ h. AFrame h) (drop (controls_written l) l.owed) (owed_for r.frame l s)))
          ∙ ap (λ (hs : List FrameSeen). prefix ++ map (λ h. AFrame h) hs) (sym (drop_more (controls_written l) l.owed (owed_for r.frame l s) low))
          ∙ ap (λ (n : ℕ). prefix ++ map (λ h. AFrame h) (drop n (l.owed ++ owed_for r.frame l s))) (sym count)
          ∙ ap (λ (b : Bool). (if b then [] else Opening ∷ []) ++ map (λ h. AFrame h) (drop (controls_written m) (l.owed ++ owed_for r.frame l s))) (sym begun);
      names = ap (filter_map named_in) items ∙ filter_map-append named_in w.queue.items cs ∙ ap (λ (bs : List Bool). bs ++ filter_map named_in cs) owes.names
          ∙ ap (λ (bs : List Bool). drop (acknowledged l) ns ++ bs) named ∙ sym (drop_more (acknowledged l) ns more least)
          ∙ ap (λ (n : ℕ). drop n (ns ++ more)) (sym acks) ∙ ap (drop (acknowledged m)) (sym names);
      resizes = resizes ∙ owes.resizes ∙ sym (later_names ns more false (frames_written l) least)
          ∙ ap (λ (hs : List FrameSeen). owes_update_from (ns ++ more) false hs) (sym fs) ∙ ap (λ (bs : List Bool). owes_update_from bs false (frames_written m)) (sym names);
      written = (omega (arith, count, long_, low));
      answered = subst (λ (bs : List Bool). acknowledged m ≤ length bs) (sym names) (omega (arith, acks, many, least));
    }

-- streams that were not opened
pub opened_of_error : (early push bad misplaced unopened lifts wide : Bool) → first_error early push bad misplaced unopened lifts wide ≡ None → unopened ≡ false
opened_of_error false false false false false lifts wide e = refl
opened_of_error true push bad misplaced unopened lifts wide e = absurd (cc)
opened_of_error false true bad misplaced unopened lifts wide e = absurd (cc)
opened_of_error false false true misplaced unopened lifts wide e = absurd (cc)
opened_of_error false false false true unopened lifts wide e = absurd (cc)
opened_of_error false false false false true lifts wide e = absurd (cc)

less_apart : (stream k opened : ℕ) → nat_lt stream (2 * opened) ≡ true → 2 * opened < k → (stream == k) ≡ false
less_apart stream k opened e h = grind (arith, nat_tests, e, h)

apart_of : (opened stream k : ℕ) (odd less : Bool) → nat_lt stream (2 * opened) ≡ less → (odd && less) ≡ true → 2 * opened < k → (stream == k) ≡ false
apart_of opened stream k true true is e above = less_apart stream k opened is above
apart_of opened stream k true false is e above = absurd (cc)
apart_of opened stream k false less is e above = absurd (cc)

pub below_opened : (opened stream k : ℕ) → was_opened opened stream ≡ true → 2 * opened < k → (stream == k) ≡ false
below_opened opened stream k e above = apart_of opened stream k (stream % 2 == 1) (nat_lt stream (2 * opened)) refl e above

zero_apart : (k : ℕ) → 0 < k → (0 == k) ≡ false
zero_apart k h = grind (arith, nat_tests, h)

pub bad_by : (a b c : Bool) → a ≡ true → b ≡ false → c ≡ false → (a && not b && not c) ≡ false → ⊥
bad_by true false false e h i bad = (cc)
bad_by false b c e h i bad = (cc)
bad_by true true c e h i bad = (cc)
bad_by true false true e h i bad = (cc)

pub of_update : (kind : ℕ) → (kind == window_update_type) ≡ true → is_of_opened kind ≡ true
of_update kind e = ap is_of_opened (eqb-true kind window_update_type e)

fresh_by : (update zero_ was : Bool) (f : FrameSeen) (opened k : ℕ) → (f.kind == window_update_type) ≡ update → (f.stream == 0) ≡ zero_ → was_opened opened f.stream ≡ was
    → 2 * opened < k → (is_of_opened f.kind && not (f.stream == 0) && not (was_opened opened f.stream)) ≡ false → raise_by k f ≡ 0
fresh_by false zero_ was f opened k is none is_opened above no_error_ = (let o : ℕ = 0 in if_false ((f.kind == window_update_type) && (f.stream == k)) (increment f.payload) o (ap (λ (b : Bool). b && (f.stream == k)) is))
fresh_by true true was f opened k is none is_opened above no_error_ =
    let at : f.stream ≡ 0 = eqb-true f.stream 0 none in
    let some : 0 < k = omega (arith, above) in
    raise_none f k (ap (λ (n : ℕ). n == k) at ∙ zero_apart k some)
fresh_by true false true f opened k is none is_opened above no_error_ = raise_none f k (below_opened opened f.stream k is_opened above)
fresh_by true false false f opened k is none is_opened above no_error_ =
    absurd (bad_by (is_of_opened f.kind) (f.stream == 0) (was_opened opened f.stream) (of_update f.kind is) none is_opened no_error_)

pub fresh_quiet : (l : Link) (opened : ℕ) (r : ReadFrame) (frames : List FrameSeen) → link.is_unopened opened r.frame ≡ false → StreamsAreFresh l opened → StreamsAreFresh (with_frame_read r frames l) opened
fresh_quiet l opened r frames no_error_ fresh k above =
    let was = fresh k above in
    let zero_ : raised k l ≡ 0 = was.2 in
    let none : raise_by k r.frame ≡ 0
    = fresh_by (r.frame.kind == window_update_type) (r.frame.stream == 0) (was_opened opened r.frame.stream) r.frame opened k refl refl refl above no_error_ in
    let more : raised k (with_frame_read r frames l) ≡ raised k l + raise_by k r.frame = raised_more k l r frames in
    (used_same k l r frames ∙ was.0, ends_still l r frames k ∙ was.1, omega (arith, none, more, zero_))

-- whole
pub received_of : (end : ℕ) (f : FrameSeen) (o : Option OpenBlock) (w : Wire) (n : NextRead) (t : Report) → SameAs end f o w n (Ok t) → Received f o w t.wire
received_of end f o w (nextread.Frame r) t same = same.2
received_of end f o w nextread.Nothing t same = absurd same
received_of end f o w (nextread.Broken code) t same = absurd same

none_broken : (w : Wire) (code : ℕ) → (broke w code).wire.broken ≡ None → ⊥
none_broken w code e = (cc)

kept_by : (l : Link) (s : Seen) (w : Wire) (g : ℕ → Line) (r : ReadFrame) (q : Result Report ℕ) → SeesLink l s w g → is_allowed r.frame ≡ true
    → r.end ≡ read_bytes l + (9 + length r.frame.payload) → link.link_error w r.frame ≡ None → IsApart r.frame w
    → applied (record w { queue = sealed w.queue }) r.frame (read_after w.read (9 + length r.frame.payload)) ≡ q
    → (outcome w (read_after w.read (9 + length r.frame.payload)) q).wire.broken ≡ None
    → SeesLink (with_frame_read r (owed_for r.frame l s) l) (frame_read l.number r s) (outcome w (read_after w.read (9 + length r.frame.payload)) q).wire g
kept_by l s w g r (Err code) is allowed end no_error_ apart e whole = absurd (none_broken w code whole)
kept_by l s w g r (Ok t) is allowed end no_error_ apart e whole =
    let f : FrameSeen = r.frame in
    let seen : ℕ = read_after w.read (9 + length f.payload) in
    let v : Wire = record w { queue = sealed w.queue } in
    let frames : List FrameSeen = owed_for f l s in
    let m : Link = with_frame_read r frames l in
    let none : NoError (link.is_misplaced w.block f) (overflows_link w.window f) (list_any (overflows_streams w.live) (link.settings_of f))
    = no_error (not w.ready && not (link.is_preface f)) (f.kind == push_promise_type) (list_any is_bad_setting (link.settings_of f)) (link.is_misplaced w.block f)
    (link.is_unopened w.opened f) (overflows_link w.window f) (list_any (overflows_streams w.live) (link.settings_of f)) no_error_ in
    let unopened : link.is_unopened w.opened f ≡ false
    = opened_of_error (not w.ready && not (link.is_preface f)) (f.kind == push_promise_type) (list_any is_bad_setting (link.settings_of f)) (link.is_misplaced w.block f)
    (link.is_unopened w.opened f) (overflows_link w.window f) (list_any (overflows_streams w.live) (link.settings_of f)) no_error_ in
    let N : List Setting → Type 0 = λ ss. NoError (link.is_misplaced w.block f) (overflows_link w.window f) (list_any (overflows_streams w.live) ss) in
    let S : Result Report ℕ → Type 0 = λ x. SameAs r.end f (open_block l) v (frame_read_by None l f r.end) x in
    let same : S (Ok t) = subst S e (applied_same l v f r.end seen is.sees.reads.block is.sees.reads.table (subst N (sym (settings_same f allowed)) none)) in
    let handled : Received f (open_block l) w t.wire = unsealed f (open_block l) w t.wire (received_of r.end f (open_block l) v (frame_read_by None l f r.end) t same) in
    let left : IsUntouched (owed_controls f) v t.wire = subst (λ x. IfOk x (λ u. IsUntouched (owed_controls f) v u.wire)) e (applied_leaves f v seen apart.0 apart.1 none.placed) in
    let controls = same_owed f l s (none_goes f s (outstanding_on l s) (none_going f l s w.live is.sees.live apart.1)) in
    let D : Seen → Type 0 = λ u. SeesLink m u (record t.wire { read = seen }) g in
    let bs : List Attempt = by_stream (streaming_on l s) in
    let at : frame_read l.number r s ≡ frame_read_on r s l = ap (λ (o : Option Link). option_map_or (frame_read_on r s) o s) is.at in
    let live_is : t.wire.live ≡ w.live = left.live in
    let opened_is : t.wire.opened ≡ w.opened = left.opened in
    subst D (sym at) (record {
      at = changed_here (with_frame_read r frames) l.number s.links l is.at;
      sees = record {
        reads = after_frame l w t.wire r frames is.sees.reads handled end;
        live = subst (λ xs. StreamsAreLive m xs bs) (sym live_is) (live_quiet l r frames w.live bs apart.1 is.sees.live);
      };
      owes = owed_read l s w (record t.wire { read = seen }) r (owed_controls f) is.owes controls (same_names f) left.resizes left.queue;
      waits = left.waiting ∙ is.waits;
      fed = subst (λ xs. StreamsAreFed m (frame_read_on r s l) g xs bs) (sym live_is) (fed_quiet l s g r frames (with_frame_read r frames) w.live bs is.fed);
      wait_fed = wait_quiet l s g r frames (with_frame_read r frames) (waiting_on l s) is.wait_fed;
      opened = subst (λ xs. StreamsAreOpened 1 (2 * t.wire.opened + 1) xs) (sym live_is) (subst (λ n. StreamsAreOpened 1 (2 * n + 1) w.live) (sym opened_is) is.opened);
      fresh = subst (λ n. StreamsAreFresh m n) (sym opened_is) (fresh_quiet l w.opened r frames unopened is.fresh);
      tags = subst (λ xs. NumbersAreDistinct (map (λ x. x.tag) xs ++ t.wire.waiting)) (sym live_is) (subst (λ ns. NumbersAreDistinct (map (λ x. x.tag) w.live ++ ns)) (sym left.waiting) is.tags);
      places = is.places;
    })

judged_by : (l : Link) (s : Seen) (w : Wire) (g : ℕ → Line) (r : ReadFrame) (o : Option ℕ) → link.link_error w r.frame ≡ o → o ≡ None → SeesLink l s w g → is_allowed r.frame ≡ true
    → r.end ≡ read_bytes l + (9 + length r.frame.payload) → IsApart r.frame w → (judged w r.frame o).wire.broken ≡ None
    → SeesLink (with_frame_read r (owed_for r.frame l s) l) (frame_read l.number r s) (judged w r.frame o).wire g
judged_by l s w g r (Some code) e none is allowed end apart whole = absurd (cc)
judged_by l s w g r None e none is allowed end apart whole =
    kept_by l s w g r (applied (record w { queue = sealed w.queue }) r.frame (read_after w.read (9 + length r.frame.payload))) is allowed end e apart refl whole

pub quiet_frames_keep : QuietFramesKeep
quiet_frames_keep l s w g r is allowed end no_error_ whole apart = judged_by l s w g r (link.link_error w r.frame) refl no_error_ is allowed end apart whole
