-- The frame that the bytes of a link show next, as the link and the session read it.
use Rattle.std.proofs.Common.{◌≡◌, ◌+◌, ◌&&◌, ◌||◌, ◌∷◌, ◌++◌, ◌≤◌, ap, arith, refl, subst, sym, ◌∙◌, Bool, true, false, List, [], Option, None, Some, ℕ, drop, if◌then◌else◌, is_none, length, take}
use Rattle.std.proofs.lemmas.List.{length-take-le}
use Rattle.std.specs.List.{list_all}
use Rattle.std.specs.Option.{option_and_then}
use Rattle.std.specs.Prelude.{Err, Ok, Result}
use Rattle.grpc_base.specs.ErrorCodes.{enhance_your_calm}
use Rattle.grpc_base.specs.declared.fields.Field.{Field}
use Rattle.h2_frame.proofs.FrameLaws.{whole_is_frame}
use Rattle.h2_frame.specs.Frames.{FrameSeen, IsFrame, Spells, is_allowed}
use Rattle.h2_frame.specs.Readings.{Fault, Partial, Reading, Whole, reading_of}
use Rattle.h2_hpack.specs.declared.fault.HpackFault.{HpackFault}
use Rattle.h2_link.specs.Feeds.{Line}
use Rattle.h2_link.specs.Wire.{Wire}
use Rattle.link_actions.proofs.Judged.{frames_are_judged}
use Rattle.link_actions.specs.ResponseActions.Gained.{is_listed_fairly}
use Rattle.link_actions.specs.StreamActions.Laws.{Comes}
use Rattle.link_actions.specs.StreamActions.Sees.{SeesStreams}
use Rattle.session_actions.specs.Links.{read_bytes}
use Rattle.session_actions.specs.Reading.{block_read, block_with, frame_read_by, is_last_of_block, is_long_block, is_of_block, link_error, next_fields, next_read, next_read_by, open_block, part_read, plain_read}
use Rattle.session_actions.specs.Words.{numbered}
use Rattle.session_actions.specs.Writing.{next_frame_read, read_action, read_next, with_frame_read}
use Rattle.session_actions.specs.declared.action.Action.TheVariants as action
use Rattle.session_actions.specs.declared.link.Link.{Link}
use Rattle.session_actions.specs.declared.link.LinkOver.{LinkOver}
use Rattle.session_actions.specs.declared.link.NextRead.{NextRead}
use Rattle.session_actions.specs.declared.link.NextRead.TheVariants as nextread
use Rattle.session_actions.specs.declared.link.OpenBlock.{OpenBlock}
use Rattle.session_actions.specs.declared.link.ReadFrame.{ReadFrame}
use Rattle.session_actions.specs.declared.link.Traffic.{Traffic}
use Rattle.session_actions.specs.declared.link.Traffic.TheVariants as traffic
use Rattle.session_actions.specs.declared.seen.Seen.{Seen}

-- a link of which a frame is read is not over, and its bytes show the frame
pub record ShowsFrame (link : ℕ) (l : Link) (s : Seen) (r : ReadFrame) : Type 0 where
  pub unbroken : l.over ≡ None
  pub shows : next_read l s ≡ nextread.Frame r

none_of_it : (o : Option LinkOver) → is_none o ≡ true → o ≡ None
none_of_it None e = refl
none_of_it (Some why) e = absurd (cc)

shows_by : (link : ℕ) (n : NextRead) (r : ReadFrame) → read_action link n ≡ Some (action.FrameRead link r) → n ≡ nextread.Frame r
shows_by link nextread.Nothing r e = absurd (cc)
shows_by link (nextread.Frame q) r e = let same : q ≡ r = (cc) in ap (λ (z : ReadFrame). nextread.Frame z) same
shows_by link (nextread.Broken code) r e = absurd (cc)

shows_if : (link : ℕ) (l : Link) (s : Seen) (r : ReadFrame) (b : Bool) → is_none l.over ≡ b → (if b then read_action link (next_read l s) else None) ≡ Some (action.FrameRead link r) → ShowsFrame link l s r
shows_if link l s r true none e = record { unbroken = none_of_it l.over none; shows = shows_by link (next_read l s) r e }
shows_if link l s r false none e = absurd (cc)

pub shows_frame : (link : ℕ) (l : Link) (s : Seen) (r : ReadFrame) → numbered s.links link ≡ Some l → next_frame_read link s ≡ Some (action.FrameRead link r) → ShowsFrame link l s r
shows_frame link l s r here next = shows_if link l s r (is_none l.over) refl (sym (ap (option_and_then (read_next link s)) here) ∙ next)

-- it is this frame, and ends there
abbrev IsOf : FrameSeen → ℕ → NextRead → Type 0
IsOf f end (nextread.Frame r) = (r.frame ≡ f) × (r.end ≡ end)
IsOf f end _ = Unit {0}

of_if : (f : FrameSeen) (end code : ℕ) (b : Bool) (n : NextRead) → IsOf f end n → IsOf f end (if b then nextread.Broken code else n)
of_if f end code true n h = tt
of_if f end code false n h = h

of_block : (f : FrameSeen) (end : ℕ) (b : OpenBlock) (x : Result (List Field) HpackFault) → IsOf f end (block_read f end b x)
of_block f end b (Err fault) = tt
of_block f end b (Ok fields) =
    of_if f end enhance_your_calm (is_long_block b) (nextread.Frame (record { frame = f; end = end; block = Some (record { fields = fields; ends = b.ends }) })) (refl, refl)

of_part : (f : FrameSeen) (end : ℕ) (l : Link) (b : OpenBlock) (last : Bool)
    → IsOf f end (if last then block_read f end b (next_fields l b.bytes) else if is_long_block b then nextread.Broken enhance_your_calm else plain_read f end)
of_part f end l b true = of_block f end b (next_fields l b.bytes)
of_part f end l b false = of_if f end enhance_your_calm (is_long_block b) (plain_read f end) (refl, refl)

of_frame : (f : FrameSeen) (end : ℕ) (l : Link) (b : Bool) → IsOf f end (if b then part_read l f end (block_with (open_block l) f) else plain_read f end)
of_frame f end l true = of_part f end l (block_with (open_block l) f) (is_last_of_block f)
of_frame f end l false = (refl, refl)

-- the reading of it
pub record IsReading (l : Link) (s : Seen) (r : ReadFrame) (bytes : List ℕ) : Type 0 where
  pub size : ℕ
  pub is : reading_of bytes ≡ Whole r.frame size
  pub end : r.end ≡ read_bytes l + size
  pub fair : link_error l r.frame s ≡ None
  pub next : frame_read_by None l r.frame r.end ≡ nextread.Frame r

by_error : (l : Link) (s : Seen) (r : ReadFrame) (bytes : List ℕ) (f : FrameSeen) (size : ℕ) (o : Option ℕ) → reading_of bytes ≡ Whole f size → link_error l f s ≡ o
    → frame_read_by o l f (read_bytes l + size) ≡ nextread.Frame r → IsReading l s r bytes
by_error l s r bytes f size (Some code) is fair e = absurd (let no : ⊥ = (cc) in no)
by_error l s r bytes f size None is fair e =
    let both : (r.frame ≡ f) × (r.end ≡ read_bytes l + size)
    = subst (IsOf f (read_bytes l + size)) e (of_frame f (read_bytes l + size) l (is_of_block f)) in
    record {
      size = size;
      is = is ∙ ap (λ (z : FrameSeen). Whole z size) (sym both.0);
      end = both.1;
      fair = ap (λ (z : FrameSeen). link_error l z s) both.0 ∙ fair;
      next = ap (λ (z : FrameSeen). frame_read_by None l z r.end) both.0 ∙ ap (frame_read_by None l f) both.1 ∙ e;
    }

by_reading : (l : Link) (s : Seen) (r : ReadFrame) (bytes : List ℕ) (x : Reading) → reading_of bytes ≡ x → next_read_by x l s ≡ nextread.Frame r → IsReading l s r bytes
by_reading l s r bytes Partial is e = absurd (let no : ⊥ = (cc) in no)
by_reading l s r bytes (Fault code) is e = absurd (let no : ⊥ = (cc) in no)
by_reading l s r bytes (Whole f size) is e = by_error l s r bytes f size (link_error l f s) is refl e

pub reads_so : (l : Link) (s : Seen) (r : ReadFrame) (bytes : List ℕ) → drop (read_bytes l) l.received ≡ bytes → next_read l s ≡ nextread.Frame r → IsReading l s r bytes
reads_so l s r bytes same shows =
    by_reading l s r bytes (reading_of bytes) refl (ap (λ (b : List ℕ). next_read_by (reading_of b) l s) (sym same) ∙ shows)

-- how long it is
spelled : (text : List ℕ) (f : FrameSeen) → Spells text f → length text ≡ 9 + length f.payload
spelled (a ∷ b ∷ c ∷ kind ∷ flags ∷ p ∷ q ∷ r ∷ s ∷ payload) f said =
    let same : length payload ≡ length f.payload = ap (λ (g : FrameSeen). length g.payload) (sym said.1) in omega (arith, same)
spelled [] f said = absurd said
spelled (a ∷ []) f said = absurd said
spelled (a ∷ b ∷ []) f said = absurd said
spelled (a ∷ b ∷ c ∷ []) f said = absurd said
spelled (a ∷ b ∷ c ∷ d ∷ []) f said = absurd said
spelled (a ∷ b ∷ c ∷ d ∷ e ∷ []) f said = absurd said
spelled (a ∷ b ∷ c ∷ d ∷ e ∷ g ∷ []) f said = absurd said
spelled (a ∷ b ∷ c ∷ d ∷ e ∷ g ∷ h ∷ []) f said = absurd said
spelled (a ∷ b ∷ c ∷ d ∷ e ∷ g ∷ h ∷ i ∷ []) f said = absurd said

pub record HasCome (l : Link) (w : Wire) (r : ReadFrame) (size : ℕ) (bytes : List ℕ) : Type 0 where
  pub comes : Comes l w r
  pub within : size ≤ length bytes

pub has_come : (l : Link) (s : Seen) (w : Wire) (g : ℕ → Line) (r : ReadFrame) (bytes : List ℕ) → SeesStreams l s w g → (is : IsReading l s r bytes) → HasCome l w r is.size bytes
has_come l s w g r bytes sees is =
    let whole : (is.size ≤ length bytes) × IsFrame (take is.size bytes) r.frame = whole_is_frame bytes r.frame is.size is.is in
    let allowed : is_allowed r.frame ≡ true = whole.1.allowed in
    let size : is.size ≡ 9 + length r.frame.payload = sym (length-take-le is.size bytes whole.0) ∙ spelled (take is.size bytes) r.frame whole.1.spells in
    record {
      comes = record {
        allowed = allowed;
        end = is.end ∙ ap (λ (n : ℕ). read_bytes l + n) size;
        fair = sym (frames_are_judged l s w r.frame sees.sees.sees allowed) ∙ is.fair;
        next = is.next;
      };
      within = whole.0;
    }

both_parts : (a b : Bool) → (a && b) ≡ true → (a ≡ true) × (b ≡ true)
both_parts true true e = (refl, refl)
both_parts true false e = absurd (cc)
both_parts false b e = absurd (cc)

-- header lists stand with frames of header blocks alone
abbrev IsListed : NextRead → Type 0
IsListed (nextread.Frame r) = (is_of_block r.frame || is_none r.block) ≡ true
IsListed _ = Unit {0}

listed_if : (code : ℕ) (b : Bool) (n : NextRead) → IsListed n → IsListed (if b then nextread.Broken code else n)
listed_if code true n h = tt
listed_if code false n h = h

or_yes : (a b : Bool) → a ≡ true → (a || b) ≡ true
or_yes true b e = refl
or_yes false b e = absurd (cc)

or_else : (a : Bool) → (a || true) ≡ true
or_else true = refl
or_else false = refl

listed_block : (f : FrameSeen) (end : ℕ) (b : OpenBlock) (x : Result (List Field) HpackFault) → is_of_block f ≡ true → IsListed (block_read f end b x)
listed_block f end b (Err fault) e = tt
listed_block f end b (Ok fields) e =
    listed_if enhance_your_calm (is_long_block b) (nextread.Frame (record { frame = f; end = end; block = Some (record { fields = fields; ends = b.ends }) })) (or_yes (is_of_block f) false e)

listed_part : (f : FrameSeen) (end : ℕ) (l : Link) (b : OpenBlock) (last : Bool) → is_of_block f ≡ true
    → IsListed (if last then block_read f end b (next_fields l b.bytes) else if is_long_block b then nextread.Broken enhance_your_calm else plain_read f end)
listed_part f end l b true e = listed_block f end b (next_fields l b.bytes) e
listed_part f end l b false e = listed_if enhance_your_calm (is_long_block b) (plain_read f end) (or_else (is_of_block f))

listed_frame : (f : FrameSeen) (end : ℕ) (l : Link) (b : Bool) → is_of_block f ≡ b → IsListed (if b then part_read l f end (block_with (open_block l) f) else plain_read f end)
listed_frame f end l true e = listed_part f end l (block_with (open_block l) f) (is_last_of_block f) e
listed_frame f end l false e = or_else (is_of_block f)

all_more : (ts : List Traffic) (t : Traffic) → list_all is_listed_fairly ts ≡ true → is_listed_fairly t ≡ true → list_all is_listed_fairly (ts ++ t ∷ []) ≡ true
all_more [] t all one = ap (λ (b : Bool). b && true) one
all_more (x ∷ ts) t all one =
    let parts = both_parts (is_listed_fairly x) (list_all is_listed_fairly ts) all in
    ap (λ (b : Bool). b && list_all is_listed_fairly (ts ++ t ∷ [])) parts.0 ∙ all_more ts t parts.1 one

pub listed_more : (l : Link) (r : ReadFrame) (frames : List FrameSeen) → list_all is_listed_fairly l.traffic ≡ true → frame_read_by None l r.frame r.end ≡ nextread.Frame r
    → list_all is_listed_fairly (with_frame_read r frames l).traffic ≡ true
listed_more l r frames all next =
    all_more l.traffic (traffic.Read r) all (subst IsListed next (listed_frame r.frame r.end l (is_of_block r.frame) refl))
