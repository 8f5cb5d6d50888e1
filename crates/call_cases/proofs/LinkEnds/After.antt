-- All links while attempts are cut off: each is ahead of the session by the resets of its own.
use Rattle.std.proofs.Common.{◌≡◌, ◌+◌, ◌∷◌, ◌||◌, ◌&&◌, ◌==◌, not, ap, refl, subst, sym, ◌∙◌, Bool, true, false, List, [], Option, None, Some, ℕ, if◌then◌else◌, is_none, is_some, length}
use Rattle.std.proofs.lemmas.Bool.{and_parts, and_right, eqb-false, eqb-true, or_parts}
use Rattle.std.specs.List.{list_all, list_any}
use Rattle.std.specs.Option.{option_map, option_map_or}
use Rattle.attempt_ledger.specs.declared.row.Placed.{Placed}
use Rattle.call_actions.proofs.CallsApart.Moves.{all_changed}
use Rattle.channel_actions.proofs.Gone.{all_numbered}
use Rattle.channel_actions.specs.Readers as channel
use Rattle.channel_core.proofs.BookLaws.{number_changed, number_other}
use Rattle.channel_core.proofs.Resting.{changed_length}
use Rattle.channel_core.specs.Tables.{reset_in, reset_link, sealed_in, sealed_link, with_link}
use Rattle.channel_core.specs.declared.state.links.LinkSlot.{LinkSlot}
use Rattle.grpc_base.specs.ErrorCodes.{cancel}
use Rattle.grpc_link.specs.Links.{reader_in}
use Rattle.grpc_link.specs.Readers.{ReaderSeen}
use Rattle.grpc_link.specs.declared.readers.TagReader.{TagReader}
use Rattle.h2_link.specs.Feeds.{Line}
use Rattle.ledger_stamps.specs.Steps.{changed_at}
use Rattle.link_actions.proofs.Ended.{is_ended}
use Rattle.link_actions.proofs.Without as lists
use Rattle.link_actions.proofs.Without.{places_at}
use Rattle.link_actions.specs.Sees.{AttemptsStandInPlace}
use Rattle.call_cases.proofs.EndsFollow.Codes.{cut_cancels, ended_code, is_cancel}
use Rattle.call_cases.proofs.LinkEnds.Codes.{with_code}
use Rattle.call_cases.proofs.LinkEnds.Cutting.{cut_elsewhere, cut_here, end_outstanding, is_owed_on, owed_on, owes_same, readers_elsewhere, readers_here}
use Rattle.call_cases.specs.EndsFollow.Cuts.{AttemptsAreCutOff, NoStreamIsToReset, IsOut, cut_off, is_unreset}
use Rattle.call_cases.specs.LinkEnds.Cuts.{links_closed, links_cut}
use Rattle.link_actions.proofs.ResetActions.Cuts.{seals_keep}
use Rattle.link_actions.specs.ResetActions.Ahead.{SeesAhead}
use Rattle.link_actions.specs.ResetActions.Laws.{IsCut}
use Rattle.link_actions.specs.ResponseActions.Readers.{IsReaderOf, SeesReaders, attempt_on}
use Rattle.session_actions.specs.AttemptEnds.{cut_end, end_of, reset_code_of, with_end}
use Rattle.session_actions.specs.Links.{link_number, read_bytes}
use Rattle.session_actions.specs.Reading.{is_outstanding_on}
use Rattle.session_actions.specs.Responses.{is_read_by}
use Rattle.session_actions.specs.Words.{changed, holds, numbered}
use Rattle.session_actions.specs.declared.attempt.Attempt.{Attempt}
use Rattle.session_actions.specs.declared.entry.OpenEntry.{OpenEntry}
use Rattle.session_actions.specs.declared.link.Link.{Link}
use Rattle.session_actions.specs.declared.seen.Seen.{Seen}

-- readers, as a link and as the whole channel has them
reader_of : (s : Seen) (o : Option Attempt) (r : Option ReaderSeen) → channel.IsReaderOf s o r → IsReaderOf s o r
reader_of s None None k = tt
reader_of s (Some a) (Some r) k = record { opened = k.opened; head = k.head; over = k.over; limit = k.limit; rest = k.rest; whole = k.whole }
reader_of s None (Some r) k = absurd k
reader_of s (Some a) None k = absurd k

pub readers_of : (l : Link) (s : Seen) (readers : List TagReader) → channel.SeesReaders l s readers → SeesReaders l s readers
readers_of l s readers k = record { each = λ row. reader_of s (attempt_on l s row) (reader_in row readers) (k.each row); distinct = k.distinct }

of_reader : (s : Seen) (o : Option Attempt) (r : Option ReaderSeen) → IsReaderOf s o r → channel.IsReaderOf s o r
of_reader s None None k = tt
of_reader s (Some a) (Some r) k = record { opened = k.opened; head = k.head; over = k.over; limit = k.limit; rest = k.rest; whole = k.whole }
of_reader s None (Some r) k = absurd k
of_reader s (Some a) None k = absurd k

pub of_readers : (l : Link) (s : Seen) (readers : List TagReader) → SeesReaders l s readers → channel.SeesReaders l s readers
of_readers l s readers k = record { each = λ row. of_reader s (attempt_on l s row) (reader_in row readers) (k.each row); distinct = k.distinct }

-- the slot of one link, while attempts are cut off, and when what was queued is closed
abbrev pub slot_cut : ℕ → Attempt → LinkSlot → LinkSlot
slot_cut link a slot = if link_number a == link then with_link (reset_link a.place) slot else slot

abbrev pub slots_cut : ℕ → List Attempt → LinkSlot → LinkSlot
slots_cut link [] slot = slot
slots_cut link (a ∷ cuts) slot = slots_cut link cuts (slot_cut link a slot)

abbrev pub slot_closed : ℕ → Attempt → LinkSlot → LinkSlot
slot_closed link a slot = if link_number a == link then with_link sealed_link slot else slot

abbrev pub slots_closed : ℕ → List Attempt → LinkSlot → LinkSlot
slots_closed link [] slot = slot
slots_closed link (a ∷ cuts) slot = slots_closed link cuts (slot_closed link a slot)

same_some : {X : Type 0} (o : Option X) → o ≡ option_map (λ (x : X). x) o
same_some None = refl
same_some (Some x) = refl

map_twice : {X : Type 0} (f g : X → X) (o : Option X) → option_map g (option_map f o) ≡ option_map (λ (x : X). g (f x)) o
map_twice f g None = refl
map_twice f g (Some x) = refl

other_number : (m n : ℕ) → (m == n) ≡ false → n ≡ m → ⊥
other_number m n e h = eqb-false m n e (sym h)

slot_by : (f : LinkSlot → LinkSlot) (m link : ℕ) (links : List LinkSlot) (b : Bool) → (m == link) ≡ b
    → numbered (changed_at f links m) link ≡ option_map (λ (slot : LinkSlot). if b then f slot else slot) (numbered links link)
slot_by f m link links true e =
    let same : m ≡ link = eqb-true m link e in
    ap (λ (k : ℕ). numbered (changed_at f links k) link) same ∙ number_changed f links link
slot_by f m link links false e = number_other f links m link (other_number m link e) ∙ same_some (numbered links link)

pub cut_at : (link : ℕ) (cuts : List Attempt) (links : List LinkSlot)
    → numbered (links_cut cuts links) link ≡ option_map (slots_cut link cuts) (numbered links link)
cut_at link [] links = same_some (numbered links link)
cut_at link (a ∷ cuts) links =
    cut_at link cuts (reset_in (link_number a) a.place links)
    ∙ ap (option_map (slots_cut link cuts)) (slot_by (with_link (reset_link a.place)) (link_number a) link links (link_number a == link) refl)
    ∙ map_twice (slot_cut link a) (slots_cut link cuts) (numbered links link)

pub closed_at : (link : ℕ) (cuts : List Attempt) (links : List LinkSlot)
    → numbered (links_closed cuts links) link ≡ option_map (slots_closed link cuts) (numbered links link)
closed_at link [] links = same_some (numbered links link)
closed_at link (a ∷ cuts) links =
    closed_at link cuts (sealed_in (link_number a) links)
    ∙ ap (option_map (slots_closed link cuts)) (slot_by (with_link sealed_link) (link_number a) link links (link_number a == link) refl)
    ∙ map_twice (slot_closed link a) (slots_closed link cuts) (numbered links link)

pub cut_length : (cuts : List Attempt) (links : List LinkSlot) → length (links_cut cuts links) ≡ length links
cut_length [] links = refl
cut_length (a ∷ cuts) links =
    cut_length cuts (reset_in (link_number a) a.place links) ∙ changed_length (with_link (reset_link a.place)) links (link_number a)

pub closed_length : (cuts : List Attempt) (links : List LinkSlot) → length (links_closed cuts links) ≡ length links
closed_length [] links = refl
closed_length (a ∷ cuts) links = closed_length cuts (sealed_in (link_number a) links) ∙ changed_length (with_link sealed_link) links (link_number a)

-- what a slot keeps
pub record IsKeptSlot (slot after : LinkSlot) : Type 0 where
  pub dead : after.dead ≡ slot.dead
  pub retiring : after.retiring ≡ slot.retiring
  pub rest : after.link.link.rest ≡ slot.link.link.rest

kept_if : (f : LinkSlot → LinkSlot) → ((slot : LinkSlot) → IsKeptSlot slot (f slot)) → (b : Bool) (slot : LinkSlot) → IsKeptSlot slot (if b then f slot else slot)
kept_if f keeps true slot = keeps slot
kept_if f keeps false slot = record { dead = refl; retiring = refl; rest = refl }

kept_on : (a b c : LinkSlot) → IsKeptSlot a b → IsKeptSlot b c → IsKeptSlot a c
kept_on a b c one two = record { dead = two.dead ∙ one.dead; retiring = two.retiring ∙ one.retiring; rest = two.rest ∙ one.rest }

pub cut_keeps : (link : ℕ) (cuts : List Attempt) (slot : LinkSlot) → IsKeptSlot slot (slots_cut link cuts slot)
cut_keeps link [] slot = record { dead = refl; retiring = refl; rest = refl }
cut_keeps link (a ∷ cuts) slot =
    kept_on slot (slot_cut link a slot) (slots_cut link cuts (slot_cut link a slot))
    (kept_if (with_link (reset_link a.place)) (λ x. record { dead = refl; retiring = refl; rest = refl }) (link_number a == link) slot)
    (cut_keeps link cuts (slot_cut link a slot))

pub closed_keeps : (link : ℕ) (cuts : List Attempt) (slot : LinkSlot) → IsKeptSlot slot (slots_closed link cuts slot)
closed_keeps link [] slot = record { dead = refl; retiring = refl; rest = refl }
closed_keeps link (a ∷ cuts) slot =
    kept_on slot (slot_closed link a slot) (slots_closed link cuts (slot_closed link a slot))
    (kept_if (with_link sealed_link) (λ x. record { dead = refl; retiring = refl; rest = refl }) (link_number a == link) slot)
    (closed_keeps link cuts (slot_closed link a slot))

-- one link
pub record AtLink (l : Link) (s : Seen) (g : ℕ → Line) (slot : LinkSlot) : Type 0 where
  pub cut : IsCut (with_code cancel (owed_on l.number s)) l s slot.link.link.wire g
  pub readers : SeesReaders l s slot.link.readers

pub on_placed : (n : ℕ) (o : Option Placed) → is_some o ≡ true → (option_map_or (λ (at : Placed). at.link) o 0 == n) ≡ true → holds (λ (at : Placed). at.link == n) o ≡ true
on_placed n None some e = absurd (cc)
on_placed n (Some at) some e = e

pub off_placed : (n : ℕ) (o : Option Placed) → is_some o ≡ true → (option_map_or (λ (at : Placed). at.link) o 0 == n) ≡ false → holds (λ (at : Placed). at.link == n) o ≡ false
off_placed n None some e = absurd (cc)
off_placed n (Some at) some e = e

unreset_by : (b c : Bool) → b ≡ false → (b || not c) ≡ true → c ≡ false
unreset_by true c e h = absurd (cc)
unreset_by false true e h = absurd (cc)
unreset_by false false e h = refl

-- what the session keeps while attempts are cut off
pub record IsCutting (s : Seen) : Type 0 where
  pub places : AttemptsStandInPlace 1 s.attempts
  pub unreset : NoStreamIsToReset s
  pub cancels : list_all (λ (b : Attempt). is_cancel (reset_code_of s b)) s.attempts ≡ true

module _ (s : Seen) (a : Attempt) (out : IsOut s a) (is : IsCutting s) where
  abbrev u : Seen
  u = cut_off a s

  abbrev f : Attempt → Attempt
  f = with_end (end_of a cut_end s)

  attempts_are : u.attempts ≡ changed f a.place s.attempts
  attempts_are = ap (λ (v : Seen). v.attempts) (is_ended s a.place (end_of a cut_end s) a is.places out.there)

  placed_still : AttemptsStandInPlace 1 u.attempts
  placed_still =
      subst (AttemptsStandInPlace 1) (sym (attempts_are ∙ lists.changed_at f a.place s.attempts a is.places out.there))
      (places_at f (λ b. refl) a.place 1 s.attempts is.places)

  cancel_same : (xs : List Attempt) → list_all (λ (b : Attempt). is_cancel (reset_code_of u b)) xs ≡ list_all (λ (b : Attempt). is_cancel (reset_code_of s b)) xs
  cancel_same [] = refl
  cancel_same (b ∷ xs) =
      ap (λ (o : Option ℕ). is_cancel o && list_all (λ (b : Attempt). is_cancel (reset_code_of u b)) xs) (ended_code s a.place a (end_of a cut_end s) is.places out.there b)
      ∙ ap (λ (c : Bool). is_cancel (reset_code_of s b) && c) (cancel_same xs)

  pub cut_still : IsCutting u
  cut_still = record {
    places = placed_still;
    unreset = subst (λ (xs : List Attempt). list_all is_unreset xs ≡ true) (sym attempts_are) (all_changed is_unreset f (λ b e. refl) a.place s.attempts is.unreset);
    cancels = subst (λ (xs : List Attempt). list_all (λ (b : Attempt). is_cancel (reset_code_of u b)) xs ≡ true) (sym attempts_are)
        (all_changed (λ (b : Attempt). is_cancel (reset_code_of u b)) f (λ b e. cut_cancels s a u b) a.place s.attempts (cancel_same s.attempts ∙ is.cancels));
  }

  pub unreset_one : a.reset ≡ false
  unreset_one =
      unreset_by (is_some a.row.ended) a.reset (ap (λ (o : Option _). is_some o) (end_outstanding a.row.placed a.row.ended out.outstanding))
      (all_numbered is_unreset s.attempts a.place a out.there is.unreset)

  module _ (l : Link) (g : ℕ → Line) (goes : l.over ≡ None) (reads : list_all (is_read_by (read_bytes l)) l.traffic ≡ true) where
    some_placed : is_some a.row.placed ≡ true
    some_placed = (and_parts (is_some a.row.placed) (is_none a.row.ended) out.outstanding).0

    step_by : (b : Bool) (slot : LinkSlot) → (link_number a == l.number) ≡ b → AtLink l s g slot
        → AtLink l u g (if b then with_link (reset_link a.place) slot else slot)
    step_by true slot e at =
        let on : is_outstanding_on l a ≡ true
        = ap (λ (b : Bool). b && holds (λ (at : Placed). at.link == l.number) a.row.placed) out.outstanding ∙ on_placed l.number a.row.placed some_placed e in
        record {
          cut = cut_here s a out is.places l slot.link.link.wire g on goes unreset_one reads e at.cut;
          readers = readers_here s a out is.places l slot.link.readers at.readers;
        }
    step_by false slot e at =
        let off : is_outstanding_on l a ≡ false
        = ap (λ (b : Bool). b && holds (λ (at : Placed). at.link == l.number) a.row.placed) out.outstanding ∙ off_placed l.number a.row.placed some_placed e in
        let none : is_owed_on l.number u (with_end (end_of a cut_end s) a) ≡ false = and_right (is_some (reset_code_of u (with_end (end_of a cut_end s) a))) (link_number a == l.number) e in
        record {
          cut = subst (λ (ns : List ℕ). IsCut (with_code cancel ns) l u slot.link.link.wire g) (sym (owes_same s a out is.places l.number none))
              (cut_elsewhere s a out is.places l off (with_code cancel (owed_on l.number s)) slot.link.link.wire g at.cut);
          readers = readers_elsewhere s a out is.places l off slot.link.readers at.readers;
        }

    pub link_step : (slot : LinkSlot) → AtLink l s g slot → AtLink l u g (slot_cut l.number a slot)
    link_step slot at = step_by (link_number a == l.number) slot refl at

-- all of them
pub cuts_still : (cuts : List Attempt) (s t : Seen) → AttemptsAreCutOff cuts s t → IsCutting s → IsCutting t
cuts_still [] s t off is = subst IsCutting (sym off) is
cuts_still (a ∷ cuts) s t off is = cuts_still cuts (cut_off a s) t off.1 (cut_still s a off.0 is)

pub link_walk : (l : Link) (g : ℕ → Line) (cuts : List Attempt) (s t : Seen) → l.over ≡ None → list_all (is_read_by (read_bytes l)) l.traffic ≡ true → AttemptsAreCutOff cuts s t → IsCutting s
    → (slot : LinkSlot) → AtLink l s g slot → AtLink l t g (slots_cut l.number cuts slot)
link_walk l g [] s t goes reads off is slot at = subst (λ (v : Seen). AtLink l v g slot) (sym off) at
link_walk l g (a ∷ cuts) s t goes reads off is slot at =
    link_walk l g cuts (cut_off a s) t goes reads off.1 (cut_still s a off.0 is) (slot_cut l.number a slot) (link_step s a off.0 is l g goes reads slot at)

some_map : {X Y : Type 0} (f : X → Y) (o : Option X) → is_some (option_map f o) ≡ is_some o
some_map f None = refl
some_map f (Some x) = refl

links_one : (s : Seen) (a : Attempt) → IsOut s a → AttemptsStandInPlace 1 s.attempts → ((cut_off a s).links ≡ s.links) × (is_some (cut_off a s).current ≡ is_some s.current)
links_one s a out places = (
  ap (λ (v : Seen). v.links) (is_ended s a.place (end_of a cut_end s) a places out.there),
  ap (λ (v : Seen). is_some v.current) (is_ended s a.place (end_of a cut_end s) a places out.there)
      ∙ some_map (λ (p : OpenEntry). record p { drawn = p.drawn + (if is_some (end_of a cut_end s).word then 1 else 0) }) s.current,
)

pub links_still : (cuts : List Attempt) (s t : Seen) → AttemptsAreCutOff cuts s t → IsCutting s → (t.links ≡ s.links) × (is_some t.current ≡ is_some s.current)
links_still [] s t off is = (ap (λ (v : Seen). v.links) off, ap (λ (v : Seen). is_some v.current) off)
links_still (a ∷ cuts) s t off is =
    let rest : (t.links ≡ (cut_off a s).links) × (is_some t.current ≡ is_some (cut_off a s).current) = links_still cuts (cut_off a s) t off.1 (cut_still s a off.0 is) in
    let one : ((cut_off a s).links ≡ s.links) × (is_some (cut_off a s).current ≡ is_some s.current) = links_one s a off.0 is.places in
    (rest.0 ∙ one.0, rest.1 ∙ one.1)

-- what was queued on links is closed: nothing that is queued from then on stands among it
module _ (l : Link) (s : Seen) (g : ℕ → Line) where
  ahead_if : (resets : List (ℕ × ℕ)) (b : Bool) (slot : LinkSlot) → SeesAhead resets l s slot.link.link.wire g
      → SeesAhead resets l s (if b then with_link sealed_link slot else slot).link.link.wire g
  ahead_if resets true slot is = seals_keep resets l s slot.link.link.wire g is
  ahead_if resets false slot is = is

  pub closed_ahead : (link : ℕ) (cuts : List Attempt) (resets : List (ℕ × ℕ)) (slot : LinkSlot) → SeesAhead resets l s slot.link.link.wire g
      → SeesAhead resets l s (slots_closed link cuts slot).link.link.wire g
  closed_ahead link [] resets slot is = is
  closed_ahead link (a ∷ cuts) resets slot is =
      closed_ahead link cuts resets (slot_closed link a slot) (ahead_if resets (link_number a == link) slot is)

readers_if : (b : Bool) (slot : LinkSlot) → (if b then with_link sealed_link slot else slot).link.readers ≡ slot.link.readers
readers_if true slot = refl
readers_if false slot = refl

pub closed_readers : (link : ℕ) (cuts : List Attempt) (slot : LinkSlot) → (slots_closed link cuts slot).link.readers ≡ slot.link.readers
closed_readers link [] slot = refl
closed_readers link (a ∷ cuts) slot = closed_readers link cuts (slot_closed link a slot) ∙ readers_if (link_number a == link) slot

fresh_if : (b : Bool) (slot : LinkSlot) → slot.link.link.wire.queue.fresh ≡ 0 → (if b then with_link sealed_link slot else slot).link.link.wire.queue.fresh ≡ 0
fresh_if true slot e = refl
fresh_if false slot e = e

fresh_stays : (link : ℕ) (cuts : List Attempt) (slot : LinkSlot) → slot.link.link.wire.queue.fresh ≡ 0 → (slots_closed link cuts slot).link.link.wire.queue.fresh ≡ 0
fresh_stays link [] slot e = e
fresh_stays link (a ∷ cuts) slot e = fresh_stays link cuts (slot_closed link a slot) (fresh_if (link_number a == link) slot e)

-- one of them was on the link; or none was
some_by : (link : ℕ) (a : Attempt) (cuts : List Attempt) (slot : LinkSlot) (b : Bool) → (link_number a == link) ≡ b
    → (b || list_any (λ (x : Attempt). link_number x == link) cuts) ≡ true
    → (list_any (λ (x : Attempt). link_number x == link) cuts ≡ true → (slots_closed link cuts (slot_closed link a slot)).link.link.wire.queue.fresh ≡ 0)
    → (slots_closed link cuts (slot_closed link a slot)).link.link.wire.queue.fresh ≡ 0
some_by link a cuts slot true h e next =
    fresh_stays link cuts (slot_closed link a slot) (ap (λ (c : Bool). (if c then with_link sealed_link slot else slot).link.link.wire.queue.fresh) h)
some_by link a cuts slot false h e next = next e

pub some_closed : (link : ℕ) (cuts : List Attempt) (slot : LinkSlot) → list_any (λ (a : Attempt). link_number a == link) cuts ≡ true
    → (slots_closed link cuts slot).link.link.wire.queue.fresh ≡ 0
some_closed link [] slot e = absurd (cc)
some_closed link (a ∷ cuts) slot e = some_by link a cuts slot (link_number a == link) refl e (some_closed link cuts (slot_closed link a slot))

none_cut : (link : ℕ) (cuts : List Attempt) (slot : LinkSlot) → list_any (λ (a : Attempt). link_number a == link) cuts ≡ false → slots_cut link cuts slot ≡ slot
none_cut link [] slot e = refl
none_cut link (a ∷ cuts) slot e =
    let parts : ((link_number a == link) ≡ false) × (list_any (λ (x : Attempt). link_number x == link) cuts ≡ false)
    = or_parts (link_number a == link) (list_any (λ (x : Attempt). link_number x == link) cuts) e in
    none_cut link cuts (slot_cut link a slot) parts.1 ∙ ap (λ (c : Bool). if c then with_link (reset_link a.place) slot else slot) parts.0

closed_by : (link : ℕ) (cuts : List Attempt) (slot : LinkSlot) (b : Bool) → list_any (λ (a : Attempt). link_number a == link) cuts ≡ b → slot.link.link.wire.queue.fresh ≡ 0
    → (slots_closed link cuts (slots_cut link cuts slot)).link.link.wire.queue.fresh ≡ 0
closed_by link cuts slot true e closed = some_closed link cuts (slots_cut link cuts slot) e
closed_by link cuts slot false e closed =
    fresh_stays link cuts (slots_cut link cuts slot) (ap (λ (x : LinkSlot). x.link.link.wire.queue.fresh) (none_cut link cuts slot e) ∙ closed)

pub all_closed : (link : ℕ) (cuts : List Attempt) (slot : LinkSlot) → slot.link.link.wire.queue.fresh ≡ 0
    → (slots_closed link cuts (slots_cut link cuts slot)).link.link.wire.queue.fresh ≡ 0
all_closed link cuts slot closed = closed_by link cuts slot (list_any (λ (a : Attempt). link_number a == link) cuts) refl closed
