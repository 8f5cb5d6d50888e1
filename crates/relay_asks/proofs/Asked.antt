-- What a stream asks of all that happens to it: its request's messages, their end, and that it is given up.
use Rattle.std.proofs.Common.{◌≡◌, ℕ, Bool, true, false, List, [], ◌∷◌, ◌++◌, refl, sym, ◌∙◌, ap, ap₂, Some, None, append_assoc, append-nil}
use Rattle.std.specs.Prelude.{Option, ◌&&◌, ◌||◌, if◌then◌else◌, is_none, is_some, map, option_to_list}
use Rattle.std.proofs.lemmas.List.{map-append}
use Rattle.grpc_base.specs.Limits.{message_limit}
use Rattle.grpc_base.specs.declared.code.Code.{Code}
use Rattle.grpc_frame.specs.declared.next.MessageFault.{MessageFault}
use Rattle.grpc_frame.specs.Messages.{messages_of}
use Rattle.grpc_frame.specs.Reader.{Given, ReaderSeen, given, given_by, reader_of}
use Rattle.grpc_frame.proofs.MessageLaws.{pieces_fault, pieces_messages, pieces_reader}
use Rattle.relay_asks.specs.declared.ask.RelayAsk.{RelayAsk}
use Rattle.relay_asks.specs.declared.ask.RelayAsk.TheVariants as ask
use Rattle.relay_asks.specs.Asking.{Asking, Report, code_of, judged, opened, sent}
use Rattle.relay_asks.specs.Laws.{Moment, Came, Ended, Answered, Broke, asked_of, asks_from, before_answer, breaks_off, ends, messages_in, statuses_from, text_in}

abbrev whole_of : ℕ → List ℕ → List (List ℕ)
whole_of limit t = (messages_of limit t).whole

abbrev fault_in : ℕ → List ℕ → Option MessageFault
fault_in limit t = (messages_of limit t).fault

abbrev stream_at : ℕ → Bool → Bool → ReaderSeen → Asking
stream_at n a o r = record { number = n; asking = a; is_open = o; reader = r }

abbrev finish : ℕ → Bool → List RelayAsk
finish n b = if b then ask.Finish n ∷ [] else []

abbrev cancel : ℕ → Bool → List RelayAsk
cancel n b = if b then ask.Cancel n ∷ [] else []

-- what is asked of a request with this text, and this one before the answer
abbrev closed : ℕ → ℕ → Bool → List ℕ → List ℕ → Bool → Bool → List RelayAsk
closed limit n o t u ended broke =
    map (sent n) (whole_of limit t) ++ finish n (ended && is_none (fault_in limit t)) ++ cancel n (o && (broke || is_some (fault_in limit u)))

-- what DATA makes of a stream that asks
abbrev fed_by : ℕ → Bool → ReaderSeen → List (List ℕ) → Option MessageFault → Report
fed_by n o r messages f =
    let j = judged (stream_at n true o r) f in
    record j { asks = map (sent n) messages ++ j.asks }

cancel_none : (n : ℕ) (o : Bool) → cancel n (o && false) ≡ []
cancel_none n true = refl
cancel_none n false = refl

cancel_all : (n : ℕ) (o : Bool) → cancel n o ≡ cancel n (o && true)
cancel_all n true = refl
cancel_all n false = refl

cancel_fault : (n : ℕ) (o broke : Bool) → cancel n (o && (broke || true)) ≡ cancel n o
cancel_fault n true true = refl
cancel_fault n true false = refl
cancel_fault n false true = refl
cancel_fault n false false = refl

finish_none : (n : ℕ) (ended : Bool) → finish n (ended && false) ≡ []
finish_none n true = refl
finish_none n false = refl

or_false : (b : Bool) → (b || false) ≡ b
or_false true = refl
or_false false = refl

-- a stream that asks nothing
pub nothing_asked : (n : ℕ) (r : ReaderSeen) (ms : List Moment) → asks_from (record { number = n; asking = false; is_open = false; reader = r }) ms ≡ []
nothing_asked n r [] = refl
nothing_asked n r (Came t ∷ ms) = nothing_asked n r ms
nothing_asked n r (Ended ∷ ms) = nothing_asked n r ms
nothing_asked n r (Answered ∷ ms) = nothing_asked n r ms
nothing_asked n r (Broke ∷ ms) = nothing_asked n r ms

quiet : (n : ℕ) (o : Bool) (r : ReaderSeen) (ms : List Moment) → statuses_from (stream_at n false o r) ms ≡ []
quiet n o r [] = refl
quiet n o r (Came t ∷ ms) = quiet n o r ms
quiet n o r (Ended ∷ ms) = quiet n o r ms
quiet n o r (Answered ∷ ms) = quiet n false r ms
quiet n o r (Broke ∷ ms) = quiet n false r ms

pub nothing_reported : (n : ℕ) (r : ReaderSeen) (ms : List Moment) → statuses_from (record { number = n; asking = false; is_open = false; reader = r }) ms ≡ []
nothing_reported n r ms = quiet n false r ms

broke_off : (n : ℕ) (o : Bool) (r : ReaderSeen) (ms : List Moment) → cancel n o ++ asks_from (stream_at n false false r) ms ≡ cancel n (o && true)
broke_off n o r ms =
    ap (λ (l : List RelayAsk). cancel n o ++ l) (nothing_asked n r ms) ∙ (append-nil (cancel n o) ∙ cancel_all n o)

-- after the end of its request a stream may be given up
after_end : (n : ℕ) (o : Bool) (r : ReaderSeen) (ms : List Moment) → asks_from (stream_at n false o r) ms ≡ cancel n (o && breaks_off (before_answer ms))
after_end n o r [] = sym (cancel_none n o)
after_end n o r (Came t ∷ ms) = after_end n o r ms
after_end n o r (Ended ∷ ms) = after_end n o r ms
after_end n o r (Answered ∷ ms) = nothing_asked n r ms ∙ sym (cancel_none n o)
after_end n o r (Broke ∷ ms) = broke_off n o r ms

-- a fault stays, whatever follows
record Stays (limit : ℕ) (t x : List ℕ) (f : MessageFault) : Type 0 where
  whole : whole_of limit (t ++ x) ≡ whole_of limit t
  fault : fault_in limit (t ++ x) ≡ Some f

stays : (limit : ℕ) (t x : List ℕ) (f : MessageFault) → fault_in limit t ≡ Some f → Stays limit t x f
stays limit t x f e =
    let r = reader_of limit t in
    let g : given r x ≡ given_by r (Some f) x = ap (λ (o : Option MessageFault). given_by r o x) e in
    record {
      whole = pieces_messages limit t x ∙ (ap (λ (v : Given). whole_of limit t ++ v.messages) g ∙ append-nil (whole_of limit t));
      fault = pieces_fault limit t x ∙ ap (λ (v : Given). v.fault) g;
    }

more : (n : ℕ) (w m v : List (List ℕ)) (rest : List RelayAsk) → v ≡ w ++ m → map (sent n) w ++ ((map (sent n) m ++ []) ++ rest) ≡ map (sent n) v ++ rest
more n w m v rest e =
    ap (λ (l : List RelayAsk). map (sent n) w ++ (l ++ rest)) (append-nil (map (sent n) m))
    ∙ (sym (append_assoc (map (sent n) w) (map (sent n) m) rest)
    ∙ ap (λ (l : List RelayAsk). l ++ rest) (sym (map-append (sent n) w m) ∙ ap (map (sent n)) (sym e)))

faulted : (n : ℕ) (o ended broke : Bool) (w m v v2 : List (List ℕ)) (rest : List RelayAsk) (g h : Option MessageFault) (f : MessageFault) → v ≡ w ++ m → v2 ≡ v → g ≡ Some f → h ≡ Some f → rest ≡ [] → map (sent n) w ++ ((map (sent n) m ++ cancel n o) ++ rest) ≡ map (sent n) v2 ++ finish n (ended && is_none g) ++ cancel n (o && (broke || is_some h))
faulted n o ended broke w m v v2 rest g h f e same eg eh none =
    let all : map (sent n) w ++ map (sent n) m ≡ map (sent n) v2 = sym (map-append (sent n) w m) ∙ ap (map (sent n)) (sym e ∙ sym same) in
    let left : map (sent n) w ++ ((map (sent n) m ++ cancel n o) ++ rest) ≡ map (sent n) v2 ++ cancel n o =
    ap (λ (l : List RelayAsk). map (sent n) w ++ ((map (sent n) m ++ cancel n o) ++ l)) none
    ∙ (ap (λ (l : List RelayAsk). map (sent n) w ++ l) (append-nil (map (sent n) m ++ cancel n o))
    ∙ (sym (append_assoc (map (sent n) w) (map (sent n) m) (cancel n o)) ∙ ap (λ (l : List RelayAsk). l ++ cancel n o) all)) in
    let right : map (sent n) v2 ++ finish n (ended && is_none g) ++ cancel n (o && (broke || is_some h)) ≡ map (sent n) v2 ++ cancel n o =
    ap₂ (λ (x y : Option MessageFault). map (sent n) v2 ++ finish n (ended && is_none x) ++ cancel n (o && (broke || is_some y))) eg eh
    ∙ (ap₂ (λ (x y : List RelayAsk). map (sent n) v2 ++ x ++ y) (finish_none n ended) (cancel_fault n o broke)
    ∙ ap (λ (l : List RelayAsk). l ++ cancel n o) (append-nil (map (sent n) v2))) in
    left ∙ sym right

-- DATA that comes, by the fault that it shows
came_by : (limit n : ℕ) (o : Bool) (ms : List Moment) (t p : List ℕ) (m : List (List ℕ)) (f : Option MessageFault) → fault_in limit (t ++ p) ≡ f → whole_of limit (t ++ p) ≡ whole_of limit t ++ m
    → (fault_in limit (t ++ p) ≡ None → map (sent n) (whole_of limit (t ++ p)) ++ asks_from (stream_at n true o (reader_of limit (t ++ p))) ms ≡ closed limit n o ((t ++ p) ++ text_in ms) ((t ++ p) ++ text_in (before_answer ms)) (ends ms) (breaks_off (before_answer ms)))
    → map (sent n) (whole_of limit t) ++ ((fed_by n o (reader_of limit (t ++ p)) m f).asks ++ asks_from (fed_by n o (reader_of limit (t ++ p)) m f).stream ms) ≡ closed limit n o ((t ++ p) ++ text_in ms) ((t ++ p) ++ text_in (before_answer ms)) (ends ms) (breaks_off (before_answer ms))
came_by limit n o ms t p m None e w afterwards =
    more n (whole_of limit t) m (whole_of limit (t ++ p)) (asks_from (stream_at n true o (reader_of limit (t ++ p))) ms) w ∙ afterwards e
came_by limit n o ms t p m (Some f) e w afterwards =
    let s = stays limit (t ++ p) (text_in ms) f e in
    let u = stays limit (t ++ p) (text_in (before_answer ms)) f e in
    faulted n o (ends ms) (breaks_off (before_answer ms)) (whole_of limit t) m (whole_of limit (t ++ p)) (whole_of limit ((t ++ p) ++ text_in ms)) (asks_from (stream_at n false false (reader_of limit (t ++ p))) ms) (fault_in limit ((t ++ p) ++ text_in ms)) (fault_in limit ((t ++ p) ++ text_in (before_answer ms))) f w s.whole s.fault u.fault (nothing_asked n (reader_of limit (t ++ p)) ms)

came : (limit n : ℕ) (o : Bool) (ms : List Moment) (t p : List ℕ)
    → (fault_in limit (t ++ p) ≡ None → map (sent n) (whole_of limit (t ++ p)) ++ asks_from (stream_at n true o (reader_of limit (t ++ p))) ms ≡ closed limit n o ((t ++ p) ++ text_in ms) ((t ++ p) ++ text_in (before_answer ms)) (ends ms) (breaks_off (before_answer ms)))
    → map (sent n) (whole_of limit t) ++ asks_from (stream_at n true o (reader_of limit t)) (Came p ∷ ms) ≡ closed limit n o (t ++ (p ++ text_in ms)) (t ++ (p ++ text_in (before_answer ms))) (ends ms) (breaks_off (before_answer ms))
came limit n o ms t p afterwards =
    let g = given (reader_of limit t) p in
    ap₂ (λ (r : ReaderSeen) (f : Option MessageFault). map (sent n) (whole_of limit t) ++ ((fed_by n o r g.messages f).asks ++ asks_from (fed_by n o r g.messages f).stream ms)) (sym (pieces_reader limit t p)) (sym (pieces_fault limit t p))
    ∙ (came_by limit n o ms t p g.messages (fault_in limit (t ++ p)) refl (pieces_messages limit t p) afterwards
    ∙ ap₂ (λ (x y : List ℕ). closed limit n o x y (ends ms) (breaks_off (before_answer ms))) (append_assoc t p (text_in ms)) (append_assoc t p (text_in (before_answer ms))))

-- nothing more comes, or its end, or it breaks off
at_rest : (limit n : ℕ) (o : Bool) (t : List ℕ) → fault_in limit t ≡ None → map (sent n) (whole_of limit t) ++ [] ≡ closed limit n o t t false false
at_rest limit n o t e =
    let a = map (sent n) (whole_of limit t) in
    sym (append-nil (a ++ []))
    ∙ (ap (λ (l : List RelayAsk). a ++ [] ++ l) (sym (cancel_none n o))
    ∙ ap (λ (f : Option MessageFault). a ++ [] ++ cancel n (o && is_some f)) (sym e))

at_end : (limit n : ℕ) (o b : Bool) (t : List ℕ) → fault_in limit t ≡ None → map (sent n) (whole_of limit t) ++ (ask.Finish n ∷ cancel n (o && b)) ≡ closed limit n o t t true b
at_end limit n o b t e =
    let a = map (sent n) (whole_of limit t) in
    sym (append_assoc a (ask.Finish n ∷ []) (cancel n (o && b)))
    ∙ (ap (λ (v : Bool). a ++ (ask.Finish n ∷ []) ++ cancel n (o && v)) (sym (or_false b))
    ∙ ap (λ (f : Option MessageFault). a ++ finish n (is_none f) ++ cancel n (o && (b || is_some f))) (sym e))

at_break : (limit n : ℕ) (o : Bool) (t : List ℕ) → map (sent n) (whole_of limit t) ++ cancel n (o && true) ≡ closed limit n o t t false true
at_break limit n o t =
    ap (λ (l : List RelayAsk). l ++ cancel n (o && true)) (sym (append-nil (map (sent n) (whole_of limit t))))

going : (limit n : ℕ) (o : Bool) (ms : List Moment) (t : List ℕ) → fault_in limit t ≡ None → map (sent n) (whole_of limit t) ++ asks_from (stream_at n true o (reader_of limit t)) ms ≡ closed limit n o (t ++ text_in ms) (t ++ text_in (before_answer ms)) (ends ms) (breaks_off (before_answer ms))
going limit n o [] t e =
    at_rest limit n o t e ∙ ap (λ (u : List ℕ). closed limit n o u u false false) (sym (append-nil t))
going limit n o (Came p ∷ ms) t e = came limit n o ms t p (λ f. going limit n o ms (t ++ p) f)
going limit n o (Ended ∷ ms) t e =
    ap (λ (l : List RelayAsk). map (sent n) (whole_of limit t) ++ (ask.Finish n ∷ l)) (after_end n o (reader_of limit t) ms)
    ∙ (at_end limit n o (breaks_off (before_answer ms)) t e
    ∙ ap (λ (u : List ℕ). closed limit n o u u true (breaks_off (before_answer ms))) (sym (append-nil t)))
going limit n o (Answered ∷ ms) t e =
    let a = map (sent n) (whole_of limit (t ++ text_in ms)) ++ finish n (ends ms && is_none (fault_in limit (t ++ text_in ms))) in
    let none : cancel n (o && is_some (fault_in limit (t ++ []))) ≡ [] =
    ap (λ (f : Option MessageFault). cancel n (o && is_some f)) (ap (fault_in limit) (append-nil t) ∙ e) ∙ cancel_none n o in
    going limit n false ms t e ∙ ap (λ (l : List RelayAsk). a ++ l) (sym none)
going limit n o (Broke ∷ ms) t e =
    ap (λ (l : List RelayAsk). map (sent n) (whole_of limit t) ++ l) (broke_off n o (reader_of limit t) ms)
    ∙ (at_break limit n o t ∙ ap (λ (u : List ℕ). closed limit n o u u false true) (sym (append-nil t)))

pub asked : (stream : ℕ) (ms : List Moment) → asks_from (opened stream true) ms ≡ asked_of stream ms
asked stream ms = going message_limit stream true ms [] refl

-- the status of a stream whose call was answered
answered_by : (n : ℕ) (r : ReaderSeen) (m : List (List ℕ)) (f : Option MessageFault) (ms : List Moment) → statuses_from (stream_at n true false r) ms ≡ [] → option_to_list (fed_by n false r m f).status ++ statuses_from (fed_by n false r m f).stream ms ≡ []
answered_by n r m None ms h = h
answered_by n r m (Some f) ms h = quiet n false r ms

answered : (n : ℕ) (r : ReaderSeen) (ms : List Moment) → statuses_from (stream_at n true false r) ms ≡ []
answered n r [] = refl
answered n r (Came p ∷ ms) =
    answered_by n (given r p).reader (given r p).messages (given r p).fault ms (answered n (given r p).reader ms)
answered n r (Ended ∷ ms) = quiet n false r ms
answered n r (Answered ∷ ms) = answered n r ms
answered n r (Broke ∷ ms) = quiet n false r ms

none_reported : (limit : ℕ) (t : List ℕ) → fault_in limit t ≡ None → [] ≡ map code_of (option_to_list (fault_in limit (t ++ [])))
none_reported limit t e =
    ap (λ (f : Option MessageFault). map code_of (option_to_list f)) (sym (ap (fault_in limit) (append-nil t) ∙ e))

reported_by : (limit n : ℕ) (ms : List Moment) (t p : List ℕ) (m : List (List ℕ)) (f : Option MessageFault) → fault_in limit (t ++ p) ≡ f
    → (fault_in limit (t ++ p) ≡ None → statuses_from (stream_at n true true (reader_of limit (t ++ p))) ms ≡ map code_of (option_to_list (fault_in limit ((t ++ p) ++ text_in (before_answer ms)))))
    → option_to_list (fed_by n true (reader_of limit (t ++ p)) m f).status ++ statuses_from (fed_by n true (reader_of limit (t ++ p)) m f).stream ms ≡ map code_of (option_to_list (fault_in limit ((t ++ p) ++ text_in (before_answer ms))))
reported_by limit n ms t p m None e afterwards = afterwards e
reported_by limit n ms t p m (Some f) e afterwards =
    let s = stays limit (t ++ p) (text_in (before_answer ms)) f e in
    ap (λ (l : List Code). code_of f ∷ l) (quiet n false (reader_of limit (t ++ p)) ms)
    ∙ ap (λ (o : Option MessageFault). map code_of (option_to_list o)) (sym s.fault)

going_reported : (limit n : ℕ) (ms : List Moment) (t : List ℕ) → fault_in limit t ≡ None → statuses_from (stream_at n true true (reader_of limit t)) ms ≡ map code_of (option_to_list (fault_in limit (t ++ text_in (before_answer ms))))
going_reported limit n [] t e = none_reported limit t e
going_reported limit n (Came p ∷ ms) t e =
    let g = given (reader_of limit t) p in
    ap₂ (λ (r : ReaderSeen) (f : Option MessageFault). option_to_list (fed_by n true r g.messages f).status ++ statuses_from (fed_by n true r g.messages f).stream ms) (sym (pieces_reader limit t p)) (sym (pieces_fault limit t p))
    ∙ (reported_by limit n ms t p g.messages (fault_in limit (t ++ p)) refl (λ f. going_reported limit n ms (t ++ p) f)
    ∙ ap (λ (x : List ℕ). map code_of (option_to_list (fault_in limit x))) (append_assoc t p (text_in (before_answer ms))))
going_reported limit n (Ended ∷ ms) t e = quiet n true (reader_of limit t) ms ∙ none_reported limit t e
going_reported limit n (Answered ∷ ms) t e = answered n (reader_of limit t) ms ∙ none_reported limit t e
going_reported limit n (Broke ∷ ms) t e = quiet n false (reader_of limit t) ms ∙ none_reported limit t e

-- a stream gets a status by itself where its messages show a fault before the end of the call is given
pub reported : (stream : ℕ) (ms : List Moment) → statuses_from (opened stream true) ms ≡ map code_of (option_to_list (messages_in (before_answer ms)).fault)
reported stream ms = going_reported message_limit stream ms [] refl
