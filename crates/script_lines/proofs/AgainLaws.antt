-- What a line says is read again from its own spelling.
use Rattle.std.proofs.Common.{◌≡◌, ◌≢◌, ◌≤◌, ◌<◌, ◌^◌, ℕ, ◌+◌, Bool, true, List, [], ◌∷◌, ◌++◌, length, All, Option, Some, None, refl, ap, inl, inr, length-append, sym, subst, arith, ◌∙◌}
use Rattle.std.specs.List.{AllByRecursion, join_with_byte, list_all}
use Rattle.std.specs.Prelude.{IfSome, codes, decimal, nat_le, ◌&&◌}
use Rattle.std.proofs.lemmas.Bool.{and_parts}
use Rattle.std.proofs.lemmas.Bool.Decides.{nat_tests}
use Rattle.std.proofs.lemmas.List.Elements.{All-from_recursion, recursion_from_All}
use Rattle.grpc_base.specs.declared.address.Address.{Address}
use Rattle.grpc_base.specs.declared.event.Event.{Event}
use Rattle.grpc_base.specs.declared.event.Event.TheVariants as event
use Rattle.grpc_base.specs.declared.event.Stamped.{Stamped}
use Rattle.grpc_base.specs.Limits.{duration_limit, moment_limit}
use Rattle.grpc_base.specs.Requests.{IsPath, RequestSeen}
use Rattle.grpc_base.proofs.PieceLaws.{pieces-parted}
use Rattle.script_fields.specs.Reading.{SpellsNumberOrDash, listed}
use Rattle.script_fields.specs.Spelling.{addresses_text, config_hex, fields, hex_digits, hex_or_dash, meta_text, number_or_dash, wait_text, word_bytes, words}
use Rattle.resolver_core.specs.declared.any_target.Target.{Target}
use Rattle.script_fields.specs.Values.{IsAddress}
use Rattle.script_fields.proofs.PartLaws.{joined-pieces, pieces-joined}
use Rattle.script_fields.proofs.VisibleLaws.{IsVisible, addresses_visible, config_visible, hex_or_dash_visible, listed_addresses, listed_again, listed_short, meta_visible, number_or_dash_visible, number_visible, path_visible, wait_visible, word_visible}
use Rattle.script_lines.specs.declared.line.ScriptLine.{ScriptLine}
use Rattle.script_lines.specs.declared.line.ScriptLine.TheVariants as line
use Rattle.script_lines.specs.declared.name.EventName.{EventName}
use Rattle.script_lines.specs.declared.name.EventName.TheVariants as name
use Rattle.script_lines.specs.declared.reader.ScriptKind.{ScriptKind}
use Rattle.script_lines.specs.declared.reader.ScriptKind.TheVariants as script
use Rattle.script_lines.specs.Answers.{Answered}
use Rattle.script_lines.specs.Events.{IsEventText, name_text}
use Rattle.script_lines.specs.Fields.{AreAddresses, IsConfigOrDash, IsNumber, IsPiece, IsRequestText, number_limit}
use Rattle.script_lines.specs.Lines.{IsChannelText, IsLiveLine, IsLiveText, IsRawLine, IsReplayLine, IsStampedText, IsVersion, channel_words}
use Rattle.script_lines.specs.Reader.{IsKindLine, IsLine, ReaderSeen}
use Rattle.script_lines.specs.Spelling.{IsReadAgain, IsSpelled, at_moment, channel_text, event_words, stamped_text}

-- ---- words of visible bytes

abbrev AreVisible : List (List ℕ) → Type 0
AreVisible ws = AllByRecursion (λ w. AllByRecursion IsVisible w) ws

no_space : (w : List ℕ) → AllByRecursion IsVisible w → AllByRecursion (λ d. d ≢ 32) w
no_space [] v = tt
no_space (b ∷ w) v = ((λ e. omega (arith, v.0.0, e)), no_space w v.1)

no_spaces : (ws : List (List ℕ)) → AreVisible ws → AllByRecursion (λ (w : List ℕ). AllByRecursion (λ d. d ≢ 32) w) ws
no_spaces [] v = tt
no_spaces (w ∷ ws) v = (no_space w v.0, no_spaces ws v.1)

-- words are the fields of their line
words_fields : (w : List ℕ) (ws : List (List ℕ)) → AreVisible (w ∷ ws) → fields (words (w ∷ ws)) ≡ w ∷ ws
words_fields w ws v = pieces-joined 32 w ws (no_spaces (w ∷ ws) v)

abbrev IsPrintable : ℕ → Type 0
IsPrintable b = (32 ≤ b) × (b ≤ 126)

printable_before : (w rest : List ℕ) → AllByRecursion IsVisible w → AllByRecursion IsPrintable rest → AllByRecursion IsPrintable (w ++ rest)
printable_before [] rest v p = p
printable_before (b ∷ w) rest v p = ((omega (arith, v.0.0), v.0.1), printable_before w rest v.1 p)

printable_alone : (w : List ℕ) → AllByRecursion IsVisible w → AllByRecursion IsPrintable w
printable_alone [] v = tt
printable_alone (b ∷ w) v = ((omega (arith, v.0.0), v.0.1), printable_alone w v.1)

words_printable : (ws : List (List ℕ)) → AreVisible ws → AllByRecursion IsPrintable (words ws)
words_printable [] v = tt
words_printable (w ∷ []) v = printable_alone w v.0
words_printable (w ∷ (x ∷ ws)) v = printable_before w (32 ∷ join_with_byte 32 (x ∷ ws)) v.0 ((omega arith, omega arith), words_printable (x ∷ ws) v.1)

-- ---- names

abbrev is_visible : ℕ → Bool
is_visible b = nat_le 33 b && nat_le b 126

tested : (s : List ℕ) → list_all is_visible s ≡ true → AllByRecursion IsVisible s
tested [] e = tt
tested (b ∷ s) e =
    let both = and_parts (is_visible b) (list_all is_visible s) e in
    ((grind (arith, nat_tests, both.0), grind (arith, nat_tests, both.0)), tested s both.1)

name_tested : (k : EventName) → list_all is_visible (name_text k) ≡ true
name_tested name.Begin = refl
name_tested name.Send = refl
name_tested name.Finish = refl
name_tested name.Take = refl
name_tested name.Cancel = refl
name_tested name.Resolved = refl
name_tested name.Unresolved = refl
name_tested name.Dial = refl
name_tested name.Up = refl
name_tested name.NoDial = refl
name_tested name.Arrived = refl
name_tested name.Lost = refl
name_tested name.Drain = refl
name_tested name.Ping = refl
name_tested name.Tick = refl
name_tested name.Shutdown = refl

name_visible : (k : EventName) → AllByRecursion IsVisible (name_text k)
name_visible k = tested (name_text k) (name_tested k)

-- ---- values

timeout_small : (t : Option ℕ) → IfSome t (λ n. n ≤ duration_limit) → IfSome t (λ n. n < 2 ^ 64)
timeout_small None small = tt
timeout_small (Some n) small = omega (arith, small)

call_visible : (n : ℕ) (text : List ℕ) → IsNumber number_limit n text → AllByRecursion IsVisible (decimal n)
call_visible n text t = number_visible n (omega (arith, t.0))

request_again : (r : RequestSeen) (path wait timeout meta : List ℕ) → IsRequestText r path wait timeout meta → IsRequestText r r.path (wait_text r.wait) (number_or_dash r.timeout) (meta_text r.meta)
request_again r path wait timeout meta t = (
  subst IsPath (sym t.1) t.0,
  refl,
  refl,
  (subst (λ x. SpellsNumberOrDash x r.timeout) t.3.1 t.3.0, refl, t.3.2),
  (t.4.0, t.4.1, refl),
)

addresses_again : (xs : List Address) (text : List ℕ) → AreAddresses xs text → AreAddresses xs (addresses_text xs)
addresses_again xs text t =
    let good : All IsAddress xs = subst (All IsAddress) (sym t.3) (listed_addresses t.0 t.1.0) in
    let short : length xs ≤ length t.0 = subst (λ (ys : List Address). length ys ≤ length t.0) (sym t.3) (listed_short t.0) in
    let same : xs ≡ listed xs = t.3 ∙ sym (listed_again t.0) ∙ ap listed (sym t.3) in
    (xs, (good, refl), omega (arith, short, t.2), same)

addresses_are_visible : (xs : List Address) (text : List ℕ) → AreAddresses xs text → AllByRecursion IsVisible (addresses_text xs)
addresses_are_visible xs text t = addresses_visible xs (subst (All IsAddress) (sym t.3) (listed_addresses t.0 t.1.0))

config_again : (config : Option (List ℕ)) (text : List ℕ) → IsConfigOrDash config text → IsConfigOrDash config (config_hex config)
config_again None text t = (refl, tt)
config_again (Some bytes) text t = ((t.0.0, t.0.1, refl), t.1)

piece_again : (piece text : List ℕ) → IsPiece piece text → IsPiece piece (hex_or_dash piece)
piece_again [] text t = absurd (t.1 refl)
piece_again (b ∷ piece) text t = (t.0, t.1, refl)

-- ---- events

-- an event is read from its own words
event_again : (texts : List (List ℕ)) (e : Event) → IsEventText texts e → IsEventText (event_words e) e
event_again texts (event.Begin r) t = (r.path, wait_text r.wait, number_or_dash r.timeout, meta_text r.meta, refl, request_again r t.0 t.1 t.2 t.3 t.5)
event_again texts (event.Send n bytes) t = (decimal n, hex_or_dash bytes, refl, (t.3.0, refl), ((t.4.0.0, refl), t.4.1))
event_again texts (event.Finish n) t = (decimal n, refl, (t.2.0, refl))
event_again texts (event.Take n) t = (decimal n, refl, (t.2.0, refl))
event_again texts (event.Cancel n) t = (decimal n, refl, (t.2.0, refl))
event_again texts (event.Resolved addresses config) t = (addresses_text addresses, config_hex config, refl, addresses_again addresses t.0 t.3, config_again config t.1 t.4)
event_again texts event.ResolveFailed t = refl
event_again texts event.TakeDial t = refl
event_again texts (event.LinkUp n) t = (decimal n, refl, (t.2.0, refl))
event_again texts (event.DialFailed n) t = (decimal n, refl, (t.2.0, refl))
event_again texts (event.Arrived n bytes) t = (decimal n, hex_or_dash bytes, refl, (t.3.0, refl), piece_again bytes t.1 t.4)
event_again texts (event.LinkLost n) t = (decimal n, refl, (t.2.0, refl))
event_again texts (event.Drain n m) t = (decimal n, decimal m, refl, (t.3.0, refl), (t.4.0, refl))
event_again texts (event.Ping n w) t = (decimal n, hex_digits (word_bytes w), refl, (t.3.0, refl), (t.4.0, refl))
event_again texts event.Tick t = refl
event_again texts event.Shutdown t = refl

words_visible : (texts : List (List ℕ)) (e : Event) → IsEventText texts e → AreVisible (event_words e)
words_visible texts (event.Begin r) t = (name_visible name.Begin, (path_visible r.path (subst IsPath (sym t.5.1) t.5.0), (wait_visible r.wait, (number_or_dash_visible r.timeout (timeout_small r.timeout t.5.3.2), (meta_visible r.meta t.5.4.0 t.5.4.1, tt)))))
words_visible texts (event.Send n bytes) t = (name_visible name.Send, (call_visible n t.0 t.3, (hex_or_dash_visible bytes t.4.0.0, tt)))
words_visible texts (event.Finish n) t = (name_visible name.Finish, (call_visible n t.0 t.2, tt))
words_visible texts (event.Take n) t = (name_visible name.Take, (call_visible n t.0 t.2, tt))
words_visible texts (event.Cancel n) t = (name_visible name.Cancel, (call_visible n t.0 t.2, tt))
words_visible texts (event.Resolved addresses config) t = (name_visible name.Resolved, (addresses_are_visible addresses t.0 t.3, (config_visible t.1 config t.4.0, tt)))
words_visible texts event.ResolveFailed t = (name_visible name.Unresolved, tt)
words_visible texts event.TakeDial t = (name_visible name.Dial, tt)
words_visible texts (event.LinkUp n) t = (name_visible name.Up, (call_visible n t.0 t.2, tt))
words_visible texts (event.DialFailed n) t = (name_visible name.NoDial, (call_visible n t.0 t.2, tt))
words_visible texts (event.Arrived n bytes) t = (name_visible name.Arrived, (call_visible n t.0 t.3, (hex_or_dash_visible bytes t.4.0, tt)))
words_visible texts (event.LinkLost n) t = (name_visible name.Lost, (call_visible n t.0 t.2, tt))
words_visible texts (event.Drain n m) t = (name_visible name.Drain, (call_visible n t.0 t.3, (call_visible m t.1 t.4, tt)))
words_visible texts (event.Ping n w) t = (name_visible name.Ping, (call_visible n t.0 t.3, (word_visible w, tt)))
words_visible texts event.Tick t = (name_visible name.Tick, tt)
words_visible texts event.Shutdown t = (name_visible name.Shutdown, tt)

-- ---- lines

-- a stamped event is read from its own line, at whatever moment
pub stamped_again : (texts : List (List ℕ)) (s : Stamped) (moment : ℕ) → moment ≤ moment_limit → IsStampedText texts s → IsSpelled (at_moment s moment)
stamped_again (first ∷ (word ∷ others)) s moment within t =
    let ws : List (List ℕ) = decimal s.word ∷ event_words s.event in
    let visible : AreVisible (decimal moment ∷ ws) = (number_visible moment (omega (arith, within)), (number_visible s.word (omega (arith, t.1.0)), words_visible others s.event t.2)) in
    let line : fields (stamped_text (at_moment s moment)) ≡ decimal moment ∷ ws = words_fields (decimal moment) ws visible in (
      (All-from_recursion IsPrintable (stamped_text (at_moment s moment)) (words_printable (decimal moment ∷ ws) visible), refl),
      subst (λ (ts : List (List ℕ)). IsStampedText ts (at_moment s moment)) (sym line) ((within, refl), (t.1.0, refl), event_again others s.event t.2),
    )
stamped_again [] s moment within t = absurd t
stamped_again (first ∷ []) s moment within t = absurd t

-- ---- channel lines, of either version

abbrev IsNoSpace : ℕ → Type 0
IsNoSpace d = d ≢ 32

channel_tested : AllByRecursion IsVisible (codes "channel")
channel_tested = tested (codes "channel") refl

version_visible : (version : List ℕ) → IsVersion version → AllByRecursion IsVisible version
version_visible version (inl e) = subst (AllByRecursion IsVisible) (sym e) (tested (codes "1") refl)
version_visible version (inr e) = subst (AllByRecursion IsVisible) (sym e) (tested (codes "2") refl)

version_long : (version : List ℕ) → IsVersion version → length version ≡ 1
version_long version (inl e) = ap length e
version_long version (inr e) = ap length e

-- after the word and the version stand the fields of the target
version_parted : (version target : List ℕ) → IsVersion version → fields (words (channel_words version target)) ≡ codes "channel" ∷ version ∷ fields target
version_parted version target is =
    pieces-parted 32 (words (channel_words version target)) (codes "channel") (version ++ 32 ∷ target) refl (All-from_recursion IsNoSpace (codes "channel") (no_space (codes "channel") channel_tested))
    ∙ ap (λ (t : List (List ℕ)). codes "channel" ∷ t) (pieces-parted 32 (version ++ 32 ∷ target) version target refl (All-from_recursion IsNoSpace version (no_space version (version_visible version is))))

-- a channel line is the spelling of its words
channel_is : (version text target : List ℕ) → fields text ≡ channel_words version target → text ≡ words (channel_words version target)
channel_is version text target e = sym (joined-pieces 32 text) ∙ ap words e

one_tail : (version target : List ℕ) (others : List (List ℕ)) → codes "channel" ∷ version ∷ others ≡ channel_words version target → others ≡ target ∷ []
one_tail version target others e = (cc)

-- its target is one field
target_alone : (version text target : List ℕ) → IsVersion version → fields text ≡ channel_words version target → fields target ≡ target ∷ []
target_alone version text target is e =
    one_tail version target (fields target) (sym (version_parted version target is) ∙ ap fields (sym (channel_is version text target e)) ∙ e)

printable_after : (w rest : List ℕ) → AllByRecursion IsPrintable (w ++ rest) → AllByRecursion IsPrintable rest
printable_after [] rest p = p
printable_after (b ∷ w) rest p = printable_after w rest p.1

-- so it is printable and no longer in version 2
channel_raw : (n : ℕ) (version text target : List ℕ) (closed : Bool) → IsVersion version → text ≡ words (channel_words version target) → IsRawLine n text closed → IsRawLine 1 (channel_text target) true
channel_raw n version text target closed is e t =
    let whole : AllByRecursion IsPrintable (codes "channel" ++ 32 ∷ (version ++ 32 ∷ target)) =
    recursion_from_All IsPrintable (words (channel_words version target)) (subst (All IsPrintable) e t.2.0) in
    let afterwards : AllByRecursion IsPrintable (version ++ 32 ∷ target) = (printable_after (codes "channel") (32 ∷ (version ++ 32 ∷ target)) whole).1 in
    let last : AllByRecursion IsPrintable (32 ∷ target) = printable_after version (32 ∷ target) afterwards in
    let made : AllByRecursion IsPrintable (codes "channel" ++ 32 ∷ (codes "2" ++ 32 ∷ target)) =
    printable_before (codes "channel") (32 ∷ (codes "2" ++ 32 ∷ target)) channel_tested ((omega arith, omega arith), printable_before (codes "2") (32 ∷ target) (tested (codes "2") refl) last) in
    let size : length (channel_text target) ≡ length text =
    spelled_long (codes "2") target refl ∙ sym (spelled_long version target (version_long version is)) ∙ ap length (sym e) in
    (omega arith, omega (arith, size, t.1), (All-from_recursion IsPrintable (channel_text target) made, refl))
  where
    spelled_long : (v target : List ℕ) → length v ≡ 1 → length (words (channel_words v target)) ≡ 10 + length target
    spelled_long v target one =
        let a : length (codes "channel" ++ 32 ∷ (v ++ 32 ∷ target)) ≡ 7 + length (32 ∷ (v ++ 32 ∷ target)) = length-append (codes "channel") (32 ∷ (v ++ 32 ∷ target)) in
        let b : length (v ++ 32 ∷ target) ≡ length v + length (32 ∷ target) = length-append v (32 ∷ target) in
        omega (arith, a, b, one)

-- a channel line of either version is read again from the spelling of version 2
pub channel_again : (n : ℕ) (text target : List ℕ) (value : Target) (closed : Bool) → IsRawLine n text closed → IsChannelText (fields text) target value → IsReadAgain (line.Channel target value)
channel_again n text target value closed raw t =
    let e : text ≡ words (channel_words t.0 target) = channel_is t.0 text target t.2 in
    let again : fields (channel_text target) ≡ channel_words (codes "2") target =
    version_parted (codes "2") target (inr refl) ∙ ap (λ (ts : List (List ℕ)). codes "channel" ∷ codes "2" ∷ ts) (target_alone t.0 text target t.1 t.2) in
    (channel_raw n t.0 text target closed t.1 e raw, (codes "2", inr refl, again, t.3))

-- ---- lines of each kind

replay_again : (n : ℕ) (text : List ℕ) (closed : Bool) (read : ScriptLine) → IsRawLine n text closed → IsReplayLine n (fields text) read → IsReadAgain read
replay_again n text closed (line.Channel target value) raw t = channel_again n text target value closed raw t.1
replay_again n text closed (line.Event s) raw t = λ moment within. stamped_again (fields text) s moment within t.1
replay_again n text closed (line.Config config) raw t = tt
replay_again n text closed (line.Call worker call) raw t = tt
replay_again n text closed (line.Answer answer) raw t = tt

no_live_event : (n : ℕ) (texts : List (List ℕ)) (s : Stamped) → IsLiveText n texts (line.Event s) → ⊥
no_live_event n [] s t = t
no_live_event n (name ∷ others) s t = t

live_again : (n : ℕ) (text : List ℕ) (closed : Bool) (read : ScriptLine) → IsRawLine n text closed → IsLiveLine n (fields text) read → IsReadAgain read
live_again n text closed (line.Channel target value) raw t = channel_again n text target value closed raw t.1
live_again n text closed (line.Event s) raw t = absurd (no_live_event n (fields text) s t.1)
live_again n text closed (line.Config config) raw t = tt
live_again n text closed (line.Call worker call) raw t = tt
live_again n text closed (line.Answer answer) raw t = tt

server_again : (n : ℕ) (answered : Answered) (texts : List (List ℕ)) (read : ScriptLine) → IsKindLine script.Server n answered texts read → IsReadAgain read
server_again n answered texts (line.Channel target value) t = absurd t
server_again n answered texts (line.Event s) t = absurd t
server_again n answered texts (line.Config config) t = tt
server_again n answered texts (line.Call worker call) t = tt
server_again n answered texts (line.Answer answer) t = tt

kind_again : (k : ScriptKind) (n : ℕ) (answered : Answered) (text : List ℕ) (closed : Bool) (read : ScriptLine) → IsRawLine n text closed → IsKindLine k n answered (fields text) read → IsReadAgain read
kind_again script.Replay n answered text closed read raw t = replay_again n text closed read raw t
kind_again script.Live n answered text closed read raw t = live_again n text closed read raw t
kind_again script.Server n answered text closed read raw t = server_again n answered (fields text) read t

-- what a line says is read again from its own spelling
pub line_again : (r : ReaderSeen) (text : List ℕ) (closed : Bool) (read : ScriptLine) → IsLine r text closed read → IsReadAgain read
line_again r text closed read t = kind_again r.kind (r.lines + 1) r.answered text closed read t.0 t.1
