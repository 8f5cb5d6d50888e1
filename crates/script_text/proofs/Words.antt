-- Words and lines as what a writer appends.
use Rattle.std.proofs.Common.{◌≡◌, ℕ, ◌+◌, ◌<◌, List, [], ◌∷◌, ◌++◌, length, get_or, take, drop, refl, sym, ap, ◌∙◌, append_assoc}
use Rattle.std.specs.Prelude.{map, codes, decimal, flat_map}
use Rattle.std.proofs.lemmas.List.{append-nil, map-append, take_more, take-append-drop}
use Rattle.std.proofs.lemmas.Grind.{flat_map-append}
use Rattle.attempt_ledger.specs.declared.journal.Journal.{Journal}
use Rattle.attempt_ledger.specs.declared.row.Row.{Row}
use Rattle.grpc_base.specs.Codes.{code_number}
use Rattle.grpc_base.specs.Refusals.{refusal_number}
use Rattle.grpc_base.specs.declared.event.ConfigFault.{ConfigFault}
use Rattle.grpc_base.specs.declared.event.Entry.{Entry}
use Rattle.grpc_base.specs.declared.event.Stamped.{Stamped}
use Rattle.grpc_base.specs.declared.event.Reply.{Reply}
use Rattle.grpc_base.specs.declared.event.Reply.TheVariants as reply
use Rattle.attempt_ledger.specs.declared.ledger.Ledger.{Ledger}
use Rattle.service_config.specs.Text.{spaced as spaced_words_of}
use Rattle.script_text.specs.Output.{spaced}
use Rattle.script_text.specs.Report.{channel_text, entry_text, row_text, end_text, lines_text, report_of}
use Rattle.script_text.specs.Spelling.{address_text, cause_text, config_fault_words, event_words, hex_or_dash, meta_text, percent_text, reply_words, script_of, stamped_text, words}

-- words
pub words_are : (w : List ℕ) (ws : List (List ℕ)) → words (w ∷ ws) ≡ w ++ spaced ws
words_are w [] = sym (append-nil w)
words_are w (v ∷ vs) = ap (λ t. w ++ 32 ∷ t) (words_are v vs)

pub spaced-append : (vs ws : List (List ℕ)) → spaced (vs ++ ws) ≡ spaced vs ++ spaced ws
spaced-append vs ws = flat_map-append (λ (w : List ℕ). 32 ∷ w) vs ws

-- both crates part words alike
spaced_alike : (ws : List (List ℕ)) → spaced_words_of ws ≡ spaced ws
spaced_alike [] = refl
spaced_alike (w ∷ ws) = ap (λ t. 32 ∷ (w ++ t)) (spaced_alike ws)

-- the words of a fault after the name of the reply
pub bad_config_words : (out named reported : List ℕ) (f : ConfigFault) → named ≡ out ++ 32 ∷ codes "badconfig" → reported ≡ named ++ spaced_words_of (config_fault_words f) → reported ≡ out ++ spaced (codes "badconfig" ∷ config_fault_words f)
bad_config_words out named reported f e g =
    g
    ∙ ap (λ (t : List ℕ). t ++ spaced_words_of (config_fault_words f)) e
    ∙ ap (λ (t : List ℕ). (out ++ 32 ∷ codes "badconfig") ++ t) (spaced_alike (config_fault_words f))
    ∙ append_assoc out (32 ∷ codes "badconfig") (spaced (config_fault_words f))

spaced_words : (w : List ℕ) (ws : List (List ℕ)) → spaced (w ∷ ws) ≡ 32 ∷ words (w ∷ ws)
spaced_words w ws = ap (λ t. 32 ∷ t) (sym (words_are w ws))

some_reply : (r : Reply) → (w : List ℕ) × (ws : List (List ℕ)) × (reply_words r ≡ w ∷ ws)
some_reply (reply.Call call) = (codes "call", decimal call ∷ [], refl)
some_reply reply.Done = (codes "done", [], refl)
some_reply (reply.Full held) = (codes "full", decimal held ∷ [], refl)
some_reply (reply.Head meta) = (codes "head", meta_text meta ∷ [], refl)
some_reply (reply.Message octets) = (codes "message", hex_or_dash octets ∷ [], refl)
some_reply (reply.End code text meta cause) = (codes "end", decimal (code_number code) ∷ percent_text text ∷ meta_text meta ∷ cause_text cause ∷ [], refl)
some_reply reply.NotYet = (codes "notyet", [], refl)
some_reply (reply.BadConfig f) = (codes "badconfig", config_fault_words f, refl)
some_reply (reply.Dial sub address until) = (codes "dial", decimal sub ∷ address_text address ∷ decimal until ∷ [], refl)
some_reply (reply.Link link) = (codes "link", decimal link ∷ [], refl)
some_reply (reply.Octets octets) = (codes "octets", hex_or_dash octets ∷ [], refl)
some_reply (reply.Refused refusal) = (codes "refused", decimal (refusal_number refusal) ∷ [], refl)

spaced_reply : (r : Reply) → spaced (reply_words r) ≡ 32 ∷ words (reply_words r)
spaced_reply r =
    let some : (w : List ℕ) × (ws : List (List ℕ)) × (reply_words r ≡ w ∷ ws) = some_reply r in
    ap spaced some.2 ∙ spaced_words some.0 some.1 ∙ ap (λ ws. 32 ∷ words ws) (sym some.2)

equals_sign : (t : List ℕ) → codes " = " ++ t ≡ 32 ∷ codes "=" ++ 32 ∷ t
equals_sign t = refl

-- the words of an entry
pub entry_parts : (moment word : List ℕ) (event : List (List ℕ)) (r : Reply) → words (moment ∷ word ∷ event) ++ codes " = " ++ words (reply_words r) ≡ moment ++ 32 ∷ word ++ spaced event ++ 32 ∷ codes "=" ++ spaced (reply_words r)
entry_parts moment word event r =
    ap (λ t. t ++ codes " = " ++ words (reply_words r)) (words_are moment (word ∷ event))
    ∙ append_assoc (moment ++ spaced (word ∷ event)) (codes " = ") (words (reply_words r))
    ∙ ap (λ t. (moment ++ spaced (word ∷ event)) ++ t) (equals_sign (words (reply_words r)) ∙ ap (λ t. 32 ∷ codes "=" ++ t) (sym (spaced_reply r)))
    ∙ simp append_assoc refl

-- the line of an event
pub stamp_line : (s : Stamped) (out text line : List ℕ) → text ≡ out ++ decimal s.moment ++ spaced (decimal s.word ∷ event_words s.event) → line ≡ text ++ 10 ∷ [] → line ≡ out ++ stamped_text s ++ 10 ∷ []
stamp_line s out text line e f =
    f
    ∙ ap (λ (t : List ℕ). t ++ 10 ∷ []) (e ∙ append_assoc out (decimal s.moment) (spaced (decimal s.word ∷ event_words s.event)))
    ∙ ap (λ (t : List ℕ). (out ++ t) ++ 10 ∷ []) (sym (words_are (decimal s.moment) (decimal s.word ∷ event_words s.event)))

-- a script, part by part
pub script_is : (target : List ℕ) (events : List Stamped) (none channel : List ℕ) → none ≡ [] → channel ≡ none ++ channel_text target ++ 10 ∷ [] → script_of target events ≡ channel ++ lines_text (map stamped_text events)
script_is target events none channel e c =
    let first : channel ≡ channel_text target ++ 10 ∷ [] = c ∙ ap (λ (t : List ℕ). t ++ channel_text target ++ 10 ∷ []) e in
    ap (λ (t : List ℕ). t ++ lines_text (map stamped_text events)) (sym first)

-- the words of a row
pub row_parts : (call number kind due : List ℕ) (placed : List (List ℕ)) (stream : List ℕ) (ended : List (List ℕ)) (committed : List ℕ) (drawn : List (List ℕ)) → words (codes "row" ∷ call ∷ number ∷ kind ∷ due ∷ placed ++ stream ∷ ended ++ committed ∷ drawn) ≡ codes "row" ++ 32 ∷ call ++ 32 ∷ number ++ 32 ∷ kind ++ 32 ∷ due ++ spaced placed ++ 32 ∷ stream ++ spaced ended ++ 32 ∷ committed ++ spaced drawn
row_parts call number kind due placed stream ended committed drawn =
    let rest : spaced (placed ++ stream ∷ ended ++ committed ∷ drawn) ≡ spaced placed ++ spaced (stream ∷ ended) ++ spaced (committed ∷ drawn) =
    spaced-append (placed ++ stream ∷ ended) (committed ∷ drawn)
    ∙ ap (λ t. t ++ spaced (committed ∷ drawn)) (spaced-append placed (stream ∷ ended)) in
    words_are (codes "row") (call ∷ number ∷ kind ∷ due ∷ placed ++ stream ∷ ended ++ committed ∷ drawn)
    ∙ ap (λ t. codes "row" ++ (32 ∷ call ++ (32 ∷ number ++ (32 ∷ kind ++ (32 ∷ due ++ t))))) rest
    ∙ simp append_assoc refl

-- the lines of one value more
pub lines_more : {X : Type 0} (f : X → List ℕ) (xs : List X) (i : ℕ) (d : X) → i < length xs → lines_text (map f (take (i + 1) xs)) ≡ lines_text (map f (take i xs)) ++ (f (get_or xs i d) ++ 10 ∷ [])
lines_more f xs i d within =
    ap (λ t. lines_text (map f t)) (take_more xs i d within)
    ∙ ap lines_text (map-append f (take i xs) (get_or xs i d ∷ []))
    ∙ flat_map-append (λ (line : List ℕ). line ++ 10 ∷ []) (map f (take i xs)) (f (get_or xs i d) ∷ [])
    ∙ ap (λ t. lines_text (map f (take i xs)) ++ t) (append-nil (f (get_or xs i d) ++ 10 ∷ []))

-- the lines of a prefix and of the rest
pub lines_parts : {X : Type 0} (f : X → List ℕ) (xs : List X) (i : ℕ) → lines_text (map f xs) ≡ lines_text (map f (take i xs)) ++ lines_text (map f (drop i xs))
lines_parts f xs i =
    ap (λ t. lines_text (map f t)) (sym (take-append-drop i xs))
    ∙ ap lines_text (map-append f (take i xs) (drop i xs))
    ∙ flat_map-append (λ (line : List ℕ). line ++ 10 ∷ []) (map f (take i xs)) (map f (drop i xs))

-- the prefix of a report, part by part
pub report_parts : (target : List ℕ) (journal : Journal) (ledger : Ledger) → report_of target journal ledger ≡ (channel_text target ++ 10 ∷ []) ++ ((lines_text (map entry_text journal.entries) ++ lines_text (map row_text ledger.rows)) ++ (end_text journal ledger ++ 10 ∷ []))
report_parts target journal ledger =
    let line : List ℕ → List ℕ = λ l. l ++ 10 ∷ [] in
    let prefix : List (List ℕ) = channel_text target ∷ map entry_text journal.entries in
    let rows : List (List ℕ) = map row_text ledger.rows in
    let last : List ℕ = end_text journal ledger in
    flat_map-append line (prefix ++ rows) (last ∷ [])
    ∙ ap (λ t. t ++ flat_map line (last ∷ [])) (flat_map-append line prefix rows)
    ∙ ap (λ t. flat_map line prefix ++ flat_map line rows ++ t) (append-nil (line last))
    ∙ ap (λ t. t ++ line last) (append_assoc (line (channel_text target)) (flat_map line (map entry_text journal.entries)) (flat_map line rows))
    ∙ append_assoc (line (channel_text target)) (flat_map line (map entry_text journal.entries) ++ flat_map line rows) (line last)

pub report_is : (target : List ℕ) (journal : Journal) (ledger : Ledger) (none channel : List ℕ) (entries : List Entry) (rows : List Row) → none ≡ [] → channel ≡ none ++ channel_text target ++ 10 ∷ [] → entries ≡ journal.entries → rows ≡ ledger.rows → report_of target journal ledger ≡ channel ++ ((lines_text (map entry_text entries) ++ lines_text (map row_text rows)) ++ (end_text journal ledger ++ 10 ∷ []))
report_is target journal ledger none channel entries rows nothing c e r =
    let last : List ℕ = end_text journal ledger ++ 10 ∷ [] in
    let first : channel ≡ channel_text target ++ 10 ∷ [] = c ∙ ap (λ (t : List ℕ). t ++ channel_text target ++ 10 ∷ []) nothing in
    report_parts target journal ledger
    ∙ ap (λ (t : List ℕ). t ++ ((lines_text (map entry_text journal.entries) ++ lines_text (map row_text ledger.rows)) ++ last)) (sym first)
    ∙ ap (λ (es : List Entry). channel ++ ((lines_text (map entry_text es) ++ lines_text (map row_text ledger.rows)) ++ last)) (sym e)
    ∙ ap (λ (rs : List Row). channel ++ ((lines_text (map entry_text entries) ++ lines_text (map row_text rs)) ++ last)) (sym r)

-- a word after the two that name a PING
pub word_after : (pushed out link word : List ℕ) → pushed ≡ out ++ spaced (codes "ping" ∷ link ∷ []) ++ 32 ∷ [] → pushed ++ word ≡ out ++ spaced (codes "ping" ∷ link ∷ word ∷ [])
word_after pushed out link word e =
    ap (λ (t : List ℕ). t ++ word) e
    ∙ append_assoc (out ++ spaced (codes "ping" ∷ link ∷ [])) (32 ∷ []) word
    ∙ append_assoc out (spaced (codes "ping" ∷ link ∷ [])) (32 ∷ word)
    ∙ ap (λ (t : List ℕ). out ++ t) (ping_words link word)
  where
    ping_words : (link word : List ℕ) → spaced (codes "ping" ∷ link ∷ []) ++ 32 ∷ word ≡ spaced (codes "ping" ∷ link ∷ word ∷ [])
    ping_words link word = simp (append_assoc, append-nil) refl
