-- No text spells two lines.
use Rattle.std.proofs.Common.{◌≡◌, ◌≢◌, ℕ, ◌+◌, Bool, false, List, [], ◌∷◌, Result, Ok, refl, ap, sym, subst, inl, inr, ◌⊎◌, arith, ◌∙◌}
use Rattle.std.specs.Prelude.{◌||◌}
use Rattle.grpc_base.specs.declared.script.AnswerLine.{AnswerLine}
use Rattle.grpc_base.specs.declared.script.AnswerPart.{AnswerPart}
use Rattle.grpc_base.specs.declared.script.AnswerPart.TheVariants as part
use Rattle.grpc_base.specs.declared.script.CallLine.{CallLine}
use Rattle.resolver_core.specs.declared.target.TargetFault.{TargetFault}
use Rattle.resolver_core.specs.AnyTargets.{any_target_of}
use Rattle.resolver_core.specs.declared.any_target.Target.{Target}
use Rattle.grpc_base.specs.Pieces.{pieces}
use Rattle.script_fields.specs.Spelling.{fields}
use Rattle.script_fields.proofs.TextLaws.{bytes_from, hex_one}
use Rattle.script_fields.proofs.OneLaws.{message_one, piece_one}
use Rattle.script_lines.specs.declared.line.ScriptLine.{ScriptLine}
use Rattle.script_lines.specs.declared.line.ScriptLine.TheVariants as line
use Rattle.script_lines.specs.declared.part.PartKind.{PartKind}
use Rattle.script_lines.specs.declared.part.PartKind.TheVariants as kind
use Rattle.script_lines.specs.declared.reader.ScriptKind.{ScriptKind}
use Rattle.script_lines.specs.declared.reader.ScriptKind.TheVariants as script
use Rattle.grpc_base.specs.Scripts.{ends_stream}
use Rattle.script_lines.specs.Answers.{Answered, AreParts, IsAnswerText, IsPart, IsValue, part_kind}
use Rattle.script_lines.specs.Fields.{AreMessages, IsConfig}
use Rattle.script_lines.specs.Lines.{IsCallText, IsChannelText, IsLiveLine, IsLiveText, IsReplayLine}
use Rattle.script_lines.specs.Reader.{IsKindLine, IsLine, IsOnlyLine, ReaderSeen}
use Rattle.script_lines.proofs.AnswerLaws.{part_same, same_end}
use Rattle.script_lines.proofs.GrammarLaws.{one_target, other_names}
use Rattle.script_lines.proofs.OneEvent.{call_one, number_one, request_one, stamped_one}

-- ---- answers

-- the values that any part has; those that one does not have are empty
abbrev part_bytes : AnswerPart → List ℕ
part_bytes (part.Message message) = message
part_bytes (part.Pushback text) = text
part_bytes p = []

abbrev part_number : AnswerPart → ℕ
part_number (part.Status code) = code
part_number (part.Reset code) = code
part_number (part.Hold count) = count
part_number p = 0

abbrev part_made : PartKind → List ℕ → ℕ → AnswerPart
part_made kind.Head bytes n = part.Head
part_made kind.Message bytes n = part.Message bytes
part_made kind.Status bytes n = part.Status n
part_made kind.Pushback bytes n = part.Pushback bytes
part_made kind.Reset bytes n = part.Reset n
part_made kind.Goaway bytes n = part.Goaway
part_made kind.Hold bytes n = part.Hold n

made_again : (p : AnswerPart) → part_made (part_kind p) (part_bytes p) (part_number p) ≡ p
made_again part.Head = refl
made_again (part.Message message) = refl
made_again (part.Status code) = refl
made_again (part.Pushback text) = refl
made_again (part.Reset code) = refl
made_again part.Goaway = refl
made_again (part.Hold count) = refl

made_one : (k : PartKind) (v w : List ℕ) (n m : ℕ) (rest : List ℕ) → IsValue rest (part_made k v n) → IsValue rest (part_made k w m) → part_made k v n ≡ part_made k w m
made_one kind.Head v w n m rest t u = refl
made_one kind.Message v w n m rest t u = ap part.Message (hex_one v w (bytes_from v t.0) (bytes_from w u.0) (sym t.1 ∙ u.1))
made_one kind.Status v w n m rest t u = ap part.Status (call_one n m rest t u)
made_one kind.Pushback v w n m rest t u = ap part.Pushback (t ∙ sym u)
made_one kind.Reset v w n m rest t u = ap part.Reset (call_one n m rest t u)
made_one kind.Goaway v w n m rest t u = refl
made_one kind.Hold v w n m rest t u = ap part.Hold (call_one n m rest t u)

part_one : (ended : Bool) (text : List ℕ) (p q : AnswerPart) → IsPart ended text p → IsPart ended text q → p ≡ q
part_one ended text p q t u =
    let same : (part_kind p ≡ part_kind q) × (t.0 ≡ u.0) = part_same ended text (part_kind p) (part_kind q) t.0 u.0 t.1 u.1 in
    let other : part_made (part_kind p) (part_bytes q) (part_number q) ≡ q = ap (λ k. part_made k (part_bytes q) (part_number q)) same.0 ∙ made_again q in
    let value : IsValue t.0 q = subst (λ r. IsValue r q) (sym same.1) u.2 in
    sym (made_again p)
    ∙ made_one (part_kind p) (part_bytes p) (part_bytes q) (part_number p) (part_number q) t.0 (subst (IsValue t.0) (sym (made_again p)) t.2) (subst (IsValue t.0) (sym other) value)
    ∙ other

parts_one : (ended : Bool) (texts : List (List ℕ)) (ps qs : List AnswerPart) → AreParts ended texts ps → AreParts ended texts qs → ps ≡ qs
parts_one ended [] [] [] t u = refl
parts_one ended [] (p ∷ ps) qs t u = absurd t
parts_one ended [] [] (q ∷ qs) t u = absurd u
parts_one ended (text ∷ texts) [] qs t u = absurd t
parts_one ended (text ∷ texts) (p ∷ ps) [] t u = absurd u
parts_one ended (text ∷ texts) (p ∷ ps) (q ∷ qs) t u =
    let head : p ≡ q = part_one ended text p q t.0 u.0 in
    let there : AreParts (ended || ends_stream p) texts qs = subst (λ b. AreParts (ended || b) texts qs) (sym (same_end ended text p q t.0 u.0)) u.1 in
    let tail : ps ≡ qs = parts_one (ended || ends_stream p) texts ps qs t.1 there in
    λ i. head i ∷ tail i

answer_one : (answered : Answered) (texts : List (List ℕ)) (a b : AnswerLine) → IsAnswerText answered texts a → IsAnswerText answered texts b → a ≡ b
answer_one answered (name ∷ (path ∷ (n ∷ (parts ∷ [])))) a b t u =
    let same_path : a.path ≡ b.path = t.2 ∙ sym u.2 in
    let same_n : a.n ≡ b.n = t.3 ∙ sym u.3 in
    let same_parts : a.parts ≡ b.parts = parts_one false (pieces 44 parts) a.parts b.parts t.5.0 u.5.0 in
    λ i. record { path = same_path i; n = same_n i; parts = same_parts i }
answer_one answered texts a b t u = absurd t

-- ---- calls and channels

messages_one : (texts ms ns : List (List ℕ)) → AreMessages ms texts → AreMessages ns texts → ms ≡ ns
messages_one [] [] [] t u = refl
messages_one [] (m ∷ ms) ns t u = absurd t
messages_one [] [] (n ∷ ns) t u = absurd u
messages_one (text ∷ texts) [] ns t u = absurd t
messages_one (text ∷ texts) (m ∷ ms) [] t u = absurd u
messages_one (text ∷ texts) (m ∷ ms) (n ∷ ns) t u =
    let head : m ≡ n = message_one text m n t.0.0 u.0.0 in
    let tail : ms ≡ ns = messages_one texts ms ns t.1 u.1 in
    λ i. head i ∷ tail i

call_line_one : (texts : List (List ℕ)) (n m : ℕ) (a b : CallLine) → IsCallText texts n a → IsCallText texts m b → line.Call n a ≡ line.Call m b
call_line_one (worker ∷ (path ∷ (wait ∷ (timeout ∷ (meta ∷ messages))))) n m a b t u =
    let same_worker : n ≡ m = number_one 16 n m worker (omega arith) (t.0.1, t.0.2) (u.0.1, u.0.2) in
    let same_request = request_one a.request b.request path wait timeout meta t.1 u.1 in
    let same_messages : a.messages ≡ b.messages = messages_one messages a.messages b.messages t.3 u.3 in
    λ i. line.Call (same_worker i) (record { request = same_request i; messages = same_messages i })
call_line_one texts n m a b t u = absurd t

same_value : (r : Result Target TargetFault) (x y : Target) → r ≡ Ok x → r ≡ Ok y → x ≡ y
same_value r x y p q = (cc)

channel_one : (texts : List (List ℕ)) (target other : List ℕ) (x y : Target) → IsChannelText texts target x → IsChannelText texts other y → line.Channel target x ≡ line.Channel other y
channel_one texts target other x y t u =
    let same : target ≡ other = one_target t.0 u.0 target other (sym t.2 ∙ u.2) in
    let value : x ≡ y = same_value (any_target_of target) x y t.3 (ap any_target_of same ∙ u.3) in
    λ i. line.Channel (same i) (value i)

-- ---- the three kinds of script

pub replay_one : (n : ℕ) (texts : List (List ℕ)) (read other : ScriptLine) → IsReplayLine n texts read → IsReplayLine n texts other → other ≡ read
replay_one n texts (line.Channel target x) (line.Channel other y) t u = channel_one texts other target y x u.1 t.1
replay_one n texts (line.Channel target x) (line.Event s) t u = absurd (u.0 t.0)
replay_one n texts (line.Event s) (line.Channel target x) t u = absurd (t.0 u.0)
replay_one n texts (line.Event s) (line.Event r) t u = ap line.Event (stamped_one texts r s u.1 t.1)
replay_one n texts (line.Config config) other t u = absurd t
replay_one n texts (line.Call worker call) other t u = absurd t
replay_one n texts (line.Answer answer) other t u = absurd t
replay_one n texts read (line.Config config) t u = absurd u
replay_one n texts read (line.Call worker call) t u = absurd u
replay_one n texts read (line.Answer answer) t u = absurd u

one_text : (a b : List ℕ) → a ∷ [] ≡ b ∷ [] → a ≡ b
one_text a b e = (cc)

config_line_one : (others : List (List ℕ)) (v w : List ℕ) → (text : List ℕ) × (others ≡ text ∷ []) × IsConfig v text → (text : List ℕ) × (others ≡ text ∷ []) × IsConfig w text → v ≡ w
config_line_one others v w t u =
    let there : IsConfig w t.0 = subst (IsConfig w) (sym (one_text t.0 u.0 (sym t.1 ∙ u.1))) u.2 in
    piece_one t.0 v w t.2.0 there.0

live_text_one : (n : ℕ) (texts : List (List ℕ)) (read other : ScriptLine) → IsLiveText n texts read → IsLiveText n texts other → other ≡ read
live_text_one n [] read other t u = absurd t
live_text_one n (name ∷ others) (line.Config v) (line.Config w) t u = ap line.Config (config_line_one others w v (u.2, u.3, u.4) (t.2, t.3, t.4))
live_text_one n (name ∷ others) (line.Config v) (line.Call worker call) t u = absurd (other_names (sym t.0 ∙ u.0))
live_text_one n (name ∷ others) (line.Call worker call) (line.Config v) t u = absurd (other_names (sym u.0 ∙ t.0))
live_text_one n (name ∷ others) (line.Call worker call) (line.Call k other) t u = call_line_one others k worker other call u.1 t.1
live_text_one n (name ∷ others) (line.Channel target x) other t u = absurd t
live_text_one n (name ∷ others) (line.Event s) other t u = absurd t
live_text_one n (name ∷ others) (line.Answer answer) other t u = absurd t
live_text_one n (name ∷ others) read (line.Channel target x) t u = absurd u
live_text_one n (name ∷ others) read (line.Event s) t u = absurd u
live_text_one n (name ∷ others) read (line.Answer answer) t u = absurd u

-- a channel line, or a line after the first
live_parts : (n : ℕ) (texts : List (List ℕ)) (read : ScriptLine) → IsLiveLine n texts read → ((target : List ℕ) × (x : Target) × (read ≡ line.Channel target x) × (n ≡ 1) × IsChannelText texts target x) ⊎ ((n ≢ 1) × IsLiveText n texts read)
live_parts n texts (line.Channel target x) t = inl (target, x, refl, t.0, t.1)
live_parts n texts (line.Event s) t = inr t
live_parts n texts (line.Config config) t = inr t
live_parts n texts (line.Call worker call) t = inr t
live_parts n texts (line.Answer answer) t = inr t

pub live_one : (n : ℕ) (texts : List (List ℕ)) (read other : ScriptLine) → IsLiveLine n texts read → IsLiveLine n texts other → other ≡ read
live_one n texts read other t u =
    elim (live_parts n texts read t) [
      | inl a ↦ elim (live_parts n texts other u) [
        | inl b ↦ b.2 ∙ channel_one texts b.0 a.0 b.1 a.1 b.4 a.4 ∙ sym a.2
        | inr b ↦ absurd (b.0 a.3)
      ]
      | inr a ↦ elim (live_parts n texts other u) [
        | inl b ↦ absurd (a.0 b.3)
        | inr b ↦ live_text_one n texts read other a.1 b.1
      ]
    ]

kind_one : (k : ScriptKind) (n : ℕ) (answered : Answered) (texts : List (List ℕ)) (read other : ScriptLine) → IsKindLine k n answered texts read → IsKindLine k n answered texts other → other ≡ read
kind_one script.Replay n answered texts read other t u = replay_one n texts read other t u
kind_one script.Live n answered texts read other t u = live_one n texts read other t u
kind_one script.Server n answered texts (line.Answer a) (line.Answer b) t u = ap line.Answer (answer_one answered texts b a u t)
kind_one script.Server n answered texts (line.Channel target x) other t u = absurd t
kind_one script.Server n answered texts (line.Event s) other t u = absurd t
kind_one script.Server n answered texts (line.Config config) other t u = absurd t
kind_one script.Server n answered texts (line.Call worker call) other t u = absurd t
kind_one script.Server n answered texts read (line.Channel target x) t u = absurd u
kind_one script.Server n answered texts read (line.Event s) t u = absurd u
kind_one script.Server n answered texts read (line.Config config) t u = absurd u
kind_one script.Server n answered texts read (line.Call worker call) t u = absurd u

-- no text spells two lines
pub line_one : (r : ReaderSeen) (text : List ℕ) (closed : Bool) (read : ScriptLine) → IsLine r text closed read → IsOnlyLine r text closed read
line_one r text closed read t = λ other u. kind_one r.kind (r.lines + 1) r.answered (fields text) read other t.1 u.1
