-- What one answer gives, and what that is for its link.
use Rattle.std.proofs.Common.{◌≡◌, ℕ, zero, suc, ◌<◌, ◌+◌, Bool, true, false, List, [], ◌∷◌, ◌++◌, length, drop, get_or, refl, sym, ◌∙◌, ap, ap₂, subst, Some, None, add-one, append_assoc}
use Rattle.std.specs.Prelude.{Option, IfSome, slice_get, slice_set}
use Rattle.std.specs.List.{remove}
use Rattle.std.proofs.Math.Seq.{drop-cons}
use Rattle.std.proofs.lemmas.Option.{slice_get_within, get_or_from_slice_get}
use Rattle.grpc_base.specs.declared.fields.Field.{Field}
use Rattle.grpc_base.specs.declared.script.AnswerLine.{AnswerLine}
use Rattle.h2_server.specs.Wire.{Seen}
use Rattle.loop_server.specs.declared.turn.Turn.{Turn}
use Rattle.loop_server.specs.Drains.{Giving, Move, first_from, first_move, is_given, move_of, next_answer, turn_given}
use Rattle.loop_server.specs.Outcomes.{MovedAs, Settled, WentAs, answer_at, answer_by}
use Rattle.loop_server.specs.Server.{Served}

pub two_more : (a b c : List Field) (x y : Field) → b ≡ a ++ x ∷ [] → c ≡ b ++ y ∷ [] → c ≡ a ++ x ∷ y ∷ []
two_more a b c x y e f = f ∙ (ap (λ (t : List Field). t ++ y ∷ []) e ∙ append_assoc a (x ∷ []) (y ∷ []))

set_same : (xs : List Turn) (i : ℕ) (t : Turn) → slice_get xs i ≡ Some t → slice_set xs i t ≡ xs
set_same [] i t e = refl
set_same (x ∷ xs) zero t e = let same : x ≡ t = cc in ap (λ (v : Turn). v ∷ xs) (sym same)
set_same (x ∷ xs) (suc i) t e = ap (λ (l : List Turn). x ∷ l) (set_same xs i t e)

get_set : (xs : List Turn) (i : ℕ) (t u : Turn) → slice_get xs i ≡ Some t → slice_get (slice_set xs i u) i ≡ Some u
get_set [] i t u e = absurd (cc)
get_set (x ∷ xs) zero t u e = refl
get_set (x ∷ xs) (suc i) t u e = get_set xs i t u e

remove_set : (xs : List Turn) (i : ℕ) (u : Turn) → remove (slice_set xs i u) i ≡ remove xs i
remove_set [] i u = refl
remove_set (x ∷ xs) zero u = refl
remove_set (x ∷ xs) (suc i) u = ap (λ (l : List Turn). x ∷ l) (remove_set xs i u)

none_by : (lines : List AnswerLine) (s : Served) (answered place : ℕ) (out : List ℕ) (t : Turn) (l2 : Seen) (t2 : Turn) (out2 : List ℕ) (o : Option Move) → slice_get s.turns place ≡ Some t → MovedAs false o s.link t out l2 t2 out2 → WentAs false (answer_by lines (record { session = s; answered = answered; octets = out }) place o) (record { session = s; answered = answered; octets = out }) (record { session = record s { link = l2; turns = slice_set s.turns place t2 }; answered = answered; octets = out2 })
none_by lines s answered place out t l2 t2 out2 (Some m) e w = absurd w
none_by lines s answered place out t l2 t2 out2 None e w =
    let turns : slice_set s.turns place t2 ≡ s.turns = ap (slice_set s.turns place) w.1 ∙ set_same s.turns place t e in
    ap (λ (v : List ℕ). record { session = record s { link = l2; turns = slice_set s.turns place t2 }; answered = answered; octets = v }) w.2
    ∙ ap₂ (λ (l : Seen) (ts : List Turn). record { session = record s { link = l; turns = ts }; answered = answered; octets = out }) w.0 turns

pub none_at : (lines : List AnswerLine) (s : Served) (answered place : ℕ) (out : List ℕ) (t : Turn) (l2 : Seen) (t2 : Turn) (out2 : List ℕ) → slice_get s.turns place ≡ Some t → MovedAs false (move_of lines answered s.link.wire t) s.link t out l2 t2 out2 → WentAs false (answer_at lines (record { session = s; answered = answered; octets = out }) place (slice_get s.turns place)) (record { session = s; answered = answered; octets = out }) (record { session = record s { link = l2; turns = slice_set s.turns place t2 }; answered = answered; octets = out2 })
none_at lines s answered place out t l2 t2 out2 e w =
    subst (λ (o : Option Turn). WentAs false (answer_at lines (record { session = s; answered = answered; octets = out }) place o) (record { session = s; answered = answered; octets = out }) (record { session = record s { link = l2; turns = slice_set s.turns place t2 }; answered = answered; octets = out2 })) (sym e) (none_by lines s answered place out t l2 t2 out2 (move_of lines answered s.link.wire t) e w)

settled_by : (lines : List AnswerLine) (s : Served) (answered place : ℕ) (out out2 : List ℕ) (l2 : Seen) (m : Move) (s3 : Served) (a3 : ℕ) (b : Bool) → l2 ≡ record s.link { wire = m.wire } → out2 ≡ out ++ m.octets → Settled b (record s { link = l2; turns = slice_set s.turns place m.turn }) answered place s3 a3 → ◌≡◌ {A = Giving} (record { session = s3; answered = a3; octets = out2 }) (turn_given (record { session = s; answered = answered; octets = out }) place m b)
settled_by lines s answered place out out2 l2 m s3 a3 true l o h =
    let turns = remove_set s.turns place m.turn in
    let session : s3 ≡ record s { link = record s.link { wire = m.wire }; turns = remove s.turns place } = h.0 ∙ ap₂ (λ (v : Seen) (ts : List Turn). record s { link = v; turns = ts }) l turns in
    ap (λ (v : Served). record { session = v; answered = a3; octets = out2 }) session
    ∙ ap₂ (λ (n : ℕ) (v : List ℕ). record { session = record s { link = record s.link { wire = m.wire }; turns = remove s.turns place }; answered = n; octets = v }) h.1 o
settled_by lines s answered place out out2 l2 m s3 a3 false l o h =
    let session : s3 ≡ record s { link = record s.link { wire = m.wire }; turns = slice_set s.turns place m.turn } = h.0 ∙ ap (λ (v : Seen). record s { link = v; turns = slice_set s.turns place m.turn }) l in
    ap (λ (v : Served). record { session = v; answered = a3; octets = out2 }) session
    ∙ ap₂ (λ (n : ℕ) (v : List ℕ). record { session = record s { link = record s.link { wire = m.wire }; turns = slice_set s.turns place m.turn }; answered = n; octets = v }) h.1 o

some_by : (lines : List AnswerLine) (s : Served) (answered place : ℕ) (out : List ℕ) (t : Turn) (l2 : Seen) (t2 : Turn) (out2 : List ℕ) (s3 : Served) (a3 : ℕ) (o : Option Move) → MovedAs true o s.link t out l2 t2 out2 → Settled (is_given lines t2) (record s { link = l2; turns = slice_set s.turns place t2 }) answered place s3 a3 → WentAs true (answer_by lines (record { session = s; answered = answered; octets = out }) place o) (record { session = s; answered = answered; octets = out }) (record { session = s3; answered = a3; octets = out2 })
some_by lines s answered place out t l2 t2 out2 s3 a3 None w h = absurd w
some_by lines s answered place out t l2 t2 out2 s3 a3 (Some m) w h =
    let settled = subst (λ (u : Turn). Settled (is_given lines u) (record s { link = l2; turns = slice_set s.turns place u }) answered place s3 a3) w.1 h in
    settled_by lines s answered place out out2 l2 m s3 a3 (is_given lines m.turn) w.0 w.2 settled

pub some_at : (lines : List AnswerLine) (s : Served) (answered place : ℕ) (out : List ℕ) (t : Turn) (l2 : Seen) (t2 : Turn) (out2 : List ℕ) (s3 : Served) (a3 : ℕ) → slice_get s.turns place ≡ Some t → MovedAs true (move_of lines answered s.link.wire t) s.link t out l2 t2 out2 → IfSome (slice_get (slice_set s.turns place t2) place) (λ u. Settled (is_given lines u) (record s { link = l2; turns = slice_set s.turns place t2 }) answered place s3 a3) → WentAs true (answer_at lines (record { session = s; answered = answered; octets = out }) place (slice_get s.turns place)) (record { session = s; answered = answered; octets = out }) (record { session = s3; answered = a3; octets = out2 })
some_at lines s answered place out t l2 t2 out2 s3 a3 e w h =
    let settled : Settled (is_given lines t2) (record s { link = l2; turns = slice_set s.turns place t2 }) answered place s3 a3 =
    subst (λ (o : Option Turn). IfSome o (λ u. Settled (is_given lines u) (record s { link = l2; turns = slice_set s.turns place t2 }) answered place s3 a3)) (get_set s.turns place t t2 e) h in
    subst (λ (o : Option Turn). WentAs true (answer_at lines (record { session = s; answered = answered; octets = out }) place o) (record { session = s; answered = answered; octets = out }) (record { session = s3; answered = a3; octets = out2 })) (sym e) (some_by lines s answered place out t l2 t2 out2 s3 a3 (move_of lines answered s.link.wire t) w settled)

-- the first answer that may give something
cut : (turns : List Turn) (i : ℕ) (t : Turn) → slice_get turns i ≡ Some t → drop i turns ≡ t ∷ drop (i + 1) turns
cut turns i t e =
    let lt = slice_get_within turns i t e in
    let at : get_or turns i t ≡ t = get_or_from_slice_get turns i t t e in
    rw add-one (drop-cons turns i t lt ∙ ap (λ (x : Turn). x ∷ drop (suc i) turns) at)

gives_by : (lines : List AnswerLine) (g h : Giving) (place : ℕ) (o : Option Move) (other : Option (ℕ × Move)) → WentAs true (answer_by lines g place o) g h → WentAs true (next_answer lines g (first_from o place other)) g h
gives_by lines g h place None other w = absurd w
gives_by lines g h place (Some m) other w = w

pub gives : (lines : List AnswerLine) (g h : Giving) (place : ℕ) (t : Turn) → slice_get g.session.turns place ≡ Some t → first_move lines g.answered g.session.link.wire place (drop place g.session.turns) ≡ first_move lines g.answered g.session.link.wire 0 g.session.turns → WentAs true (answer_at lines g place (slice_get g.session.turns place)) g h → WentAs true (next_answer lines g (first_move lines g.answered g.session.link.wire 0 g.session.turns)) g h
gives lines g h place t e f w =
    let here : WentAs true (answer_by lines g place (move_of lines g.answered g.session.link.wire t)) g h = subst (λ (o : Option Turn). WentAs true (answer_at lines g place o) g h) e w in
    let first = gives_by lines g h place (move_of lines g.answered g.session.link.wire t) (first_move lines g.answered g.session.link.wire (place + 1) (drop (place + 1) g.session.turns)) here in
    subst (λ (o : Option (ℕ × Move)). WentAs true (next_answer lines g o) g h) (sym (ap (first_move lines g.answered g.session.link.wire place) (cut g.session.turns place t e)) ∙ f) first

passes_by : (lines : List AnswerLine) (g h : Giving) (place : ℕ) (o : Option Move) (other : Option (ℕ × Move)) → WentAs false (answer_by lines g place o) g h → (h ≡ g) × (first_from o place other ≡ other)
passes_by lines g h place None other w = (w, refl)
passes_by lines g h place (Some m) other w = absurd w

pub passes : (lines : List AnswerLine) (g h : Giving) (place : ℕ) (t : Turn) → slice_get g.session.turns place ≡ Some t → first_move lines g.answered g.session.link.wire place (drop place g.session.turns) ≡ first_move lines g.answered g.session.link.wire 0 g.session.turns → WentAs false (answer_at lines g place (slice_get g.session.turns place)) g h → (h ≡ g) × (first_move lines g.answered g.session.link.wire (place + 1) (drop (place + 1) g.session.turns) ≡ first_move lines g.answered g.session.link.wire 0 g.session.turns)
passes lines g h place t e f w =
    let here : WentAs false (answer_by lines g place (move_of lines g.answered g.session.link.wire t)) g h = subst (λ (o : Option Turn). WentAs false (answer_at lines g place o) g h) e w in
    let p = passes_by lines g h place (move_of lines g.answered g.session.link.wire t) (first_move lines g.answered g.session.link.wire (place + 1) (drop (place + 1) g.session.turns)) here in
    (p.0, sym p.1 ∙ (sym (ap (first_move lines g.answered g.session.link.wire place) (cut g.session.turns place t e)) ∙ f))
