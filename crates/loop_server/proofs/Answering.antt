-- The search for the first answer that may give something.
use Rattle.std.proofs.Common.{◌≡◌, ℕ, zero, suc, ◌+◌, true, false, List, [], ◌∷◌, drop, refl, sym, ◌∙◌, ap, subst, Some, None}
use Rattle.std.specs.Prelude.{Option, slice_get}
use Rattle.std.proofs.lemmas.List.{drop-drop}
use Rattle.grpc_base.specs.declared.script.AnswerLine.{AnswerLine}
use Rattle.loop_server.specs.declared.turn.Turn.{Turn}
use Rattle.loop_server.specs.Drains.{Giving, first_move, next_answer}
use Rattle.loop_server.specs.Outcomes.{WentAs, answer_at}
use Rattle.loop_server.proofs.Moves.{gives, passes}

none_drop : (xs : List Turn) (i : ℕ) → slice_get xs i ≡ None → drop i xs ≡ []
none_drop [] zero e = refl
none_drop [] (suc i) e = refl
none_drop (x ∷ xs) zero e = absurd (cc)
none_drop (x ∷ xs) (suc i) e = none_drop xs i e

found_by : (lines : List AnswerLine) (g h : Giving) (place : ℕ) (o : Option Turn) → slice_get g.session.turns place ≡ o → first_move lines g.answered g.session.link.wire place (drop place g.session.turns) ≡ first_move lines g.answered g.session.link.wire 0 g.session.turns → WentAs true (answer_at lines g place (slice_get g.session.turns place)) g h → WentAs true (next_answer lines g (first_move lines g.answered g.session.link.wire 0 g.session.turns)) g h
found_by lines g h place None e f w = absurd (subst (λ (o : Option Turn). WentAs true (answer_at lines g place o) g h) e w)
found_by lines g h place (Some t) e f w = gives lines g h place t e f w

-- what went is what the first answer gives
pub found : (lines : List AnswerLine) (g start h : Giving) (place : ℕ) → g ≡ start → first_move lines start.answered start.session.link.wire place (drop place start.session.turns) ≡ first_move lines start.answered start.session.link.wire 0 start.session.turns → WentAs true (answer_at lines g place (slice_get g.session.turns place)) g h → WentAs true (next_answer lines start (first_move lines start.answered start.session.link.wire 0 start.session.turns)) start h
found lines g start h place same f w =
    found_by lines start h place (slice_get start.session.turns place) refl f (subst (λ (v : Giving). WentAs true (answer_at lines v place (slice_get v.session.turns place)) v h) same w)

-- the search goes on
pub record Passes (lines : List AnswerLine) (start h : Giving) (place : ℕ) : Type 0 where
  pub same : h ≡ start
  pub first : first_move lines start.answered start.session.link.wire (place + 1) (drop (place + 1) start.session.turns) ≡ first_move lines start.answered start.session.link.wire 0 start.session.turns

passed_by : (lines : List AnswerLine) (g h : Giving) (place : ℕ) (o : Option Turn) → slice_get g.session.turns place ≡ o → first_move lines g.answered g.session.link.wire place (drop place g.session.turns) ≡ first_move lines g.answered g.session.link.wire 0 g.session.turns → WentAs false (answer_at lines g place (slice_get g.session.turns place)) g h → Passes lines g h place
passed_by lines g h place None e f w =
    let here : drop place g.session.turns ≡ [] = none_drop g.session.turns place e in
    let afterwards : drop (place + 1) g.session.turns ≡ [] = sym (drop-drop 1 place g.session.turns) ∙ ap (drop 1) here in
    record {
      same = subst (λ (o : Option Turn). WentAs false (answer_at lines g place o) g h) e w;
      first = ap (first_move lines g.answered g.session.link.wire (place + 1)) afterwards ∙ (sym (ap (first_move lines g.answered g.session.link.wire place) here) ∙ f);
    }
passed_by lines g h place (Some t) e f w = let p = passes lines g h place t e f w in record { same = p.0; first = p.1 }

pub passed : (lines : List AnswerLine) (g start h : Giving) (place : ℕ) → g ≡ start → first_move lines start.answered start.session.link.wire place (drop place start.session.turns) ≡ first_move lines start.answered start.session.link.wire 0 start.session.turns → WentAs false (answer_at lines g place (slice_get g.session.turns place)) g h → Passes lines start h place
passed lines g start h place same f w =
    passed_by lines start h place (slice_get start.session.turns place) refl f (subst (λ (v : Giving). WentAs false (answer_at lines v place (slice_get v.session.turns place)) v h) same w)
