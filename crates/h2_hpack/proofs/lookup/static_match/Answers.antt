use Rattle.std.proofs.Common.{◌+◌, ◌<◌, None, ap, arith, subst, sym, ◌∙◌}
use Rattle.std.specs.Prelude.{not}
use Rattle.h2_hpack.specs.Encoding.{index_where, match_of, same_name, same_pair}
use Rattle.h2_hpack.specs.StaticTable.{static_table}
use Rattle.std.specs.Prelude.{drop, take}
use Rattle.h2_hpack.proofs.LookupLemmas.{IsNameSought, name_here, name_kept, name_next, name_past, no_pair, pairless, sought_from, sought_here, sought_next, sought_past}
use Rattle.h2_hpack.proofs.lookup.static_match.Goals.{then-has_name+else-has_value+then-is_none, then-has_name+else-has_value+else-is_none, else-has_name}
use Rattle.h2_hpack.proofs.lookup.static_match.Goals as goal

pub returns-then-has_value : goal.returns-then-has_value
returns-then-has_value c =
    sym (ap (λ p. match_of p (index_where (same_name c.args.name.now))) (sought_here (same_pair c.args.name.now c.args.value.now) c.loop-place.place (omega (arith, c.loop-place-test.true, c.places_of-start.ensures.within)) c.loop-place.invariant.0 (c.has_value.ensures c.args.name.now (sym c.has_name.ensures ∙ c.if-has_name.true) ∙ c.if-has_value.true)))

pub loop-place-preserved : goal.loop-place-preserved
loop-place-preserved c =
    let pair = same_pair c.args.name.now c.args.value.now in
    let name = same_name c.args.name.now in
    let place = c.loop-place.place in
    let so = c.loop-place.invariant in
    let below : place < 61 = omega (arith, c.loop-place-test.true, c.places_of-start.ensures.within) in
    elim c.if-has_name.branch [
      | then-has_name+else-has_value+then-is_none w ↦
          (sought_next pair place below so.0 (w.has_value.ensures c.args.name.now (sym c.has_name.ensures ∙ w.if-has_name.true) ∙ w.if-has_value.false), subst (IsNameSought name (place + 1)) (sym w.named-is) (name_here name place c.loop-place.named (w.is_none.ensures ∙ ap not w.if-is_none.true) below so.1 (sym c.has_name.ensures ∙ w.if-has_name.true)))
      | then-has_name+else-has_value+else-is_none w ↦
          (sought_next pair place below so.0 (w.has_value.ensures c.args.name.now (sym c.has_name.ensures ∙ w.if-has_name.true) ∙ w.if-has_value.false), subst (IsNameSought name (place + 1)) (sym w.named-is) (name_kept name place c.loop-place.named (w.is_none.ensures ∙ ap not w.if-is_none.false) so.1))
      | else-has_name w ↦
          (sought_next pair place below so.0 (no_pair c.args.name.now c.args.value.now place (sym c.has_name.ensures ∙ w.if-has_name.false)), subst (IsNameSought name (place + 1)) (sym w.named-is) (name_next name place c.loop-place.named below so.1 (sym c.has_name.ensures ∙ w.if-has_name.false)))
    ]

pub loop-place-init : goal.loop-place-init
loop-place-init c =
    let none = c.places_of-start.ensures.before in
    (sought_from (same_pair c.args.name.now c.args.value.now) c.places_of-start.result.0 (pairless c.args.name.now c.args.value.now (take c.places_of-start.result.0 static_table) none), sought_from (same_name c.args.name.now) c.places_of-start.result.0 none)

pub returns-in-Some : goal.returns-in-Some
returns-in-Some c =
    let none = c.places_of-start.ensures.afterwards in
    let pair = sought_past (same_pair c.args.name.now c.args.value.now) c.places_of-start.result.1 c.loop-place.place c.loop-place-test.false (pairless c.args.name.now c.args.value.now (drop c.places_of-start.result.1 static_table) none) c.loop-place.invariant.0 in
    let name = name_past (same_name c.args.name.now) c.places_of-start.result.1 c.loop-place.place c.loop-place.named c.loop-place-test.false none c.loop-place.invariant.1 ∙ c.in-Some.is in
    sym (ap (λ p. match_of p (index_where (same_name c.args.name.now))) pair ∙ ap (match_of None) name)

pub returns-in-None : goal.returns-in-None
returns-in-None c =
    let none = c.places_of-start.ensures.afterwards in
    let pair = sought_past (same_pair c.args.name.now c.args.value.now) c.places_of-start.result.1 c.loop-place.place c.loop-place-test.false (pairless c.args.name.now c.args.value.now (drop c.places_of-start.result.1 static_table) none) c.loop-place.invariant.0 in
    let name = name_past (same_name c.args.name.now) c.places_of-start.result.1 c.loop-place.place c.loop-place.named c.loop-place-test.false none c.loop-place.invariant.1 ∙ c.in-None.is in
    sym (ap (λ p. match_of p (index_where (same_name c.args.name.now))) pair ∙ ap (match_of None) name)
