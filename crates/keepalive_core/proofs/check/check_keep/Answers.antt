use Rattle.std.proofs.Common.{rules, ◌≡◌, ◌∷◌, true, List, length, ap, ◌∙◌, arith}
use Rattle.std.proofs.lemmas.Grind.{common_steps}
use Rattle.keepalive_core.specs.Keepalive.{first_fault, is_next, stand_next}
use Rattle.keepalive_core.specs.declared.rule.KeepEntry.{KeepEntry}
use Rattle.keepalive_core.proofs.KeepLaws.{count_next, fault_later, moments_next, stand_law}
use Rattle.keepalive_core.proofs.check.check_keep.Goals as goal

pub loop-entry-preserved : goal.loop-entry-preserved
loop-entry-preserved c =
    let on = c.loop-entry.invariant in
    let whole : c.loop-entry.rest.now ≡ c.in-Some.entry.now ∷ c.in-Some.later.now = search rules in
    let kept : is_next c.loop-entry.keep c.in-Some.entry.now ≡ true = search rules in
    let after : c.follows.new.keep ≡ stand_next c.loop-entry.keep c.in-Some.entry.now.kind c.in-Some.entry.now.moment = search rules in
    record {
      older = c.in-Some.entry.now ∷ on.older;
      stand = stand_law c.args.rule c.args.start c.in-Some.entry.now on.older c.loop-entry.keep c.follows.new.keep on.stand after;
      place = grind (arith, common_steps, on.place);
      count = count_next c.loop-entry.rest.now c.in-Some.entry.now c.in-Some.later.now c.loop-entry.place (length c.args.log.now) whole on.count;
      moments = moments_next c.loop-entry.rest.now c.in-Some.entry.now c.in-Some.later.now whole on.moments;
      fault = on.fault ∙ ap (λ (r : List KeepEntry). first_fault c.args.rule c.args.start on.older r) whole
          ∙ fault_later c.args.rule c.args.start on.older c.in-Some.entry.now c.in-Some.later.now c.loop-entry.keep on.stand kept;
    }
