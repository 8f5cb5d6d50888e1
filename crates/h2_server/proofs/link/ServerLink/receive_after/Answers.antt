use Rattle.std.proofs.Common.{◌≡◌, ℕ, List, ◌∙◌, sym, ap, arith, length}
use Rattle.std.specs.Prelude.{Option}
use Rattle.h2_server.specs.declared.news.RequestNews.{RequestNews}
use Rattle.h2_server.specs.Received.{handled, prefix_of}
use Rattle.h2_server.specs.Outcomes.{prefix_reported}
use Rattle.h2_server.specs.Wire.{Seen}
use Rattle.h2_server.proofs.Prefixes.{part_size}
use Rattle.h2_server.proofs.Receiving.{is_joined, received_some, some_bounds, received_none, kept_part}
use Rattle.h2_server.proofs.link.ServerLink.receive_after.Goals as goal

pub overflow_sub-held : goal.overflow_sub-held
overflow_sub-held c =
    let size = part_size c.self.inside.prefaced c.self.inside.state c.self.inside.rest.items c.self.invariant in
    let same = ap (λ v. length v.items) c.replace-joined.ensures.value in omega (arith, size, same, c.len-held.ensures)

pub overflow_sub-result : goal.overflow_sub-result
overflow_sub-result c =
    let j = is_joined c.self.inside.prefaced c.self.inside.state c.self.inside.rest.items c.replace-joined.result.items c.args.piece.now c.extend.new.bytes.items c.len-held.result c.min-more.result c.self.invariant (ap (λ v. v.items) c.replace-joined.ensures.value) (omega (arith, c.len-held.ensures)) c.min-more.ensures c.in_ok-extend.ensures.ok in
    let f = sym (ap (λ (o : Option (ℕ × Option RequestNews)). prefix_reported o c.receive.new.self) c.in-Some.is) ∙ (c.in_ok-shown.ensures.prefix ∙ ap (λ (t : List ℕ). prefix_of c.self.inside.prefaced c.self.inside.state t) c.as_slice.ensures.value) in
    (some_bounds (record { prefaced = c.self.inside.prefaced; wire = c.self.inside.state; rest = c.self.inside.rest.items }) c.args.piece.now c.extend.new.bytes.items c.len-held.result c.min-more.result c.in-Some.shown c.receive.new.self c.in-Some.news j f).0

pub returns-in-Some-clause-within : goal.returns-in-Some-clause-within
returns-in-Some-clause-within c =
    let j = is_joined c.self.inside.prefaced c.self.inside.state c.self.inside.rest.items c.replace-joined.result.items c.args.piece.now c.extend.new.bytes.items c.len-held.result c.min-more.result c.self.invariant (ap (λ v. v.items) c.replace-joined.ensures.value) (omega (arith, c.len-held.ensures)) c.min-more.ensures c.in_ok-extend.ensures.ok in
    let f = sym (ap (λ (o : Option (ℕ × Option RequestNews)). prefix_reported o c.receive.new.self) c.in-Some.is) ∙ (c.in_ok-shown.ensures.prefix ∙ ap (λ (t : List ℕ). prefix_of c.self.inside.prefaced c.self.inside.state t) c.as_slice.ensures.value) in
    let b = some_bounds (record { prefaced = c.self.inside.prefaced; wire = c.self.inside.state; rest = c.self.inside.rest.items }) c.args.piece.now c.extend.new.bytes.items c.len-held.result c.min-more.result c.in-Some.shown c.receive.new.self c.in-Some.news j f in
    (b.1, b.2)

pub returns-in-Some-clause-handled : goal.returns-in-Some-clause-handled
returns-in-Some-clause-handled c =
    let j = is_joined c.self.inside.prefaced c.self.inside.state c.self.inside.rest.items c.replace-joined.result.items c.args.piece.now c.extend.new.bytes.items c.len-held.result c.min-more.result c.self.invariant (ap (λ v. v.items) c.replace-joined.ensures.value) (omega (arith, c.len-held.ensures)) c.min-more.ensures c.in_ok-extend.ensures.ok in
    let f = sym (ap (λ (o : Option (ℕ × Option RequestNews)). prefix_reported o c.receive.new.self) c.in-Some.is) ∙ (c.in_ok-shown.ensures.prefix ∙ ap (λ (t : List ℕ). prefix_of c.self.inside.prefaced c.self.inside.state t) c.as_slice.ensures.value) in
    received_some (record { prefaced = c.self.inside.prefaced; wire = c.self.inside.state; rest = c.self.inside.rest.items }) c.args.piece.now c.extend.new.bytes.items c.clear.new.self.items c.len-held.result c.min-more.result c.in-Some.shown c.receive.new.self c.in-Some.news j c.clear.ensures.items f
    ∙ ap (λ (v : Seen). handled v c.args.piece.now) c.self.view_is

pub returns-in-None-clause-handled : goal.returns-in-None-clause-handled
returns-in-None-clause-handled c =
    let j = is_joined c.self.inside.prefaced c.self.inside.state c.self.inside.rest.items c.replace-joined.result.items c.args.piece.now c.extend.new.bytes.items c.len-held.result c.min-more.result c.self.invariant (ap (λ v. v.items) c.replace-joined.ensures.value) (omega (arith, c.len-held.ensures)) c.min-more.ensures c.in_ok-extend.ensures.ok in
    let f = sym (ap (λ (o : Option (ℕ × Option RequestNews)). prefix_reported o c.receive.new.self) c.in-None.is) ∙ (c.in_ok-shown.ensures.prefix ∙ ap (λ (t : List ℕ). prefix_of c.self.inside.prefaced c.self.inside.state t) c.as_slice.ensures.value) in
    let same : c.receive.new.self ≡ c.self.inside.state = rw c.in-None.is at c.in_ok-shown.ensures.same in
    received_none (record { prefaced = c.self.inside.prefaced; wire = c.self.inside.state; rest = c.self.inside.rest.items }) c.args.piece.now c.extend.new.bytes.items c.len-held.result c.min-more.result c.receive.new.self j same f
    ∙ ap (λ (v : Seen). handled v c.args.piece.now) c.self.view_is

pub invariant_of-self-in-None : goal.invariant_of-self-in-None
invariant_of-self-in-None c =
    let f = sym (ap (λ (o : Option (ℕ × Option RequestNews)). prefix_reported o c.receive.new.self) c.in-None.is) ∙ (c.in_ok-shown.ensures.prefix ∙ ap (λ (t : List ℕ). prefix_of c.self.inside.prefaced c.self.inside.state t) c.as_slice.ensures.value) in
    kept_part c.self.inside.prefaced c.self.inside.state c.receive.new.self c.extend.new.bytes.items f
