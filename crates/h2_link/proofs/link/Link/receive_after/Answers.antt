use Rattle.std.proofs.Common.{◌≡◌, ℕ, List, ◌∙◌, sym, ap, arith, length}
use Rattle.std.specs.Prelude.{Option}
use Rattle.h2_link.specs.declared.news.LinkNews.{LinkNews}
use Rattle.h2_link.specs.Received.{handled, prefix_of}
use Rattle.h2_link.specs.Outcomes.{prefix_reported}
use Rattle.h2_link.specs.Wire.{Seen}
use Rattle.h2_link.proofs.Prefixes.{partial_size}
use Rattle.h2_link.proofs.Receiving.{is_joined, received_some, some_bounds, received_none}
use Rattle.h2_link.proofs.link.Link.receive_after.Goals as goal

pub overflow_sub-held : goal.overflow_sub-held
overflow_sub-held c =
    let size = partial_size c.self.inside.rest.items c.self.invariant in
    let same = ap (λ v. length v.items) c.replace-joined.ensures.value in omega (arith, size, same, c.len-held.ensures)

pub overflow_sub-result : goal.overflow_sub-result
overflow_sub-result c =
    let j = is_joined c.self.inside.state c.self.inside.rest.items c.replace-joined.result.items c.args.piece.now c.extend.new.bytes.items c.len-held.result c.min-more.result c.self.invariant (ap (λ v. v.items) c.replace-joined.ensures.value) (omega (arith, c.len-held.ensures)) c.min-more.ensures c.in_ok-extend.ensures.ok in
    let f = sym (ap (λ (o : Option (ℕ × List LinkNews)). prefix_reported o c.receive.new.self) c.in-Some.is) ∙ (c.in_ok-shown.ensures.prefix ∙ ap (λ (t : List ℕ). prefix_of c.self.inside.state t) c.as_slice.ensures.value) in
    (some_bounds (record { wire = c.self.inside.state; rest = c.self.inside.rest.items }) c.args.piece.now c.extend.new.bytes.items c.len-held.result c.min-more.result c.in-Some.shown c.receive.new.self c.in-Some.news j f).0

pub returns-in-Some-clause-within : goal.returns-in-Some-clause-within
returns-in-Some-clause-within c =
    let j = is_joined c.self.inside.state c.self.inside.rest.items c.replace-joined.result.items c.args.piece.now c.extend.new.bytes.items c.len-held.result c.min-more.result c.self.invariant (ap (λ v. v.items) c.replace-joined.ensures.value) (omega (arith, c.len-held.ensures)) c.min-more.ensures c.in_ok-extend.ensures.ok in
    let f = sym (ap (λ (o : Option (ℕ × List LinkNews)). prefix_reported o c.receive.new.self) c.in-Some.is) ∙ (c.in_ok-shown.ensures.prefix ∙ ap (λ (t : List ℕ). prefix_of c.self.inside.state t) c.as_slice.ensures.value) in
    let b = some_bounds (record { wire = c.self.inside.state; rest = c.self.inside.rest.items }) c.args.piece.now c.extend.new.bytes.items c.len-held.result c.min-more.result c.in-Some.shown c.receive.new.self c.in-Some.news j f in
    (b.1, b.2)

pub returns-in-Some-clause-handled : goal.returns-in-Some-clause-handled
returns-in-Some-clause-handled c =
    let j = is_joined c.self.inside.state c.self.inside.rest.items c.replace-joined.result.items c.args.piece.now c.extend.new.bytes.items c.len-held.result c.min-more.result c.self.invariant (ap (λ v. v.items) c.replace-joined.ensures.value) (omega (arith, c.len-held.ensures)) c.min-more.ensures c.in_ok-extend.ensures.ok in
    let f = sym (ap (λ (o : Option (ℕ × List LinkNews)). prefix_reported o c.receive.new.self) c.in-Some.is) ∙ (c.in_ok-shown.ensures.prefix ∙ ap (λ (t : List ℕ). prefix_of c.self.inside.state t) c.as_slice.ensures.value) in
    received_some (record { wire = c.self.inside.state; rest = c.self.inside.rest.items }) c.args.piece.now c.extend.new.bytes.items c.clear.new.self.items c.len-held.result c.min-more.result c.in-Some.shown c.receive.new.self c.in-Some.news j c.clear.ensures.items f
    ∙ ap (λ (v : Seen). handled v c.args.piece.now) c.self.view_is

pub returns-in-None-clause-handled : goal.returns-in-None-clause-handled
returns-in-None-clause-handled c =
    let j = is_joined c.self.inside.state c.self.inside.rest.items c.replace-joined.result.items c.args.piece.now c.extend.new.bytes.items c.len-held.result c.min-more.result c.self.invariant (ap (λ v. v.items) c.replace-joined.ensures.value) (omega (arith, c.len-held.ensures)) c.min-more.ensures c.in_ok-extend.ensures.ok in
    let f = sym (ap (λ (o : Option (ℕ × List LinkNews)). prefix_reported o c.receive.new.self) c.in-None.is) ∙ (c.in_ok-shown.ensures.prefix ∙ ap (λ (t : List ℕ). prefix_of c.self.inside.state t) c.as_slice.ensures.value) in
    let same : c.receive.new.self ≡ c.self.inside.state = rw c.in-None.is at c.in_ok-shown.ensures.same in
    ap (λ (n : List LinkNews). record { taken = length c.args.piece.now; link = record { wire = c.receive.new.self; rest = c.extend.new.bytes.items }; news = n }) c.new-in-None.ensures
    ∙ (received_none (record { wire = c.self.inside.state; rest = c.self.inside.rest.items }) c.args.piece.now c.extend.new.bytes.items c.len-held.result c.min-more.result c.receive.new.self j same f
    ∙ ap (λ (v : Seen). handled v c.args.piece.now) c.self.view_is)
