use Rattle.std.proofs.Common.{◌≡◌, ◌∙◌, ◌≤◌, ◌<◌, ℕ, suc, ◌+◌, ◌-◌, List, ◌∷◌, ◌++◌, length, take, drop, get_or, ap, arith, subst, sym, length-drop}
use Rattle.std.specs.List.{concat}
use Rattle.attempt_buffer.specs.Spots.{MessagesAreSized, IsInFirst}
use Rattle.attempt_buffer.proofs.SpotLaws.{bytes_within, message_there, rest_whole, spot_inside, spot_on}
use Rattle.attempt_buffer.proofs.messages.Messages.copy_some.Goals as goal

-- the message at the spot, and that the bytes are within it
there : (c : goal.After-afterwards) → (drop c.args.spot.message c.args.self.now ≡ c.as_slice-message.result.now ∷ drop (suc c.args.spot.message) c.args.self.now) × (c.args.spot.offset + c.min-count.result ≤ length c.as_slice-message.result.now) × (c.args.spot.message < length c.args.self.now)
there c =
    let ms = c.args.self.now in
    let m = c.as_slice-message.result.now in
    let inside : c.args.spot.message < length ms = spot_inside ms c.args.spot.message c.args.spot.offset c.args.spot.taken c.requires.spot (omega (arith, c.requires.some, c.requires.within)) in
    let found : m ≡ get_or ms c.args.spot.message c.index.result.now = c.as_slice-message.ensures ∙ c.index.ensures ∙ ap (λ l. get_or l c.args.spot.message c.index.result.now) c.self.view_is in
    let at : drop c.args.spot.message ms ≡ m ∷ drop (suc c.args.spot.message) ms = message_there ms c.args.spot.message m c.index.result.now inside found in
    let P : List (List ℕ) → Type 0 = λ l. IsInFirst c.args.spot.offset l in
    let some : c.args.spot.offset < length m = subst P at c.requires.spot.first in
    let rest : length (take (length m - c.args.spot.offset) (drop c.args.spot.offset m)) ≡ length m - c.args.spot.offset = ap length (rest_whole m c.args.spot.offset) ∙ length-drop c.args.spot.offset m in
    (at, omega (arith, c.min-count.ensures, rest, some), inside)

pub returns-clause-spot : goal.returns-clause-spot
returns-clause-spot c =
    let t = there c in
    spot_on c.args.self.now c.args.spot.message c.args.spot.offset c.args.spot.taken c.min-count.result c.as_slice-message.result.now _ c.afterwards.result (subst MessagesAreSized c.self.view_is c.self.invariant.1) c.requires.spot t.2 t.0 t.1 c.afterwards.ensures.end c.afterwards.ensures.within

pub returns-clause-bytes : goal.returns-clause-bytes
returns-clause-bytes c =
    let t = there c in
    let text = concat c.args.self.now in
    let moved : c.min-count.result ≡ c.afterwards.result.taken - c.args.spot.taken = omega (arith, c.afterwards.ensures.taken) in
    let within = bytes_within c.args.self.now c.args.spot.message c.args.spot.offset c.args.spot.taken c.min-count.result c.as_slice-message.result.now _ c.requires.spot t.0 t.1 in
    c.extend_reserved.ensures.items ∙ ap (λ l. c.args.out.now.items ++ l) (ap (take c.min-count.result) (rest_whole c.as_slice-message.result.now c.args.spot.offset) ∙ sym within ∙ ap (λ n. take n (drop c.args.spot.taken text)) moved)
