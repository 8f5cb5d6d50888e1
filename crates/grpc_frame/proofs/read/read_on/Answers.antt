use Rattle.std.proofs.Common.{◌≡◌, ◌∙◌, ◌++◌, ◌+◌, ap, sym, subst, take, drop, length, List, ℕ}
use Rattle.std.specs.Result.{IfOk}
use Rattle.grpc_frame.specs.declared.next.NextMessage.TheVariants as next
use Rattle.grpc_frame.specs.Messages.{Messages, next_of, messages_of}
use Rattle.grpc_frame.specs.Read.{reported, kept}
use Rattle.grpc_frame.proofs.ReadLaws.{fault_alone, one_before, rest_whole, rest_fault, whole_size}
use Rattle.grpc_frame.proofs.read.read_on.Goals as goal

pub returns-in_ok-push-in-Whole-clause-reported : goal.returns-in_ok-push-in-Whole-clause-reported
returns-in_ok-push-in-Whole-clause-reported c =
    let limit = c.args.limit in
    let octets = c.args.octets.now in
    let begun = c.in_ok-begun.begun.rest.items in
    let taken = c.in_ok-begun.begun.taken in
    let whole : next_of limit begun ≡ next.Whole c.in-Whole.length =
    ap (next_of limit) (sym c.as_slice-2.ensures) ∙ sym c.next_message.ensures ∙ c.in-Whole.is in
    let bytes : begun ≡ c.args.rest.items ++ take taken octets =
    c.in_ok-begun.ensures.rest ∙ ap (λ (xs : List ℕ). c.args.rest.items ++ take taken xs) c.as_slice.ensures in
    let size : length begun ≡ 5 + c.in-Whole.length = whole_size (next_of limit begun) c.in-Whole.length (length begun) _ whole c.in_ok-begun.ensures.far in
    let all = one_before c.push.new.self.items c.new-messages.result.items c.in_ok-message_in-in-Whole.field-0 begun (kept (messages_of limit (drop taken octets))) (kept (messages_of limit (c.args.rest.items ++ octets)))
    c.in_ok-push-in-Whole.ensures.items c.new-messages.ensures.items c.in_ok-message_in-in-Whole.ensures (rest_whole limit c.in-Whole.length taken c.args.rest.items begun octets bytes whole size) in
    let Report : Messages → Type 0 = λ m. IfOk c.read_from-in-Whole.result (λ r. reported r ≡ m) in
    subst Report all c.read_from-in-Whole.ensures.reported

pub returns-in-Fault-clause-reported : goal.returns-in-Fault-clause-reported
returns-in-Fault-clause-reported c =
    let limit = c.args.limit in
    let begun = c.in_ok-begun.begun.rest.items in
    let taken = c.in_ok-begun.begun.taken in
    let fault : next_of limit begun ≡ next.Fault c.in-Fault.fault =
    ap (next_of limit) (sym c.as_slice-2.ensures) ∙ sym c.next_message.ensures ∙ c.in-Fault.is in
    let bytes : begun ≡ c.args.rest.items ++ take taken c.args.octets.now =
    c.in_ok-begun.ensures.rest ∙ ap (λ (xs : List ℕ). c.args.rest.items ++ take taken xs) c.as_slice.ensures in
    fault_alone c.new-messages.result.items c.new.result.items c.in-Fault.fault (kept (messages_of limit (c.args.rest.items ++ c.args.octets.now))) c.new-messages.ensures.items c.new.ensures.items
    (rest_fault limit taken c.in-Fault.fault c.args.rest.items begun c.args.octets.now bytes fault)
