use Rattle.std.proofs.Common.{sym}
use Rattle.channel_core.specs.CallEvents.{step_by}
use Rattle.channel_core.proofs.Asking.{asked_none, asked_reply}
use Rattle.channel_core.proofs.Lending.{asked_acts, asked_book}
use Rattle.channel_core.proofs.state.book.Book.act_on.Goals as goal

pub returns-in_default-clause-reply : goal.returns-in_default-clause-reply
returns-in_default-clause-reply c = asked_none c.args.event.now _ (sym c.in_default.ensures.slot)

pub returns-clause-reply : goal.returns-clause-reply
returns-clause-reply c =
    asked_reply (λ r. r.0) c.args.event.now _ c.in-Some.slot.now c.act.result (sym c.in-Some.ensures.slot) c.act.ensures.reply

pub returns-clause-book : goal.returns-clause-book
returns-clause-book c =
    asked_book (step_by c.args.event.now c.args.self.now.moment) c.args.self.now c.args.call c.tokens-tokens.result.now c.in-Some.slot.now c.act.new.call c.act.new.ledger c.act.result
    (sym c.in-Some.ensures.slot) c.tokens-tokens.ensures c.act.ensures.call c.act.ensures.ledger

pub returns-clause-acts : goal.returns-clause-acts
returns-clause-acts c =
    asked_acts (λ r. r.1) (step_by c.args.event.now c.args.self.now.moment) c.args.self.now c.args.call c.tokens-tokens.result.now c.in-Some.slot.now c.act.result
    (sym c.in-Some.ensures.slot) c.tokens-tokens.ensures c.act.ensures.acts
