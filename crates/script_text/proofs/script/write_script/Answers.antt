use Rattle.std.proofs.Common.{◌++◌, sym, subst, ℕ, List}
use Rattle.std.specs.Prelude.{map}
use Rattle.gate_io.specs.Outside.{Appends, AppendsPrefix}
use Rattle.std.proofs.lemmas.Result.{on_ok_weaker, on_err_weaker}
use Rattle.script_text.specs.Spelling.{lines_text, stamped_text}
use Rattle.script_text.proofs.Words.{script_is}
use Rattle.script_text.proofs.Passing.{on_err, Appends-afterwards, AppendsPrefix-last}
use Rattle.script_text.proofs.script.write_script.Goals as goal

pub returns-in_err-write_events-clause-err : goal.returns-in_err-write_events-clause-err
returns-in_err-write_events-clause-err g c =
    on_err c.from_residual-in_err-write_events.result
    (subst (λ (t : List ℕ). AppendsPrefix (g.K.Sink.taken c.args.sink.now) (g.K.Sink.taken c.write_events.new.sink) t)
    (sym (script_is c.args.target.now c.args.events.now c.new-out.result.items c.append_channel.new.out.items c.new-out.ensures.items c.in_ok-append_channel.ensures))
    c.in_err-write_events.ensures.err)

pub returns-clause-ok : goal.returns-clause-ok
returns-clause-ok g c =
    on_ok_weaker c.write_out.result
    (λ h. subst (λ (t : List ℕ). Appends (g.K.Sink.taken c.args.sink.now) (g.K.Sink.taken c.write_out.new.sink) t)
    (sym (script_is c.args.target.now c.args.events.now c.new-out.result.items c.append_channel.new.out.items c.new-out.ensures.items c.in_ok-append_channel.ensures))
    (Appends-afterwards (g.K.Sink.taken c.args.sink.now) (g.K.Sink.taken c.write_events.new.sink) (g.K.Sink.taken c.write_out.new.sink) c.append_channel.new.out.items c.write_events.new.out.items (lines_text (map stamped_text c.args.events.now)) c.in_ok-write_events.ensures.ok h))
    c.write_out.ensures.ok

pub returns-clause-err : goal.returns-clause-err
returns-clause-err g c =
    on_err_weaker c.write_out.result
    (λ h. subst (λ (t : List ℕ). AppendsPrefix (g.K.Sink.taken c.args.sink.now) (g.K.Sink.taken c.write_out.new.sink) t)
    (sym (script_is c.args.target.now c.args.events.now c.new-out.result.items c.append_channel.new.out.items c.new-out.ensures.items c.in_ok-append_channel.ensures))
    (AppendsPrefix-last (g.K.Sink.taken c.args.sink.now) (g.K.Sink.taken c.write_events.new.sink) (g.K.Sink.taken c.write_out.new.sink) c.append_channel.new.out.items c.write_events.new.out.items (lines_text (map stamped_text c.args.events.now)) c.in_ok-write_events.ensures.ok h))
    c.write_out.ensures.err
