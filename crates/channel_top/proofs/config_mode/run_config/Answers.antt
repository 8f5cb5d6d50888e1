use Rattle.std.proofs.Common.{inl, inr, rules}
use Rattle.service_config.specs.Text.{config_text, fault_text}
use Rattle.channel_top.specs.ConfigMode.{ReportsConfigFault}
use Rattle.channel_top.proofs.ConfigLaws.{config_done, config_reported}
use Rattle.session_text.proofs.WrittenLaws.{err_holds, err_write}
use Rattle.channel_top.proofs.config_mode.run_config.Goals as goal

pub returns-in-Ok-write_config-clause-done : goal.returns-in-Ok-write_config-clause-done
returns-in-Ok-write_config-clause-done g c = λ zero. (
  config_text c.in-Ok-read_config.config,
  config_done c.args.kinds _ _ c.in-Ok.input.bytes.items c.as_slice.result.now c.in-Ok.input.ending _ _ c.in-Ok-read_config.config
      c.in-Ok.ensures.read c.in-Ok.ensures.ending (search rules) c.as_slice.ensures.value c.in-Ok-read_config.ensures.exact,
  c.in-Ok-write_config.ensures.ok,
)

pub returns-in-Ok-read_config-clause-writing : goal.returns-in-Ok-read_config-clause-writing
returns-in-Ok-read_config-clause-writing g c = λ five. (
  err_write c.write_config.result c.in-Err-write_config.fault c.in-Err-write_config.is (c.unwritten.ensures.write five) c.write_config.ensures.write,
  (
    config_text c.in-Ok-read_config.config,
    inl (config_done c.args.kinds _ _ c.in-Ok.input.bytes.items c.as_slice.result.now c.in-Ok.input.ending _ _ c.in-Ok-read_config.config
        c.in-Ok.ensures.read c.in-Ok.ensures.ending (search rules) c.as_slice.ensures.value c.in-Ok-read_config.ensures.exact),
    err_holds c.write_config.result _ c.in-Err-write_config.is c.write_config.ensures.err,
  ),
)

pub returns-in-Ok-read_config-clause-memory : goal.returns-in-Ok-read_config-clause-memory
returns-in-Ok-read_config-clause-memory g c = λ six. inr (
  config_text c.in-Ok-read_config.config,
  inl (config_done c.args.kinds _ _ c.in-Ok.input.bytes.items c.as_slice.result.now c.in-Ok.input.ending _ _ c.in-Ok-read_config.config
      c.in-Ok.ensures.read c.in-Ok.ensures.ending (search rules) c.as_slice.ensures.value c.in-Ok-read_config.ensures.exact),
  err_holds c.write_config.result _ c.in-Err-write_config.is c.write_config.ensures.err,
)

pub returns-in-Ok-report_fault : goal.returns-in-Ok-report_fault
returns-in-Ok-report_fault g c = record {
  done = search rules;
  fault = λ three. (
    fault_text c.in-Err.fault,
    config_reported c.args.kinds _ _ c.in-Ok.input.bytes.items c.as_slice.result.now c.in-Ok.input.ending _ _ c.read_config.result c.in-Err.fault
        c.in-Ok.ensures.read c.in-Ok.ensures.ending (search rules) c.as_slice.ensures.value c.in-Err.ensures.exact c.in_default-fault.not-NoMemory c.in-Err.is c.read_config.ensures.memory,
    c.in-Ok-report_fault.ensures.ok,
  );
  reading = search rules;
  writing = search rules;
  memory = search rules;
  known = search rules;
}

pub returns : goal.returns
returns g c =
    let reported : ReportsConfigFault c.args.kinds (g.S.Source.left c.args.source.now) (g.S.Source.left c.read_input.new.source) (fault_text c.in-Err.fault) =
    config_reported c.args.kinds _ _ c.in-Ok.input.bytes.items c.as_slice.result.now c.in-Ok.input.ending _ _ c.read_config.result c.in-Err.fault
    c.in-Ok.ensures.read c.in-Ok.ensures.ending (search rules) c.as_slice.ensures.value c.in-Err.ensures.exact c.in_default-fault.not-NoMemory c.in-Err.is c.read_config.ensures.memory in
    record {
      done = search rules;
      fault = search rules;
      reading = search rules;
      writing = λ five. (
        err_write c.report_fault.result c.in-Err-report_fault.fault c.in-Err-report_fault.is (c.unwritten-in-Err-report_fault.ensures.write five) c.report_fault.ensures.write,
        (fault_text c.in-Err.fault, inr reported, err_holds c.report_fault.result _ c.in-Err-report_fault.is c.report_fault.ensures.err),
      );
      memory = λ six. inr (fault_text c.in-Err.fault, inr reported, err_holds c.report_fault.result _ c.in-Err-report_fault.is c.report_fault.ensures.err);
      known = search rules;
    }
