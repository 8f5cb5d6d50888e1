use Rattle.std.proofs.Common.{◌∙◌, ◌++◌, ◌∷◌, [], ap, inl, inr, map, refl, rules, sym}
use Rattle.std.specs.Prelude.{Err}
use Rattle.grpc_base.specs.Kinds.{KindsSeen, has_kind}
use Rattle.grpc_base.specs.declared.kind.Kind.TheVariants as kind
use Rattle.load_plan.specs.Lines.{summary_line}
use Rattle.load_session.specs.declared.fault.LoadFault.{LoadFault}
use Rattle.policy_rack.specs.Kinds.{kinds_of}
use Rattle.channel_top.specs.Load.{FillsLoad, IsLoadDone, RefusesLoad}
use Rattle.session_text.specs.Sessions.{session_full_text}
use Rattle.channel_top.specs.Words.{words_fault_text}
use Rattle.channel_top.proofs.LoadLaws.{load_promise}
use Rattle.channel_top.proofs.load.run_load.Goals as goal

pub returns-then-not-has : goal.returns-then-not-has
returns-then-not-has g c =
    let refused : RefusesLoad (kinds_of (map g.P.Balancer.seen c.args.policies.items)) words_fault_text =
    (sym (c.has.ensures ∙ ap (λ (k : KindsSeen). has_kind k kind.RoundRobin) (c.set_of-kinds.ensures ∙ ap (λ ps. kinds_of (map g.P.Balancer.seen ps)) c.as_slice.ensures.value)) ∙ c.if-not-has.true, refl) in
    record {
      done = search rules;
      refused = λ two. (words_fault_text, refused, c.report_line.ensures.whole two);
      writing = λ five. (c.report_line.ensures.writing five, (words_fault_text, inr (inl refused), c.report_line.ensures.prefix five));
      memory = search rules;
      full = search rules;
      known = search rules;
    }

pub returns-in-Ok : goal.returns-in-Ok
returns-in-Ok g c =
    let done : IsLoadDone (map g.P.Balancer.seen c.args.policies.items) c.args.load (summary_line c.in-Ok.summary ++ 10 ∷ []) =
    record {
      wanted = sym (c.has.ensures ∙ ap (λ (k : KindsSeen). has_kind k kind.RoundRobin) (c.set_of-kinds.ensures ∙ ap (λ ps. kinds_of (map g.P.Balancer.seen ps)) c.as_slice.ensures.value)) ∙ c.if-not-has.false;
      summary = c.in-Ok.summary;
      sums = c.in-Ok.ensures.ok;
      promise = load_promise c.sessions_keep_the_promise.ensures c.args.load (map g.P.Balancer.seen c.args.policies.items) c.in-Ok.summary c.in-Ok.ensures.ok;
      text_is = refl;
    } in
    record {
      done = λ zero. (summary_line c.in-Ok.summary ++ 10 ∷ [], done, c.report_summary.ensures.done zero);
      refused = search rules;
      writing = λ five. (c.report_summary.ensures.writing five, (summary_line c.in-Ok.summary ++ 10 ∷ [], inl done, c.report_summary.ensures.prefix (inl five)));
      memory = λ six. inr (summary_line c.in-Ok.summary ++ 10 ∷ [], inl done, c.report_summary.ensures.prefix (inr six));
      full = search rules;
      known = search rules;
    }

pub returns-in-SessionFull : goal.returns-in-SessionFull
returns-in-SessionFull g c =
    let fills : FillsLoad (map g.P.Balancer.seen c.args.policies.items) c.args.load session_full_text =
    (c.summarize.ensures.full (c.in-Err.is ∙ ap (λ (e : LoadFault). Err e) c.in-SessionFull.is), refl) in
    record {
      done = search rules;
      refused = search rules;
      writing = λ five. (c.report_line-in-SessionFull.ensures.writing five, (session_full_text, inr (inr fills), c.report_line-in-SessionFull.ensures.prefix five));
      memory = search rules;
      full = λ seven. (session_full_text, fills, c.report_line-in-SessionFull.ensures.whole seven);
      known = search rules;
    }
