use Rattle.std.proofs.Common.{inl, inr, refl, rules}
use Rattle.channel_top.specs.Serve.{IsServed, served_text}
use Rattle.channel_top.proofs.serve.run_serve.Goals as goal

pub returns-in-Ok : goal.returns-in-Ok
returns-in-Ok g c =
    let done : IsServed c.args.place.links (g.S.Source.left c.args.script.now) (g.S.Source.left c.read_server.new.source) (served_text c.args.place.links) =
    record { answers = c.in-Ok.read.answers; script = c.in-Ok.ensures.ok; text_is = refl } in
    record {
      done = λ zero. (served_text c.args.place.links, done, c.serve_script.ensures.done zero);
      line = search rules;
      reading = search rules;
      writing = λ five. (c.serve_script.ensures.writing five, (served_text c.args.place.links, inl done, c.serve_script.ensures.prefix (inl five)));
      memory = λ six. inr (served_text c.args.place.links, inl done, c.serve_script.ensures.prefix (inr six));
      not_listening = λ eight. record {
        answers = c.in-Ok.read.answers;
        script = c.in-Ok.ensures.ok;
        failed = (c.serve_script.ensures.not_listening eight).1;
        written = (c.serve_script.ensures.not_listening eight).0;
      };
      listened = c.serve_script.ensures.listened;
      known = search rules;
    }
