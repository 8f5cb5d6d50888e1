-- The error of a post is reported.
use Rattle.std.proofs.Common.{◌≡◌, true, Result, Ok, Err, inl, sym, subst, arith}
use Rattle.grpc_base.specs.declared.event.Event.{Event}
use Rattle.grpc_base.specs.declared.event.Reply.{Reply}
use Rattle.grpc_base.specs.declared.event.Reply.TheVariants as reply
use Rattle.grpc_base.specs.declared.post.PostError.{PostError}
use Rattle.live_pump.specs.Pumps.{HandleSeen, PostsOne, answer_of}
use Rattle.live_pump.specs.Workers.{ReportsThat, is_quiet}
use Rattle.live_pump.specs.declared.pumped.Pumped.{Pumped}
use Rattle.live_pump.specs.declared.pumped.Pumped.TheVariants as pumped

-- where no post failed, an answer that is none of an error says the truth
quiet_reports : (before after : HandleSeen) (done : Pumped) → is_quiet done ≡ true → after.errors ≡ before.errors → ReportsThat before after done
quiet_reports before after pumped.Going quiet same = same
quiet_reports before after pumped.Lost quiet same = same
quiet_reports before after (pumped.Gone r) quiet same = same
quiet_reports before after (pumped.Failed e) quiet same = absurd (cc)
quiet_reports before after pumped.Shut quiet same = same

reports_one : (e : Event) (before after : HandleSeen) (done : Pumped) (came : Result Reply PostError) → is_quiet done ≡ true → PostsOne e before after came → ReportsThat before after (answer_of done came)
reports_one e before after done (Ok (reply.Refused r)) quiet posted = posted.errors.0
reports_one e before after done (Ok r) quiet posted = quiet_reports before after done quiet posted.errors.0
reports_one e before after done (Err x) quiet posted =
    let counted = posted.errors.0 in
    inl (omega (arith, counted), posted.errors.1)

pub reports_answer : (e : Event) (before after : HandleSeen) (done : Pumped) (came : Result Reply PostError) (result : Pumped) → result ≡ answer_of done came → is_quiet done ≡ true → PostsOne e before after came → ReportsThat before after result
reports_answer e before after done came result is quiet posted = subst (λ (r : Pumped). ReportsThat before after r) (sym is) (reports_one e before after done came quiet posted)
