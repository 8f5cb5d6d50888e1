-- An attempt ends, and its call by it, where no other attempt of the call goes on: the channel does to the attempt alone what it does.
use Rattle.std.proofs.Common.{◌≡◌, ◌&&◌, ◌==◌, ◌∷◌, not, ap, refl, ◌∙◌, Bool, false, List, [], ℕ}
use Rattle.std.specs.List.{list_any}
use Rattle.attempt_ledger.specs.declared.row.RowEnd.{RowEnd}
use Rattle.call_actions.specs.Laws.{IsCounting}
use Rattle.call_actions.specs.Sees.{is_live}
use Rattle.call_core.specs.Steps.{Stepped}
use Rattle.call_core.specs.declared.act.CallAct.TheVariants as act_of
use Rattle.channel_actions.proofs.Links.Settings.Pairs.{exactly_by}
use Rattle.channel_actions.specs.Columns.{links_noted}
use Rattle.channel_actions.specs.Sets.{PairsAreExactly, is_in_outstanding}
use Rattle.end_cases.proofs.AttemptEnds.After.{in_out}
use Rattle.end_cases.proofs.AttemptEnds.Base.{c, call_is, news, out_off, queue_off, row_is, slot_there, z}
use Rattle.end_cases.proofs.AttemptEnds.ClosedLines as lines
use Rattle.end_cases.proofs.AttemptEnds.ClosedSets.{wait_for_ready_then, queue_then}
use Rattle.end_cases.proofs.AttemptEnds.Closing as closing
use Rattle.end_cases.proofs.AttemptEnds.Closing.{Between, Follows, Continues, Made, Parts, Steps}
use Rattle.end_cases.proofs.AttemptEnds.Noted.{noted_then}
use Rattle.end_cases.proofs.AttemptEnds.OffSets.{out_left}
use Rattle.end_cases.proofs.AttemptEnds.ReportedEnd.{closed_form, reported_end}
use Rattle.end_cases.specs.AttemptEnds.Ahead.{HasLinkAhead, LinksAhead}
use Rattle.end_cases.specs.AttemptEnds.Ends.{EndNext, HasEnded}
use Rattle.channel_core.specs.States.{StateSeen}
use Rattle.channel_core.specs.declared.state.slots.CallSlot.{CallSlot}
use Rattle.end_cases.proofs.AttemptEnds.LeftLinks.{calls_end_left}
use Rattle.end_cases.specs.AttemptEnds.Left.{all_left}
use Rattle.grpc_base.specs.declared.event.EndCause.TheVariants as ending_cause
use Rattle.session_actions.specs.declared.attempt.Attempt.{Attempt}
use Rattle.session_actions.specs.declared.entry.OpenEntry.{OpenEntry}
use Rattle.session_actions.specs.declared.response.Outcome.{Outcome}
use Rattle.session_actions.specs.declared.seen.Seen.{Seen}
use Rattle.session_order.specs.declared.line.Line.{Line}

module _ (later : List (ℕ × RowEnd)) (waits : Line → Bool) (also : List ℕ) (a : Attempt) (out : Outcome) (x : StateSeen) (o : OpenEntry) (s : Seen) (is : EndNext later waits also a out x o s)
    (counting : IsCounting s (c later waits also a out x o s is) out) (none_else : list_any (λ (q : Attempt). is_live s (c later waits also a out x o s is) q && not (q.place == a.place)) s.attempts ≡ false)
    (b : Between later waits also a out x o s is counting) (goes : Continues later waits also a out x o s is counting b)
    (same_out : (link row : ℕ) → is_in_outstanding (closing.mid later waits also a out x o s is counting b) link row ≡ is_in_outstanding (closing.v later waits also a out x o s is counting) link row)
    (same_noted : links_noted (closing.mid later waits also a out x o s is counting b) ≡ links_noted (closing.v later waits also a out x o s is counting))
    (ahead : LinksAhead also x (all_left later (closing.mid later waits also a out x o s is counting b)))
    (made : Made later waits also a out x o s is counting) (steps : Steps later waits also a out x o s is counting b made) (acts : made.acts ≡ act_of.End ending_cause.Row ∷ []) where
  abbrev n : ℕ
  n = closing.n later waits also a out x o s is counting

  abbrev mid : Seen
  mid = closing.mid later waits also a out x o s is counting b

  abbrev then_ : Seen
  then_ = closing.closed later waits also a out x o s is counting b

  abbrev was : CallSlot
  was = closing.was later waits also a out x o s is counting

  abbrev parts : Parts later waits also a out x o s is counting
  parts = record {
    links = x.links;
    resets = x.resets;
    outs = out_off a.place a.row.placed x.outstanding;
    queue = queue_off a.row.call a.place a.row.placed x.queue;
    ready_waiters = queue_off a.row.call a.place a.row.placed x.ready_waiters;
    stamps = x.book.ledger.links;
  }

  abbrev y1 : StateSeen
  y1 = closing.reported_with later waits also a out x o s is counting made parts

  out_same : (link row : ℕ) → is_in_outstanding then_ link row ≡ (is_in_outstanding s link row && not (row == a.place))
  out_same link row = same_out link row ∙ in_out later waits also a out x o s is link row

  ahead_then : LinksAhead also x (all_left later then_)
  ahead_then = calls_end_left later mid n ending_cause.Row also x ahead

  outs_one : PairsAreExactly parts.outs (is_in_outstanding then_)
  outs_one = out_left later waits also a out x o s is then_ out_same

  follows : Follows later waits also a out x o s is counting b made parts
  follows = record {
    reported_is =
        reported_end a.place (news later waits also a out x o s is) n (z later waits also a out x o s is) was a.row (row_is later waits also a out x o s is) (call_is later waits also a out x o s is)
        (slot_there later waits also a out x o s is) ending_cause.Row (ap (λ (q : Stepped). q.acts) steps.step_is ∙ acts)
        ∙ ap (λ (q : Stepped). closed_form a.place n q was (z later waits also a out x o s is)) steps.step_is;
    outs = outs_one;
    queue = queue_then later waits also a out x o s is counting b goes none_else (lines.others later waits also a out x o s is counting b goes);
    ready_waiters = wait_for_ready_then later waits also a out x o s is counting b goes none_else (lines.others later waits also a out x o s is counting b goes);
    noted = same_noted
        ∙ noted_then later waits also a out x o s is y1 refl refl refl refl
        (exactly_by parts.outs (is_in_outstanding then_) (is_in_outstanding (closing.v later waits also a out x o s is counting)) outs_one same_out)
        (closing.kept_one later waits also a out x o s is counting);
    ahead = record {
      count = ahead_then.count;
      each = λ i l at. let h : HasLinkAhead x (all_left later then_) l i = ahead_then.each i l at in record { slot = h.slot; there = h.there; sees = h.sees };
      closing = λ i l at off. ahead_then.closing i l at off;
    };
  }

  pub has_ended : HasEnded later waits also a out x o s
  has_ended = lines.has_ended later waits also a out x o s is counting b goes made steps parts follows
