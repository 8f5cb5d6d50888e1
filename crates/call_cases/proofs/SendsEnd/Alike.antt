-- A call whose end is next ends alike.
use Rattle.call_cases.specs.CallEnds.Ends.{HasEnded}
use Rattle.call_cases.proofs.CallPosts.Answered.{of_order}
use Rattle.call_cases.specs.SendsEnd.Laws.{CallsThatAreToEnd}
use Rattle.session_order.specs.declared.line.Line.{Line}
use Rattle.std.proofs.Common.{false, refl}

pub calls_end_alike : CallsThatAreToEnd
calls_end_alike ends number why x o s unreset h =
    let e : HasEnded (λ (l : Line). false) number why x o s
    = ends (λ (l : Line). false) number why x o s
    (record {
      late = λ l never. absurd (cc);
      current = h.current;
      agrees = h.agrees;
      unreset = unreset;
      call = h.call;
      there = h.there;
      going = h.going;
      next = h.next;
      uncut = h.uncut;
      unfollowed = h.unfollowed;
      still = λ l cut waits. h.still l cut;
    }) in
    record {
      actions = e.actions;
      seen = e.seen;
      does = e.does;
      posts = e.posts;
      entries = e.entries;
      setup = e.setup;
      current = e.current;
      quiescent = of_order o e.seen (λ l. e.still l refl);
      agrees = e.agrees;
    }
