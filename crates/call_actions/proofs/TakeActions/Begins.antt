-- A call begins: nothing came of a response, and no message was accepted.
use Rattle.std.proofs.Common.{◌≡◌, ◌+◌, ap, arith, refl, subst, sym, ◌∙◌, Bool, true, false, List, [], Option, None, Some, ℕ, filter, is_some, length, map}
use Rattle.std.proofs.lemmas.Bool.{and_left}
use Rattle.std.specs.List.{list_all, list_any}
use Rattle.std.specs.Option.{option_map_or}
use Rattle.attempt_ledger.specs.declared.ledger.Ledger.{Ledger}
use Rattle.call_actions.proofs.Begun.{calls_begin}
use Rattle.call_actions.proofs.Lists.{filter_none, last_none, numbered_last}
use Rattle.call_actions.specs.Laws.{Begins, begun_ledger}
use Rattle.call_actions.specs.Sees.{Sees}
use Rattle.call_core.specs.Steps.{Stepped, fresh_buffer, lent, new_call}
use Rattle.call_core.specs.declared.act.CallAct.{CallAct}
use Rattle.grpc_base.specs.Requests.{RequestSeen}
use Rattle.grpc_base.specs.declared.event.Event.TheVariants as event
use Rattle.session_actions.specs.Attempts.{commitment, is_commitment, is_of}
use Rattle.session_actions.specs.Deliveries.{begun_call, call_begun_by, response_items}
use Rattle.session_actions.specs.Entries.{entry, now}
use Rattle.session_actions.specs.Responses.{response}
use Rattle.session_actions.specs.Words.{numbered}
use Rattle.session_actions.specs.Writing.{drained}
use Rattle.session_actions.specs.declared.attempt.Attempt.{Attempt}
use Rattle.session_actions.specs.declared.call.Call.{Call}
use Rattle.session_actions.specs.declared.seen.Seen.{Seen}
use Rattle.call_actions.specs.TakeActions.Laws.{CallsBeginAlike}
use Rattle.call_actions.specs.TakeActions.Serves.{AttemptsAreFed, Holds, IsAt, Serves}

pub same_some : {X : Type 0} (o : Option X) (x y : X) → o ≡ Some x → o ≡ Some y → x ≡ y
same_some o x y e f = let both : ◌≡◌ {A = Option _} (Some x) (Some y) = sym e ∙ f in (cc)

pub calls_begin_alike : CallsBeginAlike
calls_begin_alike s request ledger acts here rows same none places links reads =
    let number : ℕ = length s.calls + 1 in
    let c : Call = begun_call number (entry s) (now s) request in
    let t : Seen = call_begun_by (event.Begin request) s in
    let x : Stepped = lent (new_call number request (now s)) (begun_ledger ledger) None acts in
    let b : Begins s request ledger acts = calls_begin s request ledger acts here rows same none in
    let own : numbered t.calls number ≡ Some b.call = sym (ap (numbered t.calls) b.sees.number_is) ∙ b.sees.own in
    let it : b.call ≡ c = same_some (numbered t.calls number) b.call c own (numbered_last s.calls c) in
    let free : commitment c t ≡ None
    = last_none (is_commitment c) (is_of c) (λ a e. and_left (is_of c a) (is_some a.row.committed) e) s.attempts none in
    let none_of_it : filter (is_of c) s.attempts ≡ [] = filter_none (is_of c) (is_of c) (λ a e. e) s.attempts none in
    let start : IsAt 0 [] 0 [] = record { left = refl; within = omega arith; within_all = omega arith } in
    let holds : Holds t c fresh_buffer = record {
      fed = subst (AttemptsAreFed t c fresh_buffer) (sym none_of_it) tt;
      held = subst (λ (n : ℕ). IsAt 0 [] n []) (sym (ap (λ (o : Option Attempt). option_map_or (λ (k : Attempt). drained k t) o 0) free)) start;
      committed = sym (ap (λ (o : Option Attempt). is_some o) free);
    } in
    record {
      call = c;
      number_is = refl;
      serves = record {
        sees = subst (λ (d : Call). Sees t d x) it b.sees;
        places = places;
        config = refl;
        links = links;
        reads = reads;
        counted = refl;
        end_taken = refl;
        going = λ e. refl;
        left = λ e. record {
          prefix = [];
          count = refl;
          joined = ap (λ (o : Option Attempt). option_map_or (λ (k : Attempt). response_items (response k t)) o []) free;
        };
        holds = λ e. holds;
      };
    }
