-- The end of a call leaves each link as far ahead as it was.
use Rattle.std.proofs.Common.{◌≡◌, ◌&&◌, ◌||◌, ◌==◌, ◌++◌, ◌∷◌, not, ap, refl, subst, sym, ◌∙◌, List, [], Option, None, Some, ℕ, filter, if◌then◌else◌, is_some, length, map}
use Rattle.std.specs.Prelude.{option_and_then, unwrap_or}
use Rattle.attempt_ledger.specs.declared.row.RowEnd.{RowEnd}
use Rattle.call_cases.proofs.EndsFollow.Codes.{response_by_limit}
use Rattle.call_cases.proofs.LinkEnds.After.{of_readers, readers_of}
use Rattle.call_cases.proofs.LinkEnds.Cutting.{filter_same}
use Rattle.call_cases.proofs.LinkEnds.Ends.{readers_noted}
use Rattle.call_cases.proofs.LinkEnds.Resets.{relined}
use Rattle.channel_actions.proofs.Stamps.{map_same}
use Rattle.channel_actions.specs.Links.{lines_in}
use Rattle.end_cases.specs.AttemptEnds.Ahead.{HasLinkAhead, IsAhead, LinksAhead, is_owed_on, owed_reset, resets_owed}
use Rattle.channel_core.specs.States.{StateSeen}
use Rattle.channel_core.specs.declared.state.links.LinkSlot.{LinkSlot}
use Rattle.grpc_base.specs.ErrorCodes.{cancel}
use Rattle.grpc_base.specs.declared.event.EndCause.{EndCause}
use Rattle.link_actions.proofs.LossActions.Calls.{changed_any, limit_in, limit_kept}
use Rattle.link_actions.proofs.SteadyLinks.Calls.{call_ends_leave_links}
use Rattle.link_actions.specs.ResetActions.Ahead.{SeesAhead}
use Rattle.link_actions.specs.Sees.{by_stream}
use Rattle.session_actions.specs.AttemptEnds.{is_framing, is_reset, reset_code_of}
use Rattle.session_actions.specs.Attempts.{call_of}
use Rattle.session_actions.specs.CallEnds.{call_ended}
use Rattle.session_actions.specs.Calls.{marked, with_call}
use Rattle.session_actions.specs.Configs.{chosen_of}
use Rattle.session_actions.specs.Entries.{entry, now}
use Rattle.session_actions.specs.Links.{has_written_end, link_number, link_of, stream_number}
use Rattle.session_actions.specs.Responses.{limit_of_attempt}
use Rattle.session_actions.specs.declared.attempt.Attempt.{Attempt}
use Rattle.session_actions.specs.declared.call.Call.{Call}
use Rattle.session_actions.specs.declared.call.MarkKind.TheVariants as mark
use Rattle.session_actions.specs.declared.link.Link.{Link}
use Rattle.session_actions.specs.declared.response.Response.{Response}
use Rattle.session_actions.specs.declared.seen.Seen.{Seen}

-- the code of a reset hangs on the session by the response, the entry and the link alone
abbrev code_with : RowEnd → ℕ → Response → Link → Option ℕ
code_with e stream r l =
    if is_reset e.cause || is_some l.over || (has_written_end stream l && r.closes) then None
    else if is_framing e.cause then option_and_then (λ t. t.reset) r.end
    else Some cancel

abbrev pub codes_with : Attempt → Seen → Response → Option ℕ
codes_with a s r =
    option_and_then (λ e. option_and_then (λ stream. if (e.entry == entry s) && not a.reset then option_and_then (code_with e stream r) (link_of a s) else None) a.row.stream) a.row.ended

-- what is noted of a call
pub limit_noted : (s : Seen) (k : Call → Call) (number : ℕ) → ((c : Call) → (chosen_of (k c) s).response ≡ (chosen_of c s).response) → (a : Attempt)
    → limit_of_attempt a (with_call k number s) ≡ limit_of_attempt a s
limit_noted s k number notes a = ap (limit_in s) (changed_any k number a.row.call s.calls) ∙ limit_kept s k (a.row.call == number) (call_of a s) notes

module _ (u : Seen) (number : ℕ) (why : EndCause) where
  abbrev v : Seen
  v = call_ended number why u

  abbrev m : Seen
  m = marked mark.Closed number u

  limit_same : (a : Attempt) → limit_of_attempt a v ≡ limit_of_attempt a u
  limit_same a =
      limit_noted m (λ (c : Call). record c { end = Some (record { entry = entry u; moment = now u; cause = why }) }) number (λ c. refl) a
      ∙ limit_noted u (λ (c : Call). record c { marks = c.marks ++ record { what = mark.Closed; moment = now u } ∷ [] }) number (λ c. refl) a

  code_same : (a : Attempt) → reset_code_of v a ≡ reset_code_of u a
  code_same a = ap (codes_with a u) (response_by_limit u v a a.row.stream refl (limit_same a))

  pub owed_same : (l : Link) → resets_owed l v ≡ resets_owed l u
  owed_same l =
      ap (λ (xs : List Attempt). map (owed_reset v) (by_stream xs))
      (filter_same (is_owed_on l v) (is_owed_on l u) (λ a. ap (λ (q : Option ℕ). is_some q && (link_number a == l.number)) (code_same a)) u.attempts)
      ∙ map_same (owed_reset v) (owed_reset u) (λ a. ap (λ (q : Option ℕ). (stream_number a, unwrap_or q 0)) (code_same a))
      (by_stream (filter (is_owed_on l u) u.attempts))

  going_on : (l : Link) (slot : LinkSlot) → IsAhead l u slot → IsAhead l v slot
  going_on l slot is = record {
    streams = subst (λ (resets : List (ℕ × ℕ)). SeesAhead resets l v slot.link.link.wire (lines_in l v)) (sym (owed_same l))
        (record {
          wire = is.streams.wire;
          sees = relined l v (lines_in l u) is.streams.wire ((call_ends_leave_links u number why).streams l is.streams.wire (lines_in l u) is.streams.sees);
          same = is.streams.same;
          queue = is.streams.queue;
        });
    readers = of_readers l v slot.link.readers
        (readers_noted m (λ (c : Call). record c { end = Some (record { entry = entry u; moment = now u; cause = why }) }) number (λ c. refl) l slot.link.readers
        (readers_noted u (λ (c : Call). record c { marks = c.marks ++ record { what = mark.Closed; moment = now u } ∷ [] }) number (λ c. refl) l slot.link.readers
        (readers_of l u slot.link.readers is.readers)));
    rest = is.rest;
    fresh = is.fresh ∙ sym (ap (λ (resets : List (ℕ × ℕ)). length resets) (owed_same l));
  }

  one_on : (x : StateSeen) (n : ℕ) (l : Link) → HasLinkAhead x u l n → HasLinkAhead x v l n
  one_on x n l is = record {
    slot = is.slot;
    there = is.there;
    sees = record { over = is.sees.over; retiring = is.sees.retiring; going = λ goes. going_on l is.slot (is.sees.going goes) };
  }

  pub calls_end_ahead : (also : List ℕ) (x : StateSeen) → LinksAhead also x u → LinksAhead also x v
  calls_end_ahead also x is = record {
    count = is.count;
    each = λ n l at. one_on x n l (is.each n l at);
    closing = λ n l at off. owed_same l ∙ is.closing n l at off;
  }
