-- What a session keeps in order, in the words of `session_order`.
use Rattle.attempt_ledger.specs.declared.row.Placed.{Placed}
use Rattle.grpc_base.specs.declared.event.Conn.TheVariants as conn
use Rattle.grpc_base.specs.declared.event.Conn.{Conn}
use Rattle.channel_actions.specs.KeptCalls.Early.{is_linked_up}
use Rattle.channel_actions.proofs.KeptSessions.Lists.{all_at, counted_places}
use Rattle.channel_actions.specs.KeptSessions.Kept.{IsKept, came_up, is_on_link, is_sound_sub}
use Rattle.lb_policy.specs.Table.{is_ready}
use Rattle.session_actions.specs.Attempts.{call_of}
use Rattle.session_actions.specs.Policies.{is_shutdown}
use Rattle.session_actions.specs.Subchannels.{is_connecting, is_idle}
use Rattle.session_actions.specs.Words.{numbered}
use Rattle.session_actions.specs.declared.attempt.Attempt.{Attempt}
use Rattle.session_actions.specs.declared.call.Call.{Call}
use Rattle.session_actions.specs.declared.seen.Seen.{Seen}
use Rattle.session_actions.specs.declared.subchannel.Subchannel.{Subchannel}
use Rattle.session_order.specs.Stirs.{CallsHaveTheirNumbers, HaveCalls, HaveLinks}
use Rattle.std.proofs.Common.{List, None, Option, Some, [], ap, arith, false, is_none, is_some, length, not, refl, slice_get, suc, sym, true, zero, ℕ, ◌<◌, ◌||◌, ◌∙◌, ◌∷◌, ◌≡◌, ◌≤◌}
use Rattle.std.specs.Option.{option_map_or}

within : {X : Type 0} (xs : List X) (i : ℕ) → is_some (slice_get xs i) ≡ true → i < length xs
within [] i e = absurd (cc)
within (x ∷ xs) zero e = omega arith
within (x ∷ xs) (suc i) e = let next : i < length xs = within xs i e in omega (arith, next)

up_to : {X : Type 0} (xs : List X) (k : ℕ) → is_some (numbered xs k) ≡ true → k ≤ length xs
up_to xs zero e = absurd (cc)
up_to xs (suc i) e = let below : i < length xs = within xs i e in omega (arith, below)

pub have_calls : (s : Seen) → IsKept s → HaveCalls s
have_calls s kept k a got = up_to s.calls a.row.call (all_at (λ (q : Attempt). is_some (call_of q s)) s.attempts k a kept.owned got)

pub have_links : (s : Seen) → IsKept s → HaveLinks s
have_links s kept = record {
  attempts = λ k a at got placed.
      up_to s.links at.link
      (sym (ap (λ (o : Option Placed). option_map_or (λ (p : Placed). came_up s p.link) o true) placed) ∙ all_at (is_on_link s) s.attempts k a kept.placed got);
  subs = λ k b link got linked.
      up_to s.links link (sym (ap (λ (o : Option ℕ). option_map_or (came_up s) o (not (is_ready b.state))) linked) ∙ all_at (is_sound_sub s) s.subs k b kept.boards got);
}

pub are_numbered : (s : Seen) → IsKept s → CallsHaveTheirNumbers s
are_numbered s kept k c got = counted_places (λ (d : Call). d.number) s.calls kept.calls k c got

-- a subchannel that rests has no link
idle_by : (o : Option ℕ) (state : Conn) → is_idle state ≡ true → (is_none o || is_connecting state || is_ready state) ≡ true → o ≡ None
idle_by None state idle e = refl
idle_by (Some n) conn.Idle idle e = let no : false ≡ true = e in absurd (cc)
idle_by (Some n) conn.Connecting idle e = let no : false ≡ true = idle in absurd (cc)
idle_by (Some n) conn.Ready idle e = let no : false ≡ true = idle in absurd (cc)
idle_by (Some n) conn.Failure idle e = let no : false ≡ true = idle in absurd (cc)
idle_by (Some n) conn.Shutdown idle e = let no : false ≡ true = idle in absurd (cc)

pub idle_unlinked : (b : Subchannel) → is_idle b.state ≡ true → is_linked_up b ≡ true → b.link ≡ None
idle_unlinked b idle e = idle_by b.link b.state idle e

-- and one that has a link is not shut down
pub linked_open : (state : Conn) → (false || is_connecting state || is_ready state) ≡ true → is_shutdown state ≡ false
linked_open conn.Idle e = refl
linked_open conn.Connecting e = refl
linked_open conn.Ready e = refl
linked_open conn.Failure e = refl
linked_open conn.Shutdown e = let no : false ≡ true = e in absurd (cc)
