-- Where attempts have streams that they had not, and of responses and links nothing changed that a line looks at, each line that was still is still.
use Rattle.std.proofs.Common.{◌≡◌, ◌∷◌, ◌&&◌, ◌==◌, ap, refl, ◌∙◌, Bool, true, false, List, [], Option, None, Some, ℕ, zero, suc, if◌then◌else◌, is_none, is_some, map, nat_lt, slice_get}
use Rattle.std.proofs.lemmas.Bool.{or_from, or_parts}
use Rattle.std.specs.List.{list_any}
use Rattle.std.specs.Option.{option_map, option_or}
use Rattle.attempt_ledger.specs.declared.ledger.Ask.{Ask}
use Rattle.call_actions.proofs.Ranks.{any_map_all, numbered_map}
use Rattle.grpc_base.specs.declared.kind.Pick.{Pick}
use Rattle.grpc_base.specs.declared.kind.Pick.TheVariants as pick
use Rattle.session_actions.specs.Attempts.{commitment, is_commitment, is_counted, is_of, is_outstanding, wants_follower}
use Rattle.session_actions.specs.CallEnds.{has_long_response, is_over_by_row}
use Rattle.session_actions.specs.Calls.{is_open_call}
use Rattle.session_actions.specs.Commitments.{has_head_in, is_final_end, is_free_call, is_headed, is_inherited, is_inherited_by, is_inherited_in}
use Rattle.session_actions.specs.Entries.{entry}
use Rattle.session_actions.specs.Policies.{is_unfollowed}
use Rattle.session_actions.specs.Responses.{response}
use Rattle.session_actions.specs.Words.{find_last, holds, last_of, numbered}
use Rattle.session_actions.specs.Writing.{accepted_bytes}
use Rattle.session_actions.specs.declared.attempt.Attempt.{Attempt}
use Rattle.session_actions.specs.declared.call.Call.{Call}
use Rattle.session_actions.specs.declared.entry.OpenEntry.{OpenEntry}
use Rattle.session_actions.specs.declared.link.Link.{Link}
use Rattle.session_actions.specs.declared.seen.Seen.{Seen}
use Rattle.session_actions.specs.declared.subchannel.Subchannel.{Subchannel}
use Rattle.session_order.proofs.Aside.{aside_request}
use Rattle.session_order.proofs.Lists.{any_same, holds_same}
use Rattle.session_order.specs.Quiescent.{IsStill, can_follow, has_outstanding, is_link_new, is_overflowing, is_to_cut, is_to_end, is_to_follow_pick, is_to_reset, is_unplaced}
use Rattle.session_order.specs.declared.line.Line.{Line}
use Rattle.session_order.specs.declared.line.Line.TheVariants as line
use Rattle.channel_actions.proofs.Streams.Opened.Dues.{final_same}
use Rattle.channel_actions.proofs.Streams.Opened.Rows.{commitment_is, counted_same, free_same, h, of_commitment, over_same, t, wanted_same}

-- each of a list, by its place in it
none_map_in : (p q : Attempt → Bool) (f : Attempt → Attempt) (xs : List Attempt) → ((i : ℕ) (x : Attempt) → slice_get xs i ≡ Some x → q x ≡ false → p (f x) ≡ false)
    → list_any q xs ≡ false → list_any p (map f xs) ≡ false
none_map_in p q f [] so none = refl
none_map_in p q f (x ∷ xs) so none =
    let two = or_parts (q x) (list_any q xs) none in
    or_from (p (f x)) (list_any p (map f xs)) (so zero x refl two.0) (none_map_in p q f xs (λ i y e. so (suc i) y e) two.1)

-- the last that passes a test is one of the list
pub record IsOne (xs : List Attempt) (x : Attempt) : Type 0 where
  pub index : ℕ
  pub here : slice_get xs index ≡ Some x

last_by : (test : Attempt → Bool) (y : Attempt) (xs : List Attempt) (x : Attempt) (b : Bool) (o : Option Attempt) → option_or o (if b then Some y else None) ≡ Some x
    → (o ≡ Some x → IsOne xs x) → IsOne (y ∷ xs) x
last_by test y xs x true None e rest = record { index = zero; here = e }
last_by test y xs x false None e rest = absurd (cc)
last_by test y xs x b (Some z) e rest =
    let one : IsOne xs x = rest e in record { index = suc one.index; here = one.here }

last_in : (test : Attempt → Bool) (xs : List Attempt) (x : Attempt) → find_last test xs ≡ Some x → IsOne xs x
last_in test [] x e = absurd (cc)
last_in test (y ∷ xs) x e = last_by test y xs x (test y) (find_last test xs) e (λ f. last_in test xs x f)

module _ (s : Seen) (g : ℕ → Option ℕ) (ls : List Link) (current : Option OpenEntry) where
  abbrev f : Attempt → Attempt
  f a = h s g ls current a

  abbrev u : Seen
  u = t s g ls current

  -- what is asked of responses, links and the entry
  pub record IsAlikeIn : Type 0 where
    pub heads : (i : ℕ) (a : Attempt) → slice_get s.attempts i ≡ Some a → is_some (response (f a) u).head ≡ is_some (response a s).head
    pub larges : (i : ℕ) (a : Attempt) → slice_get s.attempts i ≡ Some a → (response (f a) u).large ≡ (response a s).large
    pub ends : (i : ℕ) (a : Attempt) → slice_get s.attempts i ≡ Some a → is_to_end s a ≡ false → is_to_end u (f a) ≡ false
    pub resets : (i : ℕ) (a : Attempt) → slice_get s.attempts i ≡ Some a → is_to_reset s a ≡ false → is_to_reset u (f a) ≡ false
    pub subs : (b : Subchannel) → is_link_new u b ≡ is_link_new s b
    pub entries : entry u ≡ entry s

  module _ (alike : IsAlikeIn) where
    inherited_in : (a : Attempt) (c : Call) → is_inherited_in (f a) u c ≡ is_inherited_in a s c
    inherited_in a c =
        ap (λ (b : Bool). is_none c.end && b) (of_commitment s g ls current (is_inherited_by (f a)) (is_inherited_by a) (λ k. refl) c)

    inherited_one : (a : Attempt) → is_inherited u (f a) ≡ is_inherited s a
    inherited_one a =
        ap (λ (b : Bool). is_none a.row.committed && b)
        (holds_same (is_inherited_in (f a) u) (is_inherited_in a s) (inherited_in a) (numbered s.calls a.row.call))

    row_one : (c : Call) → is_over_by_row u c ≡ is_over_by_row s c
    row_one c =
        ap (λ (b : Bool). is_open_call c && b)
        (of_commitment s g ls current (λ (k : Attempt). is_counted k u) (λ (k : Attempt). is_counted k s) (counted_same s g ls current) c)

    overflow_one : (c : Call) → is_overflowing u c ≡ is_overflowing s c
    overflow_one c =
        ap (λ (b : Bool). (b && nat_lt 262144 (accepted_bytes c)) && has_outstanding c u) (free_same s g ls current c)
        ∙ ap (λ (b : Bool). (is_free_call s c && nat_lt 262144 (accepted_bytes c)) && b)
        (any_map_all (λ (a : Attempt). is_of c a && is_outstanding a) (λ (a : Attempt). is_of c a && is_outstanding a) f (λ a. refl) s.attempts)

    head_in : (i : ℕ) (a : Attempt) → slice_get s.attempts i ≡ Some a → (c : Call) → has_head_in (f a) u c ≡ has_head_in a s c
    head_in i a here c =
        ap (λ (b : Bool). b && is_some (response (f a) u).head) (free_same s g ls current c) ∙ ap (λ (b : Bool). is_free_call s c && b) (alike.heads i a here)

    head_one : (i : ℕ) (a : Attempt) → slice_get s.attempts i ≡ Some a → is_headed s a ≡ false → is_headed u (f a) ≡ false
    head_one i a here none =
        ap (λ (b : Bool). is_outstanding a && b) (holds_same (has_head_in (f a) u) (has_head_in a s) (head_in i a here) (numbered s.calls a.row.call)) ∙ none

    large_by : (c : Call) (o : Option Attempt) → commitment c s ≡ o
        → holds (λ (k : Attempt). is_outstanding k && (response k u).large) (option_map f o) ≡ holds (λ (k : Attempt). is_outstanding k && (response k s).large) o
    large_by c None e = refl
    large_by c (Some k) e =
        let one : IsOne s.attempts k = last_in (is_commitment c) s.attempts k e in
        ap (λ (b : Bool). is_outstanding k && b) (alike.larges one.index k one.here)

    long_one : (c : Call) → has_long_response u c ≡ has_long_response s c
    long_one c =
        ap (λ (b : Bool). is_open_call c && b)
        (ap (holds (λ (k : Attempt). is_outstanding k && (response k u).large)) (commitment_is s g ls current c) ∙ large_by c (commitment c s) refl)

    can_same : (p : Pick) → can_follow u p ≡ can_follow s p
    can_same (pick.Place sub) = refl
    can_same pick.Fail = refl
    can_same pick.Wait = refl

    unfollowed_by : (o : Option Attempt) → holds is_unfollowed (option_map f o) ≡ holds is_unfollowed o
    unfollowed_by None = refl
    unfollowed_by (Some a) = refl

    unplaced_same : (row : ℕ) → is_unplaced u row ≡ is_unplaced s row
    unplaced_same row = ap (holds is_unfollowed) (numbered_map f s.attempts row) ∙ unfollowed_by (numbered s.attempts row)

    pick_one : (ask : Ask) → is_to_follow_pick u ask ≡ is_to_follow_pick s ask
    pick_one ask =
        ap (λ (b : Bool). is_unplaced u ask.row && (ask.entry == entry u) && b) (can_same ask.answer)
        ∙ ap (λ (b : Bool). b && (ask.entry == entry u) && can_follow s ask.answer) (unplaced_same ask.row)
        ∙ ap (λ (n : ℕ). is_unplaced s ask.row && (ask.entry == n) && can_follow s ask.answer) alike.entries

    pub lines_still : (l : Line) (o : OpenEntry) → IsStill l o s → IsStill l o u
    lines_still line.Cut o e =
        any_map_all (is_to_cut u) (is_to_cut s) f (λ a. ap (λ (b : Bool). is_outstanding a && b) (over_same s g ls current a)) s.attempts ∙ e
    lines_still line.Transparent o e = any_map_all (λ (a : Attempt). wants_follower a u) (λ (a : Attempt). wants_follower a s) f (wanted_same s g ls current) s.attempts ∙ e
    lines_still line.Inherited o e = any_map_all (is_inherited u) (is_inherited s) f inherited_one s.attempts ∙ e
    lines_still line.Row o e = any_same (is_over_by_row u) (is_over_by_row s) row_one s.calls ∙ e
    lines_still line.Final o e = any_map_all (is_final_end u) (is_final_end s) f (final_same s g ls current) s.attempts ∙ e
    lines_still line.Cancelled o e = e
    lines_still line.Request o e = aside_request o s u ∙ e
    lines_still line.Overflow o e = any_same (is_overflowing u) (is_overflowing s) overflow_one s.calls ∙ e
    lines_still line.Head o e = none_map_in (is_headed u) (is_headed s) f s.attempts head_one e
    lines_still line.Response o e = any_same (has_long_response u) (has_long_response s) long_one s.calls ∙ e
    lines_still line.Pick o e = holds_same (is_to_follow_pick u) (is_to_follow_pick s) pick_one (last_of s.asks) ∙ e
    lines_still line.Link o e = any_same (is_link_new u) (is_link_new s) alike.subs s.subs ∙ e
    lines_still line.WireEnd o e = none_map_in (is_to_end u) (is_to_end s) f s.attempts alike.ends e
    lines_still line.Reset o e = none_map_in (is_to_reset u) (is_to_reset s) f s.attempts alike.resets e
    lines_still line.Shut o e = e
    lines_still line.Retire o e = e
    lines_still line.Begin o e = e
    lines_still line.Give o e = e
    lines_still line.Drop o e = e
    lines_still line.Add o e = e
