-- The head of a response comes: the call is committed to its attempt, and the head is for the application.
use Rattle.std.proofs.Common.{◌≡◌, ◌==◌, ◌&&◌, ◌||◌, ◌∷◌, ◌++◌, ap, refl, subst, sym, ◌∙◌, Bool, true, false, List, [], Option, None, Some, ℕ, zero, suc, cond, filter, if◌then◌else◌, is_some, map, option_to_list, slice_get}
use Rattle.std.proofs.lemmas.Bool.{eq-eqb}
use Rattle.std.specs.Option.{option_map, option_map_or}
use Rattle.call_actions.specs.Sees.{is_live, live_row}
use Rattle.call_core.specs.Laws as channel
use Rattle.call_core.specs.Parts.{committed_buffer, find_live}
use Rattle.call_core.specs.Steps as steps
use Rattle.call_core.specs.Steps.{Stepped, commit_by_head, received_head, with_head}
use Rattle.call_core.specs.declared.live.LiveRow.{LiveRow}
use Rattle.grpc_base.specs.declared.event.Reply.{Reply}
use Rattle.grpc_base.specs.declared.event.Reply.TheVariants as reply
use Rattle.grpc_base.specs.declared.fields.Field.{Field}
use Rattle.session_actions.specs.Attempts.{is_of, is_outstanding, is_queued}
use Rattle.session_actions.specs.Deliveries.{response_items}
use Rattle.session_actions.specs.Entries.{now}
use Rattle.session_actions.specs.Responses.{response}
use Rattle.session_actions.specs.Words.{numbered}
use Rattle.session_actions.specs.declared.attempt.Attempt.{Attempt}
use Rattle.session_actions.specs.declared.call.Call.{Call}
use Rattle.session_actions.specs.declared.seen.Seen.{Seen}
use Rattle.call_actions.proofs.TakeActions.Commits.{commits_cut_others}
use Rattle.call_actions.specs.TakeActions.Cuts.{CanCommit}
use Rattle.call_actions.specs.TakeActions.Laws.{HeadsCommit, IsCommitted, IsHead}
use Rattle.call_actions.specs.TakeActions.Serves.{IsLeft, Serves, came}

-- a live attempt is among the live rows
pub find_if : (place : ℕ) (x : Attempt) (rows : List LiveRow) (b : Bool) → is_some (find_live place rows) ≡ true → is_some (if b then Some (live_row x) else find_live place rows) ≡ true
find_if place x rows true e = refl
find_if place x rows false e = e

pub find_more : (place : ℕ) (p : Attempt → Bool) (x : Attempt) (xs : List Attempt) (b : Bool) → is_some (find_live place (map live_row (filter p xs))) ≡ true
    → is_some (find_live place (map live_row (cond b (x ∷ filter p xs) (filter p xs)))) ≡ true
find_more place p x xs true e = find_if place x (map live_row (filter p xs)) (x.place == place) e
find_more place p x xs false e = e

pub find_from : (p : Attempt → Bool) (k : Attempt) → p k ≡ true → (xs : List Attempt) (i : ℕ) → slice_get xs i ≡ Some k
    → is_some (find_live k.place (map live_row (filter p xs))) ≡ true
find_from p k lives [] i got = absurd (cc)
find_from p k lives (x ∷ xs) zero got =
    let one : x ≡ k = (cc) in
    ap (λ (z : Attempt). is_some (find_live k.place (map live_row (cond (p z) (z ∷ filter p xs) (filter p xs))))) one
    ∙ ap (λ (b : Bool). is_some (find_live k.place (map live_row (cond b (k ∷ filter p xs) (filter p xs))))) lives
    ∙ ap (λ (b : Bool). is_some (if b then Some (live_row k) else find_live k.place (map live_row (filter p xs)))) (eq-eqb k.place k.place refl)
find_from p k lives (x ∷ xs) (suc i) got = find_more k.place p x xs (p x) (find_from p k lives xs i got)

pub find_at : (p : Attempt → Bool) (k : Attempt) → p k ≡ true → (xs : List Attempt) (n : ℕ) → numbered xs n ≡ Some k
    → is_some (find_live k.place (map live_row (filter p xs))) ≡ true
find_at p k lives xs zero got = absurd (cc)
find_at p k lives xs (suc i) got = find_from p k lives xs i got

pub lives_by : (mine out queued : Bool) → mine ≡ true → out ≡ true → (mine && (out || queued)) ≡ true
lives_by true true queued one two = refl
lives_by true false queued one two = absurd (cc)
lives_by false out queued one two = absurd (cc)

-- nothing came before
pub none_by : (prefix left : List Reply) → prefix ++ left ≡ [] → left ≡ []
none_by [] left e = e
none_by (r ∷ prefix) left e = absurd (cc)

pub no_messages : (head : Option (List Field)) (messages : List (List ℕ)) → channel.head_items head ++ channel.message_items messages ≡ [] → messages ≡ []
no_messages None [] e = refl
no_messages None (m ∷ ms) e = absurd (cc)
no_messages (Some meta) messages e = absurd (cc)

module _ (s : Seen) (c : Call) (x : Stepped) (k : Attempt) (meta : List Field) (h : Serves s c x) (can : CanCommit s c k) (head : IsHead s k meta) where
  pub found : is_some (find_live k.place x.call.live) ≡ true
  found =
      ap (λ (l : List LiveRow). is_some (find_live k.place l)) (sym h.sees.live)
      ∙ find_at (is_live s c) k (lives_by (is_of c k) (is_outstanding k) (is_queued k s) can.mine can.outstanding) s.attempts k.place can.at

  pub free_now : is_some x.call.attempts.committed ≡ false
  free_now =
      ap (λ (o : Option ℕ). is_some o) (sym h.sees.attempts.committed)
      ∙ ap (λ (o : Option Attempt). is_some (option_map (λ (q : Attempt). q.place) o)) can.free

  pub received_is : received_head k.place meta (now s) x
      ≡ steps.committed k.place (now s) (record x { call = record x.call { buffer = committed_buffer k.place x.call.buffer; inbox = record x.call.inbox { head = Some meta } } })
  received_is =
      ap (λ (b : Bool). if b then with_head meta (commit_by_head k.place (now s) x) else x) found
      ∙ ap (λ (b : Bool). with_head meta (if b then x else steps.committed k.place (now s) (record x { call = record x.call { buffer = committed_buffer k.place x.call.buffer } }))) free_now

  pub empty : x.call.inbox.messages ≡ []
  empty =
      let l : IsLeft (came c s) c.taken (channel.came x.call) = h.left (h.going can.open_now) in
      let none : came c s ≡ [] = ap (λ (o : Option Attempt). option_map_or (λ (q : Attempt). response_items (response q s)) o []) can.free in
      no_messages x.call.inbox.head x.call.inbox.messages (none_by l.prefix (channel.came x.call) (sym l.joined ∙ none))

  pub items_are : response_items (response k s) ≡ channel.head_items (Some meta) ++ channel.message_items x.call.inbox.messages
  items_are =
      ap (λ (o : Option (List Field)). option_to_list (option_map (λ (m : List Field). reply.Head m) o) ++ map (λ (m : List ℕ). reply.Message m) (response k s).messages) head.head
      ∙ ap (λ (l : List (List ℕ)). reply.Head meta ∷ map (λ (m : List ℕ). reply.Message m) l) (head.first ∙ sym empty)

  pub commits : is_some s.current ≡ true → IsCommitted s c k (received_head k.place meta (now s) x)
  commits opened =
      subst (IsCommitted s c k) (sym received_is)
      (commits_cut_others s c x k (record x.call.inbox { head = Some meta }) opened h can refl items_are)

pub heads_commit : HeadsCommit
heads_commit s c x k meta opened h can head = commits s c x k meta h can head opened
