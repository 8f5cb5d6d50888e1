-- Attempts of which nothing changed but that they have streams: who is committed, over, followed and counted is the same.
use Rattle.std.proofs.Common.{◌≡◌, ◌||◌, ◌&&◌, ◌==◌, not, ap, refl, ◌∙◌, Bool, List, Option, None, Some, ℕ, is_none, is_some, map}
use Rattle.std.specs.Option.{option_map}
use Rattle.attempt_ledger.specs.Ends.{is_cut}
use Rattle.attempt_ledger.specs.TransparentRows.{is_by_peer, is_unsent}
use Rattle.attempt_ledger.specs.declared.row.RowCause.{RowCause}
use Rattle.attempt_ledger.specs.declared.row.RowEnd.{RowEnd}
use Rattle.call_actions.proofs.Ranks.{any_map_all, find_last_map}
use Rattle.session_actions.specs.Attempts.{commitment, counts_by, is_commitment, is_counted, is_followed, is_later_of, is_of, is_over, is_over_in, is_queued, is_to_follow, wants_follower, wants_follower_by, was_refused, was_retried_so}
use Rattle.session_actions.specs.Commitments.{is_free_call}
use Rattle.session_actions.specs.Words.{holds, numbered}
use Rattle.session_actions.specs.declared.attempt.Attempt.{Attempt}
use Rattle.session_actions.specs.declared.call.Call.{Call}
use Rattle.session_actions.specs.declared.entry.OpenEntry.{OpenEntry}
use Rattle.session_actions.specs.declared.link.Link.{Link}
use Rattle.session_actions.specs.declared.seen.Seen.{Seen}
use Rattle.session_order.proofs.Lists.{holds_same}

-- the stream of each attempt, by its place
abbrev pub restream : (ℕ → Option ℕ) → Attempt → Attempt
restream g a = record a { row = record a.row { stream = g a.place } }

abbrev pub restreamed : (ℕ → Option ℕ) → List Link → Option OpenEntry → Seen → Seen
restreamed g ls current s = record s { attempts = map (restream g) s.attempts; links = ls; current = current }

module _ (s : Seen) (g : ℕ → Option ℕ) (ls : List Link) (current : Option OpenEntry) where
  abbrev pub h : Attempt → Attempt
  h a = restream g a

  abbrev pub t : Seen
  t = restreamed g ls current s

  pub commitment_is : (c : Call) → commitment c t ≡ option_map h (commitment c s)
  commitment_is c = find_last_map (is_commitment c) (is_commitment c) h (λ a. refl) s.attempts

  -- a test of the attempt to which a call is committed
  held_by : (test old : Attempt → Bool) → ((a : Attempt) → test (h a) ≡ old a) → (o : Option Attempt) → holds test (option_map h o) ≡ holds old o
  held_by test old same None = refl
  held_by test old same (Some a) = same a

  pub of_commitment : (test old : Attempt → Bool) → ((a : Attempt) → test (h a) ≡ old a) → (c : Call) → holds test (commitment c t) ≡ holds old (commitment c s)
  of_commitment test old same c = ap (holds test) (commitment_is c) ∙ held_by test old same (commitment c s)

  none_by : (o : Option Attempt) → is_none (option_map h o) ≡ is_none o
  none_by None = refl
  none_by (Some a) = refl

  pub none_same : (c : Call) → is_none (commitment c t) ≡ is_none (commitment c s)
  none_same c = ap (λ (o : Option Attempt). is_none o) (commitment_is c) ∙ none_by (commitment c s)

  some_by : (o : Option Attempt) → is_some (option_map h o) ≡ is_some o
  some_by None = refl
  some_by (Some a) = refl

  pub some_same : (c : Call) → is_some (commitment c t) ≡ is_some (commitment c s)
  some_same c = ap (λ (o : Option Attempt). is_some o) (commitment_is c) ∙ some_by (commitment c s)

  pub over_in : (c : Call) (a : Attempt) → is_over_in c a t ≡ is_over_in c a s
  over_in c a =
      ap (λ (b : Bool). is_some c.end || b)
      (of_commitment (λ (k : Attempt). not (k.row.number == a.row.number)) (λ (k : Attempt). not (k.row.number == a.row.number)) (λ k. refl) c)

  pub over_same : (a : Attempt) → is_over a t ≡ is_over a s
  over_same a = holds_same (λ (c : Call). is_over_in c a t) (λ (c : Call). is_over_in c a s) (λ c. over_in c a) (numbered s.calls a.row.call)

  pub queued_same : (a : Attempt) → is_queued (h a) t ≡ is_queued a s
  queued_same a = ap (λ (b : Bool). (is_none a.row.placed && is_none a.row.ended) && not b) (over_same a)

  pub free_same : (c : Call) → is_free_call t c ≡ is_free_call s c
  free_same c = ap (λ (b : Bool). is_none c.end && b) (none_same c)

  pub followed_same : (a : Attempt) → is_followed (h a) t ≡ is_followed a s
  followed_same a = any_map_all (is_later_of (h a)) (is_later_of a) h (λ q. refl) s.attempts

  retried_same : (c : Call) → was_retried_so c t ≡ was_retried_so c s
  retried_same c =
      any_map_all (λ (q : Attempt). is_of c q && was_refused q && is_followed q t) (λ (q : Attempt). is_of c q && was_refused q && is_followed q s) h
      (λ q. ap (λ (b : Bool). is_of c q && was_refused q && b) (followed_same q)) s.attempts

  follow_same : (c : Call) (why : RowCause) (unseen : Bool) → is_to_follow c why unseen t ≡ is_to_follow c why unseen s
  follow_same c why unseen =
      ap (λ (b : Bool). is_unsent why || (unseen && is_by_peer why && b && not (was_retried_so c t))) (none_same c)
      ∙ ap (λ (b : Bool). is_unsent why || (unseen && is_by_peer why && is_none (commitment c s) && not b)) (retried_same c)

  pub wants_same : (a : Attempt) (e : RowEnd) → wants_follower_by (h a) t e ≡ wants_follower_by a s e
  wants_same a e =
      ap (λ (b : Bool). not b && holds (λ (c : Call). is_to_follow c e.cause e.unseen t) (numbered s.calls a.row.call)) (followed_same a)
      ∙ ap (λ (b : Bool). not (is_followed a s) && b)
      (holds_same (λ (c : Call). is_to_follow c e.cause e.unseen t) (λ (c : Call). is_to_follow c e.cause e.unseen s) (λ c. follow_same c e.cause e.unseen)
      (numbered s.calls a.row.call))

  pub counts_same : (a : Attempt) (e : RowEnd) → counts_by (h a) t e ≡ counts_by a s e
  counts_same a e =
      ap (λ (b : Bool). (not (is_cut e.cause) && not b) && not (wants_follower_by (h a) t e)) (followed_same a)
      ∙ ap (λ (b : Bool). (not (is_cut e.cause) && not (is_followed a s)) && not b) (wants_same a e)

  pub counted_same : (a : Attempt) → is_counted (h a) t ≡ is_counted a s
  counted_same a = holds_same (counts_by (h a) t) (counts_by a s) (counts_same a) a.row.ended

  pub wanted_same : (a : Attempt) → wants_follower (h a) t ≡ wants_follower a s
  wanted_same a = holds_same (wants_follower_by (h a) t) (wants_follower_by a s) (wants_same a) a.row.ended
