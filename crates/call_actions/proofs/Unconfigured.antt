-- A call without an attempt: what a session says of its attempts, whatever else happened to it.
use Rattle.std.proofs.Common.{◌≡◌, ◌+◌, ◌&&◌, ◌||◌, not, nat_le, ap, refl, subst, sym, ◌∙◌, Bool, true, false, List, [], Option, None, Some, ℕ, if◌then◌else◌, is_some, length, map, max}
use Rattle.std.specs.List.{list_any}
use Rattle.std.specs.Option.{option_and_then, option_map}
use Rattle.std.specs.Prelude.{filter_map, fold}
use Rattle.attempt_ledger.specs.Ends.{delay_of}
use Rattle.attempt_ledger.specs.Numbering.{is_transparent}
use Rattle.attempt_ledger.specs.declared.ledger.CallEnd.{CallEnd}
use Rattle.attempt_ledger.specs.declared.row.RowEnd.{RowEnd}
use Rattle.call_actions.proofs.Lists.{any_none, count_none, filter_none, last_none}
use Rattle.call_actions.specs.Laws.{IsUnconfigured}
use Rattle.call_actions.specs.Sees.{AttemptsAgree, DuesAgree, KeepsDelay, Sees, bucket_of, is_live, live_row, live_rows}
use Rattle.call_core.specs.Steps.{Stepped}
use Rattle.call_core.specs.declared.attempts.Attempts.{Attempts}
use Rattle.grpc_base.specs.declared.event.Reply.{Reply}
use Rattle.service_config.specs.Choice.{chosen_for}
use Rattle.session_actions.specs.Attempts.{commitment, is_commitment, is_counted, is_followed, is_of, is_outstanding, is_queued, was_refused, was_retried_so}
use Rattle.session_actions.specs.Configs.{plan_of}
use Rattle.session_actions.specs.DueAttempts.{attempts_made, counted_row, due_after_mark, due_state, last_counted, last_delayed, no_due, was_delayed}
use Rattle.session_actions.specs.Entries.{entry, replied}
use Rattle.session_actions.specs.Tokens.{run_of}
use Rattle.session_actions.specs.Words.{holds, last_of, numbered}
use Rattle.session_actions.specs.declared.attempt.Attempt.{Attempt}
use Rattle.session_actions.specs.declared.call.Call.{Call}
use Rattle.session_actions.specs.declared.call.Mark.{Mark}
use Rattle.session_actions.specs.declared.config.HeldConfig.{HeldConfig}
use Rattle.session_actions.specs.declared.due.DueState.{DueState}
use Rattle.session_actions.specs.declared.entry.OpenEntry.{OpenEntry}
use Rattle.session_actions.specs.declared.seen.Seen.{Seen}
use Rattle.session_actions.specs.declared.entry.Stage.TheVariants as stage

and_none : (x y : Bool) → x ≡ false → (x && y) ≡ false
and_none true y e = absurd (cc)
and_none false y e = refl

module _ (s : Seen) (c : Call) (none : list_any (is_of c) s.attempts ≡ false) where
  pub none_made : attempts_made c s ≡ 0
  none_made = count_none (λ (a : Attempt). is_of c a && not (is_transparent a.row.kind)) (is_of c) (λ a e. and_none (is_of c a) (not (is_transparent a.row.kind)) e) s.attempts none

  pub none_live : live_rows s c ≡ []
  none_live =
      ap (map live_row) (filter_none (is_live s c) (is_of c) (λ a e. and_none (is_of c a) (is_outstanding a || is_queued a s) e) s.attempts none)

  pub none_committed : option_map (λ (k : Attempt). k.place) (commitment c s) ≡ None
  none_committed =
      ap (option_map (λ (k : Attempt). k.place)) (last_none (is_commitment c) (is_of c) (λ a e. and_none (is_of c a) (is_some a.row.committed) e) s.attempts none)

  pub none_retried : was_retried_so c s ≡ false
  none_retried =
      any_none (λ q. is_of c q && was_refused q && is_followed q s) (is_of c)
      (λ q e. and_none (is_of c q && was_refused q) (is_followed q s) (and_none (is_of c q) (was_refused q) e)) s.attempts none

  delayed_none : (number : ℕ) (a : Attempt) → is_of c a ≡ false → was_delayed c number s a ≡ false
  delayed_none number a e =
      ap (λ (x : Bool). ((x && nat_le a.row.number number) && is_counted a s) && holds (λ (d : RowEnd). is_some (delay_of d.pushback)) a.row.ended) e

  pub none_delayed : (number : ℕ) → last_delayed c number s ≡ 0
  none_delayed number =
      ap (fold (λ (n : ℕ) (a : Attempt). max n a.row.number) 0) (filter_none (was_delayed c number s) (is_of c) (λ a e. delayed_none number a e) s.attempts none)

  -- so its attempts are those of a call that made none
  pub unconfigured_attempts : (a : Attempts) → DuesAgree (due_state c s) a → last_counted c s ≡ None → 0 ≡ a.sent → 0 ≡ a.delayed → None ≡ a.last
      → false ≡ a.is_refusal_followed → None ≡ a.committed → None ≡ a.placed → AttemptsAgree s c a
  unconfigured_attempts a due counted sent delayed last refused committed placed = record {
    sent = none_made ∙ sent;
    due = due;
    unplaced = λ e. sym placed;
    delayed = λ keeps free. none_delayed a.sent ∙ delayed;
    last = λ free. counted ∙ last;
    refused = none_retried ∙ refused;
    committed = none_committed ∙ committed;
  }

-- before the configuration it has no tokens
pub no_tokens : (s : Seen) (c : Call) → c.config ≡ None → option_map (bucket_of s) (run_of c s) ≡ None
no_tokens s c e =
    ap (λ (o : Option ℕ). option_map (bucket_of s) (option_and_then (numbered s.runs) (option_and_then (λ (h : HeldConfig). h.run) (option_and_then (numbered s.configs) o)))) e

-- what its marks say
pub due_of_marks : (s : Seen) (c : Call) (marks : List Mark) → c.marks ≡ marks
    → due_state c s ≡ fold (λ (d : DueState) (m : Mark). due_after_mark c s m.what m.moment d) no_due marks
due_of_marks s c marks e = ap (fold (λ (d : DueState) (m : Mark). due_after_mark c s m.what m.moment d) no_due) e

pub counted_of_marks : (s : Seen) (c : Call) (marks : List Mark) → c.marks ≡ marks
    → last_counted c s ≡ last_of (filter_map (λ (m : Mark). counted_row s m.what) marks)
counted_of_marks s c marks e = ap (λ (l : List Mark). last_of (filter_map (λ (m : Mark). counted_row s m.what) l)) e

pub due_from : (s : Seen) (c : Call) (d : DueState) (a : Attempts) → due_state c s ≡ d → DuesAgree d a → DuesAgree (due_state c s) a
due_from s c d a e h = subst (λ (z : DueState). DuesAgree z a) (sym e) h

-- what the channel has of it
pub record Had (s : Seen) (c : Call) (x : Stepped) : Type 0 where
  pub sent : 0 ≡ x.call.attempts.sent
  pub due : DuesAgree no_due x.call.attempts
  pub delayed : 0 ≡ x.call.attempts.delayed
  pub last : None ≡ x.call.attempts.last
  pub refused : false ≡ x.call.attempts.is_refusal_followed
  pub committed : None ≡ x.call.attempts.committed
  pub live : [] ≡ x.call.live
  pub open_now : x.call.ended ≡ None
  pub chosen : x.call.chosen ≡ None
  pub tokens : None ≡ x.tokens

keeps_delay : (s : Seen) (c : Call) → c.config ≡ None → KeepsDelay c.config (plan_of c s)
keeps_delay s c e = subst (λ (o : Option ℕ). KeepsDelay o (plan_of c s)) (sym e) tt

pub had : (s : Seen) (c : Call) (x : Stepped) → Sees s c x → IsUnconfigured s c → Had s c x
had s c x h b = record {
  sent = sym (none_made s c b.none) ∙ h.attempts.sent;
  due = subst (λ (d : DueState). DuesAgree d x.call.attempts) (due_of_marks s c [] b.marks) h.attempts.due;
  delayed = sym (none_delayed s c b.none x.call.attempts.sent) ∙ h.attempts.delayed (keeps_delay s c b.config) (sym (sym (none_committed s c b.none) ∙ h.attempts.committed));
  last = sym (counted_of_marks s c [] b.marks) ∙ h.attempts.last (sym (sym (none_committed s c b.none) ∙ h.attempts.committed));
  refused = sym (none_retried s c b.none) ∙ h.attempts.refused;
  committed = sym (none_committed s c b.none) ∙ h.attempts.committed;
  live = sym (none_live s c b.none) ∙ h.live;
  open_now = sym h.ended ∙ ap (option_map (λ (e : CallEnd). e.cause)) b.end;
  chosen = sym h.chosen ∙ ap (λ (o : Option ℕ). option_map (λ (g : HeldConfig). chosen_for g.config c.request.path) (option_and_then (numbered s.configs) o)) b.config;
  tokens = sym (no_tokens s c b.config) ∙ h.tokens;
}

-- the entry is the same, whatever is replied
pub some_still : {X : Type 0} (f : X → X) (o : Option X) → is_some (option_map f o) ≡ is_some o
some_still f None = refl
some_still f (Some x) = refl

pub entry_replied : (s : Seen) (r : Reply) → entry (replied r s) ≡ entry s
entry_replied s r =
    ap (λ (b : Bool). length s.entries + (if b then 1 else 0)) (some_still (λ (o : OpenEntry). record o { stage = stage.Replied; reply = Some r }) s.current)
