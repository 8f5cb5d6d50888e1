-- What a write keeps of the reasons of a call's rows.
use Rattle.std.proofs.Common.{◌≡◌, ℕ, Option, Some, None, List, [], ◌∷◌, ◌++◌, refl, sym, ap, subst, ◌∙◌, ◌⊎◌, inl, inr}
use Rattle.grpc_base.specs.declared.plan.CallPlan.{CallPlan}
use Rattle.grpc_base.specs.declared.plan.CallPlan.TheVariants as plans
use Rattle.grpc_base.specs.declared.plan.HedgePolicy.{HedgePolicy}
use Rattle.grpc_base.specs.declared.plan.RetryPolicy.{RetryPolicy}
use Rattle.attempt_ledger.specs.Numbering.{is_transparent}
use Rattle.attempt_ledger.specs.declared.row.Placed.{Placed}
use Rattle.attempt_ledger.specs.declared.row.Row.{Row}
use Rattle.attempt_ledger.specs.declared.row.RowKind.{RowKind}
use Rattle.attempt_ledger.specs.declared.row.RowKind.TheVariants as kind
use Rattle.ledger_stamps.specs.Steps.{committed_row, placed_row, stamped}
use Rattle.call_core.specs.declared.attempts.Attempts.{Attempts}
use Rattle.call_core.specs.Commitments.{IsRowOf}
use Rattle.call_core.specs.Reasons.{AskedDelay, Forced, HasEnded, HaveReasons, HedgeReason, IsDelayed, IsDelayedBefore, IsFollowing, IsForcedBefore, IsForcedThen, IsAttemptAt, IsKeptAt, IsKeptRow, IsPlacedThen, IsRetryDue, Reason, RetryReason}
use Rattle.call_core.specs.Rows.{row_in}
use Rattle.call_core.proofs.Alike.{AreLike, IsNowRow, IsWrite, WasRow, like_from, like_to}
use Rattle.call_core.proofs.Standing.{row_more}

-- what every write keeps
stays : {X : Type 0} (x y : X) (o : Option X) → o ≡ Some y → stamped x o ≡ Some y
stays x y None e = absurd (cc)
stays x y (Some z) e = e

pub kept_write : IsWrite IsKeptRow
kept_write = record {
  same = λ r. record { call = refl; number = refl; kind = refl; due = refl; placed = λ at e. e; ended = λ end e. e };
  joined = λ a b c first second. record {
    call = second.call ∙ first.call;
    number = second.number ∙ first.number;
    kind = second.kind ∙ first.kind;
    due = second.due ∙ first.due;
    placed = λ at e. second.placed at (first.placed at e);
    ended = λ end e. second.ended end (first.ended end e);
  };
  ended = λ end r. record { call = refl; number = refl; kind = refl; due = refl; placed = λ at e. e; ended = λ other e. stays end other r.ended e };
}

pub kept_committed : (entry : ℕ) (r : Row) → IsKeptRow r (committed_row entry r)
kept_committed entry r = record { call = refl; number = refl; kind = refl; due = refl; placed = λ at e. e; ended = λ end e. e }

pub kept_placed : (at : Placed) (r : Row) → IsKeptRow r (placed_row at r)
kept_placed at r = record { call = refl; number = refl; kind = refl; due = refl; placed = λ other e. stays at other r.placed e; ended = λ end e. e }

-- each row of a list stands on in another one
abbrev pub AreKept : ℕ → List Row → List Row → Type 0
AreKept owner rows after = (place : ℕ) (row : Row) → IsRowOf owner rows place row → IsKeptAt owner after place row

pub kept_like : (owner : ℕ) (rows after : List Row) → AreLike IsKeptRow rows after → AreKept owner rows after
kept_like owner rows after like = λ place row is.
    let now : IsNowRow IsKeptRow row (row_in after place) = like_to IsKeptRow (row_in rows place) (row_in after place) row (like place) is.there in
    record { row = now.row; is = record { there = now.there; call = now.like.call ∙ is.call }; kept = now.like }

pub kept_more : (owner : ℕ) (rows : List Row) (x : Row) → AreKept owner rows (rows ++ x ∷ [])
kept_more owner rows x = λ place row is. record {
  row = row;
  is = record { there = row_more rows x place row is.there; call = is.call };
  kept = record { call = refl; number = refl; kind = refl; due = refl; placed = λ at e. e; ended = λ end e. e };
}

-- what is said of rows goes over to it
abbrev ended_to : (owner : ℕ) (rows after : List Row) (place : ℕ) → AreKept owner rows after → HasEnded owner rows place → HasEnded owner after place
ended_to owner rows after place kept has = record {
  row = (kept place has.row has.is).row;
  is = (kept place has.row has.is).is;
  end = has.end;
  ended = (kept place has.row has.is).kept.ended has.end has.ended;
}

asked_to : (owner : ℕ) (rows after : List Row) (number : ℕ) → AreKept owner rows after → AskedDelay owner rows number → AskedDelay owner after number
asked_to owner rows after number kept asked =
    let now : IsKeptAt owner after asked.place asked.has.row = kept asked.place asked.has.row asked.has.is in
    record {
      place = asked.place;
      has = record { row = now.row; is = now.is; end = asked.has.end; ended = now.kept.ended asked.has.end asked.has.ended };
      number = now.kept.number ∙ asked.number;
      delay = asked.delay;
    }

pub none_or_asked : (owner : ℕ) (rows after : List Row) (number : ℕ) → AreKept owner rows after → (number ≡ 0) ⊎ AskedDelay owner rows number → (number ≡ 0) ⊎ AskedDelay owner after number
none_or_asked owner rows after number kept (inl e) = inl e
none_or_asked owner rows after number kept (inr asked) = inr (asked_to owner rows after number kept asked)

abbrev retry_to : (policy : RetryPolicy) (owner : ℕ) (rows after : List Row) (number due moment : ℕ) → AreKept owner rows after → moment ≡ due → IsRetryDue policy owner rows number due → IsRetryDue policy owner after number moment
retry_to policy owner rows after number due moment kept e old = record {
  place = old.place;
  has = ended_to owner rows after old.place kept old.has;
  number = (kept old.place old.has.row old.has.is).kept.number ∙ old.number;
  tokens = old.tokens;
  counted = old.counted;
  licensed = old.licensed;
  asked = old.asked;
  by_server = none_or_asked owner rows after old.asked kept old.by_server;
  word = old.word;
  drawn = old.drawn;
  due = e ∙ old.due;
}

abbrev pub attempt_to : (owner : ℕ) (rows after : List Row) (attempt place : ℕ) → AreKept owner rows after → IsAttemptAt owner rows attempt place → IsAttemptAt owner after attempt place
attempt_to owner rows after attempt place kept old = record {
  row = (kept place old.row old.is).row;
  is = (kept place old.row old.is).is;
  number = (kept place old.row old.is).kept.number ∙ old.number;
  own = ap is_transparent (kept place old.row old.is).kept.kind ∙ old.own;
}

abbrev pub placed_to : (owner : ℕ) (rows after : List Row) (attempt moment : ℕ) → AreKept owner rows after → IsPlacedThen owner rows attempt moment → IsPlacedThen owner after attempt moment
placed_to owner rows after attempt moment kept old = record {
  place = old.place;
  has = attempt_to owner rows after attempt old.place kept old.has;
  at = old.at;
  placed = (kept old.place old.has.row old.has.is).kept.placed old.at old.placed;
  moment = old.moment;
}

abbrev forced_to : (policy : HedgePolicy) (owner : ℕ) (rows after : List Row) (due moment : ℕ) → AreKept owner rows after → moment ≡ due → IsForcedThen policy owner rows due → IsForcedThen policy owner after moment
forced_to policy owner rows after due moment kept e old = record {
  place = old.place;
  has = ended_to owner rows after old.place kept old.has;
  in_set = old.in_set;
  due = e ∙ old.due;
}

abbrev delayed_to : (policy : HedgePolicy) (owner : ℕ) (rows after : List Row) (attempt due moment : ℕ) → AreKept owner rows after → moment ≡ due → IsDelayed policy owner rows attempt due → IsDelayed policy owner after attempt moment
delayed_to policy owner rows after attempt due moment kept e old = record {
  since = old.since;
  placed = placed_to owner rows after attempt old.since kept old.placed;
  due = e ∙ old.due;
}

retry_reason : (plan : CallPlan) (owner : ℕ) (rows after : List Row) (place : ℕ) (old new : Row) → AreKept owner rows after → IsKeptRow old new → RetryReason plan owner rows place old → RetryReason plan owner after place new
retry_reason plans.None owner rows after place old new kept like reason = reason
retry_reason (plans.Hedge policy) owner rows after place old new kept like reason = reason
retry_reason (plans.Retry policy) owner rows after place old new kept like reason = record {
  attempt = reason.attempt;
  number = like.number ∙ reason.number;
  why = retry_to policy owner rows after reason.attempt old.due new.due kept like.due reason.why;
  order = reason.order;
}

hedge_either : (policy : HedgePolicy) (owner : ℕ) (rows after : List Row) (place number now due moment : ℕ) → AreKept owner rows after → now ≡ number → moment ≡ due → IsForcedBefore policy owner rows place due ⊎ IsDelayedBefore policy owner rows place number due → IsForcedBefore policy owner after place moment ⊎ IsDelayedBefore policy owner after place now moment
hedge_either policy owner rows after place number now due moment kept same e (inl forced) =
    inl (record { why = forced_to policy owner rows after due moment kept e forced.why; order = forced.order })
hedge_either policy owner rows after place number now due moment kept same e (inr delayed) =
    inr (record { attempt = delayed.attempt; next = same ∙ delayed.next; why = delayed_to policy owner rows after delayed.attempt due moment kept e delayed.why; order = delayed.order })

hedge_reason : (plan : CallPlan) (owner : ℕ) (rows after : List Row) (place : ℕ) (old new : Row) → AreKept owner rows after → IsKeptRow old new → HedgeReason plan owner rows place old → HedgeReason plan owner after place new
hedge_reason plans.None owner rows after place old new kept like reason = reason
hedge_reason (plans.Retry policy) owner rows after place old new kept like reason = reason
hedge_reason (plans.Hedge policy) owner rows after place old new kept like reason = hedge_either policy owner rows after place old.number new.number old.due new.due kept like.number like.due reason

following_to : (owner : ℕ) (rows after : List Row) (place : ℕ) (old new : Row) → AreKept owner rows after → IsKeptRow old new → IsFollowing owner rows place old → IsFollowing owner after place new
following_to owner rows after place old new kept like reason =
    let now : IsKeptAt owner after reason.before reason.has.row = kept reason.before reason.has.row reason.has.is in
    record {
      before = reason.before;
      order = reason.order;
      has = record { row = now.row; is = now.is; end = reason.has.end; ended = now.kept.ended reason.has.end reason.has.ended };
      number = now.kept.number ∙ reason.number ∙ sym like.number;
      cause = reason.cause;
      due = like.due ∙ reason.due;
    }

pub reason_of : (plan : CallPlan) (owner : ℕ) (rows after : List Row) (place : ℕ) (old new : Row) (why : RowKind) → AreKept owner rows after → IsKeptRow old new → Reason plan owner rows place old why → Reason plan owner after place new why
reason_of plan owner rows after place old new kind.First kept like reason = tt
reason_of plan owner rows after place old new kind.Retry kept like reason = retry_reason plan owner rows after place old new kept like reason
reason_of plan owner rows after place old new kind.Hedge kept like reason = hedge_reason plan owner rows after place old new kept like reason
reason_of plan owner rows after place old new kind.Transparent kept like reason = following_to owner rows after place old new kept like reason

pub reason_to : (plan : CallPlan) (owner : ℕ) (rows after : List Row) (place : ℕ) (old new : Row) → AreKept owner rows after → IsKeptRow old new → Reason plan owner rows place old old.kind → Reason plan owner after place new new.kind
reason_to plan owner rows after place old new kept like reason =
    subst (λ (k : RowKind). Reason plan owner after place new k) (sym like.kind) (reason_of plan owner rows after place old new old.kind kept like reason)

pub forced_plan : (plan : CallPlan) (owner : ℕ) (rows after : List Row) (sent due : ℕ) → AreKept owner rows after → Forced plan owner rows sent due → Forced plan owner after sent due
forced_plan plans.None owner rows after sent due kept old = old
forced_plan (plans.Retry policy) owner rows after sent due kept (inl e) = inl e
forced_plan (plans.Retry policy) owner rows after sent due kept (inr old) = inr (retry_to policy owner rows after sent due due kept refl old)
forced_plan (plans.Hedge policy) owner rows after sent due kept (inl e) = inl e
forced_plan (plans.Hedge policy) owner rows after sent due kept (inr old) = inr (forced_to policy owner rows after due due kept refl old)

-- the same rows, after a write
pub rows_like : (plan : CallPlan) (owner : ℕ) (rows after : List Row) → AreLike IsKeptRow rows after → ((place : ℕ) (row : Row) → IsRowOf owner rows place row → Reason plan owner rows place row row.kind) → (place : ℕ) (row : Row) → IsRowOf owner after place row → Reason plan owner after place row row.kind
rows_like plan owner rows after like old place row is =
    let was : WasRow IsKeptRow (row_in rows place) row = like_from IsKeptRow (row_in rows place) (row_in after place) row (like place) is.there in
    reason_to plan owner rows after place was.row row (kept_like owner rows after like) was.like (old place was.row (record { there = was.there; call = sym was.like.call ∙ is.call }))

pub have_like : (plan : CallPlan) (owner : ℕ) (rows after : List Row) (a b : Attempts) → AreLike IsKeptRow rows after → b.forced ≡ a.forced → b.newest ≡ a.newest → b.placed ≡ a.placed → b.delayed ≡ a.delayed → b.sent ≡ a.sent → HaveReasons plan owner rows a → HaveReasons plan owner after b
have_like plan owner rows after a b like forced newest placed delayed sent old =
    let kept : AreKept owner rows after = kept_like owner rows after like in
    record {
      rows = rows_like plan owner rows after like old.rows;
      forced = λ due e. subst (λ (k : ℕ). Forced plan owner after k due) (sym sent) (forced_plan plan owner rows after a.sent due kept (old.forced due (sym forced ∙ e)));
      newest = λ place e. subst (λ (k : ℕ). IsAttemptAt owner after k place) (sym sent) (attempt_to owner rows after a.sent place kept (old.newest place (sym newest ∙ e)));
      placed = λ moment e. subst (λ (k : ℕ). IsPlacedThen owner after k moment) (sym sent) (placed_to owner rows after a.sent moment kept (old.placed moment (sym placed ∙ e)));
      delayed = subst (λ (k : ℕ). (k ≡ 0) ⊎ AskedDelay owner after k) (sym delayed) (none_or_asked owner rows after a.delayed kept old.delayed);
    }
