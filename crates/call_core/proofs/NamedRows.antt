-- What a write keeps of the commitments of a call.
use Rattle.std.proofs.Common.{◌≡◌, ℕ, true, Option, Some, None, is_some, List, refl, sym, ap, subst, ◌∙◌, ◌⊎◌, inl, inr}
use Rattle.grpc_base.specs.declared.event.EndCause.TheVariants as ends
use Rattle.attempt_ledger.specs.Numbering.{is_transparent}
use Rattle.attempt_ledger.specs.declared.row.Row.{Row}
use Rattle.attempt_ledger.specs.declared.row.RowEnd.{RowEnd}
use Rattle.ledger_stamps.specs.Steps.{stamped}
use Rattle.call_core.specs.Commitments.{EndsByRow, HasOwnEnd, IsCommittedOnce, IsInChain, IsStamped}
use Rattle.call_core.specs.Rows.{row_in}
use Rattle.call_core.specs.Steps.{Stepped}
use Rattle.call_core.proofs.Alike.{AreLike, IsNowRow, IsWrite, WasRow, like_from, like_to}

-- what a commitment leaves of a row, and what every other write does
pub record IsOwned (old new : Row) : Type 0 where
  pub call : new.call ≡ old.call
  pub stays : (end : RowEnd) → old.ended ≡ Some end → new.ended ≡ Some end

pub record IsNamed (old new : Row) : Type 0 where
  pub call : new.call ≡ old.call
  pub number : new.number ≡ old.number
  pub kind : new.kind ≡ old.kind
  pub committed : new.committed ≡ old.committed
  pub stays : (end : RowEnd) → old.ended ≡ Some end → new.ended ≡ Some end

end_stays : (end other : RowEnd) (o : Option RowEnd) → o ≡ Some other → stamped end o ≡ Some other
end_stays end other None e = absurd (cc)
end_stays end other (Some x) e = e

pub owned_write : IsWrite IsOwned
owned_write = record {
  same = λ r. record { call = refl; stays = λ end e. e };
  joined = λ a b c first second. record { call = second.call ∙ first.call; stays = λ end e. second.stays end (first.stays end e) };
  ended = λ end r. record { call = refl; stays = λ other e. end_stays end other r.ended e };
}

pub named_write : IsWrite IsNamed
named_write = record {
  same = λ r. record { call = refl; number = refl; kind = refl; committed = refl; stays = λ end e. e };
  joined = λ a b c first second. record {
    call = second.call ∙ first.call;
    number = second.number ∙ first.number;
    kind = second.kind ∙ first.kind;
    committed = second.committed ∙ first.committed;
    stays = λ end e. second.stays end (first.stays end e);
  };
  ended = λ end r. record { call = refl; number = refl; kind = refl; committed = refl; stays = λ other e. end_stays end other r.ended e };
}

pub own_like : (owner : ℕ) (rows after : List Row) (place : ℕ) → AreLike IsOwned rows after → HasOwnEnd owner rows place → HasOwnEnd owner after place
own_like owner rows after place like has =
    let now : IsNowRow IsOwned has.row (row_in after place) = like_to IsOwned (row_in rows place) (row_in after place) has.row (like place) has.is.there in
    record {
      row = now.row;
      is = record { there = now.there; call = now.like.call ∙ has.is.call };
      end = has.end;
      ended = now.like.stays has.end has.ended;
      cause = has.cause;
    }

pub own_named : (owner : ℕ) (rows after : List Row) (place : ℕ) → AreLike IsNamed rows after → HasOwnEnd owner rows place → HasOwnEnd owner after place
own_named owner rows after place like has =
    let now : IsNowRow IsNamed has.row (row_in after place) = like_to IsNamed (row_in rows place) (row_in after place) has.row (like place) has.is.there in
    record {
      row = now.row;
      is = record { there = now.there; call = now.like.call ∙ has.is.call };
      end = has.end;
      ended = now.like.stays has.end has.ended;
      cause = has.cause;
    }

pub kind_case : (place last : ℕ) (a b : Row) → b.kind ≡ a.kind → (place ≡ last) ⊎ (is_transparent a.kind ≡ true) → (place ≡ last) ⊎ (is_transparent b.kind ≡ true)
kind_case place last a b same (inl e) = inl e
kind_case place last a b same (inr t) = inr (ap is_transparent same ∙ t)

-- a change that leaves the commitment as it is
pub once_like : (s t : Stepped) → t.call.number ≡ s.call.number → t.call.attempts.committed ≡ s.call.attempts.committed → AreLike IsNamed s.ledger.rows t.ledger.rows → (t.call.ended ≡ Some ends.Row → EndsByRow t) → ((place : ℕ) → t.call.attempts.last ≡ Some place → HasOwnEnd t.call.number t.ledger.rows place) → IsCommittedOnce s → IsCommittedOnce t
once_like s t number committed like ended last old = record {
  stamped = λ place h.
      let one : IsStamped s.call.number s.ledger.rows place = old.stamped place (sym committed ∙ h) in
      let now : IsNowRow IsNamed one.row (row_in t.ledger.rows place) = like_to IsNamed (row_in s.ledger.rows place) (row_in t.ledger.rows place) one.row (like place) one.is.there in
      record {
        row = now.row;
        is = record { there = now.there; call = now.like.call ∙ one.is.call ∙ sym number };
        stamped = ap is_some now.like.committed ∙ one.stamped;
      };
  chain = λ place row is e.
      let was : WasRow IsNamed (row_in s.ledger.rows place) row = like_from IsNamed (row_in s.ledger.rows place) (row_in t.ledger.rows place) row (like place) is.there in
      let c : IsInChain s place was.row = old.chain place was.row (record { there = was.there; call = sym was.like.call ∙ is.call ∙ number }) (ap is_some (sym was.like.committed) ∙ e) in
      let now : IsNowRow IsNamed c.newest (row_in t.ledger.rows c.last) = like_to IsNamed (row_in s.ledger.rows c.last) (row_in t.ledger.rows c.last) c.newest (like c.last) c.there in
      record {
        last = c.last;
        is_last = committed ∙ c.is_last;
        newest = now.row;
        there = now.there;
        number = was.like.number ∙ c.number ∙ sym now.like.number;
        order = c.order;
        kind = kind_case place c.last c.newest now.row now.like.kind c.kind;
      };
  ended = ended;
  last = last;
}

pub once_plain : (s t : Stepped) → t.call.number ≡ s.call.number → t.call.attempts.committed ≡ s.call.attempts.committed → t.call.attempts.last ≡ s.call.attempts.last → t.call.ended ≡ s.call.ended → AreLike IsNamed s.ledger.rows t.ledger.rows → IsCommittedOnce s → IsCommittedOnce t
once_plain s t number committed last ended like old =
    once_like s t number committed like
    (λ h.
    let e : EndsByRow s = old.ended (sym ended ∙ h) in
    record {
      place = e.place;
      committed = committed ∙ e.committed;
      own = subst (λ (k : ℕ). HasOwnEnd k t.ledger.rows e.place) (sym number) (own_named s.call.number s.ledger.rows t.ledger.rows e.place like e.own);
    })
    (λ place h. subst (λ (k : ℕ). HasOwnEnd k t.ledger.rows place) (sym number) (own_named s.call.number s.ledger.rows t.ledger.rows place like (old.last place (sym last ∙ h))))
    old
