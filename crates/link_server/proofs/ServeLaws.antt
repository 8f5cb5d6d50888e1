-- Serving that goes on: what two turns move is what one turn after another moves.
use Rattle.std.proofs.Common.{◌≡◌, ◌∙◌, ℕ, zero, suc, ◌+◌, Option, Some, None, List, [], ◌∷◌, ◌++◌, ap, append_assoc, append-nil, arith, length, length-append, refl, subst, inl, inr, sym, take}
use Rattle.std.specs.Prelude.{◌⊎◌}
use Rattle.std.specs.List.{concat}
use Rattle.grpc_base.specs.Counts.{one_more}
use Rattle.gate_io.specs.Outside.{Appends, AppendsPrefix, IsAtEnd, Takes}
use Rattle.gate_io.proofs.AppendLaws.{Appends-append}
use Rattle.link_server.specs.declared.done.LinkDone.{LinkDone}
use Rattle.link_server.specs.declared.done.LinkDone.TheVariants as done
use Rattle.link_server.specs.declared.done.Turned.{Turned}
use Rattle.link_server.specs.declared.done.Turned.TheVariants as turned
use Rattle.link_server.specs.Serving.{AddsAll, Gains, IsSame, Report}
use Rattle.link_server.specs.Serves.{CountsSeen, GoesIn, GoesOut, HasCause, IsRefusal, IsSent, IsWritten, over_of}

concat_append : (xs ys : List (List ℕ)) → concat (xs ++ ys) ≡ concat xs ++ concat ys
concat_append [] ys = refl
concat_append (x ∷ xs) ys = ap (λ (t : List ℕ). x ++ t) (concat_append xs ys) ∙ sym (append_assoc x (concat xs) (concat ys))

take_more : (xs ys : List ℕ) (n m : ℕ) → m ≡ length xs + n → xs ++ take n ys ≡ take m (xs ++ ys)
take_more [] ys n m e = ap (λ (k : ℕ). take k ys) (let same : n ≡ m = omega (arith, e) in same)
take_more (x ∷ xs) ys n zero e = absurd (omega (arith, e))
take_more (x ∷ xs) ys n (suc m) e = ap (λ (t : List ℕ). x ∷ t) (take_more xs ys n m (omega (arith, e)))

-- ---- what is reported of a link

AddsAll-none : (reported : Option (List (List ℕ))) → AddsAll reported reported []
AddsAll-none (Some pieces) = ap (λ (t : List (List ℕ)). Some t) (sym (append-nil pieces))
AddsAll-none None = refl

AddsAll-then : (a b c : Option (List (List ℕ))) (xs ys : List (List ℕ)) → AddsAll a b xs → AddsAll b c ys → AddsAll a c (xs ++ ys)
AddsAll-then (Some s) b c xs ys p q =
    let h : AddsAll (Some (s ++ xs)) c ys = subst (λ (o : Option (List (List ℕ))). AddsAll o c ys) p q in
    h ∙ ap (λ (t : List (List ℕ)). Some t) (append_assoc s xs ys)
AddsAll-then None b c xs ys p q = subst (λ (o : Option (List (List ℕ))). AddsAll o c ys) p q

pub Gains-none : (a b : Report) (link : ℕ) → IsSame a b → Gains a b link []
Gains-none a b link same = record {
  at = subst (λ (o : Option (List (List ℕ))). AddsAll (a link) o []) (sym (same link)) (AddsAll-none (a link));
  others = λ other apart. same other;
}

pub Gains-then : (a b c : Report) (link : ℕ) (xs ys : List (List ℕ)) → Gains a b link xs → Gains b c link ys → Gains a c link (xs ++ ys)
Gains-then a b c link xs ys p q = record {
  at = AddsAll-then (a link) (b link) (c link) xs ys p.at q.at;
  others = λ other apart. q.others other apart ∙ p.others other apart;
}

-- ---- what came

Takes-none : (left : Option (List ℕ)) → Takes left left []
Takes-none (Some bytes) = refl
Takes-none None = tt

Takes-then : (a b c : Option (List ℕ)) (xs ys : List ℕ) → Takes a b xs → Takes b c ys → Takes a c (xs ++ ys)
Takes-then (Some a) (Some b) (Some c) xs ys p q = p ∙ ap (λ (t : List ℕ). xs ++ t) q ∙ sym (append_assoc xs ys c)
Takes-then (Some a) (Some b) None xs ys p q = q
Takes-then (Some a) None c xs ys p q = absurd p
Takes-then None (Some b) c xs ys p q = absurd p
Takes-then None None (Some c) xs ys p q = q
Takes-then None None None xs ys p q = tt

pub in_none : (link : ℕ) (a b : Report) (left left' : Option (List ℕ)) → IsSame a b → left' ≡ left → GoesIn link a b left left'
in_none link a b left left' same is = record {
  pieces = [];
  read = subst (λ (o : Option (List ℕ)). Takes left o []) (sym is) (Takes-none left);
  given = Gains-none a b link same;
}

pub in_one : (link : ℕ) (a b : Report) (left left' : Option (List ℕ)) (piece : List ℕ) → Takes left left' piece → Gains a b link (piece ∷ []) → GoesIn link a b left left'
in_one link a b left left' piece took gains = record {
  pieces = piece ∷ [];
  read = subst (Takes left left') (sym (append-nil piece)) took;
  given = gains;
}

pub in_then : (link : ℕ) (a b c : Report) (l m n : Option (List ℕ)) → GoesIn link a b l m → GoesIn link b c m n → GoesIn link a c l n
in_then link a b c l m n p q = record {
  pieces = p.pieces ++ q.pieces;
  read = subst (Takes l n) (sym (concat_append p.pieces q.pieces)) (Takes-then l m n (concat p.pieces) (concat q.pieces) p.read q.read);
  given = Gains-then a b c link p.pieces q.pieces p.given q.given;
}

-- ---- what went out

Appends-none : (taken : Option (List ℕ)) → Appends taken taken []
Appends-none (Some bytes) = ap (λ (t : List ℕ). Some t) (sym (append-nil bytes))
Appends-none None = refl

Appends-then : (a b c : Option (List ℕ)) (xs ys : List ℕ) → Appends a b xs → Appends b c ys → Appends a c (xs ++ ys)
Appends-then a b c xs ys p q = Appends-append a b c xs ys (xs ++ ys) p q refl

Prefix-then : (a b c : Option (List ℕ)) (xs ys : List ℕ) → Appends a b xs → AppendsPrefix b c ys → AppendsPrefix a c (xs ++ ys)
Prefix-then a b c xs ys p (n, within, q) = (
  length xs + n,
  omega (arith, within, length-append xs ys),
  Appends-append a b c xs (take n ys) (take (length xs + n) (xs ++ ys)) p q (take_more xs ys n (length xs + n) refl),
)

Sent-then : (end : Option LinkDone) (a b c : Option (List ℕ)) (xs ys : List ℕ) → Appends a b xs → IsSent end b c ys → IsSent end a c (xs ++ ys)
Sent-then (Some done.WriteFailed) a b c xs ys p q = Prefix-then a b c xs ys p q
Sent-then (Some done.Ended) a b c xs ys p q = Appends-then a b c xs ys p q
Sent-then (Some done.ReadFailed) a b c xs ys p q = Appends-then a b c xs ys p q
Sent-then (Some (done.Broken code)) a b c xs ys p q = Appends-then a b c xs ys p q
Sent-then (Some done.NoMemory) a b c xs ys p q = Appends-then a b c xs ys p q
Sent-then None a b c xs ys p q = Appends-then a b c xs ys p q

Sent-none : (end : Option LinkDone) (taken taken' : Option (List ℕ)) → taken' ≡ taken → (end ≡ Some done.WriteFailed → ⊥) → IsSent end taken taken' []
Sent-none (Some done.WriteFailed) a b is never = absurd (never refl)
Sent-none (Some done.Ended) a b is never = subst (λ (o : Option (List ℕ)). Appends a o []) (sym is) (Appends-none a)
Sent-none (Some done.ReadFailed) a b is never = subst (λ (o : Option (List ℕ)). Appends a o []) (sym is) (Appends-none a)
Sent-none (Some (done.Broken code)) a b is never = subst (λ (o : Option (List ℕ)). Appends a o []) (sym is) (Appends-none a)
Sent-none (Some done.NoMemory) a b is never = subst (λ (o : Option (List ℕ)). Appends a o []) (sym is) (Appends-none a)
Sent-none None a b is never = subst (λ (o : Option (List ℕ)). Appends a o []) (sym is) (Appends-none a)

pub out_none : (link : ℕ) (a b : Report) (taken taken' : Option (List ℕ)) (end : Option LinkDone) → IsSame a b → taken' ≡ taken → (end ≡ Some done.WriteFailed → ⊥) → GoesOut link a b taken taken' end
out_none link a b taken taken' end same is never = record {
  drains = [];
  drained = Gains-none a b link same;
  sent = Sent-none end taken taken' is never;
}

pub out_one : (link : ℕ) (a b : Report) (taken taken' : Option (List ℕ)) (octets : List ℕ) (end : Option LinkDone) → Gains a b link (octets ∷ []) → IsSent end taken taken' octets → GoesOut link a b taken taken' end
out_one link a b taken taken' octets end gains sent = record {
  drains = octets ∷ [];
  drained = gains;
  sent = subst (IsSent end taken taken') (sym (append-nil octets)) sent;
}

pub out_then : (link : ℕ) (a b c : Report) (s t u : Option (List ℕ)) (end : Option LinkDone) → GoesOut link a b s t None → GoesOut link b c t u end → GoesOut link a c s u end
out_then link a b c s t u end p q = record {
  drains = p.drains ++ q.drains;
  drained = Gains-then a b c link p.drains q.drains p.drained q.drained;
  sent = subst (IsSent end s u) (sym (concat_append p.drains q.drains)) (Sent-then end s t u (concat p.drains) (concat q.drains) p.sent q.sent);
}

-- ---- why it ended

pub cause_then : (end : Option LinkDone) (a b c : CountsSeen) (l m : Option (List ℕ)) → HasCause None a b l → HasCause end b c m → HasCause end a c m
cause_then end a b c l m p q = subst (λ (x : CountsSeen). HasCause end x c m) p q

pub written_cause : (end : Option LinkDone) (b b' k k' r w w' : ℕ) (left : Option (List ℕ)) → b' ≡ b → k' ≡ k → IsWritten end w w' → HasCause end (record { breaks = b; last_code = k; read_faults = r; write_faults = w }) (record { breaks = b'; last_code = k'; read_faults = r; write_faults = w' }) left
written_cause None b b' k k' r w w' left p q h = (cc)
written_cause (Some done.WriteFailed) b b' k k' r w w' left p q h = (cc)
written_cause (Some done.Ended) b b' k k' r w w' left p q h = absurd h
written_cause (Some done.ReadFailed) b b' k k' r w w' left p q h = absurd h
written_cause (Some (done.Broken code)) b b' k k' r w w' left p q h = absurd h
written_cause (Some done.NoMemory) b b' k k' r w w' left p q h = absurd h

pub refused_cause : (end : Option LinkDone) (b b' k k' r r' w : ℕ) (left : Option (List ℕ)) → IsRefusal end b k b' k' → r' ≡ r → HasCause end (record { breaks = b; last_code = k; read_faults = r; write_faults = w }) (record { breaks = b'; last_code = k'; read_faults = r'; write_faults = w }) left
refused_cause None b b' k k' r r' w left h e = (let p = h.0 in let q = h.1 in (cc))
refused_cause (Some (done.Broken code)) b b' k k' r r' w left h e = (let p = h.0 in let q = h.1 in (cc))
refused_cause (Some done.NoMemory) b b' k k' r r' w left h e = (e, refl)
refused_cause (Some done.WriteFailed) b b' k k' r r' w left h e = absurd h
refused_cause (Some done.Ended) b b' k k' r r' w left h e = absurd h
refused_cause (Some done.ReadFailed) b b' k k' r r' w left h e = absurd h

pub refused_not_written : (end : Option LinkDone) (b b' k k' : ℕ) → IsRefusal end b k b' k' → end ≡ Some done.WriteFailed → ⊥
refused_not_written None b b' k k' h e = (cc)
refused_not_written (Some (done.Broken code)) b b' k k' h e = (cc)
refused_not_written (Some done.NoMemory) b b' k k' h e = (cc)
refused_not_written (Some done.WriteFailed) b b' k k' h e = absurd h
refused_not_written (Some done.Ended) b b' k k' h e = absurd h
refused_not_written (Some done.ReadFailed) b b' k k' h e = absurd h

pub quiet_cause : (b k r r' w : ℕ) (left : Option (List ℕ)) → r' ≡ r → HasCause None (record { breaks = b; last_code = k; read_faults = r; write_faults = w }) (record { breaks = b; last_code = k; read_faults = r'; write_faults = w }) left
quiet_cause b k r r' w left e = (cc)

pub ended_cause : (b k r r' w : ℕ) (left left' : Option (List ℕ)) → r' ≡ r → IsAtEnd left → left' ≡ left → HasCause (Some done.Ended) (record { breaks = b; last_code = k; read_faults = r; write_faults = w }) (record { breaks = b; last_code = k; read_faults = r'; write_faults = w }) left'
ended_cause b k r r' w left left' e at_end same = (quiet_cause b k r r' w left e, subst IsAtEnd (sym same) at_end)

pub failed_cause : (b k r r' w : ℕ) (left : Option (List ℕ)) → r' ≡ one_more r → HasCause (Some done.ReadFailed) (record { breaks = b; last_code = k; read_faults = r; write_faults = w }) (record { breaks = b; last_code = k; read_faults = r'; write_faults = w }) left
failed_cause b k r r' w left e = (cc)

-- ---- what one turn answered, by its answer

pub out_as : (link : ℕ) (a b : Report) (s t : Option (List ℕ)) (r r' : Option LinkDone) → r ≡ r' → GoesOut link a b s t r → GoesOut link a b s t r'
out_as link a b s t r r' is p = subst (GoesOut link a b s t) is p

pub out_after : (link : ℕ) (a b c : Report) (s t u : Option (List ℕ)) (r end : Option LinkDone) → r ≡ None → GoesOut link a b s t r → GoesOut link b c t u end → GoesOut link a c s u end
out_after link a b c s t u r end is p q = out_then link a b c s t u end (out_as link a b s t r None is p) q

pub cause_as : (r r' : Option LinkDone) (a b : CountsSeen) (l : Option (List ℕ)) → r ≡ r' → HasCause r a b l → HasCause r' a b l
cause_as r r' a b l is p = subst (λ (x : Option LinkDone). HasCause x a b l) is p

pub cause_after : (r end : Option LinkDone) (a b c : CountsSeen) (l m : Option (List ℕ)) → r ≡ None → HasCause r a b l → HasCause end b c m → HasCause end a c m
cause_after r end a b c l m is p q = cause_then end a b c l m (cause_as r None a b l is p) q

pub cause_next : (r end : Option LinkDone) (a b c : CountsSeen) (m : Option (List ℕ)) → r ≡ end → b ≡ a → HasCause r b c m → HasCause end a c m
cause_next r end a b c m is same p = subst (λ (x : CountsSeen). HasCause end x c m) same (cause_as r end b c m is p)

-- before the first round
none_not_written : (end : Option LinkDone) → end ≡ None → end ≡ Some done.WriteFailed → ⊥
none_not_written end is e = (cc)

pub out_nothing : (link : ℕ) (a : Report) (taken : Option (List ℕ)) → GoesOut link a a taken taken None
out_nothing link a taken = out_none link a a taken taken None (λ other. refl) refl (none_not_written None refl)

pub in_nothing : (link : ℕ) (a : Report) (left : Option (List ℕ)) → GoesIn link a a left left
in_nothing link a left = in_none link a a left left (λ other. refl) refl

-- a turn in which the link did not end
pub goes_on : (t : Turned) → (t ≡ turned.More) ⊎ (t ≡ turned.Quiet) → over_of t ≡ None
goes_on t h =
    elim h [
      | inl e ↦ ap over_of e
      | inr e ↦ ap over_of e
    ]
