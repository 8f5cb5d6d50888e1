-- Messages of a rest and a piece, as the reader finds them.
use Rattle.std.proofs.Common.{◌≡◌, ℕ, ◌+◌, ◌-◌, ◌≤◌, Some, None, List, [], ◌∷◌, ◌++◌, length, take, drop, ap, sym, ◌∙◌, subst, arith, append_assoc, length-drop}
use Rattle.std.proofs.lemmas.List.{take-append-drop, take_all, drop-append-le}
use Rattle.std.proofs.lemmas.List.{drop-drop}
use Rattle.std.proofs.Math.Seq.{take-add, take-append_seam, drop-append_seam}
use Rattle.std.specs.Prelude.{slice_range}
use Rattle.grpc_frame.specs.declared.next.MessageFault.{MessageFault}
use Rattle.grpc_frame.specs.declared.next.NextMessage.{NextMessage}
use Rattle.grpc_frame.specs.declared.next.NextMessage.TheVariants as next
use Rattle.grpc_frame.specs.Messages.{Messages, before, messages_of, next_of}
use Rattle.grpc_frame.specs.Read.{before_all, IsAsFar, kept}
use Rattle.grpc_frame.proofs.MessageLaws.{messages_next, messages_none, messages_fault, whole_stays, whole_is, fault_stays}

-- one message more is before what is left
pub one_more : (limit len at : ℕ) (messages : List (List ℕ)) (bytes : List ℕ) → next_of limit (drop at bytes) ≡ next.Whole len
    → before_all (messages ++ take len (drop 5 (drop at bytes)) ∷ []) (kept (messages_of limit (drop len (drop 5 (drop at bytes))))) ≡ before_all messages (kept (messages_of limit (drop at bytes)))
one_more limit len at messages bytes h =
    let message = take len (drop 5 (drop at bytes)) in
    let afterwards = kept (messages_of limit (drop len (drop 5 (drop at bytes)))) in
    ap (λ (xs : List (List ℕ)). record afterwards { whole = xs }) (append_assoc messages (message ∷ []) afterwards.whole)
    ∙ ap (λ (m : Messages). before_all messages (kept m)) (sym (messages_next limit len (drop at bytes) h))

-- a part and the next part
pub parts : (out middle rest bytes : List ℕ) (p m : ℕ) → out ≡ middle ++ slice_range bytes p (p + m) → middle ≡ rest ++ take p bytes → out ≡ rest ++ take (p + m) bytes
parts out middle rest bytes p m e f =
    let len : p + m - p ≡ m = omega arith in
    e ∙ ap (λ (n : ℕ). middle ++ take n (drop p bytes)) len
    ∙ ap (λ (xs : List ℕ). xs ++ take m (drop p bytes)) f
    ∙ append_assoc rest (take p bytes) (take m (drop p bytes))
    ∙ ap (λ (xs : List ℕ). rest ++ xs) (sym (take-add p m bytes))

pub inside : (limit len at : ℕ) (bytes : List ℕ) → next_of limit (drop at bytes) ≡ next.Whole len → at ≤ length bytes → at + 5 + len ≤ length bytes
inside limit len at bytes h le = omega (arith, (whole_is limit len (drop at bytes) h).there, length-drop at bytes, le)

pub loop_on : (limit len at : ℕ) (messages pushed : List (List ℕ)) (message bytes : List ℕ) → next_of limit (drop at bytes) ≡ next.Whole len
    → message ≡ slice_range bytes (at + 5) (at + 5 + len) → pushed ≡ messages ++ message ∷ []
    → before_all pushed (kept (messages_of limit (drop (at + 5 + len) bytes))) ≡ before_all messages (kept (messages_of limit (drop at bytes)))
loop_on limit len at messages pushed message bytes h e f =
    let size : at + 5 + len - (at + 5) ≡ len = omega arith in
    let there : drop 5 (drop at bytes) ≡ drop (at + 5) bytes = drop-drop 5 at bytes in
    let afterwards : drop len (drop 5 (drop at bytes)) ≡ drop (at + 5 + len) bytes = ap (drop len) there ∙ drop-drop len (at + 5) bytes in
    let text : message ≡ take len (drop 5 (drop at bytes)) = e ∙ ap (λ (n : ℕ). take n (drop (at + 5) bytes)) size ∙ ap (take len) (sym there) in
    ap (λ (xs : List (List ℕ)). before_all xs (kept (messages_of limit (drop (at + 5 + len) bytes)))) (f ∙ ap (λ (xs : List ℕ). messages ++ xs ∷ []) text)
    ∙ ap (λ (xs : List ℕ). before_all (messages ++ take len (drop 5 (drop at bytes)) ∷ []) (kept (messages_of limit xs))) (sym afterwards)
    ∙ one_more limit len at messages bytes h

-- a rest, given bytes of a piece, and the piece after them
rejoin : (rest begun bytes : List ℕ) (taken : ℕ) → begun ≡ rest ++ take taken bytes → begun ++ drop taken bytes ≡ rest ++ bytes
rejoin rest begun bytes taken e =
    ap (λ (xs : List ℕ). xs ++ drop taken bytes) e
    ∙ append_assoc rest (take taken bytes) (drop taken bytes)
    ∙ ap (λ (xs : List ℕ). rest ++ xs) (take-append-drop taken bytes)

pub rest_whole : (limit len taken : ℕ) (rest begun bytes : List ℕ) → begun ≡ rest ++ take taken bytes → next_of limit begun ≡ next.Whole len → length begun ≡ 5 + len
    → before_all (drop 5 begun ∷ []) (kept (messages_of limit (drop taken bytes))) ≡ kept (messages_of limit (rest ++ bytes))
rest_whole limit len taken rest begun bytes e h size =
    let afterwards = drop taken bytes in
    let five : drop 5 (begun ++ afterwards) ≡ drop 5 begun ++ afterwards = drop-append-le 5 begun afterwards (omega (arith, size)) in
    let all : length (drop 5 begun) ≡ len = omega (arith, size, length-drop 5 begun) in
    let message : take len (drop 5 (begun ++ afterwards)) ≡ drop 5 begun =
    ap (take len) five ∙ ap (λ (n : ℕ). take n (drop 5 begun ++ afterwards)) (sym all) ∙ take-append_seam (drop 5 begun) afterwards in
    let left : drop len (drop 5 (begun ++ afterwards)) ≡ afterwards =
    ap (drop len) five ∙ ap (λ (n : ℕ). drop n (drop 5 begun ++ afterwards)) (sym all) ∙ drop-append_seam (drop 5 begun) afterwards in
    ap (λ (xs : List ℕ). before xs (kept (messages_of limit afterwards))) (sym message)
    ∙ ap (λ (xs : List ℕ). before (take len (drop 5 (begun ++ afterwards))) (kept (messages_of limit xs))) (sym left)
    ∙ ap kept (sym (messages_next limit len (begun ++ afterwards) (whole_stays limit len begun afterwards h)))
    ∙ ap (λ (xs : List ℕ). kept (messages_of limit xs)) (rejoin rest begun bytes taken e)

pub rest_fault : (limit taken : ℕ) (f : MessageFault) (rest begun bytes : List ℕ) → begun ≡ rest ++ take taken bytes → next_of limit begun ≡ next.Fault f
    → kept (messages_of limit (rest ++ bytes)) ≡ record { whole = []; rest = []; fault = Some f }
rest_fault limit taken f rest begun bytes e h =
    ap (λ (xs : List ℕ). kept (messages_of limit xs)) (sym (rejoin rest begun bytes taken e))
    ∙ ap kept (messages_fault limit f (begun ++ drop taken bytes) (fault_stays limit f begun (drop taken bytes) h))

-- all that is after a place
pub tail_is : (at : ℕ) (bytes : List ℕ) → take (length bytes - at) (drop at bytes) ≡ drop at bytes
tail_is at bytes = take_all (length bytes - at) (drop at bytes) (omega (arith, length-drop at bytes))

pub whole_size : (r : NextMessage) (len size : ℕ) (all : Type 0) → r ≡ next.Whole len → IsAsFar r size all → size ≡ 5 + len
whole_size r len size all e far = let Far : NextMessage → Type 0 = λ n. IsAsFar n size all in subst Far e far

pub fault_alone : (whole : List (List ℕ)) (rest : List ℕ) (f : MessageFault) (m : Messages) → whole ≡ [] → rest ≡ [] → m ≡ record { whole = []; rest = []; fault = Some f }
    → record { whole = whole; rest = rest; fault = Some f } ≡ m
fault_alone whole rest f m p q e = rw (p, q) (sym e)

pub one_before : (pushed before_ : List (List ℕ)) (message begun : List ℕ) (m n : Messages) → pushed ≡ before_ ++ message ∷ [] → before_ ≡ [] → message ≡ drop 5 begun → before_all (drop 5 begun ∷ []) m ≡ n → before_all pushed m ≡ n
one_before pushed before_ message begun m n p q r e =
    ap (λ (xs : List (List ℕ)). before_all xs m) (p ∙ ap (λ (xs : List (List ℕ)). xs ++ message ∷ []) q ∙ ap (λ (xs : List ℕ). xs ∷ []) r) ∙ e
