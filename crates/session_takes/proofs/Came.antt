-- What a call has before and after an action, by what came for it and by its end.
use Rattle.attempt_ledger.specs.declared.ledger.CallEnd.{CallEnd}
use Rattle.attempt_ledger.specs.declared.row.RowEnd.{RowEnd}
use Rattle.call_actions.specs.TakeActions.Serves.{came}
use Rattle.grpc_base.specs.declared.event.EndCause.{EndCause}
use Rattle.grpc_base.specs.declared.event.Reply.{Reply}
use Rattle.session_actions.specs.Attempts.{commitment}
use Rattle.session_actions.specs.Deliveries.{available, end_by_channel, end_by_row, end_item, is_by_row}
use Rattle.session_actions.specs.declared.attempt.Attempt.{Attempt}
use Rattle.session_actions.specs.declared.call.Call.{Call}
use Rattle.session_actions.specs.declared.seen.Seen.{Seen}
use Rattle.session_takes.proofs.Prefixes.{IsPrefix, prefix_more, prefix_none, prefix_same}
use Rattle.session_takes.proofs.Pairs.{MovesIf, items}
use Rattle.std.proofs.Common.{Bool, List, None, Option, Some, [], ap, append-nil, false, if◌then◌else◌, is_some, refl, subst, sym, true, ◌++◌, ◌∙◌, ◌∷◌, ◌≡◌}
use Rattle.std.specs.Option.{option_map, option_map_or}
use Rattle.std.specs.Prelude.{option_and_then, option_to_list}

abbrev pub ended_of : Call → Seen → Option RowEnd
ended_of c s = option_and_then (λ k. k.row.ended) (commitment c s)

-- a call that ended by its attempt is committed to one that ended
abbrev pub RowEnded : Seen → Call → Type 0
RowEnded s c = (e : CallEnd) → c.end ≡ Some e → is_by_row e.cause ≡ true → is_some (ended_of c s) ≡ true

pub record Step (s t : Seen) (c d : Call) : Type 0 where
  pub prefix : c.end ≡ None → IsPrefix (came c s) (came d t)
  pub stays : is_some c.end ≡ true → d.end ≡ c.end
  pub still : is_some c.end ≡ true → came d t ≡ came c s
  pub ended : is_some c.end ≡ true → is_some (ended_of c s) ≡ true → ended_of d t ≡ ended_of c s
  pub by_row : c.end ≡ None → RowEnded t d

abbrev end_items : Call → Seen → Option CallEnd → List Reply
end_items c s o = option_to_list (option_map (λ (e : CallEnd). end_item c s e.cause) o)

end_by : (c d : Call) (s t : Seen) (why : EndCause) (b : Bool) → is_by_row why ≡ b → (b ≡ true → ended_of d t ≡ ended_of c s)
    → (if b then option_map_or end_by_row (ended_of d t) (end_by_channel why) else end_by_channel why)
    ≡ (if b then option_map_or end_by_row (ended_of c s) (end_by_channel why) else end_by_channel why)
end_by c d s t why true is same = ap (λ (o : Option RowEnd). option_map_or end_by_row o (end_by_channel why)) (same refl)
end_by c d s t why false is same = refl

end_same : (c d : Call) (s t : Seen) (why : EndCause) → (is_by_row why ≡ true → ended_of d t ≡ ended_of c s) → end_item d t why ≡ end_item c s why
end_same c d s t why same = end_by c d s t why (is_by_row why) refl (λ e. same e)

prefix_by : (c d : Call) (s t : Seen) (o : Option CallEnd) → c.end ≡ o → RowEnded s c → Step s t c d → IsPrefix (available c s) (available d t)
prefix_by c d s t None e row k =
    let none : available c s ≡ came c s = ap (λ (o : Option CallEnd). came c s ++ end_items c s o) e ∙ append-nil (came c s) in
    subst (λ (l : List Reply). IsPrefix l (available d t)) (sym none) (prefix_more (came c s) (came d t) (end_items d t d.end) (k.prefix e))
prefix_by c d s t (Some x) e row k =
    let closed : is_some c.end ≡ true = ap (λ (o : Option CallEnd). is_some o) e in
    let mine : available c s ≡ came c s ++ end_item c s x.cause ∷ [] = ap (λ (o : Option CallEnd). came c s ++ end_items c s o) e in
    let theirs : available d t ≡ came d t ++ end_item d t x.cause ∷ [] = ap (λ (o : Option CallEnd). came d t ++ end_items d t o) (k.stays closed ∙ e) in
    let one : end_item d t x.cause ≡ end_item c s x.cause = end_same c d s t x.cause (λ by. k.ended closed (row x e by)) in
    prefix_same (available c s) (available d t)
    (theirs ∙ ap (λ (l : List Reply). l ++ end_item d t x.cause ∷ []) (k.still closed) ∙ ap (λ (r : Reply). came c s ++ r ∷ []) one ∙ sym mine)

pub step_prefix : (c d : Call) (s t : Seen) → RowEnded s c → Step s t c d → IsPrefix (available c s) (available d t)
step_prefix c d s t row k = prefix_by c d s t c.end refl row k

row_by : (c d : Call) (s t : Seen) (o : Option CallEnd) → c.end ≡ o → RowEnded s c → Step s t c d → RowEnded t d
row_by c d s t None e row k = k.by_row e
row_by c d s t (Some x) e row k = λ y there by.
    (let closed : is_some c.end ≡ true = ap (λ (o : Option CallEnd). is_some o) e in
    let was : is_some (ended_of c s) ≡ true = row y (sym (k.stays closed) ∙ there) by in
    ap (λ (o : Option RowEnd). is_some o) (k.ended closed was) ∙ was)

pub step_row : (c d : Call) (s t : Seen) → RowEnded s c → Step s t c d → RowEnded t d
step_row c d s t row k = row_by c d s t c.end refl row k

-- by the attempts to which it is committed
came_by : (closed : Bool) (s t : Seen) (o q : Option Attempt) → MovesIf closed s t o q
    → IsPrefix (option_map_or (λ (k : Attempt). items k s) o []) (option_map_or (λ (k : Attempt). items k t) q [])
came_by closed s t None None m = prefix_none []
came_by closed s t (Some a) (Some b) m = m.prefix
came_by closed s t None (Some b) m = absurd m
came_by closed s t (Some a) None m = absurd m

still_by : (closed : Bool) (s t : Seen) (o q : Option Attempt) → MovesIf closed s t o q → closed ≡ true
    → option_map_or (λ (k : Attempt). items k t) q [] ≡ option_map_or (λ (k : Attempt). items k s) o []
still_by closed s t None None m e = refl
still_by closed s t (Some a) (Some b) m e = m.still e
still_by closed s t None (Some b) m e = absurd m
still_by closed s t (Some a) None m e = absurd m

ended_by : (closed : Bool) (s t : Seen) (o q : Option Attempt) → MovesIf closed s t o q → is_some (option_and_then (λ (k : Attempt). k.row.ended) o) ≡ true
    → option_and_then (λ (k : Attempt). k.row.ended) q ≡ option_and_then (λ (k : Attempt). k.row.ended) o
ended_by closed s t None None m e = refl
ended_by closed s t (Some a) (Some b) m e = m.ended e
ended_by closed s t None (Some b) m e = absurd m
ended_by closed s t (Some a) None m e = absurd m

pub row_open : (s : Seen) (c : Call) → c.end ≡ None → RowEnded s c
row_open s c none e there by = absurd (let bad : ◌≡◌ {A = Option CallEnd} None (Some e) = sym none ∙ there in (cc))

pub step_moves : (c d : Call) (s t : Seen) → d.end ≡ c.end → MovesIf (is_some c.end) s t (commitment c s) (commitment d t) → Step s t c d
step_moves c d s t end m = record {
  prefix = λ e. came_by (is_some c.end) s t (commitment c s) (commitment d t) m;
  stays = λ e. end;
  still = λ e. still_by (is_some c.end) s t (commitment c s) (commitment d t) m e;
  ended = λ e is. ended_by (is_some c.end) s t (commitment c s) (commitment d t) m is;
  by_row = λ e. row_open t d (end ∙ e);
}

-- nothing is different
same_if : (closed : Bool) (s t : Seen) (o : Option Attempt) → ((k : Attempt) → o ≡ Some k → items k t ≡ items k s) → MovesIf closed s t o o
same_if closed s t None each = tt
same_if closed s t (Some a) each = record {
  prefix = prefix_same (items a s) (items a t) (each a refl);
  still = λ e. each a refl;
  ended = λ e. refl;
}

pub same_moves : (closed : Bool) (s t : Seen) (o q : Option Attempt) → q ≡ o → ((k : Attempt) → o ≡ Some k → items k t ≡ items k s) → MovesIf closed s t o q
same_moves closed s t o q e each = subst (λ (p : Option Attempt). MovesIf closed s t o p) (sym e) (same_if closed s t o each)
