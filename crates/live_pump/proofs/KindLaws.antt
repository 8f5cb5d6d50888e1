-- Entries of a kind that are added after one another.
use Rattle.std.proofs.Common.{◌≡◌, List, [], ◌∷◌, ◌++◌, sym, ap, subst, ◌∙◌, append_assoc, append-nil}
use Rattle.std.specs.List.{AllByRecursion}
use Rattle.grpc_base.specs.Posts.{AddsEntry}
use Rattle.grpc_base.specs.declared.event.Entry.{Entry}
use Rattle.grpc_base.specs.declared.event.Event.{Event}
use Rattle.grpc_base.specs.declared.event.Reply.{Reply}
use Rattle.live_pump.specs.Kinds.{AddsOnly}

pub adds_none : (IsOfKind : Event → Type 0) (before after : List Entry) → after ≡ before → AddsOnly IsOfKind before after
adds_none IsOfKind before after same = record { added = []; made = same ∙ sym (append-nil before); each = tt }

pub adds_one : (IsOfKind : Event → Type 0) (e : Event) (before after : List Entry) (r : Reply) → IsOfKind e → AddsEntry before after e r → AddsOnly IsOfKind before after
adds_one IsOfKind e before after r kind adds = record { added = adds.0 ∷ []; made = adds.1; each = (subst IsOfKind (sym adds.2) kind, tt) }

each_append : (P : Entry → Type 0) (xs ys : List Entry) → AllByRecursion P xs → AllByRecursion P ys → AllByRecursion P (xs ++ ys)
each_append P [] ys first later = later
each_append P (x ∷ xs) ys first later = (first.0, each_append P xs ys first.1 later)

pub adds_then : (IsOfKind : Event → Type 0) (a b c : List Entry) → AddsOnly IsOfKind a b → AddsOnly IsOfKind b c → AddsOnly IsOfKind a c
adds_then IsOfKind a b c first later = record {
  added = first.added ++ later.added;
  made = later.made ∙ ap (λ (l : List Entry). l ++ later.added) first.made ∙ append_assoc a first.added later.added;
  each = each_append (λ (e : Entry). IsOfKind e.event) first.added later.added first.each later.each;
}

each_weaker : (P Q : Entry → Type 0) → ((e : Entry) → P e → Q e) → (xs : List Entry) → AllByRecursion P xs → AllByRecursion Q xs
each_weaker P Q leads [] each = tt
each_weaker P Q leads (x ∷ xs) each = (leads x each.0, each_weaker P Q leads xs each.1)

pub adds_weaker : (A B : Event → Type 0) → ((e : Event) → A e → B e) → (before after : List Entry) → AddsOnly A before after → AddsOnly B before after
adds_weaker A B leads before after adds = record {
  added = adds.added;
  made = adds.made;
  each = each_weaker (λ (e : Entry). A e.event) (λ (e : Entry). B e.event) (λ e is. leads e.event is) adds.added adds.each;
}
