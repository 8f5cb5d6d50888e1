-- What the events of a call leave of a handle's other entries.
use Rattle.std.proofs.Common.{◌≡◌, true, Result, Ok, Err, List, [], ◌∷◌, ◌++◌, refl, ap, ◌∙◌, append-nil}
use Rattle.std.specs.Prelude.{not}
use Rattle.std.proofs.lemmas.List.Elements.{filter-append}
use Rattle.grpc_base.specs.Posts.{AddsEntry, Posts}
use Rattle.grpc_base.specs.declared.event.Entry.{Entry}
use Rattle.grpc_base.specs.declared.event.Event.{Event}
use Rattle.grpc_base.specs.declared.event.Reply.{Reply}
use Rattle.grpc_base.specs.declared.post.PostError.{PostError}
use Rattle.client_calls.specs.Entries.{is_step, others_in}

-- one that is kept is no step of a call
no_other : (e : Entry) → is_step e.event ≡ true → others_in (e ∷ []) ≡ []
no_other e is = rw is refl

-- an entry of a call is none of the others
pub others_added : (before after : List Entry) (e : Event) (r : Reply) → AddsEntry before after e r → is_step e ≡ true → others_in after ≡ others_in before
others_added before after e r adds is =
    ap others_in adds.1
    ∙ filter-append (λ (x : Entry). not (is_step x.event)) before (adds.0 ∷ [])
    ∙ ap (λ (l : List Entry). others_in before ++ l) (no_other adds.0 (ap is_step adds.2 ∙ is))
    ∙ append-nil (others_in before)

-- a post of such an event adds none
pub others_posted : (before after : List Entry) (e : Event) (came : Result Reply PostError) → Posts before after e came → is_step e ≡ true → others_in after ≡ others_in before
others_posted before after e (Ok r) posts is = others_added before after e r posts.0 is
others_posted before after e (Err error) posts is = ap others_in posts.0
