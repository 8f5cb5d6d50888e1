-- What the entries of a line come to.
use Rattle.std.proofs.Common.{◌≡◌, ℕ, false, Some, None, All, List, [], ◌∷◌, ◌++◌, inl, inr, refl, sym, ap, subst, ◌∙◌, append_assoc, append-nil}
use Rattle.std.proofs.lemmas.List.Elements.{All-append, All-cons, All-nil}
use Rattle.grpc_base.specs.Posts.{AddsEntry}
use Rattle.grpc_base.specs.declared.event.Entry.{Entry}
use Rattle.grpc_base.specs.declared.event.Event.TheVariants as event
use Rattle.grpc_base.specs.declared.event.Reply.{Reply}
use Rattle.grpc_base.specs.declared.script.CallLine.{CallLine}
use Rattle.live_pump.specs.Calls.{GoesOn, GoesOnPrefix, IsTake, LinePrefix, LinesPrefix, MakesLine, MakesLines, SendsAll, SendsPrefix, TakesPrefix, call_of, ends_takes}

-- takes that are not the end, and one more
pub takes_more : (call : ℕ) (start now next takes : List Entry) (r : Reply) → All (IsTake call) takes → now ≡ start ++ takes → AddsEntry now next (event.Take call) r → false ≡ ends_takes r
    → (more : List Entry) × All (IsTake call) more × (next ≡ start ++ more)
takes_more call start now next takes r each made adds goes_on =
    let e : Entry = adds.0 in
    let taken : IsTake call e = record { event_is = adds.2; goes_on = ap ends_takes adds.3 ∙ sym goes_on } in (
      takes ++ e ∷ [],
      All-append (IsTake call) takes (e ∷ []) each (All-cons (IsTake call) e [] taken (All-nil (IsTake call))),
      adds.1 ∙ ap (λ (l : List Entry). l ++ e ∷ []) made ∙ append_assoc start takes (e ∷ []),
    )

pub line_refused : (line : CallLine) (before after : List Entry) (r : Reply) → AddsEntry before after (event.Begin line.request) r → None ≡ call_of r → MakesLine line before after
line_refused line before after r begin refused = inl (record { r = r; refused = sym refused; begin = begin })

pub line_made : (line : CallLine) (call : ℕ) (before begun after : List Entry) (r : Reply) → AddsEntry before begun (event.Begin line.request) r → Some call ≡ call_of r → GoesOn line call begun after → MakesLine line before after
line_made line call before begun after r begin number goes_on = inr (record { call = call; begun = begun; r = r; number = sym number; begin = begin; goes_on = goes_on })

-- a Send more
pub sends_more : (call : ℕ) (done : List (List ℕ)) (message : List ℕ) (start here next : List Entry) (r : Reply) → SendsAll call done start here → AddsEntry here next (event.Send call message) r → SendsAll call (done ++ message ∷ []) start next
sends_more call [] message start here next r so_far adds = (next, r, subst (λ (l : List Entry). AddsEntry l next (event.Send call message) r) so_far adds, refl)
sends_more call (first ∷ done) message start here next r so_far adds = (so_far.0, so_far.1, so_far.2, sends_more call done message so_far.0 here next r so_far.3 adds)

-- a line more
pub lines_more : (done : List CallLine) (line : CallLine) (start here next : List Entry) → MakesLines done start here → MakesLine line here next → MakesLines (done ++ line ∷ []) start next
lines_more [] line start here next so_far made = (next, subst (λ (l : List Entry). MakesLine line l next) so_far made, refl)
lines_more (first ∷ done) line start here next so_far made = (so_far.0, so_far.1, lines_more done line so_far.0 here next so_far.2 made)

-- what is done, the next, and what is left
pub parts_more : {X : Type 0} (all done rest later : List X) (x : X) → all ≡ done ++ rest → rest ≡ x ∷ later → all ≡ (done ++ x ∷ []) ++ later
parts_more {X} all done rest later x parts next = parts ∙ ap (λ (l : List X). done ++ l) next ∙ sym (append_assoc done (x ∷ []) later)

pub line_begun : (line : CallLine) (call : ℕ) (before begun after : List Entry) (r : Reply) → AddsEntry before begun (event.Begin line.request) r → Some call ≡ call_of r → GoesOnPrefix line call begun after → LinePrefix line before after
line_begun line call before begun after r begin number prefix = inr (record { call = call; begun = begun; r = r; number = sym number; begin = begin; goes_on = prefix })

-- a Send failed
pub sends_failed : (call : ℕ) (messages done rest : List (List ℕ)) (start here after : List Entry) → messages ≡ done ++ rest → SendsAll call done start here → after ≡ here → SendsPrefix call messages start after
sends_failed call messages done rest start here after parts so_far same = record { sent = done; unsent = rest; parts = parts; sends = subst (λ (l : List Entry). SendsAll call done start l) (sym same) so_far }

-- the Finish failed
pub finish_failed : (line : CallLine) (call : ℕ) (before sent after : List Entry) → SendsAll call line.messages before sent → after ≡ sent → GoesOnPrefix line call before after
finish_failed line call before sent after sends same = inl (sends_failed call line.messages line.messages [] before sent after (sym (append-nil line.messages)) sends same)

-- a Take failed
pub takes_failed : (line : CallLine) (call : ℕ) (before sent finished after : List Entry) (r : Reply) → SendsAll call line.messages before sent → AddsEntry sent finished (event.Finish call) r → TakesPrefix call finished after → GoesOnPrefix line call before after
takes_failed line call before sent finished after r sends finish takes = inr (record { sent = sent; finished = finished; r = r; sends = sends; finish = finish; takes = takes })

-- a line failed
pub lines_failed : (lines done rest later : List CallLine) (line : CallLine) (start here after : List Entry) → lines ≡ done ++ rest → rest ≡ line ∷ later → MakesLines done start here → LinePrefix line here after → LinesPrefix lines start after
lines_failed lines done rest later line start here after parts next so_far prefix =
    record { whole = done; line = line; later = later; next = here; parts = parts ∙ ap (λ (l : List CallLine). done ++ l) next; makes = so_far; prefix = prefix }

-- nothing is left
pub sends_done : (call : ℕ) (messages done rest : List (List ℕ)) (start here : List Entry) → messages ≡ done ++ rest → rest ≡ [] → SendsAll call done start here → SendsAll call messages start here
sends_done call messages done rest start here parts over so_far =
    subst (λ (l : List (List ℕ)). SendsAll call l start here) (sym (parts ∙ ap (λ (l : List (List ℕ)). done ++ l) over ∙ append-nil done)) so_far

pub lines_done : (lines done rest : List CallLine) (start here : List Entry) → lines ≡ done ++ rest → rest ≡ [] → MakesLines done start here → MakesLines lines start here
lines_done lines done rest start here parts over so_far =
    subst (λ (l : List CallLine). MakesLines l start here) (sym (parts ∙ ap (λ (l : List CallLine). done ++ l) over ∙ append-nil done)) so_far
