-- Bytes of messages, in the steps in which the plain programs compute them.
use Rattle.std.proofs.Common.{◌≡◌, ap, sym, ◌∙◌, ℕ, List, ◌∷◌, ◌++◌, append_assoc}
use Rattle.std.proofs.lemmas.List.Concat.{flat_map-cons}
use Rattle.grpc_frame.specs.Messages.{framed, framed_all}

-- a message after some bytes, and others after it
pub framed_more : (bytes message : List ℕ) (messages : List (List ℕ)) → (bytes ++ framed message) ++ framed_all messages ≡ bytes ++ framed_all (message ∷ messages)
framed_more bytes message messages =
    append_assoc bytes (framed message) (framed_all messages)
    ∙ ap (λ (xs : List ℕ). bytes ++ xs) (sym (flat_map-cons framed message messages))
