-- Sizes of messages, in the steps in which the plain programs compute them.
use Rattle.std.proofs.Common.{◌≡◌, ap, ◌∙◌, ℕ, ◌+◌, List, ◌∷◌, length, length-append, arith}
use Rattle.std.proofs.lemmas.List.Concat.{flat_map-cons}
use Rattle.grpc_frame.specs.Messages.{framed, framed_all}

-- a message with its prefix
pub framed_size_one : (message : List ℕ) → length (framed message) ≡ length message + 5
framed_size_one message = omega arith

-- one message before others
pub framed_size_of : (message : List ℕ) (messages : List (List ℕ)) → length (framed_all (message ∷ messages)) ≡ length message + 5 + length (framed_all messages)
framed_size_of message messages =
    ap (λ (xs : List ℕ). length xs) (flat_map-cons framed message messages)
    ∙ length-append (framed message) (framed_all messages)
    ∙ ap (λ (n : ℕ). n + length (framed_all messages)) (framed_size_one message)
