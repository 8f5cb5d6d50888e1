-- How replies are spelled, in reports alone: words with one space between. Events are spelled as scripts spell them.
use Rattle.std.specs.Prelude.{ℕ, List, [], ◌∷◌, codes, decimal}
pub use Rattle.script_fields.specs.Spelling.{address_text, words, fields, dash, number_or_dash, lower_digit, upper_digit, hex_digits, hex_or_dash, word_bytes, percent_byte, percent_text, addresses_text, pair_text, meta_text, wait_text, config_hex}
pub use Rattle.service_config.specs.Text.{config_fault_words}
pub use Rattle.script_lines.specs.Spelling.{channel_text, event_words, lines_text, script_of, stamped_text}
use Rattle.grpc_base.specs.declared.event.Reply.{Reply}
use Rattle.grpc_base.specs.declared.event.Reply.TheVariants as reply
use Rattle.grpc_base.specs.declared.event.EndCause.{EndCause}
use Rattle.grpc_base.specs.declared.event.EndCause.TheVariants as ending
use Rattle.grpc_base.specs.Codes.{code_number}
use Rattle.grpc_base.specs.Refusals.{refusal_number}

-- why a call ended
abbrev pub cause_text : EndCause → List ℕ
cause_text ending.Row = codes "row"
cause_text ending.Deadline = codes "deadline"
cause_text ending.Cancelled = codes "cancelled"
cause_text ending.Request = codes "request"
cause_text ending.Response = codes "response"
cause_text ending.NoConfig = codes "noconfig"
cause_text ending.Shut = codes "shut"

-- a reply: its name and its fields
abbrev pub reply_words : Reply → List (List ℕ)
reply_words (reply.Call call) = codes "call" ∷ decimal call ∷ []
reply_words reply.Done = codes "done" ∷ []
reply_words (reply.Full held) = codes "full" ∷ decimal held ∷ []
reply_words (reply.Head meta) = codes "head" ∷ meta_text meta ∷ []
reply_words (reply.Message octets) = codes "message" ∷ hex_or_dash octets ∷ []
reply_words (reply.End code text meta cause) = codes "end" ∷ decimal (code_number code) ∷ percent_text text ∷ meta_text meta ∷ cause_text cause ∷ []
reply_words reply.NotYet = codes "notyet" ∷ []
reply_words (reply.BadConfig f) = codes "badconfig" ∷ config_fault_words f
reply_words (reply.Dial sub address until) = codes "dial" ∷ decimal sub ∷ address_text address ∷ decimal until ∷ []
reply_words (reply.Link link) = codes "link" ∷ decimal link ∷ []
reply_words (reply.Octets octets) = codes "octets" ∷ hex_or_dash octets ∷ []
reply_words (reply.Refused refusal) = codes "refused" ∷ decimal (refusal_number refusal) ∷ []
