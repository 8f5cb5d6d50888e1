-- The response on a stream, as all that its link reported says: a head or none, the bytes of its messages, and an end or
-- none (gRPC over HTTP/2, "Responses").
use Rattle.std.specs.Prelude.{ℕ, Bool, true, false, Option, Some, None, List, [], ◌∷◌, ◌++◌, ◌&&◌, ◌||◌, not, length, drop, map, is_none, is_some, if◌then◌else◌}
use Rattle.grpc_base.specs.declared.code.Code.TheVariants as code
use Rattle.grpc_base.specs.declared.fields.Field.{Field}
use Rattle.attempt_ledger.specs.declared.news.EndNews.{EndNews}
use Rattle.attempt_ledger.specs.declared.news.News.{News}
use Rattle.attempt_ledger.specs.declared.news.News.TheVariants as news
use Rattle.attempt_ledger.specs.declared.row.RowCause.TheVariants as cause
use Rattle.grpc_frame.specs.declared.next.MessageFault.{MessageFault}
use Rattle.grpc_frame.specs.declared.next.MessageFault.TheVariants as fault
use Rattle.grpc_frame.specs.Messages.{messages_of}
use Rattle.grpc_frame.specs.Reader.{is_whole, reader_of}
use Rattle.grpc_meta.specs.ResponseFields.{shown_of}
use Rattle.h2_link.specs.declared.news.LinkNews.{LinkNews}
use Rattle.h2_link.specs.declared.news.LinkNews.TheVariants as link
use Rattle.h2_link.specs.Status.{http_status, is_interim}
use Rattle.grpc_link.specs.Ends.{end_without_block, framing_end, http_end, is_head, is_ok, reset_end, status_end, unseen_end}

-- what came on a stream
pub record Response : Type 0 where
  -- whether the request's HEADERS were sent, which open the stream
  pub opened : Bool
  -- the metadata of its head
  pub head : Option (List Field)
  -- the bytes of its messages
  pub data_ : List ℕ
  -- the bytes of the link up to the frame that reports a message above the limit
  pub large : Option ℕ
  pub end : Option EndNews

-- nothing came yet
abbrev pub no_response : Response
no_response = record { opened = false; head = None; data_ = []; large = None; end = None }

-- nothing more is read of a response that has an end or a message above the limit
abbrev pub is_over : Response → Bool
is_over r = is_some r.end || is_some r.large

-- the end that a header list makes in the place of the head: an interim response makes none, nor does the head
abbrev pub end_before_head : List Field → Bool → ℕ → Option EndNews
end_before_head fields ends seen =
    if is_interim (http_status fields) then (if ends then Some (framing_end ends fields seen) else None)
    else if ends then Some (status_end fields seen)
    else if is_head fields then None
    else if is_none (http_status fields) then Some (framing_end ends fields seen)
    else Some (http_end fields seen)

-- that of trailers: status OK is none for a response whose last message is cut off
abbrev pub trailers_end : Bool → List Field → ℕ → EndNews
trailers_end whole fields seen =
    let end = status_end fields seen in
    if is_ok end.code && not whole then framing_end true fields seen else end

abbrev pub end_after_head : Bool → List Field → Bool → ℕ → Option EndNews
end_after_head whole fields ends seen = Some (if ends then trailers_end whole fields seen else framing_end ends fields seen)

-- that of a header list, where a head came or not and all messages are whole or not
abbrev pub headers_end : Bool → Bool → List Field → Bool → ℕ → Option EndNews
headers_end has_head whole fields ends seen =
    if has_head then end_after_head whole fields ends seen else end_before_head fields ends seen

-- whether a header list that makes no end is the head
abbrev pub comes_head : List Field → Bool
comes_head fields = not (is_interim (http_status fields))

-- the end that DATA makes: by a message with a bad flag, or by END_STREAM, which trailers have to bring
abbrev pub data_end : Option MessageFault → Bool → ℕ → Option EndNews
data_end (Some fault.BadFlag) ends seen = Some (end_without_block code.Internal cause.Framing false seen)
data_end (Some (fault.TooLarge len)) ends seen = None
data_end None ends seen = if ends then Some (end_without_block code.Unknown cause.Http false seen) else None

-- a message above the limit is reported as soon as its length is there
abbrev pub data_large : Option MessageFault → ℕ → Option ℕ
data_large (Some (fault.TooLarge len)) seen = Some seen
data_large _ seen = None

abbrev pub with_headers : ℕ → Response → List Field → Bool → ℕ → Response
with_headers limit r fields ends seen =
    let end = headers_end (is_some r.head) (is_whole (reader_of limit r.data_)) fields ends seen in
    record r { end = end; head = if is_none end && comes_head fields then Some (shown_of fields) else r.head }

abbrev pub with_data : ℕ → Response → List ℕ → Bool → ℕ → Response
with_data limit r bytes ends seen =
    let flaw = (messages_of limit (r.data_ ++ bytes)).fault in
    record r { data_ = r.data_ ++ bytes; end = data_end flaw ends seen; large = data_large flaw seen }

-- the response with one thing more that the link reports of its stream
abbrev pub with_news : ℕ → Response → LinkNews → Response
with_news limit r (link.Fields tag fields ends seen) = with_headers limit r fields ends seen
with_news limit r (link.Data tag bytes ends seen) = with_data limit r bytes ends seen
with_news limit r (link.Reset tag number seen) = record r { end = Some (reset_end (is_some r.head) number seen) }
with_news limit r (link.Fault tag number seen) = record r { end = Some (end_without_block code.Internal cause.Framing false seen) }
with_news limit r (link.Unseen tag seen) = record r { end = Some (unseen_end r.opened seen) }
with_news limit r _ = r

-- the response with all that the link reports of its stream, up to its end
abbrev pub handled : ℕ → Response → LinkNews → Response
handled limit r n = if is_over r then r else with_news limit r n

-- how many of the link's bytes news name
abbrev pub seen_by : LinkNews → ℕ
seen_by (link.Fields tag fields ends seen) = seen
seen_by (link.Data tag bytes ends seen) = seen
seen_by (link.Reset tag number seen) = seen
seen_by (link.Fault tag number seen) = seen
seen_by (link.Unseen tag seen) = seen
seen_by _ = 0

-- what a response gained: its head, its further messages, a message above the limit, its end
abbrev pub head_gained : ℕ → ℕ → Option (List Field) → Option (List Field) → List News
head_gained tag seen None (Some meta) = news.Head tag meta seen ∷ []
head_gained tag seen _ _ = []

abbrev pub large_gained : ℕ → Option ℕ → List News
large_gained tag (Some seen) = news.TooLarge tag seen ∷ []
large_gained tag None = []

abbrev pub end_gained : ℕ → Option EndNews → List News
end_gained tag (Some end) = news.Ended tag end ∷ []
end_gained tag None = []

abbrev pub message_news : ℕ → ℕ → List ℕ → News
message_news tag seen message = news.Message tag message seen

abbrev pub messages_gained : ℕ → ℕ → List (List ℕ) → List (List ℕ) → List News
messages_gained tag seen before after = map (message_news tag seen) (drop (length before) after)

-- the news of one thing that the link reported of a stream, over whose response that was not over
abbrev pub gained : ℕ → ℕ → ℕ → Response → Response → List News
gained limit tag seen r s =
    head_gained tag seen r.head s.head
    ++ messages_gained tag seen (messages_of limit r.data_).whole (messages_of limit s.data_).whole
    ++ large_gained tag s.large ++ end_gained tag s.end
