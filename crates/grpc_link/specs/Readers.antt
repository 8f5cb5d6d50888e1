-- What a reader of one response keeps of it, and what it makes of the link's news.
use Rattle.std.specs.Prelude.{ℕ, Bool, true, false, Option, Some, None, List, [], ◌∷◌, ◌++◌, ◌||◌, map, is_some, if◌then◌else◌}
use Rattle.grpc_base.specs.declared.code.Code.TheVariants as code
use Rattle.grpc_base.specs.declared.fields.Field.{Field}
use Rattle.attempt_ledger.specs.declared.news.EndNews.{EndNews}
use Rattle.attempt_ledger.specs.declared.news.News.{News}
use Rattle.attempt_ledger.specs.declared.news.News.TheVariants as news
use Rattle.attempt_ledger.specs.declared.row.RowCause.TheVariants as cause
use Rattle.grpc_frame.specs.Reader as frame
use Rattle.grpc_frame.specs.Reader.{given, is_whole, reader_of}
use Rattle.grpc_meta.specs.ResponseFields.{shown_of}
use Rattle.h2_link.specs.declared.news.LinkNews.{LinkNews}
use Rattle.h2_link.specs.declared.news.LinkNews.TheVariants as link
use Rattle.grpc_link.specs.Ends.{end_without_block, reset_end, unseen_end}
use Rattle.grpc_link.specs.Response.{Response, comes_head, data_end, data_large, end_gained, headers_end, is_over, large_gained, message_news}

-- a reader of one response: no byte of a message that was reported is kept
pub record ReaderSeen : Type 0 where
  -- whether the request's HEADERS were sent
  pub opened : Bool
  -- whether the head came
  pub head : Bool
  -- whether nothing more is read
  pub over : Bool
  pub messages : frame.ReaderSeen

-- the reader of a response
abbrev pub reader_for : ℕ → Response → ReaderSeen
reader_for limit r = record { opened = r.opened; head = is_some r.head; over = is_over r; messages = reader_of limit r.data_ }

pub record Stepped : Type 0 where
  pub reader : ReaderSeen
  pub news : List News

abbrev pub ended : ReaderSeen → ℕ → EndNews → Stepped
ended r tag end = record { reader = record r { over = true }; news = news.Ended tag end ∷ [] }

abbrev pub headers_by : ReaderSeen → ℕ → List Field → ℕ → Option EndNews → Stepped
headers_by r tag fields seen (Some end) = ended r tag end
headers_by r tag fields seen None =
    if comes_head fields then record { reader = record r { head = true }; news = news.Head tag (shown_of fields) seen ∷ [] }
    else record { reader = r; news = [] }

abbrev pub data_by : ReaderSeen → ℕ → frame.Given → Bool → ℕ → Stepped
data_by r tag g ends seen = record {
  reader = record r { over = is_some (data_end g.fault ends seen) || is_some (data_large g.fault seen); messages = g.reader };
  news = map (message_news tag seen) g.messages ++ large_gained tag (data_large g.fault seen) ++ end_gained tag (data_end g.fault ends seen);
}

abbrev pub read_on : ReaderSeen → ℕ → LinkNews → Stepped
read_on r tag (link.Fields t fields ends seen) = headers_by r tag fields seen (headers_end r.head (is_whole r.messages) fields ends seen)
read_on r tag (link.Data t bytes ends seen) = data_by r tag (given r.messages bytes) ends seen
read_on r tag (link.Reset t number seen) = ended r tag (reset_end r.head number seen)
read_on r tag (link.Fault t number seen) = ended r tag (end_without_block code.Internal cause.Framing false seen)
read_on r tag (link.Unseen t seen) = ended r tag (unseen_end r.opened seen)
read_on r tag _ = record { reader = r; news = [] }

-- what a reader makes of news of its tag
abbrev pub stepped : ReaderSeen → ℕ → LinkNews → Stepped
stepped r tag n = if r.over then record { reader = r; news = [] } else read_on r tag n
