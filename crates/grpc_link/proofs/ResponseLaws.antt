-- A reader reports what the response gains.
use Rattle.std.proofs.Common.{◌≡◌, ℕ, Bool, true, false, Option, Some, None, List, [], ◌++◌, length, drop, refl, ap, sym, ◌∙◌, inl, inr}
use Rattle.std.proofs.lemmas.Bool.{cases_Bool}
use Rattle.std.proofs.Math.Seq.{drop-append_seam, drop-length}
use Rattle.std.specs.Prelude.{◌&&◌, ◌||◌, if◌then◌else◌, map, is_none, is_some}
use Rattle.grpc_base.specs.declared.fields.Field.{Field}
use Rattle.attempt_ledger.specs.declared.news.EndNews.{EndNews}
use Rattle.grpc_frame.specs.declared.next.MessageFault.{MessageFault}
use Rattle.grpc_frame.specs.Messages.{messages_of}
use Rattle.grpc_frame.specs.Reader as frame
use Rattle.grpc_frame.specs.Reader.{given, is_whole, reader_of}
use Rattle.grpc_frame.proofs.MessageLaws.{pieces_fault, pieces_messages, pieces_reader}
use Rattle.grpc_meta.specs.ResponseFields.{shown_of}
use Rattle.h2_link.specs.declared.news.LinkNews.{LinkNews}
use Rattle.h2_link.specs.declared.news.LinkNews.TheVariants as link
use Rattle.grpc_link.specs.Readers.{ReaderSeen, headers_by, read_on, reader_for, stepped}
use Rattle.grpc_link.specs.Response.{Response, comes_head, data_end, data_large, end_gained, gained, head_gained, headers_end, handled, is_over, large_gained, message_news, messages_gained, seen_by, with_news}

-- a response that is not over
abbrev pub fresh : Bool → Option (List Field) → List ℕ → Response
fresh opened head bytes = record { opened = opened; head = head; data_ = bytes; large = None; end = None }

none_of : {A : Type 0} (o : Option A) → is_some o ≡ false → o ≡ None
none_of None h = refl
none_of (Some x) h = absurd (cc)

neither : (a b : Bool) → (a || b) ≡ false → (a ≡ false) × (b ≡ false)
neither false false h = (refl, refl)
neither false true h = absurd (cc)
neither true b h = absurd (cc)

is_fresh : (r : Response) → is_over r ≡ false → r ≡ fresh r.opened r.head r.data_
is_fresh r h =
    let parts = neither (is_some r.end) (is_some r.large) h in
    ap (λ (e : Option EndNews). record r { end = e }) (none_of r.end parts.0)
    ∙ ap (λ (l : Option ℕ). record r { end = None; large = l }) (none_of r.large parts.1)

-- no message more
no_message : (tag seen : ℕ) (whole : List (List ℕ)) → messages_gained tag seen whole whole ≡ []
no_message tag seen whole = ap (map (message_news tag seen)) (drop-length whole)

no_head : (tag seen : ℕ) (head : Option (List Field)) → head_gained tag seen head head ≡ []
no_head tag seen None = refl
no_head tag seen (Some meta) = refl

-- a header list in the place of the head
first_list : (r : ReaderSeen) (tag seen : ℕ) (fields : List Field) (whole : List (List ℕ)) (o : Option EndNews) →
    (headers_by r tag fields seen o).news
    ≡ head_gained tag seen None (if is_none o && comes_head fields then Some (shown_of fields) else None) ++ messages_gained tag seen whole whole ++ large_gained tag None ++ end_gained tag o
first_list r tag seen fields whole (Some end) = rw (no_message tag seen whole) refl
first_list r tag seen fields whole None =
    elim (cases_Bool (comes_head fields)) [
      | inl heads ↦ rw (heads, no_message tag seen whole) refl
      | inr interim ↦ rw (interim, no_message tag seen whole) refl
    ]

later_list : (tag seen : ℕ) (head : List Field) (after : Option (List Field)) (whole : List (List ℕ)) (end : EndNews) →
    end_gained tag (Some end) ≡ head_gained tag seen (Some head) after ++ messages_gained tag seen whole whole ++ large_gained tag None ++ end_gained tag (Some end)
later_list tag seen head after whole end = rw (no_message tag seen whole) refl

headers_news : (limit tag t seen : ℕ) (opened : Bool) (head : Option (List Field)) (bytes : List ℕ) (fields : List Field) (ends : Bool) →
    (read_on (reader_for limit (fresh opened head bytes)) tag (link.Fields t fields ends seen)).news
    ≡ gained limit tag seen (fresh opened head bytes) (with_news limit (fresh opened head bytes) (link.Fields t fields ends seen))
headers_news limit tag t seen opened None bytes fields ends =
    first_list (reader_for limit (fresh opened None bytes)) tag seen fields (messages_of limit bytes).whole (headers_end false (is_whole (reader_of limit bytes)) fields ends seen)
headers_news limit tag t seen opened (Some head) bytes fields ends =
    later_list tag seen head (Some head) (messages_of limit bytes).whole _

-- DATA
data_news : (tag seen : ℕ) (head : Option (List Field)) (ends : Bool) (before_ after more : List (List ℕ)) (f g : Option MessageFault) → after ≡ before_ ++ more → f ≡ g →
    map (message_news tag seen) more ++ large_gained tag (data_large g seen) ++ end_gained tag (data_end g ends seen)
    ≡ head_gained tag seen head head ++ messages_gained tag seen before_ after ++ large_gained tag (data_large f seen) ++ end_gained tag (data_end f ends seen)
data_news tag seen head ends before_ after more f g e same =
    let gain : drop (length before_) after ≡ more = ap (drop (length before_)) e ∙ drop-append_seam before_ more in
    rw (no_head tag seen head, gain, same) refl

news_of_fresh : (limit tag : ℕ) (opened : Bool) (head : Option (List Field)) (bytes : List ℕ) (n : LinkNews) →
    (read_on (reader_for limit (fresh opened head bytes)) tag n).news ≡ gained limit tag (seen_by n) (fresh opened head bytes) (with_news limit (fresh opened head bytes) n)
news_of_fresh limit tag opened head bytes (link.Fields t fields ends seen) = headers_news limit tag t seen opened head bytes fields ends
news_of_fresh limit tag opened head bytes (link.Data t octets ends seen) =
    data_news tag seen head ends (messages_of limit bytes).whole (messages_of limit (bytes ++ octets)).whole (given (reader_of limit bytes) octets).messages
    (messages_of limit (bytes ++ octets)).fault (given (reader_of limit bytes) octets).fault (pieces_messages limit bytes octets) (pieces_fault limit bytes octets)
news_of_fresh limit tag opened head bytes (link.Reset t number seen) = rw (no_head tag seen head, no_message tag seen (messages_of limit bytes).whole) refl
news_of_fresh limit tag opened head bytes (link.Fault t number seen) = rw (no_head tag seen head, no_message tag seen (messages_of limit bytes).whole) refl
news_of_fresh limit tag opened head bytes (link.Unseen t seen) = rw (no_head tag seen head, no_message tag seen (messages_of limit bytes).whole) refl
news_of_fresh limit tag opened head bytes link.Ready = rw (no_head tag 0 head, no_message tag 0 (messages_of limit bytes).whole) refl
news_of_fresh limit tag opened head bytes link.Retiring = rw (no_head tag 0 head, no_message tag 0 (messages_of limit bytes).whole) refl
news_of_fresh limit tag opened head bytes (link.Broken number) = rw (no_head tag 0 head, no_message tag 0 (messages_of limit bytes).whole) refl

pub news_gained : (limit tag : ℕ) (r : Response) (n : LinkNews) → is_over r ≡ false → (stepped (reader_for limit r) tag n).news ≡ gained limit tag (seen_by n) r (handled limit r n)
news_gained limit tag r n live =
    let same = is_fresh r live in
    let step : (stepped (reader_for limit r) tag n).news ≡ (read_on (reader_for limit r) tag n).news = rw live refl in
    let receive : gained limit tag (seen_by n) r (with_news limit r n) ≡ gained limit tag (seen_by n) r (handled limit r n) = rw live refl in
    step
    ∙ ap (λ (q : Response). (read_on (reader_for limit q) tag n).news) same
    ∙ news_of_fresh limit tag r.opened r.head r.data_ n
    ∙ ap (λ (q : Response). gained limit tag (seen_by n) q (with_news limit q n)) (sym same)
    ∙ receive

pub over_reports_nothing : (limit tag : ℕ) (r : Response) (n : LinkNews) → is_over r ≡ true → (stepped (reader_for limit r) tag n).news ≡ []
over_reports_nothing limit tag r n over = rw over refl

-- the reader then
first_reader : (limit tag seen : ℕ) (opened : Bool) (bytes : List ℕ) (fields : List Field) (o : Option EndNews) →
    (headers_by (reader_for limit (fresh opened None bytes)) tag fields seen o).reader
    ≡ reader_for limit (record (fresh opened None bytes) { end = o; head = if is_none o && comes_head fields then Some (shown_of fields) else None })
first_reader limit tag seen opened bytes fields (Some end) = refl
first_reader limit tag seen opened bytes fields None =
    elim (cases_Bool (comes_head fields)) [
      | inl heads ↦ rw heads refl
      | inr interim ↦ rw interim refl
    ]

headers_reader : (limit tag t seen : ℕ) (opened : Bool) (head : Option (List Field)) (bytes : List ℕ) (fields : List Field) (ends : Bool) →
    (read_on (reader_for limit (fresh opened head bytes)) tag (link.Fields t fields ends seen)).reader ≡ reader_for limit (with_news limit (fresh opened head bytes) (link.Fields t fields ends seen))
headers_reader limit tag t seen opened None bytes fields ends =
    first_reader limit tag seen opened bytes fields (headers_end false (is_whole (reader_of limit bytes)) fields ends seen)
headers_reader limit tag t seen opened (Some head) bytes fields ends = refl

data_reader : (r : ReaderSeen) (ends : Bool) (seen : ℕ) (f g : Option MessageFault) (m n : frame.ReaderSeen) → f ≡ g → m ≡ n →
    record r { over = is_some (data_end g ends seen) || is_some (data_large g seen); messages = n } ≡ record r { over = is_some (data_end f ends seen) || is_some (data_large f seen); messages = m }
data_reader r ends seen f g m n e same = rw (e, same) refl

reader_of_fresh : (limit tag : ℕ) (opened : Bool) (head : Option (List Field)) (bytes : List ℕ) (n : LinkNews) →
    (read_on (reader_for limit (fresh opened head bytes)) tag n).reader ≡ reader_for limit (with_news limit (fresh opened head bytes) n)
reader_of_fresh limit tag opened head bytes (link.Fields t fields ends seen) = headers_reader limit tag t seen opened head bytes fields ends
reader_of_fresh limit tag opened head bytes (link.Data t octets ends seen) =
    data_reader (reader_for limit (fresh opened head bytes)) ends seen (messages_of limit (bytes ++ octets)).fault (given (reader_of limit bytes) octets).fault
    (reader_of limit (bytes ++ octets)) (given (reader_of limit bytes) octets).reader (pieces_fault limit bytes octets) (pieces_reader limit bytes octets)
reader_of_fresh limit tag opened head bytes (link.Reset t number seen) = refl
reader_of_fresh limit tag opened head bytes (link.Fault t number seen) = refl
reader_of_fresh limit tag opened head bytes (link.Unseen t seen) = refl
reader_of_fresh limit tag opened head bytes link.Ready = refl
reader_of_fresh limit tag opened head bytes link.Retiring = refl
reader_of_fresh limit tag opened head bytes (link.Broken number) = refl

over_stays : (tag : ℕ) (r : ReaderSeen) (n : LinkNews) → r.over ≡ true → (stepped r tag n).reader ≡ r
over_stays tag r n over = rw over refl

over_receives_nothing : (limit : ℕ) (r : Response) (n : LinkNews) → is_over r ≡ true → handled limit r n ≡ r
over_receives_nothing limit r n over = rw over refl

reader_by : (limit tag : ℕ) (r : Response) (n : LinkNews) (b : Bool) → is_over r ≡ b → (stepped (reader_for limit r) tag n).reader ≡ reader_for limit (handled limit r n)
reader_by limit tag r n true over = over_stays tag (reader_for limit r) n over ∙ ap (reader_for limit) (sym (over_receives_nothing limit r n over))
reader_by limit tag r n false live =
    let same = is_fresh r live in
    let step : (stepped (reader_for limit r) tag n).reader ≡ (read_on (reader_for limit r) tag n).reader = rw live refl in
    let receive : reader_for limit (with_news limit r n) ≡ reader_for limit (handled limit r n) = rw live refl in
    step
    ∙ ap (λ (q : Response). (read_on (reader_for limit q) tag n).reader) same
    ∙ reader_of_fresh limit tag r.opened r.head r.data_ n
    ∙ ap (λ (q : Response). reader_for limit (with_news limit q n)) (sym same)
    ∙ receive

pub reader_then : (limit tag : ℕ) (r : Response) (n : LinkNews) → (stepped (reader_for limit r) tag n).reader ≡ reader_for limit (handled limit r n)
reader_then limit tag r n = reader_by limit tag r n (is_over r) refl
