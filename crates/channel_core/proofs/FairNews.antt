-- What news report of the ends of attempts: no end is a cut, and one that a transparent retry may follow asks for nothing.
use Rattle.std.proofs.Common.{◌≡◌, ℕ, Bool, true, false, if◌then◌else◌, Option, Some, None, IfSome, List, [], ◌∷◌, ◌++◌, map, refl, subst}
use Rattle.std.specs.BTreeMap.{insert_entry}
use Rattle.std.specs.List.{AllByRecursion, remove}
use Rattle.std.specs.Ordering.{match_ordering, nat_cmp}
use Rattle.std.specs.declared.cmp.Ordering.{Ordering}
use Rattle.std.specs.declared.cmp.Ordering.TheVariants as ordering
use Rattle.grpc_base.specs.declared.code.Code.{Code}
use Rattle.grpc_base.specs.declared.fields.Field.{Field}
use Rattle.grpc_base.specs.declared.plan.Pushback.{Pushback}
use Rattle.std.specs.Prelude.{codes}
use Rattle.grpc_frame.specs.Reader as frame
use Rattle.grpc_frame.specs.declared.next.MessageFault.{MessageFault}
use Rattle.grpc_frame.specs.declared.next.MessageFault.TheVariants as fault
use Rattle.attempt_ledger.specs.Ends.{is_cut, is_stop}
use Rattle.attempt_ledger.specs.declared.news.EndNews.{EndNews}
use Rattle.attempt_ledger.specs.declared.news.News.{News}
use Rattle.attempt_ledger.specs.declared.news.News.TheVariants as news
use Rattle.attempt_ledger.specs.declared.row.RowCause.TheVariants as cause
use Rattle.grpc_meta.specs.ResponseFields.{shown_of, values_of}
use Rattle.h2_link.specs.Status.{http_status, is_interim}
use Rattle.grpc_base.specs.ErrorCodes.{cancel}
use Rattle.h2_link.specs.Received.{handled}
use Rattle.h2_link.specs.Steps.{cut}
use Rattle.h2_link.specs.declared.news.LinkNews.{LinkNews}
use Rattle.h2_link.specs.declared.news.LinkNews.TheVariants as link
use Rattle.grpc_link.specs.Ends.{end_with, framing_end, http_code, is_head, reset_end, status_end, status_end_by, unseen_end, http_end}
use Rattle.grpc_link.specs.Links as links
use Rattle.grpc_link.specs.Links.{GrpcSeen, Report, found, reported_all, reported_by, reported_of, with_reader}
use Rattle.grpc_link.specs.Readers.{ReaderSeen, Stepped, data_by, headers_by, read_on, stepped}
use Rattle.grpc_link.specs.Response.{comes_head, data_end, data_large, end_before_head, end_gained, headers_end, large_gained, message_news, trailers_end}
use Rattle.call_core.specs.Parts.{is_followed}
use Rattle.call_core.specs.declared.attempts.Attempts.{Attempts}
use Rattle.channel_core.specs.declared.state.links.LinkSlot.{LinkSlot}
use Rattle.channel_core.specs.Steps.{end_kept, ends_kept, loss}
use Rattle.channel_core.specs.Tables.{received_at, received_by, receives_at}

pub record IsFairEnd (end : EndNews) : Type 0 where
  pub own : is_cut end.cause ≡ false
  pub asks : (a : Attempts) → is_followed a end.cause end.unseen ≡ true → is_stop end.pushback ≡ false

abbrev pub IsFair : News → Type 0
IsFair (news.Ended tag end) = IsFairEnd end
IsFair _ = Unit {0}

abbrev pub AreFair : List News → Type 0
AreFair ns = AllByRecursion IsFair ns

fair_reset : (has_head : Bool) (number seen : ℕ) → IsFairEnd (reset_end has_head number seen)
fair_reset has_head number seen = record { own = refl; asks = λ a e. refl }

-- ends
fair_http : (asks : Pushback) (fields : List Field) (seen : ℕ) → IsFairEnd (end_with (http_code fields) cause.Http asks fields seen)
fair_http asks fields seen = record { own = refl; asks = λ a e. absurd (let no : ⊥ = (cc) in no) }

fair_status : (c : Code) (asks : Pushback) (fields : List Field) (seen : ℕ) → IsFairEnd (end_with c cause.Status asks fields seen)
fair_status c asks fields seen = record { own = refl; asks = λ a e. absurd (let no : ⊥ = (cc) in no) }

fair_framing : (ends : Bool) (fields : List Field) (seen : ℕ) → IsFairEnd (framing_end ends fields seen)
fair_framing ends fields seen = record { own = refl; asks = λ a e. absurd (let no : ⊥ = (cc) in no) }

fair_values : (values : List (List ℕ)) (fields : List Field) (seen : ℕ) → IsFairEnd (status_end_by values fields seen)
fair_values [] fields seen = fair_http _ fields seen
fair_values (v ∷ []) fields seen = fair_status _ _ fields seen
fair_values (v ∷ w ∷ values) fields seen = fair_status _ _ fields seen

fair_unseen : (opened : Bool) (seen : ℕ) → IsFairEnd (unseen_end opened seen)
fair_unseen true seen = record { own = refl; asks = λ a e. refl }
fair_unseen false seen = record { own = refl; asks = λ a e. refl }

pub fair_loss : (was_sent : Bool) (seen : ℕ) → IsFairEnd (loss was_sent seen)
fair_loss true seen = record { own = refl; asks = λ a e. refl }
fair_loss false seen = record { own = refl; asks = λ a e. refl }

if_end : (b : Bool) (x y : EndNews) → IsFairEnd x → IsFairEnd y → IsFairEnd (if b then x else y)
if_end true x y first second = first
if_end false x y first second = second

if_option : (b : Bool) (x y : Option EndNews) → IfSome x IsFairEnd → IfSome y IsFairEnd → IfSome (if b then x else y) IsFairEnd
if_option true x y first second = first
if_option false x y first second = second

fair_status_end : (fields : List Field) (seen : ℕ) → IsFairEnd (status_end fields seen)
fair_status_end fields seen = fair_values (values_of (codes "grpc-status") fields) fields seen

fair_trailers : (whole : Bool) (fields : List Field) (seen : ℕ) → IsFairEnd (trailers_end whole fields seen)
fair_trailers whole fields seen = if_end _ (framing_end true fields seen) (status_end fields seen) (fair_framing true fields seen) (fair_status_end fields seen)

fair_after : (whole : Bool) (fields : List Field) (ends : Bool) (seen : ℕ) → IsFairEnd (if ends then trailers_end whole fields seen else framing_end ends fields seen)
fair_after whole fields ends seen = if_end ends (trailers_end whole fields seen) (framing_end ends fields seen) (fair_trailers whole fields seen) (fair_framing ends fields seen)

fair_before : (fields : List Field) (ends : Bool) (seen : ℕ) → IfSome (end_before_head fields ends seen) IsFairEnd
fair_before fields ends seen =
    if_option (is_interim (http_status fields)) _ _ (if_option ends (Some (framing_end ends fields seen)) None (fair_framing ends fields seen) tt)
    (if_option ends (Some (status_end fields seen)) _ (fair_status_end fields seen)
    (if_option (is_head fields) None _ tt (if_option _ (Some (framing_end ends fields seen)) (Some (http_end fields seen)) (fair_framing ends fields seen) (fair_http _ fields seen))))

fair_headers : (has_head whole : Bool) (fields : List Field) (ends : Bool) (seen : ℕ) → IfSome (headers_end has_head whole fields ends seen) IsFairEnd
fair_headers true whole fields ends seen = fair_after whole fields ends seen
fair_headers false whole fields ends seen = fair_before fields ends seen

fair_data : (f : Option MessageFault) (ends : Bool) (seen : ℕ) → IfSome (data_end f ends seen) IsFairEnd
fair_data (Some fault.BadFlag) ends seen = record { own = refl; asks = λ a e. refl }
fair_data (Some (fault.TooLarge len)) ends seen = tt
fair_data None true seen = record { own = refl; asks = λ a e. refl }
fair_data None false seen = tt

-- lists of news
fair_append : (ms ns : List News) → AreFair ms → AreFair ns → AreFair (ms ++ ns)
fair_append [] ns first second = second
fair_append (m ∷ ms) ns first second = (first.0, fair_append ms ns first.1 second)

fair_messages : (tag seen : ℕ) (messages : List (List ℕ)) → AreFair (map (message_news tag seen) messages)
fair_messages tag seen [] = tt
fair_messages tag seen (m ∷ messages) = (tt, fair_messages tag seen messages)

fair_large : (tag : ℕ) (o : Option ℕ) → AreFair (large_gained tag o)
fair_large tag None = tt
fair_large tag (Some seen) = (tt, tt)

fair_gained : (tag : ℕ) (o : Option EndNews) → IfSome o IsFairEnd → AreFair (end_gained tag o)
fair_gained tag None h = tt
fair_gained tag (Some end) h = (h, tt)

-- a reader
news_if : (b : Bool) (x y : Stepped) → AreFair x.news → AreFair y.news → AreFair (if b then x else y).news
news_if true x y first second = first
news_if false x y first second = second

fair_by : (r : ReaderSeen) (tag : ℕ) (fields : List Field) (seen : ℕ) (end : Option EndNews) → IfSome end IsFairEnd → AreFair (headers_by r tag fields seen end).news
fair_by r tag fields seen (Some end) h = (h, tt)
fair_by r tag fields seen None h = news_if (comes_head fields) (record { reader = record r { head = true }; news = news.Head tag (shown_of fields) seen ∷ [] }) (record { reader = r; news = [] }) (tt, tt) tt

fair_given : (r : ReaderSeen) (tag : ℕ) (g : frame.Given) (ends : Bool) (seen : ℕ) → AreFair (data_by r tag g ends seen).news
fair_given r tag g ends seen =
    fair_append (map (message_news tag seen) g.messages ++ large_gained tag (data_large g.fault seen)) (end_gained tag (data_end g.fault ends seen))
    (fair_append (map (message_news tag seen) g.messages) (large_gained tag (data_large g.fault seen)) (fair_messages tag seen g.messages) (fair_large tag (data_large g.fault seen)))
    (fair_gained tag (data_end g.fault ends seen) (fair_data g.fault ends seen))

fair_read : (r : ReaderSeen) (tag : ℕ) (n : LinkNews) → AreFair (read_on r tag n).news
fair_read r tag (link.Fields t fields ends seen) = fair_by r tag fields seen (headers_end r.head (frame.is_whole r.messages) fields ends seen) (fair_headers r.head (frame.is_whole r.messages) fields ends seen)
fair_read r tag (link.Data t bytes ends seen) = fair_given r tag (frame.given r.messages bytes) ends seen
fair_read r tag (link.Reset t number seen) = (fair_reset r.head number seen, tt)
fair_read r tag (link.Fault t number seen) = (record { own = refl; asks = λ a e. refl }, tt)
fair_read r tag (link.Unseen t seen) = (fair_unseen r.opened seen, tt)
fair_read r tag link.Ready = tt
fair_read r tag link.Retiring = tt
fair_read r tag (link.Broken code) = tt

fair_step : (r : ReaderSeen) (tag : ℕ) (n : LinkNews) → AreFair (stepped r tag n).news
fair_step r tag n = news_if r.over (record { reader = r; news = [] }) (read_on r tag n) tt (fair_read r tag n)

-- a link
reported_if : (b : Bool) (x y : Report) → AreFair x.news → AreFair y.news → AreFair (if b then x else y).news
reported_if true x y first second = first
reported_if false x y first second = second

fair_by_step : (g : GrpcSeen) (tag : ℕ) (s : Stepped) → AreFair s.news → AreFair (reported_by g tag s).news
fair_by_step g tag s fair =
    reported_if s.reader.over (record { link = record g { link = record g.link { wire = cut g.link.wire tag cancel } }; news = s.news }) (record { link = record g { readers = with_reader tag s.reader g.readers }; news = s.news }) fair fair

fair_of : (g : GrpcSeen) (tag : ℕ) (n : LinkNews) (o : Option (ℕ × ReaderSeen)) → AreFair (reported_of g tag n o).news
fair_of g tag n None = tt
fair_of g tag n (Some x) = fair_by_step (record g { readers = remove g.readers x.0 }) tag (stepped x.1 tag n) (fair_step x.1 tag n)

fair_reported : (g : GrpcSeen) (n : LinkNews) → AreFair (links.reported g n).news
fair_reported g link.Ready = (tt, tt)
fair_reported g link.Retiring = (tt, tt)
fair_reported g (link.Broken code) = (tt, tt)
fair_reported g (link.Fields tag fields end seen) = fair_of g tag (link.Fields tag fields end seen) (found tag g.readers)
fair_reported g (link.Data tag bytes end seen) = fair_of g tag (link.Data tag bytes end seen) (found tag g.readers)
fair_reported g (link.Reset tag code seen) = fair_of g tag (link.Reset tag code seen) (found tag g.readers)
fair_reported g (link.Fault tag code seen) = fair_of g tag (link.Fault tag code seen) (found tag g.readers)
fair_reported g (link.Unseen tag seen) = fair_of g tag (link.Unseen tag seen) (found tag g.readers)

fair_all : (g : GrpcSeen) (ns : List LinkNews) → AreFair (reported_all g ns).news
fair_all g [] = tt
fair_all g (n ∷ ns) = fair_append (links.reported g n).news (reported_all (links.reported g n).link ns).news (fair_reported g n) (fair_all (links.reported g n).link ns)

fair_if : (receives : Bool) (slot : LinkSlot) (number : ℕ) (piece : List ℕ) (all : List LinkSlot) → IfSome (if receives then Some (received_by slot number piece all) else None) (λ h. AreFair h.news)
fair_if true slot number piece all = fair_all (record { link = (handled slot.link.link piece).link; readers = slot.link.readers }) (handled slot.link.link piece).news
fair_if false slot number piece all = tt

pub fair_received : (number : ℕ) (piece : List ℕ) (all : List LinkSlot) (o : Option LinkSlot) → IfSome (received_at o number piece all) (λ h. AreFair h.news)
fair_received number piece all None = tt
fair_received number piece all (Some slot) = fair_if (receives_at (Some slot)) slot number piece all

-- the ends among news, by the rows' places
abbrev pub AreFairEnds : List (ℕ × EndNews) → Type 0
AreFairEnds ends = AllByRecursion (λ e. IsFairEnd e.1) ends

insert_by : (o : Ordering) (e : ℕ × EndNews) (es rest : List (ℕ × EndNews)) (k : ℕ) (v : EndNews) → IsFairEnd v → AreFairEnds (e ∷ es) → AreFairEnds rest → AreFairEnds (match_ordering o ((k, v) ∷ e ∷ es) ((e.0, v) ∷ es) (e ∷ rest))
insert_by ordering.Less e es rest k v fair all more = (fair, all)
insert_by ordering.Equal e es rest k v fair all more = (fair, all.1)
insert_by ordering.Greater e es rest k v fair all more = (all.0, more)

insert_fair : (es : List (ℕ × EndNews)) (k : ℕ) (v : EndNews) → IsFairEnd v → AreFairEnds es → AreFairEnds (insert_entry nat_cmp es k v)
insert_fair [] k v fair all = (fair, tt)
insert_fair (e ∷ es) k v fair all = insert_by (nat_cmp k e.0) e es (insert_entry nat_cmp es k v) k v fair all (insert_fair es k v fair all.1)

fair_kept : (n : News) (ends : List (ℕ × EndNews)) → IsFair n → AreFairEnds ends → AreFairEnds (end_kept n ends)
fair_kept (news.Ended tag end) ends fair all = insert_fair ends tag end fair all
fair_kept news.Ready ends fair all = all
fair_kept news.Retiring ends fair all = all
fair_kept (news.Broken why) ends fair all = all
fair_kept (news.Head tag meta seen) ends fair all = all
fair_kept (news.Message tag octets seen) ends fair all = all
fair_kept (news.TooLarge tag seen) ends fair all = all

pub fair_ends : (ns : List News) (ends : List (ℕ × EndNews)) → AreFair ns → AreFairEnds ends → AreFairEnds (ends_kept ns ends)
fair_ends [] ends fair all = all
fair_ends (n ∷ ns) ends fair all = fair_ends ns (end_kept n ends) fair.1 (fair_kept n ends fair.0 all)
