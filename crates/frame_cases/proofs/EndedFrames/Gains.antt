-- What a frame adds to a response that it ends: messages, and the end; neither a head nor a message that is too long. And how it may end.
use Rattle.std.proofs.Common.{◌≡◌, ◌+◌, ◌++◌, ◌&&◌, ◌||◌, ◌==◌, ◌∷◌, append-nil, ap, refl, subst, sym, ◌∙◌, Bool, true, false, List, [], Option, None, Some, ℕ, drop, if◌then◌else◌, is_none, is_some, length, map, nat_lt}
use Rattle.std.proofs.lemmas.List.Folds.{list_any-append}
use Rattle.std.specs.List.{list_any}
use Rattle.std.specs.Option.{option_map}
use Rattle.attempt_ledger.specs.Ends.{is_cut}
use Rattle.attempt_ledger.specs.Throttling.{is_success}
use Rattle.attempt_ledger.specs.TransparentRows.{is_unsent}
use Rattle.attempt_ledger.specs.declared.news.News.{News}
use Rattle.attempt_ledger.specs.declared.news.News.TheVariants as news
use Rattle.attempt_ledger.specs.declared.row.RowCause.{RowCause}
use Rattle.attempt_ledger.specs.declared.row.RowCause.TheVariants as cause
use Rattle.frame_cases.proofs.QuietFrames.Responses.{HasGrown, dropped_prefix}
use Rattle.frame_cases.specs.FrameKinds.Laws.{is_end}
use Rattle.grpc_base.specs.declared.fields.Field.{Field}
use Rattle.grpc_frame.specs.Messages.{messages_of}
use Rattle.grpc_frame.specs.declared.next.MessageFault.{MessageFault}
use Rattle.grpc_frame.specs.declared.next.MessageFault.TheVariants as messagefault
use Rattle.grpc_link.specs.Response.{end_gained, head_gained, message_news}
use Rattle.grpc_meta.specs.ResponseFields.{shown_of, values_of}
use Rattle.h2_frame.specs.Frames.{FrameSeen, has_flag}
use Rattle.h2_frame.specs.Numbers.{data_type, end_stream_flag, goaway_type, rst_stream_type, window_update_type}
use Rattle.h2_frame.specs.Payloads.{content_of, increment, last_stream, reset_code}
use Rattle.link_actions.proofs.Lists.{on_if}
use Rattle.link_actions.specs.LossActions.Sees.{end_news}
use Rattle.link_actions.specs.ResponseActions.Gained.{gained, large_gained}
use Rattle.session_actions.specs.Links.{is_settings}
use Rattle.session_actions.specs.Reading.{largest_window}
use Rattle.session_actions.specs.Responses.{block_end, ended, ended_by_block, http_status, initial_after, is_head, is_interim, status_end, trailers_end, with_block, with_data, with_fault, with_head, with_messages, with_own_frame, with_read, with_reset, with_stream_frame, with_trailers, with_update}
use Rattle.session_actions.specs.declared.link.Block.{Block}
use Rattle.session_actions.specs.declared.link.ReadFrame.{ReadFrame}
use Rattle.session_actions.specs.declared.response.Outcome.{Outcome}
use Rattle.session_actions.specs.declared.response.Response.{Response}

-- causes of ends that a response brings
abbrev pub is_of_response : RowCause → Bool
is_of_response cause.Status = true
is_of_response cause.Http = true
is_of_response cause.Reset = true
is_of_response cause.Framing = true
is_of_response cause.Goaway = true
is_of_response _ = false

pub never_cut : (c : RowCause) → is_of_response c ≡ true → is_cut c ≡ false
never_cut cause.Status e = refl
never_cut cause.Http e = refl
never_cut cause.Reset e = refl
never_cut cause.Framing e = refl
never_cut cause.Goaway e = refl
never_cut _ e = absurd (cc)

pub never_unsent : (c : RowCause) → is_of_response c ≡ true → is_unsent c ≡ false
never_unsent cause.Status e = refl
never_unsent cause.Http e = refl
never_unsent cause.Reset e = refl
never_unsent cause.Framing e = refl
never_unsent cause.Goaway e = refl
never_unsent _ e = absurd (cc)

-- where it ends, its head and whether a message was too long are as before, and the end is one of a response
pub record EndsPlainly (p q : Response) : Type 0 where
  pub head : (o : Outcome) → q.end ≡ Some o → q.head ≡ p.head
  pub large : (o : Outcome) → q.end ≡ Some o → q.large ≡ p.large
  pub cause_is : (o : Outcome) → q.end ≡ Some o → is_of_response o.cause ≡ true

goes_plainly : (p q : Response) → q.end ≡ None → EndsPlainly p q
goes_plainly p q none = record {
  head = λ o e. never o e;
  large = λ o e. never o e;
  cause_is = λ o e. never o e;
}
  where
    never : {Y : Type 0} (o : Outcome) → q.end ≡ Some o → Y
    never o e = absurd (let bad : None ≡ Some o = sym none ∙ e in (cc))

ends_plainly : (p q : Response) (k : Outcome) → q.end ≡ Some k → q.head ≡ p.head → q.large ≡ p.large → is_of_response k.cause ≡ true → EndsPlainly p q
ends_plainly p q k is head large by = record {
  head = λ o e. head;
  large = λ o e. large;
  cause_is = λ o e. (let both : Some k ≡ Some o = sym is ∙ e in let same : k ≡ o = (cc) in ap (λ (z : Outcome). is_of_response z.cause) (sym same) ∙ by);
}

fault_plain : (p q : Response) (o : Option MessageFault) → q.end ≡ None → q.head ≡ p.head → q.large ≡ p.large → EndsPlainly p (with_fault o q)
fault_plain p q None none head large =
    on_if (EndsPlainly p) q.closes (ended _ q) q (λ e. ends_plainly p (ended _ q) _ refl head large refl) (λ e. goes_plainly p q none)
fault_plain p q (Some messagefault.BadFlag) none head large = ends_plainly p _ _ refl head large refl
fault_plain p q (Some (messagefault.TooLarge len)) none head large = goes_plainly p (record q { large = true }) none

data_plain : (limit : ℕ) (p : Response) (f : FrameSeen) → p.end ≡ None → EndsPlainly p (with_data limit p f)
data_plain limit p f none =
    on_if (EndsPlainly p) (is_none p.head) (ended _ p) _ (λ e. ends_plainly p (ended _ p) _ refl refl refl refl)
    (λ e.
    let m = messages_of limit (p.rest ++ content_of f) in fault_plain p (with_messages p m (has_flag f.flags end_stream_flag)) m.fault none refl refl)

update_plain : (p : Response) (by : ℕ) → p.end ≡ None → EndsPlainly p (with_update p by)
update_plain p by none =
    on_if (EndsPlainly p) (by == 0) _ _ (λ e. ends_plainly p _ _ refl refl refl refl)
    (λ e.
    on_if (EndsPlainly p) (nat_lt (largest_window + p.used) (p.initial + p.raised + by)) _ _ (λ h. ends_plainly p _ _ refl refl refl refl)
    (λ h. goes_plainly p (record p { raised = p.raised + by }) none))

own_plain : (limit : ℕ) (p : Response) (f : FrameSeen) → p.end ≡ None → EndsPlainly p (with_own_frame limit p f)
own_plain limit p f none =
    on_if (EndsPlainly p) (f.kind == data_type) (with_data limit p f) _ (λ e. data_plain limit p f none)
    (λ e.
    on_if (EndsPlainly p) (f.kind == rst_stream_type) (with_reset p (reset_code f.payload)) _ (λ h. ends_plainly p _ _ refl refl refl refl)
    (λ h.
    on_if (EndsPlainly p) (f.kind == window_update_type) (with_update p (increment f.payload)) p (λ i. update_plain p (increment f.payload) none) (λ i. goes_plainly p p none)))

status_by : (values : List (List ℕ)) (b : Block) → is_of_response (status_end values b).cause ≡ true
status_by [] b = refl
status_by (value ∷ []) b = refl
status_by (value ∷ other ∷ more) b = refl

trailers_by : (p : Response) (b : Block) (k : Outcome) → is_of_response k.cause ≡ true → is_of_response (trailers_end p b k).cause ≡ true
trailers_by p b k e = on_if (λ (o : Outcome). is_of_response o.cause ≡ true) (is_success k.code && nat_lt 0 (length p.rest)) _ k (λ h. refl) (λ h. e)

block_plain : (p : Response) (b : Block) → p.end ≡ None → EndsPlainly p (with_block p b)
block_plain p b none =
    on_if (EndsPlainly p) (is_none p.head && is_interim (http_status b.fields)) _ _
    (λ e. on_if (EndsPlainly p) b.ends (ended_by_block b p) p (λ h. ends_plainly p (ended_by_block b p) _ refl refl refl refl) (λ h. goes_plainly p p none))
    (λ e.
    on_if (EndsPlainly p) b.ends (with_trailers p b) _
    (λ h. ends_plainly p (with_trailers p b) _ refl refl refl (trailers_by p b _ (status_by (values_of _ b.fields) b)))
    (λ h.
    on_if (EndsPlainly p) (is_some p.head || is_none (http_status b.fields)) (ended_by_block b p) (with_head p b) (λ i. ends_plainly p (ended_by_block b p) _ refl refl refl refl)
    (λ i.
    on_if (EndsPlainly p) (is_head b.fields) (record p { head = Some (shown_of b.fields) }) _ (λ j. goes_plainly p (record p { head = Some (shown_of b.fields) }) none)
    (λ j. ends_plainly p _ _ refl refl refl refl))))

frame_plain : (limit : ℕ) (p : Response) (f : FrameSeen) (o : Option Block) → p.end ≡ None → EndsPlainly p (with_stream_frame limit p f o)
frame_plain limit p f (Some b) none = block_plain p b none
frame_plain limit p f None none = own_plain limit p f none

pub read_plain : (limit k : ℕ) (p : Response) (r : ReadFrame) → p.end ≡ None → EndsPlainly p (with_read limit k p r)
read_plain limit k p r none =
    on_if (EndsPlainly p) (is_settings r.frame) (record p { initial = initial_after p.initial r.frame }) _
    (λ e. goes_plainly p (record p { initial = initial_after p.initial r.frame }) none)
    (λ e.
    on_if (EndsPlainly p) ((r.frame.kind == goaway_type) && nat_lt (last_stream r.frame.payload) k) _ _ (λ h. ends_plainly p _ _ refl refl refl refl)
    (λ h. on_if (EndsPlainly p) (r.frame.stream == k) (with_stream_frame limit p r.frame r.block) p (λ i. frame_plain limit p r.frame r.block none) (λ i. goes_plainly p p none)))

-- what is reported of it
same_head : (tag seen : ℕ) (h : Option (List Field)) → head_gained tag seen h h ≡ []
same_head tag seen None = refl
same_head tag seen (Some x) = refl

pub gained_end : (tag seen : ℕ) (p q : Response) (o : Outcome) (grown : HasGrown p q) → p.large ≡ false → EndsPlainly p q → q.end ≡ Some o
    → gained tag seen p q ≡ map (message_news tag seen) grown.more ++ news.Ended tag (end_news o seen) ∷ []
gained_end tag seen p q o grown small plain is =
    let none : List News = [] in
    let left : drop (length p.messages) q.messages ≡ grown.more = ap (drop (length p.messages)) grown.messages ∙ dropped_prefix p.messages grown.more in
    let ms : List News = map (message_news tag seen) (drop (length p.messages) q.messages) in
    let ends : List News = end_gained tag (option_map (λ (x : Outcome). end_news x seen) q.end) in
    ap (λ (h : Option (List Field)). head_gained tag seen p.head h ++ ms ++ large_gained tag seen q.large ++ ends) (plain.head o is)
    ∙ ap (λ (xs : List News). xs ++ ms ++ large_gained tag seen q.large ++ ends) (same_head tag seen p.head)
    ∙ ap (λ (b : Bool). none ++ ms ++ large_gained tag seen b ++ ends) (plain.large o is ∙ small)
    ∙ ap (λ (xs : List (List ℕ)). none ++ map (message_news tag seen) xs ++ none ++ ends) left
    ∙ ap (λ (e : Option Outcome). none ++ map (message_news tag seen) grown.more ++ none ++ end_gained tag (option_map (λ (x : Outcome). end_news x seen) e)) is
    ∙ ap (λ (xs : List News). xs ++ news.Ended tag (end_news o seen) ∷ []) (append-nil (map (message_news tag seen) grown.more))

-- an end is reported only of a response that ends
head_no_end : (tag seen : ℕ) (p q : Option (List Field)) → list_any is_end (head_gained tag seen p q) ≡ false
head_no_end tag seen None (Some meta) = refl
head_no_end tag seen None None = refl
head_no_end tag seen (Some x) q = refl

messages_no_end : (tag seen : ℕ) (ms : List (List ℕ)) → list_any is_end (map (message_news tag seen) ms) ≡ false
messages_no_end tag seen [] = refl
messages_no_end tag seen (m ∷ ms) = messages_no_end tag seen ms

large_no_end : (tag seen : ℕ) (b : Bool) → list_any is_end (large_gained tag seen b) ≡ false
large_no_end tag seen true = refl
large_no_end tag seen false = refl

three_none : (a b c d : List News) → list_any is_end a ≡ false → list_any is_end b ≡ false → list_any is_end c ≡ false → list_any is_end (a ++ b ++ c ++ d) ≡ list_any is_end d
three_none a b c d e f g =
    list_any-append is_end (a ++ b ++ c) d
    ∙ ap (λ (k : Bool). k || list_any is_end d) (list_any-append is_end (a ++ b) c ∙ ap (λ (k : Bool). k || list_any is_end c) (list_any-append is_end a b ∙ ap (λ (k : Bool). k || list_any is_end b) e ∙ f) ∙ g)

pub ends_reported : (tag seen : ℕ) (p q : Response) → list_any is_end (gained tag seen p q) ≡ true → (o : Outcome) × (q.end ≡ Some o)
ends_reported tag seen p q e = by q.end refl
  where
    by : (k : Option Outcome) → q.end ≡ k → (o : Outcome) × (q.end ≡ Some o)
    by (Some o) is = (o, is)
    by None is =
        let none : list_any is_end (gained tag seen p q) ≡ false
        = three_none (head_gained tag seen p.head q.head) (map (message_news tag seen) (drop (length p.messages) q.messages)) (large_gained tag seen q.large)
        (end_gained tag (option_map (λ (x : Outcome). end_news x seen) q.end)) (head_no_end tag seen p.head q.head)
        (messages_no_end tag seen (drop (length p.messages) q.messages)) (large_no_end tag seen q.large)
        ∙ ap (λ (k : Option Outcome). list_any is_end (end_gained tag (option_map (λ (x : Outcome). end_news x seen) k))) is in
        absurd (let bad : true ≡ false = sym e ∙ none in (cc))
