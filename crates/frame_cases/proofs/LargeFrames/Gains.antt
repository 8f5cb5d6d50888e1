-- What a frame adds to a response in which a message is too long: messages, and that one; neither a head nor an end; and a head came before.
use Rattle.std.proofs.Common.{◌≡◌, ◌+◌, ◌++◌, ◌&&◌, ◌||◌, ◌==◌, ◌∷◌, append-nil, ap, refl, sym, ◌∙◌, Bool, true, false, List, [], Option, None, Some, ℕ, drop, if◌then◌else◌, is_none, is_some, length, map, nat_lt}
use Rattle.std.proofs.lemmas.List.Folds.{list_any-append}
use Rattle.std.specs.List.{list_any}
use Rattle.std.specs.Option.{option_map}
use Rattle.attempt_ledger.specs.declared.news.News.{News}
use Rattle.attempt_ledger.specs.declared.news.News.TheVariants as news
use Rattle.frame_cases.proofs.QuietFrames.Responses.{HasGrown, dropped_prefix}
use Rattle.frame_cases.specs.FrameKinds.Laws.{is_large}
use Rattle.grpc_base.specs.declared.fields.Field.{Field}
use Rattle.grpc_frame.specs.Messages.{messages_of}
use Rattle.grpc_frame.specs.declared.next.MessageFault.{MessageFault}
use Rattle.grpc_frame.specs.declared.next.MessageFault.TheVariants as messagefault
use Rattle.grpc_link.specs.Response.{end_gained, head_gained, message_news}
use Rattle.grpc_meta.specs.ResponseFields.{shown_of}
use Rattle.h2_frame.specs.Frames.{FrameSeen, has_flag}
use Rattle.h2_frame.specs.Numbers.{data_type, end_stream_flag, goaway_type, rst_stream_type, window_update_type}
use Rattle.h2_frame.specs.Payloads.{content_of, increment, last_stream, reset_code}
use Rattle.link_actions.proofs.Lists.{on_if}
use Rattle.link_actions.specs.LossActions.Sees.{end_news}
use Rattle.link_actions.specs.ResponseActions.Gained.{gained, large_gained}
use Rattle.session_actions.specs.Links.{is_settings}
use Rattle.session_actions.specs.Reading.{largest_window}
use Rattle.session_actions.specs.Responses.{ended, ended_by_block, http_status, initial_after, is_head, is_interim, with_block, with_data, with_fault, with_head, with_messages, with_own_frame, with_read, with_reset, with_stream_frame, with_trailers, with_update}
use Rattle.session_actions.specs.declared.link.Block.{Block}
use Rattle.session_actions.specs.declared.link.ReadFrame.{ReadFrame}
use Rattle.session_actions.specs.declared.response.Outcome.{Outcome}
use Rattle.session_actions.specs.declared.response.Response.{Response}

-- where a message of it is too long, its head is as before, and there; and it has no end
pub record IsLargePlainly (p q : Response) : Type 0 where
  pub head : q.large ≡ true → q.head ≡ p.head
  pub headed : q.large ≡ true → is_none p.head ≡ false
  pub goes : q.large ≡ true → q.end ≡ None

never_large : {Y : Type 0} (q : Response) → q.large ≡ false → q.large ≡ true → Y
never_large q small e = absurd (let bad : true ≡ false = sym e ∙ small in (cc))

stays_small : (p q : Response) → q.large ≡ false → IsLargePlainly p q
stays_small p q small = record {
  head = λ e. never_large q small e;
  headed = λ e. never_large q small e;
  goes = λ e. never_large q small e;
}

fault_large : (p q : Response) (o : Option MessageFault) → q.end ≡ None → q.head ≡ p.head → is_none p.head ≡ false → q.large ≡ false → IsLargePlainly p (with_fault o q)
fault_large p q None none head headed small =
    on_if (IsLargePlainly p) q.closes (ended _ q) q (λ e. stays_small p (ended _ q) small) (λ e. stays_small p q small)
fault_large p q (Some messagefault.BadFlag) none head headed small = stays_small p _ small
fault_large p q (Some (messagefault.TooLarge len)) none head headed small = record { head = λ e. head; headed = λ e. headed; goes = λ e. none }

data_large : (limit : ℕ) (p : Response) (f : FrameSeen) → p.end ≡ None → p.large ≡ false → IsLargePlainly p (with_data limit p f)
data_large limit p f none small =
    on_if (IsLargePlainly p) (is_none p.head) (ended _ p) _ (λ e. stays_small p (ended _ p) small)
    (λ e.
    let m = messages_of limit (p.rest ++ content_of f) in fault_large p (with_messages p m (has_flag f.flags end_stream_flag)) m.fault none refl e small)

update_large : (p : Response) (by : ℕ) → p.large ≡ false → IsLargePlainly p (with_update p by)
update_large p by small =
    on_if (IsLargePlainly p) (by == 0) _ _ (λ e. stays_small p _ small)
    (λ e.
    on_if (IsLargePlainly p) (nat_lt (largest_window + p.used) (p.initial + p.raised + by)) _ _ (λ h. stays_small p _ small)
    (λ h. stays_small p (record p { raised = p.raised + by }) small))

own_large : (limit : ℕ) (p : Response) (f : FrameSeen) → p.end ≡ None → p.large ≡ false → IsLargePlainly p (with_own_frame limit p f)
own_large limit p f none small =
    on_if (IsLargePlainly p) (f.kind == data_type) (with_data limit p f) _ (λ e. data_large limit p f none small)
    (λ e.
    on_if (IsLargePlainly p) (f.kind == rst_stream_type) (with_reset p (reset_code f.payload)) _ (λ h. stays_small p _ small)
    (λ h.
    on_if (IsLargePlainly p) (f.kind == window_update_type) (with_update p (increment f.payload)) p (λ i. update_large p (increment f.payload) small) (λ i. stays_small p p small)))

block_large : (p : Response) (b : Block) → p.large ≡ false → IsLargePlainly p (with_block p b)
block_large p b small =
    on_if (IsLargePlainly p) (is_none p.head && is_interim (http_status b.fields)) _ _
    (λ e. on_if (IsLargePlainly p) b.ends (ended_by_block b p) p (λ h. stays_small p (ended_by_block b p) small) (λ h. stays_small p p small))
    (λ e.
    on_if (IsLargePlainly p) b.ends (with_trailers p b) _ (λ h. stays_small p (with_trailers p b) small)
    (λ h.
    on_if (IsLargePlainly p) (is_some p.head || is_none (http_status b.fields)) (ended_by_block b p) (with_head p b) (λ i. stays_small p (ended_by_block b p) small)
    (λ i.
    on_if (IsLargePlainly p) (is_head b.fields) (record p { head = Some (shown_of b.fields) }) _ (λ j. stays_small p (record p { head = Some (shown_of b.fields) }) small)
    (λ j. stays_small p _ small))))

frame_large : (limit : ℕ) (p : Response) (f : FrameSeen) (o : Option Block) → p.end ≡ None → p.large ≡ false → IsLargePlainly p (with_stream_frame limit p f o)
frame_large limit p f (Some b) none small = block_large p b small
frame_large limit p f None none small = own_large limit p f none small

pub read_large : (limit k : ℕ) (p : Response) (r : ReadFrame) → p.end ≡ None → p.large ≡ false → IsLargePlainly p (with_read limit k p r)
read_large limit k p r none small =
    on_if (IsLargePlainly p) (is_settings r.frame) (record p { initial = initial_after p.initial r.frame }) _
    (λ e. stays_small p (record p { initial = initial_after p.initial r.frame }) small)
    (λ e.
    on_if (IsLargePlainly p) ((r.frame.kind == goaway_type) && nat_lt (last_stream r.frame.payload) k) _ _ (λ h. stays_small p _ small)
    (λ h. on_if (IsLargePlainly p) (r.frame.stream == k) (with_stream_frame limit p r.frame r.block) p (λ i. frame_large limit p r.frame r.block none small) (λ i. stays_small p p small)))

-- what is reported of it
same_head : (tag seen : ℕ) (h : Option (List Field)) → head_gained tag seen h h ≡ []
same_head tag seen None = refl
same_head tag seen (Some x) = refl

pub gained_large : (tag seen : ℕ) (p q : Response) (grown : HasGrown p q) → IsLargePlainly p q → q.large ≡ true
    → gained tag seen p q ≡ map (message_news tag seen) grown.more ++ news.TooLarge tag seen ∷ []
gained_large tag seen p q grown plain is =
    let none : List News = [] in
    let left : drop (length p.messages) q.messages ≡ grown.more = ap (drop (length p.messages)) grown.messages ∙ dropped_prefix p.messages grown.more in
    let ms : List News = map (message_news tag seen) (drop (length p.messages) q.messages) in
    let ends : List News = end_gained tag (option_map (λ (x : Outcome). end_news x seen) q.end) in
    ap (λ (h : Option (List Field)). head_gained tag seen p.head h ++ ms ++ large_gained tag seen q.large ++ ends) (plain.head is)
    ∙ ap (λ (xs : List News). xs ++ ms ++ large_gained tag seen q.large ++ ends) (same_head tag seen p.head)
    ∙ ap (λ (b : Bool). none ++ ms ++ large_gained tag seen b ++ ends) is
    ∙ ap (λ (xs : List (List ℕ)). none ++ map (message_news tag seen) xs ++ (news.TooLarge tag seen ∷ []) ++ ends) left
    ∙ ap (λ (e : Option Outcome). none ++ map (message_news tag seen) grown.more ++ (news.TooLarge tag seen ∷ []) ++ end_gained tag (option_map (λ (x : Outcome). end_news x seen) e))
    (plain.goes is)
    ∙ append-nil (map (message_news tag seen) grown.more ++ (news.TooLarge tag seen ∷ []))

-- a message that is too long is reported only of a response that has one
head_no_large : (tag seen : ℕ) (p q : Option (List Field)) → list_any is_large (head_gained tag seen p q) ≡ false
head_no_large tag seen None (Some meta) = refl
head_no_large tag seen None None = refl
head_no_large tag seen (Some x) q = refl

messages_no_large : (tag seen : ℕ) (ms : List (List ℕ)) → list_any is_large (map (message_news tag seen) ms) ≡ false
messages_no_large tag seen [] = refl
messages_no_large tag seen (m ∷ ms) = messages_no_large tag seen ms

end_no_large : (tag seen : ℕ) (o : Option Outcome) → list_any is_large (end_gained tag (option_map (λ (x : Outcome). end_news x seen) o)) ≡ false
end_no_large tag seen None = refl
end_no_large tag seen (Some o) = refl

none_of_four : (a b c d : List News) → list_any is_large a ≡ false → list_any is_large b ≡ false → list_any is_large c ≡ false → list_any is_large d ≡ false
    → list_any is_large (a ++ b ++ c ++ d) ≡ false
none_of_four a b c d e f g h =
    list_any-append is_large (a ++ b ++ c) d
    ∙ ap (λ (k : Bool). k || list_any is_large d)
    (list_any-append is_large (a ++ b) c ∙ ap (λ (k : Bool). k || list_any is_large c) (list_any-append is_large a b ∙ ap (λ (k : Bool). k || list_any is_large b) e ∙ f) ∙ g)
    ∙ h

pub larges_reported : (tag seen : ℕ) (p q : Response) → list_any is_large (gained tag seen p q) ≡ true → q.large ≡ true
larges_reported tag seen p q e = by q.large refl
  where
    by : (b : Bool) → q.large ≡ b → q.large ≡ true
    by true is = is
    by false is =
        let none : list_any is_large (gained tag seen p q) ≡ false
        = none_of_four (head_gained tag seen p.head q.head) (map (message_news tag seen) (drop (length p.messages) q.messages)) (large_gained tag seen q.large)
        (end_gained tag (option_map (λ (x : Outcome). end_news x seen) q.end)) (head_no_large tag seen p.head q.head)
        (messages_no_large tag seen (drop (length p.messages) q.messages)) (ap (λ (b : Bool). list_any is_large (large_gained tag seen b)) is) (end_no_large tag seen q.end) in
        absurd (let bad : true ≡ false = sym e ∙ none in (cc))
