-- What a response says of the window of its stream is what the link says, while it goes on.
use Rattle.std.proofs.Common.{◌≡◌, ◌∷◌, ◌++◌, ◌||◌, ◌&&◌, ◌==◌, not, ap, arith, refl, subst, sym, ◌∙◌, Bool, true, false, List, [], Option, None, Some, ℕ, ◌+◌, append-nil, flat_map, fold, if◌then◌else◌, is_none, is_some, length, nat_lt, unwrap_or}
use Rattle.std.specs.List.{list_all}
use Rattle.std.specs.Option.{option_map, option_map_or, option_or}
use Rattle.std.proofs.lemmas.Bool.{eqb-true}
use Rattle.attempt_ledger.specs.declared.row.RowCause.TheVariants as cause
use Rattle.grpc_base.specs.ErrorCodes.{cancel, flow_control_error, protocol_error}
use Rattle.grpc_base.specs.declared.code.Code.TheVariants as code
use Rattle.grpc_frame.specs.Messages.{Messages, messages_of}
use Rattle.grpc_frame.specs.declared.next.MessageFault.{MessageFault}
use Rattle.grpc_frame.specs.declared.next.MessageFault.TheVariants as flaw
use Rattle.grpc_meta.specs.ResponseFields.{shown_of}
use Rattle.h2_frame.specs.Frames.{FrameSeen, has_flag}
use Rattle.h2_frame.specs.Numbers.{ack_flag, continuation_type, data_type, end_stream_flag, goaway_type, headers_type, rst_stream_type, settings_type, window_update_type}
use Rattle.h2_frame.specs.Payloads.{content_of, increment, last_stream, reset_code}
use Rattle.h2_frame.specs.declared.payload.Setting.{Setting}
use Rattle.link_actions.proofs.Receiving.{no_settings, not_kind}
use Rattle.link_actions.proofs.History.{given, raised_more, setting_more, used_same}
use Rattle.link_actions.proofs.Lists.{if_false, if_true, none_of, on_if}
use Rattle.link_actions.proofs.QuietKept.{joined, raise_none}
use Rattle.link_actions.proofs.Settings.{given_first}
use Rattle.link_actions.proofs.Owed.{read_same}
use Rattle.link_actions.proofs.Written.{preface_unwritten, raised_still, used_more}
use Rattle.link_actions.specs.Laws.{with_written}
use Rattle.session_actions.specs.Links.{is_settings, settings_of}
use Rattle.session_actions.specs.Reading.{initial_window, is_data_on, is_of_block, is_setting, largest_window, raise_by, raised, setting, used}
use Rattle.session_actions.specs.Responses.{block_end, ended, ended_by_block, http_code, http_status, initial_after, is_head, is_interim, no_response, plain_end, response_after, response_in, with_block, with_data, with_fault, with_head, with_messages, with_own_frame, with_read, with_reset, with_stream_frame, with_trailers, with_traffic, with_update}
use Rattle.session_actions.specs.Words.{find_last}
use Rattle.session_actions.specs.declared.link.Block.{Block}
use Rattle.session_actions.specs.declared.link.Link.{Link}
use Rattle.session_actions.specs.declared.link.ReadFrame.{ReadFrame}
use Rattle.session_actions.specs.declared.link.Sent.{Sent}
use Rattle.session_actions.specs.declared.link.Sent.TheVariants as sent
use Rattle.session_actions.specs.declared.link.Traffic.{Traffic}
use Rattle.session_actions.specs.declared.link.Traffic.TheVariants as traffic
use Rattle.session_actions.specs.declared.response.Outcome.{Outcome}
use Rattle.session_actions.specs.declared.response.Response.{Response}
use Rattle.link_actions.specs.ResponseActions.Gained.{is_listed_fairly}

-- the same windows
pub record SameWindows (p q : Response) : Type 0 where
  pub initial : q.initial ≡ p.initial
  pub raised_ : q.raised ≡ p.raised
  pub used_ : q.used ≡ p.used

itself : (p : Response) → SameWindows p p
itself p = record { initial = refl; raised_ = refl; used_ = refl }

ended_same : (o : Outcome) (p : Response) → SameWindows p (ended o p)
ended_same o p = record { initial = refl; raised_ = refl; used_ = refl }

fault_same : (o : Option MessageFault) (q : Response) → SameWindows q (with_fault o q)
fault_same (Some (flaw.TooLarge len)) q = record { initial = refl; raised_ = refl; used_ = refl }
fault_same (Some flaw.BadFlag) q = record { initial = refl; raised_ = refl; used_ = refl }
fault_same None q = on_if (SameWindows q) q.closes (ended (plain_end code.Unknown cause.Http false (Some cancel)) q) q (λ e. ended_same (plain_end code.Unknown cause.Http false (Some cancel)) q) (λ e. itself q)

data_same : (limit : ℕ) (p : Response) (f : FrameSeen) → SameWindows p (with_data limit p f)
data_same limit p f =
    let m : Messages = messages_of limit (p.rest ++ content_of f) in
    let o : Outcome = plain_end code.Internal cause.Framing false (Some protocol_error) in
    let q : Response = with_messages p m (has_flag f.flags end_stream_flag) in
    on_if (SameWindows p) (is_none p.head) (ended o p) (with_fault m.fault q) (λ e. ended_same o p)
    (λ e. (let s = fault_same m.fault q in record { initial = s.initial; raised_ = s.raised_; used_ = s.used_ }))

head_same : (p : Response) (b : Block) → SameWindows p (with_head p b)
head_same p b =
    let o : Outcome = block_end (http_code b.fields) cause.Http cancel b in
    on_if (SameWindows p) (is_head b.fields) (record p { head = Some (shown_of b.fields) }) (ended o p) (λ e. record { initial = refl; raised_ = refl; used_ = refl }) (λ e. ended_same o p)

block_same : (p : Response) (b : Block) → SameWindows p (with_block p b)
block_same p b =
    let afterwards : Response = if is_some p.head || is_none (http_status b.fields) then ended_by_block b p else with_head p b in
    let broken : SameWindows p (ended_by_block b p) = ended_same (block_end code.Internal cause.Framing protocol_error b) p in
    on_if (SameWindows p) (is_none p.head && is_interim (http_status b.fields)) (if b.ends then ended_by_block b p else p) (if b.ends then with_trailers p b else afterwards)
    (λ e. on_if (SameWindows p) b.ends (ended_by_block b p) p (λ i. broken) (λ i. itself p))
    (λ e. on_if (SameWindows p) b.ends (with_trailers p b) afterwards (λ i. record { initial = refl; raised_ = refl; used_ = refl })
    (λ i. on_if (SameWindows p) (is_some p.head || is_none (http_status b.fields)) (ended_by_block b p) (with_head p b) (λ j. broken) (λ j. head_same p b)))

-- what is written gives no setting
initial_still : (l : Link) (x : Sent) → initial_window (with_written x l) ≡ initial_window l
initial_still l x = ap (λ (rs : List ReadFrame). unwrap_or (given 4 (flat_map (λ (r : ReadFrame). settings_of r.frame) rs)) 65535) (read_same l x)

-- those of a stream of the link
pub record AreWindows (k : ℕ) (l : Link) (p : Response) : Type 0 where
  pub initial : p.initial ≡ initial_window l
  pub raised_ : p.raised ≡ raised k l
  pub used_ : p.used ≡ used k l

abbrev Windows : ℕ → Link → Response → Type 0
Windows k l p = p.end ≡ None → p.large ≡ false → AreWindows k l p

-- a frame that is read
abbrev read_more : ReadFrame → Link → Link
read_more r l = record l { traffic = l.traffic ++ traffic.Read r ∷ [] }

none_given : (l : Link) (r : ReadFrame) → is_settings r.frame ≡ false → initial_window (read_more r l) ≡ initial_window l
none_given l r none =
    ap (λ (o : Option ℕ). unwrap_or o 65535) (setting_more 4 l r []) ∙ ap (λ (ss : List Setting). unwrap_or (option_or (given 4 ss) (setting 4 l)) 65535) (no_settings r.frame none)

same_read : (k : ℕ) (l : Link) (r : ReadFrame) (p q : Response) → is_settings r.frame ≡ false → raise_by k r.frame ≡ 0 → SameWindows p q → AreWindows k l p → AreWindows k (read_more r l) q
same_read k l r p q none raise same is =
    let none_ : List FrameSeen = [] in
    let more : raised k (read_more r l) ≡ raised k l + raise_by k r.frame = raised_more k l r none_ in
    let all : raised k (read_more r l) ≡ raised k l = omega (arith, more, raise) in
    record {
      initial = same.initial ∙ is.initial ∙ sym (none_given l r none);
      raised_ = same.raised_ ∙ is.raised_ ∙ sym all;
      used_ = same.used_ ∙ is.used_ ∙ sym (used_same k l r none_);
    }

value_by : (o : Option Setting) (n : ℕ) → option_map_or (λ (x : Setting). x.value) o n ≡ unwrap_or (option_map (λ (x : Setting). x.value) o) n
value_by None n = refl
value_by (Some x) n = refl

settings_read : (k : ℕ) (l : Link) (r : ReadFrame) (p : Response) → (r.frame.kind == window_update_type) ≡ false → AreWindows k l p
    → AreWindows k (read_more r l) (record p { initial = initial_after p.initial r.frame })
settings_read k l r p no_update is =
    let none_ : List FrameSeen = [] in
    let o : ℕ = 0 in
    let raise : raise_by k r.frame ≡ 0 = if_false ((r.frame.kind == window_update_type) && (r.frame.stream == k)) (increment r.frame.payload) o (ap (λ (b : Bool). b && (r.frame.stream == k)) no_update) in
    let more : raised k (read_more r l) ≡ raised k l + raise_by k r.frame = raised_more k l r none_ in
    let all : raised k (read_more r l) ≡ raised k l = omega (arith, more, raise) in
    record {
      initial = value_by (find_last (is_setting 4) (settings_of r.frame)) p.initial ∙ ap (λ (n : ℕ). unwrap_or (given 4 (settings_of r.frame)) n) is.initial
          ∙ given_first (given 4 (settings_of r.frame)) (setting 4 l) 65535 ∙ sym (ap (λ (x : Option ℕ). unwrap_or x 65535) (setting_more 4 l r none_));
      raised_ = is.raised_ ∙ sym all;
      used_ = is.used_ ∙ sym (used_same k l r none_);
    }

both_ways : (b : Bool) → b ≡ true → b ≡ false → ⊥
both_ways true e h = (cc)
both_ways false e h = (cc)

never_end : (o : Outcome) (p : Response) (X : Type 0) → (ended o p).end ≡ None → X
never_end o p X e = absurd (let no : ⊥ = (cc) in no)

-- WINDOW_UPDATE
update_read : (k : ℕ) (l : Link) (r : ReadFrame) (p : Response) → (r.frame.kind == window_update_type) ≡ true → (r.frame.stream == k) ≡ true → is_settings r.frame ≡ false → AreWindows k l p
    → Windows k (read_more r l) (with_update p (increment r.frame.payload))
update_read k l r p kind own none is =
    let by : ℕ = increment r.frame.payload in
    let zero_ : Outcome = plain_end code.Internal cause.Framing false (Some protocol_error) in
    let wide : Outcome = plain_end code.Internal cause.Framing false (Some flow_control_error) in
    let none_ : List FrameSeen = [] in
    let o : ℕ = 0 in
    let raise : raise_by k r.frame ≡ by = if_true ((r.frame.kind == window_update_type) && (r.frame.stream == k)) by o (ap (λ (b : Bool). b && (r.frame.stream == k)) kind ∙ own) in
    let more : raised k (read_more r l) ≡ raised k l + raise_by k r.frame = raised_more k l r none_ in
    let W : Response → Type 0 = λ q. Windows k (read_more r l) q in
    on_if W (by == 0) (ended zero_ p) _ (λ e goes. never_end zero_ p _ goes)
    (λ e. on_if W (nat_lt (largest_window + p.used) (p.initial + p.raised + by)) (ended wide p) (record p { raised = p.raised + by }) (λ h goes. never_end wide p _ goes)
    (λ h goes small. record {
      initial = is.initial ∙ sym (none_given l r none);
      raised_ = (let was : p.raised ≡ raised k l = is.raised_ in omega (arith, was, raise, more));
      used_ = is.used_ ∙ sym (used_same k l r none_);
    }))

-- a frame of the stream without a header list
own_read : (limit k : ℕ) (l : Link) (r : ReadFrame) (p : Response) → (r.frame.stream == k) ≡ true → is_settings r.frame ≡ false → AreWindows k l p
    → Windows k (read_more r l) (with_own_frame limit p r.frame)
own_read limit k l r p own none is =
    let f : FrameSeen = r.frame in
    let W : Response → Type 0 = λ q. Windows k (read_more r l) q in
    let still : (f.kind == window_update_type) ≡ false → raise_by k f ≡ 0
    = λ e. (let o : ℕ = 0 in if_false ((f.kind == window_update_type) && (f.stream == k)) (increment f.payload) o (ap (λ (b : Bool). b && (f.stream == k)) e)) in
    on_if W (f.kind == data_type) (with_data limit p f) _
    (λ e goes small. same_read k l r p (with_data limit p f) none (still (not_kind f.kind data_type window_update_type false (eqb-true f.kind data_type e) refl)) (data_same limit p f) is)
    (λ e. on_if W (f.kind == rst_stream_type) (with_reset p (reset_code f.payload)) _ (λ h goes. never_end _ p _ goes)
    (λ h. on_if W (f.kind == window_update_type) (with_update p (increment f.payload)) p (λ i. update_read k l r p i own none is)
    (λ i goes small. same_read k l r p p none (still i) (itself p) is)))

-- with one, which is of a header block
fair_by : (a b : Bool) → (a || b) ≡ true → b ≡ false → a ≡ true
fair_by true b e h = refl
fair_by false true e h = absurd (cc)
fair_by false false e h = absurd (cc)

of_block_by : (kind : ℕ) (b : Bool) → (kind == headers_type) ≡ b → (b || (kind == continuation_type)) ≡ true → (kind == window_update_type) ≡ false
of_block_by kind true is e = not_kind kind headers_type window_update_type false (eqb-true kind headers_type is) refl
of_block_by kind false is e = not_kind kind continuation_type window_update_type false (eqb-true kind continuation_type e) refl

stream_read : (limit k : ℕ) (l : Link) (r : ReadFrame) (p : Response) (o : Option Block) → (is_of_block r.frame || is_none o) ≡ true → (r.frame.stream == k) ≡ true → is_settings r.frame ≡ false
    → AreWindows k l p → Windows k (read_more r l) (with_stream_frame limit p r.frame o)
stream_read limit k l r p (Some b) fair own none is = λ goes small.
    let f : FrameSeen = r.frame in
    let o : ℕ = 0 in
    let of_b : is_of_block f ≡ true = fair_by (is_of_block f) false fair refl in
    let no_update : (f.kind == window_update_type) ≡ false = of_block_by f.kind (f.kind == headers_type) refl of_b in
    let raise : raise_by k f ≡ 0 = if_false ((f.kind == window_update_type) && (f.stream == k)) (increment f.payload) o (ap (λ (c : Bool). c && (f.stream == k)) no_update) in
    same_read k l r p (with_block p b) none raise (block_same p b) is
stream_read limit k l r p None fair own none is = own_read limit k l r p own none is

kind_by : (kind n : ℕ) (b c : Bool) → (kind == n) ≡ b → (b && c) ≡ true → kind ≡ n
kind_by kind n true c is e = eqb-true kind n is
kind_by kind n false c is e = absurd (cc)

read_windows : (limit k : ℕ) (l : Link) (r : ReadFrame) (p : Response) → (is_of_block r.frame || is_none r.block) ≡ true → AreWindows k l p → Windows k (read_more r l) (with_read limit k p r)
read_windows limit k l r p fair is =
    let f : FrameSeen = r.frame in
    let W : Response → Type 0 = λ q. Windows k (read_more r l) q in
    let unseen : Outcome = plain_end code.Unavailable cause.Goaway true (Some cancel) in
    on_if W (is_settings f) (record p { initial = initial_after p.initial f }) _
    (λ e goes small.
    settings_read k l r p (not_kind f.kind settings_type window_update_type false (kind_by f.kind settings_type (f.kind == settings_type) (not (has_flag f.flags ack_flag)) refl e) refl) is)
    (λ none.
    on_if W ((f.kind == goaway_type) && nat_lt (last_stream f.payload) k) (ended unseen p) _ (λ e goes. never_end unseen p _ goes)
    (λ e. on_if W (f.stream == k) (with_stream_frame limit p f r.block) p (λ own. stream_read limit k l r p r.block fair own none is)
    (λ other goes small. same_read k l r p p none (raise_none f k other) (itself p) is)))

-- a frame that is written
wrote_by : (k : ℕ) (l : Link) (f : FrameSeen) (b : Bool) → (k == 0) ≡ false → ((f.kind == data_type) && (f.stream == k)) ≡ b
    → (if is_data_on k f then length f.payload else 0) ≡ (if b then length f.payload else 0)
wrote_by k l f b some e =
    ap (λ (c : Bool). if (f.kind == data_type) && (c || (f.stream == k)) then length f.payload else 0) some ∙ ap (λ (c : Bool). if c then length f.payload else 0) e

wrote_windows : (k : ℕ) (l : Link) (f : FrameSeen) (p : Response) (b : Bool) → ((f.kind == data_type) && (f.stream == k)) ≡ b → (k == 0) ≡ false → AreWindows k l p
    → AreWindows k (with_written (sent.Frame f) l) (if b then record p { used = p.used + length f.payload } else p)
wrote_windows k l f p true e some is =
    let more : used k (with_written (sent.Frame f) l) ≡ used k l + (if is_data_on k f then length f.payload else 0) = used_more l f k in
    let by : (if is_data_on k f then length f.payload else 0) ≡ length f.payload = wrote_by k l f true some e in
    let was : p.used ≡ used k l = is.used_ in
    record { initial = is.initial ∙ sym (initial_still l (sent.Frame f)); raised_ = is.raised_ ∙ sym (raised_still l (sent.Frame f) k); used_ = (omega (arith, more, by, was)) }
wrote_windows k l f p false e some is =
    let more : used k (with_written (sent.Frame f) l) ≡ used k l + (if is_data_on k f then length f.payload else 0) = used_more l f k in
    let by : (if is_data_on k f then length f.payload else 0) ≡ 0 = wrote_by k l f false some e in
    let was : p.used ≡ used k l = is.used_ in
    record { initial = is.initial ∙ sym (initial_still l (sent.Frame f)); raised_ = is.raised_ ∙ sym (raised_still l (sent.Frame f) k); used_ = (omega (arith, more, by, was)) }

preface_windows : (k : ℕ) (l : Link) (p : Response) → AreWindows k l p → AreWindows k (with_written sent.Preface l) p
preface_windows k l p is =
    let same = preface_unwritten l in
    record { initial = is.initial ∙ sym (initial_still l sent.Preface); raised_ = is.raised_ ∙ sym (same.raised_is k); used_ = is.used_ ∙ sym (same.used_is k) }

-- one thing more
traffic_windows : (limit k : ℕ) (l : Link) (p : Response) (t : Traffic) → (k == 0) ≡ false → is_listed_fairly t ≡ true → AreWindows k l p
    → Windows k (record l { traffic = l.traffic ++ t ∷ [] }) (with_traffic limit k p t)
traffic_windows limit k l p (traffic.Read r) some fair is = read_windows limit k l r p fair is
traffic_windows limit k l p (traffic.Written sent.Preface) some fair is = λ goes small. preface_windows k l p is
traffic_windows limit k l p (traffic.Written (sent.Frame f)) some fair is = λ goes small. wrote_windows k l f p ((f.kind == data_type) && (f.stream == k)) refl some is

none_is : (o : Option Outcome) → is_some o ≡ false → o ≡ None
none_is None e = refl
none_is (Some x) e = absurd (cc)

over_by : (p : Response) → p.end ≡ None → p.large ≡ false → (is_some p.end || p.large) ≡ true → ⊥
over_by p goes small e = both_ways (is_some p.end || p.large) e (ap (λ (o : Option Outcome). is_some o || p.large) goes ∙ small)

after_windows : (limit k : ℕ) (l : Link) (p : Response) (t : Traffic) → (k == 0) ≡ false → is_listed_fairly t ≡ true → Windows k l p
    → Windows k (record l { traffic = l.traffic ++ t ∷ [] }) (response_after limit k p t)
after_windows limit k l p t some fair is =
    on_if (λ (q : Response). Windows k (record l { traffic = l.traffic ++ t ∷ [] }) q) (is_some p.end || p.large) p (with_traffic limit k p t)
    (λ e goes small. absurd (over_by p goes small e))
    (λ e. (let parts = none_of (is_some p.end) p.large e in traffic_windows limit k l p t some fair (is (none_is p.end parts.0) parts.1)))

both_parts : (a b : Bool) → (a && b) ≡ true → (a ≡ true) × (b ≡ true)
both_parts true true e = (refl, refl)
both_parts true false e = absurd (cc)
both_parts false b e = absurd (cc)

all_windows : (limit k : ℕ) (l : Link) (p : Response) (ts : List Traffic) → (k == 0) ≡ false → list_all is_listed_fairly ts ≡ true → Windows k l p
    → Windows k (record l { traffic = l.traffic ++ ts }) (fold (response_after limit k) p ts)
all_windows limit k l p [] some fair is = subst (λ (ts : List Traffic). Windows k (record l { traffic = ts }) p) (sym (append-nil l.traffic)) is
all_windows limit k l p (t ∷ ts) some fair is =
    let parts = both_parts (is_listed_fairly t) (list_all is_listed_fairly ts) fair in
    let m : Link = record l { traffic = l.traffic ++ t ∷ [] } in
    let q : Response = response_after limit k p t in
    subst (λ (us : List Traffic). Windows k (record l { traffic = us }) (fold (response_after limit k) q ts)) (joined l.traffic (t ∷ []) ts)
    (all_windows limit k m q ts some parts.1 (after_windows limit k l p t some parts.0 is))

-- from the first thing that passed
pub windows_are : (limit k : ℕ) (l : Link) → (k == 0) ≡ false → list_all is_listed_fairly l.traffic ≡ true → (response_in limit k l.traffic).end ≡ None
    → (response_in limit k l.traffic).large ≡ false → AreWindows k l (response_in limit k l.traffic)
windows_are limit k l some fair goes small =
    let first : Link = record l { traffic = [] } in
    let all : Windows k (record l { traffic = [] ++ l.traffic }) (response_in limit k l.traffic)
    = all_windows limit k first no_response l.traffic some fair (λ e h. record { initial = refl; raised_ = refl; used_ = refl }) in
    let is = all goes small in
    record { initial = is.initial; raised_ = is.raised_; used_ = is.used_ }
