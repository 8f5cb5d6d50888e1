-- What the link makes of a frame on the stream of an attempt, as it stands there.
use Rattle.std.proofs.Common.{◌≡◌, ◌∷◌, ◌||◌, ◌&&◌, ◌==◌, not, ap, refl, subst, sym, ◌∙◌, Bool, true, false, List, [], Option, None, Some, Ok, ℕ, pos, ◌+ℤ◌, ◌+◌, if◌then◌else◌, int_lt, is_none, length, min}
use Rattle.std.specs.List.{remove}
use Rattle.grpc_base.specs.ErrorCodes.{flow_control_error, protocol_error}
use Rattle.grpc_base.specs.declared.fields.Field.{Field}
use Rattle.h2_frame.specs.Frames.{FrameSeen, has_flag}
use Rattle.h2_frame.specs.Numbers.{continuation_type, data_type, end_stream_flag, goaway_type, headers_type, ping_type, rst_stream_type, settings_type, window_update_type}
use Rattle.h2_frame.specs.Payloads.{content_of, increment, last_stream, reset_code}
use Rattle.h2_link.specs.LinkErrors as link
use Rattle.h2_link.specs.LinkErrors.{send_window}
use Rattle.h2_link.specs.Queues.{Queue, queued, sealed}
use Rattle.h2_link.specs.Status as h2
use Rattle.h2_link.specs.Steps.{applied, continuation_reported, data_effect, data_news, data_reported, fault_news, found_from, goaway_reported, headers_reported, is_numbered, judged, link_updated, listed, outcome, ping_reported, plain_reported, read_after, reset_reported, settings_reported, stream_updated, reported, unless, update_reported, window_reported, with_effect}
use Rattle.h2_link.specs.Wire.{Report, Wire, largest_window}
use Rattle.h2_link.specs.declared.control.Control.TheVariants as control
use Rattle.h2_link.specs.declared.live.LiveStream.{LiveStream}
use Rattle.h2_link.specs.declared.news.LinkNews.{LinkNews}
use Rattle.h2_link.specs.declared.news.LinkNews.TheVariants as report
use Rattle.link_actions.proofs.Receiving.{not_kind}
use Rattle.link_actions.proofs.Lists.{if_false, if_true, on_if}
use Rattle.session_actions.specs.declared.link.Block.{Block as Whole}
use Rattle.link_actions.proofs.StreamActions.BlockReported.{IsHeld, IsListed, reported_by}
use Rattle.link_actions.proofs.StreamActions.HeadersRead.{then_of}
use Rattle.link_actions.proofs.StreamActions.PlainRead.{Doing, IsStill, of_kind}
use Rattle.link_actions.specs.StreamActions.Laws.{Ends, GoesOn, Then, closed_code, data_then, update_then}

-- whether the stream ends
abbrev pub is_end : Then → Bool
is_end GoesOn = false
is_end (Ends code) = true

-- of a stream at a place: what is reported; where the stream ends it is gone, and else nothing was reset
pub record ReportsThat (w : Wire) (i : ℕ) (t : Report) (news : List LinkNews) (ends : Bool) : Type 0 where
  pub news_are : t.news ≡ news
  pub live : ends ≡ true → t.wire.live ≡ remove w.live i
  pub waiting : t.wire.waiting ≡ w.waiting
  pub fresh : ends ≡ false → t.wire.queue.fresh ≡ 0

after_outcome : (w : Wire) (i seen : ℕ) (t : Report) (news : List LinkNews) (ends : Bool) → ReportsThat w i t news ends → ReportsThat w i (outcome w seen (Ok t)) news ends
after_outcome w i seen t news ends is = record { news_are = is.news_are; live = is.live; waiting = is.waiting; fresh = is.fresh }

pub reports_of : (w : Wire) (f : FrameSeen) (i seen : ℕ) (t : Report) (news : List LinkNews) (ends : Bool) → reported w f ≡ outcome w seen (Ok t) → ReportsThat w i t news ends
    → ReportsThat w i (reported w f) news ends
reports_of w f i seen t news ends e is = subst (λ (x : Report). ReportsThat w i x news ends) (sym e) (after_outcome w i seen t news ends is)

-- DATA
data_is_reported : (w : Wire) (f : FrameSeen) (i : ℕ) (y : LiveStream) → link.link_error w f ≡ None → f.kind ≡ data_type → found_from (is_numbered f.stream) 0 w.live ≡ Some (i, y)
    → reported w f ≡ outcome w (read_after w.read (9 + length f.payload)) (Ok (data_reported (record w { queue = sealed w.queue }) f (read_after w.read (9 + length f.payload)) (Some (i, y))))
data_is_reported w f i y fair kind found =
    let seen : ℕ = read_after w.read (9 + length f.payload) in
    let v : Wire = record w { queue = sealed w.queue } in
    let at : Option (ℕ × LiveStream) = found_from (is_numbered f.stream) 0 w.live in
    let applied_is : applied v f seen ≡ Ok (plain_reported v f seen)
    = if_false (f.kind == headers_type) (headers_reported v f seen) _ (not_kind f.kind data_type headers_type false kind refl)
    ∙ if_false (f.kind == continuation_type) (continuation_reported v f seen w.block) (Ok (plain_reported v f seen)) (not_kind f.kind data_type continuation_type false kind refl) in
    let plain_is : plain_reported v f seen ≡ data_reported v f seen at
    = if_true (f.kind == data_type) (data_reported v f seen at) _ (not_kind f.kind data_type data_type true kind refl) in
    ap (judged w f) fair ∙ ap (outcome w seen) applied_is ∙ ap (λ (t : Report). outcome w seen (Ok t)) plain_is
    ∙ ap (λ (o : Option (ℕ × LiveStream)). outcome w seen (Ok (data_reported v f seen o))) found

abbrev data_out : Wire → Queue → ℕ → ℕ → FrameSeen → LiveStream → Bool → Report
data_out w q i seen f y b = record { wire = with_effect (record w { queue = q }) i y.number (data_effect y b); news = data_news y.tag (content_of f) b seen (data_effect y b) }

data_cases : (w : Wire) (q : Queue) (i seen : ℕ) (f : FrameSeen) (y : LiveStream) (we h b : Bool) → q.fresh ≡ 0
    → ReportsThat w i (data_out w q i seen f (record y { head = h }) b) (if h then report.Data y.tag (content_of f) b seen ∷ [] else report.Fault y.tag protocol_error seen ∷ []) (is_end (data_then h we b))
data_cases w q i seen f y we false b none = record { news_are = refl; live = λ e. refl; waiting = refl; fresh = λ e. absurd (let no : ⊥ = (cc) in no) }
data_cases w q i seen f y we true true none = record { news_are = refl; live = λ e. refl; waiting = refl; fresh = λ e. absurd (let no : ⊥ = (cc) in no) }
data_cases w q i seen f y we true false none = record { news_are = refl; live = λ e. absurd (let no : ⊥ = (cc) in no); waiting = refl; fresh = λ e. none }

link_closed : (len : ℕ) (q : Queue) → q.fresh ≡ 0 → (link_updated len q).fresh ≡ 0
link_closed len q none = on_if (λ (x : Queue). x.fresh ≡ 0) (len == 0) q (queued q (control.LinkUpdate len)) (λ e. none) (λ e. refl)

stream_closed : (y : LiveStream) (len : ℕ) (b : Bool) (q : Queue) → q.fresh ≡ 0 → (stream_updated y len b q).fresh ≡ 0
stream_closed y len b q none =
    on_if (λ (x : Queue). x.fresh ≡ 0) (b || not y.head || (len == 0)) q (queued q (control.StreamUpdate y.number len)) (λ e. none) (λ e. refl)

abbrev pub data_list : Bool → FrameSeen → ℕ → ℕ → List LinkNews
data_list h f tag seen = if h then report.Data tag (content_of f) (has_flag f.flags end_stream_flag) seen ∷ [] else report.Fault tag protocol_error seen ∷ []

pub data_reports : (w : Wire) (f : FrameSeen) (i : ℕ) (y : LiveStream) (we h : Bool) → link.link_error w f ≡ None → f.kind ≡ data_type
    → found_from (is_numbered f.stream) 0 w.live ≡ Some (i, y) → y.head ≡ h
    → ReportsThat w i (reported w f) (data_list h f y.tag (read_after w.read (9 + length f.payload))) (is_end (data_then h we (has_flag f.flags end_stream_flag)))
data_reports w f i y we h fair kind found known =
    let seen : ℕ = read_after w.read (9 + length f.payload) in
    let b : Bool = has_flag f.flags end_stream_flag in
    let len : ℕ = length f.payload in
    let q : Queue = stream_updated y len b (link_updated len (sealed w.queue)) in
    let none : q.fresh ≡ 0 = stream_closed y len b (link_updated len (sealed w.queue)) (link_closed len (sealed w.queue) refl) in
    let T : Bool → Type 0 = λ k. ReportsThat w i (data_out w q i seen f (record y { head = k }) b) (data_list h f y.tag seen) (is_end (data_then h we b)) in
    reports_of w f i seen (data_reported (record w { queue = sealed w.queue }) f seen (Some (i, y))) (data_list h f y.tag seen) (is_end (data_then h we b))
    (data_is_reported w f i y fair kind found) (subst T (sym known) (data_cases w q i seen f y we h b none))

-- header blocks
abbrev list_out : Wire → ℕ → ℕ → LiveStream → List Field → Bool → Doing → Report
list_out u i seen y fields ends e = record { wire = with_effect u i y.number e; news = report.Fields y.tag fields ends seen ∷ fault_news y.tag seen e }

-- a stream error, where the block ends the stream
abbrev pub IsExtra : Bool → ℕ → List LinkNews → Type 0
IsExtra ends tag [] = Unit {0}
IsExtra ends tag (report.Fault t c seen ∷ []) = (t ≡ tag) × (ends ≡ true)
IsExtra ends tag _ = ⊥

pub record ReportsBlock (w : Wire) (i : ℕ) (t : Report) (y : LiveStream) (fields : List Field) (closes : Bool) (seen : ℕ) (ends : Bool) : Type 0 where
  pub extra : List LinkNews
  pub reports_that : ReportsThat w i t (report.Fields y.tag fields closes seen ∷ extra) ends
  pub is_extra : IsExtra ends y.tag extra

list_closes : (w u : Wire) (i seen : ℕ) (y : LiveStream) (fields : List Field) (c : Bool) (e : Doing) (q : Bool) → u.live ≡ w.live → u.waiting ≡ w.waiting
    → ReportsThat w i (list_out u i seen y fields c e) (report.Fields y.tag fields c seen ∷ []) true
    → ReportsBlock w i (list_out u i seen y fields c (unless (if q then Some protocol_error else None) e)) y fields c seen true
list_closes w u i seen y fields c e true live waiting is = record {
  extra = report.Fault y.tag protocol_error seen ∷ [];
  reports_that = record { news_are = refl; live = λ h. ap (λ (xs : List LiveStream). remove xs i) live; waiting = waiting; fresh = λ h. absurd (let no : ⊥ = (cc) in no) };
  is_extra = (refl, refl);
}
list_closes w u i seen y fields c e false live waiting is = record { extra = []; reports_that = is; is_extra = tt }

list_goes : (w u : Wire) (i seen : ℕ) (y : LiveStream) (fields : List Field) (c : Bool) (e : Doing) (q k : Bool) → u.live ≡ w.live → u.waiting ≡ w.waiting
    → ReportsThat w i (list_out u i seen y fields c e) (report.Fields y.tag fields c seen ∷ []) false
    → ReportsBlock w i (list_out u i seen y fields c (unless (if q then None else if k then Some protocol_error else None) e)) y fields c seen (if q then false else k)
list_goes w u i seen y fields c e true k live waiting is = record { extra = []; reports_that = is; is_extra = tt }
list_goes w u i seen y fields c e false false live waiting is = record { extra = []; reports_that = is; is_extra = tt }
list_goes w u i seen y fields c e false true live waiting is = record {
  extra = report.Fault y.tag protocol_error seen ∷ [];
  reports_that = record { news_are = refl; live = λ h. ap (λ (xs : List LiveStream). remove xs i) live; waiting = waiting; fresh = λ h. absurd (let no : ⊥ = (cc) in no) };
  is_extra = (refl, refl);
}

closes_end : (q we : Bool) → is_end (if q then Ends (Some protocol_error) else Ends (closed_code we)) ≡ true
closes_end true we = refl
closes_end false we = refl

goes_end : (q k : Bool) → is_end (if q then GoesOn else if k then Ends (Some protocol_error) else GoesOn) ≡ (if q then false else k)
goes_end true k = refl
goes_end false true = refl
goes_end false false = refl

list_by : (w u : Wire) (i seen : ℕ) (y : LiveStream) (fields : List Field) (ends we : Bool) → u.live ≡ w.live → u.waiting ≡ w.waiting → u.queue.fresh ≡ 0
    → ReportsBlock w i (listed u fields ends seen (Some (i, y))) y fields ends seen (is_end (then_of y.head (h2.is_interim (h2.http_status fields)) ends (is_none (h2.http_status fields)) we))
list_by w u i seen y fields true we live waiting none =
    let q : Bool = not y.head && h2.is_interim (h2.http_status fields) in
    let c : Bool = true in
    let B : Bool → Type 0 = λ b. ReportsBlock w i (listed u fields true seen (Some (i, y))) y fields true seen b in
    subst B (sym (closes_end q we))
    (list_closes w u i seen y fields c _ q live waiting
    (record { news_are = refl; live = λ h. ap (λ (xs : List LiveStream). remove xs i) live; waiting = waiting; fresh = λ h. absurd (let no : ⊥ = (cc) in no) }))
list_by w u i seen y fields false we live waiting none =
    let q : Bool = not y.head && h2.is_interim (h2.http_status fields) in
    let k : Bool = y.head || is_none (h2.http_status fields) in
    let c : Bool = false in
    let B : Bool → Type 0 = λ b. ReportsBlock w i (listed u fields false seen (Some (i, y))) y fields false seen b in
    subst B (sym (goes_end q k))
    (list_goes w u i seen y fields c _ q k live waiting
    (record { news_are = refl; live = λ h. absurd (let no : ⊥ = (cc) in no); waiting = waiting; fresh = λ h. none }))

pub block_reports : (w : Wire) (f : FrameSeen) (i : ℕ) (y : LiveStream) (b : Whole) (we : Bool) → link.link_error w f ≡ None
    → IsListed w f b.fields b.ends (read_after w.read (9 + length f.payload)) → found_from (is_numbered f.stream) 0 w.live ≡ Some (i, y)
    → ReportsBlock w i (reported w f) y b.fields b.ends (read_after w.read (9 + length f.payload))
    (is_end (then_of y.head (h2.is_interim (h2.http_status b.fields)) b.ends (is_none (h2.http_status b.fields)) we))
block_reports w f i y b we fair li found =
    let seen : ℕ = read_after w.read (9 + length f.payload) in
    let u : Wire = record w { queue = sealed w.queue; block = li.kept; table = li.table } in
    let t : Report = listed u b.fields b.ends seen (Some (i, y)) in
    let applied_is : applied (record w { queue = sealed w.queue }) f seen ≡ Ok t = li.applied_is ∙ ap (λ (o : Option (ℕ × LiveStream)). Ok (listed u b.fields b.ends seen o)) found in
    let is : ReportsBlock w i t y b.fields b.ends seen (is_end (then_of y.head (h2.is_interim (h2.http_status b.fields)) b.ends (is_none (h2.http_status b.fields)) we))
    = list_by w u i seen y b.fields b.ends we refl refl refl in
    record {
      extra = is.extra;
      reports_that = reports_of w f i seen t (report.Fields y.tag b.fields b.ends seen ∷ is.extra) _ (reported_by w f t fair applied_is) is.reports_that;
      is_extra = is.is_extra;
    }

pub part_reports : (w : Wire) (f : FrameSeen) (i : ℕ) → link.link_error w f ≡ None → IsHeld w f (read_after w.read (9 + length f.payload)) → ReportsThat w i (reported w f) [] false
part_reports w f i fair held =
    let seen : ℕ = read_after w.read (9 + length f.payload) in
    let t : Report = record { wire = record w { queue = sealed w.queue; block = Some held.block }; news = [] } in
    let none : List LinkNews = [] in
    let goes : Bool = false in
    reports_of w f i seen t none goes (reported_by w f t fair held.applied_is)
    (record { news_are = refl; live = λ h. absurd (let no : ⊥ = (cc) in no); waiting = refl; fresh = λ h. refl })

-- frames that say nothing of the link
still_reported : (w : Wire) (f : FrameSeen) → link.link_error w f ≡ None → IsStill f
    → reported w f ≡ outcome w (read_after w.read (9 + length f.payload))
    (Ok (if f.kind == rst_stream_type then reset_reported (record w { queue = sealed w.queue }) (reset_code f.payload) (read_after w.read (9 + length f.payload)) (found_from (is_numbered f.stream) 0 w.live)
    else if f.kind == window_update_type then update_reported (record w { queue = sealed w.queue }) f (read_after w.read (9 + length f.payload))
    else record { wire = record w { queue = sealed w.queue }; news = [] }))
still_reported w f fair is =
    let seen : ℕ = read_after w.read (9 + length f.payload) in
    let v : Wire = record w { queue = sealed w.queue } in
    let at : Option (ℕ × LiveStream) = found_from (is_numbered f.stream) 0 w.live in
    let rest : Report = if f.kind == window_update_type then update_reported v f seen else record { wire = v; news = [] } in
    let applied_is : applied v f seen ≡ Ok (plain_reported v f seen)
    = if_false (f.kind == headers_type) (headers_reported v f seen) _ is.no_headers
    ∙ if_false (f.kind == continuation_type) (continuation_reported v f seen w.block) (Ok (plain_reported v f seen)) is.no_continuation in
    let afterwards : Report = if f.kind == settings_type then settings_reported v f
    else if f.kind == ping_type then ping_reported v f else if f.kind == goaway_type then goaway_reported v (last_stream f.payload) seen else rest in
    let after_is : afterwards ≡ rest
    = if_false (f.kind == settings_type) (settings_reported v f) _ is.no_settings ∙ if_false (f.kind == ping_type) (ping_reported v f) _ is.no_ping
    ∙ if_false (f.kind == goaway_type) (goaway_reported v (last_stream f.payload) seen) rest is.no_goaway in
    let plain_is : plain_reported v f seen ≡ (if f.kind == rst_stream_type then reset_reported v (reset_code f.payload) seen at else afterwards)
    = if_false (f.kind == data_type) (data_reported v f seen at) (if f.kind == rst_stream_type then reset_reported v (reset_code f.payload) seen at else afterwards) is.no_data in
    ap (judged w f) fair ∙ ap (outcome w seen) applied_is ∙ ap (λ (t : Report). outcome w seen (Ok t)) plain_is
    ∙ ap (λ (t : Report). outcome w seen (Ok (if f.kind == rst_stream_type then reset_reported v (reset_code f.payload) seen at else t))) after_is

pub reset_reports : (w : Wire) (f : FrameSeen) (i : ℕ) (y : LiveStream) → link.link_error w f ≡ None → f.kind ≡ rst_stream_type → found_from (is_numbered f.stream) 0 w.live ≡ Some (i, y)
    → ReportsThat w i (reported w f) (report.Reset y.tag (reset_code f.payload) (read_after w.read (9 + length f.payload)) ∷ []) true
reset_reports w f i y fair kind found =
    let seen : ℕ = read_after w.read (9 + length f.payload) in
    let v : Wire = record w { queue = sealed w.queue } in
    let still : IsStill f = of_kind f rst_stream_type kind refl refl refl refl refl refl in
    let rest : Report = if f.kind == window_update_type then update_reported v f seen else record { wire = v; news = [] } in
    let there : Report = reset_reported v (reset_code f.payload) seen (found_from (is_numbered f.stream) 0 w.live) in
    let ends : Bool = true in
    reports_of w f i seen (reset_reported v (reset_code f.payload) seen (Some (i, y))) (report.Reset y.tag (reset_code f.payload) seen ∷ []) ends
    (still_reported w f fair still
    ∙ ap (λ (t : Report). outcome w seen (Ok t)) (if_true (f.kind == rst_stream_type) there rest (not_kind f.kind rst_stream_type rst_stream_type true kind refl))
    ∙ ap (λ (o : Option (ℕ × LiveStream)). outcome w seen (Ok (reset_reported v (reset_code f.payload) seen o))) found)
    (record { news_are = refl; live = λ h. refl; waiting = refl; fresh = λ h. absurd (let no : ⊥ = (cc) in no) })

pub other_reports : (w : Wire) (f : FrameSeen) (i : ℕ) → link.link_error w f ≡ None → IsStill f → (f.kind == rst_stream_type) ≡ false → (f.kind == window_update_type) ≡ false
    → ReportsThat w i (reported w f) [] false
other_reports w f i fair still no_reset no_update =
    let seen : ℕ = read_after w.read (9 + length f.payload) in
    let v : Wire = record w { queue = sealed w.queue } in
    let plain : Report = record { wire = v; news = [] } in
    let update : Report = update_reported v f seen in
    let there : Report = reset_reported v (reset_code f.payload) seen (found_from (is_numbered f.stream) 0 w.live) in
    let none : List LinkNews = [] in
    let goes : Bool = false in
    reports_of w f i seen plain none goes
    (still_reported w f fair still
    ∙ ap (λ (t : Report). outcome w seen (Ok t))
    (if_false (f.kind == rst_stream_type) there (if f.kind == window_update_type then update else plain) no_reset ∙ if_false (f.kind == window_update_type) update plain no_update))
    (record { news_are = refl; live = λ h. absurd (let no : ⊥ = (cc) in no); waiting = refl; fresh = λ h. refl })

-- WINDOW_UPDATE
abbrev pub update_list : Bool → Bool → ℕ → ℕ → List LinkNews
update_list z b tag seen = if z then report.Fault tag protocol_error seen ∷ [] else if b then report.Fault tag flow_control_error seen ∷ [] else []

abbrev update_out : Wire → ℕ → ℕ → LiveStream → Doing → Report
update_out v i seen y e = record { wire = with_effect v i y.number e; news = fault_news y.tag seen e }

update_cases : (w v : Wire) (i seen : ℕ) (y : LiveStream) (e : Doing) (z b : Bool) → v.live ≡ w.live → v.waiting ≡ w.waiting → ReportsThat w i (update_out v i seen y e) [] false
    → ReportsThat w i (update_out v i seen y (unless (if z then Some protocol_error else if b then Some flow_control_error else None) e)) (update_list z b y.tag seen)
    (is_end (if z then Ends (Some protocol_error) else if b then Ends (Some flow_control_error) else GoesOn))
update_cases w v i seen y e true b live waiting is = record {
  news_are = refl;
  live = λ h. ap (λ (xs : List LiveStream). remove xs i) live;
  waiting = waiting;
  fresh = λ h. absurd (let no : ⊥ = (cc) in no);
}
update_cases w v i seen y e false true live waiting is = record {
  news_are = refl;
  live = λ h. ap (λ (xs : List LiveStream). remove xs i) live;
  waiting = waiting;
  fresh = λ h. absurd (let no : ⊥ = (cc) in no);
}
update_cases w v i seen y e false false live waiting is = is

pub update_reports : (w : Wire) (f : FrameSeen) (i : ℕ) (y : LiveStream) (b : Bool) → link.link_error w f ≡ None → f.kind ≡ window_update_type → (f.stream == 0) ≡ false
    → found_from (is_numbered f.stream) 0 w.live ≡ Some (i, y) → int_lt (pos largest_window) (send_window w.initial y +ℤ pos (increment f.payload)) ≡ b
    → ReportsThat w i (reported w f) (update_list (increment f.payload == 0) b y.tag (read_after w.read (9 + length f.payload))) (is_end (update_then (increment f.payload) b))
update_reports w f i y b fair kind some found wide =
    let seen : ℕ = read_after w.read (9 + length f.payload) in
    let by : ℕ = increment f.payload in
    let v : Wire = record w { queue = sealed w.queue } in
    let still : IsStill f = of_kind f window_update_type kind refl refl refl refl refl refl in
    let plain : Report = record { wire = v; news = [] } in
    let there : Report = reset_reported v (reset_code f.payload) seen (found_from (is_numbered f.stream) 0 w.live) in
    let on_link_ : Report = record { wire = record v { window = min (w.window + by) 4294967295 }; news = [] } in
    let is_wide : Bool = int_lt (pos largest_window) (send_window w.initial y +ℤ pos by) in
    let T : Bool → Type 0 = λ k. ReportsThat w i (window_reported v by seen (Some (i, y))) (update_list (by == 0) k y.tag seen) (is_end (update_then by k)) in
    reports_of w f i seen (window_reported v by seen (Some (i, y))) (update_list (by == 0) b y.tag seen) (is_end (update_then by b))
    (still_reported w f fair still
    ∙ ap (λ (t : Report). outcome w seen (Ok t))
    (if_false (f.kind == rst_stream_type) there (if f.kind == window_update_type then update_reported v f seen else plain) (not_kind f.kind window_update_type rst_stream_type false kind refl)
    ∙ if_true (f.kind == window_update_type) (update_reported v f seen) plain (not_kind f.kind window_update_type window_update_type true kind refl)
    ∙ if_false (f.stream == 0) on_link_ (window_reported v by seen (found_from (is_numbered f.stream) 0 w.live)) some
    ∙ ap (λ (o : Option (ℕ × LiveStream)). window_reported v by seen o) found))
    (subst T wide (update_cases w v i seen y _ (by == 0) is_wide refl refl
    (record { news_are = refl; live = λ h. absurd (let no : ⊥ = (cc) in no); waiting = refl; fresh = λ h. refl })))
