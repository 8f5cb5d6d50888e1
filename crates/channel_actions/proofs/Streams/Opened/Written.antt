-- A frame that is written stirs no line.
use Rattle.std.proofs.Common.{◌≡◌, ◌∷◌, ◌||◌, ◌&&◌, ◌==◌, ap, refl, subst, sym, ◌∙◌, inl, inr, ◌⊎◌, Bool, true, false, List, [], Option, None, Some, ℕ, zero, suc, cond, filter, if◌then◌else◌, is_none, is_some, map, slice_get}
use Rattle.std.proofs.lemmas.Bool.{eqb-false, eqb-true}
use Rattle.std.specs.Option.{option_and_then, option_map, option_map_or}
use Rattle.attempt_ledger.specs.declared.row.Placed.{Placed}
use Rattle.attempt_ledger.specs.declared.row.RowEnd.{RowEnd}
use Rattle.call_actions.proofs.Lists.{changed_away, changed_map}
use Rattle.call_actions.proofs.Places.{place_is}
use Rattle.call_actions.specs.Order.{AttemptsAreNumbered}
use Rattle.call_actions.proofs.CallsApart.Acts.{IsIn, at_place, in_filter}
use Rattle.grpc_base.specs.declared.event.Event.TheVariants as event
use Rattle.h2_frame.specs.Frames.{FrameSeen}
use Rattle.h2_frame.specs.Numbers.{headers_type}
use Rattle.session_actions.specs.Attempts.{is_outstanding, with_attempt}
use Rattle.session_actions.specs.Links.{has_settings, link_of}
use Rattle.session_actions.specs.Reading.{is_outstanding_on, outstanding_on}
use Rattle.session_actions.specs.Responses.{limit_of_attempt, response, response_in, traffic_by}
use Rattle.session_actions.specs.Words.{changed, holds, numbered}
use Rattle.session_actions.specs.Writing.{frame_written, frame_written_on, stream_opened, stream_opened_by, waiting_on, with_stream, with_written_bytes}
use Rattle.session_actions.specs.declared.attempt.Attempt.{Attempt}
use Rattle.session_actions.specs.declared.entry.OpenEntry.{OpenEntry}
use Rattle.session_actions.specs.declared.link.Link.{Link}
use Rattle.session_actions.specs.declared.link.Sent.{Sent}
use Rattle.session_actions.specs.declared.link.Sent.TheVariants as sent
use Rattle.session_actions.specs.declared.seen.Seen.{Seen}
use Rattle.session_actions.specs.declared.subchannel.Subchannel.{Subchannel}
use Rattle.session_actions.specs.Subchannels.{is_connecting, is_going_down}
use Rattle.session_actions.specs.declared.response.Response.{Response}
use Rattle.session_order.proofs.Entered.{IsQuietFor, moved_on}
use Rattle.session_order.proofs.Posts.{IsPlain, plain_as, plain_quiet}
use Rattle.session_order.specs.Quiescent.{IsStill, is_to_end, is_to_reset}
use Rattle.session_order.specs.declared.line.Line.{Line}
use Rattle.channel_actions.proofs.Streams.Opened.Attempts.{end_same, fresh_end, fresh_head, fresh_large, fresh_reset, reset_stays, response_like}
use Rattle.channel_actions.proofs.Streams.Opened.Lines.{IsAlikeIn, lines_still}
use Rattle.channel_actions.proofs.Streams.Opened.Links.{came_on, down_like, number_like, settings_like}
use Rattle.channel_actions.proofs.Streams.Opened.Responses.{with_sent}
use Rattle.channel_actions.proofs.Streams.Opened.Rows.{restream, restreamed}
use Rattle.channel_actions.proofs.Streams.Opened.Streams.{restream_is, rows_changed, rows_self, streams_of}
use Rattle.channel_actions.specs.StreamsOpened.Laws.{CanWrite, IsBlank, WritesStirNothing}

some_one : (a w : Attempt) → Some a ≡ Some w → a ≡ w
some_one a w e = (cc)

-- the frame, whatever it opens; and what is noted of it in the entry
abbrev written_so : Sent → Link → Seen → Seen
written_so x l s = record (stream_opened_by x l s) { links = changed (with_sent x) l.number (stream_opened_by x l s).links }

if_passes : (p : Attempt → Bool) (x : Attempt) (xs : List Attempt) (b : Bool) (j : ℕ) (a : Attempt) → p x ≡ b → slice_get (cond b (x ∷ filter p xs) (filter p xs)) j ≡ Some a
    → ((i : ℕ) → slice_get (filter p xs) i ≡ Some a → p a ≡ true) → p a ≡ true
if_passes p x xs true zero a e got rest = let one : x ≡ a = (cc) in ap p (sym one) ∙ e
if_passes p x xs true (suc j) a e got rest = rest j got
if_passes p x xs false j a e got rest = rest j got

passes : (p : Attempt → Bool) (xs : List Attempt) (j : ℕ) (a : Attempt) → slice_get (filter p xs) j ≡ Some a → p a ≡ true
passes p [] j a got = absurd (cc)
passes p (x ∷ xs) j a got = if_passes p x xs (p x) j a refl got (λ i e. passes p xs i a e)

unended_by : (p q : Bool) (o : Option RowEnd) → ((p && is_none o) && q) ≡ true → o ≡ None
unended_by p q None e = refl
unended_by true q (Some z) e = absurd (cc)
unended_by false q (Some z) e = absurd (cc)

unstreamed : (o : Option ℕ) → is_none o ≡ true → o ≡ None
unstreamed None e = refl
unstreamed (Some n) e = absurd (cc)

placed_by : (n : ℕ) (b : Bool) (o : Option Placed) → (b && holds (λ (at : Placed). at.link == n) o) ≡ true → (s : Seen)
    → option_and_then (λ (at : Placed). numbered s.links at.link) o ≡ numbered s.links n
placed_by n true None e s = absurd (cc)
placed_by n false o e s = absurd (cc)
placed_by n true (Some at) e s = ap (numbered s.links) (eqb-true at.link n e)

-- the attempt that waits first: it stands at its place, goes on, and its link is this one
pub record IsFirst (l : Link) (s : Seen) (a : Attempt) : Type 0 where
  pub there : numbered s.attempts a.place ≡ Some a
  pub stream : a.row.stream ≡ None
  pub goes : a.row.ended ≡ None
  pub link : link_of a s ≡ Some l

first_is : (l : Link) (s : Seen) (a : Attempt) → AttemptsAreNumbered 1 s.attempts → numbered s.links l.number ≡ Some l → slice_get (waiting_on l s) 0 ≡ Some a → IsFirst l s a
first_is l s a places at got =
    let one : IsIn (outstanding_on l s) a = in_filter (λ (q : Attempt). is_none q.row.stream) (outstanding_on l s) 0 a got in
    let two : IsIn s.attempts a = in_filter (is_outstanding_on l) s.attempts one.index a one.here in
    let out : is_outstanding_on l a ≡ true = passes (is_outstanding_on l) s.attempts one.index a one.here in
    record {
      there = at_place s.attempts a places two;
      stream = unstreamed a.row.stream (passes (λ (q : Attempt). is_none q.row.stream) (outstanding_on l s) 0 a got);
      goes = unended_by (is_some a.row.placed) (holds (λ (p : Placed). p.link == l.number) a.row.placed) a.row.ended out;
      link = placed_by l.number (is_outstanding a) a.row.placed out s ∙ at;
    }

module _ (s : Seen) (x : Sent) (l : Link) (can : CanWrite l x s) where
  subs_like : (g : ℕ → Option ℕ) (b : Subchannel)
      → ((is_connecting b.state && holds has_settings (option_and_then (numbered (changed (with_sent x) l.number s.links)) b.link))
      || holds is_going_down (option_and_then (numbered (changed (with_sent x) l.number s.links)) b.link))
      ≡ ((is_connecting b.state && holds has_settings (option_and_then (numbered s.links) b.link)) || holds is_going_down (option_and_then (numbered s.links) b.link))
  subs_like g b =
      let before : Option Link = option_and_then (numbered s.links) b.link in
      let after_ : Option Link = option_and_then (numbered (changed (with_sent x) l.number s.links)) b.link in
      ap (λ (z : Bool). (is_connecting b.state && z) || holds is_going_down after_) (settings_like before after_ (number_like x l.number s.links b.link))
      ∙ ap (λ (z : Bool). (is_connecting b.state && holds has_settings before) || z) (down_like before after_ (number_like x l.number s.links b.link))

  -- no stream is opened
  module _ (g : ℕ → Option ℕ) where
    alike_by : ((i : ℕ) (a : Attempt) → slice_get s.attempts i ≡ Some a → g a.place ≡ a.row.stream)
        → IsAlikeIn s g (changed (with_sent x) l.number s.links) s.current
    alike_by same = record {
      heads = λ i a here. ap (λ (o : Option _). is_some o) (response_like s g x l.number a (same i a here)).head;
      larges = λ i a here. (response_like s g x l.number a (same i a here)).large;
      ends = λ i a here none. end_same s g x l.number a (same i a here) ∙ none;
      resets = λ i a here none. reset_stays s g x l.number a (same i a here) none;
      subs = subs_like g;
      entries = refl;
    }

  own_stream : (i : ℕ) (a : Attempt) → slice_get s.attempts i ≡ Some a → streams_of s.attempts a.place ≡ a.row.stream
  own_stream i a here =
      ap (streams_of s.attempts) (place_is (suc i) s.attempts a can.places here) ∙ ap (λ (o : Option Attempt). option_and_then (λ (q : Attempt). q.row.stream) o) here

  plain_still : (m : Line) (o : OpenEntry) → IsStill m o s → IsStill m o (record s { links = changed (with_sent x) l.number s.links })
  plain_still m o h =
      let g : ℕ → Option ℕ = streams_of s.attempts in
      let same : map (restream g) s.attempts ≡ s.attempts = restream_is s.attempts s.attempts (rows_self s.attempts) can.places in
      subst (λ (rows : List Attempt). IsStill m o (record s { attempts = rows; links = changed (with_sent x) l.number s.links })) same
      (lines_still s g (changed (with_sent x) l.number s.links) s.current (alike_by g own_stream) m o h)

  -- HEADERS open one
  module _ (f : FrameSeen) (w : Attempt) (is : IsFirst l s w) (blank : IsBlank (response_in (limit_of_attempt w s) f.stream l.traffic)) where
    abbrev rows : List Attempt
    rows = changed (with_stream f.stream) w.place s.attempts

    abbrev gs : ℕ → Option ℕ
    gs = streams_of rows

    opened_now : gs w.place ≡ Some f.stream
    opened_now =
        ap (λ (o : Option Attempt). option_and_then (λ (q : Attempt). q.row.stream) o)
        (changed_map (with_stream f.stream) w.place s.attempts ∙ ap (option_map (with_stream f.stream)) is.there)

    -- each attempt is that one, or has its stream still
    which_by : (i : ℕ) (a : Attempt) → slice_get s.attempts i ≡ Some a → (b : Bool) → (a.place == w.place) ≡ b → (a ≡ w) ⊎ (gs a.place ≡ a.row.stream)
    which_by i a here true e =
        let own : a.place ≡ suc i = place_is (suc i) s.attempts a can.places here in
        let there : numbered s.attempts w.place ≡ Some a = ap (numbered s.attempts) (sym (eqb-true a.place w.place e) ∙ own) ∙ here in
        inl (let one : a ≡ w = some_one a w (sym there ∙ is.there) in one)
    which_by i a here false e =
        inr (ap (λ (o : Option Attempt). option_and_then (λ (q : Attempt). q.row.stream) o) (changed_away (with_stream f.stream) w.place a.place s.attempts (eqb-false a.place w.place e))
        ∙ own_stream i a here)

    which : (i : ℕ) (a : Attempt) → slice_get s.attempts i ≡ Some a → (a ≡ w) ⊎ (gs a.place ≡ a.row.stream)
    which i a here = which_by i a here (a.place == w.place) refl

    ended_now : option_map_or (λ (e : RowEnd). traffic_by e.seen l.traffic) w.row.ended l.traffic ≡ l.traffic
    ended_now = ap (λ (o : Option RowEnd). option_map_or (λ (e : RowEnd). traffic_by e.seen l.traffic) o l.traffic) is.goes

    abbrev now_on : Response
    now_on = came_on w (limit_of_attempt w s) f.stream (Some l)

    now_is : now_on ≡ response_in (limit_of_attempt w s) f.stream l.traffic
    now_is = ap (response_in (limit_of_attempt w s) f.stream) ended_now

    head_of : (i : ℕ) (a : Attempt) → (a ≡ w) ⊎ (gs a.place ≡ a.row.stream)
        → is_some (response (restream gs a) (restreamed gs (changed (with_sent x) l.number s.links) s.current s)).head ≡ is_some (response a s).head
    head_of i a (inr same) = ap (λ (o : Option _). is_some o) (response_like s gs x l.number a same).head
    head_of i a (inl e) =
        subst (λ (z : Attempt). is_some (response (restream gs z) (restreamed gs (changed (with_sent x) l.number s.links) s.current s)).head ≡ is_some (response z s).head) (sym e)
        (fresh_head s gs x l.number w f.stream opened_now is.stream is.goes l is.link (ap (λ (p : Response). p.head) now_is ∙ blank.head)
        (ap (λ (p : Response). p.end) now_is ∙ blank.end) (ap (λ (p : Response). p.large) now_is ∙ blank.large))

    large_of : (i : ℕ) (a : Attempt) → (a ≡ w) ⊎ (gs a.place ≡ a.row.stream)
        → (response (restream gs a) (restreamed gs (changed (with_sent x) l.number s.links) s.current s)).large ≡ (response a s).large
    large_of i a (inr same) = (response_like s gs x l.number a same).large
    large_of i a (inl e) =
        subst (λ (z : Attempt). (response (restream gs z) (restreamed gs (changed (with_sent x) l.number s.links) s.current s)).large ≡ (response z s).large) (sym e)
        (fresh_large s gs x l.number w f.stream opened_now is.stream is.goes l is.link (ap (λ (p : Response). p.head) now_is ∙ blank.head)
        (ap (λ (p : Response). p.end) now_is ∙ blank.end) (ap (λ (p : Response). p.large) now_is ∙ blank.large))

    end_of_ : (i : ℕ) (a : Attempt) → (a ≡ w) ⊎ (gs a.place ≡ a.row.stream) → is_to_end s a ≡ false
        → is_to_end (restreamed gs (changed (with_sent x) l.number s.links) s.current s) (restream gs a) ≡ false
    end_of_ i a (inr same) none = end_same s gs x l.number a same ∙ none
    end_of_ i a (inl e) none =
        subst (λ (z : Attempt). is_to_end (restreamed gs (changed (with_sent x) l.number s.links) s.current s) (restream gs z) ≡ false) (sym e)
        (fresh_end s gs x l.number w f.stream opened_now is.stream is.goes l is.link (ap (λ (p : Response). p.head) now_is ∙ blank.head)
        (ap (λ (p : Response). p.end) now_is ∙ blank.end) (ap (λ (p : Response). p.large) now_is ∙ blank.large) (ap (is_to_end s) (sym e) ∙ none))

    reset_of_ : (i : ℕ) (a : Attempt) → (a ≡ w) ⊎ (gs a.place ≡ a.row.stream) → is_to_reset s a ≡ false
        → is_to_reset (restreamed gs (changed (with_sent x) l.number s.links) s.current s) (restream gs a) ≡ false
    reset_of_ i a (inr same) none = reset_stays s gs x l.number a same none
    reset_of_ i a (inl e) none =
        subst (λ (z : Attempt). is_to_reset (restreamed gs (changed (with_sent x) l.number s.links) s.current s) (restream gs z) ≡ false) (sym e)
        (fresh_reset s gs x l.number w f.stream opened_now is.stream is.goes l is.link (ap (λ (p : Response). p.head) now_is ∙ blank.head)
        (ap (λ (p : Response). p.end) now_is ∙ blank.end) (ap (λ (p : Response). p.large) now_is ∙ blank.large))

    opened_alike : IsAlikeIn s gs (changed (with_sent x) l.number s.links) s.current
    opened_alike = record {
      heads = λ i a here. head_of i a (which i a here);
      larges = λ i a here. large_of i a (which i a here);
      ends = λ i a here none. end_of_ i a (which i a here) none;
      resets = λ i a here none. reset_of_ i a (which i a here) none;
      subs = subs_like gs;
      entries = refl;
    }

    opened_still : (m : Line) (o : OpenEntry) → IsStill m o s → IsStill m o (record s { attempts = rows; links = changed (with_sent x) l.number s.links })
    opened_still m o h =
        let same : map (restream gs) s.attempts ≡ rows = restream_is s.attempts rows (rows_changed f.stream w.place s.attempts) can.places in
        subst (λ (z : List Attempt). IsStill m o (record s { attempts = z; links = changed (with_sent x) l.number s.links })) same
        (lines_still s gs (changed (with_sent x) l.number s.links) s.current opened_alike m o h)

-- by what is written
module _ (s : Seen) (l : Link) where
  headers_by : (f : FrameSeen) → CanWrite l (sent.Frame f) s → (f.kind == headers_type) ≡ true → (w : Option Attempt) → slice_get (waiting_on l s) 0 ≡ w → (m : Line) (o : OpenEntry)
      → IsStill m o s
      → IsStill m o (record (option_map_or (λ (a : Attempt). with_attempt (with_stream f.stream) a.place s) w s) {
        links = changed (with_sent (sent.Frame f)) l.number (option_map_or (λ (a : Attempt). with_attempt (with_stream f.stream) a.place s) w s).links;
      })
  headers_by f can kind None got m o h = plain_still s (sent.Frame f) l can m o h
  headers_by f can kind (Some w) got m o h =
      opened_still s (sent.Frame f) l can f w (first_is l s w can.places can.at got) (can.blank f w refl kind got) m o h

  frame_by : (f : FrameSeen) → CanWrite l (sent.Frame f) s → (b : Bool) → (f.kind == headers_type) ≡ b → (m : Line) (o : OpenEntry) → IsStill m o s
      → IsStill m o (record (if b then stream_opened f l s else s) { links = changed (with_sent (sent.Frame f)) l.number (if b then stream_opened f l s else s).links })
  frame_by f can true e m o h = headers_by f can e (slice_get (waiting_on l s) 0) refl m o h
  frame_by f can false e m o h = plain_still s (sent.Frame f) l can m o h

  written_still : (x : Sent) → CanWrite l x s → (m : Line) (o : OpenEntry) → IsStill m o s → IsStill m o (written_so x l s)
  written_still sent.Preface can m o h = plain_still s sent.Preface l can m o h
  written_still (sent.Frame f) can m o h = frame_by f can (f.kind == headers_type) refl m o h

  current_by : (f : FrameSeen) (w : Option Attempt) → (option_map_or (λ (a : Attempt). with_attempt (with_stream f.stream) a.place s) w s).current ≡ s.current
  current_by f None = refl
  current_by f (Some w) = refl

  current_if : (f : FrameSeen) (b : Bool) → (if b then stream_opened f l s else s).current ≡ s.current
  current_if f true = current_by f (slice_get (waiting_on l s) 0)
  current_if f false = refl

  current_of : (x : Sent) → (written_so x l s).current ≡ s.current
  current_of sent.Preface = refl
  current_of (sent.Frame f) = current_if f (f.kind == headers_type)

plain_drain : (link room : ℕ) → IsPlain (event.Drain link room)
plain_drain link room = record { cancels = λ k. refl; sends = λ c s. refl; addresses = refl }

pub writes_stir_nothing : WritesStirNothing
writes_stir_nothing link room l x o p s m open_ is can now h =
    let t : Seen = written_so x l s in
    let f : OpenEntry → OpenEntry = with_written_bytes x in
    let at : frame_written l.number x s ≡ record t { current = option_map f t.current }
    = ap (λ (q : Option Link). option_map_or (frame_written_on x s) q s) can.at in
    let there : t.current ≡ Some o = current_of s l x ∙ open_ in
    let quiet : IsQuietFor m (f o) t = plain_quiet m (f o) t (plain_as o.event (event.Drain link room) is (plain_drain link room)) in
    let then_ : option_map f t.current ≡ Some p = sym (ap (λ (z : Seen). z.current) at) ∙ now in
    subst (λ (z : Seen). IsStill m p z) (sym at) (moved_on f o t there m quiet (written_still s l x can m o h) p then_)
