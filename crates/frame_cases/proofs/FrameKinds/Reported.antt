-- What a frame reports, by its kind.
use Rattle.std.proofs.Common.{◌≡◌, ◌++◌, ◌&&◌, ◌||◌, ◌==◌, ◌∷◌, ap, refl, subst, sym, ◌∙◌, Bool, true, false, List, [], Option, None, Some, ℕ, drop, if◌then◌else◌, length, map, not}
use Rattle.std.proofs.lemmas.List.Folds.{list_any-append}
use Rattle.std.specs.List.{list_any}
use Rattle.std.specs.Option.{option_map}
use Rattle.attempt_ledger.specs.declared.news.News.{News}
use Rattle.attempt_ledger.specs.declared.news.News.TheVariants as news
use Rattle.channel_core.specs.States.{StateSeen}
use Rattle.channel_core.specs.Tables.{Received, received_in}
use Rattle.channel_core.specs.declared.state.links.LinkSlot.{LinkSlot}
use Rattle.frame_cases.proofs.QuietFrames.ReadStill as read
use Rattle.frame_cases.proofs.QuietFrames.Responses as responses
use Rattle.frame_cases.specs.FrameKinds.Laws.{Ends, FrameKind, Prefaces, Heads, Large, Messages, Quiet, is_end, is_head, is_large, is_message, is_ready, kind_of}
use Rattle.frame_cases.specs.PieceWalks.Points.{IsReceiving}
use Rattle.channel_actions.specs.Links.{lines_in}
use Rattle.attempt_cases.proofs.DrainEvents.Links.{read_so}
use Rattle.grpc_base.specs.declared.fields.Field.{Field}
use Rattle.grpc_link.specs.Response.{end_gained, head_gained, message_news}
use Rattle.grpc_link.specs.Links.{Report as Reported}
use Rattle.h2_frame.specs.Numbers.{goaway_type}
use Rattle.h2_link.specs.declared.live.LiveStream.{LiveStream}
use Rattle.link_actions.specs.LossActions.Sees.{end_news}
use Rattle.link_actions.specs.ResponseActions.Gained.{gained, large_gained}
use Rattle.link_actions.specs.ResponseActions.Laws.{seen_at}
use Rattle.link_actions.specs.StreamActions.Laws.{read_link}
use Rattle.link_actions.specs.StreamActions.Sees.{response_of}
use Rattle.session_actions.specs.Writing.{frame_read, next_frame_read}
use Rattle.session_actions.specs.declared.action.Action.TheVariants as action
use Rattle.session_actions.specs.declared.entry.OpenEntry.{OpenEntry}
use Rattle.session_actions.specs.declared.link.ReadFrame.{ReadFrame}
use Rattle.session_actions.specs.declared.response.Outcome.{Outcome}
use Rattle.session_actions.specs.declared.response.Response.{Response}
use Rattle.session_actions.specs.declared.seen.Seen.{Seen}
use Rattle.session_actions.specs.Links.{has_settings, is_settings}

-- nothing of the kinds that bear on an attempt
pub record HasNone (ns : List News) : Type 0 where
  pub ends : list_any is_end ns ≡ false
  pub larges : list_any is_large ns ≡ false
  pub heads : list_any is_head ns ≡ false
  pub messages : list_any is_message ns ≡ false

abbrev IsLast : FrameKind → Type 0
IsLast Prefaces = Unit {0}
IsLast Quiet = Unit {0}
IsLast _ = ⊥

none_before : (ns : List News) (y z : FrameKind) (a b c d : Bool) → list_any is_end ns ≡ a → list_any is_large ns ≡ b → list_any is_head ns ≡ c → list_any is_message ns ≡ d → IsLast z
    → (if a then Ends else if b then Large else if c then Heads else if d then Messages else y) ≡ z → HasNone ns × (y ≡ z)
none_before ns y z false false false false p q r s last k = (record { ends = p; larges = q; heads = r; messages = s }, k)
none_before ns y z true b c d p q r s last k = absurd (subst IsLast (sym k) last)
none_before ns y z false true c d p q r s last k = absurd (subst IsLast (sym k) last)
none_before ns y z false false true d p q r s last k = absurd (subst IsLast (sym k) last)
none_before ns y z false false false true p q r s last k = absurd (subst IsLast (sym k) last)

abbrev last_kind : Bool → FrameKind
last_kind b = if b then Prefaces else Quiet

last_of_kinds : (ns : List News) (z : FrameKind) → IsLast z → kind_of ns ≡ z → HasNone ns × (last_kind (list_any is_ready ns) ≡ z)
last_of_kinds ns z last e =
    none_before ns (last_kind (list_any is_ready ns)) z (list_any is_end ns) (list_any is_large ns) (list_any is_head ns) (list_any is_message ns) refl refl refl refl last e

no_ready : (b : Bool) → last_kind b ≡ Quiet → b ≡ false
no_ready true e = absurd (let no : ⊥ = (cc) in no)
no_ready false e = refl

awaits_preface : (b : Bool) → last_kind b ≡ Prefaces → b ≡ true
awaits_preface true e = refl
awaits_preface false e = absurd (let no : ⊥ = (cc) in no)

-- of those that a frame of an attempt's stream may report
neither : (a b : Bool) → (a || b) ≡ false → (a ≡ false) × (b ≡ false)
neither true b e = absurd (cc)
neither false true e = absurd (cc)
neither false false e = (refl, refl)

pub four_without : (p : News → Bool) (a b c d : List News) → list_any p (a ++ b ++ c ++ d) ≡ false
    → (list_any p a ≡ false) × (list_any p b ≡ false) × (list_any p c ≡ false) × (list_any p d ≡ false)
four_without p a b c d e =
    let one = neither (list_any p (a ++ b ++ c)) (list_any p d) (sym (list_any-append p (a ++ b ++ c) d) ∙ e) in
    let two = neither (list_any p (a ++ b)) (list_any p c) (sym (list_any-append p (a ++ b) c) ∙ one.0) in
    let three = neither (list_any p a) (list_any p b) (sym (list_any-append p a b) ∙ two.0) in
    (three.0, three.1, two.1, one.1)

pub no_head : (tag seen : ℕ) (p q : Option (List Field)) → list_any is_head (head_gained tag seen p q) ≡ false → head_gained tag seen p q ≡ []
no_head tag seen None (Some meta) e = absurd (let no : ⊥ = (cc) in no)
no_head tag seen None None e = refl
no_head tag seen (Some x) q e = refl

no_message : (tag seen : ℕ) (ms : List (List ℕ)) → list_any is_message (map (message_news tag seen) ms) ≡ false → map (message_news tag seen) ms ≡ []
no_message tag seen [] e = refl
no_message tag seen (m ∷ ms) e = absurd (let no : ⊥ = (cc) in no)

pub no_large : (tag seen : ℕ) (b : Bool) → list_any is_large (large_gained tag seen b) ≡ false → large_gained tag seen b ≡ []
no_large tag seen true e = absurd (let no : ⊥ = (cc) in no)
no_large tag seen false e = refl

pub no_end : (tag seen : ℕ) (o : Option Outcome) → list_any is_end (end_gained tag (option_map (λ (x : Outcome). end_news x seen) o)) ≡ false
    → end_gained tag (option_map (λ (x : Outcome). end_news x seen) o) ≡ []
no_end tag seen None e = refl
no_end tag seen (Some x) e = absurd (let no : ⊥ = (cc) in no)

four_none : (a b c d : List News) → a ≡ [] → b ≡ [] → c ≡ [] → d ≡ [] → a ++ b ++ c ++ d ≡ []
four_none a b c d p q r s =
    ap (λ (x : List News). x ++ b ++ c ++ d) p ∙ ap (λ (x : List News). [] ++ x ++ c ++ d) q ∙ ap (λ (x : List News). [] ++ [] ++ x ++ d) r ∙ ap (λ (x : List News). [] ++ [] ++ [] ++ x) s

gained_none : (tag seen : ℕ) (p q : Response) → HasNone (gained tag seen p q) → gained tag seen p q ≡ []
gained_none tag seen p q none =
    let a : List News = head_gained tag seen p.head q.head in
    let b : List News = map (message_news tag seen) (drop (length p.messages) q.messages) in
    let c : List News = large_gained tag seen q.large in
    let d : List News = end_gained tag (option_map (λ (o : Outcome). end_news o seen) q.end) in
    four_none a b c d
    (no_head tag seen p.head q.head (four_without is_head a b c d none.heads).0)
    (no_message tag seen (drop (length p.messages) q.messages) (four_without is_message a b c d none.messages).1)
    (no_large tag seen q.large (four_without is_large a b c d none.larges).2)
    (no_end tag seen q.end (four_without is_end a b c d none.ends).3)

ready_none : (b : Bool) → list_any is_ready (if b then news.Ready ∷ [] else []) ≡ false → (if b then news.Ready ∷ [] else []) ≡ []
ready_none true e = absurd (let no : ⊥ = (cc) in no)
ready_none false e = refl

ready_some : (b : Bool) → list_any is_ready (if b then news.Ready ∷ [] else []) ≡ true → b ≡ true
ready_some true e = refl
ready_some false e = absurd (let no : ⊥ = (cc) in no)

module _ (link : ℕ) (piece : List ℕ) (x : StateSeen) (o : OpenEntry) (s : Seen) (is : IsReceiving link piece x o s) (h : Received) (r : ReadFrame)
    (next : next_frame_read link s ≡ Some (action.FrameRead link r)) (receives : received_in link piece x.links ≡ Some h) (no_goaway : (r.frame.kind == goaway_type) ≡ false) where
  abbrev slot : LinkSlot
  slot = read.slot link piece x o s is h r next receives

  abbrev out : Reported
  out = read.out link piece x o s is h r next receives

  news_are : h.news ≡ out.news
  news_are = ap (λ (k : Received). k.news) (read.h_is link piece x o s is h r next receives) ∙ ap (λ (k : Reported). k.news) (read.reported_is link piece x o s is h r next receives)

  abbrev pub Own : Bool → Type 0
  Own b = list_any (λ (y : LiveStream). y.number == r.frame.stream) slot.link.link.wire.live ≡ b

  -- it is of no attempt's stream: the server's first SETTINGS are reported, and nothing else
  apart_news : Own false → out.news ≡ (if is_settings r.frame && not (has_settings is.l) then news.Ready ∷ [] else [])
  apart_news e =
      responses.apart_news is.l s slot.link.link.wire (lines_in is.l s) slot.link.readers r (read.going link piece x o s is h r next receives).streams
      (read_so is.l s slot.link.readers (read.going link piece x o s is h r next receives).readers) (read.come link piece x o s is h r next receives).comes
      (read.shown link piece x o s is h r next receives).unbroken is.fair.listed no_goaway e

  -- it is of the stream of an attempt: what its response gained
  own_none : HasNone out.news → Own true → out.news ≡ []
  own_none none e =
      let own = responses.its_attempt is.l s slot.link.link.wire (lines_in is.l s) slot.link.readers r (read.going link piece x o s is h r next receives).streams
      (read_so is.l s slot.link.readers (read.going link piece x o s is h r next receives).readers) (read.come link piece x o s is h r next receives).comes
      (read.shown link piece x o s is h r next receives).unbroken is.fair.listed no_goaway e in
      let is_frame_reported = responses.own_reported is.l s slot.link.link.wire (lines_in is.l s) slot.link.readers r (read.going link piece x o s is h r next receives).streams
      (read_so is.l s slot.link.readers (read.going link piece x o s is h r next receives).readers) (read.come link piece x o s is h r next receives).comes
      (read.shown link piece x o s is h r next receives).unbroken is.fair.listed no_goaway own in
      is_frame_reported.news ∙ gained_none own.attempt.place (seen_at r) (response_of is.l s r.frame.stream own.attempt)
      (response_of (read_link r is.l s) (frame_read is.l.number r s) r.frame.stream own.attempt) (subst HasNone is_frame_reported.news none)

  quiet_by : HasNone out.news → list_any is_ready out.news ≡ false → (b : Bool) → Own b → out.news ≡ []
  quiet_by none quiescent false e = apart_news e ∙ ready_none _ (ap (list_any is_ready) (sym (apart_news e)) ∙ quiescent)
  quiet_by none quiescent true e = own_none none e

  abbrev its_stream : Bool
  its_stream = list_any (λ (y : LiveStream). y.number == r.frame.stream) slot.link.link.wire.live

  pub quiet_none : kind_of h.news ≡ Quiet → h.news ≡ []
  quiet_none e =
      let last = last_of_kinds out.news Quiet tt (ap kind_of (sym news_are) ∙ e) in
      news_are ∙ quiet_by last.0 (no_ready (list_any is_ready out.news) last.1) its_stream refl

  -- the server's first SETTINGS
  pub record AwaitsPreface : Type 0 where
    pub off : Own false
    pub first : (is_settings r.frame && not (has_settings is.l)) ≡ true
    pub news_is : h.news ≡ news.Ready ∷ []

  prefaces_by : HasNone out.news → list_any is_ready out.news ≡ true → (b : Bool) → Own b → AwaitsPreface
  prefaces_by none ready false e =
      let first = ready_some _ (ap (list_any is_ready) (sym (apart_news e)) ∙ ready) in
      record { off = e; first = first; news_is = news_are ∙ apart_news e ∙ ap (λ (b : Bool). if b then news.Ready ∷ [] else []) first }
  prefaces_by none ready true e =
      absurd (let none_at_all : out.news ≡ [] = own_none none e in let bad : false ≡ true = ap (list_any is_ready) (sym none_at_all) ∙ ready in let no : ⊥ = (cc) in no)

  pub prefaces : kind_of h.news ≡ Prefaces → AwaitsPreface
  prefaces e =
      let last = last_of_kinds out.news Prefaces tt (ap kind_of (sym news_are) ∙ e) in
      prefaces_by last.0 (awaits_preface (list_any is_ready out.news) last.1) its_stream refl
