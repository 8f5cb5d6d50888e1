-- A frame ends an attempt: it may bring messages before, and nothing else; its link is over with the attempt, and owes the reset of its stream.
use Rattle.std.proofs.Common.{◌≡◌, ◌++◌, ◌&&◌, ◌||◌, ◌==◌, ◌∷◌, ap, refl, subst, sym, ◌∙◌, Bool, true, false, List, [], Option, None, Some, ℕ, if◌then◌else◌, is_none, is_some, map, not}
use Rattle.std.specs.List.{list_all, list_any}
use Rattle.attempt_ledger.specs.declared.news.News.{News}
use Rattle.attempt_ledger.specs.declared.news.News.TheVariants as news
use Rattle.frame_cases.proofs.EndedFrames.Gains.{EndsPlainly, ends_reported, gained_end, is_of_response, read_plain}
use Rattle.frame_cases.proofs.QuietFrames.Responses as responses
use Rattle.frame_cases.proofs.QuietFrames.Responses.{HasAttempt, HasGrown, or_false}
use Rattle.frame_cases.specs.FrameKinds.Laws.{Ends, Prefaces, Heads, Large, Messages, Quiet, is_end, is_head, is_large, is_message, is_ready, kind_of}
use Rattle.frame_cases.specs.QuietFrames.Laws.{HasNothingNew}
use Rattle.grpc_link.specs.Links.{Report as Reported}
use Rattle.grpc_link.specs.Response.{message_news}
use Rattle.grpc_link.specs.declared.readers.TagReader.{TagReader}
use Rattle.h2_frame.specs.Numbers.{goaway_type}
use Rattle.h2_link.specs.Feeds.{Line}
use Rattle.h2_link.specs.Wire.{Wire}
use Rattle.h2_link.specs.declared.live.LiveStream.{LiveStream}
use Rattle.link_actions.proofs.History.{settings_more}
use Rattle.link_actions.proofs.LossActions.Over.{all_go}
use Rattle.link_actions.specs.LossActions.Sees.{IsGoing, end_news}
use Rattle.link_actions.specs.ResponseActions.Gained.{gained, is_done, is_listed_fairly}
use Rattle.link_actions.specs.ResponseActions.Laws.{IsEnded, IsFrameReported, frame_reported, seen_at}
use Rattle.link_actions.specs.ResponseActions.Readers.{SeesReaders}
use Rattle.link_actions.specs.StreamActions.Laws.{Comes, IsOn, read_link}
use Rattle.link_actions.specs.StreamActions.Sees.{SeesStreams, response_of}
use Rattle.session_actions.specs.Links.{has_settings, is_retiring, is_settings}
use Rattle.session_actions.specs.Responses.{limit_of_attempt}
use Rattle.session_actions.specs.Writing.{frame_read, owed_for}
use Rattle.session_actions.specs.declared.attempt.Attempt.{Attempt}
use Rattle.session_actions.specs.declared.link.Link.{Link}
use Rattle.session_actions.specs.declared.link.ReadFrame.{ReadFrame}
use Rattle.session_actions.specs.declared.response.Outcome.{Outcome}
use Rattle.session_actions.specs.declared.response.Response.{Response}
use Rattle.session_actions.specs.declared.seen.Seen.{Seen}

-- a response to which these messages came, before its end
pub record HasLast (more : List (List ℕ)) (p q : Response) : Type 0 where
  pub head : q.head ≡ p.head
  pub messages : q.messages ≡ p.messages ++ more
  pub large : q.large ≡ p.large

pub record IsReadWithEnd (l m : Link) (s t : Seen) (n seen : ℕ) (ns : List News) (w : Wire) (g : ℕ → Line) (readers : List TagReader) : Type 0 where
  pub attempt : Attempt
  pub on : IsOn l s n attempt
  pub more : List (List ℕ)
  pub outcome : Outcome
  pub end : (response_of m t n attempt).end ≡ Some outcome
  pub news_are : ns ≡ map (message_news attempt.place seen) more ++ news.Ended attempt.place (end_news outcome seen) ∷ []
  pub gains : HasLast more (response_of l s n attempt) (response_of m t n attempt)
  pub awaiting_config : is_none (response_of l s n attempt).head ≡ true → more ≡ []
  pub cause_is : is_of_response outcome.cause ≡ true
  pub ended : IsEnded m t w g readers n attempt
  pub others : (k : ℕ) (b : Attempt) → IsOn l s k b → (n == k) ≡ false → HasNothingNew (response_of l s k b) (response_of m t k b)
  pub retiring : is_retiring m ≡ is_retiring l
  pub settings : has_settings m ≡ has_settings l

-- an end is reported
ends_by : (a b c d e : Bool) → (if a then Ends else if b then Large else if c then Heads else if d then Messages else if e then Prefaces else Quiet) ≡ Ends → a ≡ true
ends_by true b c d e h = refl
ends_by false true c d e h = absurd (cc)
ends_by false false true d e h = absurd (cc)
ends_by false false false true e h = absurd (cc)
ends_by false false false false true h = absurd (cc)
ends_by false false false false false h = absurd (cc)

reports_end : (ns : List News) → kind_of ns ≡ Ends → list_any is_end ns ≡ true
reports_end ns e = ends_by (list_any is_end ns) (list_any is_large ns) (list_any is_head ns) (list_any is_message ns) (list_any is_ready ns) e

no_ends : (b : Bool) (P : Type 0) → kind_of (if b then news.Ready ∷ [] else []) ≡ Ends → P
no_ends true P e = absurd (let no : ⊥ = (cc) in no)
no_ends false P e = absurd (let no : ⊥ = (cc) in no)

module _ (l : Link) (s : Seen) (w : Wire) (g : ℕ → Line) (readers : List TagReader) (r : ReadFrame) (is : SeesStreams l s w g) (reads : SeesReaders l s readers) (comes : Comes l w r)
    (unbroken : l.over ≡ None) (fairly : list_all is_listed_fairly l.traffic ≡ true) (no_goaway : (r.frame.kind == goaway_type) ≡ false)
    (kind : kind_of (frame_reported w readers r.frame).news ≡ Ends) where
  abbrev m : Link
  m = read_link r l s

  abbrev u : Seen
  u = frame_read l.number r s

  abbrev out : Reported
  out = frame_reported w readers r.frame

  abbrev Last : Type 0
  Last = IsReadWithEnd l m s u r.frame.stream (seen_at r) out.news out.link.link.wire g out.link.readers

  module _ (own : HasAttempt l s r.frame.stream) where
    abbrev p : Response
    p = response_of l s r.frame.stream own.attempt

    abbrev q : Response
    q = response_of m u r.frame.stream own.attempt

    going : IsGoing p
    going = all_go l s w g r.frame.stream own.attempt is own.on

    its_report : IsFrameReported l s m u out g r.frame.stream (seen_at r) own.attempt
    its_report = responses.own_reported l s w g readers r is reads comes unbroken fairly no_goaway own

    grown : HasGrown p q
    grown = responses.its_growth l s w g readers r is reads comes unbroken fairly no_goaway own

    plain : EndsPlainly p q
    plain =
        subst (EndsPlainly p) (sym (responses.read_on l s w g readers r is reads comes unbroken fairly no_goaway r.frame.stream own.attempt own.on))
        (read_plain (limit_of_attempt own.attempt s) r.frame.stream p r going.goes)

    its_end : (k : Outcome) × (q.end ≡ Some k)
    its_end =
        ends_reported own.attempt.place (seen_at r) p q
        (ap (list_any is_end) (sym its_report.news) ∙ reports_end out.news kind)

    done : is_done q ≡ true
    done = ap (λ (e : Option Outcome). is_some e || q.large) its_end.1

    own_last : Last
    own_last = record {
      attempt = own.attempt;
      on = own.on;
      more = grown.more;
      outcome = its_end.0;
      end = its_end.1;
      news_are = its_report.news ∙ gained_end own.attempt.place (seen_at r) p q its_end.0 grown going.small plain its_end.1;
      gains = record { head = plain.head its_end.0 its_end.1; messages = grown.messages; large = plain.large its_end.0 its_end.1 };
      awaiting_config = grown.awaiting_config;
      cause_is = plain.cause_is its_end.0 its_end.1;
      ended = its_report.ends done;
      others = λ k b on off. responses.other_response l s w g readers r is reads comes unbroken fairly no_goaway k b on off;
      retiring = responses.retiring_same l s w g readers r is reads comes unbroken fairly no_goaway;
      settings = settings_more l r (owed_for r.frame l s)
          ∙ or_false (has_settings l) (is_settings r.frame) (responses.no_settings l s w g readers r is reads comes unbroken fairly no_goaway own);
    }

  last_by : (b : Bool) → list_any (λ (x : LiveStream). x.number == r.frame.stream) w.live ≡ b → Last
  last_by true e = own_last (responses.its_attempt l s w g readers r is reads comes unbroken fairly no_goaway e)
  last_by false e =
      no_ends (is_settings r.frame && not (has_settings l)) Last
      (ap kind_of (sym (responses.apart_news l s w g readers r is reads comes unbroken fairly no_goaway e)) ∙ kind)

  pub end_comes : Last
  end_comes = last_by (list_any (λ (x : LiveStream). x.number == r.frame.stream) w.live) refl
