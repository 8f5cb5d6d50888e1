-- A frame brings a message that is too long: it may bring messages before, and nothing else; its attempt has no reader any more, and its link owes the reset of its stream.
use Rattle.std.proofs.Common.{◌≡◌, ◌++◌, ◌&&◌, ◌||◌, ◌==◌, ◌∷◌, ap, refl, subst, sym, ◌∙◌, Bool, true, false, List, [], None, ℕ, if◌then◌else◌, is_none, is_some, map, not}
use Rattle.std.specs.List.{list_all, list_any}
use Rattle.attempt_ledger.specs.declared.news.News.{News}
use Rattle.attempt_ledger.specs.declared.news.News.TheVariants as news
use Rattle.frame_cases.proofs.LargeFrames.Gains.{IsLargePlainly, gained_large, larges_reported, read_large}
use Rattle.frame_cases.proofs.QuietFrames.Responses as responses
use Rattle.frame_cases.proofs.QuietFrames.Responses.{HasAttempt, HasGrown, or_false}
use Rattle.frame_cases.specs.FrameKinds.Laws.{Ends, Prefaces, Heads, Large, Messages, Quiet, is_end, is_head, is_large, is_message, is_ready, kind_of}
use Rattle.frame_cases.specs.QuietFrames.Laws.{HasNothingNew}
use Rattle.grpc_link.specs.Links.{Report as Reported}
use Rattle.grpc_link.specs.Response.{message_news}
use Rattle.grpc_link.specs.declared.readers.TagReader.{TagReader}
use Rattle.h2_frame.specs.Numbers.{goaway_type}
use Rattle.h2_link.specs.Feeds.{Line}
use Rattle.h2_link.specs.Wire.{Wire}
use Rattle.h2_link.specs.declared.live.LiveStream.{LiveStream}
use Rattle.link_actions.proofs.History.{settings_more}
use Rattle.link_actions.proofs.LossActions.Over.{all_go}
use Rattle.link_actions.specs.LossActions.Sees.{IsGoing}
use Rattle.link_actions.specs.ResponseActions.Gained.{is_done, is_listed_fairly}
use Rattle.link_actions.specs.ResponseActions.Laws.{IsEnded, IsFrameReported, frame_reported, seen_at}
use Rattle.link_actions.specs.ResponseActions.Readers.{SeesReaders}
use Rattle.link_actions.specs.StreamActions.Laws.{Comes, IsOn, read_link}
use Rattle.link_actions.specs.StreamActions.Sees.{SeesStreams, response_of}
use Rattle.session_actions.specs.Links.{has_settings, is_retiring, is_settings}
use Rattle.session_actions.specs.Responses.{limit_of_attempt}
use Rattle.session_actions.specs.Writing.{frame_read, owed_for}
use Rattle.session_actions.specs.declared.attempt.Attempt.{Attempt}
use Rattle.session_actions.specs.declared.link.Link.{Link}
use Rattle.session_actions.specs.declared.link.ReadFrame.{ReadFrame}
use Rattle.session_actions.specs.declared.response.Response.{Response}
use Rattle.session_actions.specs.declared.seen.Seen.{Seen}

-- a response to which these messages came, before one that is too long
pub record HasFirst (more : List (List ℕ)) (p q : Response) : Type 0 where
  pub head : q.head ≡ p.head
  pub messages : q.messages ≡ p.messages ++ more
  pub end : q.end ≡ p.end

pub record IsReadWithLarge (l m : Link) (s t : Seen) (n seen : ℕ) (ns : List News) (w : Wire) (g : ℕ → Line) (readers : List TagReader) : Type 0 where
  pub attempt : Attempt
  pub on : IsOn l s n attempt
  pub more : List (List ℕ)
  pub large : (response_of m t n attempt).large ≡ true
  pub goes : (response_of m t n attempt).end ≡ None
  pub news_are : ns ≡ map (message_news attempt.place seen) more ++ news.TooLarge attempt.place seen ∷ []
  pub gains : HasFirst more (response_of l s n attempt) (response_of m t n attempt)
  pub headed : is_none (response_of l s n attempt).head ≡ false
  pub ended : IsEnded m t w g readers n attempt
  pub others : (k : ℕ) (b : Attempt) → IsOn l s k b → (n == k) ≡ false → HasNothingNew (response_of l s k b) (response_of m t k b)
  pub retiring : is_retiring m ≡ is_retiring l
  pub settings : has_settings m ≡ has_settings l

-- such a message is reported
large_by : (a b c d e : Bool) → (if a then Ends else if b then Large else if c then Heads else if d then Messages else if e then Prefaces else Quiet) ≡ Large → b ≡ true
large_by true b c d e h = absurd (cc)
large_by false true c d e h = refl
large_by false false true d e h = absurd (cc)
large_by false false false true e h = absurd (cc)
large_by false false false false true h = absurd (cc)
large_by false false false false false h = absurd (cc)

reports_large : (ns : List News) → kind_of ns ≡ Large → list_any is_large ns ≡ true
reports_large ns e = large_by (list_any is_end ns) (list_any is_large ns) (list_any is_head ns) (list_any is_message ns) (list_any is_ready ns) e

no_large : (b : Bool) (P : Type 0) → kind_of (if b then news.Ready ∷ [] else []) ≡ Large → P
no_large true P e = absurd (let no : ⊥ = (cc) in no)
no_large false P e = absurd (let no : ⊥ = (cc) in no)

module _ (l : Link) (s : Seen) (w : Wire) (g : ℕ → Line) (readers : List TagReader) (r : ReadFrame) (is : SeesStreams l s w g) (reads : SeesReaders l s readers) (comes : Comes l w r)
    (unbroken : l.over ≡ None) (fairly : list_all is_listed_fairly l.traffic ≡ true) (no_goaway : (r.frame.kind == goaway_type) ≡ false)
    (kind : kind_of (frame_reported w readers r.frame).news ≡ Large) where
  abbrev m : Link
  m = read_link r l s

  abbrev u : Seen
  u = frame_read l.number r s

  abbrev out : Reported
  out = frame_reported w readers r.frame

  abbrev Long : Type 0
  Long = IsReadWithLarge l m s u r.frame.stream (seen_at r) out.news out.link.link.wire g out.link.readers

  module _ (own : HasAttempt l s r.frame.stream) where
    abbrev p : Response
    p = response_of l s r.frame.stream own.attempt

    abbrev q : Response
    q = response_of m u r.frame.stream own.attempt

    going : IsGoing p
    going = all_go l s w g r.frame.stream own.attempt is own.on

    its_report : IsFrameReported l s m u out g r.frame.stream (seen_at r) own.attempt
    its_report = responses.own_reported l s w g readers r is reads comes unbroken fairly no_goaway own

    grown : HasGrown p q
    grown = responses.its_growth l s w g readers r is reads comes unbroken fairly no_goaway own

    plain : IsLargePlainly p q
    plain =
        subst (IsLargePlainly p) (sym (responses.read_on l s w g readers r is reads comes unbroken fairly no_goaway r.frame.stream own.attempt own.on))
        (read_large (limit_of_attempt own.attempt s) r.frame.stream p r going.goes going.small)

    its_large : q.large ≡ true
    its_large =
        larges_reported own.attempt.place (seen_at r) p q
        (ap (list_any is_large) (sym its_report.news) ∙ reports_large out.news kind)

    or_true : (b : Bool) → (b || true) ≡ true
    or_true true = refl
    or_true false = refl

    done : is_done q ≡ true
    done = ap (λ (b : Bool). is_some q.end || b) its_large ∙ or_true (is_some q.end)

    own_long : Long
    own_long = record {
      attempt = own.attempt;
      on = own.on;
      more = grown.more;
      large = its_large;
      goes = plain.goes its_large;
      news_are = its_report.news ∙ gained_large own.attempt.place (seen_at r) p q grown plain its_large;
      gains = record { head = plain.head its_large; messages = grown.messages; end = plain.goes its_large ∙ sym going.goes };
      headed = plain.headed its_large;
      ended = its_report.ends done;
      others = λ k b on off. responses.other_response l s w g readers r is reads comes unbroken fairly no_goaway k b on off;
      retiring = responses.retiring_same l s w g readers r is reads comes unbroken fairly no_goaway;
      settings = settings_more l r (owed_for r.frame l s)
          ∙ or_false (has_settings l) (is_settings r.frame) (responses.no_settings l s w g readers r is reads comes unbroken fairly no_goaway own);
    }

  long_by : (b : Bool) → list_any (λ (x : LiveStream). x.number == r.frame.stream) w.live ≡ b → Long
  long_by true e = own_long (responses.its_attempt l s w g readers r is reads comes unbroken fairly no_goaway e)
  long_by false e =
      no_large (is_settings r.frame && not (has_settings l)) Long
      (ap kind_of (sym (responses.apart_news l s w g readers r is reads comes unbroken fairly no_goaway e)) ∙ kind)

  pub large_comes : Long
  large_comes = long_by (list_any (λ (x : LiveStream). x.number == r.frame.stream) w.live) refl
