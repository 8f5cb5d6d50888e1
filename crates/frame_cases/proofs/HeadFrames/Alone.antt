-- A head comes, and nothing else.
use Rattle.std.proofs.Common.{◌≡◌, ◌++◌, ◌&&◌, ◌||◌, ◌==◌, ◌∷◌, ap, refl, subst, sym, ◌∙◌, Bool, true, false, List, [], Option, None, Some, ℕ, drop, if◌then◌else◌, is_none, is_some, length, map, not}
use Rattle.std.proofs.lemmas.List.{append-nil}
use Rattle.std.specs.List.{list_all, list_any}
use Rattle.std.specs.Option.{option_map}
use Rattle.attempt_ledger.specs.declared.news.News.{News}
use Rattle.attempt_ledger.specs.declared.news.News.TheVariants as news
use Rattle.frame_cases.proofs.FrameKinds.Reported.{four_without, no_end, no_large}
use Rattle.frame_cases.proofs.QuietFrames.Responses as responses
use Rattle.frame_cases.proofs.QuietFrames.Responses.{HasAttempt, HasGrown, dropped_prefix, or_false}
use Rattle.frame_cases.specs.FrameKinds.Laws.{Ends, FrameKind, Prefaces, Heads, Large, Messages, Quiet, is_end, is_head, is_large, is_message, is_ready, kind_of}
use Rattle.frame_cases.specs.HeadFrames.Laws.{HasHead, HeadsComeAlone, IsReadWithHead}
use Rattle.grpc_base.specs.declared.fields.Field.{Field}
use Rattle.grpc_link.specs.Links.{Report as Reported}
use Rattle.grpc_link.specs.Response.{end_gained, head_gained, message_news}
use Rattle.grpc_link.specs.declared.readers.TagReader.{TagReader}
use Rattle.h2_frame.specs.Numbers.{goaway_type}
use Rattle.h2_link.specs.Feeds.{Line}
use Rattle.h2_link.specs.Wire.{Wire}
use Rattle.h2_link.specs.declared.live.LiveStream.{LiveStream}
use Rattle.link_actions.proofs.History.{settings_more}
use Rattle.link_actions.proofs.LossActions.Over.{all_go}
use Rattle.link_actions.specs.LossActions.Sees.{IsGoing, end_news}
use Rattle.link_actions.specs.ResponseActions.Gained.{gained, is_done, is_listed_fairly, large_gained}
use Rattle.link_actions.specs.ResponseActions.Laws.{IsFrameReported, frame_reported, seen_at}
use Rattle.link_actions.specs.ResponseActions.Readers.{SeesReaders}
use Rattle.link_actions.specs.StreamActions.Laws.{Comes, read_link}
use Rattle.link_actions.specs.StreamActions.Sees.{SeesStreams, response_of}
use Rattle.session_actions.specs.Links.{has_settings, is_settings}
use Rattle.session_actions.specs.Writing.{frame_read, owed_for}
use Rattle.session_actions.specs.declared.link.Link.{Link}
use Rattle.session_actions.specs.declared.link.ReadFrame.{ReadFrame}
use Rattle.session_actions.specs.declared.response.Outcome.{Outcome}
use Rattle.session_actions.specs.declared.response.Response.{Response}
use Rattle.session_actions.specs.declared.seen.Seen.{Seen}

-- a head is reported, no end and no message that is too long
record IsOfHead (ns : List News) : Type 0 where
  pub ends : list_any is_end ns ≡ false
  pub larges : list_any is_large ns ≡ false
  pub heads : list_any is_head ns ≡ true

abbrev IsLater : FrameKind → Type 0
IsLater Ends = ⊥
IsLater Large = ⊥
IsLater Heads = ⊥
IsLater _ = Unit {0}

head_of : (ns : List News) (y : FrameKind) (a b c : Bool) → list_any is_end ns ≡ a → list_any is_large ns ≡ b → list_any is_head ns ≡ c → IsLater y
    → (if a then Ends else if b then Large else if c then Heads else y) ≡ Heads → IsOfHead ns
head_of ns y false false true p q r later k = record { ends = p; larges = q; heads = r }
head_of ns y true b c p q r later k = absurd (let no : ⊥ = (cc) in no)
head_of ns y false true c p q r later k = absurd (let no : ⊥ = (cc) in no)
head_of ns y false false false p q r later k = absurd (subst IsLater k later)

later_of : (a b : Bool) → IsLater (if a then Messages else if b then Prefaces else Quiet)
later_of true b = tt
later_of false true = tt
later_of false false = tt

of_head : (ns : List News) → kind_of ns ≡ Heads → IsOfHead ns
of_head ns e =
    head_of ns (if list_any is_message ns then Messages else if list_any is_ready ns then Prefaces else Quiet) (list_any is_end ns) (list_any is_large ns) (list_any is_head ns)
    refl refl refl (later_of (list_any is_message ns) (list_any is_ready ns)) e

no_heads : (b : Bool) (P : Type 0) → kind_of (if b then news.Ready ∷ [] else []) ≡ Heads → P
no_heads true P e = absurd (let no : ⊥ = (cc) in no)
no_heads false P e = absurd (let no : ⊥ = (cc) in no)

none_in_messages : (tag seen : ℕ) (ms : List (List ℕ)) → list_any is_head (map (message_news tag seen) ms) ≡ false
none_in_messages tag seen [] = refl
none_in_messages tag seen (m ∷ ms) = none_in_messages tag seen ms

large_none : (tag seen : ℕ) (b : Bool) → large_gained tag seen b ≡ [] → b ≡ false
large_none tag seen true e = absurd (let no : ⊥ = (cc) in no)
large_none tag seen false e = refl

end_none : (tag seen : ℕ) (o : Option Outcome) → end_gained tag (option_map (λ (x : Outcome). end_news x seen) o) ≡ [] → o ≡ None
end_none tag seen None e = refl
end_none tag seen (Some x) e = absurd (let no : ⊥ = (cc) in no)

first_two : (a b c d : List News) → c ≡ [] → d ≡ [] → a ++ b ++ c ++ d ≡ a ++ b
first_two a b c d q r = ap (λ (x : List News). a ++ b ++ x ++ d) q ∙ ap (λ (x : List News). x ++ d) (append-nil (a ++ b)) ∙ ap (λ (x : List News). a ++ b ++ x) r ∙ append-nil (a ++ b)

record IsGain (tag seen : ℕ) (p q : Response) : Type 0 where
  pub meta : List Field
  pub news_are : gained tag seen p q ≡ news.Head tag meta seen ∷ []
  pub gains : HasHead meta p q
  pub goes : is_done q ≡ false

gain_of : (tag seen : ℕ) (p q : Response) → p.end ≡ None → p.large ≡ false → HasGrown p q → IsOfHead (gained tag seen p q) → IsGain tag seen p q
gain_of tag seen p q goes small grown is = by p.head q.head refl refl
  where
    b : List News
    b = map (message_news tag seen) (drop (length p.messages) q.messages)

    c : List News
    c = large_gained tag seen q.large

    d : List News
    d = end_gained tag (option_map (λ (o : Outcome). end_news o seen) q.end)

    no_c : c ≡ []
    no_c = no_large tag seen q.large (four_without is_large (head_gained tag seen p.head q.head) b c d is.larges).2

    no_d : d ≡ []
    no_d = no_end tag seen q.end (four_without is_end (head_gained tag seen p.head q.head) b c d is.ends).3

    ended : q.end ≡ None
    ended = end_none tag seen q.end no_d

    large : q.large ≡ false
    large = large_none tag seen q.large no_c

    news_by : (before now : Option (List Field)) → p.head ≡ before → q.head ≡ now → gained tag seen p q ≡ head_gained tag seen before now ++ b
    news_by before now e f =
        first_two (head_gained tag seen p.head q.head) b c d no_c no_d ∙ ap (λ (o : Option (List Field)). head_gained tag seen o q.head ++ b) e
        ∙ ap (λ (o : Option (List Field)). head_gained tag seen before o ++ b) f

    without : gained tag seen p q ≡ b → IsGain tag seen p q
    without e = absurd (let bad : true ≡ false = sym is.heads ∙ ap (list_any is_head) e ∙ none_in_messages tag seen (drop (length p.messages) q.messages) in let no : ⊥ = (cc) in no)

    by : (before now : Option (List Field)) → p.head ≡ before → q.head ≡ now → IsGain tag seen p q
    by (Some x) now e f = without (news_by (Some x) now e f)
    by None None e f = without (news_by None None e f)
    by None (Some meta) e f =
        let none : grown.more ≡ [] = grown.awaiting_config (ap (λ (o : Option (List Field)). is_none o) e) in
        let same : q.messages ≡ p.messages = grown.messages ∙ ap (λ (ms : List (List ℕ)). p.messages ++ ms) none ∙ append-nil p.messages in
        let left : drop (length p.messages) q.messages ≡ [] = ap (drop (length p.messages)) grown.messages ∙ dropped_prefix p.messages grown.more ∙ none in
        record {
          meta = meta;
          news_are = news_by None (Some meta) e f ∙ ap (λ (ms : List (List ℕ)). news.Head tag meta seen ∷ map (message_news tag seen) ms) left;
          gains = record { was = e; head = f; messages = same; large = large ∙ sym small; small = large; end = ended ∙ sym goes };
          goes = ap (λ (o : Option Outcome). is_some o || q.large) ended ∙ large;
        }

module _ (l : Link) (s : Seen) (w : Wire) (g : ℕ → Line) (readers : List TagReader) (r : ReadFrame) (is : SeesStreams l s w g) (reads : SeesReaders l s readers) (comes : Comes l w r)
    (unbroken : l.over ≡ None) (fairly : list_all is_listed_fairly l.traffic ≡ true) (no_goaway : (r.frame.kind == goaway_type) ≡ false)
    (kind : kind_of (frame_reported w readers r.frame).news ≡ Heads) where
  abbrev m : Link
  m = read_link r l s

  abbrev u : Seen
  u = frame_read l.number r s

  abbrev out : Reported
  out = frame_reported w readers r.frame

  abbrev Alone : Type 0
  Alone = IsReadWithHead l m s u r.frame.stream (seen_at r) out.news out.link.link.wire g out.link.readers

  module _ (own : HasAttempt l s r.frame.stream) where
    abbrev p : Response
    p = response_of l s r.frame.stream own.attempt

    abbrev q : Response
    q = response_of m u r.frame.stream own.attempt

    going : IsGoing p
    going = all_go l s w g r.frame.stream own.attempt is own.on

    its : IsFrameReported l s m u out g r.frame.stream (seen_at r) own.attempt
    its = responses.own_reported l s w g readers r is reads comes unbroken fairly no_goaway own

    gain : IsGain own.attempt.place (seen_at r) p q
    gain =
        gain_of own.attempt.place (seen_at r) p q going.goes going.small (responses.its_growth l s w g readers r is reads comes unbroken fairly no_goaway own)
        (subst IsOfHead its.news (of_head out.news kind))

    own_alone : Alone
    own_alone =
        let both = its.goes gain.goes in
        record {
          attempt = own.attempt;
          on = own.on;
          meta = gain.meta;
          news_are = its.news ∙ gain.news_are;
          gains = gain.gains;
          others = λ k b on off. responses.other_response l s w g readers r is reads comes unbroken fairly no_goaway k b on off;
          streams = both.0;
          reads = both.1;
          unreset = its.unreset gain.goes;
          retiring = responses.retiring_same l s w g readers r is reads comes unbroken fairly no_goaway;
          settings = settings_more l r (owed_for r.frame l s)
              ∙ or_false (has_settings l) (is_settings r.frame) (responses.no_settings l s w g readers r is reads comes unbroken fairly no_goaway own);
        }

  alone_by : (b : Bool) → list_any (λ (x : LiveStream). x.number == r.frame.stream) w.live ≡ b → Alone
  alone_by true e = own_alone (responses.its_attempt l s w g readers r is reads comes unbroken fairly no_goaway e)
  alone_by false e =
      no_heads (is_settings r.frame && not (has_settings l)) Alone
      (ap kind_of (sym (responses.apart_news l s w g readers r is reads comes unbroken fairly no_goaway e)) ∙ kind)

pub heads_come_alone : HeadsComeAlone
heads_come_alone l s w g readers r is reads comes unbroken fairly no_goaway kind =
    alone_by l s w g readers r is reads comes unbroken fairly no_goaway kind (list_any (λ (x : LiveStream). x.number == r.frame.stream) w.live) refl
