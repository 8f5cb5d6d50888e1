-- Messages come, and nothing else.
use Rattle.std.proofs.Common.{◌≡◌, ◌++◌, ◌&&◌, ◌||◌, ◌==◌, ◌∷◌, ap, refl, subst, sym, ◌∙◌, Bool, true, false, List, [], Option, None, Some, ℕ, drop, if◌then◌else◌, is_some, length, map, not}
use Rattle.std.proofs.lemmas.List.{append-nil}
use Rattle.std.specs.List.{list_all, list_any}
use Rattle.std.specs.Option.{option_map}
use Rattle.attempt_ledger.specs.declared.news.News.{News}
use Rattle.attempt_ledger.specs.declared.news.News.TheVariants as news
use Rattle.frame_cases.proofs.FrameKinds.Reported.{four_without, no_end, no_head, no_large}
use Rattle.frame_cases.proofs.QuietFrames.Responses as responses
use Rattle.frame_cases.proofs.QuietFrames.Responses.{HasAttempt, HasGrown, dropped_prefix, head_still, or_false}
use Rattle.frame_cases.specs.FrameKinds.Laws.{Ends, FrameKind, Prefaces, Heads, Large, Messages, Quiet, is_end, is_head, is_large, is_message, is_ready, kind_of}
use Rattle.frame_cases.specs.MessageFrames.Laws.{HasMessages, IsReadWithMessages, MessagesComeAlone}
use Rattle.grpc_link.specs.Links.{Report as Reported}
use Rattle.grpc_link.specs.Response.{end_gained, head_gained, message_news}
use Rattle.grpc_link.specs.declared.readers.TagReader.{TagReader}
use Rattle.h2_frame.specs.Numbers.{goaway_type}
use Rattle.h2_link.specs.Feeds.{Line}
use Rattle.h2_link.specs.Wire.{Wire}
use Rattle.h2_link.specs.declared.live.LiveStream.{LiveStream}
use Rattle.link_actions.proofs.History.{settings_more}
use Rattle.link_actions.proofs.LossActions.Over.{all_go}
use Rattle.link_actions.specs.LossActions.Sees.{IsGoing, end_news}
use Rattle.link_actions.specs.ResponseActions.Gained.{gained, is_done, is_listed_fairly, large_gained}
use Rattle.link_actions.specs.ResponseActions.Laws.{frame_reported, seen_at}
use Rattle.link_actions.specs.ResponseActions.Readers.{SeesReaders}
use Rattle.link_actions.specs.StreamActions.Laws.{Comes, read_link}
use Rattle.link_actions.specs.StreamActions.Sees.{SeesStreams, response_of}
use Rattle.session_actions.specs.Links.{has_settings, is_settings}
use Rattle.session_actions.specs.Writing.{frame_read, owed_for}
use Rattle.session_actions.specs.declared.link.Link.{Link}
use Rattle.session_actions.specs.declared.link.ReadFrame.{ReadFrame}
use Rattle.session_actions.specs.declared.response.Outcome.{Outcome}
use Rattle.session_actions.specs.declared.response.Response.{Response}
use Rattle.session_actions.specs.declared.seen.Seen.{Seen}

-- no end, no message that is too long and no head is reported
abbrev IsLate : FrameKind → Type 0
IsLate Ends = ⊥
IsLate Large = ⊥
IsLate Heads = ⊥
IsLate _ = Unit {0}

record NoneBefore (ns : List News) : Type 0 where
  pub ends : list_any is_end ns ≡ false
  pub larges : list_any is_large ns ≡ false
  pub heads : list_any is_head ns ≡ false

three_before : (ns : List News) (y z : FrameKind) (a b c : Bool) → list_any is_end ns ≡ a → list_any is_large ns ≡ b → list_any is_head ns ≡ c → IsLate z
    → (if a then Ends else if b then Large else if c then Heads else y) ≡ z → NoneBefore ns
three_before ns y z false false false p q r late k = record { ends = p; larges = q; heads = r }
three_before ns y z true b c p q r late k = absurd (subst IsLate (sym k) late)
three_before ns y z false true c p q r late k = absurd (subst IsLate (sym k) late)
three_before ns y z false false true p q r late k = absurd (subst IsLate (sym k) late)

before_messages : (ns : List News) → kind_of ns ≡ Messages → NoneBefore ns
before_messages ns e =
    three_before ns (if list_any is_message ns then Messages else if list_any is_ready ns then Prefaces else Quiet) Messages (list_any is_end ns) (list_any is_large ns) (list_any is_head ns)
    refl refl refl tt e

no_messages : (b : Bool) (P : Type 0) → kind_of (if b then news.Ready ∷ [] else []) ≡ Messages → P
no_messages true P e = absurd (let no : ⊥ = (cc) in no)
no_messages false P e = absurd (let no : ⊥ = (cc) in no)

-- so the messages are all
only_second : (a b c d : List News) → a ≡ [] → c ≡ [] → d ≡ [] → a ++ b ++ c ++ d ≡ b
only_second a b c d p q r =
    let one : a ++ b ++ c ++ d ≡ b ++ c ++ d = ap (λ (x : List News). x ++ b ++ c ++ d) p in
    let two : b ++ c ++ d ≡ b ++ d = ap (λ (x : List News). b ++ x ++ d) q ∙ ap (λ (x : List News). x ++ d) (append-nil b) in
    let three : b ++ d ≡ b = ap (λ (x : List News). b ++ x) r ∙ append-nil b in
    one ∙ two ∙ three

large_none : (tag seen : ℕ) (b : Bool) → large_gained tag seen b ≡ [] → b ≡ false
large_none tag seen true e = absurd (let no : ⊥ = (cc) in no)
large_none tag seen false e = refl

end_none : (tag seen : ℕ) (o : Option Outcome) → end_gained tag (option_map (λ (x : Outcome). end_news x seen) o) ≡ [] → o ≡ None
end_none tag seen None e = refl
end_none tag seen (Some x) e = absurd (let no : ⊥ = (cc) in no)

record IsGain (tag seen : ℕ) (p q : Response) : Type 0 where
  pub more : List (List ℕ)
  pub news_are : gained tag seen p q ≡ map (message_news tag seen) more
  pub gains : HasMessages more p q
  pub goes : is_done q ≡ false

gain_of : (tag seen : ℕ) (p q : Response) → p.end ≡ None → p.large ≡ false → HasGrown p q → NoneBefore (gained tag seen p q) → IsGain tag seen p q
gain_of tag seen p q goes small grown none =
    let a : List News = head_gained tag seen p.head q.head in
    let b : List News = map (message_news tag seen) (drop (length p.messages) q.messages) in
    let c : List News = large_gained tag seen q.large in
    let d : List News = end_gained tag (option_map (λ (o : Outcome). end_news o seen) q.end) in
    let no_a : a ≡ [] = no_head tag seen p.head q.head (four_without is_head a b c d none.heads).0 in
    let no_c : c ≡ [] = no_large tag seen q.large (four_without is_large a b c d none.larges).2 in
    let no_d : d ≡ [] = no_end tag seen q.end (four_without is_end a b c d none.ends).3 in
    let left : drop (length p.messages) q.messages ≡ grown.more = ap (drop (length p.messages)) grown.messages ∙ dropped_prefix p.messages grown.more in
    let ended : q.end ≡ None = end_none tag seen q.end no_d in
    let large : q.large ≡ false = large_none tag seen q.large no_c in
    record {
      more = grown.more;
      news_are = only_second a b c d no_a no_c no_d ∙ ap (map (message_news tag seen)) left;
      gains = record {
        head = head_still tag seen p.head q.head no_a grown.head;
        messages = grown.messages;
        large = large ∙ sym small;
        end = ended ∙ sym goes;
      };
      goes = ap (λ (o : Option Outcome). is_some o || q.large) ended ∙ large;
    }

module _ (l : Link) (s : Seen) (w : Wire) (g : ℕ → Line) (readers : List TagReader) (r : ReadFrame) (is : SeesStreams l s w g) (reads : SeesReaders l s readers) (comes : Comes l w r)
    (unbroken : l.over ≡ None) (fairly : list_all is_listed_fairly l.traffic ≡ true) (no_goaway : (r.frame.kind == goaway_type) ≡ false)
    (kind : kind_of (frame_reported w readers r.frame).news ≡ Messages) where
  abbrev m : Link
  m = read_link r l s

  abbrev u : Seen
  u = frame_read l.number r s

  abbrev out : Reported
  out = frame_reported w readers r.frame

  abbrev Alone : Type 0
  Alone = IsReadWithMessages l m s u r.frame.stream (seen_at r) out.news out.link.link.wire g out.link.readers

  module _ (own : HasAttempt l s r.frame.stream) where
    abbrev p : Response
    p = response_of l s r.frame.stream own.attempt

    abbrev q : Response
    q = response_of m u r.frame.stream own.attempt

    going : IsGoing p
    going = all_go l s w g r.frame.stream own.attempt is own.on

    gain : IsGain own.attempt.place (seen_at r) p q
    gain =
        gain_of own.attempt.place (seen_at r) p q going.goes going.small (responses.its_growth l s w g readers r is reads comes unbroken fairly no_goaway own)
        (subst NoneBefore (responses.own_reported l s w g readers r is reads comes unbroken fairly no_goaway own).news (before_messages out.news kind))

    own_alone : Alone
    own_alone =
        let both = (responses.own_reported l s w g readers r is reads comes unbroken fairly no_goaway own).goes gain.goes in
        record {
          attempt = own.attempt;
          on = own.on;
          more = gain.more;
          news_are = (responses.own_reported l s w g readers r is reads comes unbroken fairly no_goaway own).news ∙ gain.news_are;
          gains = gain.gains;
          others = λ k b on off. responses.other_response l s w g readers r is reads comes unbroken fairly no_goaway k b on off;
          streams = both.0;
          reads = both.1;
          retiring = responses.retiring_same l s w g readers r is reads comes unbroken fairly no_goaway;
          settings = settings_more l r (owed_for r.frame l s)
              ∙ or_false (has_settings l) (is_settings r.frame) (responses.no_settings l s w g readers r is reads comes unbroken fairly no_goaway own);
        }

  alone_by : (b : Bool) → list_any (λ (x : LiveStream). x.number == r.frame.stream) w.live ≡ b → Alone
  alone_by true e = own_alone (responses.its_attempt l s w g readers r is reads comes unbroken fairly no_goaway e)
  alone_by false e =
      no_messages (is_settings r.frame && not (has_settings l)) Alone
      (ap kind_of (sym (responses.apart_news l s w g readers r is reads comes unbroken fairly no_goaway e)) ∙ kind)

pub messages_come_alone : MessagesComeAlone
messages_come_alone l s w g readers r is reads comes unbroken fairly no_goaway kind =
    alone_by l s w g readers r is reads comes unbroken fairly no_goaway kind (list_any (λ (x : LiveStream). x.number == r.frame.stream) w.live) refl
