-- The ends that GOAWAY brings, as the channel keeps them: of the attempts that wait for a stream and of those whose streams it leaves out, and of no other, the lowest
-- place first.
use Rattle.std.proofs.Common.{◌≡◌, ◌&&◌, ◌||◌, ◌++◌, ◌∷◌, ap, refl, subst, sym, ◌∙◌, Bool, true, false, List, [], None, Option, Some, ℕ, if◌then◌else◌, is_none, is_some, map}
use Rattle.std.specs.List.{AllByRecursion}
use Rattle.attempt_ledger.specs.declared.news.EndNews.{EndNews}
use Rattle.attempt_ledger.specs.declared.news.News.{News}
use Rattle.attempt_ledger.specs.declared.news.News.TheVariants as news
use Rattle.attempt_ledger.specs.declared.row.RowEnd.{RowEnd}
use Rattle.channel_core.specs.Arrivals.{received_all}
use Rattle.channel_core.specs.States.{StateSeen}
use Rattle.channel_core.specs.Steps.{ends_kept, retired}
use Rattle.frame_cases.proofs.RetiredLinks.News.{AreRising, each_kept, kept_on, rising_kept, tags, tags_kept}
use Rattle.frame_cases.proofs.RetiredLinks.Places.{all_left_at, each_passes, each_sorted, each_there}
use Rattle.frame_cases.proofs.RetiredLinks.Shapes.{is_left, out_for}
use Rattle.lb_policy.specs.Table.{is_one_of}
use Rattle.link_actions.specs.LossActions.Sees.{end_news}
use Rattle.link_actions.specs.ResponseActions.Laws.{ended_as, left_out_end, places_of}
use Rattle.link_actions.specs.Sees.{AttemptsStandInPlace, by_stream}
use Rattle.link_actions.specs.StreamActions.Laws.{AreAllOf, IsSomewhere, is_left_out, left_out}
use Rattle.session_actions.specs.AttemptEnds.{unsent_end}
use Rattle.session_actions.specs.Links.{is_retiring}
use Rattle.session_actions.specs.Reading.{is_outstanding_on, outstanding_on}
use Rattle.session_actions.specs.Words.{numbered}
use Rattle.session_actions.specs.Writing.{streaming_on, waiting_on}
use Rattle.session_actions.specs.declared.attempt.Attempt.{Attempt}
use Rattle.session_actions.specs.declared.link.Link.{Link}
use Rattle.session_actions.specs.declared.response.Outcome.{Outcome}
use Rattle.session_actions.specs.declared.seen.Seen.{Seen}

-- as the session stamps such an end, but for tokens and words, which bear on no link
abbrev pub owed_end : ℕ → ℕ → EndNews → RowEnd
owed_end at moment n = record {
  entry = at;
  moment = moment;
  code = n.code;
  text = n.text;
  meta = n.meta;
  pushback = n.pushback;
  unseen = n.unseen;
  seen = n.seen;
  cause = n.cause;
  tokens = None;
  word = None;
}

abbrev pub owed_ends : ℕ → ℕ → List (ℕ × EndNews) → List (ℕ × RowEnd)
owed_ends at moment ends = map (λ (x : ℕ × EndNews). (x.0, owed_end at moment x.1)) ends

pub places_owed : (at moment : ℕ) (ends : List (ℕ × EndNews)) → map (λ (x : ℕ × RowEnd). x.0) (owed_ends at moment ends) ≡ tags ends
places_owed at moment [] = refl
places_owed at moment (x ∷ ends) = ap (λ (ns : List ℕ). x.0 ∷ ns) (places_owed at moment ends)

-- of what is handled beside the ends
ends_unreceived : (link : ℕ) (o : Outcome) (seen : ℕ) (xs : List Attempt) (ms : List News) (x : StateSeen) → received_all link (map (ended_as o seen) xs ++ ms) x ≡ received_all link ms x
ends_unreceived link o seen [] ms x = refl
ends_unreceived link o seen (a ∷ xs) ms x = ends_unreceived link o seen xs ms x

joined : (as_ bs cs : List News) → (as_ ++ bs) ++ cs ≡ as_ ++ (bs ++ cs)
joined [] bs cs = refl
joined (a ∷ as_) bs cs = ap (λ (ns : List News). a ∷ ns) (joined as_ bs cs)

retired_if : (link : ℕ) (b : Bool) (x : StateSeen) → received_all link (if b then [] else news.Retiring ∷ []) x ≡ (if b then x else retired link x)
retired_if link true x = refl
retired_if link false x = refl

none_more : (b : Bool) (ends : List (ℕ × EndNews)) → ends_kept (if b then [] else news.Retiring ∷ []) ends ≡ ends
none_more true ends = refl
none_more false ends = refl

-- one of them
pub record IsEndOf (l : Link) (s : Seen) (last seen : ℕ) (x : ℕ × EndNews) : Type 0 where
  pub attempt : Attempt
  pub there : numbered s.attempts x.0 ≡ Some attempt
  pub left : is_left l last attempt ≡ true
  pub news_is : x.1 ≡ end_news (out_for attempt) seen

left_by : (o : Option ℕ) (out low : Bool) → out ≡ true → is_some o ≡ true → low ≡ true → (out && (is_none o || low)) ≡ true
left_by (Some n) true true e f g = refl
left_by (Some n) true false e f g = absurd (cc)
left_by (Some n) false low e f g = absurd (cc)
left_by None out low e f g = absurd (cc)

waits_by : (o : Option ℕ) (out low : Bool) → out ≡ true → is_none o ≡ true → (out && (is_none o || low)) ≡ true
waits_by None true low e f = refl
waits_by None false low e f = absurd (cc)
waits_by (Some n) out low e f = absurd (cc)

sent_by : (o : Option ℕ) (seen : ℕ) → is_some o ≡ true → end_news left_out_end seen ≡ end_news (if is_some o then left_out_end else unsent_end) seen
sent_by (Some n) seen e = refl
sent_by None seen e = absurd (cc)

unsent_by : (o : Option ℕ) (seen : ℕ) → is_none o ≡ true → end_news unsent_end seen ≡ end_news (if is_some o then left_out_end else unsent_end) seen
unsent_by None seen e = refl
unsent_by (Some n) seen e = absurd (cc)

out_with : (o : Option ℕ) (out low : Bool) → is_some o ≡ true → out ≡ true → (out && (is_none o || low)) ≡ low
out_with (Some n) true low e f = refl
out_with (Some n) false low e f = absurd (cc)
out_with None out low e f = absurd (cc)

module _ (l : Link) (s : Seen) (last seen : ℕ) (ns : List News) (places : AttemptsStandInPlace 1 s.attempts)
    (is : ns ≡ map (ended_as left_out_end seen) (left_out l s last) ++ map (ended_as unsent_end seen) (waiting_on l s) ++ (if is_retiring l then [] else news.Retiring ∷ [])) where
  abbrev pub ends : List (ℕ × EndNews)
  ends = ends_kept ns []

  abbrev sent : List News
  sent = map (ended_as left_out_end seen) (left_out l s last)

  abbrev waiting : List News
  waiting = map (ended_as unsent_end seen) (waiting_on l s)

  abbrev rest : List News
  rest = if is_retiring l then [] else news.Retiring ∷ []

  ends_are : ends ≡ ends_kept waiting (ends_kept sent [])
  ends_are =
      ap (λ (ms : List News). ends_kept ms []) is ∙ kept_on (sent ++ waiting) rest [] ∙ none_more (is_retiring l) (ends_kept (sent ++ waiting) []) ∙ kept_on sent waiting []

  pub received_is : (link : ℕ) (x : StateSeen) → received_all link ns x ≡ (if is_retiring l then x else retired link x)
  received_is link x =
      ap (λ (ms : List News). received_all link ms x) (is ∙ joined sent waiting rest) ∙ ends_unreceived link left_out_end seen (left_out l s last) (waiting ++ rest) x
      ∙ ends_unreceived link unsent_end seen (waiting_on l s) rest x ∙ retired_if link (is_retiring l) x

  pub rising : AreRising ends
  rising = rising_kept ns [] tt

  pub tags_at : (n : ℕ) (a : Attempt) → numbered s.attempts n ≡ Some a → is_one_of (tags ends) n ≡ is_left l last a
  tags_at n a at =
      ap (λ (es : List (ℕ × EndNews)). is_one_of (tags es) n) ends_are ∙ tags_kept n unsent_end seen (waiting_on l s) (ends_kept sent [])
      ∙ ap (λ (b : Bool). is_one_of (places_of (waiting_on l s)) n || b) (tags_kept n left_out_end seen (left_out l s last) [])
      ∙ all_left_at l s last places n a at

  -- each
  abbrev Own : Attempt → Type 0
  Own a = numbered s.attempts a.place ≡ Some a

  record IsHere (a : Attempt) : Type 0 where
    own : Own a
    out : is_outstanding_on l a ≡ true

  record IsSent (a : Attempt) : Type 0 where
    here : IsHere a
    stream : is_some a.row.stream ≡ true

  record Waits (a : Attempt) : Type 0 where
    here : IsHere a
    stream : is_none a.row.stream ≡ true

  all_here : AllByRecursion IsHere (outstanding_on l s)
  all_here = each_passes Own IsHere (is_outstanding_on l) (λ a own out. record { own = own; out = out }) s.attempts (each_there s.attempts places)

  all_sent : AllByRecursion IsSent (by_stream (streaming_on l s))
  all_sent =
      each_sorted IsSent (streaming_on l s)
      (each_passes IsHere IsSent (λ (a : Attempt). is_some a.row.stream) (λ a here stream. record { here = here; stream = stream }) (outstanding_on l s) all_here)

  all_wait : AllByRecursion Waits (waiting_on l s)
  all_wait = each_passes IsHere Waits (λ (a : Attempt). is_none a.row.stream) (λ a here stream. record { here = here; stream = stream }) (outstanding_on l s) all_here

  sent_end : (a : Attempt) → IsSent a → is_left_out last a ≡ true → IsEndOf l s last seen (a.place, end_news left_out_end seen)
  sent_end a k low = record {
    attempt = a;
    there = k.here.own;
    left = left_by a.row.stream (is_outstanding_on l a) (is_left_out last a) k.here.out k.stream low;
    news_is = sent_by a.row.stream seen k.stream;
  }

  waiting_end : (a : Attempt) → Waits a → IsEndOf l s last seen (a.place, end_news unsent_end seen)
  waiting_end a k = record {
    attempt = a;
    there = k.here.own;
    left = waits_by a.row.stream (is_outstanding_on l a) (is_left_out last a) k.here.out k.stream;
    news_is = unsent_by a.row.stream seen k.stream;
  }

  each_of : (P Q : Attempt → Type 0) → ((a : Attempt) → P a → Q a) → (xs : List Attempt) → AllByRecursion P xs → AllByRecursion Q xs
  each_of P Q f [] all = tt
  each_of P Q f (a ∷ xs) all = (f a all.0, each_of P Q f xs all.1)

  each_by : AllByRecursion (IsEndOf l s last seen) (ends_kept waiting (ends_kept sent []))
  each_by =
      each_kept (IsEndOf l s last seen) unsent_end seen (waiting_on l s) (ends_kept sent [])
      (each_of Waits (λ (a : Attempt). IsEndOf l s last seen (a.place, end_news unsent_end seen)) waiting_end (waiting_on l s) all_wait)
      (each_kept (IsEndOf l s last seen) left_out_end seen (left_out l s last) []
      (each_passes IsSent (λ (a : Attempt). IsEndOf l s last seen (a.place, end_news left_out_end seen)) (is_left_out last) sent_end (by_stream (streaming_on l s)) all_sent) tt)

  pub each_end : AllByRecursion (IsEndOf l s last seen) ends
  each_end = subst (AllByRecursion (IsEndOf l s last seen)) (sym ends_are) each_by

  -- these are all that GOAWAY ends
  module _ (at moment : ℕ) where
    all_somewhere : (es : List (ℕ × EndNews)) → AllByRecursion (IsEndOf l s last seen) es → AllByRecursion (λ (x : ℕ × RowEnd). IsSomewhere s x.0) (owed_ends at moment es)
    all_somewhere [] all = tt
    all_somewhere (x ∷ es) all = (record { attempt = all.0.attempt; there = all.0.there }, all_somewhere es all.1)

    owed_at : (n : ℕ) (a : Attempt) → numbered s.attempts n ≡ Some a → is_one_of (map (λ (x : ℕ × RowEnd). x.0) (owed_ends at moment ends)) n ≡ is_left l last a
    owed_at n a here = ap (λ (ks : List ℕ). is_one_of ks n) (places_owed at moment ends) ∙ tags_at n a here

    pub all_of : AreAllOf l s last (owed_ends at moment ends)
    all_of = record {
      somewhere = all_somewhere ends each_end;
      streams = each_of IsSent (λ (a : Attempt). is_one_of (map (λ (x : ℕ × RowEnd). x.0) (owed_ends at moment ends)) a.place ≡ is_left_out last a)
          (λ a k. owed_at a.place a k.here.own ∙ out_with a.row.stream (is_outstanding_on l a) (is_left_out last a) k.stream k.here.out) (by_stream (streaming_on l s)) all_sent;
      waits = each_of Waits (λ (a : Attempt). is_one_of (map (λ (x : ℕ × RowEnd). x.0) (owed_ends at moment ends)) a.place ≡ true)
          (λ a k. owed_at a.place a k.here.own ∙ waits_by a.row.stream (is_outstanding_on l a) (is_left_out last a) k.here.out k.stream) (waiting_on l s) all_wait;
    }
