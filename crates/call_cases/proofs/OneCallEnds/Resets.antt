-- RST_STREAM that is queued for an attempt that ended leaves what session and channel have of its call: also on its link.
use Rattle.std.proofs.Common.{◌≡◌, ◌++◌, ◌==◌, ◌&&◌, ◌∷◌, ap, refl, subst, sym, ◌∙◌, Bool, true, false, List, [], Option, None, Some, ℕ, if◌then◌else◌, map, eqb-true}
use Rattle.std.proofs.lemmas.Bool.{eqb-false}
use Rattle.std.specs.List.{list_all}
use Rattle.std.specs.Option.{option_map}
use Rattle.attempt_ledger.specs.declared.ledger.LinkSeen.{LinkSeen}
use Rattle.call_actions.specs.Order.{IsInOrder, IsInTurn}
use Rattle.call_actions.specs.TakeActions.Serves.{Serves}
use Rattle.call_core.specs.Steps.{Stepped}
use Rattle.channel_actions.proofs.Relinked.{order_relinked, serves_relinked, turn_relinked}
use Rattle.channel_actions.proofs.Calls.Reset.Leaves.{resets_leave_calls}
use Rattle.channel_actions.specs.ResetCalls.Laws.{LeavesCall, reset_noted}
use Rattle.call_cases.proofs.CallPosts.Report.{map_changed}
use Rattle.h2_frame.specs.Frames.{FrameSeen}
use Rattle.h2_frame.specs.Sent.{rst_stream_frame}
use Rattle.session_actions.specs.AttemptEnds.{stream_reset_of}
use Rattle.session_actions.specs.Links.{link_number, owed, read_bytes, stream_number}
use Rattle.session_actions.specs.Responses.{is_read_by}
use Rattle.session_actions.specs.Sessions.{link_seen}
use Rattle.session_actions.specs.Words.{changed, numbered}
use Rattle.session_actions.specs.declared.attempt.Attempt.{Attempt}
use Rattle.session_actions.specs.declared.call.Call.{Call}
use Rattle.session_actions.specs.declared.link.Link.{Link}
use Rattle.session_actions.specs.declared.seen.Seen.{Seen}
use Rattle.session_order.proofs.Changed.{changed_away, changed_map}

all_map : {X : Type 0} (p : X → Bool) (xs : List X) → list_all p xs ≡ list_all (λ (b : Bool). b) (map p xs)
all_map p [] = refl
all_map p (x ∷ xs) = ap (λ (b : Bool). p x && b) (all_map p xs)

all_changed : {X : Type 0} (p : X → Bool) (f : X → X) → ((x : X) → p (f x) ≡ p x) → (n : ℕ) (xs : List X) → list_all p (changed f n xs) ≡ list_all p xs
all_changed p f same n xs = all_map p (changed f n xs) ∙ ap (list_all (λ (b : Bool). b)) (map_changed p f same n xs) ∙ sym (all_map p xs)

same_link : (o : Option Link) → o ≡ option_map (λ (l : Link). record l { gone = l.gone; owed = l.owed }) o
same_link None = refl
same_link (Some l) = refl

-- frames that are queued on a link
module _ (v : Seen) (link : ℕ) (frames : List FrameSeen) where
  abbrev f : Link → Link
  f l = record l { owed = l.owed ++ frames }

  abbrev ls : List Link
  ls = changed f link v.links

  abbrev g : ℕ → Link → Option ℕ
  g k l = l.gone

  abbrev w : ℕ → Link → List FrameSeen
  w k l = if k == link then l.owed ++ frames else l.owed

  form_by : (k : ℕ) (b : Bool) → (k == link) ≡ b → numbered ls k ≡ option_map (λ (l : Link). record l { gone = g k l; owed = if b then l.owed ++ frames else l.owed }) (numbered v.links k)
  form_by k true e =
      ap (numbered ls) (eqb-true k link e) ∙ changed_map f link v.links ∙ ap (λ (n : ℕ). option_map f (numbered v.links n)) (sym (eqb-true k link e))
  form_by k false e = changed_away f link k v.links (eqb-false k link e) ∙ same_link (numbered v.links k)

  is : (k : ℕ) → numbered ls k ≡ option_map (λ (l : Link). record l { gone = g k l; owed = w k l }) (numbered v.links k)
  is k = form_by k (k == link) refl

  pub order_owed : (c : Call) → IsInOrder v c → IsInOrder (owed frames link v) c
  order_owed c k = order_relinked v ls g w is c k

  pub turn_owed : (c : Call) → IsInTurn v c → IsInTurn (owed frames link v) c
  turn_owed c k = turn_relinked v ls g w is c k

  pub serves_owed : (c : Call) (x : Stepped) → Serves v c x → Serves (owed frames link v) c x
  serves_owed c x k =
      let same : map link_seen ls ≡ x.ledger.links = map_changed link_seen f (λ l. refl) link v.links ∙ k.links in
      let reads : list_all (λ (l : Link). list_all (is_read_by (read_bytes l)) l.traffic) ls ≡ true
      = all_changed (λ (l : Link). list_all (is_read_by (read_bytes l)) l.traffic) f (λ l. refl) link v.links ∙ k.reads in
      subst (λ (z : List LinkSeen). Serves (owed frames link v) c (record x { ledger = record x.ledger { links = z } })) same (serves_relinked v ls g w is c x reads k)

-- what is kept of one call
pub record KeepsCall (c : Call) (x : Stepped) (v : Seen) : Type 0 where
  pub serves : Serves v c x
  pub order : IsInOrder v c
  pub turn : IsInTurn v c

pub reset_keeps : (c : Call) (x : Stepped) (v : Seen) (a : Attempt) (number : ℕ) → KeepsCall c x v → KeepsCall c x (stream_reset_of number v a)
reset_keeps c x v a number h =
    let noted : Seen = reset_noted a.place v in
    let left : LeavesCall v noted = resets_leave_calls v a.place in
    let frames : List FrameSeen = rst_stream_frame (stream_number a) number ∷ [] in
    record {
      serves = serves_owed noted (link_number a) frames c x (left.serves c x h.serves);
      order = order_owed noted (link_number a) frames c (left.order c h.order);
      turn = turn_owed noted (link_number a) frames c (left.turn c h.turn);
    }
