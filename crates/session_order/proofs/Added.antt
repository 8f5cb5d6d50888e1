-- An address that is listed gets a subchannel, which is IDLE: no line is stirred.
use Rattle.std.proofs.Common.{◌≡◌, ◌+◌, ◌∷◌, ◌++◌, ◌&&◌, ◌==◌, ap, refl, ◌∙◌, Bool, true, false, List, [], Option, None, Some, cond, find, is_none, is_some, length}
use Rattle.std.proofs.lemmas.Bool.{not_from_true}
use Rattle.std.specs.List.{list_any}
use Rattle.attempt_ledger.specs.declared.ledger.Ask.{Ask}
use Rattle.grpc_base.specs.declared.address.Address.{Address}
use Rattle.grpc_base.specs.declared.kind.Pick.{Pick}
use Rattle.session_actions.specs.Entries.{entry}
use Rattle.session_actions.specs.Policies.{is_live_sub, is_same_address, listed, live_sub}
use Rattle.session_actions.specs.Subchannels.{is_unlisted, new_sub, sub_added}
use Rattle.session_actions.specs.Words.{holds, last_of}
use Rattle.session_actions.specs.declared.entry.OpenEntry.{OpenEntry}
use Rattle.session_actions.specs.declared.seen.Seen.{Seen}
use Rattle.session_actions.specs.declared.subchannel.Subchannel.{Subchannel}
use Rattle.session_order.proofs.Aside.{aside_final, aside_request}
use Rattle.session_order.proofs.Begun.{numbered_more}
use Rattle.session_order.proofs.Boards.{goes_on}
use Rattle.session_order.proofs.Changed.{none_more}
use Rattle.session_order.proofs.Ended.{none_less}
use Rattle.session_order.specs.Quiescent.{IsStill, can_follow, is_link_new, is_to_follow_pick, is_unplaced}
use Rattle.session_order.specs.Laws.{StirsOnly}
use Rattle.session_order.specs.Stirs.{IsAddable}
use Rattle.session_order.specs.declared.line.Line.{Line}
use Rattle.session_actions.specs.declared.action.Action.TheVariants as action
use Rattle.session_order.specs.declared.line.Line.TheVariants as line
use Rattle.grpc_base.specs.declared.kind.Pick.TheVariants as pick

-- what was found is still found
found_by : {X : Type 0} (test : X → Bool) (x y : X) (xs : List X) (b : Bool) → (is_none (find test xs) ≡ false → is_none (find test (xs ++ x ∷ [])) ≡ false)
    → is_none (cond b (Some y) (find test xs)) ≡ false → is_none (cond b (Some y) (find test (xs ++ x ∷ []))) ≡ false
found_by test x y xs true rest e = refl
found_by test x y xs false rest e = rest e

found_more : {X : Type 0} (test : X → Bool) (xs : List X) (x : X) → is_none (find test xs) ≡ false → is_none (find test (xs ++ x ∷ [])) ≡ false
found_more test [] x e = absurd (cc)
found_more test (y ∷ xs) x e = found_by test x y xs (test y) (found_more test xs x) e

module _ (s : Seen) (address : Address) (fits : IsAddable address s) where
  abbrev x : Subchannel
  x = new_sub address (length s.subs + 1)

  abbrev t : Seen
  t = record s { subs = s.subs ++ x ∷ [] }

  can_by : (ask : Ask) → last_of s.asks ≡ Some ask → (p : Pick) → ask.answer ≡ p → can_follow t p ≡ can_follow s p
  can_by ask is (pick.Place sub) e = ap (λ (o : Option Subchannel). is_some o) (numbered_more s.subs x sub (fits.picks ask sub is e))
  can_by ask is pick.Fail e = refl
  can_by ask is pick.Wait e = refl

  pick_by : (o : Option Ask) → last_of s.asks ≡ o → holds (is_to_follow_pick s) o ≡ false → holds (is_to_follow_pick t) o ≡ false
  pick_by None is h = refl
  pick_by (Some ask) is h =
      ap (λ (b : Bool). is_unplaced s ask.row && (ask.entry == entry s) && b) (can_by ask is ask.answer refl) ∙ h

  pub added_still : (l : Line) (o : OpenEntry) → IsStill l o s → IsStill l o t
  added_still line.Cut o h = h
  added_still line.Transparent o h = h
  added_still line.Inherited o h = h
  added_still line.Row o h = h
  added_still line.Final o h = aside_final s t ∙ h
  added_still line.Cancelled o h = h
  added_still line.Request o h = aside_request o s t ∙ h
  added_still line.Overflow o h = h
  added_still line.Head o h = h
  added_still line.Response o h = h
  added_still line.Pick o h = pick_by (last_of s.asks) refl h
  added_still line.Link o h = none_more (is_link_new s) s.subs x h refl
  added_still line.WireEnd o h = h
  added_still line.Reset o h = h
  added_still line.Shut o h = h
  added_still line.Retire o h = h
  added_still line.Begin o h = h
  added_still line.Give o h = h
  added_still line.Drop o h = none_more (is_unlisted s) s.subs x h (not_from_true (list_any (is_same_address address) (listed s)) fits.is_listed)
  added_still line.Add o h =
      none_less (λ (a : Address). is_none (live_sub t a)) (λ (a : Address). is_none (live_sub s a)) (λ a. found_more (is_live_sub a) s.subs x) (listed s) h

pub added_leaves : (address : Address) → StirsOnly (action.SubchannelAdded address)
added_leaves address o s e fits l p is not_stirred h = goes_on o (sub_added address s) e l (added_still s address fits l o h) p is
