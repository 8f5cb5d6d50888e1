-- An attempt has ended: the session then, and what of it is as before.
use Rattle.std.proofs.Common.{◌≡◌, ◌&&◌, ◌||◌, ◌==◌, ◌+◌, ◌∷◌, not, ap, refl, subst, sym, ◌∙◌, Bool, true, false, List, [], Option, None, Some, ℕ, suc, if◌then◌else◌, is_some, option_map, slice_get}
use Rattle.std.proofs.lemmas.Bool.{eq-eqb, eqb-true}
use Rattle.std.specs.List.{list_all, list_any}
use Rattle.std.specs.Option.{option_map_or}
use Rattle.std.specs.Prelude.{option_and_then}
use Rattle.attempt_ledger.specs.declared.row.Placed.{Placed}
use Rattle.attempt_ledger.specs.declared.row.RowEnd.{RowEnd}
use Rattle.call_actions.proofs.CallsApart.Moves.{all_changed}
use Rattle.call_actions.proofs.Lists.{numbered_not}
use Rattle.call_actions.proofs.Places.{place_is}
use Rattle.call_actions.specs.Sees.{is_live}
use Rattle.channel_actions.proofs.Gone.{all_numbered}
use Rattle.channel_actions.proofs.KeptSessions.Along.{kept_along}
use Rattle.call_cases.specs.EndsFollow.Cuts.{NoStreamIsToReset, is_unreset}
use Rattle.channel_actions.specs.KeptSessions.Kept.{IsKept}
use Rattle.call_cases.specs.OtherCalls.Others.{ActionsAreOfCall, GoesApart, IsBooked}
use Rattle.channel_actions.specs.Sets.{is_in_outstanding}
use Rattle.end_cases.proofs.AttemptEnds.After.{attempt_at, attempts_are, end, in_out, put, put_call, put_out, t_is, u}
use Rattle.end_cases.proofs.AttemptEnds.Agreeing.{early_by}
use Rattle.end_cases.proofs.AttemptEnds.Base.{books, c, call_is, e}
use Rattle.end_cases.proofs.AttemptEnds.Lists.{IsFrom, from_map}
use Rattle.end_cases.specs.AttemptEnds.Ahead.{LinksAhead}
use Rattle.end_cases.specs.AttemptEnds.Ends.{EndNext, is_of_ends, may_wait}
use Rattle.channel_core.specs.States.{StateSeen}
use Rattle.end_cases.specs.AttemptEnds.Left.{all_left}
use Rattle.session_actions.specs.Actions.{after as after_action, after_if}
use Rattle.session_actions.specs.AttemptEnds.{with_end}
use Rattle.session_actions.specs.Attempts.{is_of, is_outstanding, is_queued}
use Rattle.session_actions.specs.Links.{read_bytes}
use Rattle.session_actions.specs.Responses.{is_read_by}
use Rattle.session_actions.specs.Sessions.{Does}
use Rattle.session_actions.specs.Words.{numbered}
use Rattle.session_actions.specs.declared.action.Action.{Action}
use Rattle.session_actions.specs.declared.action.Action.TheVariants as action
use Rattle.session_actions.specs.declared.attempt.Attempt.{Attempt}
use Rattle.session_actions.specs.declared.entry.OpenEntry.{OpenEntry}
use Rattle.session_actions.specs.declared.link.Link.{Link}
use Rattle.session_actions.specs.declared.response.Outcome.{Outcome}
use Rattle.session_actions.specs.declared.seen.Seen.{Seen}
use Rattle.session_order.proofs.AttemptDone.{attempt_leaves}
use Rattle.session_order.specs.Quiescent.{IsStill}
use Rattle.session_order.specs.Stirs.{stirs}
use Rattle.session_order.specs.declared.line.Line.{Line}

left_of : (p q : Bool) → (p && q) ≡ true → p ≡ true
left_of true q e = refl
left_of false q e = absurd (cc)

none_goes : (mine out_ q off : Bool) → ((mine && (out_ || q)) && off) ≡ false → mine ≡ true → (out_ && off) ≡ false
none_goes true true q true e m = absurd (cc)
none_goes true true q false e m = refl
none_goes true false q off e m = refl
none_goes false out_ q off e m = absurd (cc)

module _ (later : List (ℕ × RowEnd)) (waits : Line → Bool) (also : List ℕ) (a : Attempt) (out : Outcome) (x : StateSeen) (o : OpenEntry) (s : Seen) (is : EndNext later waits also a out x o s) where
  abbrev n : ℕ
  n = (c later waits also a out x o s is).number

  abbrev v : Seen
  v = u later waits also a out x o s is

  abbrev end_ : RowEnd
  end_ = e later waits also a out x o s is

  abbrev pub act : Action
  act = action.AttemptEnds a.place end_

  pub after_is : after_action act s ≡ v
  after_is = ap (λ (q : Option OpenEntry). after_if q act s) is.current ∙ t_is later waits also a out x o s is

  pub does_one : Does (act ∷ []) s v
  does_one = (is.next, sym after_is)

  abbrev pub kept : IsKept s
  kept = (books later waits also a out x o s is).kept

  pub kept_one : IsKept v
  kept_one = kept_along (act ∷ []) s v kept does_one

  abbrev pub entry_then : OpenEntry
  entry_then = record o { drawn = o.drawn + (if is_some end_.word then 1 else 0) }

  pub current_one : v.current ≡ Some entry_then
  current_one = ap (option_map (λ (q : OpenEntry). record q { drawn = q.drawn + (if is_some end_.word then 1 else 0) })) is.current

  booked : (q : Seen) → IsKept q → IsBooked q
  booked q h = record { book = h.book; owned = h.owned; reads = h.reads }

  pub of_call_one : ActionsAreOfCall n (act ∷ []) s
  of_call_one = (
    record {
      acts = ap (λ (q : Option Attempt). option_map_or (λ (i : ℕ). i == n) (option_map (λ (b : Attempt). b.row.call) q) true) is.ending.there
          ∙ eq-eqb a.row.call n (call_is later waits also a out x o s is);
      passes = λ g at off. refl;
    },
    tt,
  )

  pub apart_one : GoesApart n s v
  apart_one = record {
    actions = act ∷ [];
    does = does_one;
    apart = of_call_one;
    earlier = booked s kept;
    later = booked v kept_one;
  }

  -- lines that an end does not stir
  pub was_still : (l : Line) → is_of_ends l ≡ false → may_wait l ≡ false → IsStill l o s
  was_still l ends may = is.still l ends (early_by (waits l) (may_wait l) (is.late l) may)

  pub plain : (l : Line) → stirs act l ≡ false → IsStill l o s → IsStill l entry_then v
  plain l off h =
      subst (λ (q : Seen). q.current ≡ Some entry_then → IsStill l entry_then q) (t_is later waits also a out x o s is)
      (λ now. attempt_leaves a.place end_ o s is.current tt l entry_then now off h) current_one

  pub put_is : put later waits also a out x o s is a ≡ with_end end_ a
  put_is = ap (λ (b : Bool). if b then with_end end_ a else a) (eq-eqb a.place a.place refl)

  -- the attempt then, and those that are outstanding
  pub one_there : numbered v.attempts a.place ≡ Some (with_end end_ a)
  one_there =
      attempt_at later waits also a out x o s is a.place ∙ ap (option_map (put later waits also a out x o s is)) is.ending.there
      ∙ ap (λ (q : Attempt). Some q) put_is

  pub the_one : (i : ℕ) (q : Attempt) → slice_get v.attempts i ≡ Some q → (q.place == a.place) ≡ true → q ≡ with_end end_ a
  the_one i q at here =
      let two : Some q ≡ Some (with_end end_ a)
      = sym at ∙ sym (ap (numbered v.attempts) (place_is (suc i) v.attempts q kept_one.book.places at)) ∙ ap (numbered v.attempts) (eqb-true q.place a.place here) ∙ one_there in
      (cc)

  pub unreset_one : NoStreamIsToReset v
  unreset_one = all_changed is_unreset (with_end (end later waits also a out x o s is)) (λ b e. refl) a.place s.attempts is.unreset

  pub fewer_one : (link row : ℕ) → is_in_outstanding v link row ≡ true → is_in_outstanding s link row ≡ true
  fewer_one link row e = left_of (is_in_outstanding s link row) (not (row == a.place)) (sym (in_out later waits also a out x o s is link row) ∙ e)

  pub links_one : LinksAhead also x (all_left later v)
  links_one = subst (λ (q : Seen). LinksAhead also x (all_left later q)) (t_is later waits also a out x o s is) is.links

  -- all that came on its link was read
  pub all_read : (q : Option Placed) (l : Link) → option_and_then (λ (at : Placed). numbered s.links at.link) q ≡ Some l → list_all (is_read_by (read_bytes l)) l.traffic ≡ true
  all_read None l h = absurd (cc)
  all_read (Some at) l h = all_numbered (λ (g : Link). list_all (is_read_by (read_bytes g)) g.traffic) s.links at.link l h kept.reads

  pub none_out : list_any (λ (q : Attempt). is_live s (c later waits also a out x o s is) q && not (q.place == a.place)) s.attempts ≡ false
      → (i : ℕ) (q : Attempt) → slice_get v.attempts i ≡ Some q → (q.row.call == n) ≡ true → is_outstanding q ≡ false
  none_out none_else i q at own =
      let from : IsFrom (λ (g : Attempt). put later waits also a out x o s is g) s.attempts i q
      = from_map (λ (g : Attempt). put later waits also a out x o s is g) s.attempts i q (ap (λ (xs : List Attempt). slice_get xs i) (sym (attempts_are later waits also a out x o s is)) ∙ at) in
      let mine : is_of (c later waits also a out x o s is) from.one ≡ true
      = ap (λ (j : ℕ). j == n) (sym (put_call later waits also a out x o s is from.one) ∙ ap (λ (b : Attempt). b.row.call) (sym from.is)) ∙ own in
      ap is_outstanding from.is ∙ put_out later waits also a out x o s is from.one
      ∙ none_goes (is_of (c later waits also a out x o s is) from.one) (is_outstanding from.one) (is_queued from.one s) (not (from.one.place == a.place))
      (numbered_not (λ (g : Attempt). is_live s (c later waits also a out x o s is) g && not (g.place == a.place)) s.attempts (suc i) from.one none_else from.there) mine
