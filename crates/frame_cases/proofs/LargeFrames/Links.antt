-- After a message that is too long: what the end of the call cuts off is the attempt of the stream alone, since its call is committed to it; and what is left to show of
-- the links.
use Rattle.std.proofs.Common.{◌≡◌, ◌&&◌, ◌==◌, ◌∷◌, ap, refl, subst, sym, ◌∙◌, Bool, true, false, List, [], Some, ℕ, filter, if◌then◌else◌}
use Rattle.std.proofs.lemmas.Bool.{eq-eqb, eqb-true}
use Rattle.call_cases.specs.EndsFollow.Cuts.{AttemptsAreCutOff}
use Rattle.call_cases.specs.EndsFollow.Laws.{is_out_of}
use Rattle.call_cases.specs.LinkEnds.Laws.{StreamsAreResetToo, with_cuts}
use Rattle.frame_cases.proofs.EndedFrames.Owed.{only_passes}
use Rattle.frame_cases.proofs.OwnFrames.Calls as calls
use Rattle.frame_cases.proofs.OwnFrames.Frame as frame
use Rattle.grpc_base.specs.declared.event.EndCause.TheVariants as ending
use Rattle.channel_core.specs.States.{StateSeen}
use Rattle.channel_core.specs.Tables.{Received, received_in}
use Rattle.frame_cases.proofs.LargeFrames.Starts as starts
use Rattle.frame_cases.specs.FrameKinds.Laws.{Large, kind_of}
use Rattle.frame_cases.specs.PieceWalks.Points.{IsReceiving, coming}
use Rattle.h2_frame.specs.Numbers.{goaway_type}
use Rattle.session_actions.specs.Attempts.{commitment, is_outstanding}
use Rattle.session_actions.specs.CallEnds.{call_ended}
use Rattle.session_actions.specs.Words.{numbered}
use Rattle.session_actions.specs.Writing.{next_frame_read}
use Rattle.session_actions.specs.declared.action.Action.TheVariants as action
use Rattle.session_actions.specs.declared.attempt.Attempt.{Attempt}
use Rattle.session_actions.specs.declared.call.Call.{Call}
use Rattle.session_actions.specs.declared.entry.OpenEntry.{OpenEntry}
use Rattle.session_actions.specs.declared.link.ReadFrame.{ReadFrame}
use Rattle.session_actions.specs.declared.seen.Seen.{Seen}

and_two : (p q : Bool) → p ≡ true → q ≡ true → (p && q) ≡ true
and_two true q e f = f
and_two false q e f = absurd (let bad : false ≡ true = e in let no : ⊥ = (cc) in no)

module _ (link : ℕ) (piece : List ℕ) (x : StateSeen) (o : OpenEntry) (s : Seen) (is : IsReceiving link piece x o s) (h : Received) (r : ReadFrame)
    (next : next_frame_read link s ≡ Some (action.FrameRead link r)) (receives : received_in link piece x.links ≡ Some h) (no_goaway : (r.frame.kind == goaway_type) ≡ false)
    (kind : kind_of h.news ≡ Large) where
  abbrev pub t : Seen
  t = starts.t link piece x o s is h r next receives no_goaway kind

  abbrev pub a : Attempt
  a = starts.a link piece x o s is h r next receives no_goaway kind

  abbrev pub number : ℕ
  number = a.row.call

  abbrev pub z : StateSeen
  z = starts.z link piece x o s is h r next receives no_goaway kind

  -- of the call no other attempt is outstanding
  one_call : (b : Attempt) (there : numbered s.attempts b.place ≡ Some b) (out : is_outstanding b ≡ true) → b.row.call ≡ number → a ≡ b
  one_call b there out mine =
      let going = frame.going link piece x o s is h r next receives in
      let quiescent = frame.quiescent_s link piece x o s is h r next receives in
      let d : Call = calls.c (coming link piece x) o s is.agrees going quiescent b there out in
      let at_d : numbered s.calls b.row.call ≡ Some d = calls.at (coming link piece x) o s is.agrees going quiescent b there out in
      let both : Some (starts.c link piece x o s is h r next receives no_goaway kind) ≡ Some d = sym (starts.at_c link piece x o s is h r next receives no_goaway kind) ∙ ap (numbered s.calls) (sym mine) ∙ at_d in
      let one : starts.c link piece x o s is h r next receives no_goaway kind ≡ d = (cc) in
      calls.itself (coming link piece x) o s is.agrees going quiescent b there out a (ap (λ (k : Call). commitment k s) (sym one) ∙ starts.committed link piece x o s is h r next receives no_goaway kind)

  none_else : (j : ℕ) (b : Attempt) → numbered t.attempts j ≡ Some b → (j ≡ a.place → ⊥) → is_out_of number b ≡ false
  none_else j b got other = by (b.row.call == number) (is_outstanding b) refl refl
    where
      place : b.place ≡ j
      place = frame.places link piece x o s is h r next receives j b got

      by : (p q : Bool) → (b.row.call == number) ≡ p → is_outstanding b ≡ q → is_out_of number b ≡ false
      by false q e f = ap (λ (k : Bool). k && is_outstanding b) e
      by true false e f = ap (λ (k : Bool). k && is_outstanding b) e ∙ f
      by true true e f =
          let same : a ≡ b = one_call b (ap (numbered s.attempts) place ∙ got) f (eqb-true b.row.call number e) in
          absurd (other (sym place ∙ ap (λ (k : Attempt). k.place) (sym same)))

  pub cuts_are : filter (is_out_of number) t.attempts ≡ a ∷ []
  cuts_are =
      only_passes (is_out_of number) t.attempts a.place a (starts.on link piece x o s is h r next receives no_goaway kind).there none_else
      ∙ ap (λ (b : Bool). if b then a ∷ [] else [])
      (and_two (number == number) (is_outstanding a) (eq-eqb number number refl) (starts.out_a link piece x o s is h r next receives no_goaway kind))

  -- what is left to show
  abbrev pub IsResetThen : Type 0
  IsResetThen = (t2 : Seen) → AttemptsAreCutOff (a ∷ []) (call_ended number ending.Response t) t2 → StreamsAreResetToo (with_cuts (a ∷ []) z) t2

  pub all_reset : IsResetThen → (t2 : Seen) (cuts : List Attempt) → cuts ≡ filter (is_out_of number) t.attempts → AttemptsAreCutOff cuts (call_ended number ending.Response t) t2
      → StreamsAreResetToo (with_cuts cuts z) t2
  all_reset then_ t2 cuts all off =
      let one : cuts ≡ a ∷ [] = all ∙ cuts_are in
      subst (λ (as_ : List Attempt). StreamsAreResetToo (with_cuts as_ z) t2) (sym one)
      (then_ t2 (subst (λ (as_ : List Attempt). AttemptsAreCutOff as_ (call_ended number ending.Response t) t2) one off))
