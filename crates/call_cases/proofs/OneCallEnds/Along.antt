-- What a session keeps while the attempts of a call are cut off and their streams are reset: the config of the call, whose each attempt is, and of the links all
-- but what is queued on them.
use Rattle.std.proofs.Common.{◌≡◌, ◌∷◌, refl, subst, sym, ◌∙◌, Bool, List, [], Option, ℕ, map}
use Rattle.std.specs.Option.{option_map}
use Rattle.call_actions.proofs.TakeActions.CutAttempts.{ended_mark}
use Rattle.call_actions.proofs.TakeActions.CutOne.{marked_also}
use Rattle.call_actions.specs.TakeActions.Cuts.{AttemptsAreCut}
use Rattle.call_cases.proofs.EndsFollow.Cuts.{IsOneCut, one_cut}
use Rattle.call_cases.proofs.EndsFollow.Stays.{IsBase}
use Rattle.call_cases.proofs.EndsFollow.Steps.{IsMid, IsOneReset, IsReset, after_is, mid_cut, one_reset, reset_mid}
use Rattle.call_cases.specs.CallEnds.Ends.{unowed}
use Rattle.call_cases.specs.EndsFollow.Cuts.{StreamsAreReset, cut_off}
use Rattle.call_cases.proofs.CallPosts.Report.{map_changed}
use Rattle.grpc_base.specs.declared.event.EndCause.{EndCause}
use Rattle.session_actions.specs.Actions.{after}
use Rattle.session_actions.specs.AttemptEnds.{stream_reset_of, with_end, with_reset_queued}
use Rattle.session_actions.specs.CallEnds.{call_ended}
use Rattle.session_actions.specs.Entries.{now}
use Rattle.session_actions.specs.Links.{link_number}
use Rattle.session_actions.specs.Words.{changed, numbered}
use Rattle.session_actions.specs.declared.action.Action.{Action}
use Rattle.session_actions.specs.declared.attempt.Attempt.{Attempt}
use Rattle.session_actions.specs.declared.call.Call.{Call}
use Rattle.session_actions.specs.declared.entry.OpenEntry.{OpenEntry}
use Rattle.session_actions.specs.declared.seen.Seen.{Seen}
use Rattle.session_order.proofs.Changed.{lookup}
use Rattle.session_order.specs.declared.line.Line.{Line}

abbrev pub config_of : Call → Option ℕ
config_of c = c.config

abbrev pub owner : Attempt → ℕ
owner a = a.row.call

pub record IsSameBut (n : ℕ) (s v : Seen) : Type 0 where
  pub config : option_map config_of (numbered v.calls n) ≡ option_map config_of (numbered s.calls n)
  pub owners : map owner v.attempts ≡ map owner s.attempts
  pub links : map unowed v.links ≡ map unowed s.links

-- the end of the call
pub same_ended : (n : ℕ) (why : EndCause) (s : Seen) → IsSameBut n s (call_ended n why s)
same_ended n why s = record {
  config = lookup (option_map config_of) _ (λ c. refl) n (changed _ n s.calls) n ∙ lookup (option_map config_of) _ (λ c. refl) n s.calls n;
  owners = refl;
  links = refl;
}

-- one is cut off
same_cut : (n : ℕ) (s v : Seen) (act : Action) (o : OpenEntry) (one : IsOneCut n v act o) → IsSameBut n s v → IsSameBut n s (cut_off one.attempt v)
same_cut n s v act o one h =
    let a : Attempt = one.attempt in
    subst (IsSameBut n s) (sym one.after_is)
    (record {
      config = lookup (option_map config_of) (marked_also (ended_mark (now v) a)) (λ c. refl) a.row.call v.calls n ∙ h.config;
      owners = map_changed owner (with_end one.end) (λ x. refl) a.place v.attempts ∙ h.owners;
      links = h.links;
    })

-- one stream is reset
pub same_reset : (n : ℕ) (s v : Seen) (a : Attempt) (number : ℕ) → IsSameBut n s v → IsSameBut n s (stream_reset_of number v a)
same_reset n s v a number h = record {
  config = h.config;
  owners = map_changed owner with_reset_queued (λ x. refl) a.place v.attempts ∙ h.owners;
  links = map_changed unowed _ (λ l. refl) (link_number a) v.links ∙ h.links;
}

module _ (waits : Line → Bool) (n : ℕ) (o : OpenEntry) (b : Seen) (base : IsBase n b) where
  pub cuts_same : (s : Seen) (cuts : List Action) (v t : Seen) → IsMid waits n o b v → AttemptsAreCut n cuts v t → IsSameBut n s v → IsSameBut n s t
  cuts_same s [] v t is are h = subst (IsSameBut n s) (sym are.1) h
  cuts_same s (act ∷ cuts) v t is are h =
      let one : IsOneCut n v act o = one_cut n v act o is.left.done is.book.places is.current are.0 in
      cuts_same s cuts (cut_off one.attempt v) t (mid_cut waits n o b v base is act one) (subst (λ (z : Seen). AttemptsAreCut n cuts z t) one.does are.1) (same_cut n s v act o one h)

  -- what each reset keeps, all of them do
  pub resets_carry : (P : Seen → Type 0) → ((v : Seen) (a : Attempt) (number : ℕ) → P v → P (stream_reset_of number v a))
      → (acts : List Action) (v u : Seen) → IsReset waits n o b v → StreamsAreReset acts v u → P v → P u
  resets_carry P keeps [] v u is are h = subst P (sym are.1) h
  resets_carry P keeps (act ∷ acts) v u is are h =
      let one : IsOneReset n v act = one_reset waits n o b v is act are.0 in
      let now_is : after act v ≡ stream_reset_of one.number v one.attempt = after_is waits n o b v base is act one in
      resets_carry P keeps acts (after act v) u (subst (IsReset waits n o b) (sym now_is) (reset_mid waits n o b v base is act one)) are.1
      (subst P (sym now_is) (keeps v one.attempt one.number h))
