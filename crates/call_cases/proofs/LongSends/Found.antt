-- The first of several calls that pass a test, where one passes and each that does has its number.
use Rattle.session_actions.specs.CallEnds.{ending_call}
use Rattle.session_actions.specs.declared.action.Action.TheVariants as action
use Rattle.session_actions.specs.declared.call.Call.{Call}
use Rattle.session_actions.specs.Words.{numbered}
use Rattle.grpc_base.specs.declared.event.EndCause.{EndCause}
use Rattle.std.proofs.Common.{Bool, List, Some, [], ap, cond, false, option_map, refl, slice_get, suc, sym, true, zero, ℕ, ◌∙◌, ◌∷◌, ◌≡◌}
use Rattle.std.specs.Prelude.{find}

module _ (why : EndCause) (n : ℕ) (p : Call → Bool) where
  found_if : (d : Call) (ds : List Call) (b : Bool) → p d ≡ b → (p d ≡ true → d.number ≡ n) → (b ≡ false → option_map (ending_call why) (find p ds) ≡ Some (action.CallEnds n why))
      → option_map (ending_call why) (cond b (Some d) (find p ds)) ≡ Some (action.CallEnds n why)
  found_if d ds true e only rest = ap (λ (k : ℕ). Some (action.CallEnds k why)) (only e)
  found_if d ds false e only rest = rest refl

  found_at : (i : ℕ) (ds : List Call) (c : Call) → slice_get ds i ≡ Some c → p c ≡ true → ((j : ℕ) (d : Call) → slice_get ds j ≡ Some d → p d ≡ true → d.number ≡ n)
      → option_map (ending_call why) (find p ds) ≡ Some (action.CallEnds n why)
  found_at i [] c got passes only = absurd (cc)
  found_at zero (d ∷ ds) c got passes only =
      let one : d ≡ c = (cc) in
      let here : p d ≡ true = ap p one ∙ passes in
      found_if d ds (p d) refl (λ e. only zero d refl e)
      (λ e. let both : true ≡ false = sym here ∙ e in absurd (cc))
  found_at (suc i) (d ∷ ds) c got passes only =
      found_if d ds (p d) refl (λ e. only zero d refl e) (λ e. found_at i ds c got passes (λ j k there is. only (suc j) k there is))

  pub found : (k : ℕ) (ds : List Call) (c : Call) → numbered ds k ≡ Some c → p c ≡ true → ((j : ℕ) (d : Call) → numbered ds j ≡ Some d → p d ≡ true → d.number ≡ n)
      → option_map (ending_call why) (find p ds) ≡ Some (action.CallEnds n why)
  found zero ds c got passes only = absurd (cc)
  found (suc i) ds c got passes only = found_at i ds c got passes (λ j d there is. only (suc j) d there is)
