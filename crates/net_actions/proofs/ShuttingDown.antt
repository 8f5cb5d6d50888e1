-- A shutdown: the policies are retired, and then all subchannels are shut.
use Rattle.std.proofs.Common.{◌≡◌, ◌||◌, ◌&&◌, ap, refl, subst, sym, ◌∙◌, Bool, true, false, List, [], Option, None, ℕ, is_none, is_some, length, map}
use Rattle.std.proofs.lemmas.List.{length-map}
use Rattle.std.specs.List.{list_any}
use Rattle.std.specs.Option.{option_map}
use Rattle.grpc_base.specs.declared.kind.Kind.{Kind}
use Rattle.lb_policy.specs.Steps.{emptied}
use Rattle.net_actions.proofs.Finishing.{UsesNow, finished}
use Rattle.net_actions.proofs.KindsKept.{kinds_changed_of, plain}
use Rattle.net_actions.proofs.Noting.{numbers_stay}
use Rattle.net_actions.proofs.Quiet.{none_after, none_begins, none_given, one_of_none, retire_if, retired_number, with_uses}
use Rattle.net_actions.proofs.Retiring.{retire_by, retire_from, retire_one}
use Rattle.net_actions.proofs.Running.{find_none}
use Rattle.net_actions.specs.Runs.{ShutsAll}
use Rattle.net_actions.specs.Sees.{NoneAskedBeyond}
use Rattle.policy_rack.specs.Steps.{all_retired, changed_of}
use Rattle.session_actions.specs.Entries.{entry}
use Rattle.session_actions.specs.Policies.{is_current, is_live_policy, is_other_kind, is_pending, is_to_retire, next_retired, wanted_kind}
use Rattle.session_actions.specs.Words.{holds}
use Rattle.session_actions.specs.declared.entry.OpenEntry.{OpenEntry}
use Rattle.session_actions.specs.declared.policy.PolicyUse.{PolicyUse}
use Rattle.session_actions.specs.declared.seen.Seen.{Seen}
use Rattle.session_actions.specs.declared.action.Action.TheVariants as action

-- where the channel is shut, none is live then
not_live : (l h y : Bool) → (l && (h || y)) ≡ false → h ≡ true → l ≡ false
not_live false h y e f = refl
not_live true true y e f = absurd (cc)
not_live true false y e f = absurd (cc)

live_by : (o : OpenEntry) (s : Seen) (g : PolicyUse) (x : Bool) → s.shut ≡ true → is_to_retire o s g ≡ x → is_live_policy (retire_if (entry s) x g) ≡ false
live_by o s g true shut e = refl
live_by o s g false shut e = not_live (is_live_policy g) s.shut (is_pending g && holds (λ (k : Kind). is_other_kind k g) (wanted_kind o s)) e shut

none_live : (o : OpenEntry) (s : Seen) (g : PolicyUse) → s.shut ≡ true → is_live_policy (retire_one o s g) ≡ false
none_live o s g shut = live_by o s g (is_to_retire o s g) shut refl

pub shuts_all : ShutsAll
shuts_all o s n h shut ended none =
    let f : PolicyUse → PolicyUse = retire_one o s in
    let uses : List PolicyUse = map f s.policies in
    let u : Seen = with_uses uses s in
    let no_current : list_any is_current uses ≡ false
    = none_after is_current f (λ g. ap (λ (x : Bool). x && is_some (f g).generation.activated) (none_live o s g shut)) s.policies in
    let no_pending : list_any is_pending uses ≡ false
    = none_after is_pending f (λ g. ap (λ (x : Bool). x && is_none (f g).generation.activated) (none_live o s g shut)) s.policies in
    let retired : next_retired o u ≡ None
    = ap (λ (x : Option PolicyUse). option_map (λ (g : PolicyUse). action.PolicyRetired g.number) x)
    (find_none (is_to_retire o s) uses (none_after (is_to_retire o s) f (λ g. retire_by o s g (is_to_retire o s g) refl) s.policies)) in
    let now : UsesNow o s uses None None = record {
      current_is = find_none is_current uses no_current;
      pending_is = find_none is_pending uses no_pending;
      quiet = record { ended = ended; retired = retired; begun = none_begins o u none; given = none_given o u none };
      uses_are = record {
        numbers = numbers_stay f (λ g. retired_number (entry s) (is_to_retire o s g) g) 1 s.policies h.uses_are.numbers;
        one_current = one_of_none is_current uses no_current;
        one_pending = one_of_none is_pending uses no_pending;
      };
      runs = λ t run. retire_from o s ended [] s.policies t refl h.uses_are.numbers run;
    } in
    let same : length uses ≡ length s.policies = length-map s.policies f in
    finished o s uses None None (all_retired n.asker.rack) [] [] n h.subs_are h.beyond now refl tt tt (h.made ∙ sym same)
    (kinds_changed_of emptied (plain emptied (λ p. (refl, refl))) s.setup.policies (changed_of emptied n.asker.rack.current n.asker.rack.policies) n.asker.rack.pending
    (kinds_changed_of emptied (plain emptied (λ p. (refl, refl))) s.setup.policies n.asker.rack.policies n.asker.rack.current h.kinds_are))
    (subst (λ (k : ℕ). NoneAskedBeyond k s.asks) (sym same) h.unasked) h.counted tt (λ subs after. refl) (λ subs after. refl)
