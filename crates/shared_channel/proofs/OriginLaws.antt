-- An origin says the authority of its channel, and how its policies look.
use Rattle.std.proofs.Common.{◌≡◌, ◌∙◌, ◌==◌, if◌then◌else◌, ℕ, List, [], ◌∷◌, ◌++◌, ap, drop, length, refl, subst, sym, take}
use Rattle.std.proofs.Math.Seq.{drop-append_seam, take-append_seam}
use Rattle.grpc_base.specs.Kinds.{kind_number}
use Rattle.grpc_base.specs.declared.event.Stamped.{Stamped}
use Rattle.grpc_base.specs.declared.kind.Kind.{Kind}
use Rattle.grpc_base.specs.declared.kind.Kind.TheVariants as kind
use Rattle.lb_policy.specs.Table.{PolicySeen}
use Rattle.channel_core.specs.Core.{CoreSeen}
use Rattle.journal_room.specs.Runs.{HasRunBy, looks_of}
use Rattle.journal_room.proofs.RunLaws.{alike_has_run}
use Rattle.shared_channel.specs.Running.{HasRun, look_numbers, origin_of}

-- two lists that begin with parts of one length
prefixes : (a b x y : List ℕ) → length a ≡ length b → a ++ x ≡ b ++ y → a ≡ b
prefixes a b x y long same = sym (take-append_seam a x) ∙ ap (λ (n : ℕ). take n (a ++ x)) long ∙ ap (λ (l : List ℕ). take (length b) l) same ∙ take-append_seam b y

ends : (a b x y : List ℕ) → length a ≡ length b → a ++ x ≡ b ++ y → x ≡ y
ends a b x y long same = sym (drop-append_seam a x) ∙ ap (λ (n : ℕ). drop n (a ++ x)) long ∙ ap (λ (l : List ℕ). drop (length b) l) same ∙ drop-append_seam b y

abbrev kind_of_number : ℕ → Kind
kind_of_number n = if n == 0 then kind.PickFirst else if n == 1 then kind.RoundRobin else kind.Priority

kind_back : (k : Kind) → kind_of_number (kind_number k) ≡ k
kind_back kind.PickFirst = refl
kind_back kind.RoundRobin = refl
kind_back kind.Priority = refl

-- the numbers of looks decide the looks
abbrev looks_back : List ℕ → List (Kind × ℕ)
looks_back (n ∷ (width ∷ numbers)) = (kind_of_number n, width) ∷ looks_back numbers
looks_back _ = []

looks_reported : (looks : List (Kind × ℕ)) → looks_back (look_numbers looks) ≡ looks
looks_reported [] = refl
looks_reported (look ∷ looks) =
    ap (λ (k : Kind). (k, look.1) ∷ looks_back (look_numbers looks)) (kind_back look.0) ∙ ap (λ (l : List (Kind × ℕ)). look ∷ l) (looks_reported looks)

looks_same : (these others : List (Kind × ℕ)) → look_numbers these ≡ look_numbers others → these ≡ others
looks_same these others same = sym (looks_reported these) ∙ ap looks_back same ∙ looks_reported others

abbrev first_of : List ℕ → ℕ
first_of [] = 0
first_of (n ∷ numbers) = n

abbrev afterwards_of : List ℕ → List ℕ
afterwards_of [] = []
afterwards_of (n ∷ numbers) = numbers

-- what has run with an origin has run with the authority and the policies that the origin says
pub run_of : (authority : List ℕ) (policies : List PolicySeen) (origin : List ℕ) (core : CoreSeen) → origin ≡ origin_of authority policies → HasRun origin core
    → (events : List Stamped) × HasRunBy authority policies events core
run_of authority policies origin core is run =
    let same : origin_of run.authority run.policies ≡ origin_of authority policies = sym run.origin_is ∙ is in
    let long : length run.authority ≡ length authority = ap first_of same in
    let rest : run.authority ++ look_numbers (looks_of run.policies) ≡ authority ++ look_numbers (looks_of policies) = ap afterwards_of same in
    let named : run.authority ≡ authority = prefixes run.authority authority _ _ long rest in
    let alike : looks_of run.policies ≡ looks_of policies = looks_same (looks_of run.policies) (looks_of policies) (ends run.authority authority _ _ long rest) in
    let by : HasRunBy authority run.policies run.events core = subst (λ (a : List ℕ). HasRunBy a run.policies run.events core) named run.run in
    (run.events, alike_has_run authority run.policies policies run.events core alike by)
