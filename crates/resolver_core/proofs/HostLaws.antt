-- The test of a host says what a host is.
use Rattle.std.proofs.Common.{◌≡◌, ◌≤◌, ◌↔◌, ℕ, Bool, true, false, not, ◌&&◌, nat_le, nat_eq, List, length, codes, IsTrue, arith, refl, sym}
use Rattle.std.proofs.lemmas.Bool.Decides.{nat_tests}
use Rattle.std.proofs.lemmas.Bool.{false_from_ne_true}
use Rattle.std.specs.List.{list_all, starts_with, ends_with}
use Rattle.std.proofs.lemmas.List.Sums.{AllPass-from_list_all, list_all-from_AllPass}
use Rattle.grpc_base.specs.Hosts.{IsHost, IsLabel, is_label_byte}
use Rattle.grpc_base.specs.Pieces.{pieces}
use Rattle.resolver_core.specs.AnyTargets.{is_host, is_label}

denied : (b : Bool) → (IsTrue b → ⊥) → not b ≡ true
denied true h = absurd (h refl)
denied false h = refl

refused : (b : Bool) → not b ≡ true → IsTrue b → ⊥
refused true h t = grind arith
refused false h t = grind arith

first : (a b : Bool) → (a && b) ≡ true → a ≡ true
first true b h = refl
first false b h = h

second : (a b : Bool) → (a && b) ≡ true → b ≡ true
second true b h = h
second false b h = absurd (grind arith)

both : (a b : Bool) → a ≡ true → b ≡ true → (a && b) ≡ true
both a b s t = rw (s, t) refl

at_most : (n m : ℕ) → n ≤ m → nat_le n m ≡ true
at_most n m h = grind (arith, nat_tests)

within : (n m : ℕ) → nat_le n m ≡ true → n ≤ m
within n m h = grind (arith, nat_tests)

label_is_reported : (label : List ℕ) → IsLabel label → is_label label ≡ true
label_is_reported label h =
    let a : nat_le 1 (length label) ≡ true = at_most 1 (length label) h.not_empty in
    let b : nat_le (length label) 63 ≡ true = at_most (length label) 63 h.within in
    let c : list_all is_label_byte label ≡ true = list_all-from_AllPass is_label_byte label h.bytes in
    let d : not (starts_with nat_eq label (codes "-")) ≡ true = denied _ h.no_hyphen_first in
    let e : not (ends_with nat_eq label (codes "-")) ≡ true = denied _ h.no_hyphen_last in
    rw (a, b, c, d, e) refl

reported_is_label : (label : List ℕ) → is_label label ≡ true → IsLabel label
reported_is_label label h =
    let a : nat_le 1 (length label) ≡ true = grind arith in
    let b : nat_le (length label) 63 ≡ true = grind arith in
    let c : list_all is_label_byte label ≡ true = grind arith in
    let d : not (starts_with nat_eq label (codes "-")) ≡ true = grind arith in
    let e : not (ends_with nat_eq label (codes "-")) ≡ true = grind arith in
    record {
      not_empty = within 1 (length label) a;
      within = within (length label) 63 b;
      bytes = AllPass-from_list_all is_label_byte label c;
      no_hyphen_first = refused _ d;
      no_hyphen_last = refused _ e;
    }

host_is_reported : (host : List ℕ) → IsHost host → is_host host ≡ true
host_is_reported host h =
    both _ _ (at_most (length host) 253 h.within) (list_all-from_AllPass is_label (pieces 46 host) (λ k d below. label_is_reported _ (h.labels k d below)))

pub reported_is_host : (host : List ℕ) → is_host host ≡ true → IsHost host
reported_is_host host h =
    let labels : list_all is_label (pieces 46 host) ≡ true = second (nat_le (length host) 253) _ h in
    record {
      within = within (length host) 253 (first _ (list_all is_label (pieces 46 host)) h);
      labels = λ k d below. reported_is_label _ (AllPass-from_list_all is_label (pieces 46 host) labels k d below);
    }

false_is_true : IsTrue false → ⊥
false_is_true h = grind arith

-- a test that says what hosts are is this test
pub same_test : (host : List ℕ) (b : Bool) → IsTrue b ↔ IsHost host → b ≡ is_host host
same_test host true reports_that = sym (host_is_reported host (reports_that.0 refl))
same_test host false reports_that = sym (false_from_ne_true (is_host host) (λ t. false_is_true (reports_that.1 (reported_is_host host t))))
