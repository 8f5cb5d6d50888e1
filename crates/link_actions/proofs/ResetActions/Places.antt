-- Where a reset stands in the queue: among those of the same frame, by stream.
use Rattle.std.proofs.Common.{◌≡◌, ◌∷◌, ◌++◌, ap, arith, refl, sym, ◌∙◌, Bool, true, false, List, [], ℕ, ◌+◌, ◌-◌, suc, drop, if◌then◌else◌, length, length-append, map, nat_lt}
use Rattle.std.specs.List.{insert}
use Rattle.h2_link.specs.Queues.{Queue, first_place, comes_after, reset_place, reset_queued}
use Rattle.h2_link.specs.declared.control.Control.{Control}
use Rattle.h2_link.specs.declared.control.Control.TheVariants as control
use Rattle.link_actions.specs.ResetActions.Ahead.{put_reset, reset_of}

-- after a part of a list
insert_after : (prefix back : List Control) (k : ℕ) (c : Control) → insert (prefix ++ back) (length prefix + k) c ≡ prefix ++ insert back k c
insert_after [] back k c = ap (λ (n : ℕ). insert back n c) (let e : 0 + k ≡ k = omega arith in e)
insert_after (x ∷ prefix) back k c =
    ap (λ (n : ℕ). insert (x ∷ (prefix ++ back)) n c) (let e : suc (length prefix) + k ≡ suc (length prefix + k) = omega arith in e)
    ∙ ap (λ (cs : List Control). x ∷ cs) (insert_after prefix back k c)

drop_prefix : (prefix back : List Control) → drop (length prefix) (prefix ++ back) ≡ back
drop_prefix [] back = refl
drop_prefix (c ∷ prefix) back = drop_prefix prefix back

-- among the resets
put_by : (n number : ℕ) (x : ℕ × ℕ) (rs : List (ℕ × ℕ)) (b : Bool) → nat_lt n x.0 ≡ b
    → insert (map reset_of rs) (first_place (comes_after n) (map reset_of rs)) (control.Reset n number) ≡ map reset_of (put_reset n number rs)
    → insert (reset_of x ∷ map reset_of rs) (if b then 0 else suc (first_place (comes_after n) (map reset_of rs))) (control.Reset n number)
    ≡ map reset_of (if b then (n, number) ∷ x ∷ rs else x ∷ put_reset n number rs)
put_by n number x rs true e next = refl
put_by n number x rs false e next = ap (λ (cs : List Control). reset_of x ∷ cs) next

pub put_is : (n number : ℕ) (rs : List (ℕ × ℕ)) → insert (map reset_of rs) (first_place (comes_after n) (map reset_of rs)) (control.Reset n number) ≡ map reset_of (put_reset n number rs)
put_is n number [] = refl
put_is n number (x ∷ rs) = put_by n number x rs (nat_lt n x.0) refl (put_is n number rs)

-- in the queue
start_is : (a b c d : ℕ) → a ≡ b + c → d ≡ c → a - d ≡ b
start_is a b c d e h = omega (arith, e, h)

map_length : (rs : List (ℕ × ℕ)) → length (map reset_of rs) ≡ length rs
map_length [] = refl
map_length (x ∷ rs) = ap suc (map_length rs)

pub queued_is : (q : Queue) (prefix : List Control) (n number : ℕ) (rs : List (ℕ × ℕ)) → q.items ≡ prefix ++ map reset_of rs → q.fresh ≡ length rs
    → (reset_queued n number q).items ≡ prefix ++ map reset_of (put_reset n number rs)
queued_is q prefix n number rs items fresh =
    let back : List Control = map reset_of rs in
    let size : length q.items ≡ length prefix + length back = ap length items ∙ length-append prefix back in
    let start : length q.items - q.fresh ≡ length prefix = start_is (length q.items) (length prefix) (length back) q.fresh size (fresh ∙ sym (map_length rs)) in
    let place : reset_place n q ≡ length prefix + first_place (comes_after n) back
    = ap (λ (k : ℕ). k + first_place (comes_after n) (drop k q.items)) start
    ∙ ap (λ (cs : List Control). length prefix + first_place (comes_after n) (drop (length prefix) cs)) items
    ∙ ap (λ (cs : List Control). length prefix + first_place (comes_after n) cs) (drop_prefix prefix back) in
    ap (λ (k : ℕ). insert q.items k (control.Reset n number)) place
    ∙ ap (λ (cs : List Control). insert cs (length prefix + first_place (comes_after n) back) (control.Reset n number)) items
    ∙ insert_after prefix back (first_place (comes_after n) back) (control.Reset n number)
    ∙ ap (λ (cs : List Control). prefix ++ cs) (put_is n number rs)

put_length_by : (n number : ℕ) (x : ℕ × ℕ) (rs : List (ℕ × ℕ)) (b : Bool) → length (put_reset n number rs) ≡ length rs + 1
    → length (if b then (n, number) ∷ x ∷ rs else x ∷ put_reset n number rs) ≡ suc (length rs) + 1
put_length_by n number x rs true e = (let k : ℕ = length rs in two_more k)
  where
    two_more : (k : ℕ) → suc (suc k) ≡ suc k + 1
    two_more k = omega arith
put_length_by n number x rs false e = ap suc e ∙ one_more (length rs)
  where
    one_more : (k : ℕ) → suc (k + 1) ≡ suc k + 1
    one_more k = omega arith

pub put_length : (n number : ℕ) (rs : List (ℕ × ℕ)) → length (put_reset n number rs) ≡ length rs + 1
put_length n number [] = refl
put_length n number (x ∷ rs) = put_length_by n number x rs (nat_lt n x.0) (put_length n number rs)
