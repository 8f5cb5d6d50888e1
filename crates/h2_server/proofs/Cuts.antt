-- What a link receives does not depend on how its bytes are cut.
use Rattle.std.proofs.Common.{◌≡◌, ◌≢◌, ℕ, ◌<◌, ◌+◌, ◌-◌, true, List, [], ◌++◌, length, refl, sym, ◌∙◌, ap, ap₂, Some, None, arith, length-append, append_assoc}
use Rattle.std.specs.Prelude.{Option}
use Rattle.h2_server.specs.Received.{handled, received_with, received_after, prefix_of}
use Rattle.h2_server.specs.Wire.{Report, Seen}
use Rattle.h2_server.proofs.Prefixes.{stays, afterwards}

stays_by : (l : Seen) (prefix more : List ℕ) (o : Option (ℕ × Report)) → prefix_of l.prefaced l.wire (l.rest ++ prefix) ≡ o → prefix_of l.prefaced l.wire (l.rest ++ prefix) ≢ None → handled l (prefix ++ more) ≡ handled l prefix
stays_by l prefix more None e n = absurd (n e)
stays_by l prefix more (Some v) e n =
    let all : prefix_of l.prefaced l.wire (l.rest ++ (prefix ++ more)) ≡ Some v =
    ap (λ (t : List ℕ). prefix_of l.prefaced l.wire t) (sym (append_assoc l.rest prefix more)) ∙ stays l.prefaced l.wire (l.rest ++ prefix) more v e in
    ap (received_with l (prefix ++ more)) all ∙ sym (ap (received_with l prefix) e)

pub received_stays : (l : Seen) (prefix more : List ℕ) → prefix_of l.prefaced l.wire (l.rest ++ prefix) ≢ None → handled l (prefix ++ more) ≡ handled l prefix
received_stays l prefix more n = stays_by l prefix more (prefix_of l.prefaced l.wire (l.rest ++ prefix)) refl n

goes_by : (l : Seen) (prefix more : List ℕ) (o : Option (ℕ × Report)) → prefix_of l.prefaced l.wire (l.rest ++ prefix) ≡ None → prefix_of l.prefaced l.wire ((l.rest ++ prefix) ++ more) ≡ o → received_with l (prefix ++ more) o ≡ received_after (length prefix) (received_with (record l { rest = l.rest ++ prefix }) more o)
goes_by l prefix more None p e =
    ap₂ (λ (n : ℕ) (t : List ℕ). record { taken = n; link = record l { rest = t }; news = None }) (length-append prefix more) (sym (append_assoc l.rest prefix more))
goes_by l prefix more (Some x) p e =
    let low : length (l.rest ++ prefix) < x.0 = afterwards l.prefaced l.wire (l.rest ++ prefix) more x p e in
    let sum : length (l.rest ++ prefix) ≡ length l.rest + length prefix = length-append l.rest prefix in
    let n : x.0 - length l.rest ≡ length prefix + (x.0 - length (l.rest ++ prefix)) = omega (arith, low, sum) in
    ap (λ (m : ℕ). record { taken = m; link = record { prefaced = true; wire = x.1.wire; rest = [] }; news = x.1.news }) n

pub received_goes_on : (l : Seen) (prefix more : List ℕ) → prefix_of l.prefaced l.wire (l.rest ++ prefix) ≡ None → handled l (prefix ++ more) ≡ received_after (length prefix) (handled (handled l prefix).link more)
received_goes_on l prefix more p =
    let link : (handled l prefix).link ≡ record l { rest = l.rest ++ prefix } = ap (λ (o : Option (ℕ × Report)). (received_with l prefix o).link) p in
    let all : prefix_of l.prefaced l.wire (l.rest ++ (prefix ++ more)) ≡ prefix_of l.prefaced l.wire ((l.rest ++ prefix) ++ more) = ap (λ (t : List ℕ). prefix_of l.prefaced l.wire t) (sym (append_assoc l.rest prefix more)) in
    ap (received_with l (prefix ++ more)) all
    ∙ (goes_by l prefix more (prefix_of l.prefaced l.wire ((l.rest ++ prefix) ++ more)) p refl
    ∙ ap (λ (v : Seen). received_after (length prefix) (handled v more)) (sym link))
