-- What a link reports of its attempts does not depend on how its bytes are cut.
use Rattle.std.proofs.Common.{◌≡◌, ◌≢◌, ℕ, List, [], ◌++◌, length, ap, sym, ◌∙◌}
use Rattle.h2_frame.specs.Readings.{Partial, Reading, reading_of}
use Rattle.h2_link.specs.Received.{Receiving, prefix_as, handled, received_with}
use Rattle.h2_link.specs.Wire.{Seen}
use Rattle.h2_link.proofs.Cuts.{received_goes_on, received_stays}
use Rattle.grpc_link.specs.Links.{GrpcSeen, Report, link_received, reported_all}

abbrev reported_from : GrpcSeen → Receiving → Report
reported_from g h = reported_all (record { link = h.link; readers = g.readers }) h.news

pub link_stays : (g : GrpcSeen) (prefix more : List ℕ) → reading_of (g.link.rest ++ prefix) ≢ Partial → link_received g (prefix ++ more) ≡ link_received g prefix
link_stays g prefix more whole = ap (λ (h : Receiving). reported_from g h) (received_stays g.link prefix more whole)

-- a piece that shows nothing is kept
abbrev kept : Seen → List ℕ → Receiving
kept l prefix = record { taken = length prefix; link = record { wire = l.wire; rest = l.rest ++ prefix }; news = [] }

part_received : (l : Seen) (prefix : List ℕ) → reading_of (l.rest ++ prefix) ≡ Partial → handled l prefix ≡ kept l prefix
part_received l prefix part = ap (λ (r : Reading). received_with l prefix (prefix_as l.wire (l.rest ++ prefix) r)) part

pub part_reports_nothing : (g : GrpcSeen) (prefix : List ℕ) → reading_of (g.link.rest ++ prefix) ≡ Partial → (link_received g prefix).news ≡ []
part_reports_nothing g prefix part = ap (λ (h : Receiving). (reported_from g h).news) (part_received g.link prefix part)

pub link_goes_on : (g : GrpcSeen) (prefix more : List ℕ) → reading_of (g.link.rest ++ prefix) ≡ Partial → link_received g (prefix ++ more) ≡ link_received (link_received g prefix).link more
link_goes_on g prefix more part =
    let here : ◌≡◌ {A = GrpcSeen} (record { link = (handled g.link prefix).link; readers = g.readers }) (link_received g prefix).link =
    ap (λ (h : Receiving). let s : GrpcSeen = record { link = h.link; readers = g.readers } in s) (part_received g.link prefix part) ∙ sym (ap (λ (h : Receiving). (reported_from g h).link) (part_received g.link prefix part)) in
    ap (λ (h : Receiving). reported_from g h) (received_goes_on g.link prefix more part) ∙ ap (λ (s : GrpcSeen). link_received s more) here
