-- A fixture holds every tag.
use Rattle.std.proofs.Common.{◌≡◌, true, List, [], ◌∷◌, refl, Option, Some, None, slice_get}
use Rattle.std.specs.List.{AllByRecursion}
use Rattle.h2_link.specs.Feeds.{Holds}
use Rattle.h2_link.specs.Wire.{Wire}
use Rattle.h2_link.specs.declared.live.LiveStream.{LiveStream}
use Rattle.link_fixture.specs.Fixtures.{line_of, lines_of}
use Rattle.link_fixture.specs.declared.fixture.Request.{Request}

each : {X : Type 0} (P : X → Type 0) → ((x : X) → P x) → (xs : List X) → AllByRecursion P xs
each P all [] = tt
each P all (x ∷ xs) = (all x, each P all xs)

line_held : (r : Option Request) → (line_of r).held ≡ true
line_held None = refl
line_held (Some r) = refl

pub fixture_holds : (w : Wire) (requests : List Request) → Holds w (lines_of requests)
fixture_holds w requests = record {
  waiting = each (λ t. (lines_of requests t).held ≡ true) (λ t. line_held (slice_get requests t)) w.waiting;
  live = each (λ (s : LiveStream). (lines_of requests s.tag).held ≡ true) (λ s. line_held (slice_get requests s.tag)) w.live;
}
