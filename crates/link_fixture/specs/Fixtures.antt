-- What a fixture lends a link for each tag.
use Rattle.std.specs.Prelude.{ℕ, true, false, Option, Some, None, List, [], ◌∷◌, codes, nat_lt, if◌then◌else◌, length, slice_get, slice_set}
use Rattle.grpc_base.specs.declared.fields.Field.{Field}
use Rattle.h2_link.specs.Feeds.{Line}
use Rattle.link_fixture.specs.declared.fixture.Request.{Request}

-- the header list of every request: `:method: POST`
abbrev pub post_fields : List Field
post_fields = record { name = codes ":method"; value = codes "POST" } ∷ []

abbrev pub line_of : Option Request → Line
line_of None = record { held = true; fields = post_fields; left = []; finished = false }
line_of (Some r) = record { held = true; fields = post_fields; left = r.left; finished = r.finished }

-- the requests by their places, which are their tags
abbrev pub lines_of : List Request → ℕ → Line
lines_of requests tag = line_of (slice_get requests tag)

-- with another request at a tag, if it has one
abbrev pub lent : ℕ → Request → List Request → List Request
lent tag r requests = if nat_lt tag (length requests) then slice_set requests tag r else requests
