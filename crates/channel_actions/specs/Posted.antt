-- What every event of a run is.
-- Example: a Begin with a timeout of 5 s, and a result of the resolver with two addresses. No request has a timeout of 2^60 ns, and no result one address twice: the
-- types of an event allow neither.
pub use Rattle.journal_room.specs.Posted.{EventsArePosted, IsPosted}
