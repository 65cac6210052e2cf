-- The round trip.
use Rattle.files.specs.Trips.{round_trip}
use Rattle.files.proofs.codec.round_trip_stands.Goals as goal

pub returns : goal.returns
returns c = round_trip
