use Rattle.source_lines.proofs.Places.{place_same}
use Rattle.source_lines.proofs.laws.places_by_starts.Goals as goal

pub returns : goal.returns
returns c = place_same
