-- The code's places in a text as those of the definitions. Assumes nothing.
use Rattle.json_text.specs.Beginnings.{Spot as Place}
use Rattle.json_text.specs.Beginnings.Spot.{outside, inside, escaped}
use Rattle.json_text.specs.declared.nested.Spot.{Spot}
use Rattle.json_text.specs.declared.nested.Spot.TheVariants.{Outside, Inside, Escaped}

abbrev pub spot_of : Spot → Place
spot_of Outside = outside
spot_of Inside = inside
spot_of Escaped = escaped
