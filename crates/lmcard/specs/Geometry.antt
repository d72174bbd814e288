-- The geometry of an image file of n sectors: 16 heads, 32 sectors a track, and as many whole cylinders as there are.
use Rattle.std.specs.Prelude.{ℕ, ◌/◌, min}
use Rattle.device.specs.declared.faults.Geometry.{Geometry}

abbrev pub geometry_of : ℕ → Geometry
geometry_of n = record { cylinders = min (n / 512) 65535; sectors_per_track = 32; heads = 16 }
