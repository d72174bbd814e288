use Rattle.std.proofs.Common.{◌≡◌, drop}
use Rattle.kept.specs.Kept.{kept_bytes}
use Rattle.kept.proofs.find.Given as goal

abbrev pub invariant-loop-place : goal.invariant-loop-place
invariant-loop-place l = kept_bytes l.places l.n ≡ kept_bytes (drop l.place-index l.places) l.n
