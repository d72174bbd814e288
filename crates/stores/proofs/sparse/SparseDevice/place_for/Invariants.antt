use Rattle.std.proofs.Common.{ℕ, ◌<◌, get_or, None}
use Rattle.stores.specs.Sparse.{KeptIn}
use Rattle.stores.proofs.SparseTables.{Free}
use Rattle.stores.proofs.sparse.SparseDevice.place_for.Given as goal

abbrev pub invariant-loop-i : goal.invariant-loop-i
invariant-loop-i l =
    ((j : ℕ) → j < l.i → KeptIn (get_or l.self.places.now j None) l.n → ⊥)
    × Free l.self.places.now l.i l.free
