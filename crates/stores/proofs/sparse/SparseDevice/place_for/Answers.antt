use Rattle.std.proofs.Common.{get_or, None, arith, rules}
use Rattle.stores.specs.Sparse.{KeptIn}
use Rattle.stores.proofs.SparseTables.{slot_of, slot_kept}
use Rattle.stores.proofs.sparse.SparseDevice.place_for.Goals as goal

pub returns : goal.returns
returns c =
    slot_of c.args.self.now.places.now c.args.n c.loop-i.i c.loop-i.free c.loop-i-test.false (omega arith) c.loop-i.invariant.0 c.loop-i.invariant.1

pub returns-in-Some : goal.returns-in-Some
returns-in-Some c =
    let xs = c.args.self.now.places.now in
    let a : KeptIn (get_or xs c.loop-i.i None) c.args.n = search rules in
    slot_kept xs c.args.n c.loop-i.i c.loop-i-test.true c.loop-i.invariant.0 a
