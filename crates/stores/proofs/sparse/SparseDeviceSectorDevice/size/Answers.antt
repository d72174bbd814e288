use Rattle.std.proofs.Common.{sym}
use Rattle.stores.proofs.SparseTables.{length_sparse}
use Rattle.stores.proofs.SparseTransfers.{sparse_lawful}
use Rattle.stores.proofs.sparse.SparseDeviceSectorDevice.size.Goals as goal

pub returns : goal.returns
returns c =
    let d = c.args.self.now in
    record {
      lawful = λ u. sparse_lawful d.places.now d.size d.geometry d.failed d.sound;
      value = λ u. sym (length_sparse d.size d.places.now);
    }
