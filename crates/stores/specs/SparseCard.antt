-- The sparse card as a make of device.
use Rattle.device.specs.declared.sector_device.SectorDevice.{Ghosts}
use Rattle.stores.specs.Sparse.{sparse_of, sparse_faults}
use Rattle.stores.specs.declared.sparse.SparseDevice.{SparseDevice}

abbrev pub sparse_card : Ghosts SparseDevice
sparse_card = record {
  meaning = λ d. sparse_of d.places.now d.size d.geometry d.failed;
  sound = λ d. Unit {0};
  faults = λ d. sparse_faults;
}
