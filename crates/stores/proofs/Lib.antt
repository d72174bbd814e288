pub mod Images
pub mod SparseTables
pub mod SparseTransfers
