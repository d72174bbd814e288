pub mod Image
pub mod Sparse
pub mod SparseCard
