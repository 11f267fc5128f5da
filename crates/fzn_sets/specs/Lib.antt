pub mod Inside
pub mod Link
pub mod Sets
pub mod Terms
