pub mod Files
pub mod Numbers
pub mod Over
pub mod Reads
pub mod Taken
