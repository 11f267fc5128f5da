pub mod Files
pub mod Items
