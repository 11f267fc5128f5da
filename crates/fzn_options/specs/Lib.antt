pub mod CommandLines
pub mod Said
pub mod Words
