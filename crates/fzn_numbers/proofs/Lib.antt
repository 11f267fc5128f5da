pub mod AscendingLemmas
pub mod BitLemmas
pub mod BitSetLemmas
pub mod CountLemmas
pub mod GapLemmas
pub mod NumberLemmas
pub mod SetLemmas
pub mod WordLemmas
