mod AllDifferentLemmas
pub mod CallerLemmas
pub mod CircuitLemmas
pub mod CountLemmas
pub mod CumulativeLemmas
mod InverseLemmas
mod LoadProfileLemmas
mod ReturnLemmas
