pub mod ArgumentLemmas
mod EqualityLemmas
pub mod FirstLemmas
pub mod ItemLemmas
pub mod MadeLemmas
pub mod OneModel
pub mod RisingLemmas
pub mod TreeLemmas
mod TypedLemmas
pub mod WellFormedLemmas
