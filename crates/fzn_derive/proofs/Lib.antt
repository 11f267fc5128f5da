pub mod AddedLemmas
mod AddingLemmas
pub mod ApartLemmas
mod BoundLemmas
pub mod DerivedLaws
pub mod FirstLemmas
mod IntLemmas
mod MergedLemmas
mod MergedSound
pub mod OddLemmas
mod OrderLemmas
pub mod PairLemmas
pub mod ParityLaws
pub mod ParityLemmas
mod RoomLemmas
pub mod SortedLemmas
mod StatingLemmas
mod SummedLemmas
pub mod SummedSound
pub mod TryingLemmas
