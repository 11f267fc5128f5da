pub mod CallerLemmas
pub mod CutLemmas
pub mod OrderLemmas
pub mod RowLemmas
pub mod SumLemmas
pub mod TableWeightLemmas
pub mod WeightedLemmas
