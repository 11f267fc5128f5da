pub mod CallerLemmas
mod ByWeightLemmas
mod LeastLemmas
mod LevelLemmas
mod TableLemmas
mod WeightLemmas
