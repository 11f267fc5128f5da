pub mod CallerLemmas
mod CutSound
mod EnergySound
mod EnergyTest
mod GlobalRowsSound
mod HallSound
mod HallTest
mod LeastLemmas
mod LoadSound
mod PairSound
mod PlacesLemmas
mod ProductLemmas
mod RisingLemmas
mod RuleSound
mod RunLemmas
pub mod SeparableSound
mod TableWeightLemmas
mod TaskLemmas
