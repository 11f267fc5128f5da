mod BarredLemmas
pub mod CallerLemmas
mod ClauseLemmas
mod EndLemmas
mod FloorLemmas
mod OppositeLemmas
mod PinLemmas
mod PlaceLemmas
mod ProductLemmas
mod RefutedLemmas
mod SumLemmas
