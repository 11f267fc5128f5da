mod AbsoluteLemmas
mod BitSums
pub mod CallerLemmas
mod ChoiceLemmas
pub mod ChoicesSound
mod ChosenLemmas
mod CountLemmas
pub mod EndLemmas
pub mod FitLemmas
pub mod FormLemmas
pub mod LinSound
mod OutcomeLemmas
mod OverlapLemmas
mod ProductLemmas
pub mod ProductSound
mod RowLemmas
pub mod RowsSound
pub mod SumLemmas
