pub mod CallerLemmas
mod CoreLemmas
mod ListLemmas
mod ListingLemmas
mod MarksLemmas
mod NeededLemmas
mod ShowsLemmas
mod TrialLemmas
