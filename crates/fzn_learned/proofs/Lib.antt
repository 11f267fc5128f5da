mod PlainLemmas
pub mod CallerLemmas
mod KnownLemmas
mod ChainLemmas
mod TrialLemmas
pub mod DecisionLemmas
pub mod EntryLemmas
pub mod NarrowerLemmas
pub mod PropagationLemmas
mod StandingLemmas
