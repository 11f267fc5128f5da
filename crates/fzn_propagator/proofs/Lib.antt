pub mod CallerLemmas
mod ClauseLemmas
mod DiffersLemmas
mod ForcingLemmas
mod FoundLemmas
mod LeftLemmas
pub mod SubscriptionLemmas
