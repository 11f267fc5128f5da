pub mod CallerLemmas
mod EntryLemmas
mod EqualityLemmas
mod ListLemmas
mod SharedLemmas
