pub mod CallerLemmas
mod FixedLemmas
