pub mod CallerLemmas
pub mod ChainLemmas
pub mod SetsLemmas
pub mod TermLemmas
pub mod ValueLemmas
