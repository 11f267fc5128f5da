pub mod FrontLemmas
mod ItemLemmas
pub mod NameLemmas
pub mod SourceLemmas
