pub mod CallerLemmas
mod NameLemmas
mod SpellingLemmas
