pub mod CitedLemmas
