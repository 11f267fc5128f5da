mod CrateLemmas
mod FoundLemmas
mod MadeLemmas
mod SpelledLemmas
mod TakenLemmas
