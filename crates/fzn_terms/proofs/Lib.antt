pub mod CaseLemmas
pub mod DeniedLemmas
mod EndLemmas
pub mod ExplanationLemmas
pub mod FixedLemmas
mod GrownLemmas
pub mod NextLemmas
pub mod OrderLemmas
pub mod ProductLemmas
