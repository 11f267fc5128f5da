pub mod CallerLemmas
pub mod ExtendedLaws
pub mod HeadLaws
mod OneHead
mod OneOutcome
pub mod OpeningLaws
mod OutcomeLaws
pub mod SpelledLaws
