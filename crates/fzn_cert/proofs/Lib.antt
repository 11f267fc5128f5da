mod AcceptedLaws
pub mod CallerLemmas
pub mod DerivationLaws
pub mod HeaderLaws
pub mod LineLaws
pub mod MultipleLaws
pub mod NumberLaws
pub mod OneVerdict
pub mod OneVerdictEnds
pub mod OneVerdictHeader
pub mod OneVerdictLines
pub mod OneVerdictSteps
mod RefusalLaws
pub mod RowLaws
pub mod SoundLaws
mod SpaceLaws
mod StepLaws
pub mod VerdictLaws
pub mod WordLaws
mod WriteLaws
