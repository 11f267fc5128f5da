pub mod CallerLemmas
mod DerivationLaws
mod LineLaws
mod LoopLaws
mod MultipleLaws
mod NumberLaws
mod OptionLaws
mod RiseLaws
mod RowLaws
mod RowLoops
mod SplitLaws
mod StepLaws
mod WordLaws
