pub mod CallerLemmas
pub mod DeclaredLemmas
pub mod FirstLemmas
pub mod FlagLemmas
pub mod GivesLemmas
pub mod MeaningLemmas
mod NameLemmas
pub mod SizeLemmas
pub mod StepLemmas
pub mod ValueSetLemmas
mod VarLemmas
