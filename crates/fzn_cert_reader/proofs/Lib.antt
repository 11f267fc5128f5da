pub mod CallerLemmas
mod EndingLaws
mod HeaderLaws
mod ReadLaws
mod ScriptLaws
mod ToldLaws
