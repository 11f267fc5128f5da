mod AnswerLaws
pub mod CallerLemmas
mod ChainLemmas
mod FaultLaws
mod GivenLemmas
mod HoldLemmas
mod JudgeLemmas
mod OpeningLaws
mod RewriteLemmas
mod StandingLaws
mod VersionLemmas
