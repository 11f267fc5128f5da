mod Made
mod StandingLemmas
mod WritersLemmas
mod CauseLemmas
mod ClosedLemmas
mod OpenedLemmas
mod AnswerLemmas
mod LeftLemmas
