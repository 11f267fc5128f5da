pub mod AcceptedLemmas
pub mod ChangeLemmas
mod DeleteLemmas
pub mod ForgetLemmas
mod FreshLemmas
pub mod HeldCutLemmas
pub mod LearnLemmas
mod LessonLemmas
mod NumberLemmas
mod PropagationLemmas
mod PutLemmas
mod SettlingLemmas
pub mod SolverLemmas
pub mod SpelledLemmas
pub mod StackLemmas
mod StateLemmas
pub mod TakenLemmas
mod UnitLemmas
pub mod VariableLemmas
pub mod VolumeLemmas
pub mod WithinLemmas
mod WriteLemmas
mod WrittenLemmas
