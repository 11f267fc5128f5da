mod DeletionLemmas
pub mod ForgetLemmas
mod WrittenLemmas
