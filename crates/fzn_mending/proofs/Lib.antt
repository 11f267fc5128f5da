pub mod MendLemmas
mod WalkLemmas
