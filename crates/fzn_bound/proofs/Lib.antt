mod BoundLemmas
mod PrintLemmas
mod WalkLemmas
