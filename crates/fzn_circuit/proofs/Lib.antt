mod CircuitLemmas
mod ClosedLemmas
mod ClosingLemmas
mod HeardLemmas
mod PropagatorLemmas
mod SameLemmas
mod WayLemmas
