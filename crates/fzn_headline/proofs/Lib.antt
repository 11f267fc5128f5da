mod AgreeLemmas
mod TruthLemmas
