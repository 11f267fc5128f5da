mod ChainLemmas
mod HeardLemmas
mod PropagatorLemmas
mod TableLemmas
mod WordsLemmas
