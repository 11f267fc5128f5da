mod FitLemmas
mod FormLemmas
mod HeardLemmas
mod RefuteLemmas
mod PassLemmas
