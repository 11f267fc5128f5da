mod LineLemmas
mod NumberLemmas
