-- What callers may cite: the first of several positions and faults, what names stand for, and sets within the limits.
pub use Rattle.fzn_names.proofs.FirstLemmas.{first-append_none, first-append_some, empty-first, left_empty, right_empty, first-at_none, first-at_some, at-empty, firsts}
pub use Rattle.fzn_names.proofs.MeaningLemmas.{IsMeaning, AreMeanings, constants_meaning, array_meaning, literal_meaning, lookup-meaning, value-meaning, when_not, term_of-within, entry_terms-within, boolean_term, boolean_terms}
pub use Rattle.fzn_names.proofs.ValueSetLemmas.{bit_in_range, zero_in_limits, none_limited, values_in-limited, sets-limited, length-declared_sets}
