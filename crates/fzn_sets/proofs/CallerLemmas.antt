-- What callers may cite: values of terms on the sets.
pub use Rattle.fzn_sets.proofs.TermLemmas.{length-values_of, MayBe-term_value, entry_at-values_of, MayBe-entry_at}
pub use Rattle.fzn_sets.proofs.ValueLemmas.{nonempty_at, none_empty, some_value, IsBetween, term_between, fixed_value, MayBe-between, only_value}
