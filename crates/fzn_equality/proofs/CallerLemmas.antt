-- What callers may cite: a term with one value, and all elements of a list with one more.
pub use Rattle.fzn_equality.proofs.EqualityLemmas.{fixed_to}
pub use Rattle.fzn_equality.proofs.ListLemmas.{All-front, All-last}
