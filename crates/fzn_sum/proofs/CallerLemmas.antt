-- What callers may cite: sums over places, opposite places, what a clause rules out, and what a sum that differs or may rise leaves.
pub use Rattle.fzn_sum.proofs.BarredLemmas.{none_barred_opposites}
pub use Rattle.fzn_sum.proofs.EndLemmas.{tight_within}
pub use Rattle.fzn_sum.proofs.OppositeLemmas.{greatest_sum-opposites, least_sum-opposites, length-opposites, opposites-twice, opposites_fit, sum_at-opposites}
pub use Rattle.fzn_sum.proofs.RefutedLemmas.{rules_out-more}
pub use Rattle.fzn_sum.proofs.SumLemmas.{total_le}
