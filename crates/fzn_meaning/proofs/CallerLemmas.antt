-- What callers may cite of sums, and of cuts.
pub use Rattle.fzn_domain.specs.Limits.{IsNearLimits}
pub use Rattle.fzn_meaning.proofs.SumLemmas.{plus_product-bound, plus_product-fits, plus_product-is}
pub use Rattle.fzn_meaning.proofs.OrderLemmas.{better-from_cut, cut-from_better, better_trans, passes-better, better-passes}
pub use Rattle.fzn_meaning.proofs.CutLemmas.{cut_for-itself, cut_of-itself, IsCutOff, proper-from_cuts, exhausted-from_cuts, cut_of-variables, cut_of-limits, bits-choice}
