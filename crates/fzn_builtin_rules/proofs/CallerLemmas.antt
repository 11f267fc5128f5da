-- What callers may cite: on sets where a rule is met, no choice of one value from each set meets the constraint; forms; sums over places.
pub use Rattle.fzn_builtin_rules.proofs.ChoicesSound.{fixed_sound, enum_sound}
pub use Rattle.fzn_builtin_rules.proofs.LinSound.{lin_sound}
pub use Rattle.fzn_builtin_rules.proofs.ProductSound.{box_sound}
pub use Rattle.fzn_builtin_rules.proofs.RowsSound.{rows_sound}
pub use Rattle.fzn_builtin_rules.proofs.FitLemmas.{form_fits}
pub use Rattle.fzn_builtin_rules.proofs.FormLemmas.{form_meets}
pub use Rattle.fzn_builtin_rules.proofs.EndLemmas.{low_up, low_down, high_up, high_down, sum_more, bounded_more}
pub use Rattle.fzn_builtin_rules.proofs.SumLemmas.{total_by-cons, total_by-append}
