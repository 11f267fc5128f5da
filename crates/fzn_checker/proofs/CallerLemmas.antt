-- What callers may cite: steps in a row have lines, also in version 2, a certificate of accepted steps is accepted, and what a walk over the
-- lines of a certificate finds.
pub use Rattle.fzn_checker.proofs.AnswerLaws.{error-is}
pub use Rattle.fzn_checker.proofs.FaultLaws.{fault-weaker, found-refuted}
pub use Rattle.fzn_checker.proofs.HoldLemmas.{HasReadSteps, read-none, read-more, read-all, spelled-two, certificate-of, certificate-accepted, lines-two}
pub use Rattle.fzn_checker.proofs.OpeningLaws.{fault-further}
pub use Rattle.fzn_checker.proofs.RewriteLemmas.{all_more}
