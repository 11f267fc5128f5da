-- What callers may cite: heads that are written are read again, and derivations come one after the other.
pub use Rattle.fzn_head.proofs.HeadLaws.{head_counts_is, head_again, head_inside, head_within, derivation_lines-append, SpellsHead, head_takes}
pub use Rattle.fzn_head.proofs.OpeningLaws.{opened-outcome}
pub use Rattle.fzn_head.proofs.ExtendedLaws.{with_constraints, IsCitable, only_constraints, one_for_each, Extends-then, terms-more, terms-grow, citable-all, same-solutions, formed-after, proper-before, exhausted-before}
