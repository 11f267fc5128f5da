-- What callers may cite: a trivial clause is accepted; numbers, steps and counts that are written are read again; no number begins an item of a row.
pub use Rattle.fzn_cert.proofs.AcceptedLaws.{justified-trivial}
pub use Rattle.fzn_cert.proofs.NumberLaws.{AreDigits, own_digits}
pub use Rattle.fzn_cert.proofs.WordLaws.{some_is}
pub use Rattle.fzn_cert.proofs.LineLaws.{and_true, text_again}
pub use Rattle.fzn_cert.proofs.HeaderLaws.{counts_words, counts_text_is, counts_again}
pub use Rattle.fzn_cert.proofs.DerivationLaws.{derivation_again}
pub use Rattle.fzn_cert.proofs.RowLaws.{decimal_is_no_letter, first_priced_is_no_letter}
