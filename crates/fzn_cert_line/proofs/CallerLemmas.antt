-- What callers may cite: a line is its words, a number that is read is what is written for it, a step that is read is spelled so, ids that pass the test rise; the value of a step that gave one, and which way a test went.
pub use Rattle.fzn_cert_line.proofs.LineLaws.{spaced-words_of, found_step}
pub use Rattle.fzn_cert_line.proofs.NumberLaws.{natural_takes}
pub use Rattle.fzn_cert_line.proofs.OptionLaws.{bind_some, chosen}
pub use Rattle.fzn_cert_line.proofs.StepLaws.{IdsRise-from_test}
