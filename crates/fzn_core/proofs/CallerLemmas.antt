-- What callers may cite: what a held certificate shows of its file.
pub use Rattle.fzn_core.proofs.ShowsLemmas.{shows-of}
