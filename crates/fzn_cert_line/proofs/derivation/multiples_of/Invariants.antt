use Rattle.std.proofs.Common.{◌≡◌}
use Rattle.fzn_cert.specs.Derivations.{multiples_of}
use Rattle.fzn_cert_line.proofs.MultipleLaws.{with_read}
use Rattle.fzn_cert_line.proofs.derivation.multiples_of.Given as goal

abbrev pub invariant-loop-word : goal.invariant-loop-word
invariant-loop-word l = with_read l.multiples (multiples_of l.words) ≡ multiples_of l.initial.words
