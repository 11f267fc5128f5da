use Rattle.std.proofs.Common.{refl}
use Rattle.fzn_checker_tests.proofs.ModelLemmas.{least_bit_well_formed}
use Rattle.fzn_checker_tests.proofs.checker.least_bit.Goals as goal

pub returns : goal.returns
returns c = least_bit_well_formed c.in_ok-bit.field-0 _ _ _ c.in_ok-one.ensures c.in_ok-bit.ensures c.new.ensures refl c.in_ok-one-2.ensures c.in_ok-one-3.ensures
