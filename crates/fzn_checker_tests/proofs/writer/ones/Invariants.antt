use Rattle.std.specs.List.{AllByRecursion}
use Rattle.fzn_cert.specs.Spelling.{IsNumber}
use Rattle.fzn_checker_tests.proofs.writer.ones.Given as goal

abbrev pub invariant-loop : goal.invariant-loop
invariant-loop l = AllByRecursion IsNumber l.ids
