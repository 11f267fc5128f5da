use Rattle.std.proofs.Common.{◌≡◌, take, map}
use Rattle.fzn_values.specs.declared.term.Term.TheVariants.{Variable}
use Rattle.fzn_derive.proofs.apart.terms_of.Given as goal

abbrev pub invariant-loop-var : goal.invariant-loop-var
invariant-loop-var l = l.terms ≡ map Variable (take l.var-index l.variables)
