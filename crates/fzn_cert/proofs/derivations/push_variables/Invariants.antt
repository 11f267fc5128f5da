use Rattle.std.proofs.Common.{◌≡◌, ◌++◌, map, take}
use Rattle.std.specs.Prelude.{string_bytes}
use Rattle.fzn_cert.specs.Derivations.{var_text}
use Rattle.fzn_cert.specs.Parts.{after_spaces}
use Rattle.fzn_cert.proofs.derivations.push_variables.Given as goal

abbrev pub invariant-loop-var : goal.invariant-loop-var
invariant-loop-var l = string_bytes l.text ≡ string_bytes l.initial.text ++ after_spaces (map var_text (take l.var-index l.variables))
