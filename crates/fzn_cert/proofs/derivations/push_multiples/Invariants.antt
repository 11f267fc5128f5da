use Rattle.std.proofs.Common.{◌≡◌, ◌++◌, take}
use Rattle.std.specs.Prelude.{string_bytes}
use Rattle.std.specs.List.{flat_map}
use Rattle.fzn_cert.specs.Derivations.{multiple_words}
use Rattle.fzn_cert.specs.Parts.{after_spaces}
use Rattle.fzn_cert.proofs.derivations.push_multiples.Given as goal

abbrev pub invariant-loop-multiple : goal.invariant-loop-multiple
invariant-loop-multiple l = string_bytes l.text ≡ string_bytes l.initial.text ++ after_spaces (flat_map multiple_words (take l.multiple-index l.multiples))
