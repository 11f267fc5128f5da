use Rattle.std.proofs.Common.{◌≡◌, ◌++◌, take}
use Rattle.std.specs.Prelude.{string_bytes}
use Rattle.std.specs.List.{flat_map}
use Rattle.fzn_cert.specs.Derivations.{item_words}
use Rattle.fzn_cert.specs.Parts.{after_spaces}
use Rattle.fzn_cert.proofs.derivations.push_items.Given as goal

abbrev pub invariant-loop-item : goal.invariant-loop-item
invariant-loop-item l = string_bytes l.text ≡ string_bytes l.initial.text ++ after_spaces (flat_map item_words (take l.item-index l.items))
