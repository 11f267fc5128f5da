use Rattle.std.proofs.Common.{◌≡◌, length, string_bytes}
use Rattle.fzn_head.specs.Extender.{IsReadyFor, most_terms}
use Rattle.fzn_head.specs.Outcome.{most_in_head}
use Rattle.fzn_head.proofs.OpeningLaws.{HasPushed}
use Rattle.fzn_head.proofs.opening.open_with.Given as goal

abbrev pub invariant-loop-derivation : goal.invariant-loop-derivation
invariant-loop-derivation l = record {
  ready : IsReadyFor (length l.model.vars) l.extender;
  most : most_terms l.extender l.model ≡ most_in_head l.fn.model;
  pushed : HasPushed l.fn.model l.model (string_bytes l.lines) l.derived;
}
