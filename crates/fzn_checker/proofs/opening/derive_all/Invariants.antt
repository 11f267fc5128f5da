use Rattle.std.proofs.Common.{◌≡◌, length, ◌≤◌}
use Rattle.fzn_cert_reader.specs.Reader.{progress}
use Rattle.fzn_cert_reader.specs.Opening.{IsInHead}
use Rattle.fzn_head.specs.Extender.{IsReadyFor, most_terms}
use Rattle.fzn_head.specs.Outcome.{most_in_head}
use Rattle.fzn_checker.proofs.OpeningLaws.{HasDerived}
use Rattle.fzn_checker.proofs.opening.derive_all.Given as goal

abbrev pub invariant-loop-place : goal.invariant-loop-place
invariant-loop-place g l = record {
  inside : l.place ≤ l.head.derived;
  derived : HasDerived l.fn.model l.model (progress g.C.Read.remaining l.fn.cert).left (progress g.C.Read.remaining l.cert).left l.place l.holds l.derivations.items;
  ready : IsReadyFor (length l.model.vars) l.extender;
  most : most_terms l.extender l.model ≡ most_in_head l.fn.model;
  in_head : IsInHead (progress g.C.Read.remaining l.cert);
}
