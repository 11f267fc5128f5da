use Rattle.fzn_derive.proofs.DerivedLaws.{one-derived, no-derive_fault, one-derive_fault}
use Rattle.fzn_derive.proofs.law.one_derived.Goals as goal

pub returns : goal.returns
returns c = record { constraint = one-derived; none = no-derive_fault; fault = one-derive_fault }
