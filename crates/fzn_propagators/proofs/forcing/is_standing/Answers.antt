use Rattle.std.proofs.Common.{ℕ, List, length, sym, subst, All}
use Rattle.std.proofs.lemmas.List.Elements.{All-from_recursion, All-weaker}
use Rattle.fzn_domain.specs.declared.literal.Lit.{Lit}
use Rattle.fzn_domain.specs.Narrow.{IsClauseOver}
use Rattle.fzn_cert.specs.Spelling.{IsLiteral}
use Rattle.fzn_trail.specs.Unit.{IsFalseOrUnit}
use Rattle.fzn_propagator.specs.Clause.{IsWritable}
use Rattle.fzn_propagators.proofs.FoundLemmas.{as-many}
use Rattle.fzn_propagators.proofs.forcing.is_standing.Goals as goal

pub is_forcing-requires-clause-over : goal.is_forcing-requires-clause-over
is_forcing-requires-clause-over c =
    let trail = c.args.trail.now in
    subst (λ (ls : List Lit). IsClauseOver (length trail.declared) ls) (sym c.as_slice.ensures)
    (subst (λ (n : ℕ). IsClauseOver n c.args.inference.now.clause) (sym (as-many c.args.model.now trail c.requires.declared)) c.requires.justified.over)

pub is_forcing-requires-clause-writable : goal.is_forcing-requires-clause-writable
is_forcing-requires-clause-writable c =
    subst (λ (ls : List Lit). All IsWritable ls) (sym c.as_slice.ensures)
    (All-weaker IsLiteral IsWritable (λ lit is. is.1) c.args.inference.now.clause (All-from_recursion IsLiteral c.args.inference.now.clause c.requires.justified.spelled.2))

pub returns : goal.returns
returns c = λ told. record {
  stands = c.requires.justified;
  forces = subst (λ (ls : List Lit). IsFalseOrUnit c.args.trail.now.sets ls) c.as_slice.ensures (c.is_forcing.ensures told).forces;
}
