use Rattle.std.proofs.Common.{◌≡◌, length, map, drop}
use Rattle.fzn_domain.specs.Narrow.{chain_outcome}
use Rattle.fzn_learned.specs.Reasoned.{known_of, antecedent_clause}
use Rattle.fzn_learned.proofs.trial.ends_well.Given as goal

abbrev pub invariant-loop-antecedent : goal.invariant-loop-antecedent
invariant-loop-antecedent l = record {
  rest : chain_outcome l.sets.present (map (antecedent_clause (known_of l.clauses l.inferences)) (drop l.antecedent-index l.antecedents)) ≡ chain_outcome l.fn.sets.present (map (antecedent_clause (known_of l.clauses l.inferences)) l.antecedents);
  same_length : length l.sets.present ≡ length l.fn.sets.present;
  declared : l.sets.declared ≡ l.fn.sets.declared;
}
