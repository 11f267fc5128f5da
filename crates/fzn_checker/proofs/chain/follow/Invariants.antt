use Rattle.std.proofs.Common.{◌≡◌, length, drop}
use Rattle.fzn_domain.specs.Narrow.{chain_outcome}
use Rattle.fzn_cert.specs.Past.{clauses_held}
use Rattle.fzn_checker.proofs.chain.follow.Given as goal

abbrev pub invariant-loop-id : goal.invariant-loop-id
invariant-loop-id l = record {
  rest : chain_outcome l.sets.present (clauses_held l.history (drop l.id-index l.ids)) ≡ chain_outcome l.fn.sets.present (clauses_held l.history l.ids);
  same_length : length l.sets.present ≡ length l.fn.sets.present;
  declared : l.sets.declared ≡ l.fn.sets.declared;
}
