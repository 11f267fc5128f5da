use Rattle.std.proofs.Common.{◌≡◌, ℕ, ◌<◌}
use Rattle.fzn_clauses.specs.Watching.{IsAmong}
use Rattle.fzn_clauses.proofs.clauses.Clauses.look_at_all.Given as goal

abbrev pub invariant-loop-k : goal.invariant-loop-k
invariant-loop-k l = record {
  arena : l.self.arena ≡ l.initial.self.arena;
  lists : l.self.lists ≡ l.initial.self.lists;
  again : l.self.again ≡ l.initial.self.again;
  early : l.self.early ≡ l.initial.self.early;
  more : (j : ℕ) → IsAmong j l.initial.self.pending.items → IsAmong j l.self.pending.items;
  all : (j : ℕ) → j < l.k → IsAmong j l.self.pending.items;
}
