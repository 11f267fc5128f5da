-- The tasks that a pass is over, and what it finds.
use Rattle.std.specs.Prelude.{List}
use Rattle.fzn_domain.specs.declared.literal.Lit.{Lit}
use Rattle.fzn_rules.specs.declared.rule.Rule.{Rule}
use Rattle.fzn_propagator.specs.Clause.{IsJustified}
use Rattle.fzn_propagator.specs.Inference.{Inference, AreFoundOf}
use Rattle.fzn_cumulative.specs.declared.pass.Pass.{Pass}
use Rattle.fzn_cumulative.specs.declared.tasks.Tasks.{Tasks}
use Rattle.fzn_cumulative.specs.Loads.{cumulative_of}

abbrev pub tasks_of : Pass → Tasks
tasks_of pass = record { starts = pass.starts.now; durations = pass.durations.now; uses = pass.uses.now; capacity = pass.capacity }

-- the rule justifies the clause from the cumulative of the tasks
abbrev pub IsJustifiedByCumulative : Pass → Rule → List Lit → Type 0
IsJustifiedByCumulative pass rule clause = IsJustified pass.trail.now (cumulative_of (tasks_of pass)) rule clause

-- so of each of these inferences, which have its number
abbrev pub AreFoundOfCumulative : Pass → List Inference → Type 0
AreFoundOfCumulative pass found = AreFoundOf pass.number (cumulative_of (tasks_of pass)) pass.trail.now found
