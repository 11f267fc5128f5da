-- The numbers of a search of which nothing else is asked.
use Rattle.fzn_strategy.specs.declared.parameters.Parameters.{Parameters}

abbrev pub standard : Parameters
standard = record {
  first_restart = 100;
  restart_growth = 50;
  kept_at_restart = 100;
  annotation_turns = 3;
  solution_turns = 2;
  probe_share = 10;
  probe_conflicts = 32;
  probe_part = 300;
  decay = 950;
  cost_terms = 1000000;
  cost_passes = 4;
  learned_first = 800;
  learned_last = 30000;
  learned_growth = 10;
  inferred_first = 3000;
  inferred_last = 6000;
  inferred_growth = 10;
  forgotten_length = 2;
  held_length = 4;
  idle_steps = 10000;
  idle_steps_in_use = 100000;
  settled_entries = 16384;
  settled_entries_each = 8;
  spare_inferences = 64;
  spare_share = 16;
  hints_at_once = 65536;
}
