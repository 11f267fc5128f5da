use Rattle.std.proofs.Common.{◌≡◌, ◌++◌, [], length}
use Rattle.std.specs.List.{All}
use Rattle.fzn_names.specs.Params.{params_faults, param_names}
use Rattle.fzn_names.specs.Known.{known}
use Rattle.fzn_names.specs.Limits.{IsParamWithin}
use Rattle.fzn_names.specs.Positions.{first}
use Rattle.fzn_names.proofs.param.param_names.Given as goal

-- the faults to come, and the names so far with those to come
abbrev pub invariant-loop-params : goal.invariant-loop-params
invariant-loop-params l = record {
  faults : first (params_faults (known l.names) l.params) ≡ first (params_faults [] l.initial.params);
  built : known l.names ++ param_names l.params ≡ param_names l.initial.params;
  within : All IsParamWithin l.params;
}

abbrev pub decreases-loop-params : goal.decreases-loop-params
decreases-loop-params l = length l.params
