-- Which models can be shown.
use Rattle.std.specs.Prelude.{length}
use Rattle.std.specs.List.{All}
use Rattle.fzn_meaning.specs.declared.model.Model.{Model}
use Rattle.fzn_meaning.specs.WellFormed.{IsOutputItem}

-- each output item names variables of the model and constants alone
abbrev pub CanBeShown : Model → Type 0
CanBeShown model = All (IsOutputItem (length model.vars)) model.shown
