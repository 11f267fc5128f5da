-- The whole text of an answer.
use Rattle.std.specs.Prelude.{ℕ, ◌-◌, ◌==◌, not, Bool, true, false, ℤ, List, ◌++◌, length, drop}
use Rattle.std.specs.List.{flat_map}
use Rattle.fzn_meaning.specs.declared.model.Goal.{Goal}
use Rattle.fzn_meaning.specs.declared.model.Goal.TheVariants.{Satisfy, Minimize, Maximize}
use Rattle.fzn_meaning.specs.declared.model.Model.{Model}
use Rattle.fzn_printer.specs.Shown.{shown, ending_text}

-- the place of the first solution that is printed: in an optimisation the last alone is, but for a wish to see all
abbrev pub first_shown : Goal → Bool → ℕ → ℕ
first_shown Satisfy all count = 0
first_shown (Minimize var) true count = 0
first_shown (Minimize var) false count = count - 1
first_shown (Maximize var) true count = 0
first_shown (Maximize var) false count = count - 1

-- the solutions that are printed, and the ending
abbrev pub answer_text : Model → List (List ℤ) → Bool → Bool → List ℕ
answer_text model found closed all =
    flat_map (shown model) (drop (first_shown model.goal all (length found)) found) ++ ending_text closed (not (length found == 0))
