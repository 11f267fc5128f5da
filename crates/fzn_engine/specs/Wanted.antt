-- As many solutions as are wanted, and fewer.
use Rattle.std.specs.Prelude.{◌≡◌, ℕ, ◌<◌, Option, Some, None}
use Rattle.fzn_meaning.specs.declared.model.Goal.{Goal}
use Rattle.fzn_meaning.specs.declared.model.Goal.TheVariants.{Satisfy, Minimize, Maximize}

-- n solutions are fewer than the limit, where there is one for this goal
abbrev pub HasRoomForMore : Goal → Option ℕ → ℕ → Type 0
HasRoomForMore Satisfy None n = Unit {0}
HasRoomForMore Satisfy (Some most) n = n < most
HasRoomForMore (Minimize var) most n = Unit {0}
HasRoomForMore (Maximize var) most n = Unit {0}

-- n solutions are as many as the limit
abbrev pub IsReached : Goal → Option ℕ → ℕ → Type 0
IsReached Satisfy None n = ⊥
IsReached Satisfy (Some most) n = n ≡ most
IsReached (Minimize var) most n = ⊥
IsReached (Maximize var) most n = ⊥
