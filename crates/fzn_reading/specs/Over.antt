-- The variables of search annotations.
use Rattle.std.specs.Prelude.{ℕ}
use Rattle.std.specs.List.{All}
use Rattle.fzn_domain.specs.Narrow.{IsVariable}
use Rattle.fzn_strategy.specs.declared.annotation.Annotation.{Annotation}

-- each is one of this many
abbrev pub IsAnnotationOver : ℕ → Annotation → Type 0
IsAnnotationOver count annotation = All (IsVariable count) annotation.vars
