-- What is said of a propagator of one kind or of another: what its own kind says.
use Rattle.fzn_propagators.specs.declared.either.Either.{Either}
use Rattle.fzn_propagators.specs.declared.either.Either.TheVariants.{This, Other}

abbrev pub told_of_either : {A B X : Type 0} → (A → X) → (B → X) → Either A B → X
told_of_either one other (This p) = one p
told_of_either one other (Other p) = other p

abbrev pub HoldsOfEither : {A B X : Type 0} → (A → X → Type 0) → (B → X → Type 0) → Either A B → X → Type 0
HoldsOfEither One Another (This p) = One p
HoldsOfEither One Another (Other p) = Another p
