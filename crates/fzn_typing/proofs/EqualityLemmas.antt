-- A written value is an equality of its kind.
use Rattle.std.proofs.Common.{◌≡◌, List, None, refl}
use Rattle.fzn_meaning.specs.declared.constraint.Constraint.TheVariants.{Compare}
use Rattle.fzn_meaning.specs.declared.model.Kind.{Kind}
use Rattle.fzn_meaning.specs.declared.model.Kind.TheVariants.{Integer, Boolean}
use Rattle.fzn_meaning.specs.declared.relation.Relation.TheVariants.{Equal}
use Rattle.fzn_names.specs.Values.{NameList}
use Rattle.fzn_tree.specs.declared.tree.Arg.{Arg}
use Rattle.fzn_typing.specs.Arguments.{argument_term}
use Rattle.fzn_typing.specs.Constraints.{constraint_for}
use Rattle.fzn_typing.specs.Models.{equality}

pub equality_made : (names : NameList) (given : List Arg) (kind : Kind) → constraint_for names given (equality kind) ≡ Compare Equal (argument_term names given 0) (argument_term names given 1) None
unfolding constraint_for
equality_made names given Integer = refl
equality_made names given Boolean = refl

pub ruleset equalities_made = (equality_made)
