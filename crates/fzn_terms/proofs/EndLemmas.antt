-- The ends of a term are values of it.
use Rattle.std.proofs.Common.{List, length, refl}
use Rattle.fzn_domain.specs.IntSet.{IntSet}
use Rattle.fzn_domain.specs.Narrow.{NoneEmpty, set_of}
use Rattle.fzn_domain.proofs.SetLemmas.{member_of_size, contains-least, contains-greatest}
use Rattle.fzn_values.specs.declared.term.Term.{Term}
use Rattle.fzn_values.specs.declared.term.Term.TheVariants.{Constant, Variable}
use Rattle.fzn_values.specs.Term.{IsTerm}
use Rattle.fzn_sets.specs.Terms.{MayBe, least_value, greatest_value}
use Rattle.fzn_trail.specs.Levels.{IsNarrower}
use Rattle.fzn_propagator.proofs.CallerLemmas.{some_value}

pub ends_may : (sets declared : List IntSet) (term : Term) → IsTerm (length declared) term → IsNarrower sets declared → NoneEmpty sets → MayBe sets term (least_value sets term) × MayBe sets term (greatest_value sets term)
ends_may sets declared (Constant k) fits narrower filled = (refl, refl)
ends_may sets declared (Variable var) fits narrower filled =
    let some = member_of_size (set_of sets var) (some_value sets declared var fits narrower filled) in
    (contains-least (set_of sets var) some.0 some.1, contains-greatest (set_of sets var) some.0 some.1)
