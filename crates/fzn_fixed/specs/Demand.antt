-- What an image asks of the result.
use Rattle.std.specs.Prelude.{◌≡◌, ◌↔◌, ℤ, true, List, length, Option, Some, None}
use Rattle.fzn_domain.specs.declared.literal.Lit.{Lit}
use Rattle.fzn_domain.specs.Literal.{is_true_at}
use Rattle.fzn_domain.specs.IntSet.{IntSet, contains}
use Rattle.fzn_domain.specs.Narrow.{IsVariable, set_of}
use Rattle.fzn_values.specs.declared.term.Term.{Term}
use Rattle.fzn_values.specs.declared.term.Term.TheVariants.{Variable}
use Rattle.fzn_builtin_rules.specs.Choices.{NoneOf}
use Rattle.fzn_sets.specs.Terms.{MayBe}
use Rattle.fzn_propagator.specs.Clause.{IsWritable}
use Rattle.fzn_fixed.specs.declared.demand.Demand.{Demand}
use Rattle.fzn_fixed.specs.declared.demand.Demand.TheVariants.{Nothing, Impossible, Literal}
use Rattle.fzn_fixed.specs.declared.image.Image.{Image}
use Rattle.fzn_fixed.specs.Image.{Admits}

-- each value of the result's set is admitted
abbrev pub AdmitsEach : List IntSet → Option Term → Image → Type 0
AdmitsEach sets None image = Admits image None
AdmitsEach sets (Some term) image = (v : ℤ) → MayBe sets term v → Admits image (Some v)

-- the result is this variable, and of its declared values those are admitted at which the literal is true
pub record AdmitsWhere (declared : List IntSet) (of : Option Term) (image : Image) (lit : Lit) : Type 0 where
  pub of_result : of ≡ Some (Variable lit.var)
  pub variable : IsVariable (length declared) lit.var
  pub writable : IsWritable lit
  pub admitted : (v : ℤ) → contains (set_of declared lit.var) v ≡ true → Admits image (Some v) ↔ (is_true_at lit v ≡ true)

abbrev pub IsDemand : List IntSet → Option Term → Image → Demand → Type 0
IsDemand declared of image Nothing = AdmitsEach declared of image
IsDemand declared of image Impossible = NoneOf declared of (Admits image)
IsDemand declared of image (Literal lit) = AdmitsWhere declared of image lit
