-- What has to hold by the value of a switch, and the literal that the switch has another.
use Rattle.std.specs.Prelude.{◌≡◌, Bool, true, false, ℤ, pos, List, [], ◌∷◌, Option, Some, None}
use Rattle.std.proofs.Props.{props}
use Rattle.fzn_domain.specs.declared.literal.Lit.{Lit}
use Rattle.fzn_domain.specs.declared.literal.Op.TheVariants as op
use Rattle.fzn_domain.specs.IntSet.{IntSet}
use Rattle.fzn_values.specs.declared.term.Term.{Term}
use Rattle.fzn_values.specs.declared.term.Term.TheVariants.{Constant, Variable}
use Rattle.fzn_sets.specs.Terms.{IsFixedTo, MayBe}
use Rattle.fzn_builtin_rules.specs.Form.{Form}
use Rattle.fzn_terms.specs.Values.{IsFixed}
use Rattle.fzn_linear.specs.OppositeForm.{opposite_form}

-- the form itself where the switch is on, that is 1, or where there is none; else its opposite
abbrev pub form_where : Bool → Form → Form
form_where true found = found
form_where false found = opposite_form found

abbrev pub value_where : Bool → ℤ
value_where true = pos 1
value_where false = pos 0

-- the switch is on, or off; where there is none, it counts as on
abbrev pub IsSwitchAt : List IntSet → Option Term → Bool → Type 0
IsSwitchAt sets None on = on ≡ true
IsSwitchAt sets (Some switch) on = IsFixedTo sets switch (value_where on)

-- it may be
abbrev pub MayBeSwitchAt : List IntSet → Option Term → Bool → Type 0
MayBeSwitchAt sets None on = on ≡ true
MayBeSwitchAt sets (Some switch) on = MayBe sets switch (value_where on)

pub MayBeSwitchAt-prop : (sets : List IntSet) (switch : Option Term) (on : Bool) → IsProp (MayBeSwitchAt sets switch on)
MayBeSwitchAt-prop sets None on = Prim.hlevel props
MayBeSwitchAt-prop sets (Some (Constant k)) on = Prim.hlevel props
MayBeSwitchAt-prop sets (Some (Variable var)) on = Prim.hlevel props

-- it has one value, where there is one
abbrev pub IsSwitchFixed : List IntSet → Option Term → Type 0
IsSwitchFixed sets None = Unit {0}
IsSwitchFixed sets (Some switch) = IsFixed sets switch

-- the literal that it has another value
abbrev pub guard_of : Option Term → Bool → List Lit
guard_of (Some (Variable var)) on = record { var = var; op = op.NotEqual; value = value_where on } ∷ []
guard_of _ on = []
