-- Each constraint is one of some crate's.
use Rattle.std.proofs.Common.{◌≡◌, ℕ, List, get_or, Option, Some, None, refl, sym, ◌∙◌, subst}
use Rattle.std.specs.Prelude.{IfNone}
use Rattle.fzn_meaning.specs.declared.constraint.Constraint.{Constraint}
use Rattle.fzn_meaning.specs.declared.constraint.Constraint.TheVariants.{AllDifferent, Inverse}
use Rattle.fzn_values.specs.declared.term.Term.{Term}
use Rattle.fzn_builtin_rules.specs.Choices.{inputs_of}
use Rattle.fzn_builtin_rules.specs.Form.{form_of}
use Rattle.fzn_globals.specs.Kinds.{IsOther}

not_some : {A : Type 0} {x : A} → Some x ≡ None → ⊥
not_some h = cc

where_other : {A : Type 0} (P : Type 0) (found : Option A) → ((x : A) → found ≡ Some x → ⊥) → IfNone found P → P
where_other P (Some x) other fact = absurd (other x refl)
where_other P None other fact = fact

where_none : {A : Type 0} (P : Type 0) (found : Option A) → found ≡ None → IfNone found P → P
where_none P (Some x) none fact = absurd (not_some none)
where_none P None none fact = fact

-- the constraint at this place
module _ (constraints : List Constraint) (i : ℕ) (given : Constraint) (at : given ≡ get_or constraints i given) where
  -- of the constraint at this place, whatever stands where there is none
  abbrev Always : (Constraint → Type 0) → Type 0
  Always P = (default : Constraint) → P (get_or constraints i default)

  -- one that is neither a sum nor another builtin has no inputs
  pub no-inputs : {A B : Type 0} (sum : Option A) (builtin : Option B)
      → ((x : A) → sum ≡ Some x → ⊥) → builtin ≡ None
      → IfNone sum (Always (λ C. form_of C ≡ None))
      → IfNone builtin (Always (λ C. form_of C ≡ None → inputs_of C ≡ None))
      → inputs_of given ≡ None
  no-inputs sum builtin not_sum not_builtin of_sum of_builtin =
      let form = where_other (Always (λ C. form_of C ≡ None)) sum not_sum of_sum given in
      let inputs = where_none (Always (λ C. form_of C ≡ None → inputs_of C ≡ None)) builtin not_builtin of_builtin given form in
      subst (λ (C : Constraint). inputs_of C ≡ None) (sym at) inputs

  pub found-different : {A : Type 0} (found : Option A) (places : List Term) → given ≡ AllDifferent places → found ≡ None → IfNone found (Always IsOther) → ⊥
  found-different found places is none fact = (where_none (Always IsOther) found none fact given).0 places (sym at ∙ is)

  pub found-inverse : {A : Type 0} (found : Option A) (forward backward : List Term) → given ≡ Inverse forward backward → found ≡ None → IfNone found (Always IsOther) → ⊥
  found-inverse found forward backward is none fact = (where_none (Always IsOther) found none fact given).1 forward backward (sym at ∙ is)
