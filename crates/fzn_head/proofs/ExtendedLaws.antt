-- A model with derived constraints has the solutions that it has without them.
use Rattle.std.proofs.Common.{◌≡◌, ◌↔◌, ℕ, ◌+◌, ◌-◌, ◌<◌, ◌≤◌, ◌==◌, Bool, true, false, List, [], ◌∷◌, ◌++◌, ℤ, length, get_or, take, All, IfSome, Option, Some, refl, sym, ap, subst, ◌∙◌, inl, inr, arith}
use Rattle.std.specs.Prelude.{slice_index_or, slice_get, if◌then◌else◌, None}
use Rattle.std.proofs.lemmas.List.{length-append, length-map, take_more}
use Rattle.std.proofs.lemmas.List.Elements.{All-push, All-pop, All-weaker}
use Rattle.std.proofs.lemmas.Option.{slice_get_cases}
use Rattle.fzn_meaning.specs.declared.constraint.Constraint.{Constraint}
use Rattle.fzn_meaning.specs.declared.row.Part.{Part}
use Rattle.fzn_meaning.specs.declared.model.Var.{Var}
use Rattle.fzn_meaning.specs.declared.model.Model.{Model}
use Rattle.fzn_meaning.specs.Meaning.{Meets, HasBooleanSets, longest, IsWellFormedConstraint}
use Rattle.fzn_meaning.specs.Solutions.{declared_sets, IsSolution, IsInOrder, IsCovered, IsProper, IsExhausted}
use Rattle.fzn_meaning.specs.WellFormed.{IsWellFormed}
use Rattle.fzn_derive.specs.declared.derivation.Derivation.{Derivation}
use Rattle.fzn_cited.specs.Cited.{AreMet}
use Rattle.fzn_derive.specs.Derived.{cited}
use Rattle.fzn_derive.proofs.DerivedLaws.{derived-Meets, derived-formed}
use Rattle.fzn_head.specs.Extended.{with_constraint, IsDerivedOf, Extends, listed_of, listed_in, terms_held, terms_held_in}

-- ---- what stays as it is

-- the model with these constraints in the place of its own
abbrev pub with_constraints : Model → List Constraint → Model
with_constraints model constraints = record {
  vars = model.vars;
  constraints = constraints;
  goal = model.goal;
  outputs = model.outputs;
  shown = model.shown;
}

-- only the constraints are others
pub only_constraints : (model after : Model) (derivations : List Derivation) → Extends model derivations after → (constraints : List Constraint) × (after ≡ with_constraints model constraints)
only_constraints model after [] e = (model.constraints, e)
only_constraints model after (derivation ∷ later) (constraint, derived, rest) = only_constraints (with_constraint model constraint) after later rest

-- one more for each derivation
pub one_for_each : (model after : Model) (derivations : List Derivation) → Extends model derivations after → length after.constraints ≡ length model.constraints + length derivations
one_for_each model after [] e = ap (λ (m : Model). length m.constraints) e ∙ omega arith
one_for_each model after (derivation ∷ later) (constraint, derived, rest) =
    omega (arith, one_for_each (with_constraint model constraint) after later rest, length-append model.constraints (constraint ∷ []))

-- first by some derivations, and then by others
pub Extends-then : (model middle after : Model) (first second : List Derivation) → Extends model first middle → Extends middle second after → Extends model (first ++ second) after
Extends-then model middle after [] second e extends = subst (λ (m : Model). Extends m second after) e extends
Extends-then model middle after (derivation ∷ later) second (constraint, derived, rest) extends =
    (constraint, derived, Extends-then (with_constraint model constraint) middle after later second rest extends)

-- ---- how many terms there are

pub terms-more : (constraints : List Constraint) (constraint : Constraint) → terms_held_in (constraints ++ constraint ∷ []) ≡ terms_held_in constraints + terms_held constraint
terms-more [] constraint = omega arith
terms-more (first ∷ later) constraint = omega (arith, terms-more later constraint)

listed-last : (parts : List Part) (part : Part) → listed_in (parts ++ part ∷ []) ≡ listed_in parts + listed_of part
listed-last [] part = omega arith
listed-last (first ∷ later) part = omega (arith, listed-last later part)

-- one part more
pub listed-more : (parts : List Part) (i : ℕ) (d : Part) → i < length parts → listed_in (take (i + 1) parts) ≡ listed_in (take i parts) + listed_of (get_or parts i d)
listed-more parts i d inside = ap listed_in (take_more parts i d inside) ∙ listed-last (take i parts) (get_or parts i d)

pub terms-grow : (model after : Model) (derivations : List Derivation) → Extends model derivations after → terms_held_in model.constraints ≤ terms_held_in after.constraints
terms-grow model after [] e = omega (arith, ap (λ (m : Model). terms_held_in m.constraints) e)
terms-grow model after (derivation ∷ later) (constraint, derived, rest) =
    omega (arith, terms-more model.constraints constraint, terms-grow (with_constraint model constraint) after later rest)

-- ---- what is derived of a model that may be cited

pub record IsCitable (model : Model) : Type 0 where
  pub formed : All (IsWellFormedConstraint (length model.vars)) model.constraints
  pub booleans : All (HasBooleanSets (declared_sets model.vars)) model.constraints

size : (vars : List Var) → length (declared_sets vars) ≡ length vars
size vars = length-map vars (λ (var : Var). var.domain)

formed_sets : (model : Model) → IsCitable model → All (IsWellFormedConstraint (length (declared_sets model.vars))) model.constraints
formed_sets model fits = subst (λ (n : ℕ). All (IsWellFormedConstraint n) model.constraints) (sym (size model.vars)) fits.formed

-- what meets all meets those that are cited
cited_met : (given : List Constraint) (numbers : List ℕ) (values : List ℤ) → All (λ constraint. Meets constraint values) given → AreMet given numbers values
cited_met given numbers values all k d lt = is_met (slice_index_or numbers k d == 0) (slice_index_or numbers k d)
  where
    is_met : (is_zero : Bool) (number : ℕ) → IfSome (if is_zero then None else slice_get given (number - 1)) (λ constraint. Meets constraint values)
    is_met true number = tt
    is_met false number =
        elim (slice_get_cases given (number - 1)).1 [
          | inl (constraint, within, is, at) ↦
              subst (λ (o : Option Constraint). IfSome o (λ constraint. Meets constraint values)) (sym is)
              (subst (λ (c : Constraint). Meets c values) at (all (number - 1) constraint within))
          | inr past_end ↦ subst (λ (o : Option Constraint). IfSome o (λ constraint. Meets constraint values)) (sym past_end.1) tt
        ]

module _ (model : Model) (derivation : Derivation) (constraint : Constraint) (citable : IsCitable model) (derived : IsDerivedOf model derivation constraint) where
  pub citable-after : IsCitable (with_constraint model constraint)
  citable-after =
      let more = derived-formed model.constraints (declared_sets model.vars) derivation constraint (formed_sets model citable) derived in
      record {
        formed = All-push (IsWellFormedConstraint (length model.vars)) model.constraints constraint citable.formed (subst (λ (n : ℕ). IsWellFormedConstraint n constraint) (size model.vars) more.0);
        booleans = All-push (HasBooleanSets (declared_sets model.vars)) model.constraints constraint citable.booleans more.1;
      }

  solution-more : (values : List ℤ) → IsSolution model values → IsSolution (with_constraint model constraint) values
  solution-more values solution = (
    solution.0,
    All-push (λ c. Meets c values) model.constraints constraint solution.1
        (derived-Meets model.constraints (declared_sets model.vars) derivation constraint values (formed_sets model citable) citable.booleans derived solution.0
        (cited_met model.constraints (cited derivation) values solution.1)),
  )

  solution-fewer : (values : List ℤ) → IsSolution (with_constraint model constraint) values → IsSolution model values
  solution-fewer values solution = (solution.0, (All-pop (λ c. Meets c values) (model.constraints ++ constraint ∷ []) model.constraints (Some constraint) refl solution.1).0)

-- ---- one derivation after another

pub citable-all : (model after : Model) (derivations : List Derivation) → IsCitable model → Extends model derivations after → IsCitable after
citable-all model after [] citable e = subst IsCitable (sym e) citable
citable-all model after (derivation ∷ later) citable (constraint, derived, rest) =
    citable-all (with_constraint model constraint) after later (citable-after model derivation constraint citable derived) rest

solutions-all : (model after : Model) (derivations : List Derivation) (values : List ℤ) → IsCitable model → Extends model derivations after → IsSolution after values ↔ IsSolution model values
solutions-all model after [] values citable e = subst (λ (m : Model). IsSolution m values ↔ IsSolution model values) (sym e) (λ h. h, λ h. h)
solutions-all model after (derivation ∷ later) values citable (constraint, derived, rest) =
    let same = solutions-all (with_constraint model constraint) after later values (citable-after model derivation constraint citable derived) rest in (
      λ solution. solution-fewer model derivation constraint citable derived values (same.0 solution),
      λ solution. same.1 (solution-more model derivation constraint citable derived values solution),
    )

well_formed-citable : (model : Model) → IsWellFormed model → IsCitable model
well_formed-citable model formed = record { formed = formed.constraints; booleans = formed.booleans }

pub same-solutions : (model after : Model) (derivations : List Derivation) (values : List ℤ) → IsWellFormed model → Extends model derivations after → IsSolution after values ↔ IsSolution model values
same-solutions model after derivations values formed extends = solutions-all model after derivations values (well_formed-citable model formed) extends

-- it is one that a file may state
pub formed-after : (model after : Model) (derivations : List Derivation) → IsWellFormed model → length after.constraints ≤ longest → Extends model derivations after → IsWellFormed after
formed-after model after derivations formed few extends =
    with_others (only_constraints model after derivations extends) few (citable-all model after derivations (well_formed-citable model formed) extends)
  where
    with_others : (constraints : List Constraint) × (after ≡ with_constraints model constraints) → length after.constraints ≤ longest → IsCitable after → IsWellFormed after
    with_others (constraints, is) short citable =
        let cited_from = subst IsCitable is citable in
        subst IsWellFormed (sym is) (record {
          constraints = cited_from.formed;
          booleans = cited_from.booleans;
          goal = formed.goal;
          outputs = formed.outputs;
          rising = formed.rising;
          shown = formed.shown;
          values = formed.values;
          few_vars = formed.few_vars;
          few_constraints = subst (λ (m : Model). length m.constraints ≤ longest) is short;
        })

-- ---- what is found of the one is found of the other

module _ (model after : Model) (derivations : List Derivation) (formed : IsWellFormed model) (extends : Extends model derivations after) where
  same_goal : (found : List (List ℤ)) → IsInOrder after.goal after.outputs found → IsInOrder model.goal model.outputs found
  same_goal found = by_others (only_constraints model after derivations extends)
    where
      by_others : (constraints : List Constraint) × (after ≡ with_constraints model constraints) → IsInOrder after.goal after.outputs found → IsInOrder model.goal model.outputs found
      by_others (constraints, is) order = subst (λ (m : Model). IsInOrder m.goal m.outputs found) is order

  same_covers : (found : List (List ℤ)) (values : List ℤ) → IsCovered after.goal after.outputs found values → IsCovered model.goal model.outputs found values
  same_covers found values = by_others (only_constraints model after derivations extends)
    where
      by_others : (constraints : List Constraint) × (after ≡ with_constraints model constraints) → IsCovered after.goal after.outputs found values → IsCovered model.goal model.outputs found values
      by_others (constraints, is) covers = subst (λ (m : Model). IsCovered m.goal m.outputs found values) is covers

  pub proper-before : (found : List (List ℤ)) → IsProper after found → IsProper model found
  proper-before found proper = record {
    solutions = All-weaker (IsSolution after) (IsSolution model) (λ values solution. (same-solutions model after derivations values formed extends).0 solution) found proper.solutions;
    in_order = same_goal found proper.in_order;
  }

  pub exhausted-before : (found : List (List ℤ)) → IsExhausted after found → IsExhausted model found
  exhausted-before [] exhausted = λ values solution. exhausted values ((same-solutions model after derivations values formed extends).1 solution)
  exhausted-before (first ∷ rest) exhausted =
      λ values solution. same_covers (first ∷ rest) values (exhausted values ((same-solutions model after derivations values formed extends).1 solution))
