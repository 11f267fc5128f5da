-- What the code finds on the way: the bound that each step says, and what is known at the end.
use Rattle.std.specs.Prelude.{◌≡◌, ◌-◌, ◌≤ℤ◌, Bool, true, false, ◌&&◌, ℤ, List, [], ◌∷◌, length, nat_eq, slice_index_or, Option, Some, None, if◌then◌else◌, unwrap_or}
use Rattle.std.specs.Int.{int_min, int_max}
use Rattle.fzn_domain.specs.declared.literal.Lit.{Lit}
use Rattle.fzn_domain.specs.declared.literal.Op.{Op}
use Rattle.fzn_domain.specs.declared.literal.Op.TheVariants.{AtMost, AtLeast, Equal}
use Rattle.fzn_domain.specs.declared.literal.VarId.{VarId}
use Rattle.fzn_domain.specs.IntSet.{IntSet, contains}
use Rattle.fzn_domain.specs.Narrow.{set_of}
use Rattle.fzn_meaning.specs.declared.model.Goal.{Goal}
use Rattle.fzn_meaning.specs.declared.model.Goal.TheVariants.{Satisfy, Minimize, Maximize}
use Rattle.fzn_meaning.specs.declared.model.Var.{Var}
use Rattle.fzn_meaning.specs.Solutions.{declared_sets}
use Rattle.fzn_cert.specs.declared.step.Step.{Step}
use Rattle.fzn_bound.specs.declared.known.Known.{Known}
use Rattle.fzn_bound.specs.declared.known.Known.TheVariants.{NoObjective, NoSolution, Unsolved, Open, Closed}
use Rattle.fzn_bound.specs.Known.{clause_given, objective_in}

-- ---- the declared set

-- the least value, and none of an empty set
abbrev pub IsLeastMember : IntSet → Option ℤ → Type 0
IsLeastMember s None = (x : ℤ) → contains s x ≡ false
IsLeastMember s (Some least) = (contains s least ≡ true) × ((x : ℤ) → contains s x ≡ true → least ≤ℤ x)

abbrev pub IsGreatestMember : IntSet → Option ℤ → Type 0
IsGreatestMember s None = (x : ℤ) → contains s x ≡ false
IsGreatestMember s (Some greatest) = (contains s greatest ≡ true) × ((x : ℤ) → contains s x ≡ true → x ≤ℤ greatest)

-- the best value of the objective's declared set
abbrev pub IsBestDeclared : Goal → List Var → Option ℤ → Type 0
IsBestDeclared Satisfy vars bound = bound ≡ None
IsBestDeclared (Minimize var) vars bound = IsLeastMember (set_of (declared_sets vars) var) bound
IsBestDeclared (Maximize var) vars bound = IsGreatestMember (set_of (declared_sets vars) var) bound

-- ---- steps

abbrev pub is_objective : Goal → VarId → Bool
is_objective Satisfy var = false
is_objective (Minimize objective) var = nat_eq var.0 objective.0
is_objective (Maximize objective) var = nat_eq var.0 objective.0

-- whether a literal with this operator has a best value at which it is true
abbrev pub has_side : Goal → Op → Bool
has_side (Minimize var) AtLeast = true
has_side (Minimize var) Equal = true
has_side (Maximize var) AtMost = true
has_side (Maximize var) Equal = true
has_side _ _ = false

abbrev pub said_of : Goal → Lit → Option ℤ
said_of goal lit = if is_objective goal lit.var && has_side goal lit.op then Some lit.value else None

-- what a clause says of the objective
abbrev pub said_in : Goal → List Lit → Option ℤ
said_in goal (lit ∷ []) = said_of goal lit
said_in goal _ = None

abbrev pub stronger : Goal → ℤ → ℤ → ℤ
stronger Satisfy first second = first
stronger (Minimize var) first second = int_max first second
stronger (Maximize var) first second = int_min first second

abbrev pub strengthened : Goal → Option ℤ → Option ℤ → Option ℤ
strengthened goal None said = None
strengthened goal (Some bound) None = Some bound
strengthened goal (Some bound) (Some said) = Some (stronger goal bound said)

-- after one more step
abbrev pub bound_after : Goal → Option ℤ → Step → Option ℤ
bound_after goal bound step = strengthened goal bound (said_in goal (clause_given step))

-- ---- the end

abbrev pub weaker : Goal → ℤ → ℤ → ℤ
weaker Satisfy first second = first
weaker (Minimize var) first second = int_min first second
weaker (Maximize var) first second = int_max first second

abbrev pub unsolved : Bool → Option ℤ → Known
unsolved false (Some bound) = Unsolved bound
unsolved _ _ = NoSolution

abbrev pub solved : Goal → Bool → Option ℤ → ℤ → Known
solved goal true bound best = Closed best
solved goal false bound best = Open best (weaker goal best (unwrap_or bound best))

-- in an optimisation
abbrev pub found_of : Goal → List (List ℤ) → Bool → Option ℤ → Known
found_of goal [] closed bound = unsolved closed bound
found_of goal (first ∷ rest) closed bound = solved goal closed bound (objective_in goal (slice_index_or (first ∷ rest) (length (first ∷ rest) - 1) []))

abbrev pub known_after : Goal → List (List ℤ) → Bool → Option ℤ → Known
known_after Satisfy found closed bound = NoObjective
known_after (Minimize var) found closed bound = found_of (Minimize var) found closed bound
known_after (Maximize var) found closed bound = found_of (Maximize var) found closed bound
