-- Steps that have a line.
use Rattle.std.proofs.Common.{◌≡◌, ℕ, ◌^◌, ◌<◌, ◌≤◌, ℤ, pos, List, [], ◌∷◌, length, get_or, All, Some, arith}
use Rattle.std.specs.List.{AllByRecursion}
use Rattle.std.proofs.lemmas.Int.{ints}
use Rattle.std.proofs.lemmas.List.Elements.{All-head, All-tail, All-get_or, All-from_get_or}
use Rattle.fzn_domain.specs.declared.literal.Lit.{Lit}
use Rattle.fzn_domain.specs.IntSet.{no_values}
use Rattle.fzn_domain.specs.Limits.{IsInLimits, IsLimited}
use Rattle.fzn_domain.specs.Narrow.{IsVariable, IsClauseOver, IsWithin}
use Rattle.fzn_meaning.specs.declared.model.Model.{Model}
use Rattle.fzn_meaning.specs.Solutions.{declared_sets}
use Rattle.fzn_meaning.specs.WellFormed.{IsWellFormed}
use Rattle.fzn_cert.specs.declared.step.Step.TheVariants.{Resolve, Solution}
use Rattle.fzn_cert.specs.declared.step.Version.TheVariants.{Two}
use Rattle.fzn_cert.specs.Spelling.{IsNumber, IsValue, IsLiteral, IsSpelled}
use Rattle.fzn_cert.specs.Past.{StepsPast, clause_held}
use Rattle.fzn_state.specs.State.{Give}
use Rattle.fzn_state.proofs.NumberLemmas.{number-of}

near : (x : ℤ) → IsInLimits x → IsValue x
near x h = (omega (arith, ints), omega (arith, ints))

variable-number : (count n : ℕ) → count ≤ 100000 → 1 ≤ n → n ≤ count → IsNumber n
variable-number count n few one most = (one, omega arith)

literals-spelled : (count : ℕ) (clause : List Lit) → count ≤ 100000 → IsClauseOver count clause → All (λ (lit : Lit). IsInLimits lit.value) clause → AllByRecursion IsLiteral clause
literals-spelled count [] few over limits = tt
literals-spelled count (lit ∷ clause) few over limits =
    let var = All-head (λ (l : Lit). IsVariable count l.var) lit clause over in (
      (variable-number count lit.var.0 few var.0 var.1, near lit.value (All-head (λ (l : Lit). IsInLimits l.value) lit clause limits)),
      literals-spelled count clause few (All-tail (λ (l : Lit). IsVariable count l.var) lit clause over) (All-tail (λ (l : Lit). IsInLimits l.value) lit clause limits),
    )

-- numbers that give clauses are those of steps
numbers-spelled : (past : StepsPast) (numbers : List ℕ) (clauses : List (List Lit)) → length past.clauses < 10 ^ 18 → Give past numbers clauses → AllByRecursion IsNumber numbers
numbers-spelled past [] clauses few give = tt
numbers-spelled past (n ∷ numbers) [] few give = cc
numbers-spelled past (n ∷ numbers) (clause ∷ clauses) few give =
    let one : clause_held past n ≡ Some clause = cc in
    let rest : Give past numbers clauses = cc in
    let is = number-of past n clause one in
    (number n (length past.clauses) few is.0 is.1, numbers-spelled past numbers clauses few rest)
  where
    number : (k count : ℕ) → count < 10 ^ 18 → 1 ≤ k → k ≤ count → IsNumber k
    number k count room least most = (least, omega arith)

pub resolve-spelled : (count : ℕ) (past : StepsPast) (clause : List Lit) (numbers : List ℕ) (clauses : List (List Lit)) → count ≤ 100000 → length past.clauses < 10 ^ 18 → IsClauseOver count clause → All (λ (lit : Lit). IsInLimits lit.value) clause → Give past numbers clauses → IsSpelled Two (Resolve clause numbers)
resolve-spelled count past clause numbers clauses few room over limits give = (literals-spelled count clause few over limits, numbers-spelled past numbers clauses room give)

values-spelled : (values : List ℤ) → All IsInLimits values → AllByRecursion IsValue values
values-spelled [] h = tt
values-spelled (x ∷ values) h = (near x (All-head IsInLimits x values h), values-spelled values (All-tail IsInLimits x values h))

-- the values of an assignment lie within the limits
pub values-limited : (model : Model) (values : List ℤ) → IsWellFormed model → IsWithin (declared_sets model.vars) values → All IsInLimits values
values-limited model values good within =
    All-from_get_or IsInLimits values (pos 0) (λ k h.
    let same = within.one_each in
    let there : k < length (declared_sets model.vars) = omega arith in
    All-get_or IsLimited (declared_sets model.vars) k no_values there good.values (get_or values k (pos 0)) (within.inside k there))

pub solution-spelled : (model : Model) (values : List ℤ) → IsWellFormed model → IsWithin (declared_sets model.vars) values → IsSpelled Two (Solution values)
solution-spelled model values good within = values-spelled values (values-limited model values good within)
