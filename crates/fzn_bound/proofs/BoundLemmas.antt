-- What steps say of the objective is true, and as strong as they say it; and so is what is known at the end.
use Rattle.std.proofs.Common.{◌≡◌, ℕ, ◌+◌, ◌-◌, ◌<◌, ◌≤◌, List, [], ◌∷◌, ◌++◌, Bool, true, false, ◌&&◌, ◌||◌, Option, Some, None, IfSome, length, get_or, refl, sym, ap, subst, ◌∙◌, ◌⊎◌, inl, inr, unwrap_or, ℤ, pos, ◌+ℤ◌, ◌-ℤ◌, ◌<ℤ◌, ◌≤ℤ◌, int_le, arith}
use Rattle.std.specs.Prelude.{nat_eq, if◌then◌else◌}
use Rattle.std.specs.List.{All, AllByRecursion, AllPairs, fold}
use Rattle.std.specs.Ordering.{int_eq}
use Rattle.std.proofs.lemmas.Int.{ints, int_min_is, int_max_is}
use Rattle.std.proofs.lemmas.List.{get_or_default, length-map}
use Rattle.std.proofs.lemmas.List.Elements.{All-nil, recursion_from_All, All-from_recursion}
use Rattle.std.proofs.lemmas.Bool.{cases_Bool}
use Rattle.fzn_domain.specs.declared.literal.Lit.{Lit}
use Rattle.fzn_domain.specs.declared.literal.Op.{Op}
use Rattle.fzn_domain.specs.declared.literal.Op.TheVariants.{AtMost, AtLeast, Equal, NotEqual}
use Rattle.fzn_domain.specs.declared.literal.VarId.{VarId}
use Rattle.fzn_domain.specs.IntSet.{contains}
use Rattle.fzn_domain.specs.Literal.{compares}
use Rattle.fzn_domain.specs.Narrow.{is_clause_true, set_of, value_of}
use Rattle.fzn_meaning.specs.declared.constraint.Constraint.{Constraint}
use Rattle.fzn_meaning.specs.declared.model.Goal.{Goal}
use Rattle.fzn_meaning.specs.declared.model.Goal.TheVariants.{Satisfy, Minimize, Maximize}
use Rattle.fzn_meaning.specs.declared.model.Model.{Model}
use Rattle.fzn_meaning.specs.declared.model.Var.{Var}
use Rattle.fzn_meaning.specs.Solutions.{declared_sets, cut_of, IsAssignment, IsBetterFor, IsCovered, IsExhausted, IsSolution, PassesCuts}
use Rattle.fzn_meaning.specs.WellFormed.{IsGoal, IsWellFormed}
use Rattle.fzn_meaning.proofs.CallerLemmas.{passes-better}
use Rattle.fzn_cert.specs.declared.step.Step.{Step}
use Rattle.fzn_cert.specs.declared.step.Step.TheVariants.{Infer, Resolve, Solution, Delete}
use Rattle.fzn_cert.specs.Past.{StepsPast, no_past}
use Rattle.fzn_cert.specs.Accepted.{AllAcceptedAfter, after_step}
use Rattle.fzn_cert.specs.Sound.{IsSound}
use Rattle.fzn_cert.proofs.SoundLaws.{sound-after, sound-start}
use Rattle.fzn_head.specs.Extended.{IsExtended}
use Rattle.fzn_head.proofs.ExtendedLaws.{with_constraints, only_constraints}
use Rattle.fzn_bound.specs.declared.known.Known.{Known}
use Rattle.fzn_bound.specs.declared.known.Known.TheVariants.{NoObjective, NoSolution, Unsolved, Open, Closed}
use Rattle.fzn_bound.specs.Known.{IsBetterValue, objective_in, IsTrueOf, NoneBetter, IsDeclared, IsObjective, SaysBound, clause_given, IsAsStrong, IsStrongest, IsStrong}
use Rattle.fzn_bound.specs.Said.{IsBestDeclared, is_objective, has_side, said_in, stronger, strengthened, bound_after, weaker, unsolved, solved, found_of, known_after}
use Rattle.fzn_bound.specs.Bounded.{IsBoundBy}

-- ---- one literal

some_is : {A : Type 0} (a b : A) → Some a ≡ Some b → a ≡ b
some_is a b h = ap (λ o. unwrap_or o b) h

none_some : {A : Type 0} (a : A) → None ≡ Some a → ⊥
none_some a h = cc

-- none of the values at which the literal is true is better than its number
side-true : (goal : Goal) (op : Op) (k x : ℤ) → has_side goal op ≡ true → compares op x k ≡ true → IsBetterValue goal x k → ⊥
side-true Satisfy op k x side t better = better
side-true (Minimize var) AtLeast k x side t better = grind (arith, ints, t)
side-true (Minimize var) Equal k x side t better = grind (arith, ints, t)
side-true (Maximize var) AtMost k x side t better = grind (arith, ints, t)
side-true (Maximize var) Equal k x side t better = grind (arith, ints, t)
side-true (Minimize var) AtMost k x side t better = cc
side-true (Minimize var) NotEqual k x side t better = cc
side-true (Maximize var) AtLeast k x side t better = cc
side-true (Maximize var) NotEqual k x side t better = cc

same_number : (m n : ℕ) → nat_eq m n ≡ true → m ≡ n
same_number m n h = grind (arith, h)

-- the value of the objective
objective_at : (goal : Goal) (var : VarId) (a : List ℤ) → is_objective goal var ≡ true → value_of a var ≡ objective_in goal a
objective_at Satisfy var a h = cc
objective_at (Minimize objective) var a h = ap (λ (n : ℕ). get_or a (n - 1) (pos 0)) (same_number var.0 objective.0 h)
objective_at (Maximize objective) var a h = ap (λ (n : ℕ). get_or a (n - 1) (pos 0)) (same_number var.0 objective.0 h)

and_parts : (x y : Bool) → (x && y) ≡ true → (x ≡ true) × (y ≡ true)
and_parts true true h = (refl, refl)
and_parts true false h = cc
and_parts false y h = cc

said-parts : (b : Bool) (v k : ℤ) → (if b then Some v else None) ≡ Some k → (b ≡ true) × (v ≡ k)
said-parts true v k h = (refl, some_is v k h)
said-parts false v k h = absurd (none_some k h)

or_false : (b : Bool) → (b || false) ≡ b
or_false true = refl
or_false false = refl

-- what a clause says is so at each assignment that makes it true
said-true : (goal : Goal) (clause : List Lit) (k : ℤ) (a : List ℤ) → said_in goal clause ≡ Some k → is_clause_true a clause ≡ true → IsBetterValue goal (objective_in goal a) k → ⊥
said-true goal [] k a said t better = absurd (none_some k said)
said-true goal (lit ∷ other ∷ rest) k a said t better = absurd (none_some k said)
said-true goal (lit ∷ []) k a said t better =
    let parts = said-parts (is_objective goal lit.var && has_side goal lit.op) lit.value k said in
    let is = and_parts (is_objective goal lit.var) (has_side goal lit.op) parts.0 in
    let value = objective_at goal lit.var a is.0 in
    let true_at : compares lit.op (value_of a lit.var) lit.value ≡ true = sym (or_false (compares lit.op (value_of a lit.var) lit.value)) ∙ t in
    side-true goal lit.op k (objective_in goal a) is.1
    (subst (λ (x : ℤ). compares lit.op x k ≡ true) value (subst (λ (n : ℤ). compares lit.op (value_of a lit.var) n ≡ true) parts.1 true_at)) better

-- ---- nothing stronger is said

test_le : (x y : ℤ) → int_le x y ≡ true → x ≤ℤ y
test_le x y t = omega (arith, ints)

-- as strong as one number, and that as strong as another
strong-trans : (goal : Goal) (b m k : ℤ) → (IsBetterValue goal b m → ⊥) → (IsBetterValue goal m k → ⊥) → IsBetterValue goal b k → ⊥
strong-trans Satisfy b m k h i better = better
strong-trans (Minimize var) b m k h i better = elim (cases_Bool (int_le m b)) [
  | inl t ↦ i (grind (arith, ints, t, better))
  | inr f ↦ h (grind (arith, ints, f))
]
strong-trans (Maximize var) b m k h i better = elim (cases_Bool (int_le b m)) [
  | inl t ↦ i (grind (arith, ints, t, better))
  | inr f ↦ h (grind (arith, ints, f))
]

-- a literal with no side has better values than any
no-side : (goal : Goal) (op : Op) (v k : ℤ) → has_side goal op ≡ false → NoneBetter goal (λ x. compares op x v ≡ true) k → (goal ≡ Satisfy) ⊎ ⊥
no-side Satisfy op v k side none = inl refl
no-side (Minimize var) AtMost v k side none = inr (elim (cases_Bool (int_le v (k -ℤ pos 1))) [
  | inl t ↦ none v (grind (arith, ints)) (grind (arith, ints, t))
  | inr f ↦ none (k -ℤ pos 1) (grind (arith, ints, f)) (omega (arith, ints))
])
no-side (Minimize var) NotEqual v k side none = inr (elim (cases_Bool (int_eq (k -ℤ pos 1) v)) [
  | inl t ↦ none (k -ℤ pos 2) (grind (arith, ints, t)) (omega (arith, ints))
  | inr f ↦ none (k -ℤ pos 1) (rw f refl) (omega (arith, ints))
])
no-side (Maximize var) AtLeast v k side none = inr (elim (cases_Bool (int_le (k +ℤ pos 1) v)) [
  | inl t ↦ none v (grind (arith, ints)) (grind (arith, ints, t))
  | inr f ↦ none (k +ℤ pos 1) (grind (arith, ints, f)) (omega (arith, ints))
])
no-side (Maximize var) NotEqual v k side none = inr (elim (cases_Bool (int_eq (k +ℤ pos 1) v)) [
  | inl t ↦ none (k +ℤ pos 2) (grind (arith, ints, t)) (omega (arith, ints))
  | inr f ↦ none (k +ℤ pos 1) (rw f refl) (omega (arith, ints))
])
no-side (Minimize var) AtLeast v k side none = cc
no-side (Minimize var) Equal v k side none = cc
no-side (Maximize var) AtMost v k side none = cc
no-side (Maximize var) Equal v k side none = cc

-- at its number a literal with a side is true
own-true : (goal : Goal) (op : Op) (v : ℤ) → has_side goal op ≡ true → (goal ≡ Satisfy) ⊎ (compares op v v ≡ true)
own-true Satisfy op v side = inl refl
own-true (Minimize var) AtLeast v side = inr (grind (arith, ints))
own-true (Minimize var) Equal v side = inr (grind (arith, ints))
own-true (Maximize var) AtMost v side = inr (grind (arith, ints))
own-true (Maximize var) Equal v side = inr (grind (arith, ints))
own-true (Minimize var) AtMost v side = cc
own-true (Minimize var) NotEqual v side = cc
own-true (Maximize var) AtLeast v side = cc
own-true (Maximize var) NotEqual v side = cc

objective_is : (goal : Goal) (var : VarId) → IsObjective goal var → is_objective goal var ≡ true
objective_is Satisfy var h = absurd h
objective_is (Minimize objective) var h = rw h (same objective.0) where
  same : (n : ℕ) → nat_eq n n ≡ true
  same n = grind arith
objective_is (Maximize objective) var h = rw h (same objective.0) where
  same : (n : ℕ) → nat_eq n n ≡ true
  same n = grind arith

not_satisfy : (goal : Goal) (var : VarId) → IsObjective goal var → goal ≡ Satisfy → ⊥
not_satisfy Satisfy var h is = h
not_satisfy (Minimize objective) var h is = cc
not_satisfy (Maximize objective) var h is = cc

-- where a clause says something, this number is said, and it is as strong
says-said : (goal : Goal) (clause : List Lit) (k : ℤ) → SaysBound goal clause k → (m : ℤ) × (said_in goal clause ≡ Some m) × (IsBetterValue goal m k → ⊥)
says-said goal [] k says = absurd says
says-said goal (lit ∷ other ∷ rest) k says = absurd says
says-said goal (lit ∷ []) k says = elim (cases_Bool (has_side goal lit.op)) [
  | inl side ↦ (
    lit.value,
    rw (objective_is goal lit.var says.0, side) refl,
    elim (own-true goal lit.op lit.value side) [
      | inl is ↦ absurd (not_satisfy goal lit.var says.0 is)
      | inr t ↦ says.1 lit.value t
    ],
  )
  | inr none ↦ absurd (elim (no-side goal lit.op lit.value k none says.1) [
    | inl is ↦ not_satisfy goal lit.var says.0 is
    | inr h ↦ h
  ])
]

stronger-first : (goal : Goal) (f m : ℤ) → IsBetterValue goal (stronger goal f m) f → ⊥
stronger-first Satisfy f m better = better
stronger-first (Minimize var) f m better = let is = int_max_is f m in omega (arith, ints)
stronger-first (Maximize var) f m better = let is = int_min_is f m in omega (arith, ints)

stronger-second : (goal : Goal) (f m : ℤ) → IsBetterValue goal (stronger goal f m) m → ⊥
stronger-second Satisfy f m better = better
stronger-second (Minimize var) f m better = let is = int_max_is f m in omega (arith, ints)
stronger-second (Maximize var) f m better = let is = int_min_is f m in omega (arith, ints)

own-not-better : (goal : Goal) (b : ℤ) → IsBetterValue goal b b → ⊥
own-not-better Satisfy b better = better
own-not-better (Minimize var) b better = omega (arith, ints)
own-not-better (Maximize var) b better = omega (arith, ints)

-- the bound after the steps is as strong as the first, and as what each of them says
strong-steps : (goal : Goal) (steps : List Step) (f b : ℤ) → fold (bound_after goal) (Some f) steps ≡ Some b
    → (IsBetterValue goal b f → ⊥) × AllByRecursion (λ step. IsAsStrong goal (SaysBound goal (clause_given step)) b) steps
strong-steps goal [] f b is = (λ better. own-not-better goal f (subst (λ (x : ℤ). IsBetterValue goal x f) (sym (some_is f b is)) better), tt)
strong-steps goal (step ∷ later) f b is = by_said (λ next h. strong-steps goal later next b h) (said_in goal (clause_given step)) refl is
  where
    by_said : ((next : ℤ) → fold (bound_after goal) (Some next) later ≡ Some b → (IsBetterValue goal b next → ⊥) × AllByRecursion (λ step. IsAsStrong goal (SaysBound goal (clause_given step)) b) later)
        → (said : Option ℤ) → said_in goal (clause_given step) ≡ said → fold (bound_after goal) (strengthened goal (Some f) said) later ≡ Some b
        → (IsBetterValue goal b f → ⊥) × AllByRecursion (λ step. IsAsStrong goal (SaysBound goal (clause_given step)) b) (step ∷ later)
    by_said strong_later None said_is is_after =
        let rest = strong_later f is_after in
        (rest.0, (λ k says better. let m = says-said goal (clause_given step) k says in none_some m.0 (sym said_is ∙ m.1), rest.1))
    by_said strong_later (Some m) said_is is_after =
        let rest = strong_later (stronger goal f m) is_after in (
          strong-trans goal b (stronger goal f m) f rest.0 (stronger-first goal f m),
          (
            λ k says better. let n = says-said goal (clause_given step) k says in
                strong-trans goal b (stronger goal f m) k rest.0
                (strong-trans goal (stronger goal f m) m k (stronger-second goal f m) (subst (λ (x : ℤ). IsBetterValue goal x k → ⊥) (some_is n.0 m (sym n.1 ∙ said_is)) n.2)) better,
            rest.1,
          ),
        )

none-steps : (goal : Goal) (steps : List Step) → fold (bound_after goal) None steps ≡ None
none-steps goal [] = refl
none-steps goal (step ∷ later) = none-steps goal later

end-strong : (goal : Goal) (vars : List Var) (f : ℤ) → (goal ≡ Satisfy → ⊥) → IsBestDeclared goal vars (Some f) → IsAsStrong goal (NoneBetter goal (IsDeclared goal vars)) f
end-strong Satisfy vars f other end k none = absurd (other refl)
end-strong (Minimize var) vars f other end k none = none f end.0
end-strong (Maximize var) vars f other end k none = none f end.0

-- so it is the strongest
pub strongest : (model : Model) (steps : List Step) (b : ℤ) → (model.goal ≡ Satisfy → ⊥) → IsBoundBy model steps (Some b) → IsStrongest model steps b
strongest model steps b other by = by_first by.first refl
  where
    by_first : (first : Option ℤ) → by.first ≡ first → IsStrongest model steps b
    by_first None is = absurd (none_some b (sym (by.is ∙ ap (λ (o : Option ℤ). fold (bound_after model.goal) o steps) is ∙ none-steps model.goal steps)))
    by_first (Some f) is =
        let parts = strong-steps model.goal steps f b (sym (by.is ∙ ap (λ (o : Option ℤ). fold (bound_after model.goal) o steps) is)) in (
          λ k none. strong-trans model.goal b f k parts.0 (end-strong model.goal model.vars f other (subst (IsBestDeclared model.goal model.vars) is by.end) k none),
          All-from_recursion (λ step. IsAsStrong model.goal (SaysBound model.goal (clause_given step)) b) steps parts.1,
        )

-- ---- what steps say is true

-- no better value than the bound; without a bound there is no such assignment
abbrev pub Holds : Goal → List ℤ → Option ℤ → Type 0
Holds goal a None = ⊥
Holds goal a (Some b) = IsBetterValue goal (objective_in goal a) b → ⊥

holds-stronger : (goal : Goal) (x f m : ℤ) → (IsBetterValue goal x f → ⊥) → (IsBetterValue goal x m → ⊥) → IsBetterValue goal x (stronger goal f m) → ⊥
holds-stronger Satisfy x f m h i better = better
holds-stronger (Minimize var) x f m h i better = elim (cases_Bool (int_le f x)) [
  | inl t ↦ i (let is = int_max_is f m in let le = test_le f x t in omega (arith, ints))
  | inr o ↦ h (grind (arith, ints, o))
]
holds-stronger (Maximize var) x f m h i better = elim (cases_Bool (int_le x f)) [
  | inl t ↦ i (let is = int_min_is f m in let le = test_le x f t in omega (arith, ints))
  | inr o ↦ h (grind (arith, ints, o))
]

holds-more : (goal : Goal) (a : List ℤ) (bound said : Option ℤ) → Holds goal a bound → IfSome said (λ m. IsBetterValue goal (objective_in goal a) m → ⊥) → Holds goal a (strengthened goal bound said)
holds-more goal a None said h says = h
holds-more goal a (Some f) None h says = h
holds-more goal a (Some f) (Some m) h says = holds-stronger goal (objective_in goal a) f m h says

said-holds : (goal : Goal) (clause : List Lit) (a : List ℤ) → is_clause_true a clause ≡ true → IfSome (said_in goal clause) (λ m. IsBetterValue goal (objective_in goal a) m → ⊥)
said-holds goal clause a t = by_said (said_in goal clause) refl
  where
    by_said : (said : Option ℤ) → said_in goal clause ≡ said → IfSome said (λ m. IsBetterValue goal (objective_in goal a) m → ⊥)
    by_said None is = tt
    by_said (Some m) is = said-true goal clause m a is t

said-nothing : (goal : Goal) (a : List ℤ) → IfSome (said_in goal []) (λ m. IsBetterValue goal (objective_in goal a) m → ⊥)
said-nothing goal a = tt

All-front : {X : Type 0} (P : X → Type 0) (xs : List X) (y : X) → AllByRecursion P (xs ++ y ∷ []) → AllByRecursion P xs × P y
All-front P [] y h = (tt, h.0)
All-front P (x ∷ xs) y h = let r = All-front P xs y h.1 in ((h.0, r.0), r.1)

front_of : {X : Type 0} (P : X → Type 0) (xs : List X) (y : X) → All P (xs ++ y ∷ []) → All P xs × P y
front_of P xs y h = let r = All-front P xs y (recursion_from_All P (xs ++ y ∷ []) h) in (All-from_recursion P xs r.0, r.1)

passes-first : (model : Model) (past : StepsPast) (step : Step) (a : List ℤ) → PassesCuts model (after_step model past step).solutions a → PassesCuts model past.solutions a
passes-first model past (Infer it) a passes = passes
passes-first model past (Resolve clause ids) a passes = passes
passes-first model past (Delete ids) a passes = passes
passes-first model past (Solution values) a passes = (front_of (λ m. is_clause_true a (cut_of model m) ≡ true) past.solutions values passes).0

passes-before : (model : Model) (past : StepsPast) (steps : List Step) (a : List ℤ) → PassesCuts model (fold (after_step model) past steps).solutions a → PassesCuts model past.solutions a
passes-before model past [] a passes = passes
passes-before model past (step ∷ later) a passes = passes-first model past step a (passes-before model (after_step model past step) later a passes)

-- what an accepted step says holds where all cuts so far are passed
step-says : (model : Model) (past : StepsPast) (step : Step) (a : List ℤ) → IsSound model (after_step model past step) → IsSolution model a → PassesCuts model (after_step model past step).solutions a
    → IfSome (said_in model.goal (clause_given step)) (λ m. IsBetterValue model.goal (objective_in model.goal a) m → ⊥)
step-says model past (Infer it) a sound solution passes =
    said-holds model.goal it.clause a ((front_of (λ held. IfSome held (λ c. is_clause_true a c ≡ true)) past.clauses (Some it.clause) (sound.clauses a solution passes)).1)
step-says model past (Resolve clause ids) a sound solution passes =
    said-holds model.goal clause a ((front_of (λ held. IfSome held (λ c. is_clause_true a c ≡ true)) past.clauses (Some clause) (sound.clauses a solution passes)).1)
step-says model past (Solution values) a sound solution passes = said-nothing model.goal a
step-says model past (Delete ids) a sound solution passes = said-nothing model.goal a

-- and what all of them say
steps-hold : (model : Model) (past : StepsPast) (steps : List Step) (bound : Option ℤ) (a : List ℤ) → IsWellFormed model → IsSound model past → AllAcceptedAfter model past steps → IsSolution model a
    → PassesCuts model (fold (after_step model) past steps).solutions a → Holds model.goal a bound → Holds model.goal a (fold (bound_after model.goal) bound steps)
steps-hold model past [] bound a wf sound accepted solution passes holds = holds
steps-hold model past (step ∷ later) bound a wf sound accepted solution passes holds =
    let next = sound-after model past step wf sound accepted.0 in
    let so_far = passes-before model (after_step model past step) later a passes in
    steps-hold model (after_step model past step) later (bound_after model.goal bound step) a wf next accepted.1 solution passes
    (holds-more model.goal a bound (said_in model.goal (clause_given step)) holds (step-says model past step a next solution so_far))

-- a value of the declared set
inside : (model : Model) (var : VarId) (a : List ℤ) → IsAssignment model a → (1 ≤ var.0) × (var.0 ≤ length model.vars) → contains (set_of (declared_sets model.vars) var) (value_of a var) ≡ true
inside model var a within is_var = let count = length-map model.vars (λ (v : Var). v.domain) in within.inside (var.0 - 1) (omega (arith, count, is_var.0, is_var.1))

end-holds : (model : Model) (goal : Goal) (bound : Option ℤ) (a : List ℤ) → (goal ≡ Satisfy → ⊥) → IsGoal (length model.vars) goal → IsAssignment model a → IsBestDeclared goal model.vars bound → Holds goal a bound
end-holds model Satisfy bound a other is_goal within end = absurd (other refl)
end-holds model (Minimize var) None a other is_goal within end = let e = end (value_of a var) in let i = inside model var a within is_goal in cc
end-holds model (Minimize var) (Some f) a other is_goal within end = λ better. let le = end.1 (value_of a var) (inside model var a within is_goal) in omega (arith, ints, le, better)
end-holds model (Maximize var) None a other is_goal within end = let e = end (value_of a var) in let i = inside model var a within is_goal in cc
end-holds model (Maximize var) (Some f) a other is_goal within end = λ better. let le = end.1 (value_of a var) (inside model var a within is_goal) in omega (arith, ints, le, better)

-- ---- what is known at the end

-- these solutions were found, and no solution that passes all their cuts is better than the bound
pub record HasFound (model : Model) (found : List (List ℤ)) (closed : Bool) (bound : Option ℤ) : Type 0 where
  pub cuts : AllPairs (λ earlier later. is_clause_true later (cut_of model earlier) ≡ true) found
  pub exhausted : closed ≡ true → IsExhausted model found
  pub holds : (a : List ℤ) → IsSolution model a → PassesCuts model found a → Holds model.goal a bound

pub has-found : (model : Model) (steps : List Step) (past : StepsPast) (closed : Bool) (bound : Option ℤ) → IsWellFormed model → (model.goal ≡ Satisfy → ⊥) → AllAcceptedAfter model no_past steps → past ≡ fold (after_step model) no_past steps
    → IsSound model past → (closed ≡ true → IsExhausted model past.solutions) → IsBoundBy model steps bound → HasFound model past.solutions closed bound
has-found model steps past closed bound wf other accepted is sound exhausted by = record {
  cuts = sound.cuts;
  exhausted = exhausted;
  holds = λ a solution passes. subst (Holds model.goal a) (sym by.is)
      (steps-hold model no_past steps by.first a wf (sound-start model) accepted solution (subst (λ (p : StepsPast). PassesCuts model p.solutions a) is passes)
      (end-holds model model.goal by.first a other wf.goal solution.0 by.end));
}

better-for : (goal : Goal) (a b : List ℤ) → IsBetterValue goal (objective_in goal a) (objective_in goal b) → IsBetterFor goal a b
better-for Satisfy a b better = better
better-for (Minimize var) a b better = better
better-for (Maximize var) a b better = better

weaker-first : (goal : Goal) (x b u : ℤ) → IsBetterValue goal x (weaker goal b u) → IsBetterValue goal x b
weaker-first Satisfy x b u better = better
weaker-first (Minimize var) x b u better = let is = int_min_is b u in omega (arith, ints)
weaker-first (Maximize var) x b u better = let is = int_max_is b u in omega (arith, ints)

weaker-second : (goal : Goal) (x b u : ℤ) → IsBetterValue goal x (weaker goal b u) → IsBetterValue goal x u
weaker-second Satisfy x b u better = better
weaker-second (Minimize var) x b u better = let is = int_min_is b u in omega (arith, ints)
weaker-second (Maximize var) x b u better = let is = int_max_is b u in omega (arith, ints)

covered : (model : Model) (first : List ℤ) (rest : List (List ℤ)) (a : List ℤ) → (model.goal ≡ Satisfy → ⊥) → IsExhausted model (first ∷ rest) → IsSolution model a
    → IsBetterFor model.goal a (get_or (first ∷ rest) (length (first ∷ rest) - 1) []) → ⊥
covered model first rest a other exhausted solution better = by_goal model.goal refl
  where
    by_goal : (goal : Goal) → model.goal ≡ goal → ⊥
    by_goal Satisfy is = other is
    by_goal (Minimize var) is = subst (λ (g : Goal). IsCovered g model.outputs (first ∷ rest) a) is (exhausted a solution) (subst (λ (g : Goal). IsBetterFor g a (get_or (first ∷ rest) (length (first ∷ rest) - 1) [])) is better)
    by_goal (Maximize var) is = subst (λ (g : Goal). IsCovered g model.outputs (first ∷ rest) a) is (exhausted a solution) (subst (λ (g : Goal). IsBetterFor g a (get_or (first ∷ rest) (length (first ∷ rest) - 1) [])) is better)

true_of-found : (model : Model) (found : List (List ℤ)) (closed : Bool) (bound : Option ℤ) → (model.goal ≡ Satisfy → ⊥) → HasFound model found closed bound → IsTrueOf model found closed (found_of model.goal found closed bound)
true_of-found model [] true bound other has = (other, has.exhausted refl)
true_of-found model [] false None other has = (other, λ a solution. has.holds a solution (All-nil (λ m. is_clause_true a (cut_of model m) ≡ true)))
true_of-found model [] false (Some b) other has = (other, refl, refl, λ a solution. has.holds a solution (All-nil (λ m. is_clause_true a (cut_of model m) ≡ true)))
true_of-found model (first ∷ rest) true bound other has =
    let last = get_or (first ∷ rest) (length (first ∷ rest) - 1) [] in
    (other, refl, (omega arith, refl), λ a solution better. covered model first rest a other (has.exhausted refl) solution (better-for model.goal a last better))
true_of-found model (first ∷ rest) false bound other has =
    let last = get_or (first ∷ rest) (length (first ∷ rest) - 1) [] in
    let best = objective_in model.goal last in
    let last_is : get_or (first ∷ rest) (length (first ∷ rest) - 1) last ≡ last = get_or_default (first ∷ rest) (length (first ∷ rest) - 1) last [] (omega arith) in
    let passes : (a : List ℤ) → IsBetterValue model.goal (objective_in model.goal a) best → PassesCuts model (first ∷ rest) a =
    λ a better. passes-better model.goal model.outputs (first ∷ rest) last a other has.cuts last_is (better-for model.goal a last better) in
    let beyond : (limit : Option ℤ) → bound ≡ limit → (a : List ℤ) → IsSolution model a → IsBetterValue model.goal (objective_in model.goal a) (weaker model.goal best (unwrap_or limit best)) → ⊥ =
    λ limit is a solution better.
    let h = subst (Holds model.goal a) is (has.holds a solution (passes a (weaker-first model.goal (objective_in model.goal a) best (unwrap_or limit best) better))) in
    past_bound model.goal a limit best h (weaker-second model.goal (objective_in model.goal a) best (unwrap_or limit best) better) in
    (other, refl, (omega arith, refl), beyond bound refl)
  where
    past_bound : (goal : Goal) (a : List ℤ) (limit : Option ℤ) (best : ℤ) → Holds goal a limit → IsBetterValue goal (objective_in goal a) (unwrap_or limit best) → ⊥
    past_bound goal a None best h better = h
    past_bound goal a (Some b) best h better = h better

by-goal : (model : Model) (P : Known → Type 0) (found : List (List ℤ)) (closed : Bool) (bound : Option ℤ) → (model.goal ≡ Satisfy → P NoObjective) → ((model.goal ≡ Satisfy → ⊥) → P (found_of model.goal found closed bound)) → P (known_after model.goal found closed bound)
by-goal model P found closed bound satisfy other = by_cases model.goal refl
  where
    by_cases : (goal : Goal) → model.goal ≡ goal → P (known_after goal found closed bound)
    by_cases Satisfy is = satisfy is
    by_cases (Minimize var) is = subst (λ (g : Goal). P (found_of g found closed bound)) is (other (λ e. clash (sym is ∙ e)))
      where
        clash : Minimize var ≡ Satisfy → ⊥
        clash e = cc
    by_cases (Maximize var) is = subst (λ (g : Goal). P (found_of g found closed bound)) is (other (λ e. clash (sym is ∙ e)))
      where
        clash : Maximize var ≡ Satisfy → ⊥
        clash e = cc

pub found_of-none : (goal : Goal) (found : List (List ℤ)) (closed : Bool) (bound : Option ℤ) → length found ≡ 0 → found_of goal found closed bound ≡ unsolved closed bound
found_of-none goal [] closed bound none = refl
found_of-none goal (first ∷ rest) closed bound none = absurd (omega (arith, none))

pub found_of-last : (goal : Goal) (found : List (List ℤ)) (last : List ℤ) (closed : Bool) (bound : Option ℤ) → 0 < length found → get_or found (length found - 1) last ≡ last
    → found_of goal found closed bound ≡ solved goal closed bound (objective_in goal last)
found_of-last goal [] last closed bound some is = absurd (omega (arith, some))
found_of-last goal (first ∷ rest) last closed bound some is =
    ap (λ (l : List ℤ). solved goal closed bound (objective_in goal l)) (get_or_default (first ∷ rest) (length (first ∷ rest) - 1) [] last (omega arith) ∙ is)

-- what is known is true
pub known-true : (model : Model) (found : List (List ℤ)) (closed : Bool) (bound : Option ℤ) → ((model.goal ≡ Satisfy → ⊥) → HasFound model found closed bound) → IsTrueOf model found closed (known_after model.goal found closed bound)
known-true model found closed bound has = by-goal model (IsTrueOf model found closed) found closed bound (λ is. is) (λ other. true_of-found model found closed bound other (has other))

weaker-one : (goal : Goal) (b u : ℤ) → (weaker goal b u ≡ b) ⊎ (weaker goal b u ≡ u)
weaker-one Satisfy b u = inl refl
weaker-one (Minimize var) b u = grind (arith, ints)
weaker-one (Maximize var) b u = grind (arith, ints)

strong-solved : (model : Model) (steps : List Step) (closed : Bool) (bound : Option ℤ) (best : ℤ) → (model.goal ≡ Satisfy → ⊥) → IsBoundBy model steps bound → IsStrong model steps (solved model.goal closed bound best)
strong-solved model steps true bound best other by = tt
strong-solved model steps false None best other by = inl (elim (weaker-one model.goal best best) [ inl is ↦ is | inr is ↦ is ])
strong-solved model steps false (Some b) best other by = elim (weaker-one model.goal best b) [
  | inl is ↦ inl is
  | inr is ↦ inr (subst (IsStrongest model steps) (sym is) (strongest model steps b other by))
]

strong-found : (model : Model) (steps : List Step) (found : List (List ℤ)) (closed : Bool) (bound : Option ℤ) → (model.goal ≡ Satisfy → ⊥) → IsBoundBy model steps bound → IsStrong model steps (found_of model.goal found closed bound)
strong-found model steps [] true bound other by = tt
strong-found model steps [] false None other by = tt
strong-found model steps [] false (Some b) other by = strongest model steps b other by
strong-found model steps (first ∷ rest) closed bound other by = strong-solved model steps closed bound (objective_in model.goal (get_or (first ∷ rest) (length (first ∷ rest) - 1) [])) other by

-- and as strong as the steps make it
pub known-strong : (model : Model) (steps : List Step) (found : List (List ℤ)) (closed : Bool) (bound : Option ℤ) → IsBoundBy model steps bound → IsStrong model steps (known_after model.goal found closed bound)
known-strong model steps found closed bound by = by-goal model (IsStrong model steps) found closed bound (λ is. tt) (λ other. strong-found model steps found closed bound other by)

-- ---- derived constraints change none of it

true-of : (model : Model) (constraints : List Constraint) (found : List (List ℤ)) (closed : Bool) (known : Known) → ((a : List ℤ) → IsSolution model a → IsSolution (with_constraints model constraints) a) → IsTrueOf (with_constraints model constraints) found closed known → IsTrueOf model found closed known
true-of model constraints found closed NoObjective more h = h
true-of model constraints found closed NoSolution more h = (h.0, λ a solution. h.1 a (more a solution))
true-of model constraints found closed (Unsolved bound) more h = (h.0, h.1, h.2, λ a solution. h.3 a (more a solution))
true-of model constraints found closed (Open best bound) more h = (h.0, h.1, h.2, λ a solution. h.3 a (more a solution))
true-of model constraints found closed (Closed best) more h = (h.0, h.1, h.2, λ a solution. h.3 a (more a solution))

strong-of : (model : Model) (constraints : List Constraint) (steps : List Step) (known : Known) → IsStrong (with_constraints model constraints) steps known → IsStrong model steps known
strong-of model constraints steps NoObjective h = tt
strong-of model constraints steps NoSolution h = tt
strong-of model constraints steps (Unsolved bound) h = h
strong-of model constraints steps (Open best bound) h = h
strong-of model constraints steps (Closed best) h = tt

module _ (model after : Model) (extended : IsExtended model after) where
  others : (constraints : List Constraint) × (after ≡ with_constraints model constraints)
  others = only_constraints model after extended.0 extended.1

  -- what is true of the model with them is true of the model
  pub true-before : (found : List (List ℤ)) (closed : Bool) (known : Known) → ((a : List ℤ) → IsSolution model a → IsSolution after a) → IsTrueOf after found closed known → IsTrueOf model found closed known
  true-before found closed known more h =
      true-of model others.0 found closed known (λ a solution. subst (λ (m : Model). IsSolution m a) others.1 (more a solution)) (subst (λ (m : Model). IsTrueOf m found closed known) others.1 h)

  -- and as strong
  pub strong-before : (steps : List Step) (known : Known) → IsStrong after steps known → IsStrong model steps known
  strong-before steps known h = strong-of model others.0 steps known (subst (λ (m : Model). IsStrong m steps known) others.1 h)
