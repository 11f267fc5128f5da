-- Variables that are told apart two by two are all different.
use Rattle.std.proofs.Common.{◌≡◌, ◌≢◌, ℕ, zero, suc, ◌-◌, ◌<◌, List, [], ◌∷◌, ◌++◌, length, get_or, map, refl, sym, ap, subst, ◌∙◌, ◌⊎◌, inl, inr, ⊎_elim, arith, ℤ, pos, negsuc, ◌+ℤ◌, ◌*ℤ◌, Option, Some, None, IfSome, IsSomeAnd, slice_get}
use Rattle.std.specs.List.{All, AllByRecursion, zip}
use Rattle.std.proofs.lemmas.Int.{ints}
use Rattle.std.proofs.lemmas.Option.{slice_get_within, get_or_from_slice_get}
use Rattle.std.proofs.lemmas.List.{get_or-map, get_or_default, length-map}
use Rattle.std.proofs.lemmas.List.Elements.{recursion_from_All, All-from_recursion, All-map, All-nil}
use Rattle.std.proofs.lemmas.List.Kept.{AllPairs-cons}
use Rattle.std.proofs.Math.IntN.{zero-*ℤ, pos-*ℤ-pos, pos-*ℤ-negsuc, negsuc-*ℤ-pos, negsuc-*ℤ-negsuc}
use Rattle.fzn_domain.specs.declared.literal.VarId.{VarId}
use Rattle.fzn_domain.specs.IntSet.{IntSet}
use Rattle.fzn_domain.specs.Narrow.{IsVariable, value_of}
use Rattle.fzn_values.specs.declared.term.Term.{Term}
use Rattle.fzn_values.specs.declared.term.Term.TheVariants.{Variable}
use Rattle.fzn_values.specs.declared.term.Place.{Place}
use Rattle.fzn_meaning.specs.declared.relation.Relation.TheVariants as relation
use Rattle.fzn_meaning.specs.declared.relation.Comparison.TheVariants as comparison
use Rattle.fzn_meaning.specs.declared.constraint.Constraint.{Constraint}
use Rattle.fzn_meaning.specs.declared.constraint.Constraint.TheVariants as constraint
use Rattle.fzn_values.specs.Term.{term_value, values_of, sum_at, IsTerm}
use Rattle.fzn_values.specs.Entries.{IsIndex, entry_at}
use Rattle.fzn_values.specs.AllDifferent.{IsAllDifferent}
use Rattle.fzn_values.specs.Inverse.{IsInverse}
use Rattle.fzn_meaning.specs.Meaning.{Meets, IsWellFormedConstraint, AreTerms, HasBooleanSets, IsBoolean, booleans_of}
use Rattle.fzn_values.proofs.CircuitLemmas.{circuit-different}
use Rattle.fzn_cited.specs.declared.fault.DeriveFault.{DeriveFault}
use Rattle.fzn_cited.specs.declared.fault.DeriveFault.TheVariants as faults
use Rattle.fzn_cited.specs.Cited.{constraint_at}
use Rattle.fzn_cited.proofs.CitedLemmas.{IsCitedMet, each_at, HoldsUpTo-none, HoldsUpTo-all, HoldsUpTo-one, cited-not_wrong, wrong-one}
use Rattle.fzn_derive.specs.Apart.{StandApart, CancelOut, TellsApart, two_by_two, pairs_cited, IsPairTold, IsPairWrong, IsPairsFault, HasOneForEachTwo, AreToldApart, IsApartFault}

-- ---- one constraint

-- variables at two places of terms with different values
stand-different : (values : List ℤ) (terms : List Term) (x y : VarId) → IsAllDifferent (values_of values terms) → StandApart terms x y → value_of values x ≢ value_of values y
stand-different values terms x y different (i, j, apart, at_i, at_j) same =
    ⊎_elim (λ below. different i j (pos 0) below (inside j y at_j) (value i x at_i ∙ same ∙ sym (value j y at_j))) (λ below. different j i (pos 0) below (inside i x at_i) (value j y at_j ∙ sym same ∙ sym (value i x at_i))) (either i j apart)
  where
    either : (i j : ℕ) → i ≢ j → (i < j) ⊎ (j < i)
    either i j apart = grind arith

    inside : (k : ℕ) (v : VarId) → slice_get terms k ≡ Some (Variable v) → k < length (values_of values terms)
    inside k v at = omega (arith, slice_get_within terms k (Variable v) at, length-map terms (term_value values))

    value : (k : ℕ) (v : VarId) → slice_get terms k ≡ Some (Variable v) → get_or (values_of values terms) k (pos 0) ≡ value_of values v
    value k v at = get_or-map (term_value values) terms k (Variable v) (pos 0) (slice_get_within terms k (Variable v) at) ∙ ap (term_value values) (get_or_from_slice_get terms k (Variable v) (Variable v) at)

two-different : (u v : ℤ) → u ≢ v → IsAllDifferent (u ∷ v ∷ [])
two-different u v differ zero (suc zero) d i j same = differ same
two-different u v differ zero zero d i j same = absurd (omega arith)
two-different u v differ (suc k) (suc zero) d i j same = absurd (omega arith)
two-different u v differ (suc k) zero d i j same = absurd (omega arith)
two-different u v differ k (suc (suc l)) d i j same = absurd (omega arith)

-- products of one number with opposite ones
products_cancel : (n : ℕ) (u : ℤ) → pos (suc n) *ℤ u +ℤ negsuc n *ℤ u ≡ pos 0
products_cancel n (pos m) = let a = pos-*ℤ-pos (suc n) m in let b = negsuc-*ℤ-pos n m in omega (arith, ints)
products_cancel n (negsuc m) = let a = pos-*ℤ-negsuc (suc n) m in let b = negsuc-*ℤ-negsuc n m in omega (arith, ints)

opposite_cancel : (a b u : ℤ) → a +ℤ b ≡ pos 0 → (pos 0 +ℤ a *ℤ u) +ℤ b *ℤ u ≡ pos 0
opposite_cancel (pos zero) b u e =
    let none : b ≡ pos 0 = omega (arith, ints) in
    let first = zero-*ℤ u in
    let second = ap (λ (c : ℤ). c *ℤ u) none in
    omega (arith, ints)
opposite_cancel (pos (suc n)) b u e =
    let is : b ≡ negsuc n = omega (arith, ints) in
    let both = products_cancel n u in
    let second = ap (λ (c : ℤ). c *ℤ u) is in
    omega (arith, ints)
opposite_cancel (negsuc n) b u e =
    let is : b ≡ pos (suc n) = omega (arith, ints) in
    let both = products_cancel n u in
    let second = ap (λ (c : ℤ). c *ℤ u) is in
    omega (arith, ints)

opposite-different : (values : List ℤ) (places : List Place) (bound : ℤ) → CancelOut places → bound ≡ pos 0 → sum_at values places ≢ bound → IsAllDifferent (values_of values (map (λ (place : Place). place.term) places))
opposite-different values (first ∷ second ∷ []) bound opposite none differ =
    two-different (term_value values first.term) (term_value values second.term) (λ same. differ (
    ap (λ (u : ℤ). (pos 0 +ℤ first.coefficient *ℤ u) +ℤ second.coefficient *ℤ term_value values second.term) same
    ∙ opposite_cancel first.coefficient second.coefficient (term_value values second.term) opposite.0 ∙ sym none
    ))
opposite-different values [] bound opposite none differ = absurd opposite
opposite-different values (first ∷ []) bound opposite none differ = absurd opposite
opposite-different values (first ∷ second ∷ third ∷ rest) bound opposite none differ = absurd opposite

-- ---- inverse lists

entry_at-get : (xs : List ℤ) (k : ℕ) (d : ℤ) → k < length xs → entry_at xs (pos (suc k)) ≡ get_or xs k d
entry_at-get xs k d lt = let e : suc k - 1 ≡ k = omega arith in rw e (get_or_default xs k (pos 0) d lt)

index : (n m k : ℕ) → k < n → n ≡ m → IsIndex m (pos (suc k))
index n m k lt e = (omega (arith, ints), omega (arith, ints))

inverse-flip : (forward backward : List ℤ) → IsInverse forward backward → IsInverse backward forward
inverse-flip forward backward h = record {
  forward_places = h.backward_places;
  backward_places = h.forward_places;
  inverse = λ i j pi pj. let e = h.inverse j i pj pi in (e.1, e.0);
}

inverse-different : (forward backward : List ℤ) → length backward ≡ length forward → IsInverse forward backward → IsAllDifferent forward
inverse-different f g same h i j d l m e =
    let v : ℤ = get_or f j d in
    let place = h.forward_places j d m in
    let vg : IsIndex (length g) (get_or f j d) = (place.0, omega (arith, ints, place.1)) in
    let at_i = (h.inverse (pos (suc i)) v (index (length f) (length f) i (omega arith) refl) vg).0 (entry_at-get f i d (omega arith) ∙ e) in
    let at_j = (h.inverse (pos (suc j)) v (index (length f) (length f) j (omega arith) refl) vg).0 (entry_at-get f j d m) in
    let same_place : pos (suc i) ≡ pos (suc j) = sym at_i ∙ at_j in
    absurd (omega (arith, ints))

-- ---- what each constraint says

-- values that meet the constraint differ at two variables that it tells apart
pub told-different : (values : List ℤ) (count : ℕ) (c : Constraint) (x y : VarId) → IsWellFormedConstraint count c → Meets c values → TellsApart c x y → value_of values x ≢ value_of values y
unfolding Meets IsWellFormedConstraint TellsApart
told-different values count (constraint.Compare relation.NotEqual left right None) x y formed meets told = stand-different values (left ∷ right ∷ []) x y (two-different (term_value values left) (term_value values right) meets) told
told-different values count (constraint.Linear places comparison.NotEqual bound None) x y formed meets told = stand-different values (map (λ (place : Place). place.term) places) x y (opposite-different values places bound told.0 told.1 meets) told.2
told-different values count (constraint.AllDifferent places) x y formed meets told = stand-different values places x y meets told
told-different values count (constraint.Circuit successors) x y formed meets told = stand-different values successors x y (circuit-different (values_of values successors) meets) told
told-different values count (constraint.Inverse forward backward) x y formed meets told =
    let same : length (values_of values backward) ≡ length (values_of values forward) = length-map backward (term_value values) ∙ formed.2 ∙ sym (length-map forward (term_value values)) in
    ⊎_elim (stand-different values forward x y (inverse-different (values_of values forward) (values_of values backward) same meets)) (stand-different values backward x y (inverse-different (values_of values backward) (values_of values forward) (sym same) (inverse-flip (values_of values forward) (values_of values backward) meets))) told
told-different values count _ x y formed meets told = absurd told

-- ---- two by two

-- the two of a pair have different values
abbrev pub Differ : List ℤ → VarId × VarId → Type 0
Differ values pair = value_of values pair.0 ≢ value_of values pair.1

pair-differs : (given : List Constraint) (values : List ℤ) (count : ℕ) (pair : VarId × VarId) (id : ℕ) → All (IsWellFormedConstraint count) given → IsCitedMet given values id → IsPairTold given (pair, id) → Differ values pair
pair-differs given values count pair id formed met = by_constraint (constraint_at given id) (each_at (IsWellFormedConstraint count) given id formed) met
  where
    by_constraint : (found : Option Constraint) → IfSome found (IsWellFormedConstraint count) → IfSome found (λ constraint. Meets constraint values) → IsSomeAnd found (λ constraint. TellsApart constraint pair.0 pair.1) → Differ values pair
    by_constraint None formed met told = absurd told
    by_constraint (Some c) formed met told = told-different values count c pair.0 pair.1 formed met told

pairs-differ : (given : List Constraint) (values : List ℤ) (count : ℕ) (pairs : List (VarId × VarId)) (ids : List ℕ) → All (IsWellFormedConstraint count) given → length ids ≡ length pairs → AllByRecursion (IsCitedMet given values) ids → AllByRecursion (IsPairTold given) (zip pairs ids) → AllByRecursion (Differ values) pairs
pairs-differ given values count [] ids formed same met told = tt
pairs-differ given values count (pair ∷ pairs) [] formed same met told = absurd (omega arith)
pairs-differ given values count (pair ∷ pairs) (id ∷ ids) formed same met told = (pair-differs given values count pair id formed met.0 told.0, pairs-differ given values count pairs ids formed (omega arith) met.1 told.1)

all-different : (values : List ℤ) (variables : List VarId) → AllByRecursion (Differ values) (two_by_two variables) → IsAllDifferent (values_of values (map Variable variables))
all-different values [] differ = λ i j d below inside. absurd (omega arith)
all-different values (x ∷ xs) differ =
    let parts = split (map (λ (y : VarId). (x, y)) xs) (two_by_two xs) differ in
    AllPairs-cons (λ (u v : ℤ). u ≢ v) (value_of values x) (values_of values (map Variable xs)) (All-from_recursion (λ (v : ℤ). value_of values x ≢ v) (values_of values (map Variable xs)) (firsts xs parts.0)) (all-different values xs parts.1)
  where
    split : (ps qs : List (VarId × VarId)) → AllByRecursion (Differ values) (ps ++ qs) → AllByRecursion (Differ values) ps × AllByRecursion (Differ values) qs
    split [] qs h = (tt, h)
    split (p ∷ ps) qs h = let rest = split ps qs h.1 in ((h.0, rest.0), rest.1)

    firsts : (ys : List VarId) → AllByRecursion (Differ values) (map (λ (y : VarId). (x, y)) ys) → AllByRecursion (λ (v : ℤ). value_of values x ≢ v) (values_of values (map Variable ys))
    firsts [] h = tt
    firsts (y ∷ ys) h = (h.0, firsts ys h.1)

-- ---- the laws

-- values that meet every constraint that is cited meet the derived one
pub apart-met : (given : List Constraint) (count : ℕ) (variables : List VarId) (ids : List ℕ) (c : Constraint) (values : List ℤ) → All (IsWellFormedConstraint count) given → AreToldApart given count variables ids c → All (IsCitedMet given values) ids → Meets c values
unfolding Meets
apart-met given count variables ids (constraint.AllDifferent places) values formed apart met =
    let told = recursion_from_All (IsPairTold given) (pairs_cited variables ids) apart.2 in
    let met_each = recursion_from_All (IsCitedMet given values) ids met in
    let different = all-different values variables (pairs-differ given values count (two_by_two variables) ids formed apart.1.1 met_each told) in
    subst (λ (terms : List Term). IsAllDifferent (values_of values terms)) (sym apart.3) different
apart-met given count variables ids _ values formed apart met = absurd apart

-- what is wrong with a pair is wrong with them all, where they are variables and counted
pub pairs-fault : (given : List Constraint) (count : ℕ) (variables : List VarId) (ids : List ℕ) (fault : DeriveFault) → All (IsVariable count) variables → HasOneForEachTwo variables ids → IsPairsFault given (pairs_cited variables ids) fault → IsApartFault given count variables ids fault
pairs-fault given count variables ids faults.Memory vars one_each h = absurd (HoldsUpTo-none (IsPairTold given) (IsPairWrong given faults.Memory) (pairs_cited variables ids) (λ (pair, id) wrong. wrong) h)
pairs-fault given count variables ids faults.NoSuchVariable vars one_each h = absurd (HoldsUpTo-none (IsPairTold given) (IsPairWrong given faults.NoSuchVariable) (pairs_cited variables ids) (λ (pair, id) wrong. wrong) h)
pairs-fault given count variables ids faults.NoSuchConstraint vars one_each h = (vars, one_each, h)
pairs-fault given count variables ids faults.NotDerived vars one_each h = (vars, inr (one_each, h))

-- the derived constraint is well formed, and has no Boolean terms
pub apart-formed : (given : List Constraint) (count : ℕ) (variables : List VarId) (ids : List ℕ) (c : Constraint) → AreToldApart given count variables ids c → IsWellFormedConstraint count c
unfolding IsWellFormedConstraint
apart-formed given count variables ids (constraint.AllDifferent places) apart = subst (AreTerms count) (sym apart.3) (All-map (IsTerm count) Variable variables apart.0, omega (arith, length-map variables Variable, apart.1.0))
apart-formed given count variables ids _ apart = absurd apart

pub apart-Boolean : (given : List Constraint) (count : ℕ) (variables : List VarId) (ids : List ℕ) (c : Constraint) (declared : List IntSet) → AreToldApart given count variables ids c → HasBooleanSets declared c
unfolding booleans_of
apart-Boolean given count variables ids (constraint.AllDifferent places) declared apart = All-nil (IsBoolean declared)
apart-Boolean given count variables ids _ declared apart = absurd apart

-- one derivation gives one constraint
pub apart-one : (given : List Constraint) (count : ℕ) (variables : List VarId) (ids : List ℕ) (c d : Constraint) → AreToldApart given count variables ids c → AreToldApart given count variables ids d → c ≡ d
apart-one given count variables ids (constraint.AllDifferent places) (constraint.AllDifferent others) first second = ap constraint.AllDifferent (first.3 ∙ sym second.3)
apart-one given count variables ids (constraint.AllDifferent places) _ first second = absurd second
apart-one given count variables ids _ d first second = absurd first

pair-not_wrong : (given : List Constraint) (fault : DeriveFault) (pair : (VarId × VarId) × ℕ) → IsPairTold given pair → IsPairWrong given fault pair → ⊥
pair-not_wrong given fault (pair, id) told wrong = cited-not_wrong (λ (c : Constraint). TellsApart c pair.0 pair.1) given id fault told wrong

pair-one_wrong : (given : List Constraint) (e f : DeriveFault) (pair : (VarId × VarId) × ℕ) → IsPairWrong given e pair → IsPairWrong given f pair → e ≡ f
pair-one_wrong given e f (pair, id) first second = wrong-one (λ (c : Constraint). TellsApart c pair.0 pair.1) given id e f first second

-- or one fault
pub apart-no_fault : (given : List Constraint) (count : ℕ) (variables : List VarId) (ids : List ℕ) (c : Constraint) (fault : DeriveFault) → AreToldApart given count variables ids c → IsApartFault given count variables ids fault → ⊥
apart-no_fault given count variables ids (constraint.AllDifferent places) faults.Memory apart wrong = wrong
apart-no_fault given count variables ids (constraint.AllDifferent places) faults.NoSuchVariable apart wrong = wrong apart.0
apart-no_fault given count variables ids (constraint.AllDifferent places) faults.NoSuchConstraint apart wrong = HoldsUpTo-all (IsPairTold given) (IsPairWrong given faults.NoSuchConstraint) (pairs_cited variables ids) (pair-not_wrong given faults.NoSuchConstraint) apart.2 wrong.2
apart-no_fault given count variables ids (constraint.AllDifferent places) faults.NotDerived apart wrong =
    ⊎_elim (λ none. none apart.1) (λ pairs. HoldsUpTo-all (IsPairTold given) (IsPairWrong given faults.NotDerived) (pairs_cited variables ids) (pair-not_wrong given faults.NotDerived) apart.2 pairs.1) wrong.1
apart-no_fault given count variables ids _ fault apart wrong = apart

-- what is wrong beside the variables, as one relation
PairsFault : List Constraint → List VarId → List ℕ → DeriveFault → Type 0
PairsFault given variables ids fault = ((fault ≡ faults.NotDerived) × ¬ HasOneForEachTwo variables ids) ⊎ (HasOneForEachTwo variables ids × IsPairsFault given (pairs_cited variables ids) fault)

pairs-one : (given : List Constraint) (variables : List VarId) (ids : List ℕ) (e f : DeriveFault) → PairsFault given variables ids e → PairsFault given variables ids f → e ≡ f
unfolding PairsFault
pairs-one given variables ids e f (inl a) (inl b) = a.0 ∙ sym b.0
pairs-one given variables ids e f (inl a) (inr b) = absurd (a.1 b.0)
pairs-one given variables ids e f (inr a) (inl b) = absurd (b.1 a.0)
pairs-one given variables ids e f (inr a) (inr b) = HoldsUpTo-one (IsPairTold given) (IsPairWrong given e) (IsPairWrong given f) (e ≡ f) (pairs_cited variables ids) (pair-not_wrong given e) (pair-not_wrong given f) (pair-one_wrong given e f) a.1 b.1

-- a fault is of the variables, or they are fine and it is of the pairs
fault-parts : (given : List Constraint) (count : ℕ) (variables : List VarId) (ids : List ℕ) (fault : DeriveFault) → IsApartFault given count variables ids fault → ((fault ≡ faults.NoSuchVariable) × ¬ All (IsVariable count) variables) ⊎ (All (IsVariable count) variables × PairsFault given variables ids fault)
unfolding PairsFault
fault-parts given count variables ids faults.Memory wrong = absurd wrong
fault-parts given count variables ids faults.NoSuchVariable wrong = inl (refl, wrong)
fault-parts given count variables ids faults.NoSuchConstraint wrong = inr (wrong.0, inr (wrong.1, wrong.2))
fault-parts given count variables ids faults.NotDerived wrong = inr (wrong.0, ⊎_elim (λ none. inl (refl, none)) (λ pairs. inr (pairs.0, pairs.1)) wrong.1)

pub apart-one_fault : (given : List Constraint) (count : ℕ) (variables : List VarId) (ids : List ℕ) (e f : DeriveFault) → IsApartFault given count variables ids e → IsApartFault given count variables ids f → e ≡ f
apart-one_fault given count variables ids e f first second = by_parts (fault-parts given count variables ids e first) (fault-parts given count variables ids f second)
  where
    by_parts : ((e ≡ faults.NoSuchVariable) × ¬ All (IsVariable count) variables) ⊎ (All (IsVariable count) variables × PairsFault given variables ids e) → ((f ≡ faults.NoSuchVariable) × ¬ All (IsVariable count) variables) ⊎ (All (IsVariable count) variables × PairsFault given variables ids f) → e ≡ f
    by_parts (inl a) (inl b) = a.0 ∙ sym b.0
    by_parts (inl a) (inr b) = absurd (a.1 b.0)
    by_parts (inr a) (inl b) = absurd (b.1 a.0)
    by_parts (inr a) (inr b) = pairs-one given variables ids e f a.1 b.1
