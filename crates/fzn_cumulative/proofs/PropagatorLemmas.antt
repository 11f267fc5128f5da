-- Where no clause is left and all variables are fixed, the tasks keep the capacity.
use Rattle.std.proofs.Common.{◌≡◌, ℕ, zero, suc, ◌<◌, Bool, true, false, cond, ◌&&◌, List, [], ◌∷◌, length, get_or, refl, sym, ap, ap₂, subst, ◌∙◌, inl, inr, arith, ℤ, pos, negsuc, ◌+ℤ◌, ◌≤ℤ◌, ◌<ℤ◌, All, int_le, int_lt}
use Rattle.std.specs.Int.{int_max}
use Rattle.std.proofs.lemmas.Int.{ints}
use Rattle.std.proofs.lemmas.Bool.{true≢false}
use Rattle.std.proofs.lemmas.List.{get_or_default, length-map}
use Rattle.std.proofs.lemmas.List.Elements.{All-head, All-tail, All-get_or}
use Rattle.fzn_domain.specs.declared.literal.Lit.{Lit}
use Rattle.fzn_domain.specs.declared.literal.Op.TheVariants.{AtMost}
use Rattle.fzn_domain.specs.IntSet.{IntSet}
use Rattle.fzn_domain.specs.Limits.{IsInLimits}
use Rattle.fzn_domain.specs.Narrow.{IsWithin}
use Rattle.fzn_values.specs.declared.term.Term.{Term}
use Rattle.fzn_values.specs.declared.term.Term.TheVariants.{Constant}
use Rattle.fzn_meaning.specs.declared.constraint.Constraint.{Constraint}
use Rattle.fzn_meaning.specs.declared.constraint.Constraint.TheVariants.{Cumulative}
use Rattle.fzn_values.specs.Cumulative.{tasks, load_at, IsCumulative}
use Rattle.fzn_values.specs.Term.{IsTerm, term_value, values_of}
use Rattle.fzn_meaning.specs.Meaning.{Meets, IsWellFormedConstraint}
use Rattle.fzn_values.proofs.CallerLemmas.{All-values_of}
use Rattle.fzn_values.proofs.CumulativeLemmas.{cumulative_from}
use Rattle.fzn_sets.proofs.CallerLemmas.{MayBe-term_value}
use Rattle.fzn_sets.proofs.ValueLemmas.{MayBe-ends}
use Rattle.fzn_sets.specs.Terms.{least_value, greatest_value}
use Rattle.fzn_rules.specs.declared.rule.Rule.TheVariants.{Rows}
use Rattle.fzn_rules.specs.Rules.{IsMet}
use Rattle.fzn_rules.specs.GlobalRows.{IsBelowZero, IsGlobalRowsMet}
use Rattle.fzn_builtin_rules.specs.Form.{form_of}
use Rattle.fzn_trail.specs.Levels.{Levels}
use Rattle.fzn_propagator.specs.Inference.{AllFixed, IsInferredOut}
use Rattle.fzn_terms.specs.Denied.{that, IsClaimForced}
use Rattle.fzn_propagator.specs.Clause.{IsJustified}
use Rattle.fzn_terms.specs.Values.{IsFixed}
use Rattle.fzn_terms.proofs.FixedLemmas.{fixed_to, fixed_ends}
use Rattle.fzn_cumulative.specs.declared.tasks.Tasks.{Tasks}
use Rattle.fzn_cumulative.specs.Loads.{AreReady, cumulative_of, total_of}
use Rattle.fzn_cumulative.specs.Kept.{AreNotBelow, HasNoneBelow, IsSomeBelow, AreKept, least_terms, least_cumulative, MeetsWhereFixed}
use Rattle.fzn_propagator.proofs.CallerLemmas.{justified_where, exhausted as no_sum}
use Rattle.fzn_terms.proofs.OrderLemmas.{le_same}

-- ---- amounts below 0

below_of : (v : ℤ) → int_le v (negsuc 0) ≡ true → v <ℤ pos 0
below_of v h = grind (arith, ints)

-- a clause that forces that a term is below 0
pub some_below : (trail : Levels) (terms : List Term) (k : ℕ) (d : Term) (old clause : List Lit) → All (IsTerm (length trail.declared)) terms → k < length terms → IsClaimForced trail (that (get_or terms k d) AtMost (negsuc 0)) old clause → IsSomeBelow trail terms clause
some_below trail terms k d old clause fit inside forced = record {
  forcing = forced.forcing;
  says = λ sets left.
      let term = get_or terms k d in
      let fits = subst (λ (n : ℕ). IsTerm n (get_or terms k d)) (sym left.one_each) (All-get_or (IsTerm (length trail.declared)) terms k d inside fit) in
      let below = below_of (greatest_value sets term) (forced.says sets left (greatest_value sets term) (MayBe-ends sets term left.filled fits).1) in
      (k, term, inside, get_or_default terms k term d inside, below);
}

module _ (trail : Levels) (tasks : Tasks) (clause : List Lit) where
  pub durations_inferred : IsSomeBelow trail tasks.durations clause → IsJustified trail (cumulative_of tasks) Rows clause
  unfolding IsMet IsGlobalRowsMet
  durations_inferred some = justified_where trail (cumulative_of tasks) Rows clause some.forcing (λ sets left. inr (inl (some.says sets left)))

  pub uses_inferred : IsSomeBelow trail tasks.uses clause → IsJustified trail (cumulative_of tasks) Rows clause
  unfolding IsMet IsGlobalRowsMet
  uses_inferred some = justified_where trail (cumulative_of tasks) Rows clause some.forcing (λ sets left. inr (inr (inl (some.says sets left))))

  only : (term x : Term) (k : ℕ) → k < 1 → get_or (term ∷ []) k x ≡ x → x ≡ term
  only term x zero inside is = sym is
  only term x (suc k) inside is = absurd (omega arith)

  pub capacity_inferred : IsSomeBelow trail (tasks.capacity ∷ []) clause → IsJustified trail (cumulative_of tasks) Rows clause
  unfolding IsMet IsGlobalRowsMet
  capacity_inferred some = justified_where trail (cumulative_of tasks) Rows clause some.forcing (λ sets left.
      let one = some.says sets left in
      inr (inr (inr (subst (IsBelowZero sets) (only tasks.capacity one.1 one.0 one.2 one.3) one.4))))

-- ---- fixed tasks

not_below : (v : ℤ) → int_le v (negsuc 0) ≡ false → pos 0 ≤ℤ v
not_below v h = grind (arith, ints)

use_of : (t gs ls ld lr s d r : ℤ) → ls ≡ s → gs ≡ s → ld ≡ d → lr ≡ r → cond (int_le s t && int_lt t (s +ℤ d)) r (pos 0) ≤ℤ cond (int_le gs t && int_lt t (ls +ℤ ld)) (int_max (pos 0) lr) (pos 0)
use_of t gs ls ld lr s d r a b e f = grind (arith, ints)

plus_mono : (a b c d : ℤ) → a ≤ℤ b → c ≤ℤ d → (a +ℤ c) ≤ℤ (b +ℤ d)
plus_mono a b c d p q = omega (arith, ints)

up_to : (load total most capacity : ℤ) → load ≤ℤ total → total ≤ℤ most → most ≡ capacity → load ≤ℤ capacity
up_to load total most capacity a b e = omega (arith, ints)

module _ (sets : List IntSet) (values : List ℤ) (within : IsWithin sets values) (fixed : AllFixed sets) where
  load_total : (t : ℤ) (ss ds rs : List Term) → All (IsTerm (length sets)) ss → All (IsTerm (length sets)) ds → All (IsTerm (length sets)) rs → load_at t (tasks (values_of values ss) (values_of values ds) (values_of values rs)) ≤ℤ total_of sets t ss ds rs
  load_total t [] ds rs a b c = le_same (pos 0) (pos 0) refl
  load_total t (s ∷ ss) [] rs a b c = le_same (pos 0) (pos 0) refl
  load_total t (s ∷ ss) (d ∷ ds) [] a b c = le_same (pos 0) (pos 0) refl
  load_total t (s ∷ ss) (d ∷ ds) (r ∷ rs) a b c =
      let start = fixed_to sets values within fixed s (All-head (IsTerm (length sets)) s ss a) in
      let duration = fixed_to sets values within fixed d (All-head (IsTerm (length sets)) d ds b) in
      let used = fixed_to sets values within fixed r (All-head (IsTerm (length sets)) r rs c) in
      plus_mono _ _ _ _
      (use_of t (greatest_value sets s) (least_value sets s) (least_value sets d) (least_value sets r) (term_value values s) (term_value values d) (term_value values r) start.0 start.1 duration.0 used.0)
      (load_total t ss ds rs (All-tail (IsTerm (length sets)) s ss a) (All-tail (IsTerm (length sets)) d ds b) (All-tail (IsTerm (length sets)) r rs c))

  none_below : (terms : List Term) → All (IsTerm (length sets)) terms → AreNotBelow sets terms → All (λ x. pos 0 ≤ℤ x) (values_of values terms)
  none_below terms fit none = All-values_of values terms (λ x. pos 0 ≤ℤ x) (λ k d below.
      not_below (term_value values (get_or terms k d)) (none k d below (term_value values (get_or terms k d)) (MayBe-term_value sets values (get_or terms k d) within (All-get_or (IsTerm (length sets)) terms k d below fit))))

  meets_cumulative : (group : Tasks) → AreReady (length sets) group → HasNoneBelow sets group → AreKept sets group → Meets (cumulative_of group) values
  unfolding Meets
  meets_cumulative group ready none kept = cumulative_from (values_of values group.starts) (values_of values group.durations) (values_of values group.uses) (term_value values group.capacity)
      (none_below group.durations ready.durations.0 none.durations) (none_below group.uses ready.uses.0 none.uses)
      (not_below (term_value values group.capacity) (none.capacity (term_value values group.capacity) (MayBe-term_value sets values group.capacity within ready.capacity)))
      (All-values_of values group.starts (λ s. load_at s (tasks (values_of values group.starts) (values_of values group.durations) (values_of values group.uses)) ≤ℤ term_value values group.capacity) (λ k d below.
      let start = fixed_to sets values within fixed (get_or group.starts k d) (All-get_or (IsTerm (length sets)) group.starts k d below ready.starts.0) in
      let most = fixed_to sets values within fixed group.capacity ready.capacity in
      up_to _ (total_of sets (term_value values (get_or group.starts k d)) group.starts group.durations group.uses) (greatest_value sets group.capacity) _
      (load_total (term_value values (get_or group.starts k d)) group.starts group.durations group.uses ready.starts.0 ready.durations.0 ready.uses.0)
      (subst (λ (t : ℤ). total_of sets t group.starts group.durations group.uses ≤ℤ greatest_value sets group.capacity) start.1 (kept k d below)) most.1))

-- a test that says that terms are not
pub not_fixed : (sets : List IntSet) (count : ℕ) (terms : List Term) (r : Bool) → length sets ≡ count → All (IsTerm count) terms → (All (IsFixed sets) terms → r ≡ true) → r ≡ false → (values : List ℤ) → IsWithin sets values → AllFixed sets → ⊥
not_fixed sets count terms r same fit test told values within fixed =
    true≢false (sym (test (λ k d below. fixed_ends sets values within fixed (get_or terms k d) (All-get_or (IsTerm (length sets)) terms k d below (subst (λ (n : ℕ). All (IsTerm n) terms) (sym same) fit)))) ∙ told)

-- ---- tasks of constants

pub constants_formed : (sets : List IntSet) (count : ℕ) (group : Tasks) (ss ds rs : List Term) (most : ℤ) → AreReady count group → ss ≡ least_terms sets group.starts → ds ≡ least_terms sets group.durations → rs ≡ least_terms sets group.uses → All (IsTerm 0) ss → All (IsTerm 0) ds → All (IsTerm 0) rs → IsInLimits most → IsWellFormedConstraint 0 (Cumulative ss ds rs (Constant most))
unfolding IsWellFormedConstraint
constants_formed sets count group ss ds rs most ready a b c fit_starts fit_durations fit_uses limits =
    let len_starts = ap length a ∙ length-map group.starts (λ term. Constant (least_value sets term)) in
    let len_durations = ap length b ∙ length-map group.durations (λ term. Constant (least_value sets term)) in
    let len_uses = ap length c ∙ length-map group.uses (λ term. Constant (least_value sets term)) in
    let short_starts = ready.starts.1 in
    let short_durations = ready.durations.1 in
    let short_uses = ready.uses.1 in
    let many_durations = ready.as_many_durations in
    let many_uses = ready.as_many_uses in (
      (fit_starts, omega arith),
      (fit_durations, omega arith),
      (fit_uses, omega arith),
      limits,
      len_durations ∙ many_durations ∙ sym len_starts,
      len_uses ∙ many_uses ∙ sym len_starts,
    )

module _ (sets : List IntSet) (values : List ℤ) (within : IsWithin sets values) (fixed : AllFixed sets) where
  values_same : (terms : List Term) → All (IsTerm (length sets)) terms → values_of [] (least_terms sets terms) ≡ values_of values terms
  values_same [] fit = refl
  values_same (t ∷ ts) fit =
      ap₂ (λ (x : ℤ) (xs : List ℤ). x ∷ xs) ((fixed_to sets values within fixed t (All-head (IsTerm (length sets)) t ts fit)).0) (values_same ts (All-tail (IsTerm (length sets)) t ts fit))

  least_meets : (group : Tasks) → AreReady (length sets) group → Meets (least_cumulative sets group) [] → Meets (cumulative_of group) values
  unfolding Meets
  least_meets group ready meets =
      subst (λ (x : ℤ). IsCumulative (values_of values group.starts) (values_of values group.durations) (values_of values group.uses) x) (fixed_to sets values within fixed group.capacity ready.capacity).0
      (subst (λ (xs : List ℤ). IsCumulative (values_of values group.starts) (values_of values group.durations) xs (least_value sets group.capacity)) (values_same group.uses ready.uses.0)
      (subst (λ (xs : List ℤ). IsCumulative (values_of values group.starts) xs (values_of [] (least_terms sets group.uses)) (least_value sets group.capacity)) (values_same group.durations ready.durations.0)
      (subst (λ (xs : List ℤ). IsCumulative xs (values_of [] (least_terms sets group.durations)) (values_of [] (least_terms sets group.uses)) (least_value sets group.capacity)) (values_same group.starts ready.starts.0) meets)))

-- where the fixed tasks keep the capacity
pub meets_least : (sets : List IntSet) (count : ℕ) (group : Tasks) → AreReady count group → length sets ≡ count → Meets (least_cumulative sets group) [] → MeetsWhereFixed sets group
meets_least sets count group ready same meets fixed values within = least_meets sets values within fixed group (subst (λ (n : ℕ). AreReady n group) (sym same) ready) meets

pub meets_kept : (sets : List IntSet) (count : ℕ) (group : Tasks) → AreReady count group → length sets ≡ count → HasNoneBelow sets group → AreKept sets group → MeetsWhereFixed sets group
meets_kept sets count group ready same none kept fixed values within = meets_cumulative sets values within fixed group (subst (λ (n : ℕ). AreReady n group) (sym same) ready) none kept

pub exhausted : (trail : Levels) (group : Tasks) → MeetsWhereFixed trail.sets group → (constraint : Constraint) → cumulative_of group ≡ constraint → IsInferredOut constraint trail
unfolding form_of
exhausted trail group meets constraint same = no_sum trail (cumulative_of group) constraint refl same (λ fixed values declared present. meets fixed values present)
