-- A clause grows by one literal.
use Rattle.std.proofs.Common.{◌≡◌, ◌-◌, Bool, true, false, not, List, [], ◌∷◌, ◌++◌, length, refl, sym, ap, subst, ◌∙◌, inl, inr, arith, ℤ}
use Rattle.std.proofs.lemmas.Int.{ints}
use Rattle.std.proofs.lemmas.Bool.{cases_Bool, true≢false, not-true, not-false}
use Rattle.fzn_domain.specs.declared.literal.VarId.{VarId}
use Rattle.fzn_domain.specs.declared.literal.Lit.{Lit}
use Rattle.fzn_domain.specs.declared.literal.Op.{Op}
use Rattle.fzn_domain.specs.declared.literal.Op.TheVariants.{AtMost, AtLeast, Equal, NotEqual}
use Rattle.fzn_domain.specs.Limits.{IsInLimits, IsLimited}
use Rattle.fzn_domain.specs.Literal.{compares, is_true_at, negated}
use Rattle.fzn_domain.specs.IntSet.{IntSet, contains, is_possible}
use Rattle.fzn_domain.specs.Narrow.{IsVariable, NoneEmpty, set_of}
use Rattle.fzn_domain.proofs.SetLemmas.{is_true_at-negated, possible_when, impossible_when, witness, member_of_size}
use Rattle.fzn_values.specs.declared.term.Term.{Term}
use Rattle.fzn_values.specs.declared.term.Term.TheVariants.{Constant, Variable}
use Rattle.fzn_sets.specs.Terms.{MayBe}
use Rattle.fzn_trail.specs.Levels.{Levels, IsNarrower}
use Rattle.fzn_propagator.specs.Clause.{IsWritable, IsFalseClause, AreLeftByClause}
use Rattle.fzn_propagator.proofs.CallerLemmas.{last_fails, some_value, forcing_of_false, false_push, forcing_push, left-more}
use Rattle.fzn_terms.specs.Denied.{IsEntailed, IsDenied, IsClaimExplained, IsClaimForced}
use Rattle.fzn_terms.specs.declared.claim.Claim.{Claim}
use Rattle.fzn_terms.proofs.ExplanationLemmas.{literal_of, never_variable}

writable_of : (op : Op) (var : VarId) (number v w : ℤ) → IsInLimits v → IsInLimits w → compares op v number ≡ true → compares op w number ≡ false → IsWritable (negated (record { var = var; op = op; value = number }))
writable_of AtMost var number v w a b h k = (grind (arith, ints, a.0, a.1, b.0, b.1), grind (arith, ints, a.0, a.1, b.0, b.1))
writable_of AtLeast var number v w a b h k = (grind (arith, ints, a.0, a.1, b.0, b.1), grind (arith, ints, a.0, a.1, b.0, b.1))
writable_of Equal var number v w a b h k = (grind (arith, ints, a.0, a.1, b.0, b.1), grind (arith, ints, a.0, a.1, b.0, b.1))
writable_of NotEqual var number v w a b h k = (grind (arith, ints, a.0, a.1, b.0, b.1), grind (arith, ints, a.0, a.1, b.0, b.1))

-- where a claim is not denied, some value makes its literal true
pub possible_of : (trail : Levels) (claim : Claim) (var : VarId) → claim.term ≡ Variable var → (IsDenied trail.sets claim → ⊥) → is_possible (set_of trail.sets var) (literal_of claim var) ≡ true
possible_of trail claim var of may = elim (cases_Bool (is_possible (set_of trail.sets var) (literal_of claim var))) [
  | inl able ↦ able
  | inr never ↦ absurd (may ((never_variable trail.sets claim var true of (sym (ap not never))).0 refl))
]

module _ (trail : Levels) (claim : Claim) (old : List Lit) (still : IsFalseClause trail old) where
  -- nothing is to be added for a constant
  pub explained_constant : (k : ℤ) → claim.term ≡ Constant k → IsEntailed trail.sets claim → IsClaimExplained trail claim old old
  explained_constant k of present = record {
    still = still;
    keeps = λ sets left. left;
    says = λ sets left v may.
        present v (subst (λ (t : Term). MayBe trail.sets t v) (sym of) (subst (λ (t : Term). MayBe sets t v) of may));
  }

  pub forced_constant : (k : ℤ) (r : Bool) → claim.term ≡ Constant k → r ≡ compares claim.op k claim.number → r ≡ true → IsClaimForced trail claim old old
  forced_constant k r of is told = record {
    forcing = forcing_of_false trail old still;
    keeps = λ sets left. left;
    says = λ sets left v may.
        let same : k ≡ v = subst (λ (t : Term). MayBe sets t v) of may in
        subst (λ (x : ℤ). compares claim.op x claim.number ≡ true) same (sym is ∙ told);
  }

  pub none_constant : (k : ℤ) (r : Bool) → claim.term ≡ Constant k → r ≡ compares claim.op k claim.number → r ≡ false → IsDenied trail.sets claim
  none_constant k r of is told v may =
      let same : k ≡ v = subst (λ (t : Term). MayBe trail.sets t v) of may in
      subst (λ (x : ℤ). compares claim.op x claim.number ≡ false) same (sym is ∙ told)

  module _ (var : VarId) (of : claim.term ≡ Variable var) (variable : IsVariable (length trail.declared) var) where
    -- a value at which the opposite literal is not true
    holds_where_false : (v : ℤ) → is_true_at (negated (literal_of claim var)) v ≡ false → compares claim.op v claim.number ≡ true
    holds_where_false v h = not-false (compares claim.op v claim.number) (sym (is_true_at-negated (literal_of claim var) v) ∙ h)

    fails_where_true : (v : ℤ) → is_true_at (negated (literal_of claim var)) v ≡ true → compares claim.op v claim.number ≡ false
    fails_where_true v h = not-true (compares claim.op v claim.number) (sym (is_true_at-negated (literal_of claim var) v) ∙ h)

    false_where_holds : (v : ℤ) → compares claim.op v claim.number ≡ true → is_true_at (negated (literal_of claim var)) v ≡ false
    false_where_holds v h = is_true_at-negated (literal_of claim var) v ∙ ap not h

    -- the declared set says it
    says_declared : is_possible (set_of trail.declared var) (negated (literal_of claim var)) ≡ false → (sets : List IntSet) → AreLeftByClause trail.declared old sets → IsEntailed sets claim
    says_declared impossible sets left v may =
        let there = (left.left (Variable var) v variable (subst (λ (t : Term). MayBe sets t v) of may)).0 in
        elim (cases_Bool (is_true_at (negated (literal_of claim var)) v)) [
          | inl holds ↦ absurd (true≢false (sym (possible_when (set_of trail.declared var) (negated (literal_of claim var)) v there holds) ∙ impossible))
          | inr fails ↦ holds_where_false v fails
        ]

    says_pushed : (sets : List IntSet) → AreLeftByClause trail.declared (old ++ negated (literal_of claim var) ∷ []) sets → IsEntailed sets claim
    says_pushed sets left v may =
        holds_where_false v (last_fails trail.declared old (negated (literal_of claim var)) v (left.left (Variable var) v variable (subst (λ (t : Term). MayBe sets t v) of may)))

    module _ (narrower : IsNarrower trail.sets trail.declared) (limited : IsLimited (set_of trail.declared var)) where
      declared_of : (v : ℤ) → contains (set_of trail.sets var) v ≡ true → contains (set_of trail.declared var) v ≡ true
      declared_of v h = narrower.within (var.0 - 1) v h

      -- some value makes it so, and some not
      pushed_writable : (v : ℤ) → contains (set_of trail.sets var) v ≡ true → compares claim.op v claim.number ≡ true → is_possible (set_of trail.declared var) (negated (literal_of claim var)) ≡ true → IsWritable (negated (literal_of claim var))
      pushed_writable v here holds possible =
          let w = witness (set_of trail.declared var) (negated (literal_of claim var)) possible in
          writable_of claim.op var claim.number v w.0 (limited v (declared_of v here)) (limited w.0 w.1) holds (fails_where_true w.0 w.2)

      -- the present set says it: the opposite literal is not possible
      pub explained_push : NoneEmpty trail.sets → IsEntailed trail.sets claim → is_possible (set_of trail.declared var) (negated (literal_of claim var)) ≡ true → IsClaimExplained trail claim old (old ++ negated (literal_of claim var) ∷ [])
      explained_push filled present possible =
          let all : (v : ℤ) → contains (set_of trail.sets var) v ≡ true → compares claim.op v claim.number ≡ true = λ v h. present v (subst (λ (t : Term). MayBe trail.sets t v) (sym of) h) in
          let some = member_of_size (set_of trail.sets var) (some_value trail.sets trail.declared var variable narrower filled) in
          record {
            still = false_push trail old (negated (literal_of claim var)) still variable (pushed_writable some.0 some.1 (all some.0 some.1) possible)
                (impossible_when (set_of trail.sets var) (negated (literal_of claim var)) (λ v h. false_where_holds v (all v h)));
            keeps = λ sets left. left-more trail.declared old (negated (literal_of claim var) ∷ []) sets left;
            says = says_pushed;
          }

      -- some present value makes it so
      pub forced_push : is_possible (set_of trail.sets var) (literal_of claim var) ≡ true → is_possible (set_of trail.declared var) (negated (literal_of claim var)) ≡ true → IsClaimForced trail claim old (old ++ negated (literal_of claim var) ∷ [])
      forced_push able possible =
          let lit : Lit = negated (literal_of claim var) in
          let some = witness (set_of trail.sets var) (literal_of claim var) able in
          record {
            forcing = forcing_push trail old lit still variable (pushed_writable some.0 some.1 some.2 possible)
                (possible_when (set_of trail.sets var) (negated lit) some.0 some.1 (is_true_at-negated lit some.0 ∙ ap not (false_where_holds some.0 some.2)));
            keeps = λ sets left. left-more trail.declared old (lit ∷ []) sets left;
            says = says_pushed;
          }

    pub explained_declared : is_possible (set_of trail.declared var) (negated (literal_of claim var)) ≡ false → IsClaimExplained trail claim old old
    explained_declared impossible = record { still = still; keeps = λ sets left. left; says = says_declared impossible }

    pub forced_declared : is_possible (set_of trail.declared var) (negated (literal_of claim var)) ≡ false → IsClaimForced trail claim old old
    forced_declared impossible = record {
      forcing = forcing_of_false trail old still;
      keeps = λ sets left. left;
      says = says_declared impossible;
    }
