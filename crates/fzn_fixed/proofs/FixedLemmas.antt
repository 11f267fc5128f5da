-- By the rule `fixed`: inputs that have these values alone, and a result that has none of those that they admit.
use Rattle.std.proofs.Common.{◌≡◌, ◌↔◌, ℕ, suc, ◌+◌, ◌*◌, ◌<◌, false, List, [], ◌∷◌, ◌++◌, length, get_or, refl, sym, ap, ap₂, subst, ◌∙◌, inl, inr, arith, ℤ, pos, All, Option, Some, None, IsSomeAnd, MatchOption}
use Rattle.std.proofs.lemmas.Bool.{cases_eq, true≢false}
use Rattle.std.proofs.lemmas.List.{get_or_default, get_or-map, length-map}
use Rattle.std.proofs.lemmas.List.Elements.{All-nil, All-head, All-tail, All-push}
use Rattle.fzn_domain.specs.declared.literal.Lit.{Lit}
use Rattle.fzn_domain.specs.IntSet.{IntSet}
use Rattle.fzn_domain.specs.Narrow.{IsClauseOver, set_of, denied, is_some_empty}
use Rattle.fzn_domain.proofs.SetLemmas.{member_of_size, size_of_one}
use Rattle.fzn_domain.proofs.NarrowLemmas.{length-denied}
use Rattle.fzn_values.specs.declared.term.Term.{Term}
use Rattle.fzn_values.specs.declared.term.Term.TheVariants.{Constant, Variable}
use Rattle.fzn_values.specs.Term.{IsTerm}
use Rattle.fzn_sets.specs.Terms.{MayBe, least_value}
use Rattle.fzn_sets.proofs.ValueLemmas.{some_value}
use Rattle.fzn_builtin_rules.specs.Choices.{inputs_of, result_of, Relates, NoneOf, count_of, choices, IsChoice, IsFixedMet}
use Rattle.fzn_propagator.proofs.CallerLemmas.{left_of_may, forcing_of_false, justified_by}
use Rattle.fzn_propagator.specs.Clause.{IsForcing}
use Rattle.fzn_rules.specs.declared.rule.Rule.TheVariants.{Fixed}
use Rattle.fzn_rules.specs.Rules.{IsMet}
use Rattle.fzn_terms.specs.declared.claim.Claim.{Claim}
use Rattle.fzn_terms.specs.Denied.{IsDenied, Refute}
use Rattle.fzn_fixed.specs.declared.image.Image.{Image}
use Rattle.fzn_fixed.specs.declared.pass.Pass.{Pass}
use Rattle.fzn_fixed.specs.Demand.{AdmitsWhere}
use Rattle.fzn_fixed.specs.Denial.{IsOnlyLeft, IsDenial, IsDenialOr}
use Rattle.fzn_fixed.specs.Image.{Admits, IsImage}
use Rattle.fzn_fixed.specs.Passes.{IsJustifiedByFixed, least_values}
use Rattle.fzn_equality.proofs.CallerLemmas.{All-front, All-last}

-- the terms at the first places have these values alone
abbrev pub HaveOnly : List IntSet → List Term → List ℤ → ℕ → Type 0
HaveOnly sets terms values k = (j : ℕ) → j < k → (v : ℤ) → MayBe sets (get_or terms j (Constant (pos 0))) v → v ≡ get_or values j (pos 0)

-- ---- one choice

module _ (sets : List IntSet) (filled : is_some_empty sets ≡ false) where
  count_one : (term : Term) (x : ℤ) → IsTerm (length sets) term → ((v : ℤ) → MayBe sets term v → v ≡ x) → count_of sets term ≡ 1
  count_one (Constant k) x fits only = refl
  count_one (Variable var) x fits only =
      let member = member_of_size (set_of sets var) (some_value sets var filled fits) in
      size_of_one (set_of sets var) member.0 member.1 (λ w here. only w here ∙ sym (only member.0 member.1))

  one_choice : (terms : List Term) (values : List ℤ) → All (IsTerm (length sets)) terms → HaveOnly sets terms values (length terms) → choices sets terms ≡ 1
  one_choice [] values fit only = refl
  one_choice (t ∷ terms) [] fit only =
      ap₂ (λ (m n : ℕ). m * n) (count_one t (pos 0) (All-head (IsTerm (length sets)) t terms fit) (only 0 (omega arith))) (one_choice terms [] (All-tail (IsTerm (length sets)) t terms fit) (λ j below. only (suc j) (omega arith)))
  one_choice (t ∷ terms) (x ∷ values) fit only =
      ap₂ (λ (m n : ℕ). m * n) (count_one t x (All-head (IsTerm (length sets)) t terms fit) (only 0 (omega arith))) (one_choice terms values (All-tail (IsTerm (length sets)) t terms fit) (λ j below. only (suc j) (omega arith)))

  same_choice : (terms : List Term) (values choice : List ℤ) → length values ≡ length terms → HaveOnly sets terms values (length terms) → IsChoice sets terms choice → choice ≡ values
  same_choice [] [] [] count only is = refl
  same_choice [] (x ∷ values) choice count only is = absurd (omega arith)
  same_choice [] [] (y ∷ choice) count only is = absurd is
  same_choice (t ∷ terms) [] choice count only is = absurd (omega arith)
  same_choice (t ∷ terms) (x ∷ values) [] count only is = absurd is
  same_choice (t ∷ terms) (x ∷ values) (y ∷ choice) count only is =
      ap₂ (λ (z : ℤ) (zs : List ℤ). z ∷ zs) (only 0 (omega arith) y is.0) (same_choice terms values choice (omega arith) (λ j below. only (suc j) (omega arith)) is.1)

none_related : (sets : List IntSet) (of : Option Term) (image : Image) (R : Option ℤ → Type 0) → MatchOption of (R None ↔ Admits image None) (λ _. (r : ℤ) → R (Some r) ↔ Admits image (Some r)) → NoneOf sets of (Admits image) → NoneOf sets of R
none_related sets None image R is none = λ related. none (is.0 related)
none_related sets (Some t) image R is none = λ v may related. none v may ((is v).0 related)

some_and : {A : Type 0} (found : Option A) (a : A) (P : A → Type 0) → found ≡ Some a → P a → IsSomeAnd found P
some_and {A = A} found a P is h = subst (λ (o : Option A). IsSomeAnd o P) (sym is) h

-- the inputs have these values alone, and the result none that they admit
met_by : (sets : List IntSet) (pass : Pass) (values : List ℤ) (image : Image) → is_some_empty sets ≡ false → length sets ≡ length pass.trail.now.declared → length values ≡ length pass.inputs.now → IsImage pass.constraint.now values image → HaveOnly sets pass.inputs.now values (length pass.inputs.now) → NoneOf sets pass.result (Admits image) → IsFixedMet pass.constraint.now sets
met_by sets pass values image filled count one_each is only none =
    let C = pass.constraint.now in
    let fit : All (IsTerm (length sets)) pass.inputs.now = subst (λ (n : ℕ). All (IsTerm n) pass.inputs.now) (sym count) pass.inputs_fit in
    let last : NoneOf sets (result_of C) (Admits image) = subst (λ (of : Option Term). NoneOf sets of (Admits image)) (sym pass.result_is) none in
    some_and (inputs_of C) pass.inputs.now _ pass.inputs_are (
      one_choice sets filled pass.inputs.now values fit only,
      λ choice chosen.
          subst (λ (xs : List ℤ). NoneOf sets (result_of C) (Relates C xs)) (sym (same_choice sets filled pass.inputs.now values choice one_each only chosen))
          (none_related sets (result_of C) image (Relates C values) is last),
    )

-- ---- claims

-- where the claims are denied, the first inputs have these values alone
pub record AreOthers (pass : Pass) (values : List ℤ) (claims : List Claim) (k : ℕ) : Type 0 where
  pub terms : All (λ (c : Claim). IsTerm (length pass.trail.now.declared) c.term) claims
  pub only : (sets : List IntSet) → All (IsDenied sets) claims → HaveOnly sets pass.inputs.now values k

module _ (pass : Pass) (values : List ℤ) where
  pub others_none : AreOthers pass values [] 0
  others_none = record {
    terms = All-nil (λ (c : Claim). IsTerm (length pass.trail.now.declared) c.term);
    only = λ sets all j below. absurd (omega arith);
  }

  pub others_push : (claims : List Claim) (k : ℕ) (d : Term) (number : ℤ) (claim : Claim) → AreOthers pass values claims k → k < length pass.inputs.now → number ≡ get_or values k (pos 0) → claim.term ≡ get_or pass.inputs.now k d → ((sets : List IntSet) (v : ℤ) → IsDenied sets claim → MayBe sets (get_or pass.inputs.now k d) v → v ≡ number) → AreOthers pass values (claims ++ claim ∷ []) (k + 1)
  others_push claims k d number claim so_far below number_is term_is denied = record {
    terms = All-push (λ (c : Claim). IsTerm (length pass.trail.now.declared) c.term) claims claim so_far.terms (subst (IsTerm (length pass.trail.now.declared)) (sym term_is) (pass.inputs_fit k d below));
    only = λ sets all j before v may. elim (cases_eq j k) [
      | inl same ↦
          let at : get_or pass.inputs.now j (Constant (pos 0)) ≡ get_or pass.inputs.now k d = ap (λ (n : ℕ). get_or pass.inputs.now n (Constant (pos 0))) same ∙ get_or_default pass.inputs.now k (Constant (pos 0)) d below in
          denied sets v (All-last (IsDenied sets) claims claim all) (subst (λ (t : Term). MayBe sets t v) at may) ∙ number_is ∙ ap (λ (n : ℕ). get_or values n (pos 0)) (sym same)
      | inr apart ↦ so_far.only sets (All-front (IsDenied sets) claims claim all) j (omega arith) v may
    ];
  }

  -- and the result has no value that they admit
  pub refuted_others : (image : Image) (claims : List Claim) (claim : Claim) → length values ≡ length pass.inputs.now → IsImage pass.constraint.now values image → AreOthers pass values claims (length pass.inputs.now) → ((sets : List IntSet) → IsDenied sets claim → NoneOf sets pass.result (Admits image)) → Refute (length pass.trail.now.declared) (claims ++ claim ∷ []) pass.constraint.now Fixed
  unfolding IsMet
  refuted_others image claims claim one_each is others admitted sets denying =
      met_by sets pass values image denying.filled denying.one_each one_each is (others.only sets (All-front (IsDenied sets) claims claim denying.denied)) (admitted sets (All-last (IsDenied sets) claims claim denying.denied))

-- ---- a clause

none_denied : (declared : List IntSet) (clause : List Lit) (of : Option Term) (image : Image) → IsClauseOver (length declared) clause → NoneOf declared of (Admits image) → NoneOf (denied declared clause) of (Admits image)
none_denied declared clause None image over none = none
none_denied declared clause (Some (Constant k)) image over none = none
none_denied declared clause (Some (Variable var)) image over none = λ v may. none v (left_of_may clause declared (Variable var) v over may).0

module _ (pass : Pass) (image : Image) (clause : List Lit) (is : IsImage pass.constraint.now (least_values pass) image) where
  fixed_by : IsForcing pass.trail.now clause → All (IsOnlyLeft pass.trail.now clause) pass.inputs.now → NoneOf (denied pass.trail.now.declared clause) pass.result (Admits image) → IsJustifiedByFixed pass clause
  unfolding IsMet
  fixed_by forcing only none =
      let trail = pass.trail.now in
      let inputs = pass.inputs.now in
      let at : HaveOnly (denied trail.declared clause) inputs (least_values pass) (length inputs) = λ j below v may.
      only j (Constant (pos 0)) below v (left_of_may clause trail.declared (get_or inputs j (Constant (pos 0))) v forcing.over may) ∙ sym (get_or-map (least_value trail.sets) inputs j (Constant (pos 0)) (pos 0) below) in
      justified_by trail pass.constraint.now Fixed clause (IsFixedMet pass.constraint.now) (λ sets met. met)
      (record { forcing = forcing; met = λ some. met_by (denied trail.declared clause) pass (least_values pass) image some (length-denied clause trail.declared) (length-map inputs (least_value trail.sets)) is at none })

  -- no declared value of the result is admitted
  pub fixed_denied : NoneOf pass.trail.now.declared pass.result (Admits image) → IsDenial pass.trail.now pass.inputs.now clause → IsJustifiedByFixed pass clause
  fixed_denied none denial = fixed_by (forcing_of_false pass.trail.now clause denial.still) denial.only (none_denied pass.trail.now.declared clause pass.result image denial.still.over none)

  -- those values are admitted at which the literal is true
  pub fixed_forced : (lit : Lit) → AdmitsWhere pass.trail.now.declared pass.result image lit → IsDenialOr pass.trail.now pass.inputs.now lit clause → IsJustifiedByFixed pass clause
  fixed_forced lit where_true denial =
      let sets = denied pass.trail.now.declared clause in
      fixed_by denial.forcing denial.only (subst (λ (of : Option Term). NoneOf sets of (Admits image)) (sym where_true.of_result) (λ v may admitted.
      let left = left_of_may clause pass.trail.now.declared (Variable lit.var) v denial.forcing.over may in
      true≢false (sym ((where_true.admitted v left.0).0 admitted) ∙ denial.literal v left)))
