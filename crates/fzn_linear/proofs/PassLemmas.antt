-- What a pass adds to what was found.
use Rattle.std.proofs.Common.{◌≡◌, ◌≢◌, ℕ, ◌+◌, Bool, List, get_or, refl, sym, ap, subst, ◌∙◌, inl, inr, arith, ℤ, pos, ◌-ℤ◌, ◌≤ℤ◌, Result, Ok, Err, OnOk}
use Rattle.std.specs.List.{AllWithin}
use Rattle.std.proofs.lemmas.Bool.{cases_eq}
use Rattle.fzn_domain.specs.declared.literal.Lit.{Lit}
use Rattle.fzn_domain.specs.IntSet.{IntSet}
use Rattle.fzn_values.specs.declared.term.Place.{Place}
use Rattle.fzn_builtin_rules.specs.Form.{Form}
use Rattle.fzn_meaning.specs.declared.constraint.Constraint.{Constraint}
use Rattle.fzn_meaning.specs.declared.relation.Comparison.{Comparison}
use Rattle.fzn_meaning.specs.declared.relation.Comparison.TheVariants.{Equal, NotEqual}
use Rattle.fzn_trail.specs.Levels.{Levels}
use Rattle.fzn_propagator.specs.Inference.{Inference, IsNumberedInference, AreInferencesOf, IsTight}
use Rattle.fzn_builtin_rules.specs.declared.ends.Ends.{Ends}
use Rattle.fzn_builtin_rules.specs.Linear.{least_sum}
use Rattle.fzn_linear.specs.declared.form.SumForm.{SumForm}
use Rattle.fzn_linear.specs.declared.pass.Pass.{Pass}
use Rattle.fzn_linear.specs.declared.side.Side.{Side}
use Rattle.fzn_sum.specs.Ends.{AreEnds}
use Rattle.fzn_sum.specs.Opposite.{opposites}
use Rattle.fzn_sum.specs.Refuted.{LeavesEach}
use Rattle.fzn_linear.specs.Kinds.{form_of_sum, IsFormOf}
use Rattle.fzn_linear.specs.Passes.{AddsInferences, IsFormRefuted}
use Rattle.fzn_linear.specs.Sum.{IsFormLeft, IsLeftAlone}
use Rattle.fzn_linear.specs.Switched.{form_where, IsSwitchAt}

module _ (number : ℕ) (sum : SumForm) (trail : Levels) where
  pub adds_none : (xs : List Inference) → AddsInferences number sum trail xs xs
  adds_none xs = record { still = λ constraint is all. all; kept = λ none. none }

  pub adds_both : (xs ys zs : List Inference) → AddsInferences number sum trail xs ys → AddsInferences number sum trail ys zs → AddsInferences number sum trail xs zs
  adds_both xs ys zs first second = record {
    still = λ constraint is all. second.still constraint is (first.still constraint is all);
    kept = λ none. first.kept (second.kept none);
  }

  pub still_inferences : (is_for : Constraint → Type 0) → ((constraint : Constraint) → is_for constraint → IsFormOf constraint sum) → (before after : List Inference) → AreInferencesOf number is_for trail before → AddsInferences number sum trail before after → AreInferencesOf number is_for trail after
  still_inferences is_for by_form before after all adds = λ k d below constraint is.
      (adds.still constraint (by_form constraint is) (record { all = λ i e inside other same. subst (λ (x : Constraint). IsNumberedInference number x trail (get_or before i e)) same (all i e inside constraint is) })).all k d below constraint refl

-- ---- and where nothing is found

pub ok_then : {T E P Q : Type 0} (result : Result T E) → OnOk result P → (P → Q) → OnOk result Q
ok_then (Ok x) p f = f p
ok_then (Err e) p f = tt

pub within_more : (P : Place → Type 0) (places : List Place) (i : ℕ) → AllWithin P places 0 i → ((d : Place) → P (get_or places i d)) → AllWithin P places 0 (i + 1)
within_more P places i before here = λ k d after below. elim (cases_eq k i) [
  | inl same ↦ subst (λ (n : ℕ). P (get_or places n d)) (sym same) (here d)
  | inr other ↦ before k d after (omega arith)
]

-- where the switch can be nothing else, it is enough that nothing is left to find there
pub left_alone : (sets : List IntSet) (found : Form) (on : Bool) → ((other : Bool) → IsSwitchAt sets found.switch other → other ≡ on) → (IsSwitchAt sets found.switch on → IsFormLeft sets (form_where on found)) → IsLeftAlone sets found
left_alone sets found on one left = λ other is.
    let same = one other is in
    subst (λ (b : Bool). IsFormLeft sets (form_where b found)) (sym same) (left (subst (λ (b : Bool). IsSwitchAt sets found.switch b) same is))

-- neither the sum nor its opposite can exceed a bound
pub equal_left : (sets : List IntSet) (sum : SumForm) (above below : ℤ) → sum.comparison ≡ Equal → above ≡ sum.bound → below ≡ pos 0 -ℤ sum.bound → IsTight sets sum.places above → IsTight sets (opposites sum.places) below → IsFormLeft sets (form_of_sum sum)
equal_left sets sum above below is above_is below_is up down =
    subst (λ (k : Comparison). LeavesEach sets k sum.places sum.bound) (sym is)
    (subst (λ (b : ℤ). least_sum sets sum.places ≤ℤ b) above_is up.least, subst (λ (b : ℤ). least_sum sets (opposites sum.places) ≤ℤ b) below_is down.least)

-- a side of a pass
module _ (side : Side) (pass : Pass) (on : Bool) (is : (side.pass ≡ pass) × (side.on ≡ on)) where
  pub side_left : IsFormLeft side.pass.trail.now.sets (form_of_sum side.sum.now) → IsFormLeft pass.trail.now.sets (form_where on (form_of_sum pass.form.now))
  side_left left =
      let here = subst (λ (f : Form). IsFormLeft side.pass.trail.now.sets f) side.sum_is left in
      subst (λ (b : Bool). IsFormLeft pass.trail.now.sets (form_where b (form_of_sum pass.form.now))) is.1 (subst (λ (p : Pass). IsFormLeft p.trail.now.sets (form_where side.on (form_of_sum p.form.now))) is.0 here)

  pub side_ends : (ends : Ends) → AreEnds pass.trail.now.sets (form_where on (form_of_sum pass.form.now)).places ends → AreEnds side.pass.trail.now.sets side.sum.now.places ends
  side_ends ends are =
      let there = subst (λ (b : Bool). AreEnds pass.trail.now.sets (form_where b (form_of_sum pass.form.now)).places ends) (sym is.1) are in
      subst (λ (f : Form). AreEnds side.pass.trail.now.sets f.places ends) (sym side.sum_is) (subst (λ (p : Pass). AreEnds p.trail.now.sets (form_where side.on (form_of_sum p.form.now)).places ends) (sym is.0) there)

  side_form : form_of_sum side.sum.now ≡ form_where on (form_of_sum pass.form.now)
  side_form =
      subst (λ (b : Bool). form_of_sum side.sum.now ≡ form_where b (form_of_sum pass.form.now)) is.1
      (subst (λ (p : Pass). form_of_sum side.sum.now ≡ form_where side.on (form_of_sum p.form.now)) is.0 side.sum_is)

  pub side_compares : (form_where on (form_of_sum pass.form.now)).comparison ≢ NotEqual → side.sum.now.comparison ≢ NotEqual
  side_compares other = λ same. other (sym (ap (λ (f : Form). f.comparison) side_form) ∙ same)

  pub side_refuted : (clause : List Lit) → IsFormRefuted pass.trail.now (form_where on (form_of_sum pass.form.now)) clause → IsFormRefuted side.pass.trail.now (form_of_sum side.sum.now) clause
  side_refuted clause refutes =
      subst (λ (p : Pass). IsFormRefuted p.trail.now (form_of_sum side.sum.now) clause) (sym is.0)
      (subst (λ (f : Form). IsFormRefuted pass.trail.now f clause) (sym side_form) refutes)
