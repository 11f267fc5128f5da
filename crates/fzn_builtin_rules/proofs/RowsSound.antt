-- The rule `rows`: on sets where it is met, no choice of one value from each set meets the constraint.
use Rattle.std.proofs.Common.{◌≡◌, ℕ, ◌<◌, List, length, get_or, sym, ap, subst, ◌∙◌, inl, inr, arith, ℤ, pos, Option, Some, None}
use Rattle.std.specs.List.{All, Any, Contains}
use Rattle.std.proofs.lemmas.Int.{ints}
use Rattle.std.proofs.Math.ListN.{get_or-map}
use Rattle.fzn_domain.specs.IntSet.{IntSet}
use Rattle.fzn_domain.specs.Narrow.{IsWithin}
use Rattle.fzn_values.specs.declared.term.Term.{Term}
use Rattle.fzn_values.specs.declared.term.Term.TheVariants.{Constant}
use Rattle.fzn_meaning.specs.declared.relation.Relation.{Relation}
use Rattle.fzn_meaning.specs.declared.relation.Relation.TheVariants as relation
use Rattle.fzn_meaning.specs.declared.extremum.Extreme.{Extreme}
use Rattle.fzn_meaning.specs.declared.extremum.Extreme.TheVariants.{Least, Greatest}
use Rattle.fzn_meaning.specs.declared.constraint.Constraint.{Constraint}
use Rattle.fzn_meaning.specs.declared.constraint.Constraint.TheVariants as constraint
use Rattle.fzn_values.specs.Entries.{IsIndex, entry_at}
use Rattle.fzn_values.specs.Term.{term_value, values_of, IsTerm}
use Rattle.fzn_meaning.specs.Comparisons.{IsRelated, IsSwitched}
use Rattle.fzn_meaning.specs.Extrema.{Bounds}
use Rattle.fzn_meaning.specs.Sets.{IsInSet}
use Rattle.fzn_meaning.specs.Meaning.{Meets, IsWellFormedConstraint, switch_value}
use Rattle.fzn_sets.specs.Terms.{MayBe, term_at}
use Rattle.fzn_builtin_rules.specs.Rows.{ShareNone, AsksEquality, IsSetMissed, NoEntryFits, IsBeyond, IsRowsMet}
use Rattle.fzn_sets.proofs.CallerLemmas.{MayBe-term_value, length-values_of, MayBe-entry_at, term_between, fixed_value}
use Rattle.fzn_builtin_rules.proofs.LinSound.{zero_not_one}

module _ (sets : List IntSet) (values : List ℤ) (within : IsWithin sets values) where
  abbrev value : Term → ℤ
  value term = term_value values term

  -- terms that share no value are not equal
  apart : (a b : Term) → IsTerm (length sets) a → IsTerm (length sets) b → ShareNone sets a b → value a ≡ value b → ⊥
  apart a b first second none same =
      none (value a) (MayBe-term_value sets values a within first) (subst (MayBe sets b) (sym same) (MayBe-term_value sets values b within second))

  have_equal : (r : Relation) (switch : Option Term) (a b : ℤ) → AsksEquality sets r switch → IsSwitched (switch_value values switch) (IsRelated r a b) → (a ≡ b → ⊥) → ⊥
  have_equal relation.Equal None a b asks met other = other met
  have_equal relation.Equal (Some s) a b asks met other = other (met.0 (fixed_value sets values s (pos 1) within asks))
  have_equal relation.NotEqual (Some s) a b asks met other = zero_not_one (value s) (fixed_value sets values s (pos 0) within asks) (met.1 other)
  have_equal relation.NotEqual None a b asks met other = asks
  have_equal relation.AtMost switch a b asks met other = asks
  have_equal relation.Below switch a b asks met other = asks

  missed : (term : Term) (set : IntSet) (switch : Option Term) → IsTerm (length sets) term → IsSetMissed sets term set switch → IsSwitched (switch_value values switch) (IsInSet (value term) set) → ⊥
  missed term set None formed outside met = outside (value term) (MayBe-term_value sets values term within formed) met
  missed term set (Some s) formed rule met = elim rule [
    | inl on ↦ on.1 (value term) (MayBe-term_value sets values term within formed) (met.0 (fixed_value sets values s (pos 1) within on.0))
    | inr off ↦ zero_not_one (value s) (fixed_value sets values s (pos 0) within off.0) (met.1 (off.1 (value term) (MayBe-term_value sets values term within formed)))
  ]

  no_entry : (index : Term) (entries : List Term) (result : Term) → IsTerm (length sets) index → All (IsTerm (length sets)) entries → IsTerm (length sets) result → NoEntryFits sets index entries result → IsIndex (length (values_of values entries)) (value index) → entry_at (values_of values entries) (value index) ≡ value result → ⊥
  no_entry index entries result formed all last none at is =
      let here : IsIndex (length entries) (value index) = subst (λ (n : ℕ). IsIndex n (value index)) (length-values_of values entries) at in
      none (value index) here (MayBe-term_value sets values index within formed) (value result)
      (subst (MayBe sets (term_at entries (value index))) is (MayBe-entry_at sets values entries (value index) within all here))
      (MayBe-term_value sets values result within last)

  -- an entry beyond every value of the result
  beyond : (extreme : Extreme) (result entry : Term) → IsBeyond sets extreme result entry → Bounds extreme (value result) (value entry) → ⊥
  beyond Least result entry passes bounds = let r = term_between sets values result within in let e = term_between sets values entry within in omega (arith, ints)
  beyond Greatest result entry passes bounds = let r = term_between sets values result within in let e = term_between sets values entry within in omega (arith, ints)

  some_beyond : (extreme : Extreme) (result : Term) (entries : List Term) → Any (IsBeyond sets extreme result) entries → All (Bounds extreme (value result)) (values_of values entries) → ⊥
  some_beyond extreme result entries (k, entry, below, at, passes) all =
      let there = get_or-map (term_value values) entries k entry in
      beyond extreme result entry passes
      (subst (Bounds extreme (value result)) (there ∙ ap (term_value values) at) (all k (value entry) (omega (arith, length-values_of values entries))))

  none_is : (result : Term) (entries : List Term) → All (IsTerm (length sets)) entries → IsTerm (length sets) result → All (λ entry. ShareNone sets entry result) entries → Contains (values_of values entries) (value result) → ⊥
  none_is result entries all last none (k, below, at) =
      let x = Constant (value result) in
      let there = get_or-map (term_value values) entries k x in
      let in_entries : k < length entries = omega (arith, length-values_of values entries) in
      apart (get_or entries k x) result (all k x in_entries) last (none k x in_entries) (sym there ∙ at)

  pub rows_cases : (c : Constraint) → IsWellFormedConstraint (length sets) c → IsRowsMet c sets → Meets c values → ⊥
  unfolding IsWellFormedConstraint IsRowsMet Meets
  rows_cases (constraint.Compare relation left right switch) formed rule met =
      have_equal relation switch (value left) (value right) rule.0 met (apart left right formed.0 formed.1 rule.1)
  rows_cases (constraint.BoolToInt boolean integer) formed rule met = apart boolean integer formed.0 formed.1 rule met
  rows_cases (constraint.SetIn term set switch) formed rule met = missed term set switch formed.0 rule met
  rows_cases (constraint.Element index entries result) formed rule met =
      no_entry index entries result formed.0 formed.1.0 formed.2 rule met.0 met.1
  rows_cases (constraint.Extremum extreme entries result) formed rule met = elim rule [
    | inl passes ↦ some_beyond extreme result entries passes met.1
    | inr none ↦ none_is result entries formed.0.0 formed.1 none met.0
  ]
  rows_cases (constraint.IntAbs of result) formed rule met =
      rule (value of) (MayBe-term_value sets values of within formed.0) (subst (MayBe sets result) (sym met) (MayBe-term_value sets values result within formed.1))
  rows_cases _ formed rule met = rule

pub rows_sound : (c : Constraint) (sets : List IntSet) (values : List ℤ) → IsWellFormedConstraint (length sets) c → IsRowsMet c sets → IsWithin sets values → Meets c values → ⊥
rows_sound c sets values formed rule within met = rows_cases sets values within c formed rule met
