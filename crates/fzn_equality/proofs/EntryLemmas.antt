-- What refutes an element, or an extremum: that no entry has a value in common with the result.
use Rattle.std.proofs.Common.{◌≡◌, ℕ, zero, suc, ◌+◌, ◌-◌, ◌<◌, ◌⊎◌, List, [], ◌∷◌, ◌++◌, length, get_or, sym, ap, subst, ◌∙◌, inl, inr, arith, ℤ, pos, negsuc, ◌≤ℤ◌, ◌<ℤ◌, All}
use Rattle.std.proofs.lemmas.Int.{ints}
use Rattle.std.proofs.lemmas.Bool.{cases_eq}
use Rattle.std.proofs.lemmas.List.{get_or_default}
use Rattle.std.proofs.lemmas.List.Elements.{All-head, All-push, All-from_recursion, recursion_from_All}
use Rattle.fzn_domain.specs.IntSet.{IntSet}
use Rattle.fzn_values.specs.declared.term.Term.{Term}
use Rattle.fzn_values.specs.declared.term.Term.TheVariants.{Constant}
use Rattle.fzn_values.specs.Term.{IsTerm}
use Rattle.fzn_sets.specs.Terms.{MayBe, term_at, least_value, greatest_value}
use Rattle.fzn_sets.proofs.ValueLemmas.{MayBe-ends}
use Rattle.fzn_builtin_rules.specs.Rows.{ShareNone, NoEntryFits, IsBeyond, IsRowsMet}
use Rattle.fzn_rules.specs.declared.rule.Rule.TheVariants as rule
use Rattle.fzn_rules.specs.Rules.{IsMet}
use Rattle.fzn_terms.specs.declared.claim.Claim.{Claim}
use Rattle.fzn_terms.specs.Denied.{claim_turned_round, IsDenied, Refute}
use Rattle.fzn_terms.specs.Intervals.{LiesIn}
use Rattle.fzn_terms.proofs.ExplanationLemmas.{are_opposite}
use Rattle.fzn_equality.specs.declared.element.pass.ElementPass.{ElementPass}
use Rattle.fzn_equality.specs.declared.extremum.pass.ExtremumPass.{ExtremumPass}
use Rattle.fzn_equality.specs.ElementPasses as element
use Rattle.fzn_equality.specs.ExtremumPasses as extremum
use Rattle.fzn_equality.specs.Shared.{IsMetApart}
use Rattle.fzn_equality.proofs.ListLemmas.{All-front, All-last}

-- ---- claims that grow place by place

-- where the claims are denied, so is what the first ones say, and of the first entries those that are led to have no value in common with the result
pub record IsAgainst (count : ℕ) (entries : List Term) (value : Term) (IsFirst : List IntSet → Type 0) (IsLedTo : List IntSet → ℕ → Type 0) (claims : List Claim) (k : ℕ) : Type 0 where
  pub terms : All (λ (c : Claim). IsTerm count c.term) claims
  pub first : (sets : List IntSet) → All (IsDenied sets) claims → IsFirst sets
  pub apart : (sets : List IntSet) → All (IsDenied sets) claims → (j : ℕ) (d : Term) → j < k → IsLedTo sets j → ShareNone sets (get_or entries j d) value

module _ (count : ℕ) (entries : List Term) (value : Term) (IsFirst : List IntSet → Type 0) (IsLedTo : List IntSet → ℕ → Type 0) (claims : List Claim) where
  against_none : All (λ (c : Claim). IsTerm count c.term) claims → ((sets : List IntSet) → All (IsDenied sets) claims → IsFirst sets) → IsAgainst count entries value IsFirst IsLedTo claims 0
  against_none terms first = record { terms = terms; first = first; apart = λ sets all j d before. absurd (omega arith) }

  module _ (k : ℕ) (so_far : IsAgainst count entries value IsFirst IsLedTo claims k) where
    -- the next place besides
    more_apart : (sets : List IntSet) → All (IsDenied sets) claims → ((d : Term) → IsLedTo sets k → ShareNone sets (get_or entries k d) value) → (j : ℕ) (d : Term) → j < k + 1 → IsLedTo sets j → ShareNone sets (get_or entries j d) value
    more_apart sets all here j d below = elim (cases_eq j k) [
      | inl same ↦ subst (λ (n : ℕ). IsLedTo sets n → ShareNone sets (get_or entries n d) value) (sym same) (here d)
      | inr apart ↦ so_far.apart sets all j d (omega arith)
    ]

    -- it is not led to
    pub against_skip : ((sets : List IntSet) → IsFirst sets → IsLedTo sets k → ⊥) → IsAgainst count entries value IsFirst IsLedTo claims (k + 1)
    against_skip never = record {
      terms = so_far.terms;
      first = so_far.first;
      apart = λ sets all. more_apart sets all (λ d led. absurd (never sets (so_far.first sets all) led));
    }

    -- a claim rules it out
    pub against_push : (d : Term) (claim entry more : Claim) → k < length entries → ((sets : List IntSet) → IsFirst sets → IsDenied sets claim) → claim.term ≡ value → entry ≡ claim_turned_round claim (get_or entries k d) → IsTerm count more.term → ((sets : List IntSet) → IsDenied sets more → (IsLedTo sets k → ⊥) ⊎ IsDenied sets entry) → IsAgainst count entries value IsFirst IsLedTo (claims ++ more ∷ []) (k + 1)
    against_push d claim entry more inside denies term_is entry_is fits ruled_out = record {
      terms = All-push (λ (c : Claim). IsTerm count c.term) claims more so_far.terms fits;
      first = λ sets all. so_far.first sets (All-front (IsDenied sets) claims more all);
      apart = λ sets all.
          let old = All-front (IsDenied sets) claims more all in
          more_apart sets old (λ e led v here there. elim (ruled_out sets (All-last (IsDenied sets) claims more all)) [
            | inl never ↦ never led
            | inr denied ↦
                are_opposite sets claim (get_or entries k d) (denies sets (so_far.first sets old)) (subst (IsDenied sets) entry_is denied) v (subst (λ (t : Term). MayBe sets t v) (sym term_is) there)
                (subst (λ (t : Term). MayBe sets t v) (get_or_default entries k e d inside) here)
          ]);
    }

-- ---- an element

at_place : (entries : List Term) (k : ℕ) (d : Term) → k < length entries → term_at entries (pos (k + 1)) ≡ get_or entries k d
at_place entries k d below = let same : k + 1 - 1 ≡ k = omega arith in ap (λ (n : ℕ). get_or entries n (Constant (pos 0))) same ∙ get_or_default entries k (Constant (pos 0)) d below

-- the index leads to the place, counted from 0
abbrev pub LeadsTo : ElementPass → List IntSet → ℕ → Type 0
LeadsTo pass sets k = MayBe sets pass.index (pos (k + 1))

-- the entries at all places
unfit_everywhere : (sets : List IntSet) (index : Term) (entries : List Term) (value : Term) → ((j : ℕ) (d : Term) → j < length entries → MayBe sets index (pos (j + 1)) → ShareNone sets (get_or entries j d) value) → NoEntryFits sets index entries value
unfit_everywhere sets index entries value each (pos zero) at may = absurd (omega (arith, ints))
unfit_everywhere sets index entries value each (pos (suc k)) at may =
    let same : k + 1 ≡ suc k = omega arith in
    let below : k < length entries = omega (arith, ints) in
    subst (λ (t : Term). ShareNone sets t value) (sym (at_place entries k (Constant (pos 0)) below) ∙ ap (λ (n : ℕ). term_at entries (pos n)) same) (each k (Constant (pos 0)) below (subst (λ (n : ℕ). MayBe sets index (pos n)) (sym same) may))
unfit_everywhere sets index entries value each (negsuc k) at may = absurd (omega (arith, ints))

met_of : (pass : ElementPass) (sets : List IntSet) → NoEntryFits sets pass.index pass.entries.now pass.value → IsMet (element.element_constraint pass) sets rule.Rows
unfolding IsMet IsRowsMet
met_of pass sets none = inl none

-- the index lies outside the list
pub refuted_outside : (pass : ElementPass) (claim : Claim) → ((sets : List IntSet) → IsDenied sets claim → element.LeavesNoIndex pass sets) → Refute (length pass.trail.now.declared) (claim ∷ []) (element.element_constraint pass) rule.Rows
refuted_outside pass claim leaves sets denying =
    met_of pass sets (λ k at may. absurd (leaves sets (All-head (IsDenied sets) claim [] denying.denied) k at may))

-- the index leads to one place alone, whose entry shares no value with the result
pub met_at : (pass : ElementPass) (place : ℕ) (d : Term) (number : ℤ) (elsewhere : Claim) → place < length pass.entries.now → number ≡ pos (place + 1) → ((sets : List IntSet) (v : ℤ) → IsDenied sets elsewhere → MayBe sets pass.index v → v ≡ number) → IsMetApart (length pass.trail.now.declared) elsewhere (get_or pass.entries.now place d) pass.value (element.element_constraint pass)
met_at pass place d number elsewhere below number_is only sets denying apart =
    let entries = pass.entries.now in
    met_of pass sets (unfit_everywhere sets pass.index entries pass.value (λ j e inside may v here there.
    let at : pos (j + 1) ≡ number = only sets (pos (j + 1)) (All-head (IsDenied sets) elsewhere [] denying.denied) may in
    let same : j ≡ place = omega (arith, ints) in
    let entry : get_or entries j e ≡ get_or entries place d = get_or_default entries j e d inside ∙ ap (λ (n : ℕ). get_or entries n d) same in
    apart v (subst (λ (t : Term). MayBe sets t v) entry here) there))

-- the claim of the result is denied, and the index lies between its ends on the trail
abbrev pub IsClaimDenied : ElementPass → Claim → List IntSet → Type 0
IsClaimDenied pass claim sets = IsDenied sets claim × LiesIn sets pass.index pass.leads

abbrev pub IsAgainstValue : ElementPass → Claim → List Claim → ℕ → Type 0
IsAgainstValue pass claim claims k = IsAgainst (length pass.trail.now.declared) pass.entries.now pass.value (IsClaimDenied pass claim) (LeadsTo pass) claims k

pub value_first : (pass : ElementPass) (claim below above : Claim) → claim.term ≡ pass.value → below.term ≡ pass.index → above.term ≡ pass.index → ((sets : List IntSet) (v : ℤ) → IsDenied sets below → MayBe sets pass.index v → pass.leads.low ≤ℤ v) → ((sets : List IntSet) (v : ℤ) → IsDenied sets above → MayBe sets pass.index v → v ≤ℤ pass.leads.high) → IsAgainstValue pass claim (claim ∷ below ∷ above ∷ []) 0
value_first pass claim below above claim_is below_is above_is low_is high_is =
    let count = length pass.trail.now.declared in
    let claims : List Claim = claim ∷ below ∷ above ∷ [] in
    against_none count pass.entries.now pass.value (IsClaimDenied pass claim) (LeadsTo pass) claims
    (All-from_recursion (λ (c : Claim). IsTerm count c.term) claims (subst (IsTerm count) (sym claim_is) pass.value_fits, (subst (IsTerm count) (sym below_is) pass.index_fits, (subst (IsTerm count) (sym above_is) pass.index_fits, tt))))
    (λ sets all. let each = recursion_from_All (IsDenied sets) claims all in (each.0, λ v may. (low_is sets v each.1.0 may, high_is sets v each.1.1.0 may)))

pub refuted_against : (pass : ElementPass) (claim : Claim) (claims : List Claim) → IsAgainstValue pass claim claims (length pass.entries.now) → Refute (length pass.trail.now.declared) claims (element.element_constraint pass) rule.Rows
refuted_against pass claim claims against sets denying = met_of pass sets (unfit_everywhere sets pass.index pass.entries.now pass.value (against.apart sets denying.denied))

-- ---- an extremum

met_passing : (pass : ExtremumPass) (sets : List IntSet) (k : ℕ) (d : Term) → k < length pass.entries.now → IsBeyond sets pass.extreme pass.of (get_or pass.entries.now k d) → IsMet (extremum.extremum_constraint pass) sets rule.Rows
unfolding IsMet IsRowsMet
met_passing pass sets k d below passes =
    let entry = get_or pass.entries.now k d in inl (inl (k, entry, below, get_or_default pass.entries.now k entry d below, passes))

met_apart : (pass : ExtremumPass) (sets : List IntSet) → All (λ entry. ShareNone sets entry pass.of) pass.entries.now → IsMet (extremum.extremum_constraint pass) sets rule.Rows
unfolding IsMet IsRowsMet
met_apart pass sets all = inl (inr all)

-- an entry and the result lie on the wrong sides of a number
pub refuted_passing : (pass : ExtremumPass) (place : ℕ) (d : Term) (lower upper : Term) (high low : ℤ) (first second : Claim) → place < length pass.entries.now → IsTerm (length pass.trail.now.declared) lower → IsTerm (length pass.trail.now.declared) upper → high <ℤ low → ((sets : List IntSet) (v : ℤ) → IsDenied sets first → MayBe sets lower v → v ≤ℤ high) → ((sets : List IntSet) (v : ℤ) → IsDenied sets second → MayBe sets upper v → low ≤ℤ v) → ((sets : List IntSet) → greatest_value sets lower <ℤ least_value sets upper → IsBeyond sets pass.extreme pass.of (get_or pass.entries.now place d)) → Refute (length pass.trail.now.declared) (first ∷ second ∷ []) (extremum.extremum_constraint pass) rule.Rows
refuted_passing pass place d lower upper high low first second below lower_fits upper_fits order first_is second_is passes sets denying =
    let each = recursion_from_All (IsDenied sets) (first ∷ second ∷ []) denying.denied in
    let under = MayBe-ends sets lower denying.filled (subst (λ (n : ℕ). IsTerm n lower) (sym denying.one_each) lower_fits) in
    let over = MayBe-ends sets upper denying.filled (subst (λ (n : ℕ). IsTerm n upper) (sym denying.one_each) upper_fits) in
    let a = first_is sets (greatest_value sets lower) each.0 under.1 in
    let b = second_is sets (least_value sets upper) each.1.0 over.0 in
    met_passing pass sets place d below (passes sets (omega (arith, ints)))

-- where the claims are denied, the first entries have no value in common with the result
abbrev pub IsAgainstExtremum : ExtremumPass → Claim → List Claim → ℕ → Type 0
IsAgainstExtremum pass claim claims k = IsAgainst (length pass.trail.now.declared) pass.entries.now pass.of (λ sets. IsDenied sets claim) (λ sets j. Unit {0}) claims k

pub extremum_first : (pass : ExtremumPass) (claim : Claim) → claim.term ≡ pass.of → IsAgainstExtremum pass claim (claim ∷ []) 0
extremum_first pass claim term_is =
    let count = length pass.trail.now.declared in
    against_none count pass.entries.now pass.of (λ sets. IsDenied sets claim) (λ sets j. Unit {0}) (claim ∷ [])
    (All-from_recursion (λ (c : Claim). IsTerm count c.term) (claim ∷ []) (subst (IsTerm count) (sym term_is) pass.of_fits, tt))
    (λ sets all. All-head (IsDenied sets) claim [] all)

pub extremum_push : (pass : ExtremumPass) (claim : Claim) (claims : List Claim) (k : ℕ) (d : Term) (entry : Claim) → IsAgainstExtremum pass claim claims k → k < length pass.entries.now → claim.term ≡ pass.of → entry ≡ claim_turned_round claim (get_or pass.entries.now k d) → IsAgainstExtremum pass claim (claims ++ entry ∷ []) (k + 1)
extremum_push pass claim claims k d entry so_far below term_is entry_is =
    let count = length pass.trail.now.declared in
    against_push count pass.entries.now pass.of (λ sets. IsDenied sets claim) (λ sets j. Unit {0}) claims k so_far d claim entry entry below (λ sets first. first) term_is entry_is
    (subst (λ (c : Claim). IsTerm count c.term) (sym entry_is) (pass.entries_fit k d below)) (λ sets denied. inr denied)

pub refuted_each : (pass : ExtremumPass) (claim : Claim) (claims : List Claim) → IsAgainstExtremum pass claim claims (length pass.entries.now) → Refute (length pass.trail.now.declared) claims (extremum.extremum_constraint pass) rule.Rows
refuted_each pass claim claims against sets denying = met_apart pass sets (λ j d below. against.apart sets denying.denied j d below tt)
