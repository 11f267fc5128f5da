-- Clauses that say levels below which no part weighs.
use Rattle.std.proofs.Common.{◌≡◌, ◌≢◌, ℕ, ◌+◌, ◌*◌, ◌<◌, ◌≤◌, true, false, not, int_le, List, length, get_or, sym, ap, ◌∙◌, subst, inl, inr, arith, ℤ, pos, ◌+ℤ◌, ◌≤ℤ◌, Option, None, Some, IfSome}
use Rattle.std.proofs.lemmas.Int.{ints}
use Rattle.std.specs.Ordering.{int_eq}
use Rattle.std.proofs.lemmas.Bool.{false≢true, cases_lt, cases_Bool}
use Rattle.std.proofs.lemmas.List.{get_or_default}
use Rattle.std.proofs.lemmas.List.Elements.{All-contains}
use Rattle.fzn_domain.specs.declared.literal.VarId.{VarId}
use Rattle.fzn_domain.specs.declared.literal.Lit.{Lit}
use Rattle.fzn_domain.specs.declared.literal.Op.TheVariants.{AtMost, AtLeast, NotEqual}
use Rattle.fzn_domain.specs.Literal.{is_true_at}
use Rattle.fzn_domain.specs.IntSet.{IntSet, contains}
use Rattle.fzn_domain.specs.Narrow.{IsVariable, set_of}
use Rattle.fzn_meaning.specs.declared.row.Listed.{Listed}
use Rattle.fzn_meaning.specs.declared.row.VariablePart.{VariablePart}
use Rattle.fzn_meaning.specs.declared.row.TablePart.{TablePart}
use Rattle.fzn_meaning.specs.declared.row.Part.{Part}
use Rattle.fzn_meaning.specs.declared.row.Part.TheVariants as parts
use Rattle.fzn_values.specs.declared.term.Term.{Term}
use Rattle.fzn_values.specs.declared.term.Term.TheVariants.{Constant, Variable}
use Rattle.fzn_meaning.specs.Separable.{weight_at}
use Rattle.fzn_rules.specs.GlobalRows.{MayBeRow}
use Rattle.fzn_rules.specs.Least.{Reaches}
use Rattle.fzn_sets.specs.Terms.{MayBe}
use Rattle.fzn_trail.specs.Levels.{Levels}
use Rattle.fzn_propagator.specs.Clause.{IsFalseClause, AreLeftByClause}
use Rattle.fzn_terms.specs.declared.claim.Claim.{Claim}
use Rattle.fzn_terms.specs.Denied.{that, IsEntailed, IsClaimExplained, IsGrown}
use Rattle.fzn_terms.proofs.OrderLemmas.{at_most, equal_of}
use Rattle.fzn_levels.specs.ByWeight.{HaveLighter}
use Rattle.fzn_levels.specs.Levels.{IsNoLighter, IsEntryNoLighter, IsRowNoLighter, IsToldOut, SaysNoLighter}
use Rattle.fzn_levels.proofs.WeightLemmas.{listed_only}

pub grown-map : (trail : Levels) (P Q : List IntSet → Type 0) (old new : List Lit) → ((sets : List IntSet) → P sets → Q sets) → IsGrown trail P old new → IsGrown trail Q old new
grown-map trail P Q old new so grown = record { still = grown.still; keeps = grown.keeps; says = λ sets left. so sets (grown.says sets left) }

pub grown-none : (trail : Levels) (P : List IntSet → Type 0) (old : List Lit) → ((sets : List IntSet) → AreLeftByClause trail.declared old sets → P sets) → IsFalseClause trail old → IsGrown trail P old old
grown-none trail P old so still = record { still = still; keeps = λ sets left. left; says = so }

-- of the parts before an index, but for the one at another
abbrev pub AreNoLighterBefore : ℕ → ℕ → List Part → List ℤ → List IntSet → Type 0
AreNoLighterBefore count except parts levels sets = (k : ℕ) (p : Part) (d : ℤ) → k < count → k ≢ except → IsNoLighter sets (get_or parts k p) (Some (get_or levels k d))

module _ (trail : Levels) (parts : List Part) (levels : List ℤ) (except : ℕ) (old : List Lit) where
  pub said_none : IsFalseClause trail old → IsGrown trail (AreNoLighterBefore 0 except parts levels) old old
  said_none still = grown-none trail (AreNoLighterBefore 0 except parts levels) old (λ sets left k p d below. absurd (omega arith)) still

  module _ (i : ℕ) (clause : List Lit) (before : IsGrown trail (AreNoLighterBefore i except parts levels) old clause) where
    pub said_more : (new : List Lit) (part : Part) (level : ℤ) → i < length parts → length levels ≡ length parts → part ≡ get_or parts i part → level ≡ get_or levels i level → SaysNoLighter trail part (Some level) clause new → IsGrown trail (AreNoLighterBefore (i + 1) except parts levels) old new
    said_more new part level inside count is at said = record {
      still = said.still;
      keeps = λ sets left. before.keeps sets (said.keeps sets left);
      says = λ sets left k p d below apart. elim (cases_lt k i) [
        | inl earlier ↦ before.says sets (said.keeps sets left) k p d earlier apart
        | inr past ↦
            let here : i ≡ k = omega arith in
            subst (λ (n : ℕ). IsNoLighter sets (get_or parts n p) (Some (get_or levels n d))) here
            (subst (λ (q : Part). IsNoLighter sets q (Some (get_or levels i d))) (is ∙ get_or_default parts i part p inside)
            (subst (λ (x : ℤ). IsNoLighter sets part (Some x)) (at ∙ get_or_default levels i level d (omega arith)) (said.says sets left)))
      ];
    }

    pub said_same : i ≡ except → IsGrown trail (AreNoLighterBefore (i + 1) except parts levels) old clause
    said_same is = record {
      still = before.still;
      keeps = before.keeps;
      says = λ sets left k p d below apart. before.says sets left k p d (let other : k ≢ i = omega arith in omega arith) apart;
    }

-- one after the other
abbrev pub AreBefore : (ℕ → List IntSet → Type 0) → ℕ → List IntSet → Type 0
AreBefore P count sets = (k : ℕ) → k < count → P k sets

module _ (trail : Levels) (P : ℕ → List IntSet → Type 0) (old : List Lit) where
  pub each_none : IsFalseClause trail old → IsGrown trail (AreBefore P 0) old old
  each_none still = grown-none trail (AreBefore P 0) old (λ sets left k below. absurd (omega arith)) still

  pub each_more : (i : ℕ) (clause new : List Lit) → IsGrown trail (AreBefore P i) old clause → IsGrown trail (P i) clause new → IsGrown trail (AreBefore P (i + 1)) old new
  each_more i clause new before said = record {
    still = said.still;
    keeps = λ sets left. before.keeps sets (said.keeps sets left);
    says = λ sets left k below. elim (cases_lt k i) [
      | inl earlier ↦ before.says sets (said.keeps sets left) k earlier
      | inr past ↦
          let here : i ≡ k = omega arith in
          subst (λ (n : ℕ). P n sets) here (said.says sets left)
    ];
  }

  pub each_skip : (i j : ℕ) (clause : List Lit) → IsGrown trail (AreBefore P i) old clause → ((k : ℕ) (sets : List IntSet) → i ≤ k → k < j → P k sets) → IsGrown trail (AreBefore P j) old clause
  each_skip i j clause before so = record {
    still = before.still;
    keeps = before.keeps;
    says = λ sets left k below. elim (cases_lt k i) [
      | inl earlier ↦ before.says sets left k earlier
      | inr past ↦ so k sets past below
    ];
  }

-- the values that are listed
abbrev pub entry_said : VariablePart → Listed → Option ℤ → ℕ → List IntSet → Type 0
entry_said part listed level k sets = IsEntryNoLighter sets part listed k level

pub entries_all : (trail : Levels) (part : VariablePart) (listed : Listed) (level : Option ℤ) (old new : List Lit) → part.listed ≡ Some listed → IsGrown trail (AreBefore (entry_said part listed level) (length listed.weights)) old new → SaysNoLighter trail (parts.Variable part) level old new
entries_all trail part listed level old new of all =
    grown-map trail (AreBefore (entry_said part listed level) (length listed.weights)) (λ sets. IsNoLighter sets (parts.Variable part) level) old new
    (λ sets each w at.
    let there = listed_only part listed of at.0 w at.2 in
    each there.0 there.1 w (subst (λ (v : ℤ). contains (set_of sets part.var) v ≡ true) there.2 at.1) (subst (λ (v : ℤ). weight_at part v ≡ Some w) there.2 at.2))
    all

-- where each entry that weighs less than the level is at one of these indices, those between two of them weigh no less
pub entries_between : (part : VariablePart) (listed : Listed) (level : Option ℤ) (light : List ℕ) (i j : ℕ) → HaveLighter part listed level light → j ≤ length listed.weights → ((k : ℕ) → k < length light → i ≤ get_or light k 0 → get_or light k 0 < length listed.weights → j ≤ get_or light k 0) → (k : ℕ) (sets : List IntSet) → i ≤ k → k < j → entry_said part listed level k sets
entries_between part listed level light i j have within none k sets start below weight member weighs = elim (have k weight (omega arith) weighs) [
  | inl (place, inside, is) ↦
      let at : get_or light place 0 ≡ k = get_or_default light place 0 k inside ∙ is in
      absurd (let past = none place inside (omega arith) (omega arith) in omega arith)
  | inr reaches ↦ reaches
]

-- the rows of a table
abbrev pub row_said : TablePart → Option ℤ → ℕ → List IntSet → Type 0
row_said table level r sets = IsRowNoLighter sets table r level

pub rows_all : (trail : Levels) (table : TablePart) (level : Option ℤ) (old new : List Lit) → IsGrown trail (AreBefore (row_said table level) (length table.weights)) old new → SaysNoLighter trail (parts.Table table) level old new
rows_all trail table level old new all =
    grown-map trail (AreBefore (row_said table level) (length table.weights)) (λ sets. IsNoLighter sets (parts.Table table) level) old new
    (λ sets each w at. each at.0 at.2 w at.1 at.3) all

-- one that does not equal the places
pub row_out : (trail : Levels) (table : TablePart) (level : Option ℤ) (r k : ℕ) (place : Term) (entry : ℤ) (old new : List Lit) → k < length table.places → place ≡ get_or table.places k (Constant (pos 0)) → entry ≡ get_or table.rows (r * length table.places + k) (pos 0) → IsGrown trail (λ sets. MayBe sets place entry → ⊥) old new → IsGrown trail (row_said table level r) old new
row_out trail table level r k place entry old new inside at is out =
    grown-map trail (λ sets. MayBe sets place entry → ⊥) (row_said table level r) old new
    (λ sets no weight may weighs.
    let here : MayBe sets place entry = subst (λ (t : Term). MayBe sets t entry) (sym at) (subst (MayBe sets (get_or table.places k (Constant (pos 0)))) (sym is) (may k inside)) in
    absurd (no here)) out

-- one that weighs no less than the level
pub row_heavy : (trail : Levels) (table : TablePart) (level weight : Option ℤ) (r : ℕ) (old : List Lit) → weight ≡ get_or table.weights r None → IfSome weight (Reaches level) → IsFalseClause trail old → IsGrown trail (row_said table level r) old old
row_heavy trail table level weight r old is heavy still =
    grown-none trail (row_said table level r) old (λ sets left w may weighs. subst (λ (o : Option ℤ). IfSome o (Reaches level)) (is ∙ weighs) heavy) still

-- one that weighs less does not equal the places on the trail
pub row_light : (sets : List IntSet) (table : TablePart) (level weight : Option ℤ) (r : ℕ) → r < length table.weights → weight ≡ get_or table.weights r None → ((w : ℤ) × (weight ≡ Some w)) → IfSome weight (λ w. Reaches level w → ⊥) → IsNoLighter sets (parts.Table table) level → MayBeRow sets table.places table.rows r → ⊥
row_light sets table level weight r inside is some light none may =
    subst (λ (o : Option ℤ). IfSome o (λ w. Reaches level w → ⊥)) some.1 light (none some.0 (r, may, inside, sym is ∙ some.1))

-- ---- by claims of one value or of an end

module _ (trail : Levels) (part : VariablePart) (claim : Claim) (old new : List Lit) (explained : IsClaimExplained trail claim old new) where
  pub said_from : (low level : ℤ) → claim ≡ that (Variable part.var) AtLeast low → ((v w : ℤ) → low ≤ℤ v → weight_at part v ≡ Some w → level ≤ℤ w) → SaysNoLighter trail (parts.Variable part) (Some level) old new
  said_from low level is heavy =
      grown-map trail (λ sets. IsEntailed sets claim) (λ sets. IsNoLighter sets (parts.Variable part) (Some level)) old new
      (λ sets all w at. heavy at.0 w (at_least at.0 low (subst (λ (c : Claim). IsEntailed sets c) is all at.0 at.1)) at.2) explained
    where
      at_least : (v n : ℤ) → int_le n v ≡ true → n ≤ℤ v
      at_least v n h = grind (arith, ints)

  pub said_to : (high level : ℤ) → claim ≡ that (Variable part.var) AtMost high → ((v w : ℤ) → v ≤ℤ high → weight_at part v ≡ Some w → level ≤ℤ w) → SaysNoLighter trail (parts.Variable part) (Some level) old new
  said_to high level is heavy =
      grown-map trail (λ sets. IsEntailed sets claim) (λ sets. IsNoLighter sets (parts.Variable part) (Some level)) old new
      (λ sets all w at. heavy at.0 w (at_most at.0 high (subst (λ (c : Claim). IsEntailed sets c) is all at.0 at.1)) at.2) explained

  pub said_entry : (listed : Listed) (k : ℕ) (level : Option ℤ) → claim ≡ that (Variable part.var) NotEqual (listed.low +ℤ pos k) → IsGrown trail (entry_said part listed level k) old new
  said_entry listed k level is =
      grown-map trail (λ sets. IsEntailed sets claim) (entry_said part listed level k) old new
      (λ sets all w member weighs. absurd (not_itself (listed.low +ℤ pos k) (subst (λ (c : Claim). IsEntailed sets c) is all (listed.low +ℤ pos k) member))) explained
    where
      not_itself : (v : ℤ) → not (int_eq v v) ≡ true → ⊥
      not_itself v h = grind (arith, ints)

-- a value that weighs less than the level is not there, where none does
pub entry_absent : (sets : List IntSet) (part : VariablePart) (claim : Claim) (value : ℤ) (level found : Option ℤ) → claim ≡ that (Variable part.var) NotEqual value → found ≡ weight_at part value → ((w : ℤ) × (found ≡ Some w)) → IfSome found (λ w. Reaches level w → ⊥) → IsNoLighter sets (parts.Variable part) level → IsEntailed sets claim
entry_absent sets part claim value level found is weighs some light none = subst (λ (c : Claim). IsEntailed sets c) (sym is) (λ v may. elim (cases_Bool (int_eq v value)) [
  | inl same ↦
      let at : v ≡ value = equal_of v value same in
      let out = subst (λ (o : Option ℤ). IfSome o (λ w. Reaches level w → ⊥)) some.1 light in
      absurd (out (none some.0 (value, subst (λ (x : ℤ). contains (set_of sets part.var) x ≡ true) at may, sym weighs ∙ some.1)))
  | inr apart ↦ ap not apart
])

-- ---- by a value of a place

-- the clause says already that the variable has not the value
pub barred_said : (trail : Levels) (clause : List Lit) (var : VarId) (value : ℤ) → IsVariable (length trail.declared) var → IsToldOut clause var value → IsFalseClause trail clause → IsGrown trail (λ sets. MayBe sets (Variable var) value → ⊥) clause clause
barred_said trail clause var value fits (lit, there, same, on) still =
    grown-none trail (λ sets. MayBe sets (Variable var) value → ⊥) clause
    (λ sets left may. false≢true (sym (All-contains (λ (l : Lit). l.var ≡ var → is_true_at l value ≡ false) clause lit (left.left (Variable var) value fits may).1 there same) ∙ on)) still

module _ (term : Term) (value : ℤ) (claim : Claim) (is : claim ≡ that term NotEqual value) where
  pub differs_said : (trail : Levels) (old new : List Lit) → IsClaimExplained trail claim old new → IsGrown trail (λ sets. MayBe sets term value → ⊥) old new
  differs_said trail old new explained =
      grown-map trail (λ sets. IsEntailed sets claim) (λ sets. MayBe sets term value → ⊥) old new (λ sets all may. not_itself value (subst (λ (c : Claim). IsEntailed sets c) is all value may)) explained
    where
      not_itself : (v : ℤ) → not (int_eq v v) ≡ true → ⊥
      not_itself v h = grind (arith, ints)

  pub differs_present : (sets : List IntSet) → (MayBe sets term value → ⊥) → IsEntailed sets claim
  differs_present sets out = subst (λ (c : Claim). IsEntailed sets c) (sym is) (λ v may. elim (cases_Bool (int_eq v value)) [
    | inl same ↦ absurd (out (subst (MayBe sets term) (equal_of v value same) may))
    | inr apart ↦ ap not apart
  ])
