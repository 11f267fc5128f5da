-- Least weights and levels one for each part, what they come to together, and when that meets the rule.
use Rattle.std.proofs.Common.{◌≡◌, ◌≢◌, ◌⊎◌, ℕ, suc, ◌+◌, ◌<◌, List, [], ◌∷◌, ◌++◌, length, get_or, refl, sym, ap, subst, ◌∙◌, inl, inr, arith, ℤ, pos, ◌+ℤ◌, ◌≤ℤ◌, ◌<ℤ◌, All, Option, None, Some, false}
use Rattle.std.specs.List.{Any}
use Rattle.std.proofs.lemmas.Int.{ints}
use Rattle.std.proofs.lemmas.Bool.{cases_lt}
use Rattle.std.proofs.lemmas.List.{length-append, get_or_default, get_or_append_left, get_or_push}
use Rattle.std.proofs.lemmas.List.Elements.{All-head, All-tail, All-push}
use Rattle.fzn_domain.specs.IntSet.{IntSet}
use Rattle.fzn_domain.specs.Narrow.{is_some_empty}
use Rattle.fzn_meaning.specs.declared.row.Part.{Part}
use Rattle.fzn_meaning.specs.declared.row.Row.{Row}
use Rattle.fzn_meaning.specs.Separable.{IsPart, IsSeparableRow}
use Rattle.fzn_rules.specs.Separable.{IsLeastWeight, IsLeastTotal, IsSeparableMet}
use Rattle.fzn_levels.specs.Levels.{IsWeight, sum_of, IsNoLighter, AreNoLighterBut, AreLeasts, AreEnough}
use Rattle.fzn_levels.proofs.CallerLemmas.{some_least, of_least, least_above}

-- ---- least weights one after the other

module _ (sets : List IntSet) (parts : List Part) where
  -- those of the first so many parts
  pub record AreFirstLeasts (count : ℕ) (leasts : List ℤ) : Type 0 where
    pub one_each : length leasts ≡ count
    pub each : (k : ℕ) (p : Part) (d : ℤ) → k < count → IsLeastWeight sets (get_or parts k p) (Some (get_or leasts k d))
    pub bounded : All IsWeight leasts

  pub leasts-more : (i : ℕ) (least : ℤ) (leasts new : List ℤ) → AreFirstLeasts i leasts → ((p : Part) → IsLeastWeight sets (get_or parts i p) (Some least)) → IsWeight least → new ≡ leasts ++ least ∷ [] → AreFirstLeasts (i + 1) new
  leasts-more i least leasts new before here bounded same =
      let count = before.one_each in
      let longer = ap length same in
      let grown : length (leasts ++ least ∷ []) ≡ length leasts + 1 = simp length-append refl in
      record {
        one_each = omega (arith);
        each = λ k p d below. subst (λ (xs : List ℤ). IsLeastWeight sets (get_or parts k p) (Some (get_or xs k d))) (sym same) (elim (cases_lt k i) [
          | inl earlier ↦ subst (λ (x : ℤ). IsLeastWeight sets (get_or parts k p) (Some x)) (sym (get_or_append_left leasts (least ∷ []) d k (omega arith))) (before.each k p d earlier)
          | inr past ↦
              let at : i ≡ k = omega arith in
              subst (λ (n : ℕ). IsLeastWeight sets (get_or parts n p) (Some (get_or (leasts ++ least ∷ []) k d))) at
              (subst (λ (x : ℤ). IsLeastWeight sets (get_or parts i p) (Some x)) (sym (get_or_push leasts least d k (omega arith))) (here p))
        ]);
        bounded = subst (All IsWeight) (sym same) (All-push IsWeight leasts least before.bounded bounded);
      }

-- ---- when the rule is met

-- by levels that no part is lighter than: some part is barred, or the least weights come to no less
Met : List IntSet → List Part → ℤ → Type 0
Met sets parts total = Any (λ (part : Part). IsLeastWeight sets part None) parts ⊎ ((least : ℤ) × IsLeastTotal sets parts least × (total ≤ℤ least))

any_here : (P : Part → Type 0) (part : Part) (parts : List Part) → P part → Any P (part ∷ parts)
any_here P part parts p = (0, part, omega arith, refl, p)

any_later : (P : Part → Type 0) (part : Part) (parts : List Part) → Any P parts → Any P (part ∷ parts)
any_later P part parts (k, q, below, is, p) = (suc k, q, omega arith, is, p)

module _ (sets : List IntSet) where
  met-more : (part : Part) (parts : List Part) (least : Option ℤ) (level rest total : ℤ) → IsLeastWeight sets part least → IsNoLighter sets part (Some level) → total ≡ level +ℤ rest → Met sets parts rest → Met sets (part ∷ parts) total
  unfolding Met
  met-more part parts None level rest total is none sum met = inl (any_here (λ (p : Part). IsLeastWeight sets p None) part parts is)
  met-more part parts (Some least) level rest total is none sum (inl barred) = inl (any_later (λ (p : Part). IsLeastWeight sets p None) part parts barred)
  met-more part parts (Some least) level rest total is none sum (inr (others, are, above)) =
      let here = least_above sets part least level is none in
      inr (least +ℤ others, (least, others, is, are, refl), omega (arith, ints, here, above, sum))

  met_by : (parts : List Part) (levels : List ℤ) → is_some_empty sets ≡ false → All (IsPart (length sets)) parts → length levels ≡ length parts → ((k : ℕ) (p : Part) (d : ℤ) → k < length parts → IsNoLighter sets (get_or parts k p) (Some (get_or levels k d))) → Met sets parts (sum_of levels)
  unfolding Met
  met_by [] [] filled formed count each = inr (pos 0, refl, omega (arith, ints))
  met_by [] (x ∷ levels) filled formed count each = absurd (omega arith)
  met_by (part ∷ parts) [] filled formed count each = absurd (omega arith)
  met_by (part ∷ parts) (x ∷ levels) filled formed count each =
      let own = All-head (IsPart (length sets)) part parts formed in
      let least = some_least sets part filled own in
      met-more part parts least.0 x (sum_of levels) _ least.1 (each 0 part x (omega arith)) refl (met_by parts levels filled (All-tail (IsPart (length sets)) part parts formed) (omega arith) (λ k p d below. each (suc k) p d (omega arith)))

-- on such sets the rule is met
pub met_above : (sets : List IntSet) (row : Row) (levels : List ℤ) → is_some_empty sets ≡ false → IsSeparableRow (length sets) row → length levels ≡ length row.parts → ((k : ℕ) (p : Part) (d : ℤ) → k < length row.parts → IsNoLighter sets (get_or row.parts k p) (Some (get_or levels k d))) → row.bound <ℤ sum_of levels → IsSeparableMet row sets
unfolding Met
met_above sets row levels filled formed count each over = elim (met_by sets row.parts levels filled formed.parts count each) [
  | inl barred ↦ inl barred
  | inr above ↦ inr (above.0, above.1, lt_le row.bound (sum_of levels) above.0 over above.2)
]
  where
    lt_le : (a b c : ℤ) → a <ℤ b → b ≤ℤ c → a <ℤ c
    lt_le a b c h k = omega (arith, ints)

-- so it is where each value of some part is barred
pub met_barred : (sets : List IntSet) (row : Row) (k : ℕ) (part : Part) → k < length row.parts → get_or row.parts k part ≡ part → IsNoLighter sets part None → IsSeparableMet row sets
met_barred sets row k part inside is none = inl (k, part, inside, is, none)

-- ---- levels on the trail

module _ (sets : List IntSet) (parts : List Part) (leasts : List ℤ) (are : AreLeasts sets parts leasts) where
  -- no part is lighter than its least weight
  pub none_lighter : (except : ℕ) → AreNoLighterBut except parts leasts sets
  none_lighter except k p d below apart =
      let count = are.one_each in
      of_least sets (get_or parts k p) (get_or leasts k d) (get_or leasts k d) (are.each k p d (omega arith)) (self (get_or leasts k d))
    where
      self : (x : ℤ) → x ≤ℤ x
      self x = omega (arith, ints)

  pub none_lighter-below : (except : ℕ) (levels : List ℤ) → ((k : ℕ) (d : ℤ) → k < length leasts → k ≢ except → get_or levels k d ≤ℤ get_or leasts k d) → AreNoLighterBut except parts levels sets
  none_lighter-below except levels low k p d below apart =
      let count = are.one_each in
      of_least sets (get_or parts k p) (get_or leasts k d) (get_or levels k d) (are.each k p d (omega arith)) (low k d (omega arith) apart)

-- ---- what a pass goes on with

pub leasts-all : (sets : List IntSet) (parts : List Part) (count : ℕ) (leasts : List ℤ) → count ≡ length parts → AreFirstLeasts sets parts count leasts → AreLeasts sets parts leasts
leasts-all sets parts count leasts whole first =
    let one_each = first.one_each in
    record {
      one_each = omega arith;
      each = λ k p d below. first.each k p d (omega arith);
      bounded = first.bounded;
    }

-- levels that are enough, with no part to be left out
pub enough_for_all : (sets : List IntSet) (parts : List Part) (leasts levels : List ℤ) (bound : ℤ) (except : ℕ) → AreLeasts sets parts leasts → except ≡ length leasts → AreEnough except leasts levels bound → AreNoLighterBut (length parts) parts levels sets
enough_for_all sets parts leasts levels bound except are past enough =
    none_lighter-below sets parts leasts are (length parts) levels (λ k d below apart. enough.below k d below (omega arith))

-- the part at an index, as the code reads it
pub part_at : (parts items : List Part) (k : ℕ) (part : Part) → k < length parts → items ≡ parts → part ≡ get_or items k part → (default : Part) → get_or parts k default ≡ part
part_at parts items k part inside same is default = get_or_default parts k default part inside ∙ sym (is ∙ ap (λ (ps : List Part). get_or ps k part) same)

pub formed_at : (parts : List Part) (count k : ℕ) (part : Part) → All (IsPart count) parts → k < length parts → ((default : Part) → get_or parts k default ≡ part) → IsPart count part
formed_at parts count k part formed inside at = subst (IsPart count) (at part) (formed k part inside)
