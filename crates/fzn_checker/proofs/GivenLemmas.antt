-- In a satisfaction, values pass the cuts of earlier solutions where they give the output variables what none of those gave.
use Rattle.std.proofs.Common.{◌≡◌, Bool, true, false, not, ◌&&◌, ◌||◌, cond, List, [], ◌∷◌, ◌++◌, map, refl, sym, ap, subst, ◌∙◌, ℤ, All}
use Rattle.std.specs.List.{list_any}
use Rattle.std.specs.Ordering.{int_eq}
use Rattle.std.specs.Cmp.Lexicographic.{pointwise}
use Rattle.std.proofs.lemmas.Bool.{or_parts}
use Rattle.std.proofs.lemmas.List.{map-append}
use Rattle.std.proofs.lemmas.List.Elements.{All-nil, All-cons, All-head, All-tail}
use Rattle.fzn_domain.specs.declared.literal.VarId.{VarId}
use Rattle.fzn_domain.specs.Narrow.{value_of, is_clause_true}
use Rattle.fzn_meaning.specs.declared.model.Goal.{Goal}
use Rattle.fzn_meaning.specs.declared.model.Goal.TheVariants.{Satisfy}
use Rattle.fzn_meaning.specs.declared.model.Model.{Model}
use Rattle.fzn_meaning.specs.Solutions.{PassesCuts, cut_for}
use Rattle.fzn_checker.specs.Given.{given_by, given_in, is_given, AreGiven}

-- ---- lists in a set

-- a test of what is seen of each key
pub any-seen : {X Y : Type 0} (seen : X → Y) (test : Y → Bool) (xs : List X) → list_any test (map seen xs) ≡ list_any (λ x. test (seen x)) xs
any-seen seen test [] = refl
any-seen seen test (x ∷ xs) = ap (λ b. test (seen x) || b) (any-seen seen test xs)

-- a new key goes last
pub new-seen : {X Y : Type 0} (seen : X → Y) (same : Y → Y → Bool) (xs new : List X) (x : X) → list_any (same (seen x)) (map seen xs) ≡ false → new ≡ cond (list_any (λ k. same (seen x) (seen k)) xs) xs (xs ++ x ∷ []) → map seen new ≡ map seen xs ++ seen x ∷ []
new-seen seen same xs new x absent is =
    let none : list_any (λ k. same (seen x) (seen k)) xs ≡ false = sym (any-seen seen (same (seen x)) xs) ∙ absent in
    ap (map seen) (is ∙ ap (λ b. cond b xs (xs ++ x ∷ [])) none) ∙ map-append seen xs (x ∷ [])

-- ---- cuts

not-and : (a b : Bool) → (not a || not b) ≡ not (a && b)
not-and true b = refl
not-and false b = refl

cut-given : (outputs : List VarId) (earlier values : List ℤ) → is_clause_true values (cut_for Satisfy outputs earlier) ≡ not (pointwise int_eq (given_by outputs values) (given_by outputs earlier))
cut-given [] earlier values = refl
cut-given (var ∷ outputs) earlier values =
    let same = int_eq (value_of values var) (value_of earlier var) in
    ap (λ b. not same || b) (cut-given outputs earlier values) ∙ not-and same (pointwise int_eq (given_by outputs values) (given_by outputs earlier))

pub not-false : (b : Bool) → b ≡ false → not b ≡ true
not-false b e = ap not e

pub false-not : (b : Bool) → not b ≡ true → b ≡ false
false-not true e = sym e
false-not false e = refl

abbrev Passes : List VarId → List ℤ → List ℤ → Type 0
Passes outputs values earlier = is_clause_true values (cut_for Satisfy outputs earlier) ≡ true

passes-all : (outputs : List VarId) (found : List (List ℤ)) (values : List ℤ) → is_given (given_in outputs found) (given_by outputs values) ≡ false → All (Passes outputs values) found
passes-all outputs [] values none = All-nil (Passes outputs values)
passes-all outputs (m ∷ found) values none =
    let parts = or_parts (pointwise int_eq (given_by outputs values) (given_by outputs m)) (is_given (given_in outputs found) (given_by outputs values)) none in
    All-cons (Passes outputs values) m found (cut-given outputs m values ∙ not-false _ parts.0) (passes-all outputs found values parts.1)

not-given : (outputs : List VarId) (found : List (List ℤ)) (values : List ℤ) → All (Passes outputs values) found → is_given (given_in outputs found) (given_by outputs values) ≡ false
not-given outputs [] values passes = refl
not-given outputs (m ∷ found) values passes =
    let first = false-not (pointwise int_eq (given_by outputs values) (given_by outputs m)) (sym (cut-given outputs m values) ∙ All-head (Passes outputs values) m found passes) in
    ap (λ b. b || is_given (given_in outputs found) (given_by outputs values)) first ∙ not-given outputs found values (All-tail (Passes outputs values) m found passes)

module _ (model : Model) (found given : List (List ℤ)) (values : List ℤ) (satisfy : model.goal ≡ Satisfy) (are : AreGiven model found given) where
  pub passes-new : is_given given (given_by model.outputs values) ≡ false → PassesCuts model found values
  passes-new none =
      subst (λ (goal : Goal). All (λ m. is_clause_true values (cut_for goal model.outputs m) ≡ true) found) (sym satisfy)
      (passes-all model.outputs found values (subst (λ (lists : List (List ℤ)). is_given lists (given_by model.outputs values) ≡ false) (are satisfy) none))

  pub new-passes : PassesCuts model found values → is_given given (given_by model.outputs values) ≡ false
  new-passes passes =
      subst (λ (lists : List (List ℤ)). is_given lists (given_by model.outputs values) ≡ false) (sym (are satisfy))
      (not-given model.outputs found values (subst (λ (goal : Goal). All (λ m. is_clause_true values (cut_for goal model.outputs m) ≡ true) found) satisfy passes))

-- one more solution
pub given-more : (model : Model) (found given : List (List ℤ)) (values : List ℤ) → AreGiven model found given → AreGiven model (found ++ values ∷ []) (given ++ given_by model.outputs values ∷ [])
given-more model found given values are = λ satisfy.
    ap (λ (lists : List (List ℤ)). lists ++ given_by model.outputs values ∷ []) (are satisfy) ∙ sym (map-append (given_by model.outputs) found (values ∷ []))
