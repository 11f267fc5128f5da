-- Sets within sets, and what is certain on them.
use Rattle.std.proofs.Common.{◌≡◌, ℕ, ◌-◌, ◌<◌, ◌≤◌, true, false, not, ℤ, pos, List, [], ◌∷◌, length, map, get_or, All, sym, ap, subst, ◌∙◌, inl, inr, arith, get_or-set_same}
use Rattle.std.proofs.lemmas.Bool.{cases_eq, cases_lt, true≢false, or_left, or_right}
use Rattle.std.proofs.lemmas.List.{get_or_past, get_or-map, length-map}
use Rattle.std.proofs.lemmas.List.Elements.{All-get_or, All-weaker}
use Rattle.fzn_domain.specs.declared.literal.Lit.{Lit}
use Rattle.fzn_domain.specs.Literal.{negated}
use Rattle.fzn_domain.specs.IntSet.{IntSet, contains, size, no_values, kept, is_possible, least}
use Rattle.fzn_domain.specs.Narrow.{IsVariable, IsWithin, NoneEmpty, value_of, set_of, narrowed, is_literal_true, is_clause_true}
use Rattle.fzn_domain.proofs.SetLemmas.{kept_within, contains-no_values, is_true_at-negated, impossible_when, member_of_size, contains-least}
use Rattle.fzn_domain.proofs.NarrowLemmas.{length-narrowed, set_of-narrowed, other_set-narrowed}
use Rattle.fzn_state.specs.Learned.{IsTrueAtEach, HasCertain, HasLiteral}

-- each set of the first list lies within that of the second
abbrev pub Within : List IntSet → List IntSet → Type 0
Within small large = (k : ℕ) (v : ℤ) → contains (get_or small k no_values) v ≡ true → contains (get_or large k no_values) v ≡ true

pub Within-self : (sets : List IntSet) → Within sets sets
Within-self sets k v h = h

pub Within-through : (a b c : List IntSet) → Within a b → Within b c → Within a c
Within-through a b c f g k v h = g k v (f k v h)

nothing_past : (sets : List IntSet) (k : ℕ) (v : ℤ) → length sets ≤ k → contains (get_or sets k no_values) v ≡ true → ⊥
nothing_past sets k v past h = true≢false (sym h ∙ ap (λ (s : IntSet). contains s v) (get_or_past sets k no_values past) ∙ contains-no_values v)

pub Within-narrowed : (sets : List IntSet) (lit : Lit) → Within (narrowed sets lit) sets
unfolding narrowed
Within-narrowed sets lit k v h = elim (cases_eq k (lit.var.0 - 1)) [
  | inr apart ↦ ap (λ (s : IntSet). contains s v) (sym (other_set-narrowed sets lit k apart)) ∙ h
  | inl same ↦ elim (cases_lt k (length sets)) [
    | inl inside ↦
        let at : lit.var.0 - 1 < length sets = omega arith in
        let is : get_or (narrowed sets lit) (lit.var.0 - 1) no_values ≡ kept (set_of sets lit.var) lit = get_or-set_same sets (lit.var.0 - 1) _ no_values at in
        let there : contains (get_or (narrowed sets lit) (lit.var.0 - 1) no_values) v ≡ true = subst (λ (n : ℕ). contains (get_or (narrowed sets lit) n no_values) v ≡ true) same h in
        let kept_there : contains (kept (set_of sets lit.var) lit) v ≡ true = ap (λ (s : IntSet). contains s v) (sym is) ∙ there in
        subst (λ (n : ℕ). contains (get_or sets n no_values) v ≡ true) (sym same) ((kept_within (set_of sets lit.var) lit v kept_there).0)
    | inr past ↦ let count = length-narrowed sets lit in absurd (nothing_past (narrowed sets lit) k v (omega arith) h)
  ]
]

pub IsCertain-within : (small large : List IntSet) (lit : Lit) → Within small large → IsTrueAtEach large lit → IsTrueAtEach small lit
IsCertain-within small large lit w t v h = t v (w (lit.var.0 - 1) v h)

pub IsCertain-narrowed : (sets : List IntSet) (lit : Lit) → IsVariable (length sets) lit.var → IsTrueAtEach (narrowed sets lit) lit
IsCertain-narrowed sets lit var v h = (kept_within (set_of sets lit.var) lit v (ap (λ (s : IntSet). contains s v) (sym (set_of-narrowed sets lit var)) ∙ h)).1

-- the negation of a certain literal is not possible
pub impossible-negated : (sets : List IntSet) (lit : Lit) → IsTrueAtEach sets lit → is_possible (set_of sets lit.var) (negated lit) ≡ false
impossible-negated sets lit t = impossible_when (set_of sets lit.var) (negated lit) (λ v h. is_true_at-negated lit v ∙ ap not (t v h))

-- sets that are not empty hold an assignment
pub IsWithin-least : (sets : List IntSet) → NoneEmpty sets → IsWithin sets (map least sets)
IsWithin-least sets filled = record {
  one_each = length-map sets least;
  inside = λ k h.
      let s = get_or sets k no_values in
      let m = member_of_size s (All-get_or (λ (t : IntSet). 0 < size t) sets k no_values h filled) in
      ap (contains s) (get_or-map least sets k no_values (pos 0) h) ∙ contains-least s m.0 m.1;
}

pub IsWithin-larger : (small large : List IntSet) (a : List ℤ) → length small ≡ length large → Within small large → IsWithin small a → IsWithin large a
IsWithin-larger small large a count w h = record {
  one_each = h.one_each ∙ count;
  inside = λ k i. w k (get_or a k (pos 0)) (h.inside k (omega arith));
}

-- a clause with a certain literal is true
pub certain-true : (sets : List IntSet) (a : List ℤ) (clause : List Lit) → IsWithin sets a → HasCertain (length sets) sets clause → is_clause_true a clause ≡ true
certain-true sets a [] h t = absurd t
certain-true sets a (lit ∷ clause) h (inl t) =
    let var = t.0 in
    let index : lit.var.0 - 1 < length sets = omega arith in
    or_left (is_literal_true a lit) (is_clause_true a clause) (t.1 (value_of a lit.var) (h.inside (lit.var.0 - 1) index))
certain-true sets a (lit ∷ clause) h (inr t) = or_right (is_literal_true a lit) (is_clause_true a clause) (certain-true sets a clause h t)

HasCertain-by : (count : ℕ) (small large : List IntSet) (clause : List Lit) → ((lit : Lit) → IsTrueAtEach large lit → IsTrueAtEach small lit) → HasCertain count large clause → HasCertain count small clause
HasCertain-by count small large [] f t = t
HasCertain-by count small large (lit ∷ clause) f (inl t) = inl (t.0, f lit t.1)
HasCertain-by count small large (lit ∷ clause) f (inr t) = inr (HasCertain-by count small large clause f t)

pub HasCertain-within : (count : ℕ) (small large : List IntSet) (clause : List Lit) → Within small large → HasCertain count large clause → HasCertain count small clause
HasCertain-within count small large clause w t = HasCertain-by count small large clause (λ lit c. IsCertain-within small large lit w c) t

pub backed-within : (count : ℕ) (small large : List IntSet) (clauses : List (List Lit)) → Within small large → All (HasCertain count large) clauses → All (HasCertain count small) clauses
backed-within count small large clauses w h = All-weaker (HasCertain count large) (HasCertain count small) (λ c t. HasCertain-within count small large c w t) clauses h

-- a literal of the clause that was asserted is true
pub HasCertain-asserted : (count : ℕ) (sets : List IntSet) (lit : Lit) (clause : List Lit) → length sets ≡ count → IsVariable count lit.var → HasLiteral lit clause → HasCertain count (narrowed sets lit) clause
HasCertain-asserted count sets lit [] e var h = absurd h
HasCertain-asserted count sets lit (other ∷ clause) e var (inl same) =
    let P : Lit → Type 0 = λ l. IsVariable count l.var × IsTrueAtEach (narrowed sets lit) l in
    let there : IsVariable (length sets) lit.var = (omega arith, omega arith) in
    inl (subst P same (var, IsCertain-narrowed sets lit there))
HasCertain-asserted count sets lit (other ∷ clause) e var (inr h) = inr (HasCertain-asserted count sets lit clause e var h)
