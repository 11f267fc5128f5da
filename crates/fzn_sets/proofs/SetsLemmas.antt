-- What the calls do to the sets and to the list of narrowings.
use Rattle.std.proofs.Common.{◌≡◌, ℕ, ◌+◌, ◌-◌, ◌<◌, ◌≤◌, Bool, true, false, cond, not, List, [], ◌∷◌, ◌++◌, length, length-append, take, drop, take-append-drop, get_or, set, Some, slice_get, refl, sym, ap, ap₂, ◌∙◌, subst, inl, inr, arith}
use Rattle.std.proofs.lemmas.Bool.{cases_lt}
use Rattle.std.proofs.lemmas.List.{map-append, length-map, set-set, set-get_or, get_or_default, get_or_append_left, get_or_push, take-append-le, take_all, get_or-map}
use Rattle.std.proofs.lemmas.List.Elements.{filter-append}
use Rattle.std.proofs.lemmas.List.Filters.{length-filter_more}
use Rattle.std.proofs.lemmas.List.Sums.{fold-append}
use Rattle.std.proofs.lemmas.Option.{get_or_from_slice_get}
use Rattle.fzn_domain.specs.declared.literal.Lit.{Lit}
use Rattle.fzn_domain.specs.IntSet.{IntSet, no_values, kept, is_possible}
use Rattle.fzn_domain.specs.Narrow.{IsVariable, set_of, narrowed, possible_in}
use Rattle.fzn_domain.proofs.NarrowLemmas.{length-narrowed}
use Rattle.fzn_sets.specs.declared.sets.Narrowing.{Narrowing}
use Rattle.fzn_sets.specs.declared.sets.Possible.{Possible}
use Rattle.fzn_sets.specs.declared.sets.Possible.TheVariants.{Nothing, One, Several}
use Rattle.fzn_sets.specs.Sets.{Narrowed, narrowed_along, narrowed_by, undone, IsPossibleIn}
use Rattle.fzn_sets.specs.Inside.{lits_narrowed, IsNarrowing, AllNarrowings, IsSets}

-- ---- the sets

pub narrowed_along-push : (declared : List IntSet) (lits : List Lit) (lit : Lit) → narrowed_along declared (lits ++ lit ∷ []) ≡ narrowed (narrowed_along declared lits) lit
narrowed_along-push declared lits lit = fold-append narrowed declared lits (lit ∷ [])

pub length-replayed : (declared : List IntSet) (lits : List Lit) → length (narrowed_along declared lits) ≡ length declared
length-replayed declared [] = refl
length-replayed declared (lit ∷ lits) = length-replayed (narrowed declared lit) lits ∙ length-narrowed declared lit

pub set_narrowed : (sets : List IntSet) (lit : Lit) (now new : IntSet) → IsVariable (length sets) lit.var → now ≡ get_or sets (lit.var.0 - 1) now → new ≡ kept now lit → set sets (lit.var.0 - 1) new ≡ narrowed sets lit
unfolding narrowed
set_narrowed sets lit now new var is kept_is =
    let at : now ≡ set_of sets lit.var = is ∙ get_or_default sets (lit.var.0 - 1) now no_values (omega arith) in
    ap (λ (s : IntSet). set sets (lit.var.0 - 1) s) (kept_is ∙ ap (λ (s : IntSet). kept s lit) at)

-- the set that stood before is put back
pub narrowed_back : (sets : List IntSet) (lit : Lit) (was : IntSet) → was ≡ set_of sets lit.var → set (narrowed sets lit) (lit.var.0 - 1) was ≡ sets
unfolding narrowed
narrowed_back sets lit was is =
    set-set sets (lit.var.0 - 1) (kept (set_of sets lit.var) lit) was
    ∙ ap (λ (s : IntSet). set sets (lit.var.0 - 1) s) is
    ∙ set-get_or sets (lit.var.0 - 1) no_values

-- ---- the narrowings

module _ (narrowings : List Narrowing) (s : Narrowing) where
  pub lits_narrowed-push : lits_narrowed (narrowings ++ s ∷ []) ≡ lits_narrowed narrowings ++ s.lit ∷ []
  lits_narrowed-push = map-append (λ (narrowing : Narrowing). narrowing.lit) narrowings (s ∷ [])

  -- the literals before a place among the narrowings that stood
  earlier_same : (i : ℕ) → i ≤ length narrowings → take i (lits_narrowed (narrowings ++ s ∷ [])) ≡ take i (lits_narrowed narrowings)
  earlier_same i h =
      let len = length-map narrowings (λ (narrowing : Narrowing). narrowing.lit) in
      ap (λ (lits : List Lit). take i lits) lits_narrowed-push ∙ take-append-le i (lits_narrowed narrowings) (s.lit ∷ []) (omega arith)

  earlier_all : take (length narrowings) (lits_narrowed narrowings) ≡ lits_narrowed narrowings
  earlier_all = let len = length-map narrowings (λ (narrowing : Narrowing). narrowing.lit) in take_all (length narrowings) (lits_narrowed narrowings) (omega arith)

  -- without the last narrowing the literals are those before it
  pub lits-front : take (length (lits_narrowed (narrowings ++ s ∷ [])) - 1) (lits_narrowed (narrowings ++ s ∷ [])) ≡ lits_narrowed narrowings
  lits-front =
      let len : length (lits_narrowed (narrowings ++ s ∷ [])) - 1 ≡ length narrowings = omega (arith, length-map (narrowings ++ s ∷ []) (λ (narrowing : Narrowing). narrowing.lit), length-append narrowings (s ∷ [])) in
      ap (λ (n : ℕ). take n (lits_narrowed (narrowings ++ s ∷ []))) len ∙ earlier_same (length narrowings) (omega arith) ∙ earlier_all

  AllNarrowings-push : (declared : List IntSet) → AllNarrowings declared narrowings → IsNarrowing declared (lits_narrowed narrowings) s → AllNarrowings declared (narrowings ++ s ∷ [])
  AllNarrowings-push declared all here = λ i d h. elim (cases_lt i (length narrowings)) [
    | inl lt ↦
        subst (λ (lits : List Lit). IsNarrowing declared lits (get_or (narrowings ++ s ∷ []) i d)) (sym (earlier_same i (omega arith)))
        (subst (λ (narrowing : Narrowing). IsNarrowing declared (take i (lits_narrowed narrowings)) narrowing) (sym (get_or_append_left narrowings (s ∷ []) d i lt)) (all i d lt))
    | inr ge ↦
        let same : length narrowings ≡ i = omega (arith, length-append narrowings (s ∷ [])) in
        let lits : lits_narrowed narrowings ≡ take i (lits_narrowed (narrowings ++ s ∷ [])) =
        sym earlier_all ∙ ap (λ (j : ℕ). take j (lits_narrowed narrowings)) same ∙ sym (earlier_same i (omega arith)) in
        subst (λ (xs : List Lit). IsNarrowing declared xs (get_or (narrowings ++ s ∷ []) i d)) lits
        (subst (λ (narrowing : Narrowing). IsNarrowing declared (lits_narrowed narrowings) narrowing) (sym (get_or_push narrowings s d i same)) here)
  ]

  AllNarrowings-front : (declared : List IntSet) → AllNarrowings declared (narrowings ++ s ∷ []) → AllNarrowings declared narrowings
  AllNarrowings-front declared all = λ i d h.
      subst (λ (lits : List Lit). IsNarrowing declared lits (get_or narrowings i d)) (earlier_same i (omega arith))
      (subst (λ (narrowing : Narrowing). IsNarrowing declared (take i (lits_narrowed (narrowings ++ s ∷ []))) narrowing) (get_or_append_left narrowings (s ∷ []) d i h)
      (all i d (omega (arith, length-append narrowings (s ∷ [])))))

  IsNarrowing-last : (declared : List IntSet) → AllNarrowings declared (narrowings ++ s ∷ []) → IsNarrowing declared (lits_narrowed narrowings) s
  IsNarrowing-last declared all =
      subst (λ (lits : List Lit). IsNarrowing declared lits s) (earlier_same (length narrowings) (omega arith) ∙ earlier_all)
      (subst (λ (narrowing : Narrowing). IsNarrowing declared (take (length narrowings) (lits_narrowed (narrowings ++ s ∷ []))) narrowing) (get_or_push narrowings s s (length narrowings) refl)
      (all (length narrowings) s (omega (arith, length-append narrowings (s ∷ [])))))

-- ---- the whole

-- no narrowing
pub IsSets-new : (declared present : List IntSet) (narrowings : List Narrowing) → present ≡ declared → narrowings ≡ [] → IsSets declared present narrowings
IsSets-new declared present narrowings present_is none = record {
  present_is = present_is ∙ ap (λ (xs : List Narrowing). narrowed_along declared (lits_narrowed xs)) (sym none);
  all_narrowings = λ i d h. absurd (omega (arith, ap (λ (xs : List Narrowing). length xs) none));
}

pub length-present : (declared present : List IntSet) (narrowings : List Narrowing) → IsSets declared present narrowings → length present ≡ length declared
length-present declared present narrowings it = ap (λ (xs : List IntSet). length xs) it.present_is ∙ length-replayed declared (lits_narrowed narrowings)

-- the last narrowing is dropped
module _ (declared present : List IntSet) (narrowings : List Narrowing) (s : Narrowing) (all : List Narrowing) (is : all ≡ narrowings ++ s ∷ []) (whole : IsSets declared present all) where
  it : IsSets declared present (narrowings ++ s ∷ [])
  it = subst (λ (xs : List Narrowing). IsSets declared present xs) is whole

  pub back_in_present : s.lit.var.0 - 1 < length present
  back_in_present =
      let var = (IsNarrowing-last narrowings s declared it.all_narrowings).variable in
      omega (arith, length-present declared present (narrowings ++ s ∷ []) it)

  pub present-back : set present (s.lit.var.0 - 1) s.before ≡ narrowed_along declared (lits_narrowed narrowings)
  present-back =
      let narrowing = IsNarrowing-last narrowings s declared it.all_narrowings in
      ap (λ (xs : List IntSet). set xs (s.lit.var.0 - 1) s.before)
      (it.present_is ∙ ap (λ (lits : List Lit). narrowed_along declared lits) (lits_narrowed-push narrowings s) ∙ narrowed_along-push declared (lits_narrowed narrowings) s.lit)
      ∙ narrowed_back (narrowed_along declared (lits_narrowed narrowings)) s.lit s.before narrowing.set

  pub IsSets-back : (new : List IntSet) → new ≡ set present (s.lit.var.0 - 1) s.before → IsSets declared new narrowings
  IsSets-back new new_is = record {
    present_is = new_is ∙ present-back;
    all_narrowings = AllNarrowings-front narrowings s declared it.all_narrowings;
  }

  pub undone_is : (new : List IntSet) → new ≡ set present (s.lit.var.0 - 1) s.before → (sets : Narrowed) → record { declared = declared; present = present; lits = lits_narrowed all } ≡ sets → record { declared = declared; present = new; lits = lits_narrowed narrowings } ≡ undone sets
  undone_is new new_is sets sets_is =
      let lits : lits_narrowed narrowings ≡ take (length (lits_narrowed all) - 1) (lits_narrowed all) =
      sym (ap (λ (xs : List Narrowing). take (length (lits_narrowed xs) - 1) (lits_narrowed xs)) is ∙ lits-front narrowings s) in
      ap₂ (λ (p : List IntSet) (xs : List Lit). record { declared = declared; present = p; lits = xs }) (new_is ∙ present-back ∙ ap (λ (xs : List Lit). narrowed_along declared xs) lits) lits
      ∙ ap undone sets_is

-- a narrowing is pushed
module _ (declared present : List IntSet) (narrowings : List Narrowing) (it : IsSets declared present narrowings) where
  pub IsSets-push : (lit : Lit) (before now new : IntSet) → IsVariable (length present) lit.var → before ≡ now → now ≡ get_or present (lit.var.0 - 1) now → new ≡ kept now lit → (more : List Narrowing) → more ≡ narrowings ++ record { lit = lit; before = before } ∷ [] → IsSets declared (set present (lit.var.0 - 1) new) more
  IsSets-push lit before now new var copied is new_is more more_is =
      let s : Narrowing = record { lit = lit; before = before } in
      let len = length-present declared present narrowings it in
      let at : before ≡ set_of (narrowed_along declared (lits_narrowed narrowings)) lit.var =
      copied ∙ is ∙ get_or_default present (lit.var.0 - 1) now no_values (omega arith)
      ∙ ap (λ (xs : List IntSet). get_or xs (lit.var.0 - 1) no_values) it.present_is in
      subst (λ (xs : List Narrowing). IsSets declared (set present (lit.var.0 - 1) new) xs) (sym more_is)
      (record {
        present_is =
            set_narrowed present lit now new var is new_is
            ∙ ap (λ (xs : List IntSet). narrowed xs lit) it.present_is
            ∙ sym (narrowed_along-push declared (lits_narrowed narrowings) lit)
            ∙ ap (λ (lits : List Lit). narrowed_along declared lits) (sym (lits_narrowed-push narrowings s));
        all_narrowings = AllNarrowings-push narrowings s declared it.all_narrowings (record { variable = omega arith; set = at });
      })

  -- the sets as callers see them
  pub pushed_is : (lit : Lit) (before now new : IntSet) → IsVariable (length present) lit.var → now ≡ get_or present (lit.var.0 - 1) now → new ≡ kept now lit → (more : List Narrowing) → more ≡ narrowings ++ record { lit = lit; before = before } ∷ [] → (sets : Narrowed) → record { declared = declared; present = present; lits = lits_narrowed narrowings } ≡ sets → record { declared = declared; present = set present (lit.var.0 - 1) new; lits = lits_narrowed more } ≡ narrowed_by lit sets
  pushed_is lit before now new var is new_is more more_is sets sets_is =
      ap₂ (λ (p : List IntSet) (xs : List Lit). record { declared = declared; present = p; lits = xs })
      (set_narrowed present lit now new var is new_is)
      (ap (λ (xs : List Narrowing). lits_narrowed xs) more_is ∙ lits_narrowed-push narrowings (record { lit = lit; before = before }))
      ∙ ap (narrowed_by lit) sets_is

-- what a narrowing says to callers
pub set_at : (declared : List IntSet) (narrowings : List Narrowing) → AllNarrowings declared narrowings → (i : ℕ) (narrowing : Narrowing) (lit : Lit) → i < length (lits_narrowed narrowings) → narrowing ≡ get_or narrowings i narrowing → slice_get (lits_narrowed narrowings) i ≡ Some lit → narrowing.before ≡ set_of (narrowed_along declared (take i (lits_narrowed narrowings))) lit.var
set_at declared narrowings all i narrowing lit inside is found =
    let len = length-map narrowings (λ (s : Narrowing). s.lit) in
    let below : i < length narrowings = omega arith in
    let here : IsNarrowing declared (take i (lits_narrowed narrowings)) narrowing = subst (λ (s : Narrowing). IsNarrowing declared (take i (lits_narrowed narrowings)) s) (sym is) (all i narrowing below) in
    let same : narrowing.lit ≡ lit =
    ap (λ (s : Narrowing). s.lit) is
    ∙ sym (get_or-map (λ (s : Narrowing). s.lit) narrowings i narrowing lit below)
    ∙ get_or_from_slice_get (lits_narrowed narrowings) i lit lit found in
    here.set ∙ ap (λ (l : Lit). set_of (narrowed_along declared (take i (lits_narrowed narrowings))) l.var) same

-- ---- possible literals

some_found : (lits : List Lit) (found : Possible) → IsPossibleIn lits found → (found ≡ Nothing → ⊥) → 1 ≤ length lits
some_found lits Nothing is other = absurd (other refl)
some_found lits (One lit) is other = omega (arith, ap (λ (all : List Lit). length all) is)
some_found lits Several is other = omega arith

not_not : (b : Bool) → not b ≡ false → b ≡ true
not_not true h = refl
not_not false h = sym h

-- one more after a literal was found
pub several : (sets : List IntSet) (clause : List Lit) (i : ℕ) (found : Possible) (d : Lit) (s : IntSet) (fails : Bool) → IsPossibleIn (possible_in sets (take i clause)) found → (found ≡ Nothing → ⊥) → i < length clause → s ≡ set_of sets (get_or clause i d).var → fails ≡ not (is_possible s (get_or clause i d)) → fails ≡ false → 1 < length (possible_in sets clause)
several sets clause i found d s fails so_far other below s_is fails_is never =
    let test = λ (lit : Lit). is_possible (set_of sets lit.var) lit in
    let here : test (get_or clause i d) ≡ true = ap (λ (t : IntSet). is_possible t (get_or clause i d)) (sym s_is) ∙ not_not _ (sym fails_is ∙ never) in
    let first = some_found (possible_in sets (take i clause)) found so_far other in
    let more : length (possible_in sets (take (i + 1) clause)) ≡ length (possible_in sets (take i clause)) + 1 =
    length-filter_more test clause i d below ∙ ap (λ (b : Bool). length (possible_in sets (take i clause)) + cond b 1 0) here in
    let parts : length (possible_in sets clause) ≡ length (possible_in sets (take (i + 1) clause)) + length (possible_in sets (drop (i + 1) clause)) =
    ap (λ (all : List Lit). length (possible_in sets all)) (sym (take-append-drop (i + 1) clause))
    ∙ ap (λ (all : List Lit). length all) (filter-append test (take (i + 1) clause) (drop (i + 1) clause))
    ∙ length-append (possible_in sets (take (i + 1) clause)) (possible_in sets (drop (i + 1) clause)) in
    omega arith
