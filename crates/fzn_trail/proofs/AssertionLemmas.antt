-- What the fields of the assertions stand for as they grow and shrink.
use Rattle.std.proofs.Common.{◌≡◌, ◌≢◌, ℕ, zero, suc, ◌+◌, ◌-◌, ◌<◌, ◌≤◌, Option, None, Some, List, [], ◌∷◌, ◌++◌, length, take, map, get_or, set, slice_get, length-append, length-set, get_or-set_same, get_or-set_other, refl, sym, ap, subst, ◌∙◌, inl, inr, arith, rules, IfSome, IfNone, option_map}
use Rattle.std.proofs.lemmas.Bool.{cases_eq, cases_lt}
use Rattle.std.proofs.lemmas.List.{map-append, length-map, get_or_append_left, get_or_push, get_or_default, take-append-le, take_all, take-map}
use Rattle.std.proofs.lemmas.List.Elements.{All-push}
use Rattle.std.proofs.lemmas.Option.{slice_get_cases, slice_get-map, get_or_from_slice_get}
use Rattle.std.proofs.lemmas.List.Folds.{fold-map}
use Rattle.std.proofs.lemmas.List.Sums.{fold-append}
use Rattle.fzn_domain.specs.declared.literal.Lit.{Lit}
use Rattle.fzn_domain.specs.IntSet.{IntSet, no_values}
use Rattle.fzn_domain.specs.Narrow.{IsVariable, set_of, narrowed}
use Rattle.fzn_domain.proofs.NarrowLemmas.{length-narrowed}
use Rattle.fzn_sets.specs.Sets.{Narrowed, after, narrowed_by, undone, stood_before}
use Rattle.fzn_sets.specs.Sets as sets
use Rattle.fzn_sets.proofs.SetsLemmas as lemmas
use Rattle.fzn_trail.specs.declared.trail.Entry.{Entry}
use Rattle.fzn_trail.specs.declared.assertions.Assertion.{Assertion}
use Rattle.fzn_trail.specs.Replay.{replayed, set_before, variable_at, IsLastOn, NoneOn}
use Rattle.fzn_trail.specs.Inside.{lits_of, entries_of, IsLastPlace, IsAssertion, AllAssertions, AreLast, AreAssertions}

-- ---- the sets

pub replayed-push : (declared : List IntSet) (entries : List Entry) (e : Entry) → replayed declared (entries ++ e ∷ []) ≡ narrowed (replayed declared entries) e.lit
replayed-push declared entries e = fold-append (λ (sets : List IntSet) (entry : Entry). narrowed sets entry.lit) declared entries (e ∷ [])

pub length-replayed : (declared : List IntSet) (entries : List Entry) → length (replayed declared entries) ≡ length declared
length-replayed declared [] = refl
length-replayed declared (e ∷ entries) = length-replayed (narrowed declared e.lit) entries ∙ length-narrowed declared e.lit

-- the literals of the entries leave the same
pub replayed-lits : (declared : List IntSet) (entries : List Entry) → sets.narrowed_along declared (lits_of entries) ≡ replayed declared entries
replayed-lits declared entries = fold-map narrowed (λ (entry : Entry). entry.lit) declared entries

-- ---- the variables of the entries

module _ (entries : List Entry) (e : Entry) where
  numbers : List Entry → List ℕ
  numbers xs = map (λ (entry : Entry). entry.lit.var.0) xs

  pub variable_at-push : variable_at (entries ++ e ∷ []) (length entries) ≡ e.lit.var.0
  variable_at-push =
      ap (λ (xs : List ℕ). get_or xs (length entries) 0) (map-append (λ (entry : Entry). entry.lit.var.0) entries (e ∷ []))
      ∙ get_or_push (map (λ (entry : Entry). entry.lit.var.0) entries) e.lit.var.0 0 (length entries) (length-map entries (λ (entry : Entry). entry.lit.var.0))

  pub variable_at-before : (k : ℕ) → k < length entries → variable_at (entries ++ e ∷ []) k ≡ variable_at entries k
  variable_at-before k h =
      let len = length-map entries (λ (entry : Entry). entry.lit.var.0) in
      ap (λ (xs : List ℕ). get_or xs k 0) (map-append (λ (entry : Entry). entry.lit.var.0) entries (e ∷ []))
      ∙ get_or_append_left (map (λ (entry : Entry). entry.lit.var.0) entries) (e.lit.var.0 ∷ []) 0 k (omega arith)

  IsLastPlace-here : IsLastOn (entries ++ e ∷ []) e.lit.var.0 (length entries)
  IsLastPlace-here = record {
    in_list = omega (arith, length-append entries (e ∷ []));
    there = variable_at-push;
    last = λ k above below. absurd (omega (arith, length-append entries (e ∷ [])));
  }

  -- an entry on another variable changes nothing
  IsLastPlace-other : (n : ℕ) (place : Option ℕ) → n ≢ e.lit.var.0 → IsLastPlace entries n place → IsLastPlace (entries ++ e ∷ []) n place
  IsLastPlace-other n None apart none = λ k below is. elim (cases_lt k (length entries)) [
    | inl lt ↦ none k lt (sym (variable_at-before k lt) ∙ is)
    | inr ge ↦
        let same : length entries ≡ k = omega (arith, length-append entries (e ∷ [])) in
        apart (sym is ∙ ap (λ (j : ℕ). variable_at (entries ++ e ∷ []) j) (sym same) ∙ variable_at-push)
  ]
  IsLastPlace-other n (Some place) apart found = record {
    in_list = omega (arith, found.in_list, length-append entries (e ∷ []));
    there = variable_at-before place found.in_list ∙ found.there;
    last = λ k above below is. elim (cases_lt k (length entries)) [
      | inl lt ↦ found.last k above lt (sym (variable_at-before k lt) ∙ is)
      | inr ge ↦
          let same : length entries ≡ k = omega (arith, length-append entries (e ∷ [])) in
          apart (sym is ∙ ap (λ (j : ℕ). variable_at (entries ++ e ∷ []) j) (sym same) ∙ variable_at-push)
    ];
  }

  IsLastPlace-back : (n : ℕ) (place : Option ℕ) → n ≢ e.lit.var.0 → IsLastPlace (entries ++ e ∷ []) n place → IsLastPlace entries n place
  IsLastPlace-back n None apart none = λ k below is. none k (omega (arith, length-append entries (e ∷ []))) (variable_at-before k below ∙ is)
  IsLastPlace-back n (Some place) apart found =
      let inside : place < length entries = elim (cases_lt place (length entries)) [
        | inl lt ↦ lt
        | inr ge ↦
            let same : length entries ≡ place = omega (arith, found.in_list, length-append entries (e ∷ [])) in
            absurd (apart (sym found.there ∙ ap (λ (j : ℕ). variable_at (entries ++ e ∷ []) j) (sym same) ∙ variable_at-push))
      ] in
      record {
        in_list = inside;
        there = sym (variable_at-before place inside) ∙ found.there;
        last = λ k above below is. found.last k above (omega (arith, length-append entries (e ∷ []))) (variable_at-before k below ∙ is);
      }

  pub AreLast-push : (count : ℕ) (last : List (Option ℕ)) → IsVariable count e.lit.var → length last ≡ count → AreLast count entries last → AreLast count (entries ++ e ∷ []) (set last (e.lit.var.0 - 1) (Some (length entries)))
  AreLast-push count last var len each = λ k h. elim (cases_eq k (e.lit.var.0 - 1)) [
    | inl same ↦
        let number : e.lit.var.0 ≡ k + 1 = omega arith in
        let at : get_or (set last (e.lit.var.0 - 1) (Some (length entries))) k None ≡ Some (length entries) =
        ap (λ (j : ℕ). get_or (set last (e.lit.var.0 - 1) (Some (length entries))) j None) same ∙ get_or-set_same last (e.lit.var.0 - 1) (Some (length entries)) None (omega arith) in
        subst (λ (place : Option ℕ). IsLastPlace (entries ++ e ∷ []) (k + 1) place) (sym at)
        (subst (λ (n : ℕ). IsLastOn (entries ++ e ∷ []) n (length entries)) number IsLastPlace-here)
    | inr apart ↦
        subst (λ (place : Option ℕ). IsLastPlace (entries ++ e ∷ []) (k + 1) place) (sym (get_or-set_other last (e.lit.var.0 - 1) k (Some (length entries)) None apart))
        (IsLastPlace-other (k + 1) (get_or last k None) (λ is. apart (omega arith)) (each k h))
  ]

  pub AreLast-back : (count : ℕ) (last : List (Option ℕ)) (before : Option ℕ) → IsVariable count e.lit.var → length last ≡ count → IsLastPlace entries e.lit.var.0 before → AreLast count (entries ++ e ∷ []) last → AreLast count entries (set last (e.lit.var.0 - 1) before)
  AreLast-back count last before var len place each = λ k h. elim (cases_eq k (e.lit.var.0 - 1)) [
    | inl same ↦
        let number : e.lit.var.0 ≡ k + 1 = omega arith in
        let at : get_or (set last (e.lit.var.0 - 1) before) k None ≡ before =
        ap (λ (j : ℕ). get_or (set last (e.lit.var.0 - 1) before) j None) same ∙ get_or-set_same last (e.lit.var.0 - 1) before None (omega arith) in
        subst (λ (p : Option ℕ). IsLastPlace entries (k + 1) p) (sym at)
        (subst (λ (n : ℕ). IsLastPlace entries n before) number place)
    | inr apart ↦
        subst (λ (p : Option ℕ). IsLastPlace entries (k + 1) p) (sym (get_or-set_other last (e.lit.var.0 - 1) k before None apart))
        (IsLastPlace-back (k + 1) (get_or last k None) (λ is. apart (omega arith)) (each k h))
  ]

-- ---- the assertions

module _ (assertions : List Assertion) (s : Assertion) where
  pub entries_of-push : entries_of (assertions ++ s ∷ []) ≡ entries_of assertions ++ s.entry ∷ []
  entries_of-push = map-append (λ (assertion : Assertion). assertion.entry) assertions (s ∷ [])

  -- the entries before a place among the assertions that stood
  earlier_same : (i : ℕ) → i ≤ length assertions → take i (entries_of (assertions ++ s ∷ [])) ≡ take i (entries_of assertions)
  earlier_same i h =
      let len = length-map assertions (λ (assertion : Assertion). assertion.entry) in
      ap (λ (es : List Entry). take i es) entries_of-push ∙ take-append-le i (entries_of assertions) (s.entry ∷ []) (omega arith)

  earlier_all : take (length assertions) (entries_of assertions) ≡ entries_of assertions
  earlier_all = let len = length-map assertions (λ (assertion : Assertion). assertion.entry) in take_all (length assertions) (entries_of assertions) (omega arith)

  pub AllAssertions-push : AllAssertions assertions → IsAssertion (entries_of assertions) s → AllAssertions (assertions ++ s ∷ [])
  AllAssertions-push all here = λ i d h. elim (cases_lt i (length assertions)) [
    | inl lt ↦
        subst (λ (es : List Entry). IsAssertion es (get_or (assertions ++ s ∷ []) i d)) (sym (earlier_same i (omega arith)))
        (subst (λ (assertion : Assertion). IsAssertion (take i (entries_of assertions)) assertion) (sym (get_or_append_left assertions (s ∷ []) d i lt)) (all i d lt))
    | inr ge ↦
        let same : length assertions ≡ i = omega (arith, length-append assertions (s ∷ [])) in
        let es : entries_of assertions ≡ take i (entries_of (assertions ++ s ∷ [])) =
        sym earlier_all ∙ ap (λ (j : ℕ). take j (entries_of assertions)) same ∙ sym (earlier_same i (omega arith)) in
        subst (λ (xs : List Entry). IsAssertion xs (get_or (assertions ++ s ∷ []) i d)) es
        (subst (λ (assertion : Assertion). IsAssertion (entries_of assertions) assertion) (sym (get_or_push assertions s d i same)) here)
  ]

  pub AllAssertions-front : AllAssertions (assertions ++ s ∷ []) → AllAssertions assertions
  AllAssertions-front all = λ i d h.
      subst (λ (es : List Entry). IsAssertion es (get_or assertions i d)) (earlier_same i (omega arith))
      (subst (λ (assertion : Assertion). IsAssertion (take i (entries_of (assertions ++ s ∷ []))) assertion) (get_or_append_left assertions (s ∷ []) d i h)
      (all i d (omega (arith, length-append assertions (s ∷ [])))))

  pub IsAssertion-last : AllAssertions (assertions ++ s ∷ []) → IsAssertion (entries_of assertions) s
  IsAssertion-last all =
      subst (λ (es : List Entry). IsAssertion es s) (earlier_same (length assertions) (omega arith) ∙ earlier_all)
      (subst (λ (assertion : Assertion). IsAssertion (take (length assertions) (entries_of (assertions ++ s ∷ []))) assertion) (get_or_push assertions s s (length assertions) refl)
      (all (length assertions) s (omega (arith, length-append assertions (s ∷ [])))))

  -- the literals with one more, and without it
  pub lits-push : lits_of (entries_of (assertions ++ s ∷ [])) ≡ lits_of (entries_of assertions) ++ s.entry.lit ∷ []
  lits-push = ap lits_of entries_of-push ∙ map-append (λ (entry : Entry). entry.lit) (entries_of assertions) (s.entry ∷ [])

  pub lits-front : take (length (lits_of (entries_of (assertions ++ s ∷ []))) - 1) (lits_of (entries_of (assertions ++ s ∷ []))) ≡ lits_of (entries_of assertions)
  lits-front = ap (λ (ls : List Lit). take (length ls - 1) ls) lits-push ∙ front_of (lits_of (entries_of assertions)) s.entry.lit where
    front_of : (ls : List Lit) (l : Lit) → take (length (ls ++ l ∷ []) - 1) (ls ++ l ∷ []) ≡ ls
    front_of ls l =
        let count : length (ls ++ l ∷ []) - 1 ≡ length ls = omega (arith, length-append ls (l ∷ [])) in
        ap (λ (n : ℕ). take n (ls ++ l ∷ [])) count ∙ take-append-le (length ls) ls (l ∷ []) (omega arith) ∙ take_all (length ls) ls (omega arith)

-- the number of the variable at an assertion
pub variable_at-assertion : (assertions : List Assertion) (i : ℕ) (d : Assertion) → i < length assertions → variable_at (entries_of assertions) i ≡ (get_or assertions i d).entry.lit.var.0
variable_at-assertion [] i d h = absurd (omega arith)
variable_at-assertion (s ∷ assertions) zero d h = refl
variable_at-assertion (s ∷ assertions) (suc i) d h = variable_at-assertion assertions i d (omega arith)

-- ---- the whole

pub length-present : (narrowed : Narrowed) (last : List (Option ℕ)) (assertions : List Assertion) → AreAssertions narrowed last assertions → length narrowed.present ≡ length narrowed.declared
length-present narrowed last assertions it =
    ap (λ (n : Narrowed). length n.present) it.narrowed
    ∙ ap (λ (xs : List IntSet). length xs) (replayed-lits narrowed.declared (entries_of assertions))
    ∙ length-replayed narrowed.declared (entries_of assertions)

pub present-replayed : (narrowed : Narrowed) (last : List (Option ℕ)) (assertions : List Assertion) → AreAssertions narrowed last assertions → narrowed.present ≡ replayed narrowed.declared (entries_of assertions)
present-replayed narrowed last assertions it = ap (λ (n : Narrowed). n.present) it.narrowed ∙ replayed-lits narrowed.declared (entries_of assertions)

-- nothing was asserted
pub AreAssertions-new : (declared : List IntSet) (last : List (Option ℕ)) (narrowed : Narrowed) (assertions : List Assertion) → narrowed ≡ sets.start declared → assertions ≡ [] → length last ≡ length declared → ((k : ℕ) → k < length declared → get_or last k None ≡ None) → AreAssertions narrowed last assertions
AreAssertions-new declared last narrowed assertions start none count each =
    subst (λ (n : Narrowed). AreAssertions n last assertions) (sym start)
    (subst (λ (xs : List Assertion). AreAssertions (sets.start declared) last xs) (sym none)
    (record {
      narrowed = refl;
      variables = λ i d h. absurd (omega arith);
      one_each = count;
      last_places = λ k h. subst (λ (p : Option ℕ). IsLastPlace [] (k + 1) p) (sym (each k h)) (λ j below. absurd (omega arith));
      all_assertions = λ i d h. absurd (omega arith);
    }))

-- the last assertion is dropped
module _ (narrowed : Narrowed) (last : List (Option ℕ)) (assertions : List Assertion) (s : Assertion) (all : List Assertion) (is : all ≡ assertions ++ s ∷ []) (whole : AreAssertions narrowed last all) where
  it : AreAssertions narrowed last (assertions ++ s ∷ [])
  it = subst (λ (xs : List Assertion). AreAssertions narrowed last xs) is whole

  back_variable : IsVariable (length narrowed.declared) s.entry.lit.var
  back_variable =
      subst (λ (assertion : Assertion). IsVariable (length narrowed.declared) assertion.entry.lit.var) (get_or_push assertions s s (length assertions) refl)
      (it.variables (length assertions) s (omega (arith, length-append assertions (s ∷ []))))

  pub back_in_last : s.entry.lit.var.0 - 1 < length last
  back_in_last = let var = back_variable in omega (arith, it.one_each)

  pub AreAssertions-back : (new : Narrowed) → new ≡ undone narrowed → AreAssertions new (set last (s.entry.lit.var.0 - 1) s.before) assertions
  AreAssertions-back new new_is =
      let lits : take (length narrowed.lits - 1) narrowed.lits ≡ lits_of (entries_of assertions) =
      ap (λ (n : Narrowed). take (length n.lits - 1) n.lits) it.narrowed ∙ lits-front assertions s in
      subst (λ (n : Narrowed). AreAssertions n (set last (s.entry.lit.var.0 - 1) s.before) assertions) (sym (new_is ∙ ap (λ (ls : List Lit). after narrowed.declared ls) lits))
      (record {
        narrowed = refl;
        variables = λ i d h.
            subst (λ (assertion : Assertion). IsVariable (length narrowed.declared) assertion.entry.lit.var) (get_or_append_left assertions (s ∷ []) d i h)
            (it.variables i d (omega (arith, length-append assertions (s ∷ []))));
        one_each = length-set last (s.entry.lit.var.0 - 1) s.before ∙ it.one_each;
        last_places =
            AreLast-back (entries_of assertions) s.entry (length narrowed.declared) last s.before back_variable it.one_each (IsAssertion-last assertions s it.all_assertions)
            (subst (λ (es : List Entry). AreLast (length narrowed.declared) es last) (entries_of-push assertions s) it.last_places);
        all_assertions = AllAssertions-front assertions s it.all_assertions;
      })

-- an assertion is pushed
module _ (narrowed : Narrowed) (last : List (Option ℕ)) (assertions : List Assertion) (it : AreAssertions narrowed last assertions) where
  pub AreAssertions-push : (entry : Entry) (before : Option ℕ) (new : Narrowed) (place : ℕ) (more : List Assertion) → IsVariable (length narrowed.declared) entry.lit.var → before ≡ get_or last (entry.lit.var.0 - 1) before → new ≡ narrowed_by entry.lit narrowed → place ≡ length assertions → more ≡ assertions ++ record { entry = entry; before = before } ∷ [] → AreAssertions new (set last (entry.lit.var.0 - 1) (Some place)) more
  AreAssertions-push entry before new place more var before_is new_is place_is more_is =
      let s : Assertion = record { entry = entry; before = before } in
      let entries = entries_of-push assertions s in
      let places : length (entries_of assertions) ≡ place = length-map assertions (λ (x : Assertion). x.entry) ∙ sym place_is in
      let k : entry.lit.var.0 - 1 < length narrowed.declared = omega arith in
      let number : entry.lit.var.0 - 1 + 1 ≡ entry.lit.var.0 = omega arith in
      let at : get_or last (entry.lit.var.0 - 1) None ≡ before = sym (before_is ∙ get_or_default last (entry.lit.var.0 - 1) before None (omega (arith, it.one_each))) in
      let assertion : IsAssertion (entries_of assertions) s =
      subst (λ (p : Option ℕ). IsLastPlace (entries_of assertions) entry.lit.var.0 p) at
      (subst (λ (n : ℕ). IsLastPlace (entries_of assertions) n (get_or last (entry.lit.var.0 - 1) None)) number (it.last_places (entry.lit.var.0 - 1) k)) in
      let sets_is : new ≡ after narrowed.declared (lits_of (entries_of (assertions ++ s ∷ []))) =
      new_is ∙ ap (narrowed_by entry.lit) it.narrowed
      ∙ ap (λ (p : List IntSet). record { declared = narrowed.declared; present = p; lits = lits_of (entries_of assertions) ++ entry.lit ∷ [] }) (sym (lemmas.narrowed_along-push narrowed.declared (lits_of (entries_of assertions)) entry.lit))
      ∙ ap (λ (ls : List Lit). after narrowed.declared ls) (sym (lits-push assertions s)) in
      subst (λ (xs : List Assertion). AreAssertions new (set last (entry.lit.var.0 - 1) (Some place)) xs) (sym more_is)
      (subst (λ (n : Narrowed). AreAssertions n (set last (entry.lit.var.0 - 1) (Some place)) (assertions ++ s ∷ [])) (sym sets_is)
      (record {
        narrowed = refl;
        variables = All-push (λ (x : Assertion). IsVariable (length narrowed.declared) x.entry.lit.var) assertions s it.variables var;
        one_each = length-set last (entry.lit.var.0 - 1) (Some place) ∙ it.one_each;
        last_places =
            subst (λ (es : List Entry). AreLast (length narrowed.declared) es (set last (entry.lit.var.0 - 1) (Some place))) (sym entries)
            (subst (λ (n : ℕ). AreLast (length narrowed.declared) (entries_of assertions ++ entry ∷ []) (set last (entry.lit.var.0 - 1) (Some n))) places
            (AreLast-push (entries_of assertions) entry (length narrowed.declared) last var it.one_each it.last_places));
        all_assertions = AllAssertions-push assertions s it.all_assertions assertion;
      }))

-- what an assertion says to callers
module _ (assertions : List Assertion) (all : AllAssertions assertions) (i : ℕ) (assertion : Assertion) (inside : i < length (entries_of assertions)) (is : assertion ≡ get_or assertions i assertion) where
  in_steps : i < length assertions
  in_steps = let len = length-map assertions (λ (s : Assertion). s.entry) in omega arith

  number_here : variable_at (entries_of assertions) i ≡ assertion.entry.lit.var.0
  number_here = variable_at-assertion assertions i assertion in_steps ∙ ap (λ (s : Assertion). s.entry.lit.var.0) (sym is)

  pub place_at : IsLastPlace (take i (entries_of assertions)) (variable_at (entries_of assertions) i) assertion.before
  place_at =
      subst (λ (n : ℕ). IsLastPlace (take i (entries_of assertions)) n assertion.before) (sym number_here)
      (subst (λ (s : Assertion). IsAssertion (take i (entries_of assertions)) s) (sym is) (all i assertion in_steps))

-- the set before an entry
pub set_at : (narrowed : Narrowed) (last : List (Option ℕ)) (assertions : List Assertion) → AreAssertions narrowed last assertions → (i : ℕ) → i < length (entries_of assertions) → (set : IntSet) → ((lit : Lit) → slice_get narrowed.lits i ≡ Some lit → set ≡ stood_before narrowed i lit.var) → set ≡ set_before narrowed.declared (entries_of assertions) i
set_at narrowed last assertions it i inside set told =
    let entries = entries_of assertions in
    let lits : narrowed.lits ≡ lits_of entries = ap (λ (n : Narrowed). n.lits) it.narrowed in
    elim (slice_get_cases entries i).1 [
      | inl (entry, within, got, here) ↦
          let found : slice_get narrowed.lits i ≡ Some entry.lit = ap (λ (ls : List Lit). slice_get ls i) lits ∙ slice_get-map (λ (e : Entry). e.lit) entries i ∙ ap (option_map (λ (e : Entry). e.lit)) got in
          told entry.lit found
          ∙ ap (λ (ls : List Lit). set_of (sets.narrowed_along narrowed.declared (take i ls)) entry.lit.var) lits
          ∙ ap (λ (ls : List Lit). set_of (sets.narrowed_along narrowed.declared ls) entry.lit.var) (take-map (λ (e : Entry). e.lit) i entries)
          ∙ ap (λ (xs : List IntSet). set_of xs entry.lit.var) (replayed-lits narrowed.declared (take i entries))
          ∙ ap (λ (n : ℕ). get_or (replayed narrowed.declared (take i entries)) (n - 1) no_values) (sym (get_or_from_slice_get (map (λ (e : Entry). e.lit.var.0) entries) i entry.lit.var.0 0 (slice_get-map (λ (e : Entry). e.lit.var.0) entries i ∙ ap (option_map (λ (e : Entry). e.lit.var.0)) got)))
      | inr past ↦ absurd (omega (arith, past.0, inside))
    ]

pub found_place : (entries : List Entry) (n : ℕ) (place : Option ℕ) → IsLastPlace entries n place → IfSome place (IsLastOn entries n)
found_place entries n None h = search rules
found_place entries n (Some place) h = search rules

pub no_place : (entries : List Entry) (n : ℕ) (place : Option ℕ) → IsLastPlace entries n place → IfNone place (NoneOn entries n)
no_place entries n None h = search rules
no_place entries n (Some place) h = search rules
