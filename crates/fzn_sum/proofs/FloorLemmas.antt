-- The literals that explain places, and the clause of all but one of them.
use Rattle.std.proofs.Common.{◌≡◌, ℕ, ◌+◌, ◌<◌, List, [], ◌∷◌, ◌++◌, length, get_or, refl, sym, ap, subst, ◌∙◌, inl, inr, arith, pos, All, length-append}
use Rattle.std.proofs.Math.Seq.{get_or-append_seam}
use Rattle.std.proofs.lemmas.Bool.{cases_eq}
use Rattle.std.proofs.lemmas.List.{get_or_default, get_or_append_left}
use Rattle.std.proofs.lemmas.List.Elements.{All-nil, All-push, All-get_or}
use Rattle.fzn_domain.specs.declared.literal.Lit.{Lit}
use Rattle.fzn_domain.specs.declared.literal.Op.TheVariants as op
use Rattle.fzn_values.specs.declared.term.Term.TheVariants.{Constant}
use Rattle.fzn_values.specs.declared.term.Place.{Place}
use Rattle.fzn_values.specs.Term.{IsPlace}
use Rattle.fzn_trail.specs.Levels.{Levels}
use Rattle.fzn_propagator.proofs.CallerLemmas.{false_of_none, false_push}
use Rattle.fzn_sum.specs.declared.at_most.PlaceFloor.{PlaceFloor}
use Rattle.fzn_sum.specs.Explained.{IsPlaceExplained, IsFloor, ExplainsPlaces, IsFloorAt, AreFloors, HasFloors}
use Rattle.fzn_sum.proofs.ClauseLemmas.{explained_more, explained_by_floor, variable_of_place}

module _ (trail : Levels) (places : List Place) where
  -- ---- the loop that finds them

  pub floors_none : AreFloors trail places 0 []
  floors_none = record { each = All-nil (IsFloorAt trail places); explained = λ k e below. absurd (omega arith) }

  pub floors_same : (i : ℕ) (floors : List PlaceFloor) (d : Place) → i < length places → AreFloors trail places i floors → IsPlaceExplained trail [] (get_or places i d) → AreFloors trail places (i + 1) floors
  floors_same i floors d in_places before here = record {
    each = before.each;
    explained = λ k e below. elim (cases_eq k i) [
      | inl same ↦
          let at : get_or places i d ≡ get_or places k e = get_or_default places i d e in_places ∙ ap (λ (n : ℕ). get_or places n e) (sym same) in
          inl (subst (λ (p : Place). IsPlaceExplained trail [] p) at here)
      | inr other ↦ before.explained k e (omega arith)
    ];
  }

  pub floors_push : (i : ℕ) (floors : List PlaceFloor) (d : Place) (lit : Lit) → i < length places → AreFloors trail places i floors → IsFloor trail (get_or places i d) lit → AreFloors trail places (i + 1) (floors ++ record { place = i; lit = lit } ∷ [])
  floors_push i floors d lit in_places before floor =
      let new : PlaceFloor = record { place = i; lit = lit } in
      let longer : length (floors ++ new ∷ []) ≡ length floors + 1 = length-append floors (new ∷ []) in
      record {
        each = All-push (IsFloorAt trail places) floors new before.each (record {
          in_places = in_places;
          literal = λ e. subst (λ (p : Place). IsFloor trail p lit) (get_or_default places i d e in_places) floor;
        });
        explained = λ k e below. elim (cases_eq k i) [
          | inl same ↦ inr (length floors, omega arith, λ f. ap (λ (x : PlaceFloor). x.place) (get_or-append_seam floors new [] f) ∙ sym same)
          | inr other ↦ elim (before.explained k e (omega arith)) [
            | inl none ↦ inl none
            | inr some ↦ inr (some.0, (let h = some.1 in omega arith), λ f. ap (λ (x : PlaceFloor). x.place) (get_or_append_left floors (new ∷ []) f some.0 some.1) ∙ some.2 f)
          ]
        ];
      }

  -- ---- the clause of all but one

  module _ (floors : List PlaceFloor) (except : ℕ) where
    pub has_none : HasFloors trail places floors 0 except []
    has_none = record {
      still = false_of_none trail [] refl;
      explained = λ i f e below apart. absurd (omega arith);
    }

    pub has_same : (i : ℕ) (clause : List Lit) (d : PlaceFloor) → i < length floors → HasFloors trail places floors i except clause → (get_or floors i d).place ≡ except → HasFloors trail places floors (i + 1) except clause
    has_same i clause d in_floors before left_out = record {
      still = before.still;
      explained = λ k f e below apart. elim (cases_eq k i) [
        | inl same ↦
            let at : get_or floors k f ≡ get_or floors i d = ap (λ (n : ℕ). get_or floors n f) same ∙ sym (get_or_default floors i d f in_floors) in
            absurd (apart (ap (λ (x : PlaceFloor). x.place) at ∙ left_out))
        | inr other ↦ before.explained k f e (omega arith) apart
      ];
    }

    pub has_push : (i : ℕ) (clause : List Lit) (d : PlaceFloor) → i < length floors → All (IsPlace (length trail.declared)) places → All (IsFloorAt trail places) floors → HasFloors trail places floors i except clause → HasFloors trail places floors (i + 1) except (clause ++ (get_or floors i d).lit ∷ [])
    has_push i clause d in_floors fit each before =
        let at : Place = record { coefficient = pos 0; term = Constant (pos 0) } in
        let lit : Lit = (get_or floors i d).lit in
        let here : IsFloorAt trail places (get_or floors i d) = All-get_or (IsFloorAt trail places) floors i d in_floors each in
        let floor : IsFloor trail (get_or places (get_or floors i d).place at) (get_or floors i d).lit = here.literal at in
        record {
          still = false_push trail clause lit before.still
              (variable_of_place (length trail.declared) (get_or places (get_or floors i d).place at) lit.var (All-get_or (IsPlace (length trail.declared)) places (get_or floors i d).place at here.in_places fit) floor.of_place)
              floor.writable floor.impossible;
          explained = λ k f e below apart. elim (cases_eq k i) [
            | inl same ↦
                let is : get_or floors i d ≡ get_or floors k f = get_or_default floors i d f in_floors ∙ ap (λ (n : ℕ). get_or floors n f) (sym same) in
                subst (λ (x : PlaceFloor). IsPlaceExplained trail (clause ++ lit ∷ []) (get_or places x.place e)) is
                (explained_by_floor trail clause (get_or places (get_or floors i d).place e) lit (here.literal e))
            | inr other ↦ explained_more trail clause (lit ∷ []) (get_or places (get_or floors k f).place e) (before.explained k f e (omega arith) apart)
          ];
        }

    pub explanation_of : (clause : List Lit) → AreFloors trail places (length places) floors → HasFloors trail places floors (length floors) except clause → ExplainsPlaces trail places (length places) except clause
    explanation_of clause are has =
        let any : PlaceFloor = record { place = 0; lit = record { var = record { 0 = 0 }; op = op.AtMost; value = pos 0 } } in
        record {
          still = has.still;
          explained = λ k e below apart. elim (are.explained k e below) [
            | inl none ↦ explained_more trail [] clause (get_or places k e) none
            | inr some ↦ subst (λ (n : ℕ). IsPlaceExplained trail clause (get_or places n e)) (some.2 any) (has.explained some.0 any e some.1 (λ same. apart (sym (some.2 any) ∙ same)))
          ];
        }
