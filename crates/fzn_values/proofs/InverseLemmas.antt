-- f and g are inverse exactly where each leads back from the other's values.
use Rattle.std.proofs.Common.{◌≡◌, zero, suc, ◌+◌, ◌-◌, ◌<◌, List, length, get_or, ap, sym, ◌∙◌, ℤ, pos, negsuc, arith}
use Rattle.std.specs.List.{All}
use Rattle.std.proofs.lemmas.Int.{ints}
use Rattle.fzn_values.specs.Entries.{IsIndex, entry_at}
use Rattle.fzn_values.specs.Inverse.{IsInverse, LeadsBack}

there_and_back : (f g : List ℤ) → LeadsBack f g → (i : ℤ) → IsIndex (length f) i → entry_at g (entry_at f i) ≡ i
there_and_back f g h (pos zero) p = absurd (omega (arith, ints))
there_and_back f g h (pos (suc k)) p =
    let lt : k < length f = omega (arith, ints, p.1) in
    let e : suc k - 1 ≡ k = omega arith in
    let e' : k + 1 ≡ suc k = omega arith in
    rw e (h k lt ∙ ap pos e')
there_and_back f g h (negsuc k) p = absurd (omega (arith, ints))

pub inverse_from : (f g : List ℤ) → All (IsIndex (length f)) f → All (IsIndex (length g)) g → LeadsBack f g → LeadsBack g f → IsInverse f g
inverse_from f g pf pg hf hg = record {
  forward_places = pf;
  backward_places = pg;
  inverse = λ i j pi pj. (
    (λ e. ap (entry_at g) (sym e) ∙ there_and_back f g hf i pi),
    (λ e. ap (entry_at f) (sym e) ∙ there_and_back g f hg j pj),
  );
}

pub leads_back_from : (f g : List ℤ) → length f ≡ length g → IsInverse f g → LeadsBack f g
leads_back_from f g same h k lt =
    let v : ℤ = get_or f k (pos 0) in
    let place = h.forward_places k (pos 0) lt in
    let e : suc k - 1 ≡ k = omega arith in
    let e' : pos (suc k) ≡ pos (k + 1) = ap pos (omega arith) in
    (h.inverse (pos (suc k)) (get_or f k (pos 0)) (omega (arith, ints), omega (arith, ints)) (place.0, omega (arith, ints, place.1))).0 (rw e) ∙ e'

pub leads_back_other : (f g : List ℤ) → length f ≡ length g → IsInverse f g → LeadsBack g f
leads_back_other f g same h = leads_back_from g f (sym same) (record {
  forward_places = h.backward_places;
  backward_places = h.forward_places;
  inverse = λ i j pi pj. let e = h.inverse j i pj pi in (e.1, e.0);
})
