-- Literals of slots that are moved together.
use Rattle.std.proofs.Common.{◌≡◌, ℕ, ◌+◌, List, [], ◌∷◌, ◌++◌, length, take, drop, map, refl, sym, ap, ap₂, subst, ◌∙◌, arith, append_assoc, length-append, length-drop, All}
use Rattle.std.proofs.Math.Seq.{drop-append_seam, take-append_seam}
use Rattle.std.proofs.lemmas.List.{length-take-le}
use Rattle.std.proofs.lemmas.List.Elements.{All-head, All-tail, All-nil, All-cons}
use Rattle.std.proofs.lemmas.List.Sums.{sum_by-cons}
use Rattle.fzn_domain.specs.declared.literal.Lit.{Lit}
use Rattle.fzn_clauses.specs.declared.arena.Slot.{Slot}
use Rattle.fzn_clauses.specs.Guard.{literal_at}
use Rattle.fzn_clauses.specs.Watched.{Watched}
use Rattle.fzn_clauses.specs.Slots.{literals_of, range_of, IsSlot, gathered, total, laid_out}

abbrev placed : ℕ → Slot → Slot
placed offset slot = record slot { offset = offset }

module _ (lits : List Lit) where
  length-literals : (slot : Slot) → IsSlot lits slot → length (literals_of lits slot) ≡ slot.len
  length-literals slot is = length-take-le slot.len (drop slot.offset lits) (omega (arith, length-drop slot.offset lits, is.fits))

  -- as many literals as the slots say
  pub length-gathered : (slots : List Slot) → All (IsSlot lits) slots → length (gathered lits slots) ≡ total slots
  length-gathered [] all = refl
  length-gathered (slot ∷ slots) all =
      let one = length-literals slot (All-head (IsSlot lits) slot slots all) in
      let rest = length-gathered slots (All-tail (IsSlot lits) slot slots all) in
      length-append (literals_of lits slot) (gathered lits slots) ∙ ap₂ (λ (a b : ℕ). a + b) one rest ∙ sym (sum_by-cons (λ (s : Slot). s.len) slot slots)

  moved : (front rest : List Lit) (slot : Slot) → IsSlot lits slot → literals_of (front ++ (literals_of lits slot ++ rest)) (placed (length front) slot) ≡ literals_of lits slot
  moved front rest slot is =
      ap (take slot.len) (drop-append_seam front (literals_of lits slot ++ rest))
      ∙ ap (λ (n : ℕ). take n (literals_of lits slot ++ rest)) (sym (length-literals slot is))
      ∙ take-append_seam (literals_of lits slot) rest

  behind : (front : List Lit) (slot : Slot) → IsSlot lits slot → length (front ++ literals_of lits slot) ≡ length front + slot.len
  behind front slot is = length-append front (literals_of lits slot) ∙ ap (λ (n : ℕ). length front + n) (length-literals slot is)

  -- each range has its literals behind those of the slots before it
  pub ranges_laid : (front : List Lit) (slots : List Slot) → All (IsSlot lits) slots → map (range_of (front ++ gathered lits slots)) (laid_out (length front) slots) ≡ map (range_of lits) slots
  ranges_laid front [] all = refl
  ranges_laid front (slot ∷ slots) all =
      let is = All-head (IsSlot lits) slot slots all in
      ap₂ (λ (clause : List Lit) (rest : List Watched). record { clause = clause; live = slot.live; listed = slot.listed; pair = slot.pair } ∷ rest)
      (moved front (gathered lits slots) slot is)
      (ap₂ (λ (here : List Lit) (n : ℕ). map (range_of here) (laid_out n slots)) (sym (append_assoc front (literals_of lits slot) (gathered lits slots))) (sym (behind front slot is))
      ∙ ranges_laid (front ++ literals_of lits slot) slots (All-tail (IsSlot lits) slot slots all))

  pub slots_laid : (front : List Lit) (slots : List Slot) → All (IsSlot lits) slots → All (IsSlot (front ++ gathered lits slots)) (laid_out (length front) slots)
  slots_laid front [] all = All-nil (IsSlot (front ++ []))
  slots_laid front (slot ∷ slots) all =
      let is = All-head (IsSlot lits) slot slots all in
      let rest = gathered lits slots in
      let here = front ++ (literals_of lits slot ++ rest) in
      let own = moved front rest slot is in
      let size : length here ≡ length front + (length (literals_of lits slot) + length rest) = length-append front (literals_of lits slot ++ rest) ∙ ap (λ (n : ℕ). length front + n) (length-append (literals_of lits slot) rest) in
      let count : length (literals_of lits slot) ≡ slot.len = length-literals slot is in
      All-cons (IsSlot here) (placed (length front) slot) (laid_out (length front + slot.len) slots)
      (record {
        fits = omega (arith, size, count);
        first = is.first ∙ ap (λ (clause : List Lit). literal_at clause slot.pair.first) (sym own);
        second = is.second ∙ ap (λ (clause : List Lit). literal_at clause slot.pair.second) (sym own);
      })
      (subst (λ (n : ℕ). All (IsSlot here) (laid_out n slots)) (behind front slot is)
      (subst (λ (ls : List Lit). All (IsSlot ls) (laid_out (length (front ++ literals_of lits slot)) slots)) (append_assoc front (literals_of lits slot) rest)
      (slots_laid (front ++ literals_of lits slot) slots (All-tail (IsSlot lits) slot slots all))))
