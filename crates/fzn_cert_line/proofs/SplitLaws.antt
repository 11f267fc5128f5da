-- The pieces between single spaces are the words of a line.
use Rattle.std.proofs.Common.{◌≡◌, ℕ, zero, suc, ◌+◌, ◌-◌, ◌<◌, ◌≤◌, Bool, true, false, eqb, leb, List, [], ◌∷◌, ◌++◌, length, get_or, take, drop, refl, sym, ap, ◌∙◌, arith, inl, inr, All}
use Rattle.std.specs.Prelude.{◌&&◌}
use Rattle.std.specs.List.{slice_split}
use Rattle.std.specs.Str.{bytes_eq}
use Rattle.std.proofs.lemmas.Bool.{cases_lt, leb-true, le-leb}
use Rattle.std.proofs.lemmas.List.{take-append-drop, drop-drop, drop_more, get_or-take, get_or-drop, length-take, length-drop, take_all, get_or_default, get_or_past}
use Rattle.std.proofs.lemmas.List.Splits.{slice_split_at, slice_split_none}
use Rattle.std.proofs.lemmas.Slice.Eq.{bytes_eq-Decides}
use Rattle.bstr.specs.Find.{matches_from, occurs_at}
use Rattle.bstr.specs.Text.{split_at, part}
use Rattle.fzn_cert.specs.Reading.{words_of}
use Rattle.fzn_cert.proofs.CallerLemmas.{and_true}

abbrev is_space : ℕ → Bool
is_space b = eqb b 32

-- no space stands from one place up to another
abbrev NoSpace : List ℕ → ℕ → ℕ → Type 0
NoSpace hay last i = (k : ℕ) → last ≤ k → k < i → eqb (get_or hay k 0) 32 ≡ false

all_in_part : (hay : List ℕ) (last i : ℕ) → NoSpace hay last i → All (λ b. is_space b ≡ false) (part last i hay)
all_in_part hay last i none k d lt =
    let size = length-take (i - last) (drop last hay) in
    let within : k < i - last = omega (arith, size, lt) in
    let read : get_or (part last i hay) k d ≡ get_or hay (last + k) 0 =
    get_or_default (part last i hay) k d 0 lt ∙ get_or-take (i - last) (drop last hay) k 0 within ∙ get_or-drop last hay k 0 in
    rw read (none (last + k) (omega arith) (omega arith))

whole_part : (hay : List ℕ) (last i : ℕ) → length hay ≤ i → part last i hay ≡ drop last hay
whole_part hay last i le = take_all (i - last) (drop last hay) (omega (arith, length-drop last hay))

-- the text up to a space, the space, and what follows it
around : (hay : List ℕ) (last i : ℕ) → last ≤ i → i < length hay → get_or hay i 0 ≡ 32 → drop last hay ≡ part last i hay ++ 32 ∷ drop (i + 1) hay
around hay last i le lt space =
    let back : drop (i - last) (drop last hay) ≡ 32 ∷ drop (i + 1) hay =
    drop-drop (i - last) last hay ∙ ap (λ (k : ℕ). drop k hay) (omega arith) ∙ drop_more hay i 0 lt ∙ ap (λ (b : ℕ). b ∷ drop (i + 1) hay) space in
    sym (take-append-drop (i - last) (drop last hay)) ∙ ap (λ (t : List ℕ). part last i hay ++ t) back

occurs_yes : (hay : List ℕ) (i : ℕ) → occurs_at hay (32 ∷ []) i ≡ true → (i < length hay) × (get_or hay i 0 ≡ 32)
occurs_yes hay i e =
    let t = and_true (leb (i + 1) (length hay)) (bytes_eq (take 1 (drop i hay)) (32 ∷ [])) e in
    let lt : i < length hay = omega (arith, leb-true (i + 1) (length hay) t.0) in
    let first : take 1 (drop i hay) ≡ get_or hay i 0 ∷ [] = rw (drop_more hay i 0 lt) refl in
    let same = (bytes_eq-Decides (take 1 (drop i hay)) (32 ∷ [])).0 t.1 in
    (lt, head_is (get_or hay i 0) (sym first ∙ same))
  where
    head_is : (b : ℕ) → b ∷ [] ≡ 32 ∷ [] → b ≡ 32
    head_is b h = cc

occurs_no : (hay : List ℕ) (i : ℕ) → occurs_at hay (32 ∷ []) i ≡ false → eqb (get_or hay i 0) 32 ≡ false
occurs_no hay i e =
    elim (cases_lt i (length hay)) [
      | inl lt ↦
          let fits : leb (i + 1) (length hay) ≡ true = le-leb (i + 1) (length hay) (omega arith) in
          let first : take 1 (drop i hay) ≡ get_or hay i 0 ∷ [] = rw (drop_more hay i 0 lt) refl in
          let reads : occurs_at hay (32 ∷ []) i ≡ (eqb (get_or hay i 0) 32 && true) = rw (fits, first) refl in
          and_false (eqb (get_or hay i 0) 32) (sym reads ∙ e)
      | inr le ↦ rw (get_or_past hay i 0 le) refl
    ]
  where
    and_false : (b : Bool) → (b && true) ≡ false → b ≡ false
    and_false true h = h
    and_false false h = refl

splits : (hay : List ℕ) (n i last : ℕ) → i + n ≡ length hay + 1 → last ≤ i → NoSpace hay last i
    → split_at hay 1 last (matches_from hay (32 ∷ []) 0 i n) ≡ slice_split is_space (drop last hay)
unfolding matches_from split_at
splits hay zero i last e le none =
    let all = rw (whole_part hay last i (omega arith)) at (all_in_part hay last i none) in
    sym (slice_split_none is_space (drop last hay) all)
splits hay (suc n) i last e le none =
    elim (occurs_at hay (32 ∷ []) i) as (λ b. occurs_at hay (32 ∷ []) i ≡ b → split_at hay 1 last (matches_from hay (32 ∷ []) 0 i (suc n)) ≡ slice_split is_space (drop last hay)) [
      | true ↦ λ h.
          let at = occurs_yes hay i h in
          let more = splits hay n (i + 1) (i + 1) (omega arith) (omega arith) (λ k low high. absurd (omega arith)) in
          let cut : slice_split is_space (drop last hay) ≡ part last i hay ∷ slice_split is_space (drop (i + 1) hay) = ap (λ (t : List ℕ). slice_split is_space t) (around hay last i le at.0 at.1) ∙ slice_split_at is_space (part last i hay) 32 (drop (i + 1) hay) (all_in_part hay last i none) refl in
          rw h (ap (λ (ws : List (List ℕ)). part last i hay ∷ ws) more ∙ sym cut)
      | false ↦ λ h.
          let more = splits hay n (i + 1) last (omega arith) (omega arith) (further hay last i none (occurs_no hay i h)) in
          rw h more
    ] refl
  where
    further : (hay : List ℕ) (last i : ℕ) → NoSpace hay last i → eqb (get_or hay i 0) 32 ≡ false → NoSpace hay last (i + 1)
    further hay last i none here k low high =
        elim (cases_lt k i) [
          | inl lt ↦ none k low lt
          | inr le ↦ let same : k ≡ i = omega arith in rw same here
        ]

pub words_of-line : (line : List ℕ) → split_at line 1 0 (matches_from line (32 ∷ []) 0 0 (length line + 1 - 0)) ≡ words_of line
words_of-line line = splits line (length line + 1 - 0) 0 0 (omega arith) (omega arith) (λ k low high. absurd (omega arith))
