-- Items of rows that are read are what is written.
use Rattle.std.proofs.Common.{◌≡◌, ℕ, true, false, List, [], ◌∷◌, ◌++◌, Option, Some, None, refl, sym, ap, subst, ◌∙◌, inl, inr}
use Rattle.std.specs.Prelude.{ℤ, pos, negsuc, codes}
use Rattle.std.specs.List.{AllByRecursion, flat_map}
use Rattle.std.specs.Str.{bytes_eq}
use Rattle.std.specs.Fmt.{decimal, signed_decimal}
use Rattle.std.proofs.lemmas.Slice.Eq.{bytes_eq-Decides}
use Rattle.fzn_domain.specs.declared.literal.VarId.{VarId}
use Rattle.fzn_row.specs.declared.item.RowItem.{RowItem}
use Rattle.fzn_row.specs.declared.item.RowItem.TheVariants.{Multiples, Prices, Move, Columns, Rows}
use Rattle.fzn_cert.specs.Spelling.{IsNumber}
use Rattle.fzn_cert.specs.Words.{◌>>=◌, positive_of, items_of}
use Rattle.fzn_cert.specs.Derivations.{var_text, priced_words, item_words, IsMultiplier, IsVariableNumber, IsFirstPriced, ArePriced, IsRowItem, multiplier_of, multiples_of, first_priced_of, priced_of, only_variable_of, behind_number, prices_of, move_of, columns_of, rows_of, row_item_of, is_letter, before_item, items_among, row_items_of}
use Rattle.fzn_cert.proofs.CallerLemmas.{some_is}
use Rattle.fzn_cert_line.proofs.OptionLaws.{bind_some, chosen}
use Rattle.fzn_cert_line.proofs.WordLaws.{number_takes, within_takes, items_take}
use Rattle.fzn_cert_line.proofs.MultipleLaws.{multiplier_takes, variable_takes, multiples_take}

-- the words spell the item
record SpellsItem (words : List (List ℕ)) (item : RowItem) : Type 0 where
  words_are : words ≡ item_words item
  is_spelled : IsRowItem item

none_is_some : {A : Type 0} (x : A) → None ≡ Some x → ⊥
none_is_some x e = cc

of_letter : (letter text : List ℕ) (words : List (List ℕ)) (item : RowItem) → bytes_eq letter text ≡ true → SpellsItem (text ∷ words) item → SpellsItem (letter ∷ words) item
of_letter letter text words item e h = subst (λ (l : List ℕ). SpellsItem (l ∷ words) item) (sym ((bytes_eq-Decides letter text).0 e)) h

pub first_priced_takes : (word : List ℕ) (low : ℤ) → first_priced_of word ≡ Some low → (word ≡ signed_decimal low) × IsFirstPriced low
first_priced_takes word low e = within_takes (negsuc 999999999) (pos 1000000000) word low e

-- ---- numbers

priced_takes : (words : List (List ℕ)) (it : ℤ × List ℤ) → priced_of words ≡ Some it → (words ≡ priced_words it.0 it.1) × ArePriced it.0 it.1
unfolding priced_of
priced_takes [] it e = absurd cc
priced_takes (first ∷ words) it e =
    let a = bind_some (first_priced_of first) (λ low. items_of multiplier_of words >>= λ prices. Some (low, prices)) it e in
    let b = bind_some (items_of multiplier_of words) (λ prices. Some (a.0, prices)) it a.2 in
    let l = first_priced_takes first a.0 a.1 in
    let p = items_take multiplier_of signed_decimal IsMultiplier multiplier_takes words b.0 b.1 in
    let made : ℤ × List ℤ = (a.0, b.0) in
    subst (λ (is : ℤ × List ℤ). (first ∷ words ≡ priced_words is.0 is.1) × ArePriced is.0 is.1) (some_is made it b.2)
    (ap (λ (w : List ℕ). w ∷ words) l.0 ∙ ap (λ (ws : List (List ℕ)). signed_decimal a.0 ∷ ws) p.0, (l.1, p.1))

only_variable_takes : (words : List (List ℕ)) (variable : VarId) → only_variable_of words ≡ Some variable → (words ≡ var_text variable ∷ []) × IsVariableNumber variable
unfolding only_variable_of
only_variable_takes [] variable e = absurd cc
only_variable_takes (word ∷ next ∷ words) variable e = absurd cc
only_variable_takes (word ∷ []) variable e =
    let v = variable_takes word variable e in
    (ap (λ (w : List ℕ). w ∷ []) v.0, v.1)

-- a number is written first, and this is read of the words behind it
record BeginsWithNumber {A : Type 0} (f : List (List ℕ) → Option A) (words : List (List ℕ)) (it : ℕ × A) : Type 0 where
  rest : List (List ℕ)
  words_are : words ≡ decimal it.0 ∷ rest
  is_number : IsNumber it.0
  read : f rest ≡ Some it.1

begins_with_number : {A : Type 0} (f : List (List ℕ) → Option A) (words : List (List ℕ)) (it : ℕ × A) → behind_number f words ≡ Some it → BeginsWithNumber f words it
unfolding behind_number
begins_with_number f [] it e = absurd cc
begins_with_number {A} f (word ∷ words) it e =
    let a = bind_some (positive_of word) (λ n. f words >>= λ x. Some (n, x)) it e in
    let b = bind_some (f words) (λ x. Some (a.0, x)) it a.2 in
    let n = number_takes word a.0 a.1 in
    let made : ℕ × A = (a.0, b.0) in
    subst (BeginsWithNumber f (word ∷ words)) (some_is made it b.2) (record {
      rest = words;
      words_are = ap (λ (w : List ℕ). w ∷ words) n.0;
      is_number = n.1;
      read = b.1;
    })

at_variable_takes : (words : List (List ℕ)) (it : ℕ × VarId) → behind_number only_variable_of words ≡ Some it → (words ≡ decimal it.0 ∷ var_text it.1 ∷ []) × IsNumber it.0 × IsVariableNumber it.1
at_variable_takes words it e =
    let n = begins_with_number only_variable_of words it e in
    let v = only_variable_takes n.rest it.1 n.read in
    (n.words_are ∙ ap (λ (ws : List (List ℕ)). decimal it.0 ∷ ws) v.0, n.is_number, v.1)

-- ---- one item of each kind

multiples_item : (words : List (List ℕ)) (item : RowItem) → (multiples_of words >>= λ multiples. Some (Multiples multiples)) ≡ Some item → SpellsItem (codes "l" ∷ words) item
multiples_item words item e =
    let a = bind_some (multiples_of words) (λ multiples. Some (Multiples multiples)) item e in
    let t = multiples_take words a.0 a.1 in
    let made : RowItem = Multiples a.0 in
    subst (λ (i : RowItem). SpellsItem (codes "l" ∷ words) i) (some_is made item a.2) (record {
      words_are = ap (λ (ws : List (List ℕ)). codes "l" ∷ ws) t.0;
      is_spelled = t.1;
    })

prices_take : (words : List (List ℕ)) (item : RowItem) → prices_of words ≡ Some item → SpellsItem (codes "p" ∷ words) item
prices_take words item e =
    let a = bind_some (behind_number priced_of words) (λ it. Some (Prices it.0 it.1.0 it.1.1)) item e in
    let n = begins_with_number priced_of words a.0 a.1 in
    let p = priced_takes n.rest a.0.1 n.read in
    let made : RowItem = Prices a.0.0 a.0.1.0 a.0.1.1 in
    subst (λ (i : RowItem). SpellsItem (codes "p" ∷ words) i) (some_is made item a.2) (record {
      words_are = ap (λ (ws : List (List ℕ)). codes "p" ∷ ws) (n.words_are ∙ ap (λ (ws : List (List ℕ)). decimal a.0.0 ∷ ws) p.0);
      is_spelled = (n.is_number, p.1);
    })

move_takes : (words : List (List ℕ)) (item : RowItem) → move_of words ≡ Some item → SpellsItem (codes "m" ∷ words) item
move_takes words item e =
    let a = bind_some (behind_number only_variable_of words) (λ it. Some (Move it.0 it.1)) item e in
    let t = at_variable_takes words a.0 a.1 in
    let made : RowItem = Move a.0.0 a.0.1 in
    subst (λ (i : RowItem). SpellsItem (codes "m" ∷ words) i) (some_is made item a.2) (record {
      words_are = ap (λ (ws : List (List ℕ)). codes "m" ∷ ws) t.0;
      is_spelled = (t.1, t.2);
    })

columns_take : (words : List (List ℕ)) (item : RowItem) → columns_of words ≡ Some item → SpellsItem (codes "t" ∷ words) item
columns_take words item e =
    let a = bind_some (behind_number (behind_number priced_of) words) (λ it. Some (Columns it.0 it.1.0 it.1.1.0 it.1.1.1)) item e in
    let n = begins_with_number (behind_number priced_of) words a.0 a.1 in
    let q = begins_with_number priced_of n.rest a.0.1 n.read in
    let p = priced_takes q.rest a.0.1.1 q.read in
    let made : RowItem = Columns a.0.0 a.0.1.0 a.0.1.1.0 a.0.1.1.1 in
    subst (λ (i : RowItem). SpellsItem (codes "t" ∷ words) i) (some_is made item a.2) (record {
      words_are = ap (λ (ws : List (List ℕ)). codes "t" ∷ ws) (n.words_are ∙ ap (λ (ws : List (List ℕ)). decimal a.0.0 ∷ ws) (q.words_are ∙ ap (λ (ws : List (List ℕ)). decimal a.0.1.0 ∷ ws) p.0));
      is_spelled = (n.is_number, q.is_number, p.1);
    })

rows_take : (words : List (List ℕ)) (item : RowItem) → rows_of words ≡ Some item → SpellsItem (codes "w" ∷ words) item
rows_take words item e =
    let a = bind_some (behind_number only_variable_of words) (λ it. Some (Rows it.0 it.1)) item e in
    let t = at_variable_takes words a.0 a.1 in
    let made : RowItem = Rows a.0.0 a.0.1 in
    subst (λ (i : RowItem). SpellsItem (codes "w" ∷ words) i) (some_is made item a.2) (record {
      words_are = ap (λ (ws : List (List ℕ)). codes "w" ∷ ws) t.0;
      is_spelled = (t.1, t.2);
    })

item_takes : (letter : List ℕ) (words : List (List ℕ)) (item : RowItem) → row_item_of letter words ≡ Some item → SpellsItem (letter ∷ words) item
unfolding row_item_of
item_takes letter words item e =
    elim (chosen (bytes_eq letter (codes "l")) (multiples_of words >>= λ multiples. Some (Multiples multiples)) _ item e) [
      | inl h ↦ of_letter letter (codes "l") words item h.0 (multiples_item words item h.1)
      | inr h ↦ elim (chosen (bytes_eq letter (codes "p")) (prices_of words) _ item h.1) [
        | inl h ↦ of_letter letter (codes "p") words item h.0 (prices_take words item h.1)
        | inr h ↦ elim (chosen (bytes_eq letter (codes "m")) (move_of words) _ item h.1) [
          | inl h ↦ of_letter letter (codes "m") words item h.0 (move_takes words item h.1)
          | inr h ↦ elim (chosen (bytes_eq letter (codes "t")) (columns_of words) _ item h.1) [
            | inl h ↦ of_letter letter (codes "t") words item h.0 (columns_take words item h.1)
            | inr h ↦ elim (chosen (bytes_eq letter (codes "w")) (rows_of words) None item h.1) [
              | inl h ↦ of_letter letter (codes "w") words item h.0 (rows_take words item h.1)
              | inr h ↦ absurd (none_is_some item h.1)
            ]
          ]
        ]
      ]
    ]

-- the words are some in front of the first item, and then those of the items
record SpellsAmong (words : List (List ℕ)) (items : List RowItem) : Type 0 where
  words_are : words ≡ before_item words ++ flat_map item_words items
  are_spelled : AllByRecursion IsRowItem items

with_item : (word : List ℕ) (words : List (List ℕ)) (item : RowItem) (items : List RowItem) → is_letter word ≡ true → SpellsItem (word ∷ before_item words) item → SpellsAmong words items → SpellsAmong (word ∷ words) (item ∷ items)
unfolding before_item
with_item word words item items is one more = record {
  words_are = rw is (ap (λ (ws : List (List ℕ)). word ∷ ws) more.words_are ∙ ap (λ (ws : List (List ℕ)). ws ++ flat_map item_words items) one.words_are);
  are_spelled = (one.is_spelled, more.are_spelled);
}

with_number : (word : List ℕ) (words : List (List ℕ)) (items : List RowItem) → is_letter word ≡ false → SpellsAmong words items → SpellsAmong (word ∷ words) items
unfolding before_item
with_number word words items is more = record {
  words_are = rw is (ap (λ (ws : List (List ℕ)). word ∷ ws) more.words_are);
  are_spelled = more.are_spelled;
}

among_takes : (words : List (List ℕ)) (items : List RowItem) → items_among words ≡ Some items → SpellsAmong words items
unfolding items_among before_item
among_takes [] items e = subst (SpellsAmong []) (some_is [] items e) (record { words_are = refl; are_spelled = tt })
among_takes (word ∷ words) items e =
    elim (chosen (is_letter word) (row_item_of word (before_item words) >>= λ item. items_among words >>= λ others. Some (item ∷ others)) (items_among words) items e) [
      | inl h ↦
          let a = bind_some (row_item_of word (before_item words)) (λ item. items_among words >>= λ others. Some (item ∷ others)) items h.1 in
          let b = bind_some (items_among words) (λ others. Some (a.0 ∷ others)) items a.2 in
          let made : List RowItem = a.0 ∷ b.0 in
          subst (SpellsAmong (word ∷ words)) (some_is made items b.2) (with_item word words a.0 b.0 h.0 (item_takes word (before_item words) a.0 a.1) (among_takes words b.0 b.1))
      | inr h ↦ with_number word words items h.0 (among_takes words items h.1)
    ]

nothing_before : (word : List ℕ) (words : List (List ℕ)) → is_letter word ≡ true → before_item (word ∷ words) ≡ []
unfolding before_item
nothing_before word words is = rw is refl

pub row_items_take : (words : List (List ℕ)) (items : List RowItem) → row_items_of words ≡ Some items → (words ≡ flat_map item_words items) × AllByRecursion IsRowItem items
unfolding row_items_of
row_items_take [] items e = subst (λ (is : List RowItem). ([] ≡ flat_map item_words is) × AllByRecursion IsRowItem is) (some_is [] items e) (refl, tt)
row_items_take (word ∷ words) items e =
    elim (chosen (is_letter word) (items_among (word ∷ words)) None items e) [
      | inl h ↦
          let t = among_takes (word ∷ words) items h.1 in
          (t.words_are ∙ ap (λ (ws : List (List ℕ)). ws ++ flat_map item_words items) (nothing_before word words h.0), t.are_spelled)
      | inr h ↦ absurd (none_is_some items h.1)
    ]
