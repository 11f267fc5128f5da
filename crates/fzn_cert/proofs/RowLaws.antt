-- Items of rows that are written are read again.
use Rattle.std.proofs.Common.{◌≡◌, ◌≢◌, ℕ, suc, ◌≤◌, true, false, List, [], ◌∷◌, ◌++◌, get_or, map, Some, refl, arith}
use Rattle.std.specs.Prelude.{ℤ, pos, negsuc, codes}
use Rattle.std.specs.List.{AllByRecursion, flat_map}
use Rattle.std.specs.Fmt.{decimal, signed_decimal}
use Rattle.std.proofs.lemmas.Int.{ints}
use Rattle.fzn_domain.specs.declared.literal.VarId.{VarId}
use Rattle.fzn_cited.specs.declared.multiple.Multiple.{Multiple}
use Rattle.fzn_row.specs.declared.item.RowItem.{RowItem}
use Rattle.fzn_row.specs.declared.item.RowItem.TheVariants.{Multiples, Prices, Move, Columns, Rows}
use Rattle.fzn_cert.specs.Spelling.{IsNumber}
use Rattle.fzn_cert.specs.Derivations.{var_text, multiple_words, priced_words, item_words, IsMultiplier, IsMultiple, IsVariableNumber, IsFirstPriced, ArePriced, IsRowItem, multiplier_of, first_priced_of, priced_of, only_variable_of, behind_number, row_item_of, is_letter, before_item, items_among, row_items_of}
use Rattle.fzn_cert.proofs.WordLaws.{IsShort, number_again, within_again, items_again, first_digit, apart_from}
use Rattle.fzn_cert.proofs.LineLaws.{ArePlain, plain_decimal, plain_signed, plain_map, plain_joined}
use Rattle.fzn_cert.proofs.MultipleLaws.{multiplier_is_short, multiplier_again, multiples_again, plain_multiples}

first_priced_is_short : (low : ℤ) → IsFirstPriced low → IsShort low
unfolding IsShort
first_priced_is_short (pos n) h = omega (arith, ints, h.0, h.1)
first_priced_is_short (negsuc n) h = omega (arith, ints, h.0, h.1)

first_priced_again : (low : ℤ) → IsFirstPriced low → first_priced_of (signed_decimal low) ≡ Some low
first_priced_again low h = within_again (negsuc 999999999) (pos 1000000000) low h (first_priced_is_short low h)

-- ---- numbers begin no item

-- a word that begins with a digit or a sign
no_letter : (word : List ℕ) → get_or word 0 0 ≤ 57 → is_letter word ≡ false
unfolding is_letter
no_letter word h =
    let l : get_or word 0 0 ≢ 108 = omega arith in
    let p : get_or word 0 0 ≢ 112 = omega arith in
    let m : get_or word 0 0 ≢ 109 = omega arith in
    let t : get_or word 0 0 ≢ 116 = omega arith in
    let w : get_or word 0 0 ≢ 119 = omega arith in
    rw (apart_from 108 word l, apart_from 112 word p, apart_from 109 word m, apart_from 116 word t, apart_from 119 word w) refl

pub decimal_is_no_letter : (n : ℕ) → IsNumber n → is_letter (decimal n) ≡ false
decimal_is_no_letter n h = no_letter (decimal n) (let w = first_digit n h.1 in omega (arith, w))

signed_is_no_letter : (z : ℤ) → IsShort z → is_letter (signed_decimal z) ≡ false
unfolding IsShort
signed_is_no_letter (pos n) h = no_letter (decimal n) (let w = first_digit n h in omega (arith, w))
signed_is_no_letter (negsuc n) h = no_letter (45 ∷ decimal (suc n)) (omega arith)

pub first_priced_is_no_letter : (low : ℤ) → IsFirstPriced low → is_letter (signed_decimal low) ≡ false
first_priced_is_no_letter low h = signed_is_no_letter low (first_priced_is_short low h)

abbrev AreNumbers : List (List ℕ) → Type 0
AreNumbers words = AllByRecursion (λ word. is_letter word ≡ false) words

multiples_are_numbers : (multiples : List Multiple) → AllByRecursion IsMultiple multiples → AreNumbers (flat_map multiple_words multiples)
multiples_are_numbers [] h = tt
multiples_are_numbers (multiple ∷ rest) h = (
  signed_is_no_letter multiple.multiplier (multiplier_is_short multiple.multiplier h.0.0),
  (decimal_is_no_letter multiple.constraint h.0.1, multiples_are_numbers rest h.1),
)

prices_are_numbers : (prices : List ℤ) → AllByRecursion IsMultiplier prices → AreNumbers (map signed_decimal prices)
prices_are_numbers [] h = tt
prices_are_numbers (price ∷ prices) h = (signed_is_no_letter price (multiplier_is_short price h.0), prices_are_numbers prices h.1)

priced_are_numbers : (low : ℤ) (prices : List ℤ) → ArePriced low prices → AreNumbers (priced_words low prices)
priced_are_numbers low prices h = (first_priced_is_no_letter low h.0, prices_are_numbers prices h.1)

at_variable_are_numbers : (constraint : ℕ) (variable : VarId) → IsNumber constraint → IsVariableNumber variable → AreNumbers (decimal constraint ∷ var_text variable ∷ [])
at_variable_are_numbers constraint variable h k = (decimal_is_no_letter constraint h, (decimal_is_no_letter variable.0 k, tt))

-- ---- numbers are read

priced_again : (low : ℤ) (prices : List ℤ) → ArePriced low prices → priced_of (priced_words low prices) ≡ Some (low, prices)
unfolding priced_of
priced_again low prices h = rw (first_priced_again low h.0, items_again multiplier_of signed_decimal IsMultiplier multiplier_again prices h.1) refl

at_variable_again : (constraint : ℕ) (variable : VarId) → IsNumber constraint → IsVariableNumber variable → behind_number only_variable_of (decimal constraint ∷ var_text variable ∷ []) ≡ Some (constraint, variable)
unfolding behind_number only_variable_of
at_variable_again constraint variable h k = rw (number_again constraint h, number_again variable.0 k) refl

-- ---- an item is read up to the next one

before-numbers : (words rest : List (List ℕ)) → AreNumbers words → before_item rest ≡ [] → before_item (words ++ rest) ≡ words
unfolding before_item
before-numbers [] rest h none = none
before-numbers (word ∷ words) rest h none = rw (h.0, before-numbers words rest h.1 none) refl

among-numbers : (words rest : List (List ℕ)) → AreNumbers words → items_among (words ++ rest) ≡ items_among rest
unfolding items_among
among-numbers [] rest h = refl
among-numbers (word ∷ words) rest h = rw (h.0, among-numbers words rest h.1) refl

nothing-before : (items : List RowItem) → before_item (flat_map item_words items) ≡ []
unfolding before_item is_letter
nothing-before [] = refl
nothing-before (Multiples multiples ∷ items) = refl
nothing-before (Prices constraint low prices ∷ items) = refl
nothing-before (Move constraint variable ∷ items) = refl
nothing-before (Columns constraint column low prices ∷ items) = refl
nothing-before (Rows constraint variable ∷ items) = refl

item-read : (letter : List ℕ) (words rest : List (List ℕ)) (item : RowItem) (items : List RowItem) → is_letter letter ≡ true → AreNumbers words → row_item_of letter words ≡ Some item
    → before_item rest ≡ [] → items_among rest ≡ Some items → items_among (letter ∷ (words ++ rest)) ≡ Some (item ∷ items)
unfolding items_among
item-read letter words rest item items is numbers read none more =
    rw (is, before-numbers words rest numbers none, read, among-numbers words rest numbers, more) refl

item_again : (item : RowItem) (items : List RowItem) → IsRowItem item → items_among (flat_map item_words items) ≡ Some items → items_among (item_words item ++ flat_map item_words items) ≡ Some (item ∷ items)
unfolding is_letter row_item_of behind_number
item_again (Multiples multiples) items h more =
    item-read (codes "l") (flat_map multiple_words multiples) (flat_map item_words items) (Multiples multiples) items refl (multiples_are_numbers multiples h) (rw (multiples_again multiples h) refl) (nothing-before items) more
item_again (Prices constraint low prices) items h more =
    item-read (codes "p") (decimal constraint ∷ priced_words low prices) (flat_map item_words items) (Prices constraint low prices) items refl
    (decimal_is_no_letter constraint h.0, priced_are_numbers low prices h.1)
    (rw (number_again constraint h.0, priced_again low prices h.1) refl)
    (nothing-before items) more
item_again (Move constraint variable) items h more =
    item-read (codes "m") (decimal constraint ∷ var_text variable ∷ []) (flat_map item_words items) (Move constraint variable) items refl
    (at_variable_are_numbers constraint variable h.0 h.1)
    (rw (at_variable_again constraint variable h.0 h.1) refl)
    (nothing-before items) more
item_again (Columns constraint column low prices) items h more =
    item-read (codes "t") (decimal constraint ∷ decimal column ∷ priced_words low prices) (flat_map item_words items) (Columns constraint column low prices) items refl
    (decimal_is_no_letter constraint h.0, (decimal_is_no_letter column h.1, priced_are_numbers low prices h.2))
    (rw (number_again constraint h.0, number_again column h.1, priced_again low prices h.2) refl)
    (nothing-before items) more
item_again (Rows constraint variable) items h more =
    item-read (codes "w") (decimal constraint ∷ var_text variable ∷ []) (flat_map item_words items) (Rows constraint variable) items refl
    (at_variable_are_numbers constraint variable h.0 h.1)
    (rw (at_variable_again constraint variable h.0 h.1) refl)
    (nothing-before items) more

items_among_again : (items : List RowItem) → AllByRecursion IsRowItem items → items_among (flat_map item_words items) ≡ Some items
unfolding items_among
items_among_again [] h = refl
items_among_again (item ∷ items) h = item_again item items h.0 (items_among_again items h.1)

pub row_items_again : (items : List RowItem) → AllByRecursion IsRowItem items → row_items_of (flat_map item_words items) ≡ Some items
unfolding row_items_of is_letter
row_items_again [] h = refl
row_items_again (Multiples multiples ∷ items) h = items_among_again (Multiples multiples ∷ items) h
row_items_again (Prices constraint low prices ∷ items) h = items_among_again (Prices constraint low prices ∷ items) h
row_items_again (Move constraint variable ∷ items) h = items_among_again (Move constraint variable ∷ items) h
row_items_again (Columns constraint column low prices ∷ items) h = items_among_again (Columns constraint column low prices ∷ items) h
row_items_again (Rows constraint variable ∷ items) h = items_among_again (Rows constraint variable ∷ items) h

-- ---- the words of a line

plain_priced : (low : ℤ) (prices : List ℤ) → ArePriced low prices → ArePlain (priced_words low prices)
plain_priced low prices h = (
  plain_signed low (first_priced_is_short low h.0),
  plain_map signed_decimal IsMultiplier (λ price k. plain_signed price (multiplier_is_short price k)) prices h.1,
)

plain_at_variable : (constraint : ℕ) (variable : VarId) → IsNumber constraint → IsVariableNumber variable → ArePlain (decimal constraint ∷ var_text variable ∷ [])
plain_at_variable constraint variable h k = (plain_decimal constraint h.1, (plain_decimal variable.0 k.1, tt))

plain_item : (item : RowItem) → IsRowItem item → ArePlain (item_words item)
plain_item (Multiples multiples) h = (refl, plain_multiples multiples h)
plain_item (Prices constraint low prices) h = (refl, (plain_decimal constraint h.0.1, plain_priced low prices h.1))
plain_item (Move constraint variable) h = (refl, plain_at_variable constraint variable h.0 h.1)
plain_item (Columns constraint column low prices) h = (refl, (plain_decimal constraint h.0.1, (plain_decimal column h.1.1, plain_priced low prices h.2)))
plain_item (Rows constraint variable) h = (refl, plain_at_variable constraint variable h.0 h.1)

pub plain_items : (items : List RowItem) → AllByRecursion IsRowItem items → ArePlain (flat_map item_words items)
plain_items [] h = tt
plain_items (item ∷ items) h = plain_joined (item_words item) (flat_map item_words items) (plain_item item h.0) (plain_items items h.1)
