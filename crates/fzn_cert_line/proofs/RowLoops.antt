-- Items of a row one after the other, as they are read.
use Rattle.std.proofs.Common.{◌≡◌, ℕ, ◌<◌, ◌≤◌, Bool, true, false, List, [], ◌∷◌, ◌++◌, length, drop, Option, Some, None, refl, sym, ap, subst, ◌∙◌, arith}
use Rattle.std.specs.Prelude.{ℤ}
use Rattle.std.proofs.lemmas.List.{append-nil}
use Rattle.std.proofs.lemmas.Bool.{false≢true}
use Rattle.fzn_domain.specs.declared.literal.VarId.{VarId}
use Rattle.fzn_cited.specs.declared.multiple.Multiple.{Multiple}
use Rattle.fzn_row.specs.declared.item.RowItem.{RowItem}
use Rattle.fzn_row.specs.declared.item.RowItem.TheVariants as item
use Rattle.fzn_cert.specs.Words.{◌>>=◌, positive_of, items_of}
use Rattle.fzn_cert.specs.Derivations.{multiplier_of, multiples_of, first_priced_of, priced_of, only_variable_of, behind_number, row_item_of, is_letter, before_item, from_item, items_among, row_items_of}
use Rattle.fzn_cert.proofs.CallerLemmas.{some_is, decimal_is_no_letter, first_priced_is_no_letter}
use Rattle.fzn_cert_line.specs.declared.row.Letter.{Letter}
use Rattle.fzn_cert_line.specs.declared.row.Letter.TheVariants as letter
use Rattle.fzn_cert_line.specs.Rows.{letter_word, from_letter, leading_number, up_to_item}
use Rattle.fzn_cert_line.proofs.OptionLaws.{bind_some}
use Rattle.fzn_cert_line.proofs.WordLaws.{number_takes}
use Rattle.fzn_cert_line.proofs.LoopLaws.{with_front, regroup, goes_on, stops, ends}
use Rattle.fzn_cert_line.proofs.RowLaws.{first_priced_takes}
use Rattle.fzn_cert_line.proofs.MultipleLaws.{with_read, reads_on, no_multiplier, no_second, no_number, all_read}

-- ---- letters and numbers

pub letter_is_one : (one : Letter) → is_letter (letter_word one) ≡ true
unfolding is_letter
letter_is_one letter.Multiples = refl
letter_is_one letter.Prices = refl
letter_is_one letter.Move = refl
letter_is_one letter.Columns = refl
letter_is_one letter.Rows = refl

number_is_none : (word : List ℕ) (n : ℕ) → positive_of word ≡ Some n → is_letter word ≡ false
number_is_none word n h =
    let t = number_takes word n h in
    subst (λ (w : List ℕ). is_letter w ≡ false) (sym t.0) (decimal_is_no_letter n t.1)

letter_is_no_number : (word : List ℕ) → is_letter word ≡ true → positive_of word ≡ None
letter_is_no_number word is = by (positive_of word) refl
  where
    by : (read : Option ℕ) → positive_of word ≡ read → positive_of word ≡ None
    by None e = e
    by (Some n) e = absurd (false≢true (sym (number_is_none word n e) ∙ is))

first_is_none : (word : List ℕ) (low : ℤ) → first_priced_of word ≡ Some low → is_letter word ≡ false
first_is_none word low h =
    let t = first_priced_takes word low h in
    subst (λ (w : List ℕ). is_letter w ≡ false) (sym t.0) (first_priced_is_no_letter low t.1)

-- where an item begins with the first word, no words are in front of it
record BeginsItem (words : List (List ℕ)) : Type 0 where
  before : before_item words ≡ []
  from : from_item words ≡ words

at-letter : (one : Letter) (words : List (List ℕ)) → BeginsItem (letter_word one ∷ words)
unfolding before_item from_item
at-letter one words = record { before = rw (letter_is_one one) refl; from = rw (letter_is_one one) refl }

at-end : BeginsItem []
unfolding before_item from_item
at-end = record { before = refl; from = refl }

-- else the first word is one of these
record BeginsNumber (word : List ℕ) (words : List (List ℕ)) : Type 0 where
  before : before_item (word ∷ words) ≡ word ∷ before_item words
  from : from_item (word ∷ words) ≡ from_item words

at-number : (word : List ℕ) (words : List (List ℕ)) → is_letter word ≡ false → BeginsNumber word words
unfolding before_item from_item
at-number word words is = record { before = rw is refl; from = rw is refl }

-- ---- what is read up to the next item

pub up-some : {A : Type 0} (f : List (List ℕ) → Option A) (words : List (List ℕ)) (x : A) (behind : List (List ℕ)) → f (before_item words) ≡ Some x → from_item words ≡ behind → Some (x, behind) ≡ up_to_item f words
unfolding up_to_item
up-some f words x behind h e = rw (h, e) refl

pub up-none : {A : Type 0} (f : List (List ℕ) → Option A) (words : List (List ℕ)) → f (before_item words) ≡ None → None ≡ up_to_item f words
unfolding up_to_item
up-none f words h = rw h refl

-- it was read so
pub record IsTaken {A : Type 0} (f : List (List ℕ) → Option A) (words : List (List ℕ)) (x : A) (behind : List (List ℕ)) : Type 0 where
  pub read : f (before_item words) ≡ Some x
  pub behind_is : from_item words ≡ behind

pub up-taken : {A : Type 0} (f : List (List ℕ) → Option A) (words : List (List ℕ)) (x : A) (behind : List (List ℕ)) → Some (x, behind) ≡ up_to_item f words → IsTaken f words x behind
unfolding up_to_item
up-taken {A} f words x behind e =
    let a = bind_some (f (before_item words)) (λ y. Some (y, from_item words)) (x, behind) (sym e) in
    let made : A × List (List ℕ) = (a.0, from_item words) in
    let told : A × List (List ℕ) = (x, behind) in
    let same : made ≡ told = some_is made told a.2 in
    record { read = a.1 ∙ ap (λ (p : A × List (List ℕ)). Some p.0) same; behind_is = ap (λ (p : A × List (List ℕ)). p.1) same }

pub up-not : {A : Type 0} (f : List (List ℕ) → Option A) (words : List (List ℕ)) → None ≡ up_to_item f words → f (before_item words) ≡ None
unfolding up_to_item
up-not {A} f words e = by (f (before_item words)) e
  where
    with_rest : A → Option (A × List (List ℕ))
    with_rest y = Some (y, from_item words)

    by : (o : Option A) → None ≡ (o >>= with_rest) → o ≡ None
    by None h = refl
    by (Some x) h = absurd cc

-- ---- multiples

-- these were read, and those in front of the next item are still to be read
pub record IsReading (front : List Multiple) (words start : List (List ℕ)) : Type 0 where
  pub read : with_read front (multiples_of (before_item words)) ≡ multiples_of (before_item start)
  pub behind : from_item words ≡ from_item start

reading-over : (front : List Multiple) (words start : List (List ℕ)) → IsReading front words start → BeginsItem words → Some (front, words) ≡ up_to_item multiples_of start
reading-over front words start h at =
    up-some multiples_of start front words (sym (all_read front (before_item words) (multiples_of (before_item start)) at.before h.read)) (sym h.behind ∙ at.from)

pub reading-letter : (front : List Multiple) (words start : List (List ℕ)) (word : List ℕ) (rest : List (List ℕ)) (one : Letter) → IsReading front words start → words ≡ word ∷ rest → word ≡ letter_word one
    → Some (front, letter_word one ∷ rest) ≡ up_to_item multiples_of start
reading-letter front words start word rest one h e is =
    let same : words ≡ letter_word one ∷ rest = e ∙ ap (λ (w : List ℕ). w ∷ rest) is in
    reading-over front (letter_word one ∷ rest) start (subst (λ (ws : List (List ℕ)). IsReading front ws start) same h) (at-letter one rest)

pub reading-end : (front : List Multiple) (words start : List (List ℕ)) → IsReading front words start → words ≡ [] → Some (front, []) ≡ up_to_item multiples_of start
reading-end front words start h e = reading-over front [] start (subst (λ (ws : List (List ℕ)). IsReading front ws start) e h) at-end

pub reading-no-multiplier : (front : List Multiple) (words start : List (List ℕ)) (word : List ℕ) (rest : List (List ℕ)) → IsReading front words start → words ≡ word ∷ rest → is_letter word ≡ false → multiplier_of word ≡ None
    → None ≡ up_to_item multiples_of start
reading-no-multiplier front words start word rest h e number none =
    let at = at-number word rest number in
    up-none multiples_of start (sym (no_multiplier front (before_item words) (before_item rest) word (multiples_of (before_item start)) (ap before_item e ∙ at.before) none h.read))

pub reading-no-second : (front : List Multiple) (words start : List (List ℕ)) (word : List ℕ) → IsReading front words start → words ≡ word ∷ [] → is_letter word ≡ false → None ≡ up_to_item multiples_of start
reading-no-second front words start word h e number =
    let at = at-number word [] number in
    up-none multiples_of start (sym (no_second front (before_item words) word (multiples_of (before_item start)) (ap before_item e ∙ at.before ∙ ap (λ (ws : List (List ℕ)). word ∷ ws) at-end.before) h.read))

pub reading-no-number : (front : List Multiple) (words start : List (List ℕ)) (word next : List ℕ) (rest : List (List ℕ)) (k : ℤ) → IsReading front words start → words ≡ word ∷ next ∷ rest → is_letter word ≡ false
    → multiplier_of word ≡ Some k → positive_of next ≡ None → None ≡ up_to_item multiples_of start
unfolding before_item
reading-no-number front words start word next rest k h e number is none = up-none multiples_of start (sym (by (is_letter next) refl))
  where
    all : before_item words ≡ word ∷ before_item (next ∷ rest)
    all = ap before_item e ∙ (at-number word (next ∷ rest) number).before

    by : (b : Bool) → is_letter next ≡ b → None ≡ multiples_of (before_item start)
    by true so =
        let ends : before_item (next ∷ rest) ≡ [] = rw so refl in
        no_second front (before_item words) word (multiples_of (before_item start)) (all ∙ ap (λ (ws : List (List ℕ)). word ∷ ws) ends) h.read
    by false so =
        no_number front (before_item words) (before_item rest) word next k (multiples_of (before_item start)) (all ∙ ap (λ (ws : List (List ℕ)). word ∷ ws) (at-number next rest so).before) is none h.read

pub reading-more : (front : List Multiple) (words start : List (List ℕ)) (word next : List ℕ) (rest : List (List ℕ)) (k pushed : ℤ) (c : ℕ) → IsReading front words start → words ≡ word ∷ next ∷ rest → is_letter word ≡ false
    → multiplier_of word ≡ Some k → positive_of next ≡ Some c → pushed ≡ k → IsReading (front ++ record { multiplier = pushed; constraint = c } ∷ []) rest start
reading-more front words start word next rest k pushed c h e number is second same =
    let first = at-number word (next ∷ rest) number in
    let then_next = at-number next rest (number_is_none next c second) in
    record {
      read = reads_on front (before_item words) (before_item rest) word next k pushed c (multiples_of (before_item start))
          (ap before_item e ∙ first.before ∙ ap (λ (ws : List (List ℕ)). word ∷ ws) then_next.before) is second same h.read;
      behind = sym then_next.from ∙ sym first.from ∙ sym (ap from_item e) ∙ h.behind;
    }

-- ---- prices

pub record IsPricing (front : List ℤ) (words start : List (List ℕ)) : Type 0 where
  pub read : with_front front (items_of multiplier_of (before_item words)) ≡ items_of multiplier_of (before_item start)
  pub behind : from_item words ≡ from_item start

pricing-over : (front : List ℤ) (words start : List (List ℕ)) → IsPricing front words start → BeginsItem words → Some (front, words) ≡ up_to_item (items_of multiplier_of) start
pricing-over front words start h at =
    up-some (items_of multiplier_of) start front words (sym (ends multiplier_of front (before_item words) (items_of multiplier_of (before_item start)) at.before h.read)) (sym h.behind ∙ at.from)

pub pricing-letter : (front : List ℤ) (words start : List (List ℕ)) (word : List ℕ) (rest : List (List ℕ)) (one : Letter) → IsPricing front words start → words ≡ word ∷ rest → word ≡ letter_word one
    → Some (front, letter_word one ∷ rest) ≡ up_to_item (items_of multiplier_of) start
pricing-letter front words start word rest one h e is =
    let same : words ≡ letter_word one ∷ rest = e ∙ ap (λ (w : List ℕ). w ∷ rest) is in
    pricing-over front (letter_word one ∷ rest) start (subst (λ (ws : List (List ℕ)). IsPricing front ws start) same h) (at-letter one rest)

pub pricing-end : (front : List ℤ) (words start : List (List ℕ)) → IsPricing front words start → words ≡ [] → Some (front, []) ≡ up_to_item (items_of multiplier_of) start
pricing-end front words start h e = pricing-over front [] start (subst (λ (ws : List (List ℕ)). IsPricing front ws start) e h) at-end

pub pricing-stops : (front : List ℤ) (words start : List (List ℕ)) (word : List ℕ) (rest : List (List ℕ)) → IsPricing front words start → words ≡ word ∷ rest → is_letter word ≡ false → multiplier_of word ≡ None
    → None ≡ up_to_item (items_of multiplier_of) start
pricing-stops front words start word rest h e number none =
    let at = at-number word rest number in
    up-none (items_of multiplier_of) start (sym (stops multiplier_of front (before_item words) (before_item rest) word (items_of multiplier_of (before_item start)) (ap before_item e ∙ at.before) none h.read))

pub pricing-more : (front : List ℤ) (words start : List (List ℕ)) (word : List ℕ) (rest : List (List ℕ)) (price pushed : ℤ) → IsPricing front words start → words ≡ word ∷ rest → is_letter word ≡ false → multiplier_of word ≡ Some price → pushed ≡ price
    → IsPricing (front ++ pushed ∷ []) rest start
pricing-more front words start word rest price pushed h e number is same =
    let at = at-number word rest number in
    record {
      read = ap (λ (p : ℤ). with_front (front ++ p ∷ []) (items_of multiplier_of (before_item rest))) same ∙ goes_on multiplier_of front (before_item words) (before_item rest) word price (items_of multiplier_of (before_item start)) (ap before_item e ∙ at.before) is h.read;
      behind = sym at.from ∙ sym (ap from_item e) ∙ h.behind;
    }

-- ---- one item of each kind

pub multiples-read : (start : List (List ℕ)) (multiples : List Multiple) (behind : List (List ℕ)) → Some (multiples, behind) ≡ up_to_item multiples_of start → Some (item.Multiples multiples, behind) ≡ up_to_item (row_item_of (letter_word letter.Multiples)) start
unfolding row_item_of
multiples-read start multiples behind e =
    let t = up-taken multiples_of start multiples behind e in
    up-some (row_item_of (letter_word letter.Multiples)) start (item.Multiples multiples) behind (rw t.read refl) t.behind_is

pub multiples-not : (start : List (List ℕ)) → None ≡ up_to_item multiples_of start → None ≡ up_to_item (row_item_of (letter_word letter.Multiples)) start
unfolding row_item_of
multiples-not start e = up-none (row_item_of (letter_word letter.Multiples)) start (rw (up-not multiples_of start e) refl)

-- what was read, as an item of a row
abbrev pub made : {A B : Type 0} → (A → B) → Option (A × List (List ℕ)) → Option (B × List (List ℕ))
made of read = read >>= λ r. Some (of r.0, r.1)

up-made : {A B : Type 0} (f : List (List ℕ) → Option A) (of : A → B) (g : List (List ℕ) → Option B) (words : List (List ℕ)) → g (before_item words) ≡ (f (before_item words) >>= λ x. Some (of x)) → up_to_item g words ≡ made of (up_to_item f words)
unfolding up_to_item
up-made {A} {B} f of g words e = rw e (by (f (before_item words)))
  where
    of_read : A → Option B
    of_read x = Some (of x)

    by : (read : Option A) → ((read >>= of_read) >>= λ y. Some (y, from_item words)) ≡ made of (read >>= λ x. Some (x, from_item words))
    by None = refl
    by (Some x) = refl

-- ---- behind a number

-- a number, and what was read behind it
abbrev pub numbered : {A : Type 0} → Option ℕ → Option (A × List (List ℕ)) → Option ((ℕ × A) × List (List ℕ))
numbered number read = number >>= λ n. read >>= λ r. Some ((n, r.0), r.1)

pub behind_is_read : {A : Type 0} (f : List (List ℕ) → Option A) (words : List (List ℕ)) → up_to_item (behind_number f) words ≡ numbered (leading_number words) (up_to_item f (drop 1 words))
unfolding up_to_item behind_number leading_number before_item from_item
behind_is_read f [] = refl
behind_is_read {A} f (word ∷ words) = by (is_letter word) refl
  where
    behind : Option ℕ → Option A → Option (ℕ × A)
    behind number read = number >>= λ n. read >>= λ x. Some (n, x)

    joined : (number : Option ℕ) (read : Option A) → (behind number read >>= λ x. Some (x, from_item words)) ≡ numbered number (read >>= λ x. Some (x, from_item words))
    joined None read = refl
    joined (Some n) None = refl
    joined (Some n) (Some x) = refl

    by : (b : Bool) → is_letter word ≡ b → up_to_item (behind_number f) (word ∷ words) ≡ numbered (positive_of word) (up_to_item f words)
    by true so = rw (so, letter_is_no_number word so) refl
    by false so = rw so (joined (positive_of word) (f (before_item words)))

-- ---- the number that has the first price, and the prices

pub priced-none : (start : List (List ℕ)) → start ≡ [] → None ≡ up_to_item priced_of start
unfolding priced_of before_item
priced-none start e = up-none priced_of start (rw e refl)

pub priced-no-low : (start : List (List ℕ)) (first : List ℕ) (rest : List (List ℕ)) → start ≡ first ∷ rest → first_priced_of first ≡ None → None ≡ up_to_item priced_of start
unfolding before_item priced_of
priced-no-low start first rest e none = up-none priced_of start (ap (λ (ws : List (List ℕ)). priced_of (before_item ws)) e ∙ by (is_letter first) refl)
  where
    by : (b : Bool) → is_letter first ≡ b → priced_of (before_item (first ∷ rest)) ≡ None
    by true so = rw so refl
    by false so = rw (so, none) refl

pub priced-read : (start : List (List ℕ)) (first : List ℕ) (rest : List (List ℕ)) (low held : ℤ) (prices : List ℤ) (behind : List (List ℕ)) → start ≡ first ∷ rest → first_priced_of first ≡ Some low → held ≡ low
    → Some (prices, behind) ≡ up_to_item (items_of multiplier_of) rest → Some ((held, prices), behind) ≡ up_to_item priced_of start
unfolding priced_of
priced-read start first rest low held prices behind e is same read =
    let one = at-number first rest (first_is_none first low is) in
    let t = up-taken (items_of multiplier_of) rest prices behind read in
    ap (λ (l : ℤ). Some ((l, prices), behind)) same
    ∙ up-some priced_of start (low, prices) behind (rw (ap before_item e ∙ one.before, is, t.read) refl) (ap from_item e ∙ one.from ∙ t.behind_is)

pub priced-not : (start : List (List ℕ)) (first : List ℕ) (rest : List (List ℕ)) (low : ℤ) → start ≡ first ∷ rest → first_priced_of first ≡ Some low → None ≡ up_to_item (items_of multiplier_of) rest → None ≡ up_to_item priced_of start
unfolding priced_of
priced-not start first rest low e is read =
    let one = at-number first rest (first_is_none first low is) in
    up-none priced_of start (rw (ap before_item e ∙ one.before, is, up-not (items_of multiplier_of) rest read) refl)

-- ---- a variable that ends the item

abbrev pub variable_of_number : ℕ → VarId
variable_of_number n = record { 0 = n }

pub variable-none : (start : List (List ℕ)) → start ≡ [] → None ≡ up_to_item only_variable_of start
unfolding only_variable_of before_item
variable-none start e = up-none only_variable_of start (rw e refl)

no-variable : (word : List ℕ) (words : List (List ℕ)) → positive_of word ≡ None → only_variable_of (word ∷ words) ≡ None
unfolding only_variable_of
no-variable word [] h = rw h refl
no-variable word (next ∷ words) h = refl

pub variable-no-number : (start : List (List ℕ)) (word : List ℕ) (rest : List (List ℕ)) → start ≡ word ∷ rest → positive_of word ≡ None → None ≡ up_to_item only_variable_of start
unfolding before_item only_variable_of
variable-no-number start word rest e h = up-none only_variable_of start (ap (λ (ws : List (List ℕ)). only_variable_of (before_item ws)) e ∙ by (is_letter word) refl)
  where
    by : (b : Bool) → is_letter word ≡ b → only_variable_of (before_item (word ∷ rest)) ≡ None
    by true so = rw so refl
    by false so = rw so (no-variable word (before_item rest) h)

variable-over : (start : List (List ℕ)) (word : List ℕ) (rest : List (List ℕ)) (n : ℕ) → start ≡ word ∷ rest → positive_of word ≡ Some n → BeginsItem rest → Some (variable_of_number n, rest) ≡ up_to_item only_variable_of start
unfolding only_variable_of
variable-over start word rest n e h at =
    let one = at-number word rest (number_is_none word n h) in
    let all : before_item start ≡ word ∷ [] = ap before_item e ∙ one.before ∙ ap (λ (ws : List (List ℕ)). word ∷ ws) at.before in
    up-some only_variable_of start (variable_of_number n) rest (rw (all, h) refl) (ap from_item e ∙ one.from ∙ at.from)

pub variable-end : (start : List (List ℕ)) (word : List ℕ) (rest : List (List ℕ)) (n : ℕ) → start ≡ word ∷ rest → positive_of word ≡ Some n → rest ≡ [] → Some (variable_of_number n, []) ≡ up_to_item only_variable_of start
variable-end start word rest n e h none = variable-over start word [] n (e ∙ ap (λ (ws : List (List ℕ)). word ∷ ws) none) h at-end

pub variable-letter : (start : List (List ℕ)) (word behind : List ℕ) (rest : List (List ℕ)) (n : ℕ) (one : Letter) → start ≡ word ∷ behind ∷ rest → positive_of word ≡ Some n → behind ≡ letter_word one
    → Some (variable_of_number n, letter_word one ∷ rest) ≡ up_to_item only_variable_of start
variable-letter start word behind rest n one e h is = variable-over start word (letter_word one ∷ rest) n (e ∙ ap (λ (w : List ℕ). word ∷ w ∷ rest) is) h (at-letter one rest)

pub variable-more : (start : List (List ℕ)) (word behind : List ℕ) (rest : List (List ℕ)) (n : ℕ) → start ≡ word ∷ behind ∷ rest → positive_of word ≡ Some n → is_letter behind ≡ false → None ≡ up_to_item only_variable_of start
unfolding only_variable_of
variable-more start word behind rest n e h number =
    let one = at-number word (behind ∷ rest) (number_is_none word n h) in
    let all : before_item start ≡ word ∷ behind ∷ before_item rest = ap before_item e ∙ one.before ∙ ap (λ (ws : List (List ℕ)). word ∷ ws) (at-number behind rest number).before in
    up-none only_variable_of start (rw all refl)

-- ---- items of numbers

abbrev pub prices_item : ℕ × (ℤ × List ℤ) → RowItem
prices_item it = item.Prices it.0 it.1.0 it.1.1

abbrev pub move_item : ℕ × VarId → RowItem
move_item it = item.Move it.0 it.1

abbrev pub columns_item : ℕ × (ℕ × (ℤ × List ℤ)) → RowItem
columns_item it = item.Columns it.0 it.1.0 it.1.1.0 it.1.1.1

abbrev pub rows_item : ℕ × VarId → RowItem
rows_item it = item.Rows it.0 it.1

pub prices_are_read : (words : List (List ℕ)) → up_to_item (row_item_of (letter_word letter.Prices)) words ≡ made prices_item (numbered (leading_number words) (up_to_item priced_of (drop 1 words)))
unfolding row_item_of
prices_are_read words = up-made (behind_number priced_of) prices_item (row_item_of (letter_word letter.Prices)) words refl ∙ ap (made prices_item) (behind_is_read priced_of words)

pub move_is_read : (words : List (List ℕ)) → up_to_item (row_item_of (letter_word letter.Move)) words ≡ made move_item (up_to_item (behind_number only_variable_of) words)
unfolding row_item_of
move_is_read words = up-made (behind_number only_variable_of) move_item (row_item_of (letter_word letter.Move)) words refl

pub columns_are_read : (words : List (List ℕ)) → up_to_item (row_item_of (letter_word letter.Columns)) words ≡ made columns_item (numbered (leading_number words) (numbered (leading_number (drop 1 words)) (up_to_item priced_of (drop 1 (drop 1 words)))))
unfolding row_item_of
columns_are_read words =
    up-made (behind_number (behind_number priced_of)) columns_item (row_item_of (letter_word letter.Columns)) words refl
    ∙ ap (made columns_item) (behind_is_read (behind_number priced_of) words ∙ ap (numbered (leading_number words)) (behind_is_read priced_of (drop 1 words)))

pub rows_are_read : (words : List (List ℕ)) → up_to_item (row_item_of (letter_word letter.Rows)) words ≡ made rows_item (up_to_item (behind_number only_variable_of) words)
unfolding row_item_of
rows_are_read words = up-made (behind_number only_variable_of) rows_item (row_item_of (letter_word letter.Rows)) words refl

-- ---- all items

among-word : (word : List ℕ) (words : List (List ℕ)) → is_letter word ≡ false → items_among (word ∷ words) ≡ items_among words
unfolding items_among
among-word word words is = rw is refl

among-from : (words : List (List ℕ)) → items_among (from_item words) ≡ items_among words
unfolding from_item
among-from [] = refl
among-from (word ∷ words) = by (among-from words) (is_letter word) refl
  where
    by : items_among (from_item words) ≡ items_among words → (b : Bool) → is_letter word ≡ b → items_among (from_item (word ∷ words)) ≡ items_among (word ∷ words)
    by more true so = rw so refl
    by more false so = rw so more ∙ sym (among-word word words so)

among-letter : (one : Letter) (words : List (List ℕ)) → items_among (letter_word one ∷ words) ≡ (row_item_of (letter_word one) (before_item words) >>= λ item. items_among words >>= λ others. Some (item ∷ others))
unfolding items_among
among-letter one words = rw (letter_is_one one) refl

pub items-first : (words : List (List ℕ)) (word : List ℕ) (rest : List (List ℕ)) (one : Letter) → words ≡ word ∷ rest → word ≡ letter_word one → items_among (letter_word one ∷ rest) ≡ row_items_of words
unfolding row_items_of
items-first words word rest one e is =
    let same : words ≡ letter_word one ∷ rest = e ∙ ap (λ (w : List ℕ). w ∷ rest) is in
    rw (same, letter_is_one one) refl

pub items-more : (front : List RowItem) (begun : Option Letter) (one : Letter) (words : List (List ℕ)) (read : RowItem) (behind : List (List ℕ)) (total : Option (List RowItem))
    → begun ≡ Some one → Some (read, behind) ≡ up_to_item (row_item_of (letter_word one)) words → with_front front (items_among (from_letter begun words)) ≡ total → with_front (front ++ read ∷ []) (items_among behind) ≡ total
items-more front begun one words read behind total is taken so_far =
    let t = up-taken (row_item_of (letter_word one)) words read behind taken in
    let rest : items_among words ≡ items_among behind = sym (among-from words) ∙ ap items_among t.behind_is in
    let here : items_among (letter_word one ∷ words) ≡ (items_among behind >>= λ others. Some (read ∷ others)) = among-letter one words ∙ rw (t.read, rest) refl in
    let left : from_letter begun words ≡ letter_word one ∷ words = ap (λ (b : Option Letter). from_letter b words) is in
    sym (regroup front read (items_among behind)) ∙ sym (ap (with_front front) (ap items_among left ∙ here)) ∙ so_far

pub items-stop : (front : List RowItem) (begun : Option Letter) (one : Letter) (words : List (List ℕ)) (total : Option (List RowItem))
    → begun ≡ Some one → None ≡ up_to_item (row_item_of (letter_word one)) words → with_front front (items_among (from_letter begun words)) ≡ total → None ≡ total
items-stop front begun one words total is taken so_far =
    let here : items_among (letter_word one ∷ words) ≡ None = among-letter one words ∙ rw (up-not (row_item_of (letter_word one)) words taken) refl in
    let left : from_letter begun words ≡ letter_word one ∷ words = ap (λ (b : Option Letter). from_letter b words) is in
    sym (ap (with_front front) (ap items_among left ∙ here)) ∙ so_far

pub items-end : (front : List RowItem) (begun : Option Letter) (words : List (List ℕ)) (total : Option (List RowItem)) → begun ≡ None → with_front front (items_among (from_letter begun words)) ≡ total → Some front ≡ total
unfolding items_among
items-end front begun words total is so_far =
    let left : from_letter begun words ≡ [] = ap (λ (b : Option Letter). from_letter b words) is in
    sym (ap (λ (xs : List RowItem). Some xs) (append-nil front)) ∙ sym (ap (λ (ws : List (List ℕ)). with_front front (items_among ws)) left) ∙ so_far

-- fewer words are left
from-short : (words : List (List ℕ)) → length (from_item words) ≤ length words
unfolding from_item
from-short [] = omega arith
from-short (word ∷ words) = by (from-short words) (is_letter word) refl
  where
    by : length (from_item words) ≤ length words → (b : Bool) → is_letter word ≡ b → length (from_item (word ∷ words)) ≤ length (word ∷ words)
    by more true so = rw so (omega arith)
    by more false so = rw so (omega (arith, more))

pub items-shrink : (begun : Option Letter) (one : Letter) (words : List (List ℕ)) (read : RowItem) (behind : List (List ℕ)) → begun ≡ Some one → Some (read, behind) ≡ up_to_item (row_item_of (letter_word one)) words
    → length behind < length (from_letter begun words)
items-shrink begun one words read behind is taken =
    let t = up-taken (row_item_of (letter_word one)) words read behind taken in
    let left : from_letter begun words ≡ letter_word one ∷ words = ap (λ (b : Option Letter). from_letter b words) is in
    omega (arith, from-short words, ap (λ (ws : List (List ℕ)). length ws) t.behind_is, ap (λ (ws : List (List ℕ)). length ws) left)
