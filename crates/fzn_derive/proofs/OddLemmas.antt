-- Numbers that stand an odd number of times in a list.
use Rattle.std.proofs.Common.{◌≡◌, ◌≢◌, ◌↔◌, ℕ, zero, suc, ◌+◌, ◌<◌, ◌≤◌, ◌%◌, Bool, cond, eqb, List, [], ◌∷◌, ◌++◌, length, get_or, refl, ap, ap₂, subst, ◌⊎◌, inl, inr, ⊎_elim, arith}
use Rattle.std.specs.List.{AllPairs, Contains, remove, count_by, sum_by}
use Rattle.std.proofs.lemmas.List.Edits.{length-remove}
use Rattle.std.proofs.lemmas.List.Sums.{sum_by-cons, sum_by-append, sum_by-remove}
use Rattle.std.proofs.lemmas.Bool.{cases_order, eq-eqb, ne_eqb}
use Rattle.fzn_derive.specs.Parity.{AreOddIn}

-- how often the number stands in the list
abbrev pub times : ℕ → List ℕ → ℕ
times n xs = count_by (λ (m : ℕ). eqb m n) xs

times-cons : (n x : ℕ) (xs : List ℕ) → times n (x ∷ xs) ≡ cond (eqb x n) 1 0 + times n xs
times-cons n x xs = sum_by-cons (λ (m : ℕ). cond (eqb m n) 1 0) x xs

pub times-append : (n : ℕ) (xs ys : List ℕ) → times n (xs ++ ys) ≡ times n xs + times n ys
times-append n xs ys = sum_by-append (λ (m : ℕ). cond (eqb m n) 1 0) xs ys

one_more : (n x : ℕ) → x ≡ n → ◌≡◌ {A = ℕ} (cond (eqb x n) 1 0) 1
one_more n x e = ap (λ (b : Bool). cond {A = ℕ} b 1 0) (eq-eqb x n e)

no_more : (n x : ℕ) → x ≢ n → ◌≡◌ {A = ℕ} (cond (eqb x n) 1 0) 0
no_more n x e = ap (λ (b : Bool). cond {A = ℕ} b 1 0) (ne_eqb x n e)

-- a number stands in the list where it does so some times
pub Contains-times : (n : ℕ) (xs : List ℕ) → 1 ≤ times n xs → Contains xs n
Contains-times n [] some = absurd (omega arith)
Contains-times n (x ∷ xs) some = by_order (λ more. Contains-times n xs more) (cases_order x n)
  where
    by_order : (1 ≤ times n xs → Contains xs n) → (x ≡ n) ⊎ ((x < n) ⊎ (n < x)) → Contains (x ∷ xs) n
    by_order later (inl e) = (0, omega arith, e)
    by_order later (inr apart) =
        let differ : x ≢ n = λ e. ⊎_elim (λ l. absurd (omega arith)) (λ l. absurd (omega arith)) apart in
        let whole = times-cons n x xs in
        let none = no_more n x differ in
        let rest = later (omega arith) in
        (suc rest.0, omega (arith, rest.1), rest.2)

pub times-Contains : (n : ℕ) (xs : List ℕ) → Contains xs n → 1 ≤ times n xs
times-Contains n [] (k, lt, e) = absurd (omega arith)
times-Contains n (x ∷ xs) (zero, lt, e) = let whole = times-cons n x xs in let one = one_more n x e in omega arith
times-Contains n (x ∷ xs) (suc k, lt, e) = let whole = times-cons n x xs in let rest = times-Contains n xs (k, omega arith, e) in omega arith

rising-tail : (x : ℕ) (xs : List ℕ) → AllPairs (λ (a b : ℕ). a < b) (x ∷ xs) → AllPairs (λ (a b : ℕ). a < b) xs
rising-tail x xs rising i j d below inside = rising (suc i) (suc j) d (omega arith) (omega arith)

rising-head : (x n : ℕ) (xs : List ℕ) → AllPairs (λ (a b : ℕ). a < b) (x ∷ xs) → Contains xs n → x < n
rising-head x n xs rising (k, lt, e) = subst (λ (m : ℕ). x < m) e (rising 0 (suc k) n (omega arith) (omega arith))

-- in a rising list each number stands once at most
pub times-rising : (n : ℕ) (xs : List ℕ) → AllPairs (λ (a b : ℕ). a < b) xs → times n xs ≤ 1
times-rising n [] rising = omega arith
times-rising n (x ∷ xs) rising = by_order (times-rising n xs (rising-tail x xs rising)) (cases_order x n)
  where
    by_order : times n xs ≤ 1 → (x ≡ n) ⊎ ((x < n) ⊎ (n < x)) → times n (x ∷ xs) ≤ 1
    by_order rest (inl e) = by_times (times n xs) refl
      where
        by_times : (m : ℕ) → times n xs ≡ m → times n (x ∷ xs) ≤ 1
        by_times zero is = let whole = times-cons n x xs in let one = one_more n x e in omega arith
        by_times (suc m) is = let later = rising-head x n xs rising (Contains-times n xs (omega arith)) in absurd (omega arith)
    by_order rest (inr apart) =
        let differ : x ≢ n = λ e. ⊎_elim (λ l. absurd (omega arith)) (λ l. absurd (omega arith)) apart in
        let whole = times-cons n x xs in
        let none = no_more n x differ in
        omega arith

-- the two lists have each number an even number of times together
pub odd_in-even : (numbers odd : List ℕ) → AreOddIn numbers odd → (n : ℕ) → (times n numbers + times n odd) % 2 ≡ 0
odd_in-even numbers odd h n = by_times (times n odd) refl (times-rising n odd h.rising)
  where
    by_times : (m : ℕ) → times n odd ≡ m → m ≤ 1 → (times n numbers + m) % 2 ≡ 0
    by_times zero is few = by_rest (times n numbers % 2) refl
      where
        by_rest : (r : ℕ) → times n numbers % 2 ≡ r → (times n numbers + 0) % 2 ≡ 0
        by_rest zero e = omega arith
        by_rest (suc zero) e = let some = times-Contains n odd ((h.each n).1 e) in absurd (omega arith)
        by_rest (suc (suc r)) e = absurd (omega arith)
    by_times (suc zero) is few = let e = (h.each n).0 (Contains-times n odd (omega arith)) in omega arith
    by_times (suc (suc m)) is few = absurd (omega arith)

pub odd_in-from_even : (numbers odd : List ℕ) → AllPairs (λ (a b : ℕ). a < b) odd → ((n : ℕ) → (times n numbers + times n odd) % 2 ≡ 0) → AreOddIn numbers odd
odd_in-from_even numbers odd rising even = record {
  rising = rising;
  each = λ n. (
    (λ c. let some = times-Contains n odd c in let one = times-rising n odd rising in let both = even n in omega arith),
    (λ e. let one = times-rising n odd rising in let both = even n in Contains-times n odd (omega arith)),
  );
}

-- ---- sums

-- a sum over a list that has each number an even number of times is even
even-sum : (f : ℕ → ℕ) (n : ℕ) (xs : List ℕ) → length xs ≤ n → ((m : ℕ) → times m xs % 2 ≡ 0) → sum_by f xs % 2 ≡ 0
even-sum f n [] few even = refl
even-sum f zero (x ∷ xs) few even = absurd (omega arith)
even-sum f (suc n) (x ∷ xs) few even =
    let whole = times-cons x x xs in
    let one = one_more x x refl in
    let two = even x in
    let other = Contains-times x xs (omega arith) in
    let ys : List ℕ = remove xs other.0 in
    let same : get_or xs other.0 x ≡ x = other.2 in
    let shorter = length-remove xs other.0 other.1 in
    let each : (m : ℕ) → times m ys % 2 ≡ 0 = λ m.
    let all = times-cons m x xs in
    let left = sum_by-remove (λ (k : ℕ). cond (eqb k m) 1 0) xs other.0 x other.1 in
    let again : ◌≡◌ {A = ℕ} (cond (eqb (get_or xs other.0 x) m) 1 0) (cond (eqb x m) 1 0) = ap (λ (k : ℕ). cond {A = ℕ} (eqb k m) 1 0) same in
    let pair = even m in
    omega arith in
    let rest = even-sum f n ys (omega arith) each in
    let total = sum_by-cons f x xs in
    let left = sum_by-remove f xs other.0 x other.1 in
    let again : f (get_or xs other.0 x) ≡ f x = ap f same in
    omega arith

pub odd_in-sum : (f : ℕ → ℕ) (numbers odd : List ℕ) → AreOddIn numbers odd → (sum_by f numbers + sum_by f odd) % 2 ≡ 0
odd_in-sum f numbers odd h =
    let both = sum_by-append f numbers odd in
    let even = even-sum f (length (numbers ++ odd)) (numbers ++ odd) (omega arith) (λ n. let all = times-append n numbers odd in let e = odd_in-even numbers odd h n in omega arith) in
    omega arith

-- ---- one list

same-rising : (xs ys : List ℕ) → AllPairs (λ (a b : ℕ). a < b) xs → AllPairs (λ (a b : ℕ). a < b) ys → ((n : ℕ) → Contains xs n ↔ Contains ys n) → xs ≡ ys
same-rising [] [] rx ry same = refl
same-rising [] (y ∷ ys) rx ry same = let c : Contains [] y = (same y).1 (0, omega arith, refl) in absurd (omega (arith, c.1))
same-rising (x ∷ xs) [] rx ry same = let c : Contains [] x = (same x).0 (0, omega arith, refl) in absurd (omega (arith, c.1))
same-rising (x ∷ xs) (y ∷ ys) rx ry same = ap₂ (λ (z : ℕ) (zs : List ℕ). z ∷ zs) first (same-rising xs ys (rising-tail x xs rx) (rising-tail y ys ry) (λ n. (to n, back n)))
  where
    least : (a : ℕ) (b : ℕ) (bs : List ℕ) → AllPairs (λ (a b : ℕ). a < b) (b ∷ bs) → Contains (b ∷ bs) a → b ≤ a
    least a b bs rising (zero, lt, e) = omega arith
    least a b bs rising (suc k, lt, e) = let l = rising-head b a bs rising (k, omega arith, e) in omega arith

    first : x ≡ y
    first =
        let low = least x y ys ry ((same x).0 (0, omega arith, refl)) in
        let high = least y x xs rx ((same y).1 (0, omega arith, refl)) in
        omega arith

    later : (n b : ℕ) (bs : List ℕ) → b < n → Contains (b ∷ bs) n → Contains bs n
    later n b bs l (zero, lt, e) = absurd (omega arith)
    later n b bs l (suc k, lt, e) = (k, omega arith, e)

    behind : (n b : ℕ) (bs : List ℕ) → Contains bs n → Contains (b ∷ bs) n
    behind n b bs (k, lt, e) = (suc k, omega arith, e)

    to : (n : ℕ) → Contains xs n → Contains ys n
    to n c = let l = rising-head x n xs rx c in let e = first in later n y ys (omega arith) ((same n).0 (behind n x xs c))

    back : (n : ℕ) → Contains ys n → Contains xs n
    back n c = let l = rising-head y n ys ry c in let e = first in later n x xs (omega arith) ((same n).1 (behind n y ys c))

pub odd_in-one : (numbers odd other : List ℕ) → AreOddIn numbers odd → AreOddIn numbers other → odd ≡ other
odd_in-one numbers odd other h k = same-rising odd other h.rising k.rising (λ n. ((λ c. (k.each n).1 ((h.each n).0 c)), (λ c. (h.each n).1 ((k.each n).0 c))))
