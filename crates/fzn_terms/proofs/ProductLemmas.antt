-- How products move as one factor does.
use Rattle.std.proofs.Common.{◌≡◌, ℕ, zero, suc, ◌*◌, refl, sym, ap, ◌∙◌, arith, ℤ, pos, negsuc, ◌+ℤ◌, ◌-ℤ◌, ◌*ℤ◌, ◌≤ℤ◌, ◌<ℤ◌, neg_ℤ, unsigned_abs}
use Rattle.std.proofs.lemmas.Int.{ints}
use Rattle.std.proofs.Math.IntN.{*ℤ_comm, suc_ℤ-*ℤ, *ℤ-zero, pos-*ℤ-pos, negsuc-*ℤ-pos, suc_ℤ}

next_is : (a : ℤ) → a +ℤ pos 1 ≡ suc_ℤ a
next_is (pos n) = omega (arith, ints)
next_is (negsuc zero) = refl
next_is (negsuc (suc n)) = omega (arith, ints)

one_more : (a : ℤ) (k : ℕ) → a +ℤ pos (suc k) ≡ suc_ℤ (a +ℤ pos k)
one_more a k = let e : a +ℤ pos (suc k) ≡ (a +ℤ pos k) +ℤ pos 1 = omega (arith, ints) in e ∙ next_is (a +ℤ pos k)

-- a factor is spread over a sum
mul_plus : (c a : ℤ) (k : ℕ) → c *ℤ (a +ℤ pos k) ≡ c *ℤ a +ℤ c *ℤ pos k
mul_plus c a zero =
    let e : a +ℤ pos 0 ≡ a = omega (arith, ints) in
    let f : c *ℤ a ≡ c *ℤ a +ℤ pos 0 = omega (arith, ints) in
    ap (λ (x : ℤ). c *ℤ x) e ∙ f ∙ ap (λ (x : ℤ). c *ℤ a +ℤ x) (sym (*ℤ-zero c))
mul_plus c a (suc k) =
    let step : c *ℤ (a +ℤ pos (suc k)) ≡ c *ℤ (a +ℤ pos k) +ℤ c =
    ap (λ (x : ℤ). c *ℤ x) (one_more a k) ∙ *ℤ_comm c (suc_ℤ (a +ℤ pos k)) ∙ suc_ℤ-*ℤ (a +ℤ pos k) c ∙ ap (λ (x : ℤ). x +ℤ c) (*ℤ_comm (a +ℤ pos k) c) in
    let last : c *ℤ pos (suc k) ≡ c *ℤ pos k +ℤ c = *ℤ_comm c (pos (suc k)) ∙ suc_ℤ-*ℤ (pos k) c ∙ ap (λ (x : ℤ). x +ℤ c) (*ℤ_comm (pos k) c) in
    let before = mul_plus c a k in
    omega (arith, ints)

gap : (a b : ℤ) → a ≤ℤ b → b ≡ a +ℤ pos (unsigned_abs (b -ℤ a))
gap a b h = grind (arith, ints)

-- how far a product moves
pub move_pos : (n : ℕ) (a b : ℤ) → a ≤ℤ b → pos n *ℤ b ≡ pos n *ℤ a +ℤ pos (n * unsigned_abs (b -ℤ a))
move_pos n a b h =
    ap (λ (x : ℤ). pos n *ℤ x) (gap a b h) ∙ mul_plus (pos n) a (unsigned_abs (b -ℤ a)) ∙ ap (λ (x : ℤ). pos n *ℤ a +ℤ x) (pos-*ℤ-pos n (unsigned_abs (b -ℤ a)))

pub move_neg : (m : ℕ) (a b : ℤ) → a ≤ℤ b → negsuc m *ℤ a ≡ negsuc m *ℤ b +ℤ pos (suc m * unsigned_abs (b -ℤ a))
move_neg m a b h =
    let e : negsuc m *ℤ b ≡ negsuc m *ℤ a +ℤ neg_ℤ (pos (suc m * unsigned_abs (b -ℤ a))) =
    ap (λ (x : ℤ). negsuc m *ℤ x) (gap a b h) ∙ mul_plus (negsuc m) a (unsigned_abs (b -ℤ a)) ∙ ap (λ (x : ℤ). negsuc m *ℤ a +ℤ x) (negsuc-*ℤ-pos m (unsigned_abs (b -ℤ a))) in
    omega (arith, ints)

pub mono_up : (c a b : ℤ) → pos 0 ≤ℤ c → a ≤ℤ b → (c *ℤ a) ≤ℤ (c *ℤ b)
mono_up (pos n) a b sign h = let e = move_pos n a b h in omega (arith, ints)
mono_up (negsuc m) a b sign h = absurd (omega (arith, ints))

pub mono_down : (c a b : ℤ) → c <ℤ pos 0 → a ≤ℤ b → (c *ℤ b) ≤ℤ (c *ℤ a)
mono_down (pos n) a b sign h = absurd (omega (arith, ints))
mono_down (negsuc m) a b sign h = let e = move_neg m a b h in omega (arith, ints)
