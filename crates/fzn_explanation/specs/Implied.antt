-- What literals of one variable say of each other.
use Rattle.std.specs.Prelude.{◌≡◌, ◌↔◌, true, ℤ}
use Rattle.fzn_domain.specs.declared.literal.Lit.{Lit}
use Rattle.fzn_domain.specs.Literal.{is_true_at}
use Rattle.fzn_domain.specs.IntSet.{IntSet, contains}

-- the second is true wherever the first one is
abbrev pub Implies : Lit → Lit → Type 0
Implies first second = (value : ℤ) → is_true_at first value ≡ true → is_true_at second value ≡ true

-- they are true at the same values of the set
abbrev pub AreAlike : IntSet → Lit → Lit → Type 0
AreAlike s one other = (value : ℤ) → contains s value ≡ true → (is_true_at one value ≡ true) ↔ (is_true_at other value ≡ true)

-- the literal is true at each value of the set
abbrev pub IsTrueOnSet : IntSet → Lit → Type 0
IsTrueOnSet s lit = (value : ℤ) → contains s value ≡ true → is_true_at lit value ≡ true
