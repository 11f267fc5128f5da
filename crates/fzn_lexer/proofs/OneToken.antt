-- One token stands at the front, or one fault in its position.
use Rattle.std.proofs.Common.{◌≡◌, ℕ, ◌<◌, ℤ, pos, ◌-ℤ◌, Bool, true, false, ◌&&◌, ◌||◌, ◌==◌, if◌then◌else◌, List, [], ◌∷◌, ◌++◌, length, get_or, drop, refl, sym, ap, subst, ◌∙◌, arith, codes, inl, inr, length-append}
use Rattle.std.proofs.lemmas.Bool.{false≢true}
use Rattle.std.proofs.lemmas.Bool.Decides.{nat_tests}
use Rattle.std.proofs.lemmas.List.Sums.{AllPass-from_list_all}
use Rattle.std.specs.List.{AllPass}
use Rattle.fzn_lexer.specs.declared.fault.FaultKind.{FaultKind}
use Rattle.fzn_lexer.specs.declared.token.Kind.{Kind}
use Rattle.fzn_lexer.specs.declared.token.Kind.TheVariants as k
use Rattle.fzn_lexer.specs.declared.token.Symbol.{Symbol}
use Rattle.fzn_lexer.specs.declared.token.Symbol.TheVariants as s
use Rattle.fzn_lexer.specs.Bytes.{begins_word, is_word, is_white, is_digit, starts, value}
use Rattle.fzn_lexer.specs.Lexemes.{spelling, IsWord, IsNatural, IsNumeral, Spells, IsFloatWord, IsFloatDigits, IsFloat, EndsWell, StandsFirst, HasSmallNumber, StandsFault}
use Rattle.fzn_lexer.specs.Steps.{begins_number}
use Rattle.fzn_lexer.proofs.Runs.{front_get, front_take}
use Rattle.fzn_lexer.proofs.Shapes.{as_word, as_number, spells_some, natural_head, numeral_head, digit_number, one_length, symbol_no_quote}
use Rattle.fzn_lexer.proofs.TokenLaws.{word_pass}

-- ---- what symbols are spelled like

same : List ℕ → List ℕ → Bool
same [] [] = true
same [] (b ∷ y) = false
same (a ∷ x) [] = false
same (a ∷ x) (b ∷ y) = a == b && same x y

abbrev decoded : List ℕ → Symbol
decoded text =
    if same text (codes "array") then s.Array
    else (if same text (codes "bool") then s.Bool
    else (if same text (codes "constraint") then s.Constraint
    else (if same text (codes "false") then s.False
    else (if same text (codes "int") then s.Int
    else (if same text (codes "maximize") then s.Maximize
    else (if same text (codes "minimize") then s.Minimize
    else (if same text (codes "of") then s.Of
    else (if same text (codes "predicate") then s.Predicate
    else (if same text (codes "satisfy") then s.Satisfy
    else (if same text (codes "set") then s.Set
    else (if same text (codes "solve") then s.Solve
    else (if same text (codes "true") then s.True
    else (if same text (codes "var") then s.Var
    else (if same text (codes "(") then s.OpenParen
    else (if same text (codes ")") then s.CloseParen
    else (if same text (codes "[") then s.OpenBracket
    else (if same text (codes "]") then s.CloseBracket
    else (if same text (codes "{") then s.OpenBrace
    else (if same text (codes "}") then s.CloseBrace
    else (if same text (codes ",") then s.Comma
    else (if same text (codes ";") then s.Semicolon
    else (if same text (codes ":") then s.Colon
    else (if same text (codes "::") then s.Colons
    else (if same text (codes "=") then s.Equals
    else (if same text (codes "..") then s.Dots else s.End)))))))))))))))))))))))))

decoded_is : (x : Symbol) → decoded (spelling x) ≡ x
unfolding same
decoded_is s.End = refl
decoded_is x = refl

one_symbol : (x y : Symbol) → spelling x ≡ spelling y → x ≡ y
one_symbol x y e = sym (decoded_is x) ∙ (ap decoded e ∙ decoded_is y)

no_float_symbol : (x : Symbol) → same (spelling x) (codes "float") ≡ false
unfolding same
no_float_symbol s.End = refl
no_float_symbol x = refl

not_float_symbol : (x : Symbol) → spelling x ≡ codes "float" → ⊥
unfolding same
not_float_symbol x e = false≢true (sym (no_float_symbol x) ∙ ap (λ (z : List ℕ). same z (codes "float")) e)

-- no symbol begins like a gap
symbol_no_gap : (x : Symbol) → (is_white (get_or (spelling x) 0 0) || get_or (spelling x) 0 0 == 37) ≡ false
symbol_no_gap s.End = refl
symbol_no_gap x = refl

word_no_gap : (b : ℕ) → begins_word b ≡ true → (is_white b || b == 37) ≡ false
word_no_gap b e = grind (arith, nat_tests)

number_no_gap : (b : ℕ) → begins_number b ≡ true → (is_white b || b == 37) ≡ false
number_no_gap b e = grind (arith, nat_tests)

head_same : (b c : ℕ) (f g : List ℕ) → b ∷ f ≡ c ∷ g → b ≡ c
head_same b c f g e = ap (λ (z : List ℕ). get_or z 0 0) e

-- no token begins like a gap
pub spells_no_gap : (b : ℕ) (f : List ℕ) (kind : Kind) → Spells (b ∷ f) kind → (is_white b || b == 37) ≡ false
spells_no_gap b f (k.Symbol x) d = ap (λ (z : List ℕ). is_white (get_or z 0 0) || get_or z 0 0 == 37) d.1 ∙ symbol_no_gap x
spells_no_gap b f (k.Name name) d = word_no_gap b (subst IsWord (sym d.0) d.1.0).0
spells_no_gap b f (k.Int z) d = number_no_gap b (numeral_head b f z d)
spells_no_gap b f (k.Text inside) d = ap (λ (n : ℕ). is_white n || n == 37) (head_same b 34 f (inside ++ 34 ∷ []) d.0)

-- ---- numbers have one value

letter_no_digit : (letter : ℕ) (text digits : List ℕ) → is_digit letter ≡ false → text ≡ 48 ∷ letter ∷ digits → AllPass is_digit text → ⊥
letter_no_digit letter text digits other is pass = false≢true (sym other ∙ (ap is_digit (sym (ap (λ (z : List ℕ). get_or z 1 0) is)) ∙ pass 1 0 (let e = ap length is in omega arith)))

behind_letter : (one other : ℕ) (x y : List ℕ) → 48 ∷ one ∷ x ≡ 48 ∷ other ∷ y → (one ≡ other) × (x ≡ y)
behind_letter one other x y e = (ap (λ (z : List ℕ). get_or z 1 0) e, ap (drop 2) e)

one_natural : (text : List ℕ) (n m : ℕ) → IsNatural text n → IsNatural text m → n ≡ m
one_natural text n m (inl a) (inl b) = a.1 ∙ sym b.1
one_natural text n m (inl a) (inr (inl b)) = absurd (letter_no_digit 120 text b.0 refl b.1 a.0.1)
one_natural text n m (inl a) (inr (inr b)) = absurd (letter_no_digit 111 text b.0 refl b.1 a.0.1)
one_natural text n m (inr (inl a)) (inl b) = absurd (letter_no_digit 120 text a.0 refl a.1 b.0.1)
one_natural text n m (inr (inr a)) (inl b) = absurd (letter_no_digit 111 text a.0 refl a.1 b.0.1)
one_natural text n m (inr (inl a)) (inr (inl b)) = a.3 ∙ (ap (value 16) (behind_letter 120 120 a.0 b.0 (sym a.1 ∙ b.1)).1 ∙ sym b.3)
one_natural text n m (inr (inr a)) (inr (inr b)) = a.3 ∙ (ap (value 8) (behind_letter 111 111 a.0 b.0 (sym a.1 ∙ b.1)).1 ∙ sym b.3)
one_natural text n m (inr (inl a)) (inr (inr b)) = absurd (let e = (behind_letter 120 111 a.0 b.0 (sym a.1 ∙ b.1)).0 in omega arith)
one_natural text n m (inr (inr a)) (inr (inl b)) = absurd (let e = (behind_letter 111 120 a.0 b.0 (sym a.1 ∙ b.1)).0 in omega arith)

no_dash : (text rest : List ℕ) (n : ℕ) → text ≡ 45 ∷ rest → IsNatural text n → ⊥
no_dash text rest n is nat = false≢true (natural_head 45 rest n (subst (λ (z : List ℕ). IsNatural z n) is nat))

one_numeral : (text : List ℕ) (x y : ℤ) → IsNumeral text x → IsNumeral text y → x ≡ y
one_numeral text x y (inl a) (inl b) = a.2 ∙ (ap pos (one_natural text a.0 b.0 a.1 b.1) ∙ sym b.2)
one_numeral text x y (inl a) (inr b) = absurd (no_dash text b.0 a.0 b.2 a.1)
one_numeral text x y (inr a) (inl b) = absurd (no_dash text a.0 b.0 a.2 b.1)
one_numeral text x y (inr a) (inr b) =
    let rest : a.0 ≡ b.0 = ap (drop 1) (sym a.2 ∙ b.2) in
    a.4 ∙ (ap (λ (n : ℕ). pos 0 -ℤ pos n) (one_natural b.0 a.1 b.1 (subst (λ (z : List ℕ). IsNatural z a.1) rest a.3) b.3) ∙ sym b.4)

-- ---- a text is of one kind

word_not_number : (b : ℕ) → begins_word b ≡ true → begins_number b ≡ true → ⊥
word_not_number b e f = grind (arith, nat_tests)

number_kind : (b : ℕ) (f : List ℕ) (kind : Kind) (z : ℤ) → IsNumeral (b ∷ f) z → Spells (b ∷ f) kind → kind ≡ k.Int z
number_kind b f kind z is spelled =
    let t = as_number b f kind (numeral_head b f z is) spelled in
    t.1 ∙ ap k.Int (one_numeral (b ∷ f) t.0 z t.2 is)

text_inside : (a b : List ℕ) → 34 ∷ a ++ 34 ∷ [] ≡ 34 ∷ b ++ 34 ∷ [] → a ≡ b
text_inside [] [] e = refl
text_inside [] (c ∷ b) e = absurd (let l = ap length e in let m = length-append b (34 ∷ []) in omega arith)
text_inside (c ∷ a) [] e = absurd (let l = ap length e in let m = length-append a (34 ∷ []) in omega arith)
text_inside (c ∷ a) (d ∷ b) e =
    let first : c ≡ d = ap (λ (z : List ℕ). get_or z 1 0) e in
    ap (λ (z : ℕ). z ∷ a) first ∙ ap (λ (z : List ℕ). d ∷ z) (text_inside a b (ap (λ (z : List ℕ). 34 ∷ drop 2 z) e))

one_kind : (b : ℕ) (f : List ℕ) (x y : Kind) → Spells (b ∷ f) x → Spells (b ∷ f) y → x ≡ y
one_kind b f (k.Int z) y d e = sym (number_kind b f y z d e)
one_kind b f x (k.Int z) d e = number_kind b f x z e d
one_kind b f (k.Symbol x) (k.Symbol y) d e = ap k.Symbol (one_symbol x y (sym d.1 ∙ e.1))
one_kind b f (k.Symbol x) (k.Name n) d e = absurd (e.1.1 x (sym d.1 ∙ e.0))
one_kind b f (k.Symbol x) (k.Text i) d e = absurd (false≢true (sym (symbol_no_quote x) ∙ (ap (λ (z : List ℕ). get_or z 0 0 == 34) (sym d.1 ∙ e.0))))
one_kind b f (k.Name n) (k.Symbol x) d e = absurd (d.1.1 x (sym e.1 ∙ d.0))
one_kind b f (k.Name n) (k.Name m) d e = ap k.Name (sym d.0 ∙ e.0)
one_kind b f (k.Name n) (k.Text i) d e = absurd (false≢true (sym (ap begins_word (head_same b 34 f (i ++ 34 ∷ []) e.0)) ∙ (subst IsWord (sym d.0) d.1.0).0))
one_kind b f (k.Text i) (k.Symbol x) d e = absurd (false≢true (sym (symbol_no_quote x) ∙ (ap (λ (z : List ℕ). get_or z 0 0 == 34) (sym e.1 ∙ d.0))))
one_kind b f (k.Text i) (k.Name n) d e = absurd (false≢true (sym (ap begins_word (head_same b 34 f (i ++ 34 ∷ []) d.0)) ∙ (subst IsWord (sym e.0) e.1.0).0))
one_kind b f (k.Text i) (k.Text j) d e = ap k.Text (text_inside i j (sym d.0 ∙ e.0))

kind_of_text : (text : List ℕ) (x y : Kind) → Spells text x → Spells text y → x ≡ y
kind_of_text [] x y d e = absurd (spells_some x d)
kind_of_text (b ∷ f) x y d e = one_kind b f x y d e

-- ---- one token at the front

pub one_text : (rest a b : List ℕ) (x y : Kind) → StandsFirst rest a x → StandsFirst rest b y → (a ≡ b) × (x ≡ y)
one_text rest a b x y p q =
    let len = one_length rest a b p.after x y p.spelled p.parts p.longest q in
    let texts : a ≡ b = (front_take rest a p.after (length a) p.parts refl).0 ∙ sym (front_take rest b q.after (length a) q.parts len).0 in
    (texts, kind_of_text b x y (subst (λ (z : List ℕ). Spells z x) texts p.spelled) q.spelled)

-- ---- no token stands where a float does

float_digits_number : (rest : List ℕ) → IsFloatDigits rest → begins_number (get_or rest 0 0) ≡ true
float_digits_number rest f = digit_number (get_or rest 0 0) (ap is_digit (front_get rest f.0 f.1 0 f.3 f.2.0) ∙ f.2.1 0 0 f.2.0)

number_ends : (rest text : List ℕ) (kind : Kind) → begins_number (get_or rest 0 0) ≡ true → StandsFirst rest text kind → IsFloat rest → ⊥
number_ends rest [] kind head p f = spells_some kind p.spelled
number_ends rest (b ∷ t) kind head p f =
    let first : begins_number b ≡ true = ap begins_number (sym (ap (λ (z : List ℕ). get_or z 0 0) p.parts)) ∙ head in
    let n = as_number b t kind first p.spelled in
    (subst (λ (y : Kind). EndsWell y rest p.after) n.1 p.ends).1 f

float_named : (kind : Kind) → Spells (codes "float") kind → ⊥
float_named (k.Symbol x) d = not_float_symbol x (sym d.1)
float_named (k.Name n) d = d.1.2 d.0
float_named (k.Int z) d = false≢true (numeral_head 102 (codes "loat") z d)
float_named (k.Text i) d = let e = head_same 102 34 (codes "loat") (i ++ 34 ∷ []) d.0 in omega arith

after_float : (after : List ℕ) → starts is_word after ≡ false → is_word (get_or after 0 0) ≡ true → ⊥
after_float [] stops e = false≢true e
after_float (c ∷ more) stops e = false≢true (sym stops ∙ e)

float_longer : (rest text after more : List ℕ) (kind : Kind) → rest ≡ codes "float" ++ after → starts is_word after ≡ false → rest ≡ text ++ more → Spells text kind → 5 < length text → ⊥
float_longer rest [] after more kind parts stops front spelled lt = omega arith
float_longer rest (b ∷ t) after more kind parts stops front spelled lt =
    let first : begins_word b ≡ true = ap begins_word (ap (λ (z : List ℕ). get_or z 0 0) (sym front ∙ parts)) in
    let pass = word_pass (b ∷ t) (as_word b t kind first spelled) in
    let here : get_or (b ∷ t) 5 0 ≡ get_or after 0 0 = sym (front_get rest (b ∷ t) more 5 front lt) ∙ ap (λ (z : List ℕ). get_or z 5 0) parts in
    after_float after stops (ap is_word (sym here) ∙ pass 5 0 lt)

float_word_text : (rest text : List ℕ) (kind : Kind) → IsFloatWord rest → StandsFirst rest text kind → text ≡ codes "float"
float_word_text rest text kind f p =
    let word : IsWord (codes "float") = (refl, AllPass-from_list_all is_word (codes "loat") refl) in
    let short : length text < 5 → ⊥ = λ lt. (p.longest (codes "float") f.0 f.1 lt).1 word in
    let long : 5 < length text → ⊥ = λ lt. float_longer rest text f.0 p.after kind f.1 f.2 p.parts p.spelled lt in
    let len : length text ≡ 5 = omega arith in
    (front_take rest text p.after 5 p.parts len).0 ∙ sym (front_take rest (codes "float") f.0 5 f.1 refl).0

pub no_float : (rest text : List ℕ) (kind : Kind) → StandsFirst rest text kind → IsFloat rest → ⊥
no_float rest text kind p (inl f) = float_named kind (subst (λ (z : List ℕ). Spells z kind) (float_word_text rest text kind f p) p.spelled)
no_float rest text kind p (inr (inl f)) = number_ends rest text kind (float_digits_number rest f) p (inr (inl f))
no_float rest text kind p (inr (inr f)) = number_ends rest text kind (ap (λ (z : List ℕ). begins_number (get_or z 0 0)) f.1) p (inr (inr f))

-- ---- one fault in a token's position, and no token

pub no_fault : (rest text : List ℕ) (kind : Kind) (fault : FaultKind) → StandsFirst rest text kind → HasSmallNumber kind → StandsFault rest fault → ⊥
no_fault rest text kind fault p small (inl f) = no_float rest text kind p f.1
no_fault rest text kind fault p small (inr (inl f)) = f.1.3 (subst HasSmallNumber (one_text rest text f.1.0 kind (k.Int f.1.1) p f.1.2).1 small)
no_fault rest text kind fault p small (inr (inr f)) = f.2 text kind p

pub one_fault : (rest : List ℕ) (a b : FaultKind) → StandsFault rest a → StandsFault rest b → a ≡ b
one_fault rest a b (inl p) (inl q) = p.0 ∙ sym q.0
one_fault rest a b (inl p) (inr (inl q)) = absurd (no_float rest q.1.0 (k.Int q.1.1) q.1.2 p.1)
one_fault rest a b (inl p) (inr (inr q)) = absurd (q.1 p.1)
one_fault rest a b (inr (inl p)) (inl q) = absurd (no_float rest p.1.0 (k.Int p.1.1) p.1.2 q.1)
one_fault rest a b (inr (inl p)) (inr (inl q)) = p.0 ∙ sym q.0
one_fault rest a b (inr (inl p)) (inr (inr q)) = absurd (q.2 p.1.0 (k.Int p.1.1) p.1.2)
one_fault rest a b (inr (inr p)) (inl q) = absurd (p.1 q.1)
one_fault rest a b (inr (inr p)) (inr (inl q)) = absurd (p.2 q.1.0 (k.Int q.1.1) q.1.2)
one_fault rest a b (inr (inr p)) (inr (inr q)) = p.0 ∙ sym q.0
