-- Items token by token, and how many a file has.
use Rattle.std.proofs.Common.{◌≡◌, ℕ, suc, ◌+◌, ◌≤◌, Bool, true, false, List, [], ◌∷◌, ◌++◌, length, Option, Some, None, refl, ap, ◌∙◌, arith, nat_lt, append_assoc}
use Rattle.fzn_lexer.specs.declared.token.Span.{Span}
use Rattle.fzn_lexer.specs.declared.token.Symbol.TheVariants as s
use Rattle.fzn_lexer.specs.declared.token.Token.{Token}
use Rattle.fzn_lexer.specs.Kinds.{is_symbol}
use Rattle.fzn_tree.specs.declared.tree.Con.{Con}
use Rattle.fzn_tree.specs.declared.tree.Param.{Param}
use Rattle.fzn_tree.specs.declared.tree.Predicate.{Predicate}
use Rattle.fzn_tree.specs.declared.tree.Tree.{Tree}
use Rattle.fzn_tree.specs.declared.tree.Var.{Var}
use Rattle.fzn_tree.specs.declared.tree.Var.TheVariants as vars
use Rattle.fzn_tree.specs.Grammar as G
use Rattle.fzn_tree.specs.Piece.{Piece, AreSpelled, sign, each, each_by, one_more, marked}
use Rattle.fzn_sources.specs.Items.{begun_or, items_from, item_spans}

-- ---- one token more

module _ (front all : List Span) (begun : Option Span) (token : Token) (later : List Token) (so_far : front ++ items_from begun (token ∷ later) ≡ all) where
  -- it ends an item
  pub items-ended : (item : Span) → is_symbol s.Semicolon token.kind ≡ true → item ≡ record (begun_or begun token.span) { end = token.span.end } → (front ++ item ∷ []) ++ items_from None later ≡ all
  items-ended item test is =
      append_assoc front (item ∷ []) (items_from None later) ∙ rw is (rw test at so_far)

  -- or an item goes on
  pub items-open : (item : Span) → is_symbol s.Semicolon token.kind ≡ false → item ≡ begun_or begun token.span → front ++ items_from (Some item) later ≡ all
  items-open item test is = rw is (rw test at so_far)

-- ---- how many items there are

-- how many `;` there are
abbrev count : Bool → ℕ → ℕ
count true n = suc n
count false n = n

unfoldable pub ends_in : List Piece → ℕ
ends_in [] = 0
ends_in (p ∷ ps) = count (is_symbol s.Semicolon p.kind) (ends_in ps)

counted : (begun : Option Span) (t : Token) (ts : List Token) (n : ℕ) (b : Bool) → is_symbol s.Semicolon t.kind ≡ b → ((x : Option Span) → n ≡ length (items_from x ts)) → count b n ≡ length (items_from begun (t ∷ ts))
counted begun t ts n true is h = rw is (ap suc (h None))
counted begun t ts n false is h = rw is (h (Some (begun_or begun t.span)))

-- as many items as `;`
pub items-as_ends : (begun : Option Span) (tokens : List Token) (ps : List Piece) → AreSpelled tokens ps → ends_in ps ≡ length (items_from begun tokens)
unfolding ends_in
items-as_ends begun [] [] h = refl
items-as_ends begun [] (p ∷ ps) h = absurd h
items-as_ends begun (t ∷ ts) [] h = absurd h
items-as_ends begun (t ∷ ts) (p ∷ ps) h =
    counted begun t ts (ends_in ps) (is_symbol s.Semicolon p.kind) (ap (is_symbol s.Semicolon) h.0.0) (λ x. items-as_ends x ts ps h.1)

count-sum : (b : Bool) (n m k : ℕ) → n ≡ m + k → count b n ≡ count b m + k
count-sum true n m k h = omega (arith, h)
count-sum false n m k h = h

ends-append : (ps qs : List Piece) → ends_in (ps ++ qs) ≡ ends_in ps + ends_in qs
unfolding ends_in
ends-append [] qs = omega arith
ends-append (p ∷ ps) qs = count-sum (is_symbol s.Semicolon p.kind) (ends_in (ps ++ qs)) (ends_in ps) (ends_in qs) (ends-append ps qs)

-- behind other pieces there is one still
ends-behind : (ps qs : List Piece) → 1 ≤ ends_in qs → 1 ≤ ends_in (ps ++ qs)
ends-behind ps qs h = omega (arith, h, ends-append ps qs)

ends-marked : (within : Bool) (ps : List Piece) → 1 ≤ ends_in ps → 1 ≤ ends_in (marked within ps)
unfolding ends_in
ends-marked true ps h = h
ends-marked false [] h = h
ends-marked false (p ∷ ps) h = h

ends-each : {A : Type 0} (next : ℕ → A → ℕ) (part : ℕ → A → List Piece) (some : (n : ℕ) (a : A) → 1 ≤ ends_in (part n a)) (n : ℕ) (xs : List A) → length xs ≤ ends_in (each_by next part n xs)
ends-each next part some n [] = omega arith
ends-each next part some n (x ∷ xs) =
    omega (arith, some n x, ends-each next part some (next n x) xs, ends-append (part n x) (each_by next part (next n x) xs))

closing : 1 ≤ ends_in (sign s.Semicolon)
unfolding ends_in
closing = omega arith

predicate-ends : (n : ℕ) (p : Predicate) → 1 ≤ ends_in (G.predicate p)
unfolding ends_in
predicate-ends n p = ends-behind (G.listed (λ n. G.predicate_param) s.CloseParen p.params) (sign s.Semicolon) closing

param-ends : (n : ℕ) (p : Param) → 1 ≤ ends_in (G.param p)
unfolding ends_in
param-ends n p = ends-behind (G.param_array p.size) _ (ends-behind (G.param_base p.base) _ (ends-behind (G.param_value p.value) (sign s.Semicolon) closing))

var-ends : (n : ℕ) (v : Var) → 1 ≤ ends_in (G.var n v)
unfolding ends_in
var-ends n (vars.Single v) = ends-marked (nat_lt n G.most) (G.single_var v) (ends-behind (G.base v.base) _ (ends-behind (G.anns v.anns) _ (ends-behind (G.given v.value) (sign s.Semicolon) closing)))
var-ends n (vars.Array v) = ends-behind (G.base v.base) _ (ends-behind (G.anns v.anns) _ (ends-behind (G.listed G.entry s.CloseBracket v.array.entries) (sign s.Semicolon) closing))

con-ends : (n : ℕ) (c : Con) → 1 ≤ ends_in (marked (nat_lt n G.most) (G.con c))
unfolding ends_in
con-ends n c = ends-marked (nat_lt n G.most) (G.con c) (ends-behind (G.listed (λ n. G.arg) s.CloseParen c.args) _ (ends-behind (G.anns c.anns) (sign s.Semicolon) closing))

-- an item for each part of the tree
pub items-enough : (tokens : List Token) (tree : Tree) → AreSpelled tokens (G.tree tree) → length tree.predicates + (length tree.params + (length tree.vars + length tree.cons)) ≤ length (item_spans tokens)
items-enough tokens tree spelled =
    let predicates = each (λ n. G.predicate) 0 tree.predicates in
    let params = each (λ n. G.param) 0 tree.params in
    let declared = each_by G.singles_with G.var 0 tree.vars in
    let stated = each (λ n c. marked (nat_lt n G.most) (G.con c)) 0 tree.cons in
    let as_many = items-as_ends None tokens (G.tree tree) spelled in
    let a = ends-append (G.items tree) (sign s.End) in
    let b = ends-append predicates (G.declarations (tree.params, tree.vars) ++ (stated ++ G.solve tree.solve)) in
    let c = ends-append (G.declarations (tree.params, tree.vars)) (stated ++ G.solve tree.solve) in
    let d = ends-append params declared in
    let e = ends-append stated (G.solve tree.solve) in
    let p = ends-each one_more (λ n. G.predicate) predicate-ends 0 tree.predicates in
    let q = ends-each one_more (λ n. G.param) param-ends 0 tree.params in
    let v = ends-each G.singles_with G.var var-ends 0 tree.vars in
    let k = ends-each one_more (λ n c. marked (nat_lt n G.most) (G.con c)) con-ends 0 tree.cons in
    omega (arith, as_many, a, b, c, d, e, p, q, v, k)
