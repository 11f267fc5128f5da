-- What the tokens of a file spell is within the limits.
use Rattle.std.proofs.Common.{◌≡◌, ℕ, suc, ◌+◌, ◌≤◌, Bool, true, false, List, [], ◌∷◌, ◌++◌, length, Option, Some, None, inl, inr, sym, subst, refl, Ok, arith, nat_lt}
use Rattle.std.proofs.lemmas.Int.{ints}
use Rattle.std.proofs.lemmas.List.Elements.{All-cons, All-head, All-nil, All-tail}
use Rattle.std.specs.Prelude.{ℤ}
use Rattle.std.specs.List.{All}
use Rattle.fzn_domain.specs.Limits.{IsInLimits}
use Rattle.fzn_lexer.specs.declared.token.Symbol.{Symbol}
use Rattle.fzn_lexer.specs.declared.token.Symbol.TheVariants as s
use Rattle.fzn_lexer.specs.declared.token.Token.{Token}
use Rattle.fzn_lexer.specs.Lexemes.{HasSmallNumber, IsInRange}
use Rattle.fzn_lexer.specs.Tokens.{Lexes, Stand}
use Rattle.fzn_tree.specs.declared.tree.Arg.{Arg}
use Rattle.fzn_tree.specs.declared.tree.Arg.TheVariants as args
use Rattle.fzn_tree.specs.declared.tree.Array.{Array}
use Rattle.fzn_tree.specs.declared.tree.Base.{Base}
use Rattle.fzn_tree.specs.declared.tree.Base.TheVariants as bases
use Rattle.fzn_tree.specs.declared.tree.Basic.{Basic}
use Rattle.fzn_tree.specs.declared.tree.Basic.TheVariants as basics
use Rattle.fzn_tree.specs.declared.tree.Con.{Con}
use Rattle.fzn_tree.specs.declared.tree.Literal.{Literal}
use Rattle.fzn_tree.specs.declared.tree.Literal.TheVariants as l
use Rattle.fzn_tree.specs.declared.tree.Param.{Param}
use Rattle.fzn_tree.specs.declared.tree.ParamValue.{ParamValue}
use Rattle.fzn_tree.specs.declared.tree.ParamValue.TheVariants as param_values
use Rattle.fzn_tree.specs.declared.tree.Range.{Range}
use Rattle.fzn_tree.specs.declared.tree.Tree.{Tree}
use Rattle.fzn_tree.specs.declared.tree.Values.{Values}
use Rattle.fzn_tree.specs.declared.tree.Values.TheVariants as values_are
use Rattle.fzn_tree.specs.declared.tree.Var.{Var}
use Rattle.fzn_tree.specs.declared.tree.Var.TheVariants as vars
use Rattle.fzn_parser.specs.Grammar as G
use Rattle.fzn_parser.specs.Parse.{IsTree}
use Rattle.fzn_parser.specs.Piece.{Piece, AreSpelled, PassNoLimit, sign, each, each_by, one_more, marked}
use Rattle.fzn_names.specs.Limits.{IsRangeWithin, IsLiteralWithin, AreValuesWithin, IsBaseWithin, IsBasicWithin, IsValueWithin, AreEntriesWithin, IsParamValueWithin, IsParamWithin, IsVarWithin}
use Rattle.fzn_names.specs.Variables.{vars_of}
use Rattle.fzn_typing.specs.Limits.{IsArgWithin, IsConWithin, IsTreeWithin}

-- ---- pieces

-- the numbers are within their limits, and no piece passes a limit
abbrev AreFine : List Piece → Type 0
AreFine [] = Unit {0}
AreFine (p ∷ ps) = (HasSmallNumber p.kind × (p.past ≡ None)) × AreFine ps

-- what tokens spell whose numbers are small
fine_small : (tokens : List Token) (ps : List Piece) → All (λ (t : Token). HasSmallNumber t.kind) tokens → AreSpelled tokens ps → PassNoLimit ps → AreFine ps
fine_small tokens [] small spelled within = tt
fine_small [] (p ∷ ps) small spelled within = absurd spelled
fine_small (t ∷ tokens) (p ∷ ps) small spelled within =
    ((subst HasSmallNumber spelled.0.0 (All-head (λ (x : Token). HasSmallNumber x.kind) t tokens small), within.0), fine_small tokens ps (All-tail (λ (x : Token). HasSmallNumber x.kind) t tokens small) spelled.1 within.1)

fine_split : (ps qs : List Piece) → AreFine (ps ++ qs) → AreFine ps × AreFine qs
fine_split [] qs f = (tt, f)
fine_split (p ∷ ps) qs f = let r = fine_split ps qs f.1 in ((f.0, r.0), r.1)

-- the pieces of a part that is numbered, if it is not one too many
fine_marked : (within : Bool) (ps : List Piece) → AreFine (marked within ps) → AreFine ps
fine_marked true ps f = f
fine_marked false [] f = tt
fine_marked false (p ∷ ps) f = absurd cc

-- it has a first piece, on which a mark would stand
abbrev HasPiece : List Piece → Type 0
HasPiece [] = ⊥
HasPiece (p ∷ ps) = Unit {0}

marked_true : (within : Bool) (ps : List Piece) → HasPiece ps → AreFine (marked within ps) → within ≡ true
marked_true true ps some f = refl
marked_true false [] some f = absurd some
marked_true false (p ∷ ps) some f = absurd cc

-- ---- lists

-- each of a list
each_by_all : {A : Type 0} (P : A → Type 0) (next : ℕ → A → ℕ) (part : ℕ → A → List Piece) (law : (n : ℕ) (a : A) → AreFine (part n a) → P a) (n : ℕ) (xs : List A) → AreFine (each_by next part n xs) → All P xs
each_by_all P next part law n [] f = All-nil P
each_by_all P next part law n (x ∷ xs) f =
    let r = fine_split (part n x) (each_by next part (next n x) xs) f in
    All-cons P x xs (law n x r.0) (each_by_all P next part law (next n x) xs r.1)

-- a list with commas
listed_all : {A : Type 0} (P : A → Type 0) (part : ℕ → A → List Piece) (close : Symbol) (law : (n : ℕ) (a : A) → AreFine (part n a) → P a) (xs : List A) → AreFine (G.listed part close xs) → All P xs
listed_all P part close law [] f = All-nil P
listed_all P part close law (x ∷ xs) f =
    let r = fine_split (part 0 x) (each (λ n y. sign s.Comma ++ part n y) 1 xs ++ sign close) f in
    All-cons P x xs (law 0 x r.0) (each_by_all P one_more (λ n y. sign s.Comma ++ part n y) (λ n y g. law n y g.1) 1 xs (fine_split (each (λ n y. sign s.Comma ++ part n y) 1 xs) (sign close) r.1).0)

-- no more than the limit, where each but the first few is marked
each_few : {A : Type 0} (before : List Piece) (part : A → List Piece) (some : (a : A) → HasPiece (part a)) (n : ℕ) (xs : List A) → n ≤ G.most → AreFine (each (λ n x. before ++ marked (nat_lt n G.most) (part x)) n xs) → n + length xs ≤ G.most
each_few before part some n [] few f = omega (arith, few)
each_few before part some n (x ∷ xs) few f =
    let r = fine_split (before ++ marked (nat_lt n G.most) (part x)) (each (λ n x. before ++ marked (nat_lt n G.most) (part x)) (suc n) xs) f in
    let below = marked_true (nat_lt n G.most) (part x) (some x) (fine_split before (marked (nat_lt n G.most) (part x)) r.0).1 in
    let more = each_few before part some (suc n) xs (grind (arith, below)) r.1 in
    omega (arith, more)

listed_few : {A : Type 0} (part : A → List Piece) (close : Symbol) (some : (a : A) → HasPiece (part a)) (xs : List A) → AreFine (G.listed (λ n x. marked (nat_lt n G.most) (part x)) close xs) → length xs ≤ G.most
listed_few part close some [] f = omega arith
listed_few part close some (x ∷ xs) f =
    let r = fine_split (part x) (each (λ n y. sign s.Comma ++ marked (nat_lt n G.most) (part y)) 1 xs ++ sign close) f in
    let more = each_few (sign s.Comma) part some 1 xs (omega arith) (fine_split (each (λ n y. sign s.Comma ++ marked (nat_lt n G.most) (part y)) 1 xs) (sign close) r.1).0 in
    omega (arith, more)

-- ---- numbers

limited : (z : ℤ) → IsInRange z → IsInLimits z
limited z (n, few, inl e) = subst IsInLimits (sym e) (omega (arith, ints, few), omega (arith, ints, few))
limited z (n, few, inr e) = subst IsInLimits (sym e) (omega (arith, ints, few), omega (arith, ints, few))

-- ---- the tree

range_within : (r : Range) → AreFine (G.int_range r) → IsRangeWithin r
range_within r f = (limited r.low.value f.0.0, limited r.high f.1.1.0.0)

listed_within : (all : List ℤ) → AreFine (G.listed G.listed_value s.CloseBrace all) → All IsInLimits all
listed_within all f = listed_all IsInLimits G.listed_value s.CloseBrace (λ n z g. limited z (fine_marked (nat_lt n G.most_listed) (G.number z) g).0.0) all f

values_within : (values : Values) → AreFine (G.values values) → AreValuesWithin values
values_within (values_are.Range r) f = range_within r f
values_within (values_are.Listed all) f = listed_within all f.1

literal_within : (literal : Literal) → AreFine (G.literal literal) → IsLiteralWithin literal
literal_within (l.Bool b position) f = tt
literal_within (l.Int i) f = limited i.value f.0.0
literal_within (l.Range r) f = range_within r f
literal_within (l.Set position all) f = listed_within all f.1

literal_has : (literal : Literal) → HasPiece (G.literal literal)
literal_has (l.Int i) = tt
literal_has (l.Bool true position) = tt
literal_has (l.Bool false position) = tt
literal_has (l.Range r) = tt
literal_has (l.Set position all) = tt

basic_within : (basic : Basic) → AreFine (G.basic basic) → IsBasicWithin basic
basic_within (basics.Literal literal) f = literal_within literal f
basic_within (basics.Name n) f = tt

basic_has : (basic : Basic) → HasPiece (G.basic basic)
basic_has (basics.Literal literal) = literal_has literal
basic_has (basics.Name n) = tt

array_within : (a : Array) → AreFine (G.array a) → AreEntriesWithin a.entries
array_within a f = (
  listed_all IsBasicWithin G.entry s.CloseBracket (λ n basic g. basic_within basic (fine_marked (nat_lt n G.most) (G.basic basic) g)) a.entries f.1,
  listed_few G.basic s.CloseBracket basic_has a.entries f.1,
)

-- ---- declarations

param_value_within : (value : ParamValue) → AreFine (G.param_value value) → IsParamValueWithin value
param_value_within (param_values.Literal literal) f = literal_within literal f
param_value_within (param_values.Array position all) f = (
  listed_all IsLiteralWithin G.param_entry s.CloseBracket (λ n literal g. literal_within literal (fine_marked (nat_lt n G.most) (G.literal literal) g)) all f.1,
  listed_few G.literal s.CloseBracket literal_has all f.1,
)

param_within : (param : Param) → AreFine (G.param param) → IsParamWithin param
param_within param f =
    let typed = (fine_split (G.param_array param.size) _ f).1 in
    let named = (fine_split (G.param_base param.base) _ typed).1 in
    param_value_within param.value (fine_split (G.param_value param.value) _ named.1.1.1).0

base_within : (base : Base) → AreFine (G.base base) → IsBaseWithin base
base_within bases.Bool f = tt
base_within (bases.Int position) f = tt
base_within (bases.Values values) f = values_within values f
base_within (bases.Set position v) f = tt

given_within : (value : Option Basic) → AreFine (G.given value) → IsValueWithin value
given_within None f = tt
given_within (Some value) f = basic_within value f.1

var_within : (n : ℕ) (var : Var) → AreFine (G.var n var) → IsVarWithin var
var_within n (vars.Array v) f =
    let valued = sign s.Equals ++ (G.array v.array ++ sign s.Semicolon) in
    let named = sign s.Colon ++ (G.name v.name ++ (G.anns v.anns ++ valued)) in
    let typed = fine_split (G.array_of v.size) (sign s.Var ++ (G.base v.base ++ named)) f in
    let r = fine_split (G.base v.base) named typed.1.1 in
    let behind = fine_split (G.anns v.anns) valued r.1.1.1 in
    (base_within v.base r.0, array_within v.array (fine_split (G.array v.array) (sign s.Semicolon) behind.1.1).0)
var_within n (vars.Single v) f =
    let g = fine_marked (nat_lt n G.most) (G.single_var v) f in
    let r = fine_split (G.base v.base) _ g.1 in
    let valued = (fine_split (G.anns v.anns) _ r.1.1.1).1 in
    (base_within v.base r.0, given_within v.value (fine_split (G.given v.value) _ valued).0)

vars_few : (n : ℕ) (all : List Var) → n ≤ G.most → AreFine (each_by G.singles_with G.var n all) → n + length (vars_of all) ≤ G.most
vars_few n [] few f = omega (arith, few)
vars_few n (vars.Array v ∷ more) few f = vars_few n more few (fine_split (G.array_var v) (each_by G.singles_with G.var n more) f).1
vars_few n (vars.Single v ∷ more) few f =
    let r = fine_split (G.var n (vars.Single v)) (each_by G.singles_with G.var (suc n) more) f in
    let below = marked_true (nat_lt n G.most) (G.single_var v) tt r.0 in
    let rest = vars_few (suc n) more (grind (arith, below)) r.1 in
    omega (arith, rest)

-- ---- constraints

arg_within : (arg : Arg) → AreFine (G.arg arg) → IsArgWithin arg
arg_within (args.Basic basic) f = basic_within basic f
arg_within (args.Array a) f = array_within a f

con_within : (con : Con) → AreFine (G.con con) → IsConWithin con
con_within con f = listed_all IsArgWithin (λ n. G.arg) s.CloseParen (λ n arg g. arg_within arg g) con.args (fine_split (G.listed (λ n. G.arg) s.CloseParen con.args) _ f.1.1.1).0

-- the tree of tokens whose numbers are small
pub small_within : (tokens : List Token) (tree : Tree) → All (λ (t : Token). HasSmallNumber t.kind) tokens → IsTree tokens tree → IsTreeWithin tree
small_within tokens tree small parsed =
    let fine = fine_small tokens (G.tree tree) small parsed.spelled parsed.within in
    let items = (fine_split (G.items tree) (sign s.End) fine).0 in
    let past_predicates = (fine_split (each (λ n. G.predicate) 0 tree.predicates) _ items).1 in
    let parts = fine_split (G.declarations (tree.params, tree.vars)) _ past_predicates in
    let declared = fine_split (each (λ n. G.param) 0 tree.params) _ parts.0 in
    let constraints = (fine_split (each (λ n c. marked (nat_lt n G.most) (G.con c)) 0 tree.cons) _ parts.1).0 in
    let few_vars = vars_few 0 tree.vars (omega arith) declared.1 in
    let few_cons = each_few [] G.con (λ c. tt) 0 tree.cons (omega arith) constraints in
    record {
      declarations = record {
        params = each_by_all IsParamWithin one_more (λ n. G.param) (λ n param g. param_within param g) 0 tree.params declared.0;
        vars = each_by_all IsVarWithin G.singles_with G.var var_within 0 tree.vars declared.1;
        few_vars = omega (arith, few_vars);
      };
      cons = each_by_all IsConWithin one_more (λ n c. marked (nat_lt n G.most) (G.con c)) (λ n c g. con_within c (fine_marked (nat_lt n G.most) (G.con c) g)) 0 tree.cons constraints;
      few_cons = omega (arith, few_cons);
    }

-- ---- the tokens of a file

stand_small : (bytes : List ℕ) (from upto : ℕ) (front : List Token) (last : Token) → Stand bytes from front upto → HasSmallNumber last.kind → All (λ (t : Token). HasSmallNumber t.kind) (front ++ last ∷ [])
stand_small bytes from upto [] last stand small = All-cons (λ (x : Token). HasSmallNumber x.kind) last [] small (All-nil (λ (x : Token). HasSmallNumber x.kind))
stand_small bytes from upto (t ∷ front) last stand small =
    All-cons (λ (x : Token). HasSmallNumber x.kind) t (front ++ last ∷ []) stand.0.small (stand_small bytes t.span.end upto front last stand.1 small)

pub lexed_small : (bytes : List ℕ) (tokens : List Token) → Lexes bytes (Ok tokens) → All (λ (t : Token). HasSmallNumber t.kind) tokens
lexed_small bytes tokens lexed =
    subst (λ (z : List Token). All (λ (t : Token). HasSmallNumber t.kind) z) (sym lexed.parts) (stand_small bytes 0 lexed.upto lexed.front lexed.last lexed.stand (subst HasSmallNumber (sym lexed.is_end.kind) tt))

-- the tree of the tokens of a file
pub tree_within : (bytes : List ℕ) (tokens : List Token) (tree : Tree) → Lexes bytes (Ok tokens) → IsTree tokens tree → IsTreeWithin tree
tree_within bytes tokens tree lexed parsed = small_within tokens tree (lexed_small bytes tokens lexed) parsed
