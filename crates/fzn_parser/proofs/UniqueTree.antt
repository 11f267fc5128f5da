-- Tokens spell at most one annotation, declaration or item, and at most one tree.
use Rattle.std.proofs.Common.{◌≡◌, ℕ, zero, suc, ◌+◌, true, false, List, ◌++◌, Option, Some, None, refl, ap, arith, inl, inr, ◌⊎◌}
use Rattle.std.specs.Prelude.{nat_lt}
use Rattle.std.proofs.lemmas.Bool.{lt-ltb, le-ltb}
use Rattle.fzn_lexer.specs.declared.token.Symbol.{Symbol}
use Rattle.fzn_lexer.specs.declared.token.Token.{Token}
use Rattle.fzn_lexer.specs.declared.token.Symbol.TheVariants as s
use Rattle.fzn_tree.specs.declared.tree.AnnArg.TheVariants as inner_args
use Rattle.fzn_tree.specs.declared.tree.Ann.{Ann}
use Rattle.fzn_tree.specs.declared.tree.AnnArg.{AnnArg}
use Rattle.fzn_tree.specs.Piece.{Piece, AreSpelled, PassNoLimit}
use Rattle.fzn_tree.specs.Grammar as G
use Rattle.fzn_parser.specs.declared.cursor.Start.TheVariants as w
use Rattle.fzn_parser.specs.Annotations as A
use Rattle.fzn_parser.specs.Begins.{begins}
use Rattle.fzn_parser.specs.Declarations.{param_rest, given_pieces, array_rest, declared, vars}
use Rattle.fzn_parser.specs.GoesOn.{never, goes_further, declares}
use Rattle.fzn_parser.specs.Reads.{Stops}
use Rattle.fzn_parser.specs.Taken.{is}
use Rattle.fzn_parser.proofs.TokenLaws.{text_token}
use Rattle.fzn_parser.proofs.ValueLaws.{param_entries_listed, args_listed}
use Rattle.fzn_parser.proofs.PredicateLaws.{predicates_many}
use Rattle.fzn_parser.proofs.AnnLaws.{ann_begun, args_none, args_some, term_text, term_ann, term_literal, terms_listed, arg_term, arg_list, ann_args_listed, colons_begun, anns_many, anns_end}
use Rattle.fzn_parser.proofs.AnnPieces.{is_paren, optional}
use Rattle.fzn_parser.proofs.ParamLaws.{base_is_bool, base_is_int, base_is_set, value_literal, value_array, param_rest_begun}
use Rattle.fzn_parser.proofs.VarLaws.{given_none, given_some, single_begun, array_rest_begun, var_array, var_single, vars_loop}
use Rattle.fzn_parser.proofs.DeclLaws.{declared_plain, declared_sized, behind, behind_array, behind_param}
use Rattle.fzn_parser.proofs.ItemLaws.{con_begun, cons_many, goal_satisfy, goal_minimize, goal_maximize, solve_begun, items_begun}
use Rattle.fzn_parser.proofs.ManyLaws.{begun}
use Rattle.fzn_parser.proofs.UniqueDecls.{declarations_unique}
use Rattle.fzn_parser.proofs.UniqueLaws.{IsUnique, weaker_unique, of_form, by_next, forms_unique, nothing_unique, token_unique, each_unique, marked_unique, sign_unique, listed_unique}
use Rattle.fzn_parser.proofs.UniqueValues.{placed_unique, name_unique, literal_unique, basic_unique, array_unique, arg_unique, base_unique, array_of_unique, predicate_unique}

-- ---- annotations

module _ (level : ℕ) where
  -- no bracket opens at this level, or what stands in one is unique
  abbrev Inside : Type 0
  Inside = (nat_lt level G.deepest ≡ false) ⊎ (IsUnique (G.ann (suc level)) is_paren × (nat_lt level G.deepest ≡ true))

  term_unique : IsUnique (G.ann level) is_paren → IsUnique (A.term_pieces level) goes_further
  term_unique p =
      forms_unique
      (λ ts. by_next (begins w.Text) ts
      (λ there. of_form (term_text level ts there) (token_unique text_token never))
      (λ no_text. by_next (begins w.Name) ts
      (λ there. of_form (term_ann level ts there) p)
      (λ no_name. of_form (term_literal level ts no_text no_name) literal_unique)))

  terms_unique : IsUnique (G.ann level) is_paren → IsUnique (A.terms_pieces level) never
  terms_unique p = listed_unique (terms_listed level) (λ n. marked_unique (term_unique p) (nat_lt n G.most))

not_within : (level : ℕ) (bracket : Symbol) (ps : List Piece) → nat_lt level G.deepest ≡ false → PassNoLimit (G.opened bracket level ++ ps) → ⊥
not_within level bracket ps deep within = let e = (rw deep at within).0 in cc

module _ (level : ℕ) where
  arg_unique_in : IsUnique (G.ann level) is_paren → Inside level → IsUnique (A.arg_pieces level) goes_further
  arg_unique_in p (inr q) =
      forms_unique
      (λ ts. by_next (is s.OpenBracket) ts
      (λ there. of_form (arg_list level ts q.1 there) (sign_unique s.OpenBracket never, terms_unique (suc level) q.0))
      (λ there. of_form (arg_term level ts there) (term_unique level p)))
  arg_unique_in p (inl deep) = record { one = at }
    where
      at : (a b : AnnArg Ann) (u v x y : List Token) → AreSpelled u (A.arg_pieces level a) → AreSpelled x (A.arg_pieces level b) → PassNoLimit (A.arg_pieces level a) → PassNoLimit (A.arg_pieces level b) → Stops goes_further v → Stops goes_further y → u ++ v ≡ x ++ y → (a ≡ b) × (v ≡ y)
      at (inner_args.One a) (inner_args.One b) u v x y in_a in_b within_a within_b stops_v stops_y same = let r = (term_unique level p).one a b u v x y in_a in_b within_a within_b stops_v stops_y same in (ap (λ z. inner_args.One z) r.0, r.1)
      at (inner_args.List a) b u v x y in_a in_b within_a within_b stops_v stops_y same = absurd (not_within level s.OpenBracket (A.terms_pieces (suc level) a) deep within_a)
      at (inner_args.One a) (inner_args.List b) u v x y in_a in_b within_a within_b stops_v stops_y same = absurd (not_within level s.OpenBracket (A.terms_pieces (suc level) b) deep within_b)

  args_unique : IsUnique (G.ann level) is_paren → Inside level → IsUnique (A.args_in level) never
  args_unique p q = listed_unique (ann_args_listed level) (λ n. arg_unique_in p q)

optional_unique : (level : ℕ) → (nat_lt level G.deepest ≡ false) ⊎ (IsUnique (A.args_in (suc level)) never × (nat_lt level G.deepest ≡ true)) → IsUnique (optional level) is_paren
optional_unique level (inr q) =
    forms_unique
    (λ ts. by_next is_paren ts
    (λ there. of_form (args_some level ts q.1 there) (sign_unique s.OpenParen never, q.0))
    (λ there. of_form (args_none level ts there) (nothing_unique is_paren)))
optional_unique level (inl deep) = record { one = at }
  where
    at : (a b : Option (List (AnnArg Ann))) (u v x y : List Token) → AreSpelled u (optional level a) → AreSpelled x (optional level b) → PassNoLimit (optional level a) → PassNoLimit (optional level b) → Stops is_paren v → Stops is_paren y → u ++ v ≡ x ++ y → (a ≡ b) × (v ≡ y)
    at None None u v x y in_a in_b within_a within_b stops_v stops_y same = (refl, ((nothing_unique is_paren).one tt tt u v x y in_a in_b tt tt stops_v stops_y same).1)
    at (Some a) b u v x y in_a in_b within_a within_b stops_v stops_y same = absurd (not_within level s.OpenParen (A.args_in (suc level) a) deep within_a)
    at None (Some b) u v x y in_a in_b within_a within_b stops_v stops_y same = absurd (not_within level s.OpenParen (A.args_in (suc level) b) deep within_b)

ann_unique_by : (level : ℕ) → IsUnique (optional level) is_paren → IsUnique (G.ann level) is_paren
ann_unique_by level p = forms_unique (λ ts. of_form (ann_begun level ts) (name_unique never, p))

levels_unique : (n level : ℕ) → n + level ≡ G.deepest → IsUnique (G.ann level) is_paren × Inside level
levels_unique zero level e = let deep = le-ltb level G.deepest (omega arith) in (ann_unique_by level (optional_unique level (inl deep)), inl deep)
levels_unique (suc n) level e =
    let below = levels_unique n (suc level) (omega arith) in
    let lt = lt-ltb level G.deepest (omega arith) in
    (ann_unique_by level (optional_unique level (inr (args_unique (suc level) below.0 below.1, lt))), inr (below.0, lt))

ann_unique : IsUnique (G.ann 0) is_paren
ann_unique = (levels_unique G.deepest 0 refl).0

anns_unique : IsUnique G.anns goes_further
anns_unique = weaker_unique anns_end (each_unique (begun anns_many) (λ n. forms_unique (λ ts. of_form (colons_begun n ts) (sign_unique s.Colons never, ann_unique))) 0)

-- ---- declarations

param_base_unique : IsUnique G.param_base never
param_base_unique =
    forms_unique
    (λ ts. by_next (is s.Bool) ts
    (λ there. of_form (base_is_bool ts there) (placed_unique s.Bool never))
    (λ not_bool. by_next (is s.Int) ts
    (λ there. of_form (base_is_int ts there) (placed_unique s.Int never))
    (λ not_int. of_form (base_is_set ts not_bool not_int) (placed_unique s.Set never, (sign_unique s.Of never, sign_unique s.Int never)))))

param_value_unique : IsUnique G.param_value goes_further
param_value_unique =
    forms_unique
    (λ ts. by_next (is s.OpenBracket) ts
    (λ there. of_form (value_array ts there) (placed_unique s.OpenBracket never, listed_unique param_entries_listed (λ n. marked_unique literal_unique (nat_lt n G.most))))
    (λ there. of_form (value_literal ts there) literal_unique))

param_rest_unique : IsUnique param_rest never
param_rest_unique = forms_unique (λ ts. of_form (param_rest_begun ts) (param_base_unique, (sign_unique s.Colon never, (name_unique never, (sign_unique s.Equals never, (param_value_unique, sign_unique s.Semicolon never))))))

given_unique : IsUnique given_pieces never
given_unique =
    forms_unique
    (λ ts. by_next (is s.Equals) ts
    (λ there. of_form (given_some ts there) (sign_unique s.Equals never, (basic_unique, sign_unique s.Semicolon never)))
    (λ there. of_form (given_none ts there) (sign_unique s.Semicolon never)))

single_unique : IsUnique G.single_var never
single_unique = forms_unique (λ ts. of_form (single_begun ts) (placed_unique s.Var never, (base_unique, (sign_unique s.Colon never, (name_unique never, (anns_unique, given_unique))))))

array_rest_unique : IsUnique array_rest never
array_rest_unique = forms_unique (λ ts. of_form (array_rest_begun ts) (sign_unique s.Var never, (base_unique, (sign_unique s.Colon never, (name_unique never, (anns_unique, (sign_unique s.Equals never, (array_unique, sign_unique s.Semicolon never))))))))

var_unique : (n : ℕ) → IsUnique (G.var n) never
var_unique n =
    forms_unique
    (λ ts. by_next (is s.Array) ts
    (λ there. of_form (var_array n ts there) (array_of_unique, array_rest_unique))
    (λ there. of_form (var_single n ts there) (marked_unique single_unique (nat_lt n G.most))))

vars_unique : IsUnique (vars 0) declares
vars_unique = each_unique vars_loop var_unique 0

behind_unique : IsUnique behind never
behind_unique =
    forms_unique
    (λ ts. by_next (is s.Var) ts
    (λ there. of_form (behind_array ts there) array_rest_unique)
    (λ there. of_form (behind_param ts there) param_rest_unique))

declared_unique : IsUnique declared never
declared_unique =
    forms_unique
    (λ ts. by_next (is s.Array) ts
    (λ there. of_form (declared_sized ts there) (array_of_unique, behind_unique))
    (λ there. of_form (declared_plain ts there) param_rest_unique))

-- ---- items

con_unique : IsUnique G.con never
con_unique = forms_unique (λ ts. of_form (con_begun ts) (sign_unique s.Constraint never, (name_unique never, (sign_unique s.OpenParen never, (listed_unique args_listed (λ n. arg_unique), (anns_unique, sign_unique s.Semicolon never))))))

goal_unique : IsUnique G.goal goes_further
goal_unique =
    forms_unique
    (λ ts. by_next (is s.Satisfy) ts
    (λ there. of_form (goal_satisfy ts there) (sign_unique s.Satisfy never))
    (λ not_satisfy. by_next (is s.Minimize) ts
    (λ there. of_form (goal_minimize ts there) (sign_unique s.Minimize never, basic_unique))
    (λ not_minimize. of_form (goal_maximize ts not_satisfy not_minimize) (sign_unique s.Maximize never, basic_unique))))

solve_unique : IsUnique G.solve never
solve_unique = forms_unique (λ ts. of_form (solve_begun ts) (sign_unique s.Solve never, (anns_unique, (goal_unique, sign_unique s.Semicolon never))))

pub items_unique : IsUnique G.items never
items_unique =
    forms_unique
    (λ ts. of_form (items_begun ts) (
      each_unique (begun predicates_many) (λ n. predicate_unique) 0,
      (
        declarations_unique declared_unique vars_unique,
        (each_unique (begun cons_many) (λ n. marked_unique con_unique (nat_lt n G.most)) 0, solve_unique),
      ),
    ))
