-- Tokens spell at most one list of declarations.
use Rattle.std.proofs.Common.{◌≡◌, true, false, List, [], ◌∷◌, ◌++◌, sym, ap, subst, ◌∙◌}
use Rattle.fzn_lexer.specs.declared.token.Token.{Token}
use Rattle.fzn_tree.specs.declared.tree.Param.{Param}
use Rattle.fzn_tree.specs.declared.tree.Var.{Var}
use Rattle.fzn_tree.specs.Piece.{Piece, AreSpelled, PassNoLimit}
use Rattle.fzn_tree.specs.declared.tree.Var.TheVariants as vars_are
use Rattle.fzn_tree.specs.Grammar as G
use Rattle.fzn_parser.specs.declared.cursor.Start.TheVariants as w
use Rattle.fzn_parser.specs.declared.declarations.Declared.{Declared}
use Rattle.fzn_parser.specs.declared.declarations.Declared.TheVariants as declared_as
use Rattle.fzn_parser.specs.Begins.{begins, may_start}
use Rattle.fzn_parser.specs.Declarations.{declared, vars}
use Rattle.fzn_parser.specs.GoesOn.{never, declares}
use Rattle.fzn_parser.specs.Reads.{next_is, Stops}
use Rattle.fzn_parser.proofs.SpelledLaws.{AreSpelled-split, PassNoLimit-split}
use Rattle.fzn_parser.proofs.NextLaws.{next_split, stops_never}
use Rattle.fzn_parser.proofs.VarLaws.{counted_next, no_declaration}
use Rattle.fzn_parser.proofs.DeclLaws.{Declarations, joined_same, none_next, param_first}
use Rattle.fzn_parser.proofs.UniqueLaws.{IsUnique, same_parts}

module _ (unique : IsUnique declared never) (unique_vars : IsUnique (vars 0) declares) where
  -- the first declaration of both
  first_same : (d e : Declared) (ps qs : List Piece) (u v x y : List Token) (in_a : AreSpelled u (declared d ++ ps)) (in_b : AreSpelled x (declared e ++ qs)) → PassNoLimit (declared d ++ ps) → PassNoLimit (declared e ++ qs) → u ++ v ≡ x ++ y → (d ≡ e) × ((AreSpelled-split u (declared d) ps in_a).right ++ v ≡ (AreSpelled-split x (declared e) qs in_b).right ++ y)
  first_same d e ps qs u v x y in_a in_b within_a within_b same =
      let i = AreSpelled-split u (declared d) ps in_a in
      let j = AreSpelled-split x (declared e) qs in_b in
      unique.one d e i.left (i.right ++ v) j.left (j.right ++ y) i.on_left j.on_left (PassNoLimit-split (declared d) ps within_a).0 (PassNoLimit-split (declared e) qs within_b).0 (stops_never (i.right ++ v)) (stops_never (j.right ++ y)) (same_parts u i.left i.right v x j.left j.right y i.parts j.parts same)

  begins_both : (u v x y : List Token) → next_is (begins w.Declaration) (u ++ v) ≡ false → next_is (begins w.Declaration) (x ++ y) ≡ true → u ++ v ≡ x ++ y → ⊥
  begins_both u v x y fails passes same = let e = ap (next_is (begins w.Declaration)) same in cc

  -- no parameter stands first where there is none
  no_param : (all : List Var) (q : Param) (qs : List Param) (others : List Var) (u v x y : List Token) → AreSpelled u (G.declarations ([], all)) → AreSpelled x (G.declarations (q ∷ qs, others)) → PassNoLimit (G.declarations ([], all)) → PassNoLimit (G.declarations (q ∷ qs, others)) → Stops declares v → u ++ v ≡ x ++ y → ⊥
  no_param (vars_are.Array a ∷ more) q qs others u v x y in_a in_b within_a within_b stops same =
      let e = joined_same (declared_as.Param q, (qs, others)) in
      let f = (first_same (declared_as.Array a) (declared_as.Param q) (vars 0 more) (G.declarations (qs, others)) u v x y in_a (subst (AreSpelled x) e in_b) within_a (subst PassNoLimit e within_b) same).0 in
      cc
  no_param (vars_are.Single a ∷ more) q qs others u v x y in_a in_b within_a within_b stops same = begins_both u v x y (next_split (begins w.Declaration) false (G.var 0 (vars_are.Single a)) _ u v (λ o z done. counted_next (may_start w.Declaration) 0 a o z done) in_a) (param_first q qs others x y in_b) same
  no_param [] q qs others u v x y in_a in_b within_a within_b stops same = begins_both u v x y (none_next (begins w.Declaration) no_declaration u v in_a stops) (param_first q qs others x y in_b) same

  decl_one : (params others : List Param) (all more : List Var) (u v x y : List Token) → AreSpelled u (G.declarations (params, all)) → AreSpelled x (G.declarations (others, more)) → PassNoLimit (G.declarations (params, all)) → PassNoLimit (G.declarations (others, more)) → Stops declares v → Stops declares y → u ++ v ≡ x ++ y → (◌≡◌ {A = Declarations} (params, all) (others, more)) × (v ≡ y)
  decl_one [] [] all more u v x y in_a in_b within_a within_b stops_v stops_y same = let r = unique_vars.one all more u v x y in_a in_b within_a within_b stops_v stops_y same in (ap {B = Declarations} (λ (z : List Var). ([], z)) r.0, r.1)
  decl_one [] (q ∷ qs) all more u v x y in_a in_b within_a within_b stops_v stops_y same = absurd (no_param all q qs more u v x y in_a in_b within_a within_b stops_v same)
  decl_one (p ∷ ps) [] all more u v x y in_a in_b within_a within_b stops_v stops_y same = absurd (no_param more p ps all x y u v in_b in_a within_b within_a stops_y (sym same))
  decl_one (p ∷ ps) (q ∷ qs) all more u v x y in_a in_b within_a within_b stops_v stops_y same =
      let e = joined_same (declared_as.Param p, (ps, all)) in
      let f = joined_same (declared_as.Param q, (qs, more)) in
      let in_a' = subst (AreSpelled u) e in_a in
      let in_b' = subst (AreSpelled x) f in_b in
      let within_a' = subst PassNoLimit e within_a in
      let within_b' = subst PassNoLimit f within_b in
      let first = first_same (declared_as.Param p) (declared_as.Param q) (G.declarations (ps, all)) (G.declarations (qs, more)) u v x y in_a' in_b' within_a' within_b' same in
      let i = AreSpelled-split u (G.param p) (G.declarations (ps, all)) in_a' in
      let j = AreSpelled-split x (G.param q) (G.declarations (qs, more)) in_b' in
      let r = decl_one ps qs all more i.right v j.right y i.on_right j.on_right (PassNoLimit-split (G.param p) (G.declarations (ps, all)) within_a').1 (PassNoLimit-split (G.param q) (G.declarations (qs, more)) within_b').1 stops_v stops_y first.1 in
      (both_are p q ps qs all more first.0 r.0, r.1)
    where
      both_are : (p q : Param) (ps qs : List Param) (all more : List Var) → ◌≡◌ {A = Declared} (declared_as.Param p) (declared_as.Param q) → ◌≡◌ {A = Declarations} (ps, all) (qs, more) → ◌≡◌ {A = Declarations} (p ∷ ps, all) (q ∷ qs, more)
      both_are p q ps qs all more d r = let k : p ≡ q = cc in ap (λ (z : Param). (z ∷ ps, all)) k ∙ ap (λ (z : Declarations). (q ∷ z.0, z.1)) r

  pub declarations_unique : IsUnique G.declarations declares
  declarations_unique = record { one = λ a b u v x y in_a in_b within_a within_b stops_v stops_y same. decl_one a.0 b.0 a.1 b.1 u v x y in_a in_b within_a within_b stops_v stops_y same }
