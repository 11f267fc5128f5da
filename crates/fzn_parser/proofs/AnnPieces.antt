-- What an annotation spells, one level at a time.
use Rattle.std.proofs.Common.{◌≡◌, ℕ, suc, Bool, List, [], ◌∷◌, ◌++◌, Option, Some, None, refl, sym, ap, subst, ◌∙◌}
use Rattle.std.specs.Prelude.{nat_lt}
use mathlib.Core.List.{map as list_map}
use Rattle.fzn_lexer.specs.declared.token.Kind.{Kind}
use Rattle.fzn_lexer.specs.declared.token.Symbol.{Symbol}
use Rattle.fzn_lexer.specs.declared.token.Token.{Token}
use Rattle.fzn_lexer.specs.declared.token.Kind.TheVariants as k
use Rattle.fzn_lexer.specs.declared.token.Symbol.TheVariants as s
use Rattle.fzn_tree.specs.declared.tree.Ann.{Ann, Ann-F, fold-Ann, roll-Ann, out-Ann, roll-out-Ann, fold-roll-Ann}
use Rattle.fzn_tree.specs.declared.tree.AnnArg.{AnnArg}
use Rattle.fzn_tree.specs.declared.tree.AnnTerm.{AnnTerm}
use Rattle.fzn_tree.specs.Piece.{Piece, AreSpelled, sign, piece_at, each, marked}
use Rattle.fzn_tree.specs.declared.tree.Ann.TheShapes as shapes
use Rattle.fzn_tree.specs.declared.tree.AnnArg.TheVariants as inner_args
use Rattle.fzn_tree.specs.declared.tree.AnnTerm.TheVariants as terms
use Rattle.fzn_tree.specs.Grammar as G
use Rattle.fzn_parser.specs.Annotations as A
use Rattle.fzn_parser.specs.Reads.{next_is}
use Rattle.fzn_parser.specs.Taken.{is, text}
use Rattle.fzn_parser.proofs.NextLaws.{next_kind}

abbrev pieces : Type 0
pieces = ℕ → List Piece

abbrev pub optional : ℕ → Option (List (AnnArg Ann)) → List Piece
optional level None = []
optional level (Some args) = G.opened s.OpenParen level ++ A.args_in (suc level) args

each_mapped : {A B : Type 0} (f : A → B) (one : ℕ → B → List Piece) (one' : ℕ → A → List Piece) → ((n : ℕ) (x : A) → one n (f x) ≡ one' n x) → (n : ℕ) (xs : List A) → each one n (list_map f xs) ≡ each one' n xs
each_mapped f one one' same n [] = refl
each_mapped f one one' same n (x ∷ xs) = rw (same n x, each_mapped f one one' same (suc n) xs) refl

listed_mapped : {A B : Type 0} (f : A → B) (one : ℕ → B → List Piece) (one' : ℕ → A → List Piece) (close : Symbol) → ((n : ℕ) (x : A) → one n (f x) ≡ one' n x) → (xs : List A) → G.listed one close (list_map f xs) ≡ G.listed one' close xs
listed_mapped f one one' close same [] = refl
listed_mapped f one one' close same (x ∷ xs) =
    let tail = each_mapped f (λ n y. sign s.Comma ++ one n y) (λ n y. sign s.Comma ++ one' n y) (λ n y. ap (λ (z : List Piece). sign s.Comma ++ z) (same n y)) 1 xs in
    rw (same 0 x, tail) refl

abbrev folded : Ann → pieces
folded = fold-Ann pieces G.ann_layer

term_mapped : (level : ℕ) (x : AnnTerm Ann) → G.ann_term level (shapes.former-Ann-args-at-4.map Ann pieces folded x) ≡ A.term_pieces level x
unfolding G.ann
term_mapped level (terms.Literal value) = refl
term_mapped level (terms.Text text position) = refl
term_mapped level (terms.Ann a) = refl

arg_mapped : (level : ℕ) (x : AnnArg Ann) → G.ann_arg level (shapes.former-Ann-args-at-11.map Ann pieces folded x) ≡ A.arg_pieces level x
arg_mapped level (inner_args.One one) = term_mapped level one
arg_mapped level (inner_args.List all) = ap (λ (z : List Piece). G.opened s.OpenBracket level ++ z) (listed_mapped _ (G.ann_entry (suc level)) (A.entry_pieces (suc level)) s.CloseBracket (λ n x. ap (marked (nat_lt n G.most)) (term_mapped (suc level) x)) all)

args_mapped : (level : ℕ) (x : Option (List (AnnArg Ann))) → G.ann_args level (shapes.former-Ann-args.map Ann pieces folded x) ≡ optional level x
args_mapped level None = refl
args_mapped level (Some args) = ap (λ (z : List Piece). G.opened s.OpenParen level ++ z) (listed_mapped _ (λ n. G.ann_arg (suc level)) (λ n. A.arg_pieces (suc level)) s.CloseParen (λ n x. arg_mapped (suc level) x) args)

pub ann_rolled : (level : ℕ) (layer : Ann-F Ann) → G.ann level (roll-Ann layer) ≡ G.name layer.name ++ optional level layer.args
unfolding G.ann
ann_rolled level layer = ap (λ (f : pieces). f level) (fold-roll-Ann pieces G.ann_layer layer) ∙ ap (λ (z : List Piece). G.name layer.name ++ z) (args_mapped level layer.args)

ann_opened : (level : ℕ) (a : Ann) → G.ann level a ≡ G.name (out-Ann a).name ++ optional level (out-Ann a).args
ann_opened level a = ap (G.ann level) (sym (roll-out-Ann a)) ∙ ann_rolled level (out-Ann a)

-- an annotation begins with a name
pub ann_next : (f : Kind → Bool) (b : Bool) → ((n : List ℕ) → f (k.Name n) ≡ b) → (level : ℕ) (a : Ann) (u v : List Token) → AreSpelled u (G.ann level a) → next_is (λ t. f t.kind) (u ++ v) ≡ b
ann_next f b same level a u v spelled =
    let n = (out-Ann a).name in
    next_kind f (piece_at (k.Name n.text) n.position) (optional level (out-Ann a).args) u v (subst (λ (z : List Piece). AreSpelled u z) (ann_opened level a) spelled) ∙ same n.text

pub some_ann : Ann
some_ann = roll-Ann (record { name = record { text = 97 ∷ []; position = record { line = 1; column = 1 } }; args = None })

abbrev pub is_paren : Token → Bool
is_paren = is s.OpenParen
