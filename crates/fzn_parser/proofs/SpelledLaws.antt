-- Tokens that spell pieces, one list behind another.
use Rattle.std.proofs.Common.{◌≡◌, ℕ, zero, suc, ◌+◌, Bool, List, [], ◌∷◌, ◌++◌, length, Some, refl, ap, subst, arith}
use Rattle.fzn_lexer.specs.declared.token.Token.{Token}
use Rattle.fzn_lexer.specs.declared.fault.FaultKind.{FaultKind}
use Rattle.fzn_tree.specs.Piece.{Piece, AreSpelled, PassNoLimit}
use Rattle.fzn_lexer.specs.Tokens.{NoEnd}
use Rattle.fzn_parser.specs.Reads.{next_is, SameNext, PassesLimit, Limited}

pub AreSpelled-append : (a b : List Token) (ps qs : List Piece) → AreSpelled a ps → AreSpelled b qs → AreSpelled (a ++ b) (ps ++ qs)
AreSpelled-append [] b [] qs p q = q
AreSpelled-append [] b (x ∷ ps) qs p q = absurd p
AreSpelled-append (t ∷ a) b [] qs p q = absurd p
AreSpelled-append (t ∷ a) b (x ∷ ps) qs p q = (p.0, AreSpelled-append a b ps qs p.1 q)

pub record Split (u : List Token) (ps qs : List Piece) : Type 0 where
  pub left : List Token
  pub right : List Token
  pub parts : u ≡ left ++ right
  pub on_left : AreSpelled left ps
  pub on_right : AreSpelled right qs

pub AreSpelled-split : (u : List Token) (ps qs : List Piece) → AreSpelled u (ps ++ qs) → Split u ps qs
AreSpelled-split u [] qs s = record { left = []; right = u; parts = refl; on_left = tt; on_right = s }
AreSpelled-split [] (p ∷ ps) qs s = absurd s
AreSpelled-split (t ∷ u) (p ∷ ps) qs s =
    let r = AreSpelled-split u ps qs s.1 in
    record { left = t ∷ r.left; right = r.right; parts = ap (λ (z : List Token). t ∷ z) r.parts; on_left = (s.0, r.on_left); on_right = r.on_right }

pub PassNoLimit-append : (ps qs : List Piece) → PassNoLimit ps → PassNoLimit qs → PassNoLimit (ps ++ qs)
PassNoLimit-append [] qs p q = q
PassNoLimit-append (x ∷ ps) qs p q = (p.0, PassNoLimit-append ps qs p.1 q)

pub PassNoLimit-split : (ps qs : List Piece) → PassNoLimit (ps ++ qs) → PassNoLimit ps × PassNoLimit qs
PassNoLimit-split [] qs w = (tt, w)
PassNoLimit-split (x ∷ ps) qs w = let r = PassNoLimit-split ps qs w.1 in ((w.0, r.0), r.1)

pub AreSpelled-length : (u : List Token) (ps : List Piece) → AreSpelled u ps → length u ≡ length ps
AreSpelled-length [] [] s = refl
AreSpelled-length [] (p ∷ ps) s = absurd s
AreSpelled-length (t ∷ u) [] s = absurd s
AreSpelled-length (t ∷ u) (p ∷ ps) s = ap suc (AreSpelled-length u ps s.1)

pub Limited-left : (kind : FaultKind) (n : ℕ) (ps qs : List Piece) → Limited kind n ps → Limited kind n (ps ++ qs)
Limited-left kind n [] qs l = absurd l
Limited-left kind zero (p ∷ ps) qs l = l
Limited-left kind (suc n) (p ∷ ps) qs l = λ w. Limited-left kind n ps qs (l w)

pub Limited-right : (kind : FaultKind) (n k : ℕ) (ps qs : List Piece) → k ≡ length ps + n → Limited kind n qs → Limited kind k (ps ++ qs)
Limited-right kind n k [] qs is l = let e : n ≡ k = omega arith in subst (λ (m : ℕ). Limited kind m qs) e l
Limited-right kind n zero (p ∷ ps) qs is l = absurd (omega arith)
Limited-right kind n (suc k) (p ∷ ps) qs is l = λ w. Limited-right kind n k ps qs (omega arith) l

-- what is within all limits passes none
pub Limited-within : (kind : FaultKind) (n : ℕ) (ps : List Piece) → Limited kind n ps → PassNoLimit ps → ⊥
Limited-within kind n [] l w = l
Limited-within kind zero (p ∷ ps) l w = let e = w.0 in cc
Limited-within kind (suc n) (p ∷ ps) l w = Limited-within kind n ps (l w.0) w.1

-- the piece that passes the limit
pub Limited-here : (kind : FaultKind) (n : ℕ) (ps : List Piece) (p : Piece) (qs : List Piece) → length ps ≡ n → PassNoLimit ps → Limited kind n (ps ++ p ∷ qs) → p.past ≡ Some kind
Limited-here kind zero [] p qs is w l = l
Limited-here kind (suc n) [] p qs is w l = absurd (omega arith)
Limited-here kind zero (o ∷ ps) p qs is w l = absurd (omega arith)
Limited-here kind (suc n) (o ∷ ps) p qs is w l = Limited-here kind n ps p qs (omega arith) w.1 (l w.0)

pub NoEnd-append : (a b : List Token) → NoEnd a → NoEnd b → NoEnd (a ++ b)
NoEnd-append [] b p q = q
NoEnd-append (t ∷ a) b p q = (p.0, NoEnd-append a b p.1 q)

pub SameNext-refl : (ts : List Token) → SameNext ts ts
SameNext-refl [] = tt
SameNext-refl (t ∷ ts) = refl

pub SameNext-append : (w x y : List Token) → SameNext x y → SameNext (w ++ x) (w ++ y)
SameNext-append [] x y s = s
SameNext-append (t ∷ w) x y s = refl

pub next_is-same : (test : Token → Bool) (x y : List Token) → SameNext x y → next_is test x ≡ next_is test y
next_is-same test [] [] s = refl
next_is-same test [] (t ∷ ts) s = absurd s
next_is-same test (t ∷ ts) [] s = absurd s
next_is-same test (t ∷ ts) (u ∷ us) s = ap test s

pub PassesLimit-append : (kind : FaultKind) (rest : List Token) (more others : List Piece) → PassesLimit kind rest more → PassesLimit kind rest (more ++ others)
PassesLimit-append kind [] more others p = absurd p
PassesLimit-append kind (t ∷ ts) [] others p = absurd p
PassesLimit-append kind (t ∷ ts) (x ∷ more) others p = p

pub pair_is : {A B : Type 0} (a c : A) (b d : B) → a ≡ c → b ≡ d → ◌≡◌ {A = A × B} (a, b) (c, d)
pair_is a c b d p q = cc
