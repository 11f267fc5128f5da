-- A list of tokens has one tree, or one fault.
use Rattle.std.proofs.Common.{◌≡◌, List, [], ◌∷◌, ◌++◌, Option, Some, refl, sym, ap, subst, ◌∙◌, append_assoc, inl, inr, ◌⊎◌}
use Rattle.fzn_lexer.specs.declared.fault.Fault.{Fault}
use Rattle.fzn_lexer.specs.declared.fault.FaultKind.{FaultKind}
use Rattle.fzn_lexer.specs.declared.fault.FaultKind.TheVariants.{Syntax}
use Rattle.fzn_lexer.specs.declared.token.Position.{Position}
use Rattle.fzn_lexer.specs.declared.token.Symbol.TheVariants.{End}
use Rattle.fzn_lexer.specs.declared.token.Token.{Token}
use Rattle.fzn_tree.specs.declared.tree.Tree.{Tree}
use Rattle.fzn_tree.specs.Piece.{Piece, FitsPiece, AreSpelled, PassNoLimit, sign}
use Rattle.fzn_tree.specs.Grammar as G
use Rattle.fzn_parser.proofs.SpelledLaws.{AreSpelled-append, AreSpelled-split, PassNoLimit-split}
use Rattle.fzn_parser.proofs.NextLaws.{stops_never}
use Rattle.fzn_parser.specs.Parse.{IsTree, Begins, NoneBegins, IsPast, EachIsPast, IsFault, IsParsing}
use Rattle.fzn_parser.proofs.UniqueTree.{items_unique}

-- ---- one tree

one_tree : (ts : List Token) (t u : Tree) → IsTree ts t → IsTree ts u → t ≡ u
one_tree ts t u a b =
    let d = AreSpelled-split ts (G.items t) (sign End) a.spelled in
    let e = AreSpelled-split ts (G.items u) (sign End) b.spelled in
    (items_unique.one t u d.left d.right e.left e.right d.on_left e.on_left (PassNoLimit-split (G.items t) (sign End) a.within).0 (PassNoLimit-split (G.items u) (sign End) b.within).0 (stops_never d.right) (stops_never e.right) (sym d.parts ∙ e.parts)).0

-- ---- no fault within what begins a tree

-- a front of the tokens spells a front of the pieces
record Front (x y : List Token) (ps : List Piece) : Type 0 where
  front : List Piece
  more : List Piece
  parts : ps ≡ front ++ more
  spelled : AreSpelled x front

front_of : (x y : List Token) (ps : List Piece) → AreSpelled (x ++ y) ps → Front x y ps
front_of [] y ps s = record { front = []; more = ps; parts = refl; spelled = tt }
front_of (t ∷ x) y [] s = absurd s
front_of (t ∷ x) y (p ∷ ps) s =
    let r = front_of x y ps s.1 in
    record { front = p ∷ r.front; more = r.more; parts = ap (λ (z : List Piece). p ∷ z) r.parts; spelled = (s.0, r.spelled) }

-- the pieces of some tokens, of one more, and what is left of them
record Next (x : List Token) (t : Token) (ps : List Piece) : Type 0 where
  front : List Piece
  here : Piece
  more : List Piece
  parts : ps ≡ front ++ here ∷ more
  spelled : AreSpelled x front
  fits : FitsPiece t here

next_of : (x : List Token) (t : Token) (y : List Token) (ps : List Piece) → AreSpelled (x ++ t ∷ y) ps → Next x t ps
next_of [] t y [] s = absurd s
next_of [] t y (p ∷ ps) s = record { front = []; here = p; more = ps; parts = refl; spelled = tt; fits = s.0 }
next_of (u ∷ x) t y [] s = absurd s
next_of (u ∷ x) t y (p ∷ ps) s =
    let r = next_of x t y ps s.1 in
    record { front = p ∷ r.front; here = r.here; more = r.more; parts = ap (λ (z : List Piece). p ∷ z) r.parts; spelled = (s.0, r.spelled); fits = r.fits }

-- a tree that goes on, within the limits, past where a fault stands
no_fault : (ts : List Token) (f : Fault) (fault : IsFault ts f) (t : Tree) (ps qs : List Piece) (y : List Token) → G.tree t ≡ ps ++ qs → AreSpelled (fault.before ++ fault.token ∷ y) ps → PassNoLimit ps → ⊥
no_fault ts f fault t ps qs y whole spelled within =
    let n = next_of fault.before fault.token y ps spelled in
    let all : G.tree t ≡ n.front ++ n.here ∷ (n.more ++ qs) = whole ∙ ap (λ (z : List Piece). z ++ qs) n.parts ∙ append_assoc n.front (n.here ∷ n.more) qs in
    let low = PassNoLimit-split n.front (n.here ∷ n.more) (subst PassNoLimit n.parts within) in
    elim fault.why [
      | inl w ↦ w.1 t (n.front ++ n.here ∷ []) (n.more ++ qs) (all ∙ sym (append_assoc n.front (n.here ∷ []) (n.more ++ qs))) (AreSpelled-append fault.before (fault.token ∷ []) n.front (n.here ∷ []) n.spelled (n.fits, tt))
      | inr w ↦ let past = w.1 t n.front n.here (n.more ++ qs) all n.spelled low.0 n.fits in let none = low.1.0 in cc
    ]

append_nil : (ps : List Piece) → ps ≡ ps ++ []
append_nil [] = refl
append_nil (p ∷ ps) = ap (λ (z : List Piece). p ∷ z) (append_nil ps)

tree_or_fault : (ts : List Token) (t : Tree) (f : Fault) → IsTree ts t → IsFault ts f → ⊥
tree_or_fault ts t f is fault = no_fault ts f fault t (G.tree t) [] fault.after (append_nil (G.tree t)) (subst (λ (z : List Token). AreSpelled z (G.tree t)) fault.parts is.spelled) is.within

-- ---- one fault

-- where two fronts of the same tokens end
Ends : List Token → Token → List Token → Token → Type 0
Ends a s b t = ((a ≡ b) × (s ≡ t)) ⊎ (((w : List Token) × (b ≡ a ++ s ∷ w)) ⊎ ((w : List Token) × (a ≡ b ++ t ∷ w)))

first_is : (s t : Token) (x y : List Token) → s ∷ x ≡ t ∷ y → s ≡ t
first_is s t x y e = cc

rest_is : (s t : Token) (x y : List Token) → s ∷ x ≡ t ∷ y → x ≡ y
rest_is s t x y e = cc

ends : (a x : List Token) (s : Token) (b y : List Token) (t : Token) → a ++ s ∷ x ≡ b ++ t ∷ y → Ends a s b t
unfolding Ends
ends [] x s [] y t e = inl (refl, first_is s t x y e)
ends [] x s (c ∷ b) y t e = inr (inl (b, ap (λ (z : Token). z ∷ b) (sym (first_is s c x (b ++ t ∷ y) e))))
ends (c ∷ a) x s [] y t e = inr (inr (a, ap (λ (z : Token). z ∷ a) (first_is c t (a ++ s ∷ x) y e)))
ends (c ∷ a) x s (d ∷ b) y t e = elim (ends a x s b y t (rest_is c d (a ++ s ∷ x) (b ++ t ∷ y) e)) [
  | inl h ↦ inl (ap (λ (z : Token). z ∷ a) (first_is c d (a ++ s ∷ x) (b ++ t ∷ y) e) ∙ ap (λ (z : List Token). d ∷ z) h.0, h.1)
  | inr (inl h) ↦ inr (inl (h.0, ap (λ (z : List Token). d ∷ z) h.1 ∙ ap (λ (z : Token). z ∷ a ++ s ∷ h.0) (sym (first_is c d (a ++ s ∷ x) (b ++ t ∷ y) e))))
  | inr (inr h) ↦ inr (inr (h.0, ap (λ (z : List Token). c ∷ z) h.1 ∙ ap (λ (z : Token). z ∷ b ++ t ∷ h.0) (first_is c d (a ++ s ∷ x) (b ++ t ∷ y) e)))
]

-- a fault before another
no_earlier : (ts : List Token) (f g : Fault) (x : IsFault ts f) (y : IsFault ts g) (w : List Token) → y.before ≡ x.before ++ x.token ∷ w → ⊥
no_earlier ts f g x y w is =
    let b = y.begins in
    no_fault ts f x b.value b.front b.more w b.parts (subst (λ (z : List Token). AreSpelled z b.front) is b.spelled) b.within

-- at one token the kind of fault is one
past_next : (kind : FaultKind) (t : Token) (ps : List Piece) → IsPast kind t ps → (p : Piece) × (more : List Piece) × (ps ≡ p ∷ more) × FitsPiece t p × (p.past ≡ Some kind)
past_next kind t [] past = absurd past
past_next kind t (p ∷ ps) past = (p, ps, refl, past.0, past.1)

some_same : (a b : FaultKind) → ◌≡◌ {A = Option FaultKind} (Some a) (Some b) → a ≡ b
some_same a b e = cc

-- a syntax fault stands where no tree goes on, and a limit where one does
syntax_or_limit : (before : List Token) (t : Token) (kind : FaultKind) (b : Begins before) → NoneBegins (before ++ t ∷ []) → IsPast kind t b.more → ⊥
syntax_or_limit before t kind b none past =
    let n = past_next kind t b.more past in
    none b.value (b.front ++ n.0 ∷ []) n.1 (b.parts ∙ ap (λ (z : List Piece). b.front ++ z) n.2 ∙ sym (append_assoc b.front (n.0 ∷ []) n.1)) (AreSpelled-append before (t ∷ []) b.front (n.0 ∷ []) b.spelled (n.3, tt))

limit_same : (before : List Token) (t : Token) (k l : FaultKind) (b : Begins before) → EachIsPast k before t → IsPast l t b.more → k ≡ l
limit_same before t k l b each past =
    let n = past_next l t b.more past in
    some_same k l (sym (each b.value b.front n.0 n.1 (b.parts ∙ ap (λ (z : List Piece). b.front ++ z) n.2) b.spelled b.within n.3) ∙ n.4)

Why : FaultKind → (before : List Token) → Token → Begins before → Type 0
Why kind before t b = ((kind ≡ Syntax) × NoneBegins (before ++ t ∷ [])) ⊎ (IsPast kind t b.more × EachIsPast kind before t)

kind_same : (before : List Token) (t : Token) (k l : FaultKind) (b c : Begins before) → Why k before t b → Why l before t c → k ≡ l
unfolding Why
kind_same before t k l b c (inl x) (inl y) = x.0 ∙ sym y.0
kind_same before t k l b c (inl x) (inr y) = absurd (syntax_or_limit before t l c x.1 y.0)
kind_same before t k l b c (inr x) (inl y) = absurd (syntax_or_limit before t k b y.1 x.0)
kind_same before t k l b c (inr x) (inr y) = limit_same before t k l c x.1 y.0

-- the same fault, said of other names of the same tokens
record Said (before : List Token) (t : Token) (kind : FaultKind) : Type 0 where
  begins : Begins before
  why : Why kind before t begins

said : (ts : List Token) (f : Fault) (x : IsFault ts f) → Said x.before x.token f.kind
unfolding Why
said ts f x = record { begins = x.begins; why = x.why }

fault_by : FaultKind → Position → Fault
fault_by kind position = record { kind = kind; position = position }

fault_same : (f g : Fault) → f.kind ≡ g.kind → f.position ≡ g.position → f ≡ g
unfolding fault_by
fault_same f g kinds positions = ap (λ (k : FaultKind). fault_by k f.position) kinds ∙ ap (fault_by g.kind) positions

same_position : (ts : List Token) (f g : Fault) (x : IsFault ts f) (y : IsFault ts g) → x.before ≡ y.before → x.token ≡ y.token → f ≡ g
same_position ts f g x y befores tokens =
    let here = subst (λ (t : Token). Said y.before t f.kind) tokens (subst (λ (b : List Token). Said b x.token f.kind) befores (said ts f x)) in
    let there = said ts g y in
    fault_same f g (kind_same y.before y.token f.kind g.kind here.begins there.begins here.why there.why) (x.position ∙ (ap (λ (t : Token). t.span.position) tokens ∙ sym y.position))

one_fault : (ts : List Token) (f g : Fault) → IsFault ts f → IsFault ts g → f ≡ g
unfolding Ends
one_fault ts f g x y = elim (ends x.before x.after x.token y.before y.after y.token (sym x.parts ∙ y.parts)) [
  | inl h ↦ same_position ts f g x y h.0 h.1
  | inr (inl h) ↦ absurd (no_earlier ts f g x y h.0 h.1)
  | inr (inr h) ↦ absurd (no_earlier ts g f y x h.0 h.1)
]

pub one_reading : (ts : List Token) (x y : Tree ⊎ Fault) → IsParsing ts x → IsParsing ts y → x ≡ y
one_reading ts (inl t) (inl u) a b = ap inl (one_tree ts t u a b)
one_reading ts (inl t) (inr g) a b = absurd (tree_or_fault ts t g a b)
one_reading ts (inr f) (inl u) a b = absurd (tree_or_fault ts u f b a)
one_reading ts (inr f) (inr g) a b = ap inr (one_fault ts f g a b)
