-- A phrase that is read part by part.
use Rattle.std.proofs.Common.{◌≡◌, ℕ, Bool, List, [], ◌++◌, Result, Ok, Err, refl, sym, ap, subst}
use Rattle.std.specs.Result.{IsErrAnd}
use Rattle.std.proofs.lemmas.Result.{err_from_is_err_and}
use Rattle.fzn_lexer.specs.declared.halt.Halt.{Halt}
use Rattle.fzn_lexer.specs.declared.token.Token.{Token}
use Rattle.fzn_lexer.specs.declared.halt.Halt.TheVariants as halts
use Rattle.fzn_tree.specs.Piece.{Piece, AreSpelled, each_by}
use Rattle.fzn_parser.specs.declared.cursor.Refusal.{Refusal}
use Rattle.fzn_parser.specs.Reads.{SameNext, Stops, IsRead, IsRefused, ReadsValue}
use Rattle.fzn_parser.proofs.SequenceLaws.{StopsBefore, then_ok, then_err, first_err, form_ok, form_err, weaker_ok, weaker_err}

-- ---- the parts of a phrase: what each spells, what goes on it, and one value of it

pub data Parts : Type 1 where
  last : {A : Type 0} → (A → List Piece) → (Token → Bool) → A → Parts
  part : {A : Type 0} → (A → List Piece) → (Token → Bool) → A → Parts → Parts
  -- as many as there are, with a count that goes on by each
  loop : {A : Type 0} → (ℕ → A → ℕ) → (ℕ → A → List Piece) → ℕ → (Token → Bool) → Parts → Parts

abbrev pub Values : Parts → Type 0
Values (last {A} spell g some) = A
Values (part {A} spell g some ps) = A × Values ps
Values (loop {A} next spell k g ps) = List A × Values ps

abbrev pub spells : (ps : Parts) → Values ps → List Piece
spells (last spell g some) a = spell a
spells (part spell g some ps) p = spell p.0 ++ spells ps p.1
spells (loop next spell k g ps) p = each_by next spell k p.0 ++ spells ps p.1

abbrev pub some_of : (ps : Parts) → Values ps
some_of (last spell g some) = some
some_of (part spell g some ps) = (some, some_of ps)
some_of (loop next spell k g ps) = ([], some_of ps)

-- what stands behind each part does not go on it
abbrev pub Follow : (Token → Bool) → Parts → Type 0
Follow h (last spell g some) = (v : List Token) → Stops h v → Stops g v
Follow h (part spell g some ps) = StopsBefore g (spells ps) h × Follow h ps
Follow h (loop next spell k g ps) = StopsBefore g (spells ps) h × Follow h ps

-- what is read of these parts, or refused, from here on, is so of the whole
pub record Onward {B : Type 0} (spell : B → List Piece) (h : Token → Bool) (ts : List Token) (ps : Parts) (f : Values ps → B) (mid : List Token) : Type 0 where
  pub follow : Follow h ps
  pub read : (c : Values ps) (rest : List Token) → IsRead (spells ps) h mid c rest → IsRead spell h ts (f c) rest
  pub refused : (e : Refusal) → IsRefused (spells ps) h mid e → IsRefused spell h ts e

-- a form of a phrase, which the tokens may decide: the values that begin with the next token are made of these parts
pub record IsForm {B : Type 0} (spell : B → List Piece) (h : Token → Bool) (ts : List Token) (ps : Parts) (f : Values ps → B) : Type 0 where
  pub same : (c : Values ps) → spell (f c) ≡ spells ps c
  pub onto : (b : B) (u v : List Token) → AreSpelled u (spell b) → Stops h v → SameNext (u ++ v) ts → (c : Values ps) × (f c ≡ b)
  pub follow : Follow h ps

pub form : {B : Type 0} {spell : B → List Piece} {h : Token → Bool} {ts : List Token} {ps : Parts} (f : Values ps → B) → ((c : Values ps) → spell (f c) ≡ spells ps c) → ((b : B) (u v : List Token) → AreSpelled u (spell b) → Stops h v → SameNext (u ++ v) ts → (c : Values ps) × (f c ≡ b)) → Follow h ps → IsForm spell h ts ps f
form f same onto follow = record { same = same; onto = onto; follow = follow }

pub begin : {B : Type 0} {spell : B → List Piece} {h : Token → Bool} {ts : List Token} {ps : Parts} {f : Values ps → B} → IsForm spell h ts ps f → Onward spell h ts ps f ts
begin {B} {spell} {h} {ts} {ps} {f} w = record {
  follow = w.follow;
  read = λ c rest p. form_ok (spells ps) spell h ts f w.same w.onto c rest p;
  refused = λ e p. form_err (spells ps) spell h ts f w.same w.onto e p;
}

-- ---- answers

module _ {B : Type 0} {spell : B → List Piece} {h : Token → Bool} {ts : List Token} where
  pub is_read : {b : B} {rest : List Token} → IsRead spell h ts b rest → ReadsValue spell h ts (Ok b) rest
  is_read {b} {rest} p = record { ok = λ a e. let k : b ≡ a = cc in subst (λ (z : B). IsRead spell h ts z rest) k p; err = λ e is. absurd cc }

  pub is_refused : {e : Refusal} {rest : List Token} → IsRefused spell h ts e → ReadsValue spell h ts (Err (halts.Fault e)) rest
  is_refused {e} {rest} p = record { ok = λ a is. absurd cc; err = λ x is. let k : e ≡ x = cc in subst (λ (z : Refusal). IsRefused spell h ts z) k p }

  pub gives_refused : {x : Halt Refusal} {rest : List Token} (e : Refusal) → x ≡ halts.Fault e → IsRefused spell h ts e → ReadsValue spell h ts (Err x) rest
  gives_refused {x} {rest} e is p = subst (λ (z : Halt Refusal). ReadsValue spell h ts (Err z) rest) (sym is) (is_refused p)

  pub is_same : {a b : B} {rest : List Token} → ReadsValue spell h ts (Ok a) rest → a ≡ b → ReadsValue spell h ts (Ok b) rest
  is_same {a} {b} {rest} p e = subst (λ (z : B). ReadsValue spell h ts (Ok z) rest) e p

  -- the exit of a `?`
  pub exit : (x : Halt Refusal) (r : Result B (Halt Refusal)) (rest : List Token) → IsErrAnd r (λ y. y ≡ x) → ((e : Refusal) → x ≡ halts.Fault e → IsRefused spell h ts e) → ReadsValue spell h ts r rest
  exit x r rest is p =
      let q = err_from_is_err_and r is in
      record { ok = λ a e. let k = q.1 in absurd cc; err = λ e k. let i = q.1 in let j = q.2 in p e cc }

  module _ {A : Type 0} {s : A → List Piece} {g : Token → Bool} {some : A} {mid : List Token} where
    module _ {ps : Parts} {f : Values (part s g some ps) → B} (on : Onward spell h ts (part s g some ps) f mid) where
      step : {a : A} {next : List Token} → ReadsValue s g mid (Ok a) next → Onward spell h ts ps (λ c. f (a, c)) next
      step {a} {next} r = record {
        follow = on.follow.1;
        read = λ c rest p. on.read (a, c) rest (then_ok s g (λ z. spells ps) h (λ z. on.follow.0) mid a next c rest (r.ok a refl) p);
        refused = λ e p. on.refused e (then_err s g (λ z. spells ps) h (λ z. on.follow.0) mid a next e (r.ok a refl) p);
      }

      pub stop : {x : Halt Refusal} {r : Result B (Halt Refusal)} {after rest : List Token} → ReadsValue s g mid (Err x) after → IsErrAnd r (λ y. y ≡ x) → ReadsValue spell h ts r rest
      stop {x} {r} {after} {rest} p is = exit x r rest is (λ e k. on.refused e (first_err s g (λ z. spells ps) h (λ z. on.follow.0) (λ z. some_of ps) mid e (p.err e (ap Err k))))

    module _ {f : A → B} (on : Onward spell h ts (last s g some) f mid) where
      pub done : {a : A} {rest : List Token} → ReadsValue s g mid (Ok a) rest → ReadsValue spell h ts (Ok (f a)) rest
      done {a} {rest} p = is_read (on.read a rest (weaker_ok s g h on.follow mid a rest (p.ok a refl)))

      pub stop_last : {x : Halt Refusal} {r : Result B (Halt Refusal)} {after rest : List Token} → ReadsValue s g mid (Err x) after → IsErrAnd r (λ y. y ≡ x) → ReadsValue spell h ts r rest
      stop_last {x} {r} {after} {rest} p is = exit x r rest is (λ e k. on.refused e (weaker_err s g h on.follow mid e (p.err e (ap Err k))))

      -- a phrase that is the last part
      pub inside : {ps : Parts} {f' : Values ps → A} {mid' : List Token} → Onward s h mid ps f' mid' → Onward spell h ts ps (λ c. f (f' c)) mid'
      inside {ps} {f'} {mid'} in_last = record { follow = in_last.follow; read = λ c rest p. on.read (f' c) rest (in_last.read c rest p); refused = λ e p. on.refused e (in_last.refused e p) }

-- the last part's answer is returned as it is
pub passes : {A : Type 0} {spell : A → List Piece} {h : Token → Bool} {ts : List Token} {s : A → List Piece} {g : Token → Bool} {some : A} {f : A → A} {mid : List Token} {r : Result A (Halt Refusal)} {rest : List Token} → Onward spell h ts (last s g some) f mid → ((a : A) → f a ≡ a) → ReadsValue s g mid r rest → ReadsValue spell h ts r rest
passes {A} {spell} {h} {ts} {s} {g} {some} {f} {mid} {r} {rest} on same p = record {
  ok = λ a e. subst (λ (z : A). IsRead spell h ts z rest) (same a) (on.read a rest (weaker_ok s g h on.follow mid a rest (p.ok a e)));
  err = λ e is. on.refused e (weaker_err s g h on.follow mid e (p.err e is));
}

pub weaker_reads : {A : Type 0} {s : A → List Piece} {g : Token → Bool} {ts : List Token} {r : Result A (Halt Refusal)} {rest : List Token} (h : Token → Bool) → ((v : List Token) → Stops h v → Stops g v) → ReadsValue s g ts r rest → ReadsValue s h ts r rest
weaker_reads {A} {s} {g} {ts} {r} {rest} h less p = record { ok = λ a e. weaker_ok s g h less ts a rest (p.ok a e); err = λ e is. weaker_err s g h less ts e (p.err e is) }

-- one part more is read
infixl 11 ◌then◌
pub ◌then◌ : {A B : Type 0} {spell : B → List Piece} {h : Token → Bool} {ts : List Token} {s : A → List Piece} {g : Token → Bool} {some : A} {ps : Parts} {f : A × Values ps → B} {mid : List Token} {a : A} {next : List Token} → Onward spell h ts (part s g some ps) f mid → ReadsValue s g mid (Ok a) next → Onward spell h ts ps (λ c. f (a, c)) next
on then r = step on r
