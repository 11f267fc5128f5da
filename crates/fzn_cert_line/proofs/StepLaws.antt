-- Steps that are read are what is written.
use Rattle.std.proofs.Common.{◌≡◌, ℕ, ◌<◌, true, cond, eqb, ltb, List, [], ◌∷◌, ◌++◌, length, map, Some, None, refl, sym, ap, subst, ◌∙◌, arith, inl, inr}
use Rattle.std.specs.Prelude.{not, ℤ, int_le, codes}
use Rattle.std.specs.List.{list_all, AllByRecursion}
use Rattle.std.specs.Str.{bytes_eq}
use Rattle.std.specs.Fmt.{decimal, signed_decimal}
use Rattle.std.proofs.lemmas.Int.{ints}
use Rattle.std.proofs.lemmas.Slice.Eq.{bytes_eq-Decides}
use Rattle.fzn_cert.specs.declared.step.Version.{Version}
use Rattle.fzn_cert.specs.declared.step.Version.TheVariants.{One, Two}
use Rattle.fzn_cert.specs.declared.step.Step.{Step}
use Rattle.fzn_cert.specs.declared.step.Step.TheVariants.{Infer, Resolve, Solution, Delete}
use Rattle.fzn_rules.specs.declared.rule.Rule.{Rule}
use Rattle.fzn_rules.specs.declared.rule.Rule.TheVariants.{Lin, Rows, Box, Fixed, Enum, Hall, Load, Energy, Cut, Pair, Row}
use Rattle.fzn_cert.specs.Spelling.{rule_name, hints, literal_text, step_words, IsNumber, IsValue, IsHint, IsLiteral, IsRule, Rises, IdsRise, IsSpelled}
use Rattle.fzn_cert.specs.Words.{◌>>=◌, positive_of, hint_of, is_value, literal_of, items_of, items_before_mark}
use Rattle.fzn_cert.specs.Reading.{rises, ids_rise, short_rule_of, rule_spelled, infer_of, resolve_of, solution_of, delete_of, is_deletion, step_of_words}
use Rattle.fzn_cert.proofs.CallerLemmas.{and_true, some_is}
use Rattle.fzn_cert_line.proofs.OptionLaws.{bind_some, guard_some, chosen}
use Rattle.fzn_cert_line.proofs.WordLaws.{number_takes, hint_takes, literal_takes, items_take, marked_take}

Rises-from_test : (xs : List ℤ) → rises xs ≡ true → Rises xs
unfolding rises Rises
Rises-from_test [] e = tt
Rises-from_test (x ∷ []) e = tt
Rises-from_test (x ∷ y ∷ rest) e =
    let t = and_true (not (int_le y x)) (rises (y ∷ rest)) e in
    (grind (arith, ints, t.0), Rises-from_test (y ∷ rest) t.1)

pub IdsRise-from_test : (xs : List ℕ) → ids_rise xs ≡ true → IdsRise xs
unfolding ids_rise IdsRise
IdsRise-from_test [] e = tt
IdsRise-from_test (x ∷ []) e = tt
IdsRise-from_test (x ∷ y ∷ rest) e =
    let t = and_true (ltb x y) (ids_rise (y ∷ rest)) e in
    (grind (arith, t.0), IdsRise-from_test (y ∷ rest) t.1)

-- ---- rules

-- the rule that a name and hints give
pub record NamesRule (name : List ℕ) (hs : List ℤ) (rule : Rule) : Type 0 where
  pub name_is : name ≡ rule_name rule
  pub hints_are : hs ≡ hints rule
  pub is_rule : IsRule rule

names : (name text : List ℕ) → bytes_eq name text ≡ true → name ≡ text
names name text e = (bytes_eq-Decides name text).0 e

named : (name text : List ℕ) (hs : List ℤ) (made rule : Rule) → bytes_eq name text ≡ true → text ≡ rule_name made → hs ≡ hints made → IsRule made → made ≡ rule → NamesRule name hs rule
named name text hs made rule e same given is_rule same_rule =
    subst (λ (r : Rule). NamesRule name hs r) same_rule (record { name_is = names name text e ∙ same; hints_are = given; is_rule = is_rule })

short_rule_takes : (name : List ℕ) (hs : List ℤ) (rule : Rule) → AllByRecursion IsHint hs → short_rule_of name hs ≡ Some rule → NamesRule name hs rule
unfolding short_rule_of
short_rule_takes name [] rule fit e =
    elim (chosen (bytes_eq name (codes "lin")) (Some Lin) _ rule e) [
      | inl h ↦ named name (codes "lin") [] Lin rule h.0 refl refl tt (some_is Lin rule h.1)
      | inr h ↦ elim (chosen (bytes_eq name (codes "rows")) (Some Rows) _ rule h.1) [
        | inl h ↦ named name (codes "rows") [] Rows rule h.0 refl refl tt (some_is Rows rule h.1)
        | inr h ↦ elim (chosen (bytes_eq name (codes "box")) (Some Box) _ rule h.1) [
          | inl h ↦ named name (codes "box") [] Box rule h.0 refl refl tt (some_is Box rule h.1)
          | inr h ↦ elim (chosen (bytes_eq name (codes "fixed")) (Some Fixed) _ rule h.1) [
            | inl h ↦ named name (codes "fixed") [] Fixed rule h.0 refl refl tt (some_is Fixed rule h.1)
            | inr h ↦ elim (chosen (bytes_eq name (codes "enum")) (Some Enum) _ rule h.1) [
              | inl h ↦ named name (codes "enum") [] Enum rule h.0 refl refl tt (some_is Enum rule h.1)
              | inr h ↦
                  let g = guard_some (bytes_eq name (codes "row")) Row rule h.1 in
                  named name (codes "row") [] Row rule g.0 refl refl tt g.1
            ]
          ]
        ]
      ]
    ]
short_rule_takes name (a ∷ []) rule fit e =
    let g = guard_some (bytes_eq name (codes "load")) (Load a) rule e in
    named name (codes "load") (a ∷ []) (Load a) rule g.0 refl refl fit g.1
short_rule_takes name (a ∷ b ∷ []) rule fit e =
    elim (chosen (bytes_eq name (codes "hall")) (Some (Hall a b)) _ rule e) [
      | inl h ↦ named name (codes "hall") (a ∷ b ∷ []) (Hall a b) rule h.0 refl refl fit (some_is (Hall a b) rule h.1)
      | inr h ↦ elim (chosen (bytes_eq name (codes "energy")) (Some (Energy a b)) _ rule h.1) [
        | inl h ↦ named name (codes "energy") (a ∷ b ∷ []) (Energy a b) rule h.0 refl refl fit (some_is (Energy a b) rule h.1)
        | inr h ↦
            let g = guard_some (bytes_eq name (codes "pair")) (Pair a b) rule h.1 in
            named name (codes "pair") (a ∷ b ∷ []) (Pair a b) rule g.0 refl refl fit g.1
      ]
    ]
short_rule_takes name (a ∷ b ∷ c ∷ rest) rule fit e = absurd cc

pub rule_takes : (name : List ℕ) (hs : List ℤ) (rule : Rule) → AllByRecursion IsHint hs → rule_spelled name hs ≡ Some rule → NamesRule name hs rule
unfolding rule_spelled
rule_takes name hs rule fit e =
    elim (chosen (bytes_eq name (codes "cut")) (cond (rises hs) (Some (Cut hs)) None) (short_rule_of name hs) rule e) [
      | inl h ↦
          let g = guard_some (rises hs) (Cut hs) rule h.1 in
          named name (codes "cut") hs (Cut hs) rule h.0 refl refl (fit, Rises-from_test hs g.0) g.1
      | inr h ↦ short_rule_takes name hs rule fit h.1
    ]

-- ---- steps

-- the words are those of a step that has a spelling
pub record Spells (v : Version) (words : List (List ℕ)) (step : Step) : Type 0 where
  pub words_are : words ≡ step_words step
  pub is_spelled : IsSpelled v step

infer_takes : (v : Version) (words : List (List ℕ)) (step : Step) → infer_of words ≡ Some step → Spells v (codes "i" ∷ words) step
unfolding infer_of
infer_takes v [] step e = absurd cc
infer_takes v (number ∷ []) step e = absurd cc
infer_takes v (number ∷ name ∷ words) step e =
    let a = bind_some (positive_of number) (λ constraint. items_before_mark hint_of words >>= λ hs. rule_spelled name hs.0 >>= λ rule. items_of literal_of hs.1 >>= λ clause. Some (Infer (record { constraint = constraint; rule = rule; clause = clause }))) step e in
    let b = bind_some (items_before_mark hint_of words) (λ hs. rule_spelled name hs.0 >>= λ rule. items_of literal_of hs.1 >>= λ clause. Some (Infer (record { constraint = a.0; rule = rule; clause = clause }))) step a.2 in
    let r = bind_some (rule_spelled name b.0.0) (λ rule. items_of literal_of b.0.1 >>= λ clause. Some (Infer (record { constraint = a.0; rule = rule; clause = clause }))) step b.2 in
    let l = bind_some (items_of literal_of b.0.1) (λ clause. Some (Infer (record { constraint = a.0; rule = r.0; clause = clause }))) step r.2 in
    let n = number_takes number a.0 a.1 in
    let hs = marked_take hint_of signed_decimal IsHint hint_takes words b.0 b.1 in
    let rule = rule_takes name b.0.0 r.0 hs.1 r.1 in
    let clause = items_take literal_of literal_text IsLiteral literal_takes b.0.1 l.0 l.1 in
    let tail : words ≡ map signed_decimal (hints r.0) ++ codes ";" ∷ map literal_text l.0 =
    hs.0 ∙ ap (λ (xs : List ℤ). map signed_decimal xs ++ codes ";" ∷ b.0.1) rule.hints_are
    ∙ ap (λ (ws : List (List ℕ)). map signed_decimal (hints r.0) ++ codes ";" ∷ ws) clause.0 in
    let made : Step = Infer (record { constraint = a.0; rule = r.0; clause = l.0 }) in
    subst (λ (s : Step). Spells v (codes "i" ∷ number ∷ name ∷ words) s) (some_is made step l.2) (record {
      words_are = ap (λ (w : List ℕ). codes "i" ∷ w ∷ name ∷ words) n.0
          ∙ ap (λ (w : List ℕ). codes "i" ∷ decimal a.0 ∷ w ∷ words) rule.name_is
          ∙ ap (λ (ws : List (List ℕ)). codes "i" ∷ decimal a.0 ∷ rule_name r.0 ∷ ws) tail;
      is_spelled = (n.1, rule.is_rule, clause.1);
    })

resolve_takes : (v : Version) (words : List (List ℕ)) (step : Step) → resolve_of words ≡ Some step → Spells v (codes "r" ∷ words) step
unfolding resolve_of
resolve_takes v words step e =
    let a = bind_some (items_before_mark literal_of words) (λ clause. items_of positive_of clause.1 >>= λ ids. Some (Resolve clause.0 ids)) step e in
    let b = bind_some (items_of positive_of a.0.1) (λ ids. Some (Resolve a.0.0 ids)) step a.2 in
    let clause = marked_take literal_of literal_text IsLiteral literal_takes words a.0 a.1 in
    let ids = items_take positive_of decimal IsNumber number_takes a.0.1 b.0 b.1 in
    let made : Step = Resolve a.0.0 b.0 in
    subst (λ (s : Step). Spells v (codes "r" ∷ words) s) (some_is made step b.2) (record {
      words_are = ap (λ (ws : List (List ℕ)). codes "r" ∷ ws) (clause.0 ∙ ap (λ (ws : List (List ℕ)). map literal_text a.0.0 ++ codes ";" ∷ ws) ids.0);
      is_spelled = (clause.1, ids.1);
    })

values_fit : (zs : List ℤ) → list_all is_value zs ≡ true → AllByRecursion IsValue zs
values_fit [] e = tt
values_fit (z ∷ zs) e =
    let t = and_true (is_value z) (list_all is_value zs) e in
    (grind (arith, ints, t.0), values_fit zs t.1)

solution_takes : (v : Version) (words : List (List ℕ)) (step : Step) → solution_of words ≡ Some step → Spells v (codes "s" ∷ words) step
unfolding solution_of
solution_takes v words step e =
    let a = bind_some (items_of hint_of words) (λ values. cond (list_all is_value values) (Some (Solution values)) None) step e in
    let values = items_take hint_of signed_decimal IsHint hint_takes words a.0 a.1 in
    let g = guard_some (list_all is_value a.0) (Solution a.0) step a.2 in
    subst (λ (s : Step). Spells v (codes "s" ∷ words) s) g.1 (record {
      words_are = ap (λ (ws : List (List ℕ)). codes "s" ∷ ws) values.0;
      is_spelled = values_fit a.0 g.0;
    })

delete_takes : (v : Version) (words : List (List ℕ)) (step : Step) → delete_of v words ≡ Some step → Spells v (codes "d" ∷ words) step
unfolding delete_of
delete_takes One words step e = absurd cc
delete_takes Two words step e =
    let a = bind_some (items_of positive_of words) (λ ids. cond (is_deletion ids) (Some (Delete ids)) None) step e in
    let ids = items_take positive_of decimal IsNumber number_takes words a.0 a.1 in
    let g = guard_some (is_deletion a.0) (Delete a.0) step a.2 in
    let t = and_true (not (eqb (length a.0) 0)) (ids_rise a.0) g.0 in
    let some : 0 < length a.0 = grind (arith, t.0) in
    subst (λ (s : Step). Spells Two (codes "d" ∷ words) s) g.1 (record {
      words_are = ap (λ (ws : List (List ℕ)). codes "d" ∷ ws) ids.0;
      is_spelled = (refl, some, ids.1, IdsRise-from_test a.0 t.1);
    })

of_kind : (v : Version) (kind text : List ℕ) (words : List (List ℕ)) (step : Step) → bytes_eq kind text ≡ true → Spells v (text ∷ words) step → Spells v (kind ∷ words) step
of_kind v kind text words step e h = subst (λ (k : List ℕ). Spells v (k ∷ words) step) (sym (names kind text e)) h

pub step_takes : (v : Version) (words : List (List ℕ)) (step : Step) → step_of_words v words ≡ Some step → Spells v words step
unfolding step_of_words
step_takes v [] step e = absurd cc
step_takes v (kind ∷ words) step e =
    elim (chosen (bytes_eq kind (codes "i")) (infer_of words) _ step e) [
      | inl h ↦ of_kind v kind (codes "i") words step h.0 (infer_takes v words step h.1)
      | inr h ↦ elim (chosen (bytes_eq kind (codes "r")) (resolve_of words) _ step h.1) [
        | inl h ↦ of_kind v kind (codes "r") words step h.0 (resolve_takes v words step h.1)
        | inr h ↦ elim (chosen (bytes_eq kind (codes "s")) (solution_of words) _ step h.1) [
          | inl h ↦ of_kind v kind (codes "s") words step h.0 (solution_takes v words step h.1)
          | inr h ↦ elim (chosen (bytes_eq kind (codes "d")) (delete_of v words) None step h.1) [
            | inl h ↦ of_kind v kind (codes "d") words step h.0 (delete_takes v words step h.1)
            | inr h ↦ absurd (none_is_some step h.1)
          ]
        ]
      ]
    ]
  where
    none_is_some : (s : Step) → None ≡ Some s → ⊥
    none_is_some s e = cc
