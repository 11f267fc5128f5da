-- Bytes that are spelled as version 1 have the same verdicts with either first line.
use Rattle.std.proofs.Common.{◌≡◌, ℕ, suc, ◌+◌, ◌<◌, Bool, true, false, List, [], ◌∷◌, ◌++◌, length, drop, Option, Some, None, ◌⊎◌, inl, inr, refl, sym, ap, subst, ◌∙◌, arith, append_assoc}
use Rattle.std.specs.Prelude.{codes, ◌↔◌}
use Rattle.std.specs.List.{fold, list_all}
use Rattle.std.specs.Fmt.{decimal}
use Rattle.std.specs.Io.KnownBytes.{Consumes, IsAtEnd}
use Rattle.std.proofs.lemmas.List.{append-nil}
use Rattle.std.proofs.lemmas.List.Folds.{list_all-append}
use Rattle.fzn_meaning.specs.declared.model.Model.{Model}
use Rattle.fzn_cert.specs.declared.refusal.Refusal.{Refusal}
use Rattle.fzn_cert.specs.declared.refusal.Refusal.TheVariants as refusals
use Rattle.fzn_cert.specs.declared.step.Step.{Step}
use Rattle.fzn_cert.specs.declared.step.Step.TheVariants.{Infer, Resolve, Solution, Delete}
use Rattle.fzn_cert.specs.declared.step.Version.{Version}
use Rattle.fzn_cert.specs.declared.step.Version.TheVariants.{One, Two}
use Rattle.fzn_cert.specs.Spelling.{step_text, step_line, end_line, version_text, counts_text, header_lines, IsSpelled, HasLine, IsSized}
use Rattle.fzn_cert.specs.Stream.{BeginsWithLine, IsMisspelled}
use Rattle.fzn_cert.specs.Reading.{step_of_words, step_of}
use Rattle.fzn_cert.specs.Past.{StepsPast, no_past}
use Rattle.fzn_cert.specs.Accepted.{AllAcceptedAfter, after_step}
use Rattle.fzn_cert.specs.Verdict.{Outcome, accepted, refused, lines_of, AllHaveLines, IsRefusedNext, EndsIn, VerdictFrom, header_of, IsFirstRefused, IsSecondRefused, VerdictOn, Verdict}
use Rattle.fzn_cert.proofs.CallerLemmas.{and_true, text_again}
use Rattle.fzn_cert.proofs.LineLaws.{is_inside, IsInside, inside_word, plain_decimal, text_is_inside, same_lines, one_line_lem}
use Rattle.fzn_cert.proofs.VerdictLaws.{verdict-ends, verdict-step}
use Rattle.fzn_checker.specs.Rewritten.{first_line, second_line}

-- ---- steps and endings

-- what version 1 spells, each version spells
in_any : (w : Version) (step : Step) → IsSpelled One step → IsSpelled w step
in_any w (Infer it) h = h
in_any w (Resolve clause ids) h = h
in_any w (Solution values) h = h
in_any w (Delete ids) h = absurd (apart h.0)
  where
    apart : One ≡ Two → ⊥
    apart e = cc

any_line : (w : Version) (count : ℕ) (step : Step) → HasLine One count step → HasLine w count step
any_line w count step h = (in_any w step h.0, h.1)

end_text : Bool → List ℕ
end_text true = codes "e closed"
end_text false = codes "e open"

end_inside : (closed : Bool) → IsInside (end_text closed)
unfolding end_text
end_inside true = refl
end_inside false = refl

end_is : (closed : Bool) → end_text closed ++ 10 ∷ [] ≡ end_line closed
unfolding end_text
end_is true = refl
end_is false = refl

not_a_step : (v : Version) (closed : Bool) → step_of v (end_text closed) ≡ None
unfolding end_text step_of_words
not_a_step v true = refl
not_a_step v false = refl

no_step : (step : Step) → None ≡ Some step → ⊥
no_step step e = cc

not_an_end : (v : Version) (step : Step) (closed : Bool) → IsSpelled v step → step_text step ≡ end_text closed → ⊥
not_an_end v step closed h e = no_step step (sym (not_a_step v closed) ∙ sym (ap (λ (t : List ℕ). step_of v t) e) ∙ text_again v step h)

-- ---- the next line of a text that is spelled as version 1

module _ (count : ℕ) (closed : Bool) where
  -- the line of one more step, or the last one
  IsNext : List ℕ → Type 0
  IsNext text = ((step : Step) × HasLine One count step × (text ≡ step_text step)) ⊎ (text ++ 10 ∷ [] ≡ end_line closed)

  next_is : (all : List Step) (text rest : List ℕ) → AllHaveLines One count all → IsInside text → text ++ 10 ∷ rest ≡ lines_of all ++ end_line closed → IsNext text
  unfolding IsNext
  next_is [] text rest spelled inside e =
      inr (ap (λ (t : List ℕ). t ++ 10 ∷ []) (same_lines text (end_text closed) rest [] inside (end_inside closed) (e ∙ sym (end_is closed))).0 ∙ end_is closed)
  next_is (step ∷ more) text rest spelled inside e =
      inl (
        step,
        spelled.0,
        (same_lines text (step_text step) rest (lines_of more ++ end_line closed) inside (text_is_inside One step spelled.0.0)
            (e ∙ append_assoc (step_line step) (lines_of more) (end_line closed) ∙ append_assoc (step_text step) (10 ∷ []) (lines_of more ++ end_line closed))).0,
      )

  not_misspelled : (v : Version) (text : List ℕ) → IsNext text → IsMisspelled v count text → ⊥
  unfolding IsNext
  not_misspelled v text (inl (step, has, is)) h = h.0 step (any_line v count step has) is
  not_misspelled v text (inr is) h = h.1 closed is

  -- the step of this line is the next one
  record Follows (step : Step) (rest : List ℕ) : Type 0 where
    has : HasLine One count step
    more : List Step
    spelled : AllHaveLines One (count + 1) more
    is : rest ≡ lines_of more ++ end_line closed

  step_is : (v : Version) (all : List Step) (step : Step) (rest : List ℕ) → HasLine v count step → AllHaveLines One count all → step_line step ++ rest ≡ lines_of all ++ end_line closed → Follows step rest
  step_is v [] step rest has spelled e =
      absurd (not_an_end v step closed has.0
      (same_lines (step_text step) (end_text closed) rest [] (text_is_inside v step has.0) (end_inside closed)
      (sym (append_assoc (step_text step) (10 ∷ []) rest) ∙ e ∙ sym (end_is closed))).0)
  step_is v (first ∷ more) step rest has spelled e =
      let same = one_line_lem v One step first rest (lines_of more ++ end_line closed) has.0 spelled.0.0 (e ∙ append_assoc (step_line first) (lines_of more) (end_line closed)) in
      record { has = subst (λ (s : Step). HasLine One count s) (sym same.0) spelled.0; more = more; spelled = spelled.1; is = same.1 }

  -- ---- the end

  module _ (model : Model) (v w : Version) (past : StepsPast) (all : List Step) (bytes : List ℕ) where
    same_step_fault : (a : Refusal) (step : Step) → AllHaveLines One count all → bytes ≡ lines_of all ++ end_line closed → HasLine v count step → (rest : Option (List ℕ)) → Consumes (Some bytes) rest (step_line step) → HasLine w count step
    same_step_fault a step spelled is has None taken = absurd taken
    same_step_fault a step spelled is has (Some rest) taken = any_line w count step (step_is v all step rest has spelled (sym taken ∙ is)).has

    same_spelling : AllHaveLines One count all → bytes ≡ lines_of all ++ end_line closed → (text : List ℕ) → BeginsWithLine (Some bytes) text → IsMisspelled v count text → ⊥
    same_spelling spelled is text h wrong = by_rest h.rest h.taken
      where
        by_rest : (rest : Option (List ℕ)) → Consumes (Some bytes) rest (text ++ 10 ∷ []) → ⊥
        by_rest None taken = absurd taken
        by_rest (Some rest) taken = not_misspelled v text (next_is all text rest spelled h.inside (sym (append_assoc text (10 ∷ []) rest) ∙ sym taken ∙ is)) wrong

    same_next : (a : Refusal) → AllHaveLines One count all → bytes ≡ lines_of all ++ end_line closed → IsRefusedNext model v past count (Some bytes) a → IsRefusedNext model w past count (Some bytes) a
    same_next refusals.Spelling spelled is (text, begins, wrong) = absurd (same_spelling spelled is text begins wrong)
    same_next refusals.Truncated spelled is h = h
    same_next refusals.LineTooLong spelled is h = h
    same_next refusals.NotClosed spelled is h = h
    same_next refusals.Trailing spelled is h = h
    same_next a spelled is h = (h.0, same_step_fault a h.0 spelled is h.1 h.2.0 h.2.1, h.2, h.3)

    same_end : (x : Outcome) → AllHaveLines One count all → bytes ≡ lines_of all ++ end_line closed → EndsIn model v past count (Some bytes) x → EndsIn model w past count (Some bytes) x
    same_end (accepted found told) spelled is h = h
    same_end (refused line a) spelled is (at, h) = (at, same_next a spelled is h)

-- ---- step after step

module _ (model : Model) (v w : Version) (closed : Bool) where
  same_from : (past : StepsPast) (count : ℕ) (all : List Step) (bytes last : List ℕ) (x : Outcome) (later : List Step) → AllHaveLines One count all → bytes ≡ lines_of all ++ end_line closed
      → AllHaveLines v count later → AllAcceptedAfter model past later → bytes ≡ lines_of later ++ last → EndsIn model v (fold (after_step model) past later) (count + length later) (Some last) x → VerdictFrom model w past count (Some bytes) x
  same_from past count all bytes last x [] spelled is lines all_accepted e ends =
      verdict-ends model w past count (Some bytes) x
      (same_end count closed model v w past all bytes x spelled is
      (subst (λ (n : ℕ). EndsIn model v past n (Some bytes) x) (omega arith) (subst (λ (bs : List ℕ). EndsIn model v past (count + 0) (Some bs) x) (sym e) ends)))
  same_from past count all bytes last x (step ∷ later) spelled is lines all_accepted e ends =
      let rest = lines_of later ++ last in
      let front : bytes ≡ step_line step ++ rest = e ∙ append_assoc (step_line step) (lines_of later) last in
      let next = step_is count closed v all step rest lines.0 spelled (sym front ∙ is) in
      verdict-step model w past count (Some bytes) (Some rest) step x (any_line w count step next.has) all_accepted.0 front
      (same_from (after_step model past step) (count + 1) next.more rest last x later next.spelled next.is lines.1 all_accepted.1 refl
      (subst (λ (n : ℕ). EndsIn model v (fold (after_step model) (after_step model past step) later) n (Some last) x) (shift count (length later)) ends))
    where
      shift : (m n : ℕ) → m + suc n ≡ m + 1 + n
      shift m n = omega arith

  same_verdict_from : (past : StepsPast) (count : ℕ) (all : List Step) (bytes : List ℕ) (x : Outcome) → AllHaveLines One count all → bytes ≡ lines_of all ++ end_line closed → VerdictFrom model v past count (Some bytes) x → VerdictFrom model w past count (Some bytes) x
  same_verdict_from past count all bytes x spelled is (later, lines, all_accepted, (None, taken, ends)) = absurd taken
  same_verdict_from past count all bytes x spelled is (later, lines, all_accepted, (Some last, taken, ends)) = same_from past count all bytes last x later spelled is lines all_accepted taken ends

-- ---- the first two lines

-- the first line feed comes after so many bytes at most
feed_comes : (p x t r : List ℕ) → p ++ 10 ∷ x ≡ t ++ r → length p < length t → IsInside t → ⊥
feed_comes p x [] r e lt h = absurd (omega arith)
feed_comes [] x (c ∷ t) r e lt h =
    let same : 10 ≡ c = cc in
    absurd (subst (λ (b : ℕ). is_inside b ≡ true → ⊥) same (λ u. cc) (and_true (is_inside c) (list_all is_inside t) h).0)
feed_comes (b ∷ p) x (c ∷ t) r e lt h =
    let tails : p ++ 10 ∷ x ≡ t ++ r = cc in
    feed_comes p x t r tails (omega arith) (and_true (is_inside c) (list_all is_inside t) h).1

no_feed : (p x : List ℕ) → IsInside (p ++ 10 ∷ x) → ⊥
no_feed [] x inside = absurd cc
no_feed (b ∷ p) x inside = no_feed p x (and_true (is_inside b) (list_all is_inside (p ++ 10 ∷ x)) inside).1

version_inside : (v : Version) → IsInside (version_text v)
version_inside One = refl
version_inside Two = refl

version_length : (v : Version) → length (version_text v) ≡ 5
version_length One = refl
version_length Two = refl

module _ (v : Version) (body : List ℕ) where
  abbrev whole : List ℕ
  whole = first_line v ++ body

  whole_is : whole ≡ version_text v ++ 10 ∷ body
  whole_is = append_assoc (version_text v) (10 ∷ []) body

  -- a first line of either version is right
  no_first_fault : (a : Refusal) → IsFirstRefused (Some whole) a → ⊥
  no_first_fault refusals.Header (text, h, none) = by_rest h.rest h.taken
    where
      by_rest : (rest : Option (List ℕ)) → Consumes (Some whole) rest (text ++ 10 ∷ []) → ⊥
      by_rest None taken = absurd taken
      by_rest (Some rest) taken =
          none (v, sym (same_lines (version_text v) text body rest (version_inside v) h.inside (sym whole_is ∙ taken ∙ append_assoc text (10 ∷ []) rest)).0)
  no_first_fault refusals.Truncated h = by_rest h.rest h.taken h.at_end
    where
      by_rest : (rest : Option (List ℕ)) → Consumes (Some whole) rest h.text → IsAtEnd rest → ⊥
      by_rest None taken at_end = absurd taken
      by_rest (Some rest) taken at_end =
          let is : h.text ≡ version_text v ++ 10 ∷ body = sym (append-nil h.text) ∙ ap (λ (t : List ℕ). h.text ++ t) (sym at_end) ∙ sym taken ∙ whole_is in
          no_feed (version_text v) body (subst IsInside is h.inside)
  no_first_fault refusals.LineTooLong h = by_rest h.rest h.taken
    where
      by_rest : (rest : Option (List ℕ)) → Consumes (Some whole) rest h.text → ⊥
      by_rest None taken = absurd taken
      by_rest (Some rest) taken = feed_comes (version_text v) body h.text rest (sym whole_is ∙ taken) (omega (arith, h.past, version_length v)) h.inside
  no_first_fault _ h = absurd h

-- what follows the first line
after_first : (v w : Version) (a b : List ℕ) → first_line v ++ a ≡ first_line w ++ b → a ≡ b
after_first One One a b e = ap (λ (t : List ℕ). drop 6 t) e
after_first One Two a b e = ap (λ (t : List ℕ). drop 6 t) e
after_first Two One a b e = ap (λ (t : List ℕ). drop 6 t) e
after_first Two Two a b e = ap (λ (t : List ℕ). drop 6 t) e

inside_joined : (a b : List ℕ) → IsInside a → IsInside b → IsInside (a ++ b)
inside_joined a b h k = rw (list_all-append is_inside a b, h, k) refl

counts_inside : (n m : ℕ) → IsSized n → IsSized m → IsInside (counts_text n m)
counts_inside n m h k =
    inside_joined (codes "vars " ++ decimal n ++ codes " cons ") (decimal m)
    (inside_joined (codes "vars " ++ decimal n) (codes " cons ") (inside_joined (codes "vars ") (decimal n) refl (inside_word (decimal n) (plain_decimal n h))) refl)
    (inside_word (decimal m) (plain_decimal m k))

-- what follows the second
after_second : (n m k l : ℕ) (a b : List ℕ) → IsSized n → IsSized m → IsSized k → IsSized l → second_line n m ++ a ≡ second_line k l ++ b → a ≡ b
after_second n m k l a b hn hm hk hl e =
    (same_lines (counts_text n m) (counts_text k l) a b (counts_inside n m hn hm) (counts_inside k l hk hl)
    (sym (append_assoc (counts_text n m) (10 ∷ []) a) ∙ e ∙ append_assoc (counts_text k l) (10 ∷ []) b)).1

-- the header is the first line and the second
header_is : (model : Model) (v : Version) (rest : List ℕ) → header_lines (header_of model v) ++ rest ≡ first_line v ++ (second_line (length model.vars) (length model.constraints) ++ rest)
header_is model v rest =
    let counts = counts_text (length model.vars) (length model.constraints) in
    append_assoc (first_line v ++ counts) (10 ∷ []) rest ∙ append_assoc (first_line v) counts (10 ∷ rest) ∙ ap (λ (t : List ℕ). first_line v ++ t) (sym (append_assoc counts (10 ∷ []) rest))

-- ---- the whole

module _ (v w : Version) (n m : ℕ) (steps : List Step) (closed : Bool) (body : List ℕ) (hn : IsSized n) (hm : IsSized m) (spelled : AllHaveLines One 0 steps)
    (text : body ≡ second_line n m ++ (lines_of steps ++ end_line closed)) (model : Model) where
  same_steps : (x : Outcome) (u : Version) (hv : IsSized (length model.vars)) (hc : IsSized (length model.constraints)) (rest : List ℕ) → first_line v ++ body ≡ header_lines (header_of model u) ++ rest
      → VerdictFrom model u no_past 0 (Some rest) x → (first_line w ++ body ≡ header_lines (header_of model w) ++ rest) × VerdictFrom model w no_past 0 (Some rest) x
  same_steps x u hv hc rest taken h =
      let behind : body ≡ second_line (length model.vars) (length model.constraints) ++ rest = after_first v u _ _ (taken ∙ header_is model u rest) in
      let lines : rest ≡ lines_of steps ++ end_line closed = sym (after_second n m (length model.vars) (length model.constraints) (lines_of steps ++ end_line closed) rest hn hm hv hc (sym text ∙ behind)) in
      (ap (λ (t : List ℕ). first_line w ++ t) behind ∙ sym (header_is model w rest), same_verdict_from model u w closed no_past 0 steps rest x spelled lines h)

  same_one_way : (x : Outcome) → VerdictOn model (Some (first_line v ++ body)) x → VerdictOn model (Some (first_line w ++ body)) x
  same_one_way (accepted found told) (inl h) = absurd h
  same_one_way (refused line a) (inl (inl (at, h))) = absurd (no_first_fault v body a h)
  same_one_way (refused line a) (inl (inr (at, (u, (None, taken, h))))) = absurd taken
  same_one_way (refused line a) (inl (inr (at, (u, (Some rest, taken, h))))) =
      inl (inr (at, (w, (Some body, refl, subst (λ (t : List ℕ). IsSecondRefused model (Some t) a) (sym (after_first v u body rest taken)) h))))
  same_one_way x (inr (u, sized, (None, taken, h))) = absurd taken
  same_one_way x (inr (u, sized, (Some rest, taken, h))) =
      let same = same_steps x u sized.0 sized.1 rest taken h in
      inr (w, sized, (Some rest, same.0, same.1))

pub same_verdict : (n m : ℕ) (steps : List Step) (closed : Bool) (body : List ℕ) → IsSized n → IsSized m → AllHaveLines One 0 steps → body ≡ second_line n m ++ (lines_of steps ++ end_line closed)
    → (model : Model) (x : Outcome) → Verdict model (first_line One ++ body) x ↔ Verdict model (first_line Two ++ body) x
same_verdict n m steps closed body hn hm spelled text model x =
    (same_one_way One Two n m steps closed body hn hm spelled text model x, same_one_way Two One n m steps closed body hn hm spelled text model x)
