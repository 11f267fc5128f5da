-- The end of the certificate, and the rest of the answer.
use Rattle.std.proofs.Common.{◌≡◌, ℕ, zero, suc, ◌-◌, ◌==◌, ◌||◌, not, Bool, true, false, ℤ, List, ◌++◌, length, drop, Option, Some, None, Result, Ok, Err, is_some, refl, sym, ap, ◌∙◌, subst, arith, append_assoc, inl, inr}
use Rattle.std.specs.Option.{option_to_list}
use Rattle.std.specs.Io.KnownBytes.{Appends, Keeps}
use Rattle.std.proofs.lemmas.Bool.{cases_Bool}
use Rattle.std.proofs.lemmas.Bool.Decides.{nat_tests}
use Rattle.std.proofs.lemmas.List.{length-drop}
use Rattle.std.proofs.lemmas.List.Concat.{flat_map-append}
use Rattle.fzn_streams.specs.Output.{AppendsFront}
use Rattle.fzn_streams.proofs.CallerLemmas.{Appends-then, front-then, front-left, front-none}
use Rattle.fzn_meaning.specs.declared.model.Model.{Model}
use Rattle.fzn_cert.specs.declared.writer.Stage.TheVariants.{Fresh, Open, Shut}
use Rattle.fzn_cert.specs.declared.writer.Stage.{Stage}
use Rattle.fzn_cert.specs.declared.write_fault.WriteFault.{WriteFault}
use Rattle.fzn_cert.specs.declared.write_fault.WriteFault.TheVariants.{Failed}
use Rattle.fzn_cert.specs.declared.write_fault.WriteFault.TheVariants as faults
use Rattle.fzn_printer.specs.declared.printer.PrintFault.{PrintFault}
use Rattle.fzn_printer.specs.declared.printer.PrintFault.TheVariants.{Failed as NoMore}
use Rattle.fzn_cert.specs.Spelling.{end_line}
use Rattle.fzn_cert.specs.Writer.{contents_of as cert_contents, stage_of, Leaves}
use Rattle.fzn_printer.specs.Printer.{out_contents, is_open, has_printed}
use Rattle.fzn_printer.specs.Shown.{shown, ending_text}
use Rattle.fzn_solver.specs.declared.writers.Writers.{Writers}
use Rattle.fzn_solver.specs.Standing.{found_by, early, late, begun_certificate, shown_all, IsOutInStep}
use Rattle.fzn_solver.proofs.StandingLemmas.{front-kept}
use Rattle.fzn_solver.specs.Writers.{taken, at_first, opening_in, IsKept, IsLastShown, IsAnswerClosed, IsCutOff}

-- a solution was printed early or waits exactly where there is one
some-waits : (last : Option (List ℤ)) (xs : List (List ℤ)) → option_to_list last ≡ xs → is_some last ≡ not (length xs == 0)
some-waits None xs e = ap (λ (l : List (List ℤ)). not (length l == 0)) e
some-waits (Some v) xs e = ap (λ (l : List (List ℤ)). not (length l == 0)) e

not_zero : (k : ℕ) → (suc k == 0) ≡ false
not_zero k = grind (arith, nat_tests)

same_test : (m n : ℕ) → (m ≡ 0 → n ≡ 0) → (n ≡ 0 → m ≡ 0) → (m == 0) ≡ (n == 0)
same_test zero zero h k = refl
same_test zero (suc n) h k = let e = h refl in absurd (omega arith)
same_test (suc m) zero h k = let e = k refl in absurd (omega arith)
same_test (suc m) (suc n) h k = not_zero m ∙ sym (not_zero n)

some-late : (found : List (List ℤ)) → not (length (drop (length found - 1) found) == 0) ≡ not (length found == 0)
some-late found =
    let left = length-drop (length found - 1) found in
    ap not (same_test (length (drop (length found - 1) found)) (length found) (λ e. omega arith) (λ e. omega arith))

or_none : (b : Bool) → (b || false) ≡ b
or_none true = refl
or_none false = refl

some-shown : (alone : Bool) (found : List (List ℤ)) → (not (length (early alone found) == 0) || not (length (late alone found) == 0)) ≡ not (length found == 0)
some-shown true found = some-late found
some-shown false found = or_none (not (length found == 0))

shown_all-append : (model : Model) (xs ys : List (List ℤ)) → shown_all model (xs ++ ys) ≡ shown_all model xs ++ shown_all model ys
shown_all-append model xs ys = flat_map-append (shown model) xs ys

-- the rest of the answer behind what was printed early
answer-text : (model : Model) (alone closed : Bool) (found : List (List ℤ)) (first old mid new : Option (List ℕ)) (printed : Bool) (last : Option (List ℤ)) → IsOutInStep model alone found first old printed last → Appends old mid (shown_all model (option_to_list last)) → Appends mid new (ending_text closed (printed || is_some last))
    → Appends first new (shown_all model (early alone found ++ late alone found) ++ ending_text closed (not (length found == 0)))
answer-text model alone closed found first old mid new printed last in_step rest ending =
    let L : List (List ℤ) → Type 0 = λ l. Appends old mid (shown_all model l) in
    let E : Bool → Type 0 = λ b. Appends mid new (ending_text closed b) in
    let some : (printed || is_some last) ≡ not (length found == 0) =
    ap (λ (b : Bool). b || is_some last) in_step.has_shown ∙ ap (λ (b : Bool). not (length (early alone found) == 0) || b) (some-waits last (late alone found) in_step.waits) ∙ some-shown alone found in
    rw (shown_all-append model (early alone found) (late alone found))
    (Appends-then first mid new (shown_all model (early alone found) ++ shown_all model (late alone found)) (ending_text closed (not (length found == 0)))
    (Appends-then first old mid (shown_all model (early alone found)) (shown_all model (late alone found)) in_step.text (subst L in_step.waits rest)) (subst E some ending))

-- a beginning of the rest of the answer behind what was printed early, and nothing more where the output was shut
pub answer-front : (model : Model) (alone closed : Bool) (found : List (List ℤ)) (first old new : Option (List ℕ)) (opened printed : Bool) (last : Option (List ℤ)) → (opened ≡ true → IsOutInStep model alone found first old printed last) → AppendsFront first old (shown_all model (early alone found))
    → (opened ≡ false → Keeps old new) → AppendsFront old new (shown_all model (option_to_list last) ++ ending_text closed (printed || is_some last))
    → AppendsFront first new (shown_all model (early alone found ++ late alone found) ++ ending_text closed (not (length found == 0)))
answer-front model alone closed found first old new opened printed last in_step before nothing front = elim (cases_Bool opened) [
  | inl is_open_before ↦
      let step = in_step is_open_before in
      let L : List (List ℤ) → Type 0 = λ l. AppendsFront old new (shown_all model l ++ ending_text closed (printed || is_some last)) in
      let E : Bool → Type 0 = λ b. AppendsFront old new (shown_all model (late alone found) ++ ending_text closed b) in
      let some : (printed || is_some last) ≡ not (length found == 0) =
      ap (λ (b : Bool). b || is_some last) step.has_shown ∙ ap (λ (b : Bool). not (length (early alone found) == 0) || b) (some-waits last (late alone found) step.waits) ∙ some-shown alone found in
      rw (shown_all-append model (early alone found) (late alone found), append_assoc (shown_all model (early alone found)) (shown_all model (late alone found)) (ending_text closed (not (length found == 0))))
      (front-then first old new (shown_all model (early alone found)) (shown_all model (late alone found) ++ ending_text closed (not (length found == 0))) step.text (subst E some (subst L step.waits front)))
  | inr shut ↦
      rw (shown_all-append model (early alone found) (late alone found), append_assoc (shown_all model (early alone found)) (shown_all model (late alone found)) (ending_text closed (not (length found == 0))))
      (front-left first new (shown_all model (early alone found)) (shown_all model (late alone found) ++ ending_text closed (not (length found == 0))) (front-kept first old new (shown_all model (early alone found)) before (nothing shut)))
]

-- ---- a call that went well found its writer open

open-before : (stage : Stage) (result : Result Unit WriteFault) (v : Unit) → (¬ (stage ≡ Open) → result ≡ Err Failed) → result ≡ Ok v → stage ≡ Open
open-before Fresh result v failed is = let bad : Ok v ≡ Err Failed = sym is ∙ failed (λ h. cc) in cc
open-before Open result v failed is = refl
open-before Shut result v failed is = let bad : Ok v ≡ Err Failed = sym is ∙ failed (λ h. cc) in cc

pub open-print : {K : Type 0} (opened : Bool) (result : Result Unit PrintFault) (v : Unit) → (opened ≡ false → (result ≡ Err NoMore) × K) → result ≡ Ok v → opened ≡ true
open-print true result v failed is = refl
open-print false result v failed is = let bad : Ok v ≡ Err NoMore = sym is ∙ (failed refl).0 in cc

kept-on : (a b c : Option (List ℕ)) → Keeps a b → Keeps b c → Keeps a c
kept-on None b c h k = tt
kept-on (Some x) None c h k = absurd h
kept-on (Some x) (Some y) None h k = absurd k
kept-on (Some x) (Some y) (Some z) h k = k ∙ h

-- what a fault of the certificate leaves is a beginning of the text
pub leaves-front : (text : List ℕ) (old new : Option (List ℕ)) (fault : WriteFault) → Leaves text old new fault → AppendsFront old new text
leaves-front text old new faults.Write h = h
leaves-front text old new faults.Memory h = front-none old new text h
leaves-front text old new faults.StepTooLong h = front-none old new text h
leaves-front text old new faults.Failed h = front-none old new text h

module _ {W C P : Type 0} (outs : W → Option (List ℕ)) (certs : C → Option (List ℕ)) (model : Model) (closed : Bool) where
  pub closed-by : (old mid new : Writers W C P) (finished : Result Unit WriteFault) (ended : Result Unit PrintFault) (v w : Unit) {K : Type 0} → IsKept outs certs model old
      → (¬ (stage_of old.cert ≡ Open) → finished ≡ Err Failed) → finished ≡ Ok v → (is_open mid.out ≡ false → (ended ≡ Err NoMore) × K) → ended ≡ Ok w
      → Appends (cert_contents certs old.cert) (cert_contents certs new.cert) (end_line closed)
      → IsLastShown outs model old.last.now old.out mid.out → Appends (out_contents outs mid.out) (out_contents outs new.out) (ending_text closed (has_printed mid.out))
      → IsAnswerClosed outs certs model closed old new
  closed-by old mid new finished ended v w kept shut finished_is over ended_is end last ending =
      let opened = open-before (stage_of old.cert) finished v shut finished_is in
      let still = open-print (is_open mid.out) ended w over ended_is in
      let E : Bool → Type 0 = λ b. Appends (out_contents outs mid.out) (out_contents outs new.out) (ending_text closed b) in record {
        have_lines = (kept.cert_in_step opened).have_lines;
        cert = Appends-then (certs (at_first old).1) (cert_contents certs old.cert) (cert_contents certs new.cert) (begun_certificate (opening_in model old) (taken old)) (end_line closed) (kept.cert_in_step opened).lines end;
        out = answer-text model old.alone closed (found_by model (taken old)) (outs (at_first old).0) (out_contents outs old.out) (out_contents outs mid.out) (out_contents outs new.out) (has_printed old.out) old.last.now
            (kept.out_in_step opened (last.was_open still)) last.text (subst E last.has_shown ending);
      }

  -- the end of the certificate stands, but not that of the answer
  pub cut-off : (old mid new : Writers W C P) (finished : Result Unit WriteFault) (ended : Result Unit PrintFault) (v : Unit) → (¬ (stage_of old.cert ≡ Open) → finished ≡ Err Failed) → finished ≡ Ok v
      → (is_open mid.out ≡ false → (ended ≡ Err NoMore) × Keeps (out_contents outs mid.out) (out_contents outs new.out))
      → Appends (cert_contents certs old.cert) (cert_contents certs new.cert) (end_line closed) → IsLastShown outs model old.last.now old.out mid.out → AppendsFront (out_contents outs mid.out) (out_contents outs new.out) (ending_text closed (has_printed mid.out))
      → IsCutOff outs certs model closed old new
  cut-off old mid new finished ended v shut finished_is over end last front =
      let F : Bool → Type 0 = λ b. AppendsFront (out_contents outs mid.out) (out_contents outs new.out) (ending_text closed b) in record {
        was_open = open-before (stage_of old.cert) finished v shut finished_is;
        end = end;
        out = record {
          front = front-then (out_contents outs old.out) (out_contents outs mid.out) (out_contents outs new.out) (shown_all model (option_to_list old.last.now)) (ending_text closed (has_printed old.out || is_some old.last.now)) last.text (subst F last.has_shown front);
          nothing = λ closed_before. kept-on (out_contents outs old.out) (out_contents outs mid.out) (out_contents outs new.out) (last.nothing closed_before) (over (still-shut (is_open mid.out) closed_before last.was_open)).1;
        };
      }
    where
      still-shut : (b : Bool) → is_open old.out ≡ false → (b ≡ true → is_open old.out ≡ true) → b ≡ false
      still-shut false e f = refl
      still-shut true e f = let g = sym e ∙ f refl in cc
