-- What the writers of a run keep from one call to the next.
use Rattle.std.specs.Prelude.{⊤}
use Rattle.std.proofs.Common.{◌≡◌, ◌≢◌, ℕ, ◌+◌, ◌<◌, ◌^◌, Bool, true, false, ℤ, List, [], ◌∷◌, ◌++◌, length, Option, Some, None, IfSome, Result, Ok, Err, OnOk, OnErr, refl, sym, ap, ◌∙◌, subst, arith, inl, inr}
use Rattle.std.specs.Borrow.{MutBor}
use Rattle.std.specs.Io.KnownBytes.{Appends, Keeps}
use Rattle.std.proofs.lemmas.Bool.{cases_Bool}
use Rattle.std.proofs.lemmas.List.{append-nil, length-append}
use Rattle.fzn_streams.specs.Output.{AppendsFront}
use Rattle.fzn_streams.proofs.CallerLemmas.{front-none, front-then}
use Rattle.fzn_meaning.specs.declared.model.Model.{Model}
use Rattle.fzn_meaning.specs.Solutions.{IsAssignment}
use Rattle.fzn_state.specs.declared.fault.Fault.{Fault}
use Rattle.fzn_cert.specs.declared.step.Step.{Step}
use Rattle.fzn_cert.specs.declared.step.Step.TheVariants.{Solution}
use Rattle.fzn_cert.specs.declared.step.Version.TheVariants.{Two}
use Rattle.fzn_cert.specs.declared.writer.Stage.TheVariants.{Open, Shut}
use Rattle.fzn_cert.specs.declared.writer.StepWriter.{StepWriter}
use Rattle.fzn_cert.specs.Past.{no_past}
use Rattle.fzn_cert.specs.Accepted.{AllAccepted}
use Rattle.fzn_cert.specs.Spelling.{step_line, IsSpelled, HasLineRoom}
use Rattle.fzn_cert.specs.Writer.{contents_of as cert_contents, cert_name, stage_of, step_count, version_of}
use Rattle.fzn_printer.specs.declared.printer.Printer.{Printer}
use Rattle.fzn_printer.specs.Printer.{out_contents, out_name, is_open, has_printed}
use Rattle.fzn_printer.specs.Shown.{shown}
use Rattle.fzn_solver.specs.Opening.{opening_of}
use Rattle.fzn_solver.specs.Standing.{found_by, early, shown_all, IsCertInStep, IsOutInStep}
use Rattle.fzn_solver.specs.declared.ghost_list.GhostList.{GhostList}
use Rattle.fzn_solver.specs.declared.writers.Writers.{Writers}
use Rattle.fzn_solver.specs.Writers.{taken, at_first, opening_in, origin, IsLogged, IsStandingKept, IsKept, IsUnwritten, IsLineTaken, IsLineRefused, IsRestSame, IsAllSame, IsPrinted, IsUntold}
use Rattle.fzn_solver.proofs.StandingLemmas.{cert-push, found-solution, found-infer, last-accepted, out-held, out-printed, standing-in_step, standing-refused, front-kept, front-found, front-printed, Appends-kept}

shut_open : Shut ≡ Open → ⊥
shut_open h = cc

false_true : false ≡ true → ⊥
false_true h = cc

-- where the writer stays open the call went well
pub on_ok : {C : Type 0} (old new : StepWriter C) (result : Result Unit Fault) → OnOk result ((stage_of old ≡ Open) × (stage_of new ≡ Open) × (step_count new ≡ step_count old)) → OnErr result (stage_of new ≡ Shut) → stage_of new ≡ Open → step_count new ≡ step_count old
on_ok old new (Ok v) ok err stays = ok.2
on_ok old new (Err e) ok err stays = absurd (shut_open (sym err ∙ stays))

pub Keeps-same : (o : Option (List ℕ)) → Keeps o o
Keeps-same None = tt
Keeps-same (Some xs) = refl

abbrev taken_by : GhostList Step → List Step
taken_by list = list.items

module _ {W C : Type 0} (outs : W → Option (List ℕ)) (certs : C → Option (List ℕ)) (model : Model) where
  -- the text in front of the steps
  pub kept-begun : (old new : StepWriter C) (out : Printer W) (alone : Bool) (first : W × C × Option (List ℕ)) → cert_contents certs old ≡ certs first.1 → out_contents outs out ≡ outs first.0
      → has_printed out ≡ false → version_of new ≡ Two → step_count new ≡ 0
      → Appends (cert_contents certs old) (cert_contents certs new) (opening_of model first.2) → IsStandingKept outs certs model new out alone None [] first
  kept-begun old new out alone first cert_is out_is none_shown version none header =
      let H : Option (List ℕ) → Type 0 = λ o. Appends o (cert_contents certs new) (opening_of model first.2) in
      let F : Option (List ℕ) → Type 0 = λ o. AppendsFront o (out_contents outs out) (shown_all model (early alone [])) in
      let O : Option (List ℕ) → Type 0 = λ o. IsOutInStep model alone [] o (out_contents outs out) (has_printed out) None in
      let in_step : IsCertInStep (opening_of model first.2) [] (certs first.1) (cert_contents certs new) (step_count new) =
      record { lines = rw (append-nil (opening_of model first.2)) (subst H cert_is header); have_lines = tt; counted = none } in
      record {
        version = version;
        assignment = tt;
        standing = standing-in_step model (opening_of model first.2) alone [] (certs first.1) (cert_contents certs new) (outs first.0) (out_contents outs out) (step_count new) in_step
            (subst F out_is (front-none (out_contents outs out) (out_contents outs out) (shown_all model (early alone [])) (Keeps-same (out_contents outs out))));
        cert_in_step = λ _. in_step;
        out_in_step = λ _ _. subst O out_is (nothing alone);
      }
    where
      no_text : (o : Option (List ℕ)) → Appends o o []
      no_text None = tt
      no_text (Some xs) = sym (append-nil xs)

      nothing : (b : Bool) → IsOutInStep model b [] (out_contents outs out) (out_contents outs out) (has_printed out) None
      nothing true = record { text = no_text (out_contents outs out); has_shown = none_shown; waits = refl }
      nothing false = record { text = no_text (out_contents outs out); has_shown = none_shown; waits = refl }

  -- a line that was not taken
  pub kept-refused : (old new : StepWriter C) (out : Printer W) (alone : Bool) (last : Option (List ℤ)) (steps : List Step) (first : W × C × Option (List ℕ)) (text : List ℕ) → IsStandingKept outs certs model old out alone last steps first → version_of new ≡ version_of old → stage_of new ≡ Shut
      → AppendsFront (cert_contents certs old) (cert_contents certs new) text → IsStandingKept outs certs model new out alone last steps first
  kept-refused old new out alone last steps first text kept version shut front = record {
    version = version ∙ kept.version;
    assignment = kept.assignment;
    standing = standing-refused model (opening_of model first.2) alone steps (certs first.1) (cert_contents certs old) (cert_contents certs new) (outs first.0) (out_contents outs out) text kept.standing front;
    cert_in_step = λ is_so. absurd (shut_open (sym shut ∙ is_so));
    out_in_step = λ is_so _. absurd (shut_open (sym shut ∙ is_so));
  }

  -- the line of a step that is no solution
  pub kept-line : (old new : StepWriter C) (out : Printer W) (alone : Bool) (last : Option (List ℤ)) (steps : List Step) (first : W × C × Option (List ℕ)) (step : Step) → IsStandingKept outs certs model old out alone last steps first → ((values : List ℤ) → step ≢ Solution values) → IsSpelled Two step
      → version_of new ≡ version_of old → stage_of old ≡ Open → step_count new ≡ step_count old + 1 → HasLineRoom (step_count old) step → Appends (cert_contents certs old) (cert_contents certs new) (step_line step)
      → IsStandingKept outs certs model new out alone last (steps ++ step ∷ []) first
  kept-line old new out alone last steps first step kept other spelled version was_open counted room line =
      let N : ℕ → Type 0 = λ n. IsCertInStep (opening_of model first.2) (steps ++ step ∷ []) (certs first.1) (cert_contents certs new) n in
      let in_step = subst N (sym counted) (cert-push (opening_of model first.2) steps step (certs first.1) (cert_contents certs old) (cert_contents certs new) (step_count old) (kept.cert_in_step was_open) spelled room line) in
      let found : found_by model (steps ++ step ∷ []) ≡ found_by model steps = found-infer model steps step other in
      let T : List (List ℤ) → Type 0 = λ f. AppendsFront (outs first.0) (out_contents outs out) (shown_all model (early alone f)) in
      let O : List (List ℤ) → Type 0 = λ f. IsOutInStep model alone f (outs first.0) (out_contents outs out) (has_printed out) last in
      record {
        version = version ∙ kept.version;
        assignment = kept.assignment;
        standing = standing-in_step model (opening_of model first.2) alone (steps ++ step ∷ []) (certs first.1) (cert_contents certs new) (outs first.0) (out_contents outs out) (step_count new) in_step (subst T (sym found) kept.standing.shown);
        cert_in_step = λ _. in_step;
        out_in_step = λ _ opened. subst O (sym found) (kept.out_in_step was_open opened);
      }

  -- The line of a solution, flushed. The output follows behind it: `front` and `goes` say what is known of it then.
  pub kept-solution : (old new : StepWriter C) (out after : Printer W) (alone : Bool) (last waiting : Option (List ℤ)) (steps : List Step) (first : W × C × Option (List ℕ)) (values : List ℤ) → IsStandingKept outs certs model old out alone last steps first → IsSpelled Two (Solution values)
      → version_of new ≡ version_of old → stage_of old ≡ Open → (stage_of new ≡ Open → step_count new ≡ step_count old + 1) → HasLineRoom (step_count old) (Solution values) → Appends (cert_contents certs old) (cert_contents certs new) (step_line (Solution values))
      → IfSome waiting (IsAssignment model)
      → ((o : Option (List ℕ)) → AppendsFront o (out_contents outs out) (shown_all model (early alone (found_by model steps))) → (is_open out ≡ true → Appends o (out_contents outs out) (shown_all model (early alone (found_by model steps)))) → AppendsFront o (out_contents outs after) (shown_all model (early alone (found_by model steps ++ values ∷ []))))
      → ((o : Option (List ℕ)) → stage_of new ≡ Open → is_open after ≡ true → (is_open out ≡ true → IsOutInStep model alone (found_by model steps) o (out_contents outs out) (has_printed out) last) → IsOutInStep model alone (found_by model steps ++ values ∷ []) o (out_contents outs after) (has_printed after) waiting)
      → IsStandingKept outs certs model new after alone waiting (steps ++ Solution values ∷ []) first
  kept-solution old new out after alone last waiting steps first values kept spelled version was_open counted room line assignment front goes =
      let N : ℕ → Type 0 = λ n. IsCertInStep (opening_of model first.2) (steps ++ Solution values ∷ []) (certs first.1) (cert_contents certs new) n in
      let in_step = cert-push (opening_of model first.2) steps (Solution values) (certs first.1) (cert_contents certs old) (cert_contents certs new) (step_count old) (kept.cert_in_step was_open) spelled room line in
      let found : found_by model (steps ++ Solution values ∷ []) ≡ found_by model steps ++ values ∷ [] = found-solution model steps values in
      let T : List (List ℤ) → Type 0 = λ f. AppendsFront (outs first.0) (out_contents outs after) (shown_all model (early alone f)) in
      let O : List (List ℤ) → Type 0 = λ f. IsOutInStep model alone f (outs first.0) (out_contents outs after) (has_printed after) waiting in
      record {
        version = version ∙ kept.version;
        assignment = assignment;
        standing = standing-in_step model (opening_of model first.2) alone (steps ++ Solution values ∷ []) (certs first.1) (cert_contents certs new) (outs first.0) (out_contents outs after) (step_count old + 1) in_step
            (subst T (sym found) (front (outs first.0) kept.standing.shown (λ opened. (kept.out_in_step was_open opened).text)));
        cert_in_step = λ stays. subst N (sym (counted stays)) in_step;
        out_in_step = λ stays opened. subst O (sym found) (goes (outs first.0) stays opened (kept.out_in_step was_open));
      }

  moved : (cert : StepWriter C) (out out' : Printer W) (alone alone' : Bool) (last last' : Option (List ℤ)) (steps steps' : List Step) (first first' : W × C × Option (List ℕ)) → out' ≡ out → alone' ≡ alone → last' ≡ last → steps' ≡ steps → first' ≡ first
      → IsStandingKept outs certs model cert out alone last steps first → IsStandingKept outs certs model cert out' alone' last' steps' first'
  moved cert out out' alone alone' last last' steps steps' first first' e f g h i kept =
      let O : Printer W → Type 0 = λ x. IsStandingKept outs certs model cert x alone last steps first in
      let A : Bool → Type 0 = λ x. IsStandingKept outs certs model cert out' x last steps first in
      let L : Option (List ℤ) → Type 0 = λ x. IsStandingKept outs certs model cert out' alone' x steps first in
      let S : List Step → Type 0 = λ x. IsStandingKept outs certs model cert out' alone' last' x first in
      let F : W × C × Option (List ℕ) → Type 0 = λ x. IsStandingKept outs certs model cert out' alone' last' steps' x in
      subst F (sym i) (subst S (sym h) (subst L (sym g) (subst A (sym f) (subst O (sym e) kept))))

  pub assignment-of : (steps : List Step) (values : List ℤ) → AllAccepted model (steps ++ Solution values ∷ []) → IsAssignment model values
  assignment-of steps values accepted = (last-accepted model no_past steps (Solution values) accepted).0.0

  -- nothing was printed yet, and nothing more is
  pub IsPrinted-none : (values : List ℤ) (goes : Type 0) (old new : Printer W) → new ≡ old → (goes → ⊥) → IsPrinted outs model values goes old new
  IsPrinted-none values goes old new same stops =
      let P : Printer W → Type 0 = λ p. IsPrinted outs model values goes old p in
      subst P (sym same) (record {
        same = refl;
        front = front-none (out_contents outs old) (out_contents outs old) (shown model values) (Keeps-same (out_contents outs old));
        nothing = λ _. Keeps-same (out_contents outs old);
        whole = λ goes_on _. absurd (stops goes_on);
      })

  -- the text stands, whether or not the output was flushed
  pub printed-flushed : (values : List ℤ) (goes : Type 0) (old mid new : Printer W) → out_name mid ≡ out_name old → out_name new ≡ out_name mid → is_open old ≡ true → Appends (out_contents outs old) (out_contents outs mid) (shown model values) → Keeps (out_contents outs mid) (out_contents outs new) → (is_open new ≡ true → has_printed new ≡ true)
      → IsPrinted outs model values goes old new
  printed-flushed values goes old mid new first second opened text kept printed =
      let whole = Appends-kept (out_contents outs old) (out_contents outs mid) (out_contents outs new) (shown model values) text kept in record {
        same = second ∙ first;
        front = subst (AppendsFront (out_contents outs old) (out_contents outs new)) (append-nil (shown model values)) (front-then (out_contents outs old) (out_contents outs new) (out_contents outs new) (shown model values) [] whole (front-none (out_contents outs new) (out_contents outs new) [] (Keeps-same (out_contents outs new))));
        nothing = λ was. absurd (false_true (sym was ∙ opened));
        whole = λ _ stays. (opened, whole, printed stays);
      }

module _ {W C P : Type 0} (outs : W → Option (List ℕ)) (certs : C → Option (List ℕ)) (model : Model) where
  pub refused-kept : (step : Step) (old new : Writers W C P) → IsKept outs certs model old → IsLineRefused certs step old new → IsKept outs certs model new
  refused-kept step old new kept refused =
      moved outs certs model new.cert old.out new.out old.alone new.alone old.last.now new.last.now (taken old) (taken new) (at_first old) (at_first new)
      refused.same_rest.out refused.same_rest.alone (ap (λ (l : MutBor (Option (List ℤ))). l.now) refused.same_rest.last) (ap taken_by refused.taken) refused.same_rest.first
      (kept-refused outs certs model old.cert new.cert old.out old.alone old.last.now (taken old) (at_first old) (step_line step) kept refused.same_version refused.shut refused.front)

  pub line-kept : (step : Step) (old new : Writers W C P) → ((values : List ℤ) → step ≢ Solution values) → IsSpelled Two step → IsKept outs certs model old → IsLineTaken certs step old new → IsKept outs certs model new
  line-kept step old new other spelled kept line =
      moved outs certs model new.cert old.out new.out old.alone new.alone old.last.now new.last.now (taken old ++ step ∷ []) (taken new) (at_first old) (at_first new)
      line.same_rest.out line.same_rest.alone (ap (λ (l : MutBor (Option (List ℤ))). l.now) line.same_rest.last) line.taken line.same_rest.first
      (kept-line outs certs model old.cert new.cert old.out old.alone old.last.now (taken old) (at_first old) step kept other spelled line.same_version line.was_open line.counted line.room line.line)

  -- the steps that were taken are few
  pub line-few : (step : Step) (old new : Writers W C P) → IsKept outs certs model old → IsLineTaken certs step old new → length (taken new) < 10 ^ 18
  line-few step old new kept line =
      let count = (kept.cert_in_step line.was_open).counted in
      let more = ap length line.taken in
      omega (arith, line.room.1, length-append (taken old) (step ∷ []))

  -- a solution that waits for the end, its line flushed
  pub held-kept : (values : List ℤ) (old mid new : Writers W C P) → old.alone ≡ true → IsAssignment model values → IsSpelled Two (Solution values) → IsKept outs certs model old → IsLineTaken certs (Solution values) old mid
      → Keeps (cert_contents certs mid.cert) (cert_contents certs new.cert) → (stage_of new.cert ≡ Open → step_count new.cert ≡ step_count mid.cert) → version_of new.cert ≡ version_of mid.cert
      → new.out ≡ mid.out → new.alone ≡ mid.alone → new.last.now ≡ Some values → at_first new ≡ at_first mid → new.taken ≡ mid.taken → IsKept outs certs model new
  held-kept values old mid new alone assignment spelled kept line nothing counted version out_is alone_is last_is first_is taken_is =
      let A : Bool → Type 0 = λ b. IsStandingKept outs certs model old.cert old.out b old.last.now (taken old) (at_first old) in
      moved outs certs model new.cert old.out new.out true new.alone (Some values) new.last.now (taken old ++ Solution values ∷ []) (taken new) (at_first old) (at_first new)
      (out_is ∙ line.same_rest.out) (alone_is ∙ line.same_rest.alone ∙ alone) last_is (ap taken_by taken_is ∙ line.taken) (first_is ∙ line.same_rest.first)
      (kept-solution outs certs model old.cert new.cert old.out old.out true old.last.now (Some values) (taken old) (at_first old) values (subst A alone kept) spelled (version ∙ line.same_version) line.was_open
      (λ stays. counted stays ∙ line.counted) line.room (Appends-kept (cert_contents certs old.cert) (cert_contents certs mid.cert) (cert_contents certs new.cert) (step_line (Solution values)) line.line nothing) assignment
      (λ o front _. front) (λ o _ opened step. out-held model (found_by model (taken old)) values o (out_contents outs old.out) (has_printed old.out) old.last.now (step opened)))

  -- a solution that is printed, its line flushed
  pub printed-kept : (values : List ℤ) (old mid new : Writers W C P) → old.alone ≡ false → IsSpelled Two (Solution values) → IsKept outs certs model old → IsLineTaken certs (Solution values) old mid
      → Keeps (cert_contents certs mid.cert) (cert_contents certs new.cert) → (stage_of new.cert ≡ Open → step_count new.cert ≡ step_count mid.cert) → version_of new.cert ≡ version_of mid.cert
      → IsPrinted outs model values (stage_of new.cert ≡ Open) mid.out new.out → new.alone ≡ mid.alone → new.last ≡ mid.last → at_first new ≡ at_first mid → new.taken ≡ mid.taken → IsKept outs certs model new
  printed-kept values old mid new alone spelled kept line nothing counted version printed alone_is last_is first_is taken_is =
      let A : Bool → Type 0 = λ b. IsStandingKept outs certs model old.cert old.out b old.last.now (taken old) (at_first old) in
      let O : Printer W → Type 0 = λ p. IsPrinted outs model values (stage_of new.cert ≡ Open) p new.out in
      let behind : IsPrinted outs model values (stage_of new.cert ≡ Open) old.out new.out = subst O line.same_rest.out printed in
      moved outs certs model new.cert new.out new.out false new.alone old.last.now new.last.now (taken old ++ Solution values ∷ []) (taken new) (at_first old) (at_first new)
      refl (alone_is ∙ line.same_rest.alone ∙ alone) (ap (λ (l : MutBor (Option (List ℤ))). l.now) last_is ∙ (ap (λ (l : MutBor (Option (List ℤ))). l.now) line.same_rest.last)) (ap taken_by taken_is ∙ line.taken) (first_is ∙ line.same_rest.first)
      (kept-solution outs certs model old.cert new.cert old.out new.out false old.last.now old.last.now (taken old) (at_first old) values (subst A alone kept) spelled (version ∙ line.same_version) line.was_open
      (λ is_so. counted is_so ∙ line.counted) line.room (Appends-kept (cert_contents certs old.cert) (cert_contents certs mid.cert) (cert_contents certs new.cert) (step_line (Solution values)) line.line nothing) kept.assignment
      (λ o front whole. elim (cases_Bool (is_open old.out)) [
        | inl opened ↦ front-printed model (found_by model (taken old)) values o (out_contents outs old.out) (out_contents outs new.out) (whole opened) behind.front
        | inr closed ↦ front-found model false (found_by model (taken old)) values o (out_contents outs new.out) (front-kept o (out_contents outs old.out) (out_contents outs new.out) (shown_all model (found_by model (taken old))) front (behind.nothing closed))
      ])
      (λ o is_so opened step.
      let known = behind.whole is_so opened in
      let B : Bool → Type 0 = λ b. IsOutInStep model false (found_by model (taken old) ++ values ∷ []) o (out_contents outs new.out) b old.last.now in
      subst B (sym known.2) (out-printed model (found_by model (taken old)) values o (out_contents outs old.out) (out_contents outs new.out) (has_printed old.out) old.last.now (step known.0) known.1)))

  -- the text in front of the steps stands
  pub begun-kept : (cert : StepWriter C) (old : Writers W C P) → IsUnwritten outs certs old → version_of cert ≡ Two → step_count cert ≡ 0
      → Appends (cert_contents certs old.cert) (cert_contents certs cert) (opening_in model old) → IsKept outs certs model (record old { cert = cert })
  begun-kept cert old fresh version none header =
      moved outs certs model cert old.out old.out old.alone old.alone None old.last.now [] (taken old) (at_first old) (at_first old)
      refl refl fresh.none_waits fresh.none_taken refl
      (kept-begun outs certs model old.cert cert old.out old.alone (at_first old) fresh.same_cert fresh.same_out fresh.none_shown version none header)

  -- a solution that waits for the end, whether or not its line was flushed
  pub flushed-held : (step : Step) (values : List ℤ) (old mid waiting new : Writers W C P) → step ≡ Solution values → old.alone ≡ true → AllAccepted model (taken old ++ step ∷ []) → IsSpelled Two step → IsKept outs certs model old → IsLineTaken certs step old mid
      → (waiting ≡ record mid { last = waiting.last }) × (waiting.last.now ≡ Some values) → Keeps (cert_contents certs waiting.cert) (cert_contents certs new.cert) → (stage_of new.cert ≡ Open → step_count new.cert ≡ step_count waiting.cert)
      → (cert_name new.cert ≡ cert_name waiting.cert) × (version_of new.cert ≡ version_of waiting.cert) → IsRestSame waiting new × (new.taken ≡ waiting.taken) → IsKept outs certs model new
  flushed-held step values old mid waiting new is alone accepted spelled kept line waits nothing counted same rest =
      let A : Step → Type 0 = λ s. AllAccepted model (taken old ++ s ∷ []) in
      let S : Step → Type 0 = λ s. IsSpelled Two s in
      let L : Step → Type 0 = λ s. IsLineTaken certs s old mid in
      let cert : waiting.cert ≡ mid.cert = ap (λ (w : Writers W C P). w.cert) waits.0 in
      let K : StepWriter C → Type 0 = λ w. Keeps (cert_contents certs w) (cert_contents certs new.cert) in
      held-kept values old mid new alone (assignment-of outs certs model (taken old) values (subst A is accepted)) (subst S is spelled) kept (subst L is line)
      (subst K cert nothing) (λ stays. counted stays ∙ ap step_count cert) (same.1 ∙ ap version_of cert)
      (rest.0.out ∙ ap (λ (w : Writers W C P). w.out) waits.0) (rest.0.alone ∙ ap (λ (w : Writers W C P). w.alone) waits.0) (ap (λ (l : MutBor (Option (List ℤ))). l.now) rest.0.last ∙ waits.1)
      (rest.0.first ∙ ap (λ (w : Writers W C P). at_first w) waits.0) (rest.1 ∙ ap (λ (w : Writers W C P). w.taken) waits.0)

  -- a solution whose line could not be flushed
  pub unflushed-kept : (step : Step) (values : List ℤ) (old mid new : Writers W C P) → step ≡ Solution values → old.alone ≡ false → IsSpelled Two step → IsKept outs certs model old → IsLineTaken certs step old mid
      → Keeps (cert_contents certs mid.cert) (cert_contents certs new.cert) → stage_of new.cert ≡ Shut
      → (cert_name new.cert ≡ cert_name mid.cert) × (version_of new.cert ≡ version_of mid.cert) → IsRestSame mid new × (new.taken ≡ mid.taken) → IsKept outs certs model new
  unflushed-kept step values old mid new is alone spelled kept line nothing shut same rest =
      let S : Step → Type 0 = λ s. IsSpelled Two s in
      let L : Step → Type 0 = λ s. IsLineTaken certs s old mid in
      printed-kept values old mid new alone (subst S is spelled) kept (subst L is line) nothing (λ stays. absurd (shut_open (sym shut ∙ stays))) same.1
      (IsPrinted-none outs certs model values (stage_of new.cert ≡ Open) mid.out new.out rest.0.out (λ stays. shut_open (sym shut ∙ stays))) rest.0.alone rest.0.last rest.0.first rest.1

  -- a solution that was printed, or a beginning of it
  pub shown-kept : (step : Step) (values : List ℤ) (old mid flushed new : Writers W C P) → step ≡ Solution values → old.alone ≡ false → IsSpelled Two step → IsKept outs certs model old → IsLineTaken certs step old mid
      → Keeps (cert_contents certs mid.cert) (cert_contents certs flushed.cert) → step_count flushed.cert ≡ step_count mid.cert
      → (cert_name flushed.cert ≡ cert_name mid.cert) × (version_of flushed.cert ≡ version_of mid.cert) → IsRestSame mid flushed × (flushed.taken ≡ mid.taken)
      → (new.cert ≡ flushed.cert) × IsAllSame flushed new → IsPrinted outs model values ⊤ flushed.out new.out → IsKept outs certs model new
  shown-kept step values old mid flushed new is alone spelled kept line nothing counted same rest still printed =
      let S : Step → Type 0 = λ s. IsSpelled Two s in
      let L : Step → Type 0 = λ s. IsLineTaken certs s old mid in
      let K : StepWriter C → Type 0 = λ w. Keeps (cert_contents certs mid.cert) (cert_contents certs w) in
      let O : Printer W → Type 0 = λ p. IsPrinted outs model values (stage_of new.cert ≡ Open) p new.out in
      let behind : IsPrinted outs model values (stage_of new.cert ≡ Open) flushed.out new.out = record { same = printed.same; front = printed.front; nothing = printed.nothing; whole = λ _ opened. printed.whole tt opened } in
      printed-kept values old mid new alone (subst S is spelled) kept (subst L is line) (subst K (sym still.0) nothing) (λ _. ap step_count still.0 ∙ counted) (ap version_of still.0 ∙ same.1)
      (subst O rest.0.out behind) (still.1.alone ∙ rest.0.alone) (still.1.last ∙ rest.0.last) (still.1.first ∙ rest.0.first) (still.1.taken ∙ rest.1)

  same_origin : (old new : Writers W C P) → IsRestSame old new → IsUntold old new → cert_name new.cert ≡ cert_name old.cert → origin new ≡ origin old
  same_origin old new rest untold name = rw (rest.first, rest.alone, rest.out, untold.0, name) refl

  -- the line of a step that is no solution, taken or not
  pub line-step : (step : Step) (old new : Writers W C P) (result : Result Unit Fault) → ((values : List ℤ) → step ≢ Solution values) → IsSpelled Two step → IsKept outs certs model old
      → OnOk result (IsLineTaken certs step old new) → OnErr result (IsLineRefused certs step old new) → IsUntold old new
      → IsLogged step old new × OnOk result (taken new ≡ taken old ++ step ∷ []) × OnOk result (length (taken new) < 10 ^ 18) × IsKept outs certs model new × (origin new ≡ origin old)
  line-step step old new (Ok v) other spelled kept line refused untold = (inr line.taken, line.taken, line-few step old new kept line, line-kept step old new other spelled kept line, same_origin old new line.same_rest untold line.same_cert)
  line-step step old new (Err e) other spelled kept line refused untold = (inl (ap taken_by refused.taken), tt, tt, refused-kept step old new kept refused, same_origin old new refused.same_rest untold refused.same_cert)
