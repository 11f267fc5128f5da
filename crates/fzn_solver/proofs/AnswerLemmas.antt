-- The whole answer with its certificate.
use Rattle.std.proofs.Common.{◌≡◌, ◌≢◌, ℕ, ◌-◌, ◌<◌, ◌≤◌, ◌==◌, not, Bool, true, false, ℤ, List, [], ◌∷◌, ◌++◌, length, Option, Some, None, refl, sym, ap, ◌∙◌, subst, arith, append-nil}
use Rattle.std.specs.Borrow.{GName}
use Rattle.std.specs.Io.KnownBytes.{Appends}
use Rattle.std.proofs.Math.Nat.{le-max_right}
use Rattle.fzn_meaning.specs.declared.model.Goal.{Goal}
use Rattle.fzn_meaning.specs.declared.model.Goal.TheVariants.{Satisfy, Minimize, Maximize}
use Rattle.fzn_meaning.specs.declared.model.Model.{Model}
use Rattle.fzn_meaning.specs.Solutions.{declared_sets}
use Rattle.fzn_cert.specs.declared.step.Step.{Step}
use Rattle.fzn_cert.specs.Accepted.{AllAccepted, past_after}
use Rattle.fzn_cert.specs.Writer.{contents_of as cert_contents}
use Rattle.fzn_strategy.specs.declared.learn.Learn.{Learn}
use Rattle.fzn_engine.specs.declared.limits.Limits.{Limits}
use Rattle.fzn_engine.specs.declared.report.Report.{Report}
use Rattle.fzn_state.specs.Volume.{volume}
use Rattle.fzn_engine.specs.Outcome.{HasRoomForMore, IsReached, StopsTruly as EndsTrulyThere, IsOutcome}
use Rattle.fzn_printer.specs.declared.printer.Ending.{Ending}
use Rattle.fzn_printer.specs.declared.printer.Ending.TheVariants.{Complete, Unsatisfiable, NodeLimit, SolutionLimit}
use Rattle.fzn_printer.specs.Printer.{out_contents}
use Rattle.fzn_printer.specs.Answer.{answer_text}
use Rattle.fzn_printer.specs.Shown.{ending_text, is_closed}
use Rattle.fzn_solver.specs.declared.writers.Writers.{Writers}
use Rattle.fzn_solver.specs.Opening.{opening_of}
use Rattle.fzn_solver.specs.Searched.{IsAnswerOfEach}
use Rattle.fzn_solver.specs.Standing.{found_by, is_alone, early, late, certificate, shown_all}
use Rattle.fzn_solver.specs.Answer.{wanted, EndsTruly}
use Rattle.fzn_solver.specs.Writers.{taken, at_first, opening_in, origin, IsUnwritten, IsAnswerClosed}
use Rattle.fzn_solver.proofs.OpenedLemmas.{steps-verdict, outcome-opened, answer-opened, proper-opened, exhausted-opened, ends-opened, bounded-opened}
use Rattle.fzn_options.specs.declared.solve.Options.{Options}

-- ---- the text of the answer

pub answer-is : (model : Model) (all closed : Bool) (found : List (List ℤ)) →
    shown_all model (early (is_alone model.goal all) found ++ late (is_alone model.goal all) found) ++ ending_text closed (not (length found == 0)) ≡ answer_text model found closed all
answer-is model all closed found = by model.goal all refl
  where
    by : (goal : Goal) (b : Bool) → model.goal ≡ goal →
        shown_all model (early (is_alone goal b) found ++ late (is_alone goal b) found) ++ ending_text closed (not (length found == 0)) ≡ answer_text (record model { goal = goal }) found closed b
    by Satisfy b e = ap (λ (l : List (List ℤ)). shown_all model l ++ ending_text closed (not (length found == 0))) (append-nil found)
    by (Minimize var) true e = ap (λ (l : List (List ℤ)). shown_all model l ++ ending_text closed (not (length found == 0))) (append-nil found)
    by (Minimize var) false e = refl
    by (Maximize var) true e = ap (λ (l : List (List ℤ)). shown_all model l ++ ending_text closed (not (length found == 0))) (append-nil found)
    by (Maximize var) false e = refl

-- ---- how it ended

none-found : (found : List (List ℤ)) → length found ≡ 0 → found ≡ []
none-found [] e = refl
none-found (first ∷ found) e = absurd (omega arith)

some-found : (found : List (List ℤ)) → 0 < length found → found ≢ []
some-found found some none = let l = ap length none in absurd (omega arith)

pub ends-truly : (model : Model) (options : Options) (learn : Learn) (limits : Limits) (steps : List Step) (nodes : ℕ) (ending : Ending) → limits.nodes ≡ options.nodes → limits.solutions ≡ wanted options.all options.limit → EndsTrulyThere model learn limits steps nodes ending → EndsTruly model options (found_by model steps) nodes ending
ends-truly model options learn limits steps nodes Complete limit_is most truly =
    let H : Option ℕ → Type 0 = λ m. HasRoomForMore model.goal m (length (found_by model steps)) in
    (some-found (found_by model steps) truly.1, subst H most truly.2)
ends-truly model options learn limits steps nodes Unsatisfiable limit_is most truly = none-found (found_by model steps) truly.1
ends-truly model options learn limits steps nodes NodeLimit limit_is most truly =
    let H : Option ℕ → Type 0 = λ m. HasRoomForMore model.goal m (length (found_by model steps)) in
    (truly.0 ∙ limit_is, subst H most truly.2)
ends-truly model options learn limits steps nodes SolutionLimit limit_is most truly =
    let R : Option ℕ → Type 0 = λ m. IsReached model.goal m (length (found_by model steps)) in
    subst R most truly

pub closed-refuted : (model : Model) (learn : Learn) (limits : Limits) (steps : List Step) (nodes : ℕ) (ending : Ending) → EndsTrulyThere model learn limits steps nodes ending → is_closed ending ≡ true → (past_after model steps).refuted ≡ true
closed-refuted model learn limits steps nodes Complete truly closed = truly.0
closed-refuted model learn limits steps nodes Unsatisfiable truly closed = truly.0
closed-refuted model learn limits steps nodes NodeLimit truly closed = cc
closed-refuted model learn limits steps nodes SolutionLimit truly closed = cc

-- ---- all of it

module _ {W C P : Type 0} (outs : W → Option (List ℕ)) (certs : C → Option (List ℕ)) (model : Model) (options : Options) where
  pub answer-of : (before searched after : Writers W C P) (limits : Limits) (report : Report) → IsUnwritten outs certs before → before.alone ≡ is_alone model.goal options.all → origin searched ≡ origin before → limits.nodes ≡ options.nodes → limits.solutions ≡ wanted options.all options.limit
      → AllAccepted model (taken searched) → IsOutcome model options.learn limits (taken searched) report.nodes report.ending → report.solutions ≡ length (found_by model (taken searched)) → IsAnswerClosed outs certs model (is_closed report.ending) searched after
      → IsAnswerOfEach options model (opening_in model before) (out_contents outs before.out) (out_contents outs after.out) (cert_contents certs before.cert) (cert_contents certs after.cert) report
  unfolding IsAnswerOfEach
  answer-of before searched after limits report fresh alone same limit_is most all_accepted outcome count closed file formed opened =
      let steps = taken searched in
      let found = found_by model steps in
      let opening = opening_in model before in
      let same_opening : opening_in model searched ≡ opening = ap (λ (o : (W × C × Option (List ℕ)) × Bool × GName × GName × GName). opening_of model o.0.2) same in
      let is : searched.alone ≡ is_alone model.goal options.all = ap (λ (o : (W × C × Option (List ℕ)) × Bool × GName × GName × GName). o.1) same ∙ alone in
      let K : Option (List ℕ) → Type 0 = λ w. Appends w (cert_contents certs after.cert) (certificate opening steps (is_closed report.ending)) in
      let H : List ℕ → Type 0 = λ t. Appends (certs (at_first searched).1) (cert_contents certs after.cert) (certificate t steps (is_closed report.ending)) in
      let O : Option (List ℕ) → Type 0 = λ w. Appends w (out_contents outs after.out) (shown_all model (early searched.alone found ++ late searched.alone found) ++ ending_text (is_closed report.ending) (not (length found == 0))) in
      let A : Bool → Type 0 = λ b. Appends (out_contents outs before.out) (out_contents outs after.out) (shown_all model (early b found ++ late b found) ++ ending_text (is_closed report.ending) (not (length found == 0))) in
      let cert : certs (at_first searched).1 ≡ cert_contents certs before.cert = ap (λ (o : (W × C × Option (List ℕ)) × Bool × GName × GName × GName). certs o.0.1) same ∙ sym fresh.same_cert in
      let out : outs (at_first searched).0 ≡ out_contents outs before.out = ap (λ (o : (W × C × Option (List ℕ)) × Bool × GName × GName × GName). outs o.0.0) same ∙ sym fresh.same_out in
      let B : ℕ → Type 0 = λ limit. report.nodes ≤ limit in
      let V : ℕ → Type 0 = λ limit. volume (declared_sets model.vars) - 1 ≤ limit in
      let T : List ℕ → Type 0 = λ t. Appends (out_contents outs before.out) (out_contents outs after.out) t in
      record {
        after = model;
        opening = opening;
        opened = opened;
        steps = steps;
        certified = record {
          written = subst K cert (subst H same_opening closed.cert);
          verdict = outcome-opened options.derive file model opening formed opened steps (is_closed report.ending) found
              (steps-verdict model steps (is_closed report.ending) all_accepted closed.have_lines (closed-refuted model options.learn limits steps report.nodes report.ending outcome.ended.truly));
          printed = subst T (answer-is model options.all (is_closed report.ending) found ∙ answer-opened options.derive file model opening formed opened found (is_closed report.ending) options.all) (subst A is (subst O out closed.out));
        };
        proper = proper-opened options.derive file model opening formed opened found outcome.proper;
        exhausted = λ is_closed_so. exhausted-opened options.derive file model opening formed opened found (outcome.exhausted is_closed_so);
        solutions = count;
        ends = ends-opened options.derive file model opening formed opened options found report.nodes report.ending (ends-truly model options options.learn limits steps report.nodes report.ending limit_is most outcome.ended.truly);
        bounded = bounded-opened options.derive file model opening formed opened steps options report (record {
          by_limit = subst B limit_is outcome.ended.few_nodes;
          by_choices = λ plain enough is_limit. outcome.enough_nodes plain (subst V (sym limit_is) enough) is_limit;
          by_conflicts = outcome.ended.certified.nodes_by_conflicts;
          fresh = λ plain. outcome.ended.certified.fresh plain;
        });
      }

-- at first there is room for a solution
pub room-at_first : (goal : Goal) (all : Bool) (limit : Option ℕ) → HasRoomForMore goal (wanted all limit) 0
room-at_first Satisfy all (Some limit) = let more = le-max_right limit 1 in omega arith
room-at_first Satisfy true None = tt
room-at_first Satisfy false None = omega arith
room-at_first (Minimize var) all limit = tt
room-at_first (Maximize var) all limit = tt
