-- What a fault leaves.
use Rattle.std.proofs.Common.{◌≡◌, ℕ, ◌==◌, not, Bool, List, [], ◌++◌, length, Option, Result, Ok, Err, IfSome, IfOk, IfErr, refl, sym, ap, ◌∙◌, subst, inl, inr}
use Rattle.std.specs.Result.{IsErrAnd}
use Rattle.std.specs.Borrow.{GName}
use Rattle.std.specs.Io.KnownBytes.{Appends}
use Rattle.fzn_streams.specs.Output.{AppendsFront}
use Rattle.fzn_streams.proofs.CallerLemmas.{Appends-then, front-none}
use Rattle.fzn_meaning.specs.declared.model.Goal.{Goal}
use Rattle.fzn_meaning.specs.declared.model.Model.{Model}
use Rattle.fzn_meaning.specs.WellFormed.{IsWellFormed}
use Rattle.fzn_cert.specs.declared.step.Step.{Step}
use Rattle.fzn_cert.specs.Accepted.{AllAccepted}
use Rattle.fzn_cert.specs.Spelling.{end_line}
use Rattle.fzn_cert.specs.Writer.{contents_of as cert_contents}
use Rattle.fzn_cert.proofs.SoundLaws.{accepted-proper}
use Rattle.fzn_strategy.specs.declared.learn.Learn.{Learn}
use Rattle.fzn_state.specs.declared.fault.Fault.{Fault}
use Rattle.fzn_state.specs.declared.fault.Fault.TheVariants as engine
use Rattle.fzn_engine.specs.declared.limits.Limits.{Limits}
use Rattle.fzn_engine.specs.Outcome.{IsOutcome}
use Rattle.fzn_printer.specs.declared.printer.Ending.{Ending}
use Rattle.fzn_printer.specs.declared.printer.Printer.{Printer}
use Rattle.fzn_printer.specs.Printer.{out_contents, is_open, has_printed}
use Rattle.fzn_printer.specs.Shown.{ending_text, is_closed}
use Rattle.fzn_solver.specs.declared.writers.Writers.{Writers}
use Rattle.fzn_solver.specs.FaultsFrom.{fault_of_model, fault_of_engine}
use Rattle.fzn_solver.specs.Opening.{opening_of, IsOpening}
use Rattle.fzn_solver.specs.Searched.{IsAnswerOfEach, IsLeftOfEach}
use Rattle.fzn_solver.specs.Standing.{found_by, is_alone, early, late, begun_certificate, certificate, shown_all, AreLinesStanding}
use Rattle.fzn_reading.specs.declared.fault.ModelFault.{ModelFault}
use Rattle.fzn_reading.specs.declared.fault.ModelFault.TheVariants as reading
use Rattle.fzn_reading.specs.Reads.{Answers, States}
use Rattle.fzn_options.specs.declared.solve.Options.{Options}
use Rattle.fzn_solver.specs.declared.fault.RunFault.{RunFault}
use Rattle.fzn_solver.specs.declared.fault.RunFault.TheVariants as run
use Rattle.fzn_engine.specs.declared.report.Report.{Report}
use Rattle.fzn_solver.specs.Run.{IsRun, IsRunFault}
use Rattle.fzn_solver.specs.Left.{HasLines, IsStopped, IsLater, IsLeftByRun}
use Rattle.fzn_solver.specs.Writers.{taken, at_first, opening_in, origin, IsUnwritten, IsKept, IsUnbegun, IsUnclosed}
use Rattle.fzn_solver.proofs.StandingLemmas.{standing-refused}
use Rattle.fzn_solver.proofs.WritersLemmas.{Keeps-same}
use Rattle.fzn_solver.proofs.ClosedLemmas.{answer-front}
use Rattle.fzn_solver.proofs.OpenedLemmas.{steps-verdict, outcome-opened, answer-opened, proper-opened, exhausted-opened, shown-opened, goal-opened}
use Rattle.fzn_solver.proofs.AnswerLemmas.{closed-refuted, answer-is}

-- an error that is this fault
pub error-is : {A : Type 0} (result : Result A RunFault) (fault : RunFault) (P : RunFault → Type 0) → IsErrAnd result (λ e. e ≡ fault) → P fault → IfErr result P
error-is (Ok value) fault P same p = tt
error-is (Err e) fault P same p = subst P (sym same) p

-- ---- the whole run

pub read-fault : (file : Option (List ℕ)) (options : Options) (out cert : Option (List ℕ)) (fault : ModelFault) → IfSome file (λ bytes. Answers bytes (Err fault)) → IsRunFault file options out out cert cert (fault_of_model fault)
unfolding IsRunFault
read-fault file options out cert (reading.File fault) right = (Keeps-same out, Keeps-same cert, right)
read-fault file options out cert reading.Memory right = inl (Keeps-same out, Keeps-same cert)
read-fault file options out cert reading.Read right = (Keeps-same out, Keeps-same cert)

-- want of memory before the search begins
pub memory-fault : (file : Option (List ℕ)) (options : Options) (out cert : Option (List ℕ)) → IsRunFault file options out out cert cert run.Memory
unfolding IsRunFault
memory-fault file options out cert = inl (Keeps-same out, Keeps-same cert)

pub later-fault : (file : Option (List ℕ)) (options : Options) (out_old out_new cert_old cert_new : Option (List ℕ)) (model : Model) (fault : RunFault) → States file model → IsLeftByRun model options out_old out_new cert_old cert_new fault → IsRunFault file options out_old out_new cert_old cert_new fault
unfolding IsRunFault
later-fault file options out_old out_new cert_old cert_new model (run.File fault) states left = absurd left.0
later-fault file options out_old out_new cert_old cert_new model run.Read states left = absurd left.0
later-fault file options out_old out_new cert_old cert_new model run.Memory states left = inr (model, states, left)
later-fault file options out_old out_new cert_old cert_new model run.WriteOutput states left = (model, states, left)
later-fault file options out_old out_new cert_old cert_new model run.WriteCert states left = (model, states, left)
later-fault file options out_old out_new cert_old cert_new model run.StepTooLong states left = (model, states, left)

pub each-fault : {A : Type 0} (result : Result A RunFault) (file : Option (List ℕ)) (options : Options) (out_old out_new cert_old cert_new : Option (List ℕ)) (model after : Model) (opening : List ℕ)
    → States file model → IsWellFormed model → IsOpening options.derive model after opening → IfErr result (IsLeftOfEach options after opening out_old out_new cert_old cert_new)
    → IfErr result (IsRunFault file options out_old out_new cert_old cert_new)
unfolding IsLeftOfEach
each-fault (Ok value) file options out_old out_new cert_old cert_new model after opening states formed opened left = tt
each-fault (Err fault) file options out_old out_new cert_old cert_new model after opening states formed opened left = later-fault file options out_old out_new cert_old cert_new model fault states (left model formed opened)

pub each-ran : (result : Result Report RunFault) (file : Option (List ℕ)) (options : Options) (out_old out_new cert_old cert_new : Option (List ℕ)) (model after : Model) (opening : List ℕ)
    → States file model → IsWellFormed model → IsOpening options.derive model after opening → IfOk result (IsAnswerOfEach options after opening out_old out_new cert_old cert_new)
    → IfOk result (IsRun file options out_old out_new cert_old cert_new)
unfolding IsAnswerOfEach
each-ran (Ok report) file options out_old out_new cert_old cert_new model after opening states formed opened answer = record { model = model; states = states; answer = answer model formed opened }
each-ran (Err fault) file options out_old out_new cert_old cert_new model after opening states formed opened answer = tt

later : (fault : Fault) → IsLater (fault_of_engine fault)
later engine.Memory = tt
later engine.WriteOutput = tt
later engine.WriteCert = tt
later engine.StepTooLong = tt

module _ {W C P : Type 0} (outs : W → Option (List ℕ)) (certs : C → Option (List ℕ)) (model : Model) (options : Options) where
  abbrev Left : Writers W C P → Writers W C P → Fault → Type 0
  Left before after fault =
      IsLeftOfEach options model (opening_in model before) (out_contents outs before.out) (out_contents outs after.out) (cert_contents certs before.cert) (cert_contents certs after.cert) (fault_of_engine fault)

  certs-first : (before now : Writers W C P) (fresh : IsUnwritten outs certs before) → origin now ≡ origin before → certs (at_first now).1 ≡ cert_contents certs before.cert
  certs-first before now fresh same =
      ap (λ (o : (W × C × Option (List ℕ)) × Bool × GName × GName × GName). certs o.0.1) same ∙ sym fresh.same_cert

  outs-first : (before now : Writers W C P) (fresh : IsUnwritten outs certs before) → origin now ≡ origin before → outs (at_first now).0 ≡ out_contents outs before.out
  outs-first before now fresh same =
      ap (λ (o : (W × C × Option (List ℕ)) × Bool × GName × GName × GName). outs o.0.0) same ∙ sym fresh.same_out

  opening-first : (before now : Writers W C P) → origin now ≡ origin before → opening_in model now ≡ opening_in model before
  opening-first before now same = ap (λ (o : (W × C × Option (List ℕ)) × Bool × GName × GName × GName). opening_of model o.0.2) same

  -- the steps that were taken, with their lines and the solutions that are shown
  stopped-by : (before now : Writers W C P) (after_cert after_out : Option (List ℕ)) (file : Model) → IsWellFormed file → IsOpening options.derive file model (opening_in model before) → IsWellFormed model → IsUnwritten outs certs before → before.alone ≡ is_alone model.goal options.all → origin now ≡ origin before → AllAccepted model (taken now)
      → AreLinesStanding model (opening_in model now) now.alone (taken now) (certs (at_first now).1) after_cert (outs (at_first now).0) after_out → IsStopped file options (out_contents outs before.out) after_out (cert_contents certs before.cert) after_cert
  stopped-by before now after_cert after_out file file_formed opened formed fresh is same all_accepted standing =
      let steps = taken now in
      let found = found_by model steps in
      let opening = opening_in model before in
      let H : List ℕ → Type 0 = λ t. Appends (certs (at_first now).1) after_cert (begun_certificate t steps ++ standing.more) in
      let K : Option (List ℕ) → Type 0 = λ o. Appends o after_cert (begun_certificate opening steps ++ standing.more) in
      let O : Option (List ℕ) → Type 0 = λ o. AppendsFront o after_out (shown_all model (early now.alone found)) in
      let A : Bool → Type 0 = λ b. AppendsFront (out_contents outs before.out) after_out (shown_all model (early b found)) in
      let G : Goal → Type 0 = λ goal. AppendsFront (out_contents outs before.out) after_out (shown_all model (early (is_alone goal options.all) found)) in
      let T : List ℕ → Type 0 = λ t. AppendsFront (out_contents outs before.out) after_out t in
      let front : G model.goal = subst A (ap (λ (o : (W × C × Option (List ℕ)) × Bool × GName × GName × GName). o.1) same ∙ is) (subst O (outs-first before now fresh same) standing.shown) in
      record {
        after = model;
        opening = opening;
        opened = opened;
        steps = steps;
        proper = proper-opened options.derive file model opening file_formed opened found (accepted-proper model steps formed all_accepted);
        lines = inr (standing.more, subst K (certs-first before now fresh same) (subst H (opening-first before now same) standing.lines));
        shown = subst T (shown-opened options.derive file model opening file_formed opened (early (is_alone file.goal options.all) found)) (subst G (goal-opened options.derive file model opening file_formed opened) front);
      }

  -- before the first step
  pub left-unbegun : (before after : Writers W C P) (fault : Fault) → IsWellFormed model → IsUnbegun certs model before after → Left before after fault
  unfolding IsLeftOfEach
  left-unbegun before after fault formed unbegun file file_formed opened =
      let opening = opening_in model before in
      let O : Printer W → Type 0 = λ p. AppendsFront (out_contents outs before.out) (out_contents outs p) (shown_all file (early (is_alone file.goal options.all) [])) in (
        later fault,
        inl (record {
          after = model;
          opening = opening;
          opened = opened;
          steps = [];
          proper = proper-opened options.derive file model opening file_formed opened [] (accepted-proper model [] formed tt);
          lines = inl (refl, unbegun.front);
          shown = subst O (sym unbegun.out) (front-none (out_contents outs before.out) (out_contents outs before.out) (shown_all file (early (is_alone file.goal options.all) [])) (Keeps-same (out_contents outs before.out)));
        }),
      )

  -- the lines of the steps stand
  pub lines-kept : (before now : Writers W C P) → IsUnwritten outs certs before → origin now ≡ origin before → IsKept outs certs model now → HasLines (opening_in model before) (taken now) (cert_contents certs before.cert) (cert_contents certs now.cert)
  lines-kept before now fresh same kept =
      let K : Option (List ℕ) → Type 0 = λ o. Appends o (cert_contents certs now.cert) (begun_certificate (opening_in model before) (taken now) ++ kept.standing.more) in
      let H : List ℕ → Type 0 = λ t. Appends (certs (at_first now).1) (cert_contents certs now.cert) (begun_certificate t (taken now) ++ kept.standing.more) in
      inr (kept.standing.more, subst K (certs-first before now fresh same) (subst H (opening-first before now same) kept.standing.lines))

  -- and after a fault at the end
  pub lines-unclosed : (before now after : Writers W C P) (closed : Bool) (fault : Fault) → IsUnwritten outs certs before → origin now ≡ origin before → IsKept outs certs model now → taken after ≡ taken now → IsUnclosed outs certs model closed now after fault
      → HasLines (opening_in model before) (taken after) (cert_contents certs before.cert) (cert_contents certs after.cert)
  lines-unclosed before now after closed fault fresh same kept same_taken (inl unfinished) =
      let L : List Step → Type 0 = λ steps. HasLines (opening_in model before) steps (cert_contents certs before.cert) (cert_contents certs after.cert) in
      let standing = standing-refused model (opening_in model now) now.alone (taken now) (certs (at_first now).1) (cert_contents certs now.cert) (cert_contents certs after.cert) (outs (at_first now).0) (out_contents outs now.out) (end_line closed) kept.standing unfinished.front in
      let K : Option (List ℕ) → Type 0 = λ o. Appends o (cert_contents certs after.cert) (begun_certificate (opening_in model before) (taken now) ++ standing.more) in
      let H : List ℕ → Type 0 = λ t. Appends (certs (at_first now).1) (cert_contents certs after.cert) (begun_certificate t (taken now) ++ standing.more) in
      subst L (sym same_taken) (inr (standing.more, subst K (certs-first before now fresh same) (subst H (opening-first before now same) standing.lines)))
  lines-unclosed before now after closed fault fresh same kept same_taken (inr (_, cut)) =
      let L : List Step → Type 0 = λ steps. HasLines (opening_in model before) steps (cert_contents certs before.cert) (cert_contents certs after.cert) in
      let in_step = kept.cert_in_step cut.was_open in
      let K : Option (List ℕ) → Type 0 = λ o. Appends o (cert_contents certs after.cert) (begun_certificate (opening_in model before) (taken now) ++ end_line closed) in
      let H : List ℕ → Type 0 = λ t. Appends (certs (at_first now).1) (cert_contents certs after.cert) (begun_certificate t (taken now) ++ end_line closed) in
      subst L (sym same_taken) (inr (
        end_line closed,
        subst K (certs-first before now fresh same)
            (subst H (opening-first before now same) (Appends-then (certs (at_first now).1) (cert_contents certs now.cert) (cert_contents certs after.cert) (begun_certificate (opening_in model now) (taken now)) (end_line closed) in_step.lines cut.end)),
      ))

  -- on the way
  pub left-on_way : (before now : Writers W C P) (fault : Fault) → IsWellFormed model → IsUnwritten outs certs before → before.alone ≡ is_alone model.goal options.all → origin now ≡ origin before → AllAccepted model (taken now) → IsKept outs certs model now → Left before now fault
  unfolding IsLeftOfEach
  left-on_way before now fault formed fresh alone same all_accepted kept file file_formed opened = (
    later fault,
    inl (stopped-by before now (cert_contents certs now.cert) (out_contents outs now.out) file file_formed opened formed fresh alone same all_accepted kept.standing),
  )

  -- at the end
  pub left-at_end : (before now after : Writers W C P) (fault : Fault) (learn : Learn) (limits : Limits) (nodes : ℕ) (ending : Ending) → IsWellFormed model → IsUnwritten outs certs before → before.alone ≡ is_alone model.goal options.all → origin now ≡ origin before → AllAccepted model (taken now)
      → IsOutcome model learn limits (taken now) nodes ending → IsKept outs certs model now → IsUnclosed outs certs model (is_closed ending) now after fault → Left before after fault
  unfolding IsLeftOfEach
  left-at_end before now after fault learn limits nodes ending formed fresh alone same all_accepted outcome kept (inl unfinished) file file_formed opened =
      let O : Printer W → Type 0 = λ p. AreLinesStanding model (opening_in model now) now.alone (taken now) (certs (at_first now).1) (cert_contents certs after.cert) (outs (at_first now).0) (out_contents outs p) in (
        later fault,
        inl (stopped-by before now (cert_contents certs after.cert) (out_contents outs after.out) file file_formed opened formed fresh alone same all_accepted
            (subst O (sym unfinished.out) (standing-refused model (opening_in model now) now.alone (taken now) (certs (at_first now).1) (cert_contents certs now.cert) (cert_contents certs after.cert) (outs (at_first now).0) (out_contents outs now.out) (end_line (is_closed ending)) kept.standing unfinished.front))),
      )
  left-at_end before now after fault learn limits nodes ending formed fresh alone same all_accepted outcome kept (inr (is_output, cut)) file file_formed opened =
      let steps = taken now in
      let found = found_by model steps in
      let closed = is_closed ending in
      let opening = opening_in model before in
      let in_step = kept.cert_in_step cut.was_open in
      let K : Option (List ℕ) → Type 0 = λ o. Appends o (cert_contents certs after.cert) (certificate opening steps closed) in
      let H : List ℕ → Type 0 = λ t. Appends (certs (at_first now).1) (cert_contents certs after.cert) (certificate t steps closed) in
      let O : Option (List ℕ) → Type 0 = λ o. AppendsFront o (out_contents outs after.out) (shown_all model (early now.alone found ++ late now.alone found) ++ ending_text closed (not (length found == 0))) in
      let A : Bool → Type 0 = λ b. AppendsFront (out_contents outs before.out) (out_contents outs after.out) (shown_all model (early b found ++ late b found) ++ ending_text closed (not (length found == 0))) in
      let T : List ℕ → Type 0 = λ t. AppendsFront (out_contents outs before.out) (out_contents outs after.out) t in
      let front = answer-front model now.alone closed found (outs (at_first now).0) (out_contents outs now.out) (out_contents outs after.out) (is_open now.out) (has_printed now.out) now.last.now (kept.out_in_step cut.was_open) kept.standing.shown cut.out.nothing cut.out.front in (
        later fault,
        inr (
          ap fault_of_engine is_output,
          record {
            after = model;
            opening = opening;
            opened = opened;
            steps = steps;
            closed = closed;
            written = subst K (certs-first before now fresh same)
                (subst H (opening-first before now same) (Appends-then (certs (at_first now).1) (cert_contents certs now.cert) (cert_contents certs after.cert) (begun_certificate (opening_in model now) steps) (end_line closed) in_step.lines cut.end));
            verdict = outcome-opened options.derive file model opening file_formed opened steps closed found
                (steps-verdict model steps closed all_accepted in_step.have_lines (closed-refuted model learn limits steps nodes ending outcome.ended.truly));
            proper = proper-opened options.derive file model opening file_formed opened found outcome.proper;
            exhausted = λ is_closed_so. exhausted-opened options.derive file model opening file_formed opened found (outcome.exhausted is_closed_so);
            shown = subst T (answer-is model options.all closed found ∙ answer-opened options.derive file model opening file_formed opened found closed options.all)
                (subst A (ap (λ (o : (W × C × Option (List ℕ)) × Bool × GName × GName × GName). o.1) same ∙ alone) (subst O (outs-first before now fresh same) front));
          },
        ),
      )
