-- What a run and a check print is a true answer.
use Rattle.std.proofs.Common.{◌≡◌, ℕ, ◌++◌, Bool, [], List, take, Result, Ok, Err, refl, sym, ◌∙◌, append-nil}
use Rattle.std.proofs.lemmas.List.{append_cancel_left}
use Rattle.fzn_checker.specs.declared.certificate.Verdict.{Verdict}
use Rattle.fzn_checker.specs.declared.fault.CheckFault.{CheckFault}
use Rattle.fzn_checker.specs.declared.fault.CheckFault.TheVariants.{File, Refused, NotVersionOne, Memory, Read, WriteOutput, WriteCert}
use Rattle.fzn_engine.specs.declared.report.Report.{Report}
use Rattle.fzn_printer.specs.Answer.{answer_text}
use Rattle.fzn_printer.specs.Shown.{is_closed}
use Rattle.fzn_solver.specs.Standing.{found_by}
use Rattle.fzn_options.specs.declared.solve.Options.{Options}
use Rattle.fzn_headline.specs.Headline.{RanWell, Checked, PrintsTruth, PrintsTrueAnswer}
use Rattle.fzn_headline.proofs.AgreeLemmas.{call_of}

pub run-prints : (file printed certificate : List ℕ) (options : Options) (report : Report) → RanWell file options printed certificate report → PrintsTruth file options printed report
run-prints file printed certificate options report (out, cert, ran) =
    let found = found_by ran.answer.after ran.answer.steps in
    record {
      model = ran.model;
      found = found;
      answer = record {
        states = ran.states;
        proper = ran.answer.proper;
        exhausted = ran.answer.exhausted;
        is_text = append_cancel_left out printed (answer_text ran.model found (is_closed report.ending) options.all) ran.answer.certified.printed;
      };
      count = ran.answer.solutions;
      ends = ran.answer.ends;
    }

-- nothing is printed where the bytes are as they were
nothing : (out printed : List ℕ) → out ++ printed ≡ out → printed ≡ []
nothing out printed kept = append_cancel_left out printed [] (kept ∙ sym (append-nil out))

module _ (file certificate : List ℕ) (all file_failed cert_failed out_failed : Bool) (printed : List ℕ) where
  pub check-prints : (result : Result Verdict CheckFault) → Checked file certificate all (call_of file_failed cert_failed out_failed printed result) → PrintsTrueAnswer file all printed result
  check-prints (Ok verdict) (out, answered, _, _) = (
    answered.model,
    answered.found,
    record {
      states = answered.shows.states;
      proper = answered.shows.proper;
      exhausted = answered.shows.exhausted;
      is_text = append_cancel_left out printed (answer_text answered.model answered.found verdict.closed all) answered.printed;
    },
  )
  check-prints (Err (File fault)) (out, _, wrong, _) = nothing out printed wrong.0
  check-prints (Err (Refused line refusal)) (out, _, wrong, _) = nothing out printed wrong.0
  check-prints (Err NotVersionOne) (out, _, wrong, _) = absurd wrong
  check-prints (Err Memory) (out, _, wrong, _) = nothing out printed wrong
  check-prints (Err Read) (out, _, wrong, _) = nothing out printed wrong
  check-prints (Err WriteOutput) (out, _, (model, found, closed, shows, (count, within, begun)), _) =
      let text = answer_text model found closed all in
      (model, found, closed, text, record { states = shows.states; proper = shows.proper; exhausted = shows.exhausted; is_text = refl }, count, append_cancel_left out printed (take count text) begun)
  check-prints (Err WriteCert) (out, _, wrong, _) = absurd wrong
