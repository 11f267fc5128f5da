use Rattle.fzn_headline.proofs.AgreeLemmas.{agrees}
use Rattle.fzn_headline.proofs.TruthLemmas.{run-prints, check-prints}
use Rattle.fzn_headline.proofs.law.headline.Goals as goal

pub returns : goal.returns
returns c =
    λ file options. record {
      run = λ printed certificate report ran. run-prints file printed certificate options report ran;
      check = λ printed certificate report call ran checked.
          agrees c.one_model.ensures c.one_outcome.ensures file printed certificate options report call.file_failed call.cert_failed call.out_failed call.printed call.result ran checked;
      whatever = λ certificate all call checked. check-prints file certificate all call.file_failed call.cert_failed call.out_failed call.printed call.result checked;
    }
