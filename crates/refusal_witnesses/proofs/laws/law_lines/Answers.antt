use Rattle.command_model.specs.Asked.{text_asked}
use Rattle.refusal_witnesses.specs.Refused.{witnesses}
use Rattle.refusal_witnesses.proofs.LinesThere.{lines-of}
use Rattle.refusal_witnesses.proofs.AllLined.{lined}
use Rattle.refusal_witnesses.proofs.laws.law_lines.Goals as goal

pub returns : goal.returns
returns c = λ i command condition spelled told. lines-of i (witnesses text_asked i command condition) (lined i spelled command condition told)
