use Rattle.change_file_laws.proofs.Counted.{doits_counted}
use Rattle.change_file_laws.proofs.laws.counts_no_more_doits_than_bytes.Goals as goal

pub returns : goal.returns
returns c = λ dialect prelude text kernel image is none read. doits_counted dialect prelude text kernel image is none read
