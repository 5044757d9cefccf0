use Rattle.use_index.proofs.Looked.{method-sent, doit-sent, method-named, doit-named, method-implemented}
use Rattle.use_index.proofs.laws.law_rows.Goals as goal

pub returns : goal.returns
returns c = record {
  method_sent = λ names place m n. method-sent n names place m;
  doit_sent = λ names place b n. doit-sent n names place b;
  method_named = λ names place m n. method-named n names place m;
  doit_named = λ names place b n. doit-named n names place b;
  implemented = λ names m n. method-implemented n names m;
}
