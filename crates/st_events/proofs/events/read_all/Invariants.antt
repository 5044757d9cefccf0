use Rattle.std.proofs.Common.{◌-◌, ◌≤◌, List, length}
use Rattle.token_model.specs.declared.kind.Dialect.TheVariants.{Second}
use Rattle.grammar_model.specs.Input.{Lexeme}
use Rattle.grammar_model.specs.PatternTokens.{IsLexedAs}
use Rattle.st_faults.specs.Forms.{form_of}
use Rattle.st_faults.proofs.Together.{Together}
use Rattle.st_events.specs.Steps.{run}
use Rattle.st_events.specs.Stacks.{machine_of}
use Rattle.st_events.proofs.Left.{Left}
use Rattle.st_events.proofs.events.read_all.Given as goal

abbrev pub invariant-tokens : goal.invariant-tokens
invariant-tokens l = record {
  inside : l.place ≤ length l.text;
  together : Together (form_of l.form) l.text l.place l.depth (machine_of l.reader.stack);
  left : (ts : List Lexeme) → IsLexedAs (form_of l.form) Second l.text ts → Left (form_of l.form) l.text l.place l.reader (run l.fn.reader ts);
}

abbrev pub decreases-tokens : goal.decreases-tokens
decreases-tokens l = length l.text - l.place
