-- The part that is read from a source is the one that stands there.
use Rattle.std.proofs.Common.{◌≡◌, ℕ, List, Option, None, Some, option_map, refl}
use Rattle.std.specs.Prelude.{false}
use Rattle.token_model.specs.declared.kind.Dialect.TheVariants.{Second}
use Rattle.grammar_model.specs.Whole.{Method}
use Rattle.grammar_model.specs.Checks as grammar
use Rattle.grammar_model.specs.Checks.{Fault}
use Rattle.grammar_model.specs.Spanned.{SpannedSequence, SpannedMethod, plain_method}
use Rattle.grammar_model.specs.Spans.{Span}
use Rattle.grammar_model.specs.Spelling.{SpellsMethodAt, HasFirstFault}
use Rattle.grammar_model.proofs.Texts.{no_fault_Method}
use Rattle.st_tree.specs.declared.path.Part as declared
use Rattle.st_tree.specs.declared.path.Part.TheVariants as part
use Rattle.st_faults.specs.Faults.{IsRefused}
use Rattle.st_faults.specs.declared.fault.ParseFault.{ParseFault}
use Rattle.st_faults.specs.declared.fault.ParseFault.TheVariants.{Lexical, Expected, AssignsFixed, TooDeep, PrimitiveInUser, DuplicateName, Memory}
use Rattle.event_spans.specs.Answers as read
use Rattle.command_model.specs.Located.{HasPart}
use Rattle.part_questions.specs.Parts.{part_of}

-- the part of the program has the span
pub part_there : (s : SpannedSequence) (span : Span) (p : Option declared.Part) → read.HasPart s span p → HasPart s span (option_map part_of p)
part_there s span None h = h
part_there s span (Some (part.Expression path)) h = h
part_there s span (Some (part.Run path first count)) h = h

-- a source with a fault spells no method of a user
pub none_spelled : (source : List ℕ) (f : ParseFault) → (f ≡ Memory → ⊥) → IsRefused (Method false) source f → (m : SpannedMethod) → ¬ SpellsMethodAt Second false source m
none_spelled source f other r m spells = by f other r
  where
    gone : (v : Fault) → HasFirstFault Second (Method false) source v → ⊥
    gone v has = no_fault_Method Second false source (plain_method m) v (record { spanned = m; spells = spells; same = refl }) has

    by : (f : ParseFault) → (f ≡ Memory → ⊥) → IsRefused (Method false) source f → ⊥
    by (Lexical fault) n h = gone (grammar.Lexical fault) h
    by (Expected what at) n h = gone (grammar.Expected what at) h
    by (AssignsFixed at) n h = gone (grammar.AssignsFixed at) h
    by (TooDeep at) n h = gone (grammar.TooDeep at) h
    by (PrimitiveInUser at) n h = gone (grammar.PrimitiveInUser at) h
    by (DuplicateName at) n h = gone (grammar.DuplicateName at) h
    by Memory n h = n refl
