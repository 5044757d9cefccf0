-- Bodies and images to which a rule is applied, step by step.
use Rattle.std.specs.Prelude.{◌≡◌, ◌⊎◌, ℕ, zero, suc, ◌<◌, List, [], ◌∷◌, length, map, true, false, Option, None, Some}
use Rattle.std.specs.List.{concat}
use Rattle.std.specs.Option.{ForSome}
use Rattle.rb_base.specs.Names.{name_at, text_eq}
use Rattle.tree_model.specs.Tree.{SequenceOf, map_sequence}
use Rattle.tree_model.specs.AllNames.{SequenceNames}
use Rattle.st_tree.specs.View.{sequence_of}
use Rattle.st_tree.specs.declared.tree.Sequence.{Sequence}
use Rattle.event_trees.specs.Naming.{Grows}
use Rattle.query_model.specs.Lines.{Text}
use Rattle.image_model.specs.Image.{EntryOf, DoItOf, ImageOf}
use Rattle.class_table.specs.declared.record.MethodRec.{MethodRec}
use Rattle.class_table.specs.declared.record.DoIt.{DoIt}
use Rattle.class_table.specs.Slots.{Slots}
use Rattle.class_table.specs.Changing.{changed_at}
use Rattle.class_table.specs.View.{image_of}
use Rattle.class_table.specs.Valid.{IsOrderly}
use Rattle.pattern_model.specs.Words.{text_pattern_words}
use Rattle.pattern_model.specs.Named.{map_pattern}
use Rattle.pattern_model.specs.Search.{all_matches}
use Rattle.pattern_model.specs.Rewritten.{RuleOf, rewritten_sequence}
use Rattle.patterns.specs.Names.{PatternNames}
use Rattle.patterns.specs.declared.tree.Rule.{Rule}
use Rattle.pattern_match.specs.Words.{number_words}
use Rattle.rewrite_model.specs.Notes.{equal_sequence}

-- the rule over texts
abbrev pub rule_of : List Text → Rule → RuleOf Text
rule_of names r = record { pattern = map_pattern (name_at names) r.pattern; replacement = map_pattern (name_at names) r.replacement }

-- each name in the rule has a text
pub record KnowsRule (names : List Text) (r : Rule) : Type 0 where
  pub pattern : PatternNames (λ n. n < length names) r.pattern
  pub replacement : PatternNames (λ n. n < length names) r.replacement

-- a body over texts, and what the rule makes of it
abbrev pub body_of : List Text → Sequence → SequenceOf Text
body_of names b = map_sequence (name_at names) (sequence_of b)

abbrev pub body_after : List Text → Rule → Sequence → SequenceOf Text
body_after names r b = rewritten_sequence text_pattern_words concat (rule_of names r) (body_of names b)

-- the rule makes another body of a body, comments counted, which is this one
pub record IsMade (names : List Text) (r : Rule) (b c : Sequence) : Type 0 where
  pub other : equal_sequence text_eq (body_of names b) (body_after names r b) ≡ false
  pub made : body_of names c ≡ body_after names r b
  pub known : SequenceNames (λ n. n < length names) (sequence_of c)

-- there is another body, or none where the rule makes an equal one
abbrev pub Becomes : List Text → Rule → Sequence → Option Sequence → Type 0
Becomes names r b None = equal_sequence text_eq (body_of names b) (body_after names r b) ≡ true
Becomes names r b (Some c) = IsMade names r b c

-- the pattern of the rule matches nowhere in a body
abbrev pub HasNoMatch : List Text → Rule → Sequence → Type 0
HasNoMatch names r b = all_matches (number_words names) r.pattern (sequence_of b) ≡ []

-- there is a copy of a method of a user, without its source, or none where it is one of the kernel or nothing matches in it
abbrev pub IsCopy : List Text → Rule → Option MethodRec → Option MethodRec → Type 0
IsCopy names r o None = ForSome o (λ (m : MethodRec). (m.kernel ≡ true) ⊎ HasNoMatch names r m.tree.body)
IsCopy names r o (Some c) = (m : MethodRec) × (o ≡ Some m) × (m.kernel ≡ false) × (c ≡ record m { source = [] })

-- there is a copy of the body of a do-it, or none where nothing matches in it
abbrev pub IsBodyCopy : List Text → Rule → Option DoIt → Option Sequence → Type 0
IsBodyCopy names r o None = ForSome o (λ (d : DoIt). HasNoMatch names r d.body)
IsBodyCopy names r o (Some b) = (d : DoIt) × (o ≡ Some d) × (b ≡ d.body)
