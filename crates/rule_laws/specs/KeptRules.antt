-- What is wanted of a rule with a certificate, so that it keeps runs.
use Rattle.std.specs.Prelude.{◌≡◌, None}
use Rattle.token_model.specs.declared.kind.Dialect.TheVariants.{Second}
use Rattle.image_model.specs.Image.{ImageOf}
use Rattle.image_model.specs.Words.{text_words}
use Rattle.image_model.specs.Valid.{IsValid, IsFileable}
use Rattle.run_model.specs.Renamings.{no_renaming}
use Rattle.run_model.specs.Matched.{AreMatched}
use Rattle.file_model.specs.Fileable.{reading_of}
use Rattle.file_rereading.specs.Rereading.{KernelFirst}
use Rattle.pattern_model.specs.Matches.{IsLawful}
use Rattle.certified_model.specs.Marks.{Text}
use Rattle.rule_kept.specs.PatternComments.{HasComments}
use Rattle.rule_model.specs.RuleCommands.{RuleCommand, rule_effect, first_false_of_rule}

-- the texts of a rule spell it: its pattern is lawful, and the comments in its replacement are comments
pub record IsSpelledRule (c : RuleCommand) : Type 0 where
  pub lawful : IsLawful c.rule.pattern
  pub comments : HasComments c.rule.replacement

-- In each valid image where no condition of the command is false, the image after is valid, can be written where the image before can, has the kernel first where that has, and is matched by it with nothing renamed.
pub record RuleKeepsRuns (kernel : ImageOf Text) (c : RuleCommand) : Type 0 where
  pub valid : (i : ImageOf Text) → IsValid text_words (reading_of Second kernel) i → first_false_of_rule c i ≡ None → IsValid text_words (reading_of Second kernel) (rule_effect c i)
  pub fileable : (i : ImageOf Text) → IsValid text_words (reading_of Second kernel) i → IsFileable (reading_of Second kernel) i → first_false_of_rule c i ≡ None → IsFileable (reading_of Second kernel) (rule_effect c i)
  pub first : (i : ImageOf Text) → IsValid text_words (reading_of Second kernel) i → KernelFirst kernel i → first_false_of_rule c i ≡ None → KernelFirst kernel (rule_effect c i)
  pub matched : (i : ImageOf Text) → first_false_of_rule c i ≡ None → AreMatched i (rule_effect c i) no_renaming
