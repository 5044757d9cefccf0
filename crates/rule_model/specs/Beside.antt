-- An image with one more do-it.
use Rattle.image_model.specs.Image.{DoItOf}
use Rattle.certified_model.specs.Marks.{Text}
use Rattle.rewrite_model.specs.Rewritten.{rewritten_doit}
use Rattle.rule_model.specs.RuleCommands.{RuleCommand}

-- what the command makes of a do-it, the start expression among them
abbrev pub doit_after : RuleCommand → DoItOf Text → DoItOf Text
doit_after c e = rewritten_doit c.rule e
