-- An image in which a rule is applied in each method of a user and in each do-it.
use Rattle.std.specs.Prelude.{map, if◌then◌else◌}
use Rattle.std.specs.List.{concat}
use Rattle.rb_base.specs.Names.{text_eq}
use Rattle.tree_model.specs.Tree.{SequenceOf, MethodOf}
use Rattle.text_model.specs.Whole.{canonical_method, canonical_doit}
use Rattle.image_model.specs.Image.{EntryOf, DoItOf, ImageOf}
use Rattle.query_model.specs.Lines.{Text}
use Rattle.pattern_model.specs.Words.{text_pattern_words}
use Rattle.pattern_model.specs.Rewritten.{RuleOf, rewritten_sequence, rewritten_method}
use Rattle.rewrite_model.specs.Notes.{equal_sequence, equal_method}

-- a method with another tree and its canonical text; where the tree is equal, comments counted, the method stays as it is
abbrev pub retold_entry : EntryOf Text → MethodOf Text → EntryOf Text
retold_entry m tree = if equal_method text_eq m.tree tree then m else record m { tree = tree; source = canonical_method tree }

abbrev pub retold_doit : DoItOf Text → SequenceOf Text → DoItOf Text
retold_doit d body = if equal_sequence text_eq d.body body then d else record d { body = body; source = canonical_doit body }

-- each place where the pattern of the rule matches is replaced
abbrev pub rewritten_entry : RuleOf Text → EntryOf Text → EntryOf Text
rewritten_entry r m = if m.kernel then m else retold_entry m (rewritten_method text_pattern_words concat r m.tree)

abbrev pub rewritten_doit : RuleOf Text → DoItOf Text → DoItOf Text
rewritten_doit r d = retold_doit d (rewritten_sequence text_pattern_words concat r d.body)

abbrev pub rewritten_image : RuleOf Text → ImageOf Text → ImageOf Text
rewritten_image r i = record i { methods = map (rewritten_entry r) i.methods; doits = map (rewritten_doit r) i.doits }
