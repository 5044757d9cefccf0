-- The forms of texts, as the program has them.
use Rattle.grammar_model.specs.Whole as grammar
use Rattle.st_faults.specs.declared.form.TextForm.{TextForm}
use Rattle.st_faults.specs.declared.form.TextForm.TheVariants.{DoIt, Method, Pattern}

-- the form of the grammar
abbrev pub form_of : TextForm → grammar.Form
form_of DoIt = grammar.DoIt
form_of (Method kernel) = grammar.Method kernel
form_of Pattern = grammar.PatternText
