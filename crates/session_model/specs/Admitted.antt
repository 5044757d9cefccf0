-- Which start expressions a script admits.
use Rattle.std.specs.Prelude.{◌≡◌, List, [], Ok, codes}
use Rattle.token_model.specs.declared.kind.Dialect.TheVariants.{Second}
use Rattle.tree_model.specs.Tree.{var, no_statements, more_statements}
use Rattle.grammar_model.specs.Spelling.{SpellsDoIt}
use Rattle.image_model.specs.Image.{DoItOf, ImageOf, plus}
use Rattle.run_model.specs.Values.{Name}
use Rattle.session_model.specs.Scripts.{Request, History, verdict_in}

-- The text of a do-it spells it, and the script is accepted in the image with that do-it at its end; this is the history then.
pub record Admits (i : ImageOf Name) (script : List Request) (e : DoItOf Name) : Type 0 where
  pub spells : SpellsDoIt Second e.source e.body
  pub history : History
  pub accepted : verdict_in (plus i e) script ≡ Ok history

-- the start expression `nil`
abbrev pub nil_doit : DoItOf Name
nil_doit = record {
  source = codes "nil";
  body = record { temporaries = []; statements = more_statements [] (var (codes "nil")) no_statements; tail = [] };
}
