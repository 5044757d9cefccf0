use Rattle.std.proofs.Common.{◌≡◌, [], Some, None, ap, sym, ◌∙◌}
use Rattle.std.specs.Prelude.{Option, List, is_some}
use Rattle.tree_model.specs.Tree.{str}
use Rattle.grammar_model.specs.Machine.{may_start}
use Rattle.st_faults.specs.declared.sort.Sort.TheVariants.{Caret}
use Rattle.st_faults.specs.declared.part.Part.{Part}
use Rattle.st_faults.specs.declared.stack.Found.{Found}
use Rattle.st_faults.specs.Stacks.{stack_of, Finds}
use Rattle.st_faults.proofs.stack.may_start.Goals as goal

-- a return could stand where it finds what becomes of the stack
starts : (ps : List Part) (o : Option Found) → Finds ps Caret o → is_some o ≡ may_start (stack_of ps)
starts ps None h = sym (ap is_some (h [] (str [])))
starts ps (Some f) h = sym (ap is_some (h.1 [] (str [])))

pub returns : goal.returns
returns c = c.is_some.ensures ∙ starts c.args.stack.now c.find.result c.find.ensures
