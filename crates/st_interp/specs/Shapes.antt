-- Control sends, as the program sees them.
use Rattle.std.specs.Prelude.{List}
use Rattle.run_model.specs.Values.{Name, nil_value, true_value, false_value}
use Rattle.run_model.specs.Shapes as run
use Rattle.st_interp.specs.declared.state.Branch.{Branch}
use Rattle.st_interp.specs.declared.state.Branch.TheVariants as branch
use Rattle.st_interp.specs.declared.shape.Shape.{Shape}
use Rattle.st_interp.specs.declared.shape.Shape.TheVariants as shape
use Rattle.st_interp.specs.Trees.{sequence_at}

-- the branch of runs
abbrev pub branch_from : List Name → Branch → run.Branch
branch_from names (branch.Runs b) = run.runs (sequence_at names b.now)
branch_from names branch.Nil = run.is_just nil_value
branch_from names branch.True = run.is_just true_value
branch_from names branch.False = run.is_just false_value

-- the shape of runs
abbrev pub shape_from : List Name → Shape → run.Shape
shape_from names (shape.TwoWays a b) = run.two_ways (branch_from names a) (branch_from names b)
shape_from names (shape.Loops l) = run.loops l.sense (sequence_at names l.test.now) (sequence_at names l.body.now)
shape_from names shape.Message = run.a_message
