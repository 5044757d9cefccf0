-- What is seen of a value, as the program tells it.
use Rattle.run_model.specs.Values.{View, one, items}
use Rattle.st_meaning.specs.declared.view.ViewKind.{ViewKind}
use Rattle.st_meaning.specs.declared.view.ViewKind.TheVariants as kind

-- the view of runs
abbrev pub view_from : ViewKind → View
view_from (kind.One a) = one a
view_from (kind.Items atoms) = items atoms.items
