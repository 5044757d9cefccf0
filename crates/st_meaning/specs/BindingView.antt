-- What a name of an environment stands for.
use Rattle.run_model.specs.Store.{Binding, holds, in_cell}
use Rattle.st_meaning.specs.declared.context.BindingKind.{BindingKind}
use Rattle.st_meaning.specs.declared.context.BindingKind.TheVariants as kind

-- the binding of runs
abbrev pub binding_from : BindingKind → Binding
binding_from (kind.Holds v) = holds v
binding_from (kind.InCell k) = in_cell k
