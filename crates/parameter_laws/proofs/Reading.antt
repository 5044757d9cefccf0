-- Nodes that read an argument of a method, by its number, and methods that are no primitives.
use Rattle.std.specs.Prelude.{◌≡◌, ℕ, List, slice_get, nat_eq, Bool, true, false, ◌&&◌, None}
use Rattle.std.specs.Option.{option_map_or}
use Rattle.rb_base.specs.Names.{text_eq}
use Rattle.tree_model.specs.Tree.{TreeOf, var, literal, send, cascade, assign, block, brace, return}
use Rattle.image_model.specs.Image.{EntryOf}
use Rattle.image_model.specs.Means.{MeaningOf, pseudo, argument, temporary, variable, a_class, transcript, undeclared}
use Rattle.run_model.specs.Values.{Name}

-- whether a name that means this is an argument of the method itself
abbrev pub is_own_argument : MeaningOf Name → Bool
is_own_argument pseudo = false
is_own_argument (argument scope) = nat_eq scope 0
is_own_argument (temporary scope) = false
is_own_argument (variable kind c) = false
is_own_argument (a_class c) = false
is_own_argument transcript = false
is_own_argument undeclared = false

-- whether a node reads the argument of a number, counted from 0, of a method with these arguments, by what names mean there
abbrev pub reads_argument : ℕ → List Name → (Name → MeaningOf Name) → TreeOf Name → Bool
reads_argument k args mean (var n) = is_own_argument (mean n) && option_map_or (λ y. text_eq y n) (slice_get args k) false
reads_argument k args mean (literal l) = false
reads_argument k args mean (send r u ts) = false
reads_argument k args mean (cascade r ms) = false
reads_argument k args mean (assign n t) = false
reads_argument k args mean (block ps ts ss e) = false
reads_argument k args mean (brace ts) = false
reads_argument k args mean (return t) = false

-- a method of the selector is no primitive
abbrev pub HasNoPrimitive : Name → EntryOf Name → Type 0
HasNoPrimitive s m = text_eq s m.tree.selector ≡ true → m.tree.primitive ≡ None
