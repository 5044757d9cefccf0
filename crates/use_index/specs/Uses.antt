-- The uses of names in code: what it sends, implements, reads, assigns and declares, with the paths of the nodes.
use Rattle.std.specs.Prelude.{ℕ, List, [], ◌∷◌, ◌++◌, map, Bool, true, false, ◌&&◌, if◌then◌else◌, nat_eq}
use Rattle.std.specs.List.{list_any, flat_map}
use Rattle.tree_model.specs.Tree.{TreeOf, var, literal, send, cascade, assign, block, brace, return, SequenceOf, MethodOf}
use Rattle.tree_model.specs.Nodes.{Placed, nodes}
use Rattle.scope_model.specs.declared.local.Local.{Local}
use Rattle.scope_model.specs.declared.local.Local.TheVariants.{Argument, Temporary, NotLocal}
use Rattle.scope_model.specs.Scope.{local_in, local_in_doit}
use Rattle.scope_model.specs.NameTests.{is_pseudo_in}
use Rattle.mentions.specs.Mentions.{selectors_of}
use Rattle.use_index.specs.declared.uses.Sought.{Sought}
use Rattle.use_index.specs.declared.uses.Sought.TheVariants as sought
use Rattle.use_index.specs.declared.uses.UseAt.{UseAt}
use Rattle.use_index.specs.declared.uses.Way.{Way}
use Rattle.use_index.specs.declared.uses.Way.TheVariants as way

-- a use of a name in a way, at a path
abbrev pub use_at : Way → List ℕ → ℕ → UseAt
use_at w path n = record { name = n; way = w; path = path }

-- each name where it stands first, without those that were seen
abbrev pub once_after : List ℕ → List ℕ → List ℕ
once_after seen [] = []
once_after seen (n ∷ ns) = if list_any (nat_eq n) seen then once_after seen ns else n ∷ once_after (n ∷ seen) ns

-- each name once, where it stands first
abbrev pub each_once : List ℕ → List ℕ
each_once ns = once_after [] ns

-- the uses of names in one way at one path
abbrev pub uses_of : Way → List ℕ → List ℕ → List UseAt
uses_of w path ns = map (use_at w path) (each_once ns)

-- whether a name stands for something that the code declares
abbrev pub is_local : Local → Bool
is_local (Argument scope) = true
is_local (Temporary scope) = true
is_local NotLocal = false

-- the use of a name that a node reads or assigns
abbrev pub named : (List ℕ → ℕ → Bool) → List ℕ → ℕ → UseAt
named bound path n = use_at (if bound path n then way.Bound else way.Free) path n

-- the uses at a node itself, and not at the nodes below it, if this is said of what code declares
abbrev pub node_uses : (List ℕ → ℕ → Bool) → List ℕ → TreeOf ℕ → List UseAt
node_uses bound path (var n) = named bound path n ∷ []
node_uses bound path (literal l) = []
node_uses bound path (send r s args) = use_at way.Sent path s ∷ []
node_uses bound path (cascade r ms) = uses_of way.Sent path (selectors_of ms)
node_uses bound path (assign n t) = named bound path n ∷ []
node_uses bound path (block ps ts ss e) = uses_of way.Declared path (ps ++ ts)
node_uses bound path (brace ts) = []
node_uses bound path (return t) = []

-- the uses at all nodes of a sequence
abbrev pub code_uses : (List ℕ → ℕ → Bool) → SequenceOf ℕ → List UseAt
code_uses bound b = flat_map (λ (e : Placed ℕ). node_uses bound e.0 e.1) (nodes b)

-- whether a method declares a name that stands at a path, and whether a do-it does
abbrev pub is_bound : List (List ℕ) → MethodOf ℕ → List ℕ → ℕ → Bool
is_bound names m path n = is_local (local_in nat_eq (is_pseudo_in names) m path n)

abbrev pub is_bound_in_doit : List (List ℕ) → SequenceOf ℕ → List ℕ → ℕ → Bool
is_bound_in_doit names b path n = is_local (local_in_doit nat_eq (is_pseudo_in names) b path n)

-- the uses in a method: its selector and what it declares itself, by the empty path, and those at its nodes
abbrev pub method_uses : List (List ℕ) → MethodOf ℕ → List UseAt
method_uses names m =
    (use_at way.Implemented [] m.selector ∷ []) ++ uses_of way.Declared [] (m.arguments ++ m.body.temporaries) ++ code_uses (is_bound names m) m.body

-- the uses in a do-it
abbrev pub doit_uses : List (List ℕ) → SequenceOf ℕ → List UseAt
doit_uses names b = uses_of way.Declared [] b.temporaries ++ code_uses (is_bound_in_doit names b) b

-- whether a use in a way is one of those that are looked for; what names a name reads, assigns or declares it
abbrev pub answers : Sought → Way → Bool
answers sought.Sent way.Sent = true
answers sought.Implemented way.Implemented = true
answers sought.Free way.Free = true
answers sought.Named way.Free = true
answers sought.Named way.Bound = true
answers sought.Named way.Declared = true
answers what w = false

-- whether a use is one of a name that is looked for
abbrev pub is_use : ℕ → Sought → UseAt → Bool
is_use n what u = nat_eq n u.name && answers what u.way
