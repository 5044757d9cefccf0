-- Where the first comments of a method stand.
use Rattle.std.specs.Prelude.{◌≡◌, List, [], ◌∷◌, ◌++◌}
use Rattle.tree_model.specs.Tree.{Notes, StatementsOf, no_statements, more_statements, SequenceOf, MethodOf}

-- the first comments of a sequence: those of its first statement, or those at its end where it has no statement
abbrev pub leading_of : {N : Type 0} → StatementsOf N → Notes → Notes
leading_of no_statements tail = tail
leading_of (more_statements c t ss) tail = c

abbrev pub leading : {N : Type 0} → SequenceOf N → Notes
leading b = leading_of b.statements b.tail

-- a sequence without its first comments
abbrev pub without_leading_of : {N : Type 0} → List N → StatementsOf N → Notes → SequenceOf N
without_leading_of ts no_statements tail = record { temporaries = ts; statements = no_statements; tail = [] }
without_leading_of ts (more_statements c t ss) tail = record { temporaries = ts; statements = more_statements [] t ss; tail = tail }

abbrev pub without_leading : {N : Type 0} → SequenceOf N → SequenceOf N
without_leading b = without_leading_of b.temporaries b.statements b.tail

-- the first comments of a method without temporaries go to the end of its head
abbrev pub normal_by : {N : Type 0} → List N → MethodOf N → MethodOf N
normal_by [] m = record m { head = m.head ++ leading m.body; body = without_leading m.body }
normal_by (n ∷ ns) m = m

-- the method with its comments in normal form
abbrev pub normal : {N : Type 0} → MethodOf N → MethodOf N
normal m = normal_by m.body.temporaries m

-- a method without temporaries has all its first comments in its head
abbrev pub IsNormal : {N : Type 0} → MethodOf N → Type 0
IsNormal m = m.body.temporaries ≡ [] → leading m.body ≡ []
