-- Sequences in which a temporary comes or goes.
use Rattle.std.specs.Prelude.{ℕ, not, nat_eq, [], ◌∷◌, ◌++◌, filter}
use Rattle.tree_model.specs.Tree.{TreeOf, assign, no_statements, SequenceOf}
use Rattle.command_model.specs.Sequences.{single, put_in, put_for}
use Rattle.let_code.specs.declared.extracting.Declaring.{Declaring}
use Rattle.let_code.specs.declared.inlining.Leaving.{Leaving}

-- the sequence that declares a temporary and assigns to it before the statement of a number
abbrev pub declaring : Declaring → SequenceOf ℕ → SequenceOf ℕ
declaring it b =
    let c : SequenceOf ℕ = put_in it.number 0 (single (assign it.variable it.value.now)) b in
    record c { temporaries = c.temporaries ++ it.variable ∷ [] }

-- the sequence without a temporary and without the statement of a number
abbrev pub without : Leaving → SequenceOf ℕ → SequenceOf ℕ
without it b =
    let c : SequenceOf ℕ = put_for it.number no_statements b in
    record c { temporaries = filter (λ n. not (nat_eq it.variable n)) c.temporaries }
