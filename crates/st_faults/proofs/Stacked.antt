-- Parts on a stack.
use Rattle.std.proofs.Common.{◌≡◌, ℕ, ◌+◌, ◌-◌, ◌<◌, ◌≤◌, List, [], ◌∷◌, ◌++◌, length, take, refl, ap, ◌∙◌, arith}
use Rattle.std.proofs.Math.ListN.{get_or}
use Rattle.std.proofs.lemmas.List.{take_more}
use Rattle.grammar_model.specs.Machine.{Stack}
use Rattle.st_faults.specs.declared.part.Part.{Part}
use Rattle.st_faults.specs.Moves.{part_of}
use Rattle.st_faults.specs.Stacks.{stacked, stack_of}

-- one more part above these
stacked-push : (ps : List Part) (p : Part) (ss : Stack) → stacked ss (ps ++ p ∷ []) ≡ part_of p ∷ stacked ss ps
stacked-push [] p ss = refl
stacked-push (q ∷ ps) p ss = stacked-push ps p (part_of q ∷ ss)

-- one more part
pub stack_of-push : (ps : List Part) (p : Part) → stack_of (ps ++ p ∷ []) ≡ part_of p ∷ stack_of ps
stack_of-push ps p = stacked-push ps p []

-- the last of the first n parts comes next
pub stack_of-take : (ps : List Part) (n : ℕ) (d : Part) → 0 < n → n ≤ length ps → stack_of (take n ps) ≡ part_of (get_or ps (n - 1) d) ∷ stack_of (take (n - 1) ps)
stack_of-take ps n d some inside =
    let last : n - 1 < length ps = omega arith in
    let same : n ≡ n - 1 + 1 = omega arith in
    ap (λ m. stack_of (take m ps)) same ∙ ap stack_of (take_more ps (n - 1) d last) ∙ stack_of-push (take (n - 1) ps) (get_or ps (n - 1) d)
