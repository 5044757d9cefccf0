-- Equal bodies over numbers.
use Rattle.std.specs.Prelude.{◌≡◌, ℕ, List, map}
use Rattle.std.specs.Borrow.{Bor}
use Rattle.tree_model.specs.Tree.{Notes, SequenceOf}
use Rattle.tree_model.specs.Bare.{bare_sequence}
use Rattle.rewrite_model.specs.Notes.{all_notes}

-- the comments that references point to
abbrev pub noted : List (Bor Notes) → List Notes
noted rs = map (λ (r : Bor Notes). r.now) rs

-- two sequences are the same, their comments too
abbrev pub AreEqual : SequenceOf ℕ → SequenceOf ℕ → Type 0
AreEqual a b = (bare_sequence a ≡ bare_sequence b) × (all_notes a ≡ all_notes b)
