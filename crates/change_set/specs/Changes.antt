-- What changes in order do to the slots of an image, and the same changes backwards.
use Rattle.std.specs.Prelude.{◌≡◌, List, [], ◌∷◌}
use Rattle.class_table.specs.Slots.{Slots}
use Rattle.change_set.specs.declared.change.Change.{Change}
use Rattle.change_set.specs.Change.{applied, inverse, CanApply}

-- the slots after all changes in order, the changes back, and that each change can be applied at its turn
abbrev pub all_applied : Slots → List Change → Slots
all_applied s [] = s
all_applied s (c ∷ cs) = all_applied (applied s c) cs

abbrev pub inverses : Slots → List Change → List Change
inverses s [] = []
inverses s (c ∷ cs) = inverse s c ∷ inverses (applied s c) cs

abbrev pub CanApplyAll : Slots → List Change → Type 0
CanApplyAll s [] = Unit {0}
CanApplyAll s (c ∷ cs) = CanApply s c × CanApplyAll (applied s c) cs

-- the slots after all changes backwards, the last one first, the changes back, and that each change can be applied at its turn
abbrev pub all_undone : Slots → List Change → Slots
all_undone s [] = s
all_undone s (c ∷ cs) = applied (all_undone s cs) c

abbrev pub inverses_undone : Slots → List Change → List Change
inverses_undone s [] = []
inverses_undone s (c ∷ cs) = inverse (all_undone s cs) c ∷ inverses_undone s cs

abbrev pub CanUndoAll : Slots → List Change → Type 0
CanUndoAll s [] = Unit {0}
CanUndoAll s (c ∷ cs) = CanUndoAll s cs × CanApply (all_undone s cs) c

-- the changes, taken backwards, lead from slots to the ones before, and leave the changes from before
pub record Undoes (s : Slots) (cs : List Change) (before : Slots) (former : List Change) : Type 0 where
  pub can : CanUndoAll s cs
  pub image : all_undone s cs ≡ before
  pub changes : inverses_undone s cs ≡ former

-- the changes, taken in order, lead from slots to the ones before, and leave the changes from before
pub record Redoes (s : Slots) (cs : List Change) (before : Slots) (former : List Change) : Type 0 where
  pub can : CanApplyAll s cs
  pub image : all_applied s cs ≡ before
  pub changes : inverses s cs ≡ former
