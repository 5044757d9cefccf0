-- One turn of the loop over commands, from the last one back and from the first one on.
use Rattle.std.proofs.Common.{◌≡◌, ℕ, zero, suc, ◌+◌, ◌-◌, ◌<◌, ◌≤◌, List, [], ◌∷◌, ◌++◌, length, get_or, take, drop, sym, ap, subst, ◌∙◌, arith, append_assoc}
use Rattle.std.proofs.Math.ListN.{set}
use Rattle.std.proofs.lemmas.List.{take-set, drop-set}
use Rattle.class_table.specs.Slots.{Slots}
use Rattle.change_set.specs.Changes.{all_undone, inverses_undone}
use Rattle.wider_slots.specs.Logs.{CanTakeBack}
use Rattle.session.specs.Log.{DoneCommand, taken_back, left_back, CanGoBack}

-- the command as it is kept once it is undone
abbrev pub undone_at : Slots → DoneCommand → DoneCommand
undone_at s d = record d { changes = inverses_undone s d.changes }

-- the last one of the first commands is undone before the others
record TurnBack (s : Slots) (ds : List DoneCommand) (i : ℕ) (d : DoneCommand) : Type 0 where
  pub can : CanTakeBack s d.changes
  pub rest : CanGoBack (all_undone s d.changes) (take i ds)
  pub slots : taken_back (all_undone s d.changes) (take i ds) ≡ taken_back s (take (suc i) ds)
  pub left : left_back (all_undone s d.changes) (take i ds) ++ undone_at s d ∷ [] ≡ left_back s (take (suc i) ds)

turn_back : (s : Slots) (ds : List DoneCommand) (i : ℕ) (d : DoneCommand) → i < length ds → d ≡ get_or ds i d → CanGoBack s (take (suc i) ds) → TurnBack s ds i d
turn_back s [] i d h r p = absurd (omega arith)
turn_back s (e ∷ es) zero d h r p =
    record { can = subst (λ (z : DoneCommand). CanTakeBack s z.changes) (sym r) p.1; rest = tt; slots = ap (λ (z : DoneCommand). all_undone s z.changes) r; left = ap (λ (z : DoneCommand). undone_at s z ∷ []) r }
turn_back s (e ∷ es) (suc i) d h r p =
    let t = turn_back s es i d (omega arith) r p.0 in
    record {
      can = t.can;
      rest = (t.rest, subst (λ (z : Slots). CanTakeBack z e.changes) (sym t.slots) p.1);
      slots = ap (λ (z : Slots). all_undone z e.changes) t.slots;
      left = λ j. undone_at (t.slots j) e ∷ t.left j;
    }

-- the last one of the first commands may be undone
pub can_turn_back : (s : Slots) (ds : List DoneCommand) (n : ℕ) (d : DoneCommand) → 0 < n → n ≤ length ds → d ≡ get_or ds (n - 1) d → CanGoBack s (take n ds) → CanTakeBack s d.changes
can_turn_back s ds n d h w r p =
    let at : n ≡ suc (n - 1) = omega arith in
    (turn_back s ds (n - 1) d (omega arith) r (subst (λ (m : ℕ). CanGoBack s (take m ds)) at p)).can

-- what holds when the commands from a number on are undone
pub record Remaining (s : Slots) (ds : List DoneCommand) (n : ℕ) (end : Slots) (ends : List DoneCommand) : Type 0 where
  pub can : CanGoBack s (take n ds)
  pub slots : taken_back s (take n ds) ≡ end
  pub left : left_back s (take n ds) ++ drop n ds ≡ ends

after : (s : Slots) (ds : List DoneCommand) (i : ℕ) (d : DoneCommand) (end : Slots) (ends : List DoneCommand) → i < length ds → d ≡ get_or ds i d → Remaining s ds (suc i) end ends
    → Remaining (all_undone s d.changes) (set ds i (undone_at s d)) i end ends
after s ds i d end ends h r p =
    let t = turn_back s ds i d h r p.can in
    let b : DoneCommand = undone_at s d in
    let u : Slots = all_undone s d.changes in
    let same : take i (set ds i b) ≡ take i ds = take-set ds i b in
    let up : i + 1 ≡ suc i = omega arith in
    let there : drop i (set ds i b) ≡ b ∷ drop (suc i) ds = drop-set ds i b h ∙ ap (λ (m : ℕ). b ∷ drop m ds) up in
    record {
      can = subst (CanGoBack u) (sym same) t.rest;
      slots = ap (taken_back u) same ∙ t.slots ∙ p.slots;
      left = (λ j. left_back u (same j) ++ there j)
          ∙ sym (append_assoc (left_back u (take i ds)) (b ∷ []) (drop (suc i) ds))
          ∙ ap (λ (zs : List DoneCommand). zs ++ drop (suc i) ds) t.left
          ∙ p.left;
    }

-- a turn of the loop from the last one back
pub after_turn : (s new : Slots) (ds : List DoneCommand) (n : ℕ) (d b : DoneCommand) (end : Slots) (ends : List DoneCommand) → 0 < n → n ≤ length ds → d ≡ get_or ds (n - 1) d → new ≡ all_undone s d.changes → b ≡ undone_at s d
    → Remaining s ds n end ends → Remaining new (set ds (n - 1) b) (n - 1) end ends
after_turn s new ds n d b end ends h w r image change p =
    let at : n ≡ suc (n - 1) = omega arith in
    let next : Remaining (all_undone s d.changes) (set ds (n - 1) (undone_at s d)) (n - 1) end ends =
    after s ds (n - 1) d end ends (omega arith) r (subst (λ (m : ℕ). Remaining s ds m end ends) at p) in
    subst (λ (z : Slots). Remaining z (set ds (n - 1) b) (n - 1) end ends) (sym image)
    (subst (λ (z : DoneCommand). Remaining (all_undone s d.changes) (set ds (n - 1) z) (n - 1) end ends) (sym change) next)
