-- A path cut into what stands before one of its steps, the step, and what stands behind it.
use Rattle.std.proofs.Common.{◌≡◌, ℕ, ◌+◌, ◌-◌, ◌<◌, List, [], ◌∷◌, ◌++◌, length, refl, sym, ◌∙◌, ap, arith, Option, Some, None, slice_index, option_map, option_and_then, unwrap_or, take, drop}
use Rattle.std.proofs.lemmas.List.{take-append-drop, drop_more, drop_all}
use Rattle.tree_model.specs.Tree.{TreeOf}
use Rattle.tree_model.specs.Path.{child, part_at, with_child, replaced}
use Rattle.tree_model.proofs.Parts.{part_at-append, replaced-append, replaced-part_at}
use Rattle.tree_model.proofs.Children.{with_child-child}

-- a path is what stands before a step, the step, and what stands behind it
split_path : (p : List ℕ) (h : ℕ) → h < length p → take h p ++ slice_index p h ∷ drop (h + 1) p ≡ p
split_path p h l = ap (λ (q : List ℕ). take h p ++ q) (sym (drop_more p h 0 l)) ∙ take-append-drop h p

-- where a path leads, by where it leads before a step
part_at-split : (t : TreeOf ℕ) (p : List ℕ) (h : ℕ) → h < length p → part_at t p ≡ option_and_then (λ c. part_at c (slice_index p h ∷ drop (h + 1) p)) (part_at t (take h p))
part_at-split t p h l = ap (part_at t) (sym (split_path p h l)) ∙ part_at-append t (take h p) (slice_index p h ∷ drop (h + 1) p)

-- where there is no part before a step, there is none at the end
pub part_at-no_way : (t : TreeOf ℕ) (p : List ℕ) (h : ℕ) → h < length p → part_at t (take h p) ≡ None → part_at t p ≡ None
part_at-no_way t p h l none = part_at-split t p h l ∙ ap (option_and_then (λ c. part_at c (slice_index p h ∷ drop (h + 1) p))) none

-- where the step leads nowhere, there is no part at the end
pub part_at-no_step_on : (t u : TreeOf ℕ) (p : List ℕ) (h : ℕ) → h < length p → part_at t (take h p) ≡ Some u → child u (slice_index p h) ≡ None → part_at t p ≡ None
part_at-no_step_on t u p h l some none =
    part_at-split t p h l
    ∙ ap (option_and_then (λ c. part_at c (slice_index p h ∷ drop (h + 1) p))) some
    ∙ ap (option_and_then (λ c. part_at c (drop (h + 1) p))) none

-- the part is that to which the rest of the path leads behind the step
pub part_at-way_on : (t u c : TreeOf ℕ) (p : List ℕ) (h : ℕ) → h < length p → part_at t (take h p) ≡ Some u → child u (slice_index p h) ≡ Some c → part_at c (drop (h + 1) p) ≡ part_at t p
part_at-way_on t u c p h l some next =
    sym (part_at-split t p h l
    ∙ ap (option_and_then (λ c. part_at c (slice_index p h ∷ drop (h + 1) p))) some
    ∙ ap (option_and_then (λ d. part_at d (drop (h + 1) p))) next)

-- what is put in behind the step is put in at the end of the path
pub replaced-way_on : (t u c w : TreeOf ℕ) (p : List ℕ) (h : ℕ) → h < length p → part_at t (take h p) ≡ Some u → child u (slice_index p h) ≡ Some c
    → replaced t (take h p) (with_child u (slice_index p h) (replaced c (drop (h + 1) p) w)) ≡ replaced t p w
replaced-way_on t u c w p h l some next =
    let step : replaced u (slice_index p h ∷ drop (h + 1) p) w ≡ with_child u (slice_index p h) (replaced c (drop (h + 1) p) w)
    = ap (λ (o : Option (TreeOf ℕ)). unwrap_or (option_map (λ d. with_child u (slice_index p h) (replaced d (drop (h + 1) p) w)) o) u) next in
    ap (replaced t (take h p)) (sym step)
    ∙ sym (replaced-append t (take h p) (slice_index p h ∷ drop (h + 1) p) u w some)
    ∙ ap (λ (q : List ℕ). replaced t q w) (split_path p h l)

-- nothing changes where a child is put back
pub replaced-child_back : (t u c : TreeOf ℕ) (p : List ℕ) (h : ℕ) → part_at t (take h p) ≡ Some u → child u (slice_index p h) ≡ Some c → replaced t (take h p) (with_child u (slice_index p h) c) ≡ t
replaced-child_back t u c p h some next = ap (replaced t (take h p)) (with_child-child u (slice_index p h) c next) ∙ replaced-part_at t (take h p) u some

-- nothing stands behind the last step
drop-last : (p : List ℕ) (h : ℕ) → h ≡ length p - 1 → drop (h + 1) p ≡ []
drop-last p h e = drop_all (h + 1) p (omega arith)

-- what is put in at the last step
pub replaced-last : (t u d w : TreeOf ℕ) (p : List ℕ) (h : ℕ) → 0 < length p → h ≡ length p - 1 → part_at t (take h p) ≡ Some u → child u (slice_index p h) ≡ Some d
    → replaced t (take h p) (with_child u (slice_index p h) w) ≡ replaced t p w
replaced-last t u d w p h l e some next =
    ap (λ (q : List ℕ). replaced t (take h p) (with_child u (slice_index p h) (replaced d q w))) (sym (drop-last p h e))
    ∙ replaced-way_on t u d w p h (omega arith) some next

-- the part to which the last step leads
pub part_at-last : (t u : TreeOf ℕ) (p : List ℕ) (h : ℕ) → 0 < length p → h ≡ length p - 1 → part_at t (take h p) ≡ Some u → child u (slice_index p h) ≡ part_at t p
part_at-last t u p h l e some = by (child u (slice_index p h)) refl
  where
    by : (o : Option (TreeOf ℕ)) → child u (slice_index p h) ≡ o → child u (slice_index p h) ≡ part_at t p
    by None next = next ∙ sym (part_at-no_step_on t u p h (omega arith) some next)
    by (Some d) next = next ∙ ap (part_at d) (sym (drop-last p h e)) ∙ part_at-way_on t u d p h (omega arith) some next

-- a path of length 0 has no steps
pub no_steps : (p : List ℕ) → length p ≡ 0 → p ≡ []
no_steps [] e = refl
no_steps (k ∷ p) e = absurd (omega (arith, e))
