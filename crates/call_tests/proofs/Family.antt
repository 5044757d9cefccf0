-- Two classes, one below the other.
use Rattle.std.proofs.Common.{◌≡◌, ℕ, zero, suc, List, [], ◌∷◌, Some, None, slice_get, ◌++◌, length, Result, Ok, Err, false, true≢false, sym, ap, subst, ◌∙◌, arith}
use Rattle.std.specs.Prelude.{OnOk}
use Rattle.std.specs.Result.{is_err}
use Rattle.class_table.specs.declared.record.ClassRec.{ClassRec}
use Rattle.class_table.specs.Slots.{Slots}
use Rattle.class_table.specs.Valid.{SuperclassesFirst}

-- the superclass stands first
pub SuperclassesFirst-two : (first second : ClassRec) → first.superclass ≡ None → second.superclass ≡ Some 0 → SuperclassesFirst (first ∷ second ∷ []) (0 ∷ 1 ∷ [])
SuperclassesFirst-two first second root below zero k j c a b e =
    let at : 0 ≡ k = cc in
    let there : Some first ≡ Some c = ap (slice_get (first ∷ second ∷ [])) at ∙ b in
    let same : first ≡ c = cc in
    let none : None ≡ Some j = sym root ∙ ap (λ (x : ClassRec). x.superclass) same ∙ e in
    absurd (cc)
SuperclassesFirst-two first second root below (suc zero) k j c a b e =
    let at : 1 ≡ k = cc in
    let there : Some second ≡ Some c = ap (slice_get (first ∷ second ∷ [])) at ∙ b in
    let same : second ≡ c = cc in
    let above : Some 0 ≡ Some j = sym below ∙ ap (λ (x : ClassRec). x.superclass) same ∙ e in
    (0, omega arith, above)
SuperclassesFirst-two first second root below (suc (suc p)) k j c a b e = absurd (cc)

-- what is known of an answer that is no error
pub from_ok : {A E P : Type 0} (r : Result A E) → is_err r ≡ false → OnOk r P → P
from_ok (Ok a) e h = h
from_ok (Err x) e h = absurd (true≢false e)

-- an image of nothing to which two classes were added
pub SuperclassesFirst-built : (s t u : Slots) (first second : ClassRec) → s.classes ≡ [] → s.class_order ≡ [] → t ≡ record s { classes = s.classes ++ first ∷ []; class_order = s.class_order ++ length s.classes ∷ [] }
    → u ≡ record t { classes = t.classes ++ second ∷ []; class_order = t.class_order ++ length t.classes ∷ [] } → first.superclass ≡ None → second.superclass ≡ Some 0 → SuperclassesFirst u.classes u.class_order
SuperclassesFirst-built s t u first second none order e f root below =
    subst (λ (cs : List ClassRec). SuperclassesFirst cs u.class_order) (sym classes-two) (subst (λ (ks : List ℕ). SuperclassesFirst (first ∷ second ∷ []) ks) (sym order-two) (SuperclassesFirst-two first second root below))
  where
    classes-one : t.classes ≡ first ∷ []
    classes-one = ap (λ (x : Slots). x.classes) e ∙ ap (λ (cs : List ClassRec). cs ++ first ∷ []) none

    order-one : t.class_order ≡ 0 ∷ []
    order-one = ap (λ (x : Slots). x.class_order) e ∙ (λ i. order i ++ length (none i) ∷ [])

    classes-two : u.classes ≡ first ∷ second ∷ []
    classes-two = ap (λ (x : Slots). x.classes) f ∙ ap (λ (cs : List ClassRec). cs ++ second ∷ []) classes-one

    order-two : u.class_order ≡ 0 ∷ 1 ∷ []
    order-two = ap (λ (x : Slots). x.class_order) f ∙ (λ i. order-one i ++ length (classes-one i) ∷ [])
