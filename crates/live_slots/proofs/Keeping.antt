-- Slots that stay live.
use Rattle.std.proofs.Common.{◌≡◌, ◌≢◌, ◌⊎◌, inl, inr, ℕ, ◌<◌, Bool, true, false, ◌||◌, List, [], ◌∷◌, ◌++◌, length, refl, ap, ◌∙◌, arith}
use Rattle.std.specs.List.{list_any}
use Rattle.std.proofs.Math.ListN.{set}
use Rattle.std.proofs.Math.Dec.{eqb}
use Rattle.std.proofs.lemmas.Bool.Decides.{eqb_tells}
use Rattle.class_table.specs.declared.record.ClassRec.{ClassRec}
use Rattle.class_table.specs.declared.record.MethodRec.{MethodRec}
use Rattle.class_table.specs.declared.record.DoIt.{DoIt}
use Rattle.class_table.specs.Slots.{Slots}
use Rattle.class_table.specs.Valid.{IsLive}
use Rattle.class_table.proofs.OrderLemmas.{length-set, length-push, any-push}
use Rattle.live_slots.specs.Live.{AllLive}

-- a new last slot is live, and the others still are
all-pushed : {X : Type 0} (xs : List X) (x : X) (order : List ℕ) → ((k : ℕ) → k < length xs → IsLive order k) → (k : ℕ) → k < length (xs ++ x ∷ []) → IsLive (order ++ length xs ∷ []) k
all-pushed xs x order live k h = any-push (eqb k) order (length xs) ∙ by (eqb_tells k (length xs))
  where
    either : (b : Bool) → (b || true) ≡ true
    either true = refl
    either false = refl

    by : ((eqb k (length xs) ≡ true) × (k ≡ length xs)) ⊎ ((eqb k (length xs) ≡ false) × (k ≢ length xs)) → (eqb k (length xs) || list_any (eqb k) order) ≡ true
    by (inl t) = ap (λ (b : Bool). b || list_any (eqb k) order) t.0
    by (inr t) = ap (λ (b : Bool). eqb k (length xs) || b) (live k (omega (arith, h, length-push xs x, t.1))) ∙ either (eqb k (length xs))

-- no slot is below no length
none-below : {X : Type 0} (xs : List X) (P : ℕ → Type 0) → xs ≡ [] → (k : ℕ) → k < length xs → P k
none-below xs P e k h = absurd (omega (arith, h, ap length e))

pub all-none : (s : Slots) → s.classes ≡ [] → s.methods ≡ [] → AllLive s
all-none s c m = record { classes = none-below s.classes (IsLive s.class_order) c; methods = none-below s.methods (IsLive s.method_order) m }

pub all-class : (s : Slots) (c : ClassRec) → AllLive s → AllLive (record s { classes = s.classes ++ c ∷ []; class_order = s.class_order ++ length s.classes ∷ [] })
all-class s c all = record { classes = all-pushed s.classes c s.class_order all.classes; methods = all.methods }

pub all-method : (s : Slots) (m : MethodRec) → AllLive s → AllLive (record s { methods = s.methods ++ m ∷ []; method_order = s.method_order ++ length s.methods ∷ [] })
all-method s m all = record { classes = all.classes; methods = all-pushed s.methods m s.method_order all.methods }

pub all-replaced : (s : Slots) (k : ℕ) (m : MethodRec) → AllLive s → AllLive (record s { methods = set s.methods k m })
all-replaced s k m all = record { classes = all.classes; methods = λ j h. all.methods j (omega (arith, h, length-set s.methods k m)) }

pub all-doits : (s : Slots) (ds : List DoIt) → AllLive s → AllLive (record s { doits = ds })
all-doits s ds all = record { classes = all.classes; methods = all.methods }

pub all-heads : (s : Slots) (n : ℕ) → AllLive s → AllLive (record s { heads = n })
all-heads s n all = record { classes = all.classes; methods = all.methods }

pub all-names : (s : Slots) (names : List (List ℕ)) → AllLive s → AllLive (record s { names = names })
all-names s names all = record { classes = all.classes; methods = all.methods }
