-- Where no condition of a refusal holds.
use Rattle.std.proofs.Common.{◌≡◌, Bool, true, false, List, [], ◌∷◌, Option, Some, None, Result, Ok, Err, refl}
use Rattle.std.specs.Prelude.{if◌then◌else◌}
use Rattle.std.specs.List.{AllByRecursion}
use Rattle.std.specs.Option.{option_map_or}
use Rattle.file_model.specs.Causes.{Cause, Condition, first_cause, unless}

-- where no condition holds, the first does not, and none behind it
pub first_none : (c : Condition) (cs : List Condition) → first_cause (c ∷ cs) ≡ None → (c.holds ≡ false) × (first_cause cs ≡ None)
first_none c cs e = by c.holds refl e
  where
    by : (b : Bool) → c.holds ≡ b → (if b then Some c.cause else first_cause cs) ≡ None → (c.holds ≡ false) × (first_cause cs ≡ None)
    by true h k = absurd (cc)
    by false h k = (h, k)

-- nor does the second, nor the third
pub second_none : (a b : Condition) (cs : List Condition) → first_cause (a ∷ b ∷ cs) ≡ None → b.holds ≡ false
second_none a b cs e = (first_none b cs (first_none a (b ∷ cs) e).1).0

pub third_none : (a b c : Condition) (cs : List Condition) → first_cause (a ∷ b ∷ c ∷ cs) ≡ None → c.holds ≡ false
third_none a b c cs e = second_none b c cs (first_none a (b ∷ c ∷ cs) e).1

-- what is given under conditions is given where none holds
pub unless_none : {X : Type 0} (cs : List Condition) (x y : X) → ◌≡◌ {A = Result X Cause} (unless cs x) (Ok y) → first_cause cs ≡ None
unless_none {X} cs x y e = by (first_cause cs) e
  where
    by : (o : Option Cause) → ◌≡◌ {A = Result X Cause} (option_map_or Err o (Ok x)) (Ok y) → o ≡ None
    by None h = refl
    by (Some cause) h = absurd (differ h)
      where
        differ : ◌≡◌ {A = Result X Cause} (Err cause) (Ok y) → ⊥
        differ k = cc

-- what is given unless a condition holds
pub unless_ok : {X : Type 0} (cs : List Condition) (x y : X) → ◌≡◌ {A = Result X Cause} (unless cs x) (Ok y) → x ≡ y
unless_ok {X} cs x y e = by (first_cause cs) e
  where
    by : (o : Option Cause) → ◌≡◌ {A = Result X Cause} (option_map_or Err o (Ok x)) (Ok y) → x ≡ y
    by None h = cc
    by (Some cause) h = absurd (differ h)
      where
        differ : ◌≡◌ {A = Result X Cause} (Err cause) (Ok y) → ⊥
        differ k = cc

-- what is given under conditions: none of them holds, and it is this
pub record IsAllowed {X : Type 0} (cs : List Condition) (x y : X) : Type 0 where
  pub none : AllByRecursion (λ c. c.holds ≡ false) cs
  pub same : x ≡ y

-- no condition holds where there is no cause
none_hold : (cs : List Condition) → first_cause cs ≡ None → AllByRecursion (λ c. c.holds ≡ false) cs
none_hold [] e = tt
none_hold (c ∷ cs) e = let first = first_none c cs e in (first.0, none_hold cs first.1)

-- what was given was allowed
pub allowed : {X : Type 0} (cs : List Condition) (x y : X) → ◌≡◌ {A = Result X Cause} (unless cs x) (Ok y) → IsAllowed cs x y
allowed cs x y e = record { none = none_hold cs (unless_none cs x y e); same = unless_ok cs x y e }
