-- Primitives whose receiver and argument are of the right kind, or not.
use Rattle.std.proofs.Common.{◌≡◌, ℕ, zero, suc, false, if◌then◌else◌, ℤ, pos, negsuc, Option, Some, None, to_z, of_z, refl, sym, ap, ◌∙◌}
use Rattle.std.specs.Int.{w64}
use Rattle.std.specs.Int.RustNames.{FitsSigned}
use Rattle.std.proofs.lemmas.Int.{to_z-of_z}
use Rattle.std.proofs.lemmas.Bool.{ne_eqb}
use Rattle.std.specs.Option.{option_map_or}
use Rattle.run_model.specs.Values.{int_value, bad_argument, overflow, divide_by_zero}
use Rattle.run_model.specs.Numbers.{is_zero, fitting}
use Rattle.run_model.specs.Calls.{Call, PrimResult, faults, argument, at_once, demands, answers_integer, as_integer}
use Rattle.run_model.specs.IntegerPrimitives.{two_integers, divisor}

-- two integers
pub both : (c : Call) (go : ℤ → ℤ → PrimResult) (x y : ℤ) → Some x ≡ as_integer c.receiver → Some y ≡ as_integer (argument c 0) → go x y ≡ two_integers c go
both c go x y e f = λ i. demands c (e i) (λ a. demands c (f i) (λ b. go a b))

-- a receiver that is no integer
pub no_receiver : (c : Call) (go : ℤ → ℤ → PrimResult) → None ≡ as_integer c.receiver → faults (bad_argument c.number) ≡ two_integers c go
no_receiver c go e = λ i. demands c (e i) (λ a. demands c (as_integer (argument c 0)) (λ b. go a b))

-- an argument that is no integer
pub no_argument : (c : Call) (go : ℤ → ℤ → PrimResult) (x : ℤ) → Some x ≡ as_integer c.receiver → None ≡ as_integer (argument c 0) → faults (bad_argument c.number) ≡ two_integers c go
no_argument c go x e f = λ i. demands c (e i) (λ a. demands c (f i) (λ b. go a b))

-- an integer that is answered where it is one of 64 bits
pub answered : (c : Call) (z : ℤ) (o : Option ℤ) (r : PrimResult) → r ≡ option_map_or (λ x. at_once c (int_value x)) o (faults overflow) → o ≡ fitting z → r ≡ answers_integer c z
answered c z o r e f = e ∙ ap (λ p. option_map_or (λ x. at_once c (int_value x)) p (faults overflow)) f

-- an answer by a divisor that is not 0
pub divided : (y : ℤ) (q r : PrimResult) → is_zero y ≡ false → r ≡ q → r ≡ divisor y q
divided y q r n e = e ∙ sym (ap (λ b. if b then faults divide_by_zero else q) n)

pub not_zero : (y : ℤ) → (of_z w64 y ≡ 0 → ⊥) → is_zero y ≡ false
not_zero (pos k) n = ne_eqb k 0 n
not_zero (negsuc k) n = refl

-- what is said of two integers of 64 bits, as they are passed
pub passed : {R : Type 0} (f : ℤ → ℤ → R) (x y : ℤ) → FitsSigned w64 x → FitsSigned w64 y → f (to_z w64 (of_z w64 x)) (to_z w64 (of_z w64 y)) ≡ f x y
passed f x y p q = λ i. f (to_z-of_z w64 x p i) (to_z-of_z w64 y q i)
