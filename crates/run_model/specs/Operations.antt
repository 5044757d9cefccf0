-- The operations of which all evaluation is made, whatever it is that an act is.
use Rattle.std.specs.Prelude.{ℕ}
use Rattle.run_model.specs.Values.{Value, Event, RunError}
use Rattle.run_model.specs.Store.{Memory}

-- What an act is, and the operations on acts: to give a thing; to leave off with an error, or with a return to a home; an act and then the one that follows what it gives; to read the memory and change it; to tell an event and give a thing; to take so many ticks and give a thing; an act in a home, which ends with it; and to leave off for want of depth.
pub record Operations : Type 1 where
  pub Act : Type 0 → Type 0
  pub gives : {A : Type 0} → A → Act A
  pub fails : {A : Type 0} → RunError → Act A
  pub goes_home : {A : Type 0} → ℕ → Value → Act A
  pub and_then : {A B : Type 0} → Act A → (A → Act B) → Act B
  pub with_memory : {A : Type 0} → (Memory → A × Memory) → Act A
  pub tells : {A : Type 0} → Event → A → Act A
  pub pays : {A : Type 0} → ℕ → A → Act A
  pub at_home : ℕ → Act Value → Act Value
  pub stops : {A : Type 0} → Act A

-- gives what is read from the memory
abbrev pub looks : (w : Operations) {A : Type 0} → (Memory → A) → w.Act A
looks w f = w.with_memory (λ m. (f m, m))

-- changes the memory and gives a value
abbrev pub changes : (w : Operations) → Value → (Memory → Memory) → w.Act Value
changes w v f = w.with_memory (λ m. (v, f m))
