-- Acts that take a store and come to a result, which are those of runs.
use Rattle.std.specs.Prelude.{ℕ, ◌-◌, nat_le, nat_eq, if◌then◌else◌, [], ◌∷◌, ◌++◌}
use Rattle.run_model.specs.Values.{Value, Event, RunError}
use Rattle.run_model.specs.Operations.{Operations}
use Rattle.run_model.specs.Store.{Memory, Store, returns, ends_by, out_of_ticks, Result, fine, leaves, without_home}

-- what may be done in a store
abbrev pub Act : Type 0 → Type 0
Act A = Store → Result A

-- goes on with what was given, and does not go on after an exit
abbrev pub then_do : {A B : Type 0} → Result A → (A → Act B) → Result B
then_do (fine a s) go = go a s
then_do (leaves x s) go = leaves x s

-- gives a thing and changes nothing
unfoldable pub gives : {A : Type 0} → A → Act A
gives a s = fine a s

-- leaves off with an error
unfoldable pub fails : {A : Type 0} → RunError → Act A
fails e s = leaves (ends_by e) s

-- leaves off with a return to a home
unfoldable pub goes_home : {A : Type 0} → ℕ → Value → Act A
goes_home h v s = leaves (returns h v) s

-- the first act, and then the one that follows what it gives
unfoldable pub and_then : {A B : Type 0} → Act A → (A → Act B) → Act B
and_then act go s = then_do (act s) go

-- gives what is read from the memory, and changes it
unfoldable pub with_memory : {A : Type 0} → (Memory → A × Memory) → Act A
with_memory f s = fine ((f s.memory).0) (record s { memory = (f s.memory).1 })

-- tells an event and gives a thing
unfoldable pub tells : {A : Type 0} → Event → A → Act A
tells e a s = fine a (record s { events = s.events ++ e ∷ [] })

-- Takes so many ticks and gives a thing; where fewer are left these are taken, and the run is spent.
unfoldable pub pays : {A : Type 0} → ℕ → A → Act A
pays n a s = if nat_le n s.ticks then fine a (record s { ticks = s.ticks - n }) else leaves out_of_ticks (record s { ticks = 0 })

-- the store in which a home has ended
abbrev pub ended : ℕ → Store → Store
ended h s = record s { memory = without_home s.memory h }

-- what comes out of a home: a value, also by a return to it, and then it has ended; a return to another home goes on
abbrev pub out_of_home : ℕ → Result Value → Result Value
out_of_home h (fine v s) = fine v (ended h s)
out_of_home h (leaves (returns k v) s) = if nat_eq k h then fine v (ended h s) else leaves (returns k v) (ended h s)
out_of_home h (leaves (ends_by e) s) = leaves (ends_by e) s
out_of_home h (leaves out_of_ticks s) = leaves out_of_ticks s

-- the act in a home, which ends with it
unfoldable pub at_home : ℕ → Act Value → Act Value
at_home h act s = out_of_home h (act s)

-- leaves off without ticks, since no depth is left
unfoldable pub stops : {A : Type 0} → Act A
stops s = leaves out_of_ticks s

-- the operations of runs
abbrev pub acts : Operations
acts = record {
  Act = Act;
  gives = gives;
  fails = fails;
  goes_home = goes_home;
  and_then = and_then;
  with_memory = with_memory;
  tells = tells;
  pays = pays;
  at_home = at_home;
  stops = stops;
}
