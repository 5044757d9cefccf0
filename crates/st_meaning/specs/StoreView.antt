-- The store of runs for which the program's store stands, where `names` are the texts of the names in its trees.
use Rattle.std.specs.Prelude.{ℕ, List, map, set, unwrap_or, slice_get, option_map, Bool, true, false}
use Rattle.rb_base.specs.Names.{name_at}
use Rattle.tree_model.specs.Tree.{map_sequence}
use Rattle.st_tree.specs.View.{sequence_of}
use Rattle.run_model.specs.Values.{Name, Value}
use Rattle.run_model.specs.Store as run
use Rattle.run_model.specs.Store.{Heap, Memory, object_with, fine, leaves, out_of_ticks, Result}
use Rattle.st_meaning.specs.declared.store.Closure.{Closure}
use Rattle.st_meaning.specs.declared.store.Store.{Store}

-- the closure of runs
abbrev pub closure_of : List Name → Closure → run.Closure
closure_of names c = record {
  parameters = map (name_at names) c.parameters.now;
  body = map_sequence (name_at names) (sequence_of c.body.now);
  frame = c.context.value;
}

-- the memory of runs
abbrev pub memory_of : List Name → Store → Memory
memory_of names s = record {
  heap = s.heap;
  shared = s.shared;
  class_side = s.class_side;
  cells = s.cells.items;
  closures = map (closure_of names) s.closures.items;
  homes = s.homes.items;
}

-- the store of runs
abbrev pub store_of : List Name → Store → run.Store
store_of names s = record { memory = memory_of names s; events = s.events.items; ticks = s.ticks }

-- the store with a change of its memory
abbrev pub changed_by : (Memory → Memory) → run.Store → run.Store
changed_by f s = record s { memory = f s.memory }

-- what comes of ticks that are wanted: the thing where they were left, and else the end of the run
abbrev pub paid : {A : Type 0} → Bool → A → run.Store → Result A
paid true a s = fine a s
paid false a s = leaves out_of_ticks s

-- the heap with this value for the instance variable of the object of a number, if there is one
abbrev pub with_field_at : Heap → ℕ → Name → Value → Heap
with_field_at h k n w = unwrap_or (option_map (λ o. record h { objects = set h.objects k (object_with o n w) }) (slice_get h.objects k)) h
