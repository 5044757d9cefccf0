-- What a run holds, and what an evaluation may come to.
use Rattle.std.specs.Prelude.{ℕ, List, [], ◌∷◌, ◌++◌, Bool, true, false, ◌&&◌, if◌then◌else◌, Option, length, map, slice_get, get_or, set, find, unwrap_or, option_map}
use Rattle.rb_base.specs.Names.{text_eq}
use Rattle.tree_model.specs.Tree.{SequenceOf}
use Rattle.run_model.specs.Values.{Name, Value, nil_value, object_value, class_value, Event, RunError}

-- what a name of an environment stands for: an argument or parameter its value, a temporary a cell
pub data Binding : Type 0 where
  holds : Value → Binding
  in_cell : ℕ → Binding

-- a name of an environment
pub record Slot : Type 0 where
  pub name : Name
  pub binding : Binding

-- one running of a method or do-it: its number, and the class and side of the method
pub record Home : Type 0 where
  pub number : ℕ
  pub class : Option Name
  pub meta : Bool

-- where code runs: its environment, innermost names first, what `self` is, and its home
pub record Frame : Type 0 where
  pub slots : List Slot
  pub me : Value
  pub home : Home

-- a closure: a block's parameters and sequence, and where the block was evaluated
pub record Closure : Type 0 where
  pub parameters : List Name
  pub body : SequenceOf Name
  pub frame : Frame

-- an object: the name of its class, and values by the names of instance variables
pub record Object : Type 0 where
  pub class : Name
  pub fields : List (Name × Value)

-- what primitives see of the memory: objects and arrays by number
pub record Heap : Type 0 where
  pub objects : List Object
  pub arrays : List (List Value)

-- The memory of a run: the heap; class variables by definer and name; class-instance variables by class and name; and, apart from these, the cells of temporaries, the closures, and for each home whether it lives.
pub record Memory : Type 0 where
  pub heap : Heap
  pub shared : List ((Name × Name) × Value)
  pub class_side : List ((Name × Name) × Value)
  pub cells : List Value
  pub closures : List Closure
  pub homes : List Bool

-- the store of a run: its memory, the events so far, and how many ticks are left
pub record Store : Type 0 where
  pub memory : Memory
  pub events : List Event
  pub ticks : ℕ

-- how an evaluation may leave off: with a return to a home, with an error, or without ticks
pub data Exit : Type 0 where
  returns : (home : ℕ) → Value → Exit
  ends_by : RunError → Exit
  out_of_ticks : Exit

-- what an evaluation comes to, with the store then
pub data Result (A : Type 0) : Type 0 where
  fine : A → Store → Result A
  leaves : Exit → Store → Result A

-- the value of a key, and nil where none was set
abbrev pub value_of : {K : Type 0} → (K → K → Bool) → List (K × Value) → K → Value
value_of same entries k = unwrap_or (option_map (λ e. e.1) (find (λ e. same k e.0) entries)) nil_value

-- the entries with this value for the key
abbrev pub with_value : {K : Type 0} → (K → K → Bool) → List (K × Value) → K → Value → List (K × Value)
with_value same [] k v = (k, v) ∷ []
with_value same (e ∷ es) k v = if same k e.0 then (e.0, v) ∷ es else e ∷ with_value same es k v

-- whether two pairs of names are the same
abbrev pub same_pair : Name × Name → Name × Name → Bool
same_pair p q = text_eq p.0 q.0 && text_eq p.1 q.1

-- the memory with these objects
abbrev pub with_objects : Memory → List Object → Memory
with_objects m os = record m { heap = record { objects = os; arrays = m.heap.arrays } }

-- the instance variable of an object that is this value; there is none in any other value
abbrev pub field_of : Memory → Value → Name → Value
field_of m (object_value k) n = unwrap_or (option_map (λ (o : Object). value_of text_eq o.fields n) (slice_get m.heap.objects k)) nil_value
field_of m v n = nil_value

-- an object with this value for an instance variable
abbrev pub object_with : Object → Name → Value → Object
object_with o n w = record o { fields = with_value text_eq o.fields n w }

-- the memory with this value for the instance variable of an object
abbrev pub with_field : Memory → Value → Name → Value → Memory
with_field m (object_value k) n w =
    unwrap_or (option_map (λ o. with_objects m (set m.heap.objects k (object_with o n w))) (slice_get m.heap.objects k)) m
with_field m v n w = m

-- the class-instance variable of a class that is this value; there is none in any other value
abbrev pub class_side_of : Memory → Value → Name → Value
class_side_of m (class_value c) n = value_of same_pair m.class_side (c, n)
class_side_of m v n = nil_value

-- the memory with this value for the class-instance variable of a class
abbrev pub with_class_side : Memory → Value → Name → Value → Memory
with_class_side m (class_value c) n w = record m { class_side = with_value same_pair m.class_side (c, n) w }
with_class_side m v n w = m

-- the memory with this value for a class variable
abbrev pub with_shared : Memory → Name → Name → Value → Memory
with_shared m c n w = record m { shared = with_value same_pair m.shared (c, n) w }

-- the value in a cell
abbrev pub value_in_cell : Memory → ℕ → Value
value_in_cell m k = get_or m.cells k nil_value

-- the memory with this value in a cell
abbrev pub with_cell : Memory → ℕ → Value → Memory
with_cell m k w = record m { cells = set m.cells k w }

-- the memory with a new cell for each name, holding nil
abbrev pub with_new_cells : Memory → List Name → Memory
with_new_cells m ns = record m { cells = m.cells ++ map (λ n. nil_value) ns }

-- the memory with one more closure
abbrev pub with_closure : Memory → Closure → Memory
with_closure m c = record m { closures = m.closures ++ c ∷ [] }

-- the heap with one more object
abbrev pub with_object : Heap → Object → Heap
with_object h o = record h { objects = h.objects ++ o ∷ [] }

-- the heap with one more array
abbrev pub with_array : Heap → List Value → Heap
with_array h vs = record h { arrays = h.arrays ++ vs ∷ [] }

-- the memory with one more home, which lives
abbrev pub with_home : Memory → Memory
with_home m = record m { homes = m.homes ++ true ∷ [] }

-- the memory in which a home has ended
abbrev pub without_home : Memory → ℕ → Memory
without_home m h = record m { homes = set m.homes h false }

-- whether a home lives
abbrev pub lives : Memory → ℕ → Bool
lives m h = get_or m.homes h false

-- how many parameters a closure has
abbrev pub arity_in : List Closure → ℕ → ℕ
arity_in cs k = unwrap_or (option_map (λ (c : Closure). length c.parameters) (slice_get cs k)) 0

-- the memory in which nothing is
abbrev pub no_memory : Memory
no_memory = record { heap = record { objects = []; arrays = [] }; shared = []; class_side = []; cells = []; closures = []; homes = [] }

-- the store at the start of a run with so many ticks
abbrev pub start : ℕ → Store
start n = record { memory = no_memory; events = []; ticks = n }
