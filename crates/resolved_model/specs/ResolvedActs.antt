-- Acts on a store and, beside it, the closures of resolved code.
use Rattle.std.specs.Prelude.{ℕ, List, [], ◌∷◌, ◌++◌, length}
use Rattle.run_model.specs.Values.{Value, closure_value}
use Rattle.run_model.specs.Store.{Binding, Home, Memory, Store, Result, fine, leaves}
use Rattle.run_model.specs.Operations.{Operations}
use Rattle.run_model.specs.Acts.{Act, gives, fails, goes_home, with_memory, tells, pays, out_of_home, stops}
use Rattle.resolved_model.specs.ResolvedTrees.{ResolvedCode}

-- where resolved code runs: what the arguments and temporaries of the scopes round it stand for, in the order in which places are counted; what `self` is; and its home
pub record ResolvedFrame : Type 0 where
  pub locals : List Binding
  pub me : Value
  pub home : Home

-- a closure: a block, and where it was evaluated
pub record ResolvedClosure : Type 0 where
  pub code : ResolvedCode
  pub frame : ResolvedFrame

-- the operations of which evaluation of resolved code is made: those of all evaluation, on a memory that has no closures; to read the closures and the memory; and to keep a closure and give it
pub record ResolvedOperations : Type 1 where
  pub plain : Operations
  pub looks_at : {A : Type 0} → (List ResolvedClosure → Memory → A) → plain.Act A
  pub keeps : ResolvedClosure → plain.Act Value

-- what may be done in a store beside which there are closures
abbrev pub ResolvedAct : Type 0 → Type 0
ResolvedAct A = List ResolvedClosure → Store → Result A × List ResolvedClosure

-- an act that leaves the closures as they are
unfoldable pub beside : {A : Type 0} → Act A → ResolvedAct A
beside act cs s = (act s, cs)

-- goes on with what was given, and does not go on after an exit
abbrev pub goes_on_with : {A B : Type 0} → Result A → List ResolvedClosure → (A → ResolvedAct B) → Result B × List ResolvedClosure
goes_on_with (fine a s) cs go = go a cs s
goes_on_with (leaves x s) cs go = (leaves x s, cs)

-- the first act, and then the one that follows what it gives
unfoldable pub followed_by : {A B : Type 0} → ResolvedAct A → (A → ResolvedAct B) → ResolvedAct B
followed_by act go cs s = goes_on_with (act cs s).0 (act cs s).1 go

-- the act in a home, which ends with it
unfoldable pub in_home : ℕ → ResolvedAct Value → ResolvedAct Value
in_home h act cs s = (out_of_home h (act cs s).0, (act cs s).1)

-- gives what is read from the closures and the memory
unfoldable pub looks_at : {A : Type 0} → (List ResolvedClosure → Memory → A) → ResolvedAct A
looks_at f cs s = (fine (f cs s.memory) s, cs)

-- keeps one more closure and gives it
unfoldable pub keeps : ResolvedClosure → ResolvedAct Value
keeps c cs s = (fine (closure_value (length cs)) s, cs ++ c ∷ [])

-- the operations of runs beside closures
abbrev pub resolved_acts : ResolvedOperations
resolved_acts = record {
  plain = record {
    Act = ResolvedAct;
    gives = λ a. beside (gives a);
    fails = λ e. beside (fails e);
    goes_home = λ h v. beside (goes_home h v);
    and_then = followed_by;
    with_memory = λ f. beside (with_memory f);
    tells = λ e a. beside (tells e a);
    pays = λ n a. beside (pays n a);
    at_home = in_home;
    stops = beside stops;
  };
  looks_at = looks_at;
  keeps = keeps;
}
