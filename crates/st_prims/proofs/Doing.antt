-- A primitive of the definition of runs, in the program's store.
use Rattle.std.proofs.Common.{◌≡◌, ◌==◌, find, IfOk, Result as Fallible, Ok, Err, ℕ, List, length, map, Option, Some, None, slice_get, option_map, unwrap_or, refl, sym, ap, ◌∙◌}
use Rattle.std.specs.Option.{option_map_or}
use Rattle.std.proofs.lemmas.Option.{slice_get-map}
use Rattle.rb_base.specs.Names.{name_at}
use Rattle.image_model.specs.Image.{ImageOf}
use Rattle.image_model.proofs.Lists.{length-map}
use Rattle.run_model.specs.Values.{Name, Value, bad_argument}
use Rattle.run_model.specs.Store as run
use Rattle.run_model.specs.Store.{Result, arity_in}
use Rattle.run_model.specs.Acts.{acts, and_then, with_memory}
use Rattle.run_model.specs.Calls.{Call, PrimResult, faults}
use Rattle.run_model.specs.Primitives.{rows, primitive}
use Rattle.run_model.specs.Eval.{Evaluator, follows, does_primitive}
use Rattle.st_meaning.specs.declared.store.Closure.{Closure}
use Rattle.st_meaning.specs.StoreView.{closure_of}
use Rattle.st_prims.specs.Closures.{arity_of}
use Rattle.st_prims.specs.Rows.{row_of}
use Rattle.st_prims.specs.declared.numbers.Primitive.{Primitive}

-- what follows on the primitive
pub does : (i : ImageOf Name) (go : Evaluator acts) (n : ℕ) (v : Value) (args : List Value) (s : run.Store)
    → follows acts go args (primitive (record { number = n; receiver = v; arguments = args; heap = s.memory.heap; arity = arity_in s.memory.closures; classes = i.classes })) s ≡ does_primitive acts i go n v args s
unfolding and_then with_memory
does i go n v args s = refl

-- how many parameters a closure has
pub same_arity : (names : List Name) (cs : List Closure) (k : ℕ) → arity_of cs k ≡ arity_in (map (closure_of names) cs) k
same_arity names cs k =
    by (slice_get cs k)
    ∙ ap (λ (o : Option run.Closure). unwrap_or (option_map (λ (c : run.Closure). length c.parameters) o) 0) (sym (slice_get-map (closure_of names) cs k))
  where
    by : (o : Option Closure) → unwrap_or (option_map (λ (c : Closure). length c.parameters.now) o) 0 ≡ unwrap_or (option_map (λ (c : run.Closure). length c.parameters) (option_map (closure_of names) o)) 0
    by None = refl
    by (Some c) = sym (length-map (name_at names) c.parameters.now)

-- what is said of an answer, if there is one
pub mapped : {A E : Type 0} {P Q : A → Type 0} (r : Fallible A E) → ((a : A) → P a → Q a) → IfOk r P → IfOk r Q
mapped (Ok a) f p = f a p
mapped (Err e) f p = p

-- the primitive of a number
pub primitive_is : (c : Call) (o : Option Primitive) → option_map row_of o ≡ option_map (λ row. row.1) (find (λ row. row.0 == c.number) rows) → option_map_or (λ p. row_of p c) o (faults (bad_argument c.number)) ≡ primitive c
unfolding primitive
primitive_is c o e =
    first o ∙ ap (λ r. option_map_or (λ f. f c) r (faults (bad_argument c.number))) e ∙ second (find (λ row. row.0 == c.number) rows)
  where
    first : (o : Option Primitive) → option_map_or (λ p. row_of p c) o (faults (bad_argument c.number)) ≡ option_map_or (λ f. f c) (option_map row_of o) (faults (bad_argument c.number))
    first None = refl
    first (Some p) = refl

    second : (r : Option (ℕ × (Call → PrimResult))) → option_map_or (λ f. f c) (option_map (λ row. row.1) r) (faults (bad_argument c.number)) ≡ option_map_or (λ row. row.1 c) r (faults (bad_argument c.number))
    second None = refl
    second (Some row) = refl
