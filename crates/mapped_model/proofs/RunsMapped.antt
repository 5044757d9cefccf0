-- Evaluation of resolved code with mapped names.
use Rattle.std.proofs.Common.{◌≡◌, ℕ, zero, suc, List, [], ◌∷◌, ◌++◌, length, Option, Some, None, refl, sym, ap, ◌∙◌, subst}
use mathlib.Core.Path.{fun_ext}
use Rattle.std.specs.Prelude.{Bool, true, false, ◌+◌, ◌-◌, ◌*◌, if◌then◌else◌, nat_lt, nat_le, map, replicate, set, slice_get, option_map, unwrap_or, codes}
use Rattle.std.proofs.lemmas.List.{map-append, map-set}
use Rattle.std.proofs.lemmas.Option.{slice_get-map}
use Rattle.image_model.proofs.Lists.{length-map}
use Rattle.image_model.specs.ImageNames.{OptionNames}
use Rattle.std.specs.List.{AllByRecursion}
use Rattle.std.proofs.lemmas.Bool.{false≢true}
use Rattle.run_model.proofs.Finite.{by_cases}
use Rattle.run_model.proofs.RenamingLemmas.{text-same}
use Rattle.run_model.specs.Acts.{gives, pays, stops}
use Rattle.rb_base.specs.Names.{text_eq}
use Rattle.tree_model.specs.Tree.{LiteralOf, number, str, symbol, char, array, bytes, word, LiteralsOf, no_literals, more_literals}
use Rattle.run_model.specs.Values.{Name, Value, nil_value, true_value, false_value, int_value, char_value, string_value, symbol_value, class_value, object_value, array_value, closure_value, transcript_value, Event, RunError, does_not_understand, too_long, done}
use Rattle.run_model.specs.Store.{Object, Heap, Store, with_array, value_of, same_pair, field_of, with_field, class_side_of, with_class_side, with_shared, with_cell, object_with, with_objects, Binding, holds, in_cell, Memory, start, returns, ends_by, out_of_ticks, Result, fine, leaves}
use Rattle.run_model.specs.Numbers.{numeral_integer}
use Rattle.run_model.specs.Views.{class_name_of, is_meta}
use Rattle.run_model.specs.Calls.{Call, PrimResult, answers, faults, enters}
use Rattle.run_model.specs.Primitives.{primitive}
use Rattle.run_model.specs.Reading.{reads_pseudo}
use Rattle.run_model.specs.Eval.{word_value, makes_new_array, gives_integer, literal_value, literal_values, tells_any, chooses, goes_on, makes_brace}
use Rattle.run_model.specs.Runs.{seen}
use Rattle.resolved_model.specs.ResolvedTrees.{Reference, of_word, of_local, of_instance_variable, of_class_side_variable, of_class_variable, of_named_class, of_transcript, of_nothing, Target, to_temporary, to_instance_variable, to_class_side_variable, to_class_variable, to_fixed, to_nothing, ResolvedTree, reading, constant, sending, cascading, assigning, block_of, brace_of, returning, ResolvedTrees, no_nodes, more_nodes, ResolvedMessages, no_sends, more_sends, ResolvedStatements, no_lines, more_lines, ResolvedCode}
use Rattle.resolved_model.specs.ResolvedImages.{Doing, by_primitive, by_code, ResolvedMethod, ResolvedImage, finds, finds_above, class_of_doits}
use Rattle.resolved_model.specs.ResolvedActs.{ResolvedFrame, ResolvedClosure, ResolvedAct, resolved_acts, beside, goes_on_with, followed_by}
use Rattle.resolved_model.specs.ResolvedShapes.{ResolvedBranch, runs_code, gives_just, ResolvedShape, chooses_way, repeats, as_message, resolved_shape}
use Rattle.resolved_model.specs.ResolvedEval.{ResolvedTask, at_node, at_turn, values_held, cells_from, within, without_locals, first_frame, parameters_in, reads_super, ResolvedEvaluator, reads_local, reads_reference, assigns_local, assigns_target, lines, node_values, does_code, enters_closure_with, follows_on, does_primitive_of, runs_method, runs_one, sends_to, sends_to_super, sends_message, takes_branch, does_sending, sends_each, returns_to, does_resolved, resolved_step, resolved_eval}
use Rattle.resolved_model.specs.ResolvedRuns.{runs_doit, runs_doits, resolved_comes_to, resolved_run_to, resolved_run}
use Rattle.mapped_model.specs.NameMaps.{NameMaps, IsOneToOne, KeepsWords}
use Rattle.mapped_model.specs.MappedImages.{class_or_none, mapped_reference, mapped_target, mapped_tree, mapped_trees, mapped_messages, mapped_statements, mapped_code, mapped_doing, mapped_method, mapped_class, mapped_image}
use Rattle.mapped_model.specs.MappedRuns.{mapped_event, mapped_error, mapped_run}
use Rattle.mapped_model.proofs.Tests.{text-mapped, pair-mapped, value_of-mapped, with_value-mapped, get_or-after}
use Rattle.mapped_model.proofs.LookupsMapped.{finds-after, finds_above-after, doits-after}
use Rattle.mapped_model.proofs.ValuesMapped.{mapped_value, mapped_object, mapped_heap, meta-after, class_name-after, view-after, with_array-after}
use Rattle.mapped_model.proofs.PrimitivesMapped.{mapped_result, nils-after, primitive-after}
use Rattle.mapped_model.proofs.ShapesMapped.{mapped_branch, mapped_shape, super-after, shape-after}
use Rattle.mapped_model.specs.OwnVariables.{OwnReference, OwnTarget, OwnTree, OwnTrees, OwnMessages, OwnStatements, OwnDoing}
use Rattle.mapped_model.proofs.StoresMapped.{mapped_side, mapped_memory, mapped_store, mapped_binding, mapped_frame, mapped_closure, mapped_end, Maps, gives-maps, then_maps, memory-maps, tells-maps, pays-maps}
use Rattle.mapped_model.proofs.Objects.{Later, at-once, set-later}
use Rattle.mapped_model.proofs.OwnShapes.{OwnCode, OwnBranch, OwnShape, shape-own}
use Rattle.mapped_model.proofs.Homes.{IsSuited, RunsOn, runs_on-later, Stands, OwnIn, StandsClosure, stand-each, SuitsOn, found-suits, above-suits}
use Rattle.mapped_model.proofs.PrimitivesKeep.{KeepsClasses, primitive-keeps}
use Rattle.mapped_model.proofs.HeldActs.{objects_in, Given, Stand, Held, Holds, gives-holds, fails-holds, goes_home-holds, stops-holds, tells-holds, pays-holds, memory-holds, keeps-holds, then-known, then_holds, looks-then, memory-then, home-holds, answer-kept}

module _ (f : NameMaps) (single : IsOneToOne f) (kept : KeepsWords f) (Instance : Name → Name → Type 0) (ClassSide : Name → Bool → Name → Type 0) where
  -- a value
  abbrev mv : Value → Value
  mv v = mapped_value f v

  -- from such objects on, the second act does with mapped names what the first does
  abbrev Does : List Object → ResolvedAct Value → ResolvedAct Value → Type 0
  Does os m m' = Holds f Instance ClassSide os mv m m'

  -- the same of acts that give lists of values
  abbrev DoesEach : List Object → ResolvedAct (List Value) → ResolvedAct (List Value) → Type 0
  DoesEach os m m' = Holds f Instance ClassSide os (map mv) m m'

  -- the class of a home, and a frame that stands there
  abbrev home_class : ResolvedFrame → Name
  home_class x = class_or_none x.home.class

  abbrev StandsIn : List Object → ResolvedFrame → Type 0
  StandsIn os x = Stands f Instance ClassSide os x

  -- by a condition
  either : (os : List Object) (b : Bool) (m n m' n' : ResolvedAct Value) → Does os m m' → Does os n n' → Does os (if b then m else n) (if b then m' else n')
  either os true m n m' n' p q = p
  either os false m n m' n' p q = q

  -- giving
  giving : (os : List Object) (v : Value) → Does os (resolved_acts.plain.gives v) (resolved_acts.plain.gives (mv v))
  giving os v = gives-holds f Instance ClassSide os mv v

  -- failing
  failing : (os : List Object) (e : RunError) → Does os (resolved_acts.plain.fails e) (resolved_acts.plain.fails (mapped_error f e))
  failing os e = fails-holds f Instance ClassSide os mv e

  -- reading and changing the memory
  remembering : {A : Type 0} (os : List Object) (g : A → A) (l l' : Memory → A × Memory) → ((m : Memory) → l' (mapped_memory f m) ≡ (g (l m).0, mapped_memory f (l m).1)) → ((m : Memory) → Later m.heap.objects (l m).1.heap.objects) → Holds f Instance ClassSide os g (resolved_acts.plain.with_memory l) (resolved_acts.plain.with_memory l')
  remembering os g l l' e p = memory-holds f Instance ClassSide os g l l' (λ m q. e m) p

  -- the same for a value, where objects stay as they are
  plainly : (os : List Object) (l l' : Memory → Value × Memory) → ((m : Memory) → l' (mapped_memory f m) ≡ (mv (l m).0, mapped_memory f (l m).1)) → ((m : Memory) → Later m.heap.objects (l m).1.heap.objects) → Does os (resolved_acts.plain.with_memory l) (resolved_acts.plain.with_memory l')
  plainly os l l' e p = remembering os mv l l' e p

  -- going on with a value
  going_on : (os : List Object) (m m' : ResolvedAct Value) (k k' : Value → ResolvedAct Value) → Does os m m' → ((v : Value) → Does os (k v) (k' (mv v))) → Does os (resolved_acts.plain.and_then m k) (resolved_acts.plain.and_then m' k')
  going_on os m m' k k' p q = then_holds f Instance ClassSide os mv mv m m' k k' p q

  -- going on with values
  going_on_each : (os : List Object) (m m' : ResolvedAct (List Value)) (k k' : List Value → ResolvedAct Value) → DoesEach os m m' → ((vs : List Value) → Does os (k vs) (k' (map mv vs))) → Does os (resolved_acts.plain.and_then m k) (resolved_acts.plain.and_then m' k')
  going_on_each os m m' k k' p q = then_holds f Instance ClassSide os (map mv) mv m m' k k' p q

  -- going on with a number, or another thing in which no name is
  going_on_same : {A : Type 0} (os : List Object) (m m' : ResolvedAct A) (k k' : A → ResolvedAct Value) → Holds f Instance ClassSide os (λ a. a) m m' → ((a : A) → Does os (k a) (k' a)) → Does os (resolved_acts.plain.and_then m k) (resolved_acts.plain.and_then m' k')
  going_on_same os m m' k k' p q = then_holds f Instance ClassSide os (λ a. a) mv m m' k k' p q

  -- the name of an instance variable of an object that there may be
  abbrev called : Option Object → Name → Name → Type 0
  called o t n = (d : Name) → OptionNames (λ (x : Object). x.class ≡ d) o → t ≡ f.instance (d, n)

  -- reading a field of an object that there may be
  field-by : (o : Option Object) (t n : Name) → called o t n → unwrap_or (option_map (λ (x : Object). value_of text_eq x.fields t) (option_map (mapped_object f) o)) nil_value ≡ mv (unwrap_or (option_map (λ (x : Object). value_of text_eq x.fields n) o) nil_value)
  field-by (Some x) t n e = ap (value_of text_eq (map (λ y. (f.instance (x.class, y.0), mv y.1)) x.fields)) (e x.class refl) ∙ value_of-mapped text_eq (λ z. f.instance (x.class, z)) (text-mapped (λ z. f.instance (x.class, z)) (single.instance x.class)) mv refl x.fields n
  field-by None t n e = refl

  -- reading a field
  field-after : (m : Memory) (k : ℕ) (t n : Name) → called (slice_get m.heap.objects k) t n → field_of (mapped_memory f m) (object_value k) t ≡ mv (field_of m (object_value k) n)
  field-after m k t n e = ap (λ o. unwrap_or (option_map (λ (x : Object). value_of text_eq x.fields t) o) nil_value) (slice_get-map (mapped_object f) m.heap.objects k) ∙ field-by (slice_get m.heap.objects k) t n e

  -- an object with a value for an instance variable
  object-after : (x : Object) (n : Name) (u : Value) → object_with (mapped_object f x) (f.instance (x.class, n)) (mv u) ≡ mapped_object f (object_with x n u)
  object-after x n u = ap (λ l. record { class = f.class x.class; fields = l }) (with_value-mapped text_eq (λ z. f.instance (x.class, z)) (text-mapped (λ z. f.instance (x.class, z)) (single.instance x.class)) mv refl x.fields n u)

  -- storing in a field of an object that there may be
  with_field-by : (m : Memory) (k : ℕ) (t n : Name) (u : Value) (o : Option Object) → called o t n →
      unwrap_or (option_map (λ x. with_objects (mapped_memory f m) (set (map (mapped_object f) m.heap.objects) k (object_with x t (mv u)))) (option_map (mapped_object f) o)) (mapped_memory f m)
      ≡ mapped_memory f (unwrap_or (option_map (λ x. with_objects m (set m.heap.objects k (object_with x n u))) o) m)
  with_field-by m k t n u (Some x) e =
      ap (λ y. with_objects (mapped_memory f m) (set (map (mapped_object f) m.heap.objects) k y)) (ap (λ z. object_with (mapped_object f x) z (mv u)) (e x.class refl) ∙ object-after x n u)
      ∙ ap (λ l. with_objects (mapped_memory f m) l) (sym (map-set (mapped_object f) m.heap.objects k (object_with x n u)))
  with_field-by m k t n u None e = refl

  -- storing in a field
  with_field-after : (m : Memory) (k : ℕ) (t n : Name) (u : Value) → called (slice_get m.heap.objects k) t n → with_field (mapped_memory f m) (object_value k) t (mv u) ≡ mapped_memory f (with_field m (object_value k) n u)
  with_field-after m k t n u e =
      ap (λ o. unwrap_or (option_map (λ x. with_objects (mapped_memory f m) (set (map (mapped_object f) m.heap.objects) k (object_with x t (mv u)))) o) (mapped_memory f m)) (slice_get-map (mapped_object f) m.heap.objects k)
      ∙ with_field-by m k t n u (slice_get m.heap.objects k) e

  -- objects keep their classes where a field is stored
  with_field-later : (m : Memory) (v : Value) (n : Name) (u : Value) → Later m.heap.objects (with_field m v n u).heap.objects
  with_field-later m (object_value k) n u = by (slice_get m.heap.objects k) refl
    where
      by : (o : Option Object) → slice_get m.heap.objects k ≡ o → Later m.heap.objects (unwrap_or (option_map (λ x. with_objects m (set m.heap.objects k (object_with x n u))) o) m).heap.objects
      by (Some x) e = set-later m.heap.objects k x (object_with x n u) e refl
      by None e = at-once m.heap.objects
  with_field-later m nil_value n u = at-once m.heap.objects
  with_field-later m true_value n u = at-once m.heap.objects
  with_field-later m false_value n u = at-once m.heap.objects
  with_field-later m (int_value z) n u = at-once m.heap.objects
  with_field-later m (char_value b) n u = at-once m.heap.objects
  with_field-later m (string_value t) n u = at-once m.heap.objects
  with_field-later m (symbol_value t) n u = at-once m.heap.objects
  with_field-later m (class_value c) n u = at-once m.heap.objects
  with_field-later m (array_value k) n u = at-once m.heap.objects
  with_field-later m (closure_value k) n u = at-once m.heap.objects
  with_field-later m transcript_value n u = at-once m.heap.objects

  -- and where a class-instance variable is
  with_class_side-later : (m : Memory) (v : Value) (n : Name) (u : Value) → Later m.heap.objects (with_class_side m v n u).heap.objects
  with_class_side-later m (class_value c) n u = at-once m.heap.objects
  with_class_side-later m nil_value n u = at-once m.heap.objects
  with_class_side-later m true_value n u = at-once m.heap.objects
  with_class_side-later m false_value n u = at-once m.heap.objects
  with_class_side-later m (int_value z) n u = at-once m.heap.objects
  with_class_side-later m (char_value b) n u = at-once m.heap.objects
  with_class_side-later m (string_value t) n u = at-once m.heap.objects
  with_class_side-later m (symbol_value t) n u = at-once m.heap.objects
  with_class_side-later m (object_value k) n u = at-once m.heap.objects
  with_class_side-later m (array_value k) n u = at-once m.heap.objects
  with_class_side-later m (closure_value k) n u = at-once m.heap.objects
  with_class_side-later m transcript_value n u = at-once m.heap.objects

  -- class-instance variables are told apart
  side-one : (j k : Name × Name) → mapped_side f j ≡ mapped_side f k → j ≡ k
  side-one j k e =
      let c : j.0 ≡ k.0 = single.class j.0 k.0 (ap (λ (p : Name × Name). p.0) e) in
      λ i. (c i, single.class_side k.0 j.1 k.1 (subst (λ d. f.class_side (d, j.1) ≡ f.class_side (k.0, k.1)) c (ap (λ (p : Name × Name). p.1) e)) i)

  side-test : (j k : Name × Name) → same_pair (mapped_side f j) (mapped_side f k) ≡ same_pair j k
  side-test j k = pair-mapped (mapped_side f) side-one j k

  -- reading a class-instance variable
  class_side-after : (m : Memory) (c t n : Name) → t ≡ f.class_side (c, n) → class_side_of (mapped_memory f m) (class_value (f.class c)) t ≡ mv (class_side_of m (class_value c) n)
  class_side-after m c t n e = ap (λ z. value_of same_pair (mapped_memory f m).class_side (f.class c, z)) e ∙ value_of-mapped same_pair (mapped_side f) side-test mv refl m.class_side (c, n)

  -- storing in a class-instance variable
  with_class_side-after : (m : Memory) (c t n : Name) (u : Value) → t ≡ f.class_side (c, n) → with_class_side (mapped_memory f m) (class_value (f.class c)) t (mv u) ≡ mapped_memory f (with_class_side m (class_value c) n u)
  with_class_side-after m c t n u e = ap (λ z. with_class_side (mapped_memory f m) (class_value (f.class c)) z (mv u)) e ∙ ap (λ l. record (mapped_memory f m) { class_side = l }) (with_value-mapped same_pair (mapped_side f) side-test mv refl m.class_side (c, n) u)

  -- reading a class variable
  shared-after : (m : Memory) (k : Name × Name) → value_of same_pair (mapped_memory f m).shared (f.shared k) ≡ mv (value_of same_pair m.shared k)
  shared-after m k = value_of-mapped same_pair f.shared (pair-mapped f.shared single.shared) mv refl m.shared k

  -- storing in a class variable
  with_shared-after : (m : Memory) (c n : Name) (u : Value) → with_shared (mapped_memory f m) (f.shared (c, n)).0 (f.shared (c, n)).1 (mv u) ≡ mapped_memory f (with_shared m c n u)
  with_shared-after m c n u = ap (λ l. record (mapped_memory f m) { shared = l }) (with_value-mapped same_pair f.shared (pair-mapped f.shared single.shared) mv refl m.shared (c, n) u)

  -- storing in a cell
  with_cell-after : (m : Memory) (k : ℕ) (u : Value) → with_cell (mapped_memory f m) k (mv u) ≡ mapped_memory f (with_cell m k u)
  with_cell-after m k u = ap (λ l. record (mapped_memory f m) { cells = l }) (sym (map-set mv m.cells k u))

  -- reading an instance variable of what code runs on
  own_field : (os : List Object) (c : Name) (meta : Bool) (v : Value) (n : Name) → RunsOn f Instance ClassSide os c meta v → Instance c n → (m : Memory) → Later os m.heap.objects → field_of (mapped_memory f m) (mv v) (f.instance (c, n)) ≡ mv (field_of m v n)
  own_field os c meta (object_value k) n h own m l = field-after m k (f.instance (c, n)) n (λ d t. (h.1 d (l k d t) n own).1)
  own_field os c meta (class_value d) n h own m l = refl
  own_field os c meta v n h own m l = refl

  -- storing in it
  with_own_field : (os : List Object) (c : Name) (meta : Bool) (v : Value) (n : Name) (u : Value) → RunsOn f Instance ClassSide os c meta v → Instance c n → (m : Memory) → Later os m.heap.objects → with_field (mapped_memory f m) (mv v) (f.instance (c, n)) (mv u) ≡ mapped_memory f (with_field m v n u)
  with_own_field os c meta (object_value k) n u h own m l = with_field-after m k (f.instance (c, n)) n u (λ d t. (h.1 d (l k d t) n own).1)
  with_own_field os c meta (class_value d) n u h own m l = refl
  with_own_field os c meta v n u h own m l = refl

  -- reading a class-instance variable of what code runs on
  own_side : (os : List Object) (c : Name) (meta : Bool) (v : Value) (n : Name) → RunsOn f Instance ClassSide os c meta v → ClassSide c meta n → (m : Memory) → class_side_of (mapped_memory f m) (mv v) (f.class_side (c, n)) ≡ mv (class_side_of m v n)
  own_side os c meta (class_value d) n h own m = class_side-after m d (f.class_side (c, n)) n (h n own).1
  own_side os c meta v n h own m = refl

  -- storing in it
  with_own_side : (os : List Object) (c : Name) (meta : Bool) (v : Value) (n : Name) (u : Value) → RunsOn f Instance ClassSide os c meta v → ClassSide c meta n → (m : Memory) → with_class_side (mapped_memory f m) (mv v) (f.class_side (c, n)) (mv u) ≡ mapped_memory f (with_class_side m v n u)
  with_own_side os c meta (class_value d) n u h own m = with_class_side-after m d (f.class_side (c, n)) n u (h n own).1
  with_own_side os c meta v n u h own m = refl

  -- reading a pseudo-variable
  pseudo-after : (os : List Object) (x : ResolvedFrame) (n : Name) → Does os (reads_pseudo resolved_acts.plain (without_locals x) n) (reads_pseudo resolved_acts.plain (without_locals (mapped_frame f x)) n)
  pseudo-after os x n =
      either os (text_eq n (codes "nil")) _ _ _ _ (giving os _)
      (either os (text_eq n (codes "true")) _ _ _ _ (giving os _)
      (either os (text_eq n (codes "false")) _ _ _ _ (giving os _)
      (either os (text_eq n (codes "thisContext")) _ _ _ _ (failing os _) (giving os _))))

  -- reading a local that there may be
  local-after : (os : List Object) (o : Option Binding) → Does os (reads_local resolved_acts o) (reads_local resolved_acts (option_map (mapped_binding f) o))
  local-after os (Some (holds v)) = giving os _
  local-after os (Some (in_cell k)) = plainly os _ _ (λ m. ap (λ v. (v, mapped_memory f m)) (get_or-after mv nil_value m.cells k)) (λ m. at-once m.heap.objects)
  local-after os None = giving os _

  -- reading under a name
  reference-after : (os : List Object) (x : ResolvedFrame) (r : Reference) → StandsIn os x → OwnReference (Instance (home_class x)) (ClassSide (home_class x) x.home.meta) r → Does os (reads_reference resolved_acts x r) (reads_reference resolved_acts (mapped_frame f x) (mapped_reference f (home_class x) r))
  reference-after os x (of_word n) h own = pseudo-after os x n
  reference-after os x (of_local k) h own = subst (λ o. Does os (reads_local resolved_acts (slice_get x.locals k)) (reads_local resolved_acts o)) (sym (slice_get-map (mapped_binding f) x.locals k)) (local-after os (slice_get x.locals k))
  reference-after os x (of_instance_variable n) h own =
      memory-holds f Instance ClassSide os mv _ _ (λ m l. ap (λ v. (v, mapped_memory f m)) (own_field os (home_class x) x.home.meta x.me n h own m l)) (λ m. at-once m.heap.objects)
  reference-after os x (of_class_side_variable n) h own = plainly os _ _ (λ m. ap (λ v. (v, mapped_memory f m)) (own_side os (home_class x) x.home.meta x.me n h own m)) (λ m. at-once m.heap.objects)
  reference-after os x (of_class_variable c n) h own = plainly os _ _ (λ m. ap (λ v. (v, mapped_memory f m)) (shared-after m (c, n))) (λ m. at-once m.heap.objects)
  reference-after os x (of_named_class c) h own = giving os _
  reference-after os x of_transcript h own = giving os _
  reference-after os x (of_nothing n) h own = failing os _

  -- assigning a local that there may be
  local-assigned : (os : List Object) (v : Value) (o : Option Binding) → Does os (assigns_local resolved_acts v o) (assigns_local resolved_acts (mv v) (option_map (mapped_binding f) o))
  local-assigned os v (Some (holds u)) = giving os _
  local-assigned os v (Some (in_cell k)) = plainly os _ _ (λ m. ap (λ x. (mv v, x)) (with_cell-after m k v)) (λ m. at-once m.heap.objects)
  local-assigned os v None = giving os _

  -- assigning under a name
  target-after : (os : List Object) (x : ResolvedFrame) (v : Value) (t : Target) → StandsIn os x → OwnTarget (Instance (home_class x)) (ClassSide (home_class x) x.home.meta) t → Does os (assigns_target resolved_acts x v t) (assigns_target resolved_acts (mapped_frame f x) (mv v) (mapped_target f (home_class x) t))
  target-after os x v (to_temporary k) h own = subst (λ o. Does os (assigns_local resolved_acts v (slice_get x.locals k)) (assigns_local resolved_acts (mv v) o)) (sym (slice_get-map (mapped_binding f) x.locals k)) (local-assigned os v (slice_get x.locals k))
  target-after os x v (to_instance_variable n) h own =
      memory-holds f Instance ClassSide os mv _ _ (λ m l. ap (λ y. (mv v, y)) (with_own_field os (home_class x) x.home.meta x.me n v h own m l)) (λ m. with_field-later m x.me n v)
  target-after os x v (to_class_side_variable n) h own = plainly os _ _ (λ m. ap (λ y. (mv v, y)) (with_own_side os (home_class x) x.home.meta x.me n v h own m)) (λ m. with_class_side-later m x.me n v)
  target-after os x v (to_class_variable c n) h own = plainly os _ _ (λ m. ap (λ y. (mv v, y)) (with_shared-after m c n v)) (λ m. at-once m.heap.objects)
  target-after os x v (to_fixed n) h own = failing os _
  target-after os x v (to_nothing n) h own = failing os _

  -- a literal integer
  integer-after : (os : List Object) (o : Option _) → Does os (gives_integer resolved_acts.plain o) (gives_integer resolved_acts.plain o)
  integer-after os (Some z) = giving os _
  integer-after os None = failing os _

  -- the value of a word in an array
  word-after : (a b : Bool) → mv (if a then true_value else if b then false_value else nil_value) ≡ (if a then true_value else if b then false_value else nil_value)
  word-after true b = refl
  word-after false true = refl
  word-after false false = refl

  -- a new array
  array-after : (os : List Object) (vs : List Value) → Does os (makes_new_array resolved_acts.plain vs) (makes_new_array resolved_acts.plain (map mv vs))
  array-after os vs =
      plainly os _ _
      (λ m. ap (λ n. (array_value n, record (mapped_memory f m) { heap = with_array (mapped_heap f m.heap) (map mv vs) })) (length-map (map mv) m.heap.arrays)
      ∙ ap (λ h. (array_value (length m.heap.arrays), record (mapped_memory f m) { heap = h })) (with_array-after f m.heap vs))
      (λ m. at-once m.heap.objects)

  mutual
    -- literals
    literal-after : (os : List Object) (l : LiteralOf Name) → Does os (literal_value resolved_acts.plain l) (literal_value resolved_acts.plain l)
    literal-after os (number t) = integer-after os (numeral_integer t)
    literal-after os (str t) = giving os _
    literal-after os (symbol t) = giving os _
    literal-after os (char b) = giving os _
    literal-after os (array ls) = going_on_each os _ _ _ _ (literals-after os ls) (λ vs. array-after os vs)
    literal-after os (bytes ls) = failing os _
    literal-after os (word n) = subst (λ v. Does os (resolved_acts.plain.gives (word_value n)) (resolved_acts.plain.gives v)) (word-after (text_eq n (codes "true")) (text_eq n (codes "false"))) (giving os (word_value n))

    literals-after : (os : List Object) (ls : LiteralsOf Name) → DoesEach os (literal_values resolved_acts.plain ls) (literal_values resolved_acts.plain ls)
    literals-after os no_literals = gives-holds f Instance ClassSide os (map mv) []
    literals-after os (more_literals l ls) = then_holds f Instance ClassSide os mv (map mv) _ _ _ _ (literal-after os l) (λ v. then_holds f Instance ClassSide os (map mv) (map mv) _ _ _ _ (literals-after os ls) (λ vs. gives-holds f Instance ClassSide os (map mv) (v ∷ vs)))

  -- an event, if there is one
  event-after : (os : List Object) (o : Option Event) → Does os (tells_any resolved_acts.plain o) (tells_any resolved_acts.plain (option_map (mapped_event f) o))
  event-after os (Some e) = tells-holds f Instance ClassSide os mv e nil_value
  event-after os None = giving os _

  -- a tested value
  choice-after : (os : List Object) (v : Value) (a b a' b' : ResolvedAct Value) → Does os a a' → Does os b b' → Does os (chooses resolved_acts.plain v a b) (chooses resolved_acts.plain (mv v) a' b')
  choice-after os true_value a b a' b' p q = p
  choice-after os false_value a b a' b' p q = q
  choice-after os nil_value a b a' b' p q = failing os _
  choice-after os (int_value z) a b a' b' p q = failing os _
  choice-after os (char_value c) a b a' b' p q = failing os _
  choice-after os (string_value t) a b a' b' p q = failing os _
  choice-after os (symbol_value t) a b a' b' p q = failing os _
  choice-after os (class_value c) a b a' b' p q = failing os _
  choice-after os (object_value k) a b a' b' p q = failing os _
  choice-after os (array_value k) a b a' b' p q = failing os _
  choice-after os (closure_value k) a b a' b' p q = failing os _
  choice-after os transcript_value a b a' b' p q = failing os _

  -- whether a loop goes on
  again-after : (os : List Object) (sense : Bool) (v : Value) (m m' : ResolvedAct Value) → Does os m m' → Does os (goes_on resolved_acts.plain sense v m) (goes_on resolved_acts.plain sense (mv v) m')
  again-after os true v m m' p = choice-after os v _ _ _ _ p (giving os _)
  again-after os false v m m' p = choice-after os v _ _ _ _ (giving os _) p

  -- a return
  return-after : (os : List Object) (x : ResolvedFrame) (v : Value) (b : Bool) → Does os (returns_to resolved_acts x v b) (returns_to resolved_acts (mapped_frame f x) (mv v) b)
  return-after os x v true = goes_home-holds f Instance ClassSide os mv x.home.number v
  return-after os x v false = failing os _

  -- closures have as many parameters
  arity-after : (cs : List ResolvedClosure) → parameters_in (map (mapped_closure f) cs) ≡ parameters_in cs
  arity-after cs = fun_ext (λ k. ap (λ o. unwrap_or (option_map (λ (c : ResolvedClosure). c.code.parameters) o) 0) (slice_get-map (mapped_closure f) cs k) ∙ by (slice_get cs k))
    where
      by : (o : Option ResolvedClosure) → unwrap_or (option_map (λ (c : ResolvedClosure). c.code.parameters) (option_map (mapped_closure f) o)) 0 ≡ unwrap_or (option_map (λ (c : ResolvedClosure). c.code.parameters) o) 0
      by (Some c) = refl
      by None = refl

  -- arguments with values
  held-after : (n : ℕ) (vs : List Value) → values_held n (map mv vs) ≡ map (mapped_binding f) (values_held n vs)
  held-after zero vs = refl
  held-after (suc n) [] = ap (λ l. holds nil_value ∷ l) (held-after n [])
  held-after (suc n) (v ∷ vs) = ap (λ l. holds (mv v) ∷ l) (held-after n vs)

  -- temporaries with cells
  cells-after : (n k : ℕ) → cells_from n k ≡ map (mapped_binding f) (cells_from n k)
  cells-after zero k = refl
  cells-after (suc n) k = ap (λ l. in_cell k ∷ l) (cells-after n (suc k))

  -- the frame inside
  within-after : (x : ResolvedFrame) (vs : List Value) (n t k : ℕ) → within (mapped_frame f x) (values_held n (map mv vs) ++ cells_from t k) ≡ mapped_frame f (within x (values_held n vs ++ cells_from t k))
  within-after x vs n t k =
      ap (λ l. record (mapped_frame f x) { locals = l })
      ((λ i. (held-after n vs i ++ cells-after t k i) ++ map (mapped_binding f) x.locals)
      ∙ ap (λ l. l ++ map (mapped_binding f) x.locals) (sym (map-append (mapped_binding f) (values_held n vs) (cells_from t k)))
      ∙ sym (map-append (mapped_binding f) (values_held n vs ++ cells_from t k) x.locals))

  -- a task
  abbrev mapped_task : ResolvedTask → ResolvedTask
  mapped_task (at_node x t) = at_node (mapped_frame f x) (mapped_tree f (home_class x) t)
  mapped_task (at_turn x sense a b) = at_turn (mapped_frame f x) sense (mapped_code f (home_class x) a) (mapped_code f (home_class x) b)

  -- where it stands, and that it has no variables but its own
  abbrev StandsTask : List Object → ResolvedTask → Type 0
  StandsTask os (at_node x t) = StandsIn os x × OwnTree (Instance (home_class x)) (ClassSide (home_class x) x.home.meta) t
  StandsTask os (at_turn x sense a b) = StandsIn os x × OwnIn f Instance ClassSide x a × OwnIn f Instance ClassSide x b

  -- what `super` gives
  abbrev GivesSelf : ResolvedEvaluator resolved_acts → Type 0
  GivesSelf go = (x : ResolvedFrame) (t : ResolvedTree) (cs : List ResolvedClosure) (s : Store) → Given (λ v. reads_super t ≡ true → v ≡ x.me) (go (at_node x t) cs s).0

  module _ (i : ResolvedImage) (suited : IsSuited f Instance ClassSide i) (go go' : ResolvedEvaluator resolved_acts) (tasks : (os : List Object) (t : ResolvedTask) → StandsTask os t → Does os (go t) (go' (mapped_task t))) (supers : GivesSelf go) where
    -- statements
    lines-after : (os : List Object) (x : ResolvedFrame) (v : Value) (ss : ResolvedStatements) → StandsIn os x → OwnStatements (Instance (home_class x)) (ClassSide (home_class x) x.home.meta) ss → Does os (lines resolved_acts go x v ss) (lines resolved_acts go' (mapped_frame f x) (mv v) (mapped_statements f (home_class x) ss))
    lines-after os x v no_lines h own = giving os _
    lines-after os x v (more_lines t ss) h own = going_on os _ _ _ _ (tasks os (at_node x t) (h, own.0)) (λ u. lines-after os x u ss h own.1)

    -- arguments
    values-after : (os : List Object) (x : ResolvedFrame) (ts : ResolvedTrees) → StandsIn os x → OwnTrees (Instance (home_class x)) (ClassSide (home_class x) x.home.meta) ts → DoesEach os (node_values resolved_acts go x ts) (node_values resolved_acts go' (mapped_frame f x) (mapped_trees f (home_class x) ts))
    values-after os x no_nodes h own = gives-holds f Instance ClassSide os (map mv) []
    values-after os x (more_nodes t ts) h own =
        then_holds f Instance ClassSide os mv (map mv) _ _ _ _ (tasks os (at_node x t) (h, own.0))
        (λ v. then_holds f Instance ClassSide os (map mv) (map mv) _ _ _ _ (values-after os x ts h own.1) (λ vs. gives-holds f Instance ClassSide os (map mv) (v ∷ vs)))

    -- code
    code-after : (os : List Object) (x : ResolvedFrame) (vs : List Value) (c : ResolvedCode) → StandsIn os x → OwnIn f Instance ClassSide x c → Does os (does_code resolved_acts go x vs c) (does_code resolved_acts go' (mapped_frame f x) (map mv vs) (mapped_code f (home_class x) c))
    code-after os x vs c h own =
        going_on_same os _ _ _ _
        (remembering os (λ n. n) _ _ (λ m. λ j. (length-map mv m.cells j, record (mapped_memory f m) { cells = (ap (λ l. map mv m.cells ++ l) (sym (nils-after f c.temporaries)) ∙ sym (map-append mv m.cells (replicate c.temporaries nil_value))) j })) (λ m. at-once m.heap.objects))
        (λ k. subst (λ y. Does os (lines resolved_acts go (within x (values_held c.parameters vs ++ cells_from c.temporaries k)) nil_value c.statements) (lines resolved_acts go' y nil_value (mapped_statements f (home_class x) c.statements))) (sym (within-after x vs c.parameters c.temporaries k))
        (lines-after os (within x (values_held c.parameters vs ++ cells_from c.temporaries k)) nil_value c.statements h own))

    -- a closure
    enters-after : (os : List Object) (o : Option ResolvedClosure) (args : List Value) → OptionNames (StandsClosure f Instance ClassSide os) o → Does os (enters_closure_with resolved_acts go o args) (enters_closure_with resolved_acts go' (option_map (mapped_closure f) o) (map mv args))
    enters-after os (Some c) args h = code-after os c.frame args c.code h.0 h.1
    enters-after os None args h = failing os _

    -- what follows on an answer of a primitive
    answer-maps : (args : List Value) (n : ℕ) (told : Option Event) (v : Value) (h : Heap) → Maps f mv (follows_on resolved_acts go args (answers n told v h)) (follows_on resolved_acts go' (map mv args) (mapped_result f (answers n told v h)))
    answer-maps args n told v h = then_maps f mv mv _ _ _ _ (pays-maps f mv n nil_value) (λ u. then_maps f mv mv _ _ _ _ (event-maps told) (λ u. memory-maps f mv _ _ (λ m. refl)))
      where
        event-maps : (o : Option Event) → Maps f mv (tells_any resolved_acts.plain o) (tells_any resolved_acts.plain (option_map (mapped_event f) o))
        event-maps (Some e) = tells-maps f mv e nil_value
        event-maps None = gives-maps f mv nil_value

    -- what a primitive comes to
    follows-after : (args : List Value) (r : PrimResult) (cs : List ResolvedClosure) (s : Store) → KeepsClasses (objects_in s) r → Stand f Instance ClassSide (objects_in s) cs → Held f Instance ClassSide mv (follows_on resolved_acts go args r) (follows_on resolved_acts go' (map mv args) (mapped_result f r)) cs s
    follows-after args (answers n told v h) cs s p q =
        let kept = answer-kept f Instance ClassSide n told v h cs s p q in
        record { same = answer-maps args n told v h cs s; later = kept.0; stand = kept.1 }
    follows-after args (faults e) cs s p q = failing (objects_in s) e cs s (at-once (objects_in s)) q
    follows-after args (enters k) cs s p q =
        looks-then f Instance ClassSide (objects_in s) mv (λ ds m. slice_get ds k) (λ ds m. slice_get ds k) _ _
        (λ ds t l stand. subst (λ o. Held f Instance ClassSide mv (enters_closure_with resolved_acts go (slice_get ds k) args) (enters_closure_with resolved_acts go' o (map mv args)) ds t) (sym (slice_get-map (mapped_closure f) ds k))
        (enters-after (objects_in t) (slice_get ds k) args (stand-each f Instance ClassSide (objects_in t) ds k stand) ds t (at-once (objects_in t)) stand))
        cs s (at-once (objects_in s)) q

    -- a primitive
    primitive_of-after : (os : List Object) (n : ℕ) (v : Value) (args : List Value) → Does os (does_primitive_of resolved_acts i go n v args) (does_primitive_of resolved_acts (mapped_image f i) go' n (mv v) (map mv args))
    primitive_of-after os n v args =
        looks-then f Instance ClassSide os mv
        (λ cs m. primitive (record { number = n; receiver = v; arguments = args; heap = m.heap; arity = parameters_in cs; classes = i.classes }))
        (λ cs m. primitive (record { number = n; receiver = mv v; arguments = map mv args; heap = m.heap; arity = parameters_in cs; classes = map (mapped_class f) i.classes })) _ _
        (λ cs s l stand.
        let c : Call = record { number = n; receiver = v; arguments = args; heap = s.memory.heap; arity = parameters_in cs; classes = i.classes } in
        subst (λ r. Held f Instance ClassSide mv (follows_on resolved_acts go args (primitive c)) (follows_on resolved_acts go' (map mv args) r) cs s)
        (sym (ap (λ a. primitive (record { number = n; receiver = mv v; arguments = map mv args; heap = (mapped_memory f s.memory).heap; arity = a; classes = map (mapped_class f) i.classes })) (arity-after cs) ∙ primitive-after f single kept c))
        (follows-after args (primitive c) cs s (primitive-keeps c) stand))

    -- a method
    method-after : (os : List Object) (m : ResolvedMethod) (d : Doing) (v : Value) (args : List Value) → RunsOn f Instance ClassSide os (class_or_none m.class) m.meta v → OwnDoing (Instance (class_or_none m.class)) (ClassSide (class_or_none m.class) m.meta) d →
        Does os (runs_method resolved_acts i go m d v args) (runs_method resolved_acts (mapped_image f i) go' (mapped_method f m) (mapped_doing f (class_or_none m.class) d) (mv v) (map mv args))
    method-after os m (by_primitive n) v args h own = primitive_of-after os n v args
    method-after os m (by_code c) v args h own =
        going_on_same os _ _ _ _ (remembering os (λ n. n) _ _ (λ x. refl) (λ x. at-once x.heap.objects))
        (λ k. home-holds f Instance ClassSide os k _ _ (going_on os _ _ _ _ (code-after os (first_frame m.class m.meta v k) args c h own) (λ u. giving os _)))

    -- a message that is not understood
    unknown-after : (os : List Object) (v : Value) (s : Name) (args args' : List Value) → Does os (runs_one resolved_acts i go None v s args) (runs_one resolved_acts (mapped_image f i) go' None (mv v) (f.selector s) args')
    unknown-after os v s args args' =
        then_holds f Instance ClassSide os f.class mv _ _ _ _ (remembering os f.class _ _ (λ m. ap (λ c. (c, mapped_memory f m)) (class_name-after f single kept m.heap v)) (λ m. at-once m.heap.objects))
        (λ c. subst (λ b. Does os (resolved_acts.plain.fails (does_not_understand c (is_meta v) s)) (resolved_acts.plain.fails (does_not_understand (f.class c) b (f.selector s)))) (sym (meta-after f v)) (failing os (does_not_understand c (is_meta v) s)))

    -- a method that was found
    one-after : (os : List Object) (o : Option ResolvedMethod) (v : Value) (s : Name) (args : List Value) → OptionNames (SuitsOn f Instance ClassSide i suited os v) o → Does os (runs_one resolved_acts i go o v s args) (runs_one resolved_acts (mapped_image f i) go' (option_map (mapped_method f) o) (mv v) (f.selector s) (map mv args))
    one-after os (Some m) v s args h = method-after os m m.doing v args h.0 h.1
    one-after os None v s args h = unknown-after os v s args (map mv args)

    -- a message
    message-after : (os : List Object) (v : Value) (s : Name) (args : List Value) → Does os (sends_to resolved_acts i go v s args) (sends_to resolved_acts (mapped_image f i) go' (mv v) (f.selector s) (map mv args))
    message-after os v s args =
        memory-then f Instance ClassSide os mv (λ m. class_name_of m.heap v) (λ m. class_name_of m.heap (mv v)) _ _
        (λ cs t l stand.
        let c : Name = class_name_of t.memory.heap v in
        subst (λ o. Held f Instance ClassSide mv (runs_one resolved_acts i go (finds i (Some c) (is_meta v) s) v s args) (runs_one resolved_acts (mapped_image f i) go' o (mv v) (f.selector s) (map mv args)) cs t)
        (sym ((λ j. finds (mapped_image f i) (Some (class_name-after f single kept t.memory.heap v j)) (meta-after f v j) (f.selector s)) ∙ finds-after f single i kept (Some c) (is_meta v) s))
        (one-after (objects_in t) (finds i (Some c) (is_meta v) s) v s args (found-suits f Instance ClassSide i suited t.memory.heap v s) cs t (at-once (objects_in t)) stand))

    -- a message to `super`
    super_message-after : (os : List Object) (x : ResolvedFrame) (v : Value) (s : Name) (args : List Value) → StandsIn os x → v ≡ x.me → Does os (sends_to_super resolved_acts i go x v s args) (sends_to_super resolved_acts (mapped_image f i) go' (mapped_frame f x) (mv v) (f.selector s) (map mv args))
    super_message-after os x v s args h e =
        subst (λ o. Does os (sends_to_super resolved_acts i go x v s args) (runs_one resolved_acts (mapped_image f i) go' o (mv v) (f.selector s) (map mv args))) (sym (finds_above-after f single i kept x.home.class x.home.meta s))
        (one-after os (finds_above i x.home.class x.home.meta s) v s args (above-suits f Instance ClassSide i suited os x v s (subst (λ z. RunsOn f Instance ClassSide os (home_class x) x.home.meta z) (sym e) h)))

    -- by whether it is one to `super`
    sends-by : (os : List Object) (x : ResolvedFrame) (b : Bool) (v : Value) (s : Name) (args : List Value) → StandsIn os x → (b ≡ true → v ≡ x.me) →
        Does os (if b then sends_to_super resolved_acts i go x v s args else sends_to resolved_acts i go v s args) (if b then sends_to_super resolved_acts (mapped_image f i) go' (mapped_frame f x) (mv v) (f.selector s) (map mv args) else sends_to resolved_acts (mapped_image f i) go' (mv v) (f.selector s) (map mv args))
    sends-by os x true v s args h e = super_message-after os x v s args h (e refl)
    sends-by os x false v s args h e = message-after os v s args

    -- the message of a send
    sends-after : (os : List Object) (x : ResolvedFrame) (r : ResolvedTree) (v : Value) (s : Name) (args : List Value) → StandsIn os x → (reads_super r ≡ true → v ≡ x.me) → Does os (sends_message resolved_acts i go x r v s args) (sends_message resolved_acts (mapped_image f i) go' (mapped_frame f x) (mapped_tree f (home_class x) r) (mv v) (f.selector s) (map mv args))
    sends-after os x r v s args h e =
        subst (λ b. Does os (sends_message resolved_acts i go x r v s args) (if b then sends_to_super resolved_acts (mapped_image f i) go' (mapped_frame f x) (mv v) (f.selector s) (map mv args) else sends_to resolved_acts (mapped_image f i) go' (mv v) (f.selector s) (map mv args))) (sym (super-after f (home_class x) r))
        (sends-by os x (reads_super r) v s args h e)

    -- the messages of a cascade
    messages-after : (os : List Object) (x : ResolvedFrame) (v u : Value) (ms : ResolvedMessages) → StandsIn os x → OwnMessages (Instance (home_class x)) (ClassSide (home_class x) x.home.meta) ms → Does os (sends_each resolved_acts i go x v u ms) (sends_each resolved_acts (mapped_image f i) go' (mapped_frame f x) (mv v) (mv u) (mapped_messages f (home_class x) ms))
    messages-after os x v u no_sends h own = giving os _
    messages-after os x v u (more_sends s args ms) h own = going_on_each os _ _ _ _ (values-after os x args h own.0) (λ vs. going_on os _ _ _ _ (message-after os v s vs) (λ y. messages-after os x v y ms h own.1))

    -- a branch
    takes-after : (os : List Object) (x : ResolvedFrame) (b : ResolvedBranch) → StandsIn os x → OwnBranch (Instance (home_class x)) (ClassSide (home_class x) x.home.meta) b → Does os (takes_branch resolved_acts go x b) (takes_branch resolved_acts go' (mapped_frame f x) (mapped_branch f (home_class x) b))
    takes-after os x (runs_code c) h own = code-after os x [] c h own
    takes-after os x (gives_just v) h own = giving os _

    -- a send by its shape
    sending-after : (os : List Object) (x : ResolvedFrame) (r : ResolvedTree) (s : Name) (args : ResolvedTrees) (k : ResolvedShape) → StandsIn os x → OwnTree (Instance (home_class x)) (ClassSide (home_class x) x.home.meta) r → OwnTrees (Instance (home_class x)) (ClassSide (home_class x) x.home.meta) args → OwnShape (Instance (home_class x)) (ClassSide (home_class x) x.home.meta) k →
        Does os (does_sending resolved_acts i go x r s args k) (does_sending resolved_acts (mapped_image f i) go' (mapped_frame f x) (mapped_tree f (home_class x) r) (f.selector s) (mapped_trees f (home_class x) args) (mapped_shape f (home_class x) k))
    sending-after os x r s args (chooses_way a b) h own owns shape = going_on os _ _ _ _ (tasks os (at_node x r) (h, own)) (λ v. choice-after os v _ _ _ _ (takes-after os x a h shape.0) (takes-after os x b h shape.1))
    sending-after os x r s args (repeats sense a b) h own owns shape = tasks os (at_turn x sense a b) (h, shape.0, shape.1)
    sending-after os x r s args as_message h own owns shape =
        then-known f Instance ClassSide os mv mv (λ v. reads_super r ≡ true → v ≡ x.me) _ _ _ _ (tasks os (at_node x r) (h, own)) (supers x r)
        (λ v e. going_on_each os _ _ _ _ (values-after os x args h owns) (λ vs. sends-after os x r v s vs h e))

    -- a new array of a brace
    brace-after : (os : List Object) (vs : List Value) → Does os (makes_brace resolved_acts.plain vs) (makes_brace resolved_acts.plain (map mv vs))
    brace-after os vs =
        subst (λ n. Does os (makes_brace resolved_acts.plain vs) (if nat_lt 65535 n then resolved_acts.plain.fails too_long else makes_new_array resolved_acts.plain (map mv vs))) (sym (length-map mv vs))
        (either os (nat_lt 65535 (length vs)) _ _ _ _ (failing os too_long) (array-after os vs))

    -- a node
    node-after : (os : List Object) (x : ResolvedFrame) (t : ResolvedTree) → StandsIn os x → OwnTree (Instance (home_class x)) (ClassSide (home_class x) x.home.meta) t → Does os (does_resolved resolved_acts i go x t) (does_resolved resolved_acts (mapped_image f i) go' (mapped_frame f x) (mapped_tree f (home_class x) t))
    node-after os x (reading r) h own = reference-after os x r h own
    node-after os x (constant l) h own = literal-after os l
    node-after os x (sending r s args) h own =
        subst (λ k. Does os (does_sending resolved_acts i go x r s args (resolved_shape s r args)) (does_sending resolved_acts (mapped_image f i) go' (mapped_frame f x) (mapped_tree f (home_class x) r) (f.selector s) (mapped_trees f (home_class x) args) k))
        (sym (shape-after f (home_class x) single kept s r args)) (sending-after os x r s args (resolved_shape s r args) h own.0 own.1 (shape-own (Instance (home_class x)) (ClassSide (home_class x) x.home.meta) s r args own.0 own.1))
    node-after os x (cascading r ms) h own = going_on os _ _ _ _ (tasks os (at_node x r) (h, own.0)) (λ v. messages-after os x v nil_value ms h own.1)
    node-after os x (assigning n t) h own = going_on os _ _ _ _ (tasks os (at_node x t) (h, own.1)) (λ v. target-after os x v n h own.0)
    node-after os x (block_of ps ts ss) h own =
        keeps-holds f Instance ClassSide os (record { code = record { parameters = ps; temporaries = ts; statements = ss }; frame = x }) (λ now l. (runs_on-later f Instance ClassSide os now l (home_class x) x.home.meta x.me h, own))
    node-after os x (brace_of ts) h own = going_on_each os _ _ _ _ (values-after os x ts h own) (λ vs. brace-after os vs)
    node-after os x (returning t) h own = going_on os _ _ _ _ (tasks os (at_node x t) (h, own)) (λ v. going_on_same os _ _ _ _ (remembering os (λ b. b) _ _ (λ m. refl) (λ m. at-once m.heap.objects)) (λ b. return-after os x v b))

    -- a step
    step-after : (os : List Object) (t : ResolvedTask) → StandsTask os t → Does os (resolved_step resolved_acts i go t) (resolved_step resolved_acts (mapped_image f i) go' (mapped_task t))
    step-after os (at_node x t) h = going_on os _ _ _ _ (pays-holds f Instance ClassSide os mv 1 nil_value) (λ u. node-after os x t h.0 h.1)
    step-after os (at_turn x sense a b) h = going_on os _ _ _ _ (code-after os x [] a h.0 h.1) (λ v. again-after os sense v _ _ (going_on os _ _ _ _ (code-after os x [] b h.0 h.2) (λ u. tasks os (at_turn x sense a b) h)))

    -- a do-it
    doit-after : (os : List Object) (d : ResolvedCode) → OwnCode (Instance (class_or_none (class_of_doits i))) (ClassSide (class_or_none (class_of_doits i)) false) d → Does os (runs_doit resolved_acts i go d) (runs_doit resolved_acts (mapped_image f i) go' (mapped_code f (class_or_none (class_of_doits i)) d))
    doit-after os d own =
        going_on_same os _ _ _ _ (remembering os (λ n. n) _ _ (λ x. refl) (λ x. at-once x.heap.objects))
        (λ k. home-holds f Instance ClassSide os k _ _
        (subst (λ o. Does os (does_code resolved_acts go (first_frame (class_of_doits i) false nil_value k) [] d) (does_code resolved_acts go' (first_frame o false nil_value k) [] (mapped_code f (class_or_none (class_of_doits i)) d))) (sym (doits-after f single i kept))
        (code-after os (first_frame (class_of_doits i) false nil_value k) [] d tt own)))

    -- do-its
    doits-run : (os : List Object) (v : Value) (ds : List ResolvedCode) → AllByRecursion (OwnCode (Instance (class_or_none (class_of_doits i))) (ClassSide (class_or_none (class_of_doits i)) false)) ds → Does os (runs_doits resolved_acts i go v ds) (runs_doits resolved_acts (mapped_image f i) go' (mv v) (map (mapped_code f (class_or_none (class_of_doits i))) ds))
    doits-run os v [] own = giving os _
    doits-run os v (d ∷ ds) own = going_on os _ _ _ _ (doit-after os d own.0) (λ u. doits-run os u ds own.1)

  -- what `super` gives
  self-given : (x : ResolvedFrame) (n : Name) (cs : List ResolvedClosure) (s : Store) → Given (λ v. text_eq n (codes "super") ≡ true → v ≡ x.me) (reads_pseudo resolved_acts.plain (without_locals x) n cs s).0
  unfolding beside gives
  self-given x n cs s = by_cases (text_eq n (codes "super")) (λ t. subst (λ z. Given (λ v. text_eq z (codes "super") ≡ true → v ≡ x.me) (reads_pseudo resolved_acts.plain (without_locals x) z cs s).0) (sym (text-same n (codes "super") t)) (λ e. refl)) (λ t. without (reads_pseudo resolved_acts.plain (without_locals x) n cs s).0 t)
    where
      without : (r : Result Value) → text_eq n (codes "super") ≡ false → Given (λ v. text_eq n (codes "super") ≡ true → v ≡ x.me) r
      without (fine v u) t = λ e. absurd (false≢true (sym t ∙ e))
      without (leaves y u) t = tt

  -- nothing is said of what gives no `super`
  other-given : (x : ResolvedFrame) (r : Result Value) → Given (λ v. false ≡ true → v ≡ x.me) r
  other-given x (fine v s) = λ e. absurd (false≢true e)
  other-given x (leaves y s) = tt

  -- after a tick
  paid-given : (P : Value → Type 0) (k : Value → ResolvedAct Value) (cs : List ResolvedClosure) (s : Store) → ((t : Store) → Given P (k nil_value cs t).0) → Given P (resolved_acts.plain.and_then (resolved_acts.plain.pays 1 nil_value) k cs s).0
  unfolding followed_by beside pays
  paid-given P k cs s h = by (nat_le 1 s.ticks)
    where
      by : (b : Bool) → Given P (goes_on_with (if b then fine nil_value (record s { ticks = s.ticks - 1 }) else leaves out_of_ticks (record s { ticks = 0 })) cs k).0
      by true = h (record s { ticks = s.ticks - 1 })
      by false = tt

  -- `super` is self
  supers-given : (i : ResolvedImage) (d : ℕ) → GivesSelf (resolved_eval resolved_acts i d)
  unfolding beside stops
  supers-given i zero x t cs s = tt
  supers-given i (suc d) x (reading (of_word n)) cs s = paid-given (λ v. text_eq n (codes "super") ≡ true → v ≡ x.me) (λ u. does_resolved resolved_acts i (resolved_eval resolved_acts i d) x (reading (of_word n))) cs s (λ t. self-given x n cs t)
  supers-given i (suc d) x (reading (of_local k)) cs s = other-given x _
  supers-given i (suc d) x (reading (of_instance_variable n)) cs s = other-given x _
  supers-given i (suc d) x (reading (of_class_side_variable n)) cs s = other-given x _
  supers-given i (suc d) x (reading (of_class_variable c n)) cs s = other-given x _
  supers-given i (suc d) x (reading (of_named_class c)) cs s = other-given x _
  supers-given i (suc d) x (reading of_transcript) cs s = other-given x _
  supers-given i (suc d) x (reading (of_nothing n)) cs s = other-given x _
  supers-given i (suc d) x (constant l) cs s = other-given x _
  supers-given i (suc d) x (sending r m args) cs s = other-given x _
  supers-given i (suc d) x (cascading r ms) cs s = other-given x _
  supers-given i (suc d) x (assigning n t) cs s = other-given x _
  supers-given i (suc d) x (block_of ps ts ss) cs s = other-given x _
  supers-given i (suc d) x (brace_of ts) cs s = other-given x _
  supers-given i (suc d) x (returning t) cs s = other-given x _

  module _ (i : ResolvedImage) (suited : IsSuited f Instance ClassSide i) where
    -- evaluation with so much depth
    eval-after : (d : ℕ) (os : List Object) (t : ResolvedTask) → StandsTask os t → Does os (resolved_eval resolved_acts i d t) (resolved_eval resolved_acts (mapped_image f i) d (mapped_task t))
    eval-after zero os t h = stops-holds f Instance ClassSide os mv
    eval-after (suc d) os t h = step-after i suited (resolved_eval resolved_acts i d) (resolved_eval resolved_acts (mapped_image f i) d) (eval-after d) (supers-given i d) os t h

    -- what is seen of a result
    seen-after : (n : ℕ) (x : Result Value) → seen n (mapped_end f mv x) ≡ mapped_run f (seen n x)
    seen-after n (fine v s) = ap (λ o. record { events = (mapped_store f s).events; outcome = done o; ticks = n - s.ticks }) (view-after f single kept s.memory.heap v)
    seen-after n (leaves (returns h v) s) = refl
    seen-after n (leaves (ends_by e) s) = refl
    seen-after n (leaves out_of_ticks s) = refl

    -- a run with so much depth
    pub run_to-after : (d n : ℕ) → resolved_run_to (mapped_image f i) d n ≡ mapped_run f (resolved_run_to i d n)
    run_to-after d n =
        ap (λ r. seen n r.0) (doits-run i suited (resolved_eval resolved_acts i d) (resolved_eval resolved_acts (mapped_image f i) d) (eval-after d) (supers-given i d) [] nil_value i.doits suited.doits [] (start n) (at-once []) tt).same
        ∙ seen-after n (resolved_comes_to i d n)

    -- a run
    pub run-after : (n : ℕ) → resolved_run (mapped_image f i) n ≡ mapped_run f (resolved_run i n)
    unfolding resolved_run
    run-after n = run_to-after (2 * n + 2) n
