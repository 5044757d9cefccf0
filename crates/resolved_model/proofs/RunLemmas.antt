-- Evaluation of resolved code is that of the trees with names.
use Rattle.std.proofs.Common.{◌≡◌, ℕ, zero, suc, List, [], ◌∷◌, ◌++◌, length, Option, Some, None, refl, sym, ap, ◌∙◌, subst}
use mathlib.Core.Path.{fun_ext}
use Rattle.std.specs.Prelude.{Bool, true, false, ◌||◌, ◌+◌, ◌*◌, if◌then◌else◌, nat_lt, map, replicate, set, slice_get, option_map, unwrap_or, codes}
use Rattle.std.specs.Option.{option_or}
use Rattle.std.proofs.lemmas.Bool.{false≢true}
use Rattle.std.proofs.lemmas.Option.{slice_get-map}
use Rattle.rb_base.specs.Names.{text_eq}
use Rattle.scope_model.specs.SpecialNames.{is_pseudo_variable}
use Rattle.tree_model.specs.Tree.{LiteralOf, number, str, symbol, char, array, bytes, word, LiteralsOf, no_literals, more_literals, TreeOf, var, literal, send, cascade, assign, block, brace, return, TreesOf, no_trees, more_trees, MessagesOf, no_messages, more_messages, StatementsOf, no_statements, more_statements, SequenceOf}
use Rattle.image_model.specs.Image.{ClassOf, EntryOf, DoItOf, ImageOf}
use Rattle.image_model.specs.Words.{text_words}
use Rattle.image_model.specs.Lookup.{lookup, super_lookup}
use Rattle.image_model.specs.Means.{VariableKind, of_instance, of_class_side, of_class, MeaningOf, pseudo, argument, temporary, variable, a_class, transcript, undeclared}
use Rattle.run_model.specs.Values.{Name, Value, nil_value, true_value, false_value, int_value, char_value, string_value, symbol_value, class_value, object_value, array_value, closure_value, transcript_value, Event, RunError, not_assignable}
use Rattle.run_model.specs.Store.{Object, field_of, with_field, class_side_of, with_class_side, object_with, with_objects, Binding, holds, in_cell, Frame, Closure, Memory, start, returns, ends_by, out_of_ticks, Result, fine, leaves, arity_in}
use Rattle.run_model.specs.Acts.{Act, acts}
use Rattle.run_model.specs.Numbers.{numeral_integer}
use Rattle.run_model.specs.Views.{is_meta}
use Rattle.run_model.specs.Calls.{PrimResult, answers, faults, enters}
use Rattle.run_model.specs.Primitives.{primitive}
use Rattle.run_model.specs.Reading.{binding_of, meaning_of, reads_pseudo, reads_meaning, reads_binding, reads, assigns_meaning, assigns_binding, assigns}
use Rattle.run_model.specs.Shapes.{Branch, runs, is_just, Shape, two_ways, loops, a_message, shape_of}
use Rattle.run_model.specs.Eval.{Task, node, turn, Evaluator, gives_integer, literal_value, literal_values, statements, values, inside, held, in_cells, sequence, enters_with, tells_any, follows, does_primitive, outermost, does, runs_found, message, super_message, is_super, sends, chooses, takes, does_send, goes_on, messages, returns_home, does_node, step, eval}
use Rattle.run_model.specs.Runs.{doit_class, does_doit, does_doits, comes_to, seen, run_to, run}
use Rattle.run_model.proofs.PrimitiveLemmas.{primitive-kept}
use Rattle.run_model.specs.Renamings.{no_renaming}
use Rattle.run_model.specs.Matched.{AreMatched}
use Rattle.run_model.proofs.MatchedLemmas.{matched-runs}
use Rattle.resolved_model.specs.ResolvedTrees.{of_word, to_fixed, reading, ResolvedCode}
use Rattle.resolved_model.specs.Resolving.{reference_of, target_of, resolved_doit}
use Rattle.resolved_model.specs.ResolvedImages.{plain_class, doing_of, resolved_entry, resolved_image}
use Rattle.resolved_model.specs.ResolvedActs.{ResolvedFrame, ResolvedClosure, ResolvedAct, resolved_acts}
use Rattle.resolved_model.specs.ResolvedEval.{ResolvedTask, at_node, at_turn, values_held, cells_from, within, without_locals, first_frame, parameters_in, reads_super, ResolvedEvaluator, reads_local, reads_reference, assigns_local, assigns_target, lines, node_values, does_code, enters_closure_with, follows_on, does_primitive_of, runs_method, runs_one, sends_to, sends_to_super, sends_message, takes_branch, does_sending, sends_each, returns_to, does_resolved, resolved_step, resolved_eval}
use Rattle.resolved_model.specs.ResolvedRuns.{runs_doit, runs_doits, resolved_run_to, resolved_run}
use Rattle.resolved_model.proofs.ResolvedStores.{no_closures, same, apart, Resolves, gives-resolved, fails-resolved, goes_home-resolved, stops-resolved, then_resolved, memory-resolved, looks-resolved, keeps-resolved, tells-resolved, pays-resolved, home-resolved}
use Rattle.resolved_model.specs.Environments.{Declared, opened, kind_in, place_in, reference_by, target_by, reference_in, target_in, tree_in, trees_in, messages_in, statements_in, code_in}
use Rattle.resolved_model.proofs.Environments.{is_cell, slots_declare, slots_stand, by_slots, declare-inside, stand-inside}
use Rattle.resolved_model.proofs.ResolvingLemmas.{method-resolved, doit-resolved}
use Rattle.resolved_model.proofs.LookupLemmas.{plain-hierarchy, finds-resolved, finds_above-resolved, doits-class}
use Rattle.resolved_model.proofs.ShapeLemmas.{branch_in, shape_in, shape-in}

-- the second of three alternatives of which none holds
second-false : (a b c : Bool) → (a || (b || c)) ≡ false → b ≡ false
second-false true b c e = absurd (false≢true (sym e))
second-false false true c e = absurd (false≢true (sym e))
second-false false false c e = refl

-- a name that is no pseudo-variable's is not `super`
not-super : (n : Name) → is_pseudo_variable n ≡ false → text_eq n (codes "super") ≡ false
unfolding is_pseudo_variable
not-super n e = second-false (text_eq n (codes "self")) (text_eq n (codes "super")) _ e

-- what is read under another name is not `super`
reads-other : (o : Option Bool) (k : ℕ) (g : MeaningOf Name) (n : Name) → text_eq n (codes "super") ≡ false → reads_super (reading (reference_by o k g n)) ≡ false
reads-other (Some b) k g n e = refl
reads-other None k pseudo n e = e
reads-other None k (argument scope) n e = refl
reads-other None k (temporary scope) n e = refl
reads-other None k (variable of_instance c) n e = refl
reads-other None k (variable of_class_side c) n e = refl
reads-other None k (variable of_class c) n e = refl
reads-other None k (a_class c) n e = refl
reads-other None k transcript n e = refl
reads-other None k undeclared n e = refl

-- `super` is `super` once it is resolved
super-in : (g : Name → MeaningOf Name) (env : List Declared) (t : TreeOf Name) → reads_super (tree_in g env t) ≡ is_super t
super-in g env (var n) = by (is_pseudo_variable n) (λ e. reads-other (kind_in env n) (place_in env n) (g n) n (not-super n e) ∙ sym (not-super n e))
  where
    by : (b : Bool) → (b ≡ false → reads_super (reading (reference_by (kind_in env n) (place_in env n) (g n) n)) ≡ text_eq n (codes "super")) →
        reads_super (reading (if b then of_word n else reference_by (kind_in env n) (place_in env n) (g n) n)) ≡ text_eq n (codes "super")
    by true h = refl
    by false h = h refl
super-in g env (literal l) = refl
super-in g env (send r s args) = refl
super-in g env (cascade r ms) = refl
super-in g env (assign n t) = refl
super-in g env (block ps ts ss e) = refl
super-in g env (brace ts) = refl
super-in g env (return t) = refl

-- new cells that hold nil
nil-cells : (ts : List Name) → replicate (length ts) nil_value ≡ map (λ n. nil_value) ts
nil-cells [] = refl
nil-cells (t ∷ ts) = ap (λ l. nil_value ∷ l) (nil-cells ts)

-- reading a field
field-clear : (m : Memory) (v : Value) (n : Name) → field_of (no_closures m) v n ≡ field_of m v n
field-clear m (object_value k) n = refl
field-clear m v n = refl

-- storing in a field of an object that may be there
with_field-by : (m : Memory) (k : ℕ) (n : Name) (u : Value) (o : Option Object) →
    unwrap_or (option_map (λ x. with_objects (no_closures m) (set m.heap.objects k (object_with x n u))) o) (no_closures m) ≡ no_closures (unwrap_or (option_map (λ x. with_objects m (set m.heap.objects k (object_with x n u))) o) m)
with_field-by m k n u (Some x) = refl
with_field-by m k n u None = refl

-- storing in a field
with_field-clear : (m : Memory) (v : Value) (n : Name) (u : Value) → with_field (no_closures m) v n u ≡ no_closures (with_field m v n u)
with_field-clear m (object_value k) n u = with_field-by m k n u (slice_get m.heap.objects k)
with_field-clear m v n u = refl

-- storing in a field of an object that may be there keeps the closures
field-keeps_by : (m : Memory) (k : ℕ) (n : Name) (u : Value) (o : Option Object) → (unwrap_or (option_map (λ x. with_objects m (set m.heap.objects k (object_with x n u))) o) m).closures ≡ m.closures
field-keeps_by m k n u (Some x) = refl
field-keeps_by m k n u None = refl

-- storing in a field keeps the closures
field-keeps : (m : Memory) (v : Value) (n : Name) (u : Value) → (with_field m v n u).closures ≡ m.closures
field-keeps m (object_value k) n u = field-keeps_by m k n u (slice_get m.heap.objects k)
field-keeps m v n u = refl

-- reading a class-instance variable
class_side-clear : (m : Memory) (v : Value) (n : Name) → class_side_of (no_closures m) v n ≡ class_side_of m v n
class_side-clear m (class_value c) n = refl
class_side-clear m v n = refl

-- storing in a class-instance variable
with_class_side-clear : (m : Memory) (v : Value) (n : Name) (u : Value) → with_class_side (no_closures m) v n u ≡ no_closures (with_class_side m v n u)
with_class_side-clear m (class_value c) n u = refl
with_class_side-clear m v n u = refl

-- storing in a class-instance variable keeps the closures
class_side-keeps : (m : Memory) (v : Value) (n : Name) (u : Value) → (with_class_side m v n u).closures ≡ m.closures
class_side-keeps m (class_value c) n u = refl
class_side-keeps m v n u = refl

-- by what a name may mean outside all scopes
by_meaning : (P : MeaningOf Name → Type 0) → ((kind : VariableKind) (c : Name) → P (variable kind c)) → ((c : Name) → P (a_class c)) → P transcript → P undeclared → (kind : VariableKind) (o p q : Option (ClassOf Name)) (b : Bool) →
    P (unwrap_or (option_or (option_map (λ (c : ClassOf Name). variable kind c.name) o) (option_or (option_map (λ (c : ClassOf Name). variable of_class c.name) p) (option_or (option_map (λ (c : ClassOf Name). a_class c.name) q) (if b then Some transcript else None)))) undeclared)
by_meaning P v c t u kind (Some x) p q b = v kind x.name
by_meaning P v c t u kind None (Some x) q b = v of_class x.name
by_meaning P v c t u kind None None (Some x) b = c x.name
by_meaning P v c t u kind None None None true = t
by_meaning P v c t u kind None None None false = u

-- a frame without names
abbrev frame_in : Frame → ResolvedFrame
frame_in f = record { locals = slots_stand f.slots; me = f.me; home = f.home }

module _ (i : ImageOf Name) where
  -- what names mean outside the environment of a frame
  abbrev outside : Frame → Name → MeaningOf Name
  outside f n = meaning_of i f n

  -- a block of a frame with its names resolved
  abbrev code_of : Frame → List Name → SequenceOf Name → ResolvedCode
  code_of f ps b = code_in (outside f) (slots_declare f.slots) ps b

  -- a closure with its names resolved
  abbrev closure_in : Closure → ResolvedClosure
  closure_in c = record { code = code_of c.frame c.parameters c.body; frame = frame_in c.frame }

  -- the second act does beside resolved closures what the first does
  abbrev Does : {A : Type 0} → Act A → ResolvedAct A → Type 0
  Does m m' = Resolves closure_in same m m'

  -- by a condition
  either : {A : Type 0} (b : Bool) (m n : Act A) (m' n' : ResolvedAct A) → Does m m' → Does n n' → Does (if b then m else n) (if b then m' else n')
  either true m n m' n' p q = p
  either false m n m' n' p q = q

  -- giving
  giving : {A : Type 0} (a : A) → Does (acts.gives a) (resolved_acts.plain.gives a)
  giving a = gives-resolved closure_in same a

  -- failing
  failing : {A : Type 0} (e : RunError) → Does {A = A} (acts.fails e) (resolved_acts.plain.fails e)
  failing e = fails-resolved closure_in same e

  -- reading and changing what is no closure
  plainly : {A : Type 0} (f f' : Memory → A × Memory) → ((m : Memory) → f' (no_closures m) ≡ ((f m).0, no_closures (f m).1)) → ((m : Memory) → (f m).1.closures ≡ m.closures) → Does (acts.with_memory f) (resolved_acts.plain.with_memory f')
  plainly f f' e h = memory-resolved closure_in same f f' e h

  -- going on
  going_on : {A B : Type 0} (m : Act A) (m' : ResolvedAct A) (k : A → Act B) (k' : A → ResolvedAct B) → Does m m' → ((a : A) → Does (k a) (k' a)) → Does (acts.and_then m k) (resolved_acts.plain.and_then m' k')
  going_on m m' k k' p f = then_resolved closure_in same same m m' k k' p f

  -- reading a pseudo-variable
  pseudo-in : (f : Frame) (n : Name) → Does (reads_pseudo acts f n) (reads_pseudo resolved_acts.plain (without_locals (frame_in f)) n)
  pseudo-in f n =
      either (text_eq n (codes "nil")) _ _ _ _ (giving _)
      (either (text_eq n (codes "true")) _ _ _ _ (giving _)
      (either (text_eq n (codes "false")) _ _ _ _ (giving _)
      (either (text_eq n (codes "thisContext")) _ _ _ _ (failing _) (giving _))))

  -- reading a variable
  variable-read : (f : Frame) (n : Name) (k : ℕ) (kind : VariableKind) (c : Name) → Does (reads_meaning acts f n (variable kind c)) (reads_reference resolved_acts (frame_in f) (reference_of (variable kind c) k n))
  variable-read f n k of_instance c = plainly _ _ (λ m. ap (λ v. (v, no_closures m)) (field-clear m f.me n)) (λ m. refl)
  variable-read f n k of_class_side c = plainly _ _ (λ m. ap (λ v. (v, no_closures m)) (class_side-clear m f.me n)) (λ m. refl)
  variable-read f n k of_class c = plainly _ _ (λ m. refl) (λ m. refl)

  -- assigning a variable
  variable-assigned : (f : Frame) (n : Name) (v : Value) (k : ℕ) (kind : VariableKind) (c : Name) → Does (assigns_meaning acts f n v (variable kind c)) (assigns_target resolved_acts (frame_in f) v (target_of (variable kind c) k n))
  variable-assigned f n v k of_instance c = plainly _ _ (λ m. ap (λ x. (v, x)) (with_field-clear m f.me n v)) (λ m. field-keeps m f.me n v)
  variable-assigned f n v k of_class_side c = plainly _ _ (λ m. ap (λ x. (v, x)) (with_class_side-clear m f.me n v)) (λ m. class_side-keeps m f.me n v)
  variable-assigned f n v k of_class c = plainly _ _ (λ m. refl) (λ m. refl)

  -- reading what stands outside the environment
  meaning-read : (f : Frame) (n : Name) (k : ℕ) → Does (reads_meaning acts f n (meaning_of i f n)) (reads_reference resolved_acts (frame_in f) (reference_of (meaning_of i f n) k n))
  meaning-read f n k =
      by_meaning (λ g. Does (reads_meaning acts f n g) (reads_reference resolved_acts (frame_in f) (reference_of g k n)))
      (λ kind c. variable-read f n k kind c) (λ c. giving _) (giving _) (failing _) _ _ _ _ _

  -- assigning what stands outside the environment
  meaning-assigned : (f : Frame) (n : Name) (v : Value) (k : ℕ) → Does (assigns_meaning acts f n v (meaning_of i f n)) (assigns_target resolved_acts (frame_in f) v (target_of (meaning_of i f n) k n))
  meaning-assigned f n v k =
      by_meaning (λ g. Does (assigns_meaning acts f n v g) (assigns_target resolved_acts (frame_in f) v (target_of g k n)))
      (λ kind c. variable-assigned f n v k kind c) (λ c. failing _) (failing _) (failing _) _ _ _ _ _

  -- reading a binding at a place where it stands
  binding-read : (f : Frame) (n : Name) (b : Binding) (k : ℕ) → slice_get (slots_stand f.slots) k ≡ Some b → Does (reads_binding acts i f n (Some b)) (reads_local resolved_acts (slice_get (slots_stand f.slots) k))
  binding-read f n b k e = subst (λ o. Does (reads_binding acts i f n (Some b)) (reads_local resolved_acts o)) (sym e) (by b)
    where
      by : (b : Binding) → Does (reads_binding acts i f n (Some b)) (reads_local resolved_acts (Some b))
      by (holds v) = giving _
      by (in_cell c) = plainly _ _ (λ m. refl) (λ m. refl)

  -- assigning a binding at a place where it stands
  binding-assigned : (f : Frame) (n : Name) (v : Value) (b : Binding) (k : ℕ) → slice_get (slots_stand f.slots) k ≡ Some b →
      Does (assigns_binding acts i f n v (Some b)) (assigns_target resolved_acts (frame_in f) v (target_by (Some (is_cell b)) k (meaning_of i f n) n))
  binding-assigned f n v (holds u) k e = failing _
  binding-assigned f n v (in_cell c) k e = subst (λ o. Does (assigns_binding acts i f n v (Some (in_cell c))) (assigns_local resolved_acts v o)) (sym e) (plainly _ _ (λ m. refl) (λ m. refl))

  -- reading in an environment
  environment-read : (f : Frame) (n : Name) → Does (reads_binding acts i f n (binding_of f n)) (reads_reference resolved_acts (frame_in f) (reference_by (kind_in (slots_declare f.slots) n) (place_in (slots_declare f.slots) n) (meaning_of i f n) n))
  environment-read f n =
      by_slots f.slots n
      (λ u v. subst (λ o. Does (reads_binding acts i f n o) (reads_reference resolved_acts (frame_in f) (reference_by (kind_in (slots_declare f.slots) n) (place_in (slots_declare f.slots) n) (meaning_of i f n) n))) (sym u)
      (subst (λ o. Does (reads_binding acts i f n None) (reads_reference resolved_acts (frame_in f) (reference_by o (place_in (slots_declare f.slots) n) (meaning_of i f n) n))) (sym v) (meaning-read f n (place_in (slots_declare f.slots) n))))
      (λ b u v w. subst (λ o. Does (reads_binding acts i f n o) (reads_reference resolved_acts (frame_in f) (reference_by (kind_in (slots_declare f.slots) n) (place_in (slots_declare f.slots) n) (meaning_of i f n) n))) (sym u)
      (subst (λ o. Does (reads_binding acts i f n (Some b)) (reads_reference resolved_acts (frame_in f) (reference_by o (place_in (slots_declare f.slots) n) (meaning_of i f n) n))) (sym v) (binding-read f n b (place_in (slots_declare f.slots) n) w)))

  -- assigning in an environment
  environment-assigned : (f : Frame) (n : Name) (x : Value) → Does (assigns_binding acts i f n x (binding_of f n)) (assigns_target resolved_acts (frame_in f) x (target_by (kind_in (slots_declare f.slots) n) (place_in (slots_declare f.slots) n) (meaning_of i f n) n))
  environment-assigned f n x =
      by_slots f.slots n
      (λ u v. subst (λ o. Does (assigns_binding acts i f n x o) (assigns_target resolved_acts (frame_in f) x (target_by (kind_in (slots_declare f.slots) n) (place_in (slots_declare f.slots) n) (meaning_of i f n) n))) (sym u)
      (subst (λ o. Does (assigns_binding acts i f n x None) (assigns_target resolved_acts (frame_in f) x (target_by o (place_in (slots_declare f.slots) n) (meaning_of i f n) n))) (sym v) (meaning-assigned f n x (place_in (slots_declare f.slots) n))))
      (λ b u v w. subst (λ o. Does (assigns_binding acts i f n x o) (assigns_target resolved_acts (frame_in f) x (target_by (kind_in (slots_declare f.slots) n) (place_in (slots_declare f.slots) n) (meaning_of i f n) n))) (sym u)
      (subst (λ o. Does (assigns_binding acts i f n x (Some b)) (assigns_target resolved_acts (frame_in f) x (target_by o (place_in (slots_declare f.slots) n) (meaning_of i f n) n))) (sym v) (binding-assigned f n x b (place_in (slots_declare f.slots) n) w)))

  -- reading a name
  name-read : (f : Frame) (n : Name) → Does (reads acts i f n) (reads_reference resolved_acts (frame_in f) (reference_in (slots_declare f.slots) (meaning_of i f n) n))
  name-read f n = by (is_pseudo_variable n)
    where
      by : (b : Bool) → Does (if b then reads_pseudo acts f n else reads_binding acts i f n (binding_of f n)) (reads_reference resolved_acts (frame_in f) (if b then of_word n else reference_by (kind_in (slots_declare f.slots) n) (place_in (slots_declare f.slots) n) (meaning_of i f n) n))
      by true = pseudo-in f n
      by false = environment-read f n

  -- assigning a name
  name-assigned : (f : Frame) (n : Name) (x : Value) → Does (assigns acts i f n x) (assigns_target resolved_acts (frame_in f) x (target_in (slots_declare f.slots) (meaning_of i f n) n))
  name-assigned f n x = by (is_pseudo_variable n)
    where
      by : (b : Bool) → Does (if b then acts.fails (not_assignable n) else assigns_binding acts i f n x (binding_of f n)) (assigns_target resolved_acts (frame_in f) x (if b then to_fixed n else target_by (kind_in (slots_declare f.slots) n) (place_in (slots_declare f.slots) n) (meaning_of i f n) n))
      by true = failing _
      by false = environment-assigned f n x

  -- a literal integer
  integer-in : (o : Option _) → Does (gives_integer acts o) (gives_integer resolved_acts.plain o)
  integer-in (Some z) = giving _
  integer-in None = failing _

  mutual
    -- literals
    literal-in : (l : LiteralOf Name) → Does (literal_value acts l) (literal_value resolved_acts.plain l)
    literal-in (number t) = integer-in (numeral_integer t)
    literal-in (str t) = giving _
    literal-in (symbol t) = giving _
    literal-in (char b) = giving _
    literal-in (array ls) = going_on _ _ _ _ (literals-in ls) (λ vs. plainly _ _ (λ m. refl) (λ m. refl))
    literal-in (bytes ls) = failing _
    literal-in (word n) = giving _

    literals-in : (ls : LiteralsOf Name) → Does (literal_values acts ls) (literal_values resolved_acts.plain ls)
    literals-in no_literals = giving _
    literals-in (more_literals l ls) = going_on _ _ _ _ (literal-in l) (λ v. going_on _ _ _ _ (literals-in ls) (λ vs. giving _))

  -- an event, if there is one
  event-in : (o : Option Event) → Does (tells_any acts o) (tells_any resolved_acts.plain o)
  event-in (Some e) = tells-resolved closure_in same _ _
  event-in None = giving _

  -- a tested value
  choice-in : (v : Value) (a b : Act Value) (a' b' : ResolvedAct Value) → Does a a' → Does b b' → Does (chooses acts v a b) (chooses resolved_acts.plain v a' b')
  choice-in true_value a b a' b' p q = p
  choice-in false_value a b a' b' p q = q
  choice-in nil_value a b a' b' p q = failing _
  choice-in (int_value z) a b a' b' p q = failing _
  choice-in (char_value c) a b a' b' p q = failing _
  choice-in (string_value t) a b a' b' p q = failing _
  choice-in (symbol_value t) a b a' b' p q = failing _
  choice-in (class_value c) a b a' b' p q = failing _
  choice-in (object_value k) a b a' b' p q = failing _
  choice-in (array_value k) a b a' b' p q = failing _
  choice-in (closure_value k) a b a' b' p q = failing _
  choice-in transcript_value a b a' b' p q = failing _

  -- whether a loop goes on
  again-in : (sense : Bool) (v : Value) (m : Act Value) (m' : ResolvedAct Value) → Does m m' → Does (goes_on acts sense v m) (goes_on resolved_acts.plain sense v m')
  again-in true v m m' p = choice-in v _ _ _ _ p (giving _)
  again-in false v m m' p = choice-in v _ _ _ _ (giving _) p

  -- a return
  return-in : (f : Frame) (v : Value) (b : Bool) → Does (returns_home acts f v b) (returns_to resolved_acts (frame_in f) v b)
  return-in f v true = goes_home-resolved closure_in same _ _
  return-in f v false = failing _

  -- closures have as many parameters
  arity-in : (cs : List Closure) → parameters_in (map closure_in cs) ≡ arity_in cs
  arity-in cs = fun_ext (λ k. ap (λ o. unwrap_or (option_map (λ (c : ResolvedClosure). c.code.parameters) o) 0) (slice_get-map closure_in cs k) ∙ by (slice_get cs k))
    where
      by : (o : Option Closure) → unwrap_or (option_map (λ (c : ResolvedClosure). c.code.parameters) (option_map closure_in o)) 0 ≡ unwrap_or (option_map (λ (c : Closure). length c.parameters) o) 0
      by (Some c) = refl
      by None = refl

  -- a task with its names resolved
  abbrev task_in : Task → ResolvedTask
  task_in (node f t) = at_node (frame_in f) (tree_in (outside f) (slots_declare f.slots) t)
  task_in (turn f sense a b) = at_turn (frame_in f) sense (code_of f [] a) (code_of f [] b)

  module _ (go : Evaluator acts) (go' : ResolvedEvaluator resolved_acts) (tasks : (t : Task) → Does (go t) (go' (task_in t))) where
    -- statements
    statements-in : (f : Frame) (v : Value) (ss : StatementsOf Name) → Does (statements acts go f v ss) (lines resolved_acts go' (frame_in f) v (statements_in (outside f) (slots_declare f.slots) ss))
    statements-in f v no_statements = giving _
    statements-in f v (more_statements c t ss) = going_on _ _ _ _ (tasks (node f t)) (λ u. statements-in f u ss)

    -- arguments
    values-in : (f : Frame) (ts : TreesOf Name) → Does (values acts go f ts) (node_values resolved_acts go' (frame_in f) (trees_in (outside f) (slots_declare f.slots) ts))
    values-in f no_trees = giving _
    values-in f (more_trees t ts) = going_on _ _ _ _ (tasks (node f t)) (λ v. going_on _ _ _ _ (values-in f ts) (λ vs. giving _))

    -- statements once a scope is entered
    inside-in : (f : Frame) (ps : List Name) (vs : List Value) (b : SequenceOf Name) (k : ℕ) →
        Does (statements acts go (inside f (held ps vs ++ in_cells b.temporaries k)) nil_value b.statements)
        (lines resolved_acts go' (within (frame_in f) (values_held (length ps) vs ++ cells_from (length b.temporaries) k)) nil_value (statements_in (outside f) (opened ps b.temporaries (slots_declare f.slots)) b.statements))
    inside-in f ps vs b k =
        subst (λ env. Does (statements acts go (inside f (held ps vs ++ in_cells b.temporaries k)) nil_value b.statements) (lines resolved_acts go' (within (frame_in f) (values_held (length ps) vs ++ cells_from (length b.temporaries) k)) nil_value (statements_in (outside f) env b.statements)))
        (declare-inside ps b.temporaries vs k f.slots)
        (subst (λ bs. Does (statements acts go (inside f (held ps vs ++ in_cells b.temporaries k)) nil_value b.statements) (lines resolved_acts go' (record (frame_in f) { locals = bs }) nil_value (statements_in (outside f) (slots_declare ((held ps vs ++ in_cells b.temporaries k) ++ f.slots)) b.statements)))
        (stand-inside ps b.temporaries vs k f.slots)
        (statements-in (inside f (held ps vs ++ in_cells b.temporaries k)) nil_value b.statements))

    -- a sequence
    sequence-in : (f : Frame) (ps : List Name) (vs : List Value) (b : SequenceOf Name) → Does (sequence acts go f ps vs b) (does_code resolved_acts go' (frame_in f) vs (code_of f ps b))
    sequence-in f ps vs b =
        going_on _ _ _ _ (plainly _ _ (λ m. ap (λ l. (length m.cells, record (no_closures m) { cells = m.cells ++ l })) (nil-cells b.temporaries)) (λ m. refl)) (λ k. inside-in f ps vs b k)

    -- a closure
    enters-in : (o : Option Closure) (args : List Value) → Does (enters_with acts go o args) (enters_closure_with resolved_acts go' (option_map closure_in o) args)
    enters-in (Some c) args = sequence-in c.frame c.parameters args c.body
    enters-in None args = failing _

    -- what a primitive comes to
    follows-in : (args : List Value) (r : PrimResult) → Does (follows acts go args r) (follows_on resolved_acts go' args r)
    follows-in args (answers n told v h) = going_on _ _ _ _ (pays-resolved closure_in same _ _) (λ u. going_on _ _ _ _ (event-in told) (λ x. plainly _ _ (λ m. refl) (λ m. refl)))
    follows-in args (faults e) = failing _
    follows-in args (enters k) =
        then_resolved closure_in (option_map closure_in) same _ _ _ _ (looks-resolved closure_in (option_map closure_in) _ _ (λ m. slice_get-map closure_in m.closures k)) (λ c. enters-in c args)

    -- a primitive
    primitive-in : (n : ℕ) (v : Value) (args : List Value) → Does (does_primitive acts i go n v args) (does_primitive_of resolved_acts (resolved_image i) go' n v args)
    primitive-in n v args =
        going_on _ _ _ _
        (looks-resolved closure_in same _ _ (λ m. ap (λ a. primitive (record { number = n; receiver = v; arguments = args; heap = m.heap; arity = a; classes = map plain_class i.classes })) (arity-in m.closures)
        ∙ primitive-kept plain_class i.classes (plain-hierarchy i.classes) (record { number = n; receiver = v; arguments = args; heap = m.heap; arity = arity_in m.closures; classes = i.classes })))
        (λ r. follows-in args r)

    -- a method
    method-in : (o : Option ℕ) (m : EntryOf Name) (v : Value) (args : List Value) → Does (does acts i go o m v args) (runs_method resolved_acts (resolved_image i) go' (resolved_entry i m) (doing_of i m o) v args)
    method-in (Some n) m v args = primitive-in n v args
    method-in None m v args =
        going_on _ _ _ _ (plainly _ _ (λ x. refl) (λ x. refl))
        (λ h. home-resolved closure_in h _ _ (going_on _ _ _ _
        (subst (λ c. Does (sequence acts go (outermost m.class m.meta v h) m.tree.arguments args m.tree.body) (does_code resolved_acts go' (first_frame m.class m.meta v h) args c)) (sym (method-resolved i m))
        (sequence-in (outermost m.class m.meta v h) m.tree.arguments args m.tree.body))
        (λ u. giving _)))

    -- a method that was found
    found-in : (o : Option (EntryOf Name)) (v : Value) (s : Name) (args : List Value) → Does (runs_found acts i go o v s args) (runs_one resolved_acts (resolved_image i) go' (option_map (resolved_entry i) o) v s args)
    found-in (Some m) v s args = method-in m.tree.primitive m v args
    found-in None v s args = going_on _ _ _ _ (plainly _ _ (λ m. refl) (λ m. refl)) (λ c. failing _)

    -- a message
    message-in : (v : Value) (s : Name) (args : List Value) → Does (message acts i go v s args) (sends_to resolved_acts (resolved_image i) go' v s args)
    message-in v s args =
        going_on _ _ _ _ (plainly _ _ (λ m. refl) (λ m. refl))
        (λ c. subst (λ o. Does (runs_found acts i go (lookup text_words i (Some c) (is_meta v) s) v s args) (runs_one resolved_acts (resolved_image i) go' o v s args)) (sym (finds-resolved i (Some c) (is_meta v) s))
        (found-in (lookup text_words i (Some c) (is_meta v) s) v s args))

    -- a message to `super`
    super_message-in : (f : Frame) (v : Value) (s : Name) (args : List Value) → Does (super_message acts i go f v s args) (sends_to_super resolved_acts (resolved_image i) go' (frame_in f) v s args)
    super_message-in f v s args =
        subst (λ o. Does (super_message acts i go f v s args) (runs_one resolved_acts (resolved_image i) go' o v s args)) (sym (finds_above-resolved i f.home.class f.home.meta s))
        (found-in (super_lookup text_words i f.home.class f.home.meta s) v s args)

    -- the message of a send
    sends-in : (f : Frame) (r : TreeOf Name) (v : Value) (s : Name) (args : List Value) → Does (sends acts i go f r v s args) (sends_message resolved_acts (resolved_image i) go' (frame_in f) (tree_in (outside f) (slots_declare f.slots) r) v s args)
    sends-in f r v s args =
        subst (λ b. Does (sends acts i go f r v s args) (if b then sends_to_super resolved_acts (resolved_image i) go' (frame_in f) v s args else sends_to resolved_acts (resolved_image i) go' v s args)) (sym (super-in (outside f) (slots_declare f.slots) r))
        (either (is_super r) _ _ _ _ (super_message-in f v s args) (message-in v s args))

    -- the messages of a cascade
    messages-in : (f : Frame) (v x : Value) (ms : MessagesOf Name) → Does (messages acts i go f v x ms) (sends_each resolved_acts (resolved_image i) go' (frame_in f) v x (messages_in (outside f) (slots_declare f.slots) ms))
    messages-in f v x no_messages = giving _
    messages-in f v x (more_messages s args ms) = going_on _ _ _ _ (values-in f args) (λ vs. going_on _ _ _ _ (message-in v s vs) (λ u. messages-in f v u ms))

    -- a branch
    takes-in : (f : Frame) (b : Branch) → Does (takes acts go f b) (takes_branch resolved_acts go' (frame_in f) (branch_in (outside f) (slots_declare f.slots) b))
    takes-in f (runs b) = sequence-in f [] [] b
    takes-in f (is_just v) = giving _

    -- a send by its shape
    send-in : (f : Frame) (r : TreeOf Name) (s : Name) (args : TreesOf Name) (k : Shape) →
        Does (does_send acts i go f r s args k) (does_sending resolved_acts (resolved_image i) go' (frame_in f) (tree_in (outside f) (slots_declare f.slots) r) s (trees_in (outside f) (slots_declare f.slots) args) (shape_in (outside f) (slots_declare f.slots) k))
    send-in f r s args (two_ways a b) = going_on _ _ _ _ (tasks (node f r)) (λ v. choice-in v _ _ _ _ (takes-in f a) (takes-in f b))
    send-in f r s args (loops sense a b) = tasks (turn f sense a b)
    send-in f r s args a_message = going_on _ _ _ _ (tasks (node f r)) (λ v. going_on _ _ _ _ (values-in f args) (λ vs. sends-in f r v s vs))

    -- a node
    node-in : (f : Frame) (t : TreeOf Name) → Does (does_node acts i go f t) (does_resolved resolved_acts (resolved_image i) go' (frame_in f) (tree_in (outside f) (slots_declare f.slots) t))
    node-in f (var n) = name-read f n
    node-in f (literal l) = literal-in l
    node-in f (send r s args) =
        subst (λ k. Does (does_send acts i go f r s args (shape_of s r args)) (does_sending resolved_acts (resolved_image i) go' (frame_in f) (tree_in (outside f) (slots_declare f.slots) r) s (trees_in (outside f) (slots_declare f.slots) args) k))
        (sym (shape-in (outside f) (slots_declare f.slots) s r args)) (send-in f r s args (shape_of s r args))
    node-in f (cascade r ms) = going_on _ _ _ _ (tasks (node f r)) (λ v. messages-in f v nil_value ms)
    node-in f (assign n t) = going_on _ _ _ _ (tasks (node f t)) (λ v. name-assigned f n v)
    node-in f (block ps ts ss e) = keeps-resolved closure_in (record { parameters = ps; body = record { temporaries = ts; statements = ss; tail = e }; frame = f })
    node-in f (brace ts) = going_on _ _ _ _ (values-in f ts) (λ vs. either (nat_lt 65535 (length vs)) _ _ _ _ (failing _) (plainly _ _ (λ m. refl) (λ m. refl)))
    node-in f (return t) = going_on _ _ _ _ (tasks (node f t)) (λ v. going_on _ _ _ _ (plainly _ _ (λ m. refl) (λ m. refl)) (λ b. return-in f v b))

    -- a step
    step-in : (t : Task) → Does (step acts i go t) (resolved_step resolved_acts (resolved_image i) go' (task_in t))
    step-in (node f t) = going_on _ _ _ _ (pays-resolved closure_in same _ _) (λ u. node-in f t)
    step-in (turn f sense a b) = going_on _ _ _ _ (sequence-in f [] [] a) (λ v. again-in sense v _ _ (going_on _ _ _ _ (sequence-in f [] [] b) (λ u. tasks (turn f sense a b))))

    -- a do-it
    doit-in : (d : DoItOf Name) → Does (does_doit acts i go d) (runs_doit resolved_acts (resolved_image i) go' (resolved_doit i d))
    doit-in d =
        going_on _ _ _ _ (plainly _ _ (λ x. refl) (λ x. refl))
        (λ h. home-resolved closure_in h _ _
        (subst (λ o. Does (sequence acts go (outermost (doit_class i) false nil_value h) [] [] d.body) (does_code resolved_acts go' (first_frame o false nil_value h) [] (resolved_doit i d))) (sym (doits-class i))
        (subst (λ c. Does (sequence acts go (outermost (doit_class i) false nil_value h) [] [] d.body) (does_code resolved_acts go' (first_frame (doit_class i) false nil_value h) [] c)) (sym (doit-resolved i d))
        (sequence-in (outermost (doit_class i) false nil_value h) [] [] d.body))))

    -- do-its
    doits-in : (v : Value) (ds : List (DoItOf Name)) → Does (does_doits acts i go v ds) (runs_doits resolved_acts (resolved_image i) go' v (map (resolved_doit i) ds))
    doits-in v [] = giving _
    doits-in v (d ∷ ds) = going_on _ _ _ _ (doit-in d) (λ u. doits-in u ds)

  -- evaluation with so much depth
  eval-in : (d : ℕ) (t : Task) → Does (eval acts i d t) (resolved_eval resolved_acts (resolved_image i) d (task_in t))
  eval-in zero t = stops-resolved closure_in same
  eval-in (suc d) t = step-in (eval acts i d) (resolved_eval resolved_acts (resolved_image i) d) (eval-in d) t

  -- what is seen of a result without its closures
  seen-apart : (n : ℕ) (x : Result Value) → seen n (apart closure_in same x).0 ≡ seen n x
  seen-apart n (fine (array_value k) s) = refl
  seen-apart n (fine v s) = refl
  seen-apart n (leaves (returns h v) s) = refl
  seen-apart n (leaves (ends_by e) s) = refl
  seen-apart n (leaves out_of_ticks s) = refl

  -- a run with so much depth
  pub run_to-resolved : (d n : ℕ) → resolved_run_to (resolved_image i) d n ≡ run_to i d n
  run_to-resolved d n =
      ap (λ r. seen n r.0) (doits-in (eval acts i d) (resolved_eval resolved_acts (resolved_image i) d) (eval-in d) nil_value i.doits (start n)) ∙ seen-apart n (comes_to i d n)

  -- a run
  pub run-resolved : (n : ℕ) → resolved_run (resolved_image i) n ≡ run i n
  unfolding run resolved_run
  run-resolved n = run_to-resolved (2 * n + 2) n

-- the runs of images that are the same once their names are resolved
pub runs-same : (i j : ImageOf Name) → resolved_image i ≡ resolved_image j → (n : ℕ) → run i n ≡ run j n
runs-same i j e n = sym (run-resolved i n) ∙ ap (λ x. resolved_run x n) e ∙ run-resolved j n

-- they are matched with nothing renamed
pub matched-resolved : (i j : ImageOf Name) → resolved_image i ≡ resolved_image j → AreMatched i j no_renaming
matched-resolved i j e = matched-runs i j (runs-same i j e)
