-- Evaluation without comments.
use Rattle.std.proofs.Common.{◌≡◌, ℕ, zero, suc, List, [], ◌∷◌, ◌++◌, length, Option, Some, None, refl, sym, ap, ◌∙◌, subst}
use Rattle.std.specs.Prelude.{Bool, true, false, ◌+◌, ◌*◌, if◌then◌else◌, nat_lt, map, set, slice_get, option_map, unwrap_or, find, cond, codes}
use Rattle.std.specs.List.{AllByRecursion}
use Rattle.std.proofs.lemmas.List.{map-append}
use Rattle.image_model.proofs.Lists.{length-map}
use Rattle.std.proofs.lemmas.Option.{slice_get-map}
use Rattle.rb_base.specs.Names.{text_eq}
use Rattle.scope_model.specs.SpecialNames.{is_pseudo_variable}
use Rattle.tree_model.specs.Tree.{LiteralOf, number, str, symbol, char, array, bytes, word, LiteralsOf, no_literals, more_literals, TreeOf, var, literal, send, cascade, assign, block, brace, return, TreesOf, no_trees, more_trees, MessagesOf, no_messages, more_messages, StatementsOf, no_statements, more_statements, SequenceOf}
use Rattle.tree_model.specs.Bare.{bare, bare_trees, bare_messages, bare_statements, bare_sequence}
use Rattle.image_model.specs.Image.{ClassOf, EntryOf, DoItOf, ImageOf}
use Rattle.image_model.specs.Words.{text_words}
use Rattle.image_model.specs.Lookup.{lookup, super_lookup}
use Rattle.image_model.specs.Replaced.{KeepsVariables, KeepsSignature}
use Rattle.image_model.specs.Means.{of_instance, of_class_side, of_class, MeaningOf, pseudo, argument, temporary, variable, a_class, transcript, undeclared}
use Rattle.image_model.proofs.Kept.{lookup-kept, super_lookup-kept, means_outside-kept}
use Rattle.run_model.specs.Values.{Name, Value, nil_value, true_value, false_value, int_value, char_value, string_value, symbol_value, class_value, object_value, array_value, closure_value, transcript_value, Event}
use Rattle.run_model.specs.Store.{Object, field_of, with_field, class_side_of, with_class_side, object_with, with_objects, Binding, holds, in_cell, Frame, Closure, Memory, start, returns, ends_by, out_of_ticks, Result, fine, leaves, arity_in}
use Rattle.run_model.specs.Acts.{Act, acts, with_memory, stops}
use Rattle.run_model.specs.Numbers.{numeral_integer}
use Rattle.run_model.specs.Views.{is_meta}
use Rattle.run_model.specs.Calls.{PrimResult, answers, faults, enters}
use Rattle.run_model.specs.Primitives.{primitive}
use Rattle.run_model.specs.Reading.{binding_of, meaning_of, reads_pseudo, reads_meaning, reads_binding, reads, assigns_meaning, assigns_binding, assigns}
use Rattle.run_model.specs.Shapes.{Branch, runs, is_just, Shape, two_ways, loops, a_message, shape_of}
use Rattle.run_model.specs.Eval.{Task, node, turn, Evaluator, gives_integer, literal_value, literal_values, statements, values, inside, held, in_cells, sequence, enters_with, tells_any, follows, does_primitive, outermost, does, runs_found, message, super_message, is_super, sends, chooses, takes, does_send, goes_on, messages, makes_closure, returns_home, does_node, step, eval}
use Rattle.run_model.specs.Runs.{doit_class, does_doit, does_doits, comes_to, seen, run}
use Rattle.run_model.specs.Renamings.{no_renaming}
use Rattle.run_model.specs.Matched.{AreMatched}
use Rattle.run_model.proofs.MatchedLemmas.{matched-runs}
use Rattle.bare_model.specs.BareImages.{bare_class, bare_entry, bare_doit, bare_image}
use Rattle.bare_model.proofs.BareStores.{bare_closure, bare_memory, bare_result, Bares, same, gives-bare, fails-bare, goes_home-bare, then_bare, memory-bare, tells-bare, pays-bare, at_home-bare}
use Rattle.bare_model.proofs.BareShapes.{bare_branch, bare_shape, shape-bare, is_super-bare, hierarchy, primitive-bare, arity-bare}

-- each class keeps its variables
variables-kept : (classes : List (ClassOf Name)) → AllByRecursion (KeepsVariables bare_class) classes
variables-kept [] = tt
variables-kept (c ∷ cs) = (kept c, variables-kept cs)
  where
    kept : (c : ClassOf Name) → KeepsVariables bare_class c
    kept c of_instance = refl
    kept c of_class_side = refl
    kept c of_class = refl

-- each method keeps its class, side and selector
signatures : (methods : List (EntryOf Name)) → AllByRecursion (KeepsSignature bare_entry) methods
signatures [] = tt
signatures (m ∷ ms) = (refl, signatures ms)

-- by a condition
either : {A : Type 0} (b : Bool) (m m' n n' : Act A) → Bares same m m' → Bares same n n' → Bares same (if b then m else n) (if b then m' else n')
either true m m' n n' p q = p
either false m m' n n' p q = q

-- reading and changing what is no closure
plain-bare : {A : Type 0} (f f' : Memory → A × Memory) → ((m : Memory) → f' (bare_memory m) ≡ ((f m).0, bare_memory ((f m).1))) → Bares same (with_memory f) (with_memory f')
plain-bare f f' e = memory-bare same f f' e

-- reading a field
field-bare : (m : Memory) (v : Value) (n : Name) → field_of (bare_memory m) v n ≡ field_of m v n
field-bare m (object_value k) n = refl
field-bare m v n = refl

-- storing in a field of an object that may be there
with_field-by : (m : Memory) (k : ℕ) (n : Name) (u : Value) (o : Option Object) →
    unwrap_or (option_map (λ x. with_objects (bare_memory m) (set m.heap.objects k (object_with x n u))) o) (bare_memory m) ≡ bare_memory (unwrap_or (option_map (λ x. with_objects m (set m.heap.objects k (object_with x n u))) o) m)
with_field-by m k n u (Some x) = refl
with_field-by m k n u None = refl

-- storing in a field
with_field-bare : (m : Memory) (v : Value) (n : Name) (u : Value) → with_field (bare_memory m) v n u ≡ bare_memory (with_field m v n u)
with_field-bare m (object_value k) n u = with_field-by m k n u (slice_get m.heap.objects k)
with_field-bare m v n u = refl

-- reading a class-instance variable
class_side-bare : (m : Memory) (v : Value) (n : Name) → class_side_of (bare_memory m) v n ≡ class_side_of m v n
class_side-bare m (class_value c) n = refl
class_side-bare m v n = refl

-- storing in a class-instance variable
with_class_side-bare : (m : Memory) (v : Value) (n : Name) (u : Value) → with_class_side (bare_memory m) v n u ≡ bare_memory (with_class_side m v n u)
with_class_side-bare m (class_value c) n u = refl
with_class_side-bare m v n u = refl

-- reading a pseudo-variable
reads_pseudo-bare : (f : Frame) (n : Name) → Bares same (reads_pseudo acts f n) (reads_pseudo acts f n)
reads_pseudo-bare f n =
    either (text_eq n (codes "nil")) _ _ _ _ (gives-bare same _)
    (either (text_eq n (codes "true")) _ _ _ _ (gives-bare same _)
    (either (text_eq n (codes "false")) _ _ _ _ (gives-bare same _)
    (either (text_eq n (codes "thisContext")) _ _ _ _ (fails-bare same _) (gives-bare same _))))

-- reading what stands outside the environment
reads_meaning-bare : (f : Frame) (n : Name) (g : MeaningOf Name) → Bares same (reads_meaning acts f n g) (reads_meaning acts f n g)
reads_meaning-bare f n (variable of_instance c) = plain-bare _ _ (λ m. ap (λ v. (v, bare_memory m)) (field-bare m f.me n))
reads_meaning-bare f n (variable of_class_side c) = plain-bare _ _ (λ m. ap (λ v. (v, bare_memory m)) (class_side-bare m f.me n))
reads_meaning-bare f n (variable of_class c) = plain-bare _ _ (λ m. refl)
reads_meaning-bare f n (a_class c) = gives-bare same _
reads_meaning-bare f n transcript = gives-bare same _
reads_meaning-bare f n pseudo = fails-bare same _
reads_meaning-bare f n (argument scope) = fails-bare same _
reads_meaning-bare f n (temporary scope) = fails-bare same _
reads_meaning-bare f n undeclared = fails-bare same _

-- assigning what stands outside the environment
assigns_meaning-bare : (f : Frame) (n : Name) (v : Value) (g : MeaningOf Name) → Bares same (assigns_meaning acts f n v g) (assigns_meaning acts f n v g)
assigns_meaning-bare f n v (variable of_instance c) = plain-bare _ _ (λ m. ap (λ x. (v, x)) (with_field-bare m f.me n v))
assigns_meaning-bare f n v (variable of_class_side c) = plain-bare _ _ (λ m. ap (λ x. (v, x)) (with_class_side-bare m f.me n v))
assigns_meaning-bare f n v (variable of_class c) = plain-bare _ _ (λ m. refl)
assigns_meaning-bare f n v (a_class c) = fails-bare same _
assigns_meaning-bare f n v transcript = fails-bare same _
assigns_meaning-bare f n v pseudo = fails-bare same _
assigns_meaning-bare f n v (argument scope) = fails-bare same _
assigns_meaning-bare f n v (temporary scope) = fails-bare same _
assigns_meaning-bare f n v undeclared = fails-bare same _

-- a literal integer
gives_integer-bare : (o : Option _) → Bares same (gives_integer acts o) (gives_integer acts o)
gives_integer-bare (Some z) = gives-bare same _
gives_integer-bare None = fails-bare same _

mutual
  -- literals
  literal-bare : (l : LiteralOf Name) → Bares same (literal_value acts l) (literal_value acts l)
  literal-bare (number t) = gives_integer-bare (numeral_integer t)
  literal-bare (str t) = gives-bare same _
  literal-bare (symbol t) = gives-bare same _
  literal-bare (char b) = gives-bare same _
  literal-bare (array ls) = then_bare same same _ _ _ _ (literals-bare ls) (λ vs. plain-bare _ _ (λ m. refl))
  literal-bare (bytes ls) = fails-bare same _
  literal-bare (word n) = gives-bare same _

  literals-bare : (ls : LiteralsOf Name) → Bares same (literal_values acts ls) (literal_values acts ls)
  literals-bare no_literals = gives-bare same _
  literals-bare (more_literals l ls) = then_bare same same _ _ _ _ (literal-bare l) (λ v. then_bare same same _ _ _ _ (literals-bare ls) (λ vs. gives-bare same _))

-- an event, if there is one
tells_any-bare : (o : Option Event) → Bares same (tells_any acts o) (tells_any acts o)
tells_any-bare (Some e) = tells-bare same _ _
tells_any-bare None = gives-bare same _

-- a tested value
chooses-bare : (v : Value) (a a' b b' : Act Value) → Bares same a a' → Bares same b b' → Bares same (chooses acts v a b) (chooses acts v a' b')
chooses-bare true_value a a' b b' p q = p
chooses-bare false_value a a' b b' p q = q
chooses-bare nil_value a a' b b' p q = fails-bare same _
chooses-bare (int_value z) a a' b b' p q = fails-bare same _
chooses-bare (char_value c) a a' b b' p q = fails-bare same _
chooses-bare (string_value t) a a' b b' p q = fails-bare same _
chooses-bare (symbol_value t) a a' b b' p q = fails-bare same _
chooses-bare (class_value c) a a' b b' p q = fails-bare same _
chooses-bare (object_value k) a a' b b' p q = fails-bare same _
chooses-bare (array_value k) a a' b b' p q = fails-bare same _
chooses-bare (closure_value k) a a' b b' p q = fails-bare same _
chooses-bare transcript_value a a' b b' p q = fails-bare same _

-- whether a loop goes on
goes_on-bare : (sense : Bool) (v : Value) (m m' : Act Value) → Bares same m m' → Bares same (goes_on acts sense v m) (goes_on acts sense v m')
goes_on-bare true v m m' p = chooses-bare v _ _ _ _ p (gives-bare same _)
goes_on-bare false v m m' p = chooses-bare v _ _ _ _ (gives-bare same _) p

-- a return
returns_home-bare : (f : Frame) (v : Value) (b : Bool) → Bares same (returns_home acts f v b) (returns_home acts f v b)
returns_home-bare f v true = goes_home-bare same _ _
returns_home-bare f v false = fails-bare same _

-- a new closure
makes_closure-bare : (ps : List Name) (b : SequenceOf Name) (f : Frame) → Bares same (makes_closure acts ps b f) (makes_closure acts ps (bare_sequence b) f)
makes_closure-bare ps b f =
    plain-bare _ _ (λ m. ap (λ n. (closure_value n, record m { closures = map bare_closure m.closures ++ record { parameters = ps; body = bare_sequence b; frame = f } ∷ [] })) (length-map bare_closure m.closures)
    ∙ ap (λ cs. (closure_value (length m.closures), record m { closures = cs })) (sym (map-append bare_closure m.closures (record { parameters = ps; body = b; frame = f } ∷ []))))

-- a task without comments
abbrev bare_task : Task → Task
bare_task (node f t) = node f (bare t)
bare_task (turn f sense a b) = turn f sense (bare_sequence a) (bare_sequence b)

module _ (i : ImageOf Name) (go go' : Evaluator acts) (tasks : (t : Task) → Bares same (go t) (go' (bare_task t))) where
  -- what a name means outside the scopes
  meaning-bare : (f : Frame) (n : Name) → meaning_of (bare_image i) f n ≡ meaning_of i f n
  meaning-bare f n = means_outside-kept text_words i bare_class bare_entry (hierarchy i.classes) (variables-kept i.classes) f.home.class f.home.meta n

  -- reading by the environment
  reads_binding-bare : (f : Frame) (n : Name) (o : Option Binding) → Bares same (reads_binding acts i f n o) (reads_binding acts (bare_image i) f n o)
  reads_binding-bare f n (Some (holds v)) = gives-bare same _
  reads_binding-bare f n (Some (in_cell k)) = plain-bare _ _ (λ m. refl)
  reads_binding-bare f n None = subst (λ g. Bares same (reads_meaning acts f n (meaning_of i f n)) (reads_meaning acts f n g)) (sym (meaning-bare f n)) (reads_meaning-bare f n (meaning_of i f n))

  -- reading
  reads-bare : (f : Frame) (n : Name) → Bares same (reads acts i f n) (reads acts (bare_image i) f n)
  reads-bare f n = either (is_pseudo_variable n) _ _ _ _ (reads_pseudo-bare f n) (reads_binding-bare f n (binding_of f n))

  -- assigning by the environment
  assigns_binding-bare : (f : Frame) (n : Name) (v : Value) (o : Option Binding) → Bares same (assigns_binding acts i f n v o) (assigns_binding acts (bare_image i) f n v o)
  assigns_binding-bare f n v (Some (holds u)) = fails-bare same _
  assigns_binding-bare f n v (Some (in_cell k)) = plain-bare _ _ (λ m. refl)
  assigns_binding-bare f n v None = subst (λ g. Bares same (assigns_meaning acts f n v (meaning_of i f n)) (assigns_meaning acts f n v g)) (sym (meaning-bare f n)) (assigns_meaning-bare f n v (meaning_of i f n))

  -- assigning
  assigns-bare : (f : Frame) (n : Name) (v : Value) → Bares same (assigns acts i f n v) (assigns acts (bare_image i) f n v)
  assigns-bare f n v = either (is_pseudo_variable n) _ _ _ _ (fails-bare same _) (assigns_binding-bare f n v (binding_of f n))

  -- statements
  statements-bare : (f : Frame) (v : Value) (ss : StatementsOf Name) → Bares same (statements acts go f v ss) (statements acts go' f v (bare_statements ss))
  statements-bare f v no_statements = gives-bare same _
  statements-bare f v (more_statements c t ss) = then_bare same same _ _ _ _ (tasks (node f t)) (λ u. statements-bare f u ss)

  -- arguments
  values-bare : (f : Frame) (ts : TreesOf Name) → Bares same (values acts go f ts) (values acts go' f (bare_trees ts))
  values-bare f no_trees = gives-bare same _
  values-bare f (more_trees t ts) = then_bare same same _ _ _ _ (tasks (node f t)) (λ v. then_bare same same _ _ _ _ (values-bare f ts) (λ vs. gives-bare same _))

  -- a sequence
  sequence-bare : (f : Frame) (ps : List Name) (vs : List Value) (b : SequenceOf Name) → Bares same (sequence acts go f ps vs b) (sequence acts go' f ps vs (bare_sequence b))
  sequence-bare f ps vs b = then_bare same same _ _ _ _ (plain-bare _ _ (λ m. refl)) (λ k. statements-bare (inside f (held ps vs ++ in_cells b.temporaries k)) nil_value b.statements)

  -- a closure
  enters_with-bare : (o : Option Closure) (args : List Value) → Bares same (enters_with acts go o args) (enters_with acts go' (option_map bare_closure o) args)
  enters_with-bare (Some c) args = sequence-bare c.frame c.parameters args c.body
  enters_with-bare None args = fails-bare same _

  -- what a primitive comes to
  follows-bare : (args : List Value) (r : PrimResult) → Bares same (follows acts go args r) (follows acts go' args r)
  follows-bare args (answers n told v h) = then_bare same same _ _ _ _ (pays-bare same _ _) (λ u. then_bare same same _ _ _ _ (tells_any-bare told) (λ x. plain-bare _ _ (λ m. refl)))
  follows-bare args (faults e) = fails-bare same _
  follows-bare args (enters k) =
      then_bare (option_map bare_closure) same _ _ _ _ (memory-bare (option_map bare_closure) _ _ (λ m. ap (λ o. (o, bare_memory m)) (slice_get-map bare_closure m.closures k))) (λ c. enters_with-bare c args)

  -- a primitive
  does_primitive-bare : (n : ℕ) (v : Value) (args : List Value) → Bares same (does_primitive acts i go n v args) (does_primitive acts (bare_image i) go' n v args)
  does_primitive-bare n v args =
      then_bare same same _ _ _ _
      (plain-bare _ _ (λ m. ap (λ a. (primitive (record { number = n; receiver = v; arguments = args; heap = m.heap; arity = a; classes = map bare_class i.classes }), bare_memory m)) (arity-bare m.closures)
      ∙ ap (λ r. (r, bare_memory m)) (primitive-bare (record { number = n; receiver = v; arguments = args; heap = m.heap; arity = arity_in m.closures; classes = i.classes }))))
      (λ r. follows-bare args r)

  -- a method
  does-bare : (o : Option ℕ) (m : EntryOf Name) (v : Value) (args : List Value) → Bares same (does acts i go o m v args) (does acts (bare_image i) go' o (bare_entry m) v args)
  does-bare (Some n) m v args = does_primitive-bare n v args
  does-bare None m v args =
      then_bare same same _ _ _ _ (plain-bare _ _ (λ x. refl))
      (λ h. at_home-bare h _ _ (then_bare same same _ _ _ _ (sequence-bare (outermost m.class m.meta v h) m.tree.arguments args m.tree.body) (λ u. gives-bare same _)))

  -- a method that was found
  runs_found-bare : (o : Option (EntryOf Name)) (v : Value) (s : Name) (args : List Value) → Bares same (runs_found acts i go o v s args) (runs_found acts (bare_image i) go' (option_map bare_entry o) v s args)
  runs_found-bare (Some m) v s args = does-bare m.tree.primitive m v args
  runs_found-bare None v s args = then_bare same same _ _ _ _ (plain-bare _ _ (λ m. refl)) (λ c. fails-bare same _)

  -- a message
  message-bare : (v : Value) (s : Name) (args : List Value) → Bares same (message acts i go v s args) (message acts (bare_image i) go' v s args)
  message-bare v s args =
      then_bare same same _ _ _ _ (plain-bare _ _ (λ m. refl))
      (λ c. subst (λ o. Bares same (runs_found acts i go (lookup text_words i (Some c) (is_meta v) s) v s args) (runs_found acts (bare_image i) go' o v s args))
      (sym (lookup-kept text_words i bare_class bare_entry (hierarchy i.classes) (signatures i.methods) (Some c) (is_meta v) s)) (runs_found-bare (lookup text_words i (Some c) (is_meta v) s) v s args))

  -- a message to `super`
  super_message-bare : (f : Frame) (v : Value) (s : Name) (args : List Value) → Bares same (super_message acts i go f v s args) (super_message acts (bare_image i) go' f v s args)
  super_message-bare f v s args =
      subst (λ o. Bares same (super_message acts i go f v s args) (runs_found acts (bare_image i) go' o v s args))
      (sym (super_lookup-kept text_words i bare_class bare_entry (hierarchy i.classes) (signatures i.methods) f.home.class f.home.meta s)) (runs_found-bare (super_lookup text_words i f.home.class f.home.meta s) v s args)

  -- the message of a send
  sends-bare : (f : Frame) (r : TreeOf Name) (v : Value) (s : Name) (args : List Value) → Bares same (sends acts i go f r v s args) (sends acts (bare_image i) go' f (bare r) v s args)
  sends-bare f r v s args =
      subst (λ b. Bares same (sends acts i go f r v s args) (if b then super_message acts (bare_image i) go' f v s args else message acts (bare_image i) go' v s args)) (sym (is_super-bare r))
      (either (is_super r) _ _ _ _ (super_message-bare f v s args) (message-bare v s args))

  -- the messages of a cascade
  messages-bare : (f : Frame) (v x : Value) (ms : MessagesOf Name) → Bares same (messages acts i go f v x ms) (messages acts (bare_image i) go' f v x (bare_messages ms))
  messages-bare f v x no_messages = gives-bare same _
  messages-bare f v x (more_messages s args ms) = then_bare same same _ _ _ _ (values-bare f args) (λ vs. then_bare same same _ _ _ _ (message-bare v s vs) (λ u. messages-bare f v u ms))

  -- a branch
  takes-bare : (f : Frame) (b : Branch) → Bares same (takes acts go f b) (takes acts go' f (bare_branch b))
  takes-bare f (runs b) = sequence-bare f [] [] b
  takes-bare f (is_just v) = gives-bare same _

  -- a send by its shape
  does_send-bare : (f : Frame) (r : TreeOf Name) (s : Name) (args : TreesOf Name) (k : Shape) → Bares same (does_send acts i go f r s args k) (does_send acts (bare_image i) go' f (bare r) s (bare_trees args) (bare_shape k))
  does_send-bare f r s args (two_ways a b) = then_bare same same _ _ _ _ (tasks (node f r)) (λ v. chooses-bare v _ _ _ _ (takes-bare f a) (takes-bare f b))
  does_send-bare f r s args (loops sense a b) = tasks (turn f sense a b)
  does_send-bare f r s args a_message = then_bare same same _ _ _ _ (tasks (node f r)) (λ v. then_bare same same _ _ _ _ (values-bare f args) (λ vs. sends-bare f r v s vs))

  -- a node
  does_node-bare : (f : Frame) (t : TreeOf Name) → Bares same (does_node acts i go f t) (does_node acts (bare_image i) go' f (bare t))
  does_node-bare f (var n) = reads-bare f n
  does_node-bare f (literal l) = literal-bare l
  does_node-bare f (send r s args) =
      subst (λ k. Bares same (does_send acts i go f r s args (shape_of s r args)) (does_send acts (bare_image i) go' f (bare r) s (bare_trees args) k)) (sym (shape-bare s r args)) (does_send-bare f r s args (shape_of s r args))
  does_node-bare f (cascade r ms) = then_bare same same _ _ _ _ (tasks (node f r)) (λ v. messages-bare f v nil_value ms)
  does_node-bare f (assign n t) = then_bare same same _ _ _ _ (tasks (node f t)) (λ v. assigns-bare f n v)
  does_node-bare f (block ps ts ss e) = makes_closure-bare ps (record { temporaries = ts; statements = ss; tail = e }) f
  does_node-bare f (brace ts) = then_bare same same _ _ _ _ (values-bare f ts) (λ vs. either (nat_lt 65535 (length vs)) _ _ _ _ (fails-bare same _) (plain-bare _ _ (λ m. refl)))
  does_node-bare f (return t) = then_bare same same _ _ _ _ (tasks (node f t)) (λ v. then_bare same same _ _ _ _ (plain-bare _ _ (λ m. refl)) (λ b. returns_home-bare f v b))

  -- a step
  step-bare : (t : Task) → Bares same (step acts i go t) (step acts (bare_image i) go' (bare_task t))
  step-bare (node f t) = then_bare same same _ _ _ _ (pays-bare same _ _) (λ u. does_node-bare f t)
  step-bare (turn f sense a b) = then_bare same same _ _ _ _ (sequence-bare f [] [] a) (λ v. goes_on-bare sense v _ _ (then_bare same same _ _ _ _ (sequence-bare f [] [] b) (λ u. tasks (turn f sense a b))))

  -- the class of do-its
  doit_class-bare : doit_class (bare_image i) ≡ doit_class i
  doit_class-bare = found i.classes
    where
      found : (cs : List (ClassOf Name)) → option_map (λ (c : ClassOf Name). c.name) (find (λ c. text_words.is_undefined_object c.name) (map bare_class cs)) ≡ option_map (λ (c : ClassOf Name). c.name) (find (λ c. text_words.is_undefined_object c.name) cs)
      found [] = refl
      found (c ∷ cs) = by (text_words.is_undefined_object c.name) (found cs)
        where
          by : (b : Bool) → option_map (λ (x : ClassOf Name). x.name) (find (λ x. text_words.is_undefined_object x.name) (map bare_class cs)) ≡ option_map (λ (x : ClassOf Name). x.name) (find (λ x. text_words.is_undefined_object x.name) cs) →
              option_map (λ (x : ClassOf Name). x.name) (cond b (Some (bare_class c)) (find (λ x. text_words.is_undefined_object x.name) (map bare_class cs))) ≡ option_map (λ (x : ClassOf Name). x.name) (cond b (Some c) (find (λ x. text_words.is_undefined_object x.name) cs))
          by true h = refl
          by false h = h

  -- a do-it
  does_doit-bare : (d : DoItOf Name) → Bares same (does_doit acts i go d) (does_doit acts (bare_image i) go' (bare_doit d))
  does_doit-bare d =
      then_bare same same _ _ _ _ (plain-bare _ _ (λ x. refl))
      (λ h. at_home-bare h _ _ (subst (λ c. Bares same (sequence acts go (outermost (doit_class i) false nil_value h) [] [] d.body) (sequence acts go' (outermost c false nil_value h) [] [] (bare_sequence d.body))) (sym doit_class-bare)
      (sequence-bare (outermost (doit_class i) false nil_value h) [] [] d.body)))

  -- do-its
  does_doits-bare : (v : Value) (ds : List (DoItOf Name)) → Bares same (does_doits acts i go v ds) (does_doits acts (bare_image i) go' v (map bare_doit ds))
  does_doits-bare v [] = gives-bare same _
  does_doits-bare v (d ∷ ds) = then_bare same same _ _ _ _ (does_doit-bare d) (λ u. does_doits-bare u ds)

-- evaluation with so much depth
eval-bare : (i : ImageOf Name) (d : ℕ) (t : Task) → Bares same (eval acts i d t) (eval acts (bare_image i) d (bare_task t))
unfolding stops
eval-bare i zero t s = refl
eval-bare i (suc d) t s = step-bare i (eval acts i d) (eval acts (bare_image i) d) (eval-bare i d) t s

-- what is seen of a result without comments
seen-bare : (n : ℕ) (x : Result Value) → seen n (bare_result same x) ≡ seen n x
seen-bare n (fine (array_value k) s) = refl
seen-bare n (fine v s) = refl
seen-bare n (leaves (returns h v) s) = refl
seen-bare n (leaves (ends_by e) s) = refl
seen-bare n (leaves out_of_ticks s) = refl

-- the run of an image without comments is its run
pub run-bare : (i : ImageOf Name) (n : ℕ) → run (bare_image i) n ≡ run i n
unfolding run
run-bare i n =
    ap (seen n) (does_doits-bare i (eval acts i (2 * n + 2)) (eval acts (bare_image i) (2 * n + 2)) (eval-bare i (2 * n + 2)) nil_value i.doits (start n)) ∙ seen-bare n (comes_to i (2 * n + 2) n)

-- the runs of images that are the same without comments
runs-same : (i j : ImageOf Name) → bare_image i ≡ bare_image j → (n : ℕ) → run i n ≡ run j n
runs-same i j e n = sym (run-bare i n) ∙ ap (λ x. run x n) e ∙ run-bare j n

-- they are matched with nothing renamed
pub matched-bare : (i j : ImageOf Name) → bare_image i ≡ bare_image j → AreMatched i j no_renaming
matched-bare i j e = matched-runs i j (runs-same i j e)
