-- A relation of acts that each operation keeps is kept by every evaluation.
use Rattle.std.specs.Prelude.{ℕ, zero, suc, Bool, true, false, if◌then◌else◌, nat_lt, List, [], ◌∷◌, ◌++◌, length, Option, Some, None, codes}
use Rattle.rb_base.specs.Names.{text_eq}
use Rattle.scope_model.specs.SpecialNames.{is_pseudo_variable}
use Rattle.tree_model.specs.Tree.{LiteralOf, number, str, symbol, char, array, bytes, word, LiteralsOf, no_literals, more_literals, TreeOf, var, literal, send, cascade, assign, block, brace, return, TreesOf, no_trees, more_trees, MessagesOf, no_messages, more_messages, StatementsOf, no_statements, more_statements, SequenceOf}
use Rattle.image_model.specs.Image.{EntryOf, DoItOf, ImageOf}
use Rattle.image_model.specs.Words.{text_words}
use Rattle.image_model.specs.Lookup.{lookup, super_lookup}
use Rattle.image_model.specs.Means.{of_instance, of_class_side, of_class, MeaningOf, pseudo, argument, temporary, variable, a_class, transcript, undeclared}
use Rattle.run_model.specs.Values.{Name, Value, nil_value, true_value, false_value, int_value, char_value, string_value, symbol_value, class_value, object_value, array_value, closure_value, transcript_value, Event, RunError}
use Rattle.run_model.specs.Store.{Binding, holds, in_cell, Frame, Closure, Memory}
use Rattle.run_model.specs.Operations.{Operations}
use Rattle.run_model.specs.Numbers.{numeral_integer}
use Rattle.run_model.specs.Views.{is_meta}
use Rattle.run_model.specs.Calls.{PrimResult, answers, faults, enters}
use Rattle.run_model.specs.Reading.{binding_of, meaning_of, reads_pseudo, reads_meaning, reads_binding, reads, assigns_meaning, assigns_binding, assigns}
use Rattle.run_model.specs.Shapes.{Branch, runs, is_just, Shape, two_ways, loops, a_message, shape_of}
use Rattle.run_model.specs.Eval.{Task, node, turn, Evaluator, gives_integer, literal_value, literal_values, statements, values, inside, held, in_cells, sequence, in_place, enters_with, tells_any, follows, outermost, does_body, does, runs_found, message, is_super, sends, chooses, takes, does_send, goes_on, does_turn, messages, returns_home, does_node, step, eval}
use Rattle.run_model.specs.Runs.{doit_class, does_doit, does_doits, does_all}

-- each operation keeps the relation
pub record IsCongruence (w v : Operations) (Rel : (A : Type 0) → w.Act A → v.Act A → Type 0) : Type 1 where
  pub given : (A : Type 0) (a : A) → Rel A (w.gives a) (v.gives a)
  pub failed : (A : Type 0) (e : RunError) → Rel A (w.fails e) (v.fails e)
  pub returned : (A : Type 0) (h : ℕ) (x : Value) → Rel A (w.goes_home h x) (v.goes_home h x)
  pub chained : (A B : Type 0) (m : w.Act A) (m' : v.Act A) (k : A → w.Act B) (k' : A → v.Act B) → Rel A m m' → ((a : A) → Rel B (k a) (k' a)) → Rel B (w.and_then m k) (v.and_then m' k')
  pub remembered : (A : Type 0) (f : Memory → A × Memory) → Rel A (w.with_memory f) (v.with_memory f)
  pub told : (A : Type 0) (e : Event) (a : A) → Rel A (w.tells e a) (v.tells e a)
  pub paid : (A : Type 0) (n : ℕ) (a : A) → Rel A (w.pays n a) (v.pays n a)
  pub homed : (h : ℕ) (m : w.Act Value) (m' : v.Act Value) → Rel Value m m' → Rel Value (w.at_home h m) (v.at_home h m')

module _ (w w' : Operations) (Rel : (A : Type 0) → w.Act A → w'.Act A → Type 0) (ok : IsCongruence w w' Rel) where
  -- by a condition
  either : (A : Type 0) (b : Bool) (m : w.Act A) (m' : w'.Act A) (n : w.Act A) (n' : w'.Act A) → Rel A m m' → Rel A n n' → Rel A (if b then m else n) (if b then m' else n')
  either A true m m' n n' p q = p
  either A false m m' n n' p q = q

  -- reading a pseudo-variable
  reads_pseudo-Rel : (f : Frame) (n : Name) → Rel Value (reads_pseudo w f n) (reads_pseudo w' f n)
  reads_pseudo-Rel f n =
      either _ (text_eq n (codes "nil")) _ _ _ _ (ok.given _ _)
      (either _ (text_eq n (codes "true")) _ _ _ _ (ok.given _ _)
      (either _ (text_eq n (codes "false")) _ _ _ _ (ok.given _ _)
      (either _ (text_eq n (codes "thisContext")) _ _ _ _ (ok.failed _ _) (ok.given _ _))))

  -- reading what stands outside the environment
  reads_meaning-Rel : (f : Frame) (n : Name) (g : MeaningOf Name) → Rel Value (reads_meaning w f n g) (reads_meaning w' f n g)
  reads_meaning-Rel f n (variable of_instance c) = ok.remembered _ _
  reads_meaning-Rel f n (variable of_class_side c) = ok.remembered _ _
  reads_meaning-Rel f n (variable of_class c) = ok.remembered _ _
  reads_meaning-Rel f n (a_class c) = ok.given _ _
  reads_meaning-Rel f n transcript = ok.given _ _
  reads_meaning-Rel f n pseudo = ok.failed _ _
  reads_meaning-Rel f n (argument scope) = ok.failed _ _
  reads_meaning-Rel f n (temporary scope) = ok.failed _ _
  reads_meaning-Rel f n undeclared = ok.failed _ _

  -- reading a name of the environment
  reads_binding-Rel : (i : ImageOf Name) (f : Frame) (n : Name) (b : Option Binding) → Rel Value (reads_binding w i f n b) (reads_binding w' i f n b)
  reads_binding-Rel i f n (Some (holds v)) = ok.given _ _
  reads_binding-Rel i f n (Some (in_cell k)) = ok.remembered _ _
  reads_binding-Rel i f n None = reads_meaning-Rel f n (meaning_of i f n)

  -- reading
  reads-Rel : (i : ImageOf Name) (f : Frame) (n : Name) → Rel Value (reads w i f n) (reads w' i f n)
  reads-Rel i f n = either _ (is_pseudo_variable n) _ _ _ _ (reads_pseudo-Rel f n) (reads_binding-Rel i f n (binding_of f n))

  -- assigning what stands outside the environment
  assigns_meaning-Rel : (f : Frame) (n : Name) (v : Value) (g : MeaningOf Name) → Rel Value (assigns_meaning w f n v g) (assigns_meaning w' f n v g)
  assigns_meaning-Rel f n v (variable of_instance c) = ok.remembered _ _
  assigns_meaning-Rel f n v (variable of_class_side c) = ok.remembered _ _
  assigns_meaning-Rel f n v (variable of_class c) = ok.remembered _ _
  assigns_meaning-Rel f n v (a_class c) = ok.failed _ _
  assigns_meaning-Rel f n v transcript = ok.failed _ _
  assigns_meaning-Rel f n v pseudo = ok.failed _ _
  assigns_meaning-Rel f n v (argument scope) = ok.failed _ _
  assigns_meaning-Rel f n v (temporary scope) = ok.failed _ _
  assigns_meaning-Rel f n v undeclared = ok.failed _ _

  -- assigning a name of the environment
  assigns_binding-Rel : (i : ImageOf Name) (f : Frame) (n : Name) (v : Value) (b : Option Binding) → Rel Value (assigns_binding w i f n v b) (assigns_binding w' i f n v b)
  assigns_binding-Rel i f n v (Some (holds u)) = ok.failed _ _
  assigns_binding-Rel i f n v (Some (in_cell k)) = ok.remembered _ _
  assigns_binding-Rel i f n v None = assigns_meaning-Rel f n v (meaning_of i f n)

  -- assigning
  assigns-Rel : (i : ImageOf Name) (f : Frame) (n : Name) (v : Value) → Rel Value (assigns w i f n v) (assigns w' i f n v)
  assigns-Rel i f n v = either _ (is_pseudo_variable n) _ _ _ _ (ok.failed _ _) (assigns_binding-Rel i f n v (binding_of f n))

  -- an integer of a numeral
  gives_integer-Rel : (o : Option _) → Rel Value (gives_integer w o) (gives_integer w' o)
  gives_integer-Rel (Some z) = ok.given _ _
  gives_integer-Rel None = ok.failed _ _

  mutual
    -- literals
    literal_value-Rel : (l : LiteralOf Name) → Rel Value (literal_value w l) (literal_value w' l)
    literal_value-Rel (number t) = gives_integer-Rel (numeral_integer t)
    literal_value-Rel (str t) = ok.given _ _
    literal_value-Rel (symbol t) = ok.given _ _
    literal_value-Rel (char b) = ok.given _ _
    literal_value-Rel (array ls) = ok.chained _ _ _ _ _ _ (literal_values-Rel ls) (λ vs. ok.remembered _ _)
    literal_value-Rel (bytes ls) = ok.failed _ _
    literal_value-Rel (word n) = ok.given _ _

    literal_values-Rel : (ls : LiteralsOf Name) → Rel (List Value) (literal_values w ls) (literal_values w' ls)
    literal_values-Rel no_literals = ok.given _ _
    literal_values-Rel (more_literals l ls) = ok.chained _ _ _ _ _ _ (literal_value-Rel l) (λ v. ok.chained _ _ _ _ _ _ (literal_values-Rel ls) (λ vs. ok.given _ _))

  -- an event, if there is one
  tells_any-Rel : (o : Option Event) → Rel Value (tells_any w o) (tells_any w' o)
  tells_any-Rel (Some e) = ok.told _ _ _
  tells_any-Rel None = ok.given _ _

  -- a tested value
  chooses-Rel : (v : Value) (a : w.Act Value) (a' : w'.Act Value) (b : w.Act Value) (b' : w'.Act Value) → Rel Value a a' → Rel Value b b' → Rel Value (chooses w v a b) (chooses w' v a' b')
  chooses-Rel true_value a a' b b' p q = p
  chooses-Rel false_value a a' b b' p q = q
  chooses-Rel nil_value a a' b b' p q = ok.failed _ _
  chooses-Rel (int_value z) a a' b b' p q = ok.failed _ _
  chooses-Rel (char_value c) a a' b b' p q = ok.failed _ _
  chooses-Rel (string_value t) a a' b b' p q = ok.failed _ _
  chooses-Rel (symbol_value t) a a' b b' p q = ok.failed _ _
  chooses-Rel (class_value c) a a' b b' p q = ok.failed _ _
  chooses-Rel (object_value k) a a' b b' p q = ok.failed _ _
  chooses-Rel (array_value k) a a' b b' p q = ok.failed _ _
  chooses-Rel (closure_value k) a a' b b' p q = ok.failed _ _
  chooses-Rel transcript_value a a' b b' p q = ok.failed _ _

  -- whether a loop goes on
  pub goes_on-Rel : (sense : Bool) (v : Value) (m : w.Act Value) (m' : w'.Act Value) → Rel Value m m' → Rel Value (goes_on w sense v m) (goes_on w' sense v m')
  goes_on-Rel true v m m' p = chooses-Rel v _ _ _ _ p (ok.given _ _)
  goes_on-Rel false v m m' p = chooses-Rel v _ _ _ _ (ok.given _ _) p

  -- a return
  returns_home-Rel : (f : Frame) (v : Value) (b : Bool) → Rel Value (returns_home w f v b) (returns_home w' f v b)
  returns_home-Rel f v true = ok.returned _ _ _
  returns_home-Rel f v false = ok.failed _ _

  module _ (go : Evaluator w) (go' : Evaluator w') (nodes : (f : Frame) (t : TreeOf Name) → Rel Value (go (node f t)) (go' (node f t))) where
    -- statements
    pub statements-Rel : (f : Frame) (v : Value) (ss : StatementsOf Name) → Rel Value (statements w go f v ss) (statements w' go' f v ss)
    statements-Rel f v no_statements = ok.given _ _
    statements-Rel f v (more_statements c t ss) = ok.chained _ _ _ _ _ _ (nodes f t) (λ u. statements-Rel f u ss)

    -- arguments
    values-Rel : (f : Frame) (ts : TreesOf Name) → Rel (List Value) (values w go f ts) (values w' go' f ts)
    values-Rel f no_trees = ok.given _ _
    values-Rel f (more_trees t ts) = ok.chained _ _ _ _ _ _ (nodes f t) (λ v. ok.chained _ _ _ _ _ _ (values-Rel f ts) (λ vs. ok.given _ _))

    -- a sequence
    sequence-Rel : (f : Frame) (ps : List Name) (vs : List Value) (b : SequenceOf Name) → Rel Value (sequence w go f ps vs b) (sequence w' go' f ps vs b)
    sequence-Rel f ps vs b =
        ok.chained _ _ _ _ _ _ (ok.remembered _ _) (λ k. statements-Rel (inside f (held ps vs ++ in_cells b.temporaries k)) nil_value b.statements)

    -- a block that is run in place
    pub in_place-Rel : (f : Frame) (b : SequenceOf Name) → Rel Value (in_place w go f b) (in_place w' go' f b)
    in_place-Rel f b = sequence-Rel f [] [] b

    -- a closure
    enters_with-Rel : (o : Option Closure) (args : List Value) → Rel Value (enters_with w go o args) (enters_with w' go' o args)
    enters_with-Rel (Some c) args = sequence-Rel c.frame c.parameters args c.body
    enters_with-Rel None args = ok.failed _ _

    -- what a primitive comes to
    follows-Rel : (args : List Value) (r : PrimResult) → Rel Value (follows w go args r) (follows w' go' args r)
    follows-Rel args (answers n told v h) = ok.chained _ _ _ _ _ _ (ok.paid _ _ _) (λ u. ok.chained _ _ _ _ _ _ (tells_any-Rel told) (λ u. ok.remembered _ _))
    follows-Rel args (faults e) = ok.failed _ _
    follows-Rel args (enters k) = ok.chained _ _ _ _ _ _ (ok.remembered _ _) (λ c. enters_with-Rel c args)

    -- a method's statements
    does_body-Rel : (m : EntryOf Name) (v : Value) (args : List Value) → Rel Value (does_body w go m v args) (does_body w' go' m v args)
    does_body-Rel m v args =
        ok.chained _ _ _ _ _ _ (ok.remembered _ _)
        (λ h. ok.homed h _ _ (ok.chained _ _ _ _ _ _ (sequence-Rel (outermost m.class m.meta v h) m.tree.arguments args m.tree.body) (λ u. ok.given _ _)))

    module _ (i : ImageOf Name) where
      -- a method
      does-Rel : (o : Option ℕ) (m : EntryOf Name) (v : Value) (args : List Value) → Rel Value (does w i go o m v args) (does w' i go' o m v args)
      does-Rel (Some n) m v args = ok.chained _ _ _ _ _ _ (ok.remembered _ _) (λ r. follows-Rel args r)
      does-Rel None m v args = does_body-Rel m v args

      -- a method that was found
      runs_found-Rel : (o : Option (EntryOf Name)) (v : Value) (s : Name) (args : List Value) → Rel Value (runs_found w i go o v s args) (runs_found w' i go' o v s args)
      runs_found-Rel (Some m) v s args = does-Rel m.tree.primitive m v args
      runs_found-Rel None v s args = ok.chained _ _ _ _ _ _ (ok.remembered _ _) (λ c. ok.failed _ _)

      -- a message
      message-Rel : (v : Value) (s : Name) (args : List Value) → Rel Value (message w i go v s args) (message w' i go' v s args)
      message-Rel v s args = ok.chained _ _ _ _ _ _ (ok.remembered _ _) (λ c. runs_found-Rel (lookup text_words i (Some c) (is_meta v) s) v s args)

      -- the message of a send
      sends-Rel : (f : Frame) (r : TreeOf Name) (v : Value) (s : Name) (args : List Value) → Rel Value (sends w i go f r v s args) (sends w' i go' f r v s args)
      sends-Rel f r v s args =
          either _ (is_super r) _ _ _ _ (runs_found-Rel (super_lookup text_words i f.home.class f.home.meta s) v s args) (message-Rel v s args)

      -- the messages of a cascade
      messages-Rel : (f : Frame) (v x : Value) (ms : MessagesOf Name) → Rel Value (messages w i go f v x ms) (messages w' i go' f v x ms)
      messages-Rel f v x no_messages = ok.given _ _
      messages-Rel f v x (more_messages s args ms) =
          ok.chained _ _ _ _ _ _ (values-Rel f args) (λ vs. ok.chained _ _ _ _ _ _ (message-Rel v s vs) (λ u. messages-Rel f v u ms))

      -- a branch
      takes-Rel : (f : Frame) (b : Branch) → Rel Value (takes w go f b) (takes w' go' f b)
      takes-Rel f (runs b) = in_place-Rel f b
      takes-Rel f (is_just v) = ok.given _ _

      -- a do-it
      does_doit-Rel : (d : DoItOf Name) → Rel Value (does_doit w i go d) (does_doit w' i go' d)
      does_doit-Rel d = ok.chained _ _ _ _ _ _ (ok.remembered _ _) (λ h. ok.homed h _ _ (sequence-Rel (outermost (doit_class i) false nil_value h) [] [] d.body))

      -- do-its
      pub does_doits-Rel : (v : Value) (ds : List (DoItOf Name)) → Rel Value (does_doits w i go v ds) (does_doits w' i go' v ds)
      does_doits-Rel v [] = ok.given _ _
      does_doits-Rel v (d ∷ ds) = ok.chained _ _ _ _ _ _ (does_doit-Rel d) (λ u. does_doits-Rel u ds)

      module _ (turns : (f : Frame) (sense : Bool) (a b : SequenceOf Name) → Rel Value (go (turn f sense a b)) (go' (turn f sense a b))) where
        -- a send
        does_send-Rel : (f : Frame) (r : TreeOf Name) (s : Name) (args : TreesOf Name) (k : Shape) → Rel Value (does_send w i go f r s args k) (does_send w' i go' f r s args k)
        does_send-Rel f r s args (two_ways a b) = ok.chained _ _ _ _ _ _ (nodes f r) (λ v. chooses-Rel v _ _ _ _ (takes-Rel f a) (takes-Rel f b))
        does_send-Rel f r s args (loops sense a b) = turns f sense a b
        does_send-Rel f r s args a_message = ok.chained _ _ _ _ _ _ (nodes f r) (λ v. ok.chained _ _ _ _ _ _ (values-Rel f args) (λ vs. sends-Rel f r v s vs))

        -- a turn of a loop
        pub does_turn-Rel : (f : Frame) (sense : Bool) (a b : SequenceOf Name) → Rel Value (does_turn w go f sense a b) (does_turn w' go' f sense a b)
        does_turn-Rel f sense a b =
            ok.chained _ _ _ _ _ _ (in_place-Rel f a) (λ v. goes_on-Rel sense v _ _ (ok.chained _ _ _ _ _ _ (in_place-Rel f b) (λ u. turns f sense a b)))

        -- a node
        pub does_node-Rel : (f : Frame) (t : TreeOf Name) → Rel Value (does_node w i go f t) (does_node w' i go' f t)
        does_node-Rel f (var n) = reads-Rel i f n
        does_node-Rel f (literal l) = literal_value-Rel l
        does_node-Rel f (send r s args) = does_send-Rel f r s args (shape_of s r args)
        does_node-Rel f (cascade r ms) = ok.chained _ _ _ _ _ _ (nodes f r) (λ v. messages-Rel f v nil_value ms)
        does_node-Rel f (assign n t) = ok.chained _ _ _ _ _ _ (nodes f t) (λ v. assigns-Rel i f n v)
        does_node-Rel f (block ps ts ss e) = ok.remembered _ _
        does_node-Rel f (brace ts) = ok.chained _ _ _ _ _ _ (values-Rel f ts) (λ vs. either _ (nat_lt 65535 (length vs)) _ _ _ _ (ok.failed _ _) (ok.remembered _ _))
        does_node-Rel f (return t) = ok.chained _ _ _ _ _ _ (nodes f t) (λ v. ok.chained _ _ _ _ _ _ (ok.remembered _ _) (λ b. returns_home-Rel f v b))

        -- a step
        pub step-Rel : (t : Task) → Rel Value (step w i go t) (step w' i go' t)
        step-Rel (node f t) = ok.chained _ _ _ _ _ _ (ok.paid _ _ _) (λ u. does_node-Rel f t)
        step-Rel (turn f sense a b) = does_turn-Rel f sense a b

  module _ (stopped : Rel Value w.stops w'.stops) (i : ImageOf Name) where
    -- evaluation with the same depth
    pub eval-Rel : (d : ℕ) (t : Task) → Rel Value (eval w i d t) (eval w' i d t)
    eval-Rel zero t = stopped
    eval-Rel (suc d) t = step-Rel (eval w i d) (eval w' i d) (λ f n. eval-Rel d _) i (λ f sense a b. eval-Rel d _) t

    -- all do-its with the same depth
    pub does_all-Rel : (d : ℕ) → Rel Value (does_all w i d) (does_all w' i d)
    does_all-Rel d = does_doits-Rel (eval w i d) (eval w' i d) (λ f n. eval-Rel d _) i nil_value i.doits
