-- When an image is another one in which the bodies of methods stand in place of some sends to self that run them, and values in place of some temporaries that one statement sets.
use Rattle.std.specs.Prelude.{◌≡◌, ◌≤◌, ℕ, zero, suc, ◌+◌, Bool, true, false, List, [], ◌∷◌, ◌++◌, map, length, set, slice_get, Option, Some, None, codes, ℤ}
use Rattle.rb_base.specs.Names.{text_eq}
use Rattle.tree_model.specs.Tree.{LiteralOf, number, str, symbol, char, word}
use Rattle.image_model.specs.Image.{ClassOf}
use Rattle.image_model.specs.ImageNames.{OptionNames}
use Rattle.image_model.specs.Chain.{class_named}
use Rattle.run_model.specs.Values.{Name, Value}
use Rattle.run_model.specs.Numbers.{numeral_integer}
use Rattle.resolved_model.specs.ResolvedTrees.{Reference, of_word, of_local, of_instance_variable, of_class_side_variable, of_class_variable, of_named_class, of_transcript, of_nothing, Target, to_temporary, to_instance_variable, to_class_side_variable, to_class_variable, to_fixed, to_nothing, ResolvedTree, reading, constant, sending, cascading, assigning, block_of, brace_of, returning, ResolvedTrees, no_nodes, more_nodes, ResolvedMessages, no_sends, more_sends, ResolvedStatements, no_lines, more_lines, ResolvedCode}
use Rattle.resolved_model.specs.ResolvedImages.{Doing, by_primitive, by_code, ResolvedMethod, ResolvedImage, finds}
use Rattle.resolved_model.specs.ResolvedShapes.{ResolvedBranch, runs_code, gives_just, chooses_way, repeats, as_message, resolved_shape}
use Rattle.resolved_model.specs.ResolvedEval.{reads_super}

-- a class is another one, or stands below it
pub data IsBelow (classes : List (ClassOf Name)) (c : Name) : Name → Type 0 where
  itself : IsBelow classes c c
  above : {k n : Name} (d : ClassOf Name) → IsBelow classes c k → class_named text_eq classes k ≡ Some d → d.superclass ≡ Some n → IsBelow classes c n

-- What stands in the code after for an argument or temporary of the code before: an argument; a temporary, or one that no closure assigns, as it is in the code of its scope or in a closure there; a temporary that no closure assigns, for an argument that is read outside closures; a temporary that is dropped, before the one statement that sets it; nothing, where it is not read; self; or a thing that is always the same. Arguments and temporaries are given by their places.
pub data StandIn : Type 0 where
  an_argument : ℕ → StandIn
  a_temporary : ℕ → StandIn
  a_steady : ℕ → StandIn
  a_far : ℕ → StandIn
  a_lent : ℕ → StandIn
  a_dropped : StandIn
  a_nothing : StandIn
  a_self : StandIn
  a_nil : StandIn
  a_true : StandIn
  a_false : StandIn
  a_number : List ℕ → StandIn
  a_string : List ℕ → StandIn
  a_symbol : List ℕ → StandIn
  a_char : ℕ → StandIn
  a_class : Name → StandIn

-- the node that stands in
abbrev pub stand_in : StandIn → ResolvedTree
stand_in (an_argument k) = reading (of_local k)
stand_in (a_temporary k) = reading (of_local k)
stand_in (a_steady k) = reading (of_local k)
stand_in (a_far k) = reading (of_local k)
stand_in (a_lent k) = reading (of_local k)
stand_in a_dropped = reading (of_word (codes "nil"))
stand_in a_nothing = reading (of_word (codes "nil"))
stand_in a_self = reading (of_word (codes "self"))
stand_in a_nil = reading (of_word (codes "nil"))
stand_in a_true = reading (of_word (codes "true"))
stand_in a_false = reading (of_word (codes "false"))
stand_in (a_number t) = constant (number t)
stand_in (a_string t) = constant (str t)
stand_in (a_symbol t) = constant (symbol t)
stand_in (a_char b) = constant (char b)
stand_in (a_class c) = reading (of_named_class c)

-- the same inside a scope with so many further places
abbrev pub moved : ℕ → StandIn → StandIn
moved n (an_argument k) = an_argument (n + k)
moved n (a_temporary k) = a_temporary (n + k)
moved n (a_steady k) = a_steady (n + k)
moved n (a_far k) = a_far (n + k)
moved n (a_lent k) = a_lent (n + k)
moved n a_dropped = a_nothing
moved n a_nothing = a_nothing
moved n a_self = a_self
moved n a_nil = a_nil
moved n a_true = a_true
moved n a_false = a_false
moved n (a_number t) = a_number t
moved n (a_string t) = a_string t
moved n (a_symbol t) = a_symbol t
moved n (a_char b) = a_char b
moved n (a_class c) = a_class c

-- the same inside a closure
abbrev pub farther : StandIn → StandIn
farther (an_argument k) = an_argument k
farther (a_temporary k) = a_temporary k
farther (a_steady k) = a_far k
farther (a_far k) = a_far k
farther (a_lent k) = a_nothing
farther a_dropped = a_nothing
farther a_nothing = a_nothing
farther a_self = a_self
farther a_nil = a_nil
farther a_true = a_true
farther a_false = a_false
farther (a_number t) = a_number t
farther (a_string t) = a_string t
farther (a_symbol t) = a_symbol t
farther (a_char b) = a_char b
farther (a_class c) = a_class c

-- it may be read
abbrev pub IsRead : StandIn → Type 0
IsRead (an_argument k) = Unit {0}
IsRead (a_temporary k) = Unit {0}
IsRead (a_steady k) = Unit {0}
IsRead (a_far k) = Unit {0}
IsRead (a_lent k) = Unit {0}
IsRead a_dropped = ⊥
IsRead a_nothing = ⊥
IsRead a_self = Unit {0}
IsRead a_nil = Unit {0}
IsRead a_true = Unit {0}
IsRead a_false = Unit {0}
IsRead (a_number t) = Unit {0}
IsRead (a_string t) = Unit {0}
IsRead (a_symbol t) = Unit {0}
IsRead (a_char b) = Unit {0}
IsRead (a_class c) = Unit {0}

-- arguments from a place on
abbrev pub arguments_from : ℕ → ℕ → List StandIn
arguments_from zero k = []
arguments_from (suc n) k = an_argument k ∷ arguments_from n (suc k)

-- what becomes of a temporary: it stays; it stays and no closure assigns it; it is dropped
pub data Mode : Type 0 where
  shared : Mode
  steady : Mode
  dropped : Mode

-- temporaries from a place on
abbrev pub temporaries_from : List Mode → ℕ → List StandIn
temporaries_from [] k = []
temporaries_from (shared ∷ ms) k = a_temporary k ∷ temporaries_from ms (suc k)
temporaries_from (steady ∷ ms) k = a_steady k ∷ temporaries_from ms (suc k)
temporaries_from (dropped ∷ ms) k = a_dropped ∷ temporaries_from ms k

-- how many temporaries stay
abbrev pub staying : List Mode → ℕ
staying [] = 0
staying (shared ∷ ms) = suc (staying ms)
staying (steady ∷ ms) = suc (staying ms)
staying (dropped ∷ ms) = staying ms

-- Where code stands: what stands after for the arguments and temporaries of the scopes round it before; the class and side of the method, where sends may be unfolded; whether a return may stand there; and whether a message to `super` may.
pub record Context : Type 0 where
  pub locals : List StandIn
  pub place : Option (Name × Bool)
  pub returns : Bool
  pub supers : Bool

-- inside a scope with so many arguments and these temporaries
abbrev pub scoped : ℕ → List Mode → Context → Context
scoped p ms g = record g { locals = (arguments_from p 0 ++ temporaries_from ms p) ++ map (moved (p + staying ms)) g.locals }

-- the same where no further temporary is dropped
abbrev pub staying_in : StandIn → StandIn
staying_in (an_argument k) = an_argument k
staying_in (a_temporary k) = a_temporary k
staying_in (a_steady k) = a_steady k
staying_in (a_far k) = a_far k
staying_in (a_lent k) = a_lent k
staying_in a_dropped = a_nothing
staying_in a_nothing = a_nothing
staying_in a_self = a_self
staying_in a_nil = a_nil
staying_in a_true = a_true
staying_in a_false = a_false
staying_in (a_number t) = a_number t
staying_in (a_string t) = a_string t
staying_in (a_symbol t) = a_symbol t
staying_in (a_char b) = a_char b
staying_in (a_class c) = a_class c

-- behind the statement that sets a temporary
abbrev pub with_local : ℕ → StandIn → Context → Context
with_local k a g = record g { locals = set (map staying_in g.locals) k a }

-- a stand-in that is the same from then on: none for a temporary
abbrev pub IsFixed : StandIn → Type 0
IsFixed (an_argument k) = Unit {0}
IsFixed (a_temporary k) = ⊥
IsFixed (a_steady k) = ⊥
IsFixed (a_far k) = ⊥
IsFixed (a_lent k) = ⊥
IsFixed a_dropped = ⊥
IsFixed a_nothing = ⊥
IsFixed a_self = Unit {0}
IsFixed a_nil = Unit {0}
IsFixed a_true = Unit {0}
IsFixed a_false = Unit {0}
IsFixed (a_number t) = Unit {0}
IsFixed (a_string t) = Unit {0}
IsFixed (a_symbol t) = Unit {0}
IsFixed (a_char b) = Unit {0}
IsFixed (a_class c) = Unit {0}

-- inside a closure, apart from its own arguments and temporaries
abbrev pub in_closure : Context → Context
in_closure g = record g { locals = map farther g.locals }

-- at the beginning of a method or do-it
abbrev pub outermost_context : Option (Name × Bool) → Context
outermost_context place = record { locals = []; place = place; returns = true; supers = true }

-- in a body that stands unfolded, with these for its arguments
abbrev pub opened : List StandIn → Bool → Context
opened actuals supers = record { locals = actuals; place = None; returns = false; supers = supers }

-- what is read is no argument or temporary
abbrev pub IsOuter : Reference → Type 0
IsOuter (of_word n) = Unit {0}
IsOuter (of_local k) = ⊥
IsOuter (of_instance_variable n) = Unit {0}
IsOuter (of_class_side_variable n) = Unit {0}
IsOuter (of_class_variable c n) = Unit {0}
IsOuter (of_named_class c) = Unit {0}
IsOuter of_transcript = Unit {0}
IsOuter (of_nothing n) = Unit {0}

-- what is assigned is no temporary
abbrev pub IsOuterTarget : Target → Type 0
IsOuterTarget (to_temporary k) = ⊥
IsOuterTarget (to_instance_variable n) = Unit {0}
IsOuterTarget (to_class_side_variable n) = Unit {0}
IsOuterTarget (to_class_variable c n) = Unit {0}
IsOuterTarget (to_fixed n) = Unit {0}
IsOuterTarget (to_nothing n) = Unit {0}

-- an actual before and what stands in for it after: a literal of one value, `nil`, `true`, `false`, self, a class, an argument, or a temporary that no closure assigns
pub data Actual (g : Context) : ResolvedTree → StandIn → Type 0 where
  self_actual : Actual g (reading (of_word (codes "self"))) a_self
  nil_actual : Actual g (reading (of_word (codes "nil"))) a_nil
  true_actual : Actual g (reading (of_word (codes "true"))) a_true
  false_actual : Actual g (reading (of_word (codes "false"))) a_false
  number_actual : (t : List ℕ) (z : ℤ) → numeral_integer t ≡ Some z → Actual g (constant (number t)) (a_number t)
  string_actual : (t : List ℕ) → Actual g (constant (str t)) (a_string t)
  symbol_actual : (t : List ℕ) → Actual g (constant (symbol t)) (a_symbol t)
  char_actual : (b : ℕ) → Actual g (constant (char b)) (a_char b)
  class_actual : (c : Name) → Actual g (reading (of_named_class c)) (a_class c)
  temporary_actual : (k j : ℕ) → slice_get g.locals k ≡ Some (a_steady j) → Actual g (reading (of_local k)) (a_lent j)
  far_actual : (k j : ℕ) → slice_get g.locals k ≡ Some (a_far j) → Actual g (reading (of_local k)) (a_lent j)
  argument_actual : (k j : ℕ) → slice_get g.locals k ≡ Some (an_argument j) → Actual g (reading (of_local k)) (an_argument j)

-- a node before that is always the same from then on, and the node after
pub data Simple (g : Context) : ResolvedTree → ResolvedTree → Type 0 where
  simple : {t : ResolvedTree} (a : StandIn) → Actual g t a → IsFixed a → Simple g t (stand_in a)
  simple_word : (n : Name) → Simple g (constant (word n)) (constant (word n))

-- actuals in order
pub data Actuals (g : Context) : ResolvedTrees → List StandIn → Type 0 where
  no_actuals : Actuals g no_nodes []
  more_actuals : {t : ResolvedTree} {ts : ResolvedTrees} {a : StandIn} {rest : List StandIn} → Actual g t a → Actuals g ts rest → Actuals g (more_nodes t ts) (a ∷ rest)

-- the statements of both, in order
abbrev pub joined : ResolvedStatements → ResolvedStatements → ResolvedStatements
joined no_lines rest = rest
joined (more_lines t ss) rest = more_lines t (joined ss rest)

-- what is allowed: the selectors whose methods may be missing after, and how long the path may be to a part that is evaluated first
pub record Allowed : Type 0 where
  pub is_gone : Name → Bool
  pub reach : ℕ

-- the image before, and what is allowed
module _ (i : ResolvedImage) (gone : Allowed) where
  -- each class at or below the place's finds the method for the selector
  abbrev pub IsTarget : Name → Bool → Name → ResolvedMethod → Type 0
  IsTarget k meta s m = (c : Name) → IsBelow i.classes c k → finds i (Some c) meta s ≡ Some m

  -- A place where a send of s to self is unfolded: the method that is found there has this code; and `super` stands in it only where it is a method of the place's class and side.
  pub record IsPlace (g : Context) (s : Name) (args : ResolvedTrees) (code : ResolvedCode) (supers : Bool) : Type 0 where
    pub class : Name
    pub meta : Bool
    pub method : ResolvedMethod
    pub here : g.place ≡ Some (class, meta)
    pub target : IsTarget class meta s method
    pub doing : method.doing ≡ by_code code
    pub shape : resolved_shape s (reading (of_word (codes "self"))) args ≡ as_message
    pub above : supers ≡ true → (g.supers ≡ true) × (method.class ≡ Some class) × (method.meta ≡ meta)

  mutual
    -- a node before and the node after at its place
    pub data Unfolds : Context → ResolvedTree → ResolvedTree → Type 0 where
      same_local : {g : Context} (k : ℕ) (a : StandIn) → slice_get g.locals k ≡ Some a → IsRead a → Unfolds g (reading (of_local k)) (stand_in a)
      same_reading : {g : Context} (r : Reference) → IsOuter r → Unfolds g (reading r) (reading r)
      same_constant : {g : Context} (l : LiteralOf Name) → Unfolds g (constant l) (constant l)
      same_message : {g : Context} {r r' : ResolvedTree} {s : Name} {args args' : ResolvedTrees} →
          resolved_shape s r args ≡ as_message → resolved_shape s r' args' ≡ as_message → gone.is_gone s ≡ false → (reads_super r ≡ true → g.supers ≡ true) →
          Unfolds g r r' → UnfoldsAll g args args' → Unfolds g (sending r s args) (sending r' s args')
      same_choice : {g : Context} {r r' : ResolvedTree} {s : Name} {args args' : ResolvedTrees} (a a' b b' : ResolvedBranch) →
          resolved_shape s r args ≡ chooses_way a b → resolved_shape s r' args' ≡ chooses_way a' b' →
          Unfolds g r r' → UnfoldsBranch g a a' → UnfoldsBranch g b b' → Unfolds g (sending r s args) (sending r' s args')
      same_loop : {g : Context} {r r' : ResolvedTree} {s : Name} {args args' : ResolvedTrees} (sense : Bool) (a a' b b' : ResolvedCode) →
          resolved_shape s r args ≡ repeats sense a b → resolved_shape s r' args' ≡ repeats sense a' b' →
          UnfoldsCode g a a' → UnfoldsCode g b b' → Unfolds g (sending r s args) (sending r' s args')
      same_cascade : {g : Context} {r r' : ResolvedTree} {ms ms' : ResolvedMessages} → Unfolds g r r' → UnfoldsMessages g ms ms' → Unfolds g (cascading r ms) (cascading r' ms')
      same_temporary : {g : Context} {t t' : ResolvedTree} (k j : ℕ) → slice_get g.locals k ≡ Some (a_temporary j) → Unfolds g t t' → Unfolds g (assigning (to_temporary k) t) (assigning (to_temporary j) t')
      same_steady : {g : Context} {t t' : ResolvedTree} (k j : ℕ) → slice_get g.locals k ≡ Some (a_steady j) → Unfolds g t t' → Unfolds g (assigning (to_temporary k) t) (assigning (to_temporary j) t')
      same_assignment : {g : Context} {t t' : ResolvedTree} (x : Target) → IsOuterTarget x → Unfolds g t t' → Unfolds g (assigning x t) (assigning x t')
      same_block : {g : Context} {ss ss' : ResolvedStatements} (p : ℕ) (ms : List Mode) → UnfoldsLines (scoped p ms (in_closure g)) ss ss' → Unfolds g (block_of p (length ms) ss) (block_of p (staying ms) ss')
      same_brace : {g : Context} {ts ts' : ResolvedTrees} → UnfoldsAll g ts ts' → Unfolds g (brace_of ts) (brace_of ts')
      same_return : {g : Context} {t t' : ResolvedTree} → g.returns ≡ true → Unfolds g t t' → Unfolds g (returning t) (returning t')
      -- a send of a method whose one statement is `^e`, and e
      unfolded_value : {g : Context} {s : Name} {args : ResolvedTrees} {e e' : ResolvedTree} (actuals : List StandIn) (supers : Bool) →
          IsPlace g s args (record { parameters = length actuals; temporaries = 0; statements = more_lines (returning e) no_lines }) supers → Actuals g args actuals → reads_super e ≡ false →
          Unfolds (opened actuals supers) e e' → Unfolds g (sending (reading (of_word (codes "self"))) s args) e'
      -- a send of a method that assigns its argument to a variable, and the assignment
      unfolded_setter : {g : Context} {s : Name} {t t' : ResolvedTree} (x : Target) → IsOuterTarget x →
          IsPlace g s (more_nodes t no_nodes) (record { parameters = 1; temporaries = 0; statements = more_lines (returning (assigning x (reading (of_local 0)))) no_lines }) false →
          Unfolds g t t' → Unfolds g (sending (reading (of_word (codes "self"))) s (more_nodes t no_nodes)) (assigning x t')

    -- nodes in order
    pub data UnfoldsAll : Context → ResolvedTrees → ResolvedTrees → Type 0 where
      same_none : {g : Context} → UnfoldsAll g no_nodes no_nodes
      same_more : {g : Context} {t t' : ResolvedTree} {ts ts' : ResolvedTrees} → Unfolds g t t' → UnfoldsAll g ts ts' → UnfoldsAll g (more_nodes t ts) (more_nodes t' ts')

    -- messages of a cascade
    pub data UnfoldsMessages : Context → ResolvedMessages → ResolvedMessages → Type 0 where
      same_end : {g : Context} → UnfoldsMessages g no_sends no_sends
      same_next : {g : Context} {args args' : ResolvedTrees} {ms ms' : ResolvedMessages} (s : Name) → gone.is_gone s ≡ false → UnfoldsAll g args args' → UnfoldsMessages g ms ms' → UnfoldsMessages g (more_sends s args ms) (more_sends s args' ms')

    -- statements
    pub data UnfoldsLines : Context → ResolvedStatements → ResolvedStatements → Type 0 where
      same_stop : {g : Context} → UnfoldsLines g no_lines no_lines
      same_line : {g : Context} {t t' : ResolvedTree} {ss ss' : ResolvedStatements} → Unfolds g t t' → UnfoldsLines g ss ss' → UnfoldsLines g (more_lines t ss) (more_lines t' ss')
      -- a send that is a whole statement and not the last, and the statements of the method
      unfolded_run : {g : Context} {s : Name} {args : ResolvedTrees} {body body' ss rest : ResolvedStatements} {t : ResolvedTree} (actuals : List StandIn) (supers : Bool) →
          IsPlace g s args (record { parameters = length actuals; temporaries = 0; statements = body }) supers → Actuals g args actuals →
          UnfoldsBody (opened actuals supers) body body' → UnfoldsLines g (more_lines t ss) rest →
          UnfoldsLines g (more_lines (sending (reading (of_word (codes "self"))) s args) (more_lines t ss)) (joined body' rest)
      -- the one statement that sets a dropped temporary, which is not the last
      dropped_line : {g : Context} {t u : ResolvedTree} {ss rest : ResolvedStatements} (k : ℕ) (a : StandIn) → slice_get g.locals k ≡ Some a_dropped → Actual g t a → IsFixed a →
          UnfoldsLines (with_local k a g) (more_lines u ss) rest → UnfoldsLines g (more_lines (assigning (to_temporary k) t) (more_lines u ss)) rest
      -- the one statement that sets a dropped temporary, and the next one, which reads it before it does anything else
      first_line : {g : Context} {e e' t t' : ResolvedTree} {ss rest : ResolvedStatements} (k n : ℕ) → slice_get g.locals k ≡ Some a_dropped → Unfolds g e e' → n ≤ gone.reach →
          UnfoldsFirst (with_local k a_nothing g) k e' n t t' → UnfoldsLines (with_local k a_nothing g) ss rest → UnfoldsLines g (more_lines (assigning (to_temporary k) e) (more_lines t ss)) (more_lines t' rest)

    -- a node that reads a temporary before it does anything else but look at what is always the same, n steps down through receivers, arguments, items of braces, and what is assigned or returned; and the node with e in its place
    pub data UnfoldsFirst : Context → ℕ → ResolvedTree → ℕ → ResolvedTree → ResolvedTree → Type 0 where
      first_read : {g : Context} {k : ℕ} {e : ResolvedTree} → UnfoldsFirst g k e 0 (reading (of_local k)) e
      first_receiver : {g : Context} {k n : ℕ} {e r r' : ResolvedTree} {s : Name} {args args' : ResolvedTrees} → resolved_shape s r args ≡ as_message → resolved_shape s r' args' ≡ as_message → gone.is_gone s ≡ false →
          reads_super r ≡ false → reads_super r' ≡ false → UnfoldsFirst g k e n r r' → UnfoldsAll g args args' → UnfoldsFirst g k e (suc n) (sending r s args) (sending r' s args')
      first_choice : {g : Context} {k n : ℕ} {e r r' : ResolvedTree} {s : Name} {args args' : ResolvedTrees} (a a' b b' : ResolvedBranch) → resolved_shape s r args ≡ chooses_way a b → resolved_shape s r' args' ≡ chooses_way a' b' →
          UnfoldsFirst g k e n r r' → UnfoldsBranch g a a' → UnfoldsBranch g b b' → UnfoldsFirst g k e (suc n) (sending r s args) (sending r' s args')
      first_cascade : {g : Context} {k n : ℕ} {e r r' : ResolvedTree} {ms ms' : ResolvedMessages} → UnfoldsFirst g k e n r r' → UnfoldsMessages g ms ms' → UnfoldsFirst g k e (suc n) (cascading r ms) (cascading r' ms')
      first_temporary : {g : Context} {k n : ℕ} {e t t' : ResolvedTree} (h j : ℕ) → slice_get g.locals h ≡ Some (a_temporary j) → UnfoldsFirst g k e n t t' → UnfoldsFirst g k e (suc n) (assigning (to_temporary h) t) (assigning (to_temporary j) t')
      first_assignment : {g : Context} {k n : ℕ} {e t t' : ResolvedTree} (x : Target) → IsOuterTarget x → UnfoldsFirst g k e n t t' → UnfoldsFirst g k e (suc n) (assigning x t) (assigning x t')
      first_steady : {g : Context} {k n : ℕ} {e t t' : ResolvedTree} (h j : ℕ) → slice_get g.locals h ≡ Some (a_steady j) → UnfoldsFirst g k e n t t' → UnfoldsFirst g k e (suc n) (assigning (to_temporary h) t) (assigning (to_temporary j) t')
      first_return : {g : Context} {k n : ℕ} {e t t' : ResolvedTree} → g.returns ≡ true → UnfoldsFirst g k e n t t' → UnfoldsFirst g k e (suc n) (returning t) (returning t')
      first_argument : {g : Context} {k n : ℕ} {e r r' : ResolvedTree} {s : Name} {args args' : ResolvedTrees} → resolved_shape s r args ≡ as_message → resolved_shape s r' args' ≡ as_message → gone.is_gone s ≡ false →
          Simple g r r' → UnfoldsFirstAmong g k e n args args' → UnfoldsFirst g k e (suc n) (sending r s args) (sending r' s args')
      first_of_cascade : {g : Context} {k n : ℕ} {e r r' : ResolvedTree} {s : Name} {args args' : ResolvedTrees} {ms ms' : ResolvedMessages} → gone.is_gone s ≡ false →
          Simple g r r' → UnfoldsFirstAmong g k e n args args' → UnfoldsMessages g ms ms' → UnfoldsFirst g k e (suc n) (cascading r (more_sends s args ms)) (cascading r' (more_sends s args' ms'))
      first_item : {g : Context} {k n : ℕ} {e : ResolvedTree} {ts ts' : ResolvedTrees} → UnfoldsFirstAmong g k e n ts ts' → UnfoldsFirst g k e (suc n) (brace_of ts) (brace_of ts')

    -- nodes of which one reads it so, n steps down, and those before are always the same
    pub data UnfoldsFirstAmong : Context → ℕ → ResolvedTree → ℕ → ResolvedTrees → ResolvedTrees → Type 0 where
      first_here : {g : Context} {k n : ℕ} {e t t' : ResolvedTree} {ts ts' : ResolvedTrees} → UnfoldsFirst g k e n t t' → UnfoldsAll g ts ts' → UnfoldsFirstAmong g k e n (more_nodes t ts) (more_nodes t' ts')
      first_later : {g : Context} {k n : ℕ} {e t t' : ResolvedTree} {ts ts' : ResolvedTrees} → Simple g t t' → UnfoldsFirstAmong g k e n ts ts' → UnfoldsFirstAmong g k e n (more_nodes t ts) (more_nodes t' ts')

    -- the statements of a method that stand unfolded: a return may stand in the last, and then its value stands there
    pub data UnfoldsBody : Context → ResolvedStatements → ResolvedStatements → Type 0 where
      at_end : {g : Context} → UnfoldsBody g no_lines no_lines
      at_return : {g : Context} {e e' : ResolvedTree} → Unfolds g e e' → UnfoldsBody g (more_lines (returning e) no_lines) (more_lines e' no_lines)
      at_line : {g : Context} {t t' : ResolvedTree} {ss ss' : ResolvedStatements} → Unfolds g t t' → UnfoldsBody g ss ss' → UnfoldsBody g (more_lines t ss) (more_lines t' ss')

    -- a method, a do-it or a block
    pub data UnfoldsCode : Context → ResolvedCode → ResolvedCode → Type 0 where
      same_code : {g : Context} {ss ss' : ResolvedStatements} (p : ℕ) (ms : List Mode) → UnfoldsLines (scoped p ms g) ss ss' →
          UnfoldsCode g (record { parameters = p; temporaries = length ms; statements = ss }) (record { parameters = p; temporaries = staying ms; statements = ss' })

    -- a branch of a control send
    pub data UnfoldsBranch : Context → ResolvedBranch → ResolvedBranch → Type 0 where
      same_way : {g : Context} {c c' : ResolvedCode} → UnfoldsCode g c c' → UnfoldsBranch g (runs_code c) (runs_code c')
      same_value : {g : Context} (v : Value) → UnfoldsBranch g (gives_just v) (gives_just v)

  -- The statements of a method, which answers self and not what the last one gives: there a send may be the last one, too, where the statements of the method that it runs stand.
  pub data UnfoldsOwn : Context → ResolvedStatements → ResolvedStatements → Type 0 where
    own_lines : {g : Context} {ss ss' : ResolvedStatements} → UnfoldsLines g ss ss' → UnfoldsOwn g ss ss'
    own_line : {g : Context} {t t' : ResolvedTree} {ss ss' : ResolvedStatements} → Unfolds g t t' → UnfoldsOwn g ss ss' → UnfoldsOwn g (more_lines t ss) (more_lines t' ss')
    own_run : {g : Context} {s : Name} {args : ResolvedTrees} {body body' ss rest : ResolvedStatements} (actuals : List StandIn) (supers : Bool) →
        IsPlace g s args (record { parameters = length actuals; temporaries = 0; statements = body }) supers → Actuals g args actuals →
        UnfoldsBody (opened actuals supers) body body' → UnfoldsOwn g ss rest → UnfoldsOwn g (more_lines (sending (reading (of_word (codes "self"))) s args) ss) (joined body' rest)

  -- what a method does
  pub data UnfoldsDoing (place : Option (Name × Bool)) : Doing → Doing → Type 0 where
    same_primitive : (n : ℕ) → UnfoldsDoing place (by_primitive n) (by_primitive n)
    unfolds_code : {c c' : ResolvedCode} → UnfoldsCode (outermost_context place) c c' → UnfoldsDoing place (by_code c) (by_code c')
    unfolds_own : {ss ss' : ResolvedStatements} (p : ℕ) (ms : List Mode) → UnfoldsOwn (scoped p ms (outermost_context place)) ss ss' →
        UnfoldsDoing place (by_code (record { parameters = p; temporaries = length ms; statements = ss })) (by_code (record { parameters = p; temporaries = staying ms; statements = ss' }))

  -- the class and side of a method in which sends may be unfolded; that is not the class of classes or one above it
  pub record IsOpen (m : ResolvedMethod) (p : Name × Bool) : Type 0 where
    pub class : m.class ≡ Some p.0
    pub meta : m.meta ≡ p.1
    pub user : IsBelow i.classes (codes "Class") p.0 → ⊥

  -- a method
  pub record UnfoldsMethod (m m' : ResolvedMethod) : Type 0 where
    pub class : m.class ≡ m'.class
    pub meta : m.meta ≡ m'.meta
    pub selector : m.selector ≡ m'.selector
    pub place : Option (Name × Bool)
    pub opens : OptionNames (IsOpen m) place
    pub doing : UnfoldsDoing place m.doing m'.doing

  -- methods in order; some may be missing after
  pub data UnfoldsMethods : List ResolvedMethod → List ResolvedMethod → Type 0 where
    no_methods : UnfoldsMethods [] []
    kept : {m m' : ResolvedMethod} {ms ms' : List ResolvedMethod} → UnfoldsMethod m m' → UnfoldsMethods ms ms' → UnfoldsMethods (m ∷ ms) (m' ∷ ms')
    missing : {m : ResolvedMethod} {ms ms' : List ResolvedMethod} → gone.is_gone m.selector ≡ true → UnfoldsMethods ms ms' → UnfoldsMethods (m ∷ ms) ms'

  -- do-its in order
  pub data UnfoldsDoIts : List ResolvedCode → List ResolvedCode → Type 0 where
    no_doits : UnfoldsDoIts [] []
    next_doit : {d d' : ResolvedCode} {ds ds' : List ResolvedCode} → UnfoldsCode (outermost_context None) d d' → UnfoldsDoIts ds ds' → UnfoldsDoIts (d ∷ ds) (d' ∷ ds')

-- The image after is the one before with sends to self unfolded at some places, without some temporaries, whose values stand where they were read, and without some methods that nothing sends there.
pub record IsUnfolded (before after : ResolvedImage) : Type 0 where
  pub gone : Allowed
  pub classes : before.classes ≡ after.classes
  pub named : class_named text_eq before.classes [] ≡ None
  pub methods : UnfoldsMethods before gone before.methods after.methods
  pub doits : UnfoldsDoIts before gone before.doits after.doits
