-- A send to self, and the expression that the method answers, with what is passed in place of its arguments.
use Rattle.std.specs.Prelude.{◌≡◌, ℕ, ℤ, Bool, true, false, if◌then◌else◌, List, [], ◌∷◌, ◌++◌, length, Option, Some, None, codes}
use Rattle.rb_base.specs.Names.{text_eq}
use Rattle.scope_model.specs.SpecialNames.{is_pseudo_variable, control_form}
use Rattle.scope_model.specs.Control.{is_control}
use Rattle.tree_model.specs.Tree.{number, str, symbol, char, TreeOf, var, literal, send, cascade, assign, block, brace, return, TreesOf, no_trees, more_trees, no_statements, more_statements, Notes}
use Rattle.image_model.specs.Image.{EntryOf, ImageOf}
use Rattle.image_model.specs.Means.{MeaningOf, a_class, means_outside}
use Rattle.image_model.specs.Words.{text_words}
use Rattle.run_model.specs.Values.{Name}
use Rattle.run_model.specs.Numbers.{numeral_integer}
use Rattle.resolved_model.specs.ResolvedImages.{resolved_entry, resolved_image}
use Rattle.resolved_model.specs.Environments.{Declared, opened, kind_in, place_in}
use Rattle.unfolded_calls.specs.Unfolding.{Allowed, StandIn, an_argument, a_self, a_nil, a_true, a_false, a_number, a_string, a_symbol, a_char, IsTarget}
use Rattle.unfolded_places.specs.Becoming.{Change, Becomes}

-- what is passed for a name that is one of these arguments
abbrev pub passed_for : List Name → TreesOf Name → Name → Option (TreeOf Name)
passed_for [] ts n = None
passed_for (x ∷ xs) no_trees n = None
passed_for (x ∷ xs) (more_trees t ts) n = if text_eq n x then Some t else passed_for xs ts n

-- an actual among declarations, and what stands in for it: a literal of one value, `nil`, `true`, `false`, self, an argument or block parameter, or a class
pub data PlainActual (f : Name → MeaningOf Name) (A : List Declared) : TreeOf Name → StandIn → Type 0 where
  plain_self : PlainActual f A (var (codes "self")) a_self
  plain_nil : PlainActual f A (var (codes "nil")) a_nil
  plain_true : PlainActual f A (var (codes "true")) a_true
  plain_false : PlainActual f A (var (codes "false")) a_false
  plain_number : (t : List ℕ) (z : ℤ) → numeral_integer t ≡ Some z → PlainActual f A (literal (number t)) (a_number t)
  plain_string : (t : List ℕ) → PlainActual f A (literal (str t)) (a_string t)
  plain_symbol : (t : List ℕ) → PlainActual f A (literal (symbol t)) (a_symbol t)
  plain_char : (b : ℕ) → PlainActual f A (literal (char b)) (a_char b)
  plain_argument : (n : Name) → is_pseudo_variable n ≡ false → kind_in A n ≡ Some false → PlainActual f A (var n) (an_argument (place_in A n))
  plain_class : (n c : Name) → is_pseudo_variable n ≡ false → kind_in A n ≡ None → f n ≡ a_class c → PlainActual f A (var n) (StandIn.a_class c)

-- actuals in order
pub data PlainActuals (f : Name → MeaningOf Name) (A : List Declared) : TreesOf Name → List StandIn → Type 0 where
  plain_none : PlainActuals f A no_trees []
  plain_more : {t : TreeOf Name} {ts : TreesOf Name} {a : StandIn} {rest : List StandIn} → PlainActual f A t a → PlainActuals f A ts rest → PlainActuals f A (more_trees t ts) (a ∷ rest)

-- a node that is no name of these declarations; a pseudo-variable is none, also where it is declared
abbrev pub IsFreeOf : List Declared → TreeOf Name → Type 0
IsFreeOf inner (var n) = is_pseudo_variable n ≡ false → kind_in inner n ≡ None
IsFreeOf inner (literal l) = Unit {0}
IsFreeOf inner (send r s args) = Unit {0}
IsFreeOf inner (cascade r ms) = Unit {0}
IsFreeOf inner (assign n t) = Unit {0}
IsFreeOf inner (block ps ts ss e) = Unit {0}
IsFreeOf inner (brace ts) = Unit {0}
IsFreeOf inner (return t) = Unit {0}

-- A method's arguments with what is passed for them; what names mean outside it, and outside the method where its body is put; and what is declared there.
pub record Filling : Type 0 where
  pub arguments : List Name
  pub passed : TreesOf Name
  pub before : Name → MeaningOf Name
  pub after : Name → MeaningOf Name
  pub round : List Declared

module _ (z : Filling) where
  -- a name that is declared nowhere, neither before nor after, and means the same
  pub record IsFreeAlike (inner : List Declared) (n : Name) : Type 0 where
    pub inside : kind_in inner n ≡ None
    pub formal : kind_in (opened z.arguments [] []) n ≡ None
    pub there : kind_in z.round n ≡ None
    pub same : z.before n ≡ z.after n

  -- the parts of a body: a pseudo-variable; a name that a block of the body declares; an argument, and what is passed for it, which names nothing that such a block declares; a name that means the same in both methods
  pub data FilledPart : List Declared → List Declared → TreeOf Name → TreeOf Name → Type 0 where
    filled_word : {A B : List Declared} (n : Name) → is_pseudo_variable n ≡ true → FilledPart A B (var n) (var n)
    filled_inner : (inner : List Declared) (n : Name) (b : Bool) → is_pseudo_variable n ≡ false → kind_in inner n ≡ Some b → FilledPart (inner ++ opened z.arguments [] []) (inner ++ z.round) (var n) (var n)
    filled_formal : (inner : List Declared) (n : Name) (t : TreeOf Name) → is_pseudo_variable n ≡ false → kind_in inner n ≡ None → passed_for z.arguments z.passed n ≡ Some t → IsFreeOf inner t → FilledPart (inner ++ opened z.arguments [] []) (inner ++ z.round) (var n) t
    filled_outer : (inner : List Declared) (n : Name) → is_pseudo_variable n ≡ false → IsFreeAlike inner n → FilledPart (inner ++ opened z.arguments [] []) (inner ++ z.round) (var n) (var n)

  -- the names that it may assign: those that its blocks declare, and those that mean the same in both methods
  pub data FilledTarget : List Declared → List Declared → Name → Type 0 where
    target_inner : (inner : List Declared) (n : Name) (b : Bool) → is_pseudo_variable n ≡ false → kind_in inner n ≡ Some b → FilledTarget (inner ++ opened z.arguments [] []) (inner ++ z.round) n
    target_outer : (inner : List Declared) (n : Name) → is_pseudo_variable n ≡ false → IsFreeAlike inner n → FilledTarget (inner ++ opened z.arguments [] []) (inner ++ z.round) n

  -- what may become of a body in which no return stands
  abbrev pub filling : Bool → (Name → Bool) → Change
  filling supers gone = record { part = FilledPart; sends = λ s. gone s ≡ false; assigns = FilledTarget; returns = ⊥; supers = supers ≡ true; stores = λ A B s x. ⊥ }

module _ (i : ImageOf Name) (gone : Allowed) where
  -- A send to self in a method, among these declarations, of one that answers an expression and whose arguments are plain; and that expression with what is passed in their place. `super` stands in it only where both methods are of one class and side.
  pub record IsInlined (m : EntryOf Name) (place : Option (Name × Bool)) (A : List Declared) (t u : TreeOf Name) : Type 0 where
    pub class : Name
    pub meta : Bool
    pub here : place ≡ Some (class, meta)
    pub selector : Name
    pub passed : TreesOf Name
    pub sends : t ≡ send (var (codes "self")) selector passed
    pub message : is_control control_form (send (var (codes "self")) selector passed) ≡ false
    pub target : EntryOf Name
    pub found : IsTarget (resolved_image i) gone class meta selector (resolved_entry i target)
    pub primitive : target.tree.primitive ≡ None
    pub temporaries : target.tree.body.temporaries ≡ []
    pub note : Notes
    pub answer : TreeOf Name
    pub answers : target.tree.body.statements ≡ more_statements note (return answer) no_statements
    pub supers : Bool
    pub above : supers ≡ true → (target.class ≡ Some class) × (target.meta ≡ meta)
    pub no_super : answer ≡ var (codes "super") → ⊥
    pub actuals : List StandIn
    pub plain : PlainActuals (λ n. means_outside text_words i m.class m.meta n) A passed actuals
    pub count : length target.tree.arguments ≡ length actuals
    pub filled : Becomes
        (filling (record { arguments = target.tree.arguments; passed = passed; before = λ n. means_outside text_words i target.class target.meta n; after = λ n. means_outside text_words i m.class m.meta n; round = A }) supers gone.is_gone)
        (opened target.tree.arguments [] []) A answer u

  -- A message to self of one argument, in a method among these declarations, runs a method that answers the assignment of its argument to a variable; and this variable is declared by no scope, and means the same in both methods.
  pub record IsStored (m : EntryOf Name) (place : Option (Name × Bool)) (A : List Declared) (s x : Name) : Type 0 where
    pub class : Name
    pub meta : Bool
    pub here : place ≡ Some (class, meta)
    pub target : EntryOf Name
    pub found : IsTarget (resolved_image i) gone class meta s (resolved_entry i target)
    pub primitive : target.tree.primitive ≡ None
    pub argument : Name
    pub arguments : target.tree.arguments ≡ argument ∷ []
    pub plain_argument : is_pseudo_variable argument ≡ false
    pub temporaries : target.tree.body.temporaries ≡ []
    pub note : Notes
    pub statements : target.tree.body.statements ≡ more_statements note (return (assign x (var argument))) no_statements
    pub plain_variable : is_pseudo_variable x ≡ false
    pub other : text_eq x argument ≡ false
    pub there : kind_in A x ≡ None
    pub same : means_outside text_words i target.class target.meta x ≡ means_outside text_words i m.class m.meta x
