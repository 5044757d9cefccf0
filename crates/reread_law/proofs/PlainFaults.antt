-- The faults that stand in a tree depend on the tree without places alone.
use Rattle.std.proofs.Common.{◌≡◌, ◌≤◌, Bool, true, false, ◌||◌, List, [], ◌∷◌, ◌++◌, map, Option, Some, None, is_some, arith, refl, ap, sym, ◌∙◌}
use Rattle.std.specs.Prelude.{if◌then◌else◌, nat_lt, option_map}
use Rattle.std.specs.List.{list_any}
use Rattle.std.specs.Option.{option_or}
use Rattle.std.specs.Str.{bytes_eq}
use Rattle.std.proofs.lemmas.List.{map-append}
use Rattle.tree_model.specs.Tree.{Notes, StatementsOf, no_statements, more_statements, SequenceOf, MethodOf}
use Rattle.tree_model.specs.Normal.{normal_by, without_leading_of}
use Rattle.tree_model.specs.Measure.{height, statements_height}
use Rattle.grammar_model.specs.Terminal.{Text}
use Rattle.grammar_model.specs.Words.{is_pseudo}
use Rattle.grammar_model.specs.Spanned.{Declared, SpannedTree, Var, Literal, Send, Cascade, Assign, Block, Brace, Return, SpannedTrees, NoTrees, MoreTrees, SpannedMessages, NoMessages, MoreMessages, SpannedStatements, NoStatements, MoreStatements, SpannedSequence, SpannedMethod, names_of, plain_tree, plain_trees, plain_messages, plain_statements, plain_sequence, plain_method}
use Rattle.std.proofs.lemmas.Bool.{or_parts, or_from, le-ltb}
use Rattle.reread_law.specs.WholeTrees.{WellFormedSequence, WellFormedDoIt}
use Rattle.reread_law.specs.Declarations.{repeats, has_duplicate, has_duplicate_trees, has_duplicate_messages, has_duplicate_statements, known_names, assigns_fixed, assigns_fixed_trees, assigns_fixed_messages, assigns_fixed_statements}
use Rattle.grammar_model.specs.Checks.{DuplicateName, AssignsFixed, TooDeep, first_repeat, duplicate_in, duplicate_in_trees, duplicate_in_messages, duplicate_in_statements, Known, known_of, is_fixed, fixed_in, fixed_in_trees, fixed_in_messages, fixed_in_statements, first_tall, sequence_fault, doit_fault, method_fault}

-- whether a choice of two has a value
some_or : {A : Type 0} (a b : Option A) → is_some (option_or a b) ≡ (is_some a || is_some b)
some_or None b = refl
some_or (Some x) b = refl

-- a changed value is one
some_map : {A B : Type 0} (f : A → B) (o : Option A) → is_some (option_map f o) ≡ is_some o
some_map f None = refl
some_map f (Some x) = refl

-- whether a choice by a test has a value
some_if : {A : Type 0} (b : Bool) (x : A) (o : Option A) → is_some (if b then Some x else o) ≡ (b || is_some o)
some_if true x o = refl
some_if false x o = refl

-- that is what the first such declaration says
some_repeat : (seen : List Text) (ds : List Declared) → is_some (first_repeat seen ds) ≡ repeats seen (names_of ds)
some_repeat seen [] = refl
some_repeat seen (d ∷ ds) =
    some_if (list_any (λ n. bytes_eq d.name n) seen) d.from (first_repeat (d.name ∷ seen) ds) ∙ ap (λ b. list_any (λ n. bytes_eq d.name n) seen || b) (some_repeat (d.name ∷ seen) ds)

-- the names of two lists
names-append : (ps ds : List Declared) → names_of (ps ++ ds) ≡ names_of ps ++ names_of ds
names-append ps ds = map-append (λ (d : Declared). d.name) ps ds

-- two choices
both_or : {A : Type 0} (a b : Option A) (x y : Bool) → is_some a ≡ x → is_some b ≡ y → is_some (option_or a b) ≡ (x || y)
both_or a b x y e f = some_or a b ∙ (λ i. e i || f i)

mutual
  -- the first declaration of a name that was declared before is there where there is one
  some_duplicate : (t : SpannedTree) → is_some (duplicate_in t) ≡ has_duplicate (plain_tree t)
  some_duplicate (Var f e n) = refl
  some_duplicate (Literal f e l) = refl
  some_duplicate (Send f e r s xs) = both_or _ _ _ _ (some_duplicate r) (some_duplicate_trees xs)
  some_duplicate (Cascade f e r ms) = both_or _ _ _ _ (some_duplicate r) (some_duplicate_messages ms)
  some_duplicate (Assign f e n t) = some_duplicate t
  some_duplicate (Block f e ps ds ss c) =
      both_or _ _ _ _ (some_repeat [] (ps ++ ds) ∙ ap (repeats []) (names-append ps ds)) (some_duplicate_statements ss)
  some_duplicate (Brace f e ts) = some_duplicate_trees ts
  some_duplicate (Return f e t) = some_duplicate t

  -- in trees
  some_duplicate_trees : (ts : SpannedTrees) → is_some (duplicate_in_trees ts) ≡ has_duplicate_trees (plain_trees ts)
  some_duplicate_trees NoTrees = refl
  some_duplicate_trees (MoreTrees t ts) = both_or _ _ _ _ (some_duplicate t) (some_duplicate_trees ts)

  -- in messages
  some_duplicate_messages : (ms : SpannedMessages) → is_some (duplicate_in_messages ms) ≡ has_duplicate_messages (plain_messages ms)
  some_duplicate_messages NoMessages = refl
  some_duplicate_messages (MoreMessages s xs ms) = both_or _ _ _ _ (some_duplicate_trees xs) (some_duplicate_messages ms)

  -- in statements
  some_duplicate_statements : (ss : SpannedStatements) → is_some (duplicate_in_statements ss) ≡ has_duplicate_statements (plain_statements ss)
  some_duplicate_statements NoStatements = refl
  some_duplicate_statements (MoreStatements c f t ss) = both_or _ _ _ _ (some_duplicate t) (some_duplicate_statements ss)

-- declared names of one kind
known_map : (b : Bool) (ds : List Declared) → map {B = Known} (λ (d : Declared). record { name = d.name; fixed = b }) ds ≡ map {B = Known} (λ (n : Text). record { name = n; fixed = b }) (names_of ds)
known_map b [] = refl
known_map b (d ∷ ds) = ap (λ (ks : List Known). record { name = d.name; fixed = b } ∷ ks) (known_map b ds)

-- the known names of declarations
known_of-names : (ps ds : List Declared) → known_of ps ds ≡ known_names (names_of ps) (names_of ds)
known_of-names ps ds = λ i. known_map true ps i ++ known_map false ds i

mutual
  -- the first assignment to a name that can not be assigned is there where there is one
  some_fixed : (ks : List Known) (t : SpannedTree) → is_some (fixed_in ks t) ≡ assigns_fixed ks (plain_tree t)
  some_fixed ks (Var f e n) = refl
  some_fixed ks (Literal f e l) = refl
  some_fixed ks (Send f e r s xs) = both_or _ _ _ _ (some_fixed ks r) (some_fixed_trees ks xs)
  some_fixed ks (Cascade f e r ms) = both_or _ _ _ _ (some_fixed ks r) (some_fixed_messages ks ms)
  some_fixed ks (Assign f e n t) =
      some_if (is_pseudo n || is_fixed ks n) f (fixed_in ks t) ∙ ap (λ b. (is_pseudo n || is_fixed ks n) || b) (some_fixed ks t)
  some_fixed ks (Block f e ps ds ss c) =
      some_fixed_statements (known_of ps ds ++ ks) ss ∙ ap (λ (ls : List Known). assigns_fixed_statements (ls ++ ks) (plain_statements ss)) (known_of-names ps ds)
  some_fixed ks (Brace f e ts) = some_fixed_trees ks ts
  some_fixed ks (Return f e t) = some_fixed ks t

  -- in trees
  some_fixed_trees : (ks : List Known) (ts : SpannedTrees) → is_some (fixed_in_trees ks ts) ≡ assigns_fixed_trees ks (plain_trees ts)
  some_fixed_trees ks NoTrees = refl
  some_fixed_trees ks (MoreTrees t ts) = both_or _ _ _ _ (some_fixed ks t) (some_fixed_trees ks ts)

  -- in messages
  some_fixed_messages : (ks : List Known) (ms : SpannedMessages) → is_some (fixed_in_messages ks ms) ≡ assigns_fixed_messages ks (plain_messages ms)
  some_fixed_messages ks NoMessages = refl
  some_fixed_messages ks (MoreMessages s xs ms) = both_or _ _ _ _ (some_fixed_trees ks xs) (some_fixed_messages ks ms)

  -- in statements
  some_fixed_statements : (ks : List Known) (ss : SpannedStatements) → is_some (fixed_in_statements ks ss) ≡ assigns_fixed_statements ks (plain_statements ss)
  some_fixed_statements ks NoStatements = refl
  some_fixed_statements ks (MoreStatements c f t ss) = both_or _ _ _ _ (some_fixed ks t) (some_fixed_statements ks ss)

-- whether a statement is too high
abbrev has_tall : StatementsOf Text → Bool
has_tall no_statements = false
has_tall (more_statements c t ss) = nat_lt 200 (height t) || has_tall ss

-- the first one that is too high is there where there is one
some_tall : (ss : SpannedStatements) → is_some (first_tall ss) ≡ has_tall (plain_statements ss)
some_tall NoStatements = refl
some_tall (MoreStatements c f t ss) =
    some_if (nat_lt 200 (height (plain_tree t))) f (first_tall ss) ∙ ap (λ b. nat_lt 200 (height (plain_tree t)) || b) (some_tall ss)

-- whether a sequence with these arguments has a fault
abbrev is_faulty : List Text → List Text → StatementsOf Text → Bool
is_faulty ps ds ss =
    (repeats [] (ps ++ ds) || has_duplicate_statements ss) || (assigns_fixed_statements (known_names ps ds) ss || has_tall ss)

-- the first fault is there where there is one
some_fault : (ps : List Declared) (s : SpannedSequence) → is_some (sequence_fault ps s) ≡ is_faulty (names_of ps) (names_of s.temporaries) (plain_statements s.statements)
some_fault ps s =
    both_or _ _ _ _
    (some_map DuplicateName _ ∙ both_or _ _ _ _ (some_repeat [] (ps ++ s.temporaries) ∙ ap (repeats []) (names-append ps s.temporaries)) (some_duplicate_statements s.statements))
    (both_or _ _ _ _
    (some_map AssignsFixed _ ∙ some_fixed_statements (known_of ps s.temporaries) s.statements ∙ ap (λ (ls : List Known). assigns_fixed_statements ls (plain_statements s.statements)) (known_of-names ps s.temporaries))
    (some_map TooDeep _ ∙ some_tall s.statements))

-- whether a method has a fault
abbrev is_faulty_method : MethodOf Text → Bool
is_faulty_method m = is_faulty m.arguments m.body.temporaries m.body.statements

-- where comments stand changes no fault
faulty_without : (ps ts : List Text) (ss : StatementsOf Text) (tail : Notes) → is_faulty ps [] (without_leading_of ts ss tail).statements ≡ is_faulty ps [] ss
faulty_without ps ts no_statements tail = refl
faulty_without ps ts (more_statements c t ss) tail = refl

-- the first comments, taken away, leave the temporaries
without_temporaries : (ts : List Text) (ss : StatementsOf Text) (tail : Notes) → (without_leading_of ts ss tail).temporaries ≡ ts
without_temporaries ts no_statements tail = refl
without_temporaries ts (more_statements c t ss) tail = refl

-- the normal form of comments changes no fault
faulty_normal : (ts : List Text) (m : MethodOf Text) → m.body.temporaries ≡ ts → is_faulty_method (normal_by ts m) ≡ is_faulty_method m
faulty_normal [] m e =
    ap (λ (ds : List Text). is_faulty m.arguments ds (without_leading_of m.body.temporaries m.body.statements m.body.tail).statements) (without_temporaries m.body.temporaries m.body.statements m.body.tail ∙ e)
    ∙ faulty_without m.arguments m.body.temporaries m.body.statements m.body.tail ∙ ap (λ (ds : List Text). is_faulty m.arguments ds m.body.statements) (sym e)
faulty_normal (n ∷ ns) m e = refl

-- the first fault of a method is there where there is one
some_method_fault : (w : SpannedMethod) → is_some (method_fault w) ≡ is_faulty_method (plain_method w)
some_method_fault w =
    let m : MethodOf Text = record { selector = w.selector; arguments = names_of w.arguments; head = w.opening; primitive = w.primitive; body = plain_sequence w.body } in
    some_fault w.arguments w.body ∙ sym (faulty_normal (names_of w.body.temporaries) m refl)

-- no statement is too high in a sequence that is not
none_tall : (ss : StatementsOf Text) → statements_height ss ≤ 200 → has_tall ss ≡ false
none_tall no_statements le = refl
none_tall (more_statements c t ss) le = or_from (nat_lt 200 (height t)) (has_tall ss) (le-ltb 200 (height t) (omega arith)) (none_tall ss (omega arith))

-- what has no value where a test says so
none_from : {A : Type 0} (o : Option A) (b : Bool) → is_some o ≡ b → b ≡ false → o ≡ None
none_from None b e h = refl
none_from (Some x) b e h = let s : true ≡ b = e in cc

-- a sequence that a text spells declares no name twice and assigns none that can not be assigned
pub record IsSound (ps ts : List Text) (ss : StatementsOf Text) : Type 0 where
  pub once : repeats [] (ps ++ ts) ≡ false
  pub once_inside : has_duplicate_statements ss ≡ false
  pub assigned : assigns_fixed_statements (known_names ps ts) ss ≡ false

-- which is so where it has no fault
is_sound : (ps ts : List Text) (ss : StatementsOf Text) → is_faulty ps ts ss ≡ false → IsSound ps ts ss
is_sound ps ts ss e =
    let p = or_parts (repeats [] (ps ++ ts) || has_duplicate_statements ss) (assigns_fixed_statements (known_names ps ts) ss || has_tall ss) e in
    let q = or_parts (repeats [] (ps ++ ts)) (has_duplicate_statements ss) p.0 in
    record { once = q.0; once_inside = q.1; assigned = (or_parts (assigns_fixed_statements (known_names ps ts) ss) (has_tall ss) p.1).0 }

-- and has none where it is no higher than 200
no_faults : (ps : List Text) (s : SequenceOf Text) → WellFormedSequence ps s → is_faulty ps s.temporaries s.statements ≡ false
no_faults ps s w =
    or_from (repeats [] (ps ++ s.temporaries) || has_duplicate_statements s.statements) (assigns_fixed_statements (known_names ps s.temporaries) s.statements || has_tall s.statements)
    (or_from (repeats [] (ps ++ s.temporaries)) (has_duplicate_statements s.statements) w.once w.once_inside)
    (or_from (assigns_fixed_statements (known_names ps s.temporaries) s.statements) (has_tall s.statements) w.assigned (none_tall s.statements w.height))

-- a do-it without a fault
pub sound_DoIt : (u : SpannedSequence) → doit_fault u ≡ None → IsSound [] (plain_sequence u).temporaries (plain_sequence u).statements
sound_DoIt u e = is_sound [] (names_of u.temporaries) (plain_statements u.statements) (sym (some_fault [] u) ∙ ap is_some e)

-- a method without a fault
pub sound_Method : (w : SpannedMethod) → method_fault w ≡ None → IsSound (plain_method w).arguments (plain_method w).body.temporaries (plain_method w).body.statements
sound_Method w e = is_sound (plain_method w).arguments (plain_method w).body.temporaries (plain_method w).body.statements (sym (some_method_fault w) ∙ ap is_some e)

-- a do-it whose plain tree is well formed has no fault
pub no_fault_DoIt : (u : SpannedSequence) → WellFormedDoIt (plain_sequence u) → doit_fault u ≡ None
no_fault_DoIt u w = none_from (doit_fault u) _ (some_fault [] u) (no_faults [] (plain_sequence u) w)

-- so it is with a method
pub no_fault_Method : (w : SpannedMethod) → WellFormedSequence (plain_method w).arguments (plain_method w).body → method_fault w ≡ None
no_fault_Method w g = none_from (method_fault w) _ (some_method_fault w) (no_faults (plain_method w).arguments (plain_method w).body g)
