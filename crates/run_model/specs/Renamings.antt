-- Renamings as finite maps, and what is seen of a run under one.
use Rattle.std.specs.Prelude.{◌≡◌, Bool, ◌&&◌, List, [], ◌∷◌, ◌++◌, map, flat_map, find, Option, option_map, unwrap_or}
use Rattle.std.proofs.Math.Bool.{beq}
use Rattle.rb_base.specs.Names.{text_eq}
use Rattle.run_model.specs.Values.{Name, Atom, nil_atom, true_atom, false_atom, int_atom, char_atom, string_atom, symbol_atom, class_atom, object_atom, array_atom, block_atom, transcript_atom, View, one, items, Event, shown, printed, RunError, does_not_understand, cannot_return, non_boolean, undeclared_name, not_assignable, unsupported, reflective, overflow, divide_by_zero, bad_index, bad_argument, wrong_arity, too_long, user_error, Outcome, done, failed, spent}
use Rattle.run_model.specs.Store.{same_pair}

-- a name that belongs to a class
abbrev pub OfClass : Type 0
OfClass = Name × Name

-- a method: its class, its side and its selector
abbrev pub MethodName : Type 0
MethodName = Name × Bool × Name

-- A renaming: finite maps on classes, selectors, class variables by definer, instance variables and class-instance variables by class, and temporaries by method; an entry for a class and a name on its chain counts whichever class of the chain defines the name.
pub record Renaming : Type 0 where
  pub classes : List (Name × Name)
  pub selectors : List (Name × Name)
  pub shared : List (OfClass × OfClass)
  pub instance : List (OfClass × Name)
  pub class_side : List (OfClass × Name)
  pub temporaries : List ((MethodName × Name) × Name)

-- whether two methods are the same
abbrev pub same_method : MethodName → MethodName → Bool
same_method m n = text_eq m.0 n.0 && (beq m.1 n.1 && text_eq m.2 n.2)

-- whether two temporaries are the same
abbrev pub same_temporary : MethodName × Name → MethodName × Name → Bool
same_temporary t u = same_method t.0 u.0 && text_eq t.1 u.1

-- what a map has for a key
abbrev pub entry : {K V : Type 0} → (K → K → Bool) → List (K × V) → K → Option V
entry same entries k = option_map (λ e. e.1) (find (λ e. same k e.0) entries)

-- what a map has for a key, and else what is said
abbrev pub mapped : {K V : Type 0} → (K → K → Bool) → List (K × V) → K → V → V
mapped same entries k other = unwrap_or (entry same entries k) other

-- the new name of a class
abbrev pub class_image : Renaming → Name → Name
class_image r c = mapped text_eq r.classes c c

-- the new selector
abbrev pub selector_image : Renaming → Name → Name
selector_image r s = mapped text_eq r.selectors s s

-- the new definer and name of a class variable
abbrev pub shared_image : Renaming → OfClass → OfClass
shared_image r k = mapped same_pair r.shared k (class_image r k.0, k.1)

-- the new class and name of an instance variable
abbrev pub instance_image : Renaming → OfClass → OfClass
instance_image r k = (class_image r k.0, mapped same_pair r.instance k k.1)

-- the new class and name of a class-instance variable
abbrev pub class_side_image : Renaming → OfClass → OfClass
class_side_image r k = (class_image r k.0, mapped same_pair r.class_side k k.1)

-- the new class and selector of a method
abbrev pub method_image : Renaming → MethodName → MethodName
method_image r m = (class_image r m.0, m.1, selector_image r m.2)

-- the new method and name of a temporary
abbrev pub temporary_image : Renaming → MethodName × Name → MethodName × Name
temporary_image r t = (method_image r t.0, mapped same_temporary r.temporaries t t.1)

-- nothing is renamed
abbrev pub no_renaming : Renaming
no_renaming = record { classes = []; selectors = []; shared = []; instance = []; class_side = []; temporaries = [] }

-- a renaming that renames all things at once as two do one after the other
pub record IsComposite (r q p : Renaming) : Type 0 where
  pub classes : (c : Name) → class_image p c ≡ class_image q (class_image r c)
  pub selectors : (s : Name) → selector_image p s ≡ selector_image q (selector_image r s)
  pub shared : (k : OfClass) → shared_image p k ≡ shared_image q (shared_image r k)
  pub instance : (k : OfClass) → instance_image p k ≡ instance_image q (instance_image r k)
  pub class_side : (k : OfClass) → class_side_image p k ≡ class_side_image q (class_side_image r k)
  pub temporaries : (t : MethodName × Name) → temporary_image p t ≡ temporary_image q (temporary_image r t)

-- the keys of a map
abbrev pub keys : {K V : Type 0} → List (K × V) → List K
keys entries = map (λ e. e.0) entries

-- an entry for each key
abbrev pub entries_for : {K V : Type 0} → (K → V) → List K → List (K × V)
entries_for f ks = map (λ k. (k, f k)) ks

-- the classes that a renaming may take to a class: itself, and each that has an entry
abbrev pub sources_of_class : Renaming → Name → List Name
sources_of_class r d = d ∷ keys r.classes

-- the selectors that a renaming may take to a selector
abbrev pub sources_of_selector : Renaming → Name → List Name
sources_of_selector r s = s ∷ keys r.selectors

-- the names that a renaming without entries for them may take to a name of a class
abbrev pub sources_of : Renaming → OfClass → List OfClass
sources_of r k = map (λ c. (c, k.1)) (sources_of_class r k.0)

-- the temporaries that a renaming without entries for them may take to a temporary
abbrev pub sources_of_temporary : Renaming → MethodName × Name → List (MethodName × Name)
sources_of_temporary r t =
    flat_map (λ c. map (λ s. ((c, t.0.1, s), t.1)) (sources_of_selector r t.0.2)) (sources_of_class r t.0.0)

-- the first renaming and then the second, as one of finite maps
abbrev pub composed : Renaming → Renaming → Renaming
composed r q = record {
  classes = entries_for (λ c. class_image q (class_image r c)) (keys r.classes ++ keys q.classes);
  selectors = entries_for (λ s. selector_image q (selector_image r s)) (keys r.selectors ++ keys q.selectors);
  shared = entries_for (λ k. shared_image q (shared_image r k)) (keys r.shared ++ flat_map (sources_of r) (keys q.shared));
  instance = entries_for (λ k. (instance_image q (instance_image r k)).1) (keys r.instance ++ flat_map (sources_of r) (keys q.instance));
  class_side = entries_for (λ k. (class_side_image q (class_side_image r k)).1) (keys r.class_side ++ flat_map (sources_of r) (keys q.class_side));
  temporaries =
      entries_for (λ t. (temporary_image q (temporary_image r t)).1) (keys r.temporaries ++ flat_map (sources_of_temporary r) (keys q.temporaries));
}

-- what is seen, with the new names of classes
abbrev pub renamed_atom : Renaming → Atom → Atom
renamed_atom r nil_atom = nil_atom
renamed_atom r true_atom = true_atom
renamed_atom r false_atom = false_atom
renamed_atom r (int_atom z) = int_atom z
renamed_atom r (char_atom b) = char_atom b
renamed_atom r (string_atom t) = string_atom t
renamed_atom r (symbol_atom t) = symbol_atom t
renamed_atom r (class_atom c) = class_atom (class_image r c)
renamed_atom r (object_atom c) = object_atom (class_image r c)
renamed_atom r (array_atom n) = array_atom n
renamed_atom r block_atom = block_atom
renamed_atom r transcript_atom = transcript_atom

-- a view with the new names of classes
abbrev pub renamed_view : Renaming → View → View
renamed_view r (one a) = one (renamed_atom r a)
renamed_view r (items atoms) = items (map (renamed_atom r) atoms)

-- an event with the new names of classes in its view
abbrev pub renamed_event : Renaming → Event → Event
renamed_event r (shown t) = shown t
renamed_event r (printed v) = printed (renamed_view r v)

-- the events of a run
abbrev pub renamed_events : Renaming → List Event → List Event
renamed_events r es = map (renamed_event r) es

-- an error with the new class and selector that was not understood, or the new class that was assigned; all else stays
abbrev pub renamed_error : Renaming → RunError → RunError
renamed_error r (does_not_understand c meta s) = does_not_understand (class_image r c) meta (selector_image r s)
renamed_error r cannot_return = cannot_return
renamed_error r non_boolean = non_boolean
renamed_error r (undeclared_name n) = undeclared_name n
renamed_error r (not_assignable n) = not_assignable (class_image r n)
renamed_error r unsupported = unsupported
renamed_error r reflective = reflective
renamed_error r overflow = overflow
renamed_error r divide_by_zero = divide_by_zero
renamed_error r bad_index = bad_index
renamed_error r (bad_argument n) = bad_argument n
renamed_error r (wrong_arity n) = wrong_arity n
renamed_error r too_long = too_long
renamed_error r (user_error t) = user_error t

-- how a run comes out, with new names
abbrev pub renamed_outcome : Renaming → Outcome → Outcome
renamed_outcome r (done v) = done (renamed_view r v)
renamed_outcome r (failed e) = failed (renamed_error r e)
renamed_outcome r spent = spent
